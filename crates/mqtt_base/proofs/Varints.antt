-- A varint that is read is the varint that was written, and what was written is read again.
use Rattle.std.proofs.Common.{◌≡◌, ℕ, zero, suc, ◌+◌, ◌-◌, ◌*◌, ◌/◌, ◌%◌, ◌^◌, ◌<◌, ◌≤◌, true, false, cond, ltb, eqb, List, [], ◌∷◌, ◌++◌, length, take, drop, IfOk, Result, Ok, Err, refl, ap, subst, arith, inl, inr}
use Rattle.std.proofs.lemmas.Bool.{cases_lt, ltb-false, ltb-true, le-ltb, lt-ltb}
use Rattle.std.proofs.lemmas.List.{length-take}
use Rattle.mqtt_base.specs.declared.fault.ReadFault.{ReadFault}
use Rattle.mqtt_base.specs.declared.fault.ReadFault.TheVariants.{Overlong}
use Rattle.mqtt_base.specs.Values.{sevens, IsGroups, IsVarInt, varint}
use Rattle.mqtt_base.specs.Reading.{◌>>=◌, Reads, groups_at, varint_at}
use Rattle.mqtt_base.proofs.Steps.{IsBytes, IsBytes-rest, bind_ok, unless_ok, when_ok, chosen, ok_is, Takes, front_is}

-- ---- what was written is read again

last_again : (k b : ℕ) (rest : List ℕ) → 0 < b → b < 128 → groups_at k (b ∷ rest) ≡ Ok (b, rest)
unfolding groups_at
last_again zero b rest pos lt =
    let t : eqb b 0 ≡ false = grind arith in
    rw (t, lt-ltb b 128 lt) refl
last_again (suc k) b rest pos lt =
    let t : eqb b 0 ≡ false = grind arith in
    rw (t, lt-ltb b 128 lt) refl

more_again : (k a high : ℕ) (bytes rest : List ℕ) → 128 ≤ a → groups_at k bytes ≡ Ok (high, rest) → groups_at (suc k) (a ∷ bytes) ≡ Ok (a - 128 + 128 * high, rest)
unfolding groups_at
more_again k a high bytes rest le read =
    let t : eqb a 0 ≡ false = grind arith in
    rw (t, le-ltb a 128 le, read) refl

first_again : (a high : ℕ) (bytes rest : List ℕ) → 128 ≤ a → groups_at 2 bytes ≡ Ok (high, rest) → varint_at (a ∷ bytes) ≡ Ok (a - 128 + 128 * high, rest)
unfolding varint_at
first_again a high bytes rest le read = rw (le-ltb a 128 le, read) refl

one_again : (a : ℕ) (rest : List ℕ) → a < 128 → varint_at (a ∷ rest) ≡ Ok (a, rest)
unfolding varint_at
one_again a rest lt = rw (lt-ltb a 128 lt) refl

at : {rest : List ℕ} {m n : ℕ} (bytes : List ℕ) → m ≡ n → varint_at bytes ≡ Ok (m, rest) → varint_at bytes ≡ Ok (n, rest)
at {rest} bytes e h = subst (λ (k : ℕ). varint_at bytes ≡ Ok (k, rest)) e h

-- a Variable Byte Integer that was written is read back
pub varint_again : (n : ℕ) (v rest : List ℕ) → IsVarInt n v → varint_at (v ++ rest) ≡ Ok (n, rest)
varint_again n [] rest h = absurd h.1
varint_again n (a ∷ []) rest h = at (a ∷ rest) (omega (arith, h.2, h.1)) (one_again a rest h.1)
varint_again n (a ∷ b ∷ []) rest h =
    let g = h.1 in
    at (a ∷ b ∷ rest) (omega (arith, h.2, g.0, g.1, g.2, g.3))
    (first_again a b (b ∷ rest) rest g.0 (last_again 2 b rest g.2 g.3))
varint_again n (a ∷ b ∷ c ∷ []) rest h =
    let g = h.1 in
    let g2 = g.2 in
    at (a ∷ b ∷ c ∷ rest) (omega (arith, h.2, g.0, g.1, g2.0, g2.1, g2.2, g2.3))
    (first_again a (b - 128 + 128 * c) (b ∷ c ∷ rest) rest g.0 (more_again 1 b c (c ∷ rest) rest g2.0 (last_again 1 c rest g2.2 g2.3)))
varint_again n (a ∷ b ∷ c ∷ d ∷ []) rest h =
    let g = h.1 in
    let g2 = g.2 in
    let g3 = g2.2 in
    at (a ∷ b ∷ c ∷ d ∷ rest) (omega (arith, h.2, g.0, g.1, g2.0, g2.1, g3.0, g3.1, g3.2, g3.3))
    (first_again a (b - 128 + 128 * (c - 128 + 128 * d)) (b ∷ c ∷ d ∷ rest) rest g.0
    (more_again 1 b (c - 128 + 128 * d) (c ∷ d ∷ rest) rest g2.0 (more_again 0 c d (d ∷ rest) rest g3.0 (last_again 0 d rest g3.2 g3.3))))
varint_again n (a ∷ b ∷ c ∷ d ∷ e ∷ v) rest h = absurd (omega (arith, h.0))

-- ---- what is read was written

-- the groups v behind a byte that has the high bit
record Behind (bytes v rest : List ℕ) (k n : ℕ) : Type 0 where
  parts : Takes bytes v rest
  groups : IsGroups (128 ∷ v)
  size : length v ≤ suc k
  value : n ≡ sevens v

behind_last : (a : ℕ) (bytes : List ℕ) (k : ℕ) → IsBytes (a ∷ bytes) → eqb a 0 ≡ false → ltb a 128 ≡ true → Behind (a ∷ bytes) (a ∷ []) bytes k a
behind_last a bytes k fits z t =
    let lt : a < 128 = ltb-true a 128 t in
    let pos : 0 < a = grind arith in
    record { parts = record { parts = refl; rest_fits = IsBytes-rest a bytes fits }; groups = (omega arith, omega arith, pos, lt); size = omega arith; value = omega arith }

groups_more : (a : ℕ) (v : List ℕ) → 128 ≤ a → a < 256 → IsGroups (128 ∷ v) → IsGroups (128 ∷ a ∷ v)
groups_more a [] le lt g = absurd (omega (arith, g))
groups_more a (b ∷ []) le lt g = (omega arith, omega arith, (le, lt, g.2, g.3))
groups_more a (b ∷ c ∷ v) le lt g = (omega arith, omega arith, (le, lt, g.2))

groups_first : (a : ℕ) (v : List ℕ) → 128 ≤ a → a < 256 → IsGroups (128 ∷ v) → IsGroups (a ∷ v)
groups_first a [] le lt g = absurd (omega (arith, g))
groups_first a (b ∷ []) le lt g = (le, lt, g.2, g.3)
groups_first a (b ∷ c ∷ v) le lt g = (le, lt, g.2)

behind_more : (a : ℕ) (bytes v rest : List ℕ) (k high : ℕ) → IsBytes (a ∷ bytes) → ltb a 128 ≡ false → Behind bytes v rest k high → Behind (a ∷ bytes) (a ∷ v) rest (suc k) (a - 128 + 128 * high)
behind_more a bytes v rest k high fits t b =
    let le : 128 ≤ a = ltb-false a 128 t in
    record {
      parts = record { parts = ap (λ (w : List ℕ). a ∷ w) b.parts.parts; rest_fits = b.parts.rest_fits };
      groups = groups_more a v le (fits 0) b.groups;
      size = omega (arith, b.size);
      value = omega (arith, b.value, fits 0);
    }

BehindSome : List ℕ → ℕ → ℕ × List ℕ → Type 0
BehindSome bytes k x = (v : List ℕ) × Behind bytes v x.1 k x.0

groups_take : (k : ℕ) (bytes : List ℕ) (x : ℕ × List ℕ) → IsBytes bytes → groups_at k bytes ≡ Ok x → (v : List ℕ) × Behind bytes v x.1 k x.0
unfolding groups_at
groups_take k [] x fits e = absurd cc
groups_take zero (a ∷ bytes) x fits e =
    let z = unless_ok (eqb a 0) Overlong (cond (ltb a 128) (Ok (a, bytes)) (Err Overlong)) x e in
    let t = when_ok (ltb a 128) Overlong (Ok (a, bytes)) x z.1 in
    subst (λ (y : ℕ × List ℕ). (v : List ℕ) × Behind (a ∷ bytes) v y.1 0 y.0) (ok_is (a, bytes) x t.1) (a ∷ [], behind_last a bytes 0 fits z.0 t.0)
groups_take (suc k) (a ∷ bytes) x fits e =
    let z = unless_ok (eqb a 0) Overlong (cond (ltb a 128) (Ok (a, bytes)) (groups_at k bytes >>= λ high. Ok (a - 128 + 128 * high.0, high.1))) x e in
    elim (chosen (ltb a 128) (Ok (a, bytes)) (groups_at k bytes >>= λ high. Ok (a - 128 + 128 * high.0, high.1)) (Ok x) z.1) [
      | inl t ↦ subst (λ (y : ℕ × List ℕ). (v : List ℕ) × Behind (a ∷ bytes) v y.1 (suc k) y.0) (ok_is (a, bytes) x t.1) (a ∷ [], behind_last a bytes (suc k) fits z.0 t.0)
      | inr t ↦
          let b = bind_ok (groups_at k bytes) (λ high. Ok (a - 128 + 128 * high.0, high.1)) x t.1 in
          let w = groups_take k bytes b.0 (IsBytes-rest a bytes fits) b.1 in
          subst (λ (y : ℕ × List ℕ). (v : List ℕ) × Behind (a ∷ bytes) v y.1 (suc k) y.0) (ok_is (a - 128 + 128 * b.0.0, b.0.1) x b.2) (a ∷ w.0, behind_more a bytes w.0 b.0.1 k b.0.0 fits t.0 w.1)
    ]

-- one that was read is the bytes that were taken
pub varint_takes : (bytes : List ℕ) (x : ℕ × List ℕ) → IsBytes bytes → varint_at bytes ≡ Ok x → (v : List ℕ) × Takes bytes v x.1 × IsVarInt x.0 v
unfolding varint_at
varint_takes [] x fits e = absurd cc
varint_takes (a ∷ bytes) x fits e =
    elim (chosen (ltb a 128) (Ok (a, bytes)) (groups_at 2 bytes >>= λ high. Ok (a - 128 + 128 * high.0, high.1)) (Ok x) e) [
      | inl t ↦
          let lt : a < 128 = ltb-true a 128 t.0 in
          subst (λ (y : ℕ × List ℕ). (v : List ℕ) × Takes (a ∷ bytes) v y.1 × IsVarInt y.0 v) (ok_is (a, bytes) x t.1)
          (a ∷ [], record { parts = refl; rest_fits = IsBytes-rest a bytes fits }, (omega arith, lt, omega arith))
      | inr t ↦
          let b = bind_ok (groups_at 2 bytes) (λ high. Ok (a - 128 + 128 * high.0, high.1)) x t.1 in
          let w = groups_take 2 bytes b.0 (IsBytes-rest a bytes fits) b.1 in
          let m = behind_more a bytes w.0 b.0.1 2 b.0.0 fits t.0 w.1 in
          subst (λ (y : ℕ × List ℕ). (v : List ℕ) × Takes (a ∷ bytes) v y.1 × IsVarInt y.0 v) (ok_is (a - 128 + 128 * b.0.0, b.0.1) x b.2)
          (a ∷ w.0, m.parts, (m.size, groups_first a w.0 (ltb-false a 128 t.0) (fits 0) w.1.groups, m.value))
    ]

-- ---- the one spelling

-- the writer writes a Variable Byte Integer
pub varint_is : (n : ℕ) → n < 2 ^ 28 → IsVarInt n (varint n)
unfolding varint
varint_is n lt =
    elim (cases_lt n (2 ^ 7)) [
      | inl a ↦ rw (lt-ltb n (2 ^ 7) a) (omega arith, omega arith, omega arith)
      | inr a ↦ elim (cases_lt n (2 ^ 14)) [
        | inl b ↦ rw (le-ltb n (2 ^ 7) a, lt-ltb n (2 ^ 14) b) (omega arith, (omega arith, omega arith, omega arith, omega arith), omega arith)
        | inr b ↦ elim (cases_lt n (2 ^ 21)) [
          | inl c ↦ rw (le-ltb n (2 ^ 7) a, le-ltb n (2 ^ 14) b, lt-ltb n (2 ^ 21) c) (omega arith, (omega arith, omega arith, (omega arith, omega arith, omega arith, omega arith)), omega arith)
          | inr c ↦ rw (le-ltb n (2 ^ 7) a, le-ltb n (2 ^ 14) b, le-ltb n (2 ^ 21) c) (omega arith, (omega arith, omega arith, (omega arith, omega arith, (omega arith, omega arith, omega arith, omega arith))), omega arith)
        ]
      ]
    ]

-- and a Variable Byte Integer is what the writer writes
pub varint_only : (n : ℕ) (v : List ℕ) → IsVarInt n v → (v ≡ varint n) × (n < 2 ^ 28)
unfolding varint
varint_only n [] h = absurd h.1
varint_only n (a ∷ []) h =
    let lt : n < 128 = omega (arith, h.1, h.2) in
    let e : a ≡ n = omega (arith, h.1, h.2) in
    (rw (lt-ltb n (2 ^ 7) lt, e) refl, omega arith)
varint_only n (a ∷ b ∷ []) h =
    let g = h.1 in
    let e : n ≡ a - 128 + 128 * b = omega (arith, h.2, g.0, g.1, g.2, g.3) in
    let lo : n % 128 + 128 ≡ a = omega (arith, e, g.0, g.1, g.2, g.3) in
    let hi : n / 128 ≡ b = omega (arith, e, g.0, g.1, g.2, g.3) in
    let above : 2 ^ 7 ≤ n = omega (arith, e, g.0, g.2) in
    let below : n < 2 ^ 14 = omega (arith, e, g.1, g.3) in
    (rw (le-ltb n (2 ^ 7) above, lt-ltb n (2 ^ 14) below, lo, hi) refl, omega arith)
varint_only n (a ∷ b ∷ c ∷ []) h =
    let g = h.1 in
    let g2 = g.2 in
    let m = b - 128 + 128 * c in
    let e : n ≡ a - 128 + 128 * m = omega (arith, h.2, g.0, g.1, g2.0, g2.1, g2.2, g2.3) in
    let lo : n % 128 + 128 ≡ a = omega (arith, e, g.0, g.1) in
    let hi : n / 128 ≡ m = omega (arith, e, g.0, g.1) in
    let lo2 : m % 128 + 128 ≡ b = omega (arith, g2.0, g2.1) in
    let hi2 : m / 128 ≡ c = omega (arith, g2.0, g2.1) in
    let above : 2 ^ 14 ≤ n = omega (arith, e, g2.2) in
    let below : n < 2 ^ 21 = omega (arith, e, g.1, g2.1, g2.3) in
    (rw (le-ltb n (2 ^ 7) (omega arith), le-ltb n (2 ^ 14) above, lt-ltb n (2 ^ 21) below, lo, hi, lo2, hi2) refl, omega arith)
varint_only n (a ∷ b ∷ c ∷ d ∷ []) h =
    let g = h.1 in
    let g2 = g.2 in
    let g3 = g2.2 in
    let k = c - 128 + 128 * d in
    let m = b - 128 + 128 * k in
    let e : n ≡ a - 128 + 128 * m = omega (arith, h.2, g.0, g.1, g2.0, g2.1, g3.0, g3.1, g3.2, g3.3) in
    let lo : n % 128 + 128 ≡ a = omega (arith, e, g.0, g.1) in
    let hi : n / 128 ≡ m = omega (arith, e, g.0, g.1) in
    let lo2 : m % 128 + 128 ≡ b = omega (arith, g2.0, g2.1) in
    let hi2 : m / 128 ≡ k = omega (arith, g2.0, g2.1) in
    let lo3 : k % 128 + 128 ≡ c = omega (arith, g3.0, g3.1) in
    let hi3 : k / 128 ≡ d = omega (arith, g3.0, g3.1) in
    let above : 2 ^ 21 ≤ n = omega (arith, e, g3.2) in
    let below : n < 2 ^ 28 = omega (arith, e, g.1, g2.1, g3.1, g3.3) in
    (rw (le-ltb n (2 ^ 7) (omega arith), le-ltb n (2 ^ 14) (omega arith), le-ltb n (2 ^ 21) above, lo, hi, lo2, hi2, lo3, hi3) refl, below)
varint_only n (a ∷ b ∷ c ∷ d ∷ e ∷ v) h = absurd (omega (arith, h.0))

-- what a function that reads so many bytes has read
pub varint_found : (bytes : List ℕ) (r : Result (ℕ × ℕ) ReadFault) → IsBytes bytes → Reads (λ n. n) r bytes (varint_at bytes) → IfOk r (λ x. IsVarInt x.0 (take x.1 bytes))
varint_found bytes (Ok x) fits read =
    let t = varint_takes bytes (x.0, drop x.1 bytes) fits read.1 in
    subst (λ (v : List ℕ). IsVarInt x.0 v) (front_is bytes t.0 x.1 read.0 t.1.parts) t.2
varint_found bytes (Err e) fits read = tt

-- one that was read is below 2^28
pub varint_below : (bytes : List ℕ) (r : Result (ℕ × ℕ) ReadFault) → IsBytes bytes → Reads (λ n. n) r bytes (varint_at bytes) → IfOk r (λ x. x.0 < 2 ^ 28)
varint_below bytes (Ok x) fits read = (varint_only x.0 (take x.1 bytes) (varint_found bytes (Ok x) fits read)).1
varint_below bytes (Err e) fits read = tt

-- it took at most four bytes
pub varint_few : (bytes : List ℕ) (r : Result (ℕ × ℕ) ReadFault) → IsBytes bytes → Reads (λ n. n) r bytes (varint_at bytes) → IfOk r (λ x. x.1 ≤ 4)
varint_few bytes (Ok x) fits read =
    let is = varint_found bytes (Ok x) fits read in
    omega (arith, is.0, read.0, length-take x.1 bytes)
varint_few bytes (Err e) fits read = tt

-- the same by the one spelling
pub varint_reads : (bytes : List ℕ) (x : ℕ × List ℕ) → IsBytes bytes → varint_at bytes ≡ Ok x → Takes bytes (varint x.0) x.1 × (x.0 < 2 ^ 28)
varint_reads bytes x fits e =
    let t = varint_takes bytes x fits e in
    let o = varint_only x.0 t.0 t.2 in
    (subst (λ (v : List ℕ). Takes bytes v x.1) o.0 t.1, o.1)

-- what the writer wrote is read back
pub varint_rereads : (n : ℕ) (rest : List ℕ) → n < 2 ^ 28 → varint_at (varint n ++ rest) ≡ Ok (n, rest)
varint_rereads n rest lt = varint_again n (varint n) rest (varint_is n lt)

-- ---- a greater number has no shorter spelling

-- numbers below 2^7 take one byte
pub size_first : (n : ℕ) → n < 2 ^ 7 → length (varint n) ≡ 1
unfolding varint
size_first n a = rw (lt-ltb n (2 ^ 7) a) refl

-- below 2^14 two
pub size_second : (n : ℕ) → 2 ^ 7 ≤ n → n < 2 ^ 14 → length (varint n) ≡ 2
unfolding varint
size_second n a b = rw (le-ltb n (2 ^ 7) a, lt-ltb n (2 ^ 14) b) refl

-- below 2^21 three
pub size_third : (n : ℕ) → 2 ^ 14 ≤ n → n < 2 ^ 21 → length (varint n) ≡ 3
unfolding varint
size_third n b c =
    let a : 2 ^ 7 ≤ n = omega (arith, b) in
    rw (le-ltb n (2 ^ 7) a, le-ltb n (2 ^ 14) b, lt-ltb n (2 ^ 21) c) refl

-- the others four
pub size_fourth : (n : ℕ) → 2 ^ 21 ≤ n → length (varint n) ≡ 4
unfolding varint
size_fourth n c =
    let a : 2 ^ 7 ≤ n = omega (arith, c) in
    let b : 2 ^ 14 ≤ n = omega (arith, c) in
    rw (le-ltb n (2 ^ 7) a, le-ltb n (2 ^ 14) b, le-ltb n (2 ^ 21) c) refl

size_at_most_1 : (n : ℕ) → n < 2 ^ 7 → length (varint n) ≤ 1
size_at_most_1 n a = omega (arith, size_first n a)

size_at_most_2 : (n : ℕ) → n < 2 ^ 14 → length (varint n) ≤ 2
size_at_most_2 n b =
    elim (cases_lt n (2 ^ 7)) [
      | inl a ↦ omega (arith, size_first n a)
      | inr a ↦ omega (arith, size_second n a b)
    ]

size_at_most_3 : (n : ℕ) → n < 2 ^ 21 → length (varint n) ≤ 3
size_at_most_3 n c =
    elim (cases_lt n (2 ^ 14)) [
      | inl b ↦ omega (arith, size_at_most_2 n b)
      | inr b ↦ omega (arith, size_third n b c)
    ]

size_at_most_4 : (n : ℕ) → length (varint n) ≤ 4
size_at_most_4 n =
    elim (cases_lt n (2 ^ 21)) [
      | inl c ↦ omega (arith, size_at_most_3 n c)
      | inr c ↦ omega (arith, size_fourth n c)
    ]

size_at_least_3 : (n : ℕ) → 2 ^ 14 ≤ n → 3 ≤ length (varint n)
unfolding varint
size_at_least_3 n b =
    let a : 2 ^ 7 ≤ n = omega (arith, b) in
    elim (cases_lt n (2 ^ 21)) [
      | inl c ↦ rw (le-ltb n (2 ^ 7) a, le-ltb n (2 ^ 14) b, lt-ltb n (2 ^ 21) c) (omega arith)
      | inr c ↦ omega (arith, size_fourth n c)
    ]

size_at_least_2 : (n : ℕ) → 2 ^ 7 ≤ n → 2 ≤ length (varint n)
unfolding varint
size_at_least_2 n a =
    elim (cases_lt n (2 ^ 14)) [
      | inl b ↦ rw (le-ltb n (2 ^ 7) a, lt-ltb n (2 ^ 14) b) (omega arith)
      | inr b ↦ omega (arith, size_at_least_3 n b)
    ]

-- each takes at least a byte
pub varint_size : (n : ℕ) → 1 ≤ length (varint n)
unfolding varint
varint_size n =
    elim (cases_lt n (2 ^ 7)) [
      | inl a ↦ rw (lt-ltb n (2 ^ 7) a) (omega arith)
      | inr a ↦ omega (arith, size_at_least_2 n a)
    ]

-- a greater number takes no fewer bytes
pub varint_sizes : (m n : ℕ) → m ≤ n → length (varint m) ≤ length (varint n)
varint_sizes m n le =
    elim (cases_lt n (2 ^ 7)) [
      | inl a ↦ omega (arith, size_at_most_1 m (omega (arith, le, a)), varint_size n)
      | inr a ↦ elim (cases_lt n (2 ^ 14)) [
        | inl b ↦ omega (arith, size_at_most_2 m (omega (arith, le, b)), size_at_least_2 n a)
        | inr b ↦ elim (cases_lt n (2 ^ 21)) [
          | inl c ↦ omega (arith, size_at_most_3 m (omega (arith, le, c)), size_at_least_3 n b)
          | inr c ↦ omega (arith, size_at_most_4 m, size_fourth n c)
        ]
      ]
    ]
