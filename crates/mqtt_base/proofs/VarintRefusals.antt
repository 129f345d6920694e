-- If no variable byte integer stands the reader says why, and each reason is told.
use Rattle.std.proofs.Common.{◌≡◌, ℕ, zero, suc, ◌+◌, ◌-◌, ◌*◌, ◌<◌, ◌≤◌, true, false, cond, ltb, eqb, List, [], ◌∷◌, ◌++◌, length, Result, Ok, Err, refl, ap, subst, ◌∙◌, arith, ◌⊎◌, inl, inr}
use Rattle.std.specs.List.{AllByRecursion}
use Rattle.std.proofs.lemmas.Bool.{ltb-false, le-ltb}
use Rattle.mqtt_base.specs.declared.fault.ReadFault.{ReadFault}
use Rattle.mqtt_base.specs.declared.fault.ReadFault.TheVariants.{Short, Overlong, BadText}
use Rattle.mqtt_base.specs.Reading.{◌>>=◌, groups_at, varint_at}
use Rattle.mqtt_base.specs.Refusals.{GoOn, VarIntRefused}
use Rattle.mqtt_base.proofs.Steps.{chosen, err_is, bind_err, zero_is, append_none}

AllHigh : List ℕ → Type 0
AllHigh front = AllByRecursion (λ b. 128 ≤ b) front

-- ---- what is refused

none_go_on : (bytes : List ℕ) → GoOn 0 bytes bytes
none_go_on bytes = record { front = []; parts = refl; count = refl; high = tt }

-- one more byte with the high bit
go_on : (n a : ℕ) (bytes rest : List ℕ) → 128 ≤ a → GoOn n bytes rest → GoOn (suc n) (a ∷ bytes) rest
go_on n a bytes rest le g = record {
  front = a ∷ g.front;
  parts = ap (λ (w : List ℕ). a ∷ w) g.parts;
  count = ap (λ (k : ℕ). suc k) g.count;
  high = (le, g.high);
}

zero_next : (a : ℕ) (rest : List ℕ) → eqb a 0 ≡ true → GoOn 0 (a ∷ rest) (0 ∷ rest)
zero_next a rest t = record { front = []; parts = ap (λ (k : ℕ). k ∷ rest) (zero_is a t); count = refl; high = tt }

-- why no groups stand behind a byte that has the high bit, if k of them may have it too
abbrev BehindRefused : ℕ → ReadFault → List ℕ → Type 0
BehindRefused k Short bytes = (n : ℕ) × (n < suc k) × GoOn n bytes []
BehindRefused k Overlong bytes = ((n : ℕ) × (rest : List ℕ) × (n < suc k) × GoOn n bytes (0 ∷ rest)) ⊎ ((rest : List ℕ) × GoOn (suc k) bytes rest)
BehindRefused k BadText bytes = ⊥

behind_more : (k a : ℕ) (f : ReadFault) (bytes : List ℕ) → 128 ≤ a → BehindRefused k f bytes → BehindRefused (suc k) f (a ∷ bytes)
behind_more k a Short bytes le h = (suc h.0, omega (arith, h.1), go_on h.0 a bytes [] le h.2)
behind_more k a Overlong bytes le (inl h) = inl (suc h.0, h.1, omega (arith, h.2), go_on h.0 a bytes (0 ∷ h.1) le h.3)
behind_more k a Overlong bytes le (inr h) = inr (h.0, go_on (suc k) a bytes h.0 le h.1)
behind_more k a BadText bytes le h = h

behind_first : (a : ℕ) (f : ReadFault) (bytes : List ℕ) → 128 ≤ a → BehindRefused 2 f bytes → VarIntRefused f (a ∷ bytes)
behind_first a Short bytes le h = (suc h.0, omega (arith, h.1), go_on h.0 a bytes [] le h.2)
behind_first a Overlong bytes le (inl h) = inl (suc h.0, h.1, omega arith, omega (arith, h.2), go_on h.0 a bytes (0 ∷ h.1) le h.3)
behind_first a Overlong bytes le (inr h) = inr (h.0, go_on 3 a bytes h.0 le h.1)
behind_first a BadText bytes le h = h

zero_refused : (k a : ℕ) (f : ReadFault) (bytes : List ℕ) → eqb a 0 ≡ true → Overlong ≡ f → BehindRefused k f (a ∷ bytes)
zero_refused k a f bytes t is = subst (λ (g : ReadFault). BehindRefused k g (a ∷ bytes)) is (inl (0, bytes, omega arith, zero_next a bytes t))

last_refused : (a : ℕ) (f : ReadFault) (bytes : List ℕ) → 128 ≤ a → Overlong ≡ f → BehindRefused 0 f (a ∷ bytes)
last_refused a f bytes le is = subst (λ (g : ReadFault). BehindRefused 0 g (a ∷ bytes)) is (inr (bytes, go_on 0 a bytes bytes le (none_go_on bytes)))

groups_refused : (k : ℕ) (f : ReadFault) (bytes : List ℕ) → groups_at k bytes ≡ Err f → BehindRefused k f bytes
unfolding groups_at
groups_refused k Short [] e = (0, omega arith, none_go_on [])
groups_refused k Overlong [] e = absurd cc
groups_refused k BadText [] e = absurd cc
groups_refused zero f (a ∷ bytes) e =
    elim (chosen (eqb a 0) (Err Overlong) (cond (ltb a 128) (Ok (a, bytes)) (Err Overlong)) (Err f) e) [
      | inl t ↦ zero_refused 0 a f bytes t.0 (err_is Overlong f t.1)
      | inr t ↦ elim (chosen (ltb a 128) (Ok (a, bytes)) (Err Overlong) (Err f) t.1) [
        | inl u ↦ let w = u.1 in absurd cc
        | inr u ↦ last_refused a f bytes (ltb-false a 128 u.0) (err_is Overlong f u.1)
      ]
    ]
groups_refused (suc k) f (a ∷ bytes) e =
    let more : Result (ℕ × List ℕ) ReadFault = groups_at k bytes >>= λ high. Ok (a - 128 + 128 * high.0, high.1) in
    elim (chosen (eqb a 0) (Err Overlong) (cond (ltb a 128) (Ok (a, bytes)) more) (Err f) e) [
      | inl t ↦ zero_refused (suc k) a f bytes t.0 (err_is Overlong f t.1)
      | inr t ↦ elim (chosen (ltb a 128) (Ok (a, bytes)) more (Err f) t.1) [
        | inl u ↦ let w = u.1 in absurd cc
        | inr u ↦ behind_more k a f bytes (ltb-false a 128 u.0) (groups_refused k f bytes (bind_err (groups_at k bytes) (λ high. (a - 128 + 128 * high.0, high.1)) f u.1))
      ]
    ]

-- what the reader refuses, and why
pub varint_refused : (f : ReadFault) (bytes : List ℕ) → varint_at bytes ≡ Err f → VarIntRefused f bytes
unfolding varint_at
varint_refused Short [] e = (0, omega arith, none_go_on [])
varint_refused Overlong [] e = absurd cc
varint_refused BadText [] e = absurd cc
varint_refused f (a ∷ bytes) e =
    let more : Result (ℕ × List ℕ) ReadFault = groups_at 2 bytes >>= λ high. Ok (a - 128 + 128 * high.0, high.1) in
    elim (chosen (ltb a 128) (Ok (a, bytes)) more (Err f) e) [
      | inl t ↦ let w = t.1 in absurd cc
      | inr t ↦ behind_first a f bytes (ltb-false a 128 t.0) (groups_refused 2 f bytes (bind_err (groups_at 2 bytes) (λ high. (a - 128 + 128 * high.0, high.1)) f t.1))
    ]

-- ---- each reason is told

err_again : (k a : ℕ) (f : ReadFault) (bytes : List ℕ) → 128 ≤ a → groups_at k bytes ≡ Err f → groups_at (suc k) (a ∷ bytes) ≡ Err f
unfolding groups_at
err_again k a f bytes le read =
    let t : eqb a 0 ≡ false = grind arith in
    rw (t, le-ltb a 128 le, read) refl

first_err : (a : ℕ) (f : ReadFault) (bytes : List ℕ) → 128 ≤ a → groups_at 2 bytes ≡ Err f → varint_at (a ∷ bytes) ≡ Err f
unfolding varint_at
first_err a f bytes le read = rw (le-ltb a 128 le, read) refl

short_again : (k : ℕ) (front : List ℕ) → length front < suc k → AllHigh front → groups_at k front ≡ Err Short
unfolding groups_at AllHigh
short_again k [] lt high = refl
short_again zero (a ∷ front) lt high = absurd (omega (arith, lt))
short_again (suc k) (a ∷ front) lt high = err_again k a Short front high.0 (short_again k front (omega (arith, lt)) high.1)

zero_again : (k : ℕ) (front rest : List ℕ) → length front < suc k → AllHigh front → groups_at k (front ++ 0 ∷ rest) ≡ Err Overlong
unfolding groups_at AllHigh
zero_again zero [] rest lt high = refl
zero_again (suc k) [] rest lt high = refl
zero_again zero (a ∷ front) rest lt high = absurd (omega (arith, lt))
zero_again (suc k) (a ∷ front) rest lt high = err_again k a Overlong (front ++ 0 ∷ rest) high.0 (zero_again k front rest (omega (arith, lt)) high.1)

past_again : (k : ℕ) (front rest : List ℕ) → length front ≡ suc k → AllHigh front → groups_at k (front ++ rest) ≡ Err Overlong
unfolding groups_at AllHigh
past_again k [] rest len high = absurd (omega (arith, len))
past_again zero (a ∷ []) rest len high =
    let le : 128 ≤ a = high.0 in
    let t : eqb a 0 ≡ false = grind arith in
    rw (t, le-ltb a 128 le) refl
past_again zero (a ∷ b ∷ front) rest len high = absurd (omega (arith, len))
past_again (suc k) (a ∷ front) rest len high = err_again k a Overlong (front ++ rest) high.0 (past_again k front rest (omega (arith, len)) high.1)

short_first : (front : List ℕ) → length front < 4 → AllHigh front → varint_at front ≡ Err Short
unfolding varint_at AllHigh
short_first [] lt high = refl
short_first (a ∷ front) lt high = first_err a Short front high.0 (short_again 2 front (omega (arith, lt)) high.1)

zero_first : (front rest : List ℕ) → 0 < length front → length front < 4 → AllHigh front → varint_at (front ++ 0 ∷ rest) ≡ Err Overlong
unfolding AllHigh
zero_first [] rest some lt high = absurd (omega (arith, some))
zero_first (a ∷ front) rest some lt high = first_err a Overlong (front ++ 0 ∷ rest) high.0 (zero_again 2 front rest (omega (arith, lt)) high.1)

past_first : (front rest : List ℕ) → length front ≡ 4 → AllHigh front → varint_at (front ++ rest) ≡ Err Overlong
unfolding AllHigh
past_first [] rest len high = absurd (omega (arith, len))
past_first (a ∷ front) rest len high = first_err a Overlong (front ++ rest) high.0 (past_again 2 front rest (omega (arith, len)) high.1)

-- what is due is refused
pub varint_due : (f : ReadFault) (bytes : List ℕ) → VarIntRefused f bytes → varint_at bytes ≡ Err f
unfolding AllHigh
varint_due Short bytes h =
    let g = h.2 in
    ap varint_at (g.parts ∙ append_none g.front) ∙ short_first g.front (omega (arith, g.count, h.1)) g.high
varint_due Overlong bytes (inl h) =
    let g = h.4 in
    ap varint_at g.parts ∙ zero_first g.front h.1 (omega (arith, g.count, h.2)) (omega (arith, g.count, h.3)) g.high
varint_due Overlong bytes (inr h) =
    let g = h.1 in
    ap varint_at g.parts ∙ past_first g.front h.0 g.count g.high
varint_due BadText bytes h = absurd h
