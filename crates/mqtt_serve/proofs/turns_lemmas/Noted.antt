-- How connections are noted: the numbers of their lines, and which of them are awake.
use Rattle.std.proofs.Common.{◌≡◌, ◌≢◌, ◌⊎◌, ℕ, zero, suc, ◌+◌, ◌-◌, ◌<◌, ◌≤◌, true, false, cond, nat_eq, List, [], ◌∷◌, ◌++◌, length, Option, Some, None, refl, sym, ap, subst, ◌∙◌, arith, inl, inr, slice_set, get_or, take, drop, append-nil}
use Rattle.std.proofs.lemmas.Option.{slice_get_read}
use Rattle.std.specs.Prelude.{slice_get, slice_index}
use Rattle.memchr.specs.Find.{IsFirstByte, Nowhere, Passes, is_byte}
use Rattle.mqtt_link.specs.Links.{and_then}
use Rattle.mqtt_serve.specs.declared.turns.connection.Fate.{Fate}
use Rattle.mqtt_serve.specs.declared.turns.connection.Fate.TheVariants.{Stands, Lost, Closed}
use Rattle.mqtt_serve.specs.declared.turns.connections.TheConstants.{AWAKE}
use Rattle.mqtt_serve.specs.turns.Related.{RelatedAt}
use Rattle.mqtt_serve.specs.turns.Resting.{AreNoted, IsNextAwake, RestBetween, Rests}
use Rattle.mqtt_serve.specs.turns.Wires.{Leaves, Wire, letting, lost, lost_if, may_send}

apart : (k place : ℕ) → (k ≡ place) ⊎ (k ≢ place)
apart k place = grind (arith)

-- ---- a list of which one member is another

module _ {A : Type 0} where
  set_here : (xs : List A) (place : ℕ) (x : A) → place < length xs → slice_get (slice_set xs place x) place ≡ Some x
  set_here [] place x less = absurd (omega (arith, less))
  set_here (y ∷ xs) zero x less = refl
  set_here (y ∷ xs) (suc place) x less = set_here xs place x (omega (arith, less))

  set_else : (xs : List A) (place k : ℕ) (x : A) → k ≢ place → slice_get (slice_set xs place x) k ≡ slice_get xs k
  set_else [] place k x apart = refl
  set_else (y ∷ xs) zero zero x apart = absurd (apart refl)
  set_else (y ∷ xs) zero (suc k) x apart = refl
  set_else (y ∷ xs) (suc place) zero x apart = refl
  set_else (y ∷ xs) (suc place) (suc k) x apart = set_else xs place k x (λ same. apart (ap suc same))

  set_len : (xs : List A) (place : ℕ) (x : A) → length (slice_set xs place x) ≡ length xs
  set_len [] place x = refl
  set_len (y ∷ xs) zero x = refl
  set_len (y ∷ xs) (suc place) x = ap suc (set_len xs place x)

  -- what is there is one
  pub one_there : (x y : A) (o : Option A) → o ≡ Some x → o ≡ Some y → x ≡ y
  one_there x y None e is = absurd cc
  one_there x y (Some z) e is = let first : z ≡ x = cc in let second : z ≡ y = cc in sym first ∙ second

  within : (k : ℕ) (x : A) (xs : List A) → slice_get xs k ≡ Some x → k < length xs
  within k x [] is = absurd cc
  within zero x (y ∷ xs) is = omega arith
  within (suc k) x (y ∷ xs) is = let less = within k x xs is in omega (arith, less)

  -- what is read at a place is there
  pub read_there : (xs : List A) (place : ℕ) (x : A) → place < length xs → x ≡ get_or xs place x → slice_get xs place ≡ Some x
  read_there xs place x less is = slice_get_read xs (length xs) place x refl less is

  push_before : (xs zs : List A) (k : ℕ) (y : A) → slice_get xs k ≡ Some y → slice_get (xs ++ zs) k ≡ Some y
  push_before [] zs k y is = absurd cc
  push_before (x ∷ xs) zs zero y is = is
  push_before (x ∷ xs) zs (suc k) y is = push_before xs zs k y is

  push_last : (xs : List A) (x : A) → slice_get (xs ++ x ∷ []) (length xs) ≡ Some x
  push_last [] x = refl
  push_last (y ∷ xs) x = push_last xs x

  -- one that is there was there, or is the last
  pushed : (xs : List A) (x : A) (k : ℕ) (y : A) → slice_get (xs ++ x ∷ []) k ≡ Some y → (slice_get xs k ≡ Some y) ⊎ ((k ≡ length xs) × (x ≡ y))
  pushed [] x zero y is = inr (refl, cc)
  pushed [] x (suc k) y is = absurd cc
  pushed (z ∷ xs) x zero y is = inl is
  pushed (z ∷ xs) x (suc k) y is = elim (pushed xs x k y is) [
    | inl was ↦ inl was
    | inr last ↦ inr (ap suc last.0, last.1)
  ]

  push_len : (xs : List A) (x : A) → length (xs ++ x ∷ []) ≡ length xs + 1
  push_len [] x = omega arith
  push_len (y ∷ xs) x = let less = push_len xs x in omega (arith, less)

byte_before : (bytes : List ℕ) (k byte : ℕ) → k < length bytes → slice_index (bytes ++ byte ∷ []) k ≡ slice_index bytes k
byte_before [] k byte less = absurd (omega (arith, less))
byte_before (b ∷ bytes) zero byte less = refl
byte_before (b ∷ bytes) (suc k) byte less = byte_before bytes k byte (omega (arith, less))

byte_last : (bytes : List ℕ) (byte : ℕ) → slice_index (bytes ++ byte ∷ []) (length bytes) ≡ byte
byte_last [] byte = refl
byte_last (b ∷ bytes) byte = byte_last bytes byte

byte_here : (bytes : List ℕ) (place byte : ℕ) → place < length bytes → slice_index (slice_set bytes place byte) place ≡ byte
byte_here [] place byte less = absurd (omega (arith, less))
byte_here (b ∷ bytes) zero byte less = refl
byte_here (b ∷ bytes) (suc place) byte less = byte_here bytes place byte (omega (arith, less))

byte_else : (bytes : List ℕ) (place k byte : ℕ) → k ≢ place → slice_index (slice_set bytes place byte) k ≡ slice_index bytes k
byte_else [] place k byte apart = refl
byte_else (b ∷ bytes) zero zero byte apart = absurd (apart refl)
byte_else (b ∷ bytes) zero (suc k) byte apart = refl
byte_else (b ∷ bytes) (suc place) zero byte apart = refl
byte_else (b ∷ bytes) (suc place) (suc k) byte apart = byte_else bytes place k byte (λ same. apart (ap suc same))

-- what is read where a member was just set is that member
pub read_set : (ws : List Wire) (place : ℕ) (v w : Wire) → place < length ws → w ≡ get_or (slice_set ws place v) place w → v ≡ w
read_set ws place v w less is =
    let len = set_len ws place v in
    one_there v w (slice_get (slice_set ws place v) place) (set_here ws place v less) (read_there (slice_set ws place v) place w (omega (arith, less, len)) is)

-- ---- a connection changes

-- the connection at a place is another, of the same number, and is noted by a byte, by which it rests or is awake
pub noted_by : (numbers awake : List ℕ) (ws : List Wire) (place byte : ℕ) (w v : Wire) → slice_get ws place ≡ Some w → v.number ≡ w.number
    → (¬ (is_byte AWAKE byte ≡ true) → Rests v) → AreNoted numbers awake ws → AreNoted numbers (slice_set awake place byte) (slice_set ws place v)
noted_by numbers awake ws place byte w v here number rests noted = record {
  as_many = (noted.as_many.0 ∙ sym (set_len ws place v), set_len awake place byte ∙ noted.as_many.1 ∙ sym (set_len ws place v));
  numbered = numbered;
  resting = resting;
}
  where
    less : place < length ws
    less = within place w ws here

    less_too : place < length awake
    less_too = let len = noted.as_many.1 in omega (arith, less, len)

    numbered : (k : ℕ) (x : Wire) → slice_get (slice_set ws place v) k ≡ Some x → slice_get numbers k ≡ Some x.number
    numbered k x is = elim (apart k place) [
      | inl same ↦
          let its : v ≡ x = one_there v x (slice_get (slice_set ws place v) place) (set_here ws place v less) (subst (λ n. slice_get (slice_set ws place v) n ≡ Some x) same is) in
          subst (λ n. slice_get numbers n ≡ Some x.number) (sym same)
          (noted.numbered place w here ∙ ap (λ n. Some n) (sym number ∙ ap (λ (z : Wire). z.number) its))
      | inr other ↦ noted.numbered k x (sym (set_else ws place k v other) ∙ is)
    ]

    resting : (k : ℕ) (x : Wire) → slice_get (slice_set ws place v) k ≡ Some x → ¬ Passes (is_byte AWAKE) (slice_set awake place byte) k → Rests x
    resting k x is sleeps = elim (apart k place) [
      | inl same ↦
          let its : v ≡ x = one_there v x (slice_get (slice_set ws place v) place) (set_here ws place v less) (subst (λ n. slice_get (slice_set ws place v) n ≡ Some x) same is) in
          subst Rests its (rests (λ is_awake. sleeps (subst (Passes (is_byte AWAKE) (slice_set awake place byte)) (sym same)
          (subst (λ b. is_byte AWAKE b ≡ true) (sym (byte_here awake place byte less_too)) is_awake))))
      | inr other ↦ noted.resting k x (sym (set_else ws place k v other) ∙ is)
          (λ is_awake. sleeps (subst (λ b. is_byte AWAKE b ≡ true) (sym (byte_else awake place k byte other)) is_awake))
    ]

-- it is awake
pub noted_awake : (numbers awake : List ℕ) (ws : List Wire) (place : ℕ) (w v : Wire) → slice_get ws place ≡ Some w → v.number ≡ w.number
    → AreNoted numbers awake ws → AreNoted numbers (slice_set awake place AWAKE) (slice_set ws place v)
noted_awake numbers awake ws place w v here number noted = noted_by numbers awake ws place AWAKE w v here number (λ sleeps. absurd (sleeps refl)) noted

-- it stays as it is, and is awake
pub noted_woken : (numbers awake : List ℕ) (ws : List Wire) (place : ℕ) → AreNoted numbers awake ws → AreNoted numbers (slice_set awake place AWAKE) ws
noted_woken numbers awake ws place noted = record {
  as_many = (noted.as_many.0, set_len awake place AWAKE ∙ noted.as_many.1);
  numbered = noted.numbered;
  resting = λ k w is sleeps. noted.resting k w is (λ is_awake. sleeps (still k is_awake));
}
  where
    set_at : (bytes : List ℕ) (k : ℕ) → Passes (is_byte AWAKE) bytes k → Passes (is_byte AWAKE) (slice_set bytes k AWAKE) k
    set_at [] k is = is
    set_at (b ∷ bytes) zero is = refl
    set_at (b ∷ bytes) (suc k) is = set_at bytes k is

    still : (k : ℕ) → Passes (is_byte AWAKE) awake k → Passes (is_byte AWAKE) (slice_set awake place AWAKE) k
    still k is_awake = elim (apart k place) [
      | inl same ↦ subst (λ n. Passes (is_byte AWAKE) (slice_set awake n AWAKE) k) same (set_at awake k is_awake)
      | inr other ↦ subst (λ b. is_byte AWAKE b ≡ true) (sym (byte_else awake place k AWAKE other)) is_awake
    ]

-- the connection at a place becomes another, and the others stay
pub related_set : (R : Wire → Wire → Type 0) (place : ℕ) (ws : List Wire) (w v : Wire) → slice_get ws place ≡ Some w → R w v
    → RelatedAt R place ws (slice_set ws place v)
related_set R place ws w v here r = record {
  len = sym (set_len ws place v);
  here = λ x y is_x is_y. subst (λ z. R z y) (one_there w x (slice_get ws place) here is_x)
      (subst (R w) (one_there v y (slice_get (slice_set ws place v) place) (set_here ws place v (within place w ws here)) is_y) r);
  elsewhere = λ k other. set_else ws place k v other;
}

-- the connection at a place is on another line than the one that is lost, and stays
pub lost_none : (numbers awake : List ℕ) (ws : List Wire) (place n number : ℕ) → AreNoted numbers awake ws → slice_get numbers place ≡ Some n
    → nat_eq n number ≡ false → RelatedAt (λ x y. y ≡ lost_if number x) place ws ws
lost_none numbers awake ws place n number noted is_n other = record {
  len = refl;
  here = λ x y is_x is_y.
      sym (one_there x y (slice_get ws place) is_x is_y)
      ∙ sym (ap (λ b. cond b (lost x) x) (ap (λ m. nat_eq m number) (sym (one_there n x.number (slice_get numbers place) is_n (noted.numbered place x is_x))) ∙ other));
  elsewhere = λ k apart. refl;
}

-- the number that is noted at a place is that of the connection there
pub number_there : (numbers awake : List ℕ) (ws : List Wire) (place number : ℕ) (w : Wire) → AreNoted numbers awake ws → slice_get numbers place ≡ Some number
    → slice_get ws place ≡ Some w → number ≡ w.number
number_there numbers awake ws place number w noted is here = one_there number w.number (slice_get numbers place) is (noted.numbered place w here)

-- one comes behind the others, awake
pub noted_pushed : (numbers awake : List ℕ) (ws : List Wire) (number : ℕ) (w : Wire) → number ≡ w.number → AreNoted numbers awake ws
    → AreNoted (numbers ++ number ∷ []) (awake ++ AWAKE ∷ []) (ws ++ w ∷ [])
noted_pushed numbers awake ws number w its noted =
    let many = noted.as_many.0 in
    let many_too = noted.as_many.1 in
    record {
      as_many = (push_len numbers number ∙ ap (λ n. n + 1) many ∙ sym (push_len ws w), push_len awake AWAKE ∙ ap (λ n. n + 1) many_too ∙ sym (push_len ws w));
      numbered = λ k x is. elim (pushed ws w k x is) [
        | inl was ↦ push_before numbers (number ∷ []) k x.number (noted.numbered k x was)
        | inr last ↦ subst (λ n. slice_get (numbers ++ number ∷ []) n ≡ Some x.number) (many ∙ sym last.0)
            (push_last numbers number ∙ ap (λ n. Some n) (its ∙ ap (λ (z : Wire). z.number) last.1))
      ];
      resting = λ k x is sleeps. elim (pushed ws w k x is) [
        | inl was ↦ let less = within k x ws was in noted.resting k x was (λ is_awake. sleeps
            (subst (λ b. is_byte AWAKE b ≡ true) (sym (byte_before awake k AWAKE (omega (arith, less, many_too)))) is_awake))
        | inr last ↦ absurd (sleeps (subst (Passes (is_byte AWAKE) (awake ++ AWAKE ∷ [])) (many_too ∙ sym last.0)
            (subst (λ b. is_byte AWAKE b ≡ true) (sym (byte_last awake AWAKE)) refl)))
      ];
    }

-- ---- the next that is awake

at_sum : (bytes : List ℕ) (k n : ℕ) → k ≡ n → slice_index bytes k ≡ slice_index bytes n
at_sum bytes k n same = ap (slice_index bytes) same

behind : (bytes : List ℕ) (from k : ℕ) → slice_index (drop from bytes) k ≡ slice_index bytes (from + k)
behind [] zero k = at_sum [] k (0 + k) (omega arith)
behind [] (suc from) k = refl
behind (b ∷ bytes) zero k = at_sum (b ∷ bytes) k (0 + k) (omega arith)
behind (b ∷ bytes) (suc from) k = behind bytes from k ∙ at_sum (b ∷ bytes) (suc (from + k)) (suc from + k) (omega arith)

dropped_len : (bytes : List ℕ) (from : ℕ) → length (drop from bytes) ≡ length bytes - from
dropped_len [] zero = omega arith
dropped_len [] (suc from) = omega arith
dropped_len (b ∷ bytes) zero = omega arith
dropped_len (b ∷ bytes) (suc from) = let less = dropped_len bytes from in omega (arith, less)

whole_taken : (bytes : List ℕ) → take (length bytes) bytes ≡ bytes
whole_taken [] = refl
whole_taken (b ∷ bytes) = ap (λ bs. b ∷ bs) (whole_taken bytes)

-- those before a place rest whose bytes are not that of one that is awake
resting_before : (numbers awake : List ℕ) (ws : List Wire) (from count : ℕ) → AreNoted numbers awake ws
    → Nowhere (Passes (is_byte AWAKE) (drop from awake)) 0 count → RestBetween from (from + count) ws
resting_before numbers awake ws from count noted none k w low high here =
    noted.resting k w here (λ is_awake. none (k - from) (omega (arith, low)) (omega (arith, low, high))
    (subst (λ b. is_byte AWAKE b ≡ true) (sym (behind awake from (k - from) ∙ at_sum awake (from + (k - from)) k (omega (arith, low)))) is_awake))

-- the first byte of one that is awake, from a place on, is at the next that is awake
pub next_some : (numbers awake : List ℕ) (ws : List Wire) (from count : ℕ) → from ≤ length ws → AreNoted numbers awake ws
    → IsFirstByte (is_byte AWAKE) (take (length awake - from) (drop from awake)) (Some count) → IsNextAwake from ws (Some (from + count))
next_some numbers awake ws from count within noted first =
    let whole : take (length awake - from) (drop from awake) ≡ drop from awake = ap (λ n. take n (drop from awake)) (sym (dropped_len awake from)) ∙ whole_taken (drop from awake) in
    let found : IsFirstByte (is_byte AWAKE) (drop from awake) (Some count) = subst (λ bs. IsFirstByte (is_byte AWAKE) bs (Some count)) whole first in
    let len = dropped_len awake from in
    let many = noted.as_many.1 in
    let high = found.0.high in
    (omega arith, omega (arith, len, many, high, within), resting_before numbers awake ws from count noted found.0.before)

-- and without one all of them rest
pub next_none : (numbers awake : List ℕ) (ws : List Wire) (from : ℕ) → from ≤ length ws → AreNoted numbers awake ws
    → IsFirstByte (is_byte AWAKE) (take (length awake - from) (drop from awake)) None → IsNextAwake from ws None
next_none numbers awake ws from within noted first =
    let whole : take (length awake - from) (drop from awake) ≡ drop from awake = ap (λ n. take n (drop from awake)) (sym (dropped_len awake from)) ∙ whole_taken (drop from awake) in
    let found : IsFirstByte (is_byte AWAKE) (drop from awake) None = subst (λ bs. IsFirstByte (is_byte AWAKE) bs None) whole first in
    let len = dropped_len awake from in
    let many = noted.as_many.1 in
    subst (λ n. RestBetween from n ws) (omega (arith, len, many, within)) (resting_before numbers awake ws from (length (drop from awake)) noted found)

-- ---- a connection that rests

leaves_none : (f : Fate) (w : Wire) → Leaves f (letting [] w.out w) w
leaves_none Stands w = inl refl
leaves_none Lost w = inl refl
leaves_none Closed w = inl refl

said_none : (said : Option (List ℕ)) → and_then said [] ≡ said
said_none None = refl
said_none (Some bytes) = ap (λ (bs : List ℕ). Some bs) (append-nil bytes)

no_bytes : (bytes : List ℕ) → length bytes ≡ 0 → bytes ≡ []
no_bytes [] none = refl
no_bytes (b ∷ bytes) none = absurd (omega (arith, none))

-- one that stands, on which nothing waits and nothing is held back, rests
pub at_rest : (w : Wire) (out : Option (List ℕ)) (held : List ℕ) → may_send w ≡ true → w.waits ≡ [] → length held ≡ 0 → w.out ≡ out
    → w.said ≡ and_then (and_then out held) w.waits → Rests w
at_rest w out held sends waits none is said = record {
  may_send = sends;
  nothing_waits = waits;
  nothing_held = record {
    held = [];
    rest = [];
    before = said ∙ ap (λ (o : Option (List ℕ)). and_then o w.waits) (ap (and_then out) (no_bytes held none) ∙ said_none out ∙ sym is);
    moved = refl;
    leaves = leaves_none w.fate w;
    went_is = refl;
  };
}

-- ---- all are noted anew

-- so many of them are noted, as awake
pub record NotedBelow (n : ℕ) (numbers awake : List ℕ) (ws : List Wire) : Type 0 where
  pub as_many : (length numbers ≡ length ws) × (length awake ≡ length ws)
  pub numbered : (k : ℕ) (w : Wire) → k < n → slice_get ws k ≡ Some w → slice_get numbers k ≡ Some w.number
  pub waking : (k : ℕ) → k < n → k < length ws → Passes (is_byte AWAKE) awake k

-- before the first is noted none is
pub none_noted : (numbers awake : List ℕ) (ws : List Wire) → length numbers ≡ length ws → length awake ≡ length ws → NotedBelow 0 numbers awake ws
none_noted numbers awake ws many many_too =
    record { as_many = (many, many_too); numbered = λ k w less here. absurd (omega (arith, less)); waking = λ k less within. absurd (omega (arith, less)) }

-- one more is noted, as awake
pub one_noted : (n : ℕ) (numbers awake : List ℕ) (ws : List Wire) (number : ℕ) (w : Wire) → slice_get ws n ≡ Some w → number ≡ w.number
    → NotedBelow n numbers awake ws → NotedBelow (n + 1) (slice_set numbers n number) (slice_set awake n AWAKE) ws
one_noted n numbers awake ws number w here its noted = record {
  as_many = (set_len numbers n number ∙ noted.as_many.0, set_len awake n AWAKE ∙ noted.as_many.1);
  numbered = λ k x less is. elim (apart k n) [
    | inl same ↦ subst (λ m. slice_get (slice_set numbers n number) m ≡ Some x.number) (sym same)
        (set_here numbers n number less_than ∙ ap (λ m. Some m) its ∙ ap (λ (z : Wire). Some z.number) (one_there w x (slice_get ws n) here (subst (λ m. slice_get ws m ≡ Some x) same is)))
    | inr other ↦ set_else numbers n k number other ∙ noted.numbered k x (omega (arith, less, other)) is
  ];
  waking = λ k less inside. elim (apart k n) [
    | inl same ↦ subst (Passes (is_byte AWAKE) (slice_set awake n AWAKE)) (sym same) (subst (λ b. is_byte AWAKE b ≡ true) (sym (byte_here awake n AWAKE less_too)) refl)
    | inr other ↦ subst (λ b. is_byte AWAKE b ≡ true) (sym (byte_else awake n k AWAKE other)) (noted.waking k (omega (arith, less, other)) inside)
  ];
}
  where
    less_than : n < length numbers
    less_than = let less = within n w ws here in let many = noted.as_many.0 in omega (arith, less, many)

    less_too : n < length awake
    less_too = let less = within n w ws here in let many = noted.as_many.1 in omega (arith, less, many)

-- once each is, all are noted
pub all_noted : (n : ℕ) (numbers awake : List ℕ) (ws : List Wire) → length ws ≤ n → NotedBelow n numbers awake ws → AreNoted numbers awake ws
all_noted n numbers awake ws all noted = record {
  as_many = noted.as_many;
  numbered = λ k w is. let less = within k w ws is in noted.numbered k w (omega (arith, less, all)) is;
  resting = λ k w is sleeps. let less = within k w ws is in absurd (sleeps (noted.waking k (omega (arith, less, all)) less));
}
