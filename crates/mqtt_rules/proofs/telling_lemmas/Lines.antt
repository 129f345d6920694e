-- What was told on a line, by what happens on it and on others.
use Rattle.std.proofs.Common.{◌≡◌, ℕ, Bool, true, false, cond, List, [], ◌∷◌, nat_eq, Option, Some, None, refl, sym, ap, subst, ◌∙◌, inl, inr}
use Rattle.std.specs.Prelude.{◌||◌, length, nat_lt}
use Rattle.std.proofs.lemmas.Bool.{cases_Bool, eqb-true}
use Rattle.std.proofs.lemmas.Cmp.{nat_eq_equiv}
use Rattle.mqtt_packet.specs.declared.codec.packet.Packet.{Packet}
use Rattle.mqtt_packet.specs.declared.codec.packet.Packet.TheVariants as packets
use Rattle.mqtt_topic.specs.declared.sending.form.Form.TheVariants.{Plain}
use Rattle.mqtt_topic.specs.sending.Told.{ToldTopics, none_told, after_send}
use Rattle.mqtt_rules.specs.step.Forms.{is_within}
use Rattle.mqtt_base.specs.declared.limits.TheConstants.{LINE_LIMIT}
use Rattle.mqtt_records.specs.lists.Order.{has_row, insert_row, put_row}
use Rattle.mqtt_rules.specs.step.State.{Line, Telling, told_line, told_on}
use Rattle.mqtt_rules.specs.step.Deeds.{greeted, tells, tells_on, without_telling}

-- a client that takes no alias is told nothing
pub nothing_told : (o : Option Line) (packet : Packet) → tells o packet (none_told 0) ≡ none_told 0
nothing_told None packet = refl
nothing_told (Some l) (packets.Publish p) = by (is_within l.largest p Plain)
  where
    by : (t : Bool) → after_send (cond t (Some Plain) None) p.topic (none_told 0) ≡ none_told 0
    by true = refl
    by false = refl
nothing_told (Some l) packet = refl

-- a packet tells on its own line
pub told_own : (n : ℕ) (o : Option Line) (packet : Packet) (ts : List Telling) → told_on n (tells_on n o packet ts) ≡ tells o packet (told_on n ts)
told_own n o packet [] = sym (nothing_told o packet)
told_own n o packet (t ∷ ts) = elim (cases_Bool (nat_eq t.line n)) [
  | inl here ↦ rw (here, here) refl
  | inr other ↦ rw (other, other) (told_own n o packet ts)
]

another : (i k n : ℕ) → nat_eq i k ≡ true → nat_eq k n ≡ false → nat_eq i n ≡ false
another i k n same apart = ap (λ (j : ℕ). nat_eq j n) (eqb-true i k same) ∙ apart

-- and on no other
pub told_other : (n k : ℕ) (o : Option Line) (packet : Packet) (ts : List Telling) → nat_eq k n ≡ false → told_on n (tells_on k o packet ts) ≡ told_on n ts
told_other n k o packet [] apart = refl
told_other n k o packet (t ∷ ts) apart = elim (cases_Bool (nat_eq t.line k)) [
  | inl here ↦ let off = another t.line k n here apart in rw (here, off) refl
  | inr further ↦ elim (cases_Bool (nat_eq t.line n)) [
    | inl mine ↦ rw (further, mine) refl
    | inr off ↦ rw (further, off) (told_other n k o packet ts apart)
  ]
]

-- what was told goes with its line
pub gone_own : (n : ℕ) (ts : List Telling) → told_on n (without_telling n ts) ≡ none_told 0
gone_own n [] = refl
gone_own n (t ∷ ts) = elim (cases_Bool (nat_eq t.line n)) [
  | inl here ↦ rw here (gone_own n ts)
  | inr other ↦ rw (other, other) (gone_own n ts)
]

-- and no other goes
pub gone_other : (n k : ℕ) (ts : List Telling) → nat_eq k n ≡ false → told_on n (without_telling k ts) ≡ told_on n ts
gone_other n k [] apart = refl
gone_other n k (t ∷ ts) apart = elim (cases_Bool (nat_eq t.line k)) [
  | inl here ↦ let off = another t.line k n here apart in rw (here, off) (gone_other n k ts apart)
  | inr further ↦ elim (cases_Bool (nat_eq t.line n)) [
    | inl mine ↦ rw (further, mine) refl
    | inr off ↦ rw (further, off) (gone_other n k ts apart)
  ]
]

-- a row in its place is the line's own
begun_own : (n : ℕ) (told : ToldTopics) (ts : List Telling) → told_on n (insert_row told_line (record { line = n; topics = told }) ts) ≡ told
begun_own n told [] = let same = nat_eq_equiv.refl n in rw same refl
begun_own n told (t ∷ ts) = elim (cases_Bool (nat_lt n t.line)) [
  | inl before ↦ let same = nat_eq_equiv.refl n in rw (before, same) refl
  | inr behind ↦ elim (cases_Bool (nat_eq n t.line)) [
    | inl here ↦ let same = nat_eq_equiv.refl n in rw (behind, here, same) refl
    | inr other ↦ let off = nat_eq_equiv.symm t.line n ∙ other in rw (behind, other, off) (begun_own n told ts)
  ]
]

-- and the others stay
begun_other : (n k : ℕ) (told : ToldTopics) (ts : List Telling) → nat_eq k n ≡ false → told_on n (insert_row told_line (record { line = k; topics = told }) ts) ≡ told_on n ts
begun_other n k told [] apart = rw apart refl
begun_other n k told (t ∷ ts) apart = elim (cases_Bool (nat_lt k t.line)) [
  | inl before ↦ rw (before, apart) refl
  | inr behind ↦ elim (cases_Bool (nat_eq k t.line)) [
    | inl here ↦ let off = another t.line k n (nat_eq_equiv.symm t.line k ∙ here) apart in rw (behind, here, apart, off) refl
    | inr further ↦ elim (cases_Bool (nat_eq t.line n)) [
      | inl mine ↦ rw (behind, further, mine) refl
      | inr off ↦ rw (behind, further, off) (begun_other n k told ts apart)
    ]
  ]
]

-- a client that is greeted has an empty table, or none if there is no room for it; one that takes no alias has what it had
pub greeted_own : (n most : ℕ) (P : ToldTopics → Type 0) (ts : List Telling) → P (told_on n ts) → P (none_told 0) → P (none_told most)
    → P (told_on n (greeted n most ts))
greeted_own n most P ts was none new = by (nat_eq most 0)
  where
    row : Telling
    row = record { line = n; topics = none_told most }

    rest : List Telling
    rest = without_telling n ts

    put : (t : Bool) → P (told_on n (cond t (insert_row told_line row rest) rest))
    put true = subst P (sym (begun_own n (none_told most) rest)) new
    put false = subst P (sym (gone_own n ts)) none

    by : (t : Bool) → P (told_on n (cond t ts (put_row told_line LINE_LIMIT row rest)))
    by true = was
    by false = put (has_row told_line n rest || nat_lt (length rest) LINE_LIMIT)

-- and any other client what it had
pub greeted_other : (n k most : ℕ) (ts : List Telling) → nat_eq k n ≡ false → told_on n (greeted k most ts) ≡ told_on n ts
greeted_other n k most ts apart = by (nat_eq most 0)
  where
    row : Telling
    row = record { line = k; topics = none_told most }

    rest : List Telling
    rest = without_telling k ts

    put : (t : Bool) → told_on n (cond t (insert_row told_line row rest) rest) ≡ told_on n ts
    put true = begun_other n k (none_told most) rest apart ∙ gone_other n k ts apart
    put false = gone_other n k ts apart

    by : (t : Bool) → told_on n (cond t ts (put_row told_line LINE_LIMIT row rest)) ≡ told_on n ts
    by true = refl
    by false = put (has_row told_line k rest || nat_lt (length rest) LINE_LIMIT)
