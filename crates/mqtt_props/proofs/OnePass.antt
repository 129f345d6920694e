-- One pass over a block tells of repeats and of what stands in it (MQTT 5.0, 2.2.2.2).
use Rattle.std.proofs.Common.{◌≡◌, ℕ, zero, suc, ◌<◌, ◌^◌, Bool, true, false, ◌&&◌, ◌||◌, not, List, [], ◌∷◌, refl, sym, ap, ◌∙◌, arith, inl, inr, ◌⊎◌}
use Rattle.std.specs.Prelude.{◌==◌, max}
use Rattle.std.specs.Int.{bit_at}
use Rattle.std.specs.Int.Bits.{bit_or}
use Rattle.std.specs.List.{list_all}
use Rattle.std.proofs.Math.Bool.{and-true, and_assoc}
use Rattle.std.proofs.Math.Nat.{max-zero}
use Rattle.std.proofs.lemmas.Bool.{eqb-true, eqb-false, eq-eqb}
use Rattle.std.proofs.lemmas.Nat.Bits.{bit_at-zero, bit_at-lt, bit_at-pow_same, bit_at-pow_other, bit_at_or}
use Rattle.mqtt_props.specs.declared.place.Place.{Place}
use Rattle.mqtt_props.specs.declared.table.PropName.{PropName}
use Rattle.mqtt_props.specs.Table.{property_row}
use Rattle.mqtt_props.specs.Properties.{Prop}
use Rattle.mqtt_props.specs.Laws.{may_repeat, is_named, has, none_repeats, is_lawful_value, is_seen, see}
use Rattle.mqtt_props.proofs.TableLemmas.{id_is}

-- ---- the identifiers that have come

cases : (b : Bool) → (b ≡ true) ⊎ (b ≡ false)
cases true = inl refl
cases false = inr refl

one_of : (m : ℕ) → m < 2 → (max m 1 == 1) ≡ ((m == 1) || true)
one_of zero lt = refl
one_of (suc zero) lt = refl
one_of (suc (suc m)) lt = absurd (omega (arith, lt))

or_none : (b : Bool) → b ≡ (b || false)
or_none true = refl
or_none false = refl

bit_more : (n i k : ℕ) → (bit_at (bit_or n (2 ^ k)) i == 1) ≡ ((bit_at n i == 1) || (i == k))
bit_more n i k = elim (cases (i == k)) [
  | inl same ↦
      let e : i ≡ k = eqb-true i k same in
      rw (bit_at_or n (2 ^ k) i, same, e, bit_at-pow_same k) (one_of (bit_at n k) (bit_at-lt n k))
  | inr other ↦
      rw (bit_at_or n (2 ^ k) i, other, bit_at-pow_other k i (λ e. eqb-false i k other e), max-zero (bit_at n i)) (or_none (bit_at n i == 1))
]

-- one more name was seen
pub is_seen-see : (a b : PropName) (seen : ℕ) → is_seen a (see b seen) ≡ (is_seen a seen || ((property_row a).id == (property_row b).id))
is_seen-see a b seen = bit_more seen (property_row a).id (property_row b).id

-- ---- what is left

-- no property repeats one that was seen, or one before it
abbrev pub once_left : Place → ℕ → List Prop → Bool
once_left place seen [] = true
once_left place seen (p ∷ ps) = (not (is_seen p.name seen) || may_repeat place p.name) && once_left place (see p.name seen) ps

-- no property repeats one that was seen
abbrev none_seen : Place → ℕ → List Prop → Bool
none_seen place seen ps = list_all (λ q. not (is_seen q.name seen) || may_repeat place q.name) ps

shuffle : (a n l r : Bool) → (a && (n && (l && r))) ≡ ((r && n) && (a && l))
shuffle true true true true = refl
shuffle true true true false = refl
shuffle true true false true = refl
shuffle true true false false = refl
shuffle true false true true = refl
shuffle true false true false = refl
shuffle true false false true = refl
shuffle true false false false = refl
shuffle false true true true = refl
shuffle false true true false = refl
shuffle false true false true = refl
shuffle false true false false = refl
shuffle false false true true = refl
shuffle false false true false = refl
shuffle false false false true = refl
shuffle false false false false = refl

or_right : (b : Bool) → true ≡ (b || true)
or_right true = refl
or_right false = refl

same_name : (s m l h : Bool) → ((not (s || true) || m) && (l && (m || not h))) ≡ (((not s || m) && l) && (m || not (true || h)))
same_name true true true true = refl
same_name true true true false = refl
same_name true true false true = refl
same_name true true false false = refl
same_name true false true true = refl
same_name true false true false = refl
same_name true false false true = refl
same_name true false false false = refl
same_name false true true true = refl
same_name false true true false = refl
same_name false true false true = refl
same_name false true false false = refl
same_name false false true true = refl
same_name false false true false = refl
same_name false false false true = refl
same_name false false false false = refl

other_name : (s q l r : Bool) → ((not (s || false) || q) && (l && r)) ≡ (((not s || q) && l) && r)
other_name true true true true = refl
other_name true true true false = refl
other_name true true false true = refl
other_name true true false false = refl
other_name true false true true = refl
other_name true false true false = refl
other_name true false false true = refl
other_name true false false false = refl
other_name false true true true = refl
other_name false true true false = refl
other_name false true false true = refl
other_name false true false false = refl
other_name false false true true = refl
other_name false false true false = refl
other_name false false false true = refl
other_name false false false false = refl

repeat_of : (place : Place) (a b : PropName) → ((property_row a).id == (property_row b).id) ≡ true → may_repeat place a ≡ may_repeat place b
repeat_of place a b same = ap (may_repeat place) (id_is a b (eqb-true _ _ same))

seen_more : (place : Place) (p : Prop) (seen : ℕ) (ps : List Prop) → none_seen place (see p.name seen) ps ≡ (none_seen place seen ps && (may_repeat place p.name || not (has p.name ps)))
seen_more place p seen [] = or_right (may_repeat place p.name)
seen_more place p seen (q ∷ qs) = elim (cases ((property_row q.name).id == (property_row p.name).id)) [
  | inl same ↦
      rw (is_seen-see q.name p.name seen, seen_more place p seen qs, same, repeat_of place q.name p.name same)
      (same_name (is_seen q.name seen) (may_repeat place p.name) (none_seen place seen qs) (has p.name qs))
  | inr other ↦
      rw (is_seen-see q.name p.name seen, seen_more place p seen qs, other)
      (other_name (is_seen q.name seen) (may_repeat place q.name) (none_seen place seen qs) (may_repeat place p.name || not (has p.name qs)))
]

once_split : (place : Place) (seen : ℕ) (ps : List Prop) → once_left place seen ps ≡ (none_repeats place ps && none_seen place seen ps)
once_split place seen [] = refl
once_split place seen (p ∷ ps) =
    rw (once_split place (see p.name seen) ps, seen_more place p seen ps)
    (shuffle (not (is_seen p.name seen) || may_repeat place p.name) (none_repeats place ps) (none_seen place seen ps) (may_repeat place p.name || not (has p.name ps)))

none_yet : (place : Place) (ps : List Prop) → none_seen place 0 ps ≡ true
none_yet place [] = refl
none_yet place (p ∷ ps) = rw (bit_at-zero (property_row p.name).id, none_yet place ps) refl

-- at first nothing was seen
pub once_first : (place : Place) (ps : List Prop) → none_repeats place ps ≡ once_left place 0 ps
once_first place ps = sym (once_split place 0 ps ∙ rw (none_yet place ps) (and-true (none_repeats place ps)))

-- three tests in another order
pub has_swap : (s n h : Bool) → ((n || h) || s) ≡ (h || (s || n))
has_swap true true true = refl
has_swap true true false = refl
has_swap true false true = refl
has_swap true false false = refl
has_swap false true true = refl
has_swap false true false = refl
has_swap false false true = refl
has_swap false false false = refl

-- three tests in another order
pub good_swap : (v r g : Bool) → ((v && r) && g) ≡ (r && (v && g))
good_swap true true true = refl
good_swap true true false = refl
good_swap true false true = refl
good_swap true false false = refl
good_swap false true true = refl
good_swap false true false = refl
good_swap false false true = refl
good_swap false false false = refl

-- ---- a step

eq_turned : (i k : ℕ) → (i == k) ≡ (k == i)
eq_turned i k = elim (cases (i == k)) [
  | inl same ↦ same ∙ sym (eq-eqb k i (sym (eqb-true i k same)))
  | inr other ↦ elim (cases (k == i)) [
    | inl same ↦ absurd (eqb-false i k other (sym (eqb-true k i same)))
    | inr turned ↦ other ∙ sym turned
  ]
]

-- one property more: is each there once
pub once_step : (place : Place) (p : Prop) (rest after : List Prop) (seen : ℕ) (whole : Bool) → rest ≡ p ∷ after → (not (is_seen p.name seen) || may_repeat place p.name) ≡ true
    → whole ≡ once_left place seen rest → whole ≡ once_left place (see p.name seen) after
once_step place p rest after seen whole e may h = h ∙ ap (once_left place seen) e ∙ ap (λ (b : Bool). b && once_left place (see p.name seen) after) may

-- one property more: is there one of this name
pub has_step : (a : PropName) (p : Prop) (rest after : List Prop) (seen : ℕ) (whole : Bool) → rest ≡ p ∷ after
    → whole ≡ (has a rest || is_seen a seen) → whole ≡ (has a after || is_seen a (see p.name seen))
has_step a p rest after seen whole e h =
    h ∙ ap (λ (ps : List Prop). has a ps || is_seen a seen) e ∙ has_swap (is_seen a seen) (is_named a p) (has a after)
    ∙ ap (λ (b : Bool). has a after || (is_seen a seen || b)) (eq_turned (property_row p.name).id (property_row a).id)
    ∙ ap (λ (b : Bool). has a after || b) (sym (is_seen-see a p.name seen))

abbrev all_lawful : List Prop → Bool
all_lawful ps = list_all (λ p. is_lawful_value p.name p.value) ps

-- one property more: is each lawful
pub good_step : (p : Prop) (rest after : List Prop) (good lawful next whole : Bool) → rest ≡ p ∷ after → lawful ≡ is_lawful_value p.name p.value → next ≡ (lawful && good)
    → whole ≡ (all_lawful rest && good) → whole ≡ (all_lawful after && next)
good_step p rest after good lawful next whole e l n h =
    h ∙ ap (λ (ps : List Prop). all_lawful ps && good) e ∙ good_swap (is_lawful_value p.name p.value) (all_lawful after) good
    ∙ ap (λ (b : Bool). all_lawful after && (b && good)) (sym l) ∙ ap (λ (b : Bool). all_lawful after && b) (sym n)
