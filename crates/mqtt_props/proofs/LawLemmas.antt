-- The laws of blocks: one spelling, and repeated properties as pairs (MQTT 5.0, 2.2.2).
use Rattle.std.proofs.Common.{◌≡◌, ◌↔◌, ℕ, zero, suc, ◌^◌, ◌<◌, Bool, true, false, ◌&&◌, ◌||◌, not, List, [], ◌∷◌, ◌++◌, length, refl, sym, ap, subst, ◌∙◌, arith}
use Rattle.std.specs.Prelude.{slice_index_or, IsTrue}
use Rattle.std.specs.List.{AllByRecursion}
use Rattle.std.proofs.lemmas.Bool.{eqb-true, eq-eqb}
use Rattle.std.proofs.lemmas.List.Concat.{flat_map-cons}
use Rattle.std.proofs.lemmas.List.Folds.{Any-from_list_any}
use Rattle.mqtt_base.specs.Values.{varint, IsVarInt}
use Rattle.mqtt_base.proofs.Varints.{varint_only, varint_is}
use Rattle.mqtt_props.specs.declared.place.Place.{Place}
use Rattle.mqtt_props.specs.declared.table.PropName.{PropName}
use Rattle.mqtt_props.specs.declared.table.PropName.TheVariants.{PayloadFormatIndicator}
use Rattle.mqtt_props.specs.Table.{property_row}
use Rattle.mqtt_props.specs.Properties.{Prop, IsProp, prop, props, value, block, FitsBlock}
use Rattle.mqtt_props.specs.Spelling.{IsPair, ArePairsOf, IsBlock}
use Rattle.mqtt_props.specs.Laws.{may_repeat, is_named, has, none_repeats, NoneRepeats}
use Rattle.mqtt_props.proofs.TableLemmas.{id_is}

-- ---- one spelling

-- an identifier takes one byte
id_is_one : (n : PropName) → varint (property_row n).id ≡ (property_row n).id ∷ []
unfolding varint
id_is_one PayloadFormatIndicator = refl
id_is_one n = refl

id_fits : (n : PropName) → (property_row n).id < 2 ^ 28
id_fits PayloadFormatIndicator = omega arith
id_fits n = omega arith

pair_is : (p : Prop) (bytes : List ℕ) → IsPair p bytes → bytes ≡ prop p
pair_is p bytes h =
    h.parts ∙ ap (λ (w : List ℕ). w ++ value p.value) ((varint_only (property_row p.name).id h.id h.is_id).0 ∙ id_is_one p.name)

pair_of : (p : Prop) → IsProp p → IsPair p (prop p)
pair_of p is = record {
  is = is;
  id = (property_row p.name).id ∷ [];
  is_id = subst (λ (v : List ℕ). IsVarInt (property_row p.name).id v) (id_is_one p.name) (varint_is (property_row p.name).id (id_fits p.name));
  parts = refl;
}

pairs_are : (ps : List Prop) (bytes : List ℕ) → ArePairsOf ps bytes → (bytes ≡ props ps) × AllByRecursion IsProp ps
pairs_are [] bytes h = (h, tt)
pairs_are (p ∷ ps) bytes (first, rest, one, more, parts) =
    let r = pairs_are ps rest more in
    (parts ∙ ap (λ (w : List ℕ). w ++ rest) (pair_is p first one) ∙ ap (λ (w : List ℕ). prop p ++ w) r.0 ∙ sym (flat_map-cons prop p ps), (one.is, r.1))

pairs_of : (ps : List Prop) → AllByRecursion IsProp ps → ArePairsOf ps (props ps)
pairs_of [] h = refl
pairs_of (p ∷ ps) h = (prop p, props ps, pair_of p h.0, pairs_of ps h.1, flat_map-cons prop p ps)

block_is : (ps : List Prop) (bytes : List ℕ) → IsBlock ps bytes → FitsBlock ps × (bytes ≡ block ps)
block_is ps bytes h =
    let r = pairs_are ps h.pairs h.are_pairs in
    let v = varint_only (length h.pairs) h.len h.is_len in
    let size : length h.pairs ≡ length (props ps) = ap length r.0 in (
      record { each = r.1; short = omega (arith, v.1, size) },
      h.parts ∙ ap (λ (w : List ℕ). w ++ h.pairs) (v.0 ∙ ap varint size) ∙ ap (λ (w : List ℕ). varint (length (props ps)) ++ w) r.0,
    )

-- the writer's block is a block of the standard
pub block_of : (ps : List Prop) → FitsBlock ps → IsBlock ps (block ps)
block_of ps fits = record {
  len = varint (length (props ps));
  pairs = props ps;
  are_pairs = pairs_of ps fits.each;
  is_len = varint_is (length (props ps)) fits.short;
  parts = refl;
}

-- and there is no other
pub IsBlock-block : (ps : List Prop) (bytes : List ℕ) → IsBlock ps bytes ↔ (FitsBlock ps × (bytes ≡ block ps))
IsBlock-block ps bytes = (block_is ps bytes, λ h. subst (λ (b : List ℕ). IsBlock ps b) (sym h.1) (block_of ps h.0))

-- ---- repeated properties

named_again : (name : PropName) (q : Prop) → name ≡ q.name → is_named name q ≡ true
named_again name q e = eq-eqb (property_row q.name).id (property_row name).id (ap (λ (n : PropName). (property_row n).id) (sym e))

or_true : (b : Bool) → (b || true) ≡ true
or_true true = refl
or_true false = refl

-- a property of the list with this name
has_found : (name : PropName) (ps : List Prop) (j : ℕ) (d : Prop) → j < length ps → name ≡ (slice_index_or ps j d).name → has name ps ≡ true
has_found name [] j d lt e = absurd (omega (arith, lt))
has_found name (p ∷ ps) zero d lt e = rw (named_again name p e) refl
has_found name (p ∷ ps) (suc j) d lt e = rw (has_found name ps j d (omega (arith, lt)) e) (or_true (is_named name p))

and_right : (a b : Bool) → (a && b) ≡ true → b ≡ true
and_right true b e = e
and_right false b e = absurd cc

may_if : (may found rest : Bool) → ((may || not found) && rest) ≡ true → found ≡ true → may ≡ true
may_if true found rest e f = refl
may_if false true rest e f = absurd (cc e)
may_if false false rest e f = absurd (cc f)

once_pairs : (place : Place) (ps : List Prop) → none_repeats place ps ≡ true → NoneRepeats place ps
once_pairs place [] e i j d lt in_list same = absurd (omega (arith, in_list))
once_pairs place (p ∷ ps) e zero zero d lt in_list same = absurd (omega (arith, lt))
once_pairs place (p ∷ ps) e zero (suc j) d lt in_list same =
    may_if (may_repeat place p.name) (has p.name ps) (none_repeats place ps) e (has_found p.name ps j d (omega (arith, in_list)) same)
once_pairs place (p ∷ ps) e (suc i) zero d lt in_list same = absurd (omega (arith, lt))
once_pairs place (p ∷ ps) e (suc i) (suc j) d lt in_list same =
    once_pairs place ps (and_right (may_repeat place p.name || not (has p.name ps)) (none_repeats place ps) e) i j d (omega (arith, lt)) (omega (arith, in_list)) same

unless_found : (may found : Bool) → (found ≡ true → may ≡ true) → ((may || not found) && true) ≡ true
unless_found true found h = refl
unless_found false true h = absurd (cc (h refl))
unless_found false false h = refl

pairs_once : (place : Place) (ps : List Prop) → NoneRepeats place ps → none_repeats place ps ≡ true
pairs_once place [] h = refl
pairs_once place (p ∷ ps) h =
    let rest : none_repeats place ps ≡ true = pairs_once place ps (λ i j d lt in_list same. h (suc i) (suc j) d (omega (arith, lt)) (omega (arith, in_list)) same) in
    let may : has p.name ps ≡ true → may_repeat place p.name ≡ true =
    λ found. let (k, q, lt, is, named) = Any-from_list_any (is_named p.name) ps found in
    h 0 (suc k) q (omega arith) (omega (arith, lt)) (id_is p.name (slice_index_or ps k q).name (sym (eqb-true _ _ named) ∙ ap (λ (r : Prop). (property_row r.name).id) (sym is))) in
    rw rest (unless_found (may_repeat place p.name) (has p.name ps) may)

-- the test for properties that stand twice is the definition's
pub none_repeats-NoneRepeats : (place : Place) (ps : List Prop) → IsTrue (none_repeats place ps) ↔ NoneRepeats place ps
none_repeats-NoneRepeats place ps = (once_pairs place ps, pairs_once place ps)
