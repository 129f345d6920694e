-- What a publication passes on keeps the laws of a PUBLISH, and is no longer than what came (MQTT 5.0, 3.3.2.3).
use Rattle.std.proofs.Common.{◌≡◌, ℕ, ◌+◌, ◌≤◌, Bool, true, false, ◌&&◌, ◌||◌, not, List, [], ◌∷◌, ◌++◌, length, refl, sym, ap, subst, ◌∙◌, append_assoc, append-nil, arith, inl, inr}
use Rattle.std.specs.Prelude.{⊤, ◌==◌}
use Rattle.std.specs.List.{AllByRecursion, list_all}
use Rattle.std.proofs.lemmas.Bool.{cases_Bool, eqb-true}
use Rattle.std.proofs.lemmas.List.{length-append}
use Rattle.mqtt_base.specs.Values.{varint}
use Rattle.mqtt_base.proofs.Varints.{varint_sizes}
use Rattle.mqtt_props.specs.declared.place.Place.{Place}
use Rattle.mqtt_props.specs.declared.place.Place.TheVariants.{Publish}
use Rattle.mqtt_props.specs.declared.table.PropName.{PropName}
use Rattle.mqtt_props.specs.declared.table.PropName.TheVariants.{PayloadFormatIndicator, MessageExpiryInterval, ContentType, ResponseTopic, CorrelationData, UserProperty, AuthenticationMethod, AuthenticationData}
use Rattle.mqtt_props.specs.Table.{property_row, may_stand}
use Rattle.mqtt_props.specs.Properties.{Prop, IsProp, prop, props, block, FitsBlock}
use Rattle.mqtt_props.specs.Laws.{all_may_stand, may_repeat, is_named, has, none_repeats, is_lawful_value, has_method_for_data, values_are_lawful, is_lawful}
use Rattle.mqtt_props.specs.Edits.{only, without}
use Rattle.mqtt_props.proofs.TableLemmas.{id_is}
use Rattle.mqtt_props.proofs.EditLemmas.{FitsBlock-filter}
use Rattle.mqtt_records.specs.messages.PassedOn.{passed_on, passed_names}
use Rattle.mqtt_records.proofs.messages_lemmas.PassedLemmas.{none-only}
use Rattle.mqtt_rules.proofs.step_lemmas.numbers.Copies.{each_append}

-- ---- tests

-- both parts of an "and" that holds hold
pub two : (a b : Bool) → (a && b) ≡ true → (a ≡ true) × (b ≡ true)
two true b h = (refl, h)
two false b h = absurd cc

-- an "and" holds if both its parts do
pub and_two : (a b : Bool) → a ≡ true → b ≡ true → (a && b) ≡ true
and_two true true p q = refl
and_two true false p q = absurd cc
and_two false b p q = absurd cc

-- a property that may stand once was not found before
pub not_again : (may found rest : Bool) → ((may || not found) && rest) ≡ true → may ≡ false → found ≡ false
not_again true found rest h never = absurd cc
not_again false true rest h never = absurd cc
not_again false false rest h never = refl

-- a property may stand if it was not found before
pub unless_found : (may found rest : Bool) → found ≡ false → rest ≡ true → ((may || not found) && rest) ≡ true
unless_found may true rest none r = absurd cc
unless_found true false rest none r = r
unless_found false false rest none r = r

-- a property that may stand often may stand
pub where_may : (may found rest : Bool) → may ≡ true → rest ≡ true → ((may || not found) && rest) ≡ true
where_may true found rest m r = r
where_may false found rest m r = absurd cc

-- ---- the properties of one name, before others

abbrev IsApart : PropName → PropName → Type 0
IsApart m n = ((property_row m).id == (property_row n).id) ≡ false

has_other : (a b : PropName) (ps rest : List Prop) → IsApart b a → has a rest ≡ false → has a (only b ps ++ rest) ≡ false
has_other a b [] rest apart none = none
has_other a b (p ∷ ps) rest apart none = elim (cases_Bool (is_named b p)) [
  | inl named ↦
      let other : is_named a p ≡ false = ap (λ (n : ℕ). n == (property_row a).id) (eqb-true (property_row p.name).id (property_row b).id named) ∙ apart in
      rw (named, other) (has_other a b ps rest apart none)
  | inr other ↦ rw other (has_other a b ps rest apart none)
]

-- a property that is named so has that name
pub name_is : (name : PropName) (p : Prop) → is_named name p ≡ true → p.name ≡ name
name_is name p named = id_is p.name name (eqb-true (property_row p.name).id (property_row name).id named)

once : (place : Place) (name : PropName) (ps rest : List Prop) → may_repeat place name ≡ false → none_repeats place ps ≡ true → has name rest ≡ false → none_repeats Publish rest ≡ true
    → none_repeats Publish (only name ps ++ rest) ≡ true
once place name [] rest never h none r = r
once place name (p ∷ ps) rest never h none r = elim (cases_Bool (is_named name p)) [
  | inl named ↦
      let is = name_is name p named in
      let again : has p.name ps ≡ false = not_again (may_repeat place p.name) (has p.name ps) (none_repeats place ps) h (ap (may_repeat place) is ∙ never) in
      let empty : only name ps ≡ [] = none-only name ps (ap (λ (n : PropName). has n ps) (sym is) ∙ again) in
      let first : has p.name rest ≡ false = ap (λ (n : PropName). has n rest) is ∙ none in
      rw named (subst (λ (xs : List Prop). none_repeats Publish (p ∷ (xs ++ rest)) ≡ true) (sym empty) (unless_found (may_repeat Publish p.name) (has p.name rest) (none_repeats Publish rest) first r))
  | inr other ↦ rw other (once place name ps rest never (two (may_repeat place p.name || not (has p.name ps)) (none_repeats place ps) h).1 none r)
]

users : (ps : List Prop) → none_repeats Publish (only UserProperty ps) ≡ true
users [] = refl
users (p ∷ ps) = elim (cases_Bool (is_named UserProperty p)) [
  | inl named ↦
      let may : may_repeat Publish p.name ≡ true = ap (may_repeat Publish) (name_is UserProperty p named) in
      rw named (where_may (may_repeat Publish p.name) (has p.name (only UserProperty ps)) (none_repeats Publish (only UserProperty ps)) may (users ps))
  | inr other ↦ rw other (users ps)
]

all_only : (test : Prop → Bool) (name : PropName) (ps rest : List Prop) → list_all test ps ≡ true → list_all test rest ≡ true → list_all test (only name ps ++ rest) ≡ true
all_only test name [] rest h r = r
all_only test name (p ∷ ps) rest h r =
    let parts = two (test p) (list_all test ps) h in
    elim (cases_Bool (is_named name p)) [
      | inl named ↦ rw named (and_two (test p) (list_all test (only name ps ++ rest)) parts.0 (all_only test name ps rest parts.1 r))
      | inr other ↦ rw other (all_only test name ps rest parts.1 r)
    ]

all_may : (name : PropName) (ps rest : List Prop) → may_stand name Publish ≡ true → all_may_stand Publish rest ≡ true → all_may_stand Publish (only name ps ++ rest) ≡ true
all_may name [] rest may r = r
all_may name (p ∷ ps) rest may r = elim (cases_Bool (is_named name p)) [
  | inl named ↦
      let it : may_stand p.name Publish ≡ true = ap (λ (n : PropName). may_stand n Publish) (name_is name p named) ∙ may in
      rw named (and_two (may_stand p.name Publish) (all_may_stand Publish (only name ps ++ rest)) it (all_may name ps rest may r))
  | inr other ↦ rw other (all_may name ps rest may r)
]

-- ---- what is passed on, part by part

abbrev users_of : List Prop → List Prop
users_of ps = only UserProperty ps ++ []

abbrev from_data : List Prop → List Prop
from_data ps = only CorrelationData ps ++ users_of ps

abbrev from_topic : List Prop → List Prop
from_topic ps = only ResponseTopic ps ++ from_data ps

abbrev from_type : List Prop → List Prop
from_type ps = only ContentType ps ++ from_topic ps

abbrev from_expiry : List Prop → List Prop
from_expiry ps = only MessageExpiryInterval ps ++ from_type ps

abbrev chain : List Prop → List Prop
chain ps = only PayloadFormatIndicator ps ++ from_expiry ps

chain_is : (ps : List Prop) → chain ps ≡ passed_on ps
chain_is ps =
    let last = append-nil (only UserProperty ps) in
    rw last (simp append_assoc refl)

chain_has : (a : PropName) (ps : List Prop)
    → IsApart PayloadFormatIndicator a → IsApart MessageExpiryInterval a → IsApart ContentType a → IsApart ResponseTopic a → IsApart CorrelationData a → IsApart UserProperty a
    → has a (chain ps) ≡ false
chain_has a ps p1 p2 p3 p4 p5 p6 =
    has_other a PayloadFormatIndicator ps (from_expiry ps) p1
    (has_other a MessageExpiryInterval ps (from_type ps) p2
    (has_other a ContentType ps (from_topic ps) p3
    (has_other a ResponseTopic ps (from_data ps) p4
    (has_other a CorrelationData ps (users_of ps) p5
    (has_other a UserProperty ps [] p6 refl)))))

module _ (place : Place) (ps : List Prop) (h : none_repeats place ps ≡ true) where
  once_users : none_repeats Publish (users_of ps) ≡ true
  once_users = subst (λ (xs : List Prop). none_repeats Publish xs ≡ true) (sym (append-nil (only UserProperty ps))) (users ps)

  once_data : none_repeats Publish (from_data ps) ≡ true
  once_data = once place CorrelationData ps (users_of ps) refl h (has_other CorrelationData UserProperty ps [] refl refl) once_users

  once_topic : none_repeats Publish (from_topic ps) ≡ true
  once_topic = once place ResponseTopic ps (from_data ps) refl h
      (has_other ResponseTopic CorrelationData ps (users_of ps) refl
      (has_other ResponseTopic UserProperty ps [] refl refl)) once_data

  once_type : none_repeats Publish (from_type ps) ≡ true
  once_type = once place ContentType ps (from_topic ps) refl h
      (has_other ContentType ResponseTopic ps (from_data ps) refl
      (has_other ContentType CorrelationData ps (users_of ps) refl
      (has_other ContentType UserProperty ps [] refl refl))) once_topic

  once_expiry : none_repeats Publish (from_expiry ps) ≡ true
  once_expiry = once place MessageExpiryInterval ps (from_type ps) refl h
      (has_other MessageExpiryInterval ContentType ps (from_topic ps) refl
      (has_other MessageExpiryInterval ResponseTopic ps (from_data ps) refl
      (has_other MessageExpiryInterval CorrelationData ps (users_of ps) refl
      (has_other MessageExpiryInterval UserProperty ps [] refl refl)))) once_type

  once_chain : none_repeats Publish (chain ps) ≡ true
  once_chain = once place PayloadFormatIndicator ps (from_expiry ps) refl h
      (has_other PayloadFormatIndicator MessageExpiryInterval ps (from_type ps) refl
      (has_other PayloadFormatIndicator ContentType ps (from_topic ps) refl
      (has_other PayloadFormatIndicator ResponseTopic ps (from_data ps) refl
      (has_other PayloadFormatIndicator CorrelationData ps (users_of ps) refl
      (has_other PayloadFormatIndicator UserProperty ps [] refl refl))))) once_expiry

all_chain : (test : Prop → Bool) (ps : List Prop) → list_all test ps ≡ true → list_all test (chain ps) ≡ true
all_chain test ps h =
    all_only test PayloadFormatIndicator ps (from_expiry ps) h
    (all_only test MessageExpiryInterval ps (from_type ps) h
    (all_only test ContentType ps (from_topic ps) h
    (all_only test ResponseTopic ps (from_data ps) h
    (all_only test CorrelationData ps (users_of ps) h
    (all_only test UserProperty ps [] h refl)))))

chain_may : (ps : List Prop) → all_may_stand Publish (chain ps) ≡ true
chain_may ps =
    all_may PayloadFormatIndicator ps (from_expiry ps) refl
    (all_may MessageExpiryInterval ps (from_type ps) refl
    (all_may ContentType ps (from_topic ps) refl
    (all_may ResponseTopic ps (from_data ps) refl
    (all_may CorrelationData ps (users_of ps) refl
    (all_may UserProperty ps [] refl refl)))))

-- what was not found is no hindrance
pub no_data : (found other : Bool) → found ≡ false → (not found || other) ≡ true
no_data true other e = absurd cc
no_data false other e = refl

chain_lawful : (place : Place) (ps : List Prop) → is_lawful place ps ≡ true → is_lawful Publish (chain ps) ≡ true
chain_lawful place ps h =
    let laws = two (none_repeats place ps) (values_are_lawful ps) h in
    let each = two (list_all (λ p. is_lawful_value p.name p.value) ps) (has_method_for_data ps) laws.1 in
    let none = chain_has AuthenticationData ps refl refl refl refl refl refl in
    and_two (none_repeats Publish (chain ps)) (values_are_lawful (chain ps)) (once_chain place ps laws.0)
    (and_two (list_all (λ p. is_lawful_value p.name p.value) (chain ps)) (has_method_for_data (chain ps)) (all_chain (λ p. is_lawful_value p.name p.value) ps each.0)
    (no_data (has AuthenticationData (chain ps)) (has AuthenticationMethod (chain ps)) none))

-- what is passed on may stand in a PUBLISH
pub passed_may : (ps : List Prop) → all_may_stand Publish (passed_on ps) ≡ true
passed_may ps = subst (λ (xs : List Prop). all_may_stand Publish xs ≡ true) (chain_is ps) (chain_may ps)

-- what is passed on is lawful in a PUBLISH
pub passed_lawful : (place : Place) (ps : List Prop) → is_lawful place ps ≡ true → is_lawful Publish (passed_on ps) ≡ true
passed_lawful place ps h = subst (λ (xs : List Prop). is_lawful Publish xs ≡ true) (chain_is ps) (chain_lawful place ps h)

-- ---- sizes

-- two lists of properties have the bytes of both
pub props_append : (ps qs : List Prop) → length (props (ps ++ qs)) ≡ length (props ps) + length (props qs)
props_append [] qs = omega arith
props_append (p ∷ ps) qs =
    let rest = props_append ps qs in
    let whole = length-append (prop p) (props (ps ++ qs)) in
    let front = length-append (prop p) (props ps) in
    omega (arith, rest, whole, front)

-- the properties of one name and the others have the bytes of all
pub parted : (name : PropName) (ps : List Prop) → length (props (only name ps)) + length (props (without name ps)) ≡ length (props ps)
parted name [] = refl
parted name (p ∷ ps) =
    let rest = parted name ps in
    let whole = length-append (prop p) (props ps) in
    elim (cases_Bool (is_named name p)) [
      | inl named ↦ let first = length-append (prop p) (props (only name ps)) in rw named (omega (arith, rest, whole, first))
      | inr other ↦ let first = length-append (prop p) (props (without name ps)) in rw other (omega (arith, rest, whole, first))
    ]

only_without : (m n : PropName) (ps : List Prop) → IsApart m n → only n (without m ps) ≡ only n ps
only_without m n [] apart = refl
only_without m n (p ∷ ps) apart =
    let rest = only_without m n ps apart in
    elim (cases_Bool (is_named m p)) [
      | inl named ↦
          let other : is_named n p ≡ false = ap (λ (i : ℕ). i == (property_row n).id) (eqb-true (property_row p.name).id (property_row m).id named) ∙ apart in
          rw (named, other) rest
      | inr other ↦ elim (cases_Bool (is_named n p)) [
        | inl named ↦ rw (other, named) (ap (λ (xs : List Prop). p ∷ xs) rest)
        | inr neither ↦ rw (other, neither) rest
      ]
    ]

abbrev sizes : List PropName → List Prop → ℕ
sizes [] ps = 0
sizes (n ∷ ns) ps = length (props (only n ps)) + sizes ns ps

abbrev AreApart : List PropName → Type 0
AreApart [] = ⊤
AreApart (n ∷ ns) = AllByRecursion (IsApart n) ns × AreApart ns

sizes_without : (m : PropName) (ns : List PropName) (ps : List Prop) → AllByRecursion (IsApart m) ns → sizes ns (without m ps) ≡ sizes ns ps
sizes_without m [] ps apart = refl
sizes_without m (n ∷ ns) ps apart =
    let rest = sizes_without m ns ps apart.1 in
    let same : length (props (only n (without m ps))) ≡ length (props (only n ps)) = ap (λ (xs : List Prop). length (props xs)) (only_without m n ps apart.0) in
    omega (arith, rest, same)

sizes_within : (ns : List PropName) (ps : List Prop) → AreApart ns → sizes ns ps ≤ length (props ps)
sizes_within [] ps apart = omega arith
sizes_within (n ∷ ns) ps apart =
    let rest = sizes_within ns (without n ps) apart.1 in
    let same = sizes_without n ns ps apart.0 in
    let whole = parted n ps in
    omega (arith, rest, same, whole)

chain_size : (ps : List Prop) → length (props (chain ps)) ≡ sizes passed_names ps
chain_size ps =
    let a = props_append (only PayloadFormatIndicator ps) (from_expiry ps) in
    let b = props_append (only MessageExpiryInterval ps) (from_type ps) in
    let c = props_append (only ContentType ps) (from_topic ps) in
    let d = props_append (only ResponseTopic ps) (from_data ps) in
    let e = props_append (only CorrelationData ps) (users_of ps) in
    let f = props_append (only UserProperty ps) [] in
    omega (arith, a, b, c, d, e, f)

names_apart : AreApart passed_names
names_apart = (
  (refl, (refl, (refl, (refl, (refl, tt))))),
  ((refl, (refl, (refl, (refl, tt)))), ((refl, (refl, (refl, tt))), ((refl, (refl, tt)), ((refl, tt), (tt, tt))))),
)

-- what is passed on is no longer than what came
pub passed_short : (ps : List Prop) → length (props (passed_on ps)) ≤ length (props ps)
passed_short ps =
    let is : length (props (chain ps)) ≡ length (props (passed_on ps)) = ap (λ (xs : List Prop). length (props xs)) (chain_is ps) in
    let size = chain_size ps in
    let within = sizes_within passed_names ps names_apart in
    omega (arith, is, size, within)

each_only : (name : PropName) (ps rest : List Prop) → FitsBlock ps → AllByRecursion IsProp rest → AllByRecursion IsProp (only name ps ++ rest)
each_only name ps rest fits h = each_append IsProp (only name ps) rest (FitsBlock-filter (is_named name) ps fits).each h

-- what is passed on fits a block if what came did
pub passed_fits : (ps : List Prop) → FitsBlock ps → FitsBlock (passed_on ps)
passed_fits ps fits =
    let each =
    each_only PayloadFormatIndicator ps (from_expiry ps) fits
    (each_only MessageExpiryInterval ps (from_type ps) fits
    (each_only ContentType ps (from_topic ps) fits
    (each_only ResponseTopic ps (from_data ps) fits
    (each_only CorrelationData ps (users_of ps) fits
    (each_only UserProperty ps [] fits tt))))) in
    let short = passed_short ps in
    let long = fits.short in
    record { each = subst (λ (xs : List Prop). AllByRecursion IsProp xs) (chain_is ps) each; short = omega (arith, short, long) }

-- a shorter list of properties has no longer block
pub block_within : (ps qs : List Prop) → length (props ps) ≤ length (props qs) → length (block ps) ≤ length (block qs)
block_within ps qs le =
    let lengths = varint_sizes (length (props ps)) (length (props qs)) le in
    let old = length-append (varint (length (props ps))) (props ps) in
    let new = length-append (varint (length (props qs))) (props qs) in
    omega (arith, le, lengths, old, new)
