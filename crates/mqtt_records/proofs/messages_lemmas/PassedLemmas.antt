-- What is passed on rises, and a front of what fits fits (MQTT 5.0, 2.2.2, 3.3.2.3).
use Rattle.std.proofs.Common.{◌≡◌, ℕ, Bool, true, false, ◌&&◌, List, [], ◌∷◌, ◌++◌, length, map, nat_le, refl, sym, ap, subst, ◌∙◌, append_assoc, append-nil, arith, inl, inr}
use Rattle.std.specs.List.{AllByRecursion, list_any}
use Rattle.std.proofs.lemmas.Bool.{eqb-true, cases_Bool, leb-true, le-leb}
use Rattle.std.proofs.lemmas.Grind.{flat_map-append}
use Rattle.std.proofs.lemmas.List.{length-append}
use Rattle.mqtt_props.specs.declared.fault.PropFault.{PropFault}
use Rattle.mqtt_props.specs.declared.fault.PropFault.TheVariants.{Malformed, Twice, BadValue, Memory}
use Rattle.mqtt_props.specs.declared.table.PropName.{PropName}
use Rattle.mqtt_props.specs.declared.table.PropName.TheVariants.{PayloadFormatIndicator, MessageExpiryInterval, ContentType, ResponseTopic, CorrelationData, UserProperty}
use Rattle.mqtt_props.specs.Table.{property_row}
use Rattle.mqtt_props.specs.Properties.{Prop, IsProp, prop, props, FitsBlock}
use Rattle.mqtt_props.specs.Laws.{is_named}
use Rattle.mqtt_props.specs.Edits.{only, without, AddRefuses}
use Rattle.mqtt_records.specs.messages.PassedOn.{passed_on, id_of, goes_on, rises_from, aged, identified}

-- ---- tests

both : (a b : Bool) → (a && b) ≡ true → (a ≡ true) × (b ≡ true)
both true b h = (refl, h)
both false b h = absurd cc

all_three : (a b c : Bool) → a ≡ true → b ≡ true → c ≡ true → (a && b && c) ≡ true
all_three true true true p q r = refl
all_three true true false p q r = absurd cc
all_three true false c p q r = absurd cc
all_three false b c p q r = absurd cc

le-trans : (a b c : ℕ) → nat_le a b ≡ true → nat_le b c ≡ true → nat_le a c ≡ true
le-trans a b c h k =
    let first = leb-true a b h in
    let second = leb-true b c k in
    le-leb a c (omega (arith, first, second))

le-same : (a : ℕ) → nat_le a a ≡ true
le-same a = le-leb a a (omega arith)

-- ---- rising

-- what rises from an identifier rises from a lower one
pub rises-lower : (n k : ℕ) (ps : List Prop) → nat_le n k ≡ true → rises_from k ps ≡ true → rises_from n ps ≡ true
rises-lower n k [] le r = refl
rises-lower n k (p ∷ ps) le r =
    let split = both (nat_le k (id_of p) && goes_on (id_of p)) (rises_from (id_of p) ps) r in
    let first = both (nat_le k (id_of p)) (goes_on (id_of p)) split.0 in
    all_three (nat_le n (id_of p)) (goes_on (id_of p)) (rises_from (id_of p) ps) (le-trans n k (id_of p) le first.0) first.1 split.1

rises-only : (name : PropName) (k n : ℕ) (ps rest : List Prop) → (property_row name).id ≡ k → nat_le n k ≡ true → goes_on k ≡ true → rises_from k rest ≡ true → rises_from n (only name ps ++ rest) ≡ true
rises-only name k n [] rest is le goes r = rises-lower n k rest le r
rises-only name k n (p ∷ ps) rest is le goes r = elim (cases_Bool (is_named name p)) [
  | inl named ↦
      let same : id_of p ≡ k = eqb-true (id_of p) (property_row name).id named ∙ is in
      let low : nat_le n (id_of p) ≡ true = ap (λ (m : ℕ). nat_le n m) same ∙ le in
      let on : goes_on (id_of p) ≡ true = ap goes_on same ∙ goes in
      let more : rises_from (id_of p) (only name ps ++ rest) ≡ true = ap (λ (m : ℕ). rises_from m (only name ps ++ rest)) same ∙ rises-only name k k ps rest is (le-same k) goes r in
      rw named (all_three (nat_le n (id_of p)) (goes_on (id_of p)) (rises_from (id_of p) (only name ps ++ rest)) low on more)
  | inr other ↦ rw other (rises-only name k n ps rest is le goes r)
]

-- what is passed on is in the order that it is kept in
pub passed_on-rises : (ps : List Prop) → rises_from 0 (passed_on ps) ≡ true
passed_on-rises ps =
    let last : rises_from 9 (only UserProperty ps ++ []) ≡ true = rises-only UserProperty 38 9 ps [] refl refl refl refl in
    let user : rises_from 9 (only UserProperty ps) ≡ true = subst (λ (xs : List Prop). rises_from 9 xs ≡ true) (append-nil (only UserProperty ps)) last in
    let correlation = rises-only CorrelationData 9 8 ps (only UserProperty ps) refl refl refl user in
    let topic = rises-only ResponseTopic 8 3 ps (only CorrelationData ps ++ only UserProperty ps) refl refl refl correlation in
    let kind = rises-only ContentType 3 2 ps (only ResponseTopic ps ++ (only CorrelationData ps ++ only UserProperty ps)) refl refl refl topic in
    let expiry = rises-only MessageExpiryInterval 2 1 ps (only ContentType ps ++ (only ResponseTopic ps ++ (only CorrelationData ps ++ only UserProperty ps))) refl refl refl kind in
    let format = rises-only PayloadFormatIndicator 1 0 ps (only MessageExpiryInterval ps ++ (only ContentType ps ++ (only ResponseTopic ps ++ (only CorrelationData ps ++ only UserProperty ps)))) refl refl refl expiry in
    simp append_assoc format

-- ---- a front of a block

front-each : (xs ys : List Prop) → AllByRecursion IsProp (xs ++ ys) → AllByRecursion IsProp xs
front-each [] ys h = tt
front-each (x ∷ xs) ys h = (h.0, front-each xs ys h.1)

-- a front of what fits a block fits
pub front-fits : (xs ys : List Prop) → FitsBlock (xs ++ ys) → FitsBlock xs
front-fits xs ys h =
    let parts = ap length (flat_map-append prop xs ys) in
    let sum = length-append (props xs) (props ys) in
    let short = h.short in
    record { each = front-each xs ys h.each; short = omega (arith, parts, sum, short) }

-- what refuses a front refuses the whole
pub front-refuses : (xs ys all : List Prop) (fault : PropFault) → xs ++ ys ≡ all → AddRefuses xs fault → AddRefuses all fault
front-refuses xs ys all Malformed is h = λ fits. h (front-fits xs ys (subst FitsBlock (sym is) fits))
front-refuses xs ys all Twice is h = h
front-refuses xs ys all BadValue is h = h
front-refuses xs ys all Memory is h = tt

-- ---- the parts of what is sent

-- what is added next stands in the whole, if what was added and what is left are the whole
next-refuses : (list rest all : List Prop) (x : Prop) (left : List Prop) (fault : PropFault) → left ≡ x ∷ rest → list ++ left ≡ all → AddRefuses (list ++ x ∷ []) fault → AddRefuses all fault
next-refuses list rest all x left fault is whole h =
    front-refuses (list ++ x ∷ []) rest all fault (append_assoc list (x ∷ []) rest ∙ ap (λ (ys : List Prop). list ++ ys) (sym is) ∙ whole) h

-- a list that refuses an aged property refuses the whole
pub aged-refuses : (waited : ℕ) (list rest after all : List Prop) (p x : Prop) (fault : PropFault) → rest ≡ p ∷ after → is_named UserProperty p ≡ false → x ≡ aged waited p → list ++ map (aged waited) (without UserProperty rest) ≡ all → AddRefuses (list ++ x ∷ []) fault → AddRefuses all fault
aged-refuses waited list rest after all p x fault found other is whole h =
    next-refuses list (map (aged waited) (without UserProperty after)) all x (map (aged waited) (without UserProperty rest)) fault (rw (found, other, is) refl) whole h

-- one that refuses an identifier does too
pub identified-refuses : (list all : List Prop) (id : ℕ) (rest after : List ℕ) (fault : PropFault) → rest ≡ id ∷ after → list ++ map identified rest ≡ all → AddRefuses (list ++ identified id ∷ []) fault → AddRefuses all fault
identified-refuses list all id rest after fault found whole h =
    next-refuses list (map identified after) all (identified id) (map identified rest) fault (ap (map identified) found) whole h

-- no property of a name
pub none-only : (name : PropName) (ps : List Prop) → list_any (is_named name) ps ≡ false → only name ps ≡ []
none-only name [] none = refl
none-only name (p ∷ ps) none = elim (cases_Bool (is_named name p)) [
  | inl named ↦ let no : true ≡ false = rw named at none in absurd cc
  | inr other ↦ let rest : list_any (is_named name) ps ≡ false = rw other at none in rw other (none-only name ps rest)
]

-- the first part refuses the whole, and the first two do
pub first-refuses : (list a b c : List Prop) (fault : PropFault) → list ≡ [] → AddRefuses (list ++ a) fault → AddRefuses (a ++ b ++ c) fault
first-refuses list a b c fault none h =
    let is : a ++ (b ++ c) ≡ a ++ b ++ c = sym (append_assoc a b c) in
    front-refuses (list ++ a) (b ++ c) (a ++ b ++ c) fault (ap (λ (xs : List Prop). (xs ++ a) ++ (b ++ c)) none ∙ is) h

-- so does one that refuses what is behind the first part
pub second-refuses : (list new a b c : List Prop) (fault : PropFault) → list ≡ [] → new ≡ list ++ a → AddRefuses (new ++ b) fault → AddRefuses (a ++ b ++ c) fault
second-refuses list new a b c fault none made h =
    front-refuses (new ++ b) c (a ++ b ++ c) fault (ap (λ (xs : List Prop). (xs ++ b) ++ c) (made ∙ ap (λ (xs : List Prop). xs ++ a) none)) h
