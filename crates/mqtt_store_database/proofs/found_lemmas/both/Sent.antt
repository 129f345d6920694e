-- What is sent of a copy, read back (MQTT 5.0, 3.3.2.3).
use Rattle.std.proofs.Common.{◌≡◌, ◌⊎◌, ℕ, ◌≤◌, ◌<◌, ◌-◌, Bool, true, false, ◌&&◌, List, [], ◌∷◌, ◌++◌, map, nat_le, refl, sym, ap, subst, ◌∙◌, arith, inl, inr}
use Rattle.std.specs.List.{AllByRecursion}
use Rattle.std.specs.Prelude.{◌==◌}
use Rattle.std.proofs.lemmas.Bool.{cases_Bool, eqb-true, leb-true}
use Rattle.mqtt_base.proofs.Steps.{ok_is}
use Rattle.mqtt_props.specs.declared.table.PropName.{PropName}
use Rattle.mqtt_props.specs.declared.table.PropName.TheVariants.{PayloadFormatIndicator, MessageExpiryInterval, ContentType, ResponseTopic, CorrelationData, SubscriptionIdentifier, UserProperty}
use Rattle.mqtt_props.specs.declared.value.ValueKind.TheVariants as kinds
use Rattle.mqtt_props.specs.Table.{property_row}
use Rattle.mqtt_props.specs.Properties.{Value, Byte, U16, U32, VarInt, Text, Binary, Pair, Prop, IsProp, FitsBlock, kind_of, block}
use Rattle.mqtt_props.specs.Laws.{is_named}
use Rattle.mqtt_props.specs.Edits.{only, without}
use Rattle.mqtt_props.specs.Reading.{block_at}
use Rattle.mqtt_props.proofs.Blocks.{block_again}
use Rattle.mqtt_props.proofs.TableLemmas.{id_is}
use Rattle.mqtt_records.specs.messages.PassedOn.{id_of, number_in, goes_on, property, aged, identified, sent_after, rises_from as passes_from}
use Rattle.sqlite_value.specs.declared.value.Value.{Value as Column}
use Rattle.mqtt_store_rows.specs.values.Blocks.{rises_from, identifiers_in, SaysSent}

-- ---- a block

-- properties with the same block are the same
pub block_one : (ps qs : List Prop) → FitsBlock ps → FitsBlock qs → block ps ≡ block qs → ps ≡ qs
block_one ps qs h k same =
    let first = block_again ps [] h in
    let second = block_again qs [] k in
    let pair : (ps, []) ≡ (qs, []) = ok_is (ps, []) (qs, []) (sym first ∙ (ap (λ (b : List ℕ). block_at (b ++ [])) same ∙ second)) in
    ap (λ (x : List Prop × List ℕ). x.0) pair

-- ---- one property

both : (a b : Bool) → (a && b) ≡ true → (a ≡ true) × (b ≡ true)
both true b h = (refl, h)
both false b h = absurd cc

name_is : (name : PropName) (p : Prop) → is_named name p ≡ true → p.name ≡ name
name_is name p named = id_is p.name name (eqb-true (property_row p.name).id (property_row name).id named)

number_is : (v : Value) → kind_of v ≡ kinds.VarInt → v ≡ VarInt (number_in v)
number_is (VarInt n) kind = refl
number_is (Byte n) kind = absurd cc
number_is (U16 n) kind = absurd cc
number_is (U32 n) kind = absurd cc
number_is (Text t) kind = absurd cc
number_is (Binary b) kind = absurd cc
number_is (Pair k t) kind = absurd cc

seconds_are : (v : Value) → kind_of v ≡ kinds.U32 → U32 (number_in v - 0) ≡ v
seconds_are (U32 n) kind = let same : n - 0 ≡ n = omega arith in ap U32 same
seconds_are (Byte n) kind = absurd cc
seconds_are (U16 n) kind = absurd cc
seconds_are (VarInt n) kind = absurd cc
seconds_are (Text t) kind = absurd cc
seconds_are (Binary b) kind = absurd cc
seconds_are (Pair k t) kind = absurd cc

same_prop : (m n : PropName) (v w : Value) → m ≡ n → v ≡ w → property m v ≡ property n w
same_prop m n v w p q = rw (p, q) refl

identifier_is : (p : Prop) → IsProp p → is_named SubscriptionIdentifier p ≡ true → p ≡ identified (number_in p.value)
identifier_is p fits named =
    let name = name_is SubscriptionIdentifier p named in
    let kind : kind_of p.value ≡ kinds.VarInt = fits.kind ∙ ap (λ (n : PropName). (property_row n).kind) name in
    same_prop p.name SubscriptionIdentifier p.value (VarInt (number_in p.value)) name (number_is p.value kind)

-- when nothing was waited it is sent as it is
aged_is : (p : Prop) → IsProp p → aged 0 p ≡ p
aged_is p fits = elim (cases_Bool (is_named MessageExpiryInterval p)) [
  | inl named ↦
      let name = name_is MessageExpiryInterval p named in
      let kind : kind_of p.value ≡ kinds.U32 = fits.kind ∙ ap (λ (n : PropName). (property_row n).kind) name in
      rw named (same_prop MessageExpiryInterval p.name (U32 (number_in p.value - 0)) p.value (sym name) (seconds_are p.value kind))
  | inr other ↦ rw other refl
]

-- what is passed on and is no User Property has a low identifier
low_name : (n : PropName) → goes_on (property_row n).id ≡ true → ((property_row n).id == 38) ≡ false → (property_row n).id ≤ 9
low_name PayloadFormatIndicator on other = omega arith
low_name MessageExpiryInterval on other = omega arith
low_name ContentType on other = omega arith
low_name ResponseTopic on other = omega arith
low_name CorrelationData on other = omega arith
low_name UserProperty on other = let e : true ≡ false = other in absurd cc
low_name n on other = let e : false ≡ true = on in absurd cc

low : (p : Prop) → goes_on (id_of p) ≡ true → is_named UserProperty p ≡ false → id_of p ≤ 9
low p on other = low_name p.name on other

-- it is passed on, or a Subscription Identifier
abbrev Known : Prop → Type 0
Known p = (is_named SubscriptionIdentifier p ≡ true) ⊎ (goes_on (id_of p) ≡ true)

known_on : (p : Prop) → Known p → is_named SubscriptionIdentifier p ≡ false → goes_on (id_of p) ≡ true
known_on p (inl named) other = let e : true ≡ false = sym named ∙ other in absurd cc
known_on p (inr on) other = on

-- properties of which all but the Subscription Identifiers are passed on are known
pub all_known : (id : ℕ) (ps : List Prop) → passes_from id (without SubscriptionIdentifier ps) ≡ true → AllByRecursion Known ps
all_known id [] up = tt
all_known id (p ∷ ps) up = elim (cases_Bool (is_named SubscriptionIdentifier p)) [
  | inl named ↦ let rest : passes_from id (without SubscriptionIdentifier ps) ≡ true = rw named at up in (inl named, all_known id ps rest)
  | inr other ↦
      let here : passes_from id (p ∷ without SubscriptionIdentifier ps) ≡ true = rw other at up in
      let parts = both (nat_le id (id_of p) && goes_on (id_of p)) (passes_from (id_of p) (without SubscriptionIdentifier ps)) here in
      (inr (both (nat_le id (id_of p)) (goes_on (id_of p)) parts.0).1, all_known (id_of p) ps parts.1)
]

-- ---- behind a Subscription Identifier, and behind a User Property

abbrev plain : List Prop → List Prop
plain ps = without UserProperty (without SubscriptionIdentifier ps)

no_plain : (n : ℕ) (ps : List Prop) → 9 < n → rises_from n ps ≡ true → AllByRecursion Known ps → plain ps ≡ []
no_plain n [] high up all = refl
no_plain n (p ∷ ps) high up all =
    let parts = both (nat_le n (id_of p)) (rises_from (id_of p) ps) up in
    let above = leb-true n (id_of p) parts.0 in
    let rest = no_plain (id_of p) ps (omega (arith, high, above)) parts.1 all.1 in
    elim (cases_Bool (is_named SubscriptionIdentifier p)) [
      | inl named ↦ rw named rest
      | inr other ↦ elim (cases_Bool (is_named UserProperty p)) [
        | inl user ↦ rw (other, user) rest
        | inr none ↦ let below = low p (known_on p all.0 other) none in absurd (omega (arith, high, above, below))
      ]
    ]

no_identifier : (n : ℕ) (ps : List Prop) → 11 < n → rises_from n ps ≡ true → only SubscriptionIdentifier ps ≡ []
no_identifier n [] high up = refl
no_identifier n (p ∷ ps) high up =
    let parts = both (nat_le n (id_of p)) (rises_from (id_of p) ps) up in
    let above = leb-true n (id_of p) parts.0 in
    let rest = no_identifier (id_of p) ps (omega (arith, high, above)) parts.1 in
    elim (cases_Bool (is_named SubscriptionIdentifier p)) [
      | inl named ↦ let is = eqb-true (id_of p) 11 named in absurd (omega (arith, high, above, is))
      | inr other ↦ rw other rest
    ]

-- ---- properties in their order are those that are sent

abbrev parts_of : List Prop → List ℕ → List Prop → List Prop
parts_of before ids users = map (aged 0) before ++ map identified ids ++ users

-- known properties in their order are what is sent of the others with the Subscription Identifiers
pub sent_is : (n : ℕ) (ps : List Prop) → rises_from n ps ≡ true → AllByRecursion Known ps → AllByRecursion IsProp ps → ps ≡ sent_after 0 (identifiers_in ps) (without SubscriptionIdentifier ps)
sent_is n [] up all fits = refl
sent_is n (p ∷ ps) up all fits =
    let parts = both (nat_le n (id_of p)) (rises_from (id_of p) ps) up in
    let rest : ps ≡ parts_of (plain ps) (identifiers_in ps) (only UserProperty (without SubscriptionIdentifier ps)) = sent_is (id_of p) ps parts.1 all.1 fits.1 in
    let users = only UserProperty (without SubscriptionIdentifier ps) in
    elim (cases_Bool (is_named SubscriptionIdentifier p)) [
      | inl named ↦
          let is = eqb-true (id_of p) 11 named in
          let none : plain ps ≡ [] = no_plain (id_of p) ps (omega (arith, is)) parts.1 all.1 in
          let more : ps ≡ map identified (identifiers_in ps) ++ users = rest ∙ ap (λ (xs : List Prop). parts_of xs (identifiers_in ps) users) none in
          let first : p ≡ identified (number_in p.value) = identifier_is p fits.0 named in
          rw (named, none) (ap (λ (x : Prop). x ∷ ps) first ∙ ap (λ (xs : List Prop). identified (number_in p.value) ∷ xs) more)
      | inr other ↦ elim (cases_Bool (is_named UserProperty p)) [
        | inl user ↦
            let is = eqb-true (id_of p) 38 user in
            let none : plain ps ≡ [] = no_plain (id_of p) ps (omega (arith, is)) parts.1 all.1 in
            let nameless : only SubscriptionIdentifier ps ≡ [] = no_identifier (id_of p) ps (omega (arith, is)) parts.1 in
            let ids : identifiers_in ps ≡ [] = ap (map (λ (x : Prop). number_in x.value)) nameless in
            let more : ps ≡ users = rest ∙ (ap (λ (xs : List Prop). parts_of xs (identifiers_in ps) users) none ∙ ap (λ (ns : List ℕ). parts_of [] ns users) ids) in
            rw (other, user, none, nameless) (ap (λ (xs : List Prop). p ∷ xs) more)
        | inr not_user ↦
            rw (other, not_user) (ap (λ (x : Prop). x ∷ ps) (sym (aged_is p fits.0)) ∙ ap (λ (xs : List Prop). aged 0 p ∷ xs) rest)
      ]
    ]

-- ---- what is sent tells what was passed on, and the identifiers

plain_name : (n : PropName) → goes_on (property_row n).id ≡ true → ((property_row n).id == 11) ≡ false
plain_name SubscriptionIdentifier on = let e : false ≡ true = on in absurd cc
plain_name n on = refl

no_identifiers_passed : (id : ℕ) (ps : List Prop) → passes_from id ps ≡ true → (without SubscriptionIdentifier ps ≡ ps) × (only SubscriptionIdentifier ps ≡ [])
no_identifiers_passed id [] up = (refl, refl)
no_identifiers_passed id (p ∷ ps) up =
    let parts = both (nat_le id (id_of p) && goes_on (id_of p)) (passes_from (id_of p) ps) up in
    let on = (both (nat_le id (id_of p)) (goes_on (id_of p)) parts.0).1 in
    let other : is_named SubscriptionIdentifier p ≡ false = plain_name p.name on in
    let rest = no_identifiers_passed (id_of p) ps parts.1 in
    (rw other (ap (λ (xs : List Prop). p ∷ xs) rest.0), rw other rest.1)

-- behind a User Property stand others alone
users_alone : (id : ℕ) (ps : List Prop) → 9 < id → passes_from id ps ≡ true → (without UserProperty ps ≡ []) × (only UserProperty ps ≡ ps)
users_alone id [] high up = (refl, refl)
users_alone id (p ∷ ps) high up =
    let parts = both (nat_le id (id_of p) && goes_on (id_of p)) (passes_from (id_of p) ps) up in
    let first = both (nat_le id (id_of p)) (goes_on (id_of p)) parts.0 in
    let above = leb-true id (id_of p) first.0 in
    let rest = users_alone (id_of p) ps (omega (arith, high, above)) parts.1 in
    elim (cases_Bool (is_named UserProperty p)) [
      | inl user ↦ (rw user rest.0, rw user (ap (λ (xs : List Prop). p ∷ xs) rest.1))
      | inr none ↦ let below = low p first.1 none in absurd (omega (arith, high, above, below))
    ]

abbrev Tells : List ℕ → List Prop → List Prop → Type 0
Tells ids ps all = (without SubscriptionIdentifier all ≡ ps) × (identifiers_in all ≡ ids)

-- the identifiers stand first
tells_identifiers : (ids : List ℕ) (ps : List Prop) → without SubscriptionIdentifier ps ≡ ps → only SubscriptionIdentifier ps ≡ [] → Tells ids ps (map identified ids ++ ps)
tells_identifiers [] ps rest none = (rest, ap (map (λ (x : Prop). number_in x.value)) none)
tells_identifiers (n ∷ ids) ps rest none =
    let more = tells_identifiers ids ps rest none in
    (more.0, ap (λ (ns : List ℕ). n ∷ ns) more.1)

-- what is sent tells what was passed on, and the Subscription Identifiers
pub sent_tells : (id : ℕ) (ids : List ℕ) (ps : List Prop) → passes_from id ps ≡ true → AllByRecursion IsProp ps → Tells ids ps (sent_after 0 ids ps)
sent_tells id ids [] up fits = tells_identifiers ids [] refl refl
sent_tells id ids (p ∷ ps) up fits =
    let parts = both (nat_le id (id_of p) && goes_on (id_of p)) (passes_from (id_of p) ps) up in
    let on = (both (nat_le id (id_of p)) (goes_on (id_of p)) parts.0).1 in
    let other : is_named SubscriptionIdentifier p ≡ false = plain_name p.name on in
    elim (cases_Bool (is_named UserProperty p)) [
      | inl user ↦
          let is = eqb-true (id_of p) 38 user in
          let alone = users_alone (id_of p) ps (omega (arith, is)) parts.1 in
          let none = no_identifiers_passed id (p ∷ ps) up in
          rw (user, alone.0, alone.1) (tells_identifiers ids (p ∷ ps) none.0 none.1)
      | inr not_user ↦
          let rest = sent_tells (id_of p) ids ps parts.1 fits.1 in
          let same = aged_is p fits.0 in
          rw (not_user, same, other) (ap (λ (xs : List Prop). p ∷ xs) rest.0, rest.1)
    ]

-- ---- what a column says is what is sent

-- a column that says what is sent has just these properties
pub says_sent : (ps : List Prop) (ids : List ℕ) (v : Column) (h : SaysSent ps ids v) → h.all ≡ sent_after 0 ids ps
says_sent ps ids v h =
    let passed : passes_from 0 (without SubscriptionIdentifier h.all) ≡ true = subst (λ (xs : List Prop). passes_from 0 xs ≡ true) (sym h.passed) h.goes_on in
    let sent = sent_is 0 h.all h.order (all_known 0 h.all passed) h.block.is.fits.each in
    sent ∙ (ap (λ (ns : List ℕ). sent_after 0 ns (without SubscriptionIdentifier h.all)) h.identifiers ∙ ap (sent_after 0 ids) h.passed)
