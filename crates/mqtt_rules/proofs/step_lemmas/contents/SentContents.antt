-- What is sent of a copy keeps the laws of a PUBLISH and has a spelling (MQTT 5.0, 3.3.2.3).
use Rattle.std.proofs.Common.{◌≡◌, ℕ, ◌+◌, ◌*◌, ◌-◌, ◌≤◌, ◌<◌, ◌^◌, Bool, true, false, ◌||◌, not, List, [], ◌∷◌, ◌++◌, length, filter, map, refl, sym, ap, subst, ◌∙◌, append_assoc, arith, inl, inr}
use Rattle.std.specs.Prelude.{◌==◌, Some}
use Rattle.std.specs.List.{AllByRecursion, list_all}
use Rattle.std.proofs.lemmas.Bool.{cases_Bool, lt-ltb}
use Rattle.std.proofs.lemmas.List.{length-append}
use Rattle.mqtt_base.specs.Values.{varint}
use Rattle.mqtt_base.proofs.Varints.{varint_sizes}
use Rattle.mqtt_props.specs.declared.place.Place.TheVariants.{Publish}
use Rattle.mqtt_props.specs.declared.table.PropName.{PropName}
use Rattle.mqtt_props.specs.declared.table.PropName.TheVariants.{MessageExpiryInterval, UserProperty, AuthenticationMethod, AuthenticationData}
use Rattle.mqtt_props.specs.declared.value.ValueKind.TheVariants as kinds
use Rattle.mqtt_props.specs.Table.{property_row, may_stand}
use Rattle.mqtt_props.specs.Properties.{Value, Byte, U16, U32, VarInt, Text, Binary, Pair, Prop, IsProp, FitsValue, kind_of, value, prop, props, FitsBlock}
use Rattle.mqtt_props.specs.Laws.{all_may_stand, may_repeat, is_named, has, none_repeats, is_lawful_value, has_method_for_data, values_are_lawful, is_lawful}
use Rattle.mqtt_props.specs.Edits.{only, without}
use Rattle.mqtt_props.proofs.EditLemmas.{FitsBlock-filter}
use Rattle.mqtt_records.specs.messages.PassedOn.{number_in, aged, identified, sent_after}
use Rattle.mqtt_keep.specs.lawful.Lawful.{IsIdentifier}
use Rattle.mqtt_rules.specs.step.Contents.{AreIdentifiersOf, Sizes}
use Rattle.mqtt_rules.proofs.step_lemmas.numbers.Copies.{each_append}
use Rattle.mqtt_rules.proofs.step_lemmas.contents.PassedContents.{two, and_two, not_again, where_may, unless_found, name_is, parted, props_append, no_data}

-- ---- one property, aged

u32_fits : (waited : ℕ) (v : Value) → kind_of v ≡ kinds.U32 → FitsValue v → number_in v - waited < 2 ^ 32
u32_fits waited (U32 n) kind fits = omega (arith, fits)
u32_fits waited (Byte n) kind fits = absurd cc
u32_fits waited (U16 n) kind fits = absurd cc
u32_fits waited (VarInt n) kind fits = absurd cc
u32_fits waited (Text t) kind fits = absurd cc
u32_fits waited (Binary b) kind fits = absurd cc
u32_fits waited (Pair k t) kind fits = absurd cc

u32_length : (n : ℕ) (v : Value) → kind_of v ≡ kinds.U32 → length (value (U32 n)) ≡ length (value v)
u32_length n (U32 m) kind = refl
u32_length n (Byte m) kind = absurd cc
u32_length n (U16 m) kind = absurd cc
u32_length n (VarInt m) kind = absurd cc
u32_length n (Text t) kind = absurd cc
u32_length n (Binary b) kind = absurd cc
u32_length n (Pair k t) kind = absurd cc

expiry_kind : (p : Prop) → is_named MessageExpiryInterval p ≡ true → IsProp p → kind_of p.value ≡ kinds.U32
expiry_kind p named h = h.kind ∙ ap (λ (n : PropName). (property_row n).kind) (name_is MessageExpiryInterval p named)

aged_prop : (waited : ℕ) (p : Prop) → IsProp p → IsProp (aged waited p)
aged_prop waited p h = elim (cases_Bool (is_named MessageExpiryInterval p)) [
  | inl named ↦ rw named (record { kind = refl; fits = u32_fits waited p.value (expiry_kind p named h) h.fits })
  | inr other ↦ rw other h
]

aged_size : (waited : ℕ) (p : Prop) → IsProp p → length (prop (aged waited p)) ≡ length (prop p)
aged_size waited p h = elim (cases_Bool (is_named MessageExpiryInterval p)) [
  | inl named ↦ let same = u32_length (number_in p.value - waited) p.value (expiry_kind p named h) in rw named (omega (arith, same))
  | inr other ↦ rw other refl
]

aged_name : (waited : ℕ) (p : Prop) → (aged waited p).name ≡ p.name
aged_name waited p = elim (cases_Bool (is_named MessageExpiryInterval p)) [
  | inl named ↦ rw named (sym (name_is MessageExpiryInterval p named))
  | inr other ↦ rw other refl
]

aged_value : (waited : ℕ) (p : Prop) → is_lawful_value p.name p.value ≡ true → is_lawful_value (aged waited p).name (aged waited p).value ≡ true
aged_value waited p h = elim (cases_Bool (is_named MessageExpiryInterval p)) [
  | inl named ↦ rw named refl
  | inr other ↦ rw other h
]

-- ---- lists

all_append : (test : Prop → Bool) (xs ys : List Prop) → list_all test xs ≡ true → list_all test ys ≡ true → list_all test (xs ++ ys) ≡ true
all_append test [] ys h q = q
all_append test (x ∷ xs) ys h q =
    let parts = two (test x) (list_all test xs) h in
    and_two (test x) (list_all test (xs ++ ys)) parts.0 (all_append test xs ys parts.1 q)

all_filter : (test keep : Prop → Bool) (xs : List Prop) → list_all test xs ≡ true → list_all test (filter keep xs) ≡ true
all_filter test keep [] h = refl
all_filter test keep (x ∷ xs) h =
    let parts = two (test x) (list_all test xs) h in
    elim (cases_Bool (keep x)) [
      | inl stays ↦ rw stays (and_two (test x) (list_all test (filter keep xs)) parts.0 (all_filter test keep xs parts.1))
      | inr goes ↦ rw goes (all_filter test keep xs parts.1)
    ]

all_aged : (test : Prop → Bool) (waited : ℕ) (xs : List Prop) → ((p : Prop) → test p ≡ true → test (aged waited p) ≡ true) → list_all test xs ≡ true → list_all test (map (aged waited) xs) ≡ true
all_aged test waited [] kept h = refl
all_aged test waited (x ∷ xs) kept h =
    let parts = two (test x) (list_all test xs) h in
    and_two (test (aged waited x)) (list_all test (map (aged waited) xs)) (kept x parts.0) (all_aged test waited xs kept parts.1)

all_identified : (test : Prop → Bool) (ids : List ℕ) → ((n : ℕ) → IsIdentifier (Some n) → test (identified n) ≡ true) → AllByRecursion (λ n. IsIdentifier (Some n)) ids → list_all test (map identified ids) ≡ true
all_identified test [] is h = refl
all_identified test (n ∷ ns) is h = and_two (test (identified n)) (list_all test (map identified ns)) (is n h.0) (all_identified test ns is h.1)

-- ---- no property stands twice

has_aged : (name : PropName) (waited : ℕ) (xs : List Prop) → has name xs ≡ false → has name (map (aged waited) xs) ≡ false
has_aged name waited [] h = refl
has_aged name waited (x ∷ xs) h = elim (cases_Bool (is_named name x)) [
  | inl named ↦ absurd (cc (rw named at h))
  | inr other ↦
      let rest : has name xs ≡ false = rw other at h in
      let same : is_named name (aged waited x) ≡ false = ap (λ (n : PropName). (property_row n).id == (property_row name).id) (aged_name waited x) ∙ other in
      rw same (has_aged name waited xs rest)
]

has_filter : (name : PropName) (keep : Prop → Bool) (xs : List Prop) → has name xs ≡ false → has name (filter keep xs) ≡ false
has_filter name keep [] h = refl
has_filter name keep (x ∷ xs) h = elim (cases_Bool (is_named name x)) [
  | inl named ↦ absurd (cc (rw named at h))
  | inr other ↦
      let rest : has name xs ≡ false = rw other at h in
      elim (cases_Bool (keep x)) [
        | inl stays ↦ rw (stays, other) (has_filter name keep xs rest)
        | inr goes ↦ rw goes (has_filter name keep xs rest)
      ]
]

has_both : (name : PropName) (xs ys : List Prop) → has name xs ≡ false → has name ys ≡ false → has name (xs ++ ys) ≡ false
has_both name [] ys h q = q
has_both name (x ∷ xs) ys h q = elim (cases_Bool (is_named name x)) [
  | inl named ↦ absurd (cc (rw named at h))
  | inr other ↦
      let rest : has name xs ≡ false = rw other at h in
      rw other (has_both name xs ys rest q)
]

abbrev repeats : Prop → Bool
repeats p = may_repeat Publish p.name

-- what may not repeat is none of those that may
none_of : (name : PropName) (ys : List Prop) → may_repeat Publish name ≡ false → list_all repeats ys ≡ true → has name ys ≡ false
none_of name [] never h = refl
none_of name (y ∷ ys) never h =
    let parts = two (repeats y) (list_all repeats ys) h in
    elim (cases_Bool (is_named name y)) [
      | inl named ↦ let clash : true ≡ false = sym parts.0 ∙ ap (may_repeat Publish) (name_is name y named) ∙ never in absurd cc
      | inr other ↦ rw other (none_of name ys never parts.1)
    ]

once_repeating : (ys : List Prop) → list_all repeats ys ≡ true → none_repeats Publish ys ≡ true
once_repeating [] h = refl
once_repeating (y ∷ ys) h =
    let parts = two (repeats y) (list_all repeats ys) h in
    where_may (may_repeat Publish y.name) (has y.name ys) (none_repeats Publish ys) parts.0 (once_repeating ys parts.1)

once_sent : (waited : ℕ) (keep : Prop → Bool) (xs ys : List Prop) → none_repeats Publish xs ≡ true → list_all repeats ys ≡ true → none_repeats Publish (map (aged waited) (filter keep xs) ++ ys) ≡ true
once_sent waited keep [] ys h q = once_repeating ys q
once_sent waited keep (x ∷ xs) ys h q =
    let rest = once_sent waited keep xs ys (two (may_repeat Publish x.name || not (has x.name xs)) (none_repeats Publish xs) h).1 q in
    let all = map (aged waited) (filter keep xs) ++ ys in
    let same = aged_name waited x in
    elim (cases_Bool (keep x)) [
      | inr goes ↦ rw goes rest
      | inl stays ↦ elim (cases_Bool (may_repeat Publish x.name)) [
        | inl may ↦ rw stays (where_may (may_repeat Publish (aged waited x).name) (has (aged waited x).name all) (none_repeats Publish all) (ap (may_repeat Publish) same ∙ may) rest)
        | inr never ↦
            let alone = not_again (may_repeat Publish x.name) (has x.name xs) (none_repeats Publish xs) h never in
            let none : has x.name all ≡ false = has_both x.name (map (aged waited) (filter keep xs)) ys (has_aged x.name waited (filter keep xs) (has_filter x.name keep xs alone)) (none_of x.name ys never q) in
            rw stays (unless_found (may_repeat Publish (aged waited x).name) (has (aged waited x).name all) (none_repeats Publish all) (ap (λ (n : PropName). has n all) same ∙ none) rest)
      ]
    ]

users_repeat : (ps : List Prop) → list_all repeats (only UserProperty ps) ≡ true
users_repeat [] = refl
users_repeat (p ∷ ps) = elim (cases_Bool (is_named UserProperty p)) [
  | inl named ↦ rw named (and_two (repeats p) (list_all repeats (only UserProperty ps)) (ap (may_repeat Publish) (name_is UserProperty p named)) (users_repeat ps))
  | inr other ↦ rw other (users_repeat ps)
]

-- Authentication Data may not stand in a PUBLISH
no_authentication : (ps : List Prop) → all_may_stand Publish ps ≡ true → has AuthenticationData ps ≡ false
no_authentication [] h = refl
no_authentication (p ∷ ps) h =
    let parts = two (may_stand p.name Publish) (all_may_stand Publish ps) h in
    elim (cases_Bool (is_named AuthenticationData p)) [
      | inl named ↦ let clash : true ≡ false = sym parts.0 ∙ ap (λ (n : PropName). may_stand n Publish) (name_is AuthenticationData p named) in absurd cc
      | inr other ↦ rw other (no_authentication ps parts.1)
    ]

-- ---- sizes

each_aged : (waited : ℕ) (xs : List Prop) → AllByRecursion IsProp xs → AllByRecursion IsProp (map (aged waited) xs)
each_aged waited [] h = tt
each_aged waited (x ∷ xs) h = (aged_prop waited x h.0, each_aged waited xs h.1)

aged_sizes : (waited : ℕ) (xs : List Prop) → AllByRecursion IsProp xs → length (props (map (aged waited) xs)) ≡ length (props xs)
aged_sizes waited [] h = refl
aged_sizes waited (x ∷ xs) h =
    let one = aged_size waited x h.0 in
    let rest = aged_sizes waited xs h.1 in
    let old = length-append (prop x) (props xs) in
    let new = length-append (prop (aged waited x)) (props (map (aged waited) xs)) in
    omega (arith, one, rest, old, new)

-- the greatest length takes four bytes
pub longest : length (varint 268435455) ≡ 4
unfolding varint
longest = refl

each_identified : (ids : List ℕ) → AllByRecursion (λ n. IsIdentifier (Some n)) ids → AllByRecursion IsProp (map identified ids)
each_identified [] h = tt
each_identified (n ∷ ns) h = (record { kind = refl; fits = h.0.1 }, each_identified ns h.1)

identified_sizes : (ids : List ℕ) → AllByRecursion (λ n. IsIdentifier (Some n)) ids → length (props (map identified ids)) ≤ 5 * length ids
identified_sizes [] h = omega arith
identified_sizes (n ∷ ns) h =
    let rest = identified_sizes ns h.1 in
    let below = h.0.1 in
    let four = varint_sizes n 268435455 (omega (arith, below)) in
    let top = longest in
    let whole = length-append (prop (identified n)) (props (map identified ns)) in
    omega (arith, rest, four, top, whole)

-- what is sent is at most five bytes longer for each Subscription Identifier
pub sent_size : (sizes : Sizes) (waited : ℕ) (ids : List ℕ) (ps : List Prop) → AreIdentifiersOf sizes ids → FitsBlock ps → length (props (sent_after waited ids ps)) ≤ length (props ps) + 5 * sizes.identifiers
sent_size sizes waited ids ps h fits =
    let others = without UserProperty ps in
    let first = props_append (map (aged waited) others ++ map identified ids) (only UserProperty ps) in
    let second = props_append (map (aged waited) others) (map identified ids) in
    let same = aged_sizes waited others (FitsBlock-filter (λ p. not (is_named UserProperty p)) ps fits).each in
    let numbers = identified_sizes ids h.each in
    let few = h.few in
    let whole = parted UserProperty ps in
    omega (arith, first, second, same, numbers, few, whole)

-- what is sent is no shorter than what was passed on
pub sent_more : (waited : ℕ) (ids : List ℕ) (ps : List Prop) → FitsBlock ps → length (props ps) ≤ length (props (sent_after waited ids ps))
sent_more waited ids ps fits =
    let others = without UserProperty ps in
    let first = props_append (map (aged waited) others ++ map identified ids) (only UserProperty ps) in
    let second = props_append (map (aged waited) others) (map identified ids) in
    let same = aged_sizes waited others (FitsBlock-filter (λ p. not (is_named UserProperty p)) ps fits).each in
    let whole = parted UserProperty ps in
    omega (arith, first, second, same, whole)

-- ---- what is sent

-- what is sent fits a block if there is room for the identifiers
pub sent_fits : (sizes : Sizes) (waited : ℕ) (ids : List ℕ) (ps : List Prop) → AreIdentifiersOf sizes ids → FitsBlock ps → length (props ps) + 5 * sizes.identifiers < 2 ^ 28 → FitsBlock (sent_after waited ids ps)
sent_fits sizes waited ids ps h fits short =
    let others = without UserProperty ps in
    let size = sent_size sizes waited ids ps h fits in
    record {
      each = each_append IsProp (map (aged waited) others ++ map identified ids) (only UserProperty ps)
          (each_append IsProp (map (aged waited) others) (map identified ids) (each_aged waited others (FitsBlock-filter (λ p. not (is_named UserProperty p)) ps fits).each) (each_identified ids h.each))
          (FitsBlock-filter (is_named UserProperty) ps fits).each;
      short = omega (arith, size, short);
    }

all_sent : (sizes : Sizes) (test : Prop → Bool) (waited : ℕ) (ids : List ℕ) (ps : List Prop) → ((p : Prop) → test p ≡ true → test (aged waited p) ≡ true) → ((n : ℕ) → IsIdentifier (Some n) → test (identified n) ≡ true)
    → AreIdentifiersOf sizes ids → list_all test ps ≡ true → list_all test (sent_after waited ids ps) ≡ true
all_sent sizes test waited ids ps kept is h all =
    let others = without UserProperty ps in
    all_append test (map (aged waited) others ++ map identified ids) (only UserProperty ps)
    (all_append test (map (aged waited) others) (map identified ids) (all_aged test waited others kept (all_filter test (λ p. not (is_named UserProperty p)) ps all)) (all_identified test ids is h.each))
    (all_filter test (is_named UserProperty) ps all)

-- what is sent may stand in a PUBLISH
pub sent_may : (sizes : Sizes) (waited : ℕ) (ids : List ℕ) (ps : List Prop) → AreIdentifiersOf sizes ids → all_may_stand Publish ps ≡ true → all_may_stand Publish (sent_after waited ids ps) ≡ true
sent_may sizes waited ids ps h may =
    all_sent sizes (λ p. may_stand p.name Publish) waited ids ps (λ p q. ap (λ (n : PropName). may_stand n Publish) (aged_name waited p) ∙ q) (λ n q. refl) h may

-- what is sent is lawful in a PUBLISH
pub sent_lawful : (sizes : Sizes) (waited : ℕ) (ids : List ℕ) (ps : List Prop) → AreIdentifiersOf sizes ids → all_may_stand Publish ps ≡ true → is_lawful Publish ps ≡ true → is_lawful Publish (sent_after waited ids ps) ≡ true
sent_lawful sizes waited ids ps h may lawful =
    let sent = sent_after waited ids ps in
    let laws = two (none_repeats Publish ps) (values_are_lawful ps) lawful in
    let each = two (list_all (λ p. is_lawful_value p.name p.value) ps) (has_method_for_data ps) laws.1 in
    let others = map (aged waited) (without UserProperty ps) in
    let more = map identified ids ++ only UserProperty ps in
    let repeating = all_append repeats (map identified ids) (only UserProperty ps) (all_identified repeats ids (λ n q. refl) h.each) (users_repeat ps) in
    let once : none_repeats Publish (others ++ more) ≡ true = once_sent waited (λ p. not (is_named UserProperty p)) ps more laws.0 repeating in
    and_two (none_repeats Publish sent) (values_are_lawful sent) (subst (λ (xs : List Prop). none_repeats Publish xs ≡ true) (sym (append_assoc others (map identified ids) (only UserProperty ps))) once)
    (and_two (list_all (λ p. is_lawful_value p.name p.value) sent) (has_method_for_data sent)
    (all_sent sizes (λ p. is_lawful_value p.name p.value) waited ids ps (aged_value waited) (λ n q. lt-ltb 0 n q.0) h each.0)
    (no_data (has AuthenticationData sent) (has AuthenticationMethod sent) (no_authentication sent (sent_may sizes waited ids ps h may))))
