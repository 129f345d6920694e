-- A slim copy has what its row remembers, and is such as publications pass on (MQTT 5.0, 3.3).
use Rattle.std.proofs.Common.{◌≡◌, ℕ, zero, suc, ◌+◌, ◌-◌, ◌^◌, ◌<◌, ◌≤◌, ◌⊎◌, true, false, List, [], ◌∷◌, ◌++◌, map, length, nat_le, Option, Some, None, refl, sym, ap, ap₂, subst, ◌∙◌, append_assoc, append-nil, arith, inl, inr}
use Rattle.std.specs.Prelude.{⊤, ◌==◌, option_map, find}
use Rattle.std.specs.List.{AllByRecursion}
use Rattle.std.proofs.lemmas.Bool.{cases_Bool, eqb-true}
use Rattle.std.proofs.lemmas.List.{length-append}
use Rattle.mqtt_base.specs.declared.session.Phase.{Phase}
use Rattle.mqtt_base.specs.Values.{blob, two_bytes, varint}
use Rattle.mqtt_base.proofs.Varints.{varint_size}
use Rattle.mqtt_props.specs.declared.table.PropName.TheVariants.{PayloadFormatIndicator, MessageExpiryInterval, UserProperty}
use Rattle.mqtt_props.specs.Table.{property_row}
use Rattle.mqtt_props.specs.Properties.{Value, Byte, U16, U32, VarInt, Text, Binary, Pair, Prop, IsProp, value, prop, props}
use Rattle.mqtt_props.specs.Laws.{is_named}
use Rattle.mqtt_props.specs.Edits.{only, without}
use Rattle.mqtt_records.specs.declared.messages.message.MessageCopy.{MessageCopy}
use Rattle.mqtt_records.specs.messages.PassedOn.{aged, identified, number_in, number_at, property, rises_from, sent_after, IsPassedOn}
use Rattle.mqtt_records.specs.messages.Queue.{CopyRow, first_sent, remaining, publish_size, IsSpelled, Knows}
use Rattle.mqtt_records.specs.messages.Slim.{zeros, front_filler, back_filler, interval_alone, interval_bytes, bare_properties, bare, slim_copy, slim}
use Rattle.mqtt_records.proofs.messages_lemmas.PassedLemmas.{rises-lower}
use Rattle.mqtt_records.proofs.messages_lemmas.SentSizes.{props-cons, props-three, block-same, each-append}

-- so many zeros are so many
pub zeros_len : (n : ℕ) → length (zeros n) ≡ n
zeros_len zero = refl
zeros_len (suc n) = let rest = zeros_len n in omega (arith, rest)

-- ---- what is left out has two bytes at least

blob_least : (bytes : List ℕ) → 2 ≤ length (blob bytes)
blob_least bytes =
    let both = length-append (two_bytes (length bytes)) bytes in
    let two : length (two_bytes (length bytes)) ≡ 2 = refl in
    omega (arith, both, two)

value_least : (v : Value) → 1 ≤ length (value v)
value_least (Byte n) = omega arith
value_least (U16 n) = let two : length (value (U16 n)) ≡ 2 = refl in omega (arith, two)
value_least (U32 n) = let four : length (value (U32 n)) ≡ 4 = refl in omega (arith, four)
value_least (VarInt n) = varint_size n
value_least (Text t) = let least = blob_least t in omega (arith, least)
value_least (Binary b) = let least = blob_least b in omega (arith, least)
value_least (Pair k t) = let both = length-append (blob k) (blob t) in let least = blob_least k in omega (arith, both, least)

prop_least : (p : Prop) → 2 ≤ length (prop p)
prop_least p = let least = value_least p.value in omega (arith, least)

-- as many bytes, or two more at least
abbrev IsGap : ℕ → ℕ → Type 0
IsGap a b = (a ≡ b) ⊎ (a + 2 ≤ b)

-- none, or two at least
props_gap : (ps : List Prop) → IsGap 0 (length (props ps))
props_gap [] = inl refl
props_gap (p ∷ ps) = let both = props-cons p ps in let some = prop_least p in inr (omega (arith, both, some))

gap_joined : (a b c : ℕ) → IsGap a b → IsGap 0 c → IsGap a (b + c)
gap_joined a b c (inl e) (inl f) = inl (omega (arith, e, f))
gap_joined a b c (inl e) (inr f) = inr (omega (arith, e, f))
gap_joined a b c (inr e) (inl f) = inr (omega (arith, e, f))
gap_joined a b c (inr e) (inr f) = inr (omega (arith, e, f))

-- a Message Expiry Interval is no User Property
interval_apart : (p : Prop) → is_named MessageExpiryInterval p ≡ true → is_named UserProperty p ≡ false
interval_apart p is = ap (λ (n : ℕ). n == 38) (eqb-true (property_row p.name).id 2 is)

interval_aged : (p : Prop) → is_named MessageExpiryInterval p ≡ true → length (prop (aged 0 p)) ≡ 5
interval_aged p is = rw is refl

-- beside its interval what is sent of the passed properties has none, or two bytes at least
aged_gap : (ps : List Prop) → IsGap (interval_bytes (number_at MessageExpiryInterval ps)) (length (props (map (aged 0) (without UserProperty ps))) + length (props (only UserProperty ps)))
aged_gap [] = inl refl
aged_gap (p ∷ ps) =
    let front = map (aged 0) (without UserProperty ps) in
    let back = only UserProperty ps in
    elim (cases_Bool (is_named MessageExpiryInterval p)) [
      | inl is ↦
          let other = interval_apart p is in
          let here = props-cons (aged 0 p) front in
          let five = interval_aged p is in
          let rest : IsGap 0 (length (props front) + length (props back)) = gap_joined 0 (length (props front)) (length (props back)) (props_gap front) (props_gap back) in
          rw (is, other) (elim rest [ inl e ↦ inl (omega (arith, e, here, five)) | inr l ↦ inr (omega (arith, l, here, five)) ])
      | inr not_it ↦ elim (cases_Bool (is_named UserProperty p)) [
        | inl user ↦
            let here = props-cons p back in
            let some = prop_least p in
            rw (not_it, user) (elim (aged_gap ps) [ inl e ↦ inr (omega (arith, e, here, some)) | inr l ↦ inr (omega (arith, l, here, some)) ])
        | inr other ↦
            let here = props-cons (aged 0 p) front in
            let some = prop_least (aged 0 p) in
            rw (not_it, other) (elim (aged_gap ps) [ inl e ↦ inr (omega (arith, e, here, some)) | inr l ↦ inr (omega (arith, l, here, some)) ])
      ]
    ]

copy_gap : (copy : MessageCopy) → IsGap (interval_bytes (number_at MessageExpiryInterval copy.content.properties)) (length (props (first_sent copy)))
copy_gap copy =
    let ps = copy.content.properties in
    let front = map (aged 0) (without UserProperty ps) in
    let own = map identified copy.identifiers in
    let back = only UserProperty ps in
    let sum = props-three front own back in
    elim (gap_joined (interval_bytes (number_at MessageExpiryInterval ps)) (length (props front) + length (props back)) (length (props own)) (aged_gap ps) (props_gap own)) [
      | inl e ↦ inl (omega (arith, e, sum))
      | inr l ↦ inr (omega (arith, l, sum))
    ]

-- ---- the fillers

filler_len : (n : ℕ) → (n ≡ 1 → ⊥) → length (props (front_filler n)) + length (props (back_filler n)) ≡ n
filler_len zero h = refl
filler_len (suc zero) h = absurd (h refl)
filler_len (suc (suc zero)) h = refl
filler_len (suc (suc (suc zero))) h = refl
filler_len (suc (suc (suc (suc n)))) h =
    let rest = filler_len (suc (suc n)) (λ e. absurd cc) in
    let here = props-cons (property PayloadFormatIndicator (Byte 0)) (front_filler (suc (suc n))) in
    omega (arith, rest, here)

interval_len : (interval : Option ℕ) → length (props (interval_alone interval)) ≡ interval_bytes interval
interval_len None = refl
interval_len (Some n) = refl

-- bare properties have so many bytes, if it isn't one beside the interval
bare_len : (bytes : ℕ) (interval : Option ℕ) → IsGap (interval_bytes interval) bytes → length (props (bare_properties bytes interval)) ≡ bytes
bare_len bytes interval gap =
    let n = bytes - interval_bytes interval in
    let sum = props-three (front_filler n) (interval_alone interval) (back_filler n) in
    let own = interval_len interval in
    elim gap [
      | inl e ↦ let rest = filler_len n (λ one. omega (arith, e, one)) in omega (arith, e, sum, own, rest)
      | inr l ↦ let rest = filler_len n (λ one. omega (arith, l, one)) in omega (arith, l, sum, own, rest)
    ]

-- ---- they are sent as they are

-- what is no User Property, and is sent as it is
record IsPlain (p : Prop) : Type 0 where
  other : is_named UserProperty p ≡ false
  same : aged 0 p ≡ p

plain_joined : (ps qs : List Prop) → AllByRecursion IsPlain ps → AllByRecursion IsPlain qs → AllByRecursion IsPlain (ps ++ qs)
plain_joined [] qs h k = k
plain_joined (p ∷ ps) qs h k = (h.0, plain_joined ps qs h.1 k)

format_plain : IsPlain (property PayloadFormatIndicator (Byte 0))
format_plain = record { other = refl; same = refl }

front_plain : (n : ℕ) → AllByRecursion IsPlain (front_filler n)
front_plain zero = tt
front_plain (suc zero) = tt
front_plain (suc (suc zero)) = (format_plain, tt)
front_plain (suc (suc (suc zero))) = tt
front_plain (suc (suc (suc (suc n)))) = (format_plain, front_plain (suc (suc n)))

back_plain : (n : ℕ) → AllByRecursion IsPlain (back_filler n)
back_plain zero = tt
back_plain (suc zero) = tt
back_plain (suc (suc zero)) = tt
back_plain (suc (suc (suc zero))) = (record { other = refl; same = refl }, tt)
back_plain (suc (suc (suc (suc n)))) = back_plain (suc (suc n))

interval_plain : (interval : Option ℕ) → AllByRecursion IsPlain (interval_alone interval)
interval_plain None = tt
interval_plain (Some n) = let none : n - 0 ≡ n = omega arith in (record { other = refl; same = ap (λ (k : ℕ). property MessageExpiryInterval (U32 k)) none }, tt)

bare_plain : (bytes : ℕ) (interval : Option ℕ) → AllByRecursion IsPlain (bare_properties bytes interval)
bare_plain bytes interval =
    let n = bytes - interval_bytes interval in
    plain_joined (front_filler n ++ interval_alone interval) (back_filler n) (plain_joined (front_filler n) (interval_alone interval) (front_plain n) (interval_plain interval)) (back_plain n)

plain_front : (ps : List Prop) → AllByRecursion IsPlain ps → map (aged 0) (without UserProperty ps) ≡ ps
plain_front [] h = refl
plain_front (p ∷ ps) h = let other = h.0.other in rw other (ap₂ (λ (x : Prop) (xs : List Prop). x ∷ xs) h.0.same (plain_front ps h.1))

plain_back : (ps : List Prop) → AllByRecursion IsPlain ps → only UserProperty ps ≡ []
plain_back [] h = refl
plain_back (p ∷ ps) h = let other = h.0.other in rw other (plain_back ps h.1)

plain_sent : (ps : List Prop) → AllByRecursion IsPlain ps → sent_after 0 [] ps ≡ ps
plain_sent ps h = ap₂ (λ (xs ys : List Prop). xs ++ [] ++ ys) (plain_front ps h) (plain_back ps h) ∙ append-nil (ps ++ []) ∙ append-nil ps

-- bare properties are sent as they are
pub bare_sent : (bytes : ℕ) (interval : Option ℕ) → sent_after 0 [] (bare_properties bytes interval) ≡ bare_properties bytes interval
bare_sent bytes interval = plain_sent (bare_properties bytes interval) (bare_plain bytes interval)

-- ---- they tell the interval

front_tells : (n : ℕ) (ps : List Prop) → find (is_named MessageExpiryInterval) (front_filler n ++ ps) ≡ find (is_named MessageExpiryInterval) ps
front_tells zero ps = refl
front_tells (suc zero) ps = refl
front_tells (suc (suc zero)) ps = refl
front_tells (suc (suc (suc zero))) ps = refl
front_tells (suc (suc (suc (suc n)))) ps = front_tells (suc (suc n)) ps

back_tells : (n : ℕ) → find (is_named MessageExpiryInterval) (back_filler n) ≡ None
back_tells zero = refl
back_tells (suc zero) = refl
back_tells (suc (suc zero)) = refl
back_tells (suc (suc (suc zero))) = refl
back_tells (suc (suc (suc (suc n)))) = back_tells (suc (suc n))

abbrev number_of : Option Prop → Option ℕ
number_of found = option_map (λ p. number_in p.value) found

behind_tells : (n : ℕ) (interval : Option ℕ) → number_at MessageExpiryInterval (interval_alone interval ++ back_filler n) ≡ interval
behind_tells n None = ap number_of (back_tells n)
behind_tells n (Some k) = refl

-- bare properties tell this interval
pub bare_interval : (bytes : ℕ) (interval : Option ℕ) → number_at MessageExpiryInterval (bare_properties bytes interval) ≡ interval
bare_interval bytes interval =
    let n = bytes - interval_bytes interval in
    ap (number_at MessageExpiryInterval) (append_assoc (front_filler n) (interval_alone interval) (back_filler n))
    ∙ ap number_of (front_tells n (interval_alone interval ++ back_filler n))
    ∙ behind_tells n interval

-- ---- they are such as publications pass on

front_rises : (n : ℕ) (ps : List Prop) → rises_from 1 ps ≡ true → rises_from 1 (front_filler n ++ ps) ≡ true
front_rises zero ps r = r
front_rises (suc zero) ps r = r
front_rises (suc (suc zero)) ps r = r
front_rises (suc (suc (suc zero))) ps r = r
front_rises (suc (suc (suc (suc n)))) ps r = front_rises (suc (suc n)) ps r

back_rises : (n id : ℕ) → nat_le id 9 ≡ true → rises_from id (back_filler n) ≡ true
back_rises zero id le = refl
back_rises (suc zero) id le = refl
back_rises (suc (suc zero)) id le = refl
back_rises (suc (suc (suc zero))) id le = rw le refl
back_rises (suc (suc (suc (suc n)))) id le = back_rises (suc (suc n)) id le

behind_rises : (n : ℕ) (interval : Option ℕ) → rises_from 1 (interval_alone interval ++ back_filler n) ≡ true
behind_rises n None = back_rises n 1 refl
behind_rises n (Some k) = back_rises n 2 refl

-- bare properties are such as publications pass on
pub bare_passes : (bytes : ℕ) (interval : Option ℕ) → IsPassedOn (bare_properties bytes interval)
bare_passes bytes interval =
    let n = bytes - interval_bytes interval in
    let ps : List Prop = interval_alone interval ++ back_filler n in
    let joined : bare_properties bytes interval ≡ front_filler n ++ ps = append_assoc (front_filler n) (interval_alone interval) (back_filler n) in
    ap (rises_from 0) joined ∙ rises-lower 0 1 (front_filler n ++ ps) refl (front_rises n ps (behind_rises n interval))

-- ---- they have a spelling

format_fits : IsProp (property PayloadFormatIndicator (Byte 0))
format_fits = record { kind = refl; fits = omega arith }

front_fits : (n : ℕ) → AllByRecursion IsProp (front_filler n)
front_fits zero = tt
front_fits (suc zero) = tt
front_fits (suc (suc zero)) = (format_fits, tt)
front_fits (suc (suc (suc zero))) = tt
front_fits (suc (suc (suc (suc n)))) = (format_fits, front_fits (suc (suc n)))

back_fits : (n : ℕ) → AllByRecursion IsProp (back_filler n)
back_fits zero = tt
back_fits (suc zero) = tt
back_fits (suc (suc zero)) = tt
back_fits (suc (suc (suc zero))) = (record { kind = refl; fits = omega arith }, tt)
back_fits (suc (suc (suc (suc n)))) = back_fits (suc (suc n))

-- the interval of properties that are sent is one of a property
abbrev FitsInterval : Option ℕ → Type 0
FitsInterval None = ⊤
FitsInterval (Some n) = n < 2 ^ 32

interval_fits : (interval : Option ℕ) → FitsInterval interval → AllByRecursion IsProp (interval_alone interval)
interval_fits None h = tt
interval_fits (Some n) h = (record { kind = refl; fits = h }, tt)

aged_interval : (p : Prop) → is_named MessageExpiryInterval p ≡ true → IsProp (aged 0 p) → number_in p.value < 2 ^ 32
aged_interval p is h =
    let it : IsProp (property MessageExpiryInterval (U32 (number_in p.value - 0))) = rw is at h in
    let fits = it.fits in
    omega (arith, fits)

passed_interval : (ps : List Prop) → AllByRecursion IsProp (map (aged 0) (without UserProperty ps)) → FitsInterval (number_at MessageExpiryInterval ps)
passed_interval [] h = tt
passed_interval (p ∷ ps) h = elim (cases_Bool (is_named MessageExpiryInterval p)) [
  | inl is ↦
      let other = interval_apart p is in
      let first : IsProp (aged 0 p) = (rw other at h).0 in
      rw is (aged_interval p is first)
  | inr not_it ↦ elim (cases_Bool (is_named UserProperty p)) [
    | inl user ↦ let rest : AllByRecursion IsProp (map (aged 0) (without UserProperty ps)) = rw user at h in rw not_it (passed_interval ps rest)
    | inr other ↦ let rest : AllByRecursion IsProp (map (aged 0) (without UserProperty ps)) = (rw other at h).1 in rw not_it (passed_interval ps rest)
  ]
]

-- properties before others
each_front : (ps qs : List Prop) → AllByRecursion IsProp (ps ++ qs) → AllByRecursion IsProp ps
each_front [] qs h = tt
each_front (p ∷ ps) qs h = (h.0, each_front ps qs h.1)

sent_interval : (copy : MessageCopy) → AllByRecursion IsProp (first_sent copy) → FitsInterval (number_at MessageExpiryInterval copy.content.properties)
sent_interval copy h =
    let ps = copy.content.properties in
    let front = map (aged 0) (without UserProperty ps) in
    let own = map identified copy.identifiers in
    passed_interval ps (each_front front own (each_front (front ++ own) (only UserProperty ps) h))

bare_each : (bytes : ℕ) (interval : Option ℕ) → FitsInterval interval → AllByRecursion IsProp (bare_properties bytes interval)
bare_each bytes interval h =
    let n = bytes - interval_bytes interval in
    each-append (front_filler n ++ interval_alone interval) (back_filler n) (each-append (front_filler n) (interval_alone interval) (front_fits n) (interval_fits interval h)) (back_fits n)

-- ---- a slim copy

-- its properties are sent in as many bytes
pub slim_pairs : (copy : MessageCopy) → length (props (first_sent (slim_copy copy))) ≡ length (props (first_sent copy))
slim_pairs copy =
    let bytes = length (props (first_sent copy)) in
    let interval = number_at MessageExpiryInterval copy.content.properties in
    ap (λ (ps : List Prop). length (props ps)) (bare_sent bytes interval) ∙ bare_len bytes interval (copy_gap copy)

-- its Message Expiry Interval is the same
pub slim_interval : (copy : MessageCopy) → number_at MessageExpiryInterval (slim_copy copy).content.properties ≡ number_at MessageExpiryInterval copy.content.properties
slim_interval copy = bare_interval (length (props (first_sent copy))) (number_at MessageExpiryInterval copy.content.properties)

slim_remaining : (copy : MessageCopy) → remaining (slim_copy copy) ≡ remaining copy
slim_remaining copy =
    let block = block-same (first_sent (slim_copy copy)) (first_sent copy) (slim_pairs copy) in
    let payload = zeros_len (length copy.content.payload) in
    omega (arith, block, payload)

-- its PUBLISH is as long
pub slim_size : (copy : MessageCopy) → publish_size (slim_copy copy) ≡ publish_size copy
slim_size copy = ap (λ (n : ℕ). 1 + length (varint n) + n) (slim_remaining copy)

-- it has a spelling, if the copy has one
pub slim_spelled : (copy : MessageCopy) → IsSpelled copy → IsSpelled (slim_copy copy)
slim_spelled copy is =
    let bytes = length (props (first_sent copy)) in
    let interval = number_at MessageExpiryInterval copy.content.properties in
    let each = bare_each bytes interval (sent_interval copy is.properties.each) in
    let same = slim_pairs copy in
    let few = is.properties.short in
    let all = slim_remaining copy in
    let short = is.short in
    record {
      properties = record { each = subst (AllByRecursion IsProp) (sym (bare_sent bytes interval)) each; short = omega (arith, same, few) };
      short = omega (arith, all, short);
    }

-- what a row remembers of its copy it remembers of the slim one
pub slim_knows : (all bytes : ℕ) (interval : Option ℕ) (copy : MessageCopy) → Knows all bytes interval copy → Knows all bytes interval (slim_copy copy)
slim_knows all bytes interval copy is = record {
  spelled = slim_spelled copy is.spelled;
  size = is.size ∙ sym (slim_size copy);
  pairs = is.pairs ∙ sym (slim_pairs copy);
  expiry = is.expiry ∙ sym (slim_interval copy);
}

-- a copy whose bytes and interval are these is left with these alone
pub bare_is_slim : (all bytes : ℕ) (interval : Option ℕ) (copy : MessageCopy) → Knows all bytes interval copy → bare bytes interval (length copy.content.payload) copy ≡ slim_copy copy
bare_is_slim all bytes interval copy is = ap₂ (λ (n : ℕ) (i : Option ℕ). bare n i (length copy.content.payload) copy) is.pairs is.expiry

-- of a copy that has these alone nothing more is left out
pub slim_bare : (all bytes : ℕ) (interval : Option ℕ) (payload : ℕ) (copy : MessageCopy) → Knows all bytes interval (bare bytes interval payload copy) → slim_copy (bare bytes interval payload copy) ≡ bare bytes interval payload copy
slim_bare all bytes interval payload copy is =
    ap₂ (λ (n : ℕ) (i : Option ℕ). bare n i (length (zeros payload)) copy) (sym is.pairs) (sym is.expiry)
    ∙ ap (λ (n : ℕ). bare bytes interval n copy) (zeros_len payload)

-- a slim copy stays what it is
pub slim_once : (copy : MessageCopy) → slim_copy (slim_copy copy) ≡ slim_copy copy
slim_once copy =
    let payload = length copy.content.payload in
    ap₂ (λ (n : ℕ) (i : Option ℕ). bare n i (length (zeros payload)) copy) (slim_pairs copy) (slim_interval copy)
    ∙ ap (λ (n : ℕ). bare (length (props (first_sent copy))) (number_at MessageExpiryInterval copy.content.properties) n copy) (zeros_len payload)

-- a row with this copy
abbrev pub row_with : ℕ → Phase → MessageCopy → CopyRow
row_with place phase copy = record { place = place; phase = phase; copy = copy }

-- so does a slim row
pub row_once : (e : CopyRow) → slim (slim e) ≡ slim e
row_once e = ap (row_with e.place e.phase) (slim_once e.copy)
