-- How many bytes the properties of a copy take, and what has a spelling (MQTT 5.0, 2.2.2, 3.3.2.3).
use Rattle.std.proofs.Common.{◌≡◌, ℕ, ◌+◌, ◌^◌, ◌<◌, ◌≤◌, List, [], ◌∷◌, ◌++◌, length, map, refl, sym, ap, ◌∙◌, arith, inl, inr}
use Rattle.std.specs.List.{AllByRecursion}
use Rattle.std.proofs.lemmas.Bool.{cases_Bool, eqb-true, cases_lt}
use Rattle.std.proofs.lemmas.List.{length-append}
use Rattle.std.proofs.lemmas.List.Concat.{flat_map-cons}
use Rattle.mqtt_base.specs.Values.{varint}
use Rattle.mqtt_base.proofs.Varints.{size_first, size_second, size_third, size_fourth}
use Rattle.mqtt_props.specs.declared.table.PropName.{PropName}
use Rattle.mqtt_props.specs.declared.table.PropName.TheVariants.{MessageExpiryInterval, UserProperty}
use Rattle.mqtt_props.specs.Table.{property_row}
use Rattle.mqtt_props.specs.Properties.{Value, Byte, U16, U32, VarInt, Text, Binary, Pair, Prop, IsProp, prop, props, block, FitsBlock, kind_of}
use Rattle.mqtt_props.specs.Laws.{is_named}
use Rattle.mqtt_props.specs.Edits.{only, without}
use Rattle.mqtt_records.specs.messages.PassedOn.{aged, identified, sent_after}

-- ---- sums

-- properties take the bytes of the first and of those behind it
pub props-cons : (p : Prop) (ps : List Prop) → length (props (p ∷ ps)) ≡ length (prop p) + length (props ps)
props-cons p ps = ap length (flat_map-cons prop p ps) ∙ length-append (prop p) (props ps)

-- two lists take the bytes of both
pub props-append : (ps qs : List Prop) → length (props (ps ++ qs)) ≡ length (props ps) + length (props qs)
props-append [] qs = omega arith
props-append (p ∷ ps) qs =
    let rest = props-append ps qs in
    let whole = props-cons p (ps ++ qs) in
    let front = props-cons p ps in
    omega (arith, rest, whole, front)

-- three lists take the bytes of all three
pub props-three : (a b c : List Prop) → length (props (a ++ b ++ c)) ≡ length (props a) + length (props b) + length (props c)
props-three a b c = let first = props-append (a ++ b) c in let second = props-append a b in omega (arith, first, second)

-- blocks of properties of as many bytes have as many bytes
pub block-same : (ps qs : List Prop) → length (props ps) ≡ length (props qs) → length (block ps) ≡ length (block qs)
block-same ps qs same =
    let lengths : length (varint (length (props ps))) ≡ length (varint (length (props qs))) = ap (λ (n : ℕ). length (varint n)) same in
    let old = length-append (varint (length (props ps))) (props ps) in
    let new = length-append (varint (length (props qs))) (props qs) in
    omega (arith, lengths, same, old, new)

-- ---- what is sent at once takes as many bytes as what was passed on, and the identifiers

expiry-length : (name : PropName) (v : Value) → (property_row name).id ≡ 2 → kind_of v ≡ (property_row name).kind → length (prop (record { name = name; value = v })) ≡ 5
expiry-length MessageExpiryInterval (Byte n) e k = absurd cc
expiry-length MessageExpiryInterval (U16 n) e k = absurd cc
expiry-length MessageExpiryInterval (U32 n) e k = refl
expiry-length MessageExpiryInterval (VarInt n) e k = absurd cc
expiry-length MessageExpiryInterval (Text t) e k = absurd cc
expiry-length MessageExpiryInterval (Binary b) e k = absurd cc
expiry-length MessageExpiryInterval (Pair a b) e k = absurd cc
expiry-length name v e k = absurd cc

now-length : (p : Prop) → IsProp p → length (prop (aged 0 p)) ≡ length (prop p)
now-length p is = elim (cases_Bool (is_named MessageExpiryInterval p)) [
  | inl named ↦ rw named (sym (expiry-length p.name p.value (eqb-true (property_row p.name).id 2 named) is.kind))
  | inr other ↦ rw other refl
]

parts-length : (ps : List Prop) → AllByRecursion IsProp ps → length (props (map (aged 0) (without UserProperty ps))) + length (props (only UserProperty ps)) ≡ length (props ps)
parts-length [] each = refl
parts-length (p ∷ ps) each = elim (cases_Bool (is_named UserProperty p)) [
  | inl named ↦
      let here = props-cons p (only UserProperty ps) in
      let all = props-cons p ps in
      let rest = parts-length ps each.1 in
      rw named (omega (arith, here, all, rest))
  | inr other ↦
      let here = props-cons (aged 0 p) (map (aged 0) (without UserProperty ps)) in
      let one = now-length p each.0 in
      let all = props-cons p ps in
      let rest = parts-length ps each.1 in
      rw other (omega (arith, here, one, all, rest))
]

-- what is first sent is as long as what came and its identifiers
pub first-length : (ids : List ℕ) (ps : List Prop) → AllByRecursion IsProp ps → length (props (sent_after 0 ids ps)) ≡ length (props ps) + length (props (map identified ids))
first-length ids ps each =
    let three = props-three (map (aged 0) (without UserProperty ps)) (map identified ids) (only UserProperty ps) in
    let parts = parts-length ps each in
    omega (arith, three, parts)

-- ---- what is sent at once has a spelling if the identifiers have one, and all is short

-- properties before properties are properties
pub each-append : (ps qs : List Prop) → AllByRecursion IsProp ps → AllByRecursion IsProp qs → AllByRecursion IsProp (ps ++ qs)
each-append [] qs h g = g
each-append (p ∷ ps) qs h g = (h.0, each-append ps qs h.1 g)

each-front : (ps qs : List Prop) → AllByRecursion IsProp (ps ++ qs) → AllByRecursion IsProp ps
each-front [] qs h = tt
each-front (p ∷ ps) qs h = (h.0, each-front ps qs h.1)

each-rest : (ps qs : List Prop) → AllByRecursion IsProp (ps ++ qs) → AllByRecursion IsProp qs
each-rest [] qs h = h
each-rest (p ∷ ps) qs h = each-rest ps qs h.1

expiry-is : (name : PropName) (v : Value) → (property_row name).id ≡ 2 → IsProp (record { name = name; value = v }) → IsProp (aged 0 (record { name = name; value = v }))
expiry-is MessageExpiryInterval (Byte n) e is = absurd (cc (is.kind))
expiry-is MessageExpiryInterval (U16 n) e is = absurd (cc (is.kind))
expiry-is MessageExpiryInterval (U32 n) e is = let few = is.fits in record { kind = refl; fits = omega arith }
expiry-is MessageExpiryInterval (VarInt n) e is = absurd (cc (is.kind))
expiry-is MessageExpiryInterval (Text t) e is = absurd (cc (is.kind))
expiry-is MessageExpiryInterval (Binary b) e is = absurd (cc (is.kind))
expiry-is MessageExpiryInterval (Pair a b) e is = absurd (cc (is.kind))
expiry-is name v e is = absurd cc

aged-is : (p : Prop) → IsProp p → IsProp (aged 0 p)
aged-is p is = elim (cases_Bool (is_named MessageExpiryInterval p)) [
  | inl named ↦ expiry-is p.name p.value (eqb-true (property_row p.name).id 2 named) is
  | inr other ↦ rw other is
]

each-aged : (ps : List Prop) → AllByRecursion IsProp ps → AllByRecursion IsProp (map (aged 0) (without UserProperty ps))
each-aged [] each = tt
each-aged (p ∷ ps) each = elim (cases_Bool (is_named UserProperty p)) [
  | inl named ↦ rw named (each-aged ps each.1)
  | inr other ↦ rw other (aged-is p each.0, each-aged ps each.1)
]

each-only : (ps : List Prop) → AllByRecursion IsProp ps → AllByRecursion IsProp (only UserProperty ps)
each-only [] each = tt
each-only (p ∷ ps) each = elim (cases_Bool (is_named UserProperty p)) [
  | inl named ↦ rw named (each.0, each-only ps each.1)
  | inr other ↦ rw other (each-only ps each.1)
]

-- what is sent are properties if what came is, and its identifiers are
pub each-sent : (ids : List ℕ) (ps : List Prop) → AllByRecursion IsProp ps → AllByRecursion IsProp (map identified ids) → AllByRecursion IsProp (sent_after 0 ids ps)
each-sent ids ps each own =
    each-append (map (aged 0) (without UserProperty ps) ++ map identified ids) (only UserProperty ps)
    (each-append (map (aged 0) (without UserProperty ps)) (map identified ids) (each-aged ps each) own)
    (each-only ps each)

-- and its identifiers are if what is sent is
pub own-each : (ids : List ℕ) (ps : List Prop) → AllByRecursion IsProp (sent_after 0 ids ps) → AllByRecursion IsProp (map identified ids)
own-each ids ps each =
    each-rest (map (aged 0) (without UserProperty ps)) (map identified ids)
    (each-front (map (aged 0) (without UserProperty ps) ++ map identified ids) (only UserProperty ps) each)

-- if the whole has a spelling, the identifiers have one
pub own-fits : (ids : List ℕ) (ps : List Prop) → AllByRecursion IsProp ps → FitsBlock (sent_after 0 ids ps) → FitsBlock (map identified ids)
own-fits ids ps each fits =
    let sum = first-length ids ps each in
    let short = fits.short in
    record { each = own-each ids ps fits.each; short = omega (arith, sum, short) }

-- what is sent fits a block if there is room for the identifiers
pub sent-fits : (ids : List ℕ) (ps : List Prop) → AllByRecursion IsProp ps → FitsBlock (map identified ids) → length (props ps) + length (props (map identified ids)) < 2 ^ 28 → FitsBlock (sent_after 0 ids ps)
sent-fits ids ps each own few =
    let sum = first-length ids ps each in
    record { each = each-sent ids ps each own.each; short = omega (arith, sum, few) }

-- ---- a block's length tells how many bytes its pairs have

-- by the length b of a block, how many bytes n its pairs have
pub record IsPairsOf (n b : ℕ) : Type 0 where
  pub first : b ≤ 128 → n + 1 ≡ b
  pub second : 129 ≤ b → b ≤ 16385 → n + 2 ≡ b
  pub third : 16386 ≤ b → b ≤ 2097154 → n + 3 ≡ b
  pub fourth : 2097155 ≤ b → n + 4 ≡ b

-- a block is its length and its pairs
pub pairs_of_block : (n b : ℕ) → b ≡ length (varint n) + n → IsPairsOf n b
pairs_of_block n b e = elim (cases_lt n (2 ^ 7)) [
  | inl a ↦
      let size = size_first n a in
      record { first = λ h. omega arith; second = λ h k. omega arith; third = λ h k. omega arith; fourth = λ h. omega arith }
  | inr a ↦ elim (cases_lt n (2 ^ 14)) [
    | inl c ↦
        let size = size_second n a c in
        record { first = λ h. omega arith; second = λ h k. omega arith; third = λ h k. omega arith; fourth = λ h. omega arith }
    | inr c ↦ elim (cases_lt n (2 ^ 21)) [
      | inl d ↦
          let size = size_third n c d in
          record { first = λ h. omega arith; second = λ h k. omega arith; third = λ h k. omega arith; fourth = λ h. omega arith }
      | inr d ↦
          let size = size_fourth n d in
          record { first = λ h. omega arith; second = λ h k. omega arith; third = λ h k. omega arith; fourth = λ h. omega arith }
    ]
  ]
]
