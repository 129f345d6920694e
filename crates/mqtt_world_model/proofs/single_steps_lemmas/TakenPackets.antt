-- Which packets of ends the broker takes: those whose texts are texts and whose identifiers are such (MQTT 5.0, 1.5.4, 2.2.1).
use Rattle.std.proofs.Common.{◌≡◌, ◌≤◌, ◌<◌, ◌+◌, ◌^◌, ℕ, zero, suc, Bool, true, false, ◌&&◌, ◌||◌, List, [], ◌∷◌, ◌++◌, length, Option, Some, None, refl, sym, ap, ◌∙◌, arith, length-append}
use Rattle.std.specs.Prelude.{nat_lt, nat_le}
use Rattle.std.proofs.lemmas.Bool.{leb-true, lt-ltb, ltb-true}
use Rattle.mqtt_base.proofs.Varints.{size_first}
use Rattle.mqtt_base.specs.Codes.{success, identifier_not_found}
use Rattle.mqtt_base.specs.Service.{qos_number}
use Rattle.mqtt_base.specs.Values.{FitsText, blob, is_text, two_bytes, varint}
use Rattle.mqtt_base.specs.declared.limits.TheConstants.{PACKET_LIMIT}
use Rattle.mqtt_base.specs.declared.session.Qos.{Qos as Quality}
use Rattle.mqtt_base.specs.declared.session.Qos.TheVariants.{AtMostOnce, AtLeastOnce, ExactlyOnce}
use Rattle.mqtt_base.specs.declared.session.RetainHandling.{RetainHandling}
use Rattle.mqtt_base.specs.declared.session.RetainHandling.TheVariants.{SendAlways, SendIfNew, DoNotSend}
use Rattle.mqtt_base.specs.declared.session.SubscriptionOptions.{SubscriptionOptions}
use Rattle.mqtt_packet.specs.codec.Packets.{Fits, is_lawful, shortest_body}
use Rattle.mqtt_packet.specs.codec.Publish.{FitsDelivery, identifier_field, lawful_identifier}
use Rattle.mqtt_packet.specs.declared.codec.packet.Packet.{Packet}
use Rattle.mqtt_packet.specs.declared.codec.publish.Delivery.{Delivery}
use Rattle.mqtt_packet.specs.declared.codec.publish.Delivery.TheVariants as delivery
use Rattle.mqtt_packet.specs.parts.Bits.{bit}
use Rattle.mqtt_packet.specs.parts.Blocks.{Stands, keeps_laws}
use Rattle.mqtt_props.specs.Laws.{has}
use Rattle.mqtt_props.specs.Properties.{Prop, U16, U32, block, props}
use Rattle.mqtt_props.specs.declared.place.Place.{Place}
use Rattle.mqtt_props.specs.declared.place.Place.TheVariants as places
use Rattle.mqtt_props.specs.declared.table.PropName.TheVariants.{ReceiveMaximum, SessionExpiryInterval, TopicAlias, TopicAliasMaximum}
use Rattle.mqtt_packet.specs.subscribe.Options.{handling_number, options_byte}
use Rattle.mqtt_rules.proofs.step_lemmas.contents.PassedContents.{and_two, two}
use Rattle.mqtt_rules.specs.step.Contents.{IsTaken}
use Rattle.mqtt_records.specs.messages.PassedOn.{property}
use Rattle.mqtt_rules.specs.step.Packets.{size_of}
use Rattle.mqtt_rules.specs.step.Packets as sent
use Rattle.mqtt_world_model.specs.model.Ends.{Content, Wish, taking, connect_with, identified, publish_with, subscribe_with}
use Rattle.mqtt_world_model.specs.model.World.{delivery_at, fits_number, is_input, is_wish, may_take}
use Rattle.mqtt_world_model.specs.single_steps.Sound.{IsCarried, IsIdentifier, IsName}

-- ---- how many bytes a packet has

size_is : (p : Packet) → size_of p ≡ suc (length (varint (length (shortest_body p))) + length (shortest_body p))
size_is p = let whole = length-append (varint (length (shortest_body p))) (shortest_body p) in omega (arith, whole)

same_size : (p q : Packet) → length (shortest_body p) ≡ length (shortest_body q) → size_of p ≡ size_of q
same_size p q same = size_is p ∙ (ap (λ (n : ℕ). suc (length (varint n) + n)) same ∙ sym (size_is q))

within : (p : Packet) → size_of p ≤ PACKET_LIMIT → length (shortest_body p) < 65536
within p short = let is = size_is p in omega (arith, is, short)

taken : (p : Packet) → Fits p → is_lawful p ≡ true → size_of p ≤ PACKET_LIMIT → IsTaken p
taken p fits lawful short = record { spelled = (fits, let less = within p short in omega (arith, less), lawful); short = short }

-- one of a few bytes
few : (p : Packet) → length (shortest_body p) < 128 → size_of p ≤ PACKET_LIMIT
few p less = let is = size_is p in let one = size_first (length (shortest_body p)) less in omega (arith, is, one, less)

abbrev HasInput : Packet → Type 0
HasInput p = (is_lawful p ≡ true) × (size_of p ≤ PACKET_LIMIT)

input_of : (p : Packet) → is_input p ≡ true → HasInput p
input_of p h = let both = two (is_lawful p) (nat_le (size_of p) PACKET_LIMIT) h in (both.0, leb-true (size_of p) PACKET_LIMIT both.1)

-- ---- PUBLISH

none_stand : (place : Place) → Stands place []
none_stand place = (record { each = tt; short = omega arith }, refl)

publish_length : (d : Delivery) (c : Content) → length (shortest_body (publish_with d c)) ≡ 2 + length c.topic + length (identifier_field d) + 1 + length c.payload
publish_length d c =
    let first = length-append (blob c.topic) (identifier_field d ++ (block [] ++ c.payload)) in
    let named = length-append (two_bytes (length c.topic)) c.topic in
    let second = length-append (identifier_field d) (block [] ++ c.payload) in
    let third = length-append (block []) c.payload in
    let none = size_first 0 (omega arith) in
    let empty = length-append (varint 0) [] in
    omega (arith, first, named, second, third, none, empty)

topic_fits : (d : Delivery) (c : Content) → size_of (publish_with d c) ≤ PACKET_LIMIT → is_text c.topic ≡ true → FitsText c.topic
topic_fits d c short text =
    let less = within (publish_with d c) short in
    let is = publish_length d c in
    (omega (arith, less, is), text)

-- a PUBLISH that passes the test is taken
pub publish_tested : (q : Quality) (c : Content) → is_input (publish_with (delivery_at q) c) ≡ true → is_text c.topic ≡ true → IsTaken (publish_with (delivery_at q) c)
publish_tested q c input text =
    let p = publish_with (delivery_at q) c in
    let h = input_of p input in
    taken p (fits_delivery q, topic_fits (delivery_at q) c h.1 text, none_stand places.Publish) h.0 h.1
  where
    fits_delivery : (q : Quality) → FitsDelivery (delivery_at q)
    fits_delivery AtMostOnce = tt
    fits_delivery AtLeastOnce = omega arith
    fits_delivery ExactlyOnce = omega arith

-- however it is sent
resent : (d e : Delivery) (c : Content) → FitsDelivery e → lawful_identifier e ≡ true → length (identifier_field d) ≡ length (identifier_field e) → IsTaken (publish_with d c) → IsTaken (publish_with e c)
resent d e c fits lawful same h =
    let q = publish_with e c in
    let keeps = keeps_laws places.Publish [] in
    let named = nat_lt 0 (length c.topic) || has TopicAlias [] in
    let laws = two keeps (lawful_identifier d && named) h.spelled.2 in
    let rest = two (lawful_identifier d) named laws.1 in
    let old = publish_length d c in
    let new = publish_length e c in
    let lengths : length (shortest_body (publish_with d c)) ≡ length (shortest_body q) = omega (arith, old, new, same) in
    let size = same_size (publish_with d c) q lengths in
    let short = h.short in
    taken q (fits, h.spelled.0.1, h.spelled.0.2) (and_two keeps (lawful_identifier e && named) laws.0 (and_two (lawful_identifier e) named lawful rest.1)) (omega (arith, size, short))

above : (id : ℕ) → 1 ≤ id → nat_lt 0 id ≡ true
above id h = lt-ltb 0 id (omega (arith, h))

fits_16 : (id : ℕ) → id < 65536 → id < 2 ^ 16
fits_16 id h = omega (arith, h)

-- a content that passed it is taken at QoS 1
pub carried_once : (dup : Bool) (id : ℕ) (c : Content) → IsIdentifier id → IsCarried c → IsTaken (publish_with (delivery.AtLeastOnce dup id) c)
carried_once dup id c one h = resent (delivery.AtLeastOnce false 1) (delivery.AtLeastOnce dup id) c (fits_16 id one.1) (above id one.0) refl h

-- and at QoS 2
pub carried_twice : (dup : Bool) (id : ℕ) (c : Content) → IsIdentifier id → IsCarried c → IsTaken (publish_with (delivery.ExactlyOnce dup id) c)
carried_twice dup id c one h = resent (delivery.AtLeastOnce false 1) (delivery.ExactlyOnce dup id) c (fits_16 id one.1) (above id one.0) refl h

-- what passes the test at QoS 1 can be carried
pub once_tested : (c : Content) → is_input (publish_with (delivery_at AtLeastOnce) c) ≡ true → is_text c.topic ≡ true → IsCarried c
once_tested c input text = publish_tested AtLeastOnce c input text

-- what passes it at QoS 2 can be carried
pub twice_tested : (c : Content) → is_input (publish_with (delivery_at ExactlyOnce) c) ≡ true → is_text c.topic ≡ true → IsCarried c
twice_tested c input text = resent (delivery.ExactlyOnce false 1) (delivery.AtLeastOnce false 1) c (omega arith) refl refl (publish_tested ExactlyOnce c input text)

-- ---- acks

-- a PUBACK is taken
pub puback_taken : (id : ℕ) → IsIdentifier id → IsTaken (sent.puback id success)
puback_taken id one = taken (sent.puback id success) (fits_16 id one.1, refl, none_stand places.Puback) (above id one.0) (few (sent.puback id success) (omega arith))

-- a PUBREC is taken
pub pubrec_taken : (id : ℕ) → IsIdentifier id → IsTaken (sent.pubrec id success)
pubrec_taken id one = taken (sent.pubrec id success) (fits_16 id one.1, refl, none_stand places.Pubrec) (above id one.0) (few (sent.pubrec id success) (omega arith))

-- a PUBREL is taken
pub pubrel_taken : (id : ℕ) → IsIdentifier id → IsTaken (sent.pubrel id success)
pubrel_taken id one = taken (sent.pubrel id success) (fits_16 id one.1, refl, none_stand places.Pubrel) (above id one.0) (few (sent.pubrel id success) (omega arith))

-- a PUBCOMP is taken
pub pubcomp_taken : (id : ℕ) → IsIdentifier id → IsTaken (sent.pubcomp id success)
pubcomp_taken id one = taken (sent.pubcomp id success) (fits_16 id one.1, refl, none_stand places.Pubcomp) (above id one.0) (few (sent.pubcomp id success) (omega arith))

-- so is one of an identifier that was not found
pub unknown_taken : (id : ℕ) → IsIdentifier id → IsTaken (sent.pubcomp id identifier_not_found)
unknown_taken id one = taken (sent.pubcomp id identifier_not_found) (fits_16 id one.1, refl, none_stand places.Pubcomp) (above id one.0) (few (sent.pubcomp id identifier_not_found) (omega arith))

-- ---- CONNECT

connect_few : (client : List ℕ) (clean : Bool) (more : List Prop) → IsName client → length (props (property SessionExpiryInterval (U32 0xffffffff) ∷ more)) ≤ 11
    → length (shortest_body (connect_with client clean more)) < 128
connect_few client clean more name small =
    let ps = property SessionExpiryInterval (U32 0xffffffff) ∷ more in
    let named = length-append (two_bytes (length client)) client in
    let tail = length-append (blob client) [] in
    let fields = length-append (block ps) (blob client ++ []) in
    let size = length-append (varint (length (props ps))) (props ps) in
    let one = size_first (length (props ps)) (omega (arith, small)) in
    let short = name.short in
    omega (arith, named, tail, fields, size, one, small, short)

name_fits : (client : List ℕ) → IsName client → FitsText client
name_fits client name = let short = name.short in (omega (arith, short), name.text)

expiry_stands : Stands places.Connect (property SessionExpiryInterval (U32 0xffffffff) ∷ [])
expiry_stands = (record { each = (record { kind = refl; fits = omega arith }, tt); short = omega arith }, refl)

-- a publisher's CONNECT is taken
pub connect_taken : (client : List ℕ) (clean : Bool) → IsName client → IsTaken (connect_with client clean [])
connect_taken client clean name =
    let p = connect_with client clean [] in
    taken p (omega arith, expiry_stands, name_fits client name, tt, tt, tt) refl (few p (connect_few client clean [] name (omega arith)))

-- with a Receive Maximum, and a Topic Alias Maximum if it isn't 0
window_of : (window aliases : ℕ) → may_take window aliases ≡ true → (nat_lt 0 window ≡ true) × (window < 65536) × (aliases < 65536)
window_of window aliases h =
    let all = two (nat_lt 0 window && nat_lt window (2 ^ 16)) (nat_lt aliases (2 ^ 16)) h in
    let both = two (nat_lt 0 window) (nat_lt window (2 ^ 16)) all.0 in
    let less = ltb-true window (2 ^ 16) both.1 in
    let few_enough = ltb-true aliases (2 ^ 16) all.1 in (both.0, omega (arith, less), omega (arith, few_enough))

window_stands : (window : ℕ) → window < 65536 → Stands places.Connect (property SessionExpiryInterval (U32 0xffffffff) ∷ property ReceiveMaximum (U16 window) ∷ [])
window_stands window less = (record { each = (record { kind = refl; fits = omega arith }, (record { kind = refl; fits = omega (arith, less) }, tt)); short = omega arith }, refl)

both_stand : (window aliases : ℕ) → window < 65536 → aliases < 65536
    → Stands places.Connect (property SessionExpiryInterval (U32 0xffffffff) ∷ property ReceiveMaximum (U16 window) ∷ property TopicAliasMaximum (U16 aliases) ∷ [])
both_stand window aliases less few = (
  record { each = (record { kind = refl; fits = omega arith }, (record { kind = refl; fits = omega (arith, less) }, (record { kind = refl; fits = omega (arith, few) }, tt))); short = omega arith },
  refl,
)

-- a receiver's CONNECT is taken
pub connect_back_taken : (client : List ℕ) (window aliases : ℕ) (clean : Bool) → IsName client → may_take window aliases ≡ true
    → IsTaken (connect_with client clean (property ReceiveMaximum (U16 window) ∷ taking aliases))
connect_back_taken client window zero clean name is =
    let p = connect_with client clean (property ReceiveMaximum (U16 window) ∷ []) in
    let w = window_of window 0 is in
    taken p (omega arith, window_stands window w.1, name_fits client name, tt, tt, tt) (rw w.0 refl)
    (few p (connect_few client clean (property ReceiveMaximum (U16 window) ∷ []) name (omega arith)))
connect_back_taken client window (suc more) clean name is =
    let p = connect_with client clean (property ReceiveMaximum (U16 window) ∷ property TopicAliasMaximum (U16 (suc more)) ∷ []) in
    let w = window_of window (suc more) is in
    taken p (omega arith, both_stand window (suc more) w.1 w.2, name_fits client name, tt, tt, tt) (rw w.0 refl)
    (few p (connect_few client clean (property ReceiveMaximum (U16 window) ∷ property TopicAliasMaximum (U16 (suc more)) ∷ []) name (omega arith)))

-- ---- SUBSCRIBE

qos_most : (q : Quality) → qos_number q ≤ 2
qos_most AtMostOnce = omega arith
qos_most AtLeastOnce = omega arith
qos_most ExactlyOnce = omega arith

bit_most : (t : Bool) → bit t ≤ 1
bit_most true = omega arith
bit_most false = omega arith

handling_most : (h : RetainHandling) → handling_number h ≤ 2
handling_most SendAlways = omega arith
handling_most SendIfNew = omega arith
handling_most DoNotSend = omega arith

options_most : (o : SubscriptionOptions) → options_byte o < 64
options_most o =
    let q = qos_most o.qos in
    let l = bit_most o.no_local in
    let p = bit_most o.retain_as_published in
    let h = handling_most o.retain_handling in
    omega (arith, q, l, p, h)

wish_length : (w : Wish) → (length (props (identified w.identifier)) + length w.filter + 2) ≤ length (shortest_body (subscribe_with w))
wish_length w =
    let ps = identified w.identifier in
    let one = blob w.filter ++ options_byte w.options ∷ [] in
    let first = length-append (two_bytes 1) (block ps ++ (one ++ [])) in
    let second = length-append (block ps) (one ++ []) in
    let size = length-append (varint (length (props ps))) (props ps) in
    let third = length-append one [] in
    let fourth = length-append (blob w.filter) (options_byte w.options ∷ []) in
    let named = length-append (two_bytes (length w.filter)) w.filter in
    omega (arith, first, second, size, third, fourth, named)

wish_stands : (o : Option ℕ) → fits_number o ≡ true → length (props (identified o)) < 65536 → Stands places.Subscribe (identified o)
wish_stands None fits less = none_stand places.Subscribe
wish_stands (Some n) fits less = let small = ltb-true n (2 ^ 28) fits in (record { each = (record { kind = refl; fits = small }, tt); short = omega (arith, less) }, refl)

-- a SUBSCRIBE that passes the test is taken
pub wish_taken : (w : Wish) → is_wish w ≡ true → IsTaken (subscribe_with w)
wish_taken w is =
    let p = subscribe_with w in
    let both = two (fits_number w.identifier) (is_text w.filter && is_input p) is in
    let said = two (is_text w.filter) (is_input p) both.1 in
    let h = input_of p said.1 in
    let less = within p h.1 in
    let long = wish_length w in
    let filter_fits : FitsText w.filter = (omega (arith, less, long), said.0) in
    taken p (omega arith, wish_stands w.identifier both.0 (omega (arith, less, long)), ((filter_fits, options_most w.options), tt)) h.0 h.1
