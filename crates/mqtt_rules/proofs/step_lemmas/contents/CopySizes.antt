-- How many bytes a copy's PUBLISH has: the same whenever it is sent.
use Rattle.std.proofs.Common.{◌≡◌, ℕ, ◌+◌, Bool, false, List, [], ◌∷◌, ◌++◌, length, map, refl, sym, ap, ◌∙◌, arith, inl, inr}
use Rattle.std.proofs.lemmas.Bool.{cases_Bool}
use Rattle.std.proofs.lemmas.List.{length-append}
use Rattle.mqtt_base.specs.declared.session.Qos.{Qos}
use Rattle.mqtt_base.specs.declared.session.Qos.TheVariants as qos
use Rattle.mqtt_base.specs.Values.{varint, blob, two_bytes}
use Rattle.mqtt_props.specs.declared.table.PropName.TheVariants.{MessageExpiryInterval}
use Rattle.mqtt_props.specs.Properties.{Prop, prop, props, block}
use Rattle.mqtt_props.specs.Laws.{is_named}
use Rattle.mqtt_packet.specs.codec.Publish.{identifier_field}
use Rattle.mqtt_packet.specs.codec.Packets.{shortest_body}
use Rattle.mqtt_records.specs.declared.messages.message.MessageCopy.{MessageCopy}
use Rattle.mqtt_records.specs.messages.PassedOn.{aged, sent_after}
use Rattle.mqtt_records.specs.messages.Queue.{identifier_len, first_sent, remaining, publish_size}
use Rattle.mqtt_props.specs.Edits.{only, without}
use Rattle.mqtt_props.specs.declared.table.PropName.TheVariants.{UserProperty}
use Rattle.mqtt_records.specs.messages.PassedOn.{identified}
use Rattle.mqtt_rules.specs.step.Packets.{delivery_by, properties_sent, publish_of, seconds_waited, size_of}
use Rattle.mqtt_rules.proofs.step_lemmas.contents.PassedContents.{props_append}

-- ---- properties

-- a property has as many bytes however long it waited
pub aged_length : (waited : ℕ) (p : Prop) → length (prop (aged waited p)) ≡ length (prop (aged 0 p))
aged_length waited p = elim (cases_Bool (is_named MessageExpiryInterval p)) [ inl named ↦ rw named refl | inr other ↦ rw other refl ]

-- properties have as many bytes however long they waited
pub all_aged : (waited : ℕ) (ps : List Prop) → length (props (map (aged waited) ps)) ≡ length (props (map (aged 0) ps))
all_aged waited [] = refl
all_aged waited (p ∷ ps) =
    let one = aged_length waited p in
    let more = all_aged waited ps in
    let old = length-append (prop (aged waited p)) (props (map (aged waited) ps)) in
    let new = length-append (prop (aged 0 p)) (props (map (aged 0) ps)) in
    omega (arith, one, more, old, new)

-- the properties of a copy have as many bytes however long it waited
pub props_sent : (waited : ℕ) (ids : List ℕ) (ps : List Prop) → length (props (sent_after waited ids ps)) ≡ length (props (sent_after 0 ids ps))
props_sent waited ids ps =
    let others = length (props (map identified ids)) + length (props (only UserProperty ps)) in
    parted (map (aged waited) (without UserProperty ps)) (map identified ids) (only UserProperty ps)
    ∙ ap (λ (n : ℕ). n + others) (all_aged waited (without UserProperty ps))
    ∙ sym (parted (map (aged 0) (without UserProperty ps)) (map identified ids) (only UserProperty ps))
  where
    parted : (xs ys zs : List Prop) → length (props (xs ++ ys ++ zs)) ≡ length (props xs) + (length (props ys) + length (props zs))
    parted xs ys zs =
        let first = props_append (xs ++ ys) zs in
        let second = props_append xs ys in
        omega (arith, first, second)

block_length : (ps qs : List Prop) → length (props ps) ≡ length (props qs) → length (block ps) ≡ length (block qs)
block_length ps qs same =
    let lengths : length (varint (length (props ps))) ≡ length (varint (length (props qs))) = ap (λ (n : ℕ). length (varint n)) same in
    let old = length-append (varint (length (props ps))) (props ps) in
    let new = length-append (varint (length (props qs))) (props qs) in
    omega (arith, same, lengths, old, new)

-- ---- the packet

-- the packet identifier has as many bytes whichever it is
pub identifier_length : (q : Qos) (dup : Bool) (id : ℕ) → length (identifier_field (delivery_by q dup id)) ≡ identifier_len q
identifier_length qos.AtMostOnce dup id = refl
identifier_length qos.AtLeastOnce dup id = refl
identifier_length qos.ExactlyOnce dup id = refl

body_length : (now : ℕ) (dup : Bool) (id : ℕ) (copy : MessageCopy) → length (shortest_body (publish_of now dup id copy)) ≡ remaining copy
body_length now dup id copy =
    let topic = copy.content.topic in
    let field = identifier_field (delivery_by copy.qos dup id) in
    let sent = properties_sent now copy in
    let payload = copy.content.payload in
    let first = length-append (blob topic) (field ++ (block sent ++ payload)) in
    let named = length-append (two_bytes (length topic)) topic in
    let second = length-append field (block sent ++ payload) in
    let third = length-append (block sent) payload in
    let field_is = identifier_length copy.qos dup id in
    let block_is = block_length sent (first_sent copy) (props_sent (seconds_waited now copy.content) copy.identifiers copy.content.properties) in
    omega (arith, first, named, second, third, field_is, block_is)

-- a copy's PUBLISH has the same size at each moment, with DUP or without, under each identifier
pub sent_size : (now : ℕ) (dup : Bool) (id : ℕ) (copy : MessageCopy) → size_of (publish_of now dup id copy) ≡ publish_size copy
sent_size now dup id copy =
    let body = shortest_body (publish_of now dup id copy) in
    let is = body_length now dup id copy in
    let whole = length-append (varint (length body)) body in
    let lengths : length (varint (length body)) ≡ length (varint (remaining copy)) = ap (λ (n : ℕ). length (varint n)) is in
    omega (arith, is, whole, lengths)

-- and it is that of the first sending
pub first_size : (copy : MessageCopy) → publish_size copy ≡ size_of (publish_of copy.content.arrived false 1 copy)
first_size copy = sym (sent_size copy.content.arrived false 1 copy)
