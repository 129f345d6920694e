-- The PUBLISH of each stored copy has a spelling, whenever it is sent.
use Rattle.std.proofs.Common.{ℕ, ◌+◌, ◌*◌, ◌≤◌, ◌<◌, ◌^◌, List, length, arith}
use Rattle.std.proofs.lemmas.List.{length-append}
use Rattle.mqtt_base.specs.Values.{varint}
use Rattle.mqtt_base.proofs.Varints.{varint_sizes}
use Rattle.mqtt_base.specs.declared.session.Qos.{Qos}
use Rattle.mqtt_base.specs.declared.session.Qos.TheVariants.{AtMostOnce, AtLeastOnce, ExactlyOnce}
use Rattle.mqtt_props.specs.declared.place.Place.TheVariants as places
use Rattle.mqtt_props.specs.Properties.{Prop, props, block}
use Rattle.mqtt_records.specs.messages.Queue.{first_sent, identifier_len, IsSpelled}
use Rattle.mqtt_records.specs.declared.messages.message.MessageCopy.{MessageCopy}
use Rattle.std.specs.Prelude.{Option, Some, None}
use Rattle.mqtt_props.specs.declared.place.Place.{Place}
use Rattle.mqtt_records.specs.declared.messages.message.Content.{Content}
use Rattle.mqtt_records.specs.declared.messages.message.Will.{Will}
use Rattle.mqtt_keep.specs.lawful.Lawful.{IsMessage, HasLawfulWill}
use Rattle.mqtt_rules.specs.step.Contents.{IsContentOf, IsPublishedOf, IsWilledOf, IsCopiedOf, Sizes, AreSizes, of_packets, of_rows}
use Rattle.mqtt_rules.proofs.step_lemmas.contents.SentContents.{longest, sent_size, sent_fits, sent_may, sent_lawful}

-- bytes of a block, and of its length
props_short : (most : ℕ) (ps : List Prop) (more : ℕ) → length (block ps) + more ≤ most → length (props ps) + more ≤ most
props_short most ps more le =
    let parts = length-append (varint (length (props ps))) (props ps) in
    omega (arith, le, parts)

block_short : (ps : List Prop) → length (props ps) < 2 ^ 28 → length (block ps) ≤ 4 + length (props ps)
block_short ps short =
    let parts = length-append (varint (length (props ps))) (props ps) in
    let four = varint_sizes (length (props ps)) 268435455 (omega (arith, short)) in
    let top = longest in
    omega (arith, parts, four, top)

identifier_short : (q : Qos) → identifier_len q ≤ 2
identifier_short AtMostOnce = omega arith
identifier_short AtLeastOnce = omega arith
identifier_short ExactlyOnce = omega arith

block_size : (sizes : Sizes) → AreSizes sizes → (copy : MessageCopy) → IsCopiedOf sizes copy → length (block (first_sent copy)) + length copy.content.payload ≤ 4 + sizes.bytes + 5 * sizes.identifiers
block_size sizes are copy h =
    let ps = copy.content.properties in
    let short = props_short sizes.bytes ps (length copy.content.payload) h.content.short in
    let size = sent_size sizes 0 copy.identifiers ps h.identifiers h.content.fits in
    let bytes = are.bytes.1 in
    let few = are.identifiers.1 in
    let block = block_short (first_sent copy) (omega (arith, short, size, bytes, few)) in
    omega (arith, short, size, block)

-- a copy of a lawful content has a spelling
pub copy_spelled : (sizes : Sizes) → AreSizes sizes → (copy : MessageCopy) → IsCopiedOf sizes copy → IsSpelled copy
copy_spelled sizes are copy h =
    let ps = copy.content.properties in
    let short = props_short sizes.bytes ps (length copy.content.payload) h.content.short in
    let size = block_size sizes are copy h in
    let bytes = are.bytes.1 in
    let few = are.identifiers.1 in
    let topic = h.content.named.fits.0 in
    let identifier = identifier_short copy.qos in
    record {
      properties = sent_fits sizes 0 copy.identifiers ps h.identifiers h.content.fits (omega (arith, short, bytes, few));
      short = omega (arith, size, topic, identifier, bytes, few);
    }

-- packets are within the sizes of packets
pub packets_are : AreSizes of_packets
packets_are = record { bytes = (omega arith, omega arith); identifiers = (omega arith, omega arith) }

-- the sizes of stored rows are such as a lawful content may have
pub rows_are : AreSizes of_rows
rows_are = record { bytes = (omega arith, omega arith); identifiers = (omega arith, omega arith) }

-- a copy of what packets can carry is a lawful PUBLISH
pub copy_message : (copy : MessageCopy) → IsCopiedOf of_packets copy → IsMessage places.Publish copy.content.topic (first_sent copy) copy.content.payload
copy_message copy h =
    let ps = copy.content.properties in
    let size = block_size of_packets packets_are copy h in
    let topic = h.content.named.fits.0 in
    let short = props_short of_packets.bytes ps (length copy.content.payload) h.content.short in
    record {
      text = h.content.named.fits;
      spelled = sent_fits of_packets 0 copy.identifiers ps h.identifiers h.content.fits (omega (arith, short));
      may = sent_may of_packets 0 copy.identifiers ps h.identifiers h.content.may;
      lawful = sent_lawful of_packets 0 copy.identifiers ps h.identifiers h.content.may h.content.lawful;
      short = omega (arith, size, topic);
      topic = h.content.named.name;
    }

-- contents are what lawful records ask of a message
content_message : (place : Place) (topic : List ℕ) (ps : List Prop) (payload : List ℕ) → IsContentOf of_packets place topic ps payload → IsMessage place topic ps payload
content_message place topic ps payload h =
    let short = h.short in
    let long = h.named.fits.0 in
    record { text = h.named.fits; spelled = h.fits; may = h.may; lawful = h.lawful; short = omega (arith, short, long); topic = h.named.name }

-- a retained message of what packets can carry is a lawful PUBLISH
pub retained_message : (content : Content) → IsPublishedOf of_packets content → IsMessage places.Publish content.topic content.properties content.payload
retained_message content h = content_message places.Publish content.topic content.properties content.payload h

-- a Will of what packets can carry is a lawful one
pub will_message : (will : Option Will) → IsWilledOf of_packets will → HasLawfulWill will
will_message None h = tt
will_message (Some will) h = content_message places.Will will.topic will.properties will.payload h
