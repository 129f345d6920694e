-- Which packets of ends the broker takes, in code and in the definitions (MQTT 5.0, 2.1.4, 3.3, 3.8).
use Rattle.std.proofs.Common.{◌≡◌, refl, sym, ap, ◌∙◌, Bool, true, false, ◌&&◌, length, length-append, arith}
use Rattle.std.specs.Prelude.{nat_le, IsTrue, ◌↔◌}
use Rattle.std.proofs.lemmas.Bool.{le-leb, leb-true}
use Rattle.mqtt_base.specs.Values.{FitsText, is_text, varint}
use Rattle.mqtt_base.specs.declared.limits.TheConstants.{PACKET_LIMIT}
use Rattle.mqtt_packet.specs.codec.Packets.{Fits, is_lawful, shortest_body}
use Rattle.mqtt_packet.specs.declared.codec.packet.Packet.{Packet}
use Rattle.mqtt_rules.proofs.step_lemmas.contents.PassedContents.{and_two, two}
use Rattle.mqtt_rules.specs.step.Contents.{IsTaken}
use Rattle.mqtt_rules.specs.step.Packets.{size_of}
use Rattle.mqtt_world_model.specs.model.Ends.{Draft, Wish, subscribe_with}
use Rattle.mqtt_world_model.specs.model.World.{fits_number, is_input, is_message, is_wish, message_packet}
use Rattle.mqtt_world_model.proofs.single_steps_lemmas.TakenPackets.{publish_tested, wish_taken}

input_of : (p : Packet) → IsTaken p → is_input p ≡ true
input_of p taken =
    and_two (is_lawful p) (nat_le (size_of p) PACKET_LIMIT) taken.spelled.2 (le-leb (size_of p) PACKET_LIMIT taken.short)

taken_of : (p : Packet) → Fits p → is_input p ≡ true → IsTaken p
taken_of p fits is =
    let both = two (is_lawful p) (nat_le (size_of p) PACKET_LIMIT) is in
    let short = leb-true (size_of p) PACKET_LIMIT both.1 in
    let whole = length-append (varint (length (shortest_body p))) (shortest_body p) in
    record { spelled = (fits, omega (arith, short, whole), both.0); short = short }

-- what code says of a packet is what the definitions say, if these make it one that is taken
decided : (p : Packet) (b is : Bool) → (IsTrue b ↔ IsTaken p) → is_input p ≡ is → (is ≡ true → IsTaken p) → b ≡ is
decided p true true h eq good = refl
decided p true false h eq good = sym (input_of p (h.0 refl)) ∙ eq
decided p false true h eq good = h.1 (good refl)
decided p false false h eq good = refl

-- a packet that fits is taken if the test says so
pub fitting_is : (p : Packet) (b : Bool) → (IsTrue b ↔ IsTaken p) → Fits p → b ≡ is_input p
fitting_is p b h fits = decided p b (is_input p) h refl (taken_of p fits)

-- so is a message, whose topic is a text
pub message_is : (d : Draft) (b : Bool) → (IsTrue b ↔ IsTaken (message_packet d)) → FitsText d.content.topic
    → b ≡ is_message d
message_is d b h topic =
    let same : is_message d ≡ is_input (message_packet d) = ap (λ (t : Bool). t && is_input (message_packet d)) topic.1 in
    decided (message_packet d) b (is_input (message_packet d)) h refl (λ is. publish_tested d.qos d.content is topic.1) ∙ sym same

-- so is a wish, if the identifier fits: its filter is a text
pub wish_is : (w : Wish) (b : Bool) → (IsTrue b ↔ IsTaken (subscribe_with w)) → fits_number w.identifier ≡ true
    → FitsText w.filter → b ≡ is_wish w
wish_is w b h fits filter =
    let same : is_wish w ≡ is_input (subscribe_with w) =
    ap (λ (t : Bool). t && (is_text w.filter && is_input (subscribe_with w))) fits ∙ ap (λ (t : Bool). t && is_input (subscribe_with w)) filter.1 in
    decided (subscribe_with w) b (is_input (subscribe_with w)) h refl (λ is. wish_taken w (same ∙ is)) ∙ sym same
