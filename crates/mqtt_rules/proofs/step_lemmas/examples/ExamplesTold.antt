-- What a client is told of topics on its line, and what goes out there by it (MQTT 5.0, 3.3.2.3.4).
use Rattle.std.proofs.Common.{◌≡◌, ℕ, false, List, [], ◌∷◌, ◌++◌, refl}
use Rattle.std.specs.Prelude.{codes}
use Rattle.mqtt_base.specs.Values.{varint}
use Rattle.mqtt_packet.specs.declared.codec.publish.Publish.{Publish}
use Rattle.mqtt_packet.specs.declared.codec.publish.Delivery.TheVariants as delivery
use Rattle.mqtt_packet.specs.declared.codec.packet.Packet.{Packet}
use Rattle.mqtt_packet.specs.declared.codec.packet.Packet.TheVariants as packets
use Rattle.mqtt_topic.specs.declared.sending.form.Form.TheVariants.{Named, Short}
use Rattle.mqtt_rules.specs.step.Forms.{in_form}
use Rattle.mqtt_rules.specs.step.State.{Broker}
use Rattle.mqtt_rules.specs.step.Deeds.{Deed, Link, On, Greet, Send, Gone, after_all, wires}
use Rattle.mqtt_rules.proofs.step_lemmas.examples.Play.{blank, hi}

abbrev to : List ℕ → Publish
to topic = record { delivery = delivery.AtMostOnce; retain = false; topic = topic; properties = []; payload = hi }

abbrev a_b : Publish
a_b = to (codes "a/b")

abbrev a_c : Publish
a_c = to (codes "a/c")

-- two lines, whose clients take one alias, and none
abbrev two_lines : Broker
two_lines = after_all (Link 1 ∷ Link 2 ∷ On 1 (Greet 1 0 65535 0xffffffff 1) ∷ On 2 (Greet 2 0 65535 0xffffffff 0) ∷ []) blank

abbrev a_b_twice : ℕ → List Deed
a_b_twice line = Send line (packets.Publish a_b) ∷ Send line (packets.Publish a_b) ∷ []

-- the first has the topic and its alias, and the second the alias alone; no second alias is free
abbrev on_line_1 : List (ℕ × Packet)
on_line_1 = (1, packets.Publish (in_form (Named 1) a_b)) ∷ (1, packets.Publish (in_form (Short 1) a_b)) ∷ (1, packets.Publish a_c) ∷ []

told_once : wires (a_b_twice 1 ++ Send 1 (packets.Publish a_c) ∷ []) two_lines ≡ on_line_1
unfolding varint
told_once = refl

-- what one client was told another doesn't know
another_knows_nothing : wires (a_b_twice 1 ++ a_b_twice 2) two_lines
    ≡ (1, packets.Publish (in_form (Named 1) a_b)) ∷ (1, packets.Publish (in_form (Short 1) a_b)) ∷ (2, packets.Publish a_b) ∷ (2, packets.Publish a_b) ∷ []
unfolding varint
another_knows_nothing = refl

-- what was told is forgotten with the line
forgotten_with_its_line : (after_all (a_b_twice 1 ++ Gone 1 ∷ []) two_lines).tellings ≡ []
unfolding varint
forgotten_with_its_line = refl
