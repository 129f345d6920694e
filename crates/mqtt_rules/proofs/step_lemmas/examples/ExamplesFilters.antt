-- Codes of UNSUBSCRIBE, and copies of QoS 0 that a SUBSCRIBE brings (MQTT 5.0, 3.8.4, 3.10.4, 3.11.3).
use Rattle.std.proofs.Common.{◌≡◌, true, false, [], ◌∷◌, ◌++◌, refl}
use Rattle.std.specs.Prelude.{codes}
use Rattle.mqtt_base.specs.Values.{varint}
use Rattle.mqtt_base.specs.declared.session.Qos.{Qos}
use Rattle.mqtt_base.specs.declared.session.Qos.TheVariants.{AtMostOnce, AtLeastOnce, ExactlyOnce}
use Rattle.mqtt_packet.specs.declared.codec.publish.Delivery.TheVariants as delivery
use Rattle.mqtt_packet.specs.declared.codec.packet.Packet.{Packet}
use Rattle.mqtt_packet.specs.declared.codec.packet.Packet.TheVariants.{Publish}
use Rattle.mqtt_flow.specs.declared.outbound.entry.Full.TheVariants.{Refuse}
use Rattle.mqtt_rules.specs.step.Packets.{suback, unsuback}
use Rattle.mqtt_rules.specs.step.State.{Broker}
use Rattle.mqtt_rules.specs.step.Step.{Input, Outcome}
use Rattle.mqtt_rules.proofs.step_lemmas.examples.Play.{blank, at, runs, asks, tells_with, out, hello, in_line, wants, gives_up, topic, narrow, waiting, queued, keeps}

-- ---- a filter that stands twice is gone the second time; one that is no filter is told so

each_filter_in_turn : asks (in_line 1 (hello (codes "r1")) ++ at 0 (Input 1 (wants 1 topic ExactlyOnce)) ∷ [])
    (at 0 (Input 1 (gives_up 2 (topic ∷ topic ∷ codes "a/#/b" ∷ codes "x" ∷ []))))
    ≡ out ((1, unsuback 2 (0 ∷ 0x11 ∷ 0x8f ∷ 0x11 ∷ [])) ∷ []) [] [] false
unfolding varint
each_filter_in_turn = refl

-- ---- a full queue and a retained message: its copy of QoS 0 needs no room, one of QoS 1 does

abbrev full : Broker
full = queued 1 (waiting 1 1) 1 (runs (in_line 1 (hello (codes "r1")) ++ at 0 (Input 1 (keeps topic 1)) ∷ []) blank)

abbrev asks_at : Qos → Outcome
asks_at qos = tells_with (narrow Refuse 1) (at 0 (Input 1 (wants 2 topic qos))) full

abbrev at_once : Packet
at_once = Publish (record { delivery = delivery.AtMostOnce; retain = true; topic = topic; properties = []; payload = codes "!" })

one_of_no_queue_goes_out : asks_at AtMostOnce ≡ out ((1, suback 2 (0 ∷ [])) ∷ (1, at_once) ∷ []) [] [] false
unfolding varint
one_of_no_queue_goes_out = refl

one_of_the_queue_has_no_room : asks_at AtLeastOnce ≡ out ((1, suback 2 (0x97 ∷ [])) ∷ []) [] [] false
unfolding varint
one_of_the_queue_has_no_room = refl
