-- Worked drains: whose the copies are that end, by what, and for which packet (MQTT 5.0, 3.1.2.4, 4.3).
use Rattle.std.proofs.Common.{◌≡◌, ℕ, true, false, Bool, List, [], ◌∷◌, ◌++◌, map, Option, Some, refl}
use Rattle.std.specs.Str.{is_utf8, chars}
use Rattle.std.proofs.Math.Utf8.{encode}
use Rattle.mqtt_base.specs.Values.{varint}
use Rattle.mqtt_base.specs.declared.session.Ending.{Ending}
use Rattle.mqtt_base.specs.declared.session.Ending.TheVariants.{Taken, SessionEnded}
use Rattle.mqtt_packet.specs.declared.codec.packet.Packet.{Packet}
use Rattle.mqtt_packet.specs.declared.codec.packet.Packet.TheVariants as packets
use Rattle.mqtt_rules.specs.step.Step.{Call, Input}
use Rattle.mqtt_rules.proofs.step_lemmas.examples.Play.{first, usual}
use Rattle.mqtt_world_model.specs.model.Run.{after}
use Rattle.mqtt_world_model.specs.model.World.{Event, ask, connect_end, give_up, publish, publisher, receiver, to_broker}
use Rattle.mqtt_world_model.proofs.model_lemmas.examples.Scripts.{draft, joins, p1, r1, round, subscribes, turns}
use Rattle.mqtt_world_laws.specs.receiver.Drains.{drain_turns}
use Rattle.mqtt_world_laws.specs.causes.Endings.{EndAt, ends_over}

-- a CONNECT with Clean Start
abbrev is_clean : Packet → Bool
is_clean (packets.Connect c) = c.clean_start
is_clean packet = false

abbrev is_clean_call : Option Call → Bool
is_clean_call (Some (Input n packet)) = is_clean packet
is_clean_call call = false

record Seen : Type 0 where
  client : List ℕ
  by : Ending
  clean : Bool

abbrev seen : EndAt → Seen
seen x = record { client = x.who.client; by = x.ending; clean = is_clean_call x.asked.call }

-- the ends in a drain of r1 of so many rounds at most
abbrev drain_after : ℕ → List Event → List Seen
drain_after most es = let w = after usual (turns es) in map seen (ends_over usual (drain_turns usual first r1 most w) w)

-- two copies of QoS 2 wait for r1
abbrev two_wait : List Event
two_wait =
    receiver r1 10 0 ∷ publisher p1 ∷ joins r1 false ++ (subscribes r1 ++ (joins p1 false
    ++ (publish p1 draft ∷ publish p1 draft ∷ ask (to_broker p1) ∷ ask (to_broker p1) ∷ [])))

abbrev ended : Ending → Bool → Seen
ended by clean = record { client = r1; by = by; clean = clean }

-- two copies that wait are taken
pub they_are_taken : drain_after 5 two_wait ≡ ended Taken false ∷ ended Taken false ∷ []
unfolding varint is_utf8 chars encode
they_are_taken = refl

-- one was sent, and a CONNECT with Clean Start is under way
pub a_clean_start_ends_both : drain_after 5 (two_wait ++ round r1 ++ give_up r1 ∷ connect_end r1 true ∷ []) ≡ ended SessionEnded true ∷ ended SessionEnded true ∷ []
unfolding varint is_utf8 chars encode
a_clean_start_ends_both = refl
