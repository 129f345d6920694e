-- A worked run in which a receiver reads a PUBLISH that names an alias, and then one by the alias alone (MQTT 5.0, 3.3.2.3.4).
use Rattle.std.proofs.Common.{◌≡◌, ℕ, Bool, true, false, ◌&&◌, List, [], ◌∷◌, ◌++◌, map, bytes_eq, Option, Some, None, refl, sym, subst}
use Rattle.std.specs.Prelude.{is_none, option_map}
use Rattle.std.specs.List.{AllByRecursion}
use Rattle.std.proofs.lemmas.Slice.Eq.{bytes_eq-Decides}
use Rattle.std.specs.Str.{is_utf8, chars}
use Rattle.std.proofs.Math.Utf8.{encode}
use Rattle.mqtt_base.specs.Values.{varint}
use Rattle.mqtt_base.specs.declared.session.Qos.TheVariants.{AtLeastOnce}
use Rattle.mqtt_packet.specs.declared.codec.packet.Packet.{Packet}
use Rattle.mqtt_packet.specs.declared.codec.packet.Packet.TheVariants as packets
use Rattle.mqtt_packet.specs.declared.codec.publish.Delivery.TheVariants as delivery
use Rattle.mqtt_packet.specs.declared.codec.publish.Publish.{Publish}
use Rattle.mqtt_topic.specs.names.Names.{IsTopicName}
use Rattle.mqtt_topic.proofs.names_lemmas.MatchLemmas.{and_left, and_right}
use Rattle.mqtt_topic.specs.declared.sending.form.Form.TheVariants.{Named, Short}
use Rattle.mqtt_rules.specs.step.Forms.{in_form}
use Rattle.mqtt_rules.specs.step.Deeds.{Deed, Send}
use Rattle.mqtt_rules.proofs.step_lemmas.examples.Play.{usual, topic, hi}
use Rattle.mqtt_rules.specs.telling.Meaning.{SendsItsTopic, alias_on}
use Rattle.mqtt_world_model.specs.model.Lines.{Down}
use Rattle.mqtt_world_model.specs.model.Ends.{Draft, Entry, Receiver}
use Rattle.mqtt_world_model.specs.model.World.{Event, publisher, receiver, give_up, publish, to_end, ask, to_broker, pump, receiver_named, start}
use Rattle.mqtt_world_model.specs.model.Run.{deeds_over, after as after_meant}
use Rattle.mqtt_world_model.proofs.model_lemmas.examples.Scripts.{turns, p1, r1, joins, subscribes}
use Rattle.mqtt_world_laws.specs.telling.AsSent.{Most, after}
use Rattle.mqtt_world_laws.specs.telling.Likewise.{Likewise}
use Rattle.mqtt_world_laws.proofs.telling_lemmas.Runs.{likewise}

-- each client takes one alias, or none
abbrev one : Most
one n = 1

abbrev none : Most
none n = 0

abbrev once : Draft
once = record { qos = AtLeastOnce; content = record { retain = false; topic = topic; payload = hi } }

-- r1 has subscribed to a/b; p1 publishes there twice, and both copies are sent to r1
abbrev sent_twice : List Event
sent_twice =
    receiver r1 10 0 ∷ publisher p1 ∷ joins r1 false
    ++ (subscribes r1 ++ (joins p1 false ++ (publish p1 once ∷ publish p1 once ∷ ask (to_broker p1) ∷ ask (to_broker p1) ∷ ask (pump r1) ∷ [])))

-- and r1 reads them
abbrev read_twice : List Event
read_twice = sent_twice ++ to_end r1 ∷ to_end r1 ∷ []

-- on a new line the second comes again: r1 had not answered
abbrev sent_again : List Event
sent_again = sent_twice ++ to_end r1 ∷ give_up r1 ∷ joins r1 false ++ ask (pump r1) ∷ []

abbrev under_way : Most → List Event → Option (List Packet)
under_way most es = option_map (λ (r : Receiver). map (λ (d : Down). d.packet) r.line.down) (receiver_named r1 (after most usual (turns es)).world)

abbrev read_of : Most → List Event → Option (List (List ℕ))
read_of most es = option_map (λ (r : Receiver). map (λ (e : Entry). e.body.topic) r.once) (receiver_named r1 (after most usual (turns es)).world)

abbrev copy_with : ℕ → Publish
copy_with id = record { delivery = delivery.AtLeastOnce false id; retain = false; topic = topic; properties = []; payload = hi }

-- the first names the alias, and the second has no topic
pub named_then_short : under_way one sent_twice ≡ Some (packets.Publish (in_form (Named 1) (copy_with 1)) ∷ packets.Publish (in_form (Short 1) (copy_with 2)) ∷ [])
unfolding varint is_utf8 chars encode
named_then_short = refl

-- both are read with the topic
pub both_are_read : read_of one read_twice ≡ Some (topic ∷ topic ∷ [])
unfolding varint is_utf8 chars encode
both_are_read = refl

-- and the alias is known then
pub alias_is_known : (after one usual (turns read_twice)).known ≡ record { max = 1; topics = (1, topic) ∷ [] } ∷ []
unfolding varint is_utf8 chars encode
alias_is_known = refl

-- a client that takes none is sent the topic twice
pub plain_twice : under_way none sent_twice ≡ Some (packets.Publish (copy_with 1) ∷ packets.Publish (copy_with 2) ∷ [])
unfolding varint is_utf8 chars encode
plain_twice = refl

-- on a new line nothing is known, and the alias is named again
pub named_again : under_way one sent_again ≡ Some (packets.Publish (in_form (Named 1) (record (copy_with 1) { delivery = delivery.AtLeastOnce true 1 })) ∷ packets.Publish (in_form (Short 1) (record (copy_with 2) { delivery = delivery.AtLeastOnce true 2 })) ∷ [])
unfolding varint is_utf8 chars encode
named_again = refl

-- ---- the laws are of this run: each PUBLISH that is meant goes to a/b, and has no alias

abbrev goes_there : Deed → Bool
goes_there (Send n (packets.Publish p)) = bytes_eq p.topic topic && is_none (alias_on p)
goes_there d = true

abbrev all_go_there : List Deed → Bool
all_go_there [] = true
all_go_there (d ∷ ds) = goes_there d && all_go_there ds

a_name : IsTopicName topic
a_name = record { some = λ e. absurd cc; plain = refl }

no_alias : (o : Option ℕ) → is_none o ≡ true → o ≡ None
no_alias None e = refl
no_alias (Some n) e = absurd cc

sends_its_topic : (d : Deed) → goes_there d ≡ true → SendsItsTopic d
sends_its_topic (Send n (packets.Publish p)) e = (
  subst IsTopicName (sym ((bytes_eq-Decides p.topic topic).0 (and_left (bytes_eq p.topic topic) (is_none (alias_on p)) e))) a_name,
  no_alias (alias_on p) (and_right (bytes_eq p.topic topic) (is_none (alias_on p)) e),
)
sends_its_topic (Send n packet) e = tt
sends_its_topic d e = tt

send_their_topics : (ds : List Deed) → all_go_there ds ≡ true → AllByRecursion SendsItsTopic ds
send_their_topics [] e = tt
send_their_topics (d ∷ ds) e = (sends_its_topic d (and_left (goes_there d) (all_go_there ds) e), send_their_topics ds (and_right (goes_there d) (all_go_there ds) e))

all_go : all_go_there (deeds_over usual (turns read_twice) start) ≡ true
unfolding varint is_utf8 chars encode
all_go = refl

-- so it goes as the run of what is meant
pub goes_likewise : Likewise one (after one usual (turns read_twice)) (after_meant usual (turns read_twice))
goes_likewise = likewise one usual (turns read_twice) (send_their_topics (deeds_over usual (turns read_twice) start) all_go)
