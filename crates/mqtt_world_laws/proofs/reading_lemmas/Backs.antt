-- What comes to a receiver has a spelling, so its answers have packet identifiers (MQTT 5.0, 2.2.1, 4.3).
use Rattle.std.proofs.Common.{◌≡◌, ◌≤◌, ◌<◌, ◌^◌, ℕ, Bool, true, false, cond, if◌then◌else◌, ◌&&◌, ◌||◌, List, [], ◌∷◌, length, Option, Some, None, nat_eq, nat_lt, arith}
use Rattle.std.specs.List.{AllByRecursion, cons_option}
use Rattle.std.proofs.lemmas.Bool.{ltb-true}
use Rattle.mqtt_base.specs.Codes.{success, identifier_not_found}
use Rattle.mqtt_base.specs.declared.session.CopyId.{CopyId}
use Rattle.mqtt_packet.specs.codec.Packets.{HasSpelling}
use Rattle.mqtt_packet.specs.codec.Publish.{FitsDelivery, lawful_identifier}
use Rattle.mqtt_packet.specs.declared.codec.packet.Packet.{Packet}
use Rattle.mqtt_packet.specs.declared.codec.packet.Packet.TheVariants as packets
use Rattle.mqtt_packet.specs.declared.codec.publish.Delivery.{Delivery}
use Rattle.mqtt_packet.specs.declared.codec.publish.Delivery.TheVariants as delivery
use Rattle.mqtt_packet.specs.declared.codec.publish.Publish.{Publish as Publication}
use Rattle.mqtt_packet.specs.parts.Blocks.{keeps_laws}
use Rattle.mqtt_props.specs.Laws.{has}
use Rattle.mqtt_props.specs.declared.place.Place.TheVariants as places
use Rattle.mqtt_props.specs.declared.table.PropName.TheVariants.{TopicAlias}
use Rattle.mqtt_flow.specs.outbound.Receiver.{connect, puback, pubcomp, pubrec}
use Rattle.mqtt_flow.specs.inbound.Identifiers.{is_among}
use Rattle.mqtt_flow.specs.inbound.Line.{Link, away, asked, live}
use Rattle.mqtt_rules.proofs.step_lemmas.numbers.Copies.{each_append}
use Rattle.mqtt_rules.proofs.step_lemmas.contents.PassedContents.{two}
use Rattle.mqtt_rules.specs.step.State.{Broker}
use Rattle.mqtt_rules.specs.step.Step.{Outcome}
use Rattle.mqtt_world_model.specs.model.Ends.{Receiver, Wish, answers, asks_for, greeted, hears, new_receiver, reads_publish, receiver_connack, receiver_reads}
use Rattle.mqtt_world_model.specs.model.Lines.{Down, copy_in, gives_up, joined, left, sent_to}
use Rattle.mqtt_world_model.specs.model.World.{asks_wish, receiver_restarted, receiver_told, taken_old, taken_up}
use Rattle.mqtt_world_model.specs.single_steps.Taken.{HasIdentifier}
use Rattle.mqtt_world_laws.specs.reading.Going.{IsFine, IsSpelled}
use Rattle.mqtt_world_model.proofs.single_steps_lemmas.TakenLines.{gives_carries, goes_carries, joined_carries, left_carries, old_carries, restarted_carries, told_carries, up_carries}

-- ---- identifiers

one_of : (i : ℕ) → i < 2 ^ 16 → nat_lt 0 i ≡ true → (1 ≤ i) × (i < 2 ^ 16)
one_of i fits some = let more = ltb-true 0 i some in (omega (arith, more), fits)

of_publish : (p : Publication) → HasSpelling (packets.Publish p) → lawful_identifier p.delivery ≡ true
of_publish p h =
    let named = nat_lt 0 (length p.topic) || has TopicAlias p.properties in
    let laws = two (keeps_laws places.Publish p.properties) (lawful_identifier p.delivery && named) h.2 in
    (two (lawful_identifier p.delivery) named laws.1).0

-- ---- it reads

module _ (t : Bool) where
  publish_fine : (copy : Option CopyId) (p : Publication) (d : Delivery) (r : Receiver) → FitsDelivery d → lawful_identifier d ≡ true → IsFine r → IsFine (reads_publish t copy p d r)
  publish_fine copy p delivery.AtMostOnce r fits some h = h
  publish_fine copy p (delivery.AtLeastOnce dup i) r fits some h = record { line = goes_carries HasIdentifier t (answers (puback i success) ∷ []) r.line (one_of i fits some, tt) h.line; down = h.down }
  publish_fine copy p (delivery.ExactlyOnce dup i) r fits some h = record { line = goes_carries HasIdentifier t (answers (pubrec i success) ∷ []) r.line (one_of i fits some, tt) h.line; down = h.down }

  code_fine : (refused : Bool) (present : Bool) (r : Receiver) → IsFine r
      → IsFine (cond refused (record r { line = left (record r.line { clean = false }) }) (record r { line = greeted r.line; asking = false; kept = if present then r.kept else [] }))
  code_fine true present r h = record { line = record { up = tt; old = h.line.old }; down = tt }
  code_fine false present r h = record { line = record { up = h.line.up; old = h.line.old }; down = h.down }

  connack_fine : (link : Link) (present : Bool) (code : ℕ) (r : Receiver) → IsFine r → IsFine (receiver_connack link present code r)
  connack_fine away present code r h = h
  connack_fine live present code r h = h
  connack_fine asked present code r h = code_fine (nat_lt 0 code) present r h

  hears_fine : (copy : Option CopyId) (packet : Packet) (r : Receiver) → HasSpelling packet → IsFine r → IsFine (hears t copy packet r)
  hears_fine copy (packets.Connack a) r spelled h = connack_fine r.line.link a.session_present a.reason.0 r h
  hears_fine copy (packets.Publish p) r spelled h = publish_fine copy p p.delivery r spelled.0.0 (of_publish p spelled) h
  hears_fine copy (packets.Pubrel a) r spelled h =
      let code = if is_among a.identifier r.kept then success else identifier_not_found in
      let laws = two (keeps_laws places.Pubrel a.properties) (nat_lt 0 a.identifier) spelled.2 in
      record { line = goes_carries HasIdentifier t (answers (pubcomp a.identifier code) ∷ []) r.line (one_of a.identifier spelled.0.0 laws.1, tt) h.line; down = h.down }
  hears_fine copy (packets.Suback a) r spelled h = record { line = h.line; down = h.down }
  hears_fine copy (packets.Disconnect n) r spelled h = record { line = left_carries HasIdentifier r.line h.line; down = tt }
  hears_fine copy packet r spelled h = h

  -- a receiver that reads packets with a spelling answers with identifiers
  pub reads_fine : (ds : List Down) (r : Receiver) → AllByRecursion IsSpelled ds → IsFine r → IsFine (receiver_reads t ds r)
  reads_fine [] r downs h = h
  reads_fine (d ∷ rest) r downs h =
      hears_fine d.copy d.packet (record r { line = record r.line { down = rest } }) downs.0 (record { line = record { up = h.line.up; old = h.line.old }; down = downs.1 })

  -- a receiver that asks for a subscription still answers with identifiers
  pub wish_fine : (w : Wish) (r : Receiver) → IsFine r → IsFine (asks_wish t w r)
  wish_fine w r h = record { line = goes_carries HasIdentifier t (asks_for w ∷ []) r.line (tt, tt) h.line; down = h.down }

-- ---- its line

abbrev pub AreSpelled : List (ℕ × Packet) → Type 0
AreSpelled outputs = AllByRecursion (λ (x : ℕ × Packet). HasSpelling x.1) outputs

sent_spelled : (o : Option ℕ) (b : Broker) (outputs : List (ℕ × Packet)) → AreSpelled outputs → AllByRecursion IsSpelled (sent_to o b outputs)
sent_spelled None b outputs h = tt
sent_spelled (Some n) b [] h = tt
sent_spelled (Some n) b (x ∷ xs) h = by (nat_eq x.0 n) (sent_spelled (Some n) b xs h.1)
  where
    by : (t : Bool) → AllByRecursion IsSpelled (sent_to (Some n) b xs) → AllByRecursion IsSpelled (cons_option (cond t (Some (record { packet = x.1; copy = copy_in n b x.1 })) None) (sent_to (Some n) b xs))
    by true rest = (h.0, rest)
    by false rest = rest

-- what a broker tells with a spelling leaves a receiver fine
pub told_fine : (b : Broker) (out : Outcome) (r : Receiver) → AreSpelled out.outputs → IsFine r → IsFine (receiver_told b out r)
told_fine b out r spelled h = record {
  line = told_carries HasIdentifier b out r.line h.line;
  down = each_append IsSpelled r.line.down (sent_to r.line.number b out.outputs) h.down (sent_spelled r.line.number b out.outputs spelled);
}

-- so does a restart
pub restarted_fine : (r : Receiver) → IsFine (receiver_restarted r)
restarted_fine r = record { line = restarted_carries HasIdentifier r.line; down = tt }

-- and a packet that was read
pub up_fine : (r : Receiver) → IsFine r → IsFine (record r { line = taken_up r.line })
up_fine r h = record { line = up_carries HasIdentifier r.line h.line; down = h.down }

-- also from the old line
pub old_fine : (r : Receiver) → IsFine r → IsFine (record r { line = taken_old r.line })
old_fine r h = record { line = old_carries HasIdentifier r.line h.line; down = h.down }

-- and a line that is left
pub left_fine : (r : Receiver) → IsFine r → IsFine (record r { line = left r.line })
left_fine r h = record { line = left_carries HasIdentifier r.line h.line; down = tt }

-- or given up
pub gives_fine : (r : Receiver) → IsFine r → IsFine (record r { line = gives_up r.line.link r.line })
gives_fine r h = record { line = gives_carries HasIdentifier r.line h.line; down = by r.line.link }
  where
    by : (link : Link) → AllByRecursion IsSpelled (gives_up link r.line).down
    by away = h.down
    by asked = tt
    by live = tt

-- or joined
pub joined_fine : (n : ℕ) (clean : Bool) (r : Receiver) → IsFine r → IsFine (record r { line = joined (answers (connect clean)) n clean r.line })
joined_fine n clean r h = record { line = joined_carries HasIdentifier (answers (connect clean)) n clean r.line tt h.line; down = tt }

-- a new receiver is fine
pub new_fine : (client : List ℕ) (window aliases since : ℕ) → IsFine (new_receiver client window aliases since)
new_fine client window aliases since = record { line = record { up = tt; old = tt }; down = tt }
