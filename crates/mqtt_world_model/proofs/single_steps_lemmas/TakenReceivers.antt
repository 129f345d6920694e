-- What a receiver sends, whatever it reads, the broker takes, if its answers have identifiers (MQTT 5.0, 2.2.1, 4.3, 4.4).
use Rattle.std.proofs.Common.{◌≡◌, ◌≤◌, ◌<◌, ◌^◌, ℕ, Bool, true, false, cond, if◌then◌else◌, List, [], ◌∷◌, Option, nat_lt, refl, sym, ap, subst, ◌∙◌, arith, inl, inr}
use Rattle.mqtt_base.specs.Codes.{success, identifier_not_found}
use Rattle.mqtt_base.specs.declared.session.CopyId.{CopyId}
use Rattle.mqtt_packet.specs.declared.codec.packet.Packet.{Packet}
use Rattle.mqtt_packet.specs.declared.codec.packet.Packet.TheVariants as packets
use Rattle.mqtt_packet.specs.declared.codec.publish.Delivery.{Delivery}
use Rattle.mqtt_packet.specs.declared.codec.publish.Delivery.TheVariants as delivery
use Rattle.mqtt_packet.specs.declared.codec.publish.Publish.{Publish as Publication}
use Rattle.mqtt_flow.specs.outbound.Receiver.{connect, puback, pubcomp, pubrec}
use Rattle.mqtt_flow.specs.inbound.Identifiers.{is_among}
use Rattle.mqtt_flow.specs.inbound.Line.{Link, away, asked, live}
use Rattle.mqtt_rules.proofs.step_lemmas.flight.FlightRows.{all_more}
use Rattle.mqtt_rules.specs.step.Contents.{IsTaken}
use Rattle.mqtt_rules.specs.step.Packets as sent
use Rattle.mqtt_world_model.specs.model.Ends.{Back, Receiver, Wish, answers, asks_for, greeted, hears, new_receiver, reads_publish, receiver_connack, receiver_reads, subscribe_with}
use Rattle.mqtt_world_model.specs.model.Lines.{Down, left}
use Rattle.mqtt_world_model.specs.model.World.{asks_wish, may_take}
use Rattle.mqtt_world_model.specs.single_steps.Sound.{Carries, IsGoodBack, IsIdentifier, IsName, IsSoundReceiver}
use Rattle.mqtt_world_model.specs.single_steps.Taken.{IsTakenBack, IsTakenFromReceiver}
use Rattle.mqtt_world_model.proofs.single_steps_lemmas.TakenLines.{goes_carries, left_carries}
use Rattle.mqtt_world_model.proofs.single_steps_lemmas.TakenPackets.{connect_back_taken, puback_taken, pubcomp_taken, pubrec_taken, unknown_taken}

one_of : (i : ℕ) → (1 ≤ i) × (i < 2 ^ 16) → IsIdentifier i
one_of i h = let low = h.0 in let less = h.1 in (low, omega (arith, less))

back_taken : (r : Receiver) → IsSoundReceiver r → (x : Back) → IsGoodBack x → IsTakenBack r x
back_taken r h (answers (connect clean)) g = λ one. connect_back_taken r.client r.window r.aliases clean h.name h.takes
back_taken r h (answers (puback i code)) g = λ one. subst (λ (n : ℕ). IsTaken (sent.puback i n)) (sym g) (puback_taken i (one_of i one))
back_taken r h (answers (pubrec i code)) g = λ one. subst (λ (n : ℕ). IsTaken (sent.pubrec i n)) (sym g) (pubrec_taken i (one_of i one))
back_taken r h (answers (pubcomp i code)) (inl g) = λ one. subst (λ (n : ℕ). IsTaken (sent.pubcomp i n)) (sym g) (pubcomp_taken i (one_of i one))
back_taken r h (answers (pubcomp i code)) (inr g) = λ one. subst (λ (n : ℕ). IsTaken (sent.pubcomp i n)) (sym g) (unknown_taken i (one_of i one))
back_taken r h (asks_for w) g = λ one. g

-- a sound receiver has sent what a broker takes
pub sound_taken_back : (r : Receiver) → IsSoundReceiver r → IsTakenFromReceiver r
sound_taken_back r h = record {
  up = all_more IsGoodBack (IsTakenBack r) r.line.up (back_taken r h) h.line.up;
  old = all_more IsGoodBack (IsTakenBack r) r.line.old (back_taken r h) h.line.old;
}

-- a new receiver is sound
pub new_receiver_sound : (client : List ℕ) (window aliases since : ℕ) → IsName client → may_take window aliases ≡ true → IsSoundReceiver (new_receiver client window aliases since)
new_receiver_sound client window aliases since name is = record { name = name; takes = is; line = record { up = tt; old = tt } }

-- whoever has its name, takes what it takes, and has such a line
pub alike_sound : (r s : Receiver) → s.client ≡ r.client → s.window ≡ r.window → s.aliases ≡ r.aliases → IsSoundReceiver r → Carries IsGoodBack s.line → IsSoundReceiver s
alike_sound r s client window aliases h c = record { name = subst IsName (sym client) h.name; takes = (λ i. may_take (window i) (aliases i)) ∙ h.takes; line = c }

-- ---- it reads

publish_sound : (t : Bool) (copy : Option CopyId) (p : Publication) (d : Delivery) (r : Receiver) → IsSoundReceiver r → IsSoundReceiver (reads_publish t copy p d r)
publish_sound t copy p delivery.AtMostOnce r h = h
publish_sound t copy p (delivery.AtLeastOnce dup i) r h =
    alike_sound r (reads_publish t copy p (delivery.AtLeastOnce dup i) r) refl refl refl h (goes_carries IsGoodBack t (answers (puback i success) ∷ []) r.line (refl, tt) h.line)
publish_sound t copy p (delivery.ExactlyOnce dup i) r h =
    alike_sound r (reads_publish t copy p (delivery.ExactlyOnce dup i) r) refl refl refl h (goes_carries IsGoodBack t (answers (pubrec i success) ∷ []) r.line (refl, tt) h.line)

code_sound : (t : Bool) (present : Bool) (r : Receiver) → IsSoundReceiver r
    → IsSoundReceiver (cond t (record r { line = left (record r.line { clean = false }) }) (record r { line = greeted r.line; asking = false; kept = if present then r.kept else [] }))
code_sound true present r h = alike_sound r (record r { line = left (record r.line { clean = false }) }) refl refl refl h (record { up = tt; old = h.line.old })
code_sound false present r h = alike_sound r (record r { line = greeted r.line; asking = false; kept = if present then r.kept else [] }) refl refl refl h (record { up = h.line.up; old = h.line.old })

connack_sound : (link : Link) (present : Bool) (code : ℕ) (r : Receiver) → IsSoundReceiver r → IsSoundReceiver (receiver_connack link present code r)
connack_sound away present code r h = h
connack_sound live present code r h = h
connack_sound asked present code r h = code_sound (nat_lt 0 code) present r h

known : (t : Bool) (i : ℕ) → IsGoodBack (answers (pubcomp i (if t then success else identifier_not_found)))
known true i = inl refl
known false i = inr refl

hears_sound : (t : Bool) (copy : Option CopyId) (packet : Packet) (r : Receiver) → IsSoundReceiver r → IsSoundReceiver (hears t copy packet r)
hears_sound t copy (packets.Connack a) r h = connack_sound r.line.link a.session_present a.reason.0 r h
hears_sound t copy (packets.Publish p) r h = publish_sound t copy p p.delivery r h
hears_sound t copy (packets.Pubrel a) r h =
    let code = if is_among a.identifier r.kept then success else identifier_not_found in
    alike_sound r (hears t copy (packets.Pubrel a) r) refl refl refl h
    (goes_carries IsGoodBack t (answers (pubcomp a.identifier code) ∷ []) r.line (known (is_among a.identifier r.kept) a.identifier, tt) h.line)
hears_sound t copy (packets.Suback a) r h = alike_sound r (record r { asking = false }) refl refl refl h h.line
hears_sound t copy (packets.Disconnect n) r h = alike_sound r (record r { line = left r.line }) refl refl refl h (left_carries IsGoodBack r.line h.line)
hears_sound t copy packet r h = h

-- reading leaves a receiver sound
pub receiver_reads_sound : (t : Bool) (ds : List Down) (r : Receiver) → IsSoundReceiver r → IsSoundReceiver (receiver_reads t ds r)
receiver_reads_sound t [] r h = h
receiver_reads_sound t (d ∷ rest) r h =
    let v = record r { line = record r.line { down = rest } } in
    hears_sound t d.copy d.packet v (alike_sound r v refl refl refl h (record { up = h.line.up; old = h.line.old }))

-- ---- it asks for a subscription

-- so does a subscription
pub wish_sound : (t : Bool) (w : Wish) (r : Receiver) → IsTaken (subscribe_with w) → IsSoundReceiver r → IsSoundReceiver (asks_wish t w r)
wish_sound t w r good h = alike_sound r (asks_wish t w r) refl refl refl h (goes_carries IsGoodBack t (asks_for w ∷ []) r.line (good, tt) h.line)
