-- The receiver reads all that is under way to it: if its session is connected it stays so, and while its CONNECT is under way it
-- keeps its line (MQTT 5.0, 3.2, 4.3).
use Rattle.std.proofs.Common.{◌≡◌, ℕ, zero, suc, Bool, true, List, [], ◌∷◌, Option, Some, None, bytes_eq, refl, sym, ap, subst, ◌∙◌}
use Rattle.std.specs.Prelude.{⊤, filter_map, is_some}
use Rattle.std.specs.List.{cons_option}
use Rattle.mqtt_base.specs.declared.session.CopyId.{CopyId}
use Rattle.mqtt_packet.specs.declared.codec.packet.Packet.{Packet}
use Rattle.mqtt_packet.specs.declared.codec.packet.Packet.TheVariants as packet
use Rattle.mqtt_packet.specs.declared.codec.publish.Delivery.{Delivery}
use Rattle.mqtt_packet.specs.declared.codec.publish.Delivery.TheVariants as delivery
use Rattle.mqtt_packet.specs.declared.codec.publish.Publish.{Publish as Publication}
use Rattle.mqtt_world_model.specs.model.Ends.{Back, Publisher, Receiver, heard, hears, publisher_reads, reads_publish, receiver_reads}
use Rattle.mqtt_world_model.specs.model.Lines.{Down, stands}
use Rattle.mqtt_world_model.specs.model.Run.{Turn, run, turned}
use Rattle.mqtt_world_model.specs.model.Seen.{heard_in}
use Rattle.mqtt_world_model.specs.model.World.{World, end_reads, publisher_named, receiver_named, to_end}
use Rattle.mqtt_rules.specs.step.State.{Broker, MemberChoice, session_named}
use Rattle.mqtt_rules.specs.declared.step.Capacity.{Capacity}
use Rattle.mqtt_world_laws.specs.receiver.Drains.{all_to_end, downs_by, times, turn_of}
use Rattle.mqtt_world_laws.proofs.receiver_lemmas.queue.Numbers.{place_of}
use Rattle.mqtt_world_laws.proofs.receiver_lemmas.own.OwnDoings.{keeps_reading}
use Rattle.mqtt_world_laws.proofs.receiver_lemmas.drains.WorldRounds.{none_changed, reads, receiver_changed}
use Rattle.mqtt_world_laws.specs.receiver.Connecting.{any_size}
use Rattle.mqtt_world_laws.proofs.drains_lemmas.Whereabouts.{Connected, IsOn, MayEmpty, Waits, good_of, on_again}

-- ---- a packet that it would not leave its line for

abbrev taken : List Down → Receiver → Receiver
taken rest r = record r { line = record r.line { down = rest } }

-- its line is the same, and this is under way to it still
record Stays (rest : List Down) (r q : Receiver) : Type 0 where
  pub number : q.line.number ≡ r.line.number
  pub down : q.line.down ≡ rest

stays_publish : (t : Bool) (copy : Option CopyId) (p : Publication) (d : Delivery) (rest : List Down) (r : Receiver) → Stays rest r (reads_publish t copy p d (taken rest r))
stays_publish t copy p delivery.AtMostOnce rest r = record { number = refl; down = refl }
stays_publish t copy p (delivery.AtLeastOnce dup i) rest r = record { number = refl; down = refl }
stays_publish t copy p (delivery.ExactlyOnce dup i) rest r = record { number = refl; down = refl }

stays_packet : (t : Bool) (copy : Option CopyId) (x : Packet) (rest : List Down) (r : Receiver) → heard x ≡ None → Stays rest r (hears t copy x (taken rest r))
stays_packet t copy (packet.Connack a) rest r e = absurd cc
stays_packet t copy (packet.Publish p) rest r e = stays_publish t copy p p.delivery rest r
stays_packet t copy (packet.Pubrel a) rest r e = record { number = refl; down = refl }
stays_packet t copy (packet.Disconnect a) rest r e = absurd cc
stays_packet t copy x rest r e = record { number = refl; down = refl }

none_first : {Y : Type 0} (o : Option Y) (ys : List Y) → cons_option o ys ≡ [] → (o ≡ None) × (ys ≡ [])
none_first None ys e = (refl, e)
none_first (Some y) ys e = absurd cc

-- it reads one, and such are under way still
quiet_reading : (t : Bool) (ds : List Down) (r : Receiver) → r.line.down ≡ ds → filter_map heard_in ds ≡ []
    → ((receiver_reads t ds r).line.number ≡ r.line.number) × (filter_map heard_in (receiver_reads t ds r).line.down ≡ [])
quiet_reading t [] r is quiet = (refl, ap (filter_map heard_in) is)
quiet_reading t (d ∷ rest) r is quiet =
    let both = none_first (heard_in d) (filter_map heard_in rest) quiet in
    let x = stays_packet t d.copy d.packet rest r both.0 in
    (x.number, ap (filter_map heard_in) x.down ∙ both.1)

-- ---- all that is under way to it

module _ (c : List ℕ) (limits : Capacity) (choice : MemberChoice) where
  abbrev reads_one : Turn
  reads_one = turn_of choice (to_end c)

  -- a connected receiver that reads all that is under way to it is connected still
  pub read_on : (up : List Back) (w : World) → Connected c up w → IsOn c (run limits (all_to_end choice c w) w)
  read_on up w x =
      let y = reads limits choice c (place_of x.ids) any_size x.window x.ids x.birth x.ns (λ us. ⊤) (record { none = tt; more = λ us a h. tt }) up x.hop w x.here in
      (on_again (place_of x.ids) any_size x.window x.ids x.birth x.ns c y.ups _ (run limits (all_to_end choice c w) w) y.sees).on

  -- so many times, if it leaves its line for none of them
  quiet_reads : (k : ℕ) (v : World) (q : Receiver) → receiver_named c v ≡ Some q → publisher_named c v ≡ None → filter_map heard_in q.line.down ≡ []
      → (p : Receiver) × (receiver_named c (run limits (times k (turn_of choice (to_end c))) v) ≡ Some p) × (p.line.number ≡ q.line.number)
      × ((run limits (times k (turn_of choice (to_end c))) v).broker ≡ v.broker)
  quiet_reads zero v q named alone quiet = (q, named, refl, refl)
  quiet_reads (suc k) v q named alone quiet =
      let f = λ (p : Publisher). publisher_reads (stands p.line.number v.broker) p.line.down p in
      let g = λ (s : Receiver). receiver_reads (stands s.line.number v.broker) s.line.down s in
      let later = end_reads c v in
      let is : turned limits reads_one v ≡ later = rw (named, alone) refl in
      let found : receiver_named c later ≡ Some (g q) = receiver_changed c g q v.receivers (λ s. (keeps_reading (stands s.line.number v.broker) s.line.down s).client) named in
      let nobody : publisher_named c later ≡ None = none_changed (λ (p : Publisher). bytes_eq p.client c) f v.publishers alone in
      let one = quiet_reading (stands q.line.number v.broker) q.line.down q refl quiet in
      let rest = quiet_reads k later (g q) found nobody one.1 in
      let all : (p : Receiver) × (receiver_named c (run limits (times k (turn_of choice (to_end c))) later) ≡ Some p) × (p.line.number ≡ q.line.number)
      × ((run limits (times k (turn_of choice (to_end c))) later).broker ≡ v.broker) =
      (rest.0, rest.1, rest.2 ∙ one.0, rest.3) in
      subst (λ (u : World). (p : Receiver) × (receiver_named c (run limits (times k (turn_of choice (to_end c))) u) ≡ Some p) × (p.line.number ≡ q.line.number)
      × ((run limits (times k (turn_of choice (to_end c))) u).broker ≡ v.broker)) (sym is) all

  -- a receiver whose CONNECT is under way may be emptied still once it has read all
  pub read_waits : (w : World) → Waits c w → publisher_named c w ≡ None → is_some (session_named c w.broker.records) ≡ true → MayEmpty c (run limits (all_to_end choice c w) w)
  read_waits w x alone session =
      let r = x.receiver in
      let later = run limits (all_to_end choice c w) w in
      let y = quiet_reads (downs_by (receiver_named c w)) w r x.named alone x.quiet in
      let there : stands y.0.line.number later.broker ≡ true =
      ap (λ (o : Option ℕ). stands o later.broker) (y.2 ∙ x.awaits.number) ∙ (ap (λ (b : Broker). stands (Some x.line.number) b) y.3 ∙ ap is_some x.awaits.line) in
      record { good = good_of c y.0 later y.1 there; session = ap (λ (b : Broker). is_some (session_named c b.records)) y.3 ∙ session }
