-- So it is in the world: if the broker reads a receiver's answer, on its line or on the one that it gave up, the copy that ends as
-- taken was read (MQTT 5.0, 4.3.2, 4.3.3, 4.4).
use Rattle.std.proofs.Common.{◌≡◌, ℕ, false, List, [], ◌∷◌, map, Option, Some, None, sym, ap, subst, ◌∙◌, inl, inr}
use Rattle.std.specs.Prelude.{filter_map, is_some}
use Rattle.std.specs.List.{AllByRecursion}
use Rattle.mqtt_base.specs.declared.session.CopyId.{CopyId}
use Rattle.mqtt_base.specs.declared.session.Qos.{Qos}
use Rattle.mqtt_flow.specs.outbound.Receiver.{Answer, HasNoConnect, puback}
use Rattle.mqtt_world_model.specs.model.Ends.{Back, Publisher, Receiver, answers, wire_back}
use Rattle.mqtt_world_model.specs.model.Laws.{WasTaken}
use Rattle.mqtt_world_model.specs.model.Run.{End, ended_in, read_first, read_if, the_deeds}
use Rattle.mqtt_world_model.specs.model.World.{Asking, Setting, View, World, input_on, old_to_broker, receiver_named, taken_old, taken_up, to_broker, view_by, view_of, with_line}
use Rattle.mqtt_rules.proofs.step_lemmas.flight.FlightRows.{all_more}
use Rattle.mqtt_rules.specs.step.Deeds.{Deed}
use Rattle.mqtt_rules.specs.step.Step.{Call, Input, deeds}
use Rattle.mqtt_world_laws.specs.receiver.Calls.{turned_back}
use Rattle.mqtt_world_laws.specs.receiver.Seen.{answered, seen}
use Rattle.mqtt_world_laws.proofs.receiver_lemmas.own.Answering.{standing_by}
use Rattle.mqtt_world_laws.proofs.receiver_lemmas.queue.Numbers.{place_of, places_number}
use Rattle.mqtt_world_laws.specs.delivery.Acknowledging.{AreRead, WasRead}
use Rattle.mqtt_world_laws.specs.delivery.Standing.{IsPlaced, IsSeen, Stands}
use Rattle.mqtt_world_laws.proofs.delivery_lemmas.taken.Acknowledging.{WasGot, answered_got, got_old, got_up}
use Rattle.mqtt_world_laws.proofs.delivery_lemmas.own.Fronts.{front, front_there, no_connect}
use Rattle.mqtt_world_laws.proofs.delivery_lemmas.own.Heard.{hears, hears_there}

module _ (first : List CopyId) (c : List ℕ) (largest : ℕ) (a : Answer) (none : HasNoConnect (a ∷ [])) (rest : List Back) (set : Setting) (r : Receiver) (w : World) (s : Stands first c largest set.limits w) (e : receiver_named c w ≡ Some r) where
  abbrev pub its_ends : List Deed → Type 0
  its_ends ds = AllByRecursion (WasGot r) (filter_map ended_in ds)

  view : view_of c w ≡ view_by None (Some r)
  view = ap (λ (o : Option Publisher). view_by o (receiver_named c w)) (s.standing.around.alone (ap is_some e)) ∙ ap (λ (o : Option Receiver). view_by None o) e

  placed : IsPlaced largest s.ids s.ns r w.broker
  placed = subst (IsSeen largest s.ids s.ns w.broker) e s.standing.seen

  abbrev call : ℕ → Call
  call n = Input n (wire_back r.client r.window r.aliases (answers a))

  -- a copy that ends as taken by an answer on its line had been read by the receiver
  pub answer_taken : r.line.up ≡ answers a ∷ rest → its_ends (read_first the_deeds set (to_broker c) w)
  answer_taken up = elim (front placed.birth placed.line (answers a) rest r w.broker placed.seat.present up) [
    | inl j ↦
        let h = hears largest s.ids s.ns set.limits j.birth r w.broker placed j.own j.there s.standing.around.steady j.at in
        let x = h.step.runs (place_of s.ids) (places_number s.ids placed.told.differ) in
        let on = h.listens.listening in
        let number = place_of s.ids in
        let got = answered_got number largest x.after set.limits set.choice w.now a r r h.line h.listens.session w.broker x.run_is on (standing_by x.after r h.line h.listens.session w.broker x.run_is.queue_is on) none
        (λ place n d m takes at is. got_up largest x.run_is.events (seen number x.after r w.broker) x.run_is.seen_is a place n (filter_map answered rest) d m none takes at is (ap (filter_map answered) up)) in
        let asked : input_on (view_of c w).number (view_of c w).up ≡ Some (call placed.line) =
        ap (λ (v : View). input_on v.number v.up) view ∙ (ap (λ (o : Option ℕ). input_on o (map (wire_back r.client r.window r.aliases) r.line.up)) j.at ∙ ap (λ (xs : List Back). input_on (Some placed.line) (map (wire_back r.client r.window r.aliases) xs)) up) in
        subst (λ (o : Option Call). its_ends (read_if the_deeds set o (with_line c taken_up taken_up w))) (sym asked)
        (subst (λ (n : ℕ). its_ends (deeds set.limits set.choice w.now (call n) w.broker)) h.number got)
    | inr h ↦ absurd (no_connect a h.0 none h.1.packet)
  ]

  -- a copy that ends as taken by an answer on the line that it gave up had been read by the receiver
  pub answer_taken_there : r.line.old ≡ answers a ∷ rest → its_ends (read_first the_deeds set (old_to_broker c) w)
  answer_taken_there old = elim (front_there placed.birth placed.line (answers a) rest r w.broker placed.seat.former old) [
    | inl joined ↦
        let j = joined.0 in
        let h = hears_there largest s.ids s.ns set.limits j.birth r w.broker placed j.own j.there s.standing.around.steady j.at in
        let x = h.step.runs (place_of s.ids) (places_number s.ids placed.told.differ) in
        let on = h.listens.listening in
        let number = place_of s.ids in
        let got = answered_got number largest x.after set.limits set.choice w.now a r (turned_back r) h.line h.listens.session w.broker x.run_is on (standing_by x.after (turned_back r) h.line h.listens.session w.broker x.run_is.queue_is on) none
        (λ place n d m takes at is. got_old largest x.run_is.events (seen number x.after r w.broker) x.run_is.seen_is a place n (filter_map answered rest) d m none takes at is (ap (filter_map answered) old)) in
        let asked : input_on (view_of c w).old_number (view_of c w).old ≡ Some (call placed.line) =
        ap (λ (v : View). input_on v.old_number v.old) view ∙ (ap (λ (o : Option ℕ). input_on o (map (wire_back r.client r.window r.aliases) r.line.old)) j.at ∙ ap (λ (xs : List Back). input_on (Some placed.line) (map (wire_back r.client r.window r.aliases) xs)) old) in
        subst (λ (o : Option Call). its_ends (read_if the_deeds set o (with_line c taken_old taken_old w))) (sym asked)
        (subst (λ (n : ℕ). its_ends (deeds set.limits set.choice w.now (call n) w.broker)) h.number got)
    | inr h ↦ absurd (no_connect a false none h.packet)
  ]

-- ---- so a PUBACK tells of a copy that was read

abbrev ends : Setting → Asking → World → List End
ends set asked w = filter_map ended_in (read_first the_deeds set asked w)

was_read : (r : Receiver) (xs : List End) → AllByRecursion (WasGot r) xs → AllByRecursion (WasRead r) xs
was_read r xs h = all_more (WasGot r) (WasRead r) xs (λ x got taken qos. subst (λ (q : Qos). WasTaken q x.copy r) qos (got taken)) h

module _ (first : List CopyId) (c : List ℕ) (largest i code : ℕ) (rest : List Back) (set : Setting) (r : Receiver) (w : World) (s : Stands first c largest set.limits w) (e : receiver_named c w ≡ Some r) where
  -- a copy that a PUBACK on its line ends as taken had been read by the receiver
  pub acknowledged_read : r.line.up ≡ answers (puback i code) ∷ rest → AreRead r set (to_broker c) w
  acknowledged_read up = was_read r (ends set (to_broker c) w) (answer_taken first c largest (puback i code) tt rest set r w s e up)

  -- a copy that a PUBACK on the line that it gave up ends as taken had been read by the receiver
  pub acknowledged_read_there : r.line.old ≡ answers (puback i code) ∷ rest → AreRead r set (old_to_broker c) w
  acknowledged_read_there old = was_read r (ends set (old_to_broker c) w) (answer_taken_there first c largest (puback i code) tt rest set r w s e old)
