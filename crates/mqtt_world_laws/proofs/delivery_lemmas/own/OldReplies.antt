-- The broker reads a receiver's answer on the line that it gave up, while its session is connected still (MQTT 5.0, 4.3.2,
-- 4.3.3, 4.4, 4.13).
use Rattle.std.proofs.Common.{◌≡◌, ℕ, false, List, [], ◌∷◌, map, Some, subst, inl, inr}
use Rattle.std.specs.List.{AllByRecursion}
use Rattle.mqtt_base.specs.declared.session.CopyId.{CopyId}
use Rattle.mqtt_flow.specs.outbound.Receiver.{Answer, HasNoConnect}
use Rattle.mqtt_world_model.specs.model.Ends.{Back, Receiver, answers, wire_back}
use Rattle.mqtt_world_model.specs.model.Hops.{IsNoConnect}
use Rattle.mqtt_world_model.specs.model.Run.{read_first}
use Rattle.mqtt_world_model.specs.model.World.{Setting, World, asks, receiver_named, old_to_broker}
use Rattle.mqtt_rules.proofs.step_lemmas.numbers.NumberSteps.{step_fell}
use Rattle.mqtt_rules.specs.step.State.{Broker, MemberChoice}
use Rattle.mqtt_rules.specs.step.Step.{Input}
use Rattle.mqtt_rules.specs.declared.step.Capacity.{Capacity}
use Rattle.mqtt_world_laws.specs.acceptance.Fair.{IsSteady}
use Rattle.mqtt_world_laws.specs.acceptance.Spending.{spending}
use Rattle.mqtt_world_laws.specs.receiver.Calls.{reads_old_answer, turned_back}
use Rattle.mqtt_world_laws.specs.receiver.Handing.{after_answer}
use Rattle.mqtt_world_laws.proofs.receiver_lemmas.queue.Apart.{apart_still}
use Rattle.mqtt_world_laws.proofs.receiver_lemmas.own.OwnCalls.{old_answers_in_step}
use Rattle.mqtt_world_laws.specs.delivery.Standing.{IsPlaced, IsSeen, Stands, packet_like}
use Rattle.mqtt_world_laws.proofs.delivery_lemmas.own.Fronts.{IsJoined, front_there, no_connect}
use Rattle.mqtt_world_laws.proofs.delivery_lemmas.own.Heard.{hears_there, placed_after_there}
use Rattle.mqtt_world_laws.proofs.delivery_lemmas.others.Outside.{goes_as}
use Rattle.mqtt_world_laws.proofs.delivery_lemmas.own.Reading.{first_read_there}
use Rattle.mqtt_world_laws.proofs.delivery_lemmas.own.Replies.{read_owns}

-- ---- the receiver after it

read_placed : (largest : ℕ) (ids : List CopyId) (ns : List ℕ) (limits : Capacity) (choice : MemberChoice) (now : ℕ) (x : Answer) (rest : List Back) (r : Receiver) (b : Broker) (placed : IsPlaced largest ids ns r b) → IsSteady b
    → IsJoined placed.birth placed.line r.line.old_number b → AllByRecursion IsNoConnect (map packet_like r.line.old) → HasNoConnect (x ∷ []) → r.line.old ≡ answers x ∷ rest
    → IsPlaced largest ids ns (reads_old_answer limits choice now placed.line x r b) (after_answer limits choice now placed.line x r b)
read_placed largest ids ns limits choice now x rest r b placed steady j calm none up =
    let h = hears_there largest ids ns limits j.birth r b placed j.own j.there steady j.at in
    let l = h.line in
    let s = h.listens.session in
    let a = h.listens.listening in
    let packet = wire_back r.client r.window r.aliases (answers x) in
    let new = after_answer limits choice now l.number x r b in
    let owns = read_owns limits choice now x (turned_back r) l s b j.birth placed.line a none h.owns in
    let told = apart_still ids b.records new.records placed.told (step_fell limits choice now (Input l.number packet) b) in
    subst (λ (m : ℕ). IsPlaced largest ids ns (reads_old_answer limits choice now m x r b) (after_answer limits choice now m x r b)) h.number
    (placed_after_there largest ids ns limits j.birth r b placed j.own j.there choice now l.number packet ids h.number owns told j.at calm
    (old_answers_in_step largest ids j.birth ns limits choice now x rest r l s b none h.step a up))

-- ---- as an event

-- so does an answer there
pub old_answered_stands : (first : List CopyId) (c : List ℕ) (x : Answer) (rest : List Back) (largest : ℕ) (set : Setting) (r : Receiver) (w : World) → Stands first c largest set.limits w → receiver_named c w ≡ Some r → HasNoConnect (x ∷ []) → r.line.old ≡ answers x ∷ rest
    → read_first spending set (old_to_broker c) w ≡ false → Stands first c largest set.limits (asks set (old_to_broker c) w)
old_answered_stands first c x rest largest set r w s e none up unspent = elim (front_there placed.birth placed.line (answers x) rest r w.broker placed.seat.former up) [
  | inl j ↦ first_read_there first c (answers x) rest largest set r w s e placed.line j.0.at up
      (λ after_. goes_as largest s.ids s.ns _ _ (read_placed largest s.ids s.ns set.limits set.choice w.now x rest r w.broker placed s.standing.around.steady j.0 j.1 none up)) unspent
  | inr h ↦ absurd (no_connect x false none h.packet)
]
  where
    placed : IsPlaced largest s.ids s.ns r w.broker
    placed = subst (IsSeen largest s.ids s.ns w.broker) e s.standing.seen
