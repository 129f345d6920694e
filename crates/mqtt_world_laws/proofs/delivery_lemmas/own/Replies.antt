-- The broker reads a receiver's answer on its line: PUBACK, PUBREC or PUBCOMP (MQTT 5.0, 4.3.2, 4.3.3, 4.13).
use Rattle.std.proofs.Common.{◌≡◌, ℕ, false, List, [], ◌∷◌, Option, Some, None, sym, subst, inl, inr}
use Rattle.std.specs.Prelude.{Err, Ok}
use Rattle.mqtt_base.specs.Codes.{protocol_error}
use Rattle.mqtt_base.specs.declared.session.CopyId.{CopyId}
use Rattle.mqtt_packet.specs.declared.codec.packet.Packet.{Packet}
use Rattle.mqtt_flow.specs.outbound.Outbound as rules
use Rattle.mqtt_flow.specs.outbound.Receiver.{Answer, HasNoConnect}
use Rattle.mqtt_flow.specs.declared.outbound.entry.Turn.{Turn}
use Rattle.mqtt_flow.specs.declared.outbound.entry.Turn.TheVariants as turns
use Rattle.mqtt_world_model.specs.model.Ends.{Back, Receiver, answers, wire_back}
use Rattle.mqtt_world_model.specs.model.Hops.{Own}
use Rattle.mqtt_world_model.specs.model.Run.{read_first}
use Rattle.mqtt_world_model.specs.model.World.{Setting, World, asks, receiver_named, to_broker}
use Rattle.mqtt_world_model.proofs.model_lemmas.others.Frame.{own_done}
use Rattle.mqtt_world_model.proofs.model_lemmas.seats.Mine.{AreMine, mine_append, mine_owns}
use Rattle.mqtt_world_model.proofs.model_lemmas.own.OwnStep.{heard_of, input_is}
use Rattle.mqtt_world_model.proofs.model_lemmas.own.Publishes.{drop_is}
use Rattle.mqtt_records.specs.messages.Queue.{CopyRow}
use Rattle.mqtt_records.specs.state.Session.{copy_place}
use Rattle.mqtt_records.specs.declared.state.session.Session.{Session}
use Rattle.mqtt_records.specs.lists.Order.{row_at}
use Rattle.mqtt_rules.proofs.step_lemmas.numbers.NumberSteps.{step_fell}
use Rattle.mqtt_rules.specs.step.Deeds.{Deed, after_all, rows_of_all}
use Rattle.mqtt_rules.specs.step.Inbound.{on_answer}
use Rattle.mqtt_rules.specs.step.Outbound.{of_entry, turn_deeds}
use Rattle.mqtt_rules.specs.step.State.{Line as BrokerLine, Broker, Env, MemberChoice, queue_on, session_at}
use Rattle.mqtt_rules.specs.step.Step.{Input, at_moment, deeds, env_of, next_packet, stepped}
use Rattle.mqtt_rules.specs.declared.step.Capacity.{Capacity}
use Rattle.mqtt_world_laws.specs.acceptance.Fair.{IsSteady}
use Rattle.mqtt_world_laws.specs.acceptance.Spending.{spending}
use Rattle.mqtt_world_laws.specs.receiver.Handing.{IsListening, after_answer, reads_answer}
use Rattle.mqtt_world_laws.proofs.receiver_lemmas.queue.Apart.{apart_still}
use Rattle.mqtt_world_laws.proofs.receiver_lemmas.own.Answering.{reply_to, answered_by}
use Rattle.mqtt_world_laws.proofs.receiver_lemmas.own.OwnCalls.{answers_in_step}
use Rattle.mqtt_world_laws.specs.delivery.Standing.{IsPlaced, IsSeen, Stands}
use Rattle.mqtt_world_laws.proofs.delivery_lemmas.own.Fronts.{IsJoined, front, no_connect}
use Rattle.mqtt_world_laws.proofs.delivery_lemmas.own.Heard.{hears, placed_after}
use Rattle.mqtt_world_laws.proofs.delivery_lemmas.others.Outside.{goes_as}
use Rattle.mqtt_world_laws.proofs.delivery_lemmas.own.Reading.{first_read}

-- ---- the session and its line stay its own

module _ (client : List ℕ) (birth n : ℕ) where
  mine_entry : (o : Option CopyRow) (f : CopyRow → List Deed) → ((e : CopyRow) → AreMine client birth n (f e)) → AreMine client birth n (of_entry o f)
  mine_entry None f h = tt
  mine_entry (Some e) f h = h e

  mine_turn : (now line : ℕ) (s : Session) (t : Turn) → AreMine client birth n (turn_deeds now line s t)
  mine_turn now line s (turns.Send place id) = mine_entry (row_at copy_place place s.queue) _ (λ e. (inl (inl (inr tt)), (inl (inl tt), (inr tt, tt))))
  mine_turn now line s (turns.Resend place id) = mine_entry (row_at copy_place place s.queue) _ (λ e. (inl (inl tt), (inr tt, tt)))
  mine_turn now line s (turns.Release place id order) = (inl (inl (inr tt)), (inr tt, tt))
  mine_turn now line s (turns.Outgrow place id order) = (inl (inl (inr tt)), (inr tt, tt))
  mine_turn now line s (turns.Repeat id) = (inr tt, tt)
  mine_turn now line s (turns.Unknown id) = (inr tt, tt)
  mine_turn now line s (turns.Leave place ending) = mine_entry (row_at copy_place place s.queue) _ (λ e. (inl (inl (inr tt)), tt))

  mine_answer : (env : Env) (x : rules.Answer) (r : Receiver) (l : BrokerLine) (s : Session) (b c : Broker) → IsListening r l s b → session_at s.birth c.records ≡ Some s → AreMine client birth n (on_answer x env l s c)
  mine_answer env (Ok None) r l s b c a at = tt
  mine_answer env (Ok (Some t)) r l s b c a at = mine_turn c.now l.number s t
  mine_answer env (Err fault) r l s b c a at = subst (AreMine client birth n) (sym (drop_is env protocol_error l s c at a.connected a.no_will a.no_end)) (inr tt, (inr tt, (inr tt, tt)))

  -- whatever packet it is whose deeds keep them so
  pub packet_owns : (limits : Capacity) (choice : MemberChoice) (now : ℕ) (packet : Packet) (r : Receiver) (l : BrokerLine) (s : Session) (b : Broker) → IsListening r l s b
      → AreMine client birth n (next_packet (env_of limits choice b) l packet s (heard_of now l.number b)) → Own client birth n b → Own client birth n (stepped limits choice now (Input l.number packet) b)
  packet_owns limits choice now packet r l s b a mine own =
      let first = at_moment now b in
      let ds = deeds limits choice now (Input l.number packet) b in
      let next = next_packet (env_of limits choice b) l packet s (heard_of now l.number b) in
      let all : AreMine client birth n ds = subst (AreMine client birth n) (sym (input_is limits choice now packet l s b a.line a.connected a.session)) (inl (inl tt), mine_append client birth n next [] mine tt) in
      let o : Own client birth n first = record { sessions = own.sessions; lines = own.lines; births = own.births; given = own.given } in
      own_done client birth n (rows_of_all ds first.records) (after_all ds first) (mine_owns client birth n ds first all o)

  -- an answer leaves session and line the receiver's own
  pub answer_owns : (limits : Capacity) (choice : MemberChoice) (now : ℕ) (packet : Packet) (x : rules.Answer) (r : Receiver) (l : BrokerLine) (s : Session) (b : Broker) → IsListening r l s b
      → next_packet (env_of limits choice b) l packet s (heard_of now l.number b) ≡ on_answer x (env_of limits choice b) l s (heard_of now l.number b)
      → Own client birth n b → Own client birth n (stepped limits choice now (Input l.number packet) b)
  answer_owns limits choice now packet x r l s b a e own =
      packet_owns limits choice now packet r l s b a (subst (AreMine client birth n) (sym e) (mine_answer (env_of limits choice b) x r l s b (heard_of now l.number b) a a.session)) own

-- ---- where it is after it

-- whichever of its lines the receiver has as its own, session and line stay its own
pub read_owns : (limits : Capacity) (choice : MemberChoice) (now : ℕ) (x : Answer) (r : Receiver) (l : BrokerLine) (s : Session) (b : Broker) (birth n : ℕ) → IsListening r l s b → HasNoConnect (x ∷ [])
    → Own r.client birth n b → Own r.client birth n (after_answer limits choice now l.number x r b)
read_owns limits choice now x r l s b birth n a none own =
    answer_owns r.client birth n limits choice now (wire_back r.client r.window r.aliases (answers x)) (reply_to x (queue_on l.went s)) r l s b a
    (answered_by x r.client r.window r.aliases (env_of limits choice b) l s (heard_of now l.number b) none) own

-- and it has its place
read_placed : (largest : ℕ) (ids : List CopyId) (ns : List ℕ) (limits : Capacity) (choice : MemberChoice) (now : ℕ) (x : Answer) (rest : List Back) (r : Receiver) (b : Broker) (placed : IsPlaced largest ids ns r b) → IsSteady b
    → IsJoined placed.birth placed.line r.line.number b → HasNoConnect (x ∷ []) → r.line.up ≡ answers x ∷ rest
    → IsPlaced largest ids ns (reads_answer limits choice now placed.line x r b) (after_answer limits choice now placed.line x r b)
read_placed largest ids ns limits choice now x rest r b placed steady j none up =
    let h = hears largest ids ns limits j.birth r b placed j.own j.there steady j.at in
    let l = h.line in
    let s = h.listens.session in
    let a = h.listens.listening in
    let packet = wire_back r.client r.window r.aliases (answers x) in
    let new = after_answer limits choice now l.number x r b in
    let owns = read_owns limits choice now x r l s b j.birth placed.line a none h.owns in
    let told = apart_still ids b.records new.records placed.told (step_fell limits choice now (Input l.number packet) b) in
    subst (λ (m : ℕ). IsPlaced largest ids ns (reads_answer limits choice now m x r b) (after_answer limits choice now m x r b)) h.number
    (placed_after largest ids ns limits j.birth r b placed j.own j.there choice now l.number packet ids h.number owns told j.at (answers_in_step largest ids j.birth ns limits choice now x rest r l s b none h.step a up))

-- ---- as an event

-- and an answer
pub answered_stands : (first : List CopyId) (c : List ℕ) (x : Answer) (rest : List Back) (largest : ℕ) (set : Setting) (r : Receiver) (w : World) → Stands first c largest set.limits w → receiver_named c w ≡ Some r → HasNoConnect (x ∷ []) → r.line.up ≡ answers x ∷ rest
    → read_first spending set (to_broker c) w ≡ false → Stands first c largest set.limits (asks set (to_broker c) w)
answered_stands first c x rest largest set r w s e none up unspent = elim (front placed.birth placed.line (answers x) rest r w.broker placed.seat.present up) [
  | inl j ↦ first_read first c (answers x) rest largest set r w s e placed.line j.at up
      (λ after_. goes_as largest s.ids s.ns _ _ (read_placed largest s.ids s.ns set.limits set.choice w.now x rest r w.broker placed s.standing.around.steady j none up)) unspent
  | inr h ↦ absurd (no_connect x h.0 none h.1.packet)
]
  where
    placed : IsPlaced largest s.ids s.ns r w.broker
    placed = subst (IsSeen largest s.ids s.ns w.broker) e s.standing.seen
