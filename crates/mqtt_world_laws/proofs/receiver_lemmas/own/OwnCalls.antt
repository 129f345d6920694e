-- The broker reads a receiver's answers, sends what waits for it, or loses its line: the two stay in step.
use Rattle.std.proofs.Common.{◌≡◌, ℕ, List, [], ◌∷◌, Some, None, refl, sym, subst}
use Rattle.std.specs.Prelude.{Ok, Err}
use Rattle.mqtt_base.specs.Codes.{protocol_error}
use Rattle.mqtt_base.specs.declared.session.CopyId.{CopyId}
use Rattle.mqtt_packet.specs.declared.codec.packet.Packet.{Packet}
use Rattle.mqtt_flow.specs.outbound.Outbound as rules
use Rattle.mqtt_flow.specs.outbound.Receiver.{Answer, HasNoConnect}
use Rattle.mqtt_world_model.specs.model.Ends.{Back, Receiver, answers, wire_back}
use Rattle.mqtt_world_model.proofs.model_lemmas.seats.Breaks.{lost_is}
use Rattle.mqtt_world_model.proofs.model_lemmas.own.OwnStep.{heard_of, input_is}
use Rattle.mqtt_world_model.proofs.model_lemmas.own.Publishes.{drop_is}
use Rattle.mqtt_records.specs.declared.state.session.Session.{Session}
use Rattle.mqtt_rules.proofs.step_lemmas.numbers.Copies.{each_append}
use Rattle.mqtt_rules.specs.step.Flight.{HasDistinctIdentifiers}
use Rattle.mqtt_rules.specs.step.Fitting.{pump_turns}
use Rattle.mqtt_rules.specs.step.Inbound.{on_answer}
use Rattle.mqtt_rules.specs.step.State.{Line as BrokerLine, Broker, Env, MemberChoice, queue_on, session_at}
use Rattle.mqtt_rules.specs.step.Step.{Input, Lost, Pump, at_moment, env_of, next_packet, stepped}
use Rattle.mqtt_rules.specs.declared.step.Capacity.{Capacity}
use Rattle.mqtt_rules.specs.whole.Whole.{FitsWhole}
use Rattle.mqtt_world_laws.specs.receiver.Calls.{IsLingering, reads_old_answer, receiver_called, turned_back}
use Rattle.mqtt_world_laws.specs.receiver.Handing.{IsListening, after_answer, reads_answer, receiver_lost}
use Rattle.mqtt_world_laws.specs.receiver.Own.{IsInStep}
use Rattle.mqtt_world_laws.specs.receiver.Served.{IsServed}
use Rattle.mqtt_world_laws.proofs.receiver_lemmas.own.Answering.{reply_to, answered_by, answers_run, answers_receive}
use Rattle.mqtt_world_laws.proofs.receiver_lemmas.own.Losing.{losing_receives, losing_runs}
use Rattle.mqtt_world_laws.proofs.receiver_lemmas.own.OldAnswers.{old_answers_run, old_answers_receive}
use Rattle.mqtt_world_laws.proofs.receiver_lemmas.own.Own.{AreSafe, IsSafe, call_served, runs_for, safe_turn, safe_turns, session_is}
use Rattle.mqtt_world_laws.proofs.receiver_lemmas.queue.Sending.{pump_is, pump_receives, pump_runs}

-- ---- answers

module _ (client : List ℕ) (birth : ℕ) (ns : List ℕ) (r : Receiver) (l : BrokerLine) (s : Session) (b : Broker) (a : IsListening r l s b) where
  answer_safe : (env : Env) (x : rules.Answer) (c : Broker) → session_at s.birth c.records ≡ Some s → AreSafe client birth ns (on_answer x env l s c)
  answer_safe env (Ok None) c at = tt
  answer_safe env (Ok (Some t)) c at = safe_turn client birth ns c.now l.number s t
  answer_safe env (Err fault) c at = subst (AreSafe client birth ns) (sym (drop_is env protocol_error l s c at a.connected a.no_will a.no_end)) (tt, (tt, (tt, tt)))

  -- an answer leaves session and lines the receiver's own
  pub answer_served : (limits : Capacity) (choice : MemberChoice) (now : ℕ) (packet : Packet) (x : rules.Answer)
      → next_packet (env_of limits choice b) l packet s (heard_of now l.number b) ≡ on_answer x (env_of limits choice b) l s (heard_of now l.number b)
      → IsServed client birth ns b → IsServed client birth ns (stepped limits choice now (Input l.number packet) b)
  answer_served limits choice now packet x e v =
      let env = env_of limits choice b in
      let c = heard_of now l.number b in
      let own : AreSafe client birth ns (next_packet env l packet s c) = subst (AreSafe client birth ns) (sym e) (answer_safe env x c a.session) in
      call_served client birth ns limits choice now (Input l.number packet) b
      (subst (AreSafe client birth ns) (sym (input_is limits choice now packet l s b a.line a.connected a.session)) (tt, each_append (IsSafe client birth ns) (next_packet env l packet s c) [] own tt)) v

-- PUBACK, PUBREC and PUBCOMP on its line
pub answers_in_step : (largest : ℕ) (ids : List CopyId) (birth : ℕ) (ns : List ℕ) (limits : Capacity) (choice : MemberChoice) (now : ℕ) (x : Answer) (rest : List Back) (r : Receiver) (l : BrokerLine) (s : Session) (b : Broker)
    → HasNoConnect (x ∷ []) → IsInStep largest ids birth ns r b → IsListening r l s b → r.line.up ≡ answers x ∷ rest
    → IsInStep largest ids birth ns (reads_answer limits choice now l.number x r b) (after_answer limits choice now l.number x r b)
answers_in_step largest ids birth ns limits choice now x rest r l s b none k a up =
    let packet = wire_back r.client r.window r.aliases (answers x) in
    let reply = reply_to x (queue_on l.went s) in
    let served = answer_served r.client birth ns r l s b a limits choice now packet reply (answered_by x r.client r.window r.aliases (env_of limits choice b) l s (heard_of now l.number b) none) k.served in
    record {
      runs = runs_for largest ids birth birth ns r (reads_answer limits choice now l.number x r b) b (after_answer limits choice now l.number x r b) k.runs served
          (λ number h. answers_run number largest h.after limits choice now x rest r l s b none h.run_is a up)
          (λ number h. answers_receive number largest h.after limits choice now x rest r l s b none h.run_is a (session_is largest birth ids ns number r s b k.served a.session a.client h) up);
      served = served;
      lines = record { own = k.lines.own; old = k.lines.old };
    }

-- and on the line that it gave up
pub old_answers_in_step : (largest : ℕ) (ids : List CopyId) (birth : ℕ) (ns : List ℕ) (limits : Capacity) (choice : MemberChoice) (now : ℕ) (x : Answer) (rest : List Back) (r : Receiver) (l : BrokerLine) (s : Session) (b : Broker)
    → HasNoConnect (x ∷ []) → IsInStep largest ids birth ns r b → IsLingering r l s b → r.line.old ≡ answers x ∷ rest
    → IsInStep largest ids birth ns (reads_old_answer limits choice now l.number x r b) (after_answer limits choice now l.number x r b)
old_answers_in_step largest ids birth ns limits choice now x rest r l s b none k a old =
    let packet = wire_back r.client r.window r.aliases (answers x) in
    let reply = reply_to x (queue_on l.went s) in
    let served = answer_served r.client birth ns (turned_back r) l s b a limits choice now packet reply (answered_by x r.client r.window r.aliases (env_of limits choice b) l s (heard_of now l.number b) none) k.served in
    record {
      runs = runs_for largest ids birth birth ns r (reads_old_answer limits choice now l.number x r b) b (after_answer limits choice now l.number x r b) k.runs served
          (λ number h. old_answers_run number largest h.after limits choice now x rest r l s b none h.run_is a old)
          (λ number h. old_answers_receive number largest h.after limits choice now x rest r l s b none h.run_is a (session_is largest birth ids ns number r s b k.served a.session a.client h) old);
      served = served;
      lines = record { own = k.lines.own; old = k.lines.old };
    }

-- ---- sending, and the loss of its line

-- a pump leaves it in step
pub pump_in_step : (largest : ℕ) (ids : List CopyId) (birth : ℕ) (ns : List ℕ) (limits : Capacity) (choice : MemberChoice) (now : ℕ) (r : Receiver) (l : BrokerLine) (s : Session) (b : Broker)
    → IsInStep largest ids birth ns r b → IsListening r l s b → l.largest ≡ largest → FitsWhole l s → HasDistinctIdentifiers b.records
    → IsInStep largest ids birth ns (receiver_called limits choice now (Pump l.number) r b) (stepped limits choice now (Pump l.number) b)
pump_in_step largest ids birth ns limits choice now r l s b k a fits whole distinct =
    let first = at_moment now b in
    let served = call_served r.client birth ns limits choice now (Pump l.number) b
    (subst (AreSafe r.client birth ns) (sym (pump_is limits choice now l s b a.line a.connected a.session)) (safe_turns r.client birth ns first.now l.number s (pump_turns l first s))) k.served in
    record {
      runs = runs_for largest ids birth birth ns r (receiver_called limits choice now (Pump l.number) r b) b (stepped limits choice now (Pump l.number) b) k.runs served
          (λ number h. pump_runs number largest h.after limits choice now r l s b h.run_is a fits whole distinct)
          (λ number h. let x = session_is largest birth ids ns number r s b k.served a.session a.client h in pump_receives number largest h.after limits choice now r l s b h.run_is a fits whole distinct x.known);
      served = served;
      lines = record { own = k.lines.own; old = k.lines.old };
    }

-- so does the loss of its line
pub loss_in_step : (largest : ℕ) (ids : List CopyId) (birth : ℕ) (ns : List ℕ) (limits : Capacity) (choice : MemberChoice) (now : ℕ) (r : Receiver) (l : BrokerLine) (s : Session) (b : Broker)
    → IsInStep largest ids birth ns r b → IsListening r l s b
    → IsInStep largest ids birth ns (receiver_lost limits choice now l.number r b) (stepped limits choice now (Lost l.number) b)
loss_in_step largest ids birth ns limits choice now r l s b k a =
    let served = call_served r.client birth ns limits choice now (Lost l.number) b
    (subst (AreSafe r.client birth ns) (sym (lost_is limits choice now l s b a.line a.connected a.session a.no_will a.no_end)) (tt, (tt, tt))) k.served in
    record {
      runs = runs_for largest ids birth birth ns r (receiver_lost limits choice now l.number r b) b (stepped limits choice now (Lost l.number) b) k.runs served
          (λ number h. record { after = h.after; same = refl; run_is = losing_runs number largest h.after limits choice now r l s b h.run_is a })
          (λ number h. losing_receives limits choice now r l s b a);
      served = served;
      lines = record { own = λ n e. absurd cc; old = k.lines.old };
    }
