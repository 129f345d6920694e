-- The line that a packet came on, and what the packet does by the session that is connected on it.
use Rattle.std.proofs.Common.{◌≡◌, ℕ, ap, sym, ◌∙◌}
use Rattle.std.specs.Prelude.{Some, None, nat_eq}
use Rattle.std.proofs.lemmas.Bool.{eqb-true}
use Rattle.mqtt_packet.specs.declared.codec.packet.Packet.{Packet}
use Rattle.mqtt_records.specs.declared.state.session.Session.{Session}
use Rattle.mqtt_records.specs.lists.Order.{row_at}
use Rattle.mqtt_rules.specs.step.Deeds.{with_line, with_session}
use Rattle.mqtt_rules.specs.step.State.{Broker, Env, Line, line_at, session_at}
use Rattle.mqtt_rules.specs.step.Step.{next_packet, on_packet}
use Rattle.mqtt_rules.proofs.step_lemmas.fit.FitLaw.{mapped_some}
use Rattle.mqtt_rules.proofs.step_lemmas.acts.Leads.{found_passes}
use Rattle.mqtt_broker_step.specs.Lines.{line_number}
use Rattle.mqtt_broker_step.specs.declared.fault.StepFault.{StepFault}
use Rattle.mqtt_broker_step.specs.Stepping.{Stepping, env_in}
use Rattle.mqtt_broker_queue.specs.publications.Choosing.{DoesSome, LeavesSome}
use Rattle.mqtt_broker_queue.proofs.publications_lemmas.Some.{same_some, same_some_left}
use Rattle.mqtt_broker_acts.proofs.subscribing_lemmas.Lines.{line_is}
use Rattle.mqtt_broker_acts.specs.calls.Inputs.{HasClient, takes}

-- ---- the line and its session

-- the line is there, the session with this birth is on it, and stands
pub record OnLine (line birth : ℕ) (b : Broker) : Type 0 where
  pub l : Line
  pub x : Session
  pub found : line_at line b ≡ Some l
  pub row : row_at line_number line b.lines ≡ Some l
  pub number : l.number ≡ line
  pub session : l.session ≡ Some birth
  pub stands : session_at birth b.records ≡ Some x

-- a client on a line has its line and its session
pub on_line : (line birth : ℕ) (b : Broker) → HasClient line birth b → OnLine line birth b
on_line line birth b k =
    let l = mapped_some (λ (y : Line). y.session) (line_at line b) (Some birth) k.on in
    let x = mapped_some (λ (y : Session). y.closed) (session_at birth b.records) None k.stands in
    record {
      l = l.0;
      x = x.0;
      found = l.1;
      row = line_is line b ∙ l.1;
      number = eqb-true l.0.number line (found_passes (λ (y : Line). nat_eq y.number line) l.0 b.lines l.1);
      session = l.2;
      stands = x.1;
    }

-- ---- a packet by its line and by its session

takes_is : (line birth : ℕ) (packet : Packet) (env : Env) (l : Line) (b : Broker) → line_at line b ≡ Some l → l.session ≡ Some birth
    → on_packet env l packet (Some birth) b ≡ takes line packet env b
takes_is line birth packet env l b found session =
    ap (λ o. on_packet env l packet o b) (sym session) ∙ ap (λ o. with_line o (λ y. on_packet env y packet y.session) b) (sym found)

-- what a packet asks for is taken on its line
pub some_takes : (line birth : ℕ) (packet : Packet) (s new : Stepping) (h : OnLine line birth s.broker) → DoesSome (λ env. on_packet env h.l packet (Some birth)) s new
    → DoesSome (takes line packet) s new
some_takes line birth packet s new h done =
    same_some (λ env. on_packet env h.l packet (Some birth)) (takes line packet) s new
    (λ choice. takes_is line birth packet (env_in choice s) h.l s.broker h.found h.session) done

-- or that is refused
pub left_takes : (line birth : ℕ) (packet : Packet) (fault : StepFault) (s new : Stepping) (h : OnLine line birth s.broker)
    → LeavesSome (λ env. on_packet env h.l packet (Some birth)) fault s new → LeavesSome (takes line packet) fault s new
left_takes line birth packet fault s new h left =
    same_some_left (λ env. on_packet env h.l packet (Some birth)) (takes line packet) fault s new
    (λ choice. takes_is line birth packet (env_in choice s) h.l s.broker h.found h.session) left

-- the session stands
found_is : (packet : Packet) (birth : ℕ) (env : Env) (l : Line) (x : Session) (b : Broker) → session_at birth b.records ≡ Some x
    → next_packet env l packet x b ≡ on_packet env l packet (Some birth) b
found_is packet birth env l x b stands = ap (λ o. with_session o (next_packet env l packet) b) (sym stands)

-- a packet behind the CONNECT is taken on its line
pub some_next : (line birth : ℕ) (packet : Packet) (s new : Stepping) (h : OnLine line birth s.broker) → DoesSome (λ env. next_packet env h.l packet h.x) s new
    → DoesSome (takes line packet) s new
some_next line birth packet s new h done =
    some_takes line birth packet s new h
    (same_some (λ env. next_packet env h.l packet h.x) (λ env. on_packet env h.l packet (Some birth)) s new
    (λ choice. found_is packet birth (env_in choice s) h.l h.x s.broker h.stands) done)

-- or that is refused
pub left_next : (line birth : ℕ) (packet : Packet) (fault : StepFault) (s new : Stepping) (h : OnLine line birth s.broker)
    → LeavesSome (λ env. next_packet env h.l packet h.x) fault s new → LeavesSome (takes line packet) fault s new
left_next line birth packet fault s new h left =
    left_takes line birth packet fault s new h
    (same_some_left (λ env. next_packet env h.l packet h.x) (λ env. on_packet env h.l packet (Some birth)) fault s new
    (λ choice. found_is packet birth (env_in choice s) h.l h.x s.broker h.stands) left)
