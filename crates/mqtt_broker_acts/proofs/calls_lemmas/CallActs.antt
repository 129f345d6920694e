-- What the acts of a call make of a step that had begun is what the call makes of it.
use Rattle.std.proofs.Common.{◌≡◌, ℕ, suc, Bool, true, ◌||◌, List, [], ◌∷◌, ◌++◌, nat_eq, length, refl, ap, sym, subst, ◌∙◌, append-nil, arith}
use Rattle.std.specs.Prelude.{⊤, Option, Some, Result, Ok, Err, IfErr, OnOk}
use Rattle.std.proofs.lemmas.Bool.{eqb-true}
use Rattle.mqtt_base.specs.Values.{varint}
use Rattle.mqtt_packet.specs.declared.codec.packet.Packet.{Packet}
use Rattle.mqtt_packet.specs.declared.codec.packet.Packet.TheVariants.{Pingreq}
use Rattle.mqtt_packet.specs.codec.Packets.{shortest_body}
use Rattle.mqtt_records.specs.declared.state.change.Change.{Change}
use Rattle.mqtt_records.specs.declared.state.change.Change.TheVariants.{SetCounter}
use Rattle.mqtt_records.specs.declared.state.change.Counter.TheVariants.{Moment}
use Rattle.mqtt_records.specs.declared.state.session.Session.{Session}
use Rattle.mqtt_rules.specs.declared.step.Capacity.{Capacity}
use Rattle.mqtt_rules.specs.step.Contents.{IsTaken}
use Rattle.mqtt_rules.specs.step.Deeds.{Act, Hear, On, after_all, always, of_session, rows_of_all, series, then, with_line, with_session}
use Rattle.mqtt_rules.specs.step.Lines.{session_on}
use Rattle.mqtt_rules.specs.step.Packets.{size_of}
use Rattle.mqtt_rules.specs.step.State.{Broker, Env, Line, MemberChoice, line_at, session_at}
use Rattle.mqtt_rules.specs.step.Step.{Call, Input, SpentStep, at_moment, deeds, deeds_of, env_of, is_again, is_spent, is_step_spent, on_packet, stamped, stamp_of}
use Rattle.mqtt_rules.proofs.step_lemmas.fit.FitLaw.{mapped_some}
use Rattle.mqtt_rules.proofs.step_lemmas.acts.Leads.{found_passes}
use Rattle.mqtt_broker_step.specs.declared.fault.StepFault.{StepFault}
use Rattle.mqtt_broker_step.specs.declared.fault.StepFault.TheVariants.{Spent}
use Rattle.mqtt_broker_step.specs.Stepping.{Stepping, Did, Does, IsLeft, Leaves, did, env_in}
use Rattle.mqtt_broker_step.proofs.Rows.{spent_append}
use Rattle.mqtt_broker_queue.specs.publications.Choosing.{DoesSome, LeavesSome}
use Rattle.mqtt_broker_queue.proofs.publications_lemmas.Leading.{same_env}
use Rattle.mqtt_broker_step.proofs.Then.{did_then, left_then, same_act, same_left}
use Rattle.mqtt_broker_acts.specs.calls.Doing.{DidCall, IsCalled, begun}

-- ---- the acts of a call, from its beginning

-- rows that spend a number do with the moment behind them too
pub spent_stamped : (now was : ℕ) (rows : List Change) → is_spent rows ≡ true → is_spent (stamped now was rows) ≡ true
spent_stamped now was [] e = absurd cc
spent_stamped now was (row ∷ rows) e =
    spent_append (row ∷ rows) (stamp_of now was) ∙ ap (λ b. b || is_spent (stamp_of now was)) e

-- what an act of a call made of a step that had begun is what the call makes of it
pub did_call : (limits : Capacity) (now : ℕ) (call : Call) (again : Bool) (b : Broker) (s : Stepping)
    → ((choice : MemberChoice) → again ≡ is_again call (deeds limits choice now call b))
    → DoesSome (λ env. deeds_of env call) (begun limits now b) s → DidCall now call again s
did_call limits now call again b s more does =
    let choice : MemberChoice = λ number sender. does.members in
    let is : s ≡ did (deeds limits choice now call b) (begun limits now b) = (does.is choice refl).is in
    let same : s.limits ≡ limits = ap (λ (t : Stepping). t.limits) is in
    let start : s.start ≡ b = ap (λ (t : Stepping). t.start) is in
    record {
      choice = choice;
      is = is ∙ (ap (λ (l : Capacity). did (deeds l choice now call b) (begun l now b)) (sym same)
          ∙ ap (λ (c : Broker). did (deeds s.limits choice now call c) (begun s.limits now c)) (sym start));
      again_is = more choice ∙ (ap (λ (l : Capacity). is_again call (deeds l choice now call b)) (sym same)
          ∙ ap (λ (c : Broker). is_again call (deeds s.limits choice now call c)) (sym start));
    }

-- a call that is refused as spent would spend a number
pub left_call : (limits : Capacity) (now : ℕ) (call : Call) (b : Broker) (fault : StepFault) (s : Stepping)
    → LeavesSome (λ env. deeds_of env call) fault (begun limits now b) s → fault ≡ Spent → SpentStep s.limits s.start now call
left_call limits now call b fault s leaves e =
    let choice : MemberChoice = λ number sender. leaves.members in
    let left : IsLeft (deeds_of (env_of limits choice b) call) fault (begun limits now b) s = leaves.is choice refl in
    let spent : is_step_spent limits choice now call b ≡ true =
    spent_stamped (at_moment now b).now b.records.moment (rows_of_all (deeds limits choice now call b) b.records) (left.spent e) in
    record {
      choice = choice;
      spent = ap (λ (l : Capacity). is_step_spent l choice now call s.start) left.limits ∙ (ap (λ (c : Broker). is_step_spent limits choice now call c) left.start ∙ spent);
    }

-- if nothing is chosen
some_of : (act : Env → Act) (s new : Stepping) → Does act s new → DoesSome act s new
some_of act s new does = record { number = 0; sender = []; members = []; is = λ choice taken. does choice }

some_left : (act : Env → Act) (fault : StepFault) (s new : Stepping) → Leaves act fault s new → LeavesSome act fault s new
some_left act fault s new left = record { number = 0; sender = []; members = []; is = λ choice taken. left choice }

-- an act that does what a call asks for is that call
pub called_by : (limits : Capacity) (now : ℕ) (call : Call) (again : Bool) (b : Broker) (s new : Stepping) (r : Result ⊤ StepFault) → s ≡ begun limits now b
    → ((choice : MemberChoice) → again ≡ is_again call (deeds limits choice now call b))
    → OnOk r (Does (λ env. deeds_of env call) s new) → IfErr r (λ fault. Leaves (λ env. deeds_of env call) fault s new)
    → IsCalled now call again r new
called_by limits now call again b s new (Ok done) same more ok left =
    did_call limits now call again b new more
    (subst (λ (t : Stepping). DoesSome (λ env. deeds_of env call) t new) same (some_of (λ env. deeds_of env call) s new ok))
called_by limits now call again b s new (Err fault) same more ok left =
    left_call limits now call b fault new
    (subst (λ (t : Stepping). LeavesSome (λ env. deeds_of env call) fault t new) same (some_left (λ env. deeds_of env call) fault s new left))

choosing_first : MemberChoice
choosing_first = λ number sender. []

-- the state in which it began, and its limits, stay
pub start_by : (limits : Capacity) (now : ℕ) (act : Env → Act) (b : Broker) (s new : Stepping) (r : Result ⊤ StepFault) → s ≡ begun limits now b
    → OnOk r (Does act s new) → IfErr r (λ fault. Leaves act fault s new) → new.start ≡ b
start_by limits now act b s new (Ok done) same ok left = ap (λ (t : Stepping). t.start) (ok choosing_first).is ∙ ap (λ (t : Stepping). t.start) same
start_by limits now act b s new (Err fault) same ok left = (left choosing_first).start ∙ ap (λ (t : Stepping). t.start) same

-- an act leaves the limits
pub limits_by : (limits : Capacity) (now : ℕ) (act : Env → Act) (b : Broker) (s new : Stepping) (r : Result ⊤ StepFault) → s ≡ begun limits now b
    → OnOk r (Does act s new) → IfErr r (λ fault. Leaves act fault s new) → new.limits ≡ limits
limits_by limits now act b s new (Ok done) same ok left = ap (λ (t : Stepping). t.limits) (ok choosing_first).is ∙ ap (λ (t : Stepping). t.limits) same
limits_by limits now act b s new (Err fault) same ok left = (left choosing_first).limits ∙ ap (λ (t : Stepping). t.limits) same

-- ---- a packet of a session that stands

abbrev of_birth : (Env → Session → Act) → ℕ → Env → Act
of_birth f birth env = of_session birth (f env)

-- an act of the session that stands is the act of its birth
pub does_found : (f : Env → Session → Act) (birth : ℕ) (x : Session) (s new : Stepping) → session_at birth s.broker.records ≡ Some x
    → Does (λ env. f env x) s new → Does (of_birth f birth) s new
does_found f birth x s new found does = λ choice.
    same_act (f (env_in choice s) x) (of_birth f birth (env_in choice s)) s new
    (sym (ap (λ o. with_session o (f (env_in choice s)) s.broker) found)) (does choice)

-- or that is refused
pub left_found : (f : Env → Session → Act) (birth : ℕ) (x : Session) (fault : StepFault) (s new : Stepping) → session_at birth s.broker.records ≡ Some x
    → Leaves (λ env. f env x) fault s new → Leaves (of_birth f birth) fault s new
left_found f birth x fault s new found left = λ choice.
    same_left (f (env_in choice s) x) (of_birth f birth (env_in choice s)) fault s new
    (sym (ap (λ o. with_session o (f (env_in choice s)) s.broker) found)) (left choice)

-- ---- a packet on the line of a session: the line is heard, and the packet is answered

abbrev pub hears : ℕ → Act
hears line = always (On line Hear ∷ [])

abbrev heard_packet : Env → ℕ → Packet → Line → Option ℕ → Act
heard_packet env line packet l session = series (hears line ∷ on_packet env l packet session ∷ [])

same_input : (env : Env) (line birth : ℕ) (packet : Packet) (l : Line) (b : Broker) → line_at line b ≡ Some l → l.session ≡ Some birth
    → then (hears line b) (on_packet env l packet (Some birth)) b ≡ deeds_of env (Input line packet) b
same_input env line birth packet l b found session =
    let act = on_packet env l packet (Some birth) in
    ap (λ ds. hears line b ++ ds) (sym (append-nil (act (after_all (hears line b) b))))
    ∙ (ap (λ o. series (hears line ∷ on_packet env l packet o ∷ []) b) (sym session)
    ∙ sym (ap (λ o. with_line o (λ x. heard_packet env line packet x x.session) b) found))

-- the line is there, and the session with this birth is on it
pub record Stands (line birth : ℕ) (b : Broker) : Type 0 where
  pub l : Line
  pub found : line_at line b ≡ Some l
  pub number : l.number ≡ line
  pub session : l.session ≡ Some birth

-- a session on a line has that line, and stands
pub stands_on : (line birth : ℕ) (b : Broker) → session_on line b ≡ Some (Some birth) → Stands line birth b
stands_on line birth b on =
    let l = mapped_some (λ (x : Line). x.session) (line_at line b) (Some birth) on in
    record {
      l = l.0;
      found = l.1;
      number = eqb-true l.0.number line (found_passes (λ (x : Line). nat_eq x.number line) l.0 b.lines l.1);
      session = l.2;
    }

-- hearing a packet, and what it asks for: that is a packet's call
pub input_does : (line birth : ℕ) (packet : Packet) (s s1 s2 : Stepping) (h : Stands line birth s.broker) → Did (hears line) s s1
    → Does (λ env. on_packet env h.l packet (Some birth)) s1 s2 → Does (λ env. deeds_of env (Input line packet)) s s2
input_does line birth packet s s1 s2 h heard does = λ choice.
    let env = env_in choice s in
    let act = on_packet env h.l packet (Some birth) in
    let same : env_in choice s1 ≡ env = same_env choice s s1 (ap (λ (t : Stepping). t.start) heard.is) (ap (λ (t : Stepping). t.limits) heard.is) in
    same_act (λ b. then (hears line b) act b) (deeds_of env (Input line packet)) s s2
    (same_input env line birth packet h.l s.broker h.found h.session)
    (did_then (hears line) act s s1 s2 heard (subst (λ (e : Env). Did (on_packet e h.l packet (Some birth)) s1 s2) same (does choice)))

-- or it is refused at the second
pub input_left : (line birth : ℕ) (packet : Packet) (fault : StepFault) (s s1 s2 : Stepping) (h : Stands line birth s.broker) → Did (hears line) s s1
    → Leaves (λ env. on_packet env h.l packet (Some birth)) fault s1 s2 → Leaves (λ env. deeds_of env (Input line packet)) fault s s2
input_left line birth packet fault s s1 s2 h heard left = λ choice.
    let env = env_in choice s in
    let act = on_packet env h.l packet (Some birth) in
    let same : env_in choice s1 ≡ env = same_env choice s s1 (ap (λ (t : Stepping). t.start) heard.is) (ap (λ (t : Stepping). t.limits) heard.is) in
    same_left (λ b. then (hears line b) act b) (deeds_of env (Input line packet)) fault s s2
    (same_input env line birth packet h.l s.broker h.found h.session)
    (left_then (hears line) act fault s s1 s2 heard (subst (λ (e : Env). IsLeft (on_packet e h.l packet (Some birth)) fault s1 s2) same (left choice)))

-- PINGREQ has a spelling of two bytes (3.12)
varint_zero : varint 0 ≡ 0 ∷ []
unfolding varint
varint_zero = refl

-- a PINGREQ is a packet that may come
pub ping_taken : IsTaken Pingreq
ping_taken =
    let body : length (shortest_body Pingreq) ≡ 0 = refl in
    let size : size_of Pingreq ≡ 2 = ap (λ bytes. suc (length (bytes ++ []))) varint_zero in
    record { spelled = (tt, omega (arith, body), refl); short = omega (arith, size) }
