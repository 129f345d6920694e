-- What the acts of a call make of a step that had begun, where members of groups may be chosen (MQTT 5.0, 4.8.2).
use Rattle.std.proofs.Common.{◌≡◌, ℕ, Bool, [], ◌∷◌, ◌++◌, refl, ap, sym, subst, ◌∙◌, append-nil}
use Rattle.std.specs.Prelude.{⊤, Option, Some, Result, Ok, Err, IfErr, IfOk, OnOk, nat_eq}
use Rattle.std.proofs.lemmas.Bool.{eqb-true}
use Rattle.mqtt_packet.specs.declared.codec.packet.Packet.{Packet}
use Rattle.mqtt_rules.specs.declared.step.Capacity.{Capacity}
use Rattle.mqtt_rules.specs.step.Deeds.{Act, after_all, series, with_line}
use Rattle.mqtt_rules.specs.step.Lines.{session_on}
use Rattle.mqtt_rules.specs.step.State.{Broker, Env, Line, MemberChoice, line_at}
use Rattle.mqtt_rules.specs.step.Step.{Call, Input, SpentStep, deeds, deeds_of, env_of, is_again, on_packet}
use Rattle.mqtt_rules.proofs.step_lemmas.fit.FitLaw.{mapped_some}
use Rattle.mqtt_rules.proofs.step_lemmas.acts.Leads.{found_passes}
use Rattle.mqtt_broker_step.specs.declared.fault.StepFault.{StepFault}
use Rattle.mqtt_broker_step.specs.declared.fault.StepFault.TheVariants.{Spent}
use Rattle.mqtt_broker_step.specs.Stepping.{Stepping, Did, IsLeft, env_in}
use Rattle.mqtt_broker_queue.specs.publications.Choosing.{DoesSome, LeavesSome}
use Rattle.mqtt_broker_queue.proofs.publications_lemmas.Some.{both, leaves_first, leaves_some, same_some, same_some_left, then_some, then_some_left}
use Rattle.mqtt_broker_acts.specs.calls.Doing.{DidCall, IsCalled, begun}
use Rattle.mqtt_broker_acts.proofs.calls_lemmas.CallActs.{did_call, hears, left_call}

-- ---- from its beginning

-- an act that does what a call asks for is that call, whoever is chosen
pub called_some : (limits : Capacity) (now : ℕ) (call : Call) (again : Bool) (b : Broker) (s new : Stepping) (r : Result ⊤ StepFault) → s ≡ begun limits now b
    → ((choice : MemberChoice) → again ≡ is_again call (deeds limits choice now call b))
    → OnOk r (DoesSome (λ env. deeds_of env call) s new) → IfErr r (λ fault. LeavesSome (λ env. deeds_of env call) fault s new)
    → IsCalled now call again r new
called_some limits now call again b s new (Ok done) same more ok left =
    did_call limits now call again b new more (subst (λ (t : Stepping). DoesSome (λ env. deeds_of env call) t new) same ok)
called_some limits now call again b s new (Err fault) same more ok left =
    left_call limits now call b fault new (subst (λ (t : Stepping). LeavesSome (λ env. deeds_of env call) fault t new) same left)

-- where it says whether there is more
pub again_some : (limits : Capacity) (now : ℕ) (call : Call) (b : Broker) (s new : Stepping) (r : Result Bool StepFault) → s ≡ begun limits now b
    → ((env : Env) → IfOk r (λ again. again ≡ is_again call (deeds_of env call s.broker)))
    → OnOk r (DoesSome (λ env. deeds_of env call) s new) → IfOk r (λ again. DidCall now call again new)
again_some limits now call b s new (Ok again) same more ok =
    did_call limits now call again b new
    (λ choice. more (env_of limits choice b) ∙ ap (λ (t : Stepping). is_again call (deeds_of (env_of limits choice b) call t.broker)) same)
    (subst (λ (t : Stepping). DoesSome (λ env. deeds_of env call) t new) same ok)
again_some limits now call b s new (Err fault) same more ok = tt

-- a call that is refused as spent would spend a number
pub spent_some : {A : Type 0} (limits : Capacity) (now : ℕ) (call : Call) (b : Broker) (s new : Stepping) (r : Result A StepFault) → s ≡ begun limits now b
    → IfErr r (λ fault. LeavesSome (λ env. deeds_of env call) fault s new)
    → IfErr r (λ fault. fault ≡ Spent → SpentStep new.limits new.start now call)
spent_some limits now call b s new (Ok a) same left = tt
spent_some limits now call b s new (Err fault) same left =
    left_call limits now call b fault new (subst (λ (t : Stepping). LeavesSome (λ env. deeds_of env call) fault t new) same left)

-- the state in which it began, and its limits, stay
pub start_some : {A : Type 0} (limits : Capacity) (now : ℕ) (act : Env → Act) (b : Broker) (s new : Stepping) (r : Result A StepFault) → s ≡ begun limits now b
    → OnOk r (DoesSome act s new) → IfErr r (λ fault. LeavesSome act fault s new) → new.start ≡ b
start_some limits now act b s new (Ok done) same ok left =
    ap (λ (t : Stepping). t.start) (ok.is (λ number sender. ok.members) refl).is ∙ ap (λ (t : Stepping). t.start) same
start_some limits now act b s new (Err fault) same ok left =
    (left.is (λ number sender. left.members) refl).start ∙ ap (λ (t : Stepping). t.start) same

-- an act leaves the limits
pub limits_some : {A : Type 0} (limits : Capacity) (now : ℕ) (act : Env → Act) (b : Broker) (s new : Stepping) (r : Result A StepFault) → s ≡ begun limits now b
    → OnOk r (DoesSome act s new) → IfErr r (λ fault. LeavesSome act fault s new) → new.limits ≡ limits
limits_some limits now act b s new (Ok done) same ok left =
    ap (λ (t : Stepping). t.limits) (ok.is (λ number sender. ok.members) refl).is ∙ ap (λ (t : Stepping). t.limits) same
limits_some limits now act b s new (Err fault) same ok left =
    (left.is (λ number sender. left.members) refl).limits ∙ ap (λ (t : Stepping). t.limits) same

-- ---- a packet on a line that stands, with a session or without: the line is heard, and the packet is answered

-- the line is there, with this session on it or none
pub record OnLine (line : ℕ) (session : Option ℕ) (b : Broker) : Type 0 where
  pub l : Line
  pub found : line_at line b ≡ Some l
  pub number : l.number ≡ line
  pub its : l.session ≡ session

-- a line that stands has its session on it
pub on_line : (line : ℕ) (session : Option ℕ) (b : Broker) → session_on line b ≡ Some session → OnLine line session b
on_line line session b on =
    let l = mapped_some (λ (x : Line). x.session) (line_at line b) session on in
    record {
      l = l.0;
      found = l.1;
      number = eqb-true l.0.number line (found_passes (λ (x : Line). nat_eq x.number line) l.0 b.lines l.1);
      its = l.2;
    }

abbrev pub hears_first : ℕ → Env → Act
hears_first line env = hears line

abbrev pub answers : Line → Packet → Option ℕ → Env → Act
answers l packet session env = on_packet env l packet session

-- a packet's call is to hear it and to answer it
pub input_is : (env : Env) (line : ℕ) (session : Option ℕ) (packet : Packet) (l : Line) (b : Broker) → line_at line b ≡ Some l → l.session ≡ session
    → both (hears_first line) (answers l packet session) env b ≡ deeds_of env (Input line packet) b
input_is env line session packet l b found its =
    let act = on_packet env l packet session in
    ap (λ ds. hears line b ++ ds) (sym (append-nil (act (after_all (hears line b) b))))
    ∙ (ap (λ o. series (hears line ∷ on_packet env l packet o ∷ []) b) (sym its)
    ∙ sym (ap (λ o. with_line o (λ x. series (hears line ∷ on_packet env x packet x.session ∷ [])) b) found))

-- hearing a packet, and what it asks for: that is its call
pub input_some : (line : ℕ) (session : Option ℕ) (packet : Packet) (s s1 s2 : Stepping) (h : OnLine line session s.broker) → Did (hears line) s s1
    → DoesSome (λ env. on_packet env h.l packet session) s1 s2 → DoesSome (λ env. deeds_of env (Input line packet)) s s2
input_some line session packet s s1 s2 h heard does =
    same_some (both (hears_first line) (answers h.l packet session)) (λ env. deeds_of env (Input line packet)) s s2
    (λ choice. input_is (env_in choice s) line session packet h.l s.broker h.found h.its)
    (then_some (hears_first line) (answers h.l packet session) s s1 s2 (λ choice. heard) does)

-- or it is refused at the second
pub input_some_left : (line : ℕ) (session : Option ℕ) (packet : Packet) (fault : StepFault) (s s1 s2 : Stepping) (h : OnLine line session s.broker) → Did (hears line) s s1
    → LeavesSome (λ env. on_packet env h.l packet session) fault s1 s2 → LeavesSome (λ env. deeds_of env (Input line packet)) fault s s2
input_some_left line session packet fault s s1 s2 h heard left =
    same_some_left (both (hears_first line) (answers h.l packet session)) (λ env. deeds_of env (Input line packet)) fault s s2
    (λ choice. input_is (env_in choice s) line session packet h.l s.broker h.found h.its)
    (then_some_left (hears_first line) (answers h.l packet session) fault s s1 s2 (λ choice. heard) left)

-- if it isn't heard
pub unheard_left : (line : ℕ) (session : Option ℕ) (packet : Packet) (fault : StepFault) (s new : Stepping) → OnLine line session s.broker → IsLeft (hears line) fault s new
    → LeavesSome (λ env. deeds_of env (Input line packet)) fault s new
unheard_left line session packet fault s new h left =
    same_some_left (both (hears_first line) (answers h.l packet session)) (λ env. deeds_of env (Input line packet)) fault s new
    (λ choice. input_is (env_in choice s) line session packet h.l s.broker h.found h.its)
    (leaves_some (both (hears_first line) (answers h.l packet session)) fault s new
    (leaves_first (hears_first line) (answers h.l packet session) fault s new (λ choice. left)))
