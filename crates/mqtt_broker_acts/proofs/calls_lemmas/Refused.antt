-- A fault in what came on a line: the first packet, or a later one (MQTT 5.0, 3.1, 4.13).
use Rattle.std.proofs.Common.{◌≡◌, ℕ, Bool, true, false, [], ◌∷◌, ◌++◌, refl, ap, sym, ◌∙◌}
use Rattle.std.specs.Prelude.{Option, Some, None}
use Rattle.mqtt_rules.specs.step.Closing.{close, drop_line}
use Rattle.mqtt_rules.specs.step.Deeds.{Act, Send, after_all, always, series, with_line}
use Rattle.mqtt_rules.specs.step.Packets.{connack}
use Rattle.mqtt_rules.specs.step.State.{Broker, Env, Line}
use Rattle.mqtt_rules.specs.step.Step.{BadInput, deeds_of, late_code, on_fault}
use Rattle.mqtt_broker_step.specs.declared.fault.StepFault.{StepFault}
use Rattle.mqtt_broker_step.specs.Stepping.{Stepping, Did, IsLeft, env_in}
use Rattle.mqtt_broker_queue.specs.publications.Choosing.{DoesSome, LeavesSome}
use Rattle.mqtt_broker_queue.proofs.publications_lemmas.Some.{alone, both, leaves_first, leaves_some, same_some, same_some_left, then_some, then_some_left}
use Rattle.mqtt_broker_acts.proofs.calls_lemmas.SomeCalls.{OnLine}
use Rattle.mqtt_broker_acts.specs.calls.First.{first_told}

abbrev tells : ℕ → Bool → ℕ → Env → Act
tells line is_connect code env = always (first_told line is_connect code)

abbrev closes : Line → Env → Act
closes l env = close env true l

abbrev faults : Line → Bool → ℕ → Option ℕ → Env → Act
faults l is_connect code session env = on_fault env l is_connect code session

-- ---- what is told changes nothing

told_records : (line : ℕ) (is_connect : Bool) (code : ℕ) (b : Broker) → (after_all (first_told line is_connect code) b).records ≡ b.records
told_records line true code b = refl
told_records line false code b = refl

-- what is told of a bad first packet leaves the records alone
pub records_told : (line : ℕ) (is_connect : Bool) (code : ℕ) (s s1 : Stepping) → Did (always (first_told line is_connect code)) s s1 → s1.broker.records ≡ s.broker.records
records_told line is_connect code s s1 told = ap (λ (t : Stepping). t.broker.records) told.is ∙ told_records line is_connect code s.broker

-- ---- the first packet

first_is : (is_connect : Bool) (line code : ℕ) (l : Line) (env : Env) (b : Broker) → l.number ≡ line
    → both (tells line is_connect code) (closes l) env b ≡ on_fault env l is_connect code None b
first_is true line code l env b number =
    let told = first_told line true code in
    ap (λ ds. told ++ ds) (alone (close env true l) (after_all told b))
    ∙ ap (λ n. series (always (Send n (connack false code []) ∷ []) ∷ close env true l ∷ []) b) (sym number)
first_is false line code l env b number = refl

-- a bad first packet is told, and the line closes
pub first_refused : (line code : ℕ) (is_connect : Bool) (l : Line) (s s1 s2 : Stepping) → l.number ≡ line → Did (always (first_told line is_connect code)) s s1
    → DoesSome (λ env. close env true l) s1 s2 → DoesSome (λ env. on_fault env l is_connect code None) s s2
first_refused line code is_connect l s s1 s2 number told closed =
    same_some (both (tells line is_connect code) (closes l)) (faults l is_connect code None) s s2
    (λ choice. first_is is_connect line code l (env_in choice s) s.broker number)
    (then_some (tells line is_connect code) (closes l) s s1 s2 (λ choice. told) closed)

-- or that is refused at the second
pub first_left : (line code : ℕ) (is_connect : Bool) (l : Line) (fault : StepFault) (s s1 s2 : Stepping) → l.number ≡ line → Did (always (first_told line is_connect code)) s s1
    → LeavesSome (λ env. close env true l) fault s1 s2 → LeavesSome (λ env. on_fault env l is_connect code None) fault s s2
first_left line code is_connect l fault s s1 s2 number told left =
    same_some_left (both (tells line is_connect code) (closes l)) (faults l is_connect code None) fault s s2
    (λ choice. first_is is_connect line code l (env_in choice s) s.broker number)
    (then_some_left (tells line is_connect code) (closes l) fault s s1 s2 (λ choice. told) left)

-- or at the first
pub untold_left : (line code : ℕ) (is_connect : Bool) (l : Line) (fault : StepFault) (s new : Stepping) → l.number ≡ line → IsLeft (always (first_told line is_connect code)) fault s new
    → LeavesSome (λ env. on_fault env l is_connect code None) fault s new
untold_left line code is_connect l fault s new number left =
    same_some_left (both (tells line is_connect code) (closes l)) (faults l is_connect code None) fault s new
    (λ choice. first_is is_connect line code l (env_in choice s) s.broker number)
    (leaves_some (both (tells line is_connect code) (closes l)) fault s new
    (leaves_first (tells line is_connect code) (closes l) fault s new (λ choice. left)))

-- ---- on the line, if it stands

fault_is : (line code : ℕ) (is_connect : Bool) (session : Option ℕ) (env : Env) (b : Broker) (h : OnLine line session b)
    → on_fault env h.l is_connect code session b ≡ deeds_of env (BadInput line is_connect code) b
fault_is line code is_connect session env b h =
    ap (λ o. on_fault env h.l is_connect code o b) (sym h.its)
    ∙ sym (ap (λ o. with_line o (λ x. on_fault env x is_connect code x.session) b) h.found)

-- what a bad packet brings is brought on its line
pub fault_on : (line code : ℕ) (is_connect : Bool) (session : Option ℕ) (s new : Stepping) (h : OnLine line session s.broker)
    → DoesSome (λ env. on_fault env h.l is_connect code session) s new → DoesSome (λ env. deeds_of env (BadInput line is_connect code)) s new
fault_on line code is_connect session s new h does =
    same_some (faults h.l is_connect code session) (λ env. deeds_of env (BadInput line is_connect code)) s new
    (λ choice. fault_is line code is_connect session (env_in choice s) s.broker h) does

-- or that is refused
pub fault_on_left : (line code : ℕ) (is_connect : Bool) (session : Option ℕ) (fault : StepFault) (s new : Stepping) (h : OnLine line session s.broker)
    → LeavesSome (λ env. on_fault env h.l is_connect code session) fault s new → LeavesSome (λ env. deeds_of env (BadInput line is_connect code)) fault s new
fault_on_left line code is_connect session fault s new h left =
    same_some_left (faults h.l is_connect code session) (λ env. deeds_of env (BadInput line is_connect code)) fault s new
    (λ choice. fault_is line code is_connect session (env_in choice s) s.broker h) left

-- ---- a later packet

late_is : (is_connect : Bool) (code late birth : ℕ) (l : Line) (env : Env) (b : Broker) → late ≡ late_code code
    → drop_line env late l b ≡ on_fault env l is_connect code (Some birth) b
late_is true code late birth l env b is = ap (λ n. drop_line env n l b) is
late_is false code late birth l env b is = ap (λ n. drop_line env n l b) is

-- a bad packet behind the CONNECT drops the line with a code
pub late_refused : (line code late birth : ℕ) (is_connect : Bool) (session : Option ℕ) (s new : Stepping) (h : OnLine line session s.broker) → session ≡ Some birth → late ≡ late_code code
    → DoesSome (λ env. drop_line env late h.l) s new → DoesSome (λ env. deeds_of env (BadInput line is_connect code)) s new
late_refused line code late birth is_connect session s new h is same does =
    fault_on line code is_connect session s new h
    (same_some (λ env. drop_line env late h.l) (faults h.l is_connect code session) s new
    (λ choice. late_is is_connect code late birth h.l (env_in choice s) s.broker same ∙ ap (λ o. on_fault (env_in choice s) h.l is_connect code o s.broker) (sym is)) does)

-- or that is refused
pub late_left : (line code late birth : ℕ) (is_connect : Bool) (session : Option ℕ) (fault : StepFault) (s new : Stepping) (h : OnLine line session s.broker) → session ≡ Some birth → late ≡ late_code code
    → LeavesSome (λ env. drop_line env late h.l) fault s new → LeavesSome (λ env. deeds_of env (BadInput line is_connect code)) fault s new
late_left line code late birth is_connect session fault s new h is same left =
    fault_on_left line code is_connect session fault s new h
    (same_some_left (λ env. drop_line env late h.l) (faults h.l is_connect code session) fault s new
    (λ choice. late_is is_connect code late birth h.l (env_in choice s) s.broker same ∙ ap (λ o. on_fault (env_in choice s) h.l is_connect code o s.broker) (sym is)) left)

-- if the line has no session
pub early_refused : (line code : ℕ) (is_connect : Bool) (session : Option ℕ) (s new : Stepping) (h : OnLine line session s.broker) → session ≡ None
    → DoesSome (λ env. on_fault env h.l is_connect code None) s new → DoesSome (λ env. deeds_of env (BadInput line is_connect code)) s new
early_refused line code is_connect session s new h is does =
    fault_on line code is_connect session s new h
    (same_some (faults h.l is_connect code None) (faults h.l is_connect code session) s new
    (λ choice. ap (λ o. on_fault (env_in choice s) h.l is_connect code o s.broker) (sym is)) does)

-- one before it may be refused as well
pub early_left : (line code : ℕ) (is_connect : Bool) (session : Option ℕ) (fault : StepFault) (s new : Stepping) (h : OnLine line session s.broker) → session ≡ None
    → LeavesSome (λ env. on_fault env h.l is_connect code None) fault s new → LeavesSome (λ env. deeds_of env (BadInput line is_connect code)) fault s new
early_left line code is_connect session fault s new h is left =
    fault_on_left line code is_connect session fault s new h
    (same_some_left (faults h.l is_connect code None) (faults h.l is_connect code session) fault s new
    (λ choice. ap (λ o. on_fault (env_in choice s) h.l is_connect code o s.broker) (sym is)) left)
