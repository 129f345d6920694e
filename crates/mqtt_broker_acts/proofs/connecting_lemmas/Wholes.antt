-- What parts of a CONNECT's deeds make together.
use Rattle.std.proofs.Common.{◌≡◌, ℕ, suc, Bool, true, List, [], ◌∷◌, ◌++◌, refl, ap, sym, subst, ◌∙◌}
use Rattle.std.specs.Prelude.{Some, decimal, map}
use Rattle.mqtt_packet.specs.declared.connect.connect.Connect.{Connect}
use Rattle.mqtt_flow.specs.declared.outbound.entry.Turn.{Turn}
use Rattle.mqtt_flow.specs.declared.outbound.entry.Turn.TheVariants.{Repeat}
use Rattle.mqtt_flow.specs.outbound.Outbound.{resumed_with, due_from}
use Rattle.mqtt_records.specs.declared.state.session.Session.{Session}
use Rattle.mqtt_rules.specs.step.Numbers.{HasGivenBirths}
use Rattle.mqtt_rules.specs.step.State.{Line, session_at, queue_on}
use Rattle.mqtt_rules.specs.step.Deeds.{Act, Begin, Name, Resume, At, Gone, always, whose, with_session}
use Rattle.mqtt_rules.specs.step.Connect.{begin, begin_named, expiry_of, fresh_row, greet, refused, resume, will_of}
use Rattle.mqtt_rules.specs.step.Outbound.{all_turn_deeds}
use Rattle.mqtt_broker_step.specs.Doing.{begins, names}
use Rattle.mqtt_broker_step.specs.Stepping.{Stepping, Did, to_session}
use Rattle.mqtt_broker_step.proofs.Doing.{found_birth}
use Rattle.mqtt_broker_acts.specs.connecting.Connecting.{begins_greeted, begun_told, resumption_told, refusal_told, repeats, resumed_greeted, resumed_told}
use Rattle.mqtt_broker_acts.proofs.connecting_lemmas.Parts.{AreWhole}
use Rattle.mqtt_records.specs.state.Session.{auto}

-- a refusal is told, and then the line goes
pub refused_whole : (l : Line) (line code : ℕ) (c : Connect) (s : Stepping) → l.number ≡ line
    → AreWhole (always (refusal_told line c code)) (always (Gone line ∷ [])) (always (refused l c code)) s
refused_whole l line code c s number = ap (λ n. refusal_told n c code ++ Gone n ∷ []) (sym number)

-- a session begins, and then its line is greeted
pub greeted_whole : (l : Line) (birth : ℕ) (client : List ℕ) (c : Connect) (s : Stepping) → birth ≡ suc s.broker.records.births
    → AreWhole (begins client (expiry_of c) (will_of c)) (always (greet l c birth ∷ [])) (begins_greeted l c client) s
greeted_whole l birth client c s is =
    ap (λ n. Begin (fresh_row (suc s.broker.records.births) client c) (will_of c) ∷ greet l c n ∷ []) is

abbrev pub begins_as : Line → Connect → Bool → List ℕ → Act
begins_as l c is_assigned client b = begin l c is_assigned client (suc b.records.births)

abbrev pub begins_named : Bool → Line → Connect → Act
begins_named is_assigned l c b = begin_named is_assigned l c b.records

-- then its client is told
pub begun_whole : (l : Line) (line : ℕ) (is_assigned : Bool) (client : List ℕ) (c : Connect) (s : Stepping) → l.number ≡ line
    → AreWhole (begins_greeted l c client) (always (begun_told line is_assigned client)) (begins_as l c is_assigned client) s
begun_whole l line is_assigned client c s number =
    ap (λ n. begins_greeted l c client s.broker ++ begun_told n is_assigned client) (sym number)

-- a name is assigned first, if the client has none
pub named_whole : (l : Line) (n : ℕ) (c : Connect) (s : Stepping) → n ≡ suc s.broker.records.autos
    → AreWhole names (begins_as l c true (auto ++ decimal n)) (begins_named true l c) s
named_whole l n c s number =
    ap (λ k. Name (suc s.broker.records.autos) ∷ begin l c true (auto ++ decimal k) (suc s.broker.records.births)) number

-- no birth is given by a name
pub births_stay : (s s1 : Stepping) → Did names s s1 → HasGivenBirths s.broker.records → HasGivenBirths s1.broker.records
births_stay s s1 is given = subst (λ (x : Stepping). HasGivenBirths x.broker.records) (sym is.is) given

resumes_it : (birth : ℕ) (c : Connect) (x : Session) (s : Stepping) → session_at birth s.broker.records ≡ Some x
    → to_session birth (Resume (expiry_of c) (will_of c)) s.broker ≡ At (whose x) (Resume (expiry_of c) (will_of c)) ∷ []
resumes_it birth c x s found =
    ap (λ o. with_session o (λ y. always (At (whose y) (Resume (expiry_of c) (will_of c)) ∷ [])) s.broker) found

-- a session is resumed, and then its line is greeted
pub regreeted_whole : (l : Line) (birth : ℕ) (c : Connect) (x : Session) (s : Stepping) → session_at birth s.broker.records ≡ Some x
    → AreWhole (to_session birth (Resume (expiry_of c) (will_of c))) (always (greet l c birth ∷ [])) (always (resumed_greeted l c x)) s
regreeted_whole l birth c x s found =
    ap (λ ds. ds ++ greet l c birth ∷ []) (resumes_it birth c x s found)
    ∙ ap (λ n. At (whose x) (Resume (expiry_of c) (will_of c)) ∷ greet l c n ∷ []) (sym (found_birth birth s.broker.records.sessions x found))

-- then its client is told
pub retold_whole : (l : Line) (line : ℕ) (c : Connect) (x : Session) (s : Stepping) → l.number ≡ line
    → AreWhole (always (resumed_greeted l c x)) (always (resumption_told line)) (always (resumed_told l c x)) s
retold_whole l line c x s number =
    ap (λ n. resumed_greeted l c x ++ resumption_told n) (sym number)

-- all that a resumption sends are PUBRELs
repeats_are : {X : Type 0} (now line : ℕ) (s : Session) (id : X → ℕ) (xs : List X)
    → repeats line (map (λ x. Repeat (id x)) xs) ≡ all_turn_deeds now line s (map (λ x. Repeat (id x)) xs)
repeats_are now line s id [] = refl
repeats_are now line s id (x ∷ xs) =
    ap (λ ds. repeats line (Repeat (id x) ∷ []) ++ ds) (repeats_are now line s id xs)

-- then its released copies are asked for again
pub resumed_whole : (l : Line) (line now : ℕ) (c : Connect) (x : Session) (turns : List Turn) → l.number ≡ line → turns ≡ resumed_with (queue_on [] x)
    → resumed_told l c x ++ repeats line turns ≡ resume l c now x
resumed_whole l line now c x turns number are =
    ap (λ n. resumed_told l c x ++ repeats n turns) (sym number)
    ∙ (ap (λ ts. resumed_told l c x ++ repeats l.number ts) are
    ∙ ap (λ ds. resumed_told l c x ++ ds) (repeats_are now l.number x (λ d. d.identifier) (due_from [] (queue_on [] x))))
