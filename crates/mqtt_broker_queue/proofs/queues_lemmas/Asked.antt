-- What a session does at an answer, and that orders of release have nothing to do with the copies that went out on the line.
use Rattle.std.proofs.Common.{◌≡◌, ℕ, List, [], ◌∷◌, map, max, refl, ap, sym, ◌∙◌}
use Rattle.mqtt_base.specs.Phases.{order_of}
use Rattle.std.specs.Prelude.{Option, Some}
use Rattle.mqtt_flow.specs.outbound.Queue.{greatest_order}
use Rattle.mqtt_flow.specs.outbound.Outbound.{Answer}
use Rattle.mqtt_records.specs.messages.Queue.{CopyRow}
use Rattle.mqtt_records.specs.declared.state.session.Session.{Session}
use Rattle.mqtt_rules.specs.step.Deeds.{Act, of_session, with_session}
use Rattle.mqtt_rules.specs.step.Inbound.{on_answer}
use Rattle.mqtt_rules.specs.step.State.{Line, Broker, Env, session_at, entry_on}
use Rattle.mqtt_broker_step.specs.declared.fault.StepFault.{StepFault}
use Rattle.mqtt_broker_step.specs.Stepping.{Stepping, IsLeft}
use Rattle.mqtt_broker_queue.specs.declared.queues.answering.Answered.{Answered}
use Rattle.mqtt_broker_queue.specs.declared.queues.answering.Answered.TheVariants.{Taken, Wrong}
use Rattle.mqtt_broker_queue.specs.queues.Answering.{asks, Came}
use Rattle.mqtt_broker_step.proofs.Then.{same_act, same_left}

-- ---- the greatest order is the same, whatever went out

-- what went out on the line has no part in the greatest order of release
pub orders_alike : (went : List ℕ) (es : List CopyRow) → greatest_order (map (entry_on went) es) ≡ greatest_order (map (entry_on []) es)
orders_alike went [] = refl
orders_alike went (e ∷ es) = ap (λ n. max (order_of e.phase) n) (orders_alike went es)

-- ---- as the rules look

-- an act that does what an answer asks for
abbrev pub IsAskedBy : (Env → Line → Act) → ℕ → Answer → Broker → Type 0
IsAskedBy act birth asked b = (env : Env) (l : Line) → asks birth asked env l b ≡ act env l b

-- if the session's look says this whatever went out, it is what the session does at an answer
pub looked : (birth : ℕ) (look : List ℕ → Session → Answer) (asked : Answer) (x : Session) (b : Broker) → session_at birth b.records ≡ Some x
    → ((went : List ℕ) → asked ≡ look went x) → (env : Env) (l : Line) → asks birth asked env l b ≡ of_session birth (λ s. on_answer (look l.went s) env l s) b
looked birth look asked x b found is env l =
    ap (λ (o : Option Session). with_session o (on_answer asked env l) b) found
    ∙ (ap (λ a. on_answer a env l x b) (is l.went)
    ∙ sym (ap (λ (o : Option Session). with_session o (λ s. on_answer (look l.went s) env l s) b) found))

-- what came of an answer that asks for this came of the act that does it
pub came_so : (act : Env → Line → Act) (line birth : ℕ) (asked : Answer) (answered : Answered) (s new : Stepping) → IsAskedBy act birth asked s.broker
    → Came (asks birth asked) line answered s new → Came act line answered s new
came_so act line birth asked Taken s new same is = λ env l number.
    same_act (asks birth asked env l) (act env l) s new (same env l) (is env l number)
came_so act line birth asked Wrong s new same is = (is.0, λ env l number. sym (same env l) ∙ is.1 env l number)

-- if an answer that asks for this was refused, so was the act that does it
pub left_so : (act : Env → Line → Act) (birth : ℕ) (asked : Answer) (env : Env) (l : Line) (fault : StepFault) (s new : Stepping) → IsAskedBy act birth asked s.broker
    → IsLeft (asks birth asked env l) fault s new → IsLeft (act env l) fault s new
left_so act birth asked env l fault s new same is = same_left (asks birth asked env l) (act env l) fault s new (same env l) is
