-- A receiver's answers as acts, and what came of one (MQTT 5.0, 3.4, 3.5, 3.7, 4.3).
use Rattle.std.specs.Prelude.{◌≡◌, ℕ}
use Rattle.mqtt_base.specs.Codes.{protocol_error}
use Rattle.mqtt_flow.specs.outbound.Outbound.{Answer}
use Rattle.mqtt_rules.specs.step.Closing.{drop_line}
use Rattle.mqtt_rules.specs.step.Deeds.{Act, of_session}
use Rattle.mqtt_rules.specs.step.Inbound.{on_answer, on_puback, on_pubrec, on_pubcomp}
use Rattle.mqtt_rules.specs.step.State.{Line, Env}
use Rattle.mqtt_broker_step.specs.Stepping.{Stepping, Did}
use Rattle.mqtt_broker_queue.specs.declared.queues.answering.Answered.{Answered}
use Rattle.mqtt_broker_queue.specs.declared.queues.answering.Answered.TheVariants.{Taken, Wrong}

-- what a session does at an answer that comes on its line
abbrev pub asks : ℕ → Answer → Env → Line → Act
asks birth asked env l = of_session birth (on_answer asked env l)

abbrev pub pubacks : (birth id code : ℕ) → Env → Line → Act
pubacks birth id code env l = of_session birth (λ s. on_puback env l s id code)

abbrev pub pubrecs : (birth id code : ℕ) → Env → Line → Act
pubrecs birth id code env l = of_session birth (λ s. on_pubrec env l s id code)

abbrev pub pubcomps : (birth id : ℕ) → Env → Line → Act
pubcomps birth id env l = of_session birth (λ s. on_pubcomp env l s id)

-- what came of an answer: its act is done, or the act is that the line is dropped, and nothing is done yet
abbrev pub Came : (Env → Line → Act) → (line : ℕ) → Answered → Stepping → Stepping → Type 0
Came act line Taken old new = (env : Env) (l : Line) → l.number ≡ line → Did (act env l) old new
Came act line Wrong old new =
    (new ≡ old)
    × ((env : Env) (l : Line) → l.number ≡ line → act env l old.broker ≡ drop_line env protocol_error l old.broker)
