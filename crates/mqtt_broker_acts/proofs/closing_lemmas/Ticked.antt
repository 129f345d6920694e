-- What is due, and what is done of it.
use Rattle.std.proofs.Common.{◌≡◌, ℕ, true, ap, sym}
use Rattle.std.specs.Prelude.{Some, None}
use Rattle.mqtt_rules.specs.step.Closing.{close, drop_line}
use Rattle.mqtt_rules.specs.step.State.{Broker, Env, Line}
use Rattle.mqtt_rules.specs.step.Tick.{silence}
use Rattle.mqtt_base.specs.Codes.{keep_alive_timeout}
use Rattle.mqtt_broker_step.specs.declared.fault.StepFault.{StepFault}
use Rattle.mqtt_broker_step.specs.Stepping.{Stepping, env_in}
use Rattle.mqtt_broker_queue.specs.publications.Choosing.{DoesSome, LeavesSome}
use Rattle.mqtt_broker_queue.proofs.publications_lemmas.Some.{same_some, same_some_left}

silent_some : (l : Line) (birth : ℕ) (env : Env) (b : Broker) → l.session ≡ Some birth → drop_line env keep_alive_timeout l b ≡ silence env l.session l b
silent_some l birth env b on = ap (λ o. silence env o l b) (sym on)

silent_none : (l : Line) (env : Env) (b : Broker) → l.session ≡ None → close env true l b ≡ silence env l.session l b
silent_none l env b on = ap (λ o. silence env o l b) (sym on)

-- a session that was silent too long is told so, and its line dropped
pub told_silent : (l : Line) (birth : ℕ) (s new : Stepping) → l.session ≡ Some birth → DoesSome (λ env. drop_line env keep_alive_timeout l) s new → DoesSome (λ env. silence env l.session l) s new
told_silent l birth s new on is =
    same_some (λ env. drop_line env keep_alive_timeout l) (λ env. silence env l.session l) s new (λ choice. silent_some l birth (env_in choice s) s.broker on) is

-- or that is refused
pub told_silent_left : (l : Line) (birth : ℕ) (fault : StepFault) (s new : Stepping) → l.session ≡ Some birth → LeavesSome (λ env. drop_line env keep_alive_timeout l) fault s new
    → LeavesSome (λ env. silence env l.session l) fault s new
told_silent_left l birth fault s new on is =
    same_some_left (λ env. drop_line env keep_alive_timeout l) (λ env. silence env l.session l) fault s new (λ choice. silent_some l birth (env_in choice s) s.broker on) is

-- a line on which no CONNECT came in time is closed
pub closed_silent : (l : Line) (s new : Stepping) → l.session ≡ None → DoesSome (λ env. close env true l) s new → DoesSome (λ env. silence env l.session l) s new
closed_silent l s new on is =
    same_some (λ env. close env true l) (λ env. silence env l.session l) s new (λ choice. silent_none l (env_in choice s) s.broker on) is

-- or that is refused
pub closed_silent_left : (l : Line) (fault : StepFault) (s new : Stepping) → l.session ≡ None → LeavesSome (λ env. close env true l) fault s new → LeavesSome (λ env. silence env l.session l) fault s new
closed_silent_left l fault s new on is =
    same_some_left (λ env. close env true l) (λ env. silence env l.session l) fault s new (λ choice. silent_none l (env_in choice s) s.broker on) is
