-- What is due is done.
use Rattle.std.proofs.Common.{◌≡◌, ℕ, refl, ap, sym, ◌∙◌}
use Rattle.std.specs.Prelude.{Option, Some, None}
use Rattle.mqtt_records.specs.lists.Order.{row_at}
use Rattle.mqtt_rules.specs.step.Deeds.{with_line}
use Rattle.mqtt_rules.specs.step.State.{Broker, Env, Line}
use Rattle.mqtt_rules.specs.step.Step.{Tick, deeds_of}
use Rattle.mqtt_rules.specs.step.Tick.{silence}
use Rattle.mqtt_broker_step.specs.Lines.{line_number}
use Rattle.mqtt_broker_step.specs.declared.fault.StepFault.{StepFault}
use Rattle.mqtt_broker_step.specs.Stepping.{Stepping, env_in}
use Rattle.mqtt_broker_queue.specs.publications.Choosing.{DoesSome, LeavesSome}
use Rattle.mqtt_broker_queue.proofs.publications_lemmas.Some.{does_some, same_some, same_some_left}
use Rattle.mqtt_broker_acts.specs.closing.Wills.{publishes_will}
use Rattle.mqtt_broker_acts.proofs.closing_lemmas.Settled.{does_nothing}
use Rattle.mqtt_broker_acts.specs.declared.clock.finding.Due.{Due}
use Rattle.mqtt_broker_acts.specs.declared.clock.finding.Due.TheVariants.{Silence, Will}
use Rattle.mqtt_broker_acts.specs.clock.Ticking.{silences, does_due, does_first}
use Rattle.mqtt_broker_acts.proofs.clock_lemmas.Told.{line_found}

-- ---- a line that is silent

silence_act : (n : ℕ) (o : Option Line) (env : Env) (b : Broker) → row_at line_number n b.lines ≡ o → silences n env b ≡ with_line o (λ l. silence env l.session l) b
silence_act n o env b found = ap (λ x. with_line x (λ l. silence env l.session l) b) (line_found n b.lines ∙ found)

-- a line that is not linked is not silent
pub no_line : (n : ℕ) (s : Stepping) → row_at line_number n s.broker.lines ≡ None → DoesSome (silences n) s s
no_line n s none = does_some (silences n) s s (does_nothing (silences n) s (λ env. silence_act n None env s.broker none))

-- one that was silent too long is told so, or closed
pub silenced : (n : ℕ) (l : Line) (s new : Stepping) → row_at line_number n s.broker.lines ≡ Some l → DoesSome (λ env. silence env l.session l) s new → DoesSome (silences n) s new
silenced n l s new found is =
    same_some (λ env. silence env l.session l) (silences n) s new (λ choice. sym (silence_act n (Some l) (env_in choice s) s.broker found)) is

-- or that is refused
pub silence_left : (n : ℕ) (l : Line) (fault : StepFault) (s new : Stepping) → row_at line_number n s.broker.lines ≡ Some l → LeavesSome (λ env. silence env l.session l) fault s new
    → LeavesSome (silences n) fault s new
silence_left n l fault s new found is =
    same_some_left (λ env. silence env l.session l) (silences n) fault s new (λ choice. sym (silence_act n (Some l) (env_in choice s) s.broker found)) is

-- ---- what is due, by its kind

-- that is the first thing that is due
pub silence_done : (n : ℕ) (s new : Stepping) → DoesSome (silences n) s new → DoesSome (does_due (Silence n)) s new
silence_done n s new is = same_some (silences n) (does_due (Silence n)) s new (λ choice. refl) is

-- or it is refused
pub silence_failed : (n : ℕ) (fault : StepFault) (s new : Stepping) → LeavesSome (silences n) fault s new → LeavesSome (does_due (Silence n)) fault s new
silence_failed n fault s new is = same_some_left (silences n) (does_due (Silence n)) fault s new (λ choice. refl) is

-- a Will that is due is
pub will_done : (birth : ℕ) (s new : Stepping) → DoesSome (publishes_will birth) s new → DoesSome (does_due (Will birth)) s new
will_done birth s new is = same_some (publishes_will birth) (does_due (Will birth)) s new (λ choice. refl) is

-- or it is refused
pub will_failed : (birth : ℕ) (fault : StepFault) (s new : Stepping) → LeavesSome (publishes_will birth) fault s new → LeavesSome (does_due (Will birth)) fault s new
will_failed birth fault s new is = same_some_left (publishes_will birth) (does_due (Will birth)) fault s new (λ choice. refl) is

-- ---- a turn

-- what is due first is what a turn of the clock does
pub ticked : (o : Option Due) (s new : Stepping) → ((env : Env) → deeds_of env Tick s.broker ≡ does_first o env s.broker) → DoesSome (does_first o) s new
    → DoesSome (λ env. deeds_of env Tick) s new
ticked o s new same is = same_some (does_first o) (λ env. deeds_of env Tick) s new (λ choice. sym (same (env_in choice s))) is

-- or it is refused
pub tick_left : (o : Option Due) (fault : StepFault) (s new : Stepping) → ((env : Env) → deeds_of env Tick s.broker ≡ does_first o env s.broker) → LeavesSome (does_first o) fault s new
    → LeavesSome (λ env. deeds_of env Tick) fault s new
tick_left o fault s new same is = same_some_left (does_first o) (λ env. deeds_of env Tick) fault s new (λ choice. sym (same (env_in choice s))) is

-- if nothing is due nothing is done
pub none_due : (s : Stepping) → DoesSome (does_first None) s s
none_due s = does_some (does_first None) s s (does_nothing (does_first None) s (λ env. refl))

-- if something is it is done
pub one_due : (due : Due) (s new : Stepping) → DoesSome (does_due due) s new → DoesSome (does_first (Some due)) s new
one_due due s new is = same_some (does_due due) (does_first (Some due)) s new (λ choice. refl) is

-- or it is refused
pub one_left : (due : Due) (fault : StepFault) (s new : Stepping) → LeavesSome (does_due due) fault s new → LeavesSome (does_first (Some due)) fault s new
one_left due fault s new is = same_some_left (does_due due) (does_first (Some due)) fault s new (λ choice. refl) is
