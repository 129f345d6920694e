-- A session is settled: its Will, then its end.
use Rattle.std.proofs.Common.{◌≡◌, ℕ, Bool, true, false, [], ◌∷◌, ◌++◌, refl, ap, sym, ◌∙◌}
use Rattle.std.specs.Prelude.{Option, Some, None}
use Rattle.mqtt_records.specs.declared.state.session.Session.{Session}
use Rattle.mqtt_rules.specs.step.Closing.{has_due_will, has_due_end, publish_will, end_session, settle}
use Rattle.mqtt_rules.specs.step.Deeds.{Act, after_all, always, only_if, series, with_session}
use Rattle.mqtt_rules.specs.step.State.{Broker, Env, session_at}
use Rattle.mqtt_broker_step.specs.Undoing.{moment_of}
use Rattle.mqtt_broker_step.specs.declared.fault.StepFault.{StepFault}
use Rattle.mqtt_broker_step.specs.Stepping.{Stepping, did, Did, Does, IsLeft, Leaves, env_in}
use Rattle.mqtt_broker_step.proofs.Doing.{did_none}
use Rattle.mqtt_broker_queue.specs.publications.Choosing.{DoesSome, LeavesSome}
use Rattle.mqtt_broker_step.proofs.Then.{same_act, same_left}
use Rattle.mqtt_broker_queue.proofs.publications_lemmas.Some.{both, does_then, leaves_first, leaves_then, some_then, some_left_first, some_left_then, same_does, same_leaves, same_some, same_some_left, does_some, alone}
use Rattle.mqtt_broker_acts.specs.closing.Ending.{ends}
use Rattle.mqtt_broker_acts.specs.closing.Settling.{settles_will, settles_end}
use Rattle.mqtt_broker_acts.specs.closing.Wills.{publishes_will}

-- ---- nothing is done

-- an act without deeds is done by doing nothing
pub did_nothing : (f : Act) (s : Stepping) → f s.broker ≡ [] → Did f s s
did_nothing f s none = record { is = sym (did_none s) ∙ ap (λ ds. did ds s) (sym none) }

-- so it is whoever is chosen
pub does_nothing : (f : Env → Act) (s : Stepping) → ((env : Env) → f env s.broker ≡ []) → Does f s s
does_nothing f s none = λ choice. did_nothing (f (env_in choice s)) s (none (env_in choice s))

-- ---- its Will

will_absent : (moment birth : ℕ) (env : Env) (b : Broker) → session_at birth b.records ≡ None → settles_will moment birth env b ≡ []
will_absent moment birth env b none = ap (λ o. with_session o (λ s. only_if (has_due_will moment s) (publish_will env s)) b) none

will_in : (moment birth : ℕ) (x : Session) (due : Bool) (env : Env) (b : Broker) → session_at birth b.records ≡ Some x → has_due_will moment x ≡ due → settles_will moment birth env b ≡ only_if due (publish_will env x) b
will_in moment birth x due env b found is =
    ap (λ o. with_session o (λ s. only_if (has_due_will moment s) (publish_will env s)) b) found ∙ ap (λ t. only_if t (publish_will env x) b) is

-- a session that is gone has no Will that is due
pub no_session : (moment birth : ℕ) (s : Stepping) → session_at birth s.broker.records ≡ None → Does (settles_will moment birth) s s
no_session moment birth s none = does_nothing (settles_will moment birth) s (λ env. will_absent moment birth env s.broker none)

-- a Will that is not due waits
pub will_waits : (moment birth : ℕ) (x : Session) (s : Stepping) → session_at birth s.broker.records ≡ Some x → has_due_will moment x ≡ false → Does (settles_will moment birth) s s
will_waits moment birth x s found waits = does_nothing (settles_will moment birth) s (λ env. will_in moment birth x false env s.broker found waits)

will_same : (moment birth : ℕ) (x : Session) (env : Env) (b : Broker) → session_at birth b.records ≡ Some x → has_due_will moment x ≡ true → publishes_will birth env b ≡ settles_will moment birth env b
will_same moment birth x env b found due = ap (λ o. with_session o (publish_will env) b) found ∙ sym (will_in moment birth x true env b found due)

-- a Will that is due is published
pub will_goes : (moment birth : ℕ) (x : Session) (s new : Stepping) → session_at birth s.broker.records ≡ Some x → has_due_will moment x ≡ true
    → DoesSome (publishes_will birth) s new → DoesSome (settles_will moment birth) s new
will_goes moment birth x s new found due is =
    same_some (publishes_will birth) (settles_will moment birth) s new (λ choice. will_same moment birth x (env_in choice s) s.broker found due) is

-- or that is refused
pub will_goes_left : (moment birth : ℕ) (x : Session) (fault : StepFault) (s new : Stepping) → session_at birth s.broker.records ≡ Some x → has_due_will moment x ≡ true
    → LeavesSome (publishes_will birth) fault s new → LeavesSome (settles_will moment birth) fault s new
will_goes_left moment birth x fault s new found due is =
    same_some_left (publishes_will birth) (settles_will moment birth) fault s new (λ choice. will_same moment birth x (env_in choice s) s.broker found due) is

-- so it is if nobody has to be chosen
pub will_quiet : (moment birth : ℕ) (x : Session) (s new : Stepping) → session_at birth s.broker.records ≡ Some x → has_due_will moment x ≡ true
    → Does (publishes_will birth) s new → Does (settles_will moment birth) s new
will_quiet moment birth x s new found due is =
    same_does (publishes_will birth) (settles_will moment birth) s new (λ choice. will_same moment birth x (env_in choice s) s.broker found due) is

-- or that is refused
pub will_quiet_left : (moment birth : ℕ) (x : Session) (fault : StepFault) (s new : Stepping) → session_at birth s.broker.records ≡ Some x → has_due_will moment x ≡ true
    → Leaves (publishes_will birth) fault s new → Leaves (settles_will moment birth) fault s new
will_quiet_left moment birth x fault s new found due is =
    same_leaves (publishes_will birth) (settles_will moment birth) fault s new (λ choice. will_same moment birth x (env_in choice s) s.broker found due) is

-- ---- its end

end_absent : (moment birth : ℕ) (b : Broker) → session_at birth b.records ≡ None → settles_end moment birth b ≡ []
end_absent moment birth b none = ap (λ o. with_session o (λ s. only_if (has_due_end moment s) (always (end_session s))) b) none

end_in : (moment birth : ℕ) (x : Session) (due : Bool) (b : Broker) → session_at birth b.records ≡ Some x → has_due_end moment x ≡ due → settles_end moment birth b ≡ only_if due (always (end_session x)) b
end_in moment birth x due b found is =
    ap (λ o. with_session o (λ s. only_if (has_due_end moment s) (always (end_session s))) b) found ∙ ap (λ t. only_if t (always (end_session x)) b) is

-- a session that is gone does not end
pub no_end : (moment birth : ℕ) (s : Stepping) → session_at birth s.broker.records ≡ None → Did (settles_end moment birth) s s
no_end moment birth s none = did_nothing (settles_end moment birth) s (end_absent moment birth s.broker none)

-- a session whose end is not due stays
pub end_waits : (moment birth : ℕ) (x : Session) (s : Stepping) → session_at birth s.broker.records ≡ Some x → has_due_end moment x ≡ false → Did (settles_end moment birth) s s
end_waits moment birth x s found waits = did_nothing (settles_end moment birth) s (end_in moment birth x false s.broker found waits)

end_same : (moment birth : ℕ) (x : Session) (b : Broker) → session_at birth b.records ≡ Some x → has_due_end moment x ≡ true → ends birth b ≡ settles_end moment birth b
end_same moment birth x b found due = ap (λ o. with_session o (λ s. always (end_session s)) b) found ∙ sym (end_in moment birth x true b found due)

-- a session whose end is due ends
pub end_comes : (moment birth : ℕ) (x : Session) (s new : Stepping) → session_at birth s.broker.records ≡ Some x → has_due_end moment x ≡ true → Did (ends birth) s new → Did (settles_end moment birth) s new
end_comes moment birth x s new found due is = same_act (ends birth) (settles_end moment birth) s new (end_same moment birth x s.broker found due) is

-- or that is refused
pub end_left : (moment birth : ℕ) (x : Session) (fault : StepFault) (s new : Stepping) → session_at birth s.broker.records ≡ Some x → has_due_end moment x ≡ true
    → IsLeft (ends birth) fault s new → IsLeft (settles_end moment birth) fault s new
end_left moment birth x fault s new found due is = same_left (ends birth) (settles_end moment birth) fault s new (end_same moment birth x s.broker found due) is

-- ---- both

abbrev settles : ℕ → ℕ → Env → Act
settles moment birth = both (settles_will moment birth) (λ env. settles_end moment birth)

settle_act : (moment birth : ℕ) (env : Env) (b : Broker) → moment ≡ moment_of b → settles moment birth env b ≡ settle env birth b
settle_act moment birth env b is =
    ap (λ ds. settles_will moment birth env b ++ ds) (alone (settles_end moment birth) (after_all (settles_will moment birth env b) b))
    ∙ ap (λ m. series (settles_will m birth env ∷ settles_end m birth ∷ []) b) is

-- its Will and its end: that is what is due of a session
pub settled : (moment birth : ℕ) (s s1 s2 : Stepping) → moment ≡ moment_of s.broker → DoesSome (settles_will moment birth) s s1 → Did (settles_end moment birth) s1 s2 → DoesSome (λ env. settle env birth) s s2
settled moment birth s s1 s2 is will end =
    same_some (settles moment birth) (λ env. settle env birth) s s2 (λ choice. settle_act moment birth (env_in choice s) s.broker is)
    (some_then (settles_will moment birth) (λ env. settles_end moment birth) s s1 s2 will (λ choice. end))

-- so it is if nobody has to be chosen
pub settled_quiet : (moment birth : ℕ) (s s1 s2 : Stepping) → moment ≡ moment_of s.broker → Does (settles_will moment birth) s s1 → Did (settles_end moment birth) s1 s2 → Does (λ env. settle env birth) s s2
settled_quiet moment birth s s1 s2 is will end =
    same_does (settles moment birth) (λ env. settle env birth) s s2 (λ choice. settle_act moment birth (env_in choice s) s.broker is)
    (does_then (settles_will moment birth) (λ env. settles_end moment birth) s s1 s2 will (λ choice. end))

-- what is due may be refused at the Will
pub settle_left_first : (moment birth : ℕ) (fault : StepFault) (s new : Stepping) → moment ≡ moment_of s.broker → LeavesSome (settles_will moment birth) fault s new → LeavesSome (λ env. settle env birth) fault s new
settle_left_first moment birth fault s new is will =
    same_some_left (settles moment birth) (λ env. settle env birth) fault s new (λ choice. settle_act moment birth (env_in choice s) s.broker is)
    (some_left_first (settles_will moment birth) (λ env. settles_end moment birth) fault s new will)

-- so it is if nobody has to be chosen
pub settle_quiet_first : (moment birth : ℕ) (fault : StepFault) (s new : Stepping) → moment ≡ moment_of s.broker → Leaves (settles_will moment birth) fault s new → Leaves (λ env. settle env birth) fault s new
settle_quiet_first moment birth fault s new is will =
    same_leaves (settles moment birth) (λ env. settle env birth) fault s new (λ choice. settle_act moment birth (env_in choice s) s.broker is)
    (leaves_first (settles_will moment birth) (λ env. settles_end moment birth) fault s new will)

-- or at the end
pub settle_left_then : (moment birth : ℕ) (fault : StepFault) (s s1 new : Stepping) → moment ≡ moment_of s.broker → DoesSome (settles_will moment birth) s s1
    → IsLeft (settles_end moment birth) fault s1 new → LeavesSome (λ env. settle env birth) fault s new
settle_left_then moment birth fault s s1 new is will end =
    same_some_left (settles moment birth) (λ env. settle env birth) fault s new (λ choice. settle_act moment birth (env_in choice s) s.broker is)
    (some_left_then (settles_will moment birth) (λ env. settles_end moment birth) fault s s1 new will (λ choice. end))

-- so it is if nobody has to be chosen
pub settle_quiet_then : (moment birth : ℕ) (fault : StepFault) (s s1 new : Stepping) → moment ≡ moment_of s.broker → Does (settles_will moment birth) s s1
    → IsLeft (settles_end moment birth) fault s1 new → Leaves (λ env. settle env birth) fault s new
settle_quiet_then moment birth fault s s1 new is will end =
    same_leaves (settles moment birth) (λ env. settle env birth) fault s new (λ choice. settle_act moment birth (env_in choice s) s.broker is)
    (leaves_then (settles_will moment birth) (λ env. settles_end moment birth) fault s s1 new will (λ choice. end))
