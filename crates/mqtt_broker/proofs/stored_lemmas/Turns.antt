-- Pumps of alike brokers take the same turns.
use Rattle.std.proofs.Common.{◌≡◌, ℕ, List, Option, Some, None, refl}
use Rattle.mqtt_records.specs.declared.state.session.Session.{Session}
use Rattle.mqtt_rules.specs.step.State.{Line, Broker, line_at, session_at}
use Rattle.mqtt_rules.specs.alike.Alike.{AlikeBrokers, AlikeSessions, Each, with_sessions}
use Rattle.mqtt_rules.proofs.alike_lemmas.Pairs.{Both}
use Rattle.mqtt_rules.proofs.alike_lemmas.States.{broker_put, by_broker, like, session_found}
use Rattle.mqtt_rules.proofs.alike_lemmas.Steps.{turns_same}
use Rattle.mqtt_rules.specs.filling.Pumped.{birth_on, session_of_birth, turns_on_line}
use Rattle.mqtt_broker_queue.specs.queues.Turning.{line_turns}

of_session : (l : Line) (b c : Broker) → AlikeBrokers b c → (o p : Option Session) → Both AlikeSessions o p → turns_on_line (Some l) b o ≡ turns_on_line (Some l) c p
of_session l b c h None None a = refl
of_session l b c h None (Some t) a = absurd a
of_session l b c h (Some s) None a = absurd a
of_session l b c h (Some s) (Some t) a = turns_same l b c s t h a

of_line : (o : Option Line) (b : Broker) (ss : List Session) → Each AlikeSessions b.records.sessions ss
    → turns_on_line o b (session_of_birth (birth_on o) b.records) ≡ turns_on_line o (like ss b) (session_of_birth (birth_on o) (with_sessions ss b.records))
of_line None b ss h = refl
of_line (Some l) b ss h = by l.session
  where
    by : (birth : Option ℕ) → turns_on_line (Some l) b (session_of_birth birth b.records) ≡ turns_on_line (Some l) (like ss b) (session_of_birth birth (with_sessions ss b.records))
    by None = refl
    by (Some birth) = of_session l b (like ss b) (broker_put b ss h) (session_at birth b.records) (session_at birth (with_sessions ss b.records)) (session_found birth b.records ss h)

-- what a pump on a line takes doesn't depend on what waiting copies say
pub turns_alike : (line : ℕ) (b c : Broker) → AlikeBrokers b c → line_turns line b ≡ line_turns line c
turns_alike line b c h = by_broker (λ (x : Broker). line_turns line b ≡ line_turns line x) b (λ ss alike. of_line (line_at line b) b ss alike) c h
