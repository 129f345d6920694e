-- A copy enters a queue that makes way for it (MQTT 5.0, 4.6, ours).
use Rattle.std.specs.Prelude.{◌≡◌, ℕ, ◌<◌, Bool, ◌&&◌, nat_lt, [], flat_map, Option, Some, None}
use Rattle.mqtt_flow.specs.outbound.Outbound.{is_waiting, staying, way_made}
use Rattle.mqtt_records.specs.messages.Queue.{CopyRow}
use Rattle.mqtt_records.specs.declared.state.records.Records.{Records}
use Rattle.mqtt_records.specs.declared.state.session.Session.{Session}
use Rattle.mqtt_rules.specs.step.Deeds.{Act, always, of_session}
use Rattle.mqtt_rules.specs.step.Laws.{HasEntered}
use Rattle.mqtt_rules.specs.step.Outbound.{leave_deeds, queue_limits, room, since}
use Rattle.mqtt_rules.specs.step.State.{Env, MemberChoice, queue_on, session_at}
use Rattle.mqtt_broker_step.specs.Stepping.{Stepping, env_in}
use Rattle.mqtt_broker_queue.specs.declared.queues.entering.Began.{Began}

-- these records have the numbers that the step began with
pub record IsBegun (began : Began) (start : Records) : Type 0 where
  pub publications : start.publications ≡ began.publications
  pub subscribes : start.subscribes ≡ began.subscribes

-- the oldest copies that wait leave a full queue
abbrev pub makes_way : Env → ℕ → Act
makes_way env birth =
    of_session birth (λ s. always (flat_map (leave_deeds s) (way_made (queue_limits env) (since env s) (queue_on [] s))))

-- the queue of a session that stands has room for a copy, those that make way not counted
abbrev pub HasRoomAt : ℕ → Stepping → Type 0
HasRoomAt birth s =
    (choice : MemberChoice) (x : Session) → session_at birth s.broker.records ≡ Some x → 0 < room (env_in choice s) x

-- a copy entered the queue of a session that stands
abbrev pub HasEnteredAt : ℕ → Stepping → Stepping → Type 0
HasEnteredAt birth old new = (choice : MemberChoice) (x : Session) → session_at birth old.broker.records ≡ Some x
    → HasEntered (env_in choice old) x old.broker.records new.broker.records

-- a queued copy gives way to those that a step makes, the first of which has a place, or is the next to enter
abbrev pub gives_way_to : Option ℕ → CopyRow → Bool
gives_way_to None e = is_waiting e.phase
gives_way_to (Some first) e = is_waiting e.phase && nat_lt e.place first

-- how many copies of a session a further one leaves standing in any case
abbrev pub staying_of : Stepping → Session → ℕ
staying_of s x = staying s.limits.full (since (env_in (λ number sender. []) s) x) (queue_on [] x)
