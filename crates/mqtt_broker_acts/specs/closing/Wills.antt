-- A session's Will, and what is published of it (MQTT 5.0, 3.1.2.5).
use Rattle.std.specs.Prelude.{◌≡◌, ◌⊎◌, ℕ, Option, Some, None, option_map}
use Rattle.mqtt_records.specs.declared.messages.message.Will.{Will}
use Rattle.mqtt_records.specs.declared.state.session.Session.{Session}
use Rattle.mqtt_records.specs.declared.state.records.Records.{Records}
use Rattle.mqtt_rules.specs.step.Closing.{will_message, publish_or_refuse, publish_will}
use Rattle.mqtt_rules.specs.step.Deeds.{Act, Whose, Message, of_session}
use Rattle.mqtt_rules.specs.step.Routing.{accepted_copies}
use Rattle.mqtt_rules.specs.step.State.{Env, session_at}
use Rattle.mqtt_broker_step.specs.Stepping.{Stepping, Does}

abbrev pub will_of : Option Session → Option Will
will_of None = None
will_of (Some s) = s.will

-- the Will of the session with a birth, if it stands and has one
abbrev pub will_at : ℕ → Records → Option Will
will_at birth r = will_of (session_at birth r)

abbrev pub message_of : Option Session → Option Message
message_of None = None
message_of (Some s) = option_map (will_message s.client) s.will

-- the message of its Will
abbrev pub message_at : ℕ → Records → Option Message
message_at birth r = message_of (session_at birth r)

-- a Will's message goes where it is routed to, or is refused
abbrev pub publishes : Whose → Message → Env → Act
publishes who m env b = publish_or_refuse env who m (accepted_copies env m b) b

-- the Will of the session with a birth is published, if it stands and has one
abbrev pub publishes_will : ℕ → Env → Act
publishes_will birth env = of_session birth (publish_will env)

-- the session has no Will any more, or nothing was chosen: of acts one after the other at most one chooses
abbrev pub ChoosesOnce : ℕ → (Env → Act) → Stepping → Stepping → Type 0
ChoosesOnce birth act old new = (will_at birth new.broker.records ≡ None) ⊎ Does act old new
