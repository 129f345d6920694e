-- A session's end, copy by copy (MQTT 5.0, 4.1).
use Rattle.std.specs.Prelude.{ℕ, List, [], ◌∷◌, Option, Some, None}
use Rattle.mqtt_base.specs.declared.session.Ending.TheVariants.{SessionEnded}
use Rattle.mqtt_records.specs.messages.Queue.{CopyRow}
use Rattle.mqtt_records.specs.declared.state.session.Session.{Session}
use Rattle.mqtt_records.specs.declared.state.records.Records.{Records}
use Rattle.mqtt_rules.specs.step.Closing.{end_session}
use Rattle.mqtt_rules.specs.step.Deeds.{Act, Deed, At, Leave, Finish, whose, always, of_session}
use Rattle.mqtt_rules.specs.step.State.{session_at}

-- the session with a birth ends, if it stands
abbrev pub ends : ℕ → Act
ends birth = of_session birth (λ s. always (end_session s))

abbrev pub first_ends : Session → List CopyRow → List Deed
first_ends s [] = []
first_ends s (e ∷ es) = At (whose s) (Leave e SessionEnded) ∷ []

-- the first of its copies ends, if it has any
abbrev pub ends_first : ℕ → Act
ends_first birth = of_session birth (λ s. always (first_ends s s.queue))

-- all that it has is gone, if it stands
abbrev pub finishes : ℕ → Act
finishes birth = of_session birth (λ s. always (Finish (whose s) ∷ []))

abbrev pub queue_of : Option Session → List CopyRow
queue_of None = []
queue_of (Some s) = s.queue

-- its queue, if it stands
abbrev pub queue_at : ℕ → Records → List CopyRow
queue_at birth r = queue_of (session_at birth r)
