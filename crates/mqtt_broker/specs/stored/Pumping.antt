-- Rows that say what is stored, at those places that a pump sends (MQTT 5.0, 3.3, 4.6).
use Rattle.std.specs.Prelude.{ℕ, List}
use Rattle.std.specs.List.{AllByRecursion}
use Rattle.mqtt_records.specs.messages.Filling.{Fillings}
use Rattle.mqtt_records.specs.declared.state.records.Records.{Records}
use Rattle.mqtt_rules.specs.step.State.{session_at}
use Rattle.mqtt_rules.specs.filling.Pumped.{IsFilledAt}

-- the row at each of these places of a session's queue says what there is for its place, where one stands
abbrev pub AreFilledAt : Fillings → ℕ → List ℕ → Records → Type 0
AreFilledAt fillings birth places r = AllByRecursion (IsFilledAt fillings (session_at birth r)) places
