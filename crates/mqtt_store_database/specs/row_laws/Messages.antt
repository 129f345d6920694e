-- What is said before a change of records or after it.
use Rattle.std.specs.Prelude.{◌⊎◌}
use Rattle.mqtt_records.specs.declared.state.records.Records.{Records}
use Rattle.mqtt_records.specs.state.Contents.{StoredMessage, IsMessageOf}

-- before a change or after it
abbrev pub EitherSays : Records → Records → StoredMessage → Type 0
EitherSays q r m = IsMessageOf q m ⊎ IsMessageOf r m
