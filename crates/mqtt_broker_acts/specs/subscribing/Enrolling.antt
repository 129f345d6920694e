-- A filter is granted its number, and the session has its subscription (MQTT 5.0, 3.8.4).
use Rattle.std.specs.Prelude.{[], ◌∷◌}
use Rattle.mqtt_records.specs.declared.state.session.Session.{Session}
use Rattle.mqtt_rules.specs.step.Deeds.{Act, Count, At, Subscribe, whose}
use Rattle.mqtt_rules.specs.step.Subscribe.{Wish, next_number, subscription}

abbrev pub enrolls : Session → Wish → Act
enrolls s w b = Count (next_number b.records) ∷ At (whose s) (Subscribe (subscription (next_number b.records) s w)) ∷ []
