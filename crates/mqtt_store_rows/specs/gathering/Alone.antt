-- Records with one session alone (4.1).
use Rattle.std.specs.Prelude.{[], ◌∷◌}
use Rattle.mqtt_records.specs.declared.state.records.Records.{Records}
use Rattle.mqtt_records.specs.declared.state.session.Session.{Session}
use Rattle.mqtt_keep.specs.declared.lawful.rows.Last.{Last}
use Rattle.mqtt_store_rows.specs.declared.values.meta.Counters.{Counters}

abbrev pub last_in : Counters → Last
last_in numbers = record { births = numbers.births; publications = numbers.publications; subscribes = numbers.subscribes; autos = numbers.autos; moment = numbers.moment }

-- nothing is retained
abbrev pub alone : Counters → Session → Records
alone numbers s = record {
  births = numbers.births;
  publications = numbers.publications;
  subscribes = numbers.subscribes;
  autos = numbers.autos;
  moment = numbers.moment;
  sessions = s ∷ [];
  retained = [];
}
