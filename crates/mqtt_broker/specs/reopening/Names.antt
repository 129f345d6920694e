-- Client identifiers of sessions (MQTT 5.0, 3.1.3.1).
use Rattle.std.specs.Prelude.{◌≤◌, length}
use Rattle.std.specs.List.{AllByRecursion}
use Rattle.mqtt_base.specs.declared.limits.TheConstants.{CLIENT_LIMIT, LAST_NUMBER}
use Rattle.mqtt_keep.specs.lawful.Lawful.{IsAssigned}
use Rattle.mqtt_records.specs.declared.state.records.Records.{Records}

-- what follows the front of those that the broker assigns is a number that it has given; and while none is spent, none
-- is longer than the limit
pub record AreNamed (r : Records) : Type 0 where
  pub assigned : AllByRecursion (λ s. IsAssigned r.autos s.client) r.sessions
  pub short : r.autos ≤ LAST_NUMBER → AllByRecursion (λ s. length s.client ≤ CLIENT_LIMIT) r.sessions
