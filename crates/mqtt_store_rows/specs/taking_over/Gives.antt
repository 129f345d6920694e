-- Which rows of the seven tables of schema 1 give which records (4.1).
use Rattle.std.specs.Prelude.{List}
use Rattle.sqlite_value.specs.Order.{Row}
use Rattle.mqtt_records.specs.declared.state.records.Records.{Records}
use Rattle.mqtt_store_rows.specs.values.Rows.{SaysNumbers}
use Rattle.mqtt_store_rows.specs.taking_over.Rows.{SaysRetained}
use Rattle.mqtt_store_rows.specs.values.Lists.{AreRows}
use Rattle.mqtt_store_rows.specs.values.Gives.{AreSessions, Parts, counters_of}

-- the rows of the tables: meta by name, session and will by birth, sub by birth and place, inbound by birth and
-- identifier, copy by birth and place, retained by place
pub record Rows : Type 0 where
  pub meta : List Row
  pub sessions : List Row
  pub parts : Parts
  pub retained : List Row

pub record Gives (rows : Rows) (r : Records) : Type 0 where
  pub numbers : SaysNumbers 1 (counters_of r) rows.meta
  pub sessions : AreSessions rows.sessions rows.parts r.sessions
  pub retained : AreRows SaysRetained rows.retained r.retained
