-- Slim rows of records that were read (3.3, 4.1).
use Rattle.std.specs.Prelude.{◌≡◌, List}
use Rattle.sqlite_value.specs.Order.{Row}
use Rattle.mqtt_records.specs.declared.state.records.Records.{Records}
use Rattle.mqtt_records.specs.state.PassedOn.{StoresPassedOn}
use Rattle.mqtt_records.specs.state.Slim.{all_slim}
use Rattle.mqtt_keep.specs.lawful.Lawful.{IsLawful}
use Rattle.mqtt_store_rows.specs.rows.Gives.{Rows}

-- they are those of whole records of which this is so, and which a store may be opened with
pub record IsSlimOf (Has : Records → Type 0) (slim : Records) : Type 0 where
  pub whole : Records
  pub slim_is : slim ≡ all_slim whole
  pub has : Has whole
  pub lawful : IsLawful whole
  pub passed : StoresPassedOn whole

-- the rows of all tables, with these of `message` and of `queued`
abbrev pub with_read : List Row → List Row → Rows → Rows
with_read messages queued rows = record rows { messages = messages; queued = queued }
