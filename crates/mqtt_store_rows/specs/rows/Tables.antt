-- The rows that the tables of schema 2 have, as lists; those of `message` and `queued` are read one by one.
use Rattle.std.specs.Prelude.{[]}
use Rattle.mqtt_store_rows.specs.rows.Gives.{Rows}
use Rattle.mqtt_store_rows.specs.declared.rows.tables.Tables.{Tables}

abbrev pub rows_in : Tables → Rows
rows_in tables = record {
  meta = tables.meta.items;
  sessions = tables.sessions.items;
  wills = tables.wills.items;
  subscriptions = tables.subscriptions.items;
  inbound = tables.inbound.items;
  messages = [];
  queued = [];
  kept = tables.kept.items;
}
