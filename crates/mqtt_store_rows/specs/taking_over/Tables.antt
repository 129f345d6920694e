-- The rows that the tables have, as lists.
use Rattle.mqtt_store_rows.specs.values.Gives.{Parts}
use Rattle.mqtt_store_rows.specs.taking_over.Gives.{Rows}
use Rattle.mqtt_store_rows.specs.declared.taking_over.tables.Tables.{Tables}

abbrev pub parts_in : Tables → Parts
parts_in tables = record {
  wills = tables.wills.items;
  subscriptions = tables.subscriptions.items;
  inbound = tables.inbound.items;
  copies = tables.copies.items;
}

abbrev pub rows_in : Tables → Rows
rows_in tables = record {
  meta = tables.meta.items;
  sessions = tables.sessions.items;
  parts = parts_in tables;
  retained = tables.retained.items;
}
