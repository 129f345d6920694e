-- Between two steps the rows of a database of schema 2 are in order.
use Rattle.sqlite.specs.State.{State}
use Rattle.mqtt_store_tables.specs.declared.schema.tables.Making.{Making}
use Rattle.mqtt_store_tables.specs.declared.schema.tables.Making.TheVariants.{New, TakenOver}
use Rattle.mqtt_store_database.specs.row_laws.Written.{AreInOrderTwo}
use Rattle.mqtt_store_database.specs.committing.Settled.{IsSettled}

-- those of messages, copies and retained messages stand behind the first five tables, or behind all seven of schema 1
pub in_order : (making : Making) (s : State) → IsSettled making s → AreInOrderTwo making s.now.trees
in_order New s h = record { meta = h.meta; session = h.session; will = h.will; sub = h.sub; inbound = h.inbound; message = h.behind.0; queued = h.behind.1.0; kept = h.behind.1.1.0 }
in_order TakenOver s h = record { meta = h.meta; session = h.session; will = h.will; sub = h.sub; inbound = h.inbound; message = h.behind.1.1.0; queued = h.behind.1.1.1.0; kept = h.behind.1.1.1.1.0 }
