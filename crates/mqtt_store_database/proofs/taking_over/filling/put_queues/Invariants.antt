use Rattle.std.proofs.Common.{◌≡◌, flat_map, length}
use Rattle.sqlite.specs.Held.{state}
use Rattle.sqlite.specs.State.{HasCleanDisk}
use Rattle.mqtt_store_tables.specs.forms.Settled.{StaysInside}
use Rattle.mqtt_store_tables.specs.declared.schema.tables.Making.{Making}
use Rattle.mqtt_store_tables.specs.statements.Content.{IsWhole}
use Rattle.mqtt_store_tables.specs.statements.Layout.{second_layout}
use Rattle.mqtt_store_database.specs.taking_over.Puts.{queue_puts}
use Rattle.mqtt_store_database.proofs.taking_over_lemmas.Making.{Leads}
use Rattle.mqtt_store_database.proofs.taking_over.filling.put_queues.Given as goal

abbrev pub invariant-loop-session : goal.invariant-loop-session
invariant-loop-session g l =
    let old = state g.S.Store l.fn.tx.conn.now in
    let now = state g.S.Store l.tx.conn.now in
    record {
      same : l.tx.conn.ghost_name ≡ l.fn.tx.conn.ghost_name;
      inside : StaysInside old now;
      put : (making : Making) → HasCleanDisk now → IsWhole (second_layout making) old → Leads making (flat_map queue_puts l.sessions) (flat_map queue_puts l.rest) old.now.trees now.now.trees × IsWhole (second_layout making) now;
    }

abbrev pub decreases-loop-session : goal.decreases-loop-session
decreases-loop-session g l = length l.rest
