use Rattle.std.proofs.Common.{◌≡◌, map, length}
use Rattle.sqlite.specs.Held.{state}
use Rattle.sqlite.specs.State.{HasCleanDisk}
use Rattle.mqtt_records.specs.declared.state.change.Change.TheVariants.{PutCopy}
use Rattle.mqtt_store_tables.specs.forms.Settled.{StaysInside}
use Rattle.mqtt_store_tables.specs.declared.schema.tables.Making.{Making}
use Rattle.mqtt_store_tables.specs.statements.Content.{IsWhole}
use Rattle.mqtt_store_tables.specs.statements.Layout.{second_layout}
use Rattle.mqtt_store_database.proofs.taking_over_lemmas.Making.{Leads}
use Rattle.mqtt_store_database.proofs.taking_over.filling.put_queue.Given as goal

abbrev pub invariant-loop-row : goal.invariant-loop-row
invariant-loop-row g l =
    let old = state g.S.Store l.fn.tx.conn.now in
    let now = state g.S.Store l.tx.conn.now in
    record {
      same : l.tx.conn.ghost_name ≡ l.fn.tx.conn.ghost_name;
      inside : StaysInside old now;
      put : (making : Making) → HasCleanDisk now → IsWhole (second_layout making) old → Leads making (map (PutCopy l.birth) l.queue) (map (PutCopy l.birth) l.rest) old.now.trees now.now.trees × IsWhole (second_layout making) now;
    }

abbrev pub decreases-loop-row : goal.decreases-loop-row
decreases-loop-row g l = length l.rest
