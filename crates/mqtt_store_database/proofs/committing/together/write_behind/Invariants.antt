-- The changes in front of what is left put further copies.
use Rattle.std.proofs.Common.{◌≡◌, ◌≤◌, length}
use Rattle.sqlite.specs.State.{HasCleanDisk}
use Rattle.sqlite.specs.Held.{state}
use Rattle.mqtt_store_tables.specs.forms.Settled.{StaysInside}
use Rattle.mqtt_store_tables.specs.declared.schema.tables.Making.{Making}
use Rattle.mqtt_store_tables.specs.statements.Layout.{second_layout}
use Rattle.mqtt_store_tables.specs.statements.Content.{IsWhole}
use Rattle.mqtt_store_database.specs.committing.Together.{PutsFront}
use Rattle.mqtt_store_database.proofs.committing.together.write_behind.Given as goal

abbrev pub invariant-loop-one : goal.invariant-loop-one
invariant-loop-one g l =
    let old = state g.S.Store l.fn.tx.conn.now in
    let now = state g.S.Store l.tx.conn.now in
    record {
      same : l.tx.conn.ghost_name ≡ l.fn.tx.conn.ghost_name;
      inside : StaysInside old now;
      put : (making : Making) → HasCleanDisk now → IsWhole (second_layout making) old → PutsFront making l.known l.changes l.rest old.now.trees now.now.trees × IsWhole (second_layout making) now;
      fewer : length l.rest ≤ length l.changes;
    }

abbrev pub decreases-loop-one : goal.decreases-loop-one
decreases-loop-one g l = length l.rest
