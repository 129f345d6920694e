use Rattle.std.proofs.Common.{◌≡◌, take}
use Rattle.sqlite.specs.State.{HasCleanDisk}
use Rattle.sqlite.specs.Held.{state}
use Rattle.mqtt_store_tables.specs.forms.Settled.{StaysInside}
use Rattle.mqtt_store_tables.specs.declared.schema.tables.Making.{Making}
use Rattle.mqtt_store_tables.specs.statements.Layout.{second_layout}
use Rattle.mqtt_store_tables.specs.statements.Content.{IsWhole}
use Rattle.mqtt_store_tables.specs.messages.Letting.{SweepsAll}
use Rattle.mqtt_store_tables.proofs.messages.sweeps.sweep_all.Given as goal

abbrev pub invariant-loop-publication : goal.invariant-loop-publication
invariant-loop-publication g l =
    let old = state g.S.Store l.fn.tx.conn.now in
    let now = state g.S.Store l.tx.conn.now in
    record {
      same : l.tx.conn.ghost_name ≡ l.fn.tx.conn.ghost_name;
      inside : StaysInside old now;
      swept : (making : Making) → HasCleanDisk now → IsWhole (second_layout making) old → SweepsAll making (take l.publication-index l.numbers) old.now.trees now.now.trees × IsWhole (second_layout making) now;
    }
