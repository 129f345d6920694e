use Rattle.std.proofs.Common.{◌≡◌}
use Rattle.sqlite.specs.Held.{state}
use Rattle.sqlite.specs.State.{HasCleanDisk}
use Rattle.mqtt_store_tables.specs.forms.Creation.{HasTables}
use Rattle.mqtt_store_tables.specs.forms.Settled.{StaysInside}
use Rattle.mqtt_store_tables.proofs.forms.making.make_tables.Given as goal

abbrev pub invariant-loop-at : goal.invariant-loop-at
invariant-loop-at g l =
    (l.tx.conn.ghost_name ≡ l.initial.tx.conn.ghost_name)
    × (HasCleanDisk (state g.S.Store l.tx.conn.now) → HasTables 0 (state g.S.Store l.initial.tx.conn.now) → HasTables l.at (state g.S.Store l.tx.conn.now))
    × StaysInside (state g.S.Store l.initial.tx.conn.now) (state g.S.Store l.tx.conn.now)
