use Rattle.std.proofs.Common.{◌≡◌, IsTrue}
use Rattle.sqlite.specs.Held.{state}
use Rattle.sqlite.specs.State.{HasCleanDisk}
use Rattle.mqtt_store_tables.specs.forms.Settled.{StaysInside}
use Rattle.mqtt_store_tables.specs.schema.Tables.{base_of}
use Rattle.mqtt_store_tables.specs.schema.Creation.{HasAdded}
use Rattle.mqtt_store_tables.specs.declared.schema.tables.Making.{Making}
use Rattle.mqtt_store_tables.proofs.schema.creation.add_tables.Given as goal

abbrev pub invariant-loop-at : goal.invariant-loop-at
invariant-loop-at g l =
    (l.tx.conn.ghost_name ≡ l.initial.tx.conn.ghost_name)
    × (HasCleanDisk (state g.S.Store l.tx.conn.now) → (making : Making) → (state g.S.Store l.initial.tx.conn.now).now.schema ≡ base_of making → IsTrue (state g.S.Store l.initial.tx.conn.now).in_transaction
    → HasAdded making l.at (state g.S.Store l.initial.tx.conn.now).now.trees (state g.S.Store l.tx.conn.now))
    × StaysInside (state g.S.Store l.initial.tx.conn.now) (state g.S.Store l.tx.conn.now)
