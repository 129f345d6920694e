use Rattle.std.proofs.Common.{◌≡◌, List}
use Rattle.sqlite_value.specs.Order.{Row}
use Rattle.sqlite.specs.State.{HasCleanDisk}
use Rattle.sqlite.specs.Held.{state}
use Rattle.mqtt_store_tables.specs.forms.Settled.{OnlyReads}
use Rattle.mqtt_store_database.proofs.reading_lemmas.Streaming.{HasGivenSince}
use Rattle.mqtt_store_database.proofs.reading.reading.read_into.Given as goal

abbrev pub invariant-rows : goal.invariant-rows
invariant-rows g l = record {
  same : l.rows.conn.ghost_name ≡ l.initial.rows.conn.ghost_name;
  reads : OnlyReads (state g.S.Store l.fn.conn) (state g.S.Store l.rows.conn.now);
  given : (given : List Row) × g.G.Gather.has_taken l.gather given × (HasCleanDisk (state g.S.Store l.rows.conn.now) → HasGivenSince g.S.Store l.fn.table l.fn.conn l.rows.conn.now given);
  on : g.G.Gather.goes_on l.fn.gather l.gather;
}
