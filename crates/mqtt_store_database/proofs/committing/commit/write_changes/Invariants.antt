use Rattle.std.proofs.Common.{◌≡◌, length}
use Rattle.sqlite.specs.State.{HasCleanDisk}
use Rattle.sqlite.specs.Held.{state}
use Rattle.mqtt_store_tables.specs.forms.Settled.{StaysInside}
use Rattle.mqtt_store_tables.specs.declared.schema.tables.Making.{Making}
use Rattle.mqtt_store_tables.specs.statements.Layout.{second_layout}
use Rattle.mqtt_store_tables.specs.statements.Content.{IsWhole}
use Rattle.mqtt_store_tables.specs.messages.Messages.{StandsIf}
use Rattle.mqtt_store_database.specs.written.Shortened.{KnowsEnd, shortened}
use Rattle.mqtt_store_database.proofs.written_lemmas.Leads.{Leads}
use Rattle.mqtt_store_database.specs.committing.Making.{Makes, Needs, NeedAll}
use Rattle.mqtt_store_database.proofs.committing.commit.write_changes.Given as goal

abbrev pub invariant-loop-change : goal.invariant-loop-change
invariant-loop-change g l =
    let old = state g.S.Store l.fn.tx.conn.now in
    let now = state g.S.Store l.tx.conn.now in
    record {
      same : l.tx.conn.ghost_name ≡ l.fn.tx.conn.ghost_name;
      inside : StaysInside old now;
      whole : (making : Making) → HasCleanDisk now → IsWhole (second_layout making) old → IsWhole (second_layout making) now;
      left : (making : Making) → HasCleanDisk now → IsWhole (second_layout making) old → NeedAll making (shortened l.changes) old.now.trees → Leads (Needs making) (Makes making) l.changes l.rest old.now.trees now.now.trees;
      stands : (making : Making) → HasCleanDisk now → IsWhole (second_layout making) old → StandsIf making l.stands now.now.trees;
      knows : KnowsEnd l.known l.rest;
    }

abbrev pub decreases-loop-change : goal.decreases-loop-change
decreases-loop-change g l = length l.rest
