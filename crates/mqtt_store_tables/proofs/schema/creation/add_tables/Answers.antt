use Rattle.std.proofs.Common.{arith, rules}
use Rattle.sqlite.specs.Held.{state}
use Rattle.sqlite.specs.State.{HasCleanDisk}
use Rattle.mqtt_store_tables.proofs.schema_lemmas.Adding.{next_added}
use Rattle.mqtt_store_tables.proofs.schema.creation.add_tables.Goals as goal

pub loop-at-preserved : goal.loop-at-preserved
loop-at-preserved g c =
    let mid = state g.S.Store c.loop-at.tx.conn.now in (
      search rules,
      (λ clean making schema inside.
          let tidy : HasCleanDisk mid = omega (arith, c.add.ensures.inside.survives.clean, clean) in
          let was = (state g.S.Store c.args.tx.now.conn.now).now.trees in
          next_added making c.added_at.result c.loop-at.at was mid (state g.S.Store c.add.new.tx.conn.now) c.added_at.ensures (c.in_ok-add.ensures.made clean making was) (c.loop-at.invariant.1 tidy making schema inside)),
      search rules,
    )
