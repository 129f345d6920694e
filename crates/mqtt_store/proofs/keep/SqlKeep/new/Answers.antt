use Rattle.sqlite.specs.Held.{state}
use Rattle.mqtt_store.proofs.Opened.{opened_holds, opened_leaves}
use Rattle.mqtt_store.proofs.keep.SqlKeep.new.Goals as goal

pub invariant_of-result : goal.invariant_of-result
invariant_of-result g c = record { autocommit = c.in_ok-conn.ensures.autocommit; ordered = c.in_ok-conn.ensures.ordered }

pub returns-clause-same : goal.returns-clause-same
returns-clause-same g c =
    let old = c.args.conn in
    let new = c.in_ok-conn.conn in
    let e = c.in_ok-conn.ensures in
    opened_holds (state g.S.Store old) (state g.S.Store new) e.sound e.shows (λ up db. g.met.S.Store.settled new.store db up) (g.met.S.Store.stays old.store)

pub returns-clause-crash : goal.returns-clause-crash
returns-clause-crash g c =
    let old = c.args.conn in
    let new = c.in_ok-conn.conn in
    let e = c.in_ok-conn.ensures in
    opened_leaves (state g.S.Store old) (state g.S.Store new) e.sound e.shows (λ up db. g.met.S.Store.settled new.store db up) (g.met.S.Store.stays old.store)
