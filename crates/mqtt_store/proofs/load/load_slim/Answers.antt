use Rattle.sqlite.specs.Held.{state}
use Rattle.sqlite.specs.State.{HasCleanDisk}
use Rattle.mqtt_store.proofs.Held.{load_holds, load_leaves}
use Rattle.mqtt_store.proofs.Loads.{clean_old, read, loaded, refused}
use Rattle.mqtt_store.proofs.load.load_slim.Goals as goal

pub returns-clause-read : goal.returns-clause-read
returns-clause-read g c =
    let new = c.load_from.new.conn in
    let e = c.load_from.ensures in
    read (state g.S.Store c.args.conn.now) (state g.S.Store new) e.loads (λ up db. g.met.S.Store.settled new.store db up) c.load_from.result e.read

pub returns-clause-loaded : goal.returns-clause-loaded
returns-clause-loaded g c =
    let e = c.load_from.ensures in
    loaded (state g.S.Store c.args.conn.now) (state g.S.Store c.load_from.new.conn) e.loads c.load_from.result e.read

pub returns-clause-same : goal.returns-clause-same
returns-clause-same g c = λ r. load_holds (state g.S.Store c.args.conn.now) (state g.S.Store c.load_from.new.conn) r c.load_from.ensures.loads

pub returns-clause-crash : goal.returns-clause-crash
returns-clause-crash g c = λ r. load_leaves (state g.S.Store c.args.conn.now) (state g.S.Store c.load_from.new.conn) r c.load_from.ensures.loads

pub returns-clause-sound : goal.returns-clause-sound
returns-clause-sound g c = clean_old (state g.S.Store c.args.conn.now) (state g.S.Store c.load_from.new.conn) c.load_from.ensures.loads

pub returns-clause-refused : goal.returns-clause-refused
returns-clause-refused g c = refused g.S.Store c.args.conn.now (HasCleanDisk (state g.S.Store c.load_from.new.conn)) c.load_from.result c.load_from.ensures.refused
