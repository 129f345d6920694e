use Rattle.std.proofs.Common.{Bool, subst}
use Rattle.std.proofs.lemmas.Result.{on_ok_weaker}
use Rattle.sqlite_trees.specs.Tree.{Trees}
use Rattle.sqlite.specs.Held.{state}
use Rattle.mqtt_store_tables.specs.messages.Comings.{PutsQueued, InsertsQueued}
use Rattle.mqtt_store_tables.specs.messages.Letting.{LetsGo}
use Rattle.mqtt_store_tables.proofs.messages_lemmas.Changed.{copy_is_inserted}
use Rattle.mqtt_store_tables.proofs.messages_lemmas.Inside.{clean_before}
use Rattle.mqtt_store_tables.proofs.messages.referring.put_behind.Goals as goal

pub returns-then-branch-clause-put : goal.returns-then-branch-clause-put
returns-then-branch-clause-put g c making clean whole =
    let old = state g.S.Store c.args.tx.now.conn.now in
    let new = state g.S.Store c.insert_queued.new.tx.conn.now in
    let copy = c.args.copy.now in
    let last = c.in_ok-insert_queued.ensures.put making clean whole in
    let inserted = subst (λ (done : Bool). InsertsQueued making c.args.birth c.args.place copy done old.now.trees new.now.trees) c.if-branch.true last.0 in
    (copy_is_inserted making old new c.args.birth c.args.place copy whole last.1 inserted, last.1)

pub returns-clause-put : goal.returns-clause-put
returns-clause-put g c making clean whole =
    let old = state g.S.Store c.args.tx.now.conn.now in
    let seen = state g.S.Store c.insert_queued.new.tx.conn.now in
    let new = state g.S.Store c.replace_copy.new.tx.conn.now in
    let copy = c.args.copy.now in
    let puts = PutsQueued making c.args.birth c.args.place copy in
    let refused = c.in_ok-insert_queued.ensures.put making (clean_before seen new c.replace_copy.ensures.inside clean) whole in
    let same = subst (λ (done : Bool). InsertsQueued making c.args.birth c.args.place copy done old.now.trees seen.now.trees) c.if-branch.false refused.0 in
    let last = c.replace_copy.ensures.put making clean refused.1 in
    (on_ok_weaker c.replace_copy.result (λ done. subst (λ (db : Trees). LetsGo making puts db new.now.trees) same done) last.0, last.1)
