use Rattle.std.proofs.Common.{pos, option_to_list}
use Rattle.sqlite.specs.Held.{state}
use Rattle.mqtt_store_tables.specs.statements.Removal.{is_keyed}
use Rattle.mqtt_store_tables.specs.messages.Places.{queued_tree}
use Rattle.mqtt_store_tables.specs.messages.Comings.{PutsQueued}
use Rattle.mqtt_store_tables.specs.messages.Letting.{SweepsAll}
use Rattle.mqtt_store_tables.specs.messages.References.{Finds}
use Rattle.mqtt_store_tables.proofs.messages_lemmas.Changed.{copy_is_put, in_turn}
use Rattle.mqtt_store_tables.proofs.messages.referring.replace_copy.Goals as goal

pub returns-clause-put : goal.returns-clause-put
returns-clause-put g c making clean whole =
    let old = state g.S.Store c.args.tx.now.conn.now in
    let seen = state g.S.Store c.pub_of_queued.new.tx.conn.now in
    let mid = state g.S.Store c.put_queued.new.tx.conn.now in
    let new = state g.S.Store c.sweep_found.new.tx.conn.now in
    let found = c.in_ok-found.found in
    let puts = PutsQueued making c.args.birth c.args.place c.args.copy.now in
    in_turn making old seen mid new c.sweep_found.result (Finds (queued_tree making) 3 (is_keyed (pos c.args.birth) (pos c.args.place)) found old.now.trees) puts (SweepsAll making (option_to_list found) mid.now.trees new.now.trees)
    c.put_queued.ensures.inside c.sweep_found.ensures.inside clean whole (c.in_ok-found.ensures.found making) (c.in_ok-put_queued.ensures.put making) (c.sweep_found.ensures.swept making)
    (λ same left. copy_is_put making old seen mid new.now.trees whole same left c.args.birth c.args.place c.args.copy.now found)
