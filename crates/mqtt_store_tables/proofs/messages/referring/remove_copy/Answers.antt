use Rattle.std.proofs.Common.{pos, option_to_list}
use Rattle.sqlite.specs.Held.{state}
use Rattle.mqtt_store_tables.specs.statements.Removal.{is_keyed}
use Rattle.mqtt_store_tables.specs.messages.Places.{queued_tree}
use Rattle.mqtt_store_tables.specs.messages.Comings.{RemovesQueued}
use Rattle.mqtt_store_tables.specs.messages.Letting.{SweepsAll}
use Rattle.mqtt_store_tables.specs.messages.References.{Finds}
use Rattle.mqtt_store_tables.proofs.messages_lemmas.Changed.{copy_is_removed, in_turn}
use Rattle.mqtt_store_tables.proofs.messages.referring.remove_copy.Goals as goal

pub returns-clause-removed : goal.returns-clause-removed
returns-clause-removed g c making clean whole =
    let old = state g.S.Store c.args.tx.now.conn.now in
    let seen = state g.S.Store c.pub_of_queued.new.tx.conn.now in
    let mid = state g.S.Store c.remove_queued.new.tx.conn.now in
    let new = state g.S.Store c.sweep_found.new.tx.conn.now in
    let found = c.in_ok-found.found in
    in_turn making old seen mid new c.sweep_found.result (Finds (queued_tree making) 3 (is_keyed (pos c.args.birth) (pos c.args.place)) found old.now.trees) (RemovesQueued making c.args.birth c.args.place) (SweepsAll making (option_to_list found) mid.now.trees new.now.trees)
    c.remove_queued.ensures.inside c.sweep_found.ensures.inside clean whole (c.in_ok-found.ensures.found making) (c.in_ok-remove_queued.ensures.removed making) (c.sweep_found.ensures.swept making)
    (λ same left. copy_is_removed making old seen mid new.now.trees whole same left c.args.birth c.args.place found)
