use Rattle.std.proofs.Common.{pos, option_to_list}
use Rattle.sqlite.specs.Held.{state}
use Rattle.mqtt_store_tables.specs.statements.Content.{is_of}
use Rattle.mqtt_store_tables.specs.messages.Places.{kept_tree}
use Rattle.mqtt_store_tables.specs.messages.Comings.{RemovesKept}
use Rattle.mqtt_store_tables.specs.messages.Letting.{SweepsAll}
use Rattle.mqtt_store_tables.specs.messages.References.{Finds}
use Rattle.mqtt_store_tables.proofs.messages_lemmas.Changed.{retained_is_removed, in_turn}
use Rattle.mqtt_store_tables.proofs.messages.referring.remove_retained.Goals as goal

pub returns-clause-removed : goal.returns-clause-removed
returns-clause-removed g c making clean whole =
    let old = state g.S.Store c.args.tx.now.conn.now in
    let seen = state g.S.Store c.pub_of_kept.new.tx.conn.now in
    let mid = state g.S.Store c.remove_kept.new.tx.conn.now in
    let new = state g.S.Store c.sweep_found.new.tx.conn.now in
    let found = c.in_ok-found.found in
    in_turn making old seen mid new c.sweep_found.result (Finds (kept_tree making) 4 (is_of 0 (pos c.args.place)) found old.now.trees) (RemovesKept making c.args.place) (SweepsAll making (option_to_list found) mid.now.trees new.now.trees)
    c.remove_kept.ensures.inside c.sweep_found.ensures.inside clean whole (c.in_ok-found.ensures.found making) (c.in_ok-remove_kept.ensures.removed making) (c.sweep_found.ensures.swept making)
    (λ same left. retained_is_removed making old seen mid new.now.trees whole same left c.args.place found)
