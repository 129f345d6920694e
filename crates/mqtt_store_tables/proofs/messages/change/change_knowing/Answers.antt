use Rattle.std.proofs.Common.{◌≡◌, ℕ, Some, Option, ap, ◌∙◌, subst, rules}
use Rattle.sqlite.specs.Held.{state}
use Rattle.mqtt_store_tables.specs.messages.Rows.{QueuedColumns}
use Rattle.mqtt_store_tables.specs.messages.Messages.{StandsIf}
use Rattle.mqtt_store_tables.proofs.messages_lemmas.Done.{known_makes}
use Rattle.mqtt_store_tables.proofs.messages_lemmas.Known.{further_is_put}
use Rattle.mqtt_store_tables.proofs.messages.change.change_knowing.Goals as goal

pub returns-in-PutCopy-clause-made : goal.returns-in-PutCopy-clause-made
returns-in-PutCopy-clause-made g c making clean whole asks =
    let old = state g.S.Store c.args.tx.now.conn.now in
    let new = state g.S.Store c.put_behind.new.tx.conn.now in
    let it = c.in-PutCopy in
    let publication = ap (λ (m : QueuedColumns). m.publication) c.copy.view_is in
    let named : c.args.known ≡ Some c.copy.inside.publication = search rules in
    let stands = subst (λ (known : Option ℕ). StandsIf making known old.now.trees) (named ∙ ap Some publication) asks.0 in
    known_makes making _ _ _ _ c.put_behind.result c.in-PutCopy.is
    (λ none. further_is_put making it.birth it.place it.message it.copy old.now.trees new.now.trees c.put_behind.result stands (c.put_behind.ensures.put making clean whole).0) asks.1
