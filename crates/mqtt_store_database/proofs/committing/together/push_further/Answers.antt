use Rattle.std.proofs.Common.{◌≡◌, ◌++◌, ℕ, Some, IfOk, IsTrue, subst, rules}
use Rattle.sqlite.specs.Values.{bound}
use Rattle.mqtt_store_tables.specs.messages.Rows.{QueuedColumns, queued_row}
use Rattle.mqtt_store_database.specs.row_laws.Items.{queued_columns}
use Rattle.mqtt_store_database.proofs.committing_lemmas.Further.{further_added}
use Rattle.mqtt_store_database.proofs.committing.together.push_further.Goals as goal

pub returns : goal.returns
returns c =
    let row = c.in-PutCopy.row in
    let birth = c.in-PutCopy.birth in
    let old = bound c.args.out.now.items in
    let new = bound c.push_copy.new.out.items in
    let copy : c.in-Some.copy ≡ row.copy = search rules in
    let known : c.args.known ≡ Some c.in-Some.copy.id.publication = search rules in
    let named : c.args.known ≡ Some row.copy.id.publication = rw copy at known in
    let place : c.place.result ≡ row.place = search rules in
    let columns : c.queued_columns.result ≡ queued_columns row = search rules in
    further_added c.args.known c.args.change.now birth row c.push_copy.result old new c.in-PutCopy.is named
    (subst (λ (q : QueuedColumns). IfOk c.push_copy.result (λ done. IsTrue done → new ≡ old ++ queued_row birth row.place q)) columns
    (subst (λ (p : ℕ). IfOk c.push_copy.result (λ done. IsTrue done → new ≡ old ++ queued_row birth p c.queued_columns.result)) place c.push_copy.ensures.added))
