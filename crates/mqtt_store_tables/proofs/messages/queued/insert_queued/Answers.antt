use Rattle.std.proofs.Common.{◌≡◌, ℕ, Err, Result, ap, subst, rules}
use Rattle.sqlite_schema.specs.declared.schema.Constraint.TheVariants.{Unique}
use Rattle.sqlite.specs.declared.error.Error.{Error}
use Rattle.sqlite.specs.declared.error.Error.TheVariants.{SqliteFailure}
use Rattle.sqlite.specs.declared.error.ErrorCode.TheVariants.{ConstraintViolation}
use Rattle.sqlite.specs.Effect.{Database}
use Rattle.sqlite.specs.State.{ExecutesInside}
use Rattle.sqlite.specs.Held.{state}
use Rattle.mqtt_store_tables.specs.statements.Layout.{second_layout}
use Rattle.mqtt_store_tables.specs.messages.Rows.{queued_row}
use Rattle.mqtt_store_tables.proofs.messages_lemmas.InsertQueued.{insert_text, inserts}
use Rattle.mqtt_store_tables.proofs.messages_lemmas.Reading.{whole_same}
use Rattle.mqtt_store_tables.proofs.messages_lemmas.Refused.{refused_unchanged}
use Rattle.mqtt_store_tables.proofs.messages.queued.insert_queued.Goals as goal

pub returns-in-Ok-clause-put : goal.returns-in-Ok-clause-put
returns-in-Ok-clause-put g c making clean whole =
    inserts making c.args.birth c.args.place c.args.copy.now (state g.S.Store c.args.tx.now.conn.now) (state g.S.Store c.run_on_columns-inserted.new.tx.conn.now) c.in-Ok.field-0 whole (c.in-Ok.ensures.runs clean whole.inside)

pub returns-in-Err-SqliteFailure-ConstraintViolation-Unique-clause-put : goal.returns-in-Err-SqliteFailure-ConstraintViolation-Unique-clause-put
returns-in-Err-SqliteFailure-ConstraintViolation-Unique-clause-put g c making clean whole =
    let old = state g.S.Store c.args.tx.now.conn.now in
    let new = state g.S.Store c.run_on_columns-inserted.new.tx.conn.now in
    let row = queued_row c.args.birth c.args.place c.args.copy.now in
    let refused : c.run_on_columns-inserted.result ≡ Err (SqliteFailure (ConstraintViolation Unique)) = search rules in
    let same = refused_unchanged old new Unique insert_text row (subst (λ (r : Result ℕ Error). ExecutesInside 0 insert_text row old new r) refused (c.run_on_columns-inserted.ensures.runs clean whole.inside)) in
    (ap (λ (d : Database). d.trees) same.0.now_is, whole_same (second_layout making) old new same whole)
