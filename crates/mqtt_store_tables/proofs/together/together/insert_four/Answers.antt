use Rattle.std.proofs.Common.{◌≡◌, ℕ, Ok, Err, Result, ap, subst, rules}
use Rattle.sqlite_value.specs.Order.{Row}
use Rattle.sqlite_schema.specs.declared.schema.Constraint.TheVariants.{Unique}
use Rattle.sqlite.specs.declared.error.Error.{Error}
use Rattle.sqlite.specs.declared.error.Error.TheVariants.{SqliteFailure}
use Rattle.sqlite.specs.declared.error.ErrorCode.TheVariants.{ConstraintViolation}
use Rattle.sqlite.specs.Effect.{Database}
use Rattle.sqlite.specs.State.{ExecutesInside}
use Rattle.sqlite.specs.Held.{state}
use Rattle.sqlite.specs.Values.{bound}
use Rattle.mqtt_store_tables.specs.statements.Layout.{second_layout}
use Rattle.mqtt_store_tables.proofs.together_lemmas.InsertFour.{four_text, inserts_four}
use Rattle.mqtt_store_tables.proofs.messages_lemmas.Reading.{whole_same}
use Rattle.mqtt_store_tables.proofs.messages_lemmas.Refused.{refused_unchanged}
use Rattle.mqtt_store_tables.proofs.together.together.insert_four.Goals as goal

pub returns-in-Ok-clause-put : goal.returns-in-Ok-clause-put
returns-in-Ok-clause-put g c a b x d row making clean whole =
    let old = state g.S.Store c.args.tx.now.conn.now in
    let new = state g.S.Store c.run_on-inserted.new.tx.conn.now in
    inserts_four making a b x d old new c.in-Ok.field-0 whole (subst (λ (it : Row). ExecutesInside 0 four_text it old new (Ok c.in-Ok.field-0)) row (c.in-Ok.ensures.runs clean whole.inside))

pub returns-in-Err-SqliteFailure-ConstraintViolation-Unique-clause-put : goal.returns-in-Err-SqliteFailure-ConstraintViolation-Unique-clause-put
returns-in-Err-SqliteFailure-ConstraintViolation-Unique-clause-put g c a b x d row making clean whole =
    let old = state g.S.Store c.args.tx.now.conn.now in
    let new = state g.S.Store c.run_on-inserted.new.tx.conn.now in
    let all = bound c.args.columns.now in
    let refused : c.run_on-inserted.result ≡ Err (SqliteFailure (ConstraintViolation Unique)) = search rules in
    let same = refused_unchanged old new Unique four_text all (subst (λ (r : Result ℕ Error). ExecutesInside 0 four_text all old new r) refused (c.run_on-inserted.ensures.runs clean whole.inside)) in
    (ap (λ (d : Database). d.trees) same.0.now_is, whole_same (second_layout making) old new same whole)
