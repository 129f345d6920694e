-- What the rows of steps and openings put can be said by a row.
use Rattle.std.proofs.Common.{ℕ, List, [], ◌∷◌, subst, arith}
use Rattle.mqtt_keep.specs.lawful.Lawful.{IsIdentifier}
use Rattle.mqtt_records.specs.declared.state.change.Change.{Change}
use Rattle.mqtt_records.specs.declared.state.change.Change.TheVariants.{PutWill, PutSubscription, PutCopy, PutRetained}
use Rattle.mqtt_records.specs.declared.state.records.Records.{Records}
use Rattle.mqtt_records.specs.state.Saying.{IsSayable, AllSayable}
use Rattle.mqtt_rules.specs.declared.step.Capacity.{Capacity}
use Rattle.mqtt_rules.specs.step.Contents.{Sizes, AreSizes, AreContentsOf, HasLawfulContentsOf, TakesLawful}
use Rattle.mqtt_rules.specs.step.State.{Broker, MemberChoice}
use Rattle.mqtt_rules.specs.step.Step.{Call, at_moment, deeds, opening_deeds, rows_written, unopened}
use Rattle.mqtt_rules.proofs.step_lemmas.contents.ContentRows.{RowBrings, RowsBring}
use Rattle.mqtt_rules.proofs.step_lemmas.contents.ContentLaw.{step_brings, opening_brings}
use Rattle.mqtt_rules.proofs.step_lemmas.contents.SpelledContents.{copy_spelled}

module _ (sizes : Sizes) (are : AreSizes sizes) where
  row_said : (change : Change) → RowBrings sizes change → IsSayable change
  row_said (PutWill birth will) q = q.fits
  row_said (PutSubscription birth sub) q = λ zero. let its = subst IsIdentifier zero q.identifier in let least = its.0 in absurd (omega (arith, least))
  row_said (PutCopy birth e) q = record { spelled = q.content.fits; sent = (copy_spelled sizes are e.copy q).properties }
  row_said (PutRetained kept) q = q.fits
  row_said change q = tt

  rows_said : (changes : List Change) → RowsBring sizes changes → AllSayable changes
  rows_said [] q = tt
  rows_said (change ∷ changes) q = (row_said change q.0, rows_said changes q.1)

  -- a row of a table can say what the rows of a step with a lawful packet put
  pub step_said : (limits : Capacity) (choice : MemberChoice) (now : ℕ) (call : Call) (b : Broker) → TakesLawful call → AreContentsOf sizes b
      → AllSayable (rows_written (deeds limits choice now call b) (at_moment now b))
  step_said limits choice now call b taken h =
      rows_said (rows_written (deeds limits choice now call b) (at_moment now b)) (step_brings sizes are limits choice now call b taken h)

  -- a row of a table can say what the rows of an opening put
  pub opening_said : (limits : Capacity) (choice : MemberChoice) (now : ℕ) (r : Records) → HasLawfulContentsOf sizes r
      → AllSayable (rows_written (opening_deeds limits choice now r) (unopened now r))
  opening_said limits choice now r h =
      rows_said (rows_written (opening_deeds limits choice now r) (unopened now r)) (opening_brings sizes are limits choice now r h)
