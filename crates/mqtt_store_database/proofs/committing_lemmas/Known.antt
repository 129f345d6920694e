-- Which message is known to stand behind a change.
use Rattle.std.proofs.Common.{◌≡◌, Bool, true, false, List, sym, subst, true≢false}
use Rattle.sqlite_trees.specs.Tree.{Trees}
use Rattle.mqtt_records.specs.declared.state.change.Change.{Change}
use Rattle.mqtt_records.specs.declared.state.change.Change.TheVariants.{PutCopy}
use Rattle.mqtt_records.specs.state.Contents.{copy_message}
use Rattle.mqtt_store_tables.specs.declared.schema.tables.Making.{Making}
use Rattle.mqtt_store_tables.specs.statements.Content.{IsShapedAt}
use Rattle.mqtt_store_database.specs.written.Making.{MakesUnless, NeedsUnless}
use Rattle.mqtt_store_database.specs.written.Shortened.{goes_anyway}
use Rattle.mqtt_store_tables.specs.messages.Places.{message_tree}
use Rattle.mqtt_store_tables.specs.messages.Messages.{StandsIf}
use Rattle.mqtt_store_tables.specs.messages.Step.{Asks, Does}
use Rattle.mqtt_store_tables.specs.declared.messages.change.TableChange.{TableChange}
use Rattle.mqtt_store_tables.proofs.messages_lemmas.Known.{copy_has_message}
use Rattle.mqtt_store_database.specs.row_laws.Items.{message_columns, queued_columns}
use Rattle.mqtt_store_database.specs.committing.Making.{Makes, Needs, publication_in}

-- the message of a copy that was put stands; such a change is written, and asks nothing
pub stands_behind : (making : Making) (goes : Bool) (change : Change) (after : List Change) (mid new : Trees) → goes ≡ goes_anyway change after → IsShapedAt mid (message_tree making)
    → (NeedsUnless goes (Needs making change) mid → MakesUnless goes (Makes making change) mid new) → StandsIf making (publication_in change) new
stands_behind making true (PutCopy birth row) after mid new is shaped made = absurd (true≢false is)
stands_behind making false (PutCopy birth row) after mid new is shaped made =
    let done = made (λ it same. subst (λ (c : TableChange). Asks making c mid) (sym same) tt) in
    copy_has_message making birth row.place (message_columns (copy_message row)) (queued_columns row) mid new shaped (subst (λ (c : TableChange). Does making c mid new) done.1 done.2)
stands_behind making goes _ after mid new is shaped made = tt
