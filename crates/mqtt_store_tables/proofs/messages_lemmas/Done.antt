-- What the statements of mqtt_store_tables::statements come to in schema 2.
use Rattle.std.proofs.Common.{◌≡◌, ℕ, ℤ, List, ◌∷◌, Option, Ok, Err, Result, OnOk, refl, sym, subst, inr}
use Rattle.std.proofs.lemmas.Result.{on_ok_weaker}
use Rattle.sqlite_value.specs.declared.value.Value.TheVariants.{Int}
use Rattle.sqlite_trees.specs.Tree.{Trees}
use Rattle.sqlite_rules.specs.Lists.{Has}
use Rattle.sqlite.specs.declared.error.Error.{Error}
use Rattle.mqtt_store_tables.specs.declared.schema.tables.Making.{Making}
use Rattle.mqtt_store_tables.specs.statements.Layout.{IsOurs, second_layout}
use Rattle.mqtt_store_tables.specs.statements.Numbers.{number_row, SetsNumber}
use Rattle.mqtt_store_tables.specs.messages.Places.{queued_tree}
use Rattle.mqtt_store_tables.specs.messages.Rows.{QueuedColumns, queued_row}
use Rattle.mqtt_store_tables.specs.messages.Copies.{SetsQueued}
use Rattle.mqtt_store_tables.specs.messages.Changing.{uncounted}
use Rattle.mqtt_store_tables.specs.messages.Step.{Asks, Does}
use Rattle.mqtt_store_tables.specs.declared.messages.change.TableChange.{TableChange}

-- schema 2 is one of the store's
pub is_ours : (making : Making) → IsOurs (second_layout making)
is_ours making = inr (making, refl)

-- what is so after Ok is so without the number of rows
pub on_uncounted : (X : Type 0) (r : Result ℕ Error) → OnOk r X → OnOk (uncounted r) X
on_uncounted X (Ok count) h = h
on_uncounted X (Err error) h = tt

-- what a change makes that is known, if what it asks stands
pub known_makes : {A : Type 0} (making : Making) (it known : TableChange) (old new : Trees) (r : Result A Error) → it ≡ known → (Asks making known old → OnOk r (Does making known old new)) → Asks making it old → OnOk r (Does making it old new)
known_makes making it known old new r is made = subst (λ (c : TableChange). Asks making c old → OnOk r (Does making c old new)) (sym is) made

-- the row that is set stood
pub number_set : (making : Making) (name : List ℕ) (value : ℕ) (id : ℤ) (n : ℕ) (old new : Trees) (r : Result ℕ Error) → Has (old 0) (Int id ∷ number_row name n) → OnOk r (SetsNumber (second_layout making) name value id old new)
    → OnOk r ((id : ℤ) × (n : ℕ) × Has (old 0) (Int id ∷ number_row name n) × SetsNumber (second_layout making) name value id old new)
number_set making name value id n old new r there h = on_ok_weaker r (λ done. (id, n, there, done)) h

-- the copy that is set stood
pub copy_set : (making : Making) (birth place phase : ℕ) (pid rel : Option ℕ) (id : ℤ) (c : QueuedColumns) (old new : Trees) (r : Result ℕ Error) → Has (old (queued_tree making)) (Int id ∷ queued_row birth place c)
    → OnOk r (SetsQueued making birth place phase pid rel id c old new)
    → OnOk (uncounted r) ((id : ℤ) × (c : QueuedColumns) × Has (old (queued_tree making)) (Int id ∷ queued_row birth place c) × SetsQueued making birth place phase pid rel id c old new)
copy_set making birth place phase pid rel id c old new r there h = on_uncounted _ r (on_ok_weaker r (λ done. (id, c, there, done)) h)
