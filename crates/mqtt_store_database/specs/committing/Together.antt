-- Copies of one publication that are put together.
use Rattle.std.specs.Prelude.{◌≡◌, ◌++◌, ℕ, Bool, true, false, List, [], ◌∷◌, Option, Some, None}
use Rattle.sqlite_trees.specs.Tree.{Trees}
use Rattle.mqtt_records.specs.messages.Queue.{CopyRow}
use Rattle.mqtt_records.specs.declared.state.change.Change.{Change}
use Rattle.mqtt_records.specs.declared.state.change.Change.TheVariants.{PutCopy}
use Rattle.mqtt_store_tables.specs.declared.schema.tables.Making.{Making}
use Rattle.mqtt_store_database.specs.declared.written.ending.Known.{Known}
use Rattle.mqtt_store_tables.specs.messages.Messages.{StandsIf}
use Rattle.mqtt_store_tables.specs.together.Together.{Coming}
use Rattle.mqtt_store_database.specs.row_laws.Items.{queued_columns}
use Rattle.mqtt_store_database.specs.committing.Making.{MakeAll}

-- the change puts that copy, and it is one of the publication that is named
abbrev pub PutsFurther : Option ℕ → Change → Coming → Type 0
PutsFurther known change c = (row : CopyRow) × (change ≡ PutCopy c.birth row) × (c.place ≡ row.place) × (c.copy ≡ queued_columns row) × (known ≡ Some row.copy.id.publication)

-- each of the changes puts its copy
abbrev pub PutFurther : Option ℕ → List Change → List Coming → Type 0
PutFurther known [] [] = Unit {0}
PutFurther known [] (c ∷ cs) = ⊥
PutFurther known (change ∷ changes) [] = ⊥
PutFurther known (change ∷ changes) (c ∷ cs) = PutsFurther known change c × PutFurther known changes cs

-- the changes put further copies of the publication that is named, and its message stands still; or else all is as it was
abbrev pub PutsTogether : Making → Option ℕ → List Change → Bool → Trees → Trees → Type 0
PutsTogether making known changes true old new =
    ((cs : List Coming) × PutFurther known changes cs) × (StandsIf making known old → MakeAll making changes old new × StandsIf making known new)
PutsTogether making known changes false old new = new ≡ old

-- the changes in front of what is left do so
abbrev pub PutsFront : Making → Option ℕ → List Change → List Change → Trees → Trees → Type 0
PutsFront making known changes left old new = (front : List Change) × (changes ≡ front ++ left) × PutsTogether making known front true old new

-- what is known of the changes to come; nothing if a copy was put
abbrev pub known_unless : Option Known → Option ℕ → Option Known
known_unless known (Some n) = None
known_unless known None = known
