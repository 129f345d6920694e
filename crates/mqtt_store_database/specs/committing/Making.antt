-- What changes of records make of the tables of schema 2, one after the other.
use Rattle.std.specs.Prelude.{ℕ, List, Option, Some, None}
use Rattle.sqlite_trees.specs.Tree.{Trees}
use Rattle.sqlite.specs.State.{State}
use Rattle.mqtt_records.specs.declared.state.change.Change.{Change}
use Rattle.mqtt_records.specs.declared.state.change.Change.TheVariants.{PutCopy}
use Rattle.mqtt_store_tables.specs.declared.schema.tables.Making.{Making}
use Rattle.mqtt_store_tables.specs.declared.messages.change.TableChange.{TableChange}
use Rattle.mqtt_store_tables.specs.messages.Step.{Asks, Does}
use Rattle.mqtt_store_database.specs.row_laws.TableChanges.{IsTableChangeFor}
use Rattle.mqtt_store_database.specs.written.Making.{MakeEach, NeedEach}
use Rattle.mqtt_store_database.specs.committing.Settled.{IsSettled}

-- what its change of the tables makes of them
abbrev pub Makes : Making → Change → Trees → Trees → Type 0
Makes making change old new = (it : TableChange) × IsTableChangeFor change it × Does making it old new

-- what that sets stands
abbrev pub Needs : Making → Change → Trees → Type 0
Needs making change db = (it : TableChange) → IsTableChangeFor change it → Asks making it db

-- the publication of the copy that is put
abbrev pub publication_in : Change → Option ℕ
publication_in (PutCopy birth row) = Some row.copy.id.publication
publication_in _ = None

-- one after the other
abbrev pub MakeAll : Making → List Change → Trees → Trees → Type 0
MakeAll making = MakeEach (Makes making)

-- what each sets stands in what those before it leave
abbrev pub NeedAll : Making → List Change → Trees → Type 0
NeedAll making = NeedEach (Needs making) (Makes making)

-- what a step may commit
abbrev pub MayCommit : Making → State → List Change → Trees → Type 0
MayCommit making s changes db = IsSettled making s → NeedAll making changes s.now.trees → MakeAll making changes s.now.trees db
