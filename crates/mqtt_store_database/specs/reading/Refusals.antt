-- Why a load of a database of either schema is refused (4.1).
use Rattle.std.specs.Prelude.{◌≡◌, ◌⊎◌, ⊤}
use Rattle.sqlite_trees.specs.declared.store.Store.{Ghosts}
use Rattle.sqlite.specs.Held.{Held, state}
use Rattle.sqlite.specs.State.{State}
use Rattle.mqtt_records.specs.declared.state.records.Records.{Records}
use Rattle.mqtt_keep.specs.declared.keeping.keep.KeepError.{KeepError}
use Rattle.mqtt_keep.specs.declared.keeping.keep.KeepError.TheVariants.{Memory, Disk, Size, Corrupt, Schema}
use Rattle.mqtt_store_tables.specs.forms.Tables.{keep_schema}
use Rattle.mqtt_store_tables.specs.schema.Tables.{second_schema}
use Rattle.mqtt_store_tables.specs.schema.Finding.{Differs, SaysKnown, SaysUnknown}
use Rattle.mqtt_store_tables.specs.declared.schema.tables.Making.{Making}
use Rattle.mqtt_store_database.specs.taking_over.Kept.{HasRecords}
use Rattle.mqtt_store_database.specs.reading.Kept.{HasRecordsTwo}

-- its tables are those of schema 1, or of schema 2, and their rows give no records
abbrev pub GivesNoFirst : State → Type 0
GivesNoFirst s = (s.now.schema ≡ keep_schema) × ((r : Records) → HasRecords s.now.trees r → ⊥)

abbrev pub GivesNoSecond : State → Type 0
GivesNoSecond s = (making : Making) × (s.now.schema ≡ second_schema making) × ((r : Records) → HasRecordsTwo making s.now.trees r → ⊥)

-- it isn't empty, and has no records: its schema is neither, or the rows of its tables give none
abbrev pub HasNoneOfEither : State → Type 0
HasNoneOfEither s = GivesNoFirst s ⊎ (GivesNoSecond s ⊎ Differs s)

-- a connection with this database was asked for its schema, and so answered
abbrev pub IsAsked : {S : Type 0} → Ghosts S → Held S → (State → State → Type 0) → Type 0
IsAsked {S} g old Says = (before after : Held S) × ((state g before).now ≡ (state g old).now) × Says (state g before) (state g after)

-- Why a database is refused: it has no records, and says that its schema is 1 or 2; or it has none, and says neither.
-- Want of memory and the device say nothing of it.
abbrev pub RefusesEither : {S : Type 0} → Ghosts S → Held S → KeepError → Type 0
RefusesEither g old Memory = ⊤
RefusesEither g old Disk = ⊤
RefusesEither g old Size = ⊥
RefusesEither g old Corrupt = HasNoneOfEither (state g old) × IsAsked g old SaysKnown
RefusesEither g old Schema = HasNoneOfEither (state g old) × IsAsked g old SaysUnknown
