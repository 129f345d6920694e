-- What a database is to the store, of both schemas.
use Rattle.std.specs.Prelude.{◌≡◌, ◌≢◌, ◌⊎◌, ℤ, pos, Option, Some}
use Rattle.sqlite.specs.State.{State}
use Rattle.mqtt_store_tables.specs.forms.Tables.{keep_schema}
use Rattle.mqtt_store_tables.specs.forms.Creation.{first}
use Rattle.mqtt_store_tables.specs.forms.Asking.{Says}
use Rattle.mqtt_store_tables.specs.schema.Tables.{second_schema}
use Rattle.mqtt_store_tables.specs.declared.schema.tables.Making.{Making}
use Rattle.mqtt_store_tables.specs.declared.schema.found.FoundStore.{FoundStore}
use Rattle.mqtt_store_tables.specs.declared.schema.found.FoundStore.TheVariants.{First, Second, Empty, Broken, Other}

-- its schema is none of the store's, nor that of an empty database
pub record Differs (s : State) : Type 0 where
  pub first_schema : s.now.schema ≢ keep_schema
  pub second : (making : Making) → s.now.schema ≢ second_schema making
  pub some : s.now.schema ≢ first 0

abbrev pub IsKnown : Option ℤ → Type 0
IsKnown said = (said ≡ Some (pos 1)) ⊎ (said ≡ Some (pos 2))

-- asked for its schema, it says 1 or 2
abbrev pub SaysKnown : State → State → Type 0
SaysKnown old new = (said : Option ℤ) × Says said old new × IsKnown said

-- it says another, or nothing
abbrev pub SaysUnknown : State → State → Type 0
SaysUnknown old new = (said : Option ℤ) × Says said old new × ¬ IsKnown said

abbrev pub IsFound : FoundStore → State → State → Type 0
IsFound First old new = old.now.schema ≡ keep_schema
IsFound (Second making) old new = old.now.schema ≡ second_schema making
IsFound Empty old new = old.now.schema ≡ first 0
IsFound Broken old new = Differs old × SaysKnown old new
IsFound Other old new = Differs old × SaysUnknown old new
