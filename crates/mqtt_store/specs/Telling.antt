-- What a store in SQL tells of waiting copies, and that it is what they say (3.3, 4.1).
use Rattle.std.proofs.Common.{◌≡◌, ◌==◌, cond, length, sym, ap, subst}
use Rattle.sqlite_schema.specs.declared.schema.Schema.{Schema}
use Rattle.sqlite.specs.State.{State, HasCleanDisk}
use Rattle.mqtt_records.specs.messages.Filling.{Fillings}
use Rattle.mqtt_records.specs.declared.state.records.Records.{Records}
use Rattle.mqtt_records.specs.state.Telling.{AreTold}
use Rattle.mqtt_store_tables.specs.schema.Tables.{second_schema}
use Rattle.mqtt_store_tables.specs.declared.schema.tables.Making.{Making}
use Rattle.mqtt_store_tables.specs.declared.schema.tables.Making.TheVariants.{New, TakenOver}
use Rattle.mqtt_store_database.specs.telling.Told.{told_in}
use Rattle.mqtt_store_database.proofs.telling_lemmas.Tells.{rows_tell}
use Rattle.mqtt_store_database.proofs.loading_lemmas.One.{second_keeps}
use Rattle.mqtt_store.specs.Holding.{Holds, IsLoaded}

-- how a database came to schema 2: a new one has eight tables, and one that was taken over those two beside them in which
-- schema 1 kept copies and retained messages
abbrev pub making_of : Schema → Making
making_of schema = cond (length schema.tables == 8) New TakenOver

-- what its tables tell for each place of each session
abbrev pub told_of : State → Fillings
told_of s = told_in (making_of s.now.schema) s.now.trees

making_is : (making : Making) (schema : Schema) → schema ≡ second_schema making → making ≡ making_of schema
making_is New schema is = sym (ap making_of is)
making_is TakenOver schema is = sym (ap making_of is)

-- what a loaded store tells, its copies say
pub tells : (s : State) (r : Records) → Holds s r → IsLoaded s → HasCleanDisk s → AreTold (told_of s) r
tells s r holds loaded clean =
    let ready = loaded clean in
    let keeps = second_keeps ready.making s.now r ready.schema ((holds clean).keeps ready.is_open) in
    subst (λ (making : Making). AreTold (told_in making s.now.trees) r) (making_is ready.making s.now.schema ready.schema) (rows_tell ready.making s.now.trees r keeps)
