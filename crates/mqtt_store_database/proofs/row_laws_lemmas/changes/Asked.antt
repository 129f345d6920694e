-- The rows that are set stand.
use Rattle.std.proofs.Common.{◌≡◌, ℕ, ℤ, true, ◌∷◌, subst}
use Rattle.sqlite_value.specs.declared.value.Value.TheVariants.{Int}
use Rattle.sqlite_trees.specs.Tree.{Trees}
use Rattle.sqlite_rules.specs.Lists.{Has}
use Rattle.mqtt_base.specs.declared.session.Phase.{Phase}
use Rattle.mqtt_records.specs.messages.Queue.{CopyRow}
use Rattle.mqtt_records.specs.declared.state.change.Change.TheVariants.{SetCopy}
use Rattle.mqtt_records.specs.declared.state.change.Counter.{Counter}
use Rattle.mqtt_records.specs.declared.state.session.Session.{Session}
use Rattle.mqtt_records.specs.declared.state.records.Records.{Records}
use Rattle.mqtt_records.specs.state.Records.{counter_of, Fits}
use Rattle.mqtt_records.specs.state.Session.{birth_of, copy_place}
use Rattle.mqtt_records.specs.lists.Order.{has_row}
use Rattle.mqtt_records.specs.state.Members.{InQueue}
use Rattle.mqtt_store_tables.specs.declared.schema.tables.Making.{Making}
use Rattle.mqtt_store_tables.specs.statements.Numbers.{number_row}
use Rattle.mqtt_store_tables.specs.messages.Places.{queued_tree}
use Rattle.mqtt_store_tables.specs.messages.Rows.{QueuedColumns, queued_row}
use Rattle.mqtt_store_database.specs.item_laws.Counters.{counter_name}
use Rattle.mqtt_store_database.proofs.item_laws_lemmas.records.Members.{found_has}
use Rattle.mqtt_store_database.proofs.item_laws_lemmas.records.Owns.{some_row}
use Rattle.mqtt_store_database.specs.row_laws.Items.{queued_columns}
use Rattle.mqtt_store_database.specs.row_laws.Written.{KeepsRowsTwo}
use Rattle.mqtt_store_database.proofs.row_laws_lemmas.changes.Numbers.{number_there}

copy_stands : (birth place : ℕ) (phase : Phase) (r : Records) → Fits (SetCopy birth place phase) r → (y : CopyRow) × InQueue r birth y × (y.place ≡ place)
copy_stands birth place phase r fits =
    let home = found_has birth_of birth r.sessions (λ (s : Session). has_row copy_place place s.queue ≡ true) fits.0 in
    let it = found_has copy_place place home.0.queue (λ _. Unit {0}) (some_row copy_place place home.0.queue home.3) in
    (it.0, (home.0, home.1, home.2, it.1), it.2)

module _ (making : Making) (db : Trees) (r : Records) (keeps : KeepsRowsTwo making db r) where
  -- the row of a copy that is set stands
  pub copy_asked : (birth place : ℕ) (phase : Phase) → Fits (SetCopy birth place phase) r → (id : ℤ) × (c : QueuedColumns) × Has (db (queued_tree making)) (Int id ∷ queued_row birth place c)
  copy_asked birth place phase fits =
      let y = copy_stands birth place phase r fits in
      let it = keeps.rows.queued.each (birth, y.0) y.1 in (
        it.2.0,
        queued_columns y.0,
        subst (λ (p : ℕ). Has (db (queued_tree making)) (Int it.2.0 ∷ queued_row birth p (queued_columns y.0))) y.2 (subst (Has (db (queued_tree making))) it.2.1 it.1),
      )

  -- and that of a number
  pub number_asked : (counter : Counter) → (id : ℤ) × (n : ℕ) × Has (db 0) (Int id ∷ number_row (counter_name counter) n)
  number_asked counter =
      let it = keeps.rows.meta.each (counter_name counter, counter_of counter r) (number_there counter r) in
      (it.2.0, counter_of counter r, subst (Has (db 0)) it.2.1 it.1)
