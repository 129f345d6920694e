-- What the statements of a change of copies or retained messages make of the trees of schema 2 (4.1).
use Rattle.std.specs.Prelude.{◌≡◌, ℕ, ℤ, pos, List, [], ◌∷◌, Option}
use Rattle.sqlite_value.specs.declared.value.Value.TheVariants.{Int}
use Rattle.sqlite_trees.specs.Tree.{Trees}
use Rattle.sqlite_rules.specs.Lists.{Has}
use Rattle.mqtt_base.specs.declared.session.Phase.{Phase}
use Rattle.mqtt_records.specs.declared.messages.message.RetainedMessage.{RetainedMessage}
use Rattle.mqtt_records.specs.messages.Queue.{CopyRow}
use Rattle.mqtt_records.specs.state.Contents.{StoredMessage, copy_message, retained_message}
use Rattle.mqtt_store_tables.specs.declared.schema.tables.Making.{Making}
use Rattle.mqtt_store_tables.specs.statements.Layout.{second_layout}
use Rattle.mqtt_store_tables.specs.statements.Content.{is_of}
use Rattle.mqtt_store_tables.specs.statements.Put.{PutsInto, PutsNumbered, is_retained}
use Rattle.mqtt_store_tables.specs.statements.Removal.{is_keyed, RemovesFrom}
use Rattle.mqtt_store_tables.specs.messages.Places.{message_tree, queued_tree, kept_tree}
use Rattle.mqtt_store_tables.specs.messages.Rows.{QueuedColumns, message_row, queued_row, kept_row}
use Rattle.mqtt_store_tables.specs.messages.Messages.{PutsMessage, Sweeps}
use Rattle.mqtt_store_tables.specs.messages.Letting.{is_let_go}
use Rattle.mqtt_store_tables.specs.messages.Copies.{SetsQueued}
use Rattle.mqtt_store_tables.specs.messages.Endings.{EndsSession}
use Rattle.mqtt_store_tables.specs.messages.References.{Finds, FindsAll}
use Rattle.mqtt_store_database.specs.item_laws.Members.{listed}
use Rattle.mqtt_store_database.specs.item_laws.Items.{packet_identifier, phase_number, release_order}
use Rattle.mqtt_store_database.specs.row_laws.Items.{message_columns, queued_columns, kept_columns}

-- ---- copies and retained messages

-- the messages of these numbers are swept, one after the other
abbrev pub SweepsEach : Making → List ℕ → Trees → Trees → Type 0
SweepsEach making [] old new = new ≡ old
SweepsEach making (n ∷ more) old new = (mid : Trees) × Sweeps making (pos n) old mid × SweepsEach making more mid new

-- those messages go to which something referred before, and nothing does now; all other rows are as they were
abbrev pub DropsLast : Making → Trees → Trees → Trees → Type 0
DropsLast making old now new = RemovesFrom (second_layout making) (message_tree making) (is_let_go making old now) now new

-- its row is put, unless one of its number stands
abbrev pub PutsMessageOf : Making → StoredMessage → Trees → Trees → Type 0
PutsMessageOf making m old new = PutsMessage making (pos m.publication) (message_row m.publication (message_columns m)) old new

-- the number of the copy at the place is asked for, if one stands; the message is put, then the copy; the number that was found is swept
pub record PutsCopy (making : Making) (birth : ℕ) (entry : CopyRow) (old new : Trees) : Type 0 where
  pub found : Option ℕ
  pub said : Trees
  pub put : Trees
  pub asks : Finds (queued_tree making) 3 (is_keyed (pos birth) (pos entry.place)) found old
  pub says : PutsMessageOf making (copy_message entry) old said
  pub puts : PutsNumbered (second_layout making) (queued_tree making) (queued_row birth entry.place (queued_columns entry)) (is_keyed (pos birth) (pos entry.place)) said put
  pub sweeps : SweepsEach making (listed found) put new

-- the copy's row stands, and gets its new phase; no message is written
pub record SetsPhase (making : Making) (birth place : ℕ) (phase : Phase) (old new : Trees) : Type 0 where
  pub id : ℤ
  pub columns : QueuedColumns
  pub stood : Has (old (queued_tree making)) (Int id ∷ queued_row birth place columns)
  pub sets : SetsQueued making birth place (phase_number phase) (packet_identifier phase) (release_order phase) id columns old new

-- the number of the copy at the place is asked for, if one stands; it is removed, and that number is swept
pub record RemovesCopy (making : Making) (birth place : ℕ) (old new : Trees) : Type 0 where
  pub found : Option ℕ
  pub left : Trees
  pub asks : Finds (queued_tree making) 3 (is_keyed (pos birth) (pos place)) found old
  pub removes : RemovesFrom (second_layout making) (queued_tree making) (is_keyed (pos birth) (pos place)) old left
  pub sweeps : SweepsEach making (listed found) left new

-- the numbers of the session's copies are asked for; the session is removed with its rows, and those numbers are swept
pub record RemovesWholeSession (making : Making) (birth : ℕ) (old new : Trees) : Type 0 where
  pub found : List ℕ
  pub left : Trees
  pub asks : FindsAll (queued_tree making) 3 (is_of 1 (pos birth)) found old
  pub ends : EndsSession making (pos birth) old left
  pub sweeps : SweepsEach making found left new

-- as a copy is put
pub record PutsRetained (making : Making) (kept : RetainedMessage) (old new : Trees) : Type 0 where
  pub found : Option ℕ
  pub said : Trees
  pub put : Trees
  pub asks : Finds (kept_tree making) 4 (is_of 0 (pos kept.place)) found old
  pub says : PutsMessageOf making (retained_message kept) old said
  pub puts : PutsInto (second_layout making) (kept_tree making) (kept_row kept.place (kept_columns kept)) (is_retained kept.place kept.content.topic) said put
  pub sweeps : SweepsEach making (listed found) put new

-- as a copy is removed
pub record RemovesRetained (making : Making) (place : ℕ) (old new : Trees) : Type 0 where
  pub found : Option ℕ
  pub left : Trees
  pub asks : Finds (kept_tree making) 4 (is_of 0 (pos place)) found old
  pub removes : RemovesFrom (second_layout making) (kept_tree making) (is_of 0 (pos place)) old left
  pub sweeps : SweepsEach making (listed found) left new
