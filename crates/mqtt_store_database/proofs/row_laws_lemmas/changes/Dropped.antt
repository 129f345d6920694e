-- All tables after a change by which just those messages go to which something referred, and nothing does now.
use Rattle.std.proofs.Common.{ℕ, pos}
use Rattle.sqlite_trees.specs.Tree.{Trees}
use Rattle.mqtt_records.specs.declared.messages.message.RetainedMessage.{RetainedMessage}
use Rattle.mqtt_records.specs.messages.Queue.{CopyRow}
use Rattle.mqtt_records.specs.declared.state.change.Change.{Change}
use Rattle.mqtt_records.specs.declared.state.change.Change.TheVariants.{PutCopy, RemoveCopy, RemoveSession, PutRetained, RemoveRetained}
use Rattle.mqtt_records.specs.declared.state.records.Records.{Records}
use Rattle.mqtt_records.specs.state.Records.{changed, Fits}
use Rattle.mqtt_records.specs.state.Contents.{copy_message, retained_message, AgreesWith}
use Rattle.mqtt_store_tables.specs.declared.schema.tables.Making.{Making}
use Rattle.mqtt_store_tables.specs.messages.Comings.{PutsQueued, RemovesQueued, PutsKept, RemovesKept}
use Rattle.mqtt_store_tables.specs.messages.Endings.{EndsSession}
use Rattle.mqtt_store_database.specs.item_laws.Written.{IsSayableCopy, IsSayableRetained}
use Rattle.mqtt_store_database.specs.row_laws.Items.{queued_columns, kept_columns}
use Rattle.mqtt_store_database.specs.row_laws.Written.{KeepsRowsTwo, AreInOrderTwo}
use Rattle.mqtt_store_database.specs.row_laws.Steps.{PutsMessageOf, DropsLast}
use Rattle.mqtt_store_database.proofs.row_laws_lemmas.tables.Order.{order_dropped}
use Rattle.mqtt_store_database.proofs.row_laws_lemmas.changes.Both.{KeepsBoth, dropped}
use Rattle.mqtt_store_database.proofs.row_laws_lemmas.changes.EndedSession as ended
use Rattle.mqtt_store_database.proofs.row_laws_lemmas.changes.PutCopy as put
use Rattle.mqtt_store_database.proofs.row_laws_lemmas.changes.RemovedCopy as removed
use Rattle.mqtt_store_database.proofs.row_laws_lemmas.changes.Retained as retained

module _ (making : Making) (db mid next : Trees) (r : Records) (k : KeepsRowsTwo making db r) (o : AreInOrderTwo making db) (drops : DropsLast making db mid next) where
  -- the tables keep the changed records, and are in order
  abbrev pub KeepsAfter : Change → Type 0
  KeepsAfter c = KeepsRowsTwo making next (changed c r) × AreInOrderTwo making next

  finish : (c : Change) → KeepsBoth making r (changed c r) mid → AreInOrderTwo making mid → KeepsAfter c
  finish c both order = (dropped making r (changed c r) mid next both db k drops, order_dropped making db mid next drops order)

  -- so they do after a copy is put behind its message
  pub copy_put : (birth : ℕ) (entry : CopyRow) (said : Trees) → Fits (PutCopy birth entry) r → AgreesWith r (copy_message entry) → IsSayableCopy entry.copy
      → PutsMessageOf making (copy_message entry) db said → PutsQueued making birth entry.place (queued_columns entry) said mid → KeepsAfter (PutCopy birth entry)
  copy_put birth entry said fits agrees sayable says puts =
      finish (PutCopy birth entry) (put.put_both making db said mid r k o birth entry fits agrees says puts sayable) (put.put_order making db said mid r k o birth entry fits agrees says puts)

  -- after one is removed
  pub copy_removed : (birth place : ℕ) → RemovesQueued making birth place db mid → KeepsAfter (RemoveCopy birth place)
  copy_removed birth place removes = finish (RemoveCopy birth place) (removed.removal_both making db mid r k o birth place removes) (removed.removal_order making db mid r k o birth place removes)

  -- after a session is removed with its rows
  pub session_removed : (birth : ℕ) → EndsSession making (pos birth) db mid → KeepsAfter (RemoveSession birth)
  session_removed birth ends = finish (RemoveSession birth) (ended.ended_both making db mid r k o birth ends) (ended.ended_order making db mid r k o birth ends)

  -- after a retained message is put behind its message
  pub retained_put : (kept : RetainedMessage) (said : Trees) → Fits (PutRetained kept) r → AgreesWith r (retained_message kept) → IsSayableRetained kept
      → PutsMessageOf making (retained_message kept) db said → PutsKept making kept.place (kept_columns kept) said mid → KeepsAfter (PutRetained kept)
  retained_put kept said fits agrees sayable says puts =
      finish (PutRetained kept) (retained.put_both making db said mid r k o kept fits agrees says puts sayable) (retained.put_order making db said mid r k o kept fits agrees says puts)

  -- after one is removed
  pub retained_removed : (place : ℕ) → RemovesKept making place db mid → KeepsAfter (RemoveRetained place)
  retained_removed place removes = finish (RemoveRetained place) (retained.removal_both making db mid r k o place removes) (retained.removal_order making db mid r k o place removes)
