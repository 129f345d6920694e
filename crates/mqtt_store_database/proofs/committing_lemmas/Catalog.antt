-- What a step writes leaves the list of the database's tables and indexes.
use Rattle.std.proofs.Common.{◌≡◌, ◌≢◌, ℕ, List, [], ◌∷◌, arith, ap, ◌∙◌}
use Rattle.std.specs.List.{AllByRecursion}
use Rattle.sqlite_rules.specs.Edit.{IsNoIndex}
use Rattle.sqlite_trees.specs.Objects.{catalog_tree}
use Rattle.sqlite_trees.specs.Tree.{Trees}
use Rattle.mqtt_records.specs.declared.state.change.Change.{Change}
use Rattle.mqtt_store_tables.specs.declared.schema.tables.Making.{Making}
use Rattle.mqtt_store_tables.specs.declared.schema.tables.Making.TheVariants.{New, TakenOver}
use Rattle.mqtt_store_tables.specs.statements.Layout.{second_layout, schema_of}
use Rattle.mqtt_store_tables.specs.messages.Places.{message_tree, queued_tree, kept_tree}
use Rattle.mqtt_store_tables.specs.messages.Endings.{referring}
use Rattle.mqtt_store_tables.specs.messages.Step.{Does}
use Rattle.mqtt_store_tables.specs.declared.messages.change.TableChange.{TableChange}
use Rattle.mqtt_store_tables.specs.declared.messages.change.TableChange.TheVariants.{SetNumber, PutSession, RemoveSession, PutWill, RemoveWill, PutSubscription, RemoveSubscription, PutOpen, RemoveOpen, PutCopy, SetCopy, RemoveCopy, PutRetained, RemoveRetained}
use Rattle.mqtt_store_database.specs.committing.Making.{MakeAll}

-- it is no tree of an index
pub no_index : (making : Making) → IsNoIndex (schema_of (second_layout making)) catalog_tree
no_index New = (omega arith, (omega arith, (omega arith, (omega arith, (omega arith, (omega arith, (omega arith, (omega arith, tt))))))))
no_index TakenOver = (omega arith, (omega arith, (omega arith, (omega arith, (omega arith, (omega arith, (omega arith, (omega arith, (omega arith, (omega arith, tt))))))))))

-- nor of a table that refers to messages, of messages, or of what a session has
no_message : (making : Making) → catalog_tree ≢ message_tree making
no_message New = omega arith
no_message TakenOver = omega arith

no_queued : (making : Making) → catalog_tree ≢ queued_tree making
no_queued New = omega arith
no_queued TakenOver = omega arith

no_kept : (making : Making) → catalog_tree ≢ kept_tree making
no_kept New = omega arith
no_kept TakenOver = omega arith

not_referring : (making : Making) → AllByRecursion (λ it. catalog_tree ≢ it.0) (referring making)
not_referring New = (omega arith, (omega arith, (omega arith, (omega arith, tt))))
not_referring TakenOver = (omega arith, (omega arith, (omega arith, (omega arith, (omega arith, tt)))))

does_keep : (making : Making) (it : TableChange) (old new : Trees) → Does making it old new → new catalog_tree ≡ old catalog_tree
does_keep making (SetNumber name value) old new h = h.3.others catalog_tree (omega arith) (no_index making)
does_keep making (PutSession birth session) old new h = h.others catalog_tree (omega arith) (no_index making)
does_keep making (RemoveSession birth) old new h =
    h.2.others catalog_tree (no_message making) (no_index making) ∙ h.1.others catalog_tree (omega arith) (not_referring making) (no_index making)
does_keep making (PutWill birth will) old new h = h.others catalog_tree (omega arith) (no_index making)
does_keep making (RemoveWill birth) old new h = h.others catalog_tree (omega arith) (no_index making)
does_keep making (PutSubscription birth filter subscription) old new h = h.others catalog_tree (omega arith) (no_index making)
does_keep making (RemoveSubscription birth filter) old new h = h.others catalog_tree (omega arith) (no_index making)
does_keep making (PutOpen birth identifier) old new h = h.others catalog_tree (omega arith) (no_index making)
does_keep making (RemoveOpen birth identifier) old new h = h.others catalog_tree (omega arith) (no_index making)
does_keep making (PutCopy birth place message copy) old new h =
    h.2.others catalog_tree (no_message making) (no_index making)
    ∙ (h.1.2.others catalog_tree (no_queued making) (no_index making) ∙ h.1.1.others catalog_tree (no_message making) (no_index making))
does_keep making (SetCopy birth place identifier phase order) old new h = h.3.others catalog_tree (no_queued making) (no_index making)
does_keep making (RemoveCopy birth place) old new h =
    h.2.others catalog_tree (no_message making) (no_index making) ∙ h.1.others catalog_tree (no_queued making) (no_index making)
does_keep making (PutRetained place message kept) old new h =
    h.2.others catalog_tree (no_message making) (no_index making)
    ∙ (h.1.2.others catalog_tree (no_kept making) (no_index making) ∙ h.1.1.others catalog_tree (no_message making) (no_index making))
does_keep making (RemoveRetained place) old new h =
    h.2.others catalog_tree (no_message making) (no_index making) ∙ h.1.others catalog_tree (no_kept making) (no_index making)

-- all changes of a step leave the list of tables and indexes
pub steps_keep : (making : Making) (changes : List Change) (old new : Trees) → MakeAll making changes old new → new catalog_tree ≡ old catalog_tree
steps_keep making [] old new same = ap (λ (db : Trees). db catalog_tree) same
steps_keep making (c ∷ cs) old new h = steps_keep making cs h.0 new h.2 ∙ does_keep making h.1.0 old h.0 h.1.2
