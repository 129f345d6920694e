-- A further copy that comes where none stood: its message stands already, and none is let go.
use Rattle.std.proofs.Common.{◌≡◌, ℕ, pos, Bool, true, if◌then◌else◌, List, map, option_to_list, None, Some, refl, sym, ap, subst, inr}
use Rattle.std.specs.List.{list_any}
use Rattle.sqlite_value.specs.Order.{Row, column}
use Rattle.sqlite_trees.specs.Tree.{Trees, put_row}
use Rattle.mqtt_store_tables.specs.declared.schema.tables.Making.{Making}
use Rattle.mqtt_store_tables.specs.statements.Layout.{second_layout}
use Rattle.mqtt_store_tables.specs.statements.Content.{is_of, IsShapedAt}
use Rattle.mqtt_store_tables.specs.statements.Removal.{is_keyed}
use Rattle.mqtt_store_tables.specs.statements.Put.{numbered}
use Rattle.mqtt_store_tables.proofs.statements_lemmas.steps.Stands.{put_old, given_free}
use Rattle.mqtt_store_tables.proofs.statements_lemmas.tables.Whole.{at_tree}
use Rattle.mqtt_store_tables.proofs.statements_lemmas.puts.Replace.{put_shaped}
use Rattle.mqtt_store_tables.specs.messages.Places.{message_tree, queued_tree, kept_tree}
use Rattle.mqtt_store_tables.specs.messages.Rows.{MessageColumns, QueuedColumns, message_row, queued_row}
use Rattle.mqtt_store_tables.specs.messages.Messages.{StandsIf, PutsMessage}
use Rattle.mqtt_store_tables.specs.messages.Comings.{InsertsQueued}
use Rattle.mqtt_store_tables.specs.messages.Step.{Does}
use Rattle.mqtt_store_tables.specs.declared.messages.change.TableChange.TheVariants.{PutCopy}
use Rattle.mqtt_store_tables.proofs.messages_lemmas.InsertQueued.{none_passes}
use Rattle.mqtt_store_tables.proofs.messages_lemmas.LeftOver.{message_spared}
use Rattle.mqtt_store_tables.proofs.messages_lemmas.Named.{named_found, copies_let_go}
use Rattle.mqtt_store_tables.proofs.messages_lemmas.Sweeping.{apart, sweeps_none}

-- the copy is put as a change of the tables, and a further one may come
pub record IsAfter (making : Making) (birth place : ℕ) (message : MessageColumns) (copy : QueuedColumns) (old new : Trees) : Type 0 where
  pub does : Does making (PutCopy birth place message copy) old new
  pub messages : IsShapedAt new (message_tree making)
  pub copies : IsShapedAt new (queued_tree making)
  pub stands : StandsIf making (Some copy.publication) new

-- a message that stands is as good as put
stands_put : (making : Making) (n : ℕ) (message : MessageColumns) (db : Trees) → StandsIf making (Some n) db → PutsMessage making (pos n) (message_row n message) db db
stands_put making n message db stands = record {
  rows = ap (λ (b : Bool). if b then db (message_tree making) else put_row (message_row n message) (db (message_tree making))) (sym stands);
  others = λ t other spared. refl;
}

-- a further copy that comes where none stood is put, and so may others be
pub comes_further : (making : Making) (birth place : ℕ) (message : MessageColumns) (copy : QueuedColumns) (old new : Trees) → IsShapedAt old (message_tree making) → IsShapedAt old (queued_tree making) → StandsIf making (Some copy.publication) old
    → InsertsQueued making birth place copy true old new → IsAfter making birth place message copy old new
comes_further making birth place message copy old new messages copies stands h =
    let tree = queued_tree making in
    let gone = is_keyed (pos birth) (pos place) in
    let row = queued_row birth place copy in
    let put = h.1 in
    let at = apart making in
    let column_of = λ (rows : List Row). map (λ (r : Row). column r 3) rows in
    let same : new (message_tree making) ≡ old (message_tree making) = put.others (message_tree making) at.first (message_spared making) in
    let still = at_tree old new (message_tree making) same messages in
    let none = copies_let_go making gone (option_to_list None) old new new still (named_found tree 3 gone old None (ap column_of (none_passes gone (old tree) h.0)))
    (λ x has isnt. put_old (second_layout making) tree gone old new x (numbered tree row old) put (given_free tree row gone old copies) (inr (has, isnt)))
    (put.others (kept_tree making) at.back at.kept_spared)
    (sweeps_none making new) in
    record {
      does = (new, (old, stands_put making copy.publication message old stands, put), none);
      messages = still;
      copies = put_shaped old new tree (numbered tree row old) gone refl put.rows copies;
      stands = subst (λ (rows : List Row). list_any (is_of 0 (pos copy.publication)) rows ≡ true) (sym same) stands;
    }
