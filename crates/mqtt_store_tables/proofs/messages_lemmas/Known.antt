-- A message that is known to stand: behind a copy that was put, and in front of a further one.
use Rattle.std.proofs.Common.{◌≡◌, ℕ, ℤ, pos, Bool, true, false, not, ◌&&◌, if◌then◌else◌, List, Some, Result, OnOk, refl, sym, ap, ◌∙◌, subst, inl, IsTrue, true≢false}
use Rattle.std.specs.List.{AllByRecursion, list_any}
use Rattle.std.proofs.lemmas.Result.{on_ok_weaker}
use Rattle.sqlite_value.specs.Order.{Row}
use Rattle.sqlite_trees.specs.Tree.{Trees, rowid, put_row}
use Rattle.sqlite_trees.specs.View.{is_int}
use Rattle.sqlite_rules.specs.Lists.{Has}
use Rattle.sqlite_rules.specs.Edit.{id_in}
use Rattle.sqlite_rules.proofs.ListLemmas.{all_has, some_has, some_from, has_kept}
use Rattle.sqlite_rules.proofs.TableLemmas.{has_put}
use Rattle.mqtt_store_tables.specs.declared.schema.tables.Making.{Making}
use Rattle.mqtt_store_tables.specs.statements.Content.{is_of, IsShapedAt}
use Rattle.mqtt_store_tables.specs.statements.Put.{numbered}
use Rattle.mqtt_store_tables.proofs.statements_lemmas.puts.PutSession.{own_number}
use Rattle.mqtt_store_tables.proofs.statements_lemmas.tables.Numbers.{own_number as finds_itself}
use Rattle.mqtt_store_tables.specs.messages.Places.{message_tree, queued_tree}
use Rattle.mqtt_store_tables.specs.messages.Rows.{MessageColumns, QueuedColumns, message_row, queued_row}
use Rattle.mqtt_store_tables.specs.messages.Messages.{is_referred, with_missing, PutsMessage, StandsIf}
use Rattle.mqtt_store_tables.specs.messages.Comings.{PutsQueued}
use Rattle.mqtt_store_tables.specs.messages.Letting.{is_let_go, LetsGo, PutsFirst}
use Rattle.mqtt_store_tables.proofs.messages_lemmas.LeftOver.{message_spared}
use Rattle.mqtt_store_tables.proofs.messages_lemmas.Named.{or_from}
use Rattle.mqtt_store_tables.proofs.messages_lemmas.Sweeping.{apart}

-- a row of that number, which is its own
abbrev HasNumbered : ℤ → List Row → Type 0
HasNumbered n rows = (r : Row) × Has rows r × (is_of 0 n r ≡ true) × IsTrue (is_int (rowid r))

-- once a message is put, unless one of its number stands, one of its number stands
missing_stands : (n : ℕ) (message : MessageColumns) (rows : List Row) → AllByRecursion (λ r. IsTrue (is_int (rowid r))) rows → HasNumbered (pos n) (with_missing (pos n) (message_row n message) rows)
missing_stands n message rows ints = go (list_any (is_of 0 (pos n)) rows) refl
  where
    put : Row
    put = message_row n message

    go : (b : Bool) → list_any (is_of 0 (pos n)) rows ≡ b → HasNumbered (pos n) (if b then rows else put_row put rows)
    go true stood = let x = some_has (is_of 0 (pos n)) rows stood in (x.0, x.1, x.2, all_has _ rows x.0 ints x.1)
    go false none = (put, has_put put rows, finds_itself n, refl)

-- what something refers to is not let go
spared : (a b : Bool) → b ≡ true → not (a && not b) ≡ true
spared true true h = refl
spared false b h = refl
spared true false h = absurd (true≢false (sym h))

-- a copy that was put refers to its message, so that stands
pub copy_has_message : (making : Making) (birth place : ℕ) (message : MessageColumns) (copy : QueuedColumns) (old new : Trees) → IsShapedAt old (message_tree making)
    → LetsGo making (PutsFirst making copy.publication message (PutsQueued making birth place copy)) old new → StandsIf making (Some copy.publication) new
copy_has_message making birth place message copy old new shaped h =
    let n = copy.publication in
    let tree = queued_tree making in
    let mid = h.0 in
    let done = h.1.2 in
    let put = numbered tree (queued_row birth place copy) h.1.0 in
    let there : Has (mid tree) put = subst (λ (rows : List Row). Has rows put) (sym done.rows) (has_put put _) in
    let refers : is_referred making (pos n) mid ≡ true = or_from _ _ (inl (some_from (is_of 3 (pos n)) (mid tree) put there (finds_itself n))) in
    let same : mid (message_tree making) ≡ with_missing (pos n) (message_row n message) (old (message_tree making)) = done.others (message_tree making) (apart making).first (message_spared making) ∙ h.1.1.rows in
    let one = missing_stands n message (old (message_tree making)) shaped.ints in
    let number : id_in (rowid one.0) ≡ pos n = ap id_in (own_number (rowid one.0) (pos n) one.3 one.2) in
    let stays = spared (is_referred making (id_in (rowid one.0)) old) (is_referred making (id_in (rowid one.0)) mid) (subst (λ (k : ℤ). is_referred making k mid ≡ true) (sym number) refers) in
    let stood : Has (mid (message_tree making)) one.0 = subst (λ (rows : List Row). Has rows one.0) (sym same) one.1 in
    let left = has_kept (λ r. not (is_let_go making old mid r)) (mid (message_tree making)) one.0 stood stays in
    some_from (is_of 0 (pos n)) (new (message_tree making)) one.0 (subst (λ (rows : List Row). Has rows one.0) (sym h.2.rows) left) one.2

-- a message that stands is as good as put
stands_put : (making : Making) (n : ℕ) (message : MessageColumns) (db : Trees) → StandsIf making (Some n) db → PutsMessage making (pos n) (message_row n message) db db
stands_put making n message db stands = record {
  rows = ap (λ (b : Bool). if b then db (message_tree making) else put_row (message_row n message) (db (message_tree making))) (sym stands);
  others = λ t other spared. refl;
}

-- so a further copy is put alone
pub further_is_put : {A : Type 0} {E : Type 0} (making : Making) (birth place : ℕ) (message : MessageColumns) (copy : QueuedColumns) (old new : Trees) (r : Result A E) → StandsIf making (Some copy.publication) old
    → OnOk r (LetsGo making (PutsQueued making birth place copy) old new) → OnOk r (LetsGo making (PutsFirst making copy.publication message (PutsQueued making birth place copy)) old new)
further_is_put making birth place message copy old new r stands h = on_ok_weaker r (λ done. (done.0, (old, stands_put making copy.publication message old stands, done.1), done.2)) h
