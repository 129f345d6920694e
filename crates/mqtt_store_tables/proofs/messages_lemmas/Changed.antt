-- What a question, a change and the sweep of what was found come to.
use Rattle.std.proofs.Common.{◌≡◌, ℕ, ℤ, pos, true, not, ◌&&◌, ◌||◌, List, [], ◌∷◌, ◌++◌, map, Option, None, Result, OnOk, option_to_list, refl, sym, ap, ap₂, ◌∙◌, subst, inr, arith}
use Rattle.std.specs.List.{list_any}
use Rattle.std.proofs.lemmas.Result.{on_ok_weaker}
use Rattle.sqlite_value.specs.declared.value.Value.TheVariants.{Null, Int, Text}
use Rattle.sqlite_value.specs.Order.{Row, column}
use Rattle.sqlite_trees.specs.Tree.{Trees, rowid}
use Rattle.sqlite_rules.specs.Edit.{id_in}
use Rattle.sqlite_rules.specs.Lists.{Has}
use Rattle.sqlite_rules.proofs.ListLemmas.{has_kept}
use Rattle.sqlite.specs.Effect.{Database}
use Rattle.sqlite.specs.State.{State, HasCleanDisk}
use Rattle.sqlite.specs.declared.error.Error.{Error}
use Rattle.mqtt_store_tables.specs.forms.Settled.{StaysInside}
use Rattle.mqtt_store_tables.specs.declared.schema.tables.Making.{Making}
use Rattle.mqtt_store_tables.specs.declared.schema.tables.Making.TheVariants.{New, TakenOver}
use Rattle.mqtt_store_tables.specs.statements.Layout.{second_layout}
use Rattle.mqtt_store_tables.specs.statements.Content.{is_of, is_text, without, IsWhole}
use Rattle.mqtt_store_tables.specs.statements.Put.{numbered, is_retained}
use Rattle.mqtt_store_tables.specs.statements.Removal.{is_keyed}
use Rattle.mqtt_store_tables.proofs.statements_lemmas.steps.Stands.{put_old, removed_old, given_free, key_free}
use Rattle.mqtt_store_tables.proofs.statements_lemmas.tables.Whole.{at_tree}
use Rattle.mqtt_store_tables.specs.messages.Places.{queued_tree, kept_tree}
use Rattle.mqtt_store_tables.specs.messages.Rows.{MessageColumns, QueuedColumns, KeptColumns, message_row, queued_row, kept_row}
use Rattle.mqtt_store_tables.specs.messages.Messages.{PutsMessage, is_referred}
use Rattle.mqtt_store_tables.specs.messages.Endings.{EndsSession}
use Rattle.mqtt_store_tables.specs.messages.References.{Finds, FindsAll}
use Rattle.mqtt_store_tables.specs.messages.Comings.{PutsQueued, InsertsQueued, RemovesQueued, PutsKept, RemovesKept}
use Rattle.mqtt_store_tables.specs.messages.Letting.{is_let_go, LetsGo, PutsFirst, SweepsAll}
use Rattle.mqtt_store_tables.proofs.messages_lemmas.Behind.{message_shaped, queued_shaped, kept_shaped}
use Rattle.mqtt_store_tables.proofs.messages_lemmas.Inside.{clean_before}
use Rattle.mqtt_store_tables.proofs.messages_lemmas.InsertQueued.{none_passes}
use Rattle.mqtt_store_tables.proofs.messages_lemmas.Sweeping.{apart, gone_alike, sweeps_none}
use Rattle.mqtt_store_tables.proofs.messages_lemmas.Named.{named_all, named_found, named_both, or_none, copies_let_go, kept_let_go}

-- a question leaves the tables as they were
pub same_trees : (a b : State) → b.now ≡ a.now → b.now.trees ≡ a.now.trees
same_trees a b same = ap (λ (d : Database). d.trees) same

module _ (making : Making) (a b c : State) (new : Trees) (before : IsWhole (second_layout making) a) (same : b.now ≡ a.now) (whole : IsWhole (second_layout making) c) where
  -- a copy is put, and what was found is swept
  pub copy_is_put : (birth place : ℕ) (copy : QueuedColumns) (found : Option ℕ) → Finds (queued_tree making) 3 (is_keyed (pos birth) (pos place)) found a.now.trees
      → PutsQueued making birth place copy b.now.trees c.now.trees
      → SweepsAll making (option_to_list found) c.now.trees new
      → LetsGo making (PutsQueued making birth place copy) a.now.trees new
  copy_is_put birth place copy found finds done swept =
      let put = subst (λ (db : Trees). PutsQueued making birth place copy db c.now.trees) (same_trees a b same) done in
      let tree = queued_tree making in
      let gone = is_keyed (pos birth) (pos place) in
      let row = queued_row birth place copy in
      let at = apart making in
      let shaped = queued_shaped making a before in (
        c.now.trees,
        put,
        copies_let_go making gone (option_to_list found) a.now.trees c.now.trees new (message_shaped making c whole) (named_found tree 3 gone a.now.trees found finds)
            (λ x has isnt. put_old (second_layout making) tree gone a.now.trees c.now.trees x (numbered tree row a.now.trees) put (given_free tree row gone a.now.trees shaped) (inr (has, isnt)))
            (put.others (kept_tree making) at.back at.kept_spared)
            swept,
      )

  -- a copy is removed, and what was found is swept
  pub copy_is_removed : (birth place : ℕ) (found : Option ℕ) → Finds (queued_tree making) 3 (is_keyed (pos birth) (pos place)) found a.now.trees
      → RemovesQueued making birth place b.now.trees c.now.trees
      → SweepsAll making (option_to_list found) c.now.trees new
      → LetsGo making (RemovesQueued making birth place) a.now.trees new
  copy_is_removed birth place found finds done swept =
      let removed = subst (λ (db : Trees). RemovesQueued making birth place db c.now.trees) (same_trees a b same) done in
      let tree = queued_tree making in
      let gone = is_keyed (pos birth) (pos place) in
      let at = apart making in (
        c.now.trees,
        removed,
        copies_let_go making gone (option_to_list found) a.now.trees c.now.trees new (message_shaped making c whole) (named_found tree 3 gone a.now.trees found finds)
            (λ x has isnt. removed_old (second_layout making) tree gone a.now.trees c.now.trees x removed (has, isnt))
            (removed.others (kept_tree making) at.back at.kept_spared)
            swept,
      )

  -- a session ends, and the messages of its queue are swept
  pub session_has_ended : (birth : ℕ) (numbers : List ℕ) → FindsAll (queued_tree making) 3 (is_of 1 (pos birth)) numbers a.now.trees
      → EndsSession making (pos birth) b.now.trees c.now.trees → SweepsAll making numbers c.now.trees new → LetsGo making (EndsSession making (pos birth)) a.now.trees new
  session_has_ended birth numbers finds done swept =
      let ends = subst (λ (db : Trees). EndsSession making (pos birth) db c.now.trees) (same_trees a b same) done in
      let tree = queued_tree making in
      let gone = is_of 1 (pos birth) in (
        c.now.trees,
        ends,
        copies_let_go making gone numbers a.now.trees c.now.trees new (message_shaped making c whole) (named_all tree 3 gone a.now.trees numbers finds)
            (λ x has isnt. subst (λ (rows : List Row). Has rows x) (sym (cut making ends)) (has_kept (λ r. not (gone r)) (a.now.trees tree) x has (ap not isnt)))
            (left making ends)
            swept,
      )
    where
      cut : (making : Making) → EndsSession making (pos birth) a.now.trees c.now.trees → c.now.trees (queued_tree making) ≡ without 1 (pos birth) (a.now.trees (queued_tree making))
      cut New e = e.rows.0
      cut TakenOver e = e.rows.0

      left : (making : Making) → EndsSession making (pos birth) a.now.trees c.now.trees → c.now.trees (kept_tree making) ≡ a.now.trees (kept_tree making)
      left New e = e.others 12 (omega arith) (omega arith, (omega arith, (omega arith, (omega arith, tt)))) (apart New).kept_spared
      left TakenOver e = e.others 16 (omega arith) (omega arith, (omega arith, (omega arith, (omega arith, (omega arith, tt))))) (apart TakenOver).kept_spared

  -- a retained message is put, and what was found of its place and of its topic is swept
  pub retained_is_put : (place : ℕ) (message : MessageColumns) (kept : KeptColumns) (at_place of_topic : Option ℕ) → Finds (kept_tree making) 4 (is_of 0 (pos place)) at_place a.now.trees → Finds (kept_tree making) 4 (is_text 2 kept.topic) of_topic a.now.trees
      → PutsFirst making kept.publication message (PutsKept making place kept) b.now.trees c.now.trees
      → SweepsAll making (option_to_list at_place ++ option_to_list of_topic) c.now.trees new
      → LetsGo making (PutsFirst making kept.publication message (PutsKept making place kept)) a.now.trees new
  retained_is_put place message kept at_place of_topic by_place by_topic done swept =
      let put = subst (λ (db : Trees). PutsFirst making kept.publication message (PutsKept making place kept) db c.now.trees) (same_trees a b same) done in
      let l = second_layout making in
      let tree = kept_tree making in
      let gone = is_retained place kept.topic in
      let at = apart making in
      let mid = put.0 in
      let still : mid tree ≡ a.now.trees tree = put.1.others tree at.kept at.kept_spared in
      let shaped = at_tree a.now.trees mid tree still (kept_shaped making a before) in
      let named = named_both tree 4 (is_of 0 (pos place)) (is_text 2 kept.topic) (option_to_list at_place) (option_to_list of_topic) a.now.trees (named_found tree 4 (is_of 0 (pos place)) a.now.trees at_place by_place) (named_found tree 4 (is_text 2 kept.topic) a.now.trees of_topic by_topic) in (
        c.now.trees,
        put,
        kept_let_go making gone (option_to_list at_place ++ option_to_list of_topic) a.now.trees c.now.trees new (message_shaped making c whole) named
            (λ x has isnt. put_old l tree gone mid c.now.trees x (kept_row place kept) put.2 (key_free tree (pos place) (Null ∷ Text kept.topic ∷ Text kept.sender ∷ Int (pos kept.publication) ∷ Int (pos kept.qos) ∷ Int (pos kept.arrived) ∷ []) gone mid shaped (λ r stays. (or_none _ _ stays).0)) (inr (subst (λ (rows : List Row). Has rows x) (sym still) has, isnt)))
            (put.2.others (queued_tree making) at.both at.queued_spared ∙ put.1.others (queued_tree making) at.queued at.queued_spared)
            swept,
      )

  -- a retained message is removed, and what was found is swept
  pub retained_is_removed : (place : ℕ) (found : Option ℕ) → Finds (kept_tree making) 4 (is_of 0 (pos place)) found a.now.trees
      → RemovesKept making place b.now.trees c.now.trees
      → SweepsAll making (option_to_list found) c.now.trees new
      → LetsGo making (RemovesKept making place) a.now.trees new
  retained_is_removed place found finds done swept =
      let removed = subst (λ (db : Trees). RemovesKept making place db c.now.trees) (same_trees a b same) done in
      let tree = kept_tree making in
      let gone = is_of 0 (pos place) in
      let at = apart making in (
        c.now.trees,
        removed,
        kept_let_go making gone (option_to_list found) a.now.trees c.now.trees new (message_shaped making c whole) (named_found tree 4 gone a.now.trees found finds)
            (λ x has isnt. removed_old (second_layout making) tree gone a.now.trees c.now.trees x removed (has, isnt))
            (removed.others (queued_tree making) at.both at.queued_spared)
            swept,
      )

-- a copy that is put where none stood lets no message go
pub copy_is_inserted : (making : Making) (old new : State) (birth place : ℕ) (copy : QueuedColumns) → IsWhole (second_layout making) old → IsWhole (second_layout making) new
    → InsertsQueued making birth place copy true old.now.trees new.now.trees → LetsGo making (PutsQueued making birth place copy) old.now.trees new.now.trees
copy_is_inserted making old new birth place copy before whole h =
    let column_of = λ (rows : List Row). map (λ (r : Row). column r 3) rows in
    copy_is_put making old old new new.now.trees before refl whole birth place copy None (ap column_of (none_passes (is_keyed (pos birth) (pos place)) (old.now.trees (queued_tree making)) h.0)) h.1 (sweeps_none making new.now.trees)

-- a message that was put before let none go
pub put_first : (making : Making) (publication : ℕ) (message : MessageColumns) (Change : Trees → Trees → Type 0) (old mid new : Trees) → PutsMessage making (pos publication) (message_row publication message) old mid → LetsGo making Change mid new
    → LetsGo making (PutsFirst making publication message Change) old new
put_first making publication message Change old mid new put gone =
    let at = apart making in
    let refers : (n : ℤ) → is_referred making n mid ≡ is_referred making n old =
    λ n. ap₂ (λ q k. list_any (is_of 3 n) q || list_any (is_of 4 n) k) (put.others (queued_tree making) at.queued at.queued_spared) (put.others (kept_tree making) at.kept at.kept_spared) in (
      gone.0,
      (mid, put, gone.1),
      gone_alike making (is_let_go making mid gone.0) gone.0 new (is_let_go making old gone.0) (λ r has. ap (λ b. b && not (is_referred making (id_in (rowid r)) gone.0)) (refers (id_in (rowid r)))) gone.2,
    )

-- a question, a change and the sweep of what was found, one call inside a transaction after the other
pub in_turn : (making : Making) (old seen mid new : State) (r : Result (Unit {0}) Error) (Told : Type 0) (Change : Trees → Trees → Type 0) (Sweep : Type 0)
    → StaysInside seen mid → StaysInside mid new → HasCleanDisk new → IsWhole (second_layout making) old
    → (HasCleanDisk seen → IsWhole (second_layout making) old → Told × ((seen.now ≡ old.now) × IsWhole (second_layout making) seen))
    → (HasCleanDisk mid → IsWhole (second_layout making) seen → Change seen.now.trees mid.now.trees × IsWhole (second_layout making) mid)
    → (HasCleanDisk new → IsWhole (second_layout making) mid → OnOk r Sweep × OnOk r (IsWhole (second_layout making) new))
    → (seen.now ≡ old.now → IsWhole (second_layout making) mid → Told → Change seen.now.trees mid.now.trees → Sweep → LetsGo making Change old.now.trees new.now.trees)
    → OnOk r (LetsGo making Change old.now.trees new.now.trees) × OnOk r (IsWhole (second_layout making) new)
in_turn making old seen mid new r Told Change Sweep between last clean whole told done swept comes =
    let tidy = clean_before mid new last clean in
    let found = told (clean_before seen mid between tidy) whole in
    let made = done tidy found.1.1 in
    let gone = swept clean made.1 in
    (on_ok_weaker r (λ h. comes found.1.0 made.1 found.0 made.0 h) gone.0, gone.1)
