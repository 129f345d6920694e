-- No message is left over by a change of the tables.
use Rattle.std.proofs.Common.{◌≡◌, ◌≢◌, ◌⊎◌, ◌<◌, ◌≤◌, if◌then◌else◌, ℕ, ℤ, pos, Bool, true, false, not, ◌&&◌, ◌||◌, List, ◌∷◌, Option, refl, sym, ap₂, ◌∙◌, subst, inl, inr, true≢false, arith}
use Rattle.std.specs.List.{list_any}
use Rattle.std.proofs.lemmas.Bool.{cases_Bool}
use Rattle.sqlite_value.specs.declared.value.Value.TheVariants.{Int}
use Rattle.sqlite_value.specs.Order.{Row, value_cmp}
use Rattle.sqlite_trees.specs.Tree.{Trees, rowid, has_rowid, put_row}
use Rattle.sqlite_rules.specs.Lists.{Has}
use Rattle.sqlite_rules.specs.Edit.{IsNoIndex, id_in}
use Rattle.sqlite_rules.proofs.ListLemmas.{some_has, some_from, has_filtered}
use Rattle.sqlite_rules.proofs.PlaceLemmas.{tied_same}
use Rattle.sqlite_rules.proofs.TableLemmas.{has_put, put_has}
use Rattle.mqtt_store_tables.specs.schema.Tables.{free_tree}
use Rattle.mqtt_store_tables.specs.declared.schema.tables.Making.{Making}
use Rattle.mqtt_store_tables.specs.declared.schema.tables.Making.TheVariants.{New, TakenOver}
use Rattle.mqtt_store_tables.specs.statements.Layout.{second_layout, schema_of}
use Rattle.mqtt_store_tables.specs.statements.Content.{is_of, IsShapedAt}
use Rattle.mqtt_store_tables.specs.statements.Put.{PutsInto, PutsNumbered, numbered, is_retained}
use Rattle.mqtt_store_tables.specs.statements.Removal.{is_keyed, RemovesFrom}
use Rattle.mqtt_store_tables.proofs.statements_lemmas.tables.Numbers.{own_number}
use Rattle.mqtt_store_tables.proofs.statements_lemmas.steps.Stands.{put_old}
use Rattle.mqtt_store_tables.proofs.statements_lemmas.tables.Rows.{equal_is}
use Rattle.mqtt_store_tables.specs.messages.Places.{message_tree, queued_tree, kept_tree}
use Rattle.mqtt_store_tables.specs.messages.Rows.{MessageColumns, QueuedColumns, KeptColumns, message_row, queued_row, kept_row}
use Rattle.mqtt_store_tables.specs.messages.Messages.{is_referred, with_missing}
use Rattle.mqtt_store_tables.specs.messages.Copies.{set_queued, SetsQueued}
use Rattle.mqtt_store_tables.specs.messages.Endings.{EndsSession}
use Rattle.mqtt_store_tables.specs.messages.Comings.{PutsQueued, PutsKept}
use Rattle.mqtt_store_tables.specs.messages.Letting.{is_let_go, LetsGo, PutsFirst, AllReferred}
use Rattle.mqtt_store_tables.specs.messages.Step.{Does}
use Rattle.mqtt_store_tables.specs.declared.messages.change.TableChange.{TableChange}
use Rattle.mqtt_store_tables.specs.declared.messages.change.TableChange.TheVariants.{SetNumber, PutSession, RemoveSession, PutWill, RemoveWill, PutSubscription, RemoveSubscription, PutOpen, RemoveOpen, PutCopy, SetCopy, RemoveCopy, PutRetained, RemoveRetained}
use Rattle.mqtt_store_tables.proofs.messages_lemmas.Behind.{asked}
use Rattle.mqtt_store_tables.proofs.messages_lemmas.Named.{or_from, or_true}
use Rattle.mqtt_store_tables.proofs.messages_lemmas.Sweeping.{apart, referred_same}

-- no index lies at the tree of messages
pub message_spared : (making : Making) → IsNoIndex (schema_of (second_layout making)) (message_tree making)
message_spared New = (asked New).tables.0
message_spared TakenOver = (asked TakenOver).tables.1.1.0

module _ (making : Making) (old new : Trees) where
  -- messages and what refers to them are as they were
  abbrev AreAsBefore : Type 0
  AreAsBefore = (new (message_tree making) ≡ old (message_tree making)) × (new (queued_tree making) ≡ old (queued_tree making)) × (new (kept_tree making) ≡ old (kept_tree making))

  referred_as : AreAsBefore → (n : ℤ) → is_referred making n new ≡ is_referred making n old
  referred_as same n = ap₂ (λ q k. list_any (is_of 3 n) q || list_any (is_of 4 n) k) same.1 same.2

  kept_so : AreAsBefore → AllReferred making old → AllReferred making new
  kept_so same all r has = referred_as same (id_in (rowid r)) ∙ all r (subst (λ (rows : List Row). Has rows r) same.0 has)

  -- a change of one of the tables that both schemas have
  untouched : (t : ℕ) → t < 9 → ((s : ℕ) → s ≢ t → IsNoIndex (schema_of (second_layout making)) s → new s ≡ old s) → AllReferred making old → AllReferred making new
  untouched t low others all =
      let free : 9 ≤ free_tree making = least making in
      kept_so (
        others (message_tree making) (omega (arith, free, low)) (message_spared making),
        others (queued_tree making) (omega (arith, free, low)) (apart making).queued_spared,
        others (kept_tree making) (omega (arith, free, low)) (apart making).kept_spared,
      ) all
    where
      least : (making : Making) → 9 ≤ free_tree making
      least New = omega arith
      least TakenOver = omega arith

-- each message stood before, or something refers to it now
abbrev AreOwned : Making → Trees → Trees → Type 0
AreOwned making old mid = (r : Row) → Has (mid (message_tree making)) r → Has (old (message_tree making)) r ⊎ (is_referred making (id_in (rowid r)) mid ≡ true)

stayed : (making : Making) (old mid : Trees) → mid (message_tree making) ≡ old (message_tree making) → AreOwned making old mid
stayed making old mid same r has = inl (subst (λ (rows : List Row). Has rows r) same has)

either_missing : (n : ℤ) (put : Row) (rows : List Row) (r : Row) → Has (with_missing n put rows) r → (r ≡ put) ⊎ Has rows r
either_missing n put rows r h = go (list_any (is_of 0 n) rows) h
  where
    go : (b : Bool) → Has (if b then rows else put_row put rows) r → (r ≡ put) ⊎ Has rows r
    go true h = inr h
    go false h = put_has put rows r h

-- what was let go is out, so something refers to what stands
rest_is_referred : (making : Making) (change : Trees → Trees → Type 0) (old new : Trees) → ((mid : Trees) → change old mid → AreOwned making old mid) → LetsGo making change old new → AllReferred making old → AllReferred making new
rest_is_referred making change old new owned h all r has =
    let mid = h.0 in
    let k = id_in (rowid r) in
    let left = has_filtered (λ r. not (is_let_go making old mid r)) (mid (message_tree making)) r (subst (λ (rows : List Row). Has rows r) h.2.rows has) in
    referred_same making (is_let_go making old mid) mid new h.2 k ∙ elim (cases_Bool (is_referred making k mid)) [
      | inl now ↦ now
      | inr none ↦ elim (owned mid h.1 r left.0) [
        | inl stood ↦ absurd (gone (is_referred making k old) (is_referred making k mid) (all r stood) none left.1)
        | inr now ↦ now
      ]
    ]
  where
    gone : (a b : Bool) → a ≡ true → b ≡ false → not (a && not b) ≡ true → ⊥
    gone true true x y z = true≢false y
    gone true false x y z = true≢false (sym z)
    gone false b x y z = true≢false (sym x)

-- the row that is put behind its message refers to it
put_is_referred : (making : Making) (publication : ℕ) (message : MessageColumns) (change : Trees → Trees → Type 0) (old mid : Trees)
    → ((before : Trees) → change before mid → (mid (message_tree making) ≡ before (message_tree making)) × (is_referred making (pos publication) mid ≡ true)) → PutsFirst making publication message change old mid → AreOwned making old mid
put_is_referred making publication message change old mid each h r has =
    let put = message_row publication message in
    let it = each h.0 h.2 in
    let before = subst (λ (rows : List Row). Has rows r) (it.0 ∙ h.1.rows) has in
    elim (either_missing (pos publication) put (old (message_tree making)) r before) [
      | inl same ↦ inr (subst (λ (x : Row). is_referred making (id_in (rowid x)) mid ≡ true) (sym same) it.1)
      | inr stood ↦ inl stood
    ]

module _ (making : Making) (old new : Trees) where
  copy_put : (birth place : ℕ) (message : MessageColumns) (copy : QueuedColumns)
      → LetsGo making (PutsFirst making copy.publication message (PutsQueued making birth place copy)) old new → AllReferred making old → AllReferred making new
  copy_put birth place message copy =
      let tree = queued_tree making in
      let change = PutsNumbered (second_layout making) tree (queued_row birth place copy) (is_keyed (pos birth) (pos place)) in
      rest_is_referred making (PutsFirst making copy.publication message change) old new
      (λ mid. put_is_referred making copy.publication message change old mid (λ before done.
      let put = numbered tree (queued_row birth place copy) before in
      let there : Has (mid tree) put = subst (λ (rows : List Row). Has rows put) (sym done.rows) (has_put put _) in
      (done.others (message_tree making) (apart making).first (message_spared making), or_from _ _ (inl (some_from (is_of 3 (pos copy.publication)) (mid tree) put there (own_number copy.publication))))))

  kept_put : (place : ℕ) (message : MessageColumns) (kept : KeptColumns)
      → LetsGo making (PutsFirst making kept.publication message (PutsKept making place kept)) old new → AllReferred making old → AllReferred making new
  kept_put place message kept =
      let tree = kept_tree making in
      let change = PutsInto (second_layout making) tree (kept_row place kept) (is_retained place kept.topic) in
      rest_is_referred making (PutsFirst making kept.publication message change) old new
      (λ mid. put_is_referred making kept.publication message change old mid (λ before done.
      let put = kept_row place kept in
      let there : Has (mid tree) put = subst (λ (rows : List Row). Has rows put) (sym done.rows) (has_put put _) in
      (done.others (message_tree making) (apart making).last (message_spared making), or_from _ _ (inr (some_from (is_of 4 (pos kept.publication)) (mid tree) put there (own_number kept.publication))))))

  -- a copy that is set refers to the message to which it referred
  copy_set : (birth place phase : ℕ) (pid rel : Option ℕ) (id : ℤ) (c : QueuedColumns) → IsShapedAt old (queued_tree making) → Has (old (queued_tree making)) (Int id ∷ queued_row birth place c) → SetsQueued making birth place phase pid rel id c old new
      → AllReferred making old → AllReferred making new
  copy_set birth place phase pid rel id c shaped there done all r has =
      let tree = queued_tree making in
      let k = id_in (rowid r) in
      let one = Int id ∷ queued_row birth place c in
      let put = Int id ∷ queued_row birth place (set_queued pid phase rel c) in
      let puts : PutsInto (second_layout making) tree put (has_rowid id) old new = record { rows = done.rows; others = done.others } in
      let stood = all r (subst (λ (rows : List Row). Has rows r) (done.others (message_tree making) (apart making).first (message_spared making)) has) in
      elim (or_true _ _ stood) [
        | inl copy ↦
            let x = some_has (is_of 3 k) (old tree) copy in
            or_from _ _ (inl (elim (cases_Bool (has_rowid id x.0)) [
              | inl own ↦
                  let same : x.0 ≡ one = tied_same (old tree) x.0 one shaped.up x.1 there (equal_is (value_cmp (rowid x.0) (Int id)) own) in
                  let refers : is_of 3 k one ≡ true = subst (λ (y : Row). is_of 3 k y ≡ true) same x.2 in
                  some_from (is_of 3 k) (new tree) put (put_old (second_layout making) tree (has_rowid id) old new put put puts (λ y here stays. stays) (inl refl)) refers
              | inr other ↦ some_from (is_of 3 k) (new tree) x.0 (put_old (second_layout making) tree (has_rowid id) old new x.0 put puts (λ y here stays. stays) (inr (x.1, other))) x.2
            ]))
        | inr kept ↦ or_from _ _ (inr (subst (λ (rows : List Row). list_any (is_of 4 k) rows ≡ true) (sym (done.others (kept_tree making) (apart making).back (apart making).kept_spared)) kept))
      ]

  ended : (making : Making) (birth : ℤ) (mid : Trees) → EndsSession making birth old mid → mid (message_tree making) ≡ old (message_tree making)
  ended New birth mid e = e.others 9 (omega arith) (omega arith, (omega arith, (omega arith, (omega arith, tt)))) (message_spared New)
  ended TakenOver birth mid e = e.others 13 (omega arith) (omega arith, (omega arith, (omega arith, (omega arith, (omega arith, tt))))) (message_spared TakenOver)

  -- if something refers to each message, then so after each change
  pub none_is_left : (change : TableChange) → IsShapedAt old (queued_tree making) → AllReferred making old → Does making change old new → AllReferred making new
  none_is_left (SetNumber name value) shaped all done = untouched making old new 0 (omega arith) done.3.others all
  none_is_left (PutSession birth session) shaped all done = untouched making old new 2 (omega arith) done.others all
  none_is_left (RemoveSession birth) shaped all done = rest_is_referred making (EndsSession making (pos birth)) old new (λ mid e. stayed making old mid (ended making (pos birth) mid e)) done all
  none_is_left (PutWill birth will) shaped all done = untouched making old new 4 (omega arith) done.others all
  none_is_left (RemoveWill birth) shaped all done = untouched making old new 4 (omega arith) done.others all
  none_is_left (PutSubscription birth filter subscription) shaped all done = untouched making old new 5 (omega arith) done.others all
  none_is_left (RemoveSubscription birth filter) shaped all done = untouched making old new 5 (omega arith) done.others all
  none_is_left (PutOpen birth identifier) shaped all done = untouched making old new 7 (omega arith) done.others all
  none_is_left (RemoveOpen birth identifier) shaped all done = untouched making old new 7 (omega arith) done.others all
  none_is_left (PutCopy birth place message copy) shaped all done = copy_put birth place message copy done all
  none_is_left (SetCopy birth place identifier phase order) shaped all done = copy_set birth place phase identifier order done.0 done.1 shaped done.2 done.3 all
  none_is_left (RemoveCopy birth place) shaped all done =
      let gone = is_keyed (pos birth) (pos place) in
      rest_is_referred making (RemovesFrom (second_layout making) (queued_tree making) gone) old new (λ mid e. stayed making old mid (e.others (message_tree making) (apart making).first (message_spared making))) done all
  none_is_left (PutRetained place message kept) shaped all done = kept_put place message kept done all
  none_is_left (RemoveRetained place) shaped all done =
      let gone = is_of 0 (pos place) in
      rest_is_referred making (RemovesFrom (second_layout making) (kept_tree making) gone) old new (λ mid e. stayed making old mid (e.others (message_tree making) (apart making).last (message_spared making))) done all
