-- What a question inside a transaction tells, and what it leaves.
use Rattle.std.proofs.Common.{◌≡◌, ◌⊎◌, ◌≤◌, ℕ, Bool, true, false, List, [], ◌∷◌, filter, map, length, Ok, Err, Option, Result, IfOk, OnOk, IfErr, Vec, Global, refl, sym, ◌∙◌, subst, inl, inr, arith, true≢false}
use Rattle.std.specs.List.{list_any}
use Rattle.std.specs.List.Sorted.{IsPermutation}
use Rattle.std.proofs.lemmas.Bool.{cases_Bool, false_from_ne_true}
use Rattle.std.proofs.lemmas.Cmp.{tied_itself}
use Rattle.sqlite_value.specs.declared.value.Value.TheVariants.{Null}
use Rattle.sqlite_value.specs.Order.{Row, column}
use Rattle.sqlite_value.proofs.OrderLemmas.{value_cmp_total}
use Rattle.sqlite_trees.specs.Tree.{Trees, rowid}
use Rattle.sqlite_trees.proofs.ListLemmas.{filter_none}
use Rattle.sqlite_rules.specs.Lists.{Has}
use Rattle.sqlite_rules.proofs.ListLemmas.{all_from, some_has, some_from}
use Rattle.sqlite.specs.declared.rows.Row.{Row as SqlRow}
use Rattle.sqlite.specs.declared.error.Error.{Error}
use Rattle.sqlite.specs.Command.TheVariants.{Select}
use Rattle.sqlite.specs.Term.{Term, col}
use Rattle.sqlite.specs.Listing.{understood, reads_listing}
use Rattle.sqlite.specs.State.{State, HasCleanDisk, IsUnchanged, KeepsCommit, Survives, Shown, ShowsRows, FailsToQuery, FailsToShow, IsNotRun, IsTooLate}
use Rattle.sqlite.proofs.Callers.{IsPlain, command_of, reads_as, one_permutation}
use Rattle.mqtt_store_tables.specs.forms.Settled.{StaysInside}
use Rattle.mqtt_store_tables.proofs.forms_lemmas.Plain.{ShowsOnly}
use Rattle.mqtt_store_tables.specs.statements.Layout.{Layout, schema_of}
use Rattle.mqtt_store_tables.specs.statements.Content.{IsShapedAt, IsWhole}
use Rattle.mqtt_store_tables.proofs.statements_lemmas.tables.Commands.{over, program}
use Rattle.mqtt_store_tables.proofs.statements_lemmas.tables.Parts.{passes, shows, answers_over}
use Rattle.mqtt_store_tables.proofs.statements_lemmas.tables.Rows.{filter_alike}
use Rattle.mqtt_store_tables.proofs.statements_lemmas.deletes.RemoveSession.{only_row}
use Rattle.mqtt_store_tables.specs.messages.References.{as_row, Finds}
use Rattle.mqtt_store_tables.proofs.messages_lemmas.Asking.{none_left}

module _ (text : List ℕ) (params : Row) (old new : State) (plain : ShowsOnly (understood old.now.schema text)) where
  -- a question that was answered left the transaction as it was
  pub shown_unchanged : (rows : List Row) → Shown text params old new rows → IsUnchanged old new
  unfolding Shown
  shown_unchanged rows h =
      let none = subst ShowsOnly h.1.is plain in
      (subst (ShowsRows old new text h.0 _ rows) none h.2).3

  unchanged_keeps : IsUnchanged old new → KeepsCommit old new
  unchanged_keeps h = record { was_open = λ _. h.0.was_open; committed = λ _. h.0.committed_is }

  not_run_keeps : (e : Error) → IsNotRun old new text params e → KeepsCommit old new
  unfolding IsNotRun
  not_run_keeps e (inl h) = unchanged_keeps h.1
  not_run_keeps e (inr h) = record { was_open = h.3.was_open; committed = λ up. (h.3.undone up).1 }

  fails_keep : (e : Error) → FailsToQuery text params old new e ⊎ IsTooLate text params old new e → KeepsCommit old new
  unfolding FailsToQuery
  fails_keep e (inl (inl h)) = not_run_keeps e h
  fails_keep e (inl (inr h)) =
      let none = subst ShowsOnly h.1.is plain in
      unchanged_keeps (subst (FailsToShow old new text h.0 _ e) none h.2).3
  fails_keep e (inr h) = unchanged_keeps h.5

  asked_keeps : (r : Result (Vec SqlRow Global) Error) → IfOk r (λ rows. Shown text params old new rows.items) → IfErr r (λ e. FailsToQuery text params old new e ⊎ IsTooLate text params old new e) → KeepsCommit old new
  asked_keeps (Ok rows) ok err = unchanged_keeps (shown_unchanged rows.items ok)
  asked_keeps (Err e) ok err = fails_keep e err

  -- a question commits nothing
  pub asks_inside : (r : Result (Vec SqlRow Global) Error) → (HasCleanDisk new → IfOk r (λ rows. Shown text params old new rows.items))
      → (HasCleanDisk new → IfErr r (λ e. FailsToQuery text params old new e ⊎ IsTooLate text params old new e)) → Survives old new (λ _. ⊥) → StaysInside old new
  asks_inside r ok err survives = record { kept = λ clean. asked_keeps r (ok clean) (err clean); survives = survives }

-- a transaction that is as it was is whole still
pub whole_same : (l : Layout) (old new : State) → IsUnchanged old new → IsWhole l old → IsWhole l new
whole_same l old new h whole =
    let now = h.0.now_is in
    let mode = h.0.mode in
    record {
      schema = rw now whole.schema;
      inside = rw mode whole.inside;
      meta = rw now whole.meta;
      session = rw now whole.session;
      will = rw now whole.will;
      sub = rw now whole.sub;
      inbound = rw now whole.inbound;
      behind = rw now whole.behind;
      obeys = rw now whole.obeys;
    }

module _ (rows : List Row) (p : Row → Bool) (alike : (r x : Row) → Has rows r → Has rows x → p r ≡ true → p x ≡ true → r ≡ x) where
  -- of rows that can't differ if they pass, none passes, or one
  pub one_or_none : (db : Trees) (tree : ℕ) → IsShapedAt db tree → db tree ≡ rows → (filter p rows ≡ []) ⊎ ((one : Row) × (filter p rows ≡ one ∷ []))
  one_or_none db tree shaped is = elim (cases_Bool (list_any p rows)) [
    | inl stands ↦
        let x = some_has p rows stands in
        inr (x.0, only_row rows p x.0 (rw is at shaped.up) x.1 x.2 (λ r mine passing. rw (alike r x.0 mine x.1 passing x.2) (tied_itself value_cmp_total (rowid x.0))))
    | inr isnt ↦ inl (filter_none p rows (all_from _ rows (λ r mine. false_from_ne_true _ (λ passing. true≢false (sym (some_from p rows r mine passing) ∙ isnt)))))
  ]

-- what is told of a column: that of the rows of the key, which are none, or one
pub record Told (tree at : ℕ) (key : Row → Bool) (db : Trees) (rows : List Row) : Type 0 where
  pub few : length rows ≤ 1
  pub values : map (λ r. column r 0) rows ≡ map (λ r. column r at) (filter key (db tree))

module _ (l : Layout) (text : List ℕ) (tree at : ℕ) (tests : List Term) (names : List (List ℕ)) (params : Row) (key : Row → Bool) (same : (r : Row) → passes params tests r ≡ key r)
    (is : command_of (understood (schema_of l) text) ≡ Select (program (over tree tests (col 1 at ∷ []))) names) (plain : IsPlain (understood (schema_of l) text)) (unlisted : reads_listing (schema_of l) text ≡ false) where
  told : (db : Trees) (rows : List Row) → IsPermutation (map (shows params (col 1 at ∷ [])) (filter key (db tree))) rows → (filter key (db tree) ≡ []) ⊎ ((one : Row) × (filter key (db tree) ≡ one ∷ [])) → Told tree at key db rows
  told db rows p (inl none) =
      let given : rows ≡ [] = none_left rows (rw none at p) in
      record { few = rw given (omega arith); values = rw (given, none) refl }
  told db rows p (inr it) =
      let given : rows ≡ (column it.0 at ∷ []) ∷ [] = one_permutation (column it.0 at ∷ []) rows (rw it.1 at p) in
      record { few = rw given (omega arith); values = rw (given, it.1) refl }

  -- a question by key is told the column of that row
  pub tells : (old new : State) → IsWhole l old → IsShapedAt old.now.trees tree → ((r x : Row) → Has (old.now.trees tree) r → Has (old.now.trees tree) x → key r ≡ true → key x ≡ true → r ≡ x)
      → (rows : List Row) → Shown text params old new rows → Told tree at key old.now.trees rows
  tells old new whole shaped alike rows shown =
      let db = old.now.trees in
      let read = reads_as text params old new (schema_of l) whole.schema (Select (program (over tree tests (col 1 at ∷ []))) names) is plain unlisted rows shown in
      let answers = answers_over tree tests (col 1 at ∷ []) db params rows (read.answer Null) in
      let keyed : filter (passes params tests) (db tree) ≡ filter key (db tree) = filter_alike (passes params tests) key (db tree) (λ r has. same r) in
      told db rows (subst (λ found. IsPermutation (map (shows params (col 1 at ∷ [])) found) rows) keyed answers) (one_or_none (db tree) key alike db tree shaped refl)

-- the number that is read off the answer is the row's, and the transaction is as it was
pub finds : (l : Layout) (tree at : ℕ) (key : Row → Bool) (old new : State) (rows : List Row) → Told tree at key old.now.trees rows → IsUnchanged old new → IsWhole l old
    → (r : Result (Option ℕ) Error) → (length rows ≤ 1 → IfOk r (λ it. map (λ r. column r 0) rows ≡ as_row it)) → IfOk r (λ it. Finds tree at key it old.now.trees) × OnOk r ((new.now ≡ old.now) × IsWhole l new)
finds l tree at key old new rows told same whole (Ok it) h = (sym told.values ∙ h told.few, (same.0.now_is, whole_same l old new same whole))
finds l tree at key old new rows told same whole (Err e) h = (tt, tt)
