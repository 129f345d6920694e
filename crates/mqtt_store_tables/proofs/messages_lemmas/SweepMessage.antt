-- DELETE FROM message .. AND NOT EXISTS .., from its text on.
use Rattle.std.proofs.Common.{◌≡◌, ℕ, ◌+◌, ℤ, Bool, true, false, not, ◌&&◌, ◌||◌, cond, List, [], ◌∷◌, filter, map, flat_map, None, Ok, Err, Result, OnOk, codes, refl, sym, ap, ap₂, ◌∙◌, subst}
use Rattle.std.specs.List.{list_any, list_all}
use Rattle.std.specs.List.Sorted.{IsPermutation}
use Rattle.std.proofs.lemmas.List.Sorted.{IsPermutation-map}
use Rattle.sqlite_value.specs.declared.value.Value.TheVariants.{Null, Int}
use Rattle.sqlite_value.specs.declared.keys.Collation.TheVariants.{Binary}
use Rattle.sqlite_value.specs.Order.{Row, column}
use Rattle.sqlite_trees.specs.Tree.{Trees, rowid}
use Rattle.sqlite_schema.specs.Rules.{equal}
use Rattle.sqlite_schema.specs.declared.schema.Keys.TheVariants.{Enforced}
use Rattle.sqlite_sql.specs.declared.ops.BinaryOp.TheVariants.{Compare}
use Rattle.sqlite_sql.specs.declared.ops.CompareOp.TheVariants.{Eq}
use Rattle.sqlite_sql.specs.declared.ops.UnaryOp.TheVariants.{Not}
use Rattle.sqlite_sql.specs.Program.{overlay}
use Rattle.sqlite_rules.specs.Lists.{Has}
use Rattle.sqlite_rules.specs.Edit.{edit_of, taken_by}
use Rattle.sqlite_rules.specs.Calls.{ids_of}
use Rattle.sqlite_rules.specs.declared.error.Rowids.TheVariants.{Given}
use Rattle.sqlite_rules.proofs.ListLemmas.{all_has}
use Rattle.sqlite.specs.Command.TheVariants.{Delete}
use Rattle.sqlite.specs.Term.{Term, Env, col, op1, op2, holds}
use Rattle.sqlite.specs.Query.{Query, Output, Join, IsAnswer, inner, counted, end, output}
use Rattle.sqlite.specs.Does.{Does}
use Rattle.sqlite.specs.Listing.{understood}
use Rattle.sqlite.specs.State.{State, ExecutesInside, mode_of}
use Rattle.sqlite.specs.declared.error.Error.{Error}
use Rattle.sqlite_tied.specs.Compute.{everything}
use Rattle.sqlite.proofs.Callers.{IsPlain, command_of, statement_of, runs_as, one_step}
use Rattle.mqtt_store_tables.specs.schema.Tables.{message}
use Rattle.mqtt_store_tables.specs.declared.schema.tables.Making.{Making}
use Rattle.mqtt_store_tables.specs.declared.schema.tables.Making.TheVariants.{New, TakenOver}
use Rattle.mqtt_store_tables.specs.statements.Layout.{second_layout, schema_of}
use Rattle.mqtt_store_tables.specs.statements.Content.{is_of, IsShapedAt, IsWhole}
use Rattle.mqtt_store_tables.proofs.statements_lemmas.tables.Commands.{over, program, equals}
use Rattle.mqtt_store_tables.proofs.statements_lemmas.tables.Parts.{overlay_none, deleted}
use Rattle.mqtt_store_tables.proofs.statements_lemmas.tables.Rows.{filter_alike}
use Rattle.mqtt_store_tables.proofs.statements_lemmas.tables.Fresh.{and_true}
use Rattle.mqtt_store_tables.proofs.statements_lemmas.tables.Whole.{whole_after}
use Rattle.mqtt_store_tables.proofs.statements_lemmas.deletes.Removal.{shaped_left}
use Rattle.mqtt_store_tables.proofs.statements_lemmas.puts.PutSession.{own_number}
use Rattle.mqtt_store_tables.specs.messages.Places.{message_tree, queued_tree, kept_tree}
use Rattle.mqtt_store_tables.specs.messages.Messages.{is_referred, Sweeps}
use Rattle.mqtt_store_tables.proofs.messages_lemmas.Behind.{asked, message_at, message_is, message_shaped, message_childless}
use Rattle.mqtt_store_tables.proofs.messages_lemmas.Asking.{none_passes, shown_of, numbers_go}

abbrev pub sweep_text : List ℕ
sweep_text = codes "DELETE FROM message WHERE pub = ?1 AND NOT EXISTS (SELECT 1 FROM queued WHERE queued.pub = message.pub) AND NOT EXISTS (SELECT 1 FROM kept WHERE kept.pub = message.pub)"

-- the row of the slot refers to the message
abbrev refers : ℕ → ℕ → List Term
refers slot at = op2 (Compare Eq Binary) (col slot at) (col 1 0) ∷ []

-- each message, with whether a copy refers to it, and whether a retained message does
abbrev asks : Making → Join
asks making = inner (message_tree making) (counted 1 (inner (queued_tree making) end) (refers 2 3) (counted 1 (inner (kept_tree making) end) (refers 3 4) end))

abbrev tests : List Term
tests = equals 0 0 ∷ op1 Not (col 2 0) ∷ op1 Not (col 3 0) ∷ []

abbrev query : Making → Query
query making = record (over 0 tests (col 1 0 ∷ [])) { from = asks making }

abbrev Means : Making → Type 0
Means making = (command_of (understood (schema_of (second_layout making)) sweep_text) ≡ Delete (message_at making) (program (query making))) × IsPlain (understood (schema_of (second_layout making)) sweep_text)

means : (making : Making) → Means making
unfolding understood everything
means New = (refl, (refl, refl))
means TakenOver = (refl, (refl, refl))

both_none : (a b : Bool) → (not a && (not b && true)) ≡ not (a || b)
both_none true b = refl
both_none false true = refl
both_none false false = refl

module _ (making : Making) (n : ℤ) (db : Trees) where
  abbrev params : Row
  params = Int n ∷ []

  abbrev base : Trees
  base = overlay db []

  -- some row refers to the message that stands in the row
  abbrev named : ℕ → ℕ → Row → Bool
  named tree at r = list_any (λ x. equal Binary (column x at) (column r 0)) (db tree)

  abbrev copies_of : Row → List Env
  copies_of r = flat_map (λ x. cond (list_all (holds (params ∷ r ∷ x ∷ [])) (refers 2 3)) ((params ∷ r ∷ x ∷ []) ∷ []) []) (base (queued_tree making))

  abbrev with_copies : Row → Row
  with_copies r = Int (Rattle.std.proofs.Common.pos (Rattle.std.proofs.Common.min 1 (Rattle.std.proofs.Common.length (copies_of r)))) ∷ []

  abbrev kept_of : Row → List Env
  kept_of r = flat_map (λ x. cond (list_all (holds (params ∷ r ∷ with_copies r ∷ x ∷ [])) (refers 3 4)) ((params ∷ r ∷ with_copies r ∷ x ∷ []) ∷ []) []) (base (kept_tree making))

  abbrev with_kept : Row → Row
  with_kept r = Int (Rattle.std.proofs.Common.pos (Rattle.std.proofs.Common.min 1 (Rattle.std.proofs.Common.length (kept_of r)))) ∷ []

  abbrev env : Row → Env
  env r = params ∷ r ∷ with_copies r ∷ with_kept r ∷ []

  abbrev passes : Row → Bool
  passes r = list_all (holds (env r)) tests

  passes_are : (r : Row) → passes r ≡ (is_of 0 n r && (not (named (queued_tree making) 3 r) && (not (named (kept_tree making) 4 r) && true)))
  passes_are r = ap₂ (λ a b. is_of 0 n r && (a && (b && true)))
      (none_passes (λ x. list_all (holds (params ∷ r ∷ x ∷ [])) (refers 2 3)) (λ x. equal Binary (column x 3) (column r 0)) (λ x. and_true _) (λ x. params ∷ r ∷ x ∷ []) (base (queued_tree making))
      ∙ ap (λ rows. not (list_any (λ x. equal Binary (column x 3) (column r 0)) rows)) (overlay_none db (queued_tree making)))
      (none_passes (λ x. list_all (holds (params ∷ r ∷ with_copies r ∷ x ∷ [])) (refers 3 4)) (λ x. equal Binary (column x 4) (column r 0)) (λ x. and_true _) (λ x. params ∷ r ∷ with_copies r ∷ x ∷ []) (base (kept_tree making))
      ∙ ap (λ rows. not (list_any (λ x. equal Binary (column x 4) (column r 0)) rows)) (overlay_none db (kept_tree making)))

  -- a message of that number passes exactly if nothing refers to it
  same : (r : Row) → (b : Bool) → is_of 0 n r ≡ b → (b ≡ true → column r 0 ≡ Int n) → passes r ≡ (is_of 0 n r && not (is_referred making n db))
  same r true is own = passes_are r ∙ rw (is, own refl) (both_none _ _)
  same r false is own = passes_are r ∙ rw is refl

  module _ (shaped : IsShapedAt db (message_tree making)) where
    gone_is : (r : Row) → Has (db (message_tree making)) r → passes r ≡ (is_of 0 n r && not (is_referred making n db))
    gone_is r has = same r (is_of 0 n r) refl (λ own. own_number (rowid r) n (all_has _ (db (message_tree making)) r shaped.ints has) own)

    shown_are : (rows : List Row) → IsAnswer (query making) base params rows → IsPermutation (map (λ r. rowid r ∷ []) (filter passes (db (message_tree making)))) rows
    shown_are rows a =
        let q = query making in
        let staged : a.staged ≡ flat_map (λ r. cond (passes r) (env r ∷ []) []) (db (message_tree making)) = a.grouped ∙ ap (flat_map (λ r. cond (passes r) (env r ∷ []) [])) (overlay_none db (message_tree making)) in
        let shown : map (λ (o : Output). o.1) a.kept ≡ map (λ r. rowid r ∷ []) (filter passes (db (message_tree making))) =
        ap (map (λ (o : Output). o.1)) (a.distinct ∙ ap (map (output q)) staged) ∙ shown_of q env passes (db (message_tree making)) in
        rw (← shown) (subst (IsPermutation (map (λ (o : Output). o.1) a.kept)) (sym a.shown) (IsPermutation-map (λ (o : Output). o.1) a.kept a.ordered a.same))

-- the sweep takes out the message of that number if nothing refers to it, and leaves the transaction whole
pub sweeps : (making : Making) (n : ℤ) (old new : State) (r : Result ℕ Error) → IsWhole (second_layout making) old → ExecutesInside 0 sweep_text (Int n ∷ []) old new r
    → OnOk r (Sweeps making n old.now.trees new.now.trees) × OnOk r (IsWhole (second_layout making) new)
sweeps making n old new (Err e) whole h = (tt, tt)
sweeps making n old new (Ok count) whole h =
    let l = second_layout making in
    let db = old.now.trees in
    let tree = message_tree making in
    let params = Int n ∷ [] in
    let shaped = message_shaped making old whole in
    let command = Delete (message_at making) (program (query making)) in
    let said = statement_of sweep_text (understood (schema_of l) sweep_text) in
    let w = runs_as sweep_text params old new (schema_of l) whole.schema command (means making).0 (means making).1 count h.0 in
    let d = deleted old.step_limit params (record { schema = schema_of l; trees = db }) said (message_at making) (program (query making)) (message tree) w.tally new.now (message_is making)
    (subst (λ s. Does old.step_limit (mode_of old) params (record old.now { schema = s }) said None command (Ok (w.tally, new.now))) whole.schema w.changed) in
    let edit = edit_of db (message tree) (ids_of d.rows) Given 0 [] in
    let step = one_step (schema_of l) Enforced db new.now.trees edit (message_childless making (taken_by db edit)) d.writes in
    let gone = λ (r : Row). is_of 0 n r && not (is_referred making n db) in
    let shown = shown_are making n db shaped d.rows (d.answers.answer Null) in
    let left = numbers_go (passes making n db) (db tree) d.rows shaped.up shaped.ints shown in
    let rows = step.rows ∙ (left ∙ filter_alike _ (λ r. not (gone r)) (db tree) (λ r has. ap not (gone_is making n db shaped r has))) in (
      record { rows = rows; others = step.others },
      whole_after l (asked making) tree old new whole step.others (shaped_left db new.now.trees tree gone rows shaped) d.schema h.1.mode (rw d.schema at w.sound.obeys),
    )
