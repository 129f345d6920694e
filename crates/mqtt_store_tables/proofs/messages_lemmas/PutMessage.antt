-- INSERT INTO message .. WHERE NOT EXISTS .., from its text on.
use Rattle.std.proofs.Common.{◌≡◌, ℕ, min, pos, Bool, true, false, not, if◌then◌else◌, cond, List, [], ◌∷◌, map, flat_map, length, None, Ok, Err, Result, OnOk, codes, refl, sym, ap, ◌∙◌, subst}
use Rattle.std.specs.List.{list_any, list_all}
use Rattle.std.specs.List.Sorted.{IsPermutation}
use Rattle.std.proofs.lemmas.List.Sorted.{IsPermutation-map}
use Rattle.sqlite_value.specs.declared.value.Value.TheVariants.{Null, Int, Text, Blob}
use Rattle.sqlite_value.specs.declared.keys.Collation.TheVariants.{Binary}
use Rattle.sqlite_value.specs.Order.{Row}
use Rattle.sqlite_trees.specs.Tree.{Trees, put_row}
use Rattle.sqlite_trees.proofs.TreeLemmas.{IsShaped-put_row}
use Rattle.sqlite_schema.specs.declared.schema.Keys.TheVariants.{Enforced}
use Rattle.sqlite_schema.specs.declared.schema.Table.{Table}
use Rattle.sqlite_sql.specs.declared.ops.UnaryOp.TheVariants.{Not}
use Rattle.sqlite_sql.specs.Program.{overlay}
use Rattle.sqlite_rules.specs.Cast.{cast_row}
use Rattle.sqlite_rules.specs.Edit.{Edit, edit_of, put_all, taken_by, with_rowid}
use Rattle.sqlite_rules.specs.Action.{works, Writes}
use Rattle.sqlite_rules.specs.declared.error.Rowids.TheVariants.{Chosen}
use Rattle.sqlite.specs.Command.TheVariants.{Insert}
use Rattle.sqlite.specs.Source.TheVariants.{Query as Chosen_by}
use Rattle.sqlite.specs.Term.{Env, lit, col, op1, holds}
use Rattle.sqlite.specs.Query.{Query, Output, Join, IsAnswer, inner, counted, end, output}
use Rattle.sqlite.specs.Does.{Does, Tally}
use Rattle.sqlite.specs.Effect.{Database}
use Rattle.sqlite.specs.Rows.{Written}
use Rattle.sqlite.specs.Listing.{understood}
use Rattle.sqlite.specs.State.{State, ExecutesInside, mode_of}
use Rattle.sqlite.specs.declared.error.Error.{Error}
use Rattle.sqlite_tied.specs.Compute.{everything}
use Rattle.sqlite.proofs.Callers.{IsPlain, command_of, statement_of, runs_as, one_step, one_permutation}
use Rattle.mqtt_store_tables.specs.schema.Tables.{message}
use Rattle.mqtt_store_tables.specs.declared.schema.tables.Making.{Making}
use Rattle.mqtt_store_tables.specs.declared.schema.tables.Making.TheVariants.{New, TakenOver}
use Rattle.mqtt_store_tables.specs.statements.Layout.{second_layout, schema_of}
use Rattle.mqtt_store_tables.specs.statements.Content.{is_of, IsShapedAt, IsWhole}
use Rattle.mqtt_store_tables.proofs.statements_lemmas.tables.Commands.{over, program, equals}
use Rattle.mqtt_store_tables.proofs.statements_lemmas.tables.Parts.{overlay_none, went, same_value}
use Rattle.mqtt_store_tables.proofs.statements_lemmas.tables.Fresh.{and_true}
use Rattle.mqtt_store_tables.proofs.statements_lemmas.tables.Whole.{whole_after}
use Rattle.mqtt_store_tables.proofs.statements_lemmas.tables.Numbers.{cast_int, cast_null}
use Rattle.mqtt_store_tables.specs.messages.Places.{message_tree}
use Rattle.mqtt_store_tables.specs.messages.Rows.{MessageColumns, message_row}
use Rattle.mqtt_store_tables.specs.messages.Messages.{with_missing, PutsMessage}
use Rattle.mqtt_store_tables.proofs.messages_lemmas.Behind.{asked, message_at, message_is, message_shaped, message_childless, message_unworked}
use Rattle.mqtt_store_tables.proofs.messages_lemmas.Asking.{none_passes, none_left}

abbrev pub put_text : List ℕ
put_text = codes "INSERT INTO message SELECT ?1, ?2, ?3, ?4 WHERE NOT EXISTS (SELECT 1 FROM message WHERE pub = ?1)"

-- no table, with whether a message of the number stands
abbrev asks : Making → Join
asks making = counted 1 (inner (message_tree making) end) (equals 0 0 ∷ []) end

abbrev query : Making → Query
query making = record (over 0 (op1 Not (col 1 0) ∷ []) (col 0 0 ∷ lit Null ∷ col 0 1 ∷ col 0 2 ∷ col 0 3 ∷ [])) { from = asks making; collations = Binary ∷ Binary ∷ Binary ∷ Binary ∷ Binary ∷ [] }

abbrev Means : Making → Type 0
Means making = (command_of (understood (schema_of (second_layout making)) put_text) ≡ Insert (message_at making) (Chosen_by (program (query making)))) × IsPlain (understood (schema_of (second_layout making)) put_text)

means : (making : Making) → Means making
unfolding understood everything
means New = (refl, (refl, refl))
means TakenOver = (refl, (refl, refl))

-- what is put: the row, or nothing
abbrev news : Bool → Row → List Row
news stands put = if stands then [] else put ∷ []

module _ (making : Making) (number : ℕ) (m : MessageColumns) (db : Trees) (shaped : IsShapedAt db (message_tree making)) where
  abbrev table : Table
  table = message (message_tree making)

  abbrev rows_there : List Row
  rows_there = db (message_tree making)

  abbrev put : Row
  put = message_row number m

  abbrev params : Row
  params = Int (pos number) ∷ Text m.topic ∷ Blob m.props ∷ Blob m.payload ∷ []

  abbrev base : Trees
  base = overlay db []

  abbrev stands : Bool
  stands = list_any (is_of 0 (pos number)) rows_there

  abbrev those : List Env
  those = flat_map (λ x. cond (list_all (holds (params ∷ x ∷ [])) (equals 0 0 ∷ [])) ((params ∷ x ∷ []) ∷ []) []) (base (message_tree making))

  abbrev env : Env
  env = params ∷ (Int (pos (min 1 (length those))) ∷ []) ∷ []

  passes_is : list_all (holds env) (op1 Not (col 1 0) ∷ []) ≡ not stands
  passes_is = and_true _
      ∙ (none_passes (λ x. list_all (holds (params ∷ x ∷ [])) (equals 0 0 ∷ [])) (is_of 0 (pos number)) (λ x. and_true _) (λ x. params ∷ x ∷ []) (base (message_tree making))
      ∙ ap (λ rows. not (list_any (is_of 0 (pos number)) rows)) (overlay_none db (message_tree making)))

  abbrev Shows : Bool → List Env → Type 0
  Shows b staged = map (λ (o : Output). o.1) (map (output (query making)) staged) ≡ news b put

  shown_is : (b : Bool) → stands ≡ b → Shows b (cond (list_all (holds env) (op1 Not (col 1 0) ∷ [])) (env ∷ []) [])
  shown_is true is = rw (passes_is, is) refl
  shown_is false is = rw (passes_is, is) refl

  permuted : (b : Bool) (rows : List Row) → IsPermutation (news b put) rows → rows ≡ news b put
  permuted true rows h = none_left rows h
  permuted false rows h = one_permutation put rows h

  -- the query gives the row, or nothing
  given_is : (b : Bool) → stands ≡ b → (rows : List Row) → IsAnswer (query making) base params rows → rows ≡ news b put
  given_is b is rows a =
      let shown : map (λ (o : Output). o.1) a.kept ≡ news b put = ap (map (λ (o : Output). o.1)) (a.distinct ∙ ap (map (output (query making))) a.grouped) ∙ shown_is b is in
      permuted b rows (rw (← shown) (subst (IsPermutation (map (λ (o : Output). o.1) a.kept)) (sym a.shown) (IsPermutation-map (λ (o : Output). o.1) a.kept a.ordered a.same)))

  cast_put : cast_row table put ≡ put
  cast_put = rw (cast_int (pos number), cast_null)

  edit_is : (b : Bool) → edit_of db table [] Chosen 0 (news b put) ≡ record { table = table; gone = []; news = news b put }
  edit_is true = refl
  edit_is false = ap (λ (r : Row). record { table = table; gone = []; news = with_rowid Chosen rows_there r ∷ [] }) cast_put

  idle : (b : Bool) (olds : List Row) → works (schema_of (second_layout making)) Enforced 0 (message_tree making) olds (news b put) ≡ []
  idle true olds = message_childless making olds
  idle false olds = message_unworked making olds put

  rows_are : (b : Bool) → stands ≡ b → (after : List Row) → after ≡ (if b then rows_there else put_row put rows_there) → after ≡ with_missing (pos number) put rows_there
  rows_are b is after h = rw is h

  -- what is written is the row if none of its number stands
  goes : (b : Bool) → stands ≡ b → (after : Trees) → Writes (schema_of (second_layout making)) Enforced db (edit_of db table [] Chosen 0 (news b put)) (Ok after) → PutsMessage making (pos number) put db after
  goes b is after h =
      let edit : Edit = record { table = table; gone = []; news = news b put } in
      let a = one_step (schema_of (second_layout making)) Enforced db after edit (idle b (taken_by db edit)) (subst (λ e. Writes (schema_of (second_layout making)) Enforced db e (Ok after)) (edit_is b) h) in
      record { rows = rows_are b is (after (message_tree making)) (left b (after (message_tree making)) a.rows); others = a.others }
    where
      left : (b : Bool) (x : List Row) → x ≡ put_all rows_there (news b put) → x ≡ (if b then rows_there else put_row put rows_there)
      left true x h = h
      left false x h = h

  -- messages still rise by their numbers
  still_shaped : (after : Trees) → PutsMessage making (pos number) put db after → IsShapedAt after (message_tree making)
  still_shaped after p = either stands refl
    where
      either : (b : Bool) → stands ≡ b → IsShapedAt after (message_tree making)
      either true is = let same : after (message_tree making) ≡ rows_there = rw is at p.rows in record { up = rw same shaped.up; ints = rw same shaped.ints }
      either false is =
          let same : after (message_tree making) ≡ put_row put rows_there = rw is at p.rows in
          let both = IsShaped-put_row put rows_there refl (shaped.up, shaped.ints) in
          record { up = rw same both.0; ints = rw same both.1 }

-- the INSERT of a message puts its row if none of its number stands, and leaves the transaction whole
pub puts : (making : Making) (number : ℕ) (m : MessageColumns) (old new : State) (r : Result ℕ Error) → IsWhole (second_layout making) old
    → ExecutesInside 0 put_text (Int (pos number) ∷ Text m.topic ∷ Blob m.props ∷ Blob m.payload ∷ []) old new r
    → OnOk r (PutsMessage making (pos number) (message_row number m) old.now.trees new.now.trees) × OnOk r (IsWhole (second_layout making) new)
puts making number m old new (Err e) whole h = (tt, tt)
puts making number m old new (Ok count) whole h =
    let l = second_layout making in
    let db = old.now.trees in
    let tree = message_tree making in
    let put = message_row number m in
    let params = Int (pos number) ∷ Text m.topic ∷ Blob m.props ∷ Blob m.payload ∷ [] in
    let shaped = message_shaped making old whole in
    let stands = list_any (is_of 0 (pos number)) (db tree) in
    let command = Insert (message_at making) (Chosen_by (program (query making))) in
    let said = statement_of put_text (understood (schema_of l) put_text) in
    let w = runs_as put_text params old new (schema_of l) whole.schema command (means making).0 (means making).1 count h.0 in
    let done = went (rw (message_is making) at (subst (λ s. Does old.step_limit (mode_of old) params (record old.now { schema = s }) said None command (Ok (w.tally, new.now))) whole.schema w.changed)) in
    let now = ap (λ (p : Tally × Database). p.1) (same_value (went (went done.2).2).2) in
    let source = went done.1 in
    let wrote = went (went source.2).2 in
    let counted = went wrote.2 in
    let trees : done.0.trees ≡ wrote.0 = ap (λ (it : Written). it.trees) (same_value counted.2) ∙ same_value counted.1 in
    let is : new.now.trees ≡ wrote.0 = ap (λ (d : Database). d.trees) now ∙ trees in
    let given = given_is making number m db shaped stands refl source.0 (source.1.answer Null) in
    let went_in = goes making number m db shaped stands refl wrote.0 (subst (λ (rows : List Row). Writes (schema_of l) Enforced db (edit_of db (message tree) [] Chosen 0 rows) (Ok wrote.0)) given wrote.1) in
    let p = subst (PutsMessage making (pos number) put db) (sym is) went_in in
    let schema : new.now.schema ≡ schema_of l = ap (λ (d : Database). d.schema) now in
    (p, whole_after l (asked making) tree old new whole p.others (still_shaped making number m db shaped new.now.trees p) schema h.1.mode (rw schema at w.sound.obeys))
