-- INSERT INTO queued of four rows, from its text on.
use Rattle.std.proofs.Common.{◌≡◌, ℕ, pos, true, false, List, [], ◌∷◌, map, drop, codes, None, Ok, refl, sym, ap, ◌∙◌, subst, inl, true≢false, IsTrue}
use Rattle.std.specs.List.{AllByRecursion, list_any}
use Rattle.std.specs.Ordering.{is_eq}
use Rattle.std.proofs.lemmas.Bool.{false_from_ne_true, and_parts, and_from, eq-eqb, ne_eqb}
use Rattle.std.proofs.lemmas.Cmp.{tied_itself}
use Rattle.sqlite_value.specs.declared.value.Value.TheVariants.{Null, Int}
use Rattle.sqlite_value.specs.Keys.{joined}
use Rattle.sqlite_value.specs.Order.{Row, value_cmp}
use Rattle.sqlite_value.proofs.OrderLemmas.{value_cmp_total}
use Rattle.sqlite_trees.specs.Tree.{Trees, IsTable, rowid, put_row, with_tree}
use Rattle.sqlite_trees.specs.View.{is_int}
use Rattle.sqlite_trees.proofs.TreeLemmas.{IsShaped-put_row}
use Rattle.sqlite_schema.specs.Names.{same_name}
use Rattle.sqlite_schema.specs.Rules.{Obeys}
use Rattle.sqlite_schema.specs.declared.schema.Keys.TheVariants.{Enforced}
use Rattle.sqlite_rules.specs.Lists.{Has}
use Rattle.sqlite_rules.specs.Cast.{cast_row}
use Rattle.sqlite_rules.specs.Edit.{Edit, edit_of, taken_by, next_rowid, numbered, put_all, are_fresh, with_rowid, Applies}
use Rattle.sqlite_rules.specs.Action.{works, Writes}
use Rattle.sqlite_rules.specs.declared.error.Rowids.TheVariants.{Chosen}
use Rattle.sqlite_rules.proofs.ListLemmas.{some_has}
use Rattle.sqlite_rules.proofs.TableLemmas.{put_all_keeps, put_all_adds}
use Rattle.sqlite.specs.Command.TheVariants.{Insert}
use Rattle.sqlite.specs.Source.TheVariants.{Values}
use Rattle.sqlite.specs.Term.{Term, lit, col}
use Rattle.sqlite.specs.Does.{Does, Tally}
use Rattle.sqlite.specs.Effect.{Database}
use Rattle.sqlite.specs.Rows.{Written}
use Rattle.sqlite.specs.Listing.{understood}
use Rattle.sqlite.specs.State.{State, ExecutesInside, mode_of}
use Rattle.sqlite_tied.specs.Compute.{everything}
use Rattle.sqlite.proofs.Callers.{IsPlain, command_of, statement_of, runs_as, one_step}
use Rattle.mqtt_store_tables.specs.schema.Tables.{queued}
use Rattle.mqtt_store_tables.specs.declared.schema.tables.Making.{Making}
use Rattle.mqtt_store_tables.specs.declared.schema.tables.Making.TheVariants.{New, TakenOver}
use Rattle.mqtt_store_tables.specs.statements.Layout.{second_layout, schema_of}
use Rattle.mqtt_store_tables.specs.statements.Content.{IsShapedAt, IsWhole}
use Rattle.mqtt_store_tables.specs.statements.Removal.{is_keyed}
use Rattle.mqtt_store_tables.proofs.statements_lemmas.tables.Numbers.{cast_null, own_number}
use Rattle.mqtt_store_tables.proofs.statements_lemmas.steps.Stands.{given_free}
use Rattle.mqtt_store_tables.proofs.statements_lemmas.tables.Parts.{went, same_value}
use Rattle.mqtt_store_tables.proofs.statements_lemmas.tables.Whole.{Spares, whole_after}
use Rattle.mqtt_store_tables.specs.messages.Places.{queued_tree}
use Rattle.mqtt_store_tables.specs.messages.Comings.{InsertsQueued}
use Rattle.mqtt_store_tables.specs.together.Together.{Coming, coming_row, coming_rows, ComeEach}
use Rattle.mqtt_store_tables.proofs.messages_lemmas.Behind.{asked, queued_at, queued_is, queued_shaped}
use Rattle.mqtt_store_tables.proofs.messages_lemmas.PutQueued.{cast_put}
use Rattle.mqtt_store_tables.proofs.messages_lemmas.InsertQueued.{all_stay}
use Rattle.mqtt_store_tables.proofs.messages_lemmas.SetQueued.{one_queued}

abbrev pub four_text : List ℕ
four_text = codes "INSERT INTO queued VALUES (?1, ?2, ?3, ?4, ?5, ?6, ?7, ?8, ?9, ?10, ?11, ?12, ?13), (?14, ?15, ?16, ?17, ?18, ?19, ?20, ?21, ?22, ?23, ?24, ?25, ?26), (?27, ?28, ?29, ?30, ?31, ?32, ?33, ?34, ?35, ?36, ?37, ?38, ?39), (?40, ?41, ?42, ?43, ?44, ?45, ?46, ?47, ?48, ?49, ?50, ?51, ?52)"

-- each row's number, which the table gives it, and its parameters
abbrev four_terms : List Term
four_terms =
    lit Null ∷ col 0 0 ∷ col 0 1 ∷ col 0 2 ∷ col 0 3 ∷ col 0 4 ∷ col 0 5 ∷ col 0 6 ∷ col 0 7 ∷ col 0 8 ∷ col 0 9 ∷ col 0 10 ∷ col 0 11 ∷ col 0 12
    ∷ lit Null ∷ col 0 13 ∷ col 0 14 ∷ col 0 15 ∷ col 0 16 ∷ col 0 17 ∷ col 0 18 ∷ col 0 19 ∷ col 0 20 ∷ col 0 21 ∷ col 0 22 ∷ col 0 23 ∷ col 0 24 ∷ col 0 25
    ∷ lit Null ∷ col 0 26 ∷ col 0 27 ∷ col 0 28 ∷ col 0 29 ∷ col 0 30 ∷ col 0 31 ∷ col 0 32 ∷ col 0 33 ∷ col 0 34 ∷ col 0 35 ∷ col 0 36 ∷ col 0 37 ∷ col 0 38
    ∷ lit Null ∷ col 0 39 ∷ col 0 40 ∷ col 0 41 ∷ col 0 42 ∷ col 0 43 ∷ col 0 44 ∷ col 0 45 ∷ col 0 46 ∷ col 0 47 ∷ col 0 48 ∷ col 0 49 ∷ col 0 50 ∷ col 0 51 ∷ []

abbrev Means : Making → Type 0
Means making = (command_of (understood (schema_of (second_layout making)) four_text) ≡ Insert (queued_at making) (Values four_terms 14)) × IsPlain (understood (schema_of (second_layout making)) four_text)

means : (making : Making) → Means making
unfolding understood everything
means New = (refl, (refl, refl))
means TakenOver = (refl, (refl, refl))

-- no table refers to copies, so those that are put set nothing off
unworked : (making : Making) (olds : List Row) (w x y z : Row) → works (schema_of (second_layout making)) Enforced 0 (queued_tree making) olds (w ∷ x ∷ y ∷ z ∷ []) ≡ []
unfolding same_name joined
unworked New olds w x y z = refl
unworked TakenOver olds w x y z = refl

-- a copy's row behind the number that a table with those rows gives it
abbrev next_row : List Row → Coming → Row
next_row rows c = Int (next_rowid rows) ∷ coming_row c

-- each behind the number that the table gives it, which has those before it
abbrev news : List Row → List Coming → List Row
news rows [] = []
news rows (c ∷ cs) = next_row rows c ∷ news (put_row (next_row rows c) rows) cs

abbrev sources : List Coming → List Row
sources = map (λ c. Null ∷ coming_row c)

-- what is written are these rows
numbered_are : (tree : ℕ) (rows : List Row) (cs : List Coming) → numbered Chosen rows (map (λ (s : Row). cast_row (queued tree) (drop 0 s)) (sources cs)) ≡ news rows cs
numbered_are tree rows [] = refl
numbered_are tree rows (c ∷ cs) =
    ap (λ (r : Row). with_rowid Chosen rows r ∷ numbered Chosen (put_row (with_rowid Chosen rows r) rows) (map (λ (s : Row). cast_row (queued tree) (drop 0 s)) (sources cs))) (cast_put tree c.birth c.place c.copy Null cast_null)
    ∙ ap (λ (rest : List Row). next_row rows c ∷ rest) (numbered_are tree (put_row (next_row rows c) rows) cs)

abbrev Rises : List Row → Type 0
Rises rows = IsTable rows × AllByRecursion (λ r. IsTrue (is_int (rowid r))) rows

-- the table rises by its numbers still
rise : (rows : List Row) (cs : List Coming) → Rises rows → Rises (put_all rows (news rows cs))
rise rows [] h = h
rise rows (c ∷ cs) h = rise (put_row (next_row rows c) rows) cs (IsShaped-put_row (next_row rows c) rows refl h)

module _ (making : Making) (after : Trees) (obeys : Obeys (schema_of (second_layout making)) after) (still : IsShapedAt after (queued_tree making)) where
  abbrev tree : ℕ
  tree = queued_tree making

  -- since no two copies have one key, none had that of one that was put
  none_stood : (db : Trees) (c : Coming) (cs : List Coming) → IsShapedAt db tree → are_fresh (db tree) (news (db tree) (c ∷ cs)) ≡ true → after tree ≡ put_all (db tree) (news (db tree) (c ∷ cs))
      → list_any (is_keyed (pos c.birth) (pos c.place)) (db tree) ≡ false
  none_stood db c cs shaped fresh rows = false_from_ne_true _ (λ stood.
      let put = next_row (db tree) c in
      let x = some_has (is_keyed (pos c.birth) (pos c.place)) (db tree) stood in
      let old : Has (after tree) x.0 = subst (λ (l : List Row). Has l x.0) (sym rows) (put_all_keeps (news (db tree) (c ∷ cs)) (db tree) x.0 fresh x.1) in
      let own : Has (after tree) put = subst (λ (l : List Row). Has l put) (sym rows) (put_all_adds (news (db tree) (c ∷ cs)) (db tree) put fresh (inl refl)) in
      let same : x.0 ≡ put = one_queued making after c.birth c.place x.0 put obeys still old own x.2 (and_from _ _ (own_number c.birth) (own_number c.place)) in
      let tied : is_eq (value_cmp (rowid x.0) (rowid put)) ≡ true = rw same (ap is_eq (tied_itself value_cmp_total (rowid put))) in
      true≢false (sym tied ∙ given_free tree (coming_row c) (λ r. false) (db) shaped x.0 x.1 refl))

  -- one is put where none stood
  one_comes : (db mid : Trees) (c : Coming) → mid tree ≡ put_row (next_row (db tree) c) (db tree) → Spares (second_layout making) tree db mid → list_any (is_keyed (pos c.birth) (pos c.place)) (db tree) ≡ false
      → InsertsQueued making c.birth c.place c.copy true db mid
  one_comes db mid c rows others nowhere = (
    nowhere,
    record { rows = rows ∙ ap (put_row (next_row (db tree) c)) (sym (all_stay (is_keyed (pos c.birth) (pos c.place)) (db tree) nowhere)); others = others },
  )

  -- what is put together is put one by one
  all_come : (db : Trees) (c : Coming) (cs : List Coming) → IsShapedAt db tree → are_fresh (db tree) (news (db tree) (c ∷ cs)) ≡ true → after tree ≡ put_all (db tree) (news (db tree) (c ∷ cs)) → Spares (second_layout making) tree db after
      → ComeEach making (c ∷ cs) db after
  all_come db c [] shaped fresh rows others = (after, one_comes db after c rows others (none_stood db c [] shaped fresh rows), refl)
  all_come db c (d ∷ cs) shaped fresh rows others =
      let put = next_row (db tree) c in
      let mid = with_tree db tree (put_row put (db tree)) in
      let here : mid tree ≡ put_row put (db tree) = rw (eq-eqb tree tree refl) refl in
      let spared : Spares (second_layout making) tree db mid = λ t other index. rw (ne_eqb t tree other) refl in
      let rises = IsShaped-put_row put (db tree) refl (shaped.up, shaped.ints) in (
        mid,
        one_comes db mid c here spared (none_stood db c (d ∷ cs) shaped fresh rows),
        all_come mid d cs (record { up = rw here rises.0; ints = rw here rises.1 }) (rw here (and_parts _ _ fresh).1) (rw here rows) (λ t other index. others t other index ∙ sym (spared t other index)),
      )

-- the INSERT of four copies puts each where none stood, and leaves the transaction whole
pub inserts_four : (making : Making) (a b c d : Coming) (old new : State) (count : ℕ) → IsWhole (second_layout making) old → ExecutesInside 0 four_text (coming_rows (a ∷ b ∷ c ∷ d ∷ [])) old new (Ok count)
    → ComeEach making (a ∷ b ∷ c ∷ d ∷ []) old.now.trees new.now.trees × IsWhole (second_layout making) new
inserts_four making a b c d old new count whole h =
    let l = second_layout making in
    let db = old.now.trees in
    let tree = queued_tree making in
    let cs = a ∷ b ∷ c ∷ d ∷ [] in
    let row = coming_rows cs in
    let shaped = queued_shaped making old whole in
    let command = Insert (queued_at making) (Values four_terms 14) in
    let said = statement_of four_text (understood (schema_of l) four_text) in
    let w = runs_as four_text row old new (schema_of l) whole.schema command (means making).0 (means making).1 count h.0 in
    let done = went (rw (queued_is making) at (subst (λ s. Does old.step_limit (mode_of old) row (record old.now { schema = s }) said None command (Ok (w.tally, new.now))) whole.schema w.changed)) in
    let now = ap (λ (p : Tally × Database). p.1) (same_value (went (went done.2).2).2) in
    let source = went done.1 in
    let wrote = went (went source.2).2 in
    let counted = went wrote.2 in
    let trees : done.0.trees ≡ wrote.0 = ap (λ (it : Written). it.trees) (same_value counted.2) ∙ same_value counted.1 in
    let is : new.now.trees ≡ wrote.0 = ap (λ (d : Database). d.trees) now ∙ trees in
    let edit : Edit = record { table = queued tree; gone = []; news = news (db tree) cs } in
    let wrote_is : Writes (schema_of l) Enforced db (edit_of db (queued tree) [] Chosen 0 (sources cs)) (Ok wrote.0) = subst (λ (rows : List Row). Writes (schema_of l) Enforced db (edit_of db (queued tree) [] Chosen 0 rows) (Ok wrote.0)) source.1.1 wrote.1 in
    let is_edit : Writes (schema_of l) Enforced db edit (Ok wrote.0) = subst (λ (rows : List Row). Writes (schema_of l) Enforced db (record { table = queued tree; gone = []; news = rows }) (Ok wrote.0)) (numbered_are tree (db tree) cs) wrote_is in
    let w1 = next_row (db tree) a in
    let w2 = next_row (put_row w1 (db tree)) b in
    let w3 = next_row (put_row w2 (put_row w1 (db tree))) c in
    let w4 = next_row (put_row w3 (put_row w2 (put_row w1 (db tree)))) d in
    let first = subst (Applies (schema_of l) Enforced db edit) (sym is) (one_step (schema_of l) Enforced db wrote.0 edit (unworked making (taken_by db edit) w1 w2 w3 w4) is_edit) in
    let schema : new.now.schema ≡ schema_of l = ap (λ (d : Database). d.schema) now in
    let rises = rise (db tree) cs (shaped.up, shaped.ints) in
    let rows : new.now.trees tree ≡ put_all (db tree) (news (db tree) cs) = first.rows in
    let still : IsShapedAt new.now.trees tree = record { up = rw rows rises.0; ints = rw rows rises.1 } in
    let obeys : Obeys (schema_of l) new.now.trees = rw schema at w.sound.obeys in (
      all_come making new.now.trees obeys still db a (b ∷ c ∷ d ∷ []) shaped first.fresh rows first.others,
      whole_after l (asked making) tree old new whole first.others still schema h.1.mode obeys,
    )
