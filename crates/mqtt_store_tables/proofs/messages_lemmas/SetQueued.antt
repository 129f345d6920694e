-- UPDATE queued, from its text on.
use Rattle.std.proofs.Common.{◌≡◌, ℕ, ℤ, pos, cond, Bool, true, not, ◌&&◌, List, [], ◌∷◌, filter, map, Option, None, Ok, Err, Result, OnOk, refl, sym, ap, ◌∙◌, subst, codes, true≢false}
use Rattle.std.specs.List.{list_any}
use Rattle.std.specs.List.Sorted.{IsPermutation}
use Rattle.std.proofs.lemmas.Cmp.{tied_itself}
use Rattle.std.proofs.lemmas.Bool.{false_from_ne_true, and_parts, and_from}
use Rattle.sqlite_value.specs.declared.value.Value.TheVariants.{Null, Int}
use Rattle.sqlite_value.specs.Keys.{plain, first_key}
use Rattle.sqlite_value.specs.Order.{Row, column}
use Rattle.sqlite_value.proofs.OrderLemmas.{value_cmp_total}
use Rattle.sqlite_trees.specs.Tree.{Trees, rowid, has_rowid, without_rowid}
use Rattle.sqlite_trees.specs.declared.store.Shape.TheVariants.{Table}
use Rattle.sqlite_trees.proofs.TreeLemmas.{IsShaped-filter, IsShaped-put_row}
use Rattle.sqlite_schema.specs.Rules.{agree, differ, Obeys}
use Rattle.sqlite_schema.specs.declared.schema.Constraint.TheVariants.{Unique}
use Rattle.sqlite_schema.specs.declared.schema.Keys.TheVariants.{Enforced}
use Rattle.sqlite_rules.specs.Lists.{Has}
use Rattle.sqlite_rules.specs.Cast.{cast_row}
use Rattle.sqlite_rules.specs.Edit.{Edit, edit_of, taken_by, without_all}
use Rattle.sqlite_rules.specs.Calls.{ids_of}
use Rattle.sqlite_rules.specs.Action.{Writes}
use Rattle.sqlite_rules.specs.declared.error.Rowids.TheVariants.{Given}
use Rattle.sqlite_rules.proofs.ListLemmas.{all_has, some_from}
use Rattle.sqlite_rules.proofs.RuleLemmas.{keeps_at}
use Rattle.sqlite_rules.proofs.KeyLemmas.{agree_back, agree_chain}
use Rattle.sqlite_rules.proofs.PlaceLemmas.{given, tied_same}
use Rattle.sqlite_rules.proofs.TableLemmas.{int_is}
use Rattle.sqlite.specs.Command.TheVariants.{Update}
use Rattle.sqlite.specs.Term.{Term, col}
use Rattle.sqlite.specs.Query.{IsAnswer}
use Rattle.sqlite.specs.Does.{Does}
use Rattle.sqlite.specs.Listing.{understood}
use Rattle.sqlite.specs.State.{State, ExecutesInside, mode_of}
use Rattle.sqlite.specs.declared.error.Error.{Error}
use Rattle.sqlite_sql.specs.Program.{overlay}
use Rattle.sqlite_tied.specs.Compute.{everything}
use Rattle.sqlite.proofs.Callers.{IsPlain, command_of, statement_of, runs_as, one_permutation, one_step}
use Rattle.mqtt_store_tables.specs.schema.Tables.{queued}
use Rattle.mqtt_store_tables.specs.declared.schema.tables.Making.{Making}
use Rattle.mqtt_store_tables.specs.declared.schema.tables.Making.TheVariants.{New, TakenOver}
use Rattle.mqtt_store_tables.specs.statements.Layout.{second_layout, schema_of}
use Rattle.mqtt_store_tables.specs.statements.Content.{IsShapedAt, IsWhole}
use Rattle.mqtt_store_tables.specs.statements.Copy.{number_or_null}
use Rattle.mqtt_store_tables.specs.statements.Removal.{is_keyed}
use Rattle.mqtt_store_tables.proofs.statements_lemmas.tables.Commands.{over, program}
use Rattle.mqtt_store_tables.proofs.statements_lemmas.tables.Parts.{passes, shows, answers_over, updated}
use Rattle.mqtt_store_tables.proofs.statements_lemmas.tables.Whole.{whole_after}
use Rattle.mqtt_store_tables.proofs.statements_lemmas.deletes.RemoveSession.{only_row}
use Rattle.mqtt_store_tables.proofs.statements_lemmas.sets.SetAny.{any_whole}
use Rattle.mqtt_store_tables.proofs.statements_lemmas.tables.Numbers.{cast_int, cast_number, same_rowid, own_number}
use Rattle.mqtt_store_tables.specs.messages.Places.{queued_tree}
use Rattle.mqtt_store_tables.specs.messages.Rows.{QueuedColumns, queued_row}
use Rattle.mqtt_store_tables.specs.messages.Copies.{set_queued, SetsQueued}
use Rattle.mqtt_store_tables.proofs.messages_lemmas.Behind.{asked, queued_at, queued_is, queued_listed, queued_shaped, queued_childless, queued_unworked}
use Rattle.mqtt_store_tables.proofs.messages_lemmas.Deletes.{by_both, both_true}

abbrev pub set_text : List ℕ
set_text = codes "UPDATE queued SET pid = ?3, phase = ?4, rel = ?5 WHERE birth = ?1 AND place = ?2"

abbrev project : List Term
project = col 1 0 ∷ col 1 0 ∷ col 1 1 ∷ col 1 2 ∷ col 1 3 ∷ col 1 4 ∷ col 1 5 ∷ col 1 6 ∷ col 0 2 ∷ col 0 3 ∷ col 0 4 ∷ col 1 10 ∷ col 1 11 ∷ col 1 12 ∷ col 1 13 ∷ []

abbrev Means : Making → Type 0
Means making = (command_of (understood (schema_of (second_layout making)) set_text) ≡ Update (queued_at making) (program (over (queued_tree making) by_both project))) × IsPlain (understood (schema_of (second_layout making)) set_text)

means : (making : Making) → Means making
unfolding understood everything
means New = (refl, (refl, refl))
means TakenOver = (refl, (refl, refl))

abbrev has_key_of : Row → Row → Bool
has_key_of one other = agree plain (1 ∷ 2 ∷ []) other (1 ∷ 2 ∷ []) one && differ (rowid other) (rowid one)

unclashed : (making : Making) (db : Trees) (one : Row) → Obeys (schema_of (second_layout making)) db → Has (db (queued_tree making)) one → list_any (has_key_of one) (db (queued_tree making)) ≡ true → ⊥
unfolding first_key
unclashed New db one obeys has clash =
    let kept = keeps_at Unique (schema_of (second_layout New)) db (queued 10) one (obeys.rules Unique) (queued_listed New) has in
    let bad = rw clash at kept in true≢false (sym bad)
unclashed TakenOver db one obeys has clash =
    let kept = keeps_at Unique (schema_of (second_layout TakenOver)) db (queued 14) one (obeys.rules Unique) (queued_listed TakenOver) has in
    let bad = rw clash at kept in true≢false (sym bad)

-- no two copies have one key
pub one_queued : (making : Making) (db : Trees) (b p : ℕ) (x one : Row) → Obeys (schema_of (second_layout making)) db → IsShapedAt db (queued_tree making) → Has (db (queued_tree making)) x → Has (db (queued_tree making)) one
    → is_keyed (pos b) (pos p) x ≡ true → is_keyed (pos b) (pos p) one ≡ true → x ≡ one
unfolding first_key
one_queued making db b p x one obeys shaped hx ho px po =
    let rows = db (queued_tree making) in
    let params = Int (pos b) ∷ Int (pos p) ∷ [] in
    let ax : agree plain (1 ∷ 2 ∷ []) x (0 ∷ 1 ∷ []) params ≡ true = and_from _ _ (and_parts _ _ px).0 (and_from _ _ (and_parts _ _ px).1 refl) in
    let ao : agree plain (1 ∷ 2 ∷ []) one (0 ∷ 1 ∷ []) params ≡ true = and_from _ _ (and_parts _ _ po).0 (and_from _ _ (and_parts _ _ po).1 refl) in
    let both : agree plain (1 ∷ 2 ∷ []) x (1 ∷ 2 ∷ []) one ≡ true = agree_chain plain (1 ∷ 2 ∷ []) (0 ∷ 1 ∷ []) (1 ∷ 2 ∷ []) x params one ax (agree_back plain (1 ∷ 2 ∷ []) (0 ∷ 1 ∷ []) one params ao) in
    let near = false_from_ne_true (differ (rowid x) (rowid one)) (λ d. unclashed making db one obeys ho (some_from (has_key_of one) rows x hx (and_from _ _ both d))) in
    let ix = int_is (rowid x) (all_has _ rows x shaped.ints hx) in
    let io = int_is (rowid one) (all_has _ rows one shaped.ints ho) in
    tied_same rows x one shaped.up hx ho (rw (ix, io) (same_rowid _ _ (rw (ix, io) at near)))

module _ (making : Making) (birth place phase : ℕ) (pid rel : Option ℕ) (db after : Trees) (c : QueuedColumns) (id : ℤ) (shaped : IsShapedAt db (queued_tree making)) (obeys : Obeys (schema_of (second_layout making)) db) where
  abbrev params : Row
  params = Int (pos birth) ∷ Int (pos place) ∷ number_or_null pid ∷ Int (pos phase) ∷ number_or_null rel ∷ []

  abbrev one : Row
  one = Int id ∷ queued_row birth place c

  abbrev put : Row
  put = Int id ∷ queued_row birth place (set_queued pid phase rel c)

  is_own : is_keyed (pos birth) (pos place) one ≡ true
  is_own = and_from _ _ (own_number birth) (own_number place)

  found : Has (db (queued_tree making)) one → (rows : List Row) → IsAnswer (over (queued_tree making) by_both project) (overlay db []) params rows → rows ≡ (Int id ∷ put) ∷ []
  found has rows a =
      let alone : filter (passes params by_both) (db (queued_tree making)) ≡ one ∷ [] = only_row (db (queued_tree making)) (passes params by_both) one shaped.up has (both_true _ _ ∙ is_own)
      (λ r h p. rw (one_queued making db birth place r one obeys shaped h has (sym (both_true _ _) ∙ p) is_own) (tied_itself value_cmp_total (Int id))) in
      one_permutation (Int id ∷ put) rows (subst (λ l. IsPermutation (map (shows params project) l) rows) alone (answers_over (queued_tree making) by_both project db params rows a))

  cast_put : cast_row (queued (queued_tree making)) put ≡ put
  cast_put = rw (cast_int id, cast_int (pos birth), cast_int (pos place), cast_int (pos c.publication), cast_int (pos c.cause), cast_int (pos c.cause_n), cast_number pid, cast_int (pos phase), cast_number rel, cast_int (pos c.qos), cast_int (pos (cond c.retain 1 0)), cast_int (pos c.arrived))

  edit_is : edit_of db (queued (queued_tree making)) (id ∷ []) Given 1 ((Int id ∷ put) ∷ []) ≡ record { table = queued (queued_tree making); gone = id ∷ []; news = put ∷ [] }
  edit_is = ap (λ (news : List Row). record { table = queued (queued_tree making); gone = id ∷ []; news = news }) (given (without_all (db (queued_tree making)) (id ∷ [])) (cast_row (queued (queued_tree making)) put ∷ []) ∙ ap (λ r. r ∷ []) cast_put)

  -- what the UPDATE writes is the table with that copy set
  goes : Writes (schema_of (second_layout making)) Enforced db (edit_of db (queued (queued_tree making)) (id ∷ []) Given 1 ((Int id ∷ put) ∷ [])) (Ok after) → SetsQueued making birth place phase pid rel id c db after
  goes h =
      let edit : Edit = record { table = queued (queued_tree making); gone = id ∷ []; news = put ∷ [] } in
      let a = one_step (schema_of (second_layout making)) Enforced db after edit (queued_unworked making (taken_by db edit) put) (subst (λ e. Writes (schema_of (second_layout making)) Enforced db e (Ok after)) edit_is h) in
      record { rows = a.rows; others = a.others }

  -- copies still rise by their numbers when one is set
  still_shaped : SetsQueued making birth place phase pid rel id c db after → IsShapedAt after (queued_tree making)
  still_shaped s =
      let both = IsShaped-put_row put (without_rowid id (db (queued_tree making))) refl (IsShaped-filter Table (λ r. not (has_rowid id r)) (db (queued_tree making)) (shaped.up, shaped.ints)) in
      record { up = rw s.rows both.0; ints = rw s.rows both.1 }

-- the UPDATE of a copy that stands sets its phase, identifier and order, and leaves the transaction whole
pub sets : (making : Making) (birth place phase : ℕ) (pid rel : Option ℕ) (old new : State) (id : ℤ) (c : QueuedColumns) (r : Result ℕ Error) → IsWhole (second_layout making) old
    → Has (old.now.trees (queued_tree making)) (Int id ∷ queued_row birth place c)
    → ExecutesInside 0 set_text (Int (pos birth) ∷ Int (pos place) ∷ number_or_null pid ∷ Int (pos phase) ∷ number_or_null rel ∷ []) old new r
    → OnOk r (SetsQueued making birth place phase pid rel id c old.now.trees new.now.trees) × OnOk r (IsWhole (second_layout making) new)
sets making birth place phase pid rel old new id c (Err e) whole there h = (tt, tt)
sets making birth place phase pid rel old new id c (Ok count) whole there h =
    let l = second_layout making in
    let db = old.now.trees in
    let tree = queued_tree making in
    let shaped = queued_shaped making old whole in
    let params = Int (pos birth) ∷ Int (pos place) ∷ number_or_null pid ∷ Int (pos phase) ∷ number_or_null rel ∷ [] in
    let command = Update (queued_at making) (program (over tree by_both project)) in
    let said = statement_of set_text (understood (schema_of l) set_text) in
    let w = runs_as set_text params old new (schema_of l) whole.schema command (means making).0 (means making).1 count h.0 in
    let d = updated old.step_limit params (record { schema = schema_of l; trees = db }) said (queued_at making) (program (over tree by_both project)) (queued tree) w.tally new.now (queued_is making)
    (subst (λ s. Does old.step_limit (mode_of old) params (record old.now { schema = s }) said None command (Ok (w.tally, new.now))) whole.schema w.changed) in
    let shown = found making birth place phase pid rel db new.now.trees c id shaped whole.obeys there d.rows (d.answers.answer Null) in
    let s = goes making birth place phase pid rel db new.now.trees c id shaped whole.obeys (subst (λ rows. Writes (schema_of l) Enforced db (edit_of db (queued tree) (ids_of rows) Given 1 rows) (Ok new.now.trees)) shown d.writes) in
    (s, whole_after l (asked making) tree old new whole s.others (still_shaped making birth place phase pid rel db new.now.trees c id shaped whole.obeys s) d.schema h.1.mode (rw d.schema at w.sound.obeys))

-- be there a copy at that place or not
pub any_queued : (making : Making) (birth place phase : ℕ) (pid rel : Option ℕ) (old new : State) (r : Result ℕ Error) → IsWhole (second_layout making) old
    → ExecutesInside 0 set_text (Int (pos birth) ∷ Int (pos place) ∷ number_or_null pid ∷ Int (pos phase) ∷ number_or_null rel ∷ []) old new r → OnOk r (IsWhole (second_layout making) new)
any_queued making birth place phase pid rel old new (Err e) whole h = tt
any_queued making birth place phase pid rel old new (Ok count) whole h =
    let shaped = queued_shaped making old whole in
    any_whole (second_layout making) (asked making) set_text (queued_at making) (queued (queued_tree making)) by_both project (Int (pos birth) ∷ Int (pos place) ∷ number_or_null pid ∷ Int (pos phase) ∷ number_or_null rel ∷ []) (means making).0 (means making).1
    (queued_is making) (queued_childless making []) (queued_unworked making)
    (λ x. (
      column x 1 ∷ column x 2 ∷ column x 3 ∷ column x 4 ∷ column x 5 ∷ column x 6 ∷ number_or_null pid ∷ Int (pos phase) ∷ number_or_null rel ∷ column x 10 ∷ column x 11 ∷ column x 12 ∷ column x 13 ∷ [],
      refl,
    ))
    (λ id rest. cast_int id) old new count whole shaped
    (λ r x hr hx pr px. one_queued making old.now.trees birth place r x whole.obeys shaped hr hx (sym (both_true _ _) ∙ pr) (sym (both_true _ _) ∙ px)) h
