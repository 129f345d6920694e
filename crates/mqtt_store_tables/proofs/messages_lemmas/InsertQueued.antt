-- INSERT INTO queued, from its text on.
use Rattle.std.proofs.Common.{◌≡◌, ℕ, ℤ, pos, Bool, true, false, not, List, [], ◌∷◌, codes, filter, None, Ok, Err, Result, OnOk, refl, sym, ap, ◌∙◌, subst, inl, inr, true≢false}
use Rattle.std.specs.List.{list_any}
use Rattle.std.specs.Ordering.{is_eq}
use Rattle.std.proofs.lemmas.Bool.{false_from_ne_true, and_from}
use Rattle.std.proofs.lemmas.Cmp.{tied_itself}
use Rattle.sqlite_value.specs.declared.value.Value.TheVariants.{Null, Int}
use Rattle.sqlite_value.specs.Order.{Row, value_cmp}
use Rattle.sqlite_value.proofs.OrderLemmas.{value_cmp_total}
use Rattle.sqlite_trees.specs.Tree.{Trees, rowid, put_row}
use Rattle.sqlite_trees.proofs.ListLemmas.{filter_all, filter_none}
use Rattle.sqlite_schema.specs.Rules.{Obeys}
use Rattle.sqlite_schema.specs.declared.schema.Keys.TheVariants.{Enforced}
use Rattle.sqlite_rules.specs.Lists.{Has}
use Rattle.sqlite_rules.specs.Edit.{Edit, edit_of, taken_by, next_rowid, with_rowid}
use Rattle.sqlite_rules.specs.Action.{Writes}
use Rattle.sqlite_rules.specs.declared.error.Rowids.TheVariants.{Chosen}
use Rattle.sqlite_rules.proofs.ListLemmas.{all_from, some_has, some_from}
use Rattle.sqlite.specs.Command.TheVariants.{Insert}
use Rattle.sqlite.specs.Source.TheVariants.{Values}
use Rattle.sqlite.specs.Does.{Does, Tally}
use Rattle.sqlite.specs.Effect.{Database}
use Rattle.sqlite.specs.Rows.{Written}
use Rattle.sqlite.specs.Listing.{understood}
use Rattle.sqlite.specs.State.{State, ExecutesInside, mode_of}
use Rattle.sqlite.specs.declared.error.Error.{Error}
use Rattle.sqlite_tied.specs.Compute.{everything}
use Rattle.sqlite.proofs.Callers.{IsPlain, command_of, statement_of, runs_as, one_step}
use Rattle.mqtt_store_tables.specs.schema.Tables.{queued}
use Rattle.mqtt_store_tables.specs.declared.schema.tables.Making.{Making}
use Rattle.mqtt_store_tables.specs.declared.schema.tables.Making.TheVariants.{New, TakenOver}
use Rattle.mqtt_store_tables.specs.statements.Layout.{second_layout, schema_of}
use Rattle.mqtt_store_tables.specs.statements.Content.{IsShapedAt, IsWhole}
use Rattle.mqtt_store_tables.specs.statements.Removal.{is_keyed}
use Rattle.mqtt_store_tables.specs.statements.Put.{PutsInto, numbered}
use Rattle.mqtt_store_tables.proofs.statements_lemmas.tables.Numbers.{cast_null, own_number}
use Rattle.mqtt_store_tables.proofs.statements_lemmas.steps.Stands.{put_old, given_free}
use Rattle.mqtt_store_tables.proofs.statements_lemmas.tables.Parts.{went, same_value}
use Rattle.mqtt_store_tables.proofs.statements_lemmas.tables.Whole.{whole_after}
use Rattle.mqtt_store_tables.proofs.statements_lemmas.puts.Replace.{put_shaped}
use Rattle.mqtt_store_tables.specs.messages.Places.{queued_tree}
use Rattle.mqtt_store_tables.specs.messages.Rows.{QueuedColumns, queued_row}
use Rattle.mqtt_store_tables.specs.messages.Comings.{InsertsQueued}
use Rattle.mqtt_store_tables.proofs.messages_lemmas.Behind.{asked, queued_at, queued_is, queued_shaped, queued_unworked}
use Rattle.mqtt_store_tables.proofs.messages_lemmas.PutQueued.{terms, cast_put}
use Rattle.mqtt_store_tables.proofs.messages_lemmas.SetQueued.{one_queued}

abbrev pub insert_text : List ℕ
insert_text = codes "INSERT INTO queued VALUES (?1, ?2, ?3, ?4, ?5, ?6, ?7, ?8, ?9, ?10, ?11, ?12, ?13)"

abbrev Means : Making → Type 0
Means making = (command_of (understood (schema_of (second_layout making)) insert_text) ≡ Insert (queued_at making) (Values terms 14)) × IsPlain (understood (schema_of (second_layout making)) insert_text)

means : (making : Making) → Means making
unfolding understood everything
means New = (refl, (refl, refl))
means TakenOver = (refl, (refl, refl))

abbrev none : Row → Bool
none r = false

never : (rows : List Row) → list_any none rows ≡ false
never [] = refl
never (r ∷ rows) = never rows

module _ (p : Row → Bool) (rows : List Row) (nowhere : list_any p rows ≡ false) where
  fails_at : (r : Row) → Has rows r → p r ≡ false
  fails_at r has = false_from_ne_true (p r) (λ passes. true≢false (sym (some_from p rows r has passes) ∙ nowhere))

  -- if no row passes, those that don't are all
  pub all_stay : filter (λ r. not (p r)) rows ≡ rows
  all_stay = filter_all (λ r. not (p r)) rows (all_from (λ r. not (p r) ≡ true) rows (λ r has. ap not (fails_at r has)))

  -- if no row passes, those that do are none
  pub none_passes : filter p rows ≡ []
  none_passes = filter_none p rows (all_from (λ r. p r ≡ false) rows fails_at)

module _ (making : Making) (birth place : ℕ) (c : QueuedColumns) (db after : Trees) (shaped : IsShapedAt db (queued_tree making)) where
  abbrev row : Row
  row = queued_row birth place c

  abbrev put : Row
  put = numbered (queued_tree making) row db

  -- what is written is the row, behind the number that the table gives it
  edit_is : edit_of db (queued (queued_tree making)) [] Chosen 0 ((Null ∷ row) ∷ []) ≡ record { table = queued (queued_tree making); gone = []; news = put ∷ [] }
  edit_is = ap (λ (r : Row). record { table = queued (queued_tree making); gone = []; news = with_rowid Chosen (db (queued_tree making)) r ∷ [] }) (cast_put (queued_tree making) birth place c Null cast_null)

  goes : Writes (schema_of (second_layout making)) Enforced db (edit_of db (queued (queued_tree making)) [] Chosen 0 ((Null ∷ row) ∷ [])) (Ok after) → PutsInto (second_layout making) (queued_tree making) put none db after
  goes h =
      let edit : Edit = record { table = queued (queued_tree making); gone = []; news = put ∷ [] } in
      let a = one_step (schema_of (second_layout making)) Enforced db after edit (queued_unworked making (taken_by db edit) put) (subst (λ e. Writes (schema_of (second_layout making)) Enforced db e (Ok after)) edit_is h) in
      record { rows = a.rows ∙ ap (put_row put) (sym (all_stay none (db (queued_tree making)) (never (db (queued_tree making))))); others = a.others }

  -- since no two copies have one key, none had it
  none_stood : PutsInto (second_layout making) (queued_tree making) put none db after → IsShapedAt after (queued_tree making) → Obeys (schema_of (second_layout making)) after
      → list_any (is_keyed (pos birth) (pos place)) (db (queued_tree making)) ≡ false
  none_stood p still obeys = false_from_ne_true _ (λ stood.
      let tree = queued_tree making in
      let x = some_has (is_keyed (pos birth) (pos place)) (db tree) stood in
      let free = given_free tree row none db shaped in
      let old = put_old (second_layout making) tree none db after x.0 put p free (inr (x.1, refl)) in
      let own = put_old (second_layout making) tree none db after put put p free (inl refl) in
      let same : x.0 ≡ put = one_queued making after birth place x.0 put obeys still old own x.2 (and_from _ _ (own_number birth) (own_number place)) in
      let tied : is_eq (value_cmp (rowid x.0) (rowid put)) ≡ true = rw same (ap is_eq (tied_itself value_cmp_total (rowid put))) in
      true≢false (sym tied ∙ free x.0 x.1 refl))

  -- so it is put in place of none
  inserts_queued : PutsInto (second_layout making) (queued_tree making) put none db after → list_any (is_keyed (pos birth) (pos place)) (db (queued_tree making)) ≡ false → InsertsQueued making birth place c true db after
  inserts_queued p nowhere =
      let rows = db (queued_tree making) in (
        nowhere,
        record { rows = p.rows ∙ ap (put_row put) (all_stay none rows (never rows) ∙ sym (all_stay (is_keyed (pos birth) (pos place)) rows nowhere)); others = p.others },
      )

-- the INSERT of a copy puts its row if none stood at its place, and leaves the transaction whole
pub inserts : (making : Making) (birth place : ℕ) (c : QueuedColumns) (old new : State) (count : ℕ) → IsWhole (second_layout making) old → ExecutesInside 0 insert_text (queued_row birth place c) old new (Ok count)
    → InsertsQueued making birth place c true old.now.trees new.now.trees × IsWhole (second_layout making) new
inserts making birth place c old new count whole h =
    let l = second_layout making in
    let db = old.now.trees in
    let tree = queued_tree making in
    let row = queued_row birth place c in
    let shaped = queued_shaped making old whole in
    let command = Insert (queued_at making) (Values terms 14) in
    let said = statement_of insert_text (understood (schema_of l) insert_text) in
    let w = runs_as insert_text row old new (schema_of l) whole.schema command (means making).0 (means making).1 count h.0 in
    let done = went (rw (queued_is making) at (subst (λ s. Does old.step_limit (mode_of old) row (record old.now { schema = s }) said None command (Ok (w.tally, new.now))) whole.schema w.changed)) in
    let now = ap (λ (p : Tally × Database). p.1) (same_value (went (went done.2).2).2) in
    let source = went done.1 in
    let wrote = went (went source.2).2 in
    let counted = went wrote.2 in
    let trees : done.0.trees ≡ wrote.0 = ap (λ (it : Written). it.trees) (same_value counted.2) ∙ same_value counted.1 in
    let is : new.now.trees ≡ wrote.0 = ap (λ (d : Database). d.trees) now ∙ trees in
    let first = goes making birth place c db wrote.0 shaped (subst (λ (rows : List Row). Writes (schema_of l) Enforced db (edit_of db (queued tree) [] Chosen 0 rows) (Ok wrote.0)) source.1.1 wrote.1) in
    let p = subst (PutsInto l tree (numbered tree row db) none db) (sym is) first in
    let schema : new.now.schema ≡ schema_of l = ap (λ (d : Database). d.schema) now in
    let still = put_shaped db new.now.trees tree (numbered tree row db) none refl p.rows shaped in
    let obeys : Obeys (schema_of l) new.now.trees = rw schema at w.sound.obeys in
    let nowhere = none_stood making birth place c db new.now.trees shaped p still obeys in
    (inserts_queued making birth place c db new.now.trees shaped p nowhere, whole_after l (asked making) tree old new whole p.others still schema h.1.mode obeys)
