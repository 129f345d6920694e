-- INSERT INTO session .. ON CONFLICT DO UPDATE, from its text on.
use Rattle.std.proofs.Common.{◌≡◌, ℕ, ℤ, pos, true, List, [], ◌∷◌, filter, map, codes, Option, Some, None, Ok, Err, Result, OnOk, refl, sym, ap, ◌∙◌, subst, inl, inr}
use Rattle.std.specs.Ordering.{is_eq}
use Rattle.std.specs.List.Sorted.{IsPermutation}
use Rattle.sqlite_value.specs.declared.value.Value.{Value}
use Rattle.sqlite_value.specs.declared.value.Value.TheVariants.{Null, Int, Real, Text, Blob}
use Rattle.sqlite_value.specs.declared.keys.Collation.TheVariants.{Binary}
use Rattle.sqlite_value.specs.Keys.{first_key, joined}
use Rattle.sqlite_value.specs.Order.{Row, value_cmp}
use Rattle.sqlite_value.proofs.OrderLemmas.{value_cmp-Int}
use Rattle.sqlite_trees.specs.Tree.{Trees, rowid, put_row}
use Rattle.sqlite_trees.specs.View.{is_int}
use Rattle.sqlite_schema.specs.Names.{same_name}
use Rattle.sqlite_schema.specs.Rules.{equal}
use Rattle.sqlite_schema.specs.declared.schema.Keys.TheVariants.{Enforced}
use Rattle.sqlite_schema.specs.declared.command.Conflict.TheVariants.{Abort}
use Rattle.sqlite_schema.specs.declared.command.Upsert.{Upsert}
use Rattle.sqlite.specs.Source.TheVariants.{Values}
use Rattle.sqlite_rules.specs.Lists.{Has}
use Rattle.sqlite_rules.specs.Keys.{AreConflicts, conflicts}
use Rattle.sqlite_rules.specs.Cast.{cast_row}
use Rattle.sqlite_rules.specs.Edit.{Edit, edit_of, taken_by, with_rowid, without_all}
use Rattle.sqlite_rules.specs.Calls.{ids_of}
use Rattle.sqlite_rules.specs.Action.{works, Writes}
use Rattle.sqlite_rules.proofs.ListLemmas.{all_has}
use Rattle.sqlite_rules.proofs.PlaceLemmas.{given}
use Rattle.sqlite_rules.specs.declared.error.Rowids.TheVariants.{Chosen, Given}
use Rattle.sqlite_rules.specs.declared.error.Refusal.{Refusal}
use Rattle.sqlite_keyed.proofs.KeyedLemmas.{same_int}
use Rattle.sqlite.specs.Command.TheVariants.{InsertOr}
use Rattle.sqlite.specs.Term.{Term, lit, col}
use Rattle.sqlite.specs.Query.{IsAnswer}
use Rattle.sqlite_sql.specs.Program.{overlay}
use Rattle.sqlite.specs.declared.error.Error.{Error}
use Rattle.sqlite.specs.Effect.{edit_error}
use Rattle.sqlite.specs.Rows.{Written, Clears, Puts, Meets, Tries, Upserts, Updates, Judged, shown}
use Rattle.sqlite.specs.Listing.{understood}
use Rattle.sqlite.specs.State.{State, ExecutesInside}
use Rattle.sqlite_tied.specs.Compute.{everything}
use Rattle.sqlite.proofs.Callers.{IsPlain, command_of, one_permutation, one_step}
use Rattle.mqtt_store_tables.specs.forms.Tables.{session}
use Rattle.mqtt_store_tables.specs.statements.Layout.{Layout, IsLayout, IsOurs, schema_of, first_layout, second_layout}
use Rattle.mqtt_store_tables.specs.declared.schema.tables.Making.{Making}
use Rattle.mqtt_store_tables.specs.declared.schema.tables.Making.TheVariants.{New, TakenOver}
use Rattle.mqtt_store_tables.specs.statements.Content.{is_of, IsShapedAt, IsWhole}
use Rattle.mqtt_store_tables.specs.statements.Copy.{number_or_null}
use Rattle.mqtt_store_tables.specs.statements.Columns.{SessionColumns, session_row}
use Rattle.mqtt_store_tables.specs.statements.Put.{PutsInto}
use Rattle.mqtt_store_tables.proofs.statements_lemmas.tables.Commands.{over, program, equals}
use Rattle.mqtt_store_tables.proofs.statements_lemmas.tables.Parts.{went, same_value, passes, shows, answers_over}
use Rattle.mqtt_store_tables.proofs.statements_lemmas.tables.Second.{laid_out}
use Rattle.mqtt_store_tables.proofs.statements_lemmas.tables.Rows.{equal_is}
use Rattle.mqtt_store_tables.proofs.statements_lemmas.deletes.RemoveSession.{equal_ids, only_row}
use Rattle.mqtt_store_tables.proofs.statements_lemmas.deletes.RemovesSession.{tied_ids}
use Rattle.mqtt_store_tables.proofs.statements_lemmas.deletes.RemoveSessionRuns.{went_out}
use Rattle.mqtt_store_tables.proofs.statements_lemmas.tables.Numbers.{cast_int, cast_null, cast_number}
use Rattle.mqtt_store_tables.proofs.statements_lemmas.tables.Fresh.{and_true, or_false}
use Rattle.mqtt_store_tables.proofs.statements_lemmas.puts.Replace.{IsPutOf, task, puts_row, left, inserts}

abbrev pub put_text : List ℕ
put_text = codes "INSERT INTO session VALUES (?1, ?2, ?3, ?4) ON CONFLICT (birth) DO UPDATE SET client = excluded.client, expiry = excluded.expiry, closed = excluded.closed"

abbrev terms : List Term
terms = col 0 0 ∷ lit Null ∷ col 0 1 ∷ col 0 2 ∷ col 0 3 ∷ []

abbrev tests : List Term
tests = equals 0 4 ∷ []

abbrev project : List Term
project = col 1 0 ∷ col 1 0 ∷ lit Null ∷ col 0 7 ∷ col 0 8 ∷ col 0 9 ∷ []

abbrev clause : Upsert
clause = record { target = Some (0 ∷ []); update = Some (program (over 2 tests project)) }

abbrev Means : Layout → Type 0
Means l = (command_of (understood (schema_of l) put_text) ≡ InsertOr 1 Abort (Values terms 5) (clause ∷ [])) × IsPlain (understood (schema_of l) put_text)

first_means : Means first_layout
unfolding understood everything
first_means = (refl, (refl, refl))

second_means : (making : Making) → Means (second_layout making)
unfolding understood everything
second_means New = (refl, (refl, refl))
second_means TakenOver = (refl, (refl, refl))

-- the text has the new row behind all tables, and so it is computed in each layout for itself
means : (l : Layout) → IsOurs l → Means l
means l (inl first) = subst Means (sym first) first_means
means l (inr second) = subst Means (sym second.1) (second_means second.0)

-- an UPDATE of a session sets nothing off
no_works : (l : Layout) → IsLayout l → (olds : List Row) (new : Row) → works (schema_of l) Enforced 0 2 olds (new ∷ []) ≡ []
unfolding same_name joined
no_works l asked [] new = asked.unmoved [] new
no_works l asked (old ∷ olds) new = asked.unmoved (old ∷ olds) new

-- a whole number that SQL finds equal to another is that one
pub own_number : (v : Value) (n : ℤ) → is_int v ≡ true → equal Binary v (Int n) ≡ true → v ≡ Int n
own_number Null n int h = absurd (cc)
own_number (Int m) n int h = ap Int (same_int m n (ap is_eq (sym (value_cmp-Int m n) ∙ equal_is (value_cmp (Int m) (Int n)) (sym (equal_ids (Int m) n refl) ∙ h))))
own_number (Real x) n int h = absurd (cc)
own_number (Text t) n int h = absurd (cc)
own_number (Blob b) n int h = absurd (cc)

module _ (l : Layout) (asked : IsLayout l) (birth : ℕ) (s : SessionColumns) (db : Trees) (shaped : IsShapedAt db 2) where
  abbrev put : Row
  put = session_row birth s

  abbrev params : Row
  params = Int (pos birth) ∷ Text s.client ∷ Int (pos s.expiry) ∷ number_or_null s.closed ∷ []

  -- what the UPDATE reads: the parameters, the number of the row that stands, and the new row
  abbrev all_params : Row
  all_params = Int (pos birth) ∷ Text s.client ∷ Int (pos s.expiry) ∷ number_or_null s.closed ∷ Int (pos birth) ∷ shown session put

  -- a session's row is as the table keeps it
  pub cast_put : cast_row session put ≡ put
  cast_put = rw (cast_int (pos birth), cast_null, cast_int (pos s.expiry), cast_number s.closed)

  -- what is asked of a row that is put holds of a session's
  pub known : IsPutOf l session put
  known = record { uncounted = refl; kept = cast_put; int = refl; childless = λ olds. no_works l asked olds put }

  conflict_is : (r : Row) → conflicts (Some (0 ∷ [])) (schema_of l).indexes session put r ≡ is_of 0 (pos birth) r
  unfolding first_key joined
  conflict_is r = rw (asked.keyless.1.0 (Some (0 ∷ [])) put r) (or_false _ ∙ and_true (is_of 0 (pos birth) r))

  abbrev Result_is : Trees → Type 0
  Result_is = PutsInto l 2 put (is_of 0 (pos birth)) db

  cleared : (limit : Option ℕ) (one : Written) (found : List Row) → Clears (task l session put known limit params) Abort put db found (Ok one) → Puts (task l session put known limit params) put db (Ok one)
  cleared limit one [] h = h
  cleared limit one (x ∷ more) h = h

  module _ (row : Row) (has : Has (db 2) row) (is : rowid row ≡ Int (pos birth)) where
    own : is_of 0 (pos birth) row ≡ true
    own = Rattle.mqtt_store_tables.proofs.statements_lemmas.deletes.RemovesSession.is_own row (pos birth) is

    alone : filter (passes all_params tests) (db 2) ≡ row ∷ []
    alone = only_row (db 2) (passes all_params tests) row shaped.up has (and_true (is_of 0 (pos birth) row) ∙ own)
        (λ r h p. tied_ids (rowid r) (rowid row) (pos birth) (all_has _ (db 2) r shaped.ints h) (all_has _ (db 2) row shaped.ints has) (sym (and_true (is_of 0 (pos birth) r)) ∙ p) own)

    found : (rows : List Row) → IsAnswer (over 2 tests project) (overlay db []) all_params rows → rows ≡ (Int (pos birth) ∷ put) ∷ []
    found rows a =
        let p = subst (λ l. IsPermutation (map (shows all_params project) l) rows) alone (answers_over 2 tests project db all_params rows a) in
        one_permutation (rowid row ∷ rowid row ∷ Null ∷ Text s.client ∷ Int (pos s.expiry) ∷ number_or_null s.closed ∷ []) rows p
        ∙ ap (λ v. (v ∷ v ∷ Null ∷ Text s.client ∷ Int (pos s.expiry) ∷ number_or_null s.closed ∷ []) ∷ []) is

    edit_is : edit_of db session (pos birth ∷ []) Given 1 ((Int (pos birth) ∷ put) ∷ []) ≡ record { table = session; gone = pos birth ∷ []; news = put ∷ [] }
    edit_is = ap (λ (news : List Row). record { table = session; gone = pos birth ∷ []; news = news }) (given (without_all (db 2) (pos birth ∷ [])) (cast_row session put ∷ []) ∙ ap (λ r. r ∷ []) cast_put)

    changes : (limit : Option ℕ) (one : Written) → Updates (task l session put known limit params) (program (over 2 tests project)) all_params db (Ok one) → Result_is one.trees
    changes limit one h =
        let read = went h in
        let wrote = went read.2 in
        let rows = found read.0 (read.1.answer Null) in
        let edit : Edit = record { table = session; gone = pos birth ∷ []; news = put ∷ [] } in
        let writes = subst (λ rows. Writes (schema_of l) Enforced db (edit_of db session (ids_of rows) Given 1 rows) (Ok wrote.0)) rows wrote.1 in
        let a = one_step (schema_of l) Enforced db wrote.0 edit (no_works l asked (taken_by db edit) put) (subst (λ e. Writes (schema_of l) Enforced db e (Ok wrote.0)) edit_is writes) in
        let trees : one.trees ≡ wrote.0 = ap (λ (w : Written). w.trees) (same_value wrote.2) in
        record {
          rows = ap (λ (x : Trees). x 2) trees ∙ (a.rows ∙ ap (put_row put) (went_out (pos birth) db wrote.0 row shaped has is));
          others = λ t n spared. ap (λ (x : Trees). x t) trees ∙ a.others t n spared;
        }

  upserts : (limit : Option ℕ) (one : Written) (found : List Row) → AreConflicts (Some (0 ∷ [])) (schema_of l).indexes session (db 2) put found
      → Meets (task l session put known limit params) (Upserts (task l session put known limit params) Abort put db []) put db clause found (Ok one) → Result_is one.trees
  upserts limit one [] are h =
      let p = puts_row l session put known limit params db one (cleared limit one h.0 h.2) in
      record { rows = p.0 ∙ ap (put_row put) (left l session put db (is_of 0 (pos birth)) (Some (0 ∷ [])) shaped (λ r has. conflict_is r) [] are); others = p.1 }
  upserts limit one (there ∷ more) are h =
      let r = are.sound there (inl refl) in
      let is = own_number (rowid r.0) (pos birth) (all_has _ (db 2) r.0 shaped.ints r.1) (sym (conflict_is r.0) ∙ r.2) in
      let number : rowid there ≡ Int (pos birth) = ap rowid r.3 ∙ is in
      changes r.0 r.1 is limit one
      (subst (λ v. Updates (task l session put known limit params) (program (over 2 tests project)) (Int (pos birth) ∷ Text s.client ∷ Int (pos s.expiry) ∷ number_or_null s.closed ∷ v ∷ shown session put) db (Ok one)) number h)

  -- a session's row that is tried stands in place of the one with its birth, or is new
  pub tries : (limit : Option ℕ) (one : Written) → Tries (task l session put known limit params) Abort (clause ∷ []) put db (Ok one) → Result_is one.trees
  tries limit one (inl none) = absurd (let e = none.1 in cc)
  tries limit one (inr judged) = go judged.0 judged.2
    where
      go : (verdict : Option Refusal) → Judged (task l session put known limit params) Abort (clause ∷ []) put db verdict (Ok one) → Result_is one.trees
      go None h = upserts limit one h.0 h.1 h.2
      go (Some why) h = absurd (let e : ◌≡◌ {A = Result Written (Option Error)} (Ok one) (Err (Some (edit_error why))) = h in cc)

-- the INSERT of a session puts its own row in place of the one with its birth, and leaves its other rows
pub puts : (l : Layout) → IsOurs l → (birth : ℕ) (s : SessionColumns) (old new : State) (r : Result ℕ Error) → IsWhole l old
    → ExecutesInside 0 put_text (Int (pos birth) ∷ Text s.client ∷ Int (pos s.expiry) ∷ number_or_null s.closed ∷ []) old new r
    → OnOk r (PutsInto l 2 (session_row birth s) (is_of 0 (pos birth)) old.now.trees new.now.trees) × OnOk r (IsWhole l new)
puts l ours birth s old new r whole h =
    let asked = laid_out l ours in
    let db = old.now.trees in
    let shaped = whole.session in
    inserts l asked put_text 1 session terms 5 (Int (pos birth) ∷ Text s.client ∷ Int (pos s.expiry) ∷ number_or_null s.closed ∷ []) (session_row birth s) (is_of 0 (pos birth)) Abort (clause ∷ []) (means l ours).0 (means l ours).1 refl refl
    (session_row birth s) old new r whole shaped (known l asked birth s db shaped) (tries l asked birth s db shaped) (λ top. ap (with_rowid Chosen (db 2)) (cast_put l asked birth s db shaped)) h
