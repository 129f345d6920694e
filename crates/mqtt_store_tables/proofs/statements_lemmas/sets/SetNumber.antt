-- UPDATE meta, from its text on.
use Rattle.std.proofs.Common.{◌≡◌, ℕ, ℤ, pos, Bool, true, false, not, ◌&&◌, List, [], ◌∷◌, filter, map, Some, None, Ok, Err, Result, OnOk, refl, sym, ap, ◌∙◌, subst, inl, codes, true≢false}
use Rattle.std.specs.Ordering.{is_eq}
use Rattle.std.specs.List.Sorted.{IsPermutation}
use Rattle.std.proofs.lemmas.Cmp.{tied_itself}
use Rattle.std.proofs.lemmas.Bool.{false_from_ne_true, and_from}
use Rattle.sqlite_value.specs.declared.value.Value.TheVariants.{Null, Int, Text}
use Rattle.sqlite_value.specs.declared.keys.Collation.TheVariants.{Binary}
use Rattle.sqlite_value.specs.Keys.{plain, first_key, joined}
use Rattle.sqlite_value.specs.Order.{Row, column}
use Rattle.sqlite_value.proofs.OrderLemmas.{value_cmp_total}
use Rattle.sqlite_trees.specs.Tree.{Trees, rowid, has_rowid, without_rowid}
use Rattle.sqlite_trees.specs.declared.store.Shape.TheVariants.{Table}
use Rattle.sqlite_trees.proofs.TreeLemmas.{IsShaped-filter, IsShaped-put_row}
use Rattle.sqlite_sql.specs.Ops.{binary}
use Rattle.sqlite_schema.specs.Names.{same_name}
use Rattle.sqlite_schema.specs.Rules.{equal, differ, agree, Obeys}
use Rattle.sqlite_schema.specs.declared.schema.Constraint.TheVariants.{Unique}
use Rattle.sqlite_schema.specs.declared.schema.Keys.TheVariants.{Enforced}
use Rattle.sqlite_schema.specs.declared.program.Program.{Program}
use Rattle.sqlite_rules.specs.Lists.{Has}
use Rattle.sqlite_rules.specs.Cast.{cast_row}
use Rattle.sqlite_rules.specs.Edit.{Edit, edit_of, taken_by, without_all}
use Rattle.sqlite_rules.specs.Calls.{ids_of}
use Rattle.sqlite_rules.specs.Action.{works, Writes}
use Rattle.sqlite_rules.proofs.ListLemmas.{all_has, some_from}
use Rattle.sqlite_rules.proofs.RuleLemmas.{keeps_at}
use Rattle.sqlite_rules.proofs.KeyLemmas.{agree_back, agree_chain}
use Rattle.sqlite_rules.proofs.TableLemmas.{int_is}
use Rattle.sqlite_rules.proofs.PlaceLemmas.{given, tied_same}
use Rattle.sqlite_rules.specs.declared.error.Rowids.TheVariants.{Given}
use Rattle.sqlite.specs.Command.TheVariants.{Update}
use Rattle.sqlite.specs.Term.{Term, col}
use Rattle.sqlite.specs.Query.{IsAnswer}
use Rattle.sqlite_sql.specs.Program.{overlay}
use Rattle.sqlite.specs.declared.error.Error.{Error}
use Rattle.sqlite.specs.Listing.{understood}
use Rattle.sqlite.specs.State.{State, mode_of, ExecutesInside}
use Rattle.sqlite.specs.Does.{Does}
use Rattle.sqlite_tied.specs.Compute.{everything}
use Rattle.sqlite.proofs.Callers.{IsPlain, command_of, statement_of, runs_as, one_permutation, one_step}
use Rattle.mqtt_store_tables.specs.forms.Tables.{meta}
use Rattle.mqtt_store_tables.specs.statements.Layout.{Layout, IsLayout, schema_of}
use Rattle.mqtt_store_tables.specs.statements.Content.{is_text, IsShapedAt, IsWhole}
use Rattle.mqtt_store_tables.specs.statements.Numbers.{number_row, SetsNumber}
use Rattle.mqtt_store_tables.proofs.statements_lemmas.tables.Commands.{over, program, equals}
use Rattle.mqtt_store_tables.proofs.statements_lemmas.tables.Parts.{passes, shows, answers_over, updated}
use Rattle.mqtt_store_tables.proofs.statements_lemmas.deletes.RemoveSession.{only_row}
use Rattle.mqtt_store_tables.proofs.statements_lemmas.tables.Numbers.{cast_int, same_rowid}
use Rattle.mqtt_store_tables.proofs.statements_lemmas.tables.Fresh.{and_true}
use Rattle.mqtt_store_tables.proofs.statements_lemmas.tables.Whole.{whole_after}
use Rattle.mqtt_store_tables.proofs.statements_lemmas.sets.SetAny.{any_whole}

abbrev pub set_text : List ℕ
set_text = codes "UPDATE meta SET n = ?2 WHERE name = ?1"

abbrev tests : List Term
tests = equals 1 0 ∷ []

abbrev project : List Term
project = col 1 0 ∷ col 1 0 ∷ col 1 1 ∷ col 0 1 ∷ []

abbrev set_program : Program
set_program = program (over 0 tests project)

set_is : (l : Layout) → command_of (understood (schema_of l) set_text) ≡ Update 0 set_program
unfolding understood everything
set_is l = refl

set_plain : (l : Layout) → IsPlain (understood (schema_of l) set_text)
unfolding understood everything
set_plain l = (refl, refl)

no_works : (l : Layout) → IsLayout l → (olds : List Row) (new : Row) → works (schema_of l) Enforced 0 0 olds (new ∷ []) ≡ []
unfolding same_name joined
no_works l asked olds new = asked.childless.0.put 0 olds new

truth_of : (b : Bool) → Rattle.sqlite_sql.specs.Ops.is_true (Rattle.sqlite_sql.specs.Ops.from_truth (Some b)) ≡ b
truth_of true = refl
truth_of false = refl

-- SQL finds a text equal to itself
pub own_text : (t : List ℕ) → equal Binary (Text t) (Text t) ≡ true
unfolding binary
own_text t = truth_of _ ∙ ap is_eq (tied_itself value_cmp_total (Text t))

-- no two rows have one name
pub one_name : (l : Layout) (db : Trees) (name : List ℕ) (x one : Row) → Obeys (schema_of l) db → IsShapedAt db 0 → Has (db 0) x → Has (db 0) one → is_text 1 name x ≡ true → is_text 1 name one ≡ true → x ≡ one
unfolding first_key
one_name l db name x one obeys shaped hx ho px po =
    let passes = keeps_at Unique (schema_of l) db meta one (obeys.rules Unique) (inl refl) ho in
    let params = Text name ∷ [] in
    let ax : agree plain (1 ∷ []) x (0 ∷ []) params ≡ true = and_from _ _ px refl in
    let ao : agree plain (1 ∷ []) one (0 ∷ []) params ≡ true = and_from _ _ po refl in
    let both : agree plain (1 ∷ []) x (1 ∷ []) one ≡ true = agree_chain plain (1 ∷ []) (0 ∷ []) (1 ∷ []) x params one ax (agree_back plain (1 ∷ []) (0 ∷ []) one params ao) in
    let clash = λ (d : differ (rowid x) (rowid one) ≡ true). some_from (λ other. agree plain (1 ∷ []) other (1 ∷ []) one && differ (rowid other) (rowid one)) (db 0) x hx (and_from _ _ both d) in
    let near : differ (rowid x) (rowid one) ≡ false = false_from_ne_true _ (λ d. let bad = rw (clash d) at passes in true≢false (sym bad)) in
    let ix = int_is (rowid x) (all_has _ (db 0) x shaped.ints hx) in
    let io = int_is (rowid one) (all_has _ (db 0) one shaped.ints ho) in
    tied_same (db 0) x one shaped.up hx ho (rw (ix, io) (same_rowid _ _ (rw (ix, io) at near)))

module _ (l : Layout) (asked : IsLayout l) (name : List ℕ) (value n : ℕ) (db after : Trees) (id : ℤ) (shaped : IsShapedAt db 0) (obeys : Obeys (schema_of l) db) where
  abbrev params : Row
  params = Text name ∷ Int (pos value) ∷ []

  abbrev one : Row
  one = Int id ∷ number_row name n

  abbrev new : Row
  new = Int id ∷ number_row name value

  found : Has (db 0) one → (rows : List Row) → IsAnswer (over 0 tests project) (overlay db []) params rows → rows ≡ (Int id ∷ new) ∷ []
  found has rows a =
      let alone : filter (passes params tests) (db 0) ≡ one ∷ [] = only_row (db 0) (passes params tests) one shaped.up has (and_true _ ∙ own_text name)
      (λ r h p. rw (one_name l db name r one obeys shaped h has (sym (and_true _) ∙ p) (own_text name)) (tied_itself value_cmp_total (Int id))) in
      one_permutation (Int id ∷ new) rows (subst (λ l. IsPermutation (map (shows params project) l) rows) alone (answers_over 0 tests project db params rows a))

  cast_new : cast_row meta new ≡ new
  cast_new = rw (cast_int id, cast_int (pos value))

  edit_is : edit_of db meta (id ∷ []) Given 1 ((Int id ∷ new) ∷ []) ≡ record { table = meta; gone = id ∷ []; news = new ∷ [] }
  edit_is = ap (λ (news : List Row). record { table = meta; gone = id ∷ []; news = news }) (given (without_all (db 0) (id ∷ [])) (cast_row meta new ∷ []) ∙ ap (λ r. r ∷ []) cast_new)

  goes : Writes (schema_of l) Enforced db (edit_of db meta (id ∷ []) Given 1 ((Int id ∷ new) ∷ [])) (Ok after) → SetsNumber l name value id db after
  goes h =
      let edit : Edit = record { table = meta; gone = id ∷ []; news = new ∷ [] } in
      let a = one_step (schema_of l) Enforced db after edit (no_works l asked (taken_by db edit) new) (subst (λ e. Writes (schema_of l) Enforced db e (Ok after)) edit_is h) in
      record { rows = a.rows; others = a.others }

  set_shaped : SetsNumber l name value id db after → IsShapedAt after 0
  set_shaped s =
      let both = IsShaped-put_row new (without_rowid id (db 0)) refl (IsShaped-filter Table (λ r. not (has_rowid id r)) (db 0) (shaped.up, shaped.ints)) in
      record { up = rw s.rows both.0; ints = rw s.rows both.1 }

-- the UPDATE of a number that stands sets it, and leaves the transaction whole
pub sets_number : (l : Layout) → IsLayout l → (name : List ℕ) (value : ℕ) (old new : State) (id : ℤ) (n : ℕ) (r : Result ℕ Error) → IsWhole l old → Has (old.now.trees 0) (Int id ∷ number_row name n)
    → ExecutesInside 0 set_text (Text name ∷ Int (pos value) ∷ []) old new r
    → OnOk r (SetsNumber l name value id old.now.trees new.now.trees) × OnOk r (IsWhole l new)
sets_number l asked name value old new id n (Err e) whole there h = (tt, tt)
sets_number l asked name value old new id n (Ok count) whole there h =
    let has = whole.schema in
    let db = old.now.trees in
    let params = Text name ∷ Int (pos value) ∷ [] in
    let text = statement_of set_text (understood (schema_of l) set_text) in
    let w = runs_as set_text params old new (schema_of l) has (Update 0 set_program) (set_is l) (set_plain l) count h.0 in
    let d = updated old.step_limit params (record { schema = schema_of l; trees = db }) text 0 set_program meta w.tally new.now refl
    (subst (λ s. Does old.step_limit (mode_of old) params (record old.now { schema = s }) text None (Update 0 set_program) (Ok (w.tally, new.now))) has w.changed) in
    let shown = found l asked name value n db new.now.trees id whole.meta whole.obeys there d.rows (d.answers.answer Null) in
    let s = goes l asked name value n db new.now.trees id whole.meta whole.obeys (subst (λ rows. Writes (schema_of l) Enforced db (edit_of db meta (ids_of rows) Given 1 rows) (Ok new.now.trees)) shown d.writes) in
    (s, whole_after l asked 0 old new whole s.others (set_shaped l asked name value n db new.now.trees id whole.meta whole.obeys s) d.schema h.1.mode (rw d.schema at w.sound.obeys))

none_works : (l : Layout) → IsLayout l → works (schema_of l) Enforced 0 0 [] [] ≡ []
unfolding same_name joined
none_works l asked = asked.childless.0.out 0 []

-- be there a number of that name or not
pub any_number : (l : Layout) → IsLayout l → (name : List ℕ) (value : ℕ) (old after : State) (r : Result ℕ Error) → IsWhole l old → ExecutesInside 0 set_text (Text name ∷ Int (pos value) ∷ []) old after r → OnOk r (IsWhole l after)
any_number l asked name value old after (Err e) whole h = tt
any_number l asked name value old after (Ok count) whole h =
    any_whole l asked set_text 0 meta tests project (Text name ∷ Int (pos value) ∷ []) (set_is l) (set_plain l) refl (none_works l asked) (no_works l asked)
    (λ x. (column x 1 ∷ Int (pos value) ∷ [], refl)) (λ id rest. cast_int id) old after count whole whole.meta
    (λ r x hr hx pr px. one_name l old.now.trees name r x whole.obeys whole.meta hr hx (sym (and_true _) ∙ pr) (sym (and_true _) ∙ px)) h
