-- DELETE FROM session in schema 2, from its text on.
use Rattle.std.proofs.Common.{◌≡◌, ◌≢◌, ℕ, ℤ, Bool, true, false, not, ◌&&◌, ◌||◌, List, [], ◌∷◌, filter, map, Option, Some, None, Ok, Err, Result, OnOk, refl, sym, ap, ◌∙◌, subst, inl, inr, true≢false, arith}
use Rattle.std.specs.List.{AllByRecursion, list_any, list_all}
use Rattle.std.specs.List.Sorted.{IsPermutation}
use Rattle.std.specs.Ordering.{is_eq}
use Rattle.std.proofs.lemmas.Bool.{cases_Bool, false_from_ne_true, and_parts, and_from}
use Rattle.std.proofs.lemmas.Cmp.{tied_itself}
use Rattle.sqlite_value.specs.declared.value.Value.TheVariants.{Null, Int}
use Rattle.sqlite_value.specs.Keys.{plain, first_key, joined}
use Rattle.sqlite_value.specs.Order.{Row}
use Rattle.sqlite_value.proofs.OrderLemmas.{value_cmp_total}
use Rattle.sqlite_trees.specs.Tree.{Trees, rowid}
use Rattle.sqlite_trees.proofs.ListLemmas.{filter_all, filter_none}
use Rattle.sqlite_schema.specs.Names.{same_name}
use Rattle.sqlite_schema.specs.Rules.{agree, has_null, has_parent, is_held, parent_key, ParentKey, passes as passes_rule, Obeys}
use Rattle.sqlite_schema.specs.declared.schema.Constraint.TheVariants.{ForeignKey}
use Rattle.sqlite_schema.specs.declared.schema.Keys.TheVariants.{Enforced}
use Rattle.sqlite_schema.specs.declared.schema.Reference.{Reference}
use Rattle.sqlite_rules.specs.Lists.{Has}
use Rattle.sqlite_rules.specs.Edit.{Edit, edit_of, row_at}
use Rattle.sqlite_rules.specs.Calls.{ids_of}
use Rattle.sqlite_rules.specs.Action.{works, loses, Settles, Writes}
use Rattle.sqlite_rules.specs.declared.error.Rowids.TheVariants.{Given}
use Rattle.sqlite_rules.proofs.ListLemmas.{all_has, all_from, some_has, some_from}
use Rattle.sqlite_rules.proofs.RuleLemmas.{keeps_at}
use Rattle.sqlite_rules.proofs.KeyLemmas.{agree_chain, agree_whole}
use Rattle.sqlite_rules.proofs.PlaceLemmas.{row_at_is}
use Rattle.sqlite.specs.Command.TheVariants.{Delete}
use Rattle.sqlite.specs.Term.{col}
use Rattle.sqlite.specs.Query.{IsAnswer}
use Rattle.sqlite_sql.specs.Program.{overlay}
use Rattle.sqlite.specs.declared.error.Error.{Error}
use Rattle.sqlite.specs.Does.{Does}
use Rattle.sqlite.specs.Listing.{understood}
use Rattle.sqlite.specs.State.{State, ExecutesInside, mode_of}
use Rattle.sqlite_tied.specs.Compute.{everything}
use Rattle.sqlite.proofs.Callers.{IsPlain, command_of, statement_of, runs_as, one_step}
use Rattle.mqtt_store_tables.specs.forms.Tables.{to_session, session, will, sub, inbound, copy}
use Rattle.mqtt_store_tables.specs.schema.Tables.{queued}
use Rattle.mqtt_store_tables.specs.declared.schema.tables.Making.{Making}
use Rattle.mqtt_store_tables.specs.declared.schema.tables.Making.TheVariants.{New, TakenOver}
use Rattle.mqtt_store_tables.specs.statements.Layout.{second_layout, schema_of}
use Rattle.mqtt_store_tables.specs.statements.Content.{is_of, without, IsShapedAt, IsWhole}
use Rattle.mqtt_store_tables.proofs.statements_lemmas.tables.Commands.{over, program, equals}
use Rattle.mqtt_store_tables.proofs.statements_lemmas.tables.Parts.{passes, shows, answers_over, deleted}
use Rattle.mqtt_store_tables.proofs.statements_lemmas.tables.Spared.{session_spared, will_spared, sub_spared, inbound_spared, meta_spared}
use Rattle.mqtt_store_tables.proofs.statements_lemmas.tables.Fresh.{and_true}
use Rattle.mqtt_store_tables.proofs.statements_lemmas.tables.Whole.{at_tree}
use Rattle.mqtt_store_tables.proofs.statements_lemmas.deletes.Removal.{shaped_left}
use Rattle.mqtt_store_tables.proofs.statements_lemmas.deletes.RemovesSession.{lost, remove_session_text}
use Rattle.mqtt_store_tables.proofs.statements_lemmas.deletes.RemoveSessionRuns.{found, went_out}
use Rattle.mqtt_store_tables.proofs.statements_lemmas.puts.PutSession.{own_number}
use Rattle.mqtt_store_tables.specs.messages.Endings.{referring, EndsSession}
use Rattle.mqtt_store_tables.proofs.messages_lemmas.Asking.{none_left}
use Rattle.mqtt_store_tables.proofs.messages_lemmas.Behind.{asked}
use Rattle.mqtt_store_tables.proofs.messages_lemmas.Cuts.{Child, stack, AreFit, AreApart, RiseAt, AreCut, same_on, rise_on, cut_on, cuts}

-- the tables that refer to sessions, the last of the schema first
abbrev children : Making → List Child
children New = (queued 10, 1) ∷ (inbound, 1) ∷ (sub, 1) ∷ (will, 0) ∷ []
children TakenOver = (queued 14, 1) ∷ (copy, 1) ∷ (inbound, 1) ∷ (sub, 1) ∷ (will, 0) ∷ []

-- what holds of each of them holds of their trees
of_trees : (making : Making) (P : ℕ → ℕ → Type 0) → AllByRecursion (λ c. P c.0.tree c.1) (children making) → AllByRecursion (λ it. P it.0 it.1) (referring making)
of_trees New P h = h
of_trees TakenOver P h = h

of_tables : (making : Making) (P : ℕ → ℕ → Type 0) → AllByRecursion (λ it. P it.0 it.1) (referring making) → AllByRecursion (λ c. P c.0.tree c.1) (children making)
of_tables New P h = h
of_tables TakenOver P h = h

abbrev Means : Making → Type 0
Means making = (command_of (understood (schema_of (second_layout making)) remove_session_text) ≡ Delete 1 (program (over 2 (equals 0 0 ∷ []) (col 1 0 ∷ [])))) × IsPlain (understood (schema_of (second_layout making)) remove_session_text)

means : (making : Making) → Means making
unfolding understood everything
means New = (refl, (refl, refl))
means TakenOver = (refl, (refl, refl))

session_is : (making : Making) → Rattle.std.proofs.Common.slice_get (schema_of (second_layout making)).tables 1 ≡ Some session
session_is making = refl

-- a session that goes sets off one action in each table that refers to it
works_are : (making : Making) (one : Row) → loses plain (0 ∷ []) (one, []) ≡ true → works (schema_of (second_layout making)) Enforced 0 2 (one ∷ []) [] ≡ stack one (children making)
unfolding same_name joined
works_are New one lost = rw lost
works_are TakenOver one lost = rw lost

none_works : (making : Making) → works (schema_of (second_layout making)) Enforced 0 2 [] [] ≡ []
unfolding same_name joined
none_works New = refl
none_works TakenOver = refl

are_fit : (making : Making) → AreFit (schema_of (second_layout making)) (children making)
unfolding same_name joined
are_fit New =
    let l = second_layout New in
    let a = asked New in
    ((λ olds. refl, a.tables.1.0), ((λ olds. refl, inbound_spared l a), ((λ olds. refl, sub_spared l a), ((λ olds. refl, will_spared l a), tt))))
are_fit TakenOver =
    let l = second_layout TakenOver in
    let a = asked TakenOver in
    ((λ olds. refl, a.tables.1.1.1.0), ((λ olds. refl, a.tables.0), ((λ olds. refl, inbound_spared l a), ((λ olds. refl, sub_spared l a), ((λ olds. refl, will_spared l a), tt)))))

are_apart : (making : Making) → AreApart (children making)
are_apart New = (
  ((omega arith, omega arith), ((omega arith, omega arith), ((omega arith, omega arith), tt))),
  (((omega arith, omega arith), ((omega arith, omega arith), tt)), (((omega arith, omega arith), tt), (tt, tt))),
)
are_apart TakenOver = (
  ((omega arith, omega arith), ((omega arith, omega arith), ((omega arith, omega arith), ((omega arith, omega arith), tt)))),
  (((omega arith, omega arith), ((omega arith, omega arith), ((omega arith, omega arith), tt))), (((omega arith, omega arith), ((omega arith, omega arith), tt)), (((omega arith, omega arith), tt), (tt, tt)))),
)

no_sessions : (making : Making) → AllByRecursion (λ c. (c.0.tree ≢ 2) × (2 ≢ c.0.tree)) (children making)
no_sessions New = ((omega arith, omega arith), ((omega arith, omega arith), ((omega arith, omega arith), ((omega arith, omega arith), tt))))
no_sessions TakenOver = ((omega arith, omega arith), ((omega arith, omega arith), ((omega arith, omega arith), ((omega arith, omega arith), ((omega arith, omega arith), tt)))))

apart_from : (tree : ℕ) (cs : List Child) → AllByRecursion (λ c. (c.0.tree ≢ tree) × (tree ≢ c.0.tree)) cs → AllByRecursion (λ c. c.0.tree ≢ tree) cs × AllByRecursion (λ c. tree ≢ c.0.tree) cs
apart_from tree [] h = (tt, tt)
apart_from tree (c ∷ cs) h = let later = apart_from tree cs h.1 in ((h.0.0, later.0), (h.0.1, later.1))

rise : (making : Making) (s : State) → IsWhole (second_layout making) s → RiseAt s.now.trees (children making)
rise New s whole = (whole.behind.1.0, (whole.inbound, (whole.sub, (whole.will, tt))))
rise TakenOver s whole = (whole.behind.1.1.1.0, (whole.behind.0, (whole.inbound, (whole.sub, (whole.will, tt)))))

-- each is a table of the schema, and refers to sessions first
abbrev AreListed : Making → List Child → Type 0
AreListed making cs = AllByRecursion (λ c. Has (schema_of (second_layout making)).tables c.0 × (more : List Reference) × (c.0.references ≡ to_session c.1 ∷ more)) cs

are_listed : (making : Making) → AreListed making (children making)
are_listed New = (
  (inr (inr (inr (inr (inr (inr (inl refl)))))), _, refl),
  ((inr (inr (inr (inr (inl refl)))), _, refl), ((inr (inr (inr (inl refl))), _, refl), ((inr (inr (inl refl)), _, refl), tt))),
)
are_listed TakenOver = (
  (inr (inr (inr (inr (inr (inr (inr (inr (inl refl)))))))), _, refl),
  ((inr (inr (inr (inr (inr (inl refl))))), _, refl), ((inr (inr (inr (inr (inl refl)))), _, refl), ((inr (inr (inr (inl refl))), _, refl), ((inr (inr (inl refl)), _, refl), tt)))),
)

key_is : (making : Making) (at : ℕ) → parent_key (schema_of (second_layout making)).tables (to_session at) ≡ Some (2, 0 ∷ [], plain)
unfolding same_name joined
key_is New at = refl
key_is TakenOver at = refl

or_right_true : (a b : Bool) → a ≡ false → (a || b) ≡ true → b ≡ true
or_right_true true b e h = absurd (true≢false e)
or_right_true false b e h = h

-- it stands: its row goes, and what its birth is named by in the other tables
module _ (making : Making) (birth : ℤ) (old : State) (whole : IsWhole (second_layout making) old) (after : Trees) where
  abbrev db : Trees
  db = old.now.trees

  goes : (one : Row) → Has (db 2) one → rowid one ≡ Int birth → Writes (schema_of (second_layout making)) Enforced db (edit_of db session (birth ∷ []) Given 0 []) (Ok after) → EndsSession making birth db after
  goes one has is (inl refused) = absurd (let e = refused.2 in cc)
  goes one has is (inr (inl big)) = absurd (let e = big.3 in cc)
  goes one has is (inr (inr went)) =
      let schema = schema_of (second_layout making) in
      let cs = children making in
      let taken : row_at (db 2) birth ≡ one = row_at_is (db 2) birth one whole.session.up has (rw is (ap is_eq (tied_itself value_cmp_total (Int birth)))) in
      let acts = ap (λ (r : Row). works schema Enforced 0 2 (r ∷ []) []) taken ∙ works_are making one (lost one birth is) in
      let settled = subst (λ todo. Settles schema Enforced went.0 todo (Ok after)) acts went.2 in
      let away = apart_from 2 cs (no_sessions making) in
      let same = same_on schema 2 db went.0 cs went.1.others away.0 (are_fit making) in
      let all = cuts schema birth one is after cs settled.0 went.0 (are_fit making) (are_apart making) (rise_on db went.0 cs same (rise making old whole)) settled.1 in
      record {
        session = all.others 2 away.1 (session_spared (second_layout making) (asked making)) ∙ (went.1.rows ∙ went_out birth db after one whole.session has is);
        rows = of_trees making (λ t at. after t ≡ without at birth (db t)) (cut_on birth db went.0 after cs same all.rows);
        others = λ t other apart spared. all.others t (of_tables making (λ tree at. t ≢ tree) apart) spared ∙ went.1.others t other spared;
      }

  module _ (none : (p : Row) → Has (db 2) p → is_of 0 birth p ≡ true → ⊥) where
    -- if it does not stand no row names it
    no_child : (c : Child) → Has (schema_of (second_layout making)).tables c.0 → (more : List Reference) → c.0.references ≡ to_session c.1 ∷ more → (r : Row) → Has (db c.0.tree) r → is_of c.1 birth r ≡ false
    unfolding first_key
    no_child c listed more refs r has = false_from_ne_true _ (λ mine.
        let tables = (schema_of (second_layout making)).tables in
        let at = c.1 in
        let kept : passes_rule ForeignKey (schema_of (second_layout making)) db c.0 r ≡ true = keeps_at ForeignKey (schema_of (second_layout making)) db c.0 r (whole.obeys.rules ForeignKey) listed has in
        let parent : (has_parent tables db r (to_session at) && list_all (has_parent tables db r) more) ≡ true = subst (λ (l : List Reference). list_all (has_parent tables db r) l ≡ true) refs kept in
        let own : agree plain (at ∷ []) r (0 ∷ []) (Int birth ∷ []) ≡ true = and_from _ _ mine refl in
        let full : has_null (at ∷ []) r ≡ false = agree_whole plain (at ∷ []) (0 ∷ []) r (Int birth ∷ []) own in
        let held : is_held db (at ∷ []) r (parent_key tables (to_session at)) ≡ true = or_right_true (has_null (at ∷ []) r) _ full (and_parts _ _ parent).0 in
        let there : list_any (λ p. agree plain (0 ∷ []) p (at ∷ []) r) (db 2) ≡ true = subst (λ (k : Option ParentKey). is_held db (at ∷ []) r k ≡ true) (key_is making at) held in
        let one = some_has (λ p. agree plain (0 ∷ []) p (at ∷ []) r) (db 2) there in
        let chain = agree_chain plain (0 ∷ []) (at ∷ []) (0 ∷ []) one.0 r (Int birth ∷ []) one.2 own in
        none one.0 one.1 (and_parts _ _ chain).0)

    uncut : (cs : List Child) → AreListed making cs → AreCut birth db db cs
    uncut [] listed = tt
    uncut (c ∷ cs) listed = (sym (filter_all (λ r. not (is_of c.1 birth r)) (db c.0.tree) (all_from _ (db c.0.tree) (λ r h. ap not (no_child c listed.0.0 listed.0.1 listed.0.2 r h)))), uncut cs listed.1)

    stays : Writes (schema_of (second_layout making)) Enforced db (edit_of db session [] Given 0 []) (Ok after) → EndsSession making birth db after
    stays h =
        let schema = schema_of (second_layout making) in
        let cs = children making in
        let edit : Edit = record { table = session; gone = []; news = [] } in
        let a = one_step schema Enforced db after edit (none_works making) h in
        let away = apart_from 2 cs (no_sessions making) in
        let same = same_on schema 2 db after cs a.others away.0 (are_fit making) in
        record {
          session = a.rows ∙ sym (filter_all (λ r. not (is_of 0 birth r)) (db 2) (all_from _ (db 2) (λ r h. ap not (false_from_ne_true _ (none r h)))));
          rows = of_trees making (λ t at. after t ≡ without at birth (db t)) (still cs same (uncut cs (are_listed making)));
          others = λ t other apart spared. a.others t other spared;
        }
      where
        still : (cs : List Child) → AllByRecursion (λ c. after c.0.tree ≡ db c.0.tree) cs → AreCut birth db db cs → AreCut birth db after cs
        still [] same cut = tt
        still (c ∷ cs) same cut = (same.0 ∙ cut.0, still cs same.1 cut.1)

    -- the query shows no row
    shown_none : (rows : List Row) → IsAnswer (over 2 (equals 0 0 ∷ []) (col 1 0 ∷ [])) (overlay db []) (Int birth ∷ []) rows → rows ≡ []
    shown_none rows a =
        let away : filter (passes (Int birth ∷ []) (equals 0 0 ∷ [])) (db 2) ≡ [] = filter_none (passes (Int birth ∷ []) (equals 0 0 ∷ [])) (db 2) (all_from _ (db 2) (λ r h. false_from_ne_true _ (λ is. none r h (sym (and_true (is_of 0 birth r)) ∙ is)))) in
        none_left rows (subst (λ found. IsPermutation (map (shows (Int birth ∷ []) (col 1 0 ∷ [])) found) rows) away (answers_over 2 (equals 0 0 ∷ []) (col 1 0 ∷ []) db (Int birth ∷ []) rows a))

  -- what the DELETE writes, whether the session stands or not
  ends : (rows : List Row) → IsAnswer (over 2 (equals 0 0 ∷ []) (col 1 0 ∷ [])) (overlay db []) (Int birth ∷ []) rows → Writes (schema_of (second_layout making)) Enforced db (edit_of db session (ids_of rows) Given 0 []) (Ok after)
      → EndsSession making birth db after
  ends rows a h = elim (cases_Bool (list_any (is_of 0 birth) (db 2))) [
    | inl stands ↦
        let one = some_has (is_of 0 birth) (db 2) stands in
        let number = own_number (rowid one.0) birth (all_has _ (db 2) one.0 whole.session.ints one.1) one.2 in
        let shown = found birth db after one.0 whole.session one.1 number rows a in
        goes one.0 one.1 number (subst (λ (l : List Row). Writes (schema_of (second_layout making)) Enforced db (edit_of db session (ids_of l) Given 0 []) (Ok after)) shown h)
    | inr isnt ↦
        let none = λ (p : Row) (there : Has (db 2) p) (is : is_of 0 birth p ≡ true). true≢false (sym (some_from (is_of 0 birth) (db 2) p there is) ∙ isnt) in
        stays none (subst (λ (l : List Row). Writes (schema_of (second_layout making)) Enforced db (edit_of db session (ids_of l) Given 0 []) (Ok after)) (shown_none none rows a) h)
  ]

abbrev Shapes : Making → ℤ → State → State → Type 0
Shapes making birth old new = EndsSession making birth old.now.trees new.now.trees → IsWhole (second_layout making) old → new.now.schema ≡ schema_of (second_layout making) → Rattle.std.proofs.Common.IsTrue new.in_transaction → Obeys (schema_of (second_layout making)) new.now.trees → IsWhole (second_layout making) new

-- all tables rise by their numbers still
still_whole : (making : Making) (birth : ℤ) (old new : State) → Shapes making birth old new
still_whole New birth old new e whole schema inside obeys =
    let a = asked New in
    let l = second_layout New in
    let cut = λ (t at : ℕ) (is : new.now.trees t ≡ without at birth (old.now.trees t)) (was : IsShapedAt old.now.trees t). shaped_left old.now.trees new.now.trees t (is_of at birth) is was in
    let same = λ (t : ℕ) (is : new.now.trees t ≡ old.now.trees t) (was : IsShapedAt old.now.trees t). at_tree old.now.trees new.now.trees t is was in
    record {
      schema = schema;
      inside = inside;
      meta = same 0 (e.others 0 (omega arith) (omega arith, (omega arith, (omega arith, (omega arith, tt)))) (meta_spared l a)) whole.meta;
      session = cut 2 0 e.session whole.session;
      will = cut 4 0 e.rows.1.1.1.0 whole.will;
      sub = cut 5 1 e.rows.1.1.0 whole.sub;
      inbound = cut 7 1 e.rows.1.0 whole.inbound;
      behind = (
        same 9 (e.others 9 (omega arith) (omega arith, (omega arith, (omega arith, (omega arith, tt)))) a.tables.0) whole.behind.0,
        (cut 10 1 e.rows.0 whole.behind.1.0, (same 12 (e.others 12 (omega arith) (omega arith, (omega arith, (omega arith, (omega arith, tt)))) a.tables.1.1.0) whole.behind.1.1.0, tt)),
      );
      obeys = obeys;
    }
still_whole TakenOver birth old new e whole schema inside obeys =
    let a = asked TakenOver in
    let l = second_layout TakenOver in
    let cut = λ (t at : ℕ) (is : new.now.trees t ≡ without at birth (old.now.trees t)) (was : IsShapedAt old.now.trees t). shaped_left old.now.trees new.now.trees t (is_of at birth) is was in
    let same = λ (t : ℕ) (is : new.now.trees t ≡ old.now.trees t) (was : IsShapedAt old.now.trees t). at_tree old.now.trees new.now.trees t is was in
    record {
      schema = schema;
      inside = inside;
      meta = same 0 (e.others 0 (omega arith) (omega arith, (omega arith, (omega arith, (omega arith, (omega arith, tt))))) (meta_spared l a)) whole.meta;
      session = cut 2 0 e.session whole.session;
      will = cut 4 0 e.rows.1.1.1.1.0 whole.will;
      sub = cut 5 1 e.rows.1.1.1.0 whole.sub;
      inbound = cut 7 1 e.rows.1.1.0 whole.inbound;
      behind = (
        cut 9 1 e.rows.1.0 whole.behind.0,
        (
          same 11 (e.others 11 (omega arith) (omega arith, (omega arith, (omega arith, (omega arith, (omega arith, tt))))) a.tables.1.0) whole.behind.1.0,
          (
            same 13 (e.others 13 (omega arith) (omega arith, (omega arith, (omega arith, (omega arith, (omega arith, tt))))) a.tables.1.1.0) whole.behind.1.1.0,
            (cut 14 1 e.rows.0 whole.behind.1.1.1.0, (same 16 (e.others 16 (omega arith) (omega arith, (omega arith, (omega arith, (omega arith, (omega arith, tt))))) a.tables.1.1.1.1.0) whole.behind.1.1.1.1.0, tt)),
          ),
        ),
      );
      obeys = obeys;
    }

-- the DELETE of a session takes out its rows in all tables, whether it stands or not, and leaves the transaction whole
pub removes : (making : Making) (birth : ℤ) (old new : State) (r : Result ℕ Error) → IsWhole (second_layout making) old → ExecutesInside 0 remove_session_text (Int birth ∷ []) old new r
    → OnOk r (EndsSession making birth old.now.trees new.now.trees) × OnOk r (IsWhole (second_layout making) new)
removes making birth old new (Err e) whole h = (tt, tt)
removes making birth old new (Ok count) whole h =
    let l = second_layout making in
    let db = old.now.trees in
    let params = Int birth ∷ [] in
    let query = program (over 2 (equals 0 0 ∷ []) (col 1 0 ∷ [])) in
    let said = statement_of remove_session_text (understood (schema_of l) remove_session_text) in
    let w = runs_as remove_session_text params old new (schema_of l) whole.schema (Delete 1 query) (means making).0 (means making).1 count h.0 in
    let d = deleted old.step_limit params (record { schema = schema_of l; trees = db }) said 1 query session w.tally new.now (session_is making)
    (subst (λ s. Does old.step_limit (mode_of old) params (record old.now { schema = s }) said None (Delete 1 query) (Ok (w.tally, new.now))) whole.schema w.changed) in
    let e = ends making birth old whole new.now.trees d.rows (d.answers.answer Null) d.writes in
    (e, still_whole making birth old new e whole d.schema h.1.mode (rw d.schema at w.sound.obeys))
