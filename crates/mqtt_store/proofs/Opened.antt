-- What a connection that is opened anew shows, and what is handed back if that fails.
use Rattle.std.proofs.Common.{◌≡◌, ◌≤◌, true, false, Result, Ok, Err, IfOk, IfErr, IsTrue, refl, sym, ap, subst, ◌∙◌, inl, inr, arith}
use Rattle.std.proofs.lemmas.Bool.{cases_Bool}
use Rattle.sqlite_disk.specs.Disk.{MoreFaults}
use Rattle.sqlite_trees.specs.Tree.{Trees}
use Rattle.sqlite_trees.specs.Objects.{catalog_tree}
use Rattle.sqlite_trees.specs.View.{View, doubt, IsClean, IsQuiet, IsRolledBack}
use Rattle.sqlite_trees.specs.declared.error.StoreError.{StoreError}
use Rattle.sqlite_trees.specs.declared.error.StoreError.TheVariants.{OutOfMemory, Io, Corrupt, Full, Broken, Unstorable}
use Rattle.sqlite_trees.specs.declared.store.Store.{Ghosts}
use Rattle.sqlite_rules.specs.Calls.{Excuses}
use Rattle.sqlite_rules.proofs.ViewLemmas.{excused_since}
use Rattle.sqlite_catalog.specs.Listing.{Lists, IsSound}
use Rattle.sqlite_catalog.proofs.ReadLemmas.{lists_once}
use Rattle.sqlite.specs.declared.error.Error.{Error}
use Rattle.sqlite.specs.Effect.{Database, IsDatabase}
use Rattle.sqlite.specs.Held.{Held, state}
use Rattle.sqlite.specs.State.{State, HasCleanDisk, Opens, IsLive, store_error}
use Rattle.sqlite.specs.Steps.{FailsToOpen}
use Rattle.mqtt_records.specs.declared.state.records.Records.{Records}
use Rattle.mqtt_store_database.specs.loading.Keeping.{FindsIn, Keeps, Finds}
use Rattle.mqtt_store.specs.Holding.{Has, Holds, Leaves}
use Rattle.mqtt_store.specs.Opening.{OpensAnew, IsUnharmed, RefusesToOpen, rolled_back}

-- trees are listed as one schema alone
one_database : (a b : Database) → a.trees ≡ b.trees → IsDatabase a → IsDatabase b → a ≡ b
one_database a b trees p q =
    let schema = lists_once (a.trees catalog_tree) a.schema b.schema p.lists (subst (λ t. Lists (t catalog_tree) b.schema) (sym trees) q.lists) in
    λ i. record { schema = schema i; trees = trees i }

-- what isn't broken is open
pub open_if_sound : (v : View) → (v.is_open ≡ false → IsTrue v.is_broken) → v.is_broken ≡ false → IsTrue v.is_open
open_if_sound v shut sound = elim (cases_Bool v.is_open) [ inl up ↦ up | inr down ↦ absurd (let broken = shut down in let never : true ≡ false = sym broken ∙ sound in cc) ]

-- why it isn't opened, by the cause of the store's failure
by_cause : {S : Type 0} (g : Ghosts S) (h : Held S) (store : S) (e : Error) (cause : StoreError) → e ≡ store_error cause → Excuses (MoreFaults (g.faults h.store) (g.faults store)) ⊥ cause → RefusesToOpen g h store e
by_cause g h store e OutOfMemory is fault = inl is
by_cause g h store e Io is fault = inr (inr (rw is refl, fault))
by_cause g h store e Corrupt is fault = inr (inr (rw is refl, fault))
by_cause g h store e Full is fault = inr (inr (rw is refl, fault))
by_cause g h store e Broken is fault = absurd fault
by_cause g h store e Unstorable is fault = absurd fault

-- a store after the connection's rollback
module _ {S : Type 0} (g : Ghosts S) (h : Held S) (store : S) (live : IsLive (state g h)) (undone : IsRolledBack (g.view h.store) (g.view store)) where
  -- it was open, and shows what was committed
  pub shows_committed : IsClean (g.view store) → IsTrue (g.view store).is_open → IsTrue (g.view h.store).is_open × ((g.view store).trees ≡ (g.view h.store).committed)
  shows_committed clean up = ((undone.kept clean).was_open up, (undone.undone up).0)

  module _ (up : IsClean (g.view store) → IsTrue (g.view store).is_open) where
    -- a connection that could be opened anew shows what was committed
    pub opens : (res : Result (Held S) (Error × S)) → IfOk res (λ c. HasCleanDisk (state g c) → Opens (state g c) × IsLive (state g c)) → IfOk res (λ c. doubt (g.view store).is_clean ≤ doubt (state g c).is_clean)
        → IfOk res (λ c. HasCleanDisk (state g c) → (state g c).now.trees ≡ (g.view store).trees) → IfOk res (λ c. HasCleanDisk (state g c) → OpensAnew (state g h) (state g c))
    opens (Ok c) fresh less trees = λ clean.
        let was : IsClean (g.view store) = omega (arith, less, clean) in
        let before = shows_committed was (up was) in
        let o = (fresh clean).0 in
        let same = one_database (state g c).now (state g h).committed (trees clean ∙ before.1) ((fresh clean).1 o.is_open).0 (live before.0).1 in
        record { was_open = before.0; is_open = o.is_open; now = same; committed = sym o.clean ∙ same; autocommit = o.autocommit }
    opens (Err e) fresh less trees = tt

    -- opening anew is refused for want of memory, by a store that is shut, or by a device that failed
    pub refuses : (res : Result (Held S) (Error × S)) → g.faults h.store ≤ g.faults store → IfErr res (λ e. IsQuiet g.view g.faults g.recovers g.is_shielded store e.1)
        → IfErr res (λ e. IsClean (g.view e.1) → FailsToOpen (g.view store).trees (MoreFaults (g.faults store) (g.faults e.1)) e.0) → IfErr res (λ e. IsClean (g.view e.1) → RefusesToOpen g h e.1 e.0)
    refuses (Ok c) counts then why = tt
    refuses (Err e) counts then why = λ clean.
        let less = then.clean in
        let was : IsClean (g.view store) = omega (arith, less, clean) in
        let before = shows_committed was (up was) in
        elim (why clean) [
          | inl none ↦ absurd (none.1 (state g h).committed.schema (subst (IsSound (state g h).committed.schema) (sym before.1) (live before.0).1))
          | inr some ↦ by_cause g h e.1 e.0 some.0 some.1 (excused_since (g.faults h.store) (g.faults store) (g.faults e.1) ⊥ ⊥ some.0 counts (λ none. none) some.2)
        ]

    -- a store that is handed back has what was committed, and a crash of it leaves nothing else than before
    pub unharmed : (res : Result (Held S) (Error × S)) → ((s : S) → IsTrue (g.view s).is_open → g.recovers s (g.view s).committed) → ((s : S) (db : Trees) → IsTrue (g.view s).is_open → g.recovers s db → db ≡ (g.view s).committed)
        → IsQuiet g.view g.faults g.recovers g.is_shielded h.store store
        → IfErr res (λ e. IsQuiet g.view g.faults g.recovers g.is_shielded store e.1) → IfErr res (λ e. IsClean (g.view e.1) → IsTrue (g.view e.1).is_open → (g.view e.1).trees ≡ (g.view store).trees)
        → IfErr res (λ e. IsUnharmed g h e.1)
    unharmed (Ok c) stays settled first then rows = tt
    unharmed (Err e) stays settled first then rows =
        let before = λ (clean : IsClean (g.view e.1)). let less = then.clean in let was : IsClean (g.view store) = omega (arith, less, clean) in shows_committed was (up was) in
        record {
          crash = λ db left. first.outcomes db (then.outcomes db left);
          was_open = λ clean is_open. (before clean).0;
          shows = λ clean is_open. rows clean is_open ∙ (before clean).1;
          committed = λ clean is_open. settled h.store (g.view e.1).committed (before clean).0 (first.outcomes _ (then.outcomes _ (stays e.1 is_open)));
        }

-- ---- what it has then

module _ (old new : State) (sound : HasCleanDisk new → HasCleanDisk old) (opened : HasCleanDisk new → OpensAnew old new)
    (only : IsTrue new.is_open → (db : Trees) → new.may_leave db → db ≡ new.committed.trees) (stays : IsTrue old.is_open → old.may_leave old.committed.trees) where
  -- what a crash leaves now was committed
  left_is : (clean : HasCleanDisk new) (db : Trees) → new.may_leave db → db ≡ old.committed.trees
  left_is clean db may = let o = opened clean in only o.is_open db may ∙ ap (λ (d : Database). d.trees) o.committed

  -- a connection that was opened anew holds what was held once rolled back
  pub opened_holds : (r : Records) → Holds (rolled_back old) r → Holds new r
  opened_holds r holds clean =
      let o = opened clean in
      let had : Has (rolled_back old) r = holds (sound clean) in
      record {
        left = λ db q may found. had.left old.committed.trees q (stays o.was_open) (subst (λ t. Finds t q) (left_is clean db may) found);
        keeps = λ _. subst (λ (d : Database). Keeps d r) (sym o.now) (had.keeps o.was_open);
      }

  -- what a crash of it may leave, one of the connection rolled back may leave too
  pub opened_leaves : (r : Records) → Leaves new r → Leaves (rolled_back old) r
  opened_leaves r found =
      let o = opened found.clean in
      record {
        clean = sound found.clean;
        may = elim found.may [
          | inl crash ↦ inl (old.committed.trees, stays o.was_open, subst (λ t. Finds t r) (left_is found.clean crash.0 crash.1) crash.2)
          | inr shown ↦ inr (o.was_open, subst (λ (d : Database). FindsIn d r) o.now shown.1)
        ];
      }
