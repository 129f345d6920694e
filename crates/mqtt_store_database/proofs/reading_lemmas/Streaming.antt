-- What a query leaves whose rows are read one at a time.
use Rattle.std.proofs.Common.{◌≡◌, ◌⊎◌, List, [], ◌∷◌, ◌++◌, false, Ok, Err, Some, None, ap, subst, ◌∙◌, inl, inr}
use Rattle.sqlite_value.specs.Order.{Row}
use Rattle.sqlite_trees.specs.Tree.{Trees}
use Rattle.sqlite_trees.specs.declared.store.Store.{Ghosts}
use Rattle.sqlite.specs.declared.error.Error.{Error}
use Rattle.sqlite_resolve.specs.declared.compiled.Compiled.{Compiled}
use Rattle.sqlite_resolve.specs.declared.error.CompileError.{CompileError}
use Rattle.std.specs.Prelude.{Result}
use Rattle.sqlite.specs.Effect.{Database}
use Rattle.sqlite.specs.Held.{Held, state}
use Rattle.sqlite.specs.State.{HasCleanDisk, IsUnchanged, Fails, CommitsShowing, Survives}
use Rattle.sqlite.specs.Given.{HasGiven, HasBegun, GivesOn, Returns, IsRefused}
use Rattle.sqlite.proofs.Callers.{unchanged_then}
use Rattle.sqlite.proofs.StateLemmas.{survives_weaker}
use Rattle.mqtt_store_tables.specs.forms.Settled.{Stays, OnlyReads}
use Rattle.mqtt_store_tables.proofs.forms_lemmas.Plain.{ShowsOnly}
use Rattle.mqtt_store_tables.proofs.forms_lemmas.Staying.{unchanged_stays, rolled_stays, query_reads, reads_then}
use Rattle.mqtt_store_tables.specs.schema.Tables.{second_schema}
use Rattle.mqtt_store_tables.specs.declared.schema.tables.Making.{Making}
use Rattle.mqtt_store_database.specs.declared.reading.reading.AddedTable.{AddedTable}
use Rattle.mqtt_store_database.specs.reading.Listing.{added_text, IsAddedListing}
use Rattle.mqtt_store_database.proofs.reading_lemmas.Selects.{added_lists, added_shows}

never_returns : (r : Result Compiled CompileError) → ShowsOnly r → Returns r → ⊥
never_returns (Ok c) plain returns = let none = rw plain at returns in absurd cc
never_returns (Err e) plain returns = absurd returns

module _ {S : Type 0} (g : Ghosts S) (table : AddedTable) where
  module _ (old new : Held S) where
    never_writes : (db : Trees) → CommitsShowing (added_text table) [] (state g old) db → ⊥
    unfolding CommitsShowing
    never_writes db h =
        let none = subst ShowsOnly h.1.is (added_shows old.schema table) in
        absurd (let e = rw none at h.2 in cc)

    -- a query that has begun has given no rows, and changed nothing
    pub begun : HasBegun g (added_text table) [] old new → HasGiven g (added_text table) [] new [] × IsUnchanged (state g old) (state g new)
    begun (inl h) = h
    begun (inr h) = absurd (never_returns _ (added_shows old.schema table) h.0)

    -- and only reads
    pub begun_reads : (HasCleanDisk (state g new) → HasBegun g (added_text table) [] old new) → (old.in_transaction ≡ false → new.in_transaction ≡ false)
        → Survives (state g old) (state g new) (CommitsShowing (added_text table) [] (state g old)) → OnlyReads (state g old) (state g new)
    begun_reads has mode it = record {
      survives = survives_weaker (state g old) (state g new) _ _ (λ _ db. never_writes db) it;
      mode = mode;
      stays = λ clean. unchanged_stays (state g old) (state g new) (begun (has clean)).1;
    }

  module _ (old mid new : Held S) (reads : OnlyReads (state g old) (state g mid)) (mode : mid.in_transaction ≡ false → new.in_transaction ≡ false)
      (survives : Survives (state g mid) (state g new) (λ _. ⊥)) where
    -- a row more, or the end, only reads
    pub moved_reads : (HasCleanDisk (state g new) → IsUnchanged (state g mid) (state g new)) → OnlyReads (state g old) (state g new)
    moved_reads same = reads_then (state g old) (state g mid) (state g new) reads (record { survives = survives; mode = mode; stays = λ clean. unchanged_stays (state g mid) (state g new) (same clean) })

    -- so does a failure
    pub failed_reads : (e : Error) → (HasCleanDisk (state g new) → Fails (state g mid) (state g new) ⊥ e ⊎ IsUnchanged (state g mid) (state g new)) → OnlyReads (state g old) (state g new)
    failed_reads e kept = reads_then (state g old) (state g mid) (state g new) reads (record { survives = survives; mode = mode; stays = λ clean. stay (kept clean) })
      where
        stay : Fails (state g mid) (state g new) ⊥ e ⊎ IsUnchanged (state g mid) (state g new) → Stays (state g mid) (state g new)
        stay (inl fails) = rolled_stays (state g mid) (state g new) fails.3
        stay (inr same) = unchanged_stays (state g mid) (state g new) same

  -- what is known of rows that were given so far, while the device has returned what was written
  pub record HasGivenSince (old now : Held S) (given : List Row) : Type 0 where
    pub has : HasGiven g (added_text table) [] now given
    pub same : IsUnchanged (state g old) (state g now)

  module _ (old mid new : Held S) (given : List Row) (since : HasGivenSince old mid given) where
    -- one more was given
    pub given_more : (row : Row) → GivesOn g (added_text table) [] mid new given (Some row) → IsUnchanged (state g mid) (state g new) → HasGivenSince old new (given ++ row ∷ [])
    given_more row gives same = record { has = gives; same = unchanged_then (state g old) (state g mid) (state g new) since.same same }

    -- those are all
    pub given_all : GivesOn g (added_text table) [] mid new given None → (making : Making) → old.schema ≡ second_schema making → IsAddedListing making table (g.view old.store).trees given
    given_all shown making schema =
        let now = since.same.0.now_is in
        subst (λ (d : Database). IsAddedListing making table d.trees given) now
        (added_lists making table (state g mid) (state g new) given (ap (λ (d : Database). d.schema) now ∙ schema) shown)

  -- a query that doesn't begin only reads
  pub refused_reads : {X : Type 0} (old new : Held S) (e : Error) → IsRefused g {X = X} (added_text table) [] old (Err e) new → OnlyReads (state g old) (state g new)
  refused_reads old new e h = query_reads (added_text table) (state g old) (state g new) (added_shows old.schema table) (Err e) (λ _. tt) h.err h.mode h.survives
