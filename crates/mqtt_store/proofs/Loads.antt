-- What a load leaves, and what it answers.
use Rattle.std.proofs.Common.{◌≡◌, Result, Ok, Err, IfOk, IfErr, OnOk, IsTrue, sym, subst, inr, arith}
use Rattle.sqlite_trees.specs.Tree.{Trees}
use Rattle.sqlite_trees.specs.declared.store.Store.{Ghosts}
use Rattle.sqlite.specs.Held.{Held, state}
use Rattle.sqlite.specs.State.{State, HasCleanDisk}
use Rattle.mqtt_records.specs.declared.state.records.Records.{Records}
use Rattle.mqtt_keep.specs.keeping.Loading.{AreRead}
use Rattle.mqtt_keep.specs.declared.keeping.keep.KeepError.{KeepError}
use Rattle.mqtt_store_database.specs.loading.Keeping.{FindsIn}
use Rattle.mqtt_store_rows.specs.gathering.Slim.{IsSlimOf}
use Rattle.mqtt_store_database.specs.loading.Loading.{HasKept, OnlyLoads}
use Rattle.mqtt_store_database.specs.reading.Refusals.{RefusesEither}
use Rattle.mqtt_store_database.proofs.loading_lemmas.One.{has_kept}
use Rattle.mqtt_store.specs.Holding.{IsReady, IsLoaded, Holds, Leaves}
use Rattle.mqtt_store.proofs.Held.{has_now}

module _ (old new : State) (l : OnlyLoads old new) where
  -- a device that is clean after a load was so before it
  pub clean_old : HasCleanDisk new → HasCleanDisk old
  clean_old clean = let less = l.survives.clean in omega (arith, less, clean)

  -- whole records that a load found and has kept are those that the store had, that a crash would have left, and that it has
  pub read : (IsTrue new.is_open → (db : Trees) → new.may_leave db → db ≡ new.committed.trees) → (res : Result Records KeepError)
      → IfOk res (IsSlimOf (λ whole. HasCleanDisk new → FindsIn old.now whole × HasKept new whole)) → IfOk res (AreRead (Holds old) (Leaves old) (Holds new) (HasCleanDisk new))
  read only (Ok slim) it = record {
    whole = it.whole;
    slim_is = it.slim_is;
    lawful = it.lawful;
    passed = it.passed;
    exact = λ clean r holds.
        let was = l.left clean (it.has clean).1.is_open in
        has_kept old.now it.whole r (it.has clean).0 ((holds (clean_old clean)).keeps was.0);
    found = λ clean.
        let was = l.left clean (it.has clean).1.is_open in
        record { clean = clean_old clean; may = inr (was.0, (it.has clean).0) };
    stands = λ clean. has_now new it.whole only (it.has clean).1 clean;
  }
  read only (Err e) it = tt

  ready : (r : Records) → HasKept new r → IsReady new
  ready r h = record { is_open = h.is_open; settled = h.settled; making = h.making; schema = h.schema }

  -- what was loaded can be changed
  pub loaded : (res : Result Records KeepError) → IfOk res (IsSlimOf (λ whole. HasCleanDisk new → FindsIn old.now whole × HasKept new whole)) → OnOk res (IsLoaded new)
  loaded (Ok slim) it = λ clean. ready it.whole (it.has clean).1
  loaded (Err e) it = tt

-- why a load was refused holds if the disk is clean
pub refused : {S : Type 0} (g : Ghosts S) (h : Held S) (Clean : Type 0) (res : Result Records KeepError) → (Clean → IfErr res (RefusesEither g h)) → IfErr res (λ e. Clean → RefusesEither g h e)
refused g h Clean (Ok q) why = tt
refused g h Clean (Err e) why = why

-- what a load answered is so of the same connection
pub read_on : {S : Type 0} (g : Ghosts S) (old mid new : Held S) (res : Result Records KeepError) → new ≡ mid
    → IfOk res (AreRead (Holds (state g old)) (Leaves (state g old)) (Holds (state g mid)) (HasCleanDisk (state g mid)))
    → IfOk res (AreRead (Holds (state g old)) (Leaves (state g old)) (Holds (state g new)) (HasCleanDisk (state g new)))
read_on {S} g old mid new res same read =
    subst (λ (h : Held S). IfOk res (AreRead (Holds (state g old)) (Leaves (state g old)) (Holds (state g h)) (HasCleanDisk (state g h)))) (sym same) read
