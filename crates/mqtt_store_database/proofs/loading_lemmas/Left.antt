-- What a load leaves that only reads, and one that begins a new store.
use Rattle.std.proofs.Common.{◌≡◌, ◌⊎◌, IsTrue, Result, Ok, Err, IfOk, IfErr, OnOk, OnErr, refl, sym, ap, subst, ◌∙◌, inl, inr, arith}
use Rattle.sqlite_catalog.specs.Listing.{Lists}
use Rattle.sqlite_schema.specs.declared.schema.Schema.{Schema}
use Rattle.sqlite_schema.specs.Rules.{Obeys}
use Rattle.sqlite_trees.specs.Objects.{catalog_tree}
use Rattle.sqlite_trees.specs.declared.store.Store.{Ghosts}
use Rattle.sqlite.specs.Effect.{Database}
use Rattle.sqlite.specs.Held.{Held, state}
use Rattle.sqlite.specs.State.{State, HasCleanDisk, Survives, IsLive}
use Rattle.sqlite.proofs.StateLemmas.{survives_weaker}
use Rattle.mqtt_keep.specs.declared.keeping.keep.KeepError.{KeepError}
use Rattle.mqtt_keep.specs.declared.keeping.keep.KeepError.TheVariants.{Memory, Disk}
use Rattle.mqtt_records.specs.declared.state.records.Records.{Records}
use Rattle.mqtt_records.specs.state.Records.{nothing}
use Rattle.mqtt_store_tables.specs.forms.Creation.{first}
use Rattle.mqtt_store_tables.specs.forms.Settled.{IsSettled, OnlyReads, Stays}
use Rattle.mqtt_store_tables.specs.schema.Creation.{IsNewSecond}
use Rattle.mqtt_store_tables.specs.schema.Tables.{second_schema}
use Rattle.mqtt_store_tables.specs.declared.schema.tables.Making.{Making}
use Rattle.mqtt_store_tables.specs.declared.schema.tables.Making.TheVariants.{New}
use Rattle.mqtt_store_database.proofs.asking_lemmas.Loaded.{nothing_lawful}
use Rattle.mqtt_store_database.specs.reading.Kept.{HasRecordsTwo}
use Rattle.mqtt_store_database.specs.reading.Opening.{HasNowTwo, BeginsSecond}
use Rattle.mqtt_store_database.specs.reading.Refusals.{RefusesEither}
use Rattle.mqtt_store_database.specs.row_laws.Written.{KeepsRowsTwo}
use Rattle.mqtt_store_database.proofs.row_laws_lemmas.New.{new_keeps, new_in_order}
use Rattle.mqtt_store_database.proofs.found_lemmas.Found.{found_distinct}
use Rattle.mqtt_store_database.proofs.found_lemmas.Kept.{distinct_kept}
use Rattle.mqtt_store_database.specs.loading.Keeping.{FindsIn, Saves, AreOrdered}
use Rattle.mqtt_store_rows.specs.gathering.Slim.{IsSlimOf}
use Rattle.mqtt_store_database.specs.loading.Loading.{IsTidy, IsOrdered, HasKept, MayCommit, OnlyLoads, Loads}
use Rattle.mqtt_store_database.proofs.loading_lemmas.Order.{shaped_in, ordered_in, second_order, all_shaped}

-- ---- what only reads

module _ (old new : State) (tidy : IsTidy old) (reads : OnlyReads old new) where
  clean_old : HasCleanDisk new → HasCleanDisk old
  clean_old clean = let less = reads.survives.clean in omega (arith, less, clean)

  -- what only reads leaves the database as it is
  pub same_now : HasCleanDisk new → IsTrue new.is_open → new.now ≡ old.now
  same_now clean up = let stays = reads.stays clean in (stays.same up (tidy (stays.was_open up))).0

  -- so rows that were in order are
  pub reads_order : IsOrdered old → IsOrdered new
  reads_order order clean up = subst AreOrdered (sym (same_now clean up)) (order (clean_old clean) ((reads.stays clean).was_open up))

  -- and nothing is loaded or committed by it
  pub reads_load : OnlyLoads old new
  reads_load = record {
    survives = survives_weaker old new _ _ (λ clean db none. absurd none) reads.survives;
    left = λ clean up. ((reads.stays clean).was_open up, inl (same_now clean up));
  }

-- a load that is refused, and has read at the most
pub refused_load : {S : Type 0} (g : Ghosts S) (old new : Held S) (fault : KeepError) → IsTidy (state g old) → IsOrdered (state g old) → OnlyReads (state g old) (state g new)
    → (HasCleanDisk (state g new) → RefusesEither g old fault) → Loads g old new (Err fault)
refused_load g old new fault tidy order reads why = record {
  ordered = reads_order (state g old) (state g new) tidy reads order;
  read = tt;
  refused = why;
  loads = reads_load (state g old) (state g new) tidy reads;
}

-- ---- a database of schema 2

module _ {S : Type 0} (g : Ghosts S) (old new : Held S) (making : Making) (tidy : IsTidy (state g old)) (order : IsOrdered (state g old)) (live : IsLive (state g old)) (reads : OnlyReads (state g old) (state g new))
    (schema : HasCleanDisk (state g old) → (state g old).now.schema ≡ second_schema making) where
  before : HasCleanDisk (state g new) → HasCleanDisk (state g old)
  before clean = let less = reads.survives.clean in omega (arith, less, clean)

  second_kept : (r : Records) → HasCleanDisk (state g new) → IsTrue (state g new).is_open → HasRecordsTwo making (state g old).now.trees r → HasKept (state g new) r
  second_kept r clean up h =
      let s = state g old in
      let t = state g new in
      let was = (reads.stays clean).was_open up in
      let is = schema (before clean) in
      let settled = tidy was in
      let stays = (reads.stays clean).same up settled in
      let obeys = subst (λ (x : Schema). Obeys x s.now.trees) is (live was).0.obeys in
      let shaped = shaped_in (second_schema making) s.now is (order (before clean) was) in
      let rows = distinct_kept making s.now.trees obeys (second_order making s.now.trees shaped) r h.listed.old (found_distinct making s.now.trees r h) in
      record {
        is_open = up;
        settled = record { committed = stays.1 ∙ (settled.committed ∙ sym stays.0); autocommit = reads.mode settled.autocommit };
        making = making;
        schema = ap (λ (d : Database). d.schema) stays.0 ∙ is;
        lists = subst (λ (d : Database). Lists (d.trees catalog_tree) d.schema) (sym stays.0) (live was).0.lists;
        keeps = subst (λ (d : Database). KeepsRowsTwo making d.trees r) (sym stays.0) rows;
      }

  -- a load of a database of schema 2 answers what its rows give, slim
  pub second_load : (result : Result Records KeepError) → (HasCleanDisk (state g new) → OnOk result (IsTrue (state g new).is_open))
      → IfOk result (IsSlimOf (λ whole. HasCleanDisk (state g new) → (state g old).now.schema ≡ second_schema making → IsSettled (state g old) → HasRecordsTwo making (state g old).now.trees whole))
      → (HasCleanDisk (state g new) → (state g old).now.schema ≡ second_schema making → IsTidy (state g old) → IfErr result (RefusesEither g old)) → Loads g old new result
  second_load (Ok slim) up ok why = record {
    ordered = reads_order (state g old) (state g new) tidy reads order;
    read = record {
      whole = ok.whole;
      slim_is = ok.slim_is;
      has = λ clean.
          let gives = ok.has clean (schema (before clean)) (tidy ((reads.stays clean).was_open (up clean))) in
          (inr (inl (making, schema (before clean), gives)), second_kept ok.whole clean (up clean) gives);
      lawful = ok.lawful;
      passed = ok.passed;
    };
    refused = λ clean. tt;
    loads = reads_load (state g old) (state g new) tidy reads;
  }
  second_load (Err fault) up ok why = refused_load g old new fault tidy order reads (λ clean. why clean (schema (before clean)) tidy)

-- ---- an empty database

-- want of memory and the device say nothing of the database
pub says_nothing : {S : Type 0} (g : Ghosts S) (old : Held S) (e : KeepError) → (e ≡ Memory) ⊎ (e ≡ Disk) → RefusesEither g old e
says_nothing g old e (inl is) = subst (RefusesEither g old) (sym is) tt
says_nothing g old e (inr is) = subst (RefusesEither g old) (sym is) tt

module _ {S : Type 0} (g : Ghosts S) (old new : Held S) (tidy : IsTidy (state g old)) (order : IsOrdered (state g old)) (schema : HasCleanDisk (state g old) → (state g old).now.schema ≡ first 0)
    (it : Survives (state g old) (state g new) (BeginsSecond (state g old))) (was_open : HasCleanDisk (state g new) → IsTrue (state g new).is_open → IsTrue (state g old).is_open) where
  earlier : HasCleanDisk (state g new) → HasCleanDisk (state g old)
  earlier clean = let less = it.clean in omega (arith, less, clean)

  -- what is committed is a new store's tables, which keep nothing
  begins : Survives (state g old) (state g new) (MayCommit (state g old))
  begins = survives_weaker (state g old) (state g new) _ _
      (λ clean db made.
      let none = schema (earlier clean) in
      let new_store = made.1 none in
      let saves : Saves db nothing = record { schema = second_schema New; lists = new_store.lists; keeps = inr (inl (New, refl, new_keeps _ new_store)) } in
      (made.0, nothing, inr (inr (none, refl)), saves)) it

  -- a load of an empty database begins with nothing
  pub empty_load : (result : Result Records KeepError) → IfOk result (λ r. r ≡ nothing) → (HasCleanDisk (state g new) → (state g old).now.schema ≡ first 0 → IfOk result (HasNowTwo New (state g new)))
      → (HasCleanDisk (state g new) → (state g old).now.schema ≡ first 0 → OnOk result (IsNewSecond (state g new).now))
      → (HasCleanDisk (state g new) → (state g old).now.schema ≡ first 0 → OnErr result (Stays (state g old) (state g new)))
      → IfErr result (λ e. (e ≡ Memory) ⊎ (e ≡ Disk)) → Loads g old new result
  empty_load (Ok r) ok made begun err fault =
      let kept = λ (clean : HasCleanDisk (state g new)).
      let it = begun clean (schema (earlier clean)) in
      let now = made clean (schema (earlier clean)) in
      let h : HasKept (state g new) nothing = record {
        is_open = now.is_open;
        settled = now.settled;
        making = New;
        schema = it.schema;
        lists = it.lists;
        keeps = new_keeps (state g new).now it;
      } in
      h in
      let has = λ (clean : HasCleanDisk (state g new)). let h : FindsIn (state g old).now nothing = inr (inr (schema (earlier clean), refl)) in h in
      record {
        ordered = λ clean up.
            let it = begun clean (schema (earlier clean)) in
            ordered_in (second_schema New) (state g new).now (sym it.schema) (all_shaped New (state g new).now.trees (new_in_order (state g new).now it) tt);
        read = record {
          whole = nothing;
          slim_is = ok;
          has = λ clean. (has clean, kept clean);
          lawful = nothing_lawful;
          passed = record { sessions = tt; retained = tt };
        };
        refused = λ clean. tt;
        loads = record {
          survives = begins;
          left = λ clean up. let k = kept clean in (was_open clean up, inr (nothing, has clean, inr (inl (k.making, k.schema, k.keeps))));
        };
      }
  empty_load (Err e) ok made begun err fault =
      let same = λ (clean : HasCleanDisk (state g new)) (up : IsTrue (state g new).is_open). ((err clean (schema (earlier clean))).same up (tidy (was_open clean up))).0 in
      record {
        ordered = λ clean up. subst AreOrdered (sym (same clean up)) (order (earlier clean) (was_open clean up));
        read = tt;
        refused = λ clean. says_nothing g old e fault;
        loads = record { survives = begins; left = λ clean up. (was_open clean up, inl (same clean up)) };
      }
