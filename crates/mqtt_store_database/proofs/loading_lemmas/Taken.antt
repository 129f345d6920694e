-- What a load leaves that takes a database of schema 1 over.
use Rattle.std.proofs.Common.{◌≡◌, ◌⊎◌, false, IsTrue, Ok, Err, refl, sym, ap, subst, ◌∙◌, inl, inr, arith}
use Rattle.sqlite_schema.specs.declared.schema.Schema.{Schema}
use Rattle.sqlite_schema.specs.Rules.{Obeys}
use Rattle.sqlite_trees.specs.declared.store.Store.{Ghosts}
use Rattle.sqlite.specs.Effect.{Database}
use Rattle.sqlite.specs.Held.{Held, state}
use Rattle.sqlite.specs.State.{HasCleanDisk, Survives, IsLive}
use Rattle.sqlite.proofs.StateLemmas.{survives_then}
use Rattle.mqtt_keep.specs.declared.keeping.keep.KeepError.{KeepError}
use Rattle.mqtt_keep.specs.declared.keeping.keep.KeepError.TheVariants.{Memory, Disk}
use Rattle.mqtt_records.specs.declared.state.records.Records.{Records}
use Rattle.mqtt_records.specs.state.PassedOn.{StoresPassedOn}
use Rattle.mqtt_records.specs.state.Slim.{all_slim}
use Rattle.mqtt_keep.specs.lawful.Lawful.{IsLawful}
use Rattle.mqtt_store_tables.specs.forms.Settled.{OnlyReads}
use Rattle.mqtt_store_tables.specs.forms.Tables.{keep_schema}
use Rattle.mqtt_store_tables.specs.declared.schema.tables.Making.TheVariants.{TakenOver}
use Rattle.mqtt_store_tables.specs.schema.Tables.{second_schema}
use Rattle.mqtt_store_tables.specs.statements.Content.{IsShapedAt, AreShaped, IsSettled as IsSettledFirst}
use Rattle.mqtt_store_database.specs.taking_over.Written.{KeepsRows}
use Rattle.mqtt_store_database.specs.taking_over.Kept.{HasRecords}
use Rattle.mqtt_store_database.proofs.taking_over_lemmas.found.Found.{found_distinct}
use Rattle.mqtt_store_database.proofs.taking_over_lemmas.found.Kept.{distinct_kept}
use Rattle.mqtt_store_database.specs.committing.Settled.{IsSettled}
use Rattle.mqtt_store_database.specs.taking_over.Migration.{Migrates, MayMigrate, MayCommit as MayMigrateTo}
use Rattle.mqtt_store_database.specs.loading.Keeping.{FindsIn, Saves, AreOrdered}
use Rattle.mqtt_store_database.specs.loading.Loading.{IsTidy, IsOrdered, MayCommit, Loads}
use Rattle.mqtt_store_database.proofs.loading_lemmas.Left.{says_nothing}
use Rattle.mqtt_store_database.proofs.loading_lemmas.Order.{shaped_in, first_order, order_of}

module _ {S : Type 0} (g : Ghosts S) (old mid new : Held S) (r : Records) (tidy : IsTidy (state g old)) (order : IsOrdered (state g old)) (live : IsLive (state g old))
    (schema : HasCleanDisk (state g old) → (state g old).now.schema ≡ keep_schema) (reads : OnlyReads (state g old) (state g mid)) (up : HasCleanDisk (state g mid) → IsTrue (state g mid).is_open)
    (ok : HasCleanDisk (state g mid) → HasRecords (state g old).now.trees r) where
  clean_old : HasCleanDisk (state g mid) → HasCleanDisk (state g old)
  clean_old clean = let less = reads.survives.clean in omega (arith, less, clean)

  was_open : HasCleanDisk (state g mid) → IsTrue (state g old).is_open
  was_open clean = (reads.stays clean).was_open (up clean)

  same : HasCleanDisk (state g mid) → (state g mid).now ≡ (state g old).now
  same clean = ((reads.stays clean).same (up clean) (tidy (was_open clean))).0

  found : HasCleanDisk (state g mid) → FindsIn (state g old).now r
  found clean = inl (schema (clean_old clean), ok clean)

  -- the database that was read may be taken over
  may : HasCleanDisk (state g mid) → MayMigrate r (state g mid)
  may clean =
      let s = state g old in
      let before = clean_old clean in
      let is = schema before in
      let rises = first_order s.now.trees (shaped_in keep_schema s.now is (order before (was_open clean))) in
      let obeys = subst (λ (x : Schema). Obeys x s.now.trees) is (live (was_open clean)).0.obeys in
      let settled = tidy (was_open clean) in
      let stays = (reads.stays clean).same (up clean) settled in
      let kept = distinct_kept s.now.trees obeys rises r (found_distinct s.now.trees r (ok clean)) in
      record {
        settled = record {
          schema = ap (λ (d : Database). d.schema) (same clean) ∙ is;
          shaped = subst (λ (d : Database). AreShaped d.trees) (sym (same clean)) rises.shaped;
          meta = subst (λ (d : Database). IsShapedAt d.trees 0) (sym (same clean)) rises.meta;
          retained = subst (λ (d : Database). IsShapedAt d.trees 11) (sym (same clean)) rises.retained;
          obeys = subst (λ (d : Database). Obeys keep_schema d.trees) (sym (same clean)) obeys;
          same = stays.1 ∙ (settled.committed ∙ sym stays.0);
          is_open = up clean;
        };
        keeps = subst (λ (d : Database). KeepsRows d.trees r) (sym (same clean)) kept;
        lawful = (ok clean).lawful;
      }

  module _ (it : Survives (state g mid) (state g new) (MayMigrateTo r (state g mid))) (autocommit : (state g new).in_transaction ≡ false) where
    clean_mid : HasCleanDisk (state g new) → HasCleanDisk (state g mid)
    clean_mid clean = let less = it.clean in omega (arith, less, clean)

    -- what is committed keeps what was found
    takes : Survives (state g old) (state g new) (MayCommit (state g old))
    takes = survives_then (state g old) (state g mid) (state g new) _ _ _ (λ _ db none. absurd none)
        (λ clean db made.
        let before = clean_mid clean in
        let m = made (may before) in
        let saves : Saves db r = record { schema = second_schema TakenOver; lists = m.lists; keeps = inr (inl (TakenOver, refl, m.keeps)) } in
        (was_open before, r, found before, saves)) reads.survives it

    -- a database of schema 1 that was taken over keeps what was found in it, and slim rows of this are answered
    pub taken : (slim : Records) → slim ≡ all_slim r → IsLawful r → StoresPassedOn r
        → (HasCleanDisk (state g new) → MayMigrate r (state g mid) → Migrates r (state g mid).now (state g new).now)
        → (HasCleanDisk (state g new) → MayMigrate r (state g mid) → IsSettled TakenOver (state g new)) → Loads g old new (Ok slim)
    taken slim is lawful passed made settled = record {
      ordered = λ clean up. order_of TakenOver (state g new) (settled clean (may (clean_mid clean)));
      read = record {
        whole = r;
        slim_is = is;
        has = λ clean.
            let m = made clean (may (clean_mid clean)) in
            let s = settled clean (may (clean_mid clean)) in
            (found (clean_mid clean), record { is_open = s.is_open; settled = record { committed = s.same; autocommit = autocommit }; making = TakenOver; schema = m.second; lists = m.lists; keeps = m.keeps });
        lawful = lawful;
        passed = passed;
      };
      refused = λ clean. tt;
      loads = record {
        survives = takes;
        left = λ clean up. let m = made clean (may (clean_mid clean)) in (was_open (clean_mid clean), inr (r, found (clean_mid clean), inr (inl (TakenOver, m.second, m.keeps))));
      };
    }

    -- one that could not be taken over is as it was
    pub not_taken : (fault : KeepError) → (fault ≡ Memory) ⊎ (fault ≡ Disk)
        → (HasCleanDisk (state g new) → IsSettledFirst (state g mid) → IsTrue (state g new).is_open → (state g new).now ≡ (state g mid).now) → Loads g old new (Err fault)
    not_taken fault which stays =
        let back = λ (clean : HasCleanDisk (state g new)) (up : IsTrue (state g new).is_open). stays clean (may (clean_mid clean)).settled up ∙ same (clean_mid clean) in
        record {
          ordered = λ clean up. subst AreOrdered (sym (back clean up)) (order (clean_old (clean_mid clean)) (was_open (clean_mid clean)));
          read = tt;
          refused = λ clean. says_nothing g old fault which;
          loads = record { survives = takes; left = λ clean up. (was_open (clean_mid clean), inl (back clean up)) };
        }
