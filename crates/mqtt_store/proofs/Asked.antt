-- A loaded store that is only read from has what it had.
use Rattle.std.proofs.Common.{◌≡◌, Result, Ok, Err, OnOk, IsTrue, ap, sym, subst, ◌∙◌, inl, inr, arith}
use Rattle.sqlite.specs.Effect.{Database}
use Rattle.sqlite.specs.State.{State, HasCleanDisk}
use Rattle.mqtt_records.specs.declared.state.records.Records.{Records}
use Rattle.mqtt_store_tables.specs.forms.Settled.{OnlyReads}
use Rattle.mqtt_store_database.specs.loading.Keeping.{FindsIn, Keeps, AreOrdered}
use Rattle.mqtt_store_database.specs.loading.Loading.{IsOrdered}
use Rattle.mqtt_store.specs.Holding.{Has, Holds, Leaves, IsLoaded}

-- what is so whatever is answered is so after Ok
pub on_ok : {A E P : Type 0} (result : Result A E) → P → OnOk result P
on_ok (Ok a) is = is
on_ok (Err e) is = tt

module _ (old new : State) (reads : OnlyReads old new) (loaded : IsLoaded old) where
  -- a device that is sound after the question was sound before it
  pub clean_before : HasCleanDisk new → HasCleanDisk old
  clean_before clean = let less = reads.survives.clean in omega (arith, less, clean)

  -- if it is open, it shows what it showed
  pub shows_same : HasCleanDisk new → IsTrue new.is_open → (new.now ≡ old.now) × (new.committed ≡ old.committed)
  shows_same clean up = (reads.stays clean).same up (loaded (clean_before clean)).settled

  -- what it has stays
  pub reads_holds : (r : Records) → Holds old r → Holds new r
  reads_holds r holds clean =
      let had : Has old r = holds (clean_before clean) in
      record {
        left = λ db q may found. elim (reads.survives.crash clean db may) [ inl before ↦ had.left db q before found | inr none ↦ absurd none ];
        keeps = λ up. subst (λ (d : Database). Keeps d r) (sym (shows_same clean up).0) (had.keeps ((reads.stays clean).was_open up));
      }

  -- a crash finds nothing else than before
  pub reads_leaves : (r : Records) → Leaves new r → Leaves old r
  reads_leaves r found =
      let clean = found.clean in
      record {
        clean = clean_before clean;
        may = elim found.may [
          | inl crash ↦ elim (reads.survives.crash clean crash.0 crash.1) [ inl before ↦ inl (crash.0, before, crash.2) | inr none ↦ absurd none ]
          | inr shown ↦ inr ((reads.stays clean).was_open shown.0, subst (λ (d : Database). FindsIn d r) (shows_same clean shown.0).0 shown.1)
        ];
      }

  -- its rows stay in order
  pub reads_ordered : IsOrdered old → IsOrdered new
  reads_ordered ordered clean up = subst (λ (d : Database). AreOrdered d) (sym (shows_same clean up).0) (ordered (clean_before clean) ((reads.stays clean).was_open up))

  -- if it is open, changes can be applied as before
  pub reads_ready : (HasCleanDisk new → IsTrue new.is_open) → IsLoaded new
  reads_ready up clean =
      let ready = loaded (clean_before clean) in
      let same = shows_same clean (up clean) in
      record {
        is_open = up clean;
        settled = record { committed = same.1 ∙ (ready.settled.committed ∙ sym same.0); autocommit = reads.mode ready.settled.autocommit };
        making = ready.making;
        schema = ap (λ (d : Database). d.schema) same.0 ∙ ready.schema;
      }
