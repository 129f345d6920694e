-- What a query leaves.
use Rattle.std.proofs.Common.{◌≡◌, List, ℕ, [], Ok, Err, refl, sym, ◌∙◌, subst, inl, inr, IsTrue, IfOk, IfErr, OnOk, Result, Vec, Global, arith, false}
use Rattle.sqlite_value.specs.Order.{Row}
use Rattle.sqlite.specs.declared.rows.Row.{Row as SqlRow}
use Rattle.sqlite_trees.specs.Tree.{Trees}
use Rattle.sqlite.specs.declared.error.Error.{Error}
use Rattle.sqlite.specs.State.{State, HasCleanDisk, IsUnchanged, IsRolledBack, Shown, ShowsRows, FailsToQuery, FailsToShow, IsNotRun, CommitsShowing, Survives}
use Rattle.sqlite.specs.Listing.{understood}
use Rattle.sqlite.proofs.StateLemmas.{survives_weaker, survives_then}
use Rattle.mqtt_store_tables.specs.forms.Settled.{IsSettled, Stays, OnlyReads}
use Rattle.mqtt_store_tables.proofs.forms_lemmas.Plain.{ShowsOnly}

-- a connection that didn't change has what was settled as it was
pub unchanged_stays : (old new : State) → IsUnchanged old new → Stays old new
unchanged_stays old new h = record { was_open = λ _. h.0.was_open; same = λ _ _. (h.0.now_is, h.0.committed_is) }

-- a connection that was rolled back has what was settled as it was
pub rolled_stays : (old new : State) → IsRolledBack old new → Stays old new
rolled_stays old new h = record { was_open = h.was_open; same = λ up settled. ((h.undone up).0 ∙ settled.committed, (h.undone up).1) }

module _ (text : List ℕ) (old new : State) (plain : ShowsOnly (understood old.now.schema text)) where
  -- a query that showed rows left the connection unchanged
  pub shown_unchanged : (rows : List Row) → Shown text [] old new rows → IsUnchanged old new
  unfolding Shown
  shown_unchanged rows h =
      let none = subst ShowsOnly h.1.is plain in
      (subst (ShowsRows old new text h.0 _ rows) none h.2).3

  not_run : (e : Error) → IsNotRun old new text [] e → Stays old new
  unfolding IsNotRun
  not_run e (inl h) = unchanged_stays old new h.1
  not_run e (inr h) = rolled_stays old new h.3

  fails_stay : (e : Error) → FailsToQuery text [] old new e → Stays old new
  unfolding FailsToQuery
  fails_stay e (inl h) = not_run e h
  fails_stay e (inr h) =
      let none = subst ShowsOnly h.1.is plain in
      unchanged_stays old new (subst (FailsToShow old new text h.0 _ e) none h.2).3

  query_stays : (r : Result (Vec SqlRow Global) Error) → IfOk r (λ rows. Shown text [] old new rows.items) → IfErr r (FailsToQuery text [] old new) → Stays old new
  query_stays (Ok rows) ok err = unchanged_stays old new (shown_unchanged rows.items ok)
  query_stays (Err e) ok err = fails_stay e err

  never_writes : (db : Trees) → CommitsShowing text [] old db → ⊥
  unfolding CommitsShowing
  never_writes db h = let none = subst ShowsOnly h.1.is plain in absurd (let e = rw none at h.2 in cc)

  -- the clauses of `query_all` come to this
  pub query_reads : (r : Result (Vec SqlRow Global) Error) → (HasCleanDisk new → IfOk r (λ rows. Shown text [] old new rows.items)) → (HasCleanDisk new → IfErr r (FailsToQuery text [] old new))
      → (old.in_transaction ≡ false → new.in_transaction ≡ false) → Survives old new (CommitsShowing text [] old) → OnlyReads old new
  query_reads r ok err mode it = record {
    survives = survives_weaker old new _ _ (λ _ db. never_writes db) it;
    mode = mode;
    stays = λ clean. query_stays r (ok clean) (err clean);
  }

  -- a query that answered rows left the connection open
  pub query_is_open : (r : Result (Vec SqlRow Global) Error) → IfOk r (λ rows. Shown text [] old new rows.items) → OnOk r (IsTrue new.is_open)
  query_is_open (Ok rows) ok = (shown_unchanged rows.items ok).0.is_open
  query_is_open (Err e) ok = tt

-- one call that only reads after the other
pub reads_then : (a b c : State) → OnlyReads a b → OnlyReads b c → OnlyReads a c
reads_then a b c one two = record {
  survives = survives_then a b c _ _ _ (λ _ db none. absurd none) (λ _ db none. absurd none) one.survives two.survives;
  mode = λ out. two.mode (one.mode out);
  stays = λ clean.
      let last = two.stays clean in
      let less = two.survives.clean in
      let first = one.stays (omega (arith, less, clean)) in
      record {
        was_open = λ up. first.was_open (last.was_open up);
        same = λ up settled.
            let mid = first.same (last.was_open up) settled in
            let now : IsSettled b = record { committed = mid.1 ∙ (settled.committed ∙ sym mid.0); autocommit = one.mode settled.autocommit } in
            let end = last.same up now in
            (end.0 ∙ mid.0, end.1 ∙ mid.1);
      };
}

-- no call
pub reads_nothing : (s : State) → OnlyReads s s
reads_nothing s = record {
  survives = record {
    clean = omega arith;
    shield = λ h. h;
    counts = omega arith;
    limit = refl;
    closes = λ _ up. inl up;
    crash = λ _ db may. inl may;
  };
  mode = λ out. out;
  stays = λ _. record { was_open = λ up. up; same = λ _ _. (refl, refl) };
}
