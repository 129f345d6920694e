-- What a look at the connection leaves, and what comes after it.
use Rattle.std.proofs.Common.{◌≡◌, List, [], ℕ, Ok, Err, Result, OnErr, sym, ap, ◌∙◌, inl, inr}
use Rattle.sqlite_value.specs.Order.{Row}
use Rattle.sqlite.specs.declared.error.Error.{Error}
use Rattle.sqlite.specs.Effect.{Database}
use Rattle.sqlite.specs.State.{State, IsUnchanged, IsNotRun}
use Rattle.mqtt_store_tables.specs.forms.Settled.{IsSettled, Stays}
use Rattle.mqtt_store_tables.proofs.forms_lemmas.Staying.{unchanged_stays, rolled_stays}

-- a statement that did not run left the database
pub not_run_stays : (text : List ℕ) (old new : State) (e : Error) → ((params : Row) → IsNotRun old new text params e) → Stays old new
unfolding IsNotRun
not_run_stays text old new e h = elim (h []) [ inl same ↦ unchanged_stays old new same.1 | inr back ↦ rolled_stays old new back.3 ]

-- what follows a look that changed nothing
pub stays_after : (old mid new : State) → IsUnchanged old mid → Stays mid new → Stays old new
stays_after old mid new same stays = record {
  was_open = λ up. same.0.was_open;
  same = λ up settled.
      let now : IsSettled mid = record { committed = same.0.committed_is ∙ (settled.committed ∙ sym same.0.now_is); autocommit = same.0.mode ∙ settled.autocommit } in
      let end = stays.same up now in
      (end.0 ∙ same.0.now_is, end.1 ∙ same.0.committed_is);
}

-- what stays behind an error stays behind what changed nothing before it
pub err_after : {T : Type 0} {E : Type 0} (old mid new : State) (r : Result T E) → IsUnchanged old mid → OnErr r (Stays mid new) → OnErr r (Stays old new)
err_after old mid new (Ok t) same stays = tt
err_after old mid new (Err e) same stays = stays_after old mid new same stays

-- what changed nothing left the schema
pub schema_after : (old mid : State) → IsUnchanged old mid → mid.now.schema ≡ old.now.schema
schema_after old mid same = ap (λ (db : Database). db.schema) same.0.now_is
