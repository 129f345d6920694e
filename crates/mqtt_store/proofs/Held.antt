-- What a store has, it has alone.
use Rattle.std.proofs.Common.{◌≡◌, ◌⊎◌, IsTrue, ap, sym, subst, ◌∙◌, inl, inr, arith}
use Rattle.sqlite_trees.specs.Tree.{Trees}
use Rattle.sqlite.specs.Effect.{Database}
use Rattle.sqlite.specs.State.{HasCleanDisk, State}
use Rattle.mqtt_records.specs.declared.state.records.Records.{Records}
use Rattle.mqtt_store_database.specs.loading.Keeping.{FindsIn, Keeps, Saves}
use Rattle.mqtt_store_database.specs.loading.Loading.{HasKept, IsLeft, OnlyLoads}
use Rattle.mqtt_store_database.proofs.loading_lemmas.One.{has_kept, saved_once}
use Rattle.mqtt_store.specs.Holding.{Has, Holds, Leaves, OnlySteps}
pub use Rattle.mqtt_store.specs.Ones.{leaves_held}

-- what is kept, as a store of either schema keeps it
pub keeps_now : (s : State) (r : Records) → HasKept s r → Keeps s.now r
keeps_now s r h = inr (inl (h.making, h.schema, h.keeps))

-- what is open leaves what is committed
pub has_now : (s : State) (r : Records) → (IsTrue s.is_open → (db : Trees) → s.may_leave db → db ≡ s.committed.trees) → HasKept s r → Holds s r
has_now s r only h clean = record {
  left = λ db q may found.
      let same : db ≡ s.now.trees = only h.is_open db may ∙ ap (λ (d : Database). d.trees) h.settled.committed in
      let saves : Saves s.now.trees r = record { schema = s.now.schema; lists = h.lists; keeps = keeps_now s r h } in
      saved_once db q r found (subst (λ t. Saves t r) (sym same) saves);
  keeps = λ _. keeps_now s r h;
}

-- ---- loads

left_keeps : (old new : Database) (r : Records) → IsLeft old new → Keeps old r → Keeps new r
left_keeps old new r (inl same) keeps = subst (λ (db : Database). Keeps db r) (sym same) keeps
left_keeps old new r (inr made) keeps = subst (Keeps new) (has_kept old made.0 r made.1 keeps) made.2

-- a load leaves the store holding what it held
pub load_holds : (old new : State) (r : Records) → OnlyLoads old new → Holds old r → Holds new r
load_holds old new r it holds clean =
    let less = it.survives.clean in
    let had : Has old r = holds (omega (arith, less, clean)) in
    record {
      left = λ db q may found. elim (it.survives.crash clean db may) [
        | inl before ↦ had.left db q before found
        | inr made ↦ saved_once db q made.1 found made.3 ∙ has_kept old.now made.1 r made.2 (had.keeps made.0)
      ];
      keeps = λ up. let was = it.left clean up in left_keeps old.now new.now r was.1 (had.keeps was.0);
    }

-- what a load of the database found before, if it finds this now
found_before : (old new : Database) (r : Records) → IsLeft old new → FindsIn new r → FindsIn old r
found_before old new r (inl same) found = subst (λ (db : Database). FindsIn db r) same found
found_before old new r (inr made) found = subst (FindsIn old) (sym (has_kept new r made.0 found made.2)) made.1

-- what a crash after a load may leave, one before it may leave too
pub load_leaves : (old new : State) (r : Records) → OnlyLoads old new → Leaves new r → Leaves old r
load_leaves old new r it found =
    let less = it.survives.clean in
    let clean = found.clean in
    record {
      clean = omega (arith, less, clean);
      may = elim found.may [
        | inl crash ↦ elim (it.survives.crash clean crash.0 crash.1) [
          | inl before ↦ inl (crash.0, before, crash.2)
          | inr made ↦ inr (made.0, subst (FindsIn old.now) (sym (saved_once crash.0 r made.1 crash.2 made.3)) made.2)
        ]
        | inr shown ↦ let was = it.left clean shown.0 in inr (was.0, found_before old.now new.now r was.1 shown.1)
      ];
    }

-- ---- steps

-- what a crash after a step may leave is what one before it may, or what is stored after it
pub step_leaves : (old new : State) (after left : Records) → OnlySteps old new after → Leaves new left → Leaves old left ⊎ (left ≡ after)
step_leaves old new after left it found =
    let less = it.survives.clean in
    let clean = found.clean in
    let before : HasCleanDisk old = omega (arith, less, clean) in
    elim found.may [
      | inl crash ↦ elim (it.survives.crash clean crash.0 crash.1) [
        | inl first ↦ inl (record { clean = before; may = inl (crash.0, first, crash.2) })
        | inr made ↦ inr (saved_once crash.0 left after crash.2 made)
      ]
      | inr shown ↦ let was = it.left clean shown.0 in elim was.1 [
        | inl same ↦ inl (record { clean = before; may = inr (was.0, subst (λ (db : Database). FindsIn db left) same shown.1) })
        | inr done ↦ inr (has_kept new.now left after shown.1 done)
      ]
    ]
