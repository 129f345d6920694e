-- Over every run of the world: each copy enters once at most, and waits or has one end; and which stores tell copies apart.
use Rattle.std.proofs.Common.{◌≡◌, ℕ, ◌+◌, ◌≤◌, List, [], refl, arith, inl, inr}
use Rattle.std.proofs.lemmas.Bool.{cases_Bool}
use Rattle.mqtt_base.specs.declared.session.Cause.TheVariants.{Direct}
use Rattle.mqtt_base.specs.declared.session.CopyId.{CopyId}
use Rattle.mqtt_records.specs.declared.state.records.Records.{Records}
use Rattle.mqtt_rules.specs.declared.step.Capacity.{Capacity}
use Rattle.mqtt_rules.specs.step.Deeds.{Deed}
use Rattle.mqtt_rules.specs.step.Laws.{AreWithin, IsCoherent, IsCoherentMessage}
use Rattle.mqtt_rules.specs.step.State.{Broker, MemberChoice}
use Rattle.mqtt_rules.specs.step.Step.{env_of, opened, opening, unopened}
use Rattle.mqtt_rules.proofs.step_lemmas.numbers.Copies.{kinds, each_more}
use Rattle.mqtt_world_model.specs.model.Laws.{count_of}
use Rattle.mqtt_world_model.specs.model.Run.{Turn, run}
use Rattle.mqtt_world_model.specs.model.World.{World, start}
use Rattle.mqtt_world_laws.specs.acceptance.Copies.{entered_from}
use Rattle.mqtt_world_laws.specs.acceptance.Fair.{IsNew, IsCounted, MayOpen, opened_world}
use Rattle.mqtt_world_laws.specs.acceptance.Identities.{may_come, queued_in, TellsApart, EntersOnce, EndsOnce, WaitsOrHasEnded}
use Rattle.mqtt_world_laws.proofs.acceptance_lemmas.copies.CopyRuns.{opening_balances, run_balances}
use Rattle.mqtt_world_laws.proofs.acceptance_lemmas.copies.Counting.{E}
use Rattle.mqtt_world_laws.proofs.acceptance_lemmas.copies.Entries.{AreKept, Enters, U, enters_next, call_counted, opening_counted}
use Rattle.mqtt_world_laws.proofs.acceptance_lemmas.copies.Walks.{Walk, run_walks}

module _ (c : CopyId) where
  abbrev pub Counts : List Deed → Broker → Broker → Type 0
  Counts ds b d = AreKept (kinds b.records) → Enters c ds (kinds b.records) (kinds d.records)

  -- a copy enters as long as it may come, and not later
  pub counts : (limits : Capacity) → Walk limits Counts
  counts limits = record {
    none = λ b k. let zero : E c [] ≡ 0 = refl in record { counted = omega (arith, zero); kept = k };
    next = λ xs ys a b d p q k. let first = p k in enters_next c xs ys (kinds a.records) (kinds b.records) (kinds d.records) first (q first.kept);
    unlink = λ n b d h k. let x = h k in record { counted = x.counted; kept = x.kept };
    link = λ n b d h k. let x = h k in record { counted = x.counted; kept = x.kept };
    call = λ choice now call b s unspent k. call_counted c limits choice now call b s.coherent.ordered k;
    open_again = λ choice now b s unspent k. opening_counted c limits choice now b s.coherent.ordered k;
  }

-- ---- where a run begins

-- retained messages are of publications up to the last
pub coherent_kept : (r : Records) → IsCoherent r → TellsApart r → AreKept (kinds r)
coherent_kept r h apart = record {
  given = each_more (IsCoherentMessage r.publications) (λ k. k.publication ≤ r.publications) (λ k q. q.0) r.retained h.retained;
  differ = apart.retained;
}

-- a copy stands there, or it can come yet, not both
pub one_or_other : (c : CopyId) (r : Records) → TellsApart r → count_of c (queued_in r) + U c (kinds r) ≤ 1
one_or_other c r apart = elim (cases_Bool (may_come c r)) [
  | inl yes_ ↦
      let none = apart.numbered c yes_ in
      let one : U c (kinds r) ≡ 1 = rw yes_ refl in
      omega (arith, none, one)
  | inr no_ ↦
      let few = apart.once c in
      let zero : U c (kinds r) ≡ 0 = rw no_ refl in
      omega (arith, few, zero)
]

-- ---- a run

module _ (limits : Capacity) (ts : List Turn) (w : World) (new : IsNew w) (fair : IsCounted limits ts w) (apart : TellsApart w.broker.records) (c : CopyId) where
  -- a copy that may come yet has not entered, and it could come at the beginning
  pub counted : count_of c (entered_from limits ts w) + U c (kinds (run limits ts w).broker.records) ≤ U c (kinds w.broker.records)
  counted = (run_walks (Counts c) limits ts w (counts c limits) new fair (coherent_kept w.broker.records new.steady.coherent apart)).counted

  -- in a run that spends no number a copy enters at most once
  pub enters_once : EntersOnce c limits ts w
  enters_once = let all = counted in let first = one_or_other c w.broker.records apart in omega (arith, all, first)

  -- in a run that spends no number a copy ends at most once
  pub ends_once : EndsOnce c limits ts w
  ends_once =
      let all = counted in
      let first = one_or_other c w.broker.records apart in
      let even = run_balances limits ts w new fair c in
      omega (arith, all, first, even)

  -- in a run that spends no number a copy that entered waits or has one end
  pub waits_or_has_ended : WaitsOrHasEnded c limits ts w
  waits_or_has_ended entered =
      let all = counted in
      let first = one_or_other c w.broker.records apart in
      let even = run_balances limits ts w new fair c in
      omega (arith, all, first, even, entered)

-- ---- where a world begins

-- at first all copies are apart
pub start_apart : TellsApart start.broker.records
start_apart = record { once = λ c. let none : count_of c (queued_in start.broker.records) ≡ 0 = refl in omega (arith, none); numbered = λ c e. refl; retained = tt }

-- so they are behind an opening
pub opened_apart : (limits : Capacity) (choice : MemberChoice) (now : ℕ) (r : Records) → AreWithin limits → MayOpen limits choice now r → TellsApart r → TellsApart (opened_world limits choice now r).broker.records
opened_apart limits choice now r within may apart = record {
  once = λ c. let x = after c in omega (arith, x);
  numbered = λ c e. let x = after c in let one : U c (kinds new.records) ≡ 1 = rw e refl in omega (arith, x, one);
  retained = (entered zero_copy).kept.differ;
}
  where
    old : Broker
    old = unopened now r

    new : Broker
    new = opened limits choice now r

    entered : (c : CopyId) → Enters c (opening (env_of limits choice old) old) (kinds r) (kinds new.records)
    entered c = opening_counted c limits choice now old may.coherent.ordered (coherent_kept r may.coherent apart)

    after : (c : CopyId) → count_of c (queued_in new.records) + U c (kinds new.records) ≤ 1
    after c =
        let first = one_or_other c r apart in
        let counted = (entered c).counted in
        let even = opening_balances c limits within choice now old may.coherent.ordered in
        omega (arith, first, counted, even)

    zero_copy : CopyId
    zero_copy = record { publication = 0; birth = 0; cause = Direct }
