-- If a row of a copy stands that doesn't wait, none waits: a copy stands once, or has ended, or can come yet (MQTT 5.0, 3.3.4, 4.6).
use Rattle.std.proofs.Common.{◌≡◌, ◌+◌, ◌≤◌, List, [], ◌∷◌, map, refl, sym, ap, subst, ◌∙◌, arith, inl, inr}
use Rattle.std.specs.Prelude.{flat_map}
use Rattle.std.specs.List.{AllByRecursion}
use Rattle.std.proofs.lemmas.Bool.{cases_Bool}
use Rattle.mqtt_base.specs.declared.session.CopyId.{CopyId}
use Rattle.mqtt_base.specs.declared.session.Phase.TheVariants.{Waiting}
use Rattle.mqtt_records.specs.messages.Queue.{CopyRow}
use Rattle.mqtt_records.specs.declared.state.records.Records.{Records}
use Rattle.mqtt_records.specs.declared.state.session.Session.{Session}
use Rattle.mqtt_rules.specs.step.Deeds.{Deed}
use Rattle.mqtt_rules.specs.step.Laws.{IsAmong, IsCoherentMessage}
use Rattle.mqtt_rules.specs.step.State.{Broker}
use Rattle.mqtt_rules.specs.declared.step.Capacity.{Capacity}
use Rattle.mqtt_rules.proofs.step_lemmas.numbers.Copies.{each_more, kinds}
use Rattle.mqtt_world_model.specs.model.Laws.{count_of, standing, standing_in}
use Rattle.mqtt_world_model.specs.model.Run.{Turn, run}
use Rattle.mqtt_world_model.specs.model.World.{World}
use Rattle.mqtt_world_laws.specs.acceptance.Copies.{ended_from, entered_from}
use Rattle.mqtt_world_laws.specs.acceptance.Fair.{IsFair, IsNew}
use Rattle.mqtt_world_laws.specs.acceptance.Identities.{TellsApart, may_come, queued_in}
use Rattle.mqtt_world_laws.proofs.acceptance_lemmas.copies.CopyRuns.{run_balances}
use Rattle.mqtt_world_laws.proofs.acceptance_lemmas.copies.Counting.{E, count_append}
use Rattle.mqtt_world_laws.proofs.acceptance_lemmas.copies.Entries.{AreKept, Enters, U, call_counted, enters_next, opening_counted}
use Rattle.mqtt_world_laws.proofs.acceptance_lemmas.copies.Walks.{Walk, run_walks, counted}
use Rattle.mqtt_world_laws.proofs.receiver_lemmas.queue.Handed.{copy_itself}
use Rattle.mqtt_world_laws.proofs.unsent_lemmas.Rows.{AreSent, IsSent, QueueSent}

module _ (x : CopyId) where
  -- ---- over a run

  abbrev Counts : List Deed → Broker → Broker → Type 0
  Counts ds b d = AreKept (kinds b.records) → Enters x ds (kinds b.records) (kinds d.records)

  counts : (limits : Capacity) → Walk limits Counts
  counts limits = record {
    none = λ b k. let zero : E x [] ≡ 0 = refl in record { counted = omega (arith, zero); kept = k };
    next = λ xs ys a b d p q k. let first = p k in enters_next x xs ys (kinds a.records) (kinds b.records) (kinds d.records) first (q first.kept);
    unlink = λ n b d h k. let it = h k in record { counted = it.counted; kept = it.kept };
    link = λ n b d h k. let it = h k in record { counted = it.counted; kept = it.kept };
    call = λ choice now call b s unspent k. call_counted x limits choice now call b s.coherent.ordered k;
    open_again = λ choice now b s unspent k. opening_counted x limits choice now b s.coherent.ordered k;
  }

  -- where a run begins: it stands there, or it can come yet, not both
  one_or_other : (r : Records) → TellsApart r → count_of x (queued_in r) + U x (kinds r) ≤ 1
  one_or_other r apart = elim (cases_Bool (may_come x r)) [
    | inl yes_ ↦
        let none = apart.numbered x yes_ in
        let one : U x (kinds r) ≡ 1 = rw yes_ refl in
        omega (arith, none, one)
    | inr no_ ↦
        let few = apart.once x in
        let zero : U x (kinds r) ≡ 0 = rw no_ refl in
        omega (arith, few, zero)
  ]

  -- it stands once, or has ended once, or can come yet
  pub record IsOnce (limits : Capacity) (ts : List Turn) (w : World) : Type 0 where
    pub once : count_of x (standing (run limits ts w).broker) + (count_of x (ended_from limits ts w) + U x (kinds (run limits ts w).broker.records)) ≤ 1
    pub kept : AreKept (kinds (run limits ts w).broker.records)

  -- so it is in every run
  pub run_once : (limits : Capacity) (ts : List Turn) (w : World) → IsNew w → IsFair limits ts w → TellsApart w.broker.records → IsOnce limits ts w
  run_once limits ts w new fair apart =
      let r = w.broker.records in
      let begun : AreKept (kinds r) = record {
        given = each_more (IsCoherentMessage r.publications) (λ k. k.publication ≤ r.publications) (λ k q. q.0) r.retained new.steady.coherent.retained;
        differ = apart.retained;
      } in
      let all = run_walks Counts limits ts w (counts limits) new (counted limits ts w fair) begun in
      let few : count_of x (entered_from limits ts w) + U x (kinds (run limits ts w).broker.records) ≤ U x (kinds r) = all.counted in
      let first : count_of x (standing w.broker) + U x (kinds r) ≤ 1 = one_or_other r apart in
      let even : count_of x (standing (run limits ts w).broker) + count_of x (ended_from limits ts w) ≡ count_of x (standing w.broker) + count_of x (entered_from limits ts w) = run_balances limits ts w new (counted limits ts w fair) x in
      record { once = omega (arith, few, first, even); kept = all.kept }

  -- ---- rows of one copy

  abbrev ids : List CopyRow → List CopyId
  ids rows = map (λ (e : CopyRow). e.copy.id) rows

  -- a copy counts as itself
  pub counts_itself : (y : CopyId) → y ≡ x → count_of x (y ∷ []) ≡ 1
  counts_itself y is = subst (λ (c : CopyId). count_of x (c ∷ []) ≡ 1) (sym is) (rw (copy_itself x) refl)

  row_counts : (row : CopyRow) (rows : List CopyRow) → IsAmong row rows → row.copy.id ≡ x → 1 ≤ count_of x (ids rows)
  row_counts row [] among is = absurd among
  row_counts row (y ∷ ys) among is =
      let all : count_of x (ids (y ∷ ys)) ≡ count_of x (y.copy.id ∷ []) + count_of x (ids ys) = count_append x (y.copy.id ∷ []) (ids ys) in
      elim among [
        | inl it ↦ let one = counts_itself y.copy.id (ap (λ (e : CopyRow). e.copy.id) it ∙ is) in omega (arith, all, one)
        | inr more ↦ let rest = row_counts row ys more is in omega (arith, all, rest)
      ]

  none_rows : (rows : List CopyRow) → count_of x (ids rows) ≡ 0 → AllByRecursion (IsSent x) rows
  none_rows [] none = tt
  none_rows (y ∷ ys) none =
      let all : count_of x (ids (y ∷ ys)) ≡ count_of x (y.copy.id ∷ []) + count_of x (ids ys) = count_append x (y.copy.id ∷ []) (ids ys) in
      let rest : count_of x (ids ys) ≡ 0 = omega (arith, all, none) in
      ((λ is waits. let one = counts_itself y.copy.id is in absurd (omega (arith, all, none, one))), none_rows ys rest)

  rows_sent : (row : CopyRow) (rows : List CopyRow) → IsAmong row rows → row.copy.id ≡ x → (row.phase ≡ Waiting → ⊥) → count_of x (ids rows) ≤ 1 → AllByRecursion (IsSent x) rows
  rows_sent row [] among is sent few = absurd among
  rows_sent row (y ∷ ys) among is sent few =
      let all : count_of x (ids (y ∷ ys)) ≡ count_of x (y.copy.id ∷ []) + count_of x (ids ys) = count_append x (y.copy.id ∷ []) (ids ys) in
      elim among [
        | inl it ↦
            let one = counts_itself y.copy.id (ap (λ (e : CopyRow). e.copy.id) it ∙ is) in
            let rest : count_of x (ids ys) ≡ 0 = omega (arith, all, one, few) in
            ((λ mine waits. sent (ap (λ (e : CopyRow). e.phase) (sym it) ∙ waits)), none_rows ys rest)
        | inr more ↦
            let some = row_counts row ys more is in
            let rest : count_of x (ids ys) ≤ 1 = omega (arith, all, few) in
            ((λ mine waits. let one = counts_itself y.copy.id mine in absurd (omega (arith, all, one, some, few))), rows_sent row ys more is sent rest)
      ]

  -- ---- in all queues

  -- if a row of it stands it counts
  pub session_counts : (s : Session) (row : CopyRow) (ss : List Session) → IsAmong s ss → IsAmong row s.queue → row.copy.id ≡ x → 1 ≤ count_of x (flat_map standing_in ss)
  session_counts s row [] there among is = absurd there
  session_counts s row (y ∷ ys) there among is =
      let all : count_of x (flat_map standing_in (y ∷ ys)) ≡ count_of x (standing_in y) + count_of x (flat_map standing_in ys) = count_append x (standing_in y) (flat_map standing_in ys) in
      elim there [
        | inl it ↦ let some : 1 ≤ count_of x (standing_in y) = subst (λ (t : Session). 1 ≤ count_of x (standing_in t)) (sym it) (row_counts row s.queue among is) in omega (arith, all, some)
        | inr more ↦ let rest = session_counts s row ys more among is in omega (arith, all, rest)
      ]

  none_sessions : (ss : List Session) → count_of x (flat_map standing_in ss) ≡ 0 → AreSent x ss
  none_sessions [] none = tt
  none_sessions (y ∷ ys) none =
      let all : count_of x (flat_map standing_in (y ∷ ys)) ≡ count_of x (standing_in y) + count_of x (flat_map standing_in ys) = count_append x (standing_in y) (flat_map standing_in ys) in
      let first : count_of x (standing_in y) ≡ 0 = omega (arith, all, none) in
      let rest : count_of x (flat_map standing_in ys) ≡ 0 = omega (arith, all, none) in
      (none_rows y.queue first, none_sessions ys rest)

  -- if it stands once, in a row that doesn't wait, none waits
  pub sessions_sent : (s : Session) (row : CopyRow) (ss : List Session) → IsAmong s ss → IsAmong row s.queue → row.copy.id ≡ x → (row.phase ≡ Waiting → ⊥) → count_of x (flat_map standing_in ss) ≤ 1 → AreSent x ss
  sessions_sent s row [] there among is sent few = absurd there
  sessions_sent s row (y ∷ ys) there among is sent few =
      let all : count_of x (flat_map standing_in (y ∷ ys)) ≡ count_of x (standing_in y) + count_of x (flat_map standing_in ys) = count_append x (standing_in y) (flat_map standing_in ys) in
      elim there [
        | inl it ↦
            let some : 1 ≤ count_of x (standing_in y) = subst (λ (t : Session). 1 ≤ count_of x (standing_in t)) (sym it) (row_counts row s.queue among is) in
            let first : count_of x (standing_in s) ≤ 1 = subst (λ (t : Session). count_of x (standing_in t) ≤ 1) it (omega (arith, all, few)) in
            let rest : count_of x (flat_map standing_in ys) ≡ 0 = omega (arith, all, some, few) in
            (subst (QueueSent x) (sym it) (rows_sent row s.queue among is sent first), none_sessions ys rest)
        | inr more ↦
            let some = session_counts s row ys more among is in
            let first : count_of x (standing_in y) ≡ 0 = omega (arith, all, some, few) in
            let rest : count_of x (flat_map standing_in ys) ≤ 1 = omega (arith, all, few) in
            (none_rows y.queue first, sessions_sent s row ys more among is sent rest)
      ]
