-- Each publication of a run enters exactly its copies (MQTT 5.0, 3.3.4, 4.3, 4.8.2).
use Rattle.std.proofs.Common.{◌≡◌, ℕ, ◌+◌, Bool, true, false, List, [], ◌∷◌, ◌++◌, map, filter, Option, Some, None, refl, sym, ap, subst, ◌∙◌, arith, inl, inr}
use Rattle.std.specs.Prelude.{flat_map, option_map, count_by}
use Rattle.std.specs.List.{AllByRecursion}
use Rattle.std.proofs.lemmas.List.Elements.{All-from_recursion, filter-append}
use Rattle.std.proofs.lemmas.Grind.{flat_map-append}
use Rattle.mqtt_base.specs.declared.session.CopyId.{CopyId}
use Rattle.mqtt_records.specs.state.Session.{birth_of}
use Rattle.mqtt_records.specs.declared.state.session.Session.{Session}
use Rattle.mqtt_routes.specs.routing.Acceptance.{Served, Routed}
use Rattle.mqtt_routes.specs.routing.Subscriptions.{AreAfter, AreInOrder}
use Rattle.mqtt_records.specs.lists.Distinct.{AllDiffer}
use Rattle.mqtt_records.specs.lists.Order.{IsAbove, IsAscending}
use Rattle.mqtt_rules.specs.declared.step.Capacity.{Capacity}
use Rattle.mqtt_rules.specs.step.Laws.{IsAmong}
use Rattle.mqtt_rules.specs.step.Routing.{CopyTo, copies_to, accepted_if, accepted_copies, finds_place, routing_of, next_publication, answers, publication_of, subscriber_of, subscribers}
use Rattle.mqtt_rules.proofs.step_lemmas.numbers.Copies.{each_more}
use Rattle.mqtt_world_model.specs.model.World.{World, start}
use Rattle.mqtt_world_model.specs.model.Run.{Turn, run, Acceptance, acceptances_over, deeds_over}
use Rattle.mqtt_world_model.specs.model.Laws.{count_of, is_copy, is_own, standing, EnteredOnce, CopiesOnce}
use Rattle.mqtt_world_laws.specs.acceptance.Copies.{entered_from, ended_from}
use Rattle.mqtt_world_laws.specs.acceptance.Entries.{queued_ids, ids_if, brought_in}
use Rattle.mqtt_world_laws.specs.acceptance.Fair.{IsNew, IsCounted}
use Rattle.mqtt_world_laws.specs.acceptance.Steps.{Step, steps_over}
use Rattle.mqtt_world_laws.proofs.acceptance_lemmas.copies.CopiesApart.{accepted_differ, queued_differ}
use Rattle.mqtt_world_laws.proofs.acceptance_lemmas.copies.CopyRuns.{run_balances, run_numbers}
use Rattle.mqtt_world_laws.proofs.acceptance_lemmas.copies.OnceRuns.{enters_once, start_apart}
use Rattle.mqtt_world_laws.proofs.acceptance_lemmas.publishers.Runs.{start_new}
use Rattle.mqtt_world_laws.proofs.acceptance_lemmas.copies.StepRuns.{run_enters}
use Rattle.mqtt_world_laws.specs.routing.Intended.{intended_for, is_groups, EntersAsIntended, AllEnterAsIntended}
use Rattle.mqtt_world_laws.specs.headline_in_forms.Delivery.{EntersAsIntended as EntersIntended, EntersForGroup as EntersForOne}
use Rattle.mqtt_world_laws.proofs.routing_lemmas.Groups.{each_gets_one, served_differ}
use Rattle.mqtt_world_laws.proofs.routing_lemmas.Lists.{each_among}
use Rattle.mqtt_world_laws.proofs.routing_lemmas.OwnCounts.{counts_differ, only_own, count_kept, same_own, groups_own, intended_once, one_each}
use Rattle.mqtt_world_laws.proofs.routing_lemmas.OwnRuns.{number_of, accepted_in, Accepts, run_accepts}
use Rattle.mqtt_world_laws.proofs.routing_lemmas.OwnSteps.{IsNext, AreNext, own_ids, own_brought}

-- ---- what the steps of a run bring of a publication

steps_bring : (n : ℕ) (xs : List Step) → AllByRecursion (λ (x : Step). AreNext (accepted_in x)) xs → filter (is_own n) (flat_map brought_in xs) ≡ flat_map (own_ids n) (flat_map accepted_in xs)
steps_bring n [] h = refl
steps_bring n (x ∷ xs) h =
    filter-append (is_own n) (brought_in x) (flat_map brought_in xs)
    ∙ ap (λ (cs : List CopyId). cs ++ filter (is_own n) (flat_map brought_in xs)) (own_brought n x.env x.deeds x.broker h.0)
    ∙ ap (λ (cs : List CopyId). flat_map (own_ids n) (accepted_in x) ++ cs) (steps_bring n xs h.1)
    ∙ sym (flat_map-append (own_ids n) (accepted_in x) (flat_map accepted_in xs))

all_next : (xs : List Step) → AllByRecursion (λ (x : Step). AreNext (accepted_in x)) xs → (a : Acceptance) → IsAmong a (flat_map accepted_in xs) → IsNext a
all_next [] h a among = absurd among
all_next (x ∷ xs) h a among = in_front (accepted_in x) h.0 (all_next xs h.1 a) among
  where
    in_front : (accepted : List Acceptance) → AreNext accepted → (IsAmong a (flat_map accepted_in xs) → IsNext a) → IsAmong a (accepted ++ flat_map accepted_in xs) → IsNext a
    in_front [] q more among = more among
    in_front (c ∷ cs) q more (inl same) = subst IsNext same q.0
    in_front (c ∷ cs) q more (inr behind) = in_front cs q.1 more behind

-- ---- the routing by which a publication was accepted

-- these copies are those that a routing of the publication means
pub record WasRouted (a : Acceptance) (ds : List CopyTo) : Type 0 where
  pub routing : Routed
  pub routing_is : routing_of a.env a.message a.broker.records ≡ Some routing
  pub copies_are : ds ≡ intended_for a routing

was_routed : (a : Acceptance) (ds : List CopyTo) → a.number ≡ next_publication a.broker.records → accepted_copies a.env a.message a.broker ≡ Some ds → WasRouted a ds
was_routed a ds number e = by (finds_place a.env a.message a.broker.records) (routing_of a.env a.message a.broker.records) refl e
  where
    by : (t : Bool) (o : Option Routed) → routing_of a.env a.message a.broker.records ≡ o
        → accepted_if t (option_map (copies_to (next_publication a.broker.records) a.broker.now a.message) o) ≡ Some ds → WasRouted a ds
    by false o is f = absurd cc
    by true None is f = absurd cc
    by true (Some r) is f =
        let same : copies_to (next_publication a.broker.records) a.broker.now a.message r ≡ ds = cc in
        record { routing = r; routing_is = is; copies_are = sym same ∙ ap (λ (n : ℕ). copies_to n a.broker.now a.message r) (sym number) }

behind_births : (n : ℕ) (ss : List Session) → IsAbove birth_of n ss → AreAfter n (map subscriber_of ss)
behind_births n [] h = tt
behind_births n (s ∷ ss) h = (h.0, behind_births n ss h.1)

-- sessions that stand by birth are in order
pub births_in_order : (ss : List Session) → IsAscending birth_of ss → AreInOrder (map subscriber_of ss)
births_in_order [] h = tt
births_in_order (s ∷ ss) h = (behind_births s.birth ss h.0, births_in_order ss h.1)

-- ---- steps, and what enters and is accepted in them

module _ (xs : List Step) (copies : List CopyId) (accepted : List Acceptance) where
  own_entered : (n : ℕ) → copies ≡ flat_map brought_in xs → accepted ≡ flat_map accepted_in xs → AllByRecursion (λ (x : Step). AreNext (accepted_in x)) xs
      → filter (is_own n) copies ≡ flat_map (own_ids n) accepted
  own_entered n entered_is accepted_are each = ap (filter (is_own n)) entered_is ∙ steps_bring n xs each ∙ ap (flat_map (own_ids n)) (sym accepted_are)

  of_acceptance : (a : Acceptance) → ((n : ℕ) → filter (is_own n) copies ≡ flat_map (own_ids n) accepted) → AllDiffer (map number_of accepted) → IsAmong a accepted → IsNext a → EntersIntended copies a
  of_acceptance a own numbers_differ among h = record {
    routing = r;
    routing_is = routed.routing_is;
    copies_are = h.routed_is ∙ ap Some routed.copies_are;
    each = each_gets_one (answers a.env a.broker.records) (publication_of a.message) choices (subscribers a.broker.records) order r routed.routing_is;
    entered_is = entered_are;
    counted = λ c its. count_kept (is_copy c) (is_own a.number) (same_own a.number c its) copies ∙ ap (count_of c) entered_are ∙ intended_once c (intended_for a r) differ;
    groups = each_among (EntersForOne copies a.number) r.served (λ s stands. for_group s stands);
  }
    where
      routed : WasRouted a h.copies
      routed = was_routed a h.copies h.number h.routed_is

      r : Routed
      r = routed.routing

      choices : List ℕ
      choices = a.env.choice (next_publication a.broker.records) a.message.sender

      order : AreInOrder (subscribers a.broker.records)
      order = births_in_order a.broker.records.sessions h.order.sessions.ascending

      entered_are : filter (is_own a.number) copies ≡ queued_ids (intended_for a r)
      entered_are = own a.number ∙ only_own a accepted numbers_differ among ∙ ap ids_if h.routed_is ∙ ap queued_ids routed.copies_are

      differ : AllDiffer (queued_ids (intended_for a r))
      differ = subst (λ (ds : List CopyTo). AllDiffer (queued_ids ds)) routed.copies_are (queued_differ h.copies (accepted_differ a.env a.message a.broker h.copies h.order h.routed_is).differ)

      for_group : (s : Served) → IsAmong s r.served → EntersForOne copies a.number s
      for_group s stands =
          count_kept (is_groups a.number s.group) (is_own a.number) (groups_own a.number s.group) copies
          ∙ ap (count_by (is_groups a.number s.group)) entered_are
          ∙ one_each a.number a.broker.now a.message r (served_differ (answers a.env a.broker.records) (publication_of a.message) choices (subscribers a.broker.records) order r routed.routing_is) s stands

  -- the copies of each publication enter as they were meant, if these steps bring what entered and accept what was accepted, each with
  -- a number of its own
  pub all_intended : copies ≡ flat_map brought_in xs → accepted ≡ flat_map accepted_in xs → AllByRecursion (λ (x : Step). AreNext (accepted_in x)) xs → AllDiffer (map number_of accepted)
      → AllByRecursion (EntersIntended copies) accepted
  all_intended entered_is accepted_are each differ =
      each_among (EntersIntended copies) accepted
      (λ a among. of_acceptance a (λ n. own_entered n entered_is accepted_are each) differ among (all_next xs each a (subst (λ (all : List Acceptance). IsAmong a all) accepted_are among)))

-- ---- a run

module _ (limits : Capacity) (ts : List Turn) (w : World) (new : IsNew w) (fair : IsCounted limits ts w) where
  it : Accepts (deeds_over limits ts w) (steps_over limits ts w) (acceptances_over limits ts w)
  it = run_accepts limits ts w new fair

  -- in a run that spends no number they enter so
  pub run_intended : AllByRecursion (EntersIntended (entered_from limits ts w)) (acceptances_over limits ts w)
  run_intended =
      all_intended (steps_over limits ts w) (entered_from limits ts w) (acceptances_over limits ts w) (run_enters limits ts w new fair) it.accepted_are it.each
      (subst AllDiffer it.numbers (counts_differ w.broker.records.publications (run limits ts w).broker.records.publications _ (run_numbers limits ts w new fair)))

  -- in a run that spends no number from nothing the copies of each publication enter as they were meant
  pub all_enter : AllEnterAsIntended limits ts w
  all_enter =
      each_more (EntersIntended (entered_from limits ts w)) (EntersAsIntended limits ts w)
      (λ a x. record { routing = x.routing; routing_is = x.routing_is; copies_are = x.copies_are; each = x.each; entered_is = x.entered_is; counted = x.counted; groups = x.groups })
      (acceptances_over limits ts w) run_intended

-- ---- from nothing stored

-- in every run that spends no number the copies of a publication are those that were meant
pub copies_once : (limits : Capacity) (ts : List Turn) → IsCounted limits ts start → CopiesOnce limits ts
copies_once limits ts fair = record {
  entered = All-from_recursion (EnteredOnce limits ts) (acceptances_over limits ts start)
      (each_more (EntersAsIntended limits ts start) (EnteredOnce limits ts) (λ a x. record { copies = intended_for a x.routing; routed_is = x.copies_are; entered_is = x.entered_is })
      (acceptances_over limits ts start) (all_enter limits ts start start_new fair));
  once = λ c. enters_once limits ts start start_new fair start_apart c;
  waits_or_ended = λ c. even c;
}
  where
    even : (c : CopyId) → count_of c (entered_from limits ts start) ≡ count_of c (standing (run limits ts start).broker) + count_of c (ended_from limits ts start)
    even c =
        let all = run_balances limits ts start start_new fair c in
        let none : count_of c (standing start.broker) ≡ 0 = refl in
        omega (arith, all, none)
