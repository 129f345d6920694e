-- In a run from nothing stored each receiver was handed its copies once, whole (MQTT 5.0, 4.3.2, 4.3.3, 4.6).
use Rattle.std.proofs.Common.{◌≡◌, ◌+◌, ◌≤◌, Bool, true, false, ◌||◌, List, [], ◌∷◌, ◌++◌, map, Some, refl, sym, ap, subst, ◌∙◌, append_assoc, arith, inl, inr}
use Rattle.std.specs.Prelude.{All, filter_map}
use Rattle.std.specs.List.{AllByRecursion}
use Rattle.std.proofs.lemmas.Bool.{cases_Bool}
use Rattle.std.proofs.lemmas.List.Elements.{All-from_recursion, filter_map-append, recursion_from_All}
use Rattle.mqtt_base.specs.declared.session.CopyId.{CopyId}
use Rattle.mqtt_world_model.specs.model.Ends.{Receiver}
use Rattle.mqtt_world_model.specs.model.Laws.{AllHandedOnce, HandedOnce, IsTaken, count_of, is_copy, standing}
use Rattle.mqtt_world_model.specs.model.Run.{End, Turn, after, deeds_at, deeds_over, ended_in, ended_over, run, setting, turned}
use Rattle.mqtt_world_model.specs.model.World.{World, receiver_named, start}
use Rattle.mqtt_rules.proofs.step_lemmas.numbers.Copies.{each_append, each_more}
use Rattle.mqtt_rules.specs.step.Deeds.{Deed}
use Rattle.mqtt_rules.specs.declared.step.Capacity.{Capacity}
use Rattle.mqtt_world_laws.specs.acceptance.Copies.{entered_from}
use Rattle.mqtt_world_laws.specs.acceptance.Fair.{IsFair}
use Rattle.mqtt_world_laws.proofs.acceptance_lemmas.copies.CopyRuns.{run_balances, run_numbers}
use Rattle.mqtt_world_laws.proofs.acceptance_lemmas.copies.Counting.{count_append}
use Rattle.mqtt_world_laws.proofs.acceptance_lemmas.copies.Walks.{run_walks, counted}
use Rattle.mqtt_world_laws.proofs.receiver_lemmas.drains.DrainRuns.{run_append}
use Rattle.mqtt_world_laws.proofs.receiver_lemmas.queue.Handed.{copy_itself}
use Rattle.mqtt_world_laws.specs.delivery.HandedOnce.{WasHanded}
use Rattle.mqtt_world_laws.specs.delivery.HandedOver.{is_among}
use Rattle.mqtt_world_laws.specs.delivery.Untouched.{IsUntouched}
use Rattle.mqtt_world_laws.proofs.delivery_lemmas.order.Among.{all_one, counts_once}
use Rattle.mqtt_world_laws.proofs.delivery_lemmas.broker.Births.{Enters, entering}
use Rattle.mqtt_world_laws.proofs.delivery_lemmas.others.Clients.{run_found}
use Rattle.mqtt_world_laws.proofs.delivery_lemmas.contents.ContentRuns.{run_reads}
use Rattle.mqtt_world_laws.proofs.delivery_lemmas.whole.EveryRun.{carried_append, run_hands, run_keeps_ledger, spent_append}
use Rattle.mqtt_world_laws.proofs.delivery_lemmas.taken.HandedEnds.{run_takes}
use Rattle.mqtt_world_laws.proofs.delivery_lemmas.whole.Newcomers.{IsNewcomer, Parts, parts, run_hands_all}
use Rattle.mqtt_world_laws.proofs.delivery_lemmas.broker.Untouched.{start_untouched}

-- ---- the deeds of one run and then another

deeds_parts : (limits : Capacity) (xs ys : List Turn) (w : World) → deeds_over limits (xs ++ ys) w ≡ deeds_over limits xs w ++ deeds_over limits ys (run limits xs w)
deeds_parts limits [] ys w = refl
deeds_parts limits (t ∷ xs) ys w =
    let u = turned limits t w in
    let ds = deeds_at (setting limits t) t.event w in
    ap (λ (es : List Deed). ds ++ es) (deeds_parts limits xs ys u) ∙ sym (append_assoc ds (deeds_over limits xs u) (deeds_over limits ys (run limits xs u)))

-- ---- a copy that has ended had entered

abbrev copies_of : List End → List CopyId
copies_of es = map (λ (e : End). e.copy) es

or_right : (a b : Bool) → b ≡ true → (a || b) ≡ true
or_right true b h = refl
or_right false b h = h

each_ended : (es : List End) → AllByRecursion (λ (e : End). is_among (copies_of es) e.copy ≡ true) es
each_ended [] = tt
each_ended (e ∷ es) =
    let its = copy_itself e.copy in (
      rw its refl,
      each_more (λ (x : End). is_among (copies_of es) x.copy ≡ true) (λ (x : End). is_among (copies_of (e ∷ es)) x.copy ≡ true) (λ x h. or_right (is_copy x.copy e.copy) (is_among (copies_of es) x.copy) h) es (each_ended es),
    )

counted_among : (x : CopyId) (ys : List CopyId) → 1 ≤ count_of x ys → is_among ys x ≡ true
counted_among x [] h = absurd (omega (arith, h))
counted_among x (y ∷ ys) h =
    let all : count_of x (y ∷ ys) ≡ count_of x (y ∷ []) + count_of x ys = count_append x (y ∷ []) ys in
    elim (cases_Bool (is_copy x y)) [
      | inl its ↦ rw its refl
      | inr other ↦
          let none : count_of x (y ∷ []) ≡ 0 = rw other refl in
          let rest : 1 ≤ count_of x ys = omega (arith, all, none, h) in
          rw other (counted_among x ys rest)
    ]

-- so its session's birth was given
ended_upto : (limits : Capacity) (xs : List Turn) → IsUntouched limits start → IsFair limits xs start → AllByRecursion (λ (e : End). e.copy.birth ≤ (run limits xs start).broker.records.births) (filter_map ended_in (deeds_over limits xs start))
ended_upto limits xs u fair =
    let ends = filter_map ended_in (deeds_over limits xs start) in
    let last = (run limits xs start).broker.records.births in
    let entered : Enters (deeds_over limits xs start) start.broker (run limits xs start).broker = run_walks Enters limits xs start (entering limits) u.new (counted limits xs start fair) in
    each_more (λ (e : End). is_among (copies_of ends) e.copy ≡ true) (λ (e : End). e.copy.birth ≤ last) (λ e among.
    let some = counts_once e.copy (copies_of ends) among in
    let balance = run_balances limits xs start u.new (counted limits xs start fair) e.copy in
    let none : count_of e.copy (standing start.broker) ≡ 0 = refl in
    let here : 1 ≤ count_of e.copy (entered_from limits xs start) = omega (arith, some, balance, none) in
    all_one (λ (c : CopyId). c.birth ≤ last) e.copy (entered_from limits xs start) entered.each (counted_among e.copy (entered_from limits xs start) here)) ends (each_ended ends)

-- ---- one receiver

module _ (limits : Capacity) (ts : List Turn) (fair : IsFair limits ts start) (r : Receiver) (found : receiver_named r.client (run limits ts start) ≡ Some r) where
  u : IsUntouched limits start
  u = start_untouched limits fair.within

  split : Parts r.client limits ts start
  split = parts r.client limits ts start r fair.clean refl found

  abbrev v : World
  v = run limits split.first start

  fair_parts : IsFair limits (split.first ++ split.later) start
  fair_parts = subst (λ (zs : List Turn). IsFair limits zs start) (sym split.are) fair

  fair_first : IsFair limits split.first start
  fair_first = record { within = fair.within; unspent = (spent_append limits split.first split.later start fair_parts.unspent).0; clean = (carried_append limits split.first split.later start fair_parts.clean).0 }

  new : IsNewcomer r.client v
  new = split.new

  at_end : receiver_named r.client (run limits (split.first ++ split.later) start) ≡ Some r
  at_end = subst (λ (zs : List Turn). receiver_named r.client (run limits zs start) ≡ Some r) (sym split.are) found

  since_is : r.since ≡ v.broker.records.births
  since_is = (run_keeps_ledger limits split.later v r.client new.its r new.named (sym (ap (receiver_named r.client) (run_append limits split.first split.later start)) ∙ at_end)).since ∙ new.since

  abbrev ends : List Turn → World → List End
  ends zs w = filter_map ended_in (deeds_over limits zs w)

  before : AllByRecursion (IsTaken r) (ends split.first start)
  before =
      each_more (λ (e : End). e.copy.birth ≤ v.broker.records.births) (IsTaken r) (λ e upto its above taken. let is = since_is in absurd (omega (arith, upto, above, is))) (ends split.first start)
      (ended_upto limits split.first u fair_first)

  since_then : AllByRecursion (IsTaken r) (ends split.later v)
  since_then =
      each_more (WasHanded r.client r) (IsTaken r) (λ e h its above taken. h its taken) (ends split.later v)
      (recursion_from_All (WasHanded r.client r) (ends split.later v) (run_takes limits split.first split.later start u fair_parts r.client new.its new.named r at_end))

  all_ends : filter_map ended_in (deeds_over limits (split.first ++ split.later) start) ≡ ends split.first start ++ ends split.later v
  all_ends = ap (filter_map ended_in) (deeds_parts limits split.first split.later start) ∙ filter_map-append ended_in (deeds_over limits split.first start) (deeds_over limits split.later v)

  all_taken : All (IsTaken r) (ended_over limits ts)
  all_taken =
      All-from_recursion (IsTaken r) (ended_over limits ts)
      (subst (λ (zs : List Turn). AllByRecursion (IsTaken r) (filter_map ended_in (deeds_over limits zs start))) split.are
      (subst (AllByRecursion (IsTaken r)) (sym all_ends) (each_append (IsTaken r) (ends split.first start) (ends split.later v) before since_then)))

  handed_whole : HandedOnce limits ts r
  handed_whole =
      let handed = run_hands limits ts start u fair r.client r found in
      record {
        tagged = handed.tagged;
        once = handed.once;
        in_order = run_hands_all limits ts start u fair r.client r found;
        released = handed.released;
        taken = all_taken;
        carried = run_reads limits ts start u (tt, tt) (run_numbers limits ts start u.new (counted limits ts start fair)) fair r.client r found;
      }

-- ---- each of them

-- in every fair run from the start all are handed copies once
pub all_handed_whole : (limits : Capacity) (ts : List Turn) → IsFair limits ts start → AllHandedOnce limits ts
all_handed_whole limits ts fair =
    let rs = (after limits ts).receivers in
    All-from_recursion (HandedOnce limits ts) rs
    (each_more (λ (r : Receiver). receiver_named r.client (run limits ts start) ≡ Some r) (HandedOnce limits ts) (λ r found. handed_whole limits ts fair r found) rs (run_found limits ts start tt))
