-- So a drain of a receiver whose line stands empties its queue (MQTT 5.0, 4.3, 4.4, 4.6).
use Rattle.std.proofs.Common.{◌≡◌, ℕ, zero, suc, ◌+◌, ◌*◌, ◌≤◌, Bool, true, false, cond, not, ◌||◌, List, [], ◌∷◌, ◌++◌, length, Option, Some, None, refl, sym, ap, subst, ◌∙◌, arith, inl, inr}
use Rattle.std.specs.Prelude.{is_some}
use Rattle.mqtt_world_model.specs.model.Run.{Turn, are_beginnings_clean, run}
use Rattle.mqtt_world_model.specs.model.Tellings.{queue_length}
use Rattle.mqtt_world_model.specs.model.World.{World, receiver_named, start}
use Rattle.mqtt_records.specs.declared.state.session.Session.{Session}
use Rattle.mqtt_rules.specs.step.State.{MemberChoice, session_named}
use Rattle.mqtt_rules.specs.declared.step.Capacity.{Capacity}
use Rattle.mqtt_world_laws.specs.acceptance.Copies.{entered_from}
use Rattle.mqtt_world_laws.specs.acceptance.Fair.{IsFair}
use Rattle.mqtt_world_laws.specs.acceptance.Spending.{run_spends}
use Rattle.mqtt_world_laws.specs.receiver.Drains.{Doing, after_round, all_turns, copies_by, copies_left, count_by_end, drain_by, drain_turns, drained, drains, enough_rounds, happens, is_bad_drain, is_none_left, is_over, line_stands, round_turns, rounds_taken, turns_of}
use Rattle.mqtt_world_laws.proofs.receiver_lemmas.queue.Numbers.{place_of, places_number}
use Rattle.mqtt_world_laws.proofs.receiver_lemmas.drains.WorldRoundSteps.{is_linked_now}
use Rattle.mqtt_world_laws.proofs.receiver_lemmas.drains.WorldRounds.{drain_is, drain_is_empty, more_rounds}
use Rattle.mqtt_world_laws.specs.receiver.Connecting.{any_size}
use Rattle.mqtt_world_laws.specs.delivery.Untouched.{IsUntouched}
use Rattle.mqtt_world_laws.proofs.delivery_lemmas.drains.Drains.{MayBeDrained, ends_within, round_carried}
use Rattle.mqtt_world_laws.proofs.delivery_lemmas.whole.EveryRun.{carried_append, fair_run_kept, over_or_drained, spent_append, untouched_kept}
use Rattle.mqtt_world_laws.proofs.delivery_lemmas.order.QueueGrowth.{queue_grows}
use Rattle.mqtt_world_laws.proofs.delivery_lemmas.others.Runs.{IsKept, run_kept}
use Rattle.mqtt_world_laws.proofs.delivery_lemmas.broker.Untouched.{start_untouched}
use Rattle.mqtt_world_laws.specs.drains.Emptied.{AllDrainsEmpty, EmptiesQueue, EmptiesWhere, HasEnough, copies_to_take, waiting_for}
use Rattle.mqtt_world_laws.proofs.drains_lemmas.Rounds.{round_on}
use Rattle.mqtt_world_laws.proofs.drains_lemmas.Whereabouts.{good_of, linked_stands, on_may}

-- ---- a queue

none_waits : (c : List ℕ) (w : World) → copies_left c w ≡ 0 → waiting_for c w ≡ 0
none_waits c w h = by (session_named c w.broker.records) refl
  where
    by : (o : Option Session) → session_named c w.broker.records ≡ o → queue_length o ≡ 0
    by None e = refl
    by (Some s) e = sym (ap copies_by e) ∙ h

-- if its line stands, a drain is over when none is left
none_left : (n : ℕ) (bad : Bool) → bad ≡ false → (is_none_left n || bad) ≡ true → n ≡ 0
none_left zero bad good h = refl
none_left (suc n) bad good h = let clash : true ≡ false = sym h ∙ good in absurd cc

over_of : (c : List ℕ) (w : World) → copies_left c w ≡ 0 → is_over c w ≡ true
over_of c w h = ap (λ (n : ℕ). is_none_left n || not (line_stands (receiver_named c w) w)) h

-- if it is not over, a session of its name stands
session_there : (c : List ℕ) (w : World) → is_over c w ≡ false → is_some (session_named c w.broker.records) ≡ true
session_there c w on = by (session_named c w.broker.records) refl
  where
    by : (o : Option Session) → session_named c w.broker.records ≡ o → is_some o ≡ true
    by None e = let clash : true ≡ false = sym (over_of c w (ap copies_by e)) ∙ on in absurd cc
    by (Some s) e = refl

module _ (c : List ℕ) (limits : Capacity) (choice : MemberChoice) where
  -- ---- with more rounds nothing more happens

  none_more : (most : ℕ) (w : World) → is_over c w ≡ true → (rounds_taken limits choice c most w ≡ 0) × (drained limits choice c most w ≡ w)
  none_more zero w over = (refl, refl)
  none_more (suc more) w over =
      let v = after_round limits choice c w in (
        ap (λ (t : Bool). count_by_end t (rounds_taken limits choice c more v)) over,
        ap (λ (t : Bool). run limits (drain_by t (round_turns limits choice c w) (drain_turns limits choice c more v)) w) over,
      )

  abbrev Rests : ℕ → ℕ → World → Type 0
  Rests most more w = (rounds_taken limits choice c more w ≡ rounds_taken limits choice c most w) × (drained limits choice c more w ≡ drained limits choice c most w)

  no_more : (most more : ℕ) (w : World) → most ≤ more → is_over c (drained limits choice c most w) ≡ true → Rests most more w
  no_more zero more w le over = none_more more w over
  no_more (suc most) zero w le over = absurd (omega (arith, le))
  no_more (suc most) (suc more) w le over = by (no_more most more (after_round limits choice c w) (omega (arith, le))) (is_over c w) refl
    where
      v : World
      v = after_round limits choice c w

      by : (is_over c (drained limits choice c most (after_round limits choice c w)) ≡ true → Rests most more (after_round limits choice c w)) → (t : Bool) → is_over c w ≡ t → Rests (suc most) (suc more) w
      by later true is =
          let x = none_more (suc most) w is in
          let y = none_more (suc more) w is in
          (y.0 ∙ sym x.0, y.1 ∙ sym x.1)
      by later false is =
          let x = later (sym (ap (is_over c) (more_rounds limits choice c most w is)) ∙ over) in (
            ap (λ (t : Bool). count_by_end t (rounds_taken limits choice c more v)) is
                ∙ (ap suc x.0 ∙ sym (ap (λ (t : Bool). count_by_end t (rounds_taken limits choice c most v)) is)),
            more_rounds limits choice c more w is ∙ (x.1 ∙ sym (more_rounds limits choice c most w is)),
          )

  -- ---- what a drain comes to

  record ComesTo (v : World) : Type 0 where
    pub none : copies_left c v ≡ 0
    pub good : is_bad_drain c v ≡ false

  emptied_by : (most : ℕ) (w : World) → rounds_taken limits choice c most w ≤ enough_rounds (copies_to_take limits choice c w) → (HasEnough limits choice c most w → ComesTo (drained limits choice c most w)) → EmptiesQueue limits choice c most w
  emptied_by most w few comes = record {
    is_within = few;
    empty = λ enough. none_waits c (drained limits choice c most w) (comes enough).none;
    good = λ enough. (comes enough).good;
    rests = λ enough more le. no_more most more w le (over_of c (drained limits choice c most w) (comes enough).none);
  }

  -- it is over at its start
  at_once : (most : ℕ) (w : World) → is_bad_drain c w ≡ false → is_over c w ≡ true → EmptiesQueue limits choice c most w
  at_once most w good over =
      let x = none_more most w over in
      let few = x.0 in
      let here : ComesTo w = record { none = none_left (copies_left c w) (is_bad_drain c w) good over; good = good } in
      emptied_by most w (omega (arith, few)) (λ enough. subst ComesTo (sym x.1) here)

  -- no round is taken
  not_begun : (w : World) → EmptiesQueue limits choice c 0 w
  not_begun w = emptied_by 0 w (omega arith) (λ enough. let le : 2 * copies_to_take limits choice c w + 1 ≤ 0 = enough in absurd (omega (arith, le)))

  -- from where it may be drained
  drained_to : (most : ℕ) (v : World) → MayBeDrained c any_size v → 2 * copies_left c v ≤ most → ComesTo (drained limits choice c most v)
  drained_to most v m enough =
      let x = m.may.connected.in_step.runs (place_of m.ids) (places_number m.ids m.differ) in
      let d = drain_is (place_of m.ids) any_size m.window m.ids m.birth m.ns limits choice c x.after m.receiver v m.may x.same x.run_is most m.room in
      let last = drained limits choice c most v in
      record {
        none = drain_is_empty any_size m.window m.ids m.birth m.ns limits choice c most m.receiver v m.room m.differ m.may enough;
        good = good_of c d.receiver last d.may.named (linked_stands d.receiver.line.number last.broker (is_linked_now (place_of m.ids) any_size m.window m.ids m.birth m.ns d.receiver last.broker d.may.connected));
      }

  -- its first round is taken
  goes_on : (most : ℕ) (w : World) → IsKept [] c limits w → is_bad_drain c w ≡ false → is_over c w ≡ false → run_spends limits (round_turns limits choice c w) w ≡ false → EmptiesQueue limits choice c (suc most) w
  goes_on most w kept good on unspent =
      let v = after_round limits choice c w in
      let turns = round_turns limits choice c w in
      let brought = length (entered_from limits turns w) in
      let around = kept.stands.standing.around in
      let some : copies_left c v ≤ copies_left c w + brought = queue_grows c limits turns w around.within around.steady unspent in
      let either_ = over_or_drained limits choice c w kept unspent in
      let within = ends_within c limits choice any_size (suc most) w either_ in
      let later = run_kept [] c limits turns w kept unspent (round_carried c limits choice w) in
      let m = on_may c limits v later (round_on c limits choice w kept unspent (record { good = good; session = session_there c w on })) in
      emptied_by (suc most) w (omega (arith, some, within)) (λ enough.
      let le : 2 * (copies_left c w + brought) + 1 ≤ suc most = enough in
      subst ComesTo (sym (more_rounds limits choice c most w on)) (elim either_ [
        | inl over ↦
            let here : ComesTo v = record { none = none_left (copies_left c v) (is_bad_drain c v) m.good over; good = m.good } in
            subst ComesTo (sym (none_more most v over).1) here
        | inr may ↦ drained_to most v may (omega (arith, some, le))
      ]))

  -- whatever is so of its first round, if one is taken
  pub empties_if : (most : ℕ) (w : World) → IsKept [] c limits w → is_bad_drain c w ≡ false → ((more : ℕ) → most ≡ suc more → is_over c w ≡ false → run_spends limits (round_turns limits choice c w) w ≡ false) → EmptiesQueue limits choice c most w
  empties_if most w kept good costs = by (is_over c w) refl
    where
      begun : (k : ℕ) → most ≡ k → is_over c w ≡ false → EmptiesQueue limits choice c k w
      begun zero is on = not_begun w
      begun (suc more) is on = goes_on more w kept good on (costs more is on)

      by : (t : Bool) → is_over c w ≡ t → EmptiesQueue limits choice c most w
      by true is = at_once most w good is
      by false is = begun most refl is

-- ---- in a run

-- behind a fair run a drain empties the queue
pub run_empties : (limits : Capacity) (ts : List Turn) (choice : MemberChoice) (c : List ℕ) (most : ℕ) (w : World) → IsUntouched limits w → IsFair limits ts w
    → run_spends limits (round_turns limits choice c (run limits ts w)) (run limits ts w) ≡ false → is_bad_drain c (run limits ts w) ≡ false → EmptiesQueue limits choice c most (run limits ts w)
run_empties limits ts choice c most w u fair unspent good = empties_if c limits choice most (run limits ts w) (fair_run_kept limits ts w u fair c) good (λ more is on. unspent)

-- ---- in a script

-- a drain that is not bad does, where no number is spent
pub doing_empties : (limits : Capacity) (d : Doing) (w : World) → ((c : List ℕ) → IsKept [] c limits w) → run_spends limits (turns_of limits d w) w ≡ false → EmptiesWhere limits d w
doing_empties limits (happens t) w k u = tt
doing_empties limits (drains choice c most) w k u = λ good.
    let goes : run_spends limits (drain_turns limits choice c most w) w ≡ false = subst (λ (bad : Bool). run_spends limits (cond bad [] (drain_turns limits choice c most w)) w ≡ false) good u in
    empties_if c limits choice most w (k c) good (λ more is on.
    let rest = drain_turns limits choice c more (after_round limits choice c w) in
    let all : run_spends limits (drain_turns limits choice c (suc more) w) w ≡ false = subst (λ (j : ℕ). run_spends limits (drain_turns limits choice c j w) w ≡ false) is goes in
    let first : run_spends limits (round_turns limits choice c w ++ rest) w ≡ false = subst (λ (t : Bool). run_spends limits (drain_by t (round_turns limits choice c w) rest) w ≡ false) on all in
    (spent_append limits (round_turns limits choice c w) rest w first).0)

all_empty : (limits : Capacity) (ds : List Doing) (w : World) → ((c : List ℕ) → IsKept [] c limits w) → run_spends limits (all_turns limits ds w) w ≡ false → are_beginnings_clean limits (all_turns limits ds w) w ≡ true → AllDrainsEmpty limits ds w
all_empty limits [] w k unspent carried = tt
all_empty limits (d ∷ ds) w k unspent carried =
    let turns = turns_of limits d w in
    let v = run limits turns w in
    let costs = spent_append limits turns (all_turns limits ds v) w unspent in
    let clean = carried_append limits turns (all_turns limits ds v) w carried in
    (doing_empties limits d w k costs.0, all_empty limits ds v (λ c. run_kept [] c limits turns w (k c) costs.0 clean.0) costs.1 clean.1)

-- so do all drains of a script
pub script_empties : (limits : Capacity) (ds : List Doing) (w : World) → IsUntouched limits w → IsFair limits (all_turns limits ds w) w → AllDrainsEmpty limits ds w
script_empties limits ds w u fair = all_empty limits ds w (λ c. untouched_kept c limits w fair.within u) fair.unspent fair.clean

-- from nothing
pub start_empties : (limits : Capacity) (ds : List Doing) → IsFair limits (all_turns limits ds start) start → AllDrainsEmpty limits ds start
start_empties limits ds fair = script_empties limits ds start (start_untouched limits fair.within) fair
