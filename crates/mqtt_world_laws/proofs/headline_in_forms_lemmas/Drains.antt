-- Drains and scripts of runs in forms are made of the same events as those of runs of what packets mean, and empty their queues.
use Rattle.std.proofs.Common.{◌≡◌, ◌≤◌, ◌+◌, ℕ, zero, suc, Bool, true, false, cond, not, List, [], ◌∷◌, ◌++◌, length, Option, Some, None, refl, sym, ap, ap₂, subst, ◌∙◌, arith}
use Rattle.std.specs.Prelude.{◌||◌}
use Rattle.std.specs.List.{AllByRecursion}
use Rattle.mqtt_rules.specs.step.State.{Broker, MemberChoice, session_named}
use Rattle.mqtt_rules.specs.declared.step.Capacity.{Capacity}
use Rattle.mqtt_world_model.specs.model.Ends.{Receiver}
use Rattle.mqtt_world_model.specs.model.Run.{Turn}
use Rattle.mqtt_world_model.specs.model.Run as meant
use Rattle.mqtt_world_model.specs.model.Tellings.{queue_length}
use Rattle.mqtt_world_model.specs.model.World.{World, ask, pump, receiver_named, to_broker, to_end}
use Rattle.mqtt_world_laws.specs.acceptance.Copies.{entered_from}
use Rattle.mqtt_world_laws.specs.causes.Endings.{EndAt, ends_over}
use Rattle.mqtt_world_laws.specs.receiver.Drains.{Doing, all_to_broker, all_to_end, copies_by, copies_left, count_by_end, drain_by, drains, enough_rounds, happens, is_bad_drain, is_none_left, is_over, line_stands, times, turn_of}
use Rattle.mqtt_world_laws.specs.receiver.Drains as meant_drains
use Rattle.mqtt_world_laws.specs.drains.Emptied.{copies_to_take}
use Rattle.mqtt_world_laws.specs.drains.Emptied as meant_emptied
use Rattle.mqtt_world_laws.specs.drain_causes.DrainEnds.{IsOfDrain, moment_of}
use Rattle.mqtt_world_laws.specs.headline.Delivery as meant_delivery
use Rattle.mqtt_world_laws.specs.telling.AsSent.{AsSent, Most, run}
use Rattle.mqtt_world_laws.specs.headline_in_forms.Reading.{Course, course, ends, entered}
use Rattle.mqtt_world_laws.specs.headline_in_forms.Drains.{after_doings, after_round, all_turns, drain_turns, drained, round_turns, rounds_taken, turns_of}
use Rattle.mqtt_world_laws.specs.headline_in_forms.Delivery.{DrainsAll, DrainsWhere, EachDrains, EmptiesQueue, HasEnough, copies_of}
use Rattle.mqtt_world_laws.proofs.headline_in_forms_lemmas.Courses.{course_same, same_broker}
use Rattle.mqtt_world_laws.proofs.headline_in_forms_lemmas.Found.{same_downs, same_receiver, same_stands, same_ups}
use Rattle.mqtt_world_laws.proofs.headline_in_forms_lemmas.Pairs.{Pair, pair_run, run_joined}

-- whether a line stands is asked of the broker alone
line_at_broker : (o : Option Receiver) (x w : World) → w.broker ≡ x.broker → line_stands o w ≡ line_stands o x
line_at_broker (Some r) x w e = ap (λ (b : Broker). line_stands (Some r) (record x { broker = b })) e
line_at_broker None x w e = refl

few : (a b c d : ℕ) → a ≡ c → b ≡ d → c ≤ enough_rounds d → a ≤ enough_rounds b
few a b c d e f h = omega (arith, e, f, h)

module _ (most : Most) (limits : Capacity) (choice : MemberChoice) (client : List ℕ) where
  stands_same : (s : AsSent) (w : World) → Pair most s w → line_stands (receiver_named client s.world) s.world ≡ line_stands (receiver_named client w) w
  stands_same s w p =
      same_stands (receiver_named client s.world) (receiver_named client w) s.world (same_receiver most s w client p.goes.worlds.receivers)
      ∙ sym (line_at_broker (receiver_named client w) s.world w (sym (same_broker most limits s w p)))

  left_same : (s : AsSent) (w : World) → Pair most s w → copies_left client s.world ≡ copies_left client w
  left_same s w p = ap (λ (b : Broker). copies_by (session_named client b.records)) (same_broker most limits s w p)

  -- a drain is over in both worlds, or in none
  over_same : (s : AsSent) (w : World) → Pair most s w → is_over client s.world ≡ is_over client w
  over_same s w p = ap₂ (λ (n : ℕ) (t : Bool). is_none_left n || not t) (left_same s w p) (stands_same s w p)

  -- and is bad in both, or in none
  pub bad_same : (s : AsSent) (w : World) → Pair most s w → is_bad_drain client s.world ≡ is_bad_drain client w
  bad_same s w p = ap not (stands_same s w p)

  -- ---- rounds

  reads_same : (s : AsSent) (w : World) → Pair most s w → all_to_end choice client s.world ≡ all_to_end choice client w
  reads_same s w p =
      ap (λ (n : ℕ). times n (turn_of choice (to_end client)))
      (same_downs (receiver_named client s.world) (receiver_named client w) (same_receiver most s w client p.goes.worlds.receivers))

  answers_same : (s : AsSent) (w : World) → Pair most s w → all_to_broker choice client s.world ≡ all_to_broker choice client w
  answers_same s w p =
      ap (λ (n : ℕ). times n (turn_of choice (ask (to_broker client))))
      (same_ups (receiver_named client s.world) (receiver_named client w) (same_receiver most s w client p.goes.worlds.receivers))

  round_same : (s : AsSent) (w : World) → Pair most s w → round_turns most limits choice client s ≡ meant_drains.round_turns limits choice client w
  round_same s w p =
      let sends = turn_of choice (ask (pump client)) ∷ [] in
      let sent = run most limits sends s in
      let meant_sent = meant.run limits sends w in
      let q = pair_run most limits sends s w p in
      let reads = all_to_end choice client meant_sent in
      let first = reads_same sent meant_sent q in
      let second = answers_same (run most limits reads sent) (meant.run limits reads meant_sent) (pair_run most limits reads sent meant_sent q) in
      ap (λ (ts : List Turn). sends ++ (ts ++ all_to_broker choice client (run most limits ts sent).world)) first
      ∙ ap (λ (ts : List Turn). sends ++ (reads ++ ts)) second

  -- a drain is made of the same events
  drain_same : (n : ℕ) (s : AsSent) (w : World) → Pair most s w → drain_turns most limits choice client n s ≡ meant_drains.drain_turns limits choice client n w
  drain_same zero s w p = refl
  drain_same (suc more) s w p =
      let turns = meant_drains.round_turns limits choice client w in
      let own = round_turns most limits choice client s in
      ap (λ (t : Bool). drain_by t own (drain_turns most limits choice client more (run most limits own s))) (over_same s w p)
      ∙ (ap (λ (ts : List Turn). drain_by (is_over client w) ts (drain_turns most limits choice client more (run most limits ts s))) (round_same s w p)
      ∙ ap (λ (rest : List Turn). drain_by (is_over client w) turns rest)
      (drain_same more (run most limits turns s) (meant.run limits turns w) (pair_run most limits turns s w p)))

  -- and takes as many rounds
  rounds_same : (n : ℕ) (s : AsSent) (w : World) → Pair most s w → rounds_taken most limits choice client n s ≡ meant_drains.rounds_taken limits choice client n w
  rounds_same zero s w p = refl
  rounds_same (suc more) s w p =
      let turns = meant_drains.round_turns limits choice client w in
      let own = round_turns most limits choice client s in
      ap (λ (t : Bool). count_by_end t (rounds_taken most limits choice client more (run most limits own s))) (over_same s w p)
      ∙ (ap (λ (ts : List Turn). count_by_end (is_over client w) (rounds_taken most limits choice client more (run most limits ts s))) (round_same s w p)
      ∙ ap (λ (n : ℕ). count_by_end (is_over client w) n)
      (rounds_same more (run most limits turns s) (meant.run limits turns w) (pair_run most limits turns s w p)))

  -- as many rounds are made of the same events, however many are allowed
  by_rounds : (a b : ℕ) (s : AsSent) → rounds_taken most limits choice client a s ≡ rounds_taken most limits choice client b s
      → drain_turns most limits choice client a s ≡ drain_turns most limits choice client b s
  by_rounds zero zero s e = refl
  by_rounds zero (suc b) s e = by (is_over client s.world) e
    where
      by : (t : Bool) → 0 ≡ count_by_end t (rounds_taken most limits choice client b (after_round most limits choice client s))
          → [] ≡ drain_by t (round_turns most limits choice client s) (drain_turns most limits choice client b (after_round most limits choice client s))
      by true e = refl
      by false e = absurd cc
  by_rounds (suc a) zero s e = by (is_over client s.world) e
    where
      by : (t : Bool) → count_by_end t (rounds_taken most limits choice client a (after_round most limits choice client s)) ≡ 0
          → drain_by t (round_turns most limits choice client s) (drain_turns most limits choice client a (after_round most limits choice client s)) ≡ []
      by true e = refl
      by false e = absurd cc
  by_rounds (suc a) (suc b) s e = by (is_over client s.world) (by_rounds a b (after_round most limits choice client s)) e
    where
      own : List Turn
      own = round_turns most limits choice client s

      next : AsSent
      next = after_round most limits choice client s

      by : (t : Bool) → (rounds_taken most limits choice client a next ≡ rounds_taken most limits choice client b next → drain_turns most limits choice client a next ≡ drain_turns most limits choice client b next)
          → count_by_end t (rounds_taken most limits choice client a next) ≡ count_by_end t (rounds_taken most limits choice client b next)
          → drain_by t own (drain_turns most limits choice client a next) ≡ drain_by t own (drain_turns most limits choice client b next)
      by true further e = refl
      by false further e = ap (λ (rest : List Turn). own ++ rest) (further (omega (arith, e)))

  -- ---- a drain

  module _ (s : AsSent) (w : World) (p : Pair most s w) where
    copies_same : (own turns : List Turn) → own ≡ turns → copies_of most limits own client s ≡ copies_left client w + length (entered_from limits turns w)
    copies_same own turns e =
        ap (λ (ts : List Turn). copies_of most limits ts client s) e
        ∙ ap₂ (λ (a b : ℕ). a + b) (left_same s w p) (ap (λ (c : Course). length (entered c)) (course_same most limits turns s w p))

    of_round : copies_of most limits (round_turns most limits choice client s) client s ≡ copies_to_take limits choice client w
    of_round = copies_same (round_turns most limits choice client s) (meant_drains.round_turns limits choice client w) (round_same s w p)

    drained_pair : (n : ℕ) → Pair most (drained most limits choice client n s) (meant_drains.drained limits choice client n w)
    drained_pair n =
        let turns = meant_drains.drain_turns limits choice client n w in
        subst (λ (ts : List Turn). Pair most (run most limits ts s) (meant_drains.drained limits choice client n w)) (sym (drain_same n s w p)) (pair_run most limits turns s w p)

    is_enough : (n : ℕ) → HasEnough most limits choice client n s → meant_emptied.HasEnough limits choice client n w
    is_enough n h = subst (λ (k : ℕ). enough_rounds k ≤ n) of_round h

    empties : (n : ℕ) → meant_emptied.EmptiesQueue limits choice client n w → EmptiesQueue most limits choice client n s
    empties n e = record {
      is_within =
          few (rounds_taken most limits choice client n s) (copies_of most limits (round_turns most limits choice client s) client s)
          (meant_drains.rounds_taken limits choice client n w) (copies_to_take limits choice client w)
          (rounds_same n s w p) of_round e.is_within;
      empty = λ h.
          ap (λ (b : Broker). queue_length (session_named client b.records)) (same_broker most limits (drained most limits choice client n s) (meant_drains.drained limits choice client n w) (drained_pair n))
          ∙ e.empty (is_enough n h);
      good = λ h. bad_same (drained most limits choice client n s) (meant_drains.drained limits choice client n w) (drained_pair n) ∙ e.good (is_enough n h);
      rests = λ h more le.
          let rounds : rounds_taken most limits choice client more s ≡ rounds_taken most limits choice client n s =
          rounds_same more s w p ∙ ((e.rests (is_enough n h) more le).0 ∙ sym (rounds_same n s w p))
          in
          (rounds, ap (λ (ts : List Turn). run most limits ts s) (by_rounds more n s rounds));
    }

    ends_same : (own turns : List Turn) → own ≡ turns → ends (course most limits own s) ≡ ends_over limits turns w
    ends_same own turns e = ap (λ (ts : List Turn). ends (course most limits ts s)) e ∙ ap ends (course_same most limits turns s w p)

    drains_all : (n : ℕ) → meant_delivery.DrainsAll limits choice client n w → DrainsAll most limits choice client n s
    drains_all n d =
        let own = drain_turns most limits choice client n s in
        let turns = meant_drains.drain_turns limits choice client n w in
        record {
          is_within =
              few (rounds_taken most limits choice client n s) (copies_of most limits own client s)
              (meant_drains.rounds_taken limits choice client n w) (copies_left client w + length (entered_from limits turns w))
              (rounds_same n s w p) (copies_same own turns (drain_same n s w p)) d.is_within;
          empties = empties n d.empties;
          ends =
              subst (λ (moment : ℕ). AllByRecursion (IsOfDrain client moment) (ends (course most limits own s))) (ap moment_of p.goes.worlds.same)
              (subst (λ (xs : List EndAt). AllByRecursion (IsOfDrain client (moment_of w)) xs) (sym (ends_same own turns (drain_same n s w p))) d.ends);
        }

-- ---- scripts

module _ (most : Most) (limits : Capacity) where
  -- a doing is of the same events
  pub turns_same : (d : Doing) (s : AsSent) (w : World) → Pair most s w → turns_of most limits d s ≡ meant_drains.turns_of limits d w
  turns_same (happens t) s w p = refl
  turns_same (drains choice client n) s w p =
      ap₂ (λ (bad : Bool) (ts : List Turn). cond bad [] ts) (bad_same most limits choice client s w p) (drain_same most limits choice client n s w p)

  -- and both worlds are alike after it
  pub doing_pair : (d : Doing) (s : AsSent) (w : World) → Pair most s w
      → Pair most (run most limits (turns_of most limits d s) s) (meant.run limits (meant_drains.turns_of limits d w) w)
  doing_pair d s w p =
      let turns = meant_drains.turns_of limits d w in
      subst (λ (ts : List Turn). Pair most (run most limits ts s) (meant.run limits turns w)) (sym (turns_same d s w p)) (pair_run most limits turns s w p)

  -- a script is of the same events
  pub all_same : (ds : List Doing) (s : AsSent) (w : World) → Pair most s w → all_turns most limits ds s ≡ meant_drains.all_turns limits ds w
  all_same [] s w p = refl
  all_same (d ∷ ds) s w p =
      ap₂ (λ (xs ys : List Turn). xs ++ ys) (turns_same d s w p)
      (all_same ds (run most limits (turns_of most limits d s) s) (meant.run limits (meant_drains.turns_of limits d w) w) (doing_pair d s w p))

  -- it is the run of them
  pub script_is_run : (ds : List Doing) (s : AsSent) → after_doings most limits ds s ≡ run most limits (all_turns most limits ds s) s
  script_is_run [] s = refl
  script_is_run (d ∷ ds) s =
      let turns = turns_of most limits d s in
      let next = run most limits turns s in
      script_is_run ds next ∙ sym (run_joined most limits turns (all_turns most limits ds next) s)

  drains_where : (d : Doing) (s : AsSent) (w : World) → Pair most s w → meant_delivery.DrainsWhere limits d w → DrainsWhere most limits d s
  drains_where (happens t) s w p h = tt
  drains_where (drains choice client n) s w p h = λ good.
      drains_all most limits choice client s w p n (h (sym (bad_same most limits choice client s w p) ∙ good))

  -- each of its drains empties its receiver's queue
  pub each_drains : (ds : List Doing) (s : AsSent) (w : World) → Pair most s w → meant_delivery.EachDrains limits ds w → EachDrains most limits ds s
  each_drains [] s w p h = tt
  each_drains (d ∷ ds) s w p h = (
    drains_where d s w p h.0,
    each_drains ds (run most limits (turns_of most limits d s) s) (meant.run limits (meant_drains.turns_of limits d w) w) (doing_pair d s w p) h.1,
  )
