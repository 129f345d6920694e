-- A drain of a script, round by round, is that by any one choice; so its rounds are few, and it ends (MQTT 5.0, 4.3, 4.4, 4.6).
use Rattle.std.proofs.Common.{◌≡◌, ◌≤◌, ◌+◌, ℕ, zero, suc, Bool, true, false, not, ◌||◌, List, [], ◌∷◌, ◌++◌, length, Option, Some, None, refl, sym, ap, subst, ◌∙◌, arith}
use Rattle.std.specs.Prelude.{⊤, is_some}
use Rattle.mqtt_world_model.specs.model.Ends.{Receiver}
use Rattle.mqtt_world_model.specs.model.Run.{Turn, deeds_over, run}
use Rattle.mqtt_world_model.specs.model.Tellings.{Telling, silent, telling}
use Rattle.mqtt_world_model.specs.model.World.{World, ask, pump, receiver_named, to_broker, to_end}
use Rattle.mqtt_rules.specs.step.State.{MemberChoice}
use Rattle.mqtt_rules.specs.declared.step.Capacity.{Capacity}
use Rattle.mqtt_script.specs.declared.event.Event.{Event}
use Rattle.mqtt_world_laws.specs.acceptance.Copies.{entered_from}
use Rattle.mqtt_world_laws.specs.acceptance.Spending.{run_spends}
use Rattle.mqtt_world_laws.specs.receiver.Drains.{after_round, copies_left, count_by_end, downs_by, drain_by, drain_turns, enough_rounds, is_none_left, is_over, line_stands, round_turns, rounds_taken, times, turn_of, ups_by}
use Rattle.mqtt_world_laws.specs.receiver.Connecting.{any_size}
use Rattle.mqtt_world_laws.specs.delivery.Untouched.{IsUntouched}
use Rattle.mqtt_world_laws.proofs.delivery_lemmas.drains.Drains.{ends_over, ends_within, round_carried}
use Rattle.mqtt_world_laws.proofs.delivery_lemmas.whole.EveryRun.{fair_run_kept, over_or_drained}
use Rattle.mqtt_world_laws.proofs.delivery_lemmas.order.QueueGrowth.{queue_grows}
use Rattle.mqtt_world_laws.proofs.delivery_lemmas.others.Runs.{IsKept}
use Rattle.mqtt_world.specs.script_laws.Cleanly.{ComesFairly}
use Rattle.mqtt_world.specs.script_laws.Drains.{DrainHappens, DrainsBy, IsRound, MakesRounds}
use Rattle.mqtt_world.specs.script_laws.Turns.{both_tell}
use Rattle.mqtt_world.proofs.script_laws_lemmas.Repeated.{Comes, IsReady, answers_same, come_joined, pump_same, reads_same, ready_after, repeats_by, tell_nothing_first, tell_nothing_more, tell_together, turn_by}

-- ---- a round by one choice

module _ (client : List ℕ) (limits : Capacity) (choice : MemberChoice) where
  -- if it is not over its receiver is there
  pub has_receiver : (w : World) → is_over client w ≡ false → is_some (receiver_named client w) ≡ true
  has_receiver w on = by (receiver_named client w) refl
    where
      by : (o : Option Receiver) → receiver_named client w ≡ o → is_some o ≡ true
      by (Some r) e = refl
      by None e = none (is_none_left (copies_left client w)) (sym (ap (λ (o : Option Receiver). is_none_left (copies_left client w) || not (line_stands o w)) e) ∙ on)
        where
          none : (t : Bool) → (t || not false) ≡ false → false ≡ true
          none true h = absurd cc
          none false h = absurd cc

  -- a round, each turn by a choice of its own, comes to what the round by one choice comes to
  pub round_by : (t : Telling) (w after : World) → IsReady client limits w → IsRound limits client t w after → Comes limits (round_turns limits choice client w) t w after
  round_by t w after h x =
      let sends : List Turn = turn_of choice (ask (pump client)) ∷ [] in
      let one : Comes limits sends x.first w x.sent = turn_by limits choice (ask (pump client)) x.first w x.sent x.sends (pump_same limits x.sends.choice choice client w) in
      let there = ready_after client limits sends x.first w x.sent h one refl in
      let two = repeats_by client limits choice (to_end client) (λ v. refl) (λ c v k. reads_same limits c choice client v) (downs_by (receiver_named client x.sent)) x.second x.sent x.read there x.reads in
      let three = repeats_by client limits choice (ask (to_broker client)) (λ v. refl) (λ c v k. answers_same limits c choice client v k) (ups_by (receiver_named client x.read)) x.third x.read after two.1 x.answers in
      let reads : World → List Turn = λ v. times (downs_by (receiver_named client v)) (turn_of choice (to_end client)) in
      let answers : World → List Turn = λ v. times (ups_by (receiver_named client v)) (turn_of choice (ask (to_broker client))) in
      let both = come_joined limits (reads x.sent) (answers x.read) x.second x.third x.sent x.read after two.0 three.0 in
      let all : Comes limits (sends ++ (reads x.sent ++ answers x.read)) t w after =
      subst (λ (z : Telling). Comes limits (sends ++ (reads x.sent ++ answers x.read)) z w after) (sym x.told) (come_joined limits sends (reads x.sent ++ answers x.read) x.first (both_tell x.second x.third) w x.sent after one both) in
      subst (λ (v : World). Comes limits (sends ++ (reads v ++ answers (run limits (reads v) v))) t w after) one.is
      (subst (λ (v : World). Comes limits (sends ++ (reads x.sent ++ answers v)) t w after) two.0.is all)

  -- ---- rounds by one choice

  -- as many, or it is over after fewer
  abbrev IsEnough : ℕ → ℕ → World → Type 0
  IsEnough zero zero after = ⊤
  IsEnough zero (suc most) after = is_over client after ≡ true
  IsEnough (suc rounds) zero after = ⊥
  IsEnough (suc rounds) (suc most) after = IsEnough rounds most after

  as_many : (rounds : ℕ) (after : World) → IsEnough rounds rounds after
  as_many zero after = tt
  as_many (suc rounds) after = as_many rounds after

  over_after : (rounds most : ℕ) (after : World) → is_over client after ≡ true → rounds ≤ most → IsEnough rounds most after
  over_after zero zero after over le = tt
  over_after zero (suc most) after over le = over
  over_after (suc rounds) zero after over le = omega (arith, le)
  over_after (suc rounds) (suc most) after over le = over_after rounds most after over (omega (arith, le))

  -- rounds, each turn by a choice of its own, come to what the drain by one choice comes to
  pub rounds_by : (rounds most : ℕ) (t : Telling) (w after : World) → IsKept [] client limits w → IsEnough rounds most after → MakesRounds limits client rounds t w after → DrainsBy limits choice client most rounds t w after
  rounds_by zero zero t w after kept enough h = record { is = h.1; taken = refl; told = h.0; unspent = refl }
  rounds_by zero (suc most) t w after kept over h =
      let v = after_round limits choice client w in
      let done : is_over client w ≡ true = sym (ap (is_over client) h.1) ∙ over in
      let none : drain_turns limits choice client (suc most) w ≡ [] = ap (λ (b : Bool). drain_by b (round_turns limits choice client w) (drain_turns limits choice client most v)) done in
      record {
        is = h.1 ∙ sym (ap (λ (ts : List Turn). run limits ts w) none);
        taken = ap (λ (b : Bool). count_by_end b (rounds_taken limits choice client most v)) done;
        told = h.0 ∙ sym (ap (λ (ts : List Turn). telling (deeds_over limits ts w)) none);
        unspent = ap (λ (ts : List Turn). run_spends limits ts w) none;
      }
  rounds_by (suc rounds) zero t w after kept enough h = absurd enough
  rounds_by (suc rounds) (suc most) t w after kept enough (on, first, rest, mid, made, others, told) =
      let v = after_round limits choice client w in
      let turns = round_turns limits choice client w in
      let more = drain_turns limits choice client most v in
      let ready : IsReady client limits w = record { kept = kept; there = has_receiver w on } in
      let x = round_by first w mid ready made in
      let next = ready_after client limits turns first w mid ready x (round_carried client limits choice w) in
      let y : DrainsBy limits choice client most rounds rest v after = subst (λ (m : World). DrainsBy limits choice client most rounds rest m after) x.is (rounds_by rounds most rest mid after next.kept enough others) in
      let front : Comes limits turns first w v = subst (λ (m : World). Comes limits turns first w m) x.is x in
      let all : Comes limits (turns ++ more) t w after =
      subst (λ (z : Telling). Comes limits (turns ++ more) z w after) (sym told)
      (come_joined limits turns more first rest w v after front (record { is = y.is; unspent = y.unspent; told = y.told })) in
      let goes : drain_turns limits choice client (suc most) w ≡ turns ++ more = ap (λ (b : Bool). drain_by b turns more) on in
      record {
        is = all.is ∙ sym (ap (λ (ts : List Turn). run limits ts w) goes);
        taken = ap (λ (b : Bool). count_by_end b (rounds_taken limits choice client most v)) on ∙ ap suc y.taken;
        told = all.told ∙ sym (ap (λ (ts : List Turn). telling (deeds_over limits ts w)) goes);
        unspent = ap (λ (ts : List Turn). run_spends limits ts w) goes ∙ all.unspent;
      }

  -- ---- few rounds

  first_unspent : (rounds : ℕ) (t : Telling) (w after : World) → IsKept [] client limits w → MakesRounds limits client (suc rounds) t w after → run_spends limits (round_turns limits choice client w) w ≡ false
  first_unspent rounds t w after kept (on, first, rest, mid, made, others, told) =
      (round_by first w mid (record { kept = kept; there = has_receiver w on }) made).unspent

  -- a round leaves no more copies than stood before it and entered in it together
  pub grown : (w : World) → IsKept [] client limits w → run_spends limits (round_turns limits choice client w) w ≡ false
      → copies_left client (after_round limits choice client w) ≤ copies_left client w + length (entered_from limits (round_turns limits choice client w) w)
  grown w kept unspent =
      let around = kept.stands.standing.around in
      queue_grows client limits (round_turns limits choice client w) w around.within around.steady unspent

  -- a drain makes no more rounds than are enough
  pub few : (rounds : ℕ) (t : Telling) (w after : World) → IsKept [] client limits w → MakesRounds limits client rounds t w after
      → rounds ≤ enough_rounds (copies_left client w + length (entered_from limits (round_turns limits choice client w) w))
  few zero t w after kept h = omega arith
  few (suc rounds) t w after kept h =
      let unspent = first_unspent rounds t w after kept h in
      let some = grown w kept unspent in
      let taken = (rounds_by (suc rounds) (suc rounds) t w after kept (as_many rounds after) h).taken in
      let within = ends_within client limits choice any_size (suc rounds) w (over_or_drained limits choice client w kept unspent) in
      let same : rounds_taken limits choice client (suc rounds) w ≡ suc rounds = taken in
      omega (arith, some, within, same)

  -- after enough rounds a drain is over
  pub over_then : (rounds : ℕ) (t : Telling) (w after : World) → IsKept [] client limits w → MakesRounds limits client rounds t w after
      → enough_rounds (copies_left client w + length (entered_from limits (round_turns limits choice client w) w)) ≤ rounds → is_over client after ≡ true
  over_then zero t w after kept h enough = absurd (omega (arith, enough))
  over_then (suc rounds) t w after kept h enough =
      let unspent = first_unspent rounds t w after kept h in
      let some = grown w kept unspent in
      let is = (rounds_by (suc rounds) (suc rounds) t w after kept (as_many rounds after) h).is in
      ap (is_over client) is ∙ ends_over client limits choice any_size (suc rounds) w (over_or_drained limits choice client w kept unspent) (omega (arith, some, enough))

-- ---- one round more

-- one round more behind rounds is rounds
pub a_round_more : (limits : Capacity) (client : List ℕ) (rounds : ℕ) (t u : Telling) (w mid after : World) → MakesRounds limits client rounds t w mid → is_over client mid ≡ false → IsRound limits client u mid after
    → MakesRounds limits client (suc rounds) (both_tell t u) w after
a_round_more limits client zero t u w mid after h on x =
    (sym (ap (is_over client) h.1) ∙ on, u, silent, after, subst (λ (v : World). IsRound limits client u v after) h.1 x, (refl, refl), ap (λ (z : Telling). both_tell z u) h.0 ∙ (tell_nothing_first u ∙ sym (tell_nothing_more u)))
a_round_more limits client (suc rounds) t u w mid after (at, first, rest, v, made, others, told) on x =
    (at, first, both_tell rest u, v, made, a_round_more limits client rounds rest u v mid after others on x, ap (λ (z : Telling). both_tell z u) told ∙ tell_together first rest u)

-- ---- from wherever a script has come to

module _ (limits : Capacity) (es : List Event) (choice : MemberChoice) (client : List ℕ) (w v : World) (untouched : IsUntouched limits w) (comes : ComesFairly limits es w v) where
  -- where a script has led, the receiver is kept as a drain asks
  pub kept_there : IsKept [] client limits v
  kept_there = subst (IsKept [] client limits) (sym comes.is) (fair_run_kept limits comes.turns w untouched comes.fair client)

  -- rounds that were made there come to what the drain by one choice comes to
  pub so_far : (rounds : ℕ) (t : Telling) (after : World) → MakesRounds limits client rounds t v after → DrainsBy limits choice client rounds rounds t v after
  so_far rounds t after made = rounds_by client limits choice rounds rounds t v after kept_there (as_many client limits choice rounds after) made

  -- a drain that happened there is the one by one choice, with as many rounds
  pub whole : (most : ℕ) (t : Telling) (after : World) → (h : DrainHappens limits client t v after) → h.rounds ≤ most → DrainsBy limits choice client most h.rounds t v after
  whole most t after h le = rounds_by client limits choice h.rounds most t v after kept_there (over_after client limits choice h.rounds most after h.over le) h.made

  -- rounds that were made there are no more than are enough
  pub is_within : (rounds : ℕ) (t : Telling) (after : World) → MakesRounds limits client rounds t v after
      → rounds ≤ enough_rounds (copies_left client v + length (entered_from limits (round_turns limits choice client v) v))
  is_within rounds t after made = few client limits choice rounds t v after kept_there made

  -- after enough rounds there the drain is over
  pub is_over_then : (rounds : ℕ) (t : Telling) (after : World) → MakesRounds limits client rounds t v after
      → enough_rounds (copies_left client v + length (entered_from limits (round_turns limits choice client v) v)) ≤ rounds → is_over client after ≡ true
  is_over_then rounds t after made enough = over_then client limits choice rounds t v after kept_there made enough
