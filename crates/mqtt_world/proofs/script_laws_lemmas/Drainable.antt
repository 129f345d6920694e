-- A drain by one choice that spends no number is one turn by turn, and is over after enough rounds: so it can happen (MQTT 5.0,
-- 4.3, 4.4, 4.6).
use Rattle.std.proofs.Common.{◌≡◌, ◌≤◌, ◌+◌, ℕ, zero, suc, Bool, true, false, not, ◌||◌, List, [], ◌∷◌, ◌++◌, length, refl, sym, ap, subst, arith}
use Rattle.std.specs.Prelude.{is_some}
use Rattle.mqtt_world_model.specs.model.Run.{Turn, read_in, run, the_deeds}
use Rattle.mqtt_world_model.specs.model.Tellings.{Telling, silent, telling}
use Rattle.mqtt_world_model.specs.model.World.{Event, World, ask, is_bad, is_end, publisher_named, pump, receiver_named, to_broker, to_end}
use Rattle.mqtt_rules.specs.step.State.{MemberChoice}
use Rattle.mqtt_rules.specs.declared.step.Capacity.{Capacity}
use Rattle.mqtt_world_laws.specs.acceptance.Copies.{entered_from}
use Rattle.mqtt_world_laws.specs.acceptance.Spending.{run_spends}
use Rattle.mqtt_world_laws.specs.receiver.Drains.{after_round, all_to_broker, all_to_end, copies_left, count_by_end, downs_by, drain_by, drain_turns, drained, enough_rounds, is_bad_drain, is_over, round_turns, rounds_taken, times, turn_of, ups_by}
use Rattle.mqtt_world_laws.proofs.receiver_lemmas.drains.DrainRuns.{run_append}
use Rattle.mqtt_world_laws.specs.receiver.Connecting.{any_size}
use Rattle.mqtt_world_laws.proofs.delivery_lemmas.drains.Drains.{ends_over}
use Rattle.mqtt_world_laws.proofs.delivery_lemmas.whole.EveryRun.{over_or_drained, spent_append}
use Rattle.mqtt_world_laws.proofs.delivery_lemmas.others.Runs.{IsKept}
use Rattle.mqtt_world.specs.script_laws.Drains.{DrainHappens, IsRound, MakesRounds, Repeats}
use Rattle.mqtt_world.specs.script_laws.Turns.{IsTurn, both_tell, by_choice}
use Rattle.mqtt_world.proofs.script_laws_lemmas.Drained.{grown, has_receiver}
use Rattle.mqtt_world.proofs.script_laws_lemmas.OneTurn.{turn_costs}
use Rattle.mqtt_world.proofs.script_laws_lemmas.Repeated.{some_there}
use Rattle.mqtt_world.proofs.script_laws_lemmas.Single.{turn_is}

module _ (client : List ℕ) (limits : Capacity) (choice : MemberChoice) where
  abbrev its : Event → Turn
  its e = turn_of choice e

  abbrev IsThere : World → Type 0
  IsThere w = is_some (receiver_named client w) ≡ true

  -- it is an end, so none of these events is bad
  is_an_end : (w : World) → IsThere w → not (is_end client w) ≡ false
  is_an_end w there = some (is_some (publisher_named client w))
    where
      some : (t : Bool) → not (t || is_some (receiver_named client w)) ≡ false
      some true = refl
      some false = ap not there

  stays : (ts : List Turn) (w : World) → IsThere w → IsThere (run limits ts w)
  stays ts w there = some_there client limits ts w there

  -- ---- a turn, and some turns

  abbrev told_by : Event → World → Telling
  told_by e w = telling (read_in the_deeds (by_choice limits choice) e w)

  turn_back : (e : Event) (w : World) → is_bad e w ≡ false → run_spends limits (its e ∷ []) w ≡ false → IsTurn limits e (told_by e w) w (run limits (its e ∷ []) w)
  turn_back e w good unspent = record {
    choice = choice;
    good = good;
    unspent = turn_costs limits choice e w good unspent;
    is = turn_is limits choice e w good;
    told = refl;
  }

  repeats_back : (e : Event) → ((w : World) → IsThere w → is_bad e w ≡ false) → (n : ℕ) (w : World) → IsThere w → run_spends limits (times n (its e)) w ≡ false
      → (t : Telling) × Repeats limits n e t w (run limits (times n (its e)) w)
  repeats_back e good zero w there unspent = (silent, (refl, refl))
  repeats_back e good (suc n) w there unspent =
      let costs = spent_append limits (its e ∷ []) (times n (its e)) w unspent in
      let mid = run limits (its e ∷ []) w in
      let rest = repeats_back e good n mid (stays (its e ∷ []) w there) costs.1 in
      (both_tell (told_by e w) rest.0, (told_by e w, rest.0, mid, turn_back e w (good w there) costs.0, rest.1, refl))

  -- ---- a round, and so many rounds

  round_back : (w : World) → IsThere w → run_spends limits (round_turns limits choice client w) w ≡ false → (t : Telling) × IsRound limits client t w (after_round limits choice client w)
  round_back w there unspent =
      let sends : List Turn = its (ask (pump client)) ∷ [] in
      let sent = run limits sends w in
      let reads = all_to_end choice client sent in
      let read = run limits reads sent in
      let answers = all_to_broker choice client read in
      let costs = spent_append limits sends (reads ++ answers) w unspent in
      let later = spent_append limits reads answers sent costs.1 in
      let one = turn_back (ask (pump client)) w (is_an_end w there) costs.0 in
      let there_sent = stays sends w there in
      let two = repeats_back (to_end client) is_an_end (downs_by (receiver_named client sent)) sent there_sent later.0 in
      let three = repeats_back (ask (to_broker client)) is_an_end (ups_by (receiver_named client read)) read (stays reads sent there_sent) later.1 in
      let end : run limits answers read ≡ after_round limits choice client w = sym (run_append limits reads answers sent) in
      let told = both_tell (told_by (ask (pump client)) w) (both_tell two.0 three.0) in (
        told,
        record {
          first = told_by (ask (pump client)) w;
          second = two.0;
          third = three.0;
          sent = sent;
          read = read;
          sends = one;
          reads = two.1;
          answers = subst (λ (v : World). Repeats limits (ups_by (receiver_named client read)) (ask (to_broker client)) three.0 read v) end three.1;
          told = refl {a = told};
        },
      )

  rounds_back : (most : ℕ) (w : World) → run_spends limits (drain_turns limits choice client most w) w ≡ false
      → (t : Telling) × MakesRounds limits client (rounds_taken limits choice client most w) t w (drained limits choice client most w)
  rounds_back zero w unspent = (silent, (refl, refl))
  rounds_back (suc most) w unspent = by_end (rounds_back most v) (is_over client w) refl unspent
    where
      v : World
      v = after_round limits choice client w

      turns : List Turn
      turns = round_turns limits choice client w

      more : List Turn
      more = drain_turns limits choice client most v

      by_end : (run_spends limits more v ≡ false → (t : Telling) × MakesRounds limits client (rounds_taken limits choice client most v) t v (drained limits choice client most v))
          → (b : Bool) → is_over client w ≡ b → run_spends limits (drain_by b turns more) w ≡ false
          → (t : Telling) × MakesRounds limits client (count_by_end b (rounds_taken limits choice client most v)) t w (run limits (drain_by b turns more) w)
      by_end next true over h = (silent, (refl, refl))
      by_end next false on h =
          let costs = spent_append limits turns more w h in
          let first = round_back w (has_receiver client limits choice w on) costs.0 in
          let rest = next costs.1 in
          let end : drained limits choice client most v ≡ run limits (turns ++ more) w = sym (run_append limits turns more w) in (
            both_tell first.0 rest.0,
            (on, first.0, rest.0, v, first.1, subst (λ (z : World). MakesRounds limits client (rounds_taken limits choice client most v) rest.0 v z) end rest.1, refl),
          )

  -- ---- after enough rounds it is over

  over_at_last : (most : ℕ) (w : World) → IsKept [] client limits w → run_spends limits (drain_turns limits choice client most w) w ≡ false
      → enough_rounds (copies_left client w + length (entered_from limits (round_turns limits choice client w) w)) ≤ most → is_over client (drained limits choice client most w) ≡ true
  over_at_last zero w kept unspent enough = absurd (omega (arith, enough))
  over_at_last (suc most) w kept unspent enough = by_end (is_over client w) refl unspent
    where
      turns : List Turn
      turns = round_turns limits choice client w

      more : List Turn
      more = drain_turns limits choice client most (after_round limits choice client w)

      by_end : (b : Bool) → is_over client w ≡ b → run_spends limits (drain_by b turns more) w ≡ false → is_over client (run limits (drain_by b turns more) w) ≡ true
      by_end true over h = over
      by_end false on h =
          let first = (spent_append limits turns more w h).0 in
          let some = grown client limits choice w kept first in
          subst (λ (b : Bool). is_over client (run limits (drain_by b turns more) w) ≡ true) on
          (ends_over client limits choice any_size (suc most) w (over_or_drained limits choice client w kept first) (omega (arith, some, enough)))

  -- a drain that isn't bad and has enough rounds can happen, if it spends no number
  pub can_happen : (most : ℕ) (w : World) → IsKept [] client limits w → is_bad_drain client w ≡ false → run_spends limits (drain_turns limits choice client most w) w ≡ false
      → enough_rounds (copies_left client w + length (entered_from limits (round_turns limits choice client w) w)) ≤ most
      → (t : Telling) × DrainHappens limits client t w (drained limits choice client most w)
  can_happen most w kept good unspent enough =
      let x = rounds_back most w unspent in
      (x.0, record { good = good; rounds = rounds_taken limits choice client most w; made = x.1; over = over_at_last most w kept unspent enough })
