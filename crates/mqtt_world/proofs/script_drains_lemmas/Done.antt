-- A drain of a script is that by any one choice, which empties the queue (MQTT 5.0, 4.3, 4.4, 4.6).
use Rattle.std.proofs.Common.{◌≡◌, ◌≤◌, ◌+◌, ℕ, zero, suc, Bool, true, false, List, [], ◌∷◌, ◌++◌, refl, sym, ap, subst, ◌∙◌, arith}
use Rattle.mqtt_world_model.specs.model.Run.{Turn, are_beginnings_clean, run}
use Rattle.mqtt_world_model.specs.model.Tellings.{Telling}
use Rattle.mqtt_world_model.specs.model.World.{World, start}
use Rattle.mqtt_world_laws.specs.headline.Lives.{BeginsWell}
use Rattle.mqtt_world_laws.proofs.headline_lemmas.Delivered.{ends_all, enters_all, run_delivers_all}
use Rattle.mqtt_world_laws.proofs.headline_lemmas.Lives.{start_begins}
use Rattle.mqtt_world.proofs.script_laws_lemmas.Scripts.{runs_by_turns}
use Rattle.mqtt_rules.specs.step.Laws.{AreWithin}
use Rattle.mqtt_rules.specs.step.State.{MemberChoice}
use Rattle.mqtt_rules.specs.declared.step.Capacity.{Capacity}
use Rattle.mqtt_script.specs.declared.event.Event.{Event}
use Rattle.std.specs.List.{AllByRecursion}
use Rattle.mqtt_world_laws.proofs.acceptance_lemmas.copies.Walks.{counted}
use Rattle.mqtt_world_laws.specs.acceptance.Fair.{IsFair}
use Rattle.mqtt_world_laws.specs.acceptance.Spending.{run_spends}
use Rattle.mqtt_world_laws.specs.receiver.Drains.{after_round, drain_by, drain_turns, drained, enough_rounds, is_bad_drain, is_over, round_turns}
use Rattle.mqtt_world_laws.specs.delivery.Untouched.{IsUntouched}
use Rattle.mqtt_world_laws.proofs.delivery_lemmas.whole.EveryRun.{spent_append}
use Rattle.mqtt_world.specs.script_laws.Cleanly.{ComesFairly, LeaveNone, ScriptDelivers}
use Rattle.mqtt_world.specs.script_laws.Drains.{AreTurnsOfDrain, AreTurnsOfRounds, DrainHappens, DrainsBy}
use Rattle.mqtt_world.specs.script_laws.Scripted.{RunsTo}
use Rattle.mqtt_world.proofs.script_laws_lemmas.Carrying.{carry_joined}
use Rattle.mqtt_world.proofs.script_laws_lemmas.Costs.{spent_joined}
use Rattle.mqtt_world.proofs.script_laws_lemmas.Drained.{is_within, kept_there, whole}
use Rattle.mqtt_world_laws.specs.causes.Causes.{EachHasItsCause, HasCause}
use Rattle.mqtt_world_laws.specs.causes.Endings.{EndAt, ends_over}
use Rattle.mqtt_world_laws.proofs.causes_lemmas.CauseRuns.{run_caused}
use Rattle.mqtt_world_laws.specs.drain_causes.DrainEnds.{AreOfDrain, EndOfDrain, IsOfDrain, moment_of}
use Rattle.mqtt_world_laws.proofs.drain_causes_lemmas.DrainRuns.{drain_ends, ends_append}
use Rattle.mqtt_world_laws.proofs.drain_causes_lemmas.Fitting.{drain_fits}
use Rattle.mqtt_world_laws.specs.drain_causes.Fitting.{IsNotTooLarge, NoneTooLarge}
use Rattle.mqtt_world_laws.proofs.receiver_lemmas.drains.DrainRuns.{run_append}
use Rattle.mqtt_world_laws.proofs.delivery_lemmas.others.Runs.{IsKept}
use Rattle.mqtt_world_laws.specs.drains.Emptied.{EmptiesQueue, copies_to_take, waiting_for}
use Rattle.mqtt_world_laws.proofs.drains_lemmas.Emptied.{empties_if}
use Rattle.mqtt_world.specs.script_drains.Done.{IsEmptied}
use Rattle.mqtt_world.proofs.script_drains_lemmas.Own.{Alike, IsHis, parts, rounds_alike}

-- some choice: the first eligible member of each group
abbrev some_choice : MemberChoice
some_choice number sender = []

-- the ends in a drain, with their causes or without
without_causes : (client : List ℕ) (moment : ℕ) (xs : List EndAt) → AllByRecursion (IsOfDrain client moment) xs → AllByRecursion IsNotTooLarge xs → AllByRecursion (IsHis client moment) xs
without_causes client moment [] h fit = tt
without_causes client moment (x ∷ xs) h fit = (record { its = h.0.its; by = h.0.by; at = h.0.at; fits = fit.0 }, without_causes client moment xs h.1 fit.1)

with_causes : (client : List ℕ) (moment : ℕ) (xs : List EndAt) → AllByRecursion (IsHis client moment) xs → AllByRecursion HasCause xs → AllByRecursion (IsOfDrain client moment) xs
with_causes client moment [] h causes = tt
with_causes client moment (x ∷ xs) h causes = (record { its = h.0.its; by = h.0.by; at = h.0.at; cause = causes.0 }, with_causes client moment xs h.1 causes.1)

all_fit : (client : List ℕ) (moment : ℕ) (xs : List EndAt) → AllByRecursion (IsHis client moment) xs → AllByRecursion IsNotTooLarge xs
all_fit client moment [] h = tt
all_fit client moment (x ∷ xs) h = (h.0.fits, all_fit client moment xs h.1)

module _ (limits : Capacity) (client : List ℕ) (choice : MemberChoice) where
  -- once a drain is over, more rounds come to the same
  over_stays : (rounds more : ℕ) (w : World) → is_over client (drained limits choice client rounds w) ≡ true → rounds ≤ more → drained limits choice client more w ≡ drained limits choice client rounds w
  over_stays zero zero w over le = refl
  over_stays zero (suc more) w over le = ap (λ (b : Bool). run limits (drain_by b (round_turns limits choice client w) (drain_turns limits choice client more (after_round limits choice client w))) w) over
  over_stays (suc rounds) zero w over le = absurd (omega (arith, le))
  over_stays (suc rounds) (suc more) w over le = by (is_over client w) refl (λ rest. over_stays rounds more (after_round limits choice client w) rest (omega (arith, le)))
    where
      v : World
      v = after_round limits choice client w

      turns : List Turn
      turns = round_turns limits choice client w

      by : (t : Bool) → is_over client w ≡ t → (is_over client (drained limits choice client rounds v) ≡ true → drained limits choice client more v ≡ drained limits choice client rounds v)
          → drained limits choice client (suc more) w ≡ drained limits choice client (suc rounds) w
      by true is stays = ap (λ (b : Bool). run limits (drain_by b turns (drain_turns limits choice client more v)) w) is ∙ sym (ap (λ (b : Bool). run limits (drain_by b turns (drain_turns limits choice client rounds v)) w) is)
      by false is stays =
          let goes : (n : ℕ) → drained limits choice client (suc n) w ≡ drained limits choice client n v = λ n.
          ap (λ (b : Bool). run limits (drain_by b turns (drain_turns limits choice client n v)) w) is ∙ run_append limits turns (drain_turns limits choice client n v) w
          in
          goes more ∙ (stays (sym (ap (is_over client) (goes rounds)) ∙ over) ∙ sym (goes rounds))

-- after the turns of a drain it is over
over_after : (limits : Capacity) (client : List ℕ) (rounds : ℕ) (turns : List Turn) (w : World) → AreTurnsOfRounds limits client rounds turns w → is_over client (run limits turns w) ≡ true
over_after limits client zero turns w h = ap (λ (ts : List Turn). is_over client (run limits ts w)) h.1 ∙ h.0
over_after limits client (suc more) turns w (on, first, rest, front, others, are) =
    ap (λ (ts : List Turn). is_over client (run limits ts w)) are ∙ (ap (is_over client) (run_append limits first rest w) ∙ over_after limits client more rest (run limits first w) others)

module _ (limits : Capacity) (es : List Event) (client : List ℕ) (w v : World) (untouched : IsUntouched limits w) (comes : ComesFairly limits es w v) where
  -- so many rounds are enough, by this choice
  abbrev enough : MemberChoice → ℕ
  enough choice = enough_rounds (copies_to_take limits choice client v)

  few : (t : Telling) (after : World) (h : DrainHappens limits client t v after) (choice : MemberChoice) → h.rounds ≤ enough choice
  few t after h choice = is_within limits es choice client w v untouched comes h.rounds t after h.made

  by_choice : (t : Telling) (after : World) (h : DrainHappens limits client t v after) (choice : MemberChoice) → DrainsBy limits choice client (enough choice) h.rounds t v after
  by_choice t after h choice = whole limits es choice client w v untouched comes (enough choice) t after h (few t after h choice)

  -- the first round of a drain that spends no number spends none
  round_unspent : (choice : MemberChoice) (most more : ℕ) → run_spends limits (drain_turns limits choice client most v) v ≡ false → most ≡ suc more → is_over client v ≡ false → run_spends limits (round_turns limits choice client v) v ≡ false
  round_unspent choice most more unspent is on =
      let rest = drain_turns limits choice client more (after_round limits choice client v) in
      let all : run_spends limits (drain_turns limits choice client (suc more) v) v ≡ false = subst (λ (j : ℕ). run_spends limits (drain_turns limits choice client j v) v ≡ false) is unspent in
      let first : run_spends limits (round_turns limits choice client v ++ rest) v ≡ false = subst (λ (t : Bool). run_spends limits (drain_by t (round_turns limits choice client v) rest) v ≡ false) on all in
      (spent_append limits (round_turns limits choice client v) rest v first).0

  -- by this choice, each copy ends in it for a cause of a drain, and none as too large
  ends_of_one : (choice : MemberChoice) (most : ℕ) → run_spends limits (drain_turns limits choice client most v) v ≡ false → EndOfDrain limits choice client most v
  ends_of_one choice most unspent =
      subst (EndOfDrain limits choice client most) (sym comes.is)
      (drain_ends limits comes.turns choice client most w untouched comes.fair (subst (λ (u : World). run_spends limits (drain_turns limits choice client most u) u ≡ false) comes.is unspent))

  fit_of_one : (choice : MemberChoice) (most : ℕ) → run_spends limits (drain_turns limits choice client most v) v ≡ false → NoneTooLarge limits (drain_turns limits choice client most v) v
  fit_of_one choice most unspent =
      subst (λ (u : World). NoneTooLarge limits (drain_turns limits choice client most u) u) (sym comes.is)
      (drain_fits limits comes.turns choice client most w untouched comes.fair (subst (λ (u : World). run_spends limits (drain_turns limits choice client most u) u ≡ false) comes.is unspent))

  ends_by : (t : Telling) (after : World) (h : DrainHappens limits client t v after) (choice : MemberChoice) (most : ℕ) → h.rounds ≤ most → EndOfDrain limits choice client most v
  ends_by t after h choice most le =
      ends_of_one choice most (whole limits es choice client w v untouched comes most t after h le).unspent

  -- ---- whatever turns it comes to

  kept : IsKept [] client limits v
  kept = kept_there limits es some_choice client w v untouched comes

  alike : (turns : List Turn) (x : AreTurnsOfDrain limits client turns v) → run_spends limits turns v ≡ false → Alike limits client (moment_of v) turns (drain_turns limits some_choice client x.rounds v) v
  alike turns x unspent = rounds_alike limits client (moment_of v) some_choice x.rounds turns v x.are kept unspent

  all_his : (turns : List Turn) (x : AreTurnsOfDrain limits client turns v) → run_spends limits turns v ≡ false → AllByRecursion (IsHis client (moment_of v)) (ends_over limits turns v)
  all_his turns x unspent =
      let same = alike turns x unspent in
      let ends = ends_over limits (drain_turns limits some_choice client x.rounds v) v in
      let costs = same.spends unspent in
      same.ends (without_causes client (moment_of v) ends (ends_of_one some_choice x.rounds costs) (fit_of_one some_choice x.rounds costs))

  -- copies end in them so
  ends_in : (turns : List Turn) → AreTurnsOfDrain limits client turns v → run_spends limits turns v ≡ false → AreOfDrain client limits turns v
  ends_in turns x unspent =
      let before = comes.turns in
      let same = alike turns x unspent in
      let all : IsFair limits (before ++ turns) w = record {
        within = comes.fair.within;
        unspent = spent_joined limits before turns w comes.fair.unspent (subst (λ (u : World). run_spends limits turns u ≡ false) comes.is unspent);
        clean = carry_joined limits before turns w comes.fair.clean (subst (λ (u : World). are_beginnings_clean limits turns u ≡ true) comes.is same.clean);
      } in
      let caused : EachHasItsCause limits (before ++ turns) w = run_caused limits (before ++ turns) w untouched.new (counted limits (before ++ turns) w all) in
      let causes = (parts HasCause (ends_over limits before w) (ends_over limits turns (run limits before w)) (subst (AllByRecursion HasCause) (ends_append limits before turns w) caused)).1 in
      with_causes client (moment_of v) (ends_over limits turns v) (all_his turns x unspent) (subst (λ (u : World). AllByRecursion HasCause (ends_over limits turns u)) (sym comes.is) causes)

  fit_in : (turns : List Turn) → AreTurnsOfDrain limits client turns v → run_spends limits turns v ≡ false → NoneTooLarge limits turns v
  fit_in turns x unspent = all_fit client (moment_of v) (ends_over limits turns v) (all_his turns x unspent)

  -- they leave none of its receiver's copies
  pub leave_none : (turns : List Turn) → AreTurnsOfDrain limits client turns v → run_spends limits turns v ≡ false → LeaveNone limits client turns v
  leave_none turns x unspent =
      let same = alike turns x unspent in
      let costs = same.spends unspent in
      let over : is_over client (drained limits some_choice client x.rounds v) ≡ true = sym (ap (is_over client) same.is) ∙ over_after limits client x.rounds turns v x.are in
      let most = x.rounds + enough some_choice in
      let done : run limits turns v ≡ drained limits some_choice client most v = same.is ∙ sym (over_stays limits client some_choice x.rounds most v over (omega arith)) in
      let e : EmptiesQueue limits some_choice client most v = empties_if client limits some_choice most v kept x.good (λ more is on. first_costs x.rounds costs on over) in
      record {
        empty = ap (waiting_for client) done ∙ e.empty (omega arith);
        good = ap (is_bad_drain client) done ∙ e.good (omega arith);
        ends = ends_in turns x unspent;
        fit = fit_in turns x unspent;
      }
    where
      first_costs : (rounds : ℕ) → run_spends limits (drain_turns limits some_choice client rounds v) v ≡ false → is_over client v ≡ false → is_over client (drained limits some_choice client rounds v) ≡ true
          → run_spends limits (round_turns limits some_choice client v) v ≡ false
      first_costs zero costs on over = let no : false ≡ true = sym on ∙ over in absurd cc
      first_costs (suc more) costs on over = round_unspent some_choice (suc more) more costs refl on

  -- a drain of a script empties its receiver's queue, in no more rounds than are enough
  pub script_empties : (t : Telling) (after : World) (h : DrainHappens limits client t v after) → IsEmptied limits client h.rounds v after
  script_empties t after h =
      let most = enough some_choice in
      let d = by_choice t after h some_choice in
      let e : EmptiesQueue limits some_choice client most v = empties_if client limits some_choice most v kept h.good (λ more is on. round_unspent some_choice most more d.unspent is on) in
      record {
        is_within = few t after h;
        empty = ap (waiting_for client) d.is ∙ e.empty (omega arith);
        good = ap (is_bad_drain client) d.is ∙ e.good (omega arith);
        is = λ choice most le. (whole limits es choice client w v untouched comes most t after h le).is;
        ends = ends_in;
        fit = fit_in;
        ends_by = ends_by t after h;
      }

  -- so whatever is chosen it comes to the same
  pub one_drain : (t u : Telling) (after other : World) (h : DrainHappens limits client t v after) (k : DrainHappens limits client u v other) → (after ≡ other) × (h.rounds ≡ k.rounds) × (t ≡ u)
  one_drain t u after other h k =
      let d = by_choice t after h some_choice in
      let e = by_choice u other k some_choice in
      (d.is ∙ sym e.is, sym d.taken ∙ e.taken, d.told ∙ sym e.told)

-- ---- a script

-- a script that begins well delivers exactly once
pub delivers_once : (limits : Capacity) (es : List Event) (tells : List Telling) (w after : World) → BeginsWell limits w → RunsTo limits es tells w after → ScriptDelivers limits es w after
delivers_once limits es tells w after begins runs = record {
  is_run = runs_by_turns limits es tells w after runs;
  all = λ turns are fair. run_delivers_all limits turns w begins fair;
  enters = λ turns are counts. enters_all limits turns w begins counts;
  ends = λ turns are counts. ends_all limits turns w begins counts;
  drained = λ before rest client v turns is comes are unspent. leave_none limits before client w v begins.untouched comes turns are unspent;
}

-- so does each script from nothing
pub start_delivers : (limits : Capacity) (es : List Event) (tells : List Telling) (after : World) → AreWithin limits → RunsTo limits es tells start after → ScriptDelivers limits es start after
start_delivers limits es tells after within runs = delivers_once limits es tells start after (start_begins limits within) runs
