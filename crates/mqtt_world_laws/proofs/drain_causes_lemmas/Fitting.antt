-- No copy ends as too large in a drain, since what is stored came in packets (MQTT 5.0, 2.1.4, 3.1.2.11.4).
use Rattle.std.proofs.Common.{◌≡◌, ℕ, Bool, true, false, cond, List, [], ◌∷◌, refl, subst}
use Rattle.std.specs.List.{AllByRecursion}
use Rattle.mqtt_rules.specs.step.State.{MemberChoice}
use Rattle.mqtt_rules.specs.declared.step.Capacity.{Capacity}
use Rattle.mqtt_world_model.specs.model.Run.{Turn, are_beginnings_clean, run}
use Rattle.mqtt_world_model.specs.model.World.{World, start}
use Rattle.mqtt_world_laws.specs.acceptance.Fair.{IsFair}
use Rattle.mqtt_world_laws.specs.acceptance.Spending.{run_spends}
use Rattle.mqtt_world_laws.specs.causes.Endings.{EndAt, asked_over, ends_over}
use Rattle.mqtt_world_laws.specs.receiver.Drains.{Doing, all_turns, drain_turns, drains, happens, is_bad_drain, turns_of}
use Rattle.mqtt_world_laws.specs.delivery.Untouched.{IsUntouched}
use Rattle.mqtt_world_laws.proofs.delivery_lemmas.whole.EveryRun.{carried_append, fair_run_kept, spent_append, untouched_kept}
use Rattle.mqtt_world_laws.proofs.delivery_lemmas.others.Runs.{IsKept, run_kept}
use Rattle.mqtt_world_laws.proofs.delivery_lemmas.broker.Untouched.{start_untouched}
use Rattle.mqtt_world_laws.specs.drain_causes.DrainEnds.{moment_of}
use Rattle.mqtt_world_laws.specs.drain_causes.Fitting.{AllDrainsFit, FitWhere, IsNotTooLarge, NoneTooLarge}
use Rattle.mqtt_world_laws.proofs.drain_causes_lemmas.DrainRuns.{drain_its, joined_its}
use Rattle.mqtt_world_laws.proofs.drain_causes_lemmas.Fits.{its_fit}
use Rattle.mqtt_world_laws.proofs.drain_causes_lemmas.OwnEnds.{Ends, IsIts}
use Rattle.mqtt_world_laws.proofs.drain_causes_lemmas.Sayings.{AllSay, none_say, run_say}

none_of : (client : List ℕ) (moment : ℕ) (xs : List EndAt) → AllByRecursion (IsIts ⊥ client moment) xs → AllByRecursion IsNotTooLarge xs
none_of client moment [] h = tt
none_of client moment (x ∷ xs) h = ((λ is. subst (Ends ⊥ client x.asked.call) is h.0.by), none_of client moment xs h.1)

-- ---- a drain from where its receiver stands

fits_at : (limits : Capacity) (choice : MemberChoice) (c : List ℕ) (most : ℕ) (v : World) → IsKept [] c limits v → AllSay v → run_spends limits (drain_turns limits choice c most v) v ≡ false → NoneTooLarge limits (drain_turns limits choice c most v) v
fits_at limits choice c most v kept says unspent =
    let turns = drain_turns limits choice c most v in
    none_of c (moment_of v) (ends_over limits turns v)
    (joined_its ⊥ c (moment_of v) (asked_over limits turns v) (drain_its ⊥ c limits (its_fit c limits) choice (moment_of v) most v kept says refl unspent))

-- in a drain no copy is too large
pub drain_fits : (limits : Capacity) (ts : List Turn) (choice : MemberChoice) (client : List ℕ) (most : ℕ) (w : World) → IsUntouched limits w → IsFair limits ts w
    → run_spends limits (drain_turns limits choice client most (run limits ts w)) (run limits ts w) ≡ false → NoneTooLarge limits (drain_turns limits choice client most (run limits ts w)) (run limits ts w)
drain_fits limits ts choice client most w u fair unspent =
    fits_at limits choice client most (run limits ts w) (fair_run_kept limits ts w u fair client) (run_say limits ts w (none_say w u.new.receivers)) unspent

-- ---- of scripts

doing_fits : (limits : Capacity) (d : Doing) (v : World) → ((c : List ℕ) → IsKept [] c limits v) → AllSay v → run_spends limits (turns_of limits d v) v ≡ false → FitWhere limits d v
doing_fits limits (happens t) v k says unspent = tt
doing_fits limits (drains choice c most) v k says unspent = by (is_bad_drain c v) unspent
  where
    by : (bad : Bool) → run_spends limits (cond bad [] (drain_turns limits choice c most v)) v ≡ false → NoneTooLarge limits (cond bad [] (drain_turns limits choice c most v)) v
    by true u = tt
    by false u = fits_at limits choice c most v (k c) says u

all_fit : (limits : Capacity) (ds : List Doing) (v : World) → ((c : List ℕ) → IsKept [] c limits v) → AllSay v → run_spends limits (all_turns limits ds v) v ≡ false → are_beginnings_clean limits (all_turns limits ds v) v ≡ true
    → AllDrainsFit limits ds v
all_fit limits [] v k says unspent clean = tt
all_fit limits (d ∷ ds) v k says unspent clean =
    let turns = turns_of limits d v in
    let z = run limits turns v in
    let rest = all_turns limits ds z in
    let costs = spent_append limits turns rest v unspent in
    let begins = carried_append limits turns rest v clean in (
      doing_fits limits d v k says costs.0,
      all_fit limits ds z (λ c. run_kept [] c limits turns v (k c) costs.0 begins.0) (run_say limits turns v says) costs.1 begins.1,
    )

-- so in all drains of a script
pub drains_fit : (limits : Capacity) (ds : List Doing) (w : World) → IsUntouched limits w → IsFair limits (all_turns limits ds w) w → AllDrainsFit limits ds w
drains_fit limits ds w u fair = all_fit limits ds w (λ c. untouched_kept c limits w fair.within u) (none_say w u.new.receivers) fair.unspent fair.clean

-- also from the start
pub start_drains_fit : (limits : Capacity) (ds : List Doing) → IsFair limits (all_turns limits ds start) start → AllDrainsFit limits ds start
start_drains_fit limits ds fair = drains_fit limits ds start (start_untouched limits fair.within) fair
