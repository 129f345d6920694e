-- The copies of receivers fit whole on their lines, wherever a run comes to, and their pumps go by whole topics.
use Rattle.mqtt_rules.specs.declared.step.Capacity.{Capacity}
use Rattle.mqtt_rules.proofs.whole_lemmas.WholePumps.{whole_pump}
use Rattle.mqtt_rules.specs.whole.Whole.{AreNoLarger}
use Rattle.mqtt_world_laws.specs.acceptance.Fair.{IsFair}
use Rattle.mqtt_world_laws.proofs.delivery_lemmas.broker.Untouched.{start_untouched}
use Rattle.mqtt_world_laws.proofs.delivery_lemmas.others.Runs.{IsKept}
use Rattle.mqtt_world_laws.proofs.delivery_lemmas.own.Sizes.{queue_fits}
use Rattle.mqtt_world_laws.proofs.delivery_lemmas.own.Taking.{takes_there}
use Rattle.mqtt_world_laws.proofs.delivery_lemmas.whole.EveryRun.{fair_run_kept}
use Rattle.mqtt_world_laws.specs.receiver.Connecting.{any_size}
use Rattle.mqtt_world_laws.specs.delivery.Untouched.{IsUntouched}
use Rattle.mqtt_world_laws.specs.fitting.Whole.{ItsCopiesFit, ItsPumpsAreWhole}
use Rattle.mqtt_world_model.specs.model.Run.{Turn, run}
use Rattle.mqtt_world_model.specs.model.World.{World, start}
use Rattle.std.proofs.Common.{List, [], subst, sym, ℕ, ◌≡◌}

-- what a receiver's line takes, and what is stored
fits_there : (client : List ℕ) (limits : Capacity) (w : World) → IsKept [] client limits w → ItsCopiesFit client w
fits_there client limits w kept r n birth l s e number at on there =
    let largest : l.largest ≡ any_size = (takes_there client r n birth l w kept.fit.takes e number at on).1 in
    subst (λ (m : ℕ). AreNoLarger m s.queue) (sym largest) (queue_fits birth w.broker kept.fit.well.sends.contents s there)

-- after a fair run the copies of each receiver fit whole on its line
pub run_fits : (limits : Capacity) (ts : List Turn) (w : World) (client : List ℕ) → IsUntouched limits w → IsFair limits ts w → ItsCopiesFit client (run limits ts w)
run_fits limits ts w client u fair = fits_there client limits (run limits ts w) (fair_run_kept limits ts w u fair client)

-- and so their pumps go by whole topics
pub run_pumps : (limits : Capacity) (ts : List Turn) (w : World) (client : List ℕ) → IsUntouched limits w → IsFair limits ts w → ItsPumpsAreWhole client (run limits ts w)
run_pumps limits ts w client u fair r n birth l s e number at on there = whole_pump l s (run_fits limits ts w client u fair r n birth l s e number at on there)

-- also from the start
pub start_fits : (limits : Capacity) (ts : List Turn) (client : List ℕ) → IsFair limits ts start → ItsCopiesFit client (run limits ts start)
start_fits limits ts client fair = run_fits limits ts start client (start_untouched limits fair.within) fair
