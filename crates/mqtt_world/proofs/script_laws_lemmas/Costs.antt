-- None of some turns and those behind them spends a number, if neither do.
use Rattle.std.proofs.Common.{◌≡◌, Bool, true, false, ◌||◌, List, [], ◌∷◌, ◌++◌}
use Rattle.mqtt_world_model.specs.model.Run.{Turn, run, turned, read_at, setting}
use Rattle.mqtt_world_model.specs.model.World.{World}
use Rattle.mqtt_rules.specs.declared.step.Capacity.{Capacity}
use Rattle.mqtt_world_laws.specs.acceptance.Spending.{run_spends, spending}

or_none : {b c : Bool} (a : Bool) → (a || b) ≡ false → (b ≡ false → c ≡ false) → (a || c) ≡ false
or_none true h k = h
or_none false h k = k h

-- two runs that spend nothing spend nothing one behind the other
pub spent_joined : (limits : Capacity) (xs ys : List Turn) (w : World) → run_spends limits xs w ≡ false → run_spends limits ys (run limits xs w) ≡ false → run_spends limits (xs ++ ys) w ≡ false
spent_joined limits [] ys w h k = k
spent_joined limits (t ∷ xs) ys w h k = or_none (read_at spending (setting limits t) t.event w) h (λ e. spent_joined limits xs ys (turned limits t w) e k)
