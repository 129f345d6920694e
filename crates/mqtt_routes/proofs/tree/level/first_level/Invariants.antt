-- No slash so far.
use Rattle.std.proofs.Common.{◌≡◌, eqb, false, take}
use Rattle.std.specs.List.{All}
use Rattle.mqtt_routes.proofs.tree.level.first_level.Given as goal

abbrev pub invariant-loop-i : goal.invariant-loop-i
invariant-loop-i l = All (λ c. eqb c 47 ≡ false) (take l.i l.text)
