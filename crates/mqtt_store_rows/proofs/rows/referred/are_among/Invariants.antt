use Rattle.std.proofs.Common.{length}
use Rattle.std.specs.Prelude.{IsTrue, ◌↔◌}
use Rattle.std.specs.List.{AllByRecursion}
use Rattle.mqtt_store_rows.specs.rows.Gives.{is_among}
use Rattle.mqtt_store_rows.proofs.rows.referred.are_among.Given as goal

abbrev pub invariant-loop-message : goal.invariant-loop-message
invariant-loop-message l = AllByRecursion (λ m. IsTrue (is_among m.publication l.numbers)) l.rest ↔ AllByRecursion (λ m. IsTrue (is_among m.publication l.numbers)) l.messages

abbrev pub decreases-loop-message : goal.decreases-loop-message
decreases-loop-message l = length l.rest
