use Rattle.std.proofs.Common.{◌≡◌, ℕ, List, ◌++◌, length}
use Rattle.std.specs.List.{AllByRecursion}
use Rattle.std.specs.Prelude.{Some}
use Rattle.mqtt_store_rows.specs.values.Values.{IsIdentifier}
use Rattle.mqtt_store_rows.specs.rows.Rows.{pairs, ArePairs}
use Rattle.mqtt_store_rows.proofs.rows.identifiers.push_pairs.Given as goal

abbrev pub invariant-loop-rest : goal.invariant-loop-rest
invariant-loop-rest l = record {
  spelled : l.bytes ≡ pairs l.all ++ l.rest;
  range : AllByRecursion (λ n. IsIdentifier (Some n)) l.all;
  complete : (ids : List ℕ) → ArePairs ids l.bytes → (more : List ℕ) × ArePairs more l.rest;
}

abbrev pub decreases-loop-rest : goal.decreases-loop-rest
decreases-loop-rest l = length l.rest
