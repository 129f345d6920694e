-- Open identifiers as they are stored are open identifiers of the handshakes.
use Rattle.std.proofs.Common.{ℕ, List, [], ◌∷◌}
use Rattle.std.specs.List.Sorted.{IsStrictlyIncreasing}
use Rattle.mqtt_flow.proofs.inbound_lemmas.inbound.OpenLists.{strictly_increasing, is_ascending}
use Rattle.mqtt_flow.proofs.inbound_lemmas.inbound.OpenLists as flow
use Rattle.mqtt_records.specs.state.Session.{number_of}
use Rattle.mqtt_records.specs.lists.Order.{IsAbove, IsAscending}

above_there : (n : ℕ) (ids : List ℕ) → IsAbove number_of n ids → flow.IsAbove n ids
above_there n [] h = tt
above_there n (x ∷ xs) h = (h.0, above_there n xs h.1)

above_here : (n : ℕ) (ids : List ℕ) → flow.IsAbove n ids → IsAbove number_of n ids
above_here n [] h = tt
above_here n (x ∷ xs) h = (h.0, above_here n xs h.1)

ascending_there : (ids : List ℕ) → IsAscending number_of ids → flow.IsAscending ids
ascending_there [] h = tt
ascending_there (x ∷ xs) h = (above_there x xs h.0, ascending_there xs h.1)

ascending_here : (ids : List ℕ) → flow.IsAscending ids → IsAscending number_of ids
ascending_here [] h = tt
ascending_here (x ∷ xs) h = (above_here x xs h.0, ascending_here xs h.1)

-- identifiers that are in order strictly increase
pub increasing_there : (ids : List ℕ) → IsAscending number_of ids → IsStrictlyIncreasing ids
increasing_there ids h = strictly_increasing ids (ascending_there ids h)

-- identifiers that strictly increase are in order
pub ascending_of : (ids : List ℕ) → IsStrictlyIncreasing ids → IsAscending number_of ids
ascending_of ids h = ascending_here ids (is_ascending ids h)
