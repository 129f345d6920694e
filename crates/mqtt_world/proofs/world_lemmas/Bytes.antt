-- What is bytes by its type (MQTT 5.0, 2.1).
use Rattle.std.proofs.Common.{◌≡◌, ◌<◌, ℕ, suc, Bool, true, ◌&&◌, List, [], ◌∷◌, slice_index, refl, ap, ◌∙◌}
use Rattle.std.proofs.lemmas.Bool.{lt-ltb}
use Rattle.mqtt_world_model.specs.model.World.{are_bytes}

-- numbers each of which is below 256 are bytes
pub all_bytes : (bytes : List ℕ) → ((i : ℕ) → slice_index bytes i < 256) → are_bytes bytes ≡ true
all_bytes [] below = refl
all_bytes (b ∷ bytes) below =
    ap (λ (t : Bool). t && are_bytes bytes) (lt-ltb b 256 (below 0)) ∙ all_bytes bytes (λ i. below (suc i))
