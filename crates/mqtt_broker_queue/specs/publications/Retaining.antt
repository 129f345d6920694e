-- Deeds of retained messages, by their places (MQTT 5.0, 3.3.1.3).
use Rattle.std.specs.Prelude.{ℕ, List, [], ◌∷◌, Option, Some, None}
use Rattle.mqtt_rules.specs.step.Deeds.{Act, Deed, Message, Keep, Forget}
use Rattle.mqtt_rules.specs.step.Routing.{kept_message}

-- a message is retained at a place
abbrev pub keeps : ℕ → Message → ℕ → Act
keeps number m place b = Keep (kept_message number b.now m place) ∷ []

-- the message at a place is forgotten
abbrev pub forgets_place : Option ℕ → List Deed
forgets_place None = []
forgets_place (Some place) = Forget place ∷ []
