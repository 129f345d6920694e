-- Which items records have, whatever their order.
use Rattle.std.specs.Prelude.{◌≡◌, ◌⊎◌, ℕ, List, [], ◌∷◌}
use Rattle.mqtt_records.specs.messages.Queue.{CopyRow}
use Rattle.mqtt_records.specs.declared.state.session.Session.{Session}
use Rattle.mqtt_records.specs.declared.state.records.Records.{Records}

-- as the kit's crates have it
abbrev pub Has : {X : Type 0} → List X → X → Type 0
Has [] x = ⊥
Has (y ∷ ys) x = (x ≡ y) ⊎ Has ys x

-- the list of the session with that birth has the item
abbrev pub InPart : {X : Type 0} → (Session → List X) → List Session → ℕ → X → Type 0
InPart part sessions b x = (s : Session) × Has sessions s × (s.birth ≡ b) × Has (part s) x

abbrev pub queue_of : Session → List CopyRow
queue_of s = s.queue

abbrev pub InQueue : Records → ℕ → CopyRow → Type 0
InQueue r b x = InPart queue_of r.sessions b x
