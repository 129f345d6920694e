-- All that is said in records, as a list, and how it is seen that it agrees.
use Rattle.std.specs.Prelude.{◌≡◌, ℕ, List, ◌++◌, length, map, flat_map}
use Rattle.std.specs.List.{AllAdjacentBelow}
use Rattle.mqtt_records.specs.declared.messages.message.Content.{Content}
use Rattle.mqtt_records.specs.declared.state.records.Records.{Records}
use Rattle.mqtt_records.specs.state.Members.{Has}
use Rattle.mqtt_records.specs.state.Contents.{StoredMessage, stored_message, copy_message, retained_message}

-- the same, but for the moments at which they were accepted
abbrev pub AreAlike : Content → Content → Type 0
AreAlike x y = (x.topic ≡ y.topic) × (x.properties ≡ y.properties) × (x.payload ≡ y.payload)

-- a number with the content that is lent
abbrev pub said : ℕ × Content → StoredMessage
said x = stored_message x.0 x.1

-- by the copies of each session in turn, then by the retained messages
abbrev pub messages_of : Records → List StoredMessage
messages_of r = flat_map (λ s. map copy_message s.queue) r.sessions ++ map retained_message r.retained

-- if both have one number, they say the same
abbrev pub Agrees : StoredMessage → StoredMessage → Type 0
Agrees m n = n.publication ≡ m.publication → n ≡ m

-- each agrees with each
abbrev pub AllAgree : List StoredMessage → Type 0
AllAgree ms = (m n : StoredMessage) → Has ms m → Has ms n → Agrees m n

-- each agrees with the next
abbrev pub NeighboursAgree : List (ℕ × Content) → Type 0
NeighboursAgree lent = AllAdjacentBelow (λ x y. Agrees (said x) (said y)) lent (length lent)
