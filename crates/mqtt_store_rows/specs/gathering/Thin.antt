-- Messages that say the same, but for payloads that nobody looks at (3.3.3).
use Rattle.std.specs.Prelude.{◌≡◌, ℕ, List, [], ◌∷◌, length, IsTrue}
use Rattle.std.specs.List.{AllByRecursion}
use Rattle.sqlite_value.specs.Order.{Row, column}
use Rattle.mqtt_records.specs.state.Contents.{StoredMessage}
use Rattle.mqtt_store_rows.specs.values.Values.{number, IsCounted}
use Rattle.mqtt_store_rows.specs.rows.Gives.{is_among}

-- the payload of one may be other bytes than that of the other, as many; not if its number is among these
pub record IsAlike (whole : List ℕ) (m n : StoredMessage) : Type 0 where
  pub publication : m.publication ≡ n.publication
  pub topic : m.topic ≡ n.topic
  pub properties : m.properties ≡ n.properties
  pub long : length m.payload ≡ length n.payload
  pub same : IsTrue (is_among m.publication whole) → m.payload ≡ n.payload

-- so each is to the one in its place
abbrev pub AreAlike : List ℕ → List StoredMessage → List StoredMessage → Type 0
AreAlike whole [] [] = Unit {0}
AreAlike whole [] (n ∷ ns) = ⊥
AreAlike whole (m ∷ ms) [] = ⊥
AreAlike whole (m ∷ ms) (n ∷ ns) = IsAlike whole m n × AreAlike whole ms ns

-- the message to which a row of `kept` refers has its number among these
abbrev pub IsCovered : List ℕ → Row → Type 0
IsCovered whole row = (n : ℕ) → column row 3 ≡ number n → IsCounted n → IsTrue (is_among n whole)

-- so it is of all rows of `kept`
abbrev pub AreCovered : List ℕ → List Row → Type 0
AreCovered whole = AllByRecursion (IsCovered whole)
