-- Which bytes are a block of properties, in the words of the standard (MQTT 5.0, 2.2.2).
use Rattle.std.specs.Prelude.{◌≡◌, ℕ, List, [], ◌∷◌, ◌++◌, length}
use Rattle.mqtt_base.specs.Values.{IsVarInt}
use Rattle.mqtt_props.specs.Table.{property_row}
use Rattle.mqtt_props.specs.Properties.{Prop, IsProp, value}

-- the bytes are a property: its identifier, a variable byte integer, and its value (2.2.2.2)
pub record IsPair (p : Prop) (bytes : List ℕ) : Type 0 where
  pub is : IsProp p
  pub id : List ℕ
  pub is_id : IsVarInt (property_row p.name).id id
  pub parts : bytes ≡ id ++ value p.value

-- the bytes are these properties, one behind the other
abbrev pub ArePairsOf : List Prop → List ℕ → Type 0
ArePairsOf [] bytes = bytes ≡ []
ArePairsOf (p ∷ ps) bytes =
    (first : List ℕ) × (rest : List ℕ) × IsPair p first × ArePairsOf ps rest
    × (bytes ≡ first ++ rest)

-- the bytes are a block: the length of the pairs, a variable byte integer, and the pairs (2.2.2.1)
pub record IsBlock (ps : List Prop) (bytes : List ℕ) : Type 0 where
  pub len : List ℕ
  pub pairs : List ℕ
  pub are_pairs : ArePairsOf ps pairs
  pub is_len : IsVarInt (length pairs) len
  pub parts : bytes ≡ len ++ pairs
