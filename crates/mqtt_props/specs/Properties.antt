-- What a property is, and the one spelling of a block of them (MQTT 5.0, 2.2.2).
use Rattle.std.specs.Prelude.{◌≡◌, ℕ, ◌<◌, ◌^◌, List, [], ◌∷◌, ◌++◌, length}
use Rattle.std.specs.List.{flat_map, AllByRecursion}
use Rattle.std.specs.Int.{w16, w32, to_be_bytes}
use Rattle.mqtt_base.specs.Values.{varint, blob, FitsText}
use Rattle.mqtt_props.specs.declared.table.PropName.{PropName}
use Rattle.mqtt_props.specs.declared.value.ValueKind.{ValueKind}
use Rattle.mqtt_props.specs.declared.value.ValueKind.TheVariants as kinds
use Rattle.mqtt_props.specs.Table.{property_row}

-- a value, of one of the seven kinds (1.5); texts and binary data are their bytes
pub data Value : Type 0 where
  Byte : (n : ℕ) → Value
  U16 : (n : ℕ) → Value
  U32 : (n : ℕ) → Value
  VarInt : (n : ℕ) → Value
  Text : (text : List ℕ) → Value
  Binary : (bytes : List ℕ) → Value
  Pair : (key text : List ℕ) → Value

pub record Prop : Type 0 where
  pub name : PropName
  pub value : Value

-- ---- what has a spelling

abbrev pub kind_of : Value → ValueKind
kind_of (Byte n) = kinds.Byte
kind_of (U16 n) = kinds.U16
kind_of (U32 n) = kinds.U32
kind_of (VarInt n) = kinds.VarInt
kind_of (Text t) = kinds.Text
kind_of (Binary b) = kinds.Binary
kind_of (Pair k t) = kinds.Pair

-- the value is within the limits of its kind
abbrev pub FitsValue : Value → Type 0
FitsValue (Byte n) = n < 2 ^ 8
FitsValue (U16 n) = n < 2 ^ 16
FitsValue (U32 n) = n < 2 ^ 32
FitsValue (VarInt n) = n < 2 ^ 28
FitsValue (Text t) = FitsText t
FitsValue (Binary b) = length b < 2 ^ 16
FitsValue (Pair k t) = FitsText k × FitsText t

-- the value is of the kind that the table says, and within its limits
pub record IsProp (p : Prop) : Type 0 where
  pub kind : kind_of p.value ≡ (property_row p.name).kind
  pub fits : FitsValue p.value

-- ---- how it is spelled

abbrev pub value : Value → List ℕ
value (Byte n) = n ∷ []
value (U16 n) = to_be_bytes w16 n
value (U32 n) = to_be_bytes w32 n
value (VarInt n) = varint n
value (Text t) = blob t
value (Binary b) = blob b
value (Pair k t) = blob k ++ blob t

-- the identifier and the value; each identifier is below 128, so that it takes one byte
abbrev pub prop : Prop → List ℕ
prop p = (property_row p.name).id ∷ value p.value

-- the pairs of a block
abbrev pub props : List Prop → List ℕ
props ps = flat_map prop ps

-- the length of the pairs, and the pairs
abbrev pub block : List Prop → List ℕ
block ps = varint (length (props ps)) ++ props ps

-- the list has a spelling as a block
pub record FitsBlock (ps : List Prop) : Type 0 where
  pub each : AllByRecursion IsProp ps
  pub short : length (props ps) < 2 ^ 28
