-- The reader of blocks: what stands at the front, and what follows it (MQTT 5.0, 2.2.2).
use Rattle.std.specs.Prelude.{ℕ, ◌<◌, ◌^◌, List, [], ◌∷◌, length, take, drop, Option, Some, None, Result, Ok, Err, nat_lt, if◌then◌else◌}
use Rattle.std.specs.Int.{w16, w32}
use Rattle.mqtt_base.specs.declared.fault.ReadFault.{ReadFault}
use Rattle.mqtt_base.specs.Reading.{◌>>=◌, u8_at, number_at, varint_at, blob_at, text_at}
use Rattle.mqtt_base.specs.Items.{items_at, items_of, AreItems}
use Rattle.mqtt_props.specs.declared.fault.PropFault.{PropFault}
use Rattle.mqtt_props.specs.declared.fault.PropFault.TheVariants.{Malformed}
use Rattle.mqtt_props.specs.declared.table.PropName.{PropName}
use Rattle.mqtt_props.specs.declared.value.ValueKind.{ValueKind}
use Rattle.mqtt_props.specs.declared.value.ValueKind.TheVariants as kinds
use Rattle.mqtt_props.specs.Table.{property_row, name_of}
use Rattle.mqtt_props.specs.Properties.{Value, Byte, U16, U32, VarInt, Text, Binary, Pair, Prop}

-- no value is read: the block has no layout
abbrev pub malformed : {A E : Type 0} → Result A E → Result A PropFault
malformed (Ok x) = Ok x
malformed (Err e) = Err Malformed

unfoldable pub value_at : ValueKind → List ℕ → Result (Value × List ℕ) ReadFault
value_at kinds.Byte bytes = do
  n ← u8_at bytes
  Ok (Byte n.0, n.1)
value_at kinds.U16 bytes = do
  n ← number_at w16 bytes
  Ok (U16 n.0, n.1)
value_at kinds.U32 bytes = do
  n ← number_at w32 bytes
  Ok (U32 n.0, n.1)
value_at kinds.VarInt bytes = do
  n ← varint_at bytes
  Ok (VarInt n.0, n.1)
value_at kinds.Text bytes = do
  t ← text_at bytes
  Ok (Text t.0, t.1)
value_at kinds.Binary bytes = do
  b ← blob_at bytes
  Ok (Binary b.0, b.1)
value_at kinds.Pair bytes = do
  k ← text_at bytes
  t ← text_at k.1
  Ok (Pair k.0 t.0, t.1)

abbrev pub known : Option PropName → Result PropName PropFault
known None = Err Malformed
known (Some n) = Ok n

-- a first byte of 128 or more begins no identifier of the table
unfoldable pub prop_at : List ℕ → Result (Prop × List ℕ) PropFault
prop_at [] = Err Malformed
prop_at (id ∷ rest) = do
  name ← known (name_of id)
  v ← malformed (value_at (property_row name).kind rest)
  Ok (record { name = name; value = v.0 }, v.1)

-- the properties that fill the bytes
abbrev pub props_at : List ℕ → Result (List Prop) PropFault
props_at bytes = items_at Malformed prop_at bytes

unfoldable pub block_at : List ℕ → Result (List Prop × List ℕ) PropFault
block_at bytes = do
  n ← malformed (varint_at bytes)
  if nat_lt (length n.1) n.0 then Err Malformed else do
    ps ← props_at (take n.0 n.1)
    Ok (ps, drop n.0 n.1)

-- ---- bytes that are the pairs of a block

-- the properties, if the bytes are such
abbrev pub props_of : List ℕ → List Prop
props_of bytes = items_of Malformed prop_at bytes

pub record ArePairs (bytes : List ℕ) : Type 0 where
  pub pairs : AreItems Malformed prop_at bytes
  pub short : length bytes < 2 ^ 28
