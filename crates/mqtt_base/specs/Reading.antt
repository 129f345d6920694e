-- What stands at the front of the bytes and what follows it, or why no value does (MQTT 5.0, 1.5).
use Rattle.std.specs.Prelude.{◌≡◌, ℕ, zero, suc, ◌+◌, ◌-◌, ◌*◌, ◌≤◌, List, [], ◌∷◌, length, take, drop, Result, Ok, Err, nat_lt, ◌==◌, if◌then◌else◌}
use Rattle.std.specs.Int.{Width, w16, byte_len, from_be_bytes}
use Rattle.mqtt_base.specs.declared.fault.ReadFault.{ReadFault}
use Rattle.mqtt_base.specs.declared.fault.ReadFault.TheVariants.{Short, Overlong, BadText}
use Rattle.mqtt_base.specs.Values.{is_text}

-- the next step, if the one before did not fail
infixl 10 ◌>>=◌
abbrev pub ◌>>=◌ : {E A B : Type 0} → Result A E → (A → Result B E) → Result B E
(Ok x) >>= f = f x
(Err e) >>= f = Err e

-- What a function answered, a value seen by view and a count of bytes, is what reading the bytes gives.
abbrev pub Reads : {X Y E : Type 0} → (X → Y) → Result (X × ℕ) E → List ℕ → Result (Y × List ℕ) E → Type 0
Reads view (Ok x) bytes read = (x.1 ≤ length bytes) × (read ≡ Ok (view x.0, drop x.1 bytes))
Reads view (Err e) bytes read = read ≡ Err e

-- the groups behind a first byte with the high bit, of which k may have it too
unfoldable pub groups_at : ℕ → List ℕ → Result (ℕ × List ℕ) ReadFault
groups_at k [] = Err Short
groups_at zero (a ∷ rest) = if a == 0 then Err Overlong else if nat_lt a 128 then Ok (a, rest) else Err Overlong
groups_at (suc k) (a ∷ rest) = if a == 0 then Err Overlong else if nat_lt a 128 then Ok (a, rest) else do
  high ← groups_at k rest
  Ok (a - 128 + 128 * high.0, high.1)

-- a variable byte integer (1.5.5)
unfoldable pub varint_at : List ℕ → Result (ℕ × List ℕ) ReadFault
varint_at [] = Err Short
varint_at (a ∷ rest) = if nat_lt a 128 then Ok (a, rest) else do
  high ← groups_at 2 rest
  Ok (a - 128 + 128 * high.0, high.1)

-- a big-endian number of that width (1.5.2, 1.5.3)
abbrev pub number_at : Width → List ℕ → Result (ℕ × List ℕ) ReadFault
number_at w bytes =
    if nat_lt (length bytes) (byte_len w) then Err Short
    else Ok (from_be_bytes w (take (byte_len w) bytes), drop (byte_len w) bytes)

-- binary data: two bytes of length, and that many bytes (1.5.6)
unfoldable pub blob_at : List ℕ → Result (List ℕ × List ℕ) ReadFault
blob_at bytes = do
  n ← number_at w16 bytes
  if nat_lt (length n.1) n.0 then Err Short else Ok (take n.0 n.1, drop n.0 n.1)

-- a text: binary data that is well-formed UTF-8 without U+0000 (1.5.4)
unfoldable pub text_at : List ℕ → Result (List ℕ × List ℕ) ReadFault
text_at bytes = do
  t ← blob_at bytes
  if is_text t.0 then Ok t else Err BadText

-- one byte
abbrev pub u8_at : List ℕ → Result (ℕ × List ℕ) ReadFault
u8_at [] = Err Short
u8_at (b ∷ rest) = Ok (b, rest)
