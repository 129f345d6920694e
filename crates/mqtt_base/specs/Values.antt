-- How values are spelled in bytes (MQTT 5.0, 1.5).
use Rattle.std.specs.Prelude.{◌≡◌, ◌≢◌, ℕ, ◌+◌, ◌*◌, ◌/◌, ◌%◌, ◌^◌, ◌<◌, ◌≤◌, Bool, true, ◌&&◌, List, [], ◌∷◌, ◌++◌, length, not, nat_lt, ◌==◌, if◌then◌else◌, encode_utf8_all}
use Rattle.std.specs.List.{list_any, AllByRecursion}
use Rattle.std.specs.Str.{is_utf8}
use Rattle.std.specs.Int.{w16, to_be_bytes}
use Rattle.std.proofs.Math.Utf8.{scalars}

-- ---- variable byte integers (1.5.5)

-- the low seven bits of each byte, the first byte least
abbrev pub sevens : List ℕ → ℕ
sevens [] = 0
sevens (a ∷ rest) = a % 128 + 128 * sevens rest

-- all bytes but the last have the high bit, and a last byte of several isn't 0
abbrev pub IsGroups : List ℕ → Type 0
IsGroups [] = ⊥
IsGroups (a ∷ []) = a < 128
IsGroups (a ∷ b ∷ []) = (128 ≤ a) × (a < 256) × (0 < b) × (b < 128)
IsGroups (a ∷ b ∷ c ∷ rest) = (128 ≤ a) × (a < 256) × IsGroups (b ∷ c ∷ rest)

-- the bytes are the variable byte integer of n
abbrev pub IsVarInt : ℕ → List ℕ → Type 0
IsVarInt n bytes = (length bytes ≤ 4) × IsGroups bytes × (n ≡ sevens bytes)

-- all bytes but the last have the high bit, whatever the last one is
abbrev pub IsContinued : List ℕ → Type 0
IsContinued [] = ⊥
IsContinued (a ∷ []) = a < 128
IsContinued (a ∷ b ∷ rest) = (128 ≤ a) × (a < 256) × IsContinued (b ∷ rest)

-- the bytes encode n, be they the fewest or not
abbrev pub Encodes : ℕ → List ℕ → Type 0
Encodes n bytes = (length bytes ≤ 4) × IsContinued bytes × (n ≡ sevens bytes)

-- no encoding of n has fewer bytes
abbrev pub Fewest : ℕ → List ℕ → Type 0
Fewest n bytes = (others : List ℕ) → Encodes n others → length bytes ≤ length others

-- the variable byte integer as a function
unfoldable pub varint : ℕ → List ℕ
varint n =
    if nat_lt n (2 ^ 7) then n ∷ []
    else if nat_lt n (2 ^ 14) then (n % 128 + 128) ∷ (n / 128) ∷ []
    else if nat_lt n (2 ^ 21) then (n % 128 + 128) ∷ (n / 128 % 128 + 128) ∷ (n / 128 / 128) ∷ []
    else (n % 128 + 128) ∷ (n / 128 % 128 + 128) ∷ (n / 128 / 128 % 128 + 128) ∷ (n / 128 / 128 / 128) ∷ []

-- ---- binary data and text (1.5.4 and 1.5.6)

-- a two byte integer, the high byte first (1.5.2)
abbrev pub two_bytes : ℕ → List ℕ
two_bytes n = to_be_bytes w16 n

-- two bytes of length, and that many bytes
abbrev pub blob : List ℕ → List ℕ
blob bytes = two_bytes (length bytes) ++ bytes

-- the bytes are the binary data d: its length in two bytes, and then d
abbrev pub IsBinary : List ℕ → List ℕ → Type 0
IsBinary d bytes = (length d < 2 ^ 16) × (bytes ≡ blob d)

-- the bytes are the UTF-8 of characters, none of which is U+0000
abbrev pub IsUtf8WithoutNull : List ℕ → Type 0
IsUtf8WithoutNull bytes = (cs : List ℕ) × (scalars cs ≡ true) × (encode_utf8_all cs ≡ bytes) × AllByRecursion (λ c. c ≢ 0) cs

-- the same as a test: the only UTF-8 of U+0000 is a byte 0, and no other character has that byte
abbrev pub is_text : List ℕ → Bool
is_text bytes = not (list_any (λ b. b == 0) bytes) && is_utf8 bytes

-- a text that has a spelling
abbrev pub FitsText : List ℕ → Type 0
FitsText t = (length t < 2 ^ 16) × (is_text t ≡ true)

-- the bytes are the text t: its length in two bytes, and then its UTF-8
abbrev pub IsText : List ℕ → List ℕ → Type 0
IsText t bytes = FitsText t × (bytes ≡ blob t)
