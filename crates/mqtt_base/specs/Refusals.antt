-- When no value can be read from the front of the bytes, and why (MQTT 5.0, 1.5.4 to 1.5.6).
use Rattle.std.specs.Prelude.{◌≡◌, ◌⊎◌, ℕ, ◌+◌, ◌*◌, ◌<◌, ◌≤◌, List, [], ◌∷◌, ◌++◌, length, take, drop, slice_index}
use Rattle.std.specs.List.{AllByRecursion}
use Rattle.mqtt_base.specs.declared.fault.ReadFault.{ReadFault}
use Rattle.mqtt_base.specs.declared.fault.ReadFault.TheVariants.{Short, Overlong, BadText}
use Rattle.mqtt_base.specs.Values.{IsUtf8WithoutNull}

-- ---- variable byte integers

-- n bytes stand at the front that each have the high bit: another byte has to follow
pub record GoOn (n : ℕ) (bytes rest : List ℕ) : Type 0 where
  pub front : List ℕ
  pub parts : bytes ≡ front ++ rest
  pub count : length front ≡ n
  pub high : AllByRecursion (λ b. 128 ≤ b) front

-- the last byte of two, three or four is 00
abbrev pub EndsInZero : List ℕ → Type 0
EndsInZero bytes = (n : ℕ) × (rest : List ℕ) × (0 < n) × (n < 4) × GoOn n bytes (0 ∷ rest)

-- the fourth byte has the high bit too
abbrev pub PassesFour : List ℕ → Type 0
PassesFour bytes = (rest : List ℕ) × GoOn 4 bytes rest

-- why no variable byte integer stands at the front
abbrev pub VarIntRefused : ReadFault → List ℕ → Type 0
VarIntRefused Short bytes = (n : ℕ) × (n < 4) × GoOn n bytes []
VarIntRefused Overlong bytes = EndsInZero bytes ⊎ PassesFour bytes
VarIntRefused BadText bytes = ⊥

-- ---- binary data and text

-- the length that the first two bytes say
abbrev pub said_length : List ℕ → ℕ
said_length bytes = 256 * slice_index bytes 0 + slice_index bytes 1

-- the two bytes of the length are there, and as many bytes as they say
pub record IsWhole (bytes : List ℕ) : Type 0 where
  pub length_there : 2 ≤ length bytes
  pub body_there : 2 + said_length bytes ≤ length bytes

-- the bytes that the length speaks of
abbrev pub said_body : List ℕ → List ℕ
said_body bytes = take (said_length bytes) (drop 2 bytes)

-- why no binary data stands at the front
abbrev pub BinaryRefused : ReadFault → List ℕ → Type 0
BinaryRefused Short bytes = ¬ IsWhole bytes
BinaryRefused Overlong bytes = ⊥
BinaryRefused BadText bytes = ⊥

-- why no text stands at the front
abbrev pub TextRefused : ReadFault → List ℕ → Type 0
TextRefused Short bytes = ¬ IsWhole bytes
TextRefused Overlong bytes = ⊥
TextRefused BadText bytes = IsWhole bytes × ¬ IsUtf8WithoutNull (said_body bytes)
