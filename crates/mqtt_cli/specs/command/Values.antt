-- The values of a command line (ours).
use Rattle.std.specs.Prelude.{◌≡◌, ◌==◌, ◌<◌, ◌≤◌, ◌^◌, ℕ, Bool, false, List, [], ◌∷◌, Option, codes, nat_eq, option_and_then}
use Rattle.std.specs.List.{after_first}
use Rattle.std.specs.Str.Parse.{IsNumeral, digits_value, without_leading_plus}
use Rattle.std.specs.Net.Grammar.{IsSocketV4Text}
use Rattle.std.specs.declared.net.socket_addr.SocketAddrV4.{SocketAddrV4}
use Rattle.clap.specs.Words.{Row, Text, first_of}
use Rattle.mqtt_flow.specs.declared.outbound.entry.Full.{Full}
use Rattle.mqtt_flow.specs.declared.outbound.entry.Full.TheVariants.{Refuse, Drop}
use Rattle.mqtt_link.specs.declared.commit.Commit.{Commit}
use Rattle.mqtt_link.specs.declared.commit.Commit.TheVariants.{Turn, Step}

-- the value of an option
abbrev pub value_in : Text → Option (List Row) → Option Text
value_in name rows = option_and_then (first_of name) rows

-- more digits stand behind a zero
abbrev pub is_padded : List ℕ → Bool
is_padded [] = false
is_padded (digit ∷ []) = false
is_padded (digit ∷ next ∷ digits) = nat_eq digit 48

-- the text is this address: four numbers up to 255 joined by dots, a colon and a port, without leading zeros
pub record IsAddress (text : List ℕ) (address : SocketAddrV4) : Type 0 where
  pub written : IsSocketV4Text text address
  pub unpadded : is_padded (after_first (λ b. b == 58) text) ≡ false

-- the text is this number, which is from 1 to 2^32 - 1
pub record IsCount (text : List ℕ) (count : ℕ) : Type 0 where
  pub numeral : IsNumeral 10 (without_leading_plus text)
  pub value : digits_value 10 (without_leading_plus text) ≡ count
  pub some : 0 < count
  pub fits : count < 2 ^ 32

-- the text is this size of a table, from 1 to the most that it may have
pub record IsSize (most : ℕ) (text : List ℕ) (size : ℕ) : Type 0 where
  pub count : IsCount text size
  pub within : size ≤ most

-- the word for what becomes of a copy for which a queue has no room
abbrev pub IsFull : List ℕ → Full → Type 0
IsFull text Refuse = text ≡ codes "refuse"
IsFull text Drop = text ≡ codes "drop"

-- the word for when the steps of the broker are stored: those of a turn together, or each by itself
abbrev pub IsCommit : List ℕ → Commit → Type 0
IsCommit text Turn = text ≡ codes "turn"
IsCommit text Step = text ≡ codes "step"
