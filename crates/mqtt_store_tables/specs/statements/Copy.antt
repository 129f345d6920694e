-- A copy's row in schema 1.
use Rattle.std.specs.Prelude.{ℕ, pos, Bool, ◌&&◌, List, [], ◌∷◌, Option, Some, None}
use Rattle.sqlite_value.specs.declared.value.Value.{Value}
use Rattle.sqlite_value.specs.declared.value.Value.TheVariants.{Null, Int, Text, Blob}
use Rattle.sqlite_value.specs.Order.{Row}
use Rattle.mqtt_store_tables.specs.statements.Content.{is_of}

-- what a copy's row has behind its key
pub record CopyColumns : Type 0 where
  pub publication : ℕ
  pub cause : ℕ
  pub cause_text : List ℕ
  pub cause_n : ℕ
  pub pid : Option ℕ
  pub phase : ℕ
  pub rel : Option ℕ
  pub topic : List ℕ
  pub qos : ℕ
  pub retain : ℕ
  pub props : List ℕ
  pub payload : List ℕ
  pub arrived : ℕ

abbrev pub number_or_null : Option ℕ → Value
number_or_null None = Null
number_or_null (Some n) = Int (pos n)

-- without the number that the table gives it
abbrev pub copy_row : ℕ → ℕ → CopyColumns → Row
copy_row birth place c =
    Int (pos birth) ∷ Int (pos place) ∷ Int (pos c.publication) ∷ Int (pos c.cause) ∷ Text c.cause_text ∷ Int (pos c.cause_n) ∷ number_or_null c.pid ∷ Int (pos c.phase) ∷ number_or_null c.rel
    ∷ Text c.topic ∷ Int (pos c.qos) ∷ Int (pos c.retain) ∷ Blob c.props ∷ Blob c.payload ∷ Int (pos c.arrived) ∷ []

abbrev pub is_copy : ℕ → ℕ → Row → Bool
is_copy birth place r = is_of 1 (pos birth) r && is_of 2 (pos place) r
