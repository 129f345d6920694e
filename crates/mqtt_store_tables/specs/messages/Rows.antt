-- What the rows have behind their keys, and the rows.
use Rattle.std.specs.Prelude.{ℕ, pos, Bool, List, [], ◌∷◌, Option, IfSome, ◌<◌, ◌^◌}
use Rattle.sqlite_value.specs.declared.value.Value.TheVariants.{Null, Int, Text, Blob}
use Rattle.sqlite_value.specs.Order.{Row}
use Rattle.mqtt_store_tables.specs.statements.Copy.{number_or_null}
use Rattle.mqtt_store_tables.specs.statements.Columns.{flag}

pub record MessageColumns : Type 0 where
  pub topic : List ℕ
  pub props : List ℕ
  pub payload : List ℕ

-- the publication is its number in the table, and NULL stands in its column
abbrev pub message_row : ℕ → MessageColumns → Row
message_row publication m = Int (pos publication) ∷ Null ∷ Text m.topic ∷ Blob m.props ∷ Blob m.payload ∷ []

pub record QueuedColumns : Type 0 where
  pub publication : ℕ
  pub cause : ℕ
  pub cause_text : List ℕ
  pub cause_n : ℕ
  pub pid : Option ℕ
  pub phase : ℕ
  pub rel : Option ℕ
  pub qos : ℕ
  pub retain : Bool
  pub idents : List ℕ
  pub arrived : ℕ

-- its numbers are such as SQL has
pub record IsSized (c : QueuedColumns) : Type 0 where
  pub publication : c.publication < 2 ^ 63
  pub cause_n : c.cause_n < 2 ^ 63
  pub pid : IfSome c.pid (λ n. n < 2 ^ 63)
  pub rel : IfSome c.rel (λ n. n < 2 ^ 63)
  pub arrived : c.arrived < 2 ^ 63

-- without the number that the table gives it
abbrev pub queued_row : ℕ → ℕ → QueuedColumns → Row
queued_row birth place c =
    Int (pos birth) ∷ Int (pos place) ∷ Int (pos c.publication) ∷ Int (pos c.cause) ∷ Text c.cause_text ∷ Int (pos c.cause_n) ∷ number_or_null c.pid ∷ Int (pos c.phase) ∷ number_or_null c.rel
    ∷ Int (pos c.qos) ∷ flag c.retain ∷ Blob c.idents ∷ Int (pos c.arrived) ∷ []

pub record KeptColumns : Type 0 where
  pub topic : List ℕ
  pub sender : List ℕ
  pub publication : ℕ
  pub qos : ℕ
  pub arrived : ℕ

-- the place is its number in the table, and NULL stands in its column
abbrev pub kept_row : ℕ → KeptColumns → Row
kept_row place m = Int (pos place) ∷ Null ∷ Text m.topic ∷ Text m.sender ∷ Int (pos m.publication) ∷ Int (pos m.qos) ∷ Int (pos m.arrived) ∷ []
