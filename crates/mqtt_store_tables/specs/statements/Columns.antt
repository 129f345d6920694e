-- What the rows have behind their keys, and the rows.
use Rattle.std.specs.Prelude.{ℕ, pos, Bool, cond, List, [], ◌∷◌, Option}
use Rattle.sqlite_value.specs.declared.value.Value.{Value}
use Rattle.sqlite_value.specs.declared.value.Value.TheVariants.{Null, Int, Text, Blob}
use Rattle.sqlite_value.specs.Order.{Row}
use Rattle.mqtt_store_tables.specs.statements.Copy.{number_or_null}
use Rattle.mqtt_store_tables.specs.declared.statements.subscriptions.SubscriptionColumns.{SubscriptionColumns}

pub record SessionColumns : Type 0 where
  pub client : List ℕ
  pub expiry : ℕ
  -- null while connected
  pub closed : Option ℕ

-- the birth is its number in the table, and NULL stands in its column
abbrev pub session_row : ℕ → SessionColumns → Row
session_row birth s = Int (pos birth) ∷ Null ∷ Text s.client ∷ Int (pos s.expiry) ∷ number_or_null s.closed ∷ []

-- 1 for true
abbrev pub flag : Bool → Value
flag b = Int (pos (cond b 1 0))

pub record WillColumns : Type 0 where
  pub delay : ℕ
  pub topic : List ℕ
  pub qos : ℕ
  pub retain : Bool
  pub props : List ℕ
  pub payload : List ℕ

-- the birth is its number in the table, and NULL stands in its column
abbrev pub will_row : ℕ → WillColumns → Row
will_row birth w =
    Int (pos birth) ∷ Null ∷ Int (pos w.delay) ∷ Text w.topic ∷ Int (pos w.qos) ∷ flag w.retain ∷ Blob w.props ∷ Blob w.payload ∷ []

-- without the number that the table gives it
abbrev pub subscription_row : ℕ → List ℕ → SubscriptionColumns → Row
subscription_row birth filter s =
    Int (pos birth) ∷ Text filter ∷ Int (pos s.place) ∷ Int (pos s.qos) ∷ flag s.no_local ∷ flag s.retain_as_published ∷ Int (pos s.handling) ∷ Int (pos s.identifier) ∷ []

pub record RetainedColumns : Type 0 where
  pub topic : List ℕ
  pub sender : List ℕ
  pub publication : ℕ
  pub qos : ℕ
  pub props : List ℕ
  pub payload : List ℕ
  pub arrived : ℕ

-- the place is its number in the table, and NULL stands in its column
abbrev pub retained_row : ℕ → RetainedColumns → Row
retained_row place m =
    Int (pos place) ∷ Null ∷ Text m.topic ∷ Text m.sender ∷ Int (pos m.publication) ∷ Int (pos m.qos) ∷ Blob m.props ∷ Blob m.payload ∷ Int (pos m.arrived) ∷ []
