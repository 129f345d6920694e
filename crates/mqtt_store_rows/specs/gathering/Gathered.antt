-- Messages that are gathered row by row (4.1).
use Rattle.std.specs.Prelude.{◌≡◌, ℕ, Bool, true, false, List, [], ◌∷◌, ◌++◌}
use Rattle.sqlite_value.specs.Order.{Row}
use Rattle.mqtt_records.specs.lists.Order.{IsTable}
use Rattle.mqtt_records.specs.state.Contents.{StoredMessage}
use Rattle.mqtt_store_rows.specs.values.Lists.{AreRows}
use Rattle.mqtt_store_rows.specs.declared.rows.message.TheConstants.{MESSAGE_LIMIT}
use Rattle.mqtt_store_rows.specs.rows.Rows.{SaysMessage}
use Rattle.mqtt_store_rows.specs.rows.Joins.{publication_of}
use Rattle.mqtt_store_rows.specs.gathering.Thin.{IsAlike, AreAlike}

-- those so far, the numbers of those that are whole, and whether rows were found that say none
pub record Gathered : Type 0 where
  pub whole : List ℕ
  pub messages : List StoredMessage
  pub is_corrupt : Bool

-- rows say messages by their numbers, and these are alike
pub record AreMessages (whole : List ℕ) (messages : List StoredMessage) (rows : List Row) : Type 0 where
  pub full : List StoredMessage
  pub said : AreRows SaysMessage rows full
  pub table : IsTable publication_of MESSAGE_LIMIT full
  pub alike : AreAlike whole full messages

-- rows say no messages by their numbers, whatever follows
abbrev pub SayNoMessages : List Row → Type 0
SayNoMessages rows = (more : List Row) (all : List StoredMessage) → AreRows SaysMessage (rows ++ more) all → IsTable publication_of MESSAGE_LIMIT all → ⊥

-- what was gathered of these rows
pub record HasTaken (g : Gathered) (rows : List Row) : Type 0 where
  pub read : g.is_corrupt ≡ false → AreMessages g.whole g.messages rows
  pub none : g.is_corrupt ≡ true → SayNoMessages rows

-- a message was put behind the others, one that is alike
pub record HasAdded (m : StoredMessage) (old new : Gathered) : Type 0 where
  pub thin : StoredMessage
  pub alike : IsAlike old.whole m thin
  pub is : new.messages ≡ old.messages ++ thin ∷ []
  pub table : IsTable publication_of MESSAGE_LIMIT new.messages

-- it may not stand there: its number is not above all others, or there are too many
pub record MayNotFollow (m : StoredMessage) (old : Gathered) : Type 0 where
  pub thin : StoredMessage
  pub alike : IsAlike old.whole m thin
  pub refused : IsTable publication_of MESSAGE_LIMIT (old.messages ++ thin ∷ []) → ⊥
