-- The trees of schema 2's tables: none is an index's, and they lie apart.
use Rattle.std.proofs.Common.{◌≢◌, ℕ, ◌≤◌, arith}
use Rattle.sqlite_rules.specs.Edit.{IsNoIndex}
use Rattle.mqtt_store_tables.specs.declared.schema.tables.Making.{Making}
use Rattle.mqtt_store_tables.specs.declared.schema.tables.Making.TheVariants.{New, TakenOver}
use Rattle.mqtt_store_tables.specs.statements.Layout.{second_layout, schema_of}
use Rattle.mqtt_store_tables.specs.messages.Places.{message_tree, queued_tree, kept_tree}
use Rattle.mqtt_store_tables.proofs.messages_lemmas.Behind.{asked}

-- no index has the tree of messages
pub message_spared : (making : Making) → IsNoIndex (schema_of (second_layout making)) (message_tree making)
message_spared New = (asked New).tables.0
message_spared TakenOver = (asked TakenOver).tables.1.1.0

-- nor that of copies
pub queued_spared : (making : Making) → IsNoIndex (schema_of (second_layout making)) (queued_tree making)
queued_spared New = (asked New).tables.1.0
queued_spared TakenOver = (asked TakenOver).tables.1.1.1.0

-- nor that of retained messages
pub kept_spared : (making : Making) → IsNoIndex (schema_of (second_layout making)) (kept_tree making)
kept_spared New = (asked New).tables.1.1.0
kept_spared TakenOver = (asked TakenOver).tables.1.1.1.1.0

-- messages stand behind the first five tables
pub message_high : (making : Making) → 9 ≤ message_tree making
message_high New = omega arith
message_high TakenOver = omega arith

-- and so do copies
pub queued_high : (making : Making) → 9 ≤ queued_tree making
queued_high New = omega arith
queued_high TakenOver = omega arith

-- and retained messages
pub kept_high : (making : Making) → 9 ≤ kept_tree making
kept_high New = omega arith
kept_high TakenOver = omega arith

-- messages and copies lie at two trees
pub message_queued : (making : Making) → message_tree making ≢ queued_tree making
message_queued New = omega arith
message_queued TakenOver = omega arith

-- messages and retained messages too
pub message_kept : (making : Making) → message_tree making ≢ kept_tree making
message_kept New = omega arith
message_kept TakenOver = omega arith

-- copies and retained messages too
pub queued_kept : (making : Making) → queued_tree making ≢ kept_tree making
queued_kept New = omega arith
queued_kept TakenOver = omega arith

-- the tree is none of the tables of copies and retained messages of schema 1, if these stand
abbrev pub IsNotOld : Making → ℕ → Type 0
IsNotOld New tree = Unit {0}
IsNotOld TakenOver tree = (9 ≢ tree) × (11 ≢ tree)

-- messages are none of them
pub message_not_old : (making : Making) → IsNotOld making (message_tree making)
message_not_old New = tt
message_not_old TakenOver = (omega arith, omega arith)

-- nor are copies
pub queued_not_old : (making : Making) → IsNotOld making (queued_tree making)
queued_not_old New = tt
queued_not_old TakenOver = (omega arith, omega arith)

-- nor are retained messages
pub kept_not_old : (making : Making) → IsNotOld making (kept_tree making)
kept_not_old New = tt
kept_not_old TakenOver = (omega arith, omega arith)

-- nor is one of the first five
pub low_not_old : (making : Making) (tree : ℕ) → tree ≤ 7 → IsNotOld making tree
low_not_old New tree low = tt
low_not_old TakenOver tree low = ((λ same. absurd (omega (arith, low, same))), (λ same. absurd (omega (arith, low, same))))
