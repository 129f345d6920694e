-- The tables of schema 2 in its layout.
use Rattle.std.proofs.Common.{◌≡◌, ℕ, ◌∷◌, [], Some, refl, slice_get, List, inl, inr}
use Rattle.sqlite_value.specs.Keys.{joined}
use Rattle.sqlite_value.specs.Order.{Row}
use Rattle.sqlite_schema.specs.Names.{same_name}
use Rattle.sqlite_schema.specs.declared.schema.Keys.TheVariants.{Enforced}
use Rattle.sqlite_rules.specs.Action.{works}
use Rattle.sqlite_rules.specs.Lists.{Has}
use Rattle.sqlite.specs.State.{State}
use Rattle.mqtt_store_tables.specs.schema.Tables.{message, queued, kept}
use Rattle.mqtt_store_tables.specs.declared.schema.tables.Making.{Making}
use Rattle.mqtt_store_tables.specs.declared.schema.tables.Making.TheVariants.{New, TakenOver}
use Rattle.mqtt_store_tables.specs.statements.Layout.{IsLayout, second_layout, schema_of}
use Rattle.mqtt_store_tables.specs.statements.Content.{IsShapedAt, IsWhole}
use Rattle.mqtt_store_tables.proofs.statements_lemmas.tables.Second.{is_second}
use Rattle.mqtt_store_tables.specs.messages.Places.{message_tree, queued_tree, kept_tree}

-- schema 2 is laid out as the statements ask
pub asked : (making : Making) → IsLayout (second_layout making)
asked making = (is_second making).1

-- how many tables stand before that of messages
abbrev pub message_at : Making → ℕ
message_at New = 5
message_at TakenOver = 7

abbrev pub queued_at : Making → ℕ
queued_at New = 6
queued_at TakenOver = 8

abbrev pub kept_at : Making → ℕ
kept_at New = 7
kept_at TakenOver = 9

-- in that place stands the table of messages
pub message_is : (making : Making) → slice_get (schema_of (second_layout making)).tables (message_at making) ≡ Some (message (message_tree making))
message_is New = refl
message_is TakenOver = refl

-- in that place stands the table of copies
pub queued_is : (making : Making) → slice_get (schema_of (second_layout making)).tables (queued_at making) ≡ Some (queued (queued_tree making))
queued_is New = refl
queued_is TakenOver = refl

-- in that place stands the table of retained messages
pub kept_is : (making : Making) → slice_get (schema_of (second_layout making)).tables (kept_at making) ≡ Some (kept (kept_tree making))
kept_is New = refl
kept_is TakenOver = refl

-- copies are a table of the schema
pub queued_listed : (making : Making) → Has (schema_of (second_layout making)).tables (queued (queued_tree making))
queued_listed New = inr (inr (inr (inr (inr (inr (inl refl))))))
queued_listed TakenOver = inr (inr (inr (inr (inr (inr (inr (inr (inl refl))))))))

-- messages rise by their numbers
pub message_shaped : (making : Making) (s : State) → IsWhole (second_layout making) s → IsShapedAt s.now.trees (message_tree making)
message_shaped New s whole = whole.behind.0
message_shaped TakenOver s whole = whole.behind.1.1.0

-- copies rise by their numbers
pub queued_shaped : (making : Making) (s : State) → IsWhole (second_layout making) s → IsShapedAt s.now.trees (queued_tree making)
queued_shaped New s whole = whole.behind.1.0
queued_shaped TakenOver s whole = whole.behind.1.1.1.0

-- retained messages rise by their numbers
pub kept_shaped : (making : Making) (s : State) → IsWhole (second_layout making) s → IsShapedAt s.now.trees (kept_tree making)
kept_shaped New s whole = whole.behind.1.1.0
kept_shaped TakenOver s whole = whole.behind.1.1.1.1.0

-- a message that goes or comes sets nothing off: what refers to it stays
pub message_childless : (making : Making) (olds : List Row) → works (schema_of (second_layout making)) Enforced 0 (message_tree making) olds [] ≡ []
unfolding same_name joined
message_childless New olds = refl
message_childless TakenOver olds = refl

-- nor does one that is put
pub message_unworked : (making : Making) (olds : List Row) (new : Row) → works (schema_of (second_layout making)) Enforced 0 (message_tree making) olds (new ∷ []) ≡ []
unfolding same_name joined
message_unworked New olds new = refl
message_unworked TakenOver olds new = refl

-- no table refers to copies, so one that goes sets nothing off
pub queued_childless : (making : Making) (olds : List Row) → works (schema_of (second_layout making)) Enforced 0 (queued_tree making) olds [] ≡ []
unfolding same_name joined
queued_childless New olds = refl
queued_childless TakenOver olds = refl

-- nor does one that is put
pub queued_unworked : (making : Making) (olds : List Row) (new : Row) → works (schema_of (second_layout making)) Enforced 0 (queued_tree making) olds (new ∷ []) ≡ []
unfolding same_name joined
queued_unworked New olds new = refl
queued_unworked TakenOver olds new = refl

-- no table refers to retained messages, so one that goes sets nothing off
pub kept_childless : (making : Making) (olds : List Row) → works (schema_of (second_layout making)) Enforced 0 (kept_tree making) olds [] ≡ []
unfolding same_name joined
kept_childless New olds = refl
kept_childless TakenOver olds = refl

-- nor does one that is put
pub kept_unworked : (making : Making) (olds : List Row) (new : Row) → works (schema_of (second_layout making)) Enforced 0 (kept_tree making) olds (new ∷ []) ≡ []
unfolding same_name joined
kept_unworked New olds new = refl
kept_unworked TakenOver olds new = refl
