-- At which trees the tables of schema 2 lie.
use Rattle.std.specs.Prelude.{ℕ, ◌+◌}
use Rattle.mqtt_store_tables.specs.schema.Tables.{free_tree}
use Rattle.mqtt_store_tables.specs.declared.schema.tables.Making.{Making}

-- what all copies of a publication and its retained message have alike
abbrev pub message_tree : Making → ℕ
message_tree making = free_tree making

-- copies
abbrev pub queued_tree : Making → ℕ
queued_tree making = free_tree making + 1

-- retained messages
abbrev pub kept_tree : Making → ℕ
kept_tree making = free_tree making + 3
