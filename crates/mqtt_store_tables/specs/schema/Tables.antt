-- The tables of schema 2, as the engine reads their texts.
use Rattle.std.specs.Prelude.{ℕ, ◌+◌, false, List, [], ◌∷◌, ◌++◌, codes}
use Rattle.sqlite_value.specs.Keys.{plain}
use Rattle.sqlite_schema.specs.declared.schema.Kind.TheVariants.{Integer, Text, Blob}
use Rattle.sqlite_schema.specs.declared.schema.Reference.{Reference}
use Rattle.sqlite_schema.specs.declared.schema.Action.TheVariants.{NoAction}
use Rattle.sqlite_schema.specs.declared.schema.Table.{Table}
use Rattle.sqlite_schema.specs.declared.schema.Index.{Index}
use Rattle.sqlite_schema.specs.declared.schema.Schema.{Schema}
use Rattle.mqtt_store_tables.specs.forms.Tables.{wanted, optional, with_rowid_key, with_key, to_session, automatic, keep_schema}
use Rattle.mqtt_store_tables.specs.forms.Creation.{first}
use Rattle.mqtt_store_tables.specs.declared.schema.tables.Making.{Making}
use Rattle.mqtt_store_tables.specs.declared.schema.tables.Making.TheVariants.{New, TakenOver}

-- a message that is referred to is not deleted
abbrev pub to_message : ℕ → Reference
to_message at = record { columns = at ∷ []; parent = codes "message"; parent_columns = codes "pub" ∷ []; on_delete = NoAction; on_update = NoAction; is_deferred = false }

-- at that tree, what all copies of a publication and its retained message have alike
abbrev pub message : ℕ → Table
message tree = with_rowid_key (codes "message") tree (optional (codes "pub") Integer ∷ wanted (codes "topic") Text ∷ wanted (codes "props") Blob ∷ wanted (codes "payload") Blob ∷ []) [] []

-- copies, without what they have alike
abbrev pub queued : ℕ → Table
queued tree = with_key (codes "queued") tree
    (wanted (codes "birth") Integer ∷ wanted (codes "place") Integer ∷ wanted (codes "pub") Integer ∷ wanted (codes "cause") Integer ∷ wanted (codes "cause_text") Text ∷ wanted (codes "cause_n") Integer
    ∷ optional (codes "pid") Integer ∷ wanted (codes "phase") Integer ∷ optional (codes "rel") Integer ∷ wanted (codes "qos") Integer ∷ wanted (codes "retain") Integer
    ∷ wanted (codes "idents") Blob ∷ wanted (codes "arrived") Integer ∷ [])
    (1 ∷ 2 ∷ []) (to_session 1 ∷ to_message 3 ∷ [])

-- retained messages, without what they have alike with copies
abbrev pub kept : ℕ → Table
kept tree = with_rowid_key (codes "kept") tree
    (optional (codes "place") Integer ∷ wanted (codes "topic") Text ∷ wanted (codes "sender") Text ∷ wanted (codes "pub") Integer ∷ wanted (codes "qos") Integer ∷ wanted (codes "arrived") Integer ∷ [])
    ((2 ∷ []) ∷ []) (to_message 4 ∷ [])

-- an index of one column, by which rows are found that refer to a message
abbrev pub index_on : List ℕ → ℕ → ℕ → ℕ → Index
index_on name at tree place = record { name = name; tree = tree; table = at; columns = place ∷ []; order = plain; is_unique = false }

-- what stands where the tables of schema 2 are added: those that both schemas have, or all of schema 1
abbrev pub base_of : Making → Schema
base_of New = first 5
base_of TakenOver = keep_schema

-- the first tree that is free there
abbrev pub free_tree : Making → ℕ
free_tree New = 9
free_tree TakenOver = 13

abbrev pub tables_from : ℕ → List Table
tables_from tree = message tree ∷ queued (tree + 1) ∷ kept (tree + 3) ∷ []

abbrev pub indexes_from : ℕ → List Index
indexes_from tree = automatic (codes "queued") (tree + 1) (tree + 2) (1 ∷ 2 ∷ []) ∷ automatic (codes "kept") (tree + 3) (tree + 4) (2 ∷ [])
    ∷ index_on (codes "queued_pub") (tree + 1) (tree + 5) 3 ∷ index_on (codes "kept_pub") (tree + 3) (tree + 6) 4 ∷ []

abbrev pub second_schema : Making → Schema
second_schema making = record {
  tables = (base_of making).tables ++ tables_from (free_tree making);
  indexes = (base_of making).indexes ++ indexes_from (free_tree making);
  views = [];
}
