-- What the texts of a load mean.
use Rattle.std.proofs.Common.{◌≡◌, ℕ, List, [], ◌∷◌, map, codes, slice_index_or, pos, negsuc, None, refl, false}
use Rattle.sqlite.specs.Command.TheVariants.{Select}
use Rattle.sqlite_schema.specs.declared.program.Program.{Program}
use Rattle.sqlite_value.specs.declared.value.Value.TheVariants.{Int}
use Rattle.sqlite_value.specs.declared.keys.Key.{Key}
use Rattle.sqlite_value.specs.declared.keys.Collation.TheVariants.{Binary}
use Rattle.sqlite_value.specs.Keys.{ascending}
use Rattle.sqlite.specs.Term.{Term, lit, col}
use Rattle.sqlite.specs.Query.{Query, inner, end}
use Rattle.sqlite.specs.Listing.{understood, reads_listing}
use Rattle.sqlite_tied.specs.Compute.{everything}
use Rattle.sqlite.proofs.Callers.{IsPlain, command_of}
use Rattle.sqlite_resolve.specs.Compile.{first}
use Rattle.sqlite_schema.specs.declared.schema.Schema.{Schema}
use Rattle.mqtt_store_tables.proofs.forms_lemmas.Plain.{IsSelect, ShowsOnly, text_shows}
use Rattle.mqtt_store_tables.specs.forms.Tables.{keep_schema}
use Rattle.mqtt_store_tables.specs.declared.forms.schema.StoreTable.{StoreTable}
use Rattle.mqtt_store_tables.specs.declared.forms.schema.StoreTable.TheVariants.{Meta, Session, Will, Subscription, Inbound, Copy, Retained}
use Rattle.mqtt_store_tables.specs.schema.Tables.{second_schema}
use Rattle.mqtt_store_tables.specs.declared.schema.tables.Making.{Making}
use Rattle.mqtt_store_tables.specs.declared.schema.tables.Making.TheVariants.{New, TakenOver}
use Rattle.mqtt_store_database.specs.asking.Listing.{select_text, tree_of, columns_of, key_of, IsInSecond}

abbrev pub sorted_over : ℕ → List Term → List (Term × Key) → Query
sorted_over tree project order = record { from = inner tree end; filter = []; group = None; project = project; distinct = false; collations = []; order = order; limit = lit (Int (negsuc 0)); offset = lit (Int (pos 0)) }

-- the query of these columns of a tree, in the order of some of them
abbrev pub query_at : ℕ → List ℕ → List ℕ → Query
query_at tree columns key = sorted_over tree (map (col 1) columns) (map (λ at. (col 1 (slice_index_or columns at 0), ascending Binary)) key)

-- the query of a table
abbrev pub query_of : StoreTable → Query
query_of table = query_at (tree_of table) (columns_of table) (key_of table)

abbrev pub program : Query → Program
program q = record { lets = []; body = q }

abbrev pub names_of : StoreTable → List (List ℕ)
names_of Meta = codes "name" ∷ codes "n" ∷ []
names_of Session = codes "birth" ∷ codes "client" ∷ codes "expiry" ∷ codes "closed" ∷ []
names_of Will = codes "birth" ∷ codes "delay" ∷ codes "topic" ∷ codes "qos" ∷ codes "retain" ∷ codes "props" ∷ codes "payload" ∷ []
names_of Subscription = codes "birth" ∷ codes "filter" ∷ codes "place" ∷ codes "qos" ∷ codes "nolocal" ∷ codes "rap" ∷ codes "handling" ∷ codes "ident" ∷ []
names_of Inbound = codes "birth" ∷ codes "ident" ∷ []
names_of Copy =
    codes "birth" ∷ codes "place" ∷ codes "pub" ∷ codes "cause" ∷ codes "cause_text" ∷ codes "cause_n" ∷ codes "pid" ∷ codes "phase" ∷ codes "rel" ∷ codes "topic" ∷ codes "qos" ∷ codes "retain" ∷ codes "props"
    ∷ codes "payload" ∷ codes "arrived" ∷ []
names_of Retained = codes "place" ∷ codes "topic" ∷ codes "sender" ∷ codes "pub" ∷ codes "qos" ∷ codes "props" ∷ codes "payload" ∷ codes "arrived" ∷ []

-- in this schema the text is that query, is plain, and reads no listing
pub record Means (schema : Schema) (text : List ℕ) (q : Query) (names : List (List ℕ)) : Type 0 where
  pub command : command_of (understood schema text) ≡ Select (program q) names
  pub plain : IsPlain (understood schema text)
  pub unlisted : reads_listing schema text ≡ false

abbrev pub MeansTable : Schema → StoreTable → Type 0
MeansTable schema table = Means schema (select_text table) (query_of table) (names_of table)

-- a table's statement is its query in schema 1
pub first_means : (table : StoreTable) → MeansTable keep_schema table
unfolding understood everything
first_means Meta = record { command = refl; plain = (refl, refl); unlisted = refl }
first_means Session = record { command = refl; plain = (refl, refl); unlisted = refl }
first_means Will = record { command = refl; plain = (refl, refl); unlisted = refl }
first_means Subscription = record { command = refl; plain = (refl, refl); unlisted = refl }
first_means Inbound = record { command = refl; plain = (refl, refl); unlisted = refl }
first_means Copy = record { command = refl; plain = (refl, refl); unlisted = refl }
first_means Retained = record { command = refl; plain = (refl, refl); unlisted = refl }

-- and in a new database of schema 2
new_means : (table : StoreTable) → IsInSecond table New → MeansTable (second_schema New) table
unfolding understood everything
new_means Meta stands = record { command = refl; plain = (refl, refl); unlisted = refl }
new_means Session stands = record { command = refl; plain = (refl, refl); unlisted = refl }
new_means Will stands = record { command = refl; plain = (refl, refl); unlisted = refl }
new_means Subscription stands = record { command = refl; plain = (refl, refl); unlisted = refl }
new_means Inbound stands = record { command = refl; plain = (refl, refl); unlisted = refl }
new_means Copy stands = absurd cc
new_means Retained stands = absurd cc

-- and in one that had schema 1
taken_over_means : (table : StoreTable) → MeansTable (second_schema TakenOver) table
unfolding understood everything
taken_over_means Meta = record { command = refl; plain = (refl, refl); unlisted = refl }
taken_over_means Session = record { command = refl; plain = (refl, refl); unlisted = refl }
taken_over_means Will = record { command = refl; plain = (refl, refl); unlisted = refl }
taken_over_means Subscription = record { command = refl; plain = (refl, refl); unlisted = refl }
taken_over_means Inbound = record { command = refl; plain = (refl, refl); unlisted = refl }
taken_over_means Copy = record { command = refl; plain = (refl, refl); unlisted = refl }
taken_over_means Retained = record { command = refl; plain = (refl, refl); unlisted = refl }

-- and in schema 2 if the table stands there
pub second_means : (making : Making) (table : StoreTable) → IsInSecond table making → MeansTable (second_schema making) table
second_means New table stands = new_means table stands
second_means TakenOver table stands = taken_over_means table

select_is_select : (table : StoreTable) → IsSelect (first (select_text table))
unfolding everything
select_is_select Meta = (_, refl)
select_is_select Session = (_, refl)
select_is_select Will = (_, refl)
select_is_select Subscription = (_, refl)
select_is_select Inbound = (_, refl)
select_is_select Copy = (_, refl)
select_is_select Retained = (_, refl)

-- whatever the schema, the query shows no row of a write
pub select_shows : (schema : Schema) (table : StoreTable) → ShowsOnly (understood schema (select_text table))
select_shows schema table = text_shows schema (select_text table) (select_is_select table)
