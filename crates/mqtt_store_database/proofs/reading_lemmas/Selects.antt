-- What the texts of a load mean that ask for the rows that schema 2 adds.
use Rattle.std.proofs.Common.{◌≡◌, ℕ, List, [], ◌∷◌, codes, refl}
use Rattle.sqlite_value.specs.Order.{Row}
use Rattle.sqlite_schema.specs.declared.schema.Schema.{Schema}
use Rattle.sqlite_resolve.specs.Compile.{first}
use Rattle.sqlite.specs.Query.{Query}
use Rattle.sqlite.specs.Listing.{understood}
use Rattle.sqlite.specs.State.{State, Shown}
use Rattle.sqlite_tied.specs.Compute.{everything}
use Rattle.mqtt_store_tables.proofs.forms_lemmas.Plain.{IsSelect, ShowsOnly, text_shows}
use Rattle.mqtt_store_tables.specs.schema.Tables.{second_schema}
use Rattle.mqtt_store_tables.specs.declared.schema.tables.Making.{Making}
use Rattle.mqtt_store_tables.specs.declared.schema.tables.Making.TheVariants.{New, TakenOver}
use Rattle.mqtt_store_database.proofs.asking_lemmas.Selects.{query_at, Means}
use Rattle.mqtt_store_database.proofs.asking_lemmas.Listings.{Sorts, lists}
use Rattle.mqtt_store_database.specs.declared.reading.reading.AddedTable.{AddedTable}
use Rattle.mqtt_store_database.specs.declared.reading.reading.AddedTable.TheVariants.{Message, Queued, Kept}
use Rattle.mqtt_store_database.specs.reading.Listing.{added_text, added_tree, added_columns, added_key, IsAddedListing}

abbrev added_query : Making → AddedTable → Query
added_query making table = query_at (added_tree making table) (added_columns table) (added_key table)

abbrev added_names : AddedTable → List (List ℕ)
added_names Message = codes "pub" ∷ codes "topic" ∷ codes "props" ∷ codes "payload" ∷ []
added_names Queued = codes "birth" ∷ codes "place" ∷ codes "pub" ∷ codes "cause" ∷ codes "cause_text" ∷ codes "cause_n" ∷ codes "pid" ∷ codes "phase" ∷ codes "rel" ∷ codes "qos" ∷ codes "retain" ∷ codes "idents" ∷ codes "arrived" ∷ []
added_names Kept = codes "place" ∷ codes "topic" ∷ codes "sender" ∷ codes "pub" ∷ codes "qos" ∷ codes "arrived" ∷ []

-- a table's statement is its query in schema 2
added_means : (making : Making) (table : AddedTable) → Means (second_schema making) (added_text table) (added_query making table) (added_names table)
unfolding understood everything
added_means New Message = record { command = refl; plain = (refl, refl); unlisted = refl }
added_means New Queued = record { command = refl; plain = (refl, refl); unlisted = refl }
added_means New Kept = record { command = refl; plain = (refl, refl); unlisted = refl }
added_means TakenOver Message = record { command = refl; plain = (refl, refl); unlisted = refl }
added_means TakenOver Queued = record { command = refl; plain = (refl, refl); unlisted = refl }
added_means TakenOver Kept = record { command = refl; plain = (refl, refl); unlisted = refl }

-- it shows the table's columns, and sorts by those of the key
added_sorts : (table : AddedTable) → Sorts (added_columns table) (added_key table)
added_sorts Message = record { shows = λ row. refl; order = λ r s. refl }
added_sorts Queued = record { shows = λ row. refl; order = λ r s. refl }
added_sorts Kept = record { shows = λ row. refl; order = λ r s. refl }

-- what a table's statement shows is the listing of its rows
pub added_lists : (making : Making) (table : AddedTable) (old new : State) (rows : List Row) → old.now.schema ≡ second_schema making → Shown (added_text table) [] old new rows
    → IsAddedListing making table old.now.trees rows
added_lists making table old new rows has h =
    lists (added_columns table) (added_key table) (added_sorts table) (added_tree making table) (added_text table) (added_names table) (second_schema making) (added_means making table) old new rows has h

added_is_select : (table : AddedTable) → IsSelect (first (added_text table))
unfolding everything
added_is_select Message = (_, refl)
added_is_select Queued = (_, refl)
added_is_select Kept = (_, refl)

-- whatever the schema, the query shows no row of a write
pub added_shows : (schema : Schema) (table : AddedTable) → ShowsOnly (understood schema (added_text table))
added_shows schema table = text_shows schema (added_text table) (added_is_select table)
