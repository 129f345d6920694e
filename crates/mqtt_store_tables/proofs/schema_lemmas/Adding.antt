-- What is added to the tables that stand.
use Rattle.std.proofs.Common.{◌≡◌, ℕ, ◌+◌, List, [], ◌∷◌, ◌++◌, take, length, codes, Ok, Err, Result, OnOk, refl, sym, ap, subst, ◌∙◌, IsTrue}
use Rattle.sqlite_schema.specs.declared.schema.Table.{Table}
use Rattle.sqlite_schema.specs.declared.schema.Index.{Index}
use Rattle.sqlite_trees.specs.Tree.{Trees}
use Rattle.sqlite_catalog.specs.Change.{next_tree, KeepsRows}
use Rattle.sqlite.specs.declared.error.Error.{Error}
use Rattle.sqlite.specs.Listing.{understood}
use Rattle.sqlite.specs.State.{State, ExecutesInside}
use Rattle.sqlite_tied.specs.Compute.{everything}
use Rattle.mqtt_store_tables.specs.forms.Creation.{AreEmpty, HasTables}
use Rattle.mqtt_store_tables.proofs.forms_lemmas.Creates.{Makes, HasMade, makes, still_empty, one_more}
use Rattle.mqtt_store_tables.specs.schema.Tables.{message, queued, kept, index_on, base_of, free_tree, tables_from}
use Rattle.mqtt_store_tables.specs.schema.Creation.{add_text, place_of, with_first, HasAdded, IsBare, Adds}
use Rattle.mqtt_store_tables.specs.declared.schema.tables.Making.{Making}
use Rattle.mqtt_store_tables.specs.declared.schema.tables.Making.TheVariants.{New, TakenOver}
use Rattle.mqtt_store_tables.specs.declared.schema.creation.Added.{Added}
use Rattle.mqtt_store_tables.specs.declared.schema.creation.Added.TheVariants.{Message, Queued, Kept, QueuedPub, KeptPub}
use Rattle.mqtt_store_tables.proofs.schema_lemmas.Indexes.{MakesIndex, HasIndexed, indexes}

abbrev Adds_table : Making → Added → Table → Type 0
Adds_table making added table = Makes (with_first making (place_of added)) (add_text added) table (with_first making (place_of added + 1))

message_is : (making : Making) → Adds_table making Message (message 0)
unfolding understood everything
message_is New = record { command = refl; statement = refl; table_is = refl; plain = (refl, refl); created_is = refl; uncounted = refl }
message_is TakenOver = record { command = refl; statement = refl; table_is = refl; plain = (refl, refl); created_is = refl; uncounted = refl }

queued_is : (making : Making) → Adds_table making Queued (queued 0)
unfolding understood everything
queued_is New = record { command = refl; statement = refl; table_is = refl; plain = (refl, refl); created_is = refl; uncounted = refl }
queued_is TakenOver = record { command = refl; statement = refl; table_is = refl; plain = (refl, refl); created_is = refl; uncounted = refl }

kept_is : (making : Making) → Adds_table making Kept (kept 0)
unfolding understood everything
kept_is New = record { command = refl; statement = refl; table_is = refl; plain = (refl, refl); created_is = refl; uncounted = refl }
kept_is TakenOver = record { command = refl; statement = refl; table_is = refl; plain = (refl, refl); created_is = refl; uncounted = refl }

abbrev Adds_index : Making → Added → ℕ → Table → Index → Type 0
Adds_index making added at table index = MakesIndex (with_first making (place_of added)) (add_text added) at table index (with_first making (place_of added + 1))

queued_pub_is : (making : Making) → Adds_index making QueuedPub (length (base_of making).tables + 1) (queued (free_tree making + 1)) (index_on (codes "queued_pub") (free_tree making + 1) 0 3)
unfolding understood everything
queued_pub_is New = record { command = refl; statement = refl; at_is = refl; index_is = refl; plain = (refl, refl); indexed_is = refl }
queued_pub_is TakenOver = record { command = refl; statement = refl; at_is = refl; index_is = refl; plain = (refl, refl); indexed_is = refl }

kept_pub_is : (making : Making) → Adds_index making KeptPub (length (base_of making).tables + 2) (kept (free_tree making + 3)) (index_on (codes "kept_pub") (free_tree making + 3) 0 4)
unfolding understood everything
kept_pub_is New = record { command = refl; statement = refl; at_is = refl; index_is = refl; plain = (refl, refl); indexed_is = refl }
kept_pub_is TakenOver = record { command = refl; statement = refl; at_is = refl; index_is = refl; plain = (refl, refl); indexed_is = refl }

kept_front : (first second : List Table) (old new : Trees) → KeepsRows (first ++ second) old new → KeepsRows first old new
kept_front [] second old new same = tt
kept_front (t ∷ first) second old new same = (same.0, kept_front first second old new same.1)

kept_back : (first second : List Table) (old new : Trees) → KeepsRows (first ++ second) old new → KeepsRows second old new
kept_back [] second old new same = same
kept_back (t ∷ first) second old new same = kept_back first second old new same.1

kept_then : (tables : List Table) (a b c : Trees) → KeepsRows tables a b → KeepsRows tables b c → KeepsRows tables a c
kept_then [] a b c one two = tt
kept_then (t ∷ tables) a b c one two = (two.0 ∙ one.0, kept_then tables a b c one.1 two.1)

kept_same : (tables : List Table) (db : Trees) → KeepsRows tables db db
kept_same [] db = tt
kept_same (t ∷ tables) db = (refl, kept_same tables db)

both_empty : (first second : List Table) (db : Trees) → AreEmpty first db → AreEmpty second db → AreEmpty (first ++ second) db
both_empty [] second db one two = two
both_empty (t ∷ first) second db one two = (one.0, both_empty first second db one.1 two)

-- the tables that are added by then
abbrev added_by : Making → ℕ → List Table
added_by making n = take n (tables_from (free_tree making))

-- what was so stays so, if no row changes
module _ (making : Making) (n : ℕ) (was : Trees) (old new : State) (has : HasAdded making n was old) (same : KeepsRows (with_first making n).tables old.now.trees new.now.trees) where
  base_stays : KeepsRows (base_of making).tables was new.now.trees
  base_stays = kept_then (base_of making).tables was old.now.trees new.now.trees has.kept (kept_front (base_of making).tables (added_by making n) old.now.trees new.now.trees same)

  added_stays : AreEmpty (added_by making n) new.now.trees
  added_stays = still_empty (added_by making n) old.now.trees new.now.trees (kept_back (base_of making).tables (added_by making n) old.now.trees new.now.trees same) has.empty

table_adds : (making : Making) (n : ℕ) (table : Table) (was : Trees) (old new : State) → HasAdded making n was old → HasMade (with_first making n) (with_first making (n + 1)) old new
    → added_by making n ++ table ∷ [] ≡ added_by making (n + 1) → next_tree (with_first making n) ≡ table.tree → HasAdded making (n + 1) was new
table_adds making n table was old new has made tables at = record {
  schema = made.schema;
  inside = made.inside;
  kept = base_stays making n was old new has made.others;
  empty = subst (λ ts. AreEmpty ts new.now.trees) tables (one_more (added_by making n) table new.now.trees (added_stays making n was old new has made.others) (ap (λ t. new.now.trees t) (sym at) ∙ made.empty));
}

index_adds : (making : Making) (n : ℕ) (was : Trees) (old new : State) → HasAdded making n was old → HasIndexed (with_first making n) (with_first making (n + 1)) old new → added_by making n ≡ added_by making (n + 1)
    → HasAdded making (n + 1) was new
index_adds making n was old new has made tables = record {
  schema = made.schema;
  inside = made.inside;
  kept = base_stays making n was old new has made.others;
  empty = subst (λ ts. AreEmpty ts new.now.trees) tables (added_stays making n was old new has made.others);
}

by_table : (making : Making) (added : Added) (table : Table) → Adds_table making added (record table { tree = 0 }) → added_by making (place_of added) ++ table ∷ [] ≡ added_by making (place_of added + 1)
    → next_tree (with_first making (place_of added)) ≡ table.tree → (was : Trees) (old new : State) (r : Result ℕ Error) → HasAdded making (place_of added) was old → ExecutesInside 0 (add_text added) [] old new r
    → OnOk r (HasAdded making (place_of added + 1) was new)
by_table making added table it tables at was old new (Err e) has h = tt
by_table making added table it tables at was old new (Ok count) has h =
    table_adds making (place_of added) table was old new has (makes (with_first making (place_of added)) (add_text added) _ (with_first making (place_of added + 1)) it old new (Ok count) has.schema h) tables at

by_index : (making : Making) (added : Added) (place : ℕ) (table : Table) (index : Index) → Adds_index making added place table index → added_by making (place_of added) ≡ added_by making (place_of added + 1)
    → (was : Trees) (old new : State) (r : Result ℕ Error) → HasAdded making (place_of added) was old → ExecutesInside 0 (add_text added) [] old new r → OnOk r (HasAdded making (place_of added + 1) was new)
by_index making added place table index it tables was old new (Err e) has h = tt
by_index making added place table index it tables was old new (Ok count) has h =
    index_adds making (place_of added) was old new has
    (indexes (with_first making (place_of added)) (add_text added) place table index (with_first making (place_of added + 1)) it old new (Ok count) has.schema h) tables

-- each text adds what it is to add
pub adds : (making : Making) (added : Added) (was : Trees) (old new : State) (r : Result ℕ Error) → HasAdded making (place_of added) was old → ExecutesInside 0 (add_text added) [] old new r
    → OnOk r (HasAdded making (place_of added + 1) was new)
adds New Message = by_table New Message (message 9) (message_is New) refl refl
adds TakenOver Message = by_table TakenOver Message (message 13) (message_is TakenOver) refl refl
adds New Queued = by_table New Queued (queued 10) (queued_is New) refl refl
adds TakenOver Queued = by_table TakenOver Queued (queued 14) (queued_is TakenOver) refl refl
adds New Kept = by_table New Kept (kept 12) (kept_is New) refl refl
adds TakenOver Kept = by_table TakenOver Kept (kept 16) (kept_is TakenOver) refl refl
adds making QueuedPub = by_index making QueuedPub _ _ _ (queued_pub_is making) refl
adds making KeptPub = by_index making KeptPub _ _ _ (kept_pub_is making) refl

-- before anything is added
pub none_added : (making : Making) (s : State) → s.now.schema ≡ base_of making → IsTrue s.in_transaction → HasAdded making 0 s.now.trees s
none_added New s schema inside = record { schema = schema; inside = inside; kept = kept_same (base_of New).tables s.now.trees; empty = tt }
none_added TakenOver s schema inside = record { schema = schema; inside = inside; kept = kept_same (base_of TakenOver).tables s.now.trees; empty = tt }

-- what is added to the first tables, with no row, makes a bare store
pub bare : {V : Type 0} (old new : State) (r : Result V Error) → HasTables 5 old → OnOk r (Adds New old new) → OnOk r (IsBare new)
bare old new (Err e) first has = tt
bare old new (Ok v) first has = record {
  schema = has.schema;
  inside = has.inside;
  empty = both_empty (base_of New).tables (tables_from 9) new.now.trees (still_empty (base_of New).tables old.now.trees new.now.trees has.kept first.empty) has.empty;
}

-- if the table or index at a place was added, one more is added than before
pub next_added : (making : Making) (added : Added) (at : ℕ) (was : Trees) (old new : State) → place_of added ≡ at → (HasAdded making (place_of added) was old → HasAdded making (place_of added + 1) was new) → HasAdded making at was old
    → HasAdded making (at + 1) was new
next_added making added at was old new is adds has = subst (λ n. HasAdded making (n + 1) was new) is (adds (subst (λ n. HasAdded making n was old) (sym is) has))
