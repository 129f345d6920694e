-- SELECT pub, from its texts on.
use Rattle.std.proofs.Common.{◌≡◌, ℕ, pos, false, List, [], ◌∷◌, codes, refl}
use Rattle.sqlite_value.specs.declared.value.Value.TheVariants.{Int}
use Rattle.sqlite_value.specs.Order.{Row}
use Rattle.sqlite_trees.specs.Tree.{rowid}
use Rattle.sqlite_schema.specs.declared.schema.Schema.{Schema}
use Rattle.sqlite_resolve.specs.Compile.{first}
use Rattle.sqlite_rules.proofs.ListLemmas.{all_has}
use Rattle.sqlite_rules.proofs.PlaceLemmas.{tied_same}
use Rattle.sqlite.specs.Command.TheVariants.{Select}
use Rattle.sqlite.specs.Term.{Term, col}
use Rattle.sqlite.specs.Listing.{understood, reads_listing}
use Rattle.sqlite.specs.State.{State, Shown}
use Rattle.sqlite_tied.specs.Compute.{everything}
use Rattle.sqlite.proofs.Callers.{IsPlain, command_of}
use Rattle.mqtt_store_tables.proofs.forms_lemmas.Plain.{IsSelect, ShowsOnly, text_shows}
use Rattle.mqtt_store_tables.specs.declared.schema.tables.Making.{Making}
use Rattle.mqtt_store_tables.specs.declared.schema.tables.Making.TheVariants.{New, TakenOver}
use Rattle.mqtt_store_tables.specs.statements.Layout.{second_layout, schema_of}
use Rattle.mqtt_store_tables.specs.statements.Content.{is_of, IsWhole}
use Rattle.mqtt_store_tables.specs.statements.Removal.{is_keyed}
use Rattle.mqtt_store_tables.proofs.statements_lemmas.tables.Commands.{over, program}
use Rattle.mqtt_store_tables.proofs.statements_lemmas.tables.Fresh.{and_true}
use Rattle.mqtt_store_tables.proofs.statements_lemmas.deletes.RemovesSession.{tied_ids}
use Rattle.mqtt_store_tables.specs.messages.Places.{queued_tree, kept_tree}
use Rattle.mqtt_store_tables.proofs.messages_lemmas.Behind.{queued_shaped, kept_shaped}
use Rattle.mqtt_store_tables.proofs.messages_lemmas.Deletes.{by_both, by_number, both_true}
use Rattle.mqtt_store_tables.proofs.messages_lemmas.Reading.{Told, tells}
use Rattle.mqtt_store_tables.proofs.messages_lemmas.SetQueued.{one_queued}

abbrev pub queued_text : List ℕ
queued_text = codes "SELECT pub FROM queued WHERE birth = ?1 AND place = ?2"

abbrev pub kept_text : List ℕ
kept_text = codes "SELECT pub FROM kept WHERE place = ?1"

abbrev pub pub_names : List (List ℕ)
pub_names = codes "pub" ∷ []

queued_is_select : IsSelect (first queued_text)
unfolding everything
queued_is_select = (_, refl)

kept_is_select : IsSelect (first kept_text)
unfolding everything
kept_is_select = (_, refl)

-- whatever the schema, the question for a copy's message writes nothing
pub queued_shows : (schema : Schema) → ShowsOnly (understood schema queued_text)
queued_shows schema = text_shows schema queued_text queued_is_select

-- nor does that for a retained message's
pub kept_shows : (schema : Schema) → ShowsOnly (understood schema kept_text)
kept_shows schema = text_shows schema kept_text kept_is_select

-- the text means the query of that column, and is plain
record Asks (making : Making) (text : List ℕ) (tree at : ℕ) (tests : List Term) : Type 0 where
  command : command_of (understood (schema_of (second_layout making)) text) ≡ Select (program (over tree tests (col 1 at ∷ []))) pub_names
  plain : IsPlain (understood (schema_of (second_layout making)) text)
  unlisted : reads_listing (schema_of (second_layout making)) text ≡ false

queued_means : (making : Making) → Asks making queued_text (queued_tree making) 3 by_both
unfolding understood everything
queued_means New = record { command = refl; plain = (refl, refl); unlisted = refl }
queued_means TakenOver = record { command = refl; plain = (refl, refl); unlisted = refl }

kept_means : (making : Making) → Asks making kept_text (kept_tree making) 4 by_number
unfolding understood everything
kept_means New = record { command = refl; plain = (refl, refl); unlisted = refl }
kept_means TakenOver = record { command = refl; plain = (refl, refl); unlisted = refl }

-- the question for a copy's message is told the number in its row
pub queued_told : (making : Making) (birth place : ℕ) (old new : State) → IsWhole (second_layout making) old → (rows : List Row) → Shown queued_text (Int (pos birth) ∷ Int (pos place) ∷ []) old new rows → Told (queued_tree making) 3 (is_keyed (pos birth) (pos place)) old.now.trees rows
queued_told making birth place old new whole rows shown =
    let shaped = queued_shaped making old whole in
    tells (second_layout making) queued_text (queued_tree making) 3 by_both pub_names (Int (pos birth) ∷ Int (pos place) ∷ []) (is_keyed (pos birth) (pos place)) (λ r. both_true (is_of 1 (pos birth) r) (is_of 2 (pos place) r))
    (queued_means making).command (queued_means making).plain (queued_means making).unlisted old new whole shaped
    (λ r x hr hx pr px. one_queued making old.now.trees birth place r x whole.obeys shaped hr hx pr px) rows shown

-- the question for a retained message's message is told the number in its row
pub kept_told : (making : Making) (place : ℕ) (old new : State) → IsWhole (second_layout making) old → (rows : List Row) → Shown kept_text (Int (pos place) ∷ []) old new rows → Told (kept_tree making) 4 (is_of 0 (pos place)) old.now.trees rows
kept_told making place old new whole rows shown =
    let shaped = kept_shaped making old whole in
    let db = old.now.trees in
    let tree = kept_tree making in
    tells (second_layout making) kept_text tree 4 by_number pub_names (Int (pos place) ∷ []) (is_of 0 (pos place)) (λ r. and_true (is_of 0 (pos place) r))
    (kept_means making).command (kept_means making).plain (kept_means making).unlisted old new whole shaped
    (λ r x hr hx pr px. tied_same (db tree) r x shaped.up hr hx (tied_ids (rowid r) (rowid x) (pos place) (all_has _ (db tree) r shaped.ints hr) (all_has _ (db tree) x shaped.ints hx) pr px)) rows shown
