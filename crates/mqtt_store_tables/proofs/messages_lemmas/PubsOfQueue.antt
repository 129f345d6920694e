-- SELECT pub of a session's queue, from its text on.
use Rattle.std.proofs.Common.{◌≡◌, ℕ, pos, false, List, [], ◌∷◌, filter, map, codes, Ok, Err, Result, IfOk, OnOk, Vec, Global, refl, ap, subst}
use Rattle.std.specs.List.Sorted.{IsPermutation}
use Rattle.std.proofs.lemmas.List.Sorted.{IsPermutation-map}
use Rattle.sqlite_value.specs.declared.value.Value.TheVariants.{Null, Int}
use Rattle.sqlite_value.specs.Order.{Row, column}
use Rattle.sqlite_schema.specs.declared.schema.Schema.{Schema}
use Rattle.sqlite_resolve.specs.Compile.{first}
use Rattle.sqlite.specs.declared.error.Error.{Error}
use Rattle.sqlite.specs.Command.TheVariants.{Select}
use Rattle.sqlite.specs.Term.{Term, col}
use Rattle.sqlite.specs.Listing.{understood, reads_listing}
use Rattle.sqlite.specs.State.{State, IsUnchanged, Shown}
use Rattle.sqlite_tied.specs.Compute.{everything}
use Rattle.sqlite.proofs.Callers.{IsPlain, command_of, reads_as}
use Rattle.mqtt_store_tables.proofs.forms_lemmas.Plain.{IsSelect, ShowsOnly, text_shows}
use Rattle.mqtt_store_tables.specs.declared.schema.tables.Making.{Making}
use Rattle.mqtt_store_tables.specs.declared.schema.tables.Making.TheVariants.{New, TakenOver}
use Rattle.mqtt_store_tables.specs.statements.Layout.{second_layout, schema_of}
use Rattle.mqtt_store_tables.specs.statements.Content.{is_of, IsWhole}
use Rattle.mqtt_store_tables.proofs.statements_lemmas.tables.Commands.{over, program, equals}
use Rattle.mqtt_store_tables.proofs.statements_lemmas.tables.Fresh.{and_true}
use Rattle.mqtt_store_tables.proofs.statements_lemmas.tables.Parts.{passes, shows, answers_over}
use Rattle.mqtt_store_tables.proofs.statements_lemmas.tables.Rows.{filter_alike}
use Rattle.mqtt_store_tables.specs.messages.Places.{queued_tree}
use Rattle.mqtt_store_tables.specs.messages.References.{as_rows, FindsAll}
use Rattle.mqtt_store_tables.proofs.messages_lemmas.Reading.{whole_same}

abbrev pub queue_text : List ℕ
queue_text = codes "SELECT pub FROM queued WHERE birth = ?1"

abbrev tests : List Term
tests = equals 1 0 ∷ []

abbrev project : List Term
project = col 1 3 ∷ []

queue_is_select : IsSelect (first queue_text)
unfolding everything
queue_is_select = (_, refl)

-- whatever the schema, the question for a queue's messages writes nothing
pub queue_shows : (schema : Schema) → ShowsOnly (understood schema queue_text)
queue_shows schema = text_shows schema queue_text queue_is_select

record Asks (making : Making) : Type 0 where
  command : command_of (understood (schema_of (second_layout making)) queue_text) ≡ Select (program (over (queued_tree making) tests project)) (codes "pub" ∷ [])
  plain : IsPlain (understood (schema_of (second_layout making)) queue_text)
  unlisted : reads_listing (schema_of (second_layout making)) queue_text ≡ false

means : (making : Making) → Asks making
unfolding understood everything
means New = record { command = refl; plain = (refl, refl); unlisted = refl }
means TakenOver = record { command = refl; plain = (refl, refl); unlisted = refl }

shown_columns : (params : Row) (rows : List Row) → map (λ r. column r 0) (map (shows params project) rows) ≡ map (λ r. column r 3) rows
shown_columns params [] = refl
shown_columns params (r ∷ rows) = ap (λ rest. column r 3 ∷ rest) (shown_columns params rows)

-- what is shown of a queue is the number in each of its rows
pub queue_shown : (making : Making) (birth : ℕ) (old new : State) → IsWhole (second_layout making) old → (rows : List Row) → Shown queue_text (Int (pos birth) ∷ []) old new rows
    → IsPermutation (map (λ r. column r 3) (filter (is_of 1 (pos birth)) (old.now.trees (queued_tree making)))) (map (λ r. column r 0) rows)
queue_shown making birth old new whole rows shown =
    let params = Int (pos birth) ∷ [] in
    let db = old.now.trees in
    let tree = queued_tree making in
    let it = means making in
    let read = reads_as queue_text params old new (schema_of (second_layout making)) whole.schema (Select (program (over tree tests project)) (codes "pub" ∷ [])) it.command it.plain it.unlisted rows shown in
    let keyed : filter (passes params tests) (db tree) ≡ filter (is_of 1 (pos birth)) (db tree) = filter_alike (passes params tests) (is_of 1 (pos birth)) (db tree) (λ r has. and_true (is_of 1 (pos birth) r)) in
    let answers = subst (λ found. IsPermutation (map (shows params project) found) rows) keyed (answers_over tree tests project db params rows (read.answer Null)) in
    subst (λ found. IsPermutation found (map (λ r. column r 0) rows)) (shown_columns params (filter (is_of 1 (pos birth)) (db tree))) (IsPermutation-map (λ (r : Row). column r 0) (map (shows params project) (filter (is_of 1 (pos birth)) (db tree))) rows answers)

-- the numbers that are read off the answer are those of the queue, and the transaction is as it was
pub finds_all : (making : Making) (birth : ℕ) (old new : State) (rows : List Row) → IsWhole (second_layout making) old → Shown queue_text (Int (pos birth) ∷ []) old new rows → IsUnchanged old new
    → (r : Result (Vec ℕ Global) Error) → IfOk r (λ all. map (λ r. column r 0) rows ≡ as_rows all.items)
    → IfOk r (λ all. FindsAll (queued_tree making) 3 (is_of 1 (pos birth)) all.items old.now.trees) × OnOk r ((new.now ≡ old.now) × IsWhole (second_layout making) new)
finds_all making birth old new rows whole shown same (Ok all) h =
    (subst (IsPermutation (map (λ r. column r 3) (filter (is_of 1 (pos birth)) (old.now.trees (queued_tree making))))) h (queue_shown making birth old new whole rows shown), (same.0.now_is, whole_same (second_layout making) old new same whole))
finds_all making birth old new rows whole shown same (Err e) h = (tt, tt)
