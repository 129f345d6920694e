-- The DELETEs of a copy and of a retained message, from their texts on.
use Rattle.std.proofs.Common.{◌≡◌, ℕ, ℤ, Bool, true, false, ◌&&◌, List, [], ◌∷◌, codes, Result, OnOk, refl}
use Rattle.sqlite_value.specs.declared.value.Value.TheVariants.{Int}
use Rattle.sqlite.specs.Command.TheVariants.{Delete}
use Rattle.sqlite.specs.Term.{Term}
use Rattle.sqlite.specs.declared.error.Error.{Error}
use Rattle.sqlite.specs.Listing.{understood}
use Rattle.sqlite.specs.State.{State, ExecutesInside}
use Rattle.sqlite_tied.specs.Compute.{everything}
use Rattle.sqlite.proofs.Callers.{IsPlain, command_of}
use Rattle.mqtt_store_tables.specs.schema.Tables.{queued, kept}
use Rattle.mqtt_store_tables.specs.declared.schema.tables.Making.{Making}
use Rattle.mqtt_store_tables.specs.declared.schema.tables.Making.TheVariants.{New, TakenOver}
use Rattle.mqtt_store_tables.specs.statements.Layout.{second_layout, schema_of}
use Rattle.mqtt_store_tables.specs.statements.Content.{is_of, IsWhole}
use Rattle.mqtt_store_tables.specs.statements.Removal.{is_keyed, RemovesFrom}
use Rattle.mqtt_store_tables.proofs.statements_lemmas.tables.Commands.{over, program, equals}
use Rattle.mqtt_store_tables.proofs.statements_lemmas.tables.Fresh.{and_true}
use Rattle.mqtt_store_tables.proofs.statements_lemmas.deletes.Removal.{numbers, deletes}
use Rattle.mqtt_store_tables.specs.messages.Places.{queued_tree, kept_tree}
use Rattle.mqtt_store_tables.proofs.messages_lemmas.Behind.{asked, queued_at, queued_is, queued_shaped, queued_childless, kept_at, kept_is, kept_shaped, kept_childless}

abbrev pub remove_queued_text : List ℕ
remove_queued_text = codes "DELETE FROM queued WHERE birth = ?1 AND place = ?2"

abbrev pub remove_kept_text : List ℕ
remove_kept_text = codes "DELETE FROM kept WHERE place = ?1"

-- the row of the session and of the place
abbrev pub by_both : List Term
by_both = equals 1 0 ∷ equals 2 1 ∷ []

-- the row of the place
abbrev pub by_number : List Term
by_number = equals 0 0 ∷ []

abbrev Deletes : Making → List ℕ → ℕ → ℕ → List Term → Type 0
Deletes making text at tree tests = (command_of (understood (schema_of (second_layout making)) text) ≡ Delete at (program (over tree tests numbers))) × IsPlain (understood (schema_of (second_layout making)) text)

queued_means : (making : Making) → Deletes making remove_queued_text (queued_at making) (queued_tree making) by_both
unfolding understood everything
queued_means New = (refl, (refl, refl))
queued_means TakenOver = (refl, (refl, refl))

kept_means : (making : Making) → Deletes making remove_kept_text (kept_at making) (kept_tree making) by_number
unfolding understood everything
kept_means New = (refl, (refl, refl))
kept_means TakenOver = (refl, (refl, refl))

-- and true behind two tests changes nothing
pub both_true : (b c : Bool) → (b && (c && true)) ≡ (b && c)
both_true true c = and_true c
both_true false c = refl

-- the DELETE of a copy takes out the row of that session and place, and leaves the transaction whole
pub removes_queued : (making : Making) (birth n : ℤ) (old new : State) (r : Result ℕ Error) → IsWhole (second_layout making) old → ExecutesInside 0 remove_queued_text (Int birth ∷ Int n ∷ []) old new r
    → OnOk r (RemovesFrom (second_layout making) (queued_tree making) (is_keyed birth n) old.now.trees new.now.trees) × OnOk r (IsWhole (second_layout making) new)
removes_queued making birth n old new r whole h =
    deletes (second_layout making) (asked making) remove_queued_text (queued_at making) (queued (queued_tree making)) by_both (Int birth ∷ Int n ∷ []) (queued_means making).0 (queued_means making).1 (queued_is making)
    (queued_childless making) (is_keyed birth n) (λ r. both_true (is_of 1 birth r) (is_of 2 n r)) old new r whole (queued_shaped making old whole) h

-- the DELETE of a retained message takes out the row at that place, and leaves the transaction whole
pub removes_kept : (making : Making) (place : ℤ) (old new : State) (r : Result ℕ Error) → IsWhole (second_layout making) old → ExecutesInside 0 remove_kept_text (Int place ∷ []) old new r
    → OnOk r (RemovesFrom (second_layout making) (kept_tree making) (is_of 0 place) old.now.trees new.now.trees) × OnOk r (IsWhole (second_layout making) new)
removes_kept making place old new r whole h =
    deletes (second_layout making) (asked making) remove_kept_text (kept_at making) (kept (kept_tree making)) by_number (Int place ∷ []) (kept_means making).0 (kept_means making).1 (kept_is making)
    (kept_childless making) (is_of 0 place) (λ r. and_true (is_of 0 place r)) old new r whole (kept_shaped making old whole) h
