-- Whether a table has a row, as its listing tells; and what a call leaves that only reads.
use Rattle.std.proofs.Common.{◌≡◌, ◌≢◌, ℕ, Bool, true, false, List, [], length, refl, sym, ◌∙◌, arith, IsTrue, MatchBool, ◌==◌}
use Rattle.std.proofs.lemmas.Bool.{eqb-true, eqb-false}
use Rattle.std.proofs.lemmas.List.{length-map, nil_from_length}
use Rattle.std.proofs.lemmas.List.Sorted.{length_permutation}
use Rattle.sqlite_value.specs.Order.{Row}
use Rattle.sqlite_trees.specs.Tree.{Trees}
use Rattle.sqlite.specs.State.{State, HasCleanDisk}
use Rattle.mqtt_store_tables.specs.forms.Settled.{IsSettled, OnlyReads}
use Rattle.mqtt_store_tables.specs.declared.schema.tables.Making.TheVariants.{TakenOver}
use Rattle.mqtt_store_database.specs.asking.Listing.{shown_at, IsListingOf}
use Rattle.mqtt_store_database.specs.row_laws.Written.{HasNoOldRows}

-- a table has no row exactly if its listing has none
pub vacant_is : (columns key : List ℕ) (stored rows : List Row) (n : ℕ) (b : Bool) → n ≡ length rows → IsListingOf columns key stored rows → b ≡ (n == 0) → MatchBool b (stored ≡ []) (stored ≢ [])
vacant_is columns key stored rows n true long h is =
    let same = length_permutation _ _ h.each in
    let shown = length-map stored (shown_at columns) in
    let none = eqb-true n 0 (sym is) in
    nil_from_length stored (omega (arith, same, shown, none, long))
vacant_is columns key stored rows n false long h is = λ empty.
    let same = length_permutation _ _ h.each in
    let shown = length-map stored (shown_at columns) in
    let zero : length stored ≡ 0 = rw empty refl in
    let none : n ≡ 0 = omega (arith, same, shown, zero, long) in
    eqb-false n 0 (sym is) none

-- no copies stand, and retained messages may
pub vacant_then : (retained : Bool) (db : Trees) → db 9 ≡ [] → MatchBool retained (db 11 ≡ []) (db 11 ≢ []) → MatchBool retained (HasNoOldRows TakenOver db) (¬ HasNoOldRows TakenOver db)
vacant_then true db none h = (none, h)
vacant_then false db none h = λ both. h both.1

-- a call that only reads leaves the database as it was, and settled, if it is open still
pub still : (old mid : State) → OnlyReads old mid → HasCleanDisk mid → IsTrue mid.is_open → IsSettled old → (mid.now ≡ old.now) × IsSettled mid
still old mid reads clean up settled =
    let same = (reads.stays clean).same up settled in
    (same.0, record { committed = same.1 ∙ (settled.committed ∙ sym same.0); autocommit = reads.mode settled.autocommit })
