-- What a step writes, applied to what was stored, is what it stores.
use Rattle.std.proofs.Common.{◌≡◌, ℕ, List, [], ◌∷◌, ◌++◌, nat_eq, arith, refl, ap, sym, ◌∙◌, inl, inr}
use Rattle.std.proofs.lemmas.Bool.{cases_Bool}
use Rattle.std.proofs.lemmas.Bool.Decides.{nat_tests}
use Rattle.mqtt_records.specs.declared.state.records.Records.{Records}
use Rattle.mqtt_records.specs.declared.state.change.Change.{Change}
use Rattle.mqtt_records.specs.state.Records.{changed, changed_all}
use Rattle.mqtt_rules.specs.step.State.{Broker, stored}
use Rattle.mqtt_rules.specs.step.Deeds.{Deed, after, after_all, rows_of, rows_of_all, stored_after}
use Rattle.mqtt_rules.specs.step.Step.{stamp_of, stamped, with_moment, rows_written, done}
use Rattle.mqtt_rules.proofs.step_lemmas.numbers.Counters.{moment_stays, now_stays}

-- one list of rows, then another
pub changed_all_append : (rows more : List Change) (r : Records) → changed_all (rows ++ more) r ≡ changed_all more (changed_all rows r)
changed_all_append [] more r = refl
changed_all_append (row ∷ rows) more r = changed_all_append rows more (changed row r)

-- the rows of deeds, one after the other, do what the deeds do
pub stored_after_all : (ds : List Deed) (b : Broker) → changed_all (rows_of_all ds b.records) b.records ≡ stored (after_all ds b)
stored_after_all [] b = refl
stored_after_all (d ∷ ds) b =
    changed_all_append (rows_of d b.records) (rows_of_all ds (stored_after d b.records)) b.records ∙ stored_after_all ds (after d b)

abbrev with_now : ℕ → Records → Records
with_now now r = record r { moment = now }

-- the moment's row, or none if that moment is stored, stores the moment
stamp_stores : (now was : ℕ) (r : Records) → r.moment ≡ was → changed_all (stamp_of now was) r ≡ with_now now r
stamp_stores now was r is = elim (cases_Bool (nat_eq now was)) [
  | inl same ↦ let at : now ≡ was = grind (arith, nat_tests) in rw same (ap (λ m. with_now m r) (is ∙ sym at))
  | inr other ↦ rw other refl
]

stamped_stores : (rows : List Change) (now was : ℕ) (r : Records) (c : Broker) → changed_all rows r ≡ stored c → now ≡ c.now → c.records.moment ≡ was → changed_all (stamped now was rows) r ≡ stored (with_moment rows c)
stamped_stores [] now was r c same times is = same
stamped_stores (row ∷ rows) now was r c same times is =
    changed_all_append (row ∷ rows) (stamp_of now was) r ∙ ap (changed_all (stamp_of now was)) same
    ∙ stamp_stores now was c.records is ∙ ap (λ m. with_now m c.records) times

-- the rows of deeds make of what is stored what the deeds make of the state
pub rows_store : (ds : List Deed) (b : Broker) → changed_all (rows_written ds b) (stored b) ≡ stored (done ds b)
rows_store ds b =
    stamped_stores (rows_of_all ds b.records) b.now b.records.moment b.records (after_all ds b) (stored_after_all ds b) (sym (now_stays ds b)) (moment_stays ds b)

-- a deed without a row changes nothing that is stored
pub without_row : (d : Deed) (b : Broker) → rows_of d (stored b) ≡ [] → stored (after d b) ≡ stored b
without_row d b none = ap (λ rows. changed_all rows b.records) none
