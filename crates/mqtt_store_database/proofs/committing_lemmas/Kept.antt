-- What the changes of a step make of the rows of records, and that what they set stands.
use Rattle.std.proofs.Common.{List, [], ◌∷◌, sym, subst}
use Rattle.sqlite_trees.specs.Tree.{Trees}
use Rattle.mqtt_records.specs.declared.state.change.Change.{Change}
use Rattle.mqtt_records.specs.declared.state.records.Records.{Records}
use Rattle.mqtt_records.specs.state.Records.{changed, changed_all, FitAll}
use Rattle.mqtt_records.specs.state.Contents.{FitContents}
use Rattle.mqtt_store_tables.specs.declared.schema.tables.Making.{Making}
use Rattle.mqtt_store_database.specs.item_laws.Written.{AllSayable}
use Rattle.mqtt_store_database.specs.written.Shortened.{shortened}
use Rattle.mqtt_store_database.proofs.written_lemmas.Shortened.{shortened_same, shortened_fit, shortened_sayable}
use Rattle.mqtt_store_database.specs.row_laws.Written.{KeepsRowsTwo, AreInOrderTwo}
use Rattle.mqtt_store_database.proofs.row_laws_lemmas.changes.Tables.{does_keep, asks_stand}
use Rattle.mqtt_store_database.specs.committing.Making.{MakeAll, NeedAll}
use Rattle.mqtt_store_database.proofs.committing_lemmas.Contents.{shortened_agree}

module _ (making : Making) where
  -- if the tables have rows of records, all changes that fit leave those of the changed records
  pub makes_keep : (changes : List Change) (db next : Trees) (r : Records) → KeepsRowsTwo making db r → AreInOrderTwo making db → FitAll changes r → FitContents changes r → AllSayable changes → MakeAll making changes db next
      → KeepsRowsTwo making next (changed_all changes r) × AreInOrderTwo making next
  makes_keep [] db next r k o fits agrees says same = (subst (λ (t : Trees). KeepsRowsTwo making t r) (sym same) k, subst (AreInOrderTwo making) (sym same) o)
  makes_keep (c ∷ cs) db next r k o fits agrees says made =
      let one = made.1 in
      let it = does_keep making c one.0 db made.0 r k o fits.0 agrees.0 says.0 one.1 one.2 in
      makes_keep cs made.0 next (changed c r) it.0 it.1 fits.1 agrees.1 says.1 made.2

  -- what they set stands
  needs_met : (changes : List Change) (db : Trees) (r : Records) → KeepsRowsTwo making db r → AreInOrderTwo making db → FitAll changes r → FitContents changes r → AllSayable changes → NeedAll making changes db
  needs_met [] db r k o fits agrees says = tt
  needs_met (c ∷ cs) db r k o fits agrees says = (
    λ it is. asks_stand making db r k c it fits.0 is,
    λ mid one.
        let next = does_keep making c one.0 db mid r k o fits.0 agrees.0 says.0 one.1 one.2 in
        needs_met cs mid (changed c r) next.0 next.1 fits.1 agrees.1 says.1,
  )

  -- ---- without the copies that go with their session

  module _ (changes : List Change) (db : Trees) (r : Records) (k : KeepsRowsTwo making db r) (o : AreInOrderTwo making db) (fits : FitAll changes r) (agrees : FitContents changes r) (says : AllSayable changes) where
    -- what a step sets stands when it is written
    pub step_needs : NeedAll making (shortened changes) db
    step_needs = needs_met (shortened changes) db r k o (shortened_fit changes r fits) (shortened_agree changes r agrees) (shortened_sayable changes says)

    -- what a step writes makes the rows those of the records after all its changes
    pub step_keeps : (next : Trees) → MakeAll making (shortened changes) db next → KeepsRowsTwo making next (changed_all changes r) × AreInOrderTwo making next
    step_keeps next made =
        let it = makes_keep (shortened changes) db next r k o (shortened_fit changes r fits) (shortened_agree changes r agrees) (shortened_sayable changes says) made in
        (subst (KeepsRowsTwo making next) (shortened_same changes r) it.0, it.1)
