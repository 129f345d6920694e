-- What a transaction that migrates begins with, and what it commits.
use Rattle.std.proofs.Common.{◌≡◌, true, false, Result, OnErr, IfErr, refl, sym, subst, ◌∙◌, IsTrue}
use Rattle.std.specs.List.{AllByRecursion}
use Rattle.std.proofs.lemmas.Result.{on_err_weaker}
use Rattle.sqlite_schema.specs.Rules.{Obeys}
use Rattle.sqlite.specs.Effect.{Database}
use Rattle.sqlite_catalog.specs.Listing.{Lists}
use Rattle.sqlite_trees.specs.Objects.{catalog_tree}
use Rattle.sqlite_trees.specs.Tree.{Trees}
use Rattle.sqlite.specs.State.{State, KeepsCommit, Shows, Survives}
use Rattle.sqlite.specs.Steps.{FailsToCommit}
use Rattle.sqlite.specs.declared.error.Error.{Error}
use Rattle.mqtt_records.specs.declared.state.records.Records.{Records}
use Rattle.mqtt_store_tables.specs.forms.Tables.{keep_schema}
use Rattle.mqtt_store_tables.proofs.forms_lemmas.Kept.{commit_err}
use Rattle.mqtt_store_tables.specs.schema.Tables.{second_schema}
use Rattle.mqtt_store_tables.specs.declared.schema.tables.Making.TheVariants.{TakenOver}
use Rattle.mqtt_store_tables.specs.statements.Content.{AreShaped, IsShapedAt, IsWhole, IsSettled as IsSettledFirst}
use Rattle.mqtt_store_tables.specs.statements.Layout.{first_layout, schema_of}
use Rattle.mqtt_store_database.specs.row_laws.Written.{KeepsRowsTwo}
use Rattle.mqtt_store_database.specs.committing.Settled.{IsSettled}
use Rattle.mqtt_store_database.specs.taking_over.Migration.{Migrates, MayMigrate, MayCommit}
use Rattle.mqtt_store_database.proofs.taking_over_lemmas.tables.Emptied.{second}

-- a transaction that has begun is whole over the tables of schema 1
pub begun_whole : (old begun : State) → IsSettledFirst old → begun ≡ record old { in_transaction = true } → IsWhole first_layout begun
begun_whole old begun h same =
    rw same
    (record {
      schema = h.schema;
      inside = refl;
      meta = h.meta;
      session = h.shaped.session;
      will = h.shaped.will;
      sub = h.shaped.sub;
      inbound = h.shaped.inbound;
      behind = (h.shaped.copy, (h.retained, tt));
      obeys = h.obeys;
    })

-- what is said of a crash in it is said from before it on
pub begun_survives : (old begun tx : State) (Commits : Trees → Type 0) → begun ≡ record old { in_transaction = true } → Survives begun tx Commits → Survives old tx Commits
begun_survives old begun tx Commits same h =
    let it = rw same at h in
    record { clean = it.clean; shield = it.shield; counts = it.counts; limit = it.limit; closes = it.closes; crash = it.crash }

-- what it leaves at its end is what the database becomes
pub migrates : (r : Records) (old tx : State) → MayMigrate r old → KeepsRowsTwo TakenOver tx.now.trees r → Lists (tx.now.trees catalog_tree) (second_schema TakenOver) → IsWhole second tx → Migrates r old.now tx.now
migrates r old tx may keeps lists whole =
    record { first = may.settled.schema; kept = may.keeps; second = whole.schema; lists = subst (Lists (tx.now.trees catalog_tree)) (sym whole.schema) lists; keeps = keeps }

-- so is what it commits
pub commits : (r : Records) (old tx : State) (db : Trees) → KeepsRowsTwo TakenOver tx.now.trees r → Lists (tx.now.trees catalog_tree) (second_schema TakenOver) → db ≡ tx.now.trees → MayCommit r old db
commits r old tx db keeps lists is may = rw is (record { first = may.settled.schema; kept = may.keeps; second = refl; lists = lists; keeps = keeps })

-- what it commits is settled
pub settles : (tx new : State) → IsWhole second tx → Shows tx new tx.now tx.now false → IsSettled TakenOver new
settles tx new whole shows =
    let e : tx.now ≡ new.now = sym shows.now_is in
    record {
      schema = subst (λ (d : Database). d.schema ≡ schema_of second) e whole.schema;
      meta = subst (λ (d : Database). IsShapedAt d.trees 0) e whole.meta;
      session = subst (λ (d : Database). IsShapedAt d.trees 2) e whole.session;
      will = subst (λ (d : Database). IsShapedAt d.trees 4) e whole.will;
      sub = subst (λ (d : Database). IsShapedAt d.trees 5) e whole.sub;
      inbound = subst (λ (d : Database). IsShapedAt d.trees 7) e whole.inbound;
      behind = subst (λ (d : Database). AllByRecursion (λ t. IsShapedAt d.trees t.tree) second.tables) e whole.behind;
      obeys = subst (λ (d : Database). Obeys (schema_of second) d.trees) e whole.obeys;
      same = shows.committed_is ∙ e;
      is_open = shows.is_open;
    }

-- ---- a commit that fails

-- what is as it was committed before is settled again
settled_again : (old new : State) → IsSettledFirst old → (new.now ≡ old.committed) × (new.committed ≡ old.committed) → IsTrue new.is_open → (new.now ≡ old.now) × IsSettledFirst new
settled_again old new h undone up =
    let same : new.now ≡ old.now = undone.0 ∙ h.same in
    let e : old.now ≡ new.now = sym same in (
      same,
      record {
        schema = subst (λ (d : Database). d.schema ≡ keep_schema) e h.schema;
        shaped = subst (λ (d : Database). AreShaped d.trees) e h.shaped;
        meta = subst (λ (d : Database). IsShapedAt d.trees 0) e h.meta;
        retained = subst (λ (d : Database). IsShapedAt d.trees 11) e h.retained;
        obeys = subst (λ (d : Database). Obeys keep_schema d.trees) e h.obeys;
        same = undone.1 ∙ sym undone.0;
        is_open = up;
      },
    )

-- a commit that fails leaves the database as it was
pub undone : (old begun tx new : State) (result : Result (Unit {0}) Error) → IsSettledFirst old → begun ≡ record old { in_transaction = true } → KeepsCommit begun tx → IsTrue tx.in_transaction → IfErr result (FailsToCommit tx new)
    → IsTrue new.is_open → OnErr result ((new.now ≡ old.now) × IsSettledFirst new)
undone old begun tx new result h same kept inside fails up =
    let stays = rw same at kept in
    on_err_weaker result (λ was. settled_again old new h was up) (commit_err old tx new result (λ up. stays.committed up) inside fails up)
