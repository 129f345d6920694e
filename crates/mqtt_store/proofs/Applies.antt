-- What changes leave, if all are made and if none is.
use Rattle.std.proofs.Common.{◌≡◌, ◌⊎◌, List, false, IsTrue, refl, sym, ap, subst, ◌∙◌, inl, inr, arith}
use Rattle.sqlite_catalog.specs.Listing.{Lists}
use Rattle.sqlite_trees.specs.Objects.{catalog_tree}
use Rattle.sqlite_trees.specs.Tree.{Trees}
use Rattle.sqlite_schema.specs.declared.schema.Schema.{Schema}
use Rattle.sqlite_schema.specs.Rules.{Obeys}
use Rattle.sqlite.specs.Effect.{Database}
use Rattle.sqlite.specs.State.{State, HasCleanDisk, Survives, IsLive, IsUnchanged}
use Rattle.mqtt_records.specs.declared.state.records.Records.{Records}
use Rattle.mqtt_records.specs.declared.state.change.Change.{Change}
use Rattle.mqtt_records.specs.state.Contents.{FitContents}
use Rattle.mqtt_records.specs.state.Records.{changed_all, FitAll}
use Rattle.mqtt_store_tables.specs.schema.Tables.{second_schema}
use Rattle.mqtt_store_tables.specs.declared.schema.tables.Making.{Making}
use Rattle.mqtt_store_tables.specs.declared.schema.tables.Making.TheVariants.{New}
use Rattle.mqtt_store_database.specs.item_laws.Written.{AllSayable}
use Rattle.mqtt_store_database.specs.written.Shortened.{shortened}
use Rattle.mqtt_store_database.specs.row_laws.Written.{KeepsRowsTwo, AreInOrderTwo}
use Rattle.mqtt_store_database.specs.committing.Making.{MakeAll, NeedAll, MayCommit}
use Rattle.mqtt_store_database.specs.committing.Settled.{IsSettled}
use Rattle.mqtt_store_database.proofs.committing_lemmas.Kept.{step_needs, step_keeps}
use Rattle.mqtt_store_database.proofs.committing_lemmas.Catalog.{steps_keep}
use Rattle.mqtt_store_database.specs.loading.Keeping.{AreOrdered, Saves}
use Rattle.mqtt_store_database.specs.loading.Loading.{HasKept}
use Rattle.mqtt_store_database.proofs.loading_lemmas.One.{second_keeps}
use Rattle.mqtt_store_database.proofs.loading_lemmas.Order.{shaped_in, second_order, behind, laid_out}
use Rattle.mqtt_store.specs.Holding.{Holds, IsReady, OnlySteps}

-- ---- a connection between two steps

-- a connection to which changes can be applied, with its rows in order, is between two steps
pub settled_of : (s : State) (h : IsReady s) → AreOrdered s.now → IsLive s → IsSettled h.making s
settled_of s h ordered live =
    let all = shaped_in (second_schema h.making) s.now h.schema ordered in
    let order = second_order h.making s.now.trees all in
    let is = h.schema ∙ laid_out h.making in
    record {
      schema = is;
      meta = order.meta;
      session = order.session;
      will = order.will;
      sub = order.sub;
      inbound = order.inbound;
      behind = behind h.making s.now.trees all;
      obeys = subst (λ (t : Schema). Obeys t s.now.trees) is (live h.is_open).0.obeys;
      same = h.settled.committed;
      is_open = h.is_open;
    }

-- to a connection between two steps, in no transaction, changes can be applied
pub ready_of : (making : Making) (s : State) → IsSettled making s → s.in_transaction ≡ false → IsReady s
ready_of making s h autocommit =
    record { is_open = h.is_open; settled = record { committed = h.same; autocommit = autocommit }; making = making; schema = h.schema ∙ sym (laid_out making) }

-- if a connection didn't change, changes can be applied to it as before
pub ready_still : (mid new : State) → IsReady mid → IsUnchanged mid new → IsReady new
ready_still mid new h same = record {
  is_open = same.0.is_open;
  settled = record { committed = same.0.committed_is ∙ (h.settled.committed ∙ sym same.0.now_is); autocommit = same.0.mode ∙ h.settled.autocommit };
  making = h.making;
  schema = ap (λ (d : Database). d.schema) same.0.now_is ∙ h.schema;
}

-- ---- a step of changes

module _ (old : State) (changes : List Change) (r : Records) (ready : HasCleanDisk old → IsReady old) (ordered : HasCleanDisk old → AreOrdered old.now) (live : IsLive old) (holds : Holds old r) where
  -- the tables have the rows of the records that the store holds
  pub keeps_old : (clean : HasCleanDisk old) → KeepsRowsTwo (ready clean).making old.now.trees r
  keeps_old clean = let h = ready clean in second_keeps h.making old.now r h.schema ((holds clean).keeps h.is_open)

  order_old : (clean : HasCleanDisk old) → AreInOrderTwo (ready clean).making old.now.trees
  order_old clean = let h = ready clean in second_order h.making old.now.trees (shaped_in (second_schema h.making) old.now h.schema (ordered clean))

  -- and the catalog lists these tables
  pub lists_old : (clean : HasCleanDisk old) → Lists (old.now.trees catalog_tree) (second_schema (ready clean).making)
  lists_old clean = let h = ready clean in subst (Lists (old.now.trees catalog_tree)) h.schema (live h.is_open).0.lists

  -- one that shows the database as before keeps the records as before
  pub kept_same : (clean : HasCleanDisk old) (new : State) → IsReady new → new.now ≡ old.now → HasKept new r
  kept_same clean new now same =
      let h = ready clean in
      let schema = ap (λ (d : Database). d.schema) same ∙ h.schema in
      record {
        is_open = now.is_open;
        settled = now.settled;
        making = h.making;
        schema = schema;
        lists = subst (Lists (new.now.trees catalog_tree)) (sym schema) (subst (λ (d : Database). Lists (d.trees catalog_tree) (second_schema h.making)) (sym same) (lists_old clean));
        keeps = subst (λ (d : Database). KeepsRowsTwo h.making d.trees r) (sym same) (keeps_old clean);
      }

  module _ (fit : FitAll changes r) (agree : FitContents changes r) (say : AllSayable changes) where
    -- the rows that the written changes ask for stand before them
    pub needs_old : (clean : HasCleanDisk old) → NeedAll (ready clean).making (shortened changes) old.now.trees
    needs_old clean = step_needs (ready clean).making changes old.now.trees r (keeps_old clean) (order_old clean) fit agree say

    -- the changes that are written leave the rows of the changed records
    pub keeps_made : (clean : HasCleanDisk old) (db : Trees) → MakeAll (ready clean).making (shortened changes) old.now.trees db → KeepsRowsTwo (ready clean).making db (changed_all changes r)
    keeps_made clean db made = (step_keeps (ready clean).making changes old.now.trees r (keeps_old clean) (order_old clean) fit agree say db made).0

    -- and the list of tables
    pub lists_made : (clean : HasCleanDisk old) (db : Trees) → MakeAll (ready clean).making (shortened changes) old.now.trees db → Lists (db catalog_tree) (second_schema (ready clean).making)
    lists_made clean db made =
        let making = (ready clean).making in
        subst (λ l. Lists l (second_schema making)) (sym (steps_keep making (shortened changes) old.now.trees db made)) (lists_old clean)

    saves_made : (clean : HasCleanDisk old) (db : Trees) → MakeAll (ready clean).making (shortened changes) old.now.trees db → Saves db (changed_all changes r)
    saves_made clean db made = record { schema = second_schema (ready clean).making; lists = lists_made clean db made; keeps = inr (inl ((ready clean).making, refl, keeps_made clean db made)) }

    -- a connection that is between two steps after the changes keeps the changed records
    pub kept_made : (clean : HasCleanDisk old) (new : State) → IsSettled (ready clean).making new → new.in_transaction ≡ false → MakeAll (ready clean).making (shortened changes) old.now.trees new.now.trees → HasKept new (changed_all changes r)
    kept_made clean new settled autocommit made =
        let making = (ready clean).making in
        let schema = settled.schema ∙ sym (laid_out making) in
        record {
          is_open = settled.is_open;
          settled = record { committed = settled.same; autocommit = autocommit };
          making = making;
          schema = schema;
          lists = subst (Lists (new.now.trees catalog_tree)) (sym schema) (lists_made clean new.now.trees made);
          keeps = keeps_made clean new.now.trees made;
        }

    -- if it is open after the step, nothing is changed or all is made
    abbrev pub IsEither : HasCleanDisk old → State → Type 0
    IsEither clean new =
        (new.now ≡ old.now)
        ⊎ ((new.now.schema ≡ second_schema (ready clean).making)
        × (NeedAll (ready clean).making (shortened changes) old.now.trees → MakeAll (ready clean).making (shortened changes) old.now.trees new.now.trees))

    -- a step that changes nothing or makes all that is written is one from the records to the changed ones
    pub only_steps : (new : State) → ((making : Making) → Survives old new (MayCommit making old (shortened changes))) → ((clean : HasCleanDisk old) → HasCleanDisk new → IsTrue new.is_open → IsEither clean new) → OnlySteps old new (changed_all changes r)
    only_steps new it either =
        let one = it New in
        let less = one.clean in
        let before = λ (now : HasCleanDisk new). let was : HasCleanDisk old = omega (arith, less, now) in was in
        record {
          survives = record {
            clean = one.clean;
            counts = one.counts;
            limit = one.limit;
            closes = one.closes;
            shield = one.shield;
            crash = λ now db may.
                let clean = before now in
                elim ((it (ready clean).making).crash now db may) [
                  | inl first ↦ inl first
                  | inr made ↦ inr (saves_made clean db (made (settled_of old (ready clean) (ordered clean) live) (needs_old clean)))
                ];
          };
          left = λ now up.
              let clean = before now in (
                (ready clean).is_open,
                elim (either clean now up) [
                  | inl same ↦ inl same
                  | inr made ↦ inr (inr (inl ((ready clean).making, made.0, keeps_made clean new.now.trees (made.1 (needs_old clean)))))
                ],
              );
        }
