-- A statement on one table leaves the shape of all.
use Rattle.std.proofs.Common.{◌≡◌, ◌≢◌, ℕ, ◌==◌, List, [], ◌∷◌, sym, subst, inl, inr, IsTrue}
use Rattle.std.specs.List.{AllByRecursion}
use Rattle.std.proofs.lemmas.Bool.{cases_Bool, eqb-true, eqb-false}
use Rattle.sqlite_trees.specs.Tree.{Trees}
use Rattle.sqlite_schema.specs.Rules.{Obeys}
use Rattle.sqlite_schema.specs.declared.schema.Table.{Table}
use Rattle.sqlite_rules.specs.Edit.{IsNoIndex}
use Rattle.sqlite.specs.State.{State}
use Rattle.mqtt_store_tables.specs.statements.Layout.{Layout, IsLayout, schema_of}
use Rattle.mqtt_store_tables.specs.statements.Content.{IsShapedAt, IsWhole}
use Rattle.mqtt_store_tables.proofs.statements_lemmas.tables.Spared.{meta_spared, session_spared, will_spared, sub_spared, inbound_spared}

abbrev pub Spares : Layout → ℕ → Trees → Trees → Type 0
Spares l tree old new = (t : ℕ) → t ≢ tree → IsNoIndex (schema_of l) t → new t ≡ old t

-- a tree that is left alone keeps its shape
pub at_tree : (a b : Trees) (t : ℕ) → b t ≡ a t → IsShapedAt a t → IsShapedAt b t
at_tree a b t same h = record { up = rw same h.up; ints = rw same h.ints }

-- so does each but the one that a statement is about
pub kept_shape : (l : Layout) (tree t : ℕ) (old new : Trees) → Spares l tree old new → IsShapedAt new tree → IsNoIndex (schema_of l) t → IsShapedAt old t → IsShapedAt new t
kept_shape l tree t old new others own spared was = elim (cases_Bool (t == tree)) [
  | inl same ↦ subst (IsShapedAt new) (sym (eqb-true t tree same)) own
  | inr other ↦ at_tree old new t (others t (eqb-false t tree other) spared) was
]

behind_after : (l : Layout) (tables : List Table) (tree : ℕ) (old new : Trees) → Spares l tree old new → IsShapedAt new tree → AllByRecursion (λ t. IsNoIndex (schema_of l) t.tree) tables
    → AllByRecursion (λ t. IsShapedAt old t.tree) tables → AllByRecursion (λ t. IsShapedAt new t.tree) tables
behind_after l [] tree old new others own spared was = tt
behind_after l (t ∷ tables) tree old new others own spared was = (kept_shape l tree t.tree old new others own spared.0 was.0, behind_after l tables tree old new others own spared.1 was.1)

-- what a statement on one table leaves is whole if it was
pub whole_after : (l : Layout) → IsLayout l → (tree : ℕ) (old new : State) → IsWhole l old → Spares l tree old.now.trees new.now.trees → IsShapedAt new.now.trees tree → new.now.schema ≡ schema_of l → IsTrue new.in_transaction
    → Obeys (schema_of l) new.now.trees → IsWhole l new
whole_after l asked tree old new whole others own schema inside obeys =
    let at = λ (t : ℕ) (spared : IsNoIndex (schema_of l) t) (was : IsShapedAt old.now.trees t). kept_shape l tree t old.now.trees new.now.trees others own spared was in
    record {
      schema = schema;
      inside = inside;
      meta = at 0 (meta_spared l asked) whole.meta;
      session = at 2 (session_spared l asked) whole.session;
      will = at 4 (will_spared l asked) whole.will;
      sub = at 5 (sub_spared l asked) whole.sub;
      inbound = at 7 (inbound_spared l asked) whole.inbound;
      behind = behind_after l l.tables tree old.now.trees new.now.trees others own asked.tables whole.behind;
      obeys = obeys;
    }
