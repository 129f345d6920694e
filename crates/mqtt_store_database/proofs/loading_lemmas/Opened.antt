-- A connection that was just opened shows the rows of its tables in order.
use Rattle.std.proofs.Common.{◌≡◌, ◌≤◌, ℕ, false, List, [], ◌∷◌, Result, Ok, Err, IfOk, sym, subst, arith}
use Rattle.std.specs.List.{AllByRecursion}
use Rattle.sqlite_schema.specs.declared.schema.Table.{Table}
use Rattle.sqlite_trees.specs.declared.store.Shape.TheVariants as shape
use Rattle.sqlite_trees.specs.Tree.{Trees}
use Rattle.sqlite_trees.specs.declared.store.Store.{Ghosts}
use Rattle.sqlite_trees.specs.View.{View, IsShaped, IsOrdered as TreesAreOrdered, doubt, IsClean}
use Rattle.sqlite_trees.specs.Objects.{catalog_tree, IsListed}
use Rattle.sqlite_catalog.specs.Listing.{IsSound}
use Rattle.sqlite_catalog.proofs.LayoutLemmas.{laid_out, objects_rise}
use Rattle.sqlite.specs.declared.error.Error.{Error}
use Rattle.sqlite.specs.Effect.{Database}
use Rattle.sqlite.specs.Held.{Held, state}
use Rattle.sqlite.specs.State.{State, HasCleanDisk, Opens, IsLive}
use Rattle.mqtt_store_tables.specs.statements.Content.{IsShapedAt}
use Rattle.mqtt_store_database.specs.loading.Loading.{IsOrdered}

-- trees that are shaped as tables have their rows in order
all_in_order : (v : View) (tables : List Table) → AllByRecursion (λ t. v.shape t.tree ≡ shape.Table) tables → ((t : ℕ) → IsShaped (v.shape t) (v.trees t)) → AllByRecursion (λ t. IsShapedAt v.trees t.tree) tables
all_in_order v [] shapes shaped = tt
all_in_order v (t ∷ ts) shapes shaped =
    let s = subst (λ s. IsShaped s (v.trees t.tree)) shapes.0 (shaped t.tree) in
    (record { up = s.0; ints = s.1 }, all_in_order v ts shapes.1 shaped)

-- a store that is not broken has its trees in order
pub shaped_from : (v : View) (db : Database) → TreesAreOrdered v.shape v.trees → IsListed (v.trees catalog_tree) v.shape v.reals → IsSound db.schema v.trees → AllByRecursion (λ t. IsShapedAt v.trees t.tree) db.schema.tables
shaped_from v db ordered listed sound =
    let laid = laid_out listed (objects_rise v listed ordered) sound.lists.listed in
    all_in_order v db.schema.tables laid.tables ordered

-- a connection that was just opened over a store shows its rows in order
pub ordered_over : (v : View) (s : State) → (HasCleanDisk s → Opens s × IsLive s) → doubt v.is_clean ≤ doubt s.is_clean → (HasCleanDisk s → s.now.trees ≡ v.trees) → (IsClean v → v.is_broken ≡ false)
    → (v.is_broken ≡ false → TreesAreOrdered v.shape v.trees) → (v.is_broken ≡ false → IsListed (v.trees catalog_tree) v.shape v.reals) → IsOrdered s
ordered_over v s opens less trees unbroken ordered listed tidy up =
    let was : IsClean v = omega (arith, less, tidy) in
    let sound = unbroken was in
    let live = (opens tidy).1 (opens tidy).0.is_open in
    let obeyed : IsSound s.now.schema v.trees = subst (IsSound s.now.schema) (trees tidy) live.0 in
    subst (λ (db : Trees). AllByRecursion (λ t. IsShapedAt db t.tree) s.now.schema.tables) (sym (trees tidy)) (shaped_from v s.now (ordered sound) (listed sound) obeyed)

-- so does one over a store that isn't broken, if it was opened
pub opened_in_order : {S : Type 0} (g : Ghosts S) (store : S) (res : Result (Held S) (Error × S)) → IfOk res (λ c. HasCleanDisk (state g c) → Opens (state g c) × IsLive (state g c))
    → IfOk res (λ c. doubt (g.view store).is_clean ≤ doubt (state g c).is_clean) → IfOk res (λ c. HasCleanDisk (state g c) → (state g c).now.trees ≡ (g.view store).trees)
    → (IsClean (g.view store) → (g.view store).is_broken ≡ false) → ((g.view store).is_broken ≡ false → TreesAreOrdered (g.view store).shape (g.view store).trees)
    → ((g.view store).is_broken ≡ false → IsListed ((g.view store).trees catalog_tree) (g.view store).shape (g.view store).reals) → IfOk res (λ c. IsOrdered (state g c))
opened_in_order g store (Ok c) fresh less trees sound ordered listed = ordered_over (g.view store) (state g c) fresh less trees sound ordered listed
opened_in_order g store (Err e) fresh less trees sound ordered listed = tt
