-- The order of rows is a proposition, so that a store can remember it.
use Rattle.std.specs.Prelude.{ℕ, List, [], ◌∷◌, refl}
use Rattle.std.specs.List.{AllByRecursion}
use mathlib.Core.HLevel.{Π_prop}
use Rattle.sqlite_schema.specs.declared.schema.Table.{Table}
use Rattle.sqlite_trees.specs.declared.store.Shape.TheVariants as shape
use Rattle.sqlite_trees.specs.Props.{IsShaped-prop}
use Rattle.sqlite_trees.specs.Tree.{Trees}
use Rattle.sqlite.specs.State.{State}
use Rattle.mqtt_store_tables.specs.statements.Content.{IsShapedAt}
use Rattle.mqtt_store_database.specs.loading.Loading.{IsOrdered}

shaped_prop : (db : Trees) (t : ℕ) → IsProp (IsShapedAt db t)
shaped_prop db t x y =
    let same = IsShaped-prop shape.Table (db t) (x.up, x.ints) (y.up, y.ints) in
    λ i. record { up = (same i).0; ints = (same i).1 }

all_prop : (db : Trees) (tables : List Table) → IsProp (AllByRecursion (λ t. IsShapedAt db t.tree) tables)
all_prop db [] x y = refl
all_prop db (t ∷ ts) x y =
    let one = shaped_prop db t.tree x.0 y.0 in
    let rest = all_prop db ts x.1 y.1 in
    λ i. (one i, rest i)

pub ordered_prop : (s : State) → IsProp (IsOrdered s)
ordered_prop s = Π_prop (λ _. Π_prop (λ _. all_prop s.now.trees s.now.schema.tables))
