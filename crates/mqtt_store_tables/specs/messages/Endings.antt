-- What the end of a session makes of the trees.
use Rattle.std.specs.Prelude.{◌≡◌, ◌≢◌, ℕ, ℤ, List, [], ◌∷◌}
use Rattle.std.specs.List.{AllByRecursion}
use Rattle.sqlite_trees.specs.Tree.{Trees}
use Rattle.sqlite_rules.specs.Edit.{IsNoIndex}
use Rattle.mqtt_store_tables.specs.declared.schema.tables.Making.{Making}
use Rattle.mqtt_store_tables.specs.declared.schema.tables.Making.TheVariants.{New, TakenOver}
use Rattle.mqtt_store_tables.specs.statements.Layout.{second_layout, schema_of}
use Rattle.mqtt_store_tables.specs.statements.Content.{without}
use Rattle.mqtt_store_tables.specs.messages.Places.{queued_tree}

-- the trees of queued, copy, inbound, sub and will, and the column in which each has a session's birth
abbrev pub referring : Making → List (ℕ × ℕ)
referring New = (queued_tree New, 1) ∷ (7, 1) ∷ (5, 1) ∷ (4, 0) ∷ []
referring TakenOver = (queued_tree TakenOver, 1) ∷ (9, 1) ∷ (7, 1) ∷ (5, 1) ∷ (4, 0) ∷ []

-- the session's row is out, its rows are out of the tables that refer to it, and all other rows are as they were
pub record EndsSession (making : Making) (birth : ℤ) (old new : Trees) : Type 0 where
  pub session : new 2 ≡ without 0 birth (old 2)
  pub rows : AllByRecursion (λ it. new it.0 ≡ without it.1 birth (old it.0)) (referring making)
  pub others : (t : ℕ) → t ≢ 2 → AllByRecursion (λ it. t ≢ it.0) (referring making) → IsNoIndex (schema_of (second_layout making)) t → new t ≡ old t
