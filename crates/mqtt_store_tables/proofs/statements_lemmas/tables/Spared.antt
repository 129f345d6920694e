-- The trees of the first five tables are none of an index.
use Rattle.std.proofs.Common.{◌≢◌, ℕ, ◌<◌, ◌≤◌, List, [], ◌∷◌, sym, arith}
use Rattle.std.specs.List.{AllByRecursion}
use Rattle.sqlite_schema.specs.declared.schema.Index.{Index}
use Rattle.sqlite_rules.specs.Edit.{IsNoIndex}
use Rattle.mqtt_store_tables.specs.statements.Layout.{Layout, IsLayout, schema_of}

above : (indexes : List Index) (t : ℕ) → t < 9 → AllByRecursion (λ i. 9 ≤ i.tree) indexes → AllByRecursion (λ i. i.tree ≢ t) indexes
above [] t low all = tt
above (i ∷ indexes) t low all = ((λ same. absurd (omega (arith, low, all.0, same))), above indexes t low all.1)

module _ (l : Layout) (asked : IsLayout l) where
  not_tree : (t : ℕ) → t < 9 → t ≢ 1 → t ≢ 3 → t ≢ 6 → t ≢ 8 → IsNoIndex (schema_of l) t
  not_tree t low a b c d = (λ h. a (sym h), (λ h. b (sym h), (λ h. c (sym h), (λ h. d (sym h), above l.indexes t low asked.indexes))))

  -- the table of numbers is no index
  pub meta_spared : IsNoIndex (schema_of l) 0
  meta_spared = not_tree 0 (omega arith) (omega arith) (omega arith) (omega arith) (omega arith)

  -- the table of sessions is no index
  pub session_spared : IsNoIndex (schema_of l) 2
  session_spared = not_tree 2 (omega arith) (omega arith) (omega arith) (omega arith) (omega arith)

  -- the table of Wills is no index
  pub will_spared : IsNoIndex (schema_of l) 4
  will_spared = not_tree 4 (omega arith) (omega arith) (omega arith) (omega arith) (omega arith)

  -- the table of subscriptions is no index
  pub sub_spared : IsNoIndex (schema_of l) 5
  sub_spared = not_tree 5 (omega arith) (omega arith) (omega arith) (omega arith) (omega arith)

  -- the table of open identifiers is no index
  pub inbound_spared : IsNoIndex (schema_of l) 7
  inbound_spared = not_tree 7 (omega arith) (omega arith) (omega arith) (omega arith) (omega arith)
