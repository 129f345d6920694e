-- Schema 1 has what is asked of a layout.
use Rattle.std.proofs.Common.{◌≢◌, ℕ, sym, refl, arith}
use Rattle.sqlite_value.specs.Keys.{joined}
use Rattle.sqlite_schema.specs.Names.{same_name}
use Rattle.sqlite_rules.specs.Edit.{IsNoIndex}
use Rattle.mqtt_store_tables.specs.statements.Layout.{IsLayout, IsChildless, first_layout, schema_of}

not_tree : (t : ℕ) → t ≢ 1 → t ≢ 3 → t ≢ 6 → t ≢ 8 → t ≢ 10 → t ≢ 12 → IsNoIndex (schema_of first_layout) t
not_tree t a b c d e f = (λ h. a (sym h), (λ h. b (sym h), (λ h. c (sym h), (λ h. d (sym h), (λ h. e (sym h), (λ h. f (sym h), tt))))))

-- in schema 1 the table of copies is no index's tree
pub copy_spared : IsNoIndex (schema_of first_layout) 9
copy_spared = not_tree 9 (omega arith) (omega arith) (omega arith) (omega arith) (omega arith) (omega arith)

-- nor is the one of retained messages
pub retained_spared : IsNoIndex (schema_of first_layout) 11
retained_spared = not_tree 11 (omega arith) (omega arith) (omega arith) (omega arith) (omega arith) (omega arith)

no_meta : IsChildless first_layout 0
unfolding same_name joined
no_meta = record { out = λ depth olds. refl; put = λ depth olds new. refl }

no_will : IsChildless first_layout 4
unfolding same_name joined
no_will = record { out = λ depth olds. refl; put = λ depth olds new. refl }

no_sub : IsChildless first_layout 5
unfolding same_name joined
no_sub = record { out = λ depth olds. refl; put = λ depth olds new. refl }

no_inbound : IsChildless first_layout 7
unfolding same_name joined
no_inbound = record { out = λ depth olds. refl; put = λ depth olds new. refl }

-- schema 1 is such a layout
pub is_first : IsLayout first_layout
unfolding same_name joined
is_first = record {
  indexes = (omega arith, (omega arith, tt));
  tables = (copy_spared, (retained_spared, tt));
  keyless = ((λ target new row. refl), ((λ target new row. refl), ((λ target new row. refl), ((λ target new row. refl), ((λ target new row. refl), tt)))));
  childless = (no_meta, (no_will, (no_sub, (no_inbound, tt))));
  unmoved = λ olds new. refl;
}
