-- Schema 2 has what is asked of a layout, in both ways.
use Rattle.std.proofs.Common.{◌≡◌, refl, sym, subst, inl, inr, arith}
use Rattle.sqlite_value.specs.Keys.{joined}
use Rattle.sqlite_schema.specs.Names.{same_name}
use Rattle.mqtt_store_tables.specs.schema.Tables.{second_schema}
use Rattle.mqtt_store_tables.specs.declared.schema.tables.Making.{Making}
use Rattle.mqtt_store_tables.specs.declared.schema.tables.Making.TheVariants.{New, TakenOver}
use Rattle.mqtt_store_tables.specs.statements.Layout.{Layout, IsLayout, IsChildless, IsOurs, second_layout, schema_of}
use Rattle.mqtt_store_tables.proofs.statements_lemmas.tables.First.{is_first}

new_meta : IsChildless (second_layout New) 0
unfolding same_name joined
new_meta = record { out = λ depth olds. refl; put = λ depth olds new. refl }

new_will : IsChildless (second_layout New) 4
unfolding same_name joined
new_will = record { out = λ depth olds. refl; put = λ depth olds new. refl }

new_sub : IsChildless (second_layout New) 5
unfolding same_name joined
new_sub = record { out = λ depth olds. refl; put = λ depth olds new. refl }

new_inbound : IsChildless (second_layout New) 7
unfolding same_name joined
new_inbound = record { out = λ depth olds. refl; put = λ depth olds new. refl }

-- a new store of schema 2 is such a layout
pub new_is : IsLayout (second_layout New)
unfolding same_name joined
new_is = record {
  indexes = (omega arith, (omega arith, (omega arith, (omega arith, tt))));
  tables = ((omega arith, (omega arith, (omega arith, (omega arith, (omega arith, (omega arith, (omega arith, (omega arith, tt)))))))), ((omega arith, (omega arith, (omega arith, (omega arith, (omega arith, (omega arith, (omega arith, (omega arith, tt)))))))), ((omega arith, (omega arith, (omega arith, (omega arith, (omega arith, (omega arith, (omega arith, (omega arith, tt)))))))), tt)));
  keyless = ((λ target new row. refl), ((λ target new row. refl), ((λ target new row. refl), ((λ target new row. refl), ((λ target new row. refl), tt)))));
  childless = (new_meta, (new_will, (new_sub, (new_inbound, tt))));
  unmoved = λ olds new. refl;
}

taken_over_meta : IsChildless (second_layout TakenOver) 0
unfolding same_name joined
taken_over_meta = record { out = λ depth olds. refl; put = λ depth olds new. refl }

taken_over_will : IsChildless (second_layout TakenOver) 4
unfolding same_name joined
taken_over_will = record { out = λ depth olds. refl; put = λ depth olds new. refl }

taken_over_sub : IsChildless (second_layout TakenOver) 5
unfolding same_name joined
taken_over_sub = record { out = λ depth olds. refl; put = λ depth olds new. refl }

taken_over_inbound : IsChildless (second_layout TakenOver) 7
unfolding same_name joined
taken_over_inbound = record { out = λ depth olds. refl; put = λ depth olds new. refl }

-- so is one that was taken over
pub taken_over_is : IsLayout (second_layout TakenOver)
unfolding same_name joined
taken_over_is = record {
  indexes = (omega arith, (omega arith, (omega arith, (omega arith, (omega arith, (omega arith, tt))))));
  tables = ((omega arith, (omega arith, (omega arith, (omega arith, (omega arith, (omega arith, (omega arith, (omega arith, (omega arith, (omega arith, tt)))))))))), ((omega arith, (omega arith, (omega arith, (omega arith, (omega arith, (omega arith, (omega arith, (omega arith, (omega arith, (omega arith, tt)))))))))), ((omega arith, (omega arith, (omega arith, (omega arith, (omega arith, (omega arith, (omega arith, (omega arith, (omega arith, (omega arith, tt)))))))))), ((omega arith, (omega arith, (omega arith, (omega arith, (omega arith, (omega arith, (omega arith, (omega arith, (omega arith, (omega arith, tt)))))))))), ((omega arith, (omega arith, (omega arith, (omega arith, (omega arith, (omega arith, (omega arith, (omega arith, (omega arith, (omega arith, tt)))))))))), tt)))));
  keyless = ((λ target new row. refl), ((λ target new row. refl), ((λ target new row. refl), ((λ target new row. refl), ((λ target new row. refl), tt)))));
  childless = (taken_over_meta, (taken_over_will, (taken_over_sub, (taken_over_inbound, tt))));
  unmoved = λ olds new. refl;
}

-- both have the tables of schema 2, and are such layouts
pub is_second : (making : Making) → (schema_of (second_layout making) ≡ second_schema making) × IsLayout (second_layout making)
is_second New = (refl, new_is)
is_second TakenOver = (refl, taken_over_is)

-- each of our layouts is one
pub laid_out : (l : Layout) → IsOurs l → IsLayout l
laid_out l (inl first) = subst IsLayout (sym first) is_first
laid_out l (inr second) = subst IsLayout (sym second.1) (is_second second.0).1
