-- What a constant says of a table: its form, and the table of that form.
use Rattle.std.specs.Prelude.{◌≡◌, false, [], ◌∷◌, map}
use Rattle.sqlite_value.specs.Keys.{plain}
use Rattle.sqlite_schema.specs.declared.schema.Column.{Column}
use Rattle.sqlite_schema.specs.declared.schema.Reference.{Reference}
use Rattle.sqlite_schema.specs.declared.schema.Action.TheVariants.{NoAction}
use Rattle.sqlite_schema.specs.declared.schema.Table.{Table}
use Rattle.sqlite_schema.specs.declared.schema.Index.{Index}
use Rattle.mqtt_store_tables.specs.forms.Tables.{wanted, optional}
use Rattle.mqtt_store_tables.specs.declared.forms.tables.TableForm.{TableForm}
use Rattle.mqtt_store_tables.specs.declared.forms.tables.IndexForm.{IndexForm}
use Rattle.mqtt_store_tables.specs.declared.forms.columns.ColumnForm.{ColumnForm}
use Rattle.mqtt_store_tables.specs.declared.forms.columns.ColumnForm.TheVariants.{Wanted, Optional}
use Rattle.mqtt_store_tables.specs.declared.forms.columns.ParentForm.{ParentForm}

-- the column of that name and kind
abbrev pub column_of : ColumnForm → Column
column_of (Wanted name kind) = wanted name.now kind
column_of (Optional name kind) = optional name.now kind

-- the reference from that place, tested after each statement
abbrev pub reference_of : ParentForm → Reference
reference_of f = record { columns = f.at ∷ []; parent = f.table.now; parent_columns = f.column.now ∷ []; on_delete = f.on_delete; on_update = NoAction; is_deferred = false }

-- a STRICT table that has no more than the form says
abbrev pub table_of : TableForm → Table
table_of f = record {
  name = f.name.now;
  tree = f.tree;
  columns = map column_of f.columns.now;
  key = f.key;
  primary = f.primary.now;
  uniques = map (λ places. places.now) f.uniques.now;
  orders = map (λ _. plain) f.uniques.now;
  checks = [];
  references = map reference_of f.parents.now;
  computed = [];
  stamps = record { places = []; terms = []; formats = [] };
  is_counted = false;
}

-- an index in ascending order
abbrev pub index_of : IndexForm → Index
index_of f = record { name = f.name.now; tree = f.tree; table = f.table; columns = f.places.now; order = plain; is_unique = f.is_unique }

-- nothing is computed or counted, and no CHECK is made
pub record IsBare (t : Table) : Type 0 where
  pub checks : t.checks ≡ []
  pub computed : t.computed ≡ []
  pub stamps : t.stamps ≡ record { places = []; terms = []; formats = [] }
  pub is_counted : t.is_counted ≡ false

-- its primary key is the form's
pub record HasKey (t : Table) (f : TableForm) : Type 0 where
  pub key : t.key ≡ f.key
  pub primary : t.primary ≡ f.primary.now

-- the columns that are unique together are the form's, in ascending order
pub record HasUniques (t : Table) (f : TableForm) : Type 0 where
  pub uniques : t.uniques ≡ map (λ places. places.now) f.uniques.now
  pub orders : t.orders ≡ map (λ _. plain) f.uniques.now
