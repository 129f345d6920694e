-- The columns that stand in a change.
use Rattle.std.specs.Prelude.{Option, Some, None}
use Rattle.mqtt_records.specs.declared.state.session.Columns.{Columns}
use Rattle.mqtt_records.specs.declared.state.change.Change.{Change}
use Rattle.mqtt_records.specs.declared.state.change.Change.TheVariants.{PutSession, SetSession}

-- the own row of a session, if that is put
abbrev pub columns_in : Change → Option Columns
columns_in (PutSession row) = Some row
columns_in (SetSession row) = Some row
columns_in _ = None
