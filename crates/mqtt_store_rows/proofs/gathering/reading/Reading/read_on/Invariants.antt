use Rattle.std.proofs.Common.{List, length, ◌++◌}
use Rattle.std.specs.Prelude.{option_copied}
use Rattle.sqlite_value.specs.Order.{Row}
use Rattle.mqtt_base.specs.declared.limits.TheConstants.{SESSION_LIMIT}
use Rattle.mqtt_records.specs.state.Session.{birth_of}
use Rattle.mqtt_keep.specs.lawful.Lawful.{AreNumbers}
use Rattle.mqtt_records.specs.lists.Order.{IsTable}
use Rattle.mqtt_store_rows.specs.gathering.Alone.{last_in}
use Rattle.mqtt_store_rows.specs.gathering.Queues.{IsSameButQueues, BeginsWith, AreGathered}
use Rattle.mqtt_store_rows.proofs.gathering.reading.Reading.read_on.Given as goal

abbrev pub invariant-loop-birth : goal.invariant-loop-birth
invariant-loop-birth l = record {
  same : IsSameButQueues l.fn.self l.self;
  numbers : AreNumbers (last_in l.self.numbers);
  table : IsTable birth_of SESSION_LIMIT (l.self.all ++ l.self.bare);
  read : (rows : List Row) → AreGathered l.fn.self rows (BeginsWith (option_copied l.fn.next)) → AreGathered l.self rows (BeginsWith (option_copied l.fn.next));
}

abbrev pub decreases-loop-birth : goal.decreases-loop-birth
decreases-loop-birth l = length l.self.bare
