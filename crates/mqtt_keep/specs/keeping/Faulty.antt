-- A store for tests, whose device fails once.
use Rattle.std.specs.Prelude.{ℕ, Option}
use Rattle.mqtt_records.specs.declared.state.records.Records.{Records}
use Rattle.mqtt_keep.specs.declared.keeping.faulty.Failure.{Failure}

-- what it has, how many calls are made before the one that fails, what that leaves, how many
-- failures it has counted, and how often it was asked for contents
pub record Faulty : Type 0 where
  pub records : Records
  pub until : Option ℕ
  pub failure : Failure
  pub failures : ℕ
  pub reads : ℕ
