-- A store in memory.
use Rattle.std.specs.Prelude.{ℕ}
use Rattle.mqtt_records.specs.declared.state.records.Records.{Records}

-- what it has, and how often it was asked for contents, modulo 2^64
pub record InMemory : Type 0 where
  pub records : Records
  pub reads : ℕ
