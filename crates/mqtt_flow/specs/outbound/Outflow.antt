-- What callers see of an `Outflow`: its queue, and for how many more copies it has memory.
use Rattle.std.specs.Prelude.{ℕ, List}
use Rattle.mqtt_flow.specs.declared.outbound.entry.Entry.{Entry}

pub record OutboundQueue : Type 0 where
  pub queue : List Entry
  pub room : ℕ
