-- Lawful records are in order, and within their limits.
use Rattle.std.proofs.Common.{List, [], ◌∷◌}
use Rattle.std.specs.List.{AllByRecursion}
use Rattle.mqtt_keep.specs.lawful.Lawful.{IsLawfulSession, IsLawful, last_of}
use Rattle.mqtt_keep.specs.declared.lawful.rows.Last.{Last}
use Rattle.mqtt_records.specs.declared.state.records.Records.{Records}
use Rattle.mqtt_records.specs.declared.state.session.Session.{Session}
use Rattle.mqtt_store_rows.specs.values.Gives.{IsWithin, AreWithin}

within_each : (last : Last) (ss : List Session) → AllByRecursion (IsLawfulSession last) ss → AllByRecursion IsWithin ss
within_each last [] all = tt
within_each last (s ∷ ss) all =
    (record { subscriptions = all.0.subscriptions.table; inbound = all.0.inbound.table; queue = all.0.queue.table }, within_each last ss all.1)

-- what a store may hold is within the limits of its columns
pub lawful_within : (r : Records) → IsLawful r → AreWithin r
lawful_within r lawful = record {
  sessions = lawful.sessions.table;
  each = within_each (last_of r) r.sessions lawful.sessions.each;
  retained = lawful.retained.table;
}
