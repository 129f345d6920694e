use Rattle.std.proofs.Common.{◌≡◌, ◌+◌, List, ◌++◌, drop, length}
use Rattle.std.specs.List.{AllByRecursion}
use Rattle.mqtt_records.specs.declared.state.session.Session.{Session}
use Rattle.mqtt_records.specs.state.Session.{birth_of}
use Rattle.mqtt_records.specs.lists.Order.{IsBelow, IsAscending}
use Rattle.mqtt_store_rows.specs.values.Gives.{AreSessions, IsWithin}
use Rattle.mqtt_store_rows.proofs.values_lemmas.PartLemmas.{Left}
use Rattle.mqtt_store_rows.proofs.values.sessions.sessions_of.Given as goal

abbrev pub invariant-loop-row : goal.invariant-loop-row
invariant-loop-row l = record {
  sound : (ss : List Session) → AreSessions (drop l.row-index l.rows) l.left ss → AreSessions l.rows l.parts (l.all ++ ss);
  complete : (all : List Session) → AreSessions l.rows l.parts all → AllByRecursion IsWithin all → IsAscending birth_of all → Left (drop l.row-index l.rows) l.left l.last;
  order : IsAscending birth_of l.all;
  each : AllByRecursion IsWithin l.all;
  low : IsBelow birth_of (l.last + 1) l.all;
  count : length l.all ≡ l.row-index;
}
