-- The copies that were passed are the session's.
use Rattle.std.proofs.Common.{◌≡◌, length}
use Rattle.mqtt_store_database.specs.written.Shortened.{ends_session}
use Rattle.mqtt_store_database.proofs.written.ending.ends_session.Given as goal

abbrev pub invariant-loop-change : goal.invariant-loop-change
invariant-loop-change l = ends_session l.birth l.rest ≡ ends_session l.birth l.changes

abbrev pub decreases-loop-change : goal.decreases-loop-change
decreases-loop-change l = length l.rest
