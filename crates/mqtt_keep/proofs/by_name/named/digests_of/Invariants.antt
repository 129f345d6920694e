-- The sessions that were passed have their digests.
use Rattle.std.proofs.Common.{◌≡◌, take}
use Rattle.mqtt_keep.specs.by_name.Digests.{digest_rows}
use Rattle.mqtt_keep.proofs.by_name.named.digests_of.Given as goal

abbrev pub invariant-loop-session : goal.invariant-loop-session
invariant-loop-session l = l.digests ≡ digest_rows (take l.session-index l.session-items)
