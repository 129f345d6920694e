-- The bytes that are left make of the digest so far that of the whole.
use Rattle.std.proofs.Common.{◌≡◌, ◌<◌, ◌^◌, drop}
use Rattle.mqtt_keep.specs.by_name.Digests.{digest_from, digest_of}
use Rattle.mqtt_keep.proofs.by_name.digest.digest_of.Given as goal

abbrev pub invariant-loop-byte : goal.invariant-loop-byte
invariant-loop-byte l = (l.digest < 2 ^ 32) × (digest_from l.digest (drop l.byte-index l.bytes) ≡ digest_of l.client)
