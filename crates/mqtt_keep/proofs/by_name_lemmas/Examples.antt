-- Digests as Java's `String.hashCode` says of the same texts.
use Rattle.std.proofs.Common.{◌≡◌, [], refl}
use Rattle.std.specs.Prelude.{codes}
use Rattle.mqtt_keep.specs.by_name.Digests.{digest_of}

of_nothing : digest_of [] ≡ 0
of_nothing = refl

of_abc : digest_of (codes "abc") ≡ 96354
of_abc = refl

-- beyond 2^32
of_more : digest_of (codes "hello world") ≡ 1794106052
of_more = refl
