-- The number of bytes that may wait, computed from what stands in code.
use Rattle.std.proofs.Common.{◌≡◌, refl}
use Rattle.mqtt_link.specs.declared.waiting.TheConstants.{WAITING_LIMIT}

waiting_limit : WAITING_LIMIT ≡ 1048576
waiting_limit = refl
