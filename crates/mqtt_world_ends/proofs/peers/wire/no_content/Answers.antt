use Rattle.std.proofs.Common.{[], arith}
use Rattle.std.proofs.lemmas.Str.{IsUtf8-nil, is_utf8-from_IsUtf8}
use Rattle.mqtt_world_ends.proofs.peers.wire.no_content.Goals as goal

pub new-requires : goal.new-requires
new-requires c = (omega arith, is_utf8-from_IsUtf8 [] IsUtf8-nil)
