-- The numbers of a turn, computed from what stands in code.
use Rattle.std.proofs.Common.{◌≡◌, ◌^◌, ◌-◌, refl}
use Rattle.mqtt_serve.specs.declared.turns.giving.TheConstants.{PIECE_LIMIT}
use Rattle.mqtt_serve.specs.declared.turns.settling.TheConstants.{TURNS_TOGETHER}
use Rattle.mqtt_serve.specs.declared.turns.turn.TheConstants.{READ_LIMIT, TICK_LIMIT}

read_limit : READ_LIMIT ≡ 4096
read_limit = refl

-- the clock has so many turns
pub tick_limit : TICK_LIMIT ≡ 16
tick_limit = refl

turns_together : TURNS_TOGETHER ≡ 8
turns_together = refl

piece_limit : PIECE_LIMIT ≡ 2 ^ 64 - 1
piece_limit = refl
