use Rattle.std.proofs.Common.{arith}
use Rattle.mqtt_keep.proofs.contents_lemmas.Nothing.{nothing_shared}
use Rattle.mqtt_keep.proofs.lawful.laws.nothing_is_lawful.Goals as goal

pub returns : goal.returns
returns c = record {
  numbers = record { births = omega arith; publications = omega arith; subscribes = omega arith; autos = omega arith; moment = omega arith };
  sessions = record { table = record { ascending = tt; within = omega arith }; clients = tt; places = tt; each = tt };
  retained = record { table = record { ascending = tt; within = omega arith }; topics = tt; each = tt };
  shared = nothing_shared;
}
