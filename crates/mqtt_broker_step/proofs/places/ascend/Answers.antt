use Rattle.std.proofs.Common.{arith}
use Rattle.mqtt_broker_step.proofs.PlaceLists.{ascending}
use Rattle.mqtt_broker_step.proofs.places.ascend.Goals as goal

pub returns : goal.returns
returns c = λ _. ascending c.args.places.now (λ k less. c.loop-at.invariant k (omega (arith, less)))
