use Rattle.std.proofs.Common.{sym}
use Rattle.std.proofs.lemmas.Bool.{ltb-true}
use Rattle.mqtt_broker_step.proofs.PlaceLists.{ascending-push}
use Rattle.mqtt_broker_step.proofs.places.is_behind.Goals as goal

pub returns-in-Some : goal.returns-in-Some
returns-in-Some c =
    λ less up. ascending-push c.args.place c.in-Some.last.now c.args.places.now up (sym c.in-Some.ensures.value) (ltb-true c.in-Some.last.now c.args.place less)
