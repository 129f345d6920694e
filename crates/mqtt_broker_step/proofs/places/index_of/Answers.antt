use Rattle.mqtt_broker_step.proofs.PlaceLists.{index_found}
use Rattle.mqtt_broker_step.proofs.places.index_of.Goals as goal

pub returns : goal.returns
returns c = rw c.ok.ensures.value (index_found c.args.place c.args.places.now c.binary_search.result c.requires c.binary_search.ensures.position)
