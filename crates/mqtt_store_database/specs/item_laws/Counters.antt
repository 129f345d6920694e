-- Under which names the numbers of a store stand (4.1).
use Rattle.std.specs.Prelude.{ℕ, List, codes}
use Rattle.mqtt_records.specs.declared.state.change.Counter.{Counter}
use Rattle.mqtt_records.specs.declared.state.change.Counter.TheVariants.{Births, Publications, Subscribes, Autos, Moment}

-- the name of a number in its row of `meta`
abbrev pub counter_name : Counter → List ℕ
counter_name Births = codes "births"
counter_name Publications = codes "publications"
counter_name Subscribes = codes "subscribes"
counter_name Autos = codes "autos"
counter_name Moment = codes "moment"
