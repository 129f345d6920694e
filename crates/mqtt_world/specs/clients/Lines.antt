-- What becomes of a line as its end sees it (MQTT 5.0, 4.2).
use Rattle.mqtt_world_model.specs.model.Lines.{Line, gives_up, left}
use Rattle.mqtt_world_model.specs.model.World.{taken_old, taken_up}
use Rattle.mqtt_world.specs.declared.clients.lines.Change.{Change}
use Rattle.mqtt_world.specs.declared.clients.lines.Change.TheVariants.{GiveUp, Leave, TakeOld, TakeUp}

abbrev pub changed : {U : Type 0} → Change → Line U → Line U
changed GiveUp l = gives_up l.link l
changed Leave l = left l
changed TakeUp l = taken_up l
changed TakeOld l = taken_old l
