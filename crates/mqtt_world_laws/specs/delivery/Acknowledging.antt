-- What a receiver acknowledges was read by it (MQTT 5.0, 4.3.2).
use Rattle.std.specs.Prelude.{◌≡◌, ◌≤◌, filter_map}
use Rattle.std.specs.List.{AllByRecursion}
use Rattle.mqtt_base.specs.declared.session.Ending.TheVariants.{Taken}
use Rattle.mqtt_base.specs.declared.session.Qos.TheVariants.{AtLeastOnce}
use Rattle.mqtt_world_model.specs.model.Ends.{Receiver}
use Rattle.mqtt_world_model.specs.model.Laws.{read_count}
use Rattle.mqtt_world_model.specs.model.Run.{End, ended_in, read_first, the_deeds}
use Rattle.mqtt_world_model.specs.model.World.{Asking, Setting, World}

-- a copy of QoS 1 that ends as taken was read
abbrev pub WasRead : Receiver → End → Type 0
WasRead r e = e.by ≡ Taken → e.qos ≡ AtLeastOnce → 1 ≤ read_count e.copy r

-- each that ends in the step that is asked for so, be it that the broker stops after its commit or not
abbrev pub AreRead : Receiver → Setting → Asking → World → Type 0
AreRead r set a w = AllByRecursion (WasRead r) (filter_map ended_in (read_first the_deeds set a w))
