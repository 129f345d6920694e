-- Property blocks as parts of packets (MQTT 5.0, 2.2.2).
use Rattle.std.specs.Prelude.{◌≡◌, Bool, true, List}
use Rattle.mqtt_props.specs.declared.place.Place.{Place}
use Rattle.mqtt_props.specs.Properties.{Prop, FitsBlock}
use Rattle.mqtt_props.specs.Laws.{all_may_stand, is_lawful}

-- the list has a layout in its place
abbrev pub Stands : Place → List Prop → Type 0
Stands place ps = FitsBlock ps × (all_may_stand place ps ≡ true)

-- the list keeps the laws of blocks in its place
abbrev pub keeps_laws : Place → List Prop → Bool
keeps_laws place ps = is_lawful place ps
