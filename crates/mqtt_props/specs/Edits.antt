-- Lists of properties made from others (MQTT 5.0, 2.2.2).
use Rattle.std.specs.Prelude.{ℕ, ◌^◌, ◌≤◌, not, List, filter, ⊤}
use Rattle.mqtt_props.specs.declared.fault.PropFault.{PropFault}
use Rattle.mqtt_props.specs.declared.fault.PropFault.TheVariants.{Malformed, Twice, BadValue, Memory}
use Rattle.mqtt_props.specs.declared.table.PropName.{PropName}
use Rattle.mqtt_props.specs.Properties.{Prop, FitsBlock}
use Rattle.mqtt_props.specs.Laws.{is_named}

-- the properties of this name, in their order
abbrev pub only : PropName → List Prop → List Prop
only name ps = filter (is_named name) ps

-- the properties of other names, in their order
abbrev pub without : PropName → List Prop → List Prop
without name ps = filter (λ p. not (is_named name p)) ps

-- why this list is not made: it has no spelling as a block; want of memory says nothing of it
abbrev pub AddRefuses : List Prop → PropFault → Type 0
AddRefuses ps Malformed = ¬ FitsBlock ps
AddRefuses ps Twice = ⊥
AddRefuses ps BadValue = ⊥
AddRefuses ps Memory = ⊤

-- why pairs of so many bytes are not made
abbrev pub IsTooLong : ℕ → PropFault → Type 0
IsTooLong n Malformed = 2 ^ 28 ≤ n
IsTooLong n Twice = ⊥
IsTooLong n BadValue = ⊥
IsTooLong n Memory = ⊤
