-- The Subscription Identifiers of a copy whose PUBLISH has a spelling have one.
use Rattle.std.proofs.Common.{List, [], ◌∷◌, ◌++◌, map}
use Rattle.std.specs.List.{AllByRecursion}
use Rattle.mqtt_props.specs.declared.table.PropName.TheVariants.{UserProperty}
use Rattle.mqtt_props.specs.Properties.{Prop, IsProp}
use Rattle.mqtt_props.specs.Edits.{only, without}
use Rattle.mqtt_records.specs.declared.messages.message.MessageCopy.{MessageCopy}
use Rattle.mqtt_records.specs.messages.PassedOn.{aged, identified}
use Rattle.mqtt_records.specs.messages.Queue.{IsSpelled}

each_behind : (ps qs : List Prop) → AllByRecursion IsProp (ps ++ qs) → AllByRecursion IsProp qs
each_behind [] qs all = all
each_behind (p ∷ ps) qs all = each_behind ps qs all.1

each_before : (ps qs : List Prop) → AllByRecursion IsProp (ps ++ qs) → AllByRecursion IsProp ps
each_before [] qs all = tt
each_before (p ∷ ps) qs all = (all.0, each_before ps qs all.1)

-- they stand in what is sent, behind the other properties and before the User Properties
pub identifiers_fit : (copy : MessageCopy) → IsSpelled copy → AllByRecursion IsProp (map identified copy.identifiers)
identifiers_fit copy spelled =
    let passed = copy.content.properties in
    let others = map (aged 0) (without UserProperty passed) in
    each_behind others (map identified copy.identifiers) (each_before (others ++ map identified copy.identifiers) (only UserProperty passed) spelled.properties.each)
