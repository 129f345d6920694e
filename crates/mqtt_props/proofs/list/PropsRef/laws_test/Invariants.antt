-- The rest, with what was seen, answers as the whole (MQTT 5.0, 2.2.2.2).
use Rattle.std.proofs.Common.{◌≡◌, ◌&&◌, ◌||◌, length}
use Rattle.std.specs.List.{list_all}
use Rattle.mqtt_props.specs.declared.table.PropName.TheVariants.{AuthenticationMethod, AuthenticationData}
use Rattle.mqtt_props.specs.Laws.{none_repeats, is_lawful_value, has, is_seen}
use Rattle.mqtt_props.proofs.OnePass.{once_left}
use Rattle.mqtt_props.proofs.list.PropsRef.laws_test.Given as goal

abbrev pub invariant-loop-prop : goal.invariant-loop-prop
invariant-loop-prop l =
    (none_repeats l.place l.self ≡ once_left l.place l.seen l.rest)
    × (list_all (λ p. is_lawful_value p.name p.value) l.self ≡ (list_all (λ p. is_lawful_value p.name p.value) l.rest && l.good))
    × (has AuthenticationData l.self ≡ (has AuthenticationData l.rest || is_seen AuthenticationData l.seen))
    × (has AuthenticationMethod l.self ≡ (has AuthenticationMethod l.rest || is_seen AuthenticationMethod l.seen))

abbrev pub decreases-loop-prop : goal.decreases-loop-prop
decreases-loop-prop l = length l.rest
