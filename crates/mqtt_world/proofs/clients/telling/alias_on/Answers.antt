use Rattle.std.proofs.Common.{sym}
use Rattle.mqtt_props.specs.Views.{prop_of}
use Rattle.mqtt_world.proofs.clients_lemmas.Read.{alias_kind, is_u16}
use Rattle.mqtt_world.proofs.clients.telling.alias_on.Goals as goal

pub returns-in_default : goal.returns-in_default
returns-in_default c =
    let found = c.in-Some.ensures in
    let number = is_u16 c.in-Some.prop.value (alias_kind c.lend-list.result (prop_of c.in-Some.prop) (sym found.found) found.fits) in
    absurd (c.in_default.not-U16 number.0 number.1)
