-- The row of the identifier and that of its name (MQTT 5.0, 2.2.2.2).
use Rattle.std.proofs.Common.{sym, ap, ◌∙◌}
use Rattle.mqtt_props.proofs.TableLemmas.{is_allowed-stands, stands}
use Rattle.mqtt_props.proofs.table.allowed.Goals as goal

pub returns-in-Some : goal.returns-in-Some
returns-in-Some c = c.may_stand_in.ensures ∙ ap (stands c.args.place) c.in-Some.ensures ∙ sym (is_allowed-stands c.args.id c.args.place)

pub returns-in-None : goal.returns-in-None
returns-in-None c = ap (stands c.args.place) c.in-None.ensures ∙ sym (is_allowed-stands c.args.id c.args.place)
