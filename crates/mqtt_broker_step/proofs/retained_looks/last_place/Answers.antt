use Rattle.std.proofs.Common.{List, ap, sym, ◌∙◌}
use Rattle.std.specs.Prelude.{map}
use Rattle.mqtt_records.specs.declared.messages.message.RetainedMessage.{RetainedMessage}
use Rattle.mqtt_records.specs.state.Records.{kept_place}
use Rattle.mqtt_routes.specs.routing.Intended.{greatest}
use Rattle.mqtt_broker_step.proofs.Inverse.{last_greatest, last_none}
use Rattle.mqtt_broker_step.proofs.retained_looks.last_place.Goals as goal

pub returns-in-Some : goal.returns-in-Some
returns-in-Some c =
    ap kept_place c.get.ensures
    ∙ sym (last_greatest kept_place c.args.retained.now c.in-Some.kept.now c.as_slice.ensures.order (sym c.in-Some.ensures))

pub returns-in-None : goal.returns-in-None
returns-in-None c =
    ap (λ (xs : List RetainedMessage). greatest (map kept_place xs)) (sym (last_none kept_place c.args.retained.now (sym c.in-None.ensures)))
