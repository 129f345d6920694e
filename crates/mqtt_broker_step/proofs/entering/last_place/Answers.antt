use Rattle.std.proofs.Common.{List, ap, sym, ◌∙◌}
use Rattle.std.specs.Prelude.{map}
use Rattle.mqtt_records.specs.messages.Queue.{CopyRow}
use Rattle.mqtt_records.specs.state.Session.{copy_place}
use Rattle.mqtt_routes.specs.routing.Intended.{greatest}
use Rattle.mqtt_broker_step.proofs.Inverse.{last_greatest, last_none}
use Rattle.mqtt_broker_step.proofs.entering.last_place.Goals as goal

pub returns-in-Some-clause-place : goal.returns-in-Some-clause-place
returns-in-Some-clause-place c =
    c.place.ensures ∙ (ap copy_place c.get.ensures
    ∙ sym (last_greatest copy_place c.args.session.now.queue c.in-Some.row.now c.has_tables.ensures.queue.ascending (sym c.in-Some.ensures)))

pub returns-in-None-clause-place : goal.returns-in-None-clause-place
returns-in-None-clause-place c =
    ap (λ (xs : List CopyRow). greatest (map copy_place xs)) (sym (last_none copy_place c.args.session.now.queue (sym c.in-None.ensures)))
