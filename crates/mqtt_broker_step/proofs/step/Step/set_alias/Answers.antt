use Rattle.std.proofs.Common.{refl}
use Rattle.mqtt_rules.specs.step.Deeds.{SetAlias}
use Rattle.mqtt_broker_step.proofs.Doing.{on_ok}
use Rattle.mqtt_broker_step.proofs.LineDeeds.{on_line_ok}
use Rattle.mqtt_broker_step.proofs.step.Step.set_alias.Goals as goal

pub returns-clause-ok : goal.returns-clause-ok
returns-clause-ok c =
    on_ok c.edit_alias.result
    (on_line_ok c.args.line (SetAlias c.args.alias c.args.topic.now) c.args.self.now c.edit_alias.new.self refl)
    c.edit_alias.ensures.ok
