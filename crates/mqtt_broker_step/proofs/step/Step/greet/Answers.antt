use Rattle.mqtt_rules.specs.step.Deeds.{Greet}
use Rattle.mqtt_broker_step.proofs.Doing.{on_ok}
use Rattle.mqtt_broker_step.proofs.LineDeeds.{greeted_ok}
use Rattle.mqtt_broker_step.proofs.step.Step.greet.Goals as goal

pub returns-clause-ok : goal.returns-clause-ok
returns-clause-ok c =
    on_ok c.connect_line.result
    (greeted_ok c.args.line c.args.birth c.args.keep_alive c.args.window c.args.largest c.args.most c.args.self.now c.begin_telling.new.self c.connect_line.new.self
    c.in_ok-begin_telling.ensures.ok)
    (c.connect_line.ensures.ok c.args.most)
