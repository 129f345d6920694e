use Rattle.std.proofs.Common.{[], ◌∷◌, subst}
use Rattle.mqtt_rules.specs.step.Deeds.{Gone, always}
use Rattle.mqtt_broker_step.specs.Stepping.{Stepping, Did}
use Rattle.mqtt_broker_step.specs.Undoing.{Changing}
use Rattle.mqtt_broker_step.proofs.Doing.{on_ok}
use Rattle.mqtt_broker_step.proofs.LineDeeds.{gone_did}
use Rattle.mqtt_broker_step.proofs.step.Step.gone.Goals as goal

pub returns-clause-ok : goal.returns-clause-ok
returns-clause-ok c =
    let tables : Changing = c.self.inside.tables in
    let s : Stepping = record {
      limits = c.self.inside.limits;
      start = tables.start;
      broker = tables.broker;
      rows = c.self.inside.rows.items;
      outputs = c.self.inside.outputs.items;
      closed = c.self.inside.closed.items;
      reports = c.self.inside.reports.items;
    } in
    on_ok c.shut.result
    (λ made. subst (λ (x : Stepping). Did (always (Gone c.args.line ∷ [])) x c.shut.new.self) c.self.view_is
    (gone_did c.args.line s c.shut.new.self c.take_line.new.self c.take_telling.new.self c.in_ok-take_line.ensures.ok c.in_ok-take_telling.ensures.ok made))
    c.shut.ensures.ok
