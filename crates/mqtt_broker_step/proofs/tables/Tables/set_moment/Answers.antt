use Rattle.std.proofs.Common.{◌≡◌, ◌∷◌, [], ◌++◌, refl, ap, ◌∙◌}
use Rattle.mqtt_rules.specs.step.State.{Broker}
use Rattle.mqtt_broker_step.specs.declared.undo.Undo.TheVariants.{SetMoment}
use Rattle.mqtt_broker_step.specs.Undoing.{Changing, broker_of, become, with_moment_of}
use Rattle.mqtt_broker_step.proofs.Journal.{change_is}
use Rattle.mqtt_broker_step.proofs.tables.Tables.set_moment.Goals as goal

pub returns-clause-ok : goal.returns-clause-ok
returns-clause-ok c =
    let b : Broker = broker_of c.self.inside.records c.self.inside.lines c.self.inside.tellings c.self.inside.given c.self.inside.moment in
    let pushed : c.push.new.self.items ≡ c.self.inside.journal.items ++ SetMoment c.self.inside.moment ∷ [] = c.in_ok-push.ensures.items in
    change_is c.self.inside.journal.items c.push.new.self.items (SetMoment c.self.inside.moment) b (with_moment_of c.args.moment b) (with_moment_of c.args.moment b)
    pushed refl refl
    ∙ ap (λ (v : Changing). become (with_moment_of c.args.moment v.broker) v) c.self.view_is
