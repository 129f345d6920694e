use Rattle.std.proofs.Common.{◌≡◌, false, nat_lt}
use Rattle.std.proofs.lemmas.Bool.{le-ltb}
use Rattle.mqtt_base.specs.declared.limits.TheConstants.{LAST_NUMBER}
use Rattle.mqtt_rules.specs.step.Step.{number_given}
use Rattle.mqtt_broker_step.proofs.Rows.{row_if_made}
use Rattle.mqtt_broker_step.proofs.step.Step.make.Goals as goal

pub invariant_of-self : goal.invariant_of-self
invariant_of-self c =
    let within : nat_lt LAST_NUMBER (number_given c.args.row) ≡ false = le-ltb LAST_NUMBER (number_given c.args.row) c.in-Ok.ensures.within in
    row_if_made c.make_noted.result c.self.inside.tables c.make_noted.new.tables c.self.inside.rows.items c.row_noted.new.rows.items c.make_noted.new.rows.items c.args.row c.in-Ok.noted
    c.self.invariant c.row_noted.ensures.same c.in-Ok.ensures.noted c.make_noted.ensures.made c.make_noted.ensures.rows c.make_noted.ensures.tables c.make_noted.ensures.same within
