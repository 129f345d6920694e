use Rattle.std.proofs.Common.{List, Bool, ap, ◌∙◌}
use Rattle.std.specs.Prelude.{None, cond}
use Rattle.std.proofs.lemmas.Cmp.{nat_eq_equiv}
use Rattle.mqtt_records.specs.lists.Order.{row_at}
use Rattle.mqtt_records.proofs.lists_lemmas.LookUps.{row_at-remove_row}
use Rattle.mqtt_rules.specs.step.State.{Telling, told_line}
use Rattle.mqtt_broker_step.specs.Undoing.{Changing}
use Rattle.mqtt_broker_step.proofs.step.Step.begin_telling.Goals as goal

-- what was told on the line was taken out
pub put_telling-requires : goal.put_telling-requires
put_telling-requires c =
    let n = c.args.line in
    let ts : List Telling = c.self.inside.tables.broker.tellings in
    record {
      new = ap (λ (v : Changing). row_at told_line n v.broker.tellings) c.in_ok-take_telling.ensures.ok
          ∙ (row_at-remove_row told_line n n ts ∙ ap (λ (b : Bool). cond b None (row_at told_line n ts)) (nat_eq_equiv.refl n));
    }
