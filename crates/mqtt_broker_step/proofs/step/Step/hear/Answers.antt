use Rattle.std.proofs.Common.{◌≡◌, List, refl, ap, sym, ◌∙◌}
use Rattle.mqtt_rules.specs.step.State.{Line}
use Rattle.mqtt_rules.specs.step.Deeds.{Hear}
use Rattle.mqtt_broker_step.specs.declared.line.LineChange.TheVariants as changes
use Rattle.mqtt_broker_step.specs.Lines.{line_changed, line_number}
use Rattle.mqtt_broker_step.specs.Undoing.{with_lines}
use Rattle.mqtt_broker_step.specs.Stepping.{Stepping, with_broker}
use Rattle.mqtt_broker_step.proofs.Doing.{on_ok}
use Rattle.mqtt_broker_step.proofs.Inverse.{change_same}
use Rattle.mqtt_broker_step.proofs.LineDeeds.{on_no_line, on_ok_line}
use Rattle.mqtt_broker_step.proofs.step.Step.hear.Goals as goal

pub returns-in_default-clause-ok : goal.returns-in_default-clause-ok
returns-in_default-clause-ok c = on_no_line c.args.line Hear c.args.self.now refl (sym c.in_default.ensures)

-- a line that was heard at this moment before is as it was
pub returns-then-heard-before-clause-ok : goal.returns-then-heard-before-clause-ok
returns-then-heard-before-clause-ok c =
    let s : Stepping = c.args.self.now in
    let l : Line = c.in-Some.state.now in
    let change = changes.Hear c.moment-heard.result in
    let same : line_changed change l ≡ l = ap (λ moment. let x : Line = record l { heard = moment } in x) (c.if-heard-before.true ∙ c.heard-before.ensures) in
    on_ok_line c.args.line Hear change l s s refl (sym c.in-Some.ensures)
    (ap (λ moment. let x : Line = record l { heard = moment } in x) c.moment-heard.ensures)
    (ap (λ (ls : List Line). with_broker (with_lines ls s.broker) s) (sym (change_same line_number c.args.line (line_changed change) l s.broker.lines (sym c.in-Some.ensures) same)))

pub returns-clause-ok : goal.returns-clause-ok
returns-clause-ok c =
    let l : Line = c.in-Some.state.now in
    on_ok c.edit_line.result
    (on_ok_line c.args.line Hear (changes.Hear c.moment-heard.result) l c.args.self.now c.edit_line.new.self refl (sym c.in-Some.ensures)
    (ap (λ moment. let x : Line = record l { heard = moment } in x) c.moment-heard.ensures))
    c.edit_line.ensures.ok
