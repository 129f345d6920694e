use Rattle.std.proofs.Common.{◌≡◌, ℕ, List, refl, ap, sym, ◌∙◌}
use Rattle.mqtt_rules.specs.step.State.{Line}
use Rattle.mqtt_rules.specs.step.Deeds.{Greet}
use Rattle.std.specs.Prelude.{Some}
use Rattle.mqtt_broker_step.specs.declared.line.LineChange.TheVariants as changes
use Rattle.mqtt_broker_step.specs.Undoing.{with_lines}
use Rattle.mqtt_broker_step.specs.Stepping.{with_broker}
use Rattle.mqtt_broker_step.proofs.Doing.{on_ok}
use Rattle.mqtt_broker_step.proofs.LineDeeds.{on_line_found, on_line_none}
use Rattle.mqtt_broker_step.proofs.step.Step.connect_line.Goals as goal

pub returns-in_default-clause-ok : goal.returns-in_default-clause-ok
returns-in_default-clause-ok c = λ most.
    let s = c.args.self.now in
    ap (λ (ls : List Line). with_broker (with_lines ls s.broker) s)
    (sym (on_line_none s.broker.now c.args.line (Greet c.args.birth c.args.keep_alive c.args.window c.args.largest most) s.broker.lines (sym c.in_default.ensures)))

pub returns-clause-ok : goal.returns-clause-ok
returns-clause-ok c = λ most.
    let s = c.args.self.now in
    let l : Line = c.in-Some.state.now in
    on_ok c.edit_line.result
    (λ made. made ∙ ap (λ (ls : List Line). with_broker (with_lines ls s.broker) s)
    (on_line_found s.broker.now c.args.line (Greet c.args.birth c.args.keep_alive c.args.window c.args.largest most) (changes.Greet (Some c.args.birth) c.args.keep_alive c.args.window c.args.largest) l s.broker.lines (sym c.in-Some.ensures) refl))
    c.edit_line.ensures.ok
