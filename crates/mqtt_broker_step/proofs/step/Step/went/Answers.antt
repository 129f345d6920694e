use Rattle.std.proofs.Common.{◌≡◌, ℕ, List, refl, ap, sym, ◌∙◌}
use Rattle.std.specs.Prelude.{Some}
use Rattle.mqtt_rules.specs.step.State.{Line}
use Rattle.mqtt_rules.specs.step.Deeds.{Went}
use Rattle.mqtt_broker_step.specs.declared.line.LineChange.TheVariants.{PopWent}
use Rattle.mqtt_broker_step.specs.Lines.{line_changed}
use Rattle.mqtt_broker_step.proofs.Doing.{on_ok}
use Rattle.mqtt_broker_step.proofs.LineDeeds.{on_no_line, on_ok_line}
use Rattle.mqtt_broker_step.proofs.PlaceLists.{popped}
use Rattle.mqtt_broker_step.proofs.step.Step.went.Goals as goal

pub returns-in_default-clause-ok : goal.returns-in_default-clause-ok
returns-in_default-clause-ok c = on_no_line c.args.line (Went c.args.place) c.args.self.now refl (sym c.in_default.ensures)

pub returns-clause-ok : goal.returns-clause-ok
returns-clause-ok c =
    let l : Line = c.in-Some.state.now in
    on_ok c.edit_line.result
    (on_ok_line c.args.line (Went c.args.place) c.in_ok-change.change l c.args.self.now c.edit_line.new.self refl (sym c.in-Some.ensures)
    (c.in_ok-change.ensures l (sym c.went.ensures)))
    c.edit_line.ensures.ok

pub edit_line-requires : goal.edit_line-requires
edit_line-requires c l found =
    let same : Some l ≡ Some c.in-Some.state.now = sym found ∙ sym c.in-Some.ensures in
    let is : l ≡ c.in-Some.state.now = cc in
    ap (line_changed PopWent) (c.in_ok-change.ensures l (ap (λ (x : Line). x.went) is ∙ sym c.went.ensures))
    ∙ ap (λ (ws : List ℕ). let x : Line = record l { went = ws } in x) (popped c.args.place l.went)
