use Rattle.std.proofs.Common.{◌≡◌, ℕ, false, List, ap, sym, ◌∙◌}
use Rattle.std.specs.Prelude.{Some}
use Rattle.mqtt_flow.specs.inbound.Identifiers.{is_among}
use Rattle.mqtt_records.proofs.lists_lemmas.OrderLemmas.{change-none}
use Rattle.mqtt_rules.specs.step.State.{Line}
use Rattle.mqtt_broker_step.specs.Lines.{line_number, line_changed, without_went}
use Rattle.mqtt_broker_step.specs.Undoing.{with_lines}
use Rattle.mqtt_broker_step.specs.Stepping.{Stepping, with_broker}
use Rattle.mqtt_broker_step.proofs.Inverse.{change_alike, change_same}
use Rattle.mqtt_broker_step.proofs.Doing.{on_ok}
use Rattle.mqtt_broker_step.proofs.PlaceLists.{without-missing}
use Rattle.mqtt_broker_step.proofs.step.Step.drop_went.Goals as goal

pub returns-in_default-clause-ok : goal.returns-in_default-clause-ok
returns-in_default-clause-ok c =
    let s : Stepping = c.args.self.now in
    ap (λ (ls : List Line). with_broker (with_lines ls s.broker) s)
    (sym (change-none line_number c.args.line (without_went c.args.place) s.broker.lines (sym c.in_default.ensures)))

pub returns-then-not-contains-clause-ok : goal.returns-then-not-contains-clause-ok
returns-then-not-contains-clause-ok c =
    let s : Stepping = c.args.self.now in
    let l : Line = c.in-Some.state.now in
    let missing : is_among c.args.place l.went ≡ false = ap (is_among c.args.place) (sym c.went.ensures) ∙ (sym c.contains.ensures ∙ c.if-not-contains.true) in
    let same : without_went c.args.place l ≡ l = ap (λ (ws : List ℕ). let x : Line = record l { went = ws } in x) (without-missing c.args.place l.went missing) in
    ap (λ (ls : List Line). with_broker (with_lines ls s.broker) s)
    (sym (change_same line_number c.args.line (without_went c.args.place) l s.broker.lines (sym c.in-Some.ensures) same))

pub returns-in-Ok-clause-ok : goal.returns-in-Ok-clause-ok
returns-in-Ok-clause-ok c =
    let s : Stepping = c.args.self.now in
    let l : Line = c.in-Some.state.now in
    let same : line_changed c.in-Ok.change l ≡ without_went c.args.place l = c.in-Ok.ensures l (sym c.went-3.ensures) in
    on_ok c.edit_line.result
    (λ is. is ∙ ap (λ (ls : List Line). with_broker (with_lines ls s.broker) s)
    (change_alike line_number c.args.line (line_changed c.in-Ok.change) (without_went c.args.place) l s.broker.lines (sym c.in-Some.ensures) same))
    c.edit_line.ensures.ok

-- what is undone is the change that was made
pub edit_line-requires : goal.edit_line-requires
edit_line-requires c = λ l found.
    let first : Some c.in-Some.state.now ≡ Some l = c.in-Some.ensures ∙ found in
    let is : c.in-Some.state.now ≡ l = cc in
    let went : l.went ≡ c.in-Some.state.now.went = ap (λ (x : Line). x.went) (sym is) in
    ap (line_changed c.in_ok-undo.undo) (c.in-Ok.ensures l (went ∙ sym c.went-3.ensures)) ∙ c.in_ok-undo.ensures l (went ∙ sym c.went-2.ensures)
