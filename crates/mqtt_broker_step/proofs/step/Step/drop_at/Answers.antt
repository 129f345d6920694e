use Rattle.std.proofs.Common.{◌≡◌, List, length, refl, ap, sym, ◌∙◌}
use Rattle.std.specs.Prelude.{Some, None, slice_get}
use Rattle.std.proofs.lemmas.Option.{slice_get_past, slice_get_read}
use Rattle.mqtt_records.specs.lists.Order.{change_row}
use Rattle.mqtt_rules.specs.step.State.{Line}
use Rattle.mqtt_rules.specs.step.Deeds.{without_place}
use Rattle.mqtt_broker_step.specs.Lines.{line_number, without_went}
use Rattle.mqtt_broker_step.specs.Undoing.{with_lines}
use Rattle.mqtt_broker_step.specs.Stepping.{Stepping, with_broker}
use Rattle.mqtt_broker_step.proofs.LineWalk.{changed_at, changed_none, changed_same, place_own, place_other}
use Rattle.mqtt_broker_step.proofs.Doing.{on_ok}
use Rattle.mqtt_broker_step.proofs.step.Step.drop_at.Goals as goal

pub returns-in_default-clause-ok : goal.returns-in_default-clause-ok
returns-in_default-clause-ok c =
    let s : Stepping = c.args.self.now in
    let none : slice_get s.broker.lines c.args.at ≡ None = ap (λ (ls : List Line). slice_get ls c.args.at) (sym c.lines.ensures.lines) ∙ slice_get_past c.lines.result.now c.args.at c.in_default.ensures.lookup.3 in
    ap (λ (ls : List Line). with_broker (with_lines ls s.broker) s)
    (sym (changed_none (without_place c.args.birth c.args.place) c.args.at s.broker.lines none))

pub returns-then-not-is_of-clause-ok : goal.returns-then-not-is_of-clause-ok
returns-then-not-is_of-clause-ok c =
    let s : Stepping = c.args.self.now in
    let l : Line = c.in-Some.line.now in
    let found : slice_get s.broker.lines c.args.at ≡ Some l = ap (λ (ls : List Line). slice_get ls c.args.at) (sym c.lines.ensures.lines) ∙ slice_get_read c.lines.result.now (length c.lines.result.now) c.args.at l refl c.in-Some.ensures.lookup.3.0 c.in-Some.ensures.lookup.1 in
    let same = place_other c.args.birth c.args.place l (sym c.is_of.ensures ∙ c.if-not-is_of.true) in
    ap (λ (ls : List Line). with_broker (with_lines ls s.broker) s)
    (sym (changed_same (without_place c.args.birth c.args.place) c.args.at s.broker.lines l found same))

pub returns-clause-ok : goal.returns-clause-ok
returns-clause-ok c =
    let s : Stepping = c.args.self.now in
    let l : Line = c.in-Some.line.now in
    let found : slice_get s.broker.lines c.args.at ≡ Some l = ap (λ (ls : List Line). slice_get ls c.args.at) (sym c.lines.ensures.lines) ∙ slice_get_read c.lines.result.now (length c.lines.result.now) c.args.at l refl c.in-Some.ensures.lookup.3.0 c.in-Some.ensures.lookup.1 in
    let same = place_own c.args.birth c.args.place l (sym c.is_of.ensures ∙ c.if-not-is_of.false) in
    on_ok c.drop_went.result
    (λ is. is ∙ ap (λ (ls : List Line). with_broker (with_lines ls s.broker) s)
    (ap (λ n. change_row line_number n (without_went c.args.place) s.broker.lines) c.number-number.ensures
    ∙ changed_at (without_went c.args.place) (without_place c.args.birth c.args.place) c.args.at s.broker.lines l c.lines.ensures.order found same))
    c.drop_went.ensures.ok
