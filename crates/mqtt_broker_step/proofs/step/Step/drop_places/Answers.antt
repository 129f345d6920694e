use Rattle.std.proofs.Common.{◌≡◌, ℕ, ◌≤◌, ◌+◌, suc, List, length, arith, ap, sym, subst, ◌∙◌}
use Rattle.std.proofs.lemmas.List.{length-map}
use Rattle.mqtt_rules.specs.step.State.{Line}
use Rattle.mqtt_rules.specs.step.Deeds.{without_place}
use Rattle.mqtt_broker_step.specs.Lines.{changed_from, nth_changed}
use Rattle.mqtt_broker_step.specs.Undoing.{with_lines}
use Rattle.mqtt_broker_step.specs.Stepping.{Stepping, with_broker}
use Rattle.mqtt_broker_step.proofs.LineWalk.{changed_next, changed_all_lines, changed_behind, length-changed_from}
use Rattle.mqtt_broker_step.proofs.step.Step.drop_places.Goals as goal

pub loop-at-init : goal.loop-at-init
loop-at-init c =
    let s : Stepping = c.args.self.now in
    let g : Line → Line = without_place c.args.birth c.args.place in
    let first : changed_from 0 g s.broker.lines ≡ changed_from c.next_of-at.result g s.broker.lines =
    subst (λ (ls : List Line). changed_from 0 g ls ≡ changed_from c.next_of-at.result g ls) c.lines.ensures.lines (c.next_of-at.ensures.next c.args.place) in
    ap (λ (ls : List Line). with_broker (with_lines ls s.broker) s) (sym first ∙ changed_all_lines g s.broker.lines)

pub loop-at-preserved : goal.loop-at-preserved
loop-at-preserved c =
    let s : Stepping = c.loop-at.self in
    let t : Stepping = c.drop_at.new.self in
    let g : Line → Line = without_place c.args.birth c.args.place in
    let next : c.loop-at.at + 1 ≡ suc c.loop-at.at = omega arith in
    let here : changed_from (c.loop-at.at + 1) g t.broker.lines ≡ changed_from c.next_of-at-in-loop-at.result g t.broker.lines =
    subst (λ (ls : List Line). changed_from (c.loop-at.at + 1) g ls ≡ changed_from c.next_of-at-in-loop-at.result g ls) c.lines-in-loop-at.ensures.lines (c.next_of-at-in-loop-at.ensures.next c.args.place) in
    ap (λ (ls : List Line). with_broker (with_lines ls t.broker) t) (sym here)
    ∙ (ap (λ (v : Stepping). with_broker (with_lines (changed_from (c.loop-at.at + 1) g v.broker.lines) v.broker) v) c.in_ok-drop_at.ensures.ok
    ∙ (ap (λ (ls : List Line). with_broker (with_lines ls s.broker) s)
    (ap (λ (i : ℕ). changed_from i g (nth_changed c.loop-at.at g s.broker.lines)) next ∙ changed_next g c.loop-at.at s.broker.lines)
    ∙ c.loop-at.invariant))

pub loop-at-smaller : goal.loop-at-smaller
loop-at-smaller c = omega (arith, c.loop-at-test.true, c.next_of-at-in-loop-at.ensures.behind)

pub returns-clause-ok : goal.returns-clause-ok
returns-clause-ok c =
    let s : Stepping = c.loop-at.self in
    let g : Line → Line = without_place c.args.birth c.args.place in
    let left = length-changed_from c.loop-at.at g s.broker.lines in
    let all = length-map c.args.self.now.broker.lines g in
    let same = ap (λ (v : Stepping). length v.broker.lines) c.loop-at.invariant in
    let first = ap length c.lines-count.ensures.lines in
    let behind : length s.broker.lines ≤ c.loop-at.at = omega (arith, left, all, same, first, c.loop-at-test.false) in
    ap (λ (ls : List Line). with_broker (with_lines ls s.broker) s) (sym (changed_behind g c.loop-at.at s.broker.lines behind))
    ∙ c.loop-at.invariant
