use Rattle.std.proofs.Common.{◌≡◌, ◌+◌, suc, List, length, refl, arith, ap, sym, ◌∙◌}
use Rattle.std.specs.Prelude.{Some, slice_get}
use Rattle.std.proofs.lemmas.Option.{slice_get_read}
use Rattle.mqtt_rules.specs.step.State.{Line}
use Rattle.mqtt_rules.specs.step.Deeds.{without_place}
use Rattle.mqtt_broker_step.specs.Lines.{changed_from}
use Rattle.mqtt_broker_step.proofs.LineWalk.{changed_next, changed_same, place_other}
use Rattle.mqtt_broker_step.proofs.leaving.next_of.Goals as goal

pub loop-at-preserved : goal.loop-at-preserved
loop-at-preserved c =
    let lines = c.args.lines.now in
    let l : Line = c.index-lines-at.result in
    let found : slice_get lines c.loop-at.at ≡ Some l = slice_get_read lines (length lines) c.loop-at.at l refl c.loop-at-test.true c.index-lines-at.is in
    let next : suc c.loop-at.at ≡ c.loop-at.at + 1 = omega arith in (
      λ place.
          let g : Line → Line = without_place c.args.birth place in
          let same = place_other c.args.birth place l (sym c.is_of.ensures ∙ c.if-not-is_of.true) in
          c.loop-at.invariant.0 place
          ∙ (sym (changed_next g c.loop-at.at lines)
          ∙ (ap (λ (ls : List Line). changed_from (suc c.loop-at.at) g ls) (changed_same g c.loop-at.at lines l found same)
          ∙ ap (λ i. changed_from i g lines) next)),
      omega (arith, c.loop-at.invariant.1),
    )
