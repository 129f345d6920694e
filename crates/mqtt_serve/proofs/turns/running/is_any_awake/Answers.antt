use Rattle.std.proofs.Common.{rules}
use Rattle.mqtt_serve.specs.turns.Settled.{CanWait}
use Rattle.mqtt_serve.proofs.turns_lemmas.Gaps.{all_there, each_at_last, each_more, rests_waits}
use Rattle.mqtt_serve.proofs.turns.running.is_any_awake.Goals as goal

pub loop-place-preserved : goal.loop-place-preserved
loop-place-preserved g c =
    let next = c.in-Some.ensures in
    let waits : CanWait c.at.result.now = search rules in (
      search rules,
      rw c.behind-from.ensures (each_more CanWait rests_waits c.args.lines.now c.loop-place.from c.in-Some.place c.at.result.now
          c.loop-place.invariant.1 next.2 waits c.at.ensures),
    )

pub returns : goal.returns
returns g c = λ none. all_there CanWait _ (each_at_last CanWait rests_waits _ c.loop-place.from c.loop-place.invariant.1 c.in_default.ensures)
