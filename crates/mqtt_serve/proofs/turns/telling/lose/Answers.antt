use Rattle.mqtt_serve.proofs.turns_lemmas.Gaps.{below_at}
use Rattle.mqtt_serve.proofs.turns.telling.lose.Goals as goal

pub loop-place-preserved : goal.loop-place-preserved
loop-place-preserved g c = below_at _ _ _ _ _ c.loop-place.invariant c.lose_at.ensures.loses
