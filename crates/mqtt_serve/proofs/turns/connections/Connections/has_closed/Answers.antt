use Rattle.std.proofs.Common.{◌≡◌, false, rules}
use Rattle.mqtt_serve.specs.turns.Wires.{Wire, is_closed}
use Rattle.mqtt_serve.proofs.turns_lemmas.Gaps.{each_at_last, each_more, none_dropped, rests_open}
use Rattle.mqtt_serve.proofs.turns.connections.Connections.has_closed.Goals as goal

pub loop-place-preserved : goal.loop-place-preserved
loop-place-preserved g c =
    let next = c.in-Some.ensures in
    let behind = c.behind-from.ensures in
    let is_open : is_closed c.at.result.now.fate ≡ false = search rules in (
      search rules,
      rw behind (each_more (λ (w : Wire). is_closed w.fate ≡ false) rests_open c.args.self.now c.loop-place.from c.in-Some.place c.at.result.now
          c.loop-place.invariant.1 next.2 is_open c.at.ensures),
    )

pub returns : goal.returns
returns g c = λ none. none_dropped _ (each_at_last (λ (w : Wire). is_closed w.fate ≡ false) rests_open _ c.loop-place.from c.loop-place.invariant.1 c.in_default.ensures)
