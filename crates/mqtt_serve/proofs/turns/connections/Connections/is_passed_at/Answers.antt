use Rattle.std.proofs.Common.{◌≡◌, ◌<◌, length, arith, rules, Some}
use Rattle.std.specs.Prelude.{slice_get}
use Rattle.mqtt_serve.proofs.turns_lemmas.Empty.{passed}
use Rattle.mqtt_serve.proofs.turns_lemmas.Noted.{number_there, read_there}
use Rattle.mqtt_serve.proofs.turns.connections.Connections.is_passed_at.Goals as goal

pub returns : goal.returns
returns g c = λ silent w is.
    let many : length c.self.inside.numbers.items ≡ length c.self.inside.all.items = c.self.invariant.0.as_many.0 in
    let place : c.args.place < length c.self.inside.all.items = search rules in
    let less : c.args.place < length c.self.inside.numbers.items = omega (arith, many, place) in
    let here : slice_get c.self.inside.all.items c.args.place ≡ Some w = search rules in
    passed _ _ c.index.result.now w
    (number_there _ c.self.inside.awake.items _ c.args.place c.index.result.now w c.self.invariant.0 (read_there _ _ _ less c.index.ensures) here)
    (c.is_silent_for.ensures.outputs silent) (c.is_silent_for.ensures.closed silent)
