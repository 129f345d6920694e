use Rattle.std.proofs.Common.{◌≡◌, ◌<◌, length, arith, rules, ne_eqb}
use Rattle.mqtt_serve.proofs.turns_lemmas.Noted.{lost_none, noted_awake, read_there, related_set}
use Rattle.mqtt_serve.proofs.turns.connections.Connections.lose_at.Goals as goal

pub invariant_of-self : goal.invariant_of-self
invariant_of-self g c =
    let less : c.args.place < length c.self.inside.all.items = search rules in (
      noted_awake _ _ _ _ _ c.lose_if.new.self (read_there _ _ _ less c.index_mut-then-index-number.ensures.value) c.lose_if.ensures.number c.self.invariant.0,
      c.self.invariant.1,
      c.self.invariant.2,
      c.self.invariant.3,
    )

pub returns-then-index-number-clause-loses : goal.returns-then-index-number-clause-loses
returns-then-index-number-clause-loses g c =
    let less : c.args.place < length c.self.inside.all.items = search rules in
    rw (← c.self.view_is) (related_set _ _ _ _ c.lose_if.new.self (read_there _ _ _ less c.index_mut-then-index-number.ensures.value) c.lose_if.ensures.loses)

pub returns-else-index-number-clause-loses : goal.returns-else-index-number-clause-loses
returns-else-index-number-clause-loses g c =
    let many : length c.self.inside.numbers.items ≡ length c.self.inside.all.items = c.self.invariant.0.as_many.0 in
    let place : c.args.place < length c.self.inside.all.items = search rules in
    let less : c.args.place < length c.self.inside.numbers.items = omega (arith, many, place) in
    rw (← c.self.view_is) (lost_none _ c.self.inside.awake.items _ c.args.place c.index.result.now c.args.number c.self.invariant.0
    (read_there _ _ _ less c.index.ensures) (ne_eqb _ _ c.if-index-number.false))
