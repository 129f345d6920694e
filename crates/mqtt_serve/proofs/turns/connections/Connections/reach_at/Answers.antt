use Rattle.std.proofs.Common.{◌<◌, length, rules}
use Rattle.mqtt_serve.proofs.turns_lemmas.Noted.{noted_awake, read_there, related_set}
use Rattle.mqtt_serve.proofs.turns.connections.Connections.reach_at.Goals as goal

pub invariant_of-self : goal.invariant_of-self
invariant_of-self g c =
    let less : c.args.place < length c.self.inside.all.items = search rules in (
      noted_awake _ _ _ _ _ c.reach.new.self (read_there _ _ _ less c.index_mut-2.ensures.value) c.reach.ensures.number c.self.invariant.0,
      c.self.invariant.1,
      c.self.invariant.2,
      c.self.invariant.3,
    )

pub returns-clause-reaches : goal.returns-clause-reaches
returns-clause-reaches g c =
    let less : c.args.place < length c.self.inside.all.items = search rules in
    rw (← c.self.view_is) (related_set _ _ _ _ c.reach.new.self (read_there _ _ _ less c.index_mut-2.ensures.value) c.reach.ensures.reaches)
