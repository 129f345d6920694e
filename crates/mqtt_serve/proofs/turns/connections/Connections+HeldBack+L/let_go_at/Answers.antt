use Rattle.std.proofs.Common.{◌≡◌, ◌<◌, length, true, refl, rules, subst, sym}
use Rattle.memchr.specs.Find.{is_byte}
use Rattle.mqtt_serve.specs.declared.turns.connections.TheConstants.{AWAKE}
use Rattle.mqtt_serve.specs.turns.Resting.{Rests}
use Rattle.mqtt_serve.proofs.turns_lemmas.Noted.{noted_by, read_set, read_there, related_set}
use Rattle.mqtt_serve.proofs.turns.connections.Connections+HeldBack+L.let_go_at.Goals.{then-is_at_rest, else-is_at_rest}
use Rattle.mqtt_serve.proofs.turns.connections.Connections+HeldBack+L.let_go_at.Goals as goal

pub invariant_of-self : goal.invariant_of-self
invariant_of-self g c =
    let less : c.args.place < length c.self.inside.all.items = search rules in (
      noted_by _ _ _ _ _ _ c.let_go-went.new.self (read_there _ _ _ less c.index_mut.ensures.value) c.let_go-went.ensures.number
          (elim c.if-is_at_rest.branch [
            | then-is_at_rest w ↦ λ sleeps. subst Rests (sym (read_set _ _ _ _ less c.index.ensures)) (c.is_at_rest.ensures w.if-is_at_rest.true)
            | else-is_at_rest w ↦ λ sleeps. absurd (sleeps (subst (λ b. is_byte AWAKE b ≡ true) (sym w.t-17-is) refl))
          ]) c.self.invariant.0,
      c.self.invariant.1,
      c.self.invariant.2,
      c.self.invariant.3,
    )

pub returns-clause-lets : goal.returns-clause-lets
returns-clause-lets g c =
    let less : c.args.place < length c.self.inside.all.items = search rules in
    rw (← c.self.view_is) (related_set _ _ _ _ c.let_go-went.new.self (read_there _ _ _ less c.index_mut.ensures.value) c.let_go-went.ensures.lets)
