use Rattle.std.proofs.Common.{subst}
use Rattle.std.specs.Prelude.{Some}
use Rattle.mqtt_flow.proofs.ring_lemmas.RingLemmas.{IsRing, leaves_ring}
use Rattle.mqtt_flow.proofs.ring.at_hand.AtHand.leave.Goals as goal
use Rattle.mqtt_flow.proofs.ring.at_hand.AtHand.leave.Goals.{in-Some, in_default}

pub invariant_of-self : goal.invariant_of-self
invariant_of-self g c = elim c.match-self.branch [
  | in-Some w ↦
      let ring : IsRing (Some w.in-Some.ring) = subst IsRing w.in-Some.is c.self.invariant in
      rw w.self-inside-is (leaves_ring c.args.place w.in-Some.ring w.remove.new.ring ring w.remove.ensures)
  | in_default w ↦ rw w.self-inside-is c.self.invariant
]
