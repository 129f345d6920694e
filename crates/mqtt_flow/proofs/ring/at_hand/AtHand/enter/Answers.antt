use Rattle.std.proofs.Common.{◌≡◌, true, false, sym, ap, ◌∙◌}
use Rattle.circular_buffer.specs.Buffer.{buffer}
use Rattle.mqtt_flow.specs.declared.ring.at_hand.TheConstants.{AT_HAND_LIMIT}
use Rattle.mqtt_flow.specs.ring.AtHand.{entries_of, has_room}
use Rattle.mqtt_flow.proofs.ring_lemmas.RingLemmas.{puts_behind}
use Rattle.mqtt_flow.proofs.ring.at_hand.AtHand.enter.Goals as goal
use Rattle.mqtt_flow.proofs.ring.at_hand.AtHand.enter.Goals.{then-self, else-self}

pub invariant_of-self-then-is_put : goal.invariant_of-self-then-is_put
invariant_of-self-then-is_put g c =
    let room : has_room c.args.place (entries_of c.self.inside.ring) ≡ true = elim c.if-self.branch [
      | then-self w ↦ sym w.has_room-is_put.ensures ∙ sym w.is_put-is ∙ c.if-is_put.true
      | else-self w ↦ let no : false ≡ true = sym w.if-self.false ∙ sym w.is_put-is ∙ c.if-is_put.true in absurd cc
    ] in
    let ring_is : c.in_ok-ring.ring ≡ buffer (entries_of c.self.inside.ring) AT_HAND_LIMIT =
    c.in_ok-ring.ensures.items ∙ ap (λ o. buffer (entries_of o) AT_HAND_LIMIT) c.take.ensures.value in
    (puts_behind c.args.place c.args.content c.self.inside.ring c.in_ok-ring.ring c.push_back.new.self c.self.invariant room ring_is c.push_back.ensures.items).1
