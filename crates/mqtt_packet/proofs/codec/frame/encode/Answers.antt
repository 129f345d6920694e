use Rattle.std.proofs.Common.{◌≡◌, List, ℕ, subst, sym, ◌∙◌, ap}
use Rattle.mqtt_packet.specs.codec.Packets.{IsShortest, shortest_of}
use Rattle.mqtt_packet.proofs.codec_lemmas.ShortestLemmas.{shortest_is}
use Rattle.mqtt_packet.proofs.codec.frame.encode.Goals as goal

pub returns-clause-shortest : goal.returns-clause-shortest
returns-clause-shortest c =
    let e : c.in_ok-frame.field-0.items ≡ shortest_of c.args.packet.now = c.in_ok-frame.ensures ∙ ap shortest_of c.lend-lent.ensures in
    subst (λ (b : List ℕ). IsShortest c.args.packet.now b) (sym e) (shortest_is c.args.packet.now c.requires)
