use Rattle.std.proofs.Common.{subst}
use Rattle.std.specs.Prelude.{ℕ, Option}
use Rattle.mqtt_packet.specs.declared.codec.packet.Packet.{Packet}
use Rattle.mqtt_packet.specs.stream.Stream.{FindsSized}
use Rattle.mqtt_broker.proofs.engine_lemmas.HeldBytes.{first_taken}
use Rattle.mqtt_broker.proofs.engine.framing.first.Goals as goal

pub returns-in-Ok-Some-clause-lawful : goal.returns-in-Ok-Some-clause-lawful
returns-in-Ok-Some-clause-lawful c =
    let found = subst (λ (o : Option (Packet × ℕ × ℕ)). FindsSized (λ packet. packet) c.args.framer.now o) c.in-Ok-Some.field-0-is c.in-Ok-Some.ensures.found in
    first_taken c.args.framer.now.held c.in-Ok-Some.packet c.in-Ok-Some.size c.requires found.0

pub returns-in-Ok-Some-clause-sized : goal.returns-in-Ok-Some-clause-sized
returns-in-Ok-Some-clause-sized c =
    let found = subst (λ (o : Option (Packet × ℕ × ℕ)). FindsSized (λ packet. packet) c.args.framer.now o) c.in-Ok-Some.field-0-is c.in-Ok-Some.ensures.found in
    (c.in-Ok-Some.packet, found.0)
