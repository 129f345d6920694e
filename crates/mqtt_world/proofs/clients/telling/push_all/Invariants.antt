use Rattle.std.proofs.Common.{◌≡◌, ℕ, List, drop}
use Rattle.mqtt_packet.specs.declared.codec.packet.Packet.{Packet}
use Rattle.mqtt_rules.specs.telling.Meaning.{on_line}
use Rattle.mqtt_world_laws.specs.knowing.Knowing.{AllReadAs}
use Rattle.mqtt_world.specs.clients.Telling.{spelled}
use Rattle.mqtt_world.proofs.clients_lemmas.Told.{IsLeft, SpelledOn}
use Rattle.mqtt_world.proofs.clients.telling.push_all.Given as goal

abbrev pub invariant-loop-output : goal.invariant-loop-output
invariant-loop-output g l =
    (packets : List (ℕ × Packet)) (meant : List Packet) → l.outputs ≡ spelled packets → SpelledOn l.number packets
    → AllReadAs l.fn.line.known (on_line l.number packets) meant
    → IsLeft l.number l.engine.broker packets meant l.fn.line (drop l.output-index packets) l.line
