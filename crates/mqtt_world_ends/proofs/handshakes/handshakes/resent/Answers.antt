use Rattle.std.proofs.Common.{◌∙◌, ap}
use Rattle.mqtt_world_ends.specs.handshakes.Fates.{packets_of}
use Rattle.mqtt_world_ends.proofs.handshakes_lemmas.Hearing.{none_resent, one_resent}
use Rattle.mqtt_world_ends.proofs.handshakes.handshakes.resent.Goals as goal
use Rattle.mqtt_world_ends.proofs.handshakes.handshakes.resent.Goals.{in-Some+in_ok-push, in_default}

pub loop-message-preserved : goal.loop-message-preserved
loop-message-preserved c =
    let i = c.loop-message.message in
    let packets = c.loop-message.packets.items in
    elim c.match-again.branch [
      | in-Some+in_ok-push w ↦
          let packet = w.in-Some.packet in
          let more = one_resent c.args.fates.now i _ packets c.again.result packet c.loop-message-test.true c.loop-message.invariant
          c.again.ensures w.in-Some.is in
          ap (λ v. packets_of v.items) w.packets-is ∙ ap packets_of w.in_ok-push.ensures.items ∙ more
      | in_default w ↦
          ap (λ v. packets_of v.items) w.packets-is
          ∙ none_resent c.args.fates.now i _ packets c.again.result c.loop-message-test.true c.loop-message.invariant
          c.again.ensures w.in_default.is
    ]
