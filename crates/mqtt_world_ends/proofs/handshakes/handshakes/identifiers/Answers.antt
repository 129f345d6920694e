use Rattle.std.proofs.Common.{◌∙◌, ap, sym}
use Rattle.mqtt_world_ends.proofs.handshakes_lemmas.Hearing.{none_more, one_more}
use Rattle.mqtt_world_ends.proofs.handshakes.handshakes.identifiers.Goals as goal
use Rattle.mqtt_world_ends.proofs.handshakes.handshakes.identifiers.Goals.{in-Some+in_ok-push, in_default}

pub loop-fate-preserved : goal.loop-fate-preserved
loop-fate-preserved c =
    let i = c.loop-fate.fate-index in
    let ids = c.loop-fate.ids.items in
    elim c.match-identifier.branch [
      | in-Some+in_ok-push w ↦
          let id = w.in-Some.identifier in
          let more = one_more c.args.fates.now i _ ids id c.loop-fate-test.true c.loop-fate.invariant
          (sym w.in-Some.is ∙ c.identifier.ensures) in
          ap (λ v. v.items) w.ids-is ∙ w.in_ok-push.ensures.items ∙ more
      | in_default w ↦
          ap (λ v. v.items) w.ids-is
          ∙ none_more c.args.fates.now i _ ids c.loop-fate-test.true c.loop-fate.invariant
          (sym w.in_default.is ∙ c.identifier.ensures)
    ]
