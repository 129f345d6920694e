use Rattle.std.proofs.Common.{◌∙◌, ap}
use Rattle.mqtt_world_ends.specs.peers.Receivers.{publication_of}
use Rattle.mqtt_world_ends.proofs.peers_lemmas.Receivers.{none_more, one_more}
use Rattle.mqtt_world_ends.proofs.peers.receiver.publications.Goals as goal
use Rattle.mqtt_world_ends.proofs.peers.receiver.publications.Goals.{in-Some+in_ok-push, in_default}

pub loop-entry-preserved : goal.loop-entry-preserved
loop-entry-preserved c =
    let l = c.loop-entry in
    let es = c.args.entries.now in
    let entry = c.entry-item.result in
    let found = c.publication.ensures ∙ ap publication_of c.entry-item.is in
    elim c.match-publication.branch [
      | in-Some+in_ok-push w ↦
          ap (λ v. v.items) w.numbers-is ∙ w.in_ok-push.ensures.items
          ∙ one_more es l.entry-index entry l.numbers.items c.publication.result w.in-Some.publication
          c.loop-entry-test.true l.invariant found w.in-Some.is
      | in_default w ↦
          ap (λ v. v.items) w.numbers-is
          ∙ none_more es l.entry-index entry l.numbers.items c.publication.result c.loop-entry-test.true l.invariant found
          w.in_default.is
    ]
