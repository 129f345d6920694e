use Rattle.std.proofs.Common.{◌∙◌, sym}
use Rattle.mqtt_world_ends.proofs.peers_lemmas.Publishers.{all_gone, few_in_flight}
use Rattle.mqtt_world_ends.proofs.peers.publisher.PublisherEnd.send_all.Goals as goal

pub returns : goal.returns
returns c =
    let p = c.loop-self.self in
    sym (all_gone c.args.stands p.unsent p (sym c.in_ok-may_go.ensures ∙ c.if-branch.false)) ∙ c.loop-self.invariant

pub send_front-requires : goal.send_front-requires
send_front-requires c =
    let p = c.loop-self.self in
    record { few = few_in_flight p.unsent p (sym c.in_ok-may_go.ensures ∙ c.if-branch.true) }
