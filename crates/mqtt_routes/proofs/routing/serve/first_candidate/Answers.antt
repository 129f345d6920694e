use Rattle.std.proofs.Common.{sym, ◌∙◌}
use Rattle.mqtt_routes.proofs.routing_lemmas.ServeLemmas.{eligible_of-drop}
use Rattle.mqtt_routes.proofs.routing.serve.first_candidate.Goals as goal

pub loop-i-preserved : goal.loop-i-preserved
loop-i-preserved g c =
    eligible_of-drop (g.S.Sessions.answers c.args.at.now) c.args.publication.now c.args.direct.now c.args.served.now c.args.filter.now c.args.members.now c.loop-i.i c.index-members-i.result c.loop-i-test.true c.index-members-i.is
    (sym c.is_candidate.ensures ∙ c.if-is_candidate.false) ∙ c.loop-i.invariant
