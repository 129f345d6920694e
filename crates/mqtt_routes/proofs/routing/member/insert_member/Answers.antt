use Rattle.std.proofs.Common.{length, insert, ◌∙◌, ap, arith}
use Rattle.mqtt_routes.specs.routing.Intended.{Member, insertion_spot}
use Rattle.mqtt_routes.proofs.routing_lemmas.MemberLemmas.{insert-member, insertion_spot-most}
use Rattle.mqtt_routes.proofs.routing.member.insert_member.Goals as goal

pub insert-requires : goal.insert-requires
insert-requires c =
    omega (arith, c.insertion_spot-i.ensures, insertion_spot-most c.row.inside.subscription.place c.deref.result.now, ap length c.deref.ensures.value, c.args.members.now.ok.0)

pub returns-clause-ok : goal.returns-clause-ok
returns-clause-ok c =
    let items = c.args.members.now.items in
    let place = ap (λ s. s.place) c.row.view_is ∙ ap (λ (m : Member). m.sub.place) c.member.view_is in
    let spot = c.insertion_spot-i.ensures ∙ ap (λ (p : _). insertion_spot p c.deref.result.now) place ∙ ap (insertion_spot c.args.member.sub.place) c.deref.ensures.value in
    c.in_ok-insert.ensures.items ∙ ap (λ i. insert items i c.args.member) spot ∙ insert-member c.args.member items
