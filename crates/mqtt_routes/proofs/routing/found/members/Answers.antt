-- One subscription after the other.
use Rattle.std.proofs.Common.{◌≡◌, [], cond, sym, ap, ◌∙◌}
use Rattle.std.proofs.lemmas.List.{drop_all}
use Rattle.mqtt_routes.specs.routing.Intended.{Member, insert_member, is_shared}
use Rattle.mqtt_routes.specs.routing.Found.{Found}
use Rattle.mqtt_routes.proofs.routing_lemmas.FoundLemmas.{member_of, members_found, member_next, members_are}
use Rattle.mqtt_routes.proofs.routing.found.members.Goals.{then-is_shared+in_ok-insert_member, else-is_shared}
use Rattle.mqtt_routes.proofs.routing.found.members.Goals as goal

pub returns-clause-members : goal.returns-clause-members
returns-clause-members c = λ p sessions e.
    sym (ap (λ fs. members_found fs c.loop-one.members.items) (drop_all c.loop-one.one-index c.args.found.now c.loop-one-test.false)) ∙ c.loop-one.invariant ∙ ap (λ fs. members_found fs []) e ∙ members_are p sessions

pub loop-one-preserved : goal.loop-one-preserved
loop-one-preserved c =
    let before = c.loop-one.members.items in
    let f = c.one-item.result in
    let is : is_shared f.sub ≡ c.is_shared.result = sym (c.is_shared.ensures ∙ ap (λ (x : Found). is_shared x.sub) c.one.view_is) in
    let made : c.if-is_shared.members.items ≡ cond (is_shared f.sub) (insert_member (member_of f) before) before = elim c.if-is_shared.branch [
      | then-is_shared+in_ok-insert_member w ↦
          ap (λ v. v.items) w.members-is ∙ w.in_ok-insert_member.ensures.ok ∙ ap (λ (m : Member). insert_member m before) (ap member_of c.one.view_is)
          ∙ ap (λ t. cond t (insert_member (member_of f) before) before) (sym (is ∙ w.if-is_shared.true))
      | else-is_shared w ↦ ap (λ v. v.items) w.members-is ∙ ap (λ t. cond t (insert_member (member_of f) before) before) (sym (is ∙ w.if-is_shared.false))
    ] in
    member_next c.args.found.now c.loop-one.one-index f before c.if-is_shared.members.items (members_found c.args.found.now []) c.loop-one-test.true c.one-item.is made c.loop-one.invariant
