use Rattle.std.proofs.Common.{◌≡◌, ◌∷◌, map, rules, ap, sym, subst, ◌∙◌}
use Rattle.std.proofs.lemmas.List.{length-map}
use Rattle.mqtt_broker_step.specs.Stepping.{Leaves}
use Rattle.mqtt_broker_queue.specs.publications.Copies.{InCommon, copy_for, copies_for}
use Rattle.mqtt_broker_queue.specs.publications.Delivering.{addressed_all, delivers_all}
use Rattle.mqtt_broker_queue.proofs.publications_lemmas.Delivered.{Handing, hands_first, hands_room, hands_spelled, hands_step, hands_left, hands_last_for}
use Rattle.mqtt_broker_queue.proofs.publications.delivering.deliver_to.Goals as goal

pub loop-to-init : goal.loop-to-init
loop-to-init g c =
    (hands_first (copies_for c.args.common.now (map g.T.Addressed.addressee c.args.all.now)) c.args.step.now c.requires.room c.requires.spelled, c.for_copies-seats.ensures)

pub deliver-requires-clause-spelled : goal.deliver-requires-clause-spelled
deliver-requires-clause-spelled g c =
    let to_of = g.T.Addressed.addressee in
    let p = c.loop-to.common in
    let steps : c.loop-to.rest.now ≡ c.in-Some.to.now ∷ c.in-Some.after.now = search rules in
    hands_spelled (copy_for p (to_of c.in-Some.to.now)) (copies_for p (map to_of c.in-Some.after.now)) (copies_for p (map to_of c.loop-to.rest.now)) (copies_for c.args.common.now (map to_of c.args.all.now)) c.args.step.now c.loop-to.step
    (ap (λ xs. copies_for p (map to_of xs)) steps) c.loop-to.invariant.0

pub deliver-requires-clause-room : goal.deliver-requires-clause-room
deliver-requires-clause-room g c =
    let to_of = g.T.Addressed.addressee in
    let p = c.loop-to.common in
    let steps : c.loop-to.rest.now ≡ c.in-Some.to.now ∷ c.in-Some.after.now = search rules in
    hands_room (copy_for p (to_of c.in-Some.to.now)) (copies_for p (map to_of c.in-Some.after.now)) (copies_for p (map to_of c.loop-to.rest.now)) (copies_for c.args.common.now (map to_of c.args.all.now)) c.args.step.now c.loop-to.step
    (ap (λ xs. copies_for p (map to_of xs)) steps) c.loop-to.invariant.0

pub deliver-requires-clause-seats : goal.deliver-requires-clause-seats
deliver-requires-clause-seats g c = c.loop-to.invariant.1

pub loop-to-preserved : goal.loop-to-preserved
loop-to-preserved g c =
    let to_of = g.T.Addressed.addressee in
    let p = c.loop-to.common in
    let left = c.in-Some.after.now in
    let all = copies_for c.args.common.now (map to_of c.args.all.now) in
    let steps : c.loop-to.rest.now ≡ c.in-Some.to.now ∷ left = search rules in (
      subst (λ (q : InCommon). Handing (copies_for q (map to_of left)) all c.args.step.now c.deliver.new.step) (sym c.deliver.ensures.same)
          (hands_step (copy_for p (to_of c.in-Some.to.now)) (copies_for p (map to_of left)) (copies_for p (map to_of c.loop-to.rest.now)) all c.args.step.now c.loop-to.step c.deliver.new.step
          (ap (λ xs. copies_for p (map to_of xs)) steps) c.loop-to.invariant.0 c.in_ok-deliver.ensures.ok c.in_ok-deliver.ensures.entered),
      c.in_ok-deliver.ensures.seats,
    )

pub returns-in_err-deliver-clause-left : goal.returns-in_err-deliver-clause-left
returns-in_err-deliver-clause-left g c =
    let to_of = g.T.Addressed.addressee in
    let p = c.loop-to.common in
    let all = copies_for c.args.common.now (map to_of c.args.all.now) in
    let steps : c.loop-to.rest.now ≡ c.in-Some.to.now ∷ c.in-Some.after.now = search rules in
    let left : Leaves (delivers_all (addressed_all all)) c.in_err-deliver.field-0.0 c.args.step.now c.deliver.new.step =
    hands_left (copy_for p (to_of c.in-Some.to.now)) (copies_for p (map to_of c.in-Some.after.now)) (copies_for p (map to_of c.loop-to.rest.now)) all c.in_err-deliver.field-0.0 c.args.step.now c.loop-to.step c.deliver.new.step
    (ap (λ xs. copies_for p (map to_of xs)) steps) c.loop-to.invariant.0 c.in_err-deliver.ensures.left in
    search (rules, left)

pub returns-clause-ok : goal.returns-clause-ok
returns-clause-ok g c =
    let to_of = g.T.Addressed.addressee in
    hands_last_for c.loop-to.common (map to_of c.loop-to.rest.now) (copies_for c.args.common.now (map to_of c.args.all.now)) c.args.step.now c.loop-to.step
    (length-map c.loop-to.rest.now to_of ∙ c.in_default.ensures.cases) c.loop-to.invariant.0

pub returns-clause-sessions : goal.returns-clause-sessions
returns-clause-sessions g c = c.loop-to.invariant.0.sessions
