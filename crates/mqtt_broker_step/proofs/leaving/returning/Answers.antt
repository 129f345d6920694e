use Rattle.std.proofs.Common.{◌≡◌, ℕ, ◌-◌, true, List, length, ap, sym, subst, ◌∙◌}
use Rattle.mqtt_rules.specs.step.State.{Line}
use Rattle.mqtt_broker_step.specs.Places.{IsIndexOf, has_room_behind}
use Rattle.mqtt_broker_step.proofs.PlaceLists.{put_back}
use Rattle.mqtt_broker_step.proofs.leaving.returning.Goals as goal

pub returns-then-may_put_back : goal.returns-then-may_put_back
returns-then-may_put_back c = λ (l : Line) (same : l.went ≡ c.args.went.now).
    let at : IsIndexOf c.args.place l.went c.in-Some.index = subst (λ ws. IsIndexOf c.args.place ws c.in-Some.index) (sym same) c.in-Some.ensures in
    let room : has_room_behind (length l.went - 1) ≡ true = ap (λ ws. has_room_behind (length ws - 1)) same ∙ (sym c.may_put_back.ensures ∙ c.if-may_put_back.true) in
    ap (λ (ws : List ℕ). let x : Line = record l { went = ws } in x) (put_back c.args.place c.in-Some.index l.went at room)
