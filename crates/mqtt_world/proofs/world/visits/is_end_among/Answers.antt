-- By the name that is looked at.
use Rattle.std.proofs.Common.{◌≡◌, ◌||◌, ℕ, Bool, List, get_or, true, ap, arith, sym, ◌∙◌}
use Rattle.std.proofs.lemmas.List.Folds.{list_any_at, list_any_more}
use Rattle.mqtt_world_model.specs.model.World.{is_end}
use Rattle.mqtt_world.specs.clients.Ends.{in_world}
use Rattle.mqtt_world.proofs.world.visits.is_end_among.Goals as goal

pub returns-then-is_end : goal.returns-then-is_end
returns-then-is_end c = λ w.
    let v = in_world c.args.clients.now w in
    let is : is_end (get_or c.args.names.now c.loop-name.name-index c.name-item.result) v ≡ true =
    ap (λ (n : List ℕ). is_end n v) (sym c.name-item.is ∙ sym c.as_str.ensures.value) ∙ (sym (c.is_end.ensures w) ∙ c.if-is_end.true) in
    sym (list_any_at (λ (n : List ℕ). is_end n v) c.args.names.now c.loop-name.name-index c.name-item.result (omega arith) is)

pub loop-name-preserved : goal.loop-name-preserved
loop-name-preserved c = λ w.
    let v = in_world c.args.clients.now w in
    let test = λ (n : List ℕ). is_end n v in
    let xs = c.args.names.now in
    let i = c.loop-name.name-index in
    let d = c.name-item.result in
    list_any_more test xs i d (omega arith)
    ∙ (ap (λ (t : Bool). t || test (get_or xs i d)) (c.loop-name.invariant w)
    ∙ (ap test (sym c.name-item.is ∙ sym c.as_str.ensures.value) ∙ (sym (c.is_end.ensures w) ∙ c.if-is_end.false)))
