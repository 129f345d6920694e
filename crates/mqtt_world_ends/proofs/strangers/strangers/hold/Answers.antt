-- The one at its place.
use Rattle.std.proofs.Common.{ℕ, List, ap, subst, ◌∙◌}
use Rattle.std.specs.Prelude.{slice_set}
use Rattle.mqtt_world_model.specs.model.World.{Stranger}
use Rattle.mqtt_world_ends.specs.strangers.Strangers.{IsPlace}
use Rattle.mqtt_world_ends.proofs.strangers_lemmas.Places.{set_is_change}
use Rattle.mqtt_world_ends.proofs.strangers.strangers.hold.Goals as goal

pub returns-in-Some-get_mut : goal.returns-in-Some-get_mut
returns-in-Some-get_mut c =
    let all = c.args.all.now.items in
    let left : List ℕ → List ℕ = λ x. c.args.held.items in
    let is : IsPlace c.args.name.now all c.in-Some.place =
    subst (λ (ss : List Stranger). IsPlace c.args.name.now ss c.in-Some.place) c.deref.ensures.value c.in-Some.ensures in
    ap (λ (s : Stranger). slice_set all c.in-Some.place s)
    (c.hold.ensures ∙ ap (λ (s : Stranger). record s { held = c.args.held.items }) c.in-Some-get_mut.ensures.value)
    ∙ set_is_change c.args.name.now left all c.in-Some.place c.in-Some-get_mut.stranger.now c.requires is
