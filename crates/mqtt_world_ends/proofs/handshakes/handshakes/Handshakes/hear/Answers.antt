use Rattle.std.proofs.Common.{◌≡◌, length, ◌∙◌, ap, map, List}
use Rattle.std.proofs.lemmas.List.{length-map, with_items_is}
use Rattle.mqtt_world_ends.specs.declared.handshakes.fates.Fate.{Fate}
use Rattle.mqtt_world_ends.specs.handshakes.Fates.{fates_of, on_heard}
use Rattle.mqtt_world_ends.proofs.handshakes_lemmas.Hearing.{all_hear}
use Rattle.mqtt_world_ends.proofs.handshakes.handshakes.Handshakes.hear.Goals as goal

pub returns : goal.returns
returns c =
    let long : length c.hear_all.new.fates ≡ c.self.inside.fates.len =
    ap length c.hear_all.ensures ∙ length-map _ _ ∙ c.deref_mut.ensures.len in
    ap fates_of (with_items_is c.self.inside.fates c.hear_all.new.fates long)
    ∙ ap fates_of c.hear_all.ensures ∙ all_hear c.args.heard c.deref_mut.result.now
    ∙ ap (λ (fs : List Fate). map (on_heard c.args.heard) (fates_of fs)) c.deref_mut.ensures.value
    ∙ ap (map (on_heard c.args.heard)) c.self.view_is
