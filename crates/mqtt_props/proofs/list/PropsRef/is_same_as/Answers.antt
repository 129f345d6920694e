-- Lists are the same if their bytes are, and only then (MQTT 5.0, 2.2.2).
use Rattle.std.proofs.Common.{sym, ◌∙◌, ap}
use Rattle.std.proofs.lemmas.Slice.Eq.{bytes_eq-Decides}
use Rattle.mqtt_props.specs.Reading.{props_of}
use Rattle.mqtt_props.proofs.Blocks.{pairs_of}
use Rattle.mqtt_props.proofs.list.PropsRef.is_same_as.Goals as goal

pub returns : goal.returns
returns c =
    let mine = c.self.inside.pairs.now in
    let other = c.other.inside.pairs.now in
    let decided = bytes_eq-Decides mine other in (
      λ yes. sym c.self.view_is ∙ ap props_of (decided.0 (sym c.eq.ensures ∙ yes)) ∙ c.other.view_is,
      λ same. c.eq.ensures ∙ decided.1 (pairs_of mine c.args.self.now c.self.invariant c.self.view_is
          ∙ sym (pairs_of other c.args.self.now c.other.invariant (c.other.view_is ∙ sym same))),
    )
