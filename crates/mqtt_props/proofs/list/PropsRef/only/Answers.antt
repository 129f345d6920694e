-- What is kept has a spelling (MQTT 5.0, 2.2.2).
use Rattle.std.proofs.Common.{◌≡◌, List, ℕ, ◌++◌, ap, ◌∙◌}
use Rattle.mqtt_props.specs.Laws.{is_named}
use Rattle.mqtt_props.specs.Properties.{props}
use Rattle.mqtt_props.specs.Edits.{only}
use Rattle.mqtt_props.proofs.Blocks.{pairs_fit}
use Rattle.mqtt_props.proofs.EditLemmas.{FitsBlock-filter, are_pairs}
use Rattle.mqtt_props.proofs.list.PropsRef.only.Goals as goal

pub invariant_of-result : goal.invariant_of-result
invariant_of-result c =
    let kept = only c.args.name c.args.self.now in
    let items : c.push_only.new.out.items ≡ props kept = c.in_ok-push_only.ensures.ok ∙ ap (λ (w : List ℕ). w ++ props kept) c.in_ok-pairs.ensures.items in
    let fits = FitsBlock-filter (is_named c.args.name) c.args.self.now (pairs_fit c.self.inside.pairs.now c.args.self.now c.self.invariant c.self.view_is) in
    (are_pairs c.in_ok-from_vec.field-0 c.push_only.new.out.items kept c.in_ok-from_vec.ensures.ok items fits c.push_only.ensures.bytes).0

pub returns : goal.returns
returns c =
    let kept = only c.args.name c.args.self.now in
    let items : c.push_only.new.out.items ≡ props kept = c.in_ok-push_only.ensures.ok ∙ ap (λ (w : List ℕ). w ++ props kept) c.in_ok-pairs.ensures.items in
    let fits = FitsBlock-filter (is_named c.args.name) c.args.self.now (pairs_fit c.self.inside.pairs.now c.args.self.now c.self.invariant c.self.view_is) in
    (are_pairs c.in_ok-from_vec.field-0 c.push_only.new.out.items kept c.in_ok-from_vec.ensures.ok items fits c.push_only.ensures.bytes).1
