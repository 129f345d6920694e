-- What is kept has a spelling (MQTT 5.0, 2.2.2).
use Rattle.std.proofs.Common.{◌≡◌, List, ℕ, ◌++◌, not, ap, ◌∙◌}
use Rattle.mqtt_props.specs.Laws.{is_named}
use Rattle.mqtt_props.specs.Properties.{props}
use Rattle.mqtt_props.specs.Edits.{without}
use Rattle.mqtt_props.proofs.Blocks.{pairs_fit}
use Rattle.mqtt_props.proofs.EditLemmas.{FitsBlock-filter, are_pairs}
use Rattle.mqtt_props.proofs.list.PropsRef.without.Goals as goal

pub invariant_of-result : goal.invariant_of-result
invariant_of-result c =
    let kept = without c.args.name c.args.self.now in
    let items : c.push_without.new.out.items ≡ props kept = c.in_ok-push_without.ensures.ok ∙ ap (λ (w : List ℕ). w ++ props kept) c.in_ok-pairs.ensures.items in
    let fits = FitsBlock-filter (λ p. not (is_named c.args.name p)) c.args.self.now (pairs_fit c.self.inside.pairs.now c.args.self.now c.self.invariant c.self.view_is) in
    (are_pairs c.in_ok-from_vec.field-0 c.push_without.new.out.items kept c.in_ok-from_vec.ensures.ok items fits c.push_without.ensures.bytes).0

pub returns : goal.returns
returns c =
    let kept = without c.args.name c.args.self.now in
    let items : c.push_without.new.out.items ≡ props kept = c.in_ok-push_without.ensures.ok ∙ ap (λ (w : List ℕ). w ++ props kept) c.in_ok-pairs.ensures.items in
    let fits = FitsBlock-filter (λ p. not (is_named c.args.name p)) c.args.self.now (pairs_fit c.self.inside.pairs.now c.args.self.now c.self.invariant c.self.view_is) in
    (are_pairs c.in_ok-from_vec.field-0 c.push_without.new.out.items kept c.in_ok-from_vec.ensures.ok items fits c.push_without.ensures.bytes).1
