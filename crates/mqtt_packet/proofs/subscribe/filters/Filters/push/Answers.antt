use Rattle.std.proofs.Common.{◌≡◌, ℕ, List, ◌++◌, ap, ◌∙◌}
use Rattle.mqtt_packet.specs.declared.parts.fault.Fault.TheVariants.{Malformed}
use Rattle.mqtt_base.specs.Values.{blob, FitsText}
use Rattle.mqtt_packet.specs.subscribe.Filters.{filter_at}
use Rattle.mqtt_packet.proofs.subscribe_lemmas.FilterLemmas.{filter_reads}
use Rattle.mqtt_packet.proofs.subscribe_lemmas.ItemLemmas.{one_more}
use Rattle.mqtt_packet.proofs.subscribe.filters.Filters.push.Goals as goal

pub invariant_of-self : goal.invariant_of-self
invariant_of-self c =
    let same : c.in_ok-self-inside.field-0 ≡ c.self.inside.bytes ++ blob c.args.filter.now = c.in_ok-self-inside.ensures.exact ∙ ap (λ (w : List ℕ). w ++ blob c.as_str.result.now) c.as_slice.ensures ∙ ap (λ (t : List ℕ). c.self.inside.bytes ++ blob t) c.as_str.ensures.value in
    let more = one_more Malformed filter_at blob FitsText filter_reads c.self.inside.bytes c.in_ok-self-inside.field-0 c.args.self.now c.args.filter.now c.self.invariant c.self.view_is same c.as_str.ensures.good c.in_ok-self-inside.ensures.each in
    more.0

pub returns-clause-ok : goal.returns-clause-ok
returns-clause-ok c =
    let same : c.in_ok-self-inside.field-0 ≡ c.self.inside.bytes ++ blob c.args.filter.now = c.in_ok-self-inside.ensures.exact ∙ ap (λ (w : List ℕ). w ++ blob c.as_str.result.now) c.as_slice.ensures ∙ ap (λ (t : List ℕ). c.self.inside.bytes ++ blob t) c.as_str.ensures.value in
    let more = one_more Malformed filter_at blob FitsText filter_reads c.self.inside.bytes c.in_ok-self-inside.field-0 c.args.self.now c.args.filter.now c.self.invariant c.self.view_is same c.as_str.ensures.good c.in_ok-self-inside.ensures.each in
    more.1
