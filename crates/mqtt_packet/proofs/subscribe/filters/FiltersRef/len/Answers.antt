use Rattle.std.proofs.Common.{ℕ, List, length, ap, subst, ◌∙◌}
use Rattle.std.specs.List.{flat_map, AllByRecursion}
use Rattle.mqtt_base.proofs.Items.{items_are}
use Rattle.mqtt_packet.specs.declared.parts.fault.Fault.TheVariants.{Malformed}
use Rattle.mqtt_base.specs.Values.{blob, FitsText}
use Rattle.mqtt_packet.specs.subscribe.Filters.{filter_at}
use Rattle.mqtt_packet.proofs.subscribe_lemmas.FilterLemmas.{filter_reads}
use Rattle.mqtt_packet.proofs.subscribe.filters.FiltersRef.len.Goals as goal

pub returns-clause-value : goal.returns-clause-value
returns-clause-value c = ap length ((items_are Malformed filter_at blob FitsText filter_reads c.self.inside.bytes.now c.self.invariant).0 ∙ ap (flat_map blob) c.self.view_is)

pub returns-clause-each : goal.returns-clause-each
returns-clause-each c = subst (λ (fs : List (List ℕ)). AllByRecursion FitsText fs) c.self.view_is (items_are Malformed filter_at blob FitsText filter_reads c.self.inside.bytes.now c.self.invariant).1
