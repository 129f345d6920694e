use Rattle.std.proofs.Common.{sym, ◌∙◌}
use Rattle.std.proofs.lemmas.List.{take_rest}
use Rattle.mqtt_base.proofs.Items.{splits, ended}
use Rattle.mqtt_packet.specs.declared.parts.fault.Fault.TheVariants.{Malformed}
use Rattle.mqtt_base.specs.Values.{blob, FitsText}
use Rattle.mqtt_packet.specs.subscribe.Filters.{filter_at}
use Rattle.mqtt_packet.proofs.subscribe_lemmas.FilterLemmas.{filter_reads}
use Rattle.mqtt_packet.proofs.subscribe.filters.FiltersRef.split_first.Goals as goal

pub invariant_of-result : goal.invariant_of-result
invariant_of-result c = rw take_rest (splits Malformed filter_at blob FitsText filter_reads c.self.inside.bytes.now c.in-Ok.first.now _ c.self.invariant c.in-Ok.ensures.exact.1).whole

pub returns-in-Ok : goal.returns-in-Ok
returns-in-Ok c = rw take_rest (sym c.self.view_is ∙ (splits Malformed filter_at blob FitsText filter_reads c.self.inside.bytes.now c.in-Ok.first.now _ c.self.invariant c.in-Ok.ensures.exact.1).list)

pub returns-in-Err : goal.returns-in-Err
returns-in-Err c = sym c.self.view_is ∙ ended Malformed filter_at c.self.inside.bytes.now c.in-Err.field-0 c.self.invariant c.in-Err.ensures.exact
