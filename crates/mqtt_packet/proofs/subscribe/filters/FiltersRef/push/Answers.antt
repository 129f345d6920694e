use Rattle.std.proofs.Common.{◌≡◌, ℕ, List, ◌++◌, cond, OnOk, Ok, Err, Result, ◌∙◌, ap}
use Rattle.std.specs.Result.{is_ok}
use Rattle.std.specs.List.{flat_map}
use Rattle.mqtt_base.proofs.Items.{items_are}
use Rattle.mqtt_packet.specs.declared.parts.fault.Fault.TheVariants.{Malformed}
use Rattle.mqtt_base.specs.Values.{blob, FitsText}
use Rattle.mqtt_packet.specs.subscribe.Filters.{filter_at}
use Rattle.mqtt_packet.proofs.subscribe_lemmas.FilterLemmas.{filter_reads}
use Rattle.mqtt_packet.proofs.subscribe.filters.FiltersRef.push.Goals as goal

appended : {X E : Type 0} (r : Result X E) (new old more text : List ℕ) → new ≡ cond (is_ok r) (old ++ more) old → more ≡ text → OnOk r (new ≡ old ++ text)
appended {X} {E} (Ok x) new old more text e f = e ∙ ap (λ (w : List ℕ). old ++ w) f
appended {X} {E} (Err d) new old more text e f = tt

pub returns-clause-ok : goal.returns-clause-ok
returns-clause-ok c =
    appended c.extend_from_slice.result c.extend_from_slice.new.self.items c.args.out.now.items c.self.inside.bytes.now (flat_map blob c.args.self.now) c.extend_from_slice.ensures.items
    ((items_are Malformed filter_at blob FitsText filter_reads c.self.inside.bytes.now c.self.invariant).0 ∙ ap (flat_map blob) c.self.view_is)
