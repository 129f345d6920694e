-- An entry is its own row.
use Rattle.std.proofs.Common.{ap, ◌∙◌}
use Rattle.std.proofs.lemmas.List.{map-id}
use Rattle.mqtt_flow.specs.outbound.Outbound.{pubcomp}
use Rattle.mqtt_flow.proofs.outbound.outflow.Outflow.look_pubcomp.Goals as goal

pub returns : goal.returns
returns c = c.look_pubcomp.ensures (record {}) ∙ ap (pubcomp c.args.identifier) (map-id c.entries.result.now ∙ c.entries.ensures.value)
