-- An entry is its own row.
use Rattle.std.proofs.Common.{ap, ◌∙◌}
use Rattle.std.proofs.lemmas.List.{map-id}
use Rattle.mqtt_flow.specs.outbound.Outbound.{pubrec}
use Rattle.mqtt_flow.proofs.outbound.outflow.Outflow.look_pubrec.Goals as goal

pub returns : goal.returns
returns c = c.look_pubrec.ensures (record {}) ∙ ap (pubrec c.args.identifier c.args.code.0) (map-id c.entries.result.now ∙ c.entries.ensures.value)
