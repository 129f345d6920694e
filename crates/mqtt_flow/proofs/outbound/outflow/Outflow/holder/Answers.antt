-- An entry is its own row.
use Rattle.std.proofs.Common.{sym, ap, ◌∙◌}
use Rattle.std.specs.Option.{option_copied}
use Rattle.std.proofs.lemmas.Iterator.Adapters.{option_map_id}
use Rattle.std.proofs.lemmas.List.{map-id}
use Rattle.mqtt_flow.specs.outbound.Queue.{holder}
use Rattle.mqtt_flow.proofs.outbound.outflow.Outflow.holder.Goals as goal

pub returns : goal.returns
returns c =
    let queue = map-id c.deref.result.now ∙ c.deref.ensures.value ∙ ap (λ v. v.queue) c.self.view_is in
    sym (option_map_id (option_copied c.holder.result)) ∙ c.holder.ensures (record {}) ∙ ap (holder c.args.identifier) queue
