-- An entry is its own row.
use Rattle.std.proofs.Common.{◌≡◌, subst, ◌∙◌}
use Rattle.std.specs.Prelude.{IfOk}
use Rattle.std.proofs.lemmas.List.{map-id}
use Rattle.mqtt_flow.specs.outbound.Outbound.{expired}
use Rattle.mqtt_flow.proofs.outbound.outflow.Outflow.look_expire.Goals as goal

pub returns-clause-turns : goal.returns-clause-turns
returns-clause-turns c =
    subst (λ q. IfOk c.look_expire.result (λ turns. turns.items ≡ expired c.args.now q)) (map-id c.entries.result.now ∙ c.entries.ensures.value) (c.look_expire.ensures.turns (record {}))
