-- An entry is its own row.
use Rattle.std.proofs.Common.{◌≡◌, subst, ◌∙◌}
use Rattle.std.specs.Prelude.{IfOk}
use Rattle.std.proofs.lemmas.List.{map-id}
use Rattle.mqtt_flow.specs.outbound.Outbound.{resumed_with}
use Rattle.mqtt_flow.proofs.outbound.outflow.Outflow.look_resume.Goals as goal

pub returns-clause-turns : goal.returns-clause-turns
returns-clause-turns c =
    subst (λ q. IfOk c.look_resume.result (λ turns. turns.items ≡ resumed_with q)) (map-id c.entries.result.now ∙ c.entries.ensures.value) (c.look_resume.ensures.turns (record {}))
