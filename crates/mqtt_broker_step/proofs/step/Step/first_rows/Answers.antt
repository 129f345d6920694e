use Rattle.std.proofs.Common.{◌≡◌, ℕ, suc, ap, ◌∙◌}
use Rattle.mqtt_records.specs.declared.state.records.Records.{Records}
use Rattle.mqtt_rules.specs.step.State.{session_at}
use Rattle.mqtt_broker_step.specs.Stepping.{Stepping}
use Rattle.mqtt_broker_step.proofs.Begun.{none_below}
use Rattle.mqtt_broker_step.proofs.step.Step.first_rows.Goals as goal

pub new_row-requires : goal.new_row-requires
new_row-requires c =
    let r : Records = c.args.self.now.broker.records in
    let here : c.records.result.now ≡ r = c.records.ensures ∙ ap (λ (v : Stepping). v.broker.records) c.self.view_is in
    ap (λ (n : ℕ). session_at n r) (c.in-Ok.ensures.next ∙ ap (λ (x : Records). suc x.births) here)
    ∙ none_below (suc r.births) r.sessions c.requires
