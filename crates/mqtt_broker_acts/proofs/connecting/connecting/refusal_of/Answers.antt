use Rattle.std.proofs.Common.{ℕ, List, nat_eq, not, ◌||◌, ap, ◌∙◌}
use Rattle.std.specs.Prelude.{is_some, option_map}
use Rattle.std.specs.List.{starts_with}
use Rattle.mqtt_records.specs.state.Session.{auto}
use Rattle.mqtt_rules.specs.step.State.{session_named}
use Rattle.mqtt_broker_acts.proofs.connecting_lemmas.Unassigned.{refused_by}
use Rattle.mqtt_broker_acts.proofs.connecting.connecting.refusal_of.Goals as goal

pub returns : goal.returns
returns c =
    refused_by c.args.connect.now c.args.step.now.broker.records c.may_come-known.result (option_map (λ code. code.0) c.refusal.result)
    (c.may_come-known.ensures ∙ ap (λ (name : List ℕ). not (starts_with nat_eq name auto) || is_some (session_named name c.args.step.now.broker.records)) c.as_str.ensures.value)
    c.refusal.ensures
