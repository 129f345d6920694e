use Rattle.std.proofs.Common.{ap₂, ◌∙◌}
use Rattle.std.proofs.lemmas.Result.{IfOk-weaker}
use Rattle.clap.specs.Words.{with_rule}
use Rattle.mqtt_cli.proofs.command.limits.with_capacity.Goals as goal

pub returns-clause-app : goal.returns-clause-app
returns-clause-app c =
    let option = c.choice_arg.ensures in
    IfOk-weaker c.arg.result _ _ (λ r adds. adds.shape option.local ∙ ap₂ with_rule c.in_ok-limited.ensures.app option.rule) c.arg.ensures
