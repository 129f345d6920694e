use Rattle.std.proofs.Common.{ap, ap₂, codes, ◌≡◌, ◌∙◌}
use Rattle.std.proofs.lemmas.Result.{IfOk-weaker}
use Rattle.clap.specs.Words.{app_of, new_app, with_rule}
use Rattle.clap.specs.Simple.{app_of_fields}
use Rattle.mqtt_cli.specs.command.Limits.{with_limits}
use Rattle.mqtt_cli.proofs.command.words.replay_command.Goals as goal

pub returns-clause-app : goal.returns-clause-app
returns-clause-app c =
    let file = c.file_arg.ensures in
    let replay_is : app_of c.about.result ≡ new_app (codes "replay") = ap app_of_fields c.about.ensures ∙ c.new.ensures.app in
    let with_file = c.in_ok-command.ensures.shape file.local ∙ ap₂ with_rule replay_is file.rule in
    IfOk-weaker c.limited.result _ _ (λ r is. is ∙ ap with_limits with_file) c.limited.ensures.app
