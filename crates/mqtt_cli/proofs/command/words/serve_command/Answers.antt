use Rattle.std.proofs.Common.{ap, ap₂, codes, ◌≡◌, ◌∙◌}
use Rattle.std.proofs.lemmas.Result.{IfOk-weaker}
use Rattle.clap.specs.Words.{app_of, new_app, with_rule}
use Rattle.clap.specs.Simple.{app_of_fields}
use Rattle.mqtt_cli.specs.command.Limits.{with_capacity}
use Rattle.mqtt_cli.proofs.command.words.serve_command.Goals as goal

pub returns-clause-app : goal.returns-clause-app
returns-clause-app c =
    let listen = c.option_arg.ensures in
    let db = c.option_arg-2.ensures in
    let turns = c.option_arg-3.ensures in
    let commit = c.choice_arg.ensures in
    let log = c.flag_arg.ensures in
    let serve_is : app_of c.about.result ≡ new_app (codes "serve") = ap app_of_fields c.about.ensures ∙ c.new.ensures.app in
    let with_listen = c.in_ok-arg.ensures.shape listen.local ∙ ap₂ with_rule serve_is listen.rule in
    let with_db = c.in_ok-arg-2.ensures.shape db.local ∙ ap₂ with_rule with_listen db.rule in
    let with_turns = c.in_ok-arg-3.ensures.shape turns.local ∙ ap₂ with_rule with_db turns.rule in
    let with_commit = c.in_ok-arg-4.ensures.shape commit.local ∙ ap₂ with_rule with_turns commit.rule in
    let with_log = c.in_ok-command.ensures.shape log.local ∙ ap₂ with_rule with_commit log.rule in
    IfOk-weaker c.with_capacity.result _ _ (λ r is. is ∙ ap with_capacity with_log) c.with_capacity.ensures.app
