use Rattle.std.proofs.Common.{true, ap, ap₂, ◌∙◌}
use Rattle.std.proofs.lemmas.Result.{IfOk-weaker}
use Rattle.clap.specs.Words.{App, with_subcommand}
use Rattle.clap.specs.Simple.{app_of_fields}
use Rattle.mqtt_cli.proofs.command.words.program.Goals as goal

pub returns : goal.returns
returns c =
    let version_is = ap app_of_fields c.version.ensures
    ∙ ap (λ (a : App). let b : App = record a { top = record a.top { has_version = true } } in b) c.new.ensures.app in
    let before_is = ap app_of_fields c.before_help.ensures ∙ version_is in
    let program_is = ap app_of_fields c.after_help.ensures ∙ ap app_of_fields c.about.ensures ∙ before_is in
    let required_is = ap app_of_fields c.subcommand_required.ensures
    ∙ ap (λ (a : App). let b : App = record a { top = record a.top { subcommand_required = true } } in b) program_is in
    let view = c.in_ok-view.ensures in
    let replay = c.in_ok-replay.ensures in
    let vectors = c.vectors_command.ensures in
    let with_view = c.in_ok-subcommand.ensures.shape view.local ∙ ap₂ with_subcommand required_is (ap (λ (a : App). a.top) view.app) in
    let with_replay = c.in_ok-subcommand-2.ensures.shape replay.local ∙ ap₂ with_subcommand with_view (ap (λ (a : App). a.top) replay.app) in
    let serve = c.in_ok-serve.ensures in
    let with_vectors = c.in_ok-subcommand-3.ensures.shape vectors.local ∙ ap₂ with_subcommand with_replay (ap (λ (a : App). a.top) vectors.app) in
    IfOk-weaker c.subcommand-4.result _ _
    (λ r adds. adds.shape serve.local ∙ ap₂ with_subcommand with_vectors (ap (λ (a : App). a.top) serve.app)) c.subcommand-4.ensures
