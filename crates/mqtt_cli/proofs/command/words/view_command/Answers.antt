use Rattle.std.proofs.Common.{ap, ap₂, codes, ◌≡◌, ◌∙◌}
use Rattle.std.proofs.lemmas.Result.{IfOk-weaker}
use Rattle.clap.specs.Words.{app_of, new_app, with_rule}
use Rattle.clap.specs.Simple.{app_of_fields}
use Rattle.mqtt_cli.proofs.command.words.view_command.Goals as goal

pub returns-clause-app : goal.returns-clause-app
returns-clause-app c =
    let payload = c.flag_arg.ensures in
    let properties = c.flag_arg-2.ensures in
    let json = c.flag_arg-3.ensures in
    let file = c.file_arg.ensures in
    let view_is : app_of c.about.result ≡ new_app (codes "view") = ap app_of_fields c.about.ensures ∙ c.new.ensures.app in
    let with_payload = c.in_ok-arg.ensures.shape payload.local ∙ ap₂ with_rule view_is payload.rule in
    let with_properties = c.in_ok-arg-2.ensures.shape properties.local ∙ ap₂ with_rule with_payload properties.rule in
    let with_json = c.in_ok-arg-3.ensures.shape json.local ∙ ap₂ with_rule with_properties json.rule in
    IfOk-weaker c.arg-4.result _ _ (λ r adds. adds.shape file.local ∙ ap₂ with_rule with_json file.rule) c.arg-4.ensures
