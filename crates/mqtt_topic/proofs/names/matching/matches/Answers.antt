use Rattle.std.proofs.Common.{◌∙◌, ap}
use Rattle.mqtt_topic.specs.names.Matching.{is_match}
use Rattle.mqtt_topic.proofs.names_lemmas.MatchLemmas.{exact}
use Rattle.mqtt_topic.proofs.names.matching.matches.Goals as goal

pub returns-clause-exact : goal.returns-clause-exact
returns-clause-exact c =
    exact c.args.filter.now c.args.name.now c.is_match.result c.as_str.ensures.lawful
    (c.is_match.ensures ∙ ap (λ t. is_match t c.as_str-2.result.now) c.as_str.ensures.value ∙ ap (is_match c.args.filter.now) c.as_str-2.ensures.value)
