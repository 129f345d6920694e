use Rattle.std.proofs.Common.{sym, ◌∙◌, ap}
use Rattle.mqtt_topic.specs.names.Filters.{is_filter, matching_part_of}
use Rattle.mqtt_topic.specs.names.Matching.{is_match}
use Rattle.mqtt_topic.proofs.names_lemmas.MatchLemmas.{exact}
use Rattle.mqtt_topic.proofs.names.sub_filter.SubFilter.matches.Goals as goal

pub returns-clause-exact : goal.returns-clause-exact
returns-clause-exact c =
    exact (matching_part_of c.args.self.now) c.args.name.now c.is_match.result (ap is_filter (sym c.filter.ensures.value) ∙ c.filter.ensures.lawful)
    (c.is_match.ensures ∙ ap (λ t. is_match t c.as_str.result.now) c.filter.ensures.value ∙ ap (is_match (matching_part_of c.args.self.now)) c.as_str.ensures.value)
