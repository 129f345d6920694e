use Rattle.std.proofs.Common.{sym, ◌∙◌, ap}
use Rattle.mqtt_topic.specs.names.Filters.{is_filter, matching_part_of}
use Rattle.mqtt_topic.proofs.names_lemmas.FilterLemmas.{begins_share-unshared, matching_part_of-unshared}
use Rattle.mqtt_topic.proofs.names.sub_filter.SubFilter.filter.Goals as goal

pub returns-in-None-clause-value : goal.returns-in-None-clause-value
returns-in-None-clause-value c =
    let text = c.as_str-text.result.now in
    let none = begins_share-unshared text c.in-None.ensures.none (ap is_filter c.as_str-text.ensures.value ∙ c.self.invariant) in
    sym (matching_part_of-unshared text none) ∙ ap matching_part_of (c.as_str-text.ensures.value ∙ c.self.view_is)
