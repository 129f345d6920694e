use Rattle.std.proofs.Common.{rules, sym, ◌∙◌, ap, ◌&&◌, not}
use Rattle.mqtt_topic.specs.names.Levels.{levels}
use Rattle.mqtt_topic.specs.names.Filters.{is_filter, are_filter_levels}
use Rattle.mqtt_topic.proofs.names_lemmas.LevelLemmas.{levels_cut_some, levels_cut_none}
use Rattle.mqtt_topic.proofs.names_lemmas.FilterLemmas.{not_empty, is_filter-share, is_filter-share_alone, is_filter-unshared}
use Rattle.mqtt_topic.proofs.names.filter.is_filter.Goals as goal

pub loop-group-preserved : goal.loop-group-preserved
loop-group-preserved c =
    let group = c.in-Some.group.now in
    let name = c.in-Some-split_once.name in
    let shared = c.in-Some-split_once.shared in
    let cut = levels_cut_some group c.split_once.result name shared c.in-Some-split_once.is c.split_once.ensures.cases in
    (search rules, ap (λ b. b && is_filter shared.now) (sym (sym c.is_share_name.ensures ∙ c.if-not-is_share_name.false)) ∙ sym (is_filter-share c.loop-group.filter.now group name.now shared.now c.in-Some.ensures.levels cut) ∙ c.loop-group.invariant.1)

pub returns-then-not-is_share_name : goal.returns-then-not-is_share_name
returns-then-not-is_share_name c =
    let group = c.in-Some.group.now in
    let name = c.in-Some-split_once.name in
    let shared = c.in-Some-split_once.shared in
    let cut = levels_cut_some group c.split_once.result name shared c.in-Some-split_once.is c.split_once.ensures.cases in
    ap (λ b. b && is_filter shared.now) (sym (sym c.is_share_name.ensures ∙ c.if-not-is_share_name.true)) ∙ sym (is_filter-share c.loop-group.filter.now group name.now shared.now c.in-Some.ensures.levels cut) ∙ c.loop-group.invariant.1

pub returns-in_default-split_once : goal.returns-in_default-split_once
returns-in_default-split_once c =
    sym (is_filter-share_alone c.loop-group.filter.now c.in-Some.group.now c.in-Some.ensures.levels (levels_cut_none c.in-Some.group.now c.split_once.result c.in_default-split_once.is c.split_once.ensures.cases))
    ∙ c.loop-group.invariant.1

pub returns-then-not-is_empty : goal.returns-then-not-is_empty
returns-then-not-is_empty c =
    let filter = c.loop-group.filter.now in
    let some = not_empty filter (sym c.is_empty.ensures ∙ c.if-not-is_empty.true) in
    c.has_filter_levels.ensures ∙ ap (λ b. not b && are_filter_levels (levels filter)) (sym some) ∙ sym (is_filter-unshared filter c.in_default.ensures.none) ∙ c.loop-group.invariant.1
