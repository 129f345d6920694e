use Rattle.std.proofs.Common.{◌≡◌, false, ◌&&◌, sym, ◌∙◌, ap}
use Rattle.mqtt_topic.specs.names.Names.{is_topic_name}
use Rattle.mqtt_topic.specs.names.Filters.{begins_share, is_filter, is_shared_filter}
use Rattle.mqtt_topic.proofs.names_lemmas.LevelLemmas.{levels_cut_some, levels_cut_none}
use Rattle.mqtt_topic.proofs.names_lemmas.FilterLemmas.{and_false, is_filter-share, is_filter-share_alone}
use Rattle.mqtt_topic.proofs.names_lemmas.MatchLemmas.{and_right}
use Rattle.mqtt_topic.proofs.names.shared.share_parts.Goals as goal

pub returns-in_err-name-clause-none : goal.returns-in_err-name-clause-none
returns-in_err-name-clause-none c =
    let text = c.args.text.now in
    let group = c.in_ok-group.group.now in
    let none : is_shared_filter text ≡ false =
    ap (λ b. begins_share text && b) (is_filter-share_alone text group c.in_ok-group.ensures.levels (levels_cut_none group c.split_once.result c.in_err-name.was c.split_once.ensures.cases)) ∙ and_false (begins_share text)
    in
    rw c.from_residual-in_err-name.ensures none

pub returns-clause-lawful : goal.returns-clause-lawful
returns-clause-lawful c =
    let text = c.args.text.now in
    let group = c.in_ok-group.group.now in
    let name = c.in_ok-name.name in
    let filter = c.in_ok-name.filter in
    let cut = levels_cut_some group c.split_once.result name filter c.in_ok-name.was c.split_once.ensures.cases in
    λ h. and_right (is_topic_name name.now) (is_filter filter.now) (sym (is_filter-share text group name.now filter.now c.in_ok-group.ensures.levels cut) ∙ h)
