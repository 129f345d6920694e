use Rattle.std.proofs.Common.{sym, ◌∙◌}
use Rattle.mqtt_topic.proofs.names_lemmas.LevelLemmas.{levels_cut_some, levels_cut_none}
use Rattle.mqtt_topic.proofs.names_lemmas.FilterLemmas.{begins_share-one, begins_share-cut}
use Rattle.mqtt_topic.proofs.names.filter.group_of.Goals as goal

pub returns-in_err-first-clause-none : goal.returns-in_err-first-clause-none
returns-in_err-first-clause-none c =
    let none = begins_share-one c.args.text.now (levels_cut_none c.args.text.now c.split_once.result c.in_err-first.was c.split_once.ensures.cases) in rw c.from_residual.ensures none

pub returns-then-eq-clause-begins : goal.returns-then-eq-clause-begins
returns-then-eq-clause-begins c =
    begins_share-cut c.args.text.now c.in_ok-first.first.now c.in_ok-first.group.now (levels_cut_some c.args.text.now c.split_once.result c.in_ok-first.first c.in_ok-first.group c.in_ok-first.was c.split_once.ensures.cases) ∙ sym c.eq.ensures ∙ c.if-eq.true

pub returns-else-eq-clause-none : goal.returns-else-eq-clause-none
returns-else-eq-clause-none c =
    begins_share-cut c.args.text.now c.in_ok-first.first.now c.in_ok-first.group.now (levels_cut_some c.args.text.now c.split_once.result c.in_ok-first.first c.in_ok-first.group c.in_ok-first.was c.split_once.ensures.cases) ∙ sym c.eq.ensures ∙ c.if-eq.false
