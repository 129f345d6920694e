use Rattle.std.proofs.Common.{sym, ◌∙◌, ap}
use Rattle.mqtt_topic.specs.names.Levels.{levels_left}
use Rattle.mqtt_topic.proofs.names_lemmas.LevelLemmas.{levels_cut_some, levels_cut_none}
use Rattle.mqtt_topic.proofs.names.levels.Levels.next.Goals as goal

pub returns-in-Some-clause-some : goal.returns-in-Some-clause-some
returns-in-Some-clause-some c =
    sym c.self.view_is ∙ ap levels_left c.in_ok-text.was ∙ levels_cut_some c.in_ok-text.text.now c.split_once.result c.in-Some.level c.in-Some.rest c.in-Some.is c.split_once.ensures.cases

pub returns-in-None-clause-some : goal.returns-in-None-clause-some
returns-in-None-clause-some c =
    sym c.self.view_is ∙ ap levels_left c.in_ok-text.was ∙ levels_cut_none c.in_ok-text.text.now c.split_once.result c.in-None.is c.split_once.ensures.cases
