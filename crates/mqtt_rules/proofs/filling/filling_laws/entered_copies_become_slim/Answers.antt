use Rattle.mqtt_rules.proofs.filling_lemmas.Entered.{entered_last, entered_first, entered_alone, filled_but}
use Rattle.mqtt_rules.proofs.filling.filling_laws.entered_copies_become_slim.Goals as goal

pub returns-clause-all : goal.returns-clause-all
returns-clause-all c = entered_last

pub returns-clause-after : goal.returns-clause-after
returns-clause-after c = entered_first

pub returns-clause-entered : goal.returns-clause-entered
returns-clause-entered c = entered_alone

pub returns-clause-filled : goal.returns-clause-filled
returns-clause-filled c = filled_but
