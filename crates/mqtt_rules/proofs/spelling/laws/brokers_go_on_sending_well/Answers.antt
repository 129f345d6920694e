use Rattle.mqtt_rules.proofs.spelling_lemmas.Steps.{well_begun, well_reopened, well_spelled, well_stepped}
use Rattle.mqtt_rules.proofs.spelling.laws.brokers_go_on_sending_well.Goals as goal

pub returns-clause-begins : goal.returns-clause-begins
returns-clause-begins c = well_begun

pub returns-clause-reopens : goal.returns-clause-reopens
returns-clause-reopens c = well_reopened

pub returns-clause-steps : goal.returns-clause-steps
returns-clause-steps c = well_stepped

pub returns-clause-spells : goal.returns-clause-spells
returns-clause-spells c = well_spelled
