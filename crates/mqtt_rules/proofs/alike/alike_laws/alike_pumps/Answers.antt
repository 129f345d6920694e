use Rattle.mqtt_rules.proofs.alike_lemmas.Steps.{turns_same, own_turns}
use Rattle.mqtt_rules.proofs.alike.alike_laws.alike_pumps.Goals as goal

pub returns-clause-turns : goal.returns-clause-turns
returns-clause-turns c = turns_same

pub returns-clause-sends : goal.returns-clause-sends
returns-clause-sends c = own_turns
