use Rattle.mqtt_rules.proofs.filling_lemmas.Pumps.{pump_tells, filled_turns_whole}
use Rattle.mqtt_rules.proofs.filling.filling_laws.pumps_of_whole_rows_tell_the_same.Goals as goal

pub returns-clause-whole : goal.returns-clause-whole
returns-clause-whole c = pump_tells

pub returns-clause-filled : goal.returns-clause-filled
returns-clause-filled c = λ limits choice now line fillings some whole h k j.
    pump_tells limits choice now line some whole h (filled_turns_whole fillings now line some whole h k j)
