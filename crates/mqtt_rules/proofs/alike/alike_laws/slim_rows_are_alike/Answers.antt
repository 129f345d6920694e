use Rattle.mqtt_rules.proofs.alike_lemmas.SlimRows.{slim_row, slim_alike}
use Rattle.mqtt_rules.proofs.alike.alike_laws.slim_rows_are_alike.Goals as goal

pub returns-clause-row : goal.returns-clause-row
returns-clause-row c = slim_row

pub returns-clause-broker : goal.returns-clause-broker
returns-clause-broker c = slim_alike
