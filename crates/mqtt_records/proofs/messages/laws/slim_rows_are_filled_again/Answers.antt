-- A slim row is filled again (MQTT 5.0, 3.3).
use Rattle.mqtt_records.proofs.messages_lemmas.Filling.{said_fits, said_whole, said_slim}
use Rattle.mqtt_records.proofs.messages.laws.slim_rows_are_filled_again.Goals as goal

pub returns-clause-fits : goal.returns-clause-fits
returns-clause-fits c = said_fits

pub returns-clause-whole : goal.returns-clause-whole
returns-clause-whole c = said_whole

pub returns-clause-again : goal.returns-clause-again
returns-clause-again c = said_slim
