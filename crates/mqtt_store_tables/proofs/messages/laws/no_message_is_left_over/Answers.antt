use Rattle.mqtt_store_tables.proofs.messages_lemmas.LeftOver.{none_is_left}
use Rattle.mqtt_store_tables.proofs.messages.laws.no_message_is_left_over.Goals as goal

pub returns : goal.returns
returns c making change old new shaped all done = none_is_left making old new change shaped all done
