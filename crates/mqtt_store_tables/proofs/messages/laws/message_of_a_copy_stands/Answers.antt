use Rattle.mqtt_store_tables.proofs.messages_lemmas.Known.{copy_has_message}
use Rattle.mqtt_store_tables.proofs.messages.laws.message_of_a_copy_stands.Goals as goal

pub returns : goal.returns
returns c making birth place message copy old new shaped done = copy_has_message making birth place message copy old new shaped done
