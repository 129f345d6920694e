use Rattle.mqtt_store_rows.proofs.rows_lemmas.FewLemmas.{few_messages}
use Rattle.mqtt_store_rows.proofs.rows.laws.messages_are_few.Goals as goal

pub returns : goal.returns
returns c r messages within order referred = few_messages r messages within order referred
