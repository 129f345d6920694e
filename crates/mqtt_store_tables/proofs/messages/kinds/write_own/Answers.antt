use Rattle.mqtt_store_tables.specs.statements.Layout.{second_layout}
use Rattle.mqtt_store_tables.proofs.messages_lemmas.Behind.{asked}
use Rattle.mqtt_store_tables.proofs.messages_lemmas.Done.{is_ours, known_makes, number_set}
use Rattle.mqtt_store_tables.proofs.messages.kinds.write_own.Goals as goal

pub returns-in-SetNumber-clause-made : goal.returns-in-SetNumber-clause-made
returns-in-SetNumber-clause-made g c making clean whole = known_makes making _ _ _ _ c.set_number.result c.in-SetNumber.is
    (λ asks. number_set making _ _ asks.0 asks.1 _ _ c.set_number.result asks.2 (c.set_number.ensures.set (second_layout making) (asked making) asks.0 asks.1 asks.2 clean whole).0)

pub returns-in-SetNumber-clause-whole : goal.returns-in-SetNumber-clause-whole
returns-in-SetNumber-clause-whole g c making clean whole = c.set_number.ensures.whole (second_layout making) (asked making) clean whole

pub returns-in-PutSession-clause-made : goal.returns-in-PutSession-clause-made
returns-in-PutSession-clause-made g c making clean whole = known_makes making _ _ _ _ c.put_session.result c.in-PutSession.is (λ asks. (c.put_session.ensures.put (second_layout making) (is_ours making) clean whole).0)

pub returns-in-PutSession-clause-whole : goal.returns-in-PutSession-clause-whole
returns-in-PutSession-clause-whole g c making clean whole = (c.put_session.ensures.put (second_layout making) (is_ours making) clean whole).1

pub returns-in-PutWill-clause-made : goal.returns-in-PutWill-clause-made
returns-in-PutWill-clause-made g c making clean whole = known_makes making _ _ _ _ c.put_will.result c.in-PutWill.is (λ asks. (c.put_will.ensures.put (second_layout making) (asked making) clean whole).0)

pub returns-in-PutWill-clause-whole : goal.returns-in-PutWill-clause-whole
returns-in-PutWill-clause-whole g c making clean whole = (c.put_will.ensures.put (second_layout making) (asked making) clean whole).1

pub returns-in-RemoveWill-clause-made : goal.returns-in-RemoveWill-clause-made
returns-in-RemoveWill-clause-made g c making clean whole = known_makes making _ _ _ _ c.remove_will.result c.in-RemoveWill.is (λ asks. (c.remove_will.ensures.removed (second_layout making) (asked making) clean whole).0)

pub returns-in-RemoveWill-clause-whole : goal.returns-in-RemoveWill-clause-whole
returns-in-RemoveWill-clause-whole g c making clean whole = (c.remove_will.ensures.removed (second_layout making) (asked making) clean whole).1
