use Rattle.mqtt_store_tables.specs.statements.Layout.{second_layout}
use Rattle.mqtt_store_tables.proofs.messages_lemmas.Behind.{asked}
use Rattle.mqtt_store_tables.proofs.messages_lemmas.Done.{known_makes}
use Rattle.mqtt_store_tables.proofs.messages.kinds.write_wish.Goals as goal

pub returns-in-PutSubscription-clause-made : goal.returns-in-PutSubscription-clause-made
returns-in-PutSubscription-clause-made g c making clean whole = known_makes making _ _ _ _ c.put_subscription.result c.in-PutSubscription.is (λ asks. (c.put_subscription.ensures.put (second_layout making) (asked making) clean whole).0)

pub returns-in-PutSubscription-clause-whole : goal.returns-in-PutSubscription-clause-whole
returns-in-PutSubscription-clause-whole g c making clean whole = (c.put_subscription.ensures.put (second_layout making) (asked making) clean whole).1

pub returns-in-RemoveSubscription-clause-made : goal.returns-in-RemoveSubscription-clause-made
returns-in-RemoveSubscription-clause-made g c making clean whole = known_makes making _ _ _ _ c.remove_subscription.result c.in-RemoveSubscription.is (λ asks. (c.remove_subscription.ensures.removed (second_layout making) (asked making) clean whole).0)

pub returns-in-RemoveSubscription-clause-whole : goal.returns-in-RemoveSubscription-clause-whole
returns-in-RemoveSubscription-clause-whole g c making clean whole = (c.remove_subscription.ensures.removed (second_layout making) (asked making) clean whole).1

pub returns-in-PutOpen-clause-made : goal.returns-in-PutOpen-clause-made
returns-in-PutOpen-clause-made g c making clean whole = known_makes making _ _ _ _ c.put_open.result c.in-PutOpen.is (λ asks. (c.put_open.ensures.put (second_layout making) (asked making) clean whole).0)

pub returns-in-PutOpen-clause-whole : goal.returns-in-PutOpen-clause-whole
returns-in-PutOpen-clause-whole g c making clean whole = (c.put_open.ensures.put (second_layout making) (asked making) clean whole).1

pub returns-in-RemoveOpen-clause-made : goal.returns-in-RemoveOpen-clause-made
returns-in-RemoveOpen-clause-made g c making clean whole = known_makes making _ _ _ _ c.remove_open.result c.in-RemoveOpen.is (λ asks. (c.remove_open.ensures.removed (second_layout making) (asked making) clean whole).0)

pub returns-in-RemoveOpen-clause-whole : goal.returns-in-RemoveOpen-clause-whole
returns-in-RemoveOpen-clause-whole g c making clean whole = (c.remove_open.ensures.removed (second_layout making) (asked making) clean whole).1
