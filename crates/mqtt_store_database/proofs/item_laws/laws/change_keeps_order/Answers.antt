use Rattle.mqtt_store_database.proofs.item_laws_lemmas.records.Ordered.{ordered_after, by_place_after}
use Rattle.mqtt_store_database.proofs.item_laws.laws.change_keeps_order.Goals as goal

pub returns-clause-sessions : goal.returns-clause-sessions
returns-clause-sessions c change r h = ordered_after change r h

pub returns-clause-retained : goal.returns-clause-retained
returns-clause-retained c change r h = by_place_after change r h
