use Rattle.mqtt_store_database.proofs.committing_lemmas.Kept.{step_needs, step_keeps}
use Rattle.mqtt_store_database.proofs.committing.laws.step_keeps_rows.Goals as goal

pub returns-clause-needs : goal.returns-clause-needs
returns-clause-needs c making changes db r k o fits agrees says = step_needs making changes db r k o fits agrees says

pub returns-clause-rows : goal.returns-clause-rows
returns-clause-rows c making changes db next r k o fits agrees says made = (step_keeps making changes db r k o fits agrees says next made).0

pub returns-clause-order : goal.returns-clause-order
returns-clause-order c making changes db next r k o fits agrees says made = (step_keeps making changes db r k o fits agrees says next made).1
