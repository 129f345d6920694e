-- By the induction over the events of a run.
use Rattle.mqtt_world_laws.proofs.delivery_lemmas.whole.EveryRun.{run_carries, run_for_good, run_hands, run_hands_once, run_hands_released, run_in_order, run_keeps_ledger}
use Rattle.mqtt_world_laws.proofs.delivery.run_laws.every_run_hands_over_once.Goals as goal

pub returns-clause-once : goal.returns-clause-once
returns-clause-once c = run_hands_once

pub returns-clause-released : goal.returns-clause-released
returns-clause-released c = run_hands_released

pub returns-clause-for_good : goal.returns-clause-for_good
returns-clause-for_good c = run_for_good

pub returns-clause-in_order : goal.returns-clause-in_order
returns-clause-in_order c = run_in_order

pub returns-clause-carries : goal.returns-clause-carries
returns-clause-carries c = run_carries

pub returns-clause-grows : goal.returns-clause-grows
returns-clause-grows c = λ limits ys v client q r e f. (run_keeps_ledger limits ys v client q r e f).ledger

pub returns-clause-handed : goal.returns-clause-handed
returns-clause-handed c = run_hands
