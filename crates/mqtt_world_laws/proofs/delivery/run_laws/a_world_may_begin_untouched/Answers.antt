-- Nothing is stored, or what is stored is opened, be it of a run.
use Rattle.mqtt_world_laws.proofs.delivery_lemmas.whole.EveryRun.{run_opens_again, run_opens_under}
use Rattle.mqtt_world_laws.proofs.delivery_lemmas.broker.Untouched.{opened_untouched, start_untouched}
use Rattle.mqtt_world_laws.proofs.delivery.run_laws.a_world_may_begin_untouched.Goals as goal

pub returns : goal.returns
returns c = record { empty = start_untouched; stored = opened_untouched; again = run_opens_again; under_others = run_opens_under }
