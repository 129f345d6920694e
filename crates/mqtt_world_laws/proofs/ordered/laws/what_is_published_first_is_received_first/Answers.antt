-- By the order in which publications are accepted, that in which their copies enter, and that of a ledger.
use Rattle.mqtt_world_laws.proofs.ordered_lemmas.InOrder.{all_in_order, lives_in_order}
use Rattle.mqtt_world_laws.proofs.ordered.laws.what_is_published_first_is_received_first.Goals as goal

pub returns-clause-run : goal.returns-clause-run
returns-clause-run c = all_in_order

pub returns-clause-lives : goal.returns-clause-lives
returns-clause-lives c = lives_in_order
