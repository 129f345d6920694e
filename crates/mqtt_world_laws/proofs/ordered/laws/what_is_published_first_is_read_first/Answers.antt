-- By the order in which publications are accepted, that in which their copies enter, and that in which they are first read.
use Rattle.mqtt_world_laws.proofs.ordered_lemmas.InOrder.{all_read_in_order, lives_read_in_order}
use Rattle.mqtt_world_laws.proofs.ordered.laws.what_is_published_first_is_read_first.Goals as goal

pub returns-clause-run : goal.returns-clause-run
returns-clause-run c = all_read_in_order

pub returns-clause-lives : goal.returns-clause-lives
returns-clause-lives c = lives_read_in_order
