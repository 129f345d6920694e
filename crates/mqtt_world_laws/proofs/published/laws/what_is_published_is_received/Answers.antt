-- By the laws of the headline: accepted, intended, entered, ended for a cause, handed over; and by that of drains.
use Rattle.mqtt_world_laws.proofs.published_lemmas.Drained.{drain_received, lives_passed_on}
use Rattle.mqtt_world_laws.proofs.published_lemmas.Received.{all_passed_on}
use Rattle.mqtt_world_laws.proofs.published.laws.what_is_published_is_received.Goals as goal

pub returns-clause-run : goal.returns-clause-run
returns-clause-run c = all_passed_on

pub returns-clause-lives : goal.returns-clause-lives
returns-clause-lives c = lives_passed_on

pub returns-clause-drained : goal.returns-clause-drained
returns-clause-drained c = drain_received
