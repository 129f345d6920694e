-- By what each step accepts, what it brings of it, and the numbers of what is accepted.
use Rattle.mqtt_world_laws.proofs.routing_lemmas.Intended.{all_enter, copies_once}
use Rattle.mqtt_world_laws.proofs.routing.laws.each_publication_enters_exactly_its_copies.Goals as goal

pub returns-clause-enters : goal.returns-clause-enters
returns-clause-enters c = all_enter

pub returns-clause-every : goal.returns-clause-every
returns-clause-every c = copies_once
