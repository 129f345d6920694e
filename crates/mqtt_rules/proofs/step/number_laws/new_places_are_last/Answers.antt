use Rattle.mqtt_records.specs.state.Session.{copy_place}
use Rattle.mqtt_records.specs.state.Records.{kept_place}
use Rattle.mqtt_rules.proofs.step_lemmas.numbers.NumberBirths.{below_next}
use Rattle.mqtt_rules.proofs.step_lemmas.numbers.NumberPlaces.{grants_place}
use Rattle.mqtt_rules.proofs.step.number_laws.new_places_are_last.Goals as goal

pub returns-clause-copy : goal.returns-clause-copy
returns-clause-copy c copy queue = below_next copy_place queue

pub returns-clause-retained : goal.returns-clause-retained
returns-clause-retained c all = below_next kept_place all

pub returns-clause-subscription : goal.returns-clause-subscription
returns-clause-subscription c number s w new = grants_place number w.filter s.subscriptions new
