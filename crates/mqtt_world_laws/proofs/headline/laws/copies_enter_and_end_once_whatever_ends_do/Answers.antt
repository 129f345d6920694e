-- By the laws of acceptance, of routing and of causes, none of which asks anything of ends.
use Rattle.mqtt_world_laws.proofs.headline_lemmas.Delivered.{ends_all, enters_all}
use Rattle.mqtt_world_laws.proofs.headline.laws.copies_enter_and_end_once_whatever_ends_do.Goals as goal

pub returns-clause-entering : goal.returns-clause-entering
returns-clause-entering c = enters_all

pub returns-clause-ending : goal.returns-clause-ending
returns-clause-ending c = ends_all
