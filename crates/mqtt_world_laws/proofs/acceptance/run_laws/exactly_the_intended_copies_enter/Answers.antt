-- By what each act lets enter.
use Rattle.mqtt_world_laws.proofs.acceptance_lemmas.copies.StepRuns.{run_enters}
use Rattle.mqtt_world_laws.proofs.acceptance.run_laws.exactly_the_intended_copies_enter.Goals as goal

pub returns : goal.returns
returns c = record { entries = run_enters }
