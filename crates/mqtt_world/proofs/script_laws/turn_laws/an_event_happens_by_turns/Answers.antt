-- Turn by turn.
use Rattle.mqtt_world.proofs.script_laws_lemmas.Single.{joins, plain_happens, quiet, reopens, stops_after, stops_before, turn_happens}
use Rattle.mqtt_world.proofs.script_laws.turn_laws.an_event_happens_by_turns.Goals as goal

pub returns-clause-turn : goal.returns-clause-turn
returns-clause-turn c = turn_happens

pub returns-clause-quiet : goal.returns-clause-quiet
returns-clause-quiet c = quiet

pub returns-clause-joins : goal.returns-clause-joins
returns-clause-joins c = joins

pub returns-clause-asked : goal.returns-clause-asked
returns-clause-asked c = plain_happens

pub returns-clause-reopens : goal.returns-clause-reopens
returns-clause-reopens c = reopens

pub returns-clause-stops_before : goal.returns-clause-stops_before
returns-clause-stops_before c = stops_before

pub returns-clause-stops_after : goal.returns-clause-stops_after
returns-clause-stops_after c = stops_after
