-- Each call is an event, or none; turns are calls.
use Rattle.mqtt_serve.specs.turns.Turns.{HasTurn}
use Rattle.mqtt_serve.proofs.turns_lemmas.Lasting.{stretches_run, turn_runs, turns_run}
use Rattle.mqtt_serve.proofs.turns_lemmas.Saying.{stretches_say, turn_says, turns_say, until_calls}
use Rattle.mqtt_serve.proofs.turns_lemmas.Events.{calls_keep}
use Rattle.mqtt_serve.proofs.turns.keeping.turns_keep_all_whoever_sends.Goals as goal

pub returns-clause-calls : goal.returns-clause-calls
returns-clause-calls g c = calls_keep g.K.Keep

pub returns-clause-turns : goal.returns-clause-turns
returns-clause-turns g c begin turns told told_then old new ran within begins runs sound =
    let says = turns_say g.K.Keep (HasTurn g.K.Keep) (turn_says g.K.Keep) begin ran.read ran.last old new ran.turns_on in
    let still = turns_run g.K.Keep (HasTurn g.K.Keep) (turn_runs g.K.Keep) begin ran.read ran.last old new ran.turns_on runs in
    record { calls = says.calls; keep = calls_keep g.K.Keep old.engine new.engine says.calls within begins sound still; said = says.said }

pub returns-clause-settled : goal.returns-clause-settled
returns-clause-settled g c begin turns told told_then old new ran within begins runs sound =
    let on = ran.is_so.1 in
    let says = stretches_say g.K.Keep begin ran.read on.0 old new on.1 in
    let still = stretches_run g.K.Keep begin ran.read on.0 old new on.1 runs in
    record { calls = says.calls; keep = calls_keep g.K.Keep old.engine new.engine says.calls within begins sound still; said = says.said }

pub returns-clause-breaks : goal.returns-clause-breaks
returns-clause-breaks g c = until_calls g.K.Keep
