use Rattle.std.proofs.lemmas.Result.{IfOk-weaker}
use Rattle.mqtt_store_database.proofs.reading_lemmas.Loaded.{slim_before, have_after}
use Rattle.mqtt_store_database.proofs.reading.loading.queues_in.Goals as goal

pub returns-in-Ok-clause-ok : goal.returns-in-Ok-clause-ok
returns-in-Ok-clause-ok g c =
    let it = c.in-Ok.ensures.taken in
    IfOk-weaker c.finish.result _ _ (λ slim h. (it.0, slim_before c.args.queues c.read_into.new.gather c.in-Ok.ensures.goes_on it.0 slim h, it.2)) (c.finish.ensures.ok it.0 it.1)

pub returns-in-Ok-clause-err : goal.returns-in-Ok-clause-err
returns-in-Ok-clause-err g c is =
    let it = c.in-Ok.ensures.taken in
    (it.0, (λ r have. c.finish.ensures.err it.0 it.1 is r (have_after c.args.queues c.read_into.new.gather c.in-Ok.ensures.goes_on it.0 r have)), it.2)
