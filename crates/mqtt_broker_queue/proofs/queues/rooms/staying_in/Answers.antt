use Rattle.std.proofs.Common.{ap, sym, ◌∙◌}
use Rattle.mqtt_broker_queue.proofs.queues_lemmas.Stayings.{staying_by}
use Rattle.mqtt_broker_queue.proofs.queues.rooms.staying_in.Goals as goal

pub returns-in-Drop : goal.returns-in-Drop
returns-in-Drop c =
    staying_by c.args.step.now c.args.session.now c.first_new.result c.as_slice-queue.result.now c.staying.result
    (ap (λ l. l.full) (sym c.limits.ensures) ∙ c.in-Drop.is) c.as_slice-queue.ensures.rows
    (c.first_new.ensures c.args.step.now.start.records c.beginning.ensures)
    c.staying.ensures
