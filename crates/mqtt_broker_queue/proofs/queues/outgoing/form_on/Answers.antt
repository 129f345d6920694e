use Rattle.std.proofs.Common.{sym}
use Rattle.mqtt_rules.specs.step.Forms.{published_of}
use Rattle.mqtt_broker_queue.proofs.queues_lemmas.Forms.{found_by}
use Rattle.mqtt_broker_queue.proofs.queues.outgoing.form_on.Goals as goal

pub returns : goal.returns
returns c = λ moment id dup.
    c.form_of.ensures (published_of moment dup id c.args.row.now.copy) (sym c.topic.ensures)
    (found_by c.row_other_bytes.result c.args.row.now.copy c.row_other_bytes.ensures moment id dup)
