use Rattle.mqtt_broker_looks.proofs.sent_lemmas.Spelled.{tells_size}
use Rattle.mqtt_broker_looks.proofs.sent.copies.row_in_len.Goals as goal

pub returns-clause-exact : goal.returns-clause-exact
returns-clause-exact c =
    (tells_size c.args.form c.args.row.now.copy c.topic.result.now c.row_other_bytes-other.result c.size_in.result
    c.topic.ensures c.row_other_bytes-other.ensures c.size-spelled.ensures.spelled.properties c.size_in.ensures).exact

pub returns-clause-spelled : goal.returns-clause-spelled
returns-clause-spelled c =
    (tells_size c.args.form c.args.row.now.copy c.topic.result.now c.row_other_bytes-other.result c.size_in.result
    c.topic.ensures c.row_other_bytes-other.ensures c.size-spelled.ensures.spelled.properties c.size_in.ensures).spelled

pub returns-clause-bound : goal.returns-clause-bound
returns-clause-bound c =
    (tells_size c.args.form c.args.row.now.copy c.topic.result.now c.row_other_bytes-other.result c.size_in.result
    c.topic.ensures c.row_other_bytes-other.ensures c.size-spelled.ensures.spelled.properties c.size_in.ensures).bound
