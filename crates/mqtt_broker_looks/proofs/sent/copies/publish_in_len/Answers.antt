use Rattle.mqtt_broker_looks.proofs.sent_lemmas.Spelled.{tells_size}
use Rattle.mqtt_broker_looks.proofs.sent.copies.publish_in_len.Goals as goal

pub returns-clause-exact : goal.returns-clause-exact
returns-clause-exact c =
    (tells_size c.args.form c.args.copy.now c.topic_of.result.now c.in-Some.other c.size_in.result
    c.topic_of.ensures c.in-Some.ensures.exact c.in-Some.ensures.fits c.size_in.ensures).exact

pub returns-clause-spelled : goal.returns-clause-spelled
returns-clause-spelled c =
    (tells_size c.args.form c.args.copy.now c.topic_of.result.now c.in-Some.other c.size_in.result
    c.topic_of.ensures c.in-Some.ensures.exact c.in-Some.ensures.fits c.size_in.ensures).spelled

pub returns-clause-bound : goal.returns-clause-bound
returns-clause-bound c =
    (tells_size c.args.form c.args.copy.now c.topic_of.result.now c.in-Some.other c.size_in.result
    c.topic_of.ensures c.in-Some.ensures.exact c.in-Some.ensures.fits c.size_in.ensures).bound
