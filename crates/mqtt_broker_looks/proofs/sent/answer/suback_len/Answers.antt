use Rattle.mqtt_broker_looks.proofs.sent_lemmas.Spelled.{suback-size, unsuback-size}
use Rattle.mqtt_broker_looks.proofs.sent.answer.suback_len.Goals as goal

pub returns-clause-suback : goal.returns-clause-suback
returns-clause-suback c = λ id codes few. suback-size c.args.filters c.varint_len.result id codes few c.varint_len.ensures.value

pub returns-clause-unsuback : goal.returns-clause-unsuback
returns-clause-unsuback c = λ id codes few. unsuback-size c.args.filters c.varint_len.result id codes few c.varint_len.ensures.value
