use Rattle.mqtt_broker_looks.proofs.sent_lemmas.Spelled.{own_spelled, block_written, on_ok}
use Rattle.mqtt_broker_looks.proofs.sent.copies.block_push.Goals as goal

pub sent_push-requires : goal.sent_push-requires
sent_push-requires c = own_spelled c.args.form c.args.copy.now c.identifiers_of.result.now c.identifiers_of.ensures c.requires.spelled

pub returns : goal.returns
returns c =
    on_ok c.sent_push.result
    (λ is. block_written c.args.now c.args.pairs c.seconds_waited-waited.result c.identifiers_of.result.now c.properties_of-list.result c.args.form c.alias.result c.args.copy.now _ _ _ c.requires.pairs c.seconds_waited-waited.ensures c.identifiers_of.ensures c.properties_of-list.ensures c.alias.ensures c.in_ok-varint_push.ensures.ok is)
    c.sent_push.ensures
