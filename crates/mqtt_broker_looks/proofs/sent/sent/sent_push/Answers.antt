use Rattle.mqtt_broker_looks.proofs.sent_lemmas.Spelled.{on_ok, sent_written}
use Rattle.mqtt_broker_looks.proofs.sent.sent.sent_push.Goals as goal

pub returns : goal.returns
returns c =
    on_ok c.user_push.result
    (λ is. sent_written c.args.alias c.args.waited c.args.identifiers.now c.args.list.now _ _ _ _ _ c.in_ok-aged_all_push.ensures c.in_ok-identifiers_push.ensures c.in_ok-alias_push.ensures is)
    c.user_push.ensures
