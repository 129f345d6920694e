use Rattle.mqtt_broker_acts.proofs.subscribing_lemmas.Dropped.{codes_next}
use Rattle.mqtt_broker_acts.proofs.subscribing.dropping.codes_push.Goals as goal

pub loop-filter-preserved : goal.loop-filter-preserved
loop-filter-preserved c =
    codes_next c.in-Some.filter.now c.in-Some.after c.loop-filter.rest c.args.filters.now c.loop-filter.codes.items c.push.new.self.items c.in_ok-code.code c.loop-filter.gone.items c.code_of.new.gone.items c.args.session.now
    c.in-Some.ensures c.loop-filter.invariant c.in_ok-code.ensures.code c.in_ok-code.ensures.gone c.in_ok-push.ensures.items
