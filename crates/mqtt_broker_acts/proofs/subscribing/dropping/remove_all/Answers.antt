use Rattle.std.proofs.Common.{◌≡◌, ◌∷◌, length, rules, arith}
use Rattle.mqtt_records.specs.state.Session.{birth_of}
use Rattle.mqtt_rules.proofs.step_lemmas.flight.FlightRows.{all_at}
use Rattle.mqtt_broker_step.specs.Stepping.{IsLeft}
use Rattle.mqtt_broker_step.specs.Subscribing.{HasEachFilterOnce}
use Rattle.mqtt_broker_acts.specs.subscribing.Dropping.{removes_all}
use Rattle.mqtt_broker_acts.proofs.subscribing_lemmas.Removed.{removes_step, removes_left, removes_last}
use Rattle.mqtt_broker_acts.proofs.subscribing.dropping.remove_all.Goals as goal

pub unsubscribe-requires : goal.unsubscribe-requires
unsubscribe-requires c = λ s found. all_at birth_of HasEachFilterOnce c.args.birth s c.loop-filter.step.broker.records.sessions c.loop-filter.invariant.once found

pub loop-filter-preserved : goal.loop-filter-preserved
loop-filter-preserved c =
    let steps : c.loop-filter.filter-iterator.rest.items ≡ c.in-Some.filter ∷ c.next.new.self.rest.items = search rules in
    removes_step c.args.birth c.in-Some.filter c.next.new.self.rest.items c.loop-filter.filter-iterator.rest.items c.args.filters.items c.args.step.now c.loop-filter.step c.unsubscribe.new.self
    steps c.loop-filter.invariant c.in_ok-unsubscribe.ensures.ok

pub returns-in_err-unsubscribe-clause-left : goal.returns-in_err-unsubscribe-clause-left
returns-in_err-unsubscribe-clause-left c =
    let steps : c.loop-filter.filter-iterator.rest.items ≡ c.in-Some.filter ∷ c.next.new.self.rest.items = search rules in
    let left : IsLeft (removes_all c.args.birth c.args.filters.items) c.in_err-unsubscribe.field-0.0 c.args.step.now c.unsubscribe.new.self =
    removes_left c.args.birth c.in-Some.filter c.next.new.self.rest.items c.loop-filter.filter-iterator.rest.items c.args.filters.items c.in_err-unsubscribe.field-0.0 c.args.step.now c.loop-filter.step c.unsubscribe.new.self
    steps c.loop-filter.invariant c.in_err-unsubscribe.ensures.left in
    search (rules, left)

pub returns-clause-ok : goal.returns-clause-ok
returns-clause-ok c =
    let none : length c.loop-filter.filter-iterator.rest.items ≡ 0 = omega (arith, c.in-None.ensures.steps, c.loop-filter.filter-iterator.rest.ok) in
    removes_last c.args.birth c.loop-filter.filter-iterator.rest.items c.args.filters.items c.args.step.now c.loop-filter.step none c.loop-filter.invariant
