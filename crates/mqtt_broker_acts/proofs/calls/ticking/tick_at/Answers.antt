use Rattle.mqtt_rules.specs.step.Contents.{IsWilled}
use Rattle.mqtt_rules.specs.step.Routing.{subscribers}
use Rattle.mqtt_rules.specs.step.Step.{Tick, deeds_of}
use Rattle.mqtt_broker_acts.specs.closing.Wills.{will_at}
use Rattle.mqtt_broker_acts.proofs.calls_lemmas.SomeCalls.{again_some, limits_some, spent_some, start_some}
use Rattle.mqtt_broker_acts.proofs.calls_lemmas.Sources.{willed}
use Rattle.mqtt_broker_acts.specs.clock.Quiet.{AreQuietBefore}
use Rattle.mqtt_broker_acts.proofs.calls_lemmas.Begun.{at_begun, begun_is}
use Rattle.mqtt_broker_acts.proofs.calls.ticking.tick_at.Goals as goal

pub tick-requires-clause-serves : goal.tick-requires-clause-serves
tick-requires-clause-serves g c =
    let s = c.args.step.now in
    let s1 = c.begin.new.self in
    let same = begun_is c.args.moment s s1 c.requires.rest c.in-Ok.ensures.ok in
    at_begun (λ r. g.R.Router.serves c.args.router.now (subscribers r)) s.limits c.args.moment s.broker s1 same c.requires.serves

pub tick-requires-clause-quiet : goal.tick-requires-clause-quiet
tick-requires-clause-quiet g c =
    let s = c.args.step.now in
    let s1 = c.begin.new.self in
    let same = begun_is c.args.moment s s1 c.requires.rest c.in-Ok.ensures.ok in
    at_begun (AreQuietBefore c.args.quiet) s.limits c.args.moment s.broker s1 same c.requires.quiet

pub tick-requires-clause-lawful : goal.tick-requires-clause-lawful
tick-requires-clause-lawful g c = λ birth.
    let s = c.args.step.now in
    let s1 = c.begin.new.self in
    let same = begun_is c.args.moment s s1 c.requires.rest c.in-Ok.ensures.ok in
    at_begun (λ r. IsWilled (will_at birth r)) s.limits c.args.moment s.broker s1 same (willed s.broker.records c.requires.ready.sources.stored birth)

pub returns-in-Ok-clause-called : goal.returns-in-Ok-clause-called
returns-in-Ok-clause-called g c =
    let s = c.args.step.now in
    let s1 = c.begin.new.self in
    let same = begun_is c.args.moment s s1 c.requires.rest c.in-Ok.ensures.ok in
    again_some s.limits c.args.moment Tick s.broker s1 c.tick.new.step c.tick.result same c.tick.ensures.again c.tick.ensures.ok

pub returns-in-Ok-clause-left : goal.returns-in-Ok-clause-left
returns-in-Ok-clause-left g c =
    let s = c.args.step.now in
    let s1 = c.begin.new.self in
    let same = begun_is c.args.moment s s1 c.requires.rest c.in-Ok.ensures.ok in
    spent_some s.limits c.args.moment Tick s.broker s1 c.tick.new.step c.tick.result same c.tick.ensures.left

pub returns-in-Ok-clause-start : goal.returns-in-Ok-clause-start
returns-in-Ok-clause-start g c =
    let s = c.args.step.now in
    let s1 = c.begin.new.self in
    let same = begun_is c.args.moment s s1 c.requires.rest c.in-Ok.ensures.ok in
    start_some s.limits c.args.moment (λ env. deeds_of env Tick) s.broker s1 c.tick.new.step c.tick.result same c.tick.ensures.ok c.tick.ensures.left

pub returns-in-Ok-clause-limits : goal.returns-in-Ok-clause-limits
returns-in-Ok-clause-limits g c =
    let s = c.args.step.now in
    let s1 = c.begin.new.self in
    let same = begun_is c.args.moment s s1 c.requires.rest c.in-Ok.ensures.ok in
    limits_some s.limits c.args.moment (λ env. deeds_of env Tick) s.broker s1 c.tick.new.step c.tick.result same c.tick.ensures.ok c.tick.ensures.left
