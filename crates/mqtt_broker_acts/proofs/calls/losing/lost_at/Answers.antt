use Rattle.std.proofs.Common.{false, refl}
use Rattle.mqtt_rules.specs.step.Contents.{IsWilled}
use Rattle.mqtt_rules.specs.step.Routing.{subscribers}
use Rattle.mqtt_rules.specs.step.Step.{Lost, deeds_of}
use Rattle.mqtt_broker_acts.specs.closing.Wills.{will_at}
use Rattle.mqtt_broker_acts.proofs.calls_lemmas.SomeCalls.{called_some, limits_some, start_some}
use Rattle.mqtt_broker_acts.proofs.calls_lemmas.Sources.{willed}
use Rattle.mqtt_broker_acts.proofs.calls_lemmas.Begun.{at_begun, begun_is}
use Rattle.mqtt_broker_acts.proofs.calls.losing.lost_at.Goals as goal

pub lost-requires-clause-serves : goal.lost-requires-clause-serves
lost-requires-clause-serves g c =
    let s = c.args.step.now in
    let s1 = c.begin.new.self in
    let same = begun_is c.args.moment s s1 c.requires.rest c.in-Ok.ensures.ok in
    at_begun (λ r. g.R.Router.serves c.args.router.now (subscribers r)) s.limits c.args.moment s.broker s1 same c.requires.serves

pub lost-requires-clause-lawful : goal.lost-requires-clause-lawful
lost-requires-clause-lawful g c = λ birth.
    let s = c.args.step.now in
    let s1 = c.begin.new.self in
    let same = begun_is c.args.moment s s1 c.requires.rest c.in-Ok.ensures.ok in
    at_begun (λ r. IsWilled (will_at birth r)) s.limits c.args.moment s.broker s1 same (willed s.broker.records c.requires.ready.sources.stored birth)

pub returns-in-Ok-clause-called : goal.returns-in-Ok-clause-called
returns-in-Ok-clause-called g c =
    let s = c.args.step.now in
    let s1 = c.begin.new.self in
    let same = begun_is c.args.moment s s1 c.requires.rest c.in-Ok.ensures.ok in
    called_some s.limits c.args.moment (Lost c.args.line) false s.broker s1 c.lost.new.step c.lost.result same (λ choice. refl) c.lost.ensures.ok c.lost.ensures.left

pub returns-in-Ok-clause-start : goal.returns-in-Ok-clause-start
returns-in-Ok-clause-start g c =
    let s = c.args.step.now in
    let s1 = c.begin.new.self in
    let same = begun_is c.args.moment s s1 c.requires.rest c.in-Ok.ensures.ok in
    start_some s.limits c.args.moment (λ env. deeds_of env (Lost c.args.line)) s.broker s1 c.lost.new.step c.lost.result same c.lost.ensures.ok c.lost.ensures.left

pub returns-in-Ok-clause-limits : goal.returns-in-Ok-clause-limits
returns-in-Ok-clause-limits g c =
    let s = c.args.step.now in
    let s1 = c.begin.new.self in
    let same = begun_is c.args.moment s s1 c.requires.rest c.in-Ok.ensures.ok in
    limits_some s.limits c.args.moment (λ env. deeds_of env (Lost c.args.line)) s.broker s1 c.lost.new.step c.lost.result same c.lost.ensures.ok c.lost.ensures.left
