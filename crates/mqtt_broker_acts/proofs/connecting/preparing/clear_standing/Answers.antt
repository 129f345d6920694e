use Rattle.std.proofs.Common.{◌≡◌, rules, true, false}
use Rattle.std.specs.Prelude.{None}
use Rattle.mqtt_rules.specs.step.State.{session_at}
use Rattle.mqtt_broker_step.proofs.Doing.{on_ok, if_err}
use Rattle.mqtt_broker_queue.proofs.publications_lemmas.Some.{does_some}
use Rattle.mqtt_broker_acts.specs.connecting.Preparing.{clears_if}
use Rattle.mqtt_broker_acts.proofs.connecting_lemmas.Prepared.{clean_does, clean_left, clean_quiet_left, clean_some, clears_nothing, unclean_does}
use Rattle.mqtt_broker_acts.proofs.connecting.preparing.clear_standing.Goals as goal

pub returns-then-not-clean_start-clause-ok : goal.returns-then-not-clean_start-clause-ok
returns-then-not-clean_start-clause-ok g c =
    let s = c.args.step.now in
    let is : c.args.clean_start ≡ false = search rules in
    does_some (clears_if c.args.clean_start c.args.birth) s s (unclean_does c.args.clean_start c.args.birth s is)

pub returns-then-not-clean_start-clause-quiet : goal.returns-then-not-clean_start-clause-quiet
returns-then-not-clean_start-clause-quiet g c = λ quiet.
    let s = c.args.step.now in
    let is : c.args.clean_start ≡ false = search rules in
    unclean_does c.args.clean_start c.args.birth s is

pub returns-in-Some-clause-ok : goal.returns-in-Some-clause-ok
returns-in-Some-clause-ok g c =
    let is : c.args.clean_start ≡ true = search rules in
    on_ok c.publish_and_end.result (clean_some c.args.clean_start c.args.birth c.args.step.now c.publish_and_end.new.step is) c.publish_and_end.ensures.ok

pub returns-in-Some-clause-left : goal.returns-in-Some-clause-left
returns-in-Some-clause-left g c =
    let is : c.args.clean_start ≡ true = search rules in
    if_err c.publish_and_end.result (λ fault. clean_left c.args.clean_start c.args.birth fault c.args.step.now c.publish_and_end.new.step is) c.publish_and_end.ensures.left

pub returns-in-Some-clause-quiet : goal.returns-in-Some-clause-quiet
returns-in-Some-clause-quiet g c = λ none.
    let is : c.args.clean_start ≡ true = search rules in
    on_ok c.publish_and_end.result (clean_does c.args.clean_start c.args.birth c.args.step.now c.publish_and_end.new.step is) (c.publish_and_end.ensures.quiet none)

pub returns-in-Some-clause-quiet_left : goal.returns-in-Some-clause-quiet_left
returns-in-Some-clause-quiet_left g c = λ none.
    let is : c.args.clean_start ≡ true = search rules in
    if_err c.publish_and_end.result (λ fault. clean_quiet_left c.args.clean_start c.args.birth fault c.args.step.now c.publish_and_end.new.step is) (c.publish_and_end.ensures.quiet_left none)

pub returns-in-None-clause-ok : goal.returns-in-None-clause-ok
returns-in-None-clause-ok g c =
    let s = c.args.step.now in
    let is : c.args.clean_start ≡ true = search rules in
    let none : session_at c.args.birth s.broker.records ≡ None = search rules in
    does_some (clears_if c.args.clean_start c.args.birth) s s (clean_does c.args.clean_start c.args.birth s s is (clears_nothing c.args.birth s none))

pub returns-in-None-clause-quiet : goal.returns-in-None-clause-quiet
returns-in-None-clause-quiet g c = λ quiet.
    let s = c.args.step.now in
    let is : c.args.clean_start ≡ true = search rules in
    let none : session_at c.args.birth s.broker.records ≡ None = search rules in
    clean_does c.args.clean_start c.args.birth s s is (clears_nothing c.args.birth s none)
