use Rattle.std.proofs.Common.{◌≡◌, false, rules, refl, sym, subst, ap, ◌∙◌}
use Rattle.std.specs.Prelude.{Err}
use Rattle.mqtt_records.specs.declared.state.records.Records.{Records}
use Rattle.mqtt_rules.specs.step.Routing.{subscribers}
use Rattle.mqtt_rules.specs.step.State.{Broker}
use Rattle.mqtt_rules.specs.step.Step.{Input, deeds_of}
use Rattle.mqtt_broker_step.specs.Stepping.{Stepping}
use Rattle.mqtt_broker_step.proofs.Doing.{if_err, on_ok}
use Rattle.mqtt_broker_acts.specs.calls.Doing.{IsCalled}
use Rattle.mqtt_broker_acts.specs.calls.Inputs.{HasClient}
use Rattle.mqtt_broker_acts.proofs.calls_lemmas.Begun.{begun_is}
use Rattle.mqtt_broker_acts.proofs.calls_lemmas.Called.{client_ready}
use Rattle.mqtt_broker_acts.proofs.calls_lemmas.Clients.{client_heard}
use Rattle.mqtt_broker_acts.proofs.calls_lemmas.Heard.{left_heard, some_heard, unheard}
use Rattle.mqtt_broker_acts.proofs.calls_lemmas.OnLine.{on_line}
use Rattle.mqtt_broker_acts.proofs.calls_lemmas.SomeCalls.{called_some, limits_some, start_some}
use Rattle.mqtt_broker_acts.proofs.calls.calling.input.Goals as goal

pub take-requires-clause-serves : goal.take-requires-clause-serves
take-requires-clause-serves g c =
    subst (λ (r : Records). g.R.Router.serves c.args.router.now (subscribers r))
    (sym (ap (λ (t : Stepping). t.broker.records) c.in_ok-hear.ensures.ok.is ∙ ap (λ (t : Stepping). t.broker.records) c.in_ok-begin.ensures.ok)) c.requires.serves

pub take-requires-clause-client : goal.take-requires-clause-client
take-requires-clause-client g c =
    let s = c.args.step.now in
    let s1 = c.begin.new.self in
    let client : HasClient c.args.line c.args.birth s1.broker =
    subst (λ (b : Broker). HasClient c.args.line c.args.birth b) (sym (ap (λ (t : Stepping). t.broker) c.in_ok-begin.ensures.ok))
    (client_ready s.limits c.args.line c.args.birth c.args.moment s.broker c.requires.ready c.requires.connected) in
    subst (λ (b : Broker). HasClient c.args.line c.args.birth b) (sym (ap (λ (t : Stepping). t.broker) c.in_ok-hear.ensures.ok.is))
    (client_heard c.args.line c.args.birth s1.broker client)

-- ---- the packet is taken

pub returns-clause-called : goal.returns-clause-called
returns-clause-called g c =
    let s = c.args.step.now in
    let s1 = c.begin.new.self in
    let same = begun_is c.args.moment s s1 c.requires.rest c.in_ok-begin.ensures.ok in
    let client : HasClient c.args.line c.args.birth s1.broker =
    subst (λ (b : Broker). HasClient c.args.line c.args.birth b) (sym (ap (λ (t : Stepping). t.broker) c.in_ok-begin.ensures.ok))
    (client_ready s.limits c.args.line c.args.birth c.args.moment s.broker c.requires.ready c.requires.connected) in
    let h = on_line c.args.line c.args.birth s1.broker client in
    called_some s.limits c.args.moment (Input c.args.line c.args.packet.now) false s.broker s1 c.take.new.step c.take.result same (λ choice. refl)
    (on_ok c.take.result (some_heard c.args.line c.args.birth c.args.packet.now s1 c.hear.new.self c.take.new.step h c.in_ok-hear.ensures.ok) c.take.ensures.ok)
    (if_err c.take.result (λ fault. left_heard c.args.line c.args.birth c.args.packet.now fault s1 c.hear.new.self c.take.new.step h c.in_ok-hear.ensures.ok) c.take.ensures.left)

pub returns-clause-start : goal.returns-clause-start
returns-clause-start g c =
    let s = c.args.step.now in
    let s1 = c.begin.new.self in
    let same = begun_is c.args.moment s s1 c.requires.rest c.in_ok-begin.ensures.ok in
    let client : HasClient c.args.line c.args.birth s1.broker =
    subst (λ (b : Broker). HasClient c.args.line c.args.birth b) (sym (ap (λ (t : Stepping). t.broker) c.in_ok-begin.ensures.ok))
    (client_ready s.limits c.args.line c.args.birth c.args.moment s.broker c.requires.ready c.requires.connected) in
    let h = on_line c.args.line c.args.birth s1.broker client in
    start_some s.limits c.args.moment (λ env. deeds_of env (Input c.args.line c.args.packet.now)) s.broker s1 c.take.new.step c.take.result same
    (on_ok c.take.result (some_heard c.args.line c.args.birth c.args.packet.now s1 c.hear.new.self c.take.new.step h c.in_ok-hear.ensures.ok) c.take.ensures.ok)
    (if_err c.take.result (λ fault. left_heard c.args.line c.args.birth c.args.packet.now fault s1 c.hear.new.self c.take.new.step h c.in_ok-hear.ensures.ok) c.take.ensures.left)

pub returns-clause-limits : goal.returns-clause-limits
returns-clause-limits g c =
    let s = c.args.step.now in
    let s1 = c.begin.new.self in
    let same = begun_is c.args.moment s s1 c.requires.rest c.in_ok-begin.ensures.ok in
    let client : HasClient c.args.line c.args.birth s1.broker =
    subst (λ (b : Broker). HasClient c.args.line c.args.birth b) (sym (ap (λ (t : Stepping). t.broker) c.in_ok-begin.ensures.ok))
    (client_ready s.limits c.args.line c.args.birth c.args.moment s.broker c.requires.ready c.requires.connected) in
    let h = on_line c.args.line c.args.birth s1.broker client in
    limits_some s.limits c.args.moment (λ env. deeds_of env (Input c.args.line c.args.packet.now)) s.broker s1 c.take.new.step c.take.result same
    (on_ok c.take.result (some_heard c.args.line c.args.birth c.args.packet.now s1 c.hear.new.self c.take.new.step h c.in_ok-hear.ensures.ok) c.take.ensures.ok)
    (if_err c.take.result (λ fault. left_heard c.args.line c.args.birth c.args.packet.now fault s1 c.hear.new.self c.take.new.step h c.in_ok-hear.ensures.ok) c.take.ensures.left)

-- ---- or there is no room for its being heard

pub returns-in_err-hear-clause-called : goal.returns-in_err-hear-clause-called
returns-in_err-hear-clause-called g c =
    let s = c.args.step.now in
    let s1 = c.begin.new.self in
    let same = begun_is c.args.moment s s1 c.requires.rest c.in_ok-begin.ensures.ok in
    let client : HasClient c.args.line c.args.birth s1.broker =
    subst (λ (b : Broker). HasClient c.args.line c.args.birth b) (sym (ap (λ (t : Stepping). t.broker) c.in_ok-begin.ensures.ok))
    (client_ready s.limits c.args.line c.args.birth c.args.moment s.broker c.requires.ready c.requires.connected) in
    let h = on_line c.args.line c.args.birth s1.broker client in
    let fault = c.in_err-hear.field-0.0 in
    let left : IsCalled c.args.moment (Input c.args.line c.args.packet.now) false (Err fault) c.hear.new.self =
    called_some s.limits c.args.moment (Input c.args.line c.args.packet.now) false s.broker s1 c.hear.new.self (Err fault) same (λ choice. refl) tt
    (unheard c.args.line c.args.birth c.args.packet.now fault s1 c.hear.new.self h c.in_err-hear.ensures.left) in
    search (rules, left)
