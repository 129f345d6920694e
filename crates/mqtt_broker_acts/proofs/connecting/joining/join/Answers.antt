use Rattle.mqtt_broker_step.proofs.Doing.{if_ok, if_err_too}
use Rattle.mqtt_broker_acts.proofs.connecting_lemmas.AfterPreparing.{whole_joined, whole_left}
use Rattle.mqtt_broker_acts.proofs.connecting.joining.join.Goals as goal

pub returns-in-Some-clause-whole : goal.returns-in-Some-clause-whole
returns-in-Some-clause-whole c = λ l first choice number p.
    if_ok c.resume_named.result (λ joined j. whole_joined joined choice l c.args.connect.now first c.args.step.now c.resume_named.new.step p j) (c.resume_named.ensures.ok l number)

pub returns-in-Some-clause-whole_left : goal.returns-in-Some-clause-whole_left
returns-in-Some-clause-whole_left c = λ l first choice number p.
    if_err_too c.resume_named.result (λ fault left place. whole_left choice l c.args.connect.now fault first c.args.step.now c.resume_named.new.step p left place) (c.resume_named.ensures.left l number) c.resume_named.ensures.place

pub returns-in-None-clause-whole : goal.returns-in-None-clause-whole
returns-in-None-clause-whole c = λ l first choice number p.
    if_ok c.begin_placed.result (λ joined j. whole_joined joined choice l c.args.connect.now first c.args.step.now c.begin_placed.new.step p j) (c.begin_placed.ensures.ok l number)

pub returns-in-None-clause-whole_left : goal.returns-in-None-clause-whole_left
returns-in-None-clause-whole_left c = λ l first choice number p.
    if_err_too c.begin_placed.result (λ fault left place. whole_left choice l c.args.connect.now fault first c.args.step.now c.begin_placed.new.step p left place) (c.begin_placed.ensures.left l number) c.begin_placed.ensures.place
