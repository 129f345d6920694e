use Rattle.std.proofs.Common.{◌≡◌, Err, rules, refl}
use Rattle.mqtt_serve.proofs.turns_lemmas.Stretches.{stretch_until, together_stored, together_unstored}
use Rattle.mqtt_serve.proofs.turns.settling.serve_stretch.Goals as goal

pub returns-clause-stretch : goal.returns-clause-stretch
returns-clause-stretch g c =
    together_stored c.in_ok-had.ensures.turns (search rules) (search rules) c.in_ok-went.ensures.stores c.in_ok-went.ensures.same refl

pub returns-in_err-had-clause-breaks : goal.returns-in_err-had-clause-breaks
returns-in_err-had-clause-breaks g c =
    let is : c.from_residual.result ≡ Err c.in_err-had.field-0.0 = search rules in
    rw is (stretch_until c.in_err-had.ensures.breaks (search rules))

pub returns-in_err-went-clause-breaks : goal.returns-in_err-went-clause-breaks
returns-in_err-went-clause-breaks g c =
    let is : c.from_residual-in_err-went.result ≡ Err c.in_err-went.field-0.0 = search rules in
    rw is (together_unstored c.in_ok-had.ensures.turns (search rules) (search rules) (search rules) c.in_err-went.ensures.breaks c.in_err-went.ensures.same)
