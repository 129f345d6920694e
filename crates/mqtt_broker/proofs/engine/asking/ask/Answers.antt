use Rattle.std.proofs.Common.{◌≡◌, rules, ◌∙◌}
use Rattle.std.specs.Prelude.{Some, None}
use Rattle.mqtt_rules.specs.step.Piece.{first_call}
use Rattle.mqtt_rules.specs.step.Step.{BadInput}
use Rattle.mqtt_broker.proofs.engine_lemmas.FirstPackets.{bad_kept, none_kept}
use Rattle.mqtt_broker.proofs.engine_lemmas.Lent.{always_ok, kept_in}
use Rattle.mqtt_broker.proofs.engine_lemmas.Pieced.{memory_refuses}
use Rattle.mqtt_broker.proofs.engine.asking.ask.Goals as goal

pub returns-in-Ok-Some-Bad-clause-ok : goal.returns-in-Ok-Some-Bad-clause-ok
returns-in-Ok-Some-Bad-clause-ok g c =
    let its = c.args.held.now in
    let asked : Some (BadInput c.args.line c.in-Ok-Some-Bad.is_connect c.in-Ok-Some-Bad.code.0) ≡ first_call c.args.line its.framing.held = search rules in
    always_ok c.bad_input.result (c.first.ensures.same ∙ kept_in its (bad_kept c.args.line c.in-Ok-Some-Bad.is_connect c.in-Ok-Some-Bad.code.0 its.framing asked))

pub returns-in-Ok-None-clause-ok : goal.returns-in-Ok-None-clause-ok
returns-in-Ok-None-clause-ok g c =
    let its = c.args.held.now in
    let asked : None ≡ first_call c.args.line its.framing.held = search rules in
    c.first.ensures.same ∙ kept_in its (none_kept c.args.line its.framing asked)

pub returns-in-Err-clause-called : goal.returns-in-Err-clause-called
returns-in-Err-clause-called g c =
    memory_refuses g.K.Keep c.args.moment c.args.engine.now c.requires.running c.requires.stored
    (first_call c.args.line c.args.held.now.framing.held)
