use Rattle.std.proofs.Common.{Bool, false, List, Result, Ok, Err, IfOk, refl, sym, subst}
use Rattle.mqtt_broker_step.specs.declared.call.EngineError.{EngineError}
use Rattle.mqtt_serve.specs.turns.Turns.{server, HasItsTurn, ServesLine, it_is_passed_over, it_is_served}
use Rattle.mqtt_serve.specs.turns.Wires.{Wire}
use Rattle.mqtt_serve.proofs.turns.line.serve_at.Goals as goal

-- what is so of an answer is so otherwise
ok_so : (P Q : Bool → Type 0) (answer : Result Bool EngineError) → ((moved : Bool) → P moved → Q moved) → IfOk answer P → IfOk answer Q
ok_so P Q (Ok moved) so p = so moved p
ok_so P Q (Err error) so p = tt

pub returns-then-pass_over-clause-serves : goal.returns-then-pass_over-clause-serves
returns-then-pass_over-clause-serves g c =
    subst (λ (ws : List Wire). HasItsTurn g.K.Keep c.args.pace c.args.moment c.args.place false (server c.args.engine.now c.args.lines.now) (server c.args.engine.now ws))
    (sym c.pass_over.ensures.same) (it_is_passed_over (c.if-pass_over.ensures.brisk refl) (c.if-pass_over.ensures.rests refl))

pub returns-clause-serves : goal.returns-clause-serves
returns-clause-serves g c =
    ok_so _ _ c.serve_line.result (λ moved line. it_is_served
    (subst (λ (ws : List Wire). ServesLine g.K.Keep c.args.moment c.args.place moved (server c.args.engine.now ws) (server c.serve_line.new.engine c.serve_line.new.lines))
    c.pass_over.ensures.same line)) c.serve_line.ensures.serves
