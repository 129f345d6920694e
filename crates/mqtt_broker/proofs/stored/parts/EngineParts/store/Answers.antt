use Rattle.std.proofs.Common.{ap, sym, subst, ◌∙◌}
use Rattle.std.specs.Prelude.{Ok, Err}
use Rattle.mqtt_broker_step.specs.declared.call.EngineError.TheVariants.{Memory}
use Rattle.mqtt_rules.specs.step.Laws.{IsOrdered}
use Rattle.mqtt_rules.specs.alike.Slim.{slim_broker}
use Rattle.mqtt_rules.specs.filling.Entered.{AreSlimBut}
use Rattle.mqtt_broker_step.specs.Stepping.{Stepping, at_rest}
use Rattle.mqtt_broker.specs.stored.Calling.{Called}
use Rattle.mqtt_broker.specs.stored.Finishing.{CanFollow, GoesAlong, IsAtRest, IsCommitted}
use Rattle.mqtt_broker.specs.stored.Viewing.{viewed, viewed_before}
use Rattle.mqtt_broker.specs.declared.stored.parts.EngineParts.{EngineParts}
use Rattle.mqtt_broker.proofs.stored_lemmas.Finished.{back_called, back_rest, committed_called, committed_rest, under_way_follows, under_way_ordered}
use Rattle.mqtt_broker.proofs.stored.parts.EngineParts.store.Goals as goal

pub tell-requires-clause-loaded : goal.tell-requires-clause-loaded
tell-requires-clause-loaded g c = c.requires.under_way.2.its.loaded

pub tell-requires-clause-runs : goal.tell-requires-clause-runs
tell-requires-clause-runs g c = c.requires.under_way.2.runs

pub tell-requires-clause-can : goal.tell-requires-clause-can
tell-requires-clause-can g c =
    let its = c.requires.under_way in
    subst CanFollow (sym c.in-Ok.ensures.ok) (under_way_follows g.K.Keep its.0 its.1 c.args.again c.args.self.now its.2)

pub tell-requires-clause-goes : goal.tell-requires-clause-goes
tell-requires-clause-goes g c =
    let p = c.args.self.now in
    let goes = c.requires.under_way.2.goes in
    subst (λ (t : Stepping). GoesAlong t.start (record p { step = t })) (sym c.in-Ok.ensures.ok) (record { serves = goes.serves; quiet = goes.quiet })

pub tell-requires-clause-slim : goal.tell-requires-clause-slim
tell-requires-clause-slim g c = subst (λ (t : Stepping). AreSlimBut c.args.birth c.args.places.now t.start.records) (sym c.in-Ok.ensures.ok) c.requires.slim

pub take_back-requires-clause-slim : goal.take_back-requires-clause-slim
take_back-requires-clause-slim g c = subst (λ (t : Stepping). AreSlimBut c.args.birth c.args.places.now t.start.records) (sym c.in-Err.ensures.err) c.requires.slim

pub take_back-requires-clause-ordered : goal.take_back-requires-clause-ordered
take_back-requires-clause-ordered g c =
    let its = c.requires.under_way in
    subst (λ (t : Stepping). IsOrdered t.start.records) (sym c.in-Err.ensures.err) (under_way_ordered g.K.Keep its.0 its.1 c.args.again (Ok tt) c.args.self.now its.2)

pub returns-in-Ok-clause-called : goal.returns-in-Ok-clause-called
returns-in-Ok-clause-called g c = λ now call u.
    committed_called g.K.Keep g.met.K.Keep.tells now call c.args.again c.args.self.now u c.tell.result c.tell.new.self
    (subst (λ (t : Stepping). IsCommitted g.K.Keep (record c.args.self.now { step = t }) c.args.again c.tell.result c.tell.new.self) c.in-Ok.ensures.ok c.tell.ensures)

pub returns-in-Ok-clause-rest : goal.returns-in-Ok-clause-rest
returns-in-Ok-clause-rest g c =
    let its = c.requires.under_way in
    committed_rest g.K.Keep g.met.K.Keep.tells its.0 its.1 c.args.again c.args.self.now its.2 c.tell.result c.tell.new.self
    (subst (λ (t : Stepping). IsCommitted g.K.Keep (record c.args.self.now { step = t }) c.args.again c.tell.result c.tell.new.self) c.in-Ok.ensures.ok c.tell.ensures)

pub returns-in-Ok-clause-reads : goal.returns-in-Ok-clause-reads
returns-in-Ok-clause-reads g c = c.tell.ensures.reads

pub returns-in-Err-clause-called : goal.returns-in-Err-clause-called
returns-in-Err-clause-called g c = λ now call u.
    let p = c.args.self.now in
    let is = c.take_back.ensures ∙ ap (λ (t : Stepping). record p { step = at_rest t.limits (slim_broker t.start) }) c.in-Err.ensures.err in
    subst (λ (t : EngineParts _). Called g.K.Keep now call (viewed_before g.K.Keep p) (Err Memory) (viewed g.K.Keep t)) (sym is)
    (back_called g.K.Keep g.met.K.Keep.tells now call c.args.again p (Ok tt) u Memory (λ no. absurd cc) (λ no. absurd cc))

pub returns-in-Err-clause-rest : goal.returns-in-Err-clause-rest
returns-in-Err-clause-rest g c =
    let p = c.args.self.now in
    let its = c.requires.under_way in
    let is = c.take_back.ensures ∙ ap (λ (t : Stepping). record p { step = at_rest t.limits (slim_broker t.start) }) c.in-Err.ensures.err in
    subst (λ (t : EngineParts _). IsAtRest g.K.Keep t) (sym is)
    (back_rest g.K.Keep g.met.K.Keep.tells its.0 its.1 c.args.again p (Ok tt) its.2)
