use Rattle.std.proofs.Common.{ap, inl, inr}
use Rattle.std.specs.Prelude.{Err, Ok}
use Rattle.mqtt_broker.proofs.stored_lemmas.Settled.{kept_called, kept_rest, refused_called, refused_rest}
use Rattle.mqtt_broker.proofs.stored.parts.EngineParts.settle.Goals as goal

pub settle-requires : goal.settle-requires
settle-requires g c = (c.requires.rest.its c.requires.running).its.loaded

pub returns-in-Ok-clause-called : goal.returns-in-Ok-clause-called
returns-in-Ok-clause-called g c =
    let p = c.args.self.now in
    kept_called g.K.Keep g.met.K.Keep.tells p c.requires.rest c.requires.running c.settle.new.self c.settle.ensures.crash c.settle.ensures.sound c.settle.ensures.reads
    c.in-Ok.ensures.loaded c.in-Ok.ensures.same p.stopped (Ok tt) (λ is. absurd cc) (λ is. absurd cc) c.in-Ok.ensures.ok c.requires.running
    (c.settle.ensures.uncounted (λ is. absurd cc) (λ is. absurd cc))

pub returns-in-Ok-clause-rest : goal.returns-in-Ok-clause-rest
returns-in-Ok-clause-rest g c =
    let p = c.args.self.now in
    kept_rest g.K.Keep g.met.K.Keep.tells p c.requires.rest c.requires.running c.settle.new.self c.settle.ensures.crash c.settle.ensures.sound c.settle.ensures.reads
    c.in-Ok.ensures.loaded c.in-Ok.ensures.same p.stopped

pub returns-in-Err-clause-called : goal.returns-in-Err-clause-called
returns-in-Err-clause-called g c =
    let p = c.args.self.now in
    refused_called g.K.Keep g.met.K.Keep.tells p c.requires.rest c.requires.running c.settle.new.self c.settle.ensures.crash c.settle.ensures.sound c.settle.ensures.reads
    c.in-Err.error c.unsettled-refusal.result c.has_failed-self.result c.in-Err.ensures.refused (λ is. c.in-Err.ensures.memory (inl (ap Err is)))
    c.unsettled-refusal.ensures.memory c.unsettled-refusal.ensures.stopped c.has_failed-self.ensures.stopped c.has_failed-self.ensures.runs
    (λ which. c.in-Err.ensures.cause (elim which [ inl is ↦ inl (ap Err is) | inr is ↦ inr (ap Err is) ]))
    (λ disk size. c.settle.ensures.uncounted (λ is. disk cc) (λ is. size cc))

pub returns-in-Err-clause-rest : goal.returns-in-Err-clause-rest
returns-in-Err-clause-rest g c =
    let p = c.args.self.now in
    refused_rest g.K.Keep g.met.K.Keep.tells p c.requires.rest c.requires.running c.settle.new.self c.settle.ensures.crash c.settle.ensures.sound c.settle.ensures.reads
    c.in-Err.error c.unsettled-refusal.result c.has_failed-self.result c.in-Err.ensures.refused (λ is. c.in-Err.ensures.memory (inl (ap Err is)))
    c.unsettled-refusal.ensures.memory c.unsettled-refusal.ensures.stopped c.has_failed-self.ensures.stopped c.has_failed-self.ensures.runs
