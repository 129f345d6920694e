use Rattle.std.proofs.Common.{◌≡◌, false, true, rules, sym, subst, ◌∙◌}
use Rattle.std.specs.Prelude.{Result, Ok, Err}
use Rattle.mqtt_base.specs.declared.limits.TheConstants.{PUMP_LIMIT}
use Rattle.mqtt_rules.specs.step.Step.{Pump, at_moment}
use Rattle.mqtt_rules.proofs.filling_lemmas.Steps.{moment_alike}
use Rattle.mqtt_broker_looks.specs.at_hand.Reading.{AskedAtMost}
use Rattle.mqtt_broker_step.specs.declared.call.EngineError.{EngineError}
use Rattle.mqtt_broker_step.specs.declared.call.EngineError.TheVariants.{Memory, Stopped}
use Rattle.mqtt_broker_step.specs.Stepping.{Stepping}
use Rattle.mqtt_broker.specs.declared.stored.outcome.Outcome.{Outcome}
use Rattle.mqtt_broker.specs.stored.Calling.{Called}
use Rattle.mqtt_broker.specs.stored.Finishing.{IsAtRest}
use Rattle.mqtt_broker.specs.stored.Viewing.{viewed}
use Rattle.mqtt_broker.proofs.stored_lemmas.Finished.{of_sound_ready}
use Rattle.mqtt_broker.proofs.stored_lemmas.Pumps.{pump_begins, pump_called, read_called, read_rest, unfilled_called, unfilled_rest, unplaced_called, unread_called, unread_rest}
use Rattle.mqtt_broker.proofs.stored_lemmas.Reading.{few_asked}
use Rattle.mqtt_broker.proofs.stored_lemmas.Turns.{turns_alike}
use Rattle.mqtt_broker.proofs.stored.parts.EngineParts.fetch_and_send.Goals as goal

-- ---- what the pump takes

pub look_up-requires : goal.look_up-requires
look_up-requires g c =
    let s = c.args.self.now.step in
    (of_sound_ready s.limits s.broker c.requires.rest.sound).orders

pub returns-in_err-turns-clause-called : goal.returns-in_err-turns-clause-called
returns-in_err-turns-clause-called g c =
    let p = c.args.self.now in
    let is : c.from_residual.result ≡ Err Memory = search rules in
    subst (λ (r : Result Outcome EngineError). Called g.K.Keep c.args.moment (Pump c.args.line) (viewed g.K.Keep p) r (viewed g.K.Keep p)) (sym is)
    (unplaced_called g.K.Keep g.met.K.Keep.tells c.args.moment c.args.line c.args.birth p c.requires.rest c.requires.running c.requires.linked)

-- ---- the store refuses to read

pub fetch-requires : goal.fetch-requires
fetch-requires g c = (c.requires.rest.its c.requires.running).its.loaded

pub returns-in-Err-clause-called : goal.returns-in-Err-clause-called
returns-in-Err-clause-called g c =
    let failed = c.in-Err.ensures.err in
    unread_called g.K.Keep g.met.K.Keep.tells c.args.moment c.args.line c.args.birth c.args.self.now c.requires.rest c.requires.running c.requires.linked
    c.fetch.new.keep c.fetch.new.self failed.sound failed.crash c.fetch.ensures.stored _ c.in-Err.error failed c.unread-refusal.result c.has_failed-self.result
    c.unread-refusal.ensures.memory c.unread-refusal.ensures.disk c.has_failed-self.ensures.stopped c.has_failed-self.ensures.runs

pub returns-in-Err-clause-rest : goal.returns-in-Err-clause-rest
returns-in-Err-clause-rest g c =
    let failed = c.in-Err.ensures.err in
    unread_rest g.K.Keep g.met.K.Keep.tells c.args.moment c.args.line c.args.birth c.args.self.now c.requires.rest c.requires.running c.requires.linked
    c.fetch.new.keep c.fetch.new.self failed.sound failed.crash c.fetch.ensures.stored _ c.in-Err.error failed c.unread-refusal.result c.has_failed-self.result
    c.unread-refusal.ensures.memory c.unread-refusal.ensures.disk c.has_failed-self.ensures.stopped c.has_failed-self.ensures.runs

pub returns-in-Err-clause-reads : goal.returns-in-Err-clause-reads
returns-in-Err-clause-reads g c =
    few_asked c.args.line (at_moment c.args.moment c.args.self.now.step.broker) _ _ _ (c.deref.ensures.value ∙ c.in_ok-turns.ensures.places) c.in-Err.ensures.err.reads

-- ---- no memory after the read

pub returns-in-Err-places_of-clause-called : goal.returns-in-Err-places_of-clause-called
returns-in-Err-places_of-clause-called g c =
    let asked = c.in-Ok.ensures.ok in
    read_called g.K.Keep g.met.K.Keep.tells c.args.moment c.args.line c.args.birth c.args.self.now c.requires.rest c.requires.running c.requires.linked
    c.fetch.new.keep c.fetch.new.self asked.sound asked.crash c.fetch.ensures.stored _ asked

pub returns-in-Err-places_of-clause-rest : goal.returns-in-Err-places_of-clause-rest
returns-in-Err-places_of-clause-rest g c =
    let asked = c.in-Ok.ensures.ok in
    read_rest g.K.Keep g.met.K.Keep.tells c.args.moment c.args.line c.args.birth c.args.self.now c.requires.rest c.requires.running c.requires.linked
    c.fetch.new.keep c.fetch.new.self asked.sound asked.crash c.fetch.ensures.stored _ asked

pub returns-in-Err-places_of-clause-reads : goal.returns-in-Err-places_of-clause-reads
returns-in-Err-places_of-clause-reads g c =
    few_asked c.args.line (at_moment c.args.moment c.args.self.now.step.broker) _ _ _ (c.deref.ensures.value ∙ c.in_ok-turns.ensures.places) c.in-Ok.ensures.ok.reads

-- ---- contents that were stored are filled in; so the device lied

pub returns-then-not-fill-clause-called : goal.returns-then-not-fill-clause-called
returns-then-not-fill-clause-called g c =
    let p = c.args.self.now in
    let asked = c.in-Ok.ensures.ok in
    subst (λ (s : Stepping). Called g.K.Keep c.args.moment (Pump c.args.line) (viewed g.K.Keep p) (Err Stopped) (viewed g.K.Keep (record p { keep = c.fetch.new.keep; hand = c.fetch.new.self; step = s; stopped = true })))
    (sym (c.fill.ensures.err c.if-not-fill.true))
    (unfilled_called g.K.Keep g.met.K.Keep.tells c.args.moment c.args.line c.args.birth p c.requires.rest c.requires.running c.requires.linked
    c.fetch.new.keep c.fetch.new.self asked.sound asked.crash c.fetch.ensures.stored _ asked c.deref.result.now (c.deref.ensures.value ∙ c.in_ok-turns.ensures.places)
    c.in-Ok.contents.items c.in-Ok.ensures.exact c.fill.new.step c.fill.result c.fill.ensures.exact c.if-not-fill.true)

pub returns-then-not-fill-clause-rest : goal.returns-then-not-fill-clause-rest
returns-then-not-fill-clause-rest g c =
    let p = c.args.self.now in
    let asked = c.in-Ok.ensures.ok in
    subst (λ (s : Stepping). IsAtRest g.K.Keep (record p { keep = c.fetch.new.keep; hand = c.fetch.new.self; step = s; stopped = true })) (sym (c.fill.ensures.err c.if-not-fill.true))
    (unfilled_rest g.K.Keep g.met.K.Keep.tells c.args.moment c.args.line c.args.birth p c.requires.rest c.requires.running c.requires.linked
    c.fetch.new.keep c.fetch.new.self asked.sound asked.crash c.fetch.ensures.stored _ asked c.deref.result.now (c.deref.ensures.value ∙ c.in_ok-turns.ensures.places)
    c.in-Ok.contents.items c.in-Ok.ensures.exact c.fill.new.step c.fill.result c.fill.ensures.exact)

pub returns-then-not-fill-clause-reads : goal.returns-then-not-fill-clause-reads
returns-then-not-fill-clause-reads g c =
    few_asked c.args.line (at_moment c.args.moment c.args.self.now.step.broker) _ _ _ (c.deref.ensures.value ∙ c.in_ok-turns.ensures.places) c.in-Ok.ensures.ok.reads

-- ---- the pump begins on rows that are alike to the whole broker's

pub send_at-requires-clause-turns : goal.send_at-requires-clause-turns
send_at-requires-clause-turns g c =
    let was = c.args.self.now.step.broker in
    let is = c.fill.new.step.broker in
    c.in_ok-turns.ensures.turns
    ∙ sym (turns_alike c.args.line (at_moment c.args.moment is) (at_moment c.args.moment was) (moment_alike c.args.moment is was c.fill.ensures.alike))

-- ---- it takes its turns

pub finish_filled-requires-clause-under_way : goal.finish_filled-requires-clause-under_way
finish_filled-requires-clause-under_way g c =
    let asked = c.in-Ok.ensures.ok in (
      c.args.moment,
      Pump c.args.line,
      pump_begins g.K.Keep g.met.K.Keep.tells c.args.moment c.args.line c.args.birth c.args.self.now c.requires.rest c.requires.running c.requires.linked
          c.fetch.new.keep c.fetch.new.self asked.sound asked.crash c.fetch.ensures.stored _ asked c.deref.result.now (c.deref.ensures.value ∙ c.in_ok-turns.ensures.places)
          c.in-Ok.contents.items c.in-Ok.ensures.exact c.fill.new.step c.fill.result c.fill.ensures.exact c.fill.ensures.rest c.fill.ensures.alike
          c.in-Ok-send_at.again (Ok tt) c.send_at.new.step c.send_at.ensures.start c.send_at.ensures.limits c.in-Ok-send_at.ensures.called,
    )

pub finish_filled-requires-clause-slim : goal.finish_filled-requires-clause-slim
finish_filled-requires-clause-slim g c =
    rw (c.deref-in-Ok-send_at.ensures.value, c.in-Ok-places_of.ensures.places, c.deref-2.ensures.value, c.send_at.ensures.start) (c.fill.ensures.slim c.requires.rest.slim)

pub returns-in-Ok-send_at-clause-called : goal.returns-in-Ok-send_at-clause-called
returns-in-Ok-send_at-clause-called g c =
    let asked = c.in-Ok.ensures.ok in
    pump_called g.K.Keep g.met.K.Keep.tells c.args.moment c.args.line c.args.birth c.args.self.now c.requires.rest c.requires.running c.requires.linked
    c.fetch.new.keep c.fetch.new.self asked.sound asked.crash c.fetch.ensures.stored _ asked c.deref.result.now (c.deref.ensures.value ∙ c.in_ok-turns.ensures.places)
    c.in-Ok.contents.items c.in-Ok.ensures.exact c.fill.new.step c.fill.result c.fill.ensures.exact c.fill.ensures.rest c.fill.ensures.alike
    c.in-Ok-send_at.again (Ok tt) c.send_at.new.step c.send_at.ensures.start c.send_at.ensures.limits c.finish_filled.result (viewed g.K.Keep c.finish_filled.new.self)
    (c.finish_filled.ensures.called c.args.moment (Pump c.args.line)
    (pump_begins g.K.Keep g.met.K.Keep.tells c.args.moment c.args.line c.args.birth c.args.self.now c.requires.rest c.requires.running c.requires.linked
    c.fetch.new.keep c.fetch.new.self asked.sound asked.crash c.fetch.ensures.stored _ asked c.deref.result.now (c.deref.ensures.value ∙ c.in_ok-turns.ensures.places)
    c.in-Ok.contents.items c.in-Ok.ensures.exact c.fill.new.step c.fill.result c.fill.ensures.exact c.fill.ensures.rest c.fill.ensures.alike
    c.in-Ok-send_at.again (Ok tt) c.send_at.new.step c.send_at.ensures.start c.send_at.ensures.limits c.in-Ok-send_at.ensures.called))

pub returns-in-Ok-send_at-clause-reads : goal.returns-in-Ok-send_at-clause-reads
returns-in-Ok-send_at-clause-reads g c =
    subst (λ n. AskedAtMost PUMP_LIMIT (g.K.Keep.read_so_far c.args.self.now.keep) n) (sym c.finish_filled.ensures.reads)
    (few_asked c.args.line (at_moment c.args.moment c.args.self.now.step.broker) _ _ _ (c.deref.ensures.value ∙ c.in_ok-turns.ensures.places) c.in-Ok.ensures.ok.reads)

-- ---- or is refused

pub finish_filled-requires-in-Err-send_at-clause-under_way : goal.finish_filled-requires-in-Err-send_at-clause-under_way
finish_filled-requires-in-Err-send_at-clause-under_way g c =
    let asked = c.in-Ok.ensures.ok in (
      c.args.moment,
      Pump c.args.line,
      pump_begins g.K.Keep g.met.K.Keep.tells c.args.moment c.args.line c.args.birth c.args.self.now c.requires.rest c.requires.running c.requires.linked
          c.fetch.new.keep c.fetch.new.self asked.sound asked.crash c.fetch.ensures.stored _ asked c.deref.result.now (c.deref.ensures.value ∙ c.in_ok-turns.ensures.places)
          c.in-Ok.contents.items c.in-Ok.ensures.exact c.fill.new.step c.fill.result c.fill.ensures.exact c.fill.ensures.rest c.fill.ensures.alike
          false (Err c.in-Err-send_at.fault) c.send_at.new.step c.send_at.ensures.start c.send_at.ensures.limits c.in-Err-send_at.ensures.left,
    )

pub finish_filled-requires-in-Err-send_at-clause-slim : goal.finish_filled-requires-in-Err-send_at-clause-slim
finish_filled-requires-in-Err-send_at-clause-slim g c =
    rw (c.deref-in-Err-send_at.ensures.value, c.in-Ok-places_of.ensures.places, c.deref-2.ensures.value, c.send_at.ensures.start) (c.fill.ensures.slim c.requires.rest.slim)

pub returns-clause-called : goal.returns-clause-called
returns-clause-called g c =
    let asked = c.in-Ok.ensures.ok in
    pump_called g.K.Keep g.met.K.Keep.tells c.args.moment c.args.line c.args.birth c.args.self.now c.requires.rest c.requires.running c.requires.linked
    c.fetch.new.keep c.fetch.new.self asked.sound asked.crash c.fetch.ensures.stored _ asked c.deref.result.now (c.deref.ensures.value ∙ c.in_ok-turns.ensures.places)
    c.in-Ok.contents.items c.in-Ok.ensures.exact c.fill.new.step c.fill.result c.fill.ensures.exact c.fill.ensures.rest c.fill.ensures.alike
    false (Err c.in-Err-send_at.fault) c.send_at.new.step c.send_at.ensures.start c.send_at.ensures.limits c.finish_filled-in-Err-send_at.result (viewed g.K.Keep c.finish_filled-in-Err-send_at.new.self)
    (c.finish_filled-in-Err-send_at.ensures.called c.args.moment (Pump c.args.line)
    (pump_begins g.K.Keep g.met.K.Keep.tells c.args.moment c.args.line c.args.birth c.args.self.now c.requires.rest c.requires.running c.requires.linked
    c.fetch.new.keep c.fetch.new.self asked.sound asked.crash c.fetch.ensures.stored _ asked c.deref.result.now (c.deref.ensures.value ∙ c.in_ok-turns.ensures.places)
    c.in-Ok.contents.items c.in-Ok.ensures.exact c.fill.new.step c.fill.result c.fill.ensures.exact c.fill.ensures.rest c.fill.ensures.alike
    false (Err c.in-Err-send_at.fault) c.send_at.new.step c.send_at.ensures.start c.send_at.ensures.limits c.in-Err-send_at.ensures.left))

pub returns-clause-reads : goal.returns-clause-reads
returns-clause-reads g c =
    subst (λ n. AskedAtMost PUMP_LIMIT (g.K.Keep.read_so_far c.args.self.now.keep) n) (sym c.finish_filled-in-Err-send_at.ensures.reads)
    (few_asked c.args.line (at_moment c.args.moment c.args.self.now.step.broker) _ _ _ (c.deref.ensures.value ∙ c.in_ok-turns.ensures.places) c.in-Ok.ensures.ok.reads)
