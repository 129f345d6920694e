use Rattle.std.proofs.Common.{ap, subst, sym, inl, inr}
use Rattle.std.specs.Prelude.{Err}
use Rattle.mqtt_keep.specs.declared.keeping.keep.KeepError.{KeepError}
use Rattle.mqtt_broker.specs.stored.Opening.{Opened}
use Rattle.mqtt_broker.proofs.stored_lemmas.Answering.{load_begun, refused_first, refused_load}
use Rattle.mqtt_broker.proofs.stored_lemmas.Identifiers.{sent_phases}
use Rattle.mqtt_broker.proofs.stored_lemmas.Over.{slim_alike}
use Rattle.mqtt_broker.proofs.stored.opening.open.Goals as goal

pub open_step-requires : goal.open_step-requires
open_step-requires g c =
    let read = c.in-Ok.ensures.read in
    record {
      begun = (
        c.args.limits,
        c.args.now,
        read.whole,
        record {
          some = c.in-Ok.records;
          over = record { alike = slim_alike c.in-Ok.records read.whole read.slim_is; lawful = read.lawful; loaded = c.in-Ok.ensures.loaded; holds = read.stands };
          within = c.requires.within;
          is = c.in-Ok-unopened.ensures.step;
        },
      );
    }

pub returns-in-Ok-unopened : goal.returns-in-Ok-unopened
returns-in-Ok-unopened g c =
    let read = c.in-Ok.ensures.read in
    c.open_step.ensures c.args.keep c.args.limits c.args.now read.whole (record {
      some = c.in-Ok.records;
      over = record { alike = slim_alike c.in-Ok.records read.whole read.slim_is; lawful = read.lawful; loaded = c.in-Ok.ensures.loaded; holds = read.stands };
      within = c.requires.within;
      is = c.in-Ok-unopened.ensures.step;
    }) read.passed (sent_phases c.in-Ok.records read.whole read.slim_is read.lawful c.have_two_bytes.ensures)
    (load_begun g.K.Keep c.args.keep c.load.new.self read.whole (λ h holds sound. read.exact sound h holds) read.found c.load.ensures.sound c.load.ensures.same c.load.ensures.crash)

pub returns-in-Err-unopened : goal.returns-in-Err-unopened
returns-in-Err-unopened g c =
    let read = c.in-Ok.ensures.read in
    subst (λ (e : KeepError). Opened g.K.Keep c.args.limits c.args.now c.args.keep (Err (c.load.new.self, e))) (sym c.in-Err-unopened.ensures.refused)
    (refused_first g.K.Keep c.args.limits c.args.now c.args.keep read.whole c.load.new.self
    (load_begun g.K.Keep c.args.keep c.load.new.self read.whole (λ h holds sound. read.exact sound h holds) read.found c.load.ensures.sound c.load.ensures.same c.load.ensures.crash))

pub returns-in-Err : goal.returns-in-Err
returns-in-Err g c =
    refused_load g.K.Keep c.args.limits c.args.now c.args.keep c.in-Err.error c.load.new.self c.in-Err.ensures.refused
    (λ h. c.in-Err.ensures.cause (elim h [ inl e ↦ inl (ap Err e) | inr e ↦ inr (ap Err e) ])) c.load.ensures.same c.load.ensures.crash
