use Rattle.std.proofs.Common.{◌≡◌, false, rules, ap, sym, subst, ◌∙◌}
use Rattle.std.specs.Prelude.{Err}
use Rattle.mqtt_rules.specs.step.Routing.{subscribers}
use Rattle.mqtt_rules.specs.alike.Slim.{slim_broker}
use Rattle.mqtt_broker_step.specs.declared.call.EngineError.TheVariants.{Memory, Spent, Stopped}
use Rattle.mqtt_broker_step.specs.Stepping.{Stepping, at_rest, with_entered_slim}
use Rattle.mqtt_broker_acts.specs.clock.Quiet.{AreQuietBefore}
use Rattle.mqtt_broker_queue.specs.subscribers.Indexing.{Serves}
use Rattle.mqtt_broker_queue.proofs.subscribers_lemmas.Puts.{can_go_along_all}
use Rattle.mqtt_broker.specs.stored.Finishing.{GoesAlong, IsCommitted}
use Rattle.mqtt_broker.specs.declared.stored.parts.EngineParts.{EngineParts}
use Rattle.mqtt_broker.proofs.stored_lemmas.Finished.{goes_slim, untold}
use Rattle.mqtt_broker.proofs.stored_lemmas.Slimmed.{rests, slim_back, slim_done}
use Rattle.mqtt_broker.proofs.stored.parts.EngineParts.tell.Goals as goal

pub follow-requires : goal.follow-requires
follow-requires g c = λ fresh.
    let p = c.args.self.now in
    can_go_along_all p.step.rows p.step.start.records p.index.sessions c.requires.can.indexed c.requires.can.followed (c.requires.goes.serves fresh)

pub take_back-requires-clause-ordered : goal.take_back-requires-clause-ordered
take_back-requires-clause-ordered g c = c.requires.can.indexed.ordered

pub returns-then-is_err : goal.returns-then-is_err
returns-then-is_err g c =
    let p = c.args.self.now in
    subst (λ (t : EngineParts _). IsCommitted g.K.Keep p c.args.again (Err Memory) t) (sym c.take_back.ensures)
    (untold g.K.Keep p c.follow.new.index c.args.again c.follow.ensures.unspent c.requires.loaded c.requires.runs c.requires.goes)

pub make_slim-requires : goal.make_slim-requires
make_slim-requires g c = record { rest = rests c.args.self.now.step.limits (with_entered_slim c.args.self.now.step) c.commit.new.step c.in-Ok.ensures.done }

pub returns-in-Ok : goal.returns-in-Ok
returns-in-Ok g c =
    let p = c.args.self.now in
    let done : c.make_slim.new.self ≡ at_rest p.step.limits (slim_broker p.step.broker) =
    c.make_slim.ensures ∙ slim_done c.args.birth c.args.places.now p.step c.commit.new.step c.requires.slim c.commit.ensures.made (c.requires.can.ordered c.commit.ensures.unspent) c.in-Ok.ensures.done in
    record {
      unspent = c.commit.ensures.unspent;
      told = record {
        outputs = c.answered.ensures.outputs ∙ c.in-Ok.ensures.outputs;
        closed = c.answered.ensures.closed ∙ c.in-Ok.ensures.closed;
        reports = c.answered.ensures.reports ∙ c.in-Ok.ensures.reports;
        taken = c.answered.ensures.taken;
        again_is = c.answered.ensures.again;
      };
      done = done;
      stored = c.in-Ok.ensures.stored;
      at_hand = c.in-Ok.ensures.at_hand;
      same = tt;
      kept = tt;
      memory = λ r holds can is. absurd cc;
      spent = λ is. absurd cc;
      cause = λ is. absurd cc;
      stopped = λ is. absurd cc;
      runs = λ not. c.requires.runs;
      crash = c.commit.ensures.crash;
      device = c.commit.ensures.sound;
      reads = c.commit.ensures.reads;
      goes =
          let served : p.is_stale ≡ false → Serves c.follow.new.index.sessions (subscribers p.step.broker.records) = λ fresh.
          let follows = c.follow.ensures.serves fresh c.requires.can.indexed c.requires.can.followed (c.requires.goes.serves fresh) in search rules in
          let quiet = c.quiet_after-after.ensures c.requires.goes.quiet in
          let here = goes_slim p.step.broker (record p { index = c.settle.new.self; quiet = c.quiet_after-after.result })
          (record { serves = λ fresh. rw c.settle.ensures (served fresh); quiet = quiet }) in
          subst (λ (t : Stepping). GoesAlong t.broker (record p { keep = c.commit.new.keep; hand = c.commit.new.hand; step = c.make_slim.new.self; index = c.settle.new.self; quiet = c.quiet_after-after.result })) (sym done)
          (record { serves = here.serves; quiet = here.quiet });
    }

pub make_slim-requires-in-Err : goal.make_slim-requires-in-Err
make_slim-requires-in-Err g c = record { rest = rests c.args.self.now.step.limits c.args.self.now.step.start c.commit.new.step c.in-Err.ensures.same }

pub returns-in-Err : goal.returns-in-Err
returns-in-Err g c =
    let p = c.args.self.now in
    let same : c.make_slim-in-Err.new.self ≡ at_rest p.step.limits (slim_broker p.step.start) =
    c.make_slim-in-Err.ensures ∙ slim_back c.args.birth c.args.places.now p.step c.commit.new.step c.requires.slim c.requires.can.indexed.ordered c.in-Err.ensures.same in
    record {
      unspent = c.commit.ensures.unspent;
      told = tt;
      done = tt;
      stored = λ r holds can. tt;
      at_hand = λ r says fit. tt;
      same = same;
      kept = c.in-Err.ensures.kept;
      memory = λ r holds can is. let same : c.in-Err.error ≡ Memory = cc in c.in-Err.ensures.memory r holds can (ap Err same);
      spent = λ is. let same : c.in-Err.error ≡ Spent = cc in c.in-Err.ensures.spent (ap Err same);
      cause = λ is. let same : c.in-Err.error ≡ Stopped = cc in c.in-Err.ensures.cause (ap Err same);
      stopped = λ is. let same : c.in-Err.error ≡ Stopped = cc in c.has_failed-self.ensures.stopped same;
      runs = λ not. c.has_failed-self.ensures.runs (λ is. not (ap Err is));
      crash = c.commit.ensures.crash;
      device = c.commit.ensures.sound;
      reads = c.commit.ensures.reads;
      goes =
          let here = goes_slim p.step.start p c.requires.goes in
          record {
            serves = λ fresh. absurd cc;
            quiet = subst (λ (t : Stepping). AreQuietBefore p.quiet t.broker.records) (sym same) here.quiet;
          };
    }
