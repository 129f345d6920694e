-- How a call is finished over a store that has what waiting copies say.
use Rattle.std.proofs.Common.{◌≡◌, ◌⊎◌, ℕ, Bool, true, false, refl, ap, sym, subst, ◌∙◌, inl, inr}
use Rattle.std.specs.Prelude.{Result, Ok, Err, ⊤}
use Rattle.mqtt_keep.specs.declared.keeping.keep.Keep.{Ghosts}
use Rattle.mqtt_records.specs.declared.state.records.Records.{Records}
use Rattle.mqtt_records.specs.state.Telling.{AreTold}
use Rattle.mqtt_routes.specs.routing.Subscriptions.{HeldSessions}
use Rattle.mqtt_rules.specs.declared.step.Capacity.{Capacity}
use Rattle.mqtt_rules.specs.step.Laws.{IsOrdered}
use Rattle.mqtt_rules.specs.step.State.{Broker}
use Rattle.mqtt_rules.specs.step.Step.{Call, SpentStep, is_spent}
use Rattle.mqtt_rules.specs.alike.Alike.{AlikeBrokers}
use Rattle.mqtt_rules.specs.alike.Slim.{slim_broker}
use Rattle.mqtt_rules.proofs.alike_lemmas.Steps.{spent_same}
use Rattle.mqtt_rules.specs.filling.Filling.{filled}
use Rattle.mqtt_rules.proofs.filling_lemmas.Equivalence.{broker_back, broker_itself, slim_through}
use Rattle.mqtt_rules.proofs.filling_lemmas.Filled.{broker_whole}
use Rattle.mqtt_rules.proofs.filling_lemmas.SlimAgain.{broker_once}
use Rattle.mqtt_broker_looks.specs.at_hand.Hand.{Hand, SayWhatIsStored}
use Rattle.mqtt_broker_step.specs.declared.fault.StepFault.{StepFault}
use Rattle.mqtt_broker_step.specs.declared.call.EngineError.{EngineError}
use Rattle.mqtt_broker_step.specs.declared.call.EngineError.TheVariants.{Memory, Stopped, Spent}
use Rattle.mqtt_broker_step.specs.Stepping.{CanStore, Stepping, at_rest, with_stamp}
use Rattle.mqtt_broker_queue.specs.subscribers.Indexing.{Serves}
use Rattle.mqtt_broker_acts.specs.calls.Doing.{DidCall}
use Rattle.mqtt_broker_acts.specs.calls.Ready.{IsReady}
use Rattle.mqtt_broker_acts.proofs.calls_lemmas.Sources.{sound_ready}
use Rattle.mqtt_broker.proofs.alike_lemmas.Ready.{ready_alike}
use Rattle.mqtt_broker.proofs.stored_lemmas.Crashed.{left_or}
use Rattle.mqtt_broker.specs.declared.stored.outcome.Outcome.{Outcome}
use Rattle.mqtt_broker.specs.stored.Calling.{Called, IsLeftBy, IsTrulyCalled}
use Rattle.mqtt_broker.specs.stored.Running.{Running}
use Rattle.mqtt_broker.specs.stored.Finishing.{CanFollow, GoesAlong, HasWhole, HoldsWhole, IsAtRest, IsCommitted, IsOfSound, IsUnderWay, SaysAtHand}
use Rattle.mqtt_broker.specs.stored.Viewing.{viewed, viewed_before}
use Rattle.mqtt_broker.specs.declared.stored.parts.EngineParts.{EngineParts}
use Rattle.mqtt_broker.proofs.stored_lemmas.GoingAlong.{quiet_alike, subscribers_alike}
use Rattle.mqtt_broker.proofs.stored_lemmas.Telling.{told_fills}
use Rattle.mqtt_broker.proofs.stored_lemmas.Whole.{can_follow, can_store, lines_answered, next, next_alike, next_sound, store_makes, whole_answered, whole_left}

-- an engine with this broker, over this store
abbrev running : {K : Type 0} → EngineParts K → K → Bool → Broker → Running K
running p keep stopped b = record { keep = keep; limits = p.step.limits; broker = b; stopped = stopped }

-- what goes along with a broker goes along with an alike one
pub goes_alike : {K : Type 0} (b c : Broker) (p : EngineParts K) → AlikeBrokers b c → GoesAlong b p → GoesAlong c p
goes_alike b c p alike goes = record {
  serves = λ fresh. subst (λ ss. Serves p.index.sessions ss) (subscribers_alike b.records c.records alike.records) (goes.serves fresh);
  quiet = quiet_alike p.quiet b.records c.records alike.records goes.quiet;
}

-- so with its slim rows
pub goes_slim : {K : Type 0} (b : Broker) (p : EngineParts K) → GoesAlong b p → GoesAlong (slim_broker b) p
goes_slim b p goes = goes_alike b (slim_broker b) p (broker_back (slim_broker b) b (slim_through b b (broker_itself b))) goes

-- a step that the index can't follow for want of memory is taken back before the store is told of it
pub untold : {K : Type 0} (g : Ghosts K) → (p : EngineParts K) (index : HeldSessions) (again : Bool)
    → is_spent p.step.rows ≡ false → g.is_loaded p.keep → p.stopped ≡ false → GoesAlong p.step.start p
    → IsCommitted g p again (Err Memory) (record p { step = at_rest p.step.limits (slim_broker p.step.start); index = index; is_stale = true })
untold g p index again unspent loaded runs goes = record {
  unspent = unspent;
  told = tt;
  done = tt;
  stored = λ r holds can. tt;
  at_hand = λ r says fit. tt;
  same = refl;
  kept = refl;
  memory = λ r holds can is. (loaded, holds);
  spent = λ is. absurd cc;
  cause = λ is. absurd cc;
  stopped = λ is. absurd cc;
  runs = λ not. runs;
  crash = λ r left holds can may. inl may;
  device = λ sound. sound;
  reads = refl;
  goes = record { serves = λ fresh. absurd cc; quiet = (goes_slim p.step.start p goes).quiet };
}

-- rows that are alike to those of a sound broker are ready for a call
pub of_sound_ready : (limits : Capacity) (some : Broker) → IsOfSound limits some → IsReady limits some
of_sound_ready limits some h = ready_alike limits some h.whole h.alike (sound_ready limits h.whole h.sound)

-- the rows that a step under way began on are in order
pub under_way_ordered : {K : Type 0} (g : Ghosts K) (now : ℕ) (call : Call) (again : Bool) (done : Result ⊤ StepFault) (p : EngineParts K) → IsUnderWay g now call again done p → IsOrdered p.step.start.records
under_way_ordered g now call again done p u =
    let ready : IsReady p.step.limits p.step.start = of_sound_ready p.step.limits p.step.start (record { whole = u.whole; alike = u.its.alike; sound = u.its.sound }) in
    ready.coherent.ordered

-- an index can follow a step under way
pub under_way_follows : {K : Type 0} (g : Ghosts K) (now : ℕ) (call : Call) (again : Bool) (p : EngineParts K) → IsUnderWay g now call again (Ok tt) p → CanFollow (with_stamp p.step)
under_way_follows g now call again p u =
    can_follow now call again p.step u.called u.whole u.its.alike u.its.sound u.taken

module _ {K : Type 0} (g : Ghosts K)
    (tells : (keep : K) (r : Records) → g.is_sound keep → g.is_loaded keep → g.holds keep r → AreTold (g.fillings keep) r) where
  -- what the store has fills what is alike to what it holds: that is the whole broker
  pub view_is : (keep : K) (limits : Capacity) (some whole : Broker) → HoldsWhole g keep limits some whole → g.is_sound keep → filled (g.fillings keep) some ≡ whole
  view_is keep limits some whole h sound =
      broker_whole (g.fillings keep) some whole h.alike (told_fills (g.fillings keep) whole.records (tells keep whole.records sound h.loaded h.holds) h.sound.coherent.ordered)

  module _ (now : ℕ) (call : Call) (again : Bool) (old : EngineParts K) where
    abbrev s : Stepping
    s = old.step

    -- what is said truly of whole brokers is said of the views of both
    said_of_views : (kept : K) (stopped : Bool) (some : Broker) (result : Result Outcome EngineError) (w v : Broker)
        → filled (g.fillings old.keep) s.start ≡ w → filled (g.fillings kept) some ≡ v
        → IsTrulyCalled g now call (running old old.keep old.stopped w) result (running old kept stopped v)
        → IsTrulyCalled g now call (running old old.keep old.stopped (filled (g.fillings old.keep) s.start)) result (running old kept stopped (filled (g.fillings kept) some))
    said_of_views kept stopped some result w v first second h =
        subst (λ (b : Broker). IsTrulyCalled g now call (running old old.keep old.stopped b) result (running old kept stopped (filled (g.fillings kept) some))) (sym first)
        (subst (λ (b : Broker). IsTrulyCalled g now call (running old old.keep old.stopped w) result (running old kept stopped b)) (sym second) h)

    -- ---- a step that is taken back before the store is told

    module _ (done : Result ⊤ StepFault) (u : IsUnderWay g now call again done old) where
      back_holds : HoldsWhole g old.keep s.limits (slim_broker s.start) u.whole
      back_holds = record { alike = slim_through s.start u.whole u.its.alike; sound = u.its.sound; loaded = u.its.loaded; holds = u.its.holds }

      abbrev back : Stepping
      back = at_rest s.limits (slim_broker s.start)

      back_goes : GoesAlong (slim_broker s.start) (record old { step = back })
      back_goes =
          let its = goes_slim s.start old u.goes in
          record { serves = its.serves; quiet = its.quiet }

      -- the engine is at rest once its step was taken back
      pub back_rest : IsAtRest g (record old { step = back })
      back_rest = record { rest = refl; slim = broker_once s.start; sound = record { whole = u.whole; alike = back_holds.alike; sound = u.its.sound }; its = λ runs. record { whole = u.whole; its = back_holds; at_hand = u.at_hand }; goes = back_goes }

      back_true : (e : EngineError) → (e ≡ Spent → SpentStep s.limits u.whole now call)
          → IsTrulyCalled g now call (running old old.keep old.stopped u.whole) (Err e) (running old old.keep old.stopped u.whole)
      back_true e spent = record {
        step = tt;
        stored = tt;
        same = λ not. refl;
        kept = λ not. u.its.holds;
        spent = λ is. spent cc;
        crash = λ runs left may. inl may;
      }

      -- a step that was taken back is a call that was refused
      pub back_called : (e : EngineError) → (e ≡ Stopped → ⊥) → (e ≡ Spent → SpentStep s.limits s.start now call)
          → Called g now call (viewed_before g old) (Err e) (viewed g (record old { step = back }))
      back_called e never spent = record {
        truly = λ sound. said_of_views old.keep old.stopped (slim_broker s.start) (Err e) u.whole u.whole
            (view_is old.keep s.limits s.start u.whole u.its sound) (view_is old.keep s.limits (slim_broker s.start) u.whole back_holds sound)
            (back_true e (λ is. let found = spent is in record { choice = found.choice; spent = sym (spent_same s.limits found.choice now call s.start u.whole u.its.alike) ∙ found.spent }));
        answered = tt;
        runs = λ not. u.runs;
        limits = refl;
        lines = (refl, refl);
        stopped = λ is. absurd (never cc);
        cause = λ is runs. absurd (never cc);
        still = λ was. let runs = u.runs in absurd cc;
        sound = λ sound. sound;
      }

    -- ---- a step that did a call's deeds, of which the store was told

    module _ (u : IsUnderWay g now call again (Ok tt) old) where
      abbrev did : DidCall now call again s
      did = u.called

      abbrev after : Broker
      after = next now call again s did u.whole u.its.alike

      -- with its moment
      abbrev stamped : EngineParts K
      stamped = record old { step = with_stamp s }

      can : (result : Result Outcome EngineError) (new : EngineParts K) → IsCommitted g stamped again result new → CanStore (with_stamp s).rows u.whole.records
      can result new h = can_store now call again s did u.whole u.its.alike u.its.sound u.taken h.unspent

      -- it is stored
      module _ (out : Outcome) (kept : K) (stopped : Bool) (new : EngineParts K) (h : IsCommitted g stamped again (Ok out) new) where
        after_holds : HoldsWhole g new.keep s.limits (slim_broker (with_stamp s).broker) after
        after_holds =
            let its = h.stored u.whole.records u.its.holds (can (Ok out) new h) in
            record {
              alike = next_alike now call again s did u.whole u.its.alike;
              sound = next_sound now call again s did u.whole u.its.alike u.its.sound u.taken h.unspent;
              loaded = its.0;
              holds = subst (λ (r : Records). g.holds new.keep r) (store_makes now call again s did u.whole u.its.alike) its.1;
            }

        after_hand : SaysAtHand g new.keep new.hand after.records
        after_hand sound =
            subst (λ (r : Records). SayWhatIsStored new.hand r) (store_makes now call again s did u.whole u.its.alike)
            (h.at_hand u.whole.records (u.at_hand (h.device sound)) (can (Ok out) new h).fit)

        stored_true : g.is_sound old.keep → IsTrulyCalled g now call (running old old.keep old.stopped u.whole) (Ok out) (running old new.keep new.stopped after)
        stored_true sound = record {
          step = whole_answered now call again s did u.whole u.its.alike (u.tells sound) out h.unspent h.told;
          stored = after_holds.holds;
          same = λ not. tt;
          kept = λ not. tt;
          spent = λ e. absurd cc;
          crash = λ runs left may. left_or (g.leaves old.keep left) (λ is. whole_left now call again s did u.whole u.its.alike left h.unspent (inr is)) (h.crash u.whole.records left u.its.holds (can (Ok out) new h) may);
        }

      goes_on : (new : EngineParts K) (b : Broker) → GoesAlong b new → GoesAlong b (record new { step = at_rest s.limits b })
      goes_on new b goes = record { serves = goes.serves; quiet = goes.quiet }

      -- a step that was stored is a call that is answered
      pub told_called : (out : Outcome) (new : EngineParts K) → IsCommitted g stamped again (Ok out) new → Called g now call (viewed_before g old) (Ok out) (viewed g new)
      told_called out new h = subst (λ (t : Stepping). Called g now call (viewed_before g old) (Ok out) (viewed g (record new { step = t }))) (sym h.done) (record {
        truly = λ sound. said_of_views new.keep new.stopped (slim_broker (with_stamp s).broker) (Ok out) u.whole after
            (view_is old.keep s.limits s.start u.whole u.its (h.device sound))
            (view_is new.keep s.limits (slim_broker (with_stamp s).broker) after (after_holds out new.keep new.stopped new h) sound)
            (stored_true out new.keep new.stopped new h (h.device sound));
        answered = lines_answered now call again s did out (filled (g.fillings old.keep) s.start) (filled (g.fillings new.keep) (slim_broker (with_stamp s).broker)) h.unspent h.told (refl, refl) (refl, refl);
        runs = λ not. h.runs not;
        limits = refl;
        lines = tt;
        stopped = λ e. absurd cc;
        cause = λ e runs. absurd cc;
        still = λ was. let runs = u.runs in absurd cc;
        sound = h.device;
      })

      -- the engine is at rest once its step was stored
      pub told_rest : (out : Outcome) (new : EngineParts K) → IsCommitted g stamped again (Ok out) new → IsAtRest g new
      told_rest out new h = subst (λ (t : Stepping). IsAtRest g (record new { step = t })) (sym h.done) (record {
        rest = refl;
        slim = broker_once (with_stamp s).broker;
        sound = record { whole = after; alike = (after_holds out new.keep new.stopped new h).alike; sound = (after_holds out new.keep new.stopped new h).sound };
        its = λ runs. record { whole = after; its = after_holds out new.keep new.stopped new h; at_hand = after_hand out new.keep new.stopped new h };
        goes = goes_on new (slim_broker (with_stamp s).broker) (subst (λ (t : Stepping). GoesAlong t.broker new) h.done h.goes);
      })

      -- or the store refuses it
      module _ (e : EngineError) (new : EngineParts K) (h : IsCommitted g stamped again (Err e) new) where
        kept_holds : e ≡ Memory → HoldsWhole g new.keep s.limits (slim_broker s.start) u.whole
        kept_holds is =
            let its = h.memory u.whole.records u.its.holds (can (Err e) new h) (ap Err is) in
            record { alike = slim_through s.start u.whole u.its.alike; sound = u.its.sound; loaded = its.0; holds = its.1 }

        left_by : (left : Records) → g.leaves new.keep left → g.leaves old.keep left ⊎ IsLeftBy s.limits u.whole now call left
        left_by left may = left_or (g.leaves old.keep left) (λ is. whole_left now call again s did u.whole u.its.alike left h.unspent (inr is)) (h.crash u.whole.records left u.its.holds (can (Err e) new h) may)

      refused_view : (e : EngineError) (new : EngineParts K) → IsCommitted g stamped again (Err e) new → g.is_sound new.keep
          → IsTrulyCalled g now call (running old old.keep old.stopped u.whole) (Err e) (running old new.keep new.stopped (filled (g.fillings new.keep) (slim_broker s.start)))
      refused_view Memory new h sound = record {
        step = tt;
        stored = tt;
        same = λ not. view_is new.keep s.limits (slim_broker s.start) u.whole (kept_holds Memory new h refl) sound;
        kept = λ not. (kept_holds Memory new h refl).holds;
        spent = λ is. absurd cc;
        crash = λ runs left may. left_by Memory new h left may;
      }
      refused_view Stopped new h sound = record {
        step = tt;
        stored = tt;
        same = λ not. absurd (not refl);
        kept = λ not. absurd (not refl);
        spent = λ is. absurd cc;
        crash = λ runs left may. left_by Stopped new h left may;
      }
      refused_view Spent new h sound = absurd (h.spent refl)

      -- a step that the store refused is a call that was refused
      pub refused_called : (e : EngineError) (new : EngineParts K) → IsCommitted g stamped again (Err e) new → Called g now call (viewed_before g old) (Err e) (viewed g new)
      refused_called e new h = subst (λ (t : Stepping). Called g now call (viewed_before g old) (Err e) (viewed g (record new { step = t }))) (sym h.same) (record {
        truly = λ sound. said_of_views new.keep new.stopped (slim_broker s.start) (Err e) u.whole (filled (g.fillings new.keep) (slim_broker s.start))
            (view_is old.keep s.limits s.start u.whole u.its (h.device sound)) refl (refused_view e new h sound);
        answered = tt;
        runs = h.runs;
        limits = refl;
        lines = (refl, refl);
        stopped = h.stopped;
        cause = λ is runs. inl (h.cause is);
        still = λ was. let runs = u.runs in absurd cc;
        sound = h.device;
      })

      refused_its : (e : EngineError) (new : EngineParts K) → IsCommitted g stamped again (Err e) new → new.stopped ≡ false → HasWhole g new.keep new.hand s.limits (slim_broker s.start)
      refused_its Memory new h runs = record {
        whole = u.whole;
        its = kept_holds Memory new h refl;
        at_hand = λ sound. subst (λ (hand : Hand). SayWhatIsStored hand u.whole.records) (sym h.kept) (u.at_hand (h.device sound));
      }
      refused_its Stopped new h runs = let stopped = h.stopped refl in absurd cc
      refused_its Spent new h runs = absurd (h.spent refl)

      -- the engine is at rest then
      pub refused_rest : (e : EngineError) (new : EngineParts K) → IsCommitted g stamped again (Err e) new → IsAtRest g new
      refused_rest e new h = subst (λ (t : Stepping). IsAtRest g (record new { step = t })) (sym h.same) (record {
        rest = refl;
        slim = broker_once s.start;
        sound = record { whole = u.whole; alike = slim_through s.start u.whole u.its.alike; sound = u.its.sound };
        its = refused_its e new h;
        goes = goes_on new (slim_broker s.start) (subst (λ (t : Stepping). GoesAlong t.broker new) h.same h.goes);
      })

      -- so it is in either case
      pub committed_called : (result : Result Outcome EngineError) (new : EngineParts K) → IsCommitted g stamped again result new → Called g now call (viewed_before g old) result (viewed g new)
      committed_called (Ok out) new h = told_called out new h
      committed_called (Err e) new h = refused_called e new h

      -- the engine is at rest once the store was told, whatever it answered
      pub committed_rest : (result : Result Outcome EngineError) (new : EngineParts K) → IsCommitted g stamped again result new → IsAtRest g new
      committed_rest (Ok out) new h = told_rest out new h
      committed_rest (Err e) new h = refused_rest e new h
