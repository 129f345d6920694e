-- The store of an engine at rest is told to write what waits to be written.
use Rattle.std.proofs.Common.{◌≡◌, ◌≢◌, ◌⊎◌, Bool, true, false, refl, ap, sym, subst, ◌∙◌, inl, inr}
use Rattle.std.specs.Prelude.{⊤, Result, Err, OnOk, IsErrOf}
use Rattle.mqtt_keep.specs.declared.keeping.keep.Keep.{Ghosts}
use Rattle.mqtt_keep.specs.declared.keeping.keep.KeepError.{KeepError}
use Rattle.mqtt_keep.specs.declared.keeping.keep.KeepError.TheVariants as keeps
use Rattle.mqtt_records.specs.declared.state.records.Records.{Records}
use Rattle.mqtt_records.specs.state.Telling.{AreTold}
use Rattle.mqtt_rules.specs.step.State.{Broker}
use Rattle.mqtt_rules.specs.filling.Filling.{filled}
use Rattle.mqtt_broker_step.specs.declared.call.EngineError.{EngineError}
use Rattle.mqtt_broker_step.specs.declared.call.EngineError.TheVariants.{Memory, Stopped, Spent}
use Rattle.mqtt_broker.specs.declared.stored.parts.EngineParts.{EngineParts}
use Rattle.mqtt_broker.specs.stored.Finishing.{HasWhole, HoldsWhole, IsAtRest}
use Rattle.mqtt_broker.specs.stored.Running.{Running}
use Rattle.mqtt_broker.specs.stored.Settling.{SettleCalled}
use Rattle.mqtt_broker.specs.stored.Viewing.{viewed}
use Rattle.mqtt_broker.proofs.stored_lemmas.Crashed.{left_or}
use Rattle.mqtt_broker.proofs.stored_lemmas.Finished.{view_is}

-- an engine that has stopped answers so, and stays as it is
pub settle_stopped : {K : Type 0} (g : Ghosts K) (old : Running K) → old.stopped ≡ true → SettleCalled g old (Err Stopped) old
settle_stopped g old stopped = record {
  truly = λ sound. record { broker = λ not. refl; holds = λ not. absurd (not refl); crash = λ runs. absurd cc };
  settled = tt;
  lines = (refl, refl);
  moment = refl;
  limits = refl;
  runs = λ not. absurd (not refl);
  stopped = λ is. stopped;
  cause = λ is runs. absurd cc;
  uncounted = λ not. refl;
  still = λ was. (refl, refl);
  spent = λ is. absurd cc;
  reads = refl;
  sound = λ sound. sound;
}

module _ {K : Type 0} (g : Ghosts K)
    (tells : (keep : K) (r : Records) → g.is_sound keep → g.is_loaded keep → g.holds keep r → AreTold (g.fillings keep) r)
    (p : EngineParts K) (rest : IsAtRest g p) (runs : p.stopped ≡ false) (kept : K)
    (crash : (r left : Records) → g.holds p.keep r → g.leaves kept left → g.leaves p.keep left ⊎ (left ≡ r))
    (device : g.is_sound kept → g.is_sound p.keep) (reads : g.read_so_far kept ≡ g.read_so_far p.keep) where
  abbrev had : HasWhole g p.keep p.hand p.step.limits p.step.broker
  had = rest.its runs

  -- over another store, stopped or not
  abbrev over : Bool → EngineParts K
  over stopped = record p { keep = kept; stopped = stopped }

  -- the broker is the whole one that the store held
  was_whole : g.is_sound kept → filled (g.fillings p.keep) p.step.broker ≡ had.whole
  was_whole sound = view_is g tells p.keep p.step.limits p.step.broker had.whole had.its (device sound)

  left_so : g.is_sound kept → (left : Records) → g.leaves kept left → g.leaves p.keep left ⊎ (left ≡ (filled (g.fillings p.keep) p.step.broker).records)
  left_so sound left may = left_or (g.leaves p.keep left) (λ is. is ∙ ap (λ (b : Broker). b.records) (sym (was_whole sound))) (crash had.whole.records left had.its.holds may)

  -- ---- the store has what it had

  module _ (loaded : g.is_loaded kept) (same : (r : Records) → g.holds p.keep r → g.holds kept r) (stopped : Bool) where
    still_whole : HoldsWhole g kept p.step.limits p.step.broker had.whole
    still_whole = record { alike = had.its.alike; sound = had.its.sound; loaded = loaded; holds = same had.whole.records had.its.holds }

    -- the engine is at rest still
    pub kept_rest : IsAtRest g (over stopped)
    kept_rest = record {
      rest = rest.rest;
      slim = rest.slim;
      sound = rest.sound;
      its = λ run. record { whole = had.whole; its = still_whole; at_hand = λ sound. had.at_hand (device sound) };
      goes = record { serves = rest.goes.serves; quiet = rest.goes.quiet };
    }

    -- and that is answered
    pub kept_called : (result : Result ⊤ EngineError) → (IsErrOf result Stopped → ⊥) → (IsErrOf result Spent → ⊥) → OnOk result (g.is_settled kept)
        → stopped ≡ false → g.counted kept ≡ g.counted p.keep → SettleCalled g (viewed g p) result (viewed g (over stopped))
    kept_called result never unspent settled run uncounted = record {
      truly = λ sound. record {
        broker = λ not. view_is g tells kept p.step.limits p.step.broker had.whole still_whole sound ∙ sym (was_whole sound);
        holds = λ not. subst (λ (b : Broker). g.holds kept b.records) (sym (was_whole sound)) still_whole.holds;
        crash = λ was left may. left_so sound left may;
      };
      settled = settled;
      lines = (refl, refl);
      moment = refl;
      limits = refl;
      runs = λ not. run;
      stopped = λ is. absurd (never is);
      cause = λ is was. absurd (never is);
      uncounted = λ not. uncounted;
      still = λ was. let r = runs in absurd cc;
      spent = unspent;
      reads = reads;
      sound = device;
    }

  -- ---- the store failed

  -- an engine that stops is at rest
  pub failed_rest : IsAtRest g (over true)
  failed_rest = record {
    rest = rest.rest;
    slim = rest.slim;
    sound = rest.sound;
    its = λ run. absurd cc;
    goes = record { serves = rest.goes.serves; quiet = rest.goes.quiet };
  }

  -- and that is answered
  pub failed_called : g.counted kept ≢ g.counted p.keep → SettleCalled g (viewed g p) (Err Stopped) (viewed g (over true))
  failed_called counted = record {
    truly = λ sound. record {
      broker = λ not. absurd (not refl);
      holds = λ not. absurd (not refl);
      crash = λ was left may. left_so sound left may;
    };
    settled = tt;
    lines = (refl, refl);
    moment = refl;
    limits = refl;
    runs = λ not. absurd (not refl);
    stopped = λ is. refl;
    cause = λ is was. counted;
    uncounted = λ not. absurd (not refl);
    still = λ was. let r = runs in absurd cc;
    spent = λ is. absurd cc;
    reads = reads;
    sound = device;
  }

  -- ---- either of these refusals

  module _ (e : KeepError) (r : EngineError) (stopped : Bool) (refused : (e ≡ keeps.Memory) ⊎ ((e ≡ keeps.Disk) ⊎ (e ≡ keeps.Size)))
      (kept_so : e ≡ keeps.Memory → g.is_loaded kept × ((h : Records) → g.holds p.keep h → g.holds kept h))
      (memory : e ≡ keeps.Memory → r ≡ Memory) (fails : (e ≡ keeps.Memory → ⊥) → r ≡ Stopped)
      (stops : r ≡ Stopped → stopped ≡ true) (stays : (r ≡ Stopped → ⊥) → stopped ≡ false) where
    -- the engine is at rest
    pub refused_rest : IsAtRest g (over stopped)
    refused_rest = elim refused [
      | inl is ↦ let its = kept_so is in kept_rest its.0 its.1 stopped
      | inr which ↦
          let no : e ≡ keeps.Memory → ⊥ = λ is. elim which [ inl d ↦ absurd cc | inr s ↦ absurd cc ] in
          subst (λ (t : Bool). IsAtRest g (over t)) (sym (stops (fails no))) failed_rest
    ]

    -- a settle that the store refused is answered so
    pub refused_called : ((e ≡ keeps.Disk) ⊎ (e ≡ keeps.Size) → g.counted kept ≢ g.counted p.keep) → ((e ≡ keeps.Disk → ⊥) → (e ≡ keeps.Size → ⊥) → g.counted kept ≡ g.counted p.keep)
        → SettleCalled g (viewed g p) (Err r) (viewed g (over stopped))
    refused_called cause uncounted = elim refused [
      | inl is ↦
          let its = kept_so is in
          subst (λ (x : EngineError). SettleCalled g (viewed g p) (Err x) (viewed g (over stopped))) (sym (memory is))
          (kept_called its.0 its.1 stopped (Err Memory) (λ no. absurd cc) (λ no. absurd cc) tt (stays (λ no. let so = memory is in absurd cc)) (uncounted (λ no. absurd cc) (λ no. absurd cc)))
      | inr which ↦
          let no : e ≡ keeps.Memory → ⊥ = λ is. elim which [ inl d ↦ absurd cc | inr s ↦ absurd cc ] in
          subst (λ (x : EngineError). SettleCalled g (viewed g p) (Err x) (viewed g (over stopped))) (sym (fails no))
          (subst (λ (t : Bool). SettleCalled g (viewed g p) (Err Stopped) (viewed g (over t))) (sym (stops (fails no))) (failed_called (cause which)))
    ]
