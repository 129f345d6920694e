-- A call after the store was asked for what copies say.
use Rattle.std.proofs.Common.{◌≡◌, ◌≢◌, ◌⊎◌, ◌≤◌, ℕ, Bool, true, false, List, length, Option, Some, None, arith, refl, ap, sym, subst, ◌∙◌, inl, inr}
use Rattle.std.specs.Prelude.{Result, Ok, Err, IfOk, OnErr, option_map}
use Rattle.mqtt_base.specs.declared.limits.TheConstants.{PUMP_LIMIT}
use Rattle.mqtt_keep.specs.declared.keeping.keep.Keep.{Ghosts}
use Rattle.mqtt_keep.specs.declared.keeping.keep.KeepError.{KeepError}
use Rattle.mqtt_keep.specs.declared.keeping.keep.KeepError.TheVariants as keeps
use Rattle.mqtt_records.specs.declared.state.records.Records.{Records}
use Rattle.mqtt_records.specs.state.Telling.{AreTold}
use Rattle.mqtt_rules.specs.declared.step.Capacity.{Capacity}
use Rattle.mqtt_rules.specs.step.Lines.{session_on}
use Rattle.mqtt_rules.specs.step.State.{Broker, Line, line_at}
use Rattle.mqtt_rules.specs.step.Step.{Call}
use Rattle.mqtt_rules.specs.alike.Alike.{AlikeBrokers}
use Rattle.mqtt_rules.specs.filling.Filling.{filled}
use Rattle.mqtt_rules.specs.filling.Pumped.{birth_on, sent_places}
use Rattle.mqtt_rules.proofs.filling_lemmas.FewSent.{few_sent}
use Rattle.mqtt_broker_looks.specs.at_hand.Hand.{Hand}
use Rattle.mqtt_broker_looks.specs.at_hand.Reading.{AskedAtMost}
use Rattle.mqtt_broker_step.specs.declared.call.EngineError.{EngineError}
use Rattle.mqtt_broker_step.specs.declared.call.EngineError.TheVariants.{Memory, Stopped}
use Rattle.mqtt_broker.specs.declared.stored.outcome.Outcome.{Outcome}
use Rattle.mqtt_broker.specs.stored.Calling.{Called, IsAnsweredForLines, IsLeftBy, IsTrulyCalled, KeepsLines}
use Rattle.mqtt_broker.specs.stored.Running.{Running}
use Rattle.mqtt_broker.specs.stored.Finishing.{HasWhole, HoldsWhole, SaysAtHand}
use Rattle.mqtt_broker.proofs.stored_lemmas.Crashed.{left_or}
use Rattle.mqtt_broker.proofs.stored_lemmas.Finished.{view_is}

-- the birth on a line with a session
pub linked_birth : (line birth : ℕ) (b : Broker) → session_on line b ≡ Some (Some birth) → birth_on (line_at line b) ≡ Some birth
linked_birth line birth b on = by (line_at line b) on
  where
    by : (o : Option Line) → option_map (λ (l : Line). l.session) o ≡ Some (Some birth) → birth_on o ≡ Some birth
    by None h = absurd cc
    by (Some l) h = let same : l.session ≡ Some birth = cc in same

-- ---- how often the store is asked

-- not at all
pub not_asked : (before after : ℕ) → after ≡ before → AskedAtMost PUMP_LIMIT before after
not_asked before after same = (0, omega arith, same)

-- at most once for each copy that a pump sends
pub few_asked : (line : ℕ) (b : Broker) (places : List ℕ) (before after : ℕ) → places ≡ sent_places line b → AskedAtMost (length places) before after → AskedAtMost PUMP_LIMIT before after
few_asked line b places before after found h =
    let few : length places ≤ PUMP_LIMIT = subst (λ (ns : List ℕ). length ns ≤ PUMP_LIMIT) (sym found) (few_sent line b) in
    (h.0, omega (arith, h.1, few), h.2)

-- ---- a call after a read

module _ {K : Type 0} (g : Ghosts K)
    (tells : (keep : K) (r : Records) → g.is_sound keep → g.is_loaded keep → g.holds keep r → AreTold (g.fillings keep) r) where
  abbrev on : K → Capacity → Bool → Broker → Running K
  on keep limits stopped some = record { keep = keep; limits = limits; broker = filled (g.fillings keep) some; stopped = stopped }

  module _ (now : ℕ) (call : Call) (keep read : K) (hand : Hand) (limits : Capacity) (some : Broker) (h : HasWhole g keep hand limits some)
      (device : g.is_sound read → g.is_sound keep) (crash : (r left : Records) → g.holds keep r → g.leaves read left → g.leaves keep left ⊎ (left ≡ r)) where
    -- what could be left before the read, or what is stored
    read_left : g.is_sound keep → (left : Records) → g.leaves read left → g.leaves keep left ⊎ (left ≡ (filled (g.fillings keep) some).records)
    read_left there left may = left_or (g.leaves keep left) (λ is. is ∙ ap (λ (b : Broker). b.records) (sym (view_is g tells keep limits some h.whole h.its there))) (crash h.whole.records left h.its.holds may)

    -- what was called after the read was called before it
    pub called_before : (ready : Broker) (result : Result Outcome EngineError) (new : Running K) → HoldsWhole g read limits ready h.whole → AlikeBrokers ready some → g.counted read ≡ g.counted keep
        → Called g now call (on read limits false ready) result new → Called g now call (on keep limits false some) result new
    called_before ready result new its alike counted called = record {
      truly = λ sound.
          let there = called.sound sound in
          let same : filled (g.fillings read) ready ≡ filled (g.fillings keep) some =
          view_is g tells read limits ready h.whole its there ∙ sym (view_is g tells keep limits some h.whole h.its (device there)) in
          let t : IsTrulyCalled g now call (record { keep = read; limits = limits; broker = filled (g.fillings keep) some; stopped = false }) result new =
          subst (λ (b : Broker). IsTrulyCalled g now call (record { keep = read; limits = limits; broker = b; stopped = false }) result new) same (called.truly sound) in
          record { step = t.step; stored = t.stored; same = t.same; kept = t.kept; spent = t.spent; crash = λ runs left may. crash_before (device there) left (t.crash runs left may) };
      answered = answered_before result called.answered;
      runs = called.runs;
      limits = called.limits;
      lines = lines_before result called.lines;
      stopped = called.stopped;
      cause = λ is runs. cause_before (called.cause is runs);
      still = λ was. absurd cc;
      sound = λ sound. device (called.sound sound);
    }
      where
        crash_before : g.is_sound keep → (left : Records) → g.leaves read left ⊎ IsLeftBy limits (filled (g.fillings keep) some) now call left → g.leaves keep left ⊎ IsLeftBy limits (filled (g.fillings keep) some) now call left
        crash_before there left (inl may) = left_or (g.leaves keep left) (λ is. inl is) (read_left there left may)
        crash_before there left (inr by) = inr by

        answered_before : (result : Result Outcome EngineError) → IfOk result (λ out. IsAnsweredForLines limits (filled (g.fillings read) ready) now call out new.broker)
            → IfOk result (λ out. IsAnsweredForLines limits (filled (g.fillings keep) some) now call out new.broker)
        answered_before (Ok out) k = record {
          before = k.before;
          after = k.after;
          begins = (k.begins.0 ∙ ap (λ (b : Broker). b.lines) alike.rest, k.begins.1 ∙ ap (λ (b : Broker). b.given) alike.rest);
          answered = k.answered;
          ends = k.ends;
        }
        answered_before (Err e) k = tt

        lines_before : (result : Result Outcome EngineError) → OnErr result (KeepsLines (filled (g.fillings read) ready) new.broker)
            → OnErr result (KeepsLines (filled (g.fillings keep) some) new.broker)
        lines_before (Ok out) k = tt
        lines_before (Err e) k = (k.0 ∙ ap (λ (b : Broker). b.lines) alike.rest, k.1 ∙ ap (λ (b : Broker). b.given) alike.rest)

        cause_before : (g.counted new.keep ≢ g.counted read) ⊎ (g.is_sound new.keep → ⊥) → (g.counted new.keep ≢ g.counted keep) ⊎ (g.is_sound new.keep → ⊥)
        cause_before (inl k) = inl (λ is. k (is ∙ sym counted))
        cause_before (inr k) = inr k

    -- for want of memory nothing changed
    pub read_refused : HoldsWhole g read limits some h.whole → Called g now call (on keep limits false some) (Err Memory) (on read limits false some)
    read_refused its = record {
      truly = λ sound. record {
        step = tt;
        stored = tt;
        same = λ not. view_is g tells read limits some h.whole its sound ∙ sym (view_is g tells keep limits some h.whole h.its (device sound));
        kept = λ not. subst (λ (b : Broker). g.holds read b.records) (sym (view_is g tells keep limits some h.whole h.its (device sound))) its.holds;
        spent = λ is. absurd cc;
        crash = λ runs left may. left_or (g.leaves keep left) (λ is. inl is) (read_left (device sound) left may);
      };
      answered = tt;
      runs = λ not. refl;
      limits = refl;
      lines = (refl, refl);
      stopped = λ is. absurd cc;
      cause = λ is runs. absurd cc;
      still = λ was. absurd cc;
      sound = device;
    }

    -- the device failed, or tells what wasn't stored
    pub read_stops : (left : Broker) → left.lines ≡ some.lines → left.given ≡ some.given → (g.counted read ≢ g.counted keep) ⊎ (g.is_sound read → ⊥)
        → Called g now call (on keep limits false some) (Err Stopped) (on read limits true left)
    read_stops left lines given why = record {
      truly = λ sound. record {
        step = tt;
        stored = tt;
        same = λ not. absurd (not refl);
        kept = λ not. absurd (not refl);
        spent = λ is. absurd cc;
        crash = λ runs left may. left_or (g.leaves keep left) (λ is. inl is) (read_left (device sound) left may);
      };
      answered = tt;
      runs = λ not. absurd (not refl);
      limits = refl;
      lines = (lines, given);
      stopped = λ is. refl;
      cause = λ is runs. why;
      still = λ was. absurd cc;
      sound = device;
    }

    -- either way
    pub read_failed : (e : KeepError) (r : EngineError) (stopped : Bool) → (e ≡ keeps.Memory) ⊎ (e ≡ keeps.Disk) → (e ≡ keeps.Memory → HoldsWhole g read limits some h.whole) → (e ≡ keeps.Disk → g.counted read ≢ g.counted keep)
        → (e ≡ keeps.Memory → r ≡ Memory) → (e ≡ keeps.Disk → r ≡ Stopped) → (r ≡ Stopped → stopped ≡ true) → ((r ≡ Stopped → ⊥) → stopped ≡ false)
        → Called g now call (on keep limits false some) (Err r) (on read limits stopped some)
    read_failed e r stopped (inl is) holds cause memory disk stops runs =
        subst (λ (t : Bool). Called g now call (on keep limits false some) (Err r) (on read limits t some)) (sym (runs (λ no. let not_so = memory is in absurd cc)))
        (subst (λ (x : EngineError). Called g now call (on keep limits false some) (Err x) (on read limits false some)) (sym (memory is)) (read_refused (holds is)))
    read_failed e r stopped (inr is) holds cause memory disk stops runs =
        subst (λ (t : Bool). Called g now call (on keep limits false some) (Err r) (on read limits t some)) (sym (stops (disk is)))
        (subst (λ (x : EngineError). Called g now call (on keep limits false some) (Err x) (on read limits true some)) (sym (disk is)) (read_stops some refl refl (inl (cause is))))

    -- a store that was not read for want of memory holds the whole broker still
    pub failed_holds : (left : Hand) → SaysAtHand g read left h.whole.records → (e : KeepError) (r : EngineError) (stopped : Bool) → (e ≡ keeps.Memory) ⊎ (e ≡ keeps.Disk) → (e ≡ keeps.Memory → HoldsWhole g read limits some h.whole)
        → (e ≡ keeps.Disk → r ≡ Stopped) → (r ≡ Stopped → stopped ≡ true) → stopped ≡ false → HasWhole g read left limits some
    failed_holds left says e r stopped (inl is) holds disk stops runs = record { whole = h.whole; its = holds is; at_hand = says }
    failed_holds left says e r stopped (inr is) holds disk stops runs = let stopped_so = stops (disk is) in absurd cc
