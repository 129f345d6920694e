-- What is answered if a broker is opened, whose rows become slim.
use Rattle.std.proofs.Common.{◌≡◌, ◌⊎◌, ℕ, false, refl, ap, sym, subst}
use Rattle.std.specs.Prelude.{Ok}
use Rattle.mqtt_keep.specs.lawful.Lawful.{IsLawful}
use Rattle.mqtt_keep.specs.declared.keeping.keep.Keep.{Ghosts}
use Rattle.mqtt_records.specs.declared.state.records.Records.{Records}
use Rattle.mqtt_records.specs.state.Telling.{AreTold}
use Rattle.mqtt_records.specs.state.PassedOn.{StoresPassedOn}
use Rattle.mqtt_rules.specs.declared.step.Capacity.{Capacity}
use Rattle.mqtt_rules.specs.spelling.Sending.{HaveSentPhases}
use Rattle.mqtt_rules.specs.step.State.{Broker}
use Rattle.mqtt_rules.specs.alike.Slim.{slim_broker}
use Rattle.mqtt_rules.specs.filling.Filling.{filled}
use Rattle.mqtt_rules.proofs.filling_lemmas.Equivalence.{slim_through}
use Rattle.mqtt_broker_step.specs.Stepping.{Stepping}
use Rattle.mqtt_broker.specs.stored.Closing.{IsStoredAfter}
use Rattle.mqtt_broker.specs.stored.Finishing.{HoldsWhole}
use Rattle.mqtt_broker.specs.stored.Opening.{IsBegun, Opened}
use Rattle.mqtt_broker.specs.stored.Over.{IsOpeningHeld}
use Rattle.mqtt_broker.specs.stored.Running.{Running}
use Rattle.mqtt_broker.proofs.stored_lemmas.Answering.{opening_left}
use Rattle.mqtt_broker.proofs.stored_lemmas.Finished.{view_is}

module _ {K : Type 0} (g : Ghosts K)
    (tells : (keep : K) (r : Records) → g.is_sound keep → g.is_loaded keep → g.holds keep r → AreTold (g.fillings keep) r)
    (limits : Capacity) (now : ℕ) (first : K) (whole : Records) (loaded kept : K) (s : Stepping) (h : IsOpeningHeld g limits now whole kept s) where
  -- the engine that is made
  abbrev made : Running K
  made = record { keep = kept; limits = s.limits; broker = filled (g.fillings kept) (slim_broker s.broker); stopped = false }

  slim_its : HoldsWhole g kept limits (slim_broker s.broker) h.after
  slim_its = record { alike = slim_through s.broker h.after h.its.alike; sound = h.its.sound; loaded = h.its.loaded; holds = h.its.holds }

  view : g.is_sound kept → filled (g.fillings kept) (slim_broker s.broker) ≡ h.after
  view = view_is g tells kept limits (slim_broker s.broker) h.after slim_its

  opened_here : IsBegun g first whole loaded → IsLawful whole → StoresPassedOn whole → HaveSentPhases whole → (g.is_sound kept → g.is_sound loaded)
      → ((left : Records) → g.leaves kept left → g.leaves loaded left ⊎ ((left ≡ whole) ⊎ IsStoredAfter limits now whole left))
      → Opened g limits now first (Ok made)
  opened_here begun lawful passed identifiers sound crash = record {
    opened = record {
      loaded = loaded;
      records = whole;
      load = begun.load;
      lawful = lawful;
      passed = passed;
      identifiers = identifiers;
      after = h.after;
      opening = h.opening;
      lines = (ap (λ (b : Broker). b.lines) h.its.alike.rest, ap (λ (b : Broker). b.given) h.its.alike.rest);
      whole = view;
      holds = λ device. subst (λ (b : Broker). g.holds kept b.records) (sym (view device)) h.its.holds;
      crash = λ left may device. opening_left g limits now first whole loaded begun left (sound device) (crash left may);
      sound = sound;
      limits_are = ap (λ (t : Stepping). t.limits) h.rest;
      runs = refl;
    };
    refused = tt;
  }

  -- an engine that was made so is opened
  pub opened_as : (new : Running K) → new ≡ made → IsBegun g first whole loaded → IsLawful whole → StoresPassedOn whole → HaveSentPhases whole
      → (g.is_sound kept → g.is_sound loaded) → ((left : Records) → g.leaves kept left → g.leaves loaded left ⊎ ((left ≡ whole) ⊎ IsStoredAfter limits now whole left))
      → Opened g limits now first (Ok new)
  opened_as new is begun lawful passed identifiers sound crash =
      subst (λ (e : Running K). Opened g limits now first (Ok e)) (sym is) (opened_here begun lawful passed identifiers sound crash)
