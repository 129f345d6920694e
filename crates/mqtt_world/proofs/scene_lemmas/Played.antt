-- An event of a script of ends and the broker alone, from what the call that it comes to does (MQTT 5.0, 4.1 to 4.4).
use Rattle.std.proofs.Common.{◌≡◌, ◌≢◌, ℕ, Bool, true, false, List, Option, Some, IfOk, refl, sym, ap, subst, ◌∙◌}
use Rattle.std.specs.Prelude.{Result, Ok, Err}
use Rattle.mqtt_keep.specs.declared.keeping.keep.Keep.{Ghosts}
use Rattle.mqtt_world_model.specs.model.Tellings.{Telling}
use Rattle.mqtt_world_model.specs.model.World as world
use Rattle.mqtt_script.specs.declared.event.Event.{Event}
use Rattle.mqtt_script.specs.declared.event.Event.TheVariants.{Publisher, Receiver, Connect, GiveUp, Publish, Subscribe}
use Rattle.mqtt_script.specs.declared.event.Event.TheVariants.{ToBroker, ToEnd, Break, Pump, Clock, Tick, Restart, StopBefore}
use Rattle.mqtt_script.specs.declared.event.Event.TheVariants.{StopAfter, Stranger, Drain}
use Rattle.mqtt_script.specs.declared.event.Draft.{Draft}
use Rattle.mqtt_script.specs.declared.event.Wish.{Wish}
use Rattle.mqtt_world.specs.script_laws.Scripted as scripted
use Rattle.mqtt_world.specs.script_laws.Scripted.{event_of}
use Rattle.mqtt_world.specs.clients.Ends.{reading}
use Rattle.mqtt_world.specs.declared.scene.over.Over.{Over}
use Rattle.mqtt_world.specs.scene.Events.{Does}
use Rattle.mqtt_world.specs.scene.Playing.{DoesIf, IsOfEnds}
use Rattle.mqtt_world.specs.scene.Scenes.{Played}

-- ---- which events they are

-- any other than those by which ends and the broker alone do something
pub other_events : (e : Event) → ((c : List ℕ) → e ≢ Publisher c) → ((c : List ℕ) (n m : ℕ) → e ≢ Receiver c n m) → ((c : List ℕ) (b : Bool) → e ≢ Connect c b)
    → ((c : List ℕ) → e ≢ GiveUp c) → ((c : List ℕ) (d : Draft) → e ≢ Publish c d) → ((c : List ℕ) (x : Wish) → e ≢ Subscribe c x)
    → ((c : List ℕ) (b : Bool) → e ≢ ToBroker c b) → ((c : List ℕ) → e ≢ ToEnd c) → ((c : List ℕ) → e ≢ Break c) → ((c : List ℕ) → e ≢ Pump c) → e ≢ Tick
    → IsOfEnds e → ⊥
other_events (Publisher c) n1 n2 n3 n4 n5 n6 n7 n8 n9 n10 n11 is = n1 c refl
other_events (Receiver c n m) n1 n2 n3 n4 n5 n6 n7 n8 n9 n10 n11 is = n2 c n m refl
other_events (Connect c b) n1 n2 n3 n4 n5 n6 n7 n8 n9 n10 n11 is = n3 c b refl
other_events (GiveUp c) n1 n2 n3 n4 n5 n6 n7 n8 n9 n10 n11 is = n4 c refl
other_events (Publish c d) n1 n2 n3 n4 n5 n6 n7 n8 n9 n10 n11 is = n5 c d refl
other_events (Subscribe c x) n1 n2 n3 n4 n5 n6 n7 n8 n9 n10 n11 is = n6 c x refl
other_events (ToBroker c b) n1 n2 n3 n4 n5 n6 n7 n8 n9 n10 n11 is = n7 c b refl
other_events (ToEnd c) n1 n2 n3 n4 n5 n6 n7 n8 n9 n10 n11 is = n8 c refl
other_events (Break c) n1 n2 n3 n4 n5 n6 n7 n8 n9 n10 n11 is = n9 c refl
other_events (Pump c) n1 n2 n3 n4 n5 n6 n7 n8 n9 n10 n11 is = n10 c refl
other_events (Clock wait) n1 n2 n3 n4 n5 n6 n7 n8 n9 n10 n11 is = is
other_events Tick n1 n2 n3 n4 n5 n6 n7 n8 n9 n10 n11 is = n11 refl
other_events Restart n1 n2 n3 n4 n5 n6 n7 n8 n9 n10 n11 is = is
other_events (StopBefore a) n1 n2 n3 n4 n5 n6 n7 n8 n9 n10 n11 is = is
other_events (StopAfter a) n1 n2 n3 n4 n5 n6 n7 n8 n9 n10 n11 is = is
other_events (Stranger name bytes) n1 n2 n3 n4 n5 n6 n7 n8 n9 n10 n11 is = is
other_events (Drain c) n1 n2 n3 n4 n5 n6 n7 n8 n9 n10 n11 is = is

-- ---- what they do

reading_same : (old : Bool) (client : List ℕ) → reading old client ≡ scripted.reading old client
reading_same false client = refl
reading_same true client = refl

-- a call does it, of this name
module _ {K : Type 0} (g : Ghosts K) (now : ℕ) (e : Event) (s new : Played K) where
  at_name : (x : List ℕ → world.Event) (named name : List ℕ) (t : Option Telling) → event_of e ≡ Some (x name) → named ≡ name → Does g now (x named) s t new
      → DoesIf g now (event_of e) s t new
  at_name x named name t is same does =
      subst (λ (o : Option world.Event). DoesIf g now o s t new) (sym is) (subst (λ (n : List ℕ). Does g now (x n) s t new) same does)

  -- whatever the moment
  pub does_at : (x : List ℕ → world.Event) (named name : List ℕ) (r : Result (Option Telling) Over) → event_of e ≡ Some (x name) → named ≡ name
      → IfOk r (λ (t : Option Telling). (n : ℕ) → Does g n (x named) s t new) → IfOk r (λ (t : Option Telling). DoesIf g now (event_of e) s t new)
  does_at x named name (Ok t) is same h = at_name x named name t is same (h now)
  does_at x named name (Err f) is same h = tt

  -- at this moment
  pub does_now : (x : List ℕ → world.Event) (named name : List ℕ) (r : Result (Option Telling) Over) → event_of e ≡ Some (x name) → named ≡ name
      → IfOk r (λ (t : Option Telling). Does g now (x named) s t new) → IfOk r (λ (t : Option Telling). DoesIf g now (event_of e) s t new)
  does_now x named name (Ok t) is same h = at_name x named name t is same h
  does_now x named name (Err f) is same h = tt

-- that the broker reads an end's line means the same in a script and in the world
pub reads_event : (e : Event) (old : Bool) (client : List ℕ) → e ≡ ToBroker client old → event_of e ≡ Some (world.ask (reading old client))
reads_event e old client is = ap event_of is ∙ ap (λ (a : world.Asking). Some (world.ask a)) (sym (reading_same old client))
