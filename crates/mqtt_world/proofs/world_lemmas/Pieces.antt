-- An event of a script on the stage, from what the call that it comes to does there.
use Rattle.std.proofs.Common.{◌≡◌, ◌≢◌, ℕ, Bool, true, false, List, Option, None, Some, IfOk, refl, sym, ap, subst, ◌∙◌}
use Rattle.std.specs.Prelude.{Result, Ok, Err}
use Rattle.mqtt_keep.specs.declared.keeping.keep.Keep.{Ghosts}
use Rattle.mqtt_world_model.specs.model.Tellings.{Telling}
use Rattle.mqtt_world_model.specs.model.World as world
use Rattle.mqtt_world_ends.specs.peers.Publishers.{draft_of}
use Rattle.mqtt_world_ends.specs.peers.Receivers.{wish_of}
use Rattle.mqtt_script.specs.declared.event.Asking.{Asking}
use Rattle.mqtt_script.specs.declared.event.Asking.TheVariants as asking
use Rattle.mqtt_script.specs.declared.event.Event.{Event}
use Rattle.mqtt_script.specs.declared.event.Event.TheVariants.{Publisher, Receiver, Connect, GiveUp, Publish, Subscribe}
use Rattle.mqtt_script.specs.declared.event.Event.TheVariants.{ToBroker, ToEnd, Break, Pump, Clock, Tick, Restart, StopBefore}
use Rattle.mqtt_script.specs.declared.event.Event.TheVariants.{StopAfter, Stranger, Drain}
use Rattle.mqtt_world.specs.script_laws.Scripted as scripted
use Rattle.mqtt_world.specs.script_laws.Scripted.{asking_of, event_of}
use Rattle.mqtt_world.specs.script_laws.Turns.{IsPlain}
use Rattle.mqtt_rules.specs.declared.step.Capacity.{Capacity}
use Rattle.mqtt_world.specs.declared.scene.over.Over.{Over}
use Rattle.mqtt_world.specs.scene.Playing.{DoesIf, IsOfEnds}
use Rattle.mqtt_world.specs.scene.Scenes.{Played}
use Rattle.mqtt_world.specs.scene.Stopping.{stop_at}
use Rattle.mqtt_world.specs.world.Stages.{IsStanding, Plays, Staged, TellsDrain}
use Rattle.mqtt_world.specs.world.Worlds.{Performs, PlaysIf, performs_drain, performs_event}
use Rattle.mqtt_world.proofs.world_lemmas.Staged.{plays_in, staged}

-- ---- which events they are

-- those that are left are of ends
pub events_of_ends : (e : Event) → e ≢ Restart → ((a : Asking) → e ≢ StopBefore a) → ((a : Asking) → e ≢ StopAfter a) → ((n : ℕ) → e ≢ Clock n)
    → ((name bytes : List ℕ) → e ≢ Stranger name bytes) → ((c : List ℕ) → e ≢ Drain c) → IsOfEnds e
events_of_ends (Publisher c) n1 n2 n3 n4 n5 n6 = tt
events_of_ends (Receiver c n m) n1 n2 n3 n4 n5 n6 = tt
events_of_ends (Connect c b) n1 n2 n3 n4 n5 n6 = tt
events_of_ends (GiveUp c) n1 n2 n3 n4 n5 n6 = tt
events_of_ends (Publish c d) n1 n2 n3 n4 n5 n6 = tt
events_of_ends (Subscribe c x) n1 n2 n3 n4 n5 n6 = tt
events_of_ends (ToBroker c b) n1 n2 n3 n4 n5 n6 = tt
events_of_ends (ToEnd c) n1 n2 n3 n4 n5 n6 = tt
events_of_ends (Break c) n1 n2 n3 n4 n5 n6 = tt
events_of_ends (Pump c) n1 n2 n3 n4 n5 n6 = tt
events_of_ends (Clock wait) n1 n2 n3 n4 n5 n6 = n4 wait refl
events_of_ends Tick n1 n2 n3 n4 n5 n6 = tt
events_of_ends Restart n1 n2 n3 n4 n5 n6 = n1 refl
events_of_ends (StopBefore a) n1 n2 n3 n4 n5 n6 = n2 a refl
events_of_ends (StopAfter a) n1 n2 n3 n4 n5 n6 = n3 a refl
events_of_ends (Stranger name bytes) n1 n2 n3 n4 n5 n6 = n5 name bytes refl
events_of_ends (Drain c) n1 n2 n3 n4 n5 n6 = n6 c refl

-- what a script asks of the broker is plain unless a stranger asks it
pub plain_askings : (a : Asking) → ((name bytes : List ℕ) → a ≢ asking.Stranger name bytes) → IsPlain (asking_of a)
plain_askings (asking.ToBroker c false) n = tt
plain_askings (asking.ToBroker c true) n = tt
plain_askings (asking.Break c) n = tt
plain_askings (asking.Pump c) n = tt
plain_askings asking.Tick n = tt
plain_askings (asking.Stranger name bytes) n = absurd (n name bytes refl)

-- ---- on the stage

module _ {K : Type 0} (g : Ghosts K) (S P : Played K) (ss : List world.Stranger) (now : ℕ) (limits : Capacity) (s : Staged K) where
  plays_by : (o : Option world.Event) (t : Option Telling) → staged S ss now limits ≡ s → IsStanding g s → DoesIf g now o S t P
      → PlaysIf g o s t (staged P ss now limits)
  plays_by None t view stands h = (h.0, ap (λ (x : Played K). staged x ss now limits) h.1 ∙ view)
  plays_by (Some e) t view stands h = plays_in g e S P ss now limits s t view stands h

  -- an event done in the scene is played on the stage; what is no event of the world changes nothing there
  pub if_plays : (o : Option world.Event) (r : Result (Option Telling) Over) → staged S ss now limits ≡ s → IsStanding g s
      → IfOk r (λ (t : Option Telling). DoesIf g now o S t P) → IfOk r (λ (t : Option Telling). PlaysIf g o s t (staged P ss now limits))
  if_plays o (Ok t) view stands h = plays_by o t view stands h
  if_plays o (Err f) view stands h = tt

-- what was told, with the stage that is left
with_told : {K : Type 0} (P : Option Telling → Staged K → Type 0) (mid : Staged K) (r : Result (Option Telling) Over) (x : Result (Staged K × Option Telling) Over)
    → IfOk x (λ (y : Staged K × Option Telling). (y.0 ≡ mid) × (r ≡ Ok y.1)) → IfOk r (λ (t : Option Telling). P t mid)
    → IfOk x (λ (y : Staged K × Option Telling). P y.1 y.0)
with_told {K} P mid r (Ok y) is h =
    subst (λ (m : Staged K). P y.1 m) (sym is.0) (subst (λ (q : Result (Option Telling) Over). IfOk q (λ (t : Option Telling). P t mid)) is.1 h)
with_told P mid r (Err f) is h = tt

-- and of an event that is one of the world's
module _ {K : Type 0} (g : Ghosts K) (e : Event) (x : world.Event) (s : Staged K) where
  -- if a script's event means one of the world, it is performed as that one is played
  pub plays_of : (r : Result (Staged K × Option Telling) Over) → event_of e ≡ Some x
      → IfOk r (λ (y : Staged K × Option Telling). Plays g x s y.1 y.0) → IfOk r (λ (y : Staged K × Option Telling). Performs g e s y.1 y.0)
  plays_of (Ok y) is h = performs_event x is h
  plays_of (Err f) is h = tt

  -- so it is if what was told is answered with the stage that is left
  pub told_of : (mid : Staged K) (r : Result (Option Telling) Over) (y : Result (Staged K × Option Telling) Over) → event_of e ≡ Some x
      → IfOk y (λ (z : Staged K × Option Telling). (z.0 ≡ mid) × (r ≡ Ok z.1)) → IfOk r (λ (t : Option Telling). Plays g x s t mid)
      → IfOk y (λ (z : Staged K × Option Telling). Performs g e s z.1 z.0)
  told_of mid r y is told h = plays_of y is (with_told (λ (t : Option Telling) (z : Staged K). Plays g x s t z) mid r y told h)

-- of one in which ends and the broker alone take part
of_ends_if : {K : Type 0} (g : Ghosts K) (e : Event) (s n : Staged K) (t : Option Telling) → IsOfEnds e → PlaysIf g (event_of e) s t n → Performs g e s t n
of_ends_if g (Publisher c) s n t is p = performs_event (world.publisher c) refl p
of_ends_if g (Receiver c window aliases) s n t is p = performs_event (world.receiver c window aliases) refl p
of_ends_if g (Connect c b) s n t is p = performs_event (world.connect_end c b) refl p
of_ends_if g (GiveUp c) s n t is p = performs_event (world.give_up c) refl p
of_ends_if g (Publish c d) s n t is p = performs_event (world.publish c (draft_of d)) refl p
of_ends_if g (Subscribe c x) s n t is p = performs_event (world.subscribe c (wish_of x)) refl p
of_ends_if g (ToBroker c b) s n t is p = performs_event (world.ask (scripted.reading b c)) refl p
of_ends_if g (ToEnd c) s n t is p = performs_event (world.to_end c) refl p
of_ends_if g (Break c) s n t is p = performs_event (world.ask (world.break c)) refl p
of_ends_if g (Pump c) s n t is p = performs_event (world.ask (world.pump c)) refl p
of_ends_if g (Clock wait) s n t is p = absurd is
of_ends_if g Tick s n t is p = performs_event (world.ask world.tick) refl p
of_ends_if g Restart s n t is p = absurd is
of_ends_if g (StopBefore a) s n t is p = absurd is
of_ends_if g (StopAfter a) s n t is p = absurd is
of_ends_if g (Stranger name bytes) s n t is p = absurd is
of_ends_if g (Drain c) s n t is p = absurd is

-- an event of ends and the broker alone is performed as what it means in the world, and tells the same
pub told_of_ends : {K : Type 0} (g : Ghosts K) (e : Event) (s mid : Staged K) (r : Result (Option Telling) Over) (y : Result (Staged K × Option Telling) Over) → IsOfEnds e
    → IfOk y (λ (z : Staged K × Option Telling). (z.0 ≡ mid) × (r ≡ Ok z.1)) → IfOk r (λ (t : Option Telling). PlaysIf g (event_of e) s t mid)
    → IfOk y (λ (z : Staged K × Option Telling). Performs g e s z.1 z.0)
told_of_ends {K} g e s mid (Ok t) y is told h =
    let r : Result (Option Telling) Over = Ok t in
    with_told (λ (u : Option Telling) (z : Staged K). Performs g e s u z) mid r y told (of_ends_if g e s mid t is h)
told_of_ends {K} g e s mid (Err f) y is told h =
    let r : Result (Option Telling) Over = Err f in
    with_told (λ (u : Option Telling) (z : Staged K). Performs g e s u z) mid r y told tt

-- and of a drain
drain_if : {K : Type 0} (g : Ghosts K) (e : Event) (client : List ℕ) (s mid : Staged K) (r : Result (Option Telling) Over) → e ≡ Drain client
    → IfOk r (λ (t : Option Telling). TellsDrain g client s t mid) → IfOk r (λ (t : Option Telling). Performs g e s t mid)
drain_if g e client s mid (Ok t) is h = performs_drain client is h
drain_if g e client s mid (Err f) is h = tt

-- a drain is performed as it was played, and tells the same, but for its rounds
pub told_of_drain : {K : Type 0} (g : Ghosts K) (e : Event) (client : List ℕ) (s mid : Staged K) (r : Result (Option Telling) Over)
    (y : Result (Staged K × Option Telling) Over) → e ≡ Drain client
    → IfOk y (λ (z : Staged K × Option Telling). (z.0 ≡ mid) × (r ≡ Ok z.1)) → IfOk r (λ (t : Option Telling). TellsDrain g client s t mid)
    → IfOk y (λ (z : Staged K × Option Telling). Performs g e s z.1 z.0)
told_of_drain {K} g e client s mid r y is told h = with_told (λ (t : Option Telling) (z : Staged K). Performs g e s t z) mid r y told (drain_if g e client s mid r is h)

-- a stop at what is asked of the broker, as it is called
pub stops_of : {K : Type 0} (g : Ghosts K) (after : Bool) (a : Asking) (x : world.Asking) (s : Staged K) (r : Result (Staged K × Option Telling) Over)
    → asking_of a ≡ x → IfOk r (λ (y : Staged K × Option Telling). Plays g (stop_at after x) s y.1 y.0)
    → IfOk r (λ (y : Staged K × Option Telling). Plays g (stop_at after (asking_of a)) s y.1 y.0)
stops_of {K} g after a x s r is h = subst (λ (b : world.Asking). IfOk r (λ (y : Staged K × Option Telling). Plays g (stop_at after b) s y.1 y.0)) (sym is) h
