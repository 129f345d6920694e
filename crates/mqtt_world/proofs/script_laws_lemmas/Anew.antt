-- Ends that are made before all else are made where no session of their names stands, if none is stored (MQTT 5.0, 3.1.2.4).
use Rattle.std.proofs.Common.{◌≡◌, Bool, true, false, cond, not, ◌&&◌, List, [], ◌∷◌, Option, Some, None, refl, sym, ap, ◌∙◌, inl, inr}
use Rattle.std.proofs.lemmas.Bool.{cases_Bool}
use Rattle.mqtt_rules.proofs.step_lemmas.numbers.Copies.{each_more}
use Rattle.mqtt_rules.specs.step.State.{Broker, session_named}
use Rattle.mqtt_rules.specs.declared.step.Capacity.{Capacity}
use Rattle.mqtt_world_model.specs.model.Run.{Turn, run, setting, turned}
use Rattle.mqtt_world_model.specs.model.World.{Event, World, ask, clock, connect_end, give_up, happens, is_bad, publish, publisher, receiver, restart, start}
use Rattle.mqtt_world_model.specs.model.World.{stop_after, stop_before, subscribe, to_end}
use Rattle.mqtt_script.specs.declared.event.Event.{Event as Line}
use Rattle.mqtt_world_model.specs.single_steps.Unrolled.{Unrolls}
use Rattle.mqtt_world.specs.script_laws.Cleanly.{AreMadeAnew, HaveNoSession, IsMadeAnewIf, makes_end, makes_ends_first, makes_no_end}
use Rattle.mqtt_world.specs.script_laws.Scripted.{AreTurnsFor, event_of, of_drain, of_event}
use Rattle.mqtt_world.specs.script_laws.Turns.{events_of}

both_true : (a b : Bool) → (a && b) ≡ true → (a ≡ true) × (b ≡ true)
both_true true b h = (refl, h)
both_true false b h = absurd cc

-- ---- events that make no end

no_end : (o : Option Event) (w : World) → makes_end o ≡ false → IsMadeAnewIf o w
no_end None w h = tt
no_end (Some (publisher client)) w h = absurd cc
no_end (Some (receiver client window aliases)) w h = absurd cc
no_end (Some e) w h = tt

none_made : (limits : Capacity) (es : List Line) (w : World) → makes_no_end es ≡ true → AreMadeAnew limits es w
none_made limits [] w h = tt
none_made limits (e ∷ es) w h =
    let both = both_true (not (makes_end (event_of e))) (makes_no_end es) h in
    (no_end (event_of e) w (by (makes_end (event_of e)) both.0), λ turns are. none_made limits es (run limits turns w) both.1)
  where
    by : (b : Bool) → not b ≡ true → b ≡ false
    by true n = absurd cc
    by false n = refl

-- ---- an end that is made leaves the broker as it is

still : (b : Bool) (w v : World) → v.broker ≡ w.broker → (cond b w v).broker ≡ w.broker
still true w v is = refl
still false w v is = is

broker_stays : (limits : Capacity) (x : Event) (t : Turn) (w : World) → makes_end (Some x) ≡ true → t.event ≡ x → (turned limits t w).broker ≡ w.broker
broker_stays limits (publisher client) t w makes is =
    let set = setting limits t in
    ap (λ (e : Event). (cond (is_bad e w) w (happens set e w)).broker) is
    ∙ still (is_bad (publisher client) w) w (happens set (publisher client) w) refl
broker_stays limits (receiver client window aliases) t w makes is =
    let set = setting limits t in
    ap (λ (e : Event). (cond (is_bad e w) w (happens set e w)).broker) is
    ∙ still (is_bad (receiver client window aliases) w) w (happens set (receiver client window aliases) w) refl
broker_stays limits (connect_end client clean) t w makes is = absurd cc
broker_stays limits (give_up client) t w makes is = absurd cc
broker_stays limits (publish client d) t w makes is = absurd cc
broker_stays limits (subscribe client x) t w makes is = absurd cc
broker_stays limits (to_end client) t w makes is = absurd cc
broker_stays limits (clock wait) t w makes is = absurd cc
broker_stays limits (ask a) t w makes is = absurd cc
broker_stays limits restart t w makes is = absurd cc
broker_stays limits (stop_before a) t w makes is = absurd cc
broker_stays limits (stop_after a) t w makes is = absurd cc

-- its event comes to one turn
one_stays : (limits : Capacity) (x : Event) (turns : List Turn) (w : World) → makes_end (Some x) ≡ true → events_of turns ≡ x ∷ [] → (run limits turns w).broker ≡ w.broker
one_stays limits x [] w makes are = absurd cc
one_stays limits x (t ∷ u ∷ more) w makes are = absurd cc
one_stays limits x (t ∷ []) w makes are = let same : t.event ≡ x = cc in broker_stays limits x t w makes same

alone : (x : Event) (w : World) (es : List Event) → makes_end (Some x) ≡ true → Unrolls x w es → es ≡ x ∷ []
alone (publisher client) w es makes is = is
alone (receiver client window aliases) w es makes is = is
alone (connect_end client clean) w es makes is = absurd cc
alone (give_up client) w es makes is = absurd cc
alone (publish client d) w es makes is = absurd cc
alone (subscribe client x) w es makes is = absurd cc
alone (to_end client) w es makes is = absurd cc
alone (clock wait) w es makes is = absurd cc
alone (ask a) w es makes is = absurd cc
alone restart w es makes is = absurd cc
alone (stop_before a) w es makes is = absurd cc
alone (stop_after a) w es makes is = absurd cc

made_stays : (limits : Capacity) (e : Line) (turns : List Turn) (w : World) → makes_end (event_of e) ≡ true → AreTurnsFor limits e turns w → (run limits turns w).broker ≡ w.broker
made_stays limits e turns w makes (of_event x at good unrolls) =
    let its : makes_end (Some x) ≡ true = sym (ap makes_end at) ∙ makes in
    one_stays limits x turns w its (alone x w (events_of turns) its unrolls)
made_stays limits e turns w makes (of_drain client at drain) =
    let clash : false ≡ true = sym (ap (λ (l : Line). makes_end (event_of l)) at) ∙ makes in
    absurd cc

-- ---- ends first

by_broker : (o : Option Event) (w v : World) → v.broker ≡ w.broker → IsMadeAnewIf o w → IsMadeAnewIf o v
by_broker None w v same h = tt
by_broker (Some (publisher client)) w v same h = ap (λ (b : Broker). session_named client b.records) same ∙ h
by_broker (Some (receiver client window aliases)) w v same h = ap (λ (b : Broker). session_named client b.records) same ∙ h
by_broker (Some e) w v same h = tt

-- a script that makes its ends first, over records without sessions of theirs, makes each anew
pub made_first : (limits : Capacity) (es : List Line) (w : World) → makes_ends_first es ≡ true → HaveNoSession es w → AreMadeAnew limits es w
made_first limits [] w h none = tt
made_first limits (e ∷ es) w h none = elim (cases_Bool (makes_end (event_of e))) [
  | inl makes ↦
      let rest : makes_ends_first es ≡ true = sym (ap (λ (b : Bool). cond b (makes_ends_first es) (makes_no_end es)) makes) ∙ h in (
        none.0,
        λ turns are.
            let v = run limits turns w in
            let same = made_stays limits e turns w makes are in
            made_first limits es v rest
            (each_more (λ (l : Line). IsMadeAnewIf (event_of l) w) (λ (l : Line). IsMadeAnewIf (event_of l) v) (λ l k. by_broker (event_of l) w v same k) es none.1),
      )
  | inr other ↦
      let rest : makes_no_end es ≡ true = sym (ap (λ (b : Bool). cond b (makes_ends_first es) (makes_no_end es)) other) ∙ h in
      (no_end (event_of e) w other, λ turns are. none_made limits es (run limits turns w) rest)
]

-- nothing stored is no session
no_sessions : (o : Option Event) → IsMadeAnewIf o start
no_sessions None = tt
no_sessions (Some (publisher client)) = refl
no_sessions (Some (receiver client window aliases)) = refl
no_sessions (Some e) = tt

none_stored : (es : List Line) → HaveNoSession es start
none_stored [] = tt
none_stored (e ∷ es) = (no_sessions (event_of e), none_stored es)

-- a script that makes its ends first, from nothing, makes each anew
pub made_from_nothing : (limits : Capacity) (es : List Line) → makes_ends_first es ≡ true → AreMadeAnew limits es start
made_from_nothing limits es h = made_first limits es start h (none_stored es)
