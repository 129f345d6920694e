-- What ends do while the broker is asked for nothing, from what their calls make of them.
use Rattle.std.proofs.Common.{◌≡◌, ℕ, ◌^◌, Bool, true, false, ◌&&◌, ◌||◌, List, [], ◌∷◌, ◌++◌, Some, None, refl, sym, ap, subst, ◌∙◌, inl}
use Rattle.std.specs.Prelude.{nat_lt}
use Rattle.mqtt_keep.specs.declared.keeping.keep.Keep.{Ghosts}
use Rattle.mqtt_world_model.specs.model.Ends.{new_publisher, new_receiver}
use Rattle.mqtt_world_model.specs.model.Tellings.{Telling, silent}
use Rattle.mqtt_world_model.specs.model.World.{Event, Setting, Stranger, World, happens, is_bad, is_window, publisher, receiver}
use Rattle.mqtt_broker.specs.engine.Serving.{Serving}
use Rattle.mqtt_broker.specs.stored.Running.{Running}
use Rattle.mqtt_rules.specs.step.State.{Broker}
use Rattle.mqtt_world.specs.clients.Ends.{BecomeAt, Ends, in_world}
use Rattle.mqtt_world.specs.script_laws.Turns.{IsQuiet}
use Rattle.mqtt_world.specs.scene.Scenes.{IsPlayable, Played}
use Rattle.mqtt_world.specs.scene.Events.{Does, played, world_of}
use Rattle.mqtt_world.proofs.scene_lemmas.Eventful.{bad_done, quiet_done}

-- ---- tests

-- if the first of two tests says yes, that decides
pub or_first : (a x t : Bool) → t ≡ a → t ≡ true → t ≡ (a || x)
or_first a x t same is = is ∙ sym (ap (λ (b : Bool). b || x) (sym same ∙ is))

-- if the first says no, the second decides
pub or_second : (a x t : Bool) → a ≡ false → t ≡ x → t ≡ (a || x)
or_second a x t none same = same ∙ sym (ap (λ (b : Bool). b || x) none)

-- if neither of the first two says yes, the third decides
pub or_third : (a b x t : Bool) → (a || b) ≡ false → t ≡ x → t ≡ (a || (b || x))
or_third true b x t none same = absurd (cc)
or_third false b x t none same = or_second b x t none same

-- if one of the first two says yes, that decides, whatever the third says
pub or_either : (a b x t : Bool) → t ≡ (a || b) → t ≡ true → t ≡ (a || (b || x))
or_either true b x t same is = is
or_either false b x t same is = or_first b x t same is

-- if the second of two tests says yes, the first decides
pub and_true : (a b : Bool) → b ≡ true → a ≡ (a && b)
and_true true b is = sym is
and_true false b is = refl

-- a number of two bytes is a Receive Maximum exactly if it is above 0
pub window_is : (window : ℕ) (t : Bool) → t ≡ nat_lt 0 window → nat_lt window (2 ^ 16) ≡ true → t ≡ is_window window
window_is window t is within = is ∙ and_true (nat_lt 0 window) (nat_lt window (2 ^ 16)) within

-- ---- what is seen of the ends is seen in the world

-- what is seen of the ends is so in their world, at each moment and with any strangers
pub seen : {A : Type 0} (f : World → A) {K : Type 0} (s : Played K) (E : Serving K) (O : Ends) (t : A) → played E O ≡ s → ((w : World) → t ≡ f (in_world O w))
    → (now : ℕ) (ss : List Stranger) → t ≡ f (world_of now ss s)
seen f s E O t view tells now ss = tells (world_of now ss (played E O)) ∙ ap (λ (x : Played _). f (world_of now ss x)) view

-- ---- ends that are made

-- if a publisher is put behind the others, that is what happens if one is made
pub publisher_made : (client made : List ℕ) (b : Broker) (O N : Ends) → made ≡ client
    → N ≡ record O { publishers = O.publishers ++ new_publisher made ∷ [] }
    → (set : Setting) → BecomeAt b (happens set (publisher client)) O N
publisher_made client made b O N same is set w at =
    ap (λ (e : Ends). in_world e w) is
    ∙ ap (λ (n : List ℕ). in_world (record O { publishers = O.publishers ++ new_publisher n ∷ [] }) w) same

-- if a receiver is put behind the others, made at the last birth so far, that is what happens if one is made
pub receiver_made : (client made : List ℕ) (window aliases since : ℕ) (b : Broker) (O N : Ends) → made ≡ client → since ≡ b.records.births
    → N ≡ record O { receivers = O.receivers ++ new_receiver made window aliases since ∷ [] }
    → (set : Setting) → BecomeAt b (happens set (receiver client window aliases)) O N
receiver_made client made window aliases since b O N same last is set w at =
    ap (λ (e : Ends). in_world e w) is
    ∙ (ap (λ (n : List ℕ). in_world (record O { receivers = O.receivers ++ new_receiver n window aliases since ∷ [] }) w) same
    ∙ ap (λ (n : ℕ). in_world (record O { receivers = O.receivers ++ new_receiver client window aliases n ∷ [] }) w)
    (last ∙ ap (λ (x : Broker). x.records.births) (sym at)))

-- ---- events

module _ {K : Type 0} (g : Ghosts K) (e : Event) where
  -- a test says that it is bad
  pub refused : (s : Played K) (test : Bool) → IsPlayable g s → ((now : ℕ) (ss : List Stranger) → test ≡ is_bad e (world_of now ss s)) → test ≡ true
      → (now : ℕ) → Does g now e s None s
  refused s test playable tells is now = bad_done g now e s playable (λ ss. inl (sym (tells now ss) ∙ is))

  -- what becomes of the ends is what happens
  pub done_at : (s : Played K) (E : Serving K) (O N : Ends) (test : Bool) (t : Telling) → s ≡ played E O → IsQuiet e → t ≡ silent → IsPlayable g s
      → ((now : ℕ) (ss : List Stranger) → test ≡ is_bad e (world_of now ss s)) → test ≡ false
      → ((set : Setting) → BecomeAt E.running.broker (happens set e) O N)
      → (now : ℕ) → Does g now e s (Some t) (played E N)
  done_at s E O N test t view quiet told playable tells is become now =
      subst (λ (x : Played K). Does g now e x (Some t) (played E N)) (sym view)
      (quiet_done g now e E O N t quiet told (subst (IsPlayable g) view playable)
      (λ ss. ap (λ (x : Played K). is_bad e (world_of now ss x)) (sym view) ∙ (sym (tells now ss) ∙ is))
      (λ set ss. become set (world_of now ss (played E O)) refl))

  -- the same, if the engine was looked at without the bytes of its lines
  pub done_on : (s : Played K) (E : Serving K) (r : Running K) (O N : Ends) (test : Bool) (t : Telling) → r ≡ E.running → s ≡ played E O → IsQuiet e → t ≡ silent → IsPlayable g s
      → ((now : ℕ) (ss : List Stranger) → test ≡ is_bad e (world_of now ss s)) → test ≡ false
      → ((set : Setting) → BecomeAt r.broker (happens set e) O N)
      → (now : ℕ) → Does g now e s (Some t) (played E N)
  done_on s E r O N test t inner view quiet told playable tells is become =
      done_at s E O N test t view quiet told playable tells is
      (λ set. subst (λ (x : Running K). BecomeAt x.broker (happens set e) O N) inner (become set))
