-- Scripts whose ends begin clean: each Clean Start is carried through, and no session of an end's name stands when it is made; of
-- the turns that a script comes to, or by its events alone (MQTT 5.0, 3.1.2.4, ours).
use Rattle.std.specs.Prelude.{◌≡◌, ⊤, ℕ, Bool, true, false, cond, not, ◌&&◌, ◌||◌, List, [], ◌∷◌, ◌++◌, Option, Some, None, bytes_eq}
use Rattle.std.specs.List.{AllByRecursion, list_any}
use Rattle.mqtt_rules.specs.step.State.{session_named}
use Rattle.mqtt_rules.specs.declared.step.Capacity.{Capacity}
use Rattle.mqtt_world_model.specs.model.Run.{Turn, run}
use Rattle.mqtt_world_model.specs.model.World as world
use Rattle.mqtt_world_model.specs.model.World.{World}
use Rattle.mqtt_world_laws.specs.headline.Delivery.{DeliversExactlyOnce, EndsAllOnce, EntersAllOnce}
use Rattle.mqtt_world_laws.specs.acceptance.Fair.{IsCounted, IsFair}
use Rattle.mqtt_world_laws.specs.drain_causes.DrainEnds.{AreOfDrain}
use Rattle.mqtt_world_laws.specs.drain_causes.Fitting.{NoneTooLarge}
use Rattle.mqtt_world_laws.specs.drains.Emptied.{waiting_for}
use Rattle.mqtt_world_laws.specs.receiver.Drains.{is_bad_drain}
use Rattle.mqtt_world_laws.specs.acceptance.Spending.{run_spends}
use Rattle.mqtt_script.specs.declared.event.Event.{Event}
use Rattle.mqtt_script.specs.declared.event.Event.TheVariants.{Drain}
use Rattle.mqtt_world.specs.script_laws.Drains.{AreTurnsOfDrain}
use Rattle.mqtt_world.specs.script_laws.Scripted.{AreTurnsFor, AreTurnsOf, IsRunOf, event_of}

-- ---- of the turns that a script comes to

-- turns to which the events come lead from the one world to the other. They spend no number; no session of an end's name stands
-- where it is made, and an end that connects with Clean Start 1 gives no line up, nor connects with 0, until it has read the CONNACK
pub record ComesFairly (limits : Capacity) (es : List Event) (w after : World) : Type 0 where
  pub turns : List Turn
  pub are : AreTurnsOf limits es turns w
  pub fair : IsFair limits turns w
  pub is : after ≡ run limits turns w

-- ---- by the events of a script alone: enough for the turns, and more than is needed

-- an end that has connected with Clean Start 1 gives no line up, and each further CONNECT of it has Clean Start 1; these are the
-- names of those that have so far
abbrev pub is_named : List ℕ → List (List ℕ) → Bool
is_named client names = list_any (λ name. bytes_eq client name) names

abbrev pub keeps_clean : List (List ℕ) → world.Event → Bool
keeps_clean names (world.connect_end client clean) = clean || not (is_named client names)
keeps_clean names (world.give_up client) = not (is_named client names)
keeps_clean names e = true

abbrev pub named_after : world.Event → List (List ℕ) → List (List ℕ)
named_after (world.connect_end client clean) names = cond clean (client ∷ names) names
named_after e names = names

abbrev pub keeps_if : List (List ℕ) → Option world.Event → Bool
keeps_if names None = true
keeps_if names (Some e) = keeps_clean names e

abbrev pub named_if : Option world.Event → List (List ℕ) → List (List ℕ)
named_if None names = names
named_if (Some e) names = named_after e names

abbrev pub keep_clean_starts : List (List ℕ) → List Event → Bool
keep_clean_starts names [] = true
keep_clean_starts names (e ∷ es) = keeps_if names (event_of e) && keep_clean_starts (named_if (event_of e) names) es

-- where an end is made, no session of its name stands
abbrev pub IsMadeAnew : world.Event → World → Type 0
IsMadeAnew (world.publisher client) w = session_named client w.broker.records ≡ None
IsMadeAnew (world.receiver client window aliases) w = session_named client w.broker.records ≡ None
IsMadeAnew e w = ⊤

abbrev pub IsMadeAnewIf : Option world.Event → World → Type 0
IsMadeAnewIf None w = ⊤
IsMadeAnewIf (Some e) w = IsMadeAnew e w

-- so it is with each event, whatever turns those before it come to
abbrev pub AreMadeAnew : Capacity → List Event → World → Type 0
AreMadeAnew limits [] w = ⊤
AreMadeAnew limits (e ∷ es) w =
    IsMadeAnewIf (event_of e) w
    × ((turns : List Turn) → AreTurnsFor limits e turns w → AreMadeAnew limits es (run limits turns w))

-- what is asked of a script that begins in this world
pub record BeginClean (limits : Capacity) (es : List Event) (w : World) : Type 0 where
  pub starts : keep_clean_starts [] es ≡ true
  pub made : AreMadeAnew limits es w

-- ---- a script that makes its ends before all else

abbrev pub makes_end : Option world.Event → Bool
makes_end None = false
makes_end (Some (world.publisher client)) = true
makes_end (Some (world.receiver client window aliases)) = true
makes_end (Some e) = false

abbrev pub makes_no_end : List Event → Bool
makes_no_end [] = true
makes_no_end (e ∷ es) = not (makes_end (event_of e)) && makes_no_end es

abbrev pub makes_ends_first : List Event → Bool
makes_ends_first [] = true
makes_ends_first (e ∷ es) = cond (makes_end (event_of e)) (makes_ends_first es) (makes_no_end es)

-- no session of the name of any of its ends stands in this world
abbrev pub HaveNoSession : List Event → World → Type 0
HaveNoSession es w = AllByRecursion (λ (e : Event). IsMadeAnewIf (event_of e) w) es

-- ---- exactly-once delivery, of a script

-- the turns of a drain leave none of its receiver's copies, and the receiver's line stands still. Each copy that ends in them is
-- the receiver's own, and ends at the drain's moment, for a cause of a drain; none ends as too large
pub record LeaveNone (limits : Capacity) (client : List ℕ) (turns : List Turn) (w : World) : Type 0 where
  pub empty : waiting_for client (run limits turns w) ≡ 0
  pub good : is_bad_drain client (run limits turns w) ≡ false
  pub ends : AreOfDrain client limits turns w
  pub fit : NoneTooLarge limits turns w

-- The events come to turns that lead there and spend no number. Whatever turns they come to, if these are fair, of those all is
-- true that is proved of every run; and each drain among the events leaves none of its receiver's copies, if it spends no number.
-- If they spend no number, copies enter and end as they do in every run, whatever ends do, fair or not
pub record ScriptDelivers (limits : Capacity) (es : List Event) (w after : World) : Type 0 where
  pub is_run : IsRunOf limits es w after
  pub all : (turns : List Turn) → AreTurnsOf limits es turns w → IsFair limits turns w → DeliversExactlyOnce limits turns w
  pub enters : (turns : List Turn) → AreTurnsOf limits es turns w → IsCounted limits turns w → EntersAllOnce limits turns w
  pub ends : (turns : List Turn) → AreTurnsOf limits es turns w → IsCounted limits turns w → EndsAllOnce limits turns w
  pub drained : (before rest : List Event) (client : List ℕ) (v : World) (turns : List Turn) → es ≡ before ++ Drain client ∷ rest
      → ComesFairly limits before w v → AreTurnsOfDrain limits client turns v → run_spends limits turns v ≡ false
      → LeaveNone limits client turns v
