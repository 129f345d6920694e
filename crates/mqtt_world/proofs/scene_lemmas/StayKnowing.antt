-- After what happens in a script its ends know what they were told (MQTT 5.0, 3.3.2.3.4).
use Rattle.std.specs.Prelude.{◌≡◌, ℕ, zero, suc, List, [], ◌∷◌}
use Rattle.std.proofs.Common.{subst, sym}
use Rattle.mqtt_rules.specs.declared.step.Capacity.{Capacity}
use Rattle.mqtt_script.specs.declared.event.Event.{Event as ScriptEvent}
use Rattle.mqtt_world.specs.script_laws.Drains.{IsRound, MakesRounds, Repeats}
use Rattle.mqtt_world.specs.script_laws.Scripted.{Passes, RunsTo, as_drain, as_event}
use Rattle.mqtt_world.specs.script_laws.Turns.{IsTurn, by_choice}
use Rattle.mqtt_world_model.specs.model.Tellings.{Telling}
use Rattle.mqtt_world_model.specs.model.World.{Event, World, receiver_named, to_broker, to_end, ask}
use Rattle.mqtt_world_laws.specs.receiver.Drains.{downs_by, ups_by}
use Rattle.mqtt_world_laws.specs.knowing.Knowing.{HasKnowingEnds}
use Rattle.mqtt_world_laws.proofs.knowing_lemmas.Worlds.{happens_knowing, run_knowing}

module _ (limits : Capacity) where
  -- a turn does
  pub turn_knowing : (e : Event) (t : Telling) (w after : World) → IsTurn limits e t w after → HasKnowingEnds w → HasKnowingEnds after
  turn_knowing e t w after x h = subst HasKnowingEnds (sym x.is) (happens_knowing (by_choice limits x.choice) e w x.good h)

  -- so many do
  pub repeats_knowing : (n : ℕ) (e : Event) (t : Telling) (w after : World) → Repeats limits n e t w after → HasKnowingEnds w → HasKnowingEnds after
  repeats_knowing zero e t w after x h = subst HasKnowingEnds (sym x.1) h
  repeats_knowing (suc n) e t w after (first, rest, mid, turn, more, told) h = repeats_knowing n e rest mid after more (turn_knowing e first w mid turn h)

  -- a round of a drain does
  pub round_knowing : (client : List ℕ) (t : Telling) (w after : World) → IsRound limits client t w after → HasKnowingEnds w → HasKnowingEnds after
  round_knowing client t w after x h =
      repeats_knowing (ups_by (receiver_named client x.read)) (ask (to_broker client)) x.third x.read after x.answers
      (repeats_knowing (downs_by (receiver_named client x.sent)) (to_end client) x.second x.sent x.read x.reads (turn_knowing _ x.first w x.sent x.sends h))

  -- so many do
  pub rounds_knowing : (client : List ℕ) (n : ℕ) (t : Telling) (w after : World) → MakesRounds limits client n t w after → HasKnowingEnds w → HasKnowingEnds after
  rounds_knowing client zero t w after x h = subst HasKnowingEnds (sym x.1) h
  rounds_knowing client (suc n) t w after (on, first, rest, mid, round, more, told) h = rounds_knowing client n rest mid after more (round_knowing client first w mid round h)

  -- an event of a script does
  pub passes_knowing : (e : ScriptEvent) (t : Telling) (w after : World) → Passes limits e t w after → HasKnowingEnds w → HasKnowingEnds after
  passes_knowing e t w after (as_event x is happens) h = subst HasKnowingEnds (sym happens.is) (run_knowing limits happens.turns w h)
  passes_knowing e t w after (as_drain client is drain) h = rounds_knowing client drain.rounds t w after drain.made h

  -- and so do all of them
  pub runs_knowing : (es : List ScriptEvent) (ts : List Telling) (w after : World) → RunsTo limits es ts w after → HasKnowingEnds w → HasKnowingEnds after
  runs_knowing [] ts w after x h = subst HasKnowingEnds (sym x.1) h
  runs_knowing (e ∷ es) [] w after x h = absurd x
  runs_knowing (e ∷ es) (t ∷ ts) w after (mid, passes, rest) h = runs_knowing es ts mid after rest (passes_knowing e t w mid passes h)
