-- An end that joins: its CONNECT on a new line, if there is one (MQTT 5.0, 3.1, 4.2).
use Rattle.std.proofs.Common.{◌≡◌, ℕ, suc, Bool, true, false, cond, List, Option, Some, None, refl, sym, ap, subst, ◌∙◌}
use Rattle.mqtt_keep.specs.declared.keeping.keep.Keep.{Ghosts}
use Rattle.mqtt_world_model.specs.model.Tellings.{Telling, silent}
use Rattle.mqtt_world_model.specs.model.World.{Stranger, connect_end, is_bad, links, next_line}
use Rattle.mqtt_broker.specs.engine.Serving.{Serving}
use Rattle.mqtt_rules.specs.declared.step.Capacity.{Capacity}
use Rattle.mqtt_rules.specs.step.State.{Broker}
use Rattle.mqtt_rules.specs.step.Step.{NewLine, can_link}
use Rattle.mqtt_world.specs.clients.Ends.{Become, Ends, joins}
use Rattle.mqtt_world.specs.script_laws.Scripted.{Happens}
use Rattle.mqtt_world.specs.script_laws.Turns.{by_choice}
use Rattle.mqtt_world.proofs.script_laws_lemmas.Single as single
use Rattle.mqtt_world_laws.proofs.knowing_lemmas.Worlds.{new_line_takes}
use Rattle.mqtt_world.specs.scene.Scenes.{Calls, IsPlayable, Played}
use Rattle.mqtt_world.specs.scene.Events.{Does, played, world_of}
use Rattle.mqtt_world.proofs.scene_lemmas.Eventful.{any_setting, playable_still, reached_after, world_called}

-- ---- whether there is a line for it

-- if none may be linked there is no next one
pub none_next : (limits : Capacity) (b : Broker) → can_link limits b ≡ false → next_line limits b ≡ None
none_next limits b is = ap (λ (free : Bool). cond free (Some (suc b.given)) None) is

-- and if one may there is, as a scene is seen
pub next_there : {K : Type 0} (E : Serving K) (O : Ends) (s : Played K) → played E O ≡ s → can_link E.running.limits E.running.broker ≡ true
    → next_line s.engine.running.limits s.engine.running.broker ≡ Some (suc E.running.broker.given)
next_there E O s view is =
    ap (λ (x : Played _). next_line x.engine.running.limits x.engine.running.broker) (sym view)
    ∙ ap (λ (free : Bool). cond free (Some (suc E.running.broker.given)) None) is

-- ---- what it does

module _ {K : Type 0} (g : Ghosts K) (now : ℕ) (client : List ℕ) (clean : Bool) (E : Serving K) (O : Ends) (s : Played K) (t : Telling) where
  abbrev is_good : Type 0
  is_good = (ss : List Stranger) → is_bad (connect_end client clean) (world_of now ss (played E O)) ≡ false

  -- if there is a line for it
  pub joined : (F : Serving K) (P N : Ends) (f : Played K) (line : ℕ) → t ≡ silent → played E O ≡ s → played F P ≡ f → is_good
      → Some line ≡ next_line s.engine.running.limits s.engine.running.broker → Calls g now NewLine s silent f → Become (joins line client clean) P N
      → Does g now (connect_end client clean) s (Some t) (played F N)
  joined F P N f line told before after good next linked become =
      let c : Calls g now NewLine s silent (played F P) = subst (λ (x : Played K). Calls g now NewLine s silent x) (sym after) linked in
      record {
        playable = playable_still g now F P N c.playable;
        limits = c.limits;
        sound = c.sound;
        reached = λ sound reached. reached_after g now NewLine s (played F P) silent tt (c.truly sound) reached;
        done = λ sound spells reached ss knowing.
            let limits = s.engine.running.limits in
            let x = c.truly sound in
            let set = by_choice limits x.choice in
            let w = world_of now ss s in
            let v = world_of now ss (played F N) in
            let at : v ≡ links set (Some line) client clean w =
            become (world_of now ss (played F P)) ∙ ap (joins line client clean) (world_called g now NewLine s (played F P) silent ss reached tt x spells knowing (new_line_takes w)) in
            subst (λ (u : Telling). Happens limits (connect_end client clean) u w v) (sym told)
            (single.joins limits x.choice client clean w v
            (ap (λ (y : Played K). is_bad (connect_end client clean) (world_of now ss y)) (sym before) ∙ good ss)
            (at ∙ ap (λ (o : Option ℕ). links set o client clean w) next));
      }

  -- if there is none
  pub left_alone : t ≡ silent → played E O ≡ s → IsPlayable g s → is_good → next_line E.running.limits E.running.broker ≡ None
      → Does g now (connect_end client clean) s (Some t) s
  left_alone told before playable good none = record {
    playable = playable;
    limits = refl;
    sound = λ sound. sound;
    reached = λ sound reached. reached;
    done = λ sound spells reached ss knowing.
        let limits = s.engine.running.limits in
        let choice = (any_setting limits).choice in
        let set = by_choice limits choice in
        let w = world_of now ss s in
        let next : next_line s.engine.running.limits s.engine.running.broker ≡ None = ap (λ (x : Played K). next_line x.engine.running.limits x.engine.running.broker) (sym before) ∙ none in
        subst (λ (x : Telling). Happens limits (connect_end client clean) x w w) (sym told)
        (single.joins limits choice client clean w w
        (ap (λ (x : Played K). is_bad (connect_end client clean) (world_of now ss x)) (sym before) ∙ good ss)
        (sym (ap (λ (o : Option ℕ). links set o client clean w) next)));
  }
