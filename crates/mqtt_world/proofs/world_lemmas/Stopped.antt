-- A broker that is opened again, by itself and behind what was asked (MQTT 5.0, 4.1).
use Rattle.std.proofs.Common.{◌≡◌, ℕ, false, List, [], ◌∷◌, ◌++◌, map, refl, sym, ap, subst, ◌∙◌}
use Rattle.std.proofs.lemmas.List.{map-append}
use Rattle.mqtt_keep.specs.declared.keeping.keep.Keep.{Ghosts}
use Rattle.mqtt_world_model.specs.model.Run.{Turn, run}
use Rattle.mqtt_world_model.specs.model.Tellings.{Telling, silent}
use Rattle.mqtt_world_model.specs.model.World.{Asking, Event, Stranger, World, ask, break, old_to_broker, pump, restart}
use Rattle.mqtt_world_model.specs.model.World.{stop_after, stranger, tick, to_broker, unlinked}
use Rattle.mqtt_world_model.specs.single_steps.Unrolled.{Unrolls, turn}
use Rattle.mqtt_world_laws.specs.acceptance.Spending.{run_spends}
use Rattle.mqtt_world_laws.proofs.receiver_lemmas.drains.DrainRuns.{run_append}
use Rattle.mqtt_rules.specs.step.State.{Broker}
use Rattle.mqtt_rules.specs.step.Step.{opened}
use Rattle.mqtt_rules.specs.declared.step.Capacity.{Capacity}
use Rattle.mqtt_world.specs.clients.Ends.{Ends}
use Rattle.mqtt_world.specs.script_laws.Scripted.{Happens}
use Rattle.mqtt_world.specs.script_laws.Turns.{IsPlain, IsReopened}
use Rattle.mqtt_world.proofs.script_laws_lemmas.Scripts.{spent_joined}
use Rattle.mqtt_world.proofs.script_laws_lemmas.Single.{turn_unspent}
use Rattle.mqtt_world.specs.scene.Events.{IsReached, opens_again, world_of}
use Rattle.mqtt_world.specs.scene.Openings.{Reopens}
use Rattle.mqtt_world.specs.scene.Scenes.{Played}

-- ---- of a world

one_ask : (a : Asking) (w : World) (es : List Event) → IsPlain a → Unrolls (ask a) w es → es ≡ ask a ∷ []
one_ask (to_broker client) w es p is = is
one_ask (old_to_broker client) w es p is = is
one_ask (break client) w es p is = is
one_ask (pump client) w es p is = is
one_ask tick w es p is = is
one_ask (stranger name bytes) w es p is = absurd p

and_a_restart : (a : Asking) (w : World) (es : List Event) → IsPlain a → es ≡ ask a ∷ restart ∷ [] → Unrolls (stop_after a) w es
and_a_restart (to_broker client) w es p is = is
and_a_restart (old_to_broker client) w es p is = is
and_a_restart (break client) w es p is = is
and_a_restart (pump client) w es p is = is
and_a_restart tick w es p is = is
and_a_restart (stranger name bytes) w es p is = absurd p

-- what was asked happened, and then the broker was opened again
pub stops_behind : (limits : Capacity) (a : Asking) (t : Telling) (w mid after : World) → IsPlain a → Happens limits (ask a) t w mid
    → IsReopened limits mid after → Happens limits (stop_after a) silent w after
stops_behind limits a t w mid after p does opens =
    let last : List Turn = turn opens.choice restart ∷ [] in
    let events = map-append (λ (x : Turn). x.event) does.turns last in
    let asked = one_ask a w (map (λ (x : Turn). x.event) does.turns) p does.unrolls in
    record {
      good = does.good;
      turns = does.turns ++ last;
      unrolls = and_a_restart a w (map (λ (x : Turn). x.event) (does.turns ++ last)) p
          (events ∙ ap (λ (es : List Event). es ++ restart ∷ []) asked);
      unspent = spent_joined limits does.turns last w does.unspent
          (subst (λ (v : World). run_spends limits last v ≡ false) does.is (turn_unspent limits opens.choice restart mid refl opens.unspent));
      is = opens.is ∙ (ap (run limits last) does.is ∙ sym (run_append limits does.turns last w));
      told = refl;
    }

-- ---- of a broker with its ends

module _ {K : Type 0} (g : Ghosts K) (now : ℕ) (limits : Capacity) (old new : Played K) where
  -- if the old broker can come to be, so can the one that is opened again on a sound device
  pub reached_again : Reopens g limits now old new → g.is_sound new.engine.running.keep
      → IsReached limits old.engine.running.broker → IsReached limits new.engine.running.broker
  reached_again r sound reached =
      let o = r.opens sound in
      subst (IsReached limits) (sym (o.broker sound)) (opens_again o.choice now old.engine.running.broker reached o.unspent)

  -- if the broker is opened again on a sound device, so is its world, in which no stranger has a line
  pub reopened : (ss : List Stranger) → Reopens g limits now old new → g.is_sound new.engine.running.keep
      → IsReopened limits (world_of now ss old) (world_of now (map unlinked ss) new)
  reopened ss r sound =
      let o = r.opens sound in
      let stands : Broker → Ends → World = λ b e.
      record { broker = b; now = now; publishers = e.publishers; receivers = e.receivers; strangers = map unlinked ss } in
      record {
        choice = o.choice;
        unspent = o.unspent;
        is = ap (λ (b : Broker). stands b new.ends) (o.broker sound)
            ∙ ap (stands (opened limits o.choice now old.engine.running.broker.records)) r.ends;
      }
