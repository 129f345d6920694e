-- The turns of a drain, each by its own choice (MQTT 5.0, 4.3, 4.4, 4.6).
use Rattle.std.proofs.Common.{◌≡◌, ℕ, zero, suc, true, false, List, [], ◌∷◌, ◌++◌, refl, sym, ap, subst, ◌∙◌}
use Rattle.mqtt_world_model.specs.model.Run.{Turn, run}
use Rattle.mqtt_world_model.specs.model.Tellings.{Telling}
use Rattle.mqtt_world_model.specs.model.World.{Event, World, ask, pump, receiver_named, to_broker, to_end}
use Rattle.mqtt_rules.specs.declared.step.Capacity.{Capacity}
use Rattle.mqtt_world_model.specs.single_steps.Unrolled.{turn}
use Rattle.mqtt_world_laws.specs.acceptance.Spending.{run_spends}
use Rattle.mqtt_world_laws.specs.receiver.Drains.{downs_by, is_over, times, ups_by}
use Rattle.mqtt_world_laws.proofs.receiver_lemmas.drains.DrainRuns.{run_append}
use Rattle.mqtt_world.specs.script_laws.Drains.{AreTurnsOfRound, AreTurnsOfRounds, IsRound, MakesRounds, Repeats}
use Rattle.mqtt_world.specs.script_laws.Turns.{IsTurn, events_of}
use Rattle.mqtt_world.proofs.script_laws_lemmas.Costs.{spent_joined}
use Rattle.mqtt_world.proofs.script_laws_lemmas.Single.{turn_is, turn_unspent}

-- the turns lead from the one world to the other, and spend no number
pub record Leads (limits : Capacity) (ts : List Turn) (w after : World) : Type 0 where
  pub is : after ≡ run limits ts w
  pub unspent : run_spends limits ts w ≡ false

lead_joined : (limits : Capacity) (xs ys : List Turn) (w mid after : World) → Leads limits xs w mid → Leads limits ys mid after → Leads limits (xs ++ ys) w after
lead_joined limits xs ys w mid after x y = record {
  is = y.is ∙ (ap (run limits ys) x.is ∙ sym (run_append limits xs ys w));
  unspent = spent_joined limits xs ys w x.unspent (subst (λ (v : World). run_spends limits ys v ≡ false) x.is y.unspent);
}

own_turn : (limits : Capacity) (e : Event) (t : Telling) (w after : World) → (does : IsTurn limits e t w after) → Leads limits (turn does.choice e ∷ []) w after
own_turn limits e t w after does = record { is = does.is ∙ sym (turn_is limits does.choice e w does.good); unspent = turn_unspent limits does.choice e w does.good does.unspent }

repeats_by_turns : (limits : Capacity) (n : ℕ) (e : Event) (t : Telling) (w after : World) → Repeats limits n e t w after → (ts : List Turn) × (events_of ts ≡ times n e) × Leads limits ts w after
repeats_by_turns limits zero e t w after h = ([], refl, record { is = h.1; unspent = refl })
repeats_by_turns limits (suc more) e t w after (first, rest, mid, does, others, told) =
    let x = own_turn limits e first w mid does in
    let y = repeats_by_turns limits more e rest mid after others in
    (turn does.choice e ∷ y.0, ap (λ (es : List Event). e ∷ es) y.1, lead_joined limits (turn does.choice e ∷ []) y.0 w mid after x y.2)

round_by_turns : (limits : Capacity) (client : List ℕ) (t : Telling) (w after : World) → IsRound limits client t w after → (ts : List Turn) × AreTurnsOfRound limits client ts w × Leads limits ts w after
round_by_turns limits client t w after x =
    let sends : List Turn = turn x.sends.choice (ask (pump client)) ∷ [] in
    let one : Leads limits sends w x.sent = own_turn limits (ask (pump client)) x.first w x.sent x.sends in
    let two = repeats_by_turns limits (downs_by (receiver_named client x.sent)) (to_end client) x.second x.sent x.read x.reads in
    let three = repeats_by_turns limits (ups_by (receiver_named client x.read)) (ask (to_broker client)) x.third x.read after x.answers in
    let read_is : x.read ≡ run limits two.0 (run limits sends w) = two.2.is ∙ ap (run limits two.0) one.is in (
      sends ++ (two.0 ++ three.0),
      record {
        sends = sends;
        reads = two.0;
        answers = three.0;
        sends_are = refl;
        reads_are = two.1 ∙ ap (λ (v : World). times (downs_by (receiver_named client v)) (to_end client)) one.is;
        answers_are = three.1 ∙ ap (λ (v : World). times (ups_by (receiver_named client v)) (ask (to_broker client))) read_is;
        are = refl;
      },
      lead_joined limits sends (two.0 ++ three.0) w x.sent after one (lead_joined limits two.0 three.0 x.sent x.read after two.2 three.2),
    )

-- the rounds of a drain that ends are turns
pub rounds_by_turns : (limits : Capacity) (client : List ℕ) (rounds : ℕ) (t : Telling) (w after : World) → MakesRounds limits client rounds t w after → is_over client after ≡ true
    → (ts : List Turn) × AreTurnsOfRounds limits client rounds ts w × Leads limits ts w after
rounds_by_turns limits client zero t w after h over = ([], (sym (ap (is_over client) h.1) ∙ over, refl), record { is = h.1; unspent = refl })
rounds_by_turns limits client (suc rounds) t w after (on, first, rest, mid, made, others, told) over =
    let x = round_by_turns limits client first w mid made in
    let y = rounds_by_turns limits client rounds rest mid after others over in
    (x.0 ++ y.0, (on, x.0, y.0, x.1, subst (AreTurnsOfRounds limits client rounds y.0) x.2.is y.1, refl), lead_joined limits x.0 y.0 w mid after x.2 y.2)
