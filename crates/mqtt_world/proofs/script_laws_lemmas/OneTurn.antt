-- What a drain is made of happens as one turn each: the broker sends, an end reads, the broker reads (MQTT 5.0, 4.6).
use Rattle.std.proofs.Common.{◌≡◌, ℕ, Bool, true, false, cond, ◌||◌, List, [], ◌∷◌, refl, sym, ap, ◌∙◌}
use Rattle.mqtt_rules.specs.step.State.{MemberChoice}
use Rattle.mqtt_rules.specs.declared.step.Capacity.{Capacity}
use Rattle.mqtt_world_model.specs.model.Run.{Turn, deeds_over, read_in, run}
use Rattle.mqtt_world_model.specs.model.Tellings.{Telling, telling}
use Rattle.mqtt_world_model.specs.model.World.{Event, World, ask, is_bad, pump, to_broker, to_end}
use Rattle.mqtt_world_model.specs.single_steps.Unrolled.{turn}
use Rattle.mqtt_world_laws.specs.acceptance.Spending.{run_spends, spending}
use Rattle.mqtt_world.specs.script_laws.Scripted.{Happens, is_heard, tells_if, tells_in}
use Rattle.mqtt_world.specs.script_laws.Turns.{IsTurn, by_choice, events_of}
use Rattle.mqtt_world.proofs.script_laws_lemmas.Single.{turn_deeds, turn_is}

nothing_more : (b : Bool) → (b || false) ≡ false → b ≡ false
nothing_more true h = h
nothing_more false h = refl

-- a turn that spends nothing costs nothing where it is read
pub turn_costs : (limits : Capacity) (choice : MemberChoice) (e : Event) (w : World) → is_bad e w ≡ false → run_spends limits (turn choice e ∷ []) w ≡ false → read_in spending (by_choice limits choice) e w ≡ false
turn_costs limits choice e w good unspent =
    let spends = read_in spending (by_choice limits choice) e w in
    nothing_more spends (sym (ap (λ (b : Bool). cond b false spends || false) good) ∙ unspent)

-- what comes to that event alone is one turn of it
one_turn : (limits : Capacity) (e : Event) (t : Telling) (w after : World) (turns : List Turn) → events_of turns ≡ e ∷ [] → is_heard e ≡ true → is_bad e w ≡ false → run_spends limits turns w ≡ false
    → after ≡ run limits turns w → t ≡ tells_in limits e turns w → IsTurn limits e t w after
one_turn limits e t w after [] are heard good unspent is told = absurd cc
one_turn limits e t w after (x ∷ y ∷ more) are heard good unspent is told = absurd cc
one_turn limits e t w after (x ∷ []) are heard good unspent is told =
    let same : x.event ≡ e = cc in
    let its : x ∷ [] ≡ turn x.choice e ∷ [] = ap (λ (f : Event). turn x.choice f ∷ []) same in
    record {
      choice = x.choice;
      good = good;
      unspent = turn_costs limits x.choice e w good (sym (ap (λ (ts : List Turn). run_spends limits ts w) its) ∙ unspent);
      is = is ∙ (ap (λ (ts : List Turn). run limits ts w) its ∙ turn_is limits x.choice e w good);
      told =
          told
          ∙ (ap (λ (ts : List Turn). tells_in limits e ts w) its
          ∙ (ap (λ (b : Bool). tells_if b (telling (deeds_over limits (turn x.choice e ∷ []) w))) heard
          ∙ ap telling (turn_deeds limits x.choice e w good)));
    }

-- a pump is one turn
pub sends_once : (limits : Capacity) (client : List ℕ) (t : Telling) (w after : World) → Happens limits (ask (pump client)) t w after → IsTurn limits (ask (pump client)) t w after
sends_once limits client t w after h = one_turn limits (ask (pump client)) t w after h.turns h.unrolls refl h.good h.unspent h.is h.told

-- an end's reading is one turn
pub reads_once : (limits : Capacity) (client : List ℕ) (t : Telling) (w after : World) → Happens limits (to_end client) t w after → IsTurn limits (to_end client) t w after
reads_once limits client t w after h = one_turn limits (to_end client) t w after h.turns h.unrolls refl h.good h.unspent h.is h.told

-- the broker's reading of an answer is one turn
pub answers_once : (limits : Capacity) (client : List ℕ) (t : Telling) (w after : World) → Happens limits (ask (to_broker client)) t w after → IsTurn limits (ask (to_broker client)) t w after
answers_once limits client t w after h = one_turn limits (ask (to_broker client)) t w after h.turns h.unrolls refl h.good h.unspent h.is h.told
