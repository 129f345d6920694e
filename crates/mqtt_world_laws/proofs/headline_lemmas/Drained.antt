-- Each drain of a script: the copies that enter in it, how many rounds it takes, and how copies end in it (MQTT 5.0, 4.3, 4.4, 4.6).
use Rattle.std.proofs.Common.{◌≡◌, ℕ, zero, suc, ◌+◌, ◌≤◌, Bool, true, false, cond, List, [], ◌∷◌, ◌++◌, length, refl, sym, ap, subst, ◌∙◌, append_assoc, arith}
use Rattle.std.specs.Prelude.{filter_map}
use Rattle.std.proofs.lemmas.List.{length-append}
use Rattle.std.proofs.lemmas.List.Elements.{filter_map-append}
use Rattle.mqtt_rules.specs.step.Deeds.{Deed}
use Rattle.mqtt_rules.specs.step.State.{MemberChoice}
use Rattle.mqtt_rules.specs.declared.step.Capacity.{Capacity}
use Rattle.mqtt_world_model.specs.model.Run.{Turn, deeds_at, deeds_over, entered_in, run, setting, turned}
use Rattle.mqtt_world_model.specs.model.World.{World}
use Rattle.mqtt_world_laws.specs.acceptance.Copies.{entered_from}
use Rattle.mqtt_world_laws.specs.receiver.Drains.{Doing, after_round, count_by_end, drain_by, drain_turns, drains, enough_rounds, happens, is_over, round_turns}
use Rattle.mqtt_world_laws.specs.receiver.Drains.{rounds_taken, turns_of}
use Rattle.mqtt_world_laws.specs.drains.Emptied.{AllDrainsEmpty, EmptiesWhere, copies_to_take}
use Rattle.mqtt_world_laws.specs.drain_causes.DrainEnds.{AllDrainsEndSo, AreOfDrain, EndWhere}
use Rattle.mqtt_world_laws.specs.headline.Delivery.{DrainsWhere, EachDrains, copies_of_drain}

-- ---- the copies that enter in one run and then another

deeds_joined : (limits : Capacity) (xs ys : List Turn) (w : World) → deeds_over limits (xs ++ ys) w ≡ deeds_over limits xs w ++ deeds_over limits ys (run limits xs w)
deeds_joined limits [] ys w = refl
deeds_joined limits (t ∷ xs) ys w =
    let u = turned limits t w in
    let ds = deeds_at (setting limits t) t.event w in
    ap (λ (es : List Deed). ds ++ es) (deeds_joined limits xs ys u) ∙ sym (append_assoc ds (deeds_over limits xs u) (deeds_over limits ys (run limits xs u)))

entered_joined : (limits : Capacity) (xs ys : List Turn) (w : World) → length (entered_from limits (xs ++ ys) w) ≡ length (entered_from limits xs w) + length (entered_from limits ys (run limits xs w))
entered_joined limits xs ys w =
    let ds = deeds_over limits xs w in
    let es = deeds_over limits ys (run limits xs w) in
    ap (λ (x : List Deed). length (filter_map entered_in x)) (deeds_joined limits xs ys w)
    ∙ (ap length (filter_map-append entered_in ds es) ∙ length-append (filter_map entered_in ds) (filter_map entered_in es))

-- ---- a drain

module _ (limits : Capacity) (choice : MemberChoice) (c : List ℕ) where
  -- those that enter in the first round enter in the drain
  few_rounds : (most : ℕ) (w : World) → rounds_taken limits choice c most w ≤ enough_rounds (copies_to_take limits choice c w) → rounds_taken limits choice c most w ≤ enough_rounds (copies_of_drain limits choice c most w)
  few_rounds zero w few = omega arith
  few_rounds (suc more) w few = by (is_over c w) refl
    where
      turns : List Turn
      turns = round_turns limits choice c w

      v : World
      v = after_round limits choice c w

      rest : List Turn
      rest = drain_turns limits choice c more v

      by : (t : Bool) → is_over c w ≡ t → rounds_taken limits choice c (suc more) w ≤ enough_rounds (copies_of_drain limits choice c (suc more) w)
      by true over =
          let none : rounds_taken limits choice c (suc more) w ≡ 0 = ap (λ (t : Bool). count_by_end t (rounds_taken limits choice c more v)) over in
          omega (arith, none)
      by false on =
          let all : length (entered_from limits (drain_turns limits choice c (suc more) w) w) ≡ length (entered_from limits turns w) + length (entered_from limits rest v)
          = ap (λ (t : Bool). length (entered_from limits (drain_by t turns rest) w)) on ∙ entered_joined limits turns rest w
          in
          omega (arith, all, few)

-- ---- a script

doing_drains : (limits : Capacity) (d : Doing) (w : World) → EmptiesWhere limits d w → EndWhere limits d w → DrainsWhere limits d w
doing_drains limits (happens t) w p q = tt
doing_drains limits (drains choice c most) w p q = λ good.
    let e = p good in
    record {
      is_within = few_rounds limits choice c most w e.is_within;
      empties = e;
      ends = subst (λ (bad : Bool). AreOfDrain c limits (cond bad [] (drain_turns limits choice c most w)) w) good q;
    }

-- a drain that ends with its causes and an empty queue is one
pub each_drains : (limits : Capacity) (ds : List Doing) (w : World) → AllDrainsEmpty limits ds w → AllDrainsEndSo limits ds w → EachDrains limits ds w
each_drains limits [] w p q = tt
each_drains limits (d ∷ ds) w p q = (doing_drains limits d w p.0 q.0, each_drains limits ds (run limits (turns_of limits d w) w) p.1 q.1)
