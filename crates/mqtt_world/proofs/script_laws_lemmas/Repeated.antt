-- An event that happens some times, each as a turn with a choice of its own, happens so by any one choice; and turns behind turns.
use Rattle.std.proofs.Common.{◌≡◌, ℕ, zero, suc, ◌+◌, Bool, true, false, ◌&&◌, List, [], ◌∷◌, ◌++◌, map, Option, Some, None, refl, sym, ap, subst, ◌∙◌, arith}
use Rattle.std.specs.Prelude.{is_some}
use Rattle.std.proofs.lemmas.List.{append-nil, append_assoc}
use Rattle.mqtt_world_model.specs.model.Ends.{Back, Publisher, Receiver, wire_back}
use Rattle.mqtt_world_model.specs.model.Run.{Turn, are_beginnings_clean, begins_clean, deeds_over, read_if, read_in, run, turned, read_at, setting, the_deeds}
use Rattle.mqtt_world_model.specs.model.Tellings.{Telling, silent, telling}
use Rattle.mqtt_world_model.specs.model.World.{Event, View, World, ask, calls_if, happens, input_on, pump, pump_on, publisher_told, receiver_named, receiver_told, taken_up, to_broker, to_end, view_by, view_of, with_line}
use Rattle.mqtt_rules.specs.step.Deeds.{Deed}
use Rattle.mqtt_rules.specs.step.State.{MemberChoice}
use Rattle.mqtt_rules.specs.step.Step.{Call, Input, Pump, at_moment, deeds, done, is_spent, outcome_of, rows_written}
use Rattle.mqtt_rules.specs.declared.step.Capacity.{Capacity}
use Rattle.mqtt_world_laws.specs.acceptance.Spending.{run_spends, spending}
use Rattle.mqtt_world_laws.specs.receiver.Drains.{times, turn_of}
use Rattle.mqtt_world_laws.proofs.receiver_lemmas.drains.DrainRuns.{run_append}
use Rattle.mqtt_world_laws.specs.delivery.Standing.{IsPlaced, IsSeen}
use Rattle.mqtt_world_laws.specs.receiver.Connecting.{any_size}
use Rattle.mqtt_world_laws.proofs.delivery_lemmas.whole.Ledgers.{run_remains}
use Rattle.mqtt_world_laws.proofs.delivery_lemmas.others.Runs.{IsKept, run_kept}
use Rattle.mqtt_world.specs.script_laws.Drains.{Repeats}
use Rattle.mqtt_world.specs.script_laws.Turns.{IsTurn, both_tell, by_choice}
use Rattle.mqtt_world.proofs.script_laws_lemmas.Chosen.{deeds_same}
use Rattle.mqtt_world.proofs.script_laws_lemmas.Pieces.{told_joined}
use Rattle.mqtt_world.proofs.script_laws_lemmas.Costs.{spent_joined}
use Rattle.mqtt_world.proofs.script_laws_lemmas.Single.{turn_deeds, turn_is, turn_unspent}

-- ---- turns behind turns

-- these turns come to that world, spend no number and tell this
pub record Comes (limits : Capacity) (ts : List Turn) (t : Telling) (w after : World) : Type 0 where
  pub is : after ≡ run limits ts w
  pub unspent : run_spends limits ts w ≡ false
  pub told : t ≡ telling (deeds_over limits ts w)

deeds_joined : (limits : Capacity) (xs ys : List Turn) (w : World) → deeds_over limits (xs ++ ys) w ≡ deeds_over limits xs w ++ deeds_over limits ys (run limits xs w)
deeds_joined limits [] ys w = refl
deeds_joined limits (t ∷ xs) ys w =
    let ds = read_at the_deeds (setting limits t) t.event w in
    let v = turned limits t w in
    ap (λ (es : List Deed). ds ++ es) (deeds_joined limits xs ys v)
    ∙ sym (append_assoc ds (deeds_over limits xs v) (deeds_over limits ys (run limits xs v)))

-- two comings, one behind the other, are one
pub come_joined : (limits : Capacity) (xs ys : List Turn) (t u : Telling) (w mid after : World) → Comes limits xs t w mid → Comes limits ys u mid after → Comes limits (xs ++ ys) (both_tell t u) w after
come_joined limits xs ys t u w mid after x y = record {
  is = y.is ∙ (ap (run limits ys) x.is ∙ sym (run_append limits xs ys w));
  unspent = spent_joined limits xs ys w x.unspent (subst (λ (v : World). run_spends limits ys v ≡ false) x.is y.unspent);
  told =
      ap (λ (z : Telling). both_tell z u) x.told
      ∙ (ap (both_tell (telling (deeds_over limits xs w))) (y.told ∙ ap (λ (v : World). telling (deeds_over limits ys v)) x.is)
      ∙ sym (ap telling (deeds_joined limits xs ys w) ∙ told_joined (deeds_over limits xs w) (deeds_over limits ys (run limits xs w))));
}

-- ---- where a receiver stands

-- the receiver is there, and kept as a drain asks
pub record IsReady (client : List ℕ) (limits : Capacity) (w : World) : Type 0 where
  pub kept : IsKept [] client limits w
  pub there : is_some (receiver_named client w) ≡ true

-- an end that is there stays
pub some_there : (client : List ℕ) (limits : Capacity) (ts : List Turn) (w : World) → is_some (receiver_named client w) ≡ true → is_some (receiver_named client (run limits ts w)) ≡ true
some_there client limits ts w there = by (receiver_named client w) refl there
  where
    by : (o : Option Receiver) → receiver_named client w ≡ o → is_some o ≡ true → is_some (receiver_named client (run limits ts w)) ≡ true
    by None e h = absurd cc
    by (Some r) e h = ap is_some (run_remains client limits ts w r e).1

-- an end that is ready stays ready
pub ready_after : (client : List ℕ) (limits : Capacity) (ts : List Turn) (t : Telling) (w after : World) → IsReady client limits w → Comes limits ts t w after → are_beginnings_clean limits ts w ≡ true → IsReady client limits after
ready_after client limits ts t w after h x carried = record {
  kept = subst (IsKept [] client limits) (sym x.is) (run_kept [] client limits ts w h.kept x.unspent carried);
  there = ap (λ (v : World). is_some (receiver_named client v)) x.is ∙ some_there client limits ts w h.there;
}

-- ---- what is asked of the broker, by two choices

-- the call, by what it does
abbrev called_by : Call → List Deed → World → World
called_by call ds w =
    let b = done ds (at_moment w.now w.broker) in
    let out = outcome_of call ds (at_moment w.now w.broker) in
    record w { broker = b; publishers = map (publisher_told b out) w.publishers; receivers = map (receiver_told b out) w.receivers }

-- the event is the same by both
pub record IsSame (limits : Capacity) (c d : MemberChoice) (e : Event) (w : World) : Type 0 where
  pub does : happens (by_choice limits c) e w ≡ happens (by_choice limits d) e w
  pub spends : read_in spending (by_choice limits c) e w ≡ read_in spending (by_choice limits d) e w
  pub deeds_are : read_in the_deeds (by_choice limits c) e w ≡ read_in the_deeds (by_choice limits d) e w

record IsSameCall (limits : Capacity) (c d : MemberChoice) (o : Option Call) (w : World) : Type 0 where
  pub does : calls_if (by_choice limits c) o w ≡ calls_if (by_choice limits d) o w
  pub spends : read_if spending (by_choice limits c) o w ≡ read_if spending (by_choice limits d) o w
  pub deeds_are : read_if the_deeds (by_choice limits c) o w ≡ read_if the_deeds (by_choice limits d) o w

module _ (limits : Capacity) (c d : MemberChoice) where
  call_same : (o : Option Call) (w : World) → ((call : Call) → o ≡ Some call → deeds limits c w.now call w.broker ≡ deeds limits d w.now call w.broker) → IsSameCall limits c d o w
  call_same None w h = record { does = refl; spends = refl; deeds_are = refl }
  call_same (Some call) w h =
      let same = h call refl in
      record {
        does = ap (λ (ds : List Deed). called_by call ds w) same;
        spends = ap (λ (ds : List Deed). is_spent (rows_written ds (at_moment w.now w.broker))) same;
        deeds_are = same;
      }

  -- the broker sends
  pumped : (number : Option ℕ) (w : World) (call : Call) → pump_on number ≡ Some call → deeds limits c w.now call w.broker ≡ deeds limits d w.now call w.broker
  pumped None w call e = absurd cc
  pumped (Some n) w call e =
      let same : Pump n ≡ call = cc in
      subst (λ (x : Call). deeds limits c w.now x w.broker ≡ deeds limits d w.now x w.broker) same refl

  -- a turn of sending comes to the same by any choice
  pub pump_same : (client : List ℕ) (w : World) → IsSame limits c d (ask (pump client)) w
  pump_same client w =
      let number = (view_of client w).number in
      let x = call_same (pump_on number) w (pumped number w) in
      record { does = x.does; spends = x.spends; deeds_are = x.deeds_are }

  -- the end reads: the broker is asked for nothing
  pub reads_same : (client : List ℕ) (w : World) → IsSame limits c d (to_end client) w
  reads_same client w = record { does = refl; spends = refl; deeds_are = refl }

  -- the broker reads
  pub answers_same : (client : List ℕ) (w : World) → IsReady client limits w → IsSame limits c d (ask (to_broker client)) w
  answers_same client w h = by (receiver_named client w) refl h.there
    where
      taken : World
      taken = with_line client taken_up taken_up w

      called : (r : Receiver) → IsPlaced any_size h.kept.stands.ids h.kept.stands.ns r w.broker → (number : Option ℕ) (up : List Back) → r.line.number ≡ number → r.line.up ≡ up → (call : Call)
          → input_on number (map (wire_back r.client r.window r.aliases) up) ≡ Some call → deeds limits c w.now call w.broker ≡ deeds limits d w.now call w.broker
      called r placed None up is ups call e = absurd cc
      called r placed (Some n) [] is ups call e = absurd cc
      called r placed (Some n) (x ∷ rest) is ups call e =
          let same : Input n (wire_back r.client r.window r.aliases x) ≡ call = cc in
          subst (λ (y : Call). deeds limits c w.now y w.broker ≡ deeds limits d w.now y w.broker) same
          (deeds_same limits c d w.now r w.broker any_size h.kept.stands.ids h.kept.stands.ns n x rest placed is ups)

      by : (o : Option Receiver) → receiver_named client w ≡ o → is_some o ≡ true → IsSame limits c d (ask (to_broker client)) w
      by None e some = absurd cc
      by (Some r) e some =
          let s = h.kept.stands.standing in
          let v = view_of client w in
          let placed : IsPlaced any_size h.kept.stands.ids h.kept.stands.ns r w.broker = subst (IsSeen any_size h.kept.stands.ids h.kept.stands.ns w.broker) e s.seen in
          let view : v ≡ view_by None (Some r) = ap (λ (o : Option Publisher). view_by o (receiver_named client w)) (s.around.alone (ap is_some e)) ∙ ap (λ (o : Option Receiver). view_by None o) e in
          let asked : input_on v.number v.up ≡ input_on r.line.number (map (wire_back r.client r.window r.aliases) r.line.up) = ap (λ (x : View). input_on x.number x.up) view in
          let x = call_same (input_on v.number v.up) taken (λ call is. called r placed r.line.number r.line.up refl refl call (sym asked ∙ is)) in
          record { does = x.does; spends = x.spends; deeds_are = x.deeds_are }

-- ---- a turn by another choice than its own

-- a turn may be made by another choice that comes to the same
pub turn_by : (limits : Capacity) (d : MemberChoice) (e : Event) (t : Telling) (w after : World) → (does : IsTurn limits e t w after) → IsSame limits does.choice d e w → Comes limits (turn_of d e ∷ []) t w after
turn_by limits d e t w after does same = record {
  is = does.is ∙ (same.does ∙ sym (turn_is limits d e w does.good));
  unspent = turn_unspent limits d e w does.good (sym same.spends ∙ does.unspent);
  told = does.told ∙ ap telling (same.deeds_are ∙ sym (turn_deeds limits d e w does.good));
}

-- ---- some turns

-- so may many
pub repeats_by : (client : List ℕ) (limits : Capacity) (d : MemberChoice) (e : Event) → ((w : World) → begins_clean e w ≡ true) → ((c : MemberChoice) (w : World) → IsReady client limits w → IsSame limits c d e w)
    → (n : ℕ) (t : Telling) (w after : World) → IsReady client limits w → Repeats limits n e t w after → Comes limits (times n (turn_of d e)) t w after × IsReady client limits after
repeats_by client limits d e carries same zero t w after h k = (record { is = k.1; unspent = refl; told = k.0 }, subst (IsReady client limits) (sym k.1) h)
repeats_by client limits d e carries same (suc more) t w after h (first, rest, mid, does, others, told) =
    let x = turn_by limits d e first w mid does (same does.choice w h) in
    let ready = ready_after client limits (turn_of d e ∷ []) first w mid h x (ap (λ (b : Bool). b && true) (carries w)) in
    let y = repeats_by client limits d e carries same more rest mid after ready others in
    (subst (λ (z : Telling). Comes limits (times (suc more) (turn_of d e)) z w after) (sym told) (come_joined limits (turn_of d e ∷ []) (times more (turn_of d e)) first rest w mid after x y.0), y.1)

-- ---- what is told, together

-- telling nothing more tells the same
pub tell_nothing_more : (t : Telling) → both_tell t silent ≡ t
tell_nothing_more t = ap (λ (rs : List _). record { reports = rs; out = t.out + 0 }) (append-nil t.reports) ∙ ap (λ (n : ℕ). record t { out = n }) (omega arith)

-- so does telling nothing first
pub tell_nothing_first : (t : Telling) → both_tell silent t ≡ t
tell_nothing_first t = ap (λ (n : ℕ). record t { out = n }) (omega arith)

-- tellings may be put together in any order of brackets
pub tell_together : (t u v : Telling) → both_tell (both_tell t u) v ≡ both_tell t (both_tell u v)
tell_together t u v =
    ap (λ (rs : List _). record { reports = rs; out = (t.out + u.out) + v.out }) (append_assoc t.reports u.reports v.reports)
    ∙ ap (λ (n : ℕ). record { reports = t.reports ++ (u.reports ++ v.reports); out = n }) (omega arith)

-- one more
pub once_more : (limits : Capacity) (n : ℕ) (e : Event) (t u : Telling) (w mid after : World) → Repeats limits n e t w mid → IsTurn limits e u mid after → Repeats limits (suc n) e (both_tell t u) w after
once_more limits zero e t u w mid after h does =
    (u, silent, after, subst (λ (v : World). IsTurn limits e u v after) h.1 does, (refl, refl), ap (λ (x : Telling). both_tell x u) h.0 ∙ (tell_nothing_first u ∙ sym (tell_nothing_more u)))
once_more limits (suc n) e t u w mid after (first, rest, v, begins, others, told) does =
    (first, both_tell rest u, v, begins, once_more limits n e rest u v mid after others does, ap (λ (x : Telling). both_tell x u) told ∙ tell_together first rest u)
