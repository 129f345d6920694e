-- A line is lost on both sides; a pump of any line, and a turn of the clock.
use Rattle.std.proofs.Common.{◌≡◌, ℕ, false, List, [], ◌∷◌, Option, Some, None, refl, sym, ap, subst, ◌∙◌, inl, inr}
use Rattle.std.specs.Prelude.{option_map}
use Rattle.mqtt_flow.specs.inbound.InboundWorld as hop
use Rattle.mqtt_rules.specs.step.State.{Broker}
use Rattle.mqtt_rules.specs.step.Step.{Call, Lost, Pump, Tick, stepped, told}
use Rattle.mqtt_world_model.specs.model.Lines.{Line, left}
use Rattle.mqtt_world_model.specs.model.Ends.{Sent, Publisher}
use Rattle.mqtt_world_model.specs.model.World.{World, Setting, publisher_named, receiver_named, publisher_told, calls_if, break, pump, tick, lost_on, pump_on, view_by, view_of, first_step, asks}
use Rattle.mqtt_world_model.specs.model.Hops.{lost_by}
use Rattle.mqtt_world_model.specs.model.Seats.{Comes, Former, absent, late, lingers, over}
use Rattle.mqtt_world_model.proofs.model_lemmas.own.Calls.{loses}
use Rattle.mqtt_world_model.specs.model.Run.{read_first}
use Rattle.mqtt_world_laws.specs.acceptance.Spending.{spending}
use Rattle.mqtt_world_laws.proofs.acceptance_lemmas.publishers.Ends.{IsNotHim, whose_name}
use Rattle.mqtt_world_laws.proofs.acceptance_lemmas.publishers.Kept.{left_apart}
use Rattle.mqtt_world_laws.proofs.acceptance_lemmas.publishers.Around.{IsOutOf, Placed, Him, Holds, IsOutside, placed_next, named_called, if_around, if_holds, if_there}
use Rattle.mqtt_world_laws.proofs.acceptance_lemmas.publishers.Others.{foreign, lost_outside}
use Rattle.mqtt_world_laws.proofs.acceptance_lemmas.publishers.Changes.{on_line, on_back, line_others, own_holds}

-- ---- a pump, and the clock

-- a pump leaves the publisher in step
pub pump_holds : (c d : List ℕ) (set : Setting) (his accepted : List ℕ) (w : World) → Holds c set.limits his accepted w → read_first spending set (pump d) w ≡ false → Holds c set.limits his accepted (first_step set (pump d) w)
pump_holds c d set his accepted w h unspent = if_holds c set his accepted (pump_on (view_of d w).number) w h unspent (λ there x is. by (view_of d w).number x is)
  where
    by : (n : Option ℕ) (x : Call) → pump_on n ≡ Some x → IsOutside his c x
    by None x is = absurd cc
    by (Some n) x is = let e : Pump n ≡ x = cc in subst (IsOutside his c) e tt

-- so does the clock's turn
pub tick_holds : (c : List ℕ) (set : Setting) (his accepted : List ℕ) (w : World) → Holds c set.limits his accepted w → read_first spending set tick w ≡ false → Holds c set.limits his accepted (first_step set tick w)
tick_holds c set his accepted w h unspent = if_holds c set his accepted (Some Tick) w h unspent (λ there x is. let e : Tick ≡ x = cc in subst (IsOutside his c) e tt)

-- ---- another end's line is lost

-- as the broker sees it
pub other_lost : (c d : List ℕ) (set : Setting) (his accepted : List ℕ) (w : World) → Holds c set.limits his accepted w → IsNotHim c d w → read_first spending set (break d) w ≡ false
    → Holds c set.limits his accepted (first_step set (break d) w)
other_lost c d set his accepted w h not_him unspent =
    let v = view_of d w in
    if_holds c set his accepted (lost_on v.number) w h unspent
    (λ there call is. let f = foreign c d set.limits his w h.around (not_him there) in lost_outside his c w.broker.given v.number call f.number is)

other_breaks : (c d : List ℕ) (set : Setting) (his accepted : List ℕ) (w : World) → Holds c set.limits his accepted w → IsNotHim c d w → read_first spending set (break d) w ≡ false
    → Holds c set.limits his accepted (asks set (break d) w)
other_breaks c d set his accepted w h not_him unspent =
    let w1 = first_step set (break d) w in
    line_others c d set.limits his accepted w1 left left (left_apart (IsOutOf his) w1.broker.given) (left_apart (IsOutOf his) w1.broker.given)
    (λ there. not_him (sym (if_there c set (lost_on (view_of d w).number) w) ∙ there)) (other_lost c d set his accepted w h not_him unspent)

-- ---- the publisher's own

former_left : (o : Option ℕ) (k : ℕ) (l : Line Sent) (b : Broker) → Former o k l b → Former o k (left l) b
former_left o k l b (over none) = over none
former_left o k l b (late m is old idle there) = late m is old idle there
former_left o k l b (lingers birth own is calm there) = lingers birth own is calm there

-- it leaves a line that it hasn't
pub placed_left : (his : List ℕ) (p : Publisher) (b : Broker) (accepted : List ℕ) (placed : Placed his p b accepted) → Comes placed.line p (record p { line = left p.line }) b b accepted accepted
placed_left his p b accepted placed = record {
  birth = placed.birth;
  line = placed.line;
  seat = record { his = placed.seat.his; present = absent refl refl; former = former_left placed.birth placed.line p.line b placed.seat.former };
  its_line = inl refl;
  events = hop.break ∷ [];
  seen_is = refl;
}

-- where the publisher is after the loss, once it has left the line
pub lost_placed : (c : List ℕ) (set : Setting) (his accepted : List ℕ) (w : World) (p : Publisher) → publisher_named c w ≡ Some p → Placed his p w.broker accepted
    → (q : Publisher) × (publisher_named c (first_step set (break c) w) ≡ Some q) × Placed his (record q { line = left q.line }) (first_step set (break c) w).broker accepted
lost_placed c set his accepted w p e placed = subst (λ (o : Option Publisher). Lost_ (view_by o (receiver_named c w)).number) (sym e) (by p.line.number refl)
  where
    Lost_ : Option ℕ → Type 0
    Lost_ x = (q : Publisher) × (publisher_named c (calls_if set (lost_on x) w) ≡ Some q) × Placed his (record q { line = left q.line }) (calls_if set (lost_on x) w).broker accepted

    by : (x : Option ℕ) → p.line.number ≡ x → Lost_ x
    by None is = (p, e, placed_next his p (record p { line = left p.line }) w.broker w.broker accepted accepted placed (placed_left his p w.broker accepted placed) refl (λ f. absurd cc) (inr refl) refl)
    by (Some n) is =
        let new = stepped set.limits set.choice w.now (Lost n) w.broker in
        let out = told set.limits set.choice w.now (Lost n) w.broker in
        let x = loses set.limits set.choice w.now n placed.birth placed.line p w.broker accepted placed.seat placed.named placed.apart is in (
          publisher_told new out p,
          named_called c set (Lost n) w ∙ ap (option_map (publisher_told new out)) e,
          placed_next his p (lost_by set.limits set.choice w.now n p w.broker) w.broker new accepted accepted placed x refl (λ f. absurd cc) (inr refl) refl,
        )

he_breaks : (c : List ℕ) (set : Setting) (his accepted : List ℕ) (w : World) (p : Publisher) → Holds c set.limits his accepted w → publisher_named c w ≡ Some p → read_first spending set (break c) w ≡ false
    → Holds c set.limits his accepted (asks set (break c) w)
he_breaks c set his accepted w p h e unspent =
    let x = lost_placed c set his accepted w p e (subst (Him his w.broker accepted) e h.him) in
    own_holds c set.limits his accepted (first_step set (break c) w) x.0 (on_line left) (on_back left) (λ q. refl) (λ q. refl) x.1
    (if_around c set his (lost_on (view_of c w).number) w h.around unspent) x.2

-- a lost line leaves the publisher in step
pub break_holds : (c d : List ℕ) (set : Setting) (his accepted : List ℕ) (w : World) → Holds c set.limits his accepted w → read_first spending set (break d) w ≡ false → Holds c set.limits his accepted (asks set (break d) w)
break_holds c d set his accepted w h unspent = elim (whose_name c d w) [
  | inr not_him ↦ other_breaks c d set his accepted w h not_him unspent
  | inl own ↦ subst (λ (x : List ℕ). Holds c set.limits his accepted (asks set (break x) w)) (sym own.2)
      (he_breaks c set his accepted w own.0 h own.1 (subst (λ (x : List ℕ). read_first spending set (break x) w ≡ false) own.2 unspent))
]
