-- The broker sends what waits for a receiver, on its own line (MQTT 5.0, 4.4, 4.6, 4.9).
use Rattle.std.proofs.Common.{◌≡◌, ℕ, false, List, [], Option, Some, None, refl, sym, ap, subst, ◌∙◌, append-nil}
use Rattle.std.specs.Prelude.{is_some}
use Rattle.mqtt_base.specs.declared.session.CopyId.{CopyId}
use Rattle.mqtt_world_model.specs.model.Ends.{Publisher, Receiver}
use Rattle.mqtt_world_model.specs.model.Run.{read_first, read_if}
use Rattle.mqtt_world_model.specs.model.Seats.{IsIdle, IsOff, Present, absent, closed, joined, waiting}
use Rattle.mqtt_world_model.specs.model.World.{Setting, World, asks, calls_if, pump, pump_on, receiver_named, view_by, view_of}
use Rattle.mqtt_world_model.proofs.model_lemmas.seats.OwnSeats.{line_of_on, not_among}
use Rattle.mqtt_rules.proofs.step_lemmas.numbers.NumberSteps.{step_fell}
use Rattle.mqtt_rules.specs.step.Flight.{HasDistinctIdentifiers}
use Rattle.mqtt_rules.specs.step.State.{Line as BrokerLine, Broker, MemberChoice, line_at}
use Rattle.mqtt_rules.specs.step.Step.{Pump, stepped}
use Rattle.mqtt_rules.specs.declared.step.Capacity.{Capacity}
use Rattle.mqtt_rules.specs.whole.Whole.{AreNoLarger, FitsWhole}
use Rattle.mqtt_world_laws.specs.acceptance.Fair.{IsSteady}
use Rattle.mqtt_world_laws.specs.acceptance.Spending.{spending}
use Rattle.mqtt_world_laws.specs.receiver.Calls.{receiver_called}
use Rattle.mqtt_world_laws.specs.receiver.Own.{IsInStep, Listens}
use Rattle.mqtt_world_laws.specs.receiver.WorldRounds.{QueueFits}
use Rattle.mqtt_world_laws.proofs.receiver_lemmas.others.IdleLines.{idle_pump_awaiting, idle_pump_in_step}
use Rattle.mqtt_world_laws.proofs.receiver_lemmas.own.Listening.{listens_in_step}
use Rattle.mqtt_world_laws.proofs.receiver_lemmas.own.OwnCalls.{pump_in_step}
use Rattle.mqtt_world_laws.specs.delivery.Standing.{GoesAlong, IsPlaced, Stands, line_like}
use Rattle.mqtt_world_laws.proofs.delivery_lemmas.others.Like.{seat_of_others}
use Rattle.mqtt_world_laws.proofs.delivery_lemmas.others.Outside.{GoesFurther, calls_with, placed_on}
use Rattle.mqtt_world_laws.proofs.delivery_lemmas.order.Growing.{begin_then}

idle_sent : (o : Option ℕ) (largest : ℕ) (ids : List CopyId) (ns : List ℕ) (limits : Capacity) (choice : MemberChoice) (now n : ℕ) (r : Receiver) (b : Broker) → GoesAlong o largest ids ns r b → IsIdle n b
    → GoesAlong o largest ids ns (receiver_called limits choice now (Pump n) r b) (stepped limits choice now (Pump n) b)
idle_sent None largest ids ns limits choice now n r b along idle = idle_pump_awaiting largest ids ns limits choice now n r b along idle
idle_sent (Some birth) largest ids ns limits choice now n r b along idle = idle_pump_in_step largest ids birth ns limits choice now n r b along idle

sent_along : (o : Option ℕ) (largest : ℕ) (ids : List CopyId) (ns : List ℕ) (limits : Capacity) (choice : MemberChoice) (now n k : ℕ) (r : Receiver) (b : Broker) → GoesAlong o largest ids ns r b → IsSteady b → HasDistinctIdentifiers b.records
    → r.line.number ≡ Some n → ((l : BrokerLine) (birth : ℕ) → line_at n b ≡ Some l → l.session ≡ Some birth → (l.largest ≡ largest) × QueueFits largest birth b) → ((m : ℕ) → r.line.number ≡ Some m → r.line.old_number ≡ Some m → ⊥) → Present o k (line_like r.line) b
    → GoesAlong o largest ids ns (receiver_called limits choice now (Pump n) r b) (stepped limits choice now (Pump n) b)
sent_along o largest ids ns limits choice now n k r b along steady distinct is fits apart (absent none up) = let clash : None ≡ Some n = sym none ∙ is in absurd cc
sent_along o largest ids ns limits choice now n k r b along steady distinct is fits apart (closed m at up idle none) =
    let both : Some m ≡ Some n = sym at ∙ is in let same : m ≡ n = cc in
    idle_sent o largest ids ns limits choice now n r b along (subst (λ (z : ℕ). IsIdle z b) same idle)
sent_along o largest ids ns limits choice now n k r b along steady distinct is fits apart (waiting m clean at link_is clean_is up down idle there) =
    let both : Some m ≡ Some n = sym at ∙ is in let same : m ≡ n = cc in
    idle_sent o largest ids ns limits choice now n r b along (subst (λ (z : ℕ). IsIdle z b) same idle)
sent_along o largest ids ns limits choice now n k r b along steady distinct is fits apart (joined birth own at there) =
    let both : Some k ≡ Some n = sym at ∙ is in
    let same : k ≡ n = cc in
    let x = line_of_on k (Some birth) b there in
    let step = subst (λ (z : Option ℕ). GoesAlong z largest ids ns r b) own along in
    let listens : Listens r x.0 birth b = listens_in_step largest ids birth ns k birth r x.0 b step steady.lines steady.coherent.ordered at x.1 x.2 (not_among r.line.old_number k (λ e. apart k at e)) in
    let size = fits x.0 birth (ap (λ (m : ℕ). line_at m b) (sym same) ∙ x.1) x.2 in
    let fit : FitsWhole x.0 listens.session = subst (λ (m : ℕ). AreNoLarger m listens.session.queue) (sym size.0) (subst (λ (z : ℕ). QueueFits largest z b) (sym listens.birth_is) size.1 listens.session listens.listening.session) in
    let sent = pump_in_step largest ids birth ns limits choice now r x.0 listens.session b step listens.listening size.0 fit distinct in
    subst (λ (z : Option ℕ). GoesAlong z largest ids ns (receiver_called limits choice now (Pump n) r b) (stepped limits choice now (Pump n) b)) (sym own)
    (subst (λ (z : ℕ). IsInStep largest ids birth ns (receiver_called limits choice now (Pump z) r b) (stepped limits choice now (Pump z) b)) (x.3 ∙ same) sent)

off_pump : (x : Option ℕ) (n : ℕ) → IsOff x (Pump n)
off_pump None n = tt
off_pump (Some m) n = tt

sent_placed : (largest : ℕ) (ids : List CopyId) (ns : List ℕ) (limits : Capacity) (choice : MemberChoice) (now n : ℕ) (r : Receiver) (b : Broker) → IsPlaced largest ids ns r b → IsSteady b → HasDistinctIdentifiers b.records
    → r.line.number ≡ Some n → ((l : BrokerLine) (birth : ℕ) → line_at n b ≡ Some l → l.session ≡ Some birth → (l.largest ≡ largest) × QueueFits largest birth b)
    → GoesFurther largest ids ns (receiver_called limits choice now (Pump n) r b) (stepped limits choice now (Pump n) b)
sent_placed largest ids ns limits choice now n r b placed steady distinct is fits =
    let q = receiver_called limits choice now (Pump n) r b in
    let new = stepped limits choice now (Pump n) b in
    let along = sent_along placed.birth largest ids ns limits choice now n placed.line r b placed.along steady distinct is fits placed.apart placed.seat.present in
    record {
      more = [];
      placed = placed_on largest ids [] ns ns 0 placed.line placed.birth r q b new placed (step_fell limits choice now (Pump n) b) refl tt tt
          (subst (λ (all : List CopyId). GoesAlong placed.birth largest all ns q new) (sym (append-nil ids)) along)
          (seat_of_others limits choice now (Pump n) placed.birth placed.line r b placed.seat placed.named tt (off_pump r.line.number n) (off_pump r.line.old_number n))
          placed.its_line (λ m e f. placed.apart m e f);
    }

-- and a pump
pub sent_stands : (first : List CopyId) (c : List ℕ) (largest : ℕ) (set : Setting) (r : Receiver) (w : World) → Stands first c largest set.limits w → receiver_named c w ≡ Some r → HasDistinctIdentifiers w.broker.records
    → ((n : ℕ) (l : BrokerLine) (birth : ℕ) → r.line.number ≡ Some n → line_at n w.broker ≡ Some l → l.session ≡ Some birth → (l.largest ≡ largest) × QueueFits largest birth w.broker)
    → read_first spending set (pump c) w ≡ false → Stands first c largest set.limits (asks set (pump c) w)
sent_stands first c largest set r w s e distinct fits unspent = subst (λ (o : Option ℕ). read_if spending set (pump_on o) w ≡ false → Goal o) (sym view) (by r.line.number refl) unspent
  where
    Goal : Option ℕ → Type 0
    Goal o = Stands first c largest set.limits (calls_if set (pump_on o) w)

    view : (view_of c w).number ≡ r.line.number
    view = ap (λ (o : Option Publisher). (view_by o (receiver_named c w)).number) (s.standing.around.alone (ap is_some e)) ∙ ap (λ (o : Option Receiver). (view_by None o).number) e

    by : (x : Option ℕ) → r.line.number ≡ x → read_if spending set (pump_on x) w ≡ false → Goal x
    by None is u = s
    by (Some n) is u =
        let x = calls_with c largest set (Pump n) s.ids s.ns w s.standing u (λ q f placed.
        let both : Some r ≡ Some q = sym e ∙ f in
        let same : r ≡ q = cc in
        sent_placed largest s.ids s.ns set.limits set.choice w.now n q w.broker placed s.standing.around.steady distinct (ap (λ (z : Receiver). z.line.number) (sym same) ∙ is) (λ l birth at on. fits n l birth is at on)) in
        record { ids = x.0; grown = begin_then first s.ids x.0 s.grown x.2; ns = s.ns; standing = x.1 }
