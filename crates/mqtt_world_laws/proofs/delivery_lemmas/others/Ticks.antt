-- A tick, in the eyes of one receiver: it does something for others, or closes a line on which its CONNECT didn't come in time
-- (MQTT 5.0, 3.1, 4.1).
use Rattle.std.proofs.Common.{◌≡◌, ℕ, true, false, List, [], ◌∷◌, Option, Some, None, nat_lt, refl, sym, ap, subst, ◌∙◌, append-nil, inl, inr}
use Rattle.std.specs.Prelude.{find}
use Rattle.std.specs.List.{AllByRecursion}
use Rattle.std.proofs.lemmas.Bool.{cases_Bool}
use Rattle.mqtt_base.specs.declared.session.CopyId.{CopyId}
use Rattle.mqtt_world_model.specs.model.Ends.{Receiver}
use Rattle.mqtt_world_model.specs.model.Hops.{IsOurLine}
use Rattle.mqtt_world_model.specs.model.Lines.{is_one_of}
use Rattle.mqtt_world_model.specs.model.Run.{read_first}
use Rattle.mqtt_world_model.specs.model.Seats.{HasNobody, IsHis, IsIdle, IsOff, Seat}
use Rattle.mqtt_world_model.specs.model.World.{Setting, World, asks, tick}
use Rattle.mqtt_world_model.proofs.model_lemmas.others.Lists.{all_find}
use Rattle.mqtt_rules.proofs.step_lemmas.numbers.NumberSteps.{step_fell}
use Rattle.mqtt_rules.specs.step.Numbers.{NoneFell}
use Rattle.mqtt_rules.specs.step.State.{Line as BrokerLine, Broker, MemberChoice}
use Rattle.mqtt_rules.specs.step.Step.{Tick, at_moment, stepped}
use Rattle.mqtt_rules.specs.step.Tick.{is_silent}
use Rattle.mqtt_rules.specs.declared.step.Capacity.{Capacity}
use Rattle.mqtt_world_laws.specs.acceptance.Spending.{spending}
use Rattle.mqtt_world_laws.specs.receiver.Calls.{receiver_called}
use Rattle.mqtt_world_laws.specs.receiver.Own.{IsAwaiting, IsFreeLine, IsInStep}
use Rattle.mqtt_world_laws.specs.receiver.Served.{IsOverdue, IsOwnLine, IsTidy}
use Rattle.mqtt_world_laws.proofs.receiver_lemmas.others.AwaitingOthers.{late_awaiting}
use Rattle.mqtt_world_laws.proofs.receiver_lemmas.own.OwnOthers.{late_in_step}
use Rattle.mqtt_world_laws.specs.delivery.Standing.{GoesAlong, IsPlaced, Stands, publisher_like}
use Rattle.mqtt_world_laws.proofs.delivery_lemmas.others.Like.{seat_of_others}
use Rattle.mqtt_world_laws.proofs.delivery_lemmas.others.Outside.{GoesFurther, calls_with, placed_on, placed_others}
use Rattle.mqtt_world_laws.proofs.delivery_lemmas.order.Growing.{begin_then}

-- ---- nobody is connected on a line of its that a tick finds silent

free_lines : (n : ℕ) (ns : List ℕ) (ls : List BrokerLine) → is_one_of (Some n) ns ≡ true → AllByRecursion (IsFreeLine ns) ls → AllByRecursion (HasNobody n) ls
free_lines n ns [] inside h = tt
free_lines n ns (l ∷ ls) inside h = ((λ e. h.0 (ap (λ (m : ℕ). is_one_of (Some m) ns) e ∙ inside)), free_lines n ns ls inside h.1)

other_lines : (n birth k : ℕ) (ns : List ℕ) (ls : List BrokerLine) → (n ≡ k → ⊥) → is_one_of (Some n) ns ≡ true → AllByRecursion (IsOurLine birth k) ls → AllByRecursion (IsOwnLine ns birth) ls → AllByRecursion (HasNobody n) ls
other_lines n birth k ns [] differ inside ours own = tt
other_lines n birth k ns (l ∷ ls) differ inside ours own = ((λ e. by l.session refl e), other_lines n birth k ns ls differ inside ours.1 own.1)
  where
    by : (o : Option ℕ) → l.session ≡ o → l.number ≡ n → l.session ≡ None
    by None is e = is
    by (Some x) is e =
        let mine = own.0.theirs (ap (λ (m : ℕ). is_one_of (Some m) ns) e ∙ inside) x is in
        absurd (differ (sym e ∙ ours.0.alone (is ∙ ap Some mine)))

-- without Keep Alive a connected line is never silent
not_silent : (now birth : ℕ) (l : BrokerLine) → l.session ≡ Some birth → l.keep_alive ≡ 0 → is_silent now l.session l ≡ true → ⊥
not_silent now birth l on quiet h =
    let at : is_silent now (Some birth) l ≡ true = sym (ap (λ (o : Option ℕ). is_silent now o l) on) ∙ h in
    let never : nat_lt 0 l.keep_alive ≡ false = ap (nat_lt 0) quiet in
    let clash : false ≡ true = rw never at at in
    absurd cc

silent_idle : (o : Option ℕ) (largest k now : ℕ) (ids : List CopyId) (ns : List ℕ) (r : Receiver) (l : BrokerLine) (b : Broker) → GoesAlong o largest ids ns r b → IsHis r.client o k b → is_one_of (Some l.number) ns ≡ true
    → find (λ (x : BrokerLine). is_silent now x.session x) b.lines ≡ Some l → IsIdle l.number b
silent_idle None largest k now ids ns r l b along his inside found = record { lines = free_lines l.number ns b.lines inside along.free; given = along.given l.number inside }
silent_idle (Some birth) largest k now ids ns r l b along his inside found =
    let v = along.served in
    let mine = all_find (IsOurLine birth k) (λ (x : BrokerLine). is_silent now x.session x) l b.lines his.0.lines found in
    record {
      lines = other_lines l.number birth k ns b.lines (λ e. not_silent now birth l (mine.0.ours e) (mine.0.quiet e) mine.1) inside his.0.lines v.lines;
      given = v.given l.number inside;
    }

-- ---- the tick

off_tick : (x : Option ℕ) → IsOff x Tick
off_tick None = tt
off_tick (Some n) = tt

placed_ticked : (largest : ℕ) (ids : List CopyId) (ns : List ℕ) (limits : Capacity) (choice : MemberChoice) (now : ℕ) (r : Receiver) (b : Broker) → IsPlaced largest ids ns r b → IsTidy limits b
    → GoesFurther largest ids ns (receiver_called limits choice now Tick r b) (stepped limits choice now Tick b)
placed_ticked largest ids ns limits choice now r b placed tidy = by (find (λ (x : BrokerLine). is_silent first.now x.session x) first.lines) refl
  where
    first : Broker
    first = at_moment now b

    q : Receiver
    q = receiver_called limits choice now Tick r b

    new : Broker
    new = stepped limits choice now Tick b

    grows : NoneFell b.records new.records
    grows = step_fell limits choice now Tick b

    seat : Seat placed.birth placed.line (publisher_like q) new
    seat = seat_of_others limits choice now Tick placed.birth placed.line r b placed.seat placed.named tt (off_tick r.line.number) (off_tick r.line.old_number)

    closes : (o : Option ℕ) (l : BrokerLine) → GoesAlong o largest ids ns r b → IsHis r.client o placed.line b → Seat o placed.line (publisher_like q) new → is_one_of (Some l.number) ns ≡ true
        → find (λ (x : BrokerLine). is_silent first.now x.session x) first.lines ≡ Some l → GoesFurther largest ids ns q new
    closes None l along his there inside found =
        let idle = silent_idle None largest placed.line first.now ids ns r l b along his inside found in
        let late : IsOverdue l.number first = record { line = l; silent = found; number = refl; idle = record { lines = idle.lines; given = idle.given } } in
        let x = late_awaiting largest ids limits choice now ns l.number r b along his late in
        record {
          more = [];
          placed = placed_on largest ids [] ns ns 0 placed.line None r q b new placed grows refl tt tt
              (subst (λ (all : List CopyId). IsAwaiting largest all ns q new) (sym (append-nil ids)) x.0) there placed.its_line (λ n e f. placed.apart n e f);
        }
    closes (Some birth) l along his there inside found =
        let idle = silent_idle (Some birth) largest placed.line first.now ids ns r l b along his inside found in
        let late : IsOverdue l.number first = record { line = l; silent = found; number = refl; idle = record { lines = idle.lines; given = idle.given } } in
        let x = late_in_step largest ids limits choice now birth ns l.number r b along late in
        record {
          more = [];
          placed = placed_on largest ids [] ns ns birth placed.line (Some birth) r q b new placed grows refl tt tt
              (subst (λ (all : List CopyId). IsInStep largest all birth ns q new) (sym (append-nil ids)) x) there placed.its_line (λ n e f. placed.apart n e f);
        }

    by : (o : Option BrokerLine) → find (λ (x : BrokerLine). is_silent first.now x.session x) first.lines ≡ o → GoesFurther largest ids ns q new
    by None e = placed_others largest ids ns limits choice now Tick r b placed tidy (λ l f. let clash : None ≡ Some l = sym e ∙ f in absurd cc) seat
    by (Some l) e = elim (cases_Bool (is_one_of (Some l.number) ns)) [
      | inl inside ↦ closes placed.birth l placed.along placed.seat.his seat inside e
      | inr outside ↦ placed_others largest ids ns limits choice now Tick r b placed tidy
          (λ x f. let both : Some l ≡ Some x = sym e ∙ f in let same : l ≡ x = cc in ap (λ (y : BrokerLine). is_one_of (Some y.number) ns) (sym same) ∙ outside) seat
    ]

-- and the clock's turn
pub ticked_stands : (first : List CopyId) (c : List ℕ) (largest : ℕ) (set : Setting) (w : World) → Stands first c largest set.limits w → read_first spending set tick w ≡ false → Stands first c largest set.limits (asks set tick w)
ticked_stands first c largest set w s unspent =
    let x = calls_with c largest set Tick s.ids s.ns w s.standing unspent (λ r e placed. placed_ticked largest s.ids s.ns set.limits set.choice w.now r w.broker placed s.standing.around.tidy) in
    record { ids = x.0; grown = begin_then first s.ids x.0 s.grown x.2; ns = s.ns; standing = x.1 }
