-- A call of the broker that is made for others, in the eyes of one receiver.
use Rattle.std.proofs.Common.{◌≡◌, ℕ, suc, ◌≤◌, Bool, true, false, ◌||◌, ◌⊎◌, List, [], ◌∷◌, ◌++◌, Option, Some, None, nat_eq, refl, sym, ap, subst, ◌∙◌, append-nil, arith, inl, inr}
use Rattle.std.specs.Prelude.{⊤, is_some, option_map}
use Rattle.std.specs.List.{AllByRecursion}
use Rattle.std.proofs.lemmas.Bool.{cases_Bool, eqb-true}
use Rattle.mqtt_base.specs.declared.session.CopyId.{CopyId}
use Rattle.mqtt_world_model.specs.model.Ends.{Receiver}
use Rattle.mqtt_world_model.specs.model.Hops.{IsOthers}
use Rattle.mqtt_world_model.specs.model.Lines.{is_one_of}
use Rattle.mqtt_world_model.specs.model.Run.{read_if}
use Rattle.mqtt_world_model.specs.model.Seats.{IsHis, IsNamed, Seat}
use Rattle.mqtt_world_model.specs.model.World.{Setting, World, calls, calls_if, publisher_told, receiver_named, receiver_told}
use Rattle.mqtt_records.specs.lists.Distinct.{AllDiffer}
use Rattle.mqtt_world_model.proofs.model_lemmas.seats.Places.{step_place}
use Rattle.mqtt_rules.proofs.step_lemmas.numbers.NumberSteps.{step_fell}
use Rattle.mqtt_rules.specs.step.Numbers.{NoneFell}
use Rattle.mqtt_rules.specs.step.State.{Broker, MemberChoice}
use Rattle.mqtt_rules.specs.step.Step.{BadInput, Call, Input, Lost, NewLine, Pump, Tick, at_moment, stepped, told}
use Rattle.mqtt_rules.specs.declared.step.Capacity.{Capacity}
use Rattle.mqtt_world_laws.specs.acceptance.Spending.{spending}
use Rattle.mqtt_world_laws.proofs.acceptance_lemmas.publishers.Ends.{all_turned, find_receiver, given_later, is_some_mapped, line_later, named_receiver, either}
use Rattle.mqtt_world_laws.proofs.acceptance_lemmas.publishers.Around.{IsCallApart, apart_far, apart_off}
use Rattle.mqtt_world_laws.proofs.acceptance_lemmas.copies.Steady.{given_grows, steady_step}
use Rattle.mqtt_world_laws.specs.receiver.Calls.{receiver_called}
use Rattle.mqtt_world_laws.specs.receiver.Own.{IsAwaiting, StepsOn}
use Rattle.mqtt_world_laws.specs.receiver.Served.{HasLines, IsCallOfOthers, IsNewCopy, IsTidy}
use Rattle.mqtt_world_laws.proofs.receiver_lemmas.queue.Apart.{apart_entered}
use Rattle.mqtt_world_laws.proofs.receiver_lemmas.others.AwaitingOthers.{others_awaiting}
use Rattle.mqtt_world_laws.proofs.receiver_lemmas.own.OwnOthers.{others_in_step}
use Rattle.mqtt_world_laws.proofs.receiver_lemmas.connects.Stopping.{step_tidy}
use Rattle.mqtt_world_laws.specs.delivery.Standing.{GoesAlong, HasOthers, IsAround, IsOtherStranger, IsOutOf, IsPlaced, IsSeen, Stands, StandsWith, publisher_like, BeginWith}
use Rattle.mqtt_world_laws.proofs.delivery_lemmas.others.Around.{around_mapped}
use Rattle.mqtt_world_laws.proofs.delivery_lemmas.others.Like.{seat_of_others}
use Rattle.mqtt_world_laws.proofs.delivery_lemmas.order.Growing.{begin_on, begin_same, begin_then}

-- ---- on none of its lines, and no CONNECT of its client; whether a tick is one is seen at the broker

abbrev pub IsOutside : List ℕ → List ℕ → Call → Type 0
IsOutside c ns NewLine = ⊤
IsOutside c ns (Input m packet) = (is_one_of (Some m) (0 ∷ ns) ≡ false) × IsOthers c packet
IsOutside c ns (BadInput m is_connect code) = is_one_of (Some m) (0 ∷ ns) ≡ false
IsOutside c ns (Lost m) = is_one_of (Some m) (0 ∷ ns) ≡ false
IsOutside c ns (Pump m) = is_one_of (Some m) (0 ∷ ns) ≡ false
IsOutside c ns Tick = ⊥

-- what is not among these and nobody is not among these
pub unlisted : (m : ℕ) (ns : List ℕ) → is_one_of (Some m) (0 ∷ ns) ≡ false → is_one_of (Some m) ns ≡ false
unlisted m ns h = (either (nat_eq 0 m) (is_one_of (Some m) ns) h).1

-- what is not among them differs from each
pub apart_from : (m k : ℕ) (ns : List ℕ) → is_one_of (Some m) ns ≡ false → is_one_of (Some k) ns ≡ true → nat_eq m k ≡ false
apart_from m k ns out inside = elim (cases_Bool (nat_eq m k)) [
  | inl same ↦
      let is = eqb-true m k same in
      let clash : true ≡ false = sym inside ∙ (ap (λ (n : ℕ). is_one_of (Some n) ns) (sym is) ∙ out) in
      absurd cc
  | inr other ↦ other
]

-- what is among them is among them and nobody
pub listed : (n : ℕ) (ns : List ℕ) → is_one_of (Some n) ns ≡ true → is_one_of (Some n) (0 ∷ ns) ≡ true
listed n ns h = by (nat_eq 0 n)
  where
    by : (t : Bool) → (t || is_one_of (Some n) ns) ≡ true
    by true = refl
    by false = h

-- a call from outside is another's
pub outside_others : (c ns : List ℕ) (call : Call) (b : Broker) → IsOutside c ns call → IsCallOfOthers c ns call b
outside_others c ns NewLine b q = tt
outside_others c ns (Input m packet) b q = (unlisted m ns q.0, q.1)
outside_others c ns (BadInput m is_connect code) b q = unlisted m ns q
outside_others c ns (Lost m) b q = unlisted m ns q
outside_others c ns (Pump m) b q = unlisted m ns q
outside_others c ns Tick b q = absurd q

-- and apart from what is on its lines
outside_apart : (c ns : List ℕ) (call : Call) → IsOutside c ns call → IsCallApart (IsOutOf ns) c call
outside_apart c ns NewLine q = tt
outside_apart c ns (Input m packet) q = q
outside_apart c ns (BadInput m is_connect code) q = q
outside_apart c ns (Lost m) q = q
outside_apart c ns (Pump m) q = tt
outside_apart c ns Tick q = absurd q

-- a receiver that goes along has its lines
pub lines_of : (o : Option ℕ) (largest : ℕ) (ids : List CopyId) (ns : List ℕ) (r : Receiver) (b : Broker) → GoesAlong o largest ids ns r b → HasLines ns r
lines_of None largest ids ns r b k = k.lines
lines_of (Some birth) largest ids ns r b k = k.lines

-- ---- what it makes of the receiver

-- with these copies more, or none
pub record GoesFurther (largest : ℕ) (ids : List CopyId) (ns : List ℕ) (r : Receiver) (b : Broker) : Type 0 where
  pub more : List CopyId
  pub placed : IsPlaced largest (ids ++ more) ns r b

-- with none more
pub goes_as : (largest : ℕ) (ids : List CopyId) (ns : List ℕ) (r : Receiver) (b : Broker) → IsPlaced largest ids ns r b → GoesFurther largest ids ns r b
goes_as largest ids ns r b placed = record { more = []; placed = subst (λ (all : List CopyId). IsPlaced largest all ns r b) (sym (append-nil ids)) placed }

-- at a broker whose counts have not fallen, with the seat that it has there
pub placed_on : (largest : ℕ) (ids more : List CopyId) (ns ms : List ℕ) (birth line : ℕ) (o : Option ℕ) (r q : Receiver) (b c : Broker) (placed : IsPlaced largest ids ns r b)
    → NoneFell b.records c.records → q.client ≡ r.client → AllByRecursion (IsNewCopy birth b.records.publications c.records.publications) more → AllDiffer more
    → GoesAlong o largest (ids ++ more) ms q c → Seat o line (publisher_like q) c → is_one_of (Some line) (0 ∷ ms) ≡ true
    → ((n : ℕ) → q.line.number ≡ Some n → q.line.old_number ≡ Some n → ⊥) → IsPlaced largest (ids ++ more) ms q c
placed_on largest ids more ns ms birth line o r q b c placed fell client new differ along seat its_line apart = record {
  birth = o;
  line = line;
  along = along;
  seat = seat;
  its_line = its_line;
  apart = apart;
  named = subst IsNamed (sym client) placed.named;
  told = apart_entered birth ids more b.records c.records placed.told fell new differ;
}

-- a call for others, with the seat that it has then
pub placed_others : (largest : ℕ) (ids : List CopyId) (ns : List ℕ) (limits : Capacity) (choice : MemberChoice) (now : ℕ) (call : Call) (r : Receiver) (b : Broker) (placed : IsPlaced largest ids ns r b) → IsTidy limits b
    → IsCallOfOthers r.client ns call (at_moment now b) → Seat placed.birth placed.line (publisher_like (receiver_called limits choice now call r b)) (stepped limits choice now call b)
    → GoesFurther largest ids ns (receiver_called limits choice now call r b) (stepped limits choice now call b)
placed_others largest ids ns limits choice now call r b placed tidy its seat = by placed.birth placed.along placed.seat.his seat
  where
    q : Receiver
    q = receiver_called limits choice now call r b

    new : Broker
    new = stepped limits choice now call b

    grows : NoneFell b.records new.records
    grows = step_fell limits choice now call b

    by : (o : Option ℕ) → GoesAlong o largest ids ns r b → IsHis r.client o placed.line b → Seat o placed.line (publisher_like q) new → GoesFurther largest ids ns q new
    by None along his seat =
        let x = others_awaiting largest ids limits choice now call ns r b along his placed.named.plain its in
        record {
          more = [];
          placed = placed_on largest ids [] ns ns 0 placed.line None r q b new placed grows refl tt tt
              (subst (λ (all : List CopyId). IsAwaiting largest all ns q new) (sym (append-nil ids)) x.0) seat placed.its_line (λ n e f. placed.apart n e f);
        }
    by (Some birth) along his seat =
        let x : StepsOn largest ids birth ns b.records.publications q new = others_in_step largest ids limits choice now call birth ns r b along tidy placed.named.plain its in
        record {
          more = x.more;
          placed = placed_on largest ids x.more ns ns birth placed.line (Some birth) r q b new placed grows refl x.new x.differ x.in_step seat placed.its_line (λ n e f. placed.apart n e f);
        }

-- a call from outside leaves the receiver placed
pub placed_called : (largest : ℕ) (ids : List CopyId) (ns : List ℕ) (limits : Capacity) (choice : MemberChoice) (now : ℕ) (call : Call) (r : Receiver) (b : Broker) → IsPlaced largest ids ns r b → IsTidy limits b → IsOutside r.client ns call
    → GoesFurther largest ids ns (receiver_called limits choice now call r b) (stepped limits choice now call b)
placed_called largest ids ns limits choice now call r b placed tidy out =
    let has = lines_of placed.birth largest ids ns r b placed.along in
    let off = outside_apart r.client ns call out in
    placed_others largest ids ns limits choice now call r b placed tidy (outside_others r.client ns call (at_moment now b) out)
    (seat_of_others limits choice now call placed.birth placed.line r b placed.seat placed.named (apart_far (IsOutOf ns) r.client placed.line (λ m h. apart_from m placed.line (0 ∷ ns) h placed.its_line) call off)
    (apart_off (IsOutOf ns) r.client r.line.number call (λ m n e h. apart_from m n (0 ∷ ns) h (listed n ns (has.own n e))) off)
    (apart_off (IsOutOf ns) r.client r.line.old_number call (λ m n e h. apart_from m n (0 ∷ ns) h (listed n ns (has.old n e))) off))

-- ---- what it makes of the world

-- a call tells the receiver what goes down its line
pub named_called : (c : List ℕ) (set : Setting) (call : Call) (w : World)
    → receiver_named c (calls set call w) ≡ option_map (receiver_told (stepped set.limits set.choice w.now call w.broker) (told set.limits set.choice w.now call w.broker)) (receiver_named c w)
named_called c set call w = find_receiver c (receiver_told (stepped set.limits set.choice w.now call w.broker) (told set.limits set.choice w.now call w.broker)) (λ r. refl) w.receivers

-- and leaves the world around it
pub calls_around : (c : List ℕ) (set : Setting) (ns : List ℕ) (call : Call) (w : World) → IsAround c set.limits ns w → read_if spending set (Some call) w ≡ false → IsAround c set.limits ns (calls set call w)
calls_around c set ns call w a unspent =
    let b = stepped set.limits set.choice w.now call w.broker in
    let out = told set.limits set.choice w.now call w.broker in
    let up = given_grows set.limits set.choice w.now call w.broker in
    around_mapped c set.limits ns ns w b w.now (publisher_told b out) (receiver_told b out) w.strangers a
    (steady_step set.limits set.choice w.now call w.broker a.within a.steady unspent) (step_place set.limits set.choice w.now call c w.broker) (step_tidy set.limits set.choice w.now call w.broker a.tidy)
    (λ n inside. let le = a.known n inside in omega (arith, le, up)) (λ p. refl) (λ r. refl)
    (λ p h. line_later (IsOutOf ns) w.broker.given b.given p.line (publisher_told b out p).line up refl refl h)
    (λ r h. each b.given up r h)
    (all_turned (IsOtherStranger ns w.broker.given) (IsOtherStranger ns b.given) w.strangers (λ s h. given_later (IsOutOf ns) w.broker.given b.given s.number up h) a.strangers)
  where
    each : (given : ℕ) → w.broker.given ≤ given → (r : Receiver) → (r.client ≡ c) ⊎ HasOthers ns w.broker.given r.line
        → (r.client ≡ c) ⊎ HasOthers ns given (receiver_told (stepped set.limits set.choice w.now call w.broker) (told set.limits set.choice w.now call w.broker) r).line
    each given up r (inl is) = inl is
    each given up r (inr h) = inr (line_later (IsOutOf ns) w.broker.given given r.line (receiver_told (stepped set.limits set.choice w.now call w.broker) (told set.limits set.choice w.now call w.broker) r).line up refl refl h)

-- by what becomes of the receiver
pub calls_with : (c : List ℕ) (largest : ℕ) (set : Setting) (call : Call) (ids : List CopyId) (ns : List ℕ) (w : World) → StandsWith c largest set.limits ids ns w → read_if spending set (Some call) w ≡ false
    → ((r : Receiver) → receiver_named c w ≡ Some r → IsPlaced largest ids ns r w.broker → GoesFurther largest ids ns (receiver_called set.limits set.choice w.now call r w.broker) (stepped set.limits set.choice w.now call w.broker))
    → (all : List CopyId) × StandsWith c largest set.limits all ns (calls set call w) × BeginWith ids all
calls_with c largest set call ids ns w h unspent goes = by (receiver_named c w) refl
  where
    new : Broker
    new = stepped set.limits set.choice w.now call w.broker

    around : IsAround c set.limits ns (calls set call w)
    around = calls_around c set ns call w h.around unspent

    by : (o : Option Receiver) → receiver_named c w ≡ o → (all : List CopyId) × StandsWith c largest set.limits all ns (calls set call w) × BeginWith ids all
    by None e = (
      ids,
      record {
        around = around;
        seen = subst (IsSeen largest ids ns new) (sym (named_called c set call w ∙ ap (option_map _) e)) (subst (IsSeen largest ids ns w.broker) e h.seen);
      },
      begin_same ids,
    )
    by (Some r) e =
        let x = goes r e (subst (IsSeen largest ids ns w.broker) e h.seen) in (
          ids ++ x.more,
          record {
            around = around;
            seen = subst (IsSeen largest (ids ++ x.more) ns new) (sym (named_called c set call w ∙ ap (option_map _) e)) x.placed;
          },
          begin_on ids x.more,
        )

-- a call from outside leaves it standing, with the copies that entered
pub called_copies : (c : List ℕ) (largest : ℕ) (set : Setting) (call : Call) (ids : List CopyId) (ns : List ℕ) (w : World) → StandsWith c largest set.limits ids ns w → read_if spending set (Some call) w ≡ false
    → (is_some (receiver_named c w) ≡ true → IsOutside c ns call) → (all : List CopyId) × StandsWith c largest set.limits all ns (calls set call w) × BeginWith ids all
called_copies c largest set call ids ns w h unspent out = calls_with c largest set call ids ns w h unspent (λ r e placed.
    placed_called largest ids ns set.limits set.choice w.now call r w.broker placed h.around.tidy (subst (λ (z : List ℕ). IsOutside z ns call) (sym (named_receiver c r w e)) (out (ap is_some e))))

-- so it stands on
pub calls_stand : (first : List CopyId) (c : List ℕ) (largest : ℕ) (set : Setting) (call : Call) (ids : List CopyId) (ns : List ℕ) (w : World) → BeginWith first ids → StandsWith c largest set.limits ids ns w → read_if spending set (Some call) w ≡ false
    → (is_some (receiver_named c w) ≡ true → IsOutside c ns call) → Stands first c largest set.limits (calls set call w)
calls_stand first c largest set call ids ns w g h unspent out = let x = called_copies c largest set call ids ns w h unspent out in record { ids = x.0; grown = begin_then first ids x.0 g x.2; ns = ns; standing = x.1 }

-- a number above all that were given
pub fresh_unlisted : (n : ℕ) (ns : List ℕ) (given : ℕ) → suc given ≡ n → ((m : ℕ) → is_one_of (Some m) ns ≡ true → m ≤ given) → is_one_of (Some n) (0 ∷ ns) ≡ false
fresh_unlisted n ns given is known = elim (cases_Bool (is_one_of (Some n) ns)) [
  | inl inside ↦ let le = known n inside in absurd (omega (arith, is, le))
  | inr out ↦ elim (cases_Bool (nat_eq 0 n)) [
    | inl zero_ ↦ let none = eqb-true 0 n zero_ in absurd (omega (arith, is, none))
    | inr other ↦ rw (other, out) refl
  ]
]

-- a call that may be asked for
pub if_stands : (first : List CopyId) (c : List ℕ) (largest : ℕ) (set : Setting) (call : Option Call) (w : World) (h : Stands first c largest set.limits w) → read_if spending set call w ≡ false
    → (is_some (receiver_named c w) ≡ true → (x : Call) → call ≡ Some x → IsOutside c h.ns x) → Stands first c largest set.limits (calls_if set call w)
if_stands first c largest set None w h unspent out = h
if_stands first c largest set (Some call) w h unspent out = calls_stand first c largest set call h.ids h.ns w h.grown h.standing unspent (λ there. out there call refl)

-- a call that may be made leaves who is there
pub if_there : (c : List ℕ) (set : Setting) (call : Option Call) (w : World) → is_some (receiver_named c (calls_if set call w)) ≡ is_some (receiver_named c w)
if_there c set None w = refl
if_there c set (Some call) w = ap is_some (named_called c set call w) ∙ is_some_mapped _ (receiver_named c w)
