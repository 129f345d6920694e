-- What a receiver's own line takes, over every event of the world: its own CONNECT says it, and no other is read there (MQTT
-- 5.0, 3.1.2.11.3, 3.1.2.11.4).
use Rattle.std.proofs.Common.{◌≡◌, ℕ, zero, suc, Bool, true, false, cond, not, ◌||◌, ◌⊎◌, List, [], ◌∷◌, map, Option, Some, None, nat_eq, nat_lt, bytes_eq, refl, sym, ap, subst, ◌∙◌, arith, inl, inr}
use Rattle.std.specs.Prelude.{⊤, find, is_some, option_map, Ok, Err}
use Rattle.std.specs.List.{AllByRecursion}
use Rattle.std.proofs.lemmas.Bool.{cases_Bool, eqb-true}
use Rattle.mqtt_base.specs.declared.session.CopyId.{CopyId}
use Rattle.mqtt_packet.specs.parts.Faults.{answer_to}
use Rattle.mqtt_packet.specs.declared.codec.packet.Packet.{Packet}
use Rattle.mqtt_packet.specs.declared.codec.packet.Packet.TheVariants as packets
use Rattle.mqtt_packet.specs.declared.codec.publish.Delivery.{Delivery}
use Rattle.mqtt_packet.specs.declared.codec.publish.Delivery.TheVariants as delivery
use Rattle.mqtt_packet.specs.declared.codec.publish.Publish.{Publish as Publication}
use Rattle.mqtt_flow.specs.outbound.Receiver.{connect, puback, pubcomp, pubrec}
use Rattle.mqtt_flow.specs.inbound.Line.{Link, asked, away, live}
use Rattle.mqtt_packet.specs.stream.Front.{first_of}
use Rattle.mqtt_records.specs.lists.Order.{IsBelow}
use Rattle.mqtt_rules.proofs.step_lemmas.numbers.Copies.{each_append}
use Rattle.mqtt_rules.specs.step.Deeds.{fresh_line}
use Rattle.mqtt_rules.specs.step.Lines.{line_number}
use Rattle.mqtt_rules.specs.step.Piece.{Front, begins_connect, call_by, code_of}
use Rattle.mqtt_rules.specs.step.State.{Line as BrokerLine, Broker, line_at}
use Rattle.mqtt_rules.specs.step.Step.{BadInput, Call, Input, Lost, NewLine, Pump, Tick, at_moment, can_link, opened, stepped, told}
use Rattle.mqtt_rules.proofs.step_lemmas.contents.PassedContents.{two}
use Rattle.mqtt_rules.specs.declared.step.Capacity.{Capacity}
use Rattle.mqtt_world_model.specs.model.Ends.{Back, Publisher, Receiver, answers, asks_for, hears, new_receiver, reads_publish, receiver_connack, receiver_reads, wire_back}
use Rattle.mqtt_world_model.specs.model.Lines.{Down, gives_up, is_one_of, joined, left}
use Rattle.mqtt_world_model.specs.model.Run.{Turn, setting, turned}
use Rattle.mqtt_world_model.specs.model.World.{are_aliases, Asking, Event, Setting, Stranger, View, World, answers_rest, ask, asks, asks_wish, before, break, call_of, call_of_stranger, call_on, calls, calls_if, clock, comes, connect_end, first_step, give_up, happens, held_after, held_count, input_on, is_bad, is_bad_name, is_end, is_open_line, is_window, linked_at, links, lost_on, next_held, old_to_broker, publish, publisher, pump, pump_on, receiver, receiver_named, receiver_restarted, receiver_told, restart, restarts, stop_after, stop_before, stranger, stranger_named, subscribe, taken_old, taken_up, tick, to_broker, to_end, view_by, view_of, with_receiver, may_take}
use Rattle.mqtt_world_model.proofs.model_lemmas.seats.Joins.{new_is}
use Rattle.mqtt_world_model.proofs.model_lemmas.others.Lists.{all_find}
use Rattle.mqtt_world_laws.specs.acceptance.Fair.{IsNew}
use Rattle.mqtt_world_laws.proofs.acceptance_lemmas.publishers.Ends.{find_first, find_last, find_no_more, find_receiver, either}
use Rattle.mqtt_world_laws.proofs.acceptance_lemmas.publishers.Kept.{read_there}
use Rattle.mqtt_world_laws.specs.delivery.Standing.{IsOtherStranger, IsSeen, Stands}
use Rattle.mqtt_world_laws.specs.delivery.Taking.{EachTakes, ItsLineTakes, LineTakes, ReceiverTakes, TakesAsAsked, TakesThere}
use Rattle.mqtt_world_laws.proofs.delivery_lemmas.others.Around.{on_back, whose_name}
use Rattle.mqtt_world_laws.proofs.delivery_lemmas.others.Asking.{foreign, input_outside}
use Rattle.mqtt_world_laws.proofs.delivery_lemmas.broker.Greeted.{Suits, called_take}
use Rattle.mqtt_world_laws.proofs.delivery_lemmas.others.Outside.{IsOutside, apart_from, lines_of, listed, named_called}
use Rattle.mqtt_world_laws.proofs.acceptance_lemmas.publishers.StrangerBytes.{find_changed}
use Rattle.mqtt_world_laws.proofs.delivery_lemmas.others.Strangers.{comes_stands}

-- ---- a receiver that is changed, and keeps its window, and its line or has none

record IsLike (r q : Receiver) : Type 0 where
  pub client : q.client ≡ r.client
  pub window : q.window ≡ r.window
  pub number : (q.line.number ≡ r.line.number) ⊎ (q.line.number ≡ None)

same_like : (r q : Receiver) → q.client ≡ r.client → q.window ≡ r.window → q.line.number ≡ r.line.number → IsLike r q
same_like r q client window number = record { client = client; window = window; number = inl number }

left_like : (r q : Receiver) → q.client ≡ r.client → q.window ≡ r.window → q.line.number ≡ None → IsLike r q
left_like r q client window none = record { client = client; window = window; number = inr none }

only_like : (t : Bool) (g : Receiver → Receiver) (r : Receiver) → IsLike r (g r) → IsLike r (cond t (g r) r)
only_like true g r l = l
only_like false g r l = same_like r r refl refl refl

line_likewise : (window : ℕ) (x y : Option ℕ) (b : Broker) → (y ≡ x) ⊎ (y ≡ None) → LineTakes window x b → LineTakes window y b
line_likewise window x y b (inl same) h = subst (λ (z : Option ℕ). LineTakes window z b) (sym same) h
line_likewise window x y b (inr none) h = subst (λ (z : Option ℕ). LineTakes window z b) (sym none) tt

like_takes : (r q : Receiver) (b : Broker) → IsLike r q → ReceiverTakes r b → ReceiverTakes q b
like_takes r q b l h = record {
  window = subst (λ (k : ℕ). is_window k ≡ true) (sym l.window) h.window;
  line = subst (λ (k : ℕ). LineTakes k q.line.number b) (sym l.window) (line_likewise r.window r.line.number q.line.number b l.number h.line);
}

abbrev named : List ℕ → List Receiver → Option Receiver
named c rs = find (λ (r : Receiver). bytes_eq r.client c) rs

mapped_takes : (c : List ℕ) (g : Receiver → Receiver) (rs : List Receiver) (b d : Broker) → ((r : Receiver) → (g r).client ≡ r.client) → ((r : Receiver) → ReceiverTakes r b → ReceiverTakes (g r) d)
    → EachTakes (named c rs) b → EachTakes (named c (map g rs)) d
mapped_takes c g rs b d same each h = subst (λ (o : Option Receiver). EachTakes o d) (sym (find_receiver c g same rs)) (by (named c rs) h)
  where
    by : (o : Option Receiver) → EachTakes o b → EachTakes (option_map g o) d
    by None h = tt
    by (Some r) h = each r h

changed_takes : (c d : List ℕ) (g : Receiver → Receiver) (w : World) → ((r : Receiver) → IsLike r (g r)) → ItsLineTakes c w → ItsLineTakes c (with_receiver d g w)
changed_takes c d g w like h =
    mapped_takes c (λ r. cond (bytes_eq r.client d) (g r) r) w.receivers w.broker w.broker (λ r. (only_like (bytes_eq r.client d) g r (like r)).client)
    (λ r k. like_takes r (cond (bytes_eq r.client d) (g r) r) w.broker (only_like (bytes_eq r.client d) g r (like r)) k) h

-- ---- a call that is no CONNECT on its line, or says what its own does

abbrev LineSuits : ℕ → Option ℕ → Call → Type 0
LineSuits window None call = ⊤
LineSuits window (Some n) call = Suits window n call

abbrev ReceiverSuits : Option Receiver → Call → Type 0
ReceiverSuits None call = ⊤
ReceiverSuits (Some r) call = LineSuits r.window r.line.number call

line_suits_alike : (window : ℕ) (x y : Option ℕ) (call : Call) → (y ≡ x) ⊎ (y ≡ None) → LineSuits window x call → LineSuits window y call
line_suits_alike window x y call (inl same) h = subst (λ (z : Option ℕ). LineSuits window z call) (sym same) h
line_suits_alike window x y call (inr none) h = subst (λ (z : Option ℕ). LineSuits window z call) (sym none) tt

changed_suits : (c d : List ℕ) (g : Receiver → Receiver) (w : World) (call : Call) → ((r : Receiver) → IsLike r (g r)) → ReceiverSuits (receiver_named c w) call → ReceiverSuits (receiver_named c (with_receiver d g w)) call
changed_suits c d g w call like h =
    subst (λ (o : Option Receiver). ReceiverSuits o call) (sym (find_receiver c f (λ r. (only_like (bytes_eq r.client d) g r (like r)).client) w.receivers)) (by (receiver_named c w) h)
  where
    f : Receiver → Receiver
    f r = cond (bytes_eq r.client d) (g r) r

    by : (o : Option Receiver) → ReceiverSuits o call → ReceiverSuits (option_map f o) call
    by None h = tt
    by (Some r) h =
        let l = only_like (bytes_eq r.client d) g r (like r) in
        subst (λ (k : ℕ). LineSuits k (f r).line.number call) (sym l.window) (line_suits_alike r.window r.line.number (f r).line.number call l.number h)

any_line : (window : ℕ) (x : Option ℕ) (call : Call) → ((n : ℕ) → Suits window n call) → LineSuits window x call
any_line window None call h = tt
any_line window (Some n) call h = h n

any_suits : (o : Option Receiver) (call : Call) → ((window n : ℕ) → Suits window n call) → ReceiverSuits o call
any_suits None call h = tt
any_suits (Some r) call h = any_line r.window r.line.number call (λ n. h r.window n)

line_called : (window : ℕ) (x : Option ℕ) (set : Setting) (call : Call) (w : World) → LineSuits window x call → LineTakes window x w.broker → LineTakes window x (stepped set.limits set.choice w.now call w.broker)
line_called window None set call w q h = tt
line_called window (Some n) set call w q h = called_take window n set.limits set.choice w.now call w.broker q h

calls_take : (c : List ℕ) (set : Setting) (call : Call) (w : World) → ItsLineTakes c w → ReceiverSuits (receiver_named c w) call → ItsLineTakes c (calls set call w)
calls_take c set call w h q = subst (λ (o : Option Receiver). EachTakes o new) (sym (named_called c set call w)) (by (receiver_named c w) h q)
  where
    new : Broker
    new = stepped set.limits set.choice w.now call w.broker

    by : (o : Option Receiver) → EachTakes o w.broker → ReceiverSuits o call → EachTakes (option_map (receiver_told new (told set.limits set.choice w.now call w.broker)) o) new
    by None h q = tt
    by (Some r) h q = record { window = h.window; line = line_called r.window r.line.number set call w q h.line }

if_takes : (c : List ℕ) (set : Setting) (call : Option Call) (w : World) → ItsLineTakes c w → ((x : Call) → call ≡ Some x → ReceiverSuits (receiver_named c w) x) → ItsLineTakes c (calls_if set call w)
if_takes c set None w h q = h
if_takes c set (Some call) w h q = calls_take c set call w h (q call refl)

-- ---- a packet of an end, its own or another's

outside_suits : (c ns : List ℕ) (window n : ℕ) (call : Call) → is_one_of (Some n) (0 ∷ ns) ≡ true → IsOutside c ns call → Suits window n call
outside_suits c ns window n (Input m (packets.Connect x)) among q = inl (apart_from m n (0 ∷ ns) q.0 among)
outside_suits c ns window n call among q = tt

-- its CONNECT has its Receive Maximum, and no Maximum Packet Size
back_suits : (client : List ℕ) (window aliases n m : ℕ) (x : Back) → Suits window n (Input m (wire_back client window aliases x))
back_suits client window zero n m (answers (connect clean)) = inr (refl, refl)
back_suits client window (suc more) n m (answers (connect clean)) = inr (refl, refl)
back_suits client window aliases n m (answers (puback i code)) = tt
back_suits client window aliases n m (answers (pubrec i code)) = tt
back_suits client window aliases n m (answers (pubcomp i code)) = tt
back_suits client window aliases n m (asks_for x) = tt

input_suits : (client : List ℕ) (window aliases n : ℕ) (x : Option ℕ) (xs : List Back) (call : Call) → input_on x (map (wire_back client window aliases) xs) ≡ Some call → Suits window n call
input_suits client window aliases n None xs call e = absurd cc
input_suits client window aliases n (Some m) [] call e = absurd cc
input_suits client window aliases n (Some m) (x ∷ xs) call e =
    let is : Input m (wire_back client window aliases x) ≡ call = cc in
    subst (Suits window n) is (back_suits client window aliases n m x)

module _ (first : List CopyId) (c : List ℕ) (largest : ℕ) (set : Setting) (w : World) (s : Stands first c largest set.limits w) where
  its_listed : (r : Receiver) (n : ℕ) → receiver_named c w ≡ Some r → r.line.number ≡ Some n → is_one_of (Some n) (0 ∷ s.ns) ≡ true
  its_listed r n e is =
      let placed = subst (IsSeen largest s.ids s.ns w.broker) e s.standing.seen in
      listed n s.ns ((lines_of placed.birth largest s.ids s.ns r w.broker placed.along).own n is)

  its_view : (r : Receiver) → receiver_named c w ≡ Some r → view_of c w ≡ view_by None (Some r)
  its_view r e = ap (λ (o : Option Publisher). view_by o (receiver_named c w)) (s.standing.around.alone (ap is_some e)) ∙ ap (λ (o : Option Receiver). view_by None o) e

  end_suits : (d : List ℕ) (call : Call) → ((d ≡ c → ⊥) → IsOutside c s.ns call) → ((r : Receiver) → receiver_named c w ≡ Some r → d ≡ c → (n : ℕ) → Suits r.window n call) → ReceiverSuits (receiver_named c w) call
  end_suits d call others own = by (receiver_named c w) refl
    where
      on : (r : Receiver) (x : Option ℕ) → receiver_named c w ≡ Some r → r.line.number ≡ x → LineSuits r.window x call
      on r None e is = tt
      on r (Some n) e is = elim (whose_name c d w) [
        | inr not_its ↦ outside_suits c s.ns r.window n call (its_listed r n e is) (others (not_its (ap is_some e)))
        | inl its ↦ own r e its.2 n
      ]

      by : (o : Option Receiver) → receiver_named c w ≡ o → ReceiverSuits o call
      by None e = tt
      by (Some r) e = on r r.line.number e refl

  reads_suit : (d : List ℕ) (call : Call) → input_on (view_of d w).number (view_of d w).up ≡ Some call → ReceiverSuits (receiver_named c w) call
  reads_suit d call asked_is = end_suits d call
      (λ differ. let f = foreign c d set.limits s.ns w s.standing.around differ in input_outside c s.ns w.broker.given (view_of d w).number (view_of d w).up call f.number f.up asked_is)
      (λ r e is n. input_suits r.client r.window r.aliases n r.line.number r.line.up call (sym (ap (λ (v : View). input_on v.number v.up) (ap (λ (x : List ℕ). view_of x w) is ∙ its_view r e)) ∙ asked_is))

  old_reads_suit : (d : List ℕ) (call : Call) → input_on (view_of d w).old_number (view_of d w).old ≡ Some call → ReceiverSuits (receiver_named c w) call
  old_reads_suit d call asked_is = end_suits d call
      (λ differ. let f = foreign c d set.limits s.ns w s.standing.around differ in input_outside c s.ns w.broker.given (view_of d w).old_number (view_of d w).old call f.old_number f.old asked_is)
      (λ r e is n. input_suits r.client r.window r.aliases n r.line.old_number r.line.old call (sym (ap (λ (v : View). input_on v.old_number v.old) (ap (λ (x : List ℕ). view_of x w) is ∙ its_view r e)) ∙ asked_is))

-- ---- a stranger's bytes

abbrev number_of : Option Stranger → Option ℕ
number_of None = None
number_of (Some s) = s.number

abbrev its_number : Option Receiver → Option ℕ
its_number None = None
its_number (Some r) = r.line.number

-- two lines, if both are there
abbrev AreTwo : Option ℕ → Option ℕ → Type 0
AreTwo x y = (m n : ℕ) → x ≡ Some m → y ≡ Some n → nat_eq m n ≡ false

elsewhere_suits : (window n m : ℕ) (packet : Packet) → nat_eq m n ≡ false → Suits window n (Input m packet)
elsewhere_suits window n m (packets.Connect x) off = inl off
elsewhere_suits window n m packet off = tt

front_suits : (window n m : ℕ) (bytes : List ℕ) (f : Front) (call : Call) → nat_eq m n ≡ false → call_by m bytes f ≡ Some call → Suits window n call
front_suits window n m bytes (Ok None) call off e = absurd cc
front_suits window n m bytes (Ok (Some x)) call off e = let is : Input m x.0 ≡ call = cc in subst (Suits window n) is (elsewhere_suits window n m x.0 off)
front_suits window n m bytes (Err fault) call off e = let is : BadInput m (begins_connect bytes) (code_of (answer_to fault)) ≡ call = cc in subst (Suits window n) is tt

held_suits : (window n : ℕ) (x : Option ℕ) (bytes : List ℕ) (call : Call) → ((m : ℕ) → x ≡ Some m → nat_eq m n ≡ false) → call_on x bytes ≡ Some call → Suits window n call
held_suits window n None bytes call off e = absurd cc
held_suits window n (Some m) bytes call off e = front_suits window n m bytes (first_of bytes) call (off m refl) e

stranger_suits : (c name : List ℕ) (v : World) (call : Call) → AreTwo (number_of (stranger_named name v)) (its_number (receiver_named c v)) → call_of_stranger (stranger_named name v) ≡ Some call → ReceiverSuits (receiver_named c v) call
stranger_suits c name v call two e = by (stranger_named name v) (receiver_named c v) two e
  where
    on : (s : Stranger) (window : ℕ) (x : Option ℕ) → AreTwo s.number x → call_of_stranger (Some s) ≡ Some call → LineSuits window x call
    on s window None two e = tt
    on s window (Some n) two e = held_suits window n s.number s.held call (λ m at. two m n at refl) e

    by : (o : Option Stranger) (x : Option Receiver) → AreTwo (number_of o) (its_number x) → call_of_stranger o ≡ Some call → ReceiverSuits x call
    by None x two e = absurd cc
    by (Some s) None two e = tt
    by (Some s) (Some r) two e = on s r.window r.line.number two e

-- its line is none of the receiver's
two_lines : (first : List CopyId) (c name : List ℕ) (largest : ℕ) (set : Setting) (v : World) → Stands first c largest set.limits v → AreTwo (number_of (stranger_named name v)) (its_number (receiver_named c v))
two_lines first c name largest set v s = by (stranger_named name v) (receiver_named c v) refl refl
  where
    by : (o : Option Stranger) (x : Option Receiver) → stranger_named name v ≡ o → receiver_named c v ≡ x → AreTwo (number_of o) (its_number x)
    by None x e f = λ m n p q. absurd cc
    by (Some z) None e f = λ m n p q. absurd cc
    by (Some z) (Some r) e f = λ m n p q.
        let free = (all_find (IsOtherStranger s.ns v.broker.given) (λ (y : Stranger). bytes_eq y.name name) z v.strangers s.standing.around.strangers e).0 in
        apart_from m n (0 ∷ s.ns) (free m p).0 (its_listed first c largest set v s r n f q)

held_number : (name : List ℕ) (v : World) → number_of (stranger_named name (next_held name v)) ≡ number_of (stranger_named name v)
held_number name v = ap number_of (find_changed name (λ (s : Stranger). record s { held = held_after s.held }) v.strangers (λ s. refl)) ∙ by (stranger_named name v)
  where
    by : (o : Option Stranger) → number_of (option_map (λ (s : Stranger). record s { held = held_after s.held }) o) ≡ number_of o
    by None = refl
    by (Some s) = refl

called_number : (c : List ℕ) (set : Setting) (call : Option Call) (w : World) → its_number (receiver_named c (calls_if set call w)) ≡ its_number (receiver_named c w)
called_number c set None w = refl
called_number c set (Some call) w = ap its_number (named_called c set call w) ∙ by (receiver_named c w)
  where
    by : (o : Option Receiver) → its_number (option_map (receiver_told (stepped set.limits set.choice w.now call w.broker) (told set.limits set.choice w.now call w.broker)) o) ≡ its_number o
    by None = refl
    by (Some r) = refl

stranger_there : (name : List ℕ) (set : Setting) (call : Option Call) (w : World) → stranger_named name (calls_if set call w) ≡ stranger_named name w
stranger_there name set None w = refl
stranger_there name set (Some call) w = refl

rest_takes : (more : ℕ) (c name : List ℕ) (set : Setting) (v : World) → AreTwo (number_of (stranger_named name v)) (its_number (receiver_named c v)) → ItsLineTakes c v → ItsLineTakes c (answers_rest set more name v)
rest_takes zero c name set v two h = h
rest_takes (suc more) c name set v two h =
    let call = call_of_stranger (stranger_named name v) in
    let u = next_held name v in
    let next = if_takes c set call u h (λ x is. stranger_suits c name v x two is) in
    let number : number_of (stranger_named name (calls_if set call u)) ≡ number_of (stranger_named name v) = ap number_of (stranger_there name set call u) ∙ held_number name v in
    let its = called_number c set call u in
    rest_takes more c name set (calls_if set call u) (λ m n p q. two m n (sym number ∙ p) (sym its ∙ q)) next

comes_take : (c name bytes : List ℕ) (set : Setting) (w : World) → ItsLineTakes c w → ItsLineTakes c (comes set name bytes w)
comes_take c name bytes set w h = by (is_some (stranger_named name w))
  where
    by : (t : Bool) → ItsLineTakes c (linked_at set t name bytes w)
    by true = h
    by false = calls_take c set NewLine w h (any_suits (receiver_named c w) NewLine (λ window n. tt))

-- ---- what is asked for

lost_suits : (o : Option Receiver) (x : Option ℕ) (call : Call) → lost_on x ≡ Some call → ReceiverSuits o call
lost_suits o None call e = absurd cc
lost_suits o (Some n) call e = let is : Lost n ≡ call = cc in subst (ReceiverSuits o) is (any_suits o (Lost n) (λ window m. tt))

pump_suits : (o : Option Receiver) (x : Option ℕ) (call : Call) → pump_on x ≡ Some call → ReceiverSuits o call
pump_suits o None call e = absurd cc
pump_suits o (Some n) call e = let is : Pump n ≡ call = cc in subst (ReceiverSuits o) is (any_suits o (Pump n) (λ window m. tt))

up_like : (r : Receiver) → IsLike r (on_back taken_up r)
up_like r = same_like r (on_back taken_up r) refl refl refl

old_like : (r : Receiver) → IsLike r (on_back taken_old r)
old_like r = same_like r (on_back taken_old r) refl refl refl

before_takes : (a : Asking) (c : List ℕ) (set : Setting) (w : World) → ItsLineTakes c w → ItsLineTakes c (before set a w)
before_takes (to_broker d) c set w h = changed_takes c d (on_back taken_up) w up_like h
before_takes (old_to_broker d) c set w h = changed_takes c d (on_back taken_old) w old_like h
before_takes (break d) c set w h = h
before_takes (pump d) c set w h = h
before_takes tick c set w h = h
before_takes (stranger name bytes) c set w h = comes_take c name bytes set w h

first_takes : (first : List CopyId) (a : Asking) (c : List ℕ) (largest : ℕ) (set : Setting) (w : World) → Stands first c largest set.limits w → ItsLineTakes c w → ItsLineTakes c (first_step set a w)
first_takes first (to_broker d) c largest set w s h =
    if_takes c set (call_of set (to_broker d) w) (before set (to_broker d) w) (before_takes (to_broker d) c set w h)
    (λ x is. changed_suits c d (on_back taken_up) w x up_like (reads_suit first c largest set w s d x is))
first_takes first (old_to_broker d) c largest set w s h =
    if_takes c set (call_of set (old_to_broker d) w) (before set (old_to_broker d) w) (before_takes (old_to_broker d) c set w h)
    (λ x is. changed_suits c d (on_back taken_old) w x old_like (old_reads_suit first c largest set w s d x is))
first_takes first (break d) c largest set w s h = if_takes c set (lost_on (view_of d w).number) w h (λ x is. lost_suits (receiver_named c w) (view_of d w).number x is)
first_takes first (pump d) c largest set w s h = if_takes c set (pump_on (view_of d w).number) w h (λ x is. pump_suits (receiver_named c w) (view_of d w).number x is)
first_takes first tick c largest set w s h = calls_take c set Tick w h (any_suits (receiver_named c w) Tick (λ window n. tt))
first_takes first (stranger name bytes) c largest set w s h =
    let v = comes set name bytes w in
    if_takes c set (call_of_stranger (stranger_named name v)) v (comes_take c name bytes set w h)
    (λ x is. stranger_suits c name v x (two_lines first c name largest set v (comes_stands first c largest set name bytes w s)) is)

asks_take : (first : List CopyId) (a : Asking) (c : List ℕ) (largest : ℕ) (set : Setting) (w : World) → Stands first c largest set.limits w → ItsLineTakes c w → ItsLineTakes c (asks set a w)
asks_take first (to_broker d) c largest set w s h = first_takes first (to_broker d) c largest set w s h
asks_take first (old_to_broker d) c largest set w s h = first_takes first (old_to_broker d) c largest set w s h
asks_take first (break d) c largest set w s h = changed_takes c d (on_back left) (first_step set (break d) w) (λ r. left_like r (on_back left r) refl refl refl) (first_takes first (break d) c largest set w s h)
asks_take first (pump d) c largest set w s h = first_takes first (pump d) c largest set w s h
asks_take first tick c largest set w s h = first_takes first tick c largest set w s h
asks_take first (stranger name bytes) c largest set w s h =
    let v = comes set name bytes w in
    rest_takes (held_count (stranger_named name v)) c name set v (two_lines first c name largest set v (comes_stands first c largest set name bytes w s)) (comes_take c name bytes set w h)

restarts_take : (c : List ℕ) (set : Setting) (w : World) → ItsLineTakes c w → ItsLineTakes c (restarts set w)
restarts_take c set w h =
    mapped_takes c receiver_restarted w.receivers w.broker (opened set.limits set.choice w.now w.broker.records) (λ r. refl) (λ r k. record { window = k.window; line = tt }) h

-- ---- what ends do

so_true : (t : Bool) → not t ≡ false → t ≡ true
so_true true h = refl
so_true false h = absurd cc

receiver_takes : (c d : List ℕ) (window aliases : ℕ) (set : Setting) (w : World) → ItsLineTakes c w → is_bad (receiver d window aliases) w ≡ false → ItsLineTakes c (happens set (receiver d window aliases) w)
receiver_takes c d window aliases set w h good = by (receiver_named c w) refl h
  where
    new : Receiver
    new = new_receiver d window aliases w.broker.records.births

    right : is_window window ≡ true
    right = (two (is_window window) (are_aliases aliases) (so_true (may_take window aliases) (either (is_end d w) (not (may_take window aliases)) (either (is_bad_name d) (is_end d w || not (may_take window aliases)) good).1).1)).0

    test : Receiver → Bool
    test r = bytes_eq r.client c

    by : (o : Option Receiver) → receiver_named c w ≡ o → EachTakes o w.broker → ItsLineTakes c (happens set (receiver d window aliases) w)
    by (Some r) e k = subst (λ (o : Option Receiver). EachTakes o w.broker) (sym (find_first test new r w.receivers e)) k
    by None e k = elim (cases_Bool (bytes_eq d c)) [
      | inl its ↦ subst (λ (o : Option Receiver). EachTakes o w.broker) (sym (find_last test new w.receivers its e)) (record { window = right; line = tt })
      | inr other ↦ subst (λ (o : Option Receiver). EachTakes o w.broker) (sym (find_no_more test new w.receivers other ∙ e)) tt
    ]

-- nobody is connected on the line that was just given
below_take : (window n : ℕ) (ls : List BrokerLine) → IsBelow line_number n ls → AllByRecursion (TakesThere window n) ls
below_take window n [] low = tt
below_take window n (l ∷ ls) low = ((λ e k on. let less = low.0 in absurd (omega (arith, e, less))), below_take window n ls low.1)

fresh_takes : (window : ℕ) (set : Setting) (now : ℕ) (b : Broker) → IsBelow line_number (suc b.given) b.lines → can_link set.limits b ≡ true → LineTakes window (Some (suc b.given)) (stepped set.limits set.choice now NewLine b)
fresh_takes window set now b low can =
    subst (λ (d : Broker). LineTakes window (Some (suc b.given)) d) (sym (new_is set.limits set.choice now b can))
    (each_append (TakesThere window (suc b.given)) b.lines (fresh_line (suc b.given) (at_moment now b).now ∷ []) (below_take window (suc b.given) b.lines low) ((λ e k on. absurd cc), tt))

joined_takes : (first : List CopyId) (c d : List ℕ) (clean : Bool) (largest : ℕ) (set : Setting) (w : World) → Stands first c largest set.limits w → ItsLineTakes c w → ItsLineTakes c (happens set (connect_end d clean) w)
joined_takes first c d clean largest set w s h = by (can_link set.limits w.broker) refl
  where
    next : ℕ
    next = suc w.broker.given

    new : Broker
    new = stepped set.limits set.choice w.now NewLine w.broker

    joins : Receiver → Receiver
    joins r = on_back (λ l. joined (answers (connect clean)) next clean l) r

    its : (t : Bool) (r : Receiver) → can_link set.limits w.broker ≡ true → ReceiverTakes r new → ReceiverTakes (cond t (joins r) r) new
    its true r can k = record { window = k.window; line = fresh_takes r.window set w.now w.broker s.standing.around.steady.lines.given can }
    its false r can k = k

    name : (t : Bool) (r : Receiver) → (cond t (joins r) r).client ≡ r.client
    name true r = refl
    name false r = refl

    by : (t : Bool) → can_link set.limits w.broker ≡ t → ItsLineTakes c (links set (cond t (Some (suc w.broker.given)) None) d clean w)
    by false can = h
    by true can =
        mapped_takes c (λ r. cond (bytes_eq r.client d) (joins r) r) (calls set NewLine w).receivers new new (λ r. name (bytes_eq r.client d) r) (λ r k. its (bytes_eq r.client d) r can k)
        (calls_take c set NewLine w h (any_suits (receiver_named c w) NewLine (λ window n. tt)))

gives_like : (link : Link) (r : Receiver) → IsLike r (record r { line = gives_up link r.line })
gives_like away r = same_like r _ refl refl refl
gives_like asked r = left_like r _ refl refl refl
gives_like live r = left_like r _ refl refl refl

publish_window : (t : Bool) (copy : Option CopyId) (p : Publication) (d : Delivery) (r : Receiver) → (reads_publish t copy p d r).window ≡ r.window
publish_window t copy p delivery.AtMostOnce r = refl
publish_window t copy p (delivery.AtLeastOnce dup i) r = refl
publish_window t copy p (delivery.ExactlyOnce dup i) r = refl

either_window : (t : Bool) (r v w : Receiver) → v.window ≡ r.window → w.window ≡ r.window → (cond t v w).window ≡ r.window
either_window true r v w p q = p
either_window false r v w p q = q

connack_window : (link : Link) (present : Bool) (code : ℕ) (r : Receiver) → (receiver_connack link present code r).window ≡ r.window
connack_window away present code r = refl
connack_window live present code r = refl
connack_window asked present code r = either_window (nat_lt 0 code) r _ _ refl refl

hears_window : (t : Bool) (copy : Option CopyId) (packet : Packet) (r : Receiver) → (hears t copy packet r).window ≡ r.window
hears_window t copy (packets.Connack a) r = connack_window r.line.link a.session_present a.reason.0 r
hears_window t copy (packets.Publish p) r = publish_window t copy p p.delivery r
hears_window t copy packet r = refl

read_window : (t : Bool) (ds : List Down) (r : Receiver) → (receiver_reads t ds r).window ≡ r.window
read_window t [] r = refl
read_window t (d ∷ rest) r = hears_window t d.copy d.packet (record r { line = record r.line { down = rest } })

read_like : (t : Bool) (ds : List Down) (r : Receiver) → IsLike r (receiver_reads t ds r)
read_like t ds r = let k = read_there t ds r in record { client = k.client; window = read_window t ds r; number = k.line.number }

-- ---- an event, and a turn

happens_takes : (first : List CopyId) (e : Event) (c : List ℕ) (largest : ℕ) (set : Setting) (w : World) → Stands first c largest set.limits w → ItsLineTakes c w → is_bad e w ≡ false → ItsLineTakes c (happens set e w)
happens_takes first (publisher d) c largest set w s h good = h
happens_takes first (receiver d window aliases) c largest set w s h good = receiver_takes c d window aliases set w h good
happens_takes first (connect_end d clean) c largest set w s h good = joined_takes first c d clean largest set w s h
happens_takes first (give_up d) c largest set w s h good = changed_takes c d (on_back (λ l. gives_up l.link l)) w (λ r. gives_like r.line.link r) h
happens_takes first (publish d x) c largest set w s h good = h
happens_takes first (subscribe d x) c largest set w s h good = changed_takes c d (λ r. asks_wish (is_open_line r.line w) x r) w (λ r. same_like r (asks_wish (is_open_line r.line w) x r) refl refl refl) h
happens_takes first (to_end d) c largest set w s h good =
    changed_takes c d (λ r. receiver_reads (is_open_line r.line w) r.line.down r) w (λ r. read_like (is_open_line r.line w) r.line.down r) h
happens_takes first (clock wait) c largest set w s h good = h
happens_takes first (ask a) c largest set w s h good = asks_take first a c largest set w s h
happens_takes first restart c largest set w s h good = restarts_take c set w h
happens_takes first (stop_before a) c largest set w s h good = restarts_take c set (before set a w) (before_takes a c set w h)
happens_takes first (stop_after a) c largest set w s h good = restarts_take c set (first_step set a w) (first_takes first a c largest set w s h)

-- a turn leaves its line taking packets of any size
pub turn_takes : (first : List CopyId) (c : List ℕ) (largest : ℕ) (limits : Capacity) (t : Turn) (w : World) → Stands first c largest limits w → ItsLineTakes c w → ItsLineTakes c (turned limits t w)
turn_takes first c largest limits t w s h = by (is_bad t.event w) refl
  where
    by : (bad : Bool) → is_bad t.event w ≡ bad → ItsLineTakes c (cond bad w (happens (setting limits t) t.event w))
    by true is = h
    by false is = happens_takes first t.event c largest (setting limits t) w s h is

-- ---- at the beginning, and in the words of a look-up

-- so it is in a new world
pub new_takes : (c : List ℕ) (w : World) → IsNew w → ItsLineTakes c w
new_takes c w new = subst (λ (rs : List Receiver). EachTakes (named c rs) w.broker) (sym new.receivers) tt

-- its line takes what its CONNECT asked for
pub takes_there : (c : List ℕ) (r : Receiver) (n birth : ℕ) (l : BrokerLine) (w : World) → ItsLineTakes c w → receiver_named c w ≡ Some r → r.line.number ≡ Some n → line_at n w.broker ≡ Some l → l.session ≡ Some birth → TakesAsAsked r.window l
takes_there c r n birth l w h e is at on =
    let mine : ReceiverTakes r w.broker = subst (λ (o : Option Receiver). EachTakes o w.broker) e h in
    let line : LineTakes r.window (Some n) w.broker = subst (λ (x : Option ℕ). LineTakes r.window x w.broker) is mine.line in
    let both = all_find (TakesThere r.window n) (λ (x : BrokerLine). nat_eq x.number n) l w.broker.lines line at in
    both.0 (eqb-true l.number n both.1) birth on
