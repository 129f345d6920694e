-- What a receiver has read it has read: its ledger only grows, and so does what it has read of QoS 1, whatever happens (MQTT 5.0, 4.3.2,
-- 4.3.3).
use Rattle.std.proofs.Common.{◌≡◌, ℕ, zero, suc, ◌+◌, ◌≤◌, Bool, true, false, cond, List, [], ◌∷◌, ◌++◌, map, Option, Some, None, nat_lt, bytes_eq, refl, sym, ap, ◌∙◌, append-nil, append_assoc, arith}
use Rattle.std.specs.Prelude.{find, if◌then◌else◌, is_some, option_map}
use Rattle.std.proofs.lemmas.List.Elements.{filter_map-append}
use Rattle.mqtt_base.specs.declared.session.CopyId.{CopyId}
use Rattle.mqtt_packet.specs.declared.codec.packet.Packet.{Packet}
use Rattle.mqtt_packet.specs.declared.codec.packet.Packet.TheVariants as packet
use Rattle.mqtt_packet.specs.declared.codec.publish.Delivery.{Delivery}
use Rattle.mqtt_packet.specs.declared.codec.publish.Delivery.TheVariants as delivery
use Rattle.mqtt_packet.specs.declared.codec.publish.Publish.{Publish as Publication}
use Rattle.mqtt_flow.specs.inbound.Line.{Link, asked, away, live}
use Rattle.mqtt_world_model.specs.model.Ends.{Back, Entry, Receiver, greeted, hears, new_receiver, receiver_connack, receiver_reads, reads_publish}
use Rattle.mqtt_world_model.specs.model.Laws.{copies_in, count_of, handed_count}
use Rattle.mqtt_world_model.specs.model.Lines.{Down, Line, gives_up, left, stands}
use Rattle.mqtt_world_model.specs.model.Run.{Turn, run, setting, turned}
use Rattle.mqtt_world_model.specs.model.World.{Asking, Event, Setting, World, answers_rest, ask, asks, asks_wish, before, break, call_of, call_of_stranger, calls, calls_if, clock, comes, connect_end, first_step, give_up, happens, held_count, is_bad, linked_at, links, next_held, next_line, old_to_broker, publish, publisher, pump, receiver, receiver_named, receiver_restarted, receiver_told, restart, restarts, stop_after, stop_before, stranger, stranger_named, subscribe, taken_old, taken_up, tick, to_broker, to_end}
use Rattle.mqtt_rules.specs.step.Step.{Call, NewLine, stepped, told}
use Rattle.mqtt_rules.specs.declared.step.Capacity.{Capacity}
use Rattle.mqtt_world_laws.proofs.acceptance_lemmas.copies.Counting.{count_append}
use Rattle.mqtt_world_laws.proofs.acceptance_lemmas.publishers.Ends.{find_first, find_receiver}
use Rattle.mqtt_world_laws.proofs.delivery_lemmas.others.Around.{on_back}
use Rattle.mqtt_world_laws.proofs.delivery_lemmas.others.Like.{moves_reading}

-- ---- a receiver later on

-- the one, and some more behind it, or none
abbrev pub IsFront : List Entry → List Entry → Type 0
IsFront xs ys = (more : List Entry) × (ys ≡ xs ++ more)

-- more stands in its ledger, behind what stood there, and so in what it has read of QoS 1; and it has come when it came
pub record Grows (q r : Receiver) : Type 0 where
  pub ledger : IsFront q.ledger r.ledger
  pub once : IsFront q.once r.once
  pub since : r.since ≡ q.since

front_same : (xs ys : List Entry) → ys ≡ xs → IsFront xs ys
front_same xs ys e = ([], e ∙ sym (append-nil xs))

front_then : (xs ys zs : List Entry) → IsFront xs ys → IsFront ys zs → IsFront xs zs
front_then xs ys zs g h = (g.0 ++ h.0, h.1 ∙ (ap (λ (es : List Entry). es ++ h.0) g.1 ∙ append_assoc xs g.0 h.0))

grows_same : (q r : Receiver) → r.ledger ≡ q.ledger → r.once ≡ q.once → r.since ≡ q.since → Grows q r
grows_same q r e f g = record { ledger = front_same q.ledger r.ledger e; once = front_same q.once r.once f; since = g }

grows_then : (p q r : Receiver) → Grows p q → Grows q r → Grows p r
grows_then p q r g h = record {
  ledger = front_then p.ledger q.ledger r.ledger g.ledger h.ledger;
  once = front_then p.once q.once r.once g.once h.once;
  since = h.since ∙ g.since;
}

abbrev IsKeeping : (Receiver → Receiver) → Type 0
IsKeeping f = (r : Receiver) → ((f r).client ≡ r.client) × Grows r (f r)

keeping : (f : Receiver → Receiver) → ((r : Receiver) → (f r).client ≡ r.client) → ((r : Receiver) → (f r).ledger ≡ r.ledger) → ((r : Receiver) → (f r).once ≡ r.once) → ((r : Receiver) → (f r).since ≡ r.since) → IsKeeping f
keeping f client ledger once since r = (client r, grows_same r (f r) (ledger r) (once r) (since r))

keeping_one : (d : List ℕ) (g : Receiver → Receiver) → IsKeeping g → IsKeeping (λ r. cond (bytes_eq r.client d) (g r) r)
keeping_one d g k r = by (bytes_eq r.client d)
  where
    by : (t : Bool) → ((cond t (g r) r).client ≡ r.client) × Grows r (cond t (g r) r)
    by true = k r
    by false = (refl, grows_same r r refl refl refl)

-- ---- it reads

or_more : (t : Bool) (xs ys : List Entry) → IsFront xs (if t then xs else xs ++ ys)
or_more true xs ys = ([], sym (append-nil xs))
or_more false xs ys = (ys, refl)

grows_connack : (link : Link) (present : Bool) (code : ℕ) (r : Receiver) → Grows r (receiver_connack link present code r)
grows_connack away present code r = grows_same r r refl refl refl
grows_connack live present code r = grows_same r r refl refl refl
grows_connack asked present code r = by (nat_lt 0 code)
  where
    by : (t : Bool) → Grows r (cond t (record r { line = left (record r.line { clean = false }) }) (record r { line = greeted r.line; asking = false; kept = if present then r.kept else [] }))
    by true = grows_same r _ refl refl refl
    by false = grows_same r _ refl refl refl

grows_publish : (t : Bool) (copy : Option CopyId) (p : Publication) (d : Delivery) (r : Receiver) → Grows r (reads_publish t copy p d r)
grows_publish t copy p delivery.AtMostOnce r = grows_same r r refl refl refl
grows_publish t copy p (delivery.AtLeastOnce dup i) r = record { ledger = front_same r.ledger r.ledger refl; once = (_ ∷ [], refl); since = refl }
grows_publish t copy p (delivery.ExactlyOnce dup i) r = record { ledger = or_more _ r.ledger _; once = front_same r.once r.once refl; since = refl }

grows_packet : (t : Bool) (copy : Option CopyId) (x : Packet) (r : Receiver) → Grows r (hears t copy x r)
grows_packet t copy (packet.Connack a) r = grows_connack r.line.link a.session_present a.reason.0 r
grows_packet t copy (packet.Publish p) r = grows_publish t copy p p.delivery r
grows_packet t copy (packet.Pubrel a) r = grows_same r _ refl refl refl
grows_packet t copy (packet.Suback a) r = grows_same r _ refl refl refl
grows_packet t copy (packet.Disconnect a) r = grows_same r _ refl refl refl
grows_packet t copy x r = grows_same r _ refl refl refl

grows_reading : (t : Bool) (ds : List Down) (r : Receiver) → Grows r (receiver_reads t ds r)
grows_reading t [] r = grows_same r r refl refl refl
grows_reading t (d ∷ rest) r =
    let q = record r { line = record r.line { down = rest } } in
    grows_then r q (hears t d.copy d.packet q) (grows_same r q refl refl refl) (grows_packet t d.copy d.packet q)

-- ---- the receiver of a name in a later world

abbrev pub Remains : List ℕ → World → World → Type 0
Remains c w v = (q : Receiver) → receiver_named c w ≡ Some q → (r : Receiver) × (receiver_named c v ≡ Some r) × Grows q r

module _ (c : List ℕ) where
  abbrev named_in : List Receiver → Option Receiver
  named_in rs = find (λ (r : Receiver). bytes_eq r.client c) rs

  same_remains : (w v : World) → v.receivers ≡ w.receivers → Remains c w v
  same_remains w v same q e = (q, ap named_in same ∙ e, grows_same q q refl refl refl)

  mapped_remains : (w v : World) (f : Receiver → Receiver) → IsKeeping f → v.receivers ≡ map f w.receivers → Remains c w v
  mapped_remains w v f k same q e = (f q, ap named_in same ∙ (find_receiver c f (λ r. (k r).0) w.receivers ∙ ap (option_map f) e), (k q).1)

  then_remains : (w u v : World) → Remains c w u → Remains c u v → Remains c w v
  then_remains w u v p q r e = let x = p r e in let y = q x.0 x.1 in (y.0, y.1, grows_then r x.0 y.0 x.2 y.2)

  calls_remain : (set : Setting) (call : Call) (w : World) → Remains c w (calls set call w)
  calls_remain set call w =
      let f = receiver_told (stepped set.limits set.choice w.now call w.broker) (told set.limits set.choice w.now call w.broker) in
      mapped_remains w (calls set call w) f (keeping f (λ r. refl) (λ r. refl) (λ r. refl) (λ r. refl)) refl

  if_remains : (set : Setting) (call : Option Call) (w : World) → Remains c w (calls_if set call w)
  if_remains set None w = same_remains w w refl
  if_remains set (Some call) w = calls_remain set call w

  line_remains : (d : List ℕ) (g : Line Back → Line Back) (w v : World) → v.receivers ≡ map (λ r. cond (bytes_eq r.client d) (on_back g r) r) w.receivers → Remains c w v
  line_remains d g w v same = mapped_remains w v (λ r. cond (bytes_eq r.client d) (on_back g r) r) (keeping_one d (on_back g) (keeping (on_back g) (λ r. refl) (λ r. refl) (λ r. refl) (λ r. refl))) same

  restarts_remain : (set : Setting) (w : World) → Remains c w (restarts set w)
  restarts_remain set w = mapped_remains w (restarts set w) receiver_restarted (keeping receiver_restarted (λ r. refl) (λ r. refl) (λ r. refl) (λ r. refl)) refl

  -- ---- what is asked for

  comes_remains : (set : Setting) (name bytes : List ℕ) (w : World) → Remains c w (comes set name bytes w)
  comes_remains set name bytes w = by (is_some (stranger_named name w))
    where
      by : (t : Bool) → Remains c w (linked_at set t name bytes w)
      by true = same_remains w (linked_at set true name bytes w) refl
      by false = then_remains w (calls set NewLine w) (linked_at set false name bytes w) (calls_remain set NewLine w) (same_remains (calls set NewLine w) (linked_at set false name bytes w) refl)

  before_remains : (set : Setting) (a : Asking) (w : World) → Remains c w (before set a w)
  before_remains set (to_broker d) w = line_remains d taken_up w (before set (to_broker d) w) refl
  before_remains set (old_to_broker d) w = line_remains d taken_old w (before set (old_to_broker d) w) refl
  before_remains set (break d) w = same_remains w w refl
  before_remains set (pump d) w = same_remains w w refl
  before_remains set tick w = same_remains w w refl
  before_remains set (stranger name bytes) w = comes_remains set name bytes w

  first_remains : (set : Setting) (a : Asking) (w : World) → Remains c w (first_step set a w)
  first_remains set a w = then_remains w (before set a w) (first_step set a w) (before_remains set a w) (if_remains set (call_of set a w) (before set a w))

  rest_remains : (set : Setting) (more : ℕ) (name : List ℕ) (w : World) → Remains c w (answers_rest set more name w)
  rest_remains set zero name w = same_remains w w refl
  rest_remains set (suc more) name w =
      let held = next_held name w in
      let call = call_of_stranger (stranger_named name w) in
      then_remains w held (answers_rest set (suc more) name w) (same_remains w held refl)
      (then_remains held (calls_if set call held) (answers_rest set more name (calls_if set call held)) (if_remains set call held) (rest_remains set more name (calls_if set call held)))

  asks_remain : (set : Setting) (a : Asking) (w : World) → Remains c w (asks set a w)
  asks_remain set (to_broker d) w = first_remains set (to_broker d) w
  asks_remain set (old_to_broker d) w = first_remains set (old_to_broker d) w
  asks_remain set (break d) w = then_remains w (first_step set (break d) w) (asks set (break d) w) (first_remains set (break d) w) (line_remains d left (first_step set (break d) w) (asks set (break d) w) refl)
  asks_remain set (pump d) w = first_remains set (pump d) w
  asks_remain set tick w = first_remains set tick w
  asks_remain set (stranger name bytes) w =
      let v = comes set name bytes w in
      then_remains w v (asks set (stranger name bytes) w) (comes_remains set name bytes w) (rest_remains set (held_count (stranger_named name v)) name v)

  -- ---- what happens

  links_remain : (set : Setting) (o : Option ℕ) (d : List ℕ) (clean : Bool) (w : World) → Remains c w (links set o d clean w)
  links_remain set None d clean w = same_remains w w refl
  links_remain set (Some n) d clean w = then_remains w (calls set NewLine w) (links set (Some n) d clean w) (calls_remain set NewLine w) (line_remains d _ (calls set NewLine w) (links set (Some n) d clean w) refl)

  happens_remains : (set : Setting) (e : Event) (w : World) → Remains c w (happens set e w)
  happens_remains set (publisher d) w = same_remains w (happens set (publisher d) w) refl
  happens_remains set (receiver d window aliases) w = λ q e. (q, find_first (λ (r : Receiver). bytes_eq r.client c) (new_receiver d window aliases w.broker.records.births) q w.receivers e, grows_same q q refl refl refl)
  happens_remains set (connect_end d clean) w = links_remain set (next_line set.limits w.broker) d clean w
  happens_remains set (give_up d) w = mapped_remains w (happens set (give_up d) w) (λ r. cond (bytes_eq r.client d) (on_back (λ l. gives_up l.link l) r) r) (keeping_one d (on_back (λ l. gives_up l.link l)) (keeping (on_back (λ l. gives_up l.link l)) (λ r. refl) (λ r. refl) (λ r. refl) (λ r. refl))) refl
  happens_remains set (publish d x) w = same_remains w (happens set (publish d x) w) refl
  happens_remains set (subscribe d x) w = mapped_remains w (happens set (subscribe d x) w) _ (keeping_one d (λ r. asks_wish (stands r.line.number w.broker) x r) (keeping (λ r. asks_wish (stands r.line.number w.broker) x r) (λ r. refl) (λ r. refl) (λ r. refl) (λ r. refl))) refl
  happens_remains set (to_end d) w = mapped_remains w (happens set (to_end d) w) _ (keeping_one d (λ r. receiver_reads (stands r.line.number w.broker) r.line.down r)
      (λ r. ((moves_reading (stands r.line.number w.broker) r.line.down r).client, grows_reading (stands r.line.number w.broker) r.line.down r))) refl
  happens_remains set (clock wait) w = same_remains w (happens set (clock wait) w) refl
  happens_remains set (ask a) w = asks_remain set a w
  happens_remains set restart w = restarts_remain set w
  happens_remains set (stop_before a) w = then_remains w (before set a w) (happens set (stop_before a) w) (before_remains set a w) (restarts_remain set (before set a w))
  happens_remains set (stop_after a) w = then_remains w (first_step set a w) (happens set (stop_after a) w) (first_remains set a w) (restarts_remain set (first_step set a w))

  -- in a run what a receiver has read stays read
  pub run_remains : (limits : Capacity) (ts : List Turn) (w : World) → Remains c w (run limits ts w)
  run_remains limits [] w = same_remains w w refl
  run_remains limits (t ∷ ts) w = then_remains w (turned limits t w) (run limits ts (turned limits t w)) (by (is_bad t.event w)) (run_remains limits ts (turned limits t w))
    where
      by : (bad : Bool) → Remains c w (cond bad w (happens (setting limits t) t.event w))
      by true = same_remains w w refl
      by false = happens_remains (setting limits t) t.event w

-- ---- so what was handed over once, and no more than once, was so for good

-- what was handed over stays so
pub handed_for_good : (c : List ℕ) (limits : Capacity) (ys : List Turn) (v : World) (q r : Receiver) (copy : CopyId) → receiver_named c v ≡ Some q → receiver_named c (run limits ys v) ≡ Some r → handed_count copy q ≡ 1 → handed_count copy r ≤ 1
    → handed_count copy r ≡ 1
handed_for_good c limits ys v q r copy e f one most =
    let x = run_remains c limits ys v q e in
    let both : Some x.0 ≡ Some r = sym x.1 ∙ f in
    let same : x.0 ≡ r = cc in
    let more = x.2.ledger.0 in
    let grown : r.ledger ≡ q.ledger ++ more = ap (λ (z : Receiver). z.ledger) (sym same) ∙ x.2.ledger.1 in
    let all : handed_count copy r ≡ handed_count copy q + count_of copy (copies_in more) =
    ap (λ (es : List Entry). count_of copy (copies_in es)) grown
    ∙ (ap (count_of copy) (filter_map-append (λ (z : Entry). z.copy) q.ledger more) ∙ count_append copy (copies_in q.ledger) (copies_in more)) in
    omega (arith, one, most, all)
