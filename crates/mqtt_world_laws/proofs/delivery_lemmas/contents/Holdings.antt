-- What holds of each PUBLISH of QoS 1 or 2 that a receiver has read, and of each under way to it, holds on: whatever happens but a turn of
-- sending, nothing more comes (MQTT 5.0, 4.3).
use Rattle.std.proofs.Common.{◌≡◌, ℕ, zero, suc, Bool, true, false, cond, List, [], ◌∷◌, ◌++◌, find, map, Option, Some, None, bytes_eq, nat_eq, nat_lt, refl, sym, ap, subst, ◌∙◌, inl, inr}
use Rattle.std.specs.Prelude.{⊤, Err, Ok, filter_map, if◌then◌else◌, is_some, option_map}
use Rattle.std.specs.List.{AllByRecursion, cons_option}
use Rattle.std.proofs.lemmas.Bool.{cases_Bool}
use Rattle.std.proofs.lemmas.List.Elements.{filter_map-append}
use Rattle.mqtt_base.specs.declared.session.CopyId.{CopyId}
use Rattle.mqtt_packet.specs.declared.codec.packet.Packet.{Packet}
use Rattle.mqtt_packet.specs.declared.codec.packet.Packet.TheVariants as packet
use Rattle.mqtt_packet.specs.declared.codec.publish.Delivery.{Delivery}
use Rattle.mqtt_packet.specs.declared.codec.publish.Delivery.TheVariants as delivery
use Rattle.mqtt_packet.specs.declared.codec.publish.Publish.{Publish as Publication}
use Rattle.mqtt_flow.specs.inbound.Line.{Link, asked, away, live}
use Rattle.mqtt_world_model.specs.model.Ends.{Back, Entry, Receiver, answers, entry_of, greeted, hears, new_receiver, receiver_connack, receiver_reads, reads_publish}
use Rattle.mqtt_world_model.specs.model.Lines.{Down, Line, copy_in, down_on, gives_up, joined, left, sent_to, stands}
use Rattle.mqtt_world_model.specs.model.World.{Asking, Event, Setting, Stranger, World, call_on, answers_rest, ask, asks, asks_wish, before, break, call_of, call_of_stranger, calls, calls_if, clock, comes, connect_end, first_step, give_up, happens, held_count, input_on, linked_at, links, lost_on, next_held, next_line, old_to_broker, publish, publisher, pump, receiver, receiver_named, receiver_restarted, receiver_told, restart, restarts, stop_after, stop_before, stranger, stranger_named, subscribe, taken_old, taken_up, tick, to_broker, to_end, view_of}
use Rattle.mqtt_flow.specs.outbound.Receiver.{connect}
use Rattle.mqtt_rules.proofs.step_lemmas.numbers.Copies.{each_append}
use Rattle.mqtt_rules.specs.step.Deeds.{Deed, Send, output}
use Rattle.mqtt_packet.specs.parts.Faults.{answer_to}
use Rattle.mqtt_packet.specs.stream.Front.{first_of}
use Rattle.mqtt_rules.specs.step.Piece.{Front, begins_connect, call_by, code_of}
use Rattle.mqtt_rules.specs.step.State.{Broker}
use Rattle.mqtt_rules.specs.step.Step.{BadInput, Call, Input, Lost, NewLine, Tick, deeds, stepped, told}
use Rattle.mqtt_world_laws.proofs.acceptance_lemmas.publishers.Ends.{find_first, find_last, find_no_more, find_receiver, only_receiver}
use Rattle.mqtt_world_laws.proofs.delivery_lemmas.others.Around.{on_back}
use Rattle.mqtt_world_laws.proofs.delivery_lemmas.others.Like.{moves_reading}
use Rattle.mqtt_world_laws.proofs.delivery_lemmas.taken.Plain.{IsNoCopy, IsSilent, IsUntold, SendsNone, silent_deeds}
use Rattle.mqtt_world_laws.proofs.delivery_lemmas.contents.WayTags.{delivery_entry, way_entries, way_entry}

-- ---- a call that sends no copy puts none on a line

no_entry : (copy : Option CopyId) (x : Packet) → IsNoCopy x → way_entry (record { packet = x; copy = copy }) ≡ None
no_entry copy (packet.Publish p) h = by p.delivery h
  where
    by : (d : Delivery) → IsUntold d → delivery_entry copy p d ≡ None
    by delivery.AtMostOnce h = refl
    by (delivery.AtLeastOnce dup i) h = absurd h
    by (delivery.ExactlyOnce dup i) h = absurd h
no_entry copy x h = refl

one_silent : (n m : ℕ) (b : Broker) (x : Packet) (ds : List Down) → IsNoCopy x → way_entries ds ≡ [] → way_entries (cons_option (down_on n b (m, x)) ds) ≡ []
one_silent n m b x ds h none = by (nat_eq m n)
  where
    by : (t : Bool) → way_entries (cons_option (cond t (Some (record { packet = x; copy = copy_in n b x })) None) ds) ≡ []
    by true = ap (λ (o : Option Entry). cons_option o (way_entries ds)) (no_entry (copy_in n b x) x h) ∙ none
    by false = none

silent_way : (n : ℕ) (b : Broker) (ds : List Deed) → AllByRecursion IsSilent ds → way_entries (sent_to (Some n) b (filter_map output ds)) ≡ []
silent_way n b [] h = refl
silent_way n b (Send m x ∷ ds) h = one_silent n m b x (sent_to (Some n) b (filter_map output ds)) h.0 (silent_way n b ds h.1)
silent_way n b (d ∷ ds) h = silent_way n b ds h.1

silent_sent : (o : Option ℕ) (b : Broker) (ds : List Deed) → AllByRecursion IsSilent ds → way_entries (sent_to o b (filter_map output ds)) ≡ []
silent_sent None b ds h = refl
silent_sent (Some n) b ds h = silent_way n b ds h

-- ---- no turn of sending

abbrev pub IsNoPump : Asking → Type 0
IsNoPump (pump d) = ⊥
IsNoPump a = ⊤

abbrev pub IsNoTurn : Event → Type 0
IsNoTurn (ask a) = IsNoPump a
IsNoTurn x = ⊤

-- ---- of one receiver

module _ (P : Entry → Type 0) where
  -- of what it has read
  pub record HasRead (r : Receiver) : Type 0 where
    pub ledger : AllByRecursion P r.ledger
    pub once : AllByRecursion P r.once

  -- this holds of each PUBLISH that the receiver has read, and of each under way to it
  pub record Holds (r : Receiver) : Type 0 where
    pub read : HasRead r
    pub way : AllByRecursion P (way_entries r.line.down)

  abbrev pub EachHolds : Option Receiver → Type 0
  EachHolds None = ⊤
  EachHolds (Some r) = Holds r

  abbrev EachRead : Option Receiver → Type 0
  EachRead None = ⊤
  EachRead (Some r) = HasRead r

  -- with the same ledger, and the same under way or nothing
  as_read : (q r : Receiver) → r.ledger ≡ q.ledger → r.once ≡ q.once → HasRead q → HasRead r
  as_read q r e f h = record { ledger = subst (AllByRecursion P) (sym e) h.ledger; once = subst (AllByRecursion P) (sym f) h.once }

  same_way : (f : Receiver → Receiver) (r : Receiver) → (f r).ledger ≡ r.ledger → (f r).once ≡ r.once → (f r).line.down ≡ r.line.down → Holds r → Holds (f r)
  same_way f r e g d h = record { read = as_read r (f r) e g h.read; way = subst (λ (ds : List Down). AllByRecursion P (way_entries ds)) (sym d) h.way }

  no_way : (f : Receiver → Receiver) (r : Receiver) → (f r).ledger ≡ r.ledger → (f r).once ≡ r.once → (f r).line.down ≡ [] → HasRead r → Holds (f r)
  no_way f r e g d h = record { read = as_read r (f r) e g h; way = subst (λ (ds : List Down). AllByRecursion P (way_entries ds)) (sym d) tt }

  -- ---- it reads the first packet

  read_rest : (copy : Option CopyId) (x : Packet) (rest : List Down) → AllByRecursion P (way_entries (record { packet = x; copy = copy } ∷ rest)) → AllByRecursion P (way_entries rest)
  read_rest copy (packet.Publish p) rest h = by p.delivery h
    where
      by : (d : Delivery) → AllByRecursion P (cons_option (delivery_entry copy p d) (way_entries rest)) → AllByRecursion P (way_entries rest)
      by delivery.AtMostOnce h = h
      by (delivery.AtLeastOnce dup i) h = h.1
      by (delivery.ExactlyOnce dup i) h = h.1
  read_rest copy x rest h = h

  or_more : (t : Bool) (es : List Entry) (e : Entry) → P e → AllByRecursion P es → AllByRecursion P (if t then es else es ++ e ∷ [])
  or_more true es e q h = h
  or_more false es e q h = each_append P es (e ∷ []) h (q, tt)

  reads_delivery : (t : Bool) (copy : Option CopyId) (p : Publication) (d : Delivery) (rest : List Down) (r : Receiver) → HasRead r
      → AllByRecursion P (cons_option (delivery_entry copy p d) (way_entries rest))
      → Holds (reads_publish t copy p d (record r { line = record r.line { down = rest } }))
  reads_delivery t copy p delivery.AtMostOnce rest r h way = record { read = record { ledger = h.ledger; once = h.once }; way = way }
  reads_delivery t copy p (delivery.AtLeastOnce dup i) rest r h way = record { read = record { ledger = h.ledger; once = each_append P r.once (entry_of false copy p ∷ []) h.once (way.0, tt) }; way = way.1 }
  reads_delivery t copy p (delivery.ExactlyOnce dup i) rest r h way = record { read = record { ledger = or_more _ r.ledger (entry_of true copy p) way.0 h.ledger; once = h.once }; way = way.1 }

  reads_connack : (link : Link) (present : Bool) (code : ℕ) (r : Receiver) → Holds r → Holds (receiver_connack link present code r)
  reads_connack away present code r h = h
  reads_connack live present code r h = h
  reads_connack asked present code r h = by (nat_lt 0 code)
    where
      by : (t : Bool) → Holds (cond t (record r { line = left (record r.line { clean = false }) }) (record r { line = greeted r.line; asking = false; kept = if present then r.kept else [] }))
      by true = record { read = record { ledger = h.read.ledger; once = h.read.once }; way = tt }
      by false = record { read = record { ledger = h.read.ledger; once = h.read.once }; way = h.way }

  hears_packet : (t : Bool) (copy : Option CopyId) (x : Packet) (rest : List Down) (r : Receiver) → HasRead r → AllByRecursion P (way_entries (record { packet = x; copy = copy } ∷ rest)) → Holds (hears t copy x (record r { line = record r.line { down = rest } }))
  hears_packet t copy (packet.Connack a) rest r h way = reads_connack r.line.link a.session_present a.reason.0 (record r { line = record r.line { down = rest } }) (record { read = record { ledger = h.ledger; once = h.once }; way = way })
  hears_packet t copy (packet.Publish p) rest r h way = reads_delivery t copy p p.delivery rest r h way
  hears_packet t copy (packet.Pubrel a) rest r h way = record { read = record { ledger = h.ledger; once = h.once }; way = way }
  hears_packet t copy (packet.Suback a) rest r h way = record { read = record { ledger = h.ledger; once = h.once }; way = way }
  hears_packet t copy (packet.Disconnect a) rest r h way = record { read = record { ledger = h.ledger; once = h.once }; way = tt }
  hears_packet t copy x rest r h way = record { read = record { ledger = h.ledger; once = h.once }; way = read_rest copy x rest way }

  reads_first : (t : Bool) (ds : List Down) (r : Receiver) → HasRead r → AllByRecursion P (way_entries ds) → Holds r → Holds (receiver_reads t ds r)
  reads_first t [] r h way all = all
  reads_first t (d ∷ rest) r h way all = hears_packet t d.copy d.packet rest r h way

  -- ---- the receiver of a name

  module _ (c : List ℕ) where
    abbrev pub In : World → Type 0
    In w = EachHolds (receiver_named c w)

    abbrev ReadIn : World → Type 0
    ReadIn w = EachRead (receiver_named c w)

    read_in : (w : World) → In w → ReadIn w
    read_in w h = by (receiver_named c w) h
      where
        by : (o : Option Receiver) → EachHolds o → EachRead o
        by None h = tt
        by (Some r) h = h.read

    mapped : (Q R : Receiver → Type 0) (QO RO : Option Receiver → Type 0) → ((o : Option Receiver) (f : Receiver → Receiver) → ((r : Receiver) → Q r → R (f r)) → QO o → RO (option_map f o)) → (w v : World) (f : Receiver → Receiver)
        → ((r : Receiver) → (f r).client ≡ r.client) → ((r : Receiver) → Q r → R (f r)) → v.receivers ≡ map f w.receivers → QO (receiver_named c w) → RO (receiver_named c v)
    mapped Q R QO RO each w v f client keeps same h =
        subst RO (sym (ap (find (λ (r : Receiver). bytes_eq r.client c)) same ∙ find_receiver c f client w.receivers)) (each (receiver_named c w) f keeps h)

    each_held : (o : Option Receiver) (f : Receiver → Receiver) → ((r : Receiver) → Holds r → Holds (f r)) → EachHolds o → EachHolds (option_map f o)
    each_held None f k h = tt
    each_held (Some r) f k h = k r h

    each_read : (o : Option Receiver) (f : Receiver → Receiver) → ((r : Receiver) → HasRead r → HasRead (f r)) → EachRead o → EachRead (option_map f o)
    each_read None f k h = tt
    each_read (Some r) f k h = k r h

    each_cleared : (o : Option Receiver) (f : Receiver → Receiver) → ((r : Receiver) → HasRead r → Holds (f r)) → EachRead o → EachHolds (option_map f o)
    each_cleared None f k h = tt
    each_cleared (Some r) f k h = k r h

    held_on : (w v : World) (f : Receiver → Receiver) → ((r : Receiver) → (f r).client ≡ r.client) → ((r : Receiver) → Holds r → Holds (f r)) → v.receivers ≡ map f w.receivers → In w → In v
    held_on w v f client keeps same h = mapped Holds Holds EachHolds EachHolds each_held w v f client keeps same h

    one_on : (d : List ℕ) (g : Receiver → Receiver) (w v : World) → ((r : Receiver) → (g r).client ≡ r.client) → ((r : Receiver) → Holds r → Holds (g r)) → v.receivers ≡ map (λ r. cond (bytes_eq r.client d) (g r) r) w.receivers → In w → In v
    one_on d g w v client keeps same h = held_on w v (λ r. cond (bytes_eq r.client d) (g r) r) (λ r. only_receiver (bytes_eq r.client d) g r (client r)) (λ r q. by (bytes_eq r.client d) r q) same h
      where
        by : (t : Bool) (r : Receiver) → Holds r → Holds (cond t (g r) r)
        by true r q = keeps r q
        by false r q = q

    -- ---- calls

    calls_hold : (set : Setting) (call : Call) (w : World) → SendsNone call → In w → In (calls set call w)
    calls_hold set call w none h =
        let b = stepped set.limits set.choice w.now call w.broker in
        let out = told set.limits set.choice w.now call w.broker in
        let ds = deeds set.limits set.choice w.now call w.broker in
        held_on w (calls set call w) (receiver_told b out) (λ r. refl) (λ r q.
        record {
          read = record { ledger = q.read.ledger; once = q.read.once };
          way = subst (AllByRecursion P) (sym (filter_map-append way_entry r.line.down (sent_to r.line.number b out.outputs)))
              (each_append P (way_entries r.line.down) (way_entries (sent_to r.line.number b out.outputs)) q.way (subst (AllByRecursion P) (sym (silent_sent r.line.number b ds (silent_deeds set.limits set.choice w.now call w.broker none))) tt));
        }) refl h

    -- whatever it sends
    calls_read : (set : Setting) (call : Call) (w : World) → ReadIn w → ReadIn (calls set call w)
    calls_read set call w h =
        let b = stepped set.limits set.choice w.now call w.broker in
        let out = told set.limits set.choice w.now call w.broker in
        mapped HasRead HasRead EachRead EachRead each_read w (calls set call w) (receiver_told b out) (λ r. refl) (λ r q. record { ledger = q.ledger; once = q.once }) refl h

    if_hold : (set : Setting) (o : Option Call) (w : World) → ((x : Call) → o ≡ Some x → SendsNone x) → In w → In (calls_if set o w)
    if_hold set None w none h = h
    if_hold set (Some call) w none h = calls_hold set call w (none call refl) h

    if_read : (set : Setting) (o : Option Call) (w : World) → ReadIn w → ReadIn (calls_if set o w)
    if_read set None w h = h
    if_read set (Some call) w h = calls_read set call w h

    restarts_hold : (set : Setting) (w : World) → ReadIn w → In (restarts set w)
    restarts_hold set w h = mapped HasRead Holds EachRead EachHolds each_cleared w (restarts set w) receiver_restarted (λ r. refl) (λ r q. no_way receiver_restarted r refl refl refl q) refl h

    line_on : (d : List ℕ) (g : Line Back → Line Back) (w v : World) → ((l : Line Back) → (g l).down ≡ l.down) → v.receivers ≡ map (λ r. cond (bytes_eq r.client d) (on_back g r) r) w.receivers → In w → In v
    line_on d g w v down same h = one_on d (on_back g) w v (λ r. refl) (λ r q. same_way (on_back g) r refl refl (down r.line) q) same h

    line_off : (d : List ℕ) (g : Line Back → Line Back) (w v : World) → ((l : Line Back) → (g l).down ≡ []) → v.receivers ≡ map (λ r. cond (bytes_eq r.client d) (on_back g r) r) w.receivers → In w → In v
    line_off d g w v down same h = one_on d (on_back g) w v (λ r. refl) (λ r q. no_way (on_back g) r refl refl (down r.line) q.read) same h

    -- ---- what is asked for

    comes_hold : (set : Setting) (name bytes : List ℕ) (w : World) → In w → In (comes set name bytes w)
    comes_hold set name bytes w h = by (is_some (stranger_named name w))
      where
        by : (t : Bool) → In (linked_at set t name bytes w)
        by true = h
        by false = calls_hold set NewLine w tt h

    before_hold : (set : Setting) (a : Asking) (w : World) → In w → In (before set a w)
    before_hold set (to_broker d) w h = line_on d taken_up w (before set (to_broker d) w) (λ l. refl) refl h
    before_hold set (old_to_broker d) w h = line_on d taken_old w (before set (old_to_broker d) w) (λ l. refl) refl h
    before_hold set (break d) w h = h
    before_hold set (pump d) w h = h
    before_hold set tick w h = h
    before_hold set (stranger name bytes) w h = comes_hold set name bytes w h

    input_sends : (o : Option ℕ) (ps : List Packet) (x : Call) → input_on o ps ≡ Some x → SendsNone x
    input_sends None ps x is = absurd cc
    input_sends (Some n) [] x is = absurd cc
    input_sends (Some n) (p ∷ ps) x is = let it : Input n p ≡ x = cc in subst SendsNone it tt

    lost_sends : (o : Option ℕ) (x : Call) → lost_on o ≡ Some x → SendsNone x
    lost_sends None x is = absurd cc
    lost_sends (Some n) x is = let it : Lost n ≡ x = cc in subst SendsNone it tt

    front_sends : (n : ℕ) (bytes : List ℕ) (f : Front) (x : Call) → call_by n bytes f ≡ Some x → SendsNone x
    front_sends n bytes (Ok None) x is = absurd cc
    front_sends n bytes (Ok (Some y)) x is = let it : Input n y.0 ≡ x = cc in subst SendsNone it tt
    front_sends n bytes (Err fault) x is = let it : BadInput n (begins_connect bytes) (code_of (answer_to fault)) ≡ x = cc in subst SendsNone it tt

    stranger_sends : (name : List ℕ) (v : World) (x : Call) → call_of_stranger (stranger_named name v) ≡ Some x → SendsNone x
    stranger_sends name v x is = by (stranger_named name v) is
      where
        on : (o : Option ℕ) (bytes : List ℕ) → call_on o bytes ≡ Some x → SendsNone x
        on None bytes is = absurd cc
        on (Some n) bytes is = front_sends n bytes (first_of bytes) x is

        by : (o : Option Stranger) → call_of_stranger o ≡ Some x → SendsNone x
        by None is = absurd cc
        by (Some s) is = on s.number s.held is

    rest_hold : (set : Setting) (more : ℕ) (name : List ℕ) (w : World) → In w → In (answers_rest set more name w)
    rest_hold set zero name w h = h
    rest_hold set (suc more) name w h =
        let call = call_of_stranger (stranger_named name w) in
        let u = next_held name w in
        rest_hold set more name (calls_if set call u) (if_hold set call u (λ x is. stranger_sends name w x is) h)

    asks_hold : (set : Setting) (a : Asking) (w : World) → IsNoPump a → In w → In (asks set a w)
    asks_hold set (to_broker d) w none h = if_hold set (call_of set (to_broker d) w) (before set (to_broker d) w) (λ x is. input_sends (view_of d w).number (view_of d w).up x is) (before_hold set (to_broker d) w h)
    asks_hold set (old_to_broker d) w none h = if_hold set (call_of set (old_to_broker d) w) (before set (old_to_broker d) w) (λ x is. input_sends (view_of d w).old_number (view_of d w).old x is) (before_hold set (old_to_broker d) w h)
    asks_hold set (break d) w none h =
        let v = first_step set (break d) w in
        line_off d left v (asks set (break d) w) (λ l. refl) refl (if_hold set (lost_on (view_of d w).number) w (λ x is. lost_sends (view_of d w).number x is) h)
    asks_hold set (pump d) w none h = absurd none
    asks_hold set tick w none h = calls_hold set Tick w tt h
    asks_hold set (stranger name bytes) w none h =
        let v = comes set name bytes w in
        rest_hold set (held_count (stranger_named name v)) name v (comes_hold set name bytes w h)

    first_read : (set : Setting) (a : Asking) (w : World) → In w → ReadIn (first_step set a w)
    first_read set a w h = if_read set (call_of set a w) (before set a w) (read_in (before set a w) (before_hold set a w h))

    links_hold : (set : Setting) (o : Option ℕ) (d : List ℕ) (clean : Bool) (w : World) → In w → In (links set o d clean w)
    links_hold set None d clean w h = h
    links_hold set (Some n) d clean w h = line_off d (λ l. joined (answers (connect clean)) n clean l) (calls set NewLine w) (links set (Some n) d clean w) (λ l. refl) refl (calls_hold set NewLine w tt h)

    -- ---- what happens

    gives_on : (r : Receiver) → Holds r → Holds (on_back (λ l. gives_up l.link l) r)
    gives_on r h = by r.line.link
      where
        by : (link : Link) → Holds (record r { line = gives_up link r.line })
        by away = record { read = record { ledger = h.read.ledger; once = h.read.once }; way = h.way }
        by asked = record { read = record { ledger = h.read.ledger; once = h.read.once }; way = tt }
        by live = record { read = record { ledger = h.read.ledger; once = h.read.once }; way = tt }

    receiver_holds : (d : List ℕ) (window aliases : ℕ) (set : Setting) (w : World) → In w → In (happens set (receiver d window aliases) w)
    receiver_holds d window aliases set w h = by (receiver_named c w) refl h
      where
        new : Receiver
        new = new_receiver d window aliases w.broker.records.births

        test : Receiver → Bool
        test r = bytes_eq r.client c

        by : (o : Option Receiver) → receiver_named c w ≡ o → EachHolds o → In (happens set (receiver d window aliases) w)
        by (Some r) e k = subst EachHolds (sym (find_first test new r w.receivers e)) k
        by None e k = elim (cases_Bool (bytes_eq d c)) [
          | inl its ↦ subst EachHolds (sym (find_last test new w.receivers its e)) (record { read = record { ledger = tt; once = tt }; way = tt })
          | inr other ↦ subst EachHolds (sym (find_no_more test new w.receivers other ∙ e)) tt
        ]

    -- what holds of each such PUBLISH does after any event but a turn of sending
    pub happens_hold : (set : Setting) (x : Event) (w : World) → IsNoTurn x → In w → In (happens set x w)
    happens_hold set (publisher d) w none h = h
    happens_hold set (receiver d window aliases) w none h = receiver_holds d window aliases set w h
    happens_hold set (connect_end d clean) w none h = links_hold set (next_line set.limits w.broker) d clean w h
    happens_hold set (give_up d) w none h = one_on d (on_back (λ l. gives_up l.link l)) w (happens set (give_up d) w) (λ r. refl) gives_on refl h
    happens_hold set (publish d x) w none h = h
    happens_hold set (subscribe d x) w none h = one_on d (λ r. asks_wish (stands r.line.number w.broker) x r) w (happens set (subscribe d x) w) (λ r. refl) (λ r q. same_way (asks_wish (stands r.line.number w.broker) x) r refl refl refl q) refl h
    happens_hold set (to_end d) w none h =
        one_on d (λ r. receiver_reads (stands r.line.number w.broker) r.line.down r) w (happens set (to_end d) w) (λ r. (moves_reading (stands r.line.number w.broker) r.line.down r).client)
        (λ r q. reads_first (stands r.line.number w.broker) r.line.down r q.read q.way q) refl h
    happens_hold set (clock wait) w none h = h
    happens_hold set (ask a) w none h = asks_hold set a w none h
    happens_hold set restart w none h = restarts_hold set w (read_in w h)
    happens_hold set (stop_before a) w none h = restarts_hold set (before set a w) (read_in (before set a w) (before_hold set a w h))
    happens_hold set (stop_after a) w none h = restarts_hold set (first_step set a w) (first_read set a w h)
