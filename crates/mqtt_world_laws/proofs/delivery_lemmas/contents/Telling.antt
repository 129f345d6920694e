-- A receiver is told of copies that stand in its queue then, and hands over none but those that it was told of (MQTT 5.0, 4.3.3).
use Rattle.std.proofs.Common.{◌≡◌, ℕ, Bool, true, false, cond, List, [], ◌∷◌, ◌++◌, ◌||◌, map, nat_eq, nat_lt, Option, Some, None, bytes_eq, refl, sym, ap, subst, ◌∙◌, inl, inr}
use Rattle.std.specs.Prelude.{⊤, filter_map, find, option_map, if◌then◌else◌}
use Rattle.std.specs.List.{AllByRecursion}
use Rattle.std.proofs.lemmas.Bool.{cases_Bool}
use Rattle.mqtt_base.specs.declared.session.CopyId.{CopyId}
use Rattle.mqtt_packet.specs.declared.codec.packet.Packet.{Packet}
use Rattle.mqtt_packet.specs.declared.codec.packet.Packet.TheVariants as packet
use Rattle.mqtt_packet.specs.declared.codec.publish.Delivery.{Delivery}
use Rattle.mqtt_packet.specs.declared.codec.publish.Delivery.TheVariants as delivery
use Rattle.mqtt_packet.specs.declared.codec.publish.Publish.{Publish as Publication}
use Rattle.mqtt_flow.specs.outbound.Queue.{holder, is_holder}
use Rattle.mqtt_flow.specs.inbound.Line.{Link, asked, away, live}
use Rattle.mqtt_world_model.specs.model.Ends.{Entry, Receiver, entry_of, greeted, hears, reads_publish, receiver_connack, receiver_reads}
use Rattle.mqtt_world_model.specs.model.Laws.{is_copy, standing_in}
use Rattle.mqtt_world_model.specs.model.Lines.{Down, copy_by, copy_in, down_on, left, sent_to}
use Rattle.mqtt_world_model.specs.model.Seats.{Glance, Present, IsHis, absent, closed, connected_at, glance, glance_at, joined, waiting, waits_there}
use Rattle.mqtt_world_model.specs.model.World.{World, receiver_named}
use Rattle.mqtt_world_model.proofs.model_lemmas.others.Names.{named_is}
use Rattle.mqtt_world_model.proofs.model_lemmas.seats.Seats.{kept_of}
use Rattle.mqtt_records.specs.messages.Queue.{CopyRow}
use Rattle.mqtt_records.specs.declared.state.session.Session.{Session}
use Rattle.mqtt_rules.proofs.step_lemmas.numbers.Copies.{each_append}
use Rattle.mqtt_rules.specs.step.State.{Line as BrokerLine, Broker, entry_on, line_at, session_at, session_named}
use Rattle.mqtt_rules.specs.step.Step.{copy_in as copy_of_line, copy_of, copy_of_session, copy_on}
use Rattle.mqtt_world_laws.proofs.acceptance_lemmas.publishers.Ends.{find_receiver}
use Rattle.mqtt_world_laws.proofs.receiver_lemmas.queue.Handed.{copy_itself}
use Rattle.mqtt_world_laws.specs.delivery.HandedOver.{is_among, queued_by}
use Rattle.mqtt_world_laws.specs.delivery.Standing.{IsPlaced, line_like}

-- ---- a copy that has an identifier on a receiver's line stands in its queue

one_here : (x : CopyId) (xs : List CopyId) → is_among (x ∷ xs) x ≡ true
one_here x xs = ap (λ (t : Bool). t || is_among xs x) (copy_itself x)

one_more : (x y : CopyId) (ys : List CopyId) → is_among ys x ≡ true → is_among (y ∷ ys) x ≡ true
one_more x y ys h = by (is_copy x y)
  where
    by : (t : Bool) → (t || is_among ys x) ≡ true
    by true = refl
    by false = h

held_among : (id : ℕ) (went : List ℕ) (rows : List CopyRow) (x : CopyId) → option_map (λ e. e.copy.id) (holder id (map (entry_on went) rows)) ≡ Some x → is_among (map (λ (e : CopyRow). e.copy.id) rows) x ≡ true
held_among id went [] x e = absurd cc
held_among id went (row ∷ rows) x e = elim (cases_Bool (is_holder id row.phase)) [
  | inl here ↦
      let it : Some row.copy.id ≡ Some x = rw here at e in
      let same : row.copy.id ≡ x = cc in
      subst (λ (c : CopyId). is_among (row.copy.id ∷ map (λ (y : CopyRow). y.copy.id) rows) c ≡ true) same (one_here row.copy.id (map (λ (y : CopyRow). y.copy.id) rows))
  | inr further ↦ one_more x row.copy.id (map (λ (y : CopyRow). y.copy.id) rows) (held_among id went rows x (rw further at e))
]

-- on no line, or one without a session, none has
no_copy : (id n : ℕ) (b : Broker) (x : CopyId) → option_map (λ (l : BrokerLine). l.session) (line_at n b) ≡ Some None → copy_of n id b ≡ Some x → ⊥
no_copy id n b x none e = by (line_at n b) none e
  where
    by : (o : Option BrokerLine) → option_map (λ (l : BrokerLine). l.session) o ≡ Some None → copy_on id o b ≡ Some x → ⊥
    by None h k = absurd cc
    by (Some l) h k =
        let is : l.session ≡ None = cc in
        let clash : None ≡ Some x = sym (ap (λ (o : Option ℕ). copy_of_line id l.went o b) is) ∙ k in
        absurd cc

module _ (largest : ℕ) (ids : List CopyId) (ns : List ℕ) (c : List ℕ) (r : Receiver) (b : Broker) (placed : IsPlaced largest ids ns r b) (client : r.client ≡ c) where
  -- of the session that is connected there
  connected_copy : (k birth id : ℕ) (x : CopyId) → placed.birth ≡ Some birth → placed.line ≡ k → connected_at k b.lines ≡ Some (Some birth) → copy_of k id b ≡ Some x → is_among (queued_by (session_named c b.records)) x ≡ true
  connected_copy k birth id x own at there e = by_his placed.birth placed.seat.his own
    where
      by_line : (s : Session) → session_at birth b.records ≡ Some s → (o : Option BrokerLine) → option_map (λ (l : BrokerLine). l.session) o ≡ Some (Some birth) → copy_on id o b ≡ Some x → is_among (standing_in s) x ≡ true
      by_line s found None h k = absurd cc
      by_line s found (Some l) h k =
          let is : l.session ≡ Some birth = cc in
          let its : copy_of_session id l.went (session_at birth b.records) ≡ Some x = sym (ap (λ (o : Option ℕ). copy_of_line id l.went o b) is) ∙ k in
          held_among id l.went s.queue x (sym (ap (copy_of_session id l.went) found) ∙ its)

      by_his : (o : Option ℕ) → IsHis r.client o placed.line b → o ≡ Some birth → is_among (queued_by (session_named c b.records)) x ≡ true
      by_his None his is = absurd cc
      by_his (Some other) his is =
          let y = kept_of r.client other placed.line b his.0 his.1 placed.named.short placed.named.plain in
          let s = y.0 in
          let births : other ≡ birth = cc in
          let found : session_at birth b.records ≡ Some s = ap (λ (m : ℕ). session_at m b.records) (sym (y.1 ∙ births)) ∙ y.2.session in
          let named = named_is r.client s.birth b.records s y.2.only y.2.session y.2.name in
          let is_queue : queued_by (session_named c b.records) ≡ standing_in s = ap (λ (name : List ℕ). queued_by (session_named name b.records)) (sym client) ∙ ap queued_by named in
          subst (λ (all : List CopyId). is_among all x ≡ true) (sym is_queue) (by_line s found (line_at k b) there e)

  -- a copy of which the receiver is told stands in its queue then
  pub copy_stands : (n id : ℕ) (x : CopyId) → r.line.number ≡ Some n → copy_of n id b ≡ Some x → is_among (queued_by (session_named c b.records)) x ≡ true
  copy_stands n id x number e = by placed.seat.present
    where
      same_number : (m : ℕ) → r.line.number ≡ Some m → n ≡ m
      same_number m is = let both : Some n ≡ Some m = sym number ∙ is in cc

      no_line_there : (o : Option BrokerLine) → option_map glance o ≡ None → copy_on id o b ≡ Some x → ⊥
      no_line_there None h k = absurd cc
      no_line_there (Some l) h k = absurd cc

      no_session : (o : Option BrokerLine) → option_map glance o ≡ waits_there → option_map (λ (l : BrokerLine). l.session) o ≡ Some None
      no_session None h = absurd cc
      no_session (Some l) h = let is : glance l ≡ record { session = None; keep_alive = 0 } = cc in ap (λ (g : Glance). Some g.session) is

      by : Present placed.birth placed.line (line_like r.line) b → is_among (queued_by (session_named c b.records)) x ≡ true
      by (absent nothing none) = let clash : None ≡ Some n = sym nothing ∙ number in absurd cc
      by (closed m at none nobody nothing) =
          let gone : option_map glance (line_at n b) ≡ None = ap (λ (k : ℕ). glance_at k b.lines) (same_number m at) ∙ nothing in
          absurd (no_line_there (line_at n b) gone e)
      by (waiting m clean at link_is clean_is connects_ down nobody there) =
          let waits : option_map glance (line_at n b) ≡ waits_there = ap (λ (k : ℕ). glance_at k b.lines) (same_number m at) ∙ there in
          absurd (no_copy id n b x (no_session (line_at n b) waits) e)
      by (joined birth own at there) =
          let same = same_number placed.line at in
          connected_copy n birth id x own (sym same) (ap (λ (k : ℕ). connected_at k b.lines) same ∙ there) e

-- ---- told of these copies alone

module _ (come : List CopyId) where
  abbrev pub IsOne : Option CopyId → Type 0
  IsOne None = ⊤
  IsOne (Some x) = is_among come x ≡ true

  abbrev pub AreOne : List Down → Type 0
  AreOne ds = AllByRecursion (λ (d : Down). IsOne d.copy) ds

-- so of a receiver. Of what it has read of QoS 1 it is said if this is so, as that it had read none at first
module _ (Unread : Type 0) (come : List CopyId) where
  -- what is under way to the receiver, what it was handed, and what it has read of QoS 1, is of these copies
  pub record AreTold (r : Receiver) : Type 0 where
    pub down : AreOne come r.line.down
    pub ledger : AllByRecursion (λ (e : Entry). IsOne come e.copy) r.ledger
    pub once : Unread → AllByRecursion (λ (e : Entry). IsOne come e.copy) r.once

  -- ---- it reads

  told_connack : (link : Link) (present : Bool) (code : ℕ) (r : Receiver) → AreTold r → AreTold (receiver_connack link present code r)
  told_connack away present code r k = k
  told_connack live present code r k = k
  told_connack asked present code r k = by (nat_lt 0 code)
    where
      by : (t : Bool) → AreTold (cond t (record r { line = left (record r.line { clean = false }) }) (record r { line = greeted r.line; asking = false; kept = if present then r.kept else [] }))
      by true = record { down = tt; ledger = k.ledger; once = k.once }
      by false = record { down = k.down; ledger = k.ledger; once = k.once }

  ledger_more : (t : Bool) (e : Entry) (es : List Entry) → IsOne come e.copy → AllByRecursion (λ (e : Entry). IsOne come e.copy) es → AllByRecursion (λ (e : Entry). IsOne come e.copy) (if t then es else es ++ e ∷ [])
  ledger_more true e es one k = k
  ledger_more false e es one k = each_append (λ (x : Entry). IsOne come x.copy) es (e ∷ []) k (one, tt)

  told_publish : (t : Bool) (copy : Option CopyId) (p : Publication) (d : Delivery) (r : Receiver) → IsOne come copy → AreTold r → AreTold (reads_publish t copy p d r)
  told_publish t copy p delivery.AtMostOnce r one k = k
  told_publish t copy p (delivery.AtLeastOnce dup i) r one k = record { down = k.down; ledger = k.ledger; once = λ x. each_append (λ (y : Entry). IsOne come y.copy) r.once (entry_of false copy p ∷ []) (k.once x) (one, tt) }
  told_publish t copy p (delivery.ExactlyOnce dup i) r one k = record { down = k.down; ledger = ledger_more _ _ r.ledger one k.ledger; once = k.once }

  told_packet : (t : Bool) (copy : Option CopyId) (x : Packet) (r : Receiver) → IsOne come copy → AreTold r → AreTold (hears t copy x r)
  told_packet t copy (packet.Connack a) r one k = told_connack r.line.link a.session_present a.reason.0 r k
  told_packet t copy (packet.Publish p) r one k = told_publish t copy p p.delivery r one k
  told_packet t copy (packet.Pubrel a) r one k = record { down = k.down; ledger = k.ledger; once = k.once }
  told_packet t copy (packet.Suback a) r one k = record { down = k.down; ledger = k.ledger; once = k.once }
  told_packet t copy (packet.Disconnect a) r one k = record { down = tt; ledger = k.ledger; once = k.once }
  told_packet t copy x r one k = k

  -- reading hands over none but copies that it was told of
  pub told_reading : (t : Bool) (ds : List Down) (r : Receiver) → AreOne come ds → AreTold r → AreTold (receiver_reads t ds r)
  told_reading t [] r h k = k
  told_reading t (d ∷ rest) r h k = told_packet t d.copy d.packet (record r { line = record r.line { down = rest } }) h.0 (record { down = h.1; ledger = k.ledger; once = k.once })

module _ (come : List CopyId) where
  -- ---- it is told

  one_of : (n id : ℕ) (b : Broker) (o : Option CopyId) → copy_of n id b ≡ o → ((x : CopyId) → copy_of n id b ≡ Some x → is_among come x ≡ true) → IsOne come o
  one_of n id b None e h = tt
  one_of n id b (Some x) e h = h x e

  copy_one : (n : ℕ) (b : Broker) (x : Packet) → ((id : ℕ) (x : CopyId) → copy_of n id b ≡ Some x → is_among come x ≡ true) → IsOne come (copy_in n b x)
  copy_one n b (packet.Publish p) h = by p.delivery
    where
      by : (d : Delivery) → IsOne come (copy_by n b d)
      by delivery.AtMostOnce = tt
      by (delivery.AtLeastOnce dup id) = one_of n id b (copy_of n id b) refl (h id)
      by (delivery.ExactlyOnce dup id) = one_of n id b (copy_of n id b) refl (h id)
  copy_one n b x h = tt

  sent_one : (n : ℕ) (b : Broker) (outputs : List (ℕ × Packet)) → ((id : ℕ) (x : CopyId) → copy_of n id b ≡ Some x → is_among come x ≡ true) → AreOne come (filter_map (down_on n b) outputs)
  sent_one n b [] h = tt
  sent_one n b (x ∷ outputs) h = elim (cases_Bool (nat_eq x.0 n)) [
    | inl here ↦ rw here (copy_one n b x.1 h, sent_one n b outputs h)
    | inr other ↦ rw other (sent_one n b outputs h)
  ]

  -- what the broker sends is of these copies, if those that have identifiers are
  pub sent_ones : (o : Option ℕ) (b : Broker) (outputs : List (ℕ × Packet)) → ((n id : ℕ) (x : CopyId) → o ≡ Some n → copy_of n id b ≡ Some x → is_among come x ≡ true) → AreOne come (sent_to o b outputs)
  sent_ones None b outputs h = tt
  sent_ones (Some n) b outputs h = sent_one n b outputs (λ id x e. h n id x refl e)

-- ---- of a receiver in the world

abbrev pub Each : (Receiver → Type 0) → List ℕ → World → Type 0
Each P c w = (r : Receiver) → receiver_named c w ≡ Some r → P r

-- what holds of the receiver holds behind a change of it
pub each_mapped : (P Q : Receiver → Type 0) (c : List ℕ) (w v : World) (f : Receiver → Receiver) → ((r : Receiver) → (f r).client ≡ r.client) → v.receivers ≡ map f w.receivers
    → ((q : Receiver) → receiver_named c w ≡ Some q → receiver_named c v ≡ Some (f q) → P q → Q (f q)) → Each P c w → Each Q c v
each_mapped P Q c w v f client same keeps h r e = by (receiver_named c w) refl
  where
    found : receiver_named c v ≡ option_map f (receiver_named c w)
    found = ap (find (λ (x : Receiver). bytes_eq x.client c)) same ∙ find_receiver c f client w.receivers

    by : (o : Option Receiver) → receiver_named c w ≡ o → Q r
    by None e0 = let clash : None ≡ Some r = sym (found ∙ ap (option_map f) e0) ∙ e in absurd cc
    by (Some q) e0 =
        let is : receiver_named c v ≡ Some (f q) = found ∙ ap (option_map f) e0 in
        let both : Some (f q) ≡ Some r = sym is ∙ e in
        let its : f q ≡ r = cc in
        subst Q its (keeps q e0 is (h q e0))
