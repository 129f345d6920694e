-- What is under way to a receiver, and is of a copy that stands in its queue, carries that copy's topic and payload; and what a step
-- puts out is of such copies (MQTT 5.0, 3.3.2, 3.3.3, 4.3).
use Rattle.std.proofs.Common.{◌≡◌, ℕ, Bool, true, false, cond, List, [], ◌∷◌, map, Option, Some, None, nat_eq, refl, sym, ap, subst, ◌∙◌, inl, inr}
use Rattle.std.specs.Prelude.{⊤, filter_map, option_map}
use Rattle.std.specs.List.{AllByRecursion, cons_option}
use Rattle.std.proofs.lemmas.Bool.{cases_Bool, eqb-true}
use Rattle.mqtt_base.specs.declared.session.CopyId.{CopyId}
use Rattle.mqtt_packet.specs.declared.codec.packet.Packet.{Packet}
use Rattle.mqtt_packet.specs.declared.codec.packet.Packet.TheVariants as packets
use Rattle.mqtt_packet.specs.declared.codec.publish.Delivery.{Delivery}
use Rattle.mqtt_packet.specs.declared.codec.publish.Delivery.TheVariants as delivery
use Rattle.mqtt_packet.specs.declared.codec.publish.Publish.{Publish as Publication}
use Rattle.mqtt_flow.specs.outbound.OutboundWorld.{Lot, start}
use Rattle.mqtt_flow.specs.outbound.Queue.{holder, is_holder}
use Rattle.mqtt_flow.specs.outbound.Receiver.{Output}
use Rattle.mqtt_records.specs.messages.Queue.{CopyRow}
use Rattle.mqtt_records.specs.state.Session.{birth_of}
use Rattle.mqtt_records.specs.declared.state.session.Session.{Session}
use Rattle.mqtt_world_model.specs.model.Ends.{Entry, Receiver, entry_of}
use Rattle.mqtt_world_model.specs.model.Hops.{IsIts, IsOurs}
use Rattle.mqtt_world_model.specs.model.Lines.{Down, copy_by, copy_in, is_one_of, sent_to}
use Rattle.mqtt_world_model.proofs.model_lemmas.others.Lists.{all_find}
use Rattle.mqtt_world_model.proofs.model_lemmas.others.Names.{named_is}
use Rattle.mqtt_rules.proofs.step_lemmas.numbers.Copies.{each_more}
use Rattle.mqtt_rules.proofs.step_lemmas.flight.FlightRows.{all_at, found_key}
use Rattle.mqtt_rules.specs.step.Laws.{IsAmong}
use Rattle.mqtt_rules.specs.step.State.{Broker, Line, entry_on, line_at, session_at, session_named}
use Rattle.mqtt_rules.specs.step.Step.{copy_in as copy_there, copy_of, copy_of_session, copy_on}
use Rattle.mqtt_world_laws.specs.receiver.Handing.{IsOf, IsRun}
use Rattle.mqtt_world_laws.specs.receiver.Own.{IsFreeLine}
use Rattle.mqtt_world_laws.specs.receiver.Seen.{Numbering, heard, heard_in, publish_heard}
use Rattle.mqtt_world_laws.specs.receiver.Served.{IsOwnLine}
use Rattle.mqtt_world_laws.specs.receiver.Tags.{IsTagged, IsTaggedBy, IsTaggedWith, id_of}
use Rattle.mqtt_world_laws.specs.delivery.HandedOver.{CarryQueued}
use Rattle.mqtt_world_laws.specs.delivery.Standing.{GoesAlong, IsPlaced}
use Rattle.mqtt_world_laws.proofs.delivery_lemmas.others.Outside.{lines_of}
use Rattle.mqtt_world_laws.proofs.delivery_lemmas.contents.QueueContents.{carry_queued}
use Rattle.mqtt_world_laws.proofs.delivery_lemmas.contents.WayBodies.{AllSay, SaysOf, run_says}

-- ---- a PUBLISH of QoS 1 or 2 under way, as the receiver has read it then

abbrev pub delivery_entry : Option CopyId → Publication → Delivery → Option Entry
delivery_entry copy p delivery.AtMostOnce = None
delivery_entry copy p (delivery.AtLeastOnce dup i) = Some (entry_of false copy p)
delivery_entry copy p (delivery.ExactlyOnce dup i) = Some (entry_of true copy p)

abbrev pub packet_entry : Option CopyId → Packet → Option Entry
packet_entry copy (packets.Publish p) = delivery_entry copy p p.delivery
packet_entry copy packet = None

abbrev pub way_entry : Down → Option Entry
way_entry d = packet_entry d.copy d.packet

abbrev pub way_entries : List Down → List Entry
way_entries ds = filter_map way_entry ds

-- ---- it is of a copy that entered, with its topic and payload

module _ (number : Numbering) (lots : List Lot) where
  abbrev SaidIf : Option Output → Type 0
  SaidIf None = ⊤
  SaidIf (Some p) = SaysOf lots p

  abbrev IsOfIf : Option Entry → Type 0
  IsOfIf None = ⊤
  IsOfIf (Some e) = IsOf number lots e

  delivery_of : (copy : Option CopyId) (p : Publication) (d : Delivery) → IsTaggedBy number (map id_of lots) copy d → SaidIf (publish_heard number copy p d) → IsOfIf (delivery_entry copy p d)
  delivery_of copy p delivery.AtMostOnce t h = tt
  delivery_of None p (delivery.AtLeastOnce dup i) t h = absurd t
  delivery_of None p (delivery.ExactlyOnce dup i) t h = absurd t
  delivery_of (Some c) p (delivery.AtLeastOnce dup i) t h = (c, refl, h)
  delivery_of (Some c) p (delivery.ExactlyOnce dup i) t h = (c, refl, h)

  packet_of : (copy : Option CopyId) (packet : Packet) → IsTaggedWith number (map id_of lots) copy packet → SaidIf (heard number copy packet) → IsOfIf (packet_entry copy packet)
  packet_of copy (packets.Publish p) t h = delivery_of copy p p.delivery t h
  packet_of copy packet t h = tt

  first_said : (o : Option Output) (ps : List Output) → AllSay lots (cons_option o ps) → SaidIf o × AllSay lots ps
  first_said None ps h = (tt, h)
  first_said (Some p) ps h = h

  both_of : (o : Option Entry) (es : List Entry) → IsOfIf o → AllByRecursion (IsOf number lots) es → AllByRecursion (IsOf number lots) (cons_option o es)
  both_of None es p q = q
  both_of (Some e) es p q = (p, q)

  way_all : (ds : List Down) → AllByRecursion (IsTagged number (map id_of lots)) ds → AllSay lots (filter_map (heard_in number) ds) → AllByRecursion (IsOf number lots) (way_entries ds)
  way_all [] t h = tt
  way_all (d ∷ ds) t h =
      let both = first_said (heard_in number d) (filter_map (heard_in number) ds) h in
      both_of (way_entry d) (way_entries ds) (packet_of d.copy d.packet t.0 both.0) (way_all ds t.1 both.1)

-- so what is under way of the copies in its queue carries their topic and payload
pub way_carries : (number : Numbering) (largest : ℕ) (lots : List Lot) (r : Receiver) (b : Broker) → IsRun number largest lots r b → CarryQueued (session_named r.client b.records) (way_entries r.line.down)
way_carries number largest lots r b h =
    let says : AllSay lots (filter_map (heard_in number) r.line.down) = subst (λ w. AllSay w.copies w.down) (sym h.seen_is) (run_says largest h.events start tt) in
    carry_queued number lots h.numbered (session_named r.client b.records) b (way_entries r.line.down) h.queue_is (way_all number lots r.line.down h.tagged.down says)

-- ---- what a step puts out on a line is of copies in the queue of the session that is connected there

-- one of the queue has this identity
pub record IsQueued (c : CopyId) (queue : List CopyRow) : Type 0 where
  pub row : CopyRow
  pub among : IsAmong row queue
  pub id_is : row.copy.id ≡ c

held : (i : ℕ) (went : List ℕ) (queue : List CopyRow) (c : CopyId) → option_map (λ e. e.copy.id) (holder i (map (entry_on went) queue)) ≡ Some c → IsQueued c queue
held i went [] c h = absurd cc
held i went (row ∷ queue) c h = elim (cases_Bool (is_holder i row.phase)) [
  | inl its ↦ let both : Some row.copy.id ≡ Some c = rw its at h in record { row = row; among = inl refl; id_is = cc }
  | inr other ↦ let x = held i went queue c (rw other at h) in record { row = x.row; among = inr x.among; id_is = x.id_is }
]

-- of the session that is connected on the line of this number
pub record IsThere (n : ℕ) (c : CopyId) (b : Broker) : Type 0 where
  pub line : Line
  pub birth : ℕ
  pub session : Session
  pub at : line_at n b ≡ Some line
  pub on : line.session ≡ Some birth
  pub there : session_at birth b.records ≡ Some session
  pub queued : IsQueued c session.queue

tagged : (n id : ℕ) (c : CopyId) (b : Broker) → copy_of n id b ≡ Some c → IsThere n c b
tagged n id c b h = by (line_at n b) refl h
  where
    of_session : (l : Line) (birth : ℕ) (o : Option Session) → line_at n b ≡ Some l → l.session ≡ Some birth → session_at birth b.records ≡ o → copy_of_session id l.went o ≡ Some c → IsThere n c b
    of_session l birth None at on there h = absurd cc
    of_session l birth (Some s) at on there h = record { line = l; birth = birth; session = s; at = at; on = on; there = there; queued = held id l.went s.queue c h }

    on_its : (l : Line) (o : Option ℕ) → line_at n b ≡ Some l → l.session ≡ o → copy_there id l.went o b ≡ Some c → IsThere n c b
    on_its l None at on h = absurd cc
    on_its l (Some birth) at on h = of_session l birth (session_at birth b.records) at on refl h

    by : (o : Option Line) → line_at n b ≡ o → copy_on id o b ≡ Some c → IsThere n c b
    by None at h = absurd cc
    by (Some l) at h = on_its l l.session at refl h

abbrev pub TagStands : ℕ → Broker → Entry → Type 0
TagStands n b e = (c : CopyId) → e.copy ≡ Some c → IsThere n c b

abbrev TagsIf : ℕ → Broker → Option Entry → Type 0
TagsIf n b None = ⊤
TagsIf n b (Some e) = TagStands n b e

delivery_tags : (n : ℕ) (b : Broker) (p : Publication) (d : Delivery) → TagsIf n b (delivery_entry (copy_by n b d) p d)
delivery_tags n b p delivery.AtMostOnce = tt
delivery_tags n b p (delivery.AtLeastOnce dup i) = λ c is. tagged n i c b is
delivery_tags n b p (delivery.ExactlyOnce dup i) = λ c is. tagged n i c b is

packet_tags : (n : ℕ) (b : Broker) (packet : Packet) → TagsIf n b (packet_entry (copy_in n b packet) packet)
packet_tags n b (packets.Publish p) = delivery_tags n b p p.delivery
packet_tags n b packet = tt

both_tag : (n : ℕ) (b : Broker) (o : Option Entry) (es : List Entry) → TagsIf n b o → AllByRecursion (TagStands n b) es → AllByRecursion (TagStands n b) (cons_option o es)
both_tag n b None es p q = q
both_tag n b (Some e) es p q = (p, q)

-- what goes down a line is tagged with a copy that stands
pub tags_stand : (n : ℕ) (b : Broker) (outputs : List (ℕ × Packet)) → AllByRecursion (TagStands n b) (way_entries (sent_to (Some n) b outputs))
tags_stand n b [] = tt
tags_stand n b (x ∷ xs) = by (nat_eq x.0 n) (tags_stand n b xs)
  where
    by : (t : Bool) → AllByRecursion (TagStands n b) (way_entries (sent_to (Some n) b xs)) → AllByRecursion (TagStands n b) (way_entries (cons_option (cond t (Some (record { packet = x.1; copy = copy_in n b x.1 })) None) (sent_to (Some n) b xs)))
    by true rest = both_tag n b (packet_entry (copy_in n b x.1) x.1) (way_entries (sent_to (Some n) b xs)) (packet_tags n b x.1) rest
    by false rest = rest

-- ---- on its line that is the receiver's own session

-- and with one of the receiver's own
pub own_there : (largest : ℕ) (ids : List CopyId) (ns : List ℕ) (r : Receiver) (b : Broker) (n : ℕ) (c : CopyId) → IsPlaced largest ids ns r b → r.line.number ≡ Some n → (x : IsThere n c b) → session_named r.client b.records ≡ Some x.session
own_there largest ids ns r b n c placed is x = by placed.birth placed.along
  where
    inside : is_one_of (Some n) ns ≡ true
    inside = (lines_of placed.birth largest ids ns r b placed.along).own n is

    by : (o : Option ℕ) → GoesAlong o largest ids ns r b → session_named r.client b.records ≡ Some x.session
    by None along =
        let line = all_find (IsFreeLine ns) (λ (l : Line). nat_eq l.number n) x.line b.lines along.free x.at in
        let none = line.0 (ap (λ (k : ℕ). is_one_of (Some k) ns) (eqb-true x.line.number n line.1) ∙ inside) in
        let clash : None ≡ Some x.birth = sym none ∙ x.on in
        absurd cc
    by (Some own) along =
        let ss = b.records.sessions in
        let line = all_find (IsOwnLine ns own) (λ (l : Line). nat_eq l.number n) x.line b.lines along.served.lines x.at in
        let its : x.birth ≡ own = line.0.theirs (ap (λ (k : ℕ). is_one_of (Some k) ns) (eqb-true x.line.number n line.1) ∙ inside) x.birth x.on in
        let key : x.session.birth ≡ x.birth = found_key birth_of x.birth x.session ss x.there in
        let mine = all_at birth_of (IsOurs r.client own) x.birth x.session ss along.served.sessions x.there in
        let only = each_more (IsOurs r.client own) (IsIts r.client x.session.birth) (λ s a name. a.named name ∙ (sym its ∙ sym key)) ss along.served.sessions in
        named_is r.client x.session.birth b.records x.session only (ap (λ (k : ℕ). session_at k b.records) key ∙ x.there) (mine.name (key ∙ its))
