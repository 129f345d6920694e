-- What a receiver does and reads is what the receiver of its hop does and reads (MQTT 5.0, 4.3.2, 4.3.3, 4.4).
use Rattle.std.proofs.Common.{◌≡◌, ℕ, Bool, true, false, cond, if◌then◌else◌, List, [], ◌∷◌, ◌++◌, map, Option, Some, None, nat_lt, refl, sym, ap, subst, ◌∙◌}
use Rattle.std.specs.Prelude.{⊤, filter_map, is_some}
use Rattle.std.specs.List.{AllByRecursion, cons_option}
use Rattle.std.proofs.lemmas.List.Elements.{filter_map-append}
use Rattle.mqtt_base.specs.Codes.{success, identifier_not_found}
use Rattle.mqtt_base.specs.declared.session.CopyId.{CopyId}
use Rattle.mqtt_packet.specs.declared.codec.packet.Packet.{Packet}
use Rattle.mqtt_packet.specs.declared.codec.packet.Packet.TheVariants as packet
use Rattle.mqtt_packet.specs.declared.codec.publish.Delivery.{Delivery}
use Rattle.mqtt_packet.specs.declared.codec.publish.Delivery.TheVariants as delivery
use Rattle.mqtt_packet.specs.declared.codec.publish.Publish.{Publish as Publication}
use Rattle.mqtt_flow.specs.outbound.OutboundWorld.{Lot, World as Hop, Event as HopEvent, to_end, give_up, run, start}
use Rattle.mqtt_flow.specs.outbound.Receiver.{Answer, Handed, Output, connack, no_connack, down_comes, leaves, puback, pubrec, pubcomp, read_connack, release_code}
use Rattle.mqtt_flow.specs.outbound.Receiver as hop
use Rattle.mqtt_flow.specs.inbound.Identifiers.{is_among, ids_without}
use Rattle.mqtt_flow.specs.inbound.Line.{Link, away, asked, live, sent_on}
use Rattle.mqtt_world_model.specs.model.Ends.{Back, Entry, Receiver, Wish, answers, asks_for, answers_with, body_of, entry_of, greeted, hears, new_receiver, receiver_connack, receiver_reads, reads_publish}
use Rattle.mqtt_world_model.specs.model.Hops.{MayGiveUp}
use Rattle.mqtt_world_model.specs.model.Lines.{Down, gives_up, left}
use Rattle.mqtt_world_model.specs.model.Seen.{is_linked}
use Rattle.mqtt_world_model.specs.model.World.{asks_wish}
use Rattle.mqtt_records.specs.declared.state.session.Session.{Session}
use Rattle.mqtt_rules.specs.step.State.{Broker, session_named}
use Rattle.mqtt_rules.proofs.step_lemmas.numbers.Copies.{each_append}
use Rattle.mqtt_world_laws.specs.receiver.Handing.{IsRun}
use Rattle.mqtt_world_laws.specs.receiver.Seen.{AreQueued, Numbering, answered, connack_heard, handed_in, heard, heard_in, number_of, publish_heard, seen}
use Rattle.mqtt_world_laws.proofs.receiver_lemmas.connects.Refusals.{AreNoRefusals, IsNoRefusal, Tame, behind, run_append, tame_run}
use Rattle.mqtt_world_laws.specs.receiver.Tags.{AreTagged, IsTagged, IsTaggedBy, IsTaggedWith, Names, WasTagged, id_of}

-- ---- lists

-- what holds of each holds of one more
pub all_push : {X : Type 0} (P : X → Type 0) (xs : List X) (x : X) → AllByRecursion P xs → P x → AllByRecursion P (xs ++ x ∷ [])
all_push P xs x h it = each_append P xs (x ∷ []) h (it, tt)

-- two lists are answered one behind the other
pub answered_append : (xs ys : List Back) → filter_map answered (xs ++ ys) ≡ filter_map answered xs ++ filter_map answered ys
answered_append xs ys = filter_map-append answered xs ys

answer_goes : (t u : Bool) (up : List Back) (a : Answer) → u ≡ t → filter_map answered (sent_on t up (answers a ∷ [])) ≡ sent_on u (filter_map answered up) (a ∷ [])
answer_goes true u up a e = answered_append up (answers a ∷ []) ∙ ap (λ (z : Bool). sent_on z (filter_map answered up) (a ∷ [])) (sym e)
answer_goes false u up a e = ap (λ (z : Bool). sent_on z (filter_map answered up) (a ∷ [])) (sym e)

wish_goes : (t : Bool) (up : List Back) (w : Wish) → filter_map answered (sent_on t up (asks_for w ∷ [])) ≡ filter_map answered up
wish_goes true [] w = refl
wish_goes true (answers a ∷ up) w = ap (λ (zs : List Answer). a ∷ zs) (wish_goes true up w)
wish_goes true (asks_for x ∷ up) w = wish_goes true up w
wish_goes false up w = refl

handed_push : (number : Numbering) (xs : List Entry) (x : Entry) → map (handed_in number) (xs ++ x ∷ []) ≡ map (handed_in number) xs ++ handed_in number x ∷ []
handed_push number [] x = refl
handed_push number (y ∷ ys) x = ap (λ (zs : List Handed). handed_in number y ∷ zs) (handed_push number ys x)

handed_if : (number : Numbering) (z : Bool) (xs : List Entry) (x : Entry) → map (handed_in number) (if z then xs else xs ++ x ∷ []) ≡ (if z then map (handed_in number) xs else map (handed_in number) xs ++ handed_in number x ∷ [])
handed_if number true xs x = refl
handed_if number false xs x = handed_push number xs x

-- a CONNACK that refuses comes only if one is awaited
abbrev MayRefuse : Link → ℕ → Type 0
MayRefuse away code = nat_lt 0 code ≡ false
MayRefuse asked code = ⊤
MayRefuse live code = nat_lt 0 code ≡ false

abbrev MayHear : Link → Packet → Type 0
MayHear link (packet.Connack a) = MayRefuse link a.reason.0
MayHear link x = ⊤

abbrev MayRead : Link → List Down → Type 0
MayRead link [] = ⊤
MayRead link (d ∷ rest) = MayHear link d.packet

-- ---- it reads a packet

-- the receiver of the hop reads it too, if it is about copies
abbrev pub reads_by : Option Output → List HopEvent
reads_by None = []
reads_by (Some p) = to_end ∷ []

abbrev pub first_reads : Numbering → List Down → List HopEvent
first_reads number [] = []
first_reads number (d ∷ rest) = reads_by (heard_in number d)

module _ (number : Numbering) (copies : List Lot) (largest : ℕ) (b : Broker) (t : Bool) where
  abbrev sees : Receiver → Hop
  sees r = seen number copies r b

  abbrev taken : List Down → Receiver → Receiver
  taken rest r = record r { line = record r.line { down = rest } }

  -- what it saw, with these packets under way to it
  abbrev told_of : List Output → Receiver → Hop
  told_of ps r = record (sees r) { down = ps }

  -- what it has, once it has read: its name, what it sees after these events, and the tags
  record Reads (events : List HopEvent) (p : Hop) (r q : Receiver) : Type 0 where
    pub client : q.client ≡ r.client
    pub seen_is : sees q ≡ run largest events p
    pub tagged : AreTagged number (map id_of copies) q

  -- CONNACK: the line is refused, or the end is greeted
  abbrev turned_away : Receiver → Receiver
  turned_away q = record q { line = left (record q.line { clean = false }) }

  abbrev greets : Bool → Receiver → Receiver
  greets present q = record q { line = greeted q.line; asking = false; kept = if present then q.kept else [] }

  connack_seen : (link : Link) (present : Bool) (code : ℕ) (rest : List Down) (ps : List Output) (r : Receiver) → MayRefuse link code
      → sees (receiver_connack link present code (taken rest r))
      ≡ cond (nat_lt 0 code) (leaves (record (told_of ps r) { clean = false })) (read_connack link present (filter_map (heard_in number) rest) (told_of ps r))
  connack_seen away present code rest ps r may = ap (λ (z : Bool). cond z (leaves (record (told_of ps r) { clean = false })) (told_of (filter_map (heard_in number) rest) r)) (sym may)
  connack_seen live present code rest ps r may = ap (λ (z : Bool). cond z (leaves (record (told_of ps r) { clean = false })) (told_of (filter_map (heard_in number) rest) r)) (sym may)
  connack_seen asked present code rest ps r may = by (nat_lt 0 code)
    where
      by : (z : Bool) → sees (cond z (turned_away (taken rest r)) (greets present (taken rest r)))
          ≡ cond z (leaves (record (told_of ps r) { clean = false })) (read_connack asked present (filter_map (heard_in number) rest) (told_of ps r))
      by true = refl
      by false = refl

  refuses : (z present : Bool) (rest : List Output) (w : Hop)
      → cond z (leaves (record w { clean = false })) (read_connack w.link present rest w) ≡ down_comes (cond z no_connack (connack present) ∷ rest) w
  refuses true present rest w = refl
  refuses false present rest w = refl

  connack_tags : (link : Link) (present : Bool) (code : ℕ) (rest : List Down) (r : Receiver) → AreTagged number (map id_of copies) (taken rest r)
      → AreTagged number (map id_of copies) (receiver_connack link present code (taken rest r))
  connack_tags away present code rest r h = h
  connack_tags live present code rest r h = h
  connack_tags asked present code rest r h = by (nat_lt 0 code)
    where
      by : (z : Bool) → AreTagged number (map id_of copies) (cond z (turned_away (taken rest r)) (greets present (taken rest r)))
      by true = record { down = tt; ledger = h.ledger; once = h.once }
      by false = record { down = h.down; ledger = h.ledger; once = h.once }

  connack_client : (link : Link) (present : Bool) (code : ℕ) (q : Receiver) → (receiver_connack link present code q).client ≡ q.client
  connack_client away present code q = refl
  connack_client live present code q = refl
  connack_client asked present code q = by (nat_lt 0 code)
    where
      by : (z : Bool) → (cond z (turned_away q) (greets present q)).client ≡ q.client
      by true = refl
      by false = refl

  reads_connack : (present : Bool) (code : ℕ) (rest : List Down) (r : Receiver) → MayRefuse r.line.link code → AreTagged number (map id_of copies) (taken rest r)
      → Reads (to_end ∷ []) (told_of (connack_heard present code ∷ filter_map (heard_in number) rest) r) r (receiver_connack r.line.link present code (taken rest r))
  reads_connack present code rest r may h =
      let ps = connack_heard present code ∷ filter_map (heard_in number) rest in
      record {
        client = connack_client r.line.link present code (taken rest r);
        seen_is = connack_seen r.line.link present code rest ps r may ∙ refuses (nat_lt 0 code) present (filter_map (heard_in number) rest) (told_of ps r);
        tagged = connack_tags r.line.link present code rest r h;
      }

  -- PUBLISH
  reads_once : (copy : Option CopyId) (p : Publication) (dup : Bool) (i : ℕ) (rest : List Down) (r : Receiver) → is_linked r.line.number b ≡ t
      → Names number (map id_of copies) copy → AreTagged number (map id_of copies) (taken rest r)
      → Reads (to_end ∷ []) (told_of (hop.publish i (number_of number copy) dup (body_of false p) ∷ filter_map (heard_in number) rest) r) r
      (answers_with t (puback i success) (record (taken rest r) { once = r.once ++ entry_of false copy p ∷ [] }))
  reads_once copy p dup i rest r e it h =
      let ups = answer_goes t (is_linked r.line.number b) r.line.up (puback i success) e in
      let hands = handed_push number r.once (entry_of false copy p) in
      record {
        client = refl;
        seen_is = λ j. record (sees r) { down = filter_map (heard_in number) rest; up = ups j; reads = hands j };
        tagged = record { down = h.down; ledger = h.ledger; once = all_push (WasTagged number (map id_of copies)) r.once (entry_of false copy p) h.once it };
      }

  tags_if : (z : Bool) (copy : Option CopyId) (p : Publication) (xs : List Entry) → Names number (map id_of copies) copy → AllByRecursion (WasTagged number (map id_of copies)) xs
      → AllByRecursion (WasTagged number (map id_of copies)) (if z then xs else xs ++ entry_of true copy p ∷ [])
  tags_if true copy p xs it h = h
  tags_if false copy p xs it h = all_push (WasTagged number (map id_of copies)) xs (entry_of true copy p) h it

  reads_twice : (copy : Option CopyId) (p : Publication) (dup : Bool) (i : ℕ) (rest : List Down) (r : Receiver) → is_linked r.line.number b ≡ t
      → Names number (map id_of copies) copy → AreTagged number (map id_of copies) (taken rest r)
      → Reads (to_end ∷ []) (told_of (hop.publish i (number_of number copy) dup (body_of true p) ∷ filter_map (heard_in number) rest) r) r
      (answers_with t (pubrec i success) (record (taken rest r) {
        kept = hop.kept_after i r.kept;
        ledger = if is_among i r.kept then r.ledger else r.ledger ++ entry_of true copy p ∷ [];
      }))
  reads_twice copy p dup i rest r e it h =
      let ups = answer_goes t (is_linked r.line.number b) r.line.up (pubrec i success) e in
      let hands = handed_if number (is_among i r.kept) r.ledger (entry_of true copy p) in
      record {
        client = refl;
        seen_is = λ j. record (sees r) { down = filter_map (heard_in number) rest; up = ups j; kept = hop.kept_after i r.kept; ledger = hands j };
        tagged = record { down = h.down; ledger = tags_if (is_among i r.kept) copy p r.ledger it h.ledger; once = h.once };
      }

  reads_publishing : (copy : Option CopyId) (p : Publication) (d : Delivery) (rest : List Down) (r : Receiver) → is_linked r.line.number b ≡ t
      → IsTaggedBy number (map id_of copies) copy d → AreTagged number (map id_of copies) (taken rest r)
      → Reads (reads_by (publish_heard number copy p d)) (told_of (cons_option (publish_heard number copy p d) (filter_map (heard_in number) rest)) r) r (reads_publish t copy p d (taken rest r))
  reads_publishing copy p delivery.AtMostOnce rest r e it h = record { client = refl; seen_is = refl; tagged = h }
  reads_publishing copy p (delivery.AtLeastOnce dup i) rest r e it h = reads_once copy p dup i rest r e it h
  reads_publishing copy p (delivery.ExactlyOnce dup i) rest r e it h = reads_twice copy p dup i rest r e it h

  -- PUBREL
  codes_agree : (z : Bool) → (if z then success else identifier_not_found) ≡ release_code z
  codes_agree true = refl
  codes_agree false = refl

  reads_pubrel : (i code : ℕ) (rest : List Down) (r : Receiver) → is_linked r.line.number b ≡ t → AreTagged number (map id_of copies) (taken rest r)
      → Reads (to_end ∷ []) (told_of (hop.pubrel i code ∷ filter_map (heard_in number) rest) r) r
      (answers_with t (pubcomp i (if is_among i r.kept then success else identifier_not_found)) (record (taken rest r) { kept = ids_without i r.kept }))
  reads_pubrel i code rest r e h =
      let ups = answer_goes t (is_linked r.line.number b) r.line.up (pubcomp i (if is_among i r.kept then success else identifier_not_found)) e
      ∙ ap (λ (z : ℕ). sent_on (is_linked r.line.number b) (filter_map answered r.line.up) (pubcomp i z ∷ [])) (codes_agree (is_among i r.kept)) in
      record {
        client = refl;
        seen_is = λ j. record (sees r) { down = filter_map (heard_in number) rest; up = ups j; kept = ids_without i r.kept };
        tagged = record { down = h.down; ledger = h.ledger; once = h.once };
      }

  -- whichever packet
  passes : (copy : Option CopyId) (rest : List Down) (r : Receiver) → AreTagged number (map id_of copies) (taken rest r)
      → Reads [] (told_of (filter_map (heard_in number) rest) r) r (taken rest r)
  passes copy rest r h = record { client = refl; seen_is = refl; tagged = h }

  reads_packet : (copy : Option CopyId) (x : Packet) (rest : List Down) (r : Receiver) → is_linked r.line.number b ≡ t → MayHear r.line.link x
      → IsTaggedWith number (map id_of copies) copy x → AreTagged number (map id_of copies) (taken rest r)
      → Reads (reads_by (heard number copy x)) (told_of (cons_option (heard number copy x) (filter_map (heard_in number) rest)) r) r (hears t copy x (taken rest r))
  reads_packet copy (packet.Connect a) rest r e may it h = passes copy rest r h
  reads_packet copy (packet.Connack a) rest r e may it h = reads_connack a.session_present a.reason.0 rest r may h
  reads_packet copy (packet.Publish p) rest r e may it h = reads_publishing copy p p.delivery rest r e it h
  reads_packet copy (packet.Puback a) rest r e may it h = passes copy rest r h
  reads_packet copy (packet.Pubrec a) rest r e may it h = passes copy rest r h
  reads_packet copy (packet.Pubrel a) rest r e may it h = reads_pubrel a.identifier a.reason.0 rest r e h
  reads_packet copy (packet.Pubcomp a) rest r e may it h = passes copy rest r h
  reads_packet copy (packet.Subscribe a) rest r e may it h = passes copy rest r h
  reads_packet copy (packet.Suback a) rest r e may it h = record { client = refl; seen_is = refl; tagged = record { down = h.down; ledger = h.ledger; once = h.once } }
  reads_packet copy (packet.Unsubscribe a) rest r e may it h = passes copy rest r h
  reads_packet copy (packet.Unsuback a) rest r e may it h = passes copy rest r h
  reads_packet copy packet.Pingreq rest r e may it h = passes copy rest r h
  reads_packet copy packet.Pingresp rest r e may it h = passes copy rest r h
  reads_packet copy (packet.Disconnect a) rest r e may it h = record { client = refl; seen_is = refl; tagged = record { down = tt; ledger = h.ledger; once = h.once } }
  reads_packet copy (packet.Auth a) rest r e may it h = passes copy rest r h

  reads_from : (ds : List Down) (r : Receiver) → r.line.down ≡ ds → is_linked r.line.number b ≡ t → MayRead r.line.link ds → AreTagged number (map id_of copies) r
      → Reads (first_reads number ds) (sees r) r (receiver_reads t ds r)
  reads_from [] r is e may h = record { client = refl; seen_is = refl; tagged = h }
  reads_from (d ∷ rest) r is e may h =
      let downs = subst (λ (ds : List Down). AllByRecursion (IsTagged number (map id_of copies)) ds) is h.down in
      let x = reads_packet d.copy d.packet rest r e may downs.0 (record { down = downs.1; ledger = h.ledger; once = h.once }) in
      let w = ap (λ (ds : List Down). told_of (filter_map (heard_in number) ds) r) is in
      record {
        client = x.client;
        seen_is = x.seen_is ∙ sym (ap (run largest (reads_by (heard number d.copy d.packet))) w);
        tagged = x.tagged;
      }

-- ---- what it sees stays a run

-- another receiver of that name, at the same broker, that saw some events more
pub runs_on : (number : Numbering) (largest : ℕ) (copies : List Lot) (r q : Receiver) (b : Broker) (h : IsRun number largest copies r b) (es : List HopEvent)
    → q.client ≡ r.client → seen number copies q b ≡ run largest es (seen number copies r b) → AreTagged number (map id_of copies) q → IsRun number largest copies q b
runs_on number largest copies r q b h es client is tagged = record {
  events = h.events ++ es;
  seen_is = is ∙ (ap (run largest es) h.seen_is ∙ sym (run_append largest h.events es start));
  queue_is = subst (λ (c : List ℕ). AreQueued copies (session_named c b.records) b) (sym client) h.queue_is;
  numbered = h.numbered;
  tagged = tagged;
}

-- its line is as in every run
tame : (number : Numbering) (largest : ℕ) (copies : List Lot) (r : Receiver) (b : Broker) → IsRun number largest copies r b → Tame (seen number copies r b)
tame number largest copies r b h = subst Tame (sym h.seen_is) (tame_run largest h.events)

-- a CONNACK that refuses is awaited
accepts : (z present : Bool) → IsNoRefusal (cond z no_connack (connack present)) → z ≡ false
accepts true present h = absurd h
accepts false present h = refl

may_hear : (number : Numbering) (link : Link) (copy : Option CopyId) (x : Packet) (rest : List Output) → AreNoRefusals (behind link (cons_option (heard number copy x) rest)) → MayHear link x
may_hear number link copy (packet.Connect a) rest h = tt
may_hear number away copy (packet.Connack a) rest h = accepts (nat_lt 0 a.reason.0) a.session_present h.0
may_hear number asked copy (packet.Connack a) rest h = tt
may_hear number live copy (packet.Connack a) rest h = accepts (nat_lt 0 a.reason.0) a.session_present h.0
may_hear number link copy (packet.Publish p) rest h = tt
may_hear number link copy (packet.Puback a) rest h = tt
may_hear number link copy (packet.Pubrec a) rest h = tt
may_hear number link copy (packet.Pubrel a) rest h = tt
may_hear number link copy (packet.Pubcomp a) rest h = tt
may_hear number link copy (packet.Subscribe a) rest h = tt
may_hear number link copy (packet.Suback a) rest h = tt
may_hear number link copy (packet.Unsubscribe a) rest h = tt
may_hear number link copy (packet.Unsuback a) rest h = tt
may_hear number link copy packet.Pingreq rest h = tt
may_hear number link copy packet.Pingresp rest h = tt
may_hear number link copy (packet.Disconnect a) rest h = tt
may_hear number link copy (packet.Auth a) rest h = tt

may_read : (number : Numbering) (link : Link) (ds : List Down) → AreNoRefusals (behind link (filter_map (heard_in number) ds)) → MayRead link ds
may_read number link [] h = tt
may_read number link (d ∷ rest) h = may_hear number link d.copy d.packet (filter_map (heard_in number) rest) h

module _ (number : Numbering) (largest : ℕ) (copies : List Lot) (t : Bool) (r : Receiver) (b : Broker) (h : IsRun number largest copies r b) (e : is_linked r.line.number b ≡ t) where
  read_is : Reads number copies largest b t (first_reads number r.line.down) (seen number copies r b) r (receiver_reads t r.line.down r)
  read_is = reads_from number copies largest b t r.line.down r refl e (may_read number r.line.link r.line.down (tame number largest copies r b h).plain) h.tagged

  -- what the receiver reads, its hop's receiver reads, if it is about copies
  pub reads_seen : seen number copies (receiver_reads t r.line.down r) b ≡ run largest (first_reads number r.line.down) (seen number copies r b)
  reads_seen = read_is.seen_is

  -- reading goes on with the hop
  pub doing_reads : IsRun number largest copies (receiver_reads t r.line.down r) b
  doing_reads = runs_on number largest copies r (receiver_reads t r.line.down r) b h (first_reads number r.line.down) read_is.client read_is.seen_is read_is.tagged

-- giving up goes on with the hop
pub doing_gives_up : (number : Numbering) (largest : ℕ) (copies : List Lot) (r : Receiver) (b : Broker)
    → IsRun number largest copies r b → MayGiveUp r.line.link r.line.clean → IsRun number largest copies (record r { line = gives_up r.line.link r.line }) b
doing_gives_up number largest copies r b h may =
    runs_on number largest copies r (record r { line = gives_up r.line.link r.line }) b h (give_up ∷ []) refl
    (by r.line.link r.line.clean may (tame number largest copies r b h).greeted) (tags r.line.link)
  where
    by : (link : Link) (clean : Bool) → MayGiveUp link clean → (link ≡ live → clean ≡ false) → seen number copies (record r { line = gives_up link r.line }) b ≡ hop.gives_up clean link (seen number copies r b)
    by away true may g = refl
    by away false may g = refl
    by asked true may g = absurd cc
    by asked false may g = refl
    by live true may g = let clash : true ≡ false = g refl in absurd cc
    by live false may g = refl

    tags : (link : Link) → AreTagged number (map id_of copies) (record r { line = gives_up link r.line })
    tags away = record { down = h.tagged.down; ledger = h.tagged.ledger; once = h.tagged.once }
    tags asked = record { down = tt; ledger = h.tagged.ledger; once = h.tagged.once }
    tags live = record { down = tt; ledger = h.tagged.ledger; once = h.tagged.once }

-- so does asking for a subscription
pub doing_asks : (number : Numbering) (largest : ℕ) (copies : List Lot) (t : Bool) (w : Wish) (r : Receiver) (b : Broker) → IsRun number largest copies r b → IsRun number largest copies (asks_wish t w r) b
doing_asks number largest copies t w r b h =
    let ups = wish_goes t r.line.up w in
    runs_on number largest copies r (asks_wish t w r) b h [] refl (λ j. record (seen number copies r b) { up = ups j })
    (record { down = h.tagged.down; ledger = h.tagged.ledger; once = h.tagged.once })

-- ---- it comes, if no session of its name stands

-- and a new receiver
pub doing_comes : (number : Numbering) (largest : ℕ) (client : List ℕ) (window aliases since : ℕ) (b : Broker) → session_named client b.records ≡ None → IsRun number largest [] (new_receiver client window aliases since) b
doing_comes number largest client window aliases since b none =
    let stands : is_some (session_named client b.records) ≡ false = ap is_some none in
    record {
      events = [];
      seen_is = λ j. record start { stands = stands j };
      queue_is = subst (λ (o : Option Session). AreQueued [] o b) (sym none) refl;
      numbered = λ n copy at. absurd cc;
      tagged = record { down = tt; ledger = tt; once = tt };
    }
