-- Where a receiver is, by what it sees: its lines are as a publisher's, after its doings and the calls of others.
use Rattle.std.proofs.Common.{◌≡◌, ℕ, suc, ◌≤◌, ◌<◌, Bool, true, false, cond, ◌⊎◌, if◌then◌else◌, List, [], ◌∷◌, ◌++◌, map, Option, Some, None, nat_eq, nat_lt, refl, sym, ap, subst, ◌∙◌, arith, inl, inr}
use Rattle.std.specs.Prelude.{filter_map, is_some, option_map}
use Rattle.std.specs.List.{AllByRecursion, cons_option, list_any}
use Rattle.std.proofs.lemmas.Bool.{cases_Bool, eqb-true}
use Rattle.std.proofs.lemmas.Cmp.{nat_eq_equiv}
use Rattle.mqtt_base.specs.declared.session.CopyId.{CopyId}
use Rattle.mqtt_packet.specs.declared.codec.packet.Packet.{Packet}
use Rattle.mqtt_packet.specs.declared.codec.packet.Packet.TheVariants as packet
use Rattle.mqtt_packet.specs.declared.codec.publish.Delivery.{Delivery}
use Rattle.mqtt_packet.specs.declared.codec.publish.Delivery.TheVariants as delivery
use Rattle.mqtt_packet.specs.declared.codec.publish.Publish.{Publish as Publication}
use Rattle.mqtt_flow.specs.outbound.OutboundWorld.{Lot, World as Hop}
use Rattle.mqtt_flow.specs.outbound.Receiver.{Answer, HasNoConnect, IsConnectAlone, IsHeard, connect, puback, pubcomp, pubrec}
use Rattle.mqtt_flow.proofs.outbound_lemmas.outbound.HopLaw.{alone_of, good_run, heard_of}
use Rattle.mqtt_flow.proofs.outbound_lemmas.outbound.SessionLives as lives
use Rattle.mqtt_flow.proofs.outbound_lemmas.outbound.Stages.{Blank, Calm, Good, is_asked, is_away, is_connect, is_live, is_read, is_sent, is_shut, no_line, was_shut}
use Rattle.mqtt_flow.specs.inbound.Line.{Link, asked, away, live, sent_on}
use Rattle.mqtt_flow.specs.inbound.Publisher.{CONNECT}
use Rattle.mqtt_world_model.specs.model.Ends.{Back, Publisher, Receiver, Sent, Wish, answers, asks_for, greeted, hears, receiver_connack, receiver_reads, reads_publish, shake}
use Rattle.mqtt_world_model.specs.model.Hops.{IsFarCall, IsNoConnect, MayGiveUp}
use Rattle.mqtt_world_model.specs.model.Lines.{Down, Line, given_up, gives_up, is_one_of, left, stands, unless_closed}
use Rattle.mqtt_world_model.specs.model.Seats.{Former, HasNobody, IsHis, IsIdle, IsNamed, IsOff, Present, Seat, absent, closed, connected_at, glance, glance_at, joined, late, lingers, over, waiting, waits_there}
use Rattle.mqtt_world_model.specs.model.Seen.{heard_in as heard_by_publishers, is_linked}
use Rattle.mqtt_world_model.specs.model.World.{asks_wish, publisher_told, receiver_told}
use Rattle.mqtt_world_model.proofs.model_lemmas.own.Calls.{off_line, others_of}
use Rattle.mqtt_world_model.proofs.model_lemmas.seats.Joins.{new_is}
use Rattle.mqtt_world_model.proofs.model_lemmas.seats.Seats.{far_step}
use Rattle.mqtt_world_model.proofs.model_lemmas.seats.Seeing.{linked_is, linked_of}
use Rattle.mqtt_records.specs.lists.Order.{IsBelow}
use Rattle.mqtt_rules.specs.step.Deeds.{fresh_line}
use Rattle.mqtt_rules.specs.step.Lines.{line_number}
use Rattle.mqtt_rules.specs.step.State.{Line as BrokerLine, Broker, MemberChoice, line_at}
use Rattle.mqtt_rules.specs.step.Step.{Call, NewLine, Outcome, at_moment, can_link, stepped, told}
use Rattle.mqtt_rules.specs.declared.step.Capacity.{Capacity}
use Rattle.mqtt_world_laws.specs.receiver.Handing.{IsRun, receiver_joined}
use Rattle.mqtt_world_laws.specs.receiver.Seen.{Numbering, answered, heard, heard_in, publish_heard, seen}
use Rattle.mqtt_world_laws.specs.delivery.Standing.{line_like, packet_like, publisher_like}

-- ---- packets under way to the broker

none_like : (xs : List Back) → HasNoConnect (filter_map answered xs) → AllByRecursion IsNoConnect (map packet_like xs)
none_like [] h = tt
none_like (asks_for w ∷ xs) h = (tt, none_like xs h)
none_like (answers (connect c) ∷ xs) h = absurd h
none_like (answers (puback i code) ∷ xs) h = (tt, none_like xs h)
none_like (answers (pubrec i code) ∷ xs) h = (tt, none_like xs h)
none_like (answers (pubcomp i code) ∷ xs) h = (tt, none_like xs h)

calm_like : (xs : List Back) → IsHeard true (filter_map answered xs) → IsConnectAlone (filter_map answered xs) → AllByRecursion IsNoConnect (map packet_like xs)
calm_like [] h a = tt
calm_like (asks_for w ∷ xs) h a = (tt, calm_like xs h a)
calm_like (answers (connect c) ∷ xs) h a = absurd cc
calm_like (answers (puback i code) ∷ xs) h a = (tt, none_like xs a)
calm_like (answers (pubrec i code) ∷ xs) h a = (tt, none_like xs a)
calm_like (answers (pubcomp i code) ∷ xs) h a = (tt, none_like xs a)

-- what looks like a CONNECT alone is one
pub connect_like : (clean : Bool) (xs : List Back) → map packet_like xs ≡ shake (CONNECT clean) ∷ [] → xs ≡ answers (connect clean) ∷ []
connect_like clean [] e = absurd cc
connect_like clean (asks_for w ∷ xs) e = absurd cc
connect_like clean (answers (connect c) ∷ []) e = let is : c ≡ clean = cc in ap (λ (z : Bool). answers (connect z) ∷ []) is
connect_like clean (answers (connect c) ∷ x ∷ xs) e = absurd cc
connect_like clean (answers (puback i code) ∷ xs) e = absurd cc
connect_like clean (answers (pubrec i code) ∷ xs) e = absurd cc
connect_like clean (answers (pubcomp i code) ∷ xs) e = absurd cc

-- ---- what is known of its lines, as what it sees is a run of its hop

good_seen : (number : Numbering) (largest : ℕ) (copies : List Lot) (r : Receiver) (b : Broker) → IsRun number largest copies r b → Good (lives.seen (seen number copies r b))
good_seen number largest copies r b h = subst (λ (w : Hop). Good (lives.seen w)) (sym h.seen_is) (good_run largest h.events)

-- on a linked line no CONNECT is under way
pub calm_up : (number : Numbering) (largest : ℕ) (copies : List Lot) (r : Receiver) (b : Broker) → IsRun number largest copies r b → is_linked r.line.number b ≡ true → AllByRecursion IsNoConnect (map packet_like r.line.up)
calm_up number largest copies r b h linked =
    let w = seen number copies r b in
    let good = good_seen number largest copies r b h in
    calm_like r.line.up (subst (λ (t : Bool). IsHeard t (filter_map answered r.line.up)) linked (heard_of w good)) (alone_of w good).0

none_down : (w : Hop) (c : Bool) (rest : List Answer) → Good (lives.seen w) → w.up ≡ connect c ∷ rest → w.down ≡ []
none_down w c rest (inl norm) up = by norm.calm
  where
    by : Calm w.link w.linked w.stands w.clean w.up w.down w.old w.kept → w.down ≡ []
    by (is_away l none down off) = down
    by (is_sent l it down off) = down
    by (is_shut l none down off) = let clash : connect c ∷ rest ≡ [] = sym up ∙ none in absurd cc
    by (is_read p ps l none down late_ kept stands_) = let clash : connect c ∷ rest ≡ [] = sym up ∙ none in absurd cc
    by (is_live l late_ on none) = let clash : true ≡ false = sym (ap (list_any is_connect) up) ∙ none in absurd cc
none_down w c rest (inr fresh) up = by fresh.lines
  where
    by : Blank w.link w.linked w.up w.down → w.down ≡ []
    by (no_line l none down off) = down
    by (is_asked l it down off) = down
    by (was_shut l none down off) = down

-- nothing of its hop is under way to it while its CONNECT is under way
pub quiet_down : (number : Numbering) (largest : ℕ) (copies : List Lot) (r : Receiver) (b : Broker) (clean : Bool) → IsRun number largest copies r b → map packet_like r.line.up ≡ shake (CONNECT clean) ∷ []
    → filter_map (heard_in number) r.line.down ≡ []
quiet_down number largest copies r b clean h up =
    none_down (seen number copies r b) clean [] (good_seen number largest copies r b h) (ap (filter_map answered) (connect_like clean r.line.up up))

-- ---- the line that it gave up, if that stayed

-- what was on an old line may be looked at in another line like it
pub former_as : (o : Option ℕ) (k : ℕ) (x y : Line Sent) (b : Broker) → y.old_number ≡ x.old_number → y.old ≡ x.old → Former o k x b → Former o k y b
former_as o k x y b e f (over none) = over (f ∙ none)
former_as o k x y b e f (late m is old idle there) = late m (e ∙ is) (f ∙ old) idle there
former_as o k x y b e f (lingers birth own is calm there) = lingers birth own (e ∙ is) (subst (λ (xs : List Sent). AllByRecursion IsNoConnect xs) (sym f) calm) there

-- what is an end's own is the same for an equal name
pub his_as : (client other : List ℕ) (o : Option ℕ) (k : ℕ) (b : Broker) → other ≡ client → IsHis client o k b → IsHis other o k b
his_as client other o k b e h = subst (λ (c : List ℕ). IsHis c o k b) (sym e) h

-- ---- a line of the broker

-- a line with a session is linked
pub connected_linked : (k birth : ℕ) (x : Option ℕ) (b : Broker) → x ≡ Some k → connected_at k b.lines ≡ Some (Some birth) → is_linked x b ≡ true
connected_linked k birth x b is there = ap (λ (y : Option ℕ). is_linked y b) is ∙ (linked_is k b ∙ ap linked_of there)

stands_so : {Y : Type 0} (f : BrokerLine → Y) (n : ℕ) (b : Broker) (t : Option Y) → option_map f (line_at n b) ≡ t → stands (Some n) b ≡ is_some t
stands_so f n b t e = by (line_at n b) e
  where
    by : (o : Option BrokerLine) → option_map f o ≡ t → is_some o ≡ is_some t
    by None g = ap is_some g
    by (Some l) g = ap is_some g

-- no line does not stand
pub none_stands : (x : Option ℕ) (b : Broker) → x ≡ None → stands x b ≡ false
none_stands x b e = ap (λ (y : Option ℕ). stands y b) e

-- nor does one that is closed
pub closed_stands : (x : Option ℕ) (n : ℕ) (b : Broker) → x ≡ Some n → glance_at n b.lines ≡ None → stands x b ≡ false
closed_stands x n b e none = ap (λ (y : Option ℕ). stands y b) e ∙ stands_so glance n b None none

-- one with a session stands
pub joined_stands : (x : Option ℕ) (k birth : ℕ) (b : Broker) → x ≡ Some k → connected_at k b.lines ≡ Some (Some birth) → stands x b ≡ true
joined_stands x k birth b e there = ap (λ (y : Option ℕ). stands y b) e ∙ stands_so (λ (l : BrokerLine). l.session) k b (Some (Some birth)) there

-- ---- it gives its line up

-- a receiver that gives up keeps its seat
pub seat_given : (o : Option ℕ) (k : ℕ) (r : Receiver) (b : Broker) → Seat o k (publisher_like r) b → (is_linked r.line.number b ≡ true → AllByRecursion IsNoConnect (map packet_like r.line.up))
    → MayGiveUp r.line.link r.line.clean → Seat o k (publisher_like (record r { line = gives_up r.line.link r.line })) b
seat_given o k r b s calm may = by r.line.link refl may
  where
    behind : (r.line.link ≡ asked → r.line.clean ≡ false) → Present o k (line_like r.line) b → Former o k (line_like (given_up r.line)) b
    behind carried (absent none up) = over up
    behind carried (closed n is up idle none) = over up
    behind carried (waiting n clean is link_is clean_is up down idle there) = late n is (up ∙ ap (λ (z : Bool). shake (CONNECT z) ∷ []) (sym clean_is ∙ carried link_is)) idle there
    behind carried (joined birth own is there) = lingers birth own is (calm (connected_linked k birth r.line.number b is there)) there

    gave : (r.line.link ≡ asked → r.line.clean ≡ false) → Seat o k (publisher_like (record r { line = given_up r.line })) b
    gave carried = record { his = s.his; present = absent refl refl; former = behind carried s.present }

    by : (link : Link) → r.line.link ≡ link → MayGiveUp link r.line.clean → Seat o k (publisher_like (record r { line = gives_up link r.line })) b
    by away e m = record { his = s.his; present = s.present; former = s.former }
    by asked e m = gave (λ is. m)
    by live e m = gave (λ is. let clash : live ≡ asked = sym e ∙ is in absurd cc)

-- ---- it asks for a subscription

goes_none : {U : Type 0} (t : Bool) (xs ps : List U) → t ≡ false → sent_on t xs ps ≡ xs
goes_none true xs ps e = absurd cc
goes_none false xs ps e = refl

-- so does one that subscribes
pub seat_asked : (o : Option ℕ) (k : ℕ) (x : Wish) (r : Receiver) (b : Broker) → Seat o k (publisher_like r) b → r.line.link ≡ live → Seat o k (publisher_like (asks_wish (stands r.line.number b) x r)) b
seat_asked o k x r b s is_live_ = record {
  his = s.his;
  present = by s.present;
  former = former_as o k (line_like r.line) (line_like (asks_wish (stands r.line.number b) x r).line) b refl refl s.former;
}
  where
    q : Receiver
    q = asks_wish (stands r.line.number b) x r

    by : Present o k (line_like r.line) b → Present o k (line_like (asks_wish (stands r.line.number b) x r).line) b
    by (absent none up) = absent none (ap (map packet_like) (goes_none (stands r.line.number b) r.line.up (asks_for x ∷ []) (none_stands r.line.number b none)) ∙ up)
    by (closed n is up idle none) = closed n is (ap (map packet_like) (goes_none (stands r.line.number b) r.line.up (asks_for x ∷ []) (closed_stands r.line.number n b is none)) ∙ up) idle none
    by (waiting n clean is link_is clean_is up down idle there) = let clash : live ≡ asked = sym is_live_ ∙ link_is in absurd cc
    by (joined birth own is there) = joined birth own is there

-- ---- it reads

abbrev taken : List Down → Receiver → Receiver
taken rest r = record r { line = record r.line { down = rest } }

-- it leaves its line, or keeps it, with what is under way there if that doesn't stand
pub record Moves (t : Bool) (r q : Receiver) : Type 0 where
  pub client : q.client ≡ r.client
  pub old_number : q.line.old_number ≡ r.line.old_number
  pub old : q.line.old ≡ r.line.old
  pub own : ((q.line.number ≡ None) × (q.line.up ≡ [])) ⊎ ((q.line.number ≡ r.line.number) × (t ≡ false → q.line.up ≡ r.line.up))

moves_connack : (t : Bool) (link : Link) (present : Bool) (code : ℕ) (rest : List Down) (r : Receiver) → Moves t r (receiver_connack link present code (taken rest r))
moves_connack t away present code rest r = record { client = refl; old_number = refl; old = refl; own = inr (refl, λ f. refl) }
moves_connack t live present code rest r = record { client = refl; old_number = refl; old = refl; own = inr (refl, λ f. refl) }
moves_connack t asked present code rest r = by (nat_lt 0 code)
  where
    by : (z : Bool) → Moves t r (cond z (record (taken rest r) { line = left (record (taken rest r).line { clean = false }) })
        (record (taken rest r) { line = greeted (taken rest r).line; asking = false; kept = if present then r.kept else [] }))
    by true = record { client = refl; old_number = refl; old = refl; own = inl (refl, refl) }
    by false = record { client = refl; old_number = refl; old = refl; own = inr (refl, λ f. refl) }

moves_publish : (t : Bool) (copy : Option CopyId) (p : Publication) (d : Delivery) (rest : List Down) (r : Receiver) → Moves t r (reads_publish t copy p d (taken rest r))
moves_publish t copy p delivery.AtMostOnce rest r = record { client = refl; old_number = refl; old = refl; own = inr (refl, λ f. refl) }
moves_publish t copy p (delivery.AtLeastOnce dup i) rest r = record { client = refl; old_number = refl; old = refl; own = inr (refl, λ f. goes_none t r.line.up _ f) }
moves_publish t copy p (delivery.ExactlyOnce dup i) rest r = record { client = refl; old_number = refl; old = refl; own = inr (refl, λ f. goes_none t r.line.up _ f) }

moves_packet : (t : Bool) (copy : Option CopyId) (x : Packet) (rest : List Down) (r : Receiver) → Moves t r (hears t copy x (taken rest r))
moves_packet t copy (packet.Connack a) rest r = moves_connack t r.line.link a.session_present a.reason.0 rest r
moves_packet t copy (packet.Publish p) rest r = moves_publish t copy p p.delivery rest r
moves_packet t copy (packet.Pubrel a) rest r = record { client = refl; old_number = refl; old = refl; own = inr (refl, λ f. goes_none t r.line.up _ f) }
moves_packet t copy (packet.Disconnect a) rest r = record { client = refl; old_number = refl; old = refl; own = inl (refl, refl) }
moves_packet t copy x rest r = record { client = refl; old_number = refl; old = refl; own = inr (refl, λ f. refl) }

-- reading is a move
pub moves_reading : (t : Bool) (ds : List Down) (r : Receiver) → Moves t r (receiver_reads t ds r)
moves_reading t [] r = record { client = refl; old_number = refl; old = refl; own = inr (refl, λ f. refl) }
moves_reading t (d ∷ rest) r = moves_packet t d.copy d.packet rest r

-- it passes over what its hop doesn't hear, wherever that goes
none_first : {Y : Type 0} (o : Option Y) (ys : List Y) → cons_option o ys ≡ [] → (o ≡ None) × (ys ≡ [])
none_first None ys e = (refl, e)
none_first (Some y) ys e = absurd cc

passes_publish : (number : Numbering) (t : Bool) (copy : Option CopyId) (p : Publication) (d : Delivery) (rest : List Down) (r : Receiver) → publish_heard number copy p d ≡ None
    → reads_publish t copy p d (taken rest r) ≡ taken rest r
passes_publish number t copy p delivery.AtMostOnce rest r e = refl
passes_publish number t copy p (delivery.AtLeastOnce dup i) rest r e = absurd cc
passes_publish number t copy p (delivery.ExactlyOnce dup i) rest r e = absurd cc

-- whether SUBACK is awaited is not part of its hop
record Passes (t u : Bool) (q z : Receiver) (rest : List Down) (r : Receiver) : Type 0 where
  pub same : q ≡ z
  pub line : q.line ≡ record r.line { down = rest }
  pub client : q.client ≡ r.client

passes_by : (t u : Bool) (rest : List Down) (r q z : Receiver) → q ≡ taken rest r → z ≡ taken rest r → Passes t u q z rest r
passes_by t u rest r q z e f = record { same = e ∙ sym f; line = ap (λ (x : Receiver). x.line) e; client = ap (λ (x : Receiver). x.client) e }

passes_packet : (number : Numbering) (t u : Bool) (copy : Option CopyId) (x : Packet) (rest : List Down) (r : Receiver) → heard number copy x ≡ None → Passes t u (hears t copy x (taken rest r)) (hears u copy x (taken rest r)) rest r
passes_packet number t u copy (packet.Connack a) rest r e = absurd cc
passes_packet number t u copy (packet.Publish p) rest r e =
    passes_by t u rest r _ _ (passes_publish number t copy p p.delivery rest r e) (passes_publish number u copy p p.delivery rest r e)
passes_packet number t u copy (packet.Pubrel a) rest r e = absurd cc
passes_packet number t u copy (packet.Disconnect a) rest r e = absurd cc
passes_packet number t u copy x rest r e = record { same = refl; line = refl; client = refl }

-- if nothing is heard it does not matter whether the line stands
pub same_reading : (number : Numbering) (t u : Bool) (ds : List Down) (r : Receiver) → filter_map (heard_in number) ds ≡ [] → receiver_reads t ds r ≡ receiver_reads u ds r
same_reading number t u [] r e = refl
same_reading number t u (d ∷ rest) r e = (passes_packet number t u d.copy d.packet rest r (none_first (heard number d.copy d.packet) (filter_map (heard_in number) rest) e).0).same

waits_reading : (number : Numbering) (o : Option ℕ) (k n : ℕ) (clean t : Bool) (ds : List Down) (r : Receiver) (b : Broker) → r.line.down ≡ ds → filter_map (heard_in number) ds ≡ []
    → r.line.number ≡ Some n → r.line.link ≡ asked → r.line.clean ≡ clean → map packet_like r.line.up ≡ shake (CONNECT clean) ∷ [] → filter_map heard_by_publishers ds ≡ [] → IsIdle n b → glance_at n b.lines ≡ waits_there
    → Present o k (line_like (receiver_reads t ds r).line) b
waits_reading number o k n clean t [] r b ds_is none is link_is clean_is up down idle there = waiting n clean is link_is clean_is up (ap (filter_map heard_by_publishers) ds_is) idle there
waits_reading number o k n clean t (d ∷ rest) r b ds_is none is link_is clean_is up down idle there =
    let p = passes_packet number t t d.copy d.packet rest r (none_first (heard number d.copy d.packet) (filter_map (heard_in number) rest) none).0 in
    let line = p.line in
    waiting n clean (ap (λ (l : Line Back). l.number) line ∙ is) (ap (λ (l : Line Back). l.link) line ∙ link_is) (ap (λ (l : Line Back). l.clean) line ∙ clean_is)
    (ap (λ (l : Line Back). map packet_like l.up) line ∙ up)
    (ap (λ (l : Line Back). filter_map heard_by_publishers l.down) line ∙ (none_first (heard_by_publishers d) (filter_map heard_by_publishers rest) down).1) idle there

-- reading keeps the seat
pub seat_read : (number : Numbering) (largest : ℕ) (copies : List Lot) (o : Option ℕ) (k : ℕ) (r : Receiver) (b : Broker) → IsRun number largest copies r b → Seat o k (publisher_like r) b
    → Seat o k (publisher_like (receiver_reads (stands r.line.number b) r.line.down r)) b
seat_read number largest copies o k r b h s = record {
  his = his_as r.client (receiver_reads t r.line.down r).client o k b m.client s.his;
  present = by s.present;
  former = former_as o k (line_like r.line) (line_like (receiver_reads t r.line.down r).line) b m.old_number (ap (map packet_like) m.old) s.former;
}
  where
    t : Bool
    t = stands r.line.number b

    m : Moves t r (receiver_reads t r.line.down r)
    m = moves_reading t r.line.down r

    stays : (x : Option ℕ) → r.line.number ≡ x → (x ≡ None) ⊎ (t ≡ false) → map packet_like r.line.up ≡ [] → ((n : ℕ) → x ≡ Some n → IsIdle n b × (glance_at n b.lines ≡ None)) → Present o k (line_like (receiver_reads t r.line.down r).line) b
    stays x is why up shut = elim m.own [
      | inl gone ↦ absent gone.0 (ap (map packet_like) gone.1)
      | inr kept ↦
          let off : t ≡ false = elim why [
            | inl none ↦ none_stands r.line.number b (is ∙ none)
            | inr it ↦ it
          ] in
          on x is shut (kept.0 ∙ is) (ap (map packet_like) (kept.1 off) ∙ up)
    ]
      where
        on : (x : Option ℕ) → r.line.number ≡ x → ((n : ℕ) → x ≡ Some n → IsIdle n b × (glance_at n b.lines ≡ None)) → (receiver_reads t r.line.down r).line.number ≡ x → map packet_like (receiver_reads t r.line.down r).line.up ≡ []
            → Present o k (line_like (receiver_reads t r.line.down r).line) b
        on None is shut at up = absent at up
        on (Some n) is shut at up = let both = shut n refl in closed n at up both.0 both.1

    by : Present o k (line_like r.line) b → Present o k (line_like (receiver_reads t r.line.down r).line) b
    by (absent none up) = stays None none (inl refl) up (λ n e. absurd cc)
    by (closed n is up idle none) = stays (Some n) is (inr (closed_stands r.line.number n b is none)) up (λ j e. let same : n ≡ j = cc in (subst (λ (z : ℕ). IsIdle z b) same idle, subst (λ (z : ℕ). glance_at z b.lines ≡ None) same none))
    by (waiting n clean is link_is clean_is up down idle there) = waits_reading number o k n clean t r.line.down r b refl (quiet_down number largest copies r b clean h up) is link_is clean_is up down idle there
    by (joined birth own is there) = elim m.own [
      | inl gone ↦ absent gone.0 (ap (map packet_like) gone.1)
      | inr kept ↦ joined birth own (kept.0 ∙ is) there
    ]

-- ---- a call of others

unless_like : (t : Bool) (xs : List Back) → unless_closed t (map packet_like xs) ≡ map packet_like (unless_closed t xs)
unless_like true xs = refl
unless_like false xs = refl

-- what a broker tells looks the same to both
pub told_like : (b : Broker) (out : Outcome) (r : Receiver) → publisher_told b out (publisher_like r) ≡ publisher_like (receiver_told b out r)
told_like b out r =
    let ups = unless_like (is_one_of r.line.number out.closed) r.line.up in
    let olds = unless_like (is_one_of r.line.old_number out.closed) r.line.old in
    λ i. record (publisher_like (receiver_told b out r)) { line = record (line_like (receiver_told b out r).line) { up = ups i; old = olds i } }

-- a call of another's keeps the seat
pub seat_of_others : (limits : Capacity) (choice : MemberChoice) (now : ℕ) (call : Call) (o : Option ℕ) (k : ℕ) (r : Receiver) (b : Broker) → Seat o k (publisher_like r) b → IsNamed r.client
    → IsFarCall r.client k call → IsOff r.line.number call → IsOff r.line.old_number call
    → Seat o k (publisher_like (receiver_told (stepped limits choice now call b) (told limits choice now call b) r)) (stepped limits choice now call b)
seat_of_others limits choice now call o k r b s named far own old =
    let new = stepped limits choice now call b in
    let x = far_step limits choice now call o k (publisher_like r) b [] s (record {
      its = others_of limits choice now call r.client o k b s.his named.plain far;
      own = off_line limits choice now call r.line.number b own;
      old = off_line limits choice now call r.line.old_number b old;
    }) in
    subst (λ (p : Publisher). Seat o k p new) (told_like new (told limits choice now call b) r) x.0

-- ---- it joins by a new line

free_of_new : (x : Option ℕ) → IsOff x NewLine
free_of_new None = tt
free_of_new (Some n) = tt

fresh_idle : (n : ℕ) (x : BrokerLine) (ls : List BrokerLine) → x.session ≡ None → IsBelow line_number n ls → AllByRecursion (HasNobody n) (ls ++ x ∷ [])
fresh_idle n x [] free low = ((λ e. free), tt)
fresh_idle n x (l ∷ ls) free low = let less = low.0 in ((λ e. absurd (omega (arith, e, less))), fresh_idle n x ls free low.1)

unlike : (n m : ℕ) → n < m → nat_eq n m ≡ false
unlike n m less = elim (cases_Bool (nat_eq n m)) [
  | inl same ↦ let is = eqb-true n m same in absurd (omega (arith, is, less))
  | inr other ↦ other
]

fresh_glance : (n now : ℕ) (ls : List BrokerLine) → IsBelow line_number n ls → glance_at n (ls ++ fresh_line n now ∷ []) ≡ waits_there
fresh_glance n now [] low = let it = nat_eq_equiv.refl n in rw it refl
fresh_glance n now (l ∷ ls) low = rw (unlike l.number n low.0) (fresh_glance n now ls low.1)

-- connecting keeps it
pub seat_joined : (limits : Capacity) (choice : MemberChoice) (now : ℕ) (clean : Bool) (o : Option ℕ) (k : ℕ) (r : Receiver) (b : Broker) → Seat o k (publisher_like r) b → IsNamed r.client
    → can_link limits b ≡ true → IsBelow line_number (suc b.given) b.lines
    → Seat o k (publisher_like (receiver_joined limits choice now clean r b)) (stepped limits choice now NewLine b)
seat_joined limits choice now clean o k r b s named can low =
    let n = suc b.given in
    let new = stepped limits choice now NewLine b in
    let out = told limits choice now NewLine b in
    let v = seat_of_others limits choice now NewLine o k r b s named tt (free_of_new r.line.number) (free_of_new r.line.old_number) in
    let is = new_is limits choice now b can in
    let lines : new.lines ≡ b.lines ++ fresh_line n (at_moment now b).now ∷ [] = ap (λ (c : Broker). c.lines) is in
    let given : new.given ≡ n = ap (λ (c : Broker). c.given) is in
    record {
      his = v.his;
      present = waiting n clean refl refl refl refl refl
          (record {
            lines = subst (λ (ls : List BrokerLine). AllByRecursion (HasNobody n) ls) (sym lines) (fresh_idle n (fresh_line n (at_moment now b).now) b.lines refl low);
            given = subst (λ (m : ℕ). n ≤ m) (sym given) (omega arith);
          })
          (ap (glance_at n) lines ∙ fresh_glance n (at_moment now b).now b.lines low);
      former = former_as o k (line_like (receiver_told new out r).line) (line_like (receiver_joined limits choice now clean r b).line) new refl refl v.former;
    }
