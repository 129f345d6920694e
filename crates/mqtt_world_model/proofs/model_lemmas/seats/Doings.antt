-- Where a publisher is after its own doings: it publishes, reads a packet, gives its line up, or joins by a new one.
use Rattle.std.proofs.Common.{◌≡◌, ℕ, suc, ◌≤◌, Bool, true, false, cond, ◌⊎◌, if◌then◌else◌, List, [], ◌∷◌, ◌++◌, map, length, Option, Some, None, nat_lt, refl, sym, ap, subst, ◌∙◌, arith, inl, inr}
use Rattle.std.specs.Prelude.{option_map, filter_map, is_some}
use Rattle.std.specs.List.{AllByRecursion, cons_option}
use Rattle.std.proofs.lemmas.Bool.{cases_Bool}
use Rattle.std.proofs.lemmas.Cmp.{nat_eq_equiv}
use Rattle.mqtt_base.specs.declared.session.Qos.{Qos as Quality}
use Rattle.mqtt_base.specs.declared.session.Qos.TheVariants.{AtMostOnce, AtLeastOnce, ExactlyOnce}
use Rattle.mqtt_base.specs.declared.limits.TheConstants.{OPEN_LIMIT}
use Rattle.mqtt_records.specs.lists.Order.{IsBelow}
use Rattle.mqtt_records.proofs.lists_lemmas.OrderLemmas.{apart}
use Rattle.mqtt_flow.specs.inbound.Identifiers.{free_identifier}
use Rattle.mqtt_flow.specs.inbound.Line.{Link, away, asked, live, sent_on}
use Rattle.mqtt_flow.specs.inbound.Publisher.{Qos, qos_1, qos_2, first_packet, CONNECT, PUBLISH_1, PUBLISH_2, PUBREL, ToPublisher, CONNACK, CONNACK_REFUSED, PUBACK, PUBREC, PUBCOMP, DISCONNECT, in_flight, resent_from, on_new_session, on_puback, on_pubrec, on_pubcomp, pubrel_for, IsHeard, HasNoConnect, IsConnectAlone}
use Rattle.mqtt_flow.specs.inbound.InboundWorld.{World as Hop, Event as HopEvent, publish, connect, give_up, step, run, Heard, ConnectsAlone}
use Rattle.mqtt_flow.specs.inbound.InboundWorld as hop
use Rattle.mqtt_flow.proofs.inbound_lemmas.inbound.Heard.{alone_run, heard_run}
use Rattle.mqtt_rules.specs.declared.step.Capacity.{Capacity}
use Rattle.mqtt_rules.specs.step.State.{MemberChoice, Line as BrokerLine, Broker, line_at}
use Rattle.mqtt_rules.specs.step.Deeds.{Link as Linked, Deed, fresh_line, after_all, rows_of_all}
use Rattle.mqtt_rules.specs.step.Lines.{line_number}
use Rattle.mqtt_rules.specs.step.Step.{NewLine, at_moment, deeds, stepped, told}
use Rattle.mqtt_world_model.specs.model.Lines.{Line, Down, stands, given_up, gives_up, told_by}
use Rattle.mqtt_world_model.specs.model.Ends.{Content, Draft, Sent, shake, plain, Publisher, goes, goes_out, send_one, send_all, send_unsent, published, heard, reads_connack, reads, reads_if, publisher_reads, connected}
use Rattle.mqtt_world_model.specs.model.Seen.{qos_of_draft, shaken, heard_in, is_linked, seen}
use Rattle.mqtt_world_model.specs.model.Hops.{IsNoConnect, IsRun, MayGiveUp, MayJoin, joined_by}
use Rattle.mqtt_world_model.specs.model.Seats.{Comes, Does, Former, HasNobody, IsFull, IsHis, IsNamed, IsOff, IsSettled, Present, Seat, absent, closed, glance, glance_at, joined, late, lingers, over, waiting, waits_there}
use Rattle.mqtt_world_model.proofs.model_lemmas.others.Quiet.{session_on}
use Rattle.mqtt_world_model.proofs.model_lemmas.seats.Seeing.{done_lines, linked_of, linked_is}
use Rattle.mqtt_world_model.proofs.model_lemmas.others.Frame.{kept_given}
use Rattle.mqtt_world_model.proofs.model_lemmas.seats.Sends.{publish_seen, give_up_seen, to_end_seen, send_unsent_seen, blocked, hop_blocked}
use Rattle.mqtt_world_model.proofs.model_lemmas.seats.Joins.{join_is_hop}
use Rattle.mqtt_world_model.proofs.model_lemmas.seats.Seats.{remains, remains_done, former_stays, idle_linked}
use Rattle.mqtt_world_model.proofs.model_lemmas.own.Calls.{others_of, off_line, moved}

-- ---- what stays of its line

record StaysOn (t : Bool) (x y : Line Sent) : Type 0 where
  pub number : y.number ≡ x.number
  pub old_number : y.old_number ≡ x.old_number
  pub old : y.old ≡ x.old
  pub up : t ≡ false → y.up ≡ x.up

on_same : (t : Bool) (x : Line Sent) → StaysOn t x x
on_same t x = record { number = refl; old_number = refl; old = refl; up = λ e. refl }

on_then : (t : Bool) (x y z : Line Sent) → StaysOn t x y → StaysOn t y z → StaysOn t x z
on_then t x y z p q = record { number = q.number ∙ p.number; old_number = q.old_number ∙ p.old_number; old = q.old ∙ p.old; up = λ e. q.up e ∙ p.up e }

unsent_up : (t : Bool) (up xs : List Sent) → t ≡ false → sent_on t up xs ≡ up
unsent_up true up xs e = absurd cc
unsent_up false up xs e = refl

on_goes : (t : Bool) (xs : List Sent) (x : Line Sent) → StaysOn t x (goes t xs x)
on_goes t xs x = record { number = refl; old_number = refl; old = refl; up = unsent_up t x.up xs }

-- messages that go out
record Sends (t : Bool) (p q : Publisher) : Type 0 where
  pub client : q.client ≡ p.client
  pub link : q.line.link ≡ p.line.link
  pub line : StaysOn t p.line q.line

sends_out : (t : Bool) (k : Quality) (c : Content) (rest : List Draft) (p : Publisher) → Sends t p (goes_out t k c rest p)
sends_out t AtMostOnce c rest p = record { client = refl; link = refl; line = on_goes t (plain c ∷ []) p.line }
sends_out t AtLeastOnce c rest p = record { client = refl; link = refl; line = on_goes t (shake (first_packet qos_1 (free_identifier (in_flight p.fates)) (length p.fates)) ∷ []) p.line }
sends_out t ExactlyOnce c rest p = record { client = refl; link = refl; line = on_goes t (shake (first_packet qos_2 (free_identifier (in_flight p.fates)) (length p.fates)) ∷ []) p.line }

sends_if : (z t : Bool) (v p : Publisher) → Sends t p v → Sends t p (if z then v else p)
sends_if true t v p h = h
sends_if false t v p h = record { client = refl; link = refl; line = on_same t p.line }

sends_all : (t : Bool) (ds : List Draft) (p : Publisher) → Sends t p (send_all t ds p)
sends_all t [] p = record { client = refl; link = refl; line = on_same t p.line }
sends_all t (d ∷ rest) p =
    let one = sends_if (nat_lt (length (in_flight p.fates)) OPEN_LIMIT) t (goes_out t d.qos d.content rest p) p (sends_out t d.qos d.content rest p) in
    let more = sends_all t rest (send_one t d rest p) in
    record { client = more.client ∙ one.client; link = more.link ∙ one.link; line = on_then t p.line (send_one t d rest p).line (send_all t rest (send_one t d rest p)).line one.line more.line }

sends_unsent : (t : Bool) (link : Link) (p : Publisher) → Sends t p (send_unsent t link p)
sends_unsent t away p = record { client = refl; link = refl; line = on_same t p.line }
sends_unsent t asked p = record { client = refl; link = refl; line = on_same t p.line }
sends_unsent t live p = sends_all t p.unsent p

-- ---- once CONNACK was read, all has gone out, or the Receive Maximum is reached

out_unsent : (t : Bool) (k : Quality) (c : Content) (rest : List Draft) (p : Publisher) → (goes_out t k c rest p).unsent ≡ rest
out_unsent t AtMostOnce c rest p = refl
out_unsent t AtLeastOnce c rest p = refl
out_unsent t ExactlyOnce c rest p = refl

settles : (b : Broker) (t : Bool) (ds : List Draft) (p : Publisher) → p.unsent ≡ ds → ((send_all t ds p).unsent ≡ []) ⊎ IsFull (send_all t ds p)
settles b t [] p e = inl e
settles b t (d ∷ rest) p e = elim (cases_Bool (nat_lt (length (in_flight p.fates)) OPEN_LIMIT)) [
  | inl free ↦
      let first : send_one t d rest p ≡ goes_out t d.qos d.content rest p = ap (λ (z : Bool). if z then goes_out t d.qos d.content rest p else p) free in
      subst (λ (x : Publisher). ((send_all t rest x).unsent ≡ []) ⊎ IsFull (send_all t rest x)) (sym first)
      (settles b t rest (goes_out t d.qos d.content rest p) (out_unsent t d.qos d.content rest p))
  | inr full ↦ inr (ap (λ (x : Publisher). nat_lt (length (in_flight x.fates)) OPEN_LIMIT) (blocked [] b t (d ∷ rest) p full) ∙ full)
]

settled_by : (b : Broker) (t : Bool) (link : Link) (p : Publisher) → p.line.link ≡ link → IsSettled (send_unsent t link p)
settled_by b t away p is = λ e. let clash : away ≡ live = sym is ∙ e in absurd cc
settled_by b t asked p is = λ e. let clash : asked ≡ live = sym is ∙ e in absurd cc
settled_by b t live p is = λ e. settles b t p.unsent p refl

-- ---- it publishes

abbrev more_of : Draft → Publisher → Publisher
more_of d p = record p { unsent = p.unsent ++ d ∷ [] }

-- a message of QoS 0 is no event
plain_seen : (accepted : List ℕ) (b : Broker) (t : Bool) (d : Draft) (p : Publisher) → qos_of_draft d ≡ None → IsSettled p → is_linked p.line.number b ≡ t → seen accepted (published t d p) b ≡ seen accepted p b
plain_seen accepted b t d p none settled agrees = by p.line.link refl
  where
    unsents : filter_map qos_of_draft (p.unsent ++ d ∷ []) ≡ filter_map qos_of_draft p.unsent
    unsents = appended p.unsent
      where
        appended : (xs : List Draft) → filter_map qos_of_draft (xs ++ d ∷ []) ≡ filter_map qos_of_draft xs
        appended [] = ap (λ (o : Option Qos). cons_option o []) none
        appended (x ∷ xs) = ap (cons_option (qos_of_draft x)) (appended xs)

    same : seen accepted (more_of d p) b ≡ seen accepted p b
    same = λ i. record (seen accepted p b) { unsent = unsents i }

    nothing : (p.unsent ≡ []) ⊎ IsFull p → hop.send_all (filter_map qos_of_draft p.unsent) (seen accepted p b) ≡ seen accepted p b
    nothing (inl e) = ap (λ (xs : List Draft). hop.send_all (filter_map qos_of_draft xs) (seen accepted p b)) e
    nothing (inr full) = hop_blocked accepted b t (filter_map qos_of_draft p.unsent) (seen accepted p b) full

    by : (link : Link) → p.line.link ≡ link → seen accepted (published t d p) b ≡ seen accepted p b
    by away is = ap (λ (x : Link). seen accepted (send_unsent t x (more_of d p)) b) is ∙ same
    by asked is = ap (λ (x : Link). seen accepted (send_unsent t x (more_of d p)) b) is ∙ same
    by live is =
        ap (λ (x : Link). seen accepted (send_unsent t x (more_of d p)) b) is
        ∙ (send_unsent_seen accepted b t live (more_of d p) agrees
        ∙ (ap (λ (w : Hop). hop.send_all w.unsent w) same ∙ nothing (settled is)))

published_events : (accepted : List ℕ) (b : Broker) (t : Bool) (d : Draft) (p : Publisher) → IsSettled p → is_linked p.line.number b ≡ t
    → (es : List HopEvent) × (seen accepted (published t d p) b ≡ run es (seen accepted p b))
published_events accepted b t d p settled agrees = by (qos_of_draft d) refl
  where
    by : (o : Option Qos) → qos_of_draft d ≡ o → (es : List HopEvent) × (seen accepted (published t d p) b ≡ run es (seen accepted p b))
    by None is = ([], plain_seen accepted b t d p is settled agrees)
    by (Some q) is = (publish q ∷ [], publish_seen accepted b t d q p is agrees)

-- its line stands exactly if its session is connected there, or it waits for CONNECT
no_line_there : (n : ℕ) (b : Broker) → glance_at n b.lines ≡ None → stands (Some n) b ≡ false
no_line_there n b h = by (line_at n b) h
  where
    by : (o : Option BrokerLine) → option_map glance o ≡ None → is_some o ≡ false
    by None e = refl
    by (Some l) e = absurd cc

some_line_there : (k : ℕ) (x : Option ℕ) (b : Broker) → session_on k b.lines ≡ Some x → stands (Some k) b ≡ true
some_line_there k x b h = by (line_at k b) h
  where
    by : (o : Option BrokerLine) → option_map (λ (l : BrokerLine). l.session) o ≡ Some x → is_some o ≡ true
    by None e = absurd cc
    by (Some l) e = refl

-- the publisher sees its line as the broker has it, or waits for its CONNACK
pub agrees_or_waits : (o : Option ℕ) (k : ℕ) (l : Line Sent) (b : Broker) → Present o k l b → (is_linked l.number b ≡ stands l.number b) ⊎ ((l.link ≡ asked) × (filter_map heard_in l.down ≡ []))
agrees_or_waits o k l b (absent none up) = inl (ap (λ (x : Option ℕ). is_linked x b) none ∙ sym (ap (λ (x : Option ℕ). stands x b) none))
agrees_or_waits o k l b (waiting n clean is link_is clean_is up down idle there) = inr (link_is, down)
agrees_or_waits o k l b (closed n is up idle none) =
    inl (ap (λ (x : Option ℕ). is_linked x b) is ∙ (idle_linked n b idle ∙ (sym (no_line_there n b none) ∙ sym (ap (λ (x : Option ℕ). stands x b) is))))
agrees_or_waits o k l b (joined birth own is there) =
    inl (ap (λ (x : Option ℕ). is_linked x b) is ∙ (linked_is k b ∙ (ap linked_of there ∙ (sym (some_line_there k (Some birth) b there) ∙ sym (ap (λ (x : Option ℕ). stands x b) is)))))

-- where it is, once some of its line has stayed
present_stays : (o : Option ℕ) (k : ℕ) (t : Bool) (x y : Line Sent) (b : Broker) → StaysOn t x y → stands x.number b ≡ t → (x.link ≡ asked → ⊥) → Present o k x b → Present o k y b
present_stays o k t x y b s is not_asked (absent none up) = absent (s.number ∙ none) (s.up (sym is ∙ ap (λ (z : Option ℕ). stands z b) none) ∙ up)
present_stays o k t x y b s is not_asked (waiting n clean at link_is clean_is up down idle there) = absurd (not_asked link_is)
present_stays o k t x y b s is not_asked (closed n at up idle none) =
    closed n (s.number ∙ at) (s.up (sym is ∙ (ap (λ (z : Option ℕ). stands z b) at ∙ no_line_there n b none)) ∙ up) idle none
present_stays o k t x y b s is not_asked (joined birth own at there) = joined birth own (s.number ∙ at) there

former_like : (o : Option ℕ) (k : ℕ) (x y : Line Sent) (b : Broker) → y.old_number ≡ x.old_number → y.old ≡ x.old → Former o k x b → Former o k y b
former_like o k x y b e f (over none) = over (f ∙ none)
former_like o k x y b e f (late m is old idle there) = late m (e ∙ is) (f ∙ old) idle there
former_like o k x y b e f (lingers birth own is calm there) = lingers birth own (e ∙ is) (subst (λ (xs : List Sent). AllByRecursion IsNoConnect xs) (sym f) calm) there

his_like : (client other : List ℕ) (o : Option ℕ) (k : ℕ) (b : Broker) → other ≡ client → IsHis client o k b → IsHis other o k b
his_like client other o k b e h = subst (λ (c : List ℕ). IsHis c o k b) (sym e) h

is_asked : (l : Link) → (l ≡ asked) ⊎ (l ≡ asked → ⊥)
is_asked away = inr (λ e. absurd cc)
is_asked asked = inl refl
is_asked live = inr (λ e. absurd cc)

present_like : (o : Option ℕ) (k : ℕ) (x y : Line Sent) (b : Broker) → y.number ≡ x.number → y.link ≡ x.link → y.clean ≡ x.clean → y.up ≡ x.up → filter_map heard_in y.down ≡ filter_map heard_in x.down → Present o k x b → Present o k y b
present_like o k x y b e f g h d (absent none up) = absent (e ∙ none) (h ∙ up)
present_like o k x y b e f g h d (waiting n clean at link_is clean_is up down idle there) = waiting n clean (e ∙ at) (f ∙ link_is) (g ∙ clean_is) (h ∙ up) (d ∙ down) idle there
present_like o k x y b e f g h d (closed n at up idle none) = closed n (e ∙ at) (h ∙ up) idle none
present_like o k x y b e f g h d (joined birth own at there) = joined birth own (e ∙ at) there

-- publishing is a step of the hop
pub publishes : (o : Option ℕ) (k : ℕ) (d : Draft) (p : Publisher) (b : Broker) (accepted : List ℕ) → Seat o k p b → IsSettled p → Does o k p (published (stands p.line.number b) d p) b accepted
publishes o k d p b accepted seat settled = by p.line.link refl (agrees_or_waits o k p.line b seat.present)
  where
    by : (link : Link) → p.line.link ≡ link → (is_linked p.line.number b ≡ stands p.line.number b) ⊎ ((p.line.link ≡ asked) × (filter_map heard_in p.line.down ≡ [])) → Does o k p (published (stands p.line.number b) d p) b accepted
    by link is (inl agrees) =
        let s = sends_unsent (stands p.line.number b) p.line.link (more_of d p) in
        let x = published_events accepted b (stands p.line.number b) d p settled agrees in
        record {
          client = s.client;
          seat = record {
            his = his_like p.client (published (stands p.line.number b) d p).client o k b s.client seat.his;
            present = elim (is_asked p.line.link) [
              | inl waits ↦ subst (λ (z : Link). Present o k (send_unsent (stands p.line.number b) z (more_of d p)).line b) (sym waits) seat.present
              | inr other ↦ present_stays o k (stands p.line.number b) p.line (published (stands p.line.number b) d p).line b s.line refl other seat.present
            ];
            former = former_like o k p.line (published (stands p.line.number b) d p).line b s.line.old_number s.line.old seat.former;
          };
          settled = settled_by b (stands p.line.number b) p.line.link (more_of d p) refl;
          number = inl s.line.number;
          old_number = inl s.line.old_number;
          events = x.0;
          seen_is = x.1;
        }
    by link is (inr both) =
        let v = is_linked p.line.number b in
        let x = published_events accepted b v d p settled refl in
        let same : published (stands p.line.number b) d p ≡ published v d p = ap (λ (z : Link). send_unsent (stands p.line.number b) z (more_of d p)) both.0 ∙ sym (ap (λ (z : Link). send_unsent v z (more_of d p)) both.0) in
        let plain_is : published (stands p.line.number b) d p ≡ (more_of d p) = ap (λ (z : Link). send_unsent (stands p.line.number b) z (more_of d p)) both.0 in
        record {
          client = ap (λ (z : Publisher). z.client) plain_is;
          seat = subst (λ (z : Publisher). Seat o k z b) (sym plain_is) (record { his = seat.his; present = seat.present; former = seat.former });
          settled = settled_by b (stands p.line.number b) p.line.link (more_of d p) refl;
          number = inl (ap (λ (z : Publisher). z.line.number) plain_is);
          old_number = inl (ap (λ (z : Publisher). z.line.old_number) plain_is);
          events = x.0;
          seen_is = ap (λ (z : Publisher). seen accepted z b) same ∙ x.1;
        }

-- ---- it reads a packet

record ReadsOn (t : Bool) (p q : Publisher) : Type 0 where
  pub client : q.client ≡ p.client
  pub settled : IsSettled q
  pub line : StaysOn t p.line q.line ⊎ ((q.line.number ≡ None) × (q.line.up ≡ []) × (q.line.old_number ≡ p.line.old_number) × (q.line.old ≡ p.line.old))

by_sends : (b : Broker) (t : Bool) (link : Link) (p v : Publisher) → v.client ≡ p.client → StaysOn t p.line v.line → v.line.link ≡ link → ReadsOn t p (send_unsent t link v)
by_sends b t link p v c s is =
    let x = sends_unsent t link v in
    record { client = x.client ∙ c; settled = settled_by b t link v is; line = inl (on_then t p.line v.line (send_unsent t link v).line s x.line) }

reads_connack_on : (b : Broker) (t : Bool) (link : Link) (present : Bool) (p : Publisher) → p.line.link ≡ link → IsSettled p → ReadsOn t p (reads_connack t link present p)
reads_connack_on b t away present p is settled = record { client = refl; settled = settled; line = inl (on_same t p.line) }
reads_connack_on b t live present p is settled = record { client = refl; settled = settled; line = inl (on_same t p.line) }
reads_connack_on b t asked true p is settled =
    by_sends b t live p (record p { line = goes t (map shake (resent_from 0 p.fates)) (connected p.line) }) refl
    (record { number = refl; old_number = refl; old = refl; up = unsent_up t p.line.up (map shake (resent_from 0 p.fates)) }) refl
reads_connack_on b t asked false p is settled =
    by_sends b t live p (record p { fates = map on_new_session p.fates; line = connected p.line }) refl
    (record { number = refl; old_number = refl; old = refl; up = λ e. refl }) refl

reads_on : (b : Broker) (t : Bool) (packet : ToPublisher) (p : Publisher) → IsSettled p → ReadsOn t p (reads t packet p)
reads_on b t (CONNACK present) p settled = reads_connack_on b t p.line.link present p refl settled
reads_on b t (CONNACK_REFUSED code) p settled = record { client = refl; settled = λ e. let clash : away ≡ live = e in absurd cc; line = inr (refl, refl, refl, refl) }
reads_on b t (PUBACK id code) p settled = by_sends b t p.line.link p (record p { fates = map (on_puback id code) p.fates }) refl (on_same t p.line) refl
reads_on b t (PUBREC id code) p settled =
    by_sends b t p.line.link p (record p { fates = map (on_pubrec id code) p.fates; line = goes t (map shake (pubrel_for id code p.fates)) p.line }) refl
    (on_goes t (map shake (pubrel_for id code p.fates)) p.line) refl
reads_on b t (PUBCOMP id code) p settled = by_sends b t p.line.link p (record p { fates = map (on_pubcomp id) p.fates }) refl (on_same t p.line) refl
reads_on b t (DISCONNECT code) p settled = record { client = refl; settled = λ e. let clash : away ≡ live = e in absurd cc; line = inr (refl, refl, refl, refl) }

reads_first : (b : Broker) (t : Bool) (x : Option ToPublisher) (rest : List Down) (p : Publisher) → IsSettled p → ReadsOn t p (reads_if t x (record p { line = record p.line { down = rest } }))
reads_first b t None rest p settled = record { client = refl; settled = settled; line = inl (record { number = refl; old_number = refl; old = refl; up = λ e. refl }) }
reads_first b t (Some packet) rest p settled =
    let q : Publisher = record p { line = record p.line { down = rest } } in
    let r = reads_on b t packet q settled in
    record { client = r.client; settled = r.settled; line = near r.line }
  where
    near : StaysOn t (record p.line { down = rest }) (reads t packet (record p { line = record p.line { down = rest } })).line
        ⊎ (((reads t packet (record p { line = record p.line { down = rest } })).line.number ≡ None) × ((reads t packet (record p { line = record p.line { down = rest } })).line.up ≡ []) × ((reads t packet (record p { line = record p.line { down = rest } })).line.old_number ≡ p.line.old_number) × ((reads t packet (record p { line = record p.line { down = rest } })).line.old ≡ p.line.old))
        → StaysOn t p.line (reads t packet (record p { line = record p.line { down = rest } })).line
        ⊎ (((reads t packet (record p { line = record p.line { down = rest } })).line.number ≡ None) × ((reads t packet (record p { line = record p.line { down = rest } })).line.up ≡ []) × ((reads t packet (record p { line = record p.line { down = rest } })).line.old_number ≡ p.line.old_number) × ((reads t packet (record p { line = record p.line { down = rest } })).line.old ≡ p.line.old))
    near (inl s) = inl (record { number = s.number; old_number = s.old_number; old = s.old; up = s.up })
    near (inr h) = inr h

reads_all : (b : Broker) (t : Bool) (ds : List Down) (p : Publisher) → IsSettled p → ReadsOn t p (publisher_reads t ds p)
reads_all b t [] p settled = record { client = refl; settled = settled; line = inl (on_same t p.line) }
reads_all b t (d ∷ rest) p settled = reads_first b t (heard d.packet) rest p settled

-- one that it passes over, while its line waits
waits_on : (o : Option ℕ) (k : ℕ) (t : Bool) (ds : List Down) (p : Publisher) (b : Broker) (accepted : List ℕ) → Seat o k p b → IsSettled p → p.line.down ≡ ds → filter_map heard_in p.line.down ≡ []
    → Does o k p (publisher_reads t ds p) b accepted
waits_on o k t [] p b accepted seat settled is none = record { client = refl; seat = seat; settled = settled; number = inl refl; old_number = inl refl; events = []; seen_is = refl }
waits_on o k t (d ∷ rest) p b accepted seat settled is none = by (heard d.packet) refl (sym (ap (filter_map heard_in) is) ∙ none)
  where
    by : (x : Option ToPublisher) → heard d.packet ≡ x → cons_option (heard d.packet) (filter_map heard_in rest) ≡ [] → Does o k p (reads_if t (heard d.packet) (record p { line = record p.line { down = rest } })) b accepted
    by (Some packet) e h = let clash : packet ∷ filter_map heard_in rest ≡ [] = sym (ap (λ (z : Option ToPublisher). cons_option z (filter_map heard_in rest)) e) ∙ h in absurd cc
    by None e h =
        let q : Publisher = record p { line = record p.line { down = rest } } in
        let empty : filter_map heard_in rest ≡ [] = sym (ap (λ (z : Option ToPublisher). cons_option z (filter_map heard_in rest)) e) ∙ h in
        let downs = empty ∙ sym none in
        let c : Does o k p q b accepted = record {
          client = refl;
          seat = record { his = seat.his; present = present_like o k p.line q.line b refl refl refl refl downs seat.present; former = former_like o k p.line q.line b refl refl seat.former };
          settled = settled;
          number = inl refl;
          old_number = inl refl;
          events = [];
          seen_is = λ i. record (seen accepted p b) { down = downs i };
        } in
        subst (λ (z : Option ToPublisher). Does o k p (reads_if t z q) b accepted) (sym e) c

-- reading is a step of the hop
pub hears : (o : Option ℕ) (k : ℕ) (p : Publisher) (b : Broker) (accepted : List ℕ) → Seat o k p b → IsSettled p → Does o k p (publisher_reads (stands p.line.number b) p.line.down p) b accepted
hears o k p b accepted seat settled = by seat.present (agrees_or_waits o k p.line b seat.present)
  where
    waits : (n : ℕ) (clean : Bool) → filter_map heard_in p.line.down ≡ [] → Does o k p (publisher_reads (stands p.line.number b) p.line.down p) b accepted
    waits n clean down = waits_on o k (stands p.line.number b) p.line.down p b accepted seat settled refl down

    reads_there : is_linked p.line.number b ≡ stands p.line.number b → (StaysOn (stands p.line.number b) p.line (publisher_reads (stands p.line.number b) p.line.down p).line → Present o k (publisher_reads (stands p.line.number b) p.line.down p).line b) → Does o k p (publisher_reads (stands p.line.number b) p.line.down p) b accepted
    reads_there agrees here =
        let r = reads_all b (stands p.line.number b) p.line.down p settled in
        let x = to_end_seen accepted b (stands p.line.number b) p agrees in
        let his = his_like p.client (publisher_reads (stands p.line.number b) p.line.down p).client o k b r.client seat.his in
        elim r.line [
          | inl s ↦ record {
            client = r.client;
            seat = record { his = his; present = here s; former = former_like o k p.line (publisher_reads (stands p.line.number b) p.line.down p).line b s.old_number s.old seat.former };
            settled = r.settled;
            number = inl s.number;
            old_number = inl s.old_number;
            events = x.0;
            seen_is = x.1;
          }
          | inr gone ↦ record {
            client = r.client;
            seat = record { his = his; present = absent gone.0 gone.1; former = former_like o k p.line (publisher_reads (stands p.line.number b) p.line.down p).line b gone.2 gone.3 seat.former };
            settled = r.settled;
            number = inr gone.0;
            old_number = inl gone.2;
            events = x.0;
            seen_is = x.1;
          }
        ]

    by : Present o k p.line b → (is_linked p.line.number b ≡ stands p.line.number b) ⊎ ((p.line.link ≡ asked) × (filter_map heard_in p.line.down ≡ [])) → Does o k p (publisher_reads (stands p.line.number b) p.line.down p) b accepted
    by x (inr both) = waits 0 true both.1
    by (waiting n clean at link_is clean_is up down idle there) (inl agrees) = waits n clean down
    by (absent none up) (inl agrees) = reads_there agrees (λ s. absent (s.number ∙ none) (s.up (ap (λ (z : Option ℕ). stands z b) none) ∙ up))
    by (closed n at up idle none) (inl agrees) =
        reads_there agrees (λ s. closed n (s.number ∙ at) (s.up (ap (λ (z : Option ℕ). stands z b) at ∙ no_line_there n b none) ∙ up) idle none)
    by (joined birth own at there) (inl agrees) = reads_there agrees (λ s. joined birth own (s.number ∙ at) there)

-- ---- it gives its line up

all_calm : (xs : List Sent) → HasNoConnect (filter_map shaken xs) → AllByRecursion IsNoConnect xs
all_calm [] h = tt
all_calm (plain c ∷ xs) h = (tt, all_calm xs h)
all_calm (shake (CONNECT clean) ∷ xs) h = absurd h
all_calm (shake (PUBLISH_1 id n dup) ∷ xs) h = (tt, all_calm xs h)
all_calm (shake (PUBLISH_2 id n dup) ∷ xs) h = (tt, all_calm xs h)
all_calm (shake (PUBREL id) ∷ xs) h = (tt, all_calm xs h)

calm_up : (linked : Bool) (xs : List Sent) → linked ≡ true → IsHeard linked (filter_map shaken xs) → IsConnectAlone (filter_map shaken xs) → AllByRecursion IsNoConnect xs
calm_up linked [] is h a = tt
calm_up linked (plain c ∷ xs) is h a = (tt, calm_up linked xs is h a)
calm_up linked (shake (CONNECT clean) ∷ xs) is h a = let clash : true ≡ false = sym is ∙ h in absurd cc
calm_up linked (shake (PUBLISH_1 id n dup) ∷ xs) is h a = (tt, all_calm xs a)
calm_up linked (shake (PUBLISH_2 id n dup) ∷ xs) is h a = (tt, all_calm xs a)
calm_up linked (shake (PUBREL id) ∷ xs) is h a = (tt, all_calm xs a)

run_calm : (accepted : List ℕ) (p : Publisher) (b : Broker) → IsRun accepted p b → is_linked p.line.number b ≡ true → AllByRecursion IsNoConnect p.line.up
run_calm accepted p b r linked =
    let h : Heard (seen accepted p b) = subst Heard (sym r.seen_is) (heard_run r.events) in
    let a : ConnectsAlone (seen accepted p b) = subst ConnectsAlone (sym r.seen_is) (alone_run r.events) in
    calm_up (is_linked p.line.number b) p.line.up linked h a.0

-- giving up is a step of the hop
pub gives : (o : Option ℕ) (k : ℕ) (p : Publisher) (b : Broker) (accepted : List ℕ) → Seat o k p b → IsSettled p → IsRun accepted p b → MayGiveUp p.line.link p.line.clean
    → Does o k p (record p { line = gives_up p.line.link p.line }) b accepted
gives o k p b accepted seat settled r may = by p.line.link refl
  where
    given : (p.line.link ≡ asked → p.line.clean ≡ false) → Present o k p.line b → Former o k (given_up p.line) b
    given c (absent none up) = over up
    given c (closed n is up idle none) = over up
    given c (waiting n clean is link_is clean_is up down idle there) =
        let not_clean : clean ≡ false = sym clean_is ∙ c link_is in
        late n is (up ∙ ap (λ (t : Bool). shake (CONNECT t) ∷ []) not_clean) idle there
    given c (joined birth own is there) =
        let linked : is_linked p.line.number b ≡ true = ap (λ (x : Option ℕ). is_linked x b) is ∙ (linked_is k b ∙ ap linked_of there) in
        lingers birth own is (run_calm accepted p b r linked) there

    parted : (link : Link) → p.line.link ≡ link → gives_up link p.line ≡ given_up p.line → (p.line.link ≡ asked → p.line.clean ≡ false) → Does o k p (record p { line = gives_up link p.line }) b accepted
    parted link is same c =
        let e : seen accepted (record p { line = gives_up link p.line }) b ≡ step (seen accepted p b) give_up =
        ap (λ (x : Link). seen accepted (record p { line = gives_up x p.line }) b) (sym is) ∙ give_up_seen accepted b true p may in
        let former = given c seat.present in
        let x : Does o k p (record p { line = given_up p.line }) b accepted = record {
          client = refl;
          seat = record { his = seat.his; present = absent refl refl; former = former };
          settled = λ f. let clash : away ≡ live = f in absurd cc;
          number = inr refl;
          old_number = inr (refl, refl);
          events = give_up ∷ [];
          seen_is = ap (λ (l : Line Sent). seen accepted (record p { line = l }) b) (sym same) ∙ e;
        } in
        subst (λ (l : Line Sent). Does o k p (record p { line = l }) b accepted) (sym same) x

    by : (link : Link) → p.line.link ≡ link → Does o k p (record p { line = gives_up p.line.link p.line }) b accepted
    by away is = subst (λ (x : Link). Does o k p (record p { line = gives_up x p.line }) b accepted) (sym is)
        (record { client = refl; seat = seat; settled = settled; number = inl refl; old_number = inl refl; events = []; seen_is = refl })
    by asked is = subst (λ (x : Link). Does o k p (record p { line = gives_up x p.line }) b accepted) (sym is)
        (parted asked is refl (λ f. subst (λ (x : Link). MayGiveUp x p.line.clean) is may))
    by live is = subst (λ (x : Link). Does o k p (record p { line = gives_up x p.line }) b accepted) (sym is)
        (parted live is refl (λ f. let clash : live ≡ asked = sym is ∙ f in absurd cc))

-- ---- it joins by a new line

fresh_idle : (n : ℕ) (x : BrokerLine) (ls : List BrokerLine) → x.session ≡ None → IsBelow line_number n ls → AllByRecursion (HasNobody n) (ls ++ x ∷ [])
fresh_idle n x [] free low = ((λ e. free), tt)
fresh_idle n x (l ∷ ls) free low = let less = low.0 in ((λ e. absurd (omega (arith, e, less))), fresh_idle n x ls free low.1)

fresh_glance : (n now : ℕ) (ls : List BrokerLine) → IsBelow line_number n ls → glance_at n (ls ++ fresh_line n now ∷ []) ≡ waits_there
fresh_glance n now [] low = let it = nat_eq_equiv.refl n in rw it refl
fresh_glance n now (l ∷ ls) low = let less = low.0 in rw (apart l.number n (λ same. omega (arith, same, less))) (fresh_glance n now ls low.1)

-- connecting is a step of the hop
pub joins : (limits : Capacity) (choice : MemberChoice) (now : ℕ) (clean : Bool) (o : Option ℕ) (k : ℕ) (p : Publisher) (b : Broker) (accepted : List ℕ)
    → Seat o k p b → IsNamed p.client → MayJoin limits clean p b
    → Comes k p (joined_by limits choice now clean p b) b (stepped limits choice now NewLine b) accepted accepted
joins limits choice now clean o k p b accepted seat named may =
    let ds = deeds limits choice now NewLine b in
    let start = at_moment now b in
    let new = stepped limits choice now NewLine b in
    let out = told limits choice now NewLine b in
    let rows = rows_of_all ds start.records in
    let n = suc b.given in
    let its = others_of limits choice now NewLine p.client o k b seat.his named.plain tt in
    let r = remains_done p.client o k rows start (after_all ds start) (remains p.client o k ds start (moved p.client o k now b seat.his) its) in
    let is : ds ≡ Linked n ∷ [] = ap (λ (t : Bool). cond t (Linked n ∷ []) []) may.can in
    let lines : new.lines ≡ b.lines ++ fresh_line n start.now ∷ [] = done_lines rows (after_all ds start) ∙ ap (λ (xs : List Deed). (after_all xs start).lines) is in
    let given : new.given ≡ n = kept_given rows (after_all ds start) ∙ ap (λ (xs : List Deed). (after_all xs start).given) is in
    let q = joined_by limits choice now clean p b in
    record {
      birth = o;
      line = k;
      seat = record {
        his = r.his;
        present = waiting n clean refl refl refl refl refl
            (record { lines = subst (λ (ls : List BrokerLine). AllByRecursion (HasNobody n) ls) (sym lines) (fresh_idle n (fresh_line n start.now) b.lines refl may.given); given = subst (λ (m : ℕ). n ≤ m) (sym given) (omega arith) })
            (ap (glance_at n) lines ∙ fresh_glance n start.now b.lines may.given);
        former = still (former_stays limits choice now NewLine p.client o k p.line b (off_line limits choice now NewLine p.line.old_number b (free p.line.old_number)) its seat.former);
      };
      its_line = inl refl;
      events = connect clean ∷ [];
      seen_is = join_is_hop limits choice now clean p b accepted may;
    }
  where
    free : (x : Option ℕ) → IsOff x NewLine
    free None = tt
    free (Some n) = tt

    still : Former o k (told_by (stepped limits choice now NewLine b) (told limits choice now NewLine b) p.line) (stepped limits choice now NewLine b)
        → Former o k (joined_by limits choice now clean p b).line (stepped limits choice now NewLine b)
    still (over none) = over none
    still (late m is x idle there) = late m is x idle there
    still (lingers birth own is calm there) = lingers birth own is calm there
