-- What a publisher does and reads is what the publisher of its hop does and reads (MQTT 5.0, 4.3.2, 4.3.3, 4.4, 4.9).
use Rattle.std.proofs.Common.{◌≡◌, ℕ, Bool, true, false, List, [], ◌∷◌, ◌++◌, length, map, Option, Some, None, nat_lt, refl, sym, ap, ◌∙◌, append-nil, inl, inr}
use Rattle.std.specs.Prelude.{filter_map, if◌then◌else◌}
use Rattle.std.specs.List.{cons_option}
use Rattle.std.proofs.lemmas.Bool.{cases_Bool}
use Rattle.std.proofs.lemmas.List.Elements.{filter_map-append}
use Rattle.mqtt_base.specs.declared.session.Qos.{Qos as Quality}
use Rattle.mqtt_base.specs.declared.session.Qos.TheVariants.{AtMostOnce, AtLeastOnce, ExactlyOnce}
use Rattle.mqtt_base.specs.declared.limits.TheConstants.{OPEN_LIMIT}
use Rattle.mqtt_flow.specs.inbound.Line.{Link, away, asked, live, sent_on}
use Rattle.mqtt_flow.specs.inbound.Identifiers.{free_identifier}
use Rattle.mqtt_flow.specs.inbound.Publisher.{Qos, qos_1, qos_2, FromPublisher, ToPublisher, CONNACK, CONNACK_REFUSED, PUBACK, PUBREC, PUBCOMP, DISCONNECT, in_flight, first_fate, first_packet, resent_from, on_new_session, on_puback, on_pubrec, on_pubcomp, pubrel_for}
use Rattle.mqtt_flow.specs.inbound.InboundWorld.{World as Hop, Event as HopEvent, give_up, to_end, publish, step, run}
use Rattle.mqtt_flow.specs.inbound.InboundWorld as hop
use Rattle.mqtt_rules.specs.step.State.{Broker}
use Rattle.mqtt_world_model.specs.model.Lines.{Down, gives_up}
use Rattle.mqtt_world_model.specs.model.Ends.{Content, Draft, Sent, shake, plain, Publisher, goes, numbered, goes_out, send_one, send_all, send_unsent, published, heard, reads_connack, reads, reads_if, publisher_reads, connected}
use Rattle.mqtt_world_model.specs.model.Hops.{MayGiveUp}
use Rattle.mqtt_world_model.specs.model.Seen.{qos_by, qos_of_draft, shaken, heard_in, is_linked, seen}

-- ---- lists

shaken_shake : (xs : List FromPublisher) → filter_map shaken (map shake xs) ≡ xs
shaken_shake [] = refl
shaken_shake (x ∷ xs) = ap (λ (ps : List FromPublisher). x ∷ ps) (shaken_shake xs)

-- what goes out with a handshake, and without one
sent_shaken : (t : Bool) (up : List Sent) (xs : List FromPublisher) → filter_map shaken (sent_on t up (map shake xs)) ≡ sent_on t (filter_map shaken up) xs
sent_shaken true up xs = filter_map-append shaken up (map shake xs) ∙ ap (λ (ps : List FromPublisher). filter_map shaken up ++ ps) (shaken_shake xs)
sent_shaken false up xs = refl

sent_plain : (t : Bool) (up : List Sent) (c : Content) → filter_map shaken (sent_on t up (plain c ∷ [])) ≡ filter_map shaken up
sent_plain true up c = filter_map-append shaken up (plain c ∷ []) ∙ append-nil (filter_map shaken up)
sent_plain false up c = refl

-- ---- messages go out

module _ (accepted : List ℕ) (b : Broker) (t : Bool) where
  -- the line stands exactly if the session is connected on it
  abbrev pub Agrees : Publisher → Type 0
  Agrees p = is_linked p.line.number b ≡ t

  abbrev pub room : Publisher → Bool
  room p = nat_lt (length (in_flight p.fates)) OPEN_LIMIT

  abbrev pub sees : Publisher → Hop
  sees p = seen accepted p b

  goes_seen : (xs : List FromPublisher) (p : Publisher) → Agrees p → filter_map shaken (sent_on t p.line.up (map shake xs)) ≡ sent_on (is_linked p.line.number b) (filter_map shaken p.line.up) xs
  goes_seen xs p e = sent_shaken t p.line.up xs ∙ ap (λ (z : Bool). sent_on z (filter_map shaken p.line.up) xs) (sym e)

  -- a message with a handshake
  abbrev one_sent : Qos → List Qos → Hop → Hop
  one_sent q rest w = record w {
    fates = w.fates ++ first_fate q (free_identifier (in_flight w.fates)) ∷ [];
    unsent = rest;
    up = sent_on w.linked w.up (first_packet q (free_identifier (in_flight w.fates)) (length w.fates) ∷ []);
  }

  numbered_seen : (q : Qos) (c : Content) (rest : List Draft) (p : Publisher) → Agrees p → sees (numbered t q c rest p) ≡ one_sent q (filter_map qos_of_draft rest) (sees p)
  numbered_seen q c rest p e =
      let id = free_identifier (in_flight p.fates) in
      let ups = goes_seen (first_packet q id (length p.fates) ∷ []) p e in
      λ i. record (sees p) {
        fates = p.fates ++ first_fate q id ∷ [];
        unsent = filter_map qos_of_draft rest;
        up = ups i;
      }

  plain_seen : (c : Content) (rest : List Draft) (p : Publisher) → filter_map qos_of_draft p.unsent ≡ filter_map qos_of_draft rest
      → sees (record p { unsent = rest; line = goes t (plain c ∷ []) p.line }) ≡ sees p
  plain_seen c rest p e =
      let ups = sent_plain t p.line.up c in
      let unsents = sym e in
      λ i. record (sees p) { unsent = unsents i; up = ups i }

  -- a publisher with 20 in flight sends nothing more
  pub blocked : (ds : List Draft) (p : Publisher) → room p ≡ false → send_all t ds p ≡ p
  blocked [] p h = refl
  blocked (d ∷ rest) p h =
      let same : send_one t d rest p ≡ p = ap (λ (z : Bool). if z then goes_out t d.qos d.content rest p else p) h in
      ap (send_all t rest) same ∙ blocked rest p h

  -- so does the publisher of its hop
  pub hop_blocked : (qs : List Qos) (w : Hop) → nat_lt (length (in_flight w.fates)) OPEN_LIMIT ≡ false → hop.send_all qs w ≡ w
  hop_blocked [] w h = refl
  hop_blocked (q ∷ rest) w h =
      let same : hop.send_one q rest w ≡ w = ap (λ (z : Bool). if z then one_sent q rest w else w) h in
      ap (hop.send_all rest) same ∙ hop_blocked rest w h

  goes_out_seen : (k : Quality) (c : Content) (rest : List Draft) (p : Publisher) → Agrees p → room p ≡ true → filter_map qos_of_draft p.unsent ≡ cons_option (qos_by k) (filter_map qos_of_draft rest)
      → hop.send_all (filter_map qos_of_draft rest) (sees (goes_out t k c rest p)) ≡ hop.send_all (cons_option (qos_by k) (filter_map qos_of_draft rest)) (sees p)
  goes_out_seen AtMostOnce c rest p e h u = ap (hop.send_all (filter_map qos_of_draft rest)) (plain_seen c rest p u)
  goes_out_seen AtLeastOnce c rest p e h u =
      let qs = filter_map qos_of_draft rest in
      ap (hop.send_all qs) (numbered_seen qos_1 c rest p e ∙ sym (ap (λ (z : Bool). if z then one_sent qos_1 qs (sees p) else sees p) h))
  goes_out_seen ExactlyOnce c rest p e h u =
      let qs = filter_map qos_of_draft rest in
      ap (hop.send_all qs) (numbered_seen qos_2 c rest p e ∙ sym (ap (λ (z : Bool). if z then one_sent qos_2 qs (sees p) else sees p) h))

  goes_out_unsent : (k : Quality) (c : Content) (rest : List Draft) (p : Publisher) → (goes_out t k c rest p).unsent ≡ rest
  goes_out_unsent AtMostOnce c rest p = refl
  goes_out_unsent AtLeastOnce c rest p = refl
  goes_out_unsent ExactlyOnce c rest p = refl

  goes_out_agrees : (k : Quality) (c : Content) (rest : List Draft) (p : Publisher) → Agrees p → Agrees (goes_out t k c rest p)
  goes_out_agrees AtMostOnce c rest p e = e
  goes_out_agrees AtLeastOnce c rest p e = e
  goes_out_agrees ExactlyOnce c rest p e = e

  -- messages go out in order until the Receive Maximum is reached
  send_all_seen : (ds : List Draft) (p : Publisher) → Agrees p → p.unsent ≡ ds → sees (send_all t ds p) ≡ hop.send_all (filter_map qos_of_draft ds) (sees p)
  send_all_seen [] p e u = refl
  send_all_seen (d ∷ rest) p e u = elim (cases_Bool (room p)) [
    | inl free ↦
        let sent = goes_out t d.qos d.content rest p in
        let first : send_one t d rest p ≡ sent = ap (λ (z : Bool). if z then sent else p) free in
        ap (λ (x : Publisher). sees (send_all t rest x)) first
        ∙ (send_all_seen rest sent (goes_out_agrees d.qos d.content rest p e) (goes_out_unsent d.qos d.content rest p)
        ∙ goes_out_seen d.qos d.content rest p e free (ap (filter_map qos_of_draft) u))
    | inr full ↦ ap sees (blocked (d ∷ rest) p full) ∙ sym (hop_blocked (filter_map qos_of_draft (d ∷ rest)) (sees p) full)
  ]

  -- what a publisher sends of what waits, the publisher of its hop sends
  pub send_unsent_seen : (link : Link) (p : Publisher) → Agrees p → sees (send_unsent t link p) ≡ hop.send_unsent link (sees p)
  send_unsent_seen away p e = refl
  send_unsent_seen asked p e = refl
  send_unsent_seen live p e = send_all_seen p.unsent p e refl

  -- ---- a message is published

  -- a message of QoS 1 or 2 that it publishes is that event of its hop
  pub publish_seen : (d : Draft) (q : Qos) (p : Publisher) → qos_of_draft d ≡ Some q → Agrees p → sees (published t d p) ≡ step (sees p) (publish q)
  publish_seen d q p is e =
      let more : Publisher = record p { unsent = p.unsent ++ d ∷ [] } in
      let unsents : filter_map qos_of_draft (p.unsent ++ d ∷ []) ≡ filter_map qos_of_draft p.unsent ++ q ∷ [] =
      filter_map-append qos_of_draft p.unsent (d ∷ []) ∙ ap (λ (o : Option Qos). filter_map qos_of_draft p.unsent ++ cons_option o []) is in
      send_unsent_seen p.line.link more e ∙ ap (λ (qs : List Qos). hop.send_unsent p.line.link (record (sees p) { unsent = qs })) unsents

  -- ---- a line is given up

  give_up_by : (link : Link) (clean : Bool) (p : Publisher) → MayGiveUp link clean → sees (record p { line = gives_up link p.line }) ≡ hop.on_give_up link clean (sees p)
  give_up_by away clean p may = refl
  give_up_by asked true p may = absurd cc
  give_up_by asked false p may = refl
  give_up_by live clean p may = refl

  -- giving up its line is that event of its hop
  pub give_up_seen : (p : Publisher) → MayGiveUp p.line.link p.line.clean → sees (record p { line = gives_up p.line.link p.line }) ≡ step (sees p) give_up
  give_up_seen p may = give_up_by p.line.link p.line.clean p may

  -- ---- a packet is read

  connack_seen : (link : Link) (present : Bool) (p : Publisher) → Agrees p → sees (reads_connack t link present p) ≡ hop.on_connack link present (sees p)
  connack_seen away present p e = refl
  connack_seen live present p e = refl
  connack_seen asked false p e = send_unsent_seen live (record p { fates = map on_new_session p.fates; line = connected p.line }) e
  connack_seen asked true p e =
      let ups = goes_seen (resent_from 0 p.fates) p e in
      send_unsent_seen live (record p { line = goes t (map shake (resent_from 0 p.fates)) (connected p.line) }) e
      ∙ ap (λ (xs : List FromPublisher). hop.send_unsent live (record (sees p) { link = live; clean = false; up = xs })) ups

  reads_seen : (packet : ToPublisher) (p : Publisher) → Agrees p → sees (reads t packet p) ≡ hop.on_packet packet (sees p)
  reads_seen (CONNACK present) p e = connack_seen p.line.link present p e
  reads_seen (CONNACK_REFUSED code) p e = refl
  reads_seen (PUBACK id code) p e = send_unsent_seen p.line.link (record p { fates = map (on_puback id code) p.fates }) e
  reads_seen (PUBREC id code) p e =
      let ups = goes_seen (pubrel_for id code p.fates) p e in
      send_unsent_seen p.line.link (record p { fates = map (on_pubrec id code) p.fates; line = goes t (map shake (pubrel_for id code p.fates)) p.line }) e
      ∙ ap (λ (xs : List FromPublisher). hop.send_unsent p.line.link (record (sees p) { fates = map (on_pubrec id code) p.fates; up = xs })) ups
  reads_seen (PUBCOMP id code) p e = send_unsent_seen p.line.link (record p { fates = map (on_pubcomp id) p.fates }) e
  reads_seen (DISCONNECT code) p e = refl

  -- one that it passes over is no event
  read_seen : (o : Option ToPublisher) (rest : List Down) (p : Publisher) → Agrees p
      → filter_map heard_in p.line.down ≡ cons_option o (filter_map heard_in rest)
      → (es : List HopEvent) × (sees (reads_if t o (record p { line = record p.line { down = rest } })) ≡ run es (sees p))
  read_seen None rest p e h = ([], λ i. record (sees p) { down = sym h i })
  read_seen (Some packet) rest p e h = (
    to_end ∷ [],
    reads_seen packet (record p { line = record p.line { down = rest } }) e
        ∙ sym (ap (λ (ps : List ToPublisher). hop.publisher_reads ps (record (sees p) { down = ps })) h),
  )

  reads_from : (ds : List Down) (p : Publisher) → Agrees p → p.line.down ≡ ds → (es : List HopEvent) × (sees (publisher_reads t ds p) ≡ run es (sees p))
  reads_from [] p e h = ([], refl)
  reads_from (d ∷ rest) p e h = read_seen (heard d.packet) rest p e (ap (filter_map heard_in) h)

  -- what it reads is events of its hop, or none
  pub to_end_seen : (p : Publisher) → Agrees p → (es : List HopEvent) × (sees (publisher_reads t p.line.down p) ≡ run es (sees p))
  to_end_seen p e = reads_from p.line.down p e refl
