-- The broker reads a packet of a publisher's session on its own line, or on the one that it gave up, if the session is connected
-- there still: what the publisher sees of it is that event of its hop (MQTT 5.0, 4.3.2, 4.3.3, 4.4).
use Rattle.std.proofs.Common.{◌≡◌, ℕ, Bool, true, false, List, [], ◌∷◌, ◌++◌, Option, Some, None, refl, sym, ap, subst, ◌∙◌, append-nil}
use Rattle.std.specs.Prelude.{filter_map}
use Rattle.mqtt_packet.specs.declared.codec.publish.Delivery.TheVariants as delivery
use Rattle.mqtt_packet.specs.declared.codec.packet.Packet.{Packet}
use Rattle.mqtt_flow.specs.declared.inbound.inflow.Published.TheVariants.{New}
use Rattle.mqtt_flow.specs.inbound.Identifiers.{ids_without}
use Rattle.mqtt_flow.specs.inbound.Inbound.{answer_to, answer_to_release}
use Rattle.mqtt_flow.specs.inbound.Publisher.{FromPublisher, CONNECT, PUBLISH_1, PUBLISH_2, PUBREL, ToPublisher, DISCONNECT}
use Rattle.mqtt_flow.specs.inbound.InboundWorld.{World as Hop, Choice, Event as HopEvent, takes, takes_unheard, refuses, to_broker, old_to_broker, close, close_old, Verdict, accept, refuse, repeat, shut, verdict_on, left_by, linked_by, accepted_by, ids_by, answer_1, answer_2, answer_to_pubrel, broker_reads, broker_reads_old, step, run}
use Rattle.mqtt_records.specs.declared.state.session.Session.{Session}
use Rattle.mqtt_rules.specs.declared.step.Capacity.{Capacity}
use Rattle.mqtt_rules.specs.step.State.{MemberChoice, Line as BrokerLine, Broker}
use Rattle.mqtt_rules.specs.step.Deeds.{Deed}
use Rattle.mqtt_rules.specs.step.Routing.{next_publication}
use Rattle.mqtt_rules.specs.step.Step.{Call, Input, next_packet, env_of, deeds, stepped}
use Rattle.mqtt_world_model.specs.model.Lines.{unless_closed}
use Rattle.mqtt_world_model.specs.model.Ends.{Content, Sent, shake, plain, Publisher, content_at, wire, message_in}
use Rattle.mqtt_world_model.specs.model.Run.{each_of}
use Rattle.mqtt_world_model.specs.model.Seen.{shaken, heard_in, seen}
use Rattle.mqtt_world_model.specs.model.Hops.{IsConnected, IsNoConnect, turned_back, after_step, after_old_step, counted, numbers_of, wire_1, wire_2}
use Rattle.mqtt_world_model.proofs.model_lemmas.others.Rows.{Face, face}
use Rattle.mqtt_world_model.proofs.model_lemmas.own.Publishes.{Gives, Effect, chooses, drops, Does, publish_does, pubrel_does, closed_face, face_by, on_by, shuts, numbers_by}
use Rattle.mqtt_world_model.proofs.model_lemmas.own.LightPublishes as light
use Rattle.mqtt_world_model.proofs.model_lemmas.seats.Seeing.{hop_of, linked_of}
use Rattle.mqtt_world_model.proofs.model_lemmas.own.OwnStep.{heard_of, input_gives, still_on, sees, seen_with, seen_before, ids_agree, face_client}
use Rattle.mqtt_world_model.proofs.model_lemmas.own.OldLine.{old_with, old_before, old_sees, IsOwn, elsewhere}

-- ---- which of a publisher's lines

-- the two lines of a publisher
pub data Which : Type 0 where
  its_own : Which
  given_up : Which

-- the publisher as if that line were its own
abbrev pub turned : Which → Publisher → Publisher
turned its_own p = p
turned given_up p = turned_back p

-- its session is connected there
abbrev pub IsOn : Which → Publisher → BrokerLine → Session → Broker → Type 0
IsOn w p l s b = IsConnected (turned w p) l s b

-- what is under way to the broker there
abbrev pub up_on : Which → Publisher → List Sent
up_on its_own p = p.line.up
up_on given_up p = p.line.old

-- after a step in which the first packet was read there
abbrev pub after_on : Which → Capacity → MemberChoice → ℕ → Call → Publisher → Broker → Publisher
after_on its_own limits choice now call p b = after_step limits choice now call p b
after_on given_up limits choice now call p b = after_old_step limits choice now call p b

-- the events of the hop: the broker reads that packet, or drops the line
abbrev pub reads_on : Which → Choice → HopEvent
reads_on its_own pick = to_broker pick
reads_on given_up pick = old_to_broker pick

abbrev drops_on : Which → ℕ → HopEvent
drops_on its_own code = close code
drops_on given_up code = close_old

-- what the event makes of the hop, by a verdict and an answer
abbrev on_read : Which → Verdict → List ToPublisher → List ℕ → ℕ → List FromPublisher → Hop → Hop
on_read its_own v ps ids k rest h =
    record h { up = left_by v rest; down = h.down ++ ps; linked = linked_by v h.linked; ids = ids; accepted = accepted_by v k h.accepted }
on_read given_up v ps ids k rest h = record h { old = left_by v rest; ids = ids; accepted = accepted_by v k h.accepted }

-- what the publisher sees before the step, and after deeds that give this
abbrev before_on : Which → List ℕ → Publisher → Broker → List FromPublisher → List ℕ → Hop
before_on its_own accepted p b up ids = seen_with accepted p up ids
before_on given_up accepted p b up ids = old_with accepted p b up ids

abbrev seen_on : Which → List ℕ → Publisher → Broker → List Sent → List ℕ → Option (Option ℕ) → List ToPublisher → Bool → Hop
seen_on its_own accepted p b rest ids on ps t =
    hop_of accepted p (linked_of on) (filter_map shaken (unless_closed t rest)) (filter_map heard_in p.line.down ++ ps) (filter_map shaken p.line.old) true ids
seen_on given_up accepted p b rest ids on ps t = old_with accepted p b (filter_map shaken (unless_closed t rest)) ids

-- the step is this event of its hop, with the messages that it accepted from message k
abbrev pub BecomesOn : Which → Capacity → MemberChoice → ℕ → Call → ℕ → Publisher → Broker → List ℕ → HopEvent → Type 0
BecomesOn w limits choice now call k p b accepted e =
    seen (accepted ++ counted k (numbers_of limits choice now call b)) (after_on w limits choice now call p b) (stepped limits choice now call b) ≡ step (seen accepted p b) e

-- ---- the two lines: what the deeds of a packet give, the publisher sees

-- before the step
stands_on : (w : Which) (p : Publisher) (rest : List Sent) (packet : Sent) (l : BrokerLine) (s : Session) (b : Broker) (accepted : List ℕ)
    → up_on w p ≡ packet ∷ rest → IsOn w p l s b → seen accepted p b ≡ before_on w accepted p b (filter_map shaken (packet ∷ rest)) s.inbound
stands_on its_own p rest packet l s b accepted up c = seen_before p rest packet l s b accepted up c
stands_on given_up p rest packet l s b accepted up c = old_before p (packet ∷ rest) l s b accepted up c

-- after it
sees_on : (w : Which) (limits : Capacity) (choice : MemberChoice) (now : ℕ) (p : Publisher) (rest : List Sent) (sent : Sent) (packet : Packet) (l : BrokerLine) (s : Session) (b : Broker)
    (accepted : List ℕ) (f : Face) (on : Option (Option ℕ)) (ps : List ToPublisher) (t : Bool) (count : List ℕ)
    → IsOwn packet → up_on w p ≡ sent ∷ rest → IsOn w p l s b → f.client ≡ s.client
    → Gives s.birth l.number (next_packet (env_of limits choice b) l packet s (heard_of now l.number b)) (heard_of now l.number b) f on ps t count
    → seen accepted (after_on w limits choice now (Input l.number packet) p b) (stepped limits choice now (Input l.number packet) b) ≡ seen_on w accepted p b rest f.inbound on ps t
sees_on its_own limits choice now p rest sent packet l s b accepted f on ps t count q up c is d =
    sees limits choice now (Input l.number packet) p rest sent l s b accepted f on ps t count up c (is ∙ c.client)
    (input_gives limits choice now packet l s b f on ps t count c.line c.connected c.session d)
sees_on given_up limits choice now p rest sent packet l s b accepted f on ps t count q up c is d =
    old_sees limits choice now (Input l.number packet) p rest sent l s b accepted f on ps t count up c (is ∙ c.client)
    (input_gives limits choice now packet l s b f on ps t count c.line c.connected c.session d) (elsewhere limits choice now p packet l s b q c)

-- with the messages that the step accepted
counts_on : (w : Which) (limits : Capacity) (choice : MemberChoice) (now : ℕ) (p : Publisher) (rest : List Sent) (sent : Sent) (packet : Packet) (l : BrokerLine) (s : Session) (b : Broker)
    (accepted : List ℕ) (k : ℕ) (f : Face) (on : Option (Option ℕ)) (ps : List ToPublisher) (t : Bool) (count : List ℕ)
    → IsOwn packet → up_on w p ≡ sent ∷ rest → IsOn w p l s b → f.client ≡ s.client
    → Gives s.birth l.number (next_packet (env_of limits choice b) l packet s (heard_of now l.number b)) (heard_of now l.number b) f on ps t count
    → seen (accepted ++ counted k (numbers_of limits choice now (Input l.number packet) b)) (after_on w limits choice now (Input l.number packet) p b) (stepped limits choice now (Input l.number packet) b)
    ≡ seen_on w (accepted ++ counted k count) p b rest f.inbound on ps t
counts_on w limits choice now p rest sent packet l s b accepted k f on ps t count q up c is d =
    let g = input_gives limits choice now packet l s b f on ps t count c.line c.connected c.session d in
    sees_on w limits choice now p rest sent packet l s b (accepted ++ counted k (numbers_of limits choice now (Input l.number packet) b)) f on ps t count q up c is d
    ∙ ap (λ (ks : List ℕ). seen_on w (accepted ++ counted k ks) p b rest f.inbound on ps t) g.numbers_is

-- ---- which is what the event makes of the hop

-- the messages that are accepted by a verdict
counted_by : (v : Verdict) (k m : ℕ) (accepted : List ℕ) → accepted ++ counted k (numbers_by v m) ≡ accepted_by v k accepted
counted_by (accept code) k m accepted = refl
counted_by refuse k m accepted = append-nil accepted
counted_by repeat k m accepted = append-nil accepted
counted_by shut k m accepted = append-nil accepted

-- a packet that is read, by each verdict
agrees : (w : Which) (v : Verdict) (k : ℕ) (accepted : List ℕ) (p : Publisher) (b : Broker) (rest : List Sent) (up : List FromPublisher) (ids now_open : List ℕ) (ps : List ToPublisher) (birth : ℕ)
    → seen_on w (accepted_by v k accepted) p b rest now_open (on_by v birth) ps (shuts v) ≡ on_read w v ps now_open k (filter_map shaken rest) (before_on w accepted p b up ids)
agrees its_own (accept code) k accepted p b rest up ids now_open ps birth = refl
agrees its_own refuse k accepted p b rest up ids now_open ps birth = refl
agrees its_own repeat k accepted p b rest up ids now_open ps birth = refl
agrees its_own shut k accepted p b rest up ids now_open ps birth = refl
agrees given_up (accept code) k accepted p b rest up ids now_open ps birth = refl
agrees given_up refuse k accepted p b rest up ids now_open ps birth = refl
agrees given_up repeat k accepted p b rest up ids now_open ps birth = refl
agrees given_up shut k accepted p b rest up ids now_open ps birth = refl

-- a line that is dropped
dropped : (w : Which) (code : ℕ) (accepted : List ℕ) (p : Publisher) (b : Broker) (rest : List Sent) (up : List FromPublisher) (ids : List ℕ)
    → seen_on w accepted p b rest ids None (DISCONNECT code ∷ []) true ≡ step (before_on w accepted p b up ids) (drops_on w code)
dropped its_own code accepted p b rest up ids = refl
dropped given_up code accepted p b rest up ids = refl

-- what a PUBLISH of QoS 2 makes of the hop is the event by which it is read
steps_2 : (w : Which) (pick : Choice) (id k : ℕ) (dup : Bool) (accepted : List ℕ) (p : Publisher) (b : Broker) (rest : List FromPublisher) (ids : List ℕ)
    → on_read w (verdict_on (answer_to id ids) pick) (answer_2 (verdict_on (answer_to id ids) pick) id ∷ []) (ids_by (verdict_on (answer_to id ids) pick) id ids) k rest (before_on w accepted p b (PUBLISH_2 id k dup ∷ rest) ids)
    ≡ step (before_on w accepted p b (PUBLISH_2 id k dup ∷ rest) ids) (reads_on w pick)
steps_2 its_own pick id k dup accepted p b rest ids = refl
steps_2 given_up pick id k dup accepted p b rest ids = refl

-- what a PUBLISH of QoS 1 makes of the hop is that event
steps_1 : (w : Which) (pick : Choice) (id k : ℕ) (dup : Bool) (accepted : List ℕ) (p : Publisher) (b : Broker) (rest : List FromPublisher) (ids : List ℕ)
    → on_read w (verdict_on (answer_to id ids) pick) (answer_1 (verdict_on (answer_to id ids) pick) id ∷ []) ids k rest (before_on w accepted p b (PUBLISH_1 id k dup ∷ rest) ids)
    ≡ step (before_on w accepted p b (PUBLISH_1 id k dup ∷ rest) ids) (reads_on w pick)
steps_1 its_own pick id k dup accepted p b rest ids = refl
steps_1 given_up pick id k dup accepted p b rest ids = refl

-- and so is a PUBREL
releases : (w : Which) (id k : ℕ) (accepted : List ℕ) (p : Publisher) (b : Broker) (rest : List FromPublisher) (ids : List ℕ)
    → on_read w repeat (answer_to_pubrel (answer_to_release id ids) id ∷ []) (ids_without id ids) k rest (before_on w accepted p b (PUBREL id ∷ rest) ids)
    ≡ step (before_on w accepted p b (PUBREL id ∷ rest) ids) (reads_on w takes)
releases its_own id k accepted p b rest ids = refl
releases given_up id k accepted p b rest ids = refl

-- a new PUBLISH of QoS 0: nothing is seen of it
unanswered : (w : Which) (accepted : List ℕ) (p : Publisher) (b : Broker) (rest : List Sent) (ids : List ℕ) (birth : ℕ)
    → seen_on w accepted p b rest ids (Some (Some birth)) [] false ≡ before_on w accepted p b (filter_map shaken rest) ids
unanswered its_own accepted p b rest ids birth = λ i. record (seen_with accepted p (filter_map shaken rest) ids) { down = append-nil (filter_map heard_in p.line.down) i }
unanswered given_up accepted p b rest ids birth = refl

-- whatever becomes of it
unseen_0 : (w : Which) (pick : Choice) (accepted : List ℕ) (p : Publisher) (b : Broker) (rest : List Sent) (now : ℕ) (f : Face) (birth : ℕ)
    → seen_on w accepted p b rest (light.light_face (verdict_on New pick) now f).inbound (on_by (verdict_on New pick) birth) (light.told_by delivery.AtMostOnce (verdict_on New pick)) (shuts (verdict_on New pick))
    ≡ before_on w accepted p b (filter_map shaken rest) f.inbound
unseen_0 w takes accepted p b rest now f birth = unanswered w accepted p b rest f.inbound birth
unseen_0 w takes_unheard accepted p b rest now f birth = unanswered w accepted p b rest f.inbound birth
unseen_0 w refuses accepted p b rest now f birth = unanswered w accepted p b rest f.inbound birth

-- no message is accepted of a PUBREL
accepts_none : (w : Which) (accepted : List ℕ) (p : Publisher) (b : Broker) (rest : List Sent) (id : ℕ) → up_on w p ≡ shake (PUBREL id) ∷ rest
    → (step (seen accepted p b) (reads_on w takes)).accepted ≡ accepted
accepts_none its_own accepted p b rest id up = ap (λ (xs : List Sent). (broker_reads takes (filter_map shaken xs) (seen accepted p b)).accepted) up
accepts_none given_up accepted p b rest id up = ap (λ (xs : List Sent). (broker_reads_old takes (filter_map shaken xs) (seen accepted p b)).accepted) up

-- ---- each packet of the session

module _ (w : Which) (limits : Capacity) (choice : MemberChoice) (now : ℕ) (p : Publisher) (rest : List Sent) where
  -- the call, by the packet
  abbrev call_by : BrokerLine → Sent → Call
  call_by l packet = Input l.number (wire p.client p.contents packet)

  -- the deeds of the packet
  abbrev deeds_by : BrokerLine → Session → Sent → Broker → List Deed
  deeds_by l s packet b = next_packet (env_of limits choice b) l (wire p.client p.contents packet) s (heard_of now l.number b)

  -- an event of what is seen before the step is one of the hop
  seen_step : (packet : Sent) (l : BrokerLine) (s : Session) (b : Broker) (accepted : List ℕ) (e : HopEvent) → up_on w p ≡ packet ∷ rest → IsOn w p l s b
      → step (before_on w accepted p b (filter_map shaken (packet ∷ rest)) s.inbound) e ≡ step (seen accepted p b) e
  seen_step packet l s b accepted e up c = sym (ap (λ (h : Hop). step h e) (stands_on w p rest packet l s b accepted up c))

  -- a packet with this verdict and answer
  comes : (packet : Sent) (k : ℕ) (pick : Choice) (v : Verdict) (ps : List ToPublisher) (f : Face) (ids : List ℕ) (l : BrokerLine) (s : Session) (b : Broker) (accepted : List ℕ)
      → IsOwn (wire p.client p.contents packet) → up_on w p ≡ packet ∷ rest → IsOn w p l s b → f.client ≡ s.client → f.inbound ≡ ids
      → Gives s.birth l.number (deeds_by l s packet b) (heard_of now l.number b) f (on_by v s.birth) ps (shuts v) (numbers_by v (next_publication (heard_of now l.number b).records))
      → on_read w v ps ids k (filter_map shaken rest) (before_on w accepted p b (filter_map shaken (packet ∷ rest)) s.inbound)
      ≡ step (before_on w accepted p b (filter_map shaken (packet ∷ rest)) s.inbound) (reads_on w pick)
      → BecomesOn w limits choice now (call_by l packet) k p b accepted (reads_on w pick)
  comes packet k pick v ps f ids l s b accepted q up c client is d e =
      let m = next_publication (heard_of now l.number b).records in
      counts_on w limits choice now p rest packet (wire p.client p.contents packet) l s b accepted k f (on_by v s.birth) ps (shuts v) (numbers_by v m) q up c client d
      ∙ (ap (λ (ks : List ℕ). seen_on w ks p b rest f.inbound (on_by v s.birth) ps (shuts v)) (counted_by v k m accepted)
      ∙ (ap (λ (xs : List ℕ). seen_on w (accepted_by v k accepted) p b rest xs (on_by v s.birth) ps (shuts v)) is
      ∙ (agrees w v k accepted p b rest (filter_map shaken (packet ∷ rest)) s.inbound ids ps s.birth ∙ (e ∙ seen_step packet l s b accepted (reads_on w pick) up c))))

  -- a packet for which the line is dropped
  falls : (packet : Sent) (k code : ℕ) (l : BrokerLine) (s : Session) (b : Broker) (accepted : List ℕ) → IsOwn (wire p.client p.contents packet) → up_on w p ≡ packet ∷ rest → IsOn w p l s b
      → Gives s.birth l.number (deeds_by l s packet b) (heard_of now l.number b) (closed_face (heard_of now l.number b).now (face s)) None (DISCONNECT code ∷ []) true []
      → BecomesOn w limits choice now (call_by l packet) k p b accepted (drops_on w code)
  falls packet k code l s b accepted q up c d =
      counts_on w limits choice now p rest packet (wire p.client p.contents packet) l s b accepted k (closed_face (heard_of now l.number b).now (face s)) None (DISCONNECT code ∷ []) true [] q up c refl d
      ∙ (ap (λ (ks : List ℕ). seen_on w ks p b rest s.inbound None (DISCONNECT code ∷ []) true) (append-nil accepted)
      ∙ (dropped w code accepted p b rest (filter_map shaken (packet ∷ rest)) s.inbound ∙ seen_step packet l s b accepted (drops_on w code) up c))

  -- of a PUBLISH of QoS 2, by its effect
  effect_2 : (x : Effect) (id k : ℕ) (dup : Bool) (l : BrokerLine) (s : Session) (b : Broker) (accepted : List ℕ) → up_on w p ≡ shake (PUBLISH_2 id k dup) ∷ rest → IsOn w p l s b
      → Does x id l s (deeds_by l s (shake (PUBLISH_2 id k dup)) b) (heard_of now l.number b) → (e : HopEvent) × BecomesOn w limits choice now (call_by l (shake (PUBLISH_2 id k dup))) k p b accepted e
  effect_2 (chooses pick) id k dup l s b accepted up c d =
      let h = heard_of now l.number b in
      let v = verdict_on (answer_to id s.inbound) pick in
      let ids = ids_agree (answer_to id s.inbound) pick id h.now (face s) refl in (
        reads_on w pick,
        comes (shake (PUBLISH_2 id k dup)) k pick v (answer_2 v id ∷ []) (face_by v id h.now (face s)) (ids_by v id s.inbound) l s b accepted tt up c (face_client v id h.now (face s)) ids d
            (steps_2 w pick id k dup accepted p b (filter_map shaken rest) s.inbound),
      )
  effect_2 (drops code) id k dup l s b accepted up c d = (drops_on w code, falls (shake (PUBLISH_2 id k dup)) k code l s b accepted tt up c d)

  -- PUBLISH of QoS 2: new, repeated, refused, above the Receive Maximum, or without a topic. It is one event of the hop,
  -- whatever the routing, the queues and all other sessions and lines
  pub publish_is_hop : (id k : ℕ) (dup : Bool) (l : BrokerLine) (s : Session) (b : Broker) (accepted : List ℕ) → up_on w p ≡ shake (PUBLISH_2 id k dup) ∷ rest → IsOn w p l s b
      → (e : HopEvent) × BecomesOn w limits choice now (Input l.number (wire_2 p id k dup)) k p b accepted e
  publish_is_hop id k dup l s b accepted up c =
      let content = content_at k p.contents in
      let d = publish_does (env_of limits choice b) l s dup id content.retain content.topic content.payload (heard_of now l.number b) c.session c.connected (still_on now l s b c.line c.connected) c.no_will c.no_end in
      effect_2 d.0 id k dup l s b accepted up c d.1

  -- PUBREL: the identifier is closed
  pub pubrel_is_hop : (id k : ℕ) (l : BrokerLine) (s : Session) (b : Broker) (accepted : List ℕ) → up_on w p ≡ shake (PUBREL id) ∷ rest → IsOn w p l s b
      → BecomesOn w limits choice now (Input l.number (wire p.client p.contents (shake (PUBREL id)))) k p b accepted (reads_on w takes)
  pubrel_is_hop id k l s b accepted up c =
      let h = heard_of now l.number b in
      let f = record (face s) { inbound = ids_without id s.inbound } in
      let ps : List ToPublisher = answer_to_pubrel (answer_to_release id s.inbound) id ∷ [] in
      let d = pubrel_does l s id h c.session (still_on now l s b c.line c.connected) in
      comes (shake (PUBREL id)) k takes repeat ps f (ids_without id s.inbound) l s b accepted tt up c refl refl d (releases w id k accepted p b (filter_map shaken rest) s.inbound)

  -- of a PUBLISH of QoS 1
  effect_1 : (x : light.Effect) (id k : ℕ) (dup : Bool) (l : BrokerLine) (s : Session) (b : Broker) (accepted : List ℕ) → up_on w p ≡ shake (PUBLISH_1 id k dup) ∷ rest → IsOn w p l s b
      → light.Does x (delivery.AtLeastOnce dup id) l s (deeds_by l s (shake (PUBLISH_1 id k dup)) b) (heard_of now l.number b)
      → (e : HopEvent) × BecomesOn w limits choice now (call_by l (shake (PUBLISH_1 id k dup))) k p b accepted e
  effect_1 (light.chooses pick) id k dup l s b accepted up c d =
      let h = heard_of now l.number b in
      let v = verdict_on (answer_to id s.inbound) pick in
      let f = light.light_face v h.now (face s) in
      let told = subst (λ (ps : List ToPublisher). Gives s.birth l.number (deeds_by l s (shake (PUBLISH_1 id k dup)) b) h f (on_by v s.birth) ps (shuts v) (numbers_by v (next_publication h.records))) (light.told_1 v dup id) d in (
        reads_on w pick,
        comes (shake (PUBLISH_1 id k dup)) k pick v (answer_1 v id ∷ []) f s.inbound l s b accepted tt up c (light.light_client v h.now (face s)) (light.light_ids v h.now (face s)) told
            (steps_1 w pick id k dup accepted p b (filter_map shaken rest) s.inbound),
      )
  effect_1 (light.drops code) id k dup l s b accepted up c d = (drops_on w code, falls (shake (PUBLISH_1 id k dup)) k code l s b accepted tt up c d)

  -- PUBLISH of QoS 1, with the same outcomes
  pub publish_1_is_hop : (id k : ℕ) (dup : Bool) (l : BrokerLine) (s : Session) (b : Broker) (accepted : List ℕ) → up_on w p ≡ shake (PUBLISH_1 id k dup) ∷ rest → IsOn w p l s b
      → (e : HopEvent) × BecomesOn w limits choice now (Input l.number (wire_1 p id k dup)) k p b accepted e
  publish_1_is_hop id k dup l s b accepted up c =
      let d = light.light_does (env_of limits choice b) l s (delivery.AtLeastOnce dup id) (content_at k p.contents) (heard_of now l.number b) refl c.session c.connected (still_on now l s b c.line c.connected) c.no_will c.no_end in
      effect_1 d.0 id k dup l s b accepted up c d.1

  -- of a PUBLISH of QoS 0: some events, or none
  effect_0 : (x : light.Effect) (content : Content) (l : BrokerLine) (s : Session) (b : Broker) (accepted : List ℕ) → up_on w p ≡ plain content ∷ rest → IsOn w p l s b
      → light.Does x delivery.AtMostOnce l s (deeds_by l s (plain content) b) (heard_of now l.number b)
      → (es : List HopEvent) × (seen accepted (after_on w limits choice now (call_by l (plain content)) p b) (stepped limits choice now (call_by l (plain content)) b) ≡ run es (seen accepted p b))
  effect_0 (light.chooses pick) content l s b accepted up c d =
      let h = heard_of now l.number b in
      let v = verdict_on New pick in (
        [],
        sees_on w limits choice now p rest (plain content) (wire p.client p.contents (plain content)) l s b accepted (light.light_face v h.now (face s)) (on_by v s.birth) (light.told_by delivery.AtMostOnce v) (shuts v) (numbers_by v (next_publication h.records)) tt up c (light.light_client v h.now (face s)) d
            ∙ (unseen_0 w pick accepted p b rest h.now (face s) s.birth ∙ sym (stands_on w p rest (plain content) l s b accepted up c)),
      )
  effect_0 (light.drops code) content l s b accepted up c d = (
    drops_on w code ∷ [],
    sees_on w limits choice now p rest (plain content) (wire p.client p.contents (plain content)) l s b accepted (closed_face (heard_of now l.number b).now (face s)) None (DISCONNECT code ∷ []) true [] tt up c refl d
        ∙ (dropped w code accepted p b rest (filter_map shaken rest) s.inbound ∙ seen_step (plain content) l s b accepted (drops_on w code) up c),
  )

  -- PUBLISH of QoS 0: no event of the hop, or the line is dropped
  pub plain_is_hop : (content : Content) (l : BrokerLine) (s : Session) (b : Broker) (accepted : List ℕ) → up_on w p ≡ plain content ∷ rest → IsOn w p l s b
      → (es : List HopEvent)
      × (seen accepted (after_on w limits choice now (Input l.number (wire p.client p.contents (plain content))) p b) (stepped limits choice now (Input l.number (wire p.client p.contents (plain content))) b) ≡ run es (seen accepted p b))
  plain_is_hop content l s b accepted up c =
      let d = light.light_does (env_of limits choice b) l s delivery.AtMostOnce content (heard_of now l.number b) refl c.session c.connected (still_on now l s b c.line c.connected) c.no_will c.no_end in
      effect_0 d.0 content l s b accepted up c d.1

  -- any packet that is no CONNECT is some events of the hop
  pub packet_events : (packet : Sent) (l : BrokerLine) (s : Session) (b : Broker) (accepted : List ℕ) → up_on w p ≡ packet ∷ rest → IsNoConnect packet → IsOn w p l s b
      → (es : List HopEvent)
      × (seen (accepted ++ each_of (message_in packet) (deeds limits choice now (Input l.number (wire p.client p.contents packet)) b)) (after_on w limits choice now (Input l.number (wire p.client p.contents packet)) p b)
      (stepped limits choice now (Input l.number (wire p.client p.contents packet)) b)
      ≡ run es (seen accepted p b))
  packet_events (shake (CONNECT clean)) l s b accepted up other c = absurd other
  packet_events (shake (PUBLISH_1 id k dup)) l s b accepted up other c = let x = publish_1_is_hop id k dup l s b accepted up c in (x.0 ∷ [], x.1)
  packet_events (shake (PUBLISH_2 id k dup)) l s b accepted up other c = let x = publish_is_hop id k dup l s b accepted up c in (x.0 ∷ [], x.1)
  packet_events (shake (PUBREL id)) l s b accepted up other c =
      let call = Input l.number (wire p.client p.contents (shake (PUBREL id))) in
      let e = pubrel_is_hop id 0 l s b accepted up c in
      let same : accepted ++ counted 0 (numbers_of limits choice now call b) ≡ accepted = ap (λ (h : Hop). h.accepted) e ∙ accepts_none w accepted p b rest id up in (
        reads_on w takes ∷ [],
        ap (λ (ns : List ℕ). seen ns (after_on w limits choice now call p b) (stepped limits choice now call b)) (append-nil accepted ∙ sym same) ∙ e,
      )
  packet_events (plain content) l s b accepted up other c =
      let call = Input l.number (wire p.client p.contents (plain content)) in
      let x = plain_is_hop content l s b accepted up c in
      (x.0, ap (λ (ns : List ℕ). seen ns (after_on w limits choice now call p b) (stepped limits choice now call b)) (append-nil accepted) ∙ x.1)
