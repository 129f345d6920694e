-- What every CONNECT on a publisher's line has in common: its deeds begin with the line, and what they show is what the hop
-- does with it (MQTT 5.0, 3.1.4).
use Rattle.std.proofs.Common.{◌≡◌, ℕ, Bool, false, List, [], ◌∷◌, ◌++◌, drop, Option, Some, None, sym, ap, ◌∙◌, append-nil}
use Rattle.std.specs.Prelude.{option_map, filter_map, is_some}
use Rattle.mqtt_packet.specs.declared.connect.connect.Connect.{Connect as Greeting}
use Rattle.mqtt_packet.specs.declared.codec.packet.Packet.TheVariants.{Connect}
use Rattle.mqtt_flow.specs.inbound.Publisher.{FromPublisher, CONNECT, ToPublisher}
use Rattle.mqtt_flow.specs.inbound.InboundWorld.{Choice, Event as HopEvent, to_broker, on_connect as on_hop, broker_reads, step}
use Rattle.mqtt_rules.specs.declared.step.Capacity.{Capacity}
use Rattle.mqtt_rules.specs.step.State.{MemberChoice, Line as BrokerLine, Broker, session_named, line_at}
use Rattle.mqtt_rules.specs.step.Deeds.{Hear, Deed, On, closing, always, series, with_line}
use Rattle.mqtt_rules.specs.step.Connect.{on_connect}
use Rattle.mqtt_rules.specs.step.Step.{Input, on_packet, at_moment, env_of, deeds, stepped}
use Rattle.mqtt_world_model.specs.model.Lines.{is_one_of, unless_closed}
use Rattle.mqtt_world_model.specs.model.Ends.{Sent, shake, Publisher}
use Rattle.mqtt_world_model.specs.model.Seen.{shaken, heard_in, seen}
use Rattle.mqtt_world_model.specs.model.Hops.{connect_packet, after_step}
use Rattle.mqtt_world_model.proofs.model_lemmas.others.Quiet.{session_on}
use Rattle.mqtt_world_model.proofs.model_lemmas.seats.Seeing.{hop_of, Shows, shown_is_seen}
use Rattle.mqtt_world_model.proofs.model_lemmas.own.OwnStep.{heard_of}

-- the line waits for its CONNECT
pub waits_on : (l : BrokerLine) (b : Broker) → line_at l.number b ≡ Some l → l.session ≡ None → session_on l.number b.lines ≡ Some None
waits_on l b line waits = ap (option_map (λ (x : BrokerLine). x.session)) line ∙ ap Some waits

-- the deeds of the call: the line is heard of, and the CONNECT is answered
pub connect_call : (limits : Capacity) (choice : MemberChoice) (now : ℕ) (c : Greeting) (l : BrokerLine) (b : Broker) → line_at l.number b ≡ Some l → l.session ≡ None
    → deeds limits choice now (Input l.number (Connect c)) b ≡ On l.number Hear ∷ on_connect (env_of limits choice b) l c (heard_of now l.number b)
connect_call limits choice now c l b line waits =
    let env = env_of limits choice b in
    let h = heard_of now l.number b in
    ap (λ (o : Option BrokerLine). with_line o (λ (x : BrokerLine). series (always (On l.number Hear ∷ []) ∷ on_packet env x (Connect c) x.session ∷ [])) (at_moment now b)) line
    ∙ (ap (λ (o : Option ℕ). On l.number Hear ∷ (on_packet env l (Connect c) o h ++ [])) waits
    ∙ ap (λ (ds : List Deed). On l.number Hear ∷ ds) (append-nil (on_connect env l c h)))

-- what is under way behind the CONNECT, on a line that the deeds don't close
pub left_up : (n : ℕ) (ds : List Deed) (closings : List ℕ) (p : Publisher) (packet : Sent) (rest : List Sent) → p.line.up ≡ packet ∷ rest → filter_map closing ds ≡ closings → is_one_of (Some n) closings ≡ false
    → filter_map shaken (unless_closed (is_one_of (Some n) (filter_map closing ds)) (drop 1 p.line.up)) ≡ filter_map shaken rest
left_up n ds closings p packet rest up is stays =
    ap (λ (t : Bool). filter_map shaken (unless_closed t (drop 1 p.line.up))) (ap (is_one_of (Some n)) is ∙ stays) ∙ ap (λ (xs : List Sent). filter_map shaken (drop 1 xs)) up

-- what the publisher sees of it is this event of its hop
abbrev pub Sees : Capacity → MemberChoice → ℕ → Bool → Publisher → BrokerLine → Broker → List ℕ → HopEvent → Type 0
Sees limits choice now clean p l b accepted e =
    seen accepted (after_step limits choice now (Input l.number (connect_packet clean p)) p b) (stepped limits choice now (Input l.number (connect_packet clean p)) b)
    ≡ step (seen accepted p b) e

-- which it is if the deeds show what the hop does
pub connect_seen : (limits : Capacity) (choice : MemberChoice) (now : ℕ) (clean : Bool) (p : Publisher) (rest : List Sent) (l : BrokerLine) (b : Broker) (accepted : List ℕ)
    (pick : Choice) (stood linked : Bool) (up : List FromPublisher) (ps : List ToPublisher) (old : List FromPublisher) (stands : Bool) (ids : List ℕ)
    → p.line.up ≡ shake (CONNECT clean) ∷ rest → p.line.number ≡ Some l.number → is_some (session_named p.client b.records) ≡ stood
    → Shows p l.number (deeds limits choice now (Input l.number (connect_packet clean p)) b) (at_moment now b) linked up ps old stands ids
    → hop_of accepted p linked up (filter_map heard_in p.line.down ++ ps) old stands ids ≡ on_hop stood clean pick (filter_map shaken rest) (seen accepted p b)
    → Sees limits choice now clean p l b accepted (to_broker pick)
connect_seen limits choice now clean p rest l b accepted pick stood linked up ps old stands ids packet number before x same =
    let w = seen accepted p b in
    shown_is_seen limits choice now (Input l.number (connect_packet clean p)) p l.number b accepted linked up ps old stands ids number x
    ∙ (same
    ∙ (ap (λ (t : Bool). on_hop t clean pick (filter_map shaken rest) w) (sym before)
    ∙ sym (ap (λ (xs : List FromPublisher). broker_reads pick xs w) (ap (filter_map shaken) packet))))
