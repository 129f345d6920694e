-- The broker reads the first packet of a publisher's own line: what the publisher sees of it is an event of its hop.
use Rattle.std.proofs.Common.{◌≡◌, ℕ, Bool, true, false, ◌||◌, List, [], ◌∷◌, ◌++◌, drop, Option, Some, None, nat_eq, refl, sym, ap, subst, ◌∙◌, append-nil}
use Rattle.std.specs.Prelude.{option_map, filter_map, is_some}
use Rattle.mqtt_packet.specs.declared.codec.packet.Packet.{Packet}
use Rattle.mqtt_flow.specs.declared.inbound.inflow.Published.{Published}
use Rattle.mqtt_flow.specs.declared.inbound.inflow.Published.TheVariants.{New, Again, Over}
use Rattle.mqtt_flow.specs.inbound.Inbound.{answer_to, ids_on}
use Rattle.mqtt_flow.specs.inbound.Publisher.{FromPublisher, ToPublisher}
use Rattle.mqtt_flow.specs.inbound.InboundWorld.{World as Hop, Choice, takes, takes_unheard, refuses, Verdict, accept, refuse, repeat, shut, verdict_on, ids_by}
use Rattle.mqtt_records.specs.declared.state.session.Session.{Session}
use Rattle.mqtt_rules.specs.declared.step.Capacity.{Capacity}
use Rattle.mqtt_rules.specs.step.State.{MemberChoice, Line as BrokerLine, Broker, session_at, line_at}
use Rattle.mqtt_rules.specs.step.Deeds.{Deed, Hear, On, closing, after, after_all, always, series, with_session, with_line}
use Rattle.mqtt_rules.specs.step.Step.{Call, Input, next_packet, on_packet, at_moment, env_of, deeds, stepped}
use Rattle.mqtt_world_model.specs.model.Lines.{is_one_of, unless_closed}
use Rattle.mqtt_world_model.specs.model.Ends.{Sent, Publisher}
use Rattle.mqtt_world_model.specs.model.Seen.{shaken, heard_in, is_linked, seen}
use Rattle.mqtt_world_model.specs.model.Hops.{IsConnected, IsOnly, after_step}
use Rattle.mqtt_world_model.proofs.model_lemmas.others.Rows.{Face, face}
use Rattle.mqtt_world_model.proofs.model_lemmas.others.Quiet.{closes, session_on, quiet_line}
use Rattle.mqtt_world_model.proofs.model_lemmas.own.Publishes.{Gives, quiet_then, face_by}
use Rattle.mqtt_world_model.proofs.model_lemmas.others.Names.{only_deeds, none_begun}
use Rattle.mqtt_world_model.proofs.model_lemmas.seats.Seeing.{among_closed, linked_of, linked_is, named_face, hop_of, shown_is_seen}

-- ---- the deeds of its packet

-- the broker that has heard of the line
abbrev pub heard_of : ℕ → ℕ → Broker → Broker
heard_of now n b = after (On n Hear) (at_moment now b)

-- a packet on the publisher's line is heard and answered
pub input_is : (limits : Capacity) (choice : MemberChoice) (now : ℕ) (packet : Packet) (l : BrokerLine) (s : Session) (b : Broker)
    → line_at l.number b ≡ Some l → l.session ≡ Some s.birth → session_at s.birth b.records ≡ Some s
    → deeds limits choice now (Input l.number packet) b
    ≡ On l.number Hear ∷ (next_packet (env_of limits choice b) l packet s (heard_of now l.number b) ++ [])
input_is limits choice now packet l s b line on at =
    let env = env_of limits choice b in
    let c = at_moment now b in
    let d = heard_of now l.number b in
    ap (λ (o : Option BrokerLine). with_line o (λ (x : BrokerLine). series (always (On l.number Hear ∷ []) ∷ on_packet env x packet x.session ∷ [])) c) line
    ∙ (ap (λ (o : Option ℕ). On l.number Hear ∷ (on_packet env l packet o d ++ [])) on
    ∙ ap (λ (o : Option Session). On l.number Hear ∷ (with_session o (next_packet env l packet) d ++ [])) at)

-- what the packet does, the call does
pub input_gives : (limits : Capacity) (choice : MemberChoice) (now : ℕ) (packet : Packet) (l : BrokerLine) (s : Session) (b : Broker) (f : Face) (on : Option (Option ℕ)) (ps : List ToPublisher) (t : Bool) (count : List ℕ)
    → line_at l.number b ≡ Some l → l.session ≡ Some s.birth → session_at s.birth b.records ≡ Some s
    → Gives s.birth l.number (next_packet (env_of limits choice b) l packet s (heard_of now l.number b)) (heard_of now l.number b) f on ps t count
    → Gives s.birth l.number (deeds limits choice now (Input l.number packet) b) (at_moment now b) f on ps t count
input_gives limits choice now packet l s b f on ps t count line connected at g =
    let own = next_packet (env_of limits choice b) l packet s (heard_of now l.number b) in
    subst (λ (ds : List Deed). Gives s.birth l.number ds (at_moment now b) f on ps t count)
    (sym (input_is limits choice now packet l s b line connected at))
    (quiet_then s.birth l.number (On l.number Hear ∷ []) (own ++ []) (at_moment now b) f on ps t count (λ m. (tt, tt))
    (subst (λ (ds : List Deed). Gives s.birth l.number ds (heard_of now l.number b) f on ps t count) (sym (append-nil own)) g))

-- the line, once it was heard of
pub still_on : (now : ℕ) (l : BrokerLine) (s : Session) (b : Broker) → line_at l.number b ≡ Some l → l.session ≡ Some s.birth
    → session_on l.number (heard_of now l.number b).lines ≡ Some (Some s.birth)
still_on now l s b line on =
    quiet_line s.birth l.number _ (On l.number Hear) b.lines tt
    ∙ (ap (option_map (λ (x : BrokerLine). x.session)) line ∙ ap Some on)

-- ---- what the publisher sees after a step with these deeds, of which the first packet of its line was taken

abbrev pub seen_by : List ℕ → Publisher → List Sent → Face → Option (Option ℕ) → List ToPublisher → Bool → Hop
seen_by accepted p rest f on ps t =
    hop_of accepted p (linked_of on) (filter_map shaken (unless_closed t rest)) (filter_map heard_in p.line.down ++ ps) (filter_map shaken p.line.old) true f.inbound

-- a number that isn't the one in the list
pub not_the_one : (n m : ℕ) → is_one_of (Some m) (n ∷ []) ≡ false → nat_eq n m ≡ false
not_the_one n m h = first (nat_eq n m) h
  where
    first : (t : Bool) → (t || false) ≡ false → t ≡ false
    first true e = absurd cc
    first false e = refl

-- another line than n stays, if the deeds close no other
pub among_one : (n : ℕ) (old : Option ℕ) (ds : List Deed) → is_one_of old (n ∷ []) ≡ false → ((m : ℕ) → nat_eq n m ≡ false → closes m ds ≡ false)
    → is_one_of old (filter_map closing ds) ≡ false
among_one n None ds h others = refl
among_one n (Some m) ds h others = among_closed m ds ∙ others m (not_the_one n m h)

-- the publisher sees what the deeds of the packet give
pub sees : (limits : Capacity) (choice : MemberChoice) (now : ℕ) (call : Call) (p : Publisher) (rest : List Sent) (packet : Sent) (l : BrokerLine) (s : Session) (b : Broker)
    (accepted : List ℕ) (f : Face) (on : Option (Option ℕ)) (ps : List ToPublisher) (t : Bool) (count : List ℕ)
    → p.line.up ≡ packet ∷ rest → IsConnected p l s b → f.client ≡ p.client
    → Gives s.birth l.number (deeds limits choice now call b) (at_moment now b) f on ps t count
    → seen accepted (after_step limits choice now call p b) (stepped limits choice now call b) ≡ seen_by accepted p rest f on ps t
sees limits choice now call p rest packet l s b accepted f on ps t count up c client g =
    let ds = deeds limits choice now call b in
    let start = at_moment now b in
    let only : IsOnly p.client s.birth (after_all ds start).records = only_deeds p.client s.birth ds start (none_begun p.client s.birth ds g.begun_is) c.only in
    let named = named_face p.client s.birth (after_all ds start).records f only g.face_is client in
    shown_is_seen limits choice now call p l.number b accepted (linked_of on) (filter_map shaken (unless_closed t rest)) ps (filter_map shaken p.line.old) true f.inbound c.number (record {
      linked_is = ap linked_of g.line_is;
      up_is =
          ap (λ (x : Bool). filter_map shaken (unless_closed x (drop 1 p.line.up))) (among_closed l.number ds ∙ g.closes_is)
          ∙ ap (λ (xs : List Sent). filter_map shaken (unless_closed t (drop 1 xs))) up;
      told_is = g.told_is;
      old_is = ap (λ (x : Bool). filter_map shaken (unless_closed x p.line.old)) (among_one l.number p.line.old_number ds c.apart g.others);
      stands_is = named.0;
      ids_is = named.1;
    })

-- ---- before the step

-- its session is connected on its line, where the packets `up` are under way
abbrev pub seen_with : List ℕ → Publisher → List FromPublisher → List ℕ → Hop
seen_with accepted p up ids = hop_of accepted p true up (filter_map heard_in p.line.down) (filter_map shaken p.line.old) true ids

-- a connected publisher sees its session's identifiers
pub seen_before : (p : Publisher) (rest : List Sent) (packet : Sent) (l : BrokerLine) (s : Session) (b : Broker) (accepted : List ℕ)
    → p.line.up ≡ packet ∷ rest → IsConnected p l s b
    → seen accepted p b ≡ seen_with accepted p (filter_map shaken (packet ∷ rest)) s.inbound
seen_before p rest packet l s b accepted up c =
    let linked : is_linked p.line.number b ≡ true =
    ap (λ (o : Option ℕ). is_linked o b) c.number
    ∙ (linked_is l.number b ∙ (ap (λ (o : Option BrokerLine). linked_of (option_map (λ (x : BrokerLine). x.session) o)) c.line ∙ ap is_some c.connected)) in
    let named = named_face p.client s.birth b.records (face s) c.only (ap (option_map face) c.session) c.client in
    let ups = ap (filter_map shaken) up in
    let stands = named.0 in
    let ids = named.1 in
    λ i. hop_of accepted p (linked i) (ups i) (filter_map heard_in p.line.down) (filter_map shaken p.line.old) (stands i) (ids i)

-- ---- the session after it

-- the session has the identifiers that the hop has
pub ids_agree : (st : Published) (choice : Choice) (id now : ℕ) (f : Face) → answer_to id f.inbound ≡ st
    → (face_by (verdict_on st choice) id now f).inbound ≡ ids_by (verdict_on st choice) id f.inbound
ids_agree New takes id now f e = refl
ids_agree New takes_unheard id now f e = refl
ids_agree New refuses id now f e = refl
ids_agree Again choice id now f e = sym (ap (λ (a : Published). ids_on a id f.inbound) e)
ids_agree Over choice id now f e = sym (ap (λ (a : Published). ids_on a id f.inbound) e)

-- it keeps its client identifier
pub face_client : (v : Verdict) (id now : ℕ) (f : Face) → (face_by v id now f).client ≡ f.client
face_client (accept code) id now f = refl
face_client refuse id now f = refl
face_client repeat id now f = refl
face_client shut id now f = refl
