-- The broker reads what a publisher left on the line that it gave up, while its session is connected still: nobody reads the
-- answer. It is that event of its hop (MQTT 5.0, 4.3.2, 4.3.3, 4.4).
use Rattle.std.proofs.Common.{◌≡◌, ℕ, suc, Bool, true, false, List, [], ◌∷◌, ◌++◌, drop, Option, Some, None, nat_eq, refl, sym, ap, ◌∙◌, append-nil, arith}
use Rattle.std.specs.Prelude.{⊤, option_map, filter_map, is_some}
use Rattle.std.proofs.lemmas.Cmp.{nat_eq_equiv}
use Rattle.mqtt_packet.specs.declared.codec.packet.Packet.{Packet}
use Rattle.mqtt_packet.specs.declared.codec.packet.Packet.TheVariants.{Publish, Pubrel}
use Rattle.mqtt_flow.specs.inbound.Publisher.{FromPublisher, ToPublisher}
use Rattle.mqtt_flow.specs.inbound.InboundWorld.{World as Hop}
use Rattle.mqtt_records.specs.declared.state.session.Session.{Session}
use Rattle.mqtt_rules.specs.declared.step.Capacity.{Capacity}
use Rattle.mqtt_rules.specs.step.State.{MemberChoice, Line as BrokerLine, Broker, session_named}
use Rattle.mqtt_rules.specs.step.Deeds.{Deed, output, closing, after_all}
use Rattle.mqtt_rules.specs.step.Step.{Call, Input, at_moment, deeds, stepped}
use Rattle.mqtt_world_model.specs.model.Lines.{sent_to, is_one_of, unless_closed}
use Rattle.mqtt_world_model.specs.model.Ends.{Sent, Publisher}
use Rattle.mqtt_world_model.specs.model.Seen.{shaken, heard_in, is_linked, open_in, seen}
use Rattle.mqtt_world_model.specs.model.Hops.{IsOnly, IsLingering, after_old_step}
use Rattle.mqtt_world_model.proofs.model_lemmas.others.Rows.{Face, face}
use Rattle.mqtt_world_model.proofs.model_lemmas.others.Far.{AreFar, apart_by, less_differs}
use Rattle.mqtt_world_model.proofs.model_lemmas.own.Publishes.{Gives}
use Rattle.mqtt_world_model.proofs.model_lemmas.others.Names.{only_deeds, none_begun}
use Rattle.mqtt_world_model.proofs.model_lemmas.seats.Seeing.{among_closed, told_down, append_heard, linked_of, linked_is, named_face, named_after, linked_after, hop_of}
use Rattle.mqtt_world_model.proofs.model_lemmas.own.OwnStep.{not_the_one, among_one}
use Rattle.mqtt_world_model.proofs.model_lemmas.others.Elsewhere.{far_elsewhere}

-- ---- what the publisher sees: its own line is as it was

-- the packets `old` are under way on the line that it gave up
abbrev pub old_with : List ℕ → Publisher → Broker → List FromPublisher → List ℕ → Hop
old_with accepted p b old ids = hop_of accepted p (is_linked p.line.number b) (filter_map shaken p.line.up) (filter_map heard_in p.line.down) old true ids

-- a publisher whose session is connected there still sees its session's identifiers
pub old_before : (p : Publisher) (old : List Sent) (l : BrokerLine) (s : Session) (b : Broker) (accepted : List ℕ) → p.line.old ≡ old → IsLingering p l s b
    → seen accepted p b ≡ old_with accepted p b (filter_map shaken old) s.inbound
old_before p old l s b accepted is c =
    let named = named_face p.client s.birth b.records (face s) c.only (ap (option_map face) c.session) c.client in
    let stands = named.0 in
    let ids = named.1 in
    λ i. hop_of accepted p (is_linked p.line.number b) (filter_map shaken p.line.up) (filter_map heard_in p.line.down) (filter_map shaken (is i)) (stands i) (ids i)

-- deeds that are far from every other line
abbrev pub AreElsewhere : List ℕ → ℕ → ℕ → List Deed → Type 0
AreElsewhere client birth n ds = (m : ℕ) → nat_eq n m ≡ false → AreFar client (suc birth) m ds

-- it sees what the deeds give its session, and no answer
pub old_sees : (limits : Capacity) (choice : MemberChoice) (now : ℕ) (call : Call) (p : Publisher) (rest : List Sent) (packet : Sent) (l : BrokerLine) (s : Session) (b : Broker)
    (accepted : List ℕ) (f : Face) (on : Option (Option ℕ)) (ps : List ToPublisher) (t : Bool) (count : List ℕ)
    → p.line.old ≡ packet ∷ rest → IsLingering p l s b → f.client ≡ p.client
    → Gives s.birth l.number (deeds limits choice now call b) (at_moment now b) f on ps t count → AreElsewhere p.client s.birth l.number (deeds limits choice now call b)
    → seen accepted (after_old_step limits choice now call p b) (stepped limits choice now call b) ≡ old_with accepted p b (filter_map shaken (unless_closed t rest)) f.inbound
old_sees limits choice now call p rest packet l s b accepted f on ps t count old c client g far =
    let ds = deeds limits choice now call b in
    let start = at_moment now b in
    let new = stepped limits choice now call b in
    let outputs = filter_map output ds in
    let only : IsOnly p.client s.birth (after_all ds start).records = only_deeds p.client s.birth ds start (none_begun p.client s.birth ds g.begun_is) c.only in
    let named = named_face p.client s.birth (after_all ds start).records f only g.face_is client in
    let after = named_after limits choice now call p.client b in
    let linked : is_linked p.line.number new ≡ is_linked p.line.number b = kept_line p.line.number c.apart in
    let ups : filter_map shaken (unless_closed (is_one_of p.line.number (filter_map closing ds)) p.line.up) ≡ filter_map shaken p.line.up =
    ap (λ (x : Bool). filter_map shaken (unless_closed x p.line.up)) (among_one l.number p.line.number ds c.apart g.others) in
    let downs : filter_map heard_in (p.line.down ++ sent_to p.line.number new outputs) ≡ filter_map heard_in p.line.down =
    append_heard p.line.down (sent_to p.line.number new outputs)
    ∙ (ap (λ (xs : List ToPublisher). filter_map heard_in p.line.down ++ xs) (none_told p.line.number c.apart)
    ∙ append-nil (filter_map heard_in p.line.down)) in
    let closed : is_one_of p.line.old_number (filter_map closing ds) ≡ t =
    ap (λ (o : Option ℕ). is_one_of o (filter_map closing ds)) c.number ∙ (among_closed l.number ds ∙ g.closes_is) in
    let olds : filter_map shaken (unless_closed (is_one_of p.line.old_number (filter_map closing ds)) (drop 1 p.line.old)) ≡ filter_map shaken (unless_closed t rest) =
    ap (λ (x : Bool). filter_map shaken (unless_closed x (drop 1 p.line.old))) closed ∙ ap (λ (xs : List Sent). filter_map shaken (unless_closed t (drop 1 xs))) old in
    let stands : is_some (session_named p.client new.records) ≡ true = ap is_some after ∙ named.0 in
    let ids : open_in (session_named p.client new.records) ≡ f.inbound = ap open_in after ∙ named.1 in
    λ i. hop_of accepted p (linked i) (ups i) (downs i) (olds i) (stands i) (ids i)
  where
    kept_line : (o : Option ℕ) → is_one_of o (l.number ∷ []) ≡ false → is_linked o (stepped limits choice now call b) ≡ is_linked o b
    kept_line None h = refl
    kept_line (Some m) h =
        let still = apart_by p.client (suc s.birth) m (deeds limits choice now call b) (at_moment now b) (far m (not_the_one l.number m h)) in
        linked_after limits choice now call m b ∙ (ap linked_of still.line_is ∙ sym (linked_is m b))

    none_told : (o : Option ℕ) → is_one_of o (l.number ∷ []) ≡ false → filter_map heard_in (sent_to o (stepped limits choice now call b) (filter_map output (deeds limits choice now call b))) ≡ []
    none_told None h = refl
    none_told (Some m) h =
        let ds = deeds limits choice now call b in
        told_down m (stepped limits choice now call b) ds ∙ (apart_by p.client (suc s.birth) m ds (at_moment now b) (far m (not_the_one l.number m h))).told_is

-- no number is the next one
pub further : (n : ℕ) → nat_eq n (suc n) ≡ false
further n = nat_eq_equiv.symm n (suc n) ∙ less_differs n (suc n) (omega arith)

-- a PUBLISH or a PUBREL
abbrev pub IsOwn : Packet → Type 0
IsOwn (Publish p) = ⊤
IsOwn (Pubrel a) = ⊤
IsOwn packet = ⊥

-- their deeds leave every other line alone
pub elsewhere : (limits : Capacity) (choice : MemberChoice) (now : ℕ) (p : Publisher) (packet : Packet) (l : BrokerLine) (s : Session) (b : Broker) → IsOwn packet → IsLingering p l s b
    → AreElsewhere p.client s.birth l.number (deeds limits choice now (Input l.number packet) b)
elsewhere limits choice now p (Publish x) l s b q c =
    λ m h. far_elsewhere p.client (suc s.birth) m l s (further s.birth) h limits choice now (Publish x) b tt c.line c.connected c.session c.no_will c.no_end
elsewhere limits choice now p (Pubrel a) l s b q c =
    λ m h. far_elsewhere p.client (suc s.birth) m l s (further s.birth) h limits choice now (Pubrel a) b tt c.line c.connected c.session c.no_will c.no_end
elsewhere limits choice now p packet l s b q c = absurd q
