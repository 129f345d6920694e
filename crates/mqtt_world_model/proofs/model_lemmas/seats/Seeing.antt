-- From the deeds of a step to what a publisher sees of the world after it.
use Rattle.std.proofs.Common.{◌≡◌, ℕ, Bool, true, false, cond, ◌||◌, List, [], ◌∷◌, ◌++◌, drop, Option, Some, None, nat_eq, bytes_eq, refl, ap, ◌∙◌}
use Rattle.std.specs.Prelude.{option_map, find, filter_map, is_some}
use Rattle.std.specs.List.{cons_option}
use Rattle.std.proofs.lemmas.List.Elements.{filter_map-append}
use Rattle.mqtt_packet.specs.declared.codec.packet.Packet.{Packet}
use Rattle.mqtt_flow.specs.inbound.Publisher.{FromPublisher, ToPublisher}
use Rattle.mqtt_flow.specs.inbound.InboundWorld.{World as Hop}
use Rattle.mqtt_records.specs.declared.state.session.Session.{Session}
use Rattle.mqtt_records.specs.declared.state.change.Change.{Change}
use Rattle.mqtt_records.specs.declared.state.records.Records.{Records}
use Rattle.mqtt_rules.specs.declared.step.Capacity.{Capacity}
use Rattle.mqtt_rules.specs.step.State.{MemberChoice, Line as BrokerLine, Broker, session_at, session_named, line_at}
use Rattle.mqtt_rules.specs.step.Deeds.{Deed, output, closing, after_all, rows_of_all}
use Rattle.mqtt_rules.specs.step.Step.{Call, with_moment, at_moment, deeds, stepped}
use Rattle.mqtt_world_model.specs.model.Lines.{Down, copy_in, sent_to, is_one_of, unless_closed}
use Rattle.mqtt_world_model.specs.model.Ends.{Publisher, heard}
use Rattle.mqtt_world_model.specs.model.Seen.{qos_of_draft, shaken, heard_in, has_session, is_linked, open_in, seen}
use Rattle.mqtt_world_model.specs.model.Hops.{IsOnly, after_step}
use Rattle.mqtt_world_model.proofs.model_lemmas.others.Rows.{Face, face, face_at}
use Rattle.mqtt_world_model.proofs.model_lemmas.others.Quiet.{heard_on, heard_by, told_to, is_closing, closes, session_on}
use Rattle.mqtt_world_model.proofs.model_lemmas.others.Names.{named_is}

-- ---- the moment of a step changes no session and no line

-- the stored moment changes no session
pub done_sessions : (rows : List Change) (b : Broker) → (with_moment rows b).records.sessions ≡ b.records.sessions
done_sessions [] b = refl
done_sessions (row ∷ rows) b = refl

-- nor a line
pub done_lines : (rows : List Change) (b : Broker) → (with_moment rows b).lines ≡ b.lines
done_lines [] b = refl
done_lines (row ∷ rows) b = refl

-- ---- what is read off the deeds is what the outcome says

-- a line that was closed is among those that were
pub among_closed : (n : ℕ) (ds : List Deed) → is_one_of (Some n) (filter_map closing ds) ≡ closes n ds
among_closed n [] = refl
among_closed n (d ∷ ds) = first (closing d) (among_closed n ds)
  where
    first : (o : Option ℕ) → is_one_of (Some n) (filter_map closing ds) ≡ closes n ds
        → is_one_of (Some n) (cons_option o (filter_map closing ds)) ≡ (is_closing n o || closes n ds)
    first None h = h
    first (Some m) h = ap (λ (t : Bool). nat_eq m n || t) h

sent_one : (t : Bool) (n : ℕ) (b : Broker) (packet : Packet) (rest : List Down)
    → filter_map heard_in (cons_option (cond t (Some (record { packet = packet; copy = copy_in n b packet })) None) rest)
    ≡ cons_option (cond t (heard packet) None) (filter_map heard_in rest)
sent_one true n b packet rest = refl
sent_one false n b packet rest = refl

-- what goes down the publisher's line is what it was told
pub told_down : (n : ℕ) (b : Broker) (ds : List Deed) → filter_map heard_in (sent_to (Some n) b (filter_map output ds)) ≡ told_to n ds
told_down n b [] = refl
told_down n b (d ∷ ds) = first (output d) (told_down n b ds)
  where
    first : (o : Option (ℕ × Packet)) → filter_map heard_in (sent_to (Some n) b (filter_map output ds)) ≡ told_to n ds
        → filter_map heard_in (sent_to (Some n) b (cons_option o (filter_map output ds))) ≡ cons_option (heard_by n o) (told_to n ds)
    first None h = h
    first (Some x) h =
        sent_one (nat_eq x.0 n) n b x.1 (sent_to (Some n) b (filter_map output ds)) ∙ ap (cons_option (heard_on n x)) h

-- two lists are heard one behind the other
pub append_heard : (xs ys : List Down) → filter_map heard_in (xs ++ ys) ≡ filter_map heard_in xs ++ filter_map heard_in ys
append_heard xs ys = filter_map-append heard_in xs ys

-- ---- the line and the session, as they are found

abbrev pub linked_of : Option (Option ℕ) → Bool
linked_of None = false
linked_of (Some session) = is_some session

linked_by : (o : Option BrokerLine) → has_session o ≡ linked_of (option_map (λ (l : BrokerLine). l.session) o)
linked_by None = refl
linked_by (Some l) = refl

-- a line is linked if somebody may be seen on it
pub linked_is : (n : ℕ) (b : Broker) → is_linked (Some n) b ≡ linked_of (session_on n b.lines)
linked_is n b = linked_by (line_at n b)

-- the session that shows this face
pub some_face : (f : Face) (o : Option Session) → option_map face o ≡ Some f → (s : Session) × (o ≡ Some s) × (face s ≡ f)
some_face f None h = absurd cc
some_face f (Some s) h = (s, refl, cc)

-- the session of the publisher's name shows what it has
pub named_face : (client : List ℕ) (birth : ℕ) (r : Records) (f : Face) → IsOnly client birth r → face_at birth r ≡ Some f → f.client ≡ client
    → (is_some (session_named client r) ≡ true) × (open_in (session_named client r) ≡ f.inbound)
named_face client birth r f only at is =
    let found = some_face f (session_at birth r) at in
    let s = found.0 in
    let its : s.client ≡ client = ap (λ (g : Face). g.client) found.2 ∙ is in
    let named : session_named client r ≡ Some s = named_is client birth r s only found.1 its in
    (ap is_some named, ap open_in named ∙ ap (λ (g : Face). g.inbound) found.2)

-- ---- the world after a call, as its deeds leave it

-- the session of a name
pub named_after : (limits : Capacity) (choice : MemberChoice) (now : ℕ) (call : Call) (client : List ℕ) (b : Broker)
    → session_named client (stepped limits choice now call b).records ≡ session_named client (after_all (deeds limits choice now call b) (at_moment now b)).records
named_after limits choice now call client b =
    let ds = deeds limits choice now call b in
    let start = at_moment now b in
    ap (λ (ss : List Session). find (λ (x : Session). bytes_eq x.client client) ss) (done_sessions (rows_of_all ds start.records) (after_all ds start))

-- whether a session is connected on a line
pub linked_after : (limits : Capacity) (choice : MemberChoice) (now : ℕ) (call : Call) (n : ℕ) (b : Broker)
    → is_linked (Some n) (stepped limits choice now call b) ≡ linked_of (session_on n (after_all (deeds limits choice now call b) (at_moment now b)).lines)
linked_after limits choice now call n b =
    let ds = deeds limits choice now call b in
    let start = at_moment now b in
    linked_is n (stepped limits choice now call b)
    ∙ ap (λ (ls : List BrokerLine). linked_of (session_on n ls)) (done_lines (rows_of_all ds start.records) (after_all ds start))

-- what is under way on a line to its end
pub told_after : (limits : Capacity) (choice : MemberChoice) (now : ℕ) (call : Call) (n : ℕ) (down : List Down) (b : Broker)
    → filter_map heard_in (down ++ sent_to (Some n) (stepped limits choice now call b) (filter_map output (deeds limits choice now call b)))
    ≡ filter_map heard_in down ++ told_to n (deeds limits choice now call b)
told_after limits choice now call n down b =
    let ds = deeds limits choice now call b in
    let new = stepped limits choice now call b in
    append_heard down (sent_to (Some n) new (filter_map output ds)) ∙ ap (λ (ps : List ToPublisher). filter_map heard_in down ++ ps) (told_down n new ds)

-- ---- what a publisher sees, part by part

-- a hop with this publisher's messages, link and Clean Start, and these parts
abbrev pub hop_of : List ℕ → Publisher → Bool → List FromPublisher → List ToPublisher → List FromPublisher → Bool → List ℕ → Hop
hop_of accepted p linked up down old stands ids = record {
  fates = p.fates;
  unsent = filter_map qos_of_draft p.unsent;
  link = p.line.link;
  clean = p.line.clean;
  linked = linked;
  up = up;
  down = down;
  old = old;
  stands = stands;
  ids = ids;
  accepted = accepted;
}

-- what deeds leave for a publisher whose line is n: the packets ps go out there
pub record Shows (p : Publisher) (n : ℕ) (ds : List Deed) (b : Broker) (linked : Bool) (up : List FromPublisher) (ps : List ToPublisher) (old : List FromPublisher) (stands : Bool) (ids : List ℕ) : Type 0 where
  pub linked_is : linked_of (session_on n (after_all ds b).lines) ≡ linked
  pub up_is : filter_map shaken (unless_closed (is_one_of (Some n) (filter_map closing ds)) (drop 1 p.line.up)) ≡ up
  pub told_is : told_to n ds ≡ ps
  pub old_is : filter_map shaken (unless_closed (is_one_of p.line.old_number (filter_map closing ds)) p.line.old) ≡ old
  pub stands_is : is_some (session_named p.client (after_all ds b).records) ≡ stands
  pub ids_is : open_in (session_named p.client (after_all ds b).records) ≡ ids

-- after a step in which the first packet of its line was read, it sees what the deeds leave for it
pub shown_is_seen : (limits : Capacity) (choice : MemberChoice) (now : ℕ) (call : Call) (p : Publisher) (n : ℕ) (b : Broker) (accepted : List ℕ)
    (linked : Bool) (up : List FromPublisher) (ps : List ToPublisher) (old : List FromPublisher) (stands : Bool) (ids : List ℕ)
    → p.line.number ≡ Some n → Shows p n (deeds limits choice now call b) (at_moment now b) linked up ps old stands ids
    → seen accepted (after_step limits choice now call p b) (stepped limits choice now call b) ≡ hop_of accepted p linked up (filter_map heard_in p.line.down ++ ps) old stands ids
shown_is_seen limits choice now call p n b accepted linked up ps old stands ids is x =
    let ds = deeds limits choice now call b in
    let new = stepped limits choice now call b in
    let links : is_linked p.line.number new ≡ linked = ap (λ (o : Option ℕ). is_linked o new) is ∙ (linked_after limits choice now call n b ∙ x.linked_is) in
    let ups : filter_map shaken (unless_closed (is_one_of p.line.number (filter_map closing ds)) (drop 1 p.line.up)) ≡ up =
    ap (λ (o : Option ℕ). filter_map shaken (unless_closed (is_one_of o (filter_map closing ds)) (drop 1 p.line.up))) is ∙ x.up_is in
    let downs : filter_map heard_in (p.line.down ++ sent_to p.line.number new (filter_map output ds)) ≡ filter_map heard_in p.line.down ++ ps =
    ap (λ (o : Option ℕ). filter_map heard_in (p.line.down ++ sent_to o new (filter_map output ds))) is
    ∙ (told_after limits choice now call n p.line.down b ∙ ap (λ (xs : List ToPublisher). filter_map heard_in p.line.down ++ xs) x.told_is) in
    let named = named_after limits choice now call p.client b in
    let stand : is_some (session_named p.client new.records) ≡ stands = ap is_some named ∙ x.stands_is in
    let open_ids : open_in (session_named p.client new.records) ≡ ids = ap open_in named ∙ x.ids_is in
    λ i. hop_of accepted p (links i) (ups i) (downs i) (x.old_is i) (stand i) (open_ids i)
