-- A step on another line, or of the clock, or a pump: the publisher whose session is connected sees nothing of it, but that
-- the line which it gave up may be closed.
use Rattle.std.proofs.Common.{◌≡◌, ℕ, ◌≤◌, Bool, true, false, List, [], ◌∷◌, ◌++◌, Option, Some, None, nat_eq, bytes_eq, refl, sym, ap, subst, ◌∙◌, append-nil, inl, inr}
use Rattle.std.specs.Prelude.{option_map, find, filter_map, is_some}
use Rattle.std.specs.List.{AllByRecursion, starts_with}
use Rattle.std.proofs.lemmas.Bool.{cases_Bool}
use Rattle.std.proofs.lemmas.Slice.Eq.{bytes_eq-Decides}
use Rattle.mqtt_flow.specs.inbound.Publisher.{ToPublisher}
use Rattle.mqtt_flow.specs.inbound.InboundWorld.{World as Hop, Event as HopEvent, close_old, run}
use Rattle.mqtt_records.specs.declared.state.session.Session.{Session}
use Rattle.mqtt_records.specs.declared.state.change.Change.{Change}
use Rattle.mqtt_records.specs.lists.Order.{row_at}
use Rattle.mqtt_records.specs.state.Session.{birth_of, auto}
use Rattle.mqtt_rules.specs.declared.step.Capacity.{Capacity}
use Rattle.mqtt_rules.specs.step.State.{MemberChoice, Line as BrokerLine, Broker, session_at, session_named}
use Rattle.mqtt_rules.specs.step.Deeds.{output, closing, after_all, rows_of_all}
use Rattle.mqtt_rules.specs.step.Step.{Call, with_moment, at_moment, env_of, deeds, stepped, told}
use Rattle.mqtt_rules.proofs.step_lemmas.flight.FlightRows.{all_more}
use Rattle.mqtt_world_model.specs.model.Lines.{sent_to, is_one_of, unless_closed}
use Rattle.mqtt_world_model.specs.model.Ends.{Sent, Publisher}
use Rattle.mqtt_world_model.specs.model.World.{publisher_told}
use Rattle.mqtt_world_model.specs.model.Seen.{shaken, heard_in, is_linked, open_in, seen}
use Rattle.mqtt_world_model.specs.model.Hops.{IsIts, IsOurs, IsOurLine, Own, IsFarCall, IsConnected, IsKept}
use Rattle.mqtt_world_model.proofs.model_lemmas.others.Rows.{face}
use Rattle.mqtt_world_model.proofs.model_lemmas.others.Quiet.{session_on}
use Rattle.mqtt_world_model.proofs.model_lemmas.seats.Seeing.{done_sessions, done_lines, among_closed, told_down, append_heard, linked_of, linked_is, named_face, hop_of}
use Rattle.mqtt_world_model.proofs.model_lemmas.others.Far.{apart_by, not_same, own_deeds}
use Rattle.mqtt_world_model.proofs.model_lemmas.others.FarActs.{far_call}

only_ours : (client : List ℕ) (birth : ℕ) (ss : List Session) → AllByRecursion (IsOurs client birth) ss → AllByRecursion (IsIts client birth) ss
only_ours client birth ss h = all_more (IsOurs client birth) (IsIts client birth) ss (λ x p. p.named) h

-- what is left of the line that was given up, and the hop's events for that
abbrev pub old_events : Bool → List HopEvent
old_events true = close_old ∷ []
old_events false = []

old_closed : (t : Bool) (old : List Sent) (w : Hop) → w.old ≡ filter_map shaken old → record w { old = filter_map shaken (unless_closed t old) } ≡ run (old_events t) w
old_closed true old w e = refl
old_closed false old w e = λ i. record w { old = sym e i }

-- a step of others is unseen, but that the line given up may be closed
pub frame : (limits : Capacity) (choice : MemberChoice) (now : ℕ) (call : Call) (p : Publisher) (l : BrokerLine) (s : Session) (b : Broker) (accepted : List ℕ)
    → IsConnected p l s b → Own p.client s.birth l.number b → starts_with nat_eq p.client auto ≡ false → IsFarCall p.client l.number call
    → (es : List HopEvent) × (seen accepted (publisher_told (stepped limits choice now call b) (told limits choice now call b) p) (stepped limits choice now call b) ≡ run es (seen accepted p b))
frame limits choice now call p l s b accepted c own plain far =
    let start = at_moment now b in
    let o : Own p.client s.birth l.number start = record { sessions = own.sessions; lines = own.lines; births = own.births; given = own.given } in
    let ds = deeds limits choice now call b in
    let q = far_call p.client s.birth l.number (env_of limits choice b) call start o plain far in
    let a = apart_by p.client s.birth l.number ds start q in
    let end = own_deeds p.client s.birth l.number ds start q o in
    let new = stepped limits choice now call b in
    let rows = rows_of_all ds start.records in
    let n = l.number in
    let outputs = filter_map output ds in
    let t = is_one_of p.line.old_number (filter_map closing ds) in
    let sessions : new.records.sessions ≡ (after_all ds start).records.sessions = done_sessions rows (after_all ds start) in
    let lines : new.lines ≡ (after_all ds start).lines = done_lines rows (after_all ds start) in
    let linked : is_linked p.line.number new ≡ is_linked p.line.number b =
    ap (λ (x : Option ℕ). is_linked x new) c.number
    ∙ (linked_is n new
    ∙ (ap (λ (ls : List BrokerLine). linked_of (session_on n ls)) lines
    ∙ (ap linked_of a.line_is
    ∙ (sym (linked_is n b)
    ∙ sym (ap (λ (x : Option ℕ). is_linked x b) c.number))))) in
    let ups : filter_map shaken (unless_closed (is_one_of p.line.number (filter_map closing ds)) p.line.up) ≡ filter_map shaken p.line.up =
    ap (λ (x : Bool). filter_map shaken (unless_closed x p.line.up)) (ap (λ (x : Option ℕ). is_one_of x (filter_map closing ds)) c.number ∙ (among_closed n ds ∙ a.closes_is)) in
    let downs : filter_map heard_in (p.line.down ++ sent_to p.line.number new outputs) ≡ filter_map heard_in p.line.down =
    ap (λ (x : Option ℕ). filter_map heard_in (p.line.down ++ sent_to x new outputs)) c.number
    ∙ (append_heard p.line.down (sent_to (Some n) new outputs)
    ∙ (ap (λ (xs : List ToPublisher). filter_map heard_in p.line.down ++ xs) (told_down n new ds ∙ a.told_is)
    ∙ append-nil (filter_map heard_in p.line.down))) in
    let at_first = named_face p.client s.birth b.records (face s) c.only (ap (option_map face) c.session) c.client in
    let at_last = named_face p.client s.birth (after_all ds start).records (face s) (only_ours p.client s.birth (after_all ds start).records.sessions end.sessions) (a.face_is ∙ ap (option_map face) c.session) c.client in
    let stands : is_some (session_named p.client new.records) ≡ is_some (session_named p.client b.records) =
    ap (λ (ss : List Session). is_some (find (λ (x : Session). bytes_eq x.client p.client) ss)) sessions ∙ (at_last.0 ∙ sym at_first.0) in
    let ids : open_in (session_named p.client new.records) ≡ open_in (session_named p.client b.records) =
    ap (λ (ss : List Session). open_in (find (λ (x : Session). bytes_eq x.client p.client) ss)) sessions ∙ (at_last.1 ∙ sym at_first.1) in
    let same : seen accepted (publisher_told new (told limits choice now call b) p) new ≡ record (seen accepted p b) { old = filter_map shaken (unless_closed t p.line.old) } =
    λ i. hop_of accepted p (linked i) (ups i) (downs i) (filter_map shaken (unless_closed t p.line.old)) (stands i) (ids i) in
    (old_events t, same ∙ old_closed t p.line.old (seen accepted p b) refl)

-- the session and the line stay the publisher's
pub kept_births : (rows : List Change) (b : Broker) → (with_moment rows b).records.births ≡ b.records.births
kept_births [] b = refl
kept_births (row ∷ rows) b = refl

-- the stored moment gives no line
pub kept_given : (rows : List Change) (b : Broker) → (with_moment rows b).given ≡ b.given
kept_given [] b = refl
kept_given (row ∷ rows) b = refl

-- the stored moment leaves what is the publisher's
pub own_done : (client : List ℕ) (birth n : ℕ) (rows : List Change) (b : Broker) → Own client birth n b → Own client birth n (with_moment rows b)
own_done client birth n rows b o = record {
  sessions = subst (λ (ss : List Session). AllByRecursion (IsOurs client birth) ss) (sym (done_sessions rows b)) o.sessions;
  lines = subst (λ (ls : List BrokerLine). AllByRecursion (IsOurLine birth n) ls) (sym (done_lines rows b)) o.lines;
  births = subst (λ (k : ℕ). birth ≤ k) (sym (kept_births rows b)) o.births;
  given = subst (λ (k : ℕ). n ≤ k) (sym (kept_given rows b)) o.given;
}

-- a call of another's leaves what is the publisher's
pub own_stays : (limits : Capacity) (choice : MemberChoice) (now : ℕ) (call : Call) (client : List ℕ) (birth n : ℕ) (b : Broker)
    → Own client birth n b → starts_with nat_eq client auto ≡ false → IsFarCall client n call → Own client birth n (stepped limits choice now call b)
own_stays limits choice now call client birth n b own plain far =
    let start = at_moment now b in
    let o : Own client birth n start = record { sessions = own.sessions; lines = own.lines; births = own.births; given = own.given } in
    let ds = deeds limits choice now call b in
    let end = own_deeds client birth n ds start (far_call client birth n (env_of limits choice b) call start o plain far) o in
    let rows = rows_of_all ds start.records in
    let last = after_all ds start in
    record {
      sessions = subst (λ (ss : List Session). AllByRecursion (IsOurs client birth) ss) (sym (done_sessions rows last)) end.sessions;
      lines = subst (λ (ls : List BrokerLine). AllByRecursion (IsOurLine birth n) ls) (sym (done_lines rows last)) end.lines;
      births = subst (λ (k : ℕ). birth ≤ k) (sym (kept_births rows last)) end.births;
      given = subst (λ (k : ℕ). n ≤ k) (sym (kept_given rows last)) end.given;
    }

-- ---- while the publisher has no line

-- it sees what becomes of its session, and of the line that it gave up
away_seen : (limits : Capacity) (choice : MemberChoice) (now : ℕ) (call : Call) (p : Publisher) (b : Broker) (accepted : List ℕ) → p.line.number ≡ None
    → is_some (session_named p.client (stepped limits choice now call b).records) ≡ is_some (session_named p.client b.records)
    → open_in (session_named p.client (stepped limits choice now call b).records) ≡ open_in (session_named p.client b.records)
    → (es : List HopEvent) × (seen accepted (publisher_told (stepped limits choice now call b) (told limits choice now call b) p) (stepped limits choice now call b) ≡ run es (seen accepted p b))
away_seen limits choice now call p b accepted none stands ids =
    let ds = deeds limits choice now call b in
    let new = stepped limits choice now call b in
    let outputs = filter_map output ds in
    let t = is_one_of p.line.old_number (filter_map closing ds) in
    let linked : is_linked p.line.number new ≡ is_linked p.line.number b = ap (λ (x : Option ℕ). is_linked x new) none ∙ sym (ap (λ (x : Option ℕ). is_linked x b) none) in
    let ups : filter_map shaken (unless_closed (is_one_of p.line.number (filter_map closing ds)) p.line.up) ≡ filter_map shaken p.line.up =
    ap (λ (x : Option ℕ). filter_map shaken (unless_closed (is_one_of x (filter_map closing ds)) p.line.up)) none in
    let downs : filter_map heard_in (p.line.down ++ sent_to p.line.number new outputs) ≡ filter_map heard_in p.line.down =
    ap (λ (x : Option ℕ). filter_map heard_in (p.line.down ++ sent_to x new outputs)) none
    ∙ ap (filter_map heard_in) (append-nil p.line.down) in
    let same : seen accepted (publisher_told new (told limits choice now call b) p) new ≡ record (seen accepted p b) { old = filter_map shaken (unless_closed t p.line.old) } =
    λ i. hop_of accepted p (linked i) (ups i) (downs i) (filter_map shaken (unless_closed t p.line.old)) (stands i) (ids i) in
    (old_events t, same ∙ old_closed t p.line.old (seen accepted p b) refl)

-- its session stands, connected on the line that it gave up or nowhere
pub away_frame : (limits : Capacity) (choice : MemberChoice) (now : ℕ) (call : Call) (p : Publisher) (n : ℕ) (s : Session) (b : Broker) (accepted : List ℕ)
    → p.line.number ≡ None → IsKept p.client s b → Own p.client s.birth n b → IsFarCall p.client n call
    → (es : List HopEvent) × (seen accepted (publisher_told (stepped limits choice now call b) (told limits choice now call b) p) (stepped limits choice now call b) ≡ run es (seen accepted p b))
away_frame limits choice now call p n s b accepted none k own far =
    let start = at_moment now b in
    let o : Own p.client s.birth n start = record { sessions = own.sessions; lines = own.lines; births = own.births; given = own.given } in
    let ds = deeds limits choice now call b in
    let q = far_call p.client s.birth n (env_of limits choice b) call start o k.plain far in
    let a = apart_by p.client s.birth n ds start q in
    let end = own_deeds p.client s.birth n ds start q o in
    let sessions = done_sessions (rows_of_all ds start.records) (after_all ds start) in
    let at_first = named_face p.client s.birth b.records (face s) k.only (ap (option_map face) k.session) k.name in
    let at_last = named_face p.client s.birth (after_all ds start).records (face s) (only_ours p.client s.birth (after_all ds start).records.sessions end.sessions) (a.face_is ∙ ap (option_map face) k.session) k.name in
    away_seen limits choice now call p b accepted none
    (ap (λ (ss : List Session). is_some (find (λ (x : Session). bytes_eq x.client p.client) ss)) sessions ∙ (at_last.0 ∙ sym at_first.0))
    (ap (λ (ss : List Session). open_in (find (λ (x : Session). bytes_eq x.client p.client) ss)) sessions ∙ (at_last.1 ∙ sym at_first.1))

-- no session with this birth stands, and so none of this client
none_named : (client : List ℕ) (birth : ℕ) (ss : List Session) → AllByRecursion (IsOurs client birth) ss → option_map face (row_at birth_of birth ss) ≡ None
    → find (λ (x : Session). bytes_eq x.client client) ss ≡ None
none_named client birth [] h none = refl
none_named client birth (x ∷ xs) h none = elim (cases_Bool (nat_eq x.birth birth)) [
  | inl here ↦ let clash : Some (face x) ≡ None = rw here at none in absurd cc
  | inr further ↦ elim (cases_Bool (bytes_eq x.client client)) [
    | inl its ↦
        let is : x.birth ≡ birth = h.0.named ((bytes_eq-Decides x.client client).0 its) in
        absurd (not_same x.birth birth further is)
    | inr other ↦ rw other (none_named client birth xs h.1 (rw further at none))
  ]
]

-- it has none
pub nobody_frame : (limits : Capacity) (choice : MemberChoice) (now : ℕ) (call : Call) (p : Publisher) (birth n : ℕ) (b : Broker) (accepted : List ℕ)
    → p.line.number ≡ None → session_at birth b.records ≡ None → Own p.client birth n b → starts_with nat_eq p.client auto ≡ false → IsFarCall p.client n call
    → (session_at birth (stepped limits choice now call b).records ≡ None)
    × ((es : List HopEvent) × (seen accepted (publisher_told (stepped limits choice now call b) (told limits choice now call b) p) (stepped limits choice now call b) ≡ run es (seen accepted p b)))
nobody_frame limits choice now call p birth n b accepted none nobody own plain far =
    let start = at_moment now b in
    let o : Own p.client birth n start = record { sessions = own.sessions; lines = own.lines; births = own.births; given = own.given } in
    let ds = deeds limits choice now call b in
    let q = far_call p.client birth n (env_of limits choice b) call start o plain far in
    let a = apart_by p.client birth n ds start q in
    let end = own_deeds p.client birth n ds start q o in
    let sessions = done_sessions (rows_of_all ds start.records) (after_all ds start) in
    let is_none : option_map face (row_at birth_of birth (after_all ds start).records.sessions) ≡ None = a.face_is ∙ ap (option_map face) nobody in
    let same : session_named p.client (stepped limits choice now call b).records ≡ session_named p.client b.records =
    ap (λ (ss : List Session). find (λ (x : Session). bytes_eq x.client p.client) ss) sessions
    ∙ (none_named p.client birth (after_all ds start).records.sessions end.sessions is_none ∙ sym (none_named p.client birth b.records.sessions own.sessions (ap (option_map face) nobody))) in (
      ap (row_at birth_of birth) sessions ∙ faceless (row_at birth_of birth (after_all ds start).records.sessions) is_none,
      away_seen limits choice now call p b accepted none (ap is_some same) (ap open_in same),
    )
  where
    faceless : (x : Option Session) → option_map face x ≡ None → x ≡ None
    faceless None h = refl
    faceless (Some s) h = absurd cc
