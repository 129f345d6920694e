-- The broker reads a late CONNECT without Clean Start on the line that a publisher gave up, while its session stands: it is taken
-- over from the publisher's own line, if it is connected there. It is that event of the hop (MQTT 5.0, 3.1.4).
use Rattle.std.proofs.Common.{◌≡◌, ℕ, suc, Bool, true, false, List, [], ◌∷◌, ◌++◌, drop, Option, Some, None, nat_eq, refl, sym, ap, ◌∙◌, append-nil, inl, inr}
use Rattle.std.specs.Prelude.{option_map, filter_map, is_some}
use Rattle.std.proofs.lemmas.Bool.{eqb-true, cases_Bool}
use Rattle.mqtt_base.specs.Codes.{session_taken_over}
use Rattle.mqtt_packet.specs.declared.codec.packet.Packet.TheVariants.{Connect}
use Rattle.mqtt_flow.specs.outbound.Outbound.{due_from}
use Rattle.mqtt_flow.specs.inbound.Publisher.{FromPublisher, CONNECT, ToPublisher, DISCONNECT}
use Rattle.mqtt_flow.specs.inbound.InboundWorld.{World as Hop, takes, old_to_broker, taken_over, step}
use Rattle.mqtt_records.specs.declared.state.session.Session.{Session}
use Rattle.mqtt_rules.specs.declared.step.Capacity.{Capacity}
use Rattle.mqtt_rules.specs.step.State.{MemberChoice, Line as BrokerLine, Broker, session_named, line_at, line_of, queue_on}
use Rattle.mqtt_rules.specs.step.Deeds.{Hear, Deed, On, output, closing, after_all}
use Rattle.mqtt_rules.specs.step.Connect.{resume}
use Rattle.mqtt_rules.specs.step.Step.{Input, at_moment, env_of, deeds, stepped}
use Rattle.mqtt_rules.proofs.step_lemmas.acts.Goods.{after_append}
use Rattle.mqtt_world_model.specs.model.Lines.{sent_to, is_one_of, unless_closed}
use Rattle.mqtt_world_model.specs.model.Ends.{Sent, shake, Publisher}
use Rattle.mqtt_world_model.specs.model.Seen.{shaken, heard_in, is_linked, open_in, seen}
use Rattle.mqtt_world_model.specs.model.Hops.{IsOnly, lines_left, IsTaken, IsKept, IsAsking, IsLate, hello_packet, after_old_step}
use Rattle.mqtt_world_model.proofs.model_lemmas.others.Rows.{face}
use Rattle.mqtt_world_model.proofs.model_lemmas.others.Quiet.{told_to, session_on, line_gone, line_on}
use Rattle.mqtt_world_model.proofs.model_lemmas.others.Far.{AreFar, apart_by}
use Rattle.mqtt_world_model.proofs.model_lemmas.others.FarActs.{far_quiet}
use Rattle.mqtt_world_model.proofs.model_lemmas.own.Publishes.{told_append, line_none}
use Rattle.mqtt_world_model.proofs.model_lemmas.others.Names.{only_deeds, none_begun}
use Rattle.mqtt_world_model.proofs.model_lemmas.seats.Seeing.{told_down, append_heard, linked_of, linked_is, named_face, named_after, linked_after, hop_of}
use Rattle.mqtt_world_model.proofs.model_lemmas.own.OwnStep.{heard_of, not_the_one}
use Rattle.mqtt_world_model.proofs.model_lemmas.connects.AnyConnect.{connect_call}
use Rattle.mqtt_world_model.proofs.model_lemmas.connects.Connects.{left_by, taken_from, heard_line_of, not_left, hello, connect_is, call_leaves, repeats_quiet}
use Rattle.mqtt_world_model.proofs.model_lemmas.own.OldLine.{further}

-- ---- what the publisher's own line is told, and what is left of it

abbrev pub late_told : Bool → List ToPublisher
late_told true = DISCONNECT session_taken_over ∷ []
late_told false = []

abbrev pub late_on : Bool → Option (Option ℕ) → Option (Option ℕ)
late_on true on = None
late_on false on = on

-- what becomes of another line than the one that the CONNECT came on
pub record IsThere (m : ℕ) (ds : List Deed) (b : Broker) (t : Bool) : Type 0 where
  pub told_is : told_to m ds ≡ late_told t
  pub line_is : session_on m (after_all ds b).lines ≡ late_on t (session_on m b.lines)

left_there : (o : Option BrokerLine) (s : Session) (m : ℕ) (b : Broker) → IsThere m (left_by o s b.now) b (is_one_of (Some m) (lines_left o))
left_there None s m b = record { told_is = refl; line_is = refl }
left_there (Some l) s m b = elim (cases_Bool (nat_eq l.number m)) [
  | inl here ↦
      let is = eqb-true l.number m here in
      rw here (record {
        told_is = rw here refl;
        line_is = ap (λ (k : ℕ). session_on k (after_all (left_by (Some l) s b.now) b).lines) (sym is) ∙ line_none l.number b.lines;
      })
  | inr other ↦ rw other (record { told_is = rw other refl; line_is = line_gone m l.number b.lines other })
]

-- the session is resumed on another line
resumed_far : (client : List ℕ) (m now : ℕ) (l : BrokerLine) (x : Session) → nat_eq l.number m ≡ false → AreFar client (suc x.birth) m (resume l (hello client) now x)
resumed_far client m now l x beside =
    let dues = due_from [] (queue_on [] x) in
    (inl (inl (further x.birth)), (inr (beside, further x.birth), (inl (inl beside), far_quiet client (suc x.birth) m _ (repeats_quiet (suc x.birth) m now l.number x dues (λ d. d.identifier)))))

-- what the call does to another line than the one that it came on
pub call_there : (limits : Capacity) (choice : MemberChoice) (now : ℕ) (client : List ℕ) (l : BrokerLine) (s : Session) (m : ℕ) (b : Broker) → line_at l.number b ≡ Some l → l.session ≡ None → IsKept client s b
    → IsTaken (line_of s.birth b) s.birth l.number → nat_eq l.number m ≡ false
    → IsThere m (deeds limits choice now (Input l.number (Connect (hello client))) b) (at_moment now b) (is_one_of (Some m) (lines_left (line_of s.birth b)))
call_there limits choice now client l s m b line waits k taken beside =
    let n = l.number in
    let h = heard_of now n b in
    let env = env_of limits choice b in
    let heard_lines = heard_line_of s.birth n now b (line_of s.birth b) refl taken in
    let o = heard_lines.0 in
    let kept : IsKept client s h = record { session = k.session; name = k.name; only = k.only; no_will = k.no_will; no_end = k.no_end; short = k.short; plain = k.plain } in
    let left = left_by o s h.now in
    let c = after_all left h in
    let x = taken_from o h.now s in
    let tail = resume l (hello client) h.now x in
    let is : deeds limits choice now (Input n (Connect (hello client))) b ≡ On n Hear ∷ (left ++ tail) =
    connect_call limits choice now (hello client) l b line waits ∙ ap (λ (ds : List Deed). On n Hear ∷ ds) (connect_is o env l client s h heard_lines.1 heard_lines.2 kept) in
    let first = left_there o s m h in
    let far = apart_by client (suc x.birth) m tail c (resumed_far client m h.now l x beside) in
    let same : is_one_of (Some m) (lines_left o) ≡ is_one_of (Some m) (lines_left (line_of s.birth b)) = ap (is_one_of (Some m)) heard_lines.3 in
    let start = at_moment now b in
    let heard : session_on m h.lines ≡ session_on m b.lines = line_on start.now m n Hear b.lines (inr tt) in
    record {
      told_is =
          ap (told_to m) is
          ∙ (told_append m left tail ∙ (ap (λ (zs : List ToPublisher). zs ++ told_to m tail) first.told_is ∙ (ap (λ (zs : List ToPublisher). late_told (is_one_of (Some m) (lines_left o)) ++ zs) far.told_is
          ∙ (append-nil (late_told (is_one_of (Some m) (lines_left o))) ∙ ap late_told same))));
      line_is =
          ap (λ (ds : List Deed). session_on m (after_all ds start).lines) is
          ∙ (ap (λ (y : Broker). session_on m y.lines) (after_append left tail h)
          ∙ (far.line_is ∙ (first.line_is ∙ (ap (late_on (is_one_of (Some m) (lines_left o))) heard ∙ ap (λ (t : Bool). late_on t (session_on m b.lines)) same))));
    }

-- ---- what the publisher sees

-- the hop does that to the publisher's own line
agrees : (t : Bool) (accepted : List ℕ) (p : Publisher) (before old : List FromPublisher) (ids : List ℕ)
    → hop_of accepted p false (filter_map shaken (unless_closed t p.line.up)) (filter_map heard_in p.line.down ++ late_told t) old true ids
    ≡ taken_over t (record (hop_of accepted p t (filter_map shaken p.line.up) (filter_map heard_in p.line.down) before true ids) { old = old })
agrees true accepted p before old ids = refl
agrees false accepted p before old ids =
    ap (λ (down : List ToPublisher). hop_of accepted p false (filter_map shaken p.line.up) down old true ids) (append-nil (filter_map heard_in p.line.down))

-- the late CONNECT is that event of the hop
pub late_is_hop : (limits : Capacity) (choice : MemberChoice) (now : ℕ) (p : Publisher) (rest : List Sent) (l : BrokerLine) (s : Session) (b : Broker) (accepted : List ℕ)
    → p.line.old ≡ shake (CONNECT false) ∷ rest → IsLate p l s b
    → seen accepted (after_old_step limits choice now (Input l.number (hello_packet p)) p b) (stepped limits choice now (Input l.number (hello_packet p)) b)
    ≡ step (seen accepted p b) (old_to_broker takes)
late_is_hop limits choice now p rest l s b accepted old a =
    let call = Input l.number (hello_packet p) in
    let ds = deeds limits choice now call b in
    let start = at_moment now b in
    let new = stepped limits choice now call b in
    let n = l.number in
    let outputs = filter_map output ds in
    let o = line_of s.birth b in
    let t = is_one_of p.line.number (lines_left o) in
    let q : Publisher = record p { line = record p.line { number = Some n; old_number = None; old = [] } } in
    let asking : IsAsking q l s b = record { number = refl; line = a.line; waits = a.waits; kept = a.kept; taken = a.taken; old = refl } in
    let given = call_leaves limits choice now q l s b asking in
    let f = given.0 in
    let g = given.1 in
    let only : IsOnly p.client s.birth (after_all ds start).records = only_deeds p.client s.birth ds start (none_begun p.client s.birth ds g.begun_is) a.kept.only in
    let named = named_face p.client s.birth (after_all ds start).records f only g.face_is given.2 in
    let before = named_face p.client s.birth b.records (face s) a.kept.only (ap (option_map face) a.kept.session) a.kept.name in
    let after = named_after limits choice now call p.client b in
    let linked : is_linked p.line.number new ≡ false = unlinked p.line.number a.apart a.linked in
    let ups : filter_map shaken (unless_closed (is_one_of p.line.number (filter_map closing ds)) p.line.up) ≡ filter_map shaken (unless_closed t p.line.up) =
    ap (λ (xs : List ℕ). filter_map shaken (unless_closed (is_one_of p.line.number xs) p.line.up)) g.closings_is in
    let downs : filter_map heard_in (p.line.down ++ sent_to p.line.number new outputs) ≡ filter_map heard_in p.line.down ++ late_told t =
    append_heard p.line.down (sent_to p.line.number new outputs) ∙ ap (λ (xs : List ToPublisher). filter_map heard_in p.line.down ++ xs) (told p.line.number a.apart) in
    let closed : is_one_of p.line.old_number (filter_map closing ds) ≡ false =
    ap (λ (x : Option ℕ). is_one_of x (filter_map closing ds)) a.number ∙ (ap (is_one_of (Some n)) g.closings_is ∙ not_left o s.birth n a.taken) in
    let olds : filter_map shaken (unless_closed (is_one_of p.line.old_number (filter_map closing ds)) (drop 1 p.line.old)) ≡ filter_map shaken rest =
    ap (λ (x : Bool). filter_map shaken (unless_closed x (drop 1 p.line.old))) closed ∙ ap (λ (xs : List Sent). filter_map shaken (drop 1 xs)) old in
    let stands : is_some (session_named p.client new.records) ≡ true = ap is_some after ∙ named.0 in
    let ids : open_in (session_named p.client new.records) ≡ s.inbound = ap open_in after ∙ (named.1 ∙ given.3) in
    let after_is : seen accepted (after_old_step limits choice now call p b) new ≡ hop_of accepted p false (filter_map shaken (unless_closed t p.line.up)) (filter_map heard_in p.line.down ++ late_told t) (filter_map shaken rest) true s.inbound =
    λ i. hop_of accepted p (linked i) (ups i) (downs i) (olds i) (stands i) (ids i) in
    let before_is : seen accepted p b ≡ hop_of accepted p t (filter_map shaken p.line.up) (filter_map heard_in p.line.down) (CONNECT false ∷ filter_map shaken rest) true s.inbound =
    λ i. hop_of accepted p (a.linked i) (filter_map shaken p.line.up) (filter_map heard_in p.line.down) (filter_map shaken (old i)) (before.0 i) (before.1 i) in
    after_is ∙ (agrees t accepted p (CONNECT false ∷ filter_map shaken rest) (filter_map shaken rest) s.inbound ∙ sym (ap (λ (w : Hop). step w (old_to_broker takes)) before_is))
  where
    there : (m : ℕ) → is_one_of (Some m) (l.number ∷ []) ≡ false → IsThere m (deeds limits choice now (Input l.number (hello_packet p)) b) (at_moment now b) (is_one_of (Some m) (lines_left (line_of s.birth b)))
    there m h = call_there limits choice now p.client l s m b a.line a.waits a.kept a.taken (not_the_one l.number m h)

    not_on : (t : Bool) (on : Option (Option ℕ)) → linked_of on ≡ t → linked_of (late_on t on) ≡ false
    not_on true on h = refl
    not_on false on h = h

    unlinked : (x : Option ℕ) → is_one_of x (l.number ∷ []) ≡ false → is_linked x b ≡ is_one_of x (lines_left (line_of s.birth b)) → is_linked x (stepped limits choice now (Input l.number (hello_packet p)) b) ≡ false
    unlinked None h e = refl
    unlinked (Some m) h e =
        linked_after limits choice now (Input l.number (hello_packet p)) m b
        ∙ (ap linked_of (there m h).line_is ∙ not_on (is_one_of (Some m) (lines_left (line_of s.birth b))) (session_on m b.lines) (sym (linked_is m b) ∙ e))

    told : (x : Option ℕ) → is_one_of x (l.number ∷ []) ≡ false
        → filter_map heard_in (sent_to x (stepped limits choice now (Input l.number (hello_packet p)) b) (filter_map output (deeds limits choice now (Input l.number (hello_packet p)) b))) ≡ late_told (is_one_of x (lines_left (line_of s.birth b)))
    told None h = refl
    told (Some m) h =
        let ds = deeds limits choice now (Input l.number (hello_packet p)) b in
        told_down m (stepped limits choice now (Input l.number (hello_packet p)) b) ds ∙ (there m h).told_is
