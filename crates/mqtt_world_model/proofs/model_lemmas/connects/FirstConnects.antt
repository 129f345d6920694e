-- The broker reads a publisher's CONNECT while no session of its client stands: a new one begins, or the table is full (MQTT
-- 5.0, 3.1.2.4, 3.2.2.2). It is the step of the hop.
use Rattle.std.proofs.Common.{◌≡◌, ℕ, suc, ◌<◌, Bool, true, false, cond, ◌||◌, List, [], ◌∷◌, ◌++◌, length, drop, Option, Some, None, nat_eq, nat_lt, bytes_eq, refl, sym, ap, subst, ◌∙◌, arith, inl, inr}
use Rattle.std.specs.Prelude.{option_map, find, filter_map, is_some}
use Rattle.std.specs.List.{AllByRecursion, starts_with}
use Rattle.std.proofs.lemmas.Bool.{cases_Bool, ltb-true, lt-ltb}
use Rattle.std.proofs.lemmas.Cmp.{nat_eq_equiv}
use Rattle.std.proofs.lemmas.Slice.Eq.{bytes_eq-Decides}
use Rattle.mqtt_base.specs.declared.limits.TheConstants.{SESSION_LIMIT}
use Rattle.mqtt_base.specs.Codes.{quota_exceeded}
use Rattle.mqtt_packet.specs.declared.connect.connect.Connect.{Connect as Greeting}
use Rattle.mqtt_packet.specs.declared.codec.packet.Packet.TheVariants.{Connect}
use Rattle.mqtt_topic.specs.names.Names.{is_empty}
use Rattle.mqtt_flow.specs.inbound.Publisher.{CONNECT, CONNACK, CONNACK_REFUSED}
use Rattle.mqtt_flow.specs.inbound.InboundWorld.{Event as HopEvent, takes, refuses, to_broker, spared, on_connect as on_hop}
use Rattle.mqtt_records.specs.declared.state.session.Session.{Session}
use Rattle.mqtt_records.specs.declared.state.session.Columns.{Columns}
use Rattle.mqtt_records.specs.declared.state.records.Records.{Records}
use Rattle.mqtt_records.specs.lists.Order.{row_at, has_row, put_row, change_row}
use Rattle.mqtt_records.proofs.lists_lemmas.LookUps.{row_at-put_row}
use Rattle.mqtt_records.specs.state.Session.{birth_of, fresh, with_columns, auto}
use Rattle.mqtt_records.specs.state.Records.{put_session}
use Rattle.mqtt_rules.specs.declared.step.Capacity.{Capacity}
use Rattle.mqtt_rules.specs.step.State.{MemberChoice, Line as BrokerLine, Broker, Env, session_named, line_at}
use Rattle.mqtt_rules.specs.step.Deeds.{Hear, Deed, On, closing, after_all, rows_of_all, Act, only_if, with_session}
use Rattle.mqtt_rules.specs.step.Closing.{never, settle}
use Rattle.mqtt_rules.specs.step.Connect.{refusal, of_client, take_over, clear, prepare, fresh_row, begin, begin_named, refused, joins, joins_after, connect_by, on_connect}
use Rattle.mqtt_rules.specs.step.Numbers.{HasGivenBirths}
use Rattle.mqtt_rules.specs.step.Step.{Input, at_moment, env_of, deeds, stepped}
use Rattle.mqtt_rules.proofs.step_lemmas.numbers.NumberBirths.{below_none}
use Rattle.mqtt_world_model.specs.model.Lines.{is_one_of, unless_closed}
use Rattle.mqtt_world_model.specs.model.Ends.{Sent, shake, Publisher}
use Rattle.mqtt_world_model.specs.model.Seen.{shaken, heard_in, is_linked, open_in, seen}
use Rattle.mqtt_world_model.specs.model.Hops.{IsIts, IsOnly, IsFirst, Own, IsInOrder, connect_packet}
use Rattle.mqtt_world_model.proofs.model_lemmas.others.Rows.{Face, face, face_at}
use Rattle.mqtt_world_model.proofs.model_lemmas.others.Quiet.{told_to, session_on}
use Rattle.mqtt_world_model.proofs.model_lemmas.own.Publishes.{act_none, line_none}
use Rattle.mqtt_world_model.proofs.model_lemmas.others.Names.{only_deeds}
use Rattle.mqtt_world_model.proofs.model_lemmas.seats.Seeing.{linked_of, linked_is, named_face, hop_of}
use Rattle.mqtt_world_model.proofs.model_lemmas.own.OwnStep.{heard_of}
use Rattle.mqtt_world_model.proofs.model_lemmas.seats.Owned.{ArePatient, patient_lines, found_alone, owned_after}
use Rattle.mqtt_world_model.proofs.model_lemmas.connects.AnyConnect.{waits_on, connect_call, left_up, Sees, connect_seen}
use Rattle.mqtt_world_model.proofs.model_lemmas.connects.Connects.{hello, greeted_line, heard_on_line}

abbrev pub hello_by : Bool → List ℕ → Greeting
hello_by clean client = record (hello client) { clean_start = clean }

-- ---- the deeds of the call

-- a publisher's CONNECT is not refused for its name
pub refused_not : (clean : Bool) (client : List ℕ) (r : Records) → nat_lt 64 (length client) ≡ false → starts_with nat_eq client auto ≡ false → refusal (hello_by clean client) r ≡ None
refused_not clean client r short plain = rw (short, plain) refl

prepare_none : (env : Env) (clean : Bool) (client : List ℕ) (b : Broker) → session_named client b.records ≡ None → prepare env (hello_by clean client) b ≡ []
prepare_none env clean client b none =
    let first : Act = of_client client (take_over env) in
    let second : Act = of_client client (λ z. settle env z.birth) in
    let third : Act = only_if clean (of_client client (clear env)) in
    act_none first (second ∷ third ∷ []) b (ap (λ (z : Option Session). with_session z (take_over env) b) none)
    ∙ (act_none second (third ∷ []) b (ap (λ (z : Option Session). with_session z (λ y. settle env y.birth) b) none) ∙ act_none third [] b (cleared clean))
  where
    cleared : (t : Bool) → only_if t (of_client client (clear env)) b ≡ []
    cleared true = ap (λ (z : Option Session). with_session z (clear env) b) none
    cleared false = refl

-- a new session, or a refusal
abbrev pub joins_by : Bool → BrokerLine → Greeting → Records → List Deed
joins_by true l c r = begin l c false c.client_identifier (suc r.births)
joins_by false l c r = refused l c quota_exceeded

joined_by_room : (t e : Bool) (l : BrokerLine) (c : Greeting) (r : Records) → e ≡ false → cond t ([] ++ begin_named e l c r) (refused l c quota_exceeded) ≡ joins_by t l c r
joined_by_room true e l c r is = ap (λ (x : Bool). begin_named x l c r) is
joined_by_room false e l c r is = refl

connect_is : (env : Env) (l : BrokerLine) (clean : Bool) (client : List ℕ) (b : Broker)
    → session_named client b.records ≡ None → nat_lt 64 (length client) ≡ false → starts_with nat_eq client auto ≡ false → is_empty client ≡ false
    → on_connect env l (hello_by clean client) b ≡ joins_by (nat_lt (length b.records.sessions) env.limits.sessions) l (hello_by clean client) b.records
connect_is env l clean client b none short plain some =
    let c = hello_by clean client in
    ap (λ (z : Option ℕ). connect_by z env l c b) (refused_not clean client b.records short plain)
    ∙ (ap (λ (ds : List Deed). joins_after env l c b.now ds (after_all ds b).records) (prepare_none env clean client b none)
    ∙ (ap (λ (z : Option Session). joins env l c b.now [] b.records z) none
    ∙ joined_by_room (nat_lt (length b.records.sessions) env.limits.sessions) (is_empty client) l c b.records some))

-- the deeds of the call: the line is heard of, and a session begins or is refused
pub call_is : (limits : Capacity) (choice : MemberChoice) (now : ℕ) (clean : Bool) (p : Publisher) (l : BrokerLine) (b : Broker) → IsFirst limits p l b
    → deeds limits choice now (Input l.number (Connect (hello_by clean p.client))) b
    ≡ On l.number Hear ∷ joins_by (nat_lt (length b.records.sessions) limits.sessions) l (hello_by clean p.client) b.records
call_is limits choice now clean p l b a =
    let env = env_of limits choice b in
    let c = hello_by clean p.client in
    let h = heard_of now l.number b in
    connect_call limits choice now c l b a.line a.waits ∙ ap (λ (ds : List Deed). On l.number Hear ∷ ds) (connect_is env l clean p.client h a.none a.short a.plain a.some)

-- ---- the new session

-- if no session has the name none is another's
pub only_none : (client : List ℕ) (birth : ℕ) (ss : List Session) → find (λ (x : Session). bytes_eq x.client client) ss ≡ None → AllByRecursion (IsIts client birth) ss
only_none client birth [] e = tt
only_none client birth (x ∷ xs) e = elim (cases_Bool (bytes_eq x.client client)) [
  | inl its ↦ let clash : Some x ≡ None = rw its at e in absurd cc
  | inr other ↦ (
    λ is. let same : bytes_eq x.client client ≡ true = (bytes_eq-Decides x.client client).1 is in
        let clash : true ≡ false = sym same ∙ other in
        absurd cc,
    only_none client birth xs (rw other at e),
  )
]

-- a new session shows what a new session has
pub fresh_face : (row : Columns) (ss : List Session) → row_at birth_of row.birth ss ≡ None → length ss < SESSION_LIMIT → option_map face (row_at birth_of row.birth (put_session row ss)) ≡ Some (face (fresh row))
fresh_face row ss new less =
    let not_there : has_row birth_of row.birth ss ≡ false = ap is_some new in
    let room : (has_row birth_of row.birth ss || nat_lt (length ss) SESSION_LIMIT) ≡ true = either (has_row birth_of row.birth ss) (lt-ltb (length ss) SESSION_LIMIT less) in
    let is : put_session row ss ≡ put_row birth_of SESSION_LIMIT (fresh row) ss
    = ap (λ (t : Bool). cond t (change_row birth_of row.birth (with_columns row) ss) (put_row birth_of SESSION_LIMIT (fresh row) ss)) not_there
    in
    ap (λ (xs : List Session). option_map face (row_at birth_of row.birth xs)) is
    ∙ ap (option_map face) (row_at-put_row birth_of SESSION_LIMIT row.birth (fresh row) ss room)
    ∙ ap (λ (t : Bool). option_map face (cond t (Some (fresh row)) (row_at birth_of row.birth ss))) (nat_eq_equiv.refl row.birth)
  where
    either : (x : Bool) {y : Bool} → y ≡ true → (x || y) ≡ true
    either true e = refl
    either false e = e

-- ---- what is left by deeds that begin a session and close these lines

-- deeds begin a session that is new and empty, alone of its name, on this line
pub record Renews (client : List ℕ) (n : ℕ) (ds : List Deed) (b : Broker) (closings : List ℕ) : Type 0 where
  pub birth : ℕ
  pub shown : Face
  pub face_is : face_at birth (after_all ds b).records ≡ Some shown
  pub only : IsOnly client birth (after_all ds b).records
  pub client_is : shown.client ≡ client
  pub ids_is : shown.inbound ≡ []
  pub line_is : session_on n (after_all ds b).lines ≡ Some (Some birth)
  pub told_is : told_to n ds ≡ CONNACK false ∷ []
  pub closings_is : filter_map closing ds ≡ closings
  pub no_will : shown.will ≡ None
  pub no_end : shown.expiry ≡ never
  pub patient : ArePatient ds

-- the beginning alone closes none
pub begins : (l : BrokerLine) (clean : Bool) (client : List ℕ) (b : Broker)
    → session_named client b.records ≡ None → HasGivenBirths b.records → length b.records.sessions < SESSION_LIMIT → session_on l.number b.lines ≡ Some None
    → Renews client l.number (begin l (hello_by clean client) false client (suc b.records.births)) b []
begins l clean client b none births room on =
    let n = l.number in
    let birth = suc b.records.births in
    let c = hello_by clean client in
    let ds = begin l c false client birth in
    let row = fresh_row birth client c in
    let it : nat_eq n n ≡ true = nat_eq_equiv.refl n in
    record {
      birth = birth;
      shown = face (fresh row);
      face_is = fresh_face row b.records.sessions (below_none birth_of birth b.records.sessions births) room;
      only = only_deeds client birth ds b ((λ same. refl), (tt, (tt, tt))) (only_none client birth b.records.sessions none);
      client_is = refl;
      ids_is = refl;
      line_is = greeted_line b.now n birth 0 _ _ 0 b.lines on;
      told_is = rw it refl;
      closings_is = refl;
      no_will = refl;
      no_end = refl;
      patient = (tt, (refl, (tt, tt)));
    }

-- nor does it if the line was heard of first
pub heard_first : (client : List ℕ) (n now : ℕ) (ds : List Deed) (b : Broker) (closings : List ℕ) → Renews client n ds (heard_of now n b) closings → Renews client n (On n Hear ∷ ds) (at_moment now b) closings
heard_first client n now ds b closings g = record {
  birth = g.birth;
  shown = g.shown;
  face_is = g.face_is;
  only = g.only;
  client_is = g.client_is;
  ids_is = g.ids_is;
  line_is = g.line_is;
  told_is = g.told_is;
  closings_is = g.closings_is;
  no_will = g.no_will;
  no_end = g.no_end;
  patient = (tt, g.patient);
}

-- the call, if the table has a place
pub call_begins : (limits : Capacity) (choice : MemberChoice) (now : ℕ) (clean : Bool) (p : Publisher) (l : BrokerLine) (b : Broker) → IsFirst limits p l b → nat_lt (length b.records.sessions) limits.sessions ≡ true
    → Renews p.client l.number (deeds limits choice now (Input l.number (connect_packet clean p)) b) (at_moment now b) []
call_begins limits choice now clean p l b a room =
    let n = l.number in
    let es = begin l (hello_by clean p.client) false p.client (suc b.records.births) in
    let is = call_is limits choice now clean p l b a ∙ ap (λ (t : Bool). On n Hear ∷ joins_by t l (hello_by clean p.client) b.records) room in
    let less = ltb-true (length b.records.sessions) limits.sessions room in
    let within = a.within in
    subst (λ (ds : List Deed). Renews p.client n ds (at_moment now b) []) (sym is)
    (heard_first p.client n now es b [] (begins l clean p.client (heard_of now n b) a.none a.births (omega (arith, less, within)) (heard_on_line n _ b.lines None (waits_on l b a.line a.waits))))

-- ---- what the publisher sees

-- of a session that begins, as the hop has it
pub renews_seen : (limits : Capacity) (choice : MemberChoice) (now : ℕ) (clean : Bool) (p : Publisher) (rest : List Sent) (l : BrokerLine) (b : Broker) (accepted : List ℕ) (stood : Bool) (closings : List ℕ)
    → p.line.up ≡ shake (CONNECT clean) ∷ rest → p.line.number ≡ Some l.number → is_some (session_named p.client b.records) ≡ stood
    → Renews p.client l.number (deeds limits choice now (Input l.number (connect_packet clean p)) b) (at_moment now b) closings
    → is_one_of (Some l.number) closings ≡ false → filter_map shaken (unless_closed (is_one_of p.line.old_number closings) p.line.old) ≡ spared (filter_map shaken p.line.old)
    → hop_of accepted p true (filter_map shaken rest) (filter_map heard_in p.line.down ++ CONNACK false ∷ []) (spared (filter_map shaken p.line.old)) true []
    ≡ on_hop stood clean takes (filter_map shaken rest) (seen accepted p b)
    → Sees limits choice now clean p l b accepted (to_broker takes)
renews_seen limits choice now clean p rest l b accepted stood closings up number before g stays old same =
    let ds = deeds limits choice now (Input l.number (connect_packet clean p)) b in
    let named = named_face p.client g.birth (after_all ds (at_moment now b)).records g.shown g.only g.face_is g.client_is in
    connect_seen limits choice now clean p rest l b accepted takes stood true (filter_map shaken rest) (CONNACK false ∷ []) (spared (filter_map shaken p.line.old)) true [] up number before (record {
      linked_is = ap linked_of g.line_is;
      up_is = left_up l.number ds closings p (shake (CONNECT clean)) rest up g.closings_is stays;
      told_is = g.told_is;
      old_is = ap (λ (xs : List ℕ). filter_map shaken (unless_closed (is_one_of p.line.old_number xs) p.line.old)) g.closings_is ∙ old;
      stands_is = named.0;
      ids_is = named.1 ∙ g.ids_is;
    }) same

-- and the session and the line are its own
pub renews_owns : (limits : Capacity) (choice : MemberChoice) (now : ℕ) (clean : Bool) (p : Publisher) (l : BrokerLine) (b : Broker) (closings : List ℕ)
    (g : Renews p.client l.number (deeds limits choice now (Input l.number (connect_packet clean p)) b) (at_moment now b) closings) → line_at l.number b ≡ Some l
    → l.keep_alive ≡ 0 → IsInOrder b → IsInOrder (stepped limits choice now (Input l.number (connect_packet clean p)) b)
    → Own p.client g.birth l.number (stepped limits choice now (Input l.number (connect_packet clean p)) b)
renews_owns limits choice now clean p l b closings g line quiet order order_after =
    let ds = deeds limits choice now (Input l.number (connect_packet clean p)) b in
    let start = at_moment now b in
    owned_after p.client g.birth l.number g.shown (rows_of_all ds start.records) (after_all ds start) order_after g.only g.face_is g.client_is g.no_will g.no_end g.line_is
    (patient_lines l.number ds start g.patient (found_alone l b.lines order.lines.ascending line quiet))

-- no line is among none
none_closed : (o : Option ℕ) → is_one_of o [] ≡ false
none_closed None = refl
none_closed (Some m) = refl

-- a new session begins
pub begins_seen : (limits : Capacity) (choice : MemberChoice) (now : ℕ) (clean : Bool) (p : Publisher) (l : BrokerLine) (b : Broker) (accepted : List ℕ)
    → p.line.up ≡ shake (CONNECT clean) ∷ [] → IsFirst limits p l b → nat_lt (length b.records.sessions) limits.sessions ≡ true → Sees limits choice now clean p l b accepted (to_broker takes)
begins_seen limits choice now clean p l b accepted up a room =
    renews_seen limits choice now clean p [] l b accepted false [] up a.number (ap is_some a.none) (call_begins limits choice now clean p l b a room) refl
    (ap (λ (t : Bool). filter_map shaken (unless_closed t p.line.old)) (none_closed p.line.old_number) ∙ a.old) refl

-- or the table is full, and the line is closed
pub refused_seen : (limits : Capacity) (choice : MemberChoice) (now : ℕ) (clean : Bool) (p : Publisher) (l : BrokerLine) (b : Broker) (accepted : List ℕ)
    → p.line.up ≡ shake (CONNECT clean) ∷ [] → IsFirst limits p l b → nat_lt (length b.records.sessions) limits.sessions ≡ false → Sees limits choice now clean p l b accepted (to_broker refuses)
refused_seen limits choice now clean p l b accepted up a full =
    let c = hello_by clean p.client in
    let n = l.number in
    let ds = deeds limits choice now (Input n (connect_packet clean p)) b in
    let start = at_moment now b in
    let is : ds ≡ On n Hear ∷ refused l c quota_exceeded = call_is limits choice now clean p l b a ∙ ap (λ (t : Bool). On n Hear ∷ joins_by t l c b.records) full in
    let it : nat_eq n n ≡ true = nat_eq_equiv.refl n in
    let told : told_to n (On n Hear ∷ refused l c quota_exceeded) ≡ CONNACK_REFUSED quota_exceeded ∷ [] = rw it refl in
    let before : is_linked p.line.number b ≡ false = ap (λ (o : Option ℕ). is_linked o b) a.number ∙ (linked_is n b ∙ ap linked_of (waits_on l b a.line a.waits)) in
    let w = seen accepted p b in
    connect_seen limits choice now clean p [] l b accepted refuses false w.linked [] (CONNACK_REFUSED quota_exceeded ∷ []) (filter_map shaken p.line.old) w.stands w.ids up a.number (ap is_some a.none) (record {
      linked_is = ap (λ (xs : List Deed). linked_of (session_on n (after_all xs start).lines)) is ∙ (ap linked_of (line_none n (heard_of now n b).lines) ∙ sym before);
      up_is = ap (λ (xs : List Sent). filter_map shaken (unless_closed (is_one_of (Some n) (filter_map closing ds)) (drop 1 xs))) up ∙ nothing_up (is_one_of (Some n) (filter_map closing ds));
      told_is = ap (told_to n) is ∙ told;
      old_is =
          ap (λ (xs : List Deed). filter_map shaken (unless_closed (is_one_of p.line.old_number (filter_map closing xs)) p.line.old)) is
          ∙ ap (λ (t : Bool). filter_map shaken (unless_closed t p.line.old)) a.apart;
      stands_is = ap (λ (xs : List Deed). is_some (session_named p.client (after_all xs start).records)) is;
      ids_is = ap (λ (xs : List Deed). open_in (session_named p.client (after_all xs start).records)) is;
    }) refl
  where
    nothing_up : (t : Bool) → filter_map shaken (unless_closed t []) ≡ []
    nothing_up true = refl
    nothing_up false = refl

-- one of the two
pub first_is_hop : (limits : Capacity) (choice : MemberChoice) (now : ℕ) (clean : Bool) (p : Publisher) (l : BrokerLine) (b : Broker) (accepted : List ℕ)
    → p.line.up ≡ shake (CONNECT clean) ∷ [] → IsFirst limits p l b
    → (e : HopEvent) × Sees limits choice now clean p l b accepted e
first_is_hop limits choice now clean p l b accepted up a = elim (cases_Bool (nat_lt (length b.records.sessions) limits.sessions)) [
  | inl room ↦ (to_broker takes, begins_seen limits choice now clean p l b accepted up a room)
  | inr full ↦ (to_broker refuses, refused_seen limits choice now clean p l b accepted up a full)
]

-- if one begins, it and the line are the publisher's own
pub first_owns : (limits : Capacity) (choice : MemberChoice) (now : ℕ) (clean : Bool) (p : Publisher) (l : BrokerLine) (b : Broker) → IsFirst limits p l b → nat_lt (length b.records.sessions) limits.sessions ≡ true
    → l.keep_alive ≡ 0 → IsInOrder b → IsInOrder (stepped limits choice now (Input l.number (connect_packet clean p)) b)
    → Own p.client (suc b.records.births) l.number (stepped limits choice now (Input l.number (connect_packet clean p)) b)
unfolding call_begins heard_first begins
first_owns limits choice now clean p l b a room quiet order order_after =
    renews_owns limits choice now clean p l b [] (call_begins limits choice now clean p l b a room) a.line quiet order order_after
