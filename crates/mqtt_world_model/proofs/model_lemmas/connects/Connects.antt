-- The broker reads a publisher's CONNECT without Clean Start while its session stands: the session is resumed, and taken
-- over from the line that it was connected on. It is the step of the hop (MQTT 5.0, 3.1.2.4, 3.1.4, 4.4).
use Rattle.std.proofs.Common.{◌≡◌, ℕ, true, false, List, [], ◌∷◌, ◌++◌, length, map, Option, Some, None, nat_eq, nat_lt, refl, sym, ap, subst, ◌∙◌, append-nil, inl, inr}
use Rattle.std.specs.Prelude.{option_map, find, filter_map, max, min}
use Rattle.std.specs.List.{starts_with}
use Rattle.std.proofs.lemmas.Bool.{cases_Bool}
use Rattle.std.proofs.lemmas.Cmp.{nat_eq_equiv}
use Rattle.std.proofs.lemmas.List.Elements.{filter_map-append}
use Rattle.mqtt_packet.specs.declared.connect.connect.Connect.{Connect as Greeting}
use Rattle.mqtt_packet.specs.declared.codec.packet.Packet.TheVariants.{Connect}
use Rattle.mqtt_props.specs.declared.table.PropName.TheVariants.{SessionExpiryInterval}
use Rattle.mqtt_props.specs.Properties.{U32}
use Rattle.mqtt_flow.specs.declared.outbound.entry.Turn.TheVariants as turns
use Rattle.mqtt_base.specs.Codes.{success, session_taken_over}
use Rattle.mqtt_flow.specs.outbound.Outbound.{due_from}
use Rattle.mqtt_flow.specs.inbound.Publisher.{CONNECT, ToPublisher, CONNACK}
use Rattle.mqtt_flow.specs.inbound.InboundWorld.{takes, to_broker, spared, step}
use Rattle.mqtt_records.specs.declared.state.session.Session.{Session}
use Rattle.mqtt_records.specs.declared.state.session.Columns.{Columns}
use Rattle.mqtt_records.specs.declared.state.records.Records.{Records}
use Rattle.mqtt_records.specs.lists.Order.{row_at, change_row}
use Rattle.mqtt_records.specs.state.Session.{birth_of, columns_of, with_columns, with_will, auto}
use Rattle.mqtt_records.specs.state.Records.{changed_all}
use Rattle.mqtt_rules.specs.declared.step.Capacity.{Capacity}
use Rattle.mqtt_rules.specs.step.Packets.{connack}
use Rattle.mqtt_records.specs.messages.PassedOn.{property}
use Rattle.mqtt_rules.specs.step.State.{MemberChoice, Line as BrokerLine, Broker, Env, session_at, session_named, line_of, is_of, queue_on}
use Rattle.mqtt_base.specs.declared.limits.TheConstants.{LAST_NUMBER}
use Rattle.mqtt_rules.specs.step.Deeds.{whose, Resume, Hear, Greet, Deed, At, On, Send, part_rows_of, on_line, closing, after_all, rows_of_all, Act, series, only_if, with_session, with_line}
use Rattle.mqtt_rules.specs.step.Outbound.{all_turn_deeds}
use Rattle.mqtt_rules.specs.step.Closing.{never, settle, drop_line}
use Rattle.mqtt_rules.specs.step.Connect.{refusal, of_client, take_over, clear, prepare, greet, connack_properties, expiry_of, will_of, resume, joins, joins_after, connect_by, on_connect}
use Rattle.mqtt_rules.specs.step.Step.{Input, at_moment, env_of, deeds, stepped}
use Rattle.mqtt_rules.proofs.step_lemmas.acts.Goods.{after_append}
use Rattle.mqtt_rules.proofs.step_lemmas.flight.FlightRows.{change_row-here}
use Rattle.mqtt_world_model.specs.model.Lines.{is_one_of, unless_closed}
use Rattle.mqtt_world_model.specs.model.Ends.{Sent, shake, Publisher}
use Rattle.mqtt_world_model.specs.model.Seen.{shaken, seen}
use Rattle.mqtt_world_model.specs.model.Hops.{IsOnly, lines_left, IsTaken, IsKept, IsAsking, Own, IsInOrder, hello_packet, after_step}
use Rattle.mqtt_world_model.proofs.model_lemmas.others.Rows.{Face, face, face_at}
use Rattle.mqtt_world_model.proofs.model_lemmas.others.Quiet.{AreQuiet, told_to, numbers, begun, session_on, calm, line_gone, line_on}
use Rattle.mqtt_world_model.proofs.model_lemmas.own.Publishes.{told_append, numbers_append, begun_append, closed_row, closed_after, dropped, drop_is, settles_nothing, act_none}
use Rattle.mqtt_world_model.proofs.model_lemmas.others.Names.{named_is, only_deeds, none_begun}
use Rattle.mqtt_world_model.proofs.model_lemmas.seats.Seeing.{linked_of, named_face}
use Rattle.mqtt_world_model.proofs.model_lemmas.own.OwnStep.{heard_of}
use Rattle.mqtt_world_model.proofs.model_lemmas.connects.AnyConnect.{waits_on, connect_call, left_up, connect_seen}
use Rattle.mqtt_world_model.proofs.model_lemmas.seats.Owned.{ArePatient, patient_append, patient_lines, found_alone, owned_after}

-- ---- what a list of deeds leaves, with the lines that it closes

-- what deeds leave of a session and its line, what they tell there, and which lines they close
pub record Leaves (birth n : ℕ) (ds : List Deed) (b : Broker) (f : Face) (on : Option (Option ℕ)) (ps : List ToPublisher) (closings : List ℕ) : Type 0 where
  pub face_is : face_at birth (after_all ds b).records ≡ Some f
  pub line_is : session_on n (after_all ds b).lines ≡ on
  pub told_is : told_to n ds ≡ ps
  pub closings_is : filter_map closing ds ≡ closings
  pub numbers_is : numbers ds ≡ []
  pub begun_is : begun ds ≡ []
  pub patient : ArePatient ds

-- two lists of deeds close the lines of both
pub closings_append : (xs ys : List Deed) → filter_map closing (xs ++ ys) ≡ filter_map closing xs ++ filter_map closing ys
closings_append xs ys = filter_map-append closing xs ys

-- what one list leaves and the next makes of it, both together make
pub leaves_append : (birth n : ℕ) (xs ys : List Deed) (b : Broker) (f g : Face) (on then_on : Option (Option ℕ)) (ps qs : List ToPublisher) (cs ds : List ℕ)
    → Leaves birth n xs b f on ps cs → Leaves birth n ys (after_all xs b) g then_on qs ds → Leaves birth n (xs ++ ys) b g then_on (ps ++ qs) (cs ++ ds)
leaves_append birth n xs ys b f g on then_on ps qs cs ds x y = record {
  face_is = ap (λ (z : Broker). face_at birth z.records) (after_append xs ys b) ∙ y.face_is;
  line_is = ap (λ (z : Broker). session_on n z.lines) (after_append xs ys b) ∙ y.line_is;
  told_is = told_append n xs ys ∙ (ap (λ (zs : List ToPublisher). zs ++ told_to n ys) x.told_is ∙ ap (λ (zs : List ToPublisher). ps ++ zs) y.told_is);
  closings_is = closings_append xs ys ∙ (ap (λ (zs : List ℕ). zs ++ filter_map closing ys) x.closings_is ∙ ap (λ (zs : List ℕ). cs ++ zs) y.closings_is);
  numbers_is = numbers_append xs ys ∙ (ap (λ (zs : List ℕ). zs ++ numbers ys) x.numbers_is ∙ y.numbers_is);
  begun_is = begun_append xs ys ∙ (ap (λ (zs : List ℕ). zs ++ begun ys) x.begun_is ∙ y.begun_is);
  patient = patient_append xs ys x.patient y.patient;
}

-- ---- the session is taken over from the line that it is connected on, if it is

abbrev pub left_by : Option BrokerLine → Session → ℕ → List Deed
left_by None s now = []
left_by (Some l) s now = dropped session_taken_over l s now

abbrev pub left_face : Option BrokerLine → ℕ → Face → Face
left_face None now f = f
left_face (Some l) now f = record f { closed = Some now }

-- a takeover drops the line that the session stood on, if any
pub take_over_is : (o : Option BrokerLine) (env : Env) (s : Session) (n : ℕ) (b : Broker) → line_of s.birth b ≡ o → IsTaken o s.birth n → session_at s.birth b.records ≡ Some s → s.will ≡ None → s.expiry ≡ never
    → take_over env s b ≡ left_by o s b.now
take_over_is None env s n b e t at no_will no_end = ap (λ (x : Option BrokerLine). with_line x (drop_line env session_taken_over) b) e
take_over_is (Some l) env s n b e t at no_will no_end =
    ap (λ (x : Option BrokerLine). with_line x (drop_line env session_taken_over) b) e ∙ drop_is env session_taken_over l s b at (t.connected l refl) no_will no_end

-- and leaves the session closed
pub left_leaves : (o : Option BrokerLine) (s : Session) (n : ℕ) (b : Broker) (on : Option (Option ℕ)) → IsTaken o s.birth n → session_at s.birth b.records ≡ Some s → session_on n b.lines ≡ on
    → Leaves s.birth n (left_by o s b.now) b (left_face o b.now (face s)) on [] (lines_left o)
left_leaves None s n b on t at is = record { face_is = ap (option_map face) at; line_is = is; told_is = refl; closings_is = refl; numbers_is = refl; begun_is = refl; patient = tt }
left_leaves (Some l) s n b on t at is =
    let other : nat_eq l.number n ≡ false = t.another l refl in
    record {
      face_is = ap (option_map face) (closed_after b.now s b at);
      line_is = line_gone n l.number b.lines other ∙ is;
      told_is = rw other refl;
      closings_is = refl;
      numbers_is = refl;
      begun_is = refl;
      patient = (tt, (tt, (tt, tt)));
    }

-- ---- it is resumed

resumed_face : (expiry : ℕ) (x : Session) (r : Records) → session_at x.birth r ≡ Some x
    → face_at x.birth (changed_all (part_rows_of (Resume expiry None) (Some x)) r) ≡ Some (record (face x) { expiry = expiry; closed = None; will = None })
resumed_face expiry x r at =
    let row : Columns = record (columns_of x) { expiry = expiry; closed = None } in
    let set : List Session = change_row birth_of x.birth (with_columns row) r.sessions in
    let first : row_at birth_of x.birth set ≡ Some (with_columns row x) = change_row-here birth_of x.birth (with_columns row) x r.sessions (λ y. refl) at in
    ap (option_map face) (change_row-here birth_of x.birth (with_will None) (with_columns row x) set (λ y. refl) first)

-- behind a greeting the session stands on the line
pub greeted_line : (now n k keep_alive window largest most : ℕ) (ls : List BrokerLine) → session_on n ls ≡ Some None → session_on n (on_line now n (Greet k keep_alive window largest most) ls) ≡ Some (Some k)
greeted_line now n k keep_alive window largest most [] h = absurd cc
greeted_line now n k keep_alive window largest most (l ∷ ls) h = elim (cases_Bool (nat_eq l.number n)) [
  | inl here ↦ rw (here, here) refl
  | inr further ↦ rw (further, further) (greeted_line now n k keep_alive window largest most ls (rw further at h))
]

-- PUBREL that go out again have nothing to do with another session
pub repeats_quiet : {X : Type 0} (birth m now line : ℕ) (s : Session) (xs : List X) (id : X → ℕ) → AreQuiet birth m (all_turn_deeds now line s (map (λ x. turns.Repeat (id x)) xs))
repeats_quiet birth m now line s [] id = tt
repeats_quiet birth m now line s (x ∷ xs) id = (inr refl, repeats_quiet birth m now line s xs id)

repeats_patient : {X : Type 0} (now line : ℕ) (s : Session) (xs : List X) (id : X → ℕ) → ArePatient (all_turn_deeds now line s (map (λ x. turns.Repeat (id x)) xs))
repeats_patient now line s [] id = tt
repeats_patient now line s (x ∷ xs) id = (tt, repeats_patient now line s xs id)

repeats_close : {X : Type 0} (now line : ℕ) (s : Session) (xs : List X) (id : X → ℕ) → filter_map closing (all_turn_deeds now line s (map (λ x. turns.Repeat (id x)) xs)) ≡ []
repeats_close now line s [] id = refl
repeats_close now line s (x ∷ xs) id = repeats_close now line s xs id

abbrev pub hello : List ℕ → Greeting
hello client = record {
  clean_start = false;
  keep_alive = 0;
  properties = property SessionExpiryInterval (U32 0xffffffff) ∷ [];
  client_identifier = client;
  will = None;
  user_name = None;
  password = None;
}

-- a resumption leaves the session open on its line
pub resume_leaves : (now : ℕ) (l : BrokerLine) (client : List ℕ) (x : Session) (b : Broker) → session_at x.birth b.records ≡ Some x → session_on l.number b.lines ≡ Some None
    → Leaves x.birth l.number (resume l (hello client) now x) b (record (face x) { expiry = never; closed = None; will = None }) (Some (Some x.birth)) (CONNACK true ∷ []) []
resume_leaves now l client x b at on =
    let c = hello client in
    let first : List Deed = At (whose x) (Resume (expiry_of c) (will_of c)) ∷ greet l c x.birth ∷ Send l.number (connack true success (connack_properties false [])) ∷ [] in
    let dues = due_from [] (queue_on [] x) in
    let reps : List Deed = all_turn_deeds now l.number x (map (λ d. turns.Repeat d.identifier) dues) in
    let it : nat_eq l.number l.number ≡ true = nat_eq_equiv.refl l.number in
    let f : Face = record (face x) { expiry = never; closed = None; will = None } in
    let head : Leaves x.birth l.number first b f (Some (Some x.birth)) (CONNACK true ∷ []) [] = record {
      face_is = ap (λ (o : Option Session). face_at x.birth (changed_all (part_rows_of (Resume never None) o) b.records)) at ∙ resumed_face never x b.records at;
      line_is = greeted_line b.now l.number x.birth 0 _ _ 0 b.lines on;
      told_is = rw it refl;
      closings_is = refl;
      numbers_is = refl;
      begun_is = refl;
      patient = (tt, (refl, (tt, tt)));
    } in
    let c2 = after_all first b in
    let still = calm x.birth l.number reps c2 (repeats_quiet x.birth l.number now l.number x dues (λ d. d.identifier)) in
    let tail : Leaves x.birth l.number reps c2 f (Some (Some x.birth)) [] [] = record {
      face_is = still.face_is ∙ head.face_is;
      line_is = still.line_is ∙ head.line_is;
      told_is = still.told_is;
      closings_is = repeats_close now l.number x dues (λ d. d.identifier);
      numbers_is = still.numbers_is;
      begun_is = still.begun_is;
      patient = repeats_patient now l.number x dues (λ d. d.identifier);
    } in
    leaves_append x.birth l.number first reps b f f (Some (Some x.birth)) (Some (Some x.birth)) (CONNACK true ∷ []) [] [] [] head tail

-- ---- the deeds of the CONNECT

-- the session, once it was taken over
abbrev pub taken_from : Option BrokerLine → ℕ → Session → Session
taken_from None now s = s
taken_from (Some l) now s = with_columns (closed_row now s) s

-- behind a takeover the session is found
pub taken_at : (o : Option BrokerLine) (s : Session) (b : Broker) → session_at s.birth b.records ≡ Some s
    → session_at s.birth (after_all (left_by o s b.now) b).records ≡ Some (taken_from o b.now s)
taken_at None s b at = at
taken_at (Some l) s b at = closed_after b.now s b at

-- with its birth
pub taken_birth : (o : Option BrokerLine) (now : ℕ) (s : Session) → (taken_from o now s).birth ≡ s.birth
taken_birth None now s = refl
taken_birth (Some l) now s = refl

-- its client
pub taken_client : (o : Option BrokerLine) (now : ℕ) (s : Session) → (taken_from o now s).client ≡ s.client
taken_client None now s = refl
taken_client (Some l) now s = refl

-- its open identifiers
pub taken_inbound : (o : Option BrokerLine) (now : ℕ) (s : Session) → (taken_from o now s).inbound ≡ s.inbound
taken_inbound None now s = refl
taken_inbound (Some l) now s = refl

-- its Will
pub taken_will : (o : Option BrokerLine) (now : ℕ) (s : Session) → (taken_from o now s).will ≡ s.will
taken_will None now s = refl
taken_will (Some l) now s = refl

-- and its expiry
pub taken_expiry : (o : Option BrokerLine) (now : ℕ) (s : Session) → (taken_from o now s).expiry ≡ s.expiry
taken_expiry None now s = refl
taken_expiry (Some l) now s = refl

-- a takeover begins no session
pub taken_begun : (o : Option BrokerLine) (s : Session) (now : ℕ) → begun (left_by o s now) ≡ []
taken_begun None s now = refl
taken_begun (Some l) s now = refl

refused_not : (client : List ℕ) (r : Records) → nat_lt 64 (length client) ≡ false → starts_with nat_eq client auto ≡ false → refusal (hello client) r ≡ None
refused_not client r short plain = rw (short, plain) refl

-- behind it the client's name finds its session
pub named_taken : (o : Option BrokerLine) (client : List ℕ) (s : Session) (b : Broker) → IsKept client s b
    → session_named client (after_all (left_by o s b.now) b).records ≡ Some (taken_from o b.now s)
named_taken o client s b k =
    let ds = left_by o s b.now in
    named_is client s.birth (after_all ds b).records (taken_from o b.now s) (only_deeds client s.birth ds b (none_begun client s.birth ds (taken_begun o s b.now)) k.only) (taken_at o s b k.session) (taken_client o b.now s ∙ k.name)

-- what a CONNECT prepares begins with the takeover
pub prepare_front : (o : Option BrokerLine) (env : Env) (client : List ℕ) (s : Session) (n : ℕ) (b : Broker) (rest : List Act) → line_of s.birth b ≡ o → IsTaken o s.birth n → IsKept client s b
    → series (of_client client (take_over env) ∷ of_client client (λ z. settle env z.birth) ∷ rest) b
    ≡ left_by o s b.now ++ series rest (after_all (left_by o s b.now) b)
prepare_front o env client s n b rest e t k =
    let first : Act = of_client client (take_over env) in
    let second : Act = of_client client (λ z. settle env z.birth) in
    let ds = left_by o s b.now in
    let c = after_all ds b in
    let x = taken_from o b.now s in
    let own : session_named client b.records ≡ Some s = named_is client s.birth b.records s k.only k.session k.name in
    let taken : first b ≡ ds = ap (λ (z : Option Session). with_session z (take_over env) b) own ∙ take_over_is o env s n b e t k.session k.no_will k.no_end in
    let nothing : settle env x.birth c ≡ [] =
    ap (λ (m : ℕ). settle env m c) (taken_birth o b.now s)
    ∙ settles_nothing env s.birth x c (taken_at o s b k.session) (taken_will o b.now s ∙ k.no_will) (taken_expiry o b.now s ∙ k.no_end) in
    let settled : second c ≡ [] = ap (λ (z : Option Session). with_session z (λ y. settle env y.birth) c) (named_taken o client s b k) ∙ nothing in
    ap (λ (zs : List Deed). zs ++ series (second ∷ rest) (after_all zs b)) taken
    ∙ ap (λ (zs : List Deed). ds ++ zs) (act_none second rest c settled)

prepare_is : (o : Option BrokerLine) (env : Env) (client : List ℕ) (s : Session) (n : ℕ) (b : Broker) → line_of s.birth b ≡ o → IsTaken o s.birth n → IsKept client s b
    → prepare env (hello client) b ≡ left_by o s b.now
prepare_is o env client s n b e t k =
    prepare_front o env client s n b (only_if false (of_client client (clear env)) ∷ []) e t k ∙ append-nil (left_by o s b.now)

-- a CONNECT to a session that stands is the takeover and the resumption
pub connect_is : (o : Option BrokerLine) (env : Env) (l : BrokerLine) (client : List ℕ) (s : Session) (b : Broker) → line_of s.birth b ≡ o → IsTaken o s.birth l.number → IsKept client s b
    → on_connect env l (hello client) b ≡ left_by o s b.now ++ resume l (hello client) b.now (taken_from o b.now s)
connect_is o env l client s b e t k =
    let c = hello client in
    ap (λ (z : Option ℕ). connect_by z env l c b) (refused_not client b.records k.short k.plain)
    ∙ (ap (λ (ds : List Deed). joins_after env l c b.now ds (after_all ds b).records) (prepare_is o env client s l.number b e t k)
    ∙ ap (λ (z : Option Session). joins env l c b.now (left_by o s b.now) (after_all (left_by o s b.now) b).records z) (named_taken o client s b k))

-- the face of the session that was resumed
abbrev pub resumed_as : Session → Face
resumed_as x = record (face x) { expiry = never; closed = None; will = None }

-- and leaves the session open on its line
pub connect_leaves : (o : Option BrokerLine) (env : Env) (l : BrokerLine) (client : List ℕ) (s : Session) (b : Broker) → line_of s.birth b ≡ o → IsTaken o s.birth l.number → IsKept client s b
    → session_on l.number b.lines ≡ Some None
    → Leaves s.birth l.number (on_connect env l (hello client) b) b (resumed_as (taken_from o b.now s)) (Some (Some s.birth)) (CONNACK true ∷ []) (lines_left o)
connect_leaves o env l client s b e t k on =
    let ds = left_by o s b.now in
    let c = after_all ds b in
    let x = taken_from o b.now s in
    let same : x.birth ≡ s.birth = taken_birth o b.now s in
    let first = left_leaves o s l.number b (Some None) t k.session on in
    let at : session_at x.birth c.records ≡ Some x = ap (λ (m : ℕ). session_at m c.records) same ∙ taken_at o s b k.session in
    let second : Leaves s.birth l.number (resume l (hello client) b.now x) c (resumed_as x) (Some (Some s.birth)) (CONNACK true ∷ []) [] =
    subst (λ (m : ℕ). Leaves m l.number (resume l (hello client) b.now x) c (resumed_as x) (Some (Some m)) (CONNACK true ∷ []) []) same
    (resume_leaves b.now l client x c at first.line_is) in
    subst (λ (zs : List Deed). Leaves s.birth l.number zs b (resumed_as x) (Some (Some s.birth)) (CONNACK true ∷ []) (lines_left o)) (sym (connect_is o env l client s b e t k))
    (subst (λ (zs : List ℕ). Leaves s.birth l.number (ds ++ resume l (hello client) b.now x) b (resumed_as x) (Some (Some s.birth)) (CONNACK true ∷ []) zs) (append-nil (lines_left o))
    (leaves_append s.birth l.number ds (resume l (hello client) b.now x) b (left_face o b.now (face s)) (resumed_as x) (Some None) (Some (Some s.birth)) [] (CONNACK true ∷ []) (lines_left o) [] first second))

-- ---- the call

-- hearing of the line changes neither the lines nor where the session is connected
pub heard_line_of : (k m now : ℕ) (b : Broker) → (o : Option BrokerLine) → line_of k b ≡ o → IsTaken o k m → (x : Option BrokerLine) × (line_of k (heard_of now m b) ≡ x) × IsTaken x k m × (lines_left x ≡ lines_left o)
heard_line_of k m now b o e t = in_list b.lines o e t
  where
    in_list : (ls : List BrokerLine) (o : Option BrokerLine) → find (λ (l : BrokerLine). is_of l.session k) ls ≡ o → IsTaken o k m
        → (x : Option BrokerLine) × (find (λ (l : BrokerLine). is_of l.session k) (on_line (max b.now (min now LAST_NUMBER)) m Hear ls) ≡ x) × IsTaken x k m × (lines_left x ≡ lines_left o)
    in_list [] o e t = (o, e, t, refl)
    in_list (l ∷ ls) o e t = elim (cases_Bool (is_of l.session k)) [
      | inl its ↦
          let found : Some l ≡ o = rw its at e in
          let other : nat_eq l.number m ≡ false = t.another l (sym found) in
          (o, rw (other, its) found, t, refl)
      | inr not_its ↦
          let further : find (λ (y : BrokerLine). is_of y.session k) ls ≡ o = rw not_its at e in
          elim (cases_Bool (nat_eq l.number m)) [
            | inl here ↦ (o, rw (here, not_its) further, t, refl)
            | inr there ↦
                let rest = in_list ls o further t in
                (rest.0, rw (there, not_its) rest.1, rest.2, rest.3)
          ]
    ]

-- hearing a line keeps who stands on it
pub heard_on_line : (m now : ℕ) (ls : List BrokerLine) (x : Option ℕ) → session_on m ls ≡ Some x → session_on m (on_line now m Hear ls) ≡ Some x
heard_on_line m now ls x h = line_on now m m Hear ls (inr tt) ∙ h

-- what the call leaves of the session and the line
pub call_leaves : (limits : Capacity) (choice : MemberChoice) (now : ℕ) (p : Publisher) (l : BrokerLine) (s : Session) (b : Broker) → IsAsking p l s b
    → (f : Face) × Leaves s.birth l.number (deeds limits choice now (Input l.number (Connect (hello p.client))) b) (at_moment now b) f (Some (Some s.birth)) (CONNACK true ∷ []) (lines_left (line_of s.birth b)) × (f.client ≡ p.client) × (f.inbound ≡ s.inbound) × (f.will ≡ None) × (f.expiry ≡ never)
call_leaves limits choice now p l s b a =
    let n = l.number in
    let h = heard_of now n b in
    let env = env_of limits choice b in
    let heard_lines = heard_line_of s.birth n now b (line_of s.birth b) refl a.taken in
    let o = heard_lines.0 in
    let kept : IsKept p.client s h = record { session = a.kept.session; name = a.kept.name; only = a.kept.only; no_will = a.kept.no_will; no_end = a.kept.no_end; short = a.kept.short; plain = a.kept.plain } in
    let on = waits_on l b a.line a.waits in
    let f = resumed_as (taken_from o h.now s) in
    let own = connect_leaves o env l p.client s h heard_lines.1 heard_lines.2 kept (heard_on_line n _ b.lines None on) in
    let first : Leaves s.birth n (On n Hear ∷ []) (at_moment now b) (face s) (Some None) [] [] = record {
      face_is = ap (option_map face) a.kept.session;
      line_is = heard_on_line n _ b.lines None on;
      told_is = refl;
      closings_is = refl;
      numbers_is = refl;
      begun_is = refl;
      patient = (tt, tt);
    } in
    let both = leaves_append s.birth n (On n Hear ∷ []) (on_connect env l (hello p.client) h) (at_moment now b) (face s) f (Some None) (Some (Some s.birth)) [] (CONNACK true ∷ []) [] (lines_left o) first own in
    let closed = subst (λ (zs : List ℕ). Leaves s.birth n (On n Hear ∷ on_connect env l (hello p.client) h) (at_moment now b) f (Some (Some s.birth)) (CONNACK true ∷ []) zs) heard_lines.3 both in
    let whole = subst (λ (zs : List Deed). Leaves s.birth n zs (at_moment now b) f (Some (Some s.birth)) (CONNACK true ∷ []) (lines_left (line_of s.birth b)))
    (sym (connect_call limits choice now (hello p.client) l b a.line a.waits)) closed in
    (f, whole, taken_client o h.now s ∙ a.kept.name, taken_inbound o h.now s, refl, refl)

-- the line of a CONNECT is none that it drops
pub not_left : (o : Option BrokerLine) (k n : ℕ) → IsTaken o k n → is_one_of (Some n) (lines_left o) ≡ false
not_left None k n t = refl
not_left (Some l) k n t = rw (t.another l refl) refl

-- The broker reads CONNECT without Clean Start on the publisher's line while its session stands: the session is resumed
-- there, and the line that it was connected on is closed. What the publisher sees is that event of its hop
pub connect_is_hop : (limits : Capacity) (choice : MemberChoice) (now : ℕ) (p : Publisher) (rest : List Sent) (l : BrokerLine) (s : Session) (b : Broker) (accepted : List ℕ)
    → p.line.up ≡ shake (CONNECT false) ∷ rest → IsAsking p l s b
    → seen accepted (after_step limits choice now (Input l.number (hello_packet p)) p b) (stepped limits choice now (Input l.number (hello_packet p)) b)
    ≡ step (seen accepted p b) (to_broker takes)
connect_is_hop limits choice now p rest l s b accepted up a =
    let ds = deeds limits choice now (Input l.number (hello_packet p)) b in
    let start = at_moment now b in
    let given = call_leaves limits choice now p l s b a in
    let g = given.1 in
    let only : IsOnly p.client s.birth (after_all ds start).records = only_deeds p.client s.birth ds start (none_begun p.client s.birth ds g.begun_is) a.kept.only in
    let named = named_face p.client s.birth (after_all ds start).records given.0 only g.face_is given.2 in
    let before = named_face p.client s.birth b.records (face s) a.kept.only (ap (option_map face) a.kept.session) a.kept.name in
    let w = seen accepted p b in
    connect_seen limits choice now false p rest l b accepted takes true true (filter_map shaken rest) (CONNACK true ∷ []) (spared (filter_map shaken p.line.old)) w.stands w.ids up a.number before.0 (record {
      linked_is = ap linked_of g.line_is;
      up_is = left_up l.number ds (lines_left (line_of s.birth b)) p (shake (CONNECT false)) rest up g.closings_is (not_left (line_of s.birth b) s.birth l.number a.taken);
      told_is = g.told_is;
      old_is = ap (λ (xs : List ℕ). filter_map shaken (unless_closed (is_one_of p.line.old_number xs) p.line.old)) g.closings_is ∙ a.old;
      stands_is = named.0 ∙ sym before.0;
      ids_is = named.1 ∙ (given.3 ∙ sym before.1);
    }) refl

-- and the session and the line are its own after it
pub connect_owns : (limits : Capacity) (choice : MemberChoice) (now : ℕ) (p : Publisher) (l : BrokerLine) (s : Session) (b : Broker) → IsAsking p l s b → l.keep_alive ≡ 0 → IsInOrder b
    → IsInOrder (stepped limits choice now (Input l.number (hello_packet p)) b) → Own p.client s.birth l.number (stepped limits choice now (Input l.number (hello_packet p)) b)
connect_owns limits choice now p l s b a quiet order order_after =
    let n = l.number in
    let ds = deeds limits choice now (Input n (hello_packet p)) b in
    let start = at_moment now b in
    let given = call_leaves limits choice now p l s b a in
    let g = given.1 in
    let only : IsOnly p.client s.birth (after_all ds start).records = only_deeds p.client s.birth ds start (none_begun p.client s.birth ds g.begun_is) a.kept.only in
    owned_after p.client s.birth n given.0 (rows_of_all ds start.records) (after_all ds start) order_after only g.face_is given.2 given.4 given.5 g.line_is
    (patient_lines n ds start g.patient (found_alone l b.lines order.lines.ascending a.line quiet))
