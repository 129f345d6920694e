-- The broker reads a publisher's CONNECT with Clean Start while its session stands: that is taken over and ends, and a new one
-- begins. It is the step of the hop (MQTT 5.0, 3.1.2.4, 3.1.4).
use Rattle.std.proofs.Common.{◌≡◌, ℕ, suc, ◌<◌, ◌≤◌, Bool, true, false, cond, List, [], ◌∷◌, ◌++◌, length, map, Option, Some, None, nat_eq, nat_lt, bytes_eq, refl, sym, ap, subst, ◌∙◌, append-nil, arith, inl, inr}
use Rattle.std.specs.Prelude.{⊤, option_map, find, filter_map}
use Rattle.std.specs.List.{AllByRecursion}
use Rattle.std.proofs.lemmas.Bool.{cases_Bool, lt-ltb}
use Rattle.std.proofs.lemmas.Cmp.{nat_eq_equiv}
use Rattle.std.proofs.lemmas.Slice.Eq.{bytes_eq-Decides}
use Rattle.mqtt_base.specs.declared.limits.TheConstants.{SESSION_LIMIT}
use Rattle.mqtt_base.specs.declared.session.Ending.TheVariants.{SessionEnded}
use Rattle.mqtt_base.specs.Codes.{quota_exceeded}
use Rattle.mqtt_packet.specs.declared.connect.connect.Connect.{Connect as Greeting}
use Rattle.mqtt_topic.specs.names.Names.{is_empty}
use Rattle.mqtt_records.specs.messages.Queue.{CopyRow}
use Rattle.mqtt_records.specs.declared.messages.message.Will.{Will}
use Rattle.mqtt_flow.specs.inbound.Publisher.{CONNECT, ToPublisher, CONNACK}
use Rattle.mqtt_flow.specs.inbound.InboundWorld.{takes, to_broker, spared, step}
use Rattle.mqtt_records.specs.declared.state.session.Session.{Session}
use Rattle.mqtt_records.specs.declared.state.records.Records.{Records}
use Rattle.mqtt_records.specs.lists.Order.{row_at, remove_row}
use Rattle.mqtt_records.specs.state.Session.{birth_of}
use Rattle.mqtt_records.specs.state.Records.{changed_all}
use Rattle.mqtt_rules.specs.declared.step.Capacity.{Capacity}
use Rattle.mqtt_rules.specs.step.State.{MemberChoice, Line as BrokerLine, Broker, Env, session_at, session_named, line_of}
use Rattle.mqtt_rules.specs.step.Deeds.{whose, Part, Resume, Close, SetExpiry, DropWill, Subscribe, Unsubscribe, Open, Release, Enter, Mark, Leave, Hear, Deed, At, Finish, On, Send, Gone, will_row, part_rows_of, closing, after, after_all, Act, always, only_if, with_session}
use Rattle.mqtt_rules.specs.step.Closing.{will_deeds, publish_will, end_session}
use Rattle.mqtt_rules.specs.step.Connect.{of_client, clear, prepare, begin, begin_named, refused, joins, joins_after, connect_by, on_connect}
use Rattle.mqtt_rules.specs.step.Numbers.{HasGivenBirths}
use Rattle.mqtt_rules.specs.step.Step.{Input, at_moment, env_of, deeds, stepped}
use Rattle.mqtt_rules.proofs.step_lemmas.acts.Goods.{AreGood, after_append}
use Rattle.mqtt_rules.proofs.step_lemmas.order.Ordered.{length-change_row}
use Rattle.mqtt_rules.proofs.step_lemmas.numbers.NumberFacts.{GivesNext}
use Rattle.mqtt_rules.proofs.step_lemmas.numbers.NumberBirths.{given_all}
use Rattle.mqtt_world_model.specs.model.Ends.{Sent, shake, Publisher}
use Rattle.mqtt_world_model.specs.model.Seen.{shaken, heard_in, seen}
use Rattle.mqtt_world_model.specs.model.Hops.{IsIts, IsOnly, lines_left, IsTaken, IsKept, IsAsking, MayBegin, Own, IsInOrder, connect_packet, after_step}
use Rattle.mqtt_world_model.proofs.model_lemmas.others.Rows.{face, face_at}
use Rattle.mqtt_world_model.proofs.model_lemmas.others.Quiet.{AreQuiet, told_to, session_on, calm}
use Rattle.mqtt_world_model.proofs.model_lemmas.own.Publishes.{told_append, act_none}
use Rattle.mqtt_world_model.proofs.model_lemmas.others.Names.{BeginNone, only_deeds}
use Rattle.mqtt_world_model.proofs.model_lemmas.seats.Seeing.{some_face, named_face, hop_of}
use Rattle.mqtt_world_model.proofs.model_lemmas.own.OwnStep.{heard_of}
use Rattle.mqtt_world_model.proofs.model_lemmas.seats.Owned.{ArePatient, patient_append}
use Rattle.mqtt_world_model.proofs.model_lemmas.connects.Connects.{closings_append, left_by, left_leaves, taken_from, taken_at, taken_birth, taken_client, taken_will, named_taken, prepare_front, heard_line_of, heard_on_line, not_left}
use Rattle.mqtt_world_model.proofs.model_lemmas.connects.AnyConnect.{waits_on, connect_call}
use Rattle.mqtt_world_model.proofs.model_lemmas.connects.FirstConnects.{hello_by, refused_not, Renews, begins, heard_first, renews_seen, renews_owns}

-- ---- deeds that end a session: they give no number, and no session more stands after them

abbrev pub IsEnding : Deed → Type 0
IsEnding (At who part) = ⊤
IsEnding (Finish who) = ⊤
IsEnding (Send n packet) = ⊤
IsEnding (Gone n) = ⊤
IsEnding d = ⊥

abbrev pub AreEnding : List Deed → Type 0
AreEnding [] = ⊤
AreEnding (d ∷ ds) = IsEnding d × AreEnding ds

ending_append : (xs ys : List Deed) → AreEnding xs → AreEnding ys → AreEnding (xs ++ ys)
ending_append [] ys p q = q
ending_append (x ∷ xs) ys p q = (p.0, ending_append xs ys p.1 q)

ending_none : (client : List ℕ) (birth : ℕ) (ds : List Deed) → AreEnding ds → BeginNone client birth ds
ending_none client birth [] q = tt
ending_none client birth (At who part ∷ ds) q = (tt, ending_none client birth ds q.1)
ending_none client birth (Finish who ∷ ds) q = (tt, ending_none client birth ds q.1)
ending_none client birth (Send n packet ∷ ds) q = (tt, ending_none client birth ds q.1)
ending_none client birth (Gone n ∷ ds) q = (tt, ending_none client birth ds q.1)
ending_none client birth (d ∷ ds) q = absurd q.0

ending_patient : (ds : List Deed) → AreEnding ds → ArePatient ds
ending_patient [] q = tt
ending_patient (At who part ∷ ds) q = (tt, ending_patient ds q.1)
ending_patient (Finish who ∷ ds) q = (tt, ending_patient ds q.1)
ending_patient (Send n packet ∷ ds) q = (tt, ending_patient ds q.1)
ending_patient (Gone n ∷ ds) q = (tt, ending_patient ds q.1)
ending_patient (d ∷ ds) q = absurd q.0

-- what ends a session gives no number
pub ending_next : (ds : List Deed) (b : Broker) → AreEnding ds → AreGood GivesNext ds b
ending_next [] b q = tt
ending_next (At who part ∷ ds) b q = (tt, ending_next ds (after (At who part) b) q.1)
ending_next (Finish who ∷ ds) b q = (tt, ending_next ds (after (Finish who) b) q.1)
ending_next (Send n packet ∷ ds) b q = (tt, ending_next ds (after (Send n packet) b) q.1)
ending_next (Gone n ∷ ds) b q = (tt, ending_next ds (after (Gone n) b) q.1)
ending_next (d ∷ ds) b q = absurd q.0

abbrev count : Broker → ℕ
count b = length b.records.sessions

resumed_count : (k : ℕ) (will : Option Will) (r : Records) → length (changed_all (will_row k will ∷ []) r).sessions ≡ length r.sessions
resumed_count k None r = length-change_row birth_of k _ r.sessions
resumed_count k (Some will) r = length-change_row birth_of k _ r.sessions

part_count : (part : Part) (o : Option Session) (r : Records) → length (changed_all (part_rows_of part o) r).sessions ≡ length r.sessions
part_count part None r = refl
part_count (Resume expiry will) (Some s) r = resumed_count s.birth will _ ∙ length-change_row birth_of s.birth _ r.sessions
part_count (Close moment) (Some s) r = length-change_row birth_of s.birth _ r.sessions
part_count (SetExpiry expiry) (Some s) r = length-change_row birth_of s.birth _ r.sessions
part_count DropWill (Some s) r = length-change_row birth_of s.birth _ r.sessions
part_count (Subscribe sub) (Some s) r = length-change_row birth_of s.birth _ r.sessions
part_count (Unsubscribe text) (Some s) r = length-change_row birth_of s.birth _ r.sessions
part_count (Open id) (Some s) r = length-change_row birth_of s.birth _ r.sessions
part_count (Release id) (Some s) r = length-change_row birth_of s.birth _ r.sessions
part_count (Enter copy) (Some s) r = length-change_row birth_of s.birth _ r.sessions
part_count (Mark place phase) (Some s) r = length-change_row birth_of s.birth _ r.sessions
part_count (Leave e ending) (Some s) r = length-change_row birth_of s.birth _ r.sessions

left_count : (o : Option BrokerLine) (s : Session) (b : Broker) → count (after_all (left_by o s b.now) b) ≡ count b
left_count None s b = refl
left_count (Some l) s b = part_count (Close b.now) (session_at s.birth b.records) b.records

left_ending : (o : Option BrokerLine) (s : Session) (now : ℕ) → AreEnding (left_by o s now)
left_ending None s now = tt
left_ending (Some l) s now = (tt, (tt, (tt, tt)))

-- ---- the end of the session

abbrev copies_leave : Session → List CopyRow → List Deed
copies_leave s queue = map (λ (e : CopyRow). At (whose s) (Leave e SessionEnded)) queue

leave_count : (s : Session) (queue : List CopyRow) (b : Broker) → count (after_all (copies_leave s queue) b) ≡ count b
leave_count s [] b = refl
leave_count s (e ∷ es) b =
    leave_count s es (after (At (whose s) (Leave e SessionEnded)) b) ∙ part_count (Leave e SessionEnded) (session_at s.birth b.records) b.records

leave_quiet : (birth n : ℕ) (s : Session) (queue : List CopyRow) → AreQuiet birth n (copies_leave s queue)
leave_quiet birth n s [] = tt
leave_quiet birth n s (e ∷ es) = (inr tt, leave_quiet birth n s es)

leave_ending : (s : Session) (queue : List CopyRow) → AreEnding (copies_leave s queue)
leave_ending s [] = tt
leave_ending s (e ∷ es) = (tt, leave_ending s es)

leave_closings : (s : Session) (queue : List CopyRow) → filter_map closing (copies_leave s queue) ≡ []
leave_closings s [] = refl
leave_closings s (e ∷ es) = leave_closings s es

-- no session of the name is left
none_left : (client : List ℕ) (birth : ℕ) (ss : List Session) → AllByRecursion (IsIts client birth) ss
    → find (λ (x : Session). bytes_eq x.client client) (remove_row birth_of birth ss) ≡ None
none_left client birth [] h = refl
none_left client birth (x ∷ xs) h = elim (cases_Bool (nat_eq x.birth birth)) [
  | inl goes ↦ rw goes (none_left client birth xs h.1)
  | inr stays ↦ elim (cases_Bool (bytes_eq x.client client)) [
    | inl its ↦
        let here : x.birth ≡ birth = h.0 ((bytes_eq-Decides x.client client).0 its) in
        let test : nat_eq x.birth birth ≡ true = ap (λ (k : ℕ). nat_eq k birth) here ∙ nat_eq_equiv.refl birth in
        let clash : true ≡ false = sym test ∙ stays in
        absurd cc
    | inr other ↦ rw (stays, other) (none_left client birth xs h.1)
  ]
]

-- one fewer stands
removed_less : (birth : ℕ) (s : Session) (ss : List Session) → row_at birth_of birth ss ≡ Some s → length (remove_row birth_of birth ss) < length ss
removed_less birth s [] h = absurd cc
removed_less birth s (x ∷ xs) h = elim (cases_Bool (nat_eq x.birth birth)) [
  | inl goes ↦ rw goes (let less = removed_most birth xs in omega (arith, less))
  | inr stays ↦
      let rest = removed_less birth s xs (rw stays at h) in
      rw stays (omega (arith, rest))
]
  where
    removed_most : (k : ℕ) (ys : List Session) → length (remove_row birth_of k ys) ≤ length ys
    removed_most k [] = omega arith
    removed_most k (y ∷ ys) =
        let rest = removed_most k ys in
        elim (cases_Bool (nat_eq y.birth k)) [ inl goes ↦ rw goes (omega (arith, rest)) | inr stays ↦ rw stays (omega (arith, rest)) ]

-- what the end of a session leaves
record Ends (client : List ℕ) (n : ℕ) (ds : List Deed) (b : Broker) (on : Option (Option ℕ)) : Type 0 where
  pub none : session_named client (after_all ds b).records ≡ None
  pub fewer : count (after_all ds b) < count b
  pub line_is : session_on n (after_all ds b).lines ≡ on
  pub told_is : told_to n ds ≡ []
  pub closings_is : filter_map closing ds ≡ []
  pub ending : AreEnding ds

ends : (client : List ℕ) (n : ℕ) (x : Session) (b : Broker) (on : Option (Option ℕ)) → IsOnly client x.birth b.records → session_at x.birth b.records ≡ Some x → session_on n b.lines ≡ on
    → Ends client n (end_session x) b on
ends client n x b on only at is =
    let leaves = copies_leave x x.queue in
    let last : List Deed = Finish (whose x) ∷ [] in
    let c = after_all leaves b in
    let quiet = calm x.birth n leaves b (leave_quiet x.birth n x x.queue) in
    let end : after_all (end_session x) b ≡ after_all last c = after_append leaves last b in
    let found = some_face (face x) (session_at x.birth c.records) (quiet.face_is ∙ ap (option_map face) at) in
    let less = removed_less x.birth found.0 c.records.sessions found.1 in
    let same = leave_count x x.queue b in
    let counts = ap count end in
    let its : IsOnly client x.birth c.records = only_deeds client x.birth leaves b (ending_none client x.birth leaves (leave_ending x x.queue)) only in
    record {
      none = ap (λ (y : Broker). session_named client y.records) end ∙ none_left client x.birth c.records.sessions its;
      fewer = omega (arith, less, same, counts);
      line_is = ap (λ (y : Broker). session_on n y.lines) end ∙ (quiet.line_is ∙ is);
      told_is = told_append n leaves last ∙ ap (λ (zs : List ToPublisher). zs ++ []) quiet.told_is;
      closings_is = closings_append leaves last ∙ ap (λ (zs : List ℕ). zs ++ []) (leave_closings x x.queue);
      ending = ending_append leaves last (leave_ending x x.queue) (tt, tt);
    }

-- ---- the deeds of the CONNECT

-- a clean start of a session without a Will ends it, and no more
pub clear_is : (env : Env) (client : List ℕ) (x : Session) (b : Broker) → session_named client b.records ≡ Some x → x.client ≡ client → x.will ≡ None
    → of_client client (clear env) b ≡ end_session x
clear_is env client x b named its no_will =
    let first : Act = publish_will env x in
    let second : Act = of_client x.client (λ t. always (end_session t)) in
    ap (λ (z : Option Session). with_session z (clear env) b) named
    ∙ (act_none first (second ∷ []) b (ap (λ (w : Option Will). will_deeds env (whose x) w b) no_will)
    ∙ (append-nil (second b)
    ∙ (ap (λ (text : List ℕ). with_session (session_named text b.records) (λ t. always (end_session t)) b) its
    ∙ ap (λ (z : Option Session). with_session z (λ t. always (end_session t)) b) named)))

abbrev pub ended_by : Option BrokerLine → Session → ℕ → List Deed
ended_by o s now = left_by o s now ++ end_session (taken_from o now s)

prepare_is : (o : Option BrokerLine) (env : Env) (client : List ℕ) (s : Session) (n : ℕ) (b : Broker) → line_of s.birth b ≡ o → IsTaken o s.birth n → IsKept client s b
    → prepare env (hello_by true client) b ≡ ended_by o s b.now
prepare_is o env client s n b e t k =
    let ds = left_by o s b.now in
    let c = after_all ds b in
    let third : Act = of_client client (clear env) in
    prepare_front o env client s n b (only_if true third ∷ []) e t k
    ∙ ap (λ (zs : List Deed). ds ++ zs) (append-nil (third c) ∙ clear_is env client (taken_from o b.now s) c (named_taken o client s b k) (taken_client o b.now s ∙ k.name) (taken_will o b.now s ∙ k.no_will))

-- the new session's birth
abbrev next_birth : List Deed → Broker → ℕ
next_birth ds b = suc (after_all ds b).records.births

-- if there is a place a new session begins
pub begins_by_room : (t e : Bool) (ds : List Deed) (l : BrokerLine) (c : Greeting) (r : Records) → t ≡ true → e ≡ false
    → cond t (ds ++ begin_named e l c r) (refused l c quota_exceeded) ≡ ds ++ begin l c false c.client_identifier (suc r.births)
begins_by_room false e ds l c r room is = absurd cc
begins_by_room true e ds l c r room is = ap (λ (x : Bool). ds ++ begin_named x l c r) is

-- what the session's end leaves
pub record Cleared (o : Option BrokerLine) (client : List ℕ) (n : ℕ) (ds : List Deed) (b : Broker) : Type 0 where
  pub none : session_named client (after_all ds b).records ≡ None
  pub fewer : count (after_all ds b) < count b
  pub line_is : session_on n (after_all ds b).lines ≡ Some None
  pub told_is : told_to n ds ≡ []
  pub closings_is : filter_map closing ds ≡ lines_left o
  pub ending : AreEnding ds

-- behind the takeover and the clean start nothing of the old session is there
pub cleared : (o : Option BrokerLine) (client : List ℕ) (s : Session) (n : ℕ) (b : Broker) → IsTaken o s.birth n → IsKept client s b → session_on n b.lines ≡ Some None
    → Cleared o client n (ended_by o s b.now) b
cleared o client s n b t k on =
    let ds = left_by o s b.now in
    let x = taken_from o b.now s in
    let es = end_session x in
    let c = after_all ds b in
    let same : x.birth ≡ s.birth = taken_birth o b.now s in
    let left = left_leaves o s n b (Some None) t k.session on in
    let only : IsOnly client s.birth c.records = only_deeds client s.birth ds b (ending_none client s.birth ds (left_ending o s b.now)) k.only in
    let only_x : IsOnly client x.birth c.records = subst (λ (m : ℕ). IsOnly client m c.records) (sym same) only in
    let at : session_at x.birth c.records ≡ Some x = ap (λ (m : ℕ). session_at m c.records) same ∙ taken_at o s b k.session in
    let end = ends client n x c (Some None) only_x at left.line_is in
    let whole : after_all (ds ++ es) b ≡ after_all es c = after_append ds es b in
    let less = end.fewer in
    let before = left_count o s b in
    let counts = ap count whole in
    record {
      none = ap (λ (y : Broker). session_named client y.records) whole ∙ end.none;
      fewer = omega (arith, less, before, counts);
      line_is = ap (λ (y : Broker). session_on n y.lines) whole ∙ end.line_is;
      told_is = told_append n ds es ∙ (ap (λ (zs : List ToPublisher). zs ++ told_to n es) left.told_is ∙ end.told_is);
      closings_is = closings_append ds es ∙ (ap (λ (zs : List ℕ). zs ++ filter_map closing es) left.closings_is ∙ (ap (λ (zs : List ℕ). lines_left o ++ zs) end.closings_is ∙ append-nil (lines_left o)));
      ending = ending_append ds es (left_ending o s b.now) end.ending;
    }

connect_is : (o : Option BrokerLine) (env : Env) (l : BrokerLine) (client : List ℕ) (s : Session) (b : Broker) → line_of s.birth b ≡ o → IsTaken o s.birth l.number → IsKept client s b → is_empty client ≡ false
    → session_named client (after_all (ended_by o s b.now) b).records ≡ None → nat_lt (count (after_all (ended_by o s b.now) b)) env.limits.sessions ≡ true
    → on_connect env l (hello_by true client) b ≡ ended_by o s b.now ++ begin l (hello_by true client) false client (next_birth (ended_by o s b.now) b)
connect_is o env l client s b e t k some none room =
    let c = hello_by true client in
    let ds = ended_by o s b.now in
    let r = (after_all ds b).records in
    ap (λ (z : Option ℕ). connect_by z env l c b) (refused_not true client b.records k.short k.plain)
    ∙ (ap (λ (xs : List Deed). joins_after env l c b.now xs (after_all xs b).records) (prepare_is o env client s l.number b e t k)
    ∙ (ap (λ (z : Option Session). joins env l c b.now ds r z) none
    ∙ begins_by_room (nat_lt (length r.sessions) env.limits.sessions) (is_empty client) ds l c r room some))

-- ---- the call

-- a new session begins behind the end of the old one
renews : (o : Option BrokerLine) (limits : Capacity) (l : BrokerLine) (client : List ℕ) (s : Session) (b : Broker) → IsTaken o s.birth l.number → IsKept client s b → session_on l.number b.lines ≡ Some None
    → HasGivenBirths b.records → limits.sessions ≤ SESSION_LIMIT → count b ≤ limits.sessions
    → Renews client l.number (ended_by o s b.now ++ begin l (hello_by true client) false client (next_birth (ended_by o s b.now) b)) b (lines_left o)
renews o limits l client s b t k on births within room =
    let n = l.number in
    let ds = ended_by o s b.now in
    let c = after_all ds b in
    let given = cleared o client s n b t k on in
    let es = begin l (hello_by true client) false client (next_birth ds b) in
    let whole : after_all (ds ++ es) b ≡ after_all es c = after_append ds es b in
    let low : HasGivenBirths c.records = given_all ds b (ending_next ds b given.ending) births in
    let less = given.fewer in
    let new = begins l true client c given.none low (omega (arith, less, within, room)) given.line_is in
    record {
      birth = new.birth;
      shown = new.shown;
      face_is = ap (λ (y : Broker). face_at new.birth y.records) whole ∙ new.face_is;
      only = subst (λ (y : Broker). IsOnly client new.birth y.records) (sym whole) new.only;
      client_is = new.client_is;
      ids_is = new.ids_is;
      line_is = ap (λ (y : Broker). session_on n y.lines) whole ∙ new.line_is;
      told_is = told_append n ds es ∙ (ap (λ (zs : List ToPublisher). zs ++ told_to n es) given.told_is ∙ new.told_is);
      closings_is = closings_append ds es ∙ (ap (λ (zs : List ℕ). zs ++ []) given.closings_is ∙ append-nil (lines_left o));
      no_will = new.no_will;
      no_end = new.no_end;
      patient = patient_append ds es (ending_patient ds given.ending) new.patient;
    }

-- and so it does by the call
pub call_renews : (limits : Capacity) (choice : MemberChoice) (now : ℕ) (p : Publisher) (l : BrokerLine) (s : Session) (b : Broker) → IsAsking p l s b → MayBegin limits p.client b
    → Renews p.client l.number (deeds limits choice now (Input l.number (connect_packet true p)) b) (at_moment now b) (lines_left (line_of s.birth b))
call_renews limits choice now p l s b a m =
    let n = l.number in
    let h = heard_of now n b in
    let env = env_of limits choice b in
    let c = hello_by true p.client in
    let heard_lines = heard_line_of s.birth n now b (line_of s.birth b) refl a.taken in
    let o = heard_lines.0 in
    let kept : IsKept p.client s h = record { session = a.kept.session; name = a.kept.name; only = a.kept.only; no_will = a.kept.no_will; no_end = a.kept.no_end; short = a.kept.short; plain = a.kept.plain } in
    let on : session_on n h.lines ≡ Some None = heard_on_line n _ b.lines None (waits_on l b a.line a.waits) in
    let given = cleared o p.client s n h heard_lines.2 kept on in
    let less = given.fewer in
    let room = m.room in
    let fits : nat_lt (count (after_all (ended_by o s h.now) h)) limits.sessions ≡ true = lt-ltb (count (after_all (ended_by o s h.now) h)) limits.sessions (omega (arith, less, room)) in
    let es = ended_by o s h.now ++ begin l c false p.client (next_birth (ended_by o s h.now) h) in
    let own = subst (λ (ns : List ℕ). Renews p.client n es h ns) heard_lines.3 (renews o limits l p.client s h heard_lines.2 kept on m.births m.within m.room) in
    let is : deeds limits choice now (Input n (connect_packet true p)) b ≡ On n Hear ∷ es =
    connect_call limits choice now c l b a.line a.waits ∙ ap (λ (ds : List Deed). On n Hear ∷ ds) (connect_is o env l p.client s h heard_lines.1 heard_lines.2 kept m.some given.none fits) in
    subst (λ (ds : List Deed). Renews p.client n ds (at_moment now b) (lines_left (line_of s.birth b))) (sym is) (heard_first p.client n now es b (lines_left (line_of s.birth b)) own)

-- ---- what the publisher sees

-- The broker reads CONNECT with Clean Start on the publisher's line while its session stands: the session ends, a new one
-- begins there, and the line that the old one was connected on is closed. What the publisher sees is that event of its hop
pub clean_is_hop : (limits : Capacity) (choice : MemberChoice) (now : ℕ) (p : Publisher) (rest : List Sent) (l : BrokerLine) (s : Session) (b : Broker) (accepted : List ℕ)
    → p.line.up ≡ shake (CONNECT true) ∷ rest → IsAsking p l s b → MayBegin limits p.client b
    → seen accepted (after_step limits choice now (Input l.number (connect_packet true p)) p b) (stepped limits choice now (Input l.number (connect_packet true p)) b)
    ≡ step (seen accepted p b) (to_broker takes)
clean_is_hop limits choice now p rest l s b accepted up a m =
    let before = named_face p.client s.birth b.records (face s) a.kept.only (ap (option_map face) a.kept.session) a.kept.name in
    let xs = filter_map shaken rest in
    let old = spared (filter_map shaken p.line.old) in
    renews_seen limits choice now true p rest l b accepted true (lines_left (line_of s.birth b)) up a.number before.0 (call_renews limits choice now p l s b a m)
    (not_left (line_of s.birth b) s.birth l.number a.taken) a.old
    (ap (λ (t : Bool). hop_of accepted p true xs (filter_map heard_in p.line.down ++ CONNACK false ∷ []) old t []) (sym before.0))

-- and the new session and the line are its own after it
pub clean_owns : (limits : Capacity) (choice : MemberChoice) (now : ℕ) (p : Publisher) (l : BrokerLine) (s : Session) (b : Broker) → IsAsking p l s b → MayBegin limits p.client b → l.keep_alive ≡ 0 → IsInOrder b
    → IsInOrder (stepped limits choice now (Input l.number (connect_packet true p)) b) → (birth : ℕ) × Own p.client birth l.number (stepped limits choice now (Input l.number (connect_packet true p)) b)
clean_owns limits choice now p l s b a m quiet order order_after =
    let g = call_renews limits choice now p l s b a m in
    (g.birth, renews_owns limits choice now true p l b (lines_left (line_of s.birth b)) g a.line quiet order order_after)
