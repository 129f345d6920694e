-- The broker reads a publisher's own PUBLISH of QoS 2: it is the step of the hop, whatever its routing and the queues.
use Rattle.std.proofs.Common.{◌≡◌, ℕ, Bool, true, false, not, ◌||◌, if◌then◌else◌, List, [], ◌∷◌, ◌++◌, length, filter, Option, Some, None, nat_eq, nat_lt, refl, sym, ap, subst, ◌∙◌, append-nil, inl, inr}
use Rattle.std.specs.Prelude.{option_map}
use Rattle.std.specs.List.{cons_option}
use Rattle.std.proofs.lemmas.Bool.{cases_Bool}
use Rattle.std.proofs.lemmas.Cmp.{nat_eq_equiv}
use Rattle.std.proofs.lemmas.List.Elements.{filter_map-append}
use Rattle.mqtt_packet.specs.declared.codec.publish.Delivery.{Delivery as Handing}
use Rattle.mqtt_packet.specs.declared.codec.publish.Delivery.TheVariants as delivery
use Rattle.mqtt_packet.specs.declared.codec.publish.Publish.{Publish as Publication}
use Rattle.mqtt_topic.specs.names.Names.{is_empty}
use Rattle.mqtt_base.specs.declared.limits.TheConstants.{OPEN_LIMIT}
use Rattle.mqtt_flow.specs.declared.inbound.inflow.Published.{Published}
use Rattle.mqtt_flow.specs.declared.inbound.inflow.Published.TheVariants.{New, Again, Over}
use Rattle.mqtt_flow.specs.declared.inbound.inflow.ReleaseAnswer.{ReleaseAnswer}
use Rattle.mqtt_flow.specs.declared.inbound.inflow.ReleaseAnswer.TheVariants.{Known, Unknown}
use Rattle.mqtt_base.specs.Codes.{success, no_matching_subscribers, quota_exceeded, receive_maximum_exceeded}
use Rattle.mqtt_flow.specs.inbound.Identifiers.{is_among, ids_with, ids_without}
use Rattle.mqtt_flow.specs.inbound.Inbound.{answer_to, answer_to_release, ids_on, open_after}
use Rattle.mqtt_flow.specs.inbound.Publisher.{ToPublisher, PUBREC, DISCONNECT}
use Rattle.mqtt_flow.specs.inbound.InboundWorld.{Choice, takes, takes_unheard, refuses, Verdict, accept, refuse, repeat, shut, verdict_on, ids_by, answer_2, answer_to_pubrel}
use Rattle.mqtt_records.specs.declared.messages.message.Will.{Will}
use Rattle.mqtt_records.specs.declared.state.session.Session.{Session}
use Rattle.mqtt_records.specs.declared.state.session.Columns.{Columns}
use Rattle.mqtt_base.specs.declared.limits.TheConstants.{OPEN_LIMIT}
use Rattle.mqtt_records.specs.declared.state.records.Records.{Records}
use Rattle.mqtt_records.specs.lists.Order.{row_at, has_row, insert_row, put_row, change_row}
use Rattle.mqtt_records.specs.state.Session.{birth_of, number_of, columns_of, with_columns, with_open, without_open}
use Rattle.mqtt_records.specs.state.Records.{changed_all}
use Rattle.mqtt_rules.specs.step.Packets.{disconnect}
use Rattle.mqtt_rules.specs.step.State.{Line, Broker, Env, session_at}
use Rattle.mqtt_rules.specs.step.Deeds.{whose, Message, FromClient, Close, Open, Release, Deed, Accept, At, Send, Gone, part_rows_of, after, after_all, Act, always, series, only_if, with_session, of_session}
use Rattle.mqtt_rules.specs.step.Routing.{CopyTo, accepted_copies, next_publication, is_wanted}
use Rattle.mqtt_rules.specs.step.Closing.{never, is_due, will_due, end_due, settle, close_session, close_connected, drop_line, publish_will, end_session, has_due_will, has_due_end}
use Rattle.mqtt_rules.specs.step.Inbound.{Meaning, Means, Wrong, meaning, sets_alias, standing, answer, opens, code_again, code_accepted, publish_new, publish_by, message_of, publish_meant, on_publish, release_by, on_pubrel}
use Rattle.mqtt_rules.specs.step.Numbers.{birth_given}
use Rattle.mqtt_rules.proofs.step_lemmas.acts.Goods.{after_append}
use Rattle.mqtt_rules.proofs.step_lemmas.flight.FlightRows.{found_key, change_row-here}
use Rattle.mqtt_world_model.specs.model.Run.{client_number}
use Rattle.mqtt_world_model.proofs.model_lemmas.others.Rows.{Face, face, face_at}
use Rattle.mqtt_world_model.proofs.model_lemmas.others.Quiet.{AreQuiet, heard_by, told_to, is_closing, closes, numbers, begun, session_on, calm, copies_of, quiet_copies}

-- ---- what deeds make of a session and a line

-- what a list of deeds leaves of the session and of the line, what it tells there, and what it accepts
pub record Gives (birth n : ℕ) (ds : List Deed) (b : Broker) (f : Face) (on : Option (Option ℕ)) (told : List ToPublisher) (shuts : Bool) (count : List ℕ) : Type 0 where
  pub face_is : face_at birth (after_all ds b).records ≡ Some f
  pub line_is : session_on n (after_all ds b).lines ≡ on
  pub told_is : told_to n ds ≡ told
  pub closes_is : closes n ds ≡ shuts
  pub numbers_is : numbers ds ≡ count
  pub begun_is : begun ds ≡ []
  -- and no other line is closed
  pub others : (m : ℕ) → nat_eq n m ≡ false → closes m ds ≡ false

-- reading lists of deeds one after the other
pub told_append : (n : ℕ) (xs ys : List Deed) → told_to n (xs ++ ys) ≡ told_to n xs ++ told_to n ys
told_append n [] ys = refl
told_append n (x ∷ xs) ys = first (heard_by n _) (told_append n xs ys)
  where
    first : (o : Option ToPublisher) → told_to n (xs ++ ys) ≡ told_to n xs ++ told_to n ys
        → cons_option o (told_to n (xs ++ ys)) ≡ cons_option o (told_to n xs) ++ told_to n ys
    first None h = h
    first (Some packet) h = ap (λ (ps : List ToPublisher). packet ∷ ps) h

-- two lists of deeds accept the publications of both
pub numbers_append : (xs ys : List Deed) → numbers (xs ++ ys) ≡ numbers xs ++ numbers ys
numbers_append xs ys = filter_map-append client_number xs ys

-- and begin the sessions of both
pub begun_append : (xs ys : List Deed) → begun (xs ++ ys) ≡ begun xs ++ begun ys
begun_append xs ys = filter_map-append birth_given xs ys

closes_append : (n : ℕ) (xs ys : List Deed) → closes n (xs ++ ys) ≡ (closes n xs || closes n ys)
closes_append n [] ys = refl
closes_append n (x ∷ xs) ys = first (is_closing n _) (closes_append n xs ys)
  where
    first : (t : Bool) → closes n (xs ++ ys) ≡ (closes n xs || closes n ys) → (t || closes n (xs ++ ys)) ≡ ((t || closes n xs) || closes n ys)
    first true h = refl
    first false h = h

-- first deeds that are quiet, then others
pub quiet_then : (birth n : ℕ) (xs ys : List Deed) (b : Broker) (f : Face) (on : Option (Option ℕ)) (told : List ToPublisher) (shuts : Bool) (count : List ℕ)
    → ((m : ℕ) → AreQuiet birth m xs) → Gives birth n ys (after_all xs b) f on told shuts count → Gives birth n (xs ++ ys) b f on told shuts count
quiet_then birth n xs ys b f on told shuts count q g =
    let c = calm birth n xs b (q n) in
    record {
      face_is = ap (λ (x : Broker). face_at birth x.records) (after_append xs ys b) ∙ g.face_is;
      line_is = ap (λ (x : Broker). session_on n x.lines) (after_append xs ys b) ∙ g.line_is;
      told_is = told_append n xs ys ∙ (ap (λ (ps : List ToPublisher). ps ++ told_to n ys) c.told_is ∙ g.told_is);
      closes_is = closes_append n xs ys ∙ (ap (λ (t : Bool). t || closes n ys) c.closes_is ∙ g.closes_is);
      numbers_is = numbers_append xs ys ∙ (ap (λ (ks : List ℕ). ks ++ numbers ys) c.numbers_is ∙ g.numbers_is);
      begun_is = begun_append xs ys ∙ (ap (λ (ks : List ℕ). ks ++ begun ys) c.begun_is ∙ g.begun_is);
      others = λ m other. closes_append m xs ys ∙ (ap (λ (t : Bool). t || closes m ys) (calm birth m xs b (q m)).closes_is ∙ g.others m other);
    }

-- ---- an identifier is opened

or_false : (a b : Bool) → (a || b) ≡ false → (a ≡ false) × (b ≡ false)
or_false true b h = absurd cc
or_false false b h = (refl, h)

inserted : (id : ℕ) (ids : List ℕ) → is_among id ids ≡ false → insert_row number_of id ids ≡ ids_with id ids
inserted id [] h = refl
inserted id (x ∷ xs) h =
    let both = or_false (nat_eq x id) (is_among id xs) h in
    elim (cases_Bool (nat_lt id x)) [
      | inl before ↦ rw before refl
      | inr behind ↦
          let other : nat_eq id x ≡ false = nat_eq_equiv.symm id x ∙ both.0 in
          rw (behind, other) (ap (λ (ys : List ℕ). x ∷ ys) (inserted id xs both.1))
    ]

new_is : (a b : Bool) → (if a then Again else (if b then New else Over)) ≡ New → (a ≡ false) × (b ≡ true)
new_is true b h = absurd cc
new_is false true h = (refl, refl)
new_is false false h = absurd cc

put_open : (id : ℕ) (ids : List ℕ) → answer_to id ids ≡ New → put_row number_of OPEN_LIMIT id ids ≡ ids_with id ids
put_open id ids h =
    let both = new_is (is_among id ids) (nat_lt (length ids) OPEN_LIMIT) h in
    let new : is_among id ids ≡ false = both.0 in
    let room : nat_lt (length ids) OPEN_LIMIT ≡ true = both.1 in
    elim (cases_Bool (has_row number_of id ids)) [
      | inl there ↦ rw there (inserted id ids new)
      | inr not_there ↦ rw (not_there, room) (inserted id ids new)
    ]

-- the session has it open
opened_face : (birth id : ℕ) (f : Face) (r : Records) (o : Option Session) → session_at birth r ≡ o → option_map face o ≡ Some f
    → face_at birth (changed_all (part_rows_of (Open id) o) r) ≡ Some (record f { inbound = put_row number_of OPEN_LIMIT id f.inbound })
opened_face birth id f r None e h = absurd cc
opened_face birth id f r (Some x) e h =
    let same : x.birth ≡ birth = found_key birth_of birth x r.sessions e in
    let it : face x ≡ f = cc in
    let new : Face → Face = λ g. record g { inbound = put_row number_of OPEN_LIMIT id g.inbound } in
    subst (λ (k : ℕ). option_map face (row_at birth_of birth (change_row birth_of k (with_open id) r.sessions)) ≡ Some (new f)) (sym same)
    (ap (option_map face) (change_row-here birth_of birth (with_open id) x r.sessions (λ y. refl) e) ∙ ap (λ (g : Face). Some (new g)) it)

-- ---- a line is dropped

-- an act that does nothing may be left out
pub act_none : (act : Act) (rest : List Act) (b : Broker) → act b ≡ [] → series (act ∷ rest) b ≡ series rest b
act_none act rest b e = ap (λ (ds : List Deed). ds ++ series rest (after_all ds b)) e

of_session_none : (birth : ℕ) (f : Session → Act) (x : Session) (b : Broker) → session_at birth b.records ≡ Some x → f x b ≡ [] → of_session birth f b ≡ []
of_session_none birth f x b e h = ap (λ (o : Option Session). with_session o f b) e ∙ h

only_none : (t : Bool) (act : Act) (b : Broker) → t ≡ false → only_if t act b ≡ []
only_none true act b h = absurd cc
only_none false act b h = refl

-- no Will is never due
pub no_will_due : (closed : Option ℕ) (expiry now : ℕ) → is_due now (will_due closed expiry None) ≡ false
no_will_due None expiry now = refl
no_will_due (Some moment) expiry now = refl

-- a session that never expires never ends
pub no_end_due : (closed : Option ℕ) (now : ℕ) → is_due now (end_due closed never) ≡ false
no_end_due None now = refl
no_end_due (Some moment) now = refl

-- a session without a Will that doesn't expire has nothing to settle
pub settles_nothing : (env : Env) (birth : ℕ) (x : Session) (b : Broker) → session_at birth b.records ≡ Some x → x.will ≡ None → x.expiry ≡ never → settle env birth b ≡ []
settles_nothing env birth x b e no_will no_end =
    let will : has_due_will b.now x ≡ false = ap (λ (w : Option Will). is_due b.now (will_due x.closed x.expiry w)) no_will ∙ no_will_due x.closed x.expiry b.now in
    let ends : has_due_end b.now x ≡ false = ap (λ (k : ℕ). is_due b.now (end_due x.closed k)) no_end ∙ no_end_due x.closed b.now in
    let first : Act = of_session birth (λ s. only_if (has_due_will b.now s) (publish_will env s)) in
    let second : Act = of_session birth (λ s. only_if (has_due_end b.now s) (always (end_session s))) in
    act_none first (second ∷ []) b (of_session_none birth (λ s. only_if (has_due_will b.now s) (publish_will env s)) x b e (only_none (has_due_will b.now x) (publish_will env x) b will))
    ∙ act_none second [] b (of_session_none birth (λ s. only_if (has_due_end b.now s) (always (end_session s))) x b e (only_none (has_due_end b.now x) (always (end_session x)) b ends))

abbrev pub closed_row : ℕ → Session → Columns
closed_row now s = record (columns_of s) { closed = Some now }

-- the session after it was closed
pub closed_at : (now : ℕ) (s : Session) (r : Records) → session_at s.birth r ≡ Some s → session_at s.birth (changed_all (part_rows_of (Close now) (Some s)) r) ≡ Some (with_columns (closed_row now s) s)
closed_at now s r at = change_row-here birth_of s.birth (with_columns (closed_row now s)) s r.sessions (λ y. refl) at

-- a session that was closed is found closed
pub closed_after : (now : ℕ) (s : Session) (b : Broker) → session_at s.birth b.records ≡ Some s
    → session_at s.birth (after (At (whose s) (Close now)) b).records ≡ Some (with_columns (closed_row now s) s)
closed_after now s b at =
    ap (λ (o : Option Session). session_at s.birth (changed_all (part_rows_of (Close now) o) b.records)) at ∙ closed_at now s b.records at

-- closing it does nothing else
pub session_closes : (env : Env) (s : Session) (b : Broker) → session_at s.birth b.records ≡ Some s → s.will ≡ None → s.expiry ≡ never
    → close_session env true s b ≡ At (whose s) (Close b.now) ∷ []
session_closes env s b at no_will no_end =
    let c = after (At (whose s) (Close b.now)) b in
    ap (λ (ds : List Deed). At (whose s) (Close b.now) ∷ (ds ++ []))
    (settles_nothing env s.birth (with_columns (closed_row b.now s) s) c (closed_after b.now s b at) no_will no_end)

abbrev pub dropped : ℕ → Line → Session → ℕ → List Deed
dropped code l s now = Send l.number (disconnect code) ∷ Gone l.number ∷ At (whose s) (Close now) ∷ []

-- dropping the publisher's line tells it, and closes its session
pub drop_is : (env : Env) (code : ℕ) (l : Line) (s : Session) (b : Broker) → session_at s.birth b.records ≡ Some s → l.session ≡ Some s.birth → s.will ≡ None → s.expiry ≡ never
    → drop_line env code l b ≡ dropped code l s b.now
drop_is env code l s b at on no_will no_end =
    let c = after (Gone l.number) (after (Send l.number (disconnect code)) b) in
    let inner : close_connected env true l.session c ≡ At (whose s) (Close b.now) ∷ [] =
    ap (λ (o : Option ℕ). close_connected env true o c) on
    ∙ (ap (λ (o : Option Session). with_session o (close_session env true) c) at ∙ session_closes env s c at no_will no_end) in
    ap (λ (ds : List Deed). Send l.number (disconnect code) ∷ ((Gone l.number ∷ (ds ++ [])) ++ [])) inner

-- behind the loss of a line nobody stands on it
pub line_none : (n : ℕ) (ls : List Line) → session_on n (filter (λ (l : Line). not (nat_eq l.number n)) ls) ≡ None
line_none n [] = refl
line_none n (l ∷ ls) = elim (cases_Bool (nat_eq l.number n)) [
  | inl goes ↦ rw goes (line_none n ls)
  | inr stays ↦ rw (stays, stays) (line_none n ls)
]

-- the line is closed with DISCONNECT, and the session keeps what it has
abbrev pub closed_face : ℕ → Face → Face
closed_face now f = record f { closed = Some now }

dropped_gives : (code : ℕ) (l : Line) (s : Session) (b : Broker) → session_at s.birth b.records ≡ Some s
    → Gives s.birth l.number (dropped code l s b.now) b (closed_face b.now (face s)) None (DISCONNECT code ∷ []) true []
dropped_gives code l s b at =
    let it : nat_eq l.number l.number ≡ true = nat_eq_equiv.refl l.number in
    record {
      face_is = ap (option_map face) (closed_after b.now s b at);
      line_is = line_none l.number b.lines;
      told_is = rw it refl;
      closes_is = rw it refl;
      numbers_is = refl;
      begun_is = refl;
      others = λ m other. rw other refl;
    }

-- and that is what a drop leaves
pub drop_gives : (env : Env) (code : ℕ) (l : Line) (s : Session) (b : Broker) → session_at s.birth b.records ≡ Some s → l.session ≡ Some s.birth → s.will ≡ None → s.expiry ≡ never
    → Gives s.birth l.number (drop_line env code l b) b (closed_face b.now (face s)) None (DISCONNECT code ∷ []) true []
drop_gives env code l s b at on no_will no_end =
    rw (drop_is env code l s b at on no_will no_end) (dropped_gives code l s b at)

-- ---- PUBLISH of QoS 2

-- the hop's choice: what routing says
abbrev pub choice_of : Option (List CopyTo) → Bool → Choice
choice_of None wanted = refuses
choice_of (Some ds) true = takes
choice_of (Some ds) false = takes_unheard

abbrev pub face_by : Verdict → ℕ → ℕ → Face → Face
face_by (accept code) id now f = record f { inbound = ids_by (accept code) id f.inbound }
face_by refuse id now f = f
face_by repeat id now f = f
face_by shut id now f = closed_face now f

abbrev pub on_by : Verdict → ℕ → Option (Option ℕ)
on_by (accept code) birth = Some (Some birth)
on_by refuse birth = Some (Some birth)
on_by repeat birth = Some (Some birth)
on_by shut birth = None

abbrev pub shuts : Verdict → Bool
shuts (accept code) = false
shuts refuse = false
shuts repeat = false
shuts shut = true

abbrev pub numbers_by : Verdict → ℕ → List ℕ
numbers_by (accept code) k = k ∷ []
numbers_by refuse k = []
numbers_by repeat k = []
numbers_by shut k = []

abbrev pub GivesBy : Verdict → ℕ → Line → Session → List Deed → Broker → Type 0
GivesBy v id l s ds b =
    Gives s.birth l.number ds b (face_by v id b.now (face s)) (on_by v s.birth) (answer_2 v id ∷ []) (shuts v) (numbers_by v (next_publication b.records))

abbrev pub twice : Bool → ℕ → Handing
twice dup id = delivery.ExactlyOnce dup id

-- an answer alone
answer_gives : (dup : Bool) (id code : ℕ) (l : Line) (s : Session) (b : Broker) → session_at s.birth b.records ≡ Some s → session_on l.number b.lines ≡ Some (Some s.birth)
    → Gives s.birth l.number (answer l.number (twice dup id) code) b (face s) (Some (Some s.birth)) (PUBREC id code ∷ []) false []
answer_gives dup id code l s b at on =
    let it : nat_eq l.number l.number ≡ true = nat_eq_equiv.refl l.number in
    record {
      face_is = ap (option_map face) at;
      line_is = on;
      told_is = rw it refl;
      closes_is = refl;
      numbers_is = refl;
      begun_is = refl;
      others = λ m other. refl;
    }

-- the identifier is opened, and the answer goes out
opening_gives : (dup : Bool) (id code : ℕ) (l : Line) (s : Session) (b : Broker) → answer_to id s.inbound ≡ New
    → face_at s.birth b.records ≡ Some (face s) → session_on l.number b.lines ≡ Some (Some s.birth)
    → Gives s.birth l.number (At (whose s) (Open id) ∷ answer l.number (twice dup id) code) b (record (face s) { inbound = open_after id s.inbound }) (Some (Some s.birth)) (PUBREC id code ∷ []) false []
opening_gives dup id code l s b new is on =
    let it : nat_eq l.number l.number ≡ true = nat_eq_equiv.refl l.number in
    let opened : put_row number_of OPEN_LIMIT id s.inbound ≡ open_after id s.inbound =
    put_open id s.inbound new ∙ sym (ap (λ (a : Published). ids_on a id s.inbound) new) in
    record {
      face_is = opened_face s.birth id (face s) b.records (session_at s.birth b.records) refl is ∙ ap (λ (ids : List ℕ). Some (record (face s) { inbound = ids })) opened;
      line_is = on;
      told_is = rw it refl;
      closes_is = refl;
      numbers_is = refl;
      begun_is = refl;
      others = λ m other. refl;
    }

-- accepted: the publication, whatever its copies, then the identifier and the answer
accepted_gives : (env : Env) (l : Line) (s : Session) (m : Message) (ds : List CopyTo) (wanted : Bool) (dup : Bool) (id : ℕ) (b : Broker)
    → session_at s.birth b.records ≡ Some s → session_on l.number b.lines ≡ Some (Some s.birth) → answer_to id s.inbound ≡ New
    → Gives s.birth l.number (Accept (next_publication b.records) FromClient m ∷ (copies_of env FromClient m ds b ++ (At (whose s) (Open id) ∷ answer l.number (twice dup id) (code_accepted wanted)))) b
    (record (face s) { inbound = open_after id s.inbound }) (Some (Some s.birth)) (PUBREC id (code_accepted wanted) ∷ []) false (next_publication b.records ∷ [])
accepted_gives env l s m ds wanted dup id b at on new =
    let first = Accept (next_publication b.records) FromClient m in
    let c = after first b in
    let copies = copies_of env FromClient m ds b in
    let q = λ (k : ℕ). quiet_copies s.birth k env FromClient m ds b in
    let still = calm s.birth l.number copies c (q l.number) in
    let face_there : face_at s.birth (after_all copies c).records ≡ Some (face s) = still.face_is ∙ ap (option_map face) at in
    let line_there : session_on l.number (after_all copies c).lines ≡ Some (Some s.birth) = still.line_is ∙ on in
    let g = quiet_then s.birth l.number copies (At (whose s) (Open id) ∷ answer l.number (twice dup id) (code_accepted wanted)) c _ _ _ _ _ q
    (opening_gives dup id (code_accepted wanted) l s (after_all copies c) new face_there line_there) in
    record {
      face_is = g.face_is;
      line_is = g.line_is;
      told_is = g.told_is;
      closes_is = g.closes_is;
      numbers_is = ap (λ (ks : List ℕ). next_publication b.records ∷ ks) g.numbers_is;
      begun_is = g.begun_is;
      others = g.others;
    }

-- the deeds of a new PUBLISH that is accepted
new_deeds : (env : Env) (l : Line) (s : Session) (p : Publication) (m : Message) (ds : List CopyTo) (wanted : Bool) (dup : Bool) (id : ℕ) (b : Broker)
    → p.delivery ≡ twice dup id → is_wanted env m b.records ≡ wanted
    → publish_new env l s p m (Some ds) b
    ≡ Accept (next_publication b.records) FromClient m ∷ (copies_of env FromClient m ds b ++ (At (whose s) (Open id) ∷ answer l.number (twice dup id) (code_accepted wanted)))
new_deeds env l s p m ds wanted dup id b is w =
    let first = Accept (next_publication b.records) FromClient m in
    let copies = copies_of env FromClient m ds b in
    ap (λ (d : Handing). (first ∷ copies) ++ (opens s d ++ (answer l.number d (code_accepted (is_wanted env m b.records)) ++ []))) is
    ∙ ap (λ (t : Bool). first ∷ (copies ++ (At (whose s) (Open id) ∷ answer l.number (twice dup id) (code_accepted t)))) w

new_gives : (env : Env) (l : Line) (s : Session) (p : Publication) (m : Message) (o : Option (List CopyTo)) (wanted : Bool) (dup : Bool) (id : ℕ) (b : Broker)
    → p.delivery ≡ twice dup id → is_wanted env m b.records ≡ wanted
    → session_at s.birth b.records ≡ Some s → session_on l.number b.lines ≡ Some (Some s.birth) → answer_to id s.inbound ≡ New
    → GivesBy (verdict_on New (choice_of o wanted)) id l s (publish_new env l s p m o b) b
new_gives env l s p m None wanted dup id b is w at on new =
    subst (λ (d : Handing). GivesBy refuse id l s (answer l.number d quota_exceeded) b) (sym is) (answer_gives dup id quota_exceeded l s b at on)
new_gives env l s p m (Some ds) true dup id b is w at on new =
    subst (λ (ds : List Deed). GivesBy (accept success) id l s ds b) (sym (new_deeds env l s p m ds true dup id b is w)) (accepted_gives env l s m ds true dup id b at on new)
new_gives env l s p m (Some ds) false dup id b is w at on new =
    subst (λ (ds : List Deed). GivesBy (accept no_matching_subscribers) id l s ds b) (sym (new_deeds env l s p m ds false dup id b is w)) (accepted_gives env l s m ds false dup id b at on new)

-- a PUBLISH of QoS 2 leaves what its verdict says
pub publish_gives : (st : Published) (env : Env) (l : Line) (s : Session) (p : Publication) (m : Message) (dup : Bool) (id : ℕ) (b : Broker)
    → p.delivery ≡ twice dup id → session_at s.birth b.records ≡ Some s → l.session ≡ Some s.birth → session_on l.number b.lines ≡ Some (Some s.birth)
    → s.will ≡ None → s.expiry ≡ never → answer_to id s.inbound ≡ st
    → GivesBy (verdict_on st (choice_of (accepted_copies env m b) (is_wanted env m b.records))) id l s (publish_by st env l s p m b) b
publish_gives New env l s p m dup id b is at on there no_will no_end st = new_gives env l s p m (accepted_copies env m b) (is_wanted env m b.records) dup id b is refl at there st
publish_gives Again env l s p m dup id b is at on there no_will no_end st =
    subst (λ (d : Handing). GivesBy repeat id l s (answer l.number d (code_again d)) b) (sym is) (answer_gives dup id success l s b at there)
publish_gives Over env l s p m dup id b is at on there no_will no_end st = drop_gives env receive_maximum_exceeded l s b at on no_will no_end

-- ---- PUBLISH whatever its topic: one that has no meaning drops the line

abbrev pub publication : Bool → ℕ → Bool → List ℕ → List ℕ → Publication
publication dup id retain topic payload = record { delivery = twice dup id; retain = retain; topic = topic; properties = []; payload = payload }

-- what a PUBLISH does
pub data Effect : Type 0 where
  chooses : (choice : Choice) → Effect
  drops : (code : ℕ) → Effect

abbrev pub Does : Effect → ℕ → Line → Session → List Deed → Broker → Type 0
Does (chooses choice) id l s ds b = GivesBy (verdict_on (answer_to id s.inbound) choice) id l s ds b
Does (drops code) id l s ds b = Gives s.birth l.number ds b (closed_face b.now (face s)) None (DISCONNECT code ∷ []) true []

means_does : (topic : List ℕ) (env : Env) (l : Line) (s : Session) (dup : Bool) (id : ℕ) (p : Publication) (b : Broker)
    → p.delivery ≡ twice dup id → session_at s.birth b.records ≡ Some s → l.session ≡ Some s.birth → session_on l.number b.lines ≡ Some (Some s.birth)
    → s.will ≡ None → s.expiry ≡ never
    → (e : Effect) × Does e id l s (publish_by (standing p.delivery s.inbound) env l s p (message_of s.client topic p) b ++ []) b
means_does topic env l s dup id p b is at on there no_will no_end =
    let m = message_of s.client topic p in
    let st : standing p.delivery s.inbound ≡ answer_to id s.inbound = ap (λ (d : Handing). standing d s.inbound) is in
    let g = publish_gives (answer_to id s.inbound) env l s p m dup id b is at on there no_will no_end refl in (
      chooses (choice_of (accepted_copies env m b) (is_wanted env m b.records)),
      subst (λ (ds : List Deed). GivesBy (verdict_on (answer_to id s.inbound) (choice_of (accepted_copies env m b) (is_wanted env m b.records))) id l s ds b)
          (sym (append-nil (publish_by (standing p.delivery s.inbound) env l s p m b) ∙ ap (λ (a : Published). publish_by a env l s p m b) st)) g,
    )

no_alias : (t : Bool) (line : ℕ) (topic : List ℕ) → sets_alias t None line topic ≡ []
no_alias true line topic = refl
no_alias false line topic = refl

meant_does : (x : Meaning) (env : Env) (l : Line) (s : Session) (dup : Bool) (id : ℕ) (retain : Bool) (topic payload : List ℕ) (b : Broker)
    → session_at s.birth b.records ≡ Some s → l.session ≡ Some s.birth → session_on l.number b.lines ≡ Some (Some s.birth)
    → s.will ≡ None → s.expiry ≡ never
    → (e : Effect) × Does e id l s (publish_meant x env l s (publication dup id retain topic payload) b) b
meant_does (Wrong code) env l s dup id retain topic payload b at on there no_will no_end = (drops code, drop_gives env code l s b at on no_will no_end)
meant_does (Means name) env l s dup id retain topic payload b at on there no_will no_end =
    let p = publication dup id retain topic payload in
    let m = message_of s.client name p in
    let d = means_does name env l s dup id p b refl at on there no_will no_end in
    let same : publish_meant (Means name) env l s p b ≡ publish_by (answer_to id s.inbound) env l s p m b ++ [] =
    ap (λ (first : List Deed). first ++ (publish_by (answer_to id s.inbound) env l s p m (after_all first b) ++ [])) (no_alias (is_empty topic) l.number name) in
    (d.0, subst (λ (ds : List Deed). Does d.0 id l s ds b) (sym same) d.1)

-- a publisher's own PUBLISH
pub publish_does : (env : Env) (l : Line) (s : Session) (dup : Bool) (id : ℕ) (retain : Bool) (topic payload : List ℕ) (b : Broker)
    → session_at s.birth b.records ≡ Some s → l.session ≡ Some s.birth → session_on l.number b.lines ≡ Some (Some s.birth)
    → s.will ≡ None → s.expiry ≡ never
    → (e : Effect) × Does e id l s (on_publish env l s (publication dup id retain topic payload) b) b
publish_does env l s dup id retain topic payload b at on there no_will no_end =
    let p = publication dup id retain topic payload in
    meant_does (meaning p l.aliases) env l s dup id retain topic payload b at on there no_will no_end

-- ---- PUBREL

ids_kept : (id : ℕ) (ids : List ℕ) → is_among id ids ≡ false → ids_without id ids ≡ ids
ids_kept id [] h = refl
ids_kept id (x ∷ xs) h =
    let both = or_false (nat_eq x id) (is_among id xs) h in
    rw both.0 (ap (λ (ys : List ℕ). x ∷ ys) (ids_kept id xs both.1))

released_face : (birth id : ℕ) (f : Face) (r : Records) (o : Option Session) → session_at birth r ≡ o → option_map face o ≡ Some f
    → face_at birth (changed_all (part_rows_of (Release id) o) r) ≡ Some (record f { inbound = ids_without id f.inbound })
released_face birth id f r None e h = absurd cc
released_face birth id f r (Some x) e h =
    let same : x.birth ≡ birth = found_key birth_of birth x r.sessions e in
    let it : face x ≡ f = cc in
    let new : Face → Face = λ g. record g { inbound = ids_without id g.inbound } in
    subst (λ (k : ℕ). option_map face (row_at birth_of birth (change_row birth_of k (without_open id) r.sessions)) ≡ Some (new f)) (sym same)
    (ap (option_map face) (change_row-here birth_of birth (without_open id) x r.sessions (λ y. refl) e) ∙ ap (λ (g : Face). Some (new g)) it)

known_is : (t : Bool) → (if t then Known else Unknown) ≡ Unknown → t ≡ false
known_is true h = absurd cc
known_is false h = refl

-- the identifier is closed, and the answer goes out
pubrel_by : (k : ReleaseAnswer) (l : Line) (s : Session) (id : ℕ) (b : Broker) → session_at s.birth b.records ≡ Some s → session_on l.number b.lines ≡ Some (Some s.birth)
    → answer_to_release id s.inbound ≡ k
    → Gives s.birth l.number (release_by k l s id) b (record (face s) { inbound = ids_without id s.inbound }) (Some (Some s.birth)) (answer_to_pubrel k id ∷ []) false []
pubrel_by Known l s id b at on is =
    let it : nat_eq l.number l.number ≡ true = nat_eq_equiv.refl l.number in
    record {
      face_is = released_face s.birth id (face s) b.records (session_at s.birth b.records) refl (ap (option_map face) at);
      line_is = on;
      told_is = rw it refl;
      closes_is = refl;
      numbers_is = refl;
      begun_is = refl;
      others = λ m other. refl;
    }
pubrel_by Unknown l s id b at on is =
    let it : nat_eq l.number l.number ≡ true = nat_eq_equiv.refl l.number in
    let kept : ids_without id s.inbound ≡ s.inbound = ids_kept id s.inbound (known_is (is_among id s.inbound) is) in
    record {
      face_is = ap (option_map face) at ∙ ap (λ (ids : List ℕ). Some (record (face s) { inbound = ids })) (sym kept);
      line_is = on;
      told_is = rw it refl;
      closes_is = refl;
      numbers_is = refl;
      begun_is = refl;
      others = λ m other. refl;
    }

-- a PUBREL closes its identifier, and is answered
pub pubrel_does : (l : Line) (s : Session) (id : ℕ) (b : Broker) → session_at s.birth b.records ≡ Some s → session_on l.number b.lines ≡ Some (Some s.birth)
    → Gives s.birth l.number (on_pubrel l s id) b (record (face s) { inbound = ids_without id s.inbound }) (Some (Some s.birth)) (answer_to_pubrel (answer_to_release id s.inbound) id ∷ []) false []
pubrel_does l s id b at on = pubrel_by (answer_to_release id s.inbound) l s id b at on refl
