-- The broker reads CONNECT without Clean Start on a receiver's line while its session stands: it is resumed there, and its
-- PUBRELs go out again. What the receiver sees of it is that event of its hop (MQTT 5.0, 3.1.2.4, 4.4).
use Rattle.std.proofs.Common.{◌≡◌, ℕ, zero, suc, Bool, true, false, cond, not, ◌||◌, List, [], ◌∷◌, ◌++◌, drop, map, Option, Some, None, nat_eq, nat_lt, refl, sym, ap, subst, ◌∙◌, append-nil, inl, inr}
use Rattle.std.specs.Prelude.{⊤, filter, filter_map, find, is_some, length, option_map}
use Rattle.std.specs.List.{AllByRecursion, starts_with}
use Rattle.std.proofs.lemmas.Bool.{cases_Bool, eqb-true}
use Rattle.std.proofs.lemmas.Cmp.{nat_eq_equiv}
use Rattle.mqtt_base.specs.Codes.{success}
use Rattle.mqtt_base.specs.declared.session.CopyId.{CopyId}
use Rattle.mqtt_packet.specs.declared.codec.packet.Packet.{Packet}
use Rattle.mqtt_packet.specs.declared.codec.packet.Packet.TheVariants.{Connect}
use Rattle.mqtt_packet.specs.declared.connect.connect.Connect.{Connect as Greeting}
use Rattle.mqtt_flow.specs.outbound.Outbound.{due_from, due_of, resumed_with, unsent}
use Rattle.mqtt_flow.specs.outbound.OutboundWorld.{Lot, World as Hop, all_packets, connects, past, queue_of, renewed, standing, start, step, to_broker, up_comes}
use Rattle.mqtt_flow.specs.outbound.Receiver.{Answer, Output, connack, connect, disconnect, pubrel, spared}
use Rattle.mqtt_flow.specs.declared.outbound.entry.Turn.{Turn}
use Rattle.mqtt_flow.specs.declared.outbound.entry.Turn.TheVariants as turns
use Rattle.mqtt_world_model.specs.model.Ends.{Back, Receiver, answers, taking, wire_back}
use Rattle.mqtt_world_model.specs.model.Hops.{IsKept, IsOnly, IsTaken, lines_left}
use Rattle.mqtt_world_model.specs.model.Lines.{Down, is_one_of, sent_to}
use Rattle.mqtt_world_model.specs.model.World.{taken_up}
use Rattle.mqtt_world_model.proofs.model_lemmas.connects.Connects.{greeted_line, heard_line_of, heard_on_line, left_by, left_leaves, named_taken, not_left, prepare_front, taken_at, taken_birth, taken_client, taken_from}
use Rattle.mqtt_world_model.proofs.model_lemmas.others.Names.{BeginNone, named_is, only_deeds}
use Rattle.mqtt_world_model.proofs.model_lemmas.own.OwnStep.{heard_of}
use Rattle.mqtt_world_model.proofs.model_lemmas.own.Publishes.{line_none}
use Rattle.mqtt_world_model.proofs.model_lemmas.others.Quiet.{line_gone, line_on, session_on}
use Rattle.mqtt_world_model.proofs.model_lemmas.seats.Seeing.{linked_of}
use Rattle.mqtt_records.specs.messages.Queue.{CopyRow}
use Rattle.mqtt_props.specs.Properties.{U16, U32}
use Rattle.mqtt_props.specs.declared.table.PropName.TheVariants.{ReceiveMaximum, SessionExpiryInterval}
use Rattle.mqtt_records.specs.state.Records.{changed_all}
use Rattle.mqtt_records.specs.state.Session.{auto, birth_of, columns_of, with_columns, with_will}
use Rattle.mqtt_records.specs.declared.state.records.Records.{Records}
use Rattle.mqtt_records.specs.declared.state.session.Columns.{Columns}
use Rattle.mqtt_records.specs.declared.state.session.Session.{Session}
use Rattle.mqtt_records.specs.lists.Order.{change_row, row_at}
use Rattle.mqtt_rules.proofs.step_lemmas.flight.FlightRows.{change_row-here}
use Rattle.mqtt_rules.proofs.step_lemmas.acts.Goods.{after_append}
use Rattle.mqtt_rules.specs.step.Closing.{never}
use Rattle.mqtt_rules.specs.step.Connect.{aliases_of, begin, clear, connack_properties, connect_by, joins, joins_after, of_client, on_connect, prepare, refusal, resume}
use Rattle.mqtt_rules.specs.step.Deeds.{At, Begin, Deed, Greet, Hear, On, Resume, Send, after, after_all, always, closing, line_after, on_line, only_if, output, part_rows_of, series, stored_after, whose, with_line}
use Rattle.mqtt_rules.specs.step.Outbound.{all_turn_deeds}
use Rattle.mqtt_records.specs.messages.PassedOn.{property}
use Rattle.mqtt_rules.specs.step.Packets as packets_of
use Rattle.mqtt_rules.specs.step.State.{Line as BrokerLine, Broker, Env, MemberChoice, is_of, line_at, line_of, queue_on, session_at, session_named}
use Rattle.mqtt_rules.specs.step.Step.{Call, Input, at_moment, deeds, env_of, on_packet, stepped}
use Rattle.mqtt_rules.specs.declared.step.Capacity.{Capacity}
use Rattle.mqtt_world_laws.specs.receiver.Calls.{IsOnlyAt, IsResuming}
use Rattle.mqtt_world_laws.specs.receiver.Entering.{AreKnown, Receives}
use Rattle.mqtt_world_laws.specs.receiver.Handing.{IsRun, RunsOn, after_answer, reads_answer}
use Rattle.mqtt_world_laws.specs.receiver.Seen.{AreQueued, Numbering, StandOn, answered, heard_in, lot_on, seen, still_standing, went_in}
use Rattle.mqtt_world_laws.specs.receiver.Tags.{AreNumbered, AreTagged, IsTagged, id_of}
use Rattle.mqtt_world_laws.proofs.receiver_lemmas.own.Answering.{IsAsideOf, its_went}
use Rattle.mqtt_world_laws.proofs.receiver_lemmas.others.Calling.{AreInside, Makes, called_queue, called_seen, called_tags, hop_called, inside_begins, inside_closes, inside_turns}
use Rattle.mqtt_world_laws.proofs.receiver_lemmas.queue.Known.{receives_after}
use Rattle.mqtt_world_laws.proofs.receiver_lemmas.own.OldAnswers.{aside_lines, untold}
use Rattle.mqtt_world_laws.proofs.receiver_lemmas.queue.Pumps.{down_first, its_session}
use Rattle.mqtt_world_laws.proofs.receiver_lemmas.connects.Refusals.{run_append}
use Rattle.mqtt_world_laws.proofs.receiver_lemmas.queue.Turns.{renewed_lots, same_entries}

-- ---- copies on a new connection

-- the copies that stand on a new connection are those that stood
pub still_renewed : (copies : List Lot) → still_standing (map renewed copies) ≡ map renewed (still_standing copies)
still_renewed [] = refl
still_renewed (standing e m ∷ ls) = ap (λ (xs : List Lot). standing (unsent e) m ∷ xs) (still_renewed ls)
still_renewed (past ending e m ∷ ls) = still_renewed ls

-- and none of them was sent on it
pub renewed_standing : (copies : List Lot) (queue : List CopyRow) (o : Option (List ℕ)) → StandOn copies queue o → still_standing (map renewed copies) ≡ map (lot_on []) queue
renewed_standing copies queue None h = still_renewed copies ∙ h
renewed_standing copies queue (Some went) h = still_renewed copies ∙ (ap (map renewed) h ∙ renewed_lots went queue)

-- they are the same copies
pub renewed_ids : (copies : List Lot) → map id_of (map renewed copies) ≡ map id_of copies
renewed_ids [] = refl
renewed_ids (standing e m ∷ ls) = ap (λ (cs : List CopyId). e.copy.id ∷ cs) (renewed_ids ls)
renewed_ids (past ending e m ∷ ls) = ap (λ (cs : List CopyId). e.copy.id ∷ cs) (renewed_ids ls)

dues_renewed : (ds : _) (copies : List Lot) → due_from ds (queue_of (map renewed copies)) ≡ due_from ds (queue_of copies)
dues_renewed ds [] = refl
dues_renewed ds (standing e m ∷ ls) = dues_renewed (due_of e.phase ds) ls
dues_renewed ds (past ending e m ∷ ls) = dues_renewed ds ls

resumed_same : (copies : List Lot) → resumed_with (queue_of (map renewed copies)) ≡ resumed_with (queue_of copies)
resumed_same copies = rw (dues_renewed [] copies) refl

-- ---- lines

-- none but these has the session
pub only_heard : (ns : List ℕ) (birth now n : ℕ) (ls : List BrokerLine) → AllByRecursion (IsOnlyAt ns birth) ls → AllByRecursion (IsOnlyAt ns birth) (on_line now n Hear ls)
only_heard ns birth now n [] h = tt
only_heard ns birth now n (l ∷ ls) h = by (nat_eq l.number n) (only_heard ns birth now n ls h.1)
  where
    by : (here : Bool) → AllByRecursion (IsOnlyAt ns birth) (on_line now n Hear ls) → AllByRecursion (IsOnlyAt ns birth) (cond here (line_after now Hear l ∷ ls) (l ∷ on_line now n Hear ls))
    by true g = (h.0, h.1)
    by false g = (h.0, g)

abbrev pub lines_without : Option BrokerLine → List BrokerLine → List BrokerLine
lines_without None ls = ls
lines_without (Some x) ls = filter (λ (l : BrokerLine). not (nat_eq l.number x.number)) ls

-- a takeover drops the line that the session stood on
pub left_lines : (o : Option BrokerLine) (s : Session) (b : Broker) → (after_all (left_by o s b.now) b).lines ≡ lines_without o b.lines
left_lines None s b = refl
left_lines (Some x) s b = refl

abbrev pub IsOffIt : ℕ → BrokerLine → Type 0
IsOffIt birth l = is_of l.session birth ≡ false

-- and those go
pub none_has : (o : Option BrokerLine) (birth : ℕ) (ls : List BrokerLine) → AllByRecursion (IsOnlyAt (lines_left o) birth) ls → AllByRecursion (IsOffIt birth) (lines_without o ls)
none_has None birth [] h = tt
none_has None birth (l ∷ ls) h = (first (is_of l.session birth) refl, none_has None birth ls h.1)
  where
    first : (t : Bool) → is_of l.session birth ≡ t → is_of l.session birth ≡ false
    first false e = e
    first true e = let clash : false ≡ true = h.0 (its_session l.session birth e) in absurd cc
none_has (Some x) birth [] h = tt
none_has (Some x) birth (l ∷ ls) h = elim (cases_Bool (nat_eq l.number x.number)) [
  | inl goes ↦ rw goes (none_has (Some x) birth ls h.1)
  | inr stays ↦ rw stays (first stays (is_of l.session birth) refl, none_has (Some x) birth ls h.1)
]
  where
    here : (t : Bool) → (t || false) ≡ true → t ≡ true
    here true e = refl
    here false e = e

    first : nat_eq l.number x.number ≡ false → (t : Bool) → is_of l.session birth ≡ t → is_of l.session birth ≡ false
    first stays false e = e
    first stays true e =
        let same : x.number ≡ l.number = eqb-true x.number l.number (here (nat_eq x.number l.number) (h.0 (its_session l.session birth e))) in
        let yes : nat_eq l.number x.number ≡ true = ap (nat_eq l.number) same ∙ nat_eq_equiv.refl l.number in
        let clash : true ≡ false = sym yes ∙ stays in
        absurd cc

abbrev pub went_at : ℕ → List BrokerLine → Option (List ℕ)
went_at n ls = option_map (λ (l : BrokerLine). l.went) (find (λ (l : BrokerLine). nat_eq l.number n) ls)

-- hearing a line keeps what went out on it
pub went_at_heard : (now n : ℕ) (ls : List BrokerLine) → went_at n (on_line now n Hear ls) ≡ went_at n ls
went_at_heard now n [] = refl
went_at_heard now n (l ∷ ls) = elim (cases_Bool (nat_eq l.number n)) [
  | inl here ↦ rw (here, here) refl
  | inr further ↦ rw (further, further) (went_at_heard now n ls)
]

-- so does the drop of another line
pub went_at_left : (o : Option BrokerLine) (birth n : ℕ) (ls : List BrokerLine) → IsTaken o birth n → went_at n (lines_without o ls) ≡ went_at n ls
went_at_left None birth n ls t = refl
went_at_left (Some x) birth n ls t = all ls
  where
    other : nat_eq x.number n ≡ false
    other = t.another x refl

    all : (xs : List BrokerLine) → went_at n (lines_without (Some x) xs) ≡ went_at n xs
    all [] = refl
    all (l ∷ xs) = elim (cases_Bool (nat_eq l.number x.number)) [
      | inl goes ↦
          let not_n : nat_eq l.number n ≡ false = ap (λ (k : ℕ). nat_eq k n) (eqb-true l.number x.number goes) ∙ other in
          rw (goes, not_n) (all xs)
      | inr stays ↦ elim (cases_Bool (nat_eq l.number n)) [
        | inl here ↦ rw (stays, here) refl
        | inr further ↦ rw (stays, further) (all xs)
      ]
    ]

-- the session is on its new line alone, on which nothing went out
pub greeted_went : (now n birth keep_alive window largest most : ℕ) (ls : List BrokerLine) → AllByRecursion (IsOffIt birth) ls → went_at n ls ≡ Some []
    → its_went birth (on_line now n (Greet birth keep_alive window largest most) ls) ≡ Some []
greeted_went now n birth keep_alive window largest most [] off is = absurd cc
greeted_went now n birth keep_alive window largest most (l ∷ ls) off is = elim (cases_Bool (nat_eq l.number n)) [
  | inl here ↦
      let none : Some l.went ≡ Some [] = rw here at is in
      let its : nat_eq birth birth ≡ true = nat_eq_equiv.refl birth in
      rw (here, its) none
  | inr further ↦ let other = off.0 in rw (further, other) (greeted_went now n birth keep_alive window largest most ls off.1 (rw further at is))
]

-- ---- PUBRELs, again

abbrev IsRepeat : Turn → Type 0
IsRepeat (turns.Repeat i) = ⊤
IsRepeat t = ⊥

all_repeats : {X : Type 0} (xs : List X) (id : X → ℕ) → AllByRecursion IsRepeat (map (λ x. turns.Repeat (id x)) xs)
all_repeats [] id = tt
all_repeats (x ∷ xs) id = (tt, all_repeats xs id)

-- the broker but for what its clients were told of topics
abbrev but_told : Broker → Broker
but_told b = record b { tellings = [] }

module _ (number : Numbering) (ids : List CopyId) (now n : ℕ) (x : Session) where
  repeats_after : (ts : List Turn) (b : Broker) → AllByRecursion IsRepeat ts → but_told (after_all (all_turn_deeds now n x ts) b) ≡ but_told b
  repeats_after [] b h = refl
  repeats_after (turns.Repeat i ∷ ts) b h = repeats_after ts (after (Send n (packets_of.pubrel i success)) b) h.1
  repeats_after (turns.Send place i ∷ ts) b h = absurd h.0
  repeats_after (turns.Resend place i ∷ ts) b h = absurd h.0
  repeats_after (turns.Release place i order ∷ ts) b h = absurd h.0
  repeats_after (turns.Outgrow place i order ∷ ts) b h = absurd h.0
  repeats_after (turns.Unknown i ∷ ts) b h = absurd h.0
  repeats_after (turns.Leave place ending ∷ ts) b h = absurd h.0

  repeats_heard : (ts : List Turn) (lots : List Lot) (new : Broker) → AllByRecursion IsRepeat ts
      → filter_map (heard_in number) (sent_to (Some n) new (filter_map output (all_turn_deeds now n x ts))) ≡ all_packets ts lots
  repeats_heard [] lots new h = refl
  repeats_heard (turns.Repeat i ∷ ts) lots new h =
      ap (filter_map (heard_in number)) (down_first n new (packets_of.pubrel i success) (filter_map output (all_turn_deeds now n x ts)))
      ∙ ap (λ (ps : List Output). pubrel i success ∷ ps) (repeats_heard ts lots new h.1)
  repeats_heard (turns.Send place i ∷ ts) lots new h = absurd h.0
  repeats_heard (turns.Resend place i ∷ ts) lots new h = absurd h.0
  repeats_heard (turns.Release place i order ∷ ts) lots new h = absurd h.0
  repeats_heard (turns.Outgrow place i order ∷ ts) lots new h = absurd h.0
  repeats_heard (turns.Unknown i ∷ ts) lots new h = absurd h.0
  repeats_heard (turns.Leave place ending ∷ ts) lots new h = absurd h.0

  repeats_tagged : (ts : List Turn) (new : Broker) → AllByRecursion IsRepeat ts → AllByRecursion (IsTagged number ids) (sent_to (Some n) new (filter_map output (all_turn_deeds now n x ts)))
  repeats_tagged [] new h = tt
  repeats_tagged (turns.Repeat i ∷ ts) new h =
      subst (AllByRecursion (IsTagged number ids)) (sym (down_first n new (packets_of.pubrel i success) (filter_map output (all_turn_deeds now n x ts)))) (tt, repeats_tagged ts new h.1)
  repeats_tagged (turns.Send place i ∷ ts) new h = absurd h.0
  repeats_tagged (turns.Resend place i ∷ ts) new h = absurd h.0
  repeats_tagged (turns.Release place i order ∷ ts) new h = absurd h.0
  repeats_tagged (turns.Outgrow place i order ∷ ts) new h = absurd h.0
  repeats_tagged (turns.Unknown i ∷ ts) new h = absurd h.0
  repeats_tagged (turns.Leave place ending ∷ ts) new h = absurd h.0

-- ---- the deeds of the CONNECT

abbrev pub greeting : Bool → List ℕ → ℕ → ℕ → Greeting
greeting clean client window aliases = record {
  clean_start = clean;
  keep_alive = 0;
  properties = property SessionExpiryInterval (U32 0xffffffff) ∷ property ReceiveMaximum (U16 window) ∷ taking aliases;
  client_identifier = client;
  will = None;
  user_name = None;
  password = None;
}

-- the most topics that it is told by aliases
abbrev pub granted : ℕ → ℕ
granted aliases = aliases_of (greeting false [] 0 aliases)

-- the deeds of a resumption, and of a session that begins, as such a CONNECT asks for them, whatever aliases it takes
abbrev pub resuming : BrokerLine → ℕ → ℕ → ℕ → Session → List Deed
resuming l window aliases now x =
    At (whose x) (Resume never None)
    ∷ On l.number (Greet x.birth 0 window 0xffffffff (granted aliases))
    ∷ Send l.number (packets_of.connack true success (connack_properties false []))
    ∷ all_turn_deeds now l.number x (resumed_with (queue_on [] x))

abbrev pub new_row : ℕ → List ℕ → Columns
new_row birth client = record { birth = birth; client = client; expiry = never; closed = None }

abbrev pub beginning : BrokerLine → ℕ → ℕ → List ℕ → ℕ → List Deed
beginning l window aliases client birth =
    Begin (new_row birth client) None
    ∷ On l.number (Greet birth 0 window 0xffffffff (granted aliases))
    ∷ Send l.number (packets_of.connack false success (connack_properties false client))
    ∷ []

-- a receiver whose session stands resumes it, and is granted as many
resume_is : (l : BrokerLine) (clean : Bool) (client : List ℕ) (window aliases now : ℕ) (x : Session) → resume l (greeting clean client window aliases) now x ≡ resuming l window aliases now x
resume_is l clean client window zero now x = refl
resume_is l clean client window (suc more) now x = refl

-- a receiver without a session begins one, and is granted as many aliases as it takes, ten at most
pub begin_is : (l : BrokerLine) (clean : Bool) (client : List ℕ) (window aliases birth : ℕ) → begin l (greeting clean client window aliases) false client birth ≡ beginning l window aliases client birth
begin_is l clean client window zero birth = refl
begin_is l clean client window (suc more) birth = refl

-- a receiver's CONNECT is not refused for its name
pub refused_not : (clean : Bool) (client : List ℕ) (window aliases : ℕ) (r : Records) → nat_lt 64 (length client) ≡ false → starts_with nat_eq client auto ≡ false → refusal (greeting clean client window aliases) r ≡ None
refused_not clean client window zero r short plain = rw (short, plain) refl
refused_not clean client window (suc more) r short plain = rw (short, plain) refl

-- a CONNECT to a session that stands is the takeover and the resumption
pub connect_is : (o : Option BrokerLine) (env : Env) (l : BrokerLine) (client : List ℕ) (window aliases : ℕ) (s : Session) (b : Broker) → line_of s.birth b ≡ o → IsTaken o s.birth l.number → IsKept client s b
    → on_connect env l (greeting false client window aliases) b ≡ left_by o s b.now ++ resuming l window aliases b.now (taken_from o b.now s)
connect_is o env l client window aliases s b e t k =
    let c = greeting false client window aliases in
    let prepared : prepare env c b ≡ left_by o s b.now =
    prepare_front o env client s l.number b (only_if false (of_client client (clear env)) ∷ []) e t k ∙ append-nil (left_by o s b.now) in
    ap (λ (z : Option ℕ). connect_by z env l c b) (refused_not false client window aliases b.records k.short k.plain)
    ∙ (ap (λ (ds : List Deed). joins_after env l c b.now ds (after_all ds b).records) prepared
    ∙ (ap (λ (z : Option Session). joins env l c b.now (left_by o s b.now) (after_all (left_by o s b.now) b).records z) (named_taken o client s b k)
    ∙ ap (λ (ds : List Deed). left_by o s b.now ++ ds) (resume_is l false client window aliases b.now (taken_from o b.now s))))

-- the call of a CONNECT is to hear it and to connect
pub call_is : (limits : Capacity) (choice : MemberChoice) (now : ℕ) (clean : Bool) (client : List ℕ) (window aliases : ℕ) (l : BrokerLine) (b : Broker) → line_at l.number b ≡ Some l → l.session ≡ None
    → deeds limits choice now (Input l.number (Connect (greeting clean client window aliases))) b
    ≡ On l.number Hear ∷ (on_connect (env_of limits choice b) l (greeting clean client window aliases) (heard_of now l.number b) ++ [])
call_is limits choice now clean client window aliases l b line waits =
    let env = env_of limits choice b in
    let packet = Connect (greeting clean client window aliases) in
    ap (λ (o : Option BrokerLine). with_line o (λ (x : BrokerLine). series (always (On l.number Hear ∷ []) ∷ on_packet env x packet x.session ∷ [])) (at_moment now b)) line
    ∙ ap (λ (o : Option ℕ). On l.number Hear ∷ (on_packet env l packet o (heard_of now l.number b) ++ [])) waits

taken_queue : (o : Option BrokerLine) (now : ℕ) (s : Session) → (taken_from o now s).queue ≡ s.queue
taken_queue None now s = refl
taken_queue (Some l) now s = refl

-- ---- what is told and closed if the session was taken over

-- what a takeover tells goes to the old line
pub left_untold : (o : Option BrokerLine) (s : Session) (now n : ℕ) (new : Broker) (ds : List Deed) → IsTaken o s.birth n
    → sent_to (Some n) new (filter_map output (left_by o s now ++ ds)) ≡ sent_to (Some n) new (filter_map output ds)
left_untold None s now n new ds t = refl
left_untold (Some x) s now n new ds t = let other = t.another x refl in rw other refl

-- and it closes that one alone
pub left_closes : (o : Option BrokerLine) (s : Session) (now : ℕ) (ds : List Deed) → filter_map closing ds ≡ [] → filter_map closing (left_by o s now ++ ds) ≡ lines_left o
left_closes None s now ds h = h
left_closes (Some x) s now ds h = ap (λ (ns : List ℕ). x.number ∷ ns) h

left_begins : (client : List ℕ) (birth : ℕ) (o : Option BrokerLine) (s : Session) (now : ℕ) (ds : List Deed) → BeginNone client birth ds → BeginNone client birth (left_by o s now ++ ds)
left_begins client birth None s now ds h = h
left_begins client birth (Some x) s now ds h = (tt, (tt, (tt, h)))

-- the session after it
abbrev resumed_row : Session → Columns
resumed_row x = record (columns_of x) { expiry = never; closed = None }

session_resumed : (x : Session) (r : Records) → session_at x.birth r ≡ Some x
    → session_at x.birth (stored_after (At (whose x) (Resume never None)) r) ≡ Some (with_will None (with_columns (resumed_row x) x))
session_resumed x r at =
    let set : List Session = change_row birth_of x.birth (with_columns (resumed_row x)) r.sessions in
    let first : row_at birth_of x.birth set ≡ Some (with_columns (resumed_row x) x) = change_row-here birth_of x.birth (with_columns (resumed_row x)) x r.sessions (λ y. refl) at in
    ap (λ (o : Option Session). session_at x.birth (changed_all (part_rows_of (Resume never None) o) r)) at
    ∙ change_row-here birth_of x.birth (with_will None) (with_columns (resumed_row x) x) set (λ y. refl) first

-- ---- another line, which is told and closed if it is the one that the session was taken from

-- what a CONNECT makes of another line: it is closed with DISCONNECT, or left alone, and no copy goes out there
pub record Beside (number : Numbering) (ids : List CopyId) (limits : Capacity) (choice : MemberChoice) (now : ℕ) (call : Call) (m : ℕ) (b : Broker) (shut : Bool) : Type 0 where
  pub told : filter_map (heard_in number) (sent_to (Some m) (stepped limits choice now call b) (filter_map output (deeds limits choice now call b))) ≡ cond shut (disconnect ∷ []) []
  pub tagged : AllByRecursion (IsTagged number ids) (sent_to (Some m) (stepped limits choice now call b) (filter_map output (deeds limits choice now call b)))
  pub line_is : session_on m (after_all (deeds limits choice now call b) (at_moment now b)).lines ≡ cond shut None (session_on m b.lines)

left_told : (number : Numbering) (o : Option BrokerLine) (s : Session) (now m : ℕ) (new : Broker) (ds : List Deed) → sent_to (Some m) new (filter_map output ds) ≡ []
    → filter_map (heard_in number) (sent_to (Some m) new (filter_map output (left_by o s now ++ ds))) ≡ cond (is_one_of (Some m) (lines_left o)) (disconnect ∷ []) []
left_told number None s now m new ds none = ap (filter_map (heard_in number)) none
left_told number (Some x) s now m new ds none = elim (cases_Bool (nat_eq x.number m)) [
  | inl here ↦ rw here (ap (λ (ps : List Down). disconnect ∷ filter_map (heard_in number) ps) none)
  | inr other ↦ rw other (ap (filter_map (heard_in number)) none)
]

left_tagged : (number : Numbering) (ids : List CopyId) (o : Option BrokerLine) (s : Session) (now m : ℕ) (new : Broker) (ds : List Deed) → sent_to (Some m) new (filter_map output ds) ≡ []
    → AllByRecursion (IsTagged number ids) (sent_to (Some m) new (filter_map output (left_by o s now ++ ds)))
left_tagged number ids None s now m new ds none = subst (AllByRecursion (IsTagged number ids)) (sym none) tt
left_tagged number ids (Some x) s now m new ds none = elim (cases_Bool (nat_eq x.number m)) [
  | inl here ↦ rw here (tt, subst (AllByRecursion (IsTagged number ids)) (sym none) tt)
  | inr other ↦ rw other (subst (AllByRecursion (IsTagged number ids)) (sym none) tt)
]

left_on : (o : Option BrokerLine) (s : Session) (m : ℕ) (b : Broker) → session_on m (after_all (left_by o s b.now) b).lines ≡ cond (is_one_of (Some m) (lines_left o)) None (session_on m b.lines)
left_on None s m b = refl
left_on (Some x) s m b = elim (cases_Bool (nat_eq x.number m)) [
  | inl here ↦ rw here (ap (λ (k : ℕ). session_on k (after_all (left_by (Some x) s b.now) b).lines) (sym (eqb-true x.number m here)) ∙ line_none x.number b.lines)
  | inr other ↦ rw other (line_gone m x.number b.lines other)
]

-- it is so if the session is taken over first, and nothing else is about that line
pub left_beside : (number : Numbering) (ids : List CopyId) (limits : Capacity) (choice : MemberChoice) (now : ℕ) (call : Call) (n : ℕ) (o : Option BrokerLine) (s : Session) (rest : List Deed) (m : ℕ) (b : Broker) (shut : Bool)
    → deeds limits choice now call b ≡ On n Hear ∷ (left_by o s (heard_of now n b).now ++ rest) → AllByRecursion (IsAsideOf m) rest → is_one_of (Some m) (lines_left o) ≡ shut
    → Beside number ids limits choice now call m b shut
left_beside number ids limits choice now call n o s rest m b shut is aside alike =
    let first = at_moment now b in
    let c = heard_of now n b in
    let new = stepped limits choice now call b in
    let all : List Deed = On n Hear ∷ (left_by o s c.now ++ rest) in
    let none = untold m new rest aside in
    let on = is_one_of (Some m) (lines_left o) in
    let told = left_told number o s c.now m new rest none.told in
    let tags = left_tagged number ids o s c.now m new rest none.told in
    let lines : session_on m (after_all all first).lines ≡ cond on None (session_on m b.lines) =
    ap (λ (d : Broker). session_on m d.lines) (after_append (left_by o s c.now) rest c)
    ∙ (aside_lines m rest (after_all (left_by o s c.now) c) aside
    ∙ (left_on o s m c ∙ ap (λ (z : Option (Option ℕ)). cond on None z) (line_on first.now m n Hear b.lines (inr tt)))) in
    subst (Beside number ids limits choice now call m b) alike (record {
      told = ap (λ (ds : List Deed). filter_map (heard_in number) (sent_to (Some m) new (filter_map output ds))) is ∙ told;
      tagged = subst (λ (ds : List Deed). AllByRecursion (IsTagged number ids) (sent_to (Some m) new (filter_map output ds))) (sym is) tags;
      line_is = ap (λ (ds : List Deed). session_on m (after_all ds first).lines) is ∙ lines;
    })

-- what the call makes of a session, wherever the receiver is
pub record Takes (number : Numbering) (copies2 : List Lot) (ids : List CopyId) (limits : Capacity) (choice : MemberChoice) (now : ℕ) (call : Call) (name : List ℕ) (n birth : ℕ) (ns : List ℕ) (b : Broker) : Type 0 where
  pub session : Session
  pub found : session_at birth (after_all (deeds limits choice now call b) (at_moment now b)).records ≡ Some session
  pub client : session.client ≡ name
  pub birth_is : session.birth ≡ birth
  pub only : IsOnly name birth (after_all (deeds limits choice now call b) (at_moment now b)).records
  pub queued : StandOn copies2 session.queue (its_went birth (after_all (deeds limits choice now call b) (at_moment now b)).lines)
  pub known : AreKnown session.queue (its_went birth (after_all (deeds limits choice now call b) (at_moment now b)).lines)
  pub closes : filter_map closing (deeds limits choice now call b) ≡ ns
  pub beside : (m : ℕ) → nat_eq n m ≡ false → Beside number ids limits choice now call m b (is_one_of (Some m) ns)

-- ---- the step

module _ (number : Numbering) (largest : ℕ) (copies : List Lot) (limits : Capacity) (choice : MemberChoice) (now : ℕ) (rest : List Back) (r : Receiver)
    (l : BrokerLine) (s : Session) (b : Broker) (queued : AreQueued copies (session_named r.client b.records) b) (a : IsResuming r l s b) (up : r.line.up ≡ answers (connect false) ∷ rest) where
  abbrev n : ℕ
  n = l.number

  abbrev packet : Packet
  packet = wire_back r.client r.window r.aliases (answers (connect false))

  abbrev q : Receiver
  q = record r { line = taken_up r.line }

  abbrev first : Broker
  first = at_moment now b

  abbrev heard_first : Broker
  heard_first = heard_of now n b

  abbrev new : Broker
  new = stepped limits choice now (Input n packet) b

  abbrev ids : List CopyId
  ids = map id_of copies

  abbrev copies2 : List Lot
  copies2 = map renewed copies

  kept : IsKept r.client s heard_first
  kept = record { session = a.kept.session; name = a.kept.name; only = a.kept.only; no_will = a.kept.no_will; no_end = a.kept.no_end; short = a.kept.short; plain = a.kept.plain }

  -- with the line that the session is connected on, as it stands when the line has been heard of
  module _ (o : Option BrokerLine) (its : line_of s.birth heard_first ≡ o) (t : IsTaken o s.birth n) (same : lines_left o ≡ lines_left (line_of s.birth b)) where
    abbrev x : Session
    x = taken_from o heard_first.now s

    abbrev ts : List Turn
    ts = resumed_with (queue_on [] x)

    are_repeats : AllByRecursion IsRepeat (resumed_with (queue_on [] x))
    are_repeats = all_repeats (due_from [] (queue_on [] x)) (λ d. d.identifier)

    abbrev resumes : List Deed
    resumes = resuming l r.window r.aliases heard_first.now x

    abbrev all_deeds : List Deed
    all_deeds = On n Hear ∷ (left_by o s heard_first.now ++ resumes)

    abbrev left : Broker
    left = after_all (left_by o s heard_first.now) heard_first

    abbrev end : Broker
    end = after (On n (Greet x.birth 0 r.window 0xffffffff (granted r.aliases))) (after (At (whose x) (Resume never None)) left)

    abbrev told_all : List Output
    told_all = connack true ∷ all_packets (resumed_with (queue_of copies)) copies

    deeds_are : deeds limits choice now (Input n packet) b ≡ all_deeds
    deeds_are =
        call_is limits choice now false r.client r.window r.aliases l b a.line a.waits
        ∙ (ap (λ (ds : List Deed). On n Hear ∷ ds) (append-nil (on_connect (env_of limits choice b) l (greeting false r.client r.window r.aliases) heard_first))
        ∙ ap (λ (ds : List Deed). On n Hear ∷ ds) (connect_is o (env_of limits choice b) l r.client r.window r.aliases s heard_first its t kept))

    ends : but_told (after_all all_deeds first) ≡ but_told end
    ends =
        ap but_told (after_append (left_by o s heard_first.now) resumes heard_first)
        ∙ repeats_after number ids heard_first.now n x ts (after (Send n (packets_of.connack true success (connack_properties false []))) end) are_repeats

    birth_same : x.birth ≡ s.birth
    birth_same = taken_birth o heard_first.now s

    found_end : session_at s.birth end.records ≡ Some (with_will None (with_columns (resumed_row x) x))
    found_end =
        let at : session_at x.birth left.records ≡ Some x = ap (λ (k : ℕ). session_at k left.records) birth_same ∙ taken_at o s heard_first a.kept.session in
        ap (λ (k : ℕ). session_at k end.records) (sym birth_same) ∙ session_resumed x left.records at

    waits_still : session_on n left.lines ≡ Some None
    waits_still =
        let on : session_on n heard_first.lines ≡ Some None = heard_on_line n first.now b.lines None (ap (option_map (λ (y : BrokerLine). y.session)) a.line ∙ ap Some a.waits) in
        (left_leaves o s n heard_first (Some None) t a.kept.session on).line_is

    went_end : its_went s.birth end.lines ≡ Some []
    went_end =
        let lines : left.lines ≡ lines_without o heard_first.lines = left_lines o s heard_first in
        let alone : AllByRecursion (IsOnlyAt (lines_left o) s.birth) heard_first.lines =
        subst (λ (ns : List ℕ). AllByRecursion (IsOnlyAt ns s.birth) heard_first.lines) (sym same) (only_heard (lines_left (line_of s.birth b)) s.birth first.now n b.lines a.alone) in
        let off : AllByRecursion (IsOffIt s.birth) left.lines = subst (AllByRecursion (IsOffIt s.birth)) (sym lines) (none_has o s.birth heard_first.lines alone) in
        let went : went_at n left.lines ≡ Some [] =
        ap (went_at n) lines ∙ (went_at_left o s.birth n heard_first.lines t ∙ (went_at_heard first.now n b.lines ∙ (ap (option_map (λ (y : BrokerLine). y.went)) a.line ∙ ap Some a.fresh))) in
        ap (λ (k : ℕ). its_went s.birth (on_line left.now n (Greet k 0 r.window 0xffffffff (granted r.aliases)) left.lines)) birth_same
        ∙ greeted_went left.now n s.birth 0 r.window 0xffffffff (granted r.aliases) left.lines off went

    went_ends : its_went s.birth (after_all (deeds limits choice now (Input n packet) b) first).lines ≡ Some []
    went_ends = ap (λ (ds : List Deed). its_went s.birth (after_all ds first).lines) deeds_are ∙ (ap (λ (d : Broker). its_went s.birth d.lines) ends ∙ went_end)

    on_end : session_on n end.lines ≡ Some (Some x.birth)
    on_end = greeted_line left.now n x.birth 0 r.window 0xffffffff (granted r.aliases) left.lines waits_still

    still_now : still_standing copies2 ≡ map (lot_on []) s.queue
    still_now =
        let named : session_named r.client b.records ≡ Some s = named_is r.client s.birth b.records s a.kept.only a.kept.session a.kept.name in
        renewed_standing copies s.queue (went_in s.birth b) (subst (λ (z : Option Session). AreQueued copies z b) named queued)

    turns_are : ts ≡ resumed_with (queue_of copies)
    turns_are =
        ap (λ (es : List CopyRow). resumed_with (queue_on [] (record s { queue = es }))) (taken_queue o heard_first.now s)
        ∙ (ap resumed_with (sym (same_entries copies2 [] s.queue still_now)) ∙ resumed_same copies)

    -- what goes out on the line
    inside : AreInside resumes
    inside = (tt, (tt, (tt, inside_turns heard_first.now n x ts)))

    told_is : filter_map (heard_in number) (sent_to (Some n) new (filter_map output all_deeds)) ≡ told_all
    told_is =
        let reps = filter_map output (all_turn_deeds heard_first.now n x ts) in
        ap (filter_map (heard_in number)) (left_untold o s heard_first.now n new resumes t)
        ∙ (ap (filter_map (heard_in number)) (down_first n new (packets_of.connack true success (connack_properties false [])) reps)
        ∙ (ap (λ (ps : List Output). connack true ∷ ps) (repeats_heard number ids heard_first.now n x ts copies new are_repeats)
        ∙ ap (λ (us : List Turn). connack true ∷ all_packets us copies) turns_are))

    tagged_are : AllByRecursion (IsTagged number ids) (sent_to (Some n) new (filter_map output all_deeds))
    tagged_are =
        let reps = filter_map output (all_turn_deeds heard_first.now n x ts) in
        subst (AllByRecursion (IsTagged number ids)) (sym (left_untold o s heard_first.now n new resumes t))
        (subst (AllByRecursion (IsTagged number ids)) (sym (down_first n new (packets_of.connack true success (connack_properties false [])) reps))
        (tt, repeats_tagged number ids heard_first.now n x ts new are_repeats))

    closes_are : filter_map closing all_deeds ≡ lines_left (line_of s.birth b)
    closes_are = left_closes o s heard_first.now resumes (inside_closes resumes inside) ∙ same

    abbrev shut_old : Bool
    shut_old = is_one_of r.line.old_number (lines_left (line_of s.birth b))

    makes : Makes number copies2 ids limits choice now (Input n packet) q n s.birth b told_all false shut_old
    makes = record {
      number_is = a.number;
      session = with_will None (with_columns (resumed_row x) x);
      found = ap (λ (ds : List Deed). session_at s.birth (after_all ds first).records) deeds_are ∙ (ap (λ (d : Broker). session_at s.birth d.records) ends ∙ found_end);
      client = taken_client o heard_first.now s ∙ a.kept.name;
      birth_is = birth_same;
      only = subst (λ (ds : List Deed). IsOnly r.client s.birth (after_all ds first).records) (sym deeds_are)
          (only_deeds r.client s.birth all_deeds first (tt, left_begins r.client s.birth o s heard_first.now resumes (inside_begins r.client s.birth resumes inside)) a.kept.only);
      queued =
          subst (λ (z : Option (List ℕ)). StandOn copies2 x.queue z) (sym went_ends) (still_now ∙ ap (map (lot_on [])) (sym (taken_queue o heard_first.now s)));
      linked = ap (λ (ds : List Deed). linked_of (session_on n (after_all ds first).lines)) deeds_are ∙ (ap (λ (d : Broker). linked_of (session_on n d.lines)) ends ∙ ap linked_of on_end);
      heard = ap (λ (ds : List Deed). filter_map (heard_in number) (sent_to (Some n) new (filter_map output ds))) deeds_are ∙ told_is;
      tagged = subst (λ (ds : List Deed). AllByRecursion (IsTagged number ids) (sent_to (Some n) new (filter_map output ds))) (sym deeds_are) tagged_are;
      closes = ap (λ (ds : List Deed). is_one_of (Some n) (filter_map closing ds)) deeds_are ∙ (ap (is_one_of (Some n)) closes_are ∙ not_left (line_of s.birth b) s.birth n a.taken);
      closes_old = ap (λ (ds : List Deed). is_one_of r.line.old_number (filter_map closing ds)) deeds_are ∙ ap (is_one_of r.line.old_number) closes_are;
    }

    hop_resumes : hop_called number copies2 ids limits choice now (Input n packet) q n s.birth b told_all false shut_old ≡ step largest (seen number copies r b) (to_broker false)
    hop_resumes =
        let w = seen number copies r b in
        let stands : is_some (session_named r.client b.records) ≡ true = ap is_some (named_is r.client s.birth b.records s a.kept.only a.kept.session a.kept.name) in
        let ups : filter_map answered (drop 1 r.line.up) ≡ filter_map answered rest = ap (λ (xs : List Back). filter_map answered (drop 1 xs)) up in
        let olds = a.old in
        (λ i. record w { copies = copies2; stands = true; linked = true; up = ups i; down = w.down ++ told_all; old = olds i })
        ∙ ((λ i. record w { copies = copies2; stands = sym stands i; linked = true; up = filter_map answered rest; down = w.down ++ told_all; old = spared w.old })
        ∙ (ap (λ (z : Bool). connects z false false (filter_map answered rest) w) (sym stands)
        ∙ ap (λ (xs : List Answer). up_comes false xs w) (sym (ap (filter_map answered) up))))

    resumes_is : IsRun number largest copies r b → IsRun number largest copies2 (reads_answer limits choice now n (connect false) r b) (after_answer limits choice now n (connect false) r b)
    resumes_is h =
        let e = to_broker false in
        record {
          events = h.events ++ e ∷ [];
          seen_is = called_seen number copies2 ids limits choice now (Input n packet) q n s.birth b told_all false shut_old makes
              ∙ (hop_resumes ∙ (ap (λ (v : Hop). step largest v e) h.seen_is ∙ sym (run_append largest h.events (e ∷ []) start)));
          queue_is = called_queue number copies2 ids limits choice now (Input n packet) q n s.birth b told_all false shut_old makes;
          numbered = subst (AreNumbered number) (sym (renewed_ids copies)) h.numbered;
          tagged = subst (λ (cs : List CopyId). AreTagged number cs (reads_answer limits choice now n (connect false) r b)) (sym (renewed_ids copies))
              (called_tags number copies2 ids limits choice now (Input n packet) q n s.birth b told_all false shut_old makes
              (record { down = h.tagged.down; ledger = h.tagged.ledger; once = h.tagged.once }));
        }

    resumes_receives : Receives (reads_answer limits choice now n (connect false) r b) (after_answer limits choice now n (connect false) r b)
    resumes_receives =
        let m = makes in
        receives_after (reads_answer limits choice now n (connect false) r b) s.birth limits choice now (Input n packet) b m.session m.found m.client m.birth_is m.only
        (subst (AreKnown m.session.queue) (sym went_ends) tt)

    -- what becomes of another line
    beside : (m : ℕ) → nat_eq n m ≡ false → Beside number ids limits choice now (Input n packet) m b (is_one_of (Some m) (lines_left (line_of s.birth b)))
    beside m other =
        left_beside number ids limits choice now (Input n packet) n o s resumes m b (is_one_of (Some m) (lines_left (line_of s.birth b))) deeds_are aside_resumes (ap (is_one_of (Some m)) same)
      where
        aside_repeats : (us : List Turn) → AllByRecursion IsRepeat us → AllByRecursion (IsAsideOf m) (all_turn_deeds heard_first.now n x us)
        aside_repeats [] h = tt
        aside_repeats (turns.Repeat i ∷ us) h = (other, aside_repeats us h.1)
        aside_repeats (turns.Send place i ∷ us) h = absurd h.0
        aside_repeats (turns.Resend place i ∷ us) h = absurd h.0
        aside_repeats (turns.Release place i order ∷ us) h = absurd h.0
        aside_repeats (turns.Outgrow place i order ∷ us) h = absurd h.0
        aside_repeats (turns.Unknown i ∷ us) h = absurd h.0
        aside_repeats (turns.Leave place ending ∷ us) h = absurd h.0

        aside_resumes : AllByRecursion (IsAsideOf m) resumes
        aside_resumes = (tt, (other, (other, aside_repeats ts are_repeats)))

    takes : Takes number copies2 ids limits choice now (Input n packet) r.client n s.birth (lines_left (line_of s.birth b)) b
    takes =
        let m = makes in
        record {
          session = m.session;
          found = m.found;
          client = m.client;
          birth_is = m.birth_is;
          only = m.only;
          queued = m.queued;
          known = subst (AreKnown m.session.queue) (sym went_ends) tt;
          closes = ap (filter_map closing) deeds_are ∙ closes_are;
          beside = beside;
        }

  -- what a CONNECT makes of a session that stands: it is resumed on this line, with PUBREL for what was released
  pub connect_makes : Takes number copies2 ids limits choice now (Input n packet) r.client n s.birth (lines_left (line_of s.birth b)) b
  connect_makes =
      let heard_line = heard_line_of s.birth n now b (line_of s.birth b) refl a.taken in
      takes heard_line.0 heard_line.1 heard_line.2 heard_line.3

  resumed_is : IsRun number largest copies r b → IsRun number largest copies2 (reads_answer limits choice now l.number (connect false) r b) (after_answer limits choice now l.number (connect false) r b)
  resumed_is h =
      let heard_line = heard_line_of s.birth n now b (line_of s.birth b) refl a.taken in
      resumes_is heard_line.0 heard_line.1 heard_line.2 heard_line.3 h

  resumed_receives : Receives (reads_answer limits choice now l.number (connect false) r b) (after_answer limits choice now l.number (connect false) r b)
  resumed_receives =
      let heard_line = heard_line_of s.birth n now b (line_of s.birth b) refl a.taken in
      resumes_receives heard_line.0 heard_line.1 heard_line.2 heard_line.3

-- with the copies as they are on a new connection
pub connect_is_run : (number : Numbering) (largest : ℕ) (copies : List Lot) (limits : Capacity) (choice : MemberChoice) (now : ℕ) (rest : List Back) (r : Receiver) (l : BrokerLine) (s : Session) (b : Broker)
    → IsRun number largest copies r b → IsResuming r l s b → r.line.up ≡ answers (connect false) ∷ rest
    → IsRun number largest (map renewed copies) (reads_answer limits choice now l.number (connect false) r b) (after_answer limits choice now l.number (connect false) r b)
connect_is_run number largest copies limits choice now rest r l s b h a up = resumed_is number largest copies limits choice now rest r l s b h.queue_is a up h

-- a CONNECT to a session that stands goes on with the hop
pub connect_runs : (number : Numbering) (largest : ℕ) (copies : List Lot) (limits : Capacity) (choice : MemberChoice) (now : ℕ) (rest : List Back) (r : Receiver) (l : BrokerLine) (s : Session) (b : Broker)
    → IsRun number largest copies r b → IsResuming r l s b → r.line.up ≡ answers (connect false) ∷ rest
    → RunsOn number largest copies (reads_answer limits choice now l.number (connect false) r b) (after_answer limits choice now l.number (connect false) r b)
connect_runs number largest copies limits choice now rest r l s b h a up =
    record { after = map renewed copies; same = renewed_ids copies; run_is = connect_is_run number largest copies limits choice now rest r l s b h a up }

-- and its session may receive more
pub connect_receives : (number : Numbering) (largest : ℕ) (copies : List Lot) (limits : Capacity) (choice : MemberChoice) (now : ℕ) (rest : List Back) (r : Receiver) (l : BrokerLine) (s : Session) (b : Broker)
    → IsRun number largest copies r b → IsResuming r l s b → r.line.up ≡ answers (connect false) ∷ rest
    → Receives (reads_answer limits choice now l.number (connect false) r b) (after_answer limits choice now l.number (connect false) r b)
connect_receives number largest copies limits choice now rest r l s b h a up = resumed_receives number largest copies limits choice now rest r l s b h.queue_is a up
