-- The broker reads an answer of a receiver's line: what the receiver sees of it is an event of its hop.
use Rattle.std.proofs.Common.{◌≡◌, ℕ, Bool, true, false, cond, not, List, [], ◌∷◌, ◌++◌, drop, map, Option, Some, None, nat_eq, bytes_eq, refl, sym, ap, subst, ◌∙◌, append-nil, inl, inr}
use Rattle.std.specs.Prelude.{⊤, Ok, Err, filter, filter_map, find, is_some, option_map}
use Rattle.std.specs.List.{AllByRecursion, cons_option}
use Rattle.std.proofs.lemmas.Bool.{cases_Bool, eqb-true}
use Rattle.std.proofs.lemmas.Cmp.{nat_eq_equiv}
use Rattle.mqtt_base.specs.Codes.{protocol_error, success, identifier_not_found}
use Rattle.mqtt_base.specs.declared.session.Ending.{Ending}
use Rattle.mqtt_base.specs.declared.session.Phase.{Phase}
use Rattle.mqtt_base.specs.declared.session.Phase.TheVariants.{Waiting, Sent, Released, Oversize}
use Rattle.mqtt_base.specs.declared.session.Qos.{Qos}
use Rattle.mqtt_base.specs.declared.session.Qos.TheVariants.{AtMostOnce, AtLeastOnce, ExactlyOnce}
use Rattle.mqtt_packet.specs.declared.codec.packet.Packet.{Packet}
use Rattle.mqtt_flow.specs.declared.outbound.entry.Entry.{Entry as FlowEntry}
use Rattle.mqtt_flow.specs.declared.outbound.entry.Turn.{Turn}
use Rattle.mqtt_flow.specs.declared.outbound.entry.Turn.TheVariants as turns
use Rattle.mqtt_flow.specs.outbound.Outbound as rules
use Rattle.mqtt_flow.specs.outbound.Outbound.{acknowledged, is_refusal, puback_at, puback_by, pubcomp_at, pubcomp_by, pubrec_at, pubrec_by, received, released_by}
use Rattle.mqtt_flow.specs.outbound.OutboundWorld.{Lot, World as Hop, lots_after, old_comes, queue_of, renewed, replied, replied_old, step, to_broker, up_comes}
use Rattle.mqtt_flow.specs.outbound.Queue.{holder, next_order}
use Rattle.mqtt_flow.specs.outbound.Receiver.{Answer, HasNoConnect, Output, connect, disconnect, puback, pubrec, pubcomp, pubrel}
use Rattle.mqtt_flow.specs.inbound.Identifiers.{ids_without}
use Rattle.mqtt_flow.specs.inbound.Line.{sent_on}
use Rattle.mqtt_world_model.specs.model.Ends.{Back, Receiver, answers, wire_back}
use Rattle.mqtt_world_model.specs.model.Hops.{IsOnly}
use Rattle.mqtt_world_model.specs.model.Lines.{Down, copy_in, is_one_of, sent_to, unless_closed}
use Rattle.mqtt_world_model.specs.model.Seen.{is_linked}
use Rattle.mqtt_world_model.proofs.model_lemmas.others.Names.{BeginNone, named_is, only_deeds}
use Rattle.mqtt_world_model.proofs.model_lemmas.own.OwnStep.{heard_of, input_is, still_on}
use Rattle.mqtt_world_model.proofs.model_lemmas.own.Publishes.{drop_is, line_none}
use Rattle.mqtt_world_model.proofs.model_lemmas.others.Quiet.{calm, session_on}
use Rattle.mqtt_world_model.proofs.model_lemmas.seats.Seeing.{done_lines, done_sessions, linked_is, linked_of}
use Rattle.mqtt_records.specs.messages.Queue.{CopyRow}
use Rattle.mqtt_records.specs.state.Session.{birth_of, columns_of, copy_place, in_phase, with_columns, with_phase, without_copy}
use Rattle.mqtt_records.specs.declared.state.records.Records.{Records}
use Rattle.mqtt_records.specs.declared.state.session.Columns.{Columns}
use Rattle.mqtt_records.specs.declared.state.session.Session.{Session}
use Rattle.mqtt_records.specs.lists.Order.{change_row, remove_row, row_at}
use Rattle.mqtt_rules.proofs.step_lemmas.flight.FlightRows.{change_row-here, found_key}
use Rattle.mqtt_rules.specs.step.Deeds.{At, Close, Deed, Gone, Hear, Leave, Link, Mark, On, Send, after_all, closing, line_after, on_line, output, part_rows_of, rows_of_all, stored_after, whose, without_place}
use Rattle.mqtt_rules.specs.step.Inbound.{on_answer}
use Rattle.mqtt_rules.specs.step.Outbound.{of_entry, turn_deeds}
use Rattle.mqtt_rules.specs.step.Packets as packets
use Rattle.mqtt_rules.specs.step.State.{Line as BrokerLine, Broker, Env, MemberChoice, is_of, queue_on, session_at, session_named}
use Rattle.mqtt_rules.specs.step.Step.{Input, at_moment, deeds, env_of, next_packet, stepped, told}
use Rattle.mqtt_rules.specs.declared.step.Capacity.{Capacity}
use Rattle.mqtt_records.specs.state.Records.{changed_all}
use Rattle.mqtt_rules.proofs.step_lemmas.numbers.Copies.{each_append}
use Rattle.mqtt_world_laws.specs.receiver.Entering.{AreKnown, IsReceiving, Receives}
use Rattle.mqtt_world_laws.specs.receiver.Handing.{IsAloneOn, IsListening, IsRun, RunsOn, after_answer, reads_answer}
use Rattle.mqtt_world_laws.specs.receiver.Seen.{AreQueued, Numbering, StandOn, answered, handed_in, heard_in, lot_on, seen, still_standing, went_in}
use Rattle.mqtt_world_laws.specs.receiver.Tags.{AreTagged, IsTagged, id_of}
use Rattle.mqtt_world_laws.proofs.receiver_lemmas.queue.Follows.{Follows, runs_follow}
use Rattle.mqtt_world_laws.proofs.receiver_lemmas.queue.Known.{known_left, known_marked, receives_after}
use Rattle.mqtt_world_laws.proofs.receiver_lemmas.queue.Turns.{ids_after, left_lots, none_left, released_lots, renewed_lots, repeated_lots, same_entries, unknown_lots}

-- ---- lists

-- two lists are heard one behind the other
pub heard_append : (number : Numbering) (xs ys : List Down) → filter_map (heard_in number) (xs ++ ys) ≡ filter_map (heard_in number) xs ++ filter_map (heard_in number) ys
heard_append number [] ys = refl
heard_append number (x ∷ xs) ys = by (heard_in number x) (heard_append number xs ys)
  where
    by : (o : Option Output) → filter_map (heard_in number) (xs ++ ys) ≡ filter_map (heard_in number) xs ++ filter_map (heard_in number) ys
        → cons_option o (filter_map (heard_in number) (xs ++ ys)) ≡ cons_option o (filter_map (heard_in number) xs) ++ filter_map (heard_in number) ys
    by None h = h
    by (Some p) h = ap (λ (ps : List Output). p ∷ ps) h

-- what holds of two lists holds of both together
pub all_join : {X : Type 0} (P : X → Type 0) (xs ys : List X) → AllByRecursion P xs → AllByRecursion P ys → AllByRecursion P (xs ++ ys)
all_join P xs ys h g = each_append P xs ys h g

-- ---- lines: what went out on the one of a session

abbrev pub its_went : ℕ → List BrokerLine → Option (List ℕ)
its_went birth ls = option_map (λ (l : BrokerLine). l.went) (find (λ (l : BrokerLine). is_of l.session birth) ls)

went_first : (birth : ℕ) (z : Bool) (x y : BrokerLine) (xs ys : List BrokerLine) → x.went ≡ y.went → its_went birth xs ≡ its_went birth ys
    → option_map (λ (l : BrokerLine). l.went) (cond z (Some x) (find (λ (l : BrokerLine). is_of l.session birth) xs))
    ≡ option_map (λ (l : BrokerLine). l.went) (cond z (Some y) (find (λ (l : BrokerLine). is_of l.session birth) ys))
went_first birth true x y xs ys e h = ap Some e
went_first birth false x y xs ys e h = h

-- a line is heard of
pub went_heard : (birth now n : ℕ) (ls : List BrokerLine) → its_went birth (on_line now n Hear ls) ≡ its_went birth ls
went_heard birth now n [] = refl
went_heard birth now n (l ∷ ls) = by (nat_eq l.number n) (went_heard birth now n ls)
  where
    by : (here : Bool) → its_went birth (on_line now n Hear ls) ≡ its_went birth ls
        → its_went birth (cond here (line_after now Hear l ∷ ls) (l ∷ on_line now n Hear ls)) ≡ its_went birth (l ∷ ls)
    by true h = went_first birth (is_of l.session birth) (line_after now Hear l) l ls ls refl refl
    by false h = went_first birth (is_of l.session birth) l l (on_line now n Hear ls) ls refl h

alone_heard : (birth k now n : ℕ) (ls : List BrokerLine) → AllByRecursion (IsAloneOn birth k) ls → AllByRecursion (IsAloneOn birth k) (on_line now n Hear ls)
alone_heard birth k now n [] h = tt
alone_heard birth k now n (l ∷ ls) h = by (nat_eq l.number n) (alone_heard birth k now n ls h.1)
  where
    by : (here : Bool) → AllByRecursion (IsAloneOn birth k) (on_line now n Hear ls) → AllByRecursion (IsAloneOn birth k) (cond here (line_after now Hear l ∷ ls) (l ∷ on_line now n Hear ls))
    by true g = (h.0, h.1)
    by false g = (h.0, g)

-- a copy leaves its session's queue
pub went_left : (birth place : ℕ) (ls : List BrokerLine) → its_went birth (map (without_place birth place) ls) ≡ option_map (ids_without place) (its_went birth ls)
went_left birth place [] = refl
went_left birth place (l ∷ ls) = by (is_of l.session birth) refl (went_left birth place ls)
  where
    by : (z : Bool) → is_of l.session birth ≡ z → its_went birth (map (without_place birth place) ls) ≡ option_map (ids_without place) (its_went birth ls)
        → its_went birth (cond z (record l { went = ids_without place l.went }) l ∷ map (without_place birth place) ls) ≡ option_map (ids_without place) (its_went birth (l ∷ ls))
    by true e h = rw e refl
    by false e h = rw e h

-- and its line goes
is_of_some : (o : Option ℕ) (birth : ℕ) → is_of o birth ≡ true → o ≡ Some birth
is_of_some None birth h = absurd cc
is_of_some (Some x) birth h = ap Some (eqb-true x birth h)

-- behind the loss of its line nothing went out
pub went_gone : (birth n : ℕ) (ls : List BrokerLine) → AllByRecursion (IsAloneOn birth n) ls → its_went birth (filter (λ (l : BrokerLine). not (nat_eq l.number n)) ls) ≡ None
went_gone birth n [] h = refl
went_gone birth n (l ∷ ls) h = elim (cases_Bool (nat_eq l.number n)) [
  | inl goes ↦ rw goes (went_gone birth n ls h.1)
  | inr stays ↦ elim (cases_Bool (is_of l.session birth)) [
    | inl its ↦
        let is : l.number ≡ n = h.0 (is_of_some l.session birth its) in
        let same : nat_eq l.number n ≡ true = ap (λ (k : ℕ). nat_eq k n) is ∙ nat_eq_equiv.refl n in
        let clash : true ≡ false = sym same ∙ stays in
        absurd cc
    | inr other ↦ rw (stays, other) (went_gone birth n ls h.1)
  ]
]

-- ---- its session, as it is found

session_marked : (s : Session) (place : ℕ) (phase : Phase) (r : Records) → session_at s.birth r ≡ Some s → session_at s.birth (stored_after (At (whose s) (Mark place phase)) r) ≡ Some (with_phase place phase s)
session_marked s place phase r at =
    ap (λ (o : Option Session). session_at s.birth (changed_all (part_rows_of (Mark place phase) o) r)) at
    ∙ change_row-here birth_of s.birth (with_phase place phase) s r.sessions (λ y. refl) at

session_left : (s : Session) (e : CopyRow) (ending : Ending) (r : Records) → session_at s.birth r ≡ Some s → session_at s.birth (stored_after (At (whose s) (Leave e ending)) r) ≡ Some (without_copy e.place s)
session_left s e ending r at =
    ap (λ (o : Option Session). session_at s.birth (changed_all (part_rows_of (Leave e ending) o) r)) at
    ∙ change_row-here birth_of s.birth (without_copy e.place) s r.sessions (λ y. refl) at

abbrev pub closed_row : ℕ → Session → Columns
closed_row now s = record (columns_of s) { closed = Some now }

-- a session that was closed is found closed
pub session_closed : (s : Session) (now : ℕ) (r : Records) → session_at s.birth r ≡ Some s → session_at s.birth (stored_after (At (whose s) (Close now)) r) ≡ Some (with_columns (closed_row now s) s)
session_closed s now r at =
    ap (λ (o : Option Session). session_at s.birth (changed_all (part_rows_of (Close now) o) r)) at
    ∙ change_row-here birth_of s.birth (with_columns (closed_row now s)) s r.sessions (λ y. refl) at

-- ---- what goes out

sent_one : (n : ℕ) (b : Broker) (packet : Packet) → sent_to (Some n) b ((n, packet) ∷ []) ≡ record { packet = packet; copy = copy_in n b packet } ∷ []
sent_one n b packet = rw (nat_eq_equiv.refl n) refl

-- ---- answers ask for few turns

abbrev pub IsReplyTurn : Turn → Type 0
IsReplyTurn (turns.Send place i) = ⊥
IsReplyTurn (turns.Resend place i) = ⊥
IsReplyTurn (turns.Release place i order) = ⊤
IsReplyTurn (turns.Outgrow place i order) = ⊥
IsReplyTurn (turns.Repeat i) = ⊤
IsReplyTurn (turns.Unknown i) = ⊤
IsReplyTurn (turns.Leave place ending) = ⊤

abbrev pub IsReply : rules.Answer → Type 0
IsReply (Ok None) = ⊤
IsReply (Ok (Some t)) = IsReplyTurn t
IsReply (Err fault) = ⊤

-- what a PUBACK asks for is a reply
pub reply_puback : (code : ℕ) (o : Option FlowEntry) → IsReply (puback_at code o)
reply_puback code None = tt
reply_puback code (Some e) = by e.phase
  where
    by_qos : (qos : Qos) → IsReply (acknowledged qos code e.place)
    by_qos AtMostOnce = tt
    by_qos AtLeastOnce = tt
    by_qos ExactlyOnce = tt

    by : (phase : Phase) → IsReply (puback_by phase e.copy.qos code e.place)
    by Waiting = tt
    by (Sent i) = by_qos e.copy.qos
    by (Released i order) = tt
    by (Oversize i order) = tt

-- so is what a PUBREC asks for
pub reply_pubrec : (i code order : ℕ) (o : Option FlowEntry) → IsReply (pubrec_at i code order o)
reply_pubrec i code order None = tt
reply_pubrec i code order (Some e) = by e.phase
  where
    released : (t : Bool) (j : ℕ) → IsReply (released_by t e.place j order)
    released true j = tt
    released false j = tt

    by_qos : (qos : Qos) (j : ℕ) → IsReply (received qos code e.place j order)
    by_qos AtMostOnce j = tt
    by_qos AtLeastOnce j = tt
    by_qos ExactlyOnce j = released (is_refusal code) j

    by : (phase : Phase) → IsReply (pubrec_by phase e.copy.qos code e.place order)
    by Waiting = tt
    by (Sent j) = by_qos e.copy.qos j
    by (Released j x) = tt
    by (Oversize j x) = tt

-- and a PUBCOMP
pub reply_pubcomp : (o : Option FlowEntry) → IsReply (pubcomp_at o)
reply_pubcomp None = tt
reply_pubcomp (Some e) = by e.phase
  where
    by : (phase : Phase) → IsReply (pubcomp_by phase e.place)
    by Waiting = tt
    by (Sent j) = tt
    by (Released j x) = tt
    by (Oversize j x) = tt

-- ---- a receiver whose line is connected to its session

-- a receiver that listens has a line that stands
pub linked_now : (r : Receiver) (l : BrokerLine) (s : Session) (b : Broker) → IsListening r l s b → is_linked r.line.number b ≡ true
linked_now r l s b c =
    ap (λ (o : Option ℕ). is_linked o b) c.number
    ∙ (linked_is l.number b ∙ (ap (λ (o : Option BrokerLine). linked_of (option_map (λ (x : BrokerLine). x.session) o)) c.line ∙ ap is_some c.connected))

-- and a session
pub named_now : (r : Receiver) (l : BrokerLine) (s : Session) (b : Broker) → IsListening r l s b → session_named r.client b.records ≡ Some s
named_now r l s b c = named_is r.client s.birth b.records s c.only c.session c.client

-- with what went out on it
pub went_now : (r : Receiver) (l : BrokerLine) (s : Session) (b : Broker) → IsListening r l s b → went_in s.birth b ≡ Some l.went
went_now r l s b c = ap (option_map (λ (x : BrokerLine). x.went)) c.its_line

-- and the copies that stand there
pub standing_by : (copies : List Lot) (r : Receiver) (l : BrokerLine) (s : Session) (b : Broker) → AreQueued copies (session_named r.client b.records) b → IsListening r l s b
    → still_standing copies ≡ map (lot_on l.went) s.queue
standing_by copies r l s b h c =
    let q : AreQueued copies (Some s) b = subst (λ (o : Option Session). AreQueued copies o b) (named_now r l s b c) h in
    subst (λ (o : Option (List ℕ)). StandOn copies s.queue o) (went_now r l s b c) q

-- ---- deeds on other lines

-- not on the line of this number
abbrev pub IsAsideOf : ℕ → Deed → Type 0
IsAsideOf m (On k part) = nat_eq k m ≡ false
IsAsideOf m (Send k x) = nat_eq k m ≡ false
IsAsideOf m (Gone k) = nat_eq k m ≡ false
IsAsideOf m (Link k) = ⊥
IsAsideOf m d = ⊤

-- ---- what an answer makes of the copies, and whether it closes the line

abbrev pub copies_by : rules.Answer → List Lot → List Lot
copies_by (Ok None) copies = copies
copies_by (Ok (Some t)) copies = lots_after t copies
copies_by (Err fault) copies = copies

abbrev pub shut_by : rules.Answer → Bool
shut_by (Ok t) = false
shut_by (Err fault) = true

abbrev pub told_turn : Turn → List Output
told_turn (turns.Release place i order) = pubrel i success ∷ []
told_turn (turns.Repeat i) = pubrel i success ∷ []
told_turn (turns.Unknown i) = pubrel i identifier_not_found ∷ []
told_turn t = []

abbrev pub told_by : rules.Answer → List Output
told_by (Ok None) = []
told_by (Ok (Some t)) = told_turn t
told_by (Err fault) = disconnect ∷ []

-- an answer leaves the same copies
pub ids_by : (x : rules.Answer) (copies : List Lot) → map id_of (copies_by x copies) ≡ map id_of copies
ids_by (Ok None) copies = refl
ids_by (Ok (Some t)) copies = ids_after t copies
ids_by (Err fault) copies = refl

-- ---- the step

module _ (number : Numbering) (largest : ℕ) (copies : List Lot) (limits : Capacity) (choice : MemberChoice) (now : ℕ) (a : Answer) (rest : List Back) (r : Receiver)
    (l : BrokerLine) (s : Session) (b : Broker) (still : still_standing copies ≡ map (lot_on l.went) s.queue) (c : IsListening r l s b) (up : r.line.up ≡ answers a ∷ rest) where
  abbrev pub n : ℕ
  n = l.number

  abbrev pub packet : Packet
  packet = wire_back r.client r.window r.aliases (answers a)

  abbrev pub done_deeds : List Deed
  done_deeds = deeds limits choice now (Input n packet) b

  abbrev pub at_first : Broker
  at_first = at_moment now b

  abbrev pub once_heard : Broker
  once_heard = heard_of now n b

  abbrev pub w : Hop
  w = seen number copies r b

  abbrev pub left_up : List Answer
  left_up = filter_map answered rest

  -- what the deeds make of its session and its line, what they tell it, and whether they close the line
  pub record Becomes (ds : List Deed) (copies2 : List Lot) (ps : List Output) (shut : Bool) : Type 0 where
    pub session : Session
    pub found : session_at s.birth (after_all ds at_first).records ≡ Some session
    pub client : session.client ≡ r.client
    pub birth : session.birth ≡ s.birth
    pub begins : BeginNone r.client s.birth ds
    pub queued : StandOn copies2 session.queue (its_went s.birth (after_all ds at_first).lines)
    pub known : AreKnown s.queue (Some l.went) → AreKnown session.queue (its_went s.birth (after_all ds at_first).lines)
    pub linked : linked_of (session_on n (after_all ds at_first).lines) ≡ not shut
    pub heard : (new : Broker) → filter_map (heard_in number) (sent_to (Some n) new (filter_map output ds)) ≡ ps
    pub tagged : (new : Broker) → AllByRecursion (IsTagged number (map id_of copies)) (sent_to (Some n) new (filter_map output ds))
    pub closing_is : filter_map closing ds ≡ cond shut (n ∷ []) []
    pub aside : (m : ℕ) → nat_eq n m ≡ false → AllByRecursion (IsAsideOf m) ds

  is_linked_now : is_linked r.line.number b ≡ true
  is_linked_now = linked_now r l s b c

  standing_now : still_standing copies ≡ map (lot_on l.went) s.queue
  standing_now = still

  closes_own : (shut : Bool) → is_one_of (Some n) (cond shut (n ∷ []) []) ≡ shut
  closes_own true = rw (nat_eq_equiv.refl n) refl
  closes_own false = refl

  closes_old : (shut : Bool) → is_one_of r.line.old_number (cond shut (n ∷ []) []) ≡ false
  closes_old true = c.apart
  closes_old false = none r.line.old_number
    where
      none : (o : Option ℕ) → is_one_of o [] ≡ false
      none None = refl
      none (Some m) = refl

  becomes_follows : AreTagged number (map id_of copies) r → (copies2 : List Lot) (ps : List Output) (shut : Bool) → Becomes done_deeds copies2 ps shut → map id_of copies2 ≡ map id_of copies
      → record w { copies = copies2; linked = not shut; up = filter_map answered (unless_closed shut rest); down = w.down ++ ps } ≡ step largest w (to_broker false)
      → Follows number largest copies (to_broker false) r b (reads_answer limits choice now n a r b) (after_answer limits choice now n a r b)
  becomes_follows tags copies2 ps shut x ids hop =
      let ds = done_deeds in
      let new = stepped limits choice now (Input n packet) b in
      let out = told limits choice now (Input n packet) b in
      let rows = rows_of_all ds at_first.records in
      let outputs = filter_map output ds in
      let sessions : new.records.sessions ≡ (after_all ds at_first).records.sessions = done_sessions rows (after_all ds at_first) in
      let lines : new.lines ≡ (after_all ds at_first).lines = done_lines rows (after_all ds at_first) in
      let only = only_deeds r.client s.birth ds at_first x.begins c.only in
      let named : session_named r.client new.records ≡ Some x.session =
      ap (λ (ss : List Session). find (λ (y : Session). bytes_eq y.client r.client) ss) sessions
      ∙ named_is r.client s.birth (after_all ds at_first).records x.session only x.found x.client in
      let stands : is_some (session_named r.client new.records) ≡ is_some (session_named r.client b.records) = ap is_some named ∙ sym (ap is_some (named_now r l s b c)) in
      let linked : is_linked r.line.number new ≡ not shut =
      ap (λ (o : Option ℕ). is_linked o new) c.number ∙ (linked_is n new ∙ (ap (λ (ls : List BrokerLine). linked_of (session_on n ls)) lines ∙ x.linked)) in
      let closed : is_one_of r.line.number (filter_map closing ds) ≡ shut =
      ap (λ (o : Option ℕ). is_one_of o (filter_map closing ds)) c.number ∙ (ap (is_one_of (Some n)) x.closing_is ∙ closes_own shut) in
      let old_closed : is_one_of r.line.old_number (filter_map closing ds) ≡ false = ap (is_one_of r.line.old_number) x.closing_is ∙ closes_old shut in
      let taken : drop 1 r.line.up ≡ rest = ap (drop 1) up in
      let ups : filter_map answered (unless_closed (is_one_of r.line.number (filter_map closing ds)) (drop 1 r.line.up)) ≡ filter_map answered (unless_closed shut rest) =
      ap (λ (z : Bool). filter_map answered (unless_closed z (drop 1 r.line.up))) closed ∙ ap (λ (xs : List Back). filter_map answered (unless_closed shut xs)) taken in
      let downs : filter_map (heard_in number) (r.line.down ++ sent_to r.line.number new outputs) ≡ filter_map (heard_in number) r.line.down ++ ps =
      ap (λ (o : Option ℕ). filter_map (heard_in number) (r.line.down ++ sent_to o new outputs)) c.number
      ∙ (heard_append number r.line.down (sent_to (Some n) new outputs) ∙ ap (λ (qs : List Output). filter_map (heard_in number) r.line.down ++ qs) (x.heard new)) in
      let olds : filter_map answered (unless_closed (is_one_of r.line.old_number (filter_map closing ds)) r.line.old) ≡ filter_map answered r.line.old =
      ap (λ (z : Bool). filter_map answered (unless_closed z r.line.old)) old_closed in
      let same : seen number copies2 (reads_answer limits choice now n a r b) new ≡ record w { copies = copies2; linked = not shut; up = filter_map answered (unless_closed shut rest); down = w.down ++ ps } =
      λ i. record {
        copies = copies2;
        stands = stands i;
        linked = linked i;
        link = r.line.link;
        clean = r.line.clean;
        up = ups i;
        down = downs i;
        old = olds i;
        kept = r.kept;
        ledger = map (handed_in number) r.ledger;
        reads = map (handed_in number) r.once;
      } in
      let went : went_in x.session.birth new ≡ its_went s.birth (after_all ds at_first).lines =
      ap (λ (k : ℕ). went_in k new) x.birth ∙ ap (its_went s.birth) lines in
      let downs_tagged : AllByRecursion (IsTagged number (map id_of copies)) (r.line.down ++ sent_to r.line.number new outputs) =
      subst (λ (o : Option ℕ). AllByRecursion (IsTagged number (map id_of copies)) (r.line.down ++ sent_to o new outputs)) (sym c.number)
      (all_join (IsTagged number (map id_of copies)) r.line.down (sent_to (Some n) new outputs) tags.down (x.tagged new)) in
      record {
        after = copies2;
        same = ids;
        seen_is = same ∙ hop;
        queue_is = subst (λ (o : Option Session). AreQueued copies2 o new) (sym named) (subst (λ (o : Option (List ℕ)). StandOn copies2 x.session.queue o) (sym went) x.queued);
        tagged = record { down = downs_tagged; ledger = tags.ledger; once = tags.once };
      }

  -- ---- what the deeds of an answer make

  deeds_are : (x : rules.Answer) → next_packet (env_of limits choice b) l packet s once_heard ≡ on_answer x (env_of limits choice b) l s once_heard
      → done_deeds ≡ On n Hear ∷ (on_answer x (env_of limits choice b) l s once_heard ++ [])
  deeds_are x e = input_is limits choice now packet l s b c.line c.connected c.session ∙ ap (λ (ds : List Deed). On n Hear ∷ (ds ++ [])) e

  went_here : its_went s.birth once_heard.lines ≡ Some l.went
  went_here = went_heard s.birth at_first.now n b.lines ∙ went_now r l s b c

  on_here : session_on n once_heard.lines ≡ Some (Some s.birth)
  on_here = still_on now l s b c.line c.connected

  nothing_becomes : (copies2 : List Lot) → still_standing copies2 ≡ map (lot_on l.went) s.queue → Becomes (On n Hear ∷ []) copies2 [] false
  nothing_becomes copies2 is = record {
    session = s;
    found = c.session;
    client = c.client;
    birth = refl;
    begins = (tt, tt);
    queued = subst (λ (o : Option (List ℕ)). StandOn copies2 s.queue o) (sym went_here) is;
    known = subst (AreKnown s.queue) (sym went_here);
    linked = ap linked_of on_here;
    heard = λ new. refl;
    tagged = λ new. tt;
    closing_is = refl;
    aside = λ m other. (other, tt);
  }

  -- PUBREL goes out once more, or for an identifier that no copy has
  repeats_becomes : (copies2 : List Lot) (i code : ℕ) → copies2 ≡ copies → Becomes (On n Hear ∷ Send n (packets.pubrel i code) ∷ []) copies2 (pubrel i code ∷ []) false
  repeats_becomes copies2 i code is = record {
    session = s;
    found = c.session;
    client = c.client;
    birth = refl;
    begins = (tt, (tt, tt));
    queued = subst (λ (o : Option (List ℕ)). StandOn copies2 s.queue o) (sym went_here) (ap still_standing is ∙ standing_now);
    known = subst (AreKnown s.queue) (sym went_here);
    linked = ap linked_of on_here;
    heard = λ new. ap (filter_map (heard_in number)) (sent_one n new (packets.pubrel i code));
    tagged = λ new. subst (AllByRecursion (IsTagged number (map id_of copies))) (sym (sent_one n new (packets.pubrel i code))) (tt, tt);
    closing_is = refl;
    aside = λ m other. (other, (other, tt));
  }

  release_becomes : (place i order : ℕ) → Becomes (On n Hear ∷ At (whose s) (Mark place (Released i order)) ∷ Send n (packets.pubrel i success) ∷ []) (lots_after (turns.Release place i order) copies) (pubrel i success ∷ []) false
  release_becomes place i order = record {
    session = with_phase place (Released i order) s;
    found = session_marked s place (Released i order) b.records c.session;
    client = c.client;
    birth = refl;
    begins = (tt, (tt, (tt, tt)));
    queued = subst (λ (o : Option (List ℕ)). StandOn (lots_after (turns.Release place i order) copies) (change_row copy_place place (in_phase (Released i order)) s.queue) o) (sym went_here) (released_lots copies l.went place i order s.queue c.places standing_now);
    known = λ k. subst (AreKnown (change_row copy_place place (in_phase (Released i order)) s.queue)) (sym went_here) (known_marked place (Released i order) s.queue (Some l.went) k);
    linked = ap linked_of on_here;
    heard = λ new. ap (filter_map (heard_in number)) (sent_one n new (packets.pubrel i success));
    tagged = λ new. subst (AllByRecursion (IsTagged number (map id_of copies))) (sym (sent_one n new (packets.pubrel i success))) (tt, tt);
    closing_is = refl;
    aside = λ m other. (other, (tt, (other, tt)));
  }

  leave_becomes : (e : CopyRow) (ending : Ending) → Becomes (On n Hear ∷ At (whose s) (Leave e ending) ∷ []) (lots_after (turns.Leave e.place ending) copies) [] false
  leave_becomes e ending =
      let went : its_went s.birth (map (without_place s.birth e.place) once_heard.lines) ≡ Some (ids_without e.place l.went) =
      went_left s.birth e.place once_heard.lines ∙ ap (option_map (ids_without e.place)) went_here in
      let on : session_on n (after_all (On n Hear ∷ At (whose s) (Leave e ending) ∷ []) at_first).lines ≡ Some (Some s.birth) =
      (calm s.birth n (On n Hear ∷ At (whose s) (Leave e ending) ∷ []) at_first (tt, (inr tt, tt))).line_is
      ∙ (ap (option_map (λ (x : BrokerLine). x.session)) c.line ∙ ap Some c.connected) in
      record {
        session = without_copy e.place s;
        found = session_left s e ending b.records c.session;
        client = c.client;
        birth = refl;
        begins = (tt, (tt, tt));
        queued = subst (λ (o : Option (List ℕ)). StandOn (lots_after (turns.Leave e.place ending) copies) (remove_row copy_place e.place s.queue) o) (sym went) (left_lots copies l.went e.place ending s.queue standing_now);
        known = λ k. subst (AreKnown (remove_row copy_place e.place s.queue)) (sym went) (known_left e.place s.queue (Some l.went) k);
        linked = ap linked_of on;
        heard = λ new. refl;
        tagged = λ new. tt;
        closing_is = refl;
        aside = λ m other. (other, (tt, tt));
      }

  drop_becomes : (code moment : ℕ) → Becomes (On n Hear ∷ Send n (packets.disconnect code) ∷ Gone n ∷ At (whose s) (Close moment) ∷ []) copies (disconnect ∷ []) true
  drop_becomes code moment =
      let went : its_went s.birth (filter (λ (x : BrokerLine). not (nat_eq x.number n)) once_heard.lines) ≡ None =
      went_gone s.birth n once_heard.lines (alone_heard s.birth n at_first.now n b.lines c.alone) in
      record {
        session = with_columns (closed_row moment s) s;
        found = session_closed s moment b.records c.session;
        client = c.client;
        birth = refl;
        begins = (tt, (tt, (tt, (tt, tt))));
        queued = subst (λ (o : Option (List ℕ)). StandOn copies s.queue o) (sym went) (ap (map renewed) standing_now ∙ renewed_lots l.went s.queue);
        known = λ k. subst (AreKnown s.queue) (sym went) tt;
        linked = ap linked_of (line_none n once_heard.lines);
        heard = λ new. ap (filter_map (heard_in number)) (sent_one n new (packets.disconnect code));
        tagged = λ new. subst (AllByRecursion (IsTagged number (map id_of copies))) (sym (sent_one n new (packets.disconnect code))) (tt, tt);
        closing_is = refl;
        aside = λ m other. (other, (other, (other, (tt, tt))));
      }

  -- ---- by what the session's rules answer

  abbrev Result_of : Type 0
  Result_of = Follows number largest copies (to_broker false) r b (reads_answer limits choice now n a r b) (after_answer limits choice now n a r b)

  abbrev told_more : List Lot → List Output → Hop
  told_more copies2 ps = record w { copies = copies2; linked = true; up = left_up; down = w.down ++ ps }

  -- the line stands, so that what is sent is under way
  sends_it : (copies2 : List Lot) (p : Output) → told_more copies2 (p ∷ []) ≡ record w { copies = copies2; up = left_up; down = sent_on w.linked w.down (p ∷ []) }
  sends_it copies2 p =
      let stays = sym is_linked_now in
      λ i. record w { copies = copies2; linked = stays i; up = left_up; down = sent_on (stays i) w.down (p ∷ []) }

  sends_none : (copies2 : List Lot) → told_more copies2 [] ≡ record w { copies = copies2; up = left_up }
  sends_none copies2 =
      let stays = sym is_linked_now in
      let downs = append-nil w.down in
      λ i. record w { copies = copies2; linked = stays i; up = left_up; down = downs i }

  leave_by : (place : ℕ) (ending : Ending) (o : Option CopyRow) → row_at copy_place place s.queue ≡ o
      → Becomes (On n Hear ∷ (of_entry o (λ (e : CopyRow). At (whose s) (Leave e ending) ∷ []) ++ [])) (lots_after (turns.Leave place ending) copies) [] false
  leave_by place ending None none = nothing_becomes (lots_after (turns.Leave place ending) copies) (none_left copies l.went place ending s.queue none standing_now)
  leave_by place ending (Some e) there =
      let is : e.place ≡ place = found_key copy_place place e s.queue there in
      subst (λ (k : ℕ). Becomes (On n Hear ∷ At (whose s) (Leave e ending) ∷ []) (lots_after (turns.Leave k ending) copies) [] false) is (leave_becomes e ending)

  turn_becomes : (t : Turn) → IsReplyTurn t → done_deeds ≡ On n Hear ∷ (turn_deeds once_heard.now n s t ++ []) → Becomes done_deeds (lots_after t copies) (told_turn t) false
  turn_becomes (turns.Send place i) never e = absurd never
  turn_becomes (turns.Resend place i) never e = absurd never
  turn_becomes (turns.Outgrow place i order) never e = absurd never
  turn_becomes (turns.Release place i order) ok e =
      let copies2 = lots_after (turns.Release place i order) copies in
      subst (λ (ds : List Deed). Becomes ds copies2 (pubrel i success ∷ []) false) (sym e) (release_becomes place i order)
  turn_becomes (turns.Repeat i) ok e =
      let copies2 = lots_after (turns.Repeat i) copies in
      subst (λ (ds : List Deed). Becomes ds copies2 (pubrel i success ∷ []) false) (sym e) (repeats_becomes copies2 i success (repeated_lots i copies))
  turn_becomes (turns.Unknown i) ok e =
      let copies2 = lots_after (turns.Unknown i) copies in
      subst (λ (ds : List Deed). Becomes ds copies2 (pubrel i identifier_not_found ∷ []) false) (sym e) (repeats_becomes copies2 i identifier_not_found (unknown_lots i copies))
  turn_becomes (turns.Leave place ending) ok e =
      let copies2 = lots_after (turns.Leave place ending) copies in
      subst (λ (ds : List Deed). Becomes ds copies2 [] false) (sym e) (leave_by place ending (row_at copy_place place s.queue) refl)

  -- what the session's rules say to an answer is what its deeds make of session and line
  pub answer_becomes : (x : rules.Answer) → IsReply x → next_packet (env_of limits choice b) l packet s once_heard ≡ on_answer x (env_of limits choice b) l s once_heard
      → Becomes done_deeds (copies_by x copies) (told_by x) (shut_by x)
  answer_becomes (Ok None) ok e = subst (λ (ds : List Deed). Becomes ds copies [] false) (sym (deeds_are (Ok None) e)) (nothing_becomes copies standing_now)
  answer_becomes (Ok (Some t)) ok e = turn_becomes t ok (deeds_are (Ok (Some t)) e)
  answer_becomes (Err fault) ok e =
      let env = env_of limits choice b in
      let is : done_deeds ≡ On n Hear ∷ Send n (packets.disconnect protocol_error) ∷ Gone n ∷ At (whose s) (Close once_heard.now) ∷ [] =
      deeds_are (Err fault) e ∙ ap (λ (ds : List Deed). On n Hear ∷ (ds ++ [])) (drop_is env protocol_error l s once_heard c.session c.connected c.no_will c.no_end) in
      subst (λ (ds : List Deed). Becomes ds copies (disconnect ∷ []) true) (sym is) (drop_becomes protocol_error once_heard.now)

  -- and the hop does the same
  turn_replied : (t : Turn) → IsReplyTurn t → told_more (lots_after t copies) (told_turn t) ≡ replied (Ok (Some t)) left_up w
  turn_replied (turns.Send place i) never = absurd never
  turn_replied (turns.Resend place i) never = absurd never
  turn_replied (turns.Outgrow place i order) never = absurd never
  turn_replied (turns.Release place i order) ok = sends_it (lots_after (turns.Release place i order) copies) (pubrel i success)
  turn_replied (turns.Repeat i) ok = sends_it (lots_after (turns.Repeat i) copies) (pubrel i success)
  turn_replied (turns.Unknown i) ok = sends_it (lots_after (turns.Unknown i) copies) (pubrel i identifier_not_found)
  turn_replied (turns.Leave place ending) ok = sends_none (lots_after (turns.Leave place ending) copies)

  answer_replied : (x : rules.Answer) → IsReply x
      → record w { copies = copies_by x copies; linked = not (shut_by x); up = filter_map answered (unless_closed (shut_by x) rest); down = w.down ++ told_by x } ≡ replied x left_up w
  answer_replied (Ok None) ok = sends_none copies
  answer_replied (Ok (Some t)) ok = turn_replied t ok
  answer_replied (Err fault) ok = let stays = sym is_linked_now in λ i. record w { linked = false; up = []; down = sent_on (stays i) w.down (disconnect ∷ []) }

  answer_follows : AreTagged number (map id_of copies) r → (x : rules.Answer) → IsReply x → next_packet (env_of limits choice b) l packet s once_heard ≡ on_answer x (env_of limits choice b) l s once_heard
      → step largest w (to_broker false) ≡ replied x left_up w → Result_of
  answer_follows tags x ok e hop = becomes_follows tags (copies_by x copies) (told_by x) (shut_by x) (answer_becomes x ok e) (ids_by x copies) (answer_replied x ok ∙ sym hop)

  -- after an answer the session may receive more
  pub answer_receives : (q : Receiver) → r.client ≡ q.client → AreKnown s.queue (went_in s.birth b) → (x : rules.Answer) → IsReply x → next_packet (env_of limits choice b) l packet s once_heard ≡ on_answer x (env_of limits choice b) l s once_heard
      → Receives q (after_answer limits choice now n a r b)
  answer_receives q same known x ok e =
      let y = answer_becomes x ok e in
      receives_after q s.birth limits choice now (Input n packet) b y.session y.found (y.client ∙ same) y.birth
      (subst (λ (name : List ℕ). IsOnly name s.birth (after_all done_deeds at_first).records) same (only_deeds r.client s.birth done_deeds at_first y.begins c.only)) (y.known (subst (AreKnown s.queue) (went_now r l s b c) known))

  -- the hop has the same queue
  pub same_queue : queue_of copies ≡ queue_on l.went s
  same_queue = same_entries copies l.went s.queue standing_now

-- ---- PUBACK, PUBREC and PUBCOMP

-- what the session's rules answer to each
abbrev pub reply_to : Answer → List FlowEntry → rules.Answer
reply_to (connect clean) q = Ok None
reply_to (puback i code) q = rules.puback i code q
reply_to (pubrec i code) q = rules.pubrec i code q
reply_to (pubcomp i code) q = rules.pubcomp i q

-- which asks for few turns
pub is_reply : (a : Answer) (q : List FlowEntry) → IsReply (reply_to a q)
is_reply (connect clean) q = tt
is_reply (puback i code) q = reply_puback code (holder i q)
is_reply (pubrec i code) q = reply_pubrec i code (next_order q) (holder i q)
is_reply (pubcomp i code) q = reply_pubcomp (holder i q)

-- the broker does that
pub answered_by : (a : Answer) (client : List ℕ) (window aliases : ℕ) (env : Env) (l : BrokerLine) (s : Session) (b : Broker) → HasNoConnect (a ∷ [])
    → next_packet env l (wire_back client window aliases (answers a)) s b ≡ on_answer (reply_to a (queue_on l.went s)) env l s b
answered_by (connect clean) client window aliases env l s b none = absurd none
answered_by (puback i code) client window aliases env l s b none = refl
answered_by (pubrec i code) client window aliases env l s b none = refl
answered_by (pubcomp i code) client window aliases env l s b none = refl

-- and so does the hop, on either line
hop_answers : (a : Answer) (rest : List Answer) (w : Hop) → HasNoConnect (a ∷ []) → up_comes false (a ∷ rest) w ≡ replied (reply_to a (queue_of w.copies)) rest w
hop_answers (connect clean) rest w none = absurd none
hop_answers (puback i code) rest w none = refl
hop_answers (pubrec i code) rest w none = refl
hop_answers (pubcomp i code) rest w none = refl

-- the hop reads an answer of the line that was given up by the session's rules
pub hop_answers_old : (a : Answer) (rest : List Answer) (w : Hop) → HasNoConnect (a ∷ []) → old_comes false (a ∷ rest) w ≡ replied_old (reply_to a (queue_of w.copies)) rest w
hop_answers_old (connect clean) rest w none = absurd none
hop_answers_old (puback i code) rest w none = refl
hop_answers_old (pubrec i code) rest w none = refl
hop_answers_old (pubcomp i code) rest w none = refl

-- its event for an answer of the receiver's line
pub answer_comes : (number : Numbering) (largest : ℕ) (copies : List Lot) (limits : Capacity) (choice : MemberChoice) (now : ℕ) (a : Answer) (rest : List Back) (r : Receiver) (l : BrokerLine) (s : Session) (b : Broker)
    → HasNoConnect (a ∷ []) → IsRun number largest copies r b → IsListening r l s b → r.line.up ≡ answers a ∷ rest
    → step largest (seen number copies r b) (to_broker false) ≡ replied (reply_to a (queue_on l.went s)) (filter_map answered rest) (seen number copies r b)
answer_comes number largest copies limits choice now a rest r l s b none h c up =
    let w = seen number copies r b in
    ap (λ (xs : List Answer). up_comes false xs w) (ap (filter_map answered) up)
    ∙ (hop_answers a (filter_map answered rest) w none
    ∙ ap (λ (es : List FlowEntry). replied (reply_to a es) (filter_map answered rest) w) (same_queue number largest copies limits choice now a rest r l s b (standing_by copies r l s b h.queue_is c) c up))

-- what the receiver and its session see of the answer follows from that event
pub answers_follow : (number : Numbering) (largest : ℕ) (copies : List Lot) (limits : Capacity) (choice : MemberChoice) (now : ℕ) (a : Answer) (rest : List Back) (r : Receiver) (l : BrokerLine) (s : Session) (b : Broker)
    → HasNoConnect (a ∷ []) → IsRun number largest copies r b → IsListening r l s b → r.line.up ≡ answers a ∷ rest
    → Follows number largest copies (to_broker false) r b (reads_answer limits choice now l.number a r b) (after_answer limits choice now l.number a r b)
answers_follow number largest copies limits choice now a rest r l s b none h c up =
    let q = queue_on l.went s in
    answer_follows number largest copies limits choice now a rest r l s b (standing_by copies r l s b h.queue_is c) c up h.tagged (reply_to a q) (is_reply a q)
    (answered_by a r.client r.window r.aliases (env_of limits choice b) l s (heard_of now l.number b) none)
    (answer_comes number largest copies limits choice now a rest r l s b none h c up)

-- so it is a run of their hop again
pub answers_run : (number : Numbering) (largest : ℕ) (copies : List Lot) (limits : Capacity) (choice : MemberChoice) (now : ℕ) (a : Answer) (rest : List Back) (r : Receiver) (l : BrokerLine) (s : Session) (b : Broker)
    → HasNoConnect (a ∷ []) → IsRun number largest copies r b → IsListening r l s b → r.line.up ≡ answers a ∷ rest
    → RunsOn number largest copies (reads_answer limits choice now l.number a r b) (after_answer limits choice now l.number a r b)
answers_run number largest copies limits choice now a rest r l s b none h c up =
    runs_follow number largest copies (to_broker false) r b (reads_answer limits choice now l.number a r b) (after_answer limits choice now l.number a r b) h
    (answers_follow number largest copies limits choice now a rest r l s b none h c up)

-- and its session may receive more
pub answers_receive : (number : Numbering) (largest : ℕ) (copies : List Lot) (limits : Capacity) (choice : MemberChoice) (now : ℕ) (a : Answer) (rest : List Back) (r : Receiver) (l : BrokerLine) (s : Session) (b : Broker)
    → HasNoConnect (a ∷ []) → IsRun number largest copies r b → IsListening r l s b → IsReceiving r s b → r.line.up ≡ answers a ∷ rest
    → Receives (reads_answer limits choice now l.number a r b) (after_answer limits choice now l.number a r b)
answers_receive number largest copies limits choice now a rest r l s b none h c x up =
    let q = queue_on l.went s in
    answer_receives number largest copies limits choice now a rest r l s b (standing_by copies r l s b h.queue_is c) c up (reads_answer limits choice now l.number a r b) refl x.known (reply_to a q) (is_reply a q)
    (answered_by a r.client r.window r.aliases (env_of limits choice b) l s (heard_of now l.number b) none)
