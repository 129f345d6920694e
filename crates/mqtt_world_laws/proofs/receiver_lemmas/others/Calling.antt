-- From the deeds of a call to what a receiver whose session is connected sees after it.
use Rattle.std.proofs.Common.{◌≡◌, ℕ, Bool, true, false, not, List, [], ◌∷◌, ◌++◌, map, Option, Some, None, nat_eq, bytes_eq, refl, sym, ap, subst, ◌∙◌, inl, inr}
use Rattle.std.specs.Prelude.{⊤, filter_map, find, is_some, option_map}
use Rattle.std.specs.List.{AllByRecursion}
use Rattle.std.proofs.lemmas.Bool.{cases_Bool, eqb-true}
use Rattle.std.proofs.lemmas.Cmp.{nat_eq_equiv}
use Rattle.mqtt_base.specs.Phases.{identifier_of}
use Rattle.mqtt_base.specs.declared.session.CopyId.{CopyId}
use Rattle.mqtt_base.specs.declared.session.Phase.{Phase}
use Rattle.mqtt_base.specs.declared.session.Phase.TheVariants.{Waiting, Sent, Released, Oversize}
use Rattle.mqtt_flow.specs.outbound.OutboundWorld.{Lot, World as Hop}
use Rattle.mqtt_flow.specs.outbound.Queue.{holder, is_holder}
use Rattle.mqtt_flow.specs.outbound.Receiver.{Output}
use Rattle.mqtt_flow.specs.declared.outbound.entry.Entry.{Entry as FlowEntry}
use Rattle.mqtt_flow.specs.declared.outbound.entry.Turn.{Turn}
use Rattle.mqtt_flow.specs.declared.outbound.entry.Turn.TheVariants as turns
use Rattle.mqtt_world_model.specs.model.Ends.{Receiver}
use Rattle.mqtt_world_model.specs.model.Hops.{IsOnly}
use Rattle.mqtt_world_model.specs.model.Lines.{is_one_of, sent_to, unless_closed}
use Rattle.mqtt_world_model.specs.model.Seen.{is_linked}
use Rattle.mqtt_world_model.proofs.model_lemmas.others.Names.{BeginNone, BeginsNone, named_is}
use Rattle.mqtt_world_model.proofs.model_lemmas.others.Quiet.{session_on}
use Rattle.mqtt_world_model.proofs.model_lemmas.seats.Seeing.{done_lines, done_sessions, linked_is, linked_of}
use Rattle.mqtt_records.specs.messages.Queue.{CopyRow}
use Rattle.mqtt_records.specs.state.Session.{copy_place}
use Rattle.mqtt_records.specs.declared.state.session.Session.{Session}
use Rattle.mqtt_records.specs.lists.Order.{row_at}
use Rattle.mqtt_rules.proofs.step_lemmas.flight.FlightRows.{all_found, all_more}
use Rattle.mqtt_rules.specs.step.Deeds.{At, Deed, On, Send, after_all, closing, output, rows_of_all}
use Rattle.mqtt_rules.specs.step.Flight.{IsFlight, identifier_in}
use Rattle.mqtt_rules.specs.step.Outbound.{of_entry, turn_deeds, all_turn_deeds}
use Rattle.mqtt_rules.specs.step.State.{Line as BrokerLine, Broker, MemberChoice, entry_on, session_at, session_named}
use Rattle.mqtt_rules.specs.step.Step.{Call, at_moment, copy_in, copy_of_session, copy_on, deeds, stepped}
use Rattle.mqtt_rules.specs.declared.step.Capacity.{Capacity}
use Rattle.mqtt_world_laws.specs.receiver.Calls.{receiver_called}
use Rattle.mqtt_world_laws.specs.receiver.Seen.{AreQueued, Numbering, StandOn, answered, handed_in, heard_in, seen, went_in}
use Rattle.mqtt_world_laws.specs.receiver.Tags.{AreTagged, IsTagged}
use Rattle.mqtt_world_laws.proofs.receiver_lemmas.own.Answering.{all_join, heard_append, its_went}
use Rattle.mqtt_world_laws.proofs.receiver_lemmas.queue.Pumps.{Finds}

-- ---- deeds of a session on its line, which close none and begin none

abbrev pub IsInside : Deed → Type 0
IsInside (At who part) = ⊤
IsInside (On m part) = ⊤
IsInside (Send m packet) = ⊤
IsInside d = ⊥

abbrev pub AreInside : List Deed → Type 0
AreInside ds = AllByRecursion IsInside ds

inside_begins_none : (client : List ℕ) (birth : ℕ) (d : Deed) → IsInside d → BeginsNone client birth d
inside_begins_none client birth (At who part) h = tt
inside_begins_none client birth (On m part) h = tt
inside_begins_none client birth (Send m packet) h = tt
inside_begins_none client birth d h = absurd h

-- deeds inside a session begin none
pub inside_begins : (client : List ℕ) (birth : ℕ) (ds : List Deed) → AreInside ds → BeginNone client birth ds
inside_begins client birth [] h = tt
inside_begins client birth (d ∷ ds) h = (inside_begins_none client birth d h.0, inside_begins client birth ds h.1)

inside_closes_none : (d : Deed) → IsInside d → closing d ≡ None
inside_closes_none (At who part) h = refl
inside_closes_none (On m part) h = refl
inside_closes_none (Send m packet) h = refl
inside_closes_none d h = absurd h

-- they close no line
pub inside_closes : (ds : List Deed) → AreInside ds → filter_map closing ds ≡ []
inside_closes [] h = refl
inside_closes (d ∷ ds) h = rw (inside_closes_none d h.0) (inside_closes ds h.1)

inside_entry : (o : Option CopyRow) (f : CopyRow → List Deed) → ((e : CopyRow) → AreInside (f e)) → AreInside (of_entry o f)
inside_entry None f h = tt
inside_entry (Some e) f h = h e

-- the deeds of a turn are inside
pub inside_turn : (now line : ℕ) (s : Session) (t : Turn) → AreInside (turn_deeds now line s t)
inside_turn now line s (turns.Send place i) = inside_entry (row_at copy_place place s.queue) _ (λ e. (tt, (tt, (tt, tt))))
inside_turn now line s (turns.Resend place i) = inside_entry (row_at copy_place place s.queue) _ (λ e. (tt, (tt, tt)))
inside_turn now line s (turns.Release place i order) = (tt, (tt, tt))
inside_turn now line s (turns.Outgrow place i order) = (tt, (tt, tt))
inside_turn now line s (turns.Repeat i) = (tt, tt)
inside_turn now line s (turns.Unknown i) = (tt, tt)
inside_turn now line s (turns.Leave place ending) = inside_entry (row_at copy_place place s.queue) _ (λ e. (tt, tt))

-- so are those of many
pub inside_turns : (now line : ℕ) (s : Session) (ts : List Turn) → AreInside (all_turn_deeds now line s ts)
inside_turns now line s [] = tt
inside_turns now line s (t ∷ ts) = all_join IsInside (turn_deeds now line s t) (all_turn_deeds now line s ts) (inside_turn now line s t) (inside_turns now line s ts)

-- ---- the copy that has an identifier

holder_has : (id : ℕ) (phase : Phase) → is_holder id phase ≡ true → identifier_of phase ≡ Some id
holder_has id Waiting h = absurd cc
holder_has id (Sent j) h = ap Some (eqb-true j id h)
holder_has id (Released j order) h = ap Some (eqb-true j id h)
holder_has id (Oversize j order) h = ap Some (eqb-true j id h)

has_holder : (id : ℕ) (phase : Phase) → identifier_of phase ≡ Some id → is_holder id phase ≡ true
has_holder id Waiting h = absurd cc
has_holder id (Sent j) h = let is : j ≡ id = cc in ap (λ (k : ℕ). nat_eq k id) is ∙ nat_eq_equiv.refl id
has_holder id (Released j order) h = let is : j ≡ id = cc in ap (λ (k : ℕ). nat_eq k id) is ∙ nat_eq_equiv.refl id
has_holder id (Oversize j order) h = let is : j ≡ id = cc in ap (λ (k : ℕ). nat_eq k id) is ∙ nat_eq_equiv.refl id

-- if no other copy has it, the holder is the one at its place
holder_found : (id place : ℕ) (went : List ℕ) (es : List CopyRow) (e : CopyRow) → AllByRecursion (λ (x : CopyRow). is_holder id x.phase ≡ true → x.place ≡ place) es
    → row_at copy_place place es ≡ Some e → is_holder id e.phase ≡ true → option_map (λ (x : FlowEntry). x.copy.id) (holder id (map (entry_on went) es)) ≡ Some e.copy.id
holder_found id place went [] e only at has = absurd cc
holder_found id place went (x ∷ xs) e only at has = elim (cases_Bool (is_holder id x.phase)) [
  | inl holds ↦
      let here : nat_eq x.place place ≡ true = ap (λ (k : ℕ). nat_eq k place) (only.0 holds) ∙ nat_eq_equiv.refl place in
      let it : Some x ≡ Some e = rw here at at in
      let is : x ≡ e = cc in
      rw holds (ap (λ (y : CopyRow). Some y.copy.id) is)
  | inr free ↦ elim (cases_Bool (nat_eq x.place place)) [
    | inl here ↦
        let it : Some x ≡ Some e = rw here at at in
        let is : x ≡ e = cc in
        let clash : true ≡ false = sym has ∙ (ap (λ (y : CopyRow). is_holder id y.phase) (sym is) ∙ free) in
        absurd cc
    | inr further ↦ rw free (holder_found id place went xs e only.1 (rw further at at) has)
  ]
]

line_there : (n birth : ℕ) (o : Option BrokerLine) → option_map (λ (l : BrokerLine). l.session) o ≡ Some (Some birth) → (l : BrokerLine) × (o ≡ Some l) × (l.session ≡ Some birth)
line_there n birth None h = absurd cc
line_there n birth (Some l) h = (l, refl, cc)

-- a session on a line is found there
pub finds : (n birth : ℕ) (new : Broker) (t : Session) → session_on n new.lines ≡ Some (Some birth) → session_at birth new.records ≡ Some t → IsFlight t.queue → Finds n new t.queue
finds n birth new t on at flight place id e there has =
    let line = line_there n birth (find (λ (l : BrokerLine). nat_eq l.number n) new.lines) on in
    let l = line.0 in
    let only : AllByRecursion (λ (x : CopyRow). is_holder id x.phase ≡ true → x.place ≡ place) t.queue =
    all_more (λ (x : CopyRow). row_at copy_place x.place t.queue ≡ Some x) (λ (x : CopyRow). is_holder id x.phase ≡ true → x.place ≡ place) t.queue
    (λ x found holds. flight.identifiers x.place place id (ap identifier_in found ∙ holder_has id x.phase holds) (ap identifier_in there ∙ has)) (all_found copy_place t.queue flight.places) in
    ap (λ (o : Option BrokerLine). copy_on id o new) line.1
    ∙ (ap (λ (o : Option ℕ). copy_in id l.went o new) line.2
    ∙ (ap (λ (o : Option Session). copy_of_session id l.went o) at ∙ holder_found id place l.went t.queue e only there (has_holder id e.phase has)))

-- ---- what is seen after a call

module _ (number : Numbering) (copies2 : List Lot) (ids : List CopyId) (limits : Capacity) (choice : MemberChoice) (now : ℕ) (call : Call) (q : Receiver) (n birth : ℕ) (b : Broker) where
  abbrev done_deeds : List Deed
  done_deeds = deeds limits choice now call b

  abbrev at_first : Broker
  at_first = at_moment now b

  abbrev new : Broker
  new = stepped limits choice now call b

  -- what the call's deeds make of the receiver's session and its line, what they tell it, and which lines they close
  pub record Makes (ps : List Output) (shut shut_old : Bool) : Type 0 where
    pub number_is : q.line.number ≡ Some n
    pub session : Session
    pub found : session_at birth (after_all (deeds limits choice now call b) (at_moment now b)).records ≡ Some session
    pub client : session.client ≡ q.client
    pub birth_is : session.birth ≡ birth
    pub only : IsOnly q.client birth (after_all (deeds limits choice now call b) (at_moment now b)).records
    pub queued : StandOn copies2 session.queue (its_went birth (after_all (deeds limits choice now call b) (at_moment now b)).lines)
    pub linked : linked_of (session_on n (after_all (deeds limits choice now call b) (at_moment now b)).lines) ≡ not shut
    pub heard : filter_map (heard_in number) (sent_to (Some n) (stepped limits choice now call b) (filter_map output (deeds limits choice now call b))) ≡ ps
    pub tagged : AllByRecursion (IsTagged number ids) (sent_to (Some n) (stepped limits choice now call b) (filter_map output (deeds limits choice now call b)))
    pub closes : is_one_of (Some n) (filter_map closing (deeds limits choice now call b)) ≡ shut
    pub closes_old : is_one_of q.line.old_number (filter_map closing (deeds limits choice now call b)) ≡ shut_old

  -- the hop after it
  abbrev pub hop_called : List Output → Bool → Bool → Hop
  hop_called ps shut shut_old = record {
    copies = copies2;
    stands = true;
    linked = not shut;
    link = q.line.link;
    clean = q.line.clean;
    up = filter_map answered (unless_closed shut q.line.up);
    down = filter_map (heard_in number) q.line.down ++ ps;
    old = filter_map answered (unless_closed shut_old q.line.old);
    kept = q.kept;
    ledger = map (handed_in number) q.ledger;
    reads = map (handed_in number) q.once;
  }

  sessions_are : new.records.sessions ≡ (after_all done_deeds at_first).records.sessions
  sessions_are = done_sessions (rows_of_all done_deeds at_first.records) (after_all done_deeds at_first)

  lines_are : new.lines ≡ (after_all done_deeds at_first).lines
  lines_are = done_lines (rows_of_all done_deeds at_first.records) (after_all done_deeds at_first)

  named_after : (ps : List Output) (shut shut_old : Bool) (x : Makes ps shut shut_old) → session_named q.client new.records ≡ Some x.session
  named_after ps shut shut_old x =
      ap (λ (ss : List Session). find (λ (y : Session). bytes_eq y.client q.client) ss) sessions_are
      ∙ named_is q.client birth (after_all done_deeds at_first).records x.session x.only x.found x.client

  -- what the receiver sees after a call is the hop's state after what the deeds made
  pub called_seen : (ps : List Output) (shut shut_old : Bool) → Makes ps shut shut_old
      → seen number copies2 (receiver_called limits choice now call q b) (stepped limits choice now call b) ≡ hop_called ps shut shut_old
  called_seen ps shut shut_old x =
      let outputs = filter_map output done_deeds in
      let closed = filter_map closing done_deeds in
      let stands : is_some (session_named q.client new.records) ≡ true = ap is_some (named_after ps shut shut_old x) in
      let linked : is_linked q.line.number new ≡ not shut =
      ap (λ (o : Option ℕ). is_linked o new) x.number_is ∙ (linked_is n new ∙ (ap (λ (ls : List BrokerLine). linked_of (session_on n ls)) lines_are ∙ x.linked)) in
      let ups : filter_map answered (unless_closed (is_one_of q.line.number closed) q.line.up) ≡ filter_map answered (unless_closed shut q.line.up) =
      ap (λ (z : Bool). filter_map answered (unless_closed z q.line.up)) (ap (λ (o : Option ℕ). is_one_of o closed) x.number_is ∙ x.closes) in
      let downs : filter_map (heard_in number) (q.line.down ++ sent_to q.line.number new outputs) ≡ filter_map (heard_in number) q.line.down ++ ps =
      ap (λ (o : Option ℕ). filter_map (heard_in number) (q.line.down ++ sent_to o new outputs)) x.number_is
      ∙ (heard_append number q.line.down (sent_to (Some n) new outputs) ∙ ap (λ (qs : List Output). filter_map (heard_in number) q.line.down ++ qs) x.heard) in
      let olds : filter_map answered (unless_closed (is_one_of q.line.old_number closed) q.line.old) ≡ filter_map answered (unless_closed shut_old q.line.old) =
      ap (λ (z : Bool). filter_map answered (unless_closed z q.line.old)) x.closes_old in
      λ i. record {
        copies = copies2;
        stands = stands i;
        linked = linked i;
        link = q.line.link;
        clean = q.line.clean;
        up = ups i;
        down = downs i;
        old = olds i;
        kept = q.kept;
        ledger = map (handed_in number) q.ledger;
        reads = map (handed_in number) q.once;
      }

  -- the copies of the hop that stand are those of the session's queue after the call
  pub called_queue : (ps : List Output) (shut shut_old : Bool) → Makes ps shut shut_old
      → AreQueued copies2 (session_named q.client (stepped limits choice now call b).records) (stepped limits choice now call b)
  called_queue ps shut shut_old x =
      let went : went_in x.session.birth new ≡ its_went birth (after_all done_deeds at_first).lines =
      ap (λ (k : ℕ). went_in k new) x.birth_is ∙ ap (its_went birth) lines_are in
      subst (λ (o : Option Session). AreQueued copies2 o new) (sym (named_after ps shut shut_old x)) (subst (λ (o : Option (List ℕ)). StandOn copies2 x.session.queue o) (sym went) x.queued)

  -- what is under way to the receiver after the call is tagged with copies that entered
  pub called_tags : (ps : List Output) (shut shut_old : Bool) → Makes ps shut shut_old → AreTagged number ids q → AreTagged number ids (receiver_called limits choice now call q b)
  called_tags ps shut shut_old x h = record {
    down = subst (λ (o : Option ℕ). AllByRecursion (IsTagged number ids) (q.line.down ++ sent_to o new (filter_map output done_deeds))) (sym x.number_is)
        (all_join (IsTagged number ids) q.line.down (sent_to (Some n) new (filter_map output done_deeds)) h.down x.tagged);
    ledger = h.ledger;
    once = h.once;
  }
