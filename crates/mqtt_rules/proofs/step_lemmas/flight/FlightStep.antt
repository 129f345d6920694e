-- Packet identifiers stay distinct in every step and in every opening.
use Rattle.std.proofs.Common.{◌≡◌, ℕ, Bool, true, false, List, [], ◌∷◌, map, refl, sym, ap, subst, ◌∙◌, inl, inr}
use Rattle.std.specs.Prelude.{⊤, suc, Option, Some, None, find, Ok, Err}
use Rattle.std.proofs.lemmas.Bool.{cases_Bool}
use Rattle.mqtt_base.specs.Phases.{identifier_of}
use Rattle.mqtt_base.specs.declared.session.Qos.{Qos}
use Rattle.mqtt_base.specs.declared.session.Qos.TheVariants.{AtMostOnce, AtLeastOnce, ExactlyOnce}
use Rattle.mqtt_base.specs.declared.session.Phase.{Phase}
use Rattle.mqtt_base.specs.declared.session.Phase.TheVariants.{Waiting, Sent, Released, Oversize}
use Rattle.mqtt_flow.specs.declared.outbound.entry.Entry.{Entry as FlowEntry}
use Rattle.mqtt_flow.specs.declared.outbound.entry.Turn.{Turn}
use Rattle.mqtt_flow.specs.declared.outbound.entry.Turn.TheVariants as turns
use Rattle.mqtt_flow.specs.outbound.Queue.{is_holder, holder, next_order}
use Rattle.mqtt_flow.specs.outbound.Outbound.{Answer, acknowledged, puback_by, puback_at, released_by, received, pubrec_by, pubrec_at, pubcomp_by, pubcomp_at, is_refusal}
use Rattle.mqtt_flow.specs.outbound.Outbound as rules
use Rattle.mqtt_records.specs.messages.Queue.{CopyRow}
use Rattle.mqtt_records.specs.declared.state.session.Session.{Session}
use Rattle.mqtt_records.specs.declared.state.records.Records.{Records}
use Rattle.mqtt_records.specs.declared.state.change.Change.{Change}
use Rattle.mqtt_records.specs.lists.Order.{IsAscending, row_at}
use Rattle.mqtt_records.specs.state.Session.{copy_place}
use Rattle.mqtt_records.proofs.lists_lemmas.LookUps.{row_at-here}
use Rattle.mqtt_rules.specs.declared.step.Capacity.{Capacity}
use Rattle.mqtt_rules.specs.step.State.{Line, Broker, Env, session_at, entry_on, queue_on, MemberChoice}
use Rattle.mqtt_rules.specs.step.Routing.{publish}
use Rattle.mqtt_rules.specs.step.Subscribe.{subscription, next_number}
use Rattle.mqtt_rules.specs.step.Deeds.{Whose, whose, FromClient, Part, Resume, Close, SetExpiry, DropWill, Open, Release, Enter, Mark, Leave, Deed, Name, Count, Link, Send, At, On, after, after_all, rows_of_all, series, always, with_session, with_line}
use Rattle.mqtt_rules.specs.step.Deeds as deeds
use Rattle.mqtt_rules.specs.step.Outbound.{of_entry, turn_deeds}
use Rattle.mqtt_rules.specs.step.Inbound.{pump_deeds}
use Rattle.mqtt_rules.specs.step.Step.{Call, deeds as step_deeds, env_of, at_moment, with_moment, stepped, unopened, opening, opened}
use Rattle.mqtt_rules.specs.step.Flight.{HasDistinctIdentifiers}
use Rattle.mqtt_rules.proofs.step_lemmas.acts.Leads.{leads_end}
use Rattle.mqtt_rules.proofs.step_lemmas.acts.Acts.{anyone, call_of_anyone, finds_anyone, is_alone, IsAnswer, Law, leads_call, leads_opening}
use Rattle.mqtt_rules.proofs.step_lemmas.acts.ByDeeds.{DeedLaw, TurnLaw, by_ends}
use Rattle.mqtt_rules.proofs.step_lemmas.flight.FlightRows.{found_behind}
use Rattle.mqtt_rules.proofs.step_lemmas.flight.FlightQueue.{flight-kept}
use Rattle.mqtt_rules.proofs.step_lemmas.flight.FlightRecords.{Unmarked, Sits, flight_of, sits-marked, begin_keeps, remove_keeps, parts_keep}
use Rattle.mqtt_rules.proofs.step_lemmas.flight.FlightPump.{pump_keeps}

-- ---- each deed that is no turn of a queue

abbrev pub Keeps : Deed → Broker → Type 0
Keeps d b = HasDistinctIdentifiers b.records → HasDistinctIdentifiers (after d b).records

unmarked : (part : Part) → is_alone part ≡ true → Unmarked part
unmarked (Mark place phase) is = absurd cc
unmarked (Resume expiry will) is = tt
unmarked (Close moment) is = tt
unmarked (SetExpiry expiry) is = tt
unmarked DropWill is = tt
unmarked (deeds.Subscribe s) is = tt
unmarked (deeds.Unsubscribe filter) is = tt
unmarked (Open id) is = tt
unmarked (Release id) is = tt
unmarked (Enter copy) is = tt
unmarked (Leave e ending) is = tt

abbrev pub Distinct : Broker → Type 0
Distinct b = HasDistinctIdentifiers b.records

part_distinct : (who : Whose) (part : Part) (b : Broker) → Unmarked part → Keeps (At who part) b
part_distinct who part b u h = parts_keep part (session_at who.birth b.records) b.records u h

keeping : (env : Env) → DeedLaw env anyone Distinct Keeps
keeping env = record {
  finds = finds_anyone Distinct;
  client_stays = λ client d b k g its. tt;
  kept = λ d b h g. g h;
  accept = λ origin m b k said h. h;
  keep = λ m b k said is full found h. h;
  forget = λ place b k h. h;
  enter = λ who copy b k made. part_distinct who (Enter copy) b tt;
  leave = λ who e ending b k. part_distinct who (Leave e ending) b tt;
  refuse_will = λ who b k its h. h;
  open_id = λ s id m ds b k g its there new is. part_distinct (whose s) (Open id) (after_all (publish env FromClient m ds b) b) tt;
  alone = λ who part b k its is. part_distinct who part b (unmarked part is);
  close = λ who b k its. part_distinct who (Close b.now) b tt;
  finish = λ who b k its h. remove_keeps who.birth b.records h;
  resume = λ who expiry will b k its. part_distinct who (Resume expiry will) b tt;
  name = λ b k h. h;
  begin_given = λ c b k came taken name is room h. begin_keeps _ _ b.records h;
  begin_assigned = λ c b k g came taken room h. begin_keeps _ _ (after (Name (suc b.records.autos)) b).records h;
  count = λ b k h. h;
  subscribe = λ w s b k g its granted. part_distinct (whose s) (deeds.Subscribe (subscription (next_number b.records) s w)) (after (Count (next_number b.records)) b) tt;
  link = λ b k h. h;
  on_line = λ line part b k h. h;
  send = λ line packet b k h. h;
  gone = λ line b k h. h;
}

-- ---- answers

-- a turn that releases a copy keeps its identifier
abbrev Kept : Session → Turn → Type 0
Kept s (turns.Send place i) = ⊥
Kept s (turns.Resend place i) = ⊥
Kept s (turns.Release place i order) = (e : CopyRow) × (row_at copy_place place s.queue ≡ Some e) × (identifier_of e.phase ≡ Some i)
Kept s (turns.Outgrow place i order) = ⊥
Kept s (turns.Repeat i) = Unit {0}
Kept s (turns.Unknown i) = Unit {0}
Kept s (turns.Leave place ending) = Unit {0}

abbrev KeptTurn : Session → Option Turn → Type 0
KeptTurn s None = Unit {0}
KeptTurn s (Some t) = Kept s t

abbrev KeptAnswer : Session → Answer → Type 0
KeptAnswer s (Ok t) = KeptTurn s t
KeptAnswer s (Err fault) = Unit {0}

leave_keeps : (s : Session) (o : Option CopyRow) (e : CopyRow → Deed) (b : Broker) → ((x : CopyRow) → Keeps (e x) b) → HasDistinctIdentifiers b.records → HasDistinctIdentifiers (after_all (of_entry o (λ x. e x ∷ [])) b).records
leave_keeps s None e b keeps h = h
leave_keeps s (Some x) e b keeps h = keeps x h

turn_keeps : (now line : ℕ) (s : Session) (t : Turn) (b : Broker) → Kept s t → session_at s.birth b.records ≡ Some s → HasDistinctIdentifiers b.records → HasDistinctIdentifiers (after_all (turn_deeds now line s t) b).records
turn_keeps now line s (turns.Send place i) b kept there h = absurd kept
turn_keeps now line s (turns.Resend place i) b kept there h = absurd kept
turn_keeps now line s (turns.Release place i order) b kept there h =
    let sits : Sits s.birth s.queue b.records = record { session = s; there = there; its_queue = refl; distinct = h } in
    (sits-marked (whose s) place (Released i order) s.queue b.records sits
    (flight-kept place (Released i order) kept.0 s.queue kept.1 (sym kept.2) (flight_of s.birth s.queue b.records sits))).distinct
turn_keeps now line s (turns.Outgrow place i order) b kept there h = absurd kept
turn_keeps now line s (turns.Repeat i) b kept there h = h
turn_keeps now line s (turns.Unknown i) b kept there h = h
turn_keeps now line s (turns.Leave place ending) b kept there h =
    leave_keeps s (row_at copy_place place s.queue) (λ e. At (whose s) (Leave e ending)) b (λ e. part_distinct (whose s) (Leave e ending) b tt) h

-- PUBACK and PUBCOMP end a copy
acknowledged_kept : (s : Session) (qos : Qos) (code place : ℕ) → KeptAnswer s (acknowledged qos code place)
acknowledged_kept s AtMostOnce code place = tt
acknowledged_kept s AtLeastOnce code place = tt
acknowledged_kept s ExactlyOnce code place = tt

puback_by_kept : (s : Session) (phase : Phase) (qos : Qos) (code place : ℕ) → KeptAnswer s (puback_by phase qos code place)
puback_by_kept s Waiting qos code place = tt
puback_by_kept s (Sent i) qos code place = acknowledged_kept s qos code place
puback_by_kept s (Released i order) qos code place = tt
puback_by_kept s (Oversize i order) qos code place = tt

puback_kept : (s : Session) (code : ℕ) (o : Option FlowEntry) → KeptAnswer s (puback_at code o)
puback_kept s code None = tt
puback_kept s code (Some e) = puback_by_kept s e.phase e.copy.qos code e.place

pubcomp_by_kept : (s : Session) (phase : Phase) (place : ℕ) → KeptAnswer s (pubcomp_by phase place)
pubcomp_by_kept s Waiting place = tt
pubcomp_by_kept s (Sent i) place = tt
pubcomp_by_kept s (Released i order) place = tt
pubcomp_by_kept s (Oversize i order) place = tt

pubcomp_kept : (s : Session) (o : Option FlowEntry) → KeptAnswer s (pubcomp_at o)
pubcomp_kept s None = tt
pubcomp_kept s (Some e) = pubcomp_by_kept s e.phase e.place

-- PUBREC releases the copy that has the identifier
record Source (queue : List CopyRow) (x : FlowEntry) : Type 0 where
  pub entry : CopyRow
  pub there : row_at copy_place x.place queue ≡ Some entry
  pub phase : entry.phase ≡ x.phase

find_by : (went : List ℕ) (birth : ℕ) (test : FlowEntry → Bool) (queue : List CopyRow) (x : FlowEntry) → IsAscending copy_place queue → find test (map (entry_on went) queue) ≡ Some x → Source queue x
find_by went birth test [] x up h = absurd cc
find_by went birth test (e ∷ es) x up h = elim (cases_Bool (test (entry_on went e))) [
  | inl here ↦
      let it : Some (entry_on went e) ≡ Some x = rw here at h in
      let is : entry_on went e ≡ x = cc in
      subst (Source (e ∷ es)) is (record { entry = e; there = row_at-here copy_place e es; phase = refl })
  | inr further ↦
      let source = find_by went birth test es x up.1 (rw further at h) in
      record { entry = source.entry; there = found_behind copy_place x.place source.entry e es up.0 source.there; phase = source.phase }
]

released_by_kept : (s : Session) (b : Bool) (x : FlowEntry) (i order : ℕ) → Source s.queue x → x.phase ≡ Sent i → KeptAnswer s (released_by b x.place i order)
released_by_kept s true x i order source is = tt
released_by_kept s false x i order source is = (source.entry, source.there, ap identifier_of (source.phase ∙ is))

received_kept : (s : Session) (qos : Qos) (code : ℕ) (x : FlowEntry) (i order : ℕ) → Source s.queue x → x.phase ≡ Sent i → KeptAnswer s (received qos code x.place i order)
received_kept s AtMostOnce code x i order source is = tt
received_kept s AtLeastOnce code x i order source is = tt
received_kept s ExactlyOnce code x i order source is = released_by_kept s (is_refusal code) x i order source is

pubrec_by_kept : (s : Session) (phase : Phase) (qos : Qos) (code : ℕ) (x : FlowEntry) (order : ℕ) → Source s.queue x → x.phase ≡ phase → KeptAnswer s (pubrec_by phase qos code x.place order)
pubrec_by_kept s Waiting qos code x order source is = tt
pubrec_by_kept s (Sent i) qos code x order source is = received_kept s qos code x i order source is
pubrec_by_kept s (Released i y) qos code x order source is = tt
pubrec_by_kept s (Oversize i y) qos code x order source is = tt

pubrec_kept : (s : Session) (i code order : ℕ) (o : Option FlowEntry) → ((x : FlowEntry) → o ≡ Some x → Source s.queue x) → KeptAnswer s (pubrec_at i code order o)
pubrec_kept s i code order None source = tt
pubrec_kept s i code order (Some x) source = pubrec_by_kept s x.phase x.copy.qos code x order (source x refl) refl

-- ---- the turns of an answer

pubrec_found : (l : Line) (s : Session) (id code : ℕ) (b : Broker) → session_at s.birth b.records ≡ Some s → Distinct b → KeptAnswer s (rules.pubrec id code (queue_on l.went s))
pubrec_found l s id code b there h =
    let queue = queue_on l.went s in
    let up = (flight_of s.birth s.queue b.records (record { session = s; there = there; its_queue = refl; distinct = h })).places in
    pubrec_kept s id code (next_order queue) (holder id queue) (λ x found. find_by l.went s.birth (λ e. is_holder id e.phase) s.queue x up found)

answer_kept : (a : Answer) (l : Line) (s : Session) (b : Broker) → session_at s.birth b.records ≡ Some s → Distinct b → IsAnswer a l s → KeptAnswer s a
answer_kept a l s b there h is = elim is [
  | inl it ↦ subst (KeptAnswer s) (sym it.2) (puback_kept s it.1 (holder it.0 (queue_on l.went s)))
  | inr more ↦ elim more [
    | inl it ↦ subst (KeptAnswer s) (sym it.2) (pubrec_found l s it.0 it.1 b there h)
    | inr it ↦ subst (KeptAnswer s) (sym it.1) (pubcomp_kept s (holder it.0 (queue_on l.went s)))
  ]
]

turns_keep : TurnLaw anyone Distinct (λ d b. ⊤)
turns_keep = record {
  pumps = λ l s b h its is there. leads_end Distinct (pump_deeds l b s) b (pump_keeps l s b there h);
  turns = λ a t l s b h its own there is e. leads_end Distinct (turn_deeds b.now l.number s t) b
      (turn_keeps b.now l.number s t b (subst (KeptAnswer s) e (answer_kept a l s b there h is)) there h);
}

flight_law : (env : Env) → Law env anyone Distinct (λ d b. ⊤)
flight_law env = by_ends env anyone Distinct Keeps (keeping env) (λ client b c its. tt) turns_keep

-- ---- a step and an opening

moment_keeps : (rows : List Change) (b : Broker) → HasDistinctIdentifiers b.records → HasDistinctIdentifiers (with_moment rows b).records
moment_keeps [] b h = h
moment_keeps (row ∷ rows) b h = h

-- a step keeps identifiers in flight apart
pub step_keeps : (limits : Capacity) (choice : MemberChoice) (now : ℕ) (call : Call) (b : Broker) → HasDistinctIdentifiers b.records → HasDistinctIdentifiers (stepped limits choice now call b).records
step_keeps limits choice now call b h =
    let c = at_moment now b in
    let ds = step_deeds limits choice now call b in
    moment_keeps (rows_of_all ds c.records) (after_all ds c) (leads_call (env_of limits choice b) anyone Distinct (λ d x. ⊤) (flight_law (env_of limits choice b)) call c h (call_of_anyone call c)).1

-- an opening keeps identifiers in flight apart
pub opening_keeps : (limits : Capacity) (choice : MemberChoice) (now : ℕ) (r : Records) → HasDistinctIdentifiers r → HasDistinctIdentifiers (opened limits choice now r).records
opening_keeps limits choice now r h =
    let b = unopened now r in
    let env = env_of limits choice b in
    let ds = opening env b in
    moment_keeps (rows_of_all ds b.records) (after_all ds b) (leads_opening env anyone Distinct (λ d x. ⊤) (flight_law env) (λ s x g is. leads_end Distinct (At (whose s) (Close x.now) ∷ []) x (part_distinct (whose s) (Close x.now) x tt g)) (λ birth. tt) b h).1
