-- A pump gives free identifiers: what its turns, one after the other, leave in a queue.
use Rattle.std.proofs.Common.{◌≡◌, ℕ, zero, suc, Bool, true, false, ◌||◌, List, [], ◌∷◌, ◌++◌, map, nat_eq, refl, sym, ap, subst, ◌∙◌, arith, inl, inr}
use Rattle.std.specs.Prelude.{Option, Some, None}
use Rattle.std.specs.List.{AllByRecursion}
use Rattle.std.proofs.lemmas.Bool.{cases_Bool}
use Rattle.std.proofs.lemmas.Cmp.{nat_eq_equiv}
use Rattle.mqtt_base.specs.Codes.{success}
use Rattle.mqtt_base.specs.Phases.{identifier_of}
use Rattle.mqtt_base.specs.declared.session.Qos.{Qos}
use Rattle.mqtt_base.specs.declared.session.Qos.TheVariants.{AtMostOnce, AtLeastOnce, ExactlyOnce}
use Rattle.mqtt_base.specs.declared.session.Ending.{Ending}
use Rattle.mqtt_base.specs.declared.session.Phase.{Phase}
use Rattle.mqtt_base.specs.declared.session.Phase.TheVariants.{Waiting, Sent, Released, Oversize}
use Rattle.mqtt_flow.specs.declared.outbound.entry.QueuedCopy.{QueuedCopy}
use Rattle.mqtt_flow.specs.declared.outbound.entry.Turn.{Turn}
use Rattle.mqtt_flow.specs.declared.outbound.entry.Turn.TheVariants as turns
use Rattle.mqtt_flow.specs.declared.outbound.entry.Way.{Way}
use Rattle.mqtt_flow.specs.inbound.Identifiers.{is_among, ids_without, free_identifier}
use Rattle.mqtt_flow.specs.outbound.Pacing.{Pacing}
use Rattle.mqtt_flow.specs.outbound.Queue.{also, identifiers}
use Rattle.mqtt_flow.specs.outbound.Outbound.{Verdict, pass, end, outgrow, send, resend, first_time, too_large, once_more, is_late, is_large, verdict_by, verdict, in_room, step_on, step_by, freed, paced, then_on, pump_from, pace, pump}
use Rattle.mqtt_flow.proofs.inbound_lemmas.Identifiers.{is_among-push, is_among-ids_without_other, free_is_free}
use Rattle.mqtt_records.specs.messages.Queue.{CopyRow}
use Rattle.mqtt_records.specs.declared.state.session.Session.{Session}
use Rattle.mqtt_records.specs.lists.Order.{IsAbove, IsAscending, row_at, remove_row, change_row}
use Rattle.mqtt_records.specs.state.Session.{copy_place, in_phase}
use Rattle.mqtt_records.proofs.lists_lemmas.OrderLemmas.{apart}
use Rattle.mqtt_records.proofs.lists_lemmas.LookUps.{row_at-remove_row}
use Rattle.mqtt_rules.specs.step.Fitting.{fitted, size_at, sized}
use Rattle.mqtt_rules.specs.step.State.{Broker, Line, session_at, told_on}
use Rattle.mqtt_rules.specs.step.Deeds.{whose, Mark, Leave, Went, At, On, Send, after, after_all}
use Rattle.mqtt_rules.specs.step.Outbound.{of_entry, all_turn_deeds, way_of}
use Rattle.mqtt_rules.specs.step.Packets.{publish_of, pubrel}
use Rattle.mqtt_rules.specs.step.Inbound.{pump_deeds}
use Rattle.mqtt_rules.specs.step.Flight.{identifier_in, identifier_at, IsFlight, HasDistinctIdentifiers}
use Rattle.mqtt_rules.proofs.step_lemmas.flight.FlightRows.{all_found, change_row-other}
use Rattle.mqtt_rules.proofs.step_lemmas.flight.FlightQueue.{place-kept, identifier-removed, identifier-marked, flight-kept, flight-sent}
use Rattle.mqtt_rules.proofs.step_lemmas.flight.FlightRecords.{Sits, flight_of, sits-marked, sits-left}

-- ---- the identifiers in use

-- they hold all that a queue has
abbrev pub Covers : List ℕ → List CopyRow → Type 0
Covers used queue = (place id : ℕ) → identifier_at place queue ≡ Some id → is_among id used ≡ true

covers-also : (o : Option ℕ) (id : ℕ) (used : List ℕ) → is_among id used ≡ true → is_among id (also o used) ≡ true
covers-also None id used h = h
covers-also (Some j) id used h = elim (cases_Bool (nat_eq j id)) [ inl same ↦ rw same refl | inr other ↦ rw other h ]

covers-first : (o : Option ℕ) (id : ℕ) (used : List ℕ) → o ≡ Some id → is_among id (also o used) ≡ true
covers-first None id used e = absurd cc
covers-first (Some j) id used e = let is : j ≡ id = cc in rw (ap (λ n. nat_eq n id) is ∙ nat_eq_equiv.refl id) refl

covers_all : (size : CopyRow → ℕ) (went : List ℕ) (birth : ℕ) (queue : List CopyRow) → Covers (identifiers (map (sized size went) queue)) queue
covers_all size went birth [] place id h = absurd cc
covers_all size went birth (e ∷ es) place id h = elim (cases_Bool (nat_eq e.place place)) [
  | inl here ↦ covers-first (identifier_of e.phase) id (identifiers (map (sized size went) es)) (rw here at h)
  | inr further ↦ covers-also (identifier_of e.phase) id (identifiers (map (sized size went) es)) (covers_all size went birth es place id (rw further at h))
]

or_true : (b : Bool) → (b || true) ≡ true
or_true true = refl
or_true false = refl

covers-sent : (place i : ℕ) (e : CopyRow) (used : List ℕ) (queue : List CopyRow) → row_at copy_place place queue ≡ Some e → Covers used queue → Covers (used ++ i ∷ []) (change_row copy_place place (in_phase (Sent i)) queue)
covers-sent place i e used queue there covers other id h = elim (identifier-marked place other id (Sent i) e queue there h) [
  | inl it ↦ let new : Some i ≡ Some id = it.1 in let is : i ≡ id = cc in is_among-push id i used ∙ rw (ap (λ n. nat_eq id n) is ∙ nat_eq_equiv.refl id) (or_true (is_among id used))
  | inr it ↦ is_among-push id i used ∙ rw (covers other id it.1) refl
]

covers-kept : (place : ℕ) (phase : Phase) (e : CopyRow) (used : List ℕ) (queue : List CopyRow) → row_at copy_place place queue ≡ Some e → identifier_of phase ≡ identifier_of e.phase → Covers used queue → Covers used (change_row copy_place place (in_phase phase) queue)
covers-kept place phase e used queue there same covers other id h = elim (identifier-marked place other id phase e queue there h) [
  | inl it ↦ covers place id (ap identifier_in there ∙ sym same ∙ it.1)
  | inr it ↦ covers other id it.1
]

-- the identifier of a copy that leaves is free, for no other copy has it
covers-closed : (place j : ℕ) (used : List ℕ) (queue : List CopyRow) → identifier_at place queue ≡ Some j → IsFlight queue → Covers used queue → Covers (ids_without j used) (remove_row copy_place place queue)
covers-closed place j used queue its flight covers other id h =
    let left = identifier-removed other place id queue h in
    let apart_ids : nat_eq id j ≡ false = apart id j (λ same.
    let one : place ≡ other = flight.identifiers place other id (its ∙ ap Some (sym same)) left.1 in
    let is : nat_eq place other ≡ true = ap (λ n. nat_eq n other) one ∙ nat_eq_equiv.refl other in
    let not = left.0 in
    let no : true ≡ false = sym is ∙ not in
    absurd cc) in
    is_among-ids_without_other id j used apart_ids ∙ covers other id left.1

covers-left : (phase : Phase) (place : ℕ) (used : List ℕ) (queue : List CopyRow) → identifier_at place queue ≡ identifier_of phase → IsFlight queue → Covers used queue → Covers (freed phase used) (remove_row copy_place place queue)
covers-left Waiting place used queue its flight covers = λ other id h. covers other id (identifier-removed other place id queue h).1
covers-left (Sent j) place used queue its flight covers = covers-closed place j used queue its flight covers
covers-left (Released j order) place used queue its flight covers = covers-closed place j used queue its flight covers
covers-left (Oversize j order) place used queue its flight covers = covers-closed place j used queue its flight covers

-- ---- the copies further on

abbrev pub Ahead : List CopyRow → List CopyRow → Type 0
Ahead queue es = AllByRecursion (λ e. row_at copy_place e.place queue ≡ Some e) es

ahead-removed : (place : ℕ) (queue es : List CopyRow) → IsAbove copy_place place es → Ahead queue es → Ahead (remove_row copy_place place queue) es
ahead-removed place queue [] up h = tt
ahead-removed place queue (e ∷ es) up h =
    let less = up.0 in
    (row_at-remove_row copy_place e.place place queue ∙ rw (apart place e.place (λ same. omega (arith, same, less))) h.0, ahead-removed place queue es up.1 h.1)

ahead-marked : (place : ℕ) (phase : Phase) (queue es : List CopyRow) → IsAbove copy_place place es → Ahead queue es → Ahead (change_row copy_place place (in_phase phase) queue) es
ahead-marked place phase queue [] up h = tt
ahead-marked place phase queue (e ∷ es) up h =
    let less = up.0 in
    (change_row-other copy_place e.place place (in_phase phase) queue (place-kept phase) (apart place e.place (λ same. omega (arith, same, less))) ∙ h.0, ahead-marked place phase queue es up.1 h.1)

-- ---- what a pump has for a copy keeps to its identifier

abbrev Right : Phase → Verdict → Type 0
Right phase pass = Unit {0}
Right phase (end ending) = Unit {0}
Right phase (outgrow i) = identifier_of phase ≡ Some i
Right phase send = Unit {0}
Right phase (resend i) = Unit {0}

right_first : (phase : Phase) (late large : Bool) → Right phase (first_time late large)
right_first phase true large = tt
right_first phase false true = tt
right_first phase false false = tt

right_large : (qos : Qos) (i : ℕ) → Right (Sent i) (too_large qos i)
right_large AtMostOnce i = tt
right_large AtLeastOnce i = tt
right_large ExactlyOnce i = refl

right_once : (here large : Bool) (qos : Qos) (i : ℕ) → Right (Sent i) (once_more here large qos i)
right_once true large qos i = tt
right_once false true qos i = right_large qos i
right_once false false qos i = tt

right : (way : Way) (copy : QueuedCopy) (here : Bool) (phase : Phase) → Right phase (verdict_by way copy here phase)
right way copy here Waiting = right_first Waiting (is_late way.now copy) (is_large way copy)
right way copy here (Sent i) = right_once here (is_large way copy) copy.qos i
right way copy here (Released i order) = tt
right way copy here (Oversize i order) = tt

-- ---- from copy to copy

module _ (size : CopyRow → ℕ) (way : Way) (now line : ℕ) (s : Session) (went : List ℕ) where
  -- after these turns no two copies have the same identifier
  abbrev Told : List Turn → Broker → Type 0
  Told ts b = HasDistinctIdentifiers (after_all (all_turn_deeds now line s ts) b).records

  -- and so it is after the turns for the copies further on, whatever stands by then
  abbrev Next : List CopyRow → (Pacing → List Turn) → Type 0
  Next es rest = (p : Pacing) (queue : List CopyRow) (b : Broker) → Covers p.used queue → Ahead queue es → Sits s.birth queue b.records → Told (rest p) b

  -- where a pump stands: at a copy of the session's queue as it was at first, and as it is
  record Place (e : CopyRow) (es queue : List CopyRow) (p : Pacing) (b : Broker) : Type 0 where
    pub was : row_at copy_place e.place s.queue ≡ Some e
    pub there : row_at copy_place e.place queue ≡ Some e
    pub above : IsAbove copy_place e.place es
    pub ahead : Ahead queue es
    pub covers : Covers p.used queue
    pub sits : Sits s.birth queue b.records

  take_leave : (ending : Ending) (e : CopyRow) (es queue : List CopyRow) (p : Pacing) (b : Broker) (rest : Pacing → List Turn) → Place e es queue p b → Next es rest → Told (then_on (in_room 1 (turns.Leave e.place ending)) e.phase p rest) b
  take_leave ending e es queue p b rest at next =
      let q = paced (turns.Leave e.place ending) e.phase p in
      subst (λ (o : Option CopyRow). HasDistinctIdentifiers (after_all (of_entry o (λ x. At (whose s) (Leave x ending) ∷ []) ++ all_turn_deeds now line s (rest q)) b).records) (sym at.was)
      (next q (remove_row copy_place e.place queue) (after (At (whose s) (Leave e ending)) b)
      (covers-left e.phase e.place p.used queue (ap identifier_in at.there) (flight_of s.birth queue b.records at.sits) at.covers)
      (ahead-removed e.place queue es at.above at.ahead)
      (sits-left (whose s) e ending queue b.records at.sits))

  take_outgrow : (i : ℕ) (e : CopyRow) (es queue : List CopyRow) (p : Pacing) (b : Broker) (rest : Pacing → List Turn) → identifier_of e.phase ≡ Some i → Place e es queue p b → Next es rest → Told (then_on (in_room 1 (turns.Outgrow e.place i p.order)) e.phase p rest) b
  take_outgrow i e es queue p b rest its at next =
      let phase = Oversize i p.order in
      next (paced (turns.Outgrow e.place i p.order) e.phase p) (change_row copy_place e.place (in_phase phase) queue) (after (Send line (pubrel i success)) (after (At (whose s) (Mark e.place phase)) b))
      (covers-kept e.place phase e p.used queue at.there (sym its) at.covers)
      (ahead-marked e.place phase queue es at.above at.ahead)
      (sits-marked (whose s) e.place phase queue b.records at.sits (flight-kept e.place phase e queue at.there (sym its) (flight_of s.birth queue b.records at.sits)))

  take_send : (e : CopyRow) (es queue : List CopyRow) (p : Pacing) (b : Broker) (rest : Pacing → List Turn) → Place e es queue p b → Next es rest → Told (then_on (in_room 1 (turns.Send e.place (free_identifier p.used))) e.phase p rest) b
  take_send e es queue p b rest at next =
      let i = free_identifier p.used in
      let q = paced (turns.Send e.place i) e.phase p in
      subst (λ (o : Option CopyRow). HasDistinctIdentifiers (after_all (of_entry o (λ x. At (whose s) (Mark e.place (Sent i)) ∷ On line (Went e.place) ∷ Send line (publish_of now false i x.copy) ∷ []) ++ all_turn_deeds now line s (rest q)) b).records) (sym at.was)
      (next q (change_row copy_place e.place (in_phase (Sent i)) queue) (after (Send line (publish_of now false i e.copy)) (after (On line (Went e.place)) (after (At (whose s) (Mark e.place (Sent i))) b)))
      (covers-sent e.place i e p.used queue at.there at.covers)
      (ahead-marked e.place (Sent i) queue es at.above at.ahead)
      (sits-marked (whose s) e.place (Sent i) queue b.records at.sits
      (flight-sent e.place i e queue at.there
      (λ other h. let no : true ≡ false = sym (at.covers other i h) ∙ free_is_free p.used in absurd cc)
      (flight_of s.birth queue b.records at.sits))))

  take_resend : (i : ℕ) (e : CopyRow) (es queue : List CopyRow) (p : Pacing) (b : Broker) (rest : Pacing → List Turn) → Place e es queue p b → Next es rest → Told (then_on (in_room 1 (turns.Resend e.place i)) e.phase p rest) b
  take_resend i e es queue p b rest at next =
      let q = paced (turns.Resend e.place i) e.phase p in
      subst (λ (o : Option CopyRow). HasDistinctIdentifiers (after_all (of_entry o (λ x. On line (Went e.place) ∷ Send line (publish_of now true i x.copy) ∷ []) ++ all_turn_deeds now line s (rest q)) b).records) (sym at.was)
      (next q queue (after (Send line (publish_of now true i e.copy)) (after (On line (Went e.place)) b)) at.covers at.ahead at.sits)

  by_room : (room : ℕ) (t : Turn) (phase : Phase) (p : Pacing) (b : Broker) (rest : Pacing → List Turn) → HasDistinctIdentifiers b.records → Told (then_on (in_room 1 t) phase p rest) b → Told (then_on (in_room room t) phase p rest) b
  by_room zero t phase p b rest stop take = stop
  by_room (suc room) t phase p b rest stop take = take

  walk_on : (v : Verdict) (e : CopyRow) (es queue : List CopyRow) (p : Pacing) (b : Broker) (rest : Pacing → List Turn) → Right e.phase v → Place e es queue p b → Next es rest → Told (then_on (step_on v e.place p) e.phase p rest) b
  walk_on pass e es queue p b rest fits at next = next p queue b at.covers at.ahead at.sits
  walk_on (end ending) e es queue p b rest fits at next = take_leave ending e es queue p b rest at next
  walk_on (outgrow i) e es queue p b rest fits at next = take_outgrow i e es queue p b rest fits at next
  walk_on send e es queue p b rest fits at next =
      by_room p.room (turns.Send e.place (free_identifier p.used)) e.phase p b rest at.sits.distinct (take_send e es queue p b rest at next)
  walk_on (resend i) e es queue p b rest fits at next =
      by_room p.room (turns.Resend e.place i) e.phase p b rest at.sits.distinct (take_resend i e es queue p b rest at next)

  walk_by : (left : ℕ) (v : Verdict) (e : CopyRow) (es queue : List CopyRow) (p : Pacing) (b : Broker) (rest : Pacing → List Turn) → Right e.phase v → Place e es queue p b → Next es rest → Told (then_on (step_by left v e.place p) e.phase p rest) b
  walk_by zero v e es queue p b rest fits at next = at.sits.distinct
  walk_by (suc left) v e es queue p b rest fits at next = walk_on v e es queue p b rest fits at next

  walk : (es : List CopyRow) → IsAscending copy_place es → Ahead s.queue es → Next es (pump_from way (map (sized size went) es))
  walk [] up was p queue b covers ahead sits = sits.distinct
  walk (e ∷ es) up was p queue b covers ahead sits =
      let x = sized size went e in
      walk_by p.left (verdict way x) e es queue p b (pump_from way (map (sized size went) es)) (right way x.copy x.here e.phase)
      (record { was = was.0; there = ahead.0; above = up.0; ahead = ahead.1; covers = covers; sits = sits })
      (walk es up.1 was.1)

  -- after a pump no two copies of the session have the same identifier
  pub pump_distinct : (b : Broker) → Sits s.birth s.queue b.records → Told (pump way (map (sized size went) s.queue)) b
  pump_distinct b sits =
      let up = (flight_of s.birth s.queue b.records sits).places in
      let all = all_found copy_place s.queue up in
      walk s.queue up all (pace way (map (sized size went) s.queue)) s.queue b (covers_all size went s.birth s.queue) all sits

-- a pump keeps identifiers distinct, whatever the sizes
pub sized_pump_keeps : (size : CopyRow → ℕ) (l : Line) (now : ℕ) (s : Session) (b : Broker) → session_at s.birth b.records ≡ Some s → HasDistinctIdentifiers b.records
    → HasDistinctIdentifiers (after_all (all_turn_deeds now l.number s (pump (way_of l now) (map (sized size l.went) s.queue))) b).records
sized_pump_keeps size l now s b there h =
    pump_distinct size (way_of l now) now l.number s l.went b (record { session = s; there = there; its_queue = refl; distinct = h })

-- by those of the forms in which they would go out
pub pump_keeps : (l : Line) (s : Session) (b : Broker) → session_at s.birth b.records ≡ Some s → HasDistinctIdentifiers b.records → HasDistinctIdentifiers (after_all (pump_deeds l b s) b).records
pump_keeps l s b = sized_pump_keeps (size_at (fitted l b.now (told_on l.number b.tellings) s.queue)) l b.now s b
