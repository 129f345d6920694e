-- The turns of a queue: each identifier that goes out has two bytes, and isn't 0 (MQTT 5.0, 2.2.1, 4.3, 4.4).
use Rattle.std.proofs.Common.{◌≡◌, ℕ, zero, suc, ◌+◌, ◌≤◌, Bool, true, false, List, [], ◌∷◌, length, map, Option, Some, None, Ok, Err, nat_eq, nat_lt, refl, subst, arith, inl, inr}
use Rattle.std.specs.Prelude.{⊤, find, not}
use Rattle.std.specs.List.{AllByRecursion}
use Rattle.std.proofs.lemmas.Bool.{cases_Bool}
use Rattle.std.proofs.lemmas.List.{length-append}
use Rattle.mqtt_base.specs.Codes.{success, identifier_not_found}
use Rattle.mqtt_base.specs.declared.limits.TheConstants.{QUEUE_LIMIT}
use Rattle.mqtt_base.specs.declared.session.Phase.{Phase}
use Rattle.mqtt_base.specs.declared.session.Phase.TheVariants.{Waiting, Sent, Released, Oversize}
use Rattle.mqtt_base.specs.declared.session.Qos.{Qos}
use Rattle.mqtt_base.specs.declared.session.Qos.TheVariants as qos
use Rattle.mqtt_flow.specs.outbound.Outbound.{Answer, Verdict, pass, end, outgrow, send, resend, due_from, due_of, by_order, first_time, freed, in_room, is_large, is_late, is_refusal, once_more, pace, paced, pubcomp_at, pubcomp_by, pubrec_at, pubrec_by, puback_at, puback_by, pump, pump_from, received, released_by, acknowledged, resumed_with, step_by, step_on, then_on, too_large, verdict, verdict_by}
use Rattle.mqtt_flow.specs.outbound.Outbound as rules
use Rattle.mqtt_flow.specs.outbound.Pacing.{Pacing}
use Rattle.mqtt_flow.specs.outbound.Queue.{also, holder, identifiers, is_holder, next_order}
use Rattle.mqtt_base.specs.Phases.{identifier_of}
use Rattle.mqtt_flow.specs.declared.outbound.entry.Entry.{Entry}
use Rattle.mqtt_flow.specs.declared.outbound.entry.Turn.{Turn}
use Rattle.mqtt_flow.specs.declared.outbound.entry.Turn.TheVariants as turns
use Rattle.mqtt_flow.specs.declared.outbound.entry.Way.{Way}
use Rattle.mqtt_flow.specs.inbound.Identifiers.{free_identifier, is_among, lowest_from}
use Rattle.mqtt_records.specs.messages.Queue.{CopyRow}
use Rattle.mqtt_records.specs.state.Session.{copy_place}
use Rattle.mqtt_records.specs.declared.state.session.Session.{Session}
use Rattle.mqtt_records.specs.lists.Order.{row_at}
use Rattle.mqtt_rules.specs.step.Contents.{HasContentsOf, IsCopiedOf, of_rows}
use Rattle.mqtt_rules.specs.step.Deeds.{whose, Mark, Went, Deed, At, On, Send}
use Rattle.mqtt_rules.specs.step.Fitting.{sized}
use Rattle.mqtt_rules.specs.step.Outbound.{all_turn_deeds, of_entry, turn_deeds}
use Rattle.mqtt_rules.specs.step.Packets.{publish_of}
use Rattle.mqtt_rules.specs.step.State.{entry_on, queue_on}
use Rattle.mqtt_rules.proofs.step_lemmas.numbers.Copies.{each_append, each_map}
use Rattle.mqtt_rules.proofs.step_lemmas.flight.FlightRows.{all_at}
use Rattle.mqtt_rules.proofs.step_lemmas.order.Ordered.{length-filter_le}
use Rattle.mqtt_rules.proofs.step_lemmas.order.OrderedQueues.{length-mapped}
use Rattle.mqtt_rules.specs.spelling.Sending.{HasSentPhases, IsPacketIdentifier, IsSentPhase}
use Rattle.mqtt_rules.proofs.spelling_lemmas.Copies.{said_leave}
use Rattle.mqtt_rules.proofs.spelling_lemmas.Fine.{AreSaid, IsSaid}
use Rattle.mqtt_rules.proofs.spelling_lemmas.Packets.{identifier_at, publish_spelled, pubrel_spelled}

-- ---- turns with such an identifier

abbrev pub IsTurn : Turn → Type 0
IsTurn (turns.Send place id) = IsPacketIdentifier id
IsTurn (turns.Resend place id) = IsPacketIdentifier id
IsTurn (turns.Release place id order) = IsPacketIdentifier id
IsTurn (turns.Outgrow place id order) = IsPacketIdentifier id
IsTurn (turns.Repeat id) = IsPacketIdentifier id
IsTurn (turns.Unknown id) = IsPacketIdentifier id
IsTurn (turns.Leave place ending) = ⊤

-- what they send
said_entry : (s : Session) (o : Option CopyRow) (f : CopyRow → List Deed) → ((e : CopyRow) → o ≡ Some e → AreSaid (f e)) → AreSaid (of_entry o f)
said_entry s None f h = tt
said_entry s (Some e) f h = h e refl

its_copy : (place : ℕ) (s : Session) (e : CopyRow) → HasContentsOf of_rows s → row_at copy_place place s.queue ≡ Some e → IsCopiedOf of_rows e.copy
its_copy place s e h there = all_at copy_place (λ (x : CopyRow). IsCopiedOf of_rows x.copy) place e s.queue h.queue there

-- a turn says a packet with a spelling
pub said_turn : (now line : ℕ) (s : Session) (t : Turn) → HasContentsOf of_rows s → IsTurn t → AreSaid (turn_deeds now line s t)
said_turn now line s (turns.Send place id) h q =
    said_entry s (row_at copy_place place s.queue) (λ e. At (whose s) (Mark place (Sent id)) ∷ On line (Went place) ∷ Send line (publish_of now false id e.copy) ∷ [])
    (λ e there. (q, (tt, (publish_spelled now false id e.copy (its_copy place s e h there) (identifier_at e.copy.qos id q), tt))))
said_turn now line s (turns.Resend place id) h q =
    said_entry s (row_at copy_place place s.queue) (λ e. On line (Went place) ∷ Send line (publish_of now true id e.copy) ∷ [])
    (λ e there. (tt, (publish_spelled now true id e.copy (its_copy place s e h there) (identifier_at e.copy.qos id q), tt)))
said_turn now line s (turns.Release place id order) h q = (q, (pubrel_spelled id success q refl, tt))
said_turn now line s (turns.Outgrow place id order) h q = (q, (pubrel_spelled id success q refl, tt))
said_turn now line s (turns.Repeat id) h q = (pubrel_spelled id success q refl, tt)
said_turn now line s (turns.Unknown id) h q = (pubrel_spelled id identifier_not_found q refl, tt)
said_turn now line s (turns.Leave place ending) h q = said_leave s (turns.Leave place ending)

-- so do many
pub said_turns : (now line : ℕ) (s : Session) (ts : List Turn) → HasContentsOf of_rows s → AllByRecursion IsTurn ts → AreSaid (all_turn_deeds now line s ts)
said_turns now line s [] h q = tt
said_turns now line s (t ∷ ts) h q = each_append IsSaid (turn_deeds now line s t) (all_turn_deeds now line s ts) (said_turn now line s t h q.0) (said_turns now line s ts h q.1)

-- ---- a queue as the session rules see it

abbrev IsEntry : Entry → Type 0
IsEntry e = IsSentPhase e.phase

entries : (went : List ℕ) (s : Session) → HasSentPhases s → AllByRecursion IsEntry (queue_on went s)
entries went s h = each_map IsEntry (entry_on went) s.queue h

-- ---- answers

abbrev pub IsAnswer : Answer → Type 0
IsAnswer (Ok None) = ⊤
IsAnswer (Ok (Some t)) = IsTurn t
IsAnswer (Err fault) = ⊤

acknowledged_turn : (q : Qos) (code place : ℕ) → IsAnswer (acknowledged q code place)
acknowledged_turn qos.AtMostOnce code place = tt
acknowledged_turn qos.AtLeastOnce code place = tt
acknowledged_turn qos.ExactlyOnce code place = tt

puback_phase : (phase : Phase) (q : Qos) (code place : ℕ) → IsAnswer (puback_by phase q code place)
puback_phase Waiting q code place = tt
puback_phase (Sent i) q code place = acknowledged_turn q code place
puback_phase (Released i order) q code place = tt
puback_phase (Oversize i order) q code place = tt

puback_entry : (code : ℕ) (o : Option Entry) → IsAnswer (puback_at code o)
puback_entry code None = tt
puback_entry code (Some e) = puback_phase e.phase e.copy.qos code e.place

-- what a PUBACK asks for is such a turn
pub puback_turn : (id code : ℕ) (queue : List Entry) → IsAnswer (rules.puback id code queue)
puback_turn id code queue = puback_entry code (holder id queue)

released_turn : (t : Bool) (place id order : ℕ) → IsPacketIdentifier id → IsAnswer (released_by t place id order)
released_turn true place id order q = tt
released_turn false place id order q = q

received_turn : (k : Qos) (code place id order : ℕ) → IsPacketIdentifier id → IsAnswer (received k code place id order)
received_turn qos.AtMostOnce code place id order q = tt
received_turn qos.AtLeastOnce code place id order q = tt
received_turn qos.ExactlyOnce code place id order q = released_turn (is_refusal code) place id order q

pubrec_phase : (phase : Phase) (k : Qos) (code place order : ℕ) → IsSentPhase phase → IsAnswer (pubrec_by phase k code place order)
pubrec_phase Waiting k code place order q = tt
pubrec_phase (Sent i) k code place order q = received_turn k code place i order q
pubrec_phase (Released i x) k code place order q = q
pubrec_phase (Oversize i x) k code place order q = q

pubrec_entry : (id code order : ℕ) (queue : List Entry) (o : Option Entry) → find (λ e. is_holder id e.phase) queue ≡ o → IsPacketIdentifier id → AllByRecursion IsEntry queue → IsAnswer (pubrec_at id code order o)
pubrec_entry id code order queue None e q h = q
pubrec_entry id code order queue (Some x) e q h = pubrec_phase x.phase x.copy.qos code x.place order (found (λ e. is_holder id e.phase) x queue h e)
  where
    found : (test : Entry → Bool) (x : Entry) (es : List Entry) → AllByRecursion IsEntry es → find test es ≡ Some x → IsEntry x
    found test x [] h e = absurd cc
    found test x (y ∷ ys) h e = elim (cases_Bool (test y)) [
      | inl here ↦ let first : Some y ≡ Some x = rw here at e in let it : y ≡ x = cc in subst IsEntry it h.0
      | inr other ↦ found test x ys h.1 (rw other at e)
    ]

-- so is what a PUBREC asks for
pub pubrec_turn : (id code : ℕ) (went : List ℕ) (s : Session) → IsPacketIdentifier id → HasSentPhases s → IsAnswer (rules.pubrec id code (queue_on went s))
pubrec_turn id code went s q h = let queue = queue_on went s in pubrec_entry id code (next_order queue) queue (holder id queue) refl q (entries went s h)

pubcomp_phase : (phase : Phase) (place : ℕ) → IsAnswer (pubcomp_by phase place)
pubcomp_phase Waiting place = tt
pubcomp_phase (Sent i) place = tt
pubcomp_phase (Released i order) place = tt
pubcomp_phase (Oversize i order) place = tt

pubcomp_entry : (o : Option Entry) → IsAnswer (pubcomp_at o)
pubcomp_entry None = tt
pubcomp_entry (Some e) = pubcomp_phase e.phase e.place

-- and a PUBCOMP
pub pubcomp_turn : (id : ℕ) (queue : List Entry) → IsAnswer (rules.pubcomp id queue)
pubcomp_turn id queue = pubcomp_entry (holder id queue)

-- ---- resuming

abbrev AreDue : {X : Type 0} → List X → (X → ℕ) → Type 0
AreDue xs number = AllByRecursion (λ x. IsPacketIdentifier (number x)) xs

due_in : (order id : ℕ) (ds : _) → (let all = by_order (record { order = order; identifier = id }) ds in IsPacketIdentifier id → AreDue ds (λ x. x.identifier) → AreDue all (λ x. x.identifier))
due_in order id [] q h = (q, tt)
due_in order id (x ∷ xs) q h = elim (cases_Bool (nat_lt order x.order)) [
  | inl before ↦ rw before (q, h)
  | inr behind ↦ rw behind (h.0, due_in order id xs q h.1)
]

due_phase : (phase : Phase) (ds : _) → (let all = due_of phase ds in IsSentPhase phase → AreDue ds (λ x. x.identifier) → AreDue all (λ x. x.identifier))
due_phase Waiting ds q h = h
due_phase (Sent i) ds q h = h
due_phase (Released i order) ds q h = due_in order i ds q h
due_phase (Oversize i order) ds q h = due_in order i ds q h

due_all : (es : List Entry) (ds : _) → (let all = due_from ds es in AllByRecursion IsEntry es → AreDue ds (λ x. x.identifier) → AreDue all (λ x. x.identifier))
due_all [] ds q h = h
due_all (e ∷ es) ds q h = due_all es (due_of e.phase ds) q.1 (due_phase e.phase ds q.0 h)

repeats : {X : Type 0} (xs : List X) (number : X → ℕ) → AreDue xs number → AllByRecursion IsTurn (map (λ x. turns.Repeat (number x)) xs)
repeats [] number h = tt
repeats (x ∷ xs) number h = (h.0, repeats xs number h.1)

-- the turns of a resumption are such
pub resumed_turns : (s : Session) → HasSentPhases s → AllByRecursion IsTurn (resumed_with (queue_on [] s))
resumed_turns s h = repeats (due_from [] (queue_on [] s)) (λ d. d.identifier) (due_all (queue_on [] s) [] (entries [] s h) tt)

-- ---- pumping: the lowest free identifier is at most one above as many as are in use

lowest_within : (k i : ℕ) (used : List ℕ) → (i ≤ lowest_from k i used) × (lowest_from k i used ≤ i + k)
lowest_within zero i used = (omega arith, omega arith)
lowest_within (suc k) i used = elim (cases_Bool (is_among i used)) [
  | inl among ↦ let r = lowest_within k (suc i) used in let low = r.0 in let high = r.1 in rw among (omega (arith, low), omega (arith, high))
  | inr free ↦ rw free (omega arith, omega arith)
]

free_two_bytes : (used : List ℕ) → length used ≤ 2000 → IsPacketIdentifier (free_identifier used)
free_two_bytes used few =
    let r = lowest_within (length used) 1 used in
    let low = r.0 in
    let high = r.1 in
    record { some = low; fits = omega (arith, high, few) }

freed_fewer : (phase : Phase) (used : List ℕ) → length (freed phase used) ≤ length used
freed_fewer Waiting used = omega arith
freed_fewer (Sent i) used = length-filter_le (λ other. not (nat_eq other i)) used
freed_fewer (Released i order) used = length-filter_le (λ other. not (nat_eq other i)) used
freed_fewer (Oversize i order) used = length-filter_le (λ other. not (nat_eq other i)) used

-- a turn uses one identifier at most
paced_used : (t : Turn) (phase : Phase) (p : Pacing) → length (paced t phase p).used ≤ suc (length p.used)
paced_used (turns.Send place i) phase p = let sum = length-append p.used (i ∷ []) in omega (arith, sum)
paced_used (turns.Resend place i) phase p = omega arith
paced_used (turns.Release place i order) phase p = omega arith
paced_used (turns.Outgrow place i order) phase p = omega arith
paced_used (turns.Repeat i) phase p = omega arith
paced_used (turns.Unknown i) phase p = omega arith
paced_used (turns.Leave place ending) phase p = let fewer = freed_fewer phase p.used in omega (arith, fewer)

abbrev IsVerdict : Verdict → Type 0
IsVerdict pass = ⊤
IsVerdict (end ending) = ⊤
IsVerdict (outgrow i) = IsPacketIdentifier i
IsVerdict send = ⊤
IsVerdict (resend i) = IsPacketIdentifier i

first_verdict : (late large : Bool) → IsVerdict (first_time late large)
first_verdict true large = tt
first_verdict false true = tt
first_verdict false false = tt

large_verdict : (k : Qos) (i : ℕ) → IsPacketIdentifier i → IsVerdict (too_large k i)
large_verdict qos.AtMostOnce i q = tt
large_verdict qos.AtLeastOnce i q = tt
large_verdict qos.ExactlyOnce i q = q

more_verdict : (here large : Bool) (k : Qos) (i : ℕ) → IsPacketIdentifier i → IsVerdict (once_more here large k i)
more_verdict true large k i q = tt
more_verdict false true k i q = large_verdict k i q
more_verdict false false k i q = q

phase_verdict : (way : Way) (e : Entry) (phase : Phase) → IsSentPhase phase → IsVerdict (verdict_by way e.copy e.here phase)
phase_verdict way e Waiting q = first_verdict (is_late way.now e.copy) (is_large way e.copy)
phase_verdict way e (Sent i) q = more_verdict e.here (is_large way e.copy) e.copy.qos i q
phase_verdict way e (Released i order) q = tt
phase_verdict way e (Oversize i order) q = tt

-- the turns of the entries that are left
abbrev AreLeft : ℕ → (Pacing → List Turn) → Type 0
AreLeft n rest = (p : Pacing) → length p.used + n ≤ 2000 → AllByRecursion IsTurn (rest p)

taken : (t : Turn) (phase : Phase) (p : Pacing) (n : ℕ) (rest : Pacing → List Turn) → IsTurn t → length p.used + suc n ≤ 2000 → AreLeft n rest → AllByRecursion IsTurn (t ∷ rest (paced t phase p))
taken t phase p n rest q few h = let used = paced_used t phase p in (q, h (paced t phase p) (omega (arith, few, used)))

room_turns : (room : ℕ) (t : Turn) (phase : Phase) (p : Pacing) (n : ℕ) (rest : Pacing → List Turn) → IsTurn t → length p.used + suc n ≤ 2000 → AreLeft n rest → AllByRecursion IsTurn (then_on (in_room room t) phase p rest)
room_turns zero t phase p n rest q few h = tt
room_turns (suc room) t phase p n rest q few h = taken t phase p n rest q few h

verdict_turns : (v : Verdict) (place : ℕ) (phase : Phase) (p : Pacing) (n : ℕ) (rest : Pacing → List Turn) → IsVerdict v → length p.used + suc n ≤ 2000 → AreLeft n rest → AllByRecursion IsTurn (then_on (step_on v place p) phase p rest)
verdict_turns pass place phase p n rest q few h = h p (omega (arith, few))
verdict_turns (end ending) place phase p n rest q few h = taken (turns.Leave place ending) phase p n rest tt few h
verdict_turns (outgrow i) place phase p n rest q few h = taken (turns.Outgrow place i p.order) phase p n rest q few h
verdict_turns send place phase p n rest q few h = room_turns p.room (turns.Send place (free_identifier p.used)) phase p n rest (free_two_bytes p.used (omega (arith, few))) few h
verdict_turns (resend i) place phase p n rest q few h = room_turns p.room (turns.Resend place i) phase p n rest q few h

left_turns : (left : ℕ) (v : Verdict) (place : ℕ) (phase : Phase) (p : Pacing) (n : ℕ) (rest : Pacing → List Turn) → IsVerdict v → length p.used + suc n ≤ 2000 → AreLeft n rest → AllByRecursion IsTurn (then_on (step_by left v place p) phase p rest)
left_turns zero v place phase p n rest q few h = tt
left_turns (suc left) v place phase p n rest q few h = verdict_turns v place phase p n rest q few h

pumped_from : (way : Way) (es : List Entry) → AllByRecursion IsEntry es → AreLeft (length es) (pump_from way es)
pumped_from way [] h p few = tt
pumped_from way (e ∷ es) h p few = left_turns p.left (verdict way e) e.place e.phase p (length es) (pump_from way es) (phase_verdict way e e.phase h.0) few (pumped_from way es h.1)

used_few : (es : List Entry) → length (identifiers es) ≤ length es
used_few [] = omega arith
used_few (e ∷ es) = let rest = used_few es in by (identifier_of e.phase) rest
  where
    by : (o : Option ℕ) → length (identifiers es) ≤ length es → length (also o (identifiers es)) ≤ suc (length es)
    by None le = omega (arith, le)
    by (Some i) le = omega (arith, le)

-- and those of a pump, whatever bytes it finds the rows to have
pub pumped_turns : (way : Way) (size : CopyRow → ℕ) (went : List ℕ) (s : Session) → HasSentPhases s → length s.queue ≤ QUEUE_LIMIT → AllByRecursion IsTurn (pump way (map (sized size went) s.queue))
pumped_turns way size went s h few =
    let queue = map (sized size went) s.queue in
    let used = used_few queue in
    let same = length-mapped (sized size went) s.queue in
    pumped_from way queue (each_map IsEntry (sized size went) s.queue h) (pace way queue) (omega (arith, used, same, few))
