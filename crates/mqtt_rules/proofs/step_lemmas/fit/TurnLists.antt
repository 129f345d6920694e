-- The turns of a pump, of an answer, of a full queue and of a lapse rise in the order of the queue.
use Rattle.std.proofs.Common.{◌≡◌, ℕ, zero, suc, ◌≤◌, Bool, true, false, ◌&&◌, List, [], ◌∷◌, map, Option, Some, None, refl, sym, ap, subst, arith, inl, inr}
use Rattle.std.specs.Prelude.{⊤, is_some, find, Ok, Err}
use Rattle.std.specs.List.{AllByRecursion}
use Rattle.std.proofs.lemmas.Bool.{cases_Bool}
use Rattle.mqtt_base.specs.declared.session.Phase.{Phase}
use Rattle.mqtt_base.specs.declared.session.Phase.TheVariants.{Waiting, Sent, Released, Oversize}
use Rattle.mqtt_base.specs.declared.session.Qos.{Qos}
use Rattle.mqtt_base.specs.declared.session.Qos.TheVariants.{AtMostOnce, AtLeastOnce, ExactlyOnce}
use Rattle.mqtt_flow.specs.declared.outbound.entry.Entry.{Entry as FlowEntry}
use Rattle.mqtt_flow.specs.declared.outbound.entry.Turn.{Turn}
use Rattle.mqtt_flow.specs.declared.outbound.entry.Turn.TheVariants as turns
use Rattle.mqtt_flow.specs.declared.outbound.entry.Way.{Way}
use Rattle.mqtt_flow.specs.inbound.Identifiers.{free_identifier}
use Rattle.mqtt_flow.specs.outbound.Pacing.{Pacing}
use Rattle.mqtt_flow.specs.outbound.Queue.{is_holder, holder, next_order}
use Rattle.mqtt_flow.specs.outbound.Outbound.{Answer, gives_way, dropped_at, dropped, expired_at, expired, is_waiting, is_late, Verdict, pass, end, outgrow, send, resend, verdict, in_room, step_on, step_by, paced, then_on, pump_from, pace, pump, acknowledged, puback_by, puback_at, released_by, received, pubrec_by, pubrec_at, pubcomp_by, pubcomp_at, is_refusal}
use Rattle.mqtt_records.specs.messages.Queue.{CopyRow}
use Rattle.mqtt_records.specs.lists.Order.{IsAbove, IsAscending, row_at, has_row}
use Rattle.mqtt_records.specs.declared.state.session.Session.{Session}
use Rattle.mqtt_records.specs.state.Session.{copy_place}
use Rattle.mqtt_rules.specs.step.State.{Line, entry_on, queue_on}
use Rattle.mqtt_rules.proofs.step_lemmas.acts.Acts.{IsAnswer}
use Rattle.mqtt_rules.proofs.step_lemmas.flight.FlightRows.{all_found, all_more}
use Rattle.mqtt_rules.proofs.step_lemmas.fit.Turns.{Rises}
use Rattle.mqtt_rules.specs.step.Fitting.{sized}
use Rattle.mqtt_rules.proofs.step_lemmas.flight.SizedRows.{own_size}

-- ---- the places of a queue, from n on

abbrev From : List CopyRow → ℕ → List CopyRow → Type 0
From q n es = AllByRecursion (λ e. (n ≤ e.place) × (has_row copy_place e.place q ≡ true)) es

from_behind : (q : List CopyRow) (n m : ℕ) (es : List CopyRow) → IsAbove copy_place m es → From q n es → From q (suc m) es
from_behind q n m [] up h = tt
from_behind q n m (e ∷ es) up h = let less = up.0 in ((omega (arith, less), h.0.1), from_behind q n m es up.1 h.1)

rises_later : (q : List CopyRow) (m n : ℕ) (ts : List Turn) → m ≤ n → Rises q n ts → Rises q m ts
rises_later q m n [] le h = tt
rises_later q m n (turns.Send place id ∷ ts) le h = let at = h.0 in (omega (arith, at, le), h.1)
rises_later q m n (turns.Resend place id ∷ ts) le h = let at = h.0 in (omega (arith, at, le), h.1)
rises_later q m n (turns.Release place id order ∷ ts) le h = let at = h.0 in (omega (arith, at, le), h.1, h.2)
rises_later q m n (turns.Outgrow place id order ∷ ts) le h = let at = h.0 in (omega (arith, at, le), h.1, h.2)
rises_later q m n (turns.Repeat id ∷ ts) le h = rises_later q m n ts le h
rises_later q m n (turns.Unknown id ∷ ts) le h = rises_later q m n ts le h
rises_later q m n (turns.Leave place ending ∷ ts) le h = let at = h.0 in (omega (arith, at, le), h.1)

-- a queue whose places rise is all that stands from its front on
pub whole : (q : List CopyRow) → IsAscending copy_place q → From q 0 q
whole q up = all_more (λ (e : CopyRow). row_at copy_place e.place q ≡ Some e) (λ (e : CopyRow). (0 ≤ e.place) × (has_row copy_place e.place q ≡ true)) q (λ e there. (omega arith, ap is_some there)) (all_found copy_place q up)

-- ---- a full queue, and a lapse

rises_dropped : (q : List CopyRow) (k since n : ℕ) (went : List ℕ) (es : List CopyRow) → IsAscending copy_place es → From q n es → Rises q n (dropped k since (map (entry_on went) es))
rises_dropped q k since n went [] up h = tt
rises_dropped q zero since n went (e ∷ es) up h = tt
rises_dropped q (suc k) since n went (e ∷ es) up h =
    let behind = from_behind q n e.place es up.0 h.1 in
    by (gives_way since (entry_on went e)) (rises_dropped q k since (suc e.place) went es up.1 behind) (rises_dropped q (suc k) since (suc e.place) went es up.1 behind)
  where
    by : (t : Bool) → Rises q (suc e.place) (dropped k since (map (entry_on went) es)) → Rises q (suc e.place) (dropped (suc k) since (map (entry_on went) es))
        → Rises q n (dropped_at t (entry_on went e) (dropped k since (map (entry_on went) es)) (dropped (suc k) since (map (entry_on went) es)))
    by true fewer more = (h.0.0, fewer)
    by false fewer more = let le = h.0.0 in rises_later q n (suc e.place) (dropped (suc k) since (map (entry_on went) es)) (omega (arith, le)) more

rises_expired : (q : List CopyRow) (now n : ℕ) (went : List ℕ) (es : List CopyRow) → IsAscending copy_place es → From q n es → Rises q n (expired now (map (entry_on went) es))
rises_expired q now n went [] up h = tt
rises_expired q now n went (e ∷ es) up h =
    let x = entry_on went e in
    by (is_waiting x.phase && is_late now x.copy) (rises_expired q now (suc e.place) went es up.1 (from_behind q n e.place es up.0 h.1))
  where
    by : (t : Bool) → Rises q (suc e.place) (expired now (map (entry_on went) es)) → Rises q n (expired_at t (entry_on went e) (expired now (map (entry_on went) es)))
    by true r = (h.0.0, r)
    by false r = let le = h.0.0 in rises_later q n (suc e.place) (expired now (map (entry_on went) es)) (omega (arith, le)) r

-- ---- a pump

rises_pump : (size : CopyRow → ℕ) (way : Way) (q : List CopyRow) (went : List ℕ) (n : ℕ) (es : List CopyRow) (p : Pacing) → IsAscending copy_place es → From q n es → Rises q n (pump_from way (map (sized size went) es) p)
rises_pump size way q went n [] p up h = tt
rises_pump size way q went n (e ∷ es) p up h =
    let x = sized size went e in
    by p.left (verdict way x) (λ y. rises_pump size way q went (suc e.place) es y up.1 (from_behind q n e.place es up.0 h.1))
  where
    room : (k : ℕ) (t : Turn) → Rises q n (t ∷ pump_from way (map (sized size went) es) (paced t e.phase p)) → Rises q n (then_on (in_room k t) e.phase p (pump_from way (map (sized size went) es)))
    room zero t r = tt
    room (suc k) t r = r

    on : (v : Verdict) → ((y : Pacing) → Rises q (suc e.place) (pump_from way (map (sized size went) es) y)) → Rises q n (then_on (step_on v e.place p) e.phase p (pump_from way (map (sized size went) es)))
    on pass r = let le = h.0.0 in rises_later q n (suc e.place) (pump_from way (map (sized size went) es) p) (omega (arith, le)) (r p)
    on (end ending) r = (h.0.0, r (paced (turns.Leave e.place ending) e.phase p))
    on (outgrow i) r = (h.0.0, h.0.1, r (paced (turns.Outgrow e.place i p.order) e.phase p))
    on send r = room p.room (turns.Send e.place (free_identifier p.used)) (h.0.0, r (paced (turns.Send e.place (free_identifier p.used)) e.phase p))
    on (resend i) r = room p.room (turns.Resend e.place i) (h.0.0, r (paced (turns.Resend e.place i) e.phase p))

    by : (left : ℕ) (v : Verdict) → ((y : Pacing) → Rises q (suc e.place) (pump_from way (map (sized size went) es) y)) → Rises q n (then_on (step_by left v e.place p) e.phase p (pump_from way (map (sized size went) es)))
    by zero v r = tt
    by (suc k) v r = on v r

-- ---- an answer

abbrev RisesAnswer : List CopyRow → Answer → Type 0
RisesAnswer q (Ok None) = ⊤
RisesAnswer q (Ok (Some t)) = Rises q 0 (t ∷ [])
RisesAnswer q (Err fault) = ⊤

rises_acknowledged : (q : List CopyRow) (qos : Qos) (code place : ℕ) → RisesAnswer q (acknowledged qos code place)
rises_acknowledged q AtMostOnce code place = tt
rises_acknowledged q AtLeastOnce code place = (omega arith, tt)
rises_acknowledged q ExactlyOnce code place = tt

rises_puback : (q : List CopyRow) (code : ℕ) (o : Option FlowEntry) → RisesAnswer q (puback_at code o)
rises_puback q code None = tt
rises_puback q code (Some e) = by e.phase
  where
    by : (phase : Phase) → RisesAnswer q (puback_by phase e.copy.qos code e.place)
    by Waiting = tt
    by (Sent i) = rises_acknowledged q e.copy.qos code e.place
    by (Released i order) = tt
    by (Oversize i order) = tt

rises_pubcomp : (q : List CopyRow) (o : Option FlowEntry) → RisesAnswer q (pubcomp_at o)
rises_pubcomp q None = tt
rises_pubcomp q (Some e) = by e.phase
  where
    by : (phase : Phase) → RisesAnswer q (pubcomp_by phase e.place)
    by Waiting = tt
    by (Sent i) = tt
    by (Released i order) = (omega arith, tt)
    by (Oversize i order) = (omega arith, tt)

rises_released : (q : List CopyRow) (t : Bool) (place i order : ℕ) → has_row copy_place place q ≡ true → RisesAnswer q (released_by t place i order)
rises_released q true place i order there = (omega arith, tt)
rises_released q false place i order there = (omega arith, there, tt)

rises_received : (q : List CopyRow) (qos : Qos) (code place i order : ℕ) → has_row copy_place place q ≡ true → RisesAnswer q (received qos code place i order)
rises_received q AtMostOnce code place i order there = tt
rises_received q AtLeastOnce code place i order there = tt
rises_received q ExactlyOnce code place i order there = rises_released q (is_refusal code) place i order there

rises_pubrec : (q : List CopyRow) (i code order : ℕ) (o : Option FlowEntry) → ((x : FlowEntry) → o ≡ Some x → has_row copy_place x.place q ≡ true) → RisesAnswer q (pubrec_at i code order o)
rises_pubrec q i code order None there = tt
rises_pubrec q i code order (Some e) there = by e.phase
  where
    by : (phase : Phase) → RisesAnswer q (pubrec_by phase e.copy.qos code e.place order)
    by Waiting = tt
    by (Sent j) = rises_received q e.copy.qos code e.place j order (there e refl)
    by (Released j k) = tt
    by (Oversize j k) = tt

-- what is found in a queue stands at its place
found_place : (went : List ℕ) (test : FlowEntry → Bool) (q es : List CopyRow) (x : FlowEntry) → AllByRecursion (λ e. (0 ≤ e.place) × (has_row copy_place e.place q ≡ true)) es → find test (map (entry_on went) es) ≡ Some x → has_row copy_place x.place q ≡ true
found_place went test q [] x h e = absurd cc
found_place went test q (y ∷ ys) x h e = elim (cases_Bool (test (entry_on went y))) [
  | inl here ↦
      let first : Some (entry_on went y) ≡ Some x = rw here at e in
      let it : entry_on went y ≡ x = cc in
      subst (λ (z : FlowEntry). has_row copy_place z.place q ≡ true) it h.0.1
  | inr other ↦ found_place went test q ys x h.1 (rw other at e)
]

rises_answer : (a : Answer) (l : Line) (s : Session) → IsAscending copy_place s.queue → IsAnswer a l s → RisesAnswer s.queue a
rises_answer a l s up is = elim is [
  | inl it ↦ subst (RisesAnswer s.queue) (sym it.2) (rises_puback s.queue it.1 (holder it.0 (queue_on l.went s)))
  | inr more ↦ elim more [
    | inl it ↦
        subst (RisesAnswer s.queue) (sym it.2)
        (rises_pubrec s.queue it.0 it.1 (next_order (queue_on l.went s)) (holder it.0 (queue_on l.went s)) (λ x e. found_place l.went (λ y. is_holder it.0 y.phase) s.queue s.queue x (whole s.queue up) e))
    | inr it ↦ subst (RisesAnswer s.queue) (sym it.1) (rises_pubcomp s.queue (holder it.0 (queue_on l.went s)))
  ]
]

-- ---- together

-- the turn that a receiver's answer asks for is of a copy that stands
pub answers_rise : (a : Answer) (t : Turn) (l : Line) (s : Session) → IsAscending copy_place s.queue → IsAnswer a l s → a ≡ Ok (Some t) → Rises s.queue 0 (t ∷ [])
answers_rise a t l s up is e = subst (RisesAnswer s.queue) e (rises_answer a l s up is)

-- the turns of a pump go up the queue, one at most for a copy, whatever the sizes
pub sized_pumps_rise : (size : CopyRow → ℕ) (way : Way) (went : List ℕ) (s : Session) → IsAscending copy_place s.queue → Rises s.queue 0 (pump way (map (sized size went) s.queue))
sized_pumps_rise size way went s up = rises_pump size way s.queue went 0 s.queue (pace way (map (sized size went) s.queue)) up (whole s.queue up)

-- by those that rows remember
pub pumps_rise : (way : Way) (went : List ℕ) (s : Session) → IsAscending copy_place s.queue → Rises s.queue 0 (pump way (queue_on went s))
pumps_rise = sized_pumps_rise own_size

-- the turns by which copies expire go up the queue, one at most for a copy
pub lapses_rise : (now : ℕ) (s : Session) → IsAscending copy_place s.queue → Rises s.queue 0 (expired now (queue_on [] s))
lapses_rise now s up = rises_expired s.queue now 0 [] s.queue up (whole s.queue up)

-- the turns by which copies make way go up the queue, one at most for a copy
pub drops_rise : (k since : ℕ) (s : Session) → IsAscending copy_place s.queue → Rises s.queue 0 (dropped k since (queue_on [] s))
drops_rise k since s up = rises_dropped s.queue k since 0 [] s.queue up (whole s.queue up)
