-- Pumps whose sizes find the same copies too large have the same turns.
use Rattle.std.proofs.Common.{◌≡◌, ℕ, zero, suc, ◌-◌, ◌+◌, Bool, List, [], ◌∷◌, map, refl, ap, ◌∙◌, sym}
use Rattle.std.specs.Prelude.{cond, filter, length, max, nat_lt, true, false}
use Rattle.std.proofs.lemmas.List.Sums.{length-filter}
use Rattle.std.specs.List.{AllByRecursion}
use Rattle.mqtt_base.specs.Phases.{identifier_of, order_of}
use Rattle.mqtt_base.specs.declared.session.Phase.{Phase}
use Rattle.mqtt_base.specs.declared.session.Phase.TheVariants.{Waiting, Sent, Released, Oversize}
use Rattle.mqtt_flow.specs.declared.outbound.entry.Entry.{Entry as FlowEntry}
use Rattle.mqtt_flow.specs.declared.outbound.entry.Turn.{Turn}
use Rattle.mqtt_flow.specs.declared.outbound.entry.Way.{Way}
use Rattle.mqtt_flow.specs.declared.outbound.entry.Turn.TheVariants as turns
use Rattle.mqtt_flow.specs.outbound.Pacing.{Pacing}
use Rattle.mqtt_flow.specs.outbound.Queue.{also, identifiers, in_window, greatest_order}
use Rattle.mqtt_flow.specs.outbound.Outbound.{Verdict, pass, end, outgrow, send, resend, first_time, once_more, is_late, verdict, verdict_by, in_room, step_on, step_by, paced, then_on, pump_from, pace, pump}
use Rattle.mqtt_flow.specs.inbound.Identifiers.{free_identifier}
use Rattle.mqtt_records.specs.messages.Queue.{CopyRow}
use Rattle.mqtt_rules.specs.step.Fitting.{sized}

-- the sizes find the same rows too large
abbrev pub AreAlike : Way → (CopyRow → ℕ) → (CopyRow → ℕ) → List CopyRow → Type 0
AreAlike way f g es = AllByRecursion (λ e. nat_lt way.largest (f e) ≡ nat_lt way.largest (g e)) es

then_same : (left : ℕ) (v : Verdict) (place : ℕ) (phase : Phase) (p : Pacing) (r r′ : Pacing → List Turn) → ((y : Pacing) → r y ≡ r′ y) → then_on (step_by left v place p) phase p r ≡ then_on (step_by left v place p) phase p r′
then_same zero v place phase p r r′ h = refl
then_same (suc k) v place phase p r r′ h = on v
  where
    taken : (t : Turn) → t ∷ r (paced t phase p) ≡ t ∷ r′ (paced t phase p)
    taken t = ap (λ ts. t ∷ ts) (h (paced t phase p))

    room : (k : ℕ) (t : Turn) → then_on (in_room k t) phase p r ≡ then_on (in_room k t) phase p r′
    room zero t = refl
    room (suc k) t = taken t

    on : (v : Verdict) → then_on (step_on v place p) phase p r ≡ then_on (step_on v place p) phase p r′
    on pass = h p
    on (end ending) = taken (turns.Leave place ending)
    on (outgrow i) = taken (turns.Outgrow place i p.order)
    on send = room p.room (turns.Send place (free_identifier p.used))
    on (resend i) = room p.room (turns.Resend place i)

verdict_same : (way : Way) (f g : CopyRow → ℕ) (went : List ℕ) (e : CopyRow) → nat_lt way.largest (f e) ≡ nat_lt way.largest (g e) → verdict way (sized f went e) ≡ verdict way (sized g went e)
verdict_same way f g went e h = by e.phase
  where
    x : FlowEntry
    x = sized f went e

    by : (phase : Phase) → verdict_by way x.copy x.here phase ≡ verdict_by way (sized g went e).copy x.here phase
    by Waiting = ap (first_time (is_late way.now x.copy)) h
    by (Sent i) = ap (λ large. once_more x.here large x.copy.qos i) h
    by (Released i order) = refl
    by (Oversize i order) = refl

from_same : (way : Way) (f g : CopyRow → ℕ) (went : List ℕ) (es : List CopyRow) → AreAlike way f g es → (p : Pacing) → pump_from way (map (sized f went) es) p ≡ pump_from way (map (sized g went) es) p
from_same way f g went [] h p = refl
from_same way f g went (e ∷ es) h p =
    let v = verdict way (sized f went e) in
    let rest = pump_from way (map (sized f went) es) in
    then_same p.left v e.place e.phase p rest (pump_from way (map (sized g went) es)) (from_same way f g went es h.1)
    ∙ ap (λ v. then_on (step_by p.left v e.place p) e.phase p (pump_from way (map (sized g went) es))) (verdict_same way f g went e h.0)

abbrev here : FlowEntry → Bool
here e = e.here

here_same : (f g : CopyRow → ℕ) (went : List ℕ) (es : List CopyRow) → length (filter here (map (sized f went) es)) ≡ length (filter here (map (sized g went) es))
here_same f g went [] = refl
here_same f g went (e ∷ es) =
    by (sized f went e).here (sized f went e) (sized g went e) (filter here (map (sized f went) es)) (filter here (map (sized g went) es)) (here_same f g went es)
  where
    by : (b : Bool) (x y : FlowEntry) (xs ys : List FlowEntry) → length xs ≡ length ys → length (cond b (x ∷ xs) xs) ≡ length (cond b (y ∷ ys) ys)
    by true x y xs ys h = ap (λ n. suc n) h
    by false x y xs ys h = h

window_same : (f g : CopyRow → ℕ) (went : List ℕ) (es : List CopyRow) → in_window (map (sized f went) es) ≡ in_window (map (sized g went) es)
window_same f g went es =
    sym (length-filter here (map (sized f went) es)) ∙ here_same f g went es ∙ length-filter here (map (sized g went) es)

used_same : (f g : CopyRow → ℕ) (went : List ℕ) (es : List CopyRow) → identifiers (map (sized f went) es) ≡ identifiers (map (sized g went) es)
used_same f g went [] = refl
used_same f g went (e ∷ es) = ap (also (identifier_of e.phase)) (used_same f g went es)

order_same : (f g : CopyRow → ℕ) (went : List ℕ) (es : List CopyRow) → greatest_order (map (sized f went) es) ≡ greatest_order (map (sized g went) es)
order_same f g went [] = refl
order_same f g went (e ∷ es) = ap (max (order_of e.phase)) (order_same f g went es)

abbrev pacing : ℕ → ℕ → List ℕ → ℕ → Pacing
pacing left room used order = record { left = left; room = room; used = used; order = order }

pace_same : (way : Way) (f g : CopyRow → ℕ) (went : List ℕ) (es : List CopyRow) → pace way (map (sized f went) es) ≡ pace way (map (sized g went) es)
pace_same way f g went es =
    let left = (pace way []).left in
    let q = map (sized f went) es in
    let x = map (sized g went) es in
    ap (λ n. pacing left (way.window - n) (identifiers q) (greatest_order q + 1)) (window_same f g went es)
    ∙ ap (λ is. pacing left (way.window - in_window x) is (greatest_order q + 1)) (used_same f g went es)
    ∙ ap (λ n. pacing left (way.window - in_window x) (identifiers x) (n + 1)) (order_same f g went es)

-- so both pumps have the same turns
pub pumps_same : (way : Way) (f g : CopyRow → ℕ) (went : List ℕ) (es : List CopyRow) → AreAlike way f g es → pump way (map (sized f went) es) ≡ pump way (map (sized g went) es)
pumps_same way f g went es h =
    from_same way f g went es h (pace way (map (sized f went) es))
    ∙ ap (pump_from way (map (sized g went) es)) (pace_same way f g went es)
