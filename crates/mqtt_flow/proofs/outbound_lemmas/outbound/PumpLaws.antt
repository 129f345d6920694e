-- Every pump keeps to the order of the queue and to the window, and gives the lowest free identifier.
use Rattle.std.proofs.Common.{◌≡◌, ◌≢◌, ⊎_elim, ℕ, zero, suc, ◌≤◌, ◌<◌, ◌+◌, max, Bool, true, false, cond, not, List, [], ◌∷◌, length, map, filter, nat_eq, refl, sym, ap, subst, arith}
use Rattle.std.proofs.lemmas.Bool.Decides.{nat_tests}
use Rattle.std.proofs.lemmas.List.Sums.{sum_by-cons}
use Rattle.mqtt_base.specs.declared.Phase.{Phase}
use Rattle.mqtt_base.specs.declared.Phase.TheVariants.{Sent, Released, Oversize}
use Rattle.mqtt_flow.specs.declared.outbound.entry.Entry.{Entry}
use Rattle.mqtt_flow.specs.declared.outbound.entry.Turn.{Turn}
use Rattle.mqtt_flow.specs.declared.outbound.entry.Turn.TheVariants.{Send, Resend, Release, Outgrow, Repeat, Unknown, Leave}
use Rattle.mqtt_flow.specs.declared.outbound.entry.Way.{Way}
use Rattle.mqtt_flow.specs.declared.outbound.pump.Step.{Step}
use Rattle.mqtt_flow.specs.declared.outbound.pump.Step.TheVariants.{Stop, GoOn, Take}
use Rattle.mqtt_flow.specs.inbound.Identifiers.{is_among, lowest_from, free_identifier}
use Rattle.mqtt_flow.specs.outbound.Pacing.{Pacing}
use Rattle.mqtt_flow.specs.outbound.Queue.{Above, Ascends, in_window, marked, after, after_all}
use Rattle.mqtt_flow.specs.outbound.Outbound.{Verdict, pass, end, outgrow, send, resend, in_room, step_on, step_by, verdict, pump_step, paced, then_on, pump_from, pace}
use Rattle.mqtt_flow.specs.outbound.Pumping.{PublishesAbove, InQueueOrder, WithinWindow, IsLowestFree}
use Rattle.mqtt_flow.proofs.inbound_lemmas.Identifiers.{test_cases, free_is_free}
use Rattle.mqtt_flow.proofs.outbound_lemmas.outbound.SessionLives.{ascends_by}

-- what a step may be at an entry
abbrev StepFor : Entry → ℕ → Step → Type 0
StepFor e room Stop = Unit {0}
StepFor e room GoOn = Unit {0}
StepFor e room (Take (Send p i)) = (p ≡ e.place) × (1 ≤ room)
StepFor e room (Take (Resend p i)) = (p ≡ e.place) × (1 ≤ room)
StepFor e room (Take (Release p i order)) = Unit {0}
StepFor e room (Take (Outgrow p i order)) = Unit {0}
StepFor e room (Take (Repeat i)) = Unit {0}
StepFor e room (Take (Unknown i)) = Unit {0}
StepFor e room (Take (Leave p ending)) = Unit {0}

send_for : (e : Entry) (i room : ℕ) → StepFor e room (in_room room (Send e.place i))
send_for e i zero = tt
send_for e i (suc room) = (refl, omega arith)

resend_for : (e : Entry) (i room : ℕ) → StepFor e room (in_room room (Resend e.place i))
resend_for e i zero = tt
resend_for e i (suc room) = (refl, omega arith)

verdict_for : (e : Entry) (v : Verdict) (p : Pacing) → StepFor e p.room (step_on v e.place p)
verdict_for e pass p = tt
verdict_for e (end ending) p = tt
verdict_for e (outgrow i) p = tt
verdict_for e send p = send_for e (free_identifier p.used) p.room
verdict_for e (resend i) p = resend_for e i p.room

entry_for : (e : Entry) (left : ℕ) (v : Verdict) (p : Pacing) → StepFor e p.room (step_by left v e.place p)
entry_for e zero v p = tt
entry_for e (suc left) v p = verdict_for e v p

-- the order of the queue
order_then : (e : Entry) (room place : ℕ) (s : Step) (phase : Phase) (p : Pacing) (rest : Pacing → List Turn) → StepFor e room s → place < e.place → ((q : Pacing) → PublishesAbove place (rest q)) → ((q : Pacing) → PublishesAbove e.place (rest q)) → PublishesAbove place (then_on s phase p rest)
order_then e room place Stop phase p rest h l low high = tt
order_then e room place GoOn phase p rest h l low high = low p
order_then e room place (Take (Send x i)) phase p rest h l low high = (let same = h.0 in omega arith, subst (λ z. PublishesAbove z (rest (paced (Send x i) phase p))) (sym h.0) (high (paced (Send x i) phase p)))
order_then e room place (Take (Resend x i)) phase p rest h l low high = (let same = h.0 in omega arith, subst (λ z. PublishesAbove z (rest (paced (Resend x i) phase p))) (sym h.0) (high (paced (Resend x i) phase p)))
order_then e room place (Take (Release x i order)) phase p rest h l low high = low (paced (Release x i order) phase p)
order_then e room place (Take (Outgrow x i order)) phase p rest h l low high = low (paced (Outgrow x i order) phase p)
order_then e room place (Take (Repeat i)) phase p rest h l low high = low (paced (Repeat i) phase p)
order_then e room place (Take (Unknown i)) phase p rest h l low high = low (paced (Unknown i) phase p)
order_then e room place (Take (Leave x ending)) phase p rest h l low high = low (paced (Leave x ending) phase p)

order_from : (way : Way) (queue : List Entry) (place : ℕ) (p : Pacing) → Above place queue → Ascends queue → PublishesAbove place (pump_from way queue p)
order_from way [] place p h a = tt
order_from way (e ∷ es) place p h a = order_then e p.room place (pump_step way p e) e.phase p (pump_from way es) (entry_for e p.left (verdict way e) p) h.0 (λ q. order_from way es place q h.1 a.1) (λ q. order_from way es e.place q a.0 a.1)

-- the PUBLISH of a pump go out in the order of the queue
pub in_queue_order : (way : Way) (queue : List Entry) → InQueueOrder way queue
in_queue_order way queue place h a = order_from way queue place (pace way queue) h a

-- the window
window-cons : (e : Entry) (es : List Entry) → in_window (e ∷ es) ≡ cond e.here 1 0 + in_window es
window-cons e es = sum_by-cons (λ x. cond x.here 1 0) e es

here_most : (b : Bool) → cond b 1 0 ≤ 1
here_most true = omega arith
here_most false = omega arith

above_other : (place : ℕ) (e : Entry) → place < e.place → nat_eq e.place place ≡ false
above_other place e l = grind (arith, nat_tests)

above_same : (t : Turn) (place : ℕ) (queue : List Entry) → ((e : Entry) → nat_eq e.place place ≡ false → marked t e ≡ e) → Above place queue → map (marked t) queue ≡ queue
above_same t place [] f h = refl
above_same t place (e ∷ es) f h = rw (f e (above_other place e h.0)) (ap (λ q. e ∷ q) (above_same t place es f h.1))

window-marked : (t : Turn) (place : ℕ) (queue : List Entry) → ((e : Entry) → nat_eq e.place place ≡ false → marked t e ≡ e) → ((e : Entry) → (marked t e).place ≡ e.place) → Ascends queue → in_window (map (marked t) queue) ≤ in_window queue + 1
window-marked t place [] f g h = omega arith
window-marked t place (e ∷ es) f g h =
    let new = window-cons (marked t e) (map (marked t) es) in
    let old = window-cons e es in
    ⊎_elim
    (λ (k : nat_eq e.place place ≡ true).
    let here : e.place ≡ place = grind (arith, nat_tests) in
    let same = ap in_window (above_same t place es f (subst (λ z. Above z es) here h.0)) in
    let most = here_most (marked t e).here in
    omega arith)
    (λ (k : nat_eq e.place place ≡ false).
    let same : cond {A = ℕ} (marked t e).here 1 0 ≡ cond {A = ℕ} e.here 1 0 = ap (λ (x : Entry). cond {A = ℕ} x.here 1 0) (f e k) in
    let rest = window-marked t place es f g h.1 in
    omega arith)
    (test_cases (nat_eq e.place place))

window-kept : (t : Turn) (queue : List Entry) → ((e : Entry) → (marked t e).here ≡ e.here) → in_window (map (marked t) queue) ≡ in_window queue
window-kept t [] f = refl
window-kept t (e ∷ es) f =
    let new = window-cons (marked t e) (map (marked t) es) in
    let old = window-cons e es in
    let same : cond {A = ℕ} (marked t e).here 1 0 ≡ cond {A = ℕ} e.here 1 0 = ap (λ (b : Bool). cond {A = ℕ} b 1 0) (f e) in
    let rest = window-kept t es f in
    omega arith

window-filter : (p : Entry → Bool) (queue : List Entry) → in_window (filter p queue) ≤ in_window queue
window-filter p [] = omega arith
window-filter p (e ∷ es) =
    let old = window-cons e es in
    let rest = window-filter p es in
    ⊎_elim
    (λ (k : p e ≡ true). let new = window-cons e (filter p es) in rw k (omega arith))
    (λ (k : p e ≡ false). rw k (omega arith))
    (test_cases (p e))

at_other : (place : ℕ) (made e : Entry) → nat_eq e.place place ≡ false → cond (nat_eq e.place place) made e ≡ e
at_other place made e h = rw h refl

keeps_here : (place : ℕ) (made e : Entry) → made.here ≡ e.here → (cond (nat_eq e.place place) made e).here ≡ e.here
keeps_here place made e h = ⊎_elim
    (λ (k : nat_eq e.place place ≡ true). rw k h)
    (λ (k : nat_eq e.place place ≡ false). rw k refl)
    (test_cases (nat_eq e.place place))

keeps_place : (place : ℕ) (made e : Entry) → made.place ≡ e.place → (cond (nat_eq e.place place) made e).place ≡ e.place
keeps_place place made e h = ⊎_elim
    (λ (k : nat_eq e.place place ≡ true). rw k h)
    (λ (k : nat_eq e.place place ≡ false). rw k refl)
    (test_cases (nat_eq e.place place))

window_then : (e : Entry) (most : ℕ) (s : Step) (phase : Phase) (p : Pacing) (rest : Pacing → List Turn) (queue : List Entry) → StepFor e p.room s → Ascends queue → in_window queue + p.room ≤ most → ((q : Pacing) (next : List Entry) → Ascends next → in_window next + q.room ≤ most → in_window (after_all (rest q) next) ≤ most) → in_window (after_all (then_on s phase p rest) queue) ≤ most
window_then e most Stop phase p rest queue h a w later = omega arith
window_then e most GoOn phase p rest queue h a w later = later p queue a w
window_then e most (Take (Send x i)) phase p rest queue h a w later =
    let one = window-marked (Send x i) x queue (λ e k. at_other x (record e { phase = Sent i; here = true }) e k) (λ e. keeps_place x (record e { phase = Sent i; here = true }) e refl) a in
    let room = h.1 in
    later (paced (Send x i) phase p) (after (Send x i) queue) (ascends_by (Send x i) queue a) (omega arith)
window_then e most (Take (Resend x i)) phase p rest queue h a w later =
    let one = window-marked (Resend x i) x queue (λ e k. at_other x (record e { here = true }) e k) (λ e. keeps_place x (record e { here = true }) e refl) a in
    let room = h.1 in
    later (paced (Resend x i) phase p) (after (Resend x i) queue) (ascends_by (Resend x i) queue a) (omega arith)
window_then e most (Take (Release x i order)) phase p rest queue h a w later =
    let same = window-kept (Release x i order) queue (λ e. keeps_here x (record e { phase = Released i order }) e refl) in
    later (paced (Release x i order) phase p) (after (Release x i order) queue) (ascends_by (Release x i order) queue a) (omega arith)
window_then e most (Take (Outgrow x i order)) phase p rest queue h a w later =
    let same = window-kept (Outgrow x i order) queue (λ e. keeps_here x (record e { phase = Oversize i order }) e refl) in
    later (paced (Outgrow x i order) phase p) (after (Outgrow x i order) queue) (ascends_by (Outgrow x i order) queue a) (omega arith)
window_then e most (Take (Repeat i)) phase p rest queue h a w later = later p queue a w
window_then e most (Take (Unknown i)) phase p rest queue h a w later = later p queue a w
window_then e most (Take (Leave x ending)) phase p rest queue h a w later =
    let less = window-filter (λ e. not (nat_eq e.place x)) queue in
    later (paced (Leave x ending) phase p) (after (Leave x ending) queue) (ascends_by (Leave x ending) queue a) (omega arith)

window_from : (way : Way) (most : ℕ) (es : List Entry) (p : Pacing) (queue : List Entry) → Ascends queue → in_window queue + p.room ≤ most → in_window (after_all (pump_from way es p) queue) ≤ most
window_from way most [] p queue a w = omega arith
window_from way most (e ∷ es) p queue a w = window_then e most (pump_step way p e) e.phase p (pump_from way es) queue (entry_for e p.left (verdict way e) p) a w (λ q next b v. window_from way most es q next b v)

-- after a pump no more fills the window than it has room for, or than filled it before
pub within_window : (way : Way) (queue : List Entry) → WithinWindow way queue
within_window way queue a = window_from way (max (in_window queue) way.window) queue (pace way queue) queue a (omega arith)

-- the lowest free identifier
lowest_from-least : (k i : ℕ) (used : List ℕ) → i ≤ lowest_from k i used
lowest_from-least zero i used = omega arith
lowest_from-least (suc k) i used = ⊎_elim
    (λ (t : is_among i used ≡ true). rw t (let r = lowest_from-least k (suc i) used in omega arith))
    (λ (t : is_among i used ≡ false). rw t (omega arith))
    (test_cases (is_among i used))

used_below : (k i j : ℕ) (used : List ℕ) → i ≤ j → j < lowest_from k i used → is_among j used ≡ true
used_below zero i j used l h = absurd (omega arith)
used_below (suc k) i j used l h = ⊎_elim
    (λ (t : is_among i used ≡ true). ⊎_elim
    (λ (e : nat_eq j i ≡ true). let same : j ≡ i = grind (arith, nat_tests) in rw same t)
    (λ (e : nat_eq j i ≡ false). used_below k (suc i) j used (let other : j ≢ i = grind (arith, nat_tests) in omega arith) (rw t at h))
    (test_cases (nat_eq j i)))
    (λ (t : is_among i used ≡ false). let h' = rw t at h in absurd (omega arith))
    (test_cases (is_among i used))

-- the identifier that a pump gives is free, and none below it is
pub is_lowest_free : (used : List ℕ) → IsLowestFree used (free_identifier used)
is_lowest_free used = record {
  some = lowest_from-least (length used) 1 used;
  free = free_is_free used;
  lowest = λ j l h. used_below (length used) 1 j used l h;
}
