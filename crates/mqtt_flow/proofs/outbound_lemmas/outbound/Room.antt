-- Room for a copy that enters, and the orders that a session's turns give.
use Rattle.std.proofs.Common.{◌≡◌, ⊎_elim, ℕ, zero, suc, ◌≤◌, ◌<◌, ◌+◌, ◌-◌, true, false, cond, not, ◌&&◌, List, [], ◌∷◌, length, filter, count_by, nat_eq, nat_lt, refl, sym, ap, subst, ◌∙◌, arith, Bool, Option, Some, None}
use Rattle.std.proofs.lemmas.Bool.Decides.{nat_tests}
use Rattle.std.proofs.lemmas.List.Sums.{count_by-le-length, sum_by-cons}
use Rattle.mqtt_base.specs.declared.limits.TheConstants.{LAST_NUMBER}
use Rattle.mqtt_base.specs.declared.Phase.{Phase}
use Rattle.mqtt_base.specs.declared.Phase.TheVariants.{Waiting, Sent, Released, Oversize}
use Rattle.mqtt_base.specs.declared.Qos.{Qos}
use Rattle.mqtt_base.specs.declared.Qos.TheVariants.{AtMostOnce, AtLeastOnce, ExactlyOnce}
use Rattle.mqtt_flow.specs.declared.outbound.entry.Entry.{Entry}
use Rattle.mqtt_flow.specs.declared.outbound.entry.Full.{Full}
use Rattle.mqtt_flow.specs.declared.outbound.entry.Full.TheVariants.{Refuse, Drop}
use Rattle.mqtt_flow.specs.declared.outbound.entry.QueueLimits.{QueueLimits}
use Rattle.mqtt_flow.specs.declared.outbound.entry.Turn.{Turn}
use Rattle.mqtt_flow.specs.declared.outbound.entry.Turn.TheVariants.{Send, Resend, Release, Outgrow, Repeat, Unknown, Leave}
use Rattle.mqtt_flow.specs.declared.outbound.entry.Way.{Way}
use Rattle.mqtt_flow.specs.declared.outbound.pump.Step.{Step}
use Rattle.mqtt_flow.specs.declared.outbound.pump.Step.TheVariants.{Stop, GoOn, Take}
use Rattle.mqtt_flow.specs.outbound.Pacing.{Pacing}
use Rattle.mqtt_flow.specs.outbound.Queue.{after, after_all, order_given, greatest_given, greatest_place, next_order, Above, Ascends, holder, next_place}
use Rattle.mqtt_flow.specs.inbound.Identifiers.{free_identifier}
use Rattle.mqtt_flow.specs.outbound.Outbound.{gives_way, staying, has_room, pace, dropped, way_made, expired, is_waiting, is_late, Verdict, pass, end, outgrow, send, resend, in_room, step_on, step_by, verdict, pump_step, paced, then_on, pump_from, pump, order_asked, released_by, pubrec_by, pubrec_at, pubrec, is_refusal, way_open}
use Rattle.mqtt_flow.proofs.inbound_lemmas.Identifiers.{test_cases, same_id}
use Rattle.mqtt_flow.proofs.outbound_lemmas.outbound.Queues.{places-filter, places-marked}

-- only copies above a place leave
abbrev LeavesAbove : ℕ → List Turn → Type 0
LeavesAbove place [] = Unit {0}
LeavesAbove place (Leave p ending ∷ ts) = (place < p) × LeavesAbove place ts
LeavesAbove place (Send p i ∷ ts) = ⊥
LeavesAbove place (Resend p i ∷ ts) = ⊥
LeavesAbove place (Release p i order ∷ ts) = ⊥
LeavesAbove place (Outgrow p i order ∷ ts) = ⊥
LeavesAbove place (Repeat i ∷ ts) = ⊥
LeavesAbove place (Unknown i ∷ ts) = ⊥

dropped-above : (place k since : ℕ) (queue : List Entry) → Above place queue → LeavesAbove place (dropped k since queue)
dropped-above place k since [] h = tt
dropped-above place zero since (e ∷ es) h = tt
dropped-above place (suc k) since (e ∷ es) h = ⊎_elim
    (λ (t : gives_way since e ≡ true). rw t (h.0, dropped-above place k since es h.1))
    (λ (t : gives_way since e ≡ false). rw t (dropped-above place (suc k) since es h.1))
    (test_cases (gives_way since e))

after_all-head : (e : Entry) (ts : List Turn) (queue : List Entry) → LeavesAbove e.place ts → after_all ts (e ∷ queue) ≡ e ∷ after_all ts queue
after_all-head e [] queue h = refl
after_all-head e (Leave p ending ∷ ts) queue h =
    let other : nat_eq e.place p ≡ false = let l = h.0 in grind (arith, nat_tests) in
    rw other (after_all-head e ts (after (Leave p ending) queue) h.1)
after_all-head e (Send p i ∷ ts) queue h = absurd h
after_all-head e (Resend p i ∷ ts) queue h = absurd h
after_all-head e (Release p i order ∷ ts) queue h = absurd h
after_all-head e (Outgrow p i order ∷ ts) queue h = absurd h
after_all-head e (Repeat i ∷ ts) queue h = absurd h
after_all-head e (Unknown i ∷ ts) queue h = absurd h

filter-above : (place : ℕ) (queue : List Entry) → Above place queue → filter (λ e. not (nat_eq e.place place)) queue ≡ queue
filter-above place [] h = refl
filter-above place (e ∷ es) h =
    let other : nat_eq e.place place ≡ false = let l = h.0 in grind (arith, nat_tests) in
    rw other (ap (λ x. e ∷ x) (filter-above place es h.1))

leave-head : (e : Entry) (queue : List Entry) → Above e.place queue → filter (λ x. not (nat_eq x.place e.place)) (e ∷ queue) ≡ queue
leave-head e queue h = let same = same_id e.place in rw same (filter-above e.place queue h)

-- as many leave as are told to
length-dropped : (k since : ℕ) (queue : List Entry) → Ascends queue → length (after_all (dropped k since queue) queue) + length (dropped k since queue) ≡ length queue
length-dropped k since [] h = refl
length-dropped zero since (e ∷ es) h = omega arith
length-dropped (suc k) since (e ∷ es) h = ⊎_elim
    (λ (t : gives_way since e ≡ true).
    let rest = length-dropped k since es h.1 in
    let same = sym (leave-head e es h.0) in
    rw t (subst (λ q. length (after_all (dropped k since es) q) + suc (length (dropped k since es)) ≡ suc (length es)) same (omega arith)))
    (λ (t : gives_way since e ≡ false).
    let rest = length-dropped (suc k) since es h.1 in
    rw (t, after_all-head e (dropped (suc k) since es) es (dropped-above e.place (suc k) since es h.0)) (omega arith))
    (test_cases (gives_way since e))

count-cons : (since : ℕ) (e : Entry) (es : List Entry) → count_by (λ x. not (gives_way since x)) (e ∷ es) ≡ cond (not (gives_way since e)) 1 0 + count_by (λ x. not (gives_way since x)) es
count-cons since e es = sum_by-cons (λ x. cond (not (gives_way since x)) 1 0) e es

count-dropped : (k since : ℕ) (queue : List Entry) → k + count_by (λ e. not (gives_way since e)) queue ≤ length queue → length (dropped k since queue) ≡ k
count-dropped k since [] h = omega arith
count-dropped zero since (e ∷ es) h = refl
count-dropped (suc k) since (e ∷ es) h = ⊎_elim
    (λ (t : gives_way since e ≡ true). let here = count-cons since e es ∙ ap (λ b. cond (not b) 1 0 + count_by (λ x. not (gives_way since x)) es) t in let rest = count-dropped k since es (omega arith) in rw t (omega arith))
    (λ (t : gives_way since e ≡ false). let here = count-cons since e es ∙ ap (λ b. cond (not b) 1 0 + count_by (λ x. not (gives_way since x)) es) t in rw t (count-dropped (suc k) since es (omega arith)))
    (test_cases (gives_way since e))

dropped-none : (since : ℕ) (queue : List Entry) → dropped 0 since queue ≡ []
dropped-none since [] = refl
dropped-none since (e ∷ es) = refl

below : (full : Full) (limit since : ℕ) (queue : List Entry) → nat_lt (staying full since queue) limit ≡ true → Ascends queue → length (after_all (dropped (length queue + 1 - limit) since queue) queue) < limit
below Refuse limit since queue room h =
    let few : length queue < limit = grind (arith, nat_tests) in
    let none : length queue + 1 - limit ≡ 0 = omega arith in
    rw (none, dropped-none since queue) few
below Drop limit since queue room h =
    let few : count_by (λ e. not (gives_way since e)) queue < limit = grind (arith, nat_tests) in
    let total = length-dropped (length queue + 1 - limit) since queue h in
    let most = count_by-le-length (λ e. not (gives_way since e)) queue in
    let fits : length (dropped (length queue + 1 - limit) since queue) ≡ length queue + 1 - limit = count-dropped (length queue + 1 - limit) since queue (omega arith) in
    omega arith

-- a copy that has room enters a queue below its limit (ours)
pub below_limit : (limits : QueueLimits) (since : ℕ) (queue : List Entry) → has_room limits since queue ≡ true → Ascends queue → length (after_all (way_made limits since queue) queue) < limits.queue
below_limit limits since queue room h = below limits.full limits.queue since queue room h

-- copies that leave give no order
dropped-orders : (k since : ℕ) (queue : List Entry) → greatest_given (dropped k since queue) ≡ 0
dropped-orders k since [] = refl
dropped-orders zero since (e ∷ es) = refl
dropped-orders (suc k) since (e ∷ es) = ⊎_elim
    (λ (t : gives_way since e ≡ true). rw t (let rest = dropped-orders k since es in omega arith))
    (λ (t : gives_way since e ≡ false). rw t (dropped-orders (suc k) since es))
    (test_cases (gives_way since e))

-- copies that make way give no order of release
pub way_made-orders : (limits : QueueLimits) (since : ℕ) (queue : List Entry) → greatest_given (way_made limits since queue) ≡ 0
way_made-orders limits since queue = dropped-orders (length queue + 1 - limits.queue) since queue

-- copies that expire give no order of release
pub expired-orders : (now : ℕ) (queue : List Entry) → greatest_given (expired now queue) ≡ 0
expired-orders now [] = refl
expired-orders now (e ∷ es) = ⊎_elim
    (λ (t : (is_waiting e.phase && is_late now e.copy) ≡ true). rw t (let rest = expired-orders now es in omega arith))
    (λ (t : (is_waiting e.phase && is_late now e.copy) ≡ false). rw t (expired-orders now es))
    (test_cases (is_waiting e.phase && is_late now e.copy))

-- the greatest place does not rise by turns
places-after : (t : Turn) (queue : List Entry) → greatest_place (after t queue) ≤ greatest_place queue
places-after (Send place i) queue = let same = places-marked (Send place i) queue in omega arith
places-after (Resend place i) queue = let same = places-marked (Resend place i) queue in omega arith
places-after (Release place i order) queue = let same = places-marked (Release place i order) queue in omega arith
places-after (Outgrow place i order) queue = let same = places-marked (Outgrow place i order) queue in omega arith
places-after (Repeat i) queue = omega arith
places-after (Unknown i) queue = omega arith
places-after (Leave place ending) queue = places-filter (λ e. not (nat_eq e.place place)) queue

-- after turns the greatest place is no greater than before
pub places-after_all : (ts : List Turn) (queue : List Entry) → greatest_place (after_all ts queue) ≤ greatest_place queue
places-after_all [] queue = omega arith
places-after_all (t ∷ ts) queue = let one = places-after t queue in let rest = places-after_all ts (after t queue) in omega arith

-- a pump gives the orders after the greatest, one after the other
abbrev step_order : (s : Step) → ℕ
step_order Stop = 0
step_order GoOn = 0
step_order (Take t) = order_given t

room-order : (room : ℕ) (t : Turn) → order_given t ≡ 0 → step_order (in_room room t) ≡ 0
room-order zero t h = refl
room-order (suc room) t h = h

verdict-order : (v : Verdict) (place : ℕ) (p : Pacing) → step_order (step_on v place p) ≤ p.order
verdict-order pass place p = omega arith
verdict-order (end ending) place p = omega arith
verdict-order (outgrow i) place p = omega arith
verdict-order send place p = let none = room-order p.room (Send place (free_identifier p.used)) refl in omega arith
verdict-order (resend i) place p = let none = room-order p.room (Resend place i) refl in omega arith

entry-order : (left : ℕ) (v : Verdict) (place : ℕ) (p : Pacing) → step_order (step_by left v place p) ≤ p.order
entry-order zero v place p = omega arith
entry-order (suc left) v place p = verdict-order v place p

paced-order : (t : Turn) (phase : Phase) (p : Pacing) → (paced t phase p).order ≤ p.order + 1
paced-order (Send place i) phase p = omega arith
paced-order (Resend place i) phase p = omega arith
paced-order (Release place i order) phase p = omega arith
paced-order (Outgrow place i order) phase p = omega arith
paced-order (Repeat i) phase p = omega arith
paced-order (Unknown i) phase p = omega arith
paced-order (Leave place ending) phase p = omega arith

then-orders : (s : Step) (phase : Phase) (p : Pacing) (rest : Pacing → List Turn) (more : ℕ) → ((q : Pacing) → greatest_given (rest q) ≤ q.order + more) → step_order s ≤ p.order → greatest_given (then_on s phase p rest) ≤ p.order + suc more
then-orders Stop phase p rest more h first = omega arith
then-orders GoOn phase p rest more h first = let later = h p in omega arith
then-orders (Take t) phase p rest more h first = let later = h (paced t phase p) in let one = paced-order t phase p in omega arith

orders-from : (way : Way) (queue : List Entry) (p : Pacing) → greatest_given (pump_from way queue p) ≤ p.order + length queue
orders-from way [] p = omega arith
orders-from way (e ∷ es) p = then-orders (pump_step way p e) e.phase p (pump_from way es) (length es) (orders-from way es) (entry-order p.left (verdict way e) e.place p)

-- a pump gives no order of release above the next one and as many more as there are copies
pub pump-orders : (way : Way) (queue : List Entry) → greatest_given (pump way queue) ≤ next_order queue + length queue
pump-orders way queue = orders-from way queue (pace way queue)

-- PUBREC gives the next order, or none
asked-released : (is_refused : Bool) (place i order : ℕ) → order_asked (released_by is_refused place i order) ≤ order
asked-released true place i order = omega arith
asked-released false place i order = omega arith

asked-by : (phase : Phase) (qos : Qos) (code place order : ℕ) → order_asked (pubrec_by phase qos code place order) ≤ order
asked-by Waiting qos code place order = omega arith
asked-by (Sent i) AtMostOnce code place order = omega arith
asked-by (Sent i) AtLeastOnce code place order = omega arith
asked-by (Sent i) ExactlyOnce code place order = asked-released (is_refusal code) place i order
asked-by (Released i x) qos code place order = omega arith
asked-by (Oversize i x) qos code place order = omega arith

asked-at : (i code order : ℕ) (o : Option Entry) → order_asked (pubrec_at i code order o) ≤ order
asked-at i code order None = omega arith
asked-at i code order (Some e) = asked-by e.phase e.copy.qos code e.place order

-- a PUBREC asks for no order of release above the next one
pub pubrec-order : (i code : ℕ) (queue : List Entry) → order_asked (pubrec i code queue) ≤ next_order queue
pubrec-order i code queue = asked-at i code (next_order queue) (holder i queue)

-- a copy that enters gets no higher place for those that made way
pub way_open-place : (limits : QueueLimits) (since : ℕ) (queue : List Entry) → next_place (way_open limits since queue) ≤ next_place queue
way_open-place limits since queue = let low = places-after_all (way_made limits since queue) queue in omega arith

-- so that it is enough to look at the numbers that stand
pub pump_fits : (way : Way) (queue : List Entry) → next_order queue + length queue ≤ LAST_NUMBER → greatest_given (pump way queue) ≤ LAST_NUMBER
pump_fits way queue h = let most = pump-orders way queue in omega arith

-- a PUBREC asks for no order above the last number, if the next order isn't above it
pub pubrec_fits : (i code : ℕ) (queue : List Entry) → next_order queue ≤ LAST_NUMBER → order_asked (pubrec i code queue) ≤ LAST_NUMBER
pubrec_fits i code queue h = let most = pubrec-order i code queue in omega arith

-- once others made way a copy gets no place above the last number, if it would have got none before
pub enter_fits : (limits : QueueLimits) (since : ℕ) (queue : List Entry) → next_place queue ≤ LAST_NUMBER → next_place (way_open limits since queue) ≤ LAST_NUMBER
enter_fits limits since queue h = let most = way_open-place limits since queue in omega arith
