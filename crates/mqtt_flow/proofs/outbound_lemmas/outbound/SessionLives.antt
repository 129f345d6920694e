-- What a session does by its rules is what becomes of its copies: each step of the session's world is some steps of the
-- world of the copies.
use Rattle.std.proofs.Common.{◌≡◌, ⊎_elim, ℕ, suc, ◌<◌, ◌+◌, Bool, true, false, not, List, [], ◌∷◌, ◌++◌, length, map, filter, nat_eq, refl, ap, ◌∙◌, arith}
use Rattle.std.proofs.lemmas.Bool.Decides.{nat_tests}
use Rattle.mqtt_base.specs.declared.Ending.{Ending}
use Rattle.mqtt_base.specs.declared.Phase.{Phase}
use Rattle.mqtt_base.specs.declared.Phase.TheVariants.{Waiting, Sent, Released, Oversize}
use Rattle.mqtt_flow.specs.declared.outbound.entry.Entry.{Entry}
use Rattle.mqtt_flow.specs.declared.outbound.entry.Turn.{Turn}
use Rattle.mqtt_flow.specs.declared.outbound.entry.Turn.TheVariants.{Send, Resend, Release, Outgrow, Repeat, Unknown, Leave}
use Rattle.mqtt_flow.specs.outbound.Queue.{marked, after, Above, Ascends}
use Rattle.mqtt_flow.specs.outbound.Receiver.{Body, publish}
use Rattle.mqtt_flow.proofs.outbound_lemmas.outbound.Lives.{Life, waiting, in_flight, ended, sent, released, Lapse, lapsed, lapse_at, pumped, pump_sends}
use Rattle.mqtt_flow.proofs.outbound_lemmas.outbound.LivesWorld as lives
use Rattle.mqtt_flow.specs.outbound.OutboundWorld.{TopicAndPayload, Lot, standing, past, queue_of, World, body, lot_after, lots_after, sends}
use Rattle.mqtt_flow.proofs.inbound_lemmas.Identifiers.{test_cases, same_id}
use Rattle.mqtt_flow.proofs.outbound_lemmas.outbound.Queues.{ascends-marked, ascends-filter}

-- what becomes of a copy, seen from its entry
abbrev pub life_by : Phase → Bool → Body → Life
life_by Waiting here b = waiting b
life_by (Sent i) here b = in_flight i (sent here) b
life_by (Released i order) here b = in_flight i (released here true) b
life_by (Oversize i order) here b = in_flight i (released here false) b

abbrev pub life : Lot → Life
life (standing e m) = life_by e.phase e.here (body e m)
life (past ending e m) = ended ending (body e m)

abbrev pub seen : World → lives.World
seen w = record { copies = map life w.copies; stands = w.stands; linked = w.linked; link = w.link; clean = w.clean; up = w.up; down = w.down; old = w.old; kept = w.kept; ledger = w.ledger; reads = w.reads }

-- a turn on all copies is that turn on the queue
queue_of-leave : (place : ℕ) (ending : Ending) (ls : List Lot) → queue_of (lots_after (Leave place ending) ls) ≡ filter (λ e. not (nat_eq e.place place)) (queue_of ls)
queue_of-leave place ending [] = refl
queue_of-leave place ending (past x e m ∷ ls) = queue_of-leave place ending ls
queue_of-leave place ending (standing e m ∷ ls) = ⊎_elim
    (λ (t : nat_eq e.place place ≡ true). rw t (queue_of-leave place ending ls))
    (λ (t : nat_eq e.place place ≡ false). rw t (ap (λ q. e ∷ q) (queue_of-leave place ending ls)))
    (test_cases (nat_eq e.place place))

queue_of-mark : (t : Turn) → ((e : Entry) (m : TopicAndPayload) → lot_after t (standing e m) ≡ standing (marked t e) m) → (ls : List Lot) → queue_of (lots_after t ls) ≡ map (marked t) (queue_of ls)
queue_of-mark t h [] = refl
queue_of-mark t h (past x e m ∷ ls) = queue_of-mark t h ls
queue_of-mark t h (standing e m ∷ ls) = rw (h e m) (ap (λ q. marked t e ∷ q) (queue_of-mark t h ls))

queue_of-same : (t : Turn) → ((e : Entry) (m : TopicAndPayload) → lot_after t (standing e m) ≡ standing e m) → (ls : List Lot) → queue_of (lots_after t ls) ≡ queue_of ls
queue_of-same t h [] = refl
queue_of-same t h (past x e m ∷ ls) = queue_of-same t h ls
queue_of-same t h (standing e m ∷ ls) = rw (h e m) (ap (λ q. e ∷ q) (queue_of-same t h ls))

-- a turn makes of the queue among all copies what it makes of the queue
pub queue_of-after : (t : Turn) (ls : List Lot) → queue_of (lots_after t ls) ≡ after t (queue_of ls)
queue_of-after (Send place i) ls = queue_of-mark (Send place i) (λ e m. refl) ls
queue_of-after (Resend place i) ls = queue_of-mark (Resend place i) (λ e m. refl) ls
queue_of-after (Release place i order) ls = queue_of-mark (Release place i order) (λ e m. refl) ls
queue_of-after (Outgrow place i order) ls = queue_of-mark (Outgrow place i order) (λ e m. refl) ls
queue_of-after (Repeat i) ls = queue_of-same (Repeat i) (λ e m. refl) ls
queue_of-after (Unknown i) ls = queue_of-same (Unknown i) (λ e m. refl) ls
queue_of-after (Leave place ending) ls = queue_of-leave place ending ls

-- a turn leaves a queue's places ascending
pub ascends_by : (t : Turn) (queue : List Entry) → Ascends queue → Ascends (after t queue)
ascends_by (Send place i) queue h = ascends-marked (Send place i) queue h
ascends_by (Resend place i) queue h = ascends-marked (Resend place i) queue h
ascends_by (Release place i order) queue h = ascends-marked (Release place i order) queue h
ascends_by (Outgrow place i order) queue h = ascends-marked (Outgrow place i order) queue h
ascends_by (Repeat i) queue h = h
ascends_by (Unknown i) queue h = h
ascends_by (Leave place ending) queue h = ascends-filter (λ e. not (nat_eq e.place place)) queue h

-- a turn leaves the places of the copies that stand ascending
pub placed-after : (t : Turn) (ls : List Lot) → Ascends (queue_of ls) → Ascends (queue_of (lots_after t ls))
placed-after t ls h = rw (queue_of-after t ls) (ascends_by t (queue_of ls) h)

-- no copy stands at a place
abbrev pub Misses : ℕ → List Lot → Type 0
Misses place [] = Unit {0}
Misses place (past ending e m ∷ ls) = Misses place ls
Misses place (standing e m ∷ ls) = (nat_eq e.place place ≡ false) × Misses place ls

misses_above : (place : ℕ) (ls : List Lot) → Above place (queue_of ls) → Misses place ls
misses_above place [] h = tt
misses_above place (past x e m ∷ ls) h = misses_above place ls h
misses_above place (standing e m ∷ ls) h = ((let l = h.0 in grind (arith, nat_tests)), misses_above place ls h.1)

above_at : (place : ℕ) (xs : List Lot) (e : Entry) (m : TopicAndPayload) (ys : List Lot) → Above place (queue_of (xs ++ standing e m ∷ ys)) → place < e.place
above_at place [] e m ys h = h.0
above_at place (past x f n ∷ xs) e m ys h = above_at place xs e m ys h
above_at place (standing f n ∷ xs) e m ys h = above_at place xs e m ys h.1

-- no copy before an entry stands at its place
pub misses_before : (xs : List Lot) (e : Entry) (m : TopicAndPayload) (ys : List Lot) → Ascends (queue_of (xs ++ standing e m ∷ ys)) → Misses e.place xs
misses_before [] e m ys h = tt
misses_before (past x f n ∷ xs) e m ys h = misses_before xs e m ys h
misses_before (standing f n ∷ xs) e m ys h = ((let l = above_at f.place xs e m ys h.0 in grind (arith, nat_tests)), misses_before xs e m ys h.1)

-- no copy behind an entry stands at its place
pub misses_behind : (xs : List Lot) (e : Entry) (m : TopicAndPayload) (ys : List Lot) → Ascends (queue_of (xs ++ standing e m ∷ ys)) → Misses e.place ys
misses_behind [] e m ys h = misses_above e.place ys h.0
misses_behind (past x f n ∷ xs) e m ys h = misses_behind xs e m ys h
misses_behind (standing f n ∷ xs) e m ys h = misses_behind xs e m ys h.1

-- the turns at one place
abbrev pub IsAt : ℕ → Turn → Type 0
IsAt place (Send p i) = p ≡ place
IsAt place (Resend p i) = p ≡ place
IsAt place (Release p i order) = p ≡ place
IsAt place (Outgrow p i order) = p ≡ place
IsAt place (Repeat i) = ⊥
IsAt place (Unknown i) = ⊥
IsAt place (Leave p ending) = p ≡ place

missed : (t : Turn) (place : ℕ) (e : Entry) (m : TopicAndPayload) → IsAt place t → nat_eq e.place place ≡ false → lot_after t (standing e m) ≡ standing e m
missed (Send p i) place e m h o = rw (h, o) refl
missed (Resend p i) place e m h o = rw (h, o) refl
missed (Release p i order) place e m h o = rw (h, o) refl
missed (Outgrow p i order) place e m h o = rw (h, o) refl
missed (Repeat i) place e m h o = absurd h
missed (Unknown i) place e m h o = absurd h
missed (Leave p ending) place e m h o = rw (h, o) refl

misses-after : (t : Turn) (place : ℕ) (ls : List Lot) → IsAt place t → Misses place ls → lots_after t ls ≡ ls
misses-after t place [] h o = refl
misses-after t place (past x e m ∷ ls) h o = ap (λ ys. past x e m ∷ ys) (misses-after t place ls h o)
misses-after t place (standing e m ∷ ls) h o = rw (missed t place e m h o.0) (ap (λ ys. standing e m ∷ ys) (misses-after t place ls h o.1))

map-append : (f : Lot → Lot) (xs ys : List Lot) → map f (xs ++ ys) ≡ map f xs ++ map f ys
map-append f [] ys = refl
map-append f (x ∷ xs) ys = ap (λ zs. f x ∷ zs) (map-append f xs ys)

-- so a turn moves one copy
pub split-after : (t : Turn) (xs : List Lot) (e : Entry) (m : TopicAndPayload) (ys : List Lot) → Ascends (queue_of (xs ++ standing e m ∷ ys)) → IsAt e.place t → lots_after t (xs ++ standing e m ∷ ys) ≡ xs ++ lot_after t (standing e m) ∷ ys
split-after t xs e m ys h at =
    map-append (lot_after t) xs (standing e m ∷ ys)
    ∙ ap (λ zs. zs ++ (lot_after t (standing e m) ∷ map (lot_after t) ys)) (misses-after t e.place xs at (misses_before xs e m ys h))
    ∙ ap (λ zs. xs ++ (lot_after t (standing e m) ∷ zs)) (misses-after t e.place ys at (misses_behind xs e m ys h))

-- and its PUBLISH has that copy's number
pub sends-split : (dup : Bool) (i n : ℕ) (xs : List Lot) (e : Entry) (m : TopicAndPayload) (ys : List Lot) → Misses e.place xs → sends dup i e.place n (xs ++ standing e m ∷ ys) ≡ publish i (n + length xs) dup (body e m) ∷ []
sends-split dup i n [] e m ys h = let same = same_id e.place in let z : n + 0 ≡ n = omega arith in rw (same, z) refl
sends-split dup i n (past x f k ∷ xs) e m ys h = let z : suc n + length xs ≡ n + suc (length xs) = omega arith in rw (sends-split dup i (suc n) xs e m ys h) (ap (λ l. publish i l dup (body e m) ∷ []) z)
sends-split dup i n (standing f k ∷ xs) e m ys h = let z : suc n + length xs ≡ n + suc (length xs) = omega arith in rw (h.0, sends-split dup i (suc n) xs e m ys h.1) (ap (λ l. publish i l dup (body e m) ∷ []) z)

-- what the world of the copies does with a split list
pub life-append : (xs ys : List Lot) → map life (xs ++ ys) ≡ map life xs ++ map life ys
life-append [] ys = refl
life-append (x ∷ xs) ys = ap (λ zs. life x ∷ zs) (life-append xs ys)

-- seen from the copies there are as many
pub length-life : (xs : List Lot) → length (map life xs) ≡ length xs
length-life [] = refl
length-life (x ∷ xs) = let r = length-life xs in omega arith

-- copies that a pump passes on
abbrev pub Passed : Phase → Bool → Type 0
Passed Waiting here = ⊥
Passed (Sent i) here = here ≡ true
Passed (Released i order) here = Unit {0}
Passed (Oversize i order) here = Unit {0}

abbrev pub AllPassed : List Lot → Type 0
AllPassed [] = Unit {0}
AllPassed (past x e m ∷ ls) = AllPassed ls
AllPassed (standing e m ∷ ls) = Passed e.phase e.here × AllPassed ls

abbrev DueLife : ℕ → Life → Life → Type 0
DueLife i f g = (fs : List Life) → pumped i (f ∷ fs) ≡ g ∷ fs

passes : (i : ℕ) (phase : Phase) (here : Bool) (b : Body) (fs : List Life) → Passed phase here → pumped i (life_by phase here b ∷ fs) ≡ life_by phase here b ∷ pumped i fs
passes i Waiting here b fs h = absurd h
passes i (Sent j) here b fs h = rw h refl
passes i (Released j order) here b fs h = refl
passes i (Oversize j order) here b fs h = refl

-- a pump sends the first copy behind those that it passes
pub pumped-split : (i : ℕ) (xs : List Lot) (f g : Life) (fs : List Life) → AllPassed xs → pumped i (f ∷ fs) ≡ g ∷ fs → pumped i (map life xs ++ f ∷ fs) ≡ map life xs ++ g ∷ fs
pumped-split i [] f g fs h d = d
pumped-split i (past x e m ∷ xs) f g fs h d = ap (λ zs. ended x (body e m) ∷ zs) (pumped-split i xs f g fs h d)
pumped-split i (standing e m ∷ xs) f g fs h d = passes i e.phase e.here (body e m) (map life xs ++ f ∷ fs) h.0 ∙ ap (λ zs. life (standing e m) ∷ zs) (pumped-split i xs f g fs h.1 d)

passes_silent : (i n : ℕ) (phase : Phase) (here : Bool) (b : Body) (fs : List Life) → Passed phase here → pump_sends i n (life_by phase here b ∷ fs) ≡ pump_sends i (suc n) fs
passes_silent i n Waiting here b fs h = absurd h
passes_silent i n (Sent j) here b fs h = rw h refl
passes_silent i n (Released j order) here b fs h = refl
passes_silent i n (Oversize j order) here b fs h = refl

-- the PUBLISH of that copy has the number behind those that are passed
pub pump_sends-split : (i n : ℕ) (xs : List Lot) (fs : List Life) → AllPassed xs → pump_sends i n (map life xs ++ fs) ≡ pump_sends i (n + length xs) fs
pump_sends-split i n [] fs h = let z : n + 0 ≡ n = omega arith in rw z refl
pump_sends-split i n (past x e m ∷ xs) fs h = let z : suc n + length xs ≡ n + suc (length xs) = omega arith in pump_sends-split i (suc n) xs fs h ∙ ap (λ k. pump_sends i k fs) z
pump_sends-split i n (standing e m ∷ xs) fs h = let z : suc n + length xs ≡ n + suc (length xs) = omega arith in passes_silent i n e.phase e.here (body e m) (map life xs ++ fs) h.0 ∙ pump_sends-split i (suc n) xs fs h.1 ∙ ap (λ k. pump_sends i k fs) z

-- the copy behind the first ones is the one that ends
pub lapse_at-split : (l : Lapse) (xs : List Lot) (f : Life) (fs : List Life) → lapse_at l (length xs) (map life xs ++ f ∷ fs) ≡ map life xs ++ lapsed l f ∷ fs
lapse_at-split l [] f fs = refl
lapse_at-split l (x ∷ xs) f fs = ap (λ zs. life x ∷ zs) (lapse_at-split l xs f fs)
