-- How far copies have to go, and that an answer takes one of them further.
use Rattle.std.proofs.Common.{◌≡◌, inl, inr, ⊎_elim, ℕ, zero, suc, ◌+◌, ◌<◌, ◌≤◌, Bool, true, false, List, [], ◌∷◌, ◌++◌, length, map, nat_eq, refl, sym, ap, ◌∙◌, subst, arith, Some, None, slice_get, Option}
use Rattle.std.specs.Prelude.{⊤}
use Rattle.mqtt_base.specs.declared.session.Phase.{Phase}
use Rattle.mqtt_base.specs.declared.session.Phase.TheVariants.{Waiting, Sent, Released, Oversize}
use Rattle.mqtt_flow.proofs.inbound_lemmas.Identifiers.{test_cases}
use Rattle.mqtt_flow.specs.outbound.Outbound as rules
use Rattle.mqtt_flow.specs.outbound.OutboundCourse.{MayFollow, Next, GoesOn, GoOn}
use Rattle.mqtt_flow.specs.outbound.OutboundWorld.{Lot, standing, past, World, Event, body, queue_of, replied, up_comes, to_broker, step, run, start}
use Rattle.mqtt_flow.specs.outbound.Receiver.{Body, Output, pubrel, Answer, connect, puback, pubrec, pubcomp, IsHeard}
use Rattle.mqtt_flow.proofs.outbound_lemmas.outbound.HopLaw.{course_run, good_run, heard_of}
use Rattle.mqtt_flow.proofs.outbound_lemmas.outbound.Lives.{Mark, sent, released, Life, waiting, in_flight, ended, find, Turn, turned, answered, on_puback, on_pubrec, on_pubcomp, Reply, says, puback_reply, pubrec_reply, pubcomp_reply}
use Rattle.mqtt_flow.proofs.outbound_lemmas.outbound.LivesWorld as lives
use Rattle.mqtt_flow.proofs.outbound_lemmas.outbound.ReceiverReads.{begins}
use Rattle.mqtt_flow.proofs.outbound_lemmas.outbound.SessionAnswers.{Agrees, Unique, agree_puback, agree_pubrec, agree_pubcomp, agrees_up}
use Rattle.mqtt_flow.proofs.outbound_lemmas.outbound.SessionLives.{life, life_by, seen}
use Rattle.mqtt_flow.proofs.outbound_lemmas.outbound.SessionQueues.{Sound}
use Rattle.mqtt_flow.proofs.outbound_lemmas.outbound.SessionSteps.{run_leads, sound_start}
use Rattle.mqtt_flow.proofs.outbound_lemmas.outbound.Stages.{Copy, held, Norm, Good, first_of, find-held}
use Rattle.mqtt_flow.proofs.outbound_lemmas.outbound.Steps.{pubrec_came, puback_came, pubcomp_came}
use Rattle.mqtt_world_laws.specs.receiver.Rounds.{Has, all_left, phases_left, way_left}
use Rattle.mqtt_world_laws.proofs.receiver_lemmas.queue.UnderWay.{at_up, blank_linked, pubrec_said}

-- ---- a copy never has further to go than before

-- a copy has at most two steps to go
pub two_most : (p : Phase) → phases_left p ≤ 2
two_most Waiting = omega arith
two_most (Sent i) = omega arith
two_most (Released i order) = omega arith
two_most (Oversize i order) = omega arith

-- one that stands has at least one
pub one_least : (p : Phase) → 1 ≤ phases_left p
one_least Waiting = omega arith
one_least (Sent i) = omega arith
one_least (Released i order) = omega arith
one_least (Oversize i order) = omega arith

no_further : (p q : Phase) → MayFollow p q → phases_left q ≤ phases_left p
no_further Waiting q h = two_most q
no_further (Sent i) q h = two_most q
no_further (Released i x) Waiting h = absurd h
no_further (Released i x) (Sent j) h = absurd h
no_further (Released i x) (Released j y) h = omega arith
no_further (Released i x) (Oversize j y) h = absurd h
no_further (Oversize i x) Waiting h = absurd h
no_further (Oversize i x) (Sent j) h = absurd h
no_further (Oversize i x) (Released j y) h = absurd h
no_further (Oversize i x) (Oversize j y) h = omega arith

next_left : (l k : Lot) → Next l k → way_left k ≤ way_left l
next_left (standing e m) (standing f n) h = no_further e.phase f.phase h.0
next_left (standing e m) (past x f n) h = omega arith
next_left (past x e m) (standing f n) h = absurd h
next_left (past x e m) (past y f n) h = omega arith

abbrev Onward : List Lot → List Lot → Type 0
Onward ls ks = (n : ℕ) → GoesOn (slice_get ls n) (slice_get ks n)

-- going on leaves no more steps to go
pub no_more_left : (ls ks : List Lot) → length ks ≡ length ls → Onward ls ks → all_left ks ≤ all_left ls
no_more_left [] [] e h = omega arith
no_more_left [] (k ∷ ks) e h = absurd (omega arith)
no_more_left (l ∷ ls) [] e h = omega arith
no_more_left (l ∷ ls) (k ∷ ks) e h =
    let here = next_left l k (h 0) in
    let rest = no_more_left ls ks (omega arith) (λ n. h (suc n)) in
    omega arith

-- and no more copies stand than before, if none that has ended stands again
abbrev pub Rests : Option Lot → Option Lot → Type 0
Rests (Some (past x e m)) (Some (standing f k)) = ⊥
Rests o p = ⊤

rests_on : (o p : Option Lot) → GoesOn o p → Rests o p
rests_on None p h = tt
rests_on (Some (standing e m)) p h = tt
rests_on (Some (past x e m)) None h = tt
rests_on (Some (past x e m)) (Some (standing f k)) h = h
rests_on (Some (past x e m)) (Some (past y f k)) h = tt

-- copies that rest leave no more standing
pub no_more_rest : (ls ks : List Lot) → length ks ≡ length ls → ((n : ℕ) → Rests (slice_get ls n) (slice_get ks n)) → length (queue_of ks) ≤ length (queue_of ls)
no_more_rest [] [] e h = omega arith
no_more_rest [] (k ∷ ks) e h = absurd (omega arith)
no_more_rest (l ∷ ls) [] e h = omega arith
no_more_rest (standing x m ∷ ls) (standing y n ∷ ks) e h = let rest = no_more_rest ls ks (omega arith) (λ n. h (suc n)) in omega arith
no_more_rest (standing x m ∷ ls) (past a y n ∷ ks) e h = let rest = no_more_rest ls ks (omega arith) (λ n. h (suc n)) in omega arith
no_more_rest (past a x m ∷ ls) (standing y n ∷ ks) e h = absurd (h 0)
no_more_rest (past a x m ∷ ls) (past c y n ∷ ks) e h = no_more_rest ls ks (omega arith) (λ n. h (suc n))

-- going on leaves no more copies standing
pub no_more_stand : (ls ks : List Lot) → length ks ≡ length ls → Onward ls ks → length (queue_of ks) ≤ length (queue_of ls)
no_more_stand ls ks e h = no_more_rest ls ks e (λ n. rests_on (slice_get ls n) (slice_get ks n) (h n))

-- one copy that goes further leaves fewer steps to go
pub less_left : (ls ks : List Lot) → length ks ≡ length ls → Onward ls ks → (n : ℕ) (l k : Lot) → slice_get ls n ≡ Some l → slice_get ks n ≡ Some k → way_left k < way_left l → all_left ks < all_left ls
less_left [] ks e h n l k a b f = absurd (cc)
less_left (x ∷ ls) [] e h n l k a b f = absurd (omega arith)
less_left (x ∷ ls) (y ∷ ks) e h zero l k a b f =
    let p : x ≡ l = cc in
    let q : y ≡ k = cc in
    let here : way_left y < way_left x = subst (λ z. way_left y < way_left z) (sym p) (subst (λ z. way_left z < way_left l) (sym q) f) in
    let rest = no_more_left ls ks (omega arith) (λ n. h (suc n)) in
    omega arith
less_left (x ∷ ls) (y ∷ ks) e h (suc n) l k a b f =
    let here = next_left x y (h 0) in
    let rest = less_left ls ks (omega arith) (λ n. h (suc n)) n l k a b f in
    omega arith

-- ---- reached by a run

abbrev pub Reached : ℕ → World → Type 0
Reached largest w = (es : List Event) × (run largest es start ≡ w)

run_append : (largest : ℕ) (es later : List Event) (w : World) → run largest (es ++ later) w ≡ run largest later (run largest es w)
run_append largest [] later w = refl
run_append largest (e ∷ es) later w = run_append largest es later (step largest w e)

-- two runs one behind the other are one
pub run_after : (largest : ℕ) (es later : List Event) (w : World) → run largest (es ++ later) w ≡ run largest later (run largest es w)
run_after largest es later w = run_append largest es later w

-- what is reached goes on being so
pub reached_on : (largest : ℕ) (w : World) → Reached largest w → (later : List Event) → Reached largest (run largest later w)
reached_on largest w r later = (r.0 ++ later, run_append largest r.0 later start ∙ ap (run largest later) r.1)

-- and its copies go on
pub goes_on : (largest : ℕ) (w : World) → Reached largest w → (later : List Event) → GoOn w (run largest later w)
goes_on largest w r later = subst (λ v. GoOn v (run largest later v)) r.1 (course_run largest r.0 later)

-- a hop that is reached is good
pub good_at : (largest : ℕ) (w : World) → Reached largest w → Good (seen w)
good_at largest w r = subst (λ v. Good (seen v)) r.1 (good_run largest r.0)

-- and sound
pub sound_at : (largest : ℕ) (w : World) → Reached largest w → Sound largest w
sound_at largest w r = subst (Sound largest) r.1 (run_leads largest r.0 start (sound_start largest) begins).sound

-- and in order while it is linked
pub norm_at : (largest : ℕ) (w : World) → Reached largest w → w.linked ≡ true → Norm (seen w)
norm_at largest w r h = go (good_at largest w r)
  where
    go : Good (seen w) → Norm (seen w)
    go (inl inv) = inv
    go (inr f) = let z = blank_linked (seen w) f in absurd (cc)

-- ---- an answer takes a copy further

abbrev mark_left : Mark → ℕ
mark_left (sent here) = 2
mark_left (released here taken) = 1

abbrev life_left : Life → ℕ
life_left (waiting b) = 2
life_left (in_flight i m b) = mark_left m
life_left (ended e b) = 0

abbrev lives_left : List Life → ℕ
lives_left [] = 0
lives_left (f ∷ fs) = life_left f + lives_left fs

left_by : (p : Phase) (here : Bool) (b : Body) → phases_left p ≡ life_left (life_by p here b)
left_by Waiting here b = refl
left_by (Sent i) here b = refl
left_by (Released i order) here b = refl
left_by (Oversize i order) here b = refl

left_lives : (ls : List Lot) → all_left ls ≡ lives_left (map life ls)
left_lives [] = refl
left_lives (standing e m ∷ ls) = let a = left_by e.phase e.here (body e m) in let r = left_lives ls in omega arith
left_lives (past x e m ∷ ls) = let r = left_lives ls in omega arith

unheld : (i k : ℕ) (g : Mark → Body → Turn) (fs : List Life) → held i k fs ≡ [] → map (answered i g) fs ≡ fs
unheld i k g [] h = refl
unheld i k g (waiting b ∷ fs) h = ap (λ zs. waiting b ∷ zs) (unheld i (suc k) g fs h)
unheld i k g (ended x b ∷ fs) h = ap (λ zs. ended x b ∷ zs) (unheld i (suc k) g fs h)
unheld i k g (in_flight j q b ∷ fs) h = ⊎_elim
    (λ (t : nat_eq i j ≡ true). let h' = rw t at h in absurd (cc))
    (λ (t : nat_eq i j ≡ false). rw t (ap (λ zs. in_flight j q b ∷ zs) (unheld i (suc k) g fs (rw t at h))))
    (test_cases (nat_eq i j))

abbrev Falls : (Mark → Body → Turn) → Mark → Body → Type 0
Falls g m b = (j : ℕ) → life_left (turned j (g m b) b) < mark_left m

falls : (i k n : ℕ) (g : Mark → Body → Turn) (fs : List Life) (m : Mark) (b : Body) → held i k fs ≡ Copy n m b ∷ [] → Falls g m b → lives_left (map (answered i g) fs) < lives_left fs
falls i k n g [] m b h f = absurd (cc)
falls i k n g (waiting c ∷ fs) m b h f = let r = falls i (suc k) n g fs m b h f in omega arith
falls i k n g (ended x c ∷ fs) m b h f = let r = falls i (suc k) n g fs m b h f in omega arith
falls i k n g (in_flight j q c ∷ fs) m b h f = ⊎_elim
    (λ (t : nat_eq i j ≡ true).
    let h' : Copy k q c ∷ held i (suc k) fs ≡ Copy n m b ∷ [] = rw t at h in
    let p : Copy k q c ≡ Copy n m b = cc in
    let mark : q ≡ m = cc in
    let own : c ≡ b = cc in
    let none : held i (suc k) fs ≡ [] = cc in
    let same = unheld i (suc k) g fs none in
    let less : life_left (turned j (g q c) c) < mark_left q = subst (λ z. life_left (turned j (g z c) c) < mark_left z) (sym mark) (subst (λ z. life_left (turned j (g m z) z) < mark_left m) (sym own) (f j)) in
    rw (t, same) (omega arith))
    (λ (t : nat_eq i j ≡ false). let r = falls i (suc k) n g fs m b (rw t at h) f in rw t (omega arith))
    (test_cases (nat_eq i j))

-- an identifier that one copy holds is its own
pub one_unique : (i n : ℕ) (m : Mark) (b : Body) (w : World) → held i 0 (map life w.copies) ≡ Copy n m b ∷ [] → Unique i w
one_unique i n m b w h = let e = ap length h in omega arith

-- the session is still connected on the receiver's line, and the copies have come further
abbrev pub Onto : World → World → Type 0
Onto w later = (later.linked ≡ true) × (all_left later.copies < all_left w.copies)

settled_further : (i : ℕ) (g : Mark → Body → Turn) (r : Reply) (ps : List Output) (a : rules.Answer) (rest : List Answer) (w : World) → r ≡ says ps → w.linked ≡ true → Agrees i g r a w → lives_left (map (answered i g) (map life w.copies)) < lives_left (map life w.copies) → Onto w (replied a rest w)
settled_further i g r ps a rest w said h agrees f =
    let e : lives.replied (says ps) rest (map (answered i g) (map life w.copies)) (seen w) ≡ seen (replied a rest w) =
    subst (λ x. lives.replied x rest (map (answered i g) (map life w.copies)) (seen w) ≡ seen (replied a rest w)) said (agrees_up i g r a w rest agrees) in
    let l : w.linked ≡ (replied a rest w).linked = ap (λ v. v.linked) e in
    let c : map (answered i g) (map life w.copies) ≡ map life (replied a rest w).copies = ap (λ v. v.copies) e in
    let d = ap lives_left c in
    let x = left_lives w.copies in
    let y = left_lives (replied a rest w).copies in
    (sym l ∙ h, omega arith)

-- a copy of QoS 1 that was sent is acknowledged
pub puback_said : (o : Option (Mark × Body)) (b : Body) → o ≡ Some (sent true, b) → b.twice ≡ false → puback_reply o ≡ says []
puback_said o b e t = rw (e, t) refl

-- one that was released is completed
pub pubcomp_said : (o : Option (Mark × Body)) (h t : Bool) (b : Body) → o ≡ Some (released h t, b) → pubcomp_reply o ≡ says []
pubcomp_said o h t b e = rw e refl

puback_falls : (code : ℕ) (b : Body) → b.twice ≡ false → Falls (on_puback code) (sent true) b
puback_falls code b t j = rw t (omega arith)

pubrec_falls : (code : ℕ) (b : Body) → code ≡ 0 → b.twice ≡ true → Falls (on_pubrec code) (sent true) b
pubrec_falls code b z t j = rw (z, t) (omega arith)

pubcomp_falls : (here taken : Bool) (b : Body) → Falls on_pubcomp (released here taken) b
pubcomp_falls here taken b j = omega arith

up_further : (largest : ℕ) (up : List Answer) (w : World) → w.up ≡ up → Has (λ a. true) up → w.linked ≡ true → IsHeard w.linked up → Norm (seen w) → Sound largest w → Onto w (up_comes false up w)
up_further largest [] w u some h heard inv s = absurd some
up_further largest (connect c ∷ rest) w u some h heard inv s = let z : w.linked ≡ false = heard in absurd (cc)
up_further largest (puback i code ∷ rest) w u some h heard inv s =
    let at = at_up (seen w) (puback i code ∷ rest) u inv i in
    let came = puback_came at.0 at.1 in
    let one = one_unique i came.number (sent true) came.body w came.holds in
    let found : find i (map life w.copies) ≡ Some (sent true, came.body) = find-held i 0 (map life w.copies) ∙ ap first_of came.holds in
    settled_further i (on_puback code) (puback_reply (find i (map life w.copies))) [] (rules.puback i code (queue_of w.copies)) rest w (puback_said (find i (map life w.copies)) came.body found came.twice) h
    (agree_puback i code w largest s one)
    (falls i 0 came.number (on_puback code) (map life w.copies) (sent true) came.body came.holds (puback_falls code came.body came.twice))
up_further largest (pubrec i code ∷ rest) w u some h heard inv s =
    let at = at_up (seen w) (pubrec i code ∷ rest) u inv i in
    let came = pubrec_came at.0 at.1 in
    let one = one_unique i came.number (sent true) came.body w came.holds in
    let found : find i (map life w.copies) ≡ Some (sent true, came.body) = find-held i 0 (map life w.copies) ∙ ap first_of came.holds in
    settled_further i (on_pubrec code) (pubrec_reply i code (find i (map life w.copies))) (pubrel i 0 ∷ []) (rules.pubrec i code (queue_of w.copies)) rest w (pubrec_said i code (find i (map life w.copies)) came.body found came.of_code came.twice) h
    (agree_pubrec i code w largest s one)
    (falls i 0 came.number (on_pubrec code) (map life w.copies) (sent true) came.body came.holds (pubrec_falls code came.body came.of_code came.twice))
up_further largest (pubcomp i code ∷ rest) w u some h heard inv s =
    let at = at_up (seen w) (pubcomp i code ∷ rest) u inv i in
    let came = pubcomp_came at.0 at.1 in
    let one = one_unique i came.number (released came.here came.taken) came.body w came.holds in
    let found : find i (map life w.copies) ≡ Some (released came.here came.taken, came.body) = find-held i 0 (map life w.copies) ∙ ap first_of came.holds in
    settled_further i on_pubcomp (pubcomp_reply (find i (map life w.copies))) [] (rules.pubcomp i (queue_of w.copies)) rest w (pubcomp_said (find i (map life w.copies)) came.here came.taken came.body found) h
    (agree_pubcomp i w largest s one)
    (falls i 0 came.number on_pubcomp (map life w.copies) (released came.here came.taken) came.body came.holds (pubcomp_falls came.here came.taken came.body))

-- an answer is under way only if the session is connected
pub heard_up : (largest : ℕ) (w : World) → Reached largest w → IsHeard w.linked w.up
heard_up largest w r = heard_of w (good_at largest w r)

-- an answer brings the hop further
pub an_answer_further : (largest : ℕ) (w : World) → Reached largest w → w.linked ≡ true → Has (λ a. true) w.up → Onto w (step largest w (to_broker false))
an_answer_further largest w r h some =
    up_further largest w.up w refl some h (heard_up largest w r) (norm_at largest w r h) (sound_at largest w r)
