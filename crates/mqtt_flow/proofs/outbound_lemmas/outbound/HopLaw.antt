-- What holds of the copies holds of the session's world.
use Rattle.std.proofs.Common.{◌≡◌, inl, inr, ℕ, ◌≤◌, Bool, true, false, List, [], ◌∷◌, map, refl, sym, ap, subst, ◌∙◌, arith, Option, Some, None, slice_get, option_map}
use Rattle.std.proofs.lemmas.Option.{slice_get-map}
use Rattle.mqtt_base.specs.declared.Ending.{Ending}
use Rattle.mqtt_base.specs.declared.Ending.TheVariants.{Taken, Refused, Expired, TooLarge, SessionEnded, Dropped}
use Rattle.mqtt_base.specs.declared.Phase.{Phase}
use Rattle.mqtt_base.specs.declared.Phase.TheVariants.{Waiting, Sent, Released, Oversize}
use Rattle.std.specs.List.{list_any}
use Rattle.mqtt_flow.specs.inbound.Line.{Link}
use Rattle.mqtt_flow.specs.outbound.Receiver.{Body, Output, Answer, connect, puback, pubrec, pubcomp, Handed, handed, HasNoConnect, IsConnectAlone, IsHeard}
use Rattle.mqtt_flow.proofs.outbound_lemmas.outbound.Lives.{Life, waiting, in_flight, ended, sent, released, body_of}
use Rattle.mqtt_flow.proofs.outbound_lemmas.outbound.LivesCourse as course
use Rattle.mqtt_flow.specs.outbound.OutboundWorld.{Lot, standing, past, World, body, Event, start, run}
use Rattle.mqtt_flow.specs.outbound.OutboundCourse.{MayFollow, EndsSent, EndsReleased, EndsOversize, MayEnd, Next, GoesOn, carried_by, Carries, Once, TakenOnce, ReleasedOnce, Unhanded, InOrder, GoOn, Carried, TakenRead, Grows, Grow, ReleasedForGood, ConnectsAlone, Heard}
use Rattle.mqtt_flow.proofs.outbound_lemmas.outbound.Stages.{Final, Weak, Was_read, Good, is_connect, Olds, late_olds, Calm, is_away, is_sent, is_shut, is_read, is_live, Blank, no_line, is_asked, was_shut}
use Rattle.mqtt_flow.proofs.outbound_lemmas.outbound.Growing.{run_growing, grows_handed}
use Rattle.mqtt_flow.proofs.outbound_lemmas.outbound.ReceiverReads.{begins, good_weak, good_was, good_rising}
use Rattle.mqtt_flow.proofs.outbound_lemmas.outbound.Course.{run_on}
use Rattle.mqtt_flow.proofs.outbound_lemmas.outbound.Carried.{carried_all}
use Rattle.mqtt_flow.proofs.outbound_lemmas.outbound.SessionLives.{life, life_by, seen}
use Rattle.mqtt_flow.proofs.outbound_lemmas.outbound.SessionSteps.{good_on, run_leads, sound_start}

final_once : (e : Ending) (t : Bool) (c : ℕ) → Final e t c → c ≤ 1
final_once Taken t c h = h.1
final_once Refused t c h = h
final_once Expired t c h = omega arith
final_once TooLarge t c h = h
final_once SessionEnded t c h = h
final_once Dropped t c h = omega arith

at_most_once : (c : ℕ) (f : Option Life) → Weak c f → c ≤ 1
at_most_once c None h = omega arith
at_most_once c (Some (waiting b)) h = omega arith
at_most_once c (Some (in_flight i (sent x) b)) h = h
at_most_once c (Some (in_flight i (released x t) b)) h = omega arith
at_most_once c (Some (ended e b)) h = final_once e b.twice c h

slice_get-life : (ls : List Lot) (n : ℕ) → slice_get (map life ls) n ≡ option_map life (slice_get ls n)
slice_get-life ls n = slice_get-map life ls n

-- the runs
pub good_run : (largest : ℕ) (es : List Event) → Good (seen (run largest es start))
good_run largest es = good_on (run_leads largest es start (sound_start largest) begins) begins

weak_of : (w : World) → Good (seen w) → (n : ℕ) (o : Option Lot) → slice_get w.copies n ≡ o → Weak (handed n w.ledger) (option_map life o)
weak_of w g n o e = subst (Weak (handed n w.ledger)) (slice_get-life w.copies n ∙ ap (option_map life) e) (good_weak (seen w) g n)

was_of : (w : World) → Good (seen w) → (n : ℕ) (o : Option Lot) → slice_get w.copies n ≡ o → Was_read (handed n w.reads) (option_map life o)
was_of w g n o e = subst (Was_read (handed n w.reads)) (slice_get-life w.copies n ∙ ap (option_map life) e) (good_was (seen w) g n)

-- no copy is in the ledger twice
pub once_of : (w : World) → Good (seen w) → Once w
once_of w g n = at_most_once (handed n w.ledger) (slice_get (map life w.copies) n) (good_weak (seen w) g n)

-- a copy of QoS 2 that was taken is in the ledger once
pub taken_of : (w : World) → Good (seen w) → TakenOnce w
taken_of w g n e m at qos = (weak_of w g n (Some (past Taken e m)) at).0 (rw qos refl)

-- a copy whose PUBREC was taken is in the ledger once
pub released_of : (w : World) → Good (seen w) → ReleasedOnce w
released_of w g n i order e m at ph = rw ph at (weak_of w g n (Some (standing e m)) at)

-- a copy that expired is not in the ledger
pub expired_of : (w : World) → Good (seen w) → Unhanded Expired w
expired_of w g n e m at = weak_of w g n (Some (past Expired e m)) at

-- a copy that gave way in a full queue is not in the ledger
pub dropped_of : (w : World) → Good (seen w) → Unhanded Dropped w
dropped_of w g n e m at = weak_of w g n (Some (past Dropped e m)) at

-- the ledger has the copies in the order in which they entered
pub in_order_of : (w : World) → Good (seen w) → InOrder w
in_order_of w g = good_rising (seen w) g

-- a copy of QoS 1 that was taken was read
pub read_of : (w : World) → Good (seen w) → TakenRead w
read_of w g n e m at qos = was_of w g n (Some (past Taken e m)) at (rw qos refl)

-- what is carried
body-life : (phase : Phase) (here : Bool) (b : Body) → body_of (life_by phase here b) ≡ b
body-life Waiting here b = refl
body-life (Sent i) here b = refl
body-life (Released i order) here b = refl
body-life (Oversize i order) here b = refl

body_lot : (l : Lot) → body_of (life l) ≡ carried_by l
body_lot (standing e m) = body-life e.phase e.here (body e m)
body_lot (past x e m) = refl

body_at : (o : Option Lot) → option_map body_of (option_map life o) ≡ option_map carried_by o
body_at None = refl
body_at (Some l) = ap Some (body_lot l)

carry_on : (ls : List Lot) (hs : List Handed) → course.Carries (map life ls) hs → Carries ls hs
carry_on ls [] h = tt
carry_on ls (x ∷ hs) h = (sym (ap (option_map body_of) (slice_get-life ls x.copy) ∙ body_at (slice_get ls x.copy)) ∙ h.0, carry_on ls hs h.1)

-- what was read in a run of the session's world is what its copies carry
pub carried_run : (largest : ℕ) (es : List Event) → Carried (run largest es start)
carried_run largest es =
    let l = run_leads largest es start (sound_start largest) begins in
    let c = carried_all l.events in
    let w = run largest es start in
    (carry_on w.copies w.ledger (subst (λ v. course.Carries v.copies v.ledger) l.same c.0), carry_on w.copies w.reads (subst (λ v. course.Carries v.copies v.reads) l.same c.1))

-- how a copy goes on
follow : (p : Phase) (h : Bool) (a : Body) (q : Phase) (k : Bool) (b : Body) → course.Next (life_by p h a) (life_by q k b) → MayFollow p q × (b ≡ a)
follow Waiting h a Waiting k b n = (tt, n)
follow Waiting h a (Sent j) k b n = (tt, n)
follow Waiting h a (Released j y) k b n = (tt, n)
follow Waiting h a (Oversize j y) k b n = (tt, n)
follow (Sent i) h a Waiting k b n = absurd n
follow (Sent i) h a (Sent j) k b n = (tt, n)
follow (Sent i) h a (Released j y) k b n = (tt, n)
follow (Sent i) h a (Oversize j y) k b n = (tt, n)
follow (Released i x) h a Waiting k b n = absurd n
follow (Released i x) h a (Sent j) k b n = absurd n
follow (Released i x) h a (Released j y) k b n = (tt, n.1)
follow (Released i x) h a (Oversize j y) k b n = let apart = n.0 in absurd (cc)
follow (Oversize i x) h a Waiting k b n = absurd n
follow (Oversize i x) h a (Sent j) k b n = absurd n
follow (Oversize i x) h a (Released j y) k b n = let apart = n.0 in absurd (cc)
follow (Oversize i x) h a (Oversize j y) k b n = (tt, n.1)

ends_so : (ending : Ending) → course.Of_sent ending → EndsSent ending
ends_so Taken h = tt
ends_so Refused h = tt
ends_so Expired h = absurd h
ends_so TooLarge h = tt
ends_so SessionEnded h = tt
ends_so Dropped h = absurd h

ends_taken : (ending : Ending) → course.Of_taken ending → EndsReleased ending
ends_taken Taken h = tt
ends_taken Refused h = absurd h
ends_taken Expired h = absurd h
ends_taken TooLarge h = absurd h
ends_taken SessionEnded h = tt
ends_taken Dropped h = absurd h

ends_large : (ending : Ending) → course.Of_large ending → EndsOversize ending
ends_large Taken h = absurd h
ends_large Refused h = absurd h
ends_large Expired h = absurd h
ends_large TooLarge h = tt
ends_large SessionEnded h = tt
ends_large Dropped h = absurd h

finish_so : (p : Phase) (h : Bool) (a : Body) (ending : Ending) (b : Body) → course.Next (life_by p h a) (ended ending b) → MayEnd p ending × (b ≡ a)
finish_so Waiting h a ending b n = (tt, n)
finish_so (Sent i) h a ending b n = (ends_so ending n.0, n.1)
finish_so (Released i x) h a ending b n = (ends_taken ending n.0, n.1)
finish_so (Oversize i x) h a ending b n = (ends_large ending n.0, n.1)

no_return : (ending : Ending) (a : Body) (q : Phase) (k : Bool) (b : Body) → course.Next (ended ending a) (life_by q k b) → ⊥
no_return ending a Waiting k b n = absurd (cc)
no_return ending a (Sent j) k b n = absurd (cc)
no_return ending a (Released j y) k b n = absurd (cc)
no_return ending a (Oversize j y) k b n = absurd (cc)

same_end : (ending other : Ending) (a b : Body) → ended other b ≡ ended ending a → (other ≡ ending) × (b ≡ a)
same_end ending other a b n = (cc, cc)

next_so : (l k : Lot) → course.Next (life l) (life k) → Next l k
next_so (standing e m) (standing f n) h = follow e.phase e.here (body e m) f.phase f.here (body f n) h
next_so (standing e m) (past x f n) h = finish_so e.phase e.here (body e m) x (body f n) h
next_so (past x e m) (standing f n) h = no_return x (body e m) f.phase f.here (body f n) h
next_so (past x e m) (past y f n) h = same_end x y (body e m) (body f n) h

goes_so : (o p : Option Lot) → course.Goes_on (option_map life o) (option_map life p) → GoesOn o p
goes_so None p h = tt
goes_so (Some l) None h = h
goes_so (Some l) (Some k) h = next_so l k h

-- in a run of the session's world each copy goes on as it may
pub course_run : (largest : ℕ) (es later : List Event) → GoOn (run largest es start) (run largest later (run largest es start))
course_run largest es later n =
    let first = run_leads largest es start (sound_start largest) begins in
    let w = run largest es start in
    let w' = run largest later w in
    let l = run_leads largest later w first.sound (good_on first begins) in
    let on = run_on l.events (seen w) n in
    goes_so (slice_get w.copies n) (slice_get w'.copies n)
    (subst (λ o. course.Goes_on o (option_map life (slice_get w'.copies n))) (slice_get-life w.copies n)
    (subst (λ o. course.Goes_on (slice_get (map life w.copies) n) o) (ap (λ v. slice_get v.copies n) l.same ∙ slice_get-life w'.copies n) on))

-- what was read
pub grow_run : (largest : ℕ) (es later : List Event) → Grow (run largest es start) (run largest later (run largest es start))
grow_run largest es later =
    let first = run_leads largest es start (sound_start largest) begins in
    let w = run largest es start in
    let l = run_leads largest later w first.sound (good_on first begins) in
    let on = run_growing l.events (seen w) in
    (subst (λ v. Grows w.ledger v.ledger) l.same on.0, subst (λ v. Grows w.reads v.reads) l.same on.1)

-- a copy whose PUBREC was taken is in the ledger once, whatever comes later
pub for_good_run : (largest : ℕ) (es later : List Event) → ReleasedForGood (run largest es start) (run largest later (run largest es start))
for_good_run largest es later n i order e m at ph =
    let w = run largest es start in
    let w' = run largest later w in
    let first = run_leads largest es start (sound_start largest) begins in
    let good = good_on first begins in
    let l = run_leads largest later w first.sound good in
    let one : handed n w.ledger ≡ 1 = released_of w good n i order e m at ph in
    let on : handed n w.ledger ≤ handed n w'.ledger = grows_handed n w.ledger w'.ledger (grow_run largest es later).0 in
    let most : handed n w'.ledger ≤ 1 = once_of w' (good_on l good) n in
    omega arith

-- the lines
no_connect : (ps : List Answer) → list_any is_connect ps ≡ false → HasNoConnect ps
no_connect [] h = tt
no_connect (connect c ∷ rest) h = absurd (cc)
no_connect (puback i code ∷ rest) h = no_connect rest h
no_connect (pubrec i code ∷ rest) h = no_connect rest h
no_connect (pubcomp i code ∷ rest) h = no_connect rest h

none_alone : (ps : List Answer) → list_any is_connect ps ≡ false → IsConnectAlone ps
none_alone [] h = tt
none_alone (connect c ∷ rest) h = absurd (cc)
none_alone (puback i code ∷ rest) h = no_connect rest h
none_alone (pubrec i code ∷ rest) h = no_connect rest h
none_alone (pubcomp i code ∷ rest) h = no_connect rest h

olds_alone : (old : List Answer) → Olds old → IsConnectAlone old
olds_alone old (inl e) = subst IsConnectAlone (sym e) refl
olds_alone old (inr h) = none_alone old h

-- if the session is connected no CONNECT is under way
heard_linked : (up : List Answer) → list_any is_connect up ≡ false → IsHeard true up
heard_linked [] h = tt
heard_linked (connect c ∷ rest) h = absurd (cc)
heard_linked (puback i code ∷ rest) h = refl
heard_linked (pubrec i code ∷ rest) h = refl
heard_linked (pubcomp i code ∷ rest) h = refl

heard_calm : {l : Link} {b st cl : Bool} (up : List Answer) {down : List Output} {old : List Answer} {kept : List ℕ} → Calm l b st cl up down old kept → IsConnectAlone up × IsHeard b up
heard_calm {b = b} up (is_away h u d e) = subst (λ ps. IsConnectAlone ps × IsHeard b ps) (sym u) (tt, tt)
heard_calm {b = b} up (is_sent h u d e) = subst (λ ps. IsConnectAlone ps × IsHeard b ps) (sym u) (refl, e)
heard_calm {b = b} up (is_shut h u d e) = subst (λ ps. IsConnectAlone ps × IsHeard b ps) (sym u) (tt, tt)
heard_calm {b = b} up (is_read p rest h u d o c s) = subst (λ ps. IsConnectAlone ps × IsHeard b ps) (sym u) (tt, tt)
heard_calm {b = b} up (is_live h o (inl e) c) = (none_alone up c, subst (λ x. IsHeard x up) (sym e) (heard_linked up c))
heard_calm {b = b} up (is_live h o (inr u) c) = subst (λ ps. IsConnectAlone ps × IsHeard b ps) (sym u) (tt, tt)

heard_blank : {l : Link} {b : Bool} (up : List Answer) {down : List Output} → Blank l b up down → IsConnectAlone up × IsHeard b up
heard_blank {b = b} up (no_line h u d e) = subst (λ ps. IsConnectAlone ps × IsHeard b ps) (sym u) (tt, tt)
heard_blank {b = b} up (is_asked h u d e) = subst (λ ps. IsConnectAlone ps × IsHeard b ps) (sym u) (refl, e)
heard_blank {b = b} up (was_shut h u d e) = subst (λ ps. IsConnectAlone ps × IsHeard b ps) (sym u) (tt, tt)

-- a CONNECT is alone under way, on either line
pub alone_of : (w : World) → Good (seen w) → ConnectsAlone w
alone_of w (inl n) = ((heard_calm w.up n.calm).0, olds_alone w.old n.olds)
alone_of w (inr f) = ((heard_blank w.up f.lines).0, olds_alone w.old (late_olds w.old f.of_old))

-- what is under way on the receiver's line is nothing, begins with CONNECT, or is of a session that is connected there
pub heard_of : (w : World) → Good (seen w) → Heard w
heard_of w (inl n) = (heard_calm w.up n.calm).1
heard_of w (inr f) = (heard_blank w.up f.lines).1
