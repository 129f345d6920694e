-- Where the handshake of one identifier of a session's queue stands, seen with its receiver.
use Rattle.std.proofs.Common.{◌≡◌, ◌⊎◌, inl, inr, ⊎_elim, ℕ, zero, suc, ◌+◌, ◌<◌, ◌≤◌, Bool, true, false, cond, ◌&&◌, List, [], ◌∷◌, ◌++◌, length, nat_eq, if◌then◌else◌, filter, refl, sym, ap, ◌∙◌, arith, Option, Some, None, slice_get, append_assoc, add-zero, eqb-true}
use Rattle.std.specs.List.{list_any}
use Rattle.std.proofs.lemmas.Bool.Decides.{nat_tests}
use Rattle.mqtt_flow.specs.inbound.Identifiers.{is_among}
use Rattle.mqtt_base.specs.declared.Ending.{Ending}
use Rattle.mqtt_base.specs.declared.Ending.TheVariants.{Taken, Refused, Expired, TooLarge, SessionEnded, Dropped}
use Rattle.mqtt_flow.specs.inbound.Line.{Link, away, asked, live}
use Rattle.mqtt_flow.specs.outbound.Receiver.{Body, Output, connack, no_connack, publish, pubrel, disconnect, Answer, connect, puback, pubrec, pubcomp, Handed, handed, Rising, spared}
use Rattle.mqtt_flow.proofs.outbound_lemmas.outbound.LivesWorld.{put_at, arranged}
use Rattle.mqtt_flow.proofs.outbound_lemmas.outbound.Lives.{Mark, sent, released, Life, waiting, in_flight, ended, pids, find, pubrels}
use Rattle.mqtt_flow.proofs.outbound_lemmas.outbound.LivesWorld.{World}
use Rattle.mqtt_flow.proofs.inbound_lemmas.Identifiers.{test_cases, same_id}

abbrev pub up_about : ℕ → Answer → Bool
up_about i (connect c) = false
up_about i (puback j code) = nat_eq i j
up_about i (pubrec j code) = nat_eq i j
up_about i (pubcomp j code) = nat_eq i j

abbrev pub down_about : ℕ → Output → Bool
down_about i (connack p) = false
down_about i no_connack = false
down_about i (publish j n dup b) = nat_eq i j
down_about i (pubrel j code) = nat_eq i j
down_about i disconnect = false

abbrev pub ups : ℕ → List Answer → List Answer
ups i ps = filter (up_about i) ps

abbrev pub downs : ℕ → List Output → List Output
downs i ps = filter (down_about i) ps

abbrev pub is_connect : Answer → Bool
is_connect (connect c) = true
is_connect (puback i code) = false
is_connect (pubrec i code) = false
is_connect (pubcomp i code) = false

-- a copy in flight
pub data Copy_of : Type 0 where
  Copy : (n : ℕ) (m : Mark) (b : Body) → Copy_of

abbrev pub holding : ℕ → ℕ → Life → List Copy_of
holding i n (waiting b) = []
holding i n (in_flight j m b) = if nat_eq i j then Copy n m b ∷ [] else []
holding i n (ended e b) = []

abbrev pub held : ℕ → ℕ → List Life → List Copy_of
held i n [] = []
held i n (f ∷ fs) = holding i n f ++ held i (suc n) fs

-- the stages of an identifier
pub data Stage : Type 0 where
  free : Stage
  idle : (n : ℕ) (dup o : Bool) (b : Body) → Stage  -- sent on an earlier connection: no packet is under way, but on a line that is closed
  publishing : (n : ℕ) (dup o : Bool) (b : Body) → Stage  -- a PUBLISH may be under way
  receiving : (n : ℕ) (b : Body) → Stage  -- a PUBREC may be under way
  acking : (n : ℕ) (b : Body) → Stage  -- a PUBACK may be under way
  releasing : (n : ℕ) (o h t : Bool) (b : Body) → Stage  -- a PUBREL may be under way
  completing : (n code : ℕ) (h t : Bool) (b : Body) → Stage  -- a PUBCOMP may be under way

abbrev pub held_of : Stage → List Copy_of
held_of free = []
held_of (idle n dup o b) = Copy n (sent false) b ∷ []
held_of (publishing n dup o b) = Copy n (sent true) b ∷ []
held_of (receiving n b) = Copy n (sent true) b ∷ []
held_of (acking n b) = Copy n (sent true) b ∷ []
held_of (releasing n o h t b) = Copy n (released h t) b ∷ []
held_of (completing n code h t b) = Copy n (released h t) b ∷ []

abbrev pub up_of : ℕ → Stage → List Answer
up_of i free = []
up_of i (idle n dup o b) = []
up_of i (publishing n dup o b) = []
up_of i (receiving n b) = pubrec i 0 ∷ []
up_of i (acking n b) = puback i 0 ∷ []
up_of i (releasing n o h t b) = []
up_of i (completing n code h t b) = pubcomp i code ∷ []

-- what is only under way on a line that is closed
abbrev pub stale : Bool → List Output → List Output
stale true ps = []
stale false ps = ps

abbrev pub down_of : ℕ → Bool → Stage → List Output
down_of i l free = []
down_of i l (idle n dup o b) = stale l (publish i n dup b ∷ [])
down_of i l (publishing n dup o b) = publish i n dup b ∷ []
down_of i l (receiving n b) = []
down_of i l (acking n b) = []
down_of i l (releasing n o h t b) = pubrel i 0 ∷ []
down_of i l (completing n code h t b) = []

abbrev pub open_of : Stage → Bool
open_of free = false
open_of (idle n dup o b) = b.twice && o
open_of (publishing n dup o b) = b.twice && o
open_of (receiving n b) = true
open_of (acking n b) = false
open_of (releasing n o h t b) = o
open_of (completing n code h t b) = false

abbrev pub Fits : List Handed → Stage → Type 0
Fits reads free = Unit {0}
Fits reads (idle n dup o b) = Unit {0}
Fits reads (publishing n dup o b) = Unit {0}
Fits reads (receiving n b) = b.twice ≡ true
Fits reads (acking n b) = (b.twice ≡ false) × (1 ≤ handed n reads)
Fits reads (releasing n o h t b) = Unit {0}
Fits reads (completing n code h t b) = Unit {0}

-- what may be under way is, or has been lost
abbrev pub AtMost : {P : Type 0} → List P → List P → Type 0
AtMost xs ys = (xs ≡ []) ⊎ (xs ≡ ys)

-- on the line that the session is connected on nothing is lost
abbrev pub Way : Bool → List Output → List Output → Type 0
Way true xs ys = xs ≡ ys
Way false xs ys = AtMost xs ys

-- where an identifier stands: the copy that has it, what is under way about it, and whether the receiver keeps it
pub record At (i : ℕ) (copies : List Life) (linked : Bool) (old up : List Answer) (down : List Output) (kept : List ℕ) (reads : List Handed) (s : Stage) : Type 0 where
  pub holds : held i 0 copies ≡ held_of s
  pub of_old : AtMost (ups i old) (up_of i s)
  pub of_up : AtMost (ups i up) (up_of i s)
  pub of_down : Way linked (downs i down) (down_of i linked s)
  pub is_kept : is_among i kept ≡ open_of s
  pub fits : Fits reads s

-- how often a copy was handed over, by its phase
abbrev pub Final : Ending → Bool → ℕ → Type 0
Final Taken twice c = (twice ≡ true → c ≡ 1) × (c ≤ 1)
Final Refused twice c = c ≤ 1
Final Expired twice c = c ≡ 0
Final TooLarge twice c = c ≤ 1
Final SessionEnded twice c = c ≤ 1
Final Dropped twice c = c ≡ 0

abbrev pub Told : List ℕ → ℕ → Option Life → Type 0
Told kept c None = c ≡ 0
Told kept c (Some (waiting b)) = c ≡ 0
Told kept c (Some (in_flight i (sent h) b)) = c ≡ cond (b.twice && is_among i kept) 1 0
Told kept c (Some (in_flight i (released h t) b)) = (c ≡ 1) × (b.twice ≡ true)
Told kept c (Some (ended e b)) = Final e b.twice c

-- and what of it is known while a Clean Start goes on
abbrev pub Weak : ℕ → Option Life → Type 0
Weak c None = c ≡ 0
Weak c (Some (waiting b)) = c ≡ 0
Weak c (Some (in_flight i (sent h) b)) = c ≤ 1
Weak c (Some (in_flight i (released h t) b)) = c ≡ 1
Weak c (Some (ended e b)) = Final e b.twice c

-- a copy of QoS 1 that was taken was read
abbrev pub Read_end : Ending → Bool → ℕ → Type 0
Read_end Taken twice r = twice ≡ false → 1 ≤ r
Read_end Refused twice r = Unit {0}
Read_end Expired twice r = Unit {0}
Read_end TooLarge twice r = Unit {0}
Read_end SessionEnded twice r = Unit {0}
Read_end Dropped twice r = Unit {0}

abbrev pub Was_read : ℕ → Option Life → Type 0
Was_read r None = Unit {0}
Was_read r (Some (waiting b)) = Unit {0}
Was_read r (Some (in_flight i m b)) = Unit {0}
Was_read r (Some (ended e b)) = Read_end e b.twice r

-- a copy that is handed over or has ended, or is of QoS 1: no later PUBLISH comes before it
abbrev pub Settled : ℕ → Option Life → Type 0
Settled c None = ⊥
Settled c (Some (waiting b)) = b.twice ≡ false
Settled c (Some (in_flight i (sent h) b)) = cond b.twice 1 0 ≤ c
Settled c (Some (in_flight i (released h t) b)) = Unit {0}
Settled c (Some (ended e b)) = Unit {0}

-- before each PUBLISH of QoS 2 under way, all earlier copies are settled or under way in front of it
abbrev pub Ready : (ℕ → Type 0) → List Output → Type 0
Ready S [] = Unit {0}
Ready S (connack p ∷ ps) = Ready S ps
Ready S (no_connack ∷ ps) = Ready S ps
Ready S (publish i n dup b ∷ ps) = ((m : ℕ) → m < n → S m) × Ready (λ m. S m ⊎ (m ≡ n)) ps
Ready S (pubrel i code ∷ ps) = Ready S ps
Ready S (disconnect ∷ ps) = Ready S ps

abbrev pub Published : ℕ → List Output → Type 0
Published m [] = ⊥
Published m (connack p ∷ ps) = Published m ps
Published m (no_connack ∷ ps) = Published m ps
Published m (publish i n dup b ∷ ps) = (m ≡ n) ⊎ Published m ps
Published m (pubrel i code ∷ ps) = Published m ps
Published m (disconnect ∷ ps) = Published m ps

-- the line that was given up: a CONNECT without Clean Start alone, or none
abbrev pub Late : List Answer → Type 0
Late old = (old ≡ []) ⊎ (old ≡ connect false ∷ [])

abbrev pub Olds : List Answer → Type 0
Olds old = (old ≡ connect false ∷ []) ⊎ (list_any is_connect old ≡ false)

-- how the lines stand, by how far the receiver's handshake is
pub data Calm (l : Link) (b stands clean : Bool) (up : List Answer) (down : List Output) (old : List Answer) (kept : List ℕ) : Type 0 where
  is_away : l ≡ away → up ≡ [] → down ≡ [] → b ≡ false → Calm l b stands clean up down old kept
  is_sent : l ≡ asked → up ≡ connect clean ∷ [] → down ≡ [] → b ≡ false → Calm l b stands clean up down old kept
  is_shut : l ≡ asked → up ≡ [] → (down ≡ []) ⊎ (down ≡ no_connack ∷ []) → b ≡ false → Calm l b stands clean up down old kept
  is_read : (p : Bool) (rest : List Output) → l ≡ asked → up ≡ [] → down ≡ connack p ∷ rest → Late old → (p ≡ true) ⊎ ((clean ≡ true) ⊎ (kept ≡ [])) → stands ≡ true → Calm l b stands clean up down old kept
  is_live : l ≡ live → Late old → (b ≡ true) ⊎ (up ≡ []) → list_any is_connect up ≡ false → Calm l b stands clean up down old kept

-- the set that the receiver has once it has read CONNACK
abbrev pub behind : List Output → List ℕ → List ℕ
behind [] kept = kept
behind (connack p ∷ ps) kept = if p then kept else []
behind (no_connack ∷ ps) kept = kept
behind (publish i n dup b ∷ ps) kept = kept
behind (pubrel i code ∷ ps) kept = kept
behind (disconnect ∷ ps) kept = kept

abbrev pub effective : Link → List Output → List ℕ → List ℕ
effective away down kept = kept
effective asked down kept = behind down kept
effective live down kept = kept

abbrev pub Done : World → ℕ → Type 0
Done w m = Settled (handed m w.ledger) (slice_get w.copies m)

-- the invariant, with the identifiers that the receiver will have once it has read CONNACK
pub record Inv (k : List ℕ) (w : World) : Type 0 where
  pub each : (i : ℕ) → (s : Stage) × At i w.copies w.linked w.old w.up w.down k w.reads s
  pub told : (n : ℕ) → Told k (handed n w.ledger) (slice_get w.copies n)
  pub was : (n : ℕ) → Was_read (handed n w.reads) (slice_get w.copies n)
  pub calm : Calm w.link w.linked w.stands w.clean w.up w.down w.old w.kept
  pub olds : Olds w.old
  pub begun : w.stands ≡ false → (w.copies ≡ []) × (w.kept ≡ [])
  pub ready : Ready (Done w) w.down
  pub before : (m n : ℕ) → 1 ≤ handed m w.ledger → n < m → Done w n
  pub rising : Rising w.ledger

abbrev pub Norm : World → Type 0
Norm w = Inv (effective w.link w.down w.kept) w

-- the session was made new, and its CONNACK was lost
pub data Blank (l : Link) (b : Bool) (up : List Answer) (down : List Output) : Type 0 where
  no_line : l ≡ away → up ≡ [] → down ≡ [] → b ≡ false → Blank l b up down
  is_asked : l ≡ asked → up ≡ connect true ∷ [] → down ≡ [] → b ≡ false → Blank l b up down
  was_shut : l ≡ asked → up ≡ [] → down ≡ [] → b ≡ false → Blank l b up down

-- what is known while a Clean Start whose CONNACK was lost is carried through
pub record Fresh (w : World) : Type 0 where
  pub of_old : Late w.old
  pub lines : Blank w.link w.linked w.up w.down
  pub weak : (n : ℕ) → Weak (handed n w.ledger) (slice_get w.copies n)
  pub was : (n : ℕ) → Was_read (handed n w.reads) (slice_get w.copies n)
  pub before : (m n : ℕ) → 1 ≤ handed m w.ledger → n < m → Done w n
  pub rising : Rising w.ledger
  pub pending : w.clean ≡ true
  pub stands : w.stands ≡ true

abbrev pub Good : World → Type 0
Good w = Norm w ⊎ Fresh w

-- lists that may be lost
pub at_most_none : {P : Type 0} {xs : List P} → AtMost xs [] → xs ≡ []
at_most_none (inl e) = e
at_most_none (inr e) = e

-- what is at most a list that is at most another is at most that
pub at_most_more : {P : Type 0} {xs ys zs : List P} → AtMost xs ys → AtMost ys zs → AtMost xs zs
at_most_more (inl e) h = inl e
at_most_more (inr e) (inl h) = inl (e ∙ h)
at_most_more (inr e) (inr h) = inr (e ∙ h)

-- a packet that is under way shows that nothing of the list was lost
pub at_head : {P : Type 0} {xs ys : List P} {p : P} → AtMost (p ∷ xs) ys → p ∷ xs ≡ ys
at_head (inl e) = absurd (cc)
at_head (inr e) = e

-- a line given up with a late CONNECT alone has no other
pub late_olds : (old : List Answer) → Late old → Olds old
late_olds old (inl e) = inr (rw e refl)
late_olds old (inr e) = inl e

-- of a line given up no more than a late CONNECT is spared
pub late_spared : (old : List Answer) → Olds old → Late (spared old)
late_spared [] h = inl refl
late_spared (connect c ∷ rest) (inl h) = inr h
late_spared (connect c ∷ rest) (inr h) = absurd (cc)
late_spared (puback i code ∷ rest) h = inl refl
late_spared (pubrec i code ∷ rest) h = inl refl
late_spared (pubcomp i code ∷ rest) h = inl refl

-- a late CONNECT is about no identifier
pub late_ups : (i : ℕ) (old : List Answer) → Late old → ups i old ≡ []
late_ups i old (inl e) = rw e refl
late_ups i old (inr e) = rw e refl

-- the packets in order
pub ready_more : (S R : ℕ → Type 0) (ps : List Output) → ((m : ℕ) → S m → R m) → Ready S ps → Ready R ps
ready_more S R [] f h = h
ready_more S R (connack p ∷ ps) f h = ready_more S R ps f h
ready_more S R (no_connack ∷ ps) f h = ready_more S R ps f h
ready_more S R (publish i n dup b ∷ ps) f h =
    (λ m l. f m (h.0 m l), ready_more (λ m. S m ⊎ (m ≡ n)) (λ m. R m ⊎ (m ≡ n)) ps (λ m. ⊎_elim (λ s. inl (f m s)) (λ e. inr e)) h.1)
ready_more S R (pubrel i code ∷ ps) f h = ready_more S R ps f h
ready_more S R (disconnect ∷ ps) f h = ready_more S R ps f h

-- a PUBLISH behind others is in order, if all earlier copies are settled or are under way
pub ready_push : (S : ℕ → Type 0) (ps : List Output) (i n : ℕ) (dup : Bool) (b : Body) → Ready S ps → ((m : ℕ) → m < n → S m ⊎ Published m ps) → Ready S (ps ++ publish i n dup b ∷ [])
ready_push S [] i n dup b r h = (λ m l. ⊎_elim (λ s. s) (λ p. absurd p) (h m l), tt)
ready_push S (connack p ∷ ps) i n dup b r h = ready_push S ps i n dup b r h
ready_push S (no_connack ∷ ps) i n dup b r h = ready_push S ps i n dup b r h
ready_push S (publish j k d c ∷ ps) i n dup b r h =
    (r.0, ready_push (λ m. S m ⊎ (m ≡ k)) ps i n dup b r.1 (λ m l. ⊎_elim (λ s. inl (inl s)) (⊎_elim (λ e. inl (inr e)) (λ p. inr p)) (h m l)))
ready_push S (pubrel j code ∷ ps) i n dup b r h = ready_push S ps i n dup b r h
ready_push S (disconnect ∷ ps) i n dup b r h = ready_push S ps i n dup b r h

-- packets that aren't PUBLISH
abbrev pub Plain : List Output → Type 0
Plain [] = Unit {0}
Plain (connack p ∷ ps) = Plain ps
Plain (no_connack ∷ ps) = Plain ps
Plain (publish i n dup b ∷ ps) = ⊥
Plain (pubrel i code ∷ ps) = Plain ps
Plain (disconnect ∷ ps) = Plain ps

ready_none : (S : ℕ → Type 0) (ps : List Output) → Plain ps → Ready S ps
ready_none S [] h = tt
ready_none S (connack p ∷ ps) h = ready_none S ps h
ready_none S (no_connack ∷ ps) h = ready_none S ps h
ready_none S (publish i n dup b ∷ ps) h = absurd h
ready_none S (pubrel i code ∷ ps) h = ready_none S ps h
ready_none S (disconnect ∷ ps) h = ready_none S ps h

-- packets that are no PUBLISH, behind others, keep these in order
pub ready_plain : (S : ℕ → Type 0) (ps qs : List Output) → Plain qs → Ready S ps → Ready S (ps ++ qs)
ready_plain S [] qs h r = ready_none S qs h
ready_plain S (connack p ∷ ps) qs h r = ready_plain S ps qs h r
ready_plain S (no_connack ∷ ps) qs h r = ready_plain S ps qs h r
ready_plain S (publish j k d b ∷ ps) qs h r = (r.0, ready_plain (λ m. S m ⊎ (m ≡ k)) ps qs h r.1)
ready_plain S (pubrel j code ∷ ps) qs h r = ready_plain S ps qs h r
ready_plain S (disconnect ∷ ps) qs h r = ready_plain S ps qs h r

plain_pubrels : (fs : List Life) → Plain (pubrels fs)
plain_pubrels [] = tt
plain_pubrels (waiting b ∷ fs) = plain_pubrels fs
plain_pubrels (in_flight i (sent h) b ∷ fs) = plain_pubrels fs
plain_pubrels (in_flight i (released h t) b ∷ fs) = plain_pubrels fs
plain_pubrels (ended e b ∷ fs) = plain_pubrels fs

abbrev IsPlain : Output → Type 0
IsPlain (connack p) = Unit {0}
IsPlain no_connack = Unit {0}
IsPlain (publish i n dup b) = ⊥
IsPlain (pubrel i code) = Unit {0}
IsPlain disconnect = Unit {0}

plain_head : (p : Output) (ps : List Output) → Plain (p ∷ ps) → IsPlain p × Plain ps
plain_head (connack x) ps h = (tt, h)
plain_head no_connack ps h = (tt, h)
plain_head (publish i n dup b) ps h = absurd h
plain_head (pubrel i code) ps h = (tt, h)
plain_head disconnect ps h = (tt, h)

plain_cons : (p : Output) (ps : List Output) → IsPlain p → Plain ps → Plain (p ∷ ps)
plain_cons (connack x) ps q h = h
plain_cons no_connack ps q h = h
plain_cons (publish i n dup b) ps q h = q
plain_cons (pubrel i code) ps q h = h
plain_cons disconnect ps q h = h

plain_put : (k : ℕ) (p : Output) (ps : List Output) → IsPlain p → Plain ps → Plain (put_at k p ps)
plain_put k p [] q h = plain_cons p [] q h
plain_put zero p (x ∷ xs) q h = plain_cons p (x ∷ xs) q h
plain_put (suc k) p (x ∷ xs) q h = let y = plain_head x xs h in plain_cons x (put_at k p xs) y.0 (plain_put k p xs q y.1)

plain_arranged : (order : List ℕ) (ps qs : List Output) → Plain ps → Plain qs → Plain (arranged order ps qs)
plain_arranged order ps [] h g = h
plain_arranged [] ps (q ∷ qs) h g = let y = plain_head q qs g in plain_arranged [] (put_at 0 q ps) qs (plain_put 0 q ps y.0 h) y.1
plain_arranged (k ∷ order) ps (q ∷ qs) h g = let y = plain_head q qs g in plain_arranged order (put_at k q ps) qs (plain_put k q ps y.0 h) y.1

-- PUBRELs in whatever order carry no PUBLISH out of order
pub ready_pubrels : (S : ℕ → Type 0) (order : List ℕ) (fs : List Life) → Ready S (arranged order [] (pubrels fs))
ready_pubrels S order fs = ready_none S (arranged order [] (pubrels fs)) (plain_arranged order [] (pubrels fs) tt (plain_pubrels fs))

-- an identifier that has one packet has it in any order
downs-put_other : (i k : ℕ) (p : Output) (ps : List Output) → down_about i p ≡ false → downs i (put_at k p ps) ≡ downs i ps
downs-put_other i k p [] e = rw e refl
downs-put_other i zero p (x ∷ xs) e = rw e refl
downs-put_other i (suc k) p (x ∷ xs) e = let r = downs-put_other i k p xs e in ⊎_elim
    (λ (t : down_about i x ≡ true). rw t (ap (λ ys. x ∷ ys) r))
    (λ (t : down_about i x ≡ false). rw t r)
    (test_cases (down_about i x))

downs-put_own : (i k : ℕ) (p : Output) (ps : List Output) → down_about i p ≡ true → downs i ps ≡ [] → downs i (put_at k p ps) ≡ p ∷ []
downs-put_own i k p [] e h = rw e refl
downs-put_own i zero p (x ∷ xs) e h = let h' : downs i (x ∷ xs) ≡ [] = h in rw e (ap (λ ys. p ∷ ys) h')
downs-put_own i (suc k) p (x ∷ xs) e h = ⊎_elim
    (λ (t : down_about i x ≡ true). let h' = rw t at h in absurd (cc))
    (λ (t : down_about i x ≡ false). rw t (downs-put_own i k p xs e (rw t at h)))
    (test_cases (down_about i x))

abbrev pub OneAtMost : List Output → Type 0
OneAtMost [] = Unit {0}
OneAtMost (p ∷ ps) = ps ≡ []

one_alone : (p : Output) (ps r : List Output) → OneAtMost r → p ∷ ps ≡ r → (r ≡ p ∷ []) × (ps ≡ [])
one_alone p ps [] one e = absurd (cc)
one_alone p ps (x ∷ xs) one e = let t : ps ≡ xs = cc in let y : x ≡ p = cc in (rw (one, y) refl, t ∙ one)

moved : (k i : ℕ) (ps : List Output) (q : Output) (qs r : List Output) → OneAtMost r → ((downs i ps ≡ []) × (downs i (q ∷ qs) ≡ r)) ⊎ ((downs i ps ≡ r) × (downs i (q ∷ qs) ≡ [])) → ((downs i (put_at k q ps) ≡ []) × (downs i qs ≡ r)) ⊎ ((downs i (put_at k q ps) ≡ r) × (downs i qs ≡ []))
moved k i ps q qs r one (inl h) = ⊎_elim
    (λ (t : down_about i q ≡ true). let y = one_alone q (downs i qs) r one (rw t at h.1) in inr (downs-put_own i k q ps t h.0 ∙ sym y.0, y.1))
    (λ (t : down_about i q ≡ false). inl (downs-put_other i k q ps t ∙ h.0, rw t at h.1))
    (test_cases (down_about i q))
moved k i ps q qs r one (inr h) = ⊎_elim
    (λ (t : down_about i q ≡ true). let h' = rw t at h.1 in absurd (cc))
    (λ (t : down_about i q ≡ false). inr (downs-put_other i k q ps t ∙ h.0, rw t at h.1))
    (test_cases (down_about i q))

-- a PUBREL about an identifier is under way once, in whatever order they go out
pub downs-arranged : (i : ℕ) (order : List ℕ) (ps qs r : List Output) → OneAtMost r → ((downs i ps ≡ []) × (downs i qs ≡ r)) ⊎ ((downs i ps ≡ r) × (downs i qs ≡ [])) → downs i (arranged order ps qs) ≡ r
downs-arranged i order ps [] r one (inl h) = h.0 ∙ h.1
downs-arranged i order ps [] r one (inr h) = h.0
downs-arranged i [] ps (q ∷ qs) r one h = downs-arranged i [] (put_at 0 q ps) qs r one (moved 0 i ps q qs r one h)
downs-arranged i (k ∷ order) ps (q ∷ qs) r one h = downs-arranged i order (put_at k q ps) qs r one (moved k i ps q qs r one h)

-- a PUBLISH about an identifier is among the packets under way
pub under_way : (i n : ℕ) (dup : Bool) (b : Body) (ps : List Output) → downs i ps ≡ publish i n dup b ∷ [] → Published n ps
under_way i n dup b [] h = absurd (cc)
under_way i n dup b (connack p ∷ ps) h = under_way i n dup b ps h
under_way i n dup b (no_connack ∷ ps) h = under_way i n dup b ps h
under_way i n dup b (publish j m d c ∷ ps) h = ⊎_elim
    (λ (e : nat_eq i j ≡ true). let h' = rw e at h in let q : publish j m d c ≡ publish i n dup b = cc in inl (cc))
    (λ (e : nat_eq i j ≡ false). inr (under_way i n dup b ps (rw e at h)))
    (test_cases (nat_eq i j))
under_way i n dup b (pubrel j code ∷ ps) h = ⊎_elim
    (λ (e : nat_eq i j ≡ true). let h' = rw e at h in absurd (cc))
    (λ (e : nat_eq i j ≡ false). under_way i n dup b ps (rw e at h))
    (test_cases (nat_eq i j))
under_way i n dup b (disconnect ∷ ps) h = under_way i n dup b ps h

-- the copies in flight
pub held-append : (i k : ℕ) (fs gs : List Life) → held i k (fs ++ gs) ≡ held i k fs ++ held i (k + length fs) gs
held-append i k [] gs = rw add-zero refl
held-append i k (f ∷ fs) gs = let e : suc k + length fs ≡ k + suc (length fs) = omega arith in rw (held-append i (suc k) fs gs, e, append_assoc) refl

-- an identifier that isn't in use is held by no copy
pub not_held : (i k : ℕ) (fs : List Life) → is_among i (pids fs) ≡ false → held i k fs ≡ []
not_held i k [] h = refl
not_held i k (waiting b ∷ fs) h = not_held i (suc k) fs h
not_held i k (in_flight j m b ∷ fs) h = let r = not_held i (suc k) fs in grind (arith, nat_tests, r)
not_held i k (ended e b ∷ fs) h = not_held i (suc k) fs h

-- what the broker finds
abbrev pub first_of : List Copy_of → Option (Mark × Body)
first_of [] = None
first_of (Copy n m b ∷ hs) = Some (m, b)

-- the broker finds the first copy that holds the identifier
pub find-held : (i k : ℕ) (fs : List Life) → find i fs ≡ first_of (held i k fs)
find-held i k [] = refl
find-held i k (waiting b ∷ fs) = find-held i (suc k) fs
find-held i k (in_flight j m b ∷ fs) = ⊎_elim
    (λ (e : nat_eq i j ≡ true). rw e refl)
    (λ (e : nat_eq i j ≡ false). rw e (find-held i (suc k) fs))
    (test_cases (nat_eq i j))
find-held i k (ended e b ∷ fs) = find-held i (suc k) fs

abbrev In : Copy_of → List Copy_of → Type 0
In x [] = ⊥
In x (y ∷ ys) = (x ≡ y) ⊎ In x ys

in_right : (x : Copy_of) (xs ys : List Copy_of) → In x ys → In x (xs ++ ys)
in_right x [] ys h = h
in_right x (y ∷ xs) ys h = inr (in_right x xs ys h)

in_held : (i k m : ℕ) (q : Mark) (b : Body) (fs : List Life) → slice_get fs m ≡ Some (in_flight i q b) → In (Copy (k + m) q b) (held i k fs)
in_held i k m q b [] e = absurd (cc)
in_held i k zero q b (f ∷ fs) e =
    let g : f ≡ in_flight i q b = cc in
    let y = same_id i in
    rw (g, y) (inl (rw add-zero refl))
in_held i k (suc m) q b (f ∷ fs) e =
    let s : suc k + m ≡ k + suc m = omega arith in
    in_right (Copy (k + suc m) q b) (holding i k f) (held i (suc k) fs) (rw s at (in_held i (suc k) m q b fs e))

one_in : (x y : Copy_of) → In x (y ∷ []) → x ≡ y
one_in x y (inl e) = e
one_in x y (inr h) = absurd h

-- if no copy holds an identifier, none in flight has it
pub none_in : (i m : ℕ) (q : Mark) (b : Body) (fs : List Life) → held i 0 fs ≡ [] → slice_get fs m ≡ Some (in_flight i q b) → ⊥
none_in i m q b fs h e = let x = in_held i 0 m q b fs e in rw h at x

-- the one copy that holds an identifier is the one in flight with it
pub only : (i n m : ℕ) (r q : Mark) (a b : Body) (fs : List Life) → held i 0 fs ≡ Copy n r a ∷ [] → slice_get fs m ≡ Some (in_flight i q b) → Copy (0 + m) q b ≡ Copy n r a
only i n m r q a b fs h e = one_in (Copy (0 + m) q b) (Copy n r a) (rw h at (in_held i 0 m q b fs e))

abbrev pub Holder : ℕ → ℕ → ℕ → Mark → Body → List Life → Type 0
Holder i k n r b fs = (m : ℕ) × (n ≡ k + m) × (slice_get fs m ≡ Some (in_flight i r b))

further : (i k n : ℕ) (r : Mark) (b : Body) (fs : List Life) (f : Life) → Holder i (suc k) n r b fs → Holder i k n r b (f ∷ fs)
further i k n r b fs f h = let e = h.1 in (suc h.0, omega arith, h.2)

-- the copy that holds an identifier stands at its number
pub holder : (i k n : ℕ) (r : Mark) (b : Body) (fs : List Life) → held i k fs ≡ Copy n r b ∷ [] → Holder i k n r b fs
holder i k n r b [] h = absurd (cc)
holder i k n r b (waiting c ∷ fs) h = further i k n r b fs (waiting c) (holder i (suc k) n r b fs h)
holder i k n r b (in_flight j m c ∷ fs) h =
    ⊎_elim
    (λ (e : nat_eq i j ≡ true).
    let h' = rw e at h in
    let p : Copy k m c ≡ Copy n r b = cc in
    let q : n ≡ k = cc in
    let s : m ≡ r = cc in
    let t : c ≡ b = cc in
    (0, omega arith, rw (s, t, eqb-true i j e) refl))
    (λ (e : nat_eq i j ≡ false). further i k n r b fs (in_flight j m c) (holder i (suc k) n r b fs (rw e at h)))
    (test_cases (nat_eq i j))
holder i k n r b (ended e c ∷ fs) h = further i k n r b fs (ended e c) (holder i (suc k) n r b fs h)
