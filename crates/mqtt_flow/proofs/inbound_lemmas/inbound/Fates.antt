-- The fates of the messages, seen from one identifier.
use Rattle.std.proofs.Common.{◌≡◌, ◌⊎◌, inl, inr, ⊎_elim, ℕ, zero, suc, ◌+◌, Bool, true, false, List, [], ◌∷◌, ◌++◌, length, map, nat_eq, if◌then◌else◌, refl, sym, ap, ◌∙◌, arith, Some, slice_get, append-nil, append_assoc, add-zero, eqb-true}
use Rattle.std.proofs.lemmas.Bool.Decides.{nat_tests}
use Rattle.mqtt_base.specs.Codes.{is_success}
use Rattle.mqtt_flow.specs.inbound.Identifiers.{is_among}
use Rattle.mqtt_flow.specs.inbound.Publisher.{Fate, sent_1, ended_1, sent, released, ended, FromPublisher, PUBLISH_1, PUBLISH_2, PUBREL, in_flight, resent_from, acknowledged, received, on_puback, on_pubrec, on_pubcomp, on_new_session}
use Rattle.mqtt_flow.proofs.inbound_lemmas.Identifiers.{test_cases, same_id}
use Rattle.mqtt_flow.proofs.inbound_lemmas.inbound.Stages.{Mark, for_puback, for_pubrec, for_pubcomp, holding, held, ups}

-- a new message at the end
pub held-push : (i k : ℕ) (fs : List Fate) (f : Fate) → held i k (fs ++ f ∷ []) ≡ held i k fs ++ holding i (k + length fs) f
held-push i k [] f = rw (append-nil, add-zero) refl
held-push i k (g ∷ fs) f = let e : suc k + length fs ≡ k + suc (length fs) = omega arith in rw (held-push i (suc k) fs f, e, append_assoc) refl

-- what isn't in flight isn't held
pub not_held : (i k : ℕ) (fs : List Fate) → is_among i (in_flight fs) ≡ false → held i k fs ≡ []
not_held i k [] h = refl
not_held i k (sent_1 j ∷ fs) h = let r = not_held i (suc k) fs in grind (arith, r)
not_held i k (ended_1 by ∷ fs) h = not_held i (suc k) fs h
not_held i k (sent j ∷ fs) h = let r = not_held i (suc k) fs in grind (arith, r)
not_held i k (released j ∷ fs) h = let r = not_held i (suc k) fs in grind (arith, r)
not_held i k (ended by ∷ fs) h = not_held i (suc k) fs h

-- the fate of a message in flight under i
abbrev pub made : ℕ → Mark → Fate
made i for_puback = sent_1 i
made i for_pubrec = sent i
made i for_pubcomp = released i

-- the message that is held has that fate
abbrev pub Holder : ℕ → ℕ → ℕ → Mark → List Fate → Type 0
Holder i k n r fs = (m : ℕ) × (n ≡ k + m) × (slice_get fs m ≡ Some (made i r))

further : (i k n : ℕ) (r : Mark) (fs : List Fate) (f : Fate) → Holder i (suc k) n r fs → Holder i k n r (f ∷ fs)
further i k n r fs f h = let e = h.1 in (suc h.0, omega arith, h.2)

-- at its head
holder_here : (i j k n : ℕ) (q r : Mark) (fs : List Fate) → nat_eq i j ≡ true → (k, q) ∷ held i (suc k) fs ≡ (n, r) ∷ [] → Holder i k n r (made j q ∷ fs)
holder_here i j k n q r fs e h =
    let x : ℕ × Mark = (k, q) in
    let y : ℕ × Mark = (n, r) in
    let p : x ≡ y = cc in
    let num : n ≡ k = sym (ap (λ x. x.0) p) in
    let s : made j q ≡ made i r = ap (λ x. made j x.1) p ∙ ap (λ x. made x r) (sym (eqb-true i j e)) in
    (0, omega arith, ap Some s)

-- the one message that holds an identifier has it, and none before or behind it
pub holder : (i k n : ℕ) (r : Mark) (fs : List Fate) → held i k fs ≡ (n, r) ∷ [] → Holder i k n r fs
holder i k n r [] h = absurd (cc)
holder i k n r (sent_1 j ∷ fs) h =
    ⊎_elim
    (λ (e : nat_eq i j ≡ true). holder_here i j k n for_puback r fs e (rw e at h))
    (λ (e : nat_eq i j ≡ false). further i k n r fs (sent_1 j) (holder i (suc k) n r fs (rw e at h)))
    (test_cases (nat_eq i j))
holder i k n r (ended_1 by ∷ fs) h = further i k n r fs (ended_1 by) (holder i (suc k) n r fs h)
holder i k n r (sent j ∷ fs) h =
    ⊎_elim
    (λ (e : nat_eq i j ≡ true). holder_here i j k n for_pubrec r fs e (rw e at h))
    (λ (e : nat_eq i j ≡ false). further i k n r fs (sent j) (holder i (suc k) n r fs (rw e at h)))
    (test_cases (nat_eq i j))
holder i k n r (released j ∷ fs) h =
    ⊎_elim
    (λ (e : nat_eq i j ≡ true). holder_here i j k n for_pubcomp r fs e (rw e at h))
    (λ (e : nat_eq i j ≡ false). further i k n r fs (released j) (holder i (suc k) n r fs (rw e at h)))
    (test_cases (nat_eq i j))
holder i k n r (ended by ∷ fs) h = further i k n r fs (ended by) (holder i (suc k) n r fs h)

-- and no other has
abbrev In : ℕ × Mark → List (ℕ × Mark) → Type 0
In x [] = ⊥
In x (y ∷ ys) = (x ≡ y) ⊎ In x ys

in_right : (x : ℕ × Mark) (xs ys : List (ℕ × Mark)) → In x ys → In x (xs ++ ys)
in_right x [] ys h = h
in_right x (y ∷ xs) ys h = inr (in_right x xs ys h)

holding-made : (i k : ℕ) (q : Mark) → holding i k (made i q) ≡ (k, q) ∷ []
holding-made i k for_puback = rw (same_id i) refl
holding-made i k for_pubrec = rw (same_id i) refl
holding-made i k for_pubcomp = rw (same_id i) refl

in_held : (i k m : ℕ) (q : Mark) (fs : List Fate) → slice_get fs m ≡ Some (made i q) → In (k + m, q) (held i k fs)
in_held i k m q [] e = absurd (cc)
in_held i k zero q (f ∷ fs) e =
    let g : f ≡ made i q = cc in
    rw (g, holding-made i k q) (inl (rw add-zero refl))
in_held i k (suc m) q (f ∷ fs) e =
    let s : suc k + m ≡ k + suc m = omega arith in
    in_right (k + suc m, q) (holding i k f) (held i (suc k) fs) (rw s at (in_held i (suc k) m q fs e))

one_in : (x y : ℕ × Mark) → In x (y ∷ []) → x ≡ y
one_in x y (inl e) = e
one_in x y (inr h) = absurd h

abbrev pub Same : ℕ × Mark → ℕ × Mark → Type 0
Same x y = x ≡ y

-- a message with an identifier is the one that holds it
pub only : (i k n m : ℕ) (r q : Mark) (fs : List Fate) → held i k fs ≡ (n, r) ∷ [] → slice_get fs m ≡ Some (made i q) → Same (k + m, q) (n, r)
only i k n m r q fs h e = one_in (k + m, q) (n, r) (rw h at (in_held i k m q fs e))

-- PUBACK, for its identifier
abbrev pub unacknowledged : List (ℕ × Mark) → List (ℕ × Mark)
unacknowledged [] = []
unacknowledged ((n, for_puback) ∷ hs) = unacknowledged hs
unacknowledged ((n, for_pubrec) ∷ hs) = (n, for_pubrec) ∷ unacknowledged hs
unacknowledged ((n, for_pubcomp) ∷ hs) = (n, for_pubcomp) ∷ unacknowledged hs

holding-acknowledged : (i k : ℕ) (b : Bool) → holding i k (acknowledged b) ≡ []
holding-acknowledged i k true = refl
holding-acknowledged i k false = refl

-- a PUBACK takes its identifier from a message that waits for it
pub held-on_puback_same : (i k code : ℕ) (fs : List Fate) → held i k (map (on_puback i code) fs) ≡ unacknowledged (held i k fs)
held-on_puback_same i k code [] = refl
held-on_puback_same i k code (sent_1 l ∷ fs) = ⊎_elim
    (λ (e : nat_eq i l ≡ true). rw e (rw (holding-acknowledged i k (is_success code)) (held-on_puback_same i (suc k) code fs)))
    (λ (e : nat_eq i l ≡ false). rw e (rw e (held-on_puback_same i (suc k) code fs)))
    (test_cases (nat_eq i l))
held-on_puback_same i k code (ended_1 by ∷ fs) = held-on_puback_same i (suc k) code fs
held-on_puback_same i k code (sent l ∷ fs) = let r = held-on_puback_same i (suc k) code fs in ⊎_elim
    (λ (e : nat_eq i l ≡ true). rw (e, r) refl)
    (λ (e : nat_eq i l ≡ false). rw (e, r) refl)
    (test_cases (nat_eq i l))
held-on_puback_same i k code (released l ∷ fs) = let r = held-on_puback_same i (suc k) code fs in ⊎_elim
    (λ (e : nat_eq i l ≡ true). rw (e, r) refl)
    (λ (e : nat_eq i l ≡ false). rw (e, r) refl)
    (test_cases (nat_eq i l))
held-on_puback_same i k code (ended by ∷ fs) = held-on_puback_same i (suc k) code fs

-- PUBREC, for its identifier
abbrev pub received_marks : Bool → List (ℕ × Mark) → List (ℕ × Mark)
received_marks b [] = []
received_marks b ((n, for_puback) ∷ hs) = (n, for_puback) ∷ received_marks b hs
received_marks true ((n, for_pubrec) ∷ hs) = (n, for_pubcomp) ∷ received_marks true hs
received_marks false ((n, for_pubrec) ∷ hs) = received_marks false hs
received_marks b ((n, for_pubcomp) ∷ hs) = (n, for_pubcomp) ∷ received_marks b hs

held-received : (b : Bool) (i l k : ℕ) (hs : List (ℕ × Mark)) → nat_eq i l ≡ true → holding i k (received b l) ++ received_marks b hs ≡ received_marks b ((k, for_pubrec) ∷ hs)
held-received true i l k hs e = rw e refl
held-received false i l k hs e = refl

-- a PUBREC moves the message that waits for it on, or takes its identifier
pub held-on_pubrec_same : (i k code : ℕ) (fs : List Fate) → held i k (map (on_pubrec i code) fs) ≡ received_marks (is_success code) (held i k fs)
held-on_pubrec_same i k code [] = refl
held-on_pubrec_same i k code (sent_1 l ∷ fs) = let r = held-on_pubrec_same i (suc k) code fs in ⊎_elim
    (λ (e : nat_eq i l ≡ true). rw (e, r) refl)
    (λ (e : nat_eq i l ≡ false). rw (e, r) refl)
    (test_cases (nat_eq i l))
held-on_pubrec_same i k code (ended_1 by ∷ fs) = held-on_pubrec_same i (suc k) code fs
held-on_pubrec_same i k code (sent l ∷ fs) = let r = held-on_pubrec_same i (suc k) code fs in ⊎_elim
    (λ (e : nat_eq i l ≡ true). rw (e, r) (held-received (is_success code) i l k (held i (suc k) fs) e))
    (λ (e : nat_eq i l ≡ false). rw e (rw (e, r) refl))
    (test_cases (nat_eq i l))
held-on_pubrec_same i k code (released l ∷ fs) = let r = held-on_pubrec_same i (suc k) code fs in ⊎_elim
    (λ (e : nat_eq i l ≡ true). rw (e, r) refl)
    (λ (e : nat_eq i l ≡ false). rw (e, r) refl)
    (test_cases (nat_eq i l))
held-on_pubrec_same i k code (ended by ∷ fs) = held-on_pubrec_same i (suc k) code fs

-- PUBCOMP, for its identifier
abbrev pub uncompleted : List (ℕ × Mark) → List (ℕ × Mark)
uncompleted [] = []
uncompleted ((n, for_puback) ∷ hs) = (n, for_puback) ∷ uncompleted hs
uncompleted ((n, for_pubrec) ∷ hs) = (n, for_pubrec) ∷ uncompleted hs
uncompleted ((n, for_pubcomp) ∷ hs) = uncompleted hs

-- a PUBCOMP takes its identifier from a message that waits for it
pub held-on_pubcomp_same : (i k : ℕ) (fs : List Fate) → held i k (map (on_pubcomp i) fs) ≡ uncompleted (held i k fs)
held-on_pubcomp_same i k [] = refl
held-on_pubcomp_same i k (sent_1 l ∷ fs) = let r = held-on_pubcomp_same i (suc k) fs in ⊎_elim
    (λ (e : nat_eq i l ≡ true). rw (e, r) refl)
    (λ (e : nat_eq i l ≡ false). rw (e, r) refl)
    (test_cases (nat_eq i l))
held-on_pubcomp_same i k (ended_1 by ∷ fs) = held-on_pubcomp_same i (suc k) fs
held-on_pubcomp_same i k (sent l ∷ fs) = let r = held-on_pubcomp_same i (suc k) fs in ⊎_elim
    (λ (e : nat_eq i l ≡ true). rw (e, r) refl)
    (λ (e : nat_eq i l ≡ false). rw (e, r) refl)
    (test_cases (nat_eq i l))
held-on_pubcomp_same i k (released l ∷ fs) = let r = held-on_pubcomp_same i (suc k) fs in ⊎_elim
    (λ (e : nat_eq i l ≡ true). rw e r)
    (λ (e : nat_eq i l ≡ false). rw e (rw (e, r) refl))
    (test_cases (nat_eq i l))
held-on_pubcomp_same i k (ended by ∷ fs) = held-on_pubcomp_same i (suc k) fs

-- for another identifier nothing changes
holding-on_puback : (i j k l : ℕ) (b : Bool) → nat_eq i j ≡ false → holding i k (if nat_eq j l then acknowledged b else sent_1 l) ≡ holding i k (sent_1 l)
holding-on_puback i j k l b h = ⊎_elim
    (λ (e : nat_eq j l ≡ true). let s : nat_eq i l ≡ false = rw (← eqb-true j l e) h in rw (e, s) (holding-acknowledged i k b))
    (λ (e : nat_eq j l ≡ false). rw e refl)
    (test_cases (nat_eq j l))

-- a PUBACK leaves other identifiers alone
pub held-on_puback_other : (i j k code : ℕ) (fs : List Fate) → nat_eq i j ≡ false → held i k (map (on_puback j code) fs) ≡ held i k fs
held-on_puback_other i j k code [] h = refl
held-on_puback_other i j k code (sent_1 l ∷ fs) h = let r = held-on_puback_other i j (suc k) code fs h in let q = holding-on_puback i j k l (is_success code) h in cc
held-on_puback_other i j k code (ended_1 by ∷ fs) h = held-on_puback_other i j (suc k) code fs h
held-on_puback_other i j k code (sent l ∷ fs) h = let r = held-on_puback_other i j (suc k) code fs h in cc
held-on_puback_other i j k code (released l ∷ fs) h = let r = held-on_puback_other i j (suc k) code fs h in cc
held-on_puback_other i j k code (ended by ∷ fs) h = held-on_puback_other i j (suc k) code fs h

holding-received : (i k l : ℕ) (b : Bool) → nat_eq i l ≡ false → holding i k (received b l) ≡ []
holding-received i k l true s = rw s refl
holding-received i k l false s = refl

holding-on_pubrec : (i j k l : ℕ) (b : Bool) → nat_eq i j ≡ false → holding i k (if nat_eq j l then received b l else sent l) ≡ holding i k (sent l)
holding-on_pubrec i j k l b h = ⊎_elim
    (λ (e : nat_eq j l ≡ true). let s : nat_eq i l ≡ false = rw (← eqb-true j l e) h in rw (e, s) (holding-received i k l b s))
    (λ (e : nat_eq j l ≡ false). rw e refl)
    (test_cases (nat_eq j l))

-- a PUBREC leaves other identifiers alone
pub held-on_pubrec_other : (i j k code : ℕ) (fs : List Fate) → nat_eq i j ≡ false → held i k (map (on_pubrec j code) fs) ≡ held i k fs
held-on_pubrec_other i j k code [] h = refl
held-on_pubrec_other i j k code (sent_1 l ∷ fs) h = let r = held-on_pubrec_other i j (suc k) code fs h in cc
held-on_pubrec_other i j k code (ended_1 by ∷ fs) h = held-on_pubrec_other i j (suc k) code fs h
held-on_pubrec_other i j k code (sent l ∷ fs) h = let r = held-on_pubrec_other i j (suc k) code fs h in let q = holding-on_pubrec i j k l (is_success code) h in cc
held-on_pubrec_other i j k code (released l ∷ fs) h = let r = held-on_pubrec_other i j (suc k) code fs h in cc
held-on_pubrec_other i j k code (ended by ∷ fs) h = held-on_pubrec_other i j (suc k) code fs h

-- a PUBCOMP leaves other identifiers alone
pub held-on_pubcomp_other : (i j k : ℕ) (fs : List Fate) → nat_eq i j ≡ false → held i k (map (on_pubcomp j) fs) ≡ held i k fs
held-on_pubcomp_other i j k [] h = refl
held-on_pubcomp_other i j k (sent_1 l ∷ fs) h = let r = held-on_pubcomp_other i j (suc k) fs h in cc
held-on_pubcomp_other i j k (ended_1 by ∷ fs) h = held-on_pubcomp_other i j (suc k) fs h
held-on_pubcomp_other i j k (sent l ∷ fs) h = let r = held-on_pubcomp_other i j (suc k) fs h in cc
held-on_pubcomp_other i j k (released l ∷ fs) h = let r = held-on_pubcomp_other i j (suc k) fs h in grind (arith, nat_tests, r)
held-on_pubcomp_other i j k (ended by ∷ fs) h = held-on_pubcomp_other i j (suc k) fs h

-- what is sent again
abbrev pub renewed : ℕ → List (ℕ × Mark) → List FromPublisher
renewed i [] = []
renewed i ((n, for_puback) ∷ hs) = PUBLISH_1 i n true ∷ renewed i hs
renewed i ((n, for_pubrec) ∷ hs) = PUBLISH_2 i n true ∷ renewed i hs
renewed i ((n, for_pubcomp) ∷ hs) = PUBREL i ∷ renewed i hs

-- what is sent again under an identifier is of the message that holds it
pub ups-resent_from : (i k : ℕ) (fs : List Fate) → ups i (resent_from k fs) ≡ renewed i (held i k fs)
ups-resent_from i k [] = refl
ups-resent_from i k (sent_1 l ∷ fs) = let r = ups-resent_from i (suc k) fs in grind (arith, nat_tests, r)
ups-resent_from i k (ended_1 by ∷ fs) = ups-resent_from i (suc k) fs
ups-resent_from i k (sent l ∷ fs) = let r = ups-resent_from i (suc k) fs in grind (arith, nat_tests, r)
ups-resent_from i k (released l ∷ fs) = let r = ups-resent_from i (suc k) fs in grind (arith, nat_tests, r)
ups-resent_from i k (ended by ∷ fs) = ups-resent_from i (suc k) fs

-- nothing is in flight once all was forgotten
pub held-on_new_session : (i k : ℕ) (fs : List Fate) → held i k (map on_new_session fs) ≡ []
held-on_new_session i k [] = refl
held-on_new_session i k (sent_1 l ∷ fs) = held-on_new_session i (suc k) fs
held-on_new_session i k (ended_1 by ∷ fs) = held-on_new_session i (suc k) fs
held-on_new_session i k (sent l ∷ fs) = held-on_new_session i (suc k) fs
held-on_new_session i k (released l ∷ fs) = held-on_new_session i (suc k) fs
held-on_new_session i k (ended by ∷ fs) = held-on_new_session i (suc k) fs
