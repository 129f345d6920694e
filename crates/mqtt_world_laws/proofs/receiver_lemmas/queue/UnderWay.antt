-- While a session is connected on the receiver's line, something is under way for each copy of which something is due.
use Rattle.std.proofs.Common.{◌≡◌, ◌⊎◌, inl, inr, ⊎_elim, ℕ, zero, suc, Bool, true, false, ◌&&◌, List, [], ◌∷◌, ◌++◌, map, nat_eq, refl, sym, ap, ◌∙◌, subst, Option, Some, eqb-true, if◌then◌else◌, nat_lt, None}
use Rattle.std.specs.Prelude.{⊤}
use Rattle.mqtt_base.specs.Codes.{identifier_not_found, success}
use Rattle.mqtt_base.specs.declared.Ending.TheVariants.{Taken}
use Rattle.mqtt_flow.specs.inbound.Identifiers.{is_among}
use Rattle.mqtt_flow.specs.inbound.Line.{Link, away, asked, live, sent_on}
use Rattle.mqtt_flow.proofs.inbound_lemmas.Identifiers.{test_cases, same_id}
use Rattle.mqtt_flow.specs.outbound.Receiver.{Body, Output, connack, no_connack, publish, pubrel, disconnect, Answer, connect, puback, pubrec, pubcomp, read_publish, read_connack, release_code, down_comes, gives_up, joins}
use Rattle.mqtt_flow.proofs.outbound_lemmas.outbound.Lives.{Mark, sent, released, Life, waiting, in_flight, ended, pids, find, pumped, pump_sends, anew, pubrels, cut, Lapse, lapse_at, Turn, stay, over, turned, answered, on_puback, on_pubrec, on_pubcomp, Reply, wrong, says, puback_reply, pubrec_reply, pubcomp_reply}
use Rattle.mqtt_flow.proofs.outbound_lemmas.outbound.LivesWorld.{World, Event, enter, finish, pump, to_broker, old_to_broker, to_end, give_up, break_line, make_line, close, close_old, restart, enters_in, unused_of, put_at, arranged, connects, connects_old, replied, replied_old, up_comes, old_comes, step, run}
use Rattle.mqtt_flow.proofs.outbound_lemmas.outbound.Stages.{held, Stage, At, Calm, Norm, Good, Fresh, Blank, no_line, is_asked, was_shut, is_connect, effective, first_of, find-held}
use Rattle.mqtt_flow.proofs.outbound_lemmas.outbound.Steps.{held-answered_same, pubrec_came, puback_came, pubcomp_came}
use Rattle.mqtt_flow.proofs.outbound_lemmas.outbound.BrokerReads.{calm_connect, calm_old}
use Rattle.mqtt_flow.proofs.outbound_lemmas.outbound.ReceiverReads.{keeps}
use Rattle.mqtt_world_laws.specs.receiver.Rounds.{Has, is_told, is_answered}

-- ---- one of a list

-- what is in the first of two lists is in both
pub has_left : {X : Type 0} (f : X → Bool) (xs ys : List X) → Has f xs → Has f (xs ++ ys)
has_left f [] ys h = absurd h
has_left f (x ∷ xs) ys (inl e) = inl e
has_left f (x ∷ xs) ys (inr h) = inr (has_left f xs ys h)

-- so is what is in the second
pub has_right : {X : Type 0} (f : X → Bool) (xs ys : List X) → Has f ys → Has f (xs ++ ys)
has_right f [] ys h = h
has_right f (x ∷ xs) ys h = inr (has_right f xs ys h)

has_either : {X : Type 0} (f : X → Bool) (xs ys : List X) → Has f (xs ++ ys) → Has f xs ⊎ Has f ys
has_either f [] ys h = inr h
has_either f (x ∷ xs) ys (inl e) = inl (inl e)
has_either f (x ∷ xs) ys (inr h) = ⊎_elim (λ l. inl (inr l)) (λ r. inr r) (has_either f xs ys h)

-- ---- a copy of which something is due, by its life

abbrev pub is_due : ℕ → Life → Bool
is_due i (waiting b) = false
is_due i (in_flight j (sent here) b) = here && nat_eq i j
is_due i (in_flight j (released here taken) b) = nat_eq i j
is_due i (ended e b) = false

abbrev pub Owes : List Life → List Output → List Answer → Type 0
Owes copies down up = (i : ℕ) → Has (is_due i) copies → Has (is_told i) down ⊎ Has (is_answered i) up

abbrev pub Owed : World → Type 0
Owed w = w.linked ≡ true → Owes w.copies w.down w.up

unlinked : (w : World) → w.linked ≡ false → Owed w
unlinked w e h = absurd (cc)

-- ---- copies that move

due_cut : (i : ℕ) (fs : List Life) → Has (is_due i) (map cut fs) → ⊥
due_cut i [] h = h
due_cut i (waiting b ∷ fs) (inl e) = absurd (cc)
due_cut i (waiting b ∷ fs) (inr h) = due_cut i fs h
due_cut i (in_flight j m b ∷ fs) (inl e) = absurd (cc)
due_cut i (in_flight j m b ∷ fs) (inr h) = due_cut i fs h
due_cut i (ended e b ∷ fs) (inl x) = absurd (cc)
due_cut i (ended e b ∷ fs) (inr h) = due_cut i fs h

due_anew : (i : ℕ) (fs : List Life) → Has (is_due i) (map anew fs) → Has (is_told i) (pubrels fs)
due_anew i [] h = h
due_anew i (waiting b ∷ fs) (inl e) = absurd (cc)
due_anew i (waiting b ∷ fs) (inr h) = due_anew i fs h
due_anew i (in_flight j (sent here) b ∷ fs) (inl e) = absurd (cc)
due_anew i (in_flight j (sent here) b ∷ fs) (inr h) = due_anew i fs h
due_anew i (in_flight j (released here taken) b ∷ fs) (inl e) = inl e
due_anew i (in_flight j (released here taken) b ∷ fs) (inr h) = inr (due_anew i fs h)
due_anew i (ended e b ∷ fs) (inl x) = absurd (cc)
due_anew i (ended e b ∷ fs) (inr h) = due_anew i fs h

due_lapse : (i : ℕ) (l : Lapse) (n : ℕ) (fs : List Life) → Has (is_due i) (lapse_at l n fs) → Has (is_due i) fs
due_lapse i l n [] h = absurd h
due_lapse i l zero (waiting b ∷ fs) (inl e) = absurd (cc)
due_lapse i l zero (waiting b ∷ fs) (inr h) = inr h
due_lapse i l zero (in_flight j m b ∷ fs) h = h
due_lapse i l zero (ended e b ∷ fs) h = h
due_lapse i l (suc n) (f ∷ fs) (inl e) = inl e
due_lapse i l (suc n) (f ∷ fs) (inr h) = inr (due_lapse i l n fs h)

due_pumped : (i u n : ℕ) (fs : List Life) → Has (is_due i) (pumped u fs) → Has (is_due i) fs ⊎ Has (is_told i) (pump_sends u n fs)
due_pumped i u n [] h = absurd h
due_pumped i u n (waiting b ∷ fs) (inl e) = inr (inl e)
due_pumped i u n (waiting b ∷ fs) (inr h) = inl (inr h)
due_pumped i u n (in_flight j (sent true) b ∷ fs) (inl e) = inl (inl e)
due_pumped i u n (in_flight j (sent true) b ∷ fs) (inr h) = ⊎_elim (λ l. inl (inr l)) (λ r. inr r) (due_pumped i u (suc n) fs h)
due_pumped i u n (in_flight j (sent false) b ∷ fs) (inl e) = inr (inl e)
due_pumped i u n (in_flight j (sent false) b ∷ fs) (inr h) = inl (inr h)
due_pumped i u n (in_flight j (released here taken) b ∷ fs) (inl e) = inl (inl e)
due_pumped i u n (in_flight j (released here taken) b ∷ fs) (inr h) = ⊎_elim (λ l. inl (inr l)) (λ r. inr r) (due_pumped i u (suc n) fs h)
due_pumped i u n (ended e b ∷ fs) (inl x) = absurd (cc)
due_pumped i u n (ended e b ∷ fs) (inr h) = ⊎_elim (λ l. inl (inr l)) (λ r. inr r) (due_pumped i u (suc n) fs h)

due_turned : (i j : ℕ) (t : Turn) (b : Body) → nat_eq i j ≡ false → is_due i (turned j t b) ≡ false
due_turned i j (stay (sent true)) b e = e
due_turned i j (stay (sent false)) b e = refl
due_turned i j (stay (released h t)) b e = e
due_turned i j (over x) b e = refl

-- an answer about another identifier
due_other : (i j : ℕ) (g : Mark → Body → Turn) (fs : List Life) → nat_eq i j ≡ false → Has (is_due i) (map (answered j g) fs) → Has (is_due i) fs
due_other i j g [] o h = absurd h
due_other i j g (waiting b ∷ fs) o (inl e) = absurd (cc)
due_other i j g (waiting b ∷ fs) o (inr h) = inr (due_other i j g fs o h)
due_other i j g (ended x b ∷ fs) o (inl e) = absurd (cc)
due_other i j g (ended x b ∷ fs) o (inr h) = inr (due_other i j g fs o h)
due_other i j g (in_flight k m b ∷ fs) o (inr h) = inr (due_other i j g fs o h)
due_other i j g (in_flight k m b ∷ fs) o (inl e) = ⊎_elim
    (λ (t : nat_eq j k ≡ true).
    let s : nat_eq i k ≡ false = rw (← eqb-true j k t) o in
    let z = due_turned i k (g m b) b s in
    let e' : is_due i (turned k (g m b) b) ≡ true = rw t at e in absurd (cc))
    (λ (t : nat_eq j k ≡ false). inl (rw t at e))
    (test_cases (nat_eq j k))

not_held : (i k : ℕ) (fs : List Life) → held i k fs ≡ [] → Has (is_due i) fs → ⊥
not_held i k [] o h = h
not_held i k (waiting b ∷ fs) o (inl e) = cc
not_held i k (waiting b ∷ fs) o (inr h) = not_held i (suc k) fs o h
not_held i k (ended x b ∷ fs) o (inl e) = cc
not_held i k (ended x b ∷ fs) o (inr h) = not_held i (suc k) fs o h
not_held i k (in_flight j (sent true) b ∷ fs) o (inl e) = let o' = rw e at o in cc
not_held i k (in_flight j (sent false) b ∷ fs) o (inl e) = cc
not_held i k (in_flight j (released x t) b ∷ fs) o (inl e) = let o' = rw e at o in cc
not_held i k (in_flight j m b ∷ fs) o (inr h) = ⊎_elim
    (λ (t : nat_eq i j ≡ true). let o' = rw t at o in absurd (cc))
    (λ (t : nat_eq i j ≡ false). not_held i (suc k) fs (rw t at o) h)
    (test_cases (nat_eq i j))

-- ---- packets in another order

told_put : (i k : ℕ) (p : Output) (ps : List Output) → (is_told i p ≡ true) ⊎ Has (is_told i) ps → Has (is_told i) (put_at k p ps)
told_put i k p [] h = h
told_put i zero p (x ∷ xs) h = h
told_put i (suc k) p (x ∷ xs) (inl e) = inr (told_put i k p xs (inl e))
told_put i (suc k) p (x ∷ xs) (inr (inl e)) = inl e
told_put i (suc k) p (x ∷ xs) (inr (inr h)) = inr (told_put i k p xs (inr h))

told_arranged : (i : ℕ) (order : List ℕ) (ps qs : List Output) → Has (is_told i) ps ⊎ Has (is_told i) qs → Has (is_told i) (arranged order ps qs)
told_arranged i order ps [] (inl h) = h
told_arranged i order ps [] (inr h) = absurd h
told_arranged i [] ps (q ∷ qs) (inl h) = told_arranged i [] (put_at 0 q ps) qs (inl (told_put i 0 q ps (inr h)))
told_arranged i [] ps (q ∷ qs) (inr (inl e)) = told_arranged i [] (put_at 0 q ps) qs (inl (told_put i 0 q ps (inl e)))
told_arranged i [] ps (q ∷ qs) (inr (inr h)) = told_arranged i [] (put_at 0 q ps) qs (inr h)
told_arranged i (k ∷ order) ps (q ∷ qs) (inl h) = told_arranged i order (put_at k q ps) qs (inl (told_put i k q ps (inr h)))
told_arranged i (k ∷ order) ps (q ∷ qs) (inr (inl e)) = told_arranged i order (put_at k q ps) qs (inl (told_put i k q ps (inl e)))
told_arranged i (k ∷ order) ps (q ∷ qs) (inr (inr h)) = told_arranged i order (put_at k q ps) qs (inr h)

-- ---- the receiver reads

abbrev Back : ℕ → List Output → List Answer → Type 0
Back i down up = Has (is_told i) down ⊎ Has (is_answered i) up

-- the first packet to the receiver goes, and its answer comes
answering : (i : ℕ) (p : Output) (a : Answer) (rest : List Output) (up : List Answer) → (is_told i p ≡ true → is_answered i a ≡ true) → Back i (p ∷ rest) up → Back i rest (up ++ a ∷ [])
answering i p a rest up f (inl (inl e)) = inr (has_right (is_answered i) up (a ∷ []) (inl (f e)))
answering i p a rest up f (inl (inr h)) = inl h
answering i p a rest up f (inr h) = inr (has_left (is_answered i) up (a ∷ []) h)

silent : (i : ℕ) (p : Output) (rest : List Output) (up : List Answer) → is_told i p ≡ false → Back i (p ∷ rest) up → Back i rest up
silent i p rest up o (inl (inl e)) = absurd (cc)
silent i p rest up o (inl (inr h)) = inl h
silent i p rest up o (inr h) = inr h

down_owed : (down : List Output) (w : World) → w.down ≡ down → Owed w → Owed (down_comes down w)
down_owed [] w d o = o
down_owed (connack p ∷ rest) w d o = go w.link refl
  where
    go : (l : Link) → w.link ≡ l → Owed (read_connack l p rest w)
    go away e h i due = silent i (connack p) rest w.up refl (subst (λ ps. Back i ps w.up) d (o h i due))
    go asked e h i due = silent i (connack p) rest w.up refl (subst (λ ps. Back i ps w.up) d (o h i due))
    go live e h i due = silent i (connack p) rest w.up refl (subst (λ ps. Back i ps w.up) d (o h i due))
down_owed (no_connack ∷ rest) w d o = λ h. absurd (cc)
down_owed (disconnect ∷ rest) w d o = λ h. absurd (cc)
down_owed (pubrel j code ∷ rest) w d o = λ h i due.
    subst (λ b. Back i rest (sent_on b w.up (pubcomp j (release_code (is_among j w.kept)) ∷ []))) (sym h)
    (answering i (pubrel j code) (pubcomp j (release_code (is_among j w.kept))) rest w.up (λ e. e) (subst (λ ps. Back i ps w.up) d (o h i due)))
down_owed (publish j n dup b ∷ rest) w d o = go b.twice
  where
    go : (t : Bool) → Owed (read_publish t j n b rest w)
    go true h i due = subst (λ b. Back i rest (sent_on b w.up (pubrec j success ∷ []))) (sym h)
        (answering i (publish j n dup b) (pubrec j success) rest w.up (λ e. e) (subst (λ ps. Back i ps w.up) d (o h i due)))
    go false h i due = subst (λ b. Back i rest (sent_on b w.up (puback j success ∷ []))) (sym h)
        (answering i (publish j n dup b) (puback j success) rest w.up (λ e. e) (subst (λ ps. Back i ps w.up) d (o h i due)))

-- ---- the broker reads

more_down : (i : ℕ) (down ps : List Output) (up : List Answer) → Back i down up → Back i (down ++ ps) up
more_down i down ps up (inl h) = inl (has_left (is_told i) down ps h)
more_down i down ps up (inr h) = inr h

without_answer : (i : ℕ) (down : List Output) (a : Answer) (rest : List Answer) → is_answered i a ≡ false → Back i down (a ∷ rest) → Back i down rest
without_answer i down a rest o (inl h) = inl h
without_answer i down a rest o (inr (inl e)) = absurd (cc)
without_answer i down a rest o (inr (inr h)) = inr h

connecting : (s c r : Bool) (order : List ℕ) (rest : List Answer) (w : World) → w.linked ≡ false → Owed (connects s c r order rest w)
connecting false c true order rest w e = unlinked (connects false c true order rest w) e
connecting false c false order rest w e = λ h i due. absurd (due_cut i w.copies due)
connecting true true r order rest w e = λ h i due. absurd (due_cut i w.copies due)
connecting true false r order rest w e = λ h i due. inl (has_right (is_told i) w.down (connack true ∷ arranged order [] (pubrels w.copies)) (inr (told_arranged i order [] (pubrels w.copies) (inr (due_anew i w.copies due)))))

-- an answer: of another identifier as before, of its own nothing is due, or its PUBREL is under way
settling : (j : ℕ) (a : Answer) (g : Mark → Body → Turn) (r : Reply) (rest : List Answer) (w : World) → w.up ≡ a ∷ rest
    → ((i : ℕ) → nat_eq i j ≡ false → is_answered i a ≡ false)
    → ((ps : List Output) → r ≡ says ps → w.linked ≡ true → Has (is_due j) (map (answered j g) w.copies) → Has (is_told j) ps)
    → Owed w → Owed (replied r rest (map (answered j g) w.copies) w)
settling j a g wrong rest w u other own o = λ h. absurd (cc)
settling j a g (says ps) rest w u other own o = λ h i due.
    subst (λ b. Back i (sent_on b w.down ps) rest) (sym h)
    (⊎_elim
    (λ (t : nat_eq i j ≡ true). let z : i ≡ j = eqb-true i j t in
    inl (has_right (is_told i) w.down ps (subst (λ k. Has (is_told k) ps) (sym z) (own ps refl h (subst (λ k. Has (is_due k) (map (answered j g) w.copies)) z due)))))
    (λ (t : nat_eq i j ≡ false). more_down i w.down ps rest (without_answer i w.down a rest (other i t) (subst (λ us. Back i w.down us) u (o h i (due_other i j g w.copies t due)))))
    (test_cases (nat_eq i j)))

ended_away : (b : Body) (code : ℕ) → code ≡ 0 → b.twice ≡ false → on_puback code (sent true) b ≡ over Taken
ended_away b code z t = rw (z, t) refl

-- a copy of QoS 2 that was sent is answered by a PUBREC
pub pubrec_said : (j code : ℕ) (o : Option (Mark × Body)) (b : Body) → o ≡ Some (sent true, b) → code ≡ 0 → b.twice ≡ true → pubrec_reply j code o ≡ says (pubrel j 0 ∷ [])
pubrec_said j code o b e z t = rw (e, z, t) refl

-- each identifier is at one stage of its handshake
pub at_up : (w : World) (up : List Answer) → w.up ≡ up → Norm w → (i : ℕ) → (s : Stage) × At i w.copies w.linked w.old up w.down (effective w.link w.down w.kept) w.reads s
at_up w up u inv i = ((inv.each i).0, subst (λ x. At i w.copies w.linked w.old x w.down (effective w.link w.down w.kept) w.reads (inv.each i).0) u (inv.each i).1)

up_owed : (r : Bool) (order : List ℕ) (up : List Answer) (w : World) → w.up ≡ up → Norm w → Owed w → Owed (up_comes r order up w)
up_owed r order [] w u inv o = o
up_owed r order (connect c ∷ rest) w u inv o =
    connecting w.stands c r order rest w (calm_connect (subst (λ x. Calm w.link w.linked w.stands w.clean x w.down w.old w.kept) u inv.calm)).3
up_owed r order (puback j code ∷ rest) w u inv o =
    let at = at_up w (puback j code ∷ rest) u inv j in
    let came = puback_came at.0 at.1 in
    settling j (puback j code) (on_puback code) (puback_reply (find j w.copies)) rest w u (λ i t. t)
    (λ ps e h due. absurd (not_held j 0 (map (answered j (on_puback code)) w.copies)
    (held-answered_same j 0 (on_puback code) w.copies ∙ rw (came.holds, ended_away came.body code came.of_code came.twice) refl) due))
    o
up_owed r order (pubrec j code ∷ rest) w u inv o =
    let at = at_up w (pubrec j code ∷ rest) u inv j in
    let came = pubrec_came at.0 at.1 in
    let found : find j w.copies ≡ Some (sent true, came.body) = find-held j 0 w.copies ∙ ap first_of came.holds in
    let said = pubrec_said j code (find j w.copies) came.body found came.of_code came.twice in
    let own = same_id j in
    settling j (pubrec j code) (on_pubrec code) (pubrec_reply j code (find j w.copies)) rest w u (λ i t. t)
    (λ ps e h due. let same : says (pubrel j 0 ∷ []) ≡ says ps = sym said ∙ e in let z : pubrel j 0 ∷ [] ≡ ps = cc in subst (Has (is_told j)) z (inl own))
    o
up_owed r order (pubcomp j code ∷ rest) w u inv o =
    let at = at_up w (pubcomp j code ∷ rest) u inv j in
    let came = pubcomp_came at.0 at.1 in
    settling j (pubcomp j code) on_pubcomp (pubcomp_reply (find j w.copies)) rest w u (λ i t. t)
    (λ ps e h due. absurd (not_held j 0 (map (answered j on_pubcomp) w.copies)
    (held-answered_same j 0 on_pubcomp w.copies ∙ rw came.holds refl) due))
    o

-- ---- from the line that was given up

replied_old_same : (r : Reply) (rest : List Answer) (cs : List Life) (w : World) → (replied_old r rest cs w).linked ≡ w.linked
replied_old_same wrong rest cs w = refl
replied_old_same (says ps) rest cs w = refl

connecting_old : (s c r : Bool) (rest : List Answer) (w : World) → Owed w → Owed (connects_old s c r rest w)
connecting_old false c true rest w o = o
connecting_old false c false rest w o = λ h i due. absurd (due_cut i w.copies due)
connecting_old true true r rest w o = λ h. absurd (cc)
connecting_old true false r rest w o = λ h. absurd (cc)

not_answered : (p : Answer) (rest : List Answer) (w : World) → w.old ≡ p ∷ rest → is_connect p ≡ false → Norm w → w.linked ≡ false
not_answered p rest w u e inv =
    (calm_old e (subst (λ x. Calm w.link w.linked w.stands w.clean w.up w.down x w.kept) u inv.calm)).2

old_owed : (r : Bool) (old : List Answer) (w : World) → w.old ≡ old → Norm w → Owed w → Owed (old_comes r old w)
old_owed r [] w u inv o = o
old_owed r (connect c ∷ rest) w u inv o = connecting_old w.stands c r rest w o
old_owed r (puback j code ∷ rest) w u inv o = unlinked (old_comes r (puback j code ∷ rest) w)
    (replied_old_same (puback_reply (find j w.copies)) rest (map (answered j (on_puback code)) w.copies) w ∙ not_answered (puback j code) rest w u refl inv)
old_owed r (pubrec j code ∷ rest) w u inv o = unlinked (old_comes r (pubrec j code ∷ rest) w)
    (replied_old_same (pubrec_reply j code (find j w.copies)) rest (map (answered j (on_pubrec code)) w.copies) w ∙ not_answered (pubrec j code) rest w u refl inv)
old_owed r (pubcomp j code ∷ rest) w u inv o = unlinked (old_comes r (pubcomp j code ∷ rest) w)
    (replied_old_same (pubcomp_reply (find j w.copies)) rest (map (answered j on_pubcomp) w.copies) w ∙ not_answered (pubcomp j code) rest w u refl inv)

-- ---- while a Clean Start goes on, the session is not connected on the receiver's line

-- a fresh hop is not linked
pub blank_linked : (w : World) → Fresh w → w.linked ≡ false
blank_linked w f = go f.lines
  where
    go : Blank w.link w.linked w.up w.down → w.linked ≡ false
    go (no_line a b c d) = d
    go (is_asked a b c d) = d
    go (was_shut a b c d) = d

fresh_up_owed : (r : Bool) (order : List ℕ) (w : World) → Fresh w → Owed (up_comes r order w.up w)
fresh_up_owed r order w f = go f.lines
  where
    none : w.up ≡ [] → Owed (up_comes r order w.up w)
    none e = subst (λ us. Owed (up_comes r order us w)) (sym e) (unlinked w (blank_linked w f))

    go : Blank w.link w.linked w.up w.down → Owed (up_comes r order w.up w)
    go (no_line a b c d) = none b
    go (is_asked a b c d) = subst (λ us. Owed (up_comes r order us w)) (sym b) (connecting w.stands true r order [] w d)
    go (was_shut a b c d) = none b

fresh_old_owed : (r : Bool) (old : List Answer) (w : World) → w.linked ≡ false → Owed (old_comes r old w)
fresh_old_owed r [] w e = unlinked w e
fresh_old_owed r (connect c ∷ rest) w e = connecting_old w.stands c r rest w (unlinked w e)
fresh_old_owed r (puback j code ∷ rest) w e = unlinked (old_comes r (puback j code ∷ rest) w)
    (replied_old_same (puback_reply (find j w.copies)) rest (map (answered j (on_puback code)) w.copies) w ∙ e)
fresh_old_owed r (pubrec j code ∷ rest) w e = unlinked (old_comes r (pubrec j code ∷ rest) w)
    (replied_old_same (pubrec_reply j code (find j w.copies)) rest (map (answered j (on_pubrec code)) w.copies) w ∙ e)
fresh_old_owed r (pubcomp j code ∷ rest) w e = unlinked (old_comes r (pubcomp j code ∷ rest) w)
    (replied_old_same (pubcomp_reply (find j w.copies)) rest (map (answered j on_pubcomp) w.copies) w ∙ e)

-- ---- each event

enter_owed : (s : Bool) (b : Body) (w : World) → Owed w → Owed (enters_in s b w)
enter_owed false b w o = o
enter_owed true b w o = λ h i due. ⊎_elim
    (λ x. o h i x)
    (λ x. absurd (only_new i x))
    (has_either (is_due i) w.copies (waiting b ∷ []) due)
  where
    only_new : (i : ℕ) → Has (is_due i) (waiting b ∷ []) → ⊥
    only_new i (inl e) = cc
    only_new i (inr x) = x

pump_owed : (u : ℕ) (w : World) → Owed w → Owed (record w { copies = pumped u w.copies; down = sent_on w.linked w.down (pump_sends u 0 w.copies) })
pump_owed u w o = λ h i due.
    subst (λ b. Back i (sent_on b w.down (pump_sends u 0 w.copies)) w.up) (sym h)
    (⊎_elim
    (λ x. more_down i w.down (pump_sends u 0 w.copies) w.up (o h i x))
    (λ x. inl (has_right (is_told i) w.down (pump_sends u 0 w.copies) x))
    (due_pumped i u 0 w.copies due))

gives_owed : (c : Bool) (l : Link) (w : World) → Owed w → Owed (gives_up c l w)
gives_owed true l w o = o
gives_owed false away w o = o
gives_owed false asked w o = λ h. absurd (cc)
gives_owed false live w o = λ h. absurd (cc)

joins_owed : (l : Link) (c : Bool) (w : World) → Owed w → Owed (joins l c w)
joins_owed away c w o = λ h. absurd (cc)
joins_owed asked c w o = o
joins_owed live c w o = o

-- ---- while the session is connected on the receiver's line, nothing under way there ends it

abbrev pub is_parting : Output → Bool
is_parting (connack p) = false
is_parting no_connack = true
is_parting (publish i n dup b) = false
is_parting (pubrel i code) = false
is_parting disconnect = true

abbrev pub Open : World → Type 0
Open w = w.linked ≡ true → Has is_parting w.down → ⊥

sends_stay : (u n : ℕ) (fs : List Life) → Has is_parting (pump_sends u n fs) → ⊥
sends_stay u n [] h = h
sends_stay u n (waiting b ∷ fs) (inl e) = cc
sends_stay u n (waiting b ∷ fs) (inr h) = h
sends_stay u n (in_flight j (sent true) b ∷ fs) h = sends_stay u (suc n) fs h
sends_stay u n (in_flight j (sent false) b ∷ fs) (inl e) = cc
sends_stay u n (in_flight j (sent false) b ∷ fs) (inr h) = h
sends_stay u n (in_flight j (released x t) b ∷ fs) h = sends_stay u (suc n) fs h
sends_stay u n (ended e b ∷ fs) h = sends_stay u (suc n) fs h

pubrels_stay : (fs : List Life) → Has is_parting (pubrels fs) → ⊥
pubrels_stay [] h = h
pubrels_stay (waiting b ∷ fs) h = pubrels_stay fs h
pubrels_stay (in_flight j (sent x) b ∷ fs) h = pubrels_stay fs h
pubrels_stay (in_flight j (released x t) b ∷ fs) (inl e) = cc
pubrels_stay (in_flight j (released x t) b ∷ fs) (inr h) = pubrels_stay fs h
pubrels_stay (ended e b ∷ fs) h = pubrels_stay fs h

put_parting : (k : ℕ) (p : Output) (ps : List Output) → Has is_parting (put_at k p ps) → (is_parting p ≡ true) ⊎ Has is_parting ps
put_parting k p [] h = h
put_parting zero p (x ∷ xs) h = h
put_parting (suc k) p (x ∷ xs) (inl e) = inr (inl e)
put_parting (suc k) p (x ∷ xs) (inr h) = ⊎_elim (λ e. inl e) (λ y. inr (inr y)) (put_parting k p xs h)

arranged_parting : (order : List ℕ) (ps qs : List Output) → Has is_parting (arranged order ps qs) → Has is_parting ps ⊎ Has is_parting qs
arranged_parting order ps [] h = inl h
arranged_parting [] ps (q ∷ qs) h = ⊎_elim
    (λ x. ⊎_elim (λ e. inr (inl e)) (λ y. inl y) (put_parting 0 q ps x))
    (λ x. inr (inr x))
    (arranged_parting [] (put_at 0 q ps) qs h)
arranged_parting (k ∷ order) ps (q ∷ qs) h = ⊎_elim
    (λ x. ⊎_elim (λ e. inr (inl e)) (λ y. inl y) (put_parting k q ps x))
    (λ x. inr (inr x))
    (arranged_parting order (put_at k q ps) qs h)

resumed_stays : (order : List ℕ) (fs : List Life) → Has is_parting (connack true ∷ arranged order [] (pubrels fs)) → ⊥
resumed_stays order fs (inl e) = cc
resumed_stays order fs (inr h) = ⊎_elim (λ x. x) (λ x. pubrels_stay fs x) (arranged_parting order [] (pubrels fs) h)

connack_stays : (p : Bool) → Has is_parting (connack p ∷ []) → ⊥
connack_stays p (inl e) = cc
connack_stays p (inr h) = h

sent_open : (b : Bool) (down ps : List Output) → (Has is_parting down → ⊥) → (Has is_parting ps → ⊥) → Has is_parting (sent_on b down ps) → ⊥
sent_open true down ps n m h = ⊎_elim n m (has_either is_parting down ps h)
sent_open false down ps n m h = n h

closed : (w : World) → w.linked ≡ false → Open w
closed w e h = absurd (cc)

connects_open : (s c r : Bool) (order : List ℕ) (rest : List Answer) (w : World) → w.linked ≡ false → w.down ≡ [] → Open (connects s c r order rest w)
connects_open false c true order rest w e d = closed (connects false c true order rest w) e
connects_open false c false order rest w e d = λ h x. ⊎_elim (λ y. subst (Has is_parting) d y) (connack_stays false) (has_either is_parting w.down (connack false ∷ []) x)
connects_open true true r order rest w e d = λ h x. ⊎_elim (λ y. subst (Has is_parting) d y) (connack_stays false) (has_either is_parting w.down (connack false ∷ []) x)
connects_open true false r order rest w e d = λ h x. ⊎_elim (λ y. subst (Has is_parting) d y) (resumed_stays order w.copies) (has_either is_parting w.down (connack true ∷ arranged order [] (pubrels w.copies)) x)

abbrev PlainReply : Reply → Type 0
PlainReply wrong = ⊤
PlainReply (says ps) = Has is_parting ps → ⊥

pubrel_plain : (i code : ℕ) → Has is_parting (pubrel i code ∷ []) → ⊥
pubrel_plain i code (inl e) = cc
pubrel_plain i code (inr h) = h

puback_plain : (o : Option (Mark × Body)) → PlainReply (puback_reply o)
puback_plain None = λ h. h
puback_plain (Some (sent x, b)) = go b.twice
  where
    go : (t : Bool) → PlainReply (if t then wrong else says [])
    go true = tt
    go false = λ h. h
puback_plain (Some (released x t, b)) = tt

pubrec_plain : (i code : ℕ) (o : Option (Mark × Body)) → PlainReply (pubrec_reply i code o)
pubrec_plain i code None = pubrel_plain i identifier_not_found
pubrec_plain i code (Some (sent x, b)) = go b.twice (nat_lt code 128)
  where
    go : (t l : Bool) → PlainReply (if t then (if l then says (pubrel i 0 ∷ []) else says []) else wrong)
    go true true = pubrel_plain i 0
    go true false = λ h. h
    go false l = tt
pubrec_plain i code (Some (released x t, b)) = pubrel_plain i 0

pubcomp_plain : (o : Option (Mark × Body)) → PlainReply (pubcomp_reply o)
pubcomp_plain None = λ h. h
pubcomp_plain (Some (sent x, b)) = tt
pubcomp_plain (Some (released x t, b)) = λ h. h

replied_open : (r : Reply) (rest : List Answer) (cs : List Life) (w : World) → PlainReply r → Open w → Open (replied r rest cs w)
replied_open wrong rest cs w p o = λ h. absurd (cc)
replied_open (says ps) rest cs w p o = λ h x. sent_open w.linked w.down ps (o h) p x

up_open : (r : Bool) (order : List ℕ) (up : List Answer) (w : World) → w.up ≡ up → Norm w → Open w → Open (up_comes r order up w)
up_open r order [] w u inv o = o
up_open r order (connect c ∷ rest) w u inv o =
    let calm = calm_connect (subst (λ x. Calm w.link w.linked w.stands w.clean x w.down w.old w.kept) u inv.calm) in
    connects_open w.stands c r order rest w calm.3 calm.2
up_open r order (puback j code ∷ rest) w u inv o = replied_open (puback_reply (find j w.copies)) rest (map (answered j (on_puback code)) w.copies) w (puback_plain (find j w.copies)) o
up_open r order (pubrec j code ∷ rest) w u inv o = replied_open (pubrec_reply j code (find j w.copies)) rest (map (answered j (on_pubrec code)) w.copies) w (pubrec_plain j code (find j w.copies)) o
up_open r order (pubcomp j code ∷ rest) w u inv o = replied_open (pubcomp_reply (find j w.copies)) rest (map (answered j on_pubcomp) w.copies) w (pubcomp_plain (find j w.copies)) o

fresh_up_open : (r : Bool) (order : List ℕ) (w : World) → Fresh w → Open (up_comes r order w.up w)
fresh_up_open r order w f = go f.lines
  where
    none : w.up ≡ [] → Open (up_comes r order w.up w)
    none e = subst (λ us. Open (up_comes r order us w)) (sym e) (closed w (blank_linked w f))

    go : Blank w.link w.linked w.up w.down → Open (up_comes r order w.up w)
    go (no_line a b c d) = none b
    go (is_asked a b c d) = subst (λ us. Open (up_comes r order us w)) (sym b) (connects_open w.stands true r order [] w d c)
    go (was_shut a b c d) = none b

replied_old_open : (r : Reply) (rest : List Answer) (cs : List Life) (w : World) → Open w → Open (replied_old r rest cs w)
replied_old_open wrong rest cs w o = o
replied_old_open (says ps) rest cs w o = o

connecting_old_open : (s c r : Bool) (rest : List Answer) (w : World) → Open w → Open (connects_old s c r rest w)
connecting_old_open false c true rest w o = o
connecting_old_open false c false rest w o = o
connecting_old_open true true r rest w o = λ h. absurd (cc)
connecting_old_open true false r rest w o = λ h. absurd (cc)

old_open : (r : Bool) (old : List Answer) (w : World) → Open w → Open (old_comes r old w)
old_open r [] w o = o
old_open r (connect c ∷ rest) w o = connecting_old_open w.stands c r rest w o
old_open r (puback j code ∷ rest) w o = replied_old_open (puback_reply (find j w.copies)) rest (map (answered j (on_puback code)) w.copies) w o
old_open r (pubrec j code ∷ rest) w o = replied_old_open (pubrec_reply j code (find j w.copies)) rest (map (answered j (on_pubrec code)) w.copies) w o
old_open r (pubcomp j code ∷ rest) w o = replied_old_open (pubcomp_reply (find j w.copies)) rest (map (answered j on_pubcomp) w.copies) w o

connack_open : (l : Link) (p : Bool) (rest : List Output) (w : World) → (w.linked ≡ true → Has is_parting rest → ⊥) → Open (read_connack l p rest w)
connack_open away p rest w o = o
connack_open asked p rest w o = o
connack_open live p rest w o = o

publish_open : (t : Bool) (i n : ℕ) (b : Body) (rest : List Output) (w : World) → (w.linked ≡ true → Has is_parting rest → ⊥) → Open (read_publish t i n b rest w)
publish_open true i n b rest w o = o
publish_open false i n b rest w o = o

behind_open : (p : Output) (rest : List Output) (w : World) → w.down ≡ p ∷ rest → Open w → w.linked ≡ true → Has is_parting rest → ⊥
behind_open p rest w d o h x = o h (subst (Has is_parting) (sym d) (inr x))

down_open : (down : List Output) (w : World) → w.down ≡ down → Open w → Open (down_comes down w)
down_open [] w d o = o
down_open (connack p ∷ rest) w d o = connack_open w.link p rest w (behind_open (connack p) rest w d o)
down_open (no_connack ∷ rest) w d o = λ h. absurd (cc)
down_open (disconnect ∷ rest) w d o = λ h. absurd (cc)
down_open (pubrel j code ∷ rest) w d o = behind_open (pubrel j code) rest w d o
down_open (publish j n dup b ∷ rest) w d o = publish_open b.twice j n b rest w (behind_open (publish j n dup b) rest w d o)

enter_open : (s : Bool) (b : Body) (w : World) → Open w → Open (enters_in s b w)
enter_open false b w o = o
enter_open true b w o = o

gives_open : (c : Bool) (l : Link) (w : World) → Open w → Open (gives_up c l w)
gives_open true l w o = o
gives_open false away w o = o
gives_open false asked w o = λ h. absurd (cc)
gives_open false live w o = λ h. absurd (cc)

joins_open : (l : Link) (c : Bool) (w : World) → Open w → Open (joins l c w)
joins_open away c w o = λ h. absurd (cc)
joins_open asked c w o = o
joins_open live c w o = o

step_open : (w : World) (e : Event) → Good w → Open w → Open (step w e)
step_open w (enter b) g o = enter_open w.stands b w o
step_open w (finish l n) g o = o
step_open w (pump k) g o = λ h x. sent_open w.linked w.down (pump_sends (unused_of k (pids w.copies)) 0 w.copies) (o h) (sends_stay (unused_of k (pids w.copies)) 0 w.copies) x
step_open w (to_broker r order) (inl inv) o = up_open r order w.up w refl inv o
step_open w (to_broker r order) (inr f) o = fresh_up_open r order w f
step_open w (old_to_broker r) g o = old_open r w.old w o
step_open w to_end g o = down_open w.down w refl o
step_open w give_up g o = gives_open w.clean w.link w o
step_open w break_line g o = λ h. absurd (cc)
step_open w (make_line c) g o = joins_open w.link c w o
step_open w close g o = λ h. absurd (cc)
step_open w close_old g o = o
step_open w restart g o = λ h. absurd (cc)

-- on a linked line nothing is under way by which it ends
pub run_open : (es : List Event) (w : World) → Good w → Open w → Open (run es w)
run_open [] w g o = o
run_open (e ∷ es) w g o = run_open es (step w e) (keeps w e g) (step_open w e g o)

-- ---- of each event

step_owed : (w : World) (e : Event) → Good w → Owed w → Owed (step w e)
step_owed w (enter b) g o = enter_owed w.stands b w o
step_owed w (finish l n) g o = λ h i due. o h i (due_lapse i l n w.copies due)
step_owed w (pump k) g o = pump_owed (unused_of k (pids w.copies)) w o
step_owed w (to_broker r order) (inl inv) o = up_owed r order w.up w refl inv o
step_owed w (to_broker r order) (inr f) o = fresh_up_owed r order w f
step_owed w (old_to_broker r) (inl inv) o = old_owed r w.old w refl inv o
step_owed w (old_to_broker r) (inr f) o = fresh_old_owed r w.old w (blank_linked w f)
step_owed w to_end g o = down_owed w.down w refl o
step_owed w give_up g o = gives_owed w.clean w.link w o
step_owed w break_line g o = λ h. absurd (cc)
step_owed w (make_line c) g o = joins_owed w.link c w o
step_owed w close g o = λ h. absurd (cc)
step_owed w close_old g o = o
step_owed w restart g o = λ h. absurd (cc)

-- so what is due of a copy, or its answer, is under way behind every run
pub run_owed : (es : List Event) (w : World) → Good w → Owed w → Owed (run es w)
run_owed [] w g o = o
run_owed (e ∷ es) w g o = run_owed es (step w e) (keeps w e g) (step_owed w e g o)
