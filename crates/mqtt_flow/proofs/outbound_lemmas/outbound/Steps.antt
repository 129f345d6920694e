-- What connections and answers do to each identifier and each copy.
use Rattle.std.proofs.Common.{◌≡◌, inl, inr, ⊎_elim, ℕ, suc, ◌≤◌, Bool, true, false, cond, ◌&&◌, List, [], ◌∷◌, ◌++◌, map, nat_eq, refl, sym, ap, ◌∙◌, arith, Option, Some, None, option_map, eqb-true}
use Rattle.mqtt_flow.specs.inbound.Identifiers.{is_among}
use Rattle.mqtt_flow.specs.outbound.Receiver.{Body, Output, connack, pubrel, Answer, puback, pubrec, pubcomp, Handed, handed}
use Rattle.mqtt_flow.proofs.outbound_lemmas.outbound.LivesWorld.{arranged}
use Rattle.mqtt_flow.proofs.outbound_lemmas.outbound.Lives.{Mark, sent, released, Life, waiting, in_flight, ended, unsent, anew, pubrels, cut, Turn, stay, over, turned, answered, on_puback, on_pubrec, on_pubcomp}
use Rattle.mqtt_flow.proofs.inbound_lemmas.Identifiers.{test_cases, same_id}
use Rattle.mqtt_flow.proofs.outbound_lemmas.outbound.Stages.{OneAtMost, downs-arranged, ups, downs, up_about, Copy_of, Copy, holding, held, Stage, free, idle, publishing, receiving, acking, releasing, completing, held_of, up_of, down_of, open_of, Fits, AtMost, Way, At, Told, Weak, Was_read, Settled, at_most_none, at_most_more, at_head}
use Rattle.mqtt_flow.proofs.outbound_lemmas.outbound.Sends.{by_id, way_some, way_same, same_stage}

-- a new connection
abbrev aged : List Copy_of → List Copy_of
aged [] = []
aged (Copy n m b ∷ hs) = Copy n (unsent m) b ∷ aged hs

held-anew : (i k : ℕ) (fs : List Life) → held i k (map anew fs) ≡ aged (held i k fs)
held-anew i k [] = refl
held-anew i k (waiting b ∷ fs) = held-anew i (suc k) fs
held-anew i k (in_flight j m b ∷ fs) = let r = held-anew i (suc k) fs in ⊎_elim (λ (e : nat_eq i j ≡ true). rw (e, r) refl) (λ (e : nat_eq i j ≡ false). rw (e, r) refl) (test_cases (nat_eq i j))
held-anew i k (ended e b ∷ fs) = held-anew i (suc k) fs

-- once the session has ended no copy holds an identifier
pub held-cut : (i k : ℕ) (fs : List Life) → held i k (map cut fs) ≡ []
held-cut i k [] = refl
held-cut i k (waiting b ∷ fs) = held-cut i (suc k) fs
held-cut i k (in_flight j m b ∷ fs) = held-cut i (suc k) fs
held-cut i k (ended e b ∷ fs) = held-cut i (suc k) fs

abbrev freed : ℕ → List Copy_of → List Output
freed i [] = []
freed i (Copy n (sent h) b ∷ hs) = freed i hs
freed i (Copy n (released h t) b ∷ hs) = pubrel i 0 ∷ freed i hs

downs-pubrels : (i k : ℕ) (fs : List Life) → downs i (pubrels fs) ≡ freed i (held i k fs)
downs-pubrels i k [] = refl
downs-pubrels i k (waiting b ∷ fs) = downs-pubrels i (suc k) fs
downs-pubrels i k (in_flight j (sent h) b ∷ fs) = let r = downs-pubrels i (suc k) fs in ⊎_elim (λ (e : nat_eq i j ≡ true). rw e r) (λ (e : nat_eq i j ≡ false). rw e r) (test_cases (nat_eq i j))
downs-pubrels i k (in_flight j (released h t) b ∷ fs) = let r = downs-pubrels i (suc k) fs in ⊎_elim
    (λ (e : nat_eq i j ≡ true). rw e (rw r (ap (λ x. pubrel x 0 ∷ freed i (held i (suc k) fs)) (sym (eqb-true i j e)))))
    (λ (e : nat_eq i j ≡ false). rw (e, r) refl)
    (test_cases (nat_eq i j))
downs-pubrels i k (ended e b ∷ fs) = downs-pubrels i (suc k) fs

abbrev pub again : Stage → Stage
again free = free
again (idle n dup o b) = idle n dup o b
again (publishing n dup o b) = idle n dup o b
again (receiving n b) = idle n false true b
again (acking n b) = idle n false false b
again (releasing n o h t b) = releasing n o false t b
again (completing n code h t b) = releasing n false false t b

held_again : (s : Stage) → held_of (again s) ≡ aged (held_of s)
held_again free = refl
held_again (idle n dup o b) = refl
held_again (publishing n dup o b) = refl
held_again (receiving n b) = refl
held_again (acking n b) = refl
held_again (releasing n o h t b) = refl
held_again (completing n code h t b) = refl

down_again : (i : ℕ) (s : Stage) → down_of i true (again s) ≡ freed i (held_of s)
down_again i free = refl
down_again i (idle n dup o b) = refl
down_again i (publishing n dup o b) = refl
down_again i (receiving n b) = refl
down_again i (acking n b) = refl
down_again i (releasing n o h t b) = refl
down_again i (completing n code h t b) = refl

open_again : (r : List Handed) (s : Stage) → Fits r s → open_of (again s) ≡ open_of s
open_again r free f = refl
open_again r (idle n dup o b) f = refl
open_again r (publishing n dup o b) f = refl
open_again r (receiving n b) f = rw f refl
open_again r (acking n b) f = rw f.0 refl
open_again r (releasing n o h t b) f = refl
open_again r (completing n code h t b) f = refl

fits_again : (r : List Handed) (s : Stage) → Fits r (again s)
fits_again r free = tt
fits_again r (idle n dup o b) = tt
fits_again r (publishing n dup o b) = tt
fits_again r (receiving n b) = tt
fits_again r (acking n b) = tt
fits_again r (releasing n o h t b) = tt
fits_again r (completing n code h t b) = tt

up_again : (i : ℕ) (s : Stage) → up_of i (again s) ≡ []
up_again i free = refl
up_again i (idle n dup o b) = refl
up_again i (publishing n dup o b) = refl
up_again i (receiving n b) = refl
up_again i (acking n b) = refl
up_again i (releasing n o h t b) = refl
up_again i (completing n code h t b) = refl

-- what is under way when the connection is lost, with a new one elsewhere or without
way_again : (i : ℕ) (l : Bool) (xs : List Output) (s : Stage) → Way l xs (down_of i l s) → AtMost xs (down_of i false (again s))
way_again i l xs free h = way_some l _ _ h
way_again i true xs (idle n dup o b) h = inl h
way_again i false xs (idle n dup o b) h = h
way_again i l xs (publishing n dup o b) h = way_some l _ _ h
way_again i l xs (receiving n b) h = inl (at_most_none (way_some l _ _ h))
way_again i l xs (acking n b) h = inl (at_most_none (way_some l _ _ h))
way_again i l xs (releasing n o x t b) h = way_some l _ _ h
way_again i l xs (completing n code x t b) h = inl (at_most_none (way_some l _ _ h))

-- what is under way of a stage is, once the line is lost, at most what may be stale
pub way_lost : (i : ℕ) (l : Bool) (xs : List Output) (s : Stage) → Way l xs (down_of i l s) → AtMost xs (down_of i false s)
way_lost i l xs free h = way_some l _ _ h
way_lost i true xs (idle n dup o b) h = inl h
way_lost i false xs (idle n dup o b) h = h
way_lost i l xs (publishing n dup o b) h = way_some l _ _ h
way_lost i l xs (receiving n b) h = way_some l _ _ h
way_lost i l xs (acking n b) h = way_some l _ _ h
way_lost i l xs (releasing n o x t b) h = way_some l _ _ h
way_lost i l xs (completing n code x t b) h = way_some l _ _ h

one_freed : (i : ℕ) (s : Stage) → OneAtMost (freed i (held_of s))
one_freed i free = tt
one_freed i (idle n dup o b) = tt
one_freed i (publishing n dup o b) = tt
one_freed i (receiving n b) = tt
one_freed i (acking n b) = tt
one_freed i (releasing n o h t b) = refl
one_freed i (completing n code h t b) = refl

-- a session that is resumed has each identifier at the stage to go on from
pub begins_again : (order : List ℕ) {i : ℕ} {f : List Life} {l : Bool} {a a' b b' : List Answer} {d : List Output} {k : List ℕ} {r : List Handed} (s : Stage) → At i f l a b d k r s → ups i a' ≡ [] → ups i b' ≡ [] → At i (map anew f) true a' b' (connack true ∷ arranged order [] (pubrels f)) k r (again s)
begins_again order {i} {f} {r = r} s at e' e = record {
  holds = held-anew i 0 f ∙ (ap aged at.holds ∙ sym (held_again s));
  of_old = inl e';
  of_up = inl e;
  of_down = downs-arranged i order [] (pubrels f) (freed i (held_of s)) (one_freed i s) (inl (refl, downs-pubrels i 0 f ∙ ap (freed i) at.holds)) ∙ sym (down_again i s);
  is_kept = at.is_kept ∙ sym (open_again r s at.fits);
  fits = fits_again r s;
}

-- a line that is lost leaves each identifier at the stage to go on from, with nothing under way
pub ends_again : {i : ℕ} {f : List Life} {l : Bool} {a a' b b' : List Answer} {d d' : List Output} {k : List ℕ} {r : List Handed} (s : Stage) → At i f l a b d k r s → ups i a' ≡ [] → ups i b' ≡ [] → AtMost (downs i d') (downs i d) → At i (map anew f) false a' b' d' k r (again s)
ends_again {i} {f} {l} {r = r} s at e' e g = record {
  holds = held-anew i 0 f ∙ (ap aged at.holds ∙ sym (held_again s));
  of_old = inl e';
  of_up = inl e;
  of_down = at_most_more g (way_again i l _ s at.of_down);
  is_kept = at.is_kept ∙ sym (open_again r s at.fits);
  fits = fits_again r s;
}

one_or_none : (b : Bool) → cond b 1 0 ≤ 1
one_or_none true = omega arith
one_or_none false = omega arith

-- on a new connection the ledger has each copy as often as its phase says
pub told_anew : (k : List ℕ) (c : ℕ) (f : Option Life) → Told k c f → Told k c (option_map anew f)
told_anew k c None t = t
told_anew k c (Some (waiting b)) t = t
told_anew k c (Some (in_flight i (sent h) b)) t = t
told_anew k c (Some (in_flight i (released h x) b)) t = t
told_anew k c (Some (ended e b)) t = t

-- on a new connection what is known of the ledger during a Clean Start is known still
pub weak_anew : (c : ℕ) (f : Option Life) → Weak c f → Weak c (option_map anew f)
weak_anew c None t = t
weak_anew c (Some (waiting b)) t = t
weak_anew c (Some (in_flight i (sent h) b)) t = t
weak_anew c (Some (in_flight i (released h x) b)) t = t
weak_anew c (Some (ended e b)) t = t

-- on a new connection copies of QoS 1 that were taken were read
pub was_anew : (r : ℕ) (f : Option Life) → Was_read r f → Was_read r (option_map anew f)
was_anew r None t = t
was_anew r (Some (waiting b)) t = t
was_anew r (Some (in_flight i m b)) t = t
was_anew r (Some (ended e b)) t = t

-- on a new connection settled copies are settled still
pub settled_anew : (c : ℕ) (f : Option Life) → Settled c f → Settled c (option_map anew f)
settled_anew c None t = t
settled_anew c (Some (waiting b)) t = t
settled_anew c (Some (in_flight i (sent h) b)) t = t
settled_anew c (Some (in_flight i (released h x) b)) t = t
settled_anew c (Some (ended e b)) t = t

-- what a lost CONNACK of a new session leaves
pub told_weak : (k : List ℕ) (c : ℕ) (f : Option Life) → Told k c f → Weak c f
told_weak k c None t = t
told_weak k c (Some (waiting b)) t = t
told_weak k c (Some (in_flight i (sent h) b)) t = let y = one_or_none (b.twice && is_among i k) in omega arith
told_weak k c (Some (in_flight i (released h x) b)) t = t.0
told_weak k c (Some (ended e b)) t = t

-- the session ends
pub weak_cut : (c : ℕ) (f : Option Life) → Weak c f → Told [] c (option_map cut f)
weak_cut c None t = t
weak_cut c (Some (waiting b)) t = omega arith
weak_cut c (Some (in_flight i (sent h) b)) t = t
weak_cut c (Some (in_flight i (released h x) b)) t = omega arith
weak_cut c (Some (ended e b)) t = t

-- when the session ends copies of QoS 1 that were taken were read
pub was_cut : (r : ℕ) (f : Option Life) → Was_read r f → Was_read r (option_map cut f)
was_cut r None t = t
was_cut r (Some (waiting b)) t = t
was_cut r (Some (in_flight i m b)) t = t
was_cut r (Some (ended e b)) t = t

-- when the session ends settled copies are settled still
pub settled_cut : (c : ℕ) (f : Option Life) → Settled c f → Settled c (option_map cut f)
settled_cut c None t = t
settled_cut c (Some (waiting b)) t = tt
settled_cut c (Some (in_flight i m b)) t = tt
settled_cut c (Some (ended e b)) t = t

-- answers
abbrev turn_of : ℕ → Turn → Body → List Copy_of
turn_of n (stay m) b = Copy n m b ∷ []
turn_of n (over e) b = []

abbrev moved : (Mark → Body → Turn) → List Copy_of → List Copy_of
moved g [] = []
moved g (Copy n m b ∷ hs) = turn_of n (g m b) b ++ moved g hs

holding-turned : (i j k : ℕ) (t : Turn) (b : Body) → nat_eq i j ≡ true → holding i k (turned j t b) ≡ turn_of k t b
holding-turned i j k (stay m) b e = rw e refl
holding-turned i j k (over x) b e = refl

holding-away : (i j k : ℕ) (t : Turn) (b : Body) → nat_eq i j ≡ false → holding i k (turned j t b) ≡ []
holding-away i j k (stay m) b e = rw e refl
holding-away i j k (over x) b e = refl

-- an answer moves the copy that holds its identifier
pub held-answered_same : (i k : ℕ) (g : Mark → Body → Turn) (fs : List Life) → held i k (map (answered i g) fs) ≡ moved g (held i k fs)
held-answered_same i k g [] = refl
held-answered_same i k g (waiting b ∷ fs) = held-answered_same i (suc k) g fs
held-answered_same i k g (in_flight j m b ∷ fs) = let r = held-answered_same i (suc k) g fs in ⊎_elim
    (λ (e : nat_eq i j ≡ true). rw (e, r, holding-turned i j k (g m b) b e) refl)
    (λ (e : nat_eq i j ≡ false). rw e (rw (e, r) refl))
    (test_cases (nat_eq i j))
held-answered_same i k g (ended e b ∷ fs) = held-answered_same i (suc k) g fs

-- an answer leaves alone who holds other identifiers
pub held-answered_other : (i j k : ℕ) (g : Mark → Body → Turn) (fs : List Life) → nat_eq i j ≡ false → held i k (map (answered j g) fs) ≡ held i k fs
held-answered_other i j k g [] h = refl
held-answered_other i j k g (waiting b ∷ fs) h = held-answered_other i j (suc k) g fs h
held-answered_other i j k g (in_flight l m b ∷ fs) h = let r = held-answered_other i j (suc k) g fs h in ⊎_elim
    (λ (e : nat_eq j l ≡ true).
    let s : nat_eq i l ≡ false = rw (← eqb-true j l e) h in
    rw (e, r, s, holding-away i l k (g m b) b s) refl)
    (λ (e : nat_eq j l ≡ false). rw (e, r) refl)
    (test_cases (nat_eq j l))
held-answered_other i j k g (ended e b ∷ fs) h = held-answered_other i j (suc k) g fs h

-- what is known of a copy that an answer names
pub get_answered : (P : Option Life → Type 0) (i : ℕ) (g : Mark → Body → Turn) (f : Option Life) → ((j : ℕ) (m : Mark) (b : Body) → f ≡ Some (in_flight j m b) → nat_eq i j ≡ true → P (Some (in_flight j m b)) → P (Some (turned j (g m b) b))) → P f → P (option_map (answered i g) f)
get_answered P i g None h p = p
get_answered P i g (Some (waiting b)) h p = p
get_answered P i g (Some (in_flight j m b)) h p = ⊎_elim
    (λ (e : nat_eq i j ≡ true). rw e (h j m b refl e p))
    (λ (e : nat_eq i j ≡ false). rw e p)
    (test_cases (nat_eq i j))
get_answered P i g (Some (ended e b)) h p = p

-- after a PUBREC the ledger has its copy as often as its phase says
pub told_pubrec : (k : List ℕ) (c i : ℕ) (m : Mark) (b : Body) → b.twice ≡ true → is_among i k ≡ true → Told k c (Some (in_flight i m b)) → Told k c (Some (turned i (on_pubrec 0 m b) b))
told_pubrec k c i (sent h) b tw o t = rw tw (let t' : c ≡ 1 = rw (tw, o) at t in (t', refl))
told_pubrec k c i (released h x) b tw o t = t

-- after a PUBACK the ledger has its copy as often as its phase says
pub told_puback : (k : List ℕ) (c i : ℕ) (m : Mark) (b : Body) → b.twice ≡ false → Told k c (Some (in_flight i m b)) → Told k c (Some (turned i (on_puback 0 m b) b))
told_puback k c i (sent h) b tw t = rw tw (let t' : c ≡ 0 = rw tw at t in (λ x. absurd (cc), omega arith))
told_puback k c i (released h x) b tw t = t

-- after a PUBCOMP the ledger has its copy as often as its phase says
pub told_pubcomp : (k : List ℕ) (c i : ℕ) (m : Mark) (b : Body) → Told k c (Some (in_flight i m b)) → Told k c (Some (turned i (on_pubcomp m b) b))
told_pubcomp k c i (sent h) b t = t
told_pubcomp k c i (released h true) b t = let t' = t.0 in (λ x. t', omega arith)
told_pubcomp k c i (released h false) b t = let t' = t.0 in omega arith

-- after a PUBREC of a copy of QoS 2 those of QoS 1 that were taken were read, as before
pub was_pubrec : (r i : ℕ) (m : Mark) (b : Body) → b.twice ≡ true → Was_read r (Some (turned i (on_pubrec 0 m b) b))
was_pubrec r i (sent h) b tw = rw tw tt
was_pubrec r i (released h x) b tw = tt

-- a copy that a PUBACK takes was read
pub was_puback : (r i : ℕ) (m : Mark) (b : Body) → b.twice ≡ false → 1 ≤ r → Was_read r (Some (turned i (on_puback 0 m b) b))
was_puback r i (sent h) b tw l = rw tw (λ x. l)
was_puback r i (released h x) b tw l = tt

-- after a PUBCOMP copies of QoS 1 that were taken were read, as before
pub was_pubcomp : (k : List ℕ) (c r i : ℕ) (m : Mark) (b : Body) → Told k c (Some (in_flight i m b)) → Was_read r (Some (turned i (on_pubcomp m b) b))
was_pubcomp k c r i (sent h) b t = tt
was_pubcomp k c r i (released h true) b t = λ x. let y = sym t.1 ∙ x in absurd (cc)
was_pubcomp k c r i (released h false) b t = tt

-- after a PUBREC its copy is settled if it was
pub settled_pubrec : (c i : ℕ) (m : Mark) (b : Body) → b.twice ≡ true → Settled c (Some (in_flight i m b)) → Settled c (Some (turned i (on_pubrec 0 m b) b))
settled_pubrec c i (sent h) b tw t = rw tw tt
settled_pubrec c i (released h x) b tw t = t

-- after a PUBACK its copy is settled if it was
pub settled_puback : (c i : ℕ) (m : Mark) (b : Body) → b.twice ≡ false → Settled c (Some (in_flight i m b)) → Settled c (Some (turned i (on_puback 0 m b) b))
settled_puback c i (sent h) b tw t = rw tw tt
settled_puback c i (released h x) b tw t = t

-- after a PUBCOMP its copy is settled if it was
pub settled_pubcomp : (c i : ℕ) (m : Mark) (b : Body) → Settled c (Some (in_flight i m b)) → Settled c (Some (turned i (on_pubcomp m b) b))
settled_pubcomp c i (sent h) b t = t
settled_pubcomp c i (released h x) b t = tt

-- the broker reads an answer
pub record Pubrec_came (i code : ℕ) (f : List Life) (rest : List Answer) (down : List Output) (kept : List ℕ) : Type 0 where
  pub number : ℕ
  pub body : Body
  pub holds : held i 0 f ≡ Copy number (sent true) body ∷ []
  pub of_code : code ≡ 0
  pub of_rest : ups i rest ≡ []
  pub of_down : downs i down ≡ []
  pub is_kept : is_among i kept ≡ true
  pub twice : body.twice ≡ true

-- a PUBREC that comes tells the stage of its identifier
pub pubrec_came : {i code : ℕ} {f : List Life} {l : Bool} {a rest : List Answer} {d : List Output} {k : List ℕ} {r : List Handed} (s : Stage) → At i f l a (pubrec i code ∷ rest) d k r s → Pubrec_came i code f rest d k
pubrec_came {i} {code} {f} {l} {a} {rest} {d} {k} {r} s at = let y = same_id i in go s at.holds (at_head (rw y at at.of_up)) (way_some l _ _ at.of_down) at.is_kept at.fits
  where
    go : (s : Stage) → held i 0 f ≡ held_of s → pubrec i code ∷ ups i rest ≡ up_of i s → AtMost (downs i d) (down_of i l s) → is_among i k ≡ open_of s → Fits r s → Pubrec_came i code f rest d k
    go free h e w o q = absurd (cc)
    go (idle n dup p b) h e w o q = absurd (cc)
    go (publishing n dup p b) h e w o q = absurd (cc)
    go (receiving n b) h e w o q = record { number = n; body = b; holds = h; of_code = cc; of_rest = cc; of_down = at_most_none w; is_kept = o; twice = q }
    go (acking n b) h e w o q = absurd (cc)
    go (releasing n p x t b) h e w o q = absurd (cc)
    go (completing n c x t b) h e w o q = absurd (cc)

-- what is known when a PUBACK comes: its copy was sent here, is of QoS 1, and was read
pub record Puback_came (i code : ℕ) (f : List Life) (rest : List Answer) (down : List Output) (kept : List ℕ) (reads : List Handed) : Type 0 where
  pub number : ℕ
  pub body : Body
  pub holds : held i 0 f ≡ Copy number (sent true) body ∷ []
  pub of_code : code ≡ 0
  pub of_rest : ups i rest ≡ []
  pub of_down : downs i down ≡ []
  pub is_kept : is_among i kept ≡ false
  pub twice : body.twice ≡ false
  pub was : 1 ≤ handed number reads

-- a PUBACK that comes tells the stage of its identifier
pub puback_came : {i code : ℕ} {f : List Life} {l : Bool} {a rest : List Answer} {d : List Output} {k : List ℕ} {r : List Handed} (s : Stage) → At i f l a (puback i code ∷ rest) d k r s → Puback_came i code f rest d k r
puback_came {i} {code} {f} {l} {a} {rest} {d} {k} {r} s at = let y = same_id i in go s at.holds (at_head (rw y at at.of_up)) (way_some l _ _ at.of_down) at.is_kept at.fits
  where
    go : (s : Stage) → held i 0 f ≡ held_of s → puback i code ∷ ups i rest ≡ up_of i s → AtMost (downs i d) (down_of i l s) → is_among i k ≡ open_of s → Fits r s → Puback_came i code f rest d k r
    go free h e w o q = absurd (cc)
    go (idle n dup p b) h e w o q = absurd (cc)
    go (publishing n dup p b) h e w o q = absurd (cc)
    go (receiving n b) h e w o q = absurd (cc)
    go (acking n b) h e w o q = record { number = n; body = b; holds = h; of_code = cc; of_rest = cc; of_down = at_most_none w; is_kept = o; twice = q.0; was = q.1 }
    go (releasing n p x t b) h e w o q = absurd (cc)
    go (completing n c x t b) h e w o q = absurd (cc)

-- what is known when a PUBCOMP comes: its copy was released, and nothing else is under way about it
pub record Pubcomp_came (i : ℕ) (f : List Life) (rest : List Answer) (down : List Output) (kept : List ℕ) : Type 0 where
  pub number : ℕ
  pub here : Bool
  pub taken : Bool
  pub body : Body
  pub holds : held i 0 f ≡ Copy number (released here taken) body ∷ []
  pub of_rest : ups i rest ≡ []
  pub of_down : downs i down ≡ []
  pub is_kept : is_among i kept ≡ false

-- a PUBCOMP that comes tells the stage of its identifier
pub pubcomp_came : {i code : ℕ} {f : List Life} {l : Bool} {a rest : List Answer} {d : List Output} {k : List ℕ} {r : List Handed} (s : Stage) → At i f l a (pubcomp i code ∷ rest) d k r s → Pubcomp_came i f rest d k
pubcomp_came {i} {code} {f} {l} {a} {rest} {d} {k} {r} s at = let y = same_id i in go s at.holds (at_head (rw y at at.of_up)) (way_some l _ _ at.of_down) at.is_kept
  where
    go : (s : Stage) → held i 0 f ≡ held_of s → pubcomp i code ∷ ups i rest ≡ up_of i s → AtMost (downs i d) (down_of i l s) → is_among i k ≡ open_of s → Pubcomp_came i f rest d k
    go free h e w o = absurd (cc)
    go (idle n dup p b) h e w o = absurd (cc)
    go (publishing n dup p b) h e w o = absurd (cc)
    go (receiving n b) h e w o = absurd (cc)
    go (acking n b) h e w o = absurd (cc)
    go (releasing n p x t b) h e w o = absurd (cc)
    go (completing n c x t b) h e w o = record { number = n; here = x; taken = t; body = b; holds = h; of_rest = cc; of_down = at_most_none w; is_kept = o }

-- seen from either line
pub swap : {i : ℕ} {f : List Life} {l : Bool} {a b : List Answer} {d : List Output} {k : List ℕ} {r : List Handed} {s : Stage} → At i f l a b d k r s → At i f l b a d k r s
swap at = record { holds = at.holds; of_old = at.of_up; of_up = at.of_old; of_down = at.of_down; is_kept = at.is_kept; fits = at.fits }

-- after an answer about one identifier each has its stage
pub answer_each : (i : ℕ) (p : Answer) (g : Mark → Body → Turn) (f : List Life) (l : Bool) (a rest : List Answer) (d d' : List Output) (k : List ℕ) (r : List Handed) → ((j : ℕ) → (s : Stage) × At j f l a (p ∷ rest) d k r s) → ((j : ℕ) → nat_eq j i ≡ false → up_about j p ≡ false) → ((j : ℕ) → nat_eq j i ≡ false → downs j d' ≡ downs j d) → (s : Stage) × At i (map (answered i g) f) l a rest d' k r s → (j : ℕ) → (s : Stage) × At j (map (answered i g) f) l a rest d' k r s
answer_each i p g f l a rest d d' k r each about there new j =
    by_id (λ j. (s : Stage) × At j (map (answered i g) f) l a rest d' k r s) i j new
    (λ e. let at = (each j).1 in ((each j).0, same_stage at (held-answered_other j i 0 g f e) (inr refl) (inr (rw (about j e) refl)) (way_same l _ _ _ (there j e) at.of_down) refl at.fits))
