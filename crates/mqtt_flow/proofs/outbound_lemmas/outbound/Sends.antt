-- New copies, ended ones, and what the broker sends.
use Rattle.std.proofs.Common.{◌≡◌, ◌⊎◌, inl, inr, ⊎_elim, ℕ, zero, suc, ◌+◌, ◌<◌, Bool, true, false, ◌&&◌, List, [], ◌∷◌, ◌++◌, length, nat_eq, refl, sym, ap, ◌∙◌, subst, arith, Option, Some, None, slice_get, append-nil, add-zero, zero-add, eqb-true}
use Rattle.std.proofs.lemmas.List.Elements.{filter-append}
use Rattle.mqtt_flow.specs.inbound.Identifiers.{is_among}
use Rattle.mqtt_flow.specs.inbound.Line.{Link, sent_on}
use Rattle.mqtt_flow.specs.outbound.Receiver.{Body, Output, connack, publish, Answer, Handed, handed}
use Rattle.mqtt_flow.proofs.outbound_lemmas.outbound.Lives.{Mark, sent, released, Life, waiting, in_flight, ended, pids, pumped, pump_sends, Lapse, is_late, is_large, is_dropped, cause, lapsed, lapse_at}
use Rattle.mqtt_flow.proofs.outbound_lemmas.outbound.LivesWorld.{World, enters_in, pump_one, unused_of, step, finish}
use Rattle.mqtt_flow.proofs.inbound_lemmas.Identifiers.{test_cases, same_id, free_is_free}
use Rattle.mqtt_flow.proofs.outbound_lemmas.outbound.Stages.{down_about, ups, downs, Copy_of, Copy, holding, held, Stage, free, idle, publishing, receiving, acking, releasing, completing, stale, down_of, Fits, AtMost, Way, At, Final, Told, Weak, Was_read, Settled, Ready, Published, Calm, is_away, is_sent, is_shut, is_read, is_live, effective, Done, Inv, Fresh, Blank, no_line, is_asked, was_shut, Good, at_most_more, at_most_none, ready_more, ready_push, under_way, held-append, not_held, only, none_in}

-- what holds of one identifier and of all others holds of each
pub by_id : (P : ℕ → Type 0) (i j : ℕ) → P i → (nat_eq j i ≡ false → P j) → P j
by_id P i j p q = ⊎_elim (λ (e : nat_eq j i ≡ true). subst P (sym (eqb-true j i e)) p) q (test_cases (nat_eq j i))

-- what is under way on a line, whole or lost, is at most that
pub way_some : (b : Bool) (xs ys : List Output) → Way b xs ys → AtMost xs ys
way_some true xs ys h = inr h
way_some false xs ys h = h

-- nothing under way is what is due, if nothing is
pub way_none : (b : Bool) (xs : List Output) → xs ≡ [] → Way b xs []
way_none true xs h = h
way_none false xs h = inl h

-- equal packets are under way alike
pub way_same : (b : Bool) (xs ys zs : List Output) → xs ≡ ys → Way b ys zs → Way b xs zs
way_same true xs ys zs e h = e ∙ h
way_same false xs ys zs e (inl h) = inl (e ∙ h)
way_same false xs ys zs e (inr h) = inr (e ∙ h)

-- packets about an identifier about which none was under way are what is under way about it
pub way_sent_on : (i : ℕ) (b : Bool) (down ps ys : List Output) → downs i down ≡ [] → downs i ps ≡ ys → Way b (downs i (sent_on b down ps)) ys
way_sent_on i true down ps ys h e = rw (filter-append (down_about i) down ps, h) e
way_sent_on i false down ps ys h e = inl h

-- packets that aren't about an identifier leave what is under way about it
pub downs-sent_on : (i : ℕ) (b : Bool) (down ps : List Output) → downs i ps ≡ [] → downs i (sent_on b down ps) ≡ downs i down
downs-sent_on i true down ps e = rw (filter-append (down_about i) down ps, e, append-nil) refl
downs-sent_on i false down ps e = refl

-- an identifier that a step does not name stays at its stage
pub same_stage : {i : ℕ} {f f' : List Life} {l l' : Bool} {a a' b b' : List Answer} {d d' : List Output} {k k' : List ℕ} {r r' : List Handed} {s : Stage} → At i f l a b d k r s → held i 0 f' ≡ held i 0 f → AtMost (ups i a') (ups i a) → AtMost (ups i b') (ups i b) → Way l' (downs i d') (down_of i l' s) → is_among i k' ≡ is_among i k → Fits r' s → At i f' l' a' b' d' k' r' s
same_stage at hf ha hb hd hk hr = record {
  holds = hf ∙ at.holds;
  of_old = at_most_more ha at.of_old;
  of_up = at_most_more hb at.of_up;
  of_down = hd;
  is_kept = hk ∙ at.is_kept;
  fits = hr;
}

-- what is known of each place
pub get_push : (P : Option Life → Type 0) (f : Life) (fs : List Life) (m : ℕ) → (P None → P (Some f)) → P (slice_get fs m) → P (slice_get (fs ++ f ∷ []) m)
get_push P f [] zero g h = g h
get_push P f [] (suc m) g h = h
get_push P f (x ∷ fs) zero g h = h
get_push P f (x ∷ fs) (suc m) g h = get_push P f fs m g h

get_lapsed : (P : Option Life → Type 0) (l : Lapse) (f : Life) → ((b : Body) → P (Some (waiting b)) → P (Some (ended (cause l) b))) → P (Some f) → P (Some (lapsed l f))
get_lapsed P l (waiting b) g h = g b h
get_lapsed P l (in_flight i m b) g h = h
get_lapsed P l (ended e b) g h = h

-- what is known of each copy is known after a copy that waited has ended, if it is of that one
pub get_lapse : (P : Option Life → Type 0) (l : Lapse) (n : ℕ) (fs : List Life) (m : ℕ) → ((b : Body) → P (Some (waiting b)) → P (Some (ended (cause l) b))) → P (slice_get fs m) → P (slice_get (lapse_at l n fs) m)
get_lapse P l n [] m g h = h
get_lapse P l zero (f ∷ fs) zero g h = get_lapsed P l f g h
get_lapse P l zero (f ∷ fs) (suc m) g h = h
get_lapse P l (suc n) (f ∷ fs) zero g h = h
get_lapse P l (suc n) (f ∷ fs) (suc m) g h = get_lapse P l n fs m g h

get_split : (P : Option Life → Type 0) (f g : Life) (xs ys : List Life) (m : ℕ) → (P (Some f) → P (Some g)) → P (slice_get (xs ++ f ∷ ys) m) → P (slice_get (xs ++ g ∷ ys) m)
get_split P f g [] ys zero c h = c h
get_split P f g [] ys (suc m) c h = h
get_split P f g (x ∷ xs) ys zero c h = h
get_split P f g (x ∷ xs) ys (suc m) c h = get_split P f g xs ys m c h

-- what is known of each copy is known after one was sent, if it is of that one
pub get_pumped : (P : Option Life → Type 0) (i : ℕ) (fs : List Life) (m : ℕ) → ((b : Body) → P (Some (waiting b)) → P (Some (in_flight i (sent true) b))) → ((j : ℕ) (b : Body) → P (Some (in_flight j (sent false) b)) → P (Some (in_flight j (sent true) b))) → P (slice_get fs m) → P (slice_get (pumped i fs) m)
get_pumped P i [] m f g h = h
get_pumped P i (waiting b ∷ fs) zero f g h = f b h
get_pumped P i (waiting b ∷ fs) (suc m) f g h = h
get_pumped P i (in_flight j (sent true) b ∷ fs) zero f g h = h
get_pumped P i (in_flight j (sent true) b ∷ fs) (suc m) f g h = get_pumped P i fs m f g h
get_pumped P i (in_flight j (sent false) b ∷ fs) zero f g h = g j b h
get_pumped P i (in_flight j (sent false) b ∷ fs) (suc m) f g h = h
get_pumped P i (in_flight j (released l t) b ∷ fs) zero f g h = h
get_pumped P i (in_flight j (released l t) b ∷ fs) (suc m) f g h = get_pumped P i fs m f g h
get_pumped P i (ended e b ∷ fs) zero f g h = h
get_pumped P i (ended e b ∷ fs) (suc m) f g h = get_pumped P i fs m f g h

held-push : (i : ℕ) (b : Body) (fs : List Life) → held i 0 (fs ++ waiting b ∷ []) ≡ held i 0 fs
held-push i b fs = held-append i 0 fs (waiting b ∷ []) ∙ append-nil (held i 0 fs)

holding-lapsed : (l : Lapse) (i k : ℕ) (f : Life) → holding i k (lapsed l f) ≡ holding i k f
holding-lapsed l i k (waiting b) = refl
holding-lapsed l i k (in_flight j m b) = refl
holding-lapsed l i k (ended e b) = refl

held-lapse : (l : Lapse) (i k n : ℕ) (fs : List Life) → held i k (lapse_at l n fs) ≡ held i k fs
held-lapse l i k n [] = refl
held-lapse l i k zero (f ∷ fs) = rw (holding-lapsed l i k f) refl
held-lapse l i k (suc n) (f ∷ fs) = rw (held-lapse l i (suc k) n fs) refl

final_lapsed : (l : Lapse) (b : Bool) (c : ℕ) → c ≡ 0 → Final (cause l) b c
final_lapsed is_late b c h = h
final_lapsed is_large b c h = omega arith
final_lapsed is_dropped b c h = h

read_lapsed : (l : Lapse) (b : Body) (r : ℕ) → Was_read r (Some (ended (cause l) b))
read_lapsed is_late b r = tt
read_lapsed is_large b r = tt
read_lapsed is_dropped b r = tt

lapse_none : (l : Lapse) (n : ℕ) (fs : List Life) → fs ≡ [] → lapse_at l n fs ≡ []
lapse_none l n fs e = rw e refl

enters_norm : (k : List ℕ) (b : Body) (w : World) → w.stands ≡ true → Inv k w → Inv k (record w { copies = w.copies ++ waiting b ∷ [] })
enters_norm k b w st inv =
    let w' = record w { copies = w.copies ++ waiting b ∷ [] } in
    let done : (m : ℕ) → Done w m → Done w' m = λ m. get_push (Settled (handed m w.ledger)) (waiting b) w.copies m (λ z. absurd z) in
    record {
      each = λ j. let at = (inv.each j).1 in ((inv.each j).0, same_stage at (held-push j b w.copies) (inr refl) (inr refl) at.of_down refl at.fits);
      told = λ m. get_push (Told k (handed m w.ledger)) (waiting b) w.copies m (λ z. z) (inv.told m);
      was = λ m. get_push (Was_read (handed m w.reads)) (waiting b) w.copies m (λ z. z) (inv.was m);
      calm = inv.calm;
      olds = inv.olds;
      begun = λ e. let x = sym st ∙ e in absurd (cc);
      ready = ready_more (Done w) (Done w') w.down done inv.ready;
      before = λ m n l h. done n (inv.before m n l h);
      rising = inv.rising;
    }

enters_fresh : (b : Body) (w : World) → Fresh w → Fresh (record w { copies = w.copies ++ waiting b ∷ [] })
enters_fresh b w f =
    record {
      of_old = f.of_old;
      lines = f.lines;
      weak = λ m. get_push (Weak (handed m w.ledger)) (waiting b) w.copies m (λ z. z) (f.weak m);
      was = λ m. get_push (Was_read (handed m w.reads)) (waiting b) w.copies m (λ z. z) (f.was m);
      before = λ m n l h. get_push (Settled (handed n w.ledger)) (waiting b) w.copies n (λ z. absurd z) (f.before m n l h);
      rising = f.rising;
      pending = f.pending;
      stands = f.stands;
    }

-- a copy that enters keeps the invariant
pub enters : (s : Bool) (b : Body) (w : World) → w.stands ≡ s → Good w → Good (enters_in s b w)
enters false b w e good = good
enters true b w e (inl inv) = inl (enters_norm (effective w.link w.down w.kept) b w e inv)
enters true b w e (inr f) = inr (enters_fresh b w f)

-- a copy that waits and ends keeps the invariant
pub lapses : (l : Lapse) (p : ℕ) (w : World) → Good w → Good (step w (finish l p))
lapses l p w (inl inv) =
    let k = effective w.link w.down w.kept in
    let w' = step w (finish l p) in
    let done : (m : ℕ) → Done w m → Done w' m = λ m. get_lapse (Settled (handed m w.ledger)) l p w.copies m (λ b z. tt) in
    inl (record {
      each = λ j. let at = (inv.each j).1 in ((inv.each j).0, same_stage at (held-lapse l j 0 p w.copies) (inr refl) (inr refl) at.of_down refl at.fits);
      told = λ m. get_lapse (Told k (handed m w.ledger)) l p w.copies m (λ b z. final_lapsed l b.twice (handed m w.ledger) z) (inv.told m);
      was = λ m. get_lapse (Was_read (handed m w.reads)) l p w.copies m (λ b z. read_lapsed l b (handed m w.reads)) (inv.was m);
      calm = inv.calm;
      olds = inv.olds;
      begun = λ e. (lapse_none l p w.copies (inv.begun e).0, (inv.begun e).1);
      ready = ready_more (Done w) (Done w') w.down done inv.ready;
      before = λ m n l h. done n (inv.before m n l h);
      rising = inv.rising;
    })
lapses l p w (inr f) = inr (record {
  of_old = f.of_old;
  lines = f.lines;
  weak = λ m. get_lapse (Weak (handed m w.ledger)) l p w.copies m (λ b z. final_lapsed l b.twice (handed m w.ledger) z) (f.weak m);
  was = λ m. get_lapse (Was_read (handed m w.reads)) l p w.copies m (λ b z. read_lapsed l b (handed m w.reads)) (f.was m);
  before = λ m n x h. get_lapse (Settled (handed n w.ledger)) l p w.copies n (λ b z. tt) (f.before m n x h);
  rising = f.rising;
  pending = f.pending;
  stands = f.stands;
})

-- what a pump passes
abbrev pub Gone : Life → Type 0
Gone (waiting b) = ⊥
Gone (in_flight j (sent true) b) = Unit {0}
Gone (in_flight j (sent false) b) = ⊥
Gone (in_flight j (released h t) b) = Unit {0}
Gone (ended e b) = Unit {0}

abbrev pub AllGone : List Life → Type 0
AllGone [] = Unit {0}
AllGone (f ∷ fs) = Gone f × AllGone fs

-- what a pump of one PUBLISH does: nothing, a first sending, or a second one, of the first copy that has something to send
pub data Pumped (i k : ℕ) (fs : List Life) : Type 0 where
  Nothing : pumped i fs ≡ fs → pump_sends i k fs ≡ [] → Pumped i k fs
  First : (b : Body) (xs ys : List Life) → fs ≡ xs ++ waiting b ∷ ys → pumped i fs ≡ xs ++ in_flight i (sent true) b ∷ ys → pump_sends i k fs ≡ publish i (k + length xs) false b ∷ [] → AllGone xs → Pumped i k fs
  Again : (l : ℕ) (b : Body) (xs ys : List Life) → fs ≡ xs ++ in_flight l (sent false) b ∷ ys → pumped i fs ≡ xs ++ in_flight l (sent true) b ∷ ys → pump_sends i k fs ≡ publish l (k + length xs) true b ∷ [] → AllGone xs → Pumped i k fs

passed : (i k : ℕ) (f : Life) (fs : List Life) → Gone f → pumped i (f ∷ fs) ≡ f ∷ pumped i fs → pump_sends i k (f ∷ fs) ≡ pump_sends i (suc k) fs → Pumped i (suc k) fs → Pumped i k (f ∷ fs)
passed i k f fs g p s (Nothing a b) = Nothing (p ∙ ap (λ x. f ∷ x) a) (s ∙ b)
passed i k f fs g p s (First q xs ys a b c d) =
    let e : suc k + length xs ≡ k + suc (length xs) = omega arith in
    First q (f ∷ xs) ys (ap (λ x. f ∷ x) a) (p ∙ ap (λ x. f ∷ x) b) (s ∙ (c ∙ rw e refl)) (g, d)
passed i k f fs g p s (Again l q xs ys a b c d) =
    let e : suc k + length xs ≡ k + suc (length xs) = omega arith in
    Again l q (f ∷ xs) ys (ap (λ x. f ∷ x) a) (p ∙ ap (λ x. f ∷ x) b) (s ∙ (c ∙ rw e refl)) (g, d)

pump_splits : (i k : ℕ) (fs : List Life) → Pumped i k fs
pump_splits i k [] = Nothing refl refl
pump_splits i k (waiting b ∷ fs) = First b [] fs refl refl (rw add-zero refl) tt
pump_splits i k (in_flight j (sent true) b ∷ fs) = passed i k (in_flight j (sent true) b) fs tt refl refl (pump_splits i (suc k) fs)
pump_splits i k (in_flight j (sent false) b ∷ fs) = Again j b [] fs refl refl (rw add-zero refl) tt
pump_splits i k (in_flight j (released h t) b ∷ fs) = passed i k (in_flight j (released h t) b) fs tt refl refl (pump_splits i (suc k) fs)
pump_splits i k (ended e b ∷ fs) = passed i k (ended e b) fs tt refl refl (pump_splits i (suc k) fs)

gone_at : (xs ys : List Life) (m : ℕ) → AllGone xs → m < length xs → (f : Life) × (slice_get (xs ++ ys) m ≡ Some f) × Gone f
gone_at [] ys m g l = absurd (omega arith)
gone_at (x ∷ xs) ys zero g l = (x, refl, g.0)
gone_at (x ∷ xs) ys (suc m) g l = gone_at xs ys m g.1 (omega arith)

append_none : {A : Type 0} (xs ys : List A) → xs ++ ys ≡ [] → (xs ≡ []) × (ys ≡ [])
append_none [] ys h = (refl, h)
append_none (x ∷ xs) ys h = absurd (cc)

append_one : {A : Type 0} (xs ys : List A) (y z : A) → xs ++ y ∷ ys ≡ z ∷ [] → (xs ≡ []) × (ys ≡ [])
append_one [] ys y z h = (refl, cc)
append_one (x ∷ xs) ys y z h = let e : xs ++ y ∷ ys ≡ [] = cc in let q = (append_none xs (y ∷ ys) e).1 in absurd (cc)

held-split : (j : ℕ) (xs ys : List Life) (f : Life) → held j 0 (xs ++ f ∷ ys) ≡ held j 0 xs ++ (holding j (0 + length xs) f ++ held j (suc (0 + length xs)) ys)
held-split j xs ys f = held-append j 0 xs (f ∷ ys)

-- equal copies in flight have equal numbers
pub same_number : (m n : ℕ) (q r : Mark) (a b : Body) → Copy (0 + m) q a ≡ Copy n r b → m ≡ n
same_number m n q r a b h = let e : 0 + m ≡ n = cc in sym (zero-add m) ∙ e

-- a copy that was passed is handed over, ended, or its PUBLISH is under way
settled_or_way : (k : List ℕ) (w : World) → Inv k w → w.linked ≡ true → (m : ℕ) (f : Life) → slice_get w.copies m ≡ Some f → Gone f → Done w m ⊎ Published m w.down
settled_or_way k w inv linked m (waiting b) e g = absurd g
settled_or_way k w inv linked m (in_flight j (sent false) b) e g = absurd g
settled_or_way k w inv linked m (in_flight j (released h t) b) e g = inl (rw e tt)
settled_or_way k w inv linked m (ended x b) e g = inl (rw e tt)
settled_or_way k w inv linked m (in_flight j (sent true) b) e g = go (inv.each j).0 (inv.each j).1
  where
    go : (s : Stage) → At j w.copies w.linked w.old w.up w.down k w.reads s → Done w m ⊎ Published m w.down
    go free at = absurd (none_in j m (sent true) b w.copies at.holds e)
    go (idle n dup o a) at = let q = only j n m (sent false) (sent true) a b w.copies at.holds e in absurd (cc)
    go (publishing n dup o a) at =
        let q = same_number m n (sent true) (sent true) b a (only j n m (sent true) (sent true) a b w.copies at.holds e) in
        let d : Way true (downs j w.down) (publish j n dup a ∷ []) = rw linked at at.of_down in
        inr (rw q (under_way j n dup a w.down d))
    go (receiving n a) at =
        let t : Told k (handed m w.ledger) (Some (in_flight j (sent true) b)) = subst (Told k (handed m w.ledger)) e (inv.told m) in
        let q = only j n m (sent true) (sent true) a b w.copies at.holds e in
        let ab : b ≡ a = cc in
        let tw : b.twice ≡ true = rw ab at.fits in
        let kk : is_among j k ≡ true = at.is_kept in
        let t' : handed m w.ledger ≡ 1 = rw (tw, kk) at t in
        inl (rw (e, tw) (omega arith))
    go (acking n a) at =
        let q = only j n m (sent true) (sent true) a b w.copies at.holds e in
        let ab : b ≡ a = cc in
        let tw : b.twice ≡ false = rw ab at.fits.0 in
        inl (rw (e, tw) (omega arith))
    go (releasing n o h t a) at = let q = only j n m (released h t) (sent true) a b w.copies at.holds e in absurd (cc)
    go (completing n code h t a) at = let q = only j n m (released h t) (sent true) a b w.copies at.holds e in absurd (cc)

-- packets that go out come behind the first one under way
pub sent_on_head : (b : Bool) (p : Output) (down rest ps : List Output) → down ≡ p ∷ rest → sent_on b down ps ≡ p ∷ sent_on b rest ps
sent_on_head true p down rest ps e = rw e refl
sent_on_head false p down rest ps e = e

-- further packets to the receiver leave the lines in order
pub calm_sent_on : (l : Link) (b st cl : Bool) (up : List Answer) (down : List Output) (old : List Answer) (kept : List ℕ) (ps : List Output) → Calm l b st cl up down old kept → Calm l b st cl up (sent_on b down ps) old kept
calm_sent_on l b st cl up down old kept ps (is_away h u d e) = is_away h u (rw e d) e
calm_sent_on l b st cl up down old kept ps (is_sent h u d e) = is_sent h u (rw e d) e
calm_sent_on l b st cl up down old kept ps (is_shut h u d e) = is_shut h u (rw e d) e
calm_sent_on l b st cl up down old kept ps (is_read p rest h u d o c s) = is_read p (sent_on b rest ps) h u (sent_on_head b (connack p) down rest ps d) o c s
calm_sent_on l b st cl up down old kept ps (is_live h o u c) = is_live h o u c

-- further packets leave the receiver the identifiers that it will have
pub effective_sent_on : (l : Link) (b st cl : Bool) (up : List Answer) (down : List Output) (old : List Answer) (kept : List ℕ) (ps : List Output) → Calm l b st cl up down old kept → effective l (sent_on b down ps) kept ≡ effective l down kept
effective_sent_on l b st cl up down old kept ps (is_away h u d e) = rw e refl
effective_sent_on l b st cl up down old kept ps (is_sent h u d e) = rw e refl
effective_sent_on l b st cl up down old kept ps (is_shut h u d e) = rw e refl
effective_sent_on l b st cl up down old kept ps (is_read p rest h u d o c s) = rw (sent_on_head b (connack p) down rest ps d, d, h) refl
effective_sent_on l b st cl up down old kept ps (is_live h o u c) = rw h refl

abbrev sent_out : ℕ → Bool → Body → List Life → List Life → World → World
sent_out l dup b xs ys w = record w { copies = xs ++ in_flight l (sent true) b ∷ ys; down = sent_on w.linked w.down (publish l (0 + length xs) dup b ∷ []) }

sent_keeps : (k : List ℕ) (l : ℕ) (dup : Bool) (b : Body) (f : Life) (xs ys : List Life) (w : World) → w.copies ≡ xs ++ f ∷ ys → ((j n : ℕ) → nat_eq j l ≡ false → holding j n f ≡ []) → (s : Stage) × At l (xs ++ in_flight l (sent true) b ∷ ys) w.linked w.old w.up (sent_on w.linked w.down (publish l (0 + length xs) dup b ∷ [])) k w.reads s → ((c : ℕ) → Told k c (Some f) → Told k c (Some (in_flight l (sent true) b))) → ((c : ℕ) → Settled c (Some f) → Settled c (Some (in_flight l (sent true) b))) → AllGone xs → Inv k w → Inv k (sent_out l dup b xs ys w)
sent_keeps k l dup b f xs ys w e apart here told settled gone inv =
    let packets = publish l (0 + length xs) dup b ∷ [] in
    let done : (m : ℕ) → Done w m → Done (sent_out l dup b xs ys w) m = λ m h. get_split (Settled (handed m w.ledger)) f (in_flight l (sent true) b) xs ys m (settled (handed m w.ledger)) (subst (λ cs. Settled (handed m w.ledger) (slice_get cs m)) e h) in
    record {
      each = λ j. by_id (λ j. (s : Stage) × At j (xs ++ in_flight l (sent true) b ∷ ys) w.linked w.old w.up (sent_on w.linked w.down packets) k w.reads s) l j here
          (λ h.
          let at = (inv.each j).1 in
          let same : held j 0 (xs ++ in_flight l (sent true) b ∷ ys) ≡ held j 0 w.copies = rw (e, held-split j xs ys (in_flight l (sent true) b), held-split j xs ys f, h, apart j (0 + length xs) h) refl in
          ((inv.each j).0, same_stage at same (inr refl) (inr refl) (way_same w.linked _ _ _ (downs-sent_on j w.linked w.down packets (rw h refl)) at.of_down) refl at.fits));
      told = λ m. get_split (Told k (handed m w.ledger)) f (in_flight l (sent true) b) xs ys m (told (handed m w.ledger)) (subst (λ cs. Told k (handed m w.ledger) (slice_get cs m)) e (inv.told m));
      was = λ m. get_split (Was_read (handed m w.reads)) f (in_flight l (sent true) b) xs ys m (λ z. tt) (subst (λ cs. Was_read (handed m w.reads) (slice_get cs m)) e (inv.was m));
      calm = calm_sent_on w.link w.linked w.stands w.clean w.up w.down w.old w.kept packets inv.calm;
      olds = inv.olds;
      begun = λ st. absurd (no_split xs (sym e ∙ (inv.begun st).0));
      ready = ready w.linked refl (ready_more (Done w) (Done (sent_out l dup b xs ys w)) w.down done inv.ready) done;
      before = λ m n k h. done n (inv.before m n k h);
      rising = inv.rising;
    }
  where
    no_split : (xs : List Life) → xs ++ f ∷ ys ≡ [] → ⊥
    no_split [] e = absurd (cc)
    no_split (x ∷ xs) e = absurd (cc)

    ready : (c : Bool) → w.linked ≡ c → Ready (Done (sent_out l dup b xs ys w)) w.down → ((m : ℕ) → Done w m → Done (sent_out l dup b xs ys w) m) → Ready (Done (sent_out l dup b xs ys w)) (sent_on c w.down (publish l (0 + length xs) dup b ∷ []))
    ready true q r done = ready_push (Done (sent_out l dup b xs ys w)) w.down l (0 + length xs) dup b r
        (λ m lt.
        let g = gone_at xs (f ∷ ys) m gone (omega arith) in
        let at : slice_get w.copies m ≡ Some g.0 = rw e g.1 in
        ⊎_elim (λ d. inl (done m d)) (λ p. inr p) (settled_or_way k w inv q m g.0 at g.2))
    ready false q r done = r

-- an identifier that no copy in flight has
pub record Unused (i : ℕ) (old up : List Answer) (down : List Output) (kept : List ℕ) : Type 0 where
  pub of_old : ups i old ≡ []
  pub of_up : ups i up ≡ []
  pub of_down : downs i down ≡ []
  pub is_kept : is_among i kept ≡ false

unused : {i : ℕ} {f : List Life} {l : Bool} {a b : List Answer} {d : List Output} {k : List ℕ} {r : List Handed} (s : Stage) → At i f l a b d k r s → held i 0 f ≡ [] → Unused i a b d k
unused {l = l} free at h = record { of_old = at_most_none at.of_old; of_up = at_most_none at.of_up; of_down = at_most_none (way_some l _ _ at.of_down); is_kept = at.is_kept }
unused (idle n dup o b) at h = let x = at.holds in absurd (cc)
unused (publishing n dup o b) at h = let x = at.holds in absurd (cc)
unused (receiving n b) at h = let x = at.holds in absurd (cc)
unused (acking n b) at h = let x = at.holds in absurd (cc)
unused (releasing n o h t b) at e = let x = at.holds in absurd (cc)
unused (completing n code h t b) at e = let x = at.holds in absurd (cc)

-- an identifier whose PUBLISH is to be sent again: an older one may be under way on a line that is closed
pub record Earlier_one (i n : ℕ) (l : Bool) (old up : List Answer) (down : List Output) (kept : List ℕ) (b : Body) : Type 0 where
  pub of_old : ups i old ≡ []
  pub of_up : ups i up ≡ []
  pub dup : Bool
  pub of_down : Way l (downs i down) (stale l (publish i n dup b ∷ []))
  pub opened : Bool
  pub is_kept : is_among i kept ≡ (b.twice && opened)

earlier : {i : ℕ} {f : List Life} {l : Bool} {a b : List Answer} {d : List Output} {k : List ℕ} {r : List Handed} (m : ℕ) (c : Body) (s : Stage) → At i f l a b d k r s → slice_get f m ≡ Some (in_flight i (sent false) c) → Earlier_one i m l a b d k c
earlier {i} {f} m c free at h = absurd (none_in i m (sent false) c f at.holds h)
earlier {i} {f} {l} {d = d} {k = k} m c (idle n dup o b) at h =
    let q = only i n m (sent false) (sent false) b c f at.holds h in
    let mn = same_number m n (sent false) (sent false) c b q in
    let cb : c ≡ b = cc in
    record { of_old = at_most_none at.of_old; of_up = at_most_none at.of_up; dup = dup; of_down = rw (mn, cb) at.of_down; opened = o; is_kept = rw cb at.is_kept }
earlier {i} {f} m c (publishing n dup o b) at h = let q = only i n m (sent true) (sent false) b c f at.holds h in absurd (cc)
earlier {i} {f} m c (receiving n b) at h = let q = only i n m (sent true) (sent false) b c f at.holds h in absurd (cc)
earlier {i} {f} m c (acking n b) at h = let q = only i n m (sent true) (sent false) b c f at.holds h in absurd (cc)
earlier {i} {f} m c (releasing n o x t b) at h = let q = only i n m (released x t) (sent false) b c f at.holds h in absurd (cc)
earlier {i} {f} m c (completing n code x t b) at h = let q = only i n m (released x t) (sent false) b c f at.holds h in absurd (cc)

at_split : (xs ys : List Life) (f : Life) → slice_get (xs ++ f ∷ ys) (length xs) ≡ Some f
at_split [] ys f = refl
at_split (x ∷ xs) ys f = at_split xs ys f

-- an identifier is held by one copy at most
pub held_one : {i : ℕ} {f : List Life} {l : Bool} {a b : List Answer} {d : List Output} {k : List ℕ} {r : List Handed} (s : Stage) → At i f l a b d k r s → (held i 0 f ≡ []) ⊎ ((x : Copy_of) × (held i 0 f ≡ x ∷ []))
held_one free at = inl at.holds
held_one (idle n dup o b) at = inr (Copy n (sent false) b, at.holds)
held_one (publishing n dup o b) at = inr (Copy n (sent true) b, at.holds)
held_one (receiving n b) at = inr (Copy n (sent true) b, at.holds)
held_one (acking n b) at = inr (Copy n (sent true) b, at.holds)
held_one (releasing n o h t b) at = inr (Copy n (released h t) b, at.holds)
held_one (completing n code h t b) at = inr (Copy n (released h t) b, at.holds)

-- resent: while the session is connected elsewhere, what is under way stays
abbrev resent_dup : Bool → Bool → Bool
resent_dup true dup = true
resent_dup false dup = dup

resent_way : (i n : ℕ) (l dup : Bool) (down : List Output) (b : Body) → Way l (downs i down) (stale l (publish i n dup b ∷ [])) → Way l (downs i (sent_on l down (publish i n true b ∷ []))) (publish i n (resent_dup l dup) b ∷ [])
resent_way i n true dup down b h = let y = same_id i in way_sent_on i true down (publish i n true b ∷ []) (publish i n true b ∷ []) h (rw y refl)
resent_way i n false dup down b h = h

abbrev after_pump : List Life → List Output → World → World
after_pump cs ps w = record w { copies = cs; down = sent_on w.linked w.down ps }

pump_keeps : (k : List ℕ) (i : ℕ) (w : World) → is_among i (pids w.copies) ≡ false → Pumped i 0 w.copies → Inv k w → Inv k (after_pump (pumped i w.copies) (pump_sends i 0 w.copies) w)
pump_keeps k i w none_yet (Nothing a b) inv = rw (a, b) (record {
  each = λ j. let at = (inv.each j).1 in ((inv.each j).0, same_stage at refl (inr refl) (inr refl) (way_same w.linked _ _ _ (downs-sent_on j w.linked w.down [] refl) at.of_down) refl at.fits);
  told = inv.told;
  was = inv.was;
  calm = calm_sent_on w.link w.linked w.stands w.clean w.up w.down w.old w.kept [] inv.calm;
  olds = inv.olds;
  begun = inv.begun;
  ready = ready w.linked;
  before = inv.before;
  rising = inv.rising;
})
  where
    ready : (b : Bool) → Ready (Done w) (sent_on b w.down [])
    ready true = rw append-nil inv.ready
    ready false = inv.ready
pump_keeps k i w none_yet (First b xs ys a p c gone) inv =
    let none = not_held i 0 w.copies none_yet in
    let u = unused (inv.each i).0 (inv.each i).1 none in
    let y = same_id i in
    let apart : held i 0 xs ++ held i (suc (0 + length xs)) ys ≡ [] = sym (held-split i xs ys (waiting b)) ∙ (ap (held i 0) (sym a) ∙ none) in
    let two = append_none (held i 0 xs) (held i (suc (0 + length xs)) ys) apart in
    rw (p, c) (sent_keeps k i false b (waiting b) xs ys w a (λ j n h. refl) (
      publishing (0 + length xs) false false b,
      record {
        holds = rw (held-split i xs ys (in_flight i (sent true) b), y, two.0, two.1) refl;
        of_old = inl u.of_old;
        of_up = inl u.of_up;
        of_down = way_sent_on i w.linked w.down (publish i (0 + length xs) false b ∷ []) (publish i (0 + length xs) false b ∷ []) u.of_down (rw y refl);
        is_kept = u.is_kept ∙ sym (no_more b.twice);
        fits = tt;
      },
    )
    (λ c t. rw (u.is_kept, no_more b.twice) t) (λ c t. rw t (omega arith)) gone inv)
  where
    no_more : (t : Bool) → (t && false) ≡ false
    no_more true = refl
    no_more false = refl
pump_keeps k i w none_yet (Again l b xs ys a p c gone) inv =
    let here : slice_get w.copies (length xs) ≡ Some (in_flight l (sent false) b) = rw a (at_split xs ys (in_flight l (sent false) b)) in
    let at = (inv.each l).1 in
    let z : 0 + length xs ≡ length xs = zero-add (length xs) in
    let here' : slice_get w.copies (0 + length xs) ≡ Some (in_flight l (sent false) b) = rw z here in
    let u = earlier (0 + length xs) b (inv.each l).0 at here' in
    let y = same_id l in
    let x : held l 0 w.copies ≡ held l 0 xs ++ (Copy (0 + length xs) (sent false) b ∷ held l (suc (0 + length xs)) ys) = rw (a, held-split l xs ys (in_flight l (sent false) b), y) refl in
    let two : (held l 0 xs ≡ []) × (held l (suc (0 + length xs)) ys ≡ []) = ⊎_elim
    (λ (h : held l 0 w.copies ≡ []). absurd (none_in l (length xs) (sent false) b w.copies h here))
    (λ (h : (x : Copy_of) × (held l 0 w.copies ≡ x ∷ [])). append_one (held l 0 xs) (held l (suc (0 + length xs)) ys) (Copy (0 + length xs) (sent false) b) h.0 (sym x ∙ h.1))
    (held_one (inv.each l).0 at) in
    rw (p, c) (sent_keeps k l true b (in_flight l (sent false) b) xs ys w a (λ j n h. rw h refl) (
      publishing (0 + length xs) (resent_dup w.linked u.dup) u.opened b,
      record {
        holds = rw (held-split l xs ys (in_flight l (sent true) b), y, two.0, two.1) refl;
        of_old = inl u.of_old;
        of_up = inl u.of_up;
        of_down = resent_way l (0 + length xs) w.linked u.dup w.down b u.of_down;
        is_kept = u.is_kept;
        fits = tt;
      },
    )
    (λ c t. t) (λ c t. t) gone inv)

weak_sent : (b : Body) (i c : ℕ) → Weak c (Some (waiting b)) → Weak c (Some (in_flight i (sent true) b))
weak_sent b i c h = omega arith

settled_sent : (b : Body) (i c : ℕ) → Settled c (Some (waiting b)) → Settled c (Some (in_flight i (sent true) b))
settled_sent b i c h = rw h (omega arith)

blank_linked : (w : World) → Fresh w → w.linked ≡ false
blank_linked w f = go f.lines
  where
    go : Blank w.link w.linked w.up w.down → w.linked ≡ false
    go (no_line a b c d) = d
    go (is_asked a b c d) = d
    go (was_shut a b c d) = d

unused_is_free : (i : ℕ) (used : List ℕ) → is_among (unused_of i used) used ≡ false
unused_is_free i used = ⊎_elim
    (λ (e : is_among i used ≡ true). rw e (free_is_free used))
    (λ (e : is_among i used ≡ false). rw e e)
    (test_cases (is_among i used))

pump_once : (i : ℕ) (w : World) → Good w → Good (pump_one i w)
pump_once o w (inl inv) =
    let i = unused_of o (pids w.copies) in
    let k = effective w.link w.down w.kept in
    let e = effective_sent_on w.link w.linked w.stands w.clean w.up w.down w.old w.kept (pump_sends i 0 w.copies) inv.calm in
    inl (subst (λ k. Inv k (pump_one o w)) (sym e) (pump_keeps k i w (unused_is_free o (pids w.copies)) (pump_splits i 0 w.copies) inv))
pump_once o w (inr f) =
    let i = unused_of o (pids w.copies) in
    let e = blank_linked w f in
    inr (record {
      of_old = f.of_old;
      lines = rw e (rw e at f.lines);
      weak = λ m. get_pumped (Weak (handed m w.ledger)) i w.copies m (λ b z. weak_sent b i (handed m w.ledger) z) (λ j b z. z) (f.weak m);
      was = λ m. get_pumped (Was_read (handed m w.reads)) i w.copies m (λ b z. tt) (λ j b z. tt) (f.was m);
      before = λ m n l h. get_pumped (Settled (handed n w.ledger)) i w.copies n (λ b z. settled_sent b i (handed n w.ledger) z) (λ j b z. z) (f.before m n l h);
      rising = f.rising;
      pending = f.pending;
      stands = f.stands;
    })

-- a pump of one PUBLISH keeps the invariant
pub pumps : (i : ℕ) (w : World) → Good w → Good (pump_one i w)
pumps i w good = pump_once i w good
