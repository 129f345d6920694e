-- The receiver reads, and what step the lines.
use Rattle.std.proofs.Common.{◌≡◌, ◌⊎◌, ◌≢◌, inl, inr, ⊎_elim, ℕ, ◌+◌, ◌<◌, ◌≤◌, Bool, true, false, cond, ◌&&◌, List, [], ◌∷◌, ◌++◌, nat_eq, nat_lt, if◌then◌else◌, refl, sym, ◌∙◌, subst, arith, Option, Some, None, slice_get, append-nil, add-zero, zero-add, eqb-true, eq-eqb, true≢false, ltb-true, ltb-false}
use Rattle.std.specs.List.{list_any}
use Rattle.std.proofs.lemmas.List.Elements.{filter-append, All-nil, All-push}
use Rattle.std.proofs.lemmas.List.Folds.{list_any-append}
use Rattle.std.proofs.lemmas.Option.{slice_get-map}
use Rattle.std.proofs.lemmas.Bool.Decides.{nat_tests}
use Rattle.mqtt_flow.specs.inbound.Identifiers.{is_among, ids_without}
use Rattle.mqtt_base.specs.declared.Ending.{Ending}
use Rattle.mqtt_base.specs.declared.Ending.TheVariants.{Taken, Refused, Expired, TooLarge, SessionEnded, Dropped}
use Rattle.mqtt_flow.specs.inbound.Line.{Link, away, asked, live, sent_on}
use Rattle.mqtt_flow.specs.outbound.Receiver.{Body, Output, connack, no_connack, publish, pubrel, disconnect, Answer, connect, puback, pubrec, pubcomp, Handed, handed, Rising, kept_after, ledger_after, read_publish, read_connack, leaves, down_comes, gives_up, joins, release_code}
use Rattle.mqtt_flow.proofs.outbound_lemmas.outbound.Lives.{Mark, sent, released, Life, waiting, in_flight, ended, anew}
use Rattle.mqtt_flow.proofs.outbound_lemmas.outbound.LivesWorld.{World, Event, enter, finish, pump, to_broker, old_to_broker, to_end, give_up, break_line, make_line, close, close_old, restart, old_comes, step, start, run, connects_old}
use Rattle.mqtt_flow.proofs.inbound_lemmas.Identifiers.{test_cases, same_id, is_among-push, is_among-ids_without_same, is_among-ids_without_other}
use Rattle.mqtt_flow.proofs.outbound_lemmas.outbound.Stages.{up_about, ups, downs, is_connect, Copy, held, Stage, free, idle, publishing, receiving, acking, releasing, completing, held_of, up_of, down_of, open_of, Fits, AtMost, At, Told, Weak, Was_read, Read_end, Settled, Ready, Late, Olds, Calm, is_away, is_sent, is_shut, is_read, is_live, effective, Done, Inv, Norm, Blank, no_line, is_asked, was_shut, Fresh, Good, at_most_none, at_most_more, at_head, ready_more, only, holder}
use Rattle.mqtt_flow.proofs.outbound_lemmas.outbound.Sends.{by_id, way_some, way_none, way_same, downs-sent_on, same_stage, same_number, effective_sent_on, enters, lapses, pumps}
use Rattle.mqtt_flow.proofs.outbound_lemmas.outbound.Steps.{again, ends_again, way_lost, told_anew, weak_anew, was_anew, settled_anew, told_weak}
use Rattle.mqtt_flow.proofs.outbound_lemmas.outbound.BrokerReads.{calm_close, map_done, map_none, ready_sent_on, norm_up, norm_old, fresh_up, no_old}

both_true : (c : ℕ) (t k : Bool) → c ≡ cond (t && k) 1 0 → t ≡ true → k ≡ true → c ≡ 1
both_true c t k h e f = rw (e, f) at h

one_false : (t k : Bool) → t ≡ false → (t && k) ≡ false
one_false t k e = rw e refl

-- counts
handed-push : (m : ℕ) (x : Handed) (xs : List Handed) → handed m (xs ++ x ∷ []) ≡ handed m xs + cond (nat_eq m x.copy) 1 0
handed-push m x [] = omega arith
handed-push m x (y ∷ xs) = let r = handed-push m x xs in omega arith

handed-after : (m i n : ℕ) (b : Body) (kept : List ℕ) (ledger : List Handed) → handed m (ledger_after i n b kept ledger) ≡ handed m ledger + cond (is_among i kept) 0 (cond (nat_eq m n) 1 0)
handed-after m i n b kept ledger = ⊎_elim
    (λ (e : is_among i kept ≡ true). rw (e, add-zero) refl)
    (λ (e : is_among i kept ≡ false). rw (e, handed-push m (record { copy = n; body = b }) ledger) refl)
    (test_cases (is_among i kept))

has-kept_same : (i : ℕ) (ids : List ℕ) → is_among i (kept_after i ids) ≡ true
has-kept_same i ids = let s = same_id i in grind (arith, nat_tests, is_among-push)

has-kept_other : (i j : ℕ) (ids : List ℕ) → nat_eq i j ≡ false → is_among i (kept_after j ids) ≡ is_among i ids
has-kept_other i j ids e = grind (arith, nat_tests, is_among-push)

-- the receiver reads a PUBLISH
pub record Publish_came (i n : ℕ) (b : Body) (f : List Life) (l : Bool) (old up : List Answer) (rest : List Output) (kept : List ℕ) : Type 0 where
  pub here : Bool
  pub opened : Bool
  pub holds : held i 0 f ≡ Copy n (sent here) b ∷ []
  pub is_here : (here ≡ true) ⊎ (l ≡ false)
  pub of_old : ups i old ≡ []
  pub of_up : ups i up ≡ []
  pub of_rest : downs i rest ≡ []
  pub is_kept : is_among i kept ≡ (b.twice && opened)

-- a PUBLISH that the receiver reads tells the stage of its identifier
pub publish_came : {i n : ℕ} {dup : Bool} {b : Body} {f : List Life} {l : Bool} {old up : List Answer} {rest : List Output} {k : List ℕ} {r : List Handed} (s : Stage) → At i f l old up (publish i n dup b ∷ rest) k r s → Publish_came i n b f l old up rest k
publish_came {i} {n} {dup} {b} {f} {l} {old} {up} {rest} {k} {r} s at = let y = same_id i in go l s at.holds at.of_old at.of_up (at_head (rw y at (way_some l _ _ at.of_down))) at.is_kept
  where
    go : (l : Bool) (s : Stage) → held i 0 f ≡ held_of s → AtMost (ups i old) (up_of i s) → AtMost (ups i up) (up_of i s) → publish i n dup b ∷ downs i rest ≡ down_of i l s → is_among i k ≡ open_of s → Publish_came i n b f l old up rest k
    go l free h u v e o = absurd (cc)
    go true (idle m d p c) h u v e o = absurd (cc)
    go false (idle m d p c) h u v e o = let x : publish i n dup b ≡ publish i m d c = cc in let bc : c ≡ b = cc in record { here = false; opened = p; holds = cc; is_here = inr refl; of_old = at_most_none u; of_up = at_most_none v; of_rest = cc; is_kept = rw bc at o }
    go l (publishing m d p c) h u v e o = let x : publish i n dup b ≡ publish i m d c = cc in let bc : c ≡ b = cc in record { here = true; opened = p; holds = cc; is_here = inl refl; of_old = at_most_none u; of_up = at_most_none v; of_rest = cc; is_kept = rw bc at o }
    go l (receiving m c) h u v e o = absurd (cc)
    go l (acking m c) h u v e o = absurd (cc)
    go l (releasing m p x t c) h u v e o = absurd (cc)
    go l (completing m z x t c) h u v e o = absurd (cc)

-- and a PUBREL
record Pubrel_came (i : ℕ) (f : List Life) (old up : List Answer) (rest : List Output) : Type 0 where
  number : ℕ
  here : Bool
  taken : Bool
  body : Body
  holds : held i 0 f ≡ Copy number (released here taken) body ∷ []
  of_old : ups i old ≡ []
  of_up : ups i up ≡ []
  of_rest : downs i rest ≡ []

pubrel_came : {i code : ℕ} {f : List Life} {l : Bool} {old up : List Answer} {rest : List Output} {k : List ℕ} {r : List Handed} (s : Stage) → At i f l old up (pubrel i code ∷ rest) k r s → Pubrel_came i f old up rest
pubrel_came {i} {code} {f} {l} {old} {up} {rest} {k} {r} s at = let y = same_id i in go l s at.holds at.of_old at.of_up (at_head (rw y at (way_some l _ _ at.of_down)))
  where
    go : (l : Bool) (s : Stage) → held i 0 f ≡ held_of s → AtMost (ups i old) (up_of i s) → AtMost (ups i up) (up_of i s) → pubrel i code ∷ downs i rest ≡ down_of i l s → Pubrel_came i f old up rest
    go l free h u v e = absurd (cc)
    go true (idle m d p c) h u v e = absurd (cc)
    go false (idle m d p c) h u v e = absurd (cc)
    go l (publishing m d p c) h u v e = absurd (cc)
    go l (receiving m c) h u v e = absurd (cc)
    go l (acking m c) h u v e = absurd (cc)
    go l (releasing m p x t c) h u v e = record { number = m; here = x; taken = t; body = c; holds = h; of_old = at_most_none u; of_up = at_most_none v; of_rest = cc }
    go l (completing m z x t c) h u v e = absurd (cc)

ups-sent_other : (i : ℕ) (l : Bool) (up : List Answer) (p : Answer) → up_about i p ≡ false → ups i (sent_on l up (p ∷ [])) ≡ ups i up
ups-sent_other i true up p e = rw (filter-append (up_about i) up (p ∷ []), e, append-nil) refl
ups-sent_other i false up p e = refl

ups-sent_same : (i : ℕ) (l : Bool) (up : List Answer) (p : Answer) → up_about i p ≡ true → ups i up ≡ [] → AtMost (ups i (sent_on l up (p ∷ []))) (p ∷ [])
ups-sent_same i true up p e h = inr (rw (filter-append (up_about i) up (p ∷ []), e, h) refl)
ups-sent_same i false up p e h = inl h

calm_output : {l : Link} {b st cl : Bool} {up : List Answer} {p : Output} {rest : List Output} {old : List Answer} {kept : List ℕ} → p ≢ no_connack → ((c : Bool) → p ≢ connack c) → Calm l b st cl up (p ∷ rest) old kept → (l ≡ live) × Late old × ((b ≡ true) ⊎ (up ≡ [])) × (list_any is_connect up ≡ false)
calm_output n m (is_away h u d x) = absurd (cc)
calm_output n m (is_sent h u d x) = absurd (cc)
calm_output n m (is_shut h u (inl d) x) = absurd (cc)
calm_output n m (is_shut h u (inr d) x) = absurd (n cc)
calm_output n m (is_read p rest h u d o c s) = absurd (m p cc)
calm_output n m (is_live h o u c) = (h, o, u, c)

live_sent : {l : Link} {b st cl : Bool} (up : List Answer) (down : List Output) {old : List Answer} {kept : List ℕ} (p : Answer) → is_connect p ≡ false → l ≡ live → Late old → (b ≡ true) ⊎ (up ≡ []) → list_any is_connect up ≡ false → Calm l b st cl (sent_on b up (p ∷ [])) down old kept
live_sent {b = true} up down p e h o u c = is_live h o (inl refl) (rw (list_any-append is_connect up (p ∷ []), c, e) refl)
live_sent {b = false} up down p e h o u c = is_live h o u c

-- another copy has another identifier
apart : (i k n m : ℕ) (r q : Mark) (a b : Body) (f : List Life) → held i 0 f ≡ Copy n r a ∷ [] → slice_get f m ≡ Some (in_flight k q b) → nat_eq m n ≡ false → nat_eq k i ≡ false
apart i k n m r q a b f holds g e = ⊎_elim
    (λ (same : nat_eq k i ≡ true).
    let g' : slice_get f m ≡ Some (in_flight i q b) = rw (← eqb-true k i same) g in
    let x = same_number m n q r b a (only i n m r q a b f holds g') in
    absurd (true≢false (sym (eq-eqb m n x) ∙ e)))
    (λ (h : nat_eq k i ≡ false). h)
    (test_cases (nat_eq k i))

none_sent : (i k n m : ℕ) (h t x : Bool) (a b : Body) (f : List Life) → held i 0 f ≡ Copy n (released h t) a ∷ [] → slice_get f m ≡ Some (in_flight k (sent x) b) → nat_eq k i ≡ false
none_sent i k n m h t x a b f holds g = ⊎_elim
    (λ (same : nat_eq k i ≡ true).
    let g' : slice_get f m ≡ Some (in_flight i (sent x) b) = rw (← eqb-true k i same) g in
    let o = only i n m (released h t) (sent x) a b f holds g' in
    let q : sent x ≡ released h t = cc in absurd (cc))
    (λ (h : nat_eq k i ≡ false). h)
    (test_cases (nat_eq k i))

-- the one copy that holds an identifier stands at its number
pub the_copy : (i n : ℕ) (q : Mark) (b : Body) (f : List Life) → held i 0 f ≡ Copy n q b ∷ [] → slice_get f n ≡ Some (in_flight i q b)
the_copy i n q b f holds = let h = holder i 0 n q b f holds in rw (h.1, zero-add) h.2

told_kept : (f : Option Life) (c : ℕ) (o o' : List ℕ) → ((k : ℕ) (x : Bool) (b : Body) → f ≡ Some (in_flight k (sent x) b) → is_among k o' ≡ is_among k o) → Told o c f → Told o' c f
told_kept None c o o' g h = h
told_kept (Some (waiting b)) c o o' g h = h
told_kept (Some (in_flight k (sent x) b)) c o o' g h = rw (g k x b refl) h
told_kept (Some (in_flight k (released x t) b)) c o o' g h = h
told_kept (Some (ended e b)) c o o' g h = h

none_more : (is_among : Bool) (c : ℕ) → c + cond is_among 0 0 ≡ c
none_more true c = omega arith
none_more false c = omega arith

told_publish : (i n : ℕ) (here : Bool) (b : Body) (f : List Life) (kept : List ℕ) (ledger : List Handed) → b.twice ≡ true → ((m : ℕ) → Told kept (handed m ledger) (slice_get f m)) → held i 0 f ≡ Copy n (sent here) b ∷ [] → (m : ℕ) → Told (kept_after i kept) (handed m (ledger_after i n b kept ledger)) (slice_get f m)
told_publish i n here b f kept ledger tw told holds m =
    by_id (λ m. Told (kept_after i kept) (handed m (ledger_after i n b kept ledger)) (slice_get f m)) n m
    (let g = the_copy i n (sent here) b f holds in
    let t : handed n ledger ≡ cond (b.twice && is_among i kept) 1 0 = subst (Told kept (handed n ledger)) g (told n) in
    let t1 : handed n ledger ≡ cond (is_among i kept) 1 0 = rw tw at t in
    let y = has-kept_same i kept in
    let z = same_id n in
    let now : handed n (ledger_after i n b kept ledger) ≡ 1 = handed-after n i n b kept ledger ∙ rw z (⊎_elim
    (λ (e : is_among i kept ≡ true). let t2 : handed n ledger ≡ 1 = rw e at t1 in rw e (omega arith))
    (λ (e : is_among i kept ≡ false). let t2 : handed n ledger ≡ 0 = rw e at t1 in rw e (omega arith))
    (test_cases (is_among i kept))) in
    let w : 1 ≡ cond (b.twice && is_among i (kept_after i kept)) 1 0 = rw (tw, y) refl in
    subst (Told (kept_after i kept) (handed n (ledger_after i n b kept ledger))) (sym g) (now ∙ w))
    (λ e.
    let p : handed m (ledger_after i n b kept ledger) ≡ handed m ledger = handed-after m i n b kept ledger ∙ rw e (none_more (is_among i kept) (handed m ledger)) in
    subst (λ c. Told (kept_after i kept) c (slice_get f m)) (sym p) (told_kept (slice_get f m) (handed m ledger) kept (kept_after i kept) (λ k x c g. has-kept_other k i kept (apart i k n m (sent here) (sent x) b c f holds g e)) (told m)))

settled_more : (c d : ℕ) (f : Option Life) → c ≤ d → Settled c f → Settled d f
settled_more c d None l h = h
settled_more c d (Some (waiting b)) l h = h
settled_more c d (Some (in_flight i (sent x) b)) l h = omega arith
settled_more c d (Some (in_flight i (released x t) b)) l h = h
settled_more c d (Some (ended e b)) l h = h

order : (m n : ℕ) → (m < n) ⊎ ((m ≡ n) ⊎ (n < m))
order m n = ⊎_elim
    (λ (e : nat_lt m n ≡ true). inl (ltb-true m n e))
    (λ (e : nat_lt m n ≡ false). ⊎_elim
    (λ (d : nat_lt n m ≡ true). inr (inr (ltb-true n m d)))
    (λ (d : nat_lt n m ≡ false). let a = ltb-false m n e in let b = ltb-false n m d in inr (inl (omega arith)))
    (test_cases (nat_lt n m)))
    (test_cases (nat_lt m n))

rising_push : (xs : List Handed) (x : Handed) → Rising xs → ((m : ℕ) → 1 ≤ handed m xs → m < x.copy) → Rising (xs ++ x ∷ [])
rising_push [] x h below = (All-nil (λ y. x.copy < y.copy), tt)
rising_push (y ∷ xs) x h below = (
  All-push (λ z. y.copy < z.copy) xs x h.0 (below y.copy (let s = same_id y.copy in rw s (omega arith))),
  rising_push xs x h.1 (λ m l. below m (omega arith)),
)

rises : (k : List ℕ) (w : World) (i n : ℕ) (here : Bool) (b : Body) → b.twice ≡ true → Inv k w → slice_get w.copies n ≡ Some (in_flight i (sent here) b) → Rising (ledger_after i n b k w.ledger)
rises k w i n here b tw inv g = ⊎_elim
    (λ (e : is_among i k ≡ true). rw e inv.rising)
    (λ (e : is_among i k ≡ false).
    let t : handed n w.ledger ≡ cond (b.twice && is_among i k) 1 0 = subst (Told k (handed n w.ledger)) g (inv.told n) in
    let t' : handed n w.ledger ≡ 0 = rw (tw, e) at t in
    rw e (rising_push w.ledger (record { copy = n; body = b }) inv.rising (λ m l. ⊎_elim
    (λ (a : m < n). a)
    (⊎_elim
    (λ (a : m ≡ n). let l' : 1 ≤ handed n w.ledger = rw a at l in absurd (omega arith))
    (λ (a : n < m).
    let d : cond b.twice 1 0 ≤ handed n w.ledger = subst (Settled (handed n w.ledger)) g (inv.before m n l a) in
    let d' : 1 ≤ handed n w.ledger = rw tw at d in absurd (omega arith)))
    (order m n))))
    (test_cases (is_among i k))

-- stages of an identifier whose PUBLISH was read
read_stage : (i n : ℕ) (b : Body) (here l : Bool) (f : List Life) (old up : List Answer) (rest : List Output) (kept : List ℕ) (r : List Handed) → b.twice ≡ true → (here ≡ true) ⊎ (l ≡ false) → held i 0 f ≡ Copy n (sent here) b ∷ [] → ups i old ≡ [] → ups i up ≡ [] → downs i rest ≡ [] → is_among i kept ≡ true → (s : Stage) × At i f l old (sent_on l up (pubrec i 0 ∷ [])) rest kept r s
read_stage i n b true l f old up rest kept r tw c h o u d k = let y = same_id i in
    (receiving n b, record { holds = h; of_old = inl o; of_up = ups-sent_same i l up (pubrec i 0) y u; of_down = way_none l _ d; is_kept = k; fits = tw })
read_stage i n b false l f old up rest kept r tw (inl c) h o u d k = absurd (cc)
read_stage i n b false true f old up rest kept r tw (inr c) h o u d k = absurd (cc)
read_stage i n b false false f old up rest kept r tw (inr c) h o u d k =
    let e : (b.twice && true) ≡ true = rw tw refl in
    (idle n false true b, record { holds = h; of_old = inl o; of_up = inl u; of_down = inl d; is_kept = k ∙ sym e; fits = tt })

ack_stage : (i n : ℕ) (b : Body) (here l : Bool) (f : List Life) (old up : List Answer) (rest : List Output) (kept : List ℕ) (r : List Handed) → b.twice ≡ false → (here ≡ true) ⊎ (l ≡ false) → held i 0 f ≡ Copy n (sent here) b ∷ [] → ups i old ≡ [] → ups i up ≡ [] → downs i rest ≡ [] → is_among i kept ≡ false → 1 ≤ handed n r → (s : Stage) × At i f l old (sent_on l up (puback i 0 ∷ [])) rest kept r s
ack_stage i n b true l f old up rest kept r tw c h o u d k m = let y = same_id i in
    (acking n b, record { holds = h; of_old = inl o; of_up = ups-sent_same i l up (puback i 0) y u; of_down = way_none l _ d; is_kept = k; fits = (tw, m) })
ack_stage i n b false l f old up rest kept r tw (inl c) h o u d k m = absurd (cc)
ack_stage i n b false true f old up rest kept r tw (inr c) h o u d k m = absurd (cc)
ack_stage i n b false false f old up rest kept r tw (inr c) h o u d k m =
    let e : (b.twice && false) ≡ false = rw tw refl in
    (idle n false false b, record { holds = h; of_old = inl o; of_up = inl u; of_down = inl d; is_kept = k ∙ sym e; fits = tt })

abbrev Each : World → List Output → Type 0
Each w d = (j : ℕ) → (s : Stage) × At j w.copies w.linked w.old w.up d w.kept w.reads s

down_each : (w : World) (d : List Output) → w.down ≡ d → Inv w.kept w → Each w d
down_each w d u inv = subst (Each w) u inv.each

fits_more : (r r' : List Handed) (s : Stage) → ((m : ℕ) → handed m r ≤ handed m r') → Fits r s → Fits r' s
fits_more r r' free g f = tt
fits_more r r' (idle n d o b) g f = tt
fits_more r r' (publishing n d o b) g f = tt
fits_more r r' (receiving n b) g f = f
fits_more r r' (acking n b) g f = let x = f.1 in let y = g n in (f.0, omega arith)
fits_more r r' (releasing n o h t b) g f = tt
fits_more r r' (completing n c h t b) g f = tt

read_more : (e : Ending) (t : Bool) (r r' : ℕ) → r ≤ r' → Read_end e t r → Read_end e t r'
read_more Taken t r r' l h = λ x. let y = h x in omega arith
read_more Refused t r r' l h = tt
read_more Expired t r r' l h = tt
read_more TooLarge t r r' l h = tt
read_more SessionEnded t r r' l h = tt
read_more Dropped t r r' l h = tt

was_more : (f : Option Life) (r r' : ℕ) → r ≤ r' → Was_read r f → Was_read r' f
was_more None r r' l h = tt
was_more (Some (waiting b)) r r' l h = tt
was_more (Some (in_flight i m b)) r r' l h = tt
was_more (Some (ended e b)) r r' l h = read_more e b.twice r r' l h

reads_twice : (i n : ℕ) (dup : Bool) (b : Body) (rest : List Output) (w : World) → b.twice ≡ true → w.down ≡ publish i n dup b ∷ rest → Inv w.kept w → Inv (kept_after i w.kept) (read_publish true i n b rest w)
reads_twice i n dup b rest w tw u inv =
    let each = down_each w (publish i n dup b ∷ rest) u inv in
    let c = publish_came (each i).0 (each i).1 in
    let q = calm_output (λ h. cc) (λ p h. cc) (subst (λ d. Calm w.link w.linked w.stands w.clean w.up d w.old w.kept) u inv.calm) in
    let w' = read_publish true i n b rest w in
    let up' = sent_on w.linked w.up (pubrec i 0 ∷ []) in
    let copy = the_copy i n (sent c.here) b w.copies c.holds in
    let r : Ready (Done w) (publish i n dup b ∷ rest) = subst (Ready (Done w)) u inv.ready in
    let more : (m : ℕ) → handed m w.ledger ≤ handed m w'.ledger = λ m. let e = handed-after m i n b w.kept w.ledger in omega arith in
    let done : (m : ℕ) → Done w m → Done w' m = λ m. settled_more (handed m w.ledger) (handed m w'.ledger) (slice_get w.copies m) (more m) in
    let told = told_publish i n c.here b w.copies w.kept w.ledger tw inv.told c.holds in
    let t : handed n w'.ledger ≡ cond (b.twice && is_among i (kept_after i w.kept)) 1 0 = subst (Told (kept_after i w.kept) (handed n w'.ledger)) copy (told n) in
    let y = has-kept_same i w.kept in
    let t' : handed n w'.ledger ≡ 1 = both_true (handed n w'.ledger) b.twice (is_among i (kept_after i w.kept)) t tw y in
    let n_done : Done w' n = subst (Settled (handed n w'.ledger)) (sym copy) (let z : cond b.twice 1 0 ≤ 1 = rw tw (omega arith) in omega arith) in
    record {
      each = λ j. by_id (λ j. (s : Stage) × At j w.copies w.linked w.old up' rest (kept_after i w.kept) w.reads s) i j
          (read_stage i n b c.here w.linked w.copies w.old w.up rest (kept_after i w.kept) w.reads tw c.is_here c.holds c.of_old c.of_up c.of_rest y)
          (λ e. let at = (each j).1 in ((each j).0, same_stage at refl (inr refl) (inr (ups-sent_other j w.linked w.up (pubrec i 0) e)) (way_same w.linked _ _ _ (rw e refl) at.of_down) (has-kept_other j i w.kept e) at.fits));
      told = told;
      was = inv.was;
      calm = live_sent w.up rest (pubrec i 0) refl q.0 q.1 q.2 q.3;
      olds = inv.olds;
      begun = λ st. let z : slice_get [] n ≡ Some (in_flight i (sent c.here) b) = subst (λ f. slice_get f n ≡ Some (in_flight i (sent c.here) b)) (inv.begun st).0 copy in absurd (cc);
      ready = ready_more (λ m. Done w m ⊎ (m ≡ n)) (Done w') rest (λ m. ⊎_elim (done m) (λ e. subst (Done w') (sym e) n_done)) r.1;
      before = λ m p l h. by_id (λ m. 1 ≤ handed m w'.ledger → p < m → Done w' p) n m
          (λ _ h. done p (r.0 p h))
          (λ e l h.
          let x : handed m w'.ledger ≡ handed m w.ledger = handed-after m i n b w.kept w.ledger ∙ rw e (none_more (is_among i w.kept) (handed m w.ledger)) in
          done p (inv.before m p (omega arith) h))
          l h;
      rising = rises w.kept w i n c.here b tw inv copy;
    }

reads_once : (i n : ℕ) (dup : Bool) (b : Body) (rest : List Output) (w : World) → b.twice ≡ false → w.down ≡ publish i n dup b ∷ rest → Inv w.kept w → Inv w.kept (read_publish false i n b rest w)
reads_once i n dup b rest w tw u inv =
    let each = down_each w (publish i n dup b ∷ rest) u inv in
    let c = publish_came (each i).0 (each i).1 in
    let q = calm_output (λ h. cc) (λ p h. cc) (subst (λ d. Calm w.link w.linked w.stands w.clean w.up d w.old w.kept) u inv.calm) in
    let w' = read_publish false i n b rest w in
    let up' = sent_on w.linked w.up (puback i 0 ∷ []) in
    let copy = the_copy i n (sent c.here) b w.copies c.holds in
    let r : Ready (Done w) (publish i n dup b ∷ rest) = subst (Ready (Done w)) u inv.ready in
    let more : (m : ℕ) → handed m w.reads ≤ handed m w'.reads = λ m. let e = handed-push m (record { copy = n; body = b }) w.reads in omega arith in
    let now : 1 ≤ handed n w'.reads = let e = handed-push n (record { copy = n; body = b }) w.reads in let s = same_id n in let e' : handed n w'.reads ≡ handed n w.reads + 1 = e ∙ rw s refl in omega arith in
    let n_done : Done w n = subst (Settled (handed n w.ledger)) (sym copy) (let z : cond b.twice 1 0 ≤ 0 = rw tw (omega arith) in omega arith) in
    let k : is_among i w.kept ≡ false = c.is_kept ∙ one_false b.twice c.opened tw in
    record {
      each = λ j. by_id (λ j. (s : Stage) × At j w.copies w.linked w.old up' rest w.kept w'.reads s) i j
          (ack_stage i n b c.here w.linked w.copies w.old w.up rest w.kept w'.reads tw c.is_here c.holds c.of_old c.of_up c.of_rest k now)
          (λ e. let at = (each j).1 in ((each j).0, same_stage at refl (inr refl) (inr (ups-sent_other j w.linked w.up (puback i 0) e)) (way_same w.linked _ _ _ (rw e refl) at.of_down) refl (fits_more w.reads w'.reads (each j).0 more at.fits)));
      told = inv.told;
      was = λ m. was_more (slice_get w.copies m) (handed m w.reads) (handed m w'.reads) (more m) (inv.was m);
      calm = live_sent w.up rest (puback i 0) refl q.0 q.1 q.2 q.3;
      olds = inv.olds;
      begun = inv.begun;
      ready = ready_more (λ m. Done w m ⊎ (m ≡ n)) (Done w) rest (λ m. ⊎_elim (λ d. d) (λ e. subst (Done w) (sym e) n_done)) r.1;
      before = inv.before;
      rising = inv.rising;
    }

reads_pubrel : (i code answer : ℕ) (rest : List Output) (w : World) → w.down ≡ pubrel i code ∷ rest → Inv w.kept w → Inv (ids_without i w.kept) (record w { down = rest; kept = ids_without i w.kept; up = sent_on w.linked w.up (pubcomp i answer ∷ []) })
reads_pubrel i code answer rest w u inv =
    let each = down_each w (pubrel i code ∷ rest) u inv in
    let c = pubrel_came (each i).0 (each i).1 in
    let q = calm_output (λ h. cc) (λ p h. cc) (subst (λ d. Calm w.link w.linked w.stands w.clean w.up d w.old w.kept) u inv.calm) in
    let up' = sent_on w.linked w.up (pubcomp i answer ∷ []) in
    let y = same_id i in
    let r : Ready (Done w) (pubrel i code ∷ rest) = subst (Ready (Done w)) u inv.ready in
    record {
      each = λ j. by_id (λ j. (s : Stage) × At j w.copies w.linked w.old up' rest (ids_without i w.kept) w.reads s) i j
          (completing c.number answer c.here c.taken c.body, record { holds = c.holds; of_old = inl c.of_old; of_up = ups-sent_same i w.linked w.up (pubcomp i answer) y c.of_up; of_down = way_none w.linked _ c.of_rest; is_kept = is_among-ids_without_same i w.kept; fits = tt })
          (λ e. let at = (each j).1 in ((each j).0, same_stage at refl (inr refl) (inr (ups-sent_other j w.linked w.up (pubcomp i answer) e)) (way_same w.linked _ _ _ (rw e refl) at.of_down) (is_among-ids_without_other j i w.kept e) at.fits));
      told = λ m. told_kept (slice_get w.copies m) (handed m w.ledger) w.kept (ids_without i w.kept) (λ k x b g. is_among-ids_without_other k i w.kept (none_sent i k c.number m c.here c.taken x c.body b w.copies c.holds g)) (inv.told m);
      was = inv.was;
      calm = live_sent w.up rest (pubcomp i answer) refl q.0 q.1 q.2 q.3;
      olds = inv.olds;
      begun = λ st. (the_none (inv.begun st).0, rw ((inv.begun st).1) refl);
      ready = r;
      before = inv.before;
      rising = inv.rising;
    }
  where
    the_none : w.copies ≡ [] → w.copies ≡ []
    the_none e = e

live_kept : (l : Link) (d : List Output) (k : List ℕ) → l ≡ live → effective l d k ≡ k
live_kept l d k e = rw e refl

-- the line is lost, or left
abbrev off : Bool → List Answer → World → World
off cl old w = record w { link = away; linked = false; up = []; down = []; old = old; clean = cl }

loses : (cl : Bool) (old : List Answer) (w : World) → ((j : ℕ) → (s : Stage) × At j w.copies false old [] [] w.kept w.reads s) → Olds old → Inv w.kept w → Norm (off cl old w)
loses cl old w each olds inv = record { each = each; told = inv.told; was = inv.was; calm = is_away refl refl refl refl; olds = olds; begun = inv.begun; ready = tt; before = inv.before; rising = inv.rising }

if_kept : (p : Bool) (k : List ℕ) → (p ≡ true) ⊎ (k ≡ []) → (if p then k else []) ≡ k
if_kept true k h = refl
if_kept false k (inl h) = absurd (cc)
if_kept false k (inr h) = sym h

-- the set is what it was, or a new session's CONNACK is under way
known_set : {l : Link} {b st cl : Bool} {up : List Answer} {down : List Output} {old : List Answer} {kept : List ℕ} → Calm l b st cl up down old kept → (effective l down kept ≡ kept) ⊎ (Late old × (cl ≡ true) × (st ≡ true))
known_set (is_away h u d x) = inl (rw h refl)
known_set (is_sent h u d x) = inl (rw (h, d) refl)
known_set (is_shut h u (inl d) x) = inl (rw (h, d) refl)
known_set (is_shut h u (inr d) x) = inl (rw (h, d) refl)
known_set {kept = k} (is_read p rest h u d o (inl c) s) = inl (rw (h, d) (if_kept p k (inl c)))
known_set (is_read p rest h u d o (inr (inl c)) s) = inr (o, c, s)
known_set {kept = k} (is_read p rest h u d o (inr (inr c)) s) = inl (rw (h, d) (if_kept p k (inr c)))
known_set (is_live h o u c) = inl (rw h refl)

lost_each : (w : World) → Inv w.kept w → (j : ℕ) → (s : Stage) × At j w.copies false w.old [] [] w.kept w.reads s
lost_each w inv j = let at = (inv.each j).1 in ((inv.each j).0, same_stage at refl (inr refl) (inl refl) (inl refl) refl at.fits)

blank_off : (w : World) → Fresh w → Fresh (leaves w)
blank_off w f = record { of_old = f.of_old; lines = no_line refl refl refl refl; weak = f.weak; was = f.was; before = f.before; rising = f.rising; pending = f.pending; stands = f.stands }

breaks : (w : World) → Good w → Good (leaves w)
breaks w (inl inv) = ⊎_elim
    (λ (e : effective w.link w.down w.kept ≡ w.kept). let i = subst (λ k. Inv k w) e inv in inl (loses w.clean w.old w (lost_each w i) i.olds i))
    (λ (h : Late w.old × (w.clean ≡ true) × (w.stands ≡ true)). inr (record {
      of_old = h.0;
      lines = no_line refl refl refl refl;
      weak = λ n. told_weak (effective w.link w.down w.kept) (handed n w.ledger) (slice_get w.copies n) (inv.told n);
      was = inv.was;
      before = inv.before;
      rising = inv.rising;
      pending = h.1;
      stands = h.2;
    }))
    (known_set inv.calm)
breaks w (inr f) = inr (blank_off w f)

restarts : (w : World) → Good w → Good (step w restart)
restarts w (inl inv) =
    let done = map_done anew w (step w restart) refl refl settled_anew in
    ⊎_elim
    (λ (e : effective w.link w.down w.kept ≡ w.kept). let i = subst (λ k. Inv k w) e inv in inl (record {
      each = λ j. (again (i.each j).0, ends_again (i.each j).0 (i.each j).1 refl refl (inl refl));
      told = λ m. rw slice_get-map (told_anew w.kept (handed m w.ledger) (slice_get w.copies m) (i.told m));
      was = λ m. rw slice_get-map (was_anew (handed m w.reads) (slice_get w.copies m) (i.was m));
      calm = is_away refl refl refl refl;
      olds = inr refl;
      begun = λ x. (map_none anew w.copies (i.begun x).0, (i.begun x).1);
      ready = tt;
      before = λ m n l h. done n (i.before m n l h);
      rising = i.rising;
    }))
    (λ (h : Late w.old × (w.clean ≡ true) × (w.stands ≡ true)). inr (record {
      of_old = inl refl;
      lines = no_line refl refl refl refl;
      weak = λ m. rw slice_get-map (weak_anew (handed m w.ledger) (slice_get w.copies m) (told_weak (effective w.link w.down w.kept) (handed m w.ledger) (slice_get w.copies m) (inv.told m)));
      was = λ m. rw slice_get-map (was_anew (handed m w.reads) (slice_get w.copies m) (inv.was m));
      before = λ m n l h. done n (inv.before m n l h);
      rising = inv.rising;
      pending = h.1;
      stands = h.2;
    }))
    (known_set inv.calm)
restarts w (inr f) =
    let done = map_done anew w (step w restart) refl refl settled_anew in
    inr (record {
      of_old = inl refl;
      lines = no_line refl refl refl refl;
      weak = λ m. rw slice_get-map (weak_anew (handed m w.ledger) (slice_get w.copies m) (f.weak m));
      was = λ m. rw slice_get-map (was_anew (handed m w.reads) (slice_get w.copies m) (f.was m));
      before = λ m n l h. done n (f.before m n l h);
      rising = f.rising;
      pending = f.pending;
      stands = f.stands;
    })

calm_olds : {l : Link} {b st cl : Bool} {up : List Answer} {down : List Output} {old : List Answer} {kept : List ℕ} → cl ≡ false → Calm l b st cl up down old kept → Olds up
calm_olds e (is_away h u d x) = inr (rw u refl)
calm_olds e (is_sent h u d x) = inl (u ∙ rw e refl)
calm_olds e (is_shut h u d x) = inr (rw u refl)
calm_olds e (is_read p rest h u d o c s) = inr (rw u refl)
calm_olds e (is_live h o u c) = inr c

gives : (c : Bool) (l : Link) (w : World) → w.clean ≡ c → Good w → Good (gives_up c l w)
gives true l w e good = good
gives false away w e good = good
gives false l w e (inr f) = let x = sym e ∙ f.pending in absurd (cc)
gives false l w e (inl inv) = go l (⊎_elim
    (λ (h : effective w.link w.down w.kept ≡ w.kept). subst (λ k. Inv k w) h inv)
    (λ (h : Late w.old × (w.clean ≡ true) × (w.stands ≡ true)). let x = sym e ∙ h.1 in absurd (cc))
    (known_set inv.calm))
  where
    each : Inv w.kept w → (j : ℕ) → (s : Stage) × At j w.copies false w.up [] [] w.kept w.reads s
    each i j = let at = (i.each j).1 in ((i.each j).0, record { holds = at.holds; of_old = at.of_up; of_up = inl refl; of_down = inl refl; is_kept = at.is_kept; fits = at.fits })

    go : (l : Link) → Inv w.kept w → Good (gives_up false l w)
    go away i = inl inv
    go asked i = inl (loses w.clean w.up w (each i) (calm_olds e inv.calm) i)
    go live i = inl (loses w.clean w.up w (each i) (calm_olds e inv.calm) i)

joins_in : (l : Link) (c : Bool) (w : World) → w.link ≡ l → Good w → Good (joins l c w)
joins_in asked c w e good = good
joins_in live c w e good = good
joins_in away c w e (inl inv) =
    let i = subst (λ k. Inv k w) (let h : effective w.link w.down w.kept ≡ w.kept = rw e refl in h) inv in
    inl (record {
      each = λ j. let at = (i.each j).1 in ((i.each j).0, same_stage at refl (inr refl) (inl refl) (inl refl) refl at.fits);
      told = i.told;
      was = i.was;
      calm = is_sent refl refl refl refl;
      olds = i.olds;
      begun = i.begun;
      ready = tt;
      before = i.before;
      rising = i.rising;
    })
joins_in away c w e (inr f) =
    let p = f.pending in
    inr (record { of_old = f.of_old; lines = is_asked refl (rw p refl) refl refl; weak = f.weak; was = f.was; before = f.before; rising = f.rising; pending = rw p refl; stands = f.stands })

closes : (w : World) → Good w → Good (step w close)
closes w (inl inv) =
    let e = effective_sent_on w.link w.linked w.stands w.clean w.up w.down w.old w.kept (disconnect ∷ []) inv.calm in
    inl (subst (λ k. Inv k (step w close)) (sym e) (record {
      each = λ j. let at = (inv.each j).1 in ((inv.each j).0, same_stage at refl (inr refl) (inl refl) (at_most_more (inr (downs-sent_on j w.linked w.down (disconnect ∷ []) refl)) (way_lost j w.linked _ (inv.each j).0 at.of_down)) refl at.fits);
      told = inv.told;
      was = inv.was;
      calm = calm_close inv.calm;
      olds = inv.olds;
      begun = inv.begun;
      ready = ready_sent_on (Done w) w.linked w.down (disconnect ∷ []) tt inv.ready;
      before = inv.before;
      rising = inv.rising;
    }))
closes w (inr f) = inr (record { of_old = f.of_old; lines = go f.lines; weak = f.weak; was = f.was; before = f.before; rising = f.rising; pending = f.pending; stands = f.stands })
  where
    go : Blank w.link w.linked w.up w.down → Blank w.link false [] (sent_on w.linked w.down (disconnect ∷ []))
    go (no_line h u d x) = no_line h refl (rw x d) refl
    go (is_asked h u d x) = was_shut h refl (rw x d) refl
    go (was_shut h u d x) = was_shut h refl (rw x d) refl

closes_old : (w : World) → Good w → Good (step w close_old)
closes_old w (inl inv) = inl (no_old w inv)
closes_old w (inr f) = inr (record { of_old = inl refl; lines = f.lines; weak = f.weak; was = f.was; before = f.before; rising = f.rising; pending = f.pending; stands = f.stands })

-- a late CONNECT while a Clean Start goes on
fresh_old : (r : Bool) (old : List Answer) (w : World) → w.old ≡ old → Fresh w → Good (old_comes r old w)
fresh_old r old w u f = ⊎_elim
    (λ (e : w.old ≡ []). let z : old ≡ [] = sym u ∙ e in subst (λ old. Good (old_comes r old w)) (sym z) (inr f))
    (λ (e : w.old ≡ connect false ∷ []).
    let z : old ≡ connect false ∷ [] = sym u ∙ e in
    subst (λ old. Good (old_comes r old w)) (sym z) (subst (λ s. Good (connects_old s false r [] w)) (sym f.stands) (inr (record {
      of_old = inl refl;
      lines = go f.lines;
      weak = λ m. rw slice_get-map (weak_anew (handed m w.ledger) (slice_get w.copies m) (f.weak m));
      was = λ m. rw slice_get-map (was_anew (handed m w.reads) (slice_get w.copies m) (f.was m));
      before = λ m n l h. rw slice_get-map (settled_anew (handed n w.ledger) (slice_get w.copies n) (f.before m n l h));
      rising = f.rising;
      pending = f.pending;
      stands = f.stands;
    }))))
    f.of_old
  where
    go : Blank w.link w.linked w.up w.down → Blank w.link false (if w.linked then [] else w.up) (sent_on w.linked w.down (disconnect ∷ []))
    go (no_line h u d x) = no_line h (rw x u) (rw x d) refl
    go (is_asked h u d x) = is_asked h (rw x u) (rw x d) refl
    go (was_shut h u d x) = was_shut h (rw x u) (rw x d) refl

-- CONNACK
connacks : (l : Link) (p : Bool) (rest : List Output) (w : World) → w.link ≡ l → w.down ≡ connack p ∷ rest → Norm w → Good (read_connack l p rest w)
connacks l p rest w e u inv = inl (go l e (subst (λ d. Calm w.link w.linked w.stands w.clean w.up d w.old w.kept) u inv.calm))
  where
    k : List ℕ
    k = effective w.link w.down w.kept

    each : (j : ℕ) → (s : Stage) × At j w.copies w.linked w.old w.up rest (effective w.link w.down w.kept) w.reads s
    each j =
        let e' : (j : ℕ) → (s : Stage) × At j w.copies w.linked w.old w.up (connack p ∷ rest) (effective w.link w.down w.kept) w.reads s = subst (λ d. (j : ℕ) → (s : Stage) × At j w.copies w.linked w.old w.up d (effective w.link w.down w.kept) w.reads s) u inv.each in
        let at = (e' j).1 in ((e' j).0, same_stage at refl (inr refl) (inr refl) at.of_down refl at.fits)

    go : (l : Link) → w.link ≡ l → Calm w.link w.linked w.stands w.clean w.up (connack p ∷ rest) w.old w.kept → Norm (read_connack l p rest w)
    go asked e (is_read q r h up d o c s) =
        let r' : Ready (Done w) (connack p ∷ rest) = subst (Ready (Done w)) u inv.ready in
        let z : effective w.link w.down w.kept ≡ (if p then w.kept else []) = rw (e, u) refl in
        subst (λ k. Inv k (read_connack asked p rest w)) z (record {
          each = each;
          told = inv.told;
          was = inv.was;
          calm = is_live refl o (inr up) (rw up refl);
          olds = inv.olds;
          begun = λ x. let y = sym s ∙ x in absurd (cc);
          ready = r';
          before = inv.before;
          rising = inv.rising;
        })
    go live e (is_live h o v c) =
        let r' : Ready (Done w) (connack p ∷ rest) = subst (Ready (Done w)) u inv.ready in
        let z : effective w.link w.down w.kept ≡ effective w.link rest w.kept = rw e refl in
        subst (λ k. Inv k (read_connack live p rest w)) z (record { each = each; told = inv.told; was = inv.was; calm = is_live h o v c; olds = inv.olds; begun = inv.begun; ready = r'; before = inv.before; rising = inv.rising })
    go l e (is_away h v d x) = absurd (cc)
    go l e (is_sent h v d x) = absurd (cc)
    go l e (is_shut h v (inl d) x) = absurd (cc)
    go l e (is_shut h v (inr d) x) = absurd (cc)
    go away e (is_read q r h v d o c s) = absurd (cc)
    go live e (is_read q r h v d o c s) = absurd (cc)
    go away e (is_live h o v c) = absurd (cc)
    go asked e (is_live h o v c) = absurd (cc)

refused : (rest : List Output) (w : World) → w.down ≡ no_connack ∷ rest → Norm w → Norm (leaves (record w { clean = false }))
refused rest w u inv = go inv.calm
  where
    ok : effective w.link w.down w.kept ≡ w.kept → Norm (leaves (record w { clean = false }))
    ok e = let i = subst (λ k. Inv k w) e inv in loses false w.old w (lost_each w i) i.olds i

    go : Calm w.link w.linked w.stands w.clean w.up w.down w.old w.kept → Norm (leaves (record w { clean = false }))
    go (is_away h v d x) = ok (rw h refl)
    go (is_sent h v d x) = ok (rw (h, d) refl)
    go (is_shut h v d x) = ok (rw (h, u) refl)
    go (is_read p r h v d o c s) = let z = sym d ∙ u in absurd (cc)
    go (is_live h o v c) = ok (rw h refl)

norm_down : (down : List Output) (w : World) → w.down ≡ down → Norm w → Good (down_comes down w)
norm_down [] w u inv = inl inv
norm_down (connack p ∷ rest) w u inv = connacks w.link p rest w refl u inv
norm_down (no_connack ∷ rest) w u inv = inl (refused rest w u inv)
norm_down (publish i n dup b ∷ rest) w u inv = inl (go b.twice refl)
  where
    link : w.link ≡ live
    link = (calm_output (λ h. cc) (λ p h. cc) (subst (λ d. Calm w.link w.linked w.stands w.clean w.up d w.old w.kept) u inv.calm)).0

    i' : Inv w.kept w
    i' = subst (λ k. Inv k w) (live_kept w.link w.down w.kept link) inv

    go : (t : Bool) → b.twice ≡ t → Norm (read_publish t i n b rest w)
    go true e = subst (λ k. Inv k (read_publish true i n b rest w)) (sym (live_kept w.link rest (kept_after i w.kept) link)) (reads_twice i n dup b rest w e u i')
    go false e = subst (λ k. Inv k (read_publish false i n b rest w)) (sym (live_kept w.link rest w.kept link)) (reads_once i n dup b rest w e u i')
norm_down (pubrel i code ∷ rest) w u inv =
    let link = (calm_output (λ h. cc) (λ p h. cc) (subst (λ d. Calm w.link w.linked w.stands w.clean w.up d w.old w.kept) u inv.calm)).0 in
    let i' = subst (λ k. Inv k w) (live_kept w.link w.down w.kept link) inv in
    inl (subst (λ k. Inv k (down_comes (pubrel i code ∷ rest) w)) (sym (live_kept w.link rest (ids_without i w.kept) link)) (reads_pubrel i code (release_code (is_among i w.kept)) rest w u i'))
norm_down (disconnect ∷ rest) w u inv = breaks w (inl inv)

fresh_down : (down : List Output) (w : World) → w.down ≡ down → Fresh w → Good (down_comes down w)
fresh_down down w u f = let z : down ≡ [] = sym u ∙ go f.lines in subst (λ d. Good (down_comes d w)) (sym z) (inr f)
  where
    go : Blank w.link w.linked w.up w.down → w.down ≡ []
    go (no_line h v d x) = d
    go (is_asked h v d x) = d
    go (was_shut h v d x) = d

reads_up : (r : Bool) (order : List ℕ) (w : World) → Good w → Good (step w (to_broker r order))
reads_up r order w (inl inv) = inl (norm_up r order w.up w refl inv)
reads_up r order w (inr f) = fresh_up r order w.up w refl f

reads_old : (r : Bool) (w : World) → Good w → Good (step w (old_to_broker r))
reads_old r w (inl inv) = inl (norm_old r w.old w refl inv)
reads_old r w (inr f) = fresh_old r w.old w refl f

reads_down : (w : World) → Good w → Good (step w to_end)
reads_down w (inl inv) = norm_down w.down w refl inv
reads_down w (inr f) = fresh_down w.down w refl f

-- each event keeps the invariant
pub keeps : (w : World) (e : Event) → Good w → Good (step w e)
keeps w (enter b) g = enters w.stands b w refl g
keeps w (finish l n) g = lapses l n w g
keeps w (pump k) g = pumps k w g
keeps w (to_broker r order) g = reads_up r order w g
keeps w (old_to_broker r) g = reads_old r w g
keeps w to_end g = reads_down w g
keeps w give_up g = gives w.clean w.link w refl g
keeps w break_line g = breaks w g
keeps w (make_line c) g = joins_in w.link c w refl g
keeps w close g = closes w g
keeps w close_old g = closes_old w g
keeps w restart g = restarts w g

-- the invariant holds at the start
pub begins : Good start
begins = inl (record {
  each = λ j. (free, record { holds = refl; of_old = inl refl; of_up = inl refl; of_down = inl refl; is_kept = refl; fits = tt });
  told = λ n. refl;
  was = λ n. tt;
  calm = is_away refl refl refl refl;
  olds = inr refl;
  begun = λ x. (refl, refl);
  ready = tt;
  before = λ m n l h. absurd (omega arith);
  rising = tt;
})

-- the invariant holds after any run
pub runs : (es : List Event) (w : World) → Good w → Good (run es w)
runs [] w g = g
runs (e ∷ es) w g = runs es (step w e) (keeps w e g)

-- what the invariant says of a run
pub good_weak : (w : World) → Good w → (n : ℕ) → Weak (handed n w.ledger) (slice_get w.copies n)
good_weak w (inl inv) n = told_weak (effective w.link w.down w.kept) (handed n w.ledger) (slice_get w.copies n) (inv.told n)
good_weak w (inr f) n = f.weak n

-- a copy of QoS 1 that was taken was read, at each moment
pub good_was : (w : World) → Good w → (n : ℕ) → Was_read (handed n w.reads) (slice_get w.copies n)
good_was w (inl inv) n = inv.was n
good_was w (inr f) n = f.was n

-- the ledger rises by the numbers of the copies, at each moment
pub good_rising : (w : World) → Good w → Rising w.ledger
good_rising w (inl inv) = inv.rising
good_rising w (inr f) = f.rising
