-- The broker reads, from either line.
use Rattle.std.proofs.Common.{◌≡◌, ◌⊎◌, inl, inr, ℕ, ◌<◌, ◌≤◌, Bool, true, false, List, [], ◌∷◌, ◌++◌, map, nat_eq, if◌then◌else◌, refl, sym, ap, ◌∙◌, subst, Option, Some, slice_get, option_map, eqb-true}
use Rattle.std.specs.List.{list_any}
use Rattle.std.proofs.lemmas.Option.{slice_get-map}
use Rattle.mqtt_base.specs.declared.Ending.TheVariants.{Taken}
use Rattle.mqtt_flow.specs.inbound.Line.{Link, asked, live, sent_on}
use Rattle.mqtt_flow.specs.outbound.Receiver.{Body, Output, connack, no_connack, pubrel, disconnect, Answer, connect, puback, pubrec, pubcomp, handed, Rising, spared}
use Rattle.mqtt_flow.proofs.outbound_lemmas.outbound.Lives.{Mark, sent, released, Life, in_flight, find, anew, pubrels, cut, Turn, stay, over, turned, answered, on_puback, on_pubrec, on_pubcomp, says, puback_reply, pubrec_reply, pubcomp_reply}
use Rattle.mqtt_flow.proofs.outbound_lemmas.outbound.LivesWorld.{World, arranged, made_new, resumed, connects, connects_old, replied, replied_old, up_comes, old_comes}
use Rattle.mqtt_flow.proofs.inbound_lemmas.Identifiers.{same_id}
use Rattle.mqtt_flow.proofs.outbound_lemmas.outbound.Stages.{ups, is_connect, Copy, held, Stage, free, releasing, At, Told, Weak, Was_read, Settled, Ready, Late, Olds, Calm, is_away, is_sent, is_shut, is_read, is_live, effective, Done, Inv, Norm, Blank, no_line, is_asked, was_shut, Fresh, Good, late_olds, late_spared, late_ups, ready_more, ready_plain, Plain, ready_pubrels, first_of, find-held, only}
use Rattle.mqtt_flow.proofs.outbound_lemmas.outbound.Sends.{way_none, way_same, way_sent_on, downs-sent_on, same_stage, same_number, sent_on_head, effective_sent_on}
use Rattle.mqtt_flow.proofs.outbound_lemmas.outbound.Steps.{again, begins_again, ends_again, held-cut, told_anew, was_anew, settled_anew, told_weak, weak_cut, was_cut, settled_cut, held-answered_same, get_answered, told_pubrec, told_puback, told_pubcomp, was_pubrec, was_puback, was_pubcomp, settled_pubrec, settled_puback, settled_pubcomp, pubrec_came, puback_came, pubcomp_came, swap, answer_each}

-- the lines
pub calm_answer : {l : Link} {b st cl : Bool} {p : Answer} {rest : List Answer} {down : List Output} {old : List Answer} {kept : List ℕ} → is_connect p ≡ false → Calm l b st cl (p ∷ rest) down old kept → (l ≡ live) × Late old × (b ≡ true) × (list_any is_connect rest ≡ false)
calm_answer e (is_away h u d x) = absurd (cc)
calm_answer {cl = cl} {p} e (is_sent h u d x) =
    let q : p ≡ connect cl = cc in
    let r : is_connect (connect cl) ≡ false = subst (λ p. is_connect p ≡ false) q e in absurd (cc)
calm_answer e (is_shut h u d x) = absurd (cc)
calm_answer e (is_read p rest h u d o c s) = absurd (cc)
calm_answer e (is_live h o (inl x) c) = (h, o, x, rw e at c)
calm_answer e (is_live h o (inr x) c) = absurd (cc)

-- a CONNECT that comes is alone under way, with its Clean Start, and the session is connected nowhere on that line
pub calm_connect : {l : Link} {b st cl c : Bool} {rest : List Answer} {down : List Output} {old : List Answer} {kept : List ℕ} → Calm l b st cl (connect c ∷ rest) down old kept → (l ≡ asked) × (rest ≡ []) × (down ≡ []) × (b ≡ false) × (c ≡ cl)
calm_connect (is_away h u d x) = absurd (cc)
calm_connect {cl = cl} {c} (is_sent h u d x) = let q : connect c ≡ connect cl = cc in (h, cc, d, x, cc)
calm_connect (is_shut h u d x) = absurd (cc)
calm_connect (is_read p rest h u d o c s) = absurd (cc)
calm_connect (is_live h o x c) = absurd (cc)

late_no_answer : (p : Answer) (rest : List Answer) → is_connect p ≡ false → Late (p ∷ rest) → ⊥
late_no_answer p rest e (inl h) = cc
late_no_answer p rest e (inr h) =
    let q : p ≡ connect false = cc in
    let r : is_connect (connect false) ≡ false = subst (λ p. is_connect p ≡ false) q e in cc

-- a line given up on which something else than CONNECT comes leaves the receiver's line as it was
pub calm_old : {l : Link} {b st cl : Bool} {p : Answer} {rest up : List Answer} {down : List Output} {kept : List ℕ} → is_connect p ≡ false → Calm l b st cl up down (p ∷ rest) kept → Calm l b st cl up down rest kept × ((i : ℕ) → ups i up ≡ []) × (b ≡ false)
calm_old e (is_away h u d x) = (is_away h u d x, (λ i. rw u refl), x)
calm_old e (is_sent h u d x) = (is_sent h u d x, (λ i. rw u refl), x)
calm_old e (is_shut h u d x) = (is_shut h u d x, (λ i. rw u refl), x)
calm_old {p = p} {rest} e (is_read q r h u d o c s) = absurd (late_no_answer p rest e o)
calm_old {p = p} {rest} e (is_live h o x c) = absurd (late_no_answer p rest e o)

if_none : {A : Type 0} (b : Bool) (xs : List A) → xs ≡ [] → (if b then [] else xs) ≡ []
if_none true xs h = refl
if_none false xs h = h

live_none : (b : Bool) (xs : List Answer) → (b ≡ true) ⊎ (xs ≡ []) → (if b then [] else xs) ≡ []
live_none true xs h = refl
live_none false xs (inl h) = absurd (cc)
live_none false xs (inr h) = h

-- the broker's line with the receiver is closed, by a takeover
pub calm_cut : {l : Link} {b st cl : Bool} {up : List Answer} {down : List Output} {old : List Answer} {kept : List ℕ} → Calm l b st cl up down old kept → Calm l false st cl (if b then [] else up) (sent_on b down (disconnect ∷ [])) [] kept
calm_cut {b = b} {up = up} {down} (is_away h u d e) = is_away h (if_none b up u) (rw e d) refl
calm_cut {b = b} {up = up} {down} (is_sent h u d e) = is_sent h (rw e u) (rw e d) refl
calm_cut {b = b} {up = up} {down} (is_shut h u d e) = is_shut h (if_none b up u) (rw e d) refl
calm_cut {b = b} {up = up} {down} (is_read p rest h u d o c s) = is_read p (sent_on b rest (disconnect ∷ [])) h (if_none b up u) (sent_on_head b (connack p) down rest (disconnect ∷ []) d) (inl refl) c s
calm_cut {b = b} {up = up} {down} (is_live h o u c) = let z = live_none b up u in is_live h (inl refl) (inr z) (rw z refl)

-- a line that the broker closes carries nothing more to it, and DISCONNECT to the receiver
pub calm_close : {l : Link} {b st cl : Bool} {up : List Answer} {down : List Output} {old : List Answer} {kept : List ℕ} → Calm l b st cl up down old kept → Calm l false st cl [] (sent_on b down (disconnect ∷ [])) old kept
calm_close (is_away h u d e) = is_away h refl (rw e d) refl
calm_close (is_sent h u d e) = is_shut h refl (inl (rw e d)) refl
calm_close (is_shut h u d e) = is_shut h refl (rw e d) refl
calm_close {b = b} {down = down} (is_read p rest h u d o c s) = is_read p (sent_on b rest (disconnect ∷ [])) h refl (sent_on_head b (connack p) down rest (disconnect ∷ []) d) o c s
calm_close (is_live h o u c) = is_live h o (inr refl) refl

-- the phases change, the ledger does not
pub map_done : (g : Life → Life) (w w' : World) → w'.copies ≡ map g w.copies → w'.ledger ≡ w.ledger → ((c : ℕ) (f : Option Life) → Settled c f → Settled c (option_map g f)) → (m : ℕ) → Done w m → Done w' m
map_done g w w' e k s m h = rw (e, k, slice_get-map) (s (handed m w.ledger) (slice_get w.copies m) h)

-- further packets that are no PUBLISH keep those under way in order
pub ready_sent_on : (S : ℕ → Type 0) (b : Bool) (ps qs : List Output) → Plain qs → Ready S ps → Ready S (sent_on b ps qs)
ready_sent_on S true ps qs h r = ready_plain S ps qs h r
ready_sent_on S false ps qs h r = r

-- of no copies none changes
pub map_none : (g : Life → Life) (fs : List Life) → fs ≡ [] → map g fs ≡ []
map_none g fs e = rw e refl

-- a new session
new_session : (rest : List Answer) (w : World) → w.link ≡ asked → rest ≡ [] → w.down ≡ [] → Olds w.old → (w.clean ≡ true) ⊎ (w.kept ≡ []) → ((n : ℕ) → Weak (handed n w.ledger) (slice_get w.copies n)) → ((n : ℕ) → Was_read (handed n w.reads) (slice_get w.copies n)) → ((m n : ℕ) → 1 ≤ handed m w.ledger → n < m → Done w n) → Rising w.ledger → Norm (made_new rest w)
new_session rest w link r d olds ck weak was before rising =
    let w' = made_new rest w in
    let done = map_done cut w w' refl refl settled_cut in
    let late = late_spared w.old olds in
    let e : effective w.link (w.down ++ connack false ∷ []) w.kept ≡ [] = rw (link, d) refl in
    subst (λ k. Inv k w') (sym e) (record {
      each = λ j. (free, record { holds = held-cut j 0 w.copies; of_old = inl (late_ups j (spared w.old) late); of_up = inl (rw r refl); of_down = rw d refl; is_kept = refl; fits = tt });
      told = λ m. rw slice_get-map (weak_cut (handed m w.ledger) (slice_get w.copies m) (weak m));
      was = λ m. rw slice_get-map (was_cut (handed m w.reads) (slice_get w.copies m) (was m));
      calm = is_read false [] link r (rw d refl) late (inr ck) refl;
      olds = late_olds (spared w.old) late;
      begun = λ x. absurd (cc);
      ready = rw d tt;
      before = λ m n l h. done n (before m n l h);
      rising = rising;
    })

resumes_inv : (k order : List ℕ) (rest : List Answer) (w : World) → w.link ≡ asked → rest ≡ [] → w.down ≡ [] → w.stands ≡ true → Inv k w → Inv k (resumed order rest w)
resumes_inv k order rest w link r d st inv =
    let w' = resumed order rest w in
    let done = map_done anew w w' refl refl settled_anew in
    let late = late_spared w.old inv.olds in
    record {
      each = λ j. (again (inv.each j).0, rw (d, r) (begins_again order (inv.each j).0 (inv.each j).1 (late_ups j (spared w.old) late) refl));
      told = λ m. rw slice_get-map (told_anew k (handed m w.ledger) (slice_get w.copies m) (inv.told m));
      was = λ m. rw slice_get-map (was_anew (handed m w.reads) (slice_get w.copies m) (inv.was m));
      calm = is_read true (arranged order [] (pubrels w.copies)) link r (rw d refl) late (inl refl) st;
      olds = late_olds (spared w.old) late;
      begun = λ x. let y = sym st ∙ x in absurd (cc);
      ready = rw d (ready_pubrels (Done w') order w.copies);
      before = λ m n l h. done n (inv.before m n l h);
      rising = inv.rising;
    }

resumes : (order : List ℕ) (rest : List Answer) (w : World) → w.link ≡ asked → rest ≡ [] → w.down ≡ [] → w.stands ≡ true → Norm w → Norm (resumed order rest w)
resumes order rest w link r d st inv =
    let e : effective w.link (w.down ++ connack true ∷ arranged order [] (pubrels w.copies)) w.kept ≡ effective w.link w.down w.kept = rw (link, d) refl in
    subst (λ k. Inv k (resumed order rest w)) (sym e) (resumes_inv (effective w.link w.down w.kept) order rest w link r d st inv)

refuses : (rest : List Answer) (w : World) → w.link ≡ asked → rest ≡ [] → w.down ≡ [] → w.linked ≡ false → w.up ≡ connect w.clean ∷ rest → Norm w → Norm (record w { up = rest; down = w.down ++ no_connack ∷ [] })
refuses rest w link r d lf u inv =
    let w' = record w { up = rest; down = w.down ++ no_connack ∷ [] } in
    let k = effective w.link w.down w.kept in
    let e : effective w.link (w.down ++ no_connack ∷ []) w.kept ≡ effective w.link w.down w.kept = rw (link, d) refl in
    subst (λ k. Inv k w') (sym e) (record {
      each = λ j. let at = (inv.each j).1 in ((inv.each j).0, same_stage at refl (inr refl) (inl (rw r refl)) (way_same w.linked _ _ _ (rw d refl) at.of_down) refl at.fits);
      told = inv.told;
      was = inv.was;
      calm = is_shut link r (inr (rw d refl)) lf;
      olds = inv.olds;
      begun = inv.begun;
      ready = rw d tt;
      before = inv.before;
      rising = inv.rising;
    })

weaker : (w : World) → Norm w → (n : ℕ) → Weak (handed n w.ledger) (slice_get w.copies n)
weaker w inv n = told_weak (effective w.link w.down w.kept) (handed n w.ledger) (slice_get w.copies n) (inv.told n)

connecting : (s c r : Bool) (order : List ℕ) (rest : List Answer) (w : World) → w.stands ≡ s → w.up ≡ connect c ∷ rest → Norm w → Norm (connects s c r order rest w)
connecting s c r order rest w st u inv = go s c r st u
  where
    go : (s c r : Bool) → w.stands ≡ s → w.up ≡ connect c ∷ rest → Norm (connects s c r order rest w)
    go false c true st u =
        let q = calm_connect (subst (λ x. Calm w.link w.linked w.stands w.clean x w.down w.old w.kept) u inv.calm) in
        refuses rest w q.0 q.1 q.2 q.3 (u ∙ rw q.4 refl) inv
    go false c false st u =
        let q = calm_connect (subst (λ x. Calm w.link w.linked w.stands w.clean x w.down w.old w.kept) u inv.calm) in
        new_session rest w q.0 q.1 q.2 inv.olds (inr (inv.begun st).1) (weaker w inv) inv.was inv.before inv.rising
    go true true r st u =
        let q = calm_connect (subst (λ x. Calm w.link w.linked w.stands w.clean x w.down w.old w.kept) u inv.calm) in
        new_session rest w q.0 q.1 q.2 inv.olds (inl (sym q.4)) (weaker w inv) inv.was inv.before inv.rising
    go true false r st u =
        let q = calm_connect (subst (λ x. Calm w.link w.linked w.stands w.clean x w.down w.old w.kept) u inv.calm) in
        resumes order rest w q.0 q.1 q.2 st inv

live_effective : (l : Link) (d d' : List Output) (kept : List ℕ) → l ≡ live → effective l d' kept ≡ effective l d kept
live_effective l d d' kept e = rw e refl

-- an answer is read: what stays
abbrev Each : List ℕ → World → List Answer → List Answer → Type 0
Each k w old up = (j : ℕ) → (s : Stage) × At j w.copies w.linked old up w.down k w.reads s

up_each : (k : List ℕ) (w : World) (up : List Answer) → w.up ≡ up → Inv k w → Each k w w.old up
up_each k w up u inv = subst (Each k w w.old) u inv.each

old_each : (k : List ℕ) (w : World) (old : List Answer) → w.old ≡ old → Inv k w → Each k w w.up old
old_each k w old u inv =
    let each : Each k w old w.up = subst (λ x. Each k w x w.up) u inv.each in
    λ j. ((each j).0, swap (each j).1)

-- no other copy in flight has the identifier
apart : (i n m j : ℕ) (r q : Mark) (a b : Body) (g : Mark → Body → Turn) (f : List Life) → held i 0 f ≡ Copy n r a ∷ [] → slice_get f m ≡ Some (in_flight j q b) → nat_eq i j ≡ true → (m ≡ n) × (in_flight j q b ≡ in_flight i r a) × (turned j (g q b) b ≡ turned i (g r a) a)
apart i n m j r q a b g f holds s e =
    let s' : slice_get f m ≡ Some (in_flight i q b) = rw (eqb-true i j e) s in
    let o = only i n m r q a b f holds s' in
    let ij = eqb-true i j e in
    let qr : q ≡ r = cc in
    let ba : b ≡ a = cc in
    (same_number m n q r b a o, rw (ij, qr, ba) refl, rw (ij, qr, ba) refl)

not_begun : (i n : ℕ) (r : Mark) (a : Body) (f : List Life) → held i 0 f ≡ Copy n r a ∷ [] → f ≡ [] → ⊥
not_begun i n r a f h e = let x : held i 0 [] ≡ Copy n r a ∷ [] = subst (λ f. held i 0 f ≡ Copy n r a ∷ []) e h in cc

-- all that follows from one identifier's new stage
turns : (k : List ℕ) (i n : ℕ) (r : Mark) (a : Body) (g : Mark → Body → Turn) (w : World) (up old : List Answer) (down : List Output) → held i 0 w.copies ≡ Copy n r a ∷ [] → Inv k w →
    ((j : ℕ) → (s : Stage) × At j (map (answered i g) w.copies) w.linked old up down k w.reads s) →
    ((c : ℕ) → Told k c (Some (in_flight i r a)) → Told k c (Some (turned i (g r a) a))) →
    ((c : ℕ) → Told k c (Some (in_flight i r a)) → Was_read (handed n w.reads) (Some (turned i (g r a) a))) →
    ((c : ℕ) → Settled c (Some (in_flight i r a)) → Settled c (Some (turned i (g r a) a))) →
    Calm w.link w.linked w.stands w.clean up down old w.kept → Olds old → ((S : ℕ → Type 0) → Ready S w.down → Ready S down) →
    Inv k (record w { up = up; old = old; copies = map (answered i g) w.copies; down = down })
turns k i n r a g w up old down holds inv each told was settled calm olds ready =
    let w' = record w { up = up; old = old; copies = map (answered i g) w.copies; down = down } in
    let done : (m : ℕ) → Done w m → Done w' m = λ m d. rw slice_get-map (get_answered (Settled (handed m w.ledger)) i g (slice_get w.copies m)
    (λ j q b s e z. let x = apart i n m j r q a b g w.copies holds s e in
    subst (λ f. Settled (handed m w.ledger) (Some f)) (sym x.2) (settled (handed m w.ledger) (subst (λ f. Settled (handed m w.ledger) (Some f)) x.1 z))) d) in
    record {
      each = each;
      told = λ m. rw slice_get-map (get_answered (Told k (handed m w.ledger)) i g (slice_get w.copies m)
          (λ j q b s e z. let x = apart i n m j r q a b g w.copies holds s e in
          subst (λ f. Told k (handed m w.ledger) (Some f)) (sym x.2) (told (handed m w.ledger) (subst (λ f. Told k (handed m w.ledger) (Some f)) x.1 z))) (inv.told m));
      was = λ m. rw slice_get-map (get_answered (Was_read (handed m w.reads)) i g (slice_get w.copies m)
          (λ j q b s e z. let x = apart i n m j r q a b g w.copies holds s e in
          let t : Told k (handed m w.ledger) (Some (in_flight j q b)) = subst (Told k (handed m w.ledger)) s (inv.told m) in
          subst (λ f. Was_read (handed m w.reads) (Some f)) (sym x.2) (subst (λ n. Was_read (handed n w.reads) (Some (turned i (g r a) a))) (sym x.0) (was (handed m w.ledger) (subst (λ f. Told k (handed m w.ledger) (Some f)) x.1 t)))) (inv.was m));
      calm = calm;
      olds = olds;
      begun = λ e. absurd (not_begun i n r a w.copies holds (inv.begun e).0);
      ready = ready (Done w') (ready_more (Done w) (Done w') w.down done inv.ready);
      before = λ m n l h. done n (inv.before m n l h);
      rising = inv.rising;
    }

olds_rest : (p : Answer) (rest : List Answer) → is_connect p ≡ false → Olds (p ∷ rest) → Olds rest
olds_rest p rest e (inl h) =
    let q : p ≡ connect false = cc in
    let r : is_connect (connect false) ≡ false = subst (λ p. is_connect p ≡ false) q e in absurd (cc)
olds_rest p rest e (inr h) = inr (rw e at h)

pubrec_says : (i code : ℕ) (o : Option (Mark × Body)) (b : Body) → o ≡ Some (sent true, b) → code ≡ 0 → b.twice ≡ true → pubrec_reply i code o ≡ says (pubrel i 0 ∷ [])
pubrec_says i code o b e z t = rw (e, z, t) refl

puback_says : (o : Option (Mark × Body)) (b : Body) → o ≡ Some (sent true, b) → b.twice ≡ false → puback_reply o ≡ says []
puback_says o b e t = rw (e, t) refl

pubcomp_says : (o : Option (Mark × Body)) (h t : Bool) (b : Body) → o ≡ Some (released h t, b) → pubcomp_reply o ≡ says []
pubcomp_says o h t b e = rw e refl

pubrec_turn : (b : Body) → b.twice ≡ true → on_pubrec 0 (sent true) b ≡ stay (released true true)
pubrec_turn b t = rw t refl

puback_turn : (b : Body) → b.twice ≡ false → on_puback 0 (sent true) b ≡ over Taken
puback_turn b t = rw t refl

-- the broker reads an answer of the receiver's line
reads_pubrec : (i code : ℕ) (rest : List Answer) (w : World) → w.up ≡ pubrec i code ∷ rest → Norm w → Norm (replied (pubrec_reply i code (find i w.copies)) rest (map (answered i (on_pubrec code)) w.copies) w)
reads_pubrec i code rest w u inv =
    let k = effective w.link w.down w.kept in
    let each = up_each k w (pubrec i code ∷ rest) u inv in
    let c = pubrec_came (each i).0 (each i).1 in
    let q = calm_answer refl (subst (λ x. Calm w.link w.linked w.stands w.clean x w.down w.old w.kept) u inv.calm) in
    let reply = pubrec_says i code (find i w.copies) c.body (find-held i 0 w.copies ∙ ap first_of c.holds) c.of_code c.twice in
    let down = sent_on w.linked w.down (pubrel i 0 ∷ []) in
    let e = effective_sent_on w.link w.linked w.stands w.clean w.up w.down w.old w.kept (pubrel i 0 ∷ []) inv.calm in
    let y = same_id i in
    let new : (s : Stage) × At i (map (answered i (on_pubrec 0)) w.copies) w.linked w.old rest down k w.reads s = (
      releasing c.number true true true c.body,
      record {
        holds = held-answered_same i 0 (on_pubrec 0) w.copies ∙ rw (c.holds, pubrec_turn c.body c.twice) refl;
        of_old = inl (late_ups i w.old q.1);
        of_up = inl c.of_rest;
        of_down = way_sent_on i w.linked w.down (pubrel i 0 ∷ []) (pubrel i 0 ∷ []) c.of_down (rw y refl);
        is_kept = c.is_kept;
        fits = tt;
      },
    ) in
    subst (λ r. Norm (replied r rest (map (answered i (on_pubrec code)) w.copies) w)) (sym reply)
    (subst (λ z. Norm (replied (says (pubrel i 0 ∷ [])) rest (map (answered i (on_pubrec z)) w.copies) w)) (sym c.of_code)
    (subst (λ k. Inv k (record w { up = rest; copies = map (answered i (on_pubrec 0)) w.copies; down = down })) (sym e)
    (turns k i c.number (sent true) c.body (on_pubrec 0) w rest w.old down c.holds inv
    (answer_each i (pubrec i code) (on_pubrec 0) w.copies w.linked w.old rest w.down down k w.reads each (λ j h. h) (λ j h. downs-sent_on j w.linked w.down (pubrel i 0 ∷ []) (rw h refl)) new)
    (λ n t. told_pubrec k n i (sent true) c.body c.twice c.is_kept t)
    (λ n t. was_pubrec (handed c.number w.reads) i (sent true) c.body c.twice)
    (λ n t. settled_pubrec n i (sent true) c.body c.twice t)
    (is_live q.0 q.1 (inl q.2) q.3) inv.olds
    (λ S r. ready_sent_on S w.linked w.down (pubrel i 0 ∷ []) tt r))))

reads_puback : (i code : ℕ) (rest : List Answer) (w : World) → w.up ≡ puback i code ∷ rest → Norm w → Norm (replied (puback_reply (find i w.copies)) rest (map (answered i (on_puback code)) w.copies) w)
reads_puback i code rest w u inv =
    let k = effective w.link w.down w.kept in
    let each = up_each k w (puback i code ∷ rest) u inv in
    let c = puback_came (each i).0 (each i).1 in
    let q = calm_answer refl (subst (λ x. Calm w.link w.linked w.stands w.clean x w.down w.old w.kept) u inv.calm) in
    let reply = puback_says (find i w.copies) c.body (find-held i 0 w.copies ∙ ap first_of c.holds) c.twice in
    let down = sent_on w.linked w.down [] in
    let e = effective_sent_on w.link w.linked w.stands w.clean w.up w.down w.old w.kept [] inv.calm in
    let new : (s : Stage) × At i (map (answered i (on_puback 0)) w.copies) w.linked w.old rest down k w.reads s = (
      free,
      record {
        holds = held-answered_same i 0 (on_puback 0) w.copies ∙ rw (c.holds, puback_turn c.body c.twice) refl;
        of_old = inl (late_ups i w.old q.1);
        of_up = inl c.of_rest;
        of_down = way_sent_on i w.linked w.down [] [] c.of_down refl;
        is_kept = c.is_kept;
        fits = tt;
      },
    ) in
    subst (λ r. Norm (replied r rest (map (answered i (on_puback code)) w.copies) w)) (sym reply)
    (subst (λ z. Norm (replied (says []) rest (map (answered i (on_puback z)) w.copies) w)) (sym c.of_code)
    (subst (λ k. Inv k (record w { up = rest; copies = map (answered i (on_puback 0)) w.copies; down = down })) (sym e)
    (turns k i c.number (sent true) c.body (on_puback 0) w rest w.old down c.holds inv
    (answer_each i (puback i code) (on_puback 0) w.copies w.linked w.old rest w.down down k w.reads each (λ j h. h) (λ j h. downs-sent_on j w.linked w.down [] refl) new)
    (λ n t. told_puback k n i (sent true) c.body c.twice t)
    (λ n t. was_puback (handed c.number w.reads) i (sent true) c.body c.twice c.was)
    (λ n t. settled_puback n i (sent true) c.body c.twice t)
    (is_live q.0 q.1 (inl q.2) q.3) inv.olds
    (λ S r. ready_sent_on S w.linked w.down [] tt r))))

reads_pubcomp : (i code : ℕ) (rest : List Answer) (w : World) → w.up ≡ pubcomp i code ∷ rest → Norm w → Norm (replied (pubcomp_reply (find i w.copies)) rest (map (answered i on_pubcomp) w.copies) w)
reads_pubcomp i code rest w u inv =
    let k = effective w.link w.down w.kept in
    let each = up_each k w (pubcomp i code ∷ rest) u inv in
    let c = pubcomp_came (each i).0 (each i).1 in
    let q = calm_answer refl (subst (λ x. Calm w.link w.linked w.stands w.clean x w.down w.old w.kept) u inv.calm) in
    let reply = pubcomp_says (find i w.copies) c.here c.taken c.body (find-held i 0 w.copies ∙ ap first_of c.holds) in
    let down = sent_on w.linked w.down [] in
    let e = effective_sent_on w.link w.linked w.stands w.clean w.up w.down w.old w.kept [] inv.calm in
    let new : (s : Stage) × At i (map (answered i on_pubcomp) w.copies) w.linked w.old rest down k w.reads s = (
      free,
      record {
        holds = held-answered_same i 0 on_pubcomp w.copies ∙ rw c.holds refl;
        of_old = inl (late_ups i w.old q.1);
        of_up = inl c.of_rest;
        of_down = way_sent_on i w.linked w.down [] [] c.of_down refl;
        is_kept = c.is_kept;
        fits = tt;
      },
    ) in
    subst (λ r. Norm (replied r rest (map (answered i on_pubcomp) w.copies) w)) (sym reply)
    (subst (λ k. Inv k (record w { up = rest; copies = map (answered i on_pubcomp) w.copies; down = down })) (sym e)
    (turns k i c.number (released c.here c.taken) c.body on_pubcomp w rest w.old down c.holds inv
    (answer_each i (pubcomp i code) on_pubcomp w.copies w.linked w.old rest w.down down k w.reads each (λ j h. h) (λ j h. downs-sent_on j w.linked w.down [] refl) new)
    (λ n t. told_pubcomp k n i (released c.here c.taken) c.body t)
    (λ n t. was_pubcomp k n (handed c.number w.reads) i (released c.here c.taken) c.body t)
    (λ n t. settled_pubcomp n i (released c.here c.taken) c.body t)
    (is_live q.0 q.1 (inl q.2) q.3) inv.olds
    (λ S r. ready_sent_on S w.linked w.down [] tt r)))

-- and of the line that was given up
old_pubrec : (i code : ℕ) (rest : List Answer) (w : World) → w.old ≡ pubrec i code ∷ rest → Norm w → Norm (replied_old (pubrec_reply i code (find i w.copies)) rest (map (answered i (on_pubrec code)) w.copies) w)
old_pubrec i code rest w u inv =
    let k = effective w.link w.down w.kept in
    let each = old_each k w (pubrec i code ∷ rest) u inv in
    let c = pubrec_came (each i).0 (each i).1 in
    let q = calm_old refl (subst (λ x. Calm w.link w.linked w.stands w.clean w.up w.down x w.kept) u inv.calm) in
    let reply = pubrec_says i code (find i w.copies) c.body (find-held i 0 w.copies ∙ ap first_of c.holds) c.of_code c.twice in
    let lf = q.2 in
    let new : (s : Stage) × At i (map (answered i (on_pubrec 0)) w.copies) w.linked w.up rest w.down k w.reads s = (
      releasing c.number true true true c.body,
      record {
        holds = held-answered_same i 0 (on_pubrec 0) w.copies ∙ rw (c.holds, pubrec_turn c.body c.twice) refl;
        of_old = inl (q.1 i);
        of_up = inl c.of_rest;
        of_down = rw lf (inl c.of_down);
        is_kept = c.is_kept;
        fits = tt;
      },
    ) in
    let after = answer_each i (pubrec i code) (on_pubrec 0) w.copies w.linked w.up rest w.down w.down k w.reads each (λ j h. h) (λ j h. refl) new in
    subst (λ r. Norm (replied_old r rest (map (answered i (on_pubrec code)) w.copies) w)) (sym reply)
    (subst (λ z. Norm (replied_old (says (pubrel i 0 ∷ [])) rest (map (answered i (on_pubrec z)) w.copies) w)) (sym c.of_code)
    (turns k i c.number (sent true) c.body (on_pubrec 0) w w.up rest w.down c.holds inv
    (λ j. ((after j).0, swap (after j).1))
    (λ n t. told_pubrec k n i (sent true) c.body c.twice c.is_kept t)
    (λ n t. was_pubrec (handed c.number w.reads) i (sent true) c.body c.twice)
    (λ n t. settled_pubrec n i (sent true) c.body c.twice t)
    q.0 (olds_rest (pubrec i code) rest refl (subst Olds u inv.olds))
    (λ S r. r)))

old_puback : (i code : ℕ) (rest : List Answer) (w : World) → w.old ≡ puback i code ∷ rest → Norm w → Norm (replied_old (puback_reply (find i w.copies)) rest (map (answered i (on_puback code)) w.copies) w)
old_puback i code rest w u inv =
    let k = effective w.link w.down w.kept in
    let each = old_each k w (puback i code ∷ rest) u inv in
    let c = puback_came (each i).0 (each i).1 in
    let q = calm_old refl (subst (λ x. Calm w.link w.linked w.stands w.clean w.up w.down x w.kept) u inv.calm) in
    let reply = puback_says (find i w.copies) c.body (find-held i 0 w.copies ∙ ap first_of c.holds) c.twice in
    let new : (s : Stage) × At i (map (answered i (on_puback 0)) w.copies) w.linked w.up rest w.down k w.reads s = (
      free,
      record {
        holds = held-answered_same i 0 (on_puback 0) w.copies ∙ rw (c.holds, puback_turn c.body c.twice) refl;
        of_old = inl (q.1 i);
        of_up = inl c.of_rest;
        of_down = way_none w.linked _ c.of_down;
        is_kept = c.is_kept;
        fits = tt;
      },
    ) in
    let after = answer_each i (puback i code) (on_puback 0) w.copies w.linked w.up rest w.down w.down k w.reads each (λ j h. h) (λ j h. refl) new in
    subst (λ r. Norm (replied_old r rest (map (answered i (on_puback code)) w.copies) w)) (sym reply)
    (subst (λ z. Norm (replied_old (says []) rest (map (answered i (on_puback z)) w.copies) w)) (sym c.of_code)
    (turns k i c.number (sent true) c.body (on_puback 0) w w.up rest w.down c.holds inv
    (λ j. ((after j).0, swap (after j).1))
    (λ n t. told_puback k n i (sent true) c.body c.twice t)
    (λ n t. was_puback (handed c.number w.reads) i (sent true) c.body c.twice c.was)
    (λ n t. settled_puback n i (sent true) c.body c.twice t)
    q.0 (olds_rest (puback i code) rest refl (subst Olds u inv.olds))
    (λ S r. r)))

old_pubcomp : (i code : ℕ) (rest : List Answer) (w : World) → w.old ≡ pubcomp i code ∷ rest → Norm w → Norm (replied_old (pubcomp_reply (find i w.copies)) rest (map (answered i on_pubcomp) w.copies) w)
old_pubcomp i code rest w u inv =
    let k = effective w.link w.down w.kept in
    let each = old_each k w (pubcomp i code ∷ rest) u inv in
    let c = pubcomp_came (each i).0 (each i).1 in
    let q = calm_old refl (subst (λ x. Calm w.link w.linked w.stands w.clean w.up w.down x w.kept) u inv.calm) in
    let reply = pubcomp_says (find i w.copies) c.here c.taken c.body (find-held i 0 w.copies ∙ ap first_of c.holds) in
    let new : (s : Stage) × At i (map (answered i on_pubcomp) w.copies) w.linked w.up rest w.down k w.reads s = (
      free,
      record {
        holds = held-answered_same i 0 on_pubcomp w.copies ∙ rw c.holds refl;
        of_old = inl (q.1 i);
        of_up = inl c.of_rest;
        of_down = way_none w.linked _ c.of_down;
        is_kept = c.is_kept;
        fits = tt;
      },
    ) in
    let after = answer_each i (pubcomp i code) on_pubcomp w.copies w.linked w.up rest w.down w.down k w.reads each (λ j h. h) (λ j h. refl) new in
    subst (λ r. Norm (replied_old r rest (map (answered i on_pubcomp) w.copies) w)) (sym reply)
    (turns k i c.number (released c.here c.taken) c.body on_pubcomp w w.up rest w.down c.holds inv
    (λ j. ((after j).0, swap (after j).1))
    (λ n t. told_pubcomp k n i (released c.here c.taken) c.body t)
    (λ n t. was_pubcomp k n (handed c.number w.reads) i (released c.here c.taken) c.body t)
    (λ n t. settled_pubcomp n i (released c.here c.taken) c.body t)
    q.0 (olds_rest (pubcomp i code) rest refl (subst Olds u inv.olds))
    (λ S r. r))

-- a CONNECT from the line that was given up
calm_ups : {l : Link} {b st cl : Bool} {up : List Answer} {down : List Output} {old : List Answer} {kept : List ℕ} → Calm l b st cl up down old kept → (i : ℕ) → ups i (if b then [] else up) ≡ []
calm_ups {b = b} {up = up} (is_away h u d e) i = rw (if_none b up u) refl
calm_ups {b = b} {up = up} (is_sent h u d e) i = rw (e, u) refl
calm_ups {b = b} {up = up} (is_shut h u d e) i = rw (if_none b up u) refl
calm_ups {b = b} {up = up} (is_read p rest h u d o c s) i = rw (if_none b up u) refl
calm_ups {b = b} {up = up} (is_live h o u c) i = rw (live_none b up u) refl

calm_no_old : {l : Link} {b st st' cl : Bool} {up : List Answer} {down : List Output} {old : List Answer} {kept : List ℕ} → (st ≡ true → st' ≡ true) → Calm l b st cl up down old kept → Calm l b st' cl up down [] kept
calm_no_old f (is_away h u d e) = is_away h u d e
calm_no_old f (is_sent h u d e) = is_sent h u d e
calm_no_old f (is_shut h u d e) = is_shut h u d e
calm_no_old f (is_read p rest h u d o c s) = is_read p rest h u d (inl refl) c (f s)
calm_no_old f (is_live h o u c) = is_live h (inl refl) u c

-- if nothing is left on the line that was given up, the invariant holds as before
pub no_old : (w : World) → Norm w → Norm (record w { old = [] })
no_old w inv = record {
  each = λ j. let at = (inv.each j).1 in ((inv.each j).0, same_stage at refl (inl refl) (inr refl) at.of_down refl at.fits);
  told = inv.told;
  was = inv.was;
  calm = calm_no_old (λ x. x) inv.calm;
  olds = inr refl;
  begun = inv.begun;
  ready = inv.ready;
  before = inv.before;
  rising = inv.rising;
}

stands_now : (w : World) → w.stands ≡ false → Norm w → Norm (record w { old = []; stands = true; copies = map cut w.copies })
stands_now w st inv =
    let z = (inv.begun st).0 in
    subst (λ cs. Norm (record w { old = []; stands = true; copies = cs })) (z ∙ sym (map_none cut w.copies z)) (record {
      each = λ j. let at = (inv.each j).1 in ((inv.each j).0, same_stage at refl (inl refl) (inr refl) at.of_down refl at.fits);
      told = inv.told;
      was = inv.was;
      calm = calm_no_old (λ x. refl) inv.calm;
      olds = inr refl;
      begun = λ x. absurd (cc);
      ready = inv.ready;
      before = inv.before;
      rising = inv.rising;
    })

takes_over : (w : World) → w.stands ≡ true → Norm w → Norm (connects_old true false false [] w)
takes_over w st inv =
    let w' = connects_old true false false [] w in
    let k = effective w.link w.down w.kept in
    let done = map_done anew w w' refl refl settled_anew in
    let e = effective_sent_on w.link w.linked w.stands w.clean w.up w.down w.old w.kept (disconnect ∷ []) inv.calm in
    subst (λ k. Inv k w') (sym e) (record {
      each = λ j. (again (inv.each j).0, ends_again (inv.each j).0 (inv.each j).1 refl (calm_ups inv.calm j) (inr (downs-sent_on j w.linked w.down (disconnect ∷ []) refl)));
      told = λ m. rw slice_get-map (told_anew k (handed m w.ledger) (slice_get w.copies m) (inv.told m));
      was = λ m. rw slice_get-map (was_anew (handed m w.reads) (slice_get w.copies m) (inv.was m));
      calm = calm_cut inv.calm;
      olds = inr refl;
      begun = λ x. let y = sym st ∙ x in absurd (cc);
      ready = ready_sent_on (Done w') w.linked w.down (disconnect ∷ []) tt (ready_more (Done w) (Done w') w.down done inv.ready);
      before = λ m n l h. done n (inv.before m n l h);
      rising = inv.rising;
    })

old_connect : (s c r : Bool) (rest : List Answer) (w : World) → w.stands ≡ s → w.old ≡ connect c ∷ rest → Norm w → Norm (connects_old s c r rest w)
old_connect s c r rest w st u inv = go (subst Olds u inv.olds)
  where
    by : (s c r : Bool) → c ≡ false → w.stands ≡ s → Norm (connects_old s c r [] w)
    by false c true e st = no_old w inv
    by false c false e st = stands_now w st inv
    by true true r e st = absurd (cc)
    by true false r e st = takes_over w st inv

    go : Olds (connect c ∷ rest) → Norm (connects_old s c r rest w)
    go (inl h) = let z : rest ≡ [] = cc in let e : c ≡ false = cc in subst (λ rest. Norm (connects_old s c r rest w)) (sym z) (by s c r e st)
    go (inr h) = absurd (cc)

-- the invariant holds after the broker reads a packet of the receiver's line
pub norm_up : (r : Bool) (order : List ℕ) (up : List Answer) (w : World) → w.up ≡ up → Norm w → Norm (up_comes r order up w)
norm_up r order [] w u inv = inv
norm_up r order (connect c ∷ rest) w u inv = connecting w.stands c r order rest w refl u inv
norm_up r order (puback i code ∷ rest) w u inv = reads_puback i code rest w u inv
norm_up r order (pubrec i code ∷ rest) w u inv = reads_pubrec i code rest w u inv
norm_up r order (pubcomp i code ∷ rest) w u inv = reads_pubcomp i code rest w u inv

-- the invariant holds after the broker reads a packet of the line that was given up
pub norm_old : (r : Bool) (old : List Answer) (w : World) → w.old ≡ old → Norm w → Norm (old_comes r old w)
norm_old r [] w u inv = inv
norm_old r (connect c ∷ rest) w u inv = old_connect w.stands c r rest w refl u inv
norm_old r (puback i code ∷ rest) w u inv = old_puback i code rest w u inv
norm_old r (pubrec i code ∷ rest) w u inv = old_pubrec i code rest w u inv
norm_old r (pubcomp i code ∷ rest) w u inv = old_pubcomp i code rest w u inv

-- while a Clean Start goes on
pub fresh_up : (r : Bool) (order : List ℕ) (up : List Answer) (w : World) → w.up ≡ up → Fresh w → Good (up_comes r order up w)
fresh_up r order up w u f = go f.lines
  where
    none : w.up ≡ [] → Good (up_comes r order up w)
    none e = let z : up ≡ [] = sym u ∙ e in rw z (inr f)

    go : Blank w.link w.linked w.up w.down → Good (up_comes r order up w)
    go (no_line h e d l) = none e
    go (was_shut h e d l) = none e
    go (is_asked h e d l) =
        let z : up ≡ connect true ∷ [] = sym u ∙ e in
        let st = f.stands in
        subst (λ up. Good (up_comes r order up w)) (sym z)
        (subst (λ s. Good (connects s true r order [] w)) (sym st)
        (inl (new_session [] w h refl d (late_olds w.old f.of_old) (inl f.pending) f.weak f.was f.before f.rising)))
