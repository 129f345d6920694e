-- What happens to the lines, and what the broker reads of the one that was given up, keeps the invariant.
use Rattle.std.proofs.Common.{◌≡◌, inl, inr, ℕ, Bool, true, false, List, [], ◌∷◌, ◌++◌, refl, sym, ◌∙◌, subst, arith, true≢false}
use Rattle.mqtt_base.specs.Codes.{success, session_taken_over, identifier_in_use, quota_exceeded, is_success}
use Rattle.mqtt_flow.specs.inbound.Identifiers.{ids_without}
use Rattle.mqtt_flow.specs.inbound.Inbound.{answer_to, open_after}
use Rattle.mqtt_flow.specs.inbound.Line.{Link, away, asked, live, sent_on}
use Rattle.mqtt_flow.specs.inbound.Publisher.{Fate, FromPublisher, CONNECT, PUBLISH_1, PUBLISH_2, PUBREL, ToPublisher, CONNACK, CONNACK_REFUSED, PUBACK, PUBREC, PUBCOMP, DISCONNECT}
use Rattle.mqtt_flow.specs.inbound.InboundWorld.{World, Choice, takes, takes_unheard, refuses, Verdict, accept, refuse, repeat, shut, verdict_on, on_old_publish_1, on_old_publish_2, on_old_connect, taken_over, closed_by, broker_reads_old, without_line, on_give_up, on_join}
use Rattle.mqtt_flow.proofs.inbound_lemmas.Identifiers.{is_among-open_after_same, is_among-open_after_other, length-open_after, length-ids_without}
use Rattle.mqtt_flow.proofs.inbound_lemmas.inbound.Came.{publish_1_came, publish_2_came, pubrel_came}
use Rattle.mqtt_flow.proofs.inbound_lemmas.inbound.Stages.{Mark, held, ups, Calm, is_away, is_asking, is_shut, is_turned, is_answered, is_live, IsOld, IsQuiet, is_connect, Norm, same_stage}
use Rattle.mqtt_flow.proofs.inbound_lemmas.inbound.Fates.{not_held}
use Rattle.mqtt_flow.proofs.inbound_lemmas.inbound.Messages.{Each, more_push, one_push, new_is, again_is, over_is, swap, publish_1_each, publish_2_each, pubrel_each, drop_each, told_new_1, told_new_2, told_release, accept_is, refuse_is, repeat_is, shut_is}
use Rattle.mqtt_flow.proofs.inbound_lemmas.inbound.BrokerReads.{no_connect, old_rest, old_connect}

-- DISCONNECT after CONNACK
pub quiet_push : (ps : List ToPublisher) (code : ℕ) → IsQuiet ps → IsQuiet (ps ++ DISCONNECT code ∷ [])
quiet_push [] code h = tt
quiet_push (CONNACK present ∷ ps) code h = absurd h
quiet_push (CONNACK_REFUSED c ∷ ps) code h = absurd h
quiet_push (PUBACK i c ∷ ps) code h = absurd h
quiet_push (PUBREC i c ∷ ps) code h = absurd h
quiet_push (PUBCOMP i c ∷ ps) code h = absurd h
quiet_push (DISCONNECT c ∷ ps) code h = quiet_push ps code h

-- the broker closes the line
calm_closed : (b : Bool) (code : ℕ) {l : Link} {c t : Bool} {up old : List FromPublisher} {down : List ToPublisher} {f : List Fate} → Calm l c b t up down old f → Calm l c false t [] (sent_on b down (DISCONNECT code ∷ [])) old f
calm_closed true code (is_away l b u d) = absurd (cc)
calm_closed true code (is_asking l b u d) = absurd (cc)
calm_closed true code (is_shut l b u d) = absurd (cc)
calm_closed true code (is_turned k l b u d) = absurd (cc)
calm_closed true code (is_answered present rest l u d q late r t) = is_answered present (rest ++ DISCONNECT code ∷ []) l refl (rw d refl) (quiet_push rest code q) late r t
calm_closed true code (is_live l n late t) = is_live l refl late t
calm_closed false code (is_away l b u d) = is_away l refl refl d
calm_closed false code (is_asking l b u d) = is_shut l refl refl d
calm_closed false code (is_shut l b u d) = is_shut l refl refl d
calm_closed false code (is_turned k l b u d) = is_turned k l refl refl d
calm_closed false code (is_answered present rest l u d q late r t) = is_answered present rest l refl d q late r t
calm_closed false code (is_live l n late t) = is_live l refl late t

-- the broker's closing of a line leaves the hop in order
pub closes : (code : ℕ) (w : World) → Norm w → Norm (closed_by code w)
closes code w inv = record {
  each = drop_each w.linked (DISCONNECT code) w.fates w.old w.up w.down w.ids w.ids w.accepted (λ i. refl) refl inv.each;
  told = inv.told;
  calm = calm_closed w.linked code inv.calm;
  within = inv.within;
  begun = inv.begun;
  olds = inv.olds;
}

takes_over : (b : Bool) (w : World) → Norm w → Norm (taken_over b w)
takes_over true w inv = closes session_taken_over w inv
takes_over false w inv = inv

-- the line that was given up is dropped
calm_dropped : {l : Link} {c b t : Bool} {up old : List FromPublisher} {down : List ToPublisher} {f : List Fate} (t' : Bool) → (t ≡ true → t' ≡ true) → Calm l c b t up down old f → Calm l c b t' up down [] f
calm_dropped t' g (is_away l b u d) = is_away l b u d
calm_dropped t' g (is_asking l b u d) = is_asking l b u d
calm_dropped t' g (is_shut l b u d) = is_shut l b u d
calm_dropped t' g (is_turned code l b u d) = is_turned code l b u d
calm_dropped t' g (is_answered present rest l u d q late r t) = is_answered present rest l u d q (inl refl) r (g t)
calm_dropped t' g (is_live l n late t) = is_live l n (inl refl) (g t)

-- the end of an old line leaves the hop in order
pub drops_old : (w : World) (old : List FromPublisher) → old ≡ [] → Norm w → Norm (record w { old = old })
drops_old w old e inv = record {
  each = λ j. ((inv.each j).0, same_stage (inv.each j).1 refl (inl (rw e refl)) (inr refl) (inr refl) refl);
  told = inv.told;
  calm = subst (λ old. Calm w.link w.clean w.linked w.stands w.up w.down old w.fates) (sym e) (calm_dropped w.stands (λ t. t) inv.calm);
  within = inv.within;
  begun = inv.begun;
  olds = inl (rw e refl);
}

-- a packet other than CONNECT is read from it: the session is connected on no other line
calm_old : {l : Link} {c b t : Bool} {up : List FromPublisher} {down : List ToPublisher} {p : FromPublisher} {rest : List FromPublisher} {f : List Fate} → is_connect p ≡ false → Calm l c b t up down (p ∷ rest) f → ((old : List FromPublisher) → Calm l c b t up down old f) × ((i : ℕ) → ups i up ≡ [])
calm_old e (is_away l b u d) = (λ _. is_away l b u d, λ i. rw u refl)
calm_old e (is_asking l b u d) = (λ _. is_asking l b u d, λ i. rw u refl)
calm_old e (is_shut l b u d) = (λ _. is_shut l b u d, λ i. rw u refl)
calm_old e (is_turned code l b u d) = (λ _. is_turned code l b u d, λ i. rw u refl)
calm_old e (is_answered present rest l u d q (inl late) r t) = absurd (cc)
calm_old {p = p} e (is_answered present rest l u d q (inr late) r t) = let q : p ≡ CONNECT false = cc in no_connect p false q e
calm_old e (is_live l n (inl late) t) = absurd (cc)
calm_old {p = p} e (is_live l n (inr late) t) = let q : p ≡ CONNECT false = cc in no_connect p false q e

calm_old_of : (w : World) {p : FromPublisher} {rest : List FromPublisher} → w.old ≡ p ∷ rest → is_connect p ≡ false → Norm w → ((old : List FromPublisher) → Calm w.link w.clean w.linked w.stands w.up w.down old w.fates) × ((i : ℕ) → ups i w.up ≡ [])
calm_old_of w u e inv = calm_old e (subst (λ old. Calm w.link w.clean w.linked w.stands w.up w.down old w.fates) u inv.calm)

old_each : (w : World) (old : List FromPublisher) → w.old ≡ old → Norm w → Each w.fates w.up old w.down w.ids w.accepted
old_each w old u inv =
    let each : Each w.fates old w.up w.down w.ids w.accepted = subst (λ old. Each w.fates old w.up w.down w.ids w.accepted) u inv.each in
    λ j. ((each j).0, swap (each j).1)

swap_each : {f : List Fate} {a b : List FromPublisher} {d : List ToPublisher} {o acc : List ℕ} → Each f a b d o acc → Each f b a d o acc
swap_each each j = ((each j).0, swap (each j).1)

old_rest_of : (w : World) {p : FromPublisher} {rest : List FromPublisher} → w.old ≡ p ∷ rest → is_connect p ≡ false → Norm w → IsOld rest
old_rest_of w {p} {rest} u e inv = old_rest p rest e (subst IsOld u inv.olds)

-- if something is under way, the session stands
not_begun : {A : Type 0} (w : World) (i n : ℕ) (r : Mark) → Norm w → held i 0 w.fates ≡ (n, r) ∷ [] → w.stands ≡ false → A
not_begun w i n r inv holds t =
    let b = (inv.begun t).0 in
    let none = not_held i 0 w.fates (rw b refl) in absurd (cc)

-- PUBLISH of QoS 1
old_answered_1 : (i n code : ℕ) (dup : Bool) (rest : List FromPublisher) (w : World) → is_success code ≡ false → w.old ≡ PUBLISH_1 i n dup ∷ rest → Norm w → Norm (record w { old = rest })
old_answered_1 i n code dup rest w failed u inv =
    let line = calm_old_of w u refl inv in
    record {
      each = swap_each (publish_1_each i n code dup w.fates w.up rest w.down w.down w.ids w.accepted w.accepted (old_each w (PUBLISH_1 i n dup ∷ rest) u inv) (line.1 i) (λ m. omega arith) (λ e. absurd (true≢false (sym e ∙ failed))) (λ h. inl h) (λ j h. refl));
      told = inv.told;
      calm = line.0 rest;
      within = inv.within;
      begun = inv.begun;
      olds = old_rest_of w u refl inv;
    }

old_publish_1 : (i n : ℕ) (dup : Bool) (rest : List FromPublisher) (w : World) (choice : Choice) (verdict : Verdict) → verdict_on (answer_to i w.ids) choice ≡ verdict → w.old ≡ PUBLISH_1 i n dup ∷ rest → Norm w → Norm (on_old_publish_1 verdict n rest w)
old_publish_1 i n dup rest w choice (accept code) e u inv =
    let line = calm_old_of w u refl inv in
    let each = old_each w (PUBLISH_1 i n dup ∷ rest) u inv in
    let c = publish_1_came (each i).0 (each i).1 in
    record {
      each = swap_each (publish_1_each i n code dup w.fates w.up rest w.down w.down w.ids w.accepted (w.accepted ++ n ∷ []) each (line.1 i) (more_push n w.accepted) (λ _. one_push n w.accepted) (λ h. inl h) (λ j h. refl));
      told = told_new_1 i n w.fates w.ids w.accepted inv.told c.0.holds;
      calm = line.0 rest;
      within = inv.within;
      begun = inv.begun;
      olds = old_rest_of w u refl inv;
    }
old_publish_1 i n dup rest w choice refuse e u inv = old_answered_1 i n quota_exceeded dup rest w refl u inv
old_publish_1 i n dup rest w choice repeat e u inv = old_answered_1 i n identifier_in_use dup rest w refl u inv
old_publish_1 i n dup rest w choice shut e u inv = drops_old w [] refl inv

-- PUBLISH of QoS 2
old_publish_2 : (i n : ℕ) (dup : Bool) (rest : List FromPublisher) (w : World) (choice : Choice) (verdict : Verdict) → verdict_on (answer_to i w.ids) choice ≡ verdict → w.old ≡ PUBLISH_2 i n dup ∷ rest → Norm w → Norm (on_old_publish_2 verdict i n rest w)
old_publish_2 i n dup rest w choice (accept code) e u inv =
    let line = calm_old_of w u refl inv in
    let each = old_each w (PUBLISH_2 i n dup ∷ rest) u inv in
    let c = publish_2_came (each i).0 (each i).1 in
    let new = accept_is (answer_to i w.ids) choice code e in
    record {
      each = swap_each (publish_2_each i n code dup w.fates w.up rest w.down w.down w.ids (open_after i w.ids) w.accepted (w.accepted ++ n ∷ []) each (line.1 i) (more_push n w.accepted) (is_among-open_after_same i w.ids (rw new.0 refl) ∙ sym new.1) (λ j h. is_among-open_after_other j i w.ids h) (λ h. inl h) (λ j h. refl));
      told = told_new_2 i n w.fates w.ids w.accepted inv.told c.holds new.0;
      calm = line.0 rest;
      within = length-open_after i w.ids inv.within;
      begun = not_begun w i n _ inv c.holds;
      olds = old_rest_of w u refl inv;
    }
old_publish_2 i n dup rest w choice refuse e u inv =
    let line = calm_old_of w u refl inv in
    let new = refuse_is (answer_to i w.ids) choice e in
    record {
      each = swap_each (publish_2_each i n quota_exceeded dup w.fates w.up rest w.down w.down w.ids w.ids w.accepted w.accepted (old_each w (PUBLISH_2 i n dup ∷ rest) u inv) (line.1 i) (λ m. omega arith) (new_is i w.ids new) (λ j h. refl) (λ h. inl h) (λ j h. refl));
      told = inv.told;
      calm = line.0 rest;
      within = inv.within;
      begun = inv.begun;
      olds = old_rest_of w u refl inv;
    }
old_publish_2 i n dup rest w choice repeat e u inv =
    let line = calm_old_of w u refl inv in
    let each = old_each w (PUBLISH_2 i n dup ∷ rest) u inv in
    let c = publish_2_came (each i).0 (each i).1 in
    let again = repeat_is (answer_to i w.ids) choice e in
    let same = again_is i w.ids again in
    record {
      each = swap_each (publish_2_each i n success dup w.fates w.up rest w.down w.down w.ids (open_after i w.ids) w.accepted w.accepted each (line.1 i) (λ m. omega arith) (is_among-open_after_same i w.ids (rw again refl)) (λ j h. is_among-open_after_other j i w.ids h) (λ h. inl h) (λ j h. refl));
      told = λ m. rw same (inv.told m);
      calm = line.0 rest;
      within = length-open_after i w.ids inv.within;
      begun = not_begun w i n _ inv c.holds;
      olds = old_rest_of w u refl inv;
    }
old_publish_2 i n dup rest w choice shut e u inv =
    let same = over_is i w.ids (shut_is (answer_to i w.ids) choice e) in
    let dropped = drops_old w [] refl inv in
    record {
      each = rw same dropped.each;
      told = rw same dropped.told;
      calm = dropped.calm;
      within = rw same inv.within;
      begun = rw same inv.begun;
      olds = inl refl;
    }

old_pubrel : (i : ℕ) (rest : List FromPublisher) (w : World) → w.old ≡ PUBREL i ∷ rest → Norm w → Norm (record w { old = rest; ids = ids_without i w.ids })
old_pubrel i rest w u inv =
    let line = calm_old_of w u refl inv in
    let each = old_each w (PUBREL i ∷ rest) u inv in
    let c = pubrel_came (each i).0 (each i).1 in
    record {
      each = swap_each (pubrel_each i 0 w.fates w.up rest w.down w.down w.ids w.accepted each (line.1 i) (λ h. inl h) (λ j h. refl));
      told = told_release i c.0 w.fates w.ids w.accepted inv.told c.1.holds;
      calm = line.0 rest;
      within = length-ids_without i w.ids inv.within;
      begun = not_begun w i c.0 _ inv c.1.holds;
      olds = old_rest_of w u refl inv;
    }

-- a late CONNECT
old_begins : (w : World) (rest : List FromPublisher) → w.stands ≡ false → rest ≡ [] → Norm w → Norm (record w { old = rest; stands = true; ids = [] })
old_begins w rest t r inv =
    let b = inv.begun t in
    let dropped = drops_old w rest r inv in
    record {
      each = rw b.1 at dropped.each;
      told = rw b.1 at dropped.told;
      calm = subst (λ old. Calm w.link w.clean w.linked true w.up w.down old w.fates) (sym r) (calm_dropped true (λ _. refl) inv.calm);
      within = omega arith;
      begun = λ e. absurd (cc);
      olds = dropped.olds;
    }

old_connects : (stands clean : Bool) (choice : Choice) (rest : List FromPublisher) (w : World) → w.stands ≡ stands → clean ≡ false → rest ≡ [] → Norm w → Norm (on_old_connect stands clean choice rest w)
old_connects true false choice rest w t e r inv = takes_over w.linked (record w { old = rest }) (drops_old w rest r inv)
old_connects true true choice rest w t e r inv = absurd (cc)
old_connects false clean takes rest w t e r inv = old_begins w rest t r inv
old_connects false clean takes_unheard rest w t e r inv = old_begins w rest t r inv
old_connects false clean refuses rest w t e r inv = drops_old w rest r inv

-- the broker's reading of an old line leaves the hop in order
pub reads_old : (choice : Choice) (old : List FromPublisher) (w : World) → w.old ≡ old → Norm w → Norm (broker_reads_old choice old w)
reads_old choice [] w u inv = inv
reads_old choice (CONNECT clean ∷ rest) w u inv =
    let c = old_connect clean rest (subst IsOld u inv.olds) in
    old_connects w.stands clean choice rest w refl c.0 c.1 inv
reads_old choice (PUBLISH_1 i n dup ∷ rest) w u inv = old_publish_1 i n dup rest w choice (verdict_on (answer_to i w.ids) choice) refl u inv
reads_old choice (PUBLISH_2 i n dup ∷ rest) w u inv = old_publish_2 i n dup rest w choice (verdict_on (answer_to i w.ids) choice) refl u inv
reads_old choice (PUBREL i ∷ rest) w u inv = old_pubrel i rest w u inv

-- the publisher leaves its line, and may join by another
pub leaves : (w : World) (clean : Bool) → Norm w → Norm (without_line (record w { clean = clean }))
leaves w clean inv = record {
  each = λ j. ((inv.each j).0, same_stage (inv.each j).1 refl (inr refl) (inl refl) (inl refl) refl);
  told = inv.told;
  calm = is_away refl refl refl refl;
  within = inv.within;
  begun = inv.begun;
  olds = inv.olds;
}

gives_up_line : (w : World) → IsOld w.up → Norm w → Norm (record w { link = away; linked = false; up = []; down = []; old = w.up })
gives_up_line w old inv = record {
  each = λ j. let at = (inv.each j).1 in ((inv.each j).0, record { holds = at.holds; of_old = at.of_up; of_up = inl refl; of_down = inl refl; open_is = at.open_is; fits = at.fits });
  told = inv.told;
  calm = is_away refl refl refl refl;
  within = inv.within;
  begun = inv.begun;
  olds = old;
}

asking_old : {l : Link} {c b t : Bool} {up old : List FromPublisher} {down : List ToPublisher} {f : List Fate} → c ≡ false → Calm l c b t up down old f → IsOld up
asking_old e (is_away l b u d) = inl (rw u refl)
asking_old e (is_asking l b u d) = inr (rw u (rw e refl))
asking_old e (is_shut l b u d) = inl (rw u refl)
asking_old e (is_turned code l b u d) = inl (rw u refl)
asking_old e (is_answered present rest l u d q late r t) = inl (rw u refl)
asking_old e (is_live l n late t) = inl n

live_old : {l : Link} {c b t : Bool} {up old : List FromPublisher} {down : List ToPublisher} {f : List Fate} → l ≡ live → Calm l c b t up down old f → IsOld up
live_old e (is_away l b u d) = inl (rw u refl)
live_old e (is_asking l b u d) = let x = sym e ∙ l in absurd (cc)
live_old e (is_shut l b u d) = inl (rw u refl)
live_old e (is_turned code l b u d) = inl (rw u refl)
live_old e (is_answered present rest l u d q late r t) = inl (rw u refl)
live_old e (is_live l n late t) = inl n

-- a publisher that gives up leaves the hop in order
pub gives_up : (l : Link) (c : Bool) (w : World) → w.link ≡ l → w.clean ≡ c → Norm w → Norm (on_give_up l c w)
gives_up away c w l k inv = inv
gives_up asked true w l k inv = inv
gives_up asked false w l k inv = gives_up_line w (asking_old k inv.calm) inv
gives_up live c w l k inv = gives_up_line w (live_old l inv.calm) inv

-- a publisher that connects leaves the hop in order
pub joins : (l : Link) (c : Bool) (w : World) → Norm w → Norm (on_join l c w)
joins away c w inv = record {
  each = λ j. ((inv.each j).0, same_stage (inv.each j).1 refl (inr refl) (inl refl) (inl refl) refl);
  told = inv.told;
  calm = is_asking refl refl refl refl;
  within = inv.within;
  begun = inv.begun;
  olds = inv.olds;
}
joins asked c w inv = inv
joins live c w inv = inv
