-- What the broker reads keeps the invariant.
use Rattle.std.proofs.Common.{◌≡◌, inl, inr, ℕ, Bool, true, false, List, [], ◌∷◌, ◌++◌, refl, sym, ◌∙◌, subst, arith, Option, Some, None, slice_get, true≢false}
use Rattle.std.specs.List.{list_any}
use Rattle.mqtt_base.specs.Codes.{success, identifier_in_use, identifier_not_found, receive_maximum_exceeded, quota_exceeded, is_success}
use Rattle.mqtt_flow.specs.declared.inbound.inflow.ReleaseAnswer.{ReleaseAnswer}
use Rattle.mqtt_flow.specs.declared.inbound.inflow.ReleaseAnswer.TheVariants.{Known, Unknown}
use Rattle.mqtt_flow.specs.inbound.Identifiers.{ids_without}
use Rattle.mqtt_flow.specs.inbound.Inbound.{answer_to, open_after, answer_to_release}
use Rattle.mqtt_flow.specs.inbound.Line.{Link, asked, live, sent_on}
use Rattle.mqtt_flow.specs.inbound.Publisher.{Fate, sent_1, ended_1, sent, released, ended, FromPublisher, CONNECT, PUBLISH_1, PUBLISH_2, PUBREL, ToPublisher, CONNACK, PUBACK, PUBREC, PUBCOMP, DISCONNECT}
use Rattle.mqtt_flow.specs.inbound.InboundWorld.{World, count_of, Choice, takes, takes_unheard, refuses, Verdict, accept, refuse, repeat, shut, verdict_on, answer_to_pubrel, on_publish_1, on_publish_2, spared, on_connect, broker_reads}
use Rattle.mqtt_flow.proofs.inbound_lemmas.Identifiers.{same_id, is_among-open_after_same, is_among-open_after_other, length-open_after, length-ids_without}
use Rattle.mqtt_flow.proofs.inbound_lemmas.inbound.Came.{publish_1_came, publish_2_came, pubrel_came}
use Rattle.mqtt_flow.proofs.inbound_lemmas.inbound.Stages.{ups, AtMost, Told, Weak, Calm, is_away, is_asking, is_shut, is_turned, is_answered, is_live, IsOld, IsLate, is_connect, Norm, Good, blank_answered, same_stage}
use Rattle.mqtt_flow.proofs.inbound_lemmas.inbound.Messages.{Each, more_push, one_push, new_is, again_is, over_is, downs-other, downs-same, publish_1_each, publish_2_each, pubrel_each, drop_each, told_new_1, told_new_2, told_release, accept_is, refuse_is, repeat_is, shut_is}

-- what holds of a session that stands
pub absent : {A : Type 0} {t : Bool} → t ≡ true → t ≡ false → A
absent e h = absurd (true≢false (sym e ∙ h))

-- the line that was given up
pub late_ups : {old : List FromPublisher} (i : ℕ) → IsLate old → ups i old ≡ []
late_ups i (inl e) = rw e refl
late_ups i (inr e) = rw e refl

-- what is late on an old line is what an old line may have
pub late_is_old : {old : List FromPublisher} → IsLate old → IsOld old
late_is_old (inl e) = inl (rw e refl)
late_is_old (inr e) = inr e

spared_ups : (i : ℕ) (old : List FromPublisher) → AtMost (ups i (spared old)) (ups i old)
spared_ups i [] = inr refl
spared_ups i (CONNECT clean ∷ rest) = inr refl
spared_ups i (PUBLISH_1 j n dup ∷ rest) = inl refl
spared_ups i (PUBLISH_2 j n dup ∷ rest) = inl refl
spared_ups i (PUBREL j ∷ rest) = inl refl

-- what a takeover spares of an old line is late
pub late_spared : (old : List FromPublisher) → IsOld old → IsLate (spared old)
late_spared [] h = inl refl
late_spared (CONNECT clean ∷ rest) (inl h) = absurd (cc)
late_spared (CONNECT clean ∷ rest) (inr h) = inr h
late_spared (PUBLISH_1 j n dup ∷ rest) h = inl refl
late_spared (PUBLISH_2 j n dup ∷ rest) h = inl refl
late_spared (PUBREL j ∷ rest) h = inl refl

-- a packet that is no CONNECT is none
pub no_connect : {A : Type 0} (p : FromPublisher) (c : Bool) → p ≡ CONNECT c → is_connect p ≡ false → A
no_connect p c e h = let r : is_connect (CONNECT c) ≡ false = subst (λ p. is_connect p ≡ false) e h in absurd (cc)

-- an old line may have what is behind a packet of it
pub old_rest : (p : FromPublisher) (rest : List FromPublisher) → is_connect p ≡ false → IsOld (p ∷ rest) → IsOld rest
old_rest p rest e (inl h) = inl (rw e at h)
old_rest p rest e (inr h) = let q : p ≡ CONNECT false = cc in no_connect p false q e

-- behind a CONNECT an old line has nothing
pub old_connect : (clean : Bool) (rest : List FromPublisher) → IsOld (CONNECT clean ∷ rest) → (clean ≡ false) × (rest ≡ [])
old_connect clean rest (inl h) = absurd (cc)
old_connect clean rest (inr h) = (cc, cc)

-- a packet other than CONNECT is read from the line of a publisher that has read CONNACK
record IsLive (link : Link) (stands : Bool) (rest old : List FromPublisher) : Type 0 where
  at_line : link ≡ live
  plain : list_any is_connect rest ≡ false
  late : IsLate old
  begun : stands ≡ true

calm_up : {l : Link} {c b t : Bool} {p : FromPublisher} {rest old : List FromPublisher} {down : List ToPublisher} {f : List Fate} → is_connect p ≡ false → Calm l c b t (p ∷ rest) down old f → IsLive l t rest old
calm_up e (is_away l b u d) = absurd (cc)
calm_up {c = c} {p = p} e (is_asking l b u d) = let q : p ≡ CONNECT c = cc in no_connect p c q e
calm_up e (is_shut l b u d) = absurd (cc)
calm_up e (is_turned code l b u d) = absurd (cc)
calm_up e (is_answered present rest l u d q late r t) = absurd (cc)
calm_up e (is_live l n late t) = record { at_line = l; plain = rw e at n; late = late; begun = t }

calm_up_of : (w : World) {p : FromPublisher} {rest : List FromPublisher} → w.up ≡ p ∷ rest → is_connect p ≡ false → Norm w → IsLive w.link w.stands rest w.old
calm_up_of w u e inv = calm_up e (subst (λ up. Calm w.link w.clean w.linked w.stands up w.down w.old w.fates) u inv.calm)

up_each : (w : World) (up : List FromPublisher) → w.up ≡ up → Norm w → Each w.fates w.old up w.down w.ids w.accepted
up_each w up u inv = subst (λ up. Each w.fates w.old up w.down w.ids w.accepted) u inv.each

-- PUBLISH of QoS 1
up_answered_1 : (i n code : ℕ) (dup : Bool) (rest : List FromPublisher) (w : World) → is_success code ≡ false → w.up ≡ PUBLISH_1 i n dup ∷ rest → Norm w → Norm (record w { up = rest; down = sent_on w.linked w.down (PUBACK i code ∷ []) })
up_answered_1 i n code dup rest w failed u inv =
    let line = calm_up_of w u refl inv in
    record {
      each = publish_1_each i n code dup w.fates w.old rest w.down (sent_on w.linked w.down (PUBACK i code ∷ [])) w.ids w.accepted w.accepted (up_each w (PUBLISH_1 i n dup ∷ rest) u inv) (late_ups i line.late) (λ m. omega arith) (λ e. absurd (true≢false (sym e ∙ failed))) (λ h. downs-same w.linked i w.down (PUBACK i code) (same_id i) h) (λ j h. downs-other w.linked j w.down (PUBACK i code) h);
      told = inv.told;
      calm = is_live line.at_line line.plain line.late line.begun;
      within = inv.within;
      begun = inv.begun;
      olds = inv.olds;
    }

-- one above the Receive Maximum
up_shut : (w : World) (ids' : List ℕ) (p : FromPublisher) (rest : List FromPublisher) → ids' ≡ w.ids → is_connect p ≡ false → w.up ≡ p ∷ rest → Norm w → Norm (record w { up = []; down = sent_on w.linked w.down (DISCONNECT receive_maximum_exceeded ∷ []); linked = false; ids = ids' })
up_shut w ids' p rest same e u inv =
    let line = calm_up_of w u e inv in
    record {
      each = drop_each w.linked (DISCONNECT receive_maximum_exceeded) w.fates w.old w.up w.down w.ids ids' w.accepted (λ i. refl) same inv.each;
      told = λ m. rw same (inv.told m);
      calm = is_live line.at_line refl line.late line.begun;
      within = rw same inv.within;
      begun = absent line.begun;
      olds = inv.olds;
    }

up_publish_1 : (i n : ℕ) (dup : Bool) (rest : List FromPublisher) (w : World) (choice : Choice) (verdict : Verdict) → verdict_on (answer_to i w.ids) choice ≡ verdict → w.up ≡ PUBLISH_1 i n dup ∷ rest → Norm w → Norm (on_publish_1 verdict i n rest w)
up_publish_1 i n dup rest w choice (accept code) e u inv =
    let line = calm_up_of w u refl inv in
    let each = up_each w (PUBLISH_1 i n dup ∷ rest) u inv in
    let c = publish_1_came (each i).0 (each i).1 in
    record {
      each = publish_1_each i n code dup w.fates w.old rest w.down (sent_on w.linked w.down (PUBACK i code ∷ [])) w.ids w.accepted (w.accepted ++ n ∷ []) each (late_ups i line.late) (more_push n w.accepted) (λ _. one_push n w.accepted) (λ h. downs-same w.linked i w.down (PUBACK i code) (same_id i) h) (λ j h. downs-other w.linked j w.down (PUBACK i code) h);
      told = told_new_1 i n w.fates w.ids w.accepted inv.told c.0.holds;
      calm = is_live line.at_line line.plain line.late line.begun;
      within = inv.within;
      begun = inv.begun;
      olds = inv.olds;
    }
up_publish_1 i n dup rest w choice refuse e u inv = up_answered_1 i n quota_exceeded dup rest w refl u inv
up_publish_1 i n dup rest w choice repeat e u inv = up_answered_1 i n identifier_in_use dup rest w refl u inv
up_publish_1 i n dup rest w choice shut e u inv = up_shut w w.ids (PUBLISH_1 i n dup) rest refl refl u inv

-- PUBLISH of QoS 2
up_publish_2 : (i n : ℕ) (dup : Bool) (rest : List FromPublisher) (w : World) (choice : Choice) (verdict : Verdict) → verdict_on (answer_to i w.ids) choice ≡ verdict → w.up ≡ PUBLISH_2 i n dup ∷ rest → Norm w → Norm (on_publish_2 verdict i n rest w)
up_publish_2 i n dup rest w choice (accept code) e u inv =
    let line = calm_up_of w u refl inv in
    let each = up_each w (PUBLISH_2 i n dup ∷ rest) u inv in
    let c = publish_2_came (each i).0 (each i).1 in
    let new = accept_is (answer_to i w.ids) choice code e in
    record {
      each = publish_2_each i n code dup w.fates w.old rest w.down (sent_on w.linked w.down (PUBREC i code ∷ [])) w.ids (open_after i w.ids) w.accepted (w.accepted ++ n ∷ []) each (late_ups i line.late) (more_push n w.accepted) (is_among-open_after_same i w.ids (rw new.0 refl) ∙ sym new.1) (λ j h. is_among-open_after_other j i w.ids h) (λ h. downs-same w.linked i w.down (PUBREC i code) (same_id i) h) (λ j h. downs-other w.linked j w.down (PUBREC i code) h);
      told = told_new_2 i n w.fates w.ids w.accepted inv.told c.holds new.0;
      calm = is_live line.at_line line.plain line.late line.begun;
      within = length-open_after i w.ids inv.within;
      begun = absent line.begun;
      olds = inv.olds;
    }
up_publish_2 i n dup rest w choice refuse e u inv =
    let line = calm_up_of w u refl inv in
    let new = refuse_is (answer_to i w.ids) choice e in
    record {
      each = publish_2_each i n quota_exceeded dup w.fates w.old rest w.down (sent_on w.linked w.down (PUBREC i quota_exceeded ∷ [])) w.ids w.ids w.accepted w.accepted (up_each w (PUBLISH_2 i n dup ∷ rest) u inv) (late_ups i line.late) (λ m. omega arith) (new_is i w.ids new) (λ j h. refl) (λ h. downs-same w.linked i w.down (PUBREC i quota_exceeded) (same_id i) h) (λ j h. downs-other w.linked j w.down (PUBREC i quota_exceeded) h);
      told = inv.told;
      calm = is_live line.at_line line.plain line.late line.begun;
      within = inv.within;
      begun = inv.begun;
      olds = inv.olds;
    }
up_publish_2 i n dup rest w choice repeat e u inv =
    let line = calm_up_of w u refl inv in
    let again = repeat_is (answer_to i w.ids) choice e in
    let same = again_is i w.ids again in
    record {
      each = publish_2_each i n success dup w.fates w.old rest w.down (sent_on w.linked w.down (PUBREC i success ∷ [])) w.ids (open_after i w.ids) w.accepted w.accepted (up_each w (PUBLISH_2 i n dup ∷ rest) u inv) (late_ups i line.late) (λ m. omega arith) (is_among-open_after_same i w.ids (rw again refl)) (λ j h. is_among-open_after_other j i w.ids h) (λ h. downs-same w.linked i w.down (PUBREC i success) (same_id i) h) (λ j h. downs-other w.linked j w.down (PUBREC i success) h);
      told = λ m. rw same (inv.told m);
      calm = is_live line.at_line line.plain line.late line.begun;
      within = length-open_after i w.ids inv.within;
      begun = absent line.begun;
      olds = inv.olds;
    }
up_publish_2 i n dup rest w choice shut e u inv =
    let over = shut_is (answer_to i w.ids) choice e in
    up_shut w (open_after i w.ids) (PUBLISH_2 i n dup) rest (over_is i w.ids over) refl u inv

-- PUBREL
up_pubrel : (i : ℕ) (rest : List FromPublisher) (w : World) (code : ℕ) → w.up ≡ PUBREL i ∷ rest → Norm w → Norm (record w { up = rest; down = sent_on w.linked w.down (PUBCOMP i code ∷ []); ids = ids_without i w.ids })
up_pubrel i rest w code u inv =
    let line = calm_up_of w u refl inv in
    let each = up_each w (PUBREL i ∷ rest) u inv in
    let c = pubrel_came (each i).0 (each i).1 in
    record {
      each = pubrel_each i code w.fates w.old rest w.down (sent_on w.linked w.down (PUBCOMP i code ∷ [])) w.ids w.accepted each (late_ups i line.late) (λ h. downs-same w.linked i w.down (PUBCOMP i code) (same_id i) h) (λ j h. downs-other w.linked j w.down (PUBCOMP i code) h);
      told = told_release i c.0 w.fates w.ids w.accepted inv.told c.1.holds;
      calm = is_live line.at_line line.plain line.late line.begun;
      within = length-ids_without i w.ids inv.within;
      begun = absent line.begun;
      olds = inv.olds;
    }

up_known : (i : ℕ) (rest : List FromPublisher) (w : World) (k : ReleaseAnswer) → w.up ≡ PUBREL i ∷ rest → Norm w → Norm (record w { up = rest; down = sent_on w.linked w.down (answer_to_pubrel k i ∷ []); ids = ids_without i w.ids })
up_known i rest w Known u inv = up_pubrel i rest w success u inv
up_known i rest w Unknown u inv = up_pubrel i rest w identifier_not_found u inv

-- CONNECT: the session is resumed, is begun anew, is begun, or is not begun
record IsAsking (link : Link) (of_line clean linked : Bool) (rest : List FromPublisher) (down : List ToPublisher) : Type 0 where
  at_line : link ≡ asked
  of_clean : clean ≡ of_line
  unlinked : linked ≡ false
  of_rest : rest ≡ []
  of_down : down ≡ []

calm_connect : {l : Link} {k c b t : Bool} {rest old : List FromPublisher} {down : List ToPublisher} {f : List Fate} → Calm l c b t (CONNECT k ∷ rest) down old f → IsAsking l k c b rest down
calm_connect (is_away l b u d) = absurd (cc)
calm_connect {k = k} {c = c} (is_asking l b u d) = let q : CONNECT k ≡ CONNECT c = cc in record { at_line = l; of_clean = cc; unlinked = b; of_rest = cc; of_down = d }
calm_connect (is_shut l b u d) = absurd (cc)
calm_connect (is_turned code l b u d) = absurd (cc)
calm_connect (is_answered present rest l u d q late r t) = absurd (cc)
calm_connect (is_live l n late t) = absurd (cc)

-- what is told of a message may be told in part
pub weaken : (o : List ℕ) (c : ℕ) (f : Option Fate) → Told o c f → Weak c f
weaken o c None t = t
weaken o c (Some (sent_1 i)) t = t
weaken o c (Some (ended_1 by)) t = t
weaken o c (Some (sent i)) t = grind arith
weaken o c (Some (released i)) t = omega arith
weaken o c (Some (ended by)) t = t

begins : (w : World) (rest : List FromPublisher) → w.stands ≡ false → w.link ≡ asked → rest ≡ [] → w.down ≡ [] → Norm w → Norm (record w { up = rest; old = spared w.old; linked = true; stands = true; ids = []; down = w.down ++ CONNACK false ∷ [] })
begins w rest t l r d inv =
    let b = inv.begun t in
    record {
      each = λ j. ((inv.each j).0, same_stage (inv.each j).1 refl (spared_ups j w.old) (inl (rw r refl)) (inl (rw d refl)) (rw b.1 refl));
      told = λ m. rw b.1 at (inv.told m);
      calm = is_answered false [] l r (rw d refl) tt (late_spared w.old inv.olds) (inr b.0) refl;
      within = omega arith;
      begun = λ e. absurd (cc);
      olds = late_is_old (late_spared w.old inv.olds);
    }

connects : (stands clean : Bool) (choice : Choice) (rest : List FromPublisher) (w : World) → w.stands ≡ stands → w.clean ≡ clean → w.link ≡ asked → w.linked ≡ false → rest ≡ [] → w.down ≡ [] → Norm w → Good (on_connect stands clean choice rest w)
connects true false choice rest w t c l b r d inv = inl (record {
  each = λ j. ((inv.each j).0, same_stage (inv.each j).1 refl (spared_ups j w.old) (inl (rw r refl)) (inl (rw d refl)) refl);
  told = inv.told;
  calm = is_answered true [] l r (rw d refl) tt (late_spared w.old inv.olds) (inl refl) t;
  within = inv.within;
  begun = absent t;
  olds = late_is_old (late_spared w.old inv.olds);
})
connects true true choice rest w t c l b r d inv = inr (record {
  of_ids = refl;
  late = late_spared w.old inv.olds;
  lines = blank_answered [] l r (rw d refl) tt;
  weak = λ m. weaken w.ids (count_of m w.accepted) (slice_get w.fates m) (inv.told m);
  pending = c;
  begun = t;
})
connects false clean takes rest w t c l b r d inv = inl (begins w rest t l r d inv)
connects false clean takes_unheard rest w t c l b r d inv = inl (begins w rest t l r d inv)
connects false clean refuses rest w t c l b r d inv = inl (record {
  each = λ j. ((inv.each j).0, same_stage (inv.each j).1 refl (inr refl) (inl (rw r refl)) (inl (rw d refl)) refl);
  told = inv.told;
  calm = is_turned quota_exceeded l b r (rw d refl);
  within = inv.within;
  begun = inv.begun;
  olds = inv.olds;
})

-- the broker's reading of what the publisher sent leaves the hop in order
pub reads_up : (choice : Choice) (up : List FromPublisher) (w : World) → w.up ≡ up → Norm w → Good (broker_reads choice up w)
reads_up choice [] w u inv = inl inv
reads_up choice (CONNECT clean ∷ rest) w u inv =
    let c = calm_connect (subst (λ up. Calm w.link w.clean w.linked w.stands up w.down w.old w.fates) u inv.calm) in
    connects w.stands clean choice rest w refl c.of_clean c.at_line c.unlinked c.of_rest c.of_down inv
reads_up choice (PUBLISH_1 i n dup ∷ rest) w u inv = inl (up_publish_1 i n dup rest w choice (verdict_on (answer_to i w.ids) choice) refl u inv)
reads_up choice (PUBLISH_2 i n dup ∷ rest) w u inv = inl (up_publish_2 i n dup rest w choice (verdict_on (answer_to i w.ids) choice) refl u inv)
reads_up choice (PUBREL i ∷ rest) w u inv = inl (up_known i rest w (answer_to_release i w.ids) u inv)
