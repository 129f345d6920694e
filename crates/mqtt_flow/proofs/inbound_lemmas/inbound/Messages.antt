-- What a packet that the broker reads changes for each identifier and each message.
use Rattle.std.proofs.Common.{◌≡◌, inl, inr, ⊎_elim, ℕ, ◌+◌, ◌≤◌, Bool, true, false, cond, List, [], ◌∷◌, ◌++◌, nat_eq, refl, sym, ap, ◌∙◌, subst, arith, Option, Some, None, slice_get, append-nil, add-zero, zero-add, eqb-true, eq-eqb, true≢false}
use Rattle.std.proofs.lemmas.List.Elements.{filter-append}
use Rattle.std.proofs.lemmas.Grind.{common_steps}
use Rattle.mqtt_flow.specs.declared.inbound.inflow.Published.{Published}
use Rattle.mqtt_flow.specs.declared.inbound.inflow.Published.TheVariants.{New, Again, Over}
use Rattle.mqtt_base.specs.Codes.{is_success}
use Rattle.mqtt_flow.specs.inbound.Identifiers.{is_among, ids_without}
use Rattle.mqtt_flow.specs.inbound.Inbound.{answer_to, open_after}
use Rattle.mqtt_flow.specs.inbound.Line.{sent_on}
use Rattle.mqtt_flow.specs.inbound.Publisher.{Fate, sent_1, ended_1, sent, released, ended, FromPublisher, PUBLISH_1, PUBLISH_2, PUBREL, ToPublisher, PUBACK, PUBREC, PUBCOMP}
use Rattle.mqtt_flow.specs.inbound.InboundWorld.{count_of, Choice, takes, takes_unheard, refuses, accept, refuse, repeat, shut, verdict_on}
use Rattle.mqtt_flow.proofs.inbound_lemmas.Identifiers.{test_cases, same_id, is_among-open_after_same, is_among-open_after_other, is_among-ids_without_same, is_among-ids_without_other}
use Rattle.mqtt_flow.proofs.inbound_lemmas.inbound.Came.{publish_1_came, publish_2_came, pubrel_came}
use Rattle.mqtt_flow.proofs.inbound_lemmas.inbound.Stages.{Mark, for_puback, for_pubrec, for_pubcomp, Stage, acknowledging, receiving, completing, held, ups, downs, down_about, AtMost, At, Told, IsMore, same_stage, more_accepted, by_id}
use Rattle.mqtt_flow.proofs.inbound_lemmas.inbound.Fates.{holder, only, made, Same}

-- one acceptance more counts for its own message alone
pub count_of-push : (m n : ℕ) (accepted : List ℕ) → count_of m (accepted ++ n ∷ []) ≡ count_of m accepted + cond (nat_eq m n) 1 0
count_of-push m n accepted = grind (arith, common_steps)

-- one acceptance more is more
pub more_push : (n : ℕ) (accepted : List ℕ) → IsMore accepted (accepted ++ n ∷ [])
more_push n accepted = λ m. rw (count_of-push m n accepted) (omega arith)

-- a message just accepted was accepted
pub one_push : (n : ℕ) (accepted : List ℕ) → 1 ≤ count_of n (accepted ++ n ∷ [])
one_push n accepted = rw (count_of-push n n accepted, same_id n) (omega arith)

-- another's acceptance does not count
pub same_count : (m n : ℕ) (accepted : List ℕ) → nat_eq m n ≡ false → count_of m (accepted ++ n ∷ []) ≡ count_of m accepted
same_count m n accepted e = count_of-push m n accepted ∙ rw (e, add-zero) refl

-- a PUBLISH that is new found its identifier not open
pub new_is : (i : ℕ) (ids : List ℕ) → answer_to i ids ≡ New → is_among i ids ≡ false
new_is i ids e = grind arith

-- one that comes again opens nothing
pub again_is : (i : ℕ) (ids : List ℕ) → answer_to i ids ≡ Again → open_after i ids ≡ ids
again_is i ids e = rw e refl

-- one above the window opens nothing
pub over_is : (i : ℕ) (ids : List ℕ) → answer_to i ids ≡ Over → open_after i ids ≡ ids
over_is i ids e = rw e refl

-- a packet that the broker sends
pub downs-push : (i : ℕ) (down : List ToPublisher) (p : ToPublisher) → down_about i p ≡ false → downs i (down ++ p ∷ []) ≡ downs i down
downs-push i down p e = rw (filter-append (down_about i) down (p ∷ []), e, append-nil) refl

-- what goes down is none of another identifier's
pub downs-other : (b : Bool) (i : ℕ) (down : List ToPublisher) (p : ToPublisher) → down_about i p ≡ false → downs i (sent_on b down (p ∷ [])) ≡ downs i down
downs-other true i down p e = downs-push i down p e
downs-other false i down p e = refl

-- what goes down of an identifier is that one packet, if there was none
pub downs-same : (b : Bool) (i : ℕ) (down : List ToPublisher) (p : ToPublisher) → down_about i p ≡ true → downs i down ≡ [] → AtMost (downs i (sent_on b down (p ∷ []))) (p ∷ [])
downs-same true i down p e h = inr (rw (filter-append (down_about i) down (p ∷ []), e, h) refl)
downs-same false i down p e h = inl h

-- a line and an old line may change places in what holds of an identifier
pub swap : {i : ℕ} {f : List Fate} {a b : List FromPublisher} {d : List ToPublisher} {o acc : List ℕ} {s : Stage} → At i f a b d o acc s → At i f b a d o acc s
swap at = record { holds = at.holds; of_old = at.of_up; of_up = at.of_old; of_down = at.of_down; open_is = at.open_is; fits = at.fits }

-- by the open identifiers alone
pub told_ids : (f : Option Fate) (c : ℕ) (o o' : List ℕ) → ((k : ℕ) → f ≡ Some (sent k) → is_among k o' ≡ is_among k o) → Told o c f → Told o' c f
told_ids None c o o' g h = h
told_ids (Some (sent_1 k)) c o o' g h = h
told_ids (Some (ended_1 by)) c o o' g h = h
told_ids (Some (sent k)) c o o' g h = rw (g k refl) h
told_ids (Some (released k)) c o o' g h = h
told_ids (Some (ended by)) c o o' g h = h

-- each identifier, whatever lies on the two lines
abbrev pub Each : List Fate → List FromPublisher → List FromPublisher → List ToPublisher → List ℕ → List ℕ → Type 0
Each f a b d o acc = (j : ℕ) → (s : Stage) × At j f a b d o acc s

-- after a PUBLISH of QoS 1 that was answered
pub publish_1_each : (i n code : ℕ) (dup : Bool) (f : List Fate) (a rest : List FromPublisher) (d d' : List ToPublisher) (o acc acc' : List ℕ) → Each f a (PUBLISH_1 i n dup ∷ rest) d o acc → ups i a ≡ [] → IsMore acc acc' → (is_success code ≡ true → 1 ≤ count_of n acc') → (downs i d ≡ [] → AtMost (downs i d') (PUBACK i code ∷ [])) → ((j : ℕ) → nat_eq j i ≡ false → downs j d' ≡ downs j d) → Each f a rest d' o acc'
publish_1_each i n code dup f a rest d d' o acc acc' each none more fits here there j =
    by_id (λ j. (s : Stage) × At j f a rest d' o acc' s) i j
    (let c = publish_1_came (each i).0 (each i).1 in
    (acknowledging n code, record { holds = c.0.holds; of_old = inl none; of_up = inl c.0.of_rest; of_down = here c.0.of_down; open_is = c.1; fits = fits }))
    (λ e. ((each j).0, more_accepted acc' (each j).0 more (same_stage (each j).1 refl (inr refl) (inr (rw e refl)) (inr (there j e)) refl)))

-- after one of QoS 2
pub publish_2_each : (i n code : ℕ) (dup : Bool) (f : List Fate) (a rest : List FromPublisher) (d d' : List ToPublisher) (o o' acc acc' : List ℕ) → Each f a (PUBLISH_2 i n dup ∷ rest) d o acc → ups i a ≡ [] → IsMore acc acc' → is_among i o' ≡ is_success code → ((j : ℕ) → nat_eq j i ≡ false → is_among j o' ≡ is_among j o) → (downs i d ≡ [] → AtMost (downs i d') (PUBREC i code ∷ [])) → ((j : ℕ) → nat_eq j i ≡ false → downs j d' ≡ downs j d) → Each f a rest d' o' acc'
publish_2_each i n code dup f a rest d d' o o' acc acc' each none more is others here there j =
    by_id (λ j. (s : Stage) × At j f a rest d' o' acc' s) i j
    (let c = publish_2_came (each i).0 (each i).1 in
    (receiving n code, record { holds = c.holds; of_old = inl none; of_up = inl c.of_rest; of_down = here c.of_down; open_is = is; fits = tt }))
    (λ e. ((each j).0, more_accepted acc' (each j).0 more (same_stage (each j).1 refl (inr refl) (inr (rw e refl)) (inr (there j e)) (others j e))))

-- and after a PUBREL
pub pubrel_each : (i code : ℕ) (f : List Fate) (a rest : List FromPublisher) (d d' : List ToPublisher) (o acc : List ℕ) → Each f a (PUBREL i ∷ rest) d o acc → ups i a ≡ [] → (downs i d ≡ [] → AtMost (downs i d') (PUBCOMP i code ∷ [])) → ((j : ℕ) → nat_eq j i ≡ false → downs j d' ≡ downs j d) → Each f a rest d' (ids_without i o) acc
pubrel_each i code f a rest d d' o acc each none here there j =
    by_id (λ j. (s : Stage) × At j f a rest d' (ids_without i o) acc s) i j
    (let c = pubrel_came (each i).0 (each i).1 in
    (completing c.0 code, record { holds = c.1.holds; of_old = inl none; of_up = inl c.1.of_rest; of_down = here c.1.of_down; open_is = is_among-ids_without_same i o; fits = tt }))
    (λ e. ((each j).0, same_stage (each j).1 refl (inr refl) (inr (rw e refl)) (inr (there j e)) (is_among-ids_without_other j i o e)))

-- a line that is dropped, with a packet that is about no identifier
pub drop_each : (b : Bool) (p : ToPublisher) (f : List Fate) (a up : List FromPublisher) (d : List ToPublisher) (o o' acc : List ℕ) → ((i : ℕ) → down_about i p ≡ false) → o' ≡ o → Each f a up d o acc → Each f a [] (sent_on b d (p ∷ [])) o' acc
drop_each b p f a up d o o' acc about same each j = ((each j).0, same_stage (each j).1 refl (inr refl) (inl refl) (inr (downs-other b j d p (about j))) (rw same refl))

-- one place has one message
pub same_number : (m n : ℕ) (q r : Mark) → Same (0 + m, q) (n, r) → m ≡ n
same_number m n q r h = sym (zero-add m) ∙ ap (λ x. x.0) h

abbrev pub is_pubrec : Mark → Bool
is_pubrec for_puback = false
is_pubrec for_pubrec = true
is_pubrec for_pubcomp = false

-- no other message is sent under i
pub apart : (i k n m : ℕ) (f : List Fate) → held i 0 f ≡ (n, for_pubrec) ∷ [] → slice_get f m ≡ Some (sent k) → nat_eq m n ≡ false → nat_eq k i ≡ false
apart i k n m f holds g e =
    ⊎_elim
    (λ (same : nat_eq k i ≡ true).
    let g' : slice_get f m ≡ Some (made i for_pubrec) = rw (← eqb-true k i same) g in
    let q = same_number m n for_pubrec for_pubrec (only i 0 n m for_pubrec for_pubrec f holds g') in
    absurd (true≢false (sym (eq-eqb m n q) ∙ e)))
    (λ (h : nat_eq k i ≡ false). h)
    (test_cases (nat_eq k i))

-- if i waits for another packet, none is
pub none_sent : (i k n m : ℕ) (r : Mark) (f : List Fate) → is_pubrec r ≡ false → held i 0 f ≡ (n, r) ∷ [] → slice_get f m ≡ Some (sent k) → nat_eq k i ≡ false
none_sent i k n m r f other holds g =
    ⊎_elim
    (λ (same : nat_eq k i ≡ true).
    let g' : slice_get f m ≡ Some (made i for_pubrec) = rw (← eqb-true k i same) g in
    let q : is_pubrec for_pubrec ≡ is_pubrec r = ap (λ x. is_pubrec x.1) (only i 0 n m r for_pubrec f holds g') in
    absurd (true≢false (q ∙ other)))
    (λ (h : nat_eq k i ≡ false). h)
    (test_cases (nat_eq k i))

abbrev pub AllTold : List ℕ → List ℕ → List Fate → Type 0
AllTold o acc f = (m : ℕ) → Told o (count_of m acc) (slice_get f m)

-- each message, after one of QoS 1 was accepted
pub told_new_1 : (i n : ℕ) (f : List Fate) (o acc : List ℕ) → AllTold o acc f → held i 0 f ≡ (n, for_puback) ∷ [] → AllTold o (acc ++ n ∷ []) f
told_new_1 i n f o acc told holds m =
    by_id (λ m. Told o (count_of m (acc ++ n ∷ [])) (slice_get f m)) n m
    (let h = holder i 0 n for_puback f holds in
    let g : slice_get f n ≡ Some (sent_1 i) = rw (h.1, zero-add) h.2 in
    subst (Told o (count_of n (acc ++ n ∷ []))) (sym g) tt)
    (λ e. rw (same_count m n acc e) (told m))

-- after one of QoS 2 was
pub told_new_2 : (i n : ℕ) (f : List Fate) (o acc : List ℕ) → AllTold o acc f → held i 0 f ≡ (n, for_pubrec) ∷ [] → answer_to i o ≡ New → AllTold (open_after i o) (acc ++ n ∷ []) f
told_new_2 i n f o acc told holds new m =
    by_id (λ m. Told (open_after i o) (count_of m (acc ++ n ∷ [])) (slice_get f m)) n m
    (let h = holder i 0 n for_pubrec f holds in
    let g : slice_get f n ≡ Some (sent i) = rw (h.1, zero-add) h.2 in
    let t : Told o (count_of n acc) (Some (sent i)) = subst (Told o (count_of n acc)) g (told n) in
    let z = new_is i o new in
    let t' : count_of n acc ≡ 0 = rw z at t in
    let y = is_among-open_after_same i o (rw new refl) in
    let c : count_of n (acc ++ n ∷ []) ≡ 1 = rw (count_of-push n n acc, same_id n) (omega arith) in
    subst (Told (open_after i o) (count_of n (acc ++ n ∷ []))) (sym g) (c ∙ rw y refl))
    (λ e.
    let p = same_count m n acc e in
    rw p (told_ids (slice_get f m) (count_of m acc) o (open_after i o) (λ k g. is_among-open_after_other k i o (apart i k n m f holds g e)) (told m)))

-- a PUBREL that is read leaves what is told of all messages true
pub told_release : (i n : ℕ) (f : List Fate) (o acc : List ℕ) → AllTold o acc f → held i 0 f ≡ (n, for_pubcomp) ∷ [] → AllTold (ids_without i o) acc f
told_release i n f o acc told holds m = told_ids (slice_get f m) (count_of m acc) o (ids_without i o) (λ k g. is_among-ids_without_other k i o (none_sent i k n m for_pubcomp f refl holds g)) (told m)

-- what the broker decided
pub accept_is : (a : Published) (c : Choice) (code : ℕ) → verdict_on a c ≡ accept code → (a ≡ New) × (is_success code ≡ true)
accept_is New takes code e = let q : code ≡ 0 = cc in (refl, rw q refl)
accept_is New takes_unheard code e = let q : code ≡ 16 = cc in (refl, rw q refl)
accept_is New refuses code e = absurd (cc)
accept_is Again c code e = absurd (cc)
accept_is Over c code e = absurd (cc)

-- only a new PUBLISH is refused
pub refuse_is : (a : Published) (c : Choice) → verdict_on a c ≡ refuse → a ≡ New
refuse_is New takes e = absurd (cc)
refuse_is New takes_unheard e = absurd (cc)
refuse_is New refuses e = refl
refuse_is Again c e = absurd (cc)
refuse_is Over c e = absurd (cc)

-- only one that comes again is answered again
pub repeat_is : (a : Published) (c : Choice) → verdict_on a c ≡ repeat → a ≡ Again
repeat_is New takes e = absurd (cc)
repeat_is New takes_unheard e = absurd (cc)
repeat_is New refuses e = absurd (cc)
repeat_is Again c e = refl
repeat_is Over c e = absurd (cc)

-- only one above the window closes the line
pub shut_is : (a : Published) (c : Choice) → verdict_on a c ≡ shut → a ≡ Over
shut_is New takes e = absurd (cc)
shut_is New takes_unheard e = absurd (cc)
shut_is New refuses e = absurd (cc)
shut_is Again c e = absurd (cc)
shut_is Over c e = refl
