-- The answers of a receiver, seen from the copies.
use Rattle.std.proofs.Common.{◌≡◌, ⊎_elim, ℕ, suc, ◌≤◌, ◌+◌, Bool, true, false, List, [], ◌∷◌, ◌++◌, length, map, nat_eq, nat_lt, if◌then◌else◌, refl, sym, ap, subst, ◌∙◌, arith, Some, None, Ok, Err, append-nil, eqb-true}
use Rattle.std.proofs.lemmas.Bool.Decides.{nat_tests}
use Rattle.mqtt_base.specs.Codes.{identifier_not_found}
use Rattle.mqtt_base.specs.declared.Ending.{Ending}
use Rattle.mqtt_base.specs.declared.Ending.TheVariants.{Taken, Refused, TooLarge}
use Rattle.mqtt_base.specs.declared.Qos.{Qos}
use Rattle.mqtt_base.specs.declared.Qos.TheVariants.{AtMostOnce, AtLeastOnce, ExactlyOnce}
use Rattle.mqtt_base.specs.declared.Phase.{Phase}
use Rattle.mqtt_base.specs.declared.Phase.TheVariants.{Waiting, Sent, Released, Oversize}
use Rattle.mqtt_flow.specs.declared.outbound.entry.Entry.{Entry}
use Rattle.mqtt_flow.specs.declared.outbound.entry.Turn.{Turn}
use Rattle.mqtt_flow.specs.declared.outbound.entry.Turn.TheVariants.{Send, Resend, Release, Outgrow, Repeat, Unknown, Leave}
use Rattle.mqtt_flow.specs.declared.inbound.fault.FlowFault.TheVariants.{WrongStep}
use Rattle.mqtt_flow.specs.outbound.Queue.{Ascends, holder, is_holder, next_order}
use Rattle.mqtt_flow.specs.outbound.Outbound as rules
use Rattle.mqtt_flow.specs.outbound.Outbound.{is_refusal, ending_by}
use Rattle.mqtt_flow.specs.inbound.Line.{sent_on}
use Rattle.mqtt_flow.specs.outbound.Receiver.{Body, Output, pubrel, Answer}
use Rattle.mqtt_flow.proofs.outbound_lemmas.outbound.Lives.{Life, waiting, Mark, in_flight, ended, find, answered, on_puback, on_pubrec, on_pubcomp, Turn as Course, Reply, wrong, says, puback_reply, pubrec_reply, pubcomp_reply}
use Rattle.mqtt_flow.proofs.outbound_lemmas.outbound.LivesWorld as lives
use Rattle.mqtt_flow.specs.outbound.OutboundWorld.{TopicAndPayload, Lot, standing, past, queue_of, World, body, lot_after, lots_after, packets, told, replied, replied_old}
use Rattle.mqtt_flow.proofs.inbound_lemmas.Identifiers.{test_cases, same_id}
use Rattle.mqtt_flow.proofs.outbound_lemmas.outbound.Stages.{holding, held}
use Rattle.mqtt_flow.proofs.outbound_lemmas.outbound.SessionLives.{life, life_by, seen, life-append, IsAt, split-after, placed-after}
use Rattle.mqtt_flow.proofs.outbound_lemmas.outbound.SessionQueues.{IsGranted, Fit, AllFit, fit_here, Sound, left}

-- where the copy with an identifier stands
pub data Found (i : ℕ) (ls : List Lot) : Type 0 where
  absent : holder i (queue_of ls) ≡ None → find i (map life ls) ≡ None → ((g : Mark → Body → Course) → map (answered i g) (map life ls) ≡ map life ls) → Found i ls
  present : (xs : List Lot) (e : Entry) (m : TopicAndPayload) (ys : List Lot) → ls ≡ xs ++ standing e m ∷ ys → holder i (queue_of ls) ≡ Some e → is_holder i e.phase ≡ true → find i (map life ls) ≡ find i (life (standing e m) ∷ map life ys) → ((g : Mark → Body → Course) → map (answered i g) (map life xs) ≡ map life xs) → Found i ls

skip_find : (i : ℕ) (phase : Phase) (here : Bool) (b : Body) (fs : List Life) → is_holder i phase ≡ false → find i (life_by phase here b ∷ fs) ≡ find i fs
skip_find i Waiting here b fs h = refl
skip_find i (Sent j) here b fs h = let o : nat_eq i j ≡ false = grind (arith, nat_tests) in rw o refl
skip_find i (Released j order) here b fs h = let o : nat_eq i j ≡ false = grind (arith, nat_tests) in rw o refl
skip_find i (Oversize j order) here b fs h = let o : nat_eq i j ≡ false = grind (arith, nat_tests) in rw o refl

skip_answer : (i : ℕ) (g : Mark → Body → Course) (phase : Phase) (here : Bool) (b : Body) → is_holder i phase ≡ false → answered i g (life_by phase here b) ≡ life_by phase here b
skip_answer i g Waiting here b h = refl
skip_answer i g (Sent j) here b h = let o : nat_eq i j ≡ false = grind (arith, nat_tests) in rw o refl
skip_answer i g (Released j order) here b h = let o : nat_eq i j ≡ false = grind (arith, nat_tests) in rw o refl
skip_answer i g (Oversize j order) here b h = let o : nat_eq i j ≡ false = grind (arith, nat_tests) in rw o refl

found_past : (i : ℕ) (x : Ending) (e : Entry) (m : TopicAndPayload) (ls : List Lot) → Found i ls → Found i (past x e m ∷ ls)
found_past i x e m ls (absent h f c) = absent h f (λ g. ap (λ fs. ended x (body e m) ∷ fs) (c g))
found_past i x e m ls (present xs d n ys q h own f c) = present (past x e m ∷ xs) d n ys (ap (λ zs. past x e m ∷ zs) q) h own f (λ g. ap (λ fs. ended x (body e m) ∷ fs) (c g))

found_other : (i : ℕ) (e : Entry) (m : TopicAndPayload) (ls : List Lot) → is_holder i e.phase ≡ false → Found i ls → Found i (standing e m ∷ ls)
found_other i e m ls o (absent h f c) = absent (rw o h) (skip_find i e.phase e.here (body e m) (map life ls) o ∙ f)
    (λ g. ap (λ l. l ∷ map (answered i g) (map life ls)) (skip_answer i g e.phase e.here (body e m) o) ∙ ap (λ fs. life (standing e m) ∷ fs) (c g))
found_other i e m ls o (present xs d n ys q h own f c) = present (standing e m ∷ xs) d n ys (ap (λ zs. standing e m ∷ zs) q) (rw o h) own (skip_find i e.phase e.here (body e m) (map life ls) o ∙ f)
    (λ g. ap (λ l. l ∷ map (answered i g) (map life xs)) (skip_answer i g e.phase e.here (body e m) o) ∙ ap (λ fs. life (standing e m) ∷ fs) (c g))

found : (i : ℕ) (ls : List Lot) → Found i ls
found i [] = absent refl refl (λ g. refl)
found i (past x e m ∷ ls) = found_past i x e m ls (found i ls)
found i (standing e m ∷ ls) = ⊎_elim
    (λ (t : is_holder i e.phase ≡ true). present [] e m ls refl (rw t refl) t refl (λ g. refl))
    (λ (t : is_holder i e.phase ≡ false). found_other i e m ls t (found i ls))
    (test_cases (is_holder i e.phase))

-- no other copy behind it has that identifier
abbrev pub Unique : ℕ → World → Type 0
Unique i w = length (held i 0 (map life w.copies)) ≤ 1

holding_one : (i k : ℕ) (phase : Phase) (here : Bool) (b : Body) → is_holder i phase ≡ true → length (holding i k (life_by phase here b)) ≡ 1
holding_one i k Waiting here b h = absurd (cc)
holding_one i k (Sent j) here b h = let o : nat_eq i j ≡ true = grind (arith, nat_tests) in rw o refl
holding_one i k (Released j order) here b h = let o : nat_eq i j ≡ true = grind (arith, nat_tests) in rw o refl
holding_one i k (Oversize j order) here b h = let o : nat_eq i j ≡ true = grind (arith, nat_tests) in rw o refl

length-both : {X : Type 0} (xs ys : List X) → length (xs ++ ys) ≡ length xs + length ys
length-both [] ys = omega arith
length-both (x ∷ xs) ys = let r = length-both xs ys in omega arith

empty : {X : Type 0} (xs : List X) → length xs ≤ 0 → xs ≡ []
empty [] h = refl
empty (x ∷ xs) h = absurd (omega arith)

unheld : (i k : ℕ) (g : Mark → Body → Course) (fs : List Life) → held i k fs ≡ [] → map (answered i g) fs ≡ fs
unheld i k g [] h = refl
unheld i k g (waiting b ∷ fs) h = ap (λ zs. waiting b ∷ zs) (unheld i (suc k) g fs h)
unheld i k g (ended x b ∷ fs) h = ap (λ zs. ended x b ∷ zs) (unheld i (suc k) g fs h)
unheld i k g (in_flight j q b ∷ fs) h = ⊎_elim
    (λ (t : nat_eq i j ≡ true). let h' = rw t at h in absurd (cc))
    (λ (t : nat_eq i j ≡ false). rw t (ap (λ zs. in_flight j q b ∷ zs) (unheld i (suc k) g fs (rw t at h))))
    (test_cases (nat_eq i j))

behind : (i k : ℕ) (g : Mark → Body → Course) (xs : List Lot) (e : Entry) (m : TopicAndPayload) (ys : List Lot) → is_holder i e.phase ≡ true → length (held i k (map life (xs ++ standing e m ∷ ys))) ≤ 1 → map (answered i g) (map life ys) ≡ map life ys
behind i k g [] e m ys own h =
    let one = holding_one i k e.phase e.here (body e m) own in
    let both = length-both (holding i k (life (standing e m))) (held i (suc k) (map life ys)) in
    unheld i (suc k) g (map life ys) (empty (held i (suc k) (map life ys)) (omega arith))
behind i k g (x ∷ xs) e m ys own h =
    let both = length-both (holding i k (life x)) (held i (suc k) (map life (xs ++ standing e m ∷ ys))) in
    behind i (suc k) g xs e m ys own (omega arith)

answered-append : (i : ℕ) (g : Mark → Body → Course) (fs gs : List Life) → map (answered i g) (fs ++ gs) ≡ map (answered i g) fs ++ map (answered i g) gs
answered-append i g [] gs = refl
answered-append i g (f ∷ fs) gs = ap (λ zs. answered i g f ∷ zs) (answered-append i g fs gs)

-- so an answer moves that copy alone
moves : (i : ℕ) (g : Mark → Body → Course) (xs : List Lot) (e : Entry) (m : TopicAndPayload) (ys ls : List Lot) (f : Life) → ls ≡ xs ++ standing e m ∷ ys → map (answered i g) (map life xs) ≡ map life xs → map (answered i g) (map life ys) ≡ map life ys → answered i g (life (standing e m)) ≡ f → map (answered i g) (map life ls) ≡ map life xs ++ f ∷ map life ys
moves i g xs e m ys ls f q before behind one =
    ap (λ k. map (answered i g) (map life k)) q
    ∙ ap (map (answered i g)) (life-append xs (standing e m ∷ ys))
    ∙ answered-append i g (map life xs) (life (standing e m) ∷ map life ys)
    ∙ ap (λ fs. fs ++ (answered i g (life (standing e m)) ∷ map (answered i g) (map life ys))) before
    ∙ ap (λ k. map life xs ++ (k ∷ map (answered i g) (map life ys))) one
    ∙ ap (λ fs. map life xs ++ (f ∷ fs)) behind

settled : (i : ℕ) (g : Mark → Body → Course) (t : Turn) (xs : List Lot) (e : Entry) (m : TopicAndPayload) (ys ls : List Lot) (k : Lot) → ls ≡ xs ++ standing e m ∷ ys → Ascends (queue_of ls) → IsAt e.place t → lot_after t (standing e m) ≡ k → map (answered i g) (map life xs) ≡ map life xs → map (answered i g) (map life ys) ≡ map life ys → answered i g (life (standing e m)) ≡ life k → map (answered i g) (map life ls) ≡ map life (lots_after t ls)
settled i g t xs e m ys ls k q h at made before behind one =
    moves i g xs e m ys ls (life k) q before behind one
    ∙ sym (ap (map life) (ap (lots_after t) q ∙ split-after t xs e m ys (subst (λ z. Ascends (queue_of z)) q h) at ∙ ap (λ z. xs ++ z ∷ ys) made) ∙ life-append xs (k ∷ ys))

unmoved : (i : ℕ) (g : Mark → Body → Course) (xs : List Lot) (e : Entry) (m : TopicAndPayload) (ys ls : List Lot) → ls ≡ xs ++ standing e m ∷ ys → map (answered i g) (map life xs) ≡ map life xs → map (answered i g) (map life ys) ≡ map life ys → answered i g (life (standing e m)) ≡ life (standing e m) → map (answered i g) (map life ls) ≡ map life ls
unmoved i g xs e m ys ls q before behind one =
    moves i g xs e m ys ls (life (standing e m)) q before behind one ∙ sym (ap (map life) q ∙ life-append xs (standing e m ∷ ys))

same_lots : (t : Turn) → ((e : Entry) (m : TopicAndPayload) → lot_after t (standing e m) ≡ standing e m) → (ls : List Lot) → lots_after t ls ≡ ls
same_lots t h [] = refl
same_lots t h (past x e m ∷ ls) = ap (λ zs. past x e m ∷ zs) (same_lots t h ls)
same_lots t h (standing e m ∷ ls) = rw (h e m) (ap (λ zs. standing e m ∷ zs) (same_lots t h ls))

-- turns that send no PUBLISH
abbrev pub Sendless : Turn → Type 0
Sendless (Send p i) = ⊥
Sendless (Resend p i) = ⊥
Sendless (Release p i order) = Unit {0}
Sendless (Outgrow p i order) = Unit {0}
Sendless (Repeat i) = Unit {0}
Sendless (Unknown i) = Unit {0}
Sendless (Leave p ending) = Unit {0}

-- a reply of the rules is the reply that the copies give
pub data Agrees (i : ℕ) (g : Mark → Body → Course) (r : Reply) (a : rules.Answer) (w : World) : Type 0 where
  both_wrong : r ≡ wrong → a ≡ Err WrongStep → Agrees i g r a w
  nothing : r ≡ says [] → a ≡ Ok None → map (answered i g) (map life w.copies) ≡ map life w.copies → Agrees i g r a w
  by_turn : (t : Turn) (ps : List Output) → r ≡ says ps → a ≡ Ok (Some t) → packets t w.copies ≡ ps → Sendless t → map (answered i g) (map life w.copies) ≡ map life (lots_after t w.copies) → Agrees i g r a w

refused_code : (code : ℕ) → is_refusal code ≡ true → nat_lt code 128 ≡ false
refused_code code h = grind (arith, nat_tests)

taken_code : (code : ℕ) → is_refusal code ≡ false → nat_lt code 128 ≡ true
taken_code code h = grind (arith, nat_tests)

own_id : (i j : ℕ) → nat_eq j i ≡ true → nat_eq i j ≡ true
own_id i j h = grind (arith, nat_tests)

code_end : (code : ℕ) → (if nat_lt code 128 then Taken else Refused) ≡ ending_by (is_refusal code)
code_end code = ⊎_elim
    (λ (t : is_refusal code ≡ true). let z = refused_code code t in rw (t, z) refl)
    (λ (t : is_refusal code ≡ false). let z = taken_code code t in rw (t, z) refl)
    (test_cases (is_refusal code))

releasing : (i order : ℕ) (e : Entry) (m : TopicAndPayload) → lot_after (Release e.place i order) (standing e m) ≡ standing (record e { phase = Released i order }) m
releasing i order e m = let same = same_id e.place in rw same refl

-- what the rules make of a PUBACK is what the world of the copies does
pub agree_puback : (i code : ℕ) (w : World) (largest : ℕ) → Sound largest w → Unique i w → Agrees i (on_puback code) (puback_reply (find i (map life w.copies))) (rules.puback i code (queue_of w.copies)) w
agree_puback i code w largest s u = go (found i w.copies)
  where
    g : Mark → Body → Course
    g = on_puback code

    go : Found i w.copies → Agrees i g (puback_reply (find i (map life w.copies))) (rules.puback i code (queue_of w.copies)) w
    go (absent h f c) = nothing (rw f refl) (rw h refl) (c g)
    go (present xs e m ys q h own f c) = by_phase e.phase refl own
      where
        rest : map (answered i g) (map life ys) ≡ map life ys
        rest = behind i 0 g xs e m ys own (subst (λ k. length (held i 0 (map life k)) ≤ 1) q u)

        by_phase : (phase : Phase) → e.phase ≡ phase → is_holder i phase ≡ true → Agrees i g (puback_reply (find i (map life w.copies))) (rules.puback i code (queue_of w.copies)) w
        by_phase Waiting ph o = absurd (cc)
        by_phase (Released j order) ph o = let t = own_id i j o in both_wrong (rw (f, ph, t) refl) (rw (h, ph) refl)
        by_phase (Oversize j order) ph o = let t = own_id i j o in both_wrong (rw (f, ph, t) refl) (rw (h, ph) refl)
        by_phase (Sent j) ph o = by_qos e.copy.qos refl (fit_here largest xs e m ys (subst (AllFit largest) q s.fit)).0
          where
            t : nat_eq i j ≡ true
            t = own_id i j o

            by_qos : (qos : Qos) → e.copy.qos ≡ qos → IsGranted qos → Agrees i g (puback_reply (find i (map life w.copies))) (rules.puback i code (queue_of w.copies)) w
            by_qos AtMostOnce z granted = absurd granted
            by_qos ExactlyOnce z granted = both_wrong (rw (f, ph, t, z) refl) (rw (h, ph, z) refl)
            by_qos AtLeastOnce z granted = by_turn (Leave e.place (ending_by (is_refusal code))) [] (rw (f, ph, t, z) refl) (rw (h, ph, z) refl) refl tt
                (settled i g (Leave e.place (ending_by (is_refusal code))) xs e m ys w.copies (past (ending_by (is_refusal code)) e m) q s.placed refl (left e.place (ending_by (is_refusal code)) e m refl) (c g) rest
                (rw (ph, t, z) (ap (λ x. ended x (record { twice = false; topic = m.topic; payload = m.payload })) (code_end code))))

-- what the rules make of a PUBREC is what the world of the copies does
pub agree_pubrec : (i code : ℕ) (w : World) (largest : ℕ) → Sound largest w → Unique i w → Agrees i (on_pubrec code) (pubrec_reply i code (find i (map life w.copies))) (rules.pubrec i code (queue_of w.copies)) w
agree_pubrec i code w largest s u = go (found i w.copies)
  where
    g : Mark → Body → Course
    g = on_pubrec code

    order : ℕ
    order = next_order (queue_of w.copies)

    go : Found i w.copies → Agrees i g (pubrec_reply i code (find i (map life w.copies))) (rules.pubrec i code (queue_of w.copies)) w
    go (absent h f c) = by_turn (Unknown i) (pubrel i identifier_not_found ∷ []) (rw f refl) (rw h refl) refl tt (c g ∙ sym (ap (map life) (same_lots (Unknown i) (λ e m. refl) w.copies)))
    go (present xs e m ys q h own f c) = by_phase e.phase refl own
      where
        rest : map (answered i g) (map life ys) ≡ map life ys
        rest = behind i 0 g xs e m ys own (subst (λ k. length (held i 0 (map life k)) ≤ 1) q u)

        by_phase : (phase : Phase) → e.phase ≡ phase → is_holder i phase ≡ true → Agrees i g (pubrec_reply i code (find i (map life w.copies))) (rules.pubrec i code (queue_of w.copies)) w
        by_phase Waiting ph o = absurd (cc)
        by_phase (Released j x) ph o =
            let t = own_id i j o in
            let z : j ≡ i = eqb-true j i o in
            by_turn (Repeat j) (pubrel i 0 ∷ []) (rw (f, ph, t) refl) (rw (h, ph) refl) (rw z refl) tt
            (unmoved i g xs e m ys w.copies q (c g) rest (rw (ph, t) refl) ∙ sym (ap (map life) (same_lots (Repeat j) (λ d n. refl) w.copies)))
        by_phase (Oversize j x) ph o =
            let t = own_id i j o in
            let z : j ≡ i = eqb-true j i o in
            by_turn (Repeat j) (pubrel i 0 ∷ []) (rw (f, ph, t) refl) (rw (h, ph) refl) (rw z refl) tt
            (unmoved i g xs e m ys w.copies q (c g) rest (rw (ph, t) refl) ∙ sym (ap (map life) (same_lots (Repeat j) (λ d n. refl) w.copies)))
        by_phase (Sent j) ph o = by_qos e.copy.qos refl (fit_here largest xs e m ys (subst (AllFit largest) q s.fit)).0
          where
            t : nat_eq i j ≡ true
            t = own_id i j o

            z : j ≡ i
            z = eqb-true j i o

            by_qos : (qos : Qos) → e.copy.qos ≡ qos → IsGranted qos → Agrees i g (pubrec_reply i code (find i (map life w.copies))) (rules.pubrec i code (queue_of w.copies)) w
            by_qos AtMostOnce k granted = absurd granted
            by_qos AtLeastOnce k granted = both_wrong (rw (f, ph, t, k) refl) (rw (h, ph, k) refl)
            by_qos ExactlyOnce k granted = ⊎_elim
                (λ (b : is_refusal code ≡ true). let b' = refused_code code b in
                by_turn (Leave e.place Refused) [] (rw (f, ph, t, k, b') refl) (rw (h, ph, k, b) refl) refl tt
                (settled i g (Leave e.place Refused) xs e m ys w.copies (past Refused e m) q s.placed refl (left e.place Refused e m refl) (c g) rest (rw (ph, t, k, b') refl)))
                (λ (b : is_refusal code ≡ false). let b' = taken_code code b in
                by_turn (Release e.place j order) (pubrel i 0 ∷ []) (rw (f, ph, t, k, b') refl) (rw (h, ph, k, b) refl) (rw z refl) tt
                (settled i g (Release e.place j order) xs e m ys w.copies (standing (record e { phase = Released j order }) m) q s.placed refl (releasing j order e m) (c g) rest (rw (ph, t, k, b') refl)))
                (test_cases (is_refusal code))

-- what the rules make of a PUBCOMP is what the world of the copies does
pub agree_pubcomp : (i : ℕ) (w : World) (largest : ℕ) → Sound largest w → Unique i w → Agrees i on_pubcomp (pubcomp_reply (find i (map life w.copies))) (rules.pubcomp i (queue_of w.copies)) w
agree_pubcomp i w largest s u = go (found i w.copies)
  where
    g : Mark → Body → Course
    g = on_pubcomp

    go : Found i w.copies → Agrees i g (pubcomp_reply (find i (map life w.copies))) (rules.pubcomp i (queue_of w.copies)) w
    go (absent h f c) = nothing (rw f refl) (rw h refl) (c g)
    go (present xs e m ys q h own f c) = by_phase e.phase refl own
      where
        rest : map (answered i g) (map life ys) ≡ map life ys
        rest = behind i 0 g xs e m ys own (subst (λ k. length (held i 0 (map life k)) ≤ 1) q u)

        by_phase : (phase : Phase) → e.phase ≡ phase → is_holder i phase ≡ true → Agrees i g (pubcomp_reply (find i (map life w.copies))) (rules.pubcomp i (queue_of w.copies)) w
        by_phase Waiting ph o = absurd (cc)
        by_phase (Sent j) ph o = let t = own_id i j o in both_wrong (rw (f, ph, t) refl) (rw (h, ph) refl)
        by_phase (Released j x) ph o =
            let t = own_id i j o in
            by_turn (Leave e.place Taken) [] (rw (f, ph, t) refl) (rw (h, ph) refl) refl tt
            (settled i g (Leave e.place Taken) xs e m ys w.copies (past Taken e m) q s.placed refl (left e.place Taken e m refl) (c g) rest (rw (ph, t) refl))
        by_phase (Oversize j x) ph o =
            let t = own_id i j o in
            by_turn (Leave e.place TooLarge) [] (rw (f, ph, t) refl) (rw (h, ph) refl) refl tt
            (settled i g (Leave e.place TooLarge) xs e m ys w.copies (past TooLarge e m) q s.placed refl (left e.place TooLarge e m refl) (c g) rest (rw (ph, t) refl))

-- what goes out
pub sent_on_none : (l : Bool) (down : List Output) → sent_on l down [] ≡ down
sent_on_none true down = append-nil down
sent_on_none false down = refl

-- packets that go out from the session go out as seen from the copies
pub told_seen : (ps : List Output) (w : World) → record (seen w) { down = sent_on w.linked w.down ps } ≡ seen (told ps w)
told_seen [] w = ap (λ d. record (seen w) { down = d }) (sent_on_none w.linked w.down)
told_seen (p ∷ ps) w = refl

-- an answer on the receiver's line is seen from the copies as what they make of it
pub agrees_up : (i : ℕ) (g : Mark → Body → Course) (r : Reply) (a : rules.Answer) (w : World) (rest : List Answer) → Agrees i g r a w → lives.replied r rest (map (answered i g) (map life w.copies)) (seen w) ≡ seen (replied a rest w)
agrees_up i g r a w rest (both_wrong x y) = rw (x, y) refl
agrees_up i g r a w rest (nothing x y c) = rw (x, y)
    (ap (λ k. record (seen w) { up = rest; copies = k; down = sent_on w.linked w.down [] }) c ∙ ap (λ d. record (seen w) { up = rest; down = d }) (sent_on_none w.linked w.down))
agrees_up i g r a w rest (by_turn t ps x y o n c) = rw (x, y)
    (ap (λ k. record (seen w) { up = rest; copies = k; down = sent_on w.linked w.down ps }) c
    ∙ told_seen ps (record w { up = rest; copies = lots_after t w.copies })
    ∙ ap (λ qs. seen (told qs (record w { up = rest; copies = lots_after t w.copies }))) (sym o))

-- an answer on the line that was given up is seen from the copies as what they make of it
pub agrees_old : (i : ℕ) (g : Mark → Body → Course) (r : Reply) (a : rules.Answer) (w : World) (rest : List Answer) → Agrees i g r a w → lives.replied_old r rest (map (answered i g) (map life w.copies)) (seen w) ≡ seen (replied_old a rest w)
agrees_old i g r a w rest (both_wrong x y) = rw (x, y) refl
agrees_old i g r a w rest (nothing x y c) = rw (x, y) (ap (λ k. record (seen w) { old = rest; copies = k }) c)
agrees_old i g r a w rest (by_turn t ps x y o n c) = rw (x, y) (ap (λ k. record (seen w) { old = rest; copies = k }) c)

-- and the queue stays as it is to be
fit_by : (largest : ℕ) (t : Turn) (e : Entry) (m : TopicAndPayload) → Sendless t → Fit largest (standing e m) → Fit largest (lot_after t (standing e m))
fit_by largest (Send p i) e m h f = absurd h
fit_by largest (Resend p i) e m h f = absurd h
fit_by largest (Release p i order) e m h f = ⊎_elim (λ (t : nat_eq e.place p ≡ true). rw t (f.0, tt)) (λ (t : nat_eq e.place p ≡ false). rw t f) (test_cases (nat_eq e.place p))
fit_by largest (Outgrow p i order) e m h f = ⊎_elim (λ (t : nat_eq e.place p ≡ true). rw t (f.0, tt)) (λ (t : nat_eq e.place p ≡ false). rw t f) (test_cases (nat_eq e.place p))
fit_by largest (Repeat i) e m h f = f
fit_by largest (Unknown i) e m h f = f
fit_by largest (Leave p ending) e m h f = ⊎_elim (λ (t : nat_eq e.place p ≡ true). rw t tt) (λ (t : nat_eq e.place p ≡ false). rw t f) (test_cases (nat_eq e.place p))

fit-after : (largest : ℕ) (t : Turn) (ls : List Lot) → Sendless t → AllFit largest ls → AllFit largest (lots_after t ls)
fit-after largest t [] h f = tt
fit-after largest t (past x e m ∷ ls) h f = (tt, fit-after largest t ls h f.1)
fit-after largest t (standing e m ∷ ls) h f = (fit_by largest t e m h f.0, fit-after largest t ls h f.1)

told-copies : (ps : List Output) (w : World) → (told ps w).copies ≡ w.copies
told-copies [] w = refl
told-copies (p ∷ ps) w = refl

sound_lots : (largest : ℕ) (ls : List Lot) (w : World) → w.copies ≡ ls → Ascends (queue_of ls) → AllFit largest ls → Sound largest w
sound_lots largest ls w q h f = record { placed = subst (λ k. Ascends (queue_of k)) (sym q) h; fit = subst (AllFit largest) (sym q) f }

-- an answer on the receiver's line leaves the places ascending and sent copies within the size
pub sound_up : (i : ℕ) (g : Mark → Body → Course) (r : Reply) (a : rules.Answer) (w : World) (rest : List Answer) (largest : ℕ) → Agrees i g r a w → Sound largest w → Sound largest (replied a rest w)
sound_up i g r a w rest largest (both_wrong x y) s = rw y (record { placed = s.placed; fit = s.fit })
sound_up i g r a w rest largest (nothing x y c) s = rw y (record { placed = s.placed; fit = s.fit })
sound_up i g r a w rest largest (by_turn t ps x y o n c) s = rw y (sound_lots largest (lots_after t w.copies) _ (told-copies (packets t w.copies) (record w { up = rest; copies = lots_after t w.copies })) (placed-after t w.copies s.placed) (fit-after largest t w.copies n s.fit))

-- an answer on the line that was given up leaves the places ascending and sent copies within the size
pub sound_old : (i : ℕ) (g : Mark → Body → Course) (r : Reply) (a : rules.Answer) (w : World) (rest : List Answer) (largest : ℕ) → Agrees i g r a w → Sound largest w → Sound largest (replied_old a rest w)
sound_old i g r a w rest largest (both_wrong x y) s = rw y (record { placed = s.placed; fit = s.fit })
sound_old i g r a w rest largest (nothing x y c) s = rw y (record { placed = s.placed; fit = s.fit })
sound_old i g r a w rest largest (by_turn t ps x y o n c) s = rw y (record { placed = placed-after t w.copies s.placed; fit = fit-after largest t w.copies n s.fit })
