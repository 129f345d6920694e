-- By which causes copies end in a drain of a hop.
use Rattle.std.proofs.Common.{◌≡◌, ⊎_elim, ℕ, zero, suc, ◌≤◌, Bool, true, false, List, [], ◌∷◌, ◌++◌, length, map, nat_eq, refl, sym, ap, ◌∙◌, subst, Option, Some, None, Ok, Err, slice_get, option_map, cond, take, inl, inr}
use Rattle.std.specs.Prelude.{⊤, ◌⊎◌}
use Rattle.std.proofs.lemmas.Option.{slice_get-map}
use Rattle.mqtt_base.specs.declared.session.Ending.{Ending}
use Rattle.mqtt_base.specs.declared.session.Ending.TheVariants.{Taken, Refused, Expired, TooLarge, SessionEnded, Dropped}
use Rattle.mqtt_base.specs.declared.session.Phase.{Phase}
use Rattle.mqtt_base.specs.declared.session.Phase.TheVariants.{Waiting, Sent, Released, Oversize}
use Rattle.mqtt_flow.proofs.inbound_lemmas.Identifiers.{test_cases}
use Rattle.mqtt_flow.specs.outbound.Outbound as rules
use Rattle.mqtt_flow.specs.outbound.Outbound.{is_late, pace, paced, pump, pump_from, pump_step, then_on}
use Rattle.mqtt_flow.specs.outbound.OutboundCourse.{GoOn, GoesOn}
use Rattle.mqtt_flow.specs.outbound.OutboundWorld.{Lot, standing, past, TopicAndPayload, World, Event, body, ended_by, lot_after, lots_after, queue_of, replied, run, start, step, take_turn, take_turns, to_broker, to_end, up_comes}
use Rattle.mqtt_flow.specs.outbound.OutboundWorld as hop
use Rattle.mqtt_flow.specs.outbound.Pacing.{Pacing}
use Rattle.mqtt_flow.specs.outbound.Queue.{Ascends}
use Rattle.mqtt_flow.specs.outbound.Receiver.{Body, Output, pubrel, Answer, connect, puback, pubrec, pubcomp, IsHeard}
use Rattle.mqtt_flow.specs.declared.outbound.entry.Entry.{Entry}
use Rattle.mqtt_flow.specs.declared.outbound.entry.QueuedCopy.{QueuedCopy}
use Rattle.mqtt_flow.specs.declared.outbound.entry.Turn.{Turn}
use Rattle.mqtt_flow.specs.declared.outbound.entry.Turn.TheVariants.{Send, Resend, Release, Outgrow, Repeat, Unknown, Leave}
use Rattle.mqtt_flow.specs.declared.outbound.entry.Way.{Way}
use Rattle.mqtt_flow.proofs.outbound_lemmas.outbound.HopLaw.{heard_of}
use Rattle.mqtt_flow.proofs.outbound_lemmas.outbound.Lives.{Mark, sent, released, ended, find, Turn as Course, stay, over, turned, answered, on_puback, on_pubrec, on_pubcomp, Reply, says, puback_reply, pubrec_reply, pubcomp_reply}
use Rattle.mqtt_flow.proofs.outbound_lemmas.outbound.LivesWorld as lives
use Rattle.mqtt_flow.proofs.outbound_lemmas.outbound.SessionAnswers.{Agrees, agree_puback, agree_pubrec, agree_pubcomp, agrees_up}
use Rattle.mqtt_flow.proofs.outbound_lemmas.outbound.SessionLives.{life, life_by, placed-after, seen, split-after}
use Rattle.mqtt_flow.proofs.outbound_lemmas.outbound.SessionQueues.{Sound, shift}
use Rattle.mqtt_flow.proofs.outbound_lemmas.outbound.Stages.{Norm, first_of, find-held}
use Rattle.mqtt_flow.proofs.outbound_lemmas.outbound.Steps.{pubrec_came, puback_came, pubcomp_came}
use Rattle.mqtt_world_laws.specs.receiver.Drains.{is_none_left, times}
use Rattle.mqtt_world_laws.specs.receiver.Entering.{MakesWay}
use Rattle.mqtt_world_laws.specs.receiver.Rounds.{EndsBy, Has, IsDrainCause, after_round, all_to_broker, all_to_end, drained, is_over, round_events, rounds_taken}
use Rattle.mqtt_world_laws.specs.receiver.WorldRounds.{EndsOrDrops}
use Rattle.mqtt_world_laws.proofs.receiver_lemmas.drains.Further.{Reached, Rests, goes_on, good_at, norm_at, one_unique, puback_said, pubcomp_said, reached_on, run_after, sound_at}
use Rattle.mqtt_world_laws.proofs.receiver_lemmas.drains.RoundFurther.{either_false, reached_round, round_run, unsent_at}
use Rattle.mqtt_world_laws.proofs.receiver_lemmas.drains.RoundPhases.{ends_back, ends_copies, turn_copies, turns_linked, up_linked}
use Rattle.mqtt_world_laws.proofs.receiver_lemmas.queue.UnderWay.{at_up, pubrec_said}
use Rattle.mqtt_world_laws.proofs.receiver_lemmas.queue.Unsent.{AllUnsent, Caused, Looks, Unsent, UnsentBy, goes, looks, stops, takes}

-- ---- each copy keeps what is known of it

-- one that stood stands, or has ended by such a cause
abbrev EndsOn : ℕ → List ℕ → Option Lot → Option Lot → Type 0
EndsOn largest moments None later = ⊤
EndsOn largest moments (Some (past ending e m)) later = ⊤
EndsOn largest moments (Some (standing e m)) None = ⊥
EndsOn largest moments (Some (standing e m)) (Some (standing f k)) = f.copy ≡ e.copy
EndsOn largest moments (Some (standing e m)) (Some (past ending f k)) = IsDrainCause largest moments e.copy ending

abbrev AllEnd : ℕ → List ℕ → World → World → Type 0
AllEnd largest moments w v = (n : ℕ) → EndsOn largest moments (slice_get w.copies n) (slice_get v.copies n)

ends_same : (largest : ℕ) (moments : List ℕ) (o : Option Lot) → EndsOn largest moments o o
ends_same largest moments None = tt
ends_same largest moments (Some (standing e m)) = refl
ends_same largest moments (Some (past x e m)) = tt

ends_trans : (largest : ℕ) (moments : List ℕ) (o p q : Option Lot) → EndsOn largest moments o p → EndsOn largest moments p q → GoesOn p q → EndsOn largest moments o q
ends_trans largest moments None p q a b h = tt
ends_trans largest moments (Some (past x e m)) p q a b h = tt
ends_trans largest moments (Some (standing e m)) None q a b h = absurd a
ends_trans largest moments (Some (standing e m)) (Some (standing f k)) None a b h = absurd b
ends_trans largest moments (Some (standing e m)) (Some (standing f k)) (Some (standing z l)) a b h = b ∙ a
ends_trans largest moments (Some (standing e m)) (Some (standing f k)) (Some (past y z l)) a b h = subst (λ (copy : QueuedCopy). IsDrainCause largest moments copy y) a b
ends_trans largest moments (Some (standing e m)) (Some (past x f k)) None a b h = absurd h
ends_trans largest moments (Some (standing e m)) (Some (past x f k)) (Some (standing z l)) a b h = absurd h
ends_trans largest moments (Some (standing e m)) (Some (past x f k)) (Some (past y z l)) a b h = subst (IsDrainCause largest moments e.copy) (sym h.0) a

all_trans : (largest : ℕ) (moments : List ℕ) (w v z : World) → AllEnd largest moments w v → AllEnd largest moments v z → GoOn v z → AllEnd largest moments w z
all_trans largest moments w v z a b h n = ends_trans largest moments (slice_get w.copies n) (slice_get v.copies n) (slice_get z.copies n) (a n) (b n) (h n)

-- at more moments
cause_more : (largest : ℕ) (moments more : List ℕ) (copy : QueuedCopy) (x : Ending) → ((f : ℕ → Bool) → Has f moments → Has f more) → IsDrainCause largest moments copy x → IsDrainCause largest more copy x
cause_more largest moments more copy Taken has c = tt
cause_more largest moments more copy Refused has c = c
cause_more largest moments more copy Expired has c = has (λ (now : ℕ). is_late now copy) c
cause_more largest moments more copy TooLarge has c = c
cause_more largest moments more copy SessionEnded has c = c
cause_more largest moments more copy Dropped has c = c

ends_more : (largest : ℕ) (moments more : List ℕ) (o p : Option Lot) → ((f : ℕ → Bool) → Has f moments → Has f more) → EndsOn largest moments o p → EndsOn largest more o p
ends_more largest moments more None p has a = tt
ends_more largest moments more (Some (past x e m)) p has a = tt
ends_more largest moments more (Some (standing e m)) None has a = a
ends_more largest moments more (Some (standing e m)) (Some (standing f k)) has a = a
ends_more largest moments more (Some (standing e m)) (Some (past x f k)) has a = cause_more largest moments more e.copy x has a

all_more : (largest : ℕ) (moments more : List ℕ) (w v : World) → ((f : ℕ → Bool) → Has f moments → Has f more) → AllEnd largest moments w v → AllEnd largest more w v
all_more largest moments more w v has a n = ends_more largest moments more (slice_get w.copies n) (slice_get v.copies n) has (a n)

-- one that had ended has ended for the same cause
told_so : (largest : ℕ) (moments : List ℕ) (o p : Option Lot) → EndsOn largest moments o p → GoesOn o p → EndsBy largest moments o p
told_so largest moments None p a h = tt
told_so largest moments (Some (standing e m)) None a h = a
told_so largest moments (Some (standing e m)) (Some (standing f k)) a h = a
told_so largest moments (Some (standing e m)) (Some (past x f k)) a h = a
told_so largest moments (Some (past x e m)) None a h = h
told_so largest moments (Some (past x e m)) (Some (standing f k)) a h = h
told_so largest moments (Some (past x e m)) (Some (past y f k)) a h = h.0

-- a copy that ends at some of these moments ends at one of more
pub ends_by_more : (largest : ℕ) (moments more : List ℕ) (o p : Option Lot) → ((f : ℕ → Bool) → Has f moments → Has f more) → EndsBy largest moments o p → EndsBy largest more o p
ends_by_more largest moments more None p has a = tt
ends_by_more largest moments more (Some (standing e m)) None has a = a
ends_by_more largest moments more (Some (standing e m)) (Some (standing f k)) has a = a
ends_by_more largest moments more (Some (standing e m)) (Some (past x f k)) has a = cause_more largest moments more e.copy x has a
ends_by_more largest moments more (Some (past x e m)) None has a = a
ends_by_more largest moments more (Some (past x e m)) (Some (standing f k)) has a = a
ends_by_more largest moments more (Some (past x e m)) (Some (past y f k)) has a = a

-- ---- a turn keeps what a copy is

copy_by : (b : Bool) (x y : Entry) → x.copy ≡ y.copy → (cond b x y).copy ≡ y.copy
copy_by true x y e = e
copy_by false x y e = refl

-- ---- a pump

module _ (way : Way) where
  abbrev On : Option Lot → Option Lot → Type 0
  On o p = EndsOn way.largest (way.now ∷ []) o p

  left_on : (b : Bool) (x : Ending) (f e : Entry) (k m : TopicAndPayload) → IsDrainCause way.largest (way.now ∷ []) e.copy x → e.copy ≡ f.copy → On (Some (standing f k)) (Some (ended_by b x e m))
  left_on true x f e k m c h = subst (λ (copy : QueuedCopy). IsDrainCause way.largest (way.now ∷ []) copy x) h c
  left_on false x f e k m c h = h

  stood_on : (t : Turn) (f e : Entry) (k m : TopicAndPayload) → Caused way e.copy t → e.copy ≡ f.copy → On (Some (standing f k)) (Some (lot_after t (standing e m)))
  stood_on (Send p i) f e k m c h = copy_by (nat_eq e.place p) (record e { phase = Sent i; here = true }) e refl ∙ h
  stood_on (Resend p i) f e k m c h = copy_by (nat_eq e.place p) (record e { here = true }) e refl ∙ h
  stood_on (Release p i order) f e k m c h = copy_by (nat_eq e.place p) (record e { phase = Released i order }) e refl ∙ h
  stood_on (Outgrow p i order) f e k m c h = copy_by (nat_eq e.place p) (record e { phase = Oversize i order }) e refl ∙ h
  stood_on (Repeat i) f e k m c h = h
  stood_on (Unknown i) f e k m c h = h
  stood_on (Leave p x) f e k m c h = left_on (nat_eq e.place p) x f e k m c h

  turn_on : (t : Turn) (o : Option Lot) (e : Entry) (m : TopicAndPayload) → Caused way e.copy t → On o (Some (standing e m)) → On o (Some (lot_after t (standing e m)))
  turn_on t None e m c h = tt
  turn_on t (Some (past x f k)) e m c h = tt
  turn_on t (Some (standing f k)) e m c h = stood_on t f e k m c h

  at_change : (xs : List Lot) (l k : Lot) (ys : List Lot) (o : Option Lot) (n : ℕ) → (On o (Some l) → On o (Some k)) → On o (slice_get (xs ++ l ∷ ys) n) → On o (slice_get (xs ++ k ∷ ys) n)
  at_change [] l k ys o zero f h = f h
  at_change [] l k ys o (suc n) f h = h
  at_change (x ∷ xs) l k ys o zero f h = h
  at_change (x ∷ xs) l k ys o (suc n) f h = at_change xs l k ys o n f h

  module _ (o : Option Lot) (n : ℕ) where
    abbrev Later : List Lot → Type 0
    Later ys = (xs : List Lot) (p : Pacing) (w : World) → w.copies ≡ xs ++ ys → Ascends (queue_of w.copies) → On o (slice_get w.copies n) → On o (slice_get (take_turns (pump_from way (queue_of ys) p) w).copies n)

    walk_step : (e : Entry) (m : TopicAndPayload) (ys xs : List Lot) (p : Pacing) (w : World) → w.copies ≡ xs ++ standing e m ∷ ys → Ascends (queue_of w.copies) → On o (slice_get w.copies n) → Later ys → Looks way p e m
        → On o (slice_get (take_turns (then_on (pump_step way p e) e.phase p (pump_from way (queue_of ys))) w).copies n)
    walk_step e m ys xs p w q h a later (stops t z) =
        subst (λ s. On o (slice_get (take_turns (then_on s e.phase p (pump_from way (queue_of ys))) w).copies n)) (sym z) a
    walk_step e m ys xs p w q h a later (goes z) =
        subst (λ s. On o (slice_get (take_turns (then_on s e.phase p (pump_from way (queue_of ys))) w).copies n)) (sym z)
        (later (xs ++ standing e m ∷ []) p w (q ∙ shift xs (standing e m) ys) h a)
    walk_step e m ys xs p w q h a later (takes t x z) =
        let v = take_turn t w in
        let moved : v.copies ≡ xs ++ lot_after t (standing e m) ∷ ys =
        turn_copies t w ∙ ap (lots_after t) q ∙ split-after t xs e m ys (subst (λ k. Ascends (queue_of k)) q h) x.at in
        subst (λ s. On o (slice_get (take_turns (then_on s e.phase p (pump_from way (queue_of ys))) w).copies n)) (sym z)
        (later (xs ++ lot_after t (standing e m) ∷ []) (paced t e.phase p) v (moved ∙ shift xs (lot_after t (standing e m)) ys)
        (subst (λ k. Ascends (queue_of k)) (sym (turn_copies t w)) (placed-after t w.copies h))
        (subst (λ (ls : List Lot). On o (slice_get ls n)) (sym moved)
        (at_change xs (standing e m) (lot_after t (standing e m)) ys o n (turn_on t o e m x.caused) (subst (λ (ls : List Lot). On o (slice_get ls n)) q a))))

    pump_walk : (ys xs : List Lot) (p : Pacing) (w : World) → w.copies ≡ xs ++ ys → Ascends (queue_of w.copies) → On o (slice_get w.copies n) → On o (slice_get (take_turns (pump_from way (queue_of ys) p) w).copies n)
    pump_walk [] xs p w q h a = a
    pump_walk (past x e m ∷ ys) xs p w q h a = pump_walk ys (xs ++ past x e m ∷ []) p w (q ∙ shift xs (past x e m) ys) h a
    pump_walk (standing e m ∷ ys) xs p w q h a =
        walk_step e m ys xs p w q h a (λ xs' p' w' q' h' a'. pump_walk ys xs' p' w' q' h' a') (looks way p e m)

pump_ends : (largest window now : ℕ) (w : World) → Sound largest w → AllEnd largest (now ∷ []) w (step largest w (hop.pump window now))
pump_ends largest window now w s n =
    let way : Way = record { window = window; largest = largest; now = now } in
    pump_walk way (slice_get w.copies n) n w.copies [] (pace way (queue_of w.copies)) w refl s.placed (ends_same largest (now ∷ []) (slice_get w.copies n))

-- ---- an answer

-- by the mark of the copy that it names
abbrev CourseOk : Mark → Course → Type 0
CourseOk m (stay k) = ⊤
CourseOk (sent here) (over x) = x ≡ Taken
CourseOk (released here true) (over x) = x ≡ Taken
CourseOk (released here false) (over x) = x ≡ TooLarge

-- and by its phase
abbrev EndsFrom : Phase → Ending → Type 0
EndsFrom Waiting x = x ≡ Taken
EndsFrom (Sent i) x = x ≡ Taken
EndsFrom (Released i order) x = x ≡ Taken
EndsFrom (Oversize i order) x = x ≡ TooLarge

turned_over : (j : ℕ) (m : Mark) (t : Course) (b c : Body) (x : Ending) → CourseOk m t → turned j t b ≡ ended x c → CourseOk m (over x)
turned_over j m (stay k) b c x ok e = absurd (cc)
turned_over j m (over y) b c x ok e = let z : y ≡ x = cc in subst (λ (a : Ending). CourseOk m (over a)) z ok

life_cause : (i : ℕ) (g : Mark → Body → Course) (p : Phase) (here : Bool) (b c : Body) (x : Ending) → ((m : Mark) (d : Body) → CourseOk m (g m d)) → answered i g (life_by p here b) ≡ ended x c → EndsFrom p x
life_cause i g Waiting here b c x ok e = absurd (cc)
life_cause i g (Sent j) here b c x ok e = ⊎_elim
    (λ (t : nat_eq i j ≡ true). turned_over j (sent here) (g (sent here) b) b c x (ok (sent here) b) (rw t at e))
    (λ (t : nat_eq i j ≡ false). let e' = rw t at e in absurd (cc))
    (test_cases (nat_eq i j))
life_cause i g (Released j order) here b c x ok e = ⊎_elim
    (λ (t : nat_eq i j ≡ true). turned_over j (released here true) (g (released here true) b) b c x (ok (released here true) b) (rw t at e))
    (λ (t : nat_eq i j ≡ false). let e' = rw t at e in absurd (cc))
    (test_cases (nat_eq i j))
life_cause i g (Oversize j order) here b c x ok e = ⊎_elim
    (λ (t : nat_eq i j ≡ true). turned_over j (released here false) (g (released here false) b) b c x (ok (released here false) b) (rw t at e))
    (λ (t : nat_eq i j ≡ false). let e' = rw t at e in absurd (cc))
    (test_cases (nat_eq i j))

-- a copy that was released as too large is so
phase_cause : (largest : ℕ) (moments : List ℕ) (copy : QueuedCopy) (p : Phase) (here : Bool) (x : Ending) → UnsentBy largest copy p here → EndsFrom p x → IsDrainCause largest moments copy x
phase_cause largest moments copy Waiting here x u e = subst (IsDrainCause largest moments copy) (sym e) tt
phase_cause largest moments copy (Sent i) here x u e = subst (IsDrainCause largest moments copy) (sym e) tt
phase_cause largest moments copy (Released i order) here x u e = subst (IsDrainCause largest moments copy) (sym e) tt
phase_cause largest moments copy (Oversize i order) here x u e = subst (IsDrainCause largest moments copy) (sym e) u

-- what a turn makes of a lot
abbrev IsSame : Option Lot → Option Lot → Type 0
IsSame None p = ⊤
IsSame (Some (past x e m)) p = ⊤
IsSame (Some (standing e m)) None = ⊥
IsSame (Some (standing e m)) (Some (standing f k)) = f.copy ≡ e.copy
IsSame (Some (standing e m)) (Some (past x f k)) = ⊤

same_ended : (b : Bool) (x : Ending) (e : Entry) (m : TopicAndPayload) → IsSame (Some (standing e m)) (Some (ended_by b x e m))
same_ended true x e m = tt
same_ended false x e m = refl

same_turn : (t : Turn) (o : Option Lot) → IsSame o (option_map (lot_after t) o)
same_turn t None = tt
same_turn t (Some (past x e m)) = tt
same_turn (Send p i) (Some (standing e m)) = copy_by (nat_eq e.place p) (record e { phase = Sent i; here = true }) e refl
same_turn (Resend p i) (Some (standing e m)) = copy_by (nat_eq e.place p) (record e { here = true }) e refl
same_turn (Release p i order) (Some (standing e m)) = copy_by (nat_eq e.place p) (record e { phase = Released i order }) e refl
same_turn (Outgrow p i order) (Some (standing e m)) = copy_by (nat_eq e.place p) (record e { phase = Oversize i order }) e refl
same_turn (Repeat i) (Some (standing e m)) = refl
same_turn (Unknown i) (Some (standing e m)) = refl
same_turn (Leave p x) (Some (standing e m)) = same_ended (nat_eq e.place p) x e m

same_lot : (o : Option Lot) → IsSame o o
same_lot None = tt
same_lot (Some (past x e m)) = tt
same_lot (Some (standing e m)) = refl

same_replied : (a : rules.Answer) (rest : List Answer) (w : World) (n : ℕ) → IsSame (slice_get w.copies n) (slice_get (replied a rest w).copies n)
same_replied (Err fault) rest w n = same_lot (slice_get w.copies n)
same_replied (Ok None) rest w n = same_lot (slice_get w.copies n)
same_replied (Ok (Some t)) rest w n =
    let v = record w { up = rest } in
    subst (IsSame (slice_get w.copies n)) (sym (ap (λ ls. slice_get ls n) (turn_copies t v) ∙ slice_get-map (lot_after t) w.copies n)) (same_turn t (slice_get w.copies n))

abbrev UnsentAt : ℕ → Option Lot → Type 0
UnsentAt largest None = ⊤
UnsentAt largest (Some l) = Unsent largest l

unsent_get : (largest : ℕ) (ls : List Lot) (n : ℕ) → AllUnsent largest ls → UnsentAt largest (slice_get ls n)
unsent_get largest [] n u = tt
unsent_get largest (l ∷ ls) zero u = u.0
unsent_get largest (l ∷ ls) (suc n) u = unsent_get largest ls n u.1

lot_cause : (largest : ℕ) (moments : List ℕ) (i : ℕ) (g : Mark → Body → Course) (o p : Option Lot) → ((m : Mark) (d : Body) → CourseOk m (g m d)) → UnsentAt largest o → IsSame o p → option_map (answered i g) (option_map life o) ≡ option_map life p → EndsOn largest moments o p
lot_cause largest moments i g None p ok u same e = tt
lot_cause largest moments i g (Some (past x f k)) p ok u same e = tt
lot_cause largest moments i g (Some (standing f k)) None ok u same e = same
lot_cause largest moments i g (Some (standing f k)) (Some (standing h l)) ok u same e = same
lot_cause largest moments i g (Some (standing f k)) (Some (past x h l)) ok u same e =
    let z : answered i g (life_by f.phase f.here (body f k)) ≡ ended x (body h l) = cc in
    phase_cause largest moments f.copy f.phase f.here x u (life_cause i g f.phase f.here (body f k) (body h l) x ok z)

settled_ends : (largest : ℕ) (moments : List ℕ) (i : ℕ) (g : Mark → Body → Course) (r : Reply) (ps : List Output) (a : rules.Answer) (rest : List Answer) (w : World)
    → r ≡ says ps → Agrees i g r a w → ((m : Mark) (d : Body) → CourseOk m (g m d)) → AllUnsent largest w.copies → AllEnd largest moments w (replied a rest w)
settled_ends largest moments i g r ps a rest w said agrees ok u n =
    let v = replied a rest w in
    let e : lives.replied (says ps) rest (map (answered i g) (map life w.copies)) (seen w) ≡ seen v =
    subst (λ x. lives.replied x rest (map (answered i g) (map life w.copies)) (seen w) ≡ seen v) said (agrees_up i g r a w rest agrees) in
    let c : map (answered i g) (map life w.copies) ≡ map life v.copies = ap (λ v. v.copies) e in
    let was : slice_get (map (answered i g) (map life w.copies)) n ≡ option_map (answered i g) (option_map life (slice_get w.copies n)) =
    slice_get-map (answered i g) (map life w.copies) n ∙ ap (option_map (answered i g)) (slice_get-map life w.copies n) in
    let is : slice_get (map life v.copies) n ≡ option_map life (slice_get v.copies n) = slice_get-map life v.copies n in
    lot_cause largest moments i g (slice_get w.copies n) (slice_get v.copies n) ok (unsent_get largest w.copies n u) (same_replied a rest w n) (sym was ∙ ap (λ fs. slice_get fs n) c ∙ is)

puback_ok : (code : ℕ) → code ≡ 0 → (m : Mark) (d : Body) → CourseOk m (on_puback code m d)
puback_ok code z (sent h) d = ⊎_elim
    (λ (t : d.twice ≡ true). rw (z, t) tt)
    (λ (t : d.twice ≡ false). rw (z, t) refl)
    (test_cases d.twice)
puback_ok code z (released h t) d = tt

pubrec_ok : (code : ℕ) → code ≡ 0 → (m : Mark) (d : Body) → CourseOk m (on_pubrec code m d)
pubrec_ok code z (sent h) d = ⊎_elim
    (λ (t : d.twice ≡ true). rw (z, t) tt)
    (λ (t : d.twice ≡ false). rw (z, t) tt)
    (test_cases d.twice)
pubrec_ok code z (released h t) d = tt

pubcomp_ok : (m : Mark) (d : Body) → CourseOk m (on_pubcomp m d)
pubcomp_ok (sent h) d = tt
pubcomp_ok (released h true) d = refl
pubcomp_ok (released h false) d = refl

up_ends : (largest : ℕ) (moments : List ℕ) (up : List Answer) (w : World) → w.up ≡ up → w.linked ≡ true → IsHeard w.linked up → Norm (seen w) → Sound largest w → AllUnsent largest w.copies → AllEnd largest moments w (up_comes false up w)
up_ends largest moments [] w u h heard inv s un = λ n. ends_same largest moments (slice_get w.copies n)
up_ends largest moments (connect c ∷ rest) w u h heard inv s un = let z : w.linked ≡ false = heard in absurd (cc)
up_ends largest moments (puback i code ∷ rest) w u h heard inv s un =
    let at = at_up (seen w) (puback i code ∷ rest) u inv i in
    let came = puback_came at.0 at.1 in
    let one = one_unique i came.number (sent true) came.body w came.holds in
    let found : find i (map life w.copies) ≡ Some (sent true, came.body) = find-held i 0 (map life w.copies) ∙ ap first_of came.holds in
    settled_ends largest moments i (on_puback code) (puback_reply (find i (map life w.copies))) [] (rules.puback i code (queue_of w.copies)) rest w
    (puback_said (find i (map life w.copies)) came.body found came.twice) (agree_puback i code w largest s one) (puback_ok code came.of_code) un
up_ends largest moments (pubrec i code ∷ rest) w u h heard inv s un =
    let at = at_up (seen w) (pubrec i code ∷ rest) u inv i in
    let came = pubrec_came at.0 at.1 in
    let one = one_unique i came.number (sent true) came.body w came.holds in
    let found : find i (map life w.copies) ≡ Some (sent true, came.body) = find-held i 0 (map life w.copies) ∙ ap first_of came.holds in
    settled_ends largest moments i (on_pubrec code) (pubrec_reply i code (find i (map life w.copies))) (pubrel i 0 ∷ []) (rules.pubrec i code (queue_of w.copies)) rest w
    (pubrec_said i code (find i (map life w.copies)) came.body found came.of_code came.twice) (agree_pubrec i code w largest s one) (pubrec_ok code came.of_code) un
up_ends largest moments (pubcomp i code ∷ rest) w u h heard inv s un =
    let at = at_up (seen w) (pubcomp i code ∷ rest) u inv i in
    let came = pubcomp_came at.0 at.1 in
    let one = one_unique i came.number (released came.here came.taken) came.body w came.holds in
    let found : find i (map life w.copies) ≡ Some (released came.here came.taken, came.body) = find-held i 0 (map life w.copies) ∙ ap first_of came.holds in
    settled_ends largest moments i on_pubcomp (pubcomp_reply (find i (map life w.copies))) [] (rules.pubcomp i (queue_of w.copies)) rest w
    (pubcomp_said (find i (map life w.copies)) came.here came.taken came.body found) (agree_pubcomp i w largest s one) pubcomp_ok un

answer_ends : (largest : ℕ) (moments : List ℕ) (w : World) → Reached largest w → w.linked ≡ true → AllEnd largest moments w (step largest w (to_broker false))
answer_ends largest moments w r h = up_ends largest moments w.up w refl h (heard_of w (good_at largest w r)) (norm_at largest w r h) (sound_at largest w r) (unsent_at largest w r)

brokers_end : (largest : ℕ) (moments : List ℕ) (k : ℕ) (w : World) → Reached largest w → w.linked ≡ true → AllEnd largest moments w (run largest (times k (to_broker false)) w)
brokers_end largest moments zero w r h = λ n. ends_same largest moments (slice_get w.copies n)
brokers_end largest moments (suc k) w r h =
    let v = step largest w (to_broker false) in
    let rv = reached_on largest w r (to_broker false ∷ []) in
    all_trans largest moments w v (run largest (times k (to_broker false)) v) (answer_ends largest moments w r h) (brokers_end largest moments k v rv (up_linked largest w.up w refl r h))
    (goes_on largest v rv (times k (to_broker false)))

-- ---- a round, and a drain

round_ends : (largest window now : ℕ) (w : World) → Reached largest w → w.linked ≡ true → AllEnd largest (now ∷ []) w (after_round largest window now w)
round_ends largest window now w r h =
    let v = step largest w (hop.pump window now) in
    let rv = reached_on largest w r (hop.pump window now ∷ []) in
    let way : Way = record { window = window; largest = largest; now = now } in
    let lv : v.linked ≡ true = turns_linked (pump way (queue_of w.copies)) w ∙ h in
    let u = run largest (all_to_end v) v in
    let ru = reached_on largest v rv (all_to_end v) in
    let lu = (ends_back largest v rv lv).0 in
    let z = run largest (all_to_broker u) u in
    let read : AllEnd largest (now ∷ []) w u =
    λ n. subst (λ ls. EndsOn largest (now ∷ []) (slice_get w.copies n) (slice_get ls n)) (sym (ends_copies largest (length v.down) v)) (pump_ends largest window now w (sound_at largest w r) n) in
    subst (AllEnd largest (now ∷ []) w) (sym (round_run largest window now w))
    (all_trans largest (now ∷ []) w u z read (brokers_end largest (now ∷ []) (length u.up) u ru lu) (goes_on largest u ru (all_to_broker u)))

drain_run : (largest window : ℕ) (moments : List ℕ) (w : World) → (later : List Event) × (drained largest window moments w ≡ run largest later w)
drain_run largest window [] w = ([], refl)
drain_run largest window (now ∷ moments) w = ⊎_elim
    (λ (o : is_over w ≡ true). ([], rw o refl))
    (λ (o : is_over w ≡ false).
    let d = drain_run largest window moments (after_round largest window now w) in
    (round_events largest window now w ++ d.0, rw o (d.1 ∙ sym (run_after largest (round_events largest window now w) d.0 w))))
    (test_cases (is_over w))

-- a drain of the hop goes on
pub drain_goes_on : (largest window : ℕ) (moments : List ℕ) (w : World) → Reached largest w → GoOn w (drained largest window moments w)
drain_goes_on largest window moments w r = let d = drain_run largest window moments w in subst (GoOn w) (sym d.1) (goes_on largest w r d.0)

one_more : (now : ℕ) (moments : List ℕ) (f : ℕ → Bool) → Has f (now ∷ []) → Has f (now ∷ moments)
one_more now moments f (inl e) = inl e
one_more now moments f (inr h) = absurd h

drain_ends : (largest window : ℕ) (moments : List ℕ) (w : World) → Reached largest w → 1 ≤ window → AllEnd largest (take (rounds_taken largest window moments w) moments) w (drained largest window moments w)
drain_ends largest window [] w r room n = ends_same largest [] (slice_get w.copies n)
drain_ends largest window (now ∷ moments) w r room n = ⊎_elim
    (λ (o : is_over w ≡ true). rw o (ends_same largest [] (slice_get w.copies n)))
    (λ (o : is_over w ≡ false).
    let v = after_round largest window now w in
    let rv = reached_round largest window now w r in
    let h = (either_false (is_none_left (length (queue_of w.copies))) w.linked o).1 in
    let z = drained largest window moments v in
    let on : GoOn v z = drain_goes_on largest window moments v rv in
    let rest = take (rounds_taken largest window moments v) moments in
    let first = all_more largest (now ∷ []) (now ∷ rest) w v (one_more now rest) (round_ends largest window now w r h) in
    let later = all_more largest rest (now ∷ rest) v z (λ f x. inr x) (drain_ends largest window moments v rv room) in
    rw o (all_trans largest (now ∷ rest) w v z first later on n))
    (test_cases (is_over w))

-- a copy that ends in a drain ends by a cause of one of its rounds
pub causes_of_run : (largest window : ℕ) (moments : List ℕ) (events : List Event) (n : ℕ) → 1 ≤ window
    → EndsBy largest (take (rounds_taken largest window moments (run largest events start)) moments) (slice_get (run largest events start).copies n) (slice_get (drained largest window moments (run largest events start)).copies n)
causes_of_run largest window moments events n room =
    let w = run largest events start in
    let v = drained largest window moments w in
    told_so largest (take (rounds_taken largest window moments w) moments) (slice_get w.copies n) (slice_get v.copies n) (drain_ends largest window moments w (events, refl) room n)
    (drain_goes_on largest window moments w (events, refl) n)

-- ---- with copies that make way

-- two passings one behind the other are one
pub passes_trans : (largest : ℕ) (moments : List ℕ) (o p q : Option Lot) → EndsOrDrops largest moments o p → EndsOrDrops largest moments p q → EndsOrDrops largest moments o q
passes_trans largest moments None p q a b = tt
passes_trans largest moments (Some (standing e m)) None q a b = absurd a
passes_trans largest moments (Some (standing e m)) (Some (standing f k)) None a b = absurd b
passes_trans largest moments (Some (standing e m)) (Some (standing f k)) (Some (standing z l)) a b = b ∙ a
passes_trans largest moments (Some (standing e m)) (Some (standing f k)) (Some (past y z l)) a b = subst (λ (copy : QueuedCopy). (y ≡ Dropped) ⊎ IsDrainCause largest moments copy y) a b
passes_trans largest moments (Some (standing e m)) (Some (past x f k)) None a b = absurd b
passes_trans largest moments (Some (standing e m)) (Some (past x f k)) (Some (standing z l)) a b = absurd b
passes_trans largest moments (Some (standing e m)) (Some (past x f k)) (Some (past y z l)) a b = subst (λ (v : Ending). (v ≡ Dropped) ⊎ IsDrainCause largest moments e.copy v) (sym b) a
passes_trans largest moments (Some (past x e m)) None q a b = absurd a
passes_trans largest moments (Some (past x e m)) (Some (standing f k)) q a b = absurd a
passes_trans largest moments (Some (past x e m)) (Some (past y f k)) None a b = absurd b
passes_trans largest moments (Some (past x e m)) (Some (past y f k)) (Some (standing z l)) a b = absurd b
passes_trans largest moments (Some (past x e m)) (Some (past y f k)) (Some (past v z l)) a b = b ∙ a

-- by a run of the hop, and if a copy enters
pub drops_none : (largest : ℕ) (moments : List ℕ) (o p : Option Lot) → EndsBy largest moments o p → EndsOrDrops largest moments o p
drops_none largest moments None p a = tt
drops_none largest moments (Some (standing e m)) None a = a
drops_none largest moments (Some (standing e m)) (Some (standing f k)) a = a
drops_none largest moments (Some (standing e m)) (Some (past x f k)) a = inr a
drops_none largest moments (Some (past x e m)) None a = a
drops_none largest moments (Some (past x e m)) (Some (standing f k)) a = a
drops_none largest moments (Some (past x e m)) (Some (past y f k)) a = a

-- a copy that has ended rests
pub ended_rests : (largest : ℕ) (moments : List ℕ) (o p : Option Lot) → EndsBy largest moments o p → Rests o p
ended_rests largest moments None p a = tt
ended_rests largest moments (Some (standing e m)) p a = tt
ended_rests largest moments (Some (past x e m)) None a = tt
ended_rests largest moments (Some (past x e m)) (Some (standing f k)) a = a
ended_rests largest moments (Some (past x e m)) (Some (past y f k)) a = tt

passes_run : (largest : ℕ) (moments : List ℕ) (o p : Option Lot) → EndsOn largest moments o p → GoesOn o p → EndsOrDrops largest moments o p
passes_run largest moments o p a h = drops_none largest moments o p (told_so largest moments o p a h)

-- one that made way was dropped
pub passes_way : (largest : ℕ) (moments : List ℕ) (o p : Option Lot) → MakesWay o p → EndsOrDrops largest moments o p
passes_way largest moments None p a = tt
passes_way largest moments (Some (standing e m)) None a = a
passes_way largest moments (Some (standing e m)) (Some (standing f k)) a = a
passes_way largest moments (Some (standing e m)) (Some (past x f k)) a = inl a
passes_way largest moments (Some (past x e m)) None a = a
passes_way largest moments (Some (past x e m)) (Some (standing f k)) a = a
passes_way largest moments (Some (past x e m)) (Some (past y f k)) a = a

-- so does one that ends by a pump
pub pump_passes : (largest window now n : ℕ) (w : World) → Reached largest w → EndsOrDrops largest (now ∷ []) (slice_get w.copies n) (slice_get (step largest w (hop.pump window now)).copies n)
pump_passes largest window now n w r =
    passes_run largest (now ∷ []) (slice_get w.copies n) (slice_get (step largest w (hop.pump window now)).copies n) (pump_ends largest window now w (sound_at largest w r) n) (goes_on largest w r (hop.pump window now ∷ []) n)

-- a copy that ends by answers ends by a cause, or was dropped
pub answers_pass : (largest : ℕ) (moments : List ℕ) (k n : ℕ) (w : World) → Reached largest w → w.linked ≡ true → EndsOrDrops largest moments (slice_get w.copies n) (slice_get (run largest (times k (to_broker false)) w).copies n)
answers_pass largest moments k n w r h =
    passes_run largest moments (slice_get w.copies n) (slice_get (run largest (times k (to_broker false)) w).copies n) (brokers_end largest moments k w r h n) (goes_on largest w r (times k (to_broker false)) n)
