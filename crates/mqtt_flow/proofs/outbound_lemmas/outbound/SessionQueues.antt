-- A pump, an expiry and a copy that enters, seen from the copies.
use Rattle.std.proofs.Common.{◌≡◌, ⊎_elim, ℕ, zero, suc, ◌+◌, ◌||◌, Bool, true, false, List, [], ◌∷◌, ◌++◌, length, map, nat_eq, nat_lt, refl, sym, ap, subst, ◌∙◌, arith}
use Rattle.std.proofs.lemmas.Bool.Decides.{nat_tests}
use Rattle.mqtt_base.specs.declared.Ending.{Ending}
use Rattle.mqtt_base.specs.declared.Qos.{Qos}
use Rattle.mqtt_base.specs.declared.Qos.TheVariants.{AtMostOnce, AtLeastOnce, ExactlyOnce}
use Rattle.mqtt_base.specs.declared.Phase.{Phase}
use Rattle.mqtt_base.specs.declared.Phase.TheVariants.{Waiting, Sent, Released, Oversize}
use Rattle.mqtt_flow.specs.declared.outbound.entry.Entry.{Entry}
use Rattle.mqtt_flow.specs.declared.outbound.entry.QueuedCopy.{QueuedCopy}
use Rattle.mqtt_flow.specs.declared.outbound.entry.Turn.{Turn}
use Rattle.mqtt_flow.specs.declared.outbound.entry.Turn.TheVariants.{Send, Resend, Leave}
use Rattle.mqtt_flow.specs.declared.outbound.entry.Way.{Way}
use Rattle.mqtt_flow.specs.declared.outbound.pump.Step.TheVariants.{Stop, GoOn, Take}
use Rattle.mqtt_flow.specs.inbound.Identifiers.{is_among, free_identifier}
use Rattle.mqtt_flow.specs.outbound.Pacing.{Pacing}
use Rattle.mqtt_flow.specs.outbound.Queue.{Ascends}
use Rattle.mqtt_flow.specs.outbound.Outbound.{is_late, is_large, pump_step}
use Rattle.mqtt_flow.specs.inbound.Line.{sent_on}
use Rattle.mqtt_flow.specs.outbound.Receiver.{publish}
use Rattle.mqtt_flow.proofs.outbound_lemmas.outbound.Lives.{Life, waiting, in_flight, ended, sent, released, Lapse, is_dropped, cause, lapsed, lapse_at, pumped, pump_sends, pids}
use Rattle.mqtt_flow.proofs.outbound_lemmas.outbound.Lives as copies
use Rattle.mqtt_flow.proofs.outbound_lemmas.outbound.LivesWorld as lives
use Rattle.mqtt_flow.proofs.outbound_lemmas.outbound.LivesWorld.{unused_of}
use Rattle.mqtt_flow.specs.outbound.OutboundWorld.{TopicAndPayload, Lot, standing, past, queue_of, World, body, lot_after, lots_after, sends, packets, told, take_turn}
use Rattle.mqtt_flow.proofs.inbound_lemmas.Identifiers.{test_cases, same_id}
use Rattle.mqtt_flow.proofs.outbound_lemmas.outbound.SessionLives.{life, life_by, seen, placed-after, IsAt, split-after, sends-split, misses_before, life-append, Passed, AllPassed, pumped-split, pump_sends-split, lapse_at-split}

-- a sent copy is within the receiver's Maximum Packet Size, since that is the same on each of its lines
abbrev pub IsGranted : Qos → Type 0
IsGranted AtMostOnce = ⊥
IsGranted AtLeastOnce = Unit {0}
IsGranted ExactlyOnce = Unit {0}

abbrev pub FitPhase : ℕ → QueuedCopy → Phase → Type 0
FitPhase largest copy Waiting = Unit {0}
FitPhase largest copy (Sent i) = nat_lt largest copy.size ≡ false
FitPhase largest copy (Released i order) = Unit {0}
FitPhase largest copy (Oversize i order) = Unit {0}

abbrev pub Fit : ℕ → Lot → Type 0
Fit largest (standing e m) = IsGranted e.copy.qos × FitPhase largest e.copy e.phase
Fit largest (past x e m) = Unit {0}

abbrev pub AllFit : ℕ → List Lot → Type 0
AllFit largest [] = Unit {0}
AllFit largest (l ∷ ls) = Fit largest l × AllFit largest ls

-- places ascend, and a copy that was sent is within the receiver's Maximum Packet Size
pub record Sound (largest : ℕ) (w : World) : Type 0 where
  pub placed : Ascends (queue_of w.copies)
  pub fit : AllFit largest w.copies

-- a world of the copies goes along
pub record Leads (largest : ℕ) (w w' : World) : Type 0 where
  pub events : List lives.Event
  pub same : lives.run events (seen w) ≡ seen w'
  pub sound : Sound largest w'

run-append : (es fs : List lives.Event) (v : lives.World) → lives.run (es ++ fs) v ≡ lives.run fs (lives.run es v)
run-append [] fs v = refl
run-append (e ∷ es) fs v = run-append es fs (lives.step v e)

-- if nothing happens the world of the copies follows by doing nothing
pub leads_not : (largest : ℕ) (w : World) → Sound largest w → Leads largest w w
leads_not largest w s = record { events = []; same = refl; sound = s }

-- if the world of the copies follows one step and then another, it follows both
pub leads_on : {largest : ℕ} {w w' w'' : World} → Leads largest w w' → Leads largest w' w'' → Leads largest w w''
leads_on {w = w} a b = record { events = a.events ++ b.events; same = run-append a.events b.events (seen w) ∙ ap (lives.run b.events) a.same ∙ b.same; sound = b.sound }

fit-at : (largest : ℕ) (xs : List Lot) (l : Lot) (ys : List Lot) → AllFit largest (xs ++ l ∷ ys) → Fit largest l
fit-at largest [] l ys h = h.0
fit-at largest (x ∷ xs) l ys h = fit-at largest xs l ys h.1

-- one copy changed to one that fits leaves all fitting
pub fit-change : (largest : ℕ) (xs : List Lot) (l k : Lot) (ys : List Lot) → Fit largest k → AllFit largest (xs ++ l ∷ ys) → AllFit largest (xs ++ k ∷ ys)
fit-change largest [] l k ys f h = (f, h.1)
fit-change largest (x ∷ xs) l k ys f h = (h.0, fit-change largest xs l k ys f h.1)

-- each copy that stands fits
pub fit_here : (largest : ℕ) (xs : List Lot) (e : Entry) (m : TopicAndPayload) (ys : List Lot) → AllFit largest (xs ++ standing e m ∷ ys) → IsGranted e.copy.qos × FitPhase largest e.copy e.phase
fit_here largest xs e m ys h = fit-at largest xs (standing e m) ys h

-- a copy that waits ends
pub left : (place : ℕ) (ending : Ending) (e : Entry) (m : TopicAndPayload) → e.place ≡ place → lot_after (Leave place ending) (standing e m) ≡ past ending e m
left place ending e m h = let same = same_id place in rw (h, same) refl

-- the turn by which a copy leaves ends that copy and leaves the others
pub lapse_copies : (l : Lapse) (xs : List Lot) (e : Entry) (m : TopicAndPayload) (ys ls : List Lot) → ls ≡ xs ++ standing e m ∷ ys → Ascends (queue_of ls) → lots_after (Leave e.place (cause l)) ls ≡ xs ++ past (cause l) e m ∷ ys
lapse_copies l xs e m ys ls q h =
    ap (lots_after (Leave e.place (cause l))) q
    ∙ split-after (Leave e.place (cause l)) xs e m ys (subst (λ k. Ascends (queue_of k)) q h) refl
    ∙ ap (λ k. xs ++ k ∷ ys) (left e.place (cause l) e m refl)

lapse_lives : (l : Lapse) (xs : List Lot) (e : Entry) (m : TopicAndPayload) (ys : List Lot) → e.phase ≡ Waiting → lapse_at l (length xs) (map life (xs ++ standing e m ∷ ys)) ≡ map life (xs ++ past (cause l) e m ∷ ys)
lapse_lives l xs e m ys ph =
    ap (lapse_at l (length xs)) (life-append xs (standing e m ∷ ys))
    ∙ lapse_at-split l xs (life (standing e m)) (map life ys)
    ∙ ap (λ f. map life xs ++ lapsed l f ∷ map life ys) (ap (λ p. life_by p e.here (body e m)) ph)
    ∙ sym (life-append xs (past (cause l) e m ∷ ys))

-- the world of the copies follows a copy that waits and leaves
pub lapse_leads : (largest : ℕ) (l : Lapse) (xs : List Lot) (e : Entry) (m : TopicAndPayload) (ys : List Lot) (w : World) → w.copies ≡ xs ++ standing e m ∷ ys → e.phase ≡ Waiting → Sound largest w → Leads largest w (take_turn (Leave e.place (cause l)) w)
lapse_leads largest l xs e m ys w q ph s =
    let moved = lapse_copies l xs e m ys w.copies q s.placed in
    record {
      events = lives.finish l (length xs) ∷ [];
      same = ap (λ c. record (seen w) { copies = c }) (ap (λ k. lapse_at l (length xs) (map life k)) q ∙ lapse_lives l xs e m ys ph ∙ sym (ap (map life) moved));
      sound = record {
        placed = placed-after (Leave e.place (cause l)) w.copies s.placed;
        fit = subst (AllFit largest) (sym moved) (fit-change largest xs (standing e m) (past (cause l) e m) ys tt (subst (AllFit largest) q s.fit));
      };
    }

-- a copy is sent
pub send_leads : (largest : ℕ) (t : Turn) (c i : ℕ) (dup : Bool) (xs : List Lot) (e f : Entry) (m : TopicAndPayload) (ys : List Lot) (w : World)
    → w.copies ≡ xs ++ standing e m ∷ ys → IsAt e.place t → lot_after t (standing e m) ≡ standing f m
    → ((ls : List Lot) → packets t ls ≡ sends dup i e.place 0 ls)
    → AllPassed xs
    → ((gs : List Life) → pumped (unused_of c (pids (map life w.copies))) (life (standing e m) ∷ gs) ≡ life (standing f m) ∷ gs)
    → ((n : ℕ) (gs : List Life) → pump_sends (unused_of c (pids (map life w.copies))) n (life (standing e m) ∷ gs) ≡ publish i n dup (body e m) ∷ [])
    → Fit largest (standing f m) → Sound largest w
    → Leads largest w (take_turn t w) × ((take_turn t w).copies ≡ xs ++ standing f m ∷ ys)
send_leads largest t c i dup xs e f m ys w q at made out passed goes_up tells fit s =
    let u = unused_of c (pids (map life w.copies)) in
    let placed = subst (λ k. Ascends (queue_of k)) q s.placed in
    let moved : lots_after t w.copies ≡ xs ++ standing f m ∷ ys = ap (lots_after t) q ∙ split-after t xs e m ys placed at ∙ ap (λ k. xs ++ k ∷ ys) made in
    let one : packets t w.copies ≡ publish i (0 + length xs) dup (body e m) ∷ [] = out w.copies ∙ ap (sends dup i e.place 0) q ∙ sends-split dup i 0 xs e m ys (misses_before xs e m ys placed) in
    let split : map life w.copies ≡ map life xs ++ life (standing e m) ∷ map life ys = ap (map life) q ∙ life-append xs (standing e m ∷ ys) in
    let up : pumped u (map life w.copies) ≡ map life (lots_after t w.copies) = ap (pumped u) split ∙ pumped-split u xs (life (standing e m)) (life (standing f m)) (map life ys) passed (goes_up (map life ys)) ∙ sym (ap (map life) moved ∙ life-append xs (standing f m ∷ ys)) in
    let said : pump_sends u 0 (map life w.copies) ≡ publish i (0 + length xs) dup (body e m) ∷ [] = ap (pump_sends u 0) split ∙ pump_sends-split u 0 xs (life (standing e m) ∷ map life ys) passed ∙ tells (0 + length xs) (map life ys) in
    let w1 = record w { copies = lots_after t w.copies } in
    let turned : take_turn t w ≡ told (publish i (0 + length xs) dup (body e m) ∷ []) w1 = ap (λ ps. told ps w1) one in (
      record {
        events = lives.pump c ∷ [];
        same =
            ap (λ k. record (seen w) { copies = k; down = sent_on w.linked w.down (pump_sends u 0 (map life w.copies)) }) up
            ∙ ap (λ ps. record (seen w) { copies = map life (lots_after t w.copies); down = sent_on w.linked w.down ps }) said
            ∙ sym (ap seen turned);
        sound = subst (Sound largest) (sym turned) (record {
          placed = placed-after t w.copies s.placed;
          fit = subst (AllFit largest) (sym moved) (fit-change largest xs (standing e m) (standing f m) ys fit (subst (AllFit largest) q s.fit));
        });
      },
      ap (λ v. v.copies) turned ∙ moved,
    )

-- what a pump does at an entry, by cases
pub data Steps (way : Way) (p : Pacing) (e : Entry) : Type 0 where
  stops : pump_step way p e ≡ Stop → Steps way p e
  passes : pump_step way p e ≡ GoOn → Passed e.phase e.here → Steps way p e
  lapses : (l : Lapse) → pump_step way p e ≡ Take (Leave e.place (cause l)) → e.phase ≡ Waiting → Steps way p e
  begins : pump_step way p e ≡ Take (Send e.place (free_identifier p.used)) → e.phase ≡ Waiting → is_large way e.copy ≡ false → Steps way p e
  repeats : (i : ℕ) → pump_step way p e ≡ Take (Resend e.place i) → e.phase ≡ Sent i → e.here ≡ false → Steps way p e

-- what a pump does at an entry is one of these cases
pub steps_at : (way : Way) (p : Pacing) (e : Entry) (left room : ℕ) (phase : Phase) → p.left ≡ left → p.room ≡ room → e.phase ≡ phase → FitPhase way.largest e.copy phase → Steps way p e
steps_at way p e zero room phase l r ph fit = stops (rw l refl)
steps_at way p e (suc k) zero Waiting l r ph fit = ⊎_elim
    (λ (t : is_late way.now e.copy ≡ true). lapses copies.is_late (rw (l, ph, t) refl) ph)
    (λ (t : is_late way.now e.copy ≡ false). ⊎_elim
    (λ (g : is_large way e.copy ≡ true). lapses copies.is_large (rw (l, ph, t, g) refl) ph)
    (λ (g : is_large way e.copy ≡ false). stops (rw (l, ph, t, g, r) refl))
    (test_cases (is_large way e.copy)))
    (test_cases (is_late way.now e.copy))
steps_at way p e (suc k) (suc room) Waiting l r ph fit = ⊎_elim
    (λ (t : is_late way.now e.copy ≡ true). lapses copies.is_late (rw (l, ph, t) refl) ph)
    (λ (t : is_late way.now e.copy ≡ false). ⊎_elim
    (λ (g : is_large way e.copy ≡ true). lapses copies.is_large (rw (l, ph, t, g) refl) ph)
    (λ (g : is_large way e.copy ≡ false). begins (rw (l, ph, t, g, r) refl) ph g)
    (test_cases (is_large way e.copy)))
    (test_cases (is_late way.now e.copy))
steps_at way p e (suc k) room (Sent i) l r ph fit = ⊎_elim
    (λ (t : e.here ≡ true). passes (rw (l, ph, t) refl) (rw ph t))
    (λ (t : e.here ≡ false). resending room r t)
    (test_cases e.here)
  where
    resending : (room : ℕ) → p.room ≡ room → e.here ≡ false → Steps way p e
    resending zero r t = stops (rw (l, ph, t, fit, r) refl)
    resending (suc room) r t = repeats i (rw (l, ph, t, fit, r) refl) ph t
steps_at way p e (suc k) room (Released i order) l r ph fit = passes (rw (l, ph) refl) (rw ph tt)
steps_at way p e (suc k) room (Oversize i order) l r ph fit = passes (rw (l, ph) refl) (rw ph tt)

-- copies that a pump passes are passed with one more behind them that is
pub passed-push : (xs : List Lot) (e : Entry) (m : TopicAndPayload) → AllPassed xs → Passed e.phase e.here → AllPassed (xs ++ standing e m ∷ [])
passed-push [] e m h p = (p, tt)
passed-push (past x f n ∷ xs) e m h p = passed-push xs e m h p
passed-push (standing f n ∷ xs) e m h p = (h.0, passed-push xs e m h.1 p)

-- copies that a pump passes are passed with one more behind them that has ended
pub passed-past : (xs : List Lot) (x : Ending) (e : Entry) (m : TopicAndPayload) → AllPassed xs → AllPassed (xs ++ past x e m ∷ [])
passed-past [] x e m h = tt
passed-past (past y f n ∷ xs) x e m h = passed-past xs x e m h
passed-past (standing f n ∷ xs) x e m h = (h.0, passed-past xs x e m h.1)

-- the first item behind others may be put to these
pub shift : {X : Type 0} (xs : List X) (x : X) (ys : List X) → xs ++ x ∷ ys ≡ (xs ++ x ∷ []) ++ ys
shift [] x ys = refl
shift (z ∷ xs) x ys = ap (λ zs. z ∷ zs) (shift xs x ys)

-- the identifiers in use, seen from the copies
pub pids-append : (fs gs : List Life) → pids (fs ++ gs) ≡ pids fs ++ pids gs
pids-append [] gs = refl
pids-append (waiting b ∷ fs) gs = pids-append fs gs
pids-append (in_flight i q b ∷ fs) gs = ap (λ is. i ∷ is) (pids-append fs gs)
pids-append (ended x b ∷ fs) gs = pids-append fs gs

-- an identifier is among others and one more if it is among the others or is that one
pub has-insert : (j i : ℕ) (is js : List ℕ) → is_among j (is ++ i ∷ js) ≡ (is_among j (is ++ js) || nat_eq j i)
has-insert j i [] js = grind (arith, nat_tests)
has-insert j i (x ∷ is) js = let h = has-insert j i is js in grind (arith, nat_tests, h)

abbrev pub Uses : Pacing → World → Type 0
Uses p w = (j : ℕ) → is_among j p.used ≡ is_among j (pids (map life w.copies))

-- a copy that changes and keeps its identifier leaves the identifiers in use
pub same_pids : (xs : List Lot) (l k : Lot) (ys : List Lot) → ((fs : List Life) → pids (life l ∷ fs) ≡ pids (life k ∷ fs)) → pids (map life (xs ++ l ∷ ys)) ≡ pids (map life (xs ++ k ∷ ys))
same_pids xs l k ys h =
    ap pids (life-append xs (l ∷ ys)) ∙ pids-append (map life xs) (life l ∷ map life ys)
    ∙ ap (λ is. pids (map life xs) ++ is) (h (map life ys))
    ∙ sym (ap pids (life-append xs (k ∷ ys)) ∙ pids-append (map life xs) (life k ∷ map life ys))
