-- A pump, an expiry and a full queue, walked along the queue and along the copies.
use Rattle.std.proofs.Common.{◌≡◌, ⊎_elim, ℕ, zero, suc, ◌||◌, Bool, true, false, ◌&&◌, List, [], ◌∷◌, ◌++◌, map, nat_eq, nat_lt, refl, sym, ap, subst, ◌∙◌}
use Rattle.mqtt_base.specs.Phases.{identifier_of}
use Rattle.mqtt_base.specs.declared.Ending.TheVariants.{Expired, Dropped}
use Rattle.mqtt_base.specs.declared.Phase.{Phase}
use Rattle.mqtt_base.specs.declared.Phase.TheVariants.{Waiting, Sent, Released, Oversize}
use Rattle.mqtt_flow.specs.declared.outbound.entry.Entry.{Entry}
use Rattle.mqtt_flow.specs.declared.outbound.entry.Turn.TheVariants.{Send, Resend, Leave}
use Rattle.mqtt_flow.specs.declared.outbound.entry.Way.{Way}
use Rattle.mqtt_flow.specs.inbound.Identifiers.{is_among, free_identifier}
use Rattle.mqtt_flow.specs.outbound.Pacing.{Pacing}
use Rattle.mqtt_flow.specs.outbound.Queue.{Ascends, identifiers, also}
use Rattle.mqtt_flow.specs.outbound.Outbound.{is_late, is_waiting, gives_way, dropped, expired, paced, freed, then_on, pump_from, pump, pace}
use Rattle.mqtt_flow.specs.outbound.Receiver.{Body}
use Rattle.mqtt_flow.proofs.outbound_lemmas.outbound.Lives.{Life, in_flight, sent, Lapse, cause, pumped, pump_sends, pids}
use Rattle.mqtt_flow.proofs.outbound_lemmas.outbound.Lives as copies
use Rattle.mqtt_flow.proofs.outbound_lemmas.outbound.LivesWorld.{unused_of}
use Rattle.mqtt_flow.specs.outbound.OutboundWorld.{TopicAndPayload, Lot, standing, past, queue_of, World, body, take_turn, take_turns}
use Rattle.mqtt_flow.proofs.inbound_lemmas.Identifiers.{test_cases, same_id, is_among-push, free_is_free}
use Rattle.mqtt_flow.proofs.outbound_lemmas.outbound.SessionLives.{life, life_by, life-append, AllPassed}
use Rattle.mqtt_flow.proofs.outbound_lemmas.outbound.SessionQueues.{AllFit, fit_here, Sound, Leads, leads_not, leads_on, lapse_copies, lapse_leads, send_leads, Steps, stops, passes, lapses, begins, repeats, steps_at, passed-push, passed-past, shift, pids-append, has-insert, Uses, same_pids}

unused_same : (i : ℕ) (used : List ℕ) → is_among i used ≡ false → unused_of i used ≡ i
unused_same i used h = rw h refl

-- the rest of a walk
abbrev Later : Way → List Lot → List Lot → Type 0
Later way xs ys = (l : Lot) → AllPassed (xs ++ l ∷ []) → (p : Pacing) (w : World) → w.copies ≡ (xs ++ l ∷ []) ++ ys → Uses p w → Sound way.largest w → Leads way.largest w (take_turns (pump_from way (queue_of ys) p) w)

uses_lapse : (l : Lapse) (xs : List Lot) (e : Entry) (m : TopicAndPayload) (ys : List Lot) (p : Pacing) (w : World) → w.copies ≡ xs ++ standing e m ∷ ys → e.phase ≡ Waiting → Ascends (queue_of w.copies) → Uses p w → Uses (paced (Leave e.place (cause l)) e.phase p) (take_turn (Leave e.place (cause l)) w)
uses_lapse l xs e m ys p w q ph h uses = λ j.
    ap (λ phase. is_among j (freed phase p.used)) ph ∙ uses j ∙ ap (λ ls. is_among j (pids (map life ls))) q
    ∙ ap (is_among j) (same_pids xs (standing e m) (past (cause l) e m) ys (λ fs. rw ph refl))
    ∙ sym (ap (λ ls. is_among j (pids (map life ls))) (lapse_copies l xs e m ys w.copies q h))

pids_at : (xs : List Lot) (l : Lot) (ys : List Lot) → pids (map life (xs ++ l ∷ ys)) ≡ pids (map life xs) ++ pids (life l ∷ map life ys)
pids_at xs l ys = ap pids (life-append xs (l ∷ ys)) ∙ pids-append (map life xs) (life l ∷ map life ys)

walk_step : (way : Way) (e : Entry) (m : TopicAndPayload) (ys xs : List Lot) (p : Pacing) (w : World) → w.copies ≡ xs ++ standing e m ∷ ys → AllPassed xs → Uses p w → Sound way.largest w → Later way xs ys → Steps way p e → Leads way.largest w (take_turns (pump_from way (queue_of (standing e m ∷ ys)) p) w)
walk_step way e m ys xs p w q passed uses s later (stops z) =
    subst (λ st. Leads way.largest w (take_turns (then_on st e.phase p (pump_from way (queue_of ys))) w)) (sym z) (leads_not way.largest w s)
walk_step way e m ys xs p w q passed uses s later (passes z h) =
    subst (λ st. Leads way.largest w (take_turns (then_on st e.phase p (pump_from way (queue_of ys))) w)) (sym z)
    (later (standing e m) (passed-push xs e m passed h) p w (q ∙ shift xs (standing e m) ys) uses s)
walk_step way e m ys xs p w q passed uses s later (lapses l z ph) =
    let t = Leave e.place (cause l) in
    let first = lapse_leads way.largest l xs e m ys w q ph s in
    subst (λ st. Leads way.largest w (take_turns (then_on st e.phase p (pump_from way (queue_of ys))) w)) (sym z)
    (leads_on first (later (past (cause l) e m) (passed-past xs (cause l) e m passed) (paced t e.phase p) (take_turn t w)
    (lapse_copies l xs e m ys w.copies q s.placed ∙ shift xs (past (cause l) e m) ys) (uses_lapse l xs e m ys p w q ph s.placed uses) first.sound))
walk_step way e m ys xs p w q passed uses s later (begins z ph g) =
    let i = free_identifier p.used in
    let t = Send e.place i in
    let f : Entry = record e { phase = Sent i; here = true } in
    let free : is_among i (pids (map life w.copies)) ≡ false = sym (uses i) ∙ free_is_free p.used in
    let own = unused_same i (pids (map life w.copies)) free in
    let same = same_id e.place in
    let granted = (fit_here way.largest xs e m ys (subst (AllFit way.largest) q s.fit)).0 in
    let first = send_leads way.largest t i i false xs e f m ys w q refl (rw same refl) (λ ls. refl) passed (λ gs. rw (ph, own) refl) (λ n gs. rw (ph, own) refl) (granted, g) s in
    let uses' : Uses (paced t e.phase p) (take_turn t w) = λ j.
    is_among-push j i p.used ∙ ap (λ b. b || nat_eq j i) (uses j ∙ ap (λ ls. is_among j (pids (map life ls))) q ∙ ap (is_among j) (pids_at xs (standing e m) ys ∙ ap (λ phase. pids (map life xs) ++ pids (life_by phase e.here (body e m) ∷ map life ys)) ph))
    ∙ sym (has-insert j i (pids (map life xs)) (pids (map life ys)))
    ∙ sym (ap (λ ls. is_among j (pids (map life ls))) first.1 ∙ ap (is_among j) (pids_at xs (standing f m) ys)) in
    subst (λ st. Leads way.largest w (take_turns (then_on st e.phase p (pump_from way (queue_of ys))) w)) (sym z)
    (leads_on first.0 (later (standing f m) (passed-push xs f m passed refl) (paced t e.phase p) (take_turn t w) (first.1 ∙ shift xs (standing f m) ys) uses' first.0.sound))
walk_step way e m ys xs p w q passed uses s later (repeats i z ph h) =
    let t = Resend e.place i in
    let f : Entry = record e { here = true } in
    let same = same_id e.place in
    let fit = fit_here way.largest xs e m ys (subst (AllFit way.largest) q s.fit) in
    let first = send_leads way.largest t 0 i true xs e f m ys w q refl (rw same refl) (λ ls. refl) passed (λ gs. rw (ph, h) refl) (λ n gs. rw (ph, h) refl) fit s in
    let uses' : Uses (paced t e.phase p) (take_turn t w) = λ j.
    uses j ∙ ap (λ ls. is_among j (pids (map life ls))) q
    ∙ ap (is_among j) (same_pids xs (standing e m) (standing f m) ys (λ fs. rw ph refl))
    ∙ sym (ap (λ ls. is_among j (pids (map life ls))) first.1) in
    subst (λ st. Leads way.largest w (take_turns (then_on st e.phase p (pump_from way (queue_of ys))) w)) (sym z)
    (leads_on first.0 (later (standing f m) (passed-push xs f m passed (rw ph refl)) (paced t e.phase p) (take_turn t w) (first.1 ∙ shift xs (standing f m) ys) uses' first.0.sound))

pump_walk : (way : Way) (ys xs : List Lot) (p : Pacing) (w : World) → w.copies ≡ xs ++ ys → AllPassed xs → Uses p w → Sound way.largest w → Leads way.largest w (take_turns (pump_from way (queue_of ys) p) w)
pump_walk way [] xs p w q passed uses s = leads_not way.largest w s
pump_walk way (past x e m ∷ ys) xs p w q passed uses s = pump_walk way ys (xs ++ past x e m ∷ []) p w (q ∙ shift xs (past x e m) ys) (passed-past xs x e m passed) uses s
pump_walk way (standing e m ∷ ys) xs p w q passed uses s =
    walk_step way e m ys xs p w q passed uses s (λ l passed' p' w' q' uses' s'. pump_walk way ys (xs ++ l ∷ []) p' w' q' passed' uses' s')
    (steps_at way p e p.left p.room e.phase refl refl refl (fit_here way.largest xs e m ys (subst (AllFit way.largest) q s.fit)).1)

-- the identifiers of a queue are those of its copies
pids_by : (phase : Phase) (here : Bool) (b : Body) (is : List ℕ) (fs : List Life) → is ≡ pids fs → also (identifier_of phase) is ≡ pids (life_by phase here b ∷ fs)
pids_by Waiting here b is fs h = h
pids_by (Sent i) here b is fs h = ap (λ js. i ∷ js) h
pids_by (Released i order) here b is fs h = ap (λ js. i ∷ js) h
pids_by (Oversize i order) here b is fs h = ap (λ js. i ∷ js) h

identifiers-life : (ls : List Lot) → identifiers (queue_of ls) ≡ pids (map life ls)
identifiers-life [] = refl
identifiers-life (past x e m ∷ ls) = identifiers-life ls
identifiers-life (standing e m ∷ ls) = pids_by e.phase e.here (body e m) (identifiers (queue_of ls)) (map life ls) (identifiers-life ls)

-- the world of the copies follows a session's pump
pub pump_leads : (way : Way) (w : World) → Sound way.largest w → Leads way.largest w (take_turns (pump way (queue_of w.copies)) w)
pump_leads way w s = pump_walk way w.copies [] (pace way (queue_of w.copies)) w refl tt (λ j. ap (is_among j) (identifiers-life w.copies)) s

waits : (phase : Phase) (b : Bool) → (is_waiting phase && b) ≡ true → phase ≡ Waiting
waits Waiting b h = refl
waits (Sent i) b h = absurd (cc)
waits (Released i order) b h = absurd (cc)
waits (Oversize i order) b h = absurd (cc)

-- copies that wait end, one after the other
expire_walk : (largest now : ℕ) (ys xs : List Lot) (w : World) → w.copies ≡ xs ++ ys → Sound largest w → Leads largest w (take_turns (expired now (queue_of ys)) w)
expire_walk largest now [] xs w q s = leads_not largest w s
expire_walk largest now (past x e m ∷ ys) xs w q s = expire_walk largest now ys (xs ++ past x e m ∷ []) w (q ∙ shift xs (past x e m) ys) s
expire_walk largest now (standing e m ∷ ys) xs w q s = ⊎_elim
    (λ (t : (is_waiting e.phase && is_late now e.copy) ≡ true).
    let ph = waits e.phase (is_late now e.copy) t in
    let first = lapse_leads largest copies.is_late xs e m ys w q ph s in
    rw t (leads_on first (expire_walk largest now ys (xs ++ past Expired e m ∷ []) (take_turn (Leave e.place Expired) w) (lapse_copies copies.is_late xs e m ys w.copies q s.placed ∙ shift xs (past Expired e m) ys) first.sound)))
    (λ (t : (is_waiting e.phase && is_late now e.copy) ≡ false). rw t (expire_walk largest now ys (xs ++ standing e m ∷ []) w (q ∙ shift xs (standing e m) ys) s))
    (test_cases (is_waiting e.phase && is_late now e.copy))

drop_walk : (largest k since : ℕ) (ys xs : List Lot) (w : World) → w.copies ≡ xs ++ ys → Sound largest w → Leads largest w (take_turns (dropped k since (queue_of ys)) w)
drop_walk largest k since [] xs w q s = leads_not largest w s
drop_walk largest k since (past x e m ∷ ys) xs w q s = drop_walk largest k since ys (xs ++ past x e m ∷ []) w (q ∙ shift xs (past x e m) ys) s
drop_walk largest zero since (standing e m ∷ ys) xs w q s = leads_not largest w s
drop_walk largest (suc k) since (standing e m ∷ ys) xs w q s = ⊎_elim
    (λ (t : gives_way since e ≡ true).
    let ph = waits e.phase (nat_lt e.place since) t in
    let first = lapse_leads largest copies.is_dropped xs e m ys w q ph s in
    rw t (leads_on first (drop_walk largest k since ys (xs ++ past Dropped e m ∷ []) (take_turn (Leave e.place Dropped) w) (lapse_copies copies.is_dropped xs e m ys w.copies q s.placed ∙ shift xs (past Dropped e m) ys) first.sound)))
    (λ (t : gives_way since e ≡ false). rw t (drop_walk largest (suc k) since ys (xs ++ standing e m ∷ []) w (q ∙ shift xs (standing e m) ys) s))
    (test_cases (gives_way since e))

-- the world of the copies follows the copies that expire
pub expire_leads : (largest now : ℕ) (w : World) → Sound largest w → Leads largest w (take_turns (expired now (queue_of w.copies)) w)
expire_leads largest now w s = expire_walk largest now w.copies [] w refl s

-- the world of the copies follows the copies that give way in a full queue
pub drop_leads : (largest k since : ℕ) (w : World) → Sound largest w → Leads largest w (take_turns (dropped k since (queue_of w.copies)) w)
drop_leads largest k since w s = drop_walk largest k since w.copies [] w refl s
