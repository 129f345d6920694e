-- Each step of a session's world, seen from the copies.
use Rattle.std.proofs.Common.{◌≡◌, ⊎_elim, inl, inr, ℕ, suc, ◌≤◌, ◌+◌, ◌-◌, Bool, true, false, cond, List, [], ◌∷◌, ◌++◌, length, map, nat_lt, refl, sym, ap, subst, ◌∙◌, arith}
use Rattle.mqtt_base.specs.declared.Ending.TheVariants.{SessionEnded}
use Rattle.mqtt_base.specs.declared.Qos.{Qos}
use Rattle.mqtt_base.specs.declared.Qos.TheVariants.{AtMostOnce, AtLeastOnce, ExactlyOnce}
use Rattle.mqtt_base.specs.declared.Phase.{Phase}
use Rattle.mqtt_base.specs.declared.Phase.TheVariants.{Waiting, Sent, Released, Oversize}
use Rattle.mqtt_flow.specs.declared.outbound.entry.Due.{Due}
use Rattle.mqtt_flow.specs.declared.outbound.entry.Entry.{Entry}
use Rattle.mqtt_flow.specs.declared.outbound.entry.QueuedCopy.{QueuedCopy}
use Rattle.mqtt_flow.specs.declared.outbound.entry.QueueLimits.{QueueLimits}
use Rattle.mqtt_flow.specs.declared.outbound.entry.Turn.{Turn}
use Rattle.mqtt_flow.specs.declared.outbound.entry.Turn.TheVariants.{Repeat}
use Rattle.mqtt_flow.specs.outbound.Queue.{Ascends, entering}
use Rattle.mqtt_flow.specs.outbound.Outbound as rules
use Rattle.mqtt_flow.specs.outbound.Outbound.{has_room, way_made, unsent, anew, by_order, due_of, due_from, resumed_with}
use Rattle.mqtt_flow.specs.inbound.Line.{Link, away, asked, live}
use Rattle.mqtt_flow.specs.outbound.Receiver.{Body, Output, connack, no_connack, publish, pubrel, disconnect, Answer, connect, puback, pubrec, pubcomp, spared, read_publish, read_connack, leaves, down_comes, gives_up, joins}
use Rattle.mqtt_flow.proofs.outbound_lemmas.outbound.Lives.{Life, waiting, find, cut, pubrels, answered, on_puback, on_pubrec, on_pubcomp, puback_reply, pubrec_reply, pubcomp_reply}
use Rattle.mqtt_flow.proofs.outbound_lemmas.outbound.Lives as copies
use Rattle.mqtt_flow.proofs.outbound_lemmas.outbound.LivesWorld as lives
use Rattle.mqtt_flow.proofs.outbound_lemmas.outbound.LivesWorld.{put_at, arranged}
use Rattle.mqtt_flow.specs.outbound.OutboundWorld as world
use Rattle.mqtt_flow.specs.outbound.OutboundWorld.{TopicAndPayload, Lot, standing, past, queue_of, World, is_granted, body, all_packets, told, take_turn, take_turns, pushes, enters, renewed, made_new, resumed, connects, connects_old, replied, replied_old, up_comes, old_comes, Event, enter, expire, pump, to_broker, old_to_broker, to_end, give_up, break_line, make_line, close, close_old, restart, step, start, run}
use Rattle.mqtt_flow.proofs.inbound_lemmas.Identifiers.{test_cases}
use Rattle.mqtt_flow.proofs.outbound_lemmas.outbound.Stages.{Norm, Good, Stage, free, idle, publishing, receiving, acking, releasing, completing, held_of, Blank, no_line, is_asked, was_shut}
use Rattle.mqtt_flow.proofs.outbound_lemmas.outbound.ReceiverReads.{runs}
use Rattle.mqtt_flow.proofs.outbound_lemmas.outbound.Queues.{ascends-push, ascends-anew}
use Rattle.mqtt_flow.proofs.outbound_lemmas.outbound.SessionLives.{life, life_by, seen, life-append}
use Rattle.mqtt_flow.proofs.outbound_lemmas.outbound.SessionQueues.{IsGranted, Fit, AllFit, Sound, Leads, leads_not, leads_on}
use Rattle.mqtt_flow.proofs.outbound_lemmas.outbound.QueueWalks.{pump_leads, expire_leads, drop_leads}
use Rattle.mqtt_flow.proofs.outbound_lemmas.outbound.SessionAnswers.{Unique, agree_puback, agree_pubrec, agree_pubcomp, agrees_up, agrees_old, sound_up, sound_old}

-- the end of a session, and a new connection
cut_by : (phase : Phase) (here : Bool) (b : Body) → cut (life_by phase here b) ≡ copies.ended SessionEnded b
cut_by Waiting here b = refl
cut_by (Sent i) here b = refl
cut_by (Released i order) here b = refl
cut_by (Oversize i order) here b = refl

cut-life : (ls : List Lot) → map cut (map life ls) ≡ map life (map world.cut ls)
cut-life [] = refl
cut-life (past x e m ∷ ls) = ap (λ fs. copies.ended x (body e m) ∷ fs) (cut-life ls)
cut-life (standing e m ∷ ls) = rw (cut_by e.phase e.here (body e m)) (ap (λ fs. copies.ended SessionEnded (body e m) ∷ fs) (cut-life ls))

queue_of-cut : (ls : List Lot) → queue_of (map world.cut ls) ≡ []
queue_of-cut [] = refl
queue_of-cut (past x e m ∷ ls) = queue_of-cut ls
queue_of-cut (standing e m ∷ ls) = queue_of-cut ls

fit-cut : (largest : ℕ) (ls : List Lot) → AllFit largest (map world.cut ls)
fit-cut largest [] = tt
fit-cut largest (past x e m ∷ ls) = (tt, fit-cut largest ls)
fit-cut largest (standing e m ∷ ls) = (tt, fit-cut largest ls)

anew_by : (phase : Phase) (here : Bool) (b : Body) → copies.anew (life_by phase here b) ≡ life_by phase false b
anew_by Waiting here b = refl
anew_by (Sent i) here b = refl
anew_by (Released i order) here b = refl
anew_by (Oversize i order) here b = refl

anew-life : (ls : List Lot) → map copies.anew (map life ls) ≡ map life (map renewed ls)
anew-life [] = refl
anew-life (past x e m ∷ ls) = ap (λ fs. copies.ended x (body e m) ∷ fs) (anew-life ls)
anew-life (standing e m ∷ ls) = rw (anew_by e.phase e.here (body e m)) (ap (λ fs. life_by e.phase false (body e m) ∷ fs) (anew-life ls))

queue_of-renewed : (ls : List Lot) → queue_of (map renewed ls) ≡ anew (queue_of ls)
queue_of-renewed [] = refl
queue_of-renewed (past x e m ∷ ls) = queue_of-renewed ls
queue_of-renewed (standing e m ∷ ls) = ap (λ q. unsent e ∷ q) (queue_of-renewed ls)

fit-renewed : (largest : ℕ) (ls : List Lot) → AllFit largest ls → AllFit largest (map renewed ls)
fit-renewed largest [] h = tt
fit-renewed largest (past x e m ∷ ls) h = (tt, fit-renewed largest ls h.1)
fit-renewed largest (standing e m ∷ ls) h = (h.0, fit-renewed largest ls h.1)

cut_sound : (largest : ℕ) (ls : List Lot) (w : World) → w.copies ≡ map world.cut ls → Sound largest w
cut_sound largest ls w q = record {
  placed = subst (λ k. Ascends (queue_of k)) (sym q) (subst Ascends (sym (queue_of-cut ls)) tt);
  fit = subst (AllFit largest) (sym q) (fit-cut largest ls);
}

renewed_sound : (largest : ℕ) (v w : World) → w.copies ≡ map renewed v.copies → Sound largest v → Sound largest w
renewed_sound largest v w q s = record {
  placed = subst (λ k. Ascends (queue_of k)) (sym q) (subst Ascends (sym (queue_of-renewed v.copies)) (ascends-anew (queue_of v.copies) s.placed));
  fit = subst (AllFit largest) (sym q) (fit-renewed largest v.copies s.fit);
}

-- PUBRELs in the order of release are PUBRELs in some order
abbrev place_in : Due → List Due → ℕ
place_in d [] = 0
place_in d (x ∷ xs) = cond (nat_lt d.order x.order) 0 (suc (place_in d xs))

abbrev codes_by : Phase → List Due → (List Due → List ℕ) → List ℕ
codes_by Waiting ds rest = rest ds
codes_by (Sent i) ds rest = rest ds
codes_by (Released i order) ds rest = place_in (record { order = order; identifier = i }) ds ∷ rest (by_order (record { order = order; identifier = i }) ds)
codes_by (Oversize i order) ds rest = place_in (record { order = order; identifier = i }) ds ∷ rest (by_order (record { order = order; identifier = i }) ds)

abbrev codes : List Entry → List Due → List ℕ
codes [] ds = []
codes (e ∷ es) ds = codes_by e.phase ds (codes es)

abbrev rel : Due → Output
rel d = pubrel d.identifier 0

put-in : (d : Due) (ds : List Due) → put_at (place_in d ds) (rel d) (map rel ds) ≡ map rel (by_order d ds)
put-in d [] = refl
put-in d (x ∷ xs) = ⊎_elim
    (λ (t : nat_lt d.order x.order ≡ true). rw t refl)
    (λ (t : nat_lt d.order x.order ≡ false). rw t (ap (λ ps. rel x ∷ ps) (put-in d xs)))
    (test_cases (nat_lt d.order x.order))

arranged_by : (phase : Phase) (here : Bool) (b : Body) (ds : List Due) (rest : List Due → List ℕ) (fs : List Life) (es : List Entry) → ((xs : List Due) → arranged (rest xs) (map rel xs) (pubrels fs) ≡ map rel (due_from xs es)) → arranged (codes_by phase ds rest) (map rel ds) (pubrels (life_by phase here b ∷ fs)) ≡ map rel (due_from (due_of phase ds) es)
arranged_by Waiting here b ds rest fs es h = h ds
arranged_by (Sent i) here b ds rest fs es h = h ds
arranged_by (Released i order) here b ds rest fs es h = let d : Due = record { order = order; identifier = i } in ap (λ ps. arranged (rest (by_order d ds)) ps (pubrels fs)) (put-in d ds) ∙ h (by_order d ds)
arranged_by (Oversize i order) here b ds rest fs es h = let d : Due = record { order = order; identifier = i } in ap (λ ps. arranged (rest (by_order d ds)) ps (pubrels fs)) (put-in d ds) ∙ h (by_order d ds)

in_release : (ls : List Lot) (ds : List Due) → arranged (codes (queue_of ls) ds) (map rel ds) (pubrels (map life ls)) ≡ map rel (due_from ds (queue_of ls))
in_release [] ds = refl
in_release (past x e m ∷ ls) ds = in_release ls ds
in_release (standing e m ∷ ls) ds = arranged_by e.phase e.here (body e m) ds (codes (queue_of ls)) (map life ls) (queue_of ls) (in_release ls)

rels : (ds : List Due) (ls : List Lot) → all_packets (map (λ d. Repeat d.identifier) ds) ls ≡ map rel ds
rels [] ls = refl
rels (d ∷ ds) ls = ap (λ ps. rel d ∷ ps) (rels ds ls)

resumed-seen : (rest : List Answer) (w : World) → lives.resumed (codes (queue_of w.copies) []) rest (seen w) ≡ seen (resumed rest w)
resumed-seen rest w =
    ap (λ k. record (seen w) { up = rest; old = spared w.old; linked = true; copies = k; down = w.down ++ connack true ∷ arranged (codes (queue_of w.copies) []) [] (pubrels (map life w.copies)) }) (anew-life w.copies)
    ∙ ap (λ ps. seen (record w { up = rest; old = spared w.old; linked = true; copies = map renewed w.copies; down = w.down ++ connack true ∷ ps })) (in_release w.copies [] ∙ sym (rels (due_from [] (queue_of w.copies)) w.copies))

-- CONNECT
cuts : (v : lives.World) (ls : List Lot) → record v { copies = map cut (map life ls) } ≡ record v { copies = map life (map world.cut ls) }
cuts v ls = ap (λ k. record v { copies = k }) (cut-life ls)

abbrev Stepping : World → lives.World → World → Type 0
Stepping w v w' = v ≡ seen w'

connects-seen : (s c r : Bool) (rest : List Answer) (w : World) → lives.connects s c r (codes (queue_of w.copies) []) rest (seen w) ≡ seen (connects s c r rest w)
connects-seen false c true rest w = refl
connects-seen false c false rest w = ap (λ k. record (seen w) { up = rest; old = spared w.old; stands = true; linked = true; copies = k; down = w.down ++ connack false ∷ [] }) (cut-life w.copies)
connects-seen true true r rest w = ap (λ k. record (seen w) { up = rest; old = spared w.old; stands = true; linked = true; copies = k; down = w.down ++ connack false ∷ [] }) (cut-life w.copies)
connects-seen true false r rest w = resumed-seen rest w

connects-sound : (largest : ℕ) (s c r : Bool) (rest : List Answer) (w : World) → Sound largest w → Sound largest (connects s c r rest w)
connects-sound largest false c true rest w h = record { placed = h.placed; fit = h.fit }
connects-sound largest false c false rest w h = cut_sound largest w.copies (connects false c false rest w) refl
connects-sound largest true true r rest w h = cut_sound largest w.copies (connects true true r rest w) refl
connects-sound largest true false r rest w h = renewed_sound largest w (connects true false r rest w) refl h

connects_old-seen : (s c r : Bool) (rest : List Answer) (w : World) → lives.connects_old s c r rest (seen w) ≡ seen (connects_old s c r rest w)
connects_old-seen false c true rest w = refl
connects_old-seen false c false rest w = ap (λ k. record (seen w) { old = rest; stands = true; copies = k }) (cut-life w.copies)
connects_old-seen true true r rest w = ap (λ k. record (seen (connects_old true true r rest w)) { copies = k }) (cut-life w.copies)
connects_old-seen true false r rest w = ap (λ k. record (seen (connects_old true false r rest w)) { copies = k }) (anew-life w.copies)

connects_old-sound : (largest : ℕ) (s c r : Bool) (rest : List Answer) (w : World) → Sound largest w → Sound largest (connects_old s c r rest w)
connects_old-sound largest false c true rest w h = record { placed = h.placed; fit = h.fit }
connects_old-sound largest false c false rest w h = cut_sound largest w.copies (connects_old false c false rest w) refl
connects_old-sound largest true true r rest w h = cut_sound largest w.copies (connects_old true true r rest w) refl
connects_old-sound largest true false r rest w h = renewed_sound largest w (connects_old true false r rest w) refl h

-- an identifier has one copy where answers are read
abbrev IsAnswer : Answer → Type 0
IsAnswer (connect c) = ⊥
IsAnswer (puback i code) = Unit {0}
IsAnswer (pubrec i code) = Unit {0}
IsAnswer (pubcomp i code) = Unit {0}

one_held : (s : Stage) → length (held_of s) ≤ 1
one_held free = omega arith
one_held (idle n dup o b) = omega arith
one_held (publishing n dup o b) = omega arith
one_held (receiving n b) = omega arith
one_held (acking n b) = omega arith
one_held (releasing n o h t b) = omega arith
one_held (completing n code h t b) = omega arith

norm_one : (i : ℕ) (w : World) → Norm (seen w) → Unique i w
norm_one i w inv = let at = (inv.each i).1 in let few = one_held (inv.each i).0 in let e = ap length at.holds in omega arith

no_answer : (p : Answer) (ps : List Answer) → p ∷ ps ≡ [] → ⊥
no_answer p ps h = absurd (cc)

not_connect : (p : Answer) (ps : List Answer) (c : Bool) → IsAnswer p → p ∷ ps ≡ connect c ∷ [] → ⊥
not_connect (connect b) ps c h e = h
not_connect (puback i code) ps c h e = absurd (cc)
not_connect (pubrec i code) ps c h e = absurd (cc)
not_connect (pubcomp i code) ps c h e = absurd (cc)

one_up : (i : ℕ) (p : Answer) (ps : List Answer) (w : World) → w.up ≡ p ∷ ps → IsAnswer p → Good (seen w) → Unique i w
one_up i p ps w u h (inl inv) = norm_one i w inv
one_up i p ps w u h (inr f) = go f.lines
  where
    go : Blank w.link w.linked w.up w.down → Unique i w
    go (no_line a b c d) = absurd (no_answer p ps (sym u ∙ b))
    go (was_shut a b c d) = absurd (no_answer p ps (sym u ∙ b))
    go (is_asked a b c d) = absurd (not_connect p ps true h (sym u ∙ b))

one_old : (i : ℕ) (p : Answer) (ps : List Answer) (w : World) → w.old ≡ p ∷ ps → IsAnswer p → Good (seen w) → Unique i w
one_old i p ps w u h (inl inv) = norm_one i w inv
one_old i p ps w u h (inr f) = ⊎_elim
    (λ (b : w.old ≡ []). absurd (no_answer p ps (sym u ∙ b)))
    (λ (b : w.old ≡ connect false ∷ []). absurd (not_connect p ps false h (sym u ∙ b)))
    f.of_old

-- the broker reads
one_step : (largest : ℕ) (e : lives.Event) (w w' : World) → lives.step (seen w) e ≡ seen w' → Sound largest w' → Leads largest w w'
one_step largest e w w' q s = record { events = e ∷ []; same = q; sound = s }

up_leads : (largest : ℕ) (r : Bool) (up : List Answer) (w : World) → w.up ≡ up → Sound largest w → Good (seen w) → Leads largest w (up_comes r up w)
up_leads largest r [] w u s g = leads_not largest w s
up_leads largest r (connect c ∷ rest) w u s g = one_step largest (lives.to_broker r (codes (queue_of w.copies) [])) w (up_comes r (connect c ∷ rest) w)
    (ap (λ ps. lives.up_comes r (codes (queue_of w.copies) []) ps (seen w)) u ∙ connects-seen w.stands c r rest w) (connects-sound largest w.stands c r rest w s)
up_leads largest r (puback i code ∷ rest) w u s g =
    let a = agree_puback i code w largest s (one_up i (puback i code) rest w u tt g) in
    one_step largest (lives.to_broker r []) w (up_comes r (puback i code ∷ rest) w)
    (ap (λ ps. lives.up_comes r [] ps (seen w)) u ∙ agrees_up i (on_puback code) (puback_reply (find i (map life w.copies))) (rules.puback i code (queue_of w.copies)) w rest a)
    (sound_up i (on_puback code) (puback_reply (find i (map life w.copies))) (rules.puback i code (queue_of w.copies)) w rest largest a s)
up_leads largest r (pubrec i code ∷ rest) w u s g =
    let a = agree_pubrec i code w largest s (one_up i (pubrec i code) rest w u tt g) in
    one_step largest (lives.to_broker r []) w (up_comes r (pubrec i code ∷ rest) w)
    (ap (λ ps. lives.up_comes r [] ps (seen w)) u ∙ agrees_up i (on_pubrec code) (pubrec_reply i code (find i (map life w.copies))) (rules.pubrec i code (queue_of w.copies)) w rest a)
    (sound_up i (on_pubrec code) (pubrec_reply i code (find i (map life w.copies))) (rules.pubrec i code (queue_of w.copies)) w rest largest a s)
up_leads largest r (pubcomp i code ∷ rest) w u s g =
    let a = agree_pubcomp i w largest s (one_up i (pubcomp i code) rest w u tt g) in
    one_step largest (lives.to_broker r []) w (up_comes r (pubcomp i code ∷ rest) w)
    (ap (λ ps. lives.up_comes r [] ps (seen w)) u ∙ agrees_up i on_pubcomp (pubcomp_reply (find i (map life w.copies))) (rules.pubcomp i (queue_of w.copies)) w rest a)
    (sound_up i on_pubcomp (pubcomp_reply (find i (map life w.copies))) (rules.pubcomp i (queue_of w.copies)) w rest largest a s)

old_leads : (largest : ℕ) (r : Bool) (old : List Answer) (w : World) → w.old ≡ old → Sound largest w → Good (seen w) → Leads largest w (old_comes r old w)
old_leads largest r [] w u s g = leads_not largest w s
old_leads largest r (connect c ∷ rest) w u s g = one_step largest (lives.old_to_broker r) w (old_comes r (connect c ∷ rest) w)
    (ap (λ ps. lives.old_comes r ps (seen w)) u ∙ connects_old-seen w.stands c r rest w) (connects_old-sound largest w.stands c r rest w s)
old_leads largest r (puback i code ∷ rest) w u s g =
    let a = agree_puback i code w largest s (one_old i (puback i code) rest w u tt g) in
    one_step largest (lives.old_to_broker r) w (old_comes r (puback i code ∷ rest) w)
    (ap (λ ps. lives.old_comes r ps (seen w)) u ∙ agrees_old i (on_puback code) (puback_reply (find i (map life w.copies))) (rules.puback i code (queue_of w.copies)) w rest a)
    (sound_old i (on_puback code) (puback_reply (find i (map life w.copies))) (rules.puback i code (queue_of w.copies)) w rest largest a s)
old_leads largest r (pubrec i code ∷ rest) w u s g =
    let a = agree_pubrec i code w largest s (one_old i (pubrec i code) rest w u tt g) in
    one_step largest (lives.old_to_broker r) w (old_comes r (pubrec i code ∷ rest) w)
    (ap (λ ps. lives.old_comes r ps (seen w)) u ∙ agrees_old i (on_pubrec code) (pubrec_reply i code (find i (map life w.copies))) (rules.pubrec i code (queue_of w.copies)) w rest a)
    (sound_old i (on_pubrec code) (pubrec_reply i code (find i (map life w.copies))) (rules.pubrec i code (queue_of w.copies)) w rest largest a s)
old_leads largest r (pubcomp i code ∷ rest) w u s g =
    let a = agree_pubcomp i w largest s (one_old i (pubcomp i code) rest w u tt g) in
    one_step largest (lives.old_to_broker r) w (old_comes r (pubcomp i code ∷ rest) w)
    (ap (λ ps. lives.old_comes r ps (seen w)) u ∙ agrees_old i on_pubcomp (pubcomp_reply (find i (map life w.copies))) (rules.pubcomp i (queue_of w.copies)) w rest a)
    (sound_old i on_pubcomp (pubcomp_reply (find i (map life w.copies))) (rules.pubcomp i (queue_of w.copies)) w rest largest a s)

-- the receiver's side is the same
record Beside (largest : ℕ) (v : lives.World) (w' : World) : Type 0 where
  pub same : v ≡ seen w'
  pub sound : Sound largest w'

reads_publish : (largest : ℕ) (t : Bool) (i n : ℕ) (b : Body) (rest : List Output) (w : World) → Sound largest w → Beside largest (read_publish t i n b rest (seen w)) (read_publish t i n b rest w)
reads_publish largest true i n b rest w s = record { same = refl; sound = record { placed = s.placed; fit = s.fit } }
reads_publish largest false i n b rest w s = record { same = refl; sound = record { placed = s.placed; fit = s.fit } }

reads_connack : (largest : ℕ) (l : Link) (p : Bool) (rest : List Output) (w : World) → Sound largest w → Beside largest (read_connack l p rest (seen w)) (read_connack l p rest w)
reads_connack largest away p rest w s = record { same = refl; sound = record { placed = s.placed; fit = s.fit } }
reads_connack largest asked p rest w s = record { same = refl; sound = record { placed = s.placed; fit = s.fit } }
reads_connack largest live p rest w s = record { same = refl; sound = record { placed = s.placed; fit = s.fit } }

reads : (largest : ℕ) (ps : List Output) (w : World) → Sound largest w → Beside largest (down_comes ps (seen w)) (down_comes ps w)
reads largest [] w s = record { same = refl; sound = s }
reads largest (connack p ∷ rest) w s = reads_connack largest w.link p rest w s
reads largest (no_connack ∷ rest) w s = record { same = refl; sound = record { placed = s.placed; fit = s.fit } }
reads largest (publish i n dup b ∷ rest) w s = reads_publish largest b.twice i n b rest w s
reads largest (pubrel i code ∷ rest) w s = record { same = refl; sound = record { placed = s.placed; fit = s.fit } }
reads largest (disconnect ∷ rest) w s = record { same = refl; sound = record { placed = s.placed; fit = s.fit } }

gives : (largest : ℕ) (c : Bool) (l : Link) (w : World) → Sound largest w → Beside largest (gives_up c l (seen w)) (gives_up c l w)
gives largest true l w s = record { same = refl; sound = s }
gives largest false away w s = record { same = refl; sound = s }
gives largest false asked w s = record { same = refl; sound = record { placed = s.placed; fit = s.fit } }
gives largest false live w s = record { same = refl; sound = record { placed = s.placed; fit = s.fit } }

joining : (largest : ℕ) (l : Link) (c : Bool) (w : World) → Sound largest w → Beside largest (joins l c (seen w)) (joins l c w)
joining largest away c w s = record { same = refl; sound = record { placed = s.placed; fit = s.fit } }
joining largest asked c w s = record { same = refl; sound = s }
joining largest live c w s = record { same = refl; sound = s }

beside : (largest : ℕ) (e : lives.Event) (w w' : World) → Beside largest (lives.step (seen w) e) w' → Leads largest w w'
beside largest e w w' b = one_step largest e w w' b.same b.sound

-- a copy enters
told-stands : (ps : List Output) (w : World) → (told ps w).stands ≡ w.stands
told-stands [] w = refl
told-stands (p ∷ ps) w = refl

stands-turns : (ts : List Turn) (w : World) → (take_turns ts w).stands ≡ w.stands
stands-turns [] w = refl
stands-turns (t ∷ ts) w = stands-turns ts (take_turn t w) ∙ told-stands (world.packets t w.copies) (record w { copies = world.lots_after t w.copies })

queue_of-push : (ls : List Lot) (e : Entry) (m : TopicAndPayload) → queue_of (ls ++ standing e m ∷ []) ≡ queue_of ls ++ e ∷ []
queue_of-push [] e m = refl
queue_of-push (past x f n ∷ ls) e m = queue_of-push ls e m
queue_of-push (standing f n ∷ ls) e m = ap (λ q. f ∷ q) (queue_of-push ls e m)

fit-push : (largest : ℕ) (ls : List Lot) (l : Lot) → Fit largest l → AllFit largest ls → AllFit largest (ls ++ l ∷ [])
fit-push largest [] l f h = (f, tt)
fit-push largest (x ∷ ls) l f h = (h.0, fit-push largest ls l f h.1)

granted_is : (qos : Qos) → is_granted qos ≡ true → IsGranted qos
granted_is AtMostOnce h = absurd (cc)
granted_is AtLeastOnce h = tt
granted_is ExactlyOnce h = tt

push_leads : (largest : ℕ) (copy : QueuedCopy) (m : TopicAndPayload) (w : World) → w.stands ≡ true → is_granted copy.qos ≡ true → Sound largest w → Leads largest w (pushes copy m w)
push_leads largest copy m w st granted s =
    let e = entering copy (queue_of w.copies) in
    one_step largest (lives.enter (body e m)) w (pushes copy m w)
    (ap (λ b. lives.enters_in b (body e m) (seen w)) st ∙ ap (λ k. record (seen w) { copies = k }) (sym (life-append w.copies (standing e m ∷ []))))
    (record {
      placed = subst Ascends (sym (queue_of-push w.copies e m)) (ascends-push e (queue_of w.copies) (omega arith) s.placed);
      fit = fit-push largest w.copies (standing e m) (granted_is copy.qos granted, tt) s.fit;
    })

enter_leads : (largest : ℕ) (stands granted room : Bool) (limits : QueueLimits) (since : ℕ) (copy : QueuedCopy) (m : TopicAndPayload) (w : World) → w.stands ≡ stands → is_granted copy.qos ≡ granted → Sound largest w → Leads largest w (enters stands granted room limits since copy m w)
enter_leads largest false granted room limits since copy m w st g s = leads_not largest w s
enter_leads largest true false room limits since copy m w st g s = leads_not largest w s
enter_leads largest true true false limits since copy m w st g s = leads_not largest w s
enter_leads largest true true true limits since copy m w st g s =
    let first = drop_leads largest (length (queue_of w.copies) + 1 - limits.queue) since w s in
    let ts = way_made limits since (queue_of w.copies) in
    leads_on first (push_leads largest copy m (take_turns ts w) (stands-turns ts w ∙ st) g first.sound)

-- so each step is some steps of the copies
step_leads : (largest : ℕ) (w : World) (e : Event) → Sound largest w → Good (seen w) → Leads largest w (step largest w e)
step_leads largest w (enter limits since copy m) s g = enter_leads largest w.stands (is_granted copy.qos) (has_room limits since (queue_of w.copies)) limits since copy m w refl refl s
step_leads largest w (expire now) s g = expire_leads largest now w s
step_leads largest w (pump window now) s g = pump_leads (record { window = window; largest = largest; now = now }) w s
step_leads largest w (to_broker r) s g = up_leads largest r w.up w refl s g
step_leads largest w (old_to_broker r) s g = old_leads largest r w.old w refl s g
step_leads largest w to_end s g = beside largest lives.to_end w (down_comes w.down w) (reads largest w.down w s)
step_leads largest w give_up s g = beside largest lives.give_up w (gives_up w.clean w.link w) (gives largest w.clean w.link w s)
step_leads largest w break_line s g = one_step largest lives.break_line w (leaves w) refl (record { placed = s.placed; fit = s.fit })
step_leads largest w (make_line c) s g = beside largest (lives.make_line c) w (joins w.link c w) (joining largest w.link c w s)
step_leads largest w close s g = one_step largest lives.close w (step largest w close) refl (record { placed = s.placed; fit = s.fit })
step_leads largest w close_old s g = one_step largest lives.close_old w (step largest w close_old) refl (record { placed = s.placed; fit = s.fit })
step_leads largest w restart s g = one_step largest lives.restart w (step largest w restart)
    (ap (λ k. record (seen (step largest w restart)) { copies = k }) (anew-life w.copies)) (renewed_sound largest w (step largest w restart) refl s)

-- the invariant holds of what the world of the copies followed
pub good_on : {largest : ℕ} {w w' : World} → Leads largest w w' → Good (seen w) → Good (seen w')
good_on {w = w} l g = subst Good l.same (runs l.events (seen w) g)

-- the world of the copies follows each run of the session's world
pub run_leads : (largest : ℕ) (es : List Event) (w : World) → Sound largest w → Good (seen w) → Leads largest w (run largest es w)
run_leads largest [] w s g = leads_not largest w s
run_leads largest (e ∷ es) w s g =
    let first = step_leads largest w e s g in
    leads_on first (run_leads largest es (step largest w e) first.sound (good_on first g))

-- at the start there is no copy, so all fit
pub sound_start : (largest : ℕ) → Sound largest start
sound_start largest = record { placed = tt; fit = tt }
