-- A round takes a copy further: a pump finds something to send, ends a copy, or something is under way already.
use Rattle.std.proofs.Common.{◌≡◌, ◌⊎◌, inl, inr, ⊎_elim, ℕ, zero, suc, ◌+◌, ◌*◌, ◌<◌, ◌≤◌, Bool, true, false, not, ◌||◌, List, [], ◌∷◌, ◌++◌, length, refl, sym, ap, ◌∙◌, subst, arith, Some, slice_get, option_map}
use Rattle.std.proofs.lemmas.Option.{slice_get-map}
use Rattle.mqtt_base.specs.declared.session.Ending.{Ending}
use Rattle.mqtt_base.specs.declared.session.Ending.TheVariants.{Expired, TooLarge}
use Rattle.mqtt_base.specs.declared.session.Qos.{Qos}
use Rattle.mqtt_base.specs.declared.session.Qos.TheVariants.{AtMostOnce, AtLeastOnce, ExactlyOnce}
use Rattle.mqtt_base.specs.declared.session.Phase.{Phase}
use Rattle.mqtt_base.specs.declared.session.Phase.TheVariants.{Waiting, Sent, Released, Oversize}
use Rattle.mqtt_base.specs.declared.limits.TheConstants.{PUMP_LIMIT}
use Rattle.mqtt_base.specs.Codes.{success}
use Rattle.mqtt_flow.specs.inbound.Identifiers.{free_identifier}
use Rattle.mqtt_flow.specs.inbound.Line.{sent_on}
use Rattle.mqtt_flow.proofs.inbound_lemmas.Identifiers.{test_cases, same_id}
use Rattle.mqtt_flow.specs.outbound.Outbound as rules
use Rattle.mqtt_flow.specs.outbound.Outbound.{is_late, is_large, pace, paced, pump, pump_from, pump_step, step_by, step_on, then_on, verdict, verdict_by}
use Rattle.mqtt_flow.specs.outbound.OutboundCourse.{GoOn}
use Rattle.mqtt_flow.specs.outbound.OutboundWorld.{Lot, standing, past, TopicAndPayload, World, Event, body, lot_after, lots_after, packets, queue_of, run, sends, start, step, take_turn, take_turns, to_broker, to_end, told}
use Rattle.mqtt_flow.specs.outbound.OutboundWorld as hop
use Rattle.mqtt_flow.specs.outbound.Pacing.{Pacing}
use Rattle.mqtt_flow.specs.outbound.Queue.{Ascends, in_window}
use Rattle.mqtt_flow.specs.outbound.Receiver.{Answer, Output, connack, no_connack, publish, pubrel, disconnect}
use Rattle.mqtt_flow.specs.declared.outbound.entry.Entry.{Entry}
use Rattle.mqtt_flow.specs.declared.outbound.entry.QueuedCopy.{QueuedCopy}
use Rattle.mqtt_flow.specs.declared.outbound.entry.Turn.{Turn}
use Rattle.mqtt_flow.specs.declared.outbound.entry.Turn.TheVariants.{Send, Resend, Outgrow, Leave}
use Rattle.mqtt_flow.specs.declared.outbound.entry.Way.{Way}
use Rattle.mqtt_flow.proofs.outbound_lemmas.outbound.ReceiverReads.{begins}
use Rattle.mqtt_flow.proofs.outbound_lemmas.outbound.SessionLives.{misses_before, sends-split, split-after}
use Rattle.mqtt_flow.proofs.outbound_lemmas.outbound.SessionQueues.{left}
use Rattle.mqtt_flow.proofs.outbound_lemmas.outbound.SessionSteps.{sound_start}
use Rattle.mqtt_world_laws.specs.receiver.Drains.{is_none_left}
use Rattle.mqtt_world_laws.specs.receiver.Rounds.{Has, IsFurther, IsUnderWay, after_round, all_left, all_to_broker, all_to_end, drained, is_due, is_due_by, is_over, is_told, is_answered, round_events, rounds_taken}
use Rattle.mqtt_world_laws.proofs.receiver_lemmas.drains.Further.{Onto, Reached, goes_on, less_left, no_more_left, one_least, reached_on, run_after, sound_at, two_most}
use Rattle.mqtt_world_laws.proofs.receiver_lemmas.drains.HopRounds.{all_under_way}
use Rattle.mqtt_world_laws.proofs.receiver_lemmas.drains.RoundPhases.{Busy, any, brokers_further, brokers_keep, brokers_length, ends_back, ends_copies, is_packet, turn_copies, turns_length, turns_linked}
use Rattle.mqtt_world_laws.proofs.receiver_lemmas.queue.UnderWay.{has_left, has_right}
use Rattle.mqtt_world_laws.proofs.receiver_lemmas.queue.Unsent.{AllUnsent, UnsentBy, run_unsent}

-- ---- what is under way stays so in a pump

has_test : {X : Type 0} (f : X → Bool) (xs : List X) → Has f xs ⊎ (Has f xs → ⊥)
has_test f [] = inr (λ h. h)
has_test f (x ∷ xs) = ⊎_elim
    (λ (t : f x ≡ true). inl (inl t))
    (λ (t : f x ≡ false). ⊎_elim
    (λ h. inl (inr h))
    (λ n. inr (λ h. ⊎_elim (λ (e : f x ≡ true). absurd (cc)) n h))
    (has_test f xs))
    (test_cases (f x))

sent_busy : (b : Bool) (down ps : List Output) → Has is_packet down → Has is_packet (sent_on b down ps)
sent_busy true down ps h = has_left is_packet down ps h
sent_busy false down ps h = h

told_busy : (ps : List Output) (w : World) → Busy w → Busy (told ps w)
told_busy [] w h = h
told_busy (p ∷ ps) w (inl h) = inl (sent_busy w.linked w.down (p ∷ ps) h)
told_busy (p ∷ ps) w (inr h) = inr h

turn_busy : (t : Turn) (w : World) → Busy w → Busy (take_turn t w)
turn_busy t w h = told_busy (packets t w.copies) (record w { copies = lots_after t w.copies }) h

turns_busy : (ts : List Turn) (w : World) → Busy w → Busy (take_turns ts w)
turns_busy [] w h = h
turns_busy (t ∷ ts) w h = turns_busy ts (take_turn t w) (turn_busy t w h)

says_busy : (p : Output) (w : World) → is_packet p ≡ true → w.linked ≡ true → Busy (told (p ∷ []) w)
says_busy p w e h = inl (subst (λ b. Has is_packet (sent_on b w.down (p ∷ []))) (sym h) (has_right is_packet w.down (p ∷ []) (inl e)))

-- ---- if nothing is under way, no copy fills the window

told_packet : (i : ℕ) (ps : List Output) → Has (is_told i) ps → Has is_packet ps
told_packet i [] h = h
told_packet i (connack p ∷ ps) (inl e) = absurd (cc)
told_packet i (no_connack ∷ ps) (inl e) = absurd (cc)
told_packet i (publish j n dup b ∷ ps) (inl e) = inl refl
told_packet i (pubrel j code ∷ ps) (inl e) = inl refl
told_packet i (disconnect ∷ ps) (inl e) = absurd (cc)
told_packet i (p ∷ ps) (inr h) = inr (told_packet i ps h)

answer_any : (i : ℕ) (ups : List Answer) → Has (is_answered i) ups → Has any ups
answer_any i [] h = h
answer_any i (a ∷ ups) h = inl refl

abbrev NoneDue : List Lot → Type 0
NoneDue ls = (i : ℕ) → Has (is_due i) ls → ⊥

not_here : (largest : ℕ) (copy : QueuedCopy) (p : Phase) (here : Bool) → ((i : ℕ) → is_due_by i here p ≡ true → ⊥) → UnsentBy largest copy p here → here ≡ false
not_here largest copy Waiting here n u = u
not_here largest copy (Sent i) true n u = absurd (n i (same_id i))
not_here largest copy (Sent i) false n u = refl
not_here largest copy (Released i order) here n u = absurd (n i (same_id i))
not_here largest copy (Oversize i order) here n u = absurd (n i (same_id i))

window_free : (largest : ℕ) (ls : List Lot) → NoneDue ls → AllUnsent largest ls → in_window (queue_of ls) ≡ 0
window_free largest [] n u = refl
window_free largest (past x e m ∷ ls) n u = window_free largest ls (λ i h. n i (inr h)) u.1
window_free largest (standing e m ∷ ls) n u =
    let h = not_here largest e.copy e.phase e.here (λ i x. n i (inl x)) u.0 in
    rw h (window_free largest ls (λ i y. n i (inr y)) u.1)

-- ---- the first copy that stands

record First (ls : List Lot) : Type 0 where
  before : List Lot
  entry : Entry
  m : TopicAndPayload
  behind : List Lot
  split : ls ≡ before ++ standing entry m ∷ behind
  queue : queue_of ls ≡ entry ∷ queue_of behind

first : (ls : List Lot) → is_none_left (length (queue_of ls)) ≡ false → First ls
first [] h = absurd (cc)
first (standing e m ∷ ls) h = record { before = []; entry = e; m = m; behind = ls; split = refl; queue = refl }
first (past x e m ∷ ls) h =
    let f = first ls h in
    record { before = past x e m ∷ f.before; entry = f.entry; m = f.m; behind = f.behind; split = ap (λ ks. past x e m ∷ ks) f.split; queue = f.queue }

due_at : (i : ℕ) (xs : List Lot) (e : Entry) (m : TopicAndPayload) (ys : List Lot) → is_due_by i e.here e.phase ≡ true → Has (is_due i) (xs ++ standing e m ∷ ys)
due_at i xs e m ys h = has_right (is_due i) xs (standing e m ∷ ys) (inl h)

-- what the pump does at it, if the window has room
data Does (way : Way) (p : Pacing) (e : Entry) : Type 0 where
  ends : (ending : Ending) → pump_step way p e ≡ rules.in_room 1 (Leave e.place ending) → Does way p e
  begins_it : (i : ℕ) → pump_step way p e ≡ rules.in_room 1 (Send e.place i) → Does way p e
  repeats : (i : ℕ) → pump_step way p e ≡ rules.in_room 1 (Resend e.place i) → Does way p e
  outgrows : (i order : ℕ) → pump_step way p e ≡ rules.in_room 1 (Outgrow e.place i order) → Does way p e

does : (way : Way) (p : Pacing) (e : Entry) (k room : ℕ) → p.left ≡ suc k → p.room ≡ suc room → ((i : ℕ) → is_due_by i e.here e.phase ≡ true → ⊥) → Does way p e
does way p e k room l r n = go e.phase refl
  where
    waits : (late large : Bool) → pump_step way p e ≡ step_on (rules.first_time late large) e.place p → Does way p e
    waits true large q = ends Expired q
    waits false true q = ends TooLarge q
    waits false false q = begins_it (free_identifier p.used) (q ∙ ap (λ x. rules.in_room x (Send e.place (free_identifier p.used))) r)

    again : (large : Bool) (qos : Qos) (i : ℕ) → pump_step way p e ≡ step_on (rules.once_more false large qos i) e.place p → Does way p e
    again true AtMostOnce i q = ends TooLarge q
    again true AtLeastOnce i q = ends TooLarge q
    again true ExactlyOnce i q = outgrows i p.order q
    again false qos i q = repeats i (q ∙ ap (λ x. rules.in_room x (Resend e.place i)) r)

    sent_again : (here : Bool) (i : ℕ) → e.here ≡ here → e.phase ≡ Sent i → Does way p e
    sent_again true i h ph = absurd (n i (rw (h, ph) (same_id i)))
    sent_again false i h ph = again (is_large way e.copy) e.copy.qos i (rw (l, ph, h) refl)

    go : (phase : Phase) → e.phase ≡ phase → Does way p e
    go Waiting ph = waits (is_late way.now e.copy) (is_large way e.copy) (rw (l, ph) refl)
    go (Sent i) ph = sent_again e.here i refl ph
    go (Released i order) ph = absurd (n i (rw ph (same_id i)))
    go (Oversize i order) ph = absurd (n i (rw ph (same_id i)))

-- ---- so a pump takes a copy further, or something is under way after it

stays_past : (ts : List Turn) (w : World) (n : ℕ) (x : Ending) (e : Entry) (m : TopicAndPayload) → slice_get w.copies n ≡ Some (past x e m) → slice_get (take_turns ts w).copies n ≡ Some (past x e m)
stays_past [] w n x e m h = h
stays_past (t ∷ ts) w n x e m h =
    stays_past ts (take_turn t w) n x e m (ap (λ ls. slice_get ls n) (turn_copies t w) ∙ slice_get-map (lot_after t) w.copies n ∙ ap (option_map (lot_after t)) h)

get_split : (xs : List Lot) (l : Lot) (ys : List Lot) → slice_get (xs ++ l ∷ ys) (length xs) ≡ Some l
get_split [] l ys = refl
get_split (x ∷ xs) l ys = get_split xs l ys

abbrev Moves : World → World → Type 0
Moves w v = Busy v ⊎ (all_left v.copies < all_left w.copies)

leaves_one : (ts : List Turn) (ending : Ending) (xs : List Lot) (e : Entry) (m : TopicAndPayload) (ys : List Lot) (w : World) → w.copies ≡ xs ++ standing e m ∷ ys → Ascends (queue_of w.copies)
    → GoOn w (take_turns (Leave e.place ending ∷ ts) w) → all_left (take_turns (Leave e.place ending ∷ ts) w).copies < all_left w.copies
leaves_one ts ending xs e m ys w q h on =
    let t = Leave e.place ending in
    let v = take_turn t w in
    let moved : v.copies ≡ xs ++ past ending e m ∷ ys =
    turn_copies t w ∙ ap (lots_after t) q ∙ split-after t xs e m ys (subst (λ k. Ascends (queue_of k)) q h) refl ∙ ap (λ k. xs ++ k ∷ ys) (left e.place ending e m refl) in
    let was : slice_get w.copies (length xs) ≡ Some (standing e m) = ap (λ ls. slice_get ls (length xs)) q ∙ get_split xs (standing e m) ys in
    let is : slice_get (take_turns ts v).copies (length xs) ≡ Some (past ending e m) =
    stays_past ts v (length xs) ending e m (ap (λ ls. slice_get ls (length xs)) moved ∙ get_split xs (past ending e m) ys) in
    less_left w.copies (take_turns ts v).copies (turns_length (t ∷ ts) w) on (length xs) (standing e m) (past ending e m) was is (let one = one_least e.phase in omega arith)

sends_one : (t : Turn) (dup : Bool) (i : ℕ) (xs : List Lot) (e : Entry) (m : TopicAndPayload) (ys : List Lot) (w : World) → w.copies ≡ xs ++ standing e m ∷ ys → Ascends (queue_of w.copies) → w.linked ≡ true
    → ((ls : List Lot) → packets t ls ≡ sends dup i e.place 0 ls) → Busy (take_turn t w)
sends_one t dup i xs e m ys w q h linked out =
    let placed = subst (λ k. Ascends (queue_of k)) q h in
    let one : packets t w.copies ≡ publish i (0 + length xs) dup (body e m) ∷ [] = out w.copies ∙ ap (sends dup i e.place 0) q ∙ sends-split dup i 0 xs e m ys (misses_before xs e m ys placed) in
    subst (λ ps. Busy (told ps (record w { copies = lots_after t w.copies }))) (sym one)
    (says_busy (publish i (0 + length xs) dup (body e m)) (record w { copies = lots_after t w.copies }) refl linked)

idle_pump : (way : Way) (k room : ℕ) (p : Pacing) (xs : List Lot) (e : Entry) (m : TopicAndPayload) (ys : List Lot) (w : World) → w.copies ≡ xs ++ standing e m ∷ ys → Ascends (queue_of w.copies) → w.linked ≡ true
    → GoOn w (take_turns (then_on (pump_step way p e) e.phase p (pump_from way (queue_of ys))) w) → Does way p e
    → Moves w (take_turns (then_on (pump_step way p e) e.phase p (pump_from way (queue_of ys))) w)
idle_pump way k room p xs e m ys w q h linked on (ends ending z) =
    let rest = pump_from way (queue_of ys) (paced (Leave e.place ending) e.phase p) in
    let on' : GoOn w (take_turns (Leave e.place ending ∷ rest) w) = subst (λ s. GoOn w (take_turns (then_on s e.phase p (pump_from way (queue_of ys))) w)) z on in
    subst (λ s. Moves w (take_turns (then_on s e.phase p (pump_from way (queue_of ys))) w)) (sym z) (inr (leaves_one rest ending xs e m ys w q h on'))
idle_pump way k room p xs e m ys w q h linked on (begins_it i z) =
    subst (λ s. Moves w (take_turns (then_on s e.phase p (pump_from way (queue_of ys))) w)) (sym z)
    (inl (turns_busy (pump_from way (queue_of ys) (paced (Send e.place i) e.phase p)) (take_turn (Send e.place i) w) (sends_one (Send e.place i) false i xs e m ys w q h linked (λ ls. refl))))
idle_pump way k room p xs e m ys w q h linked on (repeats i z) =
    subst (λ s. Moves w (take_turns (then_on s e.phase p (pump_from way (queue_of ys))) w)) (sym z)
    (inl (turns_busy (pump_from way (queue_of ys) (paced (Resend e.place i) e.phase p)) (take_turn (Resend e.place i) w) (sends_one (Resend e.place i) true i xs e m ys w q h linked (λ ls. refl))))
idle_pump way k room p xs e m ys w q h linked on (outgrows i order z) =
    subst (λ s. Moves w (take_turns (then_on s e.phase p (pump_from way (queue_of ys))) w)) (sym z)
    (inl (turns_busy (pump_from way (queue_of ys) (paced (Outgrow e.place i order) e.phase p)) (take_turn (Outgrow e.place i order) w)
    (says_busy (pubrel i success) (record w { copies = lots_after (Outgrow e.place i order) w.copies }) refl linked)))

-- copies that wait are not on the line, and those that outgrew it are too large for it
pub unsent_at : (largest : ℕ) (w : World) → Reached largest w → AllUnsent largest w.copies
unsent_at largest w r = subst (λ v. AllUnsent largest v.copies) r.1 (run_unsent largest r.0 start (sound_start largest) begins tt)

under_way_at : (largest : ℕ) (w : World) → Reached largest w → w.linked ≡ true → IsUnderWay w
under_way_at largest w r = subst (λ v. v.linked ≡ true → IsUnderWay v) r.1 (all_under_way largest r.0)

not_none : (n : ℕ) → 1 ≤ n → (m : ℕ) × (n ≡ suc m)
not_none zero h = absurd (omega arith)
not_none (suc m) h = (m, refl)

pump_idle : (largest window now : ℕ) (w : World) → Reached largest w → w.linked ≡ true → 1 ≤ window → is_none_left (length (queue_of w.copies)) ≡ false → NoneDue w.copies → Moves w (step largest w (hop.pump window now))
pump_idle largest window now w r h room some none =
    let way : Way = record { window = window; largest = largest; now = now } in
    let f = first w.copies some in
    let p = pace way (queue_of w.copies) in
    let free = window_free largest w.copies none (unsent_at largest w r) in
    let least : 1 ≤ p.room = rw free (omega arith) in
    let one = not_none p.room least in
    let many : 1 ≤ PUMP_LIMIT = omega arith in
    let left_some = not_none PUMP_LIMIT many in
    let d = does way p f.entry left_some.0 one.0 left_some.1 one.1 (λ i x. none i (subst (Has (is_due i)) (sym f.split) (due_at i f.before f.entry f.m f.behind x))) in
    let on = goes_on largest w r (hop.pump window now ∷ []) in
    let same : pump way (queue_of w.copies) ≡ then_on (pump_step way p f.entry) f.entry.phase p (pump_from way (queue_of f.behind)) = ap (λ es. pump_from way es p) f.queue in
    subst (λ ts. Moves w (take_turns ts w)) (sym same)
    (idle_pump way 0 0 p f.before f.entry f.m f.behind w f.split (sound_at largest w r).placed h (subst (λ ts. GoOn w (take_turns ts w)) same on) d)

pump_further : (largest window now : ℕ) (w : World) → Reached largest w → w.linked ≡ true → 1 ≤ window → is_none_left (length (queue_of w.copies)) ≡ false → Moves w (step largest w (hop.pump window now))
pump_further largest window now w r h room some = ⊎_elim
    (λ (x : Has is_packet w.down). inl (busy (inl x)))
    (λ (nd : Has is_packet w.down → ⊥). ⊎_elim
    (λ (y : Has any w.up). inl (busy (inr y)))
    (λ (nu : Has any w.up → ⊥). pump_idle largest window now w r h room some
    (λ i x. ⊎_elim (λ d. nd (told_packet i w.down d)) (λ u. nu (answer_any i w.up u)) (under_way_at largest w r h i x)))
    (has_test any w.up))
    (has_test is_packet w.down)
  where
    busy : Busy w → Busy (step largest w (hop.pump window now))
    busy b = let way : Way = record { window = window; largest = largest; now = now } in turns_busy (pump way (queue_of w.copies)) w b

-- ---- a round

-- a round is a run of the hop
pub round_run : (largest window now : ℕ) (w : World) → after_round largest window now w ≡ run largest (all_to_broker (run largest (all_to_end (step largest w (hop.pump window now))) (step largest w (hop.pump window now)))) (run largest (all_to_end (step largest w (hop.pump window now))) (step largest w (hop.pump window now)))
round_run largest window now w =
    let v = step largest w (hop.pump window now) in
    run_after largest (all_to_end v) (all_to_broker (run largest (all_to_end v) v)) v

after_pump : (largest : ℕ) (w v : World) → Reached largest v → all_left v.copies ≤ all_left w.copies → v.linked ≡ true → Moves w v → Onto w (run largest (all_to_broker (run largest (all_to_end v) v)) (run largest (all_to_end v) v))
after_pump largest w v r l h (inl b) =
    let u = run largest (all_to_end v) v in
    let back = ends_back largest v r h in
    let e : all_left u.copies ≡ all_left v.copies = ap all_left (ends_copies largest (length v.down) v) in
    let f = brokers_further largest u (reached_on largest v r (all_to_end v)) back.0 (back.1 b) in
    let less : all_left (run largest (all_to_broker u) u).copies < all_left u.copies = f.1 in
    (f.0, omega arith)
after_pump largest w v r l h (inr f) =
    let u = run largest (all_to_end v) v in
    let z = run largest (all_to_broker u) u in
    let ru = reached_on largest v r (all_to_end v) in
    let e : all_left u.copies ≡ all_left v.copies = ap all_left (ends_copies largest (length v.down) v) in
    let g : all_left z.copies ≤ all_left u.copies = no_more_left u.copies z.copies (brokers_length largest (length u.up) u) (goes_on largest u ru (all_to_broker u)) in
    (brokers_keep largest u ru (ends_back largest v r h).0, omega arith)

round_onto : (largest window now : ℕ) (w : World) → Reached largest w → w.linked ≡ true → 1 ≤ window → is_none_left (length (queue_of w.copies)) ≡ false → Onto w (after_round largest window now w)
round_onto largest window now w r h room some =
    let way : Way = record { window = window; largest = largest; now = now } in
    let v = step largest w (hop.pump window now) in
    let ts = pump way (queue_of w.copies) in
    let least : all_left v.copies ≤ all_left w.copies = no_more_left w.copies v.copies (turns_length ts w) (goes_on largest w r (hop.pump window now ∷ [])) in
    subst (Onto w) (sym (round_run largest window now w))
    (after_pump largest w v (reached_on largest w r (hop.pump window now ∷ [])) least (turns_linked ts w ∙ h) (pump_further largest window now w r h room some))

-- ---- a drain

-- if neither holds, both fail
pub either_false : (a b : Bool) → (a || not b) ≡ false → (a ≡ false) × (b ≡ true)
either_false false true h = (refl, refl)
either_false false false h = absurd (cc)
either_false true b h = absurd (cc)

none_over : (ls : List Lot) → all_left ls ≡ 0 → queue_of ls ≡ []
none_over [] h = refl
none_over (past x e m ∷ ls) h = let z : all_left ls ≡ 0 = omega arith in none_over ls z
none_over (standing e m ∷ ls) h = let one = one_least e.phase in absurd (omega arith)

some_left : (ls : List Lot) → is_none_left (length (queue_of ls)) ≡ false → 1 ≤ all_left ls
some_left [] h = absurd (cc)
some_left (past x e m ∷ ls) h = let r = some_left ls h in omega arith
some_left (standing e m ∷ ls) h = let one = one_least e.phase in omega arith

-- a round leaves the hop reached
pub reached_round : (largest window now : ℕ) (w : World) → Reached largest w → Reached largest (after_round largest window now w)
reached_round largest window now w r = reached_on largest w r (round_events largest window now w)

-- a round of a drain that is not over goes further
pub round_further : (largest window now : ℕ) (w : World) → Reached largest w → 1 ≤ window → is_over w ≡ false → IsFurther w (after_round largest window now w)
round_further largest window now w r room o =
    let both = either_false (is_none_left (length (queue_of w.copies))) w.linked o in
    let f = round_onto largest window now w r both.1 room both.0 in
    record { linked = f.0; less = f.1 }

-- a drain takes no more rounds than there are steps to go
pub rounds_within : (largest window : ℕ) (moments : List ℕ) (w : World) → Reached largest w → 1 ≤ window → rounds_taken largest window moments w ≤ all_left w.copies
rounds_within largest window [] w r room = omega arith
rounds_within largest window (now ∷ moments) w r room = ⊎_elim
    (λ (o : is_over w ≡ true). rw o (omega arith))
    (λ (o : is_over w ≡ false).
    let v = after_round largest window now w in
    let f : all_left v.copies < all_left w.copies = (round_further largest window now w r room o).less in
    let g = rounds_within largest window moments v (reached_round largest window now w r) room in
    rw o (omega arith))
    (test_cases (is_over w))

over_empty : (w : World) → w.linked ≡ true → is_over w ≡ true → queue_of w.copies ≡ []
over_empty w h o = go (queue_of w.copies) (rw h at o)
  where
    go : (es : List Entry) → (is_none_left (length es) || false) ≡ true → es ≡ []
    go [] x = refl
    go (e ∷ es) x = absurd (cc)

abbrev pub Emptied : World → Type 0
Emptied w = (w.linked ≡ true) × (queue_of w.copies ≡ [])

-- and leaves the queue empty
pub drain_empties : (largest window : ℕ) (moments : List ℕ) (w : World) → Reached largest w → 1 ≤ window → w.linked ≡ true → all_left w.copies ≤ length moments → Emptied (drained largest window moments w)
drain_empties largest window [] w r room h few =
    let none : all_left w.copies ≡ 0 = omega arith in
    (h, none_over w.copies none)
drain_empties largest window (now ∷ moments) w r room h few = ⊎_elim
    (λ (o : is_over w ≡ true). rw o (h, over_empty w h o))
    (λ (o : is_over w ≡ false).
    let v = after_round largest window now w in
    let y = round_further largest window now w r room o in
    let f : all_left v.copies < all_left w.copies = y.less in
    rw o (drain_empties largest window moments v (reached_round largest window now w r) room y.linked (omega arith)))
    (test_cases (is_over w))

-- at most two steps for each copy
pub two_each : (ls : List Lot) → all_left ls ≤ 2 * length (queue_of ls)
two_each [] = omega arith
two_each (past x e m ∷ ls) = let r = two_each ls in omega arith
two_each (standing e m ∷ ls) = let a = two_most e.phase in let b = two_each ls in omega arith

-- ---- of every run

-- so it is in every run of the hop: a round goes further
pub round_of_run : (largest window now : ℕ) (events : List Event) → 1 ≤ window → is_over (run largest events start) ≡ false → IsFurther (run largest events start) (after_round largest window now (run largest events start))
round_of_run largest window now events room o = round_further largest window now (run largest events start) (events, refl) room o

-- the rounds are at most twice the copies
pub rounds_of_run : (largest window : ℕ) (moments : List ℕ) (events : List Event) → 1 ≤ window → rounds_taken largest window moments (run largest events start) ≤ 2 * length (queue_of (run largest events start).copies)
rounds_of_run largest window moments events room =
    let w = run largest events start in
    let a = rounds_within largest window moments w (events, refl) room in
    let b = two_each w.copies in
    omega arith

emptied_run : (largest window : ℕ) (moments : List ℕ) (events : List Event) → 1 ≤ window → (run largest events start).linked ≡ true → 2 * length (queue_of (run largest events start).copies) ≤ length moments → Emptied (drained largest window moments (run largest events start))
emptied_run largest window moments events room h few =
    let w = run largest events start in
    let b = two_each w.copies in
    drain_empties largest window moments w (events, refl) room h (omega arith)

-- and behind them the queue is empty
pub empty_of_run : (largest window : ℕ) (moments : List ℕ) (events : List Event) → 1 ≤ window → (run largest events start).linked ≡ true → 2 * length (queue_of (run largest events start).copies) ≤ length moments → queue_of (drained largest window moments (run largest events start)).copies ≡ []
empty_of_run largest window moments events room h few = (emptied_run largest window moments events room h few).1

-- while the line stays
pub linked_of_run : (largest window : ℕ) (moments : List ℕ) (events : List Event) → 1 ≤ window → (run largest events start).linked ≡ true → 2 * length (queue_of (run largest events start).copies) ≤ length moments → (drained largest window moments (run largest events start)).linked ≡ true
linked_of_run largest window moments events room h few = (emptied_run largest window moments events room h few).0
