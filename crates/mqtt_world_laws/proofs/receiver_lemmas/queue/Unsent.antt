-- A copy that waits was not sent on this connection, and one that was released as too large is so; a copy that a pump ends has
-- expired at its moment, or is too large.
use Rattle.std.proofs.Common.{◌≡◌, ℕ, zero, suc, ◌-◌, ◌+◌, Bool, true, false, cond, ◌&&◌, List, [], ◌∷◌, ◌++◌, length, map, nat_eq, nat_lt, refl, inl, sym, ap, ◌∙◌, subst, Option, Some, None, Ok, Err}
use Rattle.mqtt_base.specs.declared.session.Ending.{Ending}
use Rattle.mqtt_base.specs.declared.session.Ending.TheVariants.{Expired, TooLarge}
use Rattle.mqtt_base.specs.declared.session.Qos.{Qos}
use Rattle.mqtt_base.specs.declared.session.Qos.TheVariants.{AtMostOnce, AtLeastOnce, ExactlyOnce}
use Rattle.mqtt_base.specs.declared.session.Phase.{Phase}
use Rattle.mqtt_base.specs.declared.session.Phase.TheVariants.{Waiting, Sent, Released, Oversize}
use Rattle.mqtt_flow.specs.inbound.Identifiers.{free_identifier}
use Rattle.mqtt_flow.specs.inbound.Line.{Link, away, asked, live}
use Rattle.mqtt_flow.specs.outbound.Outbound as rules
use Rattle.mqtt_flow.specs.outbound.Outbound.{pass, expired, in_room, dropped, gives_way, is_late, is_large, is_refusal, is_waiting, has_room, paced, pump, pump_from, pump_step, puback_at, pubrec_at, pubcomp_at, step_by, step_on, then_on, way_made, verdict, verdict_by}
use Rattle.mqtt_flow.specs.outbound.OutboundWorld.{Lot, standing, past, TopicAndPayload, World, Event, cut, ended_by, enter, expire, to_broker, old_to_broker, to_end, give_up, break_line, make_line, close, close_old, restart, connects, connects_old, enters, is_granted, lot_after, lots_after, old_comes, packets, pushes, queue_of, renewed, replied, replied_old, run, settles, settles_old, start, step, take_turn, take_turns, told, up_comes}
use Rattle.mqtt_flow.specs.outbound.OutboundWorld as hop
use Rattle.mqtt_flow.specs.outbound.Pacing.{Pacing}
use Rattle.mqtt_flow.specs.outbound.Queue.{Ascends, entering, holder, next_order}
use Rattle.mqtt_flow.specs.outbound.Receiver.{Answer, connect, puback, pubrec, pubcomp, gives_up, joins}
use Rattle.mqtt_flow.specs.declared.outbound.entry.Entry.{Entry}
use Rattle.mqtt_flow.specs.declared.outbound.entry.QueueLimits.{QueueLimits}
use Rattle.mqtt_flow.specs.declared.outbound.entry.QueuedCopy.{QueuedCopy}
use Rattle.mqtt_flow.specs.declared.outbound.entry.Turn.{Turn}
use Rattle.mqtt_flow.specs.declared.outbound.entry.Turn.TheVariants.{Send, Resend, Release, Outgrow, Repeat, Unknown, Leave}
use Rattle.mqtt_flow.specs.declared.outbound.entry.Way.{Way}
use Rattle.mqtt_flow.proofs.outbound_lemmas.outbound.SessionLives.{IsAt, placed-after, seen, split-after}
use Rattle.mqtt_flow.proofs.outbound_lemmas.outbound.SessionQueues.{Sound, shift}
use Rattle.mqtt_flow.proofs.outbound_lemmas.outbound.SessionSteps.{good_on, run_leads}
use Rattle.mqtt_flow.proofs.outbound_lemmas.outbound.Stages.{Good}
use Rattle.std.specs.Prelude.{⊤}
use Rattle.mqtt_world_laws.specs.receiver.Rounds.{IsDrainCause}
use Rattle.mqtt_world_laws.proofs.receiver_lemmas.drains.RoundPhases.{turn_copies, reads_copies}

-- by phase
abbrev pub UnsentBy : ℕ → QueuedCopy → Phase → Bool → Type 0
UnsentBy largest copy Waiting here = here ≡ false
UnsentBy largest copy (Sent i) here = Unit {0}
UnsentBy largest copy (Released i order) here = Unit {0}
UnsentBy largest copy (Oversize i order) here = nat_lt largest copy.size ≡ true

abbrev pub Unsent : ℕ → Lot → Type 0
Unsent largest (standing e m) = UnsentBy largest e.copy e.phase e.here
Unsent largest (past ending e m) = Unit {0}

abbrev pub AllUnsent : ℕ → List Lot → Type 0
AllUnsent largest [] = Unit {0}
AllUnsent largest (l ∷ ls) = Unsent largest l × AllUnsent largest ls

-- turns that send no PUBLISH, and leave a copy that was sent as large as it may be
abbrev Sendless : Turn → Type 0
Sendless (Send p i) = ⊥
Sendless (Resend p i) = ⊥
Sendless (Release p i order) = Unit {0}
Sendless (Outgrow p i order) = ⊥
Sendless (Repeat i) = Unit {0}
Sendless (Unknown i) = Unit {0}
Sendless (Leave p ending) = Unit {0}

module _ (largest : ℕ) where
  -- a change that leaves each waiting copy unsent leaves all so
  pub all_map : (f : Lot → Lot) → ((l : Lot) → Unsent largest l → Unsent largest (f l)) → (ls : List Lot) → AllUnsent largest ls → AllUnsent largest (map f ls)
  all_map f h [] u = tt
  all_map f h (l ∷ ls) u = (h l u.0, all_map f h ls u.1)

  -- all waiting copies are unsent with one more of which that holds
  pub all_push : (ls : List Lot) (l : Lot) → AllUnsent largest ls → Unsent largest l → AllUnsent largest (ls ++ l ∷ [])
  all_push [] l u x = (x, tt)
  all_push (k ∷ ls) l u x = (u.0, all_push ls l u.1 x)

  -- all waiting copies are unsent with one changed, if the change leaves it so
  pub all_change : (xs : List Lot) (l k : Lot) (ys : List Lot) → (Unsent largest l → Unsent largest k) → AllUnsent largest (xs ++ l ∷ ys) → AllUnsent largest (xs ++ k ∷ ys)
  all_change [] l k ys f u = (f u.0, u.1)
  all_change (x ∷ xs) l k ys f u = (u.0, all_change xs l k ys f u.1)

  -- ---- turns that send no PUBLISH

  -- a copy that goes on in its handshake, or stays as it was, leaves what waits unsent
  pub on_release : (b : Bool) (e : Entry) (p : Phase) → UnsentBy largest e.copy p e.here → UnsentBy largest e.copy e.phase e.here → UnsentBy largest (cond b (record e { phase = p }) e).copy (cond b (record e { phase = p }) e).phase (cond b (record e { phase = p }) e).here
  on_release true e p h u = h
  on_release false e p h u = u

  -- a copy that leaves, or stays, leaves what waits unsent
  pub on_leave : (b : Bool) (ending : Ending) (e : Entry) (m : TopicAndPayload) → UnsentBy largest e.copy e.phase e.here → Unsent largest (ended_by b ending e m)
  on_leave true ending e m u = tt
  on_leave false ending e m u = u

  sendless_lot : (t : Turn) → Sendless t → (l : Lot) → Unsent largest l → Unsent largest (lot_after t l)
  sendless_lot t h (past x e m) u = tt
  sendless_lot (Send p i) h (standing e m) u = absurd h
  sendless_lot (Resend p i) h (standing e m) u = absurd h
  sendless_lot (Release p i order) h (standing e m) u = on_release (nat_eq e.place p) e (Released i order) tt u
  sendless_lot (Outgrow p i order) h (standing e m) u = absurd h
  sendless_lot (Repeat i) h (standing e m) u = u
  sendless_lot (Unknown i) h (standing e m) u = u
  sendless_lot (Leave p ending) h (standing e m) u = on_leave (nat_eq e.place p) ending e m u

  sendless_lots : (t : Turn) (ls : List Lot) → Sendless t → AllUnsent largest ls → AllUnsent largest (lots_after t ls)
  sendless_lots t ls h u = all_map (lot_after t) (sendless_lot t h) ls u

  -- a turn that sends no PUBLISH leaves copies that wait unsent
  pub sendless_turn : (t : Turn) (w : World) → Sendless t → AllUnsent largest w.copies → AllUnsent largest (take_turn t w).copies
  sendless_turn t w h u = subst (AllUnsent largest) (sym (turn_copies t w)) (sendless_lots t w.copies h u)

  abbrev AllSendless : List Turn → Type 0
  AllSendless [] = Unit {0}
  AllSendless (t ∷ ts) = Sendless t × AllSendless ts

  -- turns that send no PUBLISH leave copies that wait unsent
  pub sendless_turns : (ts : List Turn) (w : World) → AllSendless ts → AllUnsent largest w.copies → AllUnsent largest (take_turns ts w).copies
  sendless_turns [] w h u = u
  sendless_turns (t ∷ ts) w h u = sendless_turns ts (take_turn t w) h.1 (sendless_turn t w h.0 u)

  expired_at_sendless : (b : Bool) (e : Entry) (ts : List Turn) → AllSendless ts → AllSendless (rules.expired_at b e ts)
  expired_at_sendless true e ts h = (tt, h)
  expired_at_sendless false e ts h = h

  -- copies that expire send no PUBLISH
  pub expired_sendless : (now : ℕ) (es : List Entry) → AllSendless (expired now es)
  expired_sendless now [] = tt
  expired_sendless now (e ∷ es) = expired_at_sendless (is_waiting e.phase && is_late now e.copy) e (expired now es) (expired_sendless now es)

  dropped_at_sendless : (b : Bool) (e : Entry) (fewer as_many : List Turn) → AllSendless fewer → AllSendless as_many → AllSendless (rules.dropped_at b e fewer as_many)
  dropped_at_sendless true e fewer as_many f h = (tt, f)
  dropped_at_sendless false e fewer as_many f h = h

  -- copies that make way send no PUBLISH
  pub dropped_sendless : (k since : ℕ) (es : List Entry) → AllSendless (dropped k since es)
  dropped_sendless k since [] = tt
  dropped_sendless zero since (e ∷ es) = tt
  dropped_sendless (suc k) since (e ∷ es) = dropped_at_sendless (gives_way since e) e (dropped k since es) (dropped (suc k) since es) (dropped_sendless k since es) (dropped_sendless (suc k) since es)

  -- ---- answers

  abbrev IsSendless : rules.Answer → Type 0
  IsSendless (Err fault) = Unit {0}
  IsSendless (Ok None) = Unit {0}
  IsSendless (Ok (Some t)) = Sendless t

  puback_sendless : (code : ℕ) (o : Option Entry) → IsSendless (puback_at code o)
  puback_sendless code None = tt
  puback_sendless code (Some e) = go e.phase e.copy.qos
    where
      go : (p : Phase) (q : Qos) → IsSendless (rules.puback_by p q code e.place)
      go Waiting q = tt
      go (Sent i) AtMostOnce = tt
      go (Sent i) AtLeastOnce = tt
      go (Sent i) ExactlyOnce = tt
      go (Released i order) q = tt
      go (Oversize i order) q = tt

  pubrec_sendless : (i code order : ℕ) (o : Option Entry) → IsSendless (pubrec_at i code order o)
  pubrec_sendless i code order None = tt
  pubrec_sendless i code order (Some e) = go e.phase e.copy.qos
    where
      by : (b : Bool) (j : ℕ) → IsSendless (rules.released_by b e.place j order)
      by true j = tt
      by false j = tt

      go : (p : Phase) (q : Qos) → IsSendless (rules.pubrec_by p q code e.place order)
      go Waiting q = tt
      go (Sent j) AtMostOnce = tt
      go (Sent j) AtLeastOnce = tt
      go (Sent j) ExactlyOnce = by (is_refusal code) j
      go (Released j x) q = tt
      go (Oversize j x) q = tt

  pubcomp_sendless : (o : Option Entry) → IsSendless (pubcomp_at o)
  pubcomp_sendless None = tt
  pubcomp_sendless (Some e) = go e.phase
    where
      go : (p : Phase) → IsSendless (rules.pubcomp_by p e.place)
      go Waiting = tt
      go (Sent i) = tt
      go (Released i order) = tt
      go (Oversize i order) = tt

  replied_unsent : (a : rules.Answer) (rest : List Answer) (w : World) → IsSendless a → AllUnsent largest w.copies → AllUnsent largest (replied a rest w).copies
  replied_unsent (Err fault) rest w h u = u
  replied_unsent (Ok None) rest w h u = u
  replied_unsent (Ok (Some t)) rest w h u = sendless_turn t (record w { up = rest }) h u

  replied_old_unsent : (a : rules.Answer) (rest : List Answer) (w : World) → IsSendless a → AllUnsent largest w.copies → AllUnsent largest (replied_old a rest w).copies
  replied_old_unsent (Err fault) rest w h u = u
  replied_old_unsent (Ok None) rest w h u = u
  replied_old_unsent (Ok (Some t)) rest w h u = sendless_lots t w.copies h u

  by_phase : (copy : QueuedCopy) (p : Phase) (here : Bool) → UnsentBy largest copy p here → UnsentBy largest copy p false
  by_phase copy Waiting here u = refl
  by_phase copy (Sent i) here u = tt
  by_phase copy (Released i order) here u = tt
  by_phase copy (Oversize i order) here u = u

  -- a new connection leaves copies that wait unsent
  pub renewed_unsent : (l : Lot) → Unsent largest l → Unsent largest (renewed l)
  renewed_unsent (standing e m) u = by_phase e.copy e.phase e.here u
  renewed_unsent (past x e m) u = tt

  cut_unsent : (l : Lot) → Unsent largest l → Unsent largest (cut l)
  cut_unsent (standing e m) u = tt
  cut_unsent (past x e m) u = tt

  connects_unsent : (s c r : Bool) (rest : List Answer) (w : World) → AllUnsent largest w.copies → AllUnsent largest (connects s c r rest w).copies
  connects_unsent false c true rest w u = u
  connects_unsent false c false rest w u = all_map cut cut_unsent w.copies u
  connects_unsent true true r rest w u = all_map cut cut_unsent w.copies u
  connects_unsent true false r rest w u = all_map renewed renewed_unsent w.copies u

  connects_old_unsent : (s c r : Bool) (rest : List Answer) (w : World) → AllUnsent largest w.copies → AllUnsent largest (connects_old s c r rest w).copies
  connects_old_unsent false c true rest w u = u
  connects_old_unsent false c false rest w u = all_map cut cut_unsent w.copies u
  connects_old_unsent true true r rest w u = all_map cut cut_unsent w.copies u
  connects_old_unsent true false r rest w u = all_map renewed renewed_unsent w.copies u

  -- a packet that the broker reads of the receiver's line leaves copies that wait unsent
  pub up_unsent : (r : Bool) (up : List Answer) (w : World) → AllUnsent largest w.copies → AllUnsent largest (up_comes r up w).copies
  up_unsent r [] w u = u
  up_unsent r (connect c ∷ rest) w u = connects_unsent w.stands c r rest w u
  up_unsent r (puback i code ∷ rest) w u = replied_unsent (rules.puback i code (queue_of w.copies)) rest w (puback_sendless code (holder i (queue_of w.copies))) u
  up_unsent r (pubrec i code ∷ rest) w u = replied_unsent (rules.pubrec i code (queue_of w.copies)) rest w (pubrec_sendless i code (next_order (queue_of w.copies)) (holder i (queue_of w.copies))) u
  up_unsent r (pubcomp i code ∷ rest) w u = replied_unsent (rules.pubcomp i (queue_of w.copies)) rest w (pubcomp_sendless (holder i (queue_of w.copies))) u

  -- a packet that the broker reads of the line that was given up leaves copies that wait unsent
  pub old_unsent : (r : Bool) (old : List Answer) (w : World) → AllUnsent largest w.copies → AllUnsent largest (old_comes r old w).copies
  old_unsent r [] w u = u
  old_unsent r (connect c ∷ rest) w u = connects_old_unsent w.stands c r rest w u
  old_unsent r (puback i code ∷ rest) w u = replied_old_unsent (rules.puback i code (queue_of w.copies)) rest w (puback_sendless code (holder i (queue_of w.copies))) u
  old_unsent r (pubrec i code ∷ rest) w u = replied_old_unsent (rules.pubrec i code (queue_of w.copies)) rest w (pubrec_sendless i code (next_order (queue_of w.copies)) (holder i (queue_of w.copies))) u
  old_unsent r (pubcomp i code ∷ rest) w u = replied_old_unsent (rules.pubcomp i (queue_of w.copies)) rest w (pubcomp_sendless (holder i (queue_of w.copies))) u

-- ---- a pump: each of its turns is at the entry that it looks at

-- a copy that it ends has expired or is too large
abbrev pub Caused : Way → QueuedCopy → Turn → Type 0
Caused way copy (Send p i) = ⊤
Caused way copy (Resend p i) = ⊤
Caused way copy (Release p i order) = ⊤
Caused way copy (Outgrow p i order) = ⊤
Caused way copy (Repeat i) = ⊤
Caused way copy (Unknown i) = ⊤
Caused way copy (Leave p ending) = IsDrainCause way.largest (way.now ∷ []) copy ending

-- a turn at this copy: what it ends has a cause of a drain, and what it leaves waiting is unsent
pub record Turns (way : Way) (e : Entry) (m : TopicAndPayload) (t : Turn) : Type 0 where
  pub at : IsAt e.place t
  pub caused : Caused way e.copy t
  pub keeps : Unsent way.largest (standing e m) → Unsent way.largest (lot_after t (standing e m))

-- it stops, passes the entry on, or takes a turn there
pub data Looks (way : Way) (p : Pacing) (e : Entry) (m : TopicAndPayload) : Type 0 where
  stops : (t : Turn) → pump_step way p e ≡ in_room 0 t → Looks way p e m
  goes : pump_step way p e ≡ step_on pass e.place p → Looks way p e m
  takes : (t : Turn) → Turns way e m t → pump_step way p e ≡ in_room 1 t → Looks way p e m

leaving : (way : Way) (e : Entry) (m : TopicAndPayload) (ending : Ending) → IsDrainCause way.largest (way.now ∷ []) e.copy ending → Turns way e m (Leave e.place ending)
leaving way e m ending c = record { at = refl; caused = c; keeps = on_leave way.largest (nat_eq e.place e.place) ending e m }

sending : (way : Way) (e : Entry) (m : TopicAndPayload) (i : ℕ) → Turns way e m (Send e.place i)
sending way e m i = record { at = refl; caused = tt; keeps = go (nat_eq e.place e.place) }
  where
    f : Entry
    f = record e { phase = Sent i; here = true }

    go : (b : Bool) → UnsentBy way.largest e.copy e.phase e.here → UnsentBy way.largest (cond b f e).copy (cond b f e).phase (cond b f e).here
    go true u = tt
    go false u = u

outgrowing : (way : Way) (e : Entry) (m : TopicAndPayload) (i order : ℕ) → is_large way e.copy ≡ true → Turns way e m (Outgrow e.place i order)
outgrowing way e m i order large = record { at = refl; caused = tt; keeps = on_release way.largest (nat_eq e.place e.place) e (Oversize i order) large }

resending : (way : Way) (e : Entry) (m : TopicAndPayload) (i j : ℕ) → e.phase ≡ Sent j → Turns way e m (Resend e.place i)
resending way e m i j ph = record { at = refl; caused = tt; keeps = λ u. go (nat_eq e.place e.place) u }
  where
    f : Entry
    f = record e { here = true }

    go : (b : Bool) → UnsentBy way.largest e.copy e.phase e.here → UnsentBy way.largest (cond b f e).copy (cond b f e).phase (cond b f e).here
    go true u = subst (λ p. UnsentBy way.largest e.copy p true) (sym ph) tt
    go false u = u

-- what a pump does at a copy is a turn for that copy, or none
pub looks : (way : Way) (p : Pacing) (e : Entry) (m : TopicAndPayload) → Looks way p e m
looks way p e m = go p.left refl
  where
    room_by : (t : Turn) (room : ℕ) → pump_step way p e ≡ in_room room t → Turns way e m t → Looks way p e m
    room_by t zero q h = stops t q
    room_by t (suc room) q h = takes t h q

    waits : (late large : Bool) → is_late way.now e.copy ≡ late → is_large way e.copy ≡ large → pump_step way p e ≡ step_on (rules.first_time late large) e.place p → Looks way p e m
    waits true large l g q = takes (Leave e.place Expired) (leaving way e m Expired (inl l)) q
    waits false true l g q = takes (Leave e.place TooLarge) (leaving way e m TooLarge g) q
    waits false false l g q = room_by (Send e.place (free_identifier p.used)) p.room q (sending way e m (free_identifier p.used))

    again : (here large : Bool) (qos : Qos) (i : ℕ) → is_large way e.copy ≡ large → e.phase ≡ Sent i → pump_step way p e ≡ step_on (rules.once_more here large qos i) e.place p → Looks way p e m
    again true large qos i g ph q = goes q
    again false true AtMostOnce i g ph q = takes (Leave e.place TooLarge) (leaving way e m TooLarge g) q
    again false true AtLeastOnce i g ph q = takes (Leave e.place TooLarge) (leaving way e m TooLarge g) q
    again false true ExactlyOnce i g ph q = takes (Outgrow e.place i p.order) (outgrowing way e m i p.order g) q
    again false false qos i g ph q = room_by (Resend e.place i) p.room q (resending way e m i i ph)

    by : (phase : Phase) → e.phase ≡ phase → pump_step way p e ≡ step_on (verdict_by way e.copy e.here phase) e.place p → Looks way p e m
    by Waiting ph q = waits (is_late way.now e.copy) (is_large way e.copy) refl refl q
    by (Sent i) ph q = again e.here (is_large way e.copy) e.copy.qos i refl ph q
    by (Released i order) ph q = goes q
    by (Oversize i order) ph q = goes q

    go : (left : ℕ) → p.left ≡ left → Looks way p e m
    go zero l = stops (Repeat 0) (rw l refl)
    go (suc k) l = by e.phase refl (rw l refl)

abbrev Later : Way → List Lot → Type 0
Later way ys = (xs : List Lot) (p : Pacing) (w : World) → w.copies ≡ xs ++ ys → Ascends (queue_of w.copies) → AllUnsent way.largest w.copies → AllUnsent way.largest (take_turns (pump_from way (queue_of ys) p) w).copies

walk_step : (way : Way) (e : Entry) (m : TopicAndPayload) (ys xs : List Lot) (p : Pacing) (w : World) → w.copies ≡ xs ++ standing e m ∷ ys → Ascends (queue_of w.copies) → AllUnsent way.largest w.copies → Later way ys → Looks way p e m
    → AllUnsent way.largest (take_turns (then_on (pump_step way p e) e.phase p (pump_from way (queue_of ys))) w).copies
walk_step way e m ys xs p w q h u later (stops t z) =
    subst (λ s. AllUnsent way.largest (take_turns (then_on s e.phase p (pump_from way (queue_of ys))) w).copies) (sym z) u
walk_step way e m ys xs p w q h u later (goes z) =
    subst (λ s. AllUnsent way.largest (take_turns (then_on s e.phase p (pump_from way (queue_of ys))) w).copies) (sym z)
    (later (xs ++ standing e m ∷ []) p w (q ∙ shift xs (standing e m) ys) h u)
walk_step way e m ys xs p w q h u later (takes t x z) =
    let v = take_turn t w in
    let moved : v.copies ≡ xs ++ lot_after t (standing e m) ∷ ys =
    turn_copies t w ∙ ap (lots_after t) q ∙ split-after t xs e m ys (subst (λ k. Ascends (queue_of k)) q h) x.at in
    subst (λ s. AllUnsent way.largest (take_turns (then_on s e.phase p (pump_from way (queue_of ys))) w).copies) (sym z)
    (later (xs ++ lot_after t (standing e m) ∷ []) (paced t e.phase p) v (moved ∙ shift xs (lot_after t (standing e m)) ys)
    (subst (λ k. Ascends (queue_of k)) (sym (turn_copies t w)) (placed-after t w.copies h))
    (subst (AllUnsent way.largest) (sym moved) (all_change way.largest xs (standing e m) (lot_after t (standing e m)) ys x.keeps (subst (AllUnsent way.largest) q u))))

pump_walk : (way : Way) (ys xs : List Lot) (p : Pacing) (w : World) → w.copies ≡ xs ++ ys → Ascends (queue_of w.copies) → AllUnsent way.largest w.copies → AllUnsent way.largest (take_turns (pump_from way (queue_of ys) p) w).copies
pump_walk way [] xs p w q h u = u
pump_walk way (past x e m ∷ ys) xs p w q h u = pump_walk way ys (xs ++ past x e m ∷ []) p w (q ∙ shift xs (past x e m) ys) h u
pump_walk way (standing e m ∷ ys) xs p w q h u =
    walk_step way e m ys xs p w q h u (λ xs' p' w' q' h' u'. pump_walk way ys xs' p' w' q' h' u') (looks way p e m)

-- ---- each event

enters_unsent : (largest : ℕ) (s g r : Bool) (limits : QueueLimits) (since : ℕ) (copy : QueuedCopy) (m : TopicAndPayload) (w : World) → AllUnsent largest w.copies → AllUnsent largest (enters s g r limits since copy m w).copies
enters_unsent largest false g r limits since copy m w u = u
enters_unsent largest true false r limits since copy m w u = u
enters_unsent largest true true false limits since copy m w u = u
enters_unsent largest true true true limits since copy m w u =
    let v = take_turns (way_made limits since (queue_of w.copies)) w in
    all_push largest v.copies (standing (entering copy (queue_of v.copies)) m) (sendless_turns largest (way_made limits since (queue_of w.copies)) w (dropped_sendless largest (length (queue_of w.copies) + 1 - limits.queue) since (queue_of w.copies)) u) refl

gives_same : (c : Bool) (l : Link) (w : World) → (gives_up c l w).copies ≡ w.copies
gives_same true l w = refl
gives_same false away w = refl
gives_same false asked w = refl
gives_same false live w = refl

joins_same : (l : Link) (c : Bool) (w : World) → (joins l c w).copies ≡ w.copies
joins_same away c w = refl
joins_same asked c w = refl
joins_same live c w = refl

-- a step leaves it so
pub step_unsent : (largest : ℕ) (w : World) (e : Event) → Sound largest w → AllUnsent largest w.copies → AllUnsent largest (step largest w e).copies
step_unsent largest w (enter limits since copy m) s u = enters_unsent largest w.stands (is_granted copy.qos) (has_room limits since (queue_of w.copies)) limits since copy m w u
step_unsent largest w (expire now) s u = sendless_turns largest (expired now (queue_of w.copies)) w (expired_sendless largest now (queue_of w.copies)) u
step_unsent largest w (hop.pump window now) s u = let way : Way = record { window = window; largest = largest; now = now } in pump_walk way w.copies [] (rules.pace way (queue_of w.copies)) w refl s.placed u
step_unsent largest w (to_broker r) s u = up_unsent largest r w.up w u
step_unsent largest w (old_to_broker r) s u = old_unsent largest r w.old w u
step_unsent largest w to_end s u = subst (AllUnsent largest) (sym (reads_copies w.down w)) u
step_unsent largest w give_up s u = subst (AllUnsent largest) (sym (gives_same w.clean w.link w)) u
step_unsent largest w break_line s u = u
step_unsent largest w (make_line c) s u = subst (AllUnsent largest) (sym (joins_same w.link c w)) u
step_unsent largest w close s u = u
step_unsent largest w close_old s u = u
step_unsent largest w restart s u = all_map largest renewed (renewed_unsent largest) w.copies u

-- so does a run
pub run_unsent : (largest : ℕ) (es : List Event) (w : World) → Sound largest w → Good (seen w) → AllUnsent largest w.copies → AllUnsent largest (run largest es w).copies
run_unsent largest [] w s g u = u
run_unsent largest (e ∷ es) w s g u =
    let l = run_leads largest (e ∷ []) w s g in
    run_unsent largest es (step largest w e) l.sound (good_on l g) (step_unsent largest w e s u)
