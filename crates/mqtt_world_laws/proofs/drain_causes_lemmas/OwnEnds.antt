-- Deeds by which copies of one client alone end, and by what ends in a drain; and the turns of a queue that make such.
use Rattle.std.proofs.Common.{◌≡◌, ℕ, zero, suc, Bool, true, false, cond, List, [], ◌∷◌, ◌++◌, Option, Some, None, nat_lt, refl, sym, subst}
use Rattle.std.specs.Prelude.{⊤, flat_map, nat_le, Ok, Err}
use Rattle.std.specs.List.{AllByRecursion, cons_option}
use Rattle.mqtt_base.specs.declared.session.Ending.{Ending}
use Rattle.mqtt_base.specs.declared.session.Ending.TheVariants.{Taken, Refused, Expired, TooLarge, SessionEnded, Dropped}
use Rattle.mqtt_base.specs.declared.session.Phase.{Phase}
use Rattle.mqtt_base.specs.declared.session.Phase.TheVariants.{Waiting, Sent, Released, Oversize}
use Rattle.mqtt_base.specs.declared.session.Qos.{Qos}
use Rattle.mqtt_base.specs.declared.session.Qos.TheVariants.{AtMostOnce, AtLeastOnce, ExactlyOnce}
use Rattle.mqtt_packet.specs.declared.codec.packet.Packet.{Packet}
use Rattle.mqtt_flow.specs.outbound.Outbound.{Verdict, pass, end, outgrow, send, resend, Answer, is_refusal, ending_by, acknowledged, puback_by, puback_at, released_by, received, pubrec_by, pubrec_at, pubcomp_by, pubcomp_at, first_time, too_large, once_more, verdict, verdict_by, in_room, step_by, paced, then_on, pump_from, dropped, dropped_at, gives_way, is_late, is_large}
use Rattle.mqtt_flow.specs.outbound.Pacing.{Pacing}
use Rattle.mqtt_flow.specs.declared.outbound.entry.Entry.{Entry as FlowEntry}
use Rattle.mqtt_flow.specs.declared.outbound.entry.QueuedCopy.{QueuedCopy}
use Rattle.mqtt_flow.specs.declared.outbound.entry.Turn.{Turn}
use Rattle.mqtt_flow.specs.declared.outbound.entry.Turn.TheVariants as turns
use Rattle.mqtt_flow.specs.declared.outbound.entry.Way.{Way}
use Rattle.mqtt_flow.specs.inbound.Identifiers.{free_identifier}
use Rattle.mqtt_records.specs.messages.Queue.{CopyRow}
use Rattle.mqtt_records.specs.state.Session.{copy_place}
use Rattle.mqtt_records.specs.declared.state.session.Session.{Session}
use Rattle.mqtt_records.specs.lists.Order.{row_at}
use Rattle.mqtt_rules.specs.step.Deeds.{whose, Leave, Deed, At, Send, after, offer}
use Rattle.mqtt_rules.specs.step.Outbound.{of_entry, leave_deeds, turn_deeds, all_turn_deeds}
use Rattle.mqtt_rules.specs.step.Packets.{size_of}
use Rattle.mqtt_rules.specs.step.State.{Broker, Line}
use Rattle.mqtt_rules.specs.step.Step.{Call}
use Rattle.mqtt_world_laws.specs.causes.Endings.{Asked, EndAt, end_at, ends_of}
use Rattle.mqtt_world_laws.specs.drain_causes.DrainEnds.{EndsBy, StartsClean, Subscribes}

-- as a drain has it, if a copy ends as too large only if this holds
abbrev pub Ends : Type 0 → List ℕ → Option Call → Ending → Type 0
Ends large client call Taken = ⊤
Ends large client call Refused = ⊥
Ends large client call Expired = ⊤
Ends large client call TooLarge = large
Ends large client call SessionEnded = StartsClean client call
Ends large client call Dropped = Subscribes call

-- a copy that ends so is ended by the call
pub ends_by : (large : Type 0) (client : List ℕ) (call : Option Call) (ending : Ending) → Ends large client call ending → EndsBy client call ending
ends_by large client call Taken h = tt
ends_by large client call Refused h = h
ends_by large client call Expired h = tt
ends_by large client call TooLarge h = tt
ends_by large client call SessionEnded h = h
ends_by large client call Dropped h = h

-- ---- copies that are not too large but if this holds

-- one that was released as too large
abbrev pub IsFitPhase : Type 0 → Phase → Type 0
IsFitPhase large Waiting = ⊤
IsFitPhase large (Sent i) = ⊤
IsFitPhase large (Released i order) = ⊤
IsFitPhase large (Oversize i order) = large

-- on a line whose client takes packets of this size
pub record IsFit (large : Type 0) (largest : ℕ) (phase : Phase) (size : ℕ) : Type 0 where
  pub released : IsFitPhase large phase
  pub above : nat_lt largest size ≡ true → large

abbrev pub AreFit : Type 0 → ℕ → List FlowEntry → Type 0
AreFit large largest es = AllByRecursion (λ (e : FlowEntry). IsFit large largest e.phase e.copy.size) es

module _ (large : Type 0) (client : List ℕ) (call : Option Call) where
  -- ---- deeds

  abbrev pub IsOwn : Deed → Type 0
  IsOwn (At who (Leave e ending)) = (who.client ≡ client) × Ends large client call ending
  IsOwn d = ⊤

  abbrev pub AreOwn : List Deed → Type 0
  AreOwn ds = AllByRecursion IsOwn ds

  -- if by either choice of deeds copies end only as in a drain, they do so by the one that is made
  pub own_cond : (t : Bool) (xs ys : List Deed) → AreOwn xs → AreOwn ys → AreOwn (cond t xs ys)
  own_cond true xs ys p q = p
  own_cond false xs ys p q = q

  -- a packet that goes out ends no copy
  pub own_offer : (o : Option Line) (packet : Packet) → AreOwn (offer o packet)
  own_offer None packet = tt
  own_offer (Some l) packet = own_cond (nat_le (size_of packet) l.largest) (Send l.number packet ∷ []) [] (tt, tt) tt

  -- ---- turns

  abbrev pub IsWell : Turn → Type 0
  IsWell (turns.Leave place ending) = Ends large client call ending
  IsWell t = ⊤

  abbrev pub AreWell : List Turn → Type 0
  AreWell ts = AllByRecursion IsWell ts

  own_entry : (o : Option CopyRow) (f : CopyRow → List Deed) → ((e : CopyRow) → AreOwn (f e)) → AreOwn (of_entry o f)
  own_entry None f h = tt
  own_entry (Some e) f h = h e

  -- if a copy of the client leaves by a turn as in a drain, none ends otherwise by its deeds
  pub own_leave : (s : Session) (t : Turn) → s.client ≡ client → IsWell t → AreOwn (leave_deeds s t)
  own_leave s (turns.Leave place ending) its h = own_entry (row_at copy_place place s.queue) (λ e. At (whose s) (Leave e ending) ∷ []) (λ e. ((its, h), tt))
  own_leave s (turns.Send place id) its h = tt
  own_leave s (turns.Resend place id) its h = tt
  own_leave s (turns.Release place id order) its h = tt
  own_leave s (turns.Outgrow place id order) its h = tt
  own_leave s (turns.Repeat id) its h = tt
  own_leave s (turns.Unknown id) its h = tt

  -- if by a turn of the client's queue none leaves but as in a drain, none ends otherwise by its deeds
  pub own_turn : (now line : ℕ) (s : Session) (t : Turn) → s.client ≡ client → IsWell t → AreOwn (turn_deeds now line s t)
  own_turn now line s (turns.Leave place ending) its h = own_leave s (turns.Leave place ending) its h
  own_turn now line s (turns.Send place id) its h = own_entry (row_at copy_place place s.queue) _ (λ e. (tt, (tt, (tt, tt))))
  own_turn now line s (turns.Resend place id) its h = own_entry (row_at copy_place place s.queue) _ (λ e. (tt, (tt, tt)))
  own_turn now line s (turns.Release place id order) its h = (tt, (tt, tt))
  own_turn now line s (turns.Outgrow place id order) its h = (tt, (tt, tt))
  own_turn now line s (turns.Repeat id) its h = (tt, tt)
  own_turn now line s (turns.Unknown id) its h = (tt, tt)

  own_append : (xs ys : List Deed) → AreOwn xs → AreOwn ys → AreOwn (xs ++ ys)
  own_append [] ys p q = q
  own_append (x ∷ xs) ys p q = (p.0, own_append xs ys p.1 q)

  -- if by turns of the client's queue none leaves but as in a drain, none ends otherwise by their deeds
  pub own_turns : (now line : ℕ) (s : Session) (ts : List Turn) → s.client ≡ client → AreWell ts → AreOwn (all_turn_deeds now line s ts)
  own_turns now line s [] its h = tt
  own_turns now line s (t ∷ ts) its h = own_append (turn_deeds now line s t) (all_turn_deeds now line s ts) (own_turn now line s t its h.0) (own_turns now line s ts its h.1)

  -- if copies of the client leave as in a drain, none ends otherwise by their deeds
  pub own_leaves : (s : Session) (ts : List Turn) → s.client ≡ client → AreWell ts → AreOwn (flat_map (leave_deeds s) ts)
  own_leaves s [] its h = tt
  own_leaves s (t ∷ ts) its h = own_append (leave_deeds s t) (flat_map (leave_deeds s) ts) (own_leave s t its h.0) (own_leaves s ts its h.1)

  -- ---- a pump: copies expire, or are too large

  abbrev IsWellBy : Verdict → Type 0
  IsWellBy (end ending) = Ends large client call ending
  IsWellBy v = ⊤

  first_well : (late above : Bool) → (above ≡ true → large) → IsWellBy (first_time late above)
  first_well true above h = tt
  first_well false true h = h refl
  first_well false false h = tt

  large_well : (qos : Qos) (i : ℕ) → large → IsWellBy (too_large qos i)
  large_well AtMostOnce i h = h
  large_well AtLeastOnce i h = h
  large_well ExactlyOnce i h = tt

  again_well : (here above : Bool) (qos : Qos) (i : ℕ) → (above ≡ true → large) → IsWellBy (once_more here above qos i)
  again_well true above qos i h = tt
  again_well false true qos i h = large_well qos i (h refl)
  again_well false false qos i h = tt

  verdict_well : (way : Way) (copy : QueuedCopy) (here : Bool) (phase : Phase) → (is_large way copy ≡ true → large) → IsWellBy (verdict_by way copy here phase)
  verdict_well way copy here Waiting h = first_well (is_late way.now copy) (is_large way copy) h
  verdict_well way copy here (Sent i) h = again_well here (is_large way copy) copy.qos i h
  verdict_well way copy here (Released i order) h = tt
  verdict_well way copy here (Oversize i order) h = tt

  room_well : (room : ℕ) (t : Turn) (phase : Phase) (p : Pacing) (rest : Pacing → List Turn) → IsWell t → ((q : Pacing) → AreWell (rest q)) → AreWell (then_on (in_room room t) phase p rest)
  room_well zero t phase p rest h more = tt
  room_well (suc room) t phase p rest h more = (h, more (paced t phase p))

  step_well : (left : ℕ) (v : Verdict) (place : ℕ) (phase : Phase) (p : Pacing) (rest : Pacing → List Turn) → IsWellBy v → ((q : Pacing) → AreWell (rest q)) → AreWell (then_on (step_by left v place p) phase p rest)
  step_well zero v place phase p rest h more = tt
  step_well (suc left) pass place phase p rest h more = more p
  step_well (suc left) (end ending) place phase p rest h more = (h, more (paced (turns.Leave place ending) phase p))
  step_well (suc left) (outgrow i) place phase p rest h more = (tt, more (paced (turns.Outgrow place i p.order) phase p))
  step_well (suc left) send place phase p rest h more = room_well p.room (turns.Send place (free_identifier p.used)) phase p rest tt more
  step_well (suc left) (resend i) place phase p rest h more = room_well p.room (turns.Resend place i) phase p rest tt more

  -- a pump on a line that the copies fit lets none leave otherwise
  pub pump_well : (way : Way) (es : List FlowEntry) (p : Pacing) → AreFit large way.largest es → AreWell (pump_from way es p)
  pump_well way [] p fit = tt
  pump_well way (e ∷ es) p fit = step_well p.left (verdict way e) e.place e.phase p (pump_from way es) (verdict_well way e.copy e.here e.phase fit.0.above) (λ q. pump_well way es q fit.1)

  -- ---- answers that refuse nothing

  abbrev IsWellTurn : Option Turn → Type 0
  IsWellTurn None = ⊤
  IsWellTurn (Some t) = IsWell t

  abbrev pub IsWellAnswer : Answer → Type 0
  IsWellAnswer (Ok t) = IsWellTurn t
  IsWellAnswer (Err fault) = ⊤

  acknowledged_well : (qos : Qos) (code place : ℕ) → is_refusal code ≡ false → IsWellAnswer (acknowledged qos code place)
  acknowledged_well AtMostOnce code place h = tt
  acknowledged_well AtLeastOnce code place h = subst (λ (t : Bool). Ends large client call (ending_by t)) (sym h) tt
  acknowledged_well ExactlyOnce code place h = tt

  -- a PUBACK that tells success lets none leave otherwise
  pub puback_well : (code : ℕ) (o : Option FlowEntry) → is_refusal code ≡ false → IsWellAnswer (puback_at code o)
  puback_well code None h = tt
  puback_well code (Some e) h = by e.phase
    where
      by : (phase : Phase) → IsWellAnswer (puback_by phase e.copy.qos code e.place)
      by Waiting = tt
      by (Sent i) = acknowledged_well e.copy.qos code e.place h
      by (Released i order) = tt
      by (Oversize i order) = tt

  received_well : (qos : Qos) (code place i order : ℕ) → is_refusal code ≡ false → IsWellAnswer (received qos code place i order)
  received_well AtMostOnce code place i order h = tt
  received_well AtLeastOnce code place i order h = tt
  received_well ExactlyOnce code place i order h = subst (λ (t : Bool). IsWellAnswer (released_by t place i order)) (sym h) tt

  -- a PUBREC that tells success lets none leave otherwise
  pub pubrec_well : (i code order : ℕ) (o : Option FlowEntry) → is_refusal code ≡ false → IsWellAnswer (pubrec_at i code order o)
  pubrec_well i code order None h = tt
  pubrec_well i code order (Some e) h = by e.phase
    where
      by : (phase : Phase) → IsWellAnswer (pubrec_by phase e.copy.qos code e.place order)
      by Waiting = tt
      by (Sent j) = received_well e.copy.qos code e.place j order h
      by (Released j k) = tt
      by (Oversize j k) = tt

  -- a PUBCOMP lets none leave otherwise, if none was released as too large
  pub pubcomp_well : (o : Option FlowEntry) → ((e : FlowEntry) → o ≡ Some e → IsFitPhase large e.phase) → IsWellAnswer (pubcomp_at o)
  pubcomp_well None h = tt
  pubcomp_well (Some e) h = by e.phase (h e refl)
    where
      by : (phase : Phase) → IsFitPhase large phase → IsWellAnswer (pubcomp_by phase e.place)
      by Waiting fit = tt
      by (Sent i) fit = tt
      by (Released i order) fit = tt
      by (Oversize i order) fit = fit

  -- ---- copies that make way

  -- in a SUBSCRIBE copies may make way
  pub drop_well : Subscribes call → (k since : ℕ) (es : List FlowEntry) → AreWell (dropped k since es)
  drop_well asks k since [] = tt
  drop_well asks zero since (e ∷ es) = tt
  drop_well asks (suc k) since (e ∷ es) = by (gives_way since e) (drop_well asks k since es) (drop_well asks (suc k) since es)
    where
      by : (t : Bool) → AreWell (dropped k since es) → AreWell (dropped (suc k) since es) → AreWell (dropped_at t e (dropped k since es) (dropped (suc k) since es))
      by true fewer more = (asks, fewer)
      by false fewer more = more

-- ---- the ends in a step

-- it is of the client's copies, by what ends them in a drain, and at this moment
pub record IsIts (large : Type 0) (client : List ℕ) (moment : ℕ) (x : EndAt) : Type 0 where
  pub its : x.who.client ≡ client
  pub by : Ends large client x.asked.call x.ending
  pub at : x.broker.now ≡ moment

one_its : (large : Type 0) (client : List ℕ) (m : Asked) (moment : ℕ) (b : Broker) (ds : List Deed) (d : Deed) (xs : List EndAt) → b.now ≡ moment → IsOwn large client m.call d → AllByRecursion (IsIts large client moment) xs → AllByRecursion (IsIts large client moment) (cons_option (end_at m b ds d) xs)
one_its large client m moment b ds (At who (Leave e ending)) xs at h more = (record { its = h.0; by = h.1; at = at }, more)
one_its large client m moment b ds d xs at h more = more

-- and all that a step ends are the session's
pub all_its : (large : Type 0) (client : List ℕ) (m : Asked) (moment : ℕ) (ds : List Deed) (b : Broker) → b.now ≡ moment → AreOwn large client m.call ds → AllByRecursion (IsIts large client moment) (ends_of m ds b)
all_its large client m moment [] b at h = tt
all_its large client m moment (d ∷ ds) b at h = one_its large client m moment b ds d (ends_of m ds (after d b)) at h.0 (all_its large client m moment ds (after d b) at h.1)
