-- The session rules for outbound copies: what a session does with its queue (MQTT 5.0, 4.3, 4.4, 4.6, 4.9).
use Rattle.std.specs.Prelude.{◌≡◌, ℕ, zero, suc, ◌+◌, ◌-◌, ◌/◌, Bool, true, false, cond, not, ◌&&◌, List, [], ◌∷◌, ◌++◌, length, map, count_by, nat_lt, nat_le, Option, Some, None, Result, Ok, Err}
use Rattle.mqtt_base.specs.declared.Phase.{Phase}
use Rattle.mqtt_base.specs.declared.Phase.TheVariants.{Waiting, Sent, Released, Oversize}
use Rattle.mqtt_base.specs.declared.Ending.{Ending}
use Rattle.mqtt_base.specs.declared.Ending.TheVariants.{Taken, Refused, Expired, TooLarge, Dropped}
use Rattle.mqtt_base.specs.declared.Qos.{Qos}
use Rattle.mqtt_base.specs.declared.Qos.TheVariants.{AtMostOnce, AtLeastOnce, ExactlyOnce}
use Rattle.mqtt_flow.specs.declared.inbound.fault.FlowFault.{FlowFault}
use Rattle.mqtt_flow.specs.declared.inbound.fault.FlowFault.TheVariants.{Full, WrongStep, Memory}
use Rattle.mqtt_base.specs.declared.limits.TheConstants.{PUMP_LIMIT}
use Rattle.mqtt_flow.specs.declared.outbound.entry.QueuedCopy.{QueuedCopy}
use Rattle.mqtt_flow.specs.declared.outbound.entry.Due.{Due}
use Rattle.mqtt_flow.specs.declared.outbound.entry.Entry.{Entry}
use Rattle.mqtt_flow.specs.declared.outbound.entry.Full.{Full as WhenFull}
use Rattle.mqtt_flow.specs.declared.outbound.entry.Full.TheVariants.{Refuse, Drop}
use Rattle.mqtt_flow.specs.declared.outbound.entry.QueueLimits.{QueueLimits}
use Rattle.mqtt_flow.specs.declared.outbound.entry.Turn.{Turn}
use Rattle.mqtt_flow.specs.declared.outbound.entry.Turn.TheVariants.{Send, Resend, Release, Outgrow, Repeat, Unknown, Leave}
use Rattle.mqtt_flow.specs.declared.outbound.entry.Way.{Way}
use Rattle.mqtt_flow.specs.declared.outbound.pump.Step.{Step}
use Rattle.mqtt_flow.specs.declared.outbound.pump.Step.TheVariants.{Stop, GoOn, Take}
use Rattle.mqtt_flow.specs.inbound.Identifiers.{ids_without, free_identifier}
use Rattle.mqtt_flow.specs.outbound.Pacing.{Pacing}
use Rattle.mqtt_flow.specs.outbound.Queue.{identifiers, holder, next_order, in_window, entering, after, after_all, order_given}

-- Entering. Copies that wait and stood before this step give way in a full queue (ours).
abbrev pub is_waiting : Phase → Bool
is_waiting Waiting = true
is_waiting (Sent i) = false
is_waiting (Released i order) = false
is_waiting (Oversize i order) = false

-- `since` is the first place that is given in this step
abbrev pub gives_way : ℕ → Entry → Bool
gives_way since e = is_waiting e.phase && nat_lt e.place since

-- how many copies a further one leaves standing in any case
abbrev pub staying : WhenFull → ℕ → List Entry → ℕ
staying Refuse since queue = length queue
staying Drop since queue = count_by (λ e. not (gives_way since e)) queue

abbrev pub has_room : QueueLimits → ℕ → List Entry → Bool
has_room limits since queue = nat_lt (staying limits.full since queue) limits.queue

-- why a copy does not enter, by whether there is room
abbrev pub KeptOut : Bool → FlowFault → Type 0
KeptOut true fault = fault ≡ Memory
KeptOut false fault = fault ≡ Full

-- so many copies give way, the oldest first
abbrev pub dropped_at : Bool → Entry → List Turn → List Turn → List Turn
dropped_at true e fewer as_many = Leave e.place Dropped ∷ fewer
dropped_at false e fewer as_many = as_many

abbrev pub dropped : ℕ → ℕ → List Entry → List Turn
dropped k since [] = []
dropped zero since (e ∷ es) = []
dropped (suc k) since (e ∷ es) = dropped_at (gives_way since e) e (dropped k since es) (dropped (suc k) since es)

-- until the queue is below its limit
abbrev pub way_made : QueueLimits → ℕ → List Entry → List Turn
way_made limits since queue = dropped (length queue + 1 - limits.queue) since queue

abbrev pub way_open : QueueLimits → ℕ → List Entry → List Entry
way_open limits since queue = after_all (way_made limits since queue) queue

abbrev pub pushed : QueuedCopy → List Entry → List Entry
pushed copy queue = queue ++ entering copy queue ∷ []

abbrev pub entered : QueueLimits → ℕ → QueuedCopy → List Entry → List Entry
entered limits since copy queue = pushed copy (way_open limits since queue)

-- Sending. Whole seconds since the publication was accepted have reached the Message Expiry Interval (3.3.2.3.3).
abbrev pub is_past : Option ℕ → ℕ → Bool
is_past None waited = false
is_past (Some interval) waited = nat_le interval waited

abbrev pub is_late : ℕ → QueuedCopy → Bool
is_late now copy = is_past copy.expiry ((now - copy.arrived) / 1000)

-- its PUBLISH is larger than the client's Maximum Packet Size (3.1.2.11.4)
abbrev pub is_large : Way → QueuedCopy → Bool
is_large way copy = nat_lt way.largest copy.size

-- what a pump has for an entry
pub data Verdict : Type 0 where
  pass : Verdict  -- nothing: it was sent on this connection, or its PUBREL was
  end : (ending : Ending) → Verdict
  outgrow : (i : ℕ) → Verdict
  send : Verdict
  resend : (i : ℕ) → Verdict

-- a copy that waits: it expires, is too large, or is sent (4.3)
abbrev pub first_time : Bool → Bool → Verdict
first_time true large = end Expired
first_time false true = end TooLarge
first_time false false = send

-- a copy that was sent and is too large for this connection (ours)
abbrev pub too_large : Qos → ℕ → Verdict
too_large AtMostOnce i = end TooLarge
too_large AtLeastOnce i = end TooLarge
too_large ExactlyOnce i = outgrow i

-- a copy that was sent: again on each new connection, and only there (4.4)
abbrev pub once_more : Bool → Bool → Qos → ℕ → Verdict
once_more true large qos i = pass
once_more false true qos i = too_large qos i
once_more false false qos i = resend i

abbrev pub verdict_by : Way → QueuedCopy → Bool → Phase → Verdict
verdict_by way copy here Waiting = first_time (is_late way.now copy) (is_large way copy)
verdict_by way copy here (Sent i) = once_more here (is_large way copy) copy.qos i
verdict_by way copy here (Released i order) = pass
verdict_by way copy here (Oversize i order) = pass

abbrev pub verdict : Way → Entry → Verdict
verdict way e = verdict_by way e.copy e.here e.phase

-- a PUBLISH needs room in the window (4.9)
abbrev pub in_room : ℕ → Turn → Step
in_room zero t = Stop
in_room (suc room) t = Take t

abbrev pub step_on : Verdict → ℕ → Pacing → Step
step_on pass place p = GoOn
step_on (end ending) place p = Take (Leave place ending)
step_on (outgrow i) place p = Take (Outgrow place i p.order)
step_on send place p = in_room p.room (Send place (free_identifier p.used))
step_on (resend i) place p = in_room p.room (Resend place i)

-- the step at a copy that waits, and at one that was sent
abbrev pub first_step : Way → Entry → Pacing → Step
first_step way e p = step_on (first_time (is_late way.now e.copy) (is_large way e.copy)) e.place p

abbrev pub later_step : Way → ℕ → Entry → Pacing → Step
later_step way i e p = step_on (once_more e.here (is_large way e.copy) e.copy.qos i) e.place p

-- a pump stops if no PUBLISH is left to it
abbrev pub step_by : ℕ → Verdict → ℕ → Pacing → Step
step_by zero v place p = Stop
step_by (suc k) v place p = step_on v place p

abbrev pub pump_step : Way → Pacing → Entry → Step
pump_step way p e = step_by p.left (verdict way e) e.place p

-- an identifier is free once its copy has left
abbrev pub freed : Phase → List ℕ → List ℕ
freed Waiting used = used
freed (Sent i) used = ids_without i used
freed (Released i order) used = ids_without i used
freed (Oversize i order) used = ids_without i used

abbrev pub paced : Turn → Phase → Pacing → Pacing
paced (Send place i) phase p = record p { left = p.left - 1; room = p.room - 1; used = p.used ++ i ∷ [] }
paced (Resend place i) phase p = record p { left = p.left - 1; room = p.room - 1 }
paced (Release place i order) phase p = record p { order = p.order + 1 }
paced (Outgrow place i order) phase p = record p { order = p.order + 1 }
paced (Repeat i) phase p = p
paced (Unknown i) phase p = p
paced (Leave place ending) phase p = record p { used = freed phase p.used }

-- the entries in order, until one has no room in the window or no PUBLISH is left (4.6, 4.9)
abbrev pub then_on : Step → Phase → Pacing → (Pacing → List Turn) → List Turn
then_on Stop phase p rest = []
then_on GoOn phase p rest = rest p
then_on (Take t) phase p rest = t ∷ rest (paced t phase p)

abbrev pub pump_from : Way → List Entry → Pacing → List Turn
pump_from way [] p = []
pump_from way (e ∷ es) p = then_on (pump_step way p e) e.phase p (pump_from way es)

abbrev pub pace : Way → List Entry → Pacing
pace way queue = record { left = PUMP_LIMIT; room = way.window - in_window queue; used = identifiers queue; order = next_order queue }

-- the same if this much of the window is known to be filled, and this is known as the greatest order
abbrev pub pace_known : Way → ℕ → ℕ → List Entry → Pacing
pace_known way window order queue = record { left = PUMP_LIMIT; room = way.window - window; used = identifiers queue; order = order + 1 }

abbrev pub pump : Way → List Entry → List Turn
pump way queue = pump_from way queue (pace way queue)

-- the queue after it
abbrev pub pumped : Way → List Entry → List Entry
pumped way queue = after_all (pump way queue) queue

-- Expiring. Copies that wait end, whether the session is connected or not (3.3.2.3.3).
abbrev pub expired_at : Bool → Entry → List Turn → List Turn
expired_at true e rest = Leave e.place Expired ∷ rest
expired_at false e rest = rest

abbrev pub expired : ℕ → List Entry → List Turn
expired now [] = []
expired now (e ∷ es) = expired_at (is_waiting e.phase && is_late now e.copy) e (expired now es)

abbrev pub lapsed : ℕ → List Entry → List Entry
lapsed now queue = after_all (expired now queue) queue

-- Answers. A turn, none, or a protocol error; an identifier that no copy has is passed over (4.3, ours).
abbrev pub is_refusal : ℕ → Bool
is_refusal code = nat_le 0x80 code

abbrev pub ending_by : Bool → Ending
ending_by true = Refused
ending_by false = Taken

abbrev pub Answer : Type 0
Answer = Result (Option Turn) FlowFault

abbrev pub wrong : Answer
wrong = Err WrongStep

abbrev pub takes : Turn → Answer
takes t = Ok (Some t)

-- PUBACK ends a sent copy of QoS 1 (4.3.2)
abbrev pub acknowledged : Qos → ℕ → ℕ → Answer
acknowledged AtMostOnce code place = wrong
acknowledged AtLeastOnce code place = takes (Leave place (ending_by (is_refusal code)))
acknowledged ExactlyOnce code place = wrong

abbrev pub puback_by : Phase → Qos → ℕ → ℕ → Answer
puback_by Waiting qos code place = wrong
puback_by (Sent i) qos code place = acknowledged qos code place
puback_by (Released i order) qos code place = wrong
puback_by (Oversize i order) qos code place = wrong

abbrev pub puback_at : ℕ → Option Entry → Answer
puback_at code None = Ok None
puback_at code (Some e) = puback_by e.phase e.copy.qos code e.place

abbrev pub puback : ℕ → ℕ → List Entry → Answer
puback i code queue = puback_at code (holder i queue)

-- PUBREC releases a sent copy of QoS 2, or ends it (4.3.3)
abbrev pub released_by : Bool → ℕ → ℕ → ℕ → Answer
released_by true place i order = takes (Leave place Refused)
released_by false place i order = takes (Release place i order)

abbrev pub received : Qos → ℕ → ℕ → ℕ → ℕ → Answer
received AtMostOnce code place i order = wrong
received AtLeastOnce code place i order = wrong
received ExactlyOnce code place i order = released_by (is_refusal code) place i order

-- and a released copy's PUBREL goes out once more
abbrev pub pubrec_by : Phase → Qos → ℕ → ℕ → ℕ → Answer
pubrec_by Waiting qos code place order = wrong
pubrec_by (Sent i) qos code place order = received qos code place i order
pubrec_by (Released i x) qos code place order = takes (Repeat i)
pubrec_by (Oversize i x) qos code place order = takes (Repeat i)

abbrev pub pubrec_at : ℕ → ℕ → ℕ → Option Entry → Answer
pubrec_at i code order None = takes (Unknown i)
pubrec_at i code order (Some e) = pubrec_by e.phase e.copy.qos code e.place order

abbrev pub pubrec : ℕ → ℕ → List Entry → Answer
pubrec i code queue = pubrec_at i code (next_order queue) (holder i queue)

-- PUBCOMP ends a released copy, whatever its code (4.3.3)
abbrev pub pubcomp_by : Phase → ℕ → Answer
pubcomp_by Waiting place = wrong
pubcomp_by (Sent i) place = wrong
pubcomp_by (Released i order) place = takes (Leave place Taken)
pubcomp_by (Oversize i order) place = takes (Leave place TooLarge)

abbrev pub pubcomp_at : Option Entry → Answer
pubcomp_at None = Ok None
pubcomp_at (Some e) = pubcomp_by e.phase e.place

abbrev pub pubcomp : ℕ → List Entry → Answer
pubcomp i queue = pubcomp_at (holder i queue)

-- the queue after an answer: as it was if that is a protocol error
abbrev pub after_turn : Option Turn → List Entry → List Entry
after_turn None queue = queue
after_turn (Some t) queue = after t queue

abbrev pub after_answer : Answer → List Entry → List Entry
after_answer (Ok t) queue = after_turn t queue
after_answer (Err fault) queue = queue

-- the order of release that an answer gives
abbrev pub order_of_turn : Option Turn → ℕ
order_of_turn None = 0
order_of_turn (Some t) = order_given t

abbrev pub order_asked : Answer → ℕ
order_asked (Ok t) = order_of_turn t
order_asked (Err fault) = 0

-- Resuming. Nothing was sent on the new connection, and PUBREL goes out in the order of release (4.4, 4.6).
abbrev pub unsent : Entry → Entry
unsent e = record e { here = false }

abbrev pub anew : List Entry → List Entry
anew queue = map unsent queue

-- by the orders in which they became released
abbrev pub by_order : Due → List Due → List Due
by_order d [] = d ∷ []
by_order d (x ∷ xs) = cond (nat_lt d.order x.order) (d ∷ x ∷ xs) (x ∷ by_order d xs)

abbrev pub due_of : Phase → List Due → List Due
due_of Waiting ds = ds
due_of (Sent i) ds = ds
due_of (Released i order) ds = by_order (record { order = order; identifier = i }) ds
due_of (Oversize i order) ds = by_order (record { order = order; identifier = i }) ds

abbrev pub due_from : List Due → List Entry → List Due
due_from ds [] = ds
due_from ds (e ∷ es) = due_from (due_of e.phase ds) es

abbrev pub resumed_with : List Entry → List Turn
resumed_with queue = map (λ d. Repeat d.identifier) (due_from [] queue)
