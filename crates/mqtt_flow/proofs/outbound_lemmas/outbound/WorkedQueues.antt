-- Session rules at work: queues and runs that compute.
use Rattle.std.proofs.Common.{◌≡◌, ℕ, true, false, List, [], ◌∷◌, map, refl, Some, None, Ok, Err}
use Rattle.mqtt_base.specs.declared.Cause.TheVariants.{Direct}
use Rattle.mqtt_base.specs.declared.Ending.TheVariants.{Refused, Expired, TooLarge, Dropped}
use Rattle.mqtt_base.specs.declared.Phase.{Phase}
use Rattle.mqtt_base.specs.declared.Phase.TheVariants.{Waiting, Sent, Released, Oversize}
use Rattle.mqtt_base.specs.declared.Qos.{Qos}
use Rattle.mqtt_base.specs.declared.Qos.TheVariants.{AtLeastOnce, ExactlyOnce}
use Rattle.mqtt_flow.specs.declared.outbound.entry.Entry.{Entry}
use Rattle.mqtt_flow.specs.declared.outbound.entry.Full.TheVariants.{Refuse, Drop}
use Rattle.mqtt_flow.specs.declared.outbound.entry.QueueLimits.{QueueLimits}
use Rattle.mqtt_flow.specs.declared.outbound.entry.QueuedCopy.{QueuedCopy}
use Rattle.mqtt_flow.specs.declared.outbound.entry.Turn.TheVariants.{Send, Resend, Release, Outgrow, Repeat, Unknown, Leave}
use Rattle.mqtt_flow.specs.declared.outbound.entry.Way.{Way}
use Rattle.mqtt_flow.specs.declared.inbound.fault.FlowFault.TheVariants.{WrongStep}
use Rattle.mqtt_flow.specs.outbound.Outbound.{has_room, way_made, expired, pump, puback, pubrec, pubcomp, resumed_with}
use Rattle.mqtt_flow.specs.outbound.OutboundWorld as world
use Rattle.mqtt_flow.specs.outbound.OutboundWorld.{TopicAndPayload, Lot, standing, past, run, start}
use Rattle.mqtt_flow.specs.outbound.Receiver.{Handed}

abbrev copy : Qos → QueuedCopy
copy qos = record { id = record { publication = 1; birth = 1; cause = Direct }; qos = qos; size = 20; arrived = 0; expiry = None }

abbrev late_copy : QueuedCopy
late_copy = record { id = record { publication = 1; birth = 1; cause = Direct }; qos = ExactlyOnce; size = 20; arrived = 0; expiry = Some 5 }

abbrev entry : ℕ → Qos → Phase → Entry
entry place qos phase = record { place = place; copy = copy qos; phase = phase; here = false }

abbrev here : ℕ → Qos → Phase → Entry
here place qos phase = record { place = place; copy = copy qos; phase = phase; here = true }

abbrev late : ℕ → Phase → Entry
late place phase = record { place = place; copy = late_copy; phase = phase; here = false }

abbrev way : ℕ → ℕ → ℕ → Way
way window largest now = record { window = window; largest = largest; now = now }

-- resends come first, in the order of the queue; then first sends, with the lowest free identifiers (4.4, 4.6)
pub resends_first : pump (way 10 100 0) (entry 1 ExactlyOnce (Sent 2) ∷ entry 2 AtLeastOnce (Sent 1) ∷ entry 3 ExactlyOnce Waiting ∷ entry 4 ExactlyOnce (Released 4 1) ∷ entry 5 ExactlyOnce Waiting ∷ []) ≡ Resend 1 2 ∷ Resend 2 1 ∷ Send 3 3 ∷ Send 5 5 ∷ []
resends_first = refl

-- a window of 1 (4.9)
pub one_in_window : pump (way 1 100 0) (entry 1 ExactlyOnce Waiting ∷ entry 2 ExactlyOnce Waiting ∷ []) ≡ Send 1 1 ∷ []
one_in_window = refl

-- a window that is full stops the pump
pub window_full : pump (way 1 100 0) (here 1 ExactlyOnce (Sent 1) ∷ entry 2 ExactlyOnce Waiting ∷ []) ≡ []
window_full = refl

-- a released copy whose PUBLISH went out on an earlier connection fills no room; one of this connection does
pub released_elsewhere : pump (way 1 100 0) (entry 1 ExactlyOnce (Released 1 1) ∷ entry 2 ExactlyOnce Waiting ∷ []) ≡ Send 2 2 ∷ []
released_elsewhere = refl

-- a released copy whose PUBLISH went out on this connection fills room
pub released_here : pump (way 1 100 0) (here 1 ExactlyOnce (Released 1 1) ∷ entry 2 ExactlyOnce Waiting ∷ []) ≡ []
released_here = refl

-- a copy that waits expires at its interval, a sent one never (3.3.2.3.3)
pub expires : pump (way 10 100 5000) (late 1 (Sent 1) ∷ late 2 Waiting ∷ entry 3 ExactlyOnce Waiting ∷ []) ≡ Resend 1 1 ∷ Leave 2 Expired ∷ Send 3 2 ∷ []
expires = refl

-- before its interval a copy doesn't expire
pub not_yet : expired 4999 (late 1 Waiting ∷ []) ≡ []
not_yet = refl

-- at its interval a copy that waits expires, and one that was sent doesn't
pub at_the_interval : expired 5000 (late 1 (Sent 1) ∷ late 2 Waiting ∷ []) ≡ Leave 2 Expired ∷ []
at_the_interval = refl

-- too large (3.1.2.11.4): a waiting copy and a sent one of QoS 1 end, a sent one of QoS 2 goes on to its PUBCOMP; an identifier that is freed is given again
pub too_large : pump (way 10 19 0) (entry 1 ExactlyOnce (Sent 1) ∷ entry 2 AtLeastOnce (Sent 2) ∷ entry 3 ExactlyOnce Waiting ∷ []) ≡ Outgrow 1 1 1 ∷ Leave 2 TooLarge ∷ Leave 3 TooLarge ∷ []
too_large = refl

-- a copy of QoS 2 that was too large ends as such at its PUBCOMP
pub outgrown : pubcomp 1 (entry 1 ExactlyOnce (Oversize 1 1) ∷ []) ≡ Ok (Some (Leave 1 TooLarge))
outgrown = refl

-- answers by phase (4.3)
pub released : pubrec 1 0x10 (here 1 ExactlyOnce (Sent 1) ∷ entry 2 ExactlyOnce (Released 2 7) ∷ []) ≡ Ok (Some (Release 1 1 8))
released = refl

-- a PUBREC of 0x80 ends the copy as refused
pub refused : pubrec 1 0x80 (here 1 ExactlyOnce (Sent 1) ∷ []) ≡ Ok (Some (Leave 1 Refused))
refused = refl

-- a PUBREC for an identifier that no copy has is answered 0x92
pub unknown : pubrec 9 0 (here 1 ExactlyOnce (Sent 1) ∷ []) ≡ Ok (Some (Unknown 9))
unknown = refl

-- a PUBACK for an identifier that no copy has is passed over
pub passed_over : puback 9 0 (here 1 ExactlyOnce (Sent 1) ∷ []) ≡ Ok None
passed_over = refl

-- a PUBACK for a copy of QoS 2 is a protocol error
pub wrong_step : puback 1 0 (here 1 ExactlyOnce (Sent 1) ∷ []) ≡ Err WrongStep
wrong_step = refl

-- PUBRELs of a resumption go out in the order of release, not of the queue (4.6)
pub in_release : resumed_with (entry 1 ExactlyOnce (Released 5 2) ∷ entry 2 ExactlyOnce (Sent 1) ∷ entry 3 ExactlyOnce (Released 6 1) ∷ []) ≡ Repeat 6 ∷ Repeat 5 ∷ []
in_release = refl

-- a full queue refuses, or its oldest copies that wait give way; not those of this step, nor a sent one (ours)
pub full : has_room (record { queue = 2; full = Refuse }) 3 (entry 1 ExactlyOnce Waiting ∷ entry 2 ExactlyOnce Waiting ∷ []) ≡ false
full = refl

-- of a full queue the oldest copy that waits gives way
pub oldest_gives_way : way_made (record { queue = 2; full = Drop }) 3 (entry 1 ExactlyOnce (Sent 1) ∷ entry 2 ExactlyOnce Waiting ∷ []) ≡ Leave 2 Dropped ∷ []
oldest_gives_way = refl

-- copies of this step don't give way
pub none_gives_way : has_room (record { queue = 2; full = Drop }) 2 (entry 1 ExactlyOnce (Sent 1) ∷ entry 2 ExactlyOnce Waiting ∷ []) ≡ false
none_gives_way = refl

-- whole runs
abbrev limits : QueueLimits
limits = record { queue = 1000; full = Refuse }

abbrev says : ℕ → TopicAndPayload
says n = record { topic = 97 ∷ []; payload = n ∷ [] }

abbrev enter : Qos → ℕ → world.Event
enter qos n = world.enter limits 1 (copy qos) (says n)

abbrev ends : Lot → List ℕ
ends (standing e m) = 0 ∷ m.payload
ends (past ending e m) = 1 ∷ m.payload

abbrev connected : List world.Event → List world.Event
connected es = world.make_line false ∷ world.to_broker false ∷ world.to_end ∷ es

-- a window of 1, one released and two that wait: PUBREL and one PUBLISH; after the first PUBCOMP nothing, after the second the last
pub resumed_with_one : map (λ (h : Handed). h.copy) (run 100 (connected (enter ExactlyOnce 1 ∷ world.pump 1 0 ∷ world.to_end ∷ world.to_broker false ∷ enter ExactlyOnce 2 ∷ enter ExactlyOnce 3 ∷ world.break_line
    ∷ connected (world.pump 1 0 ∷ world.to_end ∷ world.to_broker false ∷ world.pump 1 0 ∷ world.to_end ∷ world.to_broker false ∷ world.to_end ∷ world.to_broker false ∷ world.pump 1 0 ∷ world.to_end ∷ []))) start).ledger ≡ 0 ∷ 1 ∷ 2 ∷ []
resumed_with_one = refl

-- a restart in mid-handshake: the PUBLISH goes out again, and the copy is handed over once
pub restarted : map (λ (h : Handed). h.copy) (run 100 (connected (enter ExactlyOnce 1 ∷ enter AtLeastOnce 2 ∷ world.pump 9 0 ∷ world.to_end ∷ world.restart ∷ connected (world.pump 9 0 ∷ world.to_end ∷ world.to_end ∷ world.to_broker false ∷ world.to_end ∷ []))) start).ledger ≡ 0 ∷ []
restarted = refl

-- a Clean Start ends the copies, and the set is emptied with CONNACK
pub clean_start : map ends (run 100 (connected (enter ExactlyOnce 1 ∷ world.pump 9 0 ∷ world.to_end ∷ world.break_line ∷ world.make_line true ∷ world.to_broker false ∷ enter ExactlyOnce 2 ∷ world.pump 9 0 ∷ [])) start).copies ≡ (1 ∷ 1 ∷ []) ∷ (0 ∷ 2 ∷ []) ∷ []
clean_start = refl
