-- What a session does with its queue, as deeds (MQTT 5.0, 4.3, 4.4, 4.6, 4.9).
use Rattle.std.specs.Prelude.{ℕ, ◌-◌, ◌||◌, Bool, true, false, nat_lt, List, [], ◌∷◌, ◌++◌, flat_map, find, Option, Some, None}
use Rattle.mqtt_base.specs.declared.session.Cause.{Cause}
use Rattle.mqtt_base.specs.declared.session.Cause.TheVariants.{Direct, Share, Retained}
use Rattle.mqtt_base.specs.declared.session.Phase.TheVariants.{Sent, Released, Oversize}
use Rattle.mqtt_flow.specs.declared.outbound.entry.Turn.{Turn}
use Rattle.mqtt_flow.specs.declared.outbound.entry.Turn.TheVariants as turns
use Rattle.mqtt_flow.specs.declared.outbound.entry.QueueLimits.{QueueLimits}
use Rattle.mqtt_flow.specs.declared.outbound.entry.Way.{Way}
use Rattle.mqtt_flow.specs.outbound.Outbound.{staying, way_made}
use Rattle.mqtt_base.specs.Codes.{success, identifier_not_found}
use Rattle.mqtt_records.specs.declared.messages.message.MessageCopy.{MessageCopy}
use Rattle.mqtt_records.specs.messages.Queue.{CopyRow}
use Rattle.mqtt_records.specs.declared.state.session.Session.{Session}
use Rattle.mqtt_records.specs.declared.state.records.Records.{Records}
use Rattle.mqtt_records.specs.lists.Order.{row_at}
use Rattle.mqtt_records.specs.state.Session.{copy_place}
use Rattle.mqtt_rules.specs.step.Packets.{publish_of, pubrel}
use Rattle.mqtt_rules.specs.step.State.{Line, Env, queue_on, next_of}
use Rattle.mqtt_rules.specs.step.Deeds.{whose, Enter, Mark, Leave, Went, Deed, At, On, Send}

-- ---- turns

abbrev pub of_entry : Option CopyRow → (CopyRow → List Deed) → List Deed
of_entry None f = []
of_entry (Some e) f = f e

abbrev pub at_place : ℕ → Session → (CopyRow → List Deed) → List Deed
at_place place s f = of_entry (row_at copy_place place s.queue) f

-- a copy leaves the queue; no packet goes out
abbrev pub leave_deeds : Session → Turn → List Deed
leave_deeds s (turns.Leave place ending) = at_place place s (λ e. At (whose s) (Leave e ending) ∷ [])
leave_deeds s t = []

-- a turn of a session that is connected on a line
abbrev pub turn_deeds : ℕ → ℕ → Session → Turn → List Deed
turn_deeds now line s (turns.Send place id) =
    at_place place s
    (λ e. At (whose s) (Mark place (Sent id)) ∷ On line (Went place) ∷ Send line (publish_of now false id e.copy) ∷ [])
turn_deeds now line s (turns.Resend place id) =
    at_place place s (λ e. On line (Went place) ∷ Send line (publish_of now true id e.copy) ∷ [])
turn_deeds now line s (turns.Release place id order) =
    At (whose s) (Mark place (Released id order)) ∷ Send line (pubrel id success) ∷ []
turn_deeds now line s (turns.Outgrow place id order) =
    At (whose s) (Mark place (Oversize id order)) ∷ Send line (pubrel id success) ∷ []
turn_deeds now line s (turns.Repeat id) = Send line (pubrel id success) ∷ []
turn_deeds now line s (turns.Unknown id) = Send line (pubrel id identifier_not_found) ∷ []
turn_deeds now line s (turns.Leave place ending) = leave_deeds s (turns.Leave place ending)

abbrev pub all_turn_deeds : ℕ → ℕ → Session → List Turn → List Deed
all_turn_deeds now line s ts = flat_map (turn_deeds now line s) ts

-- what the line lets through
abbrev pub way_of : Line → ℕ → Way
way_of l now = record { window = l.window; largest = l.largest; now = now }

-- ---- entering, and the room for it

-- a copy that this step made
abbrev pub is_new_cause : Records → Cause → Bool
is_new_cause start Direct = false
is_new_cause start (Share group) = false
is_new_cause start (Retained subscribe) = nat_lt start.subscribes subscribe

abbrev pub is_new : Records → MessageCopy → Bool
is_new start copy = nat_lt start.publications copy.id.publication || is_new_cause start copy.id.cause

-- the first place in the queue that this step gave, or that it gives next
abbrev pub first_given : Option CopyRow → List CopyRow → ℕ
first_given None queue = next_of copy_place queue
first_given (Some e) queue = e.place

abbrev pub since : Env → Session → ℕ
since env s = first_given (find (λ e. is_new env.start e.copy) s.queue) s.queue

abbrev pub queue_limits : Env → QueueLimits
queue_limits env = record { queue = env.limits.queue; full = env.limits.full }

-- for how many copies a session's queue has room, those that may give way not counted (ours)
abbrev pub room : Env → Session → ℕ
room env s = env.limits.queue - staying env.limits.full (since env s) (queue_on [] s)

abbrev pub room_at : Env → Option Session → ℕ
room_at env None = 0
room_at env (Some s) = room env s

-- a copy enters the queue, and the oldest that wait make way for it (ours)
abbrev pub enter_deeds : Env → MessageCopy → Session → List Deed
enter_deeds env copy s =
    flat_map (leave_deeds s) (way_made (queue_limits env) (since env s) (queue_on [] s))
    ++ At (whose s) (Enter copy) ∷ []
