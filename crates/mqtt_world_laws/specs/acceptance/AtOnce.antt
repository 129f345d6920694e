-- Copies of QoS 0 wait in no queue: each goes out at once, and is under way on its receiver's line, or a stop keeps it
-- back (MQTT 5.0, 3.1.2.11.4, 3.3.4, 4.3.1).
use Rattle.std.specs.Prelude.{◌≡◌, ◌⊎◌, ℕ, ⊤, true, false, Bool, cond, List, [], ◌∷◌, ◌++◌, map, filter, flat_map, filter_map, nat_eq, Option, Some, None}
use Rattle.std.specs.List.{AllByRecursion}
use Rattle.mqtt_packet.specs.declared.codec.packet.Packet.{Packet}
use Rattle.mqtt_records.specs.declared.messages.message.MessageCopy.{MessageCopy}
use Rattle.mqtt_rules.specs.declared.step.Capacity.{Capacity}
use Rattle.mqtt_rules.specs.step.Deeds.{Deed, Accept, Send, after, output}
use Rattle.mqtt_rules.specs.step.Fitting.{has_form}
use Rattle.mqtt_rules.specs.step.Packets.{publish_of}
use Rattle.mqtt_rules.specs.step.Routing.{CopyTo, is_queued, accepted_copies}
use Rattle.mqtt_rules.specs.step.State.{Broker, Env, Line, line_of}
use Rattle.mqtt_rules.specs.step.Step.{Call, deeds}
use Rattle.mqtt_world_model.specs.model.Lines.{Down}
use Rattle.mqtt_world_model.specs.model.Ends.{Receiver}
use Rattle.mqtt_world_model.specs.model.World.{Setting, World, Asking, stop_after, receiver_named, calls, happens}
use Rattle.mqtt_world_model.specs.model.Run.{Turn}
use Rattle.mqtt_world_laws.specs.acceptance.Entries.{Moment, moments_of}
use Rattle.mqtt_world_laws.specs.acceptance.Steps.{Step, steps_over}

-- a copy's PUBLISH on a session's line: none without a line, nor if no form of it is within what the client takes (3.1.2.11.4)
abbrev pub put_on : Option Line → MessageCopy → Broker → List (ℕ × Packet)
put_on None copy b = []
put_on (Some l) copy b = cond (has_form copy b l) ((l.number, publish_of b.now false 0 copy) ∷ []) []

-- what is due at once for a copy: of QoS 0 its PUBLISH, on the line of its session; of QoS 1 and 2 nothing
abbrev pub due_by : Bool → CopyTo → Broker → List (ℕ × Packet)
due_by true d b = []
due_by false d b = put_on (line_of d.birth b) d.copy b

-- behind packets that went out: what they told is told
abbrev pub behind : List (ℕ × Packet) → Broker → Broker
behind [] b = b
behind (x ∷ xs) b = behind xs (after (Send x.0 x.1) b)

-- for each of these copies, by what those before it told
abbrev pub due_for : List CopyTo → Broker → List (ℕ × Packet)
due_for [] b = []
due_for (d ∷ ds) b = let first = due_by (is_queued d) d b in first ++ due_for ds (behind first b)

abbrev pub due_if : Option (List CopyTo) → Broker → List (ℕ × Packet)
due_if None b = []
due_if (Some ds) b = due_for ds b

-- for a publication that is accepted: for each copy of its routing
abbrev pub due : Env → Deed → Broker → List (ℕ × Packet)
due env (Accept number origin m) b = due_if (accepted_copies env m b) b
due env d b = []

abbrev pub due_at : Moment → List (ℕ × Packet)
due_at m = due m.env m.deed m.broker

abbrev pub due_in : Step → List (ℕ × Packet)
due_in x = flat_map due_at (moments_of x.env x.deeds x.broker)

-- the first are among the others, in their order
abbrev pub IsPart : {X : Type 0} → List X → List X → Type 0
IsPart [] ys = ⊤
IsPart (x ∷ xs) [] = ⊥
IsPart (x ∷ xs) (y ∷ ys) = ((x ≡ y) × IsPart xs ys) ⊎ IsPart (x ∷ xs) ys

-- what is due at once is among the outputs of the same step
abbrev pub GoesOut : Step → Type 0
GoesOut x = IsPart (due_in x) (filter_map output x.deeds)

abbrev pub AllGoOut : Capacity → List Turn → World → Type 0
AllGoOut limits ts w = AllByRecursion GoesOut (steps_over limits ts w)

-- ---- on the receiver's line

-- the packets under way to a receiver
abbrev pub under_way : Option Receiver → List Packet
under_way None = []
under_way (Some r) = map (λ (x : Down). x.packet) r.line.down

-- of what a step puts out, that on its line
abbrev pub on_number : Option ℕ → List (ℕ × Packet) → List Packet
on_number None ps = []
on_number (Some n) ps = map (λ (x : ℕ × Packet). x.1) (filter (λ (x : ℕ × Packet). nat_eq x.0 n) ps)

abbrev pub put_out_to : Option Receiver → List (ℕ × Packet) → List Packet
put_out_to None ps = []
put_out_to (Some r) ps = on_number r.line.number ps

-- it is under way to the receiver right after the step, behind what was
abbrev pub Arrives : Setting → Call → World → List ℕ → Type 0
Arrives set call w client =
    under_way (receiver_named client (calls set call w))
    ≡ under_way (receiver_named client w)
    ++ put_out_to (receiver_named client w) (filter_map output (deeds set.limits set.choice w.now call w.broker))

-- a stop after the commit keeps it back, and what was under way is lost
abbrev pub IsKeptBack : Setting → Asking → World → List ℕ → Type 0
IsKeptBack set a w client = under_way (receiver_named client (happens set (stop_after a) w)) ≡ []
