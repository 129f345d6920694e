-- A drain as a receiver's hop sees it: how far its copies have to go, what is under way for each, and rounds until none is
-- left or the session is no longer connected on the receiver's line (MQTT 5.0, 4.3, 4.4).
use Rattle.std.specs.Prelude.{◌≡◌, ◌<◌, ◌⊎◌, ℕ, suc, ◌+◌, Bool, true, false, cond, not, ◌&&◌, ◌||◌, List, [], ◌∷◌, ◌++◌}
use Rattle.std.specs.Prelude.{length, nat_eq, nat_lt}
use Rattle.std.specs.Prelude.{⊤, Option, Some, None}
use Rattle.mqtt_base.specs.declared.session.Ending.{Ending}
use Rattle.mqtt_base.specs.declared.session.Ending.TheVariants.{Taken, Refused, Expired, TooLarge, SessionEnded, Dropped}
use Rattle.mqtt_base.specs.declared.session.Phase.{Phase}
use Rattle.mqtt_base.specs.declared.session.Phase.TheVariants.{Waiting, Sent, Released, Oversize}
use Rattle.mqtt_flow.specs.outbound.Outbound.{is_late}
use Rattle.mqtt_flow.specs.declared.outbound.entry.QueuedCopy.{QueuedCopy}
use Rattle.mqtt_flow.specs.outbound.OutboundWorld.{Lot, standing, past, queue_of, World, Event, pump, to_broker, to_end, step, run}
use Rattle.mqtt_flow.specs.outbound.Receiver.{Answer, connect, puback, pubrec, pubcomp}
use Rattle.mqtt_flow.specs.outbound.Receiver.{Output, connack, no_connack, publish, pubrel, disconnect}
use Rattle.mqtt_world_laws.specs.receiver.Drains.{is_none_left, times}

-- ---- what is under way for a copy

-- one of a list has this
abbrev pub Has : {X : Type 0} → (X → Bool) → List X → Type 0
Has f [] = ⊥
Has f (x ∷ xs) = (f x ≡ true) ⊎ Has f xs

-- by a phase: its PUBLISH went out on this connection with this identifier, or it is released
abbrev pub is_due_by : ℕ → Bool → Phase → Bool
is_due_by i here Waiting = false
is_due_by i here (Sent j) = here && nat_eq i j
is_due_by i here (Released j order) = nat_eq i j
is_due_by i here (Oversize j order) = nat_eq i j

abbrev pub is_due : ℕ → Lot → Bool
is_due i (standing e m) = is_due_by i e.here e.phase
is_due i (past ending e m) = false

-- a PUBLISH or PUBREL with this identifier, and an answer to one
abbrev pub is_told : ℕ → Output → Bool
is_told i (connack present) = false
is_told i no_connack = false
is_told i (publish j n dup b) = nat_eq i j
is_told i (pubrel j code) = nat_eq i j
is_told i disconnect = false

abbrev pub is_answered : ℕ → Answer → Bool
is_answered i (connect clean) = false
is_answered i (puback j code) = nat_eq i j
is_answered i (pubrec j code) = nat_eq i j
is_answered i (pubcomp j code) = nat_eq i j

-- for each copy of which something is due, that is under way to the receiver, or its answer is under way back
abbrev pub IsUnderWay : World → Type 0
IsUnderWay w = (i : ℕ) → Has (is_due i) w.copies → Has (is_told i) w.down ⊎ Has (is_answered i) w.up

-- ---- how far copies have to go: one that waits or was sent has two phases before it, and one that is released has one

abbrev pub phases_left : Phase → ℕ
phases_left Waiting = 2
phases_left (Sent i) = 2
phases_left (Released i order) = 1
phases_left (Oversize i order) = 1

abbrev pub way_left : Lot → ℕ
way_left (standing e m) = phases_left e.phase
way_left (past ending e m) = 0

abbrev pub all_left : List Lot → ℕ
all_left [] = 0
all_left (l ∷ lots) = way_left l + all_left lots

-- the copies have come further, and the session is still connected on the receiver's line
pub record IsFurther (w later : World) : Type 0 where
  pub linked : later.linked ≡ true
  pub less : all_left later.copies < all_left w.copies

-- ---- a round: the session sends, the receiver reads all, and the session reads all that it answers

abbrev pub all_to_end : World → List Event
all_to_end w = times (length w.down) to_end

abbrev pub all_to_broker : World → List Event
all_to_broker w = times (length w.up) (to_broker false)

abbrev pub round_events : ℕ → ℕ → ℕ → World → List Event
round_events largest window now w =
    let sent = step largest w (pump window now) in
    pump window now ∷ all_to_end sent ++ all_to_broker (run largest (all_to_end sent) sent)

abbrev pub after_round : ℕ → ℕ → ℕ → World → World
after_round largest window now w = run largest (round_events largest window now w) w

-- ---- a drain, of a round at each of these moments at most

abbrev pub is_over : World → Bool
is_over w = is_none_left (length (queue_of w.copies)) || not w.linked

abbrev pub drained : ℕ → ℕ → List ℕ → World → World
drained largest window [] w = w
drained largest window (now ∷ moments) w =
    cond (is_over w) w (drained largest window moments (after_round largest window now w))

abbrev pub rounds_taken : ℕ → ℕ → List ℕ → World → ℕ
rounds_taken largest window [] w = 0
rounds_taken largest window (now ∷ moments) w =
    cond (is_over w) 0 (suc (rounds_taken largest window moments (after_round largest window now w)))

-- ---- by which causes copies end in a drain, of rounds at these moments: one is taken; it expires only if its Message
-- Expiry Interval had passed at one of them (3.3.2.3.3); it is too large only if its PUBLISH is larger than the receiver's
-- Maximum Packet Size (3.1.2.11.4)

abbrev pub IsDrainCause : ℕ → List ℕ → QueuedCopy → Ending → Type 0
IsDrainCause largest moments copy Taken = ⊤
IsDrainCause largest moments copy Refused = ⊥
IsDrainCause largest moments copy Expired = Has (λ (now : ℕ). is_late now copy) moments
IsDrainCause largest moments copy TooLarge = nat_lt largest copy.size ≡ true
IsDrainCause largest moments copy SessionEnded = ⊥
IsDrainCause largest moments copy Dropped = ⊥

-- a copy that stood stands still, or has ended by such a cause; one that had ended has ended for the same one
abbrev pub EndsBy : ℕ → List ℕ → Option Lot → Option Lot → Type 0
EndsBy largest moments None later = ⊤
EndsBy largest moments (Some (standing e m)) None = ⊥
EndsBy largest moments (Some (standing e m)) (Some (standing f k)) = f.copy ≡ e.copy
EndsBy largest moments (Some (standing e m)) (Some (past ending f k)) = IsDrainCause largest moments e.copy ending
EndsBy largest moments (Some (past ending e m)) None = ⊥
EndsBy largest moments (Some (past ending e m)) (Some (standing f k)) = ⊥
EndsBy largest moments (Some (past ending e m)) (Some (past other f k)) = other ≡ ending
