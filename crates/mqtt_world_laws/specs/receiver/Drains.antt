-- Drain: rounds in which what waits for a receiver is sent, all that is under way to it is read, and so is all that it
-- answers, until its queue is empty or the broker has closed its line (MQTT 5.0, 4.3, 4.4, 4.6).
use Rattle.std.specs.Prelude.{ℕ, zero, suc, ◌+◌, ◌*◌, Bool, true, false, cond, not, ◌||◌, List, [], ◌∷◌, ◌++◌, length}
use Rattle.std.specs.Prelude.{Option, Some, None}
use Rattle.mqtt_records.specs.declared.state.session.Session.{Session}
use Rattle.mqtt_rules.specs.step.State.{MemberChoice, session_named}
use Rattle.mqtt_rules.specs.declared.step.Capacity.{Capacity}
use Rattle.mqtt_world_model.specs.model.Ends.{Receiver}
use Rattle.mqtt_world_model.specs.model.Lines.{stands}
use Rattle.mqtt_world_model.specs.model.Run.{Turn, run}
use Rattle.mqtt_world_model.specs.model.World.{Event, World, ask, pump, receiver_named, to_broker, to_end}

-- ---- when a drain ends, and when it is bad

abbrev pub copies_by : Option Session → ℕ
copies_by None = 0
copies_by (Some s) = length s.queue

-- how many copies stand in the queue of a client's session
abbrev pub copies_left : List ℕ → World → ℕ
copies_left client w = copies_by (session_named client w.broker.records)

abbrev pub is_none_left : ℕ → Bool
is_none_left zero = true
is_none_left (suc more) = false

abbrev pub line_stands : Option Receiver → World → Bool
line_stands None w = false
line_stands (Some r) w = stands r.line.number w.broker

-- its queue is empty, or the broker has closed its line
abbrev pub is_over : List ℕ → World → Bool
is_over client w =
    is_none_left (copies_left client w) || not (line_stands (receiver_named client w) w)

-- of nobody's receiver, of one without a line, or of one whose line the broker has closed
abbrev pub is_bad_drain : List ℕ → World → Bool
is_bad_drain client w = not (line_stands (receiver_named client w) w)

-- ---- a round, as the events that it is made of

abbrev pub downs_by : Option Receiver → ℕ
downs_by None = 0
downs_by (Some r) = length r.line.down

abbrev pub ups_by : Option Receiver → ℕ
ups_by None = 0
ups_by (Some r) = length r.line.up

abbrev pub turn_of : MemberChoice → Event → Turn
turn_of choice e = record { event = e; choice = choice }

-- the same event so many times
abbrev pub times : {E : Type 0} → ℕ → E → List E
times zero e = []
times (suc more) e = e ∷ times more e

-- all packets that are under way to it, and then all that are under way from it
abbrev pub all_to_end : MemberChoice → List ℕ → World → List Turn
all_to_end choice client w = times (downs_by (receiver_named client w)) (turn_of choice (to_end client))

abbrev pub all_to_broker : MemberChoice → List ℕ → World → List Turn
all_to_broker choice client w = times (ups_by (receiver_named client w)) (turn_of choice (ask (to_broker client)))

-- the broker sends, the receiver reads all, and the broker reads all
abbrev pub round_turns : Capacity → MemberChoice → List ℕ → World → List Turn
round_turns limits choice client w =
    let sends = turn_of choice (ask (pump client)) ∷ [] in
    let sent = run limits sends w in
    let reads = all_to_end choice client sent in
    sends ++ reads ++ all_to_broker choice client (run limits reads sent)

abbrev pub after_round : Capacity → MemberChoice → List ℕ → World → World
after_round limits choice client w = run limits (round_turns limits choice client w) w

-- ---- a drain of so many rounds at most

abbrev pub drain_by : Bool → List Turn → List Turn → List Turn
drain_by true turns rest = []
drain_by false turns rest = turns ++ rest

abbrev pub drain_turns : Capacity → MemberChoice → List ℕ → ℕ → World → List Turn
drain_turns limits choice client zero w = []
drain_turns limits choice client (suc more) w =
    drain_by (is_over client w) (round_turns limits choice client w)
    (drain_turns limits choice client more (after_round limits choice client w))

abbrev pub count_by_end : Bool → ℕ → ℕ
count_by_end true more = 0
count_by_end false more = suc more

-- how many rounds it takes
abbrev pub rounds_taken : Capacity → MemberChoice → List ℕ → ℕ → World → ℕ
rounds_taken limits choice client zero w = 0
rounds_taken limits choice client (suc more) w =
    count_by_end (is_over client w)
    (rounds_taken limits choice client more (after_round limits choice client w))

abbrev pub drained : Capacity → MemberChoice → List ℕ → ℕ → World → World
drained limits choice client most w = run limits (drain_turns limits choice client most w) w

-- so many rounds are enough for so many copies, those that stand at the start and those that enter during it
abbrev pub enough_rounds : ℕ → ℕ
enough_rounds copies = 2 * copies + 1

-- ---- scripts with drains: a drain is the events of its rounds

pub data Doing : Type 0 where
  happens : (t : Turn) → Doing
  drains : (choice : MemberChoice) (client : List ℕ) (most : ℕ) → Doing

-- a bad one does nothing
abbrev pub turns_of : Capacity → Doing → World → List Turn
turns_of limits (happens t) w = t ∷ []
turns_of limits (drains choice client most) w =
    cond (is_bad_drain client w) [] (drain_turns limits choice client most w)

abbrev pub all_turns : Capacity → List Doing → World → List Turn
all_turns limits [] w = []
all_turns limits (d ∷ ds) w =
    let turns = turns_of limits d w in
    turns ++ all_turns limits ds (run limits turns w)

-- the world after them
abbrev pub after_doings : Capacity → List Doing → World → World
after_doings limits [] w = w
after_doings limits (d ∷ ds) w = after_doings limits ds (run limits (turns_of limits d w) w)
