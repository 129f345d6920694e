-- A hop seen from its copies: what becomes of each, and of the lines and the receiver.
use Rattle.std.specs.Prelude.{ℕ, zero, suc, Bool, true, false, List, [], ◌∷◌, ◌++◌, map, if◌then◌else◌}
use Rattle.mqtt_flow.specs.inbound.Identifiers.{is_among, free_identifier}
use Rattle.mqtt_flow.specs.inbound.Line.{away, sent_on}
use Rattle.mqtt_flow.specs.outbound.Receiver.{Body, Output, connack, no_connack, disconnect, Answer, connect, puback, pubrec, pubcomp, Hop, spared, leaves, down_comes, gives_up, joins}
use Rattle.mqtt_flow.proofs.outbound_lemmas.outbound.Lives.{Life, waiting, pids, find, pumped, pump_sends, anew, pubrels, cut, Lapse, lapse_at, answered, on_puback, on_pubrec, on_pubcomp, Reply, wrong, says, puback_reply, pubrec_reply, pubcomp_reply}

-- a phase for each copy that entered, by its number
abbrev pub World : Type 0
World = Hop (List Life)

-- what may happen in the world of the copies
pub data Event : Type 0 where
  enter : (b : Body) → Event
  finish : (l : Lapse) (n : ℕ) → Event
  pump : (i : ℕ) → Event
  to_broker : (refuse : Bool) (order : List ℕ) → Event
  old_to_broker : (refuse : Bool) → Event
  to_end : Event
  give_up : Event
  break_line : Event
  make_line : (clean : Bool) → Event
  close : Event
  close_old : Event
  restart : Event

-- a queue is there with the session
abbrev pub enters_in : Bool → Body → World → World
enters_in false b w = w
enters_in true b w = record w { copies = w.copies ++ waiting b ∷ [] }

-- an identifier that isn't used, this one if it is free
abbrev pub unused_of : ℕ → List ℕ → ℕ
unused_of i used = if is_among i used then free_identifier used else i

abbrev pub pump_with : ℕ → World → World
pump_with i w = record w { copies = pumped i w.copies; down = sent_on w.linked w.down (pump_sends i 0 w.copies) }

abbrev pub pump_one : ℕ → World → World
pump_one i w = pump_with (unused_of i (pids w.copies)) w

abbrev pub made_new : List Answer → World → World
made_new rest w = record w { up = rest; old = spared w.old; stands = true; linked = true; copies = map cut w.copies; down = w.down ++ connack false ∷ [] }

-- PUBRELs in an order that the broker chooses: where each stands among those before it
abbrev pub put_at : ℕ → Output → List Output → List Output
put_at k p [] = p ∷ []
put_at zero p (x ∷ xs) = p ∷ x ∷ xs
put_at (suc k) p (x ∷ xs) = x ∷ put_at k p xs

abbrev pub arranged : List ℕ → List Output → List Output → List Output
arranged order ps [] = ps
arranged [] ps (q ∷ qs) = arranged [] (put_at 0 q ps) qs
arranged (k ∷ order) ps (q ∷ qs) = arranged order (put_at k q ps) qs

abbrev pub resumed : List ℕ → List Answer → World → World
resumed order rest w = record w { up = rest; old = spared w.old; linked = true; copies = map anew w.copies; down = w.down ++ connack true ∷ arranged order [] (pubrels w.copies) }

-- by whether the session stands, Clean Start, and whether there is no room for a new one
abbrev pub connects : Bool → Bool → Bool → List ℕ → List Answer → World → World
connects false c true order rest w = record w { up = rest; down = w.down ++ no_connack ∷ [] }
connects false c false order rest w = made_new rest w
connects true true r order rest w = made_new rest w
connects true false r order rest w = resumed order rest w

-- the same from the line that was given up. The receiver's line is closed if the session is connected there
abbrev pub connects_old : Bool → Bool → Bool → List Answer → World → World
connects_old false c true rest w = record w { old = rest }
connects_old false c false rest w = record w { old = rest; stands = true; copies = map cut w.copies }
connects_old true true r rest w = record w { old = rest; copies = map cut w.copies; down = sent_on w.linked w.down (disconnect ∷ []); up = if w.linked then [] else w.up; linked = false }
connects_old true false r rest w = record w { old = rest; copies = map anew w.copies; down = sent_on w.linked w.down (disconnect ∷ []); up = if w.linked then [] else w.up; linked = false }

-- a line is closed by a wrong answer
abbrev pub replied : Reply → List Answer → List Life → World → World
replied wrong rest cs w = record w { up = []; linked = false; down = sent_on w.linked w.down (disconnect ∷ []) }
replied (says ps) rest cs w = record w { up = rest; copies = cs; down = sent_on w.linked w.down ps }

abbrev pub replied_old : Reply → List Answer → List Life → World → World
replied_old wrong rest cs w = record w { old = [] }
replied_old (says ps) rest cs w = record w { old = rest; copies = cs }

-- the broker reads a packet of the receiver's line
abbrev pub up_comes : Bool → List ℕ → List Answer → World → World
up_comes r order [] w = w
up_comes r order (connect c ∷ rest) w = connects w.stands c r order rest w
up_comes r order (puback i code ∷ rest) w = replied (puback_reply (find i w.copies)) rest (map (answered i (on_puback code)) w.copies) w
up_comes r order (pubrec i code ∷ rest) w = replied (pubrec_reply i code (find i w.copies)) rest (map (answered i (on_pubrec code)) w.copies) w
up_comes r order (pubcomp i code ∷ rest) w = replied (pubcomp_reply (find i w.copies)) rest (map (answered i on_pubcomp) w.copies) w

-- and of the line that was given up: what it sends there is lost
abbrev pub old_comes : Bool → List Answer → World → World
old_comes r [] w = w
old_comes r (connect c ∷ rest) w = connects_old w.stands c r rest w
old_comes r (puback i code ∷ rest) w = replied_old (puback_reply (find i w.copies)) rest (map (answered i (on_puback code)) w.copies) w
old_comes r (pubrec i code ∷ rest) w = replied_old (pubrec_reply i code (find i w.copies)) rest (map (answered i (on_pubrec code)) w.copies) w
old_comes r (pubcomp i code ∷ rest) w = replied_old (pubcomp_reply (find i w.copies)) rest (map (answered i on_pubcomp) w.copies) w

abbrev pub step : World → Event → World
step w (enter b) = enters_in w.stands b w
step w (finish l n) = record w { copies = lapse_at l n w.copies }
step w (pump i) = pump_one i w
step w (to_broker r order) = up_comes r order w.up w
step w (old_to_broker r) = old_comes r w.old w
step w to_end = down_comes w.down w
step w give_up = gives_up w.clean w.link w
step w break_line = leaves w
step w (make_line c) = joins w.link c w
step w close = record w { up = []; linked = false; down = sent_on w.linked w.down (disconnect ∷ []) }
step w close_old = record w { old = [] }
step w restart = record w { link = away; linked = false; up = []; down = []; old = []; copies = map anew w.copies }

abbrev pub start : World
start = record { copies = []; stands = false; linked = false; link = away; clean = false; up = []; down = []; old = []; kept = []; ledger = []; reads = [] }

abbrev pub run : List Event → World → World
run [] w = w
run (e ∷ es) w = run es (step w e)
