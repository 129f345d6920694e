-- Where the line of a session is sought: not before the seat that the session's birth has (ours).
use Rattle.std.specs.Prelude.{◌≡◌, ℕ, ◌%◌, List, take, find, get_or, slice_set, Option, Some, None, IfSome}
use Rattle.mqtt_rules.specs.step.State.{Line, is_of}
use Rattle.mqtt_broker_queue.specs.declared.publications.seats.Seats.{Seats}
use Rattle.mqtt_broker_queue.specs.declared.publications.seats.TheConstants.{SEATS}

-- the number of a birth's seat
abbrev pub seat_of : ℕ → ℕ
seat_of birth = birth % SEATS

-- the seats once the line at an index has given its session's the index, if it has one
abbrev pub seated : Option ℕ → ℕ → List ℕ → List ℕ
seated None at seats = seats
seated (Some birth) at seats = slice_set seats (seat_of birth) at

-- no session is connected on a line before this one
abbrev pub IsNoneBefore : ℕ → ℕ → List Line → Type 0
IsNoneBefore birth at lines = find (λ l. is_of l.session birth) (take at lines) ≡ None

-- no session is connected on a line before its seat
abbrev pub AreSeatsOf : List ℕ → List Line → Type 0
AreSeatsOf seats lines = (birth : ℕ) → IsNoneBefore birth (get_or seats (seat_of birth) 0) lines

-- nor if seats are known
abbrev pub AreSeats : Seats → List Line → Type 0
AreSeats seats lines = IfSome seats.known (λ known. AreSeatsOf known lines)
