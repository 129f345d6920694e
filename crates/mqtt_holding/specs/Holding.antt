-- Who is held, by what the server has seen of each connection (ours).
use Rattle.std.specs.Prelude.{ℕ, ◌+◌, ◌/◌, max, min, nat_eq, nat_lt, Bool, true, false, cond, not, ◌&&◌, ◌||◌, Option, Some, None, is_some, List, [], ◌∷◌, ⊤}
use Rattle.std.specs.List.{list_any}
use Rattle.mqtt_holding.specs.declared.mark.TheConstants.{MARK}
use Rattle.mqtt_holding.specs.declared.seen.TheConstants.{HOLD_TIME, STALL_TIME}

-- the mark of queues that have room for so many copies
abbrev pub mark_of : ℕ → ℕ
mark_of queue = max (min MARK (queue / 4)) 1

-- how many copies wait in the queue of the session that is connected on it, none before a CONNECT was accepted; whether that queue is over
-- the mark; when it last made progress; and when a PUBLISH of QoS 1 or 2 last came on it
pub record Seen : Type 0 where
  pub waits : Option ℕ
  pub is_over : Bool
  pub moved : ℕ
  pub brought : Option ℕ

abbrev pub fresh : Seen
fresh = record { waits = None; is_over = false; moved = 0; brought = None }

-- ---- what is seen of a connection

-- a queue with so many copies is over the mark: it has more, or it was over it and has at least half as many
abbrev pub over_after : ℕ → ℕ → Bool → Bool
over_after mark waits over = nat_lt mark waits || (over && not (nat_lt (waits + waits) mark))

-- a queue makes progress where it has fewer copies than at the last look, or none, or was not looked at
abbrev pub is_shorter : Option ℕ → ℕ → Bool
is_shorter None waits = true
is_shorter (Some before) waits = nat_eq waits 0 || nat_lt waits before

-- the server looks how many copies wait
abbrev pub looked : ℕ → Option ℕ → ℕ → Seen → Seen
looked mark None now s = record s { waits = None; is_over = false; moved = now }
looked mark (Some waits) now s =
    record s { waits = Some waits; is_over = over_after mark waits s.is_over; moved = cond (is_shorter s.waits waits) now s.moved }

-- a PUBLISH of QoS 1 or 2 came
abbrev pub with_brought : ℕ → Seen → Seen
with_brought now s = record s { brought = Some now }

-- an acknowledgement came, which is progress
abbrev pub with_acknowledged : ℕ → Seen → Seen
with_acknowledged now s = record s { moved = now }

-- ---- who is held

-- its queue is over the mark, and made progress lately
abbrev pub is_pressing : ℕ → Seen → Bool
is_pressing now s = s.is_over && nat_lt now (s.moved + STALL_TIME)

-- so is the queue of one of them
abbrev pub is_pressed : ℕ → List Seen → Bool
is_pressed now all = list_any (is_pressing now) all

-- no PUBLISH came within HOLD_TIME before a moment
abbrev pub is_late : ℕ → Option ℕ → Bool
is_late now None = true
is_late now (Some at) = not (nat_lt now (at + HOLD_TIME))

-- a queue is pressing; a session is connected on this connection, whose own queue is not over the mark; and it brought a PUBLISH lately
abbrev pub is_held : Bool → ℕ → Seen → Bool
is_held pressed now s = pressed && (is_some s.waits && (not s.is_over && not (is_late now s.brought)))

-- ---- one after the other

-- the server looks how many copies wait; a PUBLISH of QoS 1 or 2 came; an acknowledgement came
pub data Event : Type 0 where
  looks : ℕ → Option ℕ → ℕ → Event
  brings : ℕ → Event
  acknowledges : ℕ → Event

abbrev pub after : Event → Seen → Seen
after (looks mark waits now) s = looked mark waits now s
after (brings now) s = with_brought now s
after (acknowledges now) s = with_acknowledged now s

abbrev pub run : List Event → Seen → Seen
run [] s = s
run (e ∷ events) s = run events (after e s)

-- no PUBLISH comes
abbrev pub BringsNothing : List Event → Type 0
BringsNothing [] = ⊤
BringsNothing (looks mark waits now ∷ events) = BringsNothing events
BringsNothing (brings now ∷ events) = ⊥
BringsNothing (acknowledges now ∷ events) = BringsNothing events
