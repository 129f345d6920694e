-- How far the end of a line has come, and what it and the broker send there.
use Rattle.std.specs.Prelude.{Bool, true, false, List, ◌++◌}

-- an end has no line, has sent CONNECT, or has read CONNACK (3.1, 3.2)
pub data Link : Type 0 where
  away : Link
  asked : Link
  live : Link

-- packets that go out are under way if the session is connected on the line, and are lost if it isn't
abbrev pub sent_on : {P : Type 0} → Bool → List P → List P → List P
sent_on true under_way packets = under_way ++ packets
sent_on false under_way packets = under_way
