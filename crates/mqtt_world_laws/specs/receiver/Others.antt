-- Deeds of others: they leave a receiver's session, and the lines that are its own, alone (MQTT 5.0, 4.1).
use Rattle.std.specs.Prelude.{◌≡◌, ℕ, ⊤, true, false, List, Some, nat_eq}
use Rattle.std.specs.List.{AllByRecursion}
use Rattle.mqtt_world_model.specs.model.Ends.{Receiver}
use Rattle.mqtt_world_model.specs.model.Lines.{is_one_of}
use Rattle.mqtt_records.specs.declared.state.session.Session.{Session}
use Rattle.mqtt_rules.specs.step.Deeds.{At, Begin, Deed, Finish, Gone, Greet, LinePart, Link, On, Send}
use Rattle.mqtt_rules.specs.step.State.{Broker}
use Rattle.mqtt_world_laws.specs.receiver.Calls.{IsOnlyAt}

-- another session is connected on the line, if one is
abbrev pub IsPartOfOthers : ℕ → LinePart → Type 0
IsPartOfOthers birth (Greet other keep_alive window largest most) = nat_eq other birth ≡ false
IsPartOfOthers birth part = ⊤

-- about another session than the one of this birth, on other lines than these; a session that begins has another name
abbrev pub IsOfOthers : List ℕ → ℕ → List ℕ → Deed → Type 0
IsOfOthers client birth ns (Begin row will) = (nat_eq row.birth birth ≡ false) × (row.client ≡ client → ⊥)
IsOfOthers client birth ns (At who part) = nat_eq who.birth birth ≡ false
IsOfOthers client birth ns (Finish who) = nat_eq who.birth birth ≡ false
IsOfOthers client birth ns (Link n) = is_one_of (Some n) ns ≡ false
IsOfOthers client birth ns (On n part) = (is_one_of (Some n) ns ≡ false) × IsPartOfOthers birth part
IsOfOthers client birth ns (Send n packet) = is_one_of (Some n) ns ≡ false
IsOfOthers client birth ns (Gone n) = is_one_of (Some n) ns ≡ false
IsOfOthers client birth ns d = ⊤

abbrev pub AreOfOthers : List ℕ → ℕ → List ℕ → List Deed → Type 0
AreOfOthers client birth ns ds = AllByRecursion (IsOfOthers client birth ns) ds

-- the receiver's line, if it has one, and that of its session are among these
pub record IsWithin (ns : List ℕ) (r : Receiver) (s : Session) (b : Broker) : Type 0 where
  pub own : (n : ℕ) → r.line.number ≡ Some n → is_one_of (Some n) ns ≡ true
  pub its : AllByRecursion (IsOnlyAt ns s.birth) b.lines
