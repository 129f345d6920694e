-- A connection as a turn has it, and what happens to it (MQTT 5.0, 4.2).
use Rattle.std.specs.Prelude.{◌≡◌, ◌⊎◌, ℕ, Bool, true, false, cond, ◌&&◌, List, [], ◌∷◌, ◌++◌, length, take, slice_get, nat_eq, nat_lt, Option, Some}
use Rattle.std.specs.List.{flat_map, list_any}
use Rattle.mqtt_link.specs.declared.waiting.WaitingFault.{WaitingFault}
use Rattle.mqtt_link.specs.Links.{AtFirst, IsNew, Refuses, and_then, now_told, one_more, one_more_if_any}
use Rattle.mqtt_serve.specs.declared.turns.connection.Fate.{Fate}
use Rattle.mqtt_serve.specs.declared.turns.connection.Fate.TheVariants.{Stands, Lost, Closed}
use Rattle.mqtt_serve.specs.turns.Related.{Related}

-- its line; how often it was read, for how many bytes the last read had room, and what these reads gave; how often it was
-- written to; whether a read or a write gave the end or a failure; what waits to go out; what was said to it, which is what
-- was written and then what waits; over a link that holds back what is written, what left it, and by how many writes; whether
-- something was written, and the last write took all that waited; and what becomes of it
pub record Wire : Type 0 where
  pub number : ℕ
  pub reads : Option ℕ
  pub room : Option ℕ
  pub heard : Option (List ℕ)
  pub writes : Option ℕ
  pub ended : Option Bool
  pub waits : List ℕ
  pub said : Option (List ℕ)
  pub out : Option (List ℕ)
  pub outs : Option ℕ
  pub clear : Bool
  pub fate : Fate

abbrev pub is_standing : Fate → Bool
is_standing Stands = true
is_standing Lost = false
is_standing Closed = false

abbrev pub is_lost : Fate → Bool
is_lost Stands = false
is_lost Lost = true
is_lost Closed = false

abbrev pub is_closed : Fate → Bool
is_closed Stands = false
is_closed Lost = false
is_closed Closed = true

abbrev pub lost : Wire → Wire
lost w = record w { fate = Lost }

-- a read of it, or a write to it, gave the end or a failure
abbrev pub ending : Wire → Wire
ending w = record w { ended = now_told true w.ended }

-- the broker sends to it: it stands, and the last write took all that waited
abbrev pub may_send : Wire → Bool
may_send w = is_standing w.fate && w.clear

-- ---- a connection that was just opened

-- it has this number, it was never read or written to, nothing left it, nothing waits, and it stands
pub record IsOpened (number : ℕ) (w : Wire) : Type 0 where
  pub its : w.number ≡ number
  pub new : IsNew w.reads w.writes w.heard w.said w.ended
  pub unsent : AtFirst [] w.out × AtFirst 0 w.outs
  pub waits : w.waits ≡ []
  pub unclear : w.clear ≡ false
  pub stands : w.fate ≡ Stands

-- ---- reading

abbrev pub hearing : ℕ → List ℕ → Wire → Wire
hearing room bytes w = record w { reads = one_more w.reads; room = now_told room w.room; heard = and_then w.heard bytes }

-- one that stands is read once, with room for so many bytes, and bytes come, or none; if the read gives the end or a failure
-- it is lost; another isn't read
abbrev pub Reads : Fate → ℕ → List ℕ → Wire → Wire → Type 0
Reads Stands room bytes old new =
    (new ≡ hearing room bytes old) ⊎ ((bytes ≡ []) × (new ≡ lost (ending (hearing room [] old))))
Reads Lost room bytes old new = (bytes ≡ []) × (new ≡ old)
Reads Closed room bytes old new = (bytes ≡ []) × (new ≡ old)

-- ---- writing: what was written, and then what waits, stays

-- a write took all; if nothing waits there is none
abbrev pub clear_after : List ℕ → List ℕ → Bool → Bool
clear_after [] rest clear = clear
clear_after (b ∷ waits) [] clear = true
clear_after (b ∷ waits) (c ∷ rest) clear = false

-- it is written to once, if anything waits; what it did not take waits
abbrev pub writing : List ℕ → Wire → Wire
writing rest w =
    record w { writes = one_more_if_any w.waits w.writes; waits = rest; clear = clear_after w.waits rest w.clear }

-- one that stands is lost if the write gives the end or a failure; one that is lost isn't written to
abbrev pub Writes : Fate → Wire → Wire → Type 0
Writes Stands old new = (new ≡ writing new.waits old) ⊎ (new ≡ lost (ending (writing new.waits old)))
Writes Lost old new = new ≡ old
Writes Closed old new = (new ≡ writing new.waits old) ⊎ (new ≡ ending (writing new.waits old))

-- fewer bytes wait than did
abbrev pub has_written : Wire → Wire → Bool
has_written old new = nat_lt (length new.waits) (length old.waits)

-- it is written to, and whether bytes went out
pub record WritesAnd (wrote : Bool) (old new : Wire) : Type 0 where
  pub writes : Writes old.fate old new
  pub wrote_is : wrote ≡ has_written old new

-- one that the broker closed is written to once more
abbrev pub WritesLast : Fate → Wire → Wire → Type 0
WritesLast Stands old new = new ≡ old
WritesLast Lost old new = new ≡ old
WritesLast Closed old new = (new ≡ writing new.waits old) ⊎ (new ≡ ending (writing new.waits old))

-- ---- what the broker says to a line

-- the bytes of an output, if it is to this line
abbrev pub bytes_if : ℕ → ℕ × List ℕ → List ℕ
bytes_if number output = cond (nat_eq output.0 number) output.1 []

-- the bytes of the outputs to a line, in order
abbrev pub bytes_to : ℕ → List (ℕ × List ℕ) → List ℕ
bytes_to number outputs = flat_map (bytes_if number) outputs

abbrev pub hearing_more : List ℕ → Wire → Wire
hearing_more bytes w = record w { waits = w.waits ++ bytes; said = and_then w.said bytes }

-- behind these bytes and the outputs before it, the output at a place, which is to this line, does not wait, for this fault
pub record FindsNoRoom (number : ℕ) (outputs : List (ℕ × List ℕ)) (count : ℕ) (waits : List ℕ) (fault : WaitingFault) : Type 0
  where
    pub output : ℕ × List ℕ
    pub here : slice_get outputs count ≡ Some output
    pub its : output.0 ≡ number
    pub due : Refuses (waits ++ bytes_to number (take count outputs)) output.1 fault

-- an output finds no room: the connection is lost, and the outputs before it were said
pub record IsCutOff (outputs : List (ℕ × List ℕ)) (old new : Wire) : Type 0 where
  pub count : ℕ
  pub fault : WaitingFault
  pub finds : FindsNoRoom old.number outputs count old.waits fault
  pub is : new ≡ lost (hearing_more (bytes_to old.number (take count outputs)) old)

-- to one that stands all is said, or it is lost; to another nothing
abbrev pub Hears : Fate → List (ℕ × List ℕ) → Wire → Wire → Type 0
Hears Stands outputs old new = (new ≡ hearing_more (bytes_to old.number outputs) old) ⊎ IsCutOff outputs old new
Hears Lost outputs old new = new ≡ old
Hears Closed outputs old new = new ≡ old

-- one whose line the broker closed is closed
abbrev pub closing : List ℕ → Wire → Wire
closing closed w = cond (list_any (nat_eq w.number) closed) (record w { fate = Closed }) w

-- an answer reaches a connection
pub record Reaches (outputs : List (ℕ × List ℕ)) (closed : List ℕ) (old new : Wire) : Type 0 where
  pub told : Wire
  pub hears : Hears old.fate outputs old told
  pub closes : new ≡ closing closed told

-- ---- the connection on a line is lost

abbrev pub lost_if : ℕ → Wire → Wire
lost_if number w = cond (nat_eq w.number number) (lost w) w

abbrev pub AreLost : ℕ → List Wire → List Wire → Type 0
AreLost number old new = Related (λ x y. y ≡ lost_if number x) old new

-- ---- what is held back goes out

-- what is held leaves it by one write, if anything is
abbrev pub letting : List ℕ → Option (List ℕ) → Wire → Wire
letting held out w = record w { out = out; outs = one_more_if_any held w.outs }

-- one that stands is lost if that write gives the end or a failure
abbrev pub Leaves : Fate → Wire → Wire → Type 0
Leaves Stands went new = (new ≡ went) ⊎ (new ≡ lost (ending went))
Leaves Lost went new = (new ≡ went) ⊎ (new ≡ ending went)
Leaves Closed went new = (new ≡ went) ⊎ (new ≡ ending went)

-- of what was said to it some left it, some is held, and some waits; what was held leaves it, or the rest is held on; and whether
-- bytes left
pub record LetsGo (went : Bool) (old new : Wire) : Type 0 where
  pub held : List ℕ
  pub rest : List ℕ
  pub before : old.said ≡ and_then old.out (held ++ old.waits)
  pub moved : and_then new.out rest ≡ and_then old.out held
  pub leaves : Leaves old.fate (letting held new.out old) new
  pub went_is : went ≡ nat_lt (length rest) (length held)
