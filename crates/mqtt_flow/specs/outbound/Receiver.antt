-- A conforming receiver, its line, and the line that it gave up last (MQTT 5.0, 4.3, 4.4).
use Rattle.std.specs.Prelude.{◌≡◌, ℕ, ◌+◌, ◌<◌, Bool, true, false, cond, ◌||◌, List, [], ◌∷◌, ◌++◌, nat_eq, if◌then◌else◌, All, ⊤}
use Rattle.mqtt_base.specs.Codes.{success, identifier_not_found}
use Rattle.mqtt_flow.specs.inbound.Identifiers.{is_among, ids_without}
use Rattle.mqtt_flow.specs.inbound.Line.{Link, away, asked, live, sent_on}

-- what a copy carries. `twice` says that its granted QoS is 2, not 1
pub record Body : Type 0 where
  pub twice : Bool
  pub topic : List ℕ
  pub payload : List ℕ

-- packets to the receiver. A PUBLISH has its identifier, the number of its copy, DUP and what the copy carries
pub data Output : Type 0 where
  connack : (present : Bool) → Output
  no_connack : Output
  publish : (i n : ℕ) (dup : Bool) (b : Body) → Output
  pubrel : (i code : ℕ) → Output
  disconnect : Output

-- packets to the broker
pub data Answer : Type 0 where
  connect : (clean : Bool) → Answer
  puback : (i code : ℕ) → Answer
  pubrec : (i code : ℕ) → Answer
  pubcomp : (i code : ℕ) → Answer

-- what the receiver has read
pub record Handed : Type 0 where
  pub copy : ℕ
  pub body : Body

-- a session with its copies, its receiver, the line between them and the line that was given up last
pub record Hop (C : Type 0) : Type 0 where
  -- the session: its copies, whether it stands, and whether it is connected on
  -- the receiver's line
  pub copies : C
  pub stands : Bool
  pub linked : Bool
  -- the receiver, whether it carries a Clean Start through, its line, and the line that was given up last
  pub link : Link
  pub clean : Bool
  pub up : List Answer
  pub down : List Output
  pub old : List Answer
  -- the receiver's set, its ledger, and what it read of QoS 1
  pub kept : List ℕ
  pub ledger : List Handed
  pub reads : List Handed

-- the line of a session that is connected anew is closed: what is under way there is not read, but for a CONNECT
abbrev pub spared : List Answer → List Answer
spared [] = []
spared (connect c ∷ rest) = connect c ∷ rest
spared (puback i code ∷ rest) = []
spared (pubrec i code ∷ rest) = []
spared (pubcomp i code ∷ rest) = []

-- no CONNECT is under way
abbrev pub HasNoConnect : List Answer → Type 0
HasNoConnect [] = ⊤
HasNoConnect (connect c ∷ rest) = ⊥
HasNoConnect (puback i code ∷ rest) = HasNoConnect rest
HasNoConnect (pubrec i code ∷ rest) = HasNoConnect rest
HasNoConnect (pubcomp i code ∷ rest) = HasNoConnect rest

-- or one alone
abbrev pub IsConnectAlone : List Answer → Type 0
IsConnectAlone [] = ⊤
IsConnectAlone (connect c ∷ rest) = rest ≡ []
IsConnectAlone (puback i code ∷ rest) = HasNoConnect rest
IsConnectAlone (pubrec i code ∷ rest) = HasNoConnect rest
IsConnectAlone (pubcomp i code ∷ rest) = HasNoConnect rest

-- by whether the session is connected there: an answer is under way only if it is, a CONNECT only if it isn't yet
abbrev pub IsHeard : Bool → List Answer → Type 0
IsHeard linked [] = ⊤
IsHeard linked (connect c ∷ rest) = linked ≡ false
IsHeard linked (puback i code ∷ rest) = linked ≡ true
IsHeard linked (pubrec i code ∷ rest) = linked ≡ true
IsHeard linked (pubcomp i code ∷ rest) = linked ≡ true

-- the receiver reads
abbrev pub kept_after : ℕ → List ℕ → List ℕ
kept_after i kept = if is_among i kept then kept else kept ++ i ∷ []

abbrev pub ledger_after : ℕ → ℕ → Body → List ℕ → List Handed → List Handed
ledger_after i n b kept ledger = if is_among i kept then ledger else ledger ++ record { copy = n; body = b } ∷ []

abbrev pub read_publish : {C : Type 0} → Bool → ℕ → ℕ → Body → List Output → Hop C → Hop C
read_publish true i n b rest w = record w { down = rest; kept = kept_after i w.kept; ledger = ledger_after i n b w.kept w.ledger; up = sent_on w.linked w.up (pubrec i success ∷ []) }
read_publish false i n b rest w = record w { down = rest; reads = w.reads ++ record { copy = n; body = b } ∷ []; up = sent_on w.linked w.up (puback i success ∷ []) }

-- a CONNACK that was not asked for is passed over
abbrev pub read_connack : {C : Type 0} → Link → Bool → List Output → Hop C → Hop C
read_connack away p rest w = record w { down = rest }
read_connack asked p rest w = record w { down = rest; link = live; clean = false; kept = if p then w.kept else [] }
read_connack live p rest w = record w { down = rest }

abbrev pub leaves : {C : Type 0} → Hop C → Hop C
leaves w = record w { link = away; linked = false; up = []; down = [] }

-- the code of PUBCOMP, by whether its identifier was known (3.7.2.1)
abbrev pub release_code : Bool → ℕ
release_code true = success
release_code false = identifier_not_found

abbrev pub down_comes : {C : Type 0} → List Output → Hop C → Hop C
down_comes [] w = w
down_comes (connack p ∷ rest) w = read_connack w.link p rest w
down_comes (no_connack ∷ rest) w = leaves (record w { clean = false })
down_comes (publish i n dup b ∷ rest) w = read_publish b.twice i n b rest w
down_comes (pubrel i code ∷ rest) w = record w { down = rest; kept = ids_without i w.kept; up = sent_on w.linked w.up (pubcomp i (release_code (is_among i w.kept)) ∷ []) }
down_comes (disconnect ∷ rest) w = leaves w

-- a Clean Start is carried through
abbrev pub gives_up : {C : Type 0} → Bool → Link → Hop C → Hop C
gives_up true l w = w
gives_up false away w = w
gives_up false asked w = record w { link = away; linked = false; up = []; down = []; old = w.up }
gives_up false live w = record w { link = away; linked = false; up = []; down = []; old = w.up }

abbrev pub joins : {C : Type 0} → Link → Bool → Hop C → Hop C
joins away c w = record w { link = asked; clean = w.clean || c; linked = false; up = connect (w.clean || c) ∷ []; down = [] }
joins asked c w = w
joins live c w = w

-- how often a copy was read
abbrev pub handed : ℕ → List Handed → ℕ
handed n [] = 0
handed n (h ∷ hs) = cond (nat_eq n h.copy) 1 0 + handed n hs

-- each number is above those before it
abbrev pub Rising : List Handed → Type 0
Rising [] = ⊤
Rising (x ∷ xs) = All (λ y. x.copy < y.copy) xs × Rising xs
