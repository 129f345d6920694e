-- A session's copies, and what answers and connections do to them.
use Rattle.std.specs.Prelude.{ℕ, zero, suc, Bool, true, false, List, [], ◌∷◌, nat_eq, nat_lt, if◌then◌else◌, Option, Some, None}
use Rattle.mqtt_base.specs.Codes.{identifier_not_found}
use Rattle.mqtt_base.specs.declared.Ending.{Ending}
use Rattle.mqtt_base.specs.declared.Ending.TheVariants.{Taken, Refused, Expired, TooLarge, SessionEnded, Dropped}
use Rattle.mqtt_flow.specs.outbound.Receiver.{Body, Output, publish, pubrel}

-- a copy in flight was sent, or its PUBREL was. `here` says that its PUBLISH went out on this connection, `taken` that
-- its PUBREC was taken
pub data Mark : Type 0 where
  sent : (here : Bool) → Mark
  released : (here taken : Bool) → Mark

-- what becomes of a copy: it waits, has an identifier, or has ended for a cause
pub data Life : Type 0 where
  waiting : (b : Body) → Life
  in_flight : (i : ℕ) (m : Mark) (b : Body) → Life
  ended : (e : Ending) (b : Body) → Life

abbrev pub body_of : Life → Body
body_of (waiting b) = b
body_of (in_flight i m b) = b
body_of (ended e b) = b

abbrev pub pids : List Life → List ℕ
pids [] = []
pids (waiting b ∷ fs) = pids fs
pids (in_flight i m b ∷ fs) = i ∷ pids fs
pids (ended e b ∷ fs) = pids fs

abbrev pub standing : List Life → List Life
standing [] = []
standing (waiting b ∷ fs) = waiting b ∷ standing fs
standing (in_flight i m b ∷ fs) = in_flight i m b ∷ standing fs
standing (ended e b ∷ fs) = standing fs

-- the copy that has an identifier
abbrev pub find : ℕ → List Life → Option (Mark × Body)
find i [] = None
find i (waiting b ∷ fs) = find i fs
find i (in_flight j m b ∷ fs) = if nat_eq i j then Some (m, b) else find i fs
find i (ended e b ∷ fs) = find i fs

-- one PUBLISH: the first copy that is to be sent on this connection
abbrev pub pumped : ℕ → List Life → List Life
pumped i [] = []
pumped i (waiting b ∷ fs) = in_flight i (sent true) b ∷ fs
pumped i (in_flight j (sent true) b ∷ fs) = in_flight j (sent true) b ∷ pumped i fs
pumped i (in_flight j (sent false) b ∷ fs) = in_flight j (sent true) b ∷ fs
pumped i (in_flight j (released h t) b ∷ fs) = in_flight j (released h t) b ∷ pumped i fs
pumped i (ended e b ∷ fs) = ended e b ∷ pumped i fs

abbrev pub pump_sends : ℕ → ℕ → List Life → List Output
pump_sends i n [] = []
pump_sends i n (waiting b ∷ fs) = publish i n false b ∷ []
pump_sends i n (in_flight j (sent true) b ∷ fs) = pump_sends i (suc n) fs
pump_sends i n (in_flight j (sent false) b ∷ fs) = publish j n true b ∷ []
pump_sends i n (in_flight j (released h t) b ∷ fs) = pump_sends i (suc n) fs
pump_sends i n (ended e b ∷ fs) = pump_sends i (suc n) fs

-- a new connection
abbrev pub unsent : Mark → Mark
unsent (sent here) = sent false
unsent (released here taken) = released false taken

abbrev pub anew : Life → Life
anew (waiting b) = waiting b
anew (in_flight i m b) = in_flight i (unsent m) b
anew (ended e b) = ended e b

abbrev pub pubrels : List Life → List Output
pubrels [] = []
pubrels (waiting b ∷ fs) = pubrels fs
pubrels (in_flight i (sent h) b ∷ fs) = pubrels fs
pubrels (in_flight i (released h t) b ∷ fs) = pubrel i 0 ∷ pubrels fs
pubrels (ended e b ∷ fs) = pubrels fs

-- the session ends
abbrev pub cut : Life → Life
cut (waiting b) = ended SessionEnded b
cut (in_flight i m b) = ended SessionEnded b
cut (ended e b) = ended e b

-- a waiting copy ends
pub data Lapse : Type 0 where
  is_late : Lapse
  is_large : Lapse
  is_dropped : Lapse

abbrev pub cause : Lapse → Ending
cause is_late = Expired
cause is_large = TooLarge
cause is_dropped = Dropped

abbrev pub lapsed : Lapse → Life → Life
lapsed l (waiting b) = ended (cause l) b
lapsed l (in_flight i m b) = in_flight i m b
lapsed l (ended e b) = ended e b

abbrev pub lapse_at : Lapse → ℕ → List Life → List Life
lapse_at l n [] = []
lapse_at l zero (f ∷ fs) = lapsed l f ∷ fs
lapse_at l (suc n) (f ∷ fs) = f ∷ lapse_at l n fs

-- what an answer does to the copy in flight that it names
pub data Turn : Type 0 where
  stay : (m : Mark) → Turn
  over : (e : Ending) → Turn

abbrev pub turned : ℕ → Turn → Body → Life
turned i (stay m) b = in_flight i m b
turned i (over e) b = ended e b

abbrev pub answered : ℕ → (Mark → Body → Turn) → Life → Life
answered i g (waiting b) = waiting b
answered i g (in_flight j m b) = if nat_eq i j then turned j (g m b) b else in_flight j m b
answered i g (ended e b) = ended e b

abbrev pub on_puback : ℕ → Mark → Body → Turn
on_puback code (sent h) b = if b.twice then stay (sent h) else over (if nat_lt code 128 then Taken else Refused)
on_puback code (released h t) b = stay (released h t)

abbrev pub on_pubrec : ℕ → Mark → Body → Turn
on_pubrec code (sent h) b = if b.twice then (if nat_lt code 128 then stay (released h true) else over Refused) else stay (sent h)
on_pubrec code (released h t) b = stay (released h t)

abbrev pub on_pubcomp : Mark → Body → Turn
on_pubcomp (sent h) b = stay (sent h)
on_pubcomp (released h t) b = over (if t then Taken else TooLarge)

-- what is answered, or that the answer does not fit the phase
pub data Reply : Type 0 where
  wrong : Reply
  says : (ps : List Output) → Reply

abbrev pub puback_reply : Option (Mark × Body) → Reply
puback_reply None = says []
puback_reply (Some (sent h, b)) = if b.twice then wrong else says []
puback_reply (Some (released h t, b)) = wrong

abbrev pub pubrec_reply : ℕ → ℕ → Option (Mark × Body) → Reply
pubrec_reply i code None = says (pubrel i identifier_not_found ∷ [])
pubrec_reply i code (Some (sent h, b)) = if b.twice then (if nat_lt code 128 then says (pubrel i 0 ∷ []) else says []) else wrong
pubrec_reply i code (Some (released h t, b)) = says (pubrel i 0 ∷ [])

abbrev pub pubcomp_reply : Option (Mark × Body) → Reply
pubcomp_reply None = says []
pubcomp_reply (Some (sent h, b)) = wrong
pubcomp_reply (Some (released h t, b)) = says []
