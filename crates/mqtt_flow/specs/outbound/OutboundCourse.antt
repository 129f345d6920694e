-- What holds of a hop: how a copy goes on, and what the receiver reads (MQTT 5.0, 4.3, 4.4, 4.6).
use Rattle.std.specs.Prelude.{◌≡◌, ◌≤◌, ℕ, ⊤, List, [], ◌∷◌, Option, Some, None, slice_get, option_map}
use Rattle.mqtt_base.specs.declared.Ending.{Ending}
use Rattle.mqtt_base.specs.declared.Ending.TheVariants.{Taken, Refused, Expired, TooLarge, SessionEnded, Dropped}
use Rattle.mqtt_base.specs.declared.Phase.{Phase}
use Rattle.mqtt_base.specs.declared.Phase.TheVariants.{Waiting, Sent, Released, Oversize}
use Rattle.mqtt_base.specs.declared.Qos.TheVariants.{AtLeastOnce, ExactlyOnce}
use Rattle.mqtt_flow.specs.declared.outbound.entry.Entry.{Entry}
use Rattle.mqtt_flow.specs.outbound.Receiver.{Body, Handed, handed, Rising, IsConnectAlone, IsHeard}
use Rattle.mqtt_flow.specs.outbound.OutboundWorld.{TopicAndPayload, Lot, standing, past, World, body}

-- a copy that was sent doesn't wait again, and one that was released isn't sent again: it stays released, by its PUBREC
-- or since it was too large
abbrev pub MayFollow : Phase → Phase → Type 0
MayFollow Waiting next = ⊤
MayFollow (Sent i) Waiting = ⊥
MayFollow (Sent i) (Sent j) = ⊤
MayFollow (Sent i) (Released j order) = ⊤
MayFollow (Sent i) (Oversize j order) = ⊤
MayFollow (Released i x) Waiting = ⊥
MayFollow (Released i x) (Sent j) = ⊥
MayFollow (Released i x) (Released j order) = ⊤
MayFollow (Released i x) (Oversize j order) = ⊥
MayFollow (Oversize i x) Waiting = ⊥
MayFollow (Oversize i x) (Sent j) = ⊥
MayFollow (Oversize i x) (Released j order) = ⊥
MayFollow (Oversize i x) (Oversize j order) = ⊤

-- the causes for which a copy that was sent ends: it neither expires nor is dropped
abbrev pub EndsSent : Ending → Type 0
EndsSent Taken = ⊤
EndsSent Refused = ⊤
EndsSent Expired = ⊥
EndsSent TooLarge = ⊤
EndsSent SessionEnded = ⊤
EndsSent Dropped = ⊥

-- a released one: by its PUBCOMP or with its session, and so one that was too large
abbrev pub EndsReleased : Ending → Type 0
EndsReleased Taken = ⊤
EndsReleased Refused = ⊥
EndsReleased Expired = ⊥
EndsReleased TooLarge = ⊥
EndsReleased SessionEnded = ⊤
EndsReleased Dropped = ⊥

abbrev pub EndsOversize : Ending → Type 0
EndsOversize Taken = ⊥
EndsOversize Refused = ⊥
EndsOversize Expired = ⊥
EndsOversize TooLarge = ⊤
EndsOversize SessionEnded = ⊤
EndsOversize Dropped = ⊥

abbrev pub MayEnd : Phase → Ending → Type 0
MayEnd Waiting ending = ⊤
MayEnd (Sent i) ending = EndsSent ending
MayEnd (Released i order) ending = EndsReleased ending
MayEnd (Oversize i order) ending = EndsOversize ending

-- a copy keeps what it carries, and ends once, for one cause
abbrev pub Next : Lot → Lot → Type 0
Next (standing e m) (standing f k) = MayFollow e.phase f.phase × (body f k ≡ body e m)
Next (standing e m) (past ending f k) = MayEnd e.phase ending × (body f k ≡ body e m)
Next (past ending e m) (standing f k) = ⊥
Next (past ending e m) (past other f k) = (other ≡ ending) × (body f k ≡ body e m)

abbrev pub GoesOn : Option Lot → Option Lot → Type 0
GoesOn None later = ⊤
GoesOn (Some l) None = ⊥
GoesOn (Some l) (Some k) = Next l k

-- what was read is what the copies carry
abbrev pub carried_by : Lot → Body
carried_by (standing e m) = body e m
carried_by (past ending e m) = body e m

abbrev pub Carries : List Lot → List Handed → Type 0
Carries ls [] = ⊤
Carries ls (h ∷ hs) = (option_map carried_by (slice_get ls h.copy) ≡ Some h.body) × Carries ls hs

-- no copy is handed over twice
abbrev pub Once : World → Type 0
Once w = (n : ℕ) → handed n w.ledger ≤ 1

-- a copy of QoS 2 that was taken is handed over once (4.3.3)
abbrev pub TakenOnce : World → Type 0
TakenOnce w = (n : ℕ) (e : Entry) (m : TopicAndPayload) → slice_get w.copies n ≡ Some (past Taken e m) → e.copy.qos ≡ ExactlyOnce → handed n w.ledger ≡ 1

-- and so it is from the PUBREC on that was taken (4.3.3)
abbrev pub ReleasedOnce : World → Type 0
ReleasedOnce w = (n i order : ℕ) (e : Entry) (m : TopicAndPayload) → slice_get w.copies n ≡ Some (standing e m) → e.phase ≡ Released i order → handed n w.ledger ≡ 1

-- a copy that expired, or gave way in a full queue, is never handed over
abbrev pub Unhanded : Ending → World → Type 0
Unhanded ending w = (n : ℕ) (e : Entry) (m : TopicAndPayload) → slice_get w.copies n ≡ Some (past ending e m) → handed n w.ledger ≡ 0

-- copies are handed over in the order in which they entered (4.6)
abbrev pub InOrder : World → Type 0
InOrder w = Rising w.ledger

-- the receiver reads what was published
abbrev pub Carried : World → Type 0
Carried w = Carries w.copies w.ledger × Carries w.copies w.reads

-- a copy of QoS 1 that was taken was read (4.3.2)
abbrev pub TakenRead : World → Type 0
TakenRead w = (n : ℕ) (e : Entry) (m : TopicAndPayload) → slice_get w.copies n ≡ Some (past Taken e m) → e.copy.qos ≡ AtLeastOnce → 1 ≤ handed n w.reads

-- what was read stays read: more comes behind it alone
abbrev pub Grows : List Handed → List Handed → Type 0
Grows [] later = ⊤
Grows (h ∷ hs) [] = ⊥
Grows (h ∷ hs) (k ∷ ks) = (k ≡ h) × Grows hs ks

abbrev pub Grow : World → World → Type 0
Grow w later = Grows w.ledger later.ledger × Grows w.reads later.reads

-- from the PUBREC on that was taken a copy stands in the ledger once and for good, also when its session ends (4.3.3)
abbrev pub ReleasedForGood : World → World → Type 0
ReleasedForGood w later =
    (n i order : ℕ) (e : Entry) (m : TopicAndPayload) →
    slice_get w.copies n ≡ Some (standing e m) → e.phase ≡ Released i order → handed n later.ledger ≡ 1

-- a CONNECT is alone under way, on the receiver's line and on the one that it gave up last (3.1)
abbrev pub ConnectsAlone : World → Type 0
ConnectsAlone w = IsConnectAlone w.up × IsConnectAlone w.old

-- what is under way on the receiver's line is nothing, or begins with CONNECT, or the session is connected there. So it
-- is with what stays under way when the receiver gives its line up
abbrev pub Heard : World → Type 0
Heard w = IsHeard w.linked w.up

-- each copy goes on as it may
abbrev pub GoOn : World → World → Type 0
GoOn w later = (n : ℕ) → GoesOn (slice_get w.copies n) (slice_get later.copies n)
