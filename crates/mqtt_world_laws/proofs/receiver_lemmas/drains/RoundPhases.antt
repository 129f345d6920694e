-- The phases of a round: the receiver reads all, and the session reads all that it answers.
use Rattle.std.proofs.Common.{◌≡◌, ◌⊎◌, inl, inr, ℕ, zero, suc, Bool, true, false, List, [], ◌∷◌, length, map, refl, sym, ap, ◌∙◌, subst, arith, Option, Some, None, Ok, Err, ⊎_elim, ◌≤◌}
use Rattle.mqtt_base.specs.Codes.{success}
use Rattle.mqtt_flow.specs.inbound.Identifiers.{is_among}
use Rattle.mqtt_flow.specs.inbound.Line.{Link, away, asked, live, sent_on}
use Rattle.mqtt_flow.specs.outbound.Outbound as rules
use Rattle.mqtt_flow.specs.outbound.OutboundWorld.{World, to_broker, to_end, packets, told, take_turn, take_turns, cut, lot_after, lots_after, renewed, queue_of, connects, replied, settles, up_comes, step, run}
use Rattle.mqtt_flow.specs.outbound.Receiver.{Body, Output, connack, no_connack, publish, pubrel, disconnect, Answer, connect, puback, pubrec, pubcomp, read_publish, read_connack, release_code, down_comes}
use Rattle.mqtt_flow.specs.declared.outbound.entry.Turn.{Turn}
use Rattle.mqtt_world_laws.specs.receiver.Drains.{times}
use Rattle.mqtt_world_laws.specs.receiver.Rounds.{Has, all_left}
use Rattle.mqtt_flow.proofs.outbound_lemmas.outbound.SessionLives.{seen}
use Rattle.mqtt_world_laws.proofs.receiver_lemmas.drains.HopRounds.{none_ends}
use Rattle.mqtt_world_laws.proofs.receiver_lemmas.queue.UnderWay.{Open, has_right, is_parting}
use Rattle.mqtt_world_laws.proofs.receiver_lemmas.drains.Further.{Onto, Reached, an_answer_further, goes_on, no_more_left, reached_on}

-- ---- what a round leaves as it is

-- what is told leaves the copies
pub told_copies : (ps : List Output) (w : World) → (told ps w).copies ≡ w.copies
told_copies [] w = refl
told_copies (p ∷ ps) w = refl

-- and the line
pub told_linked : (ps : List Output) (w : World) → (told ps w).linked ≡ w.linked
told_linked [] w = refl
told_linked (p ∷ ps) w = refl

-- mapping a list keeps the count
pub length_map : {X Y : Type 0} (f : X → Y) (xs : List X) → length (map f xs) ≡ length xs
length_map f [] = refl
length_map f (x ∷ xs) = let r = length_map f xs in omega arith

-- a turn does to the copies what it does to each
pub turn_copies : (t : Turn) (w : World) → (take_turn t w).copies ≡ lots_after t w.copies
turn_copies t w = told_copies (packets t w.copies) (record w { copies = lots_after t w.copies })

turn_length : (t : Turn) (w : World) → length (take_turn t w).copies ≡ length w.copies
turn_length t w = ap length (turn_copies t w) ∙ length_map (lot_after t) w.copies

-- turns keep the count of copies
pub turns_length : (ts : List Turn) (w : World) → length (take_turns ts w).copies ≡ length w.copies
turns_length [] w = refl
turns_length (t ∷ ts) w = turns_length ts (take_turn t w) ∙ turn_length t w

-- and the line
pub turns_linked : (ts : List Turn) (w : World) → (take_turns ts w).linked ≡ w.linked
turns_linked [] w = refl
turns_linked (t ∷ ts) w = turns_linked ts (take_turn t w) ∙ told_linked (packets t w.copies) (record w { copies = lots_after t w.copies })

-- the receiver's reading leaves the copies
pub reads_copies : (ps : List Output) (w : World) → (down_comes ps w).copies ≡ w.copies
reads_copies [] w = refl
reads_copies (connack p ∷ rest) w = go w.link
  where
    go : (l : Link) → (read_connack l p rest w).copies ≡ w.copies
    go away = refl
    go asked = refl
    go live = refl
reads_copies (no_connack ∷ rest) w = refl
reads_copies (disconnect ∷ rest) w = refl
reads_copies (pubrel i code ∷ rest) w = refl
reads_copies (publish i n dup b ∷ rest) w = go b.twice
  where
    go : (t : Bool) → (read_publish t i n b rest w).copies ≡ w.copies
    go true = refl
    go false = refl

-- so does all of it
pub ends_copies : (largest k : ℕ) (w : World) → (run largest (times k to_end) w).copies ≡ w.copies
ends_copies largest zero w = refl
ends_copies largest (suc k) w = ends_copies largest k (down_comes w.down w) ∙ reads_copies w.down w

connects_length : (s c r : Bool) (rest : List Answer) (w : World) → length (connects s c r rest w).copies ≡ length w.copies
connects_length false c true rest w = refl
connects_length false c false rest w = length_map cut w.copies
connects_length true true r rest w = length_map cut w.copies
connects_length true false r rest w = length_map renewed w.copies

settles_length : (t : Option Turn) (w : World) → length (settles t w).copies ≡ length w.copies
settles_length None w = refl
settles_length (Some t) w = turn_length t w

replied_length : (a : rules.Answer) (rest : List Answer) (w : World) → length (replied a rest w).copies ≡ length w.copies
replied_length (Err fault) rest w = refl
replied_length (Ok t) rest w = settles_length t (record w { up = rest })

up_length : (r : Bool) (up : List Answer) (w : World) → length (up_comes r up w).copies ≡ length w.copies
up_length r [] w = refl
up_length r (connect c ∷ rest) w = connects_length w.stands c r rest w
up_length r (puback i code ∷ rest) w = replied_length (rules.puback i code (queue_of w.copies)) rest w
up_length r (pubrec i code ∷ rest) w = replied_length (rules.pubrec i code (queue_of w.copies)) rest w
up_length r (pubcomp i code ∷ rest) w = replied_length (rules.pubcomp i (queue_of w.copies)) rest w

-- the broker's reading keeps their count
pub brokers_length : (largest k : ℕ) (w : World) → length (run largest (times k (to_broker false)) w).copies ≡ length w.copies
brokers_length largest zero w = refl
brokers_length largest (suc k) w = brokers_length largest k (up_comes false w.up w) ∙ up_length false w.up w

-- ---- the receiver reads all: what was under way to it is under way back

abbrev pub any : Answer → Bool
any a = true

abbrev pub is_packet : Output → Bool
is_packet (connack p) = false
is_packet no_connack = false
is_packet (publish i n dup b) = true
is_packet (pubrel i code) = true
is_packet disconnect = false

abbrev pub Busy : World → Type 0
Busy w = Has is_packet w.down ⊎ Has any w.up

more_up : (b : Bool) (up : List Answer) (a : Answer) → b ≡ true → Has any (sent_on b up (a ∷ []))
more_up true up a h = has_right any up (a ∷ []) (inl refl)
more_up false up a h = absurd (cc)

skipped : (p : Output) (rest : List Output) (up : List Answer) → is_packet p ≡ false → Has is_packet (p ∷ rest) ⊎ Has any up → Has is_packet rest ⊎ Has any up
skipped p rest up e (inl (inl h)) = absurd (cc)
skipped p rest up e (inl (inr h)) = inl h
skipped p rest up e (inr h) = inr h

-- by what was under way to it and back before
abbrev Comes : ℕ → List Output → List Answer → World → Type 0
Comes largest d up v = (v.linked ≡ true) × (Has is_packet d ⊎ Has any up → Has any v.up)

abbrev Walks : ℕ → List Output → Type 0
Walks largest rest = (v : World) → v.down ≡ rest → v.linked ≡ true → (Has is_parting rest → ⊥) → Comes largest rest v.up (run largest (times (length rest) to_end) v)

connack_back : (largest : ℕ) (l : Link) (p : Bool) (rest : List Output) (w : World) → w.linked ≡ true → (Has is_parting rest → ⊥) → Walks largest rest → Comes largest rest w.up (run largest (times (length rest) to_end) (read_connack l p rest w))
connack_back largest away p rest w h x later = later (read_connack away p rest w) refl h x
connack_back largest asked p rest w h x later = later (read_connack asked p rest w) refl h x
connack_back largest live p rest w h x later = later (read_connack live p rest w) refl h x

abbrev Answers : ℕ → List Output → World → Type 0
Answers largest d v = (v.linked ≡ true) × Has any v.up

publish_back : (largest : ℕ) (t : Bool) (i n : ℕ) (b : Body) (rest : List Output) (w : World) → w.linked ≡ true → (Has is_parting rest → ⊥) → Walks largest rest → Answers largest rest (run largest (times (length rest) to_end) (read_publish t i n b rest w))
publish_back largest true i n b rest w h x later = let y = later (read_publish true i n b rest w) refl h x in (y.0, y.1 (inr (more_up w.linked w.up (pubrec i success) h)))
publish_back largest false i n b rest w h x later = let y = later (read_publish false i n b rest w) refl h x in (y.0, y.1 (inr (more_up w.linked w.up (puback i success) h)))

ends_walk : (largest : ℕ) (d : List Output) (w : World) → w.down ≡ d → w.linked ≡ true → (Has is_parting d → ⊥) → Comes largest d w.up (run largest (times (length d) to_end) w)
ends_walk largest [] w q h n = (h, ⊎_elim (λ x. absurd x) (λ x. x))
ends_walk largest (connack p ∷ rest) w q h n =
    let y = connack_back largest w.link p rest w h (λ x. n (inr x)) (ends_walk largest rest) in
    subst (λ ps. Comes largest (connack p ∷ rest) w.up (run largest (times (length rest) to_end) (down_comes ps w))) (sym q)
    (y.0, λ b. y.1 (skipped (connack p) rest w.up refl b))
ends_walk largest (no_connack ∷ rest) w q h n = absurd (n (inl refl))
ends_walk largest (disconnect ∷ rest) w q h n = absurd (n (inl refl))
ends_walk largest (pubrel i code ∷ rest) w q h n =
    let y = ends_walk largest rest (down_comes (pubrel i code ∷ rest) w) refl h (λ x. n (inr x)) in
    subst (λ ps. Comes largest (pubrel i code ∷ rest) w.up (run largest (times (length rest) to_end) (down_comes ps w))) (sym q)
    (y.0, λ b. y.1 (inr (more_up w.linked w.up (pubcomp i (release_code (is_among i w.kept))) h)))
ends_walk largest (publish i n dup b ∷ rest) w q h none =
    let y = publish_back largest b.twice i n b rest w h (λ x. none (inr x)) (ends_walk largest rest) in
    subst (λ ps. Comes largest (publish i n dup b ∷ rest) w.up (run largest (times (length rest) to_end) (down_comes ps w))) (sym q)
    (y.0, λ z. y.1)

-- behind the receiver's reading its answers are under way
pub ends_back : (largest : ℕ) (w : World) → Reached largest w → w.linked ≡ true → ((run largest (times (length w.down) to_end) w).linked ≡ true) × (Busy w → Has any (run largest (times (length w.down) to_end) w).up)
ends_back largest w r h = ends_walk largest w.down w refl h (subst (λ v. Open (seen v)) r.1 (none_ends largest r.0) h)

-- ---- the session reads all that is under way back

-- an answer leaves the line
pub up_linked : (largest : ℕ) (up : List Answer) (w : World) → w.up ≡ up → Reached largest w → w.linked ≡ true → (step largest w (to_broker false)).linked ≡ true
up_linked largest [] w u r h = subst (λ us. (up_comes false us w).linked ≡ true) (sym u) h
up_linked largest (a ∷ rest) w u r h = (an_answer_further largest w r h (subst (Has any) (sym u) (inl refl))).0

brokers_linked : (largest k : ℕ) (w : World) → Reached largest w → w.linked ≡ true → (run largest (times k (to_broker false)) w).linked ≡ true
brokers_linked largest zero w r h = h
brokers_linked largest (suc k) w r h =
    brokers_linked largest k (step largest w (to_broker false)) (reached_on largest w r (to_broker false ∷ [])) (up_linked largest w.up w refl r h)

-- so do all
pub brokers_keep : (largest : ℕ) (w : World) → Reached largest w → w.linked ≡ true → (run largest (times (length w.up) (to_broker false)) w).linked ≡ true
brokers_keep largest w r h = brokers_linked largest (length w.up) w r h

brokers_onto : (largest k : ℕ) (w v : World) → Reached largest v → Onto w v → Onto w (run largest (times k (to_broker false)) v)
brokers_onto largest k w v r f =
    let u = run largest (times k (to_broker false)) v in
    let x : all_left u.copies ≤ all_left v.copies = no_more_left v.copies u.copies (brokers_length largest k v) (goes_on largest v r (times k (to_broker false))) in
    let less = f.1 in
    (brokers_linked largest k v r f.0, omega arith)

brokers_walk : (largest : ℕ) (up : List Answer) (w : World) → w.up ≡ up → Reached largest w → w.linked ≡ true → Has any up → Onto w (run largest (times (length up) (to_broker false)) w)
brokers_walk largest [] w q r h x = absurd x
brokers_walk largest (a ∷ rest) w q r h x =
    brokers_onto largest (length rest) w (step largest w (to_broker false)) (reached_on largest w r (to_broker false ∷ []))
    (an_answer_further largest w r h (subst (Has any) (sym q) x))

-- if something is under way back, this takes a copy further
pub brokers_further : (largest : ℕ) (w : World) → Reached largest w → w.linked ≡ true → Has any w.up → Onto w (run largest (times (length w.up) (to_broker false)) w)
brokers_further largest w r h x = brokers_walk largest w.up w refl r h x
