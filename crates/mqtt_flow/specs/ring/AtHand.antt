-- What is at hand of the copies of one queue: what consecutive copies say, by their places (MQTT 5.0, 4.1, 4.6).
use Rattle.std.specs.Prelude.{◌≡◌, ℕ, ◌<◌, ⊤, Bool, true, false, cond, not, ◌&&◌, List, [], ◌∷◌, ◌++◌, length, filter, map, nat_eq, nat_lt, Option, Some, None}
use Rattle.circular_buffer.specs.Buffer.{Buffer}
use Rattle.mqtt_flow.specs.declared.ring.at_hand.TheConstants.{AT_HAND_LIMIT}

-- places and contents; and whether no copy waits behind them
pub record ContentsAtHand (X : Type 0) : Type 0 where
  pub entries : List (ℕ × X)
  pub reaches_end : Bool

module _ {X : Type 0} where
  -- each place is above n
  abbrev pub AreAbove : ℕ → List (ℕ × X) → Type 0
  AreAbove n [] = ⊤
  AreAbove n (e ∷ es) = (n < e.0) × AreAbove n es

  -- the places ascend
  abbrev pub Ascend : List (ℕ × X) → Type 0
  Ascend [] = ⊤
  Ascend (e ∷ es) = AreAbove e.0 es × Ascend es

  -- each place is below this one
  abbrev pub are_below : ℕ → List (ℕ × X) → Bool
  are_below place [] = true
  are_below place (e ∷ es) = nat_lt e.0 place && are_below place es

  -- what stands at a place
  abbrev pub content_in : ℕ → List (ℕ × X) → Option X
  content_in place [] = None
  content_in place (e ∷ es) = cond (nat_eq e.0 place) (Some e.1) (content_in place es)

  abbrev pub is_elsewhere : ℕ → ℕ × X → Bool
  is_elsewhere place e = not (nat_eq e.0 place)

  -- all but what stands at a place
  abbrev pub without : ℕ → List (ℕ × X) → List (ℕ × X)
  without place es = filter (is_elsewhere place) es

  -- ---- what is at hand

  -- of a queue in which nothing waits
  abbrev pub nothing_waits : ContentsAtHand X
  nothing_waits = record { entries = []; reaches_end = true }

  -- of a queue in which copies may wait
  abbrev pub nothing_at_hand : ContentsAtHand X
  nothing_at_hand = record { entries = []; reaches_end = false }

  -- what the copy at a place says, if that is at hand
  abbrev pub content_at : ℕ → ContentsAtHand X → Option X
  content_at place a = content_in place a.entries

  -- there is room behind the last one for a copy at a higher place
  abbrev pub has_room : ℕ → List (ℕ × X) → Bool
  has_room place es = nat_lt (length es) AT_HAND_LIMIT && are_below place es

  -- what is at hand once a copy has entered the queue at its end: that too, if there is room and no copy waits between
  abbrev pub entered : ℕ → X → ContentsAtHand X → ContentsAtHand X
  entered place content a =
      cond (a.reaches_end && has_room place a.entries)
      (record { entries = a.entries ++ (place, content) ∷ []; reaches_end = true })
      (record { entries = a.entries; reaches_end = false })

  -- what is at hand once the copy at a place has left the queue
  abbrev pub left : ℕ → ContentsAtHand X → ContentsAtHand X
  left place a = record { entries = without place a.entries; reaches_end = a.reaches_end }

  -- ---- a ring that takes no memory before something is put in

  abbrev pub entries_of : Option (Buffer (ℕ × X)) → List (ℕ × X)
  entries_of None = []
  entries_of (Some ring) = ring.items

  -- a ring that was made has so many places
  abbrev pub IsMade : Option (Buffer (ℕ × X)) → Type 0
  IsMade None = ⊤
  IsMade (Some ring) = ring.capacity ≡ AT_HAND_LIMIT

  -- ---- what a store tells

  -- each that is at hand says what is told of its place
  abbrev pub SayWhatIsTold : (ℕ → X) → List (ℕ × X) → Type 0
  SayWhatIsTold told [] = ⊤
  SayWhatIsTold told (e ∷ es) = (e.1 ≡ told e.0) × SayWhatIsTold told es

  -- ---- the queue

  abbrev pub places : List (ℕ × X) → List ℕ
  places es = map (λ e. e.0) es

  -- a stretch of the queue's places is at hand, and to the end if that is reached
  pub record IsStretch (queue : List ℕ) (a : ContentsAtHand X) : Type 0 where
    pub front : List ℕ
    pub back : List ℕ
    pub joined : queue ≡ front ++ (places a.entries ++ back)
    pub ends : a.reaches_end ≡ true → back ≡ []

-- the queue without the copy at a place
abbrev pub queue_without : ℕ → List ℕ → List ℕ
queue_without place queue = filter (λ p. not (nat_eq p place)) queue
