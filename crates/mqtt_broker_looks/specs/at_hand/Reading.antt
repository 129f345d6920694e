-- A store is asked for what copies say: what stays, how often it is asked, and what is at hand then (MQTT 5.0, 4.1).
use Rattle.std.specs.Prelude.{◌≡◌, ◌≢◌, ◌⊎◌, ℕ, zero, suc, ◌+◌, ◌%◌, ◌^◌, ◌≤◌, List, [], ◌∷◌, ⊤, Option, IsSome}
use Rattle.mqtt_flow.specs.ring.AtHand.{content_at}
use Rattle.mqtt_records.specs.messages.Content.{CopyContent}
use Rattle.mqtt_records.specs.declared.state.records.Records.{Records}
use Rattle.mqtt_keep.specs.declared.keeping.keep.Keep.{Ghosts}
use Rattle.mqtt_keep.specs.declared.keeping.keep.KeepError.{KeepError}
use Rattle.mqtt_keep.specs.declared.keeping.keep.KeepError.TheVariants.{Memory, Disk}
use Rattle.mqtt_broker_looks.specs.at_hand.Hand.{Hand, IsQueueInOrder, SayWhatIsStored, at_hand_of, stored_content}

-- ---- how often a store is asked

-- the count after so many more questions, modulo 2^64
abbrev pub asked : ℕ → ℕ → ℕ
asked zero count = count
asked (suc n) count = (asked n count + 1) % 2 ^ 64

-- at most so many questions were asked between the two counts
abbrev pub AskedAtMost : ℕ → ℕ → ℕ → Type 0
AskedAtMost limit before after = (n : ℕ) × (n ≤ limit) × (after ≡ asked n before)

-- what the copy at each of these places says is at hand
abbrev pub AreAtHand : Hand → ℕ → List ℕ → Type 0
AreAtHand hand birth [] = ⊤
AreAtHand hand birth (place ∷ places) = IsSome (content_at place (at_hand_of birth hand)) × AreAtHand hand birth places

-- ---- what stays

module _ {K : Type 0} (g : Ghosts K) where
  -- all questions were answered, at most so many: what the store has stays, and a crash finds nothing else than before, or that
  pub record WasAsked (limit : ℕ) (old new : K) : Type 0 where
    pub same : (r : Records) → g.holds old r → g.holds new r
    pub loaded : g.is_loaded new
    pub crash : (r left : Records) → g.holds old r → g.leaves new left → g.leaves old left ⊎ (left ≡ r)
    pub sound : g.is_sound new → g.is_sound old
    pub uncounted : g.counted new ≡ g.counted old
    pub reads : AskedAtMost limit (g.read_so_far old) (g.read_so_far new)

  -- the last of at most so many questions failed, or memory was wanting: then the store goes on
  pub record HasFailed (limit : ℕ) (old new : K) (fault : KeepError) : Type 0 where
    pub refused : (fault ≡ Memory) ⊎ (fault ≡ Disk)
    pub memory : (r : Records) → g.holds old r → fault ≡ Memory → g.is_loaded new × g.holds new r
    pub crash : (r left : Records) → g.holds old r → g.leaves new left → g.leaves old left ⊎ (left ≡ r)
    pub sound : g.is_sound new → g.is_sound old
    pub cause : fault ≡ Disk → g.counted new ≢ g.counted old
    pub reads : AskedAtMost limit (g.read_so_far old) (g.read_so_far new)

  -- ---- one copy

  -- what the copy at a place says was found, or that none stands there, by at most one question; what is at hand
  -- stays what is stored
  pub record HasOne (birth place : ℕ) (old : K) (before : Hand) (new : K) (after : Hand) (one : Option CopyContent) : Type 0 where
    pub asked : WasAsked 1 old new
    pub exact : (r : Records) → g.holds old r → IsQueueInOrder birth r → SayWhatIsStored before r → g.is_sound new → one ≡ stored_content birth place r
    pub stored : (r : Records) → g.holds old r → IsQueueInOrder birth r → SayWhatIsStored before r → g.is_sound new → SayWhatIsStored after r
