-- The line of each event of a script (ours).
use Rattle.std.specs.Prelude.{◌≡◌, ◌==◌, ℕ, Bool, true, false, List, [], ◌∷◌, codes}
use Rattle.std.specs.Str.{IsAscii}
use Rattle.mqtt_script.specs.declared.event.Asking.{Asking}
use Rattle.mqtt_script.specs.declared.event.Asking.TheVariants as asking
use Rattle.mqtt_script.specs.declared.event.Event.{Event}
use Rattle.mqtt_script.specs.declared.event.Event.TheVariants.{Publisher, Receiver, Connect, GiveUp, Publish, Subscribe, ToBroker, ToEnd, Break, Pump, Clock, Tick, Restart, StopBefore, StopAfter, Stranger, Drain}
use Rattle.mqtt_script.specs.Words.{words_of, IsName, IsNumber, flag_word, qos_word, handling_word, IsHex, IsPayload, IsWindow, AreAliases, IsIdentifier}

-- ---- the first word

abbrev pub asking_word : Asking → List ℕ
asking_word (asking.ToBroker client old) = codes "tobroker"
asking_word (asking.Break client) = codes "break"
asking_word (asking.Pump client) = codes "pump"
asking_word asking.Tick = codes "tick"
asking_word (asking.Stranger name bytes) = codes "stranger"

abbrev pub first_word : Event → List ℕ
first_word (Publisher client) = codes "publisher"
first_word (Receiver client window aliases) = codes "receiver"
first_word (Connect client clean_start) = codes "connect"
first_word (GiveUp client) = codes "giveup"
first_word (Publish client draft) = codes "publish"
first_word (Subscribe client wish) = codes "subscribe"
first_word (ToBroker client old) = codes "tobroker"
first_word (ToEnd client) = codes "toend"
first_word (Break client) = codes "break"
first_word (Pump client) = codes "pump"
first_word (Clock wait) = codes "clock"
first_word Tick = codes "tick"
first_word Restart = codes "restart"
first_word (StopBefore a) = codes "stopbefore"
first_word (StopAfter a) = codes "stopafter"
first_word (Stranger name bytes) = codes "stranger"
first_word (Drain client) = codes "drain"

-- ---- the words behind it

-- one name
abbrev pub IsOneName : List ℕ → List (List ℕ) → Type 0
IsOneName client words = (words ≡ client ∷ []) × IsName client

-- one name, and `old` if the line given up is meant
abbrev pub IsLineName : List ℕ → Bool → List (List ℕ) → Type 0
IsLineName client false words = (words ≡ client ∷ []) × IsName client
IsLineName client true words = (words ≡ client ∷ codes "old" ∷ []) × IsName client

-- a stranger's name, and bytes
abbrev pub AreBytesOf : List ℕ → List ℕ → List (List ℕ) → Type 0
AreBytesOf name bytes words = (hex : List ℕ) × (words ≡ name ∷ hex ∷ []) × IsName name × IsHex bytes hex

abbrev pub AskingFollows : Asking → List (List ℕ) → Type 0
AskingFollows (asking.ToBroker client old) words = IsLineName client old words
AskingFollows (asking.Break client) words = IsOneName client words
AskingFollows (asking.Pump client) words = IsOneName client words
AskingFollows asking.Tick words = words ≡ []
AskingFollows (asking.Stranger name bytes) words = AreBytesOf name bytes words

-- the first word of what is asked for, and those behind it
abbrev pub IsAsking : Asking → List (List ℕ) → Type 0
IsAsking a words = (more : List (List ℕ)) × (words ≡ asking_word a ∷ more) × AskingFollows a more

abbrev pub Follows : Event → List (List ℕ) → Type 0
Follows (Publisher client) words = IsOneName client words
Follows (Receiver client window aliases) words =
    (max : List ℕ) × (more : List (List ℕ)) × (words ≡ client ∷ max ∷ more) × IsName client × IsWindow window max
    × AreAliases aliases more
Follows (Connect client clean_start) words = (words ≡ client ∷ flag_word clean_start ∷ []) × IsName client
Follows (GiveUp client) words = IsOneName client words
Follows (Publish client draft) words =
    let c = draft.content in (hex : List ℕ)
    × (words ≡ client ∷ qos_word draft.qos ∷ flag_word c.retain ∷ c.topic ∷ hex ∷ [])
    × IsName client × IsName c.topic × IsPayload c.payload hex
Follows (Subscribe client wish) words =
    let o = wish.options in (identifier : List ℕ)
    × (words ≡ client ∷ qos_word o.qos ∷ flag_word o.no_local ∷ flag_word o.retain_as_published
    ∷ handling_word o.retain_handling ∷ identifier ∷ wish.filter ∷ [])
    × IsName client × IsName wish.filter × IsIdentifier wish.identifier identifier
Follows (ToBroker client old) words = IsLineName client old words
Follows (ToEnd client) words = IsOneName client words
Follows (Break client) words = IsOneName client words
Follows (Pump client) words = IsOneName client words
Follows (Clock wait) words = (number : List ℕ) × (words ≡ number ∷ []) × IsNumber wait number
Follows Tick words = words ≡ []
Follows Restart words = words ≡ []
Follows (StopBefore a) words = IsAsking a words
Follows (StopAfter a) words = IsAsking a words
Follows (Stranger name bytes) words = AreBytesOf name bytes words
Follows (Drain client) words = IsOneName client words

-- ---- the line

-- an empty line, or one that begins with # (0x23), says nothing
abbrev pub is_passed_over : List ℕ → Bool
is_passed_over [] = true
is_passed_over (byte ∷ line) = byte == 0x23

-- the line is ASCII, and its words are the event's first word and those that follow it
pub record IsLineOf (e : Event) (line : List ℕ) : Type 0 where
  pub ascii : IsAscii line
  pub more : List (List ℕ)
  pub first : words_of line ≡ first_word e ∷ more
  pub follows : Follows e more

-- the line is that of no event
abbrev pub IsNoLine : List ℕ → Type 0
IsNoLine line = (e : Event) → ¬ (IsLineOf e line)
