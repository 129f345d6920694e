-- What is at hand of all queues: what copies say, by the session's birth and the place in its queue (MQTT 5.0, 4.1, 4.6).
use Rattle.std.specs.Prelude.{◌≡◌, ℕ, cond, List, [], ◌∷◌, map, filter_map, nat_eq, Option, Some, None, option_map}
use Rattle.std.specs.BTreeMap.{is_at}
use Rattle.std.specs.Map.{lookup}
use Rattle.std.specs.Ordering.{nat_cmp}
use Rattle.mqtt_flow.specs.ring.AtHand.{ContentsAtHand, content_at, nothing_waits}
use Rattle.mqtt_records.specs.messages.Content.{CopyContent}
use Rattle.mqtt_records.specs.lists.Order.{IsAscending, row_at}
use Rattle.mqtt_records.specs.declared.state.records.Records.{Records}
use Rattle.mqtt_records.specs.state.Session.{copy_place}
use Rattle.mqtt_records.specs.state.Telling.{copy_content, queue_at}

-- births, and what is at hand of these sessions
abbrev pub Hand : Type 0
Hand = List (ℕ × ContentsAtHand CopyContent)

-- nothing, of a session of which nothing was put in; what enters next is put in
abbrev pub or_nothing : Option (ContentsAtHand CopyContent) → ContentsAtHand CopyContent
or_nothing None = nothing_waits
or_nothing (Some a) = a

-- what is at hand of the session with that birth
abbrev pub at_hand_of : ℕ → Hand → ContentsAtHand CopyContent
at_hand_of birth hand = or_nothing (lookup (is_at (nat_cmp birth)) hand)

-- ---- what is stored

-- what the copy says that stands at a place of a session's queue
abbrev pub stored_content : ℕ → ℕ → Records → Option CopyContent
stored_content birth place r = option_map copy_content (row_at copy_place place (queue_at birth r))

-- what the copies at these places of a session's queue say, where one stands
abbrev pub contents_at : ℕ → List ℕ → Records → List CopyContent
contents_at birth places r = filter_map (λ place. stored_content birth place r) places

-- where something is at hand a copy stands in these records, and it says that
abbrev pub SayWhatIsStored : Hand → Records → Type 0
SayWhatIsStored hand r = (birth place : ℕ) (content : CopyContent)
    → content_at place (at_hand_of birth hand) ≡ Some content → stored_content birth place r ≡ Some content

-- the copies in that session's queue stand in the order of their places
abbrev pub IsQueueInOrder : ℕ → Records → Type 0
IsQueueInOrder birth r = IsAscending copy_place (queue_at birth r)

-- ---- contents by their places

abbrev pub place_of : CopyContent → ℕ
place_of content = content.place

abbrev pub by_place : List CopyContent → List (ℕ × CopyContent)
by_place all = map (λ content. (place_of content, content)) all

-- what the first one says, if it is of that place
abbrev pub first_at : ℕ → List CopyContent → Option CopyContent
first_at place [] = None
first_at place (content ∷ rest) = cond (nat_eq content.place place) (Some content) None
