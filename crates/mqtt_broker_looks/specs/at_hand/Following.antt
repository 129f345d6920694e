-- How what is at hand goes along with changes of records (MQTT 5.0, 4.1, 4.6).
use Rattle.std.specs.Prelude.{◌≡◌, ◌⊎◌, ℕ, cond, List, [], ◌∷◌, nat_eq, Option, Some, None}
use Rattle.mqtt_flow.specs.ring.AtHand.{ContentsAtHand, entered, left, nothing_waits}
use Rattle.mqtt_records.specs.messages.Content.{CopyContent}
use Rattle.mqtt_records.specs.messages.Queue.{CopyRow}
use Rattle.mqtt_records.specs.declared.state.change.Change.{Change}
use Rattle.mqtt_records.specs.declared.state.change.Change.TheVariants.{SetCounter, PutSession, SetSession, RemoveSession, PutWill, RemoveWill, PutSubscription, RemoveSubscription, PutInbound, RemoveInbound, PutCopy, SetCopy, RemoveCopy, PutRetained, RemoveRetained}
use Rattle.mqtt_records.specs.state.Telling.{copy_content}

-- the copy that is put takes the place of one that stood there, and is at hand if it may be
abbrev pub copy_put : CopyRow → ContentsAtHand CopyContent → ContentsAtHand CopyContent
copy_put row a = entered row.place (copy_content row) (left row.place a)

-- what a change makes of what is at hand of the session with that birth; a phase is no part of it
abbrev pub followed : ℕ → Change → ContentsAtHand CopyContent → ContentsAtHand CopyContent
followed birth (SetCounter counter value) a = a
followed birth (PutSession row) a = a
followed birth (SetSession row) a = a
followed birth (RemoveSession owner) a = cond (nat_eq owner birth) nothing_waits a
followed birth (PutWill owner will) a = a
followed birth (RemoveWill owner) a = a
followed birth (PutSubscription owner subscription) a = a
followed birth (RemoveSubscription owner text) a = a
followed birth (PutInbound owner identifier) a = a
followed birth (RemoveInbound owner identifier) a = a
followed birth (PutCopy owner row) a = cond (nat_eq owner birth) (copy_put row a) a
followed birth (SetCopy owner place phase) a = a
followed birth (RemoveCopy owner place) a = cond (nat_eq owner birth) (left place a) a
followed birth (PutRetained kept) a = a
followed birth (RemoveRetained place) a = a

-- one after the other
abbrev pub followed_all : ℕ → List Change → ContentsAtHand CopyContent → ContentsAtHand CopyContent
followed_all birth [] a = a
followed_all birth (change ∷ changes) a = followed_all birth changes (followed birth change a)

-- the session that a copy is put into
abbrev pub receiver_of : Change → Option ℕ
receiver_of (SetCounter counter value) = None
receiver_of (PutSession row) = None
receiver_of (SetSession row) = None
receiver_of (RemoveSession owner) = None
receiver_of (PutWill owner will) = None
receiver_of (RemoveWill owner) = None
receiver_of (PutSubscription owner subscription) = None
receiver_of (RemoveSubscription owner text) = None
receiver_of (PutInbound owner identifier) = None
receiver_of (RemoveInbound owner identifier) = None
receiver_of (PutCopy owner row) = Some owner
receiver_of (SetCopy owner place phase) = None
receiver_of (RemoveCopy owner place) = None
receiver_of (PutRetained kept) = None
receiver_of (RemoveRetained place) = None

-- what was at hand of a session has gone along; or nothing is at hand any more, where a copy was put into its queue
abbrev pub HasFollowed : ℕ → Change → ContentsAtHand CopyContent → ContentsAtHand CopyContent → Type 0
HasFollowed birth change a b = (b ≡ followed birth change a) ⊎ ((receiver_of change ≡ Some birth) × (b ≡ nothing_waits))

-- with each change
abbrev pub HasFollowedAll : ℕ → List Change → ContentsAtHand CopyContent → ContentsAtHand CopyContent → Type 0
HasFollowedAll birth [] a b = b ≡ a
HasFollowedAll birth (change ∷ changes) a b =
    (between : ContentsAtHand CopyContent) × HasFollowed birth change a between × HasFollowedAll birth changes between b
