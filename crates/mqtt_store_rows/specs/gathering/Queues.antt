-- Queues of sessions that are gathered row by row (4.1, 4.3).
use Rattle.std.proofs.Common.{refl, ◌∙◌}
use Rattle.std.specs.Prelude.{◌≡◌, Bool, true, false, List, [], ◌∷◌, ◌++◌, map, Option, Some, None}
use Rattle.std.specs.List.{AllByRecursion}
use Rattle.sqlite_value.specs.Order.{Row}
use Rattle.mqtt_records.specs.messages.Queue.{CopyRow}
use Rattle.mqtt_records.specs.declared.messages.message.RetainedMessage.{RetainedMessage}
use Rattle.mqtt_records.specs.state.Contents.{retained_message}
use Rattle.mqtt_records.specs.declared.state.records.Records.{Records}
use Rattle.mqtt_records.specs.declared.state.session.Session.{Session}
use Rattle.mqtt_records.specs.state.Session.{with_all_slim}
use Rattle.mqtt_records.specs.state.Slim.{all_slim}
use Rattle.mqtt_keep.specs.lawful.Lawful.{IsLawful, IsLawfulSession}
use Rattle.mqtt_store_rows.specs.values.Lists.{TakesAll}
use Rattle.mqtt_store_rows.specs.rows.Joins.{Stands, SaysCopy}
use Rattle.mqtt_store_rows.specs.rows.Gives.{without_queue, AreQueues, IsReferred}
use Rattle.mqtt_store_rows.specs.declared.gathering.reading.Reading.{Reading}
use Rattle.mqtt_store_rows.specs.gathering.Alone.{last_in}

-- ---- the queue of one session

abbrev pub with_copies : List CopyRow → Session → Session
with_copies queue s = record s { queue = queue }

-- the rows in front are those of its queue, and with that it is lawful
pub record IsQueueOf (r : Reading) (s : Session) (rest : List Row) (queue : List CopyRow) : Type 0 where
  pub takes : TakesAll (SaysCopy r.messages) s.birth queue r.part.items rest
  pub lawful : IsLawfulSession (last_in r.numbers) (with_copies queue s)

-- the queue of the first bare session was read, and it stands, slim, behind those whose queues were read before
pub record HasReadNext (old new : Reading) : Type 0 where
  pub session : Session
  pub queue : List CopyRow
  pub bare : old.bare ≡ session ∷ new.bare
  pub read : IsQueueOf old session new.part.items queue
  pub all : new.all ≡ old.all ++ with_all_slim (with_copies queue session) ∷ []

-- the first bare session has no queue there with which it is lawful
abbrev pub HasNoQueue : Reading → Type 0
HasNoQueue r = (s : Session) (others : List Session) (rest : List Row) (queue : List CopyRow) → r.bare ≡ s ∷ others → IsQueueOf r s rest queue → ⊥

-- messages and numbers stay, and so do the sessions but for their queues
pub record IsSameButQueues (old new : Reading) : Type 0 where
  pub messages : new.messages ≡ old.messages
  pub numbers : new.numbers ≡ old.numbers
  pub sessions : map without_queue (new.all ++ new.bare) ≡ map without_queue (old.all ++ old.bare)

-- ---- those of all sessions

-- rows say the queues of these sessions, which are lawful, and but for their queues those that are known
pub record SayQueues (r : Reading) (rows : List Row) (ss : List Session) : Type 0 where
  pub are : AreQueues r.messages rows ss
  pub same : map without_queue ss ≡ map without_queue (r.all ++ r.bare)
  pub lawful : AllByRecursion (IsLawfulSession (last_in r.numbers)) ss

-- rows say the queues of lawful sessions that are, but for these, the bare ones
pub record AreLeft (r : Reading) (rows : List Row) : Type 0 where
  pub those : List Session
  pub are : AreQueues r.messages rows those
  pub same : map without_queue those ≡ map without_queue r.bare
  pub lawful : AllByRecursion (IsLawfulSession (last_in r.numbers)) those

-- if these rows follow, the rows say the queues of these sessions and those that are left
pub record AreRead (r : Reading) (whole : List Session) (rows rest : List Row) : Type 0 where
  pub sound : (ss : List Session) → AreQueues r.messages (r.part.items ++ rest) ss → AreQueues r.messages (rows ++ rest) (whole ++ ss)
  pub complete : (ss : List Session) → SayQueues r (rows ++ rest) ss → AreLeft r (r.part.items ++ rest)

-- some sessions are lawful, and of them slim rows are kept; whatever follows that may, the rows say their queues
pub record AreGathered (r : Reading) (rows : List Row) (MayFollow : List Row → Type 0) : Type 0 where
  pub whole : List Session
  pub slim : r.all ≡ map with_all_slim whole
  pub lawful : AllByRecursion (IsLawfulSession (last_in r.numbers)) whole
  pub read : (rest : List Row) → MayFollow rest → AreRead r whole rows rest

-- this row comes next; none comes, if there is none
abbrev pub BeginsWith : Option Row → List Row → Type 0
BeginsWith None rest = rest ≡ []
BeginsWith (Some row) rest = (tail : List Row) × (rest ≡ row ∷ tail)

-- rows say no queues of sessions that are lawful and known, whatever follows that may
abbrev pub SayNone : Reading → List Row → (List Row → Type 0) → Type 0
SayNone r rows MayFollow = (rest : List Row) → MayFollow rest → (ss : List Session) → SayQueues r (rows ++ rest) ss → ⊥

abbrev pub Any : List Row → Type 0
Any rest = Unit {0}

abbrev pub IsEnd : List Row → Type 0
IsEnd rest = rest ≡ []

-- all queues are read: the rows say those of these sessions, which are lawful, and of which slim rows are kept
pub record AreWhole (r : Reading) (rows : List Row) : Type 0 where
  pub whole : List Session
  pub slim : r.all ≡ map with_all_slim whole
  pub says : SayQueues r rows whole

-- ---- with what else is known

-- the records without queues, what was read of queues, and whether rows were found that say none
pub record Queues : Type 0 where
  pub heads : Records
  pub reading : Reading
  pub is_corrupt : Bool

abbrev pub heads_in : Reading → List RetainedMessage → Records
heads_in r retained = record {
  births = r.numbers.births;
  publications = r.numbers.publications;
  subscribes = r.numbers.subscribes;
  autos = r.numbers.autos;
  moment = r.numbers.moment;
  sessions = map without_queue (r.all ++ r.bare);
  retained = retained;
}

-- the second has the same records without queues, and the same messages
pub record GoesOn (a b : Queues) : Type 0 where
  pub heads : b.heads ≡ a.heads
  pub messages : b.reading.messages ≡ a.reading.messages

-- nothing has changed
pub stays : (g : Queues) → GoesOn g g
stays g = record { heads = refl; messages = refl }

-- nothing has changed between, and nothing before
pub on_and_on : (a b c : Queues) → GoesOn a b → GoesOn b c → GoesOn a c
on_and_on a b c h k = record { heads = k.heads ∙ h.heads; messages = k.messages ∙ h.messages }

-- what was gathered of these rows of `queued`
pub record HasTakenQueues (g : Queues) (rows : List Row) : Type 0 where
  pub lawful : IsLawful g.heads
  pub stand : AllByRecursion (λ kept. Stands g.reading.messages (retained_message kept)) g.heads.retained
  pub read : g.is_corrupt ≡ false → AreGathered g.reading rows Any
  pub none : g.is_corrupt ≡ true → SayNone g.reading rows Any

-- ---- all records

-- the records with these queues, which are lawful; something refers to each message
pub record HaveQueues (g : Queues) (rows : List Row) (r : Records) : Type 0 where
  pub heads : r ≡ record g.heads { sessions = r.sessions }
  pub same : map without_queue r.sessions ≡ g.heads.sessions
  pub queues : AreQueues g.reading.messages rows r.sessions
  pub lawful : IsLawful r
  pub referred : AllByRecursion (IsReferred r) g.reading.messages

-- slim rows of those
pub record AreSlimOf (g : Queues) (rows : List Row) (slim : Records) : Type 0 where
  pub whole : Records
  pub slim_is : slim ≡ all_slim whole
  pub have : HaveQueues g rows whole
