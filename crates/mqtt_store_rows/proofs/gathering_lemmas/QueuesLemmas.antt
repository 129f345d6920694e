-- All queues, and the records that they are of.
use Rattle.std.proofs.Common.{◌≡◌, ◌≢◌, ℕ, Bool, true, false, true≢false, List, [], ◌∷◌, ◌++◌, append-nil, map, Some, Global, IsTrue, Result, Ok, Err, IfOk, refl, sym, ap, subst, ◌∙◌, inl, inr}
use Rattle.std.specs.Prelude.{flat_map}
use Rattle.std.specs.List.{AllByRecursion}
use Rattle.std.specs.declared.collections.VecDeque.{VecDeque}
use Rattle.sqlite_value.specs.Order.{Row}
use Rattle.sqlite.specs.declared.rows.Row.{Row as SqlRow}
use Rattle.mqtt_base.specs.declared.limits.TheConstants.{SESSION_LIMIT}
use Rattle.mqtt_records.specs.messages.Queue.{CopyRow}
use Rattle.mqtt_records.specs.messages.Slim.{slim}
use Rattle.mqtt_records.specs.declared.messages.message.RetainedMessage.{RetainedMessage}
use Rattle.mqtt_records.specs.lists.Distinct.{AllDiffer}
use Rattle.mqtt_records.specs.lists.Order.{IsTable, row_at}
use Rattle.mqtt_records.specs.state.Contents.{StoredMessage, copy_message, retained_message, IsMessageOf, SharesContents}
use Rattle.mqtt_records.specs.state.Members.{Has}
use Rattle.mqtt_records.specs.state.Session.{birth_of, place_of, with_all_slim}
use Rattle.mqtt_records.specs.declared.state.records.Records.{Records}
use Rattle.mqtt_records.specs.declared.state.session.Session.{Session}
use Rattle.mqtt_keep.specs.declared.keeping.keep.KeepError.{KeepError}
use Rattle.mqtt_keep.specs.lawful.Lawful.{IsLawful, IsLawfulSession, last_of}
use Rattle.mqtt_store_rows.specs.declared.values.meta.Counters.{Counters}
use Rattle.mqtt_store_rows.specs.values.Gives.{counters_of}
use Rattle.mqtt_store_rows.specs.values.Lists.{AreRows}
use Rattle.mqtt_store_rows.specs.rows.Joins.{publication_of, Stands, SaysRetained}
use Rattle.mqtt_store_rows.specs.rows.Gives.{without_queue, AreQueues, copy_number, queue_numbers, kept_number, numbers_in, is_among, IsReferred}
use Rattle.mqtt_store_rows.proofs.rows_lemmas.QueueLemmas.{same_table, without_twice, one_queues}
use Rattle.mqtt_store_rows.specs.declared.gathering.reading.Reading.{Reading}
use Rattle.mqtt_store_rows.specs.gathering.Queues.{Queues, heads_in, IsSameButQueues, SayQueues, AreGathered, AreWhole, BeginsWith, SayNone, Any, IsEnd, HasTakenQueues, HaveQueues, AreSlimOf}
use Rattle.mqtt_store_rows.proofs.gathering_lemmas.AloneLemmas.{queue_stands}
use Rattle.mqtt_store_rows.proofs.gathering_lemmas.ReadingLemmas.{none_taken, taken_in, gathered_with, none_with, none_after}

-- ---- records without queues

abbrev heads_with : Counters → List Session → List RetainedMessage → Records
heads_with numbers sessions retained = record {
  births = numbers.births;
  publications = numbers.publications;
  subscribes = numbers.subscribes;
  autos = numbers.autos;
  moment = numbers.moment;
  sessions = sessions;
  retained = retained;
}

-- they are the same, whichever queues are read
pub heads_still : (old new : Reading) (retained : List RetainedMessage) → IsSameButQueues old new → heads_in new retained ≡ heads_in old retained
heads_still old new retained same =
    ap (λ (n : Counters). heads_with n (map without_queue (new.all ++ new.bare)) retained) same.numbers ∙ ap (λ (ss : List Session). heads_with old.numbers ss retained) same.sessions

-- sessions are in order
pub heads_table : (ss : List Session) → IsTable birth_of SESSION_LIMIT (map without_queue ss) → IsTable birth_of SESSION_LIMIT ss
heads_table ss = same_table SESSION_LIMIT ss (map without_queue ss) (sym (without_twice ss))

-- at the begin they are those that the rows give
pub heads_first : (messages : List StoredMessage) (all : List Session) (part : VecDeque SqlRow Global) (h : Records) → all ≡ [] → map without_queue h.sessions ≡ h.sessions
    → heads_in (record { messages = messages; numbers = counters_of h; bare = h.sessions; all = all; part = part }) h.retained ≡ h
heads_first messages all part h none bare = ap (λ (ss : List Session). record h { sessions = ss }) (ap (λ (l : List Session). map without_queue (l ++ h.sessions)) none ∙ bare)

-- retained messages that rows say stand among the messages
pub all_stand : (messages : List StoredMessage) (rows : List Row) (kept : List RetainedMessage) → AreRows (SaysRetained messages) rows kept → AllByRecursion (λ k. Stands messages (retained_message k)) kept
all_stand messages [] [] are = tt
all_stand messages [] (k ∷ kept) are = absurd are
all_stand messages (row ∷ rows) [] are = absurd are
all_stand messages (row ∷ rows) (k ∷ kept) are = (are.0.message, all_stand messages rows kept are.1)

-- no rows of queues were taken in then
pub begun : (messages : List StoredMessage) (all : List Session) (part : VecDeque SqlRow Global) (h : Records) → all ≡ [] → part.items ≡ [] → map without_queue h.sessions ≡ h.sessions → IsLawful h
    → AllByRecursion (λ k. Stands messages (retained_message k)) h.retained
    → HasTakenQueues (record {
      heads = heads_in (record { messages = messages; numbers = counters_of h; bare = h.sessions; all = all; part = part }) h.retained;
      reading = record { messages = messages; numbers = counters_of h; bare = h.sessions; all = all; part = part };
      is_corrupt = false;
    }) []
begun messages all part h none empty bare lawful kept = record {
  lawful = subst IsLawful (sym (heads_first messages all part h none bare)) lawful;
  stand = kept;
  read = λ _. none_taken (record { messages = messages; numbers = counters_of h; bare = h.sessions; all = all; part = part }) none empty;
  none = λ corrupt. absurd (true≢false (sym corrupt));
}

-- ---- sessions with their queues

module _ {Y : Type 0} (f : Session → List Y) (same : (s : Session) → f (without_queue s) ≡ f s) where
  -- what is read beside queues is the same without them
  pub flat_without : (ss : List Session) → flat_map f (map without_queue ss) ≡ flat_map f ss
  flat_without [] = refl
  flat_without (s ∷ ss) = ap (λ (l : List Y). l ++ flat_map f (map without_queue ss)) (same s) ∙ ap (λ (l : List Y). f s ++ l) (flat_without ss)

-- so are client identifiers
pub clients_without : (ss : List Session) → map (λ (s : Session). s.client) (map without_queue ss) ≡ map (λ (s : Session). s.client) ss
clients_without [] = refl
clients_without (s ∷ ss) = ap (λ l. s.client ∷ l) (clients_without ss)

-- ---- copies and retained messages stand

session_stands : (messages : List StoredMessage) (rows : List Row) (ss : List Session) → AreQueues messages rows ss → (s : Session) → Has ss s → (x : CopyRow) → Has s.queue x → Stands messages (copy_message x)
session_stands messages rows [] are s has x in_queue = absurd has
session_stands messages rows (t ∷ ss) are s (inl here) x in_queue = queue_stands messages are.1.front t.queue are.1.are x (subst (λ (u : Session). Has u.queue x) here in_queue)
session_stands messages rows (t ∷ ss) are s (inr more) x in_queue = session_stands messages are.0 ss are.2 s more x in_queue

kept_stands : (messages : List StoredMessage) (kept : List RetainedMessage) → AllByRecursion (λ k. Stands messages (retained_message k)) kept → (x : RetainedMessage) → Has kept x → Stands messages (retained_message x)
kept_stands messages [] all x has = absurd has
kept_stands messages (k ∷ kept) all x (inl here) = subst (λ (z : RetainedMessage). Stands messages (retained_message z)) (sym here) all.0
kept_stands messages (k ∷ kept) all x (inr more) = kept_stands messages kept all.1 x more

shares : (messages : List StoredMessage) (rows : List Row) (r : Records) → AreQueues messages rows r.sessions → AllByRecursion (λ k. Stands messages (retained_message k)) r.retained → SharesContents r
shares messages rows r queues kept m one n other same =
    let first : row_at publication_of m.publication messages ≡ Some m = stands m one in
    let second : row_at publication_of n.publication messages ≡ Some n = stands n other in
    let both : Some n ≡ Some m = sym second ∙ (ap (λ (l : ℕ). row_at publication_of l messages) same ∙ first) in
    cc
  where
    stands : (m : StoredMessage) → IsMessageOf r m → Stands messages m
    stands m (inl it) = subst (Stands messages) (sym it.3) (session_stands messages rows r.sessions queues it.2.0 it.2.1 it.1 it.2.3)
    stands m (inr it) = subst (Stands messages) (sym it.2) (kept_stands messages r.retained kept it.0 it.1)

-- ---- numbers to which copies refer

queue_refers : (queue : List CopyRow) → map copy_number (map slim queue) ≡ map copy_number queue
queue_refers [] = refl
queue_refers (x ∷ queue) = ap (λ (l : List ℕ). copy_number x ∷ l) (queue_refers queue)

slim_refers : (ss : List Session) → flat_map queue_numbers (map with_all_slim ss) ≡ flat_map queue_numbers ss
slim_refers [] = refl
slim_refers (s ∷ ss) = ap (λ (l : List ℕ). l ++ flat_map queue_numbers (map with_all_slim ss)) (queue_refers s.queue) ∙ ap (λ (l : List ℕ). map copy_number s.queue ++ l) (slim_refers ss)

-- ---- the records

module _ (g : Queues) (rows : List Row) (has : HasTakenQueues g rows) (new : Reading) (same : IsSameButQueues g.reading new) (retained : List RetainedMessage) (heads : g.heads ≡ heads_in g.reading retained) (w : AreWhole new rows) where
  heads_are : heads_in new retained ≡ g.heads
  heads_are = heads_still g.reading new retained same ∙ sym heads

  abbrev whole : Records
  whole = record (heads_in new retained) { sessions = w.whole }

  numbers_are : numbers_in (record (heads_in new retained) { sessions = new.all }) ≡ numbers_in whole
  numbers_are = ap (λ (l : List ℕ). l ++ map kept_number retained) (ap (flat_map queue_numbers) w.slim ∙ slim_refers w.whole)

  refers : (other : List ℕ) → other ≡ numbers_in whole → (ms : List StoredMessage) → AllByRecursion (λ m. IsTrue (is_among m.publication other)) ms → AllByRecursion (IsReferred whole) ms
  refers other is ms = subst (λ (l : List ℕ). AllByRecursion (λ (m : StoredMessage). IsTrue (is_among m.publication l)) ms) is

  lawful_heads : IsLawful (heads_in new retained)
  lawful_heads = subst IsLawful (sym heads_are) has.lawful

  -- they are lawful
  whole_lawful : IsLawful whole
  whole_lawful =
      let h = lawful_heads in
      let is : map without_queue w.whole ≡ (heads_in new retained).sessions = w.says.same in
      record {
        numbers = h.numbers;
        sessions = record {
          table = heads_table w.whole (subst (IsTable birth_of SESSION_LIMIT) (sym is) h.sessions.table);
          clients = subst AllDiffer (ap (map (λ (s : Session). s.client)) (sym is) ∙ clients_without w.whole) h.sessions.clients;
          places = subst AllDiffer (ap (flat_map (λ (s : Session). map place_of s.subscriptions)) (sym is) ∙ flat_without (λ (s : Session). map place_of s.subscriptions) (λ s. refl) w.whole) h.sessions.places;
          each = w.says.lawful;
        };
        retained = h.retained;
        shared = shares new.messages rows whole w.says.are
            (subst (λ (l : List StoredMessage). AllByRecursion (λ (k : RetainedMessage). Stands l (retained_message k)) retained) (sym same.messages)
            (subst (λ (r : Records). AllByRecursion (λ (k : RetainedMessage). Stands g.reading.messages (retained_message k)) r.retained) heads has.stand));
      }

  -- if something refers to each message, the slim records are of those with all queues
  pub slim_whole : (r : Records) → r ≡ record (heads_in new retained) { sessions = new.all } → AllByRecursion (IsReferred r) new.messages → AreSlimOf g rows r
  slim_whole r is referred = record {
    whole = whole;
    slim_is = is ∙ ap (λ (ss : List Session). record (heads_in new retained) { sessions = ss }) w.slim;
    have = record {
      heads = ap (λ (h : Records). record h { sessions = w.whole }) heads_are;
      same = w.says.same ∙ ap (λ (h : Records). h.sessions) heads_are;
      queues = subst (λ (l : List StoredMessage). AreQueues l rows w.whole) same.messages w.says.are;
      lawful = whole_lawful;
      referred = subst (AllByRecursion (IsReferred whole)) same.messages
          (refers (numbers_in r) (ap numbers_in is ∙ numbers_are) new.messages referred);
    };
  }

  -- if nothing refers to a message, there are none
  pub none_referred : (AllByRecursion (IsReferred (record (heads_in new retained) { sessions = new.all })) new.messages → ⊥) → (r : Records) → HaveQueues g rows r → ⊥
  none_referred none r have =
      let one : r.sessions ≡ w.whole = one_queues g.reading.messages rows r.sessions w.whole
      (have.same ∙ (sym (ap (λ (h : Records). h.sessions) heads_are) ∙ sym w.says.same))
      (whole_lawful.sessions.table.ascending) have.queues (subst (λ (l : List StoredMessage). AreQueues l rows w.whole) same.messages w.says.are) in
      let is : r ≡ whole = have.heads ∙ (ap (λ (ss : List Session). record g.heads { sessions = ss }) one ∙ ap (λ (h : Records). record h { sessions = w.whole }) (sym heads_are)) in
      none (subst (λ (l : List ℕ). AllByRecursion (λ (m : StoredMessage). IsTrue (is_among m.publication l)) new.messages) (ap numbers_in is ∙ sym numbers_are)
      (subst (AllByRecursion (IsReferred r)) (sym same.messages) have.referred))

  -- so it is, if the call that asks that was not refused
  pub slim_if : (result : Result Records KeepError) → IfOk result (λ r. r ≡ record (heads_in new retained) { sessions = new.all }) → IfOk result (λ r. AllByRecursion (IsReferred r) new.messages) → IfOk result (AreSlimOf g rows)
  slim_if (Ok r) is referred = slim_whole r is referred
  slim_if (Err e) is referred = tt

-- ---- rows that say none

-- records with queues are such as rows say
pub have_says : (g : Queues) (rows : List Row) (retained : List RetainedMessage) → g.heads ≡ heads_in g.reading retained → (r : Records) → HaveQueues g rows r → SayQueues g.reading rows r.sessions
have_says g rows retained heads r have = record {
  are = have.queues;
  same = have.same ∙ ap (λ (h : Records). h.sessions) heads;
  lawful = subst (λ (h : Records). AllByRecursion (IsLawfulSession (last_of h)) r.sessions) (have.heads ∙ ap (λ (h : Records). record h { sessions = r.sessions }) heads) have.lawful.sessions.each;
}

-- if the rows say no queues, there are no records with them
pub none_have : (g : Queues) (rows : List Row) (retained : List RetainedMessage) → g.heads ≡ heads_in g.reading retained → (MayFollow : List Row → Type 0) → MayFollow [] → SayNone g.reading rows MayFollow → (r : Records) → HaveQueues g rows r → ⊥
none_have g rows retained heads MayFollow may none r have =
    let says = have_says g rows retained heads r have in
    none [] may r.sessions (record { are = subst (λ (l : List Row). AreQueues g.reading.messages l r.sessions) (sym (append-nil rows)) says.are; same = says.same; lawful = says.lawful })

-- ---- the end

-- if no row is to come, no session is bare and no row is left, all queues are read
pub all_read : (r : Reading) (rows : List Row) → AreGathered r rows IsEnd → r.bare ≡ [] → r.part.items ≡ [] → AreWhole r rows
all_read r rows gathered bare empty =
    let read = gathered.read [] refl in
    record {
      whole = gathered.whole;
      slim = gathered.slim;
      says = record {
        are = subst (λ (l : List Row). AreQueues r.messages l gathered.whole) (append-nil rows)
            (subst (AreQueues r.messages (rows ++ [])) (append-nil gathered.whole) (read.sound [] (ap (λ (l : List Row). l ++ []) empty)));
        same = sym (slim_same gathered.whole) ∙ (ap (map without_queue) (sym gathered.slim) ∙ ap (map without_queue) (sym (append-nil r.all) ∙ ap (λ (l : List Session). r.all ++ l) (sym bare)));
        lawful = gathered.lawful;
      };
    }
  where
    slim_same : (ss : List Session) → map without_queue (map with_all_slim ss) ≡ map without_queue ss
    slim_same [] = refl
    slim_same (s ∷ ss) = ap (λ (l : List Session). without_queue s ∷ l) (slim_same ss)

-- if a row is left, the rows say none
pub rows_left : (r : Reading) (rows : List Row) → AreGathered r rows IsEnd → r.bare ≡ [] → r.part.items ≢ [] → SayNone r rows IsEnd
rows_left r rows gathered bare some rest may ss says =
    let left = (gathered.read rest may).complete ss says in
    let none = go left.those (subst (λ (l : List Session). map without_queue left.those ≡ map without_queue l) bare left.same) in
    some (sym (append-nil r.part.items) ∙ (ap (λ (l : List Row). r.part.items ++ l) (sym may) ∙ subst (AreQueues r.messages (r.part.items ++ rest)) none left.are))
  where
    go : (ds : List Session) → map without_queue ds ≡ [] → ds ≡ []
    go [] same = refl
    go (d ∷ ds) same = absurd cc

-- ---- one row more

abbrev pub queues_at : Reading → List RetainedMessage → Bool → Queues
queues_at reading retained is_corrupt = record { heads = heads_in reading retained; reading = reading; is_corrupt = is_corrupt }

module _ (old new : Reading) (retained : List RetainedMessage) (rows : List Row) (row : Row) (same : IsSameButQueues old new) (has : HasTakenQueues (queues_at old retained false) rows) where
  still_lawful : IsLawful (heads_in new retained)
  still_lawful = subst IsLawful (sym (heads_still old new retained same)) has.lawful

  still_stand : AllByRecursion (λ kept. Stands new.messages (retained_message kept)) retained
  still_stand = subst (λ (l : List StoredMessage). AllByRecursion (λ (k : RetainedMessage). Stands l (retained_message k)) retained) (sym same.messages) has.stand

  -- it is taken in, once the queues of the sessions before its own are read
  pub taken_more : ((rows : List Row) → AreGathered old rows (BeginsWith (Some row)) → AreGathered new rows (BeginsWith (Some row))) → (part : VecDeque SqlRow Global) → part.items ≡ new.part.items ++ row ∷ []
      → HasTakenQueues (queues_at (record new { part = part }) retained false) (rows ++ row ∷ [])
  taken_more read part is = record {
    lawful = still_lawful;
    stand = still_stand;
    read = λ _. taken_in new part rows row is (read rows (gathered_with old rows (Some row) (has.read refl)));
    none = λ corrupt. absurd (true≢false (sym corrupt));
  }

  -- if they can't be read, rows say none
  pub taken_none : ((rows : List Row) → AreGathered old rows (BeginsWith (Some row)) → SayNone old rows (BeginsWith (Some row))) → HasTakenQueues (queues_at new retained true) (rows ++ row ∷ [])
  taken_none none = record {
    lawful = still_lawful;
    stand = still_stand;
    read = λ sound. absurd (true≢false sound);
    none = λ _. none_after old new (rows ++ row ∷ []) Any same (none_with old rows row (none rows (gathered_with old rows (Some row) (has.read refl))));
  }
