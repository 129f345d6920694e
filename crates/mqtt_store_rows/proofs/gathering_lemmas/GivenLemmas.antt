-- What the rows of all tables give, once those of `message` and of `queued` are read.
use Rattle.std.proofs.Common.{◌≡◌, true, false, List, [], ◌∷◌, append-nil, map, refl, sym, ap, subst, inl, inr, arith}
use Rattle.std.specs.List.{AllByRecursion}
use Rattle.sqlite_value.specs.Order.{Row}
use Rattle.mqtt_base.specs.declared.limits.TheConstants.{SESSION_LIMIT}
use Rattle.mqtt_records.specs.messages.Queue.{CopyRow}
use Rattle.mqtt_records.specs.lists.Distinct.{AllDiffer}
use Rattle.mqtt_records.specs.state.Contents.{StoredMessage, IsMessageOf}
use Rattle.mqtt_records.specs.state.Members.{Has}
use Rattle.mqtt_records.specs.state.Session.{place_of}
use Rattle.mqtt_records.specs.declared.state.records.Records.{Records}
use Rattle.mqtt_records.specs.declared.state.session.Session.{Session}
use Rattle.mqtt_keep.specs.lawful.Lawful.{IsLawful, IsLawfulSession, last_of}
use Rattle.mqtt_keep.specs.declared.lawful.rows.Last.{Last}
use Rattle.mqtt_store_rows.specs.values.Rows.{SaysNumbers}
use Rattle.mqtt_store_rows.specs.values.Gives.{counters_of, AreSessions}
use Rattle.mqtt_store_rows.specs.values.Lists.{AreRows}
use Rattle.mqtt_store_rows.proofs.values_lemmas.LawfulLemmas.{lawful_within}
use Rattle.mqtt_store_rows.specs.rows.Rows.{SaysMessage}
use Rattle.mqtt_store_rows.specs.rows.Joins.{SaysRetained}
use Rattle.mqtt_store_rows.specs.rows.Gives.{Rows, parts_of, without_queue, AreHeads, GivesBy, IsReferred, Gives}
use Rattle.mqtt_store_rows.proofs.rows_lemmas.OneLemmas.{one_heads}
use Rattle.mqtt_store_rows.proofs.rows_lemmas.QueueLemmas.{same_table, without_twice}
use Rattle.mqtt_store_rows.specs.gathering.Thin.{AreCovered}
use Rattle.mqtt_store_rows.specs.gathering.Gathered.{Gathered, HasTaken}
use Rattle.mqtt_store_rows.specs.gathering.Queues.{Queues, HaveQueues, AreSlimOf}
use Rattle.mqtt_store_rows.specs.gathering.Slim.{IsSlimOf, with_read}
use Rattle.mqtt_store_rows.proofs.gathering_lemmas.QueuesLemmas.{flat_without, clients_without}
use Rattle.mqtt_store_rows.proofs.gathering_lemmas.Alike.{slim_of_thin, none_of_thin}

-- ---- records without queues

abbrev bare_of : Records → Records
bare_of r = record r { sessions = map without_queue r.sessions }

empty_lawful : (last : Last) (s : Session) → IsLawfulSession last s → IsLawfulSession last (without_queue s)
empty_lawful last s h = record {
  birth = h.birth;
  closed = h.closed;
  inbound = h.inbound;
  client = h.client;
  will = h.will;
  subscriptions = h.subscriptions;
  queue = record { table = record { ascending = tt; within = omega arith }; identifiers = tt; orders = tt; copies = tt; each = tt };
}

all_empty : (last : Last) (ss : List Session) → AllByRecursion (IsLawfulSession last) ss → AllByRecursion (IsLawfulSession last) (map without_queue ss)
all_empty last [] all = tt
all_empty last (s ∷ ss) all = (empty_lawful last s all.0, all_empty last ss all.1)

none_queued : (ss : List Session) (s : Session) (x : CopyRow) → Has (map without_queue ss) s → Has s.queue x → ⊥
none_queued [] s x has in_queue = has
none_queued (t ∷ ss) s x (inl here) in_queue = subst (λ (u : Session). Has u.queue x) here in_queue
none_queued (t ∷ ss) s x (inr more) in_queue = none_queued ss s x more in_queue

still_said : (r : Records) (m : StoredMessage) → IsMessageOf (bare_of r) m → IsMessageOf r m
still_said r m (inl it) = absurd (none_queued r.sessions it.2.0 it.1 it.2.1 it.2.3)
still_said r m (inr it) = inr it

-- lawful records are so without queues
bare_lawful : (r : Records) → IsLawful r → IsLawful (bare_of r)
bare_lawful r h = record {
  numbers = h.numbers;
  sessions = record {
    table = same_table SESSION_LIMIT (map without_queue r.sessions) r.sessions (without_twice r.sessions) h.sessions.table;
    clients = subst AllDiffer (sym (clients_without r.sessions)) h.sessions.clients;
    places = subst AllDiffer (sym (flat_without (λ (s : Session). map place_of s.subscriptions) (λ s. refl) r.sessions)) h.sessions.places;
    each = all_empty (last_of r) r.sessions h.sessions.each;
  };
  retained = h.retained;
  shared = λ m one n other. h.shared m (still_said r m one) n (still_said r n other);
}

-- ---- with messages that are known

-- the records without queues that rows give
bare_heads : (messages : List StoredMessage) (said queued : List Row) (rows : Rows) (r : Records) → GivesBy messages (with_read said queued rows) r → AreHeads messages rows (bare_of r)
bare_heads messages said queued rows r gives = record {
  numbers = gives.numbers;
  sessions = gives.sessions.others;
  bare = without_twice r.sessions;
  retained = gives.retained;
}

module _ (g : Queues) (said queued : List Row) (rows : Rows) (heads : AreHeads g.reading.messages rows g.heads) where
  -- the records with these queues are those that the rows give
  given_by : (r : Records) → HaveQueues g queued r → GivesBy g.reading.messages (with_read said queued rows) r
  given_by r have =
      let same = have.heads in
      record {
        numbers = subst (λ (h : Records). SaysNumbers 2 (counters_of h) rows.meta) (sym same) heads.numbers;
        sessions = record {
          others = subst (AreSessions rows.sessions (parts_of rows)) (sym have.same) heads.sessions;
          queues = have.queues;
        };
        retained = subst (λ (h : Records). AreRows (SaysRetained g.reading.messages) rows.kept h.retained) (sym same) heads.retained;
      }

  -- and what the rows give are records with these queues
  have_given : IsLawful g.heads → (r : Records) → GivesBy g.reading.messages (with_read said queued rows) r → AllByRecursion (IsReferred r) g.reading.messages → IsLawful r → HaveQueues g queued r
  have_given lawful_heads r gives referred lawful =
      let one : bare_of r ≡ g.heads = one_heads g.reading.messages rows (bare_of r) g.heads (bare_heads g.reading.messages said queued rows r gives) (lawful_within (bare_of r) (bare_lawful r lawful)) heads (lawful_within g.heads lawful_heads) in
      record {
        heads = ap (λ (h : Records). record h { sessions = r.sessions }) one;
        same = ap (λ (h : Records). h.sessions) one;
        queues = gives.sessions.queues;
        lawful = lawful;
        referred = referred;
      }

-- ---- what was gathered

module _ (gathered : Gathered) (said queued : List Row) (rows : Rows) (has : HasTaken gathered said) where
  -- if rows of `message` say none, all rows give none
  pub none_gathered : gathered.is_corrupt ≡ true → (r : Records) → Gives (with_read said queued rows) r → ⊥
  none_gathered corrupt r gives = has.none corrupt [] gives.messages (subst (λ (l : List Row). AreRows SaysMessage l gives.messages) (sym (append-nil said)) gives.said) gives.order

  module _ (covered : AreCovered gathered.whole rows.kept) (sound : gathered.is_corrupt ≡ false) where
    -- nor do they, if those of the other tables give no lawful records without queues
    pub none_begun : ((r : Records) → AreHeads gathered.messages rows r → IsLawful r → ⊥) → (r : Records) → Gives (with_read said queued rows) r → IsLawful r → ⊥
    none_begun none =
        let read = has.read sound in
        none_of_thin gathered.whole read.full gathered.messages read.alike (with_read said queued rows) covered read.said read.table
        (λ q gives referred lawful. none (bare_of q) (bare_heads gathered.messages said queued rows q gives) (bare_lawful q lawful))

    module _ (g : Queues) (messages : g.reading.messages ≡ gathered.messages) (heads : AreHeads gathered.messages rows g.heads) where
      heads_known : AreHeads g.reading.messages rows g.heads
      heads_known = subst (λ (l : List StoredMessage). AreHeads l rows g.heads) (sym messages) heads

      -- slim records of which these are the queues are slim rows of the records that the rows give
      pub slim_given : (slim : Records) → AreSlimOf g queued slim → IsSlimOf (Gives (with_read said queued rows)) slim
      slim_given slim it =
          let read = has.read sound in
          slim_of_thin gathered.whole read.full gathered.messages read.alike (with_read said queued rows) covered read.said read.table it.whole
          (subst (λ (l : List StoredMessage). GivesBy l (with_read said queued rows) it.whole) messages (given_by g said queued rows heads_known it.whole it.have))
          (subst (AllByRecursion (IsReferred it.whole)) messages it.have.referred) it.have.lawful slim it.slim_is

      -- if there are none, the rows give none
      pub none_given : IsLawful g.heads → ((r : Records) → HaveQueues g queued r → ⊥) → (r : Records) → Gives (with_read said queued rows) r → IsLawful r → ⊥
      none_given lawful_heads none =
          let read = has.read sound in
          none_of_thin gathered.whole read.full gathered.messages read.alike (with_read said queued rows) covered read.said read.table
          (λ q gives referred lawful. none q (have_given g said queued rows heads_known lawful_heads q
          (subst (λ (l : List StoredMessage). GivesBy l (with_read said queued rows) q) (sym messages) gives) (subst (AllByRecursion (IsReferred q)) (sym messages) referred) lawful))
