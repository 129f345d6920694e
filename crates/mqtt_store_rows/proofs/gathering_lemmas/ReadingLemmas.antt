-- What was read of queues, when that of one session more is read.
use Rattle.std.proofs.Common.{◌≡◌, ℕ, List, [], ◌∷◌, ◌++◌, length-append, append_assoc, map, true, Option, Some, None, Global, is_some, refl, sym, ap, subst, ◌∙◌, arith}
use Rattle.std.specs.Borrow.{Bor}
use Rattle.std.specs.Prelude.{option_copied}
use Rattle.std.specs.List.{AllByRecursion}
use Rattle.std.specs.declared.collections.VecDeque.{VecDeque}
use Rattle.sqlite_value.specs.Order.{Row}
use Rattle.sqlite.specs.declared.rows.Row.{Row as SqlRow}
use Rattle.mqtt_base.specs.declared.limits.TheConstants.{SESSION_LIMIT}
use Rattle.mqtt_records.specs.messages.Queue.{CopyRow}
use Rattle.mqtt_records.specs.declared.state.session.Session.{Session}
use Rattle.mqtt_records.specs.state.Session.{birth_of, with_all_slim}
use Rattle.mqtt_keep.specs.lawful.Lawful.{IsLawfulSession}
use Rattle.mqtt_keep.specs.declared.lawful.rows.Last.{Last}
use Rattle.mqtt_records.specs.lists.Order.{IsAbove, IsAscending, IsTable}
use Rattle.mqtt_store_rows.specs.declared.values.meta.Counters.{Counters}
use Rattle.mqtt_store_rows.specs.values.Lists.{AllOf, BeginsOther, Takes, TakesAll}
use Rattle.mqtt_store_rows.proofs.values_lemmas.PartLemmas.{same_parts}
use Rattle.mqtt_records.specs.state.Contents.{StoredMessage}
use Rattle.mqtt_store_rows.specs.rows.Joins.{SaysCopy}
use Rattle.mqtt_store_rows.specs.rows.Gives.{without_queue, AreQueues}
use Rattle.mqtt_store_rows.proofs.rows_lemmas.QueueLemmas.{same_above, same_table, order_behind, ends_queues}
use Rattle.mqtt_store_rows.specs.declared.gathering.reading.Reading.{Reading}
use Rattle.mqtt_store_rows.specs.gathering.Alone.{last_in}
use Rattle.mqtt_store_rows.specs.gathering.Queues.{with_copies, HasReadNext, HasNoQueue, IsSameButQueues, SayQueues, AreLeft, AreGathered, BeginsWith, SayNone, Any}

-- ---- rows of one session, in front of others

-- if these rows are read, another session begins
begins_other : (birth : ℕ) (rows rest : List Row) → BeginsOther birth rows → BeginsOther birth rest → BeginsOther birth (rows ++ rest)
begins_other birth [] rest here ends = ends
begins_other birth (row ∷ rows) rest here ends = here

-- the rows of a session's queue are all its rows, whatever follows of another
takes_more : {X : Type 0} (Says : X → Row → Type 0) (birth : ℕ) (part : List X) (rows left rest : List Row) → TakesAll Says birth part rows left → BeginsOther birth rest → TakesAll Says birth part (rows ++ rest) (left ++ rest)
takes_more Says birth part rows left rest taken ends = record {
  takes = record {
    front = taken.takes.front;
    parts = ap (λ (l : List Row). l ++ rest) taken.takes.parts ∙ append_assoc taken.takes.front left rest;
    mine = taken.takes.mine;
    are = taken.takes.are;
  };
  ends = begins_other birth left rest taken.ends ends;
}

-- if rows of a session stand in front of another's, those that are not of what follows stand in front there too
front_within : (birth : ℕ) (rows rest front more : List Row) → rows ++ rest ≡ front ++ more → AllOf birth front → BeginsOther birth more → BeginsOther birth rest
    → (left : List Row) × (rows ≡ front ++ left) × BeginsOther birth left
front_within birth rows rest [] more is mine ends stops = (rows, refl, go rows is)
  where
    go : (rows : List Row) → rows ++ rest ≡ more → BeginsOther birth rows
    go [] is = tt
    go (row ∷ rows) is = λ here. subst (BeginsOther birth) (sym is) ends here
front_within birth [] rest (row ∷ front) more is mine ends stops = absurd (subst (BeginsOther birth) is stops mine.0)
front_within birth (r ∷ rows) rest (row ∷ front) more is mine ends stops =
    let heads : r ≡ row = cc in
    let tails : rows ++ rest ≡ front ++ more = cc in
    let it = front_within birth rows rest front more tails mine.1 ends stops in
    (it.0, ap (λ (x : Row). x ∷ rows) heads ∙ ap (λ (l : List Row). row ∷ l) it.1, it.2)

-- what takes all of a session's rows, others behind them or not, takes them of these alone
takes_within : {X : Type 0} (Says : X → Row → Type 0) (birth : ℕ) (part : List X) (rows rest more : List Row) → TakesAll Says birth part (rows ++ rest) more → BeginsOther birth rest
    → (left : List Row) × TakesAll Says birth part rows left
takes_within Says birth part rows rest more taken stops =
    let it = front_within birth rows rest taken.takes.front more taken.takes.parts taken.takes.mine taken.ends stops in
    (it.0, record { takes = record { front = taken.takes.front; parts = it.1; mine = taken.takes.mine; are = taken.takes.are }; ends = it.2 })

-- the rows are those of this birth
pub of_birth : {X : Type 0} (Says : X → Row → Type 0) (b c : ℕ) (part : List X) (rows rest : List Row) → b ≡ c → TakesAll Says b part rows rest → TakesAll Says c part rows rest
of_birth Says b c part rows rest same taken = subst (λ (n : ℕ). TakesAll Says n part rows rest) same taken

-- the first of a list is one, and so is its birth
pub same_first : (s t : Session) (others more bare : List Session) (birth : ℕ) → bare ≡ s ∷ others → bare ≡ t ∷ more → birth ≡ s.birth → birth ≡ t.birth
same_first s t others more [] birth here there is = absurd cc
same_first s t others more (x ∷ bare) birth here there is = let same : s ≡ t = cc in is ∙ ap birth_of same

-- ---- sessions that are the same but for their queues

-- with the queue of one the other is that
lawful_with : (last : Last) (d s : Session) → without_queue d ≡ without_queue s → IsLawfulSession last d → IsLawfulSession last (with_copies d.queue s)
lawful_with last d s is = subst (IsLawfulSession last) (ap (λ (x : Session). with_copies d.queue x) is)

-- a session may have another queue
pub without_pushed : (ss : List Session) (t s : Session) (others : List Session) → without_queue t ≡ without_queue s → map without_queue ((ss ++ t ∷ []) ++ others) ≡ map without_queue (ss ++ s ∷ others)
without_pushed [] t s others is = ap (λ (x : Session). x ∷ map without_queue others) is
without_pushed (r ∷ ss) t s others is = ap (λ (l : List Session). without_queue r ∷ l) (without_pushed ss t s others is)

-- ---- one session

-- where the first bare session's rows lie, and what is left of the others
record First (r : Reading) (s : Session) (others : List Session) (rows : List Row) : Type 0 where
  queue : List CopyRow
  more : List Row
  takes : TakesAll (SaysCopy r.messages) s.birth queue rows more
  lawful : IsLawfulSession (last_in r.numbers) (with_copies queue s)
  those : List Session
  are : AreQueues r.messages more those
  same : map without_queue those ≡ map without_queue others
  every : AllByRecursion (IsLawfulSession (last_in r.numbers)) those

first_left : (r : Reading) (s : Session) (others : List Session) (rows : List Row) → r.bare ≡ s ∷ others → IsAscending birth_of (s ∷ others) → AreLeft r rows → First r s others rows
first_left r s others rows bare up h = go h.those h.are (subst (λ (l : List Session). map without_queue h.those ≡ map without_queue l) bare h.same) h.lawful
  where
    go : (ds : List Session) → AreQueues r.messages rows ds → map without_queue ds ≡ map without_queue (s ∷ others) → AllByRecursion (IsLawfulSession (last_in r.numbers)) ds → First r s others rows
    go [] are same every = absurd cc
    go (d ∷ ds) are same every =
        let first : without_queue d ≡ without_queue s = cc in
        let behind : map without_queue ds ≡ map without_queue others = cc in
        let birth : d.birth ≡ s.birth = ap birth_of first in
        let ends : BeginsOther s.birth are.0 = ends_queues r.messages s.birth are.0 ds are.2 (same_above s.birth ds others behind up.0) in
        record {
          queue = d.queue;
          more = are.0;
          takes = record { takes = subst (λ (n : ℕ). Takes (SaysCopy r.messages) n d.queue rows are.0) birth are.1; ends = ends };
          lawful = lawful_with (last_in r.numbers) d s first every.0;
          those = ds;
          are = are.2;
          same = behind;
          every = every.1;
        }

-- rows say the queues of the same sessions, before the queue of one was read and after it
says_same : (old new : Reading) (rows : List Row) (ss : List Session) → IsSameButQueues old new → SayQueues new rows ss → SayQueues old rows ss
says_same old new rows ss same h = record {
  are = subst (λ (l : List StoredMessage). AreQueues l rows ss) same.messages h.are;
  same = h.same ∙ same.sessions;
  lawful = subst (λ (n : Counters). AllByRecursion (IsLawfulSession (last_in n)) ss) same.numbers h.lawful;
}

says_back : (old new : Reading) (rows : List Row) (ss : List Session) → IsSameButQueues old new → SayQueues old rows ss → SayQueues new rows ss
says_back old new rows ss same h = record {
  are = subst (λ (l : List StoredMessage). AreQueues l rows ss) (sym same.messages) h.are;
  same = h.same ∙ sym same.sessions;
  lawful = subst (λ (n : Counters). AllByRecursion (IsLawfulSession (last_in n)) ss) (sym same.numbers) h.lawful;
}

-- what stays twice, stays
pub same_but : (a b c : Reading) → IsSameButQueues a b → IsSameButQueues b c → IsSameButQueues a c
same_but a b c h k = record { messages = k.messages ∙ h.messages; numbers = k.numbers ∙ h.numbers; sessions = k.sessions ∙ h.sessions }

-- if a row follows, rows are there
pub some_follows : (next : Option (Bor Row)) (rows rest : List Row) → is_some next ≡ true → BeginsWith (option_copied next) rest → rows ++ rest ≡ [] → ⊥
some_follows None rows rest some may is = absurd cc
some_follows (Some row) [] rest some may is = let none : row.now ∷ may.0 ≡ [] = sym may.1 ∙ is in absurd cc
some_follows (Some row) (r ∷ rows) rest some may is = absurd cc

-- what says none afterwards said none before
pub none_before : (old new : Reading) (rows : List Row) (MayFollow : List Row → Type 0) → IsSameButQueues old new → SayNone new rows MayFollow → SayNone old rows MayFollow
none_before old new rows MayFollow same none rest may ss says = none rest may ss (says_back old new (rows ++ rest) ss same says)

-- what said none before says none afterwards
pub none_after : (old new : Reading) (rows : List Row) (MayFollow : List Row → Type 0) → IsSameButQueues old new → SayNone old rows MayFollow → SayNone new rows MayFollow
none_after old new rows MayFollow same none rest may ss says = none rest may ss (says_same old new (rows ++ rest) ss same says)

module _ (old : Reading) (rows : List Row) (MayFollow : List Row → Type 0) (table : IsTable birth_of SESSION_LIMIT (old.all ++ old.bare)) (gathered : AreGathered old rows MayFollow) where
  order_of : (s : Session) (others : List Session) → old.bare ≡ s ∷ others → IsAscending birth_of (s ∷ others)
  order_of s others bare = subst (IsAscending birth_of) bare (order_behind old.all old.bare table.ascending)

  -- if the first bare session has no queue there, rows say no queues
  pub none_next : HasNoQueue old → (s : Session) (others : List Session) → old.bare ≡ s ∷ others → ((rest : List Row) → MayFollow rest → BeginsOther s.birth rest) → SayNone old rows MayFollow
  none_next none s others bare ends rest may ss says =
      let f = first_left old s others (old.part.items ++ rest) bare (order_of s others bare) ((gathered.read rest may).complete ss says) in
      let it = takes_within (SaysCopy old.messages) s.birth f.queue old.part.items rest f.more f.takes (ends rest may) in
      none s others it.0 f.queue bare (record { takes = it.1; lawful = f.lawful })

  -- if no session is bare, and a row is to come, they say none
  pub none_left : old.bare ≡ [] → ((rest : List Row) → MayFollow rest → old.part.items ++ rest ≡ [] → ⊥) → SayNone old rows MayFollow
  none_left bare some rest may ss says =
      let left = (gathered.read rest may).complete ss says in
      some rest may (go left.those left.are (subst (λ (l : List Session). map without_queue left.those ≡ map without_queue l) bare left.same))
    where
      go : (ds : List Session) → AreQueues old.messages (old.part.items ++ rest) ds → map without_queue ds ≡ [] → old.part.items ++ rest ≡ []
      go [] are same = are
      go (d ∷ ds) are same = absurd cc

  -- the queue of one session more was read
  pub gathered_next : (new : Reading) → IsSameButQueues old new → (next : HasReadNext old new) → ((rest : List Row) → MayFollow rest → BeginsOther next.session.birth rest) → AreGathered new rows MayFollow
  gathered_next new same next ends =
      let s = next.session in
      let t = with_copies next.queue s in
      record {
        whole = gathered.whole ++ t ∷ [];
        slim = next.all ∙ (ap (λ (l : List Session). l ++ with_all_slim t ∷ []) gathered.slim ∙ sym (map_push gathered.whole t));
        lawful = subst (λ (n : Counters). AllByRecursion (IsLawfulSession (last_in n)) (gathered.whole ++ t ∷ [])) (sym same.numbers)
            (all_push (IsLawfulSession (last_in old.numbers)) gathered.whole t gathered.lawful next.read.lawful);
        read = λ rest may.
            let before = gathered.read rest may in
            let taken = takes_more (SaysCopy old.messages) s.birth next.queue old.part.items new.part.items rest next.read.takes (ends rest may) in
            record {
              sound = λ ss are.
                  let are_old : AreQueues old.messages (new.part.items ++ rest) ss = subst (λ (l : List StoredMessage). AreQueues l (new.part.items ++ rest) ss) same.messages are in
                  subst (λ (l : List StoredMessage). AreQueues l (rows ++ rest) ((gathered.whole ++ t ∷ []) ++ ss)) (sym same.messages)
                  (subst (AreQueues old.messages (rows ++ rest)) (sym (append_assoc gathered.whole (t ∷ []) ss)) (before.sound (t ∷ ss) (new.part.items ++ rest, taken.takes, are_old)));
              complete = λ ss says.
                  let f = first_left old s new.bare (old.part.items ++ rest) next.bare (order_of s new.bare next.bare) (before.complete ss (says_same old new (rows ++ rest) ss same says)) in
                  let behind : f.more ≡ new.part.items ++ rest = (same_parts (SaysCopy old.messages) s.birth s.birth f.queue next.queue (old.part.items ++ rest) f.more (new.part.items ++ rest) refl f.takes.takes f.takes.ends taken.takes taken.ends).1 in
                  record {
                    those = f.those;
                    are = subst (λ (l : List StoredMessage). AreQueues l (new.part.items ++ rest) f.those) (sym same.messages) (subst (λ (l : List Row). AreQueues old.messages l f.those) behind f.are);
                    same = f.same;
                    lawful = subst (λ (n : Counters). AllByRecursion (IsLawfulSession (last_in n)) f.those) (sym same.numbers) f.every;
                  };
            };
      }
    where
      map_push : (ss : List Session) (t : Session) → map with_all_slim (ss ++ t ∷ []) ≡ map with_all_slim ss ++ with_all_slim t ∷ []
      map_push [] t = refl
      map_push (s ∷ ss) t = ap (λ (l : List Session). with_all_slim s ∷ l) (map_push ss t)

      all_push : (P : Session → Type 0) (ss : List Session) (t : Session) → AllByRecursion P ss → P t → AllByRecursion P (ss ++ t ∷ [])
      all_push P [] t all here = (here, tt)
      all_push P (s ∷ ss) t all here = (all.0, all_push P ss t all.1 here)

-- sessions are still in order
pub table_still : (old new : Reading) → IsSameButQueues old new → IsTable birth_of SESSION_LIMIT (old.all ++ old.bare) → IsTable birth_of SESSION_LIMIT (new.all ++ new.bare)
table_still old new same = same_table SESSION_LIMIT (new.all ++ new.bare) (old.all ++ old.bare) same.sessions

above_without : (n : ℕ) (ss : List Session) (s : Session) (others : List Session) → IsAbove birth_of n (ss ++ s ∷ others) → IsAbove birth_of n (ss ++ others)
above_without n [] s others up = up.1
above_without n (r ∷ ss) s others up = (up.0, above_without n ss s others up.1)

order_without : (ss : List Session) (s : Session) (others : List Session) → IsAscending birth_of (ss ++ s ∷ others) → IsAscending birth_of (ss ++ others)
order_without [] s others up = up.1
order_without (r ∷ ss) s others up = (above_without r.birth ss s others up.0, order_without ss s others up.1)

-- so are those without one
pub table_without : (ss : List Session) (s : Session) (others : List Session) → IsTable birth_of SESSION_LIMIT (ss ++ s ∷ others) → IsTable birth_of SESSION_LIMIT (ss ++ others)
table_without ss s others table =
    let all = length-append ss (s ∷ others) in
    let left = length-append ss others in
    let few = table.within in
    record { ascending = order_without ss s others table.ascending; within = omega (arith, all, left, few) }

-- ---- rows that are taken in

-- none were, and no session has been read
pub none_taken : (r : Reading) → r.all ≡ [] → r.part.items ≡ [] → AreGathered r [] Any
none_taken r none empty = record {
  whole = [];
  slim = none;
  lawful = tt;
  read = λ rest may.
      let is : r.part.items ++ rest ≡ rest = ap (λ (l : List Row). l ++ rest) empty in
      record {
        sound = λ ss are. subst (λ (l : List Row). AreQueues r.messages l ss) is are;
        complete = λ ss says. record {
          those = ss;
          are = subst (λ (l : List Row). AreQueues r.messages l ss) (sym is) says.are;
          same = says.same ∙ ap (λ (l : List Session). map without_queue (l ++ r.bare)) none;
          lawful = says.lawful;
        };
      };
}

-- a row more is taken in
pub taken_in : (r : Reading) (part : VecDeque SqlRow Global) (rows : List Row) (row : Row) → part.items ≡ r.part.items ++ row ∷ [] → AreGathered r rows (BeginsWith (Some row))
    → AreGathered (record r { part = part }) (rows ++ row ∷ []) Any
taken_in r part rows row is gathered = record {
  whole = gathered.whole;
  slim = gathered.slim;
  lawful = gathered.lawful;
  read = λ rest may.
      let before = gathered.read (row ∷ rest) (rest, refl) in
      let given : (rows ++ row ∷ []) ++ rest ≡ rows ++ row ∷ rest = append_assoc rows (row ∷ []) rest in
      let left : part.items ++ rest ≡ r.part.items ++ row ∷ rest = ap (λ (l : List Row). l ++ rest) is ∙ append_assoc r.part.items (row ∷ []) rest in
      record {
        sound = λ ss are. subst (λ (l : List Row). AreQueues r.messages l (gathered.whole ++ ss)) (sym given) (before.sound ss (subst (λ (l : List Row). AreQueues r.messages l ss) left are));
        complete = λ ss says.
            let those = before.complete ss (record { are = subst (λ (l : List Row). AreQueues r.messages l ss) given says.are; same = says.same; lawful = says.lawful }) in
            record { those = those.those; are = subst (λ (l : List Row). AreQueues r.messages l those.those) (sym left) those.are; same = those.same; lawful = those.lawful };
      };
}

-- what may follow, may follow that begins with a row
pub gathered_with : (r : Reading) (rows : List Row) (next : Option Row) → AreGathered r rows Any → AreGathered r rows (BeginsWith next)
gathered_with r rows next g = record { whole = g.whole; slim = g.slim; lawful = g.lawful; read = λ rest may. g.read rest tt }

-- rows that say none with a row behind them say none with what stands behind that
pub none_with : (r : Reading) (rows : List Row) (row : Row) → SayNone r rows (BeginsWith (Some row)) → SayNone r (rows ++ row ∷ []) Any
none_with r rows row none rest may ss says =
    none (row ∷ rest) (rest, refl) ss (record { are = subst (λ (l : List Row). AreQueues r.messages l ss) (append_assoc rows (row ∷ []) rest) says.are; same = says.same; lawful = says.lawful })

-- and so do those with a row more
pub none_more : (r : Reading) (rows : List Row) (row : Row) → SayNone r rows Any → SayNone r (rows ++ row ∷ []) Any
none_more r rows row none rest may ss says =
    none (row ∷ rest) tt ss (record { are = subst (λ (l : List Row). AreQueues r.messages l ss) (append_assoc rows (row ∷ []) rest) says.are; same = says.same; lawful = says.lawful })
