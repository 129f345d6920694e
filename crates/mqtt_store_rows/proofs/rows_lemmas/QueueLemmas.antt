-- Sessions without their queues, and the rows that say these.
use Rattle.std.proofs.Common.{◌≡◌, ℕ, ◌<◌, List, [], ◌∷◌, ◌++◌, length, map, refl, sym, ap, subst, ◌∙◌, arith}
use Rattle.std.specs.List.{AllByRecursion}
use Rattle.sqlite_value.specs.Order.{Row}
use Rattle.mqtt_records.specs.messages.Queue.{CopyRow}
use Rattle.mqtt_records.specs.declared.state.session.Session.{Session}
use Rattle.mqtt_records.specs.state.Session.{birth_of}
use Rattle.mqtt_records.specs.lists.Order.{IsAbove, IsBelow, IsAscending, IsTable}
use Rattle.mqtt_records.specs.state.Contents.{StoredMessage}
use Rattle.mqtt_store_rows.specs.values.Lists.{AreRows, BeginsOther}
use Rattle.mqtt_store_rows.specs.values.Rows.{SaysCopy as SaysWholeCopy}
use Rattle.mqtt_store_rows.specs.values.Gives.{Parts, AreSessions, IsWithin}
use Rattle.mqtt_store_rows.proofs.values_lemmas.PartLemmas.{first_other, same_parts}
use Rattle.mqtt_store_rows.proofs.values_lemmas.OneLemmas.{same_part}
use Rattle.mqtt_store_rows.specs.rows.Joins.{SaysCopy}
use Rattle.mqtt_store_rows.specs.rows.Ones.{one_copy}
use Rattle.mqtt_store_rows.specs.rows.Gives.{without_queue, AreQueues}

-- ---- sessions that are the same but for their queues

same_birth : (s t : Session) → without_queue s ≡ without_queue t → s.birth ≡ t.birth
same_birth s t is = ap birth_of is

-- births are above n in both
pub same_above : (n : ℕ) (ss ts : List Session) → map without_queue ss ≡ map without_queue ts → IsAbove birth_of n ts → IsAbove birth_of n ss
same_above n [] ts is up = tt
same_above n (s ∷ ss) [] is up = absurd cc
same_above n (s ∷ ss) (t ∷ ts) is up =
    let first : without_queue s ≡ without_queue t = cc in
    let others : map without_queue ss ≡ map without_queue ts = cc in
    (subst (λ (m : ℕ). n < m) (sym (same_birth s t first)) up.0, same_above n ss ts others up.1)

-- births rise in both
pub same_order : (ss ts : List Session) → map without_queue ss ≡ map without_queue ts → IsAscending birth_of ts → IsAscending birth_of ss
same_order [] ts is up = tt
same_order (s ∷ ss) [] is up = absurd cc
same_order (s ∷ ss) (t ∷ ts) is up =
    let first : without_queue s ≡ without_queue t = cc in
    let others : map without_queue ss ≡ map without_queue ts = cc in
    (subst (λ (n : ℕ). IsAbove birth_of n ss) (sym (same_birth s t first)) (same_above t.birth ss ts others up.0), same_order ss ts others up.1)

-- there are as many
pub same_count : (ss ts : List Session) → map without_queue ss ≡ map without_queue ts → length ss ≡ length ts
same_count [] [] is = refl
same_count [] (t ∷ ts) is = absurd cc
same_count (s ∷ ss) [] is = absurd cc
same_count (s ∷ ss) (t ∷ ts) is =
    let others : map without_queue ss ≡ map without_queue ts = cc in
    let more = same_count ss ts others in
    omega (arith, more)

-- both are in order, and within the limit
pub same_table : (limit : ℕ) (ss ts : List Session) → map without_queue ss ≡ map without_queue ts → IsTable birth_of limit ts → IsTable birth_of limit ss
same_table limit ss ts is table =
    let count = same_count ss ts is in
    let few = table.within in
    record { ascending = same_order ss ts is table.ascending; within = omega (arith, count, few) }

-- what has no queues loses none
pub without_twice : (ss : List Session) → map without_queue (map without_queue ss) ≡ map without_queue ss
without_twice [] = refl
without_twice (s ∷ ss) = ap (λ (l : List Session). without_queue s ∷ l) (without_twice ss)

-- an empty queue is within its limit
pub within_without : (ss : List Session) → AllByRecursion IsWithin ss → AllByRecursion IsWithin (map without_queue ss)
within_without [] all = tt
within_without (s ∷ ss) all =
    (record { subscriptions = all.0.subscriptions; inbound = all.0.inbound; queue = record { ascending = tt; within = omega arith } }, within_without ss all.1)

no_front : (front rest : List Row) → [] ≡ front ++ rest → (front ≡ []) × (rest ≡ [])
no_front [] rest is = (refl, sym is)
no_front (row ∷ front) rest is = absurd cc

no_items : {X : Type 0} (Says : X → Row → Type 0) (xs : List X) → AreRows Says [] xs → xs ≡ []
no_items Says [] are = refl
no_items Says (x ∷ xs) are = absurd are

abbrev with_queue : List CopyRow → Session → Session
with_queue queue s = record s { queue = queue }

-- sessions that no row says a copy of have no queues
pub bare_is : (rows : List Row) (parts : Parts) (ss : List Session) → parts.copies ≡ [] → AreSessions rows parts ss → map without_queue ss ≡ ss
bare_is [] parts [] none are = refl
bare_is [] parts (s ∷ ss) none are = absurd are
bare_is (row ∷ rows) parts [] none are = absurd are
bare_is (row ∷ rows) parts (s ∷ ss) none are =
    let queue = are.1.1.queue in
    let both = no_front queue.front are.1.0.copies (sym none ∙ queue.parts) in
    let empty : s.queue ≡ [] = no_items SaysWholeCopy s.queue (subst (λ (l : List Row). AreRows SaysWholeCopy l s.queue) both.0 queue.are) in
    let first : without_queue s ≡ s = ap (λ (q : List CopyRow). with_queue q s) (sym empty) in
    ap (λ (x : Session). x ∷ map without_queue ss) first ∙ ap (λ (l : List Session). s ∷ l) (bare_is rows are.1.0 ss both.1 are.1.2)

-- a session may have another queue
pub same_but_one : (ss : List Session) (s t : Session) (ts : List Session) → without_queue s ≡ without_queue t → map without_queue (ss ++ s ∷ ts) ≡ map without_queue (ss ++ t ∷ ts)
same_but_one [] s t ts is = ap (λ (x : Session). x ∷ map without_queue ts) is
same_but_one (r ∷ ss) s t ts is = ap (λ (l : List Session). without_queue r ∷ l) (same_but_one ss s t ts is)

-- ---- lists in order

above_in : (n : ℕ) (ss : List Session) (s : Session) (ts : List Session) → IsAbove birth_of n (ss ++ s ∷ ts) → n < s.birth
above_in n [] s ts up = up.0
above_in n (t ∷ ss) s ts up = above_in n ss s ts up.1

-- births in front of a session are below its own
pub below_front : (ss : List Session) (s : Session) (ts : List Session) → IsAscending birth_of (ss ++ s ∷ ts) → IsBelow birth_of s.birth ss
below_front [] s ts up = tt
below_front (t ∷ ss) s ts up = (above_in t.birth ss s ts up.0, below_front ss s ts up.1)

-- births behind others are in order
pub order_behind : (ss ts : List Session) → IsAscending birth_of (ss ++ ts) → IsAscending birth_of ts
order_behind [] ts up = up
order_behind (s ∷ ss) ts up = order_behind ss ts up.1

-- ---- queues

module _ (messages : List StoredMessage) where
  -- no row of an earlier session is in front
  pub ends_queues : (n : ℕ) (rows : List Row) (ss : List Session) → AreQueues messages rows ss → IsAbove birth_of n ss → BeginsOther n rows
  ends_queues n rows [] are up = subst (BeginsOther n) (sym are) tt
  ends_queues n rows (s ∷ ss) are up = first_other (SaysCopy messages) n s.birth s.queue rows are.0 are.1 up.0 (ends_queues n are.0 ss are.2 up.1)

  -- rows say one list of queues
  pub one_queues : (rows : List Row) (ss ts : List Session) → map without_queue ss ≡ map without_queue ts → IsAscending birth_of ts → AreQueues messages rows ss → AreQueues messages rows ts → ss ≡ ts
  one_queues rows [] [] same up are those = refl
  one_queues rows [] (t ∷ ts) same up are those = absurd cc
  one_queues rows (s ∷ ss) [] same up are those = absurd cc
  one_queues rows (s ∷ ss) (t ∷ ts) same up are those =
      let first : without_queue s ≡ without_queue t = cc in
      let behind : map without_queue ss ≡ map without_queue ts = cc in
      let birth : s.birth ≡ t.birth = same_birth s t first in
      let ends : BeginsOther s.birth are.0 = ends_queues s.birth are.0 ss are.2 (subst (λ (n : ℕ). IsAbove birth_of n ss) (sym birth) (same_above t.birth ss ts behind up.0)) in
      let stops : BeginsOther t.birth those.0 = ends_queues t.birth those.0 ts those.2 up.0 in
      let queue : s.queue ≡ t.queue = same_part (SaysCopy messages) (one_copy messages) s.birth t.birth s.queue t.queue rows are.0 those.0 birth are.1 ends those.1 stops in
      let rest : are.0 ≡ those.0 = (same_parts (SaysCopy messages) s.birth t.birth s.queue t.queue rows are.0 those.0 birth are.1 ends those.1 stops).1 in
      let one : s ≡ t = ap (λ (x : Session). with_queue s.queue x) first ∙ ap (λ (q : List CopyRow). with_queue q t) queue in
      ap (λ (x : Session). x ∷ ss) one ∙ ap (λ (xs : List Session). t ∷ xs) (one_queues those.0 ss ts behind up.1 (subst (λ (l : List Row). AreQueues messages l ss) rest are.2) those.2)
