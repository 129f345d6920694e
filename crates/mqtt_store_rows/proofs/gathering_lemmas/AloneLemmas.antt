-- A session that is lawful apart from all others.
use Rattle.std.proofs.Common.{◌≡◌, ◌≢◌, ℕ, List, [], ◌∷◌, append-nil, map, sym, ap, subst, ◌∙◌, inl, inr, arith}
use Rattle.std.specs.Prelude.{Some}
use Rattle.std.specs.List.{AllByRecursion}
use Rattle.sqlite_value.specs.Order.{Row}
use Rattle.mqtt_records.specs.messages.Queue.{CopyRow}
use Rattle.mqtt_records.specs.lists.Distinct.{AllDiffer}
use Rattle.mqtt_records.specs.lists.Order.{IsAbove, IsAscending, row_at}
use Rattle.mqtt_records.specs.state.Contents.{StoredMessage, copy_message, IsMessageOf, SharesContents}
use Rattle.mqtt_records.specs.state.Members.{Has}
use Rattle.mqtt_records.specs.state.Session.{place_of}
use Rattle.mqtt_records.specs.declared.state.session.Session.{Session}
use Rattle.mqtt_keep.specs.lawful.Lawful.{IsLawful, IsLawfulSession, AreNumbers}
use Rattle.mqtt_store_rows.specs.declared.values.meta.Counters.{Counters}
use Rattle.mqtt_store_rows.specs.values.Lists.{AreRows}
use Rattle.mqtt_store_rows.specs.rows.Joins.{publication_of, Stands, SaysCopy}
use Rattle.mqtt_store_rows.specs.gathering.Alone.{last_in, alone}

-- ---- what is ascending differs

above_differs : {X : Type 0} (key : X → ℕ) (n : ℕ) (xs : List X) → IsAbove key n xs → AllByRecursion (λ m. n ≢ m) (map key xs)
above_differs key n [] up = tt
above_differs key n (x ∷ xs) up = ((λ is. let less = up.0 in absurd (omega (arith, is, less))), above_differs key n xs up.1)

ascending_differs : {X : Type 0} (key : X → ℕ) (xs : List X) → IsAscending key xs → AllDiffer (map key xs)
ascending_differs key [] up = tt
ascending_differs key (x ∷ xs) up = (above_differs key (key x) xs up.0, ascending_differs key xs up.1)

-- ---- the rules of one session are those of records with it alone

module _ (numbers : Counters) (s : Session) (are : AreNumbers (last_in numbers)) (shares : SharesContents (alone numbers s)) where
  -- if it is lawful, so are they
  pub lawful_alone : IsLawfulSession (last_in numbers) s → IsLawful (alone numbers s)
  lawful_alone h = record {
    numbers = are;
    sessions = record {
      table = record { ascending = (tt, tt); within = omega arith };
      clients = (tt, tt);
      places = subst AllDiffer (sym (append-nil (map place_of s.subscriptions))) (ascending_differs place_of s.subscriptions h.subscriptions.table.ascending);
      each = (h, tt);
    };
    retained = record { table = record { ascending = tt; within = omega arith }; topics = tt; each = tt };
    shared = shares;
  }

-- and if they are, so is it
pub lawful_of_alone : (numbers : Counters) (s : Session) → IsLawful (alone numbers s) → IsLawfulSession (last_in numbers) s
lawful_of_alone numbers s h = h.sessions.each.0

-- ---- copies that say what stands say the same of one publication

module _ (messages : List StoredMessage) where
  -- each copy that a row says stands among the messages
  pub queue_stands : (rows : List Row) (queue : List CopyRow) → AreRows (SaysCopy messages) rows queue → (x : CopyRow) → Has queue x → Stands messages (copy_message x)
  queue_stands [] [] are x has = absurd has
  queue_stands [] (y ∷ queue) are x has = absurd are
  queue_stands (row ∷ rows) [] are x has = absurd are
  queue_stands (row ∷ rows) (y ∷ queue) are x (inl here) = subst (λ (z : CopyRow). Stands messages (copy_message z)) (sym here) are.0.message
  queue_stands (row ∷ rows) (y ∷ queue) are x (inr more) = queue_stands rows queue are.1 x more

  stands_of : (numbers : Counters) (s : Session) (rows : List Row) → AreRows (SaysCopy messages) rows s.queue → (m : StoredMessage) → IsMessageOf (alone numbers s) m → Stands messages m
  stands_of numbers s rows are m (inl it) = elim it.2.1 [
    | inl here ↦ subst (Stands messages) (sym it.3) (queue_stands rows s.queue are it.1 (subst (λ (t : Session). Has t.queue it.1) here it.2.3))
    | inr no_other ↦ absurd no_other
  ]
  stands_of numbers s rows are m (inr it) = absurd it.1

  -- so a queue that rows say shares its contents
  pub alone_shares : (numbers : Counters) (s : Session) (rows : List Row) → AreRows (SaysCopy messages) rows s.queue → SharesContents (alone numbers s)
  alone_shares numbers s rows are m one n other same =
      let first : row_at publication_of m.publication messages ≡ Some m = stands_of numbers s rows are m one in
      let second : row_at publication_of n.publication messages ≡ Some n = stands_of numbers s rows are n other in
      let both : Some n ≡ Some m = sym second ∙ (ap (λ (l : ℕ). row_at publication_of l messages) same ∙ first) in
      cc
