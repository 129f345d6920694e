-- The messages that a load finds are those that its records say.
use Rattle.std.proofs.Common.{◌≡◌, ◌⊎◌, ℕ, Bool, true, cond, nat_eq, List, [], ◌∷◌, ◌++◌, map, refl, sym, ap, subst, ◌∙◌, arith, inl, inr}
use Rattle.std.specs.Prelude.{Some}
use Rattle.std.specs.List.{AllByRecursion, flat_map}
use Rattle.std.proofs.lemmas.Bool.{cases_Bool, eqb-true}
use Rattle.sqlite_value.specs.Order.{Row}
use Rattle.mqtt_records.specs.declared.messages.message.RetainedMessage.{RetainedMessage}
use Rattle.mqtt_records.specs.messages.Queue.{CopyRow}
use Rattle.mqtt_records.specs.lists.Order.{IsAscending, row_at}
use Rattle.mqtt_records.proofs.lists_lemmas.LookUps.{row_at-here}
use Rattle.mqtt_records.proofs.lists_lemmas.OrderLemmas.{apart}
use Rattle.mqtt_records.specs.declared.state.records.Records.{Records}
use Rattle.mqtt_records.specs.declared.state.session.Session.{Session}
use Rattle.mqtt_records.specs.state.Members.{Has, InQueue, queue_of}
use Rattle.mqtt_records.specs.state.Contents.{StoredMessage, copy_message, retained_message, IsMessageOf, SharesContents}
use Rattle.mqtt_store_database.proofs.item_laws_lemmas.records.Members.{has_all, has_above}
use Rattle.mqtt_store_database.proofs.found_lemmas.both.Traverse.{IsSaid, Shares, SaysOf, rows_each, shares_each}
use Rattle.mqtt_store_rows.specs.rows.Joins.{publication_of, Stands, SaysCopy, SaysRetained}
use Rattle.mqtt_store_rows.specs.rows.Gives.{Rows, GivesBy, AreQueues, copy_number, queue_numbers, kept_number, numbers_in, is_among, IsReferred}

-- ---- look-ups

-- what is found under a number stands in the list
at_has : (k : ℕ) (ms : List StoredMessage) (m : StoredMessage) → row_at publication_of k ms ≡ Some m → Has ms m
at_has k [] m found = absurd cc
at_has k (l ∷ ms) m found = elim (cases_Bool (nat_eq l.publication k)) [
  | inl here ↦
      let first : Some l ≡ Some m = ap (λ (b : Bool). cond b (Some l) (row_at publication_of k ms)) (sym here) ∙ found in
      let same : m ≡ l = cc in
      inl same
  | inr other ↦ inr (at_has k ms m (ap (λ (b : Bool). cond b (Some l) (row_at publication_of k ms)) (sym other) ∙ found))
]

-- what stands in a list by its numbers is found under its own
has_at : (ms : List StoredMessage) (m : StoredMessage) → IsAscending publication_of ms → Has ms m → row_at publication_of m.publication ms ≡ Some m
has_at [] m up h = absurd h
has_at (l ∷ ms) m up (inl same) = subst (λ (x : StoredMessage). row_at publication_of x.publication (l ∷ ms) ≡ Some x) (sym same) (row_at-here publication_of l ms)
has_at (l ∷ ms) m up (inr later) =
    let above = has_above publication_of l.publication ms m up.0 later in
    let other = apart l.publication m.publication (λ is. omega (arith, is, above)) in
    rw other (has_at ms m up.1 later)

-- ---- what a number is of

among_has : (n : ℕ) (ns : List ℕ) → is_among n ns ≡ true → Has ns n
among_has n [] among = absurd cc
among_has n (k ∷ ns) among = elim (cases_Bool (nat_eq k n)) [
  | inl same ↦ inl (sym (eqb-true k n same))
  | inr other ↦ inr (among_has n ns (rw other at among))
]

has_either : {X : Type 0} (xs ys : List X) (x : X) → Has (xs ++ ys) x → Has xs x ⊎ Has ys x
has_either [] ys x h = inr h
has_either (z ∷ xs) ys x (inl same) = inl (inl same)
has_either (z ∷ xs) ys x (inr h) = elim (has_either xs ys x h) [ inl first ↦ inl (inr first) | inr second ↦ inr second ]

map_has : {X Y : Type 0} (f : X → Y) (xs : List X) (y : Y) → Has (map f xs) y → (x : X) × Has xs x × (y ≡ f x)
map_has f [] y h = absurd h
map_has f (x ∷ xs) y (inl same) = (x, inl refl, same)
map_has f (x ∷ xs) y (inr h) = let it = map_has f xs y h in (it.0, inr it.1, it.2)

-- a number of all queues is that of a copy in one of them
queues_have : (n : ℕ) (ss : List Session) → Has (flat_map queue_numbers ss) n → (s : Session) × (x : CopyRow) × Has ss s × Has (queue_of s) x × (n ≡ copy_number x)
queues_have n [] h = absurd h
queues_have n (s ∷ ss) h = elim (has_either (queue_numbers s) (flat_map queue_numbers ss) n h) [
  | inl here ↦ let it = map_has copy_number s.queue n here in (s, it.0, inl refl, it.1, it.2)
  | inr later ↦ let it = queues_have n ss later in (it.0, it.1, inr it.2, it.3, it.4)
]

-- ---- what a load finds

shares_queues : (messages : List StoredMessage) (rows : List Row) (ss : List Session) → AreQueues messages rows ss → Shares (SaysCopy messages) queue_of rows ss
shares_queues messages rows [] are = are
shares_queues messages rows (s ∷ ss) are = (are.0, are.1, shares_queues messages are.0 ss are.2)

module _ (messages : List StoredMessage) (rows : Rows) (q : Records) (by : GivesBy messages rows q) where
  -- the rows of copies are those of the sessions, one after the other
  pub copies_share : Shares (SaysCopy messages) queue_of rows.queued q.sessions
  copies_share = shares_queues messages rows.queued q.sessions by.sessions.queues

  -- a copy in a queue is said by a row
  pub copy_said : (b : ℕ) (x : CopyRow) → InQueue q b x → IsSaid (SaysOf (SaysCopy messages)) rows.queued (b, x)
  copy_said b x it = shares_each (SaysCopy messages) queue_of rows.queued q.sessions copies_share (b, x) it

  -- a retained message is said by a row
  pub retained_said : (x : RetainedMessage) → Has q.retained x → IsSaid (SaysRetained messages) rows.kept x
  retained_said x it = rows_each (SaysRetained messages) rows.kept q.retained by.retained x it

  -- what records say stands among the messages
  said_stands : (m : StoredMessage) → IsMessageOf q m → Stands messages m
  said_stands m (inl it) = subst (Stands messages) (sym it.3) (copy_said it.0 it.1 it.2).2.1.message
  said_stands m (inr it) = subst (Stands messages) (sym it.2) (retained_said it.0 it.1).2.message

  -- so they share contents
  pub found_shares : SharesContents q
  found_shares m said n also same =
      let both : Some n ≡ Some m = sym (said_stands n also) ∙ (ap (λ (k : ℕ). row_at publication_of k messages) same ∙ said_stands m said) in
      let is : n ≡ m = cc in
      is

  -- what records say is one of the messages
  pub said_listed : (m : StoredMessage) → IsMessageOf q m → Has messages m
  said_listed m said = at_has m.publication messages m (said_stands m said)

  module _ (up : IsAscending publication_of messages) (referred : AllByRecursion (IsReferred q) messages) where
    -- of two messages of one number there is one
    the_one : (m n : StoredMessage) → Has messages m → IsMessageOf q n → m.publication ≡ n.publication → m ≡ n
    the_one m n there said same =
        let both : Some m ≡ Some n = sym (has_at messages m up there) ∙ (ap (λ (k : ℕ). row_at publication_of k messages) same ∙ said_stands n said) in
        let is : m ≡ n = cc in
        is

    -- each message is said, since something refers to it
    pub listed_said : (m : StoredMessage) → Has messages m → IsMessageOf q m
    listed_said m there =
        let among = among_has m.publication (numbers_in q) (has_all (IsReferred q) messages m referred there) in
        elim (has_either (flat_map queue_numbers q.sessions) (map kept_number q.retained) m.publication among) [
          | inl queued ↦
              let it = queues_have m.publication q.sessions queued in
              let mine : InQueue q it.0.birth it.1 = (it.0, it.2, refl, it.3) in
              inl (it.0.birth, it.1, mine, the_one m (copy_message it.1) there (inl (it.0.birth, it.1, mine, refl)) it.4)
          | inr kept ↦
              let it = map_has kept_number q.retained m.publication kept in
              inr (it.0, it.1, the_one m (retained_message it.0) there (inr (it.0, it.1, refl)) it.2)
        ]
