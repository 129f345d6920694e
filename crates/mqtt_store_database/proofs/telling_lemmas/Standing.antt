-- The rows that tables of schema 2 have for a copy and its message, where they are written from records.
use Rattle.std.proofs.Common.{◌≡◌, ℕ, pos, Bool, true, false, cond, nat_eq, List, [], ◌∷◌, find, refl, sym, ap, ◌∙◌, subst, inl, inr, arith}
use Rattle.std.specs.Prelude.{Option, Some, None}
use Rattle.std.proofs.lemmas.Bool.{cases_Bool, eqb-true}
use Rattle.std.proofs.lemmas.Cmp.{nat_eq_equiv}
use Rattle.sqlite_value.specs.declared.keys.Collation.TheVariants.{Binary}
use Rattle.sqlite_value.specs.Order.{Row, column}
use Rattle.sqlite_trees.specs.Tree.{Trees}
use Rattle.sqlite_schema.specs.Rules.{equal}
use Rattle.sqlite_rules.specs.Lists.{Has}
use Rattle.mqtt_records.specs.messages.Queue.{CopyRow}
use Rattle.mqtt_records.specs.lists.Order.{IsAscending, row_at}
use Rattle.mqtt_records.proofs.lists_lemmas.OrderLemmas.{apart}
use Rattle.mqtt_records.specs.declared.state.records.Records.{Records}
use Rattle.mqtt_records.specs.declared.state.session.Session.{Session}
use Rattle.mqtt_records.specs.state.Contents.{copy_message, IsMessageOf}
use Rattle.mqtt_records.specs.state.Members.{InQueue}
use Rattle.mqtt_records.specs.state.Members as members
use Rattle.mqtt_records.specs.state.Session.{birth_of, copy_place}
use Rattle.mqtt_records.specs.state.Telling.{queue_or_none, queue_at}
use Rattle.mqtt_store_rows.specs.values.Values.{number}
use Rattle.mqtt_store_rows.specs.values.Ones.{one_number}
use Rattle.mqtt_store_tables.specs.declared.schema.tables.Making.{Making}
use Rattle.mqtt_store_tables.proofs.statements_lemmas.puts.PutSession.{own_number as is_number}
use Rattle.mqtt_store_tables.specs.messages.Places.{message_tree, queued_tree}
use Rattle.mqtt_store_tables.specs.messages.Rows.{message_row}
use Rattle.mqtt_store_database.specs.item_laws.Members.{IsOrdered, AllOrdered}
use Rattle.mqtt_store_database.proofs.item_laws_lemmas.records.Members.{has_all, has_above}
use Rattle.mqtt_store_database.specs.row_laws.Items.{message_columns, IsMessageRow, IsQueuedRow}
use Rattle.mqtt_store_database.specs.row_laws.Written.{KeepsRowsTwo}

-- ---- a copy by its place

module _ {X : Type 0} (key : X → ℕ) where
  -- a row that is found by its key stands, and has the key
  pub found_stands : (k : ℕ) (xs : List X) (x : X) → row_at key k xs ≡ Some x → members.Has xs x × (key x ≡ k)
  found_stands k [] x found = absurd cc
  found_stands k (y ∷ ys) x found = elim (cases_Bool (nat_eq (key y) k)) [
    | inl here ↦
        let first : Some y ≡ Some x = ap (λ (b : Bool). cond b (Some y) (row_at key k ys)) (sym here) ∙ found in
        let same : y ≡ x = cc in
        (inl (sym same), ap key (sym same) ∙ eqb-true (key y) k here)
    | inr other ↦
        let later = found_stands k ys x (ap (λ (b : Bool). cond b (Some y) (row_at key k ys)) (sym other) ∙ found) in
        (inr later.0, later.1)
  ]

  -- and one that stands in the order of keys is found by its own
  pub stands_found : (xs : List X) (x : X) → IsAscending key xs → members.Has xs x → row_at key (key x) xs ≡ Some x
  stands_found [] x up has = absurd has
  stands_found (y ∷ ys) x up (inl same) = rw same (let here : nat_eq (key y) (key y) ≡ true = nat_eq_equiv.refl (key y) in rw here refl)
  stands_found (y ∷ ys) x up (inr later) =
      let more = has_above key (key y) ys x up.0 later in
      let other : nat_eq (key y) (key x) ≡ false = apart (key y) (key x) (λ same. omega (arith, more, same)) in
      rw other (stands_found ys x up.1 later)

-- the copies of the queue that is found by a birth are those of the session with that birth
pub queue_stands : (birth : ℕ) (r : Records) (x : CopyRow) → members.Has (queue_at birth r) x → InQueue r birth x
queue_stands birth r x has = go (row_at birth_of birth r.sessions) refl has
  where
    go : (o : Option Session) → row_at birth_of birth r.sessions ≡ o → members.Has (queue_or_none o) x → InQueue r birth x
    go None is there = absurd there
    go (Some s) is there = let session = found_stands birth_of birth r.sessions s is in (s, session.0, session.1, there)

-- a copy that stands is in the queue that is found by its birth
pub stands_queue : (birth : ℕ) (r : Records) (x : CopyRow) → AllOrdered r → InQueue r birth x → members.Has (queue_at birth r) x
stands_queue birth r x up it =
    let found : row_at birth_of birth r.sessions ≡ Some it.0 = subst (λ (b : ℕ). row_at birth_of b r.sessions ≡ Some it.0) it.2 (stands_found birth_of r.sessions it.0 up.sessions it.1) in
    rw found it.3

-- a queue is in the order of its places
pub queue_rises : (birth : ℕ) (r : Records) → AllOrdered r → IsAscending copy_place (queue_at birth r)
queue_rises birth r up = go (row_at birth_of birth r.sessions) refl
  where
    go : (o : Option Session) → row_at birth_of birth r.sessions ≡ o → IsAscending copy_place (queue_or_none o)
    go None is = tt
    go (Some s) is = (has_all IsOrdered r.sessions s up.lists (found_stands birth_of birth r.sessions s is).0).queue

-- ---- numbers in columns

-- whole numbers that SQL finds equal are the same
pub same_numbers : (m n : ℕ) → equal Binary (number m) (number n) ≡ true → m ≡ n
same_numbers m n is = one_number (number m) m n refl (is_number (number m) (pos n) refl is)

-- the row that passes alone is found
pub alone_found : (passes : Row → Bool) (rows : List Row) (row : Row) → Has rows row → passes row ≡ true → ((other : Row) → Has rows other → passes other ≡ true → other ≡ row) → find passes rows ≡ Some row
alone_found passes [] row has is only = absurd has
alone_found passes (y ∷ ys) row has is only = elim (cases_Bool (passes y)) [
  | inl passed ↦ let same = only y (inl refl) passed in rw passed (ap Some same)
  | inr failed ↦ elim has [
    | inl here ↦ let never : true ≡ false = sym is ∙ (ap passes here ∙ failed) in absurd cc
    | inr later ↦ rw failed (alone_found passes ys row later is (λ other h. only other (inr h)))
  ]
]

-- ---- the rows of a copy

module _ (making : Making) (db : Trees) (r : Records) (k : KeepsRowsTwo making db r) where
  abbrev pub queued : List Row
  queued = db (queued_tree making)

  abbrev pub messages : List Row
  messages = db (message_tree making)

  module _ (birth : ℕ) (x : CopyRow) (stands : InQueue r birth x) where
    -- its own row
    pub own_row : (row : Row) × Has queued row × IsQueuedRow (birth, x) row
    own_row = k.rows.queued.each (birth, x) stands

    -- is the only one with its birth and its place
    pub only_own : (row : Row) → Has queued row → column row 1 ≡ number birth → column row 2 ≡ number x.place → row ≡ own_row.0
    only_own row has first second =
        let mine = own_row.2.1 in
        let birth_is : column own_row.0 1 ≡ number birth = ap (λ (l : Row). column l 1) mine in
        let place_is : column own_row.0 2 ≡ number x.place = ap (λ (l : Row). column l 2) mine in
        k.single.queued row own_row.0 has own_row.1 (first ∙ sym birth_is) (second ∙ sym place_is)

    said : IsMessageOf r (copy_message x)
    said = inl (birth, x, stands, refl)

    -- the row of its message
    pub message_own : (row : Row) × Has messages row × IsMessageRow (copy_message x) row
    message_own = k.rows.messages.each (copy_message x) said

    -- is the only one with its number
    pub only_message : (row : Row) → Has messages row → column row 0 ≡ number x.copy.id.publication → row ≡ message_own.0
    only_message row has first =
        let it = k.rows.messages.only row has in
        let mine : column row 0 ≡ number it.0.publication = ap (λ (l : Row). column l 0) it.2 in
        let one = k.shared (copy_message x) said it.0 it.1 (one_number (column row 0) it.0.publication x.copy.id.publication mine first) in
        it.2 ∙ (ap (λ m. message_row m.publication (message_columns m)) one ∙ sym message_own.2)
