-- What the question shows where the tables are written from records, whatever the numbers of other rows.
use Rattle.std.proofs.Common.{◌≡◌, ℕ, ◌<◌, ◌^◌, Bool, true, false, ◌&&◌, cond, nat_eq, List, [], ◌∷◌, map, filter, flat_map, refl, sym, ap, ap₂, ◌∙◌, subst, inl, inr, IsPermutation}
use Rattle.std.specs.List.{AllByRecursion}
use Rattle.std.proofs.lemmas.Bool.{cases_Bool, eqb-true, and_parts}
use Rattle.std.proofs.lemmas.Cmp.{nat_eq_equiv, tied_itself}
use Rattle.sqlite_keyed.proofs.ListLemmas.{flat_map-map, flat_map-filter, flat_map_none, flat_map_same_on, IsPermutation-flat_map}
use Rattle.sqlite_value.specs.declared.value.Value.TheVariants.{Null}
use Rattle.sqlite_value.specs.Order.{Row, column}
use Rattle.sqlite_value.proofs.OrderLemmas.{value_cmp_total}
use Rattle.sqlite_trees.specs.Tree.{Trees, rowid}
use Rattle.sqlite_rules.specs.Lists.{Has}
use Rattle.sqlite_rules.proofs.ListLemmas.{has_filtered, has_kept}
use Rattle.sqlite_sql.specs.Program.{overlay}
use Rattle.sqlite.specs.Query.{IsAnswer}
use Rattle.sqlite.specs.State.{State, Shown}
use Rattle.sqlite.proofs.Callers.{reads_as}
use Rattle.mqtt_records.specs.messages.Queue.{CopyRow}
use Rattle.mqtt_records.specs.messages.Content.{CopyContent}
use Rattle.mqtt_records.proofs.lists_lemmas.OrderLemmas.{filter-ascending}
use Rattle.mqtt_records.specs.declared.state.records.Records.{Records}
use Rattle.mqtt_records.specs.state.Members.{InQueue}
use Rattle.mqtt_records.specs.state.Members as members
use Rattle.mqtt_records.specs.state.Session.{copy_place}
use Rattle.mqtt_records.specs.state.Telling.{queue_at, is_from, contents_from}
use Rattle.mqtt_store_rows.specs.values.Values.{number}
use Rattle.mqtt_store_rows.specs.values.Lists.{AreRows}
use Rattle.mqtt_store_rows.specs.values.Ones.{one_number}
use Rattle.mqtt_store_tables.specs.schema.Tables.{second_schema}
use Rattle.mqtt_store_tables.specs.declared.schema.tables.Making.{Making}
use Rattle.mqtt_store_tables.proofs.statements_lemmas.deletes.RemoveSession.{only_row}
use Rattle.mqtt_store_tables.specs.messages.Places.{message_tree}
use Rattle.mqtt_store_database.specs.item_laws.Written.{IsSayableCopy}
use Rattle.mqtt_store_database.specs.row_laws.Items.{IsQueuedRow}
use Rattle.mqtt_store_database.specs.row_laws.Written.{KeepsRowsTwo, AreInOrderTwo}
use Rattle.mqtt_store_database.proofs.asking_lemmas.Rising.{rows_rise}
use Rattle.mqtt_store_database.specs.telling.Said.{SaysCopyContent, content_row, content_rows}
use Rattle.mqtt_store_database.proofs.telling_lemmas.Asking.{contents_text, contents_means}
use Rattle.mqtt_store_database.proofs.telling_lemmas.Far.{near, near_same}
use Rattle.mqtt_store_database.proofs.telling_lemmas.Joined.{joined_query, are_equal, is_at_least, queued_shown, message_shown, go_together, both_shown, shown_with, shown_of, all_shown, ordered_answer}
use Rattle.mqtt_store_database.proofs.telling_lemmas.Matching.{table_single, filter_single, Matched, matched}
use Rattle.mqtt_store_database.proofs.telling_lemmas.Numbers.{equal_itself, equal_other, at_least}
use Rattle.mqtt_store_database.proofs.telling_lemmas.Saying.{all_said}
use Rattle.mqtt_store_database.proofs.telling_lemmas.Shown.{asked_for}
use Rattle.mqtt_store_database.proofs.telling_lemmas.Standing.{queue_stands, stands_queue, queue_rises, queued, messages, message_own, only_message}

-- whole numbers that a statement finds equal are the same
equal_only : (m n : ℕ) → are_equal (number m) (number n) ≡ true → m ≡ n
equal_only m n is = elim (cases_Bool (nat_eq m n)) [
  | inl here ↦ eqb-true m n here
  | inr other ↦
      let none = equal_other m n (λ same. let both : nat_eq m n ≡ true = ap (λ (l : ℕ). nat_eq l n) same ∙ nat_eq_equiv.refl n in let no : true ≡ false = sym both ∙ other in absurd cc) in
      let never : true ≡ false = sym is ∙ none in absurd cc
]

and_false : (b : Bool) (xs : List Row) → cond (b && false) xs [] ≡ []
and_false true xs = refl
and_false false xs = refl

and_true : (b : Bool) → (b && true) ≡ b
and_true true = refl
and_true false = refl

rows_are : (xs : List CopyRow) → AreRows (λ x row. row ≡ content_row x) (map content_row xs) xs
rows_are [] = tt
rows_are (x ∷ xs) = (refl, rows_are xs)

module _ (making : Making) (db : Trees) (r : Records) (k : KeepsRowsTwo making db r) (order : AreInOrderTwo making db) (birth place limit : ℕ) where
  abbrev copies : List Row
  copies = queued making db r k

  abbrev contents : List Row
  contents = messages making db r k

  abbrev asked : Row
  asked = asked_for birth place limit

  -- the copy is of that session, from that place on
  abbrev is_wanted : Row → Bool
  is_wanted row = are_equal (column row 1) (number birth) && (is_at_least (column row 2) (number place) && true)

  -- what is shown of a row of a copy with all messages
  abbrev shown_by : Row → List Row
  shown_by row = shown_of asked (map message_shown contents) (queued_shown row)

  abbrev wanted : List CopyRow
  wanted = filter (is_from place) (queue_at birth r)

  -- the row is that of a copy that is asked for
  pub record IsWanted (x : CopyRow) (row : Row) : Type 0 where
    pub stands : InQueue r birth x
    pub from : is_from place x ≡ true
    pub there : Has copies row
    pub is : IsQueuedRow (birth, x) row

  birth_is : (x : CopyRow) (row : Row) → IsWanted x row → column row 1 ≡ number birth
  birth_is x row it = ap (λ (l : Row). column l 1) it.is.1

  place_is : (x : CopyRow) (row : Row) → IsWanted x row → column row 2 ≡ number x.place
  place_is x row it = ap (λ (l : Row). column l 2) it.is.1

  none_shown : (row : Row) → is_wanted row ≡ false → shown_by row ≡ []
  none_shown row none = flat_map_none (shown_with asked (queued_shown row)) (λ b. rw none (and_false (are_equal (column b 0) (column row 3)) (both_shown (queued_shown row) b ∷ []))) (map message_shown contents)

  -- of one that is asked for the row is shown that its message fills with it
  one_shown : (x : CopyRow) (row : Row) → IsWanted x row → shown_by row ≡ content_row x ∷ []
  one_shown x row it =
      let copy = queued_shown row in
      let publication = x.copy.id.publication in
      let message = message_own making db r k birth x it.stands in
      let test = λ (m : Row). are_equal (column m 0) (number publication) in
      let shows = λ (m : Row). cond (test m) (both_shown copy (message_shown m) ∷ []) [] in
      let first = birth_is x row it in
      let second = place_is x row it in
      let third : column row 3 ≡ number publication = ap (λ (l : Row). column l 3) it.is.1 in
      let numbered : column message.0 0 ≡ number publication = ap (λ (l : Row). column l 0) message.2 in
      let own : test message.0 ≡ true = rw numbered (equal_itself publication) in
      let alone : filter test contents ≡ message.0 ∷ [] =
      only_row contents test message.0 order.message.up message.1 own (λ m has is.
      let other = k.rows.messages.only m has in
      let its : column m 0 ≡ number other.0.publication = ap (λ (l : Row). column l 0) other.2 in
      let same = only_message making db r k birth x it.stands m has (its ∙ ap number (equal_only other.0.publication publication (rw its at is))) in
      rw same (tied_itself value_cmp_total (rowid message.0))) in
      let together : (m : Row) → go_together asked copy (message_shown m) ≡ test m = λ m. rw (first, second, third, equal_itself birth, at_least x.place place, it.from) (and_true (test m)) in
      let each : (m : Row) → shown_with asked copy (message_shown m) ≡ shows m = λ m. ap (λ (b : Bool). cond b (both_shown copy (message_shown m) ∷ []) []) (together m) in
      let shown : both_shown copy (message_shown message.0) ≡ content_row x = ap₂ (λ (a b : Row). both_shown (queued_shown a) (message_shown b)) it.is.1 message.2 in
      flat_map-map (shown_with asked copy) message_shown contents
      ∙ (flat_map_same_on (λ m. shown_with asked copy (message_shown m)) shows each contents
      ∙ (sym (flat_map-filter shows test (λ m none. rw none refl) contents)
      ∙ (ap (flat_map shows) alone ∙ (rw own (ap (λ (l : Row). l ∷ []) shown)))))

  all_wanted : (rows : List Row) (xs : List CopyRow) → AreRows IsWanted rows xs → flat_map shown_by rows ≡ map content_row xs
  all_wanted [] [] are = refl
  all_wanted [] (x ∷ xs) are = absurd are
  all_wanted (row ∷ rows) [] are = absurd are
  all_wanted (row ∷ rows) (x ∷ xs) are = rw (one_shown x row are.0, all_wanted rows xs are.1) refl

  -- the rows of the copies that are asked for
  pub rows_wanted : Matched copy_place IsWanted wanted (filter is_wanted copies)
  rows_wanted =
      matched copy_place IsWanted
      (λ x a b h l. k.single.queued a b h.there l.there (birth_is x a h ∙ sym (birth_is x b l)) (place_is x a h ∙ sym (place_is x b l)))
      (λ x y a h l. one_number (column a 2) x.place y.place (place_is x a h) (place_is y a l))
      wanted (filter is_wanted copies) (filter-ascending copy_place (is_from place) (queue_at birth r) (queue_rises birth r k.ordered)) (filter_single is_wanted copies (table_single copies order.queued.up))
      (λ x has.
      let it = kept_of x has in
      let own = k.rows.queued.each (birth, x) it.0 in
      let first : column own.0 1 ≡ number birth = ap (λ (l : Row). column l 1) own.2.1 in
      let second : column own.0 2 ≡ number x.place = ap (λ (l : Row). column l 2) own.2.1 in
      let is : is_wanted own.0 ≡ true = rw (first, second, equal_itself birth, at_least x.place place, it.1) refl in
      (own.0, has_kept is_wanted copies own.0 own.1 is, record { stands = it.0; from = it.1; there = own.1; is = own.2 }))
      (λ row has.
      let both_true = has_filtered is_wanted copies row has in
      let own = k.rows.queued.only row both_true.0 in
      let x = own.0.1 in
      let first : column row 1 ≡ number own.0.0 = ap (λ (l : Row). column l 1) own.2.1 in
      let second : column row 2 ≡ number x.place = ap (λ (l : Row). column l 2) own.2.1 in
      let both = and_parts (are_equal (column row 1) (number birth)) (is_at_least (column row 2) (number place) && true) both_true.1 in
      let mine : own.0.0 ≡ birth = equal_only own.0.0 birth (rw first at both.0) in
      let later = and_parts (is_at_least (column row 2) (number place)) true both.1 in
      let from : is_from place x ≡ true = sym (at_least x.place place) ∙ (rw second at later.0) in
      let stands : InQueue r birth x = subst (λ (b : ℕ). InQueue r b x) mine own.1 in
      (x, kept_in x stands from, record { stands = stands; from = from; there = both_true.0; is = subst (λ (b : ℕ). IsQueuedRow (b, x) row) mine own.2 }))
    where
      kept_of : (x : CopyRow) → members.Has wanted x → InQueue r birth x × (is_from place x ≡ true)
      kept_of x has = let it = filtered (queue_at birth r) x has in (queue_stands birth r x it.0, it.1)
        where
          filtered : (xs : List CopyRow) (x : CopyRow) → members.Has (filter (is_from place) xs) x → members.Has xs x × (is_from place x ≡ true)
          filtered [] x h = absurd h
          filtered (y ∷ ys) x h = elim (cases_Bool (is_from place y)) [
            | inl passed ↦
                let h2 : members.Has (y ∷ filter (is_from place) ys) x = rw passed at h in
                elim h2 [ inl here ↦ (inl here, ap (is_from place) here ∙ passed) | inr later ↦ let it = filtered ys x later in (inr it.0, it.1) ]
            | inr failed ↦
                let h2 : members.Has (filter (is_from place) ys) x = rw failed at h in
                let it = filtered ys x h2 in (inr it.0, it.1)
          ]

      kept_in : (x : CopyRow) → InQueue r birth x → is_from place x ≡ true → members.Has wanted x
      kept_in x stands from = go (queue_at birth r) (stands_queue birth r x k.ordered stands)
        where
          go : (xs : List CopyRow) → members.Has xs x → members.Has (filter (is_from place) xs) x
          go [] h = absurd h
          go (y ∷ ys) (inl here) = let passed : is_from place y ≡ true = ap (is_from place) (sym here) ∙ from in rw passed (inl here)
          go (y ∷ ys) (inr later) = elim (cases_Bool (is_from place y)) [ inl passed ↦ rw passed (inr (go ys later)) | inr failed ↦ rw failed (go ys later) ]

  -- the join shows the rows of the copies that are asked for, in some order
  shown_moved : IsPermutation (all_shown asked (map message_shown contents) (map queued_shown copies)) (map content_row wanted)
  shown_moved =
      let m = rows_wanted in
      let before : all_shown asked (map message_shown contents) (map queued_shown copies) ≡ flat_map shown_by (filter is_wanted copies) =
      flat_map-map (shown_of asked (map message_shown contents)) queued_shown copies ∙ sym (flat_map-filter shown_by is_wanted none_shown copies) in
      subst (λ l. IsPermutation l (map content_row wanted)) (sym before)
      (subst (IsPermutation (flat_map shown_by (filter is_wanted copies))) (all_wanted m.ordered wanted m.are) (IsPermutation-flat_map shown_by (filter is_wanted copies) m.ordered m.moved))

  -- an answer to the question is the first of them in the order of the queue
  pub answer_is : (rows : List Row) → IsAnswer (joined_query (message_tree making)) (overlay db []) asked rows → rows ≡ content_rows birth place limit r
  answer_is rows a =
      let up = rows_rise (λ x row. row ≡ content_row x) copy_place (λ x row is. ap (λ (l : Row). column l 0) is) (map content_row wanted) wanted (rows_are wanted) (filter-ascending copy_place (is_from place) (queue_at birth r) (queue_rises birth r k.ordered)) in
      ordered_answer (message_tree making) asked limit refl db (map content_row wanted) rows shown_moved up a

  all_sayable : AllByRecursion (λ x. IsSayableCopy x.copy) wanted
  all_sayable = go rows_wanted.ordered wanted rows_wanted.are
    where
      go : (rows : List Row) (xs : List CopyRow) → AreRows IsWanted rows xs → AllByRecursion (λ x. IsSayableCopy x.copy) xs
      go [] [] are = tt
      go [] (x ∷ xs) are = absurd are
      go (row ∷ rows) [] are = absurd are
      go (row ∷ rows) (x ∷ xs) are = (k.sayable.copies birth x are.0.stands, go rows xs are.1)

  -- what these rows say is what the copies say
  pub rows_say : (all : List CopyContent) → AreRows SaysCopyContent (content_rows birth place limit r) all → all ≡ contents_from birth place limit r
  rows_say all are = all_said limit wanted all all_sayable are

-- where the tables are written from records, the rows that are shown are those of the first copies
pub written_answers : (making : Making) (birth place limit : ℕ) (old new : State) (rows : List Row) (r : Records) → old.now.schema ≡ second_schema making → AreInOrderTwo making old.now.trees → KeepsRowsTwo making old.now.trees r
    → birth < 2 ^ 63 → place < 2 ^ 63 → Shown contents_text (asked_for (near birth) (near place) limit) old new rows → rows ≡ content_rows birth place limit r
written_answers making birth place limit old new rows r schema order k less_birth less_place shown =
    let it = contents_means making in
    let read = reads_as contents_text (asked_for (near birth) (near place) limit) old new (second_schema making) schema _ it.command it.plain it.unlisted rows shown in
    answer_is making old.now.trees r k order birth place limit rows
    (subst (λ (p : ℕ). IsAnswer (joined_query (message_tree making)) (overlay old.now.trees []) (asked_for birth p limit) rows) (near_same place less_place)
    (subst (λ (b : ℕ). IsAnswer (joined_query (message_tree making)) (overlay old.now.trees []) (asked_for b (near place) limit) rows) (near_same birth less_birth) (read.answer Null)))
