-- What a question that joins copies with their messages shows.
use Rattle.std.proofs.Common.{◌≡◌, ℕ, ◌+◌, ◌-◌, ◌^◌, nat_le, pos, Bool, true, false, ◌&&◌, cond, List, [], ◌∷◌, ◌++◌, map, flat_map, take, slice_get, unwrap_or, None, refl, sym, ap, ap₂, ◌∙◌, subst, Less, IsPermutation}
use Rattle.std.specs.List.{list_all}
use Rattle.std.proofs.lemmas.List.{map-append}
use Rattle.std.proofs.lemmas.List.Sorted.{IsPermutation-trans, IsPermutation-map, IsPermutation-sym}
use Rattle.sqlite_keyed.proofs.SortLemmas.{sorted_unique}
use Rattle.sqlite_keyed.proofs.ListLemmas.{IsPermutation-flat_map, IsPermutation-flat_map_each, ascending-map}
use Rattle.sqlite_value.specs.declared.value.Value.{Value}
use Rattle.sqlite_value.specs.declared.value.Value.TheVariants.{Int}
use Rattle.sqlite_value.specs.declared.keys.Collation.TheVariants.{Binary}
use Rattle.sqlite_value.specs.Keys.{ascending}
use Rattle.sqlite_value.specs.Order.{Row, column}
use Rattle.sqlite_trees.specs.Tree.{Trees, IsAscending}
use Rattle.sqlite_sql.specs.declared.ops.BinaryOp.TheVariants.{Compare}
use Rattle.sqlite_sql.specs.declared.ops.CompareOp.TheVariants.{Eq, Ge}
use Rattle.sqlite_sql.specs.Ops.{is_true, binary}
use Rattle.sqlite_sql.specs.Program.{overlay}
use Rattle.sqlite_sql.proofs.QueryLemmas.{output_cmp_total}
use Rattle.sqlite.specs.Term.{Term, lit, col, op2, holds}
use Rattle.sqlite.specs.Query.{Query, inner, end, IsAnswer, Output, output, output_cmp}
use Rattle.mqtt_store_database.specs.asking.Listing.{shown_at, by_columns, IsListingOf}
use Rattle.mqtt_store_database.specs.declared.reading.reading.AddedTable.TheVariants.{Message, Queued}
use Rattle.mqtt_store_database.specs.reading.Listing.{added_columns, added_key}

-- the number of the message is that of the copy; the copy is of the birth, and its place is at least the one asked for
abbrev pub tests : List Term
tests = op2 (Compare Eq Binary) (col 2 0) (col 1 3) ∷ op2 (Compare Eq Binary) (col 1 1) (col 0 0) ∷ op2 (Compare Ge Binary) (col 1 2) (col 0 1) ∷ []

-- place and Subscription Identifiers of the copy, and topic, properties and payload of the message, by place; at most as many as asked for
abbrev pub joined_query : ℕ → Query
joined_query tree = record {
  from = inner (tree + 1) (inner tree end);
  filter = tests;
  group = None;
  project = col 1 2 ∷ col 1 12 ∷ col 2 2 ∷ col 2 3 ∷ col 2 4 ∷ [];
  distinct = false;
  collations = [];
  order = (col 1 2, ascending Binary) ∷ [];
  limit = col 0 2;
  offset = lit (Int (pos 0));
}

abbrev pub are_equal : Value → Value → Bool
are_equal a b = is_true (binary (Compare Eq Binary) a b)

abbrev pub is_at_least : Value → Value → Bool
is_at_least a b = is_true (binary (Compare Ge Binary) a b)

-- a row of each as a load reads it
abbrev pub queued_shown : Row → Row
queued_shown = shown_at (added_columns Queued)

abbrev pub message_shown : Row → Row
message_shown = shown_at (added_columns Message)

-- of such rows: whether a copy and a message go together for the question
abbrev pub go_together : Row → Row → Row → Bool
go_together asked copy message = are_equal (column message 0) (column copy 2) && (are_equal (column copy 0) (column asked 0) && (is_at_least (column copy 1) (column asked 1) && true))

-- and what is shown of them
abbrev pub both_shown : Row → Row → Row
both_shown copy message = column copy 1 ∷ column copy 11 ∷ column message 1 ∷ column message 2 ∷ column message 3 ∷ []

abbrev pub shown_with : Row → Row → Row → List Row
shown_with asked copy message = cond (go_together asked copy message) (both_shown copy message ∷ []) []

-- of a copy with all messages, and of all copies
abbrev pub shown_of : Row → List Row → Row → List Row
shown_of asked messages copy = flat_map (shown_with asked copy) messages

abbrev pub all_shown : Row → List Row → List Row → List Row
all_shown asked messages queued = flat_map (shown_of asked messages) queued

-- a row that is shown, with what it is sorted by
abbrev tagged : Row → Output
tagged row = (column row 0 ∷ [], row)

abbrev no_lists : List (List Row)
no_lists = []

overlay_none : (db : Trees) (t : ℕ) → overlay db [] t ≡ db t
overlay_none db t = elim (nat_le (2 ^ 31) t) as (λ b. unwrap_or (cond b (slice_get no_lists (t - 2 ^ 31)) None) (db t) ≡ db t) [ true ↦ refl | false ↦ refl ]

module _ (tree : ℕ) (asked : Row) where
  -- the rows that a copy and a message fill, if they pass
  abbrev filled : Row → Row → List (List Row)
  filled copy message = cond (list_all (holds (asked ∷ copy ∷ message ∷ [])) tests) ((asked ∷ copy ∷ message ∷ []) ∷ []) []

  one_output : (copy message : Row) → map (output (joined_query tree)) (filled copy message) ≡ map tagged (shown_with asked (queued_shown copy) (message_shown message))
  one_output copy message =
      elim (go_together asked (queued_shown copy) (message_shown message)) as
      (λ b. map (output (joined_query tree)) (cond b ((asked ∷ copy ∷ message ∷ []) ∷ []) []) ≡ map tagged (cond b (both_shown (queued_shown copy) (message_shown message) ∷ []) []))
      [ true ↦ refl | false ↦ refl ]

  outputs_with : (messages : List Row) (copy : Row)
      → map (output (joined_query tree)) (flat_map (filled copy) messages) ≡ map tagged (shown_of asked (map message_shown messages) (queued_shown copy))
  outputs_with [] copy = refl
  outputs_with (m ∷ messages) copy =
      let q = joined_query tree in
      let shown = queued_shown copy in
      let all = shown_of asked (map message_shown messages) shown in
      map-append (output q) (filled copy m) (flat_map (filled copy) messages)
      ∙ (ap₂ ◌++◌ (one_output copy m) (outputs_with messages copy) ∙ sym (map-append tagged (shown_with asked shown (message_shown m)) all))

  outputs : (messages queued : List Row)
      → map (output (joined_query tree)) (flat_map (λ copy. flat_map (filled copy) messages) queued) ≡ map tagged (all_shown asked (map message_shown messages) (map queued_shown queued))
  outputs messages [] = refl
  outputs messages (copy ∷ queued) =
      let q = joined_query tree in
      let shown = map message_shown messages in
      map-append (output q) (flat_map (filled copy) messages) (flat_map (λ copy. flat_map (filled copy) messages) queued)
      ∙ (ap₂ ◌++◌ (outputs_with messages copy) (outputs messages queued)
      ∙ sym (map-append tagged (shown_of asked shown (queued_shown copy)) (all_shown asked shown (map queued_shown queued))))

  -- listings of copies and messages show the same, in some order
  reordered : (xs ys us vs : List Row) → IsPermutation xs ys → IsPermutation us vs → IsPermutation (all_shown asked xs us) (all_shown asked ys vs)
  reordered xs ys us vs p q =
      IsPermutation-trans _ _ _
      (IsPermutation-flat_map_each (shown_of asked xs) (shown_of asked ys) (λ copy. IsPermutation-flat_map (shown_with asked copy) xs ys p) us)
      (IsPermutation-flat_map (shown_of asked ys) us vs q)

  tagged_shown : (rows : List Row) → map (λ (o : Output). o.1) (map tagged rows) ≡ rows
  tagged_shown [] = refl
  tagged_shown (r ∷ rows) = ap (λ rest. r ∷ rest) (tagged_shown rows)

  -- if some order of what is shown rises by place, the answer is the first rows in it
  pub ordered_answer : (n : ℕ) → column asked 2 ≡ Int (pos n) → (db : Trees) (both rows : List Row) → IsPermutation (all_shown asked (map message_shown (db tree)) (map queued_shown (db (tree + 1)))) both
      → IsAscending (λ r s. by_columns (0 ∷ []) r s ≡ Less) both → IsAnswer (joined_query tree) (overlay db []) (asked) rows → rows ≡ take n both
  ordered_answer n limit db both rows moved up a =
      let q = joined_query tree in
      let staged : a.staged ≡ flat_map (λ copy. flat_map (filled copy) (db tree)) (db (tree + 1)) =
      a.grouped ∙ (λ i. flat_map (λ copy. flat_map (filled copy) (overlay_none db tree i)) (overlay_none db (tree + 1) i)) in
      let kept : a.kept ≡ map tagged (all_shown asked (map message_shown (db tree)) (map queued_shown (db (tree + 1)))) =
      a.distinct ∙ (ap (map (output q)) staged ∙ outputs (db tree) (db (tree + 1))) in
      let same : IsPermutation (map tagged both) a.ordered = IsPermutation-trans _ _ _ (IsPermutation-sym _ _ (IsPermutation-map tagged _ _ moved)) (subst (λ k. IsPermutation k a.ordered) kept a.same) in
      let ordered : a.ordered ≡ map tagged both =
      sorted_unique (output_cmp q) (output_cmp_total q) (map tagged both) a.ordered (ascending-map (λ o p. output_cmp q o p ≡ Less) tagged both up) same a.sorted in
      a.shown ∙ (rw (ordered, tagged_shown both, limit) refl)

  -- so it is if what is shown of the listings rises by place
  pub joined_answer : (n : ℕ) → column asked 2 ≡ Int (pos n) → (db : Trees) (messages queued rows : List Row) → IsListingOf (added_columns Message) (added_key Message) (db tree) messages → IsListingOf (added_columns Queued) (added_key Queued) (db (tree + 1)) queued
      → IsAscending (λ r s. by_columns (0 ∷ []) r s ≡ Less) (all_shown asked messages queued) → IsAnswer (joined_query tree) (overlay db []) (asked) rows → rows ≡ take n (all_shown asked messages queued)
  joined_answer n limit db messages queued rows of_messages of_queued up a =
      ordered_answer n limit db (all_shown asked messages queued) rows (reordered _ messages _ queued of_messages.each of_queued.each) up a
