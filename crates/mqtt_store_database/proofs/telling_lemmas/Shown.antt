-- What is shown of copies with their messages says what the queue of the session says.
use Rattle.std.proofs.Common.{◌≡◌, ◌≢◌, ℕ, Bool, true, false, ◌&&◌, nat_eq, cond, List, [], ◌∷◌, ◌++◌, filter, flat_map, refl, sym, ap, ap₂, ◌∙◌, subst, inl, inr, arith, append-nil}
use Rattle.std.specs.Prelude.{Some}
use Rattle.std.proofs.lemmas.Bool.{cases_Bool, eqb-true}
use Rattle.std.proofs.lemmas.Cmp.{nat_eq_equiv}
use Rattle.std.proofs.lemmas.Grind.{flat_map-append}
use Rattle.sqlite_keyed.proofs.ListLemmas.{flat_map_none, flat_map_same_on}
use Rattle.sqlite_value.specs.Order.{Row, column}
use Rattle.mqtt_records.specs.messages.Queue.{CopyRow}
use Rattle.mqtt_records.specs.lists.Order.{IsAbove, IsAscending, row_at}
use Rattle.mqtt_records.specs.state.Contents.{StoredMessage, copy_message}
use Rattle.mqtt_records.specs.declared.state.session.Session.{Session}
use Rattle.mqtt_records.specs.state.Session.{birth_of}
use Rattle.mqtt_store_rows.specs.values.Values.{number}
use Rattle.mqtt_store_rows.specs.values.Lists.{AreRows, AllOf}
use Rattle.mqtt_store_rows.specs.rows.Rows.{SaysMessage}
use Rattle.mqtt_store_rows.specs.rows.Joins.{publication_of, SaysCopy}
use Rattle.mqtt_store_rows.specs.rows.Gives.{AreQueues}
use Rattle.mqtt_records.specs.state.Telling.{copy_content, queue_or_none, is_from}
use Rattle.mqtt_store_database.specs.telling.Said.{SaysCopyContent}
use Rattle.mqtt_store_database.proofs.telling_lemmas.Joined.{are_equal, is_at_least, both_shown, shown_with, shown_of, all_shown}
use Rattle.mqtt_store_database.proofs.telling_lemmas.Numbers.{equal_itself, equal_other, at_least}

-- the row joins this copy with its message
abbrev pub Says : CopyRow → Row → Type 0
Says x row = SaysCopyContent (copy_content x) row

-- what is asked for
abbrev pub asked_for : ℕ → ℕ → ℕ → Row
asked_for birth place limit = number birth ∷ number place ∷ number limit ∷ []

-- ---- one copy

-- the row of the message with this number, and that it is the only one
record Found (rows : List Row) (m : StoredMessage) : Type 0 where
  row : Row
  says : SaysMessage m row
  only : (f : Row → List Row) → flat_map (λ b. cond (are_equal (column b 0) (number m.publication)) (f b) []) rows ≡ f row ++ []

above_apart : (n : ℕ) (rows : List Row) (messages : List StoredMessage) (f : Row → List Row) → AreRows SaysMessage rows messages → IsAbove publication_of n messages
    → flat_map (λ b. cond (are_equal (column b 0) (number n)) (f b) []) rows ≡ []
above_apart n [] messages f are up = refl
above_apart n (row ∷ rows) [] f are up = absurd are
above_apart n (row ∷ rows) (m ∷ messages) f are up =
    let more = up.0 in
    let other : are_equal (column row 0) (number n) ≡ false = rw are.0.publication (equal_other m.publication n (λ same. omega (arith, more, same))) in
    rw other (above_apart n rows messages f are.1 up.1)

find_message : (rows : List Row) (messages : List StoredMessage) (m : StoredMessage) → AreRows SaysMessage rows messages → IsAscending publication_of messages → row_at publication_of m.publication messages ≡ Some m → Found rows m
find_message [] [] m are up found = absurd cc
find_message [] (l ∷ messages) m are up found = absurd are
find_message (row ∷ rows) [] m are up found = absurd are
find_message (row ∷ rows) (l ∷ messages) m are up found = elim (cases_Bool (nat_eq l.publication m.publication)) [
  | inl here ↦
      let first : Some l ≡ Some m = ap (λ (b : Bool). cond b (Some l) (row_at publication_of m.publication messages)) (sym here) ∙ found in
      let same : l ≡ m = cc in
      let says : SaysMessage m row = subst (λ (x : StoredMessage). SaysMessage x row) same are.0 in
      record {
        row = row;
        says = says;
        only = λ f.
            let equal : are_equal (column row 0) (number m.publication) ≡ true = rw says.publication (equal_itself m.publication) in
            let others = above_apart m.publication rows messages f are.1 (subst (λ (x : StoredMessage). IsAbove publication_of x.publication messages) same up.0) in
            rw (equal, others) refl;
      }
  | inr other ↦
      let later = find_message rows messages m are.1 up.1 (ap (λ (b : Bool). cond b (Some l) (row_at publication_of m.publication messages)) (sym other) ∙ found) in
      record {
        row = later.row;
        says = later.says;
        only = λ f.
            let differ : are_equal (column row 0) (number m.publication) ≡ false = rw are.0.publication (equal_other l.publication m.publication (λ same. let both : nat_eq l.publication m.publication ≡ true = ap (λ (n : ℕ). nat_eq n m.publication) same ∙ nat_eq_equiv.refl m.publication in let no : true ≡ false = sym both ∙ other in absurd cc)) in
            rw differ (later.only f);
      }
]

module _ (birth place limit : ℕ) (messages : List StoredMessage) (rows : List Row) (are_messages : AreRows SaysMessage rows messages) (order : IsAscending publication_of messages) where
  abbrev asked : Row
  asked = asked_for birth place limit

  -- the copy's own part of the question
  abbrev is_asked : Row → Bool
  is_asked copy = are_equal (column copy 0) (number birth) && (is_at_least (column copy 1) (number place) && true)

  and_false : (b : Bool) (xs : List Row) → cond (b && false) xs [] ≡ []
  and_false true xs = refl
  and_false false xs = refl

  and_true : (b : Bool) → (b && true) ≡ b
  and_true true = refl
  and_true false = refl

  -- nothing is shown of a copy that isn't asked for
  none_shown : (copy : Row) → is_asked copy ≡ false → shown_of asked rows copy ≡ []
  none_shown copy no_part = flat_map_none (shown_with asked copy) (λ b. rw no_part (and_false (are_equal (column b 0) (column copy 2)) (both_shown copy b ∷ []))) rows

  -- of one that is asked for, it is shown with its message
  one_shown : (copy : Row) (x : CopyRow) → is_asked copy ≡ true → SaysCopy messages x copy → (row : Row) × Says x row × (shown_of asked rows copy ≡ row ∷ [])
  one_shown copy x part says =
      let found = find_message rows messages (copy_message x) are_messages order says.message in
      let number_of = number x.copy.id.publication in
      let each : (b : Row) → shown_with asked copy b ≡ cond (are_equal (column b 0) number_of) (both_shown copy b ∷ []) [] =
      λ b. rw (part, says.own.own.id.publication) (ap (λ (t : Bool). cond t (both_shown copy b ∷ []) []) (and_true (are_equal (column b 0) number_of))) in
      let shown : shown_of asked rows copy ≡ both_shown copy found.row ∷ [] =
      flat_map_same_on (shown_with asked copy) (λ b. cond (are_equal (column b 0) number_of) (both_shown copy b ∷ []) []) each rows ∙ found.only (λ b. both_shown copy b ∷ []) in (
        both_shown copy found.row,
        record {
          place = says.own.place;
          place_range = says.own.place_range;
          identifiers = says.own.own.identifiers;
          topic = found.says.topic;
          topic_range = found.says.topic_range;
          properties = found.says.properties;
          payload = found.says.payload;
        },
        shown,
      )

  -- ---- the copies of one session

  with_own : (copy row : Row) (front : List Row) (x : CopyRow) (queue : List CopyRow) → is_from place x ≡ true → shown_of asked rows copy ≡ row ∷ [] → Says x row
      → AreRows Says (all_shown asked rows front) (filter (is_from place) queue) → AreRows Says (all_shown asked rows (copy ∷ front)) (filter (is_from place) (x ∷ queue))
  with_own copy row front x queue within shown says later = rw (within, shown) (says, later)

  without_own : (copy : Row) (front : List Row) (x : CopyRow) (queue : List CopyRow) → is_from place x ≡ false → shown_of asked rows copy ≡ []
      → AreRows Says (all_shown asked rows front) (filter (is_from place) queue) → AreRows Says (all_shown asked rows (copy ∷ front)) (filter (is_from place) (x ∷ queue))
  without_own copy front x queue before shown later = rw (before, shown) later

  own_shown : (front : List Row) (queue : List CopyRow) → AllOf birth front → AreRows (SaysCopy messages) front queue → AreRows Says (all_shown asked rows front) (filter (is_from place) queue)
  own_shown [] [] mine are = tt
  own_shown [] (x ∷ queue) mine are = absurd are
  own_shown (copy ∷ front) [] mine are = absurd are
  own_shown (copy ∷ front) (x ∷ queue) mine are =
      let later = own_shown front queue mine.1 are.1 in
      let here : are_equal (column copy 0) (number birth) ≡ true = rw mine.0 (equal_itself birth) in
      let from : is_at_least (column copy 1) (number place) ≡ is_from place x = rw are.0.own.place (at_least x.place place) in
      elim (cases_Bool (is_from place x)) [
        | inl within ↦
            let one = one_shown copy x (rw (here, from, within) refl) are.0 in
            with_own copy one.0 front x queue within one.2 one.1 later
        | inr before ↦
            let none = none_shown copy (rw (here, from, before) refl) in
            without_own copy front x queue before none later
      ]

  others_shown : (b : ℕ) (front : List Row) → b ≢ birth → AllOf b front → all_shown asked rows front ≡ []
  others_shown b [] other mine = refl
  others_shown b (copy ∷ front) other mine =
      let differ : are_equal (column copy 0) (number birth) ≡ false = rw mine.0 (equal_other b birth other) in
      let none = none_shown copy (rw differ refl) in
      rw (none, others_shown b front other mine.1) refl

  -- ---- the queues of all sessions

  later_shown : (queued : List Row) (ss : List Session) → AreQueues messages queued ss → IsAbove birth_of birth ss → all_shown asked rows queued ≡ []
  later_shown queued [] are up = rw are refl
  later_shown queued (s ∷ ss) are up =
      let less = up.0 in
      let own = others_shown s.birth are.1.front (λ same. omega (arith, less, same)) are.1.mine in
      let behind = later_shown are.0 ss are.2 up.1 in
      rw are.1.parts (flat_map-append (shown_of asked rows) are.1.front are.0 ∙ ap₂ ◌++◌ own behind)

  -- of all copies those of the session are shown, from the place on
  pub queue_shown : (queued : List Row) (ss : List Session) → AreQueues messages queued ss → IsAscending birth_of ss → AreRows Says (all_shown asked rows queued) (filter (is_from place) (queue_or_none (row_at birth_of birth ss)))
  queue_shown queued [] are up = rw are tt
  queue_shown queued (s ∷ ss) are up =
      let parts : all_shown asked rows queued ≡ all_shown asked rows are.1.front ++ all_shown asked rows are.0 = rw are.1.parts (flat_map-append (shown_of asked rows) are.1.front are.0) in
      elim (cases_Bool (nat_eq s.birth birth)) [
        | inl here ↦
            let same : s.birth ≡ birth = eqb-true s.birth birth here in
            let none = later_shown are.0 ss are.2 (subst (λ (n : ℕ). IsAbove birth_of n ss) same up.0) in
            let own = own_shown are.1.front s.queue (subst (λ (n : ℕ). AllOf n are.1.front) same are.1.mine) are.1.are in
            rw (here, parts, none, append-nil (all_shown asked rows are.1.front)) own
        | inr other ↦
            let none = others_shown s.birth are.1.front (λ same. let both : nat_eq s.birth birth ≡ true = ap (λ (n : ℕ). nat_eq n birth) same ∙ nat_eq_equiv.refl birth in let no : true ≡ false = sym both ∙ other in absurd cc) are.1.mine in
            rw (other, parts, none) (queue_shown are.0 ss are.2 up.1)
      ]
