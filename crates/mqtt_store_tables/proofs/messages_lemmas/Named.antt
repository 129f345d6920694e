-- The numbers that were told of rows, and the messages that are let go with these rows.
use Rattle.std.proofs.Common.{◌≡◌, ◌⊎◌, ℕ, ℤ, pos, Bool, true, false, not, ◌&&◌, ◌||◌, List, [], ◌∷◌, ◌++◌, map, filter, Option, Some, None, option_to_list, refl, sym, ap, ◌∙◌, subst, inl, inr, IsTrue, true≢false}
use Rattle.std.specs.List.{list_any}
use Rattle.std.proofs.lemmas.List.Sorted.{IsPermutation-refl, IsPermutation-sym}
use Rattle.std.specs.Cmp.{both_ways}
use Rattle.std.proofs.lemmas.Bool.{cases_Bool, and_parts, and_from}
use Rattle.sqlite_value.specs.declared.value.Value.{Value}
use Rattle.sqlite_value.specs.declared.value.Value.TheVariants.{Int}
use Rattle.sqlite_value.specs.declared.keys.Collation.TheVariants.{Binary}
use Rattle.sqlite_value.specs.Order.{Row, column}
use Rattle.sqlite_trees.specs.Tree.{Trees, rowid}
use Rattle.sqlite_trees.specs.View.{is_int}
use Rattle.sqlite_schema.specs.Rules.{equal}
use Rattle.sqlite_rules.specs.Lists.{Has}
use Rattle.sqlite_rules.specs.Edit.{id_in}
use Rattle.sqlite_rules.proofs.ListLemmas.{all_has, some_has, some_from, has_filtered, has_kept}
use Rattle.sqlite_rules.proofs.TableLemmas.{int_is}
use Rattle.mqtt_store_tables.specs.declared.schema.tables.Making.{Making}
use Rattle.mqtt_store_tables.specs.statements.Layout.{second_layout}
use Rattle.mqtt_store_tables.specs.statements.Content.{is_of, IsShapedAt}
use Rattle.mqtt_store_tables.specs.statements.Removal.{RemovesFrom}
use Rattle.mqtt_store_tables.proofs.statements_lemmas.tables.Rows.{has_permuted}
use Rattle.mqtt_store_tables.proofs.statements_lemmas.deletes.Removal.{has_map, map_has}
use Rattle.mqtt_store_tables.proofs.statements_lemmas.puts.PutSession.{own_number}
use Rattle.mqtt_store_tables.proofs.statements_lemmas.tables.Numbers.{own_number as finds_itself}
use Rattle.mqtt_store_tables.specs.messages.Places.{message_tree, queued_tree, kept_tree}
use Rattle.mqtt_store_tables.specs.messages.Messages.{is_referred}
use Rattle.mqtt_store_tables.specs.messages.References.{as_row, as_rows, Finds, FindsAll}
use Rattle.mqtt_store_tables.specs.messages.Letting.{is_let_go, is_swept, SweepsAll}
use Rattle.mqtt_store_tables.proofs.messages_lemmas.Sweeping.{gone_alike}

-- the numbers are those to which the rows that pass refer
pub record AreNamed (tree at : ℕ) (passes : Row → Bool) (numbers : List ℕ) (db : Trees) : Type 0 where
  pub each : (x : Row) → Has (db tree) x → passes x ≡ true → (n : ℕ) × Has numbers n × (column x at ≡ Int (pos n))
  pub only : (n : ℕ) → Has numbers n → list_any (is_of at (pos n)) (db tree) ≡ true

module _ (tree at : ℕ) (passes : Row → Bool) (db : Trees) where
  -- numbers that were told of all rows that pass
  pub named_all : (numbers : List ℕ) → FindsAll tree at passes numbers db → AreNamed tree at passes numbers db
  named_all numbers h =
      let rows = filter passes (db tree) in
      let shown = map (λ r. column r at) rows in
      record {
        each = λ x has passing.
            let told = has_permuted shown (as_rows numbers) (column x at) h (map_has (λ (r : Row). column r at) rows x (has_kept passes (db tree) x has passing)) in
            has_map (λ (n : ℕ). Int (pos n)) numbers (column x at) told;
        only = λ n has.
            let there = has_permuted (as_rows numbers) shown (Int (pos n)) (IsPermutation-sym shown (as_rows numbers) h) (map_has (λ (n : ℕ). Int (pos n)) numbers n has) in
            let x = has_map (λ (r : Row). column r at) rows (Int (pos n)) there in
            let stood = has_filtered passes (db tree) x.0 x.1 in
            some_from (is_of at (pos n)) (db tree) x.0 stood.0 (rw (← x.2) (finds_itself n));
      }

  as_list : (found : Option ℕ) → as_row found ≡ as_rows (option_to_list found)
  as_list None = refl
  as_list (Some n) = refl

  -- the number that was told of the one row that passes, or none
  pub named_found : (found : Option ℕ) → Finds tree at passes found db → AreNamed tree at passes (option_to_list found) db
  named_found found h =
      named_all (option_to_list found) (rw (h ∙ as_list found) (IsPermutation-refl (as_rows (option_to_list found))))

has_left : {X : Type 0} (xs ys : List X) (x : X) → Has xs x → Has (xs ++ ys) x
has_left [] ys x h = absurd h
has_left (y ∷ xs) ys x (inl same) = inl same
has_left (y ∷ xs) ys x (inr later) = inr (has_left xs ys x later)

has_right : {X : Type 0} (xs ys : List X) (x : X) → Has ys x → Has (xs ++ ys) x
has_right [] ys x h = h
has_right (y ∷ xs) ys x h = inr (has_right xs ys x h)

has_either : {X : Type 0} (xs ys : List X) (x : X) → Has (xs ++ ys) x → Has xs x ⊎ Has ys x
has_either [] ys x h = inr h
has_either (y ∷ xs) ys x (inl same) = inl (inl same)
has_either (y ∷ xs) ys x (inr later) = elim (has_either xs ys x later) [ inl mine ↦ inl (inr mine) | inr other ↦ inr other ]

-- one of both holds
pub or_true : (a b : Bool) → (a || b) ≡ true → (a ≡ true) ⊎ (b ≡ true)
or_true true b h = inl refl
or_true false b h = inr h

-- if one of both holds, either does
pub or_from : (a b : Bool) → (a ≡ true) ⊎ (b ≡ true) → (a || b) ≡ true
or_from true b h = refl
or_from false b (inl h) = absurd (true≢false (sym h))
or_from false b (inr h) = h

-- neither holds
pub or_none : (a b : Bool) → (a || b) ≡ false → (a ≡ false) × (b ≡ false)
or_none true b h = absurd (true≢false h)
or_none false b h = (refl, h)

-- numbers that were told of rows that pass one test, and of those that pass another
pub named_both : (tree at : ℕ) (p q : Row → Bool) (xs ys : List ℕ) (db : Trees) → AreNamed tree at p xs db → AreNamed tree at q ys db → AreNamed tree at (λ r. p r || q r) (xs ++ ys) db
named_both tree at p q xs ys db one other = record {
  each = λ x has passing. elim (or_true (p x) (q x) passing) [
    | inl passes ↦ let it = one.each x has passes in (it.0, has_left xs ys it.0 it.1, it.2)
    | inr passes ↦ let it = other.each x has passes in (it.0, has_right xs ys it.0 it.1, it.2)
  ];
  only = λ n has. elim (has_either xs ys n has) [ inl mine ↦ one.only n mine | inr mine ↦ other.only n mine ];
}

-- of the rows that pass the numbers were told, and the others stand still
pub record AreTold (tree at : ℕ) (passes : Row → Bool) (numbers : List ℕ) (old mid : Trees) : Type 0 where
  pub each : (x : Row) → Has (old tree) x → passes x ≡ true → (n : ℕ) × Has numbers n × (column x at ≡ Int (pos n))
  pub stays : (x : Row) → Has (old tree) x → passes x ≡ false → Has (mid tree) x

-- a number to which rows of the table referred, and do no more, was told
was_told : (tree at : ℕ) (passes : Row → Bool) (numbers : List ℕ) (old mid : Trees) → AreTold tree at passes numbers old mid → (k : ℤ) → list_any (is_of at k) (old tree) ≡ true → list_any (is_of at k) (mid tree) ≡ false
    → (n : ℕ) × Has numbers n × (k ≡ pos n)
was_told tree at passes numbers old mid told k before after =
    let x = some_has (is_of at k) (old tree) before in
    elim (cases_Bool (passes x.0)) [
      | inl passing ↦
          let it = told.each x.0 x.1 passing in
          let same : Int (pos it.0) ≡ Int k = own_number (Int (pos it.0)) k refl (rw it.2 at x.2) in
          (it.0, it.1, cc)
      | inr isnt ↦ absurd (true≢false (sym (some_from (is_of at k) (mid tree) x.0 (told.stays x.0 x.1 isnt) x.2) ∙ after))
    ]

untrue : (b : Bool) → not b ≡ true → b ≡ false
untrue true h = absurd (true≢false (sym h))
untrue false h = refl

module _ (making : Making) (numbers : List ℕ) (old mid : Trees)
    (only : (n : ℕ) → Has numbers n → is_referred making (pos n) old ≡ true)
    (each : (k : ℤ) → is_referred making k old ≡ true → is_referred making k mid ≡ false → (n : ℕ) × Has numbers n × (k ≡ pos n)) where
  -- the messages that are swept are those that were let go
  swept_are : (r : Row) → IsTrue (is_int (rowid r)) → is_swept making numbers mid r ≡ is_let_go making old mid r
  swept_are r int =
      let test = λ (n : ℕ). is_of 0 (pos n) r && not (is_referred making (pos n) mid) in
      let number : rowid r ≡ Int (id_in (rowid r)) = int_is (rowid r) int in
      both_ways (is_swept making numbers mid r) (is_let_go making old mid r)
      (λ swept.
      let n = some_has test numbers swept in
      let parts = and_parts _ _ n.2 in
      let is : pos n.0 ≡ id_in (rowid r) = sym (ap id_in (own_number (rowid r) (pos n.0) int parts.0)) in
      subst (λ (k : ℤ). (is_referred making k old && not (is_referred making k mid)) ≡ true) is (and_from _ _ (only n.0 n.1) parts.1))
      (λ gone.
      let parts = and_parts _ _ gone in
      let n = each (id_in (rowid r)) parts.0 (untrue _ parts.1) in
      let is : Int (pos n.0) ≡ rowid r = sym (number ∙ ap Int n.2) in
      let own : is_of 0 (pos n.0) r ≡ true = subst (λ (v : Value). equal Binary v (Int (pos n.0)) ≡ true) is (finds_itself n.0) in
      some_from test numbers n.0 n.1 (and_from _ _ own (subst (λ (k : ℤ). not (is_referred making k mid) ≡ true) n.2 parts.1)))

  -- so to sweep them is to take out those that were let go
  pub lets_go : (new : Trees) → IsShapedAt mid (message_tree making) → SweepsAll making numbers mid new → RemovesFrom (second_layout making) (message_tree making) (is_let_go making old mid) mid new
  lets_go new shaped h = gone_alike making (is_swept making numbers mid) mid new (is_let_go making old mid) (λ r has. swept_are r (all_has _ (mid (message_tree making)) r shaped.ints has)) h

module _ (making : Making) (passes : Row → Bool) (numbers : List ℕ) (old mid new : Trees) (shaped : IsShapedAt mid (message_tree making)) where
  -- if copies go whose numbers were told, sweeping these takes out what was let go
  pub copies_let_go : AreNamed (queued_tree making) 3 passes numbers old → ((x : Row) → Has (old (queued_tree making)) x → passes x ≡ false → Has (mid (queued_tree making)) x) → mid (kept_tree making) ≡ old (kept_tree making)
      → SweepsAll making numbers mid new → RemovesFrom (second_layout making) (message_tree making) (is_let_go making old mid) mid new
  copies_let_go named stays same h = lets_go making numbers old mid
      (λ n has. or_from _ _ (inl (named.only n has)))
      (λ k before after.
      let none = or_none _ _ after in
      elim (or_true _ _ before) [
        | inl here ↦ was_told (queued_tree making) 3 passes numbers old mid (record { each = named.each; stays = stays }) k here none.0
        | inr there ↦ absurd (true≢false (sym there ∙ (ap (list_any (is_of 4 k)) (sym same) ∙ none.1)))
      ])
      new shaped h

  -- if retained messages go whose numbers were told, sweeping these takes out what was let go
  pub kept_let_go : AreNamed (kept_tree making) 4 passes numbers old → ((x : Row) → Has (old (kept_tree making)) x → passes x ≡ false → Has (mid (kept_tree making)) x) → mid (queued_tree making) ≡ old (queued_tree making)
      → SweepsAll making numbers mid new → RemovesFrom (second_layout making) (message_tree making) (is_let_go making old mid) mid new
  kept_let_go named stays same h = lets_go making numbers old mid
      (λ n has. or_from _ _ (inr (named.only n has)))
      (λ k before after.
      let none = or_none _ _ after in
      elim (or_true _ _ before) [
        | inl there ↦ absurd (true≢false (sym there ∙ (ap (list_any (is_of 3 k)) (sym same) ∙ none.0)))
        | inr here ↦ was_told (kept_tree making) 4 passes numbers old mid (record { each = named.each; stays = stays }) k here none.1
      ])
      new shaped h
