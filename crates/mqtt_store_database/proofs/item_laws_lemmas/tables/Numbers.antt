-- The table of numbers after one is set, whatever stands behind.
use Rattle.std.proofs.Common.{◌≡◌, ◌⊎◌, ℕ, ℤ, Bool, true, false, cond, bytes_eq, List, [], ◌∷◌, map, refl, sym, ap, ◌∙◌, inl, inr, true≢false}
use Rattle.std.specs.Ordering.{is_eq}
use Rattle.std.proofs.lemmas.Bool.{cases_Bool, false_from_ne_true}
use Rattle.std.proofs.lemmas.Cmp.{tied_itself}
use Rattle.std.proofs.lemmas.Slice.Eq.{bytes_eq-Decides}
use Rattle.sqlite_value.specs.declared.value.Value.{Value}
use Rattle.sqlite_value.specs.declared.value.Value.TheVariants.{Int, Text}
use Rattle.sqlite_value.specs.Order.{Row, column, value_cmp}
use Rattle.sqlite_value.proofs.OrderLemmas.{value_cmp_total}
use Rattle.sqlite_trees.specs.Tree.{Trees, rowid, has_rowid}
use Rattle.sqlite_rules.specs.Lists.{Has}
use Rattle.sqlite_rules.proofs.PlaceLemmas.{tied_same}
use Rattle.mqtt_records.specs.state.Members.{Has as HasItem}
use Rattle.mqtt_store_tables.specs.statements.Layout.{Layout}
use Rattle.mqtt_store_tables.specs.statements.Content.{IsShapedAt}
use Rattle.mqtt_store_tables.specs.statements.Numbers.{number_row, SetsNumber}
use Rattle.mqtt_store_tables.specs.statements.Put.{PutsInto}
use Rattle.mqtt_store_tables.proofs.statements_lemmas.tables.Rows.{equal_is}
use Rattle.mqtt_store_database.specs.item_laws.Items.{IsNumberRow}
use Rattle.mqtt_store_database.specs.item_laws.Written.{AreWritten}
use Rattle.mqtt_store_database.proofs.item_laws_lemmas.tables.Kept.{Named}
use Rattle.mqtt_store_database.proofs.item_laws_lemmas.tables.Single.{named_put}
use Rattle.mqtt_store_database.proofs.item_laws_lemmas.tables.Tables.{with_row}

-- ---- the numbers by their names

abbrev pub Number : Type 0
Number = List ℕ × ℕ

-- a name's number is another
abbrev pub set_one : List ℕ → ℕ → Number → Number
set_one name value x = (x.0, cond (bytes_eq x.0 name) value x.1)

module _ (name : List ℕ) (value : ℕ) where
  abbrev IsSet : Number → Type 0
  IsSet x = (x.0 ≡ name) × (x.1 ≡ value)

  abbrev IsOther : Number → Type 0
  IsOther x = bytes_eq x.0 name ≡ false

  set_new : (xs : List Number) (x : Number) → HasItem (map (set_one name value) xs) x → IsSet x ⊎ (HasItem xs x × IsOther x)
  set_new [] x h = absurd h
  set_new (y ∷ ys) x (inl here) = elim (cases_Bool (bytes_eq y.0 name)) [
    | inl is ↦ inl (ap (λ (z : Number). z.0) here ∙ (bytes_eq-Decides y.0 name).0 is, ap (λ (z : Number). z.1) here ∙ ap (λ b. cond b value y.1) is)
    | inr isnt ↦
        let same : x ≡ y = here ∙ ap (λ b. (y.0, cond b value y.1)) isnt in
        inr (inl same, ap (λ (z : Number). bytes_eq z.0 name) same ∙ isnt)
  ]
  set_new (y ∷ ys) x (inr later) = elim (set_new ys x later) [
    | inl set ↦ inl set
    | inr old ↦ inr (inr old.0, old.1)
  ]

  set_other : (xs : List Number) (x : Number) → HasItem xs x → IsOther x → HasItem (map (set_one name value) xs) x
  set_other [] x h other = absurd h
  set_other (y ∷ ys) x (inl here) other =
      let isnt : bytes_eq y.0 name ≡ false = sym (ap (λ (z : Number). bytes_eq z.0 name) here) ∙ other in
      inl (here ∙ sym (ap (λ b. (y.0, cond b value y.1)) isnt))
  set_other (y ∷ ys) x (inr later) other = inr (set_other ys x later other)

  set_there : (xs : List Number) (n : ℕ) → HasItem xs (name, n) → HasItem (map (set_one name value) xs) (name, value)
  set_there [] n h = absurd h
  set_there (y ∷ ys) n (inl here) =
      let named : y.0 ≡ name = sym (ap (λ (z : Number). z.0) here) in
      let is : bytes_eq y.0 name ≡ true = (bytes_eq-Decides y.0 name).1 named in
      let set : set_one name value y ≡ (name, value) = ap (λ b. (y.0, cond b value y.1)) is ∙ ap (λ t. (t, value)) named in
      inl (sym set)
  set_there (y ∷ ys) n (inr later) = inr (set_there ys n later)

abbrev text_of : Value → List ℕ
text_of (Text t) = t
text_of _ = []

same_text : {s t : List ℕ} → ◌≡◌ {A = Value} (Text s) (Text t) → s ≡ t
same_text h = ap text_of h

number_name : (x : Number) (row : Row) → IsNumberRow x row → column row 1 ≡ Text x.0
number_name x row is = ap (λ (r : Row). column r 1) is.1

module _ {l : Layout} (db next : Trees) (numbers : List Number) (written : AreWritten IsNumberRow (HasItem numbers) (db 0)) (named : Named (db 0)) (shaped : IsShapedAt db 0)
    (name : List ℕ) (value was_value now : ℕ) (id : ℤ) (stood : Has (db 0) (Int id ∷ number_row name was_value)) (sets : SetsNumber l name value id db next) (there : HasItem numbers (name, now)) where
  abbrev was : Row
  was = Int id ∷ number_row name was_value

  abbrev pub put : Row
  put = Int id ∷ number_row name value

  abbrev gone : Row → Bool
  gone = has_rowid id

  -- what sets a number puts its row in place of the one that stood
  pub set_puts : PutsInto l 0 put (has_rowid id) db next
  set_puts = record { rows = sets.rows; others = sets.others }

  number_gone : (row : Row) → row ≡ was → gone row ≡ true
  number_gone row same = ap gone same ∙ ap is_eq (tied_itself value_cmp_total (Int id))

  is_was : (row : Row) → Has (db 0) row → column row 1 ≡ Text name → row ≡ was
  is_was row has one = named row was has stood one

  out : (x : Number) (row : Row) → Has (db 0) row → IsNumberRow x row → gone row ≡ false → IsOther name value x
  out x row has is missed = false_from_ne_true _ (λ same.
      let is_name : x.0 ≡ name = (bytes_eq-Decides x.0 name).0 same in
      true≢false (sym (number_gone row (is_was row has (number_name x row is ∙ ap Text is_name))) ∙ missed))

  stay : (x : Number) (row : Row) → Has (db 0) row → IsNumberRow x row → IsOther name value x → gone row ≡ false
  stay x row has is other = false_from_ne_true (gone row) (λ found.
      let tied = equal_is (value_cmp (rowid row) (Int id)) found in
      let same : row ≡ was = tied_same (db 0) row was shaped.up has stood tied in
      let is_name : x.0 ≡ name = same_text (sym (number_name x row is) ∙ ap (λ (a : Row). column a 1) same) in
      true≢false (sym ((bytes_eq-Decides x.0 name).1 is_name) ∙ other))

  -- after a number is set, the table has its row and the rows of the others
  pub number_set : AreWritten IsNumberRow (HasItem (map (set_one name value) numbers)) (next 0)
  number_set = with_row IsNumberRow (HasItem numbers) (HasItem (map (set_one name value) numbers)) (IsOther name value) gone (db 0)
      (λ x row item has is missed. out x row has is missed)
      (λ x row item has is other. stay x row has is other)
      written (IsSet name value) 0 put db next refl set_puts
      (λ row has missed. missed)
      ((name, value), (refl, refl))
      (λ x new. (id, rw (new.0, new.1) refl))
      (λ x has. set_new name value numbers x has)
      (λ x it. elim it [
        | inl set ↦ rw (set.0, set.1) (set_there name value numbers now there)
        | inr old ↦ set_other name value numbers x old.0 old.1
      ])

  -- and no two rows have one name
  pub number_named : Named (next 0)
  number_named = named_put 0 put gone db next set_puts (λ b has missed one. true≢false (sym (number_gone b (is_was b has one)) ∙ missed)) named
