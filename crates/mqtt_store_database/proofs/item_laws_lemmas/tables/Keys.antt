-- What SQL's = finds of the keys that are written.
use Rattle.std.proofs.Common.{◌≡◌, ◌≢◌, ℕ, zero, ℤ, pos, Bool, true, false, ◌&&◌, bytes_eq, List, refl, sym, ap, subst, ◌∙◌, ◌<ℤ◌, int_cmp, true≢false}
use Rattle.std.specs.Prelude.{Some}
use Rattle.std.specs.Ordering.{is_eq, MatchOrdering}
use Rattle.std.specs.Cmp.{int_ranks}
use Rattle.std.proofs.lemmas.Bool.{false_from_ne_true}
use Rattle.std.proofs.lemmas.Cmp.{tied_itself}
use Rattle.std.proofs.lemmas.Map.Text.{is_eq-slice_cmp}
use Rattle.sqlite_value.specs.declared.value.Value.{Value}
use Rattle.sqlite_value.specs.declared.value.Value.TheVariants.{Int, Text}
use Rattle.sqlite_value.specs.declared.keys.Collation.TheVariants.{Binary}
use Rattle.sqlite_value.specs.Order.{Row, column, value_cmp}
use Rattle.sqlite_value.proofs.OrderLemmas.{value_cmp_total, value_cmp-Int, value_cmp-Text}
use Rattle.sqlite_sql.specs.Ops.{is_true, from_truth, binary}
use Rattle.sqlite_schema.specs.Rules.{equal}
use Rattle.mqtt_store_tables.specs.statements.Content.{is_of, is_text}
use Rattle.mqtt_store_tables.specs.statements.Removal.{is_keyed, is_subscription}
use Rattle.mqtt_store_tables.proofs.statements_lemmas.deletes.RemoveSession.{equal_ids}
use Rattle.mqtt_store_tables.proofs.statements_lemmas.tables.Rows.{equal_is}

same_int : (m n : ℤ) → is_eq (int_cmp m n) ≡ true → m ≡ n
same_int m n h = subst (λ o. MatchOrdering o (m <ℤ n) (m ≡ n) (n <ℤ m)) (equal_is (int_cmp m n) h) (int_ranks m n)

abbrev whole : ℤ → ℕ
whole (pos n) = n
whole _ = zero

-- equal whole numbers are equal numbers
pub same_pos : (m n : ℕ) → pos m ≡ pos n → m ≡ n
same_pos m n h = ap whole h

is_of_int : (at : ℕ) (m n : ℤ) (r : Row) → column r at ≡ Int m → is_of at n r ≡ is_eq (int_cmp m n)
is_of_int at m n r h = ap (λ v. equal Binary v (Int n)) h ∙ (equal_ids (Int m) n refl ∙ ap is_eq (value_cmp-Int m n))

-- a number that is found is the one in the column
pub found_number : (at m n : ℕ) (r : Row) → column r at ≡ Int (pos m) → is_of at (pos n) r ≡ true → m ≡ n
found_number at m n r h found = same_pos m n (same_int (pos m) (pos n) (sym (is_of_int at (pos m) (pos n) r h) ∙ found))

-- the number in the column is found
pub number_found : (at m n : ℕ) (r : Row) → column r at ≡ Int (pos m) → m ≡ n → is_of at (pos n) r ≡ true
number_found at m n r h same = is_of_int at (pos n) (pos n) r (h ∙ ap (λ (k : ℕ). Int (pos k)) same) ∙ ap is_eq (sym (value_cmp-Int (pos n) (pos n)) ∙ tied_itself value_cmp_total (Int (pos n)))

-- another number than the one in the column is not found
pub other_number : (at m n : ℕ) (r : Row) → column r at ≡ Int (pos m) → m ≢ n → is_of at (pos n) r ≡ false
other_number at m n r h other = false_from_ne_true _ (λ found. other (found_number at m n r h found))

-- a number that isn't found is another than the one in the column
pub missed_number : (at m n : ℕ) (r : Row) → column r at ≡ Int (pos m) → is_of at (pos n) r ≡ false → m ≢ n
missed_number at m n r h missed same = true≢false (sym (number_found at m n r h same) ∙ missed)

truth_of : (b : Bool) → is_true (from_truth (Some b)) ≡ b
truth_of true = refl
truth_of false = refl

equal_texts : (s t : List ℕ) → equal Binary (Text s) (Text t) ≡ is_eq (value_cmp (Text s) (Text t))
unfolding binary
equal_texts s t = truth_of (is_eq (value_cmp (Text s) (Text t)))

-- SQL compares a text with the one in the column byte by byte
pub is_text_bytes : (at : ℕ) (s t : List ℕ) (r : Row) → column r at ≡ Text s → is_text at t r ≡ bytes_eq s t
is_text_bytes at s t r h = ap (λ v. equal Binary v (Text t)) h ∙ (equal_texts s t ∙ (ap is_eq (value_cmp-Text s t) ∙ is_eq-slice_cmp s t))

and_missed : (a b : Bool) → (a && b) ≡ false → a ≡ true → b ≡ false
and_missed true b h is = h
and_missed false b h is = absurd (true≢false (sym is))

and_false : (a b : Bool) → (a ≡ true → b ≡ false) → (a && b) ≡ false
and_false true b h = h refl
and_false false b h = refl

-- both numbers of a key
module _ (b n birth place : ℕ) (r : Row) (at_birth : column r 1 ≡ Int (pos b)) (at_place : column r 2 ≡ Int (pos n)) where
  -- a row of another birth or place is not found by this birth and place
  pub other_key : (b ≡ birth → n ≢ place) → is_keyed (pos birth) (pos place) r ≡ false
  other_key other = and_false _ _ (λ found. other_number 2 n place r at_place (other (found_number 1 b birth r at_birth found)))

  -- a row of this birth that isn't found by birth and place is of another place
  pub missed_key : is_keyed (pos birth) (pos place) r ≡ false → b ≡ birth → n ≢ place
  missed_key missed same = missed_number 2 n place r at_place (and_missed _ _ missed (number_found 1 b birth r at_birth same))

-- a session's subscription
module _ (b birth : ℕ) (s t : List ℕ) (r : Row) (at_birth : column r 1 ≡ Int (pos b)) (at_text : column r 2 ≡ Text s) where
  -- a row of another birth or filter is not found by this birth and filter
  pub other_filter : (b ≡ birth → bytes_eq s t ≡ false) → is_subscription (pos birth) t r ≡ false
  other_filter other = and_false _ _ (λ found. is_text_bytes 2 s t r at_text ∙ other (found_number 1 b birth r at_birth found))

  -- a row of this birth that isn't found by birth and filter is of another filter
  pub missed_filter : is_subscription (pos birth) t r ≡ false → b ≡ birth → bytes_eq s t ≡ false
  missed_filter missed same = sym (is_text_bytes 2 s t r at_text) ∙ and_missed _ _ missed (number_found 1 b birth r at_birth same)

abbrev number_of : Value → ℕ
number_of (Int n) = whole n
number_of _ = zero

-- equal values that are numbers are equal numbers
pub same_number : {m n : ℕ} → ◌≡◌ {A = Value} (Int (pos m)) (Int (pos n)) → m ≡ n
same_number h = ap number_of h
