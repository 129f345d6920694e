-- A database has the records that its rows give, and no other.
use Rattle.std.proofs.Common.{◌≡◌, ℕ, List, [], ◌∷◌, codes, refl}
use Rattle.std.specs.Cmp.{IsTotalOrder}
use Rattle.std.proofs.lemmas.Cmp.{on_total, then_total}
use Rattle.std.proofs.lemmas.List.Sorted.{IsPermutation-sym, IsPermutation-trans}
use Rattle.sqlite_keyed.proofs.SortLemmas.{sorted_unique}
use Rattle.sqlite_value.specs.declared.value.Value.TheVariants.{Text}
use Rattle.sqlite_value.specs.Order.{Row, column}
use Rattle.sqlite_value.proofs.OrderLemmas.{value_cmp_total}
use Rattle.mqtt_store_rows.specs.declared.values.meta.Counters.{Counters}
use Rattle.mqtt_store_rows.specs.values.Rows.{SaysNumbers}
use Rattle.mqtt_store_database.specs.asking.Listing.{by_columns, IsListingOf}
use Rattle.mqtt_store_database.proofs.asking_lemmas.Rising.{Rise, text_less}

-- ---- one listing

-- the order by columns is total
pub by_total : (ats : List ℕ) → IsTotalOrder (by_columns ats)
by_total [] = record { antisymm = λ x y. refl; trans = λ x y z h k. absurd cc; congr = λ x y z h. refl }
by_total (at ∷ ats) = then_total (on_total (λ (row : Row). column row at) value_cmp_total) (by_total ats)

-- a listing that rises is the only one
pub one_listing : (columns key : List ℕ) (stored xs ys : List Row) → IsListingOf columns key stored xs → IsListingOf columns key stored ys → Rise key ys → xs ≡ ys
one_listing columns key stored xs ys h k up =
    sorted_unique (by_columns key) (by_total key) ys xs up (IsPermutation-trans _ _ _ (IsPermutation-sym _ _ k.each) h.each) h.sorted

-- ---- the rows of meta rise

-- the row has this name
abbrev pub IsNamed : Row → List ℕ → Type 0
IsNamed row name = column row 0 ≡ Text name

-- rows that have the six names of the store's numbers rise
pub names_rise : (a b c d e f : Row) → IsNamed a (codes "autos") → IsNamed b (codes "births") → IsNamed c (codes "moment") → IsNamed d (codes "publications") → IsNamed e (codes "schema")
    → IsNamed f (codes "subscribes") → Rise (0 ∷ []) (a ∷ b ∷ c ∷ d ∷ e ∷ f ∷ [])
names_rise a b c d e f p q r s t u = (
  (text_less a b _ _ p q refl, (text_less a c _ _ p r refl, (text_less a d _ _ p s refl, (text_less a e _ _ p t refl, (text_less a f _ _ p u refl, tt))))),
  (
    (text_less b c _ _ q r refl, (text_less b d _ _ q s refl, (text_less b e _ _ q t refl, (text_less b f _ _ q u refl, tt)))),
    ((text_less c d _ _ r s refl, (text_less c e _ _ r t refl, (text_less c f _ _ r u refl, tt))), ((text_less d e _ _ s t refl, (text_less d f _ _ s u refl, tt)), ((text_less e f _ _ t u refl, tt), (tt, tt)))),
  ),
)

-- the rows of counters rise
pub numbers_rise : (schema : ℕ) (all : Counters) (rows : List Row) → SaysNumbers schema all rows → Rise (0 ∷ []) rows
numbers_rise schema all [] h = absurd h
numbers_rise schema all (a ∷ []) h = absurd h
numbers_rise schema all (a ∷ b ∷ []) h = absurd h
numbers_rise schema all (a ∷ b ∷ c ∷ []) h = absurd h
numbers_rise schema all (a ∷ b ∷ c ∷ d ∷ []) h = absurd h
numbers_rise schema all (a ∷ b ∷ c ∷ d ∷ e ∷ []) h = absurd h
numbers_rise schema all (a ∷ b ∷ c ∷ d ∷ e ∷ f ∷ []) h = names_rise a b c d e f h.0.name h.1.name h.2.name h.3.name h.4.name h.5.name
numbers_rise schema all (a ∷ b ∷ c ∷ d ∷ e ∷ f ∷ g ∷ rows) h = absurd h
