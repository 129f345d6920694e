-- The numbers of a new store, and that it is lawful.
use Rattle.std.proofs.Common.{◌≡◌, ℕ, zero, suc, List, [], ◌∷◌, codes, refl, arith, IsSorted}
use Rattle.std.proofs.lemmas.List.Sorted.{IsPermutation-refl}
use Rattle.sqlite_value.specs.declared.value.Value.TheVariants.{Text}
use Rattle.sqlite_value.specs.Order.{Row}
use Rattle.sqlite_trees.specs.Tree.{Trees}
use Rattle.mqtt_keep.proofs.contents_lemmas.Nothing.{nothing_shared}
use Rattle.mqtt_keep.specs.lawful.Lawful.{IsLawful}
use Rattle.mqtt_records.specs.state.Records.{nothing}
use Rattle.mqtt_store_rows.specs.values.Values.{number}
use Rattle.mqtt_store_tables.specs.forms.Creation.{numbers_of}
use Rattle.mqtt_store_tables.specs.declared.forms.schema.StoreTable.TheVariants.{Meta}
use Rattle.mqtt_store_database.specs.asking.Listing.{by_columns, IsListingOf, IsListing}
use Rattle.mqtt_store_database.proofs.asking_lemmas.Rising.{Rise}
use Rattle.mqtt_store_database.proofs.asking_lemmas.Unique.{by_total, names_rise}

rise_sorted : (ats : List ℕ) (rows : List Row) → Rise ats rows → IsSorted (by_columns ats) rows
rise_sorted ats [] up k d low high = absurd (omega (arith, high))
rise_sorted ats (r ∷ []) up k d low high = absurd (omega (arith, high))
rise_sorted ats (r ∷ s ∷ rows) up zero d low high = rw ((by_total ats).antisymm s r, up.0.0) refl
rise_sorted ats (r ∷ s ∷ rows) up (suc k) d low high = rw Rattle.std.proofs.Common.add-one (rw Rattle.std.proofs.Common.add-one at (rise_sorted ats (s ∷ rows) up.1 k d (omega arith) (omega (arith, high))))

abbrev named : List ℕ → ℕ → Row
named name n = Text name ∷ number n ∷ []

-- the numbers of a new store of this schema, by name
abbrev pub new_meta : ℕ → List Row
new_meta schema = named (codes "autos") 0 ∷ named (codes "births") 0 ∷ named (codes "moment") 0 ∷ named (codes "publications") 0 ∷ named (codes "schema") schema ∷ named (codes "subscribes") 0 ∷ []

-- they are the listing of the rows that a new store writes
pub meta_listed : (schema : ℕ) (db : Trees) → db 0 ≡ numbers_of schema → IsListing Meta db (new_meta schema)
meta_listed schema db is = record {
  each = rw is (record { moves = (3, 5) ∷ (2, 5) ∷ (0, 4) ∷ []; below = (omega arith, omega arith, (omega arith, omega arith, (omega arith, omega arith, tt))); is = refl });
  sorted = rise_sorted (0 ∷ []) (new_meta schema) (names_rise (named (codes "autos") 0) (named (codes "births") 0) (named (codes "moment") 0) (named (codes "publications") 0) (named (codes "schema") schema) (named (codes "subscribes") 0)
      refl refl refl refl refl refl);
}

-- a table without rows is listed so
pub empty_listed : (columns key : List ℕ) (stored : List Row) → stored ≡ [] → IsListingOf columns key stored []
empty_listed columns key stored is = record { each = rw is (IsPermutation-refl []); sorted = λ k d low high. absurd (omega (arith, high)) }

-- what is there before the first session is lawful
pub nothing_lawful : IsLawful nothing
nothing_lawful = record {
  numbers = record { births = omega arith; publications = omega arith; subscribes = omega arith; autos = omega arith; moment = omega arith };
  sessions = record { table = record { ascending = tt; within = omega arith }; clients = tt; places = tt; each = tt };
  retained = record { table = record { ascending = tt; within = omega arith }; topics = tt; each = tt };
  shared = nothing_shared;
}
