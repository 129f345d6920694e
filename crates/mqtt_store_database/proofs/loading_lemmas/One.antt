-- A database has the records of one store, and trees are those of one database.
use Rattle.std.proofs.Common.{◌≡◌, ℕ, length, refl, sym, ap, subst, ◌∙◌, inl, inr, arith}
use Rattle.sqlite_catalog.proofs.ReadLemmas.{lists_once}
use Rattle.sqlite_schema.specs.declared.schema.Schema.{Schema}
use Rattle.sqlite_trees.specs.Objects.{catalog_tree}
use Rattle.sqlite_trees.specs.Tree.{Trees}
use Rattle.sqlite.specs.Effect.{Database}
use Rattle.mqtt_records.specs.declared.state.records.Records.{Records}
use Rattle.mqtt_store_tables.specs.forms.Tables.{keep_schema}
use Rattle.mqtt_store_tables.specs.forms.Creation.{first}
use Rattle.mqtt_store_tables.specs.schema.Tables.{second_schema}
use Rattle.mqtt_store_tables.specs.declared.schema.tables.Making.{Making}
use Rattle.mqtt_store_tables.specs.declared.schema.tables.Making.TheVariants.{New, TakenOver}
use Rattle.mqtt_store_database.proofs.taking_over_lemmas.found.Alike.{alike}
use Rattle.mqtt_store_database.proofs.taking_over_lemmas.found.Found.{found_distinct}
use Rattle.mqtt_store_database.proofs.taking_over_lemmas.found.Kept.{kept_distinct}
use Rattle.mqtt_store_database.proofs.found_lemmas.Alike.{alike as second_alike}
use Rattle.mqtt_store_database.proofs.found_lemmas.Found.{found_distinct as second_found}
use Rattle.mqtt_store_database.proofs.found_lemmas.Kept.{kept_distinct as second_kept}
use Rattle.mqtt_store_database.specs.reading.Kept.{HasRecordsTwo}
use Rattle.mqtt_store_database.specs.row_laws.Written.{KeepsRowsTwo}
use Rattle.mqtt_store_database.specs.loading.Keeping.{FindsIn, Keeps, listed_as, Saves, Finds}

-- ---- no schema of the store is another

-- how many tables a schema has
abbrev width : Schema → ℕ
width s = length s.tables

first_not_second : (making : Making) (s : Schema) → s ≡ keep_schema → s ≡ second_schema making → ⊥
first_not_second New s h k = let same : 7 ≡ 8 = ap width (sym h ∙ k) in absurd (omega (arith, same))
first_not_second TakenOver s h k = let same : 7 ≡ 10 = ap width (sym h ∙ k) in absurd (omega (arith, same))

first_not_empty : (s : Schema) → s ≡ keep_schema → s ≡ first 0 → ⊥
first_not_empty s h k = let same : 7 ≡ 0 = ap width (sym h ∙ k) in absurd (omega (arith, same))

second_not_empty : (making : Making) (s : Schema) → s ≡ second_schema making → s ≡ first 0 → ⊥
second_not_empty New s h k = let same : 8 ≡ 0 = ap width (sym h ∙ k) in absurd (omega (arith, same))
second_not_empty TakenOver s h k = let same : 10 ≡ 0 = ap width (sym h ∙ k) in absurd (omega (arith, same))

-- a database came to schema 2 in one way
pub made_once : (m n : Making) (s : Schema) → s ≡ second_schema m → s ≡ second_schema n → m ≡ n
made_once New New s h k = refl
made_once New TakenOver s h k = let same : 8 ≡ 10 = ap width (sym h ∙ k) in absurd (omega (arith, same))
made_once TakenOver New s h k = let same : 10 ≡ 8 = ap width (sym h ∙ k) in absurd (omega (arith, same))
made_once TakenOver TakenOver s h k = refl

-- ---- one database

-- a load finds what was written
pub has_kept : (db : Database) (q r : Records) → FindsIn db q → Keeps db r → q ≡ r
has_kept db q r (inl h) (inl k) = alike db.trees q r (found_distinct db.trees q h.1) (kept_distinct db.trees r k.1)
has_kept db q r (inl h) (inr (inl k)) = absurd (first_not_second k.0 db.schema h.0 k.1)
has_kept db q r (inl h) (inr (inr k)) = absurd (first_not_empty db.schema h.0 k.0)
has_kept db q r (inr (inl h)) (inl k) = absurd (first_not_second h.0 db.schema k.0 h.1)
has_kept db q r (inr (inl h)) (inr (inl k)) =
    let there : HasRecordsTwo k.0 db.trees q = subst (λ m. HasRecordsTwo m db.trees q) (made_once h.0 k.0 db.schema h.1 k.1) h.2 in
    second_alike k.0 db.trees q r (second_found k.0 db.trees q there) (second_kept k.0 db.trees r k.2)
has_kept db q r (inr (inl h)) (inr (inr k)) = absurd (second_not_empty h.0 db.schema h.1 k.0)
has_kept db q r (inr (inr h)) (inl k) = absurd (first_not_empty db.schema k.0 h.0)
has_kept db q r (inr (inr h)) (inr (inl k)) = absurd (second_not_empty k.0 db.schema k.1 h.0)
has_kept db q r (inr (inr h)) (inr (inr k)) = h.1 ∙ sym k.1

-- a database of schema 2 that keeps records has their rows
pub second_keeps : (making : Making) (db : Database) (r : Records) → db.schema ≡ second_schema making → Keeps db r → KeepsRowsTwo making db.trees r
second_keeps making db r is (inl k) = absurd (first_not_second making db.schema k.0 is)
second_keeps making db r is (inr (inl k)) = subst (λ m. KeepsRowsTwo m db.trees r) (made_once k.0 making db.schema k.1 is) k.2
second_keeps making db r is (inr (inr k)) = absurd (second_not_empty making db.schema is k.0)

-- it was written from the records of one store
pub kept_once : (db : Database) (q r : Records) → Keeps db q → Keeps db r → q ≡ r
kept_once db q r (inl h) (inl k) = alike db.trees q r (kept_distinct db.trees q h.1) (kept_distinct db.trees r k.1)
kept_once db q r (inl h) (inr (inl k)) = absurd (first_not_second k.0 db.schema h.0 k.1)
kept_once db q r (inl h) (inr (inr k)) = absurd (first_not_empty db.schema h.0 k.0)
kept_once db q r (inr (inl h)) (inl k) = absurd (first_not_second h.0 db.schema k.0 h.1)
kept_once db q r (inr (inl h)) (inr (inl k)) =
    let there : KeepsRowsTwo k.0 db.trees q = subst (λ m. KeepsRowsTwo m db.trees q) (made_once h.0 k.0 db.schema h.1 k.1) h.2 in
    second_alike k.0 db.trees q r (second_kept k.0 db.trees q there) (second_kept k.0 db.trees r k.2)
kept_once db q r (inr (inl h)) (inr (inr k)) = absurd (second_not_empty h.0 db.schema h.1 k.0)
kept_once db q r (inr (inr h)) (inl k) = absurd (first_not_empty db.schema k.0 h.0)
kept_once db q r (inr (inr h)) (inr (inl k)) = absurd (second_not_empty k.0 db.schema k.1 h.0)
kept_once db q r (inr (inr h)) (inr (inr k)) = h.1 ∙ sym k.1

-- ---- trees that a crash leaves

-- an open finds what trees keep
pub saved_once : (db : Trees) (q r : Records) → Finds db q → Saves db r → q ≡ r
saved_once db q r (inl h) k =
    let same = lists_once (db catalog_tree) h.0 k.schema h.1 k.lists in
    has_kept (listed_as k.schema db) q r (subst (λ s. FindsIn (listed_as s db) q) same h.2) k.keeps
saved_once db q r (inr none) k = absurd (none.0 r k)
