-- What the rows of all tables of schema 1 give.
use Rattle.std.proofs.Common.{◌≡◌, ◌⊎◌, inl, inr, Result, Err, sym, subst, ◌∙◌}
use Rattle.sqlite_trees.specs.Tree.{Trees}
use Rattle.mqtt_keep.specs.lawful.Lawful.{IsLawful}
use Rattle.mqtt_records.specs.declared.state.records.Records.{Records}
use Rattle.mqtt_keep.specs.declared.keeping.keep.KeepError.{KeepError}
use Rattle.mqtt_keep.specs.declared.keeping.keep.KeepError.TheVariants.{Memory, Disk, Corrupt}
use Rattle.mqtt_store_rows.specs.taking_over.Gives.{Rows, Gives}
use Rattle.mqtt_store_rows.proofs.values_lemmas.LawfulLemmas.{lawful_within}
use Rattle.mqtt_store_database.specs.taking_over.Kept.{AreListed, HasRecords}
use Rattle.mqtt_store_database.proofs.taking_over_lemmas.Unique.{listed_one}

-- if it gives none, the database has none
pub gives_none : (db : Trees) (rows : Rows) → AreListed db rows → ((r : Records) → Gives rows r → IsLawful r → ⊥) → (r : Records) → HasRecords db r → ⊥
gives_none db rows listed none r h =
    let same = listed_one db rows h.rows r listed h.listed h.gives (lawful_within r h.lawful) in
    none r (subst (λ rows. Gives rows r) (sym same) h.gives) h.lawful

-- a failure of the database is not `Corrupt`
pub fault_other : (e : KeepError) → (e ≡ Memory) ⊎ (e ≡ Disk) → ◌≡◌ {A = Result Records KeepError} (Err e) (Err Corrupt) → ⊥
fault_other e (inl h) is = let k : e ≡ Corrupt = cc in absurd (let m : Memory ≡ Corrupt = sym h ∙ k in cc)
fault_other e (inr h) is = let k : e ≡ Corrupt = cc in absurd (let m : Disk ≡ Corrupt = sym h ∙ k in cc)
