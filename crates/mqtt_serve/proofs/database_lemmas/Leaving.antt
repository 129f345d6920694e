-- What a stop of the machine may leave of files in which a database is made.
use Rattle.std.proofs.Common.{◌≡◌, ◌⊎◌, ◌∙◌, ℕ, [], true, List, IsTrue, refl, sym, ap, subst, subst₂, inl, inr}
use Rattle.std.proofs.Math.Logic.{∥∥₁_map}
use Rattle.sqlite_disk.specs.declared.Disk.{Ghosts}
use Rattle.sqlite_disk.specs.declared.Files.{Files}
use Rattle.sqlite_wal.specs.Recovery.{Image, AreWhole}
use Rattle.sqlite_wal.specs.Files.{outcomes, seen_image}
use Rattle.sqlite_wal.specs.Reads.{AreClean}
use Rattle.sqlite_wal.proofs.LogLemmas.{SeenMayStay}
use Rattle.sqlite_pages.specs.PageMap.{PageMap}
use Rattle.sqlite_pool.specs.declared.pool.Pool.{Pool}
use Rattle.sqlite_pool.specs.Pool as pool
use Rattle.sqlite_pool.specs.File.{version_in, in_use}
use Rattle.sqlite_pool.specs.Opening.{IsBlankFile, IsNew}
use Rattle.sqlite_pool.specs.Stored.{Recovers}
use Rattle.sqlite_pool.specs.StoredLaws.{trimmed_whole}
use Rattle.sqlite_pool.proofs.ResealLemmas.{adopts_of}
use Rattle.sqlite_pool.proofs.StateLemmas.{clean_is, may_leave_is, settled}
use Rattle.sqlite_trees.specs.Tree.{Trees}
use Rattle.sqlite_trees.proofs.Doubt.{no_doubt}
use Rattle.sqlite_store.specs.declared.catalog.Wanted.{Wanted}
use Rattle.sqlite_store.specs.declared.store.FileStore.{FileStore}
use Rattle.sqlite_store.specs.declared.store.open.Unopened.{Unopened}
use Rattle.sqlite_store.specs.Db.{trees_in}
use Rattle.sqlite_store.specs.Listing.{all_trees, file_trees, IsOurs}
use Rattle.sqlite_store.specs.Listed.{catalog_rows}
use Rattle.sqlite_store.specs.Opening.{IsFresh}
use Rattle.sqlite_store.specs.Saved.{kept_schema}
use Rattle.sqlite_store.specs.FileStore.{IsReady, state, view, schema_of, files}
use Rattle.sqlite_store.specs.Unopened.{Creates, files_of, state_of, wanted_by}
use Rattle.sqlite_store.proofs.ListingLemmas.{past_version, named_tree}
use Rattle.sqlite_store.proofs.BuildLemmas.{new_is_empty}
use Rattle.sqlite.specs.Opening.{HoldsIn}
use Rattle.sqlite.specs.Files.{IsEmpty}
use Rattle.sqlite.proofs.ListingLemmas.{empty_is_sound}
use Rattle.sqlite.proofs.OpenLemmas.{pool_files}
use Rattle.mqtt_serve.specs.declared.database.making.TheConstants.{PAGE_SIZE}
use Rattle.mqtt_serve.specs.database.Making.{IsMissing, HoldsEmpty, AreHonest, LeaveEmpty, LeaveAtMostEmpty}

-- files that recover to the pages of a database without a table hold it
pub holds_empty : (image : Image) (pages : PageMap) → Recovers PAGE_SIZE image pages → IsOurs PAGE_SIZE true [] pages
    → (db : Trees) × HoldsIn PAGE_SIZE image db × IsEmpty db
unfolding trees_in
holds_empty image pages found ours =
    let db = file_trees PAGE_SIZE [] pages in
    let unlisted = catalog_rows PAGE_SIZE [] (in_use PAGE_SIZE pages) in (
      db,
      record {
        pages = pages;
        wanted = [];
        schema = _;
        found = adopts_of PAGE_SIZE image pages found;
        ours = ours;
        reads = refl;
        sound = empty_is_sound db unlisted;
      },
      (
        λ tree low.
            past_version tree low (all_trees PAGE_SIZE [] (in_use PAGE_SIZE pages)) (version_in pages)
            ∙ named_tree tree low PAGE_SIZE [] (in_use PAGE_SIZE pages),
        unlisted,
      ),
    )

-- what making a database leaves on its way, for a page size and a list of tables
pub Made : ℕ → List Wanted → Image → Type 0
Made size wanted image =
    IsBlankFile size image ⊎ ((pages : PageMap) × Recovers size image pages × (IsNew size pages ⊎ ∥ IsFresh size wanted pages ∥₁))

-- without a table that is no database, or an empty one
pub on_the_way : (image : Image) → Made PAGE_SIZE [] image → IsMissing image ⊎ HoldsEmpty image
unfolding Made
on_the_way image (inl missing) = inl missing
on_the_way image (inr made) =
    inr (elim made.2 [
      | inl new ↦
          let whole : AreWhole PAGE_SIZE made.0 = subst (AreWhole PAGE_SIZE) made.1.shows (trimmed_whole PAGE_SIZE made.1.stored made.1.whole) in
          let empty = new_is_empty PAGE_SIZE made.0 whole new in
          ∣ holds_empty image made.0 made.1 (record { file = empty.0; numbered = λ _. record { listed = empty.1; spaced = refl; ordered = refl } }) ∣₁
      | inr fresh ↦ ∥∥₁_map fresh (λ it. holds_empty image made.0 made.1 it.0)
    ])

module _ {D : Type 0} {g : Ghosts D} where
  -- the files of a database that is yet to be opened were honest if it says so
  pub were_honest : (old : Unopened D g) (before : Files D) → files_of old ≡ (before.log, before.db) → IsTrue (state_of old).is_clean
      → AreHonest g before
  were_honest old before were clean = subst (λ p. AreClean g p.0 p.1) were (sym (clean_is old.pool) ∙ clean)

  -- honest files have a pool that says so
  pub is_clean : (new : Pool D g) (now : Files D) → (now.log, now.db) ≡ pool.files new → AreHonest g now → IsTrue (pool.state new).is_clean
  is_clean new now are honest = clean_is new ∙ subst (λ p. AreClean g p.0 p.1) are honest

  -- what honest files may leave, their pool may leave
  pub may_leave : (new : Pool D g) (now : Files D) → (now.log, now.db) ≡ pool.files new → AreHonest g now
      → (image : Image) → outcomes g now.log now.db image → (pool.state new).may_leave image
  may_leave new now are honest image may =
      may_leave_is new image (subst (λ p. AreClean g p.0 p.1) are honest) (subst (λ p. outcomes g p.0 p.1 image) are may)

  -- files in which no database was made, and in which one was being made, leave no more than an empty one
  pub leaves_at_most_empty : (old : Unopened D g) (before now : Files D) (new : Pool D g) → files_of old ≡ (before.log, before.db)
      → (now.log, now.db) ≡ pool.files new → (state_of old).page_size ≡ PAGE_SIZE → wanted_by old ≡ [] → AreHonest g now
      → Creates old (pool.state new) → IsMissing (seen_image g before.log before.db) → LeaveAtMostEmpty g before now
  unfolding Made
  leaves_at_most_empty old before now new were are size none honest creates missing image may =
      let blank = subst₂ IsBlankFile (sym size) (ap (λ p. seen_image g p.0 p.1) (sym were)) missing in
      elim (creates.blank blank image (may_leave new now are honest image may)) [
        | inl was ↦ inl (subst (λ p. outcomes g p.0 p.1 image) were ((pool_files old.pool).2 image was))
        | inr way ↦ inr (on_the_way image (subst₂ (λ n w. Made n w image) size none way))
      ]

  -- a store without a table leaves an empty database
  pub leaves_empty : (it : FileStore D g) (now : Files D) → SeenMayStay g → (now.log, now.db) ≡ files it → IsReady it → schema_of it ≡ []
      → IsTrue (view it).is_numbered → (state it).page_size ≡ PAGE_SIZE → AreHonest g now → LeaveEmpty g now
  leaves_empty it now stays are ready none numbered size honest image may =
      let is_open = ready.is_open (no_doubt _ (is_clean it.pool now are honest)) in
      let found = (settled it.pool stays is_open).durable image (may_leave it.pool now are honest image may) in
      let kept : kept_schema it.saved it.schema.items ≡ [] = rw ready.unaltered none in
      ∥∥₁_map (it.stored is_open) (λ stored.
      let ours : IsOurs PAGE_SIZE true [] (state it).committed =
      subst₂ (λ n w. IsOurs n true w (state it).committed) size kept (subst (λ b. IsOurs (state it).page_size b (kept_schema it.saved it.schema.items) (state it).committed) numbered stored.ours) in
      holds_empty image (state it).committed (subst (λ n. Recovers n image (state it).committed) size found) ours)
