-- Why a database that has no records is refused.
use Rattle.std.proofs.Common.{◌≡◌, ◌≢◌, refl}
use Rattle.sqlite_trees.specs.declared.store.Store.{Ghosts}
use Rattle.sqlite.specs.Held.{Held, state}
use Rattle.mqtt_keep.specs.declared.keeping.keep.KeepError.{KeepError}
use Rattle.mqtt_keep.specs.declared.keeping.keep.KeepError.TheVariants.{Memory, Disk, Size, Corrupt, Schema}
use Rattle.mqtt_store_tables.specs.schema.Finding.{SaysKnown, SaysUnknown}
use Rattle.mqtt_store_database.specs.reading.Refusals.{HasNoneOfEither, RefusesEither}

-- the device and want of memory say nothing; else it has no records, and was asked for its schema
pub refusal_is : {S : Type 0} (g : Ghosts S) (old mid new : Held S) (fault : KeepError) → HasNoneOfEither (state g old) → (state g mid).now ≡ (state g old).now → fault ≢ Size
    → (fault ≡ Corrupt → SaysKnown (state g mid) (state g new)) → (fault ≡ Schema → SaysUnknown (state g mid) (state g new)) → RefusesEither g old fault
refusal_is g old mid new Memory none same only known other = tt
refusal_is g old mid new Disk none same only known other = tt
refusal_is g old mid new Size none same only known other = absurd (only refl)
refusal_is g old mid new Corrupt none same only known other = (none, (mid, new, same, known refl))
refusal_is g old mid new Schema none same only known other = (none, (mid, new, same, other refl))
