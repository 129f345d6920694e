-- Files in which no database was made yet, and an empty one in them (MQTT 5.0, 4.1).
use Rattle.std.specs.Prelude.{◌⊎◌, IsTrue}
use Rattle.sqlite_disk.specs.declared.Disk.{Ghosts}
use Rattle.sqlite_disk.specs.declared.Files.{Files}
use Rattle.sqlite_wal.specs.Recovery.{Image}
use Rattle.sqlite_wal.specs.Files.{outcomes}
use Rattle.sqlite_wal.specs.Reads.{AreClean, OnlyReads}
use Rattle.sqlite_pool.specs.Opening.{IsBlankFile}
use Rattle.sqlite_trees.specs.Tree.{Trees}
use Rattle.sqlite.specs.Opening.{HoldsIn}
use Rattle.sqlite.specs.Files.{IsEmpty}
use Rattle.mqtt_serve.specs.declared.database.making.TheConstants.{PAGE_SIZE}

-- no database was made yet: the file has no byte, or what an earlier try left of its first page
abbrev pub IsMissing : Image → Type 0
IsMissing = IsBlankFile PAGE_SIZE

-- they hold a database with pages of this size and without a table
abbrev pub HoldsEmpty : Image → Type 0
HoldsEmpty image = ∥ ((db : Trees) × HoldsIn PAGE_SIZE image db × IsEmpty db) ∥₁

module _ {D : Type 0} (g : Ghosts D) where
  -- files can be read and written: no sync of theirs has failed
  abbrev pub AreUsable : Files D → Type 0
  AreUsable files = IsTrue (g.is_usable files.log) × IsTrue (g.is_usable files.db)

  -- no wrong answer of the disk was taken as true
  abbrev pub AreHonest : Files D → Type 0
  AreHonest files = AreClean g files.log files.db

  -- what a stop of the machine may leave of files holds an empty database
  abbrev pub LeaveEmpty : Files D → Type 0
  LeaveEmpty files = (image : Image) → outcomes g files.log files.db image → HoldsEmpty image

  -- it may leave what it might have left before, no database, or an empty one
  abbrev pub LeaveAtMostEmpty : Files D → Files D → Type 0
  LeaveAtMostEmpty old new =
      (image : Image) → outcomes g new.log new.db image → outcomes g old.log old.db image ⊎ (IsMissing image ⊎ HoldsEmpty image)

  -- files were read, and not written
  abbrev pub WereOnlyRead : Files D → Files D → Type 0
  WereOnlyRead old new = OnlyReads g old.log new.log × OnlyReads g old.db new.db
