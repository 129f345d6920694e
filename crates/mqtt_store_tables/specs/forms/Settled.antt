-- What a connection shows between two transactions, and what is left by what only reads, or writes inside one.
use Rattle.std.specs.Prelude.{◌≡◌, false, IsTrue}
use Rattle.sqlite.specs.State.{State, HasCleanDisk, Survives, KeepsCommit}

-- nothing is written that isn't committed
pub record IsSettled (s : State) : Type 0 where
  pub committed : s.committed ≡ s.now
  pub autocommit : s.in_transaction ≡ false

-- if the connection is open still, it was open, and what was settled is as it was
pub record Stays (old new : State) : Type 0 where
  pub was_open : IsTrue new.is_open → IsTrue old.is_open
  pub same : IsTrue new.is_open → IsSettled old → (new.now ≡ old.now) × (new.committed ≡ old.committed)

-- nothing is written, and a crash leaves what it left before
pub record OnlyReads (old new : State) : Type 0 where
  pub survives : Survives old new (λ _. ⊥)
  pub mode : old.in_transaction ≡ false → new.in_transaction ≡ false
  pub stays : HasCleanDisk new → Stays old new

-- nothing is committed, and a crash leaves what it left before
pub record StaysInside (old new : State) : Type 0 where
  pub kept : HasCleanDisk new → KeepsCommit old new
  pub survives : Survives old new (λ _. ⊥)
