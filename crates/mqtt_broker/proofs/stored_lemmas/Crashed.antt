-- What a crash may leave: what it could before, or what a fact says.
use Rattle.std.proofs.Common.{◌⊎◌, inl, inr}

-- what was left before is left still, and else what a fact says of the rest
pub left_or : (A : Type 0) {B C : Type 0} → (B → C) → A ⊎ B → A ⊎ C
left_or A f (inl a) = inl a
left_or A f (inr b) = inr (f b)
