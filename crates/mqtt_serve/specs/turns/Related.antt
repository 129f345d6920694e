-- Lists whose members are related in pairs.
use Rattle.std.specs.Prelude.{◌≡◌, ◌≢◌, ℕ, ◌<◌, ◌≤◌, List, length, Some, slice_get}

-- the lists have one length; their members below n are related, place by place, and the others are the same
pub record RelatedBelow {A : Type 0} (R : A → A → Type 0) (n : ℕ) (xs ys : List A) : Type 0 where
  pub len : length xs ≡ length ys
  pub below : (k : ℕ) (x y : A) → k < n → slice_get xs k ≡ Some x → slice_get ys k ≡ Some y → R x y
  pub above : (k : ℕ) → n ≤ k → slice_get ys k ≡ slice_get xs k

-- all members are related, place by place
abbrev pub Related : {A : Type 0} → (A → A → Type 0) → List A → List A → Type 0
Related R xs ys = RelatedBelow R (length xs) xs ys

-- the members at a place are related, and the others are the same
pub record RelatedAt {A : Type 0} (R : A → A → Type 0) (place : ℕ) (xs ys : List A) : Type 0 where
  pub len : length xs ≡ length ys
  pub here : (x y : A) → slice_get xs place ≡ Some x → slice_get ys place ≡ Some y → R x y
  pub elsewhere : (k : ℕ) → k ≢ place → slice_get ys k ≡ slice_get xs k
