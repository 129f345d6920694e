-- What callers see of an `Inflow`, and where an identifier stands in it.
use Rattle.std.specs.Prelude.{◌≡◌, ℕ, ◌<◌, ◌≤◌, true, false, List, length}
use Rattle.std.specs.List.{insert, remove}
use Rattle.mqtt_flow.specs.inbound.Identifiers.{is_among, ids_with, ids_without}

-- the open identifiers in ascending order, and how many more fit without taking memory
pub record OpenIds : Type 0 where
  pub ids : List ℕ
  pub room : ℕ

-- the identifier stands at this place alone
pub record StandsAt (id : ℕ) (ids : List ℕ) (place : ℕ) : Type 0 where
  pub in_range : place < length ids
  pub is_there : is_among id ids ≡ true
  pub removed : remove ids place ≡ ids_without id ids

-- it stands nowhere, and this is its place
pub record BelongsAt (id : ℕ) (ids : List ℕ) (place : ℕ) : Type 0 where
  pub in_range : place ≤ length ids
  pub is_missing : is_among id ids ≡ false
  pub inserted : insert ids place id ≡ ids_with id ids
  pub kept : ids_without id ids ≡ ids
