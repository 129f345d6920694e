-- What is told of a connection that is read, and of one that is left unread.
use Rattle.std.proofs.Common.{◌≡◌, ℕ, ◌+◌, ◌%◌, ◌^◌, Option, Some, None, refl}
use Rattle.mqtt_link.specs.Links.{now_told, one_more}

-- it was read once more
pub read_more : (count : ℕ) (told : Option ℕ) → now_told ((count + 1) % 2 ^ 64) (one_more told) ≡ one_more (now_told count told)
read_more count None = refl
read_more count (Some n) = refl

-- it was left unread, which is counted too
pub left_more : (count : ℕ) (told : Option ℕ) → now_told ((count + 1) % 2 ^ 64) told ≡ one_more (now_told count told)
left_more count None = refl
left_more count (Some n) = refl

-- it had room for as many bytes as this read has
pub read_room : (room before : ℕ) (told : Option ℕ) → now_told room (now_told room told) ≡ now_told room (now_told before told)
read_room room before None = refl
read_room room before (Some n) = refl

-- the same where it was left unread
pub left_room : (room before : ℕ) (told : Option ℕ) → now_told room told ≡ now_told room (now_told before told)
left_room room before None = refl
left_room room before (Some n) = refl
