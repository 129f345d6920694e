-- What the bytes that have come decide stays so, whatever follows.
use Rattle.std.proofs.Common.{◌≡◌, ℕ, zero, suc, ◌+◌, ◌-◌, ◌*◌, ◌<◌, ◌≤◌, Bool, true, false, cond, ltb, eqb, List, [], ◌∷◌, ◌++◌, length, take, Option, None, Some, Result, Ok, Err, refl, ap, subst, inl, inr, ◌⊎◌, arith, length-append}
use Rattle.std.proofs.lemmas.Bool.{ltb-false, le-ltb}
use Rattle.std.proofs.lemmas.List.{take-append-le}
use Rattle.mqtt_base.specs.declared.fault.ReadFault.TheVariants.{Short, Overlong, BadText}
use Rattle.mqtt_base.specs.declared.fault.ReadFault.{ReadFault}
use Rattle.mqtt_base.specs.Reading.{◌>>=◌, groups_at, varint_at}
use Rattle.mqtt_packet.specs.declared.parts.fault.Fault.{Fault}
use Rattle.mqtt_packet.specs.declared.parts.fault.Fault.TheVariants.{TooLarge}
use Rattle.mqtt_base.specs.declared.limits.TheConstants.{PACKET_LIMIT}
use Rattle.mqtt_packet.specs.declared.codec.head.Head.{Head}
use Rattle.mqtt_packet.specs.declared.codec.packet.Packet.{Packet}
use Rattle.mqtt_packet.specs.codec.Heads.{head_of}
use Rattle.mqtt_packet.specs.codec.Frames.{packet_at}
use Rattle.mqtt_packet.specs.stream.Front.{size_by, size_behind, size_at, with_size, first_by, first_of}

-- ---- variable byte integers

abbrev pub Read : Type 0
Read = Result (ℕ × List ℕ) ReadFault

-- the same value with more bytes behind it
abbrev pub with_more : List ℕ → Read → Read
with_more t (Ok x) = Ok (x.0, x.1 ++ t)
with_more t (Err e) = Err e

-- if a reader does not want more bytes, they are left over
abbrev pub LeavesMore : List ℕ → Read → Read → Type 0
LeavesMore t before after = (before ≡ Err Short) ⊎ (after ≡ with_more t before)

abbrev pub next_group : ℕ → Read → Read
next_group a r = r >>= λ high. Ok (a - 128 + 128 * high.0, high.1)

group_more : (a : ℕ) (t : List ℕ) (y z : Read) → LeavesMore t y z → LeavesMore t (next_group a y) (next_group a z)
group_more a t (Ok x) z (inl e) = absurd cc
group_more a t (Err d) z (inl e) = inl (ap (next_group a) e)
group_more a t (Ok x) z (inr e) = inr (ap (next_group a) e)
group_more a t (Err d) z (inr e) = inr (ap (next_group a) e)

last_more : (c d : Bool) (a : ℕ) (bytes t : List ℕ)
    → cond c (Err Overlong) (cond d (Ok (a, bytes ++ t)) (Err Overlong)) ≡ with_more t (cond c (Err Overlong) (cond d (Ok (a, bytes)) (Err Overlong)))
last_more true d a bytes t = refl
last_more false true a bytes t = refl
last_more false false a bytes t = refl

either_more : (d : Bool) (a : ℕ) (bytes t : List ℕ) (y z : Read) → LeavesMore t y z → LeavesMore t (cond d (Ok (a, bytes)) y) (cond d (Ok (a, bytes ++ t)) z)
either_more true a bytes t y z h = inr refl
either_more false a bytes t y z h = h

step_more : (c d : Bool) (a : ℕ) (bytes t : List ℕ) (y z : Read) → LeavesMore t y z
    → LeavesMore t (cond c (Err Overlong) (cond d (Ok (a, bytes)) y)) (cond c (Err Overlong) (cond d (Ok (a, bytes ++ t)) z))
step_more true d a bytes t y z h = inr refl
step_more false d a bytes t y z h = either_more d a bytes t y z h

groups_more : (k : ℕ) (bytes t : List ℕ) → LeavesMore t (groups_at k bytes) (groups_at k (bytes ++ t))
unfolding groups_at
groups_more zero [] t = inl refl
groups_more (suc k) [] t = inl refl
groups_more zero (a ∷ bytes) t = inr (last_more (eqb a 0) (ltb a 128) a bytes t)
groups_more (suc k) (a ∷ bytes) t =
    step_more (eqb a 0) (ltb a 128) a bytes t (next_group a (groups_at k bytes)) (next_group a (groups_at k (bytes ++ t)))
    (group_more a t (groups_at k bytes) (groups_at k (bytes ++ t)) (groups_more k bytes t))

-- more bytes change nothing of a length that is whole
pub varint_more : (bytes t : List ℕ) → LeavesMore t (varint_at bytes) (varint_at (bytes ++ t))
unfolding varint_at
varint_more [] t = inl refl
varint_more (a ∷ bytes) t =
    either_more (ltb a 128) a bytes t (next_group a (groups_at 2 bytes)) (next_group a (groups_at 2 (bytes ++ t)))
    (group_more a t (groups_at 2 bytes) (groups_at 2 (bytes ++ t)) (groups_more 2 bytes t))

-- a number takes a byte at least
abbrev pub Within : ℕ → Read → Type 0
Within n (Ok x) = length x.1 < n
Within n (Err e) = Unit {0}

group_within : (n a : ℕ) (r : Read) → Within n r → Within (suc n) (next_group a r)
group_within n a (Ok x) h = omega (arith, h)
group_within n a (Err e) h = tt

either_within : (d : Bool) (a : ℕ) (bytes : List ℕ) (r : Read) → Within (suc (length bytes)) r → Within (suc (length bytes)) (cond d (Ok (a, bytes)) r)
either_within true a bytes r h = omega arith
either_within false a bytes r h = h

step_within : (n : ℕ) (c : Bool) (r : Read) → Within n r → Within n (cond c (Err Overlong) r)
step_within n true r h = tt
step_within n false r h = h

-- its groups are within the bytes
pub groups_within : (k : ℕ) (bytes : List ℕ) → Within (length bytes) (groups_at k bytes)
unfolding groups_at
groups_within zero [] = tt
groups_within (suc k) [] = tt
groups_within zero (a ∷ bytes) = step_within (suc (length bytes)) (eqb a 0) (cond (ltb a 128) (Ok (a, bytes)) (Err Overlong)) (either_within (ltb a 128) a bytes (Err Overlong) tt)
groups_within (suc k) (a ∷ bytes) =
    step_within (suc (length bytes)) (eqb a 0) (cond (ltb a 128) (Ok (a, bytes)) (next_group a (groups_at k bytes)))
    (either_within (ltb a 128) a bytes (next_group a (groups_at k bytes)) (group_within (length bytes) a (groups_at k bytes) (groups_within k bytes)))

-- so is a length
pub varint_within : (bytes : List ℕ) → Within (length bytes) (varint_at bytes)
unfolding varint_at
varint_within [] = tt
varint_within (a ∷ bytes) = either_within (ltb a 128) a bytes (next_group a (groups_at 2 bytes)) (group_within (length bytes) a (groups_at 2 bytes) (groups_within 2 bytes))

-- at most three bytes want more
abbrev WantsBelow : ℕ → ℕ → Read → Type 0
WantsBelow k n r = r ≡ Err Short → n ≤ k

group_wants : (k n a : ℕ) (r : Read) → WantsBelow k n r → WantsBelow (suc k) (suc n) (next_group a r)
group_wants k n a (Ok x) h = λ e. absurd cc
group_wants k n a (Err d) h = λ e. omega (arith, h e)

either_wants : (k n : ℕ) (d : Bool) (x : ℕ × List ℕ) (r : Read) → WantsBelow k n r → WantsBelow k n (cond d (Ok x) r)
either_wants k n true x r h = λ e. absurd cc
either_wants k n false x r h = h

step_wants : (k n : ℕ) (c : Bool) (r : Read) → WantsBelow k n r → WantsBelow k n (cond c (Err Overlong) r)
step_wants k n true r h = λ e. absurd cc
step_wants k n false r h = h

groups_wants : (k : ℕ) (bytes : List ℕ) → WantsBelow k (length bytes) (groups_at k bytes)
unfolding groups_at
groups_wants zero [] = λ e. omega arith
groups_wants (suc k) [] = λ e. omega arith
groups_wants zero (a ∷ bytes) =
    step_wants zero (suc (length bytes)) (eqb a 0) (cond (ltb a 128) (Ok (a, bytes)) (Err Overlong))
    (either_wants zero (suc (length bytes)) (ltb a 128) (a, bytes) (Err Overlong) (λ e. absurd cc))
groups_wants (suc k) (a ∷ bytes) =
    step_wants (suc k) (suc (length bytes)) (eqb a 0) (cond (ltb a 128) (Ok (a, bytes)) (next_group a (groups_at k bytes)))
    (either_wants (suc k) (suc (length bytes)) (ltb a 128) (a, bytes) (next_group a (groups_at k bytes)) (group_wants k (length bytes) a (groups_at k bytes) (groups_wants k bytes)))

-- one that is not whole has three bytes at most
pub varint_wants : (bytes : List ℕ) → varint_at bytes ≡ Err Short → length bytes ≤ 3
unfolding varint_at
varint_wants [] = λ e. omega arith
varint_wants (a ∷ bytes) = either_wants 3 (suc (length bytes)) (ltb a 128) (a, bytes) (next_group a (groups_at 2 bytes)) (group_wants 2 (length bytes) a (groups_at 2 bytes) (groups_wants 2 bytes))

-- ---- sizes

-- if the first answer is not `none`, more bytes do not change it
abbrev pub Stays : {A : Type 0} → A → A → A → Type 0
Stays none before after = (before ≡ none) ⊎ (after ≡ before)

abbrev Waiting : Result (Option ℕ) Fault
Waiting = Ok None

come_stays : (m n len size : ℕ) (few : Bool) → m ≤ n → ltb m len ≡ few
    → Stays Waiting (cond (ltb m len) (Ok None) (Ok (Some size))) (cond (ltb n len) (Ok None) (Ok (Some size)))
come_stays m n len size true l e = inl (rw e refl)
come_stays m n len size false l e =
    let high : len ≤ n = omega (arith, ltb-false m len e) in
    inr (rw (e, le-ltb n len high) refl)

large_stays : (large : Bool) (m n len size : ℕ) → m ≤ n
    → Stays Waiting (cond large (Err TooLarge) (cond (ltb m len) (Ok None) (Ok (Some size)))) (cond large (Err TooLarge) (cond (ltb n len) (Ok None) (Ok (Some size))))
large_stays true m n len size l = inr refl
large_stays false m n len size l = come_stays m n len size (ltb m len) l refl

taken_same : (bytes rest t : List ℕ) → length rest < length bytes → length (bytes ++ t) - length (rest ++ t) ≡ length bytes - length rest
taken_same bytes rest t l = omega (arith, length-append bytes t, length-append rest t)

size_by_stays : (bytes t : List ℕ) (r : Read) → Within (length bytes) r → Stays Waiting (size_by (length bytes) r) (size_by (length (bytes ++ t)) (with_more t r))
size_by_stays bytes t (Err Short) l = inl refl
size_by_stays bytes t (Err Overlong) l = inr refl
size_by_stays bytes t (Err BadText) l = inr refl
size_by_stays bytes t (Ok x) l =
    rw (taken_same bytes x.1 t l)
    (large_stays (ltb PACKET_LIMIT (1 + (length bytes - length x.1) + x.0)) (length x.1) (length (x.1 ++ t)) x.0 (1 + (length bytes - length x.1) + x.0) (omega (arith, length-append x.1 t)))

size_stays_by : (bytes t : List ℕ) → LeavesMore t (varint_at bytes) (varint_at (bytes ++ t))
    → Stays Waiting (size_by (length bytes) (varint_at bytes)) (size_by (length (bytes ++ t)) (varint_at (bytes ++ t)))
size_stays_by bytes t (inl e) = inl (ap (size_by (length bytes)) e)
size_stays_by bytes t (inr e) = rw e (size_by_stays bytes t (varint_at bytes) (varint_within bytes))

behind_stays : (head : Option Head) (bytes t : List ℕ) → Stays Waiting (size_behind head bytes) (size_behind head (bytes ++ t))
behind_stays None bytes t = inr refl
behind_stays (Some h) bytes t = size_stays_by bytes t (varint_more bytes t)

-- more bytes change nothing of a size that is known
pub size_stays : (h t : List ℕ) → Stays Waiting (size_at h) (size_at (h ++ t))
unfolding size_at
size_stays [] t = inl refl
size_stays (b ∷ bytes) t = behind_stays (head_of b) bytes t

whole_within : (large few : Bool) (count left len n : ℕ) → left < count → ltb left len ≡ few
    → cond large (Err TooLarge) (cond few Waiting (Ok (Some (1 + (count - left) + len)))) ≡ Ok (Some n) → (n ≤ 1 + count) × (0 < n)
whole_within true few count left len n l t e = absurd cc
whole_within false true count left len n l t e = absurd cc
whole_within false false count left len n l t e =
    let same : 1 + (count - left) + len ≡ n = cc in
    let high : len ≤ left = ltb-false left len t in
    (omega arith, omega arith)

size_by_within : (count n : ℕ) (r : Read) → Within count r → size_by count r ≡ Ok (Some n) → (n ≤ 1 + count) × (0 < n)
size_by_within count n (Err Short) l e = absurd cc
size_by_within count n (Err Overlong) l e = absurd cc
size_by_within count n (Err BadText) l e = absurd cc
size_by_within count n (Ok x) l e = whole_within (ltb PACKET_LIMIT (1 + (count - length x.1) + x.0)) (ltb (length x.1) x.0) count (length x.1) x.0 n l refl e

behind_within : (head : Option Head) (bytes : List ℕ) (n : ℕ) → size_behind head bytes ≡ Ok (Some n) → (n ≤ 1 + length bytes) × (0 < n)
behind_within None bytes n e = absurd cc
behind_within (Some h) bytes n e = size_by_within (length bytes) n (varint_at bytes) (varint_within bytes) e

-- a whole packet lies within the bytes, and is not empty
pub size_within : (h : List ℕ) (n : ℕ) → size_at h ≡ Ok (Some n) → (n ≤ length h) × (0 < n)
unfolding size_at
size_within [] n e = absurd cc
size_within (b ∷ bytes) n e =
    let l = behind_within (head_of b) bytes n e in
    (omega (arith, l.0), l.1)

-- ---- packets

first_by_stays : (h t : List ℕ) (r : Result (Option ℕ) Fault) → size_at h ≡ r → Stays (Ok None) (first_by h r) (first_by (h ++ t) r)
first_by_stays h t (Err f) e = inr refl
first_by_stays h t (Ok None) e = inl refl
first_by_stays h t (Ok (Some n)) e = inr (ap (λ (bs : List ℕ). with_size n (packet_at bs)) (take-append-le n h t (size_within h n e).0))

first_stays_by : (h t : List ℕ) → Stays Waiting (size_at h) (size_at (h ++ t)) → Stays (Ok None) (first_by h (size_at h)) (first_by (h ++ t) (size_at (h ++ t)))
first_stays_by h t (inl e) = inl (ap (first_by h) e)
first_stays_by h t (inr e) = rw e (first_by_stays h t (size_at h) refl)

-- a packet or a fault that the bytes begin with stays, whatever follows
pub first_stays : (h t : List ℕ) → Stays (Ok None) (first_of h) (first_of (h ++ t))
unfolding first_of
first_stays h t = first_stays_by h t (size_stays h t)

abbrev pub found_size : Result (Option (Packet × ℕ)) Fault → ℕ
found_size (Ok (Some x)) = x.1
found_size (Ok None) = 0
found_size (Err f) = 0

abbrev pub found_packet : Packet → Result (Option (Packet × ℕ)) Fault → Packet
found_packet p (Ok (Some x)) = x.0
found_packet p (Ok None) = p
found_packet p (Err f) = p

sized_within : (h : List ℕ) (p : Packet) (n m : ℕ) (r : Result Packet Fault) → size_at h ≡ Ok (Some m) → with_size m r ≡ Ok (Some (p, n)) → (n ≤ length h) × (0 < n)
sized_within h p n m (Err f) s e = absurd cc
sized_within h p n m (Ok q) s e =
    let same : m ≡ n = ap found_size e in
    subst (λ (k : ℕ). (k ≤ length h) × (0 < k)) same (size_within h m s)

first_by_within : (h : List ℕ) (p : Packet) (n : ℕ) (r : Result (Option ℕ) Fault) → size_at h ≡ r → first_by h r ≡ Ok (Some (p, n)) → (n ≤ length h) × (0 < n)
first_by_within h p n (Err f) s e = absurd cc
first_by_within h p n (Ok None) s e = absurd cc
first_by_within h p n (Ok (Some m)) s e = sized_within h p n m (packet_at (take m h)) s e

-- a first packet is within the bytes, and is not empty
pub first_within : (h : List ℕ) (p : Packet) (n : ℕ) → first_of h ≡ Ok (Some (p, n)) → (n ≤ length h) × (0 < n)
unfolding first_of
first_within h p n e = first_by_within h p n (size_at h) refl e
