-- A packet that the bytes begin with stands as soon as its last byte has come.
use Rattle.std.proofs.Common.{◌≡◌, ℕ, zero, suc, ◌+◌, ◌-◌, ◌<◌, ◌≤◌, Bool, true, false, cond, ltb, eqb, List, [], ◌∷◌, ◌++◌, length, take, drop, Option, None, Some, Result, Ok, Err, refl, sym, ap, ◌∙◌, inl, inr, arith, length-append, length-drop}
use Rattle.std.proofs.lemmas.Bool.{ltb-true}
use Rattle.std.proofs.lemmas.List.{take-append-drop, take-append-le, drop-take, length-take}
use Rattle.mqtt_base.specs.declared.fault.ReadFault.TheVariants.{Short, Overlong, BadText}
use Rattle.mqtt_base.specs.Reading.{groups_at, varint_at}
use Rattle.mqtt_packet.specs.declared.parts.fault.Fault.{Fault}
use Rattle.mqtt_packet.specs.declared.parts.fault.Fault.TheVariants.{TooLarge}
use Rattle.mqtt_base.specs.declared.limits.TheConstants.{PACKET_LIMIT}
use Rattle.mqtt_packet.specs.declared.codec.head.Head.{Head}
use Rattle.mqtt_packet.specs.declared.codec.packet.Packet.{Packet}
use Rattle.mqtt_packet.specs.codec.Heads.{head_of}
use Rattle.mqtt_packet.specs.codec.Frames.{packet_at}
use Rattle.mqtt_packet.specs.stream.Front.{size_by, size_behind, size_at, with_size, first_by, first_of}
use Rattle.mqtt_packet.specs.stream.Stream.{Item, place_after, IsCut}
use Rattle.mqtt_packet.proofs.stream_lemmas.Fronts.{Read, LeavesMore, next_group, varint_more, Within, groups_within, varint_within, size_stays, size_within, found_size, first_within}

-- ---- if a number wants more bytes, it ends among those that follow

group_keeps : (n a : ℕ) (r : Read) → Within n r → Within n (next_group a r)
group_keeps n a (Ok x) h = h
group_keeps n a (Err e) h = tt

wants_group : (n a : ℕ) (y z : Read) → (y ≡ Err Short → Within n z) → next_group a y ≡ Err Short → Within n (next_group a z)
wants_group n a (Ok x) z h e = absurd cc
wants_group n a (Err d) z h e = group_keeps n a z (h e)

wants_either : (n : ℕ) (d : Bool) (x w : ℕ × List ℕ) (y z : Read) → (y ≡ Err Short → Within n z) → cond d (Ok x) y ≡ Err Short → Within n (cond d (Ok w) z)
wants_either n true x w y z h e = absurd cc
wants_either n false x w y z h e = h e

wants_step : (n : ℕ) (c : Bool) (y z : Read) → (y ≡ Err Short → Within n z) → cond c (Err Overlong) y ≡ Err Short → Within n (cond c (Err Overlong) z)
wants_step n true y z h e = tt
wants_step n false y z h e = h e

groups_end : (k : ℕ) (bytes t : List ℕ) → groups_at k bytes ≡ Err Short → Within (length t) (groups_at k (bytes ++ t))
unfolding groups_at
groups_end zero [] t e = groups_within zero t
groups_end (suc k) [] t e = groups_within (suc k) t
groups_end zero (a ∷ bytes) t e =
    wants_step (length t) (eqb a 0) (cond (ltb a 128) (Ok (a, bytes)) (Err Overlong)) (cond (ltb a 128) (Ok (a, bytes ++ t)) (Err Overlong))
    (wants_either (length t) (ltb a 128) (a, bytes) (a, bytes ++ t) (Err Overlong) (Err Overlong) (λ bad. tt)) e
groups_end (suc k) (a ∷ bytes) t e =
    let y = next_group a (groups_at k bytes) in
    let z = next_group a (groups_at k (bytes ++ t)) in
    wants_step (length t) (eqb a 0) (cond (ltb a 128) (Ok (a, bytes)) y) (cond (ltb a 128) (Ok (a, bytes ++ t)) z)
    (wants_either (length t) (ltb a 128) (a, bytes) (a, bytes ++ t) y z (wants_group (length t) a (groups_at k bytes) (groups_at k (bytes ++ t)) (λ s. groups_end k bytes t s))) e

varint_end : (bytes t : List ℕ) → varint_at bytes ≡ Err Short → Within (length t) (varint_at (bytes ++ t))
unfolding varint_at
varint_end [] t e = varint_within t
varint_end (a ∷ bytes) t e =
    wants_either (length t) (ltb a 128) (a, bytes) (a, bytes ++ t) (next_group a (groups_at 2 bytes)) (next_group a (groups_at 2 (bytes ++ t)))
    (wants_group (length t) a (groups_at 2 bytes) (groups_at 2 (bytes ++ t)) (λ s. groups_end 2 bytes t s)) e

-- ---- if a packet is not whole, it is longer than what has come

size_is_by : (large few : Bool) (size n : ℕ) → cond large (Err TooLarge) (cond few (Ok None) (Ok (Some size))) ≡ Ok (Some n) → size ≡ n
size_is_by true few size n e = absurd cc
size_is_by false true size n e = absurd cc
size_is_by false false size n e = cc

size_is : (count n : ℕ) (x : ℕ × List ℕ) → size_by count (Ok x) ≡ Ok (Some n) → 1 + (count - length x.1) + x.0 ≡ n
size_is count n x e = size_is_by (ltb PACKET_LIMIT (1 + (count - length x.1) + x.0)) (ltb (length x.1) x.0) (1 + (count - length x.1) + x.0) n e

few_by : (large few : Bool) (left len size : ℕ) → ltb left len ≡ few → cond large (Err TooLarge) (cond few (Ok None) (Ok (Some size))) ≡ Ok None → left < len
few_by true few left len size t e = absurd cc
few_by false true left len size t e = ltb-true left len t
few_by false false left len size t e = absurd cc

longer_short : (bytes t : List ℕ) (n : ℕ) (r : Read) → Within (length t) r → size_by (length (bytes ++ t)) r ≡ Ok (Some n) → 1 + length bytes < n
longer_short bytes t n (Err Short) l e = absurd cc
longer_short bytes t n (Err Overlong) l e = absurd cc
longer_short bytes t n (Err BadText) l e = absurd cc
longer_short bytes t n (Ok x) l e = omega (arith, size_is (length (bytes ++ t)) n x e, l, length-append bytes t)

longer_by : (bytes t : List ℕ) (n : ℕ) (r s : Read) → Within (length bytes) r → (r ≡ Err Short → Within (length t) s) → LeavesMore t r s
    → size_by (length bytes) r ≡ Ok None → size_by (length (bytes ++ t)) s ≡ Ok (Some n) → 1 + length bytes < n
longer_by bytes t n (Err Short) s w short more e f = longer_short bytes t n s (short refl) f
longer_by bytes t n (Err Overlong) s w short more e f = absurd cc
longer_by bytes t n (Err BadText) s w short more e f = absurd cc
longer_by bytes t n (Ok x) s w short (inl bad) e f = absurd cc
longer_by bytes t n (Ok x) s w short (inr same) e f =
    let few : length x.1 < x.0 = few_by (ltb PACKET_LIMIT (1 + (length bytes - length x.1) + x.0)) (ltb (length x.1) x.0) (length x.1) x.0 (1 + (length bytes - length x.1) + x.0) refl e in
    let whole : size_by (length (bytes ++ t)) (Ok (x.0, x.1 ++ t)) ≡ Ok (Some n) = ap (size_by (length (bytes ++ t))) (sym same) ∙ f in
    omega (arith, size_is (length (bytes ++ t)) n (x.0, x.1 ++ t) whole, few, w, length-append bytes t, length-append x.1 t)

behind_longer : (h : Option Head) (bytes t : List ℕ) (n : ℕ) → size_behind h bytes ≡ Ok None → size_behind h (bytes ++ t) ≡ Ok (Some n) → 1 + length bytes < n
behind_longer None bytes t n e f = absurd cc
behind_longer (Some h) bytes t n e f = longer_by bytes t n (varint_at bytes) (varint_at (bytes ++ t)) (varint_within bytes) (λ s. varint_end bytes t s) (varint_more bytes t) e f

size_longer : (bytes t : List ℕ) (n : ℕ) → size_at bytes ≡ Ok None → size_at (bytes ++ t) ≡ Ok (Some n) → length bytes < n
unfolding size_at
size_longer [] t n e f = (size_within t n f).1
size_longer (b ∷ bytes) t n e f = omega (arith, behind_longer (head_of b) bytes t n e f)

-- ---- so it stands with its last byte

size_less : (h : List ℕ) (n k : ℕ) → size_at h ≡ Ok (Some n) → n ≤ k → size_at (take k h) ≡ Ok (Some n)
size_less h n k e l =
    let whole : size_at (take k h ++ drop k h) ≡ Ok (Some n) = ap size_at (take-append-drop k h) ∙ e in
    elim (size_stays (take k h) (drop k h)) [
      | inl w ↦
          let clash = size_longer (take k h) (drop k h) n w whole in
          absurd (omega (arith, clash, l, (size_within h n e).0, length-take k h))
      | inr s ↦ sym s ∙ whole
    ]

take_less : (n k : ℕ) (h : List ℕ) → n ≤ k → n ≤ length h → take n (take k h) ≡ take n h
take_less n k h l m =
    let long : n ≤ length (take k h) = omega (arith, l, m, length-take k h) in
    sym (take-append-le n (take k h) (drop k h) long) ∙ ap (take n) (take-append-drop k h)

sized_less : (h : List ℕ) (p : Packet) (n m k : ℕ) (r : Result Packet Fault) → size_at h ≡ Ok (Some m) → packet_at (take m h) ≡ r → with_size m r ≡ Ok (Some (p, n)) → n ≤ k
    → first_by (take k h) (size_at (take k h)) ≡ Ok (Some (p, n))
sized_less h p n m k (Err f) s read e l = absurd cc
sized_less h p n m k (Ok q) s read e l =
    let same : m ≡ n = ap found_size e in
    let small : m ≤ k = omega arith in
    rw (size_less h m k s small, take_less m k h small (size_within h m s).0, read) e

first_by_less : (h : List ℕ) (p : Packet) (n k : ℕ) (r : Result (Option ℕ) Fault) → size_at h ≡ r → first_by h r ≡ Ok (Some (p, n)) → n ≤ k
    → first_by (take k h) (size_at (take k h)) ≡ Ok (Some (p, n))
first_by_less h p n k (Err f) s e l = absurd cc
first_by_less h p n k (Ok None) s e l = absurd cc
first_by_less h p n k (Ok (Some m)) s e l = sized_less h p n m k (packet_at (take m h)) s refl e l

-- a first packet needs no bytes behind it
pub first_less : (h : List ℕ) (p : Packet) (n k : ℕ) → first_of h ≡ Ok (Some (p, n)) → n ≤ k → first_of (take k h) ≡ Ok (Some (p, n))
unfolding first_of
first_less h p n k e l = first_by_less h p n k (size_at h) refl e l

-- ---- a cut of less

cut_within : (place : ℕ) (stream : List ℕ) (items : List Item) (end : ℕ) (rest : List ℕ) → IsCut place stream items end rest → length rest ≤ length stream
cut_within place stream [] end rest c = omega (arith, ap length c.1)
cut_within place stream (i ∷ items) end rest c =
    omega (arith, cut_within (place_after place i.size) (drop i.size stream) items end rest c.2, length-drop i.size stream)

-- without the last bytes of the rest
pub cut_less : (n place : ℕ) (stream : List ℕ) (items : List Item) (end : ℕ) (rest : List ℕ) → IsCut place stream items end rest → n ≤ length rest
    → IsCut place (take (length stream - n) stream) items end (take (length rest - n) rest)
cut_less n place stream [] end rest c l = (c.0, ap (λ (xs : List ℕ). take (length xs - n) xs) c.1)
cut_less n place stream (i ∷ items) end rest c l =
    let after = drop i.size stream in
    let w = cut_within (place_after place i.size) after items end rest c.2 in
    let within = first_within stream i.packet i.size c.1 in
    let left : length after ≡ length stream - i.size = omega (arith, length-drop i.size stream) in
    let small : i.size ≤ length stream - n = omega (arith, w, l, within.0, left, within.1) in
    let parts : length stream - n ≡ i.size + (length after - n) = omega (arith, w, l, within.0, left) in
    let dropped : drop i.size (take (length stream - n) stream) ≡ take (length after - n) after = ap (λ (k : ℕ). drop i.size (take k stream)) parts ∙ drop-take i.size (length after - n) stream in
    (c.0, first_less stream i.packet i.size (length stream - n) c.1 small, rw dropped (cut_less n (place_after place i.size) after items end rest c.2 l))
