-- The variable byte integer is the shortest of all encodings of its number.
use Rattle.std.proofs.Common.{ℕ, ◌-◌, ◌^◌, ◌<◌, ◌≤◌, List, [], ◌∷◌, length, arith, inl, inr}
use Rattle.std.proofs.lemmas.Bool.{cases_lt}
use Rattle.mqtt_base.specs.Values.{sevens, IsGroups, IsContinued, IsVarInt, Encodes, Fewest}

-- so many bytes hold a number below this
below_one : (a : ℕ) → sevens (a ∷ []) < 2 ^ 7
below_one a = omega arith

below_two : (a b : ℕ) → sevens (a ∷ b ∷ []) < 2 ^ 14
below_two a b = omega arith

below_three : (a b c : ℕ) → sevens (a ∷ b ∷ c ∷ []) < 2 ^ 21
below_three a b c = omega arith

-- so many bytes of which the last isn't 0 hold no number below this
two_or_more : (n a b : ℕ) (v : List ℕ) → IsVarInt n (a ∷ b ∷ v) → 2 ^ 7 ≤ n
two_or_more n a b [] h = omega (arith, h.2, h.1.2, h.1.3)
two_or_more n a b (c ∷ []) h = omega (arith, h.2, h.1.2.2, h.1.2.3)
two_or_more n a b (c ∷ d ∷ []) h = omega (arith, h.2, h.1.2.2.2, h.1.2.2.3)
two_or_more n a b (c ∷ d ∷ e ∷ v) h = absurd (omega (arith, h.0))

three_or_more : (n a b c : ℕ) (v : List ℕ) → IsVarInt n (a ∷ b ∷ c ∷ v) → 2 ^ 14 ≤ n
three_or_more n a b c [] h = omega (arith, h.2, h.1.2.2, h.1.2.3)
three_or_more n a b c (d ∷ []) h = omega (arith, h.2, h.1.2.2.2, h.1.2.2.3)
three_or_more n a b c (d ∷ e ∷ v) h = absurd (omega (arith, h.0))

four_or_more : (n a b c d : ℕ) (v : List ℕ) → IsVarInt n (a ∷ b ∷ c ∷ d ∷ v) → 2 ^ 21 ≤ n
four_or_more n a b c d [] h = omega (arith, h.2, h.1.2.2.2, h.1.2.2.3)
four_or_more n a b c d (e ∷ v) h = absurd (omega (arith, h.0))

-- no encoding of the number has fewer bytes
pub varint_shortest : (n : ℕ) (v w : List ℕ) → IsVarInt n v → Encodes n w → length v ≤ length w
varint_shortest n [] w h k = omega arith
varint_shortest n v [] h k = absurd k.1
varint_shortest n (a ∷ []) (p ∷ w) h k = omega arith
varint_shortest n (a ∷ b ∷ v) (p ∷ []) h k = absurd (omega (arith, two_or_more n a b v h, k.2))
varint_shortest n (a ∷ b ∷ []) (p ∷ q ∷ w) h k = omega arith
varint_shortest n (a ∷ b ∷ c ∷ v) (p ∷ q ∷ []) h k = absurd (omega (arith, three_or_more n a b c v h, k.2))
varint_shortest n (a ∷ b ∷ c ∷ []) (p ∷ q ∷ r ∷ w) h k = omega arith
varint_shortest n (a ∷ b ∷ c ∷ d ∷ v) (p ∷ q ∷ r ∷ []) h k = absurd (omega (arith, four_or_more n a b c d v h, k.2))
varint_shortest n (a ∷ b ∷ c ∷ d ∷ v) (p ∷ q ∷ r ∷ s ∷ w) h k = omega (arith, h.0)

-- ---- the standard's own words: an encoding with the fewest bytes

continued : (v : List ℕ) → IsGroups v → IsContinued v
continued [] h = h
continued (a ∷ []) h = h
continued (a ∷ b ∷ []) h = (h.0, h.1, h.3)
continued (a ∷ b ∷ c ∷ v) h = (h.0, h.1, continued (b ∷ c ∷ v) h.2)

-- an encoding with the fewest bytes has no last byte 0: without it the number would be the same
fewest_is : (n : ℕ) (v : List ℕ) → Encodes n v → Fewest n v → IsVarInt n v
fewest_is n [] h least = absurd h.1
fewest_is n (a ∷ []) h least = h
fewest_is n (a ∷ b ∷ []) h least =
    let g = h.1 in
    elim (cases_lt 0 b) [
      | inl pos ↦ (h.0, (g.0, g.1, pos, g.2), h.2)
      | inr none ↦ absurd (omega (arith, least ((a - 128) ∷ []) (omega arith, omega (arith, g.0, g.1), omega (arith, h.2, none, g.0, g.1))))
    ]
fewest_is n (a ∷ b ∷ c ∷ []) h least =
    let g = h.1 in
    let g2 = g.2 in
    elim (cases_lt 0 c) [
      | inl pos ↦ (h.0, (g.0, g.1, (g2.0, g2.1, pos, g2.2)), h.2)
      | inr none ↦ absurd (omega (arith, least (a ∷ (b - 128) ∷ []) (omega arith, (g.0, g.1, omega (arith, g2.0, g2.1)), omega (arith, h.2, none, g2.0, g2.1))))
    ]
fewest_is n (a ∷ b ∷ c ∷ d ∷ []) h least =
    let g = h.1 in
    let g2 = g.2 in
    let g3 = g2.2 in
    elim (cases_lt 0 d) [
      | inl pos ↦ (h.0, (g.0, g.1, (g2.0, g2.1, (g3.0, g3.1, pos, g3.2))), h.2)
      | inr none ↦ absurd (omega (arith, least (a ∷ b ∷ (c - 128) ∷ []) (omega arith, (g.0, g.1, (g2.0, g2.1, omega (arith, g3.0, g3.1))), omega (arith, h.2, none, g3.0, g3.1))))
    ]
fewest_is n (a ∷ b ∷ c ∷ d ∷ e ∷ v) h least = absurd (omega (arith, h.0))

-- a Variable Byte Integer is the spelling with the fewest bytes, and no other
pub varint_fewest : (n : ℕ) (v : List ℕ) → (IsVarInt n v → Encodes n v × Fewest n v) × (Encodes n v × Fewest n v → IsVarInt n v)
varint_fewest n v = (λ is. ((is.0, continued v is.1, is.2), λ w k. varint_shortest n v w is k), λ h. fewest_is n v h.0 h.1)
