-- The pairs of Subscription Identifiers, one by one.
use Rattle.std.proofs.Common.{◌≡◌, ◌≢◌, ℕ, true, false, ◌-◌, ◌≤◌, List, [], ◌∷◌, ◌++◌, length, length-drop, take, drop, sym, ap, ◌∙◌, append_assoc, append-nil, arith}
use Rattle.std.specs.Prelude.{Some, ◌==◌}
use Rattle.std.proofs.lemmas.List.{take-append-drop, take_all}
use Rattle.mqtt_base.specs.Values.{IsVarInt, varint}
use Rattle.mqtt_base.proofs.Varints.{varint_only}
use Rattle.mqtt_props.specs.Properties.{prop}
use Rattle.mqtt_records.specs.messages.PassedOn.{identified}
use Rattle.mqtt_store_rows.specs.values.Values.{IsIdentifier}
use Rattle.mqtt_store_rows.specs.rows.Rows.{pairs, ArePairs}
use Rattle.mqtt_store_rows.specs.rows.Ones.{one_front}

-- the pairs of one more
pub pairs_push : (ids : List ℕ) (n : ℕ) (rest : List ℕ) → pairs (ids ++ n ∷ []) ++ rest ≡ pairs ids ++ (prop (identified n) ++ rest)
pairs_push [] n rest = ap (λ (l : List ℕ). l ++ rest) (append-nil (prop (identified n)))
pairs_push (m ∷ ids) n rest = append_assoc (prop (identified m)) (pairs (ids ++ n ∷ [])) rest ∙ (ap (λ (l : List ℕ). prop (identified m) ++ l) (pairs_push ids n rest) ∙ sym (append_assoc (prop (identified m)) (pairs ids) (prop (identified n) ++ rest)))

-- behind the pair at the front stand the pairs of others
pub pairs_behind : (n : ℕ) (after more : List ℕ) → IsIdentifier (Some n) → ArePairs more (prop (identified n) ++ after) → (others : List ℕ) × ArePairs others after
pairs_behind n after [] range h = let is = h.spelled in absurd cc
pairs_behind n after (m ∷ more) range h =
    let is = h.spelled in
    let tails : varint n ++ after ≡ varint m ++ pairs more = cc in
    (more, record { spelled = (one_front n m after (pairs more) range.1 h.range.0.1 tails).1; range = h.range.1 })

-- a list that isn't empty by its length
pub not_empty : {X : Type 0} (xs : List X) → false ≡ (length xs == 0) → xs ≢ []
not_empty [] h is = let no : false ≡ true = h in absurd cc
not_empty (x ∷ xs) h is = absurd cc

-- what stands at the front of pairs, if there are any
pub record FirstPair (bytes : List ℕ) : Type 0 where
  pub one : ℕ
  pub after : List ℕ
  pub is : bytes ≡ prop (identified one) ++ after
  pub range : IsIdentifier (Some one)

-- pairs begin with a pair, if there are bytes
pub first_pair : (bytes ids : List ℕ) → bytes ≢ [] → ArePairs ids bytes → FirstPair bytes
first_pair bytes [] some h = absurd (some h.spelled)
first_pair bytes (n ∷ ids) some h = record { one = n; after = pairs ids; is = h.spelled; range = h.range.0 }

-- a byte 0B and a number that was read behind it are a pair
pub pair_is : (bytes rest : List ℕ) (first n taken : ℕ) → bytes ≡ first ∷ rest → first ≡ 11 → taken ≤ length rest → IsVarInt n (take taken rest)
    → bytes ≡ prop (identified n) ++ take (length rest - taken) (drop taken rest)
pair_is bytes rest first n taken is eleven within found =
    let spelled : take taken rest ≡ varint n = (varint_only n (take taken rest) found).0 in
    let count = length-drop taken rest in
    let whole : take (length rest - taken) (drop taken rest) ≡ drop taken rest = take_all (length rest - taken) (drop taken rest) (omega (arith, count)) in
    let parts : rest ≡ varint n ++ drop taken rest = sym (take-append-drop taken rest) ∙ ap (λ (l : List ℕ). l ++ drop taken rest) spelled in
    is ∙ (ap (λ (k : ℕ). k ∷ rest) eleven ∙ ap (λ (l : List ℕ). 11 ∷ l) (parts ∙ ap (λ (l : List ℕ). varint n ++ l) (sym whole)))
