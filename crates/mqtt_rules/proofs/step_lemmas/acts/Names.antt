-- Client identifiers that the broker assigns: different numbers give different ones.
use Rattle.std.proofs.Common.{◌≡◌, ℕ, ◌<◌, ◌*◌, ◌+◌, ◌-◌, ◌^◌, true, List, [], ◌∷◌, ◌++◌, refl, sym, ap, ◌∙◌}
use Rattle.std.specs.Prelude.{decimal, nat_eq}
use Rattle.std.specs.List.{starts_with}
use Rattle.std.specs.Str.{all_ascii_digits}
use Rattle.std.proofs.Common.{rules}
use Rattle.std.proofs.lemmas.Str.Parse.{IsNumeralModel, numerals_by_fold}
use Rattle.std.proofs.lemmas.Fmt.{digits_value-decimal}
use Rattle.mqtt_records.specs.state.Session.{auto}

abbrev read_on : ℕ → List ℕ → ℕ
read_on n [] = n
read_on n (c ∷ cs) = read_on (10 * n + (c - 48)) cs

own : IsNumeralModel (λ ds. all_ascii_digits ds ≡ true) (read_on 0)
own = numerals_by_fold _ (search rules) read_on (search rules)

decimals_differ : (m n : ℕ) → m < 2 ^ 64 → n < 2 ^ 64 → decimal m ≡ decimal n → m ≡ n
decimals_differ m n small less same = sym (digits_value-decimal own m small) ∙ ap (read_on 0) same ∙ digits_value-decimal own n less

behind : List ℕ → List ℕ
behind [] = []
behind (x ∷ xs) = xs

-- what follows the front of an assigned name
pub unfront : (xs ys : List ℕ) → auto ++ xs ≡ auto ++ ys → xs ≡ ys
unfolding behind
unfront xs ys same = ap (λ (zs : List ℕ). behind (behind (behind (behind (behind zs))))) same

-- two assigned names are the same only if their numbers are
pub assigned_differ : (m n : ℕ) → m < 2 ^ 64 → n < 2 ^ 64 → auto ++ decimal m ≡ auto ++ decimal n → m ≡ n
assigned_differ m n small less same = decimals_differ m n small less (unfront (decimal m) (decimal n) same)

-- an assigned name begins as such names do
pub assigned_starts : (n : ℕ) → starts_with nat_eq (auto ++ decimal n) auto ≡ true
assigned_starts n = refl
