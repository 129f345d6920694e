-- Numerals: the shortest decimal forms of numbers.
use Rattle.std.proofs.Common.{◌≡◌, ℕ, ◌<◌, ◌^◌, Bool, true, List, arith, ap, sym, subst, ◌∙◌, bytes_eq}
use Rattle.std.specs.Prelude.{Result, Ok, decimal}
use Rattle.std.specs.Str.{IsUtf8}
use Rattle.std.specs.Str.Parse.{ParsesUnsigned}
use Rattle.std.proofs.lemmas.Fmt.{IsAscii-decimal, parse-decimal}
use Rattle.std.proofs.lemmas.Slice.Eq.{bytes_eq-Decides}
use Rattle.std.proofs.lemmas.Str.{IsUtf8-from_ascii}
use Rattle.mqtt_keep.specs.lawful.Lawful.{IsNumeralUpTo}

-- they are texts
pub numeral_is_text : (last : ℕ) (text : List ℕ) → last < 2 ^ 64 → IsNumeralUpTo last text → IsUtf8 text
numeral_is_text last text fits h =
    let within = h.1.1 in
    subst IsUtf8 (sym h.2) (IsUtf8-from_ascii (decimal h.0) (IsAscii-decimal h.0 (omega (arith, within, fits))))

-- and are read
pub numeral_is_read : {E : Type 0} (last : ℕ) (text digits : List ℕ) (r : Result ℕ E) → last < 2 ^ 64 → digits ≡ text → ParsesUnsigned 64 10 digits r → (h : IsNumeralUpTo last text) → r ≡ Ok h.0
numeral_is_read last text digits r fits same parsed h =
    let within = h.1.1 in
    parse-decimal 64 h.0 digits r (omega (arith, within, fits)) (omega (arith, within, fits)) (same ∙ h.2) parsed

-- what was read is the number of a numeral exactly if its shortest form is the text
pub shortest_says : (number : ℕ) (text digits shortest : List ℕ) (b : Bool) → digits ≡ text → shortest ≡ decimal number → b ≡ bytes_eq shortest digits → b ≡ true → text ≡ decimal number
shortest_says number text digits shortest b same is test so =
    sym same ∙ sym ((bytes_eq-Decides shortest digits).0 (sym test ∙ so)) ∙ is

-- a numeral is the shortest if it is the one that is written
pub numeral_is_shortest : (last number : ℕ) (text digits shortest : List ℕ) (b : Bool) → digits ≡ text → shortest ≡ decimal number → b ≡ bytes_eq shortest digits → (h : IsNumeralUpTo last text) → h.0 ≡ number → b ≡ true
numeral_is_shortest last number text digits shortest b same is test h n =
    test ∙ (bytes_eq-Decides shortest digits).1 (is ∙ ap decimal (sym n) ∙ sym h.2 ∙ sym same)
