-- A word that is parsed as a number, and has no sign and no zero before it, is its decimal form.
use Rattle.std.proofs.Common.{◌≡◌, ◌≢◌, refl, sym, ap, ◌∙◌, ℕ, zero, suc, ◌<◌, ◌^◌, nat_lt, Bool, true, false, true≢false, List, [], ◌∷◌, length, get_or, decimal, Some, None, Result, Ok, Err, Decides, arith}
use Rattle.std.specs.Str.Parse.{AllDigits, IsNumeral, ParsesUnsigned, digits_value, without_leading_plus}
use Rattle.std.proofs.lemmas.Bool.Decides.{Decides-ltb, nat_tests}
use Rattle.std.proofs.lemmas.Fmt.{decimal_digit, first_decimal, parse-decimal, decimal-digits_value}
use Rattle.std.proofs.lemmas.Str.Parse.{IsNumeralModel, numerals_by_value, tells_digits, without_leading_plus_none, without_leading_plus_plus}
use Rattle.mqtt_script.specs.Reading.{is_led, number_at}
use Rattle.mqtt_script.proofs.Cases.{none_of}
use Rattle.mqtt_script.proofs.Meanings.{number_says, number_is_read}

-- ---- the decimal form

digit_not_led : (n : ℕ) → n < 10 → is_led (decimal n) ≡ false
digit_not_led n small = ap is_led (decimal_digit n small)

by_first : (digits : List ℕ) → 48 < get_or digits 0 0 → is_led digits ≡ false
by_first [] above = refl
by_first (first ∷ []) above = refl
by_first (first ∷ next ∷ more) above = grind (arith, nat_tests)

positive : (n : ℕ) → (n < 10 → ⊥) → 0 < n
positive zero large = absurd (large (omega arith))
positive (suc n) large = omega arith

not_led : (n : ℕ) → n < 2 ^ 64 → is_led (decimal n) ≡ false
not_led n fits = go (nat_lt n 10) (Decides-ltb n 10)
  where
    go : (small : Bool) → Decides small (n < 10) → is_led (decimal n) ≡ false
    go true d = digit_not_led n (d.0 refl)
    go false d = by_first (decimal n) (first_decimal n (positive n (λ small. true≢false (sym (d.1 small)))) fits)

-- ---- what is refused

-- a word with a sign or a leading zero is no number
pub led_is_none : (word : List ℕ) → is_led word ≡ true → number_at word ≡ None
led_is_none word led = none_of (number_at word) never
  where
    never : (n : ℕ) → number_at word ≡ Some n → ⊥
    never n found =
        let said = number_says word n found in
        let plain : is_led word ≡ false = ap is_led said.1 ∙ not_led n said.0 in
        cc

-- a word that does not parse is no number
pub not_parsed : {E : Type 0} (word : List ℕ) (r : Result ℕ E) (e : E) → ParsesUnsigned 64 10 word r → r ≡ Err e
    → number_at word ≡ None
not_parsed word r e parsed is = none_of (number_at word) never
  where
    never : (n : ℕ) → number_at word ≡ Some n → ⊥
    never n found =
        let said = number_says word n found in
        let read : r ≡ Ok n = parse-decimal 64 n word r said.0 said.0 said.1 parsed in
        cc

-- ---- what is read

own : IsNumeralModel (AllDigits 10) (digits_value 10)
own = numerals_by_value (AllDigits 10) tells_digits

unsigned : (word : List ℕ) → is_led word ≡ false → 0 < length (without_leading_plus word) → get_or word 0 0 ≢ 43
unsigned [] led some e = absurd (nothing some)
  where
    nothing : 0 < length (without_leading_plus []) → ⊥
    nothing some = omega arith
unsigned (first ∷ []) led some e =
    let gone : length (without_leading_plus (first ∷ [])) ≡ 0 = ap length (without_leading_plus_plus (first ∷ []) e) in
    absurd (omega arith)
unsigned (first ∷ next ∷ more) led some e = grind (arith, nat_tests)

zero_alone : (word : List ℕ) → is_led word ≡ false → 0 < length word → get_or word 0 0 ≡ 48 → length word ≡ 1
zero_alone [] led some e = absurd (omega arith)
zero_alone (first ∷ []) led some e = refl
zero_alone (first ∷ next ∷ more) led some e = absurd (led_by_zero first next more led e)
  where
    led_by_zero : (first next : ℕ) (more : List ℕ) → is_led (first ∷ next ∷ more) ≡ false → first ≡ 48 → ⊥
    led_by_zero first next more led e = grind (arith, nat_tests)

decimal_form : (word : List ℕ) → is_led word ≡ false → IsNumeral 10 word → digits_value 10 word < 2 ^ 64
    → decimal (digits_value 10 word) ≡ word
decimal_form word led numeral fits =
    decimal-digits_value own word numeral.1 numeral.0 (zero_alone word led numeral.0) fits

-- a word that parses is read as its value
pub parsed_is_read : (word : List ℕ) (n : ℕ) → is_led word ≡ false
    → IsNumeral 10 (without_leading_plus word) × (digits_value 10 (without_leading_plus word) < 2 ^ 64)
    → n ≡ digits_value 10 (without_leading_plus word) → number_at word ≡ Some n
parsed_is_read word n led is value =
    let same = without_leading_plus_none word (unsigned word led is.0.0) in
    let numeral = rw same at is.0 in
    let fits = rw same at is.1 in
    let value_is : n ≡ digits_value 10 word = rw same at value in
    number_is_read word n (omega arith, sym (ap decimal value_is ∙ decimal_form word led numeral fits))
