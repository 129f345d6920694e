-- What a word is read as is what it is the text of.
use Rattle.std.proofs.Common.{◌≡◌, refl, sym, ap, subst, ◌∙◌, ℕ, zero, suc, ◌<◌, ◌^◌, nat_lt, Bool, true, false, true≢false, ◌&&◌, if◌then◌else◌, List, [], ◌∷◌, length, codes, Option, Some, None, Ok, bytes_eq, inl, inr, arith}
use Rattle.std.specs.Prelude.{decimal}
use Rattle.std.specs.Bool.{Decides}
use Rattle.std.specs.Result.{result_ok}
use Rattle.std.specs.Str.Parse.{digits_value}
use Rattle.std.proofs.lemmas.Bool.Decides.{Decides-and, Decides-ltb}
use Rattle.std.proofs.lemmas.Fmt.{decimal_is_IsNumeral, decimal_digit}
use Rattle.std.proofs.lemmas.Slice.Eq.{bytes_eq-Decides}
use Rattle.hex.specs.Hex.{decode_of}
use Rattle.mqtt_base.specs.Values.{is_text}
use Rattle.mqtt_base.specs.declared.limits.TheConstants.{VARINT_LIMIT}
use Rattle.mqtt_base.specs.declared.session.Qos.{Qos}
use Rattle.mqtt_base.specs.declared.session.Qos.TheVariants.{AtMostOnce, AtLeastOnce, ExactlyOnce}
use Rattle.mqtt_base.specs.declared.session.RetainHandling.{RetainHandling}
use Rattle.mqtt_base.specs.declared.session.RetainHandling.TheVariants.{SendAlways, SendIfNew, DoNotSend}
use Rattle.mqtt_script.specs.Words.{IsName, IsNumber, flag_word, qos_word, handling_word, IsHex, IsPayload, IsWindow, IsAliasMaximum, AreAliases, IsIdentifier}
use Rattle.mqtt_script.specs.Reading.{name_at, flag_at, qos_at, handling_at, number_at, number_by, window_at, window_by, alias_maximum_at, alias_maximum_by, aliases_in, identifier_at, identifier_by, bytes_at, payload_at}
use Rattle.mqtt_script.proofs.Cases.{same_some, decided, granted, bound, goes_on, was_ok}

-- ---- names

name_decides : (word : List ℕ)
    → Decides (nat_lt 0 (length word) && (nat_lt (length word) (2 ^ 16) && is_text word)) (IsName word)
name_decides word =
    Decides-and _ _ (Decides-ltb 0 (length word))
    (Decides-and _ _ (Decides-ltb (length word) (2 ^ 16)) (λ is. is, λ is. is))

-- a word that is read as a name is one
pub name_says : (word name : List ℕ) → name_at word ≡ Some name → (word ≡ name) × IsName name
unfolding name_at
name_says word name e =
    let found = decided _ (name_decides word) (Some word) name e in
    let same = same_some word name found.1 in
    (same, subst IsName same found.0)

-- a name is read so
pub name_is_read : (word : List ℕ) → IsName word → name_at word ≡ Some word
unfolding name_at
name_is_read word is = granted _ (name_decides word) (Some word) is

-- ---- choices

module _ (word : List ℕ) where
  -- a word that is read as a flag is the word of that flag
  pub flag_says : (flag : Bool) → flag_at word ≡ Some flag → word ≡ flag_word flag
  unfolding flag_at
  flag_says flag e = go _ _ (bytes_eq-Decides word (codes "0")).0 (bytes_eq-Decides word (codes "1")).0 flag e
    where
      go : (zero one : Bool) → (zero ≡ true → word ≡ codes "0") → (one ≡ true → word ≡ codes "1") → (flag : Bool)
          → (if zero then Some false else if one then Some true else None) ≡ Some flag → word ≡ flag_word flag
      go true one a b false e = a refl
      go true one a b true e = cc
      go false true a b false e = cc
      go false true a b true e = b refl
      go false false a b flag e = cc

  -- a word that is read as a quality of service is the word of it
  pub qos_says : (qos : Qos) → qos_at word ≡ Some qos → word ≡ qos_word qos
  unfolding qos_at
  qos_says qos e =
      go _ _ _ (bytes_eq-Decides word (codes "0")).0 (bytes_eq-Decides word (codes "1")).0
      (bytes_eq-Decides word (codes "2")).0 e
    where
      go : (zero one two : Bool) → (zero ≡ true → word ≡ codes "0") → (one ≡ true → word ≡ codes "1")
          → (two ≡ true → word ≡ codes "2")
          → (if zero then Some AtMostOnce else if one then Some AtLeastOnce else if two then Some ExactlyOnce else None)
          ≡ Some qos → word ≡ qos_word qos
      go true one two a b c e = subst (λ q. word ≡ qos_word q) (same_some AtMostOnce qos e) (a refl)
      go false true two a b c e = subst (λ q. word ≡ qos_word q) (same_some AtLeastOnce qos e) (b refl)
      go false false true a b c e = subst (λ q. word ≡ qos_word q) (same_some ExactlyOnce qos e) (c refl)
      go false false false a b c e = cc

  -- a word that is read as a Retain Handling is the word of it
  pub handling_says : (handling : RetainHandling) → handling_at word ≡ Some handling → word ≡ handling_word handling
  unfolding handling_at
  handling_says handling e =
      go _ _ _ (bytes_eq-Decides word (codes "0")).0 (bytes_eq-Decides word (codes "1")).0
      (bytes_eq-Decides word (codes "2")).0 e
    where
      go : (zero one two : Bool) → (zero ≡ true → word ≡ codes "0") → (one ≡ true → word ≡ codes "1")
          → (two ≡ true → word ≡ codes "2")
          → (if zero then Some SendAlways else if one then Some SendIfNew else if two then Some DoNotSend else None)
          ≡ Some handling → word ≡ handling_word handling
      go true one two a b c e = subst (λ h. word ≡ handling_word h) (same_some SendAlways handling e) (a refl)
      go false true two a b c e = subst (λ h. word ≡ handling_word h) (same_some SendIfNew handling e) (b refl)
      go false false true a b c e = subst (λ h. word ≡ handling_word h) (same_some DoNotSend handling e) (c refl)
      go false false false a b c e = cc

-- a flag's word is read as that flag
pub flag_is_read : (flag : Bool) → flag_at (flag_word flag) ≡ Some flag
unfolding flag_at
flag_is_read false = refl
flag_is_read true = refl

-- a quality of service is
pub qos_is_read : (qos : Qos) → qos_at (qos_word qos) ≡ Some qos
unfolding qos_at
qos_is_read AtMostOnce = refl
qos_is_read AtLeastOnce = refl
qos_is_read ExactlyOnce = refl

-- a Retain Handling is
pub handling_is_read : (handling : RetainHandling) → handling_at (handling_word handling) ≡ Some handling
unfolding handling_at
handling_is_read SendAlways = refl
handling_is_read SendIfNew = refl
handling_is_read DoNotSend = refl

-- ---- numbers

none_below : (n : ℕ) → (0 < n → ⊥) → n ≡ 0
none_below zero none = refl
none_below (suc n) none = absurd (none (omega arith))

number_decides : (word : List ℕ) (n : ℕ) → Decides (nat_lt n (2 ^ 64) && bytes_eq word (decimal n)) (IsNumber n word)
number_decides word n = Decides-and _ _ (Decides-ltb n (2 ^ 64)) (bytes_eq-Decides word (decimal n))

number_by_says : (word : List ℕ) (m n : ℕ) → number_by word m ≡ Some n → IsNumber n word
number_by_says word m n e =
    let found = decided _ (number_decides word m) (Some m) n e in
    subst (λ k. IsNumber k word) (same_some m n found.1) found.0

-- a word that is read as a number says it
pub number_says : (word : List ℕ) (n : ℕ) → number_at word ≡ Some n → IsNumber n word
unfolding number_at
number_says word n e = number_by_says word (digits_value 10 word) n e

-- a word that says a number is read so
pub number_is_read : (word : List ℕ) (n : ℕ) → IsNumber n word → number_at word ≡ Some n
unfolding number_at
number_is_read word n is =
    let value : digits_value 10 word ≡ n = ap (digits_value 10) is.1 ∙ (decimal_is_IsNumeral n is.0).1 in
    ap (number_by word) value ∙ granted _ (number_decides word n) (Some n) is

window_decides : (n : ℕ) → Decides (nat_lt 0 n && nat_lt n (2 ^ 16)) ((0 < n) × (n < 2 ^ 16))
window_decides n = Decides-and _ _ (Decides-ltb 0 n) (Decides-ltb n (2 ^ 16))

-- a word that is read as a Receive Maximum says it
pub window_says : (word : List ℕ) (n : ℕ) → window_at word ≡ Some n → IsWindow n word
unfolding window_at
window_says word n e =
    let step = bound (number_at word) window_by n e in
    let found = decided _ (window_decides step.0) (Some step.0) n step.2 in
    let same = same_some step.0 n found.1 in
    subst (λ k. IsWindow k word) same (found.0.0, found.0.1, (number_says word step.0 step.1).1)

-- a word that says one is read so
pub window_is_read : (word : List ℕ) (n : ℕ) → IsWindow n word → window_at word ≡ Some n
unfolding window_at
window_is_read word n is =
    goes_on (number_at word) window_by n (number_is_read word n (omega arith, is.2))
    ∙ granted _ (window_decides n) (Some n) (is.0, is.1)

alias_maximum_says : (word : List ℕ) (n : ℕ) → alias_maximum_at word ≡ Some n → IsAliasMaximum n word
unfolding alias_maximum_at
alias_maximum_says word n e =
    let step = bound (number_at word) alias_maximum_by n e in
    let found = decided _ (Decides-ltb step.0 (2 ^ 16)) (Some step.0) n step.2 in
    let same = same_some step.0 n found.1 in
    subst (λ k. IsAliasMaximum k word) same (found.0, (number_says word step.0 step.1).1)

alias_maximum_is_read : (word : List ℕ) (n : ℕ) → IsAliasMaximum n word → alias_maximum_at word ≡ Some n
unfolding alias_maximum_at
alias_maximum_is_read word n is =
    goes_on (number_at word) alias_maximum_by n (number_is_read word n (omega arith, is.1))
    ∙ granted _ (Decides-ltb n (2 ^ 16)) (Some n) is.0

-- words that are read as a Topic Alias Maximum say it
pub aliases_say : (words : List (List ℕ)) (n : ℕ) → aliases_in words ≡ Some n → AreAliases n words
unfolding aliases_in
aliases_say [] n e = inl (refl, sym (same_some 0 n e))
aliases_say (word ∷ []) n e = inr (word, refl, alias_maximum_says word n e)
aliases_say (word ∷ next ∷ more) n e = cc

-- words that say one are read so
pub aliases_are_read : (words : List (List ℕ)) (n : ℕ) → AreAliases n words → aliases_in words ≡ Some n
unfolding aliases_in
aliases_are_read words n (inl is) = rw is.0 (ap (λ m. Some m) (sym is.1))
aliases_are_read words n (inr (word, is, says)) = rw is (alias_maximum_is_read word n says)

identifier_chosen : (word : List ℕ) (n : ℕ) (some : Bool) → Decides some (0 < n) → n < VARINT_LIMIT → word ≡ decimal n
    → (i : Option ℕ) → (if some then Some (Some n) else Some None) ≡ Some i → IsIdentifier i word
identifier_chosen word n true positive small is i e =
    subst (λ j. IsIdentifier j word) (same_some (Some n) i e) (positive.0 refl, small, is)
identifier_chosen word n false positive small is i e =
    let none : n ≡ 0 = none_below n (λ above. true≢false (sym (positive.1 above))) in
    subst (λ j. IsIdentifier j word) (same_some None i e) (is ∙ ap decimal none ∙ decimal_digit 0 (omega arith))

-- a word that is read as a Subscription Identifier, or as none, says so
pub identifier_says : (word : List ℕ) (i : Option ℕ) → identifier_at word ≡ Some i → IsIdentifier i word
unfolding identifier_at
identifier_says word i e =
    let step = bound (number_at word) identifier_by i e in
    let n = step.0 in
    let found = decided _ (Decides-ltb n VARINT_LIMIT) (if nat_lt 0 n then Some (Some n) else Some None) i step.2 in
    identifier_chosen word n _ (Decides-ltb 0 n) found.0 (number_says word n step.1).1 i found.1

below_64 : (n : ℕ) → n < VARINT_LIMIT → n < 2 ^ 64
below_64 n small = omega arith

identifier_by_is : (n : ℕ) → 0 < n → n < VARINT_LIMIT → identifier_by n ≡ Some (Some n)
identifier_by_is n positive small =
    granted _ (Decides-ltb n VARINT_LIMIT) (if nat_lt 0 n then Some (Some n) else Some None) small
    ∙ chosen _ ((Decides-ltb 0 n).1 positive)
  where
    chosen : (b : Bool) → b ≡ true → (if b then Some (Some n) else Some None) ≡ Some (Some n)
    chosen true is = refl
    chosen false is = cc

-- a word that says one, or none, is read so
pub identifier_is_read : (word : List ℕ) (i : Option ℕ) → IsIdentifier i word → identifier_at word ≡ Some i
unfolding identifier_at
identifier_is_read word None is =
    goes_on (number_at word) identifier_by 0
    (number_is_read word 0 (omega arith, is ∙ sym (decimal_digit 0 (omega arith))))
identifier_is_read word (Some n) is =
    goes_on (number_at word) identifier_by n (number_is_read word n (below_64 n is.1, is.2))
    ∙ identifier_by_is n is.0 is.1

-- ---- bytes

-- a word that is read as bytes says them
pub bytes_say : (word bytes : List ℕ) → bytes_at word ≡ Some bytes → IsHex bytes word
unfolding bytes_at
bytes_say word bytes e =
    let found = decided _ (Decides-ltb 0 (length word)) (result_ok (decode_of word)) bytes e in
    (found.0, was_ok (decode_of word) bytes found.1)

-- a word that says bytes is read so
pub bytes_are_read : (word bytes : List ℕ) → IsHex bytes word → bytes_at word ≡ Some bytes
unfolding bytes_at
bytes_are_read word bytes is =
    granted _ (Decides-ltb 0 (length word)) (result_ok (decode_of word)) is.0 ∙ ap result_ok is.1

-- a word that is read as a payload says it
pub payload_says : (word payload : List ℕ) → payload_at word ≡ Some payload → IsPayload payload word
unfolding payload_at
payload_says word payload e = go _ (bytes_eq-Decides word (codes "-")).0 e
  where
    go : (none : Bool) → (none ≡ true → word ≡ codes "-") → (if none then Some [] else bytes_at word) ≡ Some payload
        → IsPayload payload word
    go true is e = inl (is refl, sym (same_some [] payload e))
    go false is e = inr (bytes_say word payload e)

-- - is no hexadecimal digit
no_digits : (word payload : List ℕ) → IsHex payload word → word ≡ codes "-" → ⊥
no_digits word payload is same =
    let none : decode_of (codes "-") ≡ Ok payload = subst (λ w. decode_of w ≡ Ok payload) same is.1 in
    cc none

-- a word that says a payload is read so
pub payload_is_read : (word payload : List ℕ) → IsPayload payload word → payload_at word ≡ Some payload
unfolding payload_at
payload_is_read word payload (inl is) =
    rw is.0 (ap (λ p. Some p) (sym is.1))
payload_is_read word payload (inr is) = go _ (bytes_eq-Decides word (codes "-")).0
  where
    go : (none : Bool) → (none ≡ true → word ≡ codes "-") → (if none then Some [] else bytes_at word) ≡ Some payload
    go true same = absurd (no_digits word payload is (same refl))
    go false same = bytes_are_read word payload is
