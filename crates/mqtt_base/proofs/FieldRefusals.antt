-- If no binary data or text stands the reader says why, and each reason is told.
use Rattle.std.proofs.Common.{◌≡◌, ℕ, ◌+◌, ◌*◌, ◌<◌, ◌≤◌, Bool, true, false, cond, ltb, List, [], ◌∷◌, length, drop, Result, Ok, Err, refl, sym, ap, subst, ◌∙◌, arith, ◌⊎◌, inl, inr}
use Rattle.std.specs.Int.{w16, from_be_bytes}
use Rattle.std.proofs.lemmas.Bool.{cases_lt, lt-ltb, le-ltb}
use Rattle.std.proofs.lemmas.List.{length-drop}
use Rattle.mqtt_base.specs.declared.fault.ReadFault.{ReadFault}
use Rattle.mqtt_base.specs.declared.fault.ReadFault.TheVariants.{Short, Overlong, BadText}
use Rattle.mqtt_base.specs.Values.{is_text}
use Rattle.mqtt_base.specs.Reading.{number_at, blob_at, text_at}
use Rattle.mqtt_base.specs.Refusals.{said_length, said_body, IsWhole, BinaryRefused, TextRefused}
use Rattle.mqtt_base.proofs.Steps.{err_is}
use Rattle.mqtt_base.proofs.Characters.{text_means, text_meant}

-- what follows the binary data at the front
after : List ℕ → List ℕ
after bytes = drop (said_length bytes) (drop 2 bytes)

abbrev read_length : List ℕ → ℕ → Result (ℕ × List ℕ) ReadFault
read_length rest n = Ok (n, rest)

length_is : (bytes : List ℕ) → 2 ≤ length bytes → number_at w16 bytes ≡ Ok (said_length bytes, drop 2 bytes)
length_is [] le = absurd (omega (arith, le))
length_is (a ∷ []) le = absurd (omega (arith, le))
length_is (a ∷ b ∷ bytes) le =
    let is : from_be_bytes w16 (a ∷ b ∷ []) ≡ 256 * a + b = omega arith in
    rw (le-ltb (length (a ∷ b ∷ bytes)) 2 le) (ap (read_length bytes) is)

-- a field is whole or not
pub whole_or_not : (bytes : List ℕ) → IsWhole bytes ⊎ ¬ IsWhole bytes
whole_or_not bytes =
    elim (cases_lt (length bytes) 2) [
      | inl lt ↦ inr (λ w. absurd (omega (arith, lt, w.length_there)))
      | inr le ↦ elim (cases_lt (length bytes) (2 + said_length bytes)) [
        | inl lt ↦ inr (λ w. absurd (omega (arith, lt, w.body_there)))
        | inr more ↦ inl (record { length_there = le; body_there = more })
      ]
    ]

blob_whole : (bytes : List ℕ) → IsWhole bytes → blob_at bytes ≡ Ok (said_body bytes, after bytes)
unfolding blob_at after
blob_whole bytes w =
    let long : ltb (length (drop 2 bytes)) (said_length bytes) ≡ false = le-ltb _ _ (omega (arith, length-drop 2 bytes, w.length_there, w.body_there)) in
    rw (length_is bytes w.length_there, long) refl

no_length : (bytes : List ℕ) → length bytes < 2 → blob_at bytes ≡ Err Short
unfolding blob_at
no_length bytes lt = rw (lt-ltb (length bytes) 2 lt) refl

no_body : (bytes : List ℕ) → 2 ≤ length bytes → length bytes < 2 + said_length bytes → blob_at bytes ≡ Err Short
unfolding blob_at
no_body bytes le lt =
    let long : ltb (length (drop 2 bytes)) (said_length bytes) ≡ true = lt-ltb _ _ (omega (arith, length-drop 2 bytes, le, lt)) in
    rw (length_is bytes le, long) refl

blob_short : (bytes : List ℕ) → ¬ IsWhole bytes → blob_at bytes ≡ Err Short
blob_short bytes cut =
    elim (cases_lt (length bytes) 2) [
      | inl lt ↦ no_length bytes lt
      | inr le ↦ elim (cases_lt (length bytes) (2 + said_length bytes)) [
        | inl lt ↦ no_body bytes le lt
        | inr more ↦ absurd (cut (record { length_there = le; body_there = more }))
      ]
    ]

-- binary data is refused for what the definition says
pub blob_refused : (f : ReadFault) (bytes : List ℕ) → blob_at bytes ≡ Err f → BinaryRefused f bytes
blob_refused f bytes e =
    elim (whole_or_not bytes) [
      | inl w ↦ let ok = blob_whole bytes w in absurd cc
      | inr cut ↦ subst (λ (g : ReadFault). BinaryRefused g bytes) (err_is Short f (sym (blob_short bytes cut) ∙ e)) cut
    ]

-- what the definition refuses is refused
pub blob_due : (f : ReadFault) (bytes : List ℕ) → BinaryRefused f bytes → blob_at bytes ≡ Err f
blob_due Short bytes cut = blob_short bytes cut
blob_due Overlong bytes h = absurd h
blob_due BadText bytes h = absurd h

-- ---- text

text_short : (bytes : List ℕ) → ¬ IsWhole bytes → text_at bytes ≡ Err Short
unfolding text_at
text_short bytes cut = rw (blob_short bytes cut) refl

text_whole : (bytes : List ℕ) (b : Bool) → IsWhole bytes → is_text (said_body bytes) ≡ b → text_at bytes ≡ cond b (Ok (said_body bytes, after bytes)) (Err BadText)
unfolding text_at
text_whole bytes b w is = rw (blob_whole bytes w, is) refl

bad_means : (bytes : List ℕ) → is_text (said_body bytes) ≡ false → IsWhole bytes → TextRefused BadText bytes
bad_means bytes bad w = (w, λ m. let good = text_meant (said_body bytes) m in absurd cc)

test_of : (b : Bool) → (b ≡ true) ⊎ (b ≡ false)
test_of true = inl refl
test_of false = inr refl

-- a text is refused for what the definition says
pub text_refusal : (f : ReadFault) (bytes : List ℕ) → text_at bytes ≡ Err f → TextRefused f bytes
text_refusal f bytes e =
    elim (whole_or_not bytes) [
      | inr cut ↦ subst (λ (g : ReadFault). TextRefused g bytes) (err_is Short f (sym (text_short bytes cut) ∙ e)) cut
      | inl w ↦ elim (test_of (is_text (said_body bytes))) [
        | inl good ↦ let ok = text_whole bytes true w good in absurd cc
        | inr bad ↦ subst (λ (g : ReadFault). TextRefused g bytes) (err_is BadText f (sym (text_whole bytes false w bad) ∙ e)) (bad_means bytes bad w)
      ]
    ]

-- what the definition refuses is refused
pub text_due : (f : ReadFault) (bytes : List ℕ) → TextRefused f bytes → text_at bytes ≡ Err f
text_due Short bytes cut = text_short bytes cut
text_due Overlong bytes h = absurd h
text_due BadText bytes (w, bad) =
    elim (test_of (is_text (said_body bytes))) [
      | inl good ↦ absurd (bad (text_means (said_body bytes) good))
      | inr not_good ↦ text_whole bytes false w not_good
    ]
