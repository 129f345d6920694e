-- The test of a text's bytes is what its characters are: none of them is U+0000.
use Rattle.std.proofs.Common.{◌≡◌, ◌≢◌, ℕ, ◌<◌, Bool, true, false, ◌||◌, ◌&&◌, not, eqb, List, [], ◌∷◌, refl, sym, ap, subst, ◌∙◌, arith, inl, inr}
use Rattle.std.specs.Prelude.{encode_utf8_all}
use Rattle.std.specs.List.{list_any, AllByRecursion}
use Rattle.std.specs.Str.{IsUtf8, is_utf8}
use Rattle.std.proofs.Math.Utf8.{encode}
use Rattle.std.proofs.lemmas.Bool.{cases_lt, lt-ltb, le-ltb}
use Rattle.std.proofs.lemmas.List.Folds.{list_any-append}
use Rattle.std.proofs.lemmas.Str.{IsUtf8-from_is_utf8, is_utf8-from_IsUtf8}
use Rattle.mqtt_base.specs.Values.{IsUtf8WithoutNull, is_text}

has_zero : List ℕ → Bool
has_zero bytes = list_any (λ b. eqb b 0) bytes

or_false : (a b : Bool) → (a || b) ≡ false → (a ≡ false) × (b ≡ false)
or_false true b e = absurd cc
or_false false b e = (refl, e)

-- what is not the one, and is the other
pub not_and : (a b : Bool) → (not a && b) ≡ true → (a ≡ false) × (b ≡ true)
not_and true b e = absurd cc
not_and false b e = (refl, e)

-- ---- no byte is 0, so no character is

first_kept : (c : ℕ) → has_zero (encode c) ≡ false → c ≢ 0
unfolding has_zero encode
first_kept c e is =
    let here = subst (λ (k : ℕ). has_zero (encode k) ≡ false) is e in
    absurd cc

characters_kept : (cs : List ℕ) → has_zero (encode_utf8_all cs) ≡ false → AllByRecursion (λ c. c ≢ 0) cs
unfolding has_zero
characters_kept [] e = tt
characters_kept (c ∷ cs) e =
    let both = or_false (has_zero (encode c)) (has_zero (encode_utf8_all cs)) (sym (list_any-append (λ b. eqb b 0) (encode c) (encode_utf8_all cs)) ∙ e) in
    (first_kept c both.0, characters_kept cs both.1)

-- ---- no character is 0, so no byte is

more_kept : (b : ℕ) (bytes : List ℕ) → 0 < b → has_zero bytes ≡ false → has_zero (b ∷ bytes) ≡ false
unfolding has_zero
more_kept b bytes lt rest =
    let here : eqb b 0 ≡ false = grind arith in
    rw (here, rest) refl

none_kept : has_zero [] ≡ false
unfolding has_zero
none_kept = refl

bytes_kept : (c : ℕ) → c ≢ 0 → has_zero (encode c) ≡ false
unfolding encode
bytes_kept c some =
    elim (cases_lt c 128) [
      | inl a ↦ rw (lt-ltb c 128 a) (more_kept c [] (omega arith) none_kept)
      | inr a ↦ elim (cases_lt c 2048) [
        | inl b ↦ rw (le-ltb c 128 a, lt-ltb c 2048 b) (more_kept _ _ (omega arith) (more_kept _ _ (omega arith) none_kept))
        | inr b ↦ elim (cases_lt c 65536) [
          | inl d ↦ rw (le-ltb c 128 a, le-ltb c 2048 b, lt-ltb c 65536 d) (more_kept _ _ (omega arith) (more_kept _ _ (omega arith) (more_kept _ _ (omega arith) none_kept)))
          | inr d ↦ rw (le-ltb c 128 a, le-ltb c 2048 b, le-ltb c 65536 d) (more_kept _ _ (omega arith) (more_kept _ _ (omega arith) (more_kept _ _ (omega arith) (more_kept _ _ (omega arith) none_kept))))
        ]
      ]
    ]

all_kept : (cs : List ℕ) → AllByRecursion (λ c. c ≢ 0) cs → has_zero (encode_utf8_all cs) ≡ false
unfolding has_zero
all_kept [] some = refl
all_kept (c ∷ cs) some =
    list_any-append (λ b. eqb b 0) (encode c) (encode_utf8_all cs)
    ∙ rw (bytes_kept c some.0, all_kept cs some.1) refl

-- ---- the test is the meaning

-- what the test takes for a text is UTF-8 without a null character
pub text_means : (bytes : List ℕ) → is_text bytes ≡ true → IsUtf8WithoutNull bytes
unfolding has_zero
text_means bytes e =
    let t = not_and (list_any (λ b. eqb b 0) bytes) (is_utf8 bytes) e in
    let u : IsUtf8 bytes = IsUtf8-from_is_utf8 bytes t.1 in
    (u.0, u.1.0, u.1.1, characters_kept u.0 (ap has_zero u.1.1 ∙ t.0))

-- UTF-8 without a null character passes the test
pub text_meant : (bytes : List ℕ) → IsUtf8WithoutNull bytes → is_text bytes ≡ true
unfolding has_zero
text_meant bytes m =
    let none : list_any (λ b. eqb b 0) bytes ≡ false = ap has_zero (sym m.2) ∙ all_kept m.0 m.3 in
    let utf8 : is_utf8 bytes ≡ true = is_utf8-from_IsUtf8 bytes (m.0, (m.1, m.2)) in
    rw (none, utf8) refl
