-- A text of an object is read back as it was.
use Rattle.std.proofs.Common.{◌≡◌, ◌∙◌, ◌⊎◌, ◌<◌, ◌≤◌, ℕ, zero, suc, List, [], ◌∷◌, ◌++◌, Some, ap, drop, append_assoc, arith, inl, inr, refl, subst, sym}
use Rattle.std.proofs.lemmas.Bool.{cases_eq, cases_lt, le-ltb, ne_eqb}
use Rattle.std.specs.List.{flat_map}
use Rattle.json.specs.Text.{code_unit, content, plain, prepend, short_escape}
use Rattle.mqtt_cli.specs.viewer.JsonValues.{backslash, json_byte, json_text, quote}
use lib.Utf8.{encode}

-- what a reader makes of a byte as it is written, before any text
abbrev Passes : ℕ → Type 0
Passes b = (rest : List ℕ) → content plain (json_byte b ++ rest) ≡ prepend (b ∷ []) (content plain rest)

-- something holds of each number below this one
abbrev Each : (ℕ → Type 0) → ℕ → Type 0
Each P zero = Unit {0}
Each P (suc n) = P n × Each P n

each_below : (P : ℕ → Type 0) (n : ℕ) → Each P n → (b : ℕ) → b < n → P b
each_below P zero each b below = absurd (omega arith)
each_below P (suc n) each b below = go (each_below P n each.1 b) (cases_eq b n)
  where
    go : (b < n → P b) → (b ≡ n) ⊎ (b ≡ n → ⊥) → P b
    go less (inl e) = subst P (sym e) each.0
    go less (inr other) = less (omega arith)

controls_pass : Each Passes 32
unfolding content code_unit encode
controls_pass = (
  (λ rest. refl),
  (
    (λ rest. refl),
    (
      (λ rest. refl),
      (
        (λ rest. refl),
        (
          (λ rest. refl),
          (
            (λ rest. refl),
            (
              (λ rest. refl),
              (
                (λ rest. refl),
                (
                  (λ rest. refl),
                  (
                    (λ rest. refl),
                    (
                      (λ rest. refl),
                      (
                        (λ rest. refl),
                        (
                          (λ rest. refl),
                          (
                            (λ rest. refl),
                            (
                              (λ rest. refl),
                              (
                                (λ rest. refl),
                                (
                                  (λ rest. refl),
                                  (
                                    (λ rest. refl),
                                    (
                                      (λ rest. refl),
                                      (
                                        (λ rest. refl),
                                        (
                                          (λ rest. refl),
                                          (
                                            (λ rest. refl),
                                            (
                                              (λ rest. refl),
                                              (
                                                (λ rest. refl),
                                                (
                                                  (λ rest. refl),
                                                  (
                                                    (λ rest. refl),
                                                    (
                                                      (λ rest. refl),
                                                      (
                                                        (λ rest. refl),
                                                        (
                                                          (λ rest. refl),
                                                          (
                                                            (λ rest. refl),
                                                            (
                                                              (λ rest. refl),
                                                              (
                                                                (λ rest. refl),
                                                                tt,
                                                              ),
                                                            ),
                                                          ),
                                                        ),
                                                      ),
                                                    ),
                                                  ),
                                                ),
                                              ),
                                            ),
                                          ),
                                        ),
                                      ),
                                    ),
                                  ),
                                ),
                              ),
                            ),
                          ),
                        ),
                      ),
                    ),
                  ),
                ),
              ),
            ),
          ),
        ),
      ),
    ),
  ),
)

quote_passes : Passes quote
unfolding content short_escape
quote_passes = λ rest. refl

backslash_passes : Passes backslash
unfolding content short_escape
backslash_passes = λ rest. refl

-- a byte that stands for itself
json_byte-plain : (b : ℕ) → (b ≡ quote → ⊥) → (b ≡ backslash → ⊥) → 0x20 ≤ b → json_byte b ≡ b ∷ []
json_byte-plain b no_quote no_backslash at_least =
    rw (ne_eqb b quote no_quote, ne_eqb b backslash no_backslash, le-ltb b 0x20 at_least) refl

content-plain : (b : ℕ) (rest : List ℕ) → (b ≡ quote → ⊥) → (b ≡ backslash → ⊥) → 0x20 ≤ b
    → content plain (b ∷ rest) ≡ prepend (b ∷ []) (content plain rest)
unfolding content
content-plain b rest no_quote no_backslash at_least =
    rw (ne_eqb b quote no_quote, ne_eqb b backslash no_backslash, le-ltb b 0x20 at_least) refl

plain_passes : (b : ℕ) → (b ≡ quote → ⊥) → (b ≡ backslash → ⊥) → 0x20 ≤ b → Passes b
plain_passes b no_quote no_backslash at_least = λ rest.
    ap (λ (front : List ℕ). content plain (front ++ rest)) (json_byte-plain b no_quote no_backslash at_least)
    ∙ content-plain b rest no_quote no_backslash at_least

passes : (b : ℕ) → Passes b
passes b = go (cases_eq b quote) (cases_eq b backslash) (cases_lt b 0x20)
  where
    go : (b ≡ quote) ⊎ (b ≡ quote → ⊥) → (b ≡ backslash) ⊎ (b ≡ backslash → ⊥) → (b < 0x20) ⊎ (0x20 ≤ b) → Passes b
    go (inl e) other size = subst Passes (sym e) quote_passes
    go (inr no_quote) (inl e) size = subst Passes (sym e) backslash_passes
    go (inr no_quote) (inr no_backslash) (inl below) = each_below Passes 32 controls_pass b below
    go (inr no_quote) (inr no_backslash) (inr at_least) = plain_passes b no_quote no_backslash at_least

-- up to the quote that ends it
read_back : (text rest : List ℕ) → content plain (flat_map json_byte text ++ quote ∷ rest) ≡ Some text
unfolding content
read_back [] rest = refl
read_back (b ∷ text) rest =
    ap (content plain) (append_assoc (json_byte b) (flat_map json_byte text) (quote ∷ rest)) ∙ passes b _
    ∙ ap (prepend (b ∷ [])) (read_back text rest)

-- what follows the first quote of a text
pub text_read_back : (text : List ℕ) → content plain (drop 1 (json_text text)) ≡ Some text
text_read_back text = read_back text []
