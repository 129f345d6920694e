-- A text is escaped to one word, from which it can be told.
use Rattle.std.proofs.Common.{◌≡◌, ℕ, ◌+◌, ◌/◌, ◌%◌, ◌<◌, ◌≤◌, nat_lt, nat_le, ◌==◌, Bool, true, false, not, ◌&&◌, if◌then◌else◌, List, [], ◌∷◌, ◌++◌, refl, drop, slice_index, ap, sym, ◌∙◌, arith, true≢false}
use Rattle.std.specs.Fmt.{digit_glyph}
use Rattle.std.proofs.lemmas.Bool.{leb-true}
use Rattle.mqtt_base.specs.Escaped.{AreBytes, IsWord, escaped, escaped_byte, hex_byte, is_plain, percent}

-- a hexadecimal digit is printable
glyph_range : (d : ℕ) → d < 16 → (0x21 ≤ digit_glyph false d) × (digit_glyph false d ≤ 0x7e)
glyph_range d small = go (nat_lt d 10) refl
  where
    go : (b : Bool) → nat_lt d 10 ≡ b → (0x21 ≤ (if b then 48 + d else 87 + d)) × ((if b then 48 + d else 87 + d) ≤ 0x7e)
    go true e = (omega arith, omega arith)
    go false e = (omega arith, omega arith)

high_small : (b : ℕ) → b < 256 → b / 16 < 16
high_small b small = omega arith

low_small : (b : ℕ) → b % 16 < 16
low_small b = omega arith

plain_range : (b : ℕ) → is_plain b ≡ true → (0x21 ≤ b) × (b ≤ 0x7e)
plain_range b plain = go (nat_le 0x21 b) (nat_le b 0x7e) refl refl plain
  where
    go : (s t : Bool) → nat_le 0x21 b ≡ s → nat_le b 0x7e ≡ t → (s && t && not (b == percent)) ≡ true → (0x21 ≤ b) × (b ≤ 0x7e)
    go true true above below e = (leb-true 0x21 b above, leb-true b 0x7e below)
    go true false above below e = absurd (true≢false (sym e))
    go false t above below e = absurd (true≢false (sym e))

word_byte : (b : ℕ) (rest : List ℕ) → b < 256 → IsWord rest → IsWord (escaped_byte b ++ rest)
word_byte b rest small word = go (is_plain b) refl
  where
    go : (t : Bool) → is_plain b ≡ t → IsWord ((if t then b ∷ [] else percent ∷ hex_byte b) ++ rest)
    go true e = let range = plain_range b e in (range.0, range.1, word)
    go false e =
        let high = glyph_range (b / 16) (high_small b small) in
        let low = glyph_range (b % 16) (low_small b) in
        (omega arith, omega arith, (high.0, high.1, (low.0, low.1, word)))

-- a text that is escaped is a word of the script
pub word_of : (text : List ℕ) → AreBytes text → IsWord (escaped text)
word_of [] bytes = tt
word_of (b ∷ text) bytes = word_byte b (escaped text) bytes.0 (word_of text bytes.1)

glyph_same : (c d : ℕ) → c < 16 → d < 16 → digit_glyph false c ≡ digit_glyph false d → c ≡ d
glyph_same c d small little e = go (nat_lt c 10) (nat_lt d 10) refl refl e
  where
    go : (s t : Bool) → nat_lt c 10 ≡ s → nat_lt d 10 ≡ t → (if s then 48 + c else 87 + c) ≡ (if t then 48 + d else 87 + d) → c ≡ d
    go true true a b e = omega arith
    go true false a b e = omega arith
    go false true a b e = omega arith
    go false false a b e = omega arith

by_digits : (x y : ℕ) → x / 16 ≡ y / 16 → x % 16 ≡ y % 16 → x ≡ y
by_digits x y high low = omega arith

not_plain : (b : ℕ) → is_plain b ≡ true → b ≡ percent → ⊥
not_plain b plain e = true≢false (sym plain ∙ ap is_plain e)

-- how a text begins
abbrev shown : Bool → ℕ → List ℕ → List ℕ
shown plain b rest = (if plain then b ∷ [] else percent ∷ hex_byte b) ++ rest

nothing_shown : (plain : Bool) (b : ℕ) (rest : List ℕ) → [] ≡ shown plain b rest → ⊥
nothing_shown true b rest e = cc e
nothing_shown false b rest e = cc e

same_byte : (s t : Bool) (x y : ℕ) (rest more : List ℕ) → x < 256 → y < 256 → is_plain x ≡ s → is_plain y ≡ t
    → shown s x rest ≡ shown t y more → (x ≡ y) × (rest ≡ more)
same_byte true true x y rest more small little a b e = (ap (λ (l : List ℕ). slice_index l 0) e, ap (drop 1) e)
same_byte true false x y rest more small little a b e = absurd (not_plain x a (ap (λ (l : List ℕ). slice_index l 0) e))
same_byte false true x y rest more small little a b e = absurd (not_plain y b (sym (ap (λ (l : List ℕ). slice_index l 0) e)))
same_byte false false x y rest more small little a b e =
    let high = glyph_same (x / 16) (y / 16) (high_small x small) (high_small y little) (ap (λ (l : List ℕ). slice_index l 1) e) in
    let low = glyph_same (x % 16) (y % 16) (low_small x) (low_small y) (ap (λ (l : List ℕ). slice_index l 2) e) in
    (by_digits x y high low, ap (drop 3) e)

-- texts with the same spelling are the same
pub same_text : (text other : List ℕ) → AreBytes text → AreBytes other → escaped text ≡ escaped other → text ≡ other
same_text [] [] a b e = refl
same_text [] (y ∷ ys) a b e = absurd (nothing_shown (is_plain y) y (escaped ys) e)
same_text (x ∷ xs) [] a b e = absurd (nothing_shown (is_plain x) x (escaped xs) (sym e))
same_text (x ∷ xs) (y ∷ ys) a b e =
    let begins = same_byte (is_plain x) (is_plain y) x y (escaped xs) (escaped ys) a.0 b.0 refl refl e in
    ap (λ (l : List ℕ). x ∷ l) (same_text xs ys a.1 b.1 begins.1) ∙ ap (λ (c : ℕ). c ∷ ys) begins.0
