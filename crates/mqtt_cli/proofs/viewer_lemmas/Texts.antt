-- Texts that are written in runs of plain bytes and the bytes between them.
use Rattle.std.proofs.Common.{◌≡◌, ℕ, ◌+◌, ◌≤◌, Bool, true, if◌then◌else◌, List, [], ◌∷◌, ◌++◌, length, take, drop, refl, ap, sym, ◌∙◌, arith, append_assoc, append-nil, length-append}
use Rattle.std.proofs.lemmas.Grind.{flat_map-append}
use Rattle.std.proofs.lemmas.List.{take_at, drop_at, take-append-drop, length-take-le}
use Rattle.mqtt_base.specs.Escaped.{escaped, escaped_byte, hex_byte, is_plain, percent}

-- the first bytes that stand for themselves, so many, and what follows them
abbrev pub PlainRun : List ℕ → ℕ → List ℕ → Type 0
PlainRun bytes len rest = (len + length rest ≡ length bytes) × (escaped (take len bytes) ≡ take len bytes) × (drop len bytes ≡ rest)

-- a run of plain characters begins empty
pub run_first : (bytes : List ℕ) → PlainRun bytes 0 bytes
run_first bytes = (omega arith, refl, refl)

-- a plain byte is escaped as itself
plain_byte : (b : ℕ) → is_plain b ≡ true → escaped_byte b ≡ b ∷ []
plain_byte b plain = ap (λ (p : Bool). if p then b ∷ [] else percent ∷ hex_byte b) plain

-- and goes on with a plain one
pub run_more : (bytes : List ℕ) (len : ℕ) (b : ℕ) (rest : List ℕ) → PlainRun bytes len (b ∷ rest) → is_plain b ≡ true → PlainRun bytes (len + 1) rest
run_more bytes len b rest run plain =
    let front = take len bytes in
    let few : len ≤ length bytes = omega (arith, run.0) in
    let parts : (front ++ b ∷ []) ++ rest ≡ bytes =
    append_assoc front (b ∷ []) rest ∙ ap (λ (xs : List ℕ). front ++ xs) (sym run.2) ∙ take-append-drop len bytes in
    let size : length (front ++ b ∷ []) ≡ len + 1 = omega (arith, length-append front (b ∷ []), length-take-le len bytes few) in
    let longer : take (len + 1) bytes ≡ front ++ b ∷ [] = ap (take (len + 1)) (sym parts) ∙ take_at (front ++ b ∷ []) rest (len + 1) size in
    let one : escaped (b ∷ []) ≡ b ∷ [] = append-nil (escaped_byte b) ∙ plain_byte b plain in
    let same : escaped (front ++ b ∷ []) ≡ front ++ b ∷ [] =
    flat_map-append escaped_byte front (b ∷ []) ∙ ap (λ (xs : List ℕ). xs ++ escaped (b ∷ [])) run.1 ∙ ap (λ (xs : List ℕ). front ++ xs) one in
    (omega (arith, run.0), ap escaped longer ∙ same ∙ sym longer, ap (drop (len + 1)) (sym parts) ∙ drop_at (front ++ b ∷ []) rest (len + 1) size)

-- a run and what follows it, escaped
run_then : (rest : List ℕ) (n : ℕ) → escaped (take n rest) ≡ take n rest → escaped rest ≡ take n rest ++ escaped (drop n rest)
run_then rest n plain =
    ap escaped (sym (take-append-drop n rest)) ∙ flat_map-append escaped_byte (take n rest) (drop n rest)
    ∙ ap (λ (xs : List ℕ). xs ++ escaped (drop n rest)) plain

-- a run was added to a text, and the byte behind it
pub runs_next : (text rest : List ℕ) (n b : ℕ) (after total : List ℕ) → escaped (take n rest) ≡ take n rest → drop n rest ≡ b ∷ after
    → text ++ escaped rest ≡ total → ((text ++ take n rest) ++ escaped_byte b) ++ escaped after ≡ total
runs_next text rest n b after total plain behind so_far =
    append_assoc (text ++ take n rest) (escaped_byte b) (escaped after) ∙ append_assoc text (take n rest) (escaped (b ∷ after))
    ∙ ap (λ (xs : List ℕ). text ++ (take n rest ++ escaped xs)) (sym behind) ∙ ap (λ (xs : List ℕ). text ++ xs) (sym (run_then rest n plain)) ∙ so_far

-- the last run was added
pub runs_end : (text rest : List ℕ) (n : ℕ) (total : List ℕ) → escaped (take n rest) ≡ take n rest → drop n rest ≡ []
    → text ++ escaped rest ≡ total → text ++ take n rest ≡ total
runs_end text rest n total plain behind so_far =
    ap (λ (xs : List ℕ). text ++ xs) (sym (append-nil (take n rest)) ∙ ap (λ (xs : List ℕ). take n rest ++ escaped xs) (sym behind) ∙ sym (run_then rest n plain)) ∙ so_far
