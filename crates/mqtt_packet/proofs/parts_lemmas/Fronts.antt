-- What is written behind bytes leaves them in front.
use Rattle.std.proofs.Common.{◌≡◌, ℕ, List, ◌++◌, length, take, drop, append_assoc, ap, sym, ◌∙◌}
use Rattle.std.proofs.Math.Seq.{take-append_seam, take-length}
use Rattle.std.proofs.lemmas.List.{take-append-drop}

-- bytes begin with themselves
pub begins_same : (front : List ℕ) → take (length front) front ≡ front
begins_same front = take-length front

-- what begins with more begins with less
pub begins_less : (front more written bytes : List ℕ) → written ≡ front ++ more → take (length written) bytes ≡ written → take (length front) bytes ≡ front
begins_less front more written bytes is e =
    let rest = drop (length written) bytes in
    let split : bytes ≡ written ++ rest = sym (take-append-drop (length written) bytes) ∙ ap (λ (w : List ℕ). w ++ rest) e in
    let joined : bytes ≡ front ++ (more ++ rest) = split ∙ ap (λ (w : List ℕ). w ++ rest) is ∙ append_assoc front more rest in
    ap (take (length front)) joined ∙ take-append_seam front (more ++ rest)
