-- What was added to a text in turn was added to it whole.
use Rattle.std.proofs.Common.{◌≡◌, ◌∙◌, ◌++◌, ℕ, List, Result, Ok, Err, OnOk, ap, append_assoc}

-- three parts, one behind the other
pub added : (old a b c one two three : List ℕ) → one ≡ old ++ a → two ≡ one ++ b → three ≡ two ++ c → three ≡ old ++ (a ++ (b ++ c))
added old a b c one two three e f g =
    g ∙ ap (λ (x : List ℕ). x ++ c) (f ∙ ap (λ (x : List ℕ). x ++ b) e) ∙ append_assoc (old ++ a) b c ∙ append_assoc old a (b ++ c)

-- the same, if the second is a field: its name, and its number
pub added_field : (old a name number c one two three : List ℕ) → one ≡ old ++ a → two ≡ (one ++ name) ++ number → three ≡ two ++ c
    → three ≡ old ++ (a ++ ((name ++ number) ++ c))
added_field old a name number c one two three e f g = added old a (name ++ number) c one two three e (f ∙ append_assoc one name number) g

-- what holds after Ok, and what follows from it
pub on_ok : {T E : Type 0} (r : Result T E) (A B : Type 0) → (A → B) → OnOk r A → OnOk r B
on_ok (Ok x) A B f a = f a
on_ok (Err e) A B f a = tt
