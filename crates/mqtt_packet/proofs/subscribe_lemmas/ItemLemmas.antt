-- Lists of items that are made: none, and one more at the end.
use Rattle.std.proofs.Common.{◌≡◌, ℕ, List, [], ◌∷◌, ◌++◌, Result, Ok, refl, sym, ap, subst, ◌∙◌, arith}
use Rattle.std.specs.List.{flat_map, AllByRecursion}
use Rattle.std.proofs.lemmas.List.{append-nil}
use Rattle.std.proofs.lemmas.List.Concat.{flat_map-cons}
use Rattle.std.proofs.lemmas.Grind.{flat_map-append}
use Rattle.mqtt_base.specs.Items.{items_in, items_at, items_of, or_none, IsOk, AreItems}
use Rattle.mqtt_base.proofs.Items.{Reads, items_are, items_at_again}
use Rattle.mqtt_base.proofs.Steps.{IsBytes}

-- no bytes are no items
pub no_items : {A E : Type 0} (bad : E) (at : List ℕ → Result (A × List ℕ) E) → AreItems bad at []
unfolding items_at items_in
no_items bad at = record { each = λ i. omega arith; read = tt }

-- of which there are none
pub none_of : {A E : Type 0} (bad : E) (at : List ℕ → Result (A × List ℕ) E) → items_of bad at [] ≡ []
unfolding items_of items_at items_in
none_of bad at = refl

each-append : {A : Type 0} (Good : A → Type 0) (xs ys : List A) → AllByRecursion Good xs → AllByRecursion Good ys → AllByRecursion Good (xs ++ ys)
each-append Good [] ys h g = g
each-append Good (x ∷ xs) ys h g = (h.0, each-append Good xs ys h.1 g)

flat_map-one : {A : Type 0} (spell : A → List ℕ) (x : A) → flat_map spell (x ∷ []) ≡ spell x
flat_map-one spell x = flat_map-cons spell x [] ∙ append-nil (spell x)

-- the items of old, and then x, are the items of old and the spelling of x
pub one_more : {A E : Type 0} (bad : E) (at : List ℕ → Result (A × List ℕ) E) (spell : A → List ℕ) (Good : A → Type 0) (r : Reads at spell Good) (old all : List ℕ) (xs : List A) (x : A)
    → AreItems bad at old → items_of bad at old ≡ xs → all ≡ old ++ spell x → Good x → IsBytes all
    → AreItems bad at all × (items_of bad at all ≡ xs ++ x ∷ [])
unfolding items_of
one_more {A} {E} bad at spell Good r old all xs x h e parts good each =
    let a = items_are bad at spell Good r old h in
    let is : old ≡ flat_map spell xs = a.0 ∙ ap (flat_map spell) e in
    let goods : AllByRecursion Good xs = subst (λ (ys : List A). AllByRecursion Good ys) e a.1 in
    let more : flat_map spell (xs ++ x ∷ []) ≡ flat_map spell xs ++ spell x = flat_map-append spell xs (x ∷ []) ∙ ap (λ (w : List ℕ). flat_map spell xs ++ w) (flat_map-one spell x) in
    let whole : all ≡ flat_map spell (xs ++ x ∷ []) = parts ∙ ap (λ (w : List ℕ). w ++ spell x) is ∙ sym more in
    let read : items_at bad at all ≡ Ok (xs ++ x ∷ []) = ap (items_at bad at) whole ∙ items_at_again bad at spell Good r (xs ++ x ∷ []) (each-append Good xs (x ∷ []) goods (good, tt)) in
    (record { each = each; read = subst (λ (q : Result (List A) E). IsOk q) (sym read) tt }, ap or_none read)
