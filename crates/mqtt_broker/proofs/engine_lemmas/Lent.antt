-- What a line holds is lent for a while, and an empty framer stands in its place.
use Rattle.std.proofs.Common.{◌≡◌, ℕ, List, Option, Some, None, refl, sym, ap, ◌∙◌}
use Rattle.std.specs.Prelude.{Result, Ok, Err, OnOk, OnErr, option_and_then}
use Rattle.mqtt_packet.specs.stream.Stream.{Framing, empty}
use Rattle.mqtt_rules.specs.step.Piece.{without_first}
use Rattle.mqtt_broker.specs.engine.Framers.{HeldLine, changed_at, framing_at, in_framing}
use Rattle.mqtt_broker.proofs.engine_lemmas.Framings.{changed_twice, unchanged}

-- what is lent is what the line held
pub lent_is : (o : Option HeldLine) → option_and_then (λ (h : HeldLine). Some h) o ≡ o
lent_is None = refl
lent_is (Some h) = refl

-- lent, and back
pub returned : (line : ℕ) (x : Framing) (xs lent back : List HeldLine) → lent ≡ changed_at line (λ f. empty) xs → back ≡ changed_at line (λ f. x) lent → back ≡ changed_at line (λ f. x) xs
returned line x xs lent back is put =
    put ∙ ap (changed_at line (λ f. x)) is ∙ changed_twice line (λ f. x) (λ f. empty) (framing_at line xs) xs refl

-- as it was
pub returned_same : (line : ℕ) (x : Framing) (xs lent back : List HeldLine) → lent ≡ changed_at line (λ f. empty) xs → back ≡ changed_at line (λ f. x) lent
    → x ≡ framing_at line xs → back ≡ xs
returned_same line x xs lent back is put same = returned line x xs lent back is put ∙ unchanged line (λ f. x) xs same

-- changed by one call after the other
pub changed_on : (f g : Framing → Framing) (h x y : HeldLine) → x ≡ in_framing f h → y ≡ in_framing g x → y.framing ≡ g (f h.framing)
changed_on f g h x y first second = ap (λ (z : HeldLine). z.framing) (second ∙ ap (in_framing g) first)

-- if nothing is dropped the line is what it was
pub kept_in : (h : HeldLine) → without_first h.framing ≡ h.framing → h ≡ in_framing without_first h
kept_in h e = ap (λ (f : Framing). let x : HeldLine = record h { framing = f } in x) (sym e)

-- what holds anyway holds after Ok
pub always_ok : {T E P : Type 0} (r : Result T E) → P → OnOk r P
always_ok (Ok x) p = p
always_ok (Err e) p = tt

-- so it does after a refusal
pub always_err : {T E P : Type 0} (r : Result T E) → P → OnErr r P
always_err (Ok x) p = tt
always_err (Err e) p = p
