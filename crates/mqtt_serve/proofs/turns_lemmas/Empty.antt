-- An answer without outputs, by which no line closed, changes no connection.
use Rattle.std.proofs.Common.{◌≡◌, ℕ, List, [], ◌++◌, Option, Some, None, false, cond, nat_eq, refl, sym, ap, subst, ◌∙◌, inl}
use Rattle.std.specs.List.{list_any}
use Rattle.std.specs.Prelude.{slice_get}
use Rattle.std.proofs.lemmas.List.{append-nil}
use Rattle.mqtt_link.specs.Links.{and_then}
use Rattle.mqtt_serve.specs.declared.turns.connection.Fate.{Fate}
use Rattle.mqtt_serve.specs.declared.turns.connection.Fate.TheVariants.{Stands, Lost, Closed}
use Rattle.mqtt_serve.specs.turns.Related.{Related}
use Rattle.mqtt_serve.specs.turns.Wires.{Hears, Reaches, Wire, bytes_to, hearing_more}

said_none : (said : Option (List ℕ)) → said ≡ and_then said []
said_none None = refl
said_none (Some bytes) = ap (λ (bs : List ℕ). Some bs) (sym (append-nil bytes))

-- to hear no bytes changes nothing
heard_none : (w : Wire) → w ≡ hearing_more [] w
heard_none w =
    ap (λ (waits : List ℕ). let x : Wire = record w { waits = waits } in x) (sym (append-nil w.waits))
    ∙ ap (λ (said : Option (List ℕ)). let x : Wire = record w { waits = w.waits ++ []; said = said } in x) (said_none w.said)

hears_none : (f : Fate) (w : Wire) → Hears f [] w w
hears_none Stands w = inl (heard_none w)
hears_none Lost w = refl
hears_none Closed w = refl

-- so such an answer reaches a connection that stays as it is
reaches_none : (w : Wire) → Reaches [] [] w w
reaches_none w = record { told = w; hears = hears_none w.fate w; closes = refl }

one_there : (x y : Wire) (o : Option Wire) → o ≡ Some x → o ≡ Some y → x ≡ y
one_there x y None e is = absurd cc
one_there x y (Some z) e is = let first : z ≡ x = cc in let second : z ≡ y = cc in sym first ∙ second

-- and all of them
pub none_told : (outputs : List (ℕ × List ℕ)) (closed : List ℕ) (ws : List Wire) → outputs ≡ [] → closed ≡ [] → Related (Reaches outputs closed) ws ws
none_told outputs closed ws silent open_ = record {
  len = refl;
  below = λ k x y less here too.
      subst (λ (os : List (ℕ × List ℕ)). Reaches os closed x y) (sym silent)
      (subst (λ (cs : List ℕ). Reaches [] cs x y) (sym open_) (subst (λ (z : Wire). Reaches [] [] x z) (one_there x y (slice_get ws k) here too) (reaches_none x)));
  above = λ k le. refl;
}

hears_unnamed : (outputs : List (ℕ × List ℕ)) (f : Fate) (w : Wire) → bytes_to w.number outputs ≡ [] → Hears f outputs w w
hears_unnamed outputs Stands w none = inl (subst (λ bytes. w ≡ hearing_more bytes w) (sym none) (heard_none w))
hears_unnamed outputs Lost w none = refl
hears_unnamed outputs Closed w none = refl

-- an answer that has no output to a connection's line, and didn't close it, leaves it as it is
pub reaches_unnamed : (outputs : List (ℕ × List ℕ)) (closed : List ℕ) (w : Wire) → bytes_to w.number outputs ≡ [] → list_any (nat_eq w.number) closed ≡ false
    → Reaches outputs closed w w
reaches_unnamed outputs closed w none open_ =
    record { told = w; hears = hears_unnamed outputs w.fate w none; closes = sym (ap (λ b. cond b (let x : Wire = record w { fate = Closed } in x) w) open_) }

-- also where its number is known by another way
pub passed : (outputs : List (ℕ × List ℕ)) (closed : List ℕ) (number : ℕ) (w : Wire) → number ≡ w.number → bytes_to number outputs ≡ []
    → list_any (nat_eq number) closed ≡ false → Reaches outputs closed w w
passed outputs closed number w its none open_ =
    reaches_unnamed outputs closed w (subst (λ n. bytes_to n outputs ≡ []) its none) (subst (λ n. list_any (nat_eq n) closed ≡ false) its open_)
