-- Bytes that join what is told.
use Rattle.std.proofs.Common.{◌≡◌, ℕ, true, List, ◌++◌, Option, Some, None, refl, sym, ap, ap₂, inl, inr}
use Rattle.std.proofs.lemmas.List.{append_assoc}
use Rattle.mqtt_link.specs.Links.{and_then}
use Rattle.mqtt_serve.specs.declared.turns.connection.Fate.{Fate}
use Rattle.mqtt_serve.specs.declared.turns.connection.Fate.TheVariants.{Stands, Lost, Closed}
use Rattle.mqtt_serve.specs.turns.Wires.{Wire, Hears, IsCutOff, bytes_to, hearing_more, is_standing}

-- bytes join one part after the other
pub and_then_append : (told : Option (List ℕ)) (a b : List ℕ) → and_then told (a ++ b) ≡ and_then (and_then told a) b
and_then_append None a b = refl
and_then_append (Some bytes) a b = ap Some (sym (append_assoc bytes a b))

-- what waited grew, and nothing else
pub said_more : (w : Wire) (more : Option (List ℕ)) (rest bytes : List ℕ)
    → rest ≡ w.waits ++ bytes → more ≡ and_then w.said bytes
    → record w { waits = rest; said = more } ≡ hearing_more bytes w
said_more w more rest bytes is e =
    ap₂ (λ (r : List ℕ) (s : Option (List ℕ)). let c : Wire = record w { waits = r; said = s } in c) is e

-- all was said to one that stands
pub hears_all : (fate : Fate) (outputs : List (ℕ × List ℕ)) (old new : Wire) → is_standing fate ≡ true
    → new ≡ hearing_more (bytes_to old.number outputs) old → Hears fate outputs old new
hears_all Stands outputs old new stands e = inl e
hears_all Lost outputs old new stands e = cc
hears_all Closed outputs old new stands e = cc

-- a beginning was said to one that stood
pub hears_front : (fate : Fate) (outputs : List (ℕ × List ℕ)) (old new : Wire) → is_standing fate ≡ true
    → IsCutOff outputs old new → Hears fate outputs old new
hears_front Stands outputs old new stands cut = inr cut
hears_front Lost outputs old new stands cut = cc
hears_front Closed outputs old new stands cut = cc
