-- Nothing leaves a connection but by letting go.
use Rattle.std.proofs.Common.{◌≡◌, ◌≢◌, ◌⊎◌, ◌<◌, ℕ, zero, suc, Bool, true, false, cond, List, [], ◌∷◌, ◌++◌, map, length, Option, Some, None, refl, sym, ap, ap₂, subst, ◌∙◌, inl, inr, arith}
use Rattle.std.specs.Prelude.{slice_get, nat_eq}
use Rattle.std.specs.List.{AllByRecursion, list_any}
use Rattle.std.proofs.lemmas.List.{append-nil, append_assoc, map-append}
use Rattle.mqtt_link.specs.Links.{AtFirst, and_then}
use Rattle.mqtt_serve.specs.declared.turns.connection.Fate.{Fate}
use Rattle.mqtt_serve.specs.declared.turns.connection.Fate.TheVariants.{Stands, Lost, Closed}
use Rattle.mqtt_serve.specs.turns.Leaving.{Gone, NothingLeaves, WasSaid, gone}
use Rattle.mqtt_serve.specs.turns.Related.{Related, RelatedAt}
use Rattle.mqtt_serve.specs.turns.Wires.{Wire, Hears, Leaves, LetsGo, Reaches, Reads, Writes, WritesAnd, WritesLast, AreLost, letting, lost, lost_if}

-- ---- lists, place by place

module _ {X Y : Type 0} (f : X → Y) where
  -- members that are alike place by place make lists that are alike
  pub alike_all : (xs ys : List X) → length xs ≡ length ys
      → ((k : ℕ) (x y : X) → slice_get xs k ≡ Some x → slice_get ys k ≡ Some y → f y ≡ f x) → map f ys ≡ map f xs
  alike_all [] [] len alike = refl
  alike_all [] (y ∷ ys) len alike = cc
  alike_all (x ∷ xs) [] len alike = cc
  alike_all (x ∷ xs) (y ∷ ys) len alike =
      ap₂ (λ (z : Y) (zs : List Y). z ∷ zs) (alike 0 x y refl refl) (alike_all xs ys (omega (arith, len)) (λ k. alike (suc k)))

  -- so of lists that are related
  pub alike_related : (R : X → X → Type 0) → ((x y : X) → R x y → f y ≡ f x) → (xs ys : List X) → Related R xs ys → map f ys ≡ map f xs
  alike_related R same xs ys r = alike_all xs ys r.len (λ k x y at_x at_y. same x y (r.below k x y (within k x xs at_x) at_x at_y))
    where
      within : (k : ℕ) (x : X) (zs : List X) → slice_get zs k ≡ Some x → k < length zs
      within k x [] at = cc
      within zero x (z ∷ zs) at = omega arith
      within (suc k) x (z ∷ zs) at = omega (arith, within k x zs at)

  -- and of lists that are related at one place
  pub alike_at : (R : X → X → Type 0) → ((x y : X) → R x y → f y ≡ f x) → (place : ℕ) (xs ys : List X) → RelatedAt R place xs ys → map f ys ≡ map f xs
  alike_at R same place xs ys r = alike_all xs ys r.len at
    where
      apart : (k : ℕ) → (k ≡ place) ⊎ (k ≢ place)
      apart k = grind (arith)

      at : (k : ℕ) (x y : X) → slice_get xs k ≡ Some x → slice_get ys k ≡ Some y → f y ≡ f x
      at k x y at_x at_y = elim (apart k) [
        | inl is ↦ same x y (r.here x y (subst (λ n. slice_get xs n ≡ Some x) is at_x) (subst (λ n. slice_get ys n ≡ Some y) is at_y))
        | inr other ↦ ap f (some_same (sym at_y ∙ r.elsewhere k other ∙ at_x))
      ]
        where
          some_same : {a b : X} → Some a ≡ Some b → a ≡ b
          some_same e = cc

-- ---- what is done to a connection

reads_same : (fate : Fate) (room : ℕ) (bytes : List ℕ) (x y : Wire) → Reads fate room bytes x y → gone y ≡ gone x
reads_same Stands room bytes x y (inl e) = ap gone e
reads_same Stands room bytes x y (inr e) = ap gone e.1
reads_same Lost room bytes x y e = ap gone e.1
reads_same Closed room bytes x y e = ap gone e.1

writes_same : (fate : Fate) (x y : Wire) → Writes fate x y → gone y ≡ gone x
writes_same Stands x y (inl e) = ap gone e
writes_same Stands x y (inr e) = ap gone e
writes_same Lost x y e = ap gone e
writes_same Closed x y (inl e) = ap gone e
writes_same Closed x y (inr e) = ap gone e

last_same : (fate : Fate) (x y : Wire) → WritesLast fate x y → gone y ≡ gone x
last_same Stands x y e = ap gone e
last_same Lost x y e = ap gone e
last_same Closed x y (inl e) = ap gone e
last_same Closed x y (inr e) = ap gone e

hears_same : (fate : Fate) (outputs : List (ℕ × List ℕ)) (x y : Wire) → Hears fate outputs x y → gone y ≡ gone x
hears_same Stands outputs x y (inl e) = ap gone e
hears_same Stands outputs x y (inr cut) = ap gone cut.is
hears_same Lost outputs x y e = ap gone e
hears_same Closed outputs x y e = ap gone e

closing_same : (b : Bool) (x : Wire) → gone (cond b (record x { fate = Closed }) x) ≡ gone x
closing_same true x = refl
closing_same false x = refl

losing_same : (b : Bool) (x : Wire) → gone (cond b (lost x) x) ≡ gone x
losing_same true x = refl
losing_same false x = refl

-- ---- of all connections

-- connections that are the same in what left them
pub silent_same : (old new : List Wire) → map gone new ≡ map gone old → NothingLeaves old new
silent_same old new is = record { came = []; unsent = tt; same = is ∙ ap (map gone) (sym (append-nil old)) }

-- nothing leaves where nothing is done
pub silent_still : (old : List Wire) → NothingLeaves old old
silent_still old = silent_same old old refl

all_more : (xs ys : List Wire) → AllByRecursion (λ (w : Wire). AtFirst [] w.out × AtFirst 0 w.outs) xs → AllByRecursion (λ (w : Wire). AtFirst [] w.out × AtFirst 0 w.outs) ys
    → AllByRecursion (λ (w : Wire). AtFirst [] w.out × AtFirst 0 w.outs) (xs ++ ys)
all_more [] ys a b = b
all_more (x ∷ xs) ys a b = (a.0, all_more xs ys a.1 b)

-- one after the other
pub silent_then : (a b c : List Wire) → NothingLeaves a b → NothingLeaves b c → NothingLeaves a c
silent_then a b c first next = record {
  came = first.came ++ next.came;
  unsent = all_more first.came next.came first.unsent next.unsent;
  same = next.same ∙ map-append gone b next.came ∙ ap (λ (xs : List Gone). xs ++ map gone next.came) first.same
      ∙ sym (map-append gone (a ++ first.came) next.came) ∙ ap (map gone) (append_assoc a first.came next.came);
}

-- an answer that reaches the connections lets nothing leave
pub silent_reached : (outputs : List (ℕ × List ℕ)) (closed : List ℕ) (old new : List Wire) → Related (Reaches outputs closed) old new → NothingLeaves old new
silent_reached outputs closed old new r = silent_same old new (alike_related gone (Reaches outputs closed) same old new r)
  where
    same : (x y : Wire) → Reaches outputs closed x y → gone y ≡ gone x
    same x y h = ap gone h.closes ∙ closing_same (list_any (nat_eq h.told.number) closed) h.told ∙ hears_same x.fate outputs x h.told h.hears

-- nor does the loss of one
pub silent_lost : (number : ℕ) (old new : List Wire) → AreLost number old new → NothingLeaves old new
silent_lost number old new r = silent_same old new (alike_related gone (λ x y. y ≡ lost_if number x) same old new r)
  where
    same : (x y : Wire) → y ≡ lost_if number x → gone y ≡ gone x
    same x y e = ap gone e ∙ losing_same (nat_eq x.number number) x

-- nor a read
pub silent_read : (place room : ℕ) (bytes : List ℕ) (old new : List Wire) → RelatedAt (λ x y. Reads x.fate room bytes x y) place old new → NothingLeaves old new
silent_read place room bytes old new r =
    silent_same old new (alike_at gone (λ x y. Reads x.fate room bytes x y) (λ x y. reads_same x.fate room bytes x y) place old new r)

-- nor a write
pub silent_written : (place : ℕ) (wrote : Bool) (old new : List Wire) → RelatedAt (WritesAnd wrote) place old new → NothingLeaves old new
silent_written place wrote old new r = silent_same old new (alike_at gone (WritesAnd wrote) (λ x y w. writes_same x.fate x y w.writes) place old new r)

-- nor the last write of those that the broker closed
pub silent_last : (old new : List Wire) → Related (λ x y. WritesLast x.fate x y) old new → NothingLeaves old new
silent_last old new r = silent_same old new (alike_related gone (λ x y. WritesLast x.fate x y) (λ x y. last_same x.fate x y) old new r)

-- ---- what left was said

leaves_said : (fate : Fate) (went new : Wire) → Leaves fate went new → (new.said ≡ went.said) × (new.waits ≡ went.waits)
leaves_said Stands went new (inl e) = (ap (λ (w : Wire). w.said) e, ap (λ (w : Wire). w.waits) e)
leaves_said Stands went new (inr e) = (ap (λ (w : Wire). w.said) e, ap (λ (w : Wire). w.waits) e)
leaves_said Lost went new (inl e) = (ap (λ (w : Wire). w.said) e, ap (λ (w : Wire). w.waits) e)
leaves_said Lost went new (inr e) = (ap (λ (w : Wire). w.said) e, ap (λ (w : Wire). w.waits) e)
leaves_said Closed went new (inl e) = (ap (λ (w : Wire). w.said) e, ap (λ (w : Wire). w.waits) e)
leaves_said Closed went new (inr e) = (ap (λ (w : Wire). w.said) e, ap (λ (w : Wire). w.waits) e)

and_then_more : (told : Option (List ℕ)) (a b : List ℕ) → and_then told (a ++ b) ≡ and_then (and_then told a) b
and_then_more None a b = refl
and_then_more (Some bytes) a b = ap Some (sym (append_assoc bytes a b))

-- what left a connection that was let go was said to it
pub let_go_said : (went : Bool) (old new : Wire) → LetsGo went old new → WasSaid new
let_go_said went old new h = record {
  rest = h.rest ++ old.waits;
  said = (leaves_said old.fate (letting h.held new.out old) new h.leaves).0 ∙ h.before ∙ and_then_more old.out h.held old.waits
      ∙ ap (λ (o : Option (List ℕ)). and_then o old.waits) (sym h.moved) ∙ sym (and_then_more new.out h.rest old.waits);
}
