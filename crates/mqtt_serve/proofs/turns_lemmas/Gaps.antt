-- Connections that rest are passed over: nothing happens to them, and nothing is to be done.
use Rattle.std.proofs.Common.{◌≡◌, ◌≢◌, ◌⊎◌, ℕ, zero, suc, ◌+◌, ◌-◌, ◌<◌, ◌≤◌, Bool, true, false, not, ◌&&◌, ◌||◌, List, [], ◌∷◌, length, get_or, All, Some, refl, cond, sym, ap, subst, ◌∙◌, arith, inl, inr}
use Rattle.std.proofs.lemmas.Option.{slice_get-get_or}
use Rattle.std.specs.Prelude.{slice_get}
use Rattle.mqtt_serve.specs.declared.turns.connection.Fate.{Fate}
use Rattle.mqtt_serve.specs.declared.turns.connection.Fate.TheVariants.{Stands, Lost, Closed}
use Rattle.mqtt_serve.specs.turns.Related.{RelatedAt, RelatedBelow}
use Rattle.mqtt_serve.specs.turns.Resting.{RestBetween, Rests}
use Rattle.mqtt_serve.specs.turns.Settled.{CanWait, LetsGoBelow, one_after}
use Rattle.mqtt_serve.specs.turns.Turns.{without_closed}
use Rattle.mqtt_serve.specs.turns.Wires.{LetsGo, Wire, is_closed, is_lost, is_standing}
use Rattle.mqtt_serve.proofs.turns_lemmas.Noted.{one_there}

-- ---- what one that rests is

sends_stands : (f : Fate) (clear : Bool) → (is_standing f && clear) ≡ true → f ≡ Stands
sends_stands Stands clear sends = refl
sends_stands Lost clear sends = absurd cc
sends_stands Closed clear sends = absurd cc

-- the broker has not closed it
pub rests_open : (w : Wire) → Rests w → is_closed w.fate ≡ false
rests_open w rests = ap is_closed (sends_stands w.fate w.clear rests.may_send)

-- the link may wait for it
pub rests_waits : (w : Wire) → Rests w → CanWait w
rests_waits w rests = record { not_lost = ap is_lost (sends_stands w.fate w.clear rests.may_send); nothing_waits = λ sends. rests.nothing_waits }

below_or_not : (k n : ℕ) → (k < n) ⊎ (n ≤ k)
below_or_not k n = grind (arith)

same_or_not : (k n : ℕ) → (k ≡ n) ⊎ (k ≢ n)
same_or_not k n = grind (arith)

-- ---- what holds of each that was asked, and of those that rest

module _ (P : Wire → Type 0) (rest : (w : Wire) → Rests w → P w) where
  -- up to the one that was asked last
  pub each_more : (ws : List Wire) (from place : ℕ) (w : Wire) → ((k : ℕ) (x : Wire) → k < from → slice_get ws k ≡ Some x → P x)
      → RestBetween from place ws → P w → slice_get ws place ≡ Some w → (k : ℕ) (x : Wire) → k < place + 1 → slice_get ws k ≡ Some x → P x
  each_more ws from place w before between its here k x less is = elim (same_or_not k place) [
    | inl same ↦ subst P (one_there w x (slice_get ws place) here (subst (λ n. slice_get ws n ≡ Some x) same is)) its
    | inr other ↦ elim (below_or_not k from) [
      | inl low ↦ before k x low is
      | inr high ↦ rest x (between k x high (omega (arith, less, other)) is)
    ]
  ]

  -- up to the end
  pub each_at_last : (ws : List Wire) (from : ℕ) → ((k : ℕ) (x : Wire) → k < from → slice_get ws k ≡ Some x → P x) → RestBetween from (length ws) ws
      → (k : ℕ) (x : Wire) → k < length ws → slice_get ws k ≡ Some x → P x
  each_at_last ws from before between k x less is = elim (below_or_not k from) [
    | inl low ↦ before k x low is
    | inr high ↦ rest x (between k x high less is)
  ]

-- what holds at each place holds of all
pub all_there : (P : Wire → Type 0) (ws : List Wire) → ((k : ℕ) (x : Wire) → k < length ws → slice_get ws k ≡ Some x → P x) → All P ws
all_there P ws each = λ k x less. each k (get_or ws k x) less (slice_get-get_or ws k x less)

-- where none is closed none is dropped
pub none_dropped : (ws : List Wire) → ((k : ℕ) (x : Wire) → k < length ws → slice_get ws k ≡ Some x → is_closed x.fate ≡ false) → without_closed ws ≡ ws
none_dropped [] each = refl
none_dropped (w ∷ ws) each =
    ap (λ b. cond (not b) (w ∷ without_closed ws) (without_closed ws)) (each 0 w (omega arith) refl)
    ∙ ap (λ xs. w ∷ xs) (none_dropped ws (λ k x less is. each (suc k) x (omega (arith, less)) is))

-- ---- connections that change one after the other

module _ (R : Wire → Wire → Type 0) where
  -- one more changes, the one at the next place
  pub below_at : (n : ℕ) (xs ys zs : List Wire) → RelatedBelow R n xs ys → RelatedAt R n ys zs → RelatedBelow R (n + 1) xs zs
  below_at n xs ys zs r at = record {
    len = r.len ∙ at.len;
    below = λ k x z less is_x is_z. elim (same_or_not k n) [
      | inl same ↦ at.here x z (r.above n (omega arith) ∙ subst (λ m. slice_get xs m ≡ Some x) same is_x) (subst (λ m. slice_get zs m ≡ Some z) same is_z)
      | inr other ↦ r.below k x z (omega (arith, less, other)) is_x (sym (at.elsewhere k other) ∙ is_z)
    ];
    above = λ k high. at.elsewhere k (omega (arith, high)) ∙ r.above k (omega (arith, high));
  }

-- ---- what is held back goes out

idle_or : (busy : Bool) → (busy || false) ≡ busy
idle_or true = refl
idle_or false = refl

-- nothing does on those that rest
pub lets_gap : (n gap : ℕ) (busy : Bool) (old mid : List Wire) → LetsGoBelow n busy old mid
    → ((k : ℕ) (w : Wire) → n ≤ k → k < n + gap → slice_get mid k ≡ Some w → Rests w) → LetsGoBelow (n + gap) busy old mid
lets_gap n zero busy old mid lets rest = subst (λ m. LetsGoBelow m busy old mid) (omega arith) lets
lets_gap n (suc gap) busy old mid lets rest =
    let so_far = lets_gap n gap busy old mid lets (λ k w low high is. rest k w low (omega (arith, high)) is) in
    subst (λ m. LetsGoBelow m busy old mid) (omega arith)
    (subst (λ b. LetsGoBelow (n + gap + 1) b old mid) (idle_or busy) (one_after so_far (record {
      len = refl;
      here = λ x y is_x is_y. subst (LetsGo false x) (one_there x y (slice_get mid (n + gap)) is_x is_y)
          (rest (n + gap) x (omega arith) (omega arith) is_x).nothing_held;
      elsewhere = λ k other. refl;
    })))

-- up to a place
pub lets_to : (n place : ℕ) (busy : Bool) (old mid : List Wire) → n ≤ place → LetsGoBelow n busy old mid → RestBetween n place mid
    → LetsGoBelow place busy old mid
lets_to n place busy old mid ordered lets rest =
    subst (λ m. LetsGoBelow m busy old mid) (omega (arith, ordered))
    (lets_gap n (place - n) busy old mid lets (λ k w low high is. rest k w low (omega (arith, high, ordered)) is))
