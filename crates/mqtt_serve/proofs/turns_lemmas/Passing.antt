-- Connections that rest are passed over in a brisk turn.
use Rattle.std.proofs.Common.{◌≡◌, ℕ, zero, suc, ◌+◌, ◌-◌, ◌<◌, ◌≤◌, Bool, true, false, ◌||◌, List, [], ◌∷◌, length, Some, refl, ap, subst, ◌∙◌, arith}
use Rattle.std.specs.Prelude.{slice_get, option_map}
use Rattle.mqtt_keep.specs.declared.keeping.keep.Keep.{Ghosts}
use Rattle.mqtt_broker.specs.engine.Serving.{Serving}
use Rattle.mqtt_serve.specs.declared.turns.turn.Pace.{Pace}
use Rattle.mqtt_serve.specs.declared.turns.turn.Pace.TheVariants.{Brisk}
use Rattle.mqtt_serve.specs.turns.Resting.{RestBetween, Rests}
use Rattle.mqtt_serve.specs.turns.Turns.{MayRest, Server, ServesBelow, it_is_passed_over, line_after, may_send_in}
use Rattle.mqtt_serve.specs.turns.Wires.{Wire}

there : (ws : List Wire) (k : ℕ) → k < length ws → (w : Wire) × (slice_get ws k ≡ Some w)
there [] k less = absurd (omega (arith, less))
there (w ∷ ws) zero less = (w, refl)
there (w ∷ ws) (suc k) less = there ws k (omega (arith, less))

-- one that rests may be passed over
pub may_rest : (place : ℕ) (ws : List Wire) (w : Wire) → slice_get ws place ≡ Some w → Rests w → MayRest place ws
may_rest place ws w here rests = record {
  may_send = ap may_send_in here ∙ rests.may_send;
  nothing_waits = ap (option_map (λ (x : Wire). x.waits)) here ∙ ap (λ (waits : List ℕ). Some waits) rests.nothing_waits;
}

idle_or : (busy : Bool) → (busy || false) ≡ busy
idle_or true = refl
idle_or false = refl

module _ {K : Type 0} (g : Ghosts K) (pace : Pace) (now : ℕ) where
  passes_gap : (n gap : ℕ) (busy : Bool) (s t : Server (Serving K)) → ServesBelow g pace now n busy s t → (0 < gap → pace ≡ Brisk)
      → ((k : ℕ) (w : Wire) → n ≤ k → k < n + gap → slice_get t.wires k ≡ Some w → Rests w) → n + gap ≤ length t.wires → ServesBelow g pace now (n + gap) busy s t
  passes_gap n zero busy s t serves brisk rest within = subst (λ m. ServesBelow g pace now m busy s t) (omega arith) serves
  passes_gap n (suc gap) busy s t serves brisk rest within =
      let so_far = passes_gap n gap busy s t serves (λ some. brisk (omega arith)) (λ k w low high is. rest k w low (omega (arith, high)) is) (omega (arith, within)) in
      let it = there t.wires (n + gap) (omega (arith, within)) in
      subst (λ m. ServesBelow g pace now m busy s t) (omega arith)
      (subst (λ b. ServesBelow g pace now (n + gap + 1) b s t) (idle_or busy)
      (line_after so_far (it_is_passed_over (brisk (omega arith)) (may_rest (n + gap) t.wires it.0 it.1 (rest (n + gap) it.0 (omega arith) (omega arith) it.1)))))

  -- so those from a place on are, up to another
  pub passes_to : (n place : ℕ) (busy : Bool) (s t : Server (Serving K)) → n ≤ place → place ≤ length t.wires → ServesBelow g pace now n busy s t
      → (n < place → pace ≡ Brisk) → RestBetween n place t.wires → ServesBelow g pace now place busy s t
  passes_to n place busy s t ordered within serves brisk rest =
      subst (λ m. ServesBelow g pace now m busy s t) (omega (arith, ordered))
      (passes_gap n (place - n) busy s t serves (λ some. brisk (omega (arith, some)))
      (λ k w low high is. rest k w low (omega (arith, high, ordered)) is) (omega (arith, ordered, within)))
