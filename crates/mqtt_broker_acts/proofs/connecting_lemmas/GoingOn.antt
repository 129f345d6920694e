-- In the middle of PUBRELs that go out again: who sends the rest has sent all.
use Rattle.std.proofs.Common.{◌≡◌, ℕ, refl, sym, subst, List, [], ◌∷◌, ◌++◌, length, arith}
use Rattle.mqtt_flow.specs.declared.outbound.entry.Turn.{Turn}
use Rattle.mqtt_rules.specs.step.Deeds.{Deed, always}
use Rattle.mqtt_broker_step.specs.declared.fault.StepFault.{StepFault}
use Rattle.mqtt_broker_step.specs.Stepping.{Stepping, Did, IsLeft}
use Rattle.mqtt_broker_step.proofs.Doing.{did_none}
use Rattle.mqtt_broker_acts.specs.connecting.Connecting.{repeat, repeats}
use Rattle.mqtt_broker_acts.proofs.connecting_lemmas.Parts.{both_done, first_left, second_left}

-- the rest of the deeds, if they are done or refused, makes all of them done or refused
pub record GoesOn (rest all : List Deed) (first s : Stepping) : Type 0 where
  pub ok : (new : Stepping) → Did (always rest) s new → Did (always all) first new
  pub left : (fault : StepFault) (new : Stepping) → IsLeft (always rest) fault s new → IsLeft (always all) fault first new

-- at first all is still to be sent
pub goes_first : (all : List Deed) (s : Stepping) → GoesOn all all s s
goes_first all s = record { ok = λ new is. is; left = λ fault new is. is }

-- some more are done
pub goes_next : (ds rest all : List Deed) (first s s2 : Stepping) → GoesOn (ds ++ rest) all first s → Did (always ds) s s2 → GoesOn rest all first s2
goes_next ds rest all first s s2 w is = record {
  ok = λ new more. w.ok new (both_done (always ds) (always rest) (always (ds ++ rest)) s s2 new refl is more);
  left = λ fault new more. w.left fault new (second_left (always ds) (always rest) (always (ds ++ rest)) fault s s2 new refl is more);
}

-- the next are refused
pub goes_left : (ds rest all : List Deed) (fault : StepFault) (first s new : Stepping) → GoesOn (ds ++ rest) all first s → IsLeft (always ds) fault s new → IsLeft (always all) fault first new
goes_left ds rest all fault first s new w is = w.left fault new (first_left (always ds) (always rest) (always (ds ++ rest)) fault s new refl is)

-- none are left
pub goes_last : (all : List Deed) (first s : Stepping) → GoesOn [] all first s → Did (always all) first s
goes_last all first s w = w.ok s (record { is = sym (did_none s) })

-- ---- PUBRELs

-- one that is sent leaves those behind it
pub sends_next : (line : ℕ) (t : Turn) (ts rest all : List Turn) (first s s2 : Stepping) → rest ≡ t ∷ ts → GoesOn (repeats line rest) (repeats line all) first s
    → Did (always (repeat line t)) s s2 → GoesOn (repeats line ts) (repeats line all) first s2
sends_next line t ts rest all first s s2 steps w is =
    goes_next (repeat line t) (repeats line ts) (repeats line all) first s s2 (subst (λ (xs : List Turn). GoesOn (repeats line xs) (repeats line all) first s) steps w) is

-- sending may be refused at one
pub sends_left : (line : ℕ) (t : Turn) (ts rest all : List Turn) (fault : StepFault) (first s new : Stepping) → rest ≡ t ∷ ts → GoesOn (repeats line rest) (repeats line all) first s
    → IsLeft (always (repeat line t)) fault s new → IsLeft (always (repeats line all)) fault first new
sends_left line t ts rest all fault first s new steps w is =
    goes_left (repeat line t) (repeats line ts) (repeats line all) fault first s new (subst (λ (xs : List Turn). GoesOn (repeats line xs) (repeats line all) first s) steps w) is

empty_is : (ts : List Turn) → length ts ≡ 0 → ts ≡ []
empty_is [] none = refl
empty_is (t ∷ ts) none = absurd (omega (arith, none))

-- behind the last all are sent
pub sends_last : (line : ℕ) (rest all : List Turn) (first s : Stepping) → length rest ≡ 0 → GoesOn (repeats line rest) (repeats line all) first s → Did (always (repeats line all)) first s
sends_last line rest all first s none w =
    goes_last (repeats line all) first s (subst (λ (xs : List Turn). GoesOn (repeats line xs) (repeats line all) first s) (empty_is rest none) w)
