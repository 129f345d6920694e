-- The pairs of lists made from others (MQTT 5.0, 2.2.2).
use Rattle.std.proofs.Common.{◌≡◌, ℕ, zero, suc, ◌+◌, ◌^◌, ◌<◌, ◌≤◌, Bool, true, false, cond, List, [], ◌∷◌, ◌++◌, length, sym, ap, subst, ◌∙◌, arith}
use Rattle.std.specs.Prelude.{filter}
use Rattle.std.specs.List.{AllByRecursion}
use Rattle.std.proofs.lemmas.List.{length-append, append-nil}
use Rattle.std.proofs.lemmas.List.Concat.{flat_map-cons}
use Rattle.std.proofs.lemmas.Grind.{flat_map-append}
use Rattle.mqtt_base.proofs.Steps.{IsBytes}
use Rattle.mqtt_props.specs.declared.fault.PropFault.{PropFault}
use Rattle.mqtt_props.specs.declared.fault.PropFault.TheVariants.{Malformed, Twice, BadValue, Memory}
use Rattle.mqtt_props.specs.Properties.{Prop, IsProp, prop, props, FitsBlock}
use Rattle.mqtt_props.specs.Reading.{props_of, ArePairs}
use Rattle.mqtt_props.specs.Edits.{AddRefuses, IsTooLong}
use Rattle.mqtt_props.proofs.Blocks.{pairs_of, pairs_fit, props_are, props_of_props}

-- bytes that spell a list are its pairs
pub are_pairs : (all items : List ℕ) (ps : List Prop) → all ≡ items → items ≡ props ps → FitsBlock ps → IsBytes items → ArePairs all × (props_of all ≡ ps)
are_pairs all items ps same e fits each =
    let bytes : IsBytes (props ps) = subst (λ (b : List ℕ). IsBytes b) e each in
    (subst (λ (b : List ℕ). ArePairs b) (sym (same ∙ e)) (props_are ps fits bytes), ap props_of (same ∙ e) ∙ props_of_props ps fits)

-- ---- one list behind another

-- bytes behind bytes are bytes
pub IsBytes-append : (a b : List ℕ) → IsBytes a → IsBytes b → IsBytes (a ++ b)
IsBytes-append [] b f g i = g i
IsBytes-append (x ∷ a) b f g zero = f 0
IsBytes-append (x ∷ a) b f g (suc i) = IsBytes-append a b (λ j. f (suc j)) g i

each-append : (ps qs : List Prop) → AllByRecursion IsProp ps → AllByRecursion IsProp qs → AllByRecursion IsProp (ps ++ qs)
each-append [] qs h g = g
each-append (p ∷ ps) qs h g = (h.0, each-append ps qs h.1 g)

-- the pairs of old and those of more are the pairs of the two lists together
pub record AreJoined (old more : List ℕ) (ps qs : List Prop) : Type 0 where
  pub is : old ++ more ≡ props (ps ++ qs)
  pub fits : length old + length more < 2 ^ 28 → FitsBlock (ps ++ qs)

-- pairs behind pairs are the pairs of both
pub joined : (old more : List ℕ) (ps qs : List Prop) → ArePairs old → props_of old ≡ ps → more ≡ props qs → AllByRecursion IsProp qs → AreJoined old more ps qs
joined old more ps qs h e parts each =
    let is : old ++ more ≡ props (ps ++ qs) = ap (λ (w : List ℕ). w ++ more) (pairs_of old ps h e) ∙ ap (λ (w : List ℕ). props ps ++ w) parts ∙ sym (flat_map-append prop ps qs) in
    record {
      is = is;
      fits = λ lt. record { each = each-append ps qs (pairs_fit old ps h e).each each; short = omega (arith, lt, ap length is, length-append old more) };
    }

-- if they are too long, the two lists together have no spelling
pub add_refused : (old more : List ℕ) (ps qs : List Prop) (fault : PropFault) → AreJoined old more ps qs → IsTooLong (length old + length more) fault → AddRefuses (ps ++ qs) fault
add_refused old more ps qs Malformed h long = λ fits. omega (arith, fits.short, long, ap length h.is, length-append old more)
add_refused old more ps qs Twice h long = long
add_refused old more ps qs BadValue h long = long
add_refused old more ps qs Memory h long = tt

-- one property is spelled as itself
pub props-one : (p : Prop) → props (p ∷ []) ≡ prop p
props-one p = flat_map-cons prop p [] ∙ append-nil (prop p)

-- ---- the properties that pass a test

filter-short : (test : Prop → Bool) (ps : List Prop) → length (props (filter test ps)) ≤ length (props ps)
filter-short test [] = omega arith
filter-short test (p ∷ ps) =
    elim (test p) as (λ b. length (props (cond b (p ∷ filter test ps) (filter test ps))) ≤ length (props (p ∷ ps))) [
      | false ↦ omega (arith, filter-short test ps, ap length (flat_map-cons prop p ps), length-append (prop p) (props ps))
      | true ↦ omega (arith, filter-short test ps, ap length (flat_map-cons prop p ps), length-append (prop p) (props ps), ap length (flat_map-cons prop p (filter test ps)), length-append (prop p) (props (filter test ps)))
    ]

filter-each : (test : Prop → Bool) (ps : List Prop) → AllByRecursion IsProp ps → AllByRecursion IsProp (filter test ps)
filter-each test [] h = tt
filter-each test (p ∷ ps) h =
    elim (test p) as (λ b. AllByRecursion IsProp (cond b (p ∷ filter test ps) (filter test ps))) [
      | false ↦ filter-each test ps h.1
      | true ↦ (h.0, filter-each test ps h.1)
    ]

-- a part of what fits a block fits
pub FitsBlock-filter : (test : Prop → Bool) (ps : List Prop) → FitsBlock ps → FitsBlock (filter test ps)
FitsBlock-filter test ps h = record { each = filter-each test ps h.each; short = omega (arith, h.short, filter-short test ps) }
