-- A tail that is read is the tail that was written, and what was written is read again.
use Rattle.std.proofs.Common.{◌≡◌, ℕ, zero, suc, ◌≤◌, true, false, cond, eqb, List, [], ◌∷◌, ◌++◌, length, Ok, Err, refl, sym, ap, subst, ◌∙◌, arith}
use Rattle.std.proofs.lemmas.Bool.{eqb-true}
use Rattle.std.proofs.lemmas.List.{append-nil, nil_from_length, length-append}
use Rattle.mqtt_base.specs.Values.{varint}
use Rattle.mqtt_base.proofs.Steps.{IsBytes, IsBytes-rest, bind_ok, when_ok, ok_is}
use Rattle.mqtt_base.proofs.Varints.{varint_size}
use Rattle.mqtt_props.specs.declared.place.Place.{Place}
use Rattle.mqtt_props.specs.Properties.{Prop, props, block}
use Rattle.mqtt_props.specs.Laws.{layout_at}
use Rattle.mqtt_props.proofs.Blocks.{layout_takes, layout_again}
use Rattle.mqtt_packet.specs.declared.parts.fault.Fault.TheVariants.{Malformed}
use Rattle.mqtt_packet.specs.parts.Reading.{malformed}
use Rattle.mqtt_packet.specs.parts.Blocks.{Stands}
use Rattle.mqtt_packet.specs.codec.Tails.{IsTail, tail, tail_at}
use Rattle.mqtt_packet.proofs.parts_lemmas.Parts.{malformed_ok}

-- a list without properties may stand everywhere
none_stand : (place : Place) → Stands place []
none_stand place = (record { each = tt; short = omega arith }, refl)

-- a block to the end of the bytes
pub block_ends : (place : Place) (bytes : List ℕ) (ps : List Prop × List ℕ) → IsBytes bytes → layout_at place bytes ≡ Ok ps → eqb (length ps.1) 0 ≡ true → (bytes ≡ block ps.0) × Stands place ps.0
block_ends place bytes ps fits e end =
    let l = layout_takes place bytes ps fits e in
    let nothing : ps.1 ≡ [] = nil_from_length ps.1 (eqb-true _ _ end) in
    (l.0.parts ∙ ap (λ (w : List ℕ). block ps.0 ++ w) nothing ∙ append-nil (block ps.0), (l.1, l.2))

-- a block at the end is read back
pub block_again_end : (place : Place) (ps : List Prop) (bytes : List ℕ) → Stands place ps → bytes ≡ block ps → layout_at place bytes ≡ Ok (ps, [])
block_again_end place ps bytes stands e = ap (layout_at place) (e ∙ sym (append-nil (block ps))) ∙ layout_again place ps [] stands.0 stands.1

-- a code and properties that were read are the bytes
pub tail_takes : (place : Place) (bytes : List ℕ) (t : ℕ × List Prop) → IsBytes bytes → tail_at place bytes ≡ Ok t → IsTail t.0 t.1 bytes × Stands place t.1
unfolding tail_at
tail_takes place [] t fits e = subst (λ (y : ℕ × List Prop). IsTail y.0 y.1 [] × Stands place y.1) (ok_is (0, []) t e) ((refl, refl), none_stand place)
tail_takes place (c ∷ []) t fits e = subst (λ (y : ℕ × List Prop). IsTail y.0 y.1 (c ∷ []) × Stands place y.1) (ok_is (c, []) t e) ((refl, refl), none_stand place)
tail_takes place (c ∷ (b ∷ bytes)) t fits e =
    let a = bind_ok (malformed (layout_at place (b ∷ bytes))) (λ ps. cond (eqb (length ps.1) 0) (Ok (c, ps.0)) (Err Malformed)) t e in
    let ps = a.0 in
    let g = when_ok (eqb (length ps.1) 0) Malformed (Ok (c, ps.0)) t a.2 in
    let l = block_ends place (b ∷ bytes) ps (IsBytes-rest c (b ∷ bytes) fits) (malformed_ok (layout_at place (b ∷ bytes)) ps a.1) g.0 in
    subst (λ (y : ℕ × List Prop). IsTail y.0 y.1 (c ∷ (b ∷ bytes)) × Stands place y.1) (ok_is (c, ps.0) t g.1) ((refl, l.0), l.1)

-- those that were written are read back
pub tail_again : (place : Place) (code : ℕ) (ps : List Prop) (bytes : List ℕ) → Stands place ps → IsTail code ps bytes → tail_at place bytes ≡ Ok (code, ps)
unfolding tail_at
tail_again place code ps [] stands is = rw (is.0, is.1) refl
tail_again place code ps (c ∷ []) stands is = rw (is.0, is.1) refl
tail_again place code ps (c ∷ (b ∷ bytes)) stands is = rw (block_again_end place ps (b ∷ bytes) stands is.1, is.0) refl

-- ---- the shortest

-- a block has at least a byte
pub some_block : (ps : List Prop) → 1 ≤ length (block ps)
some_block ps = omega (arith, length-append (varint (length (props ps))) (props ps), varint_size (length (props ps)))

full_tail : (code : ℕ) (ps : List Prop) (rest : List ℕ) → rest ≡ block ps → IsTail code ps (code ∷ rest)
full_tail code ps [] e = absurd (omega (arith, some_block ps, ap length e))
full_tail code ps (b ∷ bytes) e = (refl, e)

-- the writer writes a code and properties
pub tail_is_tail : (code : ℕ) (ps : List Prop) → IsTail code ps (tail code ps)
tail_is_tail zero [] = (refl, refl)
tail_is_tail (suc c) [] =
    let t : eqb (suc c) 0 ≡ false = grind arith in
    rw t (refl, refl)
tail_is_tail code (p ∷ ps) = full_tail code (p ∷ ps) (block (p ∷ ps)) refl

one_at_most : (code : ℕ) → length (tail code []) ≤ 1
one_at_most zero = omega arith
one_at_most (suc c) =
    let t : eqb (suc c) 0 ≡ false = grind arith in
    rw t (omega arith)

-- in the shortest way
pub tail_is_least : (code : ℕ) (ps : List Prop) (bytes : List ℕ) → IsTail code ps bytes → length (tail code ps) ≤ length bytes
tail_is_least code ps [] is = omega (arith, ap length (ap (tail code) is.1 ∙ ap (λ (k : ℕ). tail k []) is.0))
tail_is_least code ps (c ∷ []) is = omega (arith, one_at_most code, ap length (ap (tail code) is.1))
tail_is_least code [] (c ∷ (b ∷ bytes)) is = omega (arith, one_at_most code)
tail_is_least code (p ∷ ps) (c ∷ (b ∷ bytes)) is = omega (arith, ap length is.1)
