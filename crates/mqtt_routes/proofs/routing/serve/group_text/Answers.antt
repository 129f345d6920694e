use Rattle.std.proofs.Common.{◌≡◌, ℕ, zero, suc, Bool, true, false, ◌||◌, List, [], ◌∷◌, drop, eqb, sym, ap, subst, ◌∙◌, arith, length-drop}
use Rattle.std.specs.List.{list_any}
use Rattle.std.specs.Str.{IsUtf8, is_utf8}
use Rattle.mqtt_base.specs.Values.{FitsText, is_text}
use Rattle.mqtt_base.proofs.Characters.{not_and}
use Rattle.mqtt_base.proofs.Texts.{is_text-utf8}
use Rattle.mqtt_topic.specs.names.Filters.{group_of}
use Rattle.mqtt_routes.proofs.routing.serve.group_text.Goals as goal

or_later : (x y : Bool) → (x || y) ≡ false → y ≡ false
or_later true y e = absurd cc
or_later false y e = e

none_later : (n : ℕ) (t : List ℕ) → list_any (λ b. eqb b 0) t ≡ false → list_any (λ b. eqb b 0) (drop n t) ≡ false
none_later zero t e = e
none_later (suc n) [] e = e
none_later (suc n) (c ∷ cs) e = none_later n cs (or_later (eqb c 0) (list_any (λ b. eqb b 0) cs) e)

-- what is left of a text is a text
left : (n : ℕ) (t : List ℕ) → FitsText t → IsUtf8 (drop n t) → FitsText (drop n t)
left n t fits utf8 =
    (omega (arith, length-drop n t, fits.0), is_text-utf8 (drop n t) (none_later n t (none t fits.1)) utf8)
  where
    none : (x : List ℕ) → is_text x ≡ true → list_any (λ b. eqb b 0) x ≡ false
    none x e = (not_and (list_any (λ b. eqb b 0) x) (is_utf8 x) e).0

pub new-requires : goal.new-requires
new-requires c =
    let whole = c.args.whole.now in
    let is : c.group_of-group.result.now ≡ group_of whole = c.group_of-group.ensures ∙ ap group_of c.as_str.ensures.value in
    subst FitsText (sym is) (left _ whole c.as_str.ensures.good (subst IsUtf8 is c.group_of-group.utf8))
