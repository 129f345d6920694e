-- A test passes if something is found (MQTT 5.0, 2.2.2).
use Rattle.std.proofs.Common.{◌≡◌, Bool, List, [], ◌∷◌, true, false, cond, ◌||◌, Option, Some, None, refl, sym, ap, ◌∙◌}
use Rattle.std.specs.Prelude.{find, is_some, option_map}
use Rattle.std.specs.List.{list_any}
use Rattle.mqtt_props.specs.Laws.{is_named}
use Rattle.mqtt_props.specs.Views.{prop_of}
use Rattle.mqtt_props.proofs.list.PropsRef.has.Goals as goal

head_found : {X : Type 0} (b : Bool) (x : X) (o : Option X) (rest : Bool) → is_some o ≡ rest → is_some (cond b (Some x) o) ≡ (b || rest)
head_found true x o rest e = refl
head_found false x o rest e = e

is_some-find : {X : Type 0} (p : X → Bool) (xs : List X) → is_some (find p xs) ≡ list_any p xs
is_some-find p [] = refl
is_some-find p (x ∷ xs) = head_found (p x) x (find p xs) (list_any p xs) (is_some-find p xs)

is_some-option_map : {X Y : Type 0} (f : X → Y) (o : Option X) → is_some (option_map f o) ≡ is_some o
is_some-option_map f (Some x) = refl
is_some-option_map f None = refl

pub returns : goal.returns
returns c =
    c.is_some.ensures ∙ sym (is_some-option_map prop_of c.get.result) ∙ ap is_some c.get.ensures.found ∙ is_some-find (is_named c.args.name) c.args.self.now
