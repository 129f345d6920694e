-- What a row has in memory stands for its copy, or for the slim one (MQTT 5.0, 3.3).
use Rattle.std.proofs.Common.{◌≡◌, ℕ, Option, sym, ap, subst, ◌∙◌}
use Rattle.mqtt_records.specs.declared.messages.held.Held.{Held}
use Rattle.mqtt_records.specs.declared.messages.held.Held.TheVariants.{Whole, Slim}
use Rattle.mqtt_records.specs.declared.messages.held.Rest.{Rest}
use Rattle.mqtt_records.specs.messages.Filling.{filled_copy}
use Rattle.mqtt_records.specs.messages.Held.{spread, held_copy, Remembers}
use Rattle.mqtt_records.specs.messages.PassedOn.{IsPassedOn}
use Rattle.mqtt_records.specs.messages.Queue.{Knows}
use Rattle.mqtt_records.specs.messages.Slim.{bare, slim_copy}
use Rattle.mqtt_records.proofs.messages_lemmas.Slim.{zeros_len, bare_passes, bare_is_slim, slim_bare, slim_knows}

-- without what it says a row has the slim copy
pub rest_is_slim : (size pairs payload : ℕ) (interval : Option ℕ) (rest : Rest) (held : Held)
    → Remembers size pairs payload interval (held_copy pairs payload interval rest held)
    → held_copy pairs payload interval rest Slim ≡ slim_copy (held_copy pairs payload interval rest held)
rest_is_slim size pairs payload interval rest (Whole said) is =
    let copy = filled_copy said.value (spread rest) in
    ap (λ (n : ℕ). bare pairs interval n copy) is.rest ∙ bare_is_slim size pairs interval copy is.known
rest_is_slim size pairs payload interval rest Slim is = sym (slim_bare size pairs interval payload (spread rest) is.known)

-- what a row remembers it remembers of the slim copy
pub rest_remembers : (size pairs payload : ℕ) (interval : Option ℕ) (rest : Rest) (held : Held)
    → Remembers size pairs payload interval (held_copy pairs payload interval rest held)
    → Remembers size pairs payload interval (held_copy pairs payload interval rest Slim)
rest_remembers size pairs payload interval rest held is =
    let copy = held_copy pairs payload interval rest held in
    let same = rest_is_slim size pairs payload interval rest held is in
    record {
      known = subst (Knows size pairs interval) (sym same) (slim_knows size pairs interval copy is.known);
      rest = sym (zeros_len payload);
    }

-- a row that has the rest alone has a slim copy
pub rest_alone : (size pairs payload : ℕ) (interval : Option ℕ) (rest : Rest) (held : Held) → held ≡ Slim
    → Remembers size pairs payload interval (held_copy pairs payload interval rest held)
    → slim_copy (held_copy pairs payload interval rest held) ≡ held_copy pairs payload interval rest held
rest_alone size pairs payload interval rest held same is =
    subst (λ (h : Held). slim_copy (held_copy pairs payload interval rest h) ≡ held_copy pairs payload interval rest h) (sym same)
    (slim_bare size pairs interval payload (spread rest)
    (subst (λ (h : Held). Remembers size pairs payload interval (held_copy pairs payload interval rest h)) same is).known)

-- its properties are such as publications pass on
pub rest_passes : (pairs payload : ℕ) (interval : Option ℕ) (rest : Rest) (held : Held) → held ≡ Slim
    → IsPassedOn (held_copy pairs payload interval rest held).content.properties
rest_passes pairs payload interval rest held same =
    subst (λ (h : Held). IsPassedOn (held_copy pairs payload interval rest h).content.properties) (sym same) (bare_passes pairs interval)
