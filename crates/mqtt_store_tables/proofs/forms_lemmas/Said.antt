-- What rows say of the schema.
use Rattle.std.proofs.Common.{◌≡◌, ◌≢◌, ℤ, List, [], ◌∷◌, Option, Some, None, MatchOption, subst, inl}
use Rattle.sqlite_value.specs.declared.value.Value.TheVariants.{Int}
use Rattle.sqlite_value.specs.Order.{Row}
use Rattle.sqlite.specs.State.{State, Shown}
use Rattle.mqtt_store_tables.specs.forms.Asking.{ask_text, Says}

-- one row of the number 1 says that the tables are of schema 1, and any other rows that they aren't
pub said : (old new : State) (it : Option ℤ) (rows : List Row) → MatchOption it ((n : ℤ) → rows ≢ (Int n ∷ []) ∷ []) (λ n. rows ≡ (Int n ∷ []) ∷ []) → Shown ask_text [] old new rows → Says it old new
said old new (Some n) rows is shown = subst (λ (rows : List Row). Shown ask_text [] old new rows) is shown
said old new None rows is shown = inl (rows, shown, is)
