-- What a session that goes sets off in a table of its rows.
use Rattle.std.proofs.Common.{◌≡◌, ℕ, List, [], ◌∷◌, ◌++◌, length, refl, ap, length-append, arith}
use Rattle.sqlite_value.specs.Keys.{plain}
use Rattle.sqlite_value.specs.Order.{Row}
use Rattle.sqlite_schema.specs.declared.schema.Table.{Table}
use Rattle.sqlite_rules.specs.declared.action.Deed.TheVariants.{Delete}
use Rattle.sqlite_rules.specs.Action.{Work}
use Rattle.mqtt_store_tables.specs.forms.Tables.{to_session}

-- equal lists with one item at the end are equal before it, and end with the same
pub last_same : {X : Type 0} (xs ys : List X) (x y : X) → xs ++ x ∷ [] ≡ ys ++ y ∷ [] → (xs ≡ ys) × (x ≡ y)
last_same [] [] x y h = (refl, cc)
last_same [] (z ∷ ys) x y h = absurd (omega (arith, ap length h, length-append ys (y ∷ [])))
last_same (z ∷ xs) [] x y h = absurd (omega (arith, ap length h, length-append xs (x ∷ [])))
last_same (z ∷ xs) (v ∷ ys) x y h =
    let tails : xs ++ x ∷ [] ≡ ys ++ y ∷ [] = cc in
    let heads : z ≡ v = cc in
    let later = last_same xs ys x y tails in
    let front : xs ≡ ys = later.0 in
    (cc, later.1)

-- what is set off in a child table, by one session
abbrev pub work : Table → ℕ → Row → Work
work child at parent = record { depth = 0; child = child; ref = to_session at; places = 0 ∷ []; order = plain; deed = Delete; moves = (parent, []) ∷ [] }
