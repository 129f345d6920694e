-- A line and its number: who stands on it, and what leaves it so.
use Rattle.std.proofs.Common.{◌≡◌, ℕ, Bool, true, false, List, [], ◌∷◌, ◌⊎◌, Option, Some, nat_eq, refl, sym, ap, ◌∙◌, inl, inr}
use Rattle.std.specs.Prelude.{find}
use Rattle.std.proofs.lemmas.Bool.{cases_Bool, eqb-true}
use Rattle.mqtt_rules.specs.step.State.{Line}
use Rattle.mqtt_rules.specs.step.Deeds.{LinePart, Hear, Greet, SetAlias, Went, line_after, on_line}
use Rattle.mqtt_rules.specs.step.Laws.{IsAmong}

-- a line with this number stands, with this session
abbrev pub IsOn : ℕ → Option ℕ → List Line → Type 0
IsOn n session [] = ⊥
IsOn n session (l ∷ ls) = ((l.number ≡ n) × (l.session ≡ session)) ⊎ IsOn n session ls

-- the line found by a number has that number
pub found_number : (n : ℕ) (l : Line) (ls : List Line) → find (λ x. nat_eq x.number n) ls ≡ Some l → l.number ≡ n
found_number n l [] e = absurd cc
found_number n l (x ∷ ls) e = elim (cases_Bool (nat_eq x.number n)) [
  | inl here ↦ let first : Some x ≡ Some l = rw here at e in let it : x ≡ l = cc in ap (λ (y : Line). y.number) (sym it) ∙ eqb-true x.number n here
  | inr other ↦ found_number n l ls (rw other at e)
]

-- a line that stands has its session on it
pub found_on : (l : Line) (ls : List Line) → IsAmong l ls → IsOn l.number l.session ls
found_on l [] h = absurd h
found_on l (x ∷ ls) h = elim h [
  | inl it ↦ inl (ap (λ (y : Line). y.number) it, ap (λ (y : Line). y.session) it)
  | inr more ↦ inr (found_on l ls more)
]

-- a part that leaves a line's number and its session
abbrev pub is_beside : LinePart → Bool
is_beside Hear = true
is_beside (SetAlias alias topic) = true
is_beside part = false

beside_line : (now : ℕ) (part : LinePart) (l : Line) → is_beside part ≡ true → ((line_after now part l).number ≡ l.number) × ((line_after now part l).session ≡ l.session)
beside_line now Hear l h = (refl, refl)
beside_line now (SetAlias alias topic) l h = (refl, refl)
beside_line now (Greet birth keep_alive window largest most) l h = absurd cc
beside_line now (Went place) l h = absurd cc

-- what happens on a line, other than a greeting, keeps who stands on the others
pub stays_on : (now k : ℕ) (part : LinePart) (n : ℕ) (session : Option ℕ) (ls : List Line) → is_beside part ≡ true → IsOn n session ls → IsOn n session (on_line now k part ls)
stays_on now k part n session [] h on = absurd on
stays_on now k part n session (l ∷ ls) h on = elim (cases_Bool (nat_eq l.number k)) [
  | inl here ↦
      let same = beside_line now part l h in
      rw here (elim on [ inl it ↦ inl (same.0 ∙ it.0, same.1 ∙ it.1) | inr more ↦ inr more ])
  | inr other ↦ rw other (elim on [ inl it ↦ inl it | inr more ↦ inr (stays_on now k part n session ls h more) ])
]
