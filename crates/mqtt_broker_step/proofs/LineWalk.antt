-- A copy leaves: its place leaves the lines of its session.
use Rattle.std.proofs.Common.{◌≡◌, ℕ, ◌<◌, ◌≤◌, Bool, true, false, cond, zero, suc, List, [], ◌∷◌, length, map, nat_eq, refl, ap, sym, ◌∙◌, arith}
use Rattle.std.specs.Prelude.{Some, None, slice_get}
use Rattle.std.proofs.lemmas.Bool.{eq-eqb}
use Rattle.mqtt_records.specs.lists.Order.{IsAbove, IsAscending, change_row}
use Rattle.mqtt_records.proofs.lists_lemmas.OrderLemmas.{apart}
use Rattle.mqtt_rules.specs.step.State.{Line, is_of}
use Rattle.mqtt_rules.specs.step.Deeds.{without_place}
use Rattle.mqtt_broker_step.specs.Lines.{line_number, without_went, nth_changed, changed_from}

-- a line of the copy's own session loses the copy's place
pub place_own : (birth place : ℕ) (l : Line) → is_of l.session birth ≡ true → without_went place l ≡ without_place birth place l
place_own birth place l own = sym (ap (λ (b : Bool). cond b (without_went place l) l) own)

-- a line of another session, or of none, stays as it was
pub place_other : (birth place : ℕ) (l : Line) → is_of l.session birth ≡ false → without_place birth place l ≡ l
place_other birth place l other = ap (λ (b : Bool). cond b (without_went place l) l) other

above_at : (n i : ℕ) (ls : List Line) (l : Line) → IsAbove line_number n ls → slice_get ls i ≡ Some l → n < l.number
above_at n i [] l above found = absurd cc
above_at n zero (x ∷ xs) l above found =
    let same : x ≡ l = cc in
    let number = ap line_number same in
    let less = above.0 in
    omega (arith, number, less)
above_at n (suc i) (x ∷ xs) l above found = above_at n i xs l above.1 found

-- the i-th line is the one with its number
pub changed_at : (f g : Line → Line) (i : ℕ) (ls : List Line) (l : Line) → IsAscending line_number ls → slice_get ls i ≡ Some l → f l ≡ g l
    → change_row line_number l.number f ls ≡ nth_changed i g ls
changed_at f g i [] l up found same = absurd cc
changed_at f g zero (x ∷ xs) l up found same =
    let is : x ≡ l = cc in
    let here : nat_eq x.number l.number ≡ true = eq-eqb x.number l.number (ap line_number is) in
    let alike : f x ≡ g x = ap f is ∙ (same ∙ ap g (sym is)) in
    rw here (ap (λ (y : Line). y ∷ xs) alike)
changed_at f g (suc i) (x ∷ xs) l up found same =
    let less = above_at x.number i xs l up.0 found in
    let later : nat_eq x.number l.number ≡ false = apart x.number l.number (λ e. omega (arith, e, less)) in
    rw later (ap (λ (ys : List Line). x ∷ ys) (changed_at f g i xs l up.1 found same))

-- if there is no i-th line, to change it changes nothing
pub changed_none : (g : Line → Line) (i : ℕ) (ls : List Line) → slice_get ls i ≡ None → nth_changed i g ls ≡ ls
changed_none g i [] none = refl
changed_none g zero (x ∷ xs) none = absurd cc
changed_none g (suc i) (x ∷ xs) none = ap (λ (ys : List Line). x ∷ ys) (changed_none g i xs none)

-- if the change leaves the i-th line as it was, all lines are as they were
pub changed_same : (g : Line → Line) (i : ℕ) (ls : List Line) (l : Line) → slice_get ls i ≡ Some l → g l ≡ l → nth_changed i g ls ≡ ls
changed_same g i [] l found same = refl
changed_same g zero (x ∷ xs) l found same =
    let is : x ≡ l = cc in
    let alike : g x ≡ x = ap g is ∙ (same ∙ sym is) in
    ap (λ (y : Line). y ∷ xs) alike
changed_same g (suc i) (x ∷ xs) l found same = ap (λ (ys : List Line). x ∷ ys) (changed_same g i xs l found same)

-- one line after the other
pub changed_next : (g : Line → Line) (i : ℕ) (ls : List Line) → changed_from (suc i) g (nth_changed i g ls) ≡ changed_from i g ls
changed_next g i [] = refl
changed_next g zero (x ∷ xs) = refl
changed_next g (suc i) (x ∷ xs) = ap (λ (ys : List Line). x ∷ ys) (changed_next g i xs)

-- from the first line on is every line
pub changed_all_lines : (g : Line → Line) (ls : List Line) → changed_from zero g ls ≡ map g ls
changed_all_lines g [] = refl
changed_all_lines g (x ∷ xs) = ap (λ (ys : List Line). g x ∷ ys) (changed_all_lines g xs)

-- behind the last line there is none
pub changed_behind : (g : Line → Line) (i : ℕ) (ls : List Line) → length ls ≤ i → changed_from i g ls ≡ ls
changed_behind g i [] few = refl
changed_behind g zero (x ∷ xs) few = absurd (omega (arith, few))
changed_behind g (suc i) (x ∷ xs) few = ap (λ (ys : List Line). x ∷ ys) (changed_behind g i xs (omega (arith, few)))

-- changed lines are as many as before
pub length-changed_from : (i : ℕ) (g : Line → Line) (ls : List Line) → length (changed_from i g ls) ≡ length ls
length-changed_from i g [] = refl
length-changed_from zero g (x ∷ xs) = ap suc (length-changed_from zero g xs)
length-changed_from (suc i) g (x ∷ xs) = ap suc (length-changed_from i g xs)
