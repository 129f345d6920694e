-- What lines hold, changed and looked up.
use Rattle.std.proofs.Common.{◌≡◌, ℕ, ◌+◌, ◌-◌, ◌≤◌, Bool, true, false, cond, not, List, [], ◌∷◌, ◌++◌, length, map, take, Option, Some, None, nat_eq, refl, sym, ap, subst, ◌∙◌, arith, inl, inr, length-append, length-take-le}
use Rattle.std.proofs.Math.Seq.{take-append_seam}
use Rattle.std.specs.Prelude.{Ok, Err, is_some}
use Rattle.std.proofs.lemmas.Bool.{cases_Bool, eqb-true}
use Rattle.mqtt_packet.specs.stream.Front.{first_of}
use Rattle.mqtt_packet.specs.stream.Stream.{Framing, without_last}
use Rattle.mqtt_records.specs.lists.Order.{has_row, remove_row, row_at}
use Rattle.mqtt_rules.specs.step.Piece.{Front, bytes_taken, fed, is_whole, taken_by}
use Rattle.mqtt_broker.specs.engine.Framers.{HeldLine, changed_at, framing_at, framing_of, given_back, line_of}
use Rattle.mqtt_broker.proofs.engine_lemmas.HeldBytes.{nothing_whole}
use Rattle.mqtt_broker.specs.engine.Serving.{ended, has_closed, without_closed}

-- ---- changed twice

-- two changes of what a line holds are one
pub changed_twice : (line : ℕ) (f g : Framing → Framing) (x : Framing) (held : List HeldLine) → framing_at line held ≡ x → changed_at line f (changed_at line g held) ≡ changed_at line (λ y. f (g x)) held
changed_twice line f g x [] e = refl
changed_twice line f g x (h ∷ held) e = elim (cases_Bool (nat_eq h.line line)) [
  | inl here ↦
      let its : h.framing ≡ x = rw here at e in
      rw here (rw here (ap (λ y. let z : HeldLine = record h { framing = f (g y) } in z ∷ held) its))
  | inr other ↦
      let rest : framing_at line held ≡ x = rw other at e in
      rw other (rw other (ap (λ hs. h ∷ hs) (changed_twice line f g x held rest)))
]

-- changed to what it was
pub unchanged : (line : ℕ) (f : Framing → Framing) (held : List HeldLine) → f (framing_at line held) ≡ framing_at line held → changed_at line f held ≡ held
unchanged line f [] e = refl
unchanged line f (h ∷ held) e = elim (cases_Bool (nat_eq h.line line)) [
  | inl here ↦
      let its : f h.framing ≡ h.framing = rw here at e in
      rw here (ap (λ x. let y : HeldLine = record h { framing = x } in y ∷ held) its)
  | inr other ↦
      let rest : f (framing_at line held) ≡ framing_at line held = rw other at e in
      rw other (ap (λ hs. h ∷ hs) (unchanged line f held rest))
]

-- a line that stands holds what the change made
pub framing_changed : (line : ℕ) (f : Framing → Framing) (held : List HeldLine) → has_row line_of line held ≡ true → framing_at line (changed_at line f held) ≡ f (framing_at line held)
framing_changed line f [] e = absurd cc
framing_changed line f (h ∷ held) e = elim (cases_Bool (nat_eq h.line line)) [
  | inl here ↦ rw here (rw here refl)
  | inr other ↦ rw other (rw other (framing_changed line f held (rw other at e)))
]

-- a change of what is held leaves which lines there are
pub same_lines : (line n : ℕ) (f : Framing → Framing) (held : List HeldLine) → has_row line_of n (changed_at line f held) ≡ has_row line_of n held
same_lines line n f [] = refl
same_lines line n f (h ∷ held) = elim (cases_Bool (nat_eq h.line line)) [
  | inl here ↦ rw here (elim (cases_Bool (nat_eq h.line n)) [ inl asked ↦ rw asked refl | inr not_asked ↦ rw not_asked refl ])
  | inr other ↦ rw other (elim (cases_Bool (nat_eq h.line n)) [ inl asked ↦ rw asked refl | inr not_asked ↦ rw not_asked (same_lines line n f held) ])
]

-- and their numbers, in order
pub numbers_stay : (line : ℕ) (f : Framing → Framing) (held : List HeldLine) → map line_of (changed_at line f held) ≡ map line_of held
numbers_stay line f [] = refl
numbers_stay line f (h ∷ held) = elim (cases_Bool (nat_eq h.line line)) [
  | inl here ↦ rw here refl
  | inr other ↦ rw other (ap (λ ns. h.line ∷ ns) (numbers_stay line f held))
]

-- ---- bytes that are given back

within_by : (held come : ℕ) (r : Front) → taken_by held come r ≤ come
within_by held come (Ok x) = omega arith
within_by held come (Err fault) = omega arith

-- no more bytes are taken than came
pub taken_within : (held piece : List ℕ) → bytes_taken held piece ≤ length piece
taken_within held piece = within_by (length held) (length piece) (first_of held)

front_back : (xs ys : List ℕ) → without_last (length ys) (xs ++ ys) ≡ xs
front_back xs ys = ap (λ n. take n (xs ++ ys)) (ap (λ n. n - length ys) (length-append xs ys) ∙ less) ∙ take-append_seam xs ys
  where
    less : length xs + length ys - length ys ≡ length xs
    less = omega arith

-- if what was taken is given back, it holds what it held
pub back : (piece : List ℕ) (f : Framing) → given_back (bytes_taken f.held piece) (fed piece f) ≡ f
back piece f =
    let n = bytes_taken f.held piece in
    let size : length (take n piece) ≡ n = length-take-le n piece (taken_within f.held piece) in
    ap (λ (bytes : List ℕ). let x : Framing = record f { held = bytes } in x)
    (subst (λ (k : ℕ). without_last k (f.held ++ take n piece) ≡ f.held) size (front_back f.held (take n piece)))

-- it holds at least what was taken
pub fed_long : (piece : List ℕ) (f : Framing) → bytes_taken f.held piece ≤ length (fed piece f).held
fed_long piece f =
    let n = bytes_taken f.held piece in
    let size : length (take n piece) ≡ n = length-take-le n piece (taken_within f.held piece) in
    let all = length-append f.held (take n piece) in
    omega (arith, size, all)

-- ---- what is left after lines closed

left_at : (closed : List ℕ) (line : ℕ) (held : List HeldLine) → row_at line_of line (without_closed closed held) ≡ cond (has_closed closed line) None (row_at line_of line held)
left_at closed line [] = elim (cases_Bool (has_closed closed line)) [ inl gone ↦ rw gone refl | inr stays ↦ rw stays refl ]
left_at closed line (h ∷ held) = elim (cases_Bool (nat_eq h.line line)) [
  | inl here ↦
      let is : h.line ≡ line = eqb-true h.line line here in
      elim (cases_Bool (has_closed closed line)) [
        | inl gone ↦ let its : has_closed closed h.line ≡ true = ap (has_closed closed) is ∙ gone in rw (its, gone) (left_at closed line held ∙ rw gone refl)
        | inr stays ↦ let its : has_closed closed h.line ≡ false = ap (has_closed closed) is ∙ stays in rw (its, stays, here) refl
      ]
  | inr other ↦ elim (cases_Bool (has_closed closed h.line)) [
    | inl gone ↦ rw (gone, other) (left_at closed line held)
    | inr stays ↦ rw (stays, other) (left_at closed line held)
  ]
]

-- a line that stands holds what it held, and one that closed nothing that is whole
pub whole_left : (closed : List ℕ) (line : ℕ) (held : List HeldLine) (t : Bool) → has_row line_of line (without_closed closed held) ≡ t
    → is_whole (first_of (framing_at line (without_closed closed held)).held) ≡ cond t (is_whole (first_of (framing_at line held).held)) false
whole_left closed line held t e = by (has_closed closed line) refl t e
  where
    whole : Option HeldLine → Bool
    whole o = is_whole (first_of (framing_of o).held)

    by : (c : Bool) → has_closed closed line ≡ c → (t : Bool) → has_row line_of line (without_closed closed held) ≡ t → whole (row_at line_of line (without_closed closed held)) ≡ cond t (whole (row_at line_of line held)) false
    by true is true e = let none : row_at line_of line (without_closed closed held) ≡ None = left_at closed line held ∙ ap (λ (x : Bool). cond x None (row_at line_of line held)) is in let no : false ≡ true = ap is_some (sym none) ∙ e in absurd cc
    by true is false e = let none : row_at line_of line (without_closed closed held) ≡ None = left_at closed line held ∙ ap (λ (x : Bool). cond x None (row_at line_of line held)) is in ap whole none ∙ sym nothing_whole
    by false is true e = ap whole (left_at closed line held ∙ ap (λ (x : Bool). cond x None (row_at line_of line held)) is)
    by false is false e = none (row_at line_of line (without_closed closed held)) e
      where
        none : (o : Option HeldLine) → is_some o ≡ false → whole o ≡ false
        none None e = sym nothing_whole
        none (Some h) e = absurd cc

-- the lines that an answer tells closed
pub left_by : (closed items : List ℕ) (held rest : List HeldLine) → rest ≡ without_closed closed held → closed ≡ items → rest ≡ without_closed items held
left_by closed items held rest e same = e ∙ ap (λ (ns : List ℕ). without_closed ns held) same

-- ---- lines that close, one after the other

one_ended : (n : ℕ) (closed : List ℕ) (held : List HeldLine) → without_closed closed (remove_row line_of n held) ≡ without_closed (n ∷ closed) held
one_ended n closed [] = refl
one_ended n closed (h ∷ held) = elim (cases_Bool (nat_eq h.line n)) [
  | inl here ↦ rw here (one_ended n closed held)
  | inr other ↦ rw other (ap (λ hs. cond (not (has_closed closed h.line)) (h ∷ hs) hs) (one_ended n closed held))
]

-- if no line closed, all stay
pub none_ended : (held : List HeldLine) → without_closed [] held ≡ held
none_ended [] = refl
none_ended (h ∷ held) = ap (λ hs. h ∷ hs) (none_ended held)

-- lines that end one after the other are gone as if they ended at once
pub ended_is : (closed : List ℕ) (held : List HeldLine) → ended closed held ≡ without_closed closed held
ended_is [] held = sym (none_ended held)
ended_is (n ∷ closed) held = ended_is closed (remove_row line_of n held) ∙ one_ended n closed held
