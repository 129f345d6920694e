-- What the deeds of a line make of a step.
use Rattle.std.proofs.Common.{◌≡◌, ℕ, Bool, cond, List, [], ◌∷◌, nat_eq, refl, ap, ap₂, sym, ◌∙◌, append-nil, inl, inr}
use Rattle.std.specs.Prelude.{Some, None}
use Rattle.std.proofs.lemmas.Bool.{cases_Bool}
use Rattle.mqtt_records.specs.lists.Order.{row_at, change_row, remove_row}
use Rattle.mqtt_rules.specs.step.State.{Line, Telling, Broker, told_line}
use Rattle.mqtt_rules.specs.step.Deeds.{LinePart, Gone, Greet, On, always, greeted, on_line, line_after, told_part}
use Rattle.mqtt_broker_step.specs.declared.line.LineChange.{LineChange}
use Rattle.mqtt_broker_step.specs.Lines.{line_changed, line_number}
use Rattle.mqtt_broker_step.specs.Undoing.{Changing, become, with_lines, with_line_changed, with_tellings}
use Rattle.mqtt_broker_step.specs.Stepping.{Stepping, did, Did, shut, with_broker}
use Rattle.mqtt_broker_step.proofs.Doing.{same_parts}

-- the line that was found is changed as the rules have it
pub on_line_found : (moment n : ℕ) (part : LinePart) (change : LineChange) (l : Line) (ls : List Line) → row_at line_number n ls ≡ Some l
    → line_changed change l ≡ line_after moment part l → change_row line_number n (line_changed change) ls ≡ on_line moment n part ls
on_line_found moment n part change l [] found is = absurd cc
on_line_found moment n part change l (x ∷ xs) found is = elim (cases_Bool (nat_eq x.number n)) [
  | inl here ↦
      let first : Some x ≡ Some l = ap (λ (b : Bool). cond b (Some x) (row_at line_number n xs)) (sym here) ∙ found in
      let same : x ≡ l = cc in
      let as_found : line_changed change x ≡ line_after moment part x =
      ap (line_changed change) same ∙ (is ∙ ap (line_after moment part) (sym same)) in
      rw here (ap (λ (y : Line). y ∷ xs) as_found)
  | inr later ↦
      let there : row_at line_number n xs ≡ Some l = ap (λ (b : Bool). cond b (Some x) (row_at line_number n xs)) (sym later) ∙ found in
      rw later (ap (λ (ys : List Line). x ∷ ys) (on_line_found moment n part change l xs there is))
]

-- if none is found the lines stay
pub on_line_none : (moment n : ℕ) (part : LinePart) (ls : List Line) → row_at line_number n ls ≡ None → on_line moment n part ls ≡ ls
on_line_none moment n part [] none = refl
on_line_none moment n part (x ∷ xs) none = elim (cases_Bool (nat_eq x.number n)) [
  | inl here ↦
      let first : Some x ≡ None = ap (λ (b : Bool). cond b (Some x) (row_at line_number n xs)) (sym here) ∙ none in
      absurd cc
  | inr later ↦
      let there : row_at line_number n xs ≡ None = ap (λ (b : Bool). cond b (Some x) (row_at line_number n xs)) (sym later) ∙ none in
      rw later (ap (λ (ys : List Line). x ∷ ys) (on_line_none moment n part xs there))
]

-- a deed of a line tells its client nothing of topics
abbrev pub IsUntelling : ℕ → LinePart → Stepping → Type 0
IsUntelling n part s = told_part n part s.broker.tellings ≡ s.broker.tellings

did_lines : (n : ℕ) (part : LinePart) (ls : List Line) (s : Stepping) → IsUntelling n part s → ls ≡ on_line s.broker.now n part s.broker.lines
    → with_broker (with_lines ls s.broker) s ≡ did (On n part ∷ []) s
did_lines n part ls s untold is = same_parts s
    (ap₂ (λ (xs : List Line) (ts : List Telling). let b : Broker = record s.broker { lines = xs; tellings = ts } in b) is (sym untold))
    (sym (append-nil s.rows)) (sym (append-nil s.outputs)) (sym (append-nil s.closed)) (sym (append-nil s.reports))

-- a deed of a line that stands is done by changing that line as the rules have it
pub on_ok_line : (n : ℕ) (part : LinePart) (change : LineChange) (l : Line) (s new : Stepping) → IsUntelling n part s → row_at line_number n s.broker.lines ≡ Some l
    → line_changed change l ≡ line_after s.broker.now part l → new ≡ with_broker (with_line_changed n change s.broker) s
    → Did (always (On n part ∷ [])) s new
on_ok_line n part change l s new untold found is changed = record {
  is = changed ∙ did_lines n part (change_row line_number n (line_changed change) s.broker.lines) s untold
      (on_line_found s.broker.now n part change l s.broker.lines found is);
}

-- a deed of a line that doesn't stand does nothing
pub on_no_line : (n : ℕ) (part : LinePart) (s : Stepping) → IsUntelling n part s → row_at line_number n s.broker.lines ≡ None → Did (always (On n part ∷ [])) s s
on_no_line n part s untold none = record { is = did_lines n part s.broker.lines s untold (sym (on_line_none s.broker.now n part s.broker.lines none)) }

-- a line changed as its deed has it
on_line_is : (moment n : ℕ) (part : LinePart) (ls : List Line) → change_row line_number n (line_after moment part) ls ≡ on_line moment n part ls
on_line_is moment n part [] = refl
on_line_is moment n part (x ∷ xs) = ap (λ (ys : List Line). cond (nat_eq x.number n) (line_after moment part x ∷ xs) (x ∷ ys)) (on_line_is moment n part xs)

-- a deed of a line is done by changing the line with its number as the rules have it, whether one stands or not
pub on_line_ok : (n : ℕ) (part : LinePart) (s new : Stepping) → IsUntelling n part s
    → new ≡ with_broker (with_lines (change_row line_number n (line_after s.broker.now part) s.broker.lines) s.broker) s
    → Did (always (On n part ∷ [])) s new
on_line_ok n part s new untold changed = record {
  is = changed ∙ did_lines n part (change_row line_number n (line_after s.broker.now part) s.broker.lines) s untold (on_line_is s.broker.now n part s.broker.lines);
}

-- a client is greeted by what it may be told, and then by its line
pub greeted_ok : (n birth keep_alive window largest most : ℕ) (s mid new : Stepping) → mid ≡ with_broker (with_tellings (greeted n most s.broker.tellings) s.broker) s
    → new ≡ with_broker (with_lines (on_line mid.broker.now n (Greet birth keep_alive window largest most) mid.broker.lines) mid.broker) mid
    → Did (always (On n (Greet birth keep_alive window largest most) ∷ [])) s new
greeted_ok n birth keep_alive window largest most s mid new told joined = record {
  is = joined
      ∙ (ap (λ (x : Stepping). with_broker (with_lines (on_line x.broker.now n (Greet birth keep_alive window largest most) x.broker.lines) x.broker) x) told
      ∙ same_parts s refl (sym (append-nil s.rows)) (sym (append-nil s.outputs)) (sym (append-nil s.closed)) (sym (append-nil s.reports)));
}

-- a line is gone once it is out of the table, what its client was told with it, and it is told as closed
pub gone_did : (n : ℕ) (s new : Stepping) (lined untold : Changing)
    → lined ≡ become (with_lines (remove_row line_number n s.broker.lines) s.broker) (record { start = s.start; broker = s.broker })
    → untold ≡ become (with_tellings (remove_row told_line n lined.broker.tellings) lined.broker) lined
    → new ≡ shut n (record s { start = untold.start; broker = untold.broker }) → Did (always (Gone n ∷ [])) s new
gone_did n s new lined untold one two made = record {
  is = made
      ∙ (ap (λ (t : Changing). shut n (record s { start = t.start; broker = t.broker }))
      (two ∙ ap (λ (t : Changing). become (with_tellings (remove_row told_line n t.broker.tellings) t.broker) t) one)
      ∙ same_parts s refl (sym (append-nil s.rows)) (sym (append-nil s.outputs)) refl (sym (append-nil s.reports)));
}
