-- No more lines stand than are asked for.
use Rattle.std.proofs.Common.{◌≡◌, ℕ, ◌≤◌, suc, Bool, true, false, cond, not, List, [], ◌∷◌, ◌++◌, length, map, nat_lt, refl, sym, ap, ◌∙◌, inl, inr, arith}
use Rattle.std.specs.Prelude.{◌&&◌}
use Rattle.std.proofs.lemmas.Bool.{cases_Bool, ltb-true}
use Rattle.std.proofs.lemmas.List.{length-map}
use Rattle.mqtt_base.specs.declared.limits.TheConstants.{LAST_NUMBER, LINE_LIMIT}
use Rattle.mqtt_records.specs.declared.state.records.Records.{Records}
use Rattle.mqtt_rules.specs.declared.step.Capacity.{Capacity}
use Rattle.mqtt_rules.specs.step.Deeds.{Deed, Link, after_all, fresh_line, rows_of_all}
use Rattle.mqtt_rules.specs.step.Lines.{line_number}
use Rattle.mqtt_rules.specs.step.State.{Line, Broker, MemberChoice}
use Rattle.mqtt_rules.specs.step.Step.{Call, NewLine, Input, BadInput, Lost, Pump, Tick, at_moment, can_link, done, env_of, opened, opening_deeds, stepped, takes_line, told, unopened}
use Rattle.mqtt_broker.specs.engine.Serving.{has_closed}
use Rattle.mqtt_broker.proofs.engine_lemmas.Left.{left, moment_lines, numbers_all, step_numbers}
use Rattle.mqtt_broker.proofs.engine_lemmas.Unlinked.{IsOld, un_opening}

-- a list isn't longer with some left out
left_fewer : (closed ns : List ℕ) → length (left closed ns) ≤ length ns
left_fewer closed [] = omega arith
left_fewer closed (n ∷ ns) = elim (cases_Bool (not (has_closed closed n))) [
  | inl stays ↦ let rest = left_fewer closed ns in rw stays (omega (arith, rest))
  | inr goes ↦ let rest = left_fewer closed ns in rw goes (omega (arith, rest))
]

-- a call that links no line leaves no more than there were
old_few : (limits : Capacity) (choice : MemberChoice) (now : ℕ) (call : Call) (b : Broker) → IsOld call → length (stepped limits choice now call b).lines ≤ length b.lines
old_few limits choice now call b old =
    let same : length (stepped limits choice now call b).lines ≡ length (left (told limits choice now call b).closed (map line_number b.lines)) =
    sym (length-map (stepped limits choice now call b).lines line_number) ∙ ap length (step_numbers limits choice now call b old) in
    let less = left_fewer (told limits choice now call b).closed (map line_number b.lines) in
    let before = length-map b.lines line_number in
    omega (arith, same, less, before)

-- one more stands with a new line
one_more : (n now : ℕ) (ls : List Line) → length (ls ++ fresh_line n now ∷ []) ≡ suc (length ls)
one_more n now [] = refl
one_more n now (l ∷ ls) = ap suc (one_more n now ls)

asked : (x y : Bool) → (x && y) ≡ true → x ≡ true
asked true y e = refl
asked false y e = absurd cc

-- which there is while fewer stand than are asked for
link_few : (limits : Capacity) (choice : MemberChoice) (now : ℕ) (b : Broker) → length b.lines ≤ limits.lines → length (stepped limits choice now NewLine b).lines ≤ limits.lines
link_few limits choice now b few = by (can_link limits b) refl
  where
    ds : Bool → List Deed
    ds may = cond may (Link (suc b.given) ∷ []) []

    by : (may : Bool) → can_link limits b ≡ may → length (done (ds may) (at_moment now b)).lines ≤ limits.lines
    by true may =
        let room = asked (nat_lt (length b.lines) limits.lines) (nat_lt (length b.lines) LINE_LIMIT) (asked (takes_line limits (length b.lines)) (nat_lt b.given LAST_NUMBER) may) in
        let less = ltb-true (length b.lines) limits.lines room in
        let more = one_more (suc b.given) (at_moment now b).now b.lines in
        omega (arith, less, more)
    by false may = few

-- so a step that finds no more lines than are asked for leaves no more
pub step_few : (limits : Capacity) (choice : MemberChoice) (now : ℕ) (call : Call) (b : Broker) → length b.lines ≤ limits.lines → length (stepped limits choice now call b).lines ≤ limits.lines
step_few limits choice now NewLine b few = link_few limits choice now b few
step_few limits choice now (Input n packet) b few = let less = old_few limits choice now (Input n packet) b tt in omega (arith, few, less)
step_few limits choice now (BadInput n is_connect code) b few = let less = old_few limits choice now (BadInput n is_connect code) b tt in omega (arith, few, less)
step_few limits choice now (Lost n) b few = let less = old_few limits choice now (Lost n) b tt in omega (arith, few, less)
step_few limits choice now (Pump n) b few = let less = old_few limits choice now (Pump n) b tt in omega (arith, few, less)
step_few limits choice now Tick b few = let less = old_few limits choice now Tick b tt in omega (arith, few, less)

-- and none stands behind an opening
pub opened_none : (limits : Capacity) (choice : MemberChoice) (now : ℕ) (r : Records) → length (opened limits choice now r).lines ≡ 0
opened_none limits choice now r =
    let b = unopened now r in
    let ds = opening_deeds limits choice now r in
    sym (length-map (opened limits choice now r).lines line_number)
    ∙ ap length (ap (map line_number) (moment_lines (rows_of_all ds b.records) (after_all ds b)) ∙ numbers_all ds b (un_opening (env_of limits choice b) b))
