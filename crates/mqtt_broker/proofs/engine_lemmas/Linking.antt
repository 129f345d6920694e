-- A line that is linked gets the next number, and comes last among those that hold bytes.
use Rattle.std.proofs.Common.{◌≡◌, ℕ, suc, ◌<◌, Bool, true, false, cond, List, [], ◌∷◌, ◌++◌, length, map, Some, None, nat_lt, refl, sym, ap, subst, ◌∙◌, arith}
use Rattle.std.proofs.lemmas.List.{length-map}
use Rattle.std.specs.Prelude.{◌&&◌}
use Rattle.mqtt_base.specs.declared.limits.TheConstants.{LINE_LIMIT, LAST_NUMBER}
use Rattle.mqtt_records.specs.lists.Order.{IsBelow, put_row}
use Rattle.mqtt_records.proofs.lists_lemmas.LookUps.{put_row-last}
use Rattle.mqtt_rules.specs.declared.step.Capacity.{Capacity}
use Rattle.mqtt_rules.specs.step.Deeds.{Link, fresh_line}
use Rattle.mqtt_rules.specs.step.Lines.{line_number}
use Rattle.mqtt_rules.specs.step.State.{Line, Broker}
use Rattle.mqtt_rules.specs.step.Step.{NewLine, Outcome, BrokerStep, at_moment, can_link, done, takes_line}
use Rattle.mqtt_broker.specs.engine.Framers.{HeldLine, begun, line_of}
use Rattle.mqtt_broker_step.specs.Doing.{next_line}
use Rattle.mqtt_broker_step.proofs.Links.{few_lines}
use Rattle.mqtt_broker.specs.engine.Serving.{IsOfLines, with_linked}

below_last : (n : ℕ) (held : List HeldLine) → IsBelow line_of n held → IsBelow line_of (suc n) (held ++ begun n ∷ [])
below_last n [] low = (omega arith, tt)
below_last n (h ∷ held) low = let less = low.0 in (omega (arith, less), below_last n held low.1)

numbers_last : (n now : ℕ) (held : List HeldLine) (ls : List Line) → map line_of held ≡ map line_number ls → map line_of (held ++ begun n ∷ []) ≡ map line_number (ls ++ fresh_line n now ∷ [])
numbers_last n now [] [] e = refl
numbers_last n now [] (l ∷ ls) e = absurd cc
numbers_last n now (h ∷ held) [] e = absurd cc
numbers_last n now (h ∷ held) (l ∷ ls) e =
    let first : h.line ≡ l.number = cc in
    let more : map line_of held ≡ map line_number ls = cc in
    rw first (ap (λ ns. l.number ∷ ns) (numbers_last n now held ls more))

-- what a link makes of them, if there is one
linked_by : (t : Bool) (now : ℕ) (b : Broker) (held : List HeldLine) → IsOfLines held b
    → IsOfLines (with_linked (cond t (Some (suc b.given)) None) held) (done (cond t (Link (suc b.given) ∷ []) []) (at_moment now b))
linked_by false now b held h = record { linked = h.linked; given = h.given }
linked_by true now b held h = record {
  linked = numbers_last (suc b.given) (at_moment now b).now held b.lines h.linked;
  given = below_last (suc b.given) held h.given;
}

-- when a line is linked the lines that hold bytes are those that are linked
pub of_lines_link : (limits : Capacity) (old : Broker) (now : ℕ) (out : Outcome) (new : Broker) (held : List HeldLine)
    → BrokerStep limits old now NewLine out new → IsOfLines held old → IsOfLines (with_linked (next_line limits old) held) new
of_lines_link limits old now out new held s h =
    subst (λ (b : Broker). IsOfLines (with_linked (next_line limits old) held) b) (sym s.new_is) (linked_by (can_link limits old) now old held h)

both_true : (x y : Bool) → (x && y) ≡ true → x ≡ true
both_true true y h = refl
both_true false y h = absurd cc

room_by : (t : Bool) (n k : ℕ) → cond t (Some n) None ≡ Some k → t ≡ true
room_by true n k e = refl
room_by false n k e = absurd cc

number_by : (t : Bool) (n k : ℕ) → cond t (Some n) None ≡ Some k → k ≡ n
number_by true n k e = cc
number_by false n k e = absurd cc

-- it is put behind all others
pub linked_row : (limits : Capacity) (n : ℕ) (b : Broker) (held : List HeldLine) → next_line limits b ≡ Some n → IsOfLines held b → put_row line_of LINE_LIMIT (begun n) held ≡ held ++ begun n ∷ []
linked_row limits n b held next h =
    let can : can_link limits b ≡ true = room_by (can_link limits b) (suc b.given) n next in
    let is : n ≡ suc b.given = number_by (can_link limits b) (suc b.given) n next in
    let few : length b.lines < LINE_LIMIT = few_lines limits (length b.lines) (both_true (takes_line limits (length b.lines)) (nat_lt b.given LAST_NUMBER) can) in
    let same : length held ≡ length b.lines = sym (length-map held line_of) ∙ ap length h.linked ∙ length-map b.lines line_number in
    put_row-last line_of LINE_LIMIT (begun n) held (subst (λ (k : ℕ). IsBelow line_of k held) (sym is) h.given) (omega (arith, few, same))
