-- A line that is linked stands behind the others.
use Rattle.std.proofs.Common.{◌≡◌, ℕ, ◌<◌, Bool, true, false, cond, ◌&&◌, suc, List, [], ◌∷◌, length, nat_lt, refl, ap, sym, ◌∙◌}
use Rattle.std.specs.Prelude.{Some, None}
use Rattle.std.proofs.lemmas.Bool.{ltb-true}
use Rattle.mqtt_base.specs.declared.limits.TheConstants.{LINE_LIMIT, LAST_NUMBER}
use Rattle.mqtt_records.specs.lists.Order.{IsBelow}
use Rattle.mqtt_records.proofs.lists_lemmas.LookUps.{put_row-last}
use Rattle.mqtt_rules.specs.declared.step.Capacity.{Capacity}
use Rattle.mqtt_rules.specs.step.State.{Line, Broker}
use Rattle.mqtt_rules.specs.step.Deeds.{Deed, Link, fresh_line, after_all}
use Rattle.mqtt_rules.specs.step.Step.{can_link, takes_line}
use Rattle.mqtt_broker_step.specs.Lines.{line_number}
use Rattle.mqtt_broker_step.specs.Undoing.{with_linked}
use Rattle.mqtt_broker_step.specs.Doing.{links, next_line, after_act}

taken : (x : Bool) (n m : ℕ) → cond x (Some n) None ≡ Some m → (x ≡ true) × (n ≡ m)
taken true n m e = (refl, cc)
taken false n m e = absurd cc

refused : (x : Bool) (n : ℕ) → cond x (Some n) None ≡ None → x ≡ false
refused true n e = absurd cc
refused false n e = refl

both : (x y : Bool) → (x && y) ≡ true → x ≡ true
both true y e = refl
both false y e = absurd cc

-- where a line more may stand, fewer stand than the tables hold
pub few_lines : (limits : Capacity) (n : ℕ) → takes_line limits n ≡ true → n < LINE_LIMIT
few_lines limits n is = ltb-true n LINE_LIMIT (second (nat_lt n limits.lines) (nat_lt n LINE_LIMIT) is)
  where
    second : (x y : Bool) → (x && y) ≡ true → y ≡ true
    second true y e = e
    second false y e = absurd cc

-- to put a fresh line with the next number behind the others is the rules' linking, if a line may be linked
pub linked_is : (limits : Capacity) (b : Broker) (n : ℕ) → IsBelow line_number (suc b.given) b.lines → next_line limits b ≡ Some n
    → with_linked (fresh_line n b.now) b ≡ after_act (links limits) b
linked_is limits b n below is =
    let may = taken (can_link limits b) (suc b.given) n is in
    let act : links limits b ≡ Link (suc b.given) ∷ [] = ap (λ (x : Bool). let ds : List Deed = cond x (Link (suc b.given) ∷ []) [] in ds) may.0 in
    let room : length b.lines < LINE_LIMIT = few_lines limits (length b.lines) (both (takes_line limits (length b.lines)) (nat_lt b.given LAST_NUMBER) may.0) in
    ap (λ k. with_linked (fresh_line k b.now) b) (sym may.1)
    ∙ (ap (λ (ls : List Line). let x : Broker = record b { lines = ls; given = suc b.given } in x)
    (put_row-last line_number LINE_LIMIT (fresh_line (suc b.given) b.now) b.lines below room)
    ∙ ap (λ ds. after_all ds b) (sym act))

-- if no line may be linked, the rules' linking changes nothing
pub none_linked : (limits : Capacity) (b : Broker) → next_line limits b ≡ None → b ≡ after_act (links limits) b
none_linked limits b is =
    ap (λ (x : Bool). after_all (cond x (Link (suc b.given) ∷ []) []) b) (sym (refused (can_link limits b) (suc b.given) is))
