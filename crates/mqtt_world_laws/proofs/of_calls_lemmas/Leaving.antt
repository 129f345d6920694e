-- What calls leave: it may be opened, and what is stored after calls on that may be again; and a moment that comes alone (MQTT 5.0, 4.1).
use Rattle.std.proofs.Common.{◌≡◌, ℕ, suc, true, false, List, [], ◌∷◌, ◌++◌, Option, None, nat_eq, refl, sym, ap, subst, ◌∙◌, arith}
use Rattle.std.specs.Prelude.{find}
use Rattle.mqtt_records.specs.declared.state.records.Records.{Records}
use Rattle.mqtt_records.specs.lists.Order.{IsBelow}
use Rattle.mqtt_records.proofs.lists_lemmas.OrderLemmas.{apart}
use Rattle.mqtt_rules.specs.declared.step.Capacity.{Capacity}
use Rattle.mqtt_rules.specs.step.Closing.{close}
use Rattle.mqtt_rules.specs.step.Deeds.{Deed, with_line}
use Rattle.mqtt_rules.specs.step.Laws.{AreWithin, Event, Reopened, after_event, after_events, blank}
use Rattle.mqtt_rules.specs.step.Lines.{line_number}
use Rattle.mqtt_rules.specs.step.State.{Broker, Line, MemberChoice, stored}
use Rattle.mqtt_rules.specs.step.Step.{Call, Lost, at_moment, deeds, done, env_of, is_opening_spent, is_spent, opened, rows_written}
use Rattle.mqtt_world_laws.specs.of_calls.Calls.{BeginsInOrder, IsLeftByCalls, IsMomentAlone, SpendNone}
use Rattle.mqtt_world_laws.proofs.of_calls_lemmas.Ending.{still_in_order}
use Rattle.mqtt_world_laws.proofs.of_calls_lemmas.Keeping.{blank_in_order}

-- ---- some events, and then others

after_both : (xs ys : List Event) (b : Broker) → after_events (xs ++ ys) b ≡ after_events ys (after_events xs b)
after_both [] ys b = refl
after_both (x ∷ xs) ys b = after_both xs ys (after_event x b)

spend_both : (xs ys : List Event) (b : Broker) → SpendNone xs b → SpendNone ys (after_events xs b) → SpendNone (xs ++ ys) b
spend_both [] ys b p q = q
spend_both (x ∷ xs) ys b p q = (p.0, spend_both xs ys (after_event x b) p.1 q)

-- ---- what was left

module _ (limits : Capacity) (choice : MemberChoice) (now : ℕ) (r : Records) (left : IsLeftByCalls r) (within : AreWithin limits) (unspent : is_opening_spent limits choice now r ≡ false) where
  abbrev before : Broker
  before = after_events left.events blank

  again : is_opening_spent limits choice now (stored before) ≡ false
  again = subst (λ (q : Records). is_opening_spent limits choice now q ≡ false) (sym left.is) unspent

  -- it may be opened
  pub left_opens : BeginsInOrder (opened limits choice now r)
  left_opens =
      subst (λ (q : Records). BeginsInOrder (opened limits choice now q)) left.is
      (still_in_order (Reopened limits choice now ∷ []) before (still_in_order left.events blank blank_in_order left.fair) ((within, again), tt))

  -- and what is stored after calls on it is left so too
  pub left_again : (es : List Event) → SpendNone es (opened limits choice now r) → IsLeftByCalls (stored (after_events es (opened limits choice now r)))
  left_again es fair = record {
    events = left.events ++ Reopened limits choice now ∷ es;
    fair = spend_both left.events (Reopened limits choice now ∷ es) blank left.fair ((within, again), subst (λ (q : Records). SpendNone es (opened limits choice now q)) (sym left.is) fair);
    is = ap stored (after_both left.events (Reopened limits choice now ∷ es) blank) ∙ ap (λ (q : Records). stored (after_events es (opened limits choice now q))) left.is;
  }

-- ---- a moment alone

no_line : (n : ℕ) (ls : List Line) → IsBelow line_number n ls → find (λ (l : Line). nat_eq l.number n) ls ≡ None
no_line n [] h = refl
no_line n (l ∷ ls) h =
    let less = h.0 in
    let other : nat_eq l.number n ≡ false = apart l.number n (λ same. omega (arith, same, less)) in
    rw other (no_line n ls h.1)

-- it is the loss of a line that was not given yet
pub moment_alone : (limits : Capacity) (choice : MemberChoice) (now : ℕ) (b : Broker) → BeginsInOrder b → (call : Call) × IsMomentAlone limits choice now call b
moment_alone limits choice now b h = (Lost n, record { nothing = none_done; unspent = ap (λ (ds : List Deed). is_spent (rows_written ds (at_moment now b))) none_done; moment = ap (λ (ds : List Deed). done ds (at_moment now b)) none_done })
  where
    n : ℕ
    n = suc b.given

    none_done : deeds limits choice now (Lost n) b ≡ []
    none_done = ap (λ (o : Option Line). with_line o (close (env_of limits choice b) true) (at_moment now b)) (no_line n b.lines h.steady.lines.given)
