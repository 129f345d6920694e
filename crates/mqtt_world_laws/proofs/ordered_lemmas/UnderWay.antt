-- Of two messages of a publisher: which PUBLISH goes first where both are under way, and which waits to go out again (MQTT 5.0, 4.4, 4.6).
use Rattle.std.proofs.Common.{◌≡◌, ◌⊎◌, ℕ, zero, suc, ◌+◌, ◌<◌, ◌≤◌, Bool, true, false, ◌||◌, List, [], ◌∷◌, ◌++◌, length, map, Option, Some, None, nat_eq, refl, ap, ◌∙◌, arith, inl, inr}
use Rattle.std.specs.Prelude.{⊤}
use Rattle.std.specs.List.{list_any}
use Rattle.std.proofs.lemmas.Bool.{cases_Bool}
use Rattle.std.proofs.lemmas.Cmp.{nat_eq_equiv}
use Rattle.mqtt_records.proofs.lists_lemmas.OrderLemmas.{apart}
use Rattle.mqtt_flow.specs.inbound.Line.{live}
use Rattle.mqtt_flow.specs.inbound.Publisher.{Fate, sent_1, ended_1, sent, released, ended, resent_from}
use Rattle.mqtt_rules.specs.step.State.{Broker}
use Rattle.mqtt_world_model.specs.model.Ends.{Publisher, Sent, message_in, shake}
use Rattle.mqtt_world_model.specs.model.Lines.{stands}

-- ---- PUBLISH of a message under way

abbrev pub is_number : ℕ → Option ℕ → Bool
is_number m None = false
is_number m (Some k) = nat_eq k m

abbrev pub is_publish_of : ℕ → Sent → Bool
is_publish_of m x = is_number m (message_in x)

abbrev pub has_publish : ℕ → List Sent → Bool
has_publish m xs = list_any (is_publish_of m) xs

-- none of the second goes before the first one of the first
abbrev pub GoesFirst : ℕ → ℕ → List Sent → Type 0
GoesFirst m n [] = ⊤
GoesFirst m n (x ∷ xs) = (is_publish_of m x ≡ true) ⊎ ((is_publish_of n x ≡ false) × GoesFirst m n xs)

or_right : (a b : Bool) → b ≡ true → (a || b) ≡ true
or_right true b h = refl
or_right false b h = h

-- one of two that is
pub or_left : (a b : Bool) → a ≡ true → (a || b) ≡ true
or_left true b h = refl
or_left false b h = absurd cc

-- of two that are not neither is
pub neither : (a b : Bool) → a ≡ false → b ≡ false → (a || b) ≡ false
neither true b h g = absurd cc
neither false b h g = g

-- neither of two that are not
pub both_false : (a b : Bool) → (a || b) ≡ false → (a ≡ false) × (b ≡ false)
both_false true b h = absurd cc
both_false false b h = (refl, h)

-- what is in a list is in a longer one
pub has_more : (m : ℕ) (xs ys : List Sent) → has_publish m xs ≡ true → has_publish m (xs ++ ys) ≡ true
has_more m [] ys h = absurd cc
has_more m (x ∷ xs) ys h = elim (cases_Bool (is_publish_of m x)) [
  | inl its ↦ rw its refl
  | inr other ↦ rw other (has_more m xs ys (rw other at h))
]

-- also what is in the rest of it
pub has_behind : (m : ℕ) (xs ys : List Sent) → has_publish m ys ≡ true → has_publish m (xs ++ ys) ≡ true
has_behind m [] ys h = h
has_behind m (x ∷ xs) ys h = or_right (is_publish_of m x) (has_publish m (xs ++ ys)) (has_behind m xs ys h)

-- what is in neither is not in both
pub has_neither : (m : ℕ) (xs ys : List Sent) → has_publish m xs ≡ false → has_publish m ys ≡ false → has_publish m (xs ++ ys) ≡ false
has_neither m [] ys p q = q
has_neither m (x ∷ xs) ys p q =
    let both = both_false (is_publish_of m x) (has_publish m xs) p in
    neither (is_publish_of m x) (has_publish m (xs ++ ys)) both.0 (has_neither m xs ys both.1 q)

-- it goes first in both if it does in each
pub first_append : (m n : ℕ) (xs ys : List Sent) → GoesFirst m n xs → GoesFirst m n ys → GoesFirst m n (xs ++ ys)
first_append m n [] ys p q = q
first_append m n (x ∷ xs) ys (inl is) q = inl is
first_append m n (x ∷ xs) ys (inr h) q = inr (h.0, first_append m n xs ys h.1 q)

-- whatever comes behind one that is there
pub first_there : (m n : ℕ) (xs ys : List Sent) → GoesFirst m n xs → has_publish m xs ≡ true → GoesFirst m n (xs ++ ys)
first_there m n [] ys p h = absurd cc
first_there m n (x ∷ xs) ys (inl is) h = inl is
first_there m n (x ∷ xs) ys (inr p) h = elim (cases_Bool (is_publish_of m x)) [
  | inl its ↦ inl its
  | inr other ↦ inr (p.0, first_there m n xs ys p.1 (rw other at h))
]

-- where there is none of the second
pub first_none : (m n : ℕ) (xs : List Sent) → has_publish n xs ≡ false → GoesFirst m n xs
first_none m n [] h = tt
first_none m n (x ∷ xs) h = let both = both_false (is_publish_of n x) (has_publish n xs) h in inr (both.0, first_none m n xs both.1)

-- ---- messages that go out again with a resumed session

abbrev pub is_unanswered : Fate → Bool
is_unanswered (sent_1 id) = true
is_unanswered (ended_1 by) = false
is_unanswered (sent id) = true
is_unanswered (released id) = false
is_unanswered (ended by) = false

-- the message of this number went out and was not answered
abbrev pub waits : ℕ → List Fate → Bool
waits m [] = false
waits zero (f ∷ fs) = is_unanswered f
waits (suc m) (f ∷ fs) = waits m fs

-- of the messages before more
pub waits_before : (m : ℕ) (fs gs : List Fate) → m < length fs → waits m (fs ++ gs) ≡ waits m fs
waits_before m [] gs less = absurd (omega (arith, less))
waits_before zero (f ∷ fs) gs less = refl
waits_before (suc m) (f ∷ fs) gs less = waits_before m fs gs (omega (arith, less))

-- there are no more
pub waits_past : (m : ℕ) (fs : List Fate) → length fs ≤ m → waits m fs ≡ false
waits_past m [] le = refl
waits_past zero (f ∷ fs) le = absurd (omega (arith, le))
waits_past (suc m) (f ∷ fs) le = waits_past m fs (omega (arith, le))

-- what is answered stays so
pub waits_mapped : (m : ℕ) (g : Fate → Fate) (fs : List Fate) → ((f : Fate) → is_unanswered (g f) ≡ true → is_unanswered f ≡ true) → waits m (map g fs) ≡ true → waits m fs ≡ true
waits_mapped m g [] h is = absurd cc
waits_mapped zero g (f ∷ fs) h is = h f is
waits_mapped (suc m) g (f ∷ fs) h is = waits_mapped m g fs h is

-- ---- what goes out again

abbrev pub again : ℕ → List Fate → List Sent
again k fs = map shake (resent_from k fs)

none_above : (m k : ℕ) (fs : List Fate) → m < k → has_publish m (again k fs) ≡ false
none_above m k [] less = refl
none_above m k (sent_1 id ∷ fs) less = neither (nat_eq k m) (has_publish m (again (suc k) fs)) (apart k m (λ same. omega (arith, less, same))) (none_above m (suc k) fs (omega (arith, less)))
none_above m k (ended_1 by ∷ fs) less = none_above m (suc k) fs (omega (arith, less))
none_above m k (sent id ∷ fs) less = neither (nat_eq k m) (has_publish m (again (suc k) fs)) (apart k m (λ same. omega (arith, less, same))) (none_above m (suc k) fs (omega (arith, less)))
none_above m k (released id ∷ fs) less = none_above m (suc k) fs (omega (arith, less))
none_above m k (ended by ∷ fs) less = none_above m (suc k) fs (omega (arith, less))

-- none of a message that does not wait
none_waiting : (m k j : ℕ) (fs : List Fate) → m ≡ k + j → waits j fs ≡ false → has_publish m (again k fs) ≡ false
none_waiting m k j [] e h = refl
none_waiting m k zero (sent_1 id ∷ fs) e h = absurd cc
none_waiting m k zero (ended_1 by ∷ fs) e h = none_above m (suc k) fs (omega (arith, e))
none_waiting m k zero (sent id ∷ fs) e h = absurd cc
none_waiting m k zero (released id ∷ fs) e h = none_above m (suc k) fs (omega (arith, e))
none_waiting m k zero (ended by ∷ fs) e h = none_above m (suc k) fs (omega (arith, e))
none_waiting m k (suc j) (sent_1 id ∷ fs) e h = neither (nat_eq k m) (has_publish m (again (suc k) fs)) (apart k m (λ same. omega (arith, e, same))) (none_waiting m (suc k) j fs (omega (arith, e)) h)
none_waiting m k (suc j) (ended_1 by ∷ fs) e h = none_waiting m (suc k) j fs (omega (arith, e)) h
none_waiting m k (suc j) (sent id ∷ fs) e h = neither (nat_eq k m) (has_publish m (again (suc k) fs)) (apart k m (λ same. omega (arith, e, same))) (none_waiting m (suc k) j fs (omega (arith, e)) h)
none_waiting m k (suc j) (released id ∷ fs) e h = none_waiting m (suc k) j fs (omega (arith, e)) h
none_waiting m k (suc j) (ended by ∷ fs) e h = none_waiting m (suc k) j fs (omega (arith, e)) h

-- none of a message that does not wait
pub none_again : (m : ℕ) (fs : List Fate) → waits m fs ≡ false → has_publish m (again 0 fs) ≡ false
none_again m fs h = none_waiting m 0 m fs (omega arith) h

-- a message that waits goes out again, and first
record Again (m n : ℕ) (xs : List Sent) : Type 0 where
  pub first : GoesFirst m n xs
  pub there : has_publish m xs ≡ true

one_more : (m n k : ℕ) (x : Sent) (xs : List Sent) → is_publish_of n x ≡ false → Again m n xs → Again m n (x ∷ xs)
one_more m n k x xs other h = record { first = inr (other, h.first); there = or_right (is_publish_of m x) (has_publish m xs) h.there }

here : (m n k : ℕ) (x : Sent) (xs : List Sent) → message_in x ≡ Some k → m ≡ k + 0 → Again m n (x ∷ xs)
here m n k x xs is e =
    let its : is_publish_of m x ≡ true = ap (is_number m) is ∙ (ap (λ (j : ℕ). nat_eq j m) (omega (arith, e)) ∙ nat_eq_equiv.refl m) in
    record { first = inl its; there = or_left (is_publish_of m x) (has_publish m xs) its }

waiting_again : (m n k j : ℕ) (fs : List Fate) → m < n → m ≡ k + j → waits j fs ≡ true → Again m n (again k fs)
waiting_again m n k j [] less e h = absurd cc
waiting_again m n k zero (sent_1 id ∷ fs) less e h = here m n k _ (again (suc k) fs) refl e
waiting_again m n k zero (ended_1 by ∷ fs) less e h = absurd cc
waiting_again m n k zero (sent id ∷ fs) less e h = here m n k _ (again (suc k) fs) refl e
waiting_again m n k zero (released id ∷ fs) less e h = absurd cc
waiting_again m n k zero (ended by ∷ fs) less e h = absurd cc
waiting_again m n k (suc j) (sent_1 id ∷ fs) less e h = one_more m n k _ (again (suc k) fs) (apart k n (λ same. omega (arith, less, e, same))) (waiting_again m n (suc k) j fs less (omega (arith, e)) h)
waiting_again m n k (suc j) (ended_1 by ∷ fs) less e h = waiting_again m n (suc k) j fs less (omega (arith, e)) h
waiting_again m n k (suc j) (sent id ∷ fs) less e h = one_more m n k _ (again (suc k) fs) (apart k n (λ same. omega (arith, less, e, same))) (waiting_again m n (suc k) j fs less (omega (arith, e)) h)
waiting_again m n k (suc j) (released id ∷ fs) less e h = one_more m n k _ (again (suc k) fs) refl (waiting_again m n (suc k) j fs less (omega (arith, e)) h)
waiting_again m n k (suc j) (ended by ∷ fs) less e h = waiting_again m n (suc k) j fs less (omega (arith, e)) h

-- so of two messages of which the first waits
pub goes_again : (m n : ℕ) (fs : List Fate) → m < n → waits m fs ≡ true → (GoesFirst m n (again 0 fs)) × (has_publish m (again 0 fs) ≡ true)
goes_again m n fs less h = let x = waiting_again m n 0 m fs less (omega arith) h in (x.first, x.there)

-- ---- how two messages of a publisher stand

-- the first is over: it went out, does not wait, and no PUBLISH of it is under way
pub record IsOver (m : ℕ) (p : Publisher) : Type 0 where
  pub out : m < length p.fates
  pub done : waits m p.fates ≡ false
  pub up : has_publish m p.line.up ≡ false
  pub old : has_publish m p.line.old ≡ false

-- or it is ahead: on both lines it goes first, and while it waits it is under way on a line that stands
pub record IsAhead (m n : ℕ) (p : Publisher) (b : Broker) : Type 0 where
  pub up : GoesFirst m n p.line.up
  pub old : GoesFirst m n p.line.old
  pub there : p.line.link ≡ live → stands p.line.number b ≡ true → waits m p.fates ≡ true → has_publish m p.line.up ≡ true
  pub given : p.line.link ≡ live → (j : ℕ) → p.line.number ≡ Some j → j ≤ b.given

-- one or the other, with what else is said while it is ahead
abbrev pub Stands : ℕ → ℕ → Type 0 → Publisher → Broker → Type 0
Stands m n A p b = IsOver m p ⊎ (IsAhead m n p b × A)

-- one number is below another, or not
pub which : (a b : ℕ) → (a < b) ⊎ (b ≤ a)
which a zero = inr (omega arith)
which zero (suc b) = inl (omega arith)
which (suc a) (suc b) = elim (which a b) [
  | inl less ↦ inl (omega (arith, less))
  | inr le ↦ inr (omega (arith, le))
]
