-- Lemmas on copies of a publication (MQTT 5.0, 3.3.4).
use Rattle.std.proofs.Common.{◌≡◌, ℕ, max, filter, Bool, true, false, cond, ◌&&◌, ◌||◌, List, [], ◌∷◌, ◌++◌, map, refl, sym, ap, ◌∙◌, arith, append_assoc, append-nil, Option, Some, None}
use Rattle.std.specs.List.{list_any, filter_map, cons_option}
use Rattle.std.specs.Option.{option_to_list}
use Rattle.mqtt_routes.specs.declared.routing.subscription.Subscription.{Subscription}
use Rattle.mqtt_routes.specs.routing.Intended.{Publication, Copy, granted_qos, greatest, copy_for, add_to, empty_copy}

max_one : (a b c : ℕ) → max a (max b c) ≡ max (max a b) c
max_one a b c = omega arith

max_none : (n : ℕ) → max 0 n ≡ n
max_none n = omega arith

max_last : (n : ℕ) → max n 0 ≡ n
max_last n = omega arith

-- a copy that serves further subscriptions
abbrev pub with_all : Publication → Copy → List Subscription → Copy
with_all p c subs = record {
  birth = c.birth;
  qos = max c.qos (greatest (map (granted_qos p) subs));
  retain = c.retain || (p.retain && list_any (λ s. s.options.retain_as_published) subs);
  identifiers = c.identifiers ++ filter_map (λ s. s.identifier) subs;
}

retain_one : (a r b c : Bool) → (a || (r && (b || c))) ≡ ((a || (r && b)) || (r && c))
retain_one true r b c = refl
retain_one false true b c = refl
retain_one false false b c = refl

cons_is : (o : Option ℕ) (xs : List ℕ) → cons_option o xs ≡ option_to_list o ++ xs
cons_is None xs = refl
cons_is (Some x) xs = refl

or_and_false : (a r : Bool) → (a || (r && false)) ≡ a
or_and_false true r = refl
or_and_false false true = refl
or_and_false false false = refl

same_copy : (birth : ℕ) (q1 q2 : ℕ) (r1 r2 : Bool) (d1 d2 : List ℕ) → q1 ≡ q2 → r1 ≡ r2 → d1 ≡ d2
    → (let x : Copy = record { birth = birth; qos = q1; retain = r1; identifiers = d1 } in x) ≡ record { birth = birth; qos = q2; retain = r2; identifiers = d2 }
same_copy birth q1 q2 r1 r2 d1 d2 q r d = λ i. record { birth = birth; qos = q i; retain = r i; identifiers = d i }

-- a copy that serves more subscriptions serves the first, and then the others
pub with_all-cons : (p : Publication) (c : Copy) (s : Subscription) (ss : List Subscription) → with_all p c (s ∷ ss) ≡ with_all p (add_to p c s) ss
with_all-cons p c s ss =
    same_copy c.birth _ _ _ _ _ _
    (max_one c.qos (granted_qos p s) (greatest (map (granted_qos p) ss)))
    (retain_one c.retain p.retain s.options.retain_as_published (list_any (λ (x : Subscription). x.options.retain_as_published) ss))
    (ap (λ xs. c.identifiers ++ xs) (cons_is s.identifier (filter_map (λ (x : Subscription). x.identifier) ss)) ∙ sym (append_assoc c.identifiers (option_to_list s.identifier) (filter_map (λ (x : Subscription). x.identifier) ss)))

-- a copy of nothing that serves these subscriptions is the copy for them
pub with_all-empty : (p : Publication) (birth : ℕ) (subs : List Subscription) → with_all p (empty_copy birth) subs ≡ copy_for p birth subs
with_all-empty p birth subs = same_copy birth _ _ _ _ _ _ (max_none (greatest (map (granted_qos p) subs))) refl refl

-- a copy that serves no more is as it was
pub with_all-nil : (p : Publication) (c : Copy) → with_all p c [] ≡ c
with_all-nil p c = same_copy c.birth _ _ _ _ _ _ (max_last c.qos) (or_and_false c.retain p.retain) (append-nil c.identifiers)

-- a copy that serves one subscription
pub add_to-empty : (p : Publication) (birth : ℕ) (s : Subscription) → add_to p (empty_copy birth) s ≡ copy_for p birth (s ∷ [])
add_to-empty p birth s = sym (with_all-nil p (add_to p (empty_copy birth) s)) ∙ sym (with_all-cons p (empty_copy birth) s []) ∙ with_all-empty p birth (s ∷ [])

-- one subscription more, if it passes
pub filter_by : (b : Bool) (test : Subscription → Bool) (s : Subscription) (ss : List Subscription) → test s ≡ b → filter test (s ∷ ss) ≡ cond b (s ∷ filter test ss) (filter test ss)
filter_by true test s ss is = rw is refl
filter_by false test s ss is = rw is refl
