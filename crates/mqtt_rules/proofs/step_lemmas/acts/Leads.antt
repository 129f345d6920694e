-- Deeds that lead from a state to the next: each is good where it comes, and what is kept holds again behind them.
use Rattle.std.proofs.Common.{◌≡◌, ℕ, Bool, true, false, cond, List, [], ◌∷◌, ◌++◌, map, Option, Some, None, nat_eq, refl, sym, subst, inl, inr}
use Rattle.std.specs.Prelude.{⊤, flat_map, find}
use Rattle.std.proofs.lemmas.Bool.{cases_Bool}
use Rattle.mqtt_records.specs.messages.Queue.{CopyRow}
use Rattle.mqtt_records.specs.declared.state.session.Session.{Session}
use Rattle.mqtt_records.specs.lists.Order.{row_at}
use Rattle.mqtt_rules.specs.step.State.{Line, Broker, session_at, session_named}
use Rattle.mqtt_rules.specs.step.Deeds.{Deed, after, after_all, Act, series, only_if, with_session, of_session, with_line}
use Rattle.mqtt_rules.specs.step.Outbound.{of_entry}
use Rattle.mqtt_rules.specs.step.Connect.{of_client}
use Rattle.mqtt_rules.specs.step.Laws.{IsAmong}
use Rattle.mqtt_rules.proofs.step_lemmas.acts.Goods.{after_append, AreGood, good_append}

-- ---- what a search finds is there

-- what is found in a list is among its items
pub found_among : {X : Type 0} (test : X → Bool) (x : X) (xs : List X) → find test xs ≡ Some x → IsAmong x xs
found_among test x [] e = absurd cc
found_among test x (y ∷ ys) e = elim (cases_Bool (test y)) [
  | inl here ↦ let first : Some y ≡ Some x = rw here at e in let it : y ≡ x = cc in inl it
  | inr other ↦ inr (found_among test x ys (rw other at e))
]

-- a row found by its key is among the rows
pub row_among : {X : Type 0} (key : X → ℕ) (k : ℕ) (x : X) (xs : List X) → row_at key k xs ≡ Some x → IsAmong x xs
row_among key k x [] e = absurd cc
row_among key k x (y ∷ ys) e = elim (cases_Bool (nat_eq (key y) k)) [
  | inl here ↦ let first : Some y ≡ Some x = rw here at e in let it : y ≡ x = cc in inl it
  | inr other ↦ inr (row_among key k x ys (rw other at e))
]

-- what is found by a test passes it
pub found_passes : {X : Type 0} (test : X → Bool) (x : X) (xs : List X) → find test xs ≡ Some x → test x ≡ true
found_passes test x [] e = absurd cc
found_passes test x (y ∷ ys) e = elim (cases_Bool (test y)) [
  | inl here ↦
      let first : Some y ≡ Some x = rw here at e in
      let it : y ≡ x = cc in
      subst (λ (z : _). test z ≡ true) it here
  | inr other ↦ found_passes test x ys (rw other at e)
]

-- ---- lists of deeds, and acts

module _ (Keep : Broker → Type 0) (Good : Deed → Broker → Type 0) where
  abbrev pub Leads : List Deed → Broker → Type 0
  Leads ds b = AreGood Good ds b × Keep (after_all ds b)

  abbrev pub Leading : Act → Type 0
  Leading act = (b : Broker) → Keep b → Leads (act b) b

  abbrev pub AllLeading : List Act → Type 0
  AllLeading [] = ⊤
  AllLeading (a ∷ more) = Leading a × AllLeading more

  -- deeds that lead, and others that lead from where they end, lead
  pub leads_append : (xs ys : List Deed) (b : Broker) → Leads xs b → (Keep (after_all xs b) → Leads ys (after_all xs b)) → Leads (xs ++ ys) b
  leads_append xs ys b p q =
      let r = q p.1 in
      (good_append Good xs ys b p.0 r.0, subst Keep (sym (after_append xs ys b)) r.1)

  -- acts that each lead, lead one after the other
  pub leads_series : (acts : List Act) → AllLeading acts → Leading (series acts)
  leads_series [] q b k = (tt, k)
  leads_series (a ∷ acts) q b k = leads_append (a b) (series acts (after_all (a b) b)) b (q.0 b k) (leads_series acts q.1 (after_all (a b) b))

  -- two acts, the second of them on what the first left
  pub leads_two : (f g : Act) (b : Broker) → Leads (f b) b → (Keep (after_all (f b) b) → Leads (g (after_all (f b) b)) (after_all (f b) b)) → Leads (series (f ∷ g ∷ []) b) b
  leads_two f g b p q =
      let c = after_all (f b) b in
      leads_append (f b) (g c ++ []) b p (λ k. leads_append (g c) [] c (q k) (λ h. (tt, h)))

  -- lists of deeds made of items lead if each does
  pub leads_flat : {X : Type 0} (f : X → List Deed) → ((x : X) → Leading (λ b. f x)) → (xs : List X) → Leading (λ b. flat_map f xs)
  leads_flat f h [] b k = (tt, k)
  leads_flat f h (x ∷ xs) b k = leads_append (f x) (flat_map f xs) b (h x b k) (leads_flat f h xs (after_all (f x) b))

  -- acts made of items lead if each does
  pub leads_map : {X : Type 0} (f : X → Act) → ((x : X) → Leading (f x)) → (xs : List X) → AllLeading (map f xs)
  leads_map f h [] = tt
  leads_map f h (x ∷ xs) = (h x, leads_map f h xs)

  -- a choice between deeds leads if each side does where it is chosen
  pub leads_cond : (t : Bool) (xs ys : List Deed) (b : Broker) → (t ≡ true → Leads xs b) → (t ≡ false → Leads ys b) → Leads (cond t xs ys) b
  leads_cond true xs ys b p q = p refl
  leads_cond false xs ys b p q = q refl

  -- an act under a condition leads if it does where the condition holds
  pub leads_if : (t : Bool) (act : Act) → (t ≡ true → Leading act) → Leading (only_if t act)
  leads_if true act h b k = h refl b k
  leads_if false act h b k = (tt, k)

  -- an act of a session leads if it does for the one that is there, or there is none
  pub leads_with_session : (o : Option Session) (f : Session → Act) (b : Broker) → Keep b → ((s : Session) → o ≡ Some s → Leads (f s b) b) → Leads (with_session o f b) b
  leads_with_session None f b k h = (tt, k)
  leads_with_session (Some s) f b k h = h s refl

  -- an act of the session with a birth leads if it does for the one that stands
  pub leads_of_session : (birth : ℕ) (f : Session → Act) (b : Broker) → Keep b → ((s : Session) → session_at birth b.records ≡ Some s → Leads (f s b) b) → Leads (of_session birth f b) b
  leads_of_session birth f b k h = leads_with_session (session_at birth b.records) f b k h

  -- an act of the session of a client leads if it does for the one that stands
  pub leads_of_client : (client : List ℕ) (f : Session → Act) (b : Broker) → Keep b → ((s : Session) → session_named client b.records ≡ Some s → Leads (f s b) b) → Leads (of_client client f b) b
  leads_of_client client f b k h = leads_with_session (session_named client b.records) f b k h

  -- an act of a line leads if it does for the one that is there, or there is none
  pub leads_with_line : (o : Option Line) (f : Line → Act) (b : Broker) → Keep b → ((l : Line) → o ≡ Some l → Leads (f l b) b) → Leads (with_line o f b) b
  leads_with_line None f b k h = (tt, k)
  leads_with_line (Some l) f b k h = h l refl

  -- deeds of a copy lead if they do for the one that is there, or there is none
  pub leads_of_entry : (o : Option CopyRow) (f : CopyRow → List Deed) (b : Broker) → Keep b → ((e : CopyRow) → o ≡ Some e → Leads (f e) b) → Leads (of_entry o f) b
  leads_of_entry None f b k h = (tt, k)
  leads_of_entry (Some e) f b k h = h e refl

  -- by each deed
  pub leads_good : ((d : Deed) (b : Broker) → Keep b → Good d b → Keep (after d b)) → (ds : List Deed) (b : Broker) → Keep b → AreGood Good ds b → Leads ds b
  leads_good kept [] b k g = (tt, k)
  leads_good kept (d ∷ ds) b k g =
      let rest = leads_good kept ds (after d b) (kept d b k g.0) g.1 in
      (g, rest.1)

-- if every deed is good, the end says all
pub leads_end : (Keep : Broker → Type 0) (ds : List Deed) (b : Broker) → Keep (after_all ds b) → Leads Keep (λ d c. ⊤) ds b
leads_end Keep ds b k = (all_good ds b, k)
  where
    all_good : (ds : List Deed) (b : Broker) → AreGood (λ d c. ⊤) ds b
    all_good [] b = tt
    all_good (d ∷ ds) b = (tt, all_good ds (after d b))
