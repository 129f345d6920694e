-- Lemmas on direct copies, made of one subscription to the topic after the other (MQTT 5.0, 3.3.4).
use Rattle.std.proofs.Common.{◌≡◌, ℕ, zero, suc, ◌+◌, ◌<◌, Bool, true, false, cond, not, ◌&&◌, List, [], ◌∷◌, ◌++◌, length, drop, get_or, set, refl, sym, ap, subst, ◌∙◌, nat_eq, eqb-true, arith, append_assoc, append-nil}
use Rattle.std.proofs.lemmas.List.{drop_more}
use Rattle.mqtt_routes.specs.declared.routing.subscription.Subscription.{Subscription}
use Rattle.mqtt_routes.specs.routing.Subscriptions.{Subscriber, AreAfter, AreInOrder}
use Rattle.mqtt_routes.specs.routing.Intended.{Publication, Answers, Copy, add_to, copy_for, copies_for, empty_copy, hits_of, is_barred, is_hit, is_shared, matches_topic, directs}
use Rattle.mqtt_routes.specs.routing.Found.{Found, found_sub, found_of, found_in, is_direct, with_direct}
use Rattle.mqtt_routes.proofs.routing_lemmas.SpotLemmas.{eq-yes, eq-below}
use Rattle.mqtt_routes.proofs.routing_lemmas.CopyLemmas.{with_all, with_all-cons, with_all-empty, with_all-nil, filter_by}

not_by : (t : Bool) (a b : ℕ) → nat_eq a b ≡ t → (a ≡ b → ⊥) → t ≡ false
not_by true a b e h = absurd (h (eqb-true a b e))
not_by false a b e h = refl

-- unequal numbers compare as unequal
pub eq-not : (a b : ℕ) → (a ≡ b → ⊥) → nat_eq a b ≡ false
eq-not a b h = not_by (nat_eq a b) a b refl h

module _ (p : Publication) where
  -- the copy of a session's first subscription
  abbrev pub fresh : Found → Copy
  fresh f = add_to p (empty_copy f.birth) f.sub

  -- the last copy is of its session
  pub direct_last : (cs : List Copy) (k : ℕ) (d : Copy) (f : Found) → suc k ≡ length cs → nat_eq (get_or cs k d).birth f.birth ≡ true → set cs k (add_to p (get_or cs k d) f.sub) ≡ with_direct p cs f
  direct_last [] k d f l h = absurd (omega (arith, l))
  direct_last (c ∷ []) zero d f l h = sym (ap (λ t. cond t (add_to p c f.sub ∷ []) (c ∷ fresh f ∷ [])) h)
  direct_last (c ∷ []) (suc k) d f l h = absurd (omega (arith, l))
  direct_last (c ∷ e ∷ cs) zero d f l h = absurd (omega (arith, l))
  direct_last (c ∷ e ∷ cs) (suc k) d f l h = ap (λ (xs : List Copy). c ∷ xs) (direct_last (e ∷ cs) k d f (omega (arith, l)) h)

  -- the last copy is of another session
  pub direct_further : (cs : List Copy) (k : ℕ) (d : Copy) (f : Found) → suc k ≡ length cs → nat_eq (get_or cs k d).birth f.birth ≡ false → set cs k (get_or cs k d) ++ fresh f ∷ [] ≡ with_direct p cs f
  direct_further [] k d f l h = absurd (omega (arith, l))
  direct_further (c ∷ []) zero d f l h = sym (ap (λ t. cond t (add_to p c f.sub ∷ []) (c ∷ fresh f ∷ [])) h)
  direct_further (c ∷ []) (suc k) d f l h = absurd (omega (arith, l))
  direct_further (c ∷ e ∷ cs) zero d f l h = absurd (omega (arith, l))
  direct_further (c ∷ e ∷ cs) (suc k) d f l h = ap (λ (xs : List Copy). c ∷ xs) (direct_further (e ∷ cs) k d f (omega (arith, l)) h)

  -- there is none
  pub direct_first : (cs : List Copy) (f : Found) → length cs ≡ 0 → cs ++ fresh f ∷ [] ≡ with_direct p cs f
  direct_first [] f l = refl
  direct_first (c ∷ cs) f l = absurd (omega (arith, l))

  direct_snoc : (cs : List Copy) (c : Copy) (f : Found) → with_direct p (cs ++ c ∷ []) f ≡ cs ++ cond (nat_eq c.birth f.birth) (add_to p c f.sub ∷ []) (c ∷ fresh f ∷ [])
  direct_snoc [] c f = refl
  direct_snoc (x ∷ []) c f = refl
  direct_snoc (x ∷ y ∷ cs) c f = ap (λ (xs : List Copy). x ∷ xs) (direct_snoc (y ∷ cs) c f)

  -- a session of this birth has no copy among these yet
  abbrev Apart : ℕ → List Copy → Type 0
  Apart b cs = (s : Subscription) → with_direct p cs (found_sub b s) ≡ cs ++ fresh (found_sub b s) ∷ []

  apart_more : (b c : ℕ) (cs : List Copy) (hits : List Subscription) → c < b → Apart b cs → Apart b (cs ++ copies_for p c hits)
  apart_more b c cs [] l h = subst (Apart b) (sym (append-nil cs)) h
  apart_more b c cs (x ∷ hits) l h = λ s.
      direct_snoc cs (copy_for p c (x ∷ hits)) (found_sub b s)
      ∙ ap (λ t. cs ++ cond t (add_to p (copy_for p c (x ∷ hits)) s ∷ []) (copy_for p c (x ∷ hits) ∷ fresh (found_sub b s) ∷ [])) (eq-below c b l)
      ∙ sym (append_assoc cs (copy_for p c (x ∷ hits) ∷ []) (fresh (found_sub b s) ∷ []))

module _ (at : Answers) (p : Publication) where
  -- the copies once these subscriptions are served too
  abbrev pub with_found : List Copy → List Found → List Copy
  with_found cs [] = cs
  with_found cs (f ∷ fs) = with_found (cond (is_direct at p f) (with_direct p cs f) cs) fs

  -- one subscription more has been looked at
  pub found_next : (fs : List Found) (i : ℕ) (f : Found) (before after whole : List Copy) → i < length fs → f ≡ get_or fs i f → after ≡ cond (is_direct at p f) (with_direct p before f) before →
      with_found before (drop i fs) ≡ whole → with_found after (drop (i + 1) fs) ≡ whole
  found_next fs i f before after whole within is made h =
      ap (λ cs. with_found cs (drop (i + 1) fs)) made
      ∙ sym (ap (with_found before) (drop_more fs i f within ∙ ap (λ (x : Found). x ∷ drop (i + 1) fs) (sym is)))
      ∙ h

  hit_none : (shared barred : Bool) → (not shared && (false && not barred)) ≡ false
  hit_none true barred = refl
  hit_none false barred = refl

  -- of what matches a hit is what makes a direct copy
  hit_by : (m t : Bool) (b : ℕ) (s : Subscription) → matches_topic p s ≡ m → is_direct at p (found_sub b s) ≡ t → is_hit at p b s ≡ (m && t)
  hit_by true t b s e d = ap (λ m. not (is_shared s) && (m && not (is_barred at p b s))) e ∙ d
  hit_by false t b s e d = ap (λ m. not (is_shared s) && (m && not (is_barred at p b s))) e ∙ hit_none (is_shared s) (is_barred at p b s)

  abbrev hits : ℕ → List Subscription → List Subscription
  hits b subs = hits_of at p b subs

  hits_by : (m t : Bool) (b : ℕ) (s : Subscription) (ss : List Subscription) → matches_topic p s ≡ m → is_direct at p (found_sub b s) ≡ t → hits b (s ∷ ss) ≡ cond (m && t) (s ∷ hits b ss) (hits b ss)
  hits_by m t b s ss e d = filter_by (m && t) (is_hit at p b) s ss (hit_by m t b s e d)

  module _ (b : ℕ) (rest : List Found) (cs : List Copy) where
    -- the session's copy serves its further subscriptions
    serve_by : (m t : Bool) (s : Subscription) (ss : List Subscription) (c : Copy) → matches_topic p s ≡ m → is_direct at p (found_sub b s) ≡ t → c.birth ≡ b →
        ((x : Copy) → x.birth ≡ b → with_found (cs ++ x ∷ []) (found_of p b ss ++ rest) ≡ with_found (cs ++ with_all p x (hits b ss) ∷ []) rest) →
        with_found (cs ++ c ∷ []) (cond m (found_sub b s ∷ found_of p b ss) (found_of p b ss) ++ rest) ≡ with_found (cs ++ with_all p c (hits b (s ∷ ss)) ∷ []) rest
    serve_by true true s ss c e d is more =
        ap (λ x. with_found x (found_of p b ss ++ rest))
        (ap (λ t. cond t (with_direct p (cs ++ c ∷ []) (found_sub b s)) (cs ++ c ∷ [])) d
        ∙ direct_snoc p cs c (found_sub b s)
        ∙ ap (λ t. cs ++ cond t (add_to p c s ∷ []) (c ∷ fresh p (found_sub b s) ∷ [])) (eq-yes c.birth b is))
        ∙ more (add_to p c s) is
        ∙ ap (λ x. with_found (cs ++ x ∷ []) rest) (sym (with_all-cons p c s (hits b ss)) ∙ ap (with_all p c) (sym (hits_by true true b s ss e d)))
    serve_by true false s ss c e d is more =
        ap (λ x. with_found x (found_of p b ss ++ rest)) (ap (λ t. cond t (with_direct p (cs ++ c ∷ []) (found_sub b s)) (cs ++ c ∷ [])) d)
        ∙ more c is
        ∙ ap (λ x. with_found (cs ++ with_all p c x ∷ []) rest) (sym (hits_by true false b s ss e d))
    serve_by false t s ss c e d is more =
        more c is ∙ ap (λ x. with_found (cs ++ with_all p c x ∷ []) rest) (sym (hits_by false t b s ss e d))

    serve : (subs : List Subscription) (c : Copy) → c.birth ≡ b → with_found (cs ++ c ∷ []) (found_of p b subs ++ rest) ≡ with_found (cs ++ with_all p c (hits b subs) ∷ []) rest
    serve [] c is = ap (λ x. with_found (cs ++ x ∷ []) rest) (sym (with_all-nil p c))
    serve (s ∷ ss) c is = serve_by (matches_topic p s) (is_direct at p (found_sub b s)) s ss c refl refl is (serve ss)

    begin_by : (m t : Bool) (s : Subscription) (ss : List Subscription) → matches_topic p s ≡ m → is_direct at p (found_sub b s) ≡ t → Apart p b cs →
        with_found cs (found_of p b ss ++ rest) ≡ with_found (cs ++ copies_for p b (hits b ss)) rest →
        with_found cs (cond m (found_sub b s ∷ found_of p b ss) (found_of p b ss) ++ rest) ≡ with_found (cs ++ copies_for p b (hits b (s ∷ ss))) rest
    begin_by true true s ss e d apart more =
        ap (λ x. with_found x (found_of p b ss ++ rest)) (ap (λ t. cond t (with_direct p cs (found_sub b s)) cs) d ∙ apart s)
        ∙ serve ss (fresh p (found_sub b s)) refl
        ∙ ap (λ x. with_found (cs ++ x ∷ []) rest) (sym (with_all-cons p (empty_copy b) s (hits b ss)) ∙ with_all-empty p b (s ∷ hits b ss))
        ∙ ap (λ x. with_found (cs ++ copies_for p b x) rest) (sym (hits_by true true b s ss e d))
    begin_by true false s ss e d apart more =
        ap (λ t. with_found (cond t (with_direct p cs (found_sub b s)) cs) (found_of p b ss ++ rest)) d
        ∙ more
        ∙ ap (λ x. with_found (cs ++ copies_for p b x) rest) (sym (hits_by true false b s ss e d))
    begin_by false t s ss e d apart more = more ∙ ap (λ x. with_found (cs ++ copies_for p b x) rest) (sym (hits_by false t b s ss e d))

    -- a session's subscriptions make its copy
    session : (subs : List Subscription) → Apart p b cs → with_found cs (found_of p b subs ++ rest) ≡ with_found (cs ++ copies_for p b (hits b subs)) rest
    session [] apart = ap (λ x. with_found x rest) (sym (append-nil cs))
    session (s ∷ ss) apart = begin_by (matches_topic p s) (is_direct at p (found_sub b s)) s ss refl refl apart (session ss apart)

  sessions_after : (c : ℕ) (xs : List Subscriber) (cs : List Copy) → AreAfter c xs → AreInOrder xs → ((b : ℕ) → c < b → Apart p b cs) → with_found cs (found_in p xs) ≡ cs ++ directs at p xs
  sessions_after c [] cs after o apart = sym (append-nil cs)
  sessions_after c (x ∷ xs) cs after o apart =
      let own = copies_for p x.birth (hits x.birth x.subs) in
      session x.birth (found_in p xs) cs x.subs (apart x.birth after.0)
      ∙ sessions_after x.birth xs (cs ++ own) o.0 o.1 (λ b l. apart_more p b x.birth cs (hits x.birth x.subs) l (apart b (omega (arith, l, after.0))))
      ∙ append_assoc cs own (directs at p xs)

  -- the subscriptions to the topic make the copies that are meant
  pub directs_found : (xs : List Subscriber) → AreInOrder xs → with_found [] (found_in p xs) ≡ directs at p xs
  directs_found [] o = refl
  directs_found (x ∷ xs) o =
      let own = copies_for p x.birth (hits x.birth x.subs) in
      session x.birth (found_in p xs) [] x.subs (λ s. refl)
      ∙ sessions_after x.birth xs own o.0 o.1 (λ b l. apart_more p b x.birth [] (hits x.birth x.subs) l (λ s. refl))
