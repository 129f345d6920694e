-- The filters of an UNSUBSCRIBE, one after the other: what is held, what is gone, and the codes.
use Rattle.std.proofs.Common.{◌≡◌, ℕ, Bool, true, false, cond, not, ◌&&◌, ◌||◌, List, [], ◌∷◌, ◌++◌, Some, None, bytes_eq, refl, ap, sym, subst, ◌∙◌, append_assoc, append-nil, inl, inr}
use Rattle.std.specs.Prelude.{find, is_some}
use Rattle.std.specs.List.{list_any}
use Rattle.std.proofs.lemmas.Bool.{cases_Bool}
use Rattle.mqtt_topic.specs.names.Filters.{is_filter}
use Rattle.mqtt_records.specs.declared.state.session.Session.{Session}
use Rattle.mqtt_records.specs.declared.state.subscription.Subscription.{Subscription}
use Rattle.mqtt_rules.specs.step.Subscribe.{is_to, has_filter, drop_code, drop_codes}
use Rattle.mqtt_broker_step.proofs.Filters.{found_filter, text_is}
use Rattle.mqtt_broker_acts.specs.subscribing.Dropping.{is_left, gone_after, held}

-- ---- what is found

any_some : (f : List ℕ) (xs : List Subscription) → is_some (find (is_to f) xs) ≡ list_any (is_to f) xs
any_some f [] = refl
any_some f (x ∷ xs) = elim (cases_Bool (bytes_eq x.filter f)) [
  | inl here ↦ rw here refl
  | inr other ↦ rw other (any_some f xs)
]

-- a filter that is found is had
pub found_has : (f : List ℕ) (x : Subscription) (s : Session) → find (is_to f) s.subscriptions ≡ Some x → has_filter f s ≡ true
found_has f x s found = sym (any_some f s.subscriptions) ∙ ap is_some found

-- one that is not found is not
pub none_has : (f : List ℕ) (s : Session) → find (is_to f) s.subscriptions ≡ None → has_filter f s ≡ false
none_has f s none = sym (any_some f s.subscriptions) ∙ ap is_some none

-- ---- what is gone

-- what is not had is not left to be dropped
pub not_held_left : (f : List ℕ) (gone : List (List ℕ)) (s : Session) → find (is_to f) s.subscriptions ≡ None → is_left f gone s ≡ false
not_held_left f gone s none = ap (λ b. b && not (list_any (bytes_eq f) gone)) (none_has f s none)

-- nor is what was dropped before
pub gone_left : (f : List ℕ) (gone : List (List ℕ)) (s : Session) → list_any (bytes_eq f) gone ≡ true → is_left f gone s ≡ false
gone_left f gone s is = ap (λ b. has_filter f s && not b) is ∙ and_false (has_filter f s)
  where
    and_false : (b : Bool) → (b && false) ≡ false
    and_false true = refl
    and_false false = refl

-- what is had and was not dropped is
pub held_left : (f : List ℕ) (x : Subscription) (gone : List (List ℕ)) (s : Session) → find (is_to f) s.subscriptions ≡ Some x → list_any (bytes_eq f) gone ≡ false → is_left f gone s ≡ true
held_left f x gone s found isnt = ap (λ b. b && not (list_any (bytes_eq f) gone)) (found_has f x s found) ∙ ap not isnt

-- dropping what is not left drops nothing
pub not_left_after : (f : List ℕ) (gone : List (List ℕ)) (s : Session) → is_left f gone s ≡ false → gone ≡ gone_after f gone s
not_left_after f gone s isnt = ap (λ (b : Bool). cond b (gone ++ f ∷ []) gone) (sym isnt)

-- dropping what is left drops that one
pub left_after : (f : List ℕ) (gone : List (List ℕ)) (s : Session) → is_left f gone s ≡ true → gone ++ f ∷ [] ≡ gone_after f gone s
left_after f gone s is = ap (λ (b : Bool). cond b (gone ++ f ∷ []) gone) (sym is)

-- a filter that the session has is gone if it was seen
abbrev pub AreGone : List (List ℕ) → List (List ℕ) → Session → Type 0
AreGone gone seen s = (f : List ℕ) → has_filter f s ≡ true → list_any (bytes_eq f) gone ≡ list_any (bytes_eq f) seen

any_append : (f : List ℕ) (xs ys : List (List ℕ)) → list_any (bytes_eq f) (xs ++ ys) ≡ (list_any (bytes_eq f) xs || list_any (bytes_eq f) ys)
any_append f [] ys = refl
any_append f (x ∷ xs) ys = elim (cases_Bool (bytes_eq f x)) [
  | inl here ↦ rw here refl
  | inr other ↦ rw other (any_append f xs ys)
]

or_false : (b : Bool) → (b || false) ≡ b
or_false true = refl
or_false false = refl

or_swap : (a b : Bool) → (a || b) ≡ (b || a)
or_swap true true = refl
or_swap true false = refl
or_swap false true = refl
or_swap false false = refl

-- one that stays among the gone has no further part
still : (f g : List ℕ) (gone seen : List (List ℕ)) (s : Session) → AreGone gone seen s → is_left g gone s ≡ false → has_filter f s ≡ true → list_any (bytes_eq f) gone ≡ (bytes_eq f g || list_any (bytes_eq f) seen)
still f g gone seen s are isnt has = elim (cases_Bool (bytes_eq f g)) [
  | inl same ↦
      let text : f ≡ g = text_is f g same in
      let there : has_filter g s ≡ true = subst (λ t. has_filter t s ≡ true) text has in
      let gone_g : not (list_any (bytes_eq g) gone) ≡ false = ap (λ b. b && not (list_any (bytes_eq g) gone)) (sym there) ∙ isnt in
      rw same (subst (λ t. list_any (bytes_eq t) gone ≡ true) (sym text) (not_false (list_any (bytes_eq g) gone) gone_g))
  | inr other ↦ rw other (are f has)
]
  where
    not_false : (b : Bool) → not b ≡ false → b ≡ true
    not_false true e = refl
    not_false false e = absurd cc

-- what was dropped is what was had of the filters seen
pub gone_next : (g : List ℕ) (gone seen : List (List ℕ)) (s : Session) → AreGone gone seen s → AreGone (gone_after g gone s) (g ∷ seen) s
gone_next g gone seen s are f has = elim (cases_Bool (is_left g gone s)) [
  | inl left ↦
      ap (λ (b : Bool). list_any (bytes_eq f) (cond b (gone ++ g ∷ []) gone)) left
      ∙ (any_append f gone (g ∷ [])
      ∙ (ap (λ b. list_any (bytes_eq f) gone || b) (or_false (bytes_eq f g))
      ∙ (or_swap (list_any (bytes_eq f) gone) (bytes_eq f g)
      ∙ ap (λ b. bytes_eq f g || b) (are f has))))
  | inr isnt ↦ ap (λ (b : Bool). list_any (bytes_eq f) (cond b (gone ++ g ∷ []) gone)) isnt ∙ still f g gone seen s are isnt has
]

code_is : (g : List ℕ) (gone seen : List (List ℕ)) (s : Session) → AreGone gone seen s → drop_code (is_filter g) (is_left g gone s) ≡ drop_code (is_filter g) (has_filter g s && not (list_any (bytes_eq g) seen))
code_is g gone seen s are = elim (cases_Bool (has_filter g s)) [
  | inl has ↦ ap (λ b. drop_code (is_filter g) (has_filter g s && not b)) (are g has)
  | inr none ↦ ap (λ b. drop_code (is_filter g) (b && not (list_any (bytes_eq g) gone))) none ∙ ap (λ b. drop_code (is_filter g) (b && not (list_any (bytes_eq g) seen))) (sym none)
]

-- ---- codes

-- the codes so far, and those of the rest, are the codes of all
pub record Coding (rest all : List (List ℕ)) (codes : List ℕ) (gone : List (List ℕ)) (s : Session) : Type 0 where
  pub seen : List (List ℕ)
  pub are : AreGone gone seen s
  pub same : codes ++ drop_codes s seen rest ≡ drop_codes s [] all

-- at first no filter has a code
pub codes_first : (all : List (List ℕ)) (codes : List ℕ) (gone : List (List ℕ)) (s : Session) → codes ≡ [] → gone ≡ [] → Coding all all codes gone s
codes_first all codes gone s none empty = record {
  seen = [];
  are = λ f has. ap (list_any (bytes_eq f)) empty;
  same = ap (λ cs. cs ++ drop_codes s [] all) none;
}

-- a filter gets its code
pub codes_next : (f : List ℕ) (rest xs all : List (List ℕ)) (codes codes2 : List ℕ) (code : ℕ) (gone gone2 : List (List ℕ)) (s : Session) → xs ≡ f ∷ rest → Coding xs all codes gone s
    → code ≡ drop_code (is_filter f) (is_left f gone s) → gone2 ≡ gone_after f gone s → codes2 ≡ codes ++ code ∷ [] → Coding rest all codes2 gone2 s
codes_next f rest xs all codes codes2 code gone gone2 s is w code_of gone_of pushed =
    let one : code ≡ drop_code (is_filter f) (has_filter f s && not (list_any (bytes_eq f) w.seen)) = code_of ∙ code_is f gone w.seen s w.are in
    record {
      seen = f ∷ w.seen;
      are = subst (λ gs. AreGone gs (f ∷ w.seen) s) (sym gone_of) (gone_next f gone w.seen s w.are);
      same = ap (λ cs. cs ++ drop_codes s (f ∷ w.seen) rest) pushed
          ∙ (append_assoc codes (code ∷ []) (drop_codes s (f ∷ w.seen) rest)
          ∙ (ap (λ k. codes ++ k ∷ drop_codes s (f ∷ w.seen) rest) one
          ∙ (ap (λ ys. codes ++ drop_codes s w.seen ys) (sym is) ∙ w.same)));
    }

-- behind the last all have theirs
pub codes_last : (rest all : List (List ℕ)) (codes : List ℕ) (gone : List (List ℕ)) (s : Session) → rest ≡ [] → Coding rest all codes gone s → codes ≡ drop_codes s [] all
codes_last rest all codes gone s none w = sym (append-nil codes) ∙ (ap (λ ys. codes ++ drop_codes s w.seen ys) (sym none) ∙ w.same)

-- ---- those that are held

-- a filter that is had is one to be dropped
pub held_one : (f : List ℕ) (x : Subscription) (s : Session) → find (is_to f) s.subscriptions ≡ Some x → x.filter ∷ [] ≡ held (f ∷ []) s
held_one f x s found =
    ap (λ t. t ∷ []) (found_filter f x s.subscriptions found) ∙ sym (rw (found_has f x s found) refl)

-- one that is not had is none
pub held_none : (f : List ℕ) (s : Session) → find (is_to f) s.subscriptions ≡ None → [] ≡ held (f ∷ []) s
held_none f s none = sym (rw (none_has f s none) refl)

held_cons : (f : List ℕ) (rest : List (List ℕ)) (s : Session) → held (f ∷ []) s ++ held rest s ≡ held (f ∷ rest) s
held_cons f rest s = elim (cases_Bool (has_filter f s)) [
  | inl has ↦ rw has refl
  | inr none ↦ rw none refl
]

-- the filters that are had are gathered one by one
pub held_next : (f : List ℕ) (rest xs all done done2 : List (List ℕ)) (s : Session) → xs ≡ f ∷ rest → done ++ held xs s ≡ held all s
    → done2 ≡ done ++ held (f ∷ []) s → done2 ++ held rest s ≡ held all s
held_next f rest xs all done done2 s is w more =
    ap (λ ys. ys ++ held rest s) more
    ∙ (append_assoc done (held (f ∷ []) s) (held rest s)
    ∙ (ap (λ ys. done ++ ys) (held_cons f rest s) ∙ (ap (λ ys. done ++ held ys s) (sym is) ∙ w)))

-- behind the last all are gathered
pub held_last : (rest all done : List (List ℕ)) (s : Session) → rest ≡ [] → done ++ held rest s ≡ held all s → done ≡ held all s
held_last rest all done s none w = sym (append-nil done) ∙ (ap (λ ys. done ++ held ys s) (sym none) ∙ w)
