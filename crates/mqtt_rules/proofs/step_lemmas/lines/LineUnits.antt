-- What each unit of deeds makes of the sessions on lines, and of when sessions were closed, as two look-ups.
use Rattle.std.proofs.Common.{◌≡◌, ℕ, Bool, true, false, cond, Option, Some, None, nat_eq, refl, sym, ap, ◌∙◌, inl, inr}
use Rattle.std.proofs.lemmas.Bool.{cases_Bool, eqb-true}
use Rattle.std.proofs.lemmas.Cmp.{nat_eq_equiv}

abbrev Found : Type 0
Found = ℕ → Option (Option ℕ)

-- a session stands on at most one line, exactly if it isn't closed
pub record AreJoined (on shut : Found) : Type 0 where
  pub once : (n m birth : ℕ) → on n ≡ Some (Some birth) → on m ≡ Some (Some birth) → n ≡ m
  pub stands : (n birth : ℕ) → on n ≡ Some (Some birth) → shut birth ≡ Some None
  pub connected : (birth : ℕ) → shut birth ≡ Some None → (n : ℕ) × (on n ≡ Some (Some birth))

here : (k : ℕ) → nat_eq k k ≡ true
here k = nat_eq_equiv.refl k

-- one key is asked for, or another
at_key : {X : Type 0} (k : ℕ) (a b : X) → cond (nat_eq k k) a b ≡ a
at_key k a b = ap (λ (t : Bool). cond t a b) (here k)

module _ (on shut on' shut' : Found) (j : AreJoined on shut) where
  -- if both look-ups stay the same, sessions and lines agree as before
  pub joined_same : ((n : ℕ) → on' n ≡ on n) → ((k : ℕ) → shut' k ≡ shut k) → AreJoined on' shut'
  joined_same lines closed = record {
    once = λ n m birth p q. j.once n m birth (sym (lines n) ∙ p) (sym (lines m) ∙ q);
    stands = λ n birth p. closed birth ∙ j.stands n birth (sym (lines n) ∙ p);
    connected = λ birth p. let x = j.connected birth (sym (closed birth) ∙ p) in (x.0, lines x.0 ∙ x.1);
  }

  -- a line comes that nobody is connected on
  pub joined_linked : (n : ℕ) → on n ≡ None → ((k : ℕ) → on' k ≡ cond (nat_eq n k) (Some None) (on k)) → ((k : ℕ) → shut' k ≡ shut k) → AreJoined on' shut'
  joined_linked n new lines closed = record {
    once = λ m i birth p q. j.once m i birth (old (nat_eq n m) m birth (sym (lines m) ∙ p)) (old (nat_eq n i) i birth (sym (lines i) ∙ q));
    stands = λ m birth p. closed birth ∙ j.stands m birth (old (nat_eq n m) m birth (sym (lines m) ∙ p));
    connected = λ birth p. let x = j.connected birth (sym (closed birth) ∙ p) in (x.0, other birth x.0 x.1);
  }
    where
      old : (t : Bool) (m birth : ℕ) → cond t (Some None) (on m) ≡ Some (Some birth) → on m ≡ Some (Some birth)
      old true m birth e = absurd cc
      old false m birth e = e

      other : (birth m : ℕ) → on m ≡ Some (Some birth) → on' m ≡ Some (Some birth)
      other birth m e = elim (cases_Bool (nat_eq n m)) [
        | inl same ↦
            let is : n ≡ m = eqb-true n m same in
            let clash : None ≡ Some (Some birth) = sym new ∙ ap on is ∙ e in
            absurd cc
        | inr differ ↦ lines m ∙ ap (λ (t : Bool). cond t (Some None) (on m)) differ ∙ e
      ]

  -- such a line goes
  pub joined_gone : (n : ℕ) → on n ≡ Some None → ((k : ℕ) → on' k ≡ cond (nat_eq n k) None (on k)) → ((k : ℕ) → shut' k ≡ shut k) → AreJoined on' shut'
  joined_gone n free lines closed = record {
    once = λ m i birth p q. j.once m i birth (old (nat_eq n m) m birth (sym (lines m) ∙ p)) (old (nat_eq n i) i birth (sym (lines i) ∙ q));
    stands = λ m birth p. closed birth ∙ j.stands m birth (old (nat_eq n m) m birth (sym (lines m) ∙ p));
    connected = λ birth p. let x = j.connected birth (sym (closed birth) ∙ p) in (x.0, other birth x.0 x.1);
  }
    where
      old : (t : Bool) (m birth : ℕ) → cond t None (on m) ≡ Some (Some birth) → on m ≡ Some (Some birth)
      old true m birth e = absurd cc
      old false m birth e = e

      other : (birth m : ℕ) → on m ≡ Some (Some birth) → on' m ≡ Some (Some birth)
      other birth m e = elim (cases_Bool (nat_eq n m)) [
        | inl same ↦
            let is : n ≡ m = eqb-true n m same in
            let clash : Some None ≡ Some (Some birth) = sym free ∙ ap on is ∙ e in
            absurd cc
        | inr differ ↦ lines m ∙ ap (λ (t : Bool). cond t None (on m)) differ ∙ e
      ]

  -- a session's line goes, and the session is closed
  pub joined_parted : (n birth moment : ℕ) → on n ≡ Some (Some birth) → ((k : ℕ) → on' k ≡ cond (nat_eq n k) None (on k)) → ((k : ℕ) → shut' k ≡ cond (nat_eq birth k) (Some (Some moment)) (shut k)) → AreJoined on' shut'
  joined_parted n birth moment its lines closed = record {
    once = λ m i x p q. j.once m i x (old (nat_eq n m) m x (sym (lines m) ∙ p)) (old (nat_eq n i) i x (sym (lines i) ∙ q));
    stands = λ m x p. still m x p;
    connected = λ x p. let y = j.connected x (open_ (nat_eq birth x) x (sym (closed x) ∙ p)) in (y.0, other x y.0 p y.1);
  }
    where
      old : (t : Bool) (m x : ℕ) → cond t None (on m) ≡ Some (Some x) → on m ≡ Some (Some x)
      old true m x e = absurd cc
      old false m x e = e

      open_ : (t : Bool) (x : ℕ) → cond t (Some (Some moment)) (shut x) ≡ Some None → shut x ≡ Some None
      open_ true x e = absurd cc
      open_ false x e = e

      -- what is on another line is another session
      still : (m x : ℕ) → on' m ≡ Some (Some x) → shut' x ≡ Some None
      still m x p =
          let was = old (nat_eq n m) m x (sym (lines m) ∙ p) in
          elim (cases_Bool (nat_eq birth x)) [
            | inl same ↦
                let is : birth ≡ x = eqb-true birth x same in
                let at_n : on n ≡ Some (Some x) = its ∙ ap (λ (y : ℕ). Some (Some y)) is in
                let gone : on' m ≡ None = lines m ∙ ap (λ (y : ℕ). cond (nat_eq n y) None (on m)) (sym (j.once n m x at_n was)) ∙ at_key n None (on m) in
                let clash : None ≡ Some (Some x) = sym gone ∙ p in
                absurd cc
            | inr differ ↦ closed x ∙ ap (λ (t : Bool). cond t (Some (Some moment)) (shut x)) differ ∙ j.stands m x was
          ]

      other : (x m : ℕ) → shut' x ≡ Some None → on m ≡ Some (Some x) → on' m ≡ Some (Some x)
      other x m p e = elim (cases_Bool (nat_eq n m)) [
        | inl same ↦
            let is : n ≡ m = eqb-true n m same in
            let both : Some (Some birth) ≡ Some (Some x) = sym its ∙ ap on is ∙ e in
            let mine : birth ≡ x = cc in
            let shut_now : shut' x ≡ Some (Some moment) = closed x ∙ ap (λ (y : ℕ). cond (nat_eq birth y) (Some (Some moment)) (shut x)) (sym mine) ∙ at_key birth (Some (Some moment)) (shut x) in
            let clash : Some (Some moment) ≡ Some None = sym shut_now ∙ p in
            absurd cc
        | inr differ ↦ lines m ∙ ap (λ (t : Bool). cond t None (on m)) differ ∙ e
      ]

  -- a session ends that isn't connected
  pub joined_ended : (birth : ℕ) → (shut birth ≡ Some None → ⊥) → ((k : ℕ) → on' k ≡ on k) → ((k : ℕ) → shut' k ≡ cond (nat_eq birth k) None (shut k)) → AreJoined on' shut'
  joined_ended birth apart lines closed = record {
    once = λ m i x p q. j.once m i x (sym (lines m) ∙ p) (sym (lines i) ∙ q);
    stands = λ m x p. still m x (sym (lines m) ∙ p);
    connected = λ x p. let y = j.connected x (open_ (nat_eq birth x) x (sym (closed x) ∙ p)) in (y.0, lines y.0 ∙ y.1);
  }
    where
      open_ : (t : Bool) (x : ℕ) → cond t None (shut x) ≡ Some None → shut x ≡ Some None
      open_ true x e = absurd cc
      open_ false x e = e

      still : (m x : ℕ) → on m ≡ Some (Some x) → shut' x ≡ Some None
      still m x p = elim (cases_Bool (nat_eq birth x)) [
        | inl same ↦ let is : birth ≡ x = eqb-true birth x same in absurd (apart (ap shut is ∙ j.stands m x p))
        | inr differ ↦ closed x ∙ ap (λ (t : Bool). cond t None (shut x)) differ ∙ j.stands m x p
      ]

  -- a session that isn't connected is, on a line that nobody is connected on
  pub joined_greeted : (n birth : ℕ) → on n ≡ Some None → (shut birth ≡ Some None → ⊥) → ((k : ℕ) → on' k ≡ cond (nat_eq n k) (Some (Some birth)) (on k)) → ((k : ℕ) → shut' k ≡ cond (nat_eq birth k) (Some None) (shut k))
      → AreJoined on' shut'
  joined_greeted n birth free apart lines closed = record {
    once = λ m i x p q. once (nat_eq n m) (nat_eq n i) m i x refl refl (sym (lines m) ∙ p) (sym (lines i) ∙ q);
    stands = λ m x p. stands (nat_eq n m) m x (sym (lines m) ∙ p);
    connected = λ x p. connected (nat_eq birth x) x refl (sym (closed x) ∙ p);
  }
    where
      opened : shut' birth ≡ Some None
      opened = closed birth ∙ at_key birth (Some None) (shut birth)

      greeted : on' n ≡ Some (Some birth)
      greeted = lines n ∙ at_key n (Some (Some birth)) (on n)

      -- nobody else is that session
      nowhere : (m : ℕ) → on m ≡ Some (Some birth) → ⊥
      nowhere m e = apart (j.stands m birth e)

      once : (t u : Bool) (m i x : ℕ) → nat_eq n m ≡ t → nat_eq n i ≡ u → cond t (Some (Some birth)) (on m) ≡ Some (Some x) → cond u (Some (Some birth)) (on i) ≡ Some (Some x) → m ≡ i
      once true true m i x a c p q = sym (eqb-true n m a) ∙ eqb-true n i c
      once true false m i x a c p q = let is : x ≡ birth = cc in absurd (nowhere i (q ∙ ap (λ (y : ℕ). Some (Some y)) is))
      once false true m i x a c p q = let is : x ≡ birth = cc in absurd (nowhere m (p ∙ ap (λ (y : ℕ). Some (Some y)) is))
      once false false m i x a c p q = j.once m i x p q

      still : (t : Bool) (x : ℕ) → nat_eq birth x ≡ t → shut x ≡ Some None → shut' x ≡ Some None
      still true x a e = let is : birth ≡ x = eqb-true birth x a in ap shut' (sym is) ∙ opened
      still false x a e = closed x ∙ ap (λ (t : Bool). cond t (Some None) (shut x)) a ∙ e

      stands : (t : Bool) (m x : ℕ) → cond t (Some (Some birth)) (on m) ≡ Some (Some x) → shut' x ≡ Some None
      stands true m x p = let is : birth ≡ x = cc in ap shut' (sym is) ∙ opened
      stands false m x p = still (nat_eq birth x) x refl (j.stands m x p)

      keeps : (t : Bool) (m x : ℕ) → nat_eq n m ≡ t → on m ≡ Some (Some x) → on' m ≡ Some (Some x)
      keeps true m x a e =
          let is : n ≡ m = eqb-true n m a in
          let clash : Some None ≡ Some (Some x) = sym free ∙ ap on is ∙ e in
          absurd cc
      keeps false m x a e = lines m ∙ ap (λ (t : Bool). cond t (Some (Some birth)) (on m)) a ∙ e

      connected : (t : Bool) (x : ℕ) → nat_eq birth x ≡ t → cond t (Some None) (shut x) ≡ Some None → (m : ℕ) × (on' m ≡ Some (Some x))
      connected true x a p = (n, greeted ∙ ap (λ (y : ℕ). Some (Some y)) (eqb-true birth x a))
      connected false x a p = let y = j.connected x p in (y.0, keeps (nat_eq n y.0) y.0 x refl y.1)
