-- What is at hand is what is told, others are found as before, and a stretch of the queue stays one.
use Rattle.std.proofs.Common.{◌≡◌, ◌≢◌, ℕ, Bool, true, false, not, ◌&&◌, List, [], ◌∷◌, ◌++◌, nat_eq, refl, sym, ap, ◌∙◌, arith, inl, inr, append_assoc}
use Rattle.std.specs.Prelude.{Some, None}
use Rattle.std.proofs.lemmas.Bool.{cases_Bool, eqb-true}
use Rattle.std.proofs.lemmas.Cmp.{nat_eq_equiv}
use Rattle.std.proofs.lemmas.List.{map-append}
use Rattle.std.proofs.lemmas.List.Elements.{filter-append}
use Rattle.mqtt_flow.specs.ring.AtHand.{ContentsAtHand, IsStretch, SayWhatIsTold, are_below, content_at, content_in, entered, has_room, left, places, queue_without, without}
use Rattle.mqtt_flow.proofs.ring_lemmas.RingLemmas.{apart, below_cons, content_in-past}

-- both of two are true
both_true : (a b : Bool) → a && b ≡ true → (a ≡ true) × (b ≡ true)
both_true true b is = (refl, is)
both_true false b is = absurd cc

module _ {X : Type 0} where
  -- ---- what is told

  -- what is found is what is told
  pub found_is_told : (told : ℕ → X) (es : List (ℕ × X)) (place : ℕ) (x : X) → SayWhatIsTold told es → content_in place es ≡ Some x → x ≡ told place
  found_is_told told [] place x says is = absurd cc
  found_is_told told (e ∷ es) place x says is = elim (cases_Bool (nat_eq e.0 place)) [
    | inl here ↦
        let it : Some e.1 ≡ Some x = rw here at is in
        let same : e.1 ≡ x = cc in
        sym same ∙ says.0 ∙ ap told (eqb-true e.0 place here)
    | inr other ↦ let there : content_in place es ≡ Some x = rw other at is in found_is_told told es place x says.1 there
  ]

  told_push : (told : ℕ → X) (es : List (ℕ × X)) (place : ℕ) → SayWhatIsTold told es → SayWhatIsTold told (es ++ (place, told place) ∷ [])
  told_push told [] place says = (refl, tt)
  told_push told (e ∷ es) place says = (says.0, told_push told es place says.1)

  -- a copy that enters and says what is told leaves it so
  pub entered_is_told : (told : ℕ → X) (a : ContentsAtHand X) (place : ℕ) → SayWhatIsTold told a.entries → SayWhatIsTold told (entered place (told place) a).entries
  entered_is_told told a place says = elim (cases_Bool (a.reaches_end && has_room place a.entries)) [
    | inl put ↦ rw put (told_push told a.entries place says)
    | inr dropped ↦ rw dropped says
  ]

  told_without : (told after : ℕ → X) (es : List (ℕ × X)) (place : ℕ) → ((p : ℕ) → p ≢ place → after p ≡ told p) → SayWhatIsTold told es → SayWhatIsTold after (without place es)
  told_without told after [] place others says = tt
  told_without told after (e ∷ es) place others says = elim (cases_Bool (nat_eq e.0 place)) [
    | inl gone ↦ rw gone (told_without told after es place others says.1)
    | inr kept ↦
        let differ : e.0 ≢ place = λ same. let is : nat_eq e.0 place ≡ true = ap (λ k. nat_eq k place) same ∙ nat_eq_equiv.refl place in let no : true ≡ false = sym is ∙ kept in cc in
        rw kept (says.0 ∙ sym (others e.0 differ), told_without told after es place others says.1)
  ]

  -- a copy that leaves leaves it so, whatever is told of its place
  pub left_is_told : (told after : ℕ → X) (a : ContentsAtHand X) (place : ℕ) → ((p : ℕ) → p ≢ place → after p ≡ told p) → SayWhatIsTold told a.entries → SayWhatIsTold after (left place a).entries
  left_is_told told after a place others says = told_without told after a.entries place others says

  -- ---- what is found

  below_not_found : (place : ℕ) (es : List (ℕ × X)) → are_below place es ≡ true → content_in place es ≡ None
  below_not_found place [] below = refl
  below_not_found place (e ∷ es) below =
      let on = below_cons place e es below in
      let less = on.0 in
      rw (apart e.0 place (λ same. omega (arith, same, less))) (below_not_found place es on.1)

  -- a copy that is put in is found
  pub entered_is_found : (a : ContentsAtHand X) (place : ℕ) (x : X) → a.reaches_end ≡ true → has_room place a.entries ≡ true → content_at place (entered place x a) ≡ Some x
  entered_is_found a place x ends room =
      let put : a.reaches_end && has_room place a.entries ≡ true = rw ends room in
      let below = (both_true _ (are_below place a.entries) room).1 in
      let own : content_in place ((place, x) ∷ []) ≡ Some x = rw (nat_eq_equiv.refl place) refl in
      rw put (content_in-past place a.entries ((place, x) ∷ []) (below_not_found place a.entries below) ∙ own)

  push_others : (place other : ℕ) (x : X) (es : List (ℕ × X)) → nat_eq place other ≡ false → content_in other (es ++ (place, x) ∷ []) ≡ content_in other es
  push_others place other x [] differ = rw differ refl
  push_others place other x (e ∷ es) differ = elim (cases_Bool (nat_eq e.0 other)) [
    | inl here ↦ rw here refl
    | inr there ↦ rw there (push_others place other x es differ)
  ]

  -- and every other is found as before
  pub entered_others : (a : ContentsAtHand X) (place other : ℕ) (x : X) → other ≢ place → content_at other (entered place x a) ≡ content_at other a
  entered_others a place other x differ = elim (cases_Bool (a.reaches_end && has_room place a.entries)) [
    | inl put ↦ rw put (push_others place other x a.entries (apart place other (λ same. differ (sym same))))
    | inr dropped ↦ rw dropped refl
  ]

  without_gone : (place : ℕ) (es : List (ℕ × X)) → content_in place (without place es) ≡ None
  without_gone place [] = refl
  without_gone place (e ∷ es) = elim (cases_Bool (nat_eq e.0 place)) [
    | inl gone ↦ rw gone (without_gone place es)
    | inr kept ↦ rw kept (rw kept (without_gone place es))
  ]

  without_others : (place other : ℕ) (es : List (ℕ × X)) → other ≢ place → content_in other (without place es) ≡ content_in other es
  without_others place other [] differ = refl
  without_others place other (e ∷ es) differ = elim (cases_Bool (nat_eq e.0 place)) [
    | inl gone ↦
        let is = eqb-true e.0 place gone in
        let not_here : nat_eq e.0 other ≡ false = apart e.0 other (λ same. differ (sym same ∙ is)) in
        rw (gone, not_here) (without_others place other es differ)
    | inr kept ↦ elim (cases_Bool (nat_eq e.0 other)) [
      | inl here ↦ rw (kept, here) refl
      | inr there ↦ rw (kept, there) (without_others place other es differ)
    ]
  ]

  -- a copy that left is not found
  pub left_is_gone : (a : ContentsAtHand X) (place : ℕ) → content_at place (left place a) ≡ None
  left_is_gone a place = without_gone place a.entries

  -- and every other is
  pub left_others : (a : ContentsAtHand X) (place other : ℕ) → other ≢ place → content_at other (left place a) ≡ content_at other a
  left_others a place other differ = without_others place other a.entries differ

  -- ---- the queue

  -- a stretch is at hand still when a copy has entered
  pub entered_stretch : (queue : List ℕ) (a : ContentsAtHand X) (place : ℕ) (x : X) → IsStretch queue a → IsStretch (queue ++ place ∷ []) (entered place x a)
  entered_stretch queue a place x s = elim (cases_Bool (a.reaches_end && has_room place a.entries)) [
    | inl put ↦
        let none = s.ends (both_true a.reaches_end (has_room place a.entries) put).0 in
        let pushed : places (a.entries ++ (place, x) ∷ []) ≡ places a.entries ++ place ∷ [] = map-append (λ (e : ℕ × X). e.0) a.entries ((place, x) ∷ []) in
        let whole : queue ++ place ∷ [] ≡ s.front ++ (places (a.entries ++ (place, x) ∷ []) ++ []) =
        ap (λ l. l ++ place ∷ []) (s.joined ∙ ap (λ l. s.front ++ (places a.entries ++ l)) none)
        ∙ append_assoc s.front (places a.entries ++ []) (place ∷ [])
        ∙ ap (λ l. s.front ++ l) (append_assoc (places a.entries) [] (place ∷ []) ∙ sym pushed ∙ sym (append_nil (places (a.entries ++ (place, x) ∷ [])))) in
        rw put (record { front = s.front; back = []; joined = whole; ends = λ e. refl })
    | inr dropped ↦
        let whole : queue ++ place ∷ [] ≡ s.front ++ (places a.entries ++ (s.back ++ place ∷ [])) =
        ap (λ l. l ++ place ∷ []) s.joined
        ∙ append_assoc s.front (places a.entries ++ s.back) (place ∷ [])
        ∙ ap (λ l. s.front ++ l) (append_assoc (places a.entries) s.back (place ∷ [])) in
        rw dropped (record { front = s.front; back = s.back ++ place ∷ []; joined = whole; ends = λ e. absurd cc })
  ]
    where
      append_nil : (l : List ℕ) → l ++ [] ≡ l
      append_nil [] = refl
      append_nil (p ∷ l) = ap (λ k. p ∷ k) (append_nil l)

  places_without : (place : ℕ) (es : List (ℕ × X)) → queue_without place (places es) ≡ places (without place es)
  places_without place [] = refl
  places_without place (e ∷ es) = elim (cases_Bool (nat_eq e.0 place)) [
    | inl gone ↦ rw gone (places_without place es)
    | inr kept ↦ rw kept (ap (λ l. e.0 ∷ l) (places_without place es))
  ]

  -- and when any copy has left
  pub left_stretch : (queue : List ℕ) (a : ContentsAtHand X) (place : ℕ) → IsStretch queue a → IsStretch (queue_without place queue) (left place a)
  left_stretch queue a place s = record {
    front = queue_without place s.front;
    back = queue_without place s.back;
    joined =
        ap (queue_without place) s.joined
        ∙ filter-append (λ p. not (nat_eq p place)) s.front (places a.entries ++ s.back)
        ∙ ap (λ l. queue_without place s.front ++ l)
        (filter-append (λ p. not (nat_eq p place)) (places a.entries) s.back
        ∙ ap (λ l. l ++ queue_without place s.back) (places_without place a.entries));
    ends = λ e. ap (queue_without place) (s.ends e);
  }
