-- What a broker has written tells its copies apart, so that a world may begin on it in which each copy enters and ends once.
use Rattle.std.proofs.Common.{◌≡◌, ◌≢◌, ℕ, ◌≤◌, true, false, List, [], ◌∷◌, map, nat_eq, refl, sym, ap, subst, ◌∙◌, arith, inl, inr}
use Rattle.std.specs.Prelude.{flat_map}
use Rattle.std.specs.List.{AllByRecursion}
use Rattle.std.proofs.lemmas.Bool.{cases_Bool, eqb-true, ltb-true}
use Rattle.std.proofs.lemmas.Cmp.{nat_eq_equiv}
use Rattle.mqtt_base.specs.declared.session.Cause.{Cause}
use Rattle.mqtt_base.specs.declared.session.Cause.TheVariants.{Direct, Share, Retained}
use Rattle.mqtt_base.specs.declared.session.CopyId.{CopyId}
use Rattle.mqtt_records.specs.messages.Queue.{CopyRow}
use Rattle.mqtt_records.specs.state.Session.{birth_of}
use Rattle.mqtt_records.specs.declared.state.records.Records.{Records}
use Rattle.mqtt_records.specs.declared.state.session.Session.{Session}
use Rattle.mqtt_records.specs.lists.Order.{IsAbove, IsAscending}
use Rattle.mqtt_world_model.specs.model.Laws.{count_of, standing_in}
use Rattle.mqtt_world_laws.specs.acceptance.Identities.{TellsApart, is_ahead}
use Rattle.mqtt_world_laws.proofs.acceptance_lemmas.copies.Counting.{count_append}
use Rattle.mqtt_world_laws.proofs.acceptance_lemmas.copies.Told.{count_none, count_once}
use Rattle.mqtt_broker.specs.reopening.Bounds.{HasBounds, HaveBounds, IsBoundCopy}
use Rattle.mqtt_broker.specs.reopening.Identities.{HasIdentities, HaveIdentities, IsGivenCause, IsGivenCopy}

module _ (c : CopyId) where
  -- ---- a queue

  -- none of another session's
  others : (birth : ℕ) (es : List CopyRow) → c.birth ≢ birth → AllByRecursion (IsBoundCopy birth) es → AllByRecursion (λ x. c ≢ x) (map (λ (e : CopyRow). e.copy.id) es)
  others birth [] other h = tt
  others birth (e ∷ es) other h = ((λ is. other (ap (λ (x : CopyId). x.birth) is ∙ h.0.session)), others birth es other h.1)

  -- none that may come yet
  given : (x : Cause) (n p q : ℕ) → is_ahead x n p q ≡ true → n ≤ p → IsGivenCause q x → ⊥
  given Direct n p q ahead le h = let less = ltb-true p n ahead in omega (arith, less, le)
  given (Share group) n p q ahead le h = let less = ltb-true p n ahead in omega (arith, less, le)
  given (Retained m) n p q ahead le h = let less = ltb-true q m ahead in let up = h.1 in omega (arith, less, up)

  not_to_come : (p q : ℕ) (es : List CopyRow) → is_ahead c.cause c.publication p q ≡ true → AllByRecursion (λ row. IsGivenCopy p q row.copy) es → AllByRecursion (λ x. c ≢ x) (map (λ (e : CopyRow). e.copy.id) es)
  not_to_come p q [] ahead h = tt
  not_to_come p q (e ∷ es) ahead h = (
    (λ is. given e.copy.id.cause e.copy.id.publication p q (subst (λ (x : CopyId). is_ahead x.cause x.publication p q ≡ true) is ahead) h.0.publication.1 h.0.cause),
    not_to_come p q es ahead h.1,
  )

  -- ---- all queues

  abbrev N : List Session → ℕ
  N ss = count_of c (flat_map standing_in ss)

  above_none : (n : ℕ) (ss : List Session) → c.birth ≡ n → IsAbove birth_of n ss → AllByRecursion HasBounds ss → N ss ≡ 0
  above_none n [] is up h = refl
  above_none n (s ∷ ss) is up h =
      let all = count_append c (standing_in s) (flat_map standing_in ss) in
      let less = up.0 in
      let first = count_none c (standing_in s) (others s.birth s.queue (λ same. omega (arith, same, is, less)) h.0) in
      let rest = above_none n ss is up.1 h.1 in
      omega (arith, all, first, rest)

  one_at_most : (p q : ℕ) (ss : List Session) → IsAscending birth_of ss → AllByRecursion (HasIdentities p q) ss → AllByRecursion HasBounds ss → N ss ≤ 1
  one_at_most p q [] up h bounds = let none : N [] ≡ 0 = refl in omega (arith, none)
  one_at_most p q (s ∷ ss) up h bounds =
      let all = count_append c (standing_in s) (flat_map standing_in ss) in
      let rest = one_at_most p q ss up.1 h.1 bounds.1 in
      elim (cases_Bool (nat_eq c.birth s.birth)) [
        | inl here ↦
            let few = count_once c (standing_in s) h.0.differ in
            let none = above_none s.birth ss (eqb-true c.birth s.birth here) up.0 bounds.1 in
            omega (arith, all, few, none)
        | inr other ↦
            let none = count_none c (standing_in s) (others s.birth s.queue (λ is. differs is other) bounds.0) in
            omega (arith, all, none, rest)
      ]
    where
      differs : c.birth ≡ s.birth → nat_eq c.birth s.birth ≡ false → ⊥
      differs is other =
          let same : nat_eq s.birth s.birth ≡ false = subst (λ (n : ℕ). nat_eq n s.birth ≡ false) is other in
          let clash : true ≡ false = sym (nat_eq_equiv.refl s.birth) ∙ same in
          absurd cc

  none_to_come : (p q : ℕ) (ss : List Session) → is_ahead c.cause c.publication p q ≡ true → AllByRecursion (HasIdentities p q) ss → N ss ≡ 0
  none_to_come p q [] ahead h = refl
  none_to_come p q (s ∷ ss) ahead h =
      let all = count_append c (standing_in s) (flat_map standing_in ss) in
      let first = count_none c (standing_in s) (not_to_come p q s.queue ahead h.0.each) in
      let rest = none_to_come p q ss ahead h.1 in
      omega (arith, all, first, rest)

-- with copies that differ and numbers within bounds, a publication is told from others
pub tells_apart : (r : Records) → HaveIdentities r → HaveBounds r → TellsApart r
tells_apart r h bounds = record {
  once = λ c. one_at_most c r.publications r.subscribes r.sessions h.ordered.sessions.ascending h.sessions bounds.sessions;
  numbered = λ c ahead. none_to_come c r.publications r.subscribes r.sessions ahead h.sessions;
  retained = h.differ;
}
