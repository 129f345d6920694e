-- If what a receiver sees of the world is a run of its hop, the law of the hop holds of what it has read.
use Rattle.std.proofs.Common.{◌≡◌, ℕ, zero, suc, ◌+◌, ◌<◌, ◌≤◌, Bool, true, false, cond, ◌&&◌, List, [], ◌∷◌, map, Option, Some, None, nat_eq, eqb-true, refl, sym, ap, subst, ◌∙◌, arith, inl, inr}
use Rattle.std.specs.Prelude.{⊤, All, filter, option_map, slice_get, is_some}
use Rattle.std.specs.List.{AllByRecursion, cons_option}
use Rattle.std.proofs.lemmas.Bool.{cases_Bool}
use Rattle.std.proofs.lemmas.Cmp.{nat_eq_equiv}
use Rattle.std.proofs.lemmas.List.Elements.{All-from_recursion, recursion_from_All}
use Rattle.std.proofs.lemmas.List.Sums.{sum_by-cons}
use Rattle.std.proofs.lemmas.Option.{slice_get-map}
use Rattle.std.proofs.lemmas.Slice.Eq.{bytes_eq-Decides}
use Rattle.mqtt_base.specs.declared.session.Cause.{Cause}
use Rattle.mqtt_base.specs.declared.session.Cause.TheVariants.{Direct, Share, Retained}
use Rattle.mqtt_base.specs.declared.session.CopyId.{CopyId}
use Rattle.mqtt_base.specs.declared.session.Ending.TheVariants.{Taken, Expired, Dropped}
use Rattle.mqtt_base.specs.declared.session.Phase.{Phase}
use Rattle.mqtt_base.specs.declared.session.Phase.TheVariants.{Waiting, Sent, Released, Oversize}
use Rattle.mqtt_base.specs.declared.session.Qos.TheVariants.{AtLeastOnce, ExactlyOnce}
use Rattle.mqtt_flow.specs.declared.outbound.entry.Entry.{Entry as FlowEntry}
use Rattle.mqtt_flow.specs.outbound.OutboundCourse.{Carries, carried_by}
use Rattle.mqtt_flow.specs.outbound.OutboundWorld.{Lot, standing, past, renewed, TopicAndPayload, World as Hop, run, start}
use Rattle.mqtt_flow.specs.outbound.Receiver.{Handed, handed, Rising}
use Rattle.mqtt_flow.proofs.outbound_lemmas.outbound.HopLaw.{good_run, once_of, taken_of, released_of, expired_of, dropped_of, in_order_of, read_of, carried_run}
use Rattle.mqtt_world_model.specs.model.Ends.{Entry, Receiver}
use Rattle.mqtt_world_model.specs.model.Laws.{copies_in, count_of, handed_count, is_copy, is_released, read_count, released_in, same_cause, stand_among}
use Rattle.mqtt_records.specs.messages.Queue.{CopyRow}
use Rattle.mqtt_records.specs.declared.state.session.Session.{Session}
use Rattle.mqtt_rules.specs.step.State.{Broker, session_named}
use Rattle.mqtt_world_laws.specs.receiver.Handing.{IsOf, IsRun}
use Rattle.mqtt_world_laws.specs.receiver.Seen.{AreQueued, Numbering, StandOn, handed_in, lot_on, number_of, seen, still_standing, went_in}
use Rattle.mqtt_world_laws.specs.receiver.Tags.{AreNumbered, Names, WasTagged, id_of}

-- ---- copies that are the same

both : (x y : Bool) → (x && y) ≡ true → (x ≡ true) × (y ≡ true)
both true y h = (refl, h)
both false y h = absurd cc

cause_is : (c d : Cause) → same_cause c d ≡ true → c ≡ d
cause_is Direct Direct h = refl
cause_is Direct (Share group) h = absurd cc
cause_is Direct (Retained n) h = absurd cc
cause_is (Share group) Direct h = absurd cc
cause_is (Share group) (Share other) h = ap Share ((bytes_eq-Decides group other).0 h)
cause_is (Share group) (Retained n) h = absurd cc
cause_is (Retained n) Direct h = absurd cc
cause_is (Retained n) (Share group) h = absurd cc
cause_is (Retained n) (Retained m) h = ap Retained (eqb-true n m h)

same_as_itself : (c : Cause) → same_cause c c ≡ true
same_as_itself Direct = refl
same_as_itself (Share group) = (bytes_eq-Decides group group).1 refl
same_as_itself (Retained n) = nat_eq_equiv.refl n

-- what is the same copy is equal
pub copy_is : (c d : CopyId) → is_copy c d ≡ true → c ≡ d
copy_is c d h =
    let x = both (nat_eq c.publication d.publication) (nat_eq c.birth d.birth && same_cause c.cause d.cause) h in
    let y = both (nat_eq c.birth d.birth) (same_cause c.cause d.cause) x.1 in
    let p = eqb-true c.publication d.publication x.0 in
    let q = eqb-true c.birth d.birth y.0 in
    let s = cause_is c.cause d.cause y.1 in
    λ i. record { publication = p i; birth = q i; cause = s i }

-- a copy is itself
pub copy_itself : (c : CopyId) → is_copy c c ≡ true
copy_itself c = rw (nat_eq_equiv.refl c.publication, nat_eq_equiv.refl c.birth, same_as_itself c.cause) refl

-- ---- how often a copy was handed over

times_cons : (c d : CopyId) (es : List CopyId) → count_of c (d ∷ es) ≡ cond (is_copy c d) 1 0 + count_of c es
times_cons c d es = sum_by-cons (λ y. cond (is_copy c y) 1 0) d es

-- a copy that entered is told from others by its number
pub told_apart : (number : Numbering) (ids : List CopyId) (c d : CopyId) → Names number ids (Some c) → Names number ids (Some d) → is_copy c d ≡ nat_eq (number c) (number d)
told_apart number ids c d its other = elim (cases_Bool (nat_eq (number c) (number d))) [
  | inl same ↦
      let n : number c ≡ number d = eqb-true (number c) (number d) same in
      let there : Some c ≡ Some d = sym its ∙ (ap (slice_get ids) n ∙ other) in
      let is : c ≡ d = cc in
      subst (λ (x : CopyId). is_copy c x ≡ nat_eq (number c) (number x)) is (copy_itself c ∙ sym (nat_eq_equiv.refl (number c)))
  | inr apart ↦ by (is_copy c d) refl apart
]
  where
    by : (t : Bool) → is_copy c d ≡ t → nat_eq (number c) (number d) ≡ false → is_copy c d ≡ nat_eq (number c) (number d)
    by false e f = e ∙ sym f
    by true e f =
        let is : c ≡ d = copy_is c d e in
        let yes : nat_eq (number c) (number d) ≡ true = subst (λ (x : CopyId). nat_eq (number c) (number x) ≡ true) is (nat_eq_equiv.refl (number c)) in
        let clash : true ≡ false = sym yes ∙ f in
        absurd cc

-- what was read, each with its tag
counted : (number : Numbering) (ids : List CopyId) (c : CopyId) (es : List Entry) → Names number ids (Some c) → AllByRecursion (WasTagged number ids) es
    → count_of c (copies_in es) ≡ handed (number c) (map (handed_in number) es)
counted number ids c [] its h = refl
counted number ids c (e ∷ es) its h = by e.copy h.0 (counted number ids c es its h.1)
  where
    by : (o : Option CopyId) → Names number ids o → count_of c (copies_in es) ≡ handed (number c) (map (handed_in number) es)
        → count_of c (cons_option o (copies_in es)) ≡ cond (nat_eq (number c) (number_of number o)) 1 0 + handed (number c) (map (handed_in number) es)
    by None none rest = absurd none
    by (Some d) other rest =
        times_cons c d (copies_in es)
        ∙ (ap (λ (t : Bool). cond t 1 0 + count_of c (copies_in es)) (told_apart number ids c d its other)
        ∙ ap (λ (n : ℕ). cond (nat_eq (number c) (number d)) 1 0 + n) rest)

abbrev one_if : Bool → ℕ
one_if t = cond t 1 0

-- whichever copy is asked for
at_most : (number : Numbering) (c : CopyId) (es : List Entry) → count_of c (copies_in es) ≤ handed (number c) (map (handed_in number) es)
at_most number c [] = omega arith
at_most number c (e ∷ es) = by e.copy (at_most number c es)
  where
    by : (o : Option CopyId) → count_of c (copies_in es) ≤ handed (number c) (map (handed_in number) es) → count_of c (cons_option o (copies_in es)) ≤ cond (nat_eq (number c) (number_of number o)) 1 0 + handed (number c) (map (handed_in number) es)
    by None less = omega (arith, less)
    by (Some d) less = elim (cases_Bool (is_copy c d)) [
      | inl same ↦
          let is : c ≡ d = copy_is c d same in
          let yes : nat_eq (number c) (number d) ≡ true = subst (λ (x : CopyId). nat_eq (number c) (number x) ≡ true) is (nat_eq_equiv.refl (number c)) in
          let count : count_of c (d ∷ copies_in es) ≡ 1 + count_of c (copies_in es) = times_cons c d (copies_in es) ∙ ap (λ (t : Bool). cond t 1 0 + count_of c (copies_in es)) same in
          let its : one_if (nat_eq (number c) (number d)) ≡ one_if true = ap one_if yes in
          omega (arith, less, count, its)
      | inr other ↦
          let count : count_of c (d ∷ copies_in es) ≡ 0 + count_of c (copies_in es) = times_cons c d (copies_in es) ∙ ap (λ (t : Bool). cond t 1 0 + count_of c (copies_in es)) other in
          omega (arith, less, count)
    ]

-- ---- the copies of a run

-- a copy at its place is one that tags name
named_at : (number : Numbering) (copies : List Lot) (n : ℕ) (l : Lot) → AreNumbered number (map id_of copies) → slice_get copies n ≡ Some l
    → (number (id_of l) ≡ n) × Names number (map id_of copies) (Some (id_of l))
named_at number copies n l h at =
    let there : slice_get (map id_of copies) n ≡ Some (id_of l) = slice_get-map id_of copies n ∙ ap (option_map id_of) at in
    let is = h n (id_of l) there in
    (is, ap (slice_get (map id_of copies)) is ∙ there)

-- those that stand are at some place
each_standing : (P : Lot → Type 0) (copies : List Lot) → ((n : ℕ) (l : Lot) → slice_get copies n ≡ Some l → P l) → AllByRecursion P (still_standing copies)
each_standing P [] f = tt
each_standing P (standing e m ∷ lots) f = (f 0 (standing e m) refl, each_standing P lots (λ n l. f (suc n) l))
each_standing P (past ending e m ∷ lots) f = each_standing P lots (λ n l. f (suc n) l)

module _ (number : Numbering) (largest : ℕ) (copies : List Lot) (r : Receiver) (b : Broker) (h : IsRun number largest copies r b) where
  carry : (P : Hop → Type 0) → P (run largest h.events start) → P (seen number copies r b)
  carry P law = subst P (sym h.seen_is) law

  -- a receiver was handed a copy at most once
  pub at_most_once : (c : CopyId) → handed_count c r ≤ 1
  at_most_once c =
      let law = carry (λ w. handed (number c) w.ledger ≤ 1) (once_of (run largest h.events start) (good_run largest h.events) (number c)) in
      let less = at_most number c r.ledger in
      omega (arith, law, less)

  -- what a receiver was handed is a copy that entered
  pub all_tagged : All (λ (e : Entry). is_some e.copy ≡ true) r.ledger
  all_tagged = All-from_recursion (λ (e : Entry). is_some e.copy ≡ true) r.ledger (each r.ledger h.tagged.ledger)
    where
      by : (o : Option CopyId) → Names number (map id_of copies) o → is_some o ≡ true
      by None none = absurd none
      by (Some c) its = refl

      each : (es : List Entry) → AllByRecursion (WasTagged number (map id_of copies)) es → AllByRecursion (λ (e : Entry). is_some e.copy ≡ true) es
      each [] t = tt
      each (e ∷ es) t = (by e.copy t.0, each es t.1)

  -- what is said of a copy by its number is said of the copy
  of_number : (P : ℕ → Type 0) (n : ℕ) (l : Lot) → slice_get copies n ≡ Some l → P (handed n (map (handed_in number) r.ledger)) → P (handed_count (id_of l) r)
  of_number P n l at it =
      let x = named_at number copies n l h.numbered at in
      let is = counted number (map id_of copies) (id_of l) r.ledger x.1 h.tagged.ledger ∙ ap (λ (k : ℕ). handed k (map (handed_in number) r.ledger)) x.0 in
      subst P (sym is) it

  of_number_once : (P : ℕ → Type 0) (n : ℕ) (l : Lot) → slice_get copies n ≡ Some l → P (handed n (map (handed_in number) r.once)) → P (read_count (id_of l) r)
  of_number_once P n l at it =
      let x = named_at number copies n l h.numbered at in
      let is = counted number (map id_of copies) (id_of l) r.once x.1 h.tagged.once ∙ ap (λ (k : ℕ). handed k (map (handed_in number) r.once)) x.0 in
      subst P (sym is) it

  -- a copy of QoS 2 that ended as taken was handed over once
  pub taken_is : (n : ℕ) (e : FlowEntry) (m : TopicAndPayload) → slice_get copies n ≡ Some (past Taken e m) → e.copy.qos ≡ ExactlyOnce → handed_count e.copy.id r ≡ 1
  taken_is n e m at qos =
      let law = carry (λ w. slice_get w.copies n ≡ Some (past Taken e m) → handed n w.ledger ≡ 1) (λ it. taken_of (run largest h.events start) (good_run largest h.events) n e m it qos) in
      of_number (λ k. k ≡ 1) n (past Taken e m) at (law at)

  -- a copy of QoS 1 that ended as taken was read at least once
  pub read_is : (n : ℕ) (e : FlowEntry) (m : TopicAndPayload) → slice_get copies n ≡ Some (past Taken e m) → e.copy.qos ≡ AtLeastOnce → 1 ≤ read_count e.copy.id r
  read_is n e m at qos =
      let law = carry (λ w. slice_get w.copies n ≡ Some (past Taken e m) → 1 ≤ handed n w.reads) (λ it. read_of (run largest h.events start) (good_run largest h.events) n e m it qos) in
      of_number_once (λ k. 1 ≤ k) n (past Taken e m) at (law at)

  -- a copy that expired was not handed over
  pub expired_is : (n : ℕ) (e : FlowEntry) (m : TopicAndPayload) → slice_get copies n ≡ Some (past Expired e m) → handed_count e.copy.id r ≡ 0
  expired_is n e m at =
      let law = carry (λ w. slice_get w.copies n ≡ Some (past Expired e m) → handed n w.ledger ≡ 0) (λ it. expired_of (run largest h.events start) (good_run largest h.events) n e m it) in
      of_number (λ k. k ≡ 0) n (past Expired e m) at (law at)

  -- a copy that made way was not handed over
  pub dropped_is : (n : ℕ) (e : FlowEntry) (m : TopicAndPayload) → slice_get copies n ≡ Some (past Dropped e m) → handed_count e.copy.id r ≡ 0
  dropped_is n e m at =
      let law = carry (λ w. slice_get w.copies n ≡ Some (past Dropped e m) → handed n w.ledger ≡ 0) (λ it. dropped_of (run largest h.events start) (good_run largest h.events) n e m it) in
      of_number (λ k. k ≡ 0) n (past Dropped e m) at (law at)

  -- ---- released copies

  abbrev IsIfReleased : Lot → Type 0
  IsIfReleased (standing e m) = is_released e.phase ≡ true → handed_count e.copy.id r ≡ 1
  IsIfReleased (past ending e m) = ⊤

  each_released : (n : ℕ) (l : Lot) → slice_get copies n ≡ Some l → IsIfReleased l
  each_released n (past ending e m) at = tt
  each_released n (standing e m) at = by e.phase refl
    where
      by : (phase : Phase) → e.phase ≡ phase → is_released e.phase ≡ true → handed_count e.copy.id r ≡ 1
      by Waiting is so = let clash : false ≡ true = sym (ap is_released is) ∙ so in absurd cc
      by (Sent i) is so = let clash : false ≡ true = sym (ap is_released is) ∙ so in absurd cc
      by (Oversize i order) is so = let clash : false ≡ true = sym (ap is_released is) ∙ so in absurd cc
      by (Released i order) is so =
          let law = carry (λ w. slice_get w.copies n ≡ Some (standing e m) → handed n w.ledger ≡ 1) (λ it. released_of (run largest h.events start) (good_run largest h.events) n i order e m it is) in
          of_number (λ k. k ≡ 1) n (standing e m) at (law at)

  abbrev IsHanded : CopyId → Type 0
  IsHanded c = handed_count c r ≡ 1

  released_ids : (went : List ℕ) (queue : List CopyRow) → AllByRecursion IsIfReleased (map (lot_on went) queue)
      → AllByRecursion IsHanded (map (λ (e : CopyRow). e.copy.id) (filter (λ (e : CopyRow). is_released e.phase) queue))
  released_ids went [] t = tt
  released_ids went (e ∷ es) t = by (is_released e.phase) t.0 (released_ids went es t.1)
    where
      by : (z : Bool) → (z ≡ true → IsHanded e.copy.id)
          → AllByRecursion IsHanded (map (λ (x : CopyRow). x.copy.id) (filter (λ (x : CopyRow). is_released x.phase) es))
          → AllByRecursion IsHanded (map (λ (x : CopyRow). x.copy.id) (cond z (e ∷ filter (λ (x : CopyRow). is_released x.phase) es) (filter (λ (x : CopyRow). is_released x.phase) es)))
      by true it rest = (it refl, rest)
      by false it rest = rest

  renewed_all : (ls : List Lot) → AllByRecursion IsIfReleased ls → AllByRecursion IsIfReleased (map renewed ls)
  renewed_all [] t = tt
  renewed_all (standing e m ∷ ls) t = (t.0, renewed_all ls t.1)
  renewed_all (past ending e m ∷ ls) t = (tt, renewed_all ls t.1)

  -- a copy that stands released was handed over once
  pub released_once : All IsHanded (released_in (session_named r.client b.records))
  released_once = All-from_recursion IsHanded (released_in (session_named r.client b.records)) (by (session_named r.client b.records) h.queue_is)
    where
      all : AllByRecursion IsIfReleased (still_standing copies)
      all = each_standing IsIfReleased copies each_released

      on : (queue : List CopyRow) (went : Option (List ℕ)) → StandOn copies queue went → AllByRecursion IsHanded (map (λ (e : CopyRow). e.copy.id) (filter (λ (e : CopyRow). is_released e.phase) queue))
      on queue None e = released_ids [] queue (subst (λ (ls : List Lot). AllByRecursion IsIfReleased ls) e (renewed_all (still_standing copies) all))
      on queue (Some went) e = released_ids went queue (subst (λ (ls : List Lot). AllByRecursion IsIfReleased ls) e all)

      by : (o : Option Session) → AreQueued copies o b → AllByRecursion IsHanded (released_in o)
      by None e = tt
      by (Some s) e = on s.queue (went_in s.birth b) e

  -- ---- in the order of the queue

  -- each is a copy at a place from k on
  abbrev IsBehind : ℕ → List CopyId → Entry → Type 0
  IsBehind k ids e = (m : ℕ) × (c : CopyId) × (e.copy ≡ Some c) × (number c ≡ k + m) × (slice_get ids m ≡ Some c)

  behind_all : (es : List Entry) → AllByRecursion (WasTagged number (map id_of copies)) es → AllByRecursion (IsBehind 0 (map id_of copies)) es
  behind_all [] t = tt
  behind_all (e ∷ es) t = (by e.copy refl t.0, behind_all es t.1)
    where
      by : (o : Option CopyId) → e.copy ≡ o → Names number (map id_of copies) o → IsBehind 0 (map id_of copies) e
      by None is none = absurd none
      by (Some c) is its = (number c, c, is, omega arith, its)

  -- one place further on, for those whose numbers are above
  abbrev IsFrom : ℕ → Entry → Type 0
  IsFrom k e = k ≤ number_of number e.copy

  further : (k : ℕ) (y : CopyId) (ids : List CopyId) (es : List Entry) → AllByRecursion (IsBehind k (y ∷ ids)) es → AllByRecursion (IsFrom (suc k)) es → AllByRecursion (IsBehind (suc k) ids) es
  further k y ids [] t from = tt
  further k y ids (e ∷ es) t from = (by t.0.0 t.0.1 t.0.2 t.0.3 t.0.4, further k y ids es t.1 from.1)
    where
      by : (m : ℕ) (c : CopyId) → e.copy ≡ Some c → number c ≡ k + m → slice_get (y ∷ ids) m ≡ Some c → IsBehind (suc k) ids e
      by zero c is n at =
          let low : suc k ≤ number c = subst (λ (o : Option CopyId). suc k ≤ number_of number o) is from.0 in
          absurd (omega (arith, low, n))
      by (suc m) c is n at = (m, c, is, n ∙ omega arith, at)

  above_all : (n k : ℕ) (es : List Entry) → k ≤ n → AllByRecursion (λ (y : Handed). n < y.copy) (map (handed_in number) es) → AllByRecursion (IsFrom (suc k)) es
  above_all n k [] le t = tt
  above_all n k (e ∷ es) le t = let less = t.0 in (omega (arith, le, less), above_all n k es le t.1)

  in_order_from : (k : ℕ) (es : List Entry) (ids : List CopyId) → AllByRecursion (IsBehind k ids) es → Rising (map (handed_in number) es) → stand_among (copies_in es) ids ≡ true
  in_order_from k [] [] t rise = refl
  in_order_from k [] (y ∷ ids) t rise = refl
  in_order_from k (e ∷ es) [] t rise = let it = t.0.4 in absurd cc
  in_order_from k (e ∷ es) (y ∷ ids) t rise =
      by (λ h. in_order_from (suc k) es ids h rise.1) (λ h. in_order_from (suc k) (e ∷ es) ids h rise) t.0.0 t.0.1 t.0.2 t.0.3 t.0.4
    where
      later : (n : ℕ) → number_of number e.copy ≡ n → AllByRecursion (λ (z : Handed). n < z.copy) (map (handed_in number) es)
      later n is = subst (λ (x : ℕ). AllByRecursion (λ (z : Handed). x < z.copy) (map (handed_in number) es)) is (recursion_from_All (λ (z : Handed). number_of number e.copy < z.copy) (map (handed_in number) es) rise.0)

      go : (AllByRecursion (IsBehind (suc k) ids) es → stand_among (copies_in es) ids ≡ true)
          → (AllByRecursion (IsBehind (suc k) ids) (e ∷ es) → stand_among (copies_in (e ∷ es)) ids ≡ true)
          → (c : CopyId) (z : Bool) → is_copy c y ≡ z → e.copy ≡ Some c → k ≤ number c → (z ≡ false → suc k ≤ number c) → cond z (stand_among (copies_in es) ids) (stand_among (c ∷ copies_in es) ids) ≡ true
      go rest all c true same is le more =
          rest (further k y ids es t.1 (above_all (number c) k es le (later (number c) (ap (number_of number) is))))
      go rest all c false same is le more =
          let low = more refl in
          let first : AllByRecursion (IsFrom (suc k)) (e ∷ es) = (subst (λ (o : Option CopyId). suc k ≤ number_of number o) (sym is) low, above_all (number c) k es le (later (number c) (ap (number_of number) is))) in
          ap (λ (o : Option CopyId). stand_among (cons_option o (copies_in es)) ids) (sym is) ∙ all (further k y ids (e ∷ es) t first)

      by : (AllByRecursion (IsBehind (suc k) ids) es → stand_among (copies_in es) ids ≡ true)
          → (AllByRecursion (IsBehind (suc k) ids) (e ∷ es) → stand_among (copies_in (e ∷ es)) ids ≡ true)
          → (m : ℕ) (c : CopyId) → e.copy ≡ Some c → number c ≡ k + m → slice_get (y ∷ ids) m ≡ Some c → stand_among (copies_in (e ∷ es)) (y ∷ ids) ≡ true
      by rest all zero c is n at =
          let here : Some y ≡ Some c = at in
          let y_is : y ≡ c = cc in
          let same : is_copy c y ≡ true = subst (λ (x : CopyId). is_copy c x ≡ true) (sym y_is) (copy_itself c) in
          ap (λ (o : Option CopyId). stand_among (cons_option o (copies_in es)) (y ∷ ids)) is
          ∙ go rest all c (is_copy c y) refl is (omega (arith, n)) (λ other. let clash : true ≡ false = sym same ∙ other in absurd cc)
      by rest all (suc m) c is n at =
          ap (λ (o : Option CopyId). stand_among (cons_option o (copies_in es)) (y ∷ ids)) is
          ∙ go rest all c (is_copy c y) refl is (omega (arith, n)) (λ other. omega (arith, n))

  -- entries whose numbers rise are of copies in the order in which these entered
  pub rises_in_order : (es : List Entry) → AllByRecursion (WasTagged number (map id_of copies)) es → Rising (map (handed_in number) es) → stand_among (copies_in es) (map id_of copies) ≡ true
  rises_in_order es tagged rise = in_order_from 0 es (map id_of copies) (behind_all es tagged) rise

  -- copies were handed over in the order in which they entered
  pub in_order : stand_among (copies_in r.ledger) (map id_of copies) ≡ true
  in_order = rises_in_order r.ledger h.tagged.ledger (carry (λ w. Rising w.ledger) (in_order_of (run largest h.events start) (good_run largest h.events)))

  -- ---- what it carries

  of_all : (es : List Entry) → AllByRecursion (WasTagged number (map id_of copies)) es → Carries copies (map (handed_in number) es) → AllByRecursion (IsOf number copies) es
  of_all [] t c = tt
  of_all (e ∷ es) t c = (by e.copy refl t.0 c.0, of_all es t.1 c.1)
    where
      by : (o : Option CopyId) → e.copy ≡ o → Names number (map id_of copies) o → option_map carried_by (slice_get copies (number_of number e.copy)) ≡ Some e.body → IsOf number copies e
      by None is none it = absurd none
      by (Some d) is its it = (d, is, ap (λ (x : Option CopyId). option_map carried_by (slice_get copies (number_of number x))) (sym is) ∙ it)

  -- what a receiver was handed, and what it has read of QoS 1, carries what the copies do
  pub carried_all : AllByRecursion (IsOf number copies) r.ledger × AllByRecursion (IsOf number copies) r.once
  carried_all =
      let law = carry (λ w. Carries w.copies w.ledger × Carries w.copies w.reads) (carried_run largest h.events) in
      (of_all r.ledger h.tagged.ledger law.0, of_all r.once h.tagged.once law.1)
