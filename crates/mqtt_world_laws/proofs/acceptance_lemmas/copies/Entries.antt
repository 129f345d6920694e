-- What enters is counted off: a copy that enters could come yet before and no more after, so that none enters twice.
use Rattle.std.proofs.Common.{◌≡◌, ℕ, suc, ◌+◌, ◌≤◌, Bool, true, false, cond, not, ◌++◌, List, [], ◌∷◌, map, filter, Option, Some, None, nat_eq, nat_lt, refl, sym, ap, subst, ◌∙◌, arith, inl, inr}
use Rattle.std.specs.Prelude.{◌≢◌}
use Rattle.std.specs.List.{AllByRecursion, cons_option}
use Rattle.std.proofs.lemmas.Bool.{cases_Bool, eqb-true, ltb-true, lt-ltb}
use Rattle.std.proofs.lemmas.Cmp.{nat_eq_equiv}
use Rattle.mqtt_base.specs.declared.limits.TheConstants.{RETAINED_LIMIT}
use Rattle.mqtt_base.specs.declared.session.Cause.{Cause}
use Rattle.mqtt_base.specs.declared.session.Cause.TheVariants.{Direct, Share, Retained}
use Rattle.mqtt_base.specs.declared.session.CopyId.{CopyId}
use Rattle.mqtt_records.specs.declared.messages.message.RetainedMessage.{RetainedMessage}
use Rattle.mqtt_records.specs.state.Records.{kept_place}
use Rattle.mqtt_records.specs.declared.state.change.Change.{Change}
use Rattle.mqtt_records.specs.declared.state.session.Session.{Session}
use Rattle.mqtt_records.specs.lists.Distinct.{AllDiffer}
use Rattle.mqtt_topic.specs.names.Names.{is_empty}
use Rattle.mqtt_rules.specs.declared.step.Capacity.{Capacity}
use Rattle.mqtt_rules.specs.step.Deeds.{whose, Message, Origin, Subscribe, Deed, Accept, Begin, Count, At, Keep, Forget, after, after_all, rows_of_all, series}
use Rattle.mqtt_rules.specs.step.Routing.{CopyTo, accepted_copies, deliver, forgets, is_queued, kept_message, place_of_kept, publish, retain_by, retained_of}
use Rattle.mqtt_rules.specs.step.State.{Broker, Env, MemberChoice, session_at}
use Rattle.mqtt_rules.specs.step.Step.{Call, at_moment, deeds, env_of, opened, opening, stepped, unopened, with_moment}
use Rattle.mqtt_rules.specs.step.Subscribe as sub
use Rattle.mqtt_rules.proofs.step_lemmas.acts.Acts.{brought_to}
use Rattle.mqtt_rules.proofs.step_lemmas.numbers.Copies.{IsBeside, IsNumbered, Kinds, kinds, kinds_at, kinds_deed, beside_deliver, each_filter, each_more, routed_numbered}
use Rattle.mqtt_rules.proofs.step_lemmas.acts.Goods.{AreGood, after_append}
use Rattle.mqtt_rules.proofs.step_lemmas.flight.FlightRows.{all_put}
use Rattle.mqtt_rules.proofs.step_lemmas.fit.StandLaw.{Orders}
use Rattle.mqtt_world_model.specs.model.Run.{entered_in}
use Rattle.mqtt_world_model.specs.model.Laws.{count_of}
use Rattle.mqtt_world_laws.specs.acceptance.Entries.{queued_ids}
use Rattle.mqtt_world_laws.specs.acceptance.Identities.{is_ahead}
use Rattle.mqtt_world_laws.proofs.acceptance_lemmas.copies.CopiesApart.{Any, number_of, accepted_differ, queued_differ, brought_differ, brought_for}
use Rattle.mqtt_world_laws.proofs.acceptance_lemmas.copies.Counting.{E, e_append}
use Rattle.mqtt_world_laws.proofs.acceptance_lemmas.copies.Differ.{differ_filtered, put_differ}
use Rattle.mqtt_world_laws.proofs.acceptance_lemmas.copies.EachAct.{Says, call_says, opening_says, says_still, whatever}
use Rattle.mqtt_world_laws.proofs.acceptance_lemmas.copies.Entering.{IsStill, AreStill, no_entry, publish_enters, grant_enters}
use Rattle.mqtt_world_laws.proofs.acceptance_lemmas.copies.RoutedApart.{IsCauseOf, ids_to}
use Rattle.mqtt_world_laws.proofs.acceptance_lemmas.copies.Told.{count_none, count_once}

-- ---- retained messages

-- each is of a publication up to the last, and no two are of one
pub record AreKept (k : Kinds) : Type 0 where
  pub given : AllByRecursion (λ x. x.publication ≤ k.publications) k.retained
  pub differ : AllDiffer (map number_of k.retained)

kept_later : (k j : Kinds) → j.retained ≡ k.retained → k.publications ≤ j.publications → AreKept k → AreKept j
kept_later k j same more h = record {
  given = subst (λ (ks : List RetainedMessage). AllByRecursion (λ x. x.publication ≤ j.publications) ks) (sym same) (each_more (λ x. x.publication ≤ k.publications) (λ x. x.publication ≤ j.publications) (λ x le. omega (arith, le, more)) k.retained h.given);
  differ = subst (λ (ks : List RetainedMessage). AllDiffer (map number_of ks)) (sym same) h.differ;
}

forgotten : (place : ℕ) (k : Kinds) → AreKept k → AreKept (record k { retained = filter (λ x. not (nat_eq (kept_place x) place)) k.retained })
forgotten place k h =
    let stays = λ (x : RetainedMessage). not (nat_eq (kept_place x) place) in
    record { given = each_filter (λ x. x.publication ≤ k.publications) stays k.retained h.given; differ = differ_filtered number_of stays k.retained h.differ }

-- what RETAIN does: it gives no number
record Retains (b d : Broker) : Type 0 where
  pub publications : d.records.publications ≡ b.records.publications
  pub subscribes : d.records.subscribes ≡ b.records.subscribes
  pub kept : AreKept (kinds d.records)

-- ---- what can come yet, as numbers are given

abbrev pub left : ℕ → ℕ → ℕ
left p n = cond (nat_lt p n) 1 0

-- a number that is given can come no more, and once
taken : (p n count : ℕ) → n ≡ suc p → count ≤ 1 → count + left (suc p) n ≤ left p n
taken p n count is once =
    let before : left p n ≡ 1 = rw (lt-ltb p n (omega (arith, is))) refl in
    elim (cases_Bool (nat_lt (suc p) n)) [
      | inl less ↦ let more = ltb-true (suc p) n less in absurd (omega (arith, more, is))
      | inr other ↦ let later : left (suc p) n ≡ 0 = rw other refl in omega (arith, before, later, once)
    ]

-- and another number stays as it was, or passes
passed : (p n count : ℕ) → count ≡ 0 → count + left (suc p) n ≤ left p n
passed p n count none = elim (cases_Bool (nat_lt (suc p) n)) [
  | inl less ↦
      let more = ltb-true (suc p) n less in
      let before : left p n ≡ 1 = rw (lt-ltb p n (omega (arith, more))) refl in
      let later : left (suc p) n ≡ 1 = rw less refl in
      omega (arith, before, later, none)
  | inr other ↦ let later : left (suc p) n ≡ 0 = rw other refl in omega (arith, later, none)
]

-- 1 while it can come yet
abbrev pub ahead : Cause → ℕ → ℕ → ℕ → ℕ
ahead x n p q = cond (is_ahead x n p q) 1 0

same_number : (n : ℕ) → nat_eq n n ≡ false → ⊥
same_number n other = let is = nat_eq_equiv.refl n in let clash : true ≡ false = sym is ∙ other in absurd cc

module _ (c : CopyId) where
  abbrev pub U : Kinds → ℕ
  U k = ahead c.cause c.publication k.publications k.subscribes

  -- what enters by deeds could come before them, and can no more after them
  pub record Enters (ds : List Deed) (k j : Kinds) : Type 0 where
    pub counted : E c ds + U j ≤ U k
    pub kept : AreKept j

  abbrev pub Counted : List Deed → Broker → Type 0
  Counted ds b = AreKept (kinds b.records) → Enters ds (kinds b.records) (kinds (after_all ds b).records)

  -- what enters by deeds, and by others behind them, is counted off together
  pub enters_next : (xs ys : List Deed) (a b d : Kinds) → Enters xs a b → Enters ys b d → Enters (xs ++ ys) a d
  enters_next xs ys a b d p q =
      let all = e_append c xs ys in
      let first = p.counted in
      let rest = q.counted in
      record { counted = omega (arith, all, first, rest); kept = q.kept }

  counted_next : (xs ys : List Deed) (b : Broker) → Counted xs b → Counted ys (after_all xs b) → Counted (xs ++ ys) b
  counted_next xs ys b p q k =
      let first = p k in
      subst (λ (d : Broker). Enters (xs ++ ys) (kinds b.records) (kinds d.records)) (sym (after_append xs ys b))
      (enters_next xs ys (kinds b.records) (kinds (after_all xs b).records) (kinds (after_all ys (after_all xs b)).records) first (q first.kept))

  -- ---- deeds that let nothing enter

  one_same : (d : Deed) (b : Broker) → kinds (after d b).records ≡ kinds b.records → entered_in d ≡ None → Counted (d ∷ []) b
  one_same d b same none k =
      let zero : E c (d ∷ []) ≡ 0 = ap (λ (o : Option CopyId). count_of c (cons_option o [])) none in
      subst (Enters (d ∷ []) (kinds b.records)) (sym same) (record { counted = omega (arith, zero); kept = k })

  one_still : (d : Deed) (b : Broker) → IsStill d → Counted (d ∷ []) b
  one_still (Accept number origin m) b h k = absurd h
  one_still (Count n) b h k = absurd h
  one_still (Keep kept) b h k = absurd h
  one_still (Forget place) b h k = let zero : E c (Forget place ∷ []) ≡ 0 = refl in record { counted = omega (arith, zero); kept = forgotten place (kinds b.records) k }
  one_still (At who part) b h k = one_same (At who part) b (kinds_at who part b) (no_entry (At who part) h) k
  one_still (Begin row None) b h k = one_same (Begin row None) b refl refl k
  one_still (Begin row (Some will)) b h k = one_same (Begin row (Some will)) b refl refl k
  one_still d b h k = one_same d b refl refl k

  all_still : (ds : List Deed) (b : Broker) → AreStill ds → Counted ds b
  all_still [] b h k = let zero : E c [] ≡ 0 = refl in record { counted = omega (arith, zero); kept = k }
  all_still (d ∷ ds) b h k = counted_next (d ∷ []) ds b (one_still d b h.0) (all_still ds (after d b) h.1) k

  -- ---- deliveries

  kinds_all : (ds : List Deed) (b : Broker) → AreGood IsBeside ds b → kinds (after_all ds b).records ≡ kinds b.records
  kinds_all [] b beside = refl
  kinds_all (d ∷ ds) b beside = kinds_all ds (after d b) beside.1 ∙ kinds_deed d b beside.0

  kinds_delivered : (env : Env) (ds : List CopyTo) (b : Broker) → kinds (after_all (series (map (deliver env) ds) b) b).records ≡ kinds b.records
  kinds_delivered env [] b = refl
  kinds_delivered env (d ∷ ds) b =
      let first = deliver env d b in
      let a = after_all first b in
      ap (λ (x : Broker). kinds x.records) (after_append first (series (map (deliver env) ds) a) b)
      ∙ kinds_delivered env ds a ∙ kinds_all first b (beside_deliver env d b)

  -- ---- a publication

  -- the copies are of its number, each once, and none is of a retained message
  of_number : (number now : ℕ) (ds : List CopyTo) → c.publication ≢ number → AllByRecursion (IsNumbered number now) ds → AllByRecursion (λ x. c ≢ x) (ids_to ds)
  of_number number now [] other h = tt
  of_number number now (d ∷ ds) other h =
      let its = h.0.publication in
      ((λ e. other (ap (λ (x : CopyId). x.publication) e ∙ its)), of_number number now ds other h.1)

  of_retained : (n : ℕ) (ds : List CopyTo) → c.cause ≡ Retained n → AllByRecursion (λ d. IsCauseOf Any d.copy.id.cause) ds → AllByRecursion (λ x. c ≢ x) (ids_to ds)
  of_retained n [] is h = tt
  of_retained n (d ∷ ds) is h = ((λ e. by d.copy.id.cause h.0 (sym is ∙ ap (λ (x : CopyId). x.cause) e)), of_retained n ds is h.1)
    where
      by : (x : Cause) → IsCauseOf Any x → Retained n ≡ x → ⊥
      by Direct q e = absurd cc
      by (Share group) q e = absurd cc
      by (Retained m) q e = q

  queued_apart : (ds : List CopyTo) → AllByRecursion (λ x. c ≢ x) (ids_to ds) → AllByRecursion (λ x. c ≢ x) (queued_ids ds)
  queued_apart [] h = tt
  queued_apart (d ∷ ds) h = elim (cases_Bool (is_queued d)) [
    | inl stays ↦ rw stays (h.0, queued_apart ds h.1)
    | inr goes ↦ rw goes (queued_apart ds h.1)
  ]

  number_given : (p q now : ℕ) (ds : List CopyTo) → AllDiffer (ids_to ds) → AllByRecursion (λ d. IsCauseOf Any d.copy.id.cause) ds → AllByRecursion (IsNumbered (suc p) now) ds
      → count_of c (queued_ids ds) + ahead c.cause c.publication (suc p) q ≤ ahead c.cause c.publication p q
  number_given p q now ds differ caused numbered = by c.cause refl
    where
      n : ℕ
      n = count_of c (queued_ids ds)

      its : n + left (suc p) c.publication ≤ left p c.publication
      its = elim (cases_Bool (nat_eq c.publication (suc p))) [
        | inl is ↦ taken p c.publication n (eqb-true c.publication (suc p) is) (count_once c (queued_ids ds) (queued_differ ds differ))
        | inr other ↦ passed p c.publication n (count_none c (queued_ids ds) (queued_apart ds (of_number (suc p) now ds (differs other) numbered)))
      ]
        where
          differs : nat_eq c.publication (suc p) ≡ false → c.publication ≢ suc p
          differs unlike e = let is : nat_eq (suc p) (suc p) ≡ false = subst (λ (x : ℕ). nat_eq x (suc p) ≡ false) e unlike in same_number (suc p) is

      by : (x : Cause) → c.cause ≡ x → n + ahead x c.publication (suc p) q ≤ ahead x c.publication p q
      by Direct e = its
      by (Share group) e = its
      by (Retained m) e =
          let none : n ≡ 0 = count_none c (queued_ids ds) (queued_apart ds (of_retained m ds e caused)) in
          omega (arith, none)

  forgets_made : (o : Option RetainedMessage) (b : Broker) → AreKept (kinds b.records) → Retains b (after_all (forgets o) b)
  forgets_made None b k = record { publications = refl; subscribes = refl; kept = k }
  forgets_made (Some x) b k = record { publications = refl; subscribes = refl; kept = forgotten x.place (kinds b.records) k }

  new_number : (number : ℕ) (ks : List RetainedMessage) → AllByRecursion (λ x. suc x.publication ≤ number) ks → AllByRecursion (λ x. number ≢ x.publication) ks
  new_number number ks h = each_more (λ x. suc x.publication ≤ number) (λ x. number ≢ x.publication) (λ x less e. omega (arith, less, e)) ks h

  retain_made : (retain empty : Bool) (m : Message) (b : Broker) → AreKept (kinds b.records) → AllByRecursion (λ x. suc x.publication ≤ b.records.publications) b.records.retained
      → Retains b (after_all (retain_by retain empty b.records.publications m b) b)
  retain_made false empty m b k less = record { publications = refl; subscribes = refl; kept = k }
  retain_made true true m b k less = forgets_made (retained_of m.topic b.records) b k
  retain_made true false m b k less =
      let new = kept_message b.records.publications b.now m (place_of_kept (retained_of m.topic b.records) b.records.retained) in
      record {
        publications = refl;
        subscribes = refl;
        kept = record {
          given = all_put kept_place (λ x. x.publication ≤ b.records.publications) RETAINED_LIMIT new b.records.retained (omega arith) k.given;
          differ = put_differ kept_place number_of RETAINED_LIMIT new b.records.retained (new_number b.records.publications b.records.retained less) k.differ;
        };
      }

  publish_counted : (env : Env) (origin : Origin) (m : Message) (ds : List CopyTo) (b : Broker) → Orders b → accepted_copies env m b ≡ Some ds → Counted (publish env origin m ds b) b
  publish_counted env origin m ds b h e k =
      let p = b.records.publications in
      let a = after (Accept (suc p) origin m) b in
      let next = retain_by m.retain (is_empty m.payload) (suc p) m a in
      let d = after_all next a in
      let all = series (map (deliver env) ds) d in
      let accepted : AreKept (kinds a.records) = kept_later (kinds b.records) (kinds a.records) refl (omega arith) k in
      let made = retain_made m.retain (is_empty m.payload) m a accepted (each_more (λ x. x.publication ≤ p) (λ x. suc x.publication ≤ suc p) (λ x le. omega (arith, le)) b.records.retained k.given) in
      let last : after_all (publish env origin m ds b) b ≡ after_all all d = after_append next all a in
      let same : kinds (after_all (publish env origin m ds b) b).records ≡ kinds d.records = ap (λ (x : Broker). kinds x.records) last ∙ kinds_delivered env ds d in
      let of_one = accepted_differ env m b ds h e in
      let entered : E c (publish env origin m ds b) ≡ count_of c (queued_ids ds) = ap (count_of c) (publish_enters env origin m ds b h e) in
      let less = number_given p b.records.subscribes b.now ds of_one.differ of_one.caused (routed_numbered env m b ds e) in
      let later : U (kinds d.records) ≡ ahead c.cause c.publication (suc p) b.records.subscribes =
      ap (λ (x : ℕ). ahead c.cause c.publication x d.records.subscribes) made.publications ∙ ap (λ (x : ℕ). ahead c.cause c.publication (suc p) x) made.subscribes in
      subst (Enters (publish env origin m ds b) (kinds b.records)) (sym same) (record { counted = omega (arith, entered, less, later); kept = made.kept })

  -- ---- a filter that is granted

  of_filter : (number : ℕ) (ds : List CopyTo) → c.cause ≢ Retained number → AllByRecursion (λ d. d.copy.id.cause ≡ Retained number) ds → AllByRecursion (λ x. c ≢ x) (ids_to ds)
  of_filter number [] other h = tt
  of_filter number (d ∷ ds) other h = ((λ e. other (ap (λ (x : CopyId). x.cause) e ∙ h.0)), of_filter number ds other h.1)

  filter_given : (p q : ℕ) (ds : List CopyTo) → AllDiffer (ids_to ds) → AllByRecursion (λ d. d.copy.id.cause ≡ Retained (suc q)) ds
      → count_of c (queued_ids ds) + ahead c.cause c.publication p (suc q) ≤ ahead c.cause c.publication p q
  filter_given p q ds differ all = by c.cause refl
    where
      n : ℕ
      n = count_of c (queued_ids ds)

      none : c.cause ≢ Retained (suc q) → n ≡ 0
      none other = count_none c (queued_ids ds) (queued_apart ds (of_filter (suc q) ds other all))

      by : (x : Cause) → c.cause ≡ x → n + ahead x c.publication p (suc q) ≤ ahead x c.publication p q
      by Direct e = let zero = none (λ is. clash (sym e ∙ is)) in omega (arith, zero)
        where
          clash : Direct ≡ Retained (suc q) → ⊥
          clash same = absurd cc
      by (Share group) e = let zero = none (λ is. clash (sym e ∙ is)) in omega (arith, zero)
        where
          clash : Share group ≡ Retained (suc q) → ⊥
          clash same = absurd cc
      by (Retained m) e = elim (cases_Bool (nat_eq m (suc q))) [
        | inl is ↦ taken q m n (eqb-true m (suc q) is) (count_once c (queued_ids ds) (queued_differ ds differ))
        | inr other ↦ passed q m n (none (λ is. differs other (its is)))
      ]
        where
          its : c.cause ≡ Retained (suc q) → m ≡ suc q
          its is = let same : Retained m ≡ Retained (suc q) = sym e ∙ is in cc

          differs : nat_eq m (suc q) ≡ false → m ≡ suc q → ⊥
          differs unlike is = let clash : nat_eq (suc q) (suc q) ≡ false = subst (λ (x : ℕ). nat_eq x (suc q) ≡ false) is unlike in same_number (suc q) clash

  grants_counted : (env : Env) (w : sub.Wish) (s : Session) (b : Broker) → session_at s.birth b.records ≡ Some s → Counted (sub.granted_filter env (sub.next_number b.records) s w (brought_to w s b) b).deeds b
  grants_counted env w s b e k =
      let q = b.records.subscribes in
      let ds = brought_to w s b in
      let x = sub.subscription (suc q) s w in
      let a = after (Count (suc q)) b in
      let d = after (At (whose s) (Subscribe x)) a in
      let acts = (sub.granted_filter env (suc q) s w ds b).deeds in
      let same : kinds (after_all acts b).records ≡ kinds a.records = kinds_delivered env (filter is_queued ds) d ∙ kinds_at (whose s) (Subscribe x) a in
      let entered : E c acts ≡ count_of c (queued_ids ds) = ap (count_of c) (grant_enters env w s b e) in
      let less = filter_given b.records.publications q ds (brought_differ w s b k.differ) (brought_for w s b) in
      subst (Enters acts (kinds b.records)) (sym same) (record { counted = omega (arith, entered, less); kept = kept_later (kinds b.records) (kinds a.records) refl (omega arith) k })

  -- ---- calls and openings

  counting : (env : Env) → Says env whatever Orders Counted
  counting env = says_still env Counted all_still counted_next (publish_counted env) (grants_counted env)

  kinds_done : (rows : List Change) (b : Broker) → kinds (with_moment rows b).records ≡ kinds b.records
  kinds_done [] b = refl
  kinds_done (row ∷ rows) b = refl

  -- what enters by a call is counted off
  pub call_counted : (limits : Capacity) (choice : MemberChoice) (now : ℕ) (call : Call) (b : Broker) → Orders b → AreKept (kinds b.records)
      → Enters (deeds limits choice now call b) (kinds b.records) (kinds (stepped limits choice now call b).records)
  call_counted limits choice now call b h k =
      let env = env_of limits choice b in
      let a = at_moment now b in
      let ds = deeds limits choice now call b in
      subst (Enters ds (kinds b.records)) (sym (kinds_done (rows_of_all ds a.records) (after_all ds a))) (call_says env whatever Orders Counted (counting env) call (λ n packet e. tt) a h k)

  -- what enters by an opening is counted off
  pub opening_counted : (limits : Capacity) (choice : MemberChoice) (now : ℕ) (b : Broker) → Orders b → AreKept (kinds b.records)
      → Enters (opening (env_of limits choice (unopened now b.records)) (unopened now b.records)) (kinds b.records) (kinds (opened limits choice now b.records).records)
  opening_counted limits choice now b h k =
      let a = unopened now b.records in
      let env = env_of limits choice a in
      let ds = opening env a in
      subst (Enters ds (kinds b.records)) (sym (kinds_done (rows_of_all ds a.records) (after_all ds a))) (opening_says env whatever Orders Counted (counting env) a h k)
