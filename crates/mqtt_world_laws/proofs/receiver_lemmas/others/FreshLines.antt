-- Calls on other lines leave a line on which nobody is connected as it is, or close it.
use Rattle.std.proofs.Common.{◌≡◌, ℕ, ◌<◌, true, false, not, List, [], ◌∷◌, ◌++◌, filter, map, Option, Some, None, nat_eq, refl, sym, ap, subst, ◌∙◌, arith, inl, inr}
use Rattle.std.specs.Prelude.{find}
use Rattle.std.specs.List.{AllByRecursion}
use Rattle.std.proofs.lemmas.Bool.{cases_Bool, eqb-true}
use Rattle.std.proofs.lemmas.Cmp.{nat_eq_equiv}
use Rattle.mqtt_world_model.specs.model.Lines.{is_one_of}
use Rattle.mqtt_world_model.specs.model.Seats.{HasNobody, IsElsewhere, IsIdle}
use Rattle.mqtt_world_model.proofs.model_lemmas.others.Far.{less_differs}
use Rattle.mqtt_world_model.proofs.model_lemmas.seats.Seeing.{done_lines}
use Rattle.mqtt_rules.proofs.step_lemmas.acts.Acts.{IsCallOf, leads_call}
use Rattle.mqtt_rules.proofs.step_lemmas.flight.FlightRows.{all_more}
use Rattle.mqtt_rules.proofs.step_lemmas.acts.Goods.{AreGood}
use Rattle.mqtt_rules.proofs.step_lemmas.lines.LineRows.{numbered}
use Rattle.mqtt_rules.specs.step.Deeds.{At, Deed, Gone, Leave, LinePart, Link, On, Part, after, after_all, fresh_line, line_after, lines_after, lines_at, on_line, rows_of_all, without_place}
use Rattle.mqtt_rules.specs.step.State.{Line as BrokerLine, Broker, Env, MemberChoice, is_of, line_at}
use Rattle.mqtt_rules.specs.step.Step.{Call, NewLine, Input, BadInput, Lost, Pump, Tick, at_moment, deeds, deeds_of, env_of, stepped}
use Rattle.mqtt_rules.specs.step.Tick.{is_silent}
use Rattle.mqtt_rules.specs.declared.step.Capacity.{Capacity}
use Rattle.mqtt_world_laws.specs.receiver.Own.{IsFreeLine}
use Rattle.mqtt_world_laws.proofs.receiver_lemmas.others.AwaitingOthers.{IsApart, IsApartHere, IsFree, apart_law, free_deeds, others, outside_at}
use Rattle.mqtt_world_laws.proofs.receiver_lemmas.others.IdleLines.{first_idle, pump_none}
use Rattle.mqtt_world_laws.proofs.receiver_lemmas.others.LateConnect.{late_deeds}

module _ (n : ℕ) where
  abbrev ns : List ℕ
  ns = n ∷ []

  abbrev found : List BrokerLine → Option BrokerLine
  found ls = find (λ (l : BrokerLine). nat_eq l.number n) ls

  inside : is_one_of (Some n) (n ∷ []) ≡ true
  inside = rw (nat_eq_equiv.refl n) refl

  outside : (m : ℕ) → is_one_of (Some m) (n ∷ []) ≡ false → nat_eq m n ≡ false
  outside m out = elim (cases_Bool (nat_eq m n)) [
    | inl same ↦
        let clash : true ≡ false = sym inside ∙ (ap (λ (k : ℕ). is_one_of (Some k) (n ∷ [])) (sym (eqb-true m n same)) ∙ out) in
        absurd cc
    | inr other ↦ other
  ]

  is_outside : (m : ℕ) → nat_eq m n ≡ false → is_one_of (Some m) (n ∷ []) ≡ false
  is_outside m other = elim (cases_Bool (nat_eq n m)) [
    | inl same ↦
        let yes : nat_eq m n ≡ true = ap (λ (k : ℕ). nat_eq m k) (eqb-true n m same) ∙ nat_eq_equiv.refl m in
        let clash : true ≡ false = sym yes ∙ other in
        absurd cc
    | inr differs ↦ rw differs refl
  ]

  -- ---- a line found after a deed was there before it

  abbrev Was : List BrokerLine → List BrokerLine → Type 0
  Was new old = (l : BrokerLine) → found new ≡ Some l → found old ≡ Some l

  was_on : (now m : ℕ) (part : LinePart) (ls : List BrokerLine) → nat_eq m n ≡ false → Was (on_line now m part ls) ls
  was_on now m part [] other l e = absurd cc
  was_on now m part (x ∷ ls) other l e = elim (cases_Bool (nat_eq x.number m)) [
    | inl here ↦
        let not_n : nat_eq x.number n ≡ false = ap (λ (k : ℕ). nat_eq k n) (eqb-true x.number m here) ∙ other in
        let not_new : nat_eq (line_after now part x).number n ≡ false = ap (λ (k : ℕ). nat_eq k n) (numbered now part x) ∙ not_n in
        let there : found (line_after now part x ∷ ls) ≡ Some l = rw here at e in
        let rest : found ls ≡ Some l = rw not_new at there in
        rw not_n rest
    | inr further ↦
        let there : found (x ∷ on_line now m part ls) ≡ Some l = rw further at e in
        elim (cases_Bool (nat_eq x.number n)) [
          | inl it ↦ let same : Some x ≡ Some l = rw it at there in rw it same
          | inr not_it ↦ let rest : found (on_line now m part ls) ≡ Some l = rw not_it at there in rw not_it (was_on now m part ls other l rest)
        ]
  ]

  was_link : (m now : ℕ) (ls : List BrokerLine) → nat_eq m n ≡ false → Was (ls ++ fresh_line m now ∷ []) ls
  was_link m now [] other l e = let none : found [] ≡ Some l = rw other at e in none
  was_link m now (x ∷ ls) other l e = elim (cases_Bool (nat_eq x.number n)) [
    | inl it ↦ let same : Some x ≡ Some l = rw it at e in rw it same
    | inr not_it ↦ let rest : found (ls ++ fresh_line m now ∷ []) ≡ Some l = rw not_it at e in rw not_it (was_link m now ls other l rest)
  ]

  was_gone : (m : ℕ) (ls : List BrokerLine) → nat_eq m n ≡ false → Was (filter (λ (l : BrokerLine). not (nat_eq l.number m)) ls) ls
  was_gone m [] other l e = e
  was_gone m (x ∷ ls) other l e = elim (cases_Bool (nat_eq x.number m)) [
    | inl goes ↦
        let not_n : nat_eq x.number n ≡ false = ap (λ (k : ℕ). nat_eq k n) (eqb-true x.number m goes) ∙ other in
        let rest : found (filter (λ (y : BrokerLine). not (nat_eq y.number m)) ls) ≡ Some l = rw goes at e in
        rw not_n (was_gone m ls other l rest)
    | inr stays ↦
        let there : found (x ∷ filter (λ (y : BrokerLine). not (nat_eq y.number m)) ls) ≡ Some l = rw stays at e in
        elim (cases_Bool (nat_eq x.number n)) [
          | inl it ↦ let same : Some x ≡ Some l = rw it at there in rw it same
          | inr not_it ↦ let rest : found (filter (λ (y : BrokerLine). not (nat_eq y.number m)) ls) ≡ Some l = rw not_it at there in rw not_it (was_gone m ls other l rest)
        ]
  ]

  was_place : (k place : ℕ) (ls : List BrokerLine) → AllByRecursion (IsFreeLine (n ∷ [])) ls → Was (map (without_place k place) ls) ls
  was_place k place [] h l e = e
  was_place k place (x ∷ ls) h l e = elim (cases_Bool (nat_eq x.number n)) [
    | inl it ↦
        let none : x.session ≡ None = h.0 (ap (λ (j : ℕ). is_one_of (Some j) (n ∷ [])) (eqb-true x.number n it) ∙ inside) in
        let off : is_of x.session k ≡ false = ap (λ (o : Option ℕ). is_of o k) none in
        let there : found (x ∷ map (without_place k place) ls) ≡ Some l = rw off at e in
        let same : Some x ≡ Some l = rw it at there in
        rw it same
    | inr not_it ↦ elim (cases_Bool (is_of x.session k)) [
      | inl its ↦
          let there : found (map (without_place k place) ls) ≡ Some l = rw (its, not_it) at e in
          rw not_it (was_place k place ls h.1 l there)
      | inr other ↦
          let there : found (map (without_place k place) ls) ≡ Some l = rw (other, not_it) at e in
          rw not_it (was_place k place ls h.1 l there)
    ]
  ]

  was_at : (k : ℕ) (part : Part) (ls : List BrokerLine) → AllByRecursion (IsFreeLine (n ∷ [])) ls → Was (lines_at k part ls) ls
  was_at k (Leave e ending) ls h = was_place k e.place ls h
  was_at k part ls h = λ l e. e

  was_lines : (now : ℕ) (d : Deed) (ls : List BrokerLine) → IsApart (n ∷ []) d → AllByRecursion (IsFreeLine (n ∷ [])) ls → Was (lines_after now d ls) ls
  was_lines now (Link m) ls q h = was_link m now ls (above m (q n inside))
    where
      above : (m : ℕ) → n < m → nat_eq m n ≡ false
      above m less = less_differs n m less
  was_lines now (On m part) ls q h = was_on now m part ls (outside m q)
  was_lines now (Gone m) ls q h = was_gone m ls (outside m q)
  was_lines now (At who part) ls q h = was_at who.birth part ls h
  was_lines now d ls q h = λ l e. e

  was_deeds : (ds : List Deed) (b : Broker) → IsFree (n ∷ []) b → AreGood (IsApartHere (n ∷ [])) ds b → Was (after_all ds b).lines b.lines
  was_deeds [] b h q l e = e
  was_deeds (d ∷ ds) b h q l e = was_lines b.now d b.lines q.0 h.free l (was_deeds ds (after d b) (free_deeds (n ∷ []) (d ∷ []) b (q.0, tt) h) q.1 l e)

  -- ---- the call

  is_it : (m : ℕ) → is_one_of (Some m) (n ∷ []) ≡ true → m ≡ n
  is_it m one = elim (cases_Bool (nat_eq m n)) [
    | inl same ↦ eqb-true m n same
    | inr other ↦ let clash : true ≡ false = sym one ∙ is_outside m other in absurd cc
  ]

  free_idle : (b : Broker) → IsIdle n b → IsFree (n ∷ []) b
  free_idle b h = record {
    free = all_more (HasNobody n) (IsFreeLine (n ∷ [])) b.lines (λ l nobody one. nobody (is_it l.number one)) h.lines;
    given = λ m one. let is = is_it m one in let le = h.given in omega (arith, is, le);
  }

  walks : (env : Env) (call : Call) (b : Broker) → IsIdle n b → IsCallOf (others (n ∷ [])) call b → Was (after_all (deeds_of env call b) b).lines b.lines
  walks env call b h its =
      let free = free_idle b h in
      was_deeds (deeds_of env call b) b free (leads_call env (others (n ∷ [])) (IsFree (n ∷ [])) (IsApartHere (n ∷ [])) (apart_law (n ∷ []) env) call b free its).0

  it_goes : (ls : List BrokerLine) → found (filter (λ (l : BrokerLine). not (nat_eq l.number n)) ls) ≡ None
  it_goes [] = refl
  it_goes (x ∷ ls) = elim (cases_Bool (nat_eq x.number n)) [
    | inl goes ↦ rw goes (it_goes ls)
    | inr stays ↦ rw stays (rw stays (it_goes ls))
  ]

  was_called : (env : Env) (call : Call) (b : Broker) → IsIdle n b → IsElsewhere n call → Was (after_all (deeds_of env call b) b).lines b.lines
  was_called env NewLine b h q = walks env NewLine b h tt
  was_called env (Input m packet) b h q = walks env (Input m packet) b h ((λ l e. outside_at (n ∷ []) m l b (is_outside m q) e), tt)
  was_called env (BadInput m is_connect code) b h q = walks env (BadInput m is_connect code) b h (λ l e. outside_at (n ∷ []) m l b (is_outside m q) e)
  was_called env (Lost m) b h q = walks env (Lost m) b h (λ l e. outside_at (n ∷ []) m l b (is_outside m q) e)
  was_called env (Pump m) b h q = elim (cases_Bool (nat_eq m n)) [
    | inl same ↦
        let idle : IsIdle m b = subst (λ (k : ℕ). IsIdle k b) (sym (eqb-true m n same)) h in
        subst (λ (ds : List Deed). Was (after_all ds b).lines b.lines) (sym (pump_none env m b idle)) (λ l e. e)
    | inr other ↦ walks env (Pump m) b h (λ l e. outside_at (n ∷ []) m l b (is_outside m other) e)
  ]
  was_called env Tick b h q = by (find (λ (x : BrokerLine). is_silent b.now x.session x) b.lines) refl
    where
      other_silent : (x l : BrokerLine) → nat_eq x.number n ≡ false → Some x ≡ Some l → is_one_of (Some l.number) (n ∷ []) ≡ false
      other_silent x l other e = let is : x ≡ l = cc in is_outside l.number (ap (λ (y : BrokerLine). nat_eq y.number n) (sym is) ∙ other)

      by : (o : Option BrokerLine) → find (λ (x : BrokerLine). is_silent b.now x.session x) b.lines ≡ o → Was (after_all (deeds_of env Tick b) b).lines b.lines
      by None none = walks env Tick b h (record { silent = λ l e. let clash : None ≡ Some l = sym none ∙ e in absurd cc; wills = λ s e. tt; ends = λ s e. tt })
      by (Some x) is = elim (cases_Bool (nat_eq x.number n)) [
        | inl same ↦
            let closes : Was (after_all (Gone n ∷ []) b).lines b.lines = λ l e. let clash : None ≡ Some l = sym (it_goes b.lines) ∙ e in absurd cc in
            subst (λ (ds : List Deed). Was (after_all ds b).lines b.lines) (sym (late_deeds env n x b h is (eqb-true x.number n same))) closes
        | inr other ↦ walks env Tick b h (record { silent = λ l e. other_silent x l other (sym is ∙ e); wills = λ s e. tt; ends = λ s e. tt })
      ]

-- an idle line stays under calls on others
pub idle_line_stays : (limits : Capacity) (choice : MemberChoice) (now n : ℕ) (call : Call) (l : BrokerLine) (b : Broker) → IsIdle n b → IsElsewhere n call
    → line_at n (stepped limits choice now call b) ≡ Some l → line_at n b ≡ Some l
idle_line_stays limits choice now n call l b idle other e =
    let first = at_moment now b in
    let ds = deeds limits choice now call b in
    let lines = done_lines (rows_of_all ds first.records) (after_all ds first) in
    was_called n (env_of limits choice b) call first (first_idle now n b idle) other l (ap (λ (ls : List BrokerLine). find (λ (x : BrokerLine). nat_eq x.number n) ls) (sym lines) ∙ e)
