-- Where a publisher is after the broker has read a packet of its own, on its line or on the one that it gave up.
use Rattle.std.proofs.Common.{◌≡◌, ℕ, Bool, true, false, ◌||◌, ◌⊎◌, List, [], ◌∷◌, ◌++◌, map, Option, Some, None, nat_eq, refl, sym, ap, subst, ◌∙◌, append-nil, inl, inr}
use Rattle.std.specs.Prelude.{option_map, find, filter_map, is_some}
use Rattle.std.specs.List.{AllByRecursion}
use Rattle.std.proofs.lemmas.Bool.{eqb-true, cases_Bool}
use Rattle.std.proofs.lemmas.Cmp.{nat_eq_equiv}
use Rattle.mqtt_flow.specs.inbound.Publisher.{ToPublisher}
use Rattle.mqtt_records.specs.declared.state.session.Session.{Session}
use Rattle.mqtt_records.specs.declared.state.change.Change.{Change}
use Rattle.mqtt_rules.specs.declared.step.Capacity.{Capacity}
use Rattle.mqtt_rules.specs.step.State.{MemberChoice, Line as BrokerLine, Broker, line_at, is_of}
use Rattle.mqtt_rules.specs.step.Deeds.{Part, Resume, Close, SetExpiry, DropWill, Subscribe, Unsubscribe, Open, Release, Enter, Mark, Leave, LinePart, Hear, Greet, SetAlias, Went, Deed, Accept, Begin, Name, Count, At, Finish, Keep, Forget, RefuseWill, Link, On, Send, Gone, closing, line_after, on_line, without_place, lines_at, lines_after, fresh_line, after, after_all, rows_of_all}
use Rattle.mqtt_rules.specs.step.Step.{Call, Outcome, at_moment, deeds, stepped, told}
use Rattle.mqtt_world_model.specs.model.Lines.{Line, sent_to, is_one_of, unless_closed, told_by}
use Rattle.mqtt_world_model.specs.model.Ends.{Sent, Publisher}
use Rattle.mqtt_world_model.specs.model.Seen.{heard_in}
use Rattle.mqtt_world_model.specs.model.Hops.{IsOurLine, Own, IsConnected, IsNoConnect}
use Rattle.mqtt_world_model.specs.model.Seats.{Former, HasNobody, IsApart, IsHis, IsIdle, IsNamed, Present, absent, closed, glance_at, joined, late, lingers, over, waiting}
use Rattle.mqtt_world_model.proofs.model_lemmas.others.Quiet.{is_closing, closes, session_on, line_gone}
use Rattle.mqtt_world_model.proofs.model_lemmas.seats.Seeing.{done_lines, among_closed, told_down, append_heard}
use Rattle.mqtt_world_model.proofs.model_lemmas.others.Untouched.{AreAway}
use Rattle.mqtt_world_model.proofs.model_lemmas.seats.Seats.{kept_of, AreElsewhere, rests, idle_done, glance_done}

-- ---- lines that stay open

abbrev Stands : ℕ → List BrokerLine → Type 0
Stands n ls = is_some (session_on n ls) ≡ true

there_linked : (n : ℕ) (x : BrokerLine) (ls : List BrokerLine) → Stands n ls → Stands n (ls ++ x ∷ [])
there_linked n x [] h = absurd cc
there_linked n x (l ∷ ls) h = elim (cases_Bool (nat_eq l.number n)) [
  | inl here ↦ rw here refl
  | inr other ↦ rw other (there_linked n x ls (rw other at h))
]

same_number : (now : ℕ) (part : LinePart) (l : BrokerLine) → (line_after now part l).number ≡ l.number
same_number now Hear l = refl
same_number now (Greet birth keep_alive window largest most) l = refl
same_number now (SetAlias alias topic) l = refl
same_number now (Went place) l = refl

there_on : (now n m : ℕ) (part : LinePart) (ls : List BrokerLine) → Stands n ls → Stands n (on_line now m part ls)
there_on now n m part [] h = h
there_on now n m part (l ∷ ls) h = elim (cases_Bool (nat_eq l.number m)) [
  | inl this ↦ rw this (first (cases_Bool (nat_eq l.number n)))
  | inr other ↦ elim (cases_Bool (nat_eq l.number n)) [
    | inl here ↦ rw (other, here) refl
    | inr further ↦ rw (other, further) (there_on now n m part ls (rw further at h))
  ]
]
  where
    first : (nat_eq l.number n ≡ true) ⊎ (nat_eq l.number n ≡ false) → Stands n (line_after now part l ∷ ls)
    first (inl here) = let new : nat_eq (line_after now part l).number n ≡ true = ap (λ (k : ℕ). nat_eq k n) (same_number now part l) ∙ here in rw new refl
    first (inr further) =
        let new : nat_eq (line_after now part l).number n ≡ false = ap (λ (k : ℕ). nat_eq k n) (same_number now part l) ∙ further in
        rw new (rw further at h)

there_without : (n birth place : ℕ) (ls : List BrokerLine) → Stands n ls → Stands n (map (without_place birth place) ls)
there_without n birth place [] h = h
there_without n birth place (l ∷ ls) h = elim (cases_Bool (is_of l.session birth)) [
  | inl its ↦ elim (cases_Bool (nat_eq l.number n)) [
    | inl here ↦ rw (its, here) refl
    | inr further ↦ rw (its, further) (there_without n birth place ls (rw further at h))
  ]
  | inr other ↦ elim (cases_Bool (nat_eq l.number n)) [
    | inl here ↦ rw (other, here) refl
    | inr further ↦ rw (other, further) (there_without n birth place ls (rw further at h))
  ]
]

there_part : (n birth : ℕ) (part : Part) (ls : List BrokerLine) → Stands n ls → Stands n (lines_at birth part ls)
there_part n birth (Resume expiry will) ls h = h
there_part n birth (Close moment) ls h = h
there_part n birth (SetExpiry expiry) ls h = h
there_part n birth DropWill ls h = h
there_part n birth (Subscribe sub) ls h = h
there_part n birth (Unsubscribe text) ls h = h
there_part n birth (Open id) ls h = h
there_part n birth (Release id) ls h = h
there_part n birth (Enter copy) ls h = h
there_part n birth (Mark place phase) ls h = h
there_part n birth (Leave e ending) ls h = there_without n birth e.place ls h

there_deed : (n now : ℕ) (d : Deed) (ls : List BrokerLine) → is_closing n (closing d) ≡ false → Stands n ls → Stands n (lines_after now d ls)
there_deed n now (Accept number origin m) ls q h = h
there_deed n now (Begin row will) ls q h = h
there_deed n now (Name k) ls q h = h
there_deed n now (Count k) ls q h = h
there_deed n now (At who part) ls q h = there_part n who.birth part ls h
there_deed n now (Finish who) ls q h = h
there_deed n now (Keep kept) ls q h = h
there_deed n now (Forget place) ls q h = h
there_deed n now (RefuseWill who) ls q h = h
there_deed n now (Link m) ls q h = there_linked n (fresh_line m now) ls h
there_deed n now (On m part) ls q h = there_on now n m part ls h
there_deed n now (Send m packet) ls q h = h
there_deed n now (Gone m) ls q h = ap is_some (line_gone n m ls q) ∙ h

neither : (a b : Bool) → (a || b) ≡ false → (a ≡ false) × (b ≡ false)
neither true b h = absurd cc
neither false b h = (refl, h)

-- a line that is not closed stands
pub stays_open : (n : ℕ) (ds : List Deed) (b : Broker) → closes n ds ≡ false → Stands n b.lines → Stands n (after_all ds b).lines
stays_open n [] b q h = h
stays_open n (d ∷ ds) b q h =
    let both = neither (is_closing n (closing d)) (closes n ds) q in
    stays_open n ds (after d b) both.1 (there_deed n b.now d b.lines both.0 h)

-- ---- on its own line is its session, or nobody

-- the publisher's line has nobody on it, or its session
pub own_on : (birth k : ℕ) (ls : List BrokerLine) → AllByRecursion (IsOurLine birth k) ls → (session_on k ls ≡ None) ⊎ (session_on k ls ≡ Some (Some birth))
own_on birth k [] h = inl refl
own_on birth k (l ∷ ls) h = elim (cases_Bool (nat_eq l.number k)) [
  | inl here ↦ inr (rw here (ap Some (h.0.ours (eqb-true l.number k here))))
  | inr other ↦ elim (own_on birth k ls h.1) [
    | inl none ↦ inl (rw other none)
    | inr there ↦ inr (rw other there)
  ]
]

-- a line with nobody shows nobody
pub none_there : (n : ℕ) (ls : List BrokerLine) → session_on n ls ≡ None → AllByRecursion (HasNobody n) ls × (glance_at n ls ≡ None)
none_there n [] h = (tt, refl)
none_there n (l ∷ ls) h = elim (cases_Bool (nat_eq l.number n)) [
  | inl here ↦ let clash : Some l.session ≡ None = rw here at h in absurd cc
  | inr other ↦
      let rest = none_there n ls (rw other at h) in (
        ((λ e. let same : nat_eq l.number n ≡ true = ap (λ (k : ℕ). nat_eq k n) e ∙ nat_eq_equiv.refl n in let clash : true ≡ false = sym same ∙ other in absurd cc), rest.0),
        rw other rest.1,
      )
]

stands_not : (x : Option (Option ℕ)) → x ≡ None → is_some x ≡ true → ⊥
stands_not x e h = let clash : true ≡ false = sym h ∙ ap is_some e in absurd cc

emptied : (t : Bool) (xs : List Sent) → t ≡ true → unless_closed t xs ≡ []
emptied true xs e = refl
emptied false xs e = absurd cc

kept_calm : (t : Bool) (xs : List Sent) → AllByRecursion IsNoConnect xs → AllByRecursion IsNoConnect (unless_closed t xs)
kept_calm true xs h = tt
kept_calm false xs h = h

-- what is empty stays empty
pub empty_stays : (t : Bool) (xs : List Sent) → xs ≡ [] → unless_closed t xs ≡ []
empty_stays true xs e = refl
empty_stays false xs e = e

-- ---- after a step that keeps the session and the line its own

module _ (limits : Capacity) (choice : MemberChoice) (now : ℕ) (call : Call) (b : Broker) where
  abbrev ds : List Deed
  ds = deeds limits choice now call b

  abbrev start : Broker
  start = at_moment now b

  abbrev new : Broker
  new = stepped limits choice now call b

  abbrev out : Outcome
  out = told limits choice now call b

  abbrev rows : List Change
  rows = rows_of_all ds start.records

  abbrev last : Broker
  last = after_all ds start

  closed_at : (x : Option ℕ) (n : ℕ) (t : Bool) → x ≡ Some n → closes n ds ≡ t → is_one_of x out.closed ≡ t
  closed_at x n t is e = ap (λ (y : Option ℕ). is_one_of y out.closed) is ∙ (among_closed n ds ∙ e)

  on_new : (n : ℕ) → session_on n new.lines ≡ session_on n last.lines
  on_new n = ap (session_on n) (done_lines rows last)

  still_there : (n : ℕ) (x : Option ℕ) → session_on n b.lines ≡ Some x → closes n ds ≡ false → session_on n new.lines ≡ None → ⊥
  still_there n x on open_ none = stands_not (session_on n last.lines) (sym (on_new n) ∙ none) (stays_open n ds start open_ (ap is_some on))

  -- its line, if the session was connected
  pub joined_after : (client : List ℕ) (birth k : ℕ) (l : Line Sent) → Own client birth k new → l.number ≡ Some k → session_on k b.lines ≡ Some (Some birth)
      → Present (Some birth) k (told_by new out l) new
  joined_after client birth k l own is there = elim (own_on birth k new.lines own.lines) [
    | inr on ↦ joined birth refl is on
    | inl none ↦
        let nobody = none_there k new.lines none in
        let idle : IsIdle k new = record { lines = nobody.0; given = own.given } in
        elim (cases_Bool (closes k ds)) [
          | inl shut ↦ closed k is (emptied (is_one_of l.number out.closed) l.up (closed_at l.number k true is shut)) idle nobody.1
          | inr open_ ↦ absurd (still_there k (Some birth) there open_ none)
        ]
  ]

  -- the line that it gave up, if the session was connected
  pub lingers_after : (client : List ℕ) (birth k : ℕ) (l : Line Sent) → Own client birth k new → l.old_number ≡ Some k → AllByRecursion IsNoConnect l.old → session_on k b.lines ≡ Some (Some birth)
      → Former (Some birth) k (told_by new out l) new
  lingers_after client birth k l own is calm there = elim (own_on birth k new.lines own.lines) [
    | inr on ↦ lingers birth refl is (kept_calm (is_one_of l.old_number out.closed) l.old calm) on
    | inl none ↦ elim (cases_Bool (closes k ds)) [
      | inl shut ↦ over (emptied (is_one_of l.old_number out.closed) l.old (closed_at l.old_number k true is shut))
      | inr open_ ↦ absurd (still_there k (Some birth) there open_ none)
    ]
  ]

  idle_start : (n : ℕ) → IsIdle n b → IsIdle n start
  idle_start n h = record { lines = h.lines; given = h.given }

  elsewhere_at : (x : Option ℕ) (n : ℕ) → x ≡ Some n → AreElsewhere x ds start → IsIdle n start → AreAway n ds ⊎ (ds ≡ Gone n ∷ [])
  elsewhere_at x n is q h = subst (λ (y : Option ℕ). AreElsewhere y ds start) is q h

  -- its line, if its session was not connected
  pub present_after : (o p : Option ℕ) (k j : ℕ) (l : Line Sent) → AreElsewhere l.number ds start
      → ((birth : ℕ) → o ≡ Some birth → l.number ≡ Some k → session_on k b.lines ≡ Some (Some birth) → Present p j (told_by new out l) new)
      → Present o k l b → Present p j (told_by new out l) new
  present_after o p k j l q h (absent none up) = absent none (empty_stays (is_one_of l.number out.closed) l.up up)
  present_after o p k j l q h (closed n is up idle none) =
      let r = rests n ds start (idle_start n idle) (elsewhere_at l.number n is q (idle_start n idle)) in
      let still = idle_done n rows last r.idle in
      let up_is = empty_stays (is_one_of l.number out.closed) l.up up in
      elim r.line_is [
        | inl same ↦ closed n is up_is still (glance_done n rows last ∙ (same.1 ∙ none))
        | inr gone ↦ closed n is up_is still (glance_done n rows last ∙ gone.1)
      ]
  present_after o p k j l q h (waiting n clean is link_is clean_is up down idle there) =
      let r = rests n ds start (idle_start n idle) (elsewhere_at l.number n is q (idle_start n idle)) in
      let still = idle_done n rows last r.idle in
      let downs : filter_map heard_in (l.down ++ sent_to l.number new out.outputs) ≡ [] =
      ap (λ (y : Option ℕ). filter_map heard_in (l.down ++ sent_to y new out.outputs)) is
      ∙ (append_heard l.down (sent_to (Some n) new out.outputs)
      ∙ (ap (λ (xs : List ToPublisher). filter_map heard_in l.down ++ xs) (told_down n new ds ∙ r.told_is)
      ∙ (append-nil (filter_map heard_in l.down) ∙ down))) in
      elim r.line_is [
        | inl same ↦
            let open_ = closed_at l.number n false is same.0 in
            waiting n clean is link_is clean_is (ap (λ (t : Bool). unless_closed t l.up) open_ ∙ up) downs still (glance_done n rows last ∙ (same.1 ∙ there))
        | inr gone ↦ closed n is (emptied (is_one_of l.number out.closed) l.up (closed_at l.number n true is gone.0)) still (glance_done n rows last ∙ gone.1)
      ]
  present_after o p k j l q h (joined birth own is there) = h birth own is there

  -- the line that it gave up, if its session was not connected
  pub former_after : (o p : Option ℕ) (k j : ℕ) (l : Line Sent) → AreElsewhere l.old_number ds start
      → ((birth : ℕ) → o ≡ Some birth → l.old_number ≡ Some k → AllByRecursion IsNoConnect l.old → session_on k b.lines ≡ Some (Some birth) → Former p j (told_by new out l) new)
      → Former o k l b → Former p j (told_by new out l) new
  former_after o p k j l q h (over none) = over (empty_stays (is_one_of l.old_number out.closed) l.old none)
  former_after o p k j l q h (late m is old idle there) =
      let r = rests m ds start (idle_start m idle) (elsewhere_at l.old_number m is q (idle_start m idle)) in
      let still = idle_done m rows last r.idle in
      elim r.line_is [
        | inl same ↦
            let open_ = closed_at l.old_number m false is same.0 in
            late m is (ap (λ (t : Bool). unless_closed t l.old) open_ ∙ old) still (glance_done m rows last ∙ (same.1 ∙ there))
        | inr gone ↦ over (emptied (is_one_of l.old_number out.closed) l.old (closed_at l.old_number m true is gone.0))
      ]
  former_after o p k j l q h (lingers birth own is calm there) = h birth own is calm there

-- ---- the line and the session that it is connected on

-- who stands on a line stands on one that is found
pub line_of_on : (n : ℕ) (x : Option ℕ) (b : Broker) → session_on n b.lines ≡ Some x → (l : BrokerLine) × (line_at n b ≡ Some l) × (l.session ≡ x) × (l.number ≡ n)
line_of_on n x b h = by (line_at n b) refl h
  where
    number_is : (l : BrokerLine) (ls : List BrokerLine) → find (λ (y : BrokerLine). nat_eq y.number n) ls ≡ Some l → l.number ≡ n
    number_is l [] e = absurd cc
    number_is l (y ∷ ys) e = elim (cases_Bool (nat_eq y.number n)) [
      | inl here ↦
          let it : Some y ≡ Some l = rw here at e in
          let is : y ≡ l = cc in
          ap (λ (z : BrokerLine). z.number) (sym is) ∙ eqb-true y.number n here
      | inr other ↦ number_is l ys (rw other at e)
    ]

    by : (o : Option BrokerLine) → line_at n b ≡ o → option_map (λ (l : BrokerLine). l.session) o ≡ Some x → (l : BrokerLine) × (line_at n b ≡ Some l) × (l.session ≡ x) × (l.number ≡ n)
    by None e f = absurd cc
    by (Some l) e f = let on : l.session ≡ x = cc in (l, e, on, number_is l b.lines e)

-- another line is not among these
pub not_among : (x : Option ℕ) (n : ℕ) → (x ≡ Some n → ⊥) → is_one_of x (n ∷ []) ≡ false
not_among None n h = refl
not_among (Some m) n h = elim (cases_Bool (nat_eq n m)) [
  | inl same ↦ absurd (h (ap Some (sym (eqb-true n m same))))
  | inr other ↦ rw other refl
]

-- a publisher on whose line its session stands is connected
pub connected_of : (p : Publisher) (birth k : ℕ) (b : Broker) → IsNamed p.client → IsHis p.client (Some birth) k b → p.line.number ≡ Some k → IsApart p.line.number p.line.old_number → session_on k b.lines ≡ Some (Some birth)
    → (l : BrokerLine) × (s : Session) × IsConnected p l s b × (l.number ≡ k) × (s.birth ≡ birth)
connected_of p birth k b named his is apart on =
    let x = line_of_on k (Some birth) b on in
    let s = kept_of p.client birth k b his.0 his.1 named.short named.plain in
    let number = x.3 in (
      x.0,
      s.0,
      record {
        number = is ∙ ap Some (sym number);
        line = ap (λ (n : ℕ). line_at n b) number ∙ x.1;
        connected = x.2 ∙ ap Some (sym s.1);
        session = s.2.session;
        client = s.2.name;
        only = s.2.only;
        no_will = s.2.no_will;
        no_end = s.2.no_end;
        apart = not_among p.line.old_number (x.0).number (λ e. apart (x.0).number (is ∙ ap Some (sym number)) e);
      },
      number,
      s.1,
    )
