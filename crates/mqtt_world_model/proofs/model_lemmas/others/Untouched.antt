-- A line on which nobody is connected: calls on other lines leave it alone and tell nothing there, but that a tick closes it
-- when its CONNECT is late.
use Rattle.std.proofs.Common.{◌≡◌, ℕ, ◌≤◌, ◌<◌, Bool, true, false, cond, not, ◌⊎◌, List, [], ◌∷◌, ◌++◌, filter, map, Option, Some, None, nat_eq, refl, sym, ap, subst, ◌∙◌, inl, inr, arith}
use Rattle.std.specs.Prelude.{⊤, suc, option_map, flat_map, find}
use Rattle.std.specs.List.{AllByRecursion}
use Rattle.std.proofs.lemmas.Bool.{eqb-true, cases_Bool}
use Rattle.mqtt_base.specs.declared.session.Ending.TheVariants.{SessionEnded}
use Rattle.mqtt_packet.specs.declared.connect.connect.Connect.{Connect as Greeting}
use Rattle.mqtt_topic.specs.names.Names.{is_empty}
use Rattle.mqtt_flow.specs.declared.outbound.entry.Turn.{Turn}
use Rattle.mqtt_flow.specs.declared.outbound.entry.Turn.TheVariants as turns
use Rattle.mqtt_records.specs.messages.Queue.{CopyRow}
use Rattle.mqtt_records.specs.declared.state.session.Session.{Session}
use Rattle.mqtt_records.specs.declared.state.records.Records.{Records}
use Rattle.mqtt_records.specs.lists.Order.{row_at}
use Rattle.mqtt_records.specs.state.Session.{copy_place}
use Rattle.mqtt_rules.specs.step.State.{Line, Broker, Env, session_at, line_at, line_of, is_of}
use Rattle.mqtt_rules.specs.step.Deeds.{whose, FromClient, Part, Resume, Close, SetExpiry, DropWill, Subscribe, Unsubscribe, Open, Release, Enter, Mark, Leave, LinePart, Hear, Greet, SetAlias, Went, Deed, Accept, Begin, Name, Count, At, Finish, Keep, Forget, RefuseWill, Link, On, Send, Gone, line_after, on_line, without_place, lines_at, lines_after, given_after, after, after_all, series, always, with_line, fresh_line, output}
use Rattle.mqtt_rules.specs.step.Deeds.{closing as closing_deed}
use Rattle.mqtt_rules.specs.step.Outbound.{of_entry, leave_deeds, turn_deeds}
use Rattle.mqtt_rules.specs.step.Routing.{is_queued, deliver, publish}
use Rattle.mqtt_rules.specs.step.Closing.{has_due_will, has_due_end, end_session, publish_will, close_connected}
use Rattle.mqtt_rules.specs.step.Connect.{expiry_of, will_of, greet, begin_named}
use Rattle.mqtt_rules.specs.step.Fitting.{pump_turns}
use Rattle.mqtt_rules.specs.step.Inbound.{pump_deeds}
use Rattle.mqtt_rules.specs.step.Subscribe as sub
use Rattle.mqtt_rules.specs.step.Tick.{is_silent, silence, lapses, lapse_deeds, has_lapsed, is_stale, first_due, on_tick}
use Rattle.mqtt_rules.specs.step.Step.{Call, NewLine, Input, BadInput, Lost, Pump, Tick, on_pump, deeds_of}
use Rattle.mqtt_rules.proofs.step_lemmas.acts.Goods.{AreGood}
use Rattle.mqtt_rules.proofs.step_lemmas.acts.Leads.{Leads}
use Rattle.mqtt_rules.proofs.step_lemmas.acts.Acts.{About as Whom, closing, closing_on, closing_session, brought_to, Law, IsCallOf, leads_call}
use Rattle.mqtt_rules.proofs.step_lemmas.acts.OnLines.{found_number}
use Rattle.mqtt_world_model.specs.model.Ends.{heard}
use Rattle.mqtt_world_model.specs.model.Seats.{Glance, HasNobody, IsElsewhere, IsIdle, glance, glance_at}
use Rattle.mqtt_world_model.proofs.model_lemmas.others.Quiet.{IsQuietOn, IsQuiet, AreQuiet, heard_by, told_to, is_closing, closes, quiet_leave, quiet_deliveries, copies_of, quiet_copies}
use Rattle.mqtt_world_model.proofs.model_lemmas.others.Far.{not_same, less_differs}
use Rattle.mqtt_world_model.proofs.model_lemmas.others.Lists.{all_find}
use Rattle.mqtt_rules.proofs.step_lemmas.lines.LineRows.{numbered}

-- ---- deeds away from a line

abbrev pub IsAway : ℕ → Deed → Type 0
IsAway n (Send m packet) = (nat_eq m n ≡ false) ⊎ (heard packet ≡ None)
IsAway n (Gone m) = nat_eq m n ≡ false
IsAway n (On m part) = (nat_eq m n ≡ false) ⊎ IsQuietOn part
IsAway n (Link m) = n < m
IsAway n d = ⊤

abbrev pub AreAway : ℕ → List Deed → Type 0
AreAway n [] = ⊤
AreAway n (d ∷ ds) = IsAway n d × AreAway n ds

-- ---- what they leave of it

kept_glance : (now : ℕ) (part : LinePart) (l : Line) → IsQuietOn part → glance (line_after now part l) ≡ glance l
kept_glance now Hear l q = refl
kept_glance now (Greet birth keep_alive window largest most) l q = absurd q
kept_glance now (SetAlias alias topic) l q = refl
kept_glance now (Went place) l q = refl

glance_on : (now n m : ℕ) (part : LinePart) (ls : List Line) → (nat_eq m n ≡ false) ⊎ IsQuietOn part → glance_at n (on_line now m part ls) ≡ glance_at n ls
glance_on now n m part [] q = refl
glance_on now n m part (l ∷ ls) q = elim (cases_Bool (nat_eq l.number m)) [
  | inl this ↦ rw this (here_is this q)
  | inr other ↦ elim (cases_Bool (nat_eq l.number n)) [
    | inl here ↦ rw (other, here) refl
    | inr further ↦ rw (other, further) (glance_on now n m part ls q)
  ]
]
  where
    same_test : nat_eq (line_after now part l).number n ≡ nat_eq l.number n
    same_test = ap (λ (k : ℕ). nat_eq k n) (numbered now part l)

    first : (t : Bool) → IsQuietOn part
        → option_map glance (cond t (Some (line_after now part l)) (find (λ (x : Line). nat_eq x.number n) ls))
        ≡ option_map glance (cond t (Some l) (find (λ (x : Line). nat_eq x.number n) ls))
    first true q = ap Some (kept_glance now part l q)
    first false q = refl

    here_is : nat_eq l.number m ≡ true → (nat_eq m n ≡ false) ⊎ IsQuietOn part → glance_at n (line_after now part l ∷ ls) ≡ glance_at n (l ∷ ls)
    here_is this (inl not_n) =
        let is : nat_eq l.number n ≡ false = ap (λ (k : ℕ). nat_eq k n) (eqb-true l.number m this) ∙ not_n in
        let new : nat_eq (line_after now part l).number n ≡ false = same_test ∙ is in
        rw (new, is) refl
    here_is this (inr quiet) =
        ap (λ (t : Bool). option_map glance (cond t (Some (line_after now part l)) (find (λ (x : Line). nat_eq x.number n) ls))) same_test
        ∙ first (nat_eq l.number n) quiet

glance_linked : (n : ℕ) (x : Line) (ls : List Line) → nat_eq x.number n ≡ false → glance_at n (ls ++ x ∷ []) ≡ glance_at n ls
glance_linked n x [] q = rw q refl
glance_linked n x (l ∷ ls) q = elim (cases_Bool (nat_eq l.number n)) [
  | inl here ↦ rw here refl
  | inr further ↦ rw further (glance_linked n x ls q)
]

glance_gone : (n m : ℕ) (ls : List Line) → nat_eq m n ≡ false → glance_at n (filter (λ (l : Line). not (nat_eq l.number m)) ls) ≡ glance_at n ls
glance_gone n m [] q = refl
glance_gone n m (l ∷ ls) q = elim (cases_Bool (nat_eq l.number m)) [
  | inl goes ↦
      let other : nat_eq l.number n ≡ false = ap (λ (k : ℕ). nat_eq k n) (eqb-true l.number m goes) ∙ q in
      rw (goes, other) (glance_gone n m ls q)
  | inr stays ↦ elim (cases_Bool (nat_eq l.number n)) [
    | inl here ↦ rw (stays, here) refl
    | inr further ↦ rw (stays, further) (glance_gone n m ls q)
  ]
]

glance_without : (n birth place : ℕ) (ls : List Line) → glance_at n (map (without_place birth place) ls) ≡ glance_at n ls
glance_without n birth place [] = refl
glance_without n birth place (l ∷ ls) = elim (cases_Bool (is_of l.session birth)) [
  | inl its ↦ elim (cases_Bool (nat_eq l.number n)) [
    | inl here ↦ rw (its, here) refl
    | inr further ↦ rw (its, further) (glance_without n birth place ls)
  ]
  | inr other ↦ elim (cases_Bool (nat_eq l.number n)) [
    | inl here ↦ rw (other, here) refl
    | inr further ↦ rw (other, further) (glance_without n birth place ls)
  ]
]

glance_part : (n birth : ℕ) (part : Part) (ls : List Line) → glance_at n (lines_at birth part ls) ≡ glance_at n ls
glance_part n birth (Resume expiry will) ls = refl
glance_part n birth (Close moment) ls = refl
glance_part n birth (SetExpiry expiry) ls = refl
glance_part n birth DropWill ls = refl
glance_part n birth (Subscribe sub) ls = refl
glance_part n birth (Unsubscribe text) ls = refl
glance_part n birth (Open id) ls = refl
glance_part n birth (Release id) ls = refl
glance_part n birth (Enter copy) ls = refl
glance_part n birth (Mark place phase) ls = refl
glance_part n birth (Leave e ending) ls = glance_without n birth e.place ls

glance_after : (n now : ℕ) (d : Deed) (ls : List Line) → IsAway n d → glance_at n (lines_after now d ls) ≡ glance_at n ls
glance_after n now (Accept number origin m) ls q = refl
glance_after n now (Begin row will) ls q = refl
glance_after n now (Name k) ls q = refl
glance_after n now (Count k) ls q = refl
glance_after n now (At who part) ls q = glance_part n who.birth part ls
glance_after n now (Finish who) ls q = refl
glance_after n now (Keep kept) ls q = refl
glance_after n now (Forget place) ls q = refl
glance_after n now (RefuseWill who) ls q = refl
glance_after n now (Link m) ls q = glance_linked n (fresh_line m now) ls (less_differs n m q)
glance_after n now (On m part) ls q = glance_on now n m part ls q
glance_after n now (Send m packet) ls q = refl
glance_after n now (Gone m) ls q = glance_gone n m ls q

-- ---- nobody connects there

idle_on : (now n m : ℕ) (part : LinePart) (ls : List Line) → (nat_eq m n ≡ false) ⊎ IsQuietOn part → AllByRecursion (HasNobody n) ls → AllByRecursion (HasNobody n) (on_line now m part ls)
idle_on now n m part [] q h = tt
idle_on now n m part (l ∷ ls) q h = elim (cases_Bool (nat_eq l.number m)) [
  | inl this ↦ rw this ((λ e. here_is this q (sym (numbered now part l) ∙ e)), h.1)
  | inr other ↦ rw other (h.0, idle_on now n m part ls q h.1)
]
  where
    here_is : nat_eq l.number m ≡ true → (nat_eq m n ≡ false) ⊎ IsQuietOn part → l.number ≡ n → (line_after now part l).session ≡ None
    here_is this (inl not_n) e = absurd (not_same m n not_n (sym (eqb-true l.number m this) ∙ e))
    here_is this (inr quiet) e = ap (λ (g : Glance). g.session) (kept_glance now part l quiet) ∙ h.0 e

idle_linked : (n : ℕ) (x : Line) (ls : List Line) → x.session ≡ None → AllByRecursion (HasNobody n) ls → AllByRecursion (HasNobody n) (ls ++ x ∷ [])
idle_linked n x [] q h = ((λ e. q), tt)
idle_linked n x (l ∷ ls) q h = (h.0, idle_linked n x ls q h.1)

idle_gone : (n m : ℕ) (ls : List Line) → AllByRecursion (HasNobody n) ls → AllByRecursion (HasNobody n) (filter (λ (l : Line). not (nat_eq l.number m)) ls)
idle_gone n m [] h = tt
idle_gone n m (l ∷ ls) h = elim (cases_Bool (nat_eq l.number m)) [
  | inl goes ↦ rw goes (idle_gone n m ls h.1)
  | inr stays ↦ rw stays (h.0, idle_gone n m ls h.1)
]

idle_without : (n birth place : ℕ) (ls : List Line) → AllByRecursion (HasNobody n) ls → AllByRecursion (HasNobody n) (map (without_place birth place) ls)
idle_without n birth place [] h = tt
idle_without n birth place (l ∷ ls) h = elim (cases_Bool (is_of l.session birth)) [
  | inl its ↦ rw its (h.0, idle_without n birth place ls h.1)
  | inr other ↦ rw other (h.0, idle_without n birth place ls h.1)
]

idle_part : (n birth : ℕ) (part : Part) (ls : List Line) → AllByRecursion (HasNobody n) ls → AllByRecursion (HasNobody n) (lines_at birth part ls)
idle_part n birth (Resume expiry will) ls h = h
idle_part n birth (Close moment) ls h = h
idle_part n birth (SetExpiry expiry) ls h = h
idle_part n birth DropWill ls h = h
idle_part n birth (Subscribe sub) ls h = h
idle_part n birth (Unsubscribe text) ls h = h
idle_part n birth (Open id) ls h = h
idle_part n birth (Release id) ls h = h
idle_part n birth (Enter copy) ls h = h
idle_part n birth (Mark place phase) ls h = h
idle_part n birth (Leave e ending) ls h = idle_without n birth e.place ls h

idle_after : (n now : ℕ) (d : Deed) (ls : List Line) → IsAway n d → AllByRecursion (HasNobody n) ls → AllByRecursion (HasNobody n) (lines_after now d ls)
idle_after n now (Accept number origin m) ls q h = h
idle_after n now (Begin row will) ls q h = h
idle_after n now (Name k) ls q h = h
idle_after n now (Count k) ls q h = h
idle_after n now (At who part) ls q h = idle_part n who.birth part ls h
idle_after n now (Finish who) ls q h = h
idle_after n now (Keep kept) ls q h = h
idle_after n now (Forget place) ls q h = h
idle_after n now (RefuseWill who) ls q h = h
idle_after n now (Link m) ls q h = idle_linked n (fresh_line m now) ls refl h
idle_after n now (On m part) ls q h = idle_on now n m part ls q h
idle_after n now (Send m packet) ls q h = h
idle_after n now (Gone m) ls q h = idle_gone n m ls h

given_grows : (n : ℕ) (d : Deed) (given : ℕ) → IsAway n d → n ≤ given → n ≤ given_after d given
given_grows n (Link m) given q h = omega (arith, q)
given_grows n (Accept number origin m) given q h = h
given_grows n (Begin row will) given q h = h
given_grows n (Name k) given q h = h
given_grows n (Count k) given q h = h
given_grows n (At who part) given q h = h
given_grows n (Finish who) given q h = h
given_grows n (Keep kept) given q h = h
given_grows n (Forget place) given q h = h
given_grows n (RefuseWill who) given q h = h
given_grows n (On m part) given q h = h
given_grows n (Send m packet) given q h = h
given_grows n (Gone m) given q h = h

-- ---- what they tell

away_told : (n : ℕ) (d : Deed) → IsAway n d → heard_by n (output d) ≡ None
away_told n (Send m packet) (inl other) = rw other refl
away_told n (Send m packet) (inr unheard) = elim (cases_Bool (nat_eq m n)) [
  | inl here ↦ rw here unheard
  | inr other ↦ rw other refl
]
away_told n (Accept number origin m) q = refl
away_told n (Begin row will) q = refl
away_told n (Name k) q = refl
away_told n (Count k) q = refl
away_told n (At who part) q = refl
away_told n (Finish who) q = refl
away_told n (Keep kept) q = refl
away_told n (Forget place) q = refl
away_told n (RefuseWill who) q = refl
away_told n (Link m) q = refl
away_told n (On m part) q = refl
away_told n (Gone m) q = refl

away_closing : (n : ℕ) (d : Deed) → IsAway n d → is_closing n (closing_deed d) ≡ false
away_closing n (Gone m) q = q
away_closing n (Accept number origin m) q = refl
away_closing n (Begin row will) q = refl
away_closing n (Name k) q = refl
away_closing n (Count k) q = refl
away_closing n (At who part) q = refl
away_closing n (Finish who) q = refl
away_closing n (Keep kept) q = refl
away_closing n (Forget place) q = refl
away_closing n (RefuseWill who) q = refl
away_closing n (Link m) q = refl
away_closing n (On m part) q = refl
away_closing n (Send m packet) q = refl

-- what they leave of it, and that they tell nothing there
pub record Spared (n : ℕ) (ds : List Deed) (b : Broker) : Type 0 where
  pub line_is : glance_at n (after_all ds b).lines ≡ glance_at n b.lines
  pub told_is : told_to n ds ≡ []
  pub closes_is : closes n ds ≡ false
  pub given : n ≤ b.given → n ≤ (after_all ds b).given

-- deeds away from a line spare it
pub spared_by : (n : ℕ) (ds : List Deed) (b : Broker) → AreAway n ds → Spared n ds b
spared_by n [] b q = record { line_is = refl; told_is = refl; closes_is = refl; given = λ h. h }
spared_by n (d ∷ ds) b q =
    let rest = spared_by n ds (after d b) q.1 in
    record {
      line_is = rest.line_is ∙ glance_after n b.now d b.lines q.0;
      told_is = rw (away_told n d q.0) rest.told_is;
      closes_is = rw (away_closing n d q.0) rest.closes_is;
      given = λ h. rest.given (given_grows n d b.given q.0 h);
    }

-- and leave it idle
pub idle_deeds : (n : ℕ) (ds : List Deed) (b : Broker) → AreAway n ds → IsIdle n b → IsIdle n (after_all ds b)
idle_deeds n [] b q h = h
idle_deeds n (d ∷ ds) b q h = idle_deeds n ds (after d b) q.1 (record { lines = idle_after n b.now d b.lines q.0 h.lines; given = given_grows n d b.given q.0 h.given })

-- ---- units of deeds

away_deed : (birth n : ℕ) (d : Deed) → IsQuiet birth n d → IsAway n d
away_deed birth n (Accept number origin m) q = tt
away_deed birth n (Begin row will) q = tt
away_deed birth n (Name k) q = tt
away_deed birth n (Count k) q = tt
away_deed birth n (At who part) q = tt
away_deed birth n (Finish who) q = tt
away_deed birth n (Keep kept) q = tt
away_deed birth n (Forget place) q = tt
away_deed birth n (RefuseWill who) q = tt
away_deed birth n (Link m) q = absurd q
away_deed birth n (On m part) q = inr q
away_deed birth n (Send m packet) q = q
away_deed birth n (Gone m) q = q

-- quiet deeds are away from the line
pub away_quiet : (birth n : ℕ) (ds : List Deed) → AreQuiet birth n ds → AreAway n ds
away_quiet birth n [] q = tt
away_quiet birth n (d ∷ ds) q = (away_deed birth n d q.0, away_quiet birth n ds q.1)

module _ (n : ℕ) where
  abbrev Away : List Deed → Type 0
  Away ds = AreAway n ds

  -- deeds away from a line, and others behind them, are away from it
  pub away_append : (xs ys : List Deed) → Away xs → Away ys → Away (xs ++ ys)
  away_append [] ys p q = q
  away_append (x ∷ xs) ys p q = (p.0, away_append xs ys p.1 q)

  away_map : {X : Type 0} (f : X → Deed) → ((x : X) → IsAway n (f x)) → (xs : List X) → Away (map f xs)
  away_map f h [] = tt
  away_map f h (x ∷ xs) = (h x, away_map f h xs)

  away_flat : {X : Type 0} (f : X → List Deed) → ((x : X) → Away (f x)) → (xs : List X) → Away (flat_map f xs)
  away_flat f h [] = tt
  away_flat f h (x ∷ xs) = away_append (f x) (flat_map f xs) (h x) (away_flat f h xs)

  away_entry : (o : Option CopyRow) (f : CopyRow → List Deed) → ((e : CopyRow) → Away (f e)) → Away (of_entry o f)
  away_entry None f h = tt
  away_entry (Some e) f h = h e

  away_turn : (now line : ℕ) (s : Session) (t : Turn) → Away (turn_deeds now line s t)
  away_turn now line s (turns.Send place id) = away_entry (row_at copy_place place s.queue) _ (λ e. (tt, (inr tt, (inr refl, tt))))
  away_turn now line s (turns.Resend place id) = away_entry (row_at copy_place place s.queue) _ (λ e. (inr tt, (inr refl, tt)))
  away_turn now line s (turns.Release place id order) = (tt, (inr refl, tt))
  away_turn now line s (turns.Outgrow place id order) = (tt, (inr refl, tt))
  away_turn now line s (turns.Repeat id) = (inr refl, tt)
  away_turn now line s (turns.Unknown id) = (inr refl, tt)
  away_turn now line s (turns.Leave place ending) = away_quiet 0 n (leave_deeds s (turns.Leave place ending)) (quiet_leave 0 n s (turns.Leave place ending))

  away_closed : (keeps_will : Bool) (now : ℕ) (o : Option Session) → Away (closing_session keeps_will now o)
  away_closed keeps_will now None = tt
  away_closed true now (Some s) = (tt, tt)
  away_closed false now (Some s) = (tt, (tt, tt))

  away_closing_on : (keeps_will : Bool) (now : ℕ) (session : Option ℕ) (r : Records) → Away (closing_on keeps_will now session r)
  away_closing_on keeps_will now None r = tt
  away_closing_on keeps_will now (Some birth) r = away_closed keeps_will now (session_at birth r)

  away_begin : (t : Bool) (l : Line) (c : Greeting) (r : Records) → nat_eq l.number n ≡ false → Away (begin_named t l c r)
  away_begin false l c r q = (tt, (inl q, (inl q, tt)))
  away_begin true l c r q = (tt, (tt, (inl q, (inl q, tt))))

  away_grants : (env : Env) (w : sub.Wish) (s : Session) (b : Broker) → Away (sub.granted_filter env (sub.next_number b.records) s w (brought_to w s b) b).deeds
  away_grants env w s b =
      let number = sub.next_number b.records in
      let queued = filter is_queued (brought_to w s b) in
      let first : List Deed = Count number ∷ At (whose s) (Subscribe (sub.subscription number s w)) ∷ [] in
      let rest = series (map (deliver env) queued) (after_all first b) in
      away_append first rest (tt, (tt, tt)) (away_quiet 0 n rest (quiet_deliveries 0 n env queued (after_all first b)))

  -- ---- the law of the induction: all lines but this one

  abbrev others : Whom
  others = record {
    line = λ l. nat_eq l.number n ≡ false;
    number = λ m. nat_eq m n ≡ false;
    session = λ k. ⊤;
    client = λ its b. ⊤;
    packet = λ packet. ⊤;
    message = λ m. ⊤;
  }

  abbrev IsAwayDeed : Deed → Broker → Type 0
  IsAwayDeed d b = IsAway n d

  good_of : (ds : List Deed) (b : Broker) → Away ds → AreGood IsAwayDeed ds b
  good_of [] b q = tt
  good_of (d ∷ ds) b q = (q.0, good_of ds (after d b) q.1)

  away_of : (ds : List Deed) (b : Broker) → AreGood IsAwayDeed ds b → Away ds
  away_of [] b q = tt
  away_of (d ∷ ds) b q = (q.0, away_of ds (after d b) q.1)

  led : (ds : List Deed) (b : Broker) → IsIdle n b → Away ds → Leads (IsIdle n) IsAwayDeed ds b
  led ds b h q = (good_of ds b q, idle_deeds n ds b q h)

  -- a line with a session is another one
  pub connected_elsewhere : (k : ℕ) (l : Line) (b : Broker) → IsIdle n b → line_of k b ≡ Some l → nat_eq l.number n ≡ false
  connected_elsewhere k l b h e =
      let both = all_find (HasNobody n) (λ (x : Line). is_of x.session k) l b.lines h.lines e in
      elim (cases_Bool (nat_eq l.number n)) [
        | inl same ↦
            let none : l.session ≡ None = both.0 (eqb-true l.number n same) in
            let no : is_of None k ≡ true = ap (λ (o : Option ℕ). is_of o k) (sym none) ∙ both.1 in
            absurd cc
        | inr other ↦ other
      ]

  away_law : (env : Env) → Law env others (IsIdle n) IsAwayDeed
  away_law env = record {
    finds = record {
      its_number = λ l its. its;
      its_session = λ l k its e. tt;
      its_line = λ k l b h its e. connected_elsewhere k l b h e;
      named = λ its s b h q e. tt;
      admitted = λ c b h came e. tt;
      sent = λ l s p topic b h its came e. tt;
      willed = λ s w b h among e. tt;
    };
    client_stays = λ its ds b h leads q. q;
    publishes = λ origin m ds b h said e. led (publish env origin m ds b) b h (tt, away_quiet 0 n (copies_of env origin m ds b) (quiet_copies 0 n env origin m ds b));
    open_id = λ s id m ds b k h its there new is. led (At (whose s) (Open id) ∷ []) (after_all (publish env FromClient m ds b) b) h (tt, tt);
    refuse_will = λ who b h its. led (RefuseWill who ∷ []) b h (tt, tt);
    alone = λ who part b h its is. led (At who part ∷ []) b h (tt, tt);
    closes = λ keeps_will l b h its on. led (closing keeps_will l b) b h (its, away_closing_on keeps_will b.now l.session b.records);
    ends = λ s b h its among may. led (end_session s) b h (away_append (map (λ (e : CopyRow). At (whose s) (Leave e SessionEnded)) s.queue) (Finish (whose s) ∷ []) (away_map (λ (e : CopyRow). At (whose s) (Leave e SessionEnded)) (λ e. tt) s.queue) (tt, tt));
    resumes = λ l c s b h its none came taken own is prepared. led (At (whose s) (Resume (expiry_of c) (will_of c)) ∷ greet l c s.birth ∷ []) b h (tt, (inl its, tt));
    begins = λ l c b h its none came taken name is room prepared. led (begin_named (is_empty c.client_identifier) l c b.records) b h (away_begin (is_empty c.client_identifier) l c b.records its);
    grants = λ w s b h its asked granted. led (sub.granted_filter env (sub.next_number b.records) s w (brought_to w s b) b).deeds b h (away_grants env w s b);
    pumps = λ l s b h its is there. led (pump_deeds l b s) b h (away_flat (turn_deeds b.now l.number s) (away_turn b.now l.number s) (pump_turns l b s));
    turns = λ a t l s b h its own there is e. led (turn_deeds b.now l.number s t) b h (away_turn b.now l.number s t);
    lapses = λ s b h among. led (lapse_deeds b.now s) b h (away_flat (leave_deeds s) (λ t. away_quiet 0 n (leave_deeds s t) (quiet_leave 0 n s t)) (lapses b.now s));
    stale = λ k b h among. led (Forget k.place ∷ []) b h (tt, tt);
    links = λ b h can. led (Link (suc b.given) ∷ []) b h (let le = h.given in omega (arith, le), tt);
    hears = λ m b h its. led (On m Hear ∷ []) b h (inl its, tt);
    sets = λ m alias topic b h its said. led (On m (SetAlias alias topic) ∷ []) b h (inl its, tt);
    sends = λ m packet b h its. led (Send m packet ∷ []) b h (inl its, tt);
  }

  by_law : (env : Env) (call : Call) (b : Broker) → IsIdle n b → IsCallOf others call b → Away (deeds_of env call b)
  by_law env call b h its = away_of (deeds_of env call b) b (leads_call env others (IsIdle n) IsAwayDeed (away_law env) call b h its).0

  -- it isn't this line that a tick closes
  abbrev IsOnTime : Call → Broker → Type 0
  IsOnTime Tick b = (l : Line) → find (λ (x : Line). is_silent b.now x.session x) b.lines ≡ Some l → nat_eq l.number n ≡ false
  IsOnTime call b = ⊤

  its_line : (m : ℕ) (l : Line) (b : Broker) → nat_eq m n ≡ false → line_at m b ≡ Some l → nat_eq l.number n ≡ false
  its_line m l b q e = ap (λ (k : ℕ). nat_eq k n) (found_number m l b.lines e) ∙ q

  -- nothing is sent on it
  pump_there : (b : Broker) → IsIdle n b → (m : ℕ) → nat_eq m n ≡ true → (o : Option Line) → line_at m b ≡ o → Away (with_line o (λ l. on_pump l l.session) b)
  pump_there b h m same None e = tt
  pump_there b h m same (Some l) e =
      let at = all_find (HasNobody n) (λ (x : Line). nat_eq x.number m) l b.lines h.lines e in
      let none : l.session ≡ None = at.0 (eqb-true l.number m at.1 ∙ eqb-true m n same) in
      subst (λ (o : Option ℕ). Away (on_pump l o b)) (sym none) tt

  on_time : (env : Env) (call : Call) (b : Broker) → IsIdle n b → IsElsewhere n call → IsOnTime call b → Away (deeds_of env call b)
  on_time env NewLine b h q t = by_law env NewLine b h tt
  on_time env (Input m packet) b h q t = by_law env (Input m packet) b h ((λ l e. its_line m l b q e), tt)
  on_time env (BadInput m is_connect code) b h q t = by_law env (BadInput m is_connect code) b h (λ l e. its_line m l b q e)
  on_time env (Lost m) b h q t = by_law env (Lost m) b h (λ l e. its_line m l b q e)
  on_time env (Pump m) b h q t = elim (cases_Bool (nat_eq m n)) [
    | inl same ↦ pump_there b h m same (line_at m b) refl
    | inr other ↦ by_law env (Pump m) b h (λ l e. its_line m l b other e)
  ]
  on_time env Tick b h q t = by_law env Tick b h (record { silent = t; wills = λ s e. tt; ends = λ s e. tt })

  -- a call leaves it alone, or it is the tick that closes it
  pub elsewhere : (env : Env) (call : Call) (b : Broker) → IsIdle n b → IsElsewhere n call → Away (deeds_of env call b) ⊎ (deeds_of env call b ≡ Gone n ∷ [])
  elsewhere env NewLine b h q = inl (on_time env NewLine b h q tt)
  elsewhere env (Input m packet) b h q = inl (on_time env (Input m packet) b h q tt)
  elsewhere env (BadInput m is_connect code) b h q = inl (on_time env (BadInput m is_connect code) b h q tt)
  elsewhere env (Lost m) b h q = inl (on_time env (Lost m) b h q tt)
  elsewhere env (Pump m) b h q = inl (on_time env (Pump m) b h q tt)
  elsewhere env Tick b h q = by (find (λ (x : Line). is_silent b.now x.session x) b.lines) refl
    where
      differs : (x l : Line) → nat_eq x.number n ≡ false → Some x ≡ Some l → nat_eq l.number n ≡ false
      differs x l other e = let is : x ≡ l = cc in subst (λ (z : Line). nat_eq z.number n ≡ false) is other

      closed_is : (l : Line) → l.number ≡ n → l.session ≡ None → silence env l.session l b ≡ Gone n ∷ []
      closed_is l is none = ap (λ (o : Option ℕ). silence env o l b) none ∙ (ap (λ (o : Option ℕ). Gone l.number ∷ (close_connected env true o (after (Gone l.number) b) ++ [])) none ∙ ap (λ (k : ℕ). Gone k ∷ []) is)

      by : (o : Option Line) → find (λ (x : Line). is_silent b.now x.session x) b.lines ≡ o → Away (deeds_of env Tick b) ⊎ (deeds_of env Tick b ≡ Gone n ∷ [])
      by None e = inl (on_time env Tick b h q (λ l f. let clash : None ≡ Some l = sym e ∙ f in absurd cc))
      by (Some x) e = elim (cases_Bool (nat_eq x.number n)) [
        | inr other ↦ inl (on_time env Tick b h q (λ l f. differs x l other (sym e ∙ f)))
        | inl same ↦
            let both = all_find (HasNobody n) (λ (y : Line). is_silent b.now y.session y) x b.lines h.lines e in
            let is = eqb-true x.number n same in
            inr (ap (λ (o : Option Line). on_tick (first_due (
            option_map (λ l. silence env l.session l) o
            ∷ option_map (publish_will env) (find (has_due_will b.now) b.records.sessions)
            ∷ option_map (λ s. always (end_session s)) (find (has_due_end b.now) b.records.sessions)
            ∷ option_map (λ k. always (Forget k.place ∷ [])) (find (is_stale b.now) b.records.retained)
            ∷ option_map (λ s. always (lapse_deeds b.now s)) (find (has_lapsed b.now) b.records.sessions)
            ∷ [])) b) e
            ∙ closed_is x is (both.0 is))
      ]
