-- Where a publisher is: its session, its line and the line that it gave up; and what deeds of others leave of that (MQTT 5.0,
-- 3.1.4, 4.1).
use Rattle.std.proofs.Common.{◌≡◌, ℕ, Bool, true, false, not, ◌⊎◌, List, [], ◌∷◌, ◌++◌, filter, Option, Some, None, nat_eq, nat_lt, bytes_eq, length, refl, sym, ap, subst, ◌∙◌, append-nil, inl, inr}
use Rattle.std.specs.Prelude.{⊤, option_map, find, filter_map, is_some}
use Rattle.std.specs.List.{AllByRecursion, starts_with}
use Rattle.std.proofs.lemmas.Bool.{eqb-true, cases_Bool}
use Rattle.std.proofs.lemmas.Cmp.{nat_eq_equiv}
use Rattle.std.proofs.lemmas.Slice.Eq.{bytes_eq-Decides}
use Rattle.mqtt_flow.specs.inbound.Line.{sent_on}
use Rattle.mqtt_flow.specs.inbound.Publisher.{ToPublisher, DISCONNECT}
use Rattle.mqtt_flow.specs.inbound.InboundWorld.{World as Hop, Event as HopEvent, close, step, run}
use Rattle.mqtt_records.specs.declared.state.session.Session.{Session}
use Rattle.mqtt_records.specs.declared.state.change.Change.{Change}
use Rattle.mqtt_records.specs.lists.Order.{row_at}
use Rattle.mqtt_records.specs.state.Session.{birth_of, auto}
use Rattle.mqtt_rules.specs.declared.step.Capacity.{Capacity}
use Rattle.mqtt_rules.specs.step.State.{MemberChoice, Line as BrokerLine, Broker, session_at, session_named, line_at}
use Rattle.mqtt_rules.specs.step.Deeds.{Deed, Gone, after_all, rows_of_all}
use Rattle.mqtt_rules.specs.step.Step.{Call, Outcome, with_moment, at_moment, deeds, stepped, told}
use Rattle.mqtt_world_model.specs.model.Lines.{Line, sent_to, is_one_of, unless_closed, told_by}
use Rattle.mqtt_world_model.specs.model.Ends.{Sent, Publisher}
use Rattle.mqtt_world_model.specs.model.World.{publisher_told}
use Rattle.mqtt_world_model.specs.model.Seen.{shaken, heard_in, has_session, is_linked, open_in, seen}
use Rattle.mqtt_world_model.specs.model.Hops.{IsIts, IsOurs, Own, IsKept, IsNoConnect}
use Rattle.mqtt_world_model.specs.model.Seats.{Former, HasNobody, IsHis, IsIdle, Present, Seat, absent, closed, glance_at, joined, late, lingers, over, waiting}
use Rattle.mqtt_world_model.proofs.model_lemmas.others.Rows.{Face, face}
use Rattle.mqtt_world_model.proofs.model_lemmas.others.Quiet.{told_to, closes, session_on}
use Rattle.mqtt_world_model.proofs.model_lemmas.seats.Seeing.{done_sessions, done_lines, among_closed, told_down, append_heard, linked_of, linked_is, hop_of}
use Rattle.mqtt_world_model.proofs.model_lemmas.others.Far.{AreFar, apart_by, own_deeds}
use Rattle.mqtt_world_model.proofs.model_lemmas.others.Frame.{own_done, old_events}
use Rattle.mqtt_world_model.proofs.model_lemmas.others.Untouched.{AreAway, spared_by, idle_deeds}
use Rattle.mqtt_world_model.proofs.model_lemmas.others.Nameless.{AreStrangers, still_none}

-- ---- what is found by the name is what is found by the birth

-- the session of the publisher's name is that of its birth
pub named_at : (client : List ℕ) (birth : ℕ) (ss : List Session) → AllByRecursion (IsOurs client birth) ss → find (λ (x : Session). bytes_eq x.client client) ss ≡ row_at birth_of birth ss
named_at client birth [] h = refl
named_at client birth (x ∷ xs) h = elim (cases_Bool (bytes_eq x.client client)) [
  | inl its ↦
      let is : x.birth ≡ birth = h.0.named ((bytes_eq-Decides x.client client).0 its) in
      let here : nat_eq x.birth birth ≡ true = ap (λ (n : ℕ). nat_eq n birth) is ∙ nat_eq_equiv.refl birth in
      rw (its, here) refl
  | inr other ↦ elim (cases_Bool (nat_eq x.birth birth)) [
    | inl here ↦
        let is : x.client ≡ client = h.0.name (eqb-true x.birth birth here) in
        let its : bytes_eq x.client client ≡ true = (bytes_eq-Decides x.client client).1 is in
        let clash : true ≡ false = sym its ∙ other in
        absurd cc
    | inr further ↦ rw (other, further) (named_at client birth xs h.1)
  ]
]

some_faced : (o : Option Session) → is_some (option_map face o) ≡ is_some o
some_faced None = refl
some_faced (Some s) = refl

abbrev open_face : Option Face → List ℕ
open_face None = []
open_face (Some f) = f.inbound

open_faced : (o : Option Session) → open_face (option_map face o) ≡ open_in o
open_faced None = refl
open_faced (Some s) = refl

-- its session, as it is stored
pub kept_of : (client : List ℕ) (birth k : ℕ) (b : Broker) → Own client birth k b → is_some (session_named client b.records) ≡ true → nat_lt 64 (length client) ≡ false → starts_with nat_eq client auto ≡ false
    → (s : Session) × (s.birth ≡ birth) × IsKept client s b
kept_of client birth k b own stands short plain = by (session_named client b.records) refl stands
  where
    only_of : (x : ℕ) → birth ≡ x → (ss : List Session) → AllByRecursion (IsOurs client birth) ss → AllByRecursion (IsIts client x) ss
    only_of x e [] h = tt
    only_of x e (s ∷ ss) h = ((λ is. h.0.named is ∙ e), only_of x e ss h.1)

    ours : (s : Session) (ss : List Session) → AllByRecursion (IsOurs client birth) ss → find (λ (x : Session). bytes_eq x.client client) ss ≡ Some s → IsOurs client birth s × (s.client ≡ client)
    ours s [] h e = absurd cc
    ours s (x ∷ xs) h e = elim (cases_Bool (bytes_eq x.client client)) [
      | inl its ↦
          let it : Some x ≡ Some s = rw its at e in
          let is : x ≡ s = cc in
          (subst (IsOurs client birth) is h.0, ap (λ (y : Session). y.client) (sym is) ∙ (bytes_eq-Decides x.client client).0 its)
      | inr other ↦ ours s xs h.1 (rw other at e)
    ]

    by : (o : Option Session) → session_named client b.records ≡ o → is_some o ≡ true → (s : Session) × (s.birth ≡ birth) × IsKept client s b
    by None e t = absurd cc
    by (Some s) e t =
        let both = ours s b.records.sessions own.sessions e in
        let is : s.birth ≡ birth = both.0.named both.1 in
        let at : session_at birth b.records ≡ Some s = sym (named_at client birth b.records.sessions own.sessions) ∙ e in (
          s,
          is,
          record {
            session = ap (λ (n : ℕ). session_at n b.records) is ∙ at;
            name = both.1;
            only = only_of s.birth (sym is) b.records.sessions own.sessions;
            no_will = both.0.no_will is;
            no_end = both.0.no_end is;
            short = short;
            plain = plain;
          },
        )

-- ---- deeds of others

-- that leave its session and that session's line alone
abbrev pub AreOthers : List ℕ → Option ℕ → ℕ → List Deed → Type 0
AreOthers client None k ds = AreStrangers client ds
AreOthers client (Some birth) k ds = AreFar client birth k ds

-- and the line with this number, if nobody is connected there, or they close it
abbrev pub AreElsewhere : Option ℕ → List Deed → Broker → Type 0
AreElsewhere None ds b = ⊤
AreElsewhere (Some n) ds b = IsIdle n b → AreAway n ds ⊎ (ds ≡ Gone n ∷ [])

-- deeds are of others, and leave the publisher's two lines as lines of its own may be left
pub record AreFarFrom (client : List ℕ) (o : Option ℕ) (k : ℕ) (l : Line Sent) (ds : List Deed) (b : Broker) : Type 0 where
  pub its : AreOthers client o k ds
  pub own : AreElsewhere l.number ds b
  pub old : AreElsewhere l.old_number ds b

-- what becomes of its session
pub record Remains (client : List ℕ) (o : Option ℕ) (k : ℕ) (b c : Broker) : Type 0 where
  pub his : IsHis client o k c
  pub stands : is_some (session_named client c.records) ≡ is_some (session_named client b.records)
  pub ids : open_in (session_named client c.records) ≡ open_in (session_named client b.records)

-- what others do leaves what is the publisher's
pub remains : (client : List ℕ) (o : Option ℕ) (k : ℕ) (ds : List Deed) (b : Broker) → IsHis client o k b → AreOthers client o k ds → Remains client o k b (after_all ds b)
remains client None k ds b none q =
    let still = still_none client ds b q none in
    record { his = still; stands = ap is_some (still ∙ sym none); ids = ap open_in (still ∙ sym none) }
remains client (Some birth) k ds b h q =
    let c = after_all ds b in
    let own = own_deeds client birth k ds b q h.0 in
    let a = apart_by client birth k ds b q in
    let before = named_at client birth b.records.sessions h.0.sessions in
    let behind = named_at client birth c.records.sessions own.sessions in
    let stands : is_some (session_named client c.records) ≡ is_some (session_named client b.records) =
    ap is_some behind ∙ (sym (some_faced (session_at birth c.records)) ∙ (ap is_some a.face_is ∙ (some_faced (session_at birth b.records) ∙ sym (ap is_some before)))) in
    record {
      his = (own, stands ∙ h.1);
      stands = stands;
      ids = ap open_in behind ∙ (sym (open_faced (session_at birth c.records)) ∙ (ap open_face a.face_is ∙ (open_faced (session_at birth b.records) ∙ sym (ap open_in before))));
    }

-- and after the moment of the step is stored
pub remains_done : (client : List ℕ) (o : Option ℕ) (k : ℕ) (rows : List Change) (b c : Broker) → Remains client o k b c → Remains client o k b (with_moment rows c)
remains_done client o k rows b c r =
    let sessions = done_sessions rows c in
    record {
      his = his o r.his;
      stands = ap (λ (ss : List Session). is_some (find (λ (x : Session). bytes_eq x.client client) ss)) sessions ∙ r.stands;
      ids = ap (λ (ss : List Session). open_in (find (λ (x : Session). bytes_eq x.client client) ss)) sessions ∙ r.ids;
    }
  where
    his : (x : Option ℕ) → IsHis client x k c → IsHis client x k (with_moment rows c)
    his None h = ap (λ (ss : List Session). find (λ (x : Session). bytes_eq x.client client) ss) (done_sessions rows c) ∙ h
    his (Some birth) h = (own_done client birth k rows c h.0, ap (λ (ss : List Session). is_some (find (λ (x : Session). bytes_eq x.client client) ss)) (done_sessions rows c) ∙ h.1)

-- ---- what becomes of the lines

-- a list of deeds that ends the line alone
gone_closes : (n : ℕ) → closes n (Gone n ∷ []) ≡ true
gone_closes n = let it = nat_eq_equiv.refl n in rw it refl

no_glance : (n : ℕ) (ls : List BrokerLine) → glance_at n (filter (λ (x : BrokerLine). not (nat_eq x.number n)) ls) ≡ None
no_glance n [] = refl
no_glance n (l ∷ ls) = elim (cases_Bool (nat_eq l.number n)) [
  | inl here ↦ rw here (no_glance n ls)
  | inr other ↦ rw other (rw other (no_glance n ls))
]

idle_without : (n : ℕ) (ls : List BrokerLine) → AllByRecursion (HasNobody n) ls → AllByRecursion (HasNobody n) (filter (λ (x : BrokerLine). not (nat_eq x.number n)) ls)
idle_without n [] h = tt
idle_without n (l ∷ ls) h = elim (cases_Bool (nat_eq l.number n)) [
  | inl here ↦ rw here (idle_without n ls h.1)
  | inr other ↦ rw other (h.0, idle_without n ls h.1)
]

-- an idle line after deeds of others: as it was, or closed; and nothing is told there
pub record Rests (n : ℕ) (ds : List Deed) (b : Broker) : Type 0 where
  pub idle : IsIdle n (after_all ds b)
  pub told_is : told_to n ds ≡ []
  pub line_is : (closes n ds ≡ false) × (glance_at n (after_all ds b).lines ≡ glance_at n b.lines) ⊎ (closes n ds ≡ true) × (glance_at n (after_all ds b).lines ≡ None)

-- an idle line stays idle, or goes
pub rests : (n : ℕ) (ds : List Deed) (b : Broker) → IsIdle n b → AreAway n ds ⊎ (ds ≡ Gone n ∷ []) → Rests n ds b
rests n ds b h (inl away) =
    let s = spared_by n ds b away in
    record { idle = idle_deeds n ds b away h; told_is = s.told_is; line_is = inl (s.closes_is, s.line_is) }
rests n ds b h (inr is) = record {
  idle = subst (λ (xs : List Deed). IsIdle n (after_all xs b)) (sym is) (record { lines = idle_without n b.lines h.lines; given = h.given });
  told_is = ap (told_to n) is;
  line_is = inr (ap (closes n) is ∙ gone_closes n, ap (λ (xs : List Deed). glance_at n (after_all xs b).lines) is ∙ no_glance n b.lines);
}

-- nobody is connected on an idle line
pub idle_linked : (n : ℕ) (b : Broker) → IsIdle n b → is_linked (Some n) b ≡ false
idle_linked n b h = by (line_at n b) refl
  where
    none : (l : BrokerLine) (ls : List BrokerLine) → AllByRecursion (HasNobody n) ls → find (λ (x : BrokerLine). nat_eq x.number n) ls ≡ Some l → l.session ≡ None
    none l [] h e = absurd cc
    none l (x ∷ xs) h e = elim (cases_Bool (nat_eq x.number n)) [
      | inl here ↦
          let it : Some x ≡ Some l = rw here at e in
          let is : x ≡ l = cc in
          ap (λ (y : BrokerLine). y.session) (sym is) ∙ h.0 (eqb-true x.number n here)
      | inr other ↦ none l xs h.1 (rw other at e)
    ]

    by : (o : Option BrokerLine) → line_at n b ≡ o → is_linked (Some n) b ≡ false
    by None e = ap has_session e
    by (Some l) e = ap has_session e ∙ ap is_some (none l b.lines h.lines e)

-- so it is after the moment of the step is stored
pub idle_done : (n : ℕ) (rows : List Change) (b : Broker) → IsIdle n b → IsIdle n (with_moment rows b)
idle_done n [] b h = h
idle_done n (row ∷ rows) b h = record { lines = h.lines; given = h.given }

-- the stored moment changes nothing on a line
pub glance_done : (n : ℕ) (rows : List Change) (b : Broker) → glance_at n (with_moment rows b).lines ≡ glance_at n b.lines
glance_done n rows b = ap (glance_at n) (done_lines rows b)

-- ---- its own line, as it sees it

abbrev pub own_events : Bool → List HopEvent
own_events true = close 0 ∷ []
own_events false = []

-- what a step of others makes of it
pub record Beholds (o : Option ℕ) (k : ℕ) (l : Line Sent) (b c : Broker) (out : Outcome) : Type 0 where
  pub present : Present o k (told_by c out l) c
  pub linked : is_linked l.number c ≡ is_linked l.number b
  pub downs : filter_map heard_in (l.down ++ sent_to l.number c out.outputs) ≡ filter_map heard_in l.down
  pub ups : (t : Bool) × (t ≡ true → is_linked l.number b ≡ false) × (filter_map shaken (unless_closed (is_one_of l.number out.closed) l.up) ≡ filter_map shaken (unless_closed t l.up))

module _ (limits : Capacity) (choice : MemberChoice) (now : ℕ) (call : Call) (client : List ℕ) (o : Option ℕ) (k : ℕ) (l : Line Sent) (b : Broker) where
  abbrev ds : List Deed
  ds = deeds limits choice now call b

  abbrev start : Broker
  start = at_moment now b

  abbrev new : Broker
  new = stepped limits choice now call b

  abbrev out : Outcome
  out = told limits choice now call b

  abbrev rows : List Change
  rows = rows_of_all ds start.records

  downs_none : (x : Option ℕ) (n : ℕ) → x ≡ Some n → told_to n ds ≡ [] → filter_map heard_in (l.down ++ sent_to x new out.outputs) ≡ filter_map heard_in l.down
  downs_none x n is none =
      ap (λ (y : Option ℕ). filter_map heard_in (l.down ++ sent_to y new out.outputs)) is
      ∙ (append_heard l.down (sent_to (Some n) new out.outputs)
      ∙ (ap (λ (xs : List ToPublisher). filter_map heard_in l.down ++ xs) (told_down n new ds ∙ none)
      ∙ append-nil (filter_map heard_in l.down)))

  closed_is : (x : Option ℕ) (n : ℕ) (t : Bool) → x ≡ Some n → closes n ds ≡ t → is_one_of x out.closed ≡ t
  closed_is x n t is e = ap (λ (y : Option ℕ). is_one_of y out.closed) is ∙ (among_closed n ds ∙ e)

  idle_start : (n : ℕ) → IsIdle n b → IsIdle n start
  idle_start n h = record { lines = h.lines; given = h.given }

  elsewhere_at : (x : Option ℕ) (n : ℕ) → x ≡ Some n → AreElsewhere x ds start → IsIdle n start → AreAway n ds ⊎ (ds ≡ Gone n ∷ [])
  elsewhere_at x n is q h = subst (λ (y : Option ℕ). AreElsewhere y ds start) is q h

  behold_idle : (n : ℕ) → l.number ≡ Some n → IsIdle n b → (r : Rests n ds start) → (t : Bool) → closes n ds ≡ t → Present o k (told_by new out l) new → Beholds o k l b new out
  behold_idle n is h r t e present = record {
    present = present;
    linked =
        ap (λ (y : Option ℕ). is_linked y new) is
        ∙ (idle_linked n new (idle_done n rows (after_all ds start) r.idle) ∙ sym (ap (λ (y : Option ℕ). is_linked y b) is ∙ idle_linked n b h));
    downs = downs_none l.number n is r.told_is;
    ups = (t, (λ z. ap (λ (y : Option ℕ). is_linked y b) is ∙ idle_linked n b h), ap (λ (z : Bool). filter_map shaken (unless_closed z l.up)) (closed_is l.number n t is e));
  }

  unclosed : (t : Bool) (xs : List Sent) → xs ≡ [] → unless_closed t xs ≡ []
  unclosed true xs e = refl
  unclosed false xs e = e

  -- if its session is connected, the deeds are far from it
  abbrev pub AreFarIf : Type 0
  AreFarIf = (birth : ℕ) → o ≡ Some birth → AreFar client birth k ds

  -- deeds of others are far from a session that is connected
  pub far_if : AreOthers client o k ds → AreFarIf
  far_if its birth is = subst (λ (x : Option ℕ). AreOthers client x k ds) is its

  -- what a step of others makes of the publisher's session and line
  pub behold : AreElsewhere l.number ds start → AreFarIf → Present o k l b → Beholds o k l b new out
  behold q its (absent none up) = record {
    present = absent none (unclosed (is_one_of l.number out.closed) l.up up);
    linked = ap (λ (y : Option ℕ). is_linked y new) none ∙ sym (ap (λ (y : Option ℕ). is_linked y b) none);
    downs = ap (λ (y : Option ℕ). filter_map heard_in (l.down ++ sent_to y new out.outputs)) none ∙ ap (filter_map heard_in) (append-nil l.down);
    ups = (false, (λ z. ap (λ (y : Option ℕ). is_linked y b) none), ap (λ (y : Option ℕ). filter_map shaken (unless_closed (is_one_of y out.closed) l.up)) none);
  }
  behold q its (closed n is up h none) =
      let r = rests n ds start (idle_start n h) (elsewhere_at l.number n is q (idle_start n h)) in
      let idle = idle_done n rows (after_all ds start) r.idle in
      let up_is = unclosed (is_one_of l.number out.closed) l.up up in
      elim r.line_is [
        | inl same ↦ behold_idle n is h r false same.0 (closed n is up_is idle (glance_done n rows (after_all ds start) ∙ (same.1 ∙ none)))
        | inr gone ↦ behold_idle n is h r true gone.0 (closed n is up_is idle (glance_done n rows (after_all ds start) ∙ gone.1))
      ]
  behold q its (waiting n clean is link_is clean_is up down h there) =
      let r = rests n ds start (idle_start n h) (elsewhere_at l.number n is q (idle_start n h)) in
      let idle = idle_done n rows (after_all ds start) r.idle in
      elim r.line_is [
        | inl same ↦
            let open_ = closed_is l.number n false is same.0 in
            behold_idle n is h r false same.0
            (waiting n clean is link_is clean_is (ap (λ (t : Bool). unless_closed t l.up) open_ ∙ up) (downs_none l.number n is r.told_is ∙ down) idle (glance_done n rows (after_all ds start) ∙ (same.1 ∙ there)))
        | inr gone ↦
            let shut = closed_is l.number n true is gone.0 in
            behold_idle n is h r true gone.0 (closed n is (ap (λ (t : Bool). unless_closed t l.up) shut) idle (glance_done n rows (after_all ds start) ∙ gone.1))
      ]
  behold q its (joined birth own is there) =
      let a = apart_by client birth k ds start (its birth own) in
      let on : session_on k new.lines ≡ session_on k b.lines = ap (session_on k) (done_lines rows (after_all ds start)) ∙ a.line_is in
      record {
        present = joined birth own is (on ∙ there);
        linked =
            ap (λ (y : Option ℕ). is_linked y new) is
            ∙ (linked_is k new ∙ (ap linked_of on ∙ (sym (linked_is k b) ∙ sym (ap (λ (y : Option ℕ). is_linked y b) is))));
        downs = downs_none l.number k is a.told_is;
        ups = (false, (λ z. absurd cc), ap (λ (z : Bool). filter_map shaken (unless_closed z l.up)) (closed_is l.number k false is a.closes_is));
      }

  -- ---- the line that it gave up

  all_unless : (t : Bool) (xs : List Sent) → AllByRecursion IsNoConnect xs → AllByRecursion IsNoConnect (unless_closed t xs)
  all_unless true xs h = tt
  all_unless false xs h = h

  -- a step of others leaves the line that was given up what it may be
  pub former_stays : AreElsewhere l.old_number ds start → AreOthers client o k ds → Former o k l b → Former o k (told_by new out l) new
  former_stays q its (over none) = over (unclosed (is_one_of l.old_number out.closed) l.old none)
  former_stays q its (late m is old h there) =
      let r = rests m ds start (idle_start m h) (elsewhere_at l.old_number m is q (idle_start m h)) in
      let idle = idle_done m rows (after_all ds start) r.idle in
      elim r.line_is [
        | inl same ↦
            let open_ = closed_is l.old_number m false is same.0 in
            late m is (ap (λ (t : Bool). unless_closed t l.old) open_ ∙ old) idle (glance_done m rows (after_all ds start) ∙ (same.1 ∙ there))
        | inr gone ↦
            let shut = closed_is l.old_number m true is gone.0 in
            over (ap (λ (t : Bool). unless_closed t l.old) shut)
      ]
  former_stays q its (lingers birth own is calm there) =
      let far = subst (λ (x : Option ℕ). AreOthers client x k ds) own its in
      let a = apart_by client birth k ds start far in
      lingers birth own is (all_unless (is_one_of l.old_number out.closed) l.old calm) (ap (session_on k) (done_lines rows (after_all ds start)) ∙ (a.line_is ∙ there))

-- ---- together: a step of others is unseen, but that lines close

-- the end of the publisher's line drops what was on its way
pub closes_own : (t : Bool) (up : List Sent) (w : Hop) → w.up ≡ filter_map shaken up → (t ≡ true → w.linked ≡ false) → record w { up = filter_map shaken (unless_closed t up) } ≡ run (own_events t) w
closes_own false up w e h = λ i. record w { up = sym e i }
closes_own true up w e h =
    let none = h refl in
    let downs = ap (λ (z : Bool). sent_on z w.down (DISCONNECT 0 ∷ [])) (sym none) in
    λ i. record w { up = []; linked = none i; down = downs i }

-- the end of the publisher's old line drops what was on its way there
pub closes_old : (t : Bool) (old : List Sent) (w : Hop) → w.old ≡ filter_map shaken old → record w { old = filter_map shaken (unless_closed t old) } ≡ run (old_events t) w
closes_old true old w e = refl
closes_old false old w e = λ i. record w { old = sym e i }

-- two runs one behind the other are one
pub run_append : (xs ys : List HopEvent) (w : Hop) → run (xs ++ ys) w ≡ run ys (run xs w)
run_append [] ys w = refl
run_append (x ∷ xs) ys w = run_append xs ys (step w x)

-- what happens on the publisher's line leaves the old one
pub old_after : (t : Bool) (w : Hop) → (run (own_events t) w).old ≡ w.old
old_after true w = refl
old_after false w = refl

-- where the publisher is after a step of others, and what it saw of it
pub far_step : (limits : Capacity) (choice : MemberChoice) (now : ℕ) (call : Call) (o : Option ℕ) (k : ℕ) (p : Publisher) (b : Broker) (accepted : List ℕ)
    → Seat o k p b → AreFarFrom p.client o k p.line (deeds limits choice now call b) (at_moment now b)
    → Seat o k (publisher_told (stepped limits choice now call b) (told limits choice now call b) p) (stepped limits choice now call b)
    × ((es : List HopEvent) × (seen accepted (publisher_told (stepped limits choice now call b) (told limits choice now call b) p) (stepped limits choice now call b) ≡ run es (seen accepted p b)))
far_step limits choice now call o k p b accepted seat far =
    let ds = deeds limits choice now call b in
    let start = at_moment now b in
    let new = stepped limits choice now call b in
    let out = told limits choice now call b in
    let rows = rows_of_all ds start.records in
    let r = remains_done p.client o k rows start (after_all ds start) (remains p.client o k ds start (moved o seat.his) far.its) in
    let own = behold limits choice now call p.client o k p.line b far.own (far_if limits choice now call p.client o k p.line b far.its) seat.present in
    let former = former_stays limits choice now call p.client o k p.line b far.old far.its seat.former in
    let t = own.ups.0 in
    let u = is_one_of p.line.old_number out.closed in
    let w = seen accepted p b in
    let q = publisher_told new out p in
    let mid : Hop = record w { up = filter_map shaken (unless_closed t p.line.up) } in
    let linked = own.linked in
    let downs = own.downs in
    let ups = own.ups.2 in
    let stands = r.stands in
    let ids = r.ids in
    let same : seen accepted q new ≡ record mid { old = filter_map shaken (unless_closed u p.line.old) } =
    λ i. hop_of accepted p (linked i) (ups i) (downs i) (filter_map shaken (unless_closed u p.line.old)) (stands i) (ids i) in
    let first = closes_own t p.line.up w refl own.ups.1 in
    let second = closes_old u p.line.old (run (own_events t) w) (old_after t w) in (
      record { his = r.his; present = own.present; former = former },
      (
        own_events t ++ old_events u,
        same ∙ (ap (λ (x : Hop). record x { old = filter_map shaken (unless_closed u p.line.old) }) first ∙ (second ∙ sym (run_append (own_events t) (old_events u) w))),
      ),
    )
  where
    moved : (x : Option ℕ) → IsHis p.client x k b → IsHis p.client x k (at_moment now b)
    moved None h = h
    moved (Some birth) h = (record { sessions = h.0.sessions; lines = h.0.lines; births = h.0.births; given = h.0.given }, h.1)
