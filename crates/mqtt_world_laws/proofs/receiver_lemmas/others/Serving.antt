-- Deeds of others, and copies that enter and leave queues: what is the receiver's own stays so.
use Rattle.std.proofs.Common.{◌≡◌, ℕ, ◌≤◌, ◌<◌, true, false, not, List, [], ◌∷◌, ◌++◌, filter, map, Option, Some, None, nat_eq, refl, sym, ap, ◌∙◌, arith, inl, inr}
use Rattle.std.specs.Prelude.{⊤}
use Rattle.std.specs.List.{AllByRecursion}
use Rattle.std.proofs.lemmas.Bool.{cases_Bool, eqb-true}
use Rattle.std.proofs.lemmas.Cmp.{nat_eq_equiv}
use Rattle.mqtt_world_model.specs.model.Hops.{IsOurs, Own}
use Rattle.mqtt_world_model.specs.model.Lines.{is_one_of}
use Rattle.mqtt_world_model.proofs.model_lemmas.others.Far.{at_births, far_ours}
use Rattle.mqtt_world_model.proofs.model_lemmas.seats.Mine.{IsKeepingPart, mine_owns}
use Rattle.mqtt_world_model.proofs.model_lemmas.others.Quiet.{IsQuietPart}
use Rattle.mqtt_records.specs.declared.messages.message.Will.{Will}
use Rattle.mqtt_records.specs.state.Records.{changed_all}
use Rattle.mqtt_records.specs.declared.state.records.Records.{Records}
use Rattle.mqtt_records.specs.declared.state.session.Columns.{Columns}
use Rattle.mqtt_rules.proofs.step_lemmas.numbers.Counters.{Counts, counts, counts_after, counts_deed}
use Rattle.mqtt_rules.specs.step.Deeds.{Whose, Accept, At, Begin, Deed, Finish, Gone, Greet, Hear, Leave, LinePart, Link, On, Part, SetAlias, Went, after, after_all, begin_rows, fresh_line, given_after, line_after, lines_after, lines_at, on_line, stored_after, without_place}
use Rattle.mqtt_rules.specs.step.State.{Line as BrokerLine, Broker, is_of, session_at}
use Rattle.mqtt_world_laws.specs.receiver.Others.{IsOfOthers, IsPartOfOthers}
use Rattle.mqtt_world_laws.specs.receiver.Served.{IsOwnLine, IsServed}

-- ---- deeds of others, with births and numbers that are given anew; none accepts a publication

abbrev pub IsBeyond : List ℕ → ℕ → List ℕ → Deed → Type 0
IsBeyond client birth ns (Accept number origin m) = ⊥
IsBeyond client birth ns (Begin row will) = birth < row.birth
IsBeyond client birth ns (Link m) = (n : ℕ) → is_one_of (Some n) ns ≡ true → n ≤ m
IsBeyond client birth ns d = ⊤

-- copies enter queues, leave them, and change there, whosever they are
abbrev pub IsOfQueue : Deed → Type 0
IsOfQueue (At who part) = IsQuietPart part
IsOfQueue d = ⊥

abbrev pub AreOfQueue : List Deed → Type 0
AreOfQueue ds = AllByRecursion IsOfQueue ds

module _ (client : List ℕ) (birth : ℕ) (ns : List ℕ) where
  abbrev pub IsTheirs : Deed → Type 0
  IsTheirs d = IsOfOthers client birth ns d × IsBeyond client birth ns d

  abbrev pub AreTheirs : List Deed → Type 0
  AreTheirs [] = ⊤
  AreTheirs (d ∷ ds) = IsTheirs d × AreTheirs ds

  -- ---- sessions and births

  abbrev Ours : Records → Type 0
  Ours r = AllByRecursion (IsOurs client birth) r.sessions

  theirs_ours : (d : Deed) (r : Records) → IsTheirs d → Ours r → Ours (stored_after d r)
  theirs_ours (Begin row will) r q h = far_ours client birth 0 (Begin row will) r (inr (q.1, q.0.1)) h
  theirs_ours (At who part) r q h = far_ours client birth 0 (At who part) r (inl (inl q.0)) h
  theirs_ours (Finish who) r q h = far_ours client birth 0 (Finish who) r (inl q.0) h
  theirs_ours d r q h = h

  later : (row : Columns) (will : Option Will) (r : Records) → birth < row.birth → birth ≤ (changed_all (begin_rows row will) r).births
  later row None r less = omega (arith, less)
  later row (Some will) r less = omega (arith, less)

  births_stay : (d : Deed) (r : Records) → IsTheirs d → birth ≤ r.births → birth ≤ (stored_after d r).births
  births_stay (Begin row will) r q h = later row will r q.1
  births_stay (At who part) r q h = let e = at_births part (session_at who.birth r) r in omega (arith, e, h)
  births_stay d r q h = h

  -- ---- lines

  abbrev OwnLines : List BrokerLine → Type 0
  OwnLines ls = AllByRecursion (IsOwnLine ns birth) ls

  not_its : (other : ℕ) → nat_eq other birth ≡ false → Some other ≡ Some birth → ⊥
  not_its other q e =
      let is : other ≡ birth = cc in
      let clash : true ≡ false = sym (nat_eq_equiv.refl birth) ∙ (ap (λ (k : ℕ). nat_eq k birth) (sym is) ∙ q) in
      absurd cc

  part_own : (now : ℕ) (part : LinePart) (l : BrokerLine) → is_one_of (Some l.number) ns ≡ false → IsPartOfOthers birth part → IsOwnLine ns birth l → IsOwnLine ns birth (line_after now part l)
  part_own now Hear l outside q h = h
  part_own now (Greet other keep_alive window largest most) l outside q h = record {
    alone = λ e. absurd (not_its other q e);
    theirs = λ inside. let clash : true ≡ false = sym inside ∙ outside in absurd cc;
  }
  part_own now (SetAlias alias topic) l outside q h = h
  part_own now (Went place) l outside q h = h

  on_own : (now m : ℕ) (part : LinePart) (ls : List BrokerLine) → is_one_of (Some m) ns ≡ false → IsPartOfOthers birth part → OwnLines ls → OwnLines (on_line now m part ls)
  on_own now m part [] outside q h = tt
  on_own now m part (l ∷ ls) outside q h = elim (cases_Bool (nat_eq l.number m)) [
    | inl here ↦ rw here (part_own now part l (ap (λ (k : ℕ). is_one_of (Some k) ns) (eqb-true l.number m here) ∙ outside) q h.0, h.1)
    | inr further ↦ rw further (h.0, on_own now m part ls outside q h.1)
  ]

  -- a line that goes leaves whose the lines are
  pub gone_own : (m : ℕ) (ls : List BrokerLine) → OwnLines ls → OwnLines (filter (λ (l : BrokerLine). not (nat_eq l.number m)) ls)
  gone_own m [] h = tt
  gone_own m (l ∷ ls) h = elim (cases_Bool (nat_eq l.number m)) [
    | inl goes ↦ rw goes (gone_own m ls h.1)
    | inr stays ↦ rw stays (h.0, gone_own m ls h.1)
  ]

  link_own : (m now : ℕ) (ls : List BrokerLine) → OwnLines ls → OwnLines (ls ++ fresh_line m now ∷ [])
  link_own m now [] h = (record { alone = λ e. absurd cc; theirs = λ inside other e. absurd cc }, tt)
  link_own m now (l ∷ ls) h = (h.0, link_own m now ls h.1)

  place_own : (k place : ℕ) (ls : List BrokerLine) → OwnLines ls → OwnLines (map (without_place k place) ls)
  place_own k place [] h = tt
  place_own k place (l ∷ ls) h = elim (cases_Bool (is_of l.session k)) [
    | inl its ↦ rw its (h.0, place_own k place ls h.1)
    | inr other ↦ rw other (h.0, place_own k place ls h.1)
  ]

  -- a part of a session leaves whose the lines are
  pub at_own : (k : ℕ) (part : Part) (ls : List BrokerLine) → OwnLines ls → OwnLines (lines_at k part ls)
  at_own k (Leave e ending) ls h = place_own k e.place ls h
  at_own k part ls h = h

  lines_own : (now : ℕ) (d : Deed) (ls : List BrokerLine) → IsTheirs d → OwnLines ls → OwnLines (lines_after now d ls)
  lines_own now (Link m) ls q h = link_own m now ls h
  lines_own now (On m part) ls q h = on_own now m part ls q.0.0 q.0.1 h
  lines_own now (Gone m) ls q h = gone_own m ls h
  lines_own now (At who part) ls q h = at_own who.birth part ls h
  lines_own now d ls q h = h

  -- ---- numbers

  abbrev AreGiven : ℕ → Type 0
  AreGiven given = (n : ℕ) → is_one_of (Some n) ns ≡ true → n ≤ given

  given_own : (d : Deed) (given : ℕ) → IsTheirs d → AreGiven given → AreGiven (given_after d given)
  given_own (Link m) given q h = q.1
  given_own d given q h = h

  -- ---- together

  -- a deed of others leaves the receiver's session and lines its own
  pub served_deed : (d : Deed) (b : Broker) → IsTheirs d → IsServed client birth ns b → IsServed client birth ns (after d b)
  served_deed d b q h = record {
    sessions = theirs_ours d b.records q h.sessions;
    lines = lines_own b.now d b.lines q h.lines;
    births = births_stay d b.records q h.births;
    given = given_own d b.given q h.given;
  }

  -- deeds of others leave the receiver's session and lines its own
  pub served_deeds : (ds : List Deed) (b : Broker) → AreTheirs ds → IsServed client birth ns b → IsServed client birth ns (after_all ds b)
  served_deeds [] b q h = h
  served_deeds (d ∷ ds) b q h = served_deeds ds (after d b) q.1 (served_deed d b q.0 h)

  -- what becomes of queues
  pub served_part : (who : Whose) (part : Part) (b : Broker) → IsQuietPart part → IsServed client birth ns b → IsServed client birth ns (after (At who part) b)
  served_part who part b q h = record {
    sessions = far_ours client birth 0 (At who part) b.records (inl (inr q)) h.sessions;
    lines = at_own who.birth part b.lines h.lines;
    births = let e = at_births part (session_at who.birth b.records) b.records in let less = h.births in omega (arith, e, less);
    given = h.given;
  }

  -- and of a session that is closed, and of identifiers
  pub kept_part : (who : Whose) (part : Part) (b : Broker) → IsKeepingPart part → IsServed client birth ns b → IsServed client birth ns (after (At who part) b)
  kept_part who part b q h =
      let ds : List Deed = At who part ∷ [] in
      let bare : Broker = record b { lines = [] } in
      let own : Own client birth 0 bare = record { sessions = h.sessions; lines = tt; births = h.births; given = omega arith } in
      let kept = mine_owns client birth 0 ds bare (inr q, tt) own in
      record { sessions = kept.sessions; lines = at_own who.birth part b.lines h.lines; births = kept.births; given = h.given }

  -- deeds of queues leave the receiver's session and lines its own
  pub served_parts : (ds : List Deed) (b : Broker) → AreOfQueue ds → IsServed client birth ns b → IsServed client birth ns (after_all ds b)
  served_parts [] b q h = h
  served_parts (At who part ∷ ds) b q h = served_parts ds (after (At who part) b) q.1 (served_part who part b q.0 h)
  served_parts (d ∷ ds) b q h = absurd q.0

  -- ---- no publication is accepted

  none_accepted : (d : Deed) (c : Counts) → IsTheirs d → (counts_after d c).publications ≡ c.publications
  none_accepted (Accept number origin m) c q = absurd q.1
  none_accepted d c q = refl

  -- deeds of others, publications left out, accept nothing
  pub publications_stay : (ds : List Deed) (b : Broker) → AreTheirs ds → (after_all ds b).records.publications ≡ b.records.publications
  publications_stay [] b q = refl
  publications_stay (d ∷ ds) b q =
      publications_stay ds (after d b) q.1 ∙ (ap (λ (c : Counts). c.publications) (counts_deed d b.records) ∙ none_accepted d (counts b.records) q.0)

-- deeds of a queue accept nothing
pub parts_stay : (ds : List Deed) (b : Broker) → AreOfQueue ds → (after_all ds b).records.publications ≡ b.records.publications
parts_stay [] b q = refl
parts_stay (At who part ∷ ds) b q = parts_stay ds (after (At who part) b) q.1 ∙ ap (λ (c : Counts). c.publications) (counts_deed (At who part) b.records)
parts_stay (d ∷ ds) b q = absurd q.0
