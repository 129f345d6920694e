-- A call greets clients on lines that were given before it, and numbers of lines go up.
use Rattle.std.proofs.Common.{◌≡◌, ℕ, suc, ◌≤◌, Bool, true, false, cond, not, ◌⊎◌, List, [], ◌∷◌, ◌++◌, filter, map, Option, Some, None, nat_eq, refl, sym, ap, subst, ◌∙◌, arith, inl, inr}
use Rattle.std.specs.Prelude.{⊤, find, flat_map}
use Rattle.std.specs.List.{AllByRecursion}
use Rattle.std.proofs.lemmas.Bool.{cases_Bool, eqb-true}
use Rattle.mqtt_base.specs.declared.session.Ending.TheVariants.{SessionEnded}
use Rattle.mqtt_packet.specs.declared.connect.connect.Connect.{Connect as Greeting}
use Rattle.mqtt_topic.specs.names.Names.{is_empty}
use Rattle.mqtt_flow.specs.declared.outbound.entry.Turn.{Turn}
use Rattle.mqtt_flow.specs.declared.outbound.entry.Turn.TheVariants as turns
use Rattle.mqtt_flow.specs.outbound.Outbound.{way_made}
use Rattle.mqtt_flow.specs.inbound.Identifiers.{ids_without}
use Rattle.mqtt_records.specs.declared.messages.message.MessageCopy.{MessageCopy}
use Rattle.mqtt_records.specs.declared.messages.message.RetainedMessage.{RetainedMessage}
use Rattle.mqtt_records.specs.messages.Queue.{CopyRow}
use Rattle.mqtt_records.specs.declared.state.change.Change.{Change}
use Rattle.mqtt_records.specs.declared.state.session.Session.{Session}
use Rattle.mqtt_records.specs.declared.state.records.Records.{Records}
use Rattle.mqtt_records.specs.lists.Order.{row_at}
use Rattle.mqtt_records.specs.state.Session.{copy_place}
use Rattle.mqtt_rules.specs.declared.step.Capacity.{Capacity}
use Rattle.mqtt_rules.specs.step.Packets.{publish_of}
use Rattle.mqtt_rules.specs.step.State.{Line, Broker, Env, MemberChoice, is_of, line_of, queue_on, session_at}
use Rattle.mqtt_rules.specs.step.Deeds.{whose, Message, Origin, FromClient, Part, Resume, Close, Open, Enter, Leave, LinePart, Hear, Greet, SetAlias, Went, Deed, Accept, Count, At, Finish, Forget, RefuseWill, Link, On, Send, Gone, after, after_all, always, fresh_line, given_after, line_after, lines_after, lines_at, on_line, rows_of_all, series, without_place}
use Rattle.mqtt_rules.specs.step.Deeds as deeds
use Rattle.mqtt_rules.specs.step.Outbound.{leave_deeds, turn_deeds, since, queue_limits, enter_deeds}
use Rattle.mqtt_rules.specs.step.Routing.{CopyTo, next_publication, is_queued, deliver_by, deliver, retained_of, forgets, retain_by, publish}
use Rattle.mqtt_rules.specs.step.Closing.{end_session}
use Rattle.mqtt_rules.specs.step.Connect.{expiry_of, will_of, greet, begin_named}
use Rattle.mqtt_rules.specs.step.Fitting.{has_form, pump_turns}
use Rattle.mqtt_rules.specs.step.Inbound.{pump_deeds}
use Rattle.mqtt_rules.specs.step.Subscribe as sub
use Rattle.mqtt_rules.specs.step.Tick.{is_silent, lapses, lapse_deeds}
use Rattle.mqtt_rules.specs.step.Step.{Call, NewLine, Input, BadInput, Lost, Pump, Tick, deeds_of, done, env_of, opened, opening, unopened, with_moment}
use Rattle.mqtt_rules.proofs.step_lemmas.acts.Offers.{of_offer_if}
use Rattle.mqtt_rules.proofs.step_lemmas.acts.Goods.{AreGood, good_append, good_flat, good_of_entry, good_with_session}
use Rattle.mqtt_rules.proofs.step_lemmas.acts.Leads.{Leads, leads_good}
use Rattle.mqtt_rules.proofs.step_lemmas.acts.Acts.{About, IsCallOf, closing_session, closing_on, closing, brought_to, Law, leads_call, leads_opening}
use Rattle.mqtt_world_model.proofs.model_lemmas.others.Lists.{all_find}

-- ---- with the number of the line that was given last before the call

module _ (g : ℕ) where
  -- a deed that gives a number which is no lower, or greets a client on a line that was given
  abbrev pub IsGiven : Deed → Broker → Type 0
  IsGiven (Link n) b = b.given ≤ n
  IsGiven (On n (Greet birth keep_alive window largest most)) b = n ≤ g
  IsGiven d b = ⊤

  -- a line was given before the call, or nobody is connected on it, up to that number
  abbrev IsPlaced : ℕ → Line → Type 0
  IsPlaced top l = (l.number ≤ g) ⊎ ((l.session ≡ None) × (l.number ≤ top))

  abbrev ArePlaced : ℕ → List Line → Type 0
  ArePlaced top ls = AllByRecursion (IsPlaced top) ls

  -- so it is with all lines
  pub record Keep (b : Broker) : Type 0 where
    pub given : g ≤ b.given
    pub lines : ArePlaced b.given b.lines

  -- ---- what is kept

  placed_on : (top now n : ℕ) (part : LinePart) (l : Line) (b : Broker) → l.number ≡ n → IsGiven (On n part) b → IsPlaced top l → IsPlaced top (line_after now part l)
  placed_on top now n Hear l b is q h = h
  placed_on top now n (Greet birth keep_alive window largest most) l b is q h = inl (subst (λ (k : ℕ). k ≤ g) (sym is) q)
  placed_on top now n (SetAlias alias topic) l b is q h = h
  placed_on top now n (Went place) l b is q h = h

  lines_on : (top now n : ℕ) (part : LinePart) (ls : List Line) (b : Broker) → IsGiven (On n part) b → ArePlaced top ls → ArePlaced top (on_line now n part ls)
  lines_on top now n part [] b q h = tt
  lines_on top now n part (l ∷ ls) b q h = elim (cases_Bool (nat_eq l.number n)) [
    | inl this ↦ rw this (placed_on top now n part l b (eqb-true l.number n this) q h.0, h.1)
    | inr other ↦ rw other (h.0, lines_on top now n part ls b q h.1)
  ]

  up_to : (top n : ℕ) (l : Line) → top ≤ n → IsPlaced top l → IsPlaced n l
  up_to top n l le (inl low) = inl low
  up_to top n l le (inr new) = let low = new.1 in inr (new.0, omega (arith, le, low))

  lines_link : (top n now : ℕ) (ls : List Line) → top ≤ n → ArePlaced top ls → ArePlaced n (ls ++ fresh_line n now ∷ [])
  lines_link top n now [] le h = (inr (refl, omega arith), tt)
  lines_link top n now (l ∷ ls) le h = (up_to top n l le h.0, lines_link top n now ls le h.1)

  lines_gone : (top n : ℕ) (ls : List Line) → ArePlaced top ls → ArePlaced top (filter (λ (l : Line). not (nat_eq l.number n)) ls)
  lines_gone top n [] h = tt
  lines_gone top n (l ∷ ls) h = elim (cases_Bool (nat_eq l.number n)) [
    | inl goes ↦ rw goes (lines_gone top n ls h.1)
    | inr stays ↦ rw stays (h.0, lines_gone top n ls h.1)
  ]

  lines_place : (top birth place : ℕ) (ls : List Line) → ArePlaced top ls → ArePlaced top (map (without_place birth place) ls)
  lines_place top birth place [] h = tt
  lines_place top birth place (l ∷ ls) h = (by (is_of l.session birth) h.0, lines_place top birth place ls h.1)
    where
      by : (t : Bool) → IsPlaced top l → IsPlaced top (cond t (record l { went = ids_without place l.went }) l)
      by true p = p
      by false p = p

  lines_part : (top birth : ℕ) (part : Part) (ls : List Line) → ArePlaced top ls → ArePlaced top (lines_at birth part ls)
  lines_part top birth (Leave e ending) ls h = lines_place top birth e.place ls h
  lines_part top birth part ls h = h

  lines_kept : (d : Deed) (b : Broker) → IsGiven d b → ArePlaced b.given b.lines → ArePlaced (given_after d b.given) (lines_after b.now d b.lines)
  lines_kept (Link n) b q h = lines_link b.given n b.now b.lines q h
  lines_kept (On n part) b q h = lines_on b.given b.now n part b.lines b q h
  lines_kept (Gone n) b q h = lines_gone b.given n b.lines h
  lines_kept (At who part) b q h = lines_part b.given who.birth part b.lines h
  lines_kept d b q h = h

  given_kept : (d : Deed) (b : Broker) → IsGiven d b → g ≤ b.given → g ≤ given_after d b.given
  given_kept (Link n) b q h = omega (arith, q, h)
  given_kept d b q h = h

  deed_keeps : (d : Deed) (b : Broker) → Keep b → IsGiven d b → Keep (after d b)
  deed_keeps d b k q = record { given = given_kept d b q k.given; lines = lines_kept d b q k.lines }

  led : (ds : List Deed) (b : Broker) → Keep b → AreGood IsGiven ds b → Leads Keep IsGiven ds b
  led ds b k q = leads_good Keep IsGiven deed_keeps ds b k q

  -- ---- acts

  abbrev Given : List Deed → Broker → Type 0
  Given = AreGood IsGiven

  given_leave : (s : Session) (t : Turn) (b : Broker) → Given (leave_deeds s t) b
  given_leave s (turns.Leave place ending) b = good_of_entry IsGiven (row_at copy_place place s.queue) (λ e. At (whose s) (Leave e ending) ∷ []) b (λ e. (tt, tt))
  given_leave s t b = tt

  given_leaves : (s : Session) (ts : List Turn) (b : Broker) → Given (flat_map (leave_deeds s) ts) b
  given_leaves s ts b = good_flat IsGiven (leave_deeds s) (given_leave s) ts b

  given_turn : (now line : ℕ) (s : Session) (t : Turn) (b : Broker) → Given (turn_deeds now line s t) b
  given_turn now line s (turns.Send place id) b = good_of_entry IsGiven (row_at copy_place place s.queue) _ b (λ e. (tt, (tt, (tt, tt))))
  given_turn now line s (turns.Resend place id) b = good_of_entry IsGiven (row_at copy_place place s.queue) _ b (λ e. (tt, (tt, tt)))
  given_turn now line s (turns.Release place id order) b = (tt, (tt, tt))
  given_turn now line s (turns.Outgrow place id order) b = (tt, (tt, tt))
  given_turn now line s (turns.Repeat id) b = (tt, tt)
  given_turn now line s (turns.Unknown id) b = (tt, tt)
  given_turn now line s (turns.Leave place ending) b = given_leave s (turns.Leave place ending) b

  given_enter : (env : Env) (copy : MessageCopy) (s : Session) (b : Broker) → Given (enter_deeds env copy s) b
  given_enter env copy s b =
      let ts = way_made (queue_limits env) (since env s) (queue_on [] s) in
      good_append IsGiven (flat_map (leave_deeds s) ts) (At (whose s) (Enter copy) ∷ []) b (given_leaves s ts b) (tt, tt)

  given_deliver : (t : Bool) (env : Env) (d : CopyTo) (b : Broker) → Given (deliver_by t env d b) b
  given_deliver true env d b =
      good_with_session IsGiven (session_at d.birth b.records) (λ s. always (enter_deeds env d.copy s)) b (λ s e. given_enter env d.copy s b)
  given_deliver false env d b =
      of_offer_if (λ (ds : List Deed). Given ds b) (has_form d.copy b) (line_of d.birth b) (publish_of b.now false 0 d.copy) tt (λ l there. (tt, tt))

  given_deliveries : (env : Env) (ds : List CopyTo) (b : Broker) → Given (series (map (deliver env) ds) b) b
  given_deliveries env [] b = tt
  given_deliveries env (d ∷ ds) b =
      let first = deliver env d b in
      let c = after_all first b in
      good_append IsGiven first (series (map (deliver env) ds) c) b (given_deliver (is_queued d) env d b) (given_deliveries env ds c)

  given_forgets : (o : Option RetainedMessage) (b : Broker) → Given (forgets o) b
  given_forgets None b = tt
  given_forgets (Some k) b = (tt, tt)

  given_retain : (retain empty : Bool) (number : ℕ) (m : Message) (b : Broker) → Given (retain_by retain empty number m b) b
  given_retain false empty number m b = tt
  given_retain true true number m b = given_forgets (retained_of m.topic b.records) b
  given_retain true false number m b = (tt, tt)

  given_publish : (env : Env) (origin : Origin) (m : Message) (ds : List CopyTo) (b : Broker) → Given (publish env origin m ds b) b
  given_publish env origin m ds b =
      let number = next_publication b.records in
      let c = after (Accept number origin m) b in
      let next = retain_by m.retain (is_empty m.payload) number m c in (
        tt,
        good_append IsGiven next (series (map (deliver env) ds) (after_all next c)) c (given_retain m.retain (is_empty m.payload) number m c) (given_deliveries env ds (after_all next c)),
      )

  given_grants : (env : Env) (w : sub.Wish) (s : Session) (b : Broker) → Given (sub.granted_filter env (sub.next_number b.records) s w (brought_to w s b) b).deeds b
  given_grants env w s b =
      let first : List Deed = Count (sub.next_number b.records) ∷ At (whose s) (deeds.Subscribe (sub.subscription (sub.next_number b.records) s w)) ∷ [] in
      (tt, (tt, given_deliveries env (filter is_queued (brought_to w s b)) (after_all first b)))

  given_closed : (keeps_will : Bool) (now : ℕ) (o : Option Session) (b : Broker) → Given (closing_session keeps_will now o) b
  given_closed keeps_will now None b = tt
  given_closed true now (Some s) b = (tt, tt)
  given_closed false now (Some s) b = (tt, (tt, tt))

  given_closing : (keeps_will : Bool) (now : ℕ) (session : Option ℕ) (r : Records) (b : Broker) → Given (closing_on keeps_will now session r) b
  given_closing keeps_will now None r b = tt
  given_closing keeps_will now (Some birth) r b = given_closed keeps_will now (session_at birth r) b

  given_end : (s : Session) (q : List CopyRow) (b : Broker) → Given (map (λ e. At (whose s) (Leave e SessionEnded)) q ++ Finish (whose s) ∷ []) b
  given_end s [] b = (tt, tt)
  given_end s (e ∷ q) b = (tt, given_end s q (after (At (whose s) (Leave e SessionEnded)) b))

  given_begin : (t : Bool) (l : Line) (c : Greeting) (r : Records) (b : Broker) → l.number ≤ g → Given (begin_named t l c r) b
  given_begin false l c r b le = (tt, (le, (tt, tt)))
  given_begin true l c r b le = (tt, (tt, (le, (tt, tt))))

  -- ---- the law of the induction over acts: of lines that were given

  abbrev those : About
  those = record {
    line = λ l. l.number ≤ g;
    number = λ n. n ≤ g;
    session = λ birth. ⊤;
    client = λ client b. ⊤;
    packet = λ packet. ⊤;
    message = λ m. ⊤;
  }

  connected_line : (birth : ℕ) (l : Line) (b : Broker) → Keep b → line_of birth b ≡ Some l → l.number ≤ g
  connected_line birth l b k e =
      let f = all_find (IsPlaced b.given) (λ (x : Line). is_of x.session birth) l b.lines k.lines e in
      by f.0 f.1
    where
      by : IsPlaced b.given l → is_of l.session birth ≡ true → l.number ≤ g
      by (inl low) its = low
      by (inr new) its = let clash : false ≡ true = sym (ap (λ (o : Option ℕ). is_of o birth) new.0) ∙ its in absurd cc

  given_law : (env : Env) → Law env those Keep IsGiven
  given_law env = record {
    finds = record {
      its_number = λ l its. its;
      its_session = λ l birth its e. tt;
      its_line = λ birth l b k its e. connected_line birth l b k e;
      named = λ client s b k its e. tt;
      admitted = λ c b k came e. tt;
      sent = λ l s p topic b k its came e. tt;
      willed = λ s w b k among e. tt;
    };
    client_stays = λ client ds b k done its. tt;
    publishes = λ origin m ds b k said e. led (publish env origin m ds b) b k (given_publish env origin m ds b);
    open_id = λ s id m ds b k h its there new is. led (At (whose s) (Open id) ∷ []) (after_all (publish env FromClient m ds b) b) h (tt, tt);
    refuse_will = λ who b k its. led (RefuseWill who ∷ []) b k (tt, tt);
    alone = λ who part b k its is. led (At who part ∷ []) b k (tt, tt);
    closes = λ keeps_will l b k its on. led (closing keeps_will l b) b k (tt, given_closing keeps_will b.now l.session b.records (after (Gone l.number) b));
    ends = λ s b k its among may. led (end_session s) b k (given_end s s.queue b);
    resumes = λ l c s b k its none came taken own is prepared. led (At (whose s) (Resume (expiry_of c) (will_of c)) ∷ greet l c s.birth ∷ []) b k (tt, (its, tt));
    begins = λ l c b k its none came taken name is room prepared. led (begin_named (is_empty c.client_identifier) l c b.records) b k (given_begin (is_empty c.client_identifier) l c b.records b its);
    grants = λ w s b k its asked granted. led (sub.granted_filter env (sub.next_number b.records) s w (brought_to w s b) b).deeds b k (given_grants env w s b);
    pumps = λ l s b k its is there. led (pump_deeds l b s) b k (good_flat IsGiven (turn_deeds b.now l.number s) (given_turn b.now l.number s) (pump_turns l b s) b);
    turns = λ a t l s b k its own there is e. led (turn_deeds b.now l.number s t) b k (given_turn b.now l.number s t b);
    lapses = λ s b k among. led (lapse_deeds b.now s) b k (given_leaves s (lapses b.now s) b);
    stale = λ x b k among. led (Forget x.place ∷ []) b k (tt, tt);
    links = λ b k can. led (Link (suc b.given) ∷ []) b k (omega arith, tt);
    hears = λ n b k its. led (On n Hear ∷ []) b k (tt, tt);
    sets = λ n alias topic b k its said. led (On n (SetAlias alias topic) ∷ []) b k (tt, tt);
    sends = λ n packet b k its. led (Send n packet ∷ []) b k (tt, tt);
  }

-- ---- calls and openings

-- no line that stands has a number above the last one given
abbrev pub IsNumbered : Broker → Type 0
IsNumbered b = AllByRecursion (λ (l : Line). l.number ≤ b.given) b.lines

numbered : (g top : ℕ) (ls : List Line) → g ≤ top → ArePlaced g top ls → AllByRecursion (λ (l : Line). l.number ≤ top) ls
numbered g top [] le h = tt
numbered g top (l ∷ ls) le h = (by h.0, numbered g top ls le h.1)
  where
    by : IsPlaced g top l → l.number ≤ top
    by (inl low) = omega (arith, low, le)
    by (inr new) = new.1

placed : (top : ℕ) (ls : List Line) → AllByRecursion (λ (l : Line). l.number ≤ top) ls → ArePlaced top top ls
placed top [] h = tt
placed top (l ∷ ls) h = (inl h.0, placed top ls h.1)

moment_numbered : (rows : List Change) (b : Broker) → IsNumbered b → IsNumbered (with_moment rows b)
moment_numbered [] b h = h
moment_numbered (row ∷ rows) b h = h

module _ (env : Env) where
  found_given : (test : Line → Bool) (l : Line) (b : Broker) → IsNumbered b → find test b.lines ≡ Some l → l.number ≤ b.given
  found_given test l b h e = (all_find (λ (x : Line). x.number ≤ b.given) test l b.lines h e).0

  call_of_given : (call : Call) (b : Broker) → IsNumbered b → IsCallOf (those b.given) call b
  call_of_given NewLine b h = tt
  call_of_given (Input n packet) b h = ((λ l e. found_given (λ (x : Line). nat_eq x.number n) l b h e), tt)
  call_of_given (BadInput n is_connect code) b h = λ l e. found_given (λ (x : Line). nat_eq x.number n) l b h e
  call_of_given (Lost n) b h = λ l e. found_given (λ (x : Line). nat_eq x.number n) l b h e
  call_of_given (Pump n) b h = λ l e. found_given (λ (x : Line). nat_eq x.number n) l b h e
  call_of_given Tick b h = record { silent = λ l e. found_given (λ (x : Line). is_silent b.now x.session x) l b h e; wills = λ s e. tt; ends = λ s e. tt }

  kept_first : (b : Broker) → IsNumbered b → Keep b.given b
  kept_first b h = record { given = omega arith; lines = placed b.given b.lines h }

  leads_given : (call : Call) (b : Broker) → IsNumbered b → Leads (Keep b.given) (IsGiven b.given) (deeds_of env call b) b
  leads_given call b h = leads_call env (those b.given) (Keep b.given) (IsGiven b.given) (given_law b.given env) call b (kept_first b h) (call_of_given call b h)

  -- the deeds of a call are such
  pub call_given : (call : Call) (b : Broker) → IsNumbered b → AreGood (IsGiven b.given) (deeds_of env call b) b
  call_given call b h = (leads_given call b h).0

  -- and keep the lines numbered
  pub call_numbered : (call : Call) (b : Broker) → IsNumbered b → IsNumbered (done (deeds_of env call b) b)
  call_numbered call b h =
      let c = after_all (deeds_of env call b) b in
      let k = (leads_given call b h).1 in
      moment_numbered (rows_of_all (deeds_of env call b) b.records) c (numbered b.given c.given c.lines k.given k.lines)

-- so they are after an opening
pub opening_numbered : (limits : Capacity) (choice : MemberChoice) (now : ℕ) (r : Records) → IsNumbered (opened limits choice now r)
opening_numbered limits choice now r =
    let b = unopened now r in
    let env = env_of limits choice b in
    let ds = opening env b in
    let c = after_all ds b in
    let k = (leads_opening env (those 0) (Keep 0) (IsGiven 0) (given_law 0 env) (λ s x h closed. led 0 (At (whose s) (Close x.now) ∷ []) x h (tt, tt)) (λ birth. tt) b (record { given = omega arith; lines = tt })).1 in
    moment_numbered (rows_of_all ds b.records) c (numbered 0 c.given c.lines k.given k.lines)
