-- Every step on another line, for another client, is made of far deeds: by the one induction over acts, without the own session.
use Rattle.std.proofs.Common.{◌≡◌, ℕ, ◌≤◌, ◌<◌, Bool, true, false, ◌&&◌, List, [], ◌∷◌, ◌++◌, filter, map, Option, Some, None, nat_eq, bytes_eq, refl, sym, ap, subst, ◌∙◌, inl, inr, arith}
use Rattle.std.specs.List.{starts_with}
use Rattle.std.proofs.lemmas.Bool.{eqb-true, cases_Bool}
use Rattle.std.proofs.lemmas.Slice.Eq.{bytes_eq-Decides}
use Rattle.std.specs.Prelude.{⊤, suc, nat_lt, nat_le, decimal, ◌*◌, flat_map}
use Rattle.mqtt_base.specs.declared.session.Ending.TheVariants.{SessionEnded}
use Rattle.mqtt_packet.specs.declared.connect.connect.Connect.{Connect as Greeting}
use Rattle.mqtt_topic.specs.names.Names.{is_empty}
use Rattle.mqtt_flow.specs.declared.outbound.entry.Turn.{Turn}
use Rattle.mqtt_flow.specs.declared.outbound.entry.Turn.TheVariants as turns
use Rattle.mqtt_records.specs.declared.messages.message.Will.{Will}
use Rattle.mqtt_records.specs.messages.Queue.{CopyRow}
use Rattle.mqtt_records.specs.declared.state.session.Session.{Session}
use Rattle.mqtt_records.specs.declared.state.records.Records.{Records}
use Rattle.mqtt_records.specs.lists.Order.{row_at}
use Rattle.mqtt_records.specs.state.Session.{birth_of, copy_place, auto}
use Rattle.mqtt_rules.specs.step.State.{Line, Broker, Env, session_at, session_named, line_at, line_of, is_of, later}
use Rattle.mqtt_rules.specs.step.Deeds.{whose, Message, Origin, Resume, Open, Leave, Hear, SetAlias, Deed, Count, At, Finish, Forget, RefuseWill, Link, On, Send, Gone, after_all, series, always, with_session, with_line}
use Rattle.mqtt_rules.specs.step.Deeds as deeds
use Rattle.mqtt_rules.specs.step.Outbound.{of_entry, leave_deeds, turn_deeds}
use Rattle.mqtt_rules.specs.step.Routing.{CopyTo, is_queued, deliver, publish}
use Rattle.mqtt_rules.specs.step.Closing.{is_due, will_due, end_due, has_due_will, has_due_end, end_session}
use Rattle.mqtt_rules.specs.step.Connect.{expiry_of, will_of, greet, begin, begin_named}
use Rattle.mqtt_rules.specs.step.Fitting.{pump_turns}
use Rattle.mqtt_rules.specs.step.Inbound.{pump_deeds}
use Rattle.mqtt_rules.specs.step.Subscribe as sub
use Rattle.mqtt_rules.specs.step.Tick.{is_silent, lapses, lapse_deeds}
use Rattle.mqtt_rules.specs.step.Step.{Call, NewLine, Input, BadInput, Lost, Pump, Tick, on_pump, deeds_of}
use Rattle.mqtt_rules.proofs.step_lemmas.flight.FlightRows.{found_key}
use Rattle.mqtt_rules.proofs.step_lemmas.acts.Goods.{AreGood}
use Rattle.mqtt_rules.proofs.step_lemmas.acts.Leads.{Leads}
use Rattle.mqtt_rules.proofs.step_lemmas.acts.Acts.{About as Whom, closing, closing_on, closing_session, brought_to, Law, IsDue, IsCallOf, leads_call}
use Rattle.mqtt_world_model.specs.model.Hops.{IsOurs, IsOurLine, Own, IsOthers, IsFarCall}
use Rattle.mqtt_world_model.proofs.model_lemmas.others.Quiet.{AreQuiet, quiet_leave, quiet_deliveries, copies_of, quiet_copies}
use Rattle.mqtt_world_model.proofs.model_lemmas.others.Far.{IsFar, AreFar, own_deeds, not_same, less_differs}
use Rattle.mqtt_world_model.proofs.model_lemmas.own.Publishes.{no_will_due, no_end_due}
use Rattle.mqtt_world_model.proofs.model_lemmas.others.Lists.{all_find}

module _ (client : List ℕ) (birth n : ℕ) where
  abbrev pub Far : List Deed → Type 0
  Far ds = AreFar client birth n ds

  -- quiet deeds are far
  pub far_quiet : (ds : List Deed) → AreQuiet birth n ds → Far ds
  far_quiet [] q = tt
  far_quiet (d ∷ ds) q = (inl q.0, far_quiet ds q.1)

  -- far deeds, and others behind them, are far
  pub far_append : (xs ys : List Deed) → Far xs → Far ys → Far (xs ++ ys)
  far_append [] ys p q = q
  far_append (x ∷ xs) ys p q = (p.0, far_append xs ys p.1 q)

  far_map : {X : Type 0} (f : X → Deed) → ((x : X) → IsFar client birth n (f x)) → (xs : List X) → Far (map f xs)
  far_map f h [] = tt
  far_map f h (x ∷ xs) = (h x, far_map f h xs)

  far_flat : {X : Type 0} (f : X → List Deed) → ((x : X) → Far (f x)) → (xs : List X) → Far (flat_map f xs)
  far_flat f h [] = tt
  far_flat f h (x ∷ xs) = far_append (f x) (flat_map f xs) (h x) (far_flat f h xs)

  -- ---- whose a session and a line are

  abbrev pub IsForeign : Session → Type 0
  IsForeign s = nat_eq s.birth birth ≡ false

  -- a line is another, and has another session
  pub record IsOther (l : Line) : Type 0 where
    pub number : nat_eq l.number n ≡ false
    pub session : (k : ℕ) → l.session ≡ Some k → nat_eq k birth ≡ false

  differs : (k : ℕ) → (k ≡ birth → ⊥) → nat_eq k birth ≡ false
  differs k h = elim (cases_Bool (nat_eq k birth)) [ inl same ↦ absurd (h (eqb-true k birth same)) | inr other ↦ other ]

  other_line : (l : Line) → IsOurLine birth n l → nat_eq l.number n ≡ false → IsOther l
  other_line l p q = record {
    number = q;
    session = λ k on. differs k (λ same. not_same l.number n q (p.alone (on ∙ ap Some same)));
  }

  -- the line that a session of another birth is connected on
  line_of_other : (k : ℕ) (l : Line) (b : Broker) → Own client birth n b → nat_eq k birth ≡ false → line_of k b ≡ Some l → IsOther l
  line_of_other k l b o q e =
      let both = all_find (IsOurLine birth n) (λ (x : Line). is_of x.session k) l b.lines o.lines e in
      other_line l both.0 (elim (cases_Bool (nat_eq l.number n)) [
        | inl same ↦
            let ours : l.session ≡ Some birth = both.0.ours (eqb-true l.number n same) in
            let test : is_of (Some birth) k ≡ true = subst (λ (x : Option ℕ). is_of x k ≡ true) ours both.1 in
            absurd (not_same k birth q (sym (eqb-true birth k test)))
        | inr other ↦ other
      ])

  -- the line of another number
  line_at_other : (m : ℕ) (l : Line) (b : Broker) → Own client birth n b → nat_eq m n ≡ false → line_at m b ≡ Some l → IsOther l
  line_at_other m l b o q e =
      let both = all_find (IsOurLine birth n) (λ (x : Line). nat_eq x.number m) l b.lines o.lines e in
      other_line l both.0 (ap (λ (k : ℕ). nat_eq k n) (eqb-true l.number m both.1) ∙ q)

  -- a session of another client identifier
  named_other : (its : List ℕ) (s : Session) (b : Broker) → Own client birth n b → (its ≡ client → ⊥) → session_named its b.records ≡ Some s → IsForeign s
  named_other its s b o q e =
      let both = all_find (IsOurs client birth) (λ (x : Session). bytes_eq x.client its) s b.records.sessions o.sessions e in
      let is : s.client ≡ its = (bytes_eq-Decides s.client its).0 both.1 in
      differs s.birth (λ same. q (sym is ∙ both.0.name same))

  -- a client identifier that the broker assigns is no end's
  assigned_other : (number : ℕ) → starts_with nat_eq client auto ≡ false → auto ++ decimal number ≡ client → ⊥
  assigned_other number h e =
      let yes : starts_with nat_eq (auto ++ decimal number) auto ≡ true = refl in
      let no : starts_with nat_eq (auto ++ decimal number) auto ≡ false = ap (λ (xs : List ℕ). starts_with nat_eq xs auto) e ∙ h in
      let never_is : true ≡ false = sym yes ∙ no in
      absurd cc

  -- our own line isn't silent, and our own session has nothing due
  loud : (now : ℕ) (l : Line) → IsOurLine birth n l → is_silent now l.session l ≡ true → IsOther l
  loud now l p h = other_line l p (elim (cases_Bool (nat_eq l.number n)) [
    | inl same ↦
        let here = eqb-true l.number n same in
        let test : is_silent now (Some birth) l ≡ true = ap (λ (on : Option ℕ). is_silent now on l) (sym (p.ours here)) ∙ h in
        let never_silent : (nat_lt 0 0 && nat_le (later l.heard (1500 * 0)) now) ≡ true = ap (λ (k : ℕ). nat_lt 0 k && nat_le (later l.heard (1500 * k)) now) (sym (p.quiet here)) ∙ test in
        absurd cc
    | inr other ↦ other
  ])

  no_will : (now : ℕ) (s : Session) → IsOurs client birth s → has_due_will now s ≡ true → IsForeign s
  no_will now s p h = differs s.birth (λ same.
      let none : has_due_will now s ≡ false = ap (λ (w : Option Will). is_due now (will_due s.closed s.expiry w)) (p.no_will same) ∙ no_will_due s.closed s.expiry now in
      let both : true ≡ false = sym h ∙ none in
      absurd cc)

  no_end : (now : ℕ) (s : Session) → IsOurs client birth s → has_due_end now s ≡ true → IsForeign s
  no_end now s p h = differs s.birth (λ same.
      let none : has_due_end now s ≡ false = ap (λ (k : ℕ). is_due now (end_due s.closed k)) (p.no_end same) ∙ no_end_due s.closed now in
      let both : true ≡ false = sym h ∙ none in
      absurd cc)

  -- ---- units of deeds

  far_of_entry : (o : Option CopyRow) (f : CopyRow → List Deed) → ((e : CopyRow) → Far (f e)) → Far (of_entry o f)
  far_of_entry None f h = tt
  far_of_entry (Some e) f h = h e

  far_turn : (now line : ℕ) (s : Session) (t : Turn) → Far (turn_deeds now line s t)
  far_turn now line s (turns.Send place id) = far_of_entry (row_at copy_place place s.queue) _ (λ e. (inl (inr tt), (inl tt, (inl (inr refl), tt))))
  far_turn now line s (turns.Resend place id) = far_of_entry (row_at copy_place place s.queue) _ (λ e. (inl tt, (inl (inr refl), tt)))
  far_turn now line s (turns.Release place id order) = (inl (inr tt), (inl (inr refl), tt))
  far_turn now line s (turns.Outgrow place id order) = (inl (inr tt), (inl (inr refl), tt))
  far_turn now line s (turns.Repeat id) = (inl (inr refl), tt)
  far_turn now line s (turns.Unknown id) = (inl (inr refl), tt)
  far_turn now line s (turns.Leave place ending) = far_quiet (leave_deeds s (turns.Leave place ending)) (quiet_leave birth n s (turns.Leave place ending))

  far_turns : (now line : ℕ) (s : Session) (ts : List Turn) → Far (flat_map (turn_deeds now line s) ts)
  far_turns now line s ts = far_flat (turn_deeds now line s) (far_turn now line s) ts

  far_publish : (env : Env) (origin : Origin) (m : Message) (ds : List CopyTo) (b : Broker) → Far (publish env origin m ds b)
  far_publish env origin m ds b = (inr tt, far_quiet (copies_of env origin m ds b) (quiet_copies birth n env origin m ds b))

  far_closed : (keeps_will : Bool) (now : ℕ) (o : Option Session) → ((s : Session) → o ≡ Some s → IsForeign s) → Far (closing_session keeps_will now o)
  far_closed keeps_will now None h = tt
  far_closed true now (Some s) h = (inl (inl (h s refl)), tt)
  far_closed false now (Some s) h = (inl (inl (h s refl)), (inl (inl (h s refl)), tt))

  far_closing : (keeps_will : Bool) (l : Line) (session : Option ℕ) (b : Broker) → IsOther l → l.session ≡ session → Far (Gone l.number ∷ closing_on keeps_will b.now session b.records)
  far_closing keeps_will l None b q e = (inl q.number, tt)
  far_closing keeps_will l (Some k) b q e = (
    inl q.number,
    far_closed keeps_will b.now (session_at k b.records)
        (λ s there. ap (λ (m : ℕ). nat_eq m birth) (found_key birth_of k s b.records.sessions there) ∙ q.session k e),
  )

  far_end : (s : Session) → IsForeign s → Far (end_session s)
  far_end s q =
      far_append (map (λ (e : CopyRow). At (whose s) (Leave e SessionEnded)) s.queue) (Finish (whose s) ∷ []) (far_map (λ (e : CopyRow). At (whose s) (Leave e SessionEnded)) (λ e. inl (inr tt)) s.queue) (inl q, tt)

  far_greet : (l : Line) (c : Greeting) (k : ℕ) → IsOther l → nat_eq k birth ≡ false → IsFar client birth n (greet l c k)
  far_greet l c k q f = inr (q.number, f)

  far_begin : (l : Line) (c : Greeting) (t : Bool) (name : List ℕ) (r : Records) → IsOther l → (name ≡ client → ⊥) → birth ≤ r.births → Far (begin l c t name (suc r.births))
  far_begin l c t name r q h le =
      let less : birth < suc r.births = omega (arith, le) in
      (inr (less, h), (far_greet l c (suc r.births) q (less_differs birth (suc r.births) less), (inl (inl q.number), tt)))

  far_begin_named : (t : Bool) (l : Line) (c : Greeting) (r : Records) → IsOther l → (c.client_identifier ≡ client → ⊥) → starts_with nat_eq client auto ≡ false → birth ≤ r.births
      → Far (begin_named t l c r)
  far_begin_named false l c r q h a le = far_begin l c false c.client_identifier r q h le
  far_begin_named true l c r q h a le = (inl tt, far_begin l c true (auto ++ decimal (suc r.autos)) r q (assigned_other (suc r.autos) a) le)

  far_grants : (env : Env) (w : sub.Wish) (s : Session) (b : Broker) → Far (sub.granted_filter env (sub.next_number b.records) s w (brought_to w s b) b).deeds
  far_grants env w s b =
      let number = sub.next_number b.records in
      let queued = filter is_queued (brought_to w s b) in
      let first : List Deed = Count number ∷ At (whose s) (deeds.Subscribe (sub.subscription number s w)) ∷ [] in
      far_append first (series (map (deliver env) queued) (after_all first b)) (inl tt, (inl (inr tt), tt))
      (far_quiet (series (map (deliver env) queued) (after_all first b)) (quiet_deliveries birth n env queued (after_all first b)))

  -- ---- the law of the induction

  -- all lines but the own, all sessions but the own, and no CONNECT of this client
  abbrev pub others : Whom
  others = record {
    line = IsOther;
    number = λ m. nat_eq m n ≡ false;
    session = λ k. nat_eq k birth ≡ false;
    client = λ its b. its ≡ client → ⊥;
    packet = λ packet. IsOthers client packet;
    message = λ m. ⊤;
  }

  abbrev pub IsFarDeed : Deed → Broker → Type 0
  IsFarDeed d b = IsFar client birth n d

  good_of : (ds : List Deed) (b : Broker) → Far ds → AreGood IsFarDeed ds b
  good_of [] b q = tt
  good_of (d ∷ ds) b q = (q.0, good_of ds (deeds.after d b) q.1)

  -- deeds of which each is far are far
  pub far_of : (ds : List Deed) (b : Broker) → AreGood IsFarDeed ds b → Far ds
  far_of [] b q = tt
  far_of (d ∷ ds) b q = (q.0, far_of ds (deeds.after d b) q.1)

  led : (ds : List Deed) (b : Broker) → Own client birth n b → Far ds → Leads (Own client birth n) IsFarDeed ds b
  led ds b o q = (good_of ds b q, own_deeds client birth n ds b q o)

  -- that each deed of others is far is a law of the one induction
  pub far_law : (env : Env) → starts_with nat_eq client auto ≡ false → Law env others (Own client birth n) IsFarDeed
  far_law env plain = record {
    finds = record {
      its_number = λ l its. its.number;
      its_session = λ l k its e. its.session k e;
      its_line = λ k l b o its e. line_of_other k l b o its e;
      named = λ its s b o q e. named_other its s b o q e;
      admitted = λ c b o came e. came;
      sent = λ l s p topic b o its came e. tt;
      willed = λ s w b o among e. tt;
    };
    client_stays = λ its ds b o leads q. q;
    publishes = λ origin m ds b o said e. led (publish env origin m ds b) b o (far_publish env origin m ds b);
    open_id = λ s id m ds b o h its there new is. led (At (whose s) (Open id) ∷ []) (after_all (publish env deeds.FromClient m ds b) b) h (inl (inl its), tt);
    refuse_will = λ who b o its. led (RefuseWill who ∷ []) b o (inl tt, tt);
    alone = λ who part b o its is. led (At who part ∷ []) b o (inl (inl its), tt);
    closes = λ keeps_will l b o its on. led (closing keeps_will l b) b o (far_closing keeps_will l l.session b its refl);
    ends = λ s b o its among may. led (end_session s) b o (far_end s its);
    resumes = λ l c s b o its none came taken own is prepared. led (At (whose s) (Resume (expiry_of c) (will_of c)) ∷ greet l c s.birth ∷ []) b o (inl (inl own), (far_greet l c s.birth its own, tt));
    begins = λ l c b o its none came taken name is room prepared. led (begin_named (is_empty c.client_identifier) l c b.records) b o (far_begin_named (is_empty c.client_identifier) l c b.records its came plain o.births);
    grants = λ w s b o its asked granted. led (sub.granted_filter env (sub.next_number b.records) s w (brought_to w s b) b).deeds b o (far_grants env w s b);
    pumps = λ l s b o its is there. led (pump_deeds l b s) b o (far_turns b.now l.number s (pump_turns l b s));
    turns = λ a t l s b o its own there is e. led (turn_deeds b.now l.number s t) b o (far_turn b.now l.number s t);
    lapses = λ s b o among. led (lapse_deeds b.now s) b o (far_flat (leave_deeds s) (λ t. far_quiet (leave_deeds s t) (quiet_leave birth n s t)) (lapses b.now s));
    stale = λ k b o among. led (Forget k.place ∷ []) b o (inl tt, tt);
    links = λ b o can. led (Link (suc b.given) ∷ []) b o (let le = o.given in inr (omega (arith, le)), tt);
    hears = λ m b o its. led (On m Hear ∷ []) b o (inl tt, tt);
    sets = λ m alias topic b o its said. led (On m (SetAlias alias topic) ∷ []) b o (inl tt, tt);
    sends = λ m packet b o its. led (Send m packet ∷ []) b o (inl (inl its), tt);
  }

  -- ---- each call but those on this line, and CONNECT of this client; a pump of any line

  due_others : (b : Broker) → Own client birth n b → IsDue others b
  due_others b o = record {
    silent = λ l e. let both = all_find (IsOurLine birth n) (λ (x : Line). is_silent b.now x.session x) l b.lines o.lines e in loud b.now l both.0 both.1;
    wills = λ s e. let both = all_find (IsOurs client birth) (has_due_will b.now) s b.records.sessions o.sessions e in no_will b.now s both.0 both.1;
    ends = λ s e. let both = all_find (IsOurs client birth) (has_due_end b.now) s b.records.sessions o.sessions e in no_end b.now s both.0 both.1;
  }

  by_law : (env : Env) (call : Call) (b : Broker) → Own client birth n b → starts_with nat_eq client auto ≡ false → IsCallOf others call b → Far (deeds_of env call b)
  by_law env call b o plain its = far_of (deeds_of env call b) b (leads_call env others (Own client birth n) IsFarDeed (far_law env plain) call b o its).0

  far_pump : (l : Line) (on : Option ℕ) (b : Broker) → Far (on_pump l on b)
  far_pump l None b = tt
  far_pump l (Some k) b = found (session_at k b.records)
    where
      found : (x : Option Session) → Far (with_session x (λ s. always (pump_deeds l b s)) b)
      found None = tt
      found (Some s) = far_turns b.now l.number s (pump_turns l b s)

  -- a call on another line, for another client, does far deeds
  pub far_call : (env : Env) (call : Call) (b : Broker) → Own client birth n b → starts_with nat_eq client auto ≡ false → IsFarCall client n call → Far (deeds_of env call b)
  far_call env NewLine b o plain q = by_law env NewLine b o plain tt
  far_call env (Input m packet) b o plain q = by_law env (Input m packet) b o plain (λ l e. line_at_other m l b o q.0 e, q.1)
  far_call env (BadInput m is_connect code) b o plain q = by_law env (BadInput m is_connect code) b o plain (λ l e. line_at_other m l b o q e)
  far_call env (Lost m) b o plain q = by_law env (Lost m) b o plain (λ l e. line_at_other m l b o q e)
  far_call env (Pump m) b o plain q = found (line_at m b)
    where
      found : (x : Option Line) → Far (with_line x (λ l. on_pump l l.session) b)
      found None = tt
      found (Some l) = far_pump l l.session b
  far_call env Tick b o plain q = by_law env Tick b o plain (due_others b o)
