-- What a call of others is made of: deeds of others, on other lines than the receiver's and for other sessions; and copies
-- that enter queues, and expire.
use Rattle.std.proofs.Common.{◌≡◌, ℕ, suc, ◌≤◌, ◌<◌, Bool, true, false, List, [], ◌∷◌, ◌++◌, map, Option, Some, None, nat_eq, bytes_eq, refl, sym, ap, ◌∙◌, arith, inl, inr}
use Rattle.std.specs.List.{starts_with}
use Rattle.std.specs.Prelude.{⊤, decimal, find, flat_map}
use Rattle.std.proofs.lemmas.Bool.{cases_Bool, eqb-true}
use Rattle.std.proofs.lemmas.Slice.Eq.{bytes_eq-Decides}
use Rattle.mqtt_base.specs.declared.session.Ending.TheVariants.{SessionEnded}
use Rattle.mqtt_packet.specs.declared.connect.connect.Connect.{Connect as Greeting}
use Rattle.mqtt_flow.specs.declared.outbound.entry.Turn.{Turn}
use Rattle.mqtt_flow.specs.declared.outbound.entry.Turn.TheVariants as turns
use Rattle.mqtt_world_model.specs.model.Hops.{IsOthers, IsOurs}
use Rattle.mqtt_world_model.specs.model.Lines.{is_one_of}
use Rattle.mqtt_world_model.proofs.model_lemmas.others.Far.{less_differs, not_same}
use Rattle.mqtt_world_model.proofs.model_lemmas.others.Lists.{all_find}
use Rattle.mqtt_world_model.proofs.model_lemmas.own.Publishes.{no_end_due, no_will_due}
use Rattle.mqtt_records.specs.messages.Queue.{CopyRow}
use Rattle.mqtt_records.specs.declared.messages.message.Will.{Will}
use Rattle.mqtt_records.specs.state.Session.{auto, birth_of, copy_place}
use Rattle.mqtt_records.specs.declared.state.records.Records.{Records}
use Rattle.mqtt_records.specs.declared.state.session.Session.{Session}
use Rattle.mqtt_records.specs.lists.Order.{row_at}
use Rattle.mqtt_rules.proofs.step_lemmas.acts.Acts.{About as Whom, closing_on, closing_session}
use Rattle.mqtt_rules.proofs.step_lemmas.flight.FlightRows.{found_key}
use Rattle.mqtt_rules.specs.step.Closing.{end_due, end_session, has_due_end, has_due_will, is_due, will_due}
use Rattle.mqtt_rules.specs.step.Connect.{begin, begin_named, greet}
use Rattle.mqtt_rules.specs.step.Deeds.{At, Deed, Finish, Gone, Leave, whose}
use Rattle.mqtt_rules.specs.step.Outbound.{leave_deeds, of_entry, turn_deeds}
use Rattle.mqtt_rules.specs.step.State.{Line as BrokerLine, Broker, is_of, line_at, line_of, session_at, session_named}
use Rattle.mqtt_world_laws.specs.receiver.Served.{IsOwnLine, IsServed}
use Rattle.mqtt_world_laws.proofs.receiver_lemmas.others.Serving.{AreTheirs, IsTheirs}

module _ (client : List ℕ) (birth : ℕ) (ns : List ℕ) where
  abbrev pub Theirs : List Deed → Type 0
  Theirs ds = AreTheirs client birth ns ds

  -- deeds of others, and more behind them, are of others
  pub theirs_append : (xs ys : List Deed) → Theirs xs → Theirs ys → Theirs (xs ++ ys)
  theirs_append [] ys p q = q
  theirs_append (x ∷ xs) ys p q = (p.0, theirs_append xs ys p.1 q)

  -- lists of deeds made of items are of others if each is
  pub theirs_flat : {X : Type 0} (f : X → List Deed) → ((x : X) → Theirs (f x)) → (xs : List X) → Theirs (flat_map f xs)
  theirs_flat f h [] = tt
  theirs_flat f h (x ∷ xs) = theirs_append (f x) (flat_map f xs) (h x) (theirs_flat f h xs)

  theirs_map : {X : Type 0} (f : X → Deed) → ((x : X) → IsTheirs client birth ns (f x)) → (xs : List X) → Theirs (map f xs)
  theirs_map f h [] = tt
  theirs_map f h (x ∷ xs) = (h x, theirs_map f h xs)

  -- ---- whose a session and a line are

  abbrev pub IsForeign : ℕ → Type 0
  IsForeign k = nat_eq k birth ≡ false

  abbrev pub IsOutside : ℕ → Type 0
  IsOutside m = is_one_of (Some m) ns ≡ false

  -- a line is none of the receiver's, and has another session
  pub record IsAnother (l : BrokerLine) : Type 0 where
    pub number : IsOutside l.number
    pub session : (k : ℕ) → l.session ≡ Some k → IsForeign k

  -- another birth is another session's
  pub differs : (k : ℕ) → (k ≡ birth → ⊥) → IsForeign k
  differs k h = elim (cases_Bool (nat_eq k birth)) [ inl same ↦ absurd (h (eqb-true k birth same)) | inr other ↦ other ]

  another_line : (l : BrokerLine) → IsOwnLine ns birth l → IsOutside l.number → IsAnother l
  another_line l p outside = record {
    number = outside;
    session = λ k on. differs k (λ same. let clash : true ≡ false = sym (p.alone (on ∙ ap Some same)) ∙ outside in absurd cc);
  }

  -- the line that a session of another birth is connected on
  pub line_of_another : (k : ℕ) (l : BrokerLine) (b : Broker) → IsServed client birth ns b → IsForeign k → line_of k b ≡ Some l → IsAnother l
  line_of_another k l b v q e =
      let both = all_find (IsOwnLine ns birth) (λ (x : BrokerLine). is_of x.session k) l b.lines v.lines e in
      another_line l both.0 (elim (cases_Bool (is_one_of (Some l.number) ns)) [
        | inl inside ↦ absurd (theirs_not l.session both.1 (both.0.theirs inside))
        | inr outside ↦ outside
      ])
    where
      theirs_not : (o : Option ℕ) → is_of o k ≡ true → ((other : ℕ) → o ≡ Some other → other ≡ birth) → ⊥
      theirs_not None on h = absurd cc
      theirs_not (Some x) on h = not_same k birth q (sym (eqb-true x k on) ∙ h x refl)

  -- the line of another number
  pub line_at_another : (m : ℕ) (l : BrokerLine) (b : Broker) → IsServed client birth ns b → IsOutside m → line_at m b ≡ Some l → IsAnother l
  line_at_another m l b v q e =
      let both = all_find (IsOwnLine ns birth) (λ (x : BrokerLine). nat_eq x.number m) l b.lines v.lines e in
      another_line l both.0 (ap (λ (k : ℕ). is_one_of (Some k) ns) (eqb-true l.number m both.1) ∙ q)

  -- the line that is silent
  pub silent_another : (l : BrokerLine) (test : BrokerLine → Bool) (b : Broker) → IsServed client birth ns b → find test b.lines ≡ Some l → IsOutside l.number → IsAnother l
  silent_another l test b v e outside = another_line l (all_find (IsOwnLine ns birth) test l b.lines v.lines e).0 outside

  -- a session of another client identifier
  pub named_another : (its : List ℕ) (s : Session) (b : Broker) → IsServed client birth ns b → (its ≡ client → ⊥) → session_named its b.records ≡ Some s → IsForeign s.birth
  named_another its s b v q e =
      let both = all_find (IsOurs client birth) (λ (x : Session). bytes_eq x.client its) s b.records.sessions v.sessions e in
      let is : s.client ≡ its = (bytes_eq-Decides s.client its).0 both.1 in
      differs s.birth (λ same. q (sym is ∙ both.0.name same))

  -- a client identifier that the broker assigns is no end's
  assigned_another : (number : ℕ) → starts_with nat_eq client auto ≡ false → auto ++ decimal number ≡ client → ⊥
  assigned_another number h e =
      let yes : starts_with nat_eq (auto ++ decimal number) auto ≡ true = refl in
      let no : starts_with nat_eq (auto ++ decimal number) auto ≡ false = ap (λ (xs : List ℕ). starts_with nat_eq xs auto) e ∙ h in
      let never_is : true ≡ false = sym yes ∙ no in
      absurd cc

  -- a session with a Will that is due is another
  pub no_will : (now : ℕ) (s : Session) → IsOurs client birth s → has_due_will now s ≡ true → IsForeign s.birth
  no_will now s p h = differs s.birth (λ same.
      let none : has_due_will now s ≡ false = ap (λ (w : Option Will). is_due now (will_due s.closed s.expiry w)) (p.no_will same) ∙ no_will_due s.closed s.expiry now in
      let both : true ≡ false = sym h ∙ none in
      absurd cc)

  -- a session whose end is due is another
  pub no_end : (now : ℕ) (s : Session) → IsOurs client birth s → has_due_end now s ≡ true → IsForeign s.birth
  no_end now s p h = differs s.birth (λ same.
      let none : has_due_end now s ≡ false = ap (λ (k : ℕ). is_due now (end_due s.closed k)) (p.no_end same) ∙ no_end_due s.closed now in
      let both : true ≡ false = sym h ∙ none in
      absurd cc)

  -- ---- units of deeds

  theirs_of_entry : (o : Option CopyRow) (f : CopyRow → List Deed) → ((e : CopyRow) → Theirs (f e)) → Theirs (of_entry o f)
  theirs_of_entry None f h = tt
  theirs_of_entry (Some e) f h = h e

  -- a copy's leaving another queue is of others
  pub theirs_leave : (s : Session) (t : Turn) → IsForeign s.birth → Theirs (leave_deeds s t)
  theirs_leave s (turns.Leave place ending) q = theirs_of_entry (row_at copy_place place s.queue) (λ e. At (whose s) (Leave e ending) ∷ []) (λ e. ((q, tt), tt))
  theirs_leave s (turns.Send place id) q = tt
  theirs_leave s (turns.Resend place id) q = tt
  theirs_leave s (turns.Release place id order) q = tt
  theirs_leave s (turns.Outgrow place id order) q = tt
  theirs_leave s (turns.Repeat id) q = tt
  theirs_leave s (turns.Unknown id) q = tt

  -- a turn of another queue on another line is of others
  pub theirs_turn : (now line : ℕ) (s : Session) (t : Turn) → IsOutside line → IsForeign s.birth → Theirs (turn_deeds now line s t)
  theirs_turn now line s (turns.Send place id) out q = theirs_of_entry (row_at copy_place place s.queue) _ (λ e. ((q, tt), (((out, tt), tt), ((out, tt), tt))))
  theirs_turn now line s (turns.Resend place id) out q = theirs_of_entry (row_at copy_place place s.queue) _ (λ e. (((out, tt), tt), ((out, tt), tt)))
  theirs_turn now line s (turns.Release place id order) out q = ((q, tt), ((out, tt), tt))
  theirs_turn now line s (turns.Outgrow place id order) out q = ((q, tt), ((out, tt), tt))
  theirs_turn now line s (turns.Repeat id) out q = ((out, tt), tt)
  theirs_turn now line s (turns.Unknown id) out q = ((out, tt), tt)
  theirs_turn now line s (turns.Leave place ending) out q = theirs_leave s (turns.Leave place ending) q

  theirs_closed : (keeps_will : Bool) (now : ℕ) (o : Option Session) → ((s : Session) → o ≡ Some s → IsForeign s.birth) → Theirs (closing_session keeps_will now o)
  theirs_closed keeps_will now None h = tt
  theirs_closed true now (Some s) h = ((h s refl, tt), tt)
  theirs_closed false now (Some s) h = ((h s refl, tt), ((h s refl, tt), tt))

  -- the closing of another line, and its session with it, is of others
  pub theirs_closing : (keeps_will : Bool) (l : BrokerLine) (session : Option ℕ) (b : Broker) → IsAnother l → l.session ≡ session → Theirs (Gone l.number ∷ closing_on keeps_will b.now session b.records)
  theirs_closing keeps_will l None b q e = ((q.number, tt), tt)
  theirs_closing keeps_will l (Some k) b q e = (
    (q.number, tt),
    theirs_closed keeps_will b.now (session_at k b.records)
        (λ s there. ap (λ (m : ℕ). nat_eq m birth) (found_key birth_of k s b.records.sessions there) ∙ q.session k e),
  )

  -- another session's end is of others
  pub theirs_end : (s : Session) → IsForeign s.birth → Theirs (end_session s)
  theirs_end s q =
      theirs_append (map (λ (e : CopyRow). At (whose s) (Leave e SessionEnded)) s.queue) (Finish (whose s) ∷ []) (theirs_map (λ (e : CopyRow). At (whose s) (Leave e SessionEnded)) (λ e. (q, tt)) s.queue) ((q, tt), tt)

  -- another session that is connected on another line is of others
  pub theirs_greet : (l : BrokerLine) (c : Greeting) (k : ℕ) → IsAnother l → IsForeign k → IsTheirs client birth ns (greet l c k)
  theirs_greet l c k q f = ((q.number, f), tt)

  theirs_begin : (l : BrokerLine) (c : Greeting) (t : Bool) (name : List ℕ) (r : Records) → IsAnother l → (name ≡ client → ⊥) → birth ≤ r.births → Theirs (begin l c t name (suc r.births))
  theirs_begin l c t name r q h le =
      let less : birth < suc r.births = omega (arith, le) in
      let other = less_differs birth (suc r.births) less in
      (((other, h), less), (theirs_greet l c (suc r.births) q other, ((q.number, tt), tt)))

  -- a session that begins under another name on another line is of others
  pub theirs_begin_named : (t : Bool) (l : BrokerLine) (c : Greeting) (r : Records) → IsAnother l → (c.client_identifier ≡ client → ⊥) → starts_with nat_eq client auto ≡ false → birth ≤ r.births
      → Theirs (begin_named t l c r)
  theirs_begin_named false l c r q h a le = theirs_begin l c false c.client_identifier r q h le
  theirs_begin_named true l c r q h a le = ((tt, tt), theirs_begin l c true (auto ++ decimal (suc r.autos)) r q (assigned_another (suc r.autos) a) le)

  -- all lines but its own, all sessions but its own, and no CONNECT of this client
  abbrev pub others : Whom
  others = record {
    line = IsAnother;
    number = IsOutside;
    session = IsForeign;
    client = λ its b. its ≡ client → ⊥;
    packet = λ packet. IsOthers client packet;
    message = λ m. ⊤;
  }
