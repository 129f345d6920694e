-- A SUBSCRIBE: each subscription is one that it asks for, and each copy of a retained message was called for by one (MQTT 5.0, 3.8, 3.9).
use Rattle.std.proofs.Common.{◌≡◌, ℕ, Bool, true, false, not, ◌&&◌, ◌||◌, List, [], ◌∷◌, ◌++◌, filter, length, map, Option, Some, None, nat_eq, refl, sym, ap, subst, ◌∙◌, inl, inr}
use Rattle.std.specs.Prelude.{nat_le, nat_lt, option_map}
use Rattle.std.specs.List.{AllByRecursion}
use Rattle.mqtt_base.specs.Codes.{identifier_in_use}
use Rattle.mqtt_base.specs.declared.limits.TheConstants.{SUBSCRIPTION_LIMIT}
use Rattle.mqtt_base.specs.declared.session.SubscriptionOptions.{SubscriptionOptions}
use Rattle.mqtt_packet.specs.declared.codec.packet.Packet.{Packet}
use Rattle.mqtt_packet.specs.declared.codec.packet.Packet.TheVariants as packets
use Rattle.mqtt_packet.specs.declared.subscribe.subscribe.Subscribe.{Subscribe as Asking}
use Rattle.mqtt_packet.specs.subscribe.Options.{options_of}
use Rattle.mqtt_packet.specs.subscribe.Subscriptions.{Subscription as Wished}
use Rattle.mqtt_props.specs.declared.table.PropName.TheVariants.{SubscriptionIdentifier}
use Rattle.mqtt_records.specs.declared.state.session.Session.{Session}
use Rattle.mqtt_records.specs.messages.PassedOn.{number_at}
use Rattle.mqtt_records.specs.state.Session.{birth_of}
use Rattle.mqtt_topic.specs.names.Filters.{is_filter}
use Rattle.mqtt_rules.specs.step.Deeds.{Count, Deed, after, after_all, offer, series}
use Rattle.mqtt_rules.specs.step.Fitting.{has_form}
use Rattle.mqtt_rules.specs.step.Laws.{IsAmong}
use Rattle.mqtt_rules.specs.step.Lines.{session_on}
use Rattle.mqtt_rules.specs.step.Outbound.{room}
use Rattle.mqtt_rules.specs.step.Packets.{publish_of, suback}
use Rattle.mqtt_rules.specs.step.Routing.{CopyTo, is_queued}
use Rattle.mqtt_rules.specs.step.State.{Broker, Env, Line, line_at, session_at}
use Rattle.mqtt_rules.specs.step.Step.{Call, Input}
use Rattle.mqtt_rules.specs.step.Subscribe as sub
use Rattle.mqtt_rules.proofs.step_lemmas.acts.Acts.{brought_to}
use Rattle.mqtt_rules.proofs.step_lemmas.acts.Goods.{AreGood, after_append, good_append}
use Rattle.mqtt_rules.proofs.step_lemmas.acts.Leads.{found_among}
use Rattle.mqtt_rules.proofs.step_lemmas.acts.Offers.{of_offer, of_offer_if}
use Rattle.mqtt_rules.proofs.step_lemmas.flight.FlightRows.{found_key}
use Rattle.mqtt_rules.proofs.step_lemmas.lines.LineActs.{quiet_grants}
use Rattle.mqtt_rules.proofs.step_lemmas.lines.LineRows.{IsQuiet, leaves, still_quiet}
use Rattle.mqtt_rules.proofs.step_lemmas.numbers.Copies.{each_append}
use Rattle.mqtt_world_laws.specs.acceptance.Entries.{Moment, moments_of}
use Rattle.mqtt_world_laws.specs.unasked.Unasked.{IsOnLine}
use Rattle.mqtt_world_laws.proofs.routing_lemmas.Lists.{among_passing, each_among}
use Rattle.mqtt_world_laws.proofs.unasked_lemmas.Called.{IsBrought, IsCalled, brought_called, granting}
use Rattle.mqtt_world_laws.proofs.unasked_lemmas.Traces.{Contains, In, Traced, first_of, granted, in_append, offered, on_its_line, second_of, silent_offer, silently, traced_append, traced_both}
use Rattle.mqtt_rules.proofs.step_lemmas.fit.FitLaw.{all_among}

low : (t : Bool) → not t ≡ true → t ≡ false
low false e = refl
low true e = absurd cc

module _ (call : Option Call) (env : Env) (line : ℕ) (p : Asking) (read : call ≡ Some (Input line (packets.Subscribe p))) (birth : ℕ) where
  abbrev identifier : Option ℕ
  identifier = number_at SubscriptionIdentifier p.properties

  -- the session is connected on the line of the SUBSCRIBE
  abbrev On : Broker → Type 0
  On b = session_on line b ≡ Some (Some birth)

  on_after : (ds : List Deed) (b : Broker) → AreGood IsQuiet ds b → On b → On (after_all ds b)
  on_after ds b quiet on = (leaves ds b (still_quiet ds b quiet)).lines line ∙ on

  -- a copy that goes out behind the SUBACK: of QoS 0, for this session, and called for
  abbrev IsLate : List Moment → CopyTo → Type 0
  IsLate ms d = IsCalled ms d × (is_queued d ≡ false) × (d.birth ≡ birth)

  -- what comes of filters: deeds that are traced and leave lines alone, and copies that are called for in them
  record IsTold (ds : List Deed) (late : List CopyTo) (b : Broker) : Type 0 where
    traced : Traced call env ds b
    quiet : AreGood IsQuiet ds b
    called : (ms : List Moment) → Contains ms (moments_of env ds b) → AllByRecursion (IsLate ms) late

  nothing : (b : Broker) → IsTold [] [] b
  nothing b = record { traced = silently call env [] b tt; quiet = tt; called = λ ms own. tt }

  -- ---- one filter

  one_granted : (a : Wished) (options : SubscriptionOptions) (s : Session) (b : Broker) → IsAmong a p.subscriptions → options_of a.options ≡ Some options → s.birth ≡ birth → session_at s.birth b.records ≡ Some s → On b
      → (let w : sub.Wish = record { filter = a.filter; options = options; identifier = identifier } in
      let g = sub.granted_filter env (sub.next_number b.records) s w (brought_to w s b) b in
      IsTold g.deeds g.late b)
  one_granted a options s b among is its there on =
      let w : sub.Wish = record { filter = a.filter; options = options; identifier = identifier } in
      let c = after (Count (sub.next_number b.records)) b in
      record {
        traced = granted call env w s b there (record {
          number = line;
          packet = p;
          read = read;
          line = on_its_line line s.birth c (on ∙ ap (λ (n : ℕ). Some (Some n)) (sym its));
          wish = a;
          asked = among;
          filter = refl;
          options = is;
          identifier = refl;
        });
        quiet = quiet_grants env w s b;
        called = λ ms own. each_among (IsLate ms) (filter (λ d. not (is_queued d)) (brought_to w s b)) (λ d late.
            let passes = among_passing (λ (x : CopyTo). not (is_queued x)) d (brought_to w s b) late in
            let called = all_among (IsBrought env s w b ms there) d (brought_to w s b) (brought_called env s w b ms there (own (granting env s w b ms there) (inr (inl refl)))) passes.0 in
            (called.0, low (is_queued d) passes.1, called.1 ∙ its));
      }

  answered : (valid fits : Bool) (a : Wished) (options : SubscriptionOptions) (s : Session) (b : Broker) → IsAmong a p.subscriptions → options_of a.options ≡ Some options → s.birth ≡ birth → session_at s.birth b.records ≡ Some s → On b
      → (let w : sub.Wish = record { filter = a.filter; options = options; identifier = identifier } in
      let g = sub.answer_by valid fits env (sub.next_number b.records) s w (brought_to w s b) b in
      IsTold g.deeds g.late b)
  answered false fits a options s b among is its there on = nothing b
  answered true false a options s b among is its there on = nothing b
  answered true true a options s b among is its there on = one_granted a options s b among is its there on

  filter_told : (a : Wished) (o : Option SubscriptionOptions) (b : Broker) (x : Option Session) → IsAmong a p.subscriptions → options_of a.options ≡ o → session_at birth b.records ≡ x → On b
      → (let g = sub.filter_answer_of env (sub.wish_by a.filter identifier o) b x in IsTold g.deeds g.late b)
  filter_told a None b None among is there on = nothing b
  filter_told a (Some options) b None among is there on = nothing b
  filter_told a None b (Some s) among is there on = nothing b
  filter_told a (Some options) b (Some s) among is there on =
      let its = found_key birth_of birth s b.records.sessions there in
      let w : sub.Wish = record { filter = a.filter; options = options; identifier = identifier } in
      answered (is_filter a.filter) ((sub.has_filter a.filter s || nat_lt (length s.subscriptions) SUBSCRIPTION_LIMIT) && nat_le (length (filter is_queued (brought_to w s b))) (room env s)) a options s b among is its
      (ap (λ (n : ℕ). session_at n b.records) its ∙ there) on

  -- ---- all filters, one after the other

  filters_told : (xs : List Wished) (b : Broker) → ((a : Wished) → IsAmong a xs → IsAmong a p.subscriptions) → On b
      → (let g = sub.filter_answers env birth identifier xs b in IsTold g.deeds g.late b)
  filters_told [] b are on = nothing b
  filters_told (a ∷ rest) b are on =
      let g = sub.filter_answer_of env (sub.wish_of identifier a) b (session_at birth b.records) in
      let c = after_all g.deeds b in
      let x = sub.filter_answers env birth identifier rest c in
      let one = filter_told a (options_of a.options) b (session_at birth b.records) (are a (inl refl)) refl refl on in
      let more = filters_told rest c (λ y h. are y (inr h)) (on_after g.deeds b one.quiet on) in
      record {
        traced = traced_append call env g.deeds x.deeds b one.traced more.traced;
        quiet = good_append IsQuiet g.deeds x.deeds b one.quiet more.quiet;
        called = λ ms own. each_append (IsLate ms) g.late x.late (one.called ms (first_of call env ms g.deeds x.deeds b own)) (more.called ms (second_of call env ms g.deeds x.deeds b own));
      }

  -- ---- the SUBACK, and what goes out behind it

  on_offered : (o : Option Line) (packet : Packet) (b : Broker) → On b → On (after_all (offer o packet) b)
  on_offered o packet b on = of_offer (λ (ds : List Deed). On (after_all ds b)) o packet on (λ l there. on)

  late_line : (l : Line) (d : CopyTo) (b : Broker) → line_at line b ≡ Some l → d.birth ≡ birth → On b → IsOnLine l.number d.birth b
  late_line l d b there its on = record {
    line = l;
    stands = found_among (λ (x : Line). nat_eq x.number line) l b.lines there;
    number = refl;
    session = some_is l.session (sym (ap (option_map (λ (x : Line). x.session)) there) ∙ on) ∙ ap (λ (n : ℕ). Some n) (sym its);
  }
    where
      some_is : (o : Option ℕ) → Some o ≡ Some (Some birth) → o ≡ Some birth
      some_is o e = cc

  all_late : (ms : List Moment) (ds : List CopyTo) (b : Broker) → AllByRecursion (IsLate ms) ds → On b → In call env ms (series (map (sub.late_send line) ds) b) b
  all_late ms [] b h on = tt
  all_late ms (d ∷ ds) b h on =
      let first = sub.late_send line d b in
      let c = after_all first b in
      let on_then = of_offer_if (λ (xs : List Deed). On (after_all xs b)) (has_form d.copy b) (line_at line b) (publish_of b.now false 0 d.copy) on (λ l there. on) in
      in_append call env ms first (series (map (sub.late_send line) ds) c) b
      (offered call env ms (line_at line b) d b h.0.1 h.0.0 (λ l there. late_line l d b there h.0.2 on)) (all_late ms ds c h.1 on_then)

  -- the deeds of a SUBSCRIBE of a session that is connected on the line
  pub subscribed : (t : Bool) (s : Session) (b : Broker) → s.birth ≡ birth → On b → Traced call env (sub.subscribe_by t env line s p b) b
  subscribed true s b its on = silently call env _ b (silent_offer call env (line_at line b) (suback p.identifier (map (λ a. identifier_in_use) p.subscriptions)) tt)
  subscribed false s b its on =
      subst (λ (n : ℕ). Traced call env (let a = sub.filter_answers env n identifier p.subscriptions b in let told = a.deeds ++ offer (line_at line b) (suback p.identifier a.codes) in told ++ series (map (sub.late_send line) a.late) (after_all told b)) b) (sym its)
      (let a = sub.filter_answers env birth identifier p.subscriptions b in
      let ack = offer (line_at line b) (suback p.identifier a.codes) in
      let told = a.deeds ++ ack in
      let c = after_all told b in
      let all = filters_told p.subscriptions b (λ y h. h) on in
      let on_c : On c = subst On (sym (after_append a.deeds ack b)) (on_offered (line_at line b) (suback p.identifier a.codes) (after_all a.deeds b) (on_after a.deeds b all.quiet on)) in
      traced_both call env told (series (map (sub.late_send line) a.late) c) b
      (traced_append call env a.deeds ack b all.traced (silently call env ack (after_all a.deeds b) (silent_offer call env (line_at line b) (suback p.identifier a.codes) tt)))
      (λ ms own. all_late ms a.late c (all.called ms (first_of call env ms a.deeds ack b own)) on_c))
