-- What a connected line takes changes in CONNECT alone: each call of the broker leaves it, but for a CONNECT on that line,
-- which makes it what it says (MQTT 5.0, 3.1.2.11.3, 3.1.2.11.4).
use Rattle.std.proofs.Common.{◌≡◌, ℕ, Bool, true, false, not, ◌⊎◌, List, [], ◌∷◌, filter, map, Option, Some, None, nat_eq, refl, sym, ap, subst, ◌∙◌, inl, inr}
use Rattle.std.specs.Prelude.{⊤}
use Rattle.std.specs.List.{AllByRecursion}
use Rattle.std.proofs.lemmas.Bool.{cases_Bool, eqb-true}
use Rattle.std.proofs.lemmas.Cmp.{nat_eq_equiv}
use Rattle.mqtt_packet.specs.declared.codec.packet.Packet.{Packet}
use Rattle.mqtt_packet.specs.declared.codec.packet.Packet.TheVariants as packets
use Rattle.mqtt_packet.specs.declared.connect.connect.Connect.{Connect as Greeting}
use Rattle.mqtt_records.specs.declared.state.records.Records.{Records}
use Rattle.mqtt_records.specs.declared.state.session.Session.{Session}
use Rattle.mqtt_topic.specs.names.Names.{is_empty}
use Rattle.mqtt_rules.proofs.step_lemmas.acts.Acts.{About, IsCallOf, Law, brought_to, closing_on, closing_session, leads_call}
use Rattle.mqtt_rules.proofs.step_lemmas.acts.OnLines.{found_number}
use Rattle.mqtt_rules.proofs.step_lemmas.numbers.Copies.{each_append}
use Rattle.mqtt_rules.proofs.step_lemmas.acts.Goods.{AreGood}
use Rattle.mqtt_rules.proofs.step_lemmas.acts.Leads.{found_passes}
use Rattle.mqtt_rules.proofs.step_lemmas.lines.LineActs.{quiet_grants, quiet_lapses, quiet_publish, quiet_pump, quiet_turn, still_end}
use Rattle.mqtt_rules.proofs.step_lemmas.lines.LineRows.{IsStill, IsQuiet, still_quiet}
use Rattle.mqtt_rules.specs.step.Connect.{begin_named, largest_of, window_of}
use Rattle.mqtt_rules.specs.step.Closing.{end_session}
use Rattle.mqtt_rules.specs.step.Deeds.{At, Deed, Gone, Greet, Hear, Leave, LinePart, Link, On, Part, SetAlias, Went, after, after_all, fresh_line, line_after, lines_after, lines_at, on_line, rows_of_all, without_place}
use Rattle.mqtt_rules.specs.step.Inbound.{pump_deeds}
use Rattle.mqtt_rules.specs.step.Outbound.{turn_deeds}
use Rattle.mqtt_rules.specs.step.Routing.{publish}
use Rattle.mqtt_rules.specs.step.State.{Line as BrokerLine, Broker, Env, MemberChoice, is_of}
use Rattle.mqtt_rules.specs.step.Step.{BadInput, Call, Input, Lost, NewLine, Pump, Tick, at_moment, deeds, deeds_of, env_of, stepped}
use Rattle.mqtt_rules.specs.step.Subscribe as sub
use Rattle.mqtt_rules.specs.step.Tick.{lapse_deeds}
use Rattle.mqtt_rules.specs.declared.step.Capacity.{Capacity}
use Rattle.mqtt_world_model.proofs.model_lemmas.seats.Seeing.{done_lines}
use Rattle.mqtt_world_laws.specs.receiver.Connecting.{any_size}
use Rattle.mqtt_world_laws.specs.delivery.Taking.{TakesThere}

on_its : (o : Option ℕ) (birth : ℕ) → is_of o birth ≡ true → o ≡ Some birth
on_its None birth e = absurd cc
on_its (Some x) birth e = ap Some (eqb-true x birth e)

module _ (window n : ℕ) where
  -- CONNECT says what a line is to take
  abbrev pub Says : Greeting → Type 0
  Says c = (window_of c ≡ window) × (largest_of c ≡ any_size)

  -- on another line, or it says so
  abbrev pub Suits : Call → Type 0
  Suits (Input m (packets.Connect c)) = (nat_eq m n ≡ false) ⊎ Says c
  Suits call = ⊤

  -- ---- deeds

  abbrev FitsOn : ℕ → LinePart → Type 0
  FitsOn m (Greet birth keep_alive most largest aliases) = (nat_eq m n ≡ false) ⊎ ((most ≡ window) × (largest ≡ any_size))
  FitsOn m part = ⊤

  abbrev Fits : Deed → Broker → Type 0
  Fits (On m part) b = FitsOn m part
  Fits d b = ⊤

  still_fits : (d : Deed) (b : Broker) → IsStill d b → Fits d b
  still_fits (On m (Greet birth keep_alive most largest aliases)) b q = absurd q
  still_fits (On m Hear) b q = tt
  still_fits (On m (SetAlias alias topic)) b q = tt
  still_fits (On m (Went place)) b q = tt
  still_fits d b q = tt

  still_all : (ds : List Deed) (b : Broker) → AreGood IsStill ds b → AreGood Fits ds b
  still_all [] b q = tt
  still_all (d ∷ ds) b q = (still_fits d b q.0, still_all ds (after d b) q.1)

  quiet_all : (ds : List Deed) (b : Broker) → AreGood IsQuiet ds b → AreGood Fits ds b
  quiet_all ds b q = still_all ds b (still_quiet ds b q)

  closed_fits : (keeps_will : Bool) (now : ℕ) (o : Option Session) (b : Broker) → AreGood Fits (closing_session keeps_will now o) b
  closed_fits keeps_will now None b = tt
  closed_fits true now (Some s) b = (tt, tt)
  closed_fits false now (Some s) b = (tt, (tt, tt))

  closing_fits : (keeps_will : Bool) (now : ℕ) (session : Option ℕ) (r : Records) (b : Broker) → AreGood Fits (closing_on keeps_will now session r) b
  closing_fits keeps_will now None r b = tt
  closing_fits keeps_will now (Some birth) r b = closed_fits keeps_will now _ b

  begin_fits : (t : Bool) (l : BrokerLine) (c : Greeting) (r : Records) (b : Broker) → (nat_eq l.number n ≡ false) ⊎ Says c → AreGood Fits (begin_named t l c r) b
  begin_fits false l c r b says = (tt, (says, (tt, tt)))
  begin_fits true l c r b says = (tt, (tt, (says, (tt, tt))))

  -- ---- all deeds of a call

  module _ (line : BrokerLine → Type 0) (packet : Packet → Type 0) (connected : (l : BrokerLine) (birth : ℕ) → l.session ≡ Some birth → line l)
      (suits : (l : BrokerLine) (c : Greeting) → l.session ≡ None → line l → packet (packets.Connect c) → (nat_eq l.number n ≡ false) ⊎ Says c) where
    abbrev whom : About
    whom = record { line = line; number = λ m. ⊤; session = λ k. ⊤; client = λ its b. ⊤; packet = packet; message = λ m. ⊤ }

    abbrev Anything : Broker → Type 0
    Anything b = ⊤

    fits_law : (env : Env) → Law env whom Anything Fits
    fits_law env = record {
      finds = record {
        its_number = λ l its. tt;
        its_session = λ l k its e. tt;
        its_line = λ k l b o its e. connected l k (on_its l.session k (found_passes (λ (x : BrokerLine). is_of x.session k) l b.lines e));
        named = λ its s b o q e. tt;
        admitted = λ c b o came e. tt;
        sent = λ l s p topic b o its came e. tt;
        willed = λ s w b o among e. tt;
      };
      client_stays = λ its ds b o leads q. tt;
      publishes = λ origin m ds b o said e. (quiet_all (publish env origin m ds b) b (quiet_publish env origin m ds b), tt);
      open_id = λ s id m ds b o h its there new is. ((tt, tt), tt);
      refuse_will = λ who b o its. ((tt, tt), tt);
      alone = λ who part b o its is. ((tt, tt), tt);
      closes = λ keeps_will l b o its on. ((tt, closing_fits keeps_will b.now l.session b.records (after (Gone l.number) b)), tt);
      ends = λ s b o its among may. (still_all (end_session s) b (still_end s b), tt);
      resumes = λ l c s b o its none came taken own is prepared. ((tt, (suits l c none its came, tt)), tt);
      begins = λ l c b o its none came taken name is room prepared. (begin_fits (is_empty c.client_identifier) l c b.records b (suits l c none its came), tt);
      grants = λ w s b o its asked granted. (quiet_all (sub.granted_filter env (sub.next_number b.records) s w (brought_to w s b) b).deeds b (quiet_grants env w s b), tt);
      pumps = λ l s b o its is there. (quiet_all (pump_deeds l b s) b (quiet_pump l s b), tt);
      turns = λ a t l s b o its own there is e. (quiet_all (turn_deeds b.now l.number s t) b (quiet_turn b.now l.number s t b), tt);
      lapses = λ s b o among. (quiet_all (lapse_deeds b.now s) b (quiet_lapses b.now s b), tt);
      stale = λ k b o among. ((tt, tt), tt);
      links = λ b o can. ((tt, tt), tt);
      hears = λ m b o its. ((tt, tt), tt);
      sets = λ m alias topic b o its said. ((tt, tt), tt);
      sends = λ m sent b o its. ((tt, tt), tt);
    }

    fits_call : (env : Env) (call : Call) (b : Broker) → IsCallOf whom call b → AreGood Fits (deeds_of env call b) b
    fits_call env call b its = (leads_call env whom Anything Fits (fits_law env) call b tt its).0

  abbrev Whatever : BrokerLine → Type 0
  Whatever l = ⊤

  abbrev NoPacket : Packet → Type 0
  NoPacket p = ⊥

  -- its packet, on its line
  abbrev IsThere : ℕ → BrokerLine → Type 0
  IsThere m l = l.session ≡ None → l.number ≡ m

  there_on : (m : ℕ) (l : BrokerLine) (birth : ℕ) → l.session ≡ Some birth → IsThere m l
  there_on m l birth on none = let clash : Some birth ≡ None = sym on ∙ none in absurd cc

  there_suits : (m : ℕ) (p : Packet) → Suits (Input m p) → (l : BrokerLine) (c : Greeting) → l.session ≡ None → IsThere m l → packets.Connect c ≡ p → (nat_eq l.number n ≡ false) ⊎ Says c
  there_suits m p q l c none there is =
      let here : Suits (Input m (packets.Connect c)) = subst (λ (x : Packet). Suits (Input m x)) (sym is) q in
      subst (λ (k : ℕ). (nat_eq k n ≡ false) ⊎ Says c) (sym (there none)) here

  called_fits : (env : Env) (call : Call) (b : Broker) → Suits call → AreGood Fits (deeds_of env call b) b
  called_fits env (Input m p) b q =
      fits_call (IsThere m) (λ x. x ≡ p) (there_on m) (there_suits m p q) env (Input m p) b ((λ l e none. found_number m l b.lines e), refl)
  called_fits env NewLine b q = fits_call Whatever NoPacket (λ l k on. tt) (λ l c none its came. absurd came) env NewLine b tt
  called_fits env (BadInput m is_connect code) b q = fits_call Whatever NoPacket (λ l k on. tt) (λ l c none its came. absurd came) env (BadInput m is_connect code) b (λ l e. tt)
  called_fits env (Lost m) b q = fits_call Whatever NoPacket (λ l k on. tt) (λ l c none its came. absurd came) env (Lost m) b (λ l e. tt)
  called_fits env (Pump m) b q = fits_call Whatever NoPacket (λ l k on. tt) (λ l c none its came. absurd came) env (Pump m) b (λ l e. tt)
  called_fits env Tick b q = fits_call Whatever NoPacket (λ l k on. tt) (λ l c none its came. absurd came) env Tick b (record { silent = λ l e. tt; wills = λ s e. tt; ends = λ s e. tt })

  -- ---- what the lines take then

  abbrev Take : List BrokerLine → Type 0
  Take ls = AllByRecursion (TakesThere window n) ls

  part_takes : (now m : ℕ) (part : LinePart) (l : BrokerLine) → FitsOn m part → l.number ≡ m → TakesThere window n l → TakesThere window n (line_after now part l)
  part_takes now m Hear l q is h = h
  part_takes now m (SetAlias alias topic) l q is h = h
  part_takes now m (Went place) l q is h = h
  part_takes now m (Greet birth keep_alive most largest aliases) l (inl other) is h =
      λ e k on. let clash : true ≡ false = sym (nat_eq_equiv.refl n) ∙ (ap (λ (x : ℕ). nat_eq x n) (sym e ∙ is) ∙ other) in absurd cc
  part_takes now m (Greet birth keep_alive most largest aliases) l (inr said) is h = λ e k on. said

  on_takes : (now m : ℕ) (part : LinePart) (ls : List BrokerLine) → FitsOn m part → Take ls → Take (on_line now m part ls)
  on_takes now m part [] q h = tt
  on_takes now m part (l ∷ ls) q h = elim (cases_Bool (nat_eq l.number m)) [
    | inl here ↦ rw here (part_takes now m part l q (eqb-true l.number m here) h.0, h.1)
    | inr other ↦ rw other (h.0, on_takes now m part ls q h.1)
  ]

  gone_takes : (m : ℕ) (ls : List BrokerLine) → Take ls → Take (filter (λ (l : BrokerLine). not (nat_eq l.number m)) ls)
  gone_takes m [] h = tt
  gone_takes m (l ∷ ls) h = elim (cases_Bool (nat_eq l.number m)) [
    | inl goes ↦ rw goes (gone_takes m ls h.1)
    | inr stays ↦ rw stays (h.0, gone_takes m ls h.1)
  ]

  place_takes : (birth place : ℕ) (ls : List BrokerLine) → Take ls → Take (map (without_place birth place) ls)
  place_takes birth place [] h = tt
  place_takes birth place (l ∷ ls) h = elim (cases_Bool (is_of l.session birth)) [
    | inl its ↦ rw its (h.0, place_takes birth place ls h.1)
    | inr other ↦ rw other (h.0, place_takes birth place ls h.1)
  ]

  at_takes : (birth : ℕ) (part : Part) (ls : List BrokerLine) → Take ls → Take (lines_at birth part ls)
  at_takes birth (Leave e ending) ls h = place_takes birth e.place ls h
  at_takes birth part ls h = h

  deed_takes : (d : Deed) (now : ℕ) (ls : List BrokerLine) (b : Broker) → Fits d b → Take ls → Take (lines_after now d ls)
  deed_takes (Link m) now ls b q h = each_append (TakesThere window n) ls (fresh_line m now ∷ []) h ((λ e k on. absurd cc), tt)
  deed_takes (On m part) now ls b q h = on_takes now m part ls q h
  deed_takes (Gone m) now ls b q h = gone_takes m ls h
  deed_takes (At who part) now ls b q h = at_takes who.birth part ls h
  deed_takes d now ls b q h = h

  all_take : (ds : List Deed) (b : Broker) → AreGood Fits ds b → Take b.lines → Take (after_all ds b).lines
  all_take [] b q h = h
  all_take (d ∷ ds) b q h = all_take ds (after d b) q.1 (deed_takes d b.now b.lines b q.0 h)

  -- a call leaves what a connected line takes, but for a CONNECT there
  pub called_take : (limits : Capacity) (choice : MemberChoice) (now : ℕ) (call : Call) (b : Broker) → Suits call → Take b.lines → Take (stepped limits choice now call b).lines
  called_take limits choice now call b q h =
      let first = at_moment now b in
      let ds = deeds limits choice now call b in
      let last = after_all ds first in
      subst Take (sym (done_lines (rows_of_all ds first.records) last)) (all_take ds first (called_fits (env_of limits choice b) call first q) h)
