-- What is known of lines and sessions as the broker reads a receiver's CONNECT, on whichever of its lines, and whose they are after
-- it (MQTT 5.0, 3.1.2, 3.1.4).
use Rattle.std.proofs.Common.{◌≡◌, ℕ, suc, Bool, true, false, List, [], ◌∷◌, map, Option, Some, None, nat_eq, refl, sym, ap, subst, ◌∙◌, inl, inr}
use Rattle.std.specs.Prelude.{filter_map, find, is_some, option_map}
use Rattle.std.specs.List.{AllByRecursion}
use Rattle.std.proofs.lemmas.Bool.{cases_Bool, eqb-true}
use Rattle.std.proofs.lemmas.Cmp.{nat_eq_equiv}
use Rattle.mqtt_base.specs.declared.session.CopyId.{CopyId}
use Rattle.mqtt_flow.specs.outbound.Receiver.{connect, puback, pubcomp, pubrec, spared}
use Rattle.mqtt_world_model.specs.model.Ends.{Back, Receiver, answers, asks_for}
use Rattle.mqtt_world_model.specs.model.Hops.{IsIts, IsInOrder, IsKept, IsNoConnect, IsOurLine, IsOurs, Own, lines_left}
use Rattle.mqtt_world_model.specs.model.Lines.{is_one_of, unless_closed}
use Rattle.mqtt_world_model.specs.model.Seats.{Former, HasPlace, IsNamed, Present, absent, closed, joined, late, lingers, over, waiting}
use Rattle.mqtt_world_model.specs.model.Seen.{is_linked}
use Rattle.mqtt_world_model.proofs.model_lemmas.others.Lists.{all_find}
use Rattle.mqtt_world_model.proofs.model_lemmas.others.Names.{named_is}
use Rattle.mqtt_world_model.proofs.model_lemmas.own.OwnCalls.{left_idle, left_own, taken_of}
use Rattle.mqtt_world_model.proofs.model_lemmas.seats.Owned.{NoneKeptAlive, found_alone, owned}
use Rattle.mqtt_world_model.proofs.model_lemmas.others.Rows.{face, face_at}
use Rattle.mqtt_world_model.proofs.model_lemmas.seats.Seats.{idle_linked}
use Rattle.mqtt_world_model.proofs.model_lemmas.seats.Seeing.{linked_is, linked_of}
use Rattle.mqtt_records.specs.state.Session.{birth_of}
use Rattle.mqtt_records.specs.declared.state.session.Session.{Session}
use Rattle.mqtt_records.specs.lists.Distinct.{AllDiffer}
use Rattle.mqtt_records.specs.lists.Order.{row_at}
use Rattle.mqtt_rules.proofs.step_lemmas.flight.FlightRows.{all_at, all_found, all_more}
use Rattle.mqtt_rules.proofs.step_lemmas.numbers.NumberBirths.{below_none}
use Rattle.mqtt_rules.specs.step.Laws.{AreWithin}
use Rattle.mqtt_rules.specs.step.Lines.{HasUniqueLines, line_number}
use Rattle.mqtt_rules.specs.step.Numbers.{HasGivenBirths}
use Rattle.mqtt_rules.specs.step.State.{Line as BrokerLine, Broker, is_of, line_at, line_of, session_at, session_named}
use Rattle.mqtt_rules.specs.declared.step.Capacity.{Capacity}
use Rattle.mqtt_world_laws.specs.acceptance.Fair.{IsSteady}
use Rattle.mqtt_world_laws.specs.receiver.Calls.{IsBeginning, IsOnlyAt, IsRenewing, IsResuming, IsUnused}
use Rattle.mqtt_world_laws.specs.receiver.Own.{IsInStep}
use Rattle.mqtt_world_laws.specs.receiver.Seen.{answered}
use Rattle.mqtt_world_laws.proofs.receiver_lemmas.connects.Greetings.{HasGreeted}
use Rattle.mqtt_world_laws.proofs.receiver_lemmas.queue.Numbers.{place_of, places_number}
use Rattle.mqtt_world_laws.specs.delivery.Alone.{HaveSentNothing}
use Rattle.mqtt_world_laws.specs.delivery.Alone as alone
use Rattle.mqtt_world_laws.specs.delivery.Standing.{line_like, packet_like}
use Rattle.mqtt_world_laws.proofs.delivery_lemmas.own.Fronts.{Awaits}
use Rattle.mqtt_world_laws.proofs.delivery_lemmas.others.Like.{connect_like}

-- ---- after it

-- the session and the line are the receiver's own
pub greeted_owns : (largest : ℕ) (ids : List CopyId) (birth : ℕ) (ns : List ℕ) (n window : ℕ) (r : Receiver) (b : Broker) → IsInStep largest ids birth ns r b → AllDiffer ids → IsInOrder b → HasGreeted n birth window b
    → Own r.client birth n b
greeted_owns largest ids birth ns n window r b k differ order h =
    let x = k.runs (place_of ids) (places_number ids differ) in
    let s = x.session in
    let l = h.line in
    let ours : IsOurs r.client birth s = all_at birth_of (IsOurs r.client birth) s.birth s b.records.sessions k.served.sessions x.receiving.session in
    let only = all_more (IsOurs r.client birth) (IsIts r.client birth) b.records.sessions (λ y p. p.named) k.served.sessions in
    let at : face_at birth b.records ≡ Some (face s) = ap (λ (j : ℕ). face_at j b.records) (sym x.birth_is) ∙ ap (option_map face) x.receiving.session in
    let found : line_at l.number b ≡ Some l = ap (λ (m : ℕ). line_at m b) h.greeted.number ∙ h.at in
    let quiet = subst (λ (m : ℕ). NoneKeptAlive m b.lines) h.greeted.number (found_alone l b.lines order.lines.ascending found h.greeted.quiet) in
    owned r.client birth n (face s) b order only at x.receiving.client (ours.no_will x.birth_is) (ours.no_end x.birth_is) (ap (option_map (λ (y : BrokerLine). y.session)) h.at ∙ ap Some h.greeted.connected) quiet

-- ---- the lines before it

-- nothing went out on a line that waits
idle_went : (l : BrokerLine) (b : Broker) → line_at l.number b ≡ Some l → l.session ≡ None → HaveSentNothing b → l.went ≡ []
idle_went l b at waits none = (all_find alone.IsUnused (λ (x : BrokerLine). nat_eq x.number l.number) l b.lines none at).0 waits

-- nobody has the birth to come
pub unused_next : (b : Broker) → HasUniqueLines b → HasGivenBirths b.records → AllByRecursion (IsUnused (suc b.records.births)) b.lines
unused_next b unique births = all_more (λ (l : BrokerLine). row_at line_number l.number b.lines ≡ Some l) (IsUnused (suc b.records.births)) b.lines each (all_found line_number b.lines unique.ascending)
  where
    rows : (n : ℕ) (ls : List BrokerLine) → find (λ (l : BrokerLine). nat_eq l.number n) ls ≡ row_at line_number n ls
    rows n [] = refl
    rows n (l ∷ ls) = elim (cases_Bool (nat_eq l.number n)) [ inl here ↦ rw here refl | inr further ↦ rw further (rows n ls) ]

    by : (o : Option ℕ) (l : BrokerLine) → l.session ≡ o → line_at l.number b ≡ Some l → is_of o (suc b.records.births) ≡ false
    by None l e at = refl
    by (Some k) l e at = elim (cases_Bool (nat_eq k (suc b.records.births))) [
      | inr other ↦ other
      | inl same ↦
          let closed_is = unique.stands l.number k (ap (option_map (λ (y : BrokerLine). y.session)) at ∙ ap Some e) in
          let none : session_at k b.records ≡ None = ap (λ (j : ℕ). session_at j b.records) (eqb-true k (suc b.records.births) same) ∙ below_none birth_of (suc b.records.births) b.records.sessions births in
          let clash : None ≡ Some None = sym (ap (option_map (λ (s : Session). s.closed)) none) ∙ closed_is in
          absurd cc
    ]

    each : (l : BrokerLine) → row_at line_number l.number b.lines ≡ Some l → IsUnused (suc b.records.births) l
    each l at = by l.session l refl (rows l.number b.lines ∙ at)

-- its session is on none but the line that it is taken from
alone_left : (client : List ℕ) (birth k : ℕ) (b : Broker) → Own client birth k b → AllByRecursion (IsOnlyAt (lines_left (line_of birth b)) birth) b.lines
alone_left client birth k b own = by (line_of birth b) refl
  where
    none_of : (ls : List BrokerLine) → find (λ (x : BrokerLine). is_of x.session birth) ls ≡ None → AllByRecursion (IsOnlyAt [] birth) ls
    none_of [] e = tt
    none_of (l ∷ ls) e = elim (cases_Bool (is_of l.session birth)) [
      | inl its ↦ let clash : Some l ≡ None = rw its at e in absurd cc
      | inr other ↦ (
        (λ on. let yes : is_of l.session birth ≡ true = ap (λ (o : Option ℕ). is_of o birth) on ∙ nat_eq_equiv.refl birth in let clash : true ≡ false = sym yes ∙ other in absurd cc),
        none_of ls (rw other at e),
      )
    ]

    its_session : (x : Option ℕ) → is_of x birth ≡ true → x ≡ Some birth
    its_session None e = absurd cc
    its_session (Some j) e = ap Some (eqb-true j birth e)

    by : (o : Option BrokerLine) → line_of birth b ≡ o → AllByRecursion (IsOnlyAt (lines_left o) birth) b.lines
    by None e = none_of b.lines e
    by (Some x) e =
        let both = all_find (IsOurLine birth k) (λ (y : BrokerLine). is_of y.session birth) x b.lines own.lines e in
        let number : x.number ≡ k = both.0.alone (its_session x.session both.1) in
        all_more (IsOurLine birth k) (IsOnlyAt (x.number ∷ []) birth) b.lines
        (λ l its on. let same : nat_eq x.number l.number ≡ true = ap (nat_eq x.number) (its.alone on ∙ sym number) ∙ nat_eq_equiv.refl x.number in rw same refl) own.lines

-- its own line is linked exactly if the session would be taken from it
pub linked_left : (client : List ℕ) (birth k : ℕ) (r : Receiver) (b : Broker) → Own client birth k b → Present (Some birth) k (line_like r.line) b → is_linked r.line.number b ≡ is_one_of r.line.number (lines_left (line_of birth b))
linked_left client birth k r b own (absent none up) =
    ap (λ (x : Option ℕ). is_linked x b) none ∙ sym (ap (λ (x : Option ℕ). is_one_of x (lines_left (line_of birth b))) none)
linked_left client birth k r b own (waiting n clean is link_is clean_is up down idle there) =
    ap (λ (x : Option ℕ). is_linked x b) is ∙ (idle_linked n b idle ∙ (sym (left_idle birth n b idle) ∙ sym (ap (λ (x : Option ℕ). is_one_of x (lines_left (line_of birth b))) is)))
linked_left client birth k r b own (closed n is up idle none) =
    ap (λ (x : Option ℕ). is_linked x b) is ∙ (idle_linked n b idle ∙ (sym (left_idle birth n b idle) ∙ sym (ap (λ (x : Option ℕ). is_one_of x (lines_left (line_of birth b))) is)))
linked_left client birth k r b own (joined it of is there) =
    let same : it ≡ birth = cc in
    let on = there ∙ ap (λ (n : ℕ). Some (Some n)) same in
    ap (λ (x : Option ℕ). is_linked x b) is ∙ (linked_is k b ∙ (ap linked_of on ∙ (sym (left_own client birth k b own on) ∙ sym (ap (λ (x : Option ℕ). is_one_of x (lines_left (line_of birth b))) is))))

-- ---- what is under way on the line that it gave up

none_like : (xs : List Back) → map packet_like xs ≡ [] → xs ≡ []
none_like [] e = refl
none_like (x ∷ xs) e = absurd cc

spared_calm : (xs : List Back) → AllByRecursion IsNoConnect (map packet_like xs) → spared (filter_map answered xs) ≡ []
spared_calm [] h = refl
spared_calm (asks_for w ∷ xs) h = spared_calm xs h.1
spared_calm (answers (connect clean) ∷ xs) h = absurd h.0
spared_calm (answers (puback i code) ∷ xs) h = refl
spared_calm (answers (pubrec i code) ∷ xs) h = refl
spared_calm (answers (pubcomp i code) ∷ xs) h = refl

closed_none : (t : Bool) → filter_map answered (unless_closed t []) ≡ []
closed_none true = refl
closed_none false = refl

-- a CONNECT is spared, and nothing else, if the session is taken from its line
pub spared_left : (client : List ℕ) (birth k : ℕ) (r : Receiver) (b : Broker) → Own client birth k b → Former (Some birth) k (line_like r.line) b
    → filter_map answered (unless_closed (is_one_of r.line.old_number (lines_left (line_of birth b))) r.line.old) ≡ spared (filter_map answered r.line.old)
spared_left client birth k r b own (over none) =
    let empty = none_like r.line.old none in
    let t = is_one_of r.line.old_number (lines_left (line_of birth b)) in
    ap (λ (xs : List Back). filter_map answered (unless_closed t xs)) empty ∙ (closed_none t ∙ sym (ap (λ (xs : List Back). spared (filter_map answered xs)) empty))
spared_left client birth k r b own (late m is old idle there) =
    let alone_is = connect_like false r.line.old old in
    ap (λ (x : Option ℕ). filter_map answered (unless_closed (is_one_of x (lines_left (line_of birth b))) r.line.old)) is
    ∙ (ap (λ (t : Bool). filter_map answered (unless_closed t r.line.old)) (left_idle birth m b idle)
    ∙ (ap (filter_map answered) alone_is ∙ sym (ap (λ (xs : List Back). spared (filter_map answered xs)) alone_is)))
spared_left client birth k r b own (lingers it of is calm there) =
    let same : it ≡ birth = cc in
    ap (λ (x : Option ℕ). filter_map answered (unless_closed (is_one_of x (lines_left (line_of birth b))) r.line.old)) is
    ∙ (ap (λ (t : Bool). filter_map answered (unless_closed t r.line.old)) (left_own client birth k b own (there ∙ ap (λ (n : ℕ). Some (Some n)) same))
    ∙ sym (spared_calm r.line.old calm))

-- a line without a session spares all
pub spared_none : (k : ℕ) (r : Receiver) (b : Broker) → Former None k (line_like r.line) b → filter_map answered r.line.old ≡ spared (filter_map answered r.line.old)
spared_none k r b (over none) = let empty = none_like r.line.old none in ap (filter_map answered) empty ∙ sym (ap (λ (xs : List Back). spared (filter_map answered xs)) empty)
spared_none k r b (late m is old idle there) = let alone_is = connect_like false r.line.old old in ap (filter_map answered) alone_is ∙ sym (ap (λ (xs : List Back). spared (filter_map answered xs)) alone_is)
spared_none k r b (lingers birth of is calm there) = absurd cc

-- ---- what the broker may make of the CONNECT, on whichever line it comes

-- a receiver's first CONNECT may begin a session
pub may_begin : (limits : Capacity) (r : Receiver) (l : BrokerLine) (b : Broker) → AreWithin limits → IsSteady b → HaveSentNothing b → IsNamed r.client → Awaits r.line.number l b → session_named r.client b.records ≡ None
    → filter_map answered r.line.old ≡ spared (filter_map answered r.line.old) → IsBeginning limits r l b
may_begin limits r l b within steady unsent named here none old = record {
  number = here.number;
  line = here.line;
  waits = here.waits;
  fresh = idle_went l b here.line here.waits unsent;
  none = none;
  births = steady.coherent.births;
  unused = unused_next b steady.lines steady.coherent.births;
  within = within.sessions;
  some = named.some;
  short = named.short;
  plain = named.plain;
  old = old;
}

-- its session has a place, so another may begin instead of it
pub may_renew : (limits : Capacity) (r : Receiver) (l : BrokerLine) (s : Session) (b : Broker) → AreWithin limits → IsSteady b → HasPlace limits r.client b.records → IsNamed r.client → IsResuming r l s b → IsRenewing limits r l s b
may_renew limits r l s b within steady place named a = record {
  resuming = a;
  births = steady.coherent.births;
  unused = unused_next b steady.lines steady.coherent.births;
  within = within.sessions;
  room = place (ap is_some (named_is r.client s.birth b.records s a.kept.only a.kept.session a.kept.name));
  some = named.some;
}

-- a later one may resume it
pub may_resume : (k : ℕ) (r : Receiver) (l : BrokerLine) (s : Session) (b : Broker) → HaveSentNothing b → Awaits r.line.number l b → IsKept r.client s b → Own r.client s.birth k b
    → filter_map answered (unless_closed (is_one_of r.line.old_number (lines_left (line_of s.birth b))) r.line.old) ≡ spared (filter_map answered r.line.old) → IsResuming r l s b
may_resume k r l s b unsent here kept own old = record {
  number = here.number;
  line = here.line;
  waits = here.waits;
  fresh = idle_went l b here.line here.waits unsent;
  kept = kept;
  taken = taken_of r.client s.birth k l.number b own here.idle;
  alone = alone_left r.client s.birth k b own;
  old = old;
}
