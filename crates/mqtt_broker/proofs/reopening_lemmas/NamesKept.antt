-- Client identifiers stay such as sessions may have, deed by deed and over a step.
use Rattle.std.proofs.Common.{◌≡◌, ℕ, suc, ◌≤◌, Bool, true, false, cond, ◌&&◌, List, [], ◌∷◌, ◌++◌, length, Option, Some, None, refl, sym, ap, ◌∙◌, arith}
use Rattle.std.specs.Prelude.{⊤, decimal, is_none, nat_eq, nat_lt, bytes_eq}
use Rattle.std.specs.List.{AllByRecursion, starts_with}
use Rattle.std.proofs.lemmas.Bool.{ltb-false}
use Rattle.std.proofs.lemmas.Fmt.{length-decimal-le}
use Rattle.std.proofs.lemmas.List.{length-append}
use Rattle.std.proofs.lemmas.Slice.Eq.{bytes_eq-Decides}
use Rattle.mqtt_base.specs.Codes.{bad_authentication_method, client_identifier_not_valid, packet_too_large, topic_name_invalid}
use Rattle.mqtt_base.specs.declared.limits.TheConstants.{CLIENT_LIMIT, LAST_NUMBER}
use Rattle.mqtt_packet.specs.declared.connect.connect.Connect.{Connect as Greeting}
use Rattle.mqtt_keep.specs.lawful.Lawful.{IsAssigned, IsNumeralUpTo}
use Rattle.mqtt_props.specs.Laws.{has}
use Rattle.mqtt_props.specs.declared.table.PropName.TheVariants.{AuthenticationMethod}
use Rattle.mqtt_records.specs.declared.state.change.Change.{Change}
use Rattle.mqtt_records.specs.declared.state.records.Records.{Records}
use Rattle.mqtt_records.specs.declared.state.session.Session.{Session}
use Rattle.mqtt_records.specs.state.Session.{birth_of, auto}
use Rattle.mqtt_rules.specs.declared.step.Capacity.{Capacity}
use Rattle.mqtt_rules.specs.step.Connect.{has_bad_topic, largest_of, least_packet_size, refusal}
use Rattle.mqtt_rules.specs.step.Deeds.{Whose, Part, Resume, Close, SetExpiry, DropWill, Subscribe, Unsubscribe, Open, Release, Enter, Mark, Leave, Deed, Accept, Begin, Name, Count, At, Finish, Keep, Forget, RefuseWill, Link, On, Send, Gone, after, after_all, rows_of_all}
use Rattle.mqtt_rules.specs.step.State.{Broker, Env, MemberChoice, session_named, stored}
use Rattle.mqtt_rules.specs.step.Step.{Call, at_moment, deeds, env_of, opened, opening, stepped, unopened, with_moment, NewLine, Input, BadInput, Lost, Pump, Tick}
use Rattle.mqtt_rules.proofs.step_lemmas.acts.Acts.{About, Law, anyone, leads_call, leads_opening, IsCallOf}
use Rattle.mqtt_rules.proofs.step_lemmas.acts.ByDeeds.{DeedLaw, MarkLaw, by_deeds, by_deeds_shuts, turn_law}
use Rattle.mqtt_rules.proofs.step_lemmas.numbers.Copies.{each_more}
use Rattle.mqtt_rules.proofs.step_lemmas.fit.FitLaw.{all_among}
use Rattle.mqtt_rules.proofs.step_lemmas.flight.FlightRows.{all_at}
use Rattle.mqtt_rules.proofs.step_lemmas.acts.Leads.{found_among, found_passes}
use Rattle.mqtt_rules.proofs.step_lemmas.acts.Names.{unfront}
use Rattle.mqtt_rules.proofs.step_lemmas.numbers.Counters.{Counts, counts, counts_after, counts_deed}
use Rattle.mqtt_broker.specs.reopening.Names.{AreNamed}
use Rattle.mqtt_broker.proofs.reopening_lemmas.EachSession.{Makes, deed_each, part_made}

-- ---- client identifiers that the broker assigns

abbrev Named : ℕ → Session → Type 0
Named autos s = IsAssigned autos s.client

abbrev IsShort : Session → Type 0
IsShort s = length s.client ≤ CLIENT_LIMIT

assigned_next : (n : ℕ) → IsAssigned (suc n) (auto ++ decimal (suc n))
assigned_next n rest is = (suc n, (omega arith, omega arith), sym (unfront (decimal (suc n)) rest is))

assigned_more : (m n : ℕ) (client : List ℕ) → m ≤ n → IsAssigned m client → IsAssigned n client
assigned_more m n client le h rest is = let x = h rest is in let up = x.1.1 in (x.0, (x.1.0, omega (arith, up, le)), x.2)

assigned_short : (n : ℕ) → n ≤ LAST_NUMBER → length (auto ++ decimal n) ≤ CLIENT_LIMIT
assigned_short n le =
    let few = length-decimal-le 20 n (omega arith) (omega (arith, le)) (omega (arith, le)) in
    let whole = length-append auto (decimal n) in
    let front : length auto ≡ 5 = refl in
    omega (arith, few, whole, front)

-- ---- what a deed brings

abbrev Brings : Deed → Broker → Type 0
Brings (Begin row will) b = IsAssigned b.records.autos row.client × (b.records.autos ≤ LAST_NUMBER → length row.client ≤ CLIENT_LIMIT)
Brings (Name n) b = b.records.autos ≤ n
Brings d b = ⊤

abbrev Keeps : Broker → Type 0
Keeps b = AreNamed b.records

-- what happens to a session leaves its client identifier
same_client : (part : Part) (s t : Session) → (P : List ℕ → Type 0) → P s.client → P t.client → P (part_made part s t).client
same_client (Resume expiry will) s t P p h = p
same_client (Close moment) s t P p h = p
same_client (SetExpiry expiry) s t P p h = p
same_client DropWill s t P p h = h
same_client (Subscribe x) s t P p h = h
same_client (Unsubscribe text) s t P p h = h
same_client (Open id) s t P p h = h
same_client (Release id) s t P p h = h
same_client (Enter copy) s t P p h = h
same_client (Mark place phase) s t P p h = h
same_client (Leave e ending) s t P p h = h

module _ (P : List ℕ → Type 0) where
  abbrev Its : Session → Type 0
  Its s = P s.client

  abbrev Begun : Deed → Type 0
  Begun (Begin row will) = P row.client
  Begun d = ⊤

  makes : (d : Deed) (b : Broker) → Begun d → AllByRecursion Its b.records.sessions → Makes Its Its (λ t h. h) d b
  makes (At who part) b g h = λ s t there same p. same_client part s t P (all_at birth_of Its who.birth s b.records.sessions h there) p
  makes (Begin row will) b g h = record { new = g; again = λ t same p. g; will = λ w t p. p }
  makes (Accept number origin m) b g h = tt
  makes (Name n) b g h = tt
  makes (Count n) b g h = tt
  makes (Finish who) b g h = tt
  makes (Keep kept) b g h = tt
  makes (Forget place) b g h = tt
  makes (RefuseWill who) b g h = tt
  makes (Link n) b g h = tt
  makes (On n part) b g h = tt
  makes (Send n packet) b g h = tt
  makes (Gone n) b g h = tt

  each_client : (d : Deed) (b : Broker) → Begun d → AllByRecursion Its b.records.sessions → AllByRecursion Its (after d b).records.sessions
  each_client d b g h = deed_each Its Its (λ t p. p) d b (makes d b g h) h

begun_assigned : (d : Deed) (b : Broker) → Brings d b → Begun (IsAssigned b.records.autos) d
begun_assigned (Begin row will) b g = g.0
begun_assigned (At who part) b g = tt
begun_assigned (Accept number origin m) b g = tt
begun_assigned (Name n) b g = tt
begun_assigned (Count n) b g = tt
begun_assigned (Finish who) b g = tt
begun_assigned (Keep kept) b g = tt
begun_assigned (Forget place) b g = tt
begun_assigned (RefuseWill who) b g = tt
begun_assigned (Link n) b g = tt
begun_assigned (On n part) b g = tt
begun_assigned (Send n packet) b g = tt
begun_assigned (Gone n) b g = tt

begun_short : (d : Deed) (b : Broker) → Brings d b → b.records.autos ≤ LAST_NUMBER → Begun (λ client. length client ≤ CLIENT_LIMIT) d
begun_short (Begin row will) b g le = g.1 le
begun_short (At who part) b g le = tt
begun_short (Accept number origin m) b g le = tt
begun_short (Name n) b g le = tt
begun_short (Count n) b g le = tt
begun_short (Finish who) b g le = tt
begun_short (Keep kept) b g le = tt
begun_short (Forget place) b g le = tt
begun_short (RefuseWill who) b g le = tt
begun_short (Link n) b g le = tt
begun_short (On n part) b g le = tt
begun_short (Send n packet) b g le = tt
begun_short (Gone n) b g le = tt

autos_grow : (d : Deed) (b : Broker) → Brings d b → b.records.autos ≤ (counts_after d (counts b.records)).autos
autos_grow (Name n) b g = g
autos_grow (Begin row will) b g = omega arith
autos_grow (At who part) b g = omega arith
autos_grow (Accept number origin m) b g = omega arith
autos_grow (Count n) b g = omega arith
autos_grow (Finish who) b g = omega arith
autos_grow (Keep kept) b g = omega arith
autos_grow (Forget place) b g = omega arith
autos_grow (RefuseWill who) b g = omega arith
autos_grow (Link n) b g = omega arith
autos_grow (On n part) b g = omega arith
autos_grow (Send n packet) b g = omega arith
autos_grow (Gone n) b g = omega arith

grown : (d : Deed) (b : Broker) → Brings d b → b.records.autos ≤ (after d b).records.autos
grown d b g =
    let le = autos_grow d b g in
    let same : (after d b).records.autos ≡ (counts_after d (counts b.records)).autos = ap (λ (c : Counts). c.autos) (counts_deed d b.records) in
    omega (arith, le, same)

kept : (d : Deed) (b : Broker) → Keeps b → Brings d b → Keeps (after d b)
kept d b h g =
    let m = b.records.autos in
    let n = (after d b).records.autos in
    let le = grown d b g in
    record {
      assigned = each_more (Named m) (Named n) (λ s p. assigned_more m n s.client le p) (after d b).records.sessions (each_client (IsAssigned m) d b (begun_assigned d b g) h.assigned);
      short = λ few. each_client (λ client. length client ≤ CLIENT_LIMIT) d b (begun_short d b g (omega (arith, few, le))) (h.short (omega (arith, few, le)));
    }

-- ---- whom CONNECT names

abbrev pub named : About
named = record anyone { client = λ client b. IsAssigned b.records.autos client × (length client ≤ CLIENT_LIMIT) }

third_fails : (p q r t : Bool) (k l m n : ℕ) (rest : Option ℕ) → cond p (Some k) (cond q (Some l) (cond r (Some m) (cond t (Some n) rest))) ≡ None → (r ≡ false) × (t ≡ false)
third_fails true q r t k l m n rest e = absurd cc
third_fails false true r t k l m n rest e = absurd cc
third_fails false false true t k l m n rest e = absurd cc
third_fails false false false true k l m n rest e = absurd cc
third_fails false false false false k l m n rest e = (refl, refl)

front_starts : (rest : List ℕ) → starts_with nat_eq (auto ++ rest) auto ≡ true
front_starts rest = refl

admitted_name : (c : Greeting) (b : Broker) → Keeps b → refusal c b.records ≡ None → IsAssigned b.records.autos c.client_identifier × (length c.client_identifier ≤ CLIENT_LIMIT)
admitted_name c b k e =
    let r = b.records in
    let name = c.client_identifier in
    let fails = third_fails (has AuthenticationMethod c.properties) (nat_lt (largest_of c) least_packet_size) (nat_lt CLIENT_LIMIT (length name))
    (starts_with nat_eq name auto && is_none (session_named name r))
    bad_authentication_method packet_too_large client_identifier_not_valid client_identifier_not_valid (cond (has_bad_topic c.will) (Some topic_name_invalid) None) e
    in (
      (λ rest is. given rest is (session_named name r) refl (ap (λ (t : Bool). t && is_none (session_named name r)) (sym (ap (λ (text : List ℕ). starts_with nat_eq text auto) is ∙ front_starts rest)) ∙ fails.1)),
      ltb-false CLIENT_LIMIT (length name) fails.0,
    )
  where
    given : (rest : List ℕ) → c.client_identifier ≡ auto ++ rest → (o : Option Session) → session_named c.client_identifier b.records ≡ o → is_none (session_named c.client_identifier b.records) ≡ false → IsNumeralUpTo b.records.autos rest
    given rest is None none isnt = let yes : true ≡ false = ap is_none (sym none) ∙ isnt in absurd cc
    given rest is (Some s) found isnt =
        let same : s.client ≡ c.client_identifier = (bytes_eq-Decides s.client c.client_identifier).0 (found_passes (λ (x : Session). bytes_eq x.client c.client_identifier) s b.records.sessions found) in
        let its = all_among (Named b.records.autos) s b.records.sessions k.assigned (found_among _ s b.records.sessions found) in
        its rest (same ∙ is)

brings_alone : (who : Whose) (part : Part) (b : Broker) → Brings (At who part) b
brings_alone who part b = tt

names_law : (env : Env) → DeedLaw env named Keeps Brings
names_law env = record {
  finds = record {
    its_number = λ l its. tt;
    its_session = λ l birth its e. tt;
    its_line = λ birth l b k its e. tt;
    named = λ client s b k its e. tt;
    admitted = λ c b k came e. admitted_name c b k e;
    sent = λ l s p topic b k its came e. tt;
    willed = λ s w b k among e. tt;
  };
  client_stays = λ client d b k g its. (assigned_more b.records.autos (after d b).records.autos client (grown d b g) its.0, its.1);
  kept = kept;
  accept = λ origin m b k said. tt;
  keep = λ m b k said is full found. tt;
  forget = λ place b k. tt;
  enter = λ who copy b k made. tt;
  leave = λ who e ending b k. tt;
  refuse_will = λ who b k its. tt;
  open_id = λ s id m ds b k h its there new is. tt;
  alone = λ who part b k its is. brings_alone who part b;
  close = λ who b k its. tt;
  finish = λ who b k its. tt;
  resume = λ who expiry will b k its. tt;
  name = λ b k. omega arith;
  begin_given = λ c b k came taken name is room. (name.0, λ le. name.1);
  begin_assigned = λ c b k h came taken room. (assigned_next b.records.autos, λ le. assigned_short (suc b.records.autos) le);
  count = λ b k. tt;
  subscribe = λ w s b k h its granted. tt;
  link = λ b k. tt;
  on_line = λ line part b k. tt;
  send = λ line packet b k. tt;
  gone = λ line b k. tt;
}

names_mark : MarkLaw Keeps Brings
names_mark who place phase b k = tt

the_law : (env : Env) → Law env named Keeps Brings
the_law env = by_deeds env named Keeps Brings (names_law env) (turn_law env named Keeps Brings (names_law env) names_mark)

call_of_named : (call : Call) (b : Broker) → IsCallOf named call b
call_of_named NewLine b = tt
call_of_named (Input n packet) b = ((λ l e. tt), tt)
call_of_named (BadInput n is_connect code) b = λ l e. tt
call_of_named (Lost n) b = λ l e. tt
call_of_named (Pump n) b = λ l e. tt
call_of_named Tick b = record { silent = λ l e. tt; wills = λ s e. tt; ends = λ s e. tt }

-- ---- a step and an opening

moment_named : (rows : List Change) (b : Broker) → AreNamed b.records → AreNamed (with_moment rows b).records
moment_named [] b h = h
moment_named (row ∷ rows) b h = record { assigned = h.assigned; short = h.short }

-- behind a step each session has a name of its own
pub step_names : (limits : Capacity) (choice : MemberChoice) (now : ℕ) (call : Call) (b : Broker) → AreNamed (stored b) → AreNamed (stored (stepped limits choice now call b))
step_names limits choice now call b h =
    let c = at_moment now b in
    let env = env_of limits choice b in
    let ds = deeds limits choice now call b in
    moment_named (rows_of_all ds c.records) (after_all ds c) (leads_call env named Keeps Brings (the_law env) call c h (call_of_named call c)).1

-- so it has behind an opening
pub opening_names : (limits : Capacity) (choice : MemberChoice) (now : ℕ) (r : Records) → AreNamed r → AreNamed (stored (opened limits choice now r))
opening_names limits choice now r h =
    let b = unopened now r in
    let env = env_of limits choice b in
    let ds = opening env b in
    moment_named (rows_of_all ds b.records) (after_all ds b) (leads_opening env named Keeps Brings (the_law env) (by_deeds_shuts env named Keeps Brings (names_law env) (λ birth. tt)) (λ birth. tt) b h).1
