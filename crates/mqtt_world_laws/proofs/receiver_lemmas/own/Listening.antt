-- A receiver that is in step is listening if its line, or the one that it gave up, is connected at the broker.
use Rattle.std.proofs.Common.{◌≡◌, ℕ, true, false, List, [], ◌∷◌, Option, Some, None, nat_eq, refl, sym, ap, subst, ◌∙◌, inl, inr}
use Rattle.std.specs.Prelude.{find, option_map}
use Rattle.std.specs.List.{AllByRecursion}
use Rattle.std.proofs.lemmas.Bool.{cases_Bool, eqb-true}
use Rattle.std.proofs.lemmas.Cmp.{nat_eq_equiv}
use Rattle.mqtt_base.specs.declared.session.CopyId.{CopyId}
use Rattle.mqtt_world_model.specs.model.Ends.{Receiver}
use Rattle.mqtt_world_model.specs.model.Hops.{IsIts, IsOnly, IsOurs}
use Rattle.mqtt_world_model.specs.model.Lines.{is_one_of}
use Rattle.mqtt_world_model.proofs.model_lemmas.others.Lists.{all_find}
use Rattle.mqtt_records.specs.state.Session.{birth_of}
use Rattle.mqtt_records.specs.declared.state.session.Session.{Session}
use Rattle.mqtt_rules.proofs.step_lemmas.flight.FlightRows.{all_at, all_found, all_more, found_key}
use Rattle.mqtt_rules.proofs.step_lemmas.lines.LineRows.{among_is}
use Rattle.mqtt_rules.specs.step.Laws.{HasTables, IsOrdered}
use Rattle.mqtt_rules.specs.step.Lines.{HasUniqueLines, line_number, session_on}
use Rattle.mqtt_rules.specs.step.State.{Line as BrokerLine, Broker, is_of, line_at, session_at}
use Rattle.mqtt_records.specs.lists.Order.{row_at}
use Rattle.mqtt_world_laws.specs.receiver.Calls.{turned_back}
use Rattle.mqtt_world_laws.specs.receiver.Handing.{IsAloneOn}
use Rattle.mqtt_world_laws.specs.receiver.Own.{IsInStep, Listens}
use Rattle.mqtt_world_laws.specs.receiver.Served.{IsOwnLine, IsServed}
use Rattle.mqtt_world_laws.proofs.receiver_lemmas.queue.Pumps.{its_session}

-- it is the first line of the session, as no other has it
first_of : (birth : ℕ) (l : BrokerLine) (ls : List BrokerLine) → AllByRecursion (IsAloneOn birth l.number) ls → find (λ (x : BrokerLine). nat_eq x.number l.number) ls ≡ Some l → l.session ≡ Some birth
    → find (λ (x : BrokerLine). is_of x.session birth) ls ≡ Some l
first_of birth l [] alone at on = absurd cc
first_of birth l (x ∷ xs) alone at on = elim (cases_Bool (nat_eq x.number l.number)) [
  | inl here ↦
      let it : Some x ≡ Some l = rw here at at in
      let is : x ≡ l = cc in
      let its : is_of x.session birth ≡ true = ap (λ (y : BrokerLine). is_of y.session birth) is ∙ (ap (λ (o : Option ℕ). is_of o birth) on ∙ nat_eq_equiv.refl birth) in
      rw its it
  | inr further ↦ elim (cases_Bool (is_of x.session birth)) [
    | inl its ↦
        let same : x.number ≡ l.number = alone.0 (its_session x.session birth its) in
        let clash : true ≡ false = sym (ap (λ (k : ℕ). nat_eq k l.number) same ∙ nat_eq_equiv.refl l.number) ∙ further in
        absurd cc
    | inr other ↦ rw other (first_of birth l xs alone.1 (rw further at at) on)
  ]
]

session_there : (o : Option Session) → option_map (λ (s : Session). s.closed) o ≡ Some None → (s : Session) × (o ≡ Some s)
session_there None e = absurd cc
session_there (Some s) e = (s, refl)

listens_on : (birth : ℕ) (ns : List ℕ) (n other : ℕ) (r : Receiver) (l : BrokerLine) (b : Broker) → IsServed r.client birth ns b → HasUniqueLines b → IsOrdered b.records
    → r.line.number ≡ Some n → is_one_of (Some n) ns ≡ true → line_at n b ≡ Some l → l.session ≡ Some other → is_one_of r.line.old_number (n ∷ []) ≡ false → Listens r l birth b
listens_on birth ns n other r l b v unique ordered number inside at on apart =
    let both = all_find (IsOwnLine ns birth) (λ (x : BrokerLine). nat_eq x.number n) l b.lines v.lines at in
    let is : l.number ≡ n = eqb-true l.number n both.1 in
    let mine : other ≡ birth = both.0.theirs (ap (λ (k : ℕ). is_one_of (Some k) ns) is ∙ inside) other on in
    let here : session_on n b ≡ Some (Some birth) = ap (option_map (λ (x : BrokerLine). x.session)) at ∙ ap Some (on ∙ ap Some mine) in
    let found = session_there (session_at birth b.records) (unique.stands n birth here) in
    let s = found.0 in
    let its : s.birth ≡ birth = found_key birth_of birth s b.records.sessions found.1 in
    let ours = all_at birth_of (IsOurs r.client birth) birth s b.records.sessions v.sessions found.1 in
    let connected : l.session ≡ Some s.birth = on ∙ ap Some (mine ∙ sym its) in
    let line : line_at l.number b ≡ Some l = ap (λ (k : ℕ). line_at k b) is ∙ at in
    let alone : AllByRecursion (IsAloneOn s.birth l.number) b.lines =
    all_more (λ (x : BrokerLine). row_at line_number (line_number x) b.lines ≡ Some x) (IsAloneOn s.birth l.number) b.lines
    (λ x f e. unique.once x.number n birth (among_is x.number b ∙ (ap (option_map (λ (y : BrokerLine). y.session)) f ∙ ap Some (e ∙ ap Some its))) here ∙ sym is)
    (all_found line_number b.lines unique.ascending) in
    let only : IsOnly r.client birth b.records = all_more (IsOurs r.client birth) (IsIts r.client birth) b.records.sessions (λ x p. p.named) v.sessions in
    record {
      session = s;
      birth_is = its;
      listening = record {
        number = number ∙ ap Some (sym is);
        line = line;
        connected = connected;
        its_line = first_of s.birth l b.lines alone line connected;
        alone = alone;
        session = ap (λ (k : ℕ). session_at k b.records) its ∙ found.1;
        client = ours.name its;
        only = subst (λ (k : ℕ). IsOnly r.client k b.records) (sym its) only;
        no_will = ours.no_will its;
        no_end = ours.no_end its;
        places = (all_at birth_of HasTables birth s b.records.sessions ordered.each found.1).queue.ascending;
        apart = ap (λ (k : ℕ). is_one_of r.line.old_number (k ∷ [])) is ∙ apart;
      };
    }

-- a receiver on whose line its session stands, and that is in step, listens
pub listens_in_step : (largest : ℕ) (ids : List CopyId) (birth : ℕ) (ns : List ℕ) (n other : ℕ) (r : Receiver) (l : BrokerLine) (b : Broker) → IsInStep largest ids birth ns r b → HasUniqueLines b → IsOrdered b.records
    → r.line.number ≡ Some n → line_at n b ≡ Some l → l.session ≡ Some other → is_one_of r.line.old_number (n ∷ []) ≡ false → Listens r l birth b
listens_in_step largest ids birth ns n other r l b k unique ordered number at on apart =
    listens_on birth ns n other r l b k.served unique ordered number (k.lines.own n number) at on apart

-- one with an old line lingers there
pub lingers_in_step : (largest : ℕ) (ids : List CopyId) (birth : ℕ) (ns : List ℕ) (n other : ℕ) (r : Receiver) (l : BrokerLine) (b : Broker) → IsInStep largest ids birth ns r b → HasUniqueLines b → IsOrdered b.records
    → r.line.old_number ≡ Some n → line_at n b ≡ Some l → l.session ≡ Some other → is_one_of r.line.number (n ∷ []) ≡ false → Listens (turned_back r) l birth b
lingers_in_step largest ids birth ns n other r l b k unique ordered number at on apart =
    listens_on birth ns n other (turned_back r) l b k.served unique ordered number (k.lines.old n number) at on apart
