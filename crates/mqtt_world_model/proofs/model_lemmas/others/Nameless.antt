-- While no session of a client stands, a step that brings no CONNECT of this client begins none.
use Rattle.std.proofs.Common.{◌≡◌, ℕ, true, false, List, [], ◌∷◌, ◌++◌, None, nat_eq, bytes_eq, refl, sym, ap, ◌∙◌, arith, inl, inr}
use Rattle.std.specs.Prelude.{⊤, suc, find, decimal}
use Rattle.std.specs.List.{AllByRecursion, starts_with}
use Rattle.std.proofs.lemmas.Bool.{cases_Bool}
use Rattle.std.proofs.lemmas.Slice.Eq.{bytes_eq-Decides}
use Rattle.mqtt_records.specs.declared.state.session.Session.{Session}
use Rattle.mqtt_rules.specs.step.State.{Broker, Env, session_named}
use Rattle.mqtt_rules.specs.step.Deeds.{Deed, Accept, Begin, Name, Count, At, Finish, Keep, Forget, RefuseWill, Link, On, Send, Gone, after, after_all}
use Rattle.mqtt_rules.specs.step.Step.{Call, NewLine, Input, BadInput, Lost, Pump, Tick, deeds_of}
use Rattle.mqtt_rules.proofs.step_lemmas.acts.Goods.{AreGood}
use Rattle.mqtt_rules.proofs.step_lemmas.acts.Acts.{About as Whom, Law, IsCallOf, leads_call}
use Rattle.mqtt_rules.proofs.step_lemmas.acts.ByDeeds.{DeedLaw, by_deeds, turn_law}
use Rattle.mqtt_world_model.specs.model.Hops.{IsIts, IsOthers}
use Rattle.mqtt_world_model.proofs.model_lemmas.others.Names.{BeginNone, only_deeds}
use Rattle.mqtt_world_model.proofs.model_lemmas.connects.FirstConnects.{only_none}
use Rattle.mqtt_records.specs.state.Session.{auto}

-- ---- no session of this client

abbrev pub IsStranger : List ℕ → Deed → Type 0
IsStranger client (Begin row will) = row.client ≡ client → ⊥
IsStranger client d = ⊤

abbrev pub AreStrangers : List ℕ → List Deed → Type 0
AreStrangers client [] = ⊤
AreStrangers client (d ∷ ds) = IsStranger client d × AreStrangers client ds

none_of : (client : List ℕ) (birth : ℕ) (d : Deed) → IsStranger client d → BeginNone client birth (d ∷ [])
none_of client birth (Begin row will) q = ((λ e. absurd (q e)), tt)
none_of client birth (Accept number origin m) q = (tt, tt)
none_of client birth (Name k) q = (tt, tt)
none_of client birth (Count k) q = (tt, tt)
none_of client birth (At who part) q = (tt, tt)
none_of client birth (Finish who) q = (tt, tt)
none_of client birth (Keep kept) q = (tt, tt)
none_of client birth (Forget place) q = (tt, tt)
none_of client birth (RefuseWill who) q = (tt, tt)
none_of client birth (Link m) q = (tt, tt)
none_of client birth (On m part) q = (tt, tt)
none_of client birth (Send m packet) q = (tt, tt)
none_of client birth (Gone m) q = (tt, tt)

begin_none : (client : List ℕ) (birth : ℕ) (ds : List Deed) → AreStrangers client ds → BeginNone client birth ds
begin_none client birth [] q = tt
begin_none client birth (d ∷ ds) q = ((none_of client birth d q.0).0, begin_none client birth ds q.1)

-- one that had two births had none
not_both : (client : List ℕ) (ss : List Session) → AllByRecursion (IsIts client 0) ss → AllByRecursion (IsIts client 1) ss → find (λ (x : Session). bytes_eq x.client client) ss ≡ None
not_both client [] h g = refl
not_both client (x ∷ xs) h g = elim (cases_Bool (bytes_eq x.client client)) [
  | inl its ↦
      let is = (bytes_eq-Decides x.client client).0 its in
      let none = h.0 is in
      let one = g.0 is in
      absurd (omega (arith, none, one))
  | inr other ↦ rw other (not_both client xs h.1 g.1)
]

-- what strangers to a name do begins no session of it
pub still_none : (client : List ℕ) (ds : List Deed) (b : Broker) → AreStrangers client ds → session_named client b.records ≡ None → session_named client (after_all ds b).records ≡ None
still_none client ds b q none =
    not_both client (after_all ds b).records.sessions
    (only_deeds client 0 ds b (begin_none client 0 ds q) (only_none client 0 b.records.sessions none))
    (only_deeds client 1 ds b (begin_none client 1 ds q) (only_none client 1 b.records.sessions none))

-- ---- the law of the induction

module _ (client : List ℕ) where
  abbrev others : Whom
  others = record {
    line = λ l. ⊤;
    number = λ m. ⊤;
    session = λ k. ⊤;
    client = λ its b. its ≡ client → ⊥;
    packet = λ packet. IsOthers client packet;
    message = λ m. ⊤;
  }

  abbrev Any : Broker → Type 0
  Any b = ⊤

  abbrev IsGood : Deed → Broker → Type 0
  IsGood d b = IsStranger client d

  assigned_other : (number : ℕ) → starts_with nat_eq client auto ≡ false → auto ++ decimal number ≡ client → ⊥
  assigned_other number h e =
      let yes : starts_with nat_eq (auto ++ decimal number) auto ≡ true = refl in
      let no : starts_with nat_eq (auto ++ decimal number) auto ≡ false = ap (λ (xs : List ℕ). starts_with nat_eq xs auto) e ∙ h in
      let never_is : true ≡ false = sym yes ∙ no in
      absurd cc

  stranger_law : (env : Env) → starts_with nat_eq client auto ≡ false → DeedLaw env others Any IsGood
  stranger_law env plain = record {
    finds = record {
      its_number = λ l its. tt;
      its_session = λ l k its e. tt;
      its_line = λ k l b h its e. tt;
      named = λ its s b h q e. tt;
      admitted = λ c b h came e. came;
      sent = λ l s p topic b h its came e. tt;
      willed = λ s w b h among e. tt;
    };
    client_stays = λ its d b h g q. q;
    kept = λ d b h g. tt;
    accept = λ origin m b h said. tt;
    keep = λ m b h said retain empty found. tt;
    forget = λ place b h. tt;
    enter = λ who copy b h made. tt;
    leave = λ who e ending b h. tt;
    refuse_will = λ who b h its. tt;
    open_id = λ s id m ds b h k its there new is. tt;
    alone = λ who part b h its is. tt;
    close = λ who b h its. tt;
    finish = λ who b h its. tt;
    resume = λ who expiry will b h its. tt;
    name = λ b h. tt;
    begin_given = λ c b h came taken its none room. its;
    begin_assigned = λ c b h k came taken room. assigned_other (suc b.records.autos) plain;
    count = λ b h. tt;
    subscribe = λ w s b h k its granted. tt;
    link = λ b h. tt;
    on_line = λ line part b h. tt;
    send = λ line packet b h. tt;
    gone = λ line b h. tt;
  }

  the_law : (env : Env) → starts_with nat_eq client auto ≡ false → Law env others Any IsGood
  the_law env plain = by_deeds env others Any IsGood (stranger_law env plain) (turn_law env others Any IsGood (stranger_law env plain) (λ who place phase b h. tt))

  strangers_of : (ds : List Deed) (b : Broker) → AreGood IsGood ds b → AreStrangers client ds
  strangers_of [] b q = tt
  strangers_of (d ∷ ds) b q = (q.0, strangers_of ds (after d b) q.1)

  -- each call but a CONNECT of this client
  abbrev pub IsOfOthers : Call → Type 0
  IsOfOthers (Input m packet) = IsOthers client packet
  IsOfOthers call = ⊤

  its_call : (call : Call) (b : Broker) → IsOfOthers call → IsCallOf others call b
  its_call NewLine b q = tt
  its_call (Input m packet) b q = ((λ l e. tt), q)
  its_call (BadInput m is_connect code) b q = λ l e. tt
  its_call (Lost m) b q = λ l e. tt
  its_call (Pump m) b q = λ l e. tt
  its_call Tick b q = record { silent = λ l e. tt; wills = λ s e. tt; ends = λ s e. tt }

  -- a call that is no CONNECT of this client begins no session of it
  pub strangers_call : (env : Env) (call : Call) (b : Broker) → starts_with nat_eq client auto ≡ false → IsOfOthers call → AreStrangers client (deeds_of env call b)
  strangers_call env call b plain q =
      strangers_of (deeds_of env call b) b (leads_call env others Any IsGood (the_law env plain) call b tt (its_call call b q)).0
