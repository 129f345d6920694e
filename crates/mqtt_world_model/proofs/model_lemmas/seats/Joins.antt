-- A publisher joins by a new line: it is that event of its hop.
use Rattle.std.proofs.Common.{◌≡◌, ℕ, suc, Bool, true, false, cond, ◌||◌, List, [], ◌∷◌, ◌++◌, Option, Some, None, nat_eq, refl, sym, ap, ◌∙◌, arith}
use Rattle.std.specs.Prelude.{find, filter_map, is_some}
use Rattle.std.proofs.lemmas.Cmp.{nat_eq_equiv}
use Rattle.mqtt_records.specs.lists.Order.{IsBelow}
use Rattle.mqtt_records.proofs.lists_lemmas.OrderLemmas.{apart}
use Rattle.mqtt_flow.specs.inbound.Line.{Link, away, asked}
use Rattle.mqtt_flow.specs.inbound.Publisher.{CONNECT}
use Rattle.mqtt_flow.specs.inbound.InboundWorld.{connect, on_join, step}
use Rattle.mqtt_rules.specs.declared.step.Capacity.{Capacity}
use Rattle.mqtt_rules.specs.step.State.{Line as BrokerLine, Broker, MemberChoice, session_named}
use Rattle.mqtt_rules.specs.step.Deeds.{Link as Linked, fresh_line, after}
use Rattle.mqtt_rules.specs.step.Lines.{line_number}
use Rattle.mqtt_rules.specs.step.Step.{NewLine, can_link, at_moment, done, stepped, Outcome, outcome_of, nothing_told, told}
use Rattle.mqtt_world_model.specs.model.Lines.{is_one_of, unless_closed}
use Rattle.mqtt_world_model.specs.model.Ends.{Publisher}
use Rattle.mqtt_world_model.specs.model.Seen.{qos_of_draft, shaken, is_linked, has_session, open_in, seen}
use Rattle.mqtt_world_model.specs.model.Hops.{joined_by, MayJoin}

-- the broker after it: a line is given, and nothing is told
pub new_is : (limits : Capacity) (choice : MemberChoice) (now : ℕ) (b : Broker) → can_link limits b ≡ true → stepped limits choice now NewLine b ≡ after (Linked (suc b.given)) (at_moment now b)
new_is limits choice now b can = ap (λ (t : Bool). done (cond t (Linked (suc b.given) ∷ []) []) (at_moment now b)) can

-- a new line tells nothing
pub told_none : (limits : Capacity) (choice : MemberChoice) (now : ℕ) (b : Broker) → can_link limits b ≡ true → told limits choice now NewLine b ≡ nothing_told
told_none limits choice now b can = ap (λ (t : Bool). outcome_of NewLine (cond t (Linked (suc b.given) ∷ []) []) (at_moment now b)) can

-- nobody is connected on a line that was just given
pub fresh_free : (n now : ℕ) (ls : List BrokerLine) → IsBelow line_number n ls → has_session (find (λ (l : BrokerLine). nat_eq l.number n) (ls ++ fresh_line n now ∷ [])) ≡ false
fresh_free n now [] low = rw (nat_eq_equiv.refl n) refl
fresh_free n now (l ∷ ls) low =
    let less = low.0 in
    rw (apart l.number n (λ same. omega (arith, same, less))) (fresh_free n now ls low.1)

-- no line is among none
pub none_closed : (o : Option ℕ) → is_one_of o [] ≡ false
none_closed None = refl
none_closed (Some n) = refl

-- what holds before holds behind
pub carries : (old new : Bool) → (old ≡ true → new ≡ true) → new ≡ (old || new)
carries true new h = h refl
carries false new h = refl

-- a publisher's joining a new line is a CONNECT of the hop
pub join_is_hop : (limits : Capacity) (choice : MemberChoice) (now : ℕ) (clean : Bool) (p : Publisher) (b : Broker) (accepted : List ℕ) → MayJoin limits clean p b
    → seen accepted (joined_by limits choice now clean p b) (stepped limits choice now NewLine b) ≡ step (seen accepted p b) (connect clean)
join_is_hop limits choice now clean p b accepted may =
    let new = stepped limits choice now NewLine b in
    let is = new_is limits choice now b may.can in
    let linked : is_linked (Some (suc b.given)) new ≡ false = ap (is_linked (Some (suc b.given))) is ∙ fresh_free (suc b.given) (at_moment now b).now b.lines may.given in
    let olds : filter_map shaken (unless_closed (is_one_of p.line.old_number (told limits choice now NewLine b).closed) p.line.old) ≡ filter_map shaken p.line.old =
    ap (λ (out : Outcome). filter_map shaken (unless_closed (is_one_of p.line.old_number out.closed) p.line.old)) (told_none limits choice now b may.can)
    ∙ ap (λ (t : Bool). filter_map shaken (unless_closed t p.line.old)) (none_closed p.line.old_number) in
    let stands : is_some (session_named p.client new.records) ≡ is_some (session_named p.client b.records) = ap (λ (x : Broker). is_some (session_named p.client x.records)) is in
    let ids : open_in (session_named p.client new.records) ≡ open_in (session_named p.client b.records) = ap (λ (x : Broker). open_in (session_named p.client x.records)) is in
    let cleans : clean ≡ (p.line.clean || clean) = carries p.line.clean clean may.carried in
    let w = seen accepted p b in
    let same : seen accepted (joined_by limits choice now clean p b) new ≡ on_join away clean w =
    λ i. record {
      fates = p.fates;
      unsent = filter_map qos_of_draft p.unsent;
      link = asked;
      clean = cleans i;
      linked = linked i;
      up = CONNECT (cleans i) ∷ [];
      down = [];
      old = olds i;
      stands = stands i;
      ids = ids i;
      accepted = accepted;
    } in
    same ∙ ap (λ (k : Link). on_join k clean w) (sym may.away)
