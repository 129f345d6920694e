-- Where the broker accepts a publication as it opens, no line stands and nobody is connected: so lines are unique (MQTT 5.0, 3.1.2.5, 4.1).
use Rattle.std.proofs.Common.{◌≡◌, ℕ, suc, List, [], ◌∷◌, ◌++◌, map, Some, None, nat_eq, refl, sym, ap, subst, ◌∙◌}
use Rattle.std.specs.Prelude.{option_map, find}
use Rattle.std.specs.List.{AllByRecursion}
use Rattle.mqtt_records.specs.declared.state.session.Session.{Session}
use Rattle.mqtt_records.specs.lists.Order.{IsAscending, IsBelow}
use Rattle.mqtt_rules.specs.step.Deeds.{Leave, Deed, Accept, Begin, Name, At, Link, On, Gone, on_line, without_place, after, after_all}
use Rattle.mqtt_rules.specs.step.Lines.{line_number, session_on, closed_at, HasUniqueLines}
use Rattle.mqtt_rules.specs.step.State.{Line, Broker, Env}
use Rattle.mqtt_rules.specs.step.Step.{connected_in, shuts, shuts_all, settles_all, opening}
use Rattle.mqtt_rules.proofs.step_lemmas.acts.Goods.{AreGood}
use Rattle.mqtt_rules.proofs.step_lemmas.lines.LineRows.{IsStill, leaves}
use Rattle.mqtt_rules.proofs.step_lemmas.lines.LineSteps.{none_connected, still_opening}
use Rattle.mqtt_world_model.specs.model.Run.{acceptances_of}
use Rattle.mqtt_world_laws.proofs.routing_lemmas.LinesStand.{IsUnique}

-- no line stands, and nobody is connected
record IsDeserted (b : Broker) : Type 0 where
  pub lines : b.lines ≡ []
  pub nobody : (k : ℕ) → closed_at k b.records ≡ Some None → ⊥

-- so lines are unique, as there are none
deserted_unique : (b : Broker) → IsDeserted b → HasUniqueLines b
deserted_unique b h = record {
  ascending = subst (IsAscending line_number) (sym h.lines) tt;
  given = subst (IsBelow line_number (suc b.given)) (sym h.lines) tt;
  once = λ n m birth p q. absurd (none_on n birth p);
  stands = λ n birth p. absurd (none_on n birth p);
  connected = λ birth e. absurd (h.nobody birth e);
}
  where
    none_on : (n birth : ℕ) → session_on n b ≡ Some (Some birth) → ⊥
    none_on n birth p =
        let none : session_on n b ≡ None = ap (λ (ls : List Line). option_map (λ (l : Line). l.session) (find (λ (l : Line). nat_eq l.number n) ls)) h.lines in
        let clash : None ≡ Some (Some birth) = sym none ∙ p in
        absurd cc

no_line : (d : Deed) (b : Broker) → IsStill d b → b.lines ≡ [] → (after d b).lines ≡ []
no_line (Begin row will) b q none = absurd q
no_line (Name n) b q none = absurd q
no_line (Link n) b q none = absurd q
no_line (Gone n) b q none = absurd q
no_line (On n part) b q none = ap (on_line b.now n part) none
no_line (At who (Leave e ending)) b q none = ap (map (without_place who.birth e.place)) none
no_line (At who part) b q none = none
no_line d b q none = none

no_lines : (ds : List Deed) (b : Broker) → AreGood IsStill ds b → b.lines ≡ [] → (after_all ds b).lines ≡ []
no_lines [] b q none = none
no_lines (d ∷ ds) b q none = no_lines ds (after d b) q.1 (no_line d b q.0 none)

still_deserted : (d : Deed) (b : Broker) → IsStill d b → IsDeserted b → IsDeserted (after d b)
still_deserted d b q h = record {
  lines = no_line d b q h.lines;
  nobody = λ k e. h.nobody k ((leaves (d ∷ []) b (q, tt)).falls k e);
}

deserted_accepted : (env : Env) (ds : List Deed) (b : Broker) → AreGood IsStill ds b → IsDeserted b → AllByRecursion IsUnique (acceptances_of env ds b)
deserted_accepted env [] b q h = tt
deserted_accepted env (Accept number origin m ∷ ds) b q h =
    let d = Accept number origin m in
    (deserted_unique b h, deserted_accepted env ds (after d b) q.1 (still_deserted d b q.0 h))
deserted_accepted env (d ∷ ds) b q h = deserted_accepted env ds (after d b) q.1 (still_deserted d b q.0 h)

-- closing sessions accepts nothing
shuts_accepted : (env : Env) (ss : List Session) (rest : List Deed) (b : Broker) → acceptances_of env (shuts_all ss b ++ rest) b ≡ acceptances_of env rest (after_all (shuts_all ss b) b)
shuts_accepted env [] rest b = refl
shuts_accepted env (s ∷ ss) rest b = shuts_accepted env ss rest (after_all (shuts s b) b)

still_parts : (xs ys : List Deed) (b : Broker) → AreGood IsStill (xs ++ ys) b → AreGood IsStill xs b × AreGood IsStill ys (after_all xs b)
still_parts [] ys b q = (tt, q)
still_parts (x ∷ xs) ys b q = let more = still_parts xs ys (after x b) q.1 in ((q.0, more.0), more.1)

-- lines are unique where an opening accepts a publication
pub opening_lined : (env : Env) (b : Broker) → b.lines ≡ [] → AllByRecursion IsUnique (acceptances_of env (opening env b) b)
opening_lined env b none =
    let ss = connected_in b.records in
    let first = shuts_all ss b in
    let c = after_all first b in
    let rest = settles_all env ss c ++ [] in
    let still = still_parts first rest b (still_opening env b) in
    subst (AllByRecursion IsUnique) (sym (shuts_accepted env ss rest b)) (deserted_accepted env rest c still.1 (record { lines = no_lines first b still.0 none; nobody = none_connected b }))
