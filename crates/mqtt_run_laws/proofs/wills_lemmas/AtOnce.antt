-- As a session closes with its line no Will of it is due behind that.
use Rattle.std.proofs.Common.{◌≡◌, ℕ, Bool, true, false, cond, not, List, [], ◌∷◌, ◌++◌, map, nat_eq, Option, Some, None, refl, sym, ap, subst, ◌∙◌}
use Rattle.std.proofs.lemmas.Cmp.{nat_eq_equiv}
use Rattle.mqtt_base.specs.declared.session.Ending.TheVariants.{SessionEnded}
use Rattle.mqtt_records.specs.declared.messages.message.Will.{Will}
use Rattle.mqtt_records.specs.declared.state.session.Session.{Session}
use Rattle.mqtt_records.proofs.lists_lemmas.LookUps.{row_at-remove_row}
use Rattle.mqtt_records.specs.state.Session.{birth_of}
use Rattle.mqtt_rules.specs.step.Closing.{end_session, has_due_end, has_due_will, is_due, publish_will, settle, will_due}
use Rattle.mqtt_rules.specs.step.Deeds.{At, Close, Deed, DropWill, Finish, Leave, after, after_all, always, of_session, only_if, whose, with_session}
use Rattle.mqtt_rules.specs.step.State.{Broker, Env, session_at}
use Rattle.mqtt_rules.proofs.step_lemmas.acts.Goods.{after_append}
use Rattle.mqtt_rules.proofs.step_lemmas.flight.FlightRows.{found_key}
use Rattle.mqtt_rules.proofs.step_lemmas.numbers.Counters.{now_stays}
use Rattle.mqtt_run_laws.specs.wills.Due.{LeavesNoneAtClose}
use Rattle.mqtt_run_laws.specs.wills.Fates.{will_held, held_if}
use Rattle.mqtt_run_laws.proofs.wills_lemmas.Stored.{will_gone}

-- the session of this birth, if it stands, has no Will that is due
abbrev HasNoneDue : ℕ → ℕ → Broker → Type 0
HasNoneDue birth now b = (t : Session) → session_at birth b.records ≡ Some t → has_due_will now t ≡ false

no_will : (now : ℕ) (t : Session) → t.will ≡ None → has_due_will now t ≡ false
no_will now t none = ap (λ (w : Option Will). is_due now (will_due t.closed t.expiry w)) none ∙ by t.closed
  where
    by : (closed : Option ℕ) → is_due now (will_due closed t.expiry None) ≡ false
    by None = refl
    by (Some moment) = refl

nobody_stands : (birth now : ℕ) (b : Broker) → session_at birth b.records ≡ None → HasNoneDue birth now b
nobody_stands birth now b none t there = let both : None ≡ Some t = sym none ∙ there in absurd cc

some_same : {X : Type 0} (y z : X) → Some y ≡ Some z → y ≡ z
some_same y z e = cc

one_stands : (birth now : ℕ) (s : Session) (b : Broker) → session_at birth b.records ≡ Some s → has_due_will now s ≡ false → HasNoneDue birth now b
one_stands birth now s b is h t there = subst (λ (y : Session). has_due_will now y ≡ false) (some_same s t (sym is ∙ there)) h

-- a session that ended does not stand
ended : (s : Session) (birth : ℕ) (b : Broker) → s.birth ≡ birth → session_at birth (after_all (end_session s) b).records ≡ None
ended s birth b same =
    let leaves : List Deed = map (λ e. At (whose s) (Leave e SessionEnded)) s.queue in
    let c = after_all leaves b in
    ap (λ (d : Broker). session_at birth d.records) (after_append leaves (Finish (whose s) ∷ []) b)
    ∙ row_at-remove_row birth_of birth s.birth c.records.sessions
    ∙ ap (λ (t : Bool). cond t None (session_at birth c.records)) (ap (λ (n : ℕ). nat_eq n birth) same ∙ nat_eq_equiv.refl birth)

-- first the Will
will_first : (env : Env) (birth : ℕ) (b : Broker) → HasNoneDue birth b.now (after_all (of_session birth (λ s. only_if (has_due_will b.now s) (publish_will env s)) b) b)
will_first env birth b = by (session_at birth b.records) refl
  where
    tested : (s : Session) (t : Bool) → has_due_will b.now s ≡ t → session_at birth b.records ≡ Some s → HasNoneDue birth b.now (after_all (only_if t (publish_will env s) b) b)
    tested s false e is u there = one_stands birth b.now s b is e u there
    tested s true e is u there =
        let c = after_all (publish_will env s b) b in
        let same : s.birth ≡ birth = found_key birth_of birth s b.records.sessions is in
        let gone : will_held birth c.records ≡ None = ap (λ (n : ℕ). will_held n c.records) (sym same) ∙ will_gone env s b (ap (λ (n : ℕ). session_at n b.records) same ∙ is) in
        no_will b.now u (ap held_if (sym there) ∙ gone)

    by : (o : Option Session) → session_at birth b.records ≡ o → HasNoneDue birth b.now (after_all (with_session o (λ s. only_if (has_due_will b.now s) (publish_will env s)) b) b)
    by None is = nobody_stands birth b.now b is
    by (Some s) is = tested s (has_due_will b.now s) refl is

-- then the end
end_then : (birth now : ℕ) (b : Broker) → HasNoneDue birth now b → HasNoneDue birth now (after_all (of_session birth (λ s. only_if (has_due_end now s) (always (end_session s))) b) b)
end_then birth now b h = by (session_at birth b.records) refl
  where
    tested : (s : Session) (t : Bool) → session_at birth b.records ≡ Some s → HasNoneDue birth now (after_all (only_if t (always (end_session s)) b) b)
    tested s false is = h
    tested s true is = nobody_stands birth now (after_all (end_session s) b) (ended s birth b (found_key birth_of birth s b.records.sessions is))

    by : (o : Option Session) → session_at birth b.records ≡ o → HasNoneDue birth now (after_all (with_session o (λ s. only_if (has_due_end now s) (always (end_session s))) b) b)
    by None is = h
    by (Some s) is = tested s (has_due_end now s) is

settled : (env : Env) (birth : ℕ) (b : Broker) → HasNoneDue birth b.now (after_all (settle env birth b) b)
settled env birth b =
    let first = of_session birth (λ s. only_if (has_due_will b.now s) (publish_will env s)) b in
    let c = after_all first b in
    let second = of_session birth (λ s. only_if (has_due_end b.now s) (always (end_session s))) c in
    subst (HasNoneDue birth b.now) (sym (after_append first (second ++ []) b ∙ after_append second [] c)) (end_then birth b.now c (will_first env birth b))

-- what a session has to settle as it closes is settled
pub none_at_close : (env : Env) (keeps_will : Bool) (s : Session) (b : Broker) → LeavesNoneAtClose env keeps_will s b
none_at_close env keeps_will s b =
    let ds = only_if (not keeps_will) (always (At (whose s) DropWill ∷ [])) b in
    let c = after_all ds b in
    let d = after (At (whose s) (Close b.now)) c in
    let rest = settle env s.birth d in
    subst (HasNoneDue s.birth b.now) (sym (after_append ds (At (whose s) (Close b.now) ∷ (rest ++ [])) b ∙ after_append rest [] d))
    (subst (λ (now : ℕ). HasNoneDue s.birth now (after_all rest d)) (now_stays ds b) (settled env s.birth d))
