-- A member of a group that gets a copy of QoS 0 is connected, and stands on a line if lines are unique (MQTT 5.0, 3.1.4, 4.8.2).
use Rattle.std.proofs.Common.{◌≡◌, ℕ, max, ◌⊎◌, true, false, List, [], ◌∷◌, ◌++◌, map, Option, Some, None, nat_lt, refl, sym, ap, subst, ◌∙◌, arith, inl, inr}
use Rattle.std.specs.Prelude.{flat_map, is_none}
use Rattle.std.specs.List.{AllByRecursion, list_any}
use Rattle.std.proofs.lemmas.Bool.{cases_Bool}
use Rattle.mqtt_base.specs.declared.session.Cause.TheVariants.{Direct, Share}
use Rattle.mqtt_base.specs.declared.session.CopyId.{CopyId}
use Rattle.mqtt_records.specs.declared.state.session.Session.{Session}
use Rattle.mqtt_routes.specs.routing.Acceptance.{Served, copies_in, is_eligible, needs_room, shared_copy}
use Rattle.mqtt_routes.specs.routing.Intended.{Publication, Copy, Member, granted_qos, in_group, groups, members}
use Rattle.mqtt_rules.specs.step.Deeds.{Message}
use Rattle.mqtt_rules.specs.step.Lines.{HasUniqueLines}
use Rattle.mqtt_rules.specs.step.Packets.{quality}
use Rattle.mqtt_rules.specs.step.Routing.{copy_to, served_copies_to, is_queued_at, is_there, answers, publication_of, subscribers}
use Rattle.mqtt_rules.specs.step.State.{Broker, Env, Line, line_of, session_at, is_connected}
use Rattle.mqtt_rules.specs.declared.step.Capacity.{Capacity}
use Rattle.mqtt_rules.proofs.step_lemmas.numbers.Copies.{each_append}
use Rattle.mqtt_rules.proofs.step_lemmas.lines.LineLaw.{line_found}
use Rattle.mqtt_world_model.specs.model.Run.{Turn, Acceptance, acceptances_over}
use Rattle.mqtt_world_model.specs.model.World.{World}
use Rattle.mqtt_world_laws.specs.acceptance.Copies.{entered_from}
use Rattle.mqtt_world_laws.specs.acceptance.Fair.{IsNew, IsCounted}
use Rattle.mqtt_world_laws.specs.routing.Groups.{IsServedOnce, AreServedOnce}
use Rattle.mqtt_world_laws.specs.routing.Intended.{intended_for}
use Rattle.mqtt_world_laws.specs.routing.Members.{HasLine, HaveLines, AllHaveLines}
use Rattle.mqtt_world_laws.specs.headline_in_forms.Delivery.{EntersAsIntended as EntersIntended}
use Rattle.mqtt_world_laws.proofs.routing_lemmas.Intended.{run_intended}
use Rattle.mqtt_world_laws.proofs.routing_lemmas.OwnCounts.{queued_quality}
use Rattle.mqtt_world_laws.proofs.routing_lemmas.OwnRuns.{AreLinedUp, run_accepts}

module _ (env : Env) (b : Broker) (unique : HasUniqueLines b) where
  -- who is connected stands on a line
  connected_line : (birth : ℕ) (o : Option Session) → session_at birth b.records ≡ o → is_there o is_connected ≡ true → (l : Line) × (line_of birth b ≡ Some l)
  connected_line birth None is e = absurd cc
  connected_line birth (Some s) is e = line_found b birth s unique is (none_of s.closed e)
    where
      none_of : (o : Option ℕ) → is_none o ≡ true → o ≡ None
      none_of None e = refl
      none_of (Some n) e = absurd cc

  module _ (p : Publication) (all : List Member) (direct : List Copy) where
    -- a member that was eligible, and whose copy has QoS 0
    member_line : (before : List Served) (m : Member) → is_eligible (answers env b.records) p direct before m ≡ true → is_queued_at (quality (shared_copy p m).qos) ≡ false
        → (l : Line) × (line_of m.birth b ≡ Some l)
    member_line before m able low =
        let same : max (granted_qos p m.sub) 0 ≡ granted_qos p m.sub = omega arith in
        let needs_none : needs_room p m ≡ false = ap (nat_lt 0) (sym same) ∙ (sym (queued_quality (shared_copy p m).qos) ∙ low) in
        connected_line m.birth (session_at m.birth b.records) refl (rw needs_none at able)

    module _ (number now : ℕ) (message : Message) where
      group_line : (before : List Served) (text : List ℕ) (s : Served) → IsServedOnce (answers env b.records) p all direct before text s → (o : Option Copy) → s.copy ≡ o
          → AllByRecursion (HasLine b) (map (copy_to number now message (Share s.group)) (copies_in o))
      group_line before text s h None is = tt
      group_line before text s h (Some c) is = ((λ low other. by (cases_Bool (list_any (is_eligible (answers env b.records) p direct before) (in_group text all))) low), tt)
        where
          Goal : Copy → Type 0
          Goal x = is_queued_at (quality x.qos) ≡ false → (l : Line) × (line_of x.birth b ≡ Some l)

          by : (list_any (is_eligible (answers env b.records) p direct before) (in_group text all) ≡ true) ⊎ (list_any (is_eligible (answers env b.records) p direct before) (in_group text all) ≡ false) → Goal c
          by (inl some) =
              let x = h.one some in
              let both : Some c ≡ Some (shared_copy p x.0) = sym is ∙ x.3 in
              let same : shared_copy p x.0 ≡ c = cc in
              subst Goal same (member_line before x.0 x.2)
          by (inr none) = let clash : Some c ≡ None = sym is ∙ h.none none in absurd cc

      groups_line : (before : List Served) (texts : List (List ℕ)) (ss : List Served) → AreServedOnce (answers env b.records) p all direct before texts ss
          → AllByRecursion (HasLine b) (flat_map (served_copies_to number now message) ss)
      groups_line before [] [] h = tt
      groups_line before [] (s ∷ ss) h = absurd h
      groups_line before (f ∷ fs) [] h = absurd h
      groups_line before (f ∷ fs) (s ∷ ss) h =
          each_append (HasLine b) (served_copies_to number now message s) (flat_map (served_copies_to number now message) ss) (group_line before f s h.0 s.copy refl)
          (groups_line (before ++ s ∷ []) fs ss h.1)

  direct_lines : (number now : ℕ) (m : Message) (cs : List Copy) → AllByRecursion (HasLine b) (map (copy_to number now m Direct) cs)
  direct_lines number now m [] = tt
  direct_lines number now m (c ∷ cs) = ((λ low other. absurd cc), direct_lines number now m cs)

-- ---- an acceptance

have_lines : (copies : List CopyId) (a : Acceptance) → EntersIntended copies a → HasUniqueLines a.broker → HaveLines a
have_lines copies a x unique ds e =
    let both : Some (intended_for a x.routing) ≡ Some ds = sym x.copies_are ∙ e in
    let same : intended_for a x.routing ≡ ds = cc in
    let p = publication_of a.message in
    let all = members p (subscribers a.broker.records) in
    subst (AllByRecursion (HasLine a.broker)) same
    (each_append (HasLine a.broker) (map (copy_to a.number a.broker.now a.message Direct) x.routing.direct) (flat_map (served_copies_to a.number a.broker.now a.message) x.routing.served)
    (direct_lines a.env a.broker unique a.number a.broker.now a.message x.routing.direct)
    (groups_line a.env a.broker unique p all x.routing.direct a.number a.broker.now a.message [] (groups all) x.routing.served x.each.served))

-- where publications enter as they were meant, and lines are unique, the members that are asked for stand as they were found
pub all_have : (copies : List CopyId) (accepted : List Acceptance) → AllByRecursion (EntersIntended copies) accepted → AreLinedUp accepted → AllByRecursion HaveLines accepted
all_have copies [] p q = tt
all_have copies (a ∷ rest) p q = (have_lines copies a p.0 q.0, all_have copies rest p.1 q.1)

-- in every run that spends no number the members that are asked for stand as they were found
pub all_have_lines : (limits : Capacity) (ts : List Turn) (w : World) → IsNew w → IsCounted limits ts w → AllHaveLines limits ts w
all_have_lines limits ts w new fair = all_have (entered_from limits ts w) (acceptances_over limits ts w) (run_intended limits ts w new fair) (run_accepts limits ts w new fair).lined
