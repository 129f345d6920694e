-- A message that was published has one copy for each who had subscribed, which waits or has ended, and what that says of its receiver
-- (MQTT 5.0, 3.3.4, 4.3, 4.4).
use Rattle.std.proofs.Common.{◌≡◌, ◌⊎◌, ℕ, zero, suc, ◌+◌, ◌<◌, ◌≤◌, Bool, true, false, cond, List, [], ◌∷◌, ◌++◌, Option, Some, nat_lt, refl, sym, ap, subst, ◌∙◌, arith, inl, inr}
use Rattle.std.specs.Prelude.{All, filter_map}
use Rattle.std.specs.List.{AllByRecursion}
use Rattle.std.proofs.lemmas.Bool.{lt-ltb}
use Rattle.std.proofs.lemmas.Cmp.{nat_eq_equiv}
use Rattle.std.proofs.lemmas.List.Elements.{All-from_recursion, filter_map-append, recursion_from_All}
use Rattle.mqtt_base.specs.declared.session.CopyId.{CopyId}
use Rattle.mqtt_base.specs.declared.session.Ending.{Ending}
use Rattle.mqtt_base.specs.declared.session.Ending.TheVariants.{Taken, Refused, Expired, TooLarge, SessionEnded, Dropped}
use Rattle.mqtt_base.specs.declared.session.Qos.{Qos}
use Rattle.mqtt_records.specs.declared.state.session.Session.{Session}
use Rattle.mqtt_rules.specs.declared.step.Capacity.{Capacity}
use Rattle.mqtt_rules.specs.step.Deeds.{Deed}
use Rattle.mqtt_rules.specs.step.State.{Broker, session_named}
use Rattle.mqtt_rules.specs.step.Laws.{IsAmong}
use Rattle.mqtt_rules.specs.step.Numbers.{CountsOn, publication_given}
use Rattle.mqtt_rules.proofs.step_lemmas.fit.FitLaw.{all_among}
use Rattle.mqtt_rules.proofs.step_lemmas.numbers.Copies.{each_more, kinds}
use Rattle.mqtt_world_model.specs.model.Ends.{Entry, Receiver}
use Rattle.mqtt_world_model.specs.model.Laws.{CarriesOf, CarriesOn, WasTaken, count_of, is_own, standing}
use Rattle.mqtt_world_model.specs.model.Run.{Acceptance, End, Turn, acceptances_over, deeds_over, ended_in, run}
use Rattle.mqtt_world_model.specs.model.World.{World, receiver_named}
use Rattle.mqtt_world_laws.specs.acceptance.Copies.{ended_from, entered_from, publications_from}
use Rattle.mqtt_world_laws.specs.acceptance.Fair.{IsFair, IsSteady}
use Rattle.mqtt_world_laws.specs.acceptance.Spending.{run_spends}
use Rattle.mqtt_world_laws.specs.acceptance.Once.{CarriesIn, carriers, times_accepted}
use Rattle.mqtt_world_laws.proofs.acceptance_lemmas.copies.CopyRuns.{run_balances, run_numbers}
use Rattle.mqtt_world_laws.proofs.acceptance_lemmas.copies.Entries.{U}
use Rattle.mqtt_world_laws.proofs.acceptance_lemmas.copies.OnceRuns.{counted as come_counted, one_or_other}
use Rattle.mqtt_world_laws.proofs.acceptance_lemmas.copies.Walks.{counted}
use Rattle.mqtt_world_laws.specs.causes.Causes.{HasCause}
use Rattle.mqtt_world_laws.specs.causes.Endings.{asked_over, end_of, ends_over}
use Rattle.mqtt_world_laws.proofs.causes_lemmas.CauseRuns.{all_ends, all_steps, joined}
use Rattle.mqtt_world_laws.proofs.receiver_lemmas.drains.DrainRuns.{run_append}
use Rattle.mqtt_world_laws.specs.delivery.HandedOnce.{CarriesEach, WasHanded}
use Rattle.mqtt_world_laws.proofs.delivery_lemmas.taken.HandedEnds.{run_takes}
use Rattle.mqtt_world_laws.proofs.delivery_lemmas.whole.EveryRun.{carried_append, fair_run_kept, spent_append}
use Rattle.mqtt_world_laws.specs.drains.Emptied.{waiting_for}
use Rattle.mqtt_world_laws.specs.routing.Intended.{EntersAsIntended}
use Rattle.mqtt_world_laws.proofs.routing_lemmas.OwnCounts.{above, among_numbers}
use Rattle.mqtt_world_laws.proofs.routing_lemmas.OwnRuns.{all_accept}
use Rattle.mqtt_world_laws.specs.unsent.Unsent.{IsUnread, IsUnsentEnd, WasNeverHanded}
use Rattle.mqtt_world_laws.specs.headline.Delivery.{DeliversExactlyOnce, HandsOverOnce}
use Rattle.mqtt_world_laws.specs.headline.Lives.{BeginsWell}
use Rattle.mqtt_world_laws.proofs.headline_lemmas.Delivered.{run_delivers_all}
use Rattle.mqtt_world_laws.specs.published.Published.{ArePassedOn, CarriesMessage, HadSubscribed, HasEnded, IsReceived, IsWaiting, OfEnd, ReachesEach, WasPublished, content_of, direct_copy}
use Rattle.mqtt_world_laws.proofs.published_lemmas.Direct.{among_right, subscriber_intended}
use Rattle.mqtt_world_laws.proofs.published_lemmas.Names.{AreNamed, IsHis, Leaves, run_leaves}
use Rattle.mqtt_world_laws.proofs.published_lemmas.Waiting.{begin_given, begin_named, is_waiting, none_waits}
use Rattle.mqtt_world_laws.proofs.published_lemmas.Parts.{acceptance_later, copies_of, counts_behind, deeds_parts, ended_parts, ends_in, some_end}
use Rattle.mqtt_world_laws.proofs.published_lemmas.Publishing.{mapped_among, was_published}

-- ---- what an end says of the receiver

end_says : (ending : Ending) (qos : Qos) (c : CopyId) (r : Receiver) → (ending ≡ Taken → WasTaken qos c r) → (ending ≡ Expired → IsUnread r c) → (ending ≡ Dropped → IsUnread r c) → OfEnd ending qos c r
end_says Taken qos c r taken expired dropped = taken refl
end_says Refused qos c r taken expired dropped = tt
end_says Expired qos c r taken expired dropped = expired refl
end_says TooLarge qos c r taken expired dropped = tt
end_says SessionEnded qos c r taken expired dropped = tt
end_says Dropped qos c r taken expired dropped = dropped refl

-- ---- a run

module _ (limits : Capacity) (ts : List Turn) (w : World) (m : BeginsWell limits w) (fair : IsFair limits ts w) where
  all : DeliversExactlyOnce limits ts w
  all = run_delivers_all limits ts w m fair

  module _ (client : List ℕ) (n : ℕ) (p : WasPublished client n limits ts w) where
    abbrev since : List Turn
    since = p.turn ∷ p.later

    abbrev v : World
    v = run limits p.earlier w

    whole : IsFair limits (p.earlier ++ since) w
    whole = subst (λ (zs : List Turn). IsFair limits zs w) (sym p.are) fair

    begun : IsFair limits p.earlier w
    begun = record { within = fair.within; unspent = (spent_append limits p.earlier since w whole.unspent).0; clean = (carried_append limits p.earlier since w whole.clean).0 }

    steady : IsSteady v.broker
    steady = (fair_run_kept limits p.earlier w m.untouched begun client).stands.standing.around.steady

    unspent : run_spends limits since v ≡ false
    unspent = (spent_append limits p.earlier since w whole.unspent).1

    abbrev a : Acceptance
    a = p.acceptance

    accepted : IsAmong a (acceptances_over limits since v)
    accepted = acceptance_later a limits [] p.turn p.later v p.accepted

    among : IsAmong a (acceptances_over limits ts w)
    among = subst (λ (zs : List Turn). IsAmong a (acceptances_over limits zs w)) p.are (acceptance_later a limits p.earlier p.turn p.later w p.accepted)

    -- its number was given since
    number_behind : v.broker.records.publications < a.number
    number_behind =
        let later = all_accept limits since v fair.within steady unspent in
        let first = run_numbers limits p.earlier w m.untouched.new (counted limits p.earlier w begun) in
        let both = subst (λ (ns : List ℕ). CountsOn w.broker.records.publications ns (run limits (p.earlier ++ since) w).broker.records.publications)
        (ap (filter_map publication_given) (deeds_parts limits p.earlier since w) ∙ filter_map-append publication_given (deeds_over limits p.earlier w) (deeds_over limits since v))
        (run_numbers limits (p.earlier ++ since) w m.untouched.new (counted limits (p.earlier ++ since) w whole)) in
        let behind = counts_behind w.broker.records.publications v.broker.records.publications (run limits (p.earlier ++ since) w).broker.records.publications (publications_from limits p.earlier w) (filter_map publication_given (deeds_over limits since v)) first both in
        among_numbers (λ k. v.broker.records.publications < k) a (acceptances_over limits since v)
        (subst (AllByRecursion (λ k. v.broker.records.publications < k)) later.numbers (above v.broker.records.publications _ (filter_map publication_given (deeds_over limits since v)) behind)) accepted

    module _ (birth : ℕ) where
      abbrev c : CopyId
      c = direct_copy a birth

      -- so the copy had neither stood nor ended before
      none_before : (count_of c (standing v.broker) ≡ 0) × (count_of c (ended_from limits p.earlier w) ≡ 0)
      none_before =
          let less = number_behind in
          let ahead : nat_lt v.broker.records.publications a.number ≡ true = lt-ltb v.broker.records.publications a.number less in
          let one : U c (kinds v.broker.records) ≡ 1 = rw ahead refl in
          let come = come_counted limits p.earlier w m.untouched.new (counted limits p.earlier w begun) m.apart c in
          let first = one_or_other c w.broker.records m.apart in
          let even = run_balances limits p.earlier w m.untouched.new (counted limits p.earlier w begun) c in
          (omega (arith, one, come, first, even), omega (arith, one, come, first, even))

      module _ (enters : count_of c (entered_from limits ts w) ≡ 1) where
        -- it stands, or has ended since
        either_way : count_of c (standing (run limits ts w).broker) + count_of c (ended_from limits since v) ≡ 1
        either_way =
            let one = all.ending.waits_or_has_ended c enters in
            let parts : count_of c (ended_from limits ts w) ≡ count_of c (ended_from limits p.earlier w) + count_of c (ended_from limits since v) = subst (λ (zs : List Turn). count_of c (ended_from limits zs w) ≡ count_of c (ended_from limits p.earlier w) + count_of c (ended_from limits since v)) p.are (ended_parts c limits p.earlier since w) in
            let none = none_before.1 in
            omega (arith, one, parts, none)

        module _ (reader : List ℕ) (q r : Receiver) (e : receiver_named reader v ≡ Some q) (f : receiver_named reader (run limits ts w) ≡ Some r) (before : Session) (named : session_named reader v.broker.records ≡ Some before) (its_birth : before.birth ≡ birth) where
          there : receiver_named reader (run limits (p.earlier ++ since) w) ≡ Some r
          there = subst (λ (zs : List Turn). receiver_named reader (run limits zs w) ≡ Some r) (sym p.are) f

          of_receiver : HandsOverOnce limits ts w reader r
          of_receiver = all.receivers reader r f

          last : (run limits since v).broker ≡ (run limits ts w).broker
          last = ap (λ (u : World). u.broker) (sym (run_append limits p.earlier since w)) ∙ ap (λ (zs : List Turn). (run limits zs w).broker) p.are

          -- the copy is the client's, wherever it stands and however it ends
          leaves : Leaves c reader (deeds_over limits since v) (run limits since v).broker
          leaves =
              run_leaves c reader limits since v fair.within steady unspent (begin_given c reader v.broker steady.coherent before named its_birth)
              (begin_named c reader v.broker steady.coherent before named its_birth none_before.0)

          has_ended : 1 ≤ count_of c (ended_from limits since v) → HasEnded limits since v reader c r
          has_ended some =
              let x = some_end c (ends_over limits since v) (subst (λ (es : List End). 1 ≤ count_of c (copies_of es)) (sym (all_ends limits since v)) some) in
              let counted_ : IsAmong (end_of x.end) (ends_in (deeds_over limits since v)) = subst (λ (es : List End). IsAmong (end_of x.end) es) (all_ends limits since v) (mapped_among end_of x.end (ends_over limits since v) x.among) in
              let its : x.end.who.client ≡ reader = all_among (IsHis c reader) (end_of x.end) (ends_in (deeds_over limits since v)) leaves.ends counted_ x.its in
              let taken = all_among (WasHanded reader r) (end_of x.end) (ends_in (deeds_over limits since v)) (recursion_from_All (WasHanded reader r) (ends_in (deeds_over limits since v)) (run_takes limits p.earlier since w m.untouched whole reader q e r there)) counted_ in
              let everywhere : IsAmong (end_of x.end) (ends_in (deeds_over limits ts w)) = subst (λ (zs : List Turn). IsAmong (end_of x.end) (ends_in (deeds_over limits zs w))) p.are
              (subst (λ (ds : List Deed). IsAmong (end_of x.end) (ends_in ds)) (sym (deeds_parts limits p.earlier since w))
              (subst (λ (es : List End). IsAmong (end_of x.end) es) (sym (filter_map-append ended_in (deeds_over limits p.earlier w) (deeds_over limits since v))) (among_right (end_of x.end) (ends_in (deeds_over limits p.earlier w)) (ends_in (deeds_over limits since v)) counted_))) in
              let never = all_among (WasNeverHanded r) (end_of x.end) (ends_in (deeds_over limits ts w)) (recursion_from_All (WasNeverHanded r) (ends_in (deeds_over limits ts w)) of_receiver.never_handed) everywhere in
              record {
                end = x.end;
                among = x.among;
                copy_is = x.its;
                client_is = its;
                cause = all_among HasCause x.end (ends_over limits since v) (joined (asked_over limits since v) (all_steps limits since v fair.within steady unspent)) x.among;
                says = end_says x.end.ending x.end.row.copy.qos c r
                    (λ is. subst (λ (d : CopyId). WasTaken x.end.row.copy.qos d r) x.its (taken its is))
                    (λ is. subst (IsUnread r) x.its (never (subst IsUnsentEnd (sym is) tt)))
                    (λ is. subst (IsUnread r) x.its (never (subst IsUnsentEnd (sym is) tt)));
              }

          fate : (k : ℕ) → count_of c (ended_from limits since v) ≡ k → IsWaiting reader c (run limits ts w).broker ⊎ HasEnded limits since v reader c r
          fate zero none =
              let one = either_way in
              inl (is_waiting c reader (run limits ts w).broker (fair_run_kept limits ts w m.untouched fair client).stands.standing.around.steady.coherent
              (subst (λ (b : Broker). AreNamed c reader b.records.sessions) last leaves.named) (omega (arith, none, one)))
          fate (suc k) is = inr (has_ended (omega (arith, is)))

          emptied : IsWaiting reader c (run limits ts w).broker ⊎ HasEnded limits since v reader c r → waiting_for reader (run limits ts w) ≡ 0 → HasEnded limits since v reader c r
          emptied (inl waits) none = absurd (none_waits c reader (run limits ts w).broker waits none)
          emptied (inr ended_) none = ended_

          carries : (es : List Entry) → All (CarriesOn a) es → All (CarriesMessage (content_of client n (run limits ts w)) c) es
          carries es h =
              All-from_recursion (CarriesMessage (content_of client n (run limits ts w)) c) es
              (each_more (CarriesOn a) (CarriesMessage (content_of client n (run limits ts w)) c) one es (recursion_from_All (CarriesOn a) es h))
            where
              one : (x : Entry) → CarriesOn a x → CarriesMessage (content_of client n (run limits ts w)) c x
              one x h is =
                  let its : CarriesOf a (Some c) x.body = subst (λ (o : Option CopyId). CarriesOf a o x.body) is h in
                  let both = its refl in
                  (both.0 ∙ p.carries.topic, both.1 ∙ p.carries.payload)

          is_received : IsReceived limits since v ts w (content_of client n (run limits ts w)) reader c r
          is_received =
              let each = all_among (CarriesEach r) a (acceptances_over limits ts w) (recursion_from_All (CarriesEach r) (acceptances_over limits ts w) of_receiver.carries_each) among in
              record {
                enters = enters;
                fate = fate (count_of c (ended_from limits since v)) refl;
                emptied = emptied (fate (count_of c (ended_from limits since v)) refl);
                once = of_receiver.once c;
                contents = (carries r.ledger each.0, carries r.once each.1);
              }

    -- it enters once for who had subscribed
    subscribed_enters : (reader : List ℕ) (s : HadSubscribed reader v.broker a) → count_of (direct_copy a s.birth) (entered_from limits ts w) ≡ 1
    subscribed_enters reader s =
        let x = all_among (EntersAsIntended limits ts w) a (acceptances_over limits ts w) all.entering.intended among in
        let own : is_own a.number (direct_copy a s.birth) ≡ true = rw (nat_eq_equiv.refl a.number) refl in
        x.counted (direct_copy a s.birth) own ∙ ap (λ (t : Bool). cond t 1 0) (subscriber_intended reader v.broker a s x.routing x.routing_is)

    reaches : ReachesEach client n limits ts w p
    reaches reader q r e f s = is_received s.birth (subscribed_enters reader s) reader q r e f s.before s.named s.its_birth

  -- ---- a message that was accepted

  published : (client : List ℕ) (n : ℕ) → 1 ≤ times_accepted client n limits ts w → WasPublished client n limits ts w
  published client n some =
      let x = was_published client n (CarriesIn client (carriers client (run limits ts w))) limits ts w fair.within m.untouched.new.steady fair.unspent some (all.messages.carried client) in
      record {
        earlier = x.earlier;
        turn = x.turn;
        later = x.later;
        are = x.are;
        read = x.read;
        acceptance = x.acceptance;
        accepted = x.accepted;
        carries = x.holds.carries;
      }

  -- in every fair run that begins well what is published is received
  pub all_passed_on : ArePassedOn limits ts w
  all_passed_on = record {
    complete = λ client n is. let one = (all.messages.each client n).complete is in (one, published client n (omega (arith, one)));
    acknowledged = λ client n is. published client n ((all.messages.each client n).acknowledged is);
    reaches = reaches;
  }
