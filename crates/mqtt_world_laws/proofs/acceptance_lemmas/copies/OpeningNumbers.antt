-- While the broker opens what was stored, no message of a client is accepted: Wills alone are (MQTT 5.0, 3.1.2.5, 4.1).
use Rattle.std.proofs.Common.{◌≡◌, ℕ, Bool, true, false, List, [], ◌∷◌, ◌++◌, map, Option, Some, None, refl, ap, ◌∙◌}
use Rattle.mqtt_base.specs.declared.session.Ending.TheVariants.{SessionEnded}
use Rattle.mqtt_records.specs.messages.Queue.{CopyRow}
use Rattle.mqtt_records.specs.declared.messages.message.Will.{Will}
use Rattle.mqtt_records.specs.declared.state.session.Session.{Session}
use Rattle.mqtt_rules.specs.step.State.{Broker, Env, session_at}
use Rattle.mqtt_rules.specs.step.Deeds.{Whose, whose, FromWill, DropWill, Leave, Deed, At, Finish, after_all, Act, always, only_if, with_session, of_session}
use Rattle.mqtt_rules.specs.step.Routing.{CopyTo, accepted_copies}
use Rattle.mqtt_rules.specs.step.Closing.{will_message, publish_or_refuse, will_deeds, publish_will, end_session, settle, has_due_will, has_due_end}
use Rattle.mqtt_rules.specs.step.Step.{connected_in, opening, settles, settles_all, shuts, shuts_all}
use Rattle.mqtt_world_model.proofs.model_lemmas.others.Quiet.{numbers, calm, copies_of, quiet_copies}
use Rattle.mqtt_world_model.proofs.model_lemmas.own.Publishes.{numbers_append}

abbrev pub AcceptsNone : List Deed → Type 0
AcceptsNone ds = numbers ds ≡ []

-- two lists that accept nothing accept nothing
pub none_append : (xs ys : List Deed) → AcceptsNone xs → AcceptsNone ys → AcceptsNone (xs ++ ys)
none_append xs ys p q = numbers_append xs ys ∙ (ap (λ (ks : List ℕ). ks ++ numbers ys) p ∙ q)

module _ (env : Env) where
  none_will : (who : Whose) (w : Option Will) (b : Broker) → AcceptsNone (will_deeds env who w b)
  none_will who None b = refl
  none_will who (Some w) b =
      let m = will_message who.client w in
      let first = publish_or_refuse env who m (accepted_copies env m b) b in
      none_append first (At who DropWill ∷ []) (published (accepted_copies env m b)) refl
    where
      published : (o : Option (List CopyTo)) → AcceptsNone (publish_or_refuse env who (will_message who.client w) o b)
      published None = refl
      published (Some ds) = (calm 0 0 (copies_of env FromWill (will_message who.client w) ds b) b (quiet_copies 0 0 env FromWill (will_message who.client w) ds b)).numbers_is

  none_end : (s : Session) → AcceptsNone (end_session s)
  none_end s = none_append (map (λ (e : CopyRow). At (whose s) (Leave e SessionEnded)) s.queue) (Finish (whose s) ∷ []) (leaves s.queue) refl
    where
      leaves : (es : List CopyRow) → AcceptsNone (map (λ (e : CopyRow). At (whose s) (Leave e SessionEnded)) es)
      leaves [] = refl
      leaves (e ∷ es) = leaves es

  none_if : (t : Bool) (act : Act) (b : Broker) → AcceptsNone (act b) → AcceptsNone (only_if t act b)
  none_if true act b h = h
  none_if false act b h = refl

  -- an act of a session that may not be there accepts nothing if the act does
  pub none_with : (o : Option Session) (f : Session → Act) (b : Broker) → ((s : Session) → AcceptsNone (f s b)) → AcceptsNone (with_session o f b)
  none_with None f b h = refl
  none_with (Some s) f b h = h s

  -- what is due of a session accepts nothing of a client
  pub none_settle : (k : ℕ) (b : Broker) → AcceptsNone (settle env k b)
  none_settle k b =
      let will : Session → Act = λ s. only_if (has_due_will b.now s) (publish_will env s) in
      let first = of_session k will b in
      let c = after_all first b in
      let ends : Session → Act = λ s. only_if (has_due_end b.now s) (always (end_session s)) in
      let second = of_session k ends c in
      none_append first (second ++ [])
      (none_with (session_at k b.records) will b (λ s. none_if (has_due_will b.now s) (publish_will env s) b (none_will (whose s) s.will b)))
      (none_append second [] (none_with (session_at k c.records) ends c (λ s. none_if (has_due_end b.now s) (always (end_session s)) c (none_end s))) refl)

  none_shuts : (xs : List Session) (b : Broker) → AcceptsNone (shuts_all xs b)
  none_shuts [] b = refl
  none_shuts (x ∷ xs) b = none_shuts xs (after_all (shuts x b) b)

  none_settles : (xs : List Session) (b : Broker) → AcceptsNone (settles_all env xs b)
  none_settles [] b = refl
  none_settles (x ∷ xs) b =
      let first = settles env x b in
      let c = after_all first b in
      none_append first (settles_all env xs c) (none_settle x.birth b) (none_settles xs c)

  -- an opening accepts nothing of a client
  pub opening_none : (b : Broker) → AcceptsNone (opening env b)
  opening_none b =
      let ss = connected_in b.records in
      let first = shuts_all ss b in
      let c = after_all first b in
      none_append first (settles_all env ss c ++ []) (none_shuts ss b) (none_append (settles_all env ss c) [] (none_settles ss c) refl)
