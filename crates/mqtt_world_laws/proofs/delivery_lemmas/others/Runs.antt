-- Every run of the world, in the eyes of one receiver: an event at a time it stands as before (MQTT 5.0, 4.3, 4.4).
use Rattle.std.proofs.Common.{◌≡◌, ℕ, Bool, true, false, cond, List, [], ◌∷◌, refl}
use Rattle.mqtt_base.specs.declared.session.CopyId.{CopyId}
use Rattle.mqtt_world_model.specs.model.Run.{Turn, are_beginnings_clean, begins_clean, read_at, read_first, read_in, read_opening, run, setting, turned}
use Rattle.mqtt_world_model.specs.model.World.{Event, Setting, World, ask, clock, connect_end, first_step, give_up, happens, is_bad, publish, publisher, receiver, restart, stop_after, stop_before, subscribe, to_end}
use Rattle.mqtt_rules.specs.declared.step.Capacity.{Capacity}
use Rattle.mqtt_world_laws.specs.acceptance.Spending.{run_spends, spending}
use Rattle.mqtt_world_laws.proofs.acceptance_lemmas.publishers.Runs.{both_true, either}
use Rattle.mqtt_world_laws.proofs.acceptance_lemmas.copies.Walks.{turn_goes}
use Rattle.mqtt_world_laws.proofs.reading_lemmas.Goings.{turn_well}
use Rattle.mqtt_world_laws.specs.delivery.Alone.{Carries, HaveSentNothing}
use Rattle.mqtt_world_laws.specs.delivery.Standing.{Stands, StandsWith, BeginWith}
use Rattle.mqtt_world_laws.specs.receiver.Connecting.{any_size}
use Rattle.mqtt_world_laws.proofs.delivery_lemmas.broker.Alone.{Distinct, carrying, distinct_kept}
use Rattle.mqtt_world_laws.proofs.delivery_lemmas.others.Asked.{IsFit, asked_stands, stops_stand}
use Rattle.mqtt_world_laws.proofs.delivery_lemmas.others.Comings.{clock_stands, given_up_stands, published_stands, publisher_comes, read_stands, receiver_comes, subscribed_stands}
use Rattle.mqtt_world_laws.proofs.delivery_lemmas.others.Joining.{joined_stands}
use Rattle.mqtt_world_laws.proofs.delivery_lemmas.others.Restarts.{restarted_stands, stopped_stands}
use Rattle.mqtt_world_laws.proofs.delivery_lemmas.broker.Retained.{turn_retains}
use Rattle.mqtt_world_laws.proofs.delivery_lemmas.own.Taking.{turn_takes}
use Rattle.mqtt_world_laws.proofs.delivery_lemmas.broker.Unused.{unused_kept}

-- ---- an event that isn't bad

as_before : (first : List CopyId) (c : List ℕ) (largest : ℕ) (limits : Capacity) (ids : List CopyId) (ns : List ℕ) (w : World) → BeginWith first ids → StandsWith c largest limits ids ns w → Stands first c largest limits w
as_before first c largest limits ids ns w g h = record { ids = ids; grown = g; ns = ns; standing = h }

module _ (first : List CopyId) (c : List ℕ) where
  -- whatever event happens, the receiver stands after it
  pub happens_stands : (e : Event) (set : Setting) (w : World) → Stands first c any_size set.limits w → IsFit c w → is_bad e w ≡ false → begins_clean e w ≡ true → read_in spending set e w ≡ false → Stands first c any_size set.limits (happens set e w)
  happens_stands (publisher d) set w s fit good carried unspent = as_before first c any_size set.limits s.ids s.ns _ s.grown (publisher_comes c d any_size set s.ids s.ns w s.standing good)
  happens_stands (receiver d window aliases) set w s fit good carried unspent = as_before first c any_size set.limits s.ids s.ns _ s.grown (receiver_comes c d any_size window aliases set s.ids s.ns w s.standing good carried)
  happens_stands (connect_end d clean) set w s fit good carried unspent = joined_stands first c d clean any_size set w s good carried
  happens_stands (give_up d) set w s fit good carried unspent = as_before first c any_size set.limits s.ids s.ns _ s.grown (given_up_stands c d any_size set s.ids s.ns w s.standing carried)
  happens_stands (publish d x) set w s fit good carried unspent = as_before first c any_size set.limits s.ids s.ns _ s.grown (published_stands c d x any_size set s.ids s.ns w s.standing)
  happens_stands (subscribe d x) set w s fit good carried unspent = as_before first c any_size set.limits s.ids s.ns _ s.grown (subscribed_stands c d x any_size set s.ids s.ns w s.standing good)
  happens_stands (to_end d) set w s fit good carried unspent = as_before first c any_size set.limits s.ids s.ns _ s.grown (read_stands c d any_size set s.ids s.ns w s.standing)
  happens_stands (clock wait) set w s fit good carried unspent = as_before first c any_size set.limits s.ids s.ns _ s.grown (clock_stands c wait any_size set s.ids s.ns w s.standing)
  happens_stands (ask a) set w s fit good carried unspent = asked_stands first c set w s fit a good unspent
  happens_stands restart set w s fit good carried unspent = restarted_stands first c any_size set w s unspent
  happens_stands (stop_before a) set w s fit good carried unspent = stopped_stands first c a any_size set w s unspent
  happens_stands (stop_after a) set w s fit good carried unspent =
      let costs = either (read_first spending set a w) (read_opening spending set (first_step set a w)) unspent in
      stops_stand first c set w s fit a good costs.0 costs.1

-- ---- a turn, and a run

-- behind a turn copies fit the receiver's line
pub fit_after : (first : List CopyId) (c : List ℕ) (limits : Capacity) (t : Turn) (w : World) → Stands first c any_size limits w → IsFit c w → read_at spending (setting limits t) t.event w ≡ false → IsFit c (turned limits t w)
fit_after first c limits t w s f unspent =
    let a = s.standing.around in
    record {
      unused = (turn_goes (Carries HaveSentNothing) limits (carrying HaveSentNothing limits (unused_kept limits)) t w a.within a.steady unspent).said f.unused;
      distinct = (turn_goes (Carries Distinct) limits (carrying Distinct limits (distinct_kept limits)) t w a.within a.steady unspent).said f.distinct;
      once = turn_retains limits t w a.within a.steady unspent f.once;
      takes = turn_takes first c any_size limits t w s f.takes;
      well = turn_well limits t w f.well unspent;
    }

-- it stands, in a world that is as the laws of its own packets ask
pub record IsKept (first : List CopyId) (c : List ℕ) (limits : Capacity) (w : World) : Type 0 where
  pub stands : Stands first c any_size limits w
  pub fit : IsFit c w

-- a turn keeps what is asked of a receiver
pub turn_kept : (first : List CopyId) (c : List ℕ) (limits : Capacity) (t : Turn) (w : World) → IsKept first c limits w → begins_clean t.event w ≡ true → read_at spending (setting limits t) t.event w ≡ false → IsKept first c limits (turned limits t w)
turn_kept first c limits t w k carried unspent = record { stands = by (is_bad t.event w) refl unspent; fit = fit_after first c limits t w k.stands k.fit unspent }
  where
    set : Setting
    set = setting limits t

    by : (bad : Bool) → is_bad t.event w ≡ bad → cond bad false (read_in spending set t.event w) ≡ false → Stands first c any_size limits (cond bad w (happens set t.event w))
    by true is u = k.stands
    by false is u = happens_stands first c t.event set w k.stands k.fit is carried u

-- so does a run
pub run_kept : (first : List CopyId) (c : List ℕ) (limits : Capacity) (ts : List Turn) (w : World) → IsKept first c limits w → run_spends limits ts w ≡ false → are_beginnings_clean limits ts w ≡ true → IsKept first c limits (run limits ts w)
run_kept first c limits [] w k unspent carried = k
run_kept first c limits (t ∷ ts) w k unspent carried =
    let costs = either (read_at spending (setting limits t) t.event w) (run_spends limits ts (turned limits t w)) unspent in
    let clean = both_true (begins_clean t.event w) (are_beginnings_clean limits ts (turned limits t w)) carried in
    run_kept first c limits ts (turned limits t w) (turn_kept first c limits t w k clean.0 costs.0) costs.1 clean.1
