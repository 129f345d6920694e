-- One identifier is tried after the other.
use Rattle.std.proofs.Common.{◌≡◌, ℕ, suc, ◌+◌, ◌-◌, ◌<◌, List, true, false, length, get_or, arith, sym, ◌∙◌, ap}
use Rattle.mqtt_flow.specs.inbound.Identifiers.{is_among, lowest_from}
use Rattle.mqtt_flow.proofs.inbound.lowest.first_unset.Goals as goal

passed : (n m i f : ℕ) (used : List ℕ) → n ≡ m + 1 → lowest_from n i used ≡ f → is_among i used ≡ true → lowest_from m (i + 1) used ≡ f
passed n m i f used e h taken = let s : n ≡ suc m = omega arith in let t : i + 1 ≡ suc i = omega arith in let h' = rw s at h in rw t (rw taken at h')

pub loop-tried-preserved : goal.loop-tried-preserved
loop-tried-preserved c =
    let l = c.loop-tried in
    let within = c.loop-tried-test.true in
    let in_range : l.identifier < length c.args.flags.now = omega (arith, c.requires.long, l.invariant.next) in
    let flag = c.requires.marked l.identifier in_range in
    let at : c.from.result ≡ l.identifier = c.from.ensures in
    let set : get_or c.args.flags.now c.from.result false ≡ true = c.if-not-flags-from.false in
    record {
      same = passed (length c.args.used.now - l._tried) (length c.args.used.now - (l._tried + 1)) l.identifier _ c.args.used.now (omega arith) l.invariant.same (sym flag ∙ ap (λ n. get_or c.args.flags.now n false) (sym at) ∙ set);
      next = omega arith;
    }
