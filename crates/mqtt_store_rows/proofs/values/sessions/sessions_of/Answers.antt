use Rattle.std.proofs.Common.{◌≡◌, ℕ, ◌+◌, ◌<◌, List, [], ◌∷◌, ◌++◌, length, length-append, append-nil, drop, refl, sym, ap, subst, ◌∙◌, arith}
use Rattle.std.specs.Prelude.{Err}
use Rattle.std.proofs.lemmas.List.{drop_all}
use Rattle.sqlite_value.specs.Order.{Row}
use Rattle.mqtt_base.specs.declared.limits.TheConstants.{SESSION_LIMIT}
use Rattle.mqtt_keep.specs.declared.keeping.keep.KeepError.{KeepError}
use Rattle.mqtt_records.specs.declared.state.session.Session.{Session}
use Rattle.mqtt_records.specs.state.Session.{birth_of}
use Rattle.mqtt_records.specs.lists.Order.{put_row}
use Rattle.mqtt_store_rows.specs.values.Ones.{one_number}
use Rattle.mqtt_store_rows.specs.values.Gives.{no_parts, AreSessions, IsWithin}
use Rattle.mqtt_store_rows.proofs.values_lemmas.ListLemmas.{below_less, below_push, ascending_push}
use Rattle.mqtt_store_rows.proofs.values_lemmas.PartLemmas.{Left, all_push, first_of_left, left_more, above_none, as_many, drop_is, sound_more}
use Rattle.mqtt_store_rows.proofs.values.sessions.sessions_of.Goals as goal

pub returns-then-rows-gt-SESSION_LIMIT-clause-err : goal.returns-then-rows-gt-SESSION_LIMIT-clause-err
returns-then-rows-gt-SESSION_LIMIT-clause-err c e all are list within =
    let long = c.if-rows-gt-SESSION_LIMIT.true in
    let short = list.within in
    let same = as_many c.args.rows.now c.args.parts.now all are in
    omega (arith, long, same, short)

pub loop-row-init : goal.loop-row-init
loop-row-init c = rw (c.in_ok-all.ensures, c.reborrow-left.ensures) record {
  sound = λ ss h. h;
  complete = λ all are within up. record { those = all; are = are; all = within; up = up; above = above_none _ _ all are };
  order = tt;
  each = tt;
  low = tt;
  count = refl;
}

pub returns-in-Err-clause-err : goal.returns-in-Err-clause-err
returns-in-Err-clause-err c e all are list within =
    let rows = c.args.rows.now in
    let i = c.loop-row.row-index in
    let row = c.row-item.result in
    let same : c.in-Err.fault ≡ KeepError.Corrupt = cc in
    let left = subst (λ (l : List Row). Left l c.loop-row.left c.loop-row.last) (drop_is rows i row c.loop-row-test.true c.row-item.is) (c.loop-row.invariant.complete all are within list.ascending) in
    let f = first_of_left row (drop (i + 1) rows) _ _ left in
    c.in-Err.ensures.err (ap Err same) f.one f.more f.says f.takes f.ends f.within

pub returns-then-birth-last-clause-err : goal.returns-then-birth-last-clause-err
returns-then-birth-last-clause-err c e all are list within =
    let rows = c.args.rows.now in
    let i = c.loop-row.row-index in
    let row = c.row-item.result in
    let left = subst (λ (l : List Row). Left l c.loop-row.left c.loop-row.last) (drop_is rows i row c.loop-row-test.true c.row-item.is) (c.loop-row.invariant.complete all are within list.ascending) in
    let f = first_of_left row (drop (i + 1) rows) _ _ left in
    let birth : f.one.birth ≡ c.in-Ok.found.0.birth = one_number _ _ _ f.says.birth c.in-Ok.ensures.says.birth in
    let above = f.above in
    let le = c.if-birth-last.true in
    omega (arith, birth, above, le)

pub loop-row-preserved : goal.loop-row-preserved
loop-row-preserved c =
    let rows = c.args.rows.now in
    let i = c.loop-row.row-index in
    let row = c.row-item.result in
    let all = c.loop-row.all in
    let last = c.loop-row.last in
    let parts = c.loop-row.left in
    let s = c.in-Ok.found.0 in
    let rest = c.in-Ok.found.1 in
    let found = c.in-Ok.ensures in
    let held = c.loop-row.invariant in
    let behind = drop (i + 1) rows in
    let within = c.loop-row-test.true in
    let short = c.if-rows-gt-SESSION_LIMIT.false in
    let count = held.count in
    let less : last < s.birth = let le = c.if-birth-last.false in omega (arith, le) in
    let room : length all < SESSION_LIMIT = omega (arith, count, within, short) in
    let is : drop i rows ≡ row ∷ behind = drop_is rows i row within c.row-item.is in
    let low = below_less birth_of last s.birth all held.low less in
    let last_one : put_row birth_of SESSION_LIMIT s all ≡ all ++ s ∷ [] = c.newest_comes_last.ensures SESSION_LIMIT s all low room in
    let put : c.put.new.self ≡ all ++ s ∷ [] = c.put.ensures ∙ (ap (λ (x : Session). put_row birth_of SESSION_LIMIT x all) c.in_ok-new.ensures ∙ last_one) in
    rw put record {
      sound = sound_more rows c.args.parts.now all (drop i rows) parts rest behind row s is held.sound found.says found.takes;
      complete = λ others are good up. left_more row behind parts rest last s found.says found.takes found.ends (subst (λ (l : List Row). Left l parts last) is (held.complete others are good up));
      order = ascending_push birth_of all s held.order low;
      each = all_push IsWithin all s held.each found.within;
      low = below_push birth_of last all s held.low less;
      count = length-append all (s ∷ []) ∙ ap (λ (n : ℕ). n + 1) count;
    }

pub returns-clause-ok : goal.returns-clause-ok
returns-clause-ok c =
    let rows = c.args.rows.now in
    let i = c.loop-row.row-index in
    let all = c.loop-row.all in
    let none : c.loop-row.left ≡ no_parts = c.if-not-is_empty.ensures in
    let at_end : AreSessions (drop i rows) c.loop-row.left [] = subst (λ (l : List Row). AreSessions l c.loop-row.left []) (sym (drop_all i rows c.loop-row-test.false)) none in
    subst (AreSessions rows c.args.parts.now) (append-nil all) (c.loop-row.invariant.sound [] at_end)
