use Rattle.std.proofs.Common.{◌⊎◌, rules}
use Rattle.std.specs.Prelude.{IsErrOf}
use Rattle.std.proofs.lemmas.Result.{on_ok_weaker}
use Rattle.mqtt_keep.specs.declared.keeping.keep.KeepError.TheVariants.{Memory, Size}
use Rattle.mqtt_serve.proofs.gathered_lemmas.Gathers.{emptied, left_told, left_then, listed, told_all, waits_on}
use Rattle.mqtt_serve.proofs.gathered.gathered.GatheredSettles.settle.Goals as goal

pub returns-in_err-apply-clause-memory : goal.returns-in_err-apply-clause-memory
returns-in_err-apply-clause-memory g c = λ is.
    let told : IsErrOf c.apply.result Memory ⊎ IsErrOf c.apply.result Size = search rules in
    let its = c.apply.ensures.same told in (
      its.0,
      λ r h.
          waits_on g.K.Keep.holds c.args.self.now.keep c.apply.new.self c.move_behind.new.list.items c.move_behind.new.self r
          (listed g.K.Keep.holds c.args.self.now.keep c.args.self.now.changes.items c.move_behind.new.list.items c.args.self.now.counts c.move_behind.new.self r c.in_ok-move_behind.ensures.moved c.in_ok-move_behind.ensures.none h)
          (λ start has fit say same. its.1 start has (rw c.deref.ensures.value fit) (rw c.deref.ensures.value say) (rw c.deref.ensures.value same)),
    )

pub returns-in_err-apply-clause-crash : goal.returns-in_err-apply-clause-crash
returns-in_err-apply-clause-crash g c = λ r left h may.
    left_told g.K.Keep.holds c.args.self.now.keep (g.K.Keep.leaves c.args.self.now.keep left) c.move_behind.new.list.items c.move_behind.new.self r left c.in_ok-move_behind.ensures.none
    (listed g.K.Keep.holds c.args.self.now.keep c.args.self.now.changes.items c.move_behind.new.list.items c.args.self.now.counts c.move_behind.new.self r c.in_ok-move_behind.ensures.moved c.in_ok-move_behind.ensures.none h)
    (λ start has fit say same. rw (← c.deref.ensures.value) (c.apply.ensures.crash start left has (rw c.deref.ensures.value fit) (rw c.deref.ensures.value say) (rw c.deref.ensures.value same) may))

pub returns-clause-same : goal.returns-clause-same
returns-clause-same g c = λ r h.
    let has : g.K.Keep.holds c.apply.new.self r =
    told_all g.K.Keep.holds c.args.self.now.keep c.apply.new.self c.move_behind.new.list.items c.move_behind.new.self r c.in_ok-move_behind.ensures.none
    (listed g.K.Keep.holds c.args.self.now.keep c.args.self.now.changes.items c.move_behind.new.list.items c.args.self.now.counts c.move_behind.new.self r c.in_ok-move_behind.ensures.moved c.in_ok-move_behind.ensures.none h)
    (λ start has fit say same. rw (← c.deref.ensures.value) (c.in_ok-apply.ensures.ok start has (rw c.deref.ensures.value fit) (rw c.deref.ensures.value say) (rw c.deref.ensures.value same))) in
    on_ok_weaker c.settle-2.result (emptied g.K.Keep.holds c.settle-2.new.self c.clear.new.self.items c.move_behind.new.self r (c.clear.ensures.items, c.in_ok-move_behind.ensures.none)) (c.settle-2.ensures.same r has)

pub returns-clause-memory : goal.returns-clause-memory
returns-clause-memory g c = λ is.
    let its = c.settle-2.ensures.memory is in (
      its.0,
      λ r h.
          let has : g.K.Keep.holds c.apply.new.self r =
          told_all g.K.Keep.holds c.args.self.now.keep c.apply.new.self c.move_behind.new.list.items c.move_behind.new.self r c.in_ok-move_behind.ensures.none
          (listed g.K.Keep.holds c.args.self.now.keep c.args.self.now.changes.items c.move_behind.new.list.items c.args.self.now.counts c.move_behind.new.self r c.in_ok-move_behind.ensures.moved c.in_ok-move_behind.ensures.none h)
          (λ start has fit say same. rw (← c.deref.ensures.value) (c.in_ok-apply.ensures.ok start has (rw c.deref.ensures.value fit) (rw c.deref.ensures.value say) (rw c.deref.ensures.value same))) in
          emptied g.K.Keep.holds c.settle-2.new.self c.clear.new.self.items c.move_behind.new.self r (c.clear.ensures.items, c.in_ok-move_behind.ensures.none) (its.1 r has),
    )

pub returns-clause-crash : goal.returns-clause-crash
returns-clause-crash g c = λ r left h may.
    let held = listed g.K.Keep.holds c.args.self.now.keep c.args.self.now.changes.items c.move_behind.new.list.items c.args.self.now.counts c.move_behind.new.self r c.in_ok-move_behind.ensures.moved c.in_ok-move_behind.ensures.none h in
    left_then (g.K.Keep.leaves c.args.self.now.keep left) (g.K.Keep.leaves c.apply.new.self left) r left
    (λ was. left_told g.K.Keep.holds c.args.self.now.keep (g.K.Keep.leaves c.args.self.now.keep left) c.move_behind.new.list.items c.move_behind.new.self r left c.in_ok-move_behind.ensures.none held
    (λ start has fit say same. rw (← c.deref.ensures.value) (c.apply.ensures.crash start left has (rw c.deref.ensures.value fit) (rw c.deref.ensures.value say) (rw c.deref.ensures.value same) was)))
    (c.settle-2.ensures.crash r left
    (told_all g.K.Keep.holds c.args.self.now.keep c.apply.new.self c.move_behind.new.list.items c.move_behind.new.self r c.in_ok-move_behind.ensures.none held
    (λ start has fit say same. rw (← c.deref.ensures.value) (c.in_ok-apply.ensures.ok start has (rw c.deref.ensures.value fit) (rw c.deref.ensures.value say) (rw c.deref.ensures.value same))))
    may)
