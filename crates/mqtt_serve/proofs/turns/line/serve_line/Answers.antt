use Rattle.std.proofs.Common.{◌≡◌, ◌≤◌, ℕ, List, Err, rules, arith, take, length, inl, inr, ap, sym, subst, ◌||◌, nat_lt}
use Rattle.std.proofs.lemmas.List.{length-take, length-take-le}
use Rattle.mqtt_serve.specs.turns.Turns.{server, ReadsAt}
use Rattle.mqtt_serve.specs.declared.turns.turn.TheConstants.{READ_LIMIT}
use Rattle.mqtt_serve.proofs.turns.line.serve_line.Goals as goal

-- a beginning of so many bytes is no longer than they
within_room : (n room : ℕ) (xs : List ℕ) → length xs ≡ room → length (take n xs) ≤ room
within_room n room xs e = omega (arith, length-take n xs, e)

pub returns-clause-serves : goal.returns-clause-serves
returns-clause-serves g c =
    let len : length c.read_at-count.new.buffer ≡ READ_LIMIT = search rules in
    record {
      number = c.number_at-number.result;
      bytes = take c.read_at-count.result c.read_at-count.new.buffer;
      heard = c.read_at-count.new.self;
      given = server c.give_at.new.engine c.give_at.new.lines;
      sent = server c.pump_at.new.engine c.pump_at.new.lines;
      wrote = c.write_at-wrote.result;
      written = c.write_at-wrote.new.self;
      reads = record { is_its = search rules; within = within_room _ _ _ len; reads = subst (λ (n : ℕ). ReadsAt c.args.place n (take c.read_at-count.result c.read_at-count.new.buffer) c.args.lines.now c.read_at-count.new.self) len c.read_at-count.ensures.reads };
      gives = c.in_ok-give_at.ensures.gives;
      pumps = c.in_ok-pump_at.ensures.pumps;
      writes = c.write_at-wrote.ensures.writes;
      loses = c.in_ok-report_at.ensures.loses;
      moved_is = ap (λ n. c.write_at-wrote.result || nat_lt 0 n) (sym (length-take-le _ _ c.read_at-count.ensures.bound));
    }

pub returns-in_err-give_at-clause-breaks : goal.returns-in_err-give_at-clause-breaks
returns-in_err-give_at-clause-breaks g c =
    let len : length c.read_at-count.new.buffer ≡ READ_LIMIT = search rules in
    let is : c.from_residual.result ≡ Err c.in_err-give_at.field-0.0 = search rules in
    rw is (inl (record {
      number = c.number_at-number.result;
      bytes = take c.read_at-count.result c.read_at-count.new.buffer;
      heard = c.read_at-count.new.self;
      reads = record { is_its = search rules; within = within_room _ _ _ len; reads = subst (λ (n : ℕ). ReadsAt c.args.place n (take c.read_at-count.result c.read_at-count.new.buffer) c.args.lines.now c.read_at-count.new.self) len c.read_at-count.ensures.reads };
      some = c.in_err-give_at.ensures.breaks.0;
      breaks = c.in_err-give_at.ensures.breaks.1;
    }))

pub returns-in_err-pump_at-clause-breaks : goal.returns-in_err-pump_at-clause-breaks
returns-in_err-pump_at-clause-breaks g c =
    let len : length c.read_at-count.new.buffer ≡ READ_LIMIT = search rules in
    let is : c.from_residual-in_err-pump_at.result ≡ Err c.in_err-pump_at.field-0.0 = search rules in
    rw is (inr (inl (record {
      number = c.number_at-number.result;
      bytes = take c.read_at-count.result c.read_at-count.new.buffer;
      heard = c.read_at-count.new.self;
      given = server c.give_at.new.engine c.give_at.new.lines;
      reads = record { is_its = search rules; within = within_room _ _ _ len; reads = subst (λ (n : ℕ). ReadsAt c.args.place n (take c.read_at-count.result c.read_at-count.new.buffer) c.args.lines.now c.read_at-count.new.self) len c.read_at-count.ensures.reads };
      gives = c.in_ok-give_at.ensures.gives;
      may = c.in_err-pump_at.ensures.breaks.0;
      refused = c.in_err-pump_at.ensures.breaks.1;
    })))

pub returns-in_err-report_at-clause-breaks : goal.returns-in_err-report_at-clause-breaks
returns-in_err-report_at-clause-breaks g c =
    let len : length c.read_at-count.new.buffer ≡ READ_LIMIT = search rules in
    let is : c.from_residual-in_err-report_at.result ≡ Err c.in_err-report_at.field-0.0 = search rules in
    rw is (inr (inr (record {
      number = c.number_at-number.result;
      bytes = take c.read_at-count.result c.read_at-count.new.buffer;
      heard = c.read_at-count.new.self;
      given = server c.give_at.new.engine c.give_at.new.lines;
      sent = server c.pump_at.new.engine c.pump_at.new.lines;
      wrote = c.write_at-wrote.result;
      written = c.write_at-wrote.new.self;
      reads = record { is_its = search rules; within = within_room _ _ _ len; reads = subst (λ (n : ℕ). ReadsAt c.args.place n (take c.read_at-count.result c.read_at-count.new.buffer) c.args.lines.now c.read_at-count.new.self) len c.read_at-count.ensures.reads };
      gives = c.in_ok-give_at.ensures.gives;
      pumps = c.in_ok-pump_at.ensures.pumps;
      writes = c.write_at-wrote.ensures.writes;
      lost = c.in_err-report_at.ensures.breaks.0;
      refused = c.in_err-report_at.ensures.breaks.1;
    })))
