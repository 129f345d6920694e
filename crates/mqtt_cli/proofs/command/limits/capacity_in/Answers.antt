use Rattle.std.proofs.Common.{Some}
use Rattle.clap.specs.Words.{found_of, rows_of}
use Rattle.mqtt_cli.proofs.command_lemmas.Capacities.{asks_no_capacity, no_capacity-limits, no_capacity-lines, sized_asks}
use Rattle.mqtt_cli.proofs.command.limits.capacity_in.Goals as goal

pub returns : goal.returns
returns c =
    let rows = Some (rows_of (found_of c.args.matches.now)) in
    rw c.with_lines.ensures (sized_asks rows c.in_ok-limits.limits c.in_ok-lines.lines c.in_ok-limits.ensures c.in_ok-lines.ensures.read)

pub returns-in_err-limits : goal.returns-in_err-limits
returns-in_err-limits c =
    let rows = Some (rows_of (found_of c.args.matches.now)) in
    asks_no_capacity rows c.from_residual.result c.from_residual.ensures (no_capacity-limits rows c.in_err-limits.ensures)

pub returns-in_err-lines : goal.returns-in_err-lines
returns-in_err-lines c =
    let rows = Some (rows_of (found_of c.args.matches.now)) in
    asks_no_capacity rows c.from_residual-in_err-lines.result c.from_residual-in_err-lines.ensures
    (no_capacity-lines rows c.in_err-lines.ensures.only)
