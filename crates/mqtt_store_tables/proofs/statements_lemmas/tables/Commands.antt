-- What the statements mean.
use Rattle.std.proofs.Common.{ℕ, List, [], None, pos, negsuc, false}
use Rattle.sqlite_schema.specs.declared.program.Program.{Program}
use Rattle.sqlite_sql.specs.declared.ops.BinaryOp.TheVariants.{Compare}
use Rattle.sqlite_sql.specs.declared.ops.CompareOp.TheVariants.{Eq}
use Rattle.sqlite_value.specs.declared.keys.Collation.TheVariants.{Binary}
use Rattle.sqlite.specs.Term.{Term, lit, col, op2}
use Rattle.sqlite.specs.Query.{Query, inner, end}
use Rattle.sqlite.specs.declared.types.Value.TheVariants.{Int}

abbrev pub over : ℕ → List Term → List Term → Query
over tree filter project = record { from = inner tree end; filter = filter; group = None; project = project; distinct = false; collations = []; order = []; limit = lit (Int (negsuc 0)); offset = lit (Int (pos 0)) }

abbrev pub program : Query → Program
program q = record { lets = []; body = q }

abbrev pub equals : ℕ → ℕ → Term
equals at param = op2 (Compare Eq Binary) (col 1 at) (col 0 param)
