use Rattle.std.proofs.Common.{◌≡◌, refl, sym, ◌∙◌, inr}
use Rattle.mqtt_store_tables.specs.declared.schema.found.FoundStore.TheVariants.{First, Second, Empty, Broken, Other}
use Rattle.mqtt_store_database.proofs.loading.load.load_from.Goals as goal

pub returns-in-Ok-First-clause-refused : goal.returns-in-Ok-First-clause-refused
returns-in-Ok-First-clause-refused g c clean =
    let is = c.in-Ok-First.field-0-is in
    let same = c.in-Ok-First.ensures.untouched (λ e. let k : First ≡ Broken = sym is ∙ e in cc) (λ e. let k : First ≡ Other = sym is ∙ e in cc) in
    rw same at (c.load_first.ensures.loads.refused clean)

pub returns-in-Ok-Second-clause-refused : goal.returns-in-Ok-Second-clause-refused
returns-in-Ok-Second-clause-refused g c clean =
    let is = c.in-Ok-Second.field-0-is in
    let same = c.in-Ok-Second.ensures.untouched (λ e. let k : Second c.in-Ok-Second.making ≡ Broken = sym is ∙ e in cc) (λ e. let k : Second c.in-Ok-Second.making ≡ Other = sym is ∙ e in cc) in
    rw same at (c.load_second.ensures.loads.refused clean)

pub returns-in-Ok-Empty-clause-read : goal.returns-in-Ok-Empty-clause-read
returns-in-Ok-Empty-clause-read g c =
    let is = c.in-Ok-Empty.field-0-is in
    let same = c.in-Ok-Empty.ensures.untouched (λ e. let k : Empty ≡ Broken = sym is ∙ e in cc) (λ e. let k : Empty ≡ Other = sym is ∙ e in cc) in
    rw same at c.load_empty.ensures.loads.read

pub returns-in-Ok-Broken-clause-refused : goal.returns-in-Ok-Broken-clause-refused
returns-in-Ok-Broken-clause-refused g c clean =
    let found = rw c.in-Ok-Broken.field-0-is at (c.in-Ok-Broken.ensures.found clean) in
    (inr (inr found.0), (c.args.conn.now, c.found_store.new.conn, refl, found.1))

pub returns-in-Ok-Other-clause-refused : goal.returns-in-Ok-Other-clause-refused
returns-in-Ok-Other-clause-refused g c clean =
    let found = rw c.in-Ok-Other.field-0-is at (c.in-Ok-Other.ensures.found clean) in
    (inr (inr found.0), (c.args.conn.now, c.found_store.new.conn, refl, found.1))
