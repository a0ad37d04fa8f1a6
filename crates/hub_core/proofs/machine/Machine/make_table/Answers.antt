use Rattle.std.proofs.Common.{◌≡◌, List, Some, refl, sym, ap, ◌∙◌, subst}
use Rattle.cell_core.specs.Schemas.{SchemaData}
use Rattle.frame_types.specs.Asks as ask
use Rattle.frame_types.specs.Refusals.{bad_schema}
use Rattle.frame_types.specs.declared.reply.Body.TheVariants as body
use Rattle.hub_spec.specs.Giving.{with_step}
use Rattle.hub_spec.specs.Past.{PastStep}
use Rattle.hub_spec.proofs.Giving.{plain_given}
use Rattle.hub_core.specs.Holding.{HoldsSchema}
use Rattle.hub_core.proofs.Bare.{bad_plain, bare_refused, bare_wanted, table_is_made}
use Rattle.hub_core.proofs.machine.Machine.make_table.Goals as goal

pub returns-in-Err-Bad-clause-gives : goal.returns-in-Err-Bad-clause-gives
returns-in-Err-Bad-clause-gives c = λ session past h few.
    let a = c.args in
    let held = rw c.requires at h in
    rw (c.bad_schema.ensures, c.requires)
    (bare_refused past session (ask.table a.columns a.index a.limit) (bad_schema c.in-Err-Bad.cause c.in-Err-Bad.at) held refl
    (bad_plain past session a.columns a.index a.limit c.in-Err-Bad.field-0 c.in-Err-Bad.cause c.in-Err-Bad.at held.0 c.in-Err-Bad.ensures.err c.in-Err-Bad.field-0-is))

pub returns-in-Err-Memory-clause-gives : goal.returns-in-Err-Memory-clause-gives
returns-in-Err-Memory-clause-gives c = λ session past h few.
    let a = c.args in
    rw (c.memory.ensures, c.requires) (bare_wanted past session a.columns a.index a.limit (rw c.requires at h))

pub returns-in_default-clause-gives : goal.returns-in_default-clause-gives
returns-in_default-clause-gives c = λ session past h few.
    let a = c.args in
    rw (c.memory-in_default.ensures, c.requires) (bare_wanted past session a.columns a.index a.limit (rw c.requires at h))

pub returns-clause-gives : goal.returns-clause-gives
returns-clause-gives c = λ session past h few.
    let a = c.args in
    let held = rw c.requires at h in
    record {
      given = plain_given past session (ask.table a.columns a.index a.limit) body.Table refl (rw (held.0, c.in-Ok.ensures.ok) refl);
      holds = λ n at.
          let now : List PastStep = with_step session (ask.table a.columns a.index a.limit) n at body.Table past in
          c.new.ensures now
          (subst (λ (s : SchemaData). HoldsSchema (Some s) now) (sym c.in-Ok-make.ensures.schema)
          (table_is_made past session n at a.columns a.index a.limit c.in-Ok.schema held c.in-Ok.ensures.ok));
    }
