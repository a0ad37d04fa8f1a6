use Rattle.std.proofs.Common.{◌≡◌, ◌≤◌, IfOk, IfErr, Ok, sym, subst, arith}
use Rattle.cell_core.specs.RawViews.{map_view}
use Rattle.row_batch.specs.Reading.{RefusesRows}
use Rattle.json_rows.proofs.AcrossLemmas.{whole_from, whole_named, across-many, across-few}
use Rattle.json_rows.proofs.across.across_rows.Goals as goal

pub patches-requires : goal.patches-requires
patches-requires c =
    let schema = c.args.schema.now in
    let is = whole_from schema (map_view c.args.lists.now) _ c.lists_fault.result c.row_count-count.result c.entries-members.ensures c.lists_fault.ensures c.in_default.is c.row_count-count.ensures in
    whole_named schema (map_view c.args.lists.now) c.row_count-count.result is

pub returns-then-count-gt-MAX_BATCH-clause-err : goal.returns-then-count-gt-MAX_BATCH-clause-err
returns-then-count-gt-MAX_BATCH-clause-err c =
    let schema = c.args.schema.now in
    let is = whole_from schema (map_view c.args.lists.now) _ c.lists_fault.result c.row_count-count.result c.entries-members.ensures c.lists_fault.ensures c.in_default.is c.row_count-count.ensures in
    rw c.too_many.ensures (across-many schema (map_view c.args.lists.now) c.row_count-count.result is c.if-count-gt-MAX_BATCH.true)

pub returns-clause-ok : goal.returns-clause-ok
returns-clause-ok c =
    let schema = c.args.schema.now in
    let is = whole_from schema (map_view c.args.lists.now) _ c.lists_fault.result c.row_count-count.result c.entries-members.ensures c.lists_fault.ensures c.in_default.is c.row_count-count.ensures in
    let few : c.row_count-count.result ≤ 1024 = omega arith in
    subst (λ w. IfOk c.patches.result (λ patches. w ≡ Ok patches)) (sym (across-few schema (map_view c.args.lists.now) c.row_count-count.result is few)) c.patches.ensures.ok

pub returns-clause-err : goal.returns-clause-err
returns-clause-err c =
    let schema = c.args.schema.now in
    let is = whole_from schema (map_view c.args.lists.now) _ c.lists_fault.result c.row_count-count.result c.entries-members.ensures c.lists_fault.ensures c.in_default.is c.row_count-count.ensures in
    let few : c.row_count-count.result ≤ 1024 = omega arith in
    subst (λ w. IfErr c.patches.result (RefusesRows w)) (sym (across-few schema (map_view c.args.lists.now) c.row_count-count.result is few)) c.patches.ensures.err
