use Rattle.std.proofs.Common.{◌≤◌, List, subst, sym}
use Rattle.cell_core.specs.declared.cell.Cell.{Cell}
use Rattle.indexmap.specs.IndexMap.{spare}
use Rattle.row_batch.specs.Checks.{IsChecked}
use Rattle.table_core.specs.Lookups.{pairs_of}
use Rattle.table_core.specs.Prepared.{IsPrepared}
use Rattle.table_core.specs.Tables.{TableData}
use Rattle.table_core.proofs.Preparing.{prepared}
use Rattle.table_core.proofs.table.Table.prepare.Goals as goal

pub invariant_of-result : goal.invariant_of-result
invariant_of-result c =
    let d = c.in_ok-draft.draft in
    let inside = c.self.inside in
    let batch = c.args.batch.now in
    let table : List (Cell × List Cell) → TableData =
    λ es. record { schema = inside.schema; store = record { pairs = pairs_of es; number = inside.number }; room = spare c.reserve.new.self } in
    let P : List (Cell × List Cell) → Type 0 = λ es. IsPrepared (table es) batch d.changes.items d.finals.entries d.number in
    let checked = subst (λ (t : TableData). IsChecked t.schema batch) (sym c.self.view_is) c.requires.checked in
    let room = subst (λ n. n ≤ spare c.reserve.new.self) c.puts.ensures c.in_ok-reserve.ensures.ok in
    let was = prepared (table inside.rows.entries) batch d c.of.ensures.schema checked c.self.invariant c.in_ok-draft.ensures.draft c.in_ok-draft.ensures.changes c.in_ok-draft.ensures.number room in
    let now = subst P (sym c.in_ok-reserve.ensures.entries) was in
    subst (λ t. IsPrepared t c.of-3.result.value d.changes.items d.finals.entries d.number) (sym c.of-2.ensures)
    (subst (λ b. IsPrepared (table c.reserve.new.self.entries) b d.changes.items d.finals.entries d.number) (sym c.of-3.ensures) now)
