-- What is read off a running sum: the numbers that it counts of the cells.
use Rattle.std.specs.Prelude.{List, map, Option, ℤ}
use Rattle.cell_core.specs.declared.cell.Cell.{Cell}
use Rattle.plan_types.specs.declared.aggregate.AggName.{AggName}
use Rattle.plan_types.specs.declared.aggregate.AggName.TheVariants as name
use Rattle.agg_core.specs.Aggregates.{number_in, numbers, size_of}
use Rattle.agg_core.specs.Numbers.{size_in}
use Rattle.agg_core.specs.declared.summed.SumForm.{SumForm}
use Rattle.agg_core.specs.declared.summed.SumForm.TheVariants as form

abbrev pub sum_name : SumForm → AggName
sum_name form.Sum = name.Sum
sum_name form.AbsSum = name.AbsSum
sum_name form.SumAbs = name.SumAbs
sum_name form.Mean = name.Mean
sum_name form.Avg = name.Avg

-- the number of a cell, where it has one
abbrev pub counted_in : SumForm → Cell → Option ℤ
counted_in form.Sum cell = number_in cell
counted_in form.AbsSum cell = number_in cell
counted_in form.SumAbs cell = size_in cell
counted_in form.Mean cell = number_in cell
counted_in form.Avg cell = number_in cell

-- the numbers of some cells
abbrev pub counted : SumForm → List Cell → List ℤ
counted form.Sum cells = numbers cells
counted form.AbsSum cells = numbers cells
counted form.SumAbs cells = map size_of (numbers cells)
counted form.Mean cells = numbers cells
counted form.Avg cells = numbers cells
