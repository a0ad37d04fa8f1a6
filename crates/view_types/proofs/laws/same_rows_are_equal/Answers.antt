use Rattle.view_types.proofs.SameRows as same
use Rattle.view_types.proofs.laws.same_rows_are_equal.Goals as goal

pub returns-clause-rows : goal.returns-clause-rows
returns-clause-rows c = same.same_row_is_equal

pub returns-clause-itself : goal.returns-clause-itself
returns-clause-itself c = same.same_row_itself

pub returns-clause-headers : goal.returns-clause-headers
returns-clause-headers c = same.same_header_is_equal

pub returns-clause-header_itself : goal.returns-clause-header_itself
returns-clause-header_itself c = same.same_header_itself
