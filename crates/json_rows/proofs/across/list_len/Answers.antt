use Rattle.std.proofs.Common.{sym}
use Rattle.json_rows.proofs.Lists.{list_len-list}
use Rattle.json_rows.proofs.across.list_len.Goals as goal

pub returns-in-List : goal.returns-in-List
returns-in-List c = sym (list_len-list c.args.value.now c.in-List.values c.as_slice.result.now c.in-List.is c.as_slice.ensures)
