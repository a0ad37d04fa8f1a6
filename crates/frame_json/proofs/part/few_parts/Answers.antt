use Rattle.std.proofs.Common.{sym, arith}
use Rattle.frame_json.proofs.Pairs.{few_parts, many_parts}
use Rattle.frame_json.proofs.part.few_parts.Goals as goal

pub returns-then-parts-gt-MAX_DEPTH : goal.returns-then-parts-gt-MAX_DEPTH
returns-then-parts-gt-MAX_DEPTH c = sym (many_parts c.args.parts.now (omega arith))

pub returns : goal.returns
returns c = rw (few_parts c.args.parts.now (omega arith)) c.parts_of.ensures
