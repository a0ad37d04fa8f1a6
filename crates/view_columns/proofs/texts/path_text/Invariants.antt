use Rattle.std.proofs.Common.{◌≡◌, ◌++◌, drop, string_bytes}
use Rattle.view_spec.specs.Cells.{path_text}
use Rattle.view_columns.proofs.texts.path_text.Given as goal

-- the text so far, and then that of the values that are left, is the whole
abbrev pub invariant-loop-value : goal.invariant-loop-value
invariant-loop-value l = string_bytes l.text ++ path_text (drop l.value-index l.split) l.name ≡ path_text l.split l.name
