-- The names of functions, and the units of `bucket`.
use Rattle.std.specs.Prelude.{ℕ, List, codes, Option, Some, None, if◌then◌else◌}
use Rattle.std.specs.Str.{bytes_eq}
use Rattle.cal_units.specs.declared.buckets.Unit.{Unit as TimeUnit}
use Rattle.cal_units.specs.declared.buckets.Unit.TheVariants as unit
use Rattle.expr_spec.specs.declared.function.Function.{Function}
use Rattle.expr_spec.specs.declared.function.Function.TheVariants as function

abbrev pub function_named : List ℕ → Option Function
function_named s =
    if bytes_eq s (codes "abs") then Some function.Abs else
    (if bytes_eq s (codes "min") then Some function.Min else
    (if bytes_eq s (codes "max") then Some function.Max else
    (if bytes_eq s (codes "if") then Some function.If else
    (if bytes_eq s (codes "is_null") then Some function.IsNull else
    (if bytes_eq s (codes "is_not_null") then Some function.IsNotNull else
    (if bytes_eq s (codes "length") then Some function.Length else
    (if bytes_eq s (codes "concat") then Some function.Concat else
    (if bytes_eq s (codes "contains") then Some function.Contains else
    (if bytes_eq s (codes "begins") then Some function.Begins else
    (if bytes_eq s (codes "ends") then Some function.Ends else
    (if bytes_eq s (codes "bucket") then Some function.Bucket else
    (if bytes_eq s (codes "year") then Some function.Year else
    (if bytes_eq s (codes "month") then Some function.Month else
    (if bytes_eq s (codes "day") then Some function.Day else
    (if bytes_eq s (codes "date_of") then Some function.DateOf else
    (if bytes_eq s (codes "hour") then Some function.Hour else None))))))))))))))))

-- year, month, week from Monday, day, and then hour, minute, second
abbrev pub unit_named : List ℕ → Option TimeUnit
unit_named s =
    if bytes_eq s (codes "Y") then Some unit.Y else
    (if bytes_eq s (codes "M") then Some unit.M else
    (if bytes_eq s (codes "W") then Some unit.W else
    (if bytes_eq s (codes "D") then Some unit.D else
    (if bytes_eq s (codes "h") then Some unit.H else
    (if bytes_eq s (codes "m") then Some unit.Min else
    (if bytes_eq s (codes "s") then Some unit.S else None))))))

-- of these a date has the first four
abbrev pub date_unit : TimeUnit → Option TimeUnit
date_unit unit.Y = Some unit.Y
date_unit unit.M = Some unit.M
date_unit unit.W = Some unit.W
date_unit unit.D = Some unit.D
date_unit unit.H = None
date_unit unit.Min = None
date_unit unit.S = None
