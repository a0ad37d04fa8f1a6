-- How many levels stand open, counted from the other end.
use Rattle.std.proofs.Common.{◌≡◌, ◌+◌, List, [], ◌∷◌, ◌++◌, refl, sym, ap, ◌∙◌, arith}
use Rattle.std.specs.Prelude.{reverse}
use Rattle.std.proofs.lemmas.List.{reverse-append}
use Rattle.expr_parse.specs.declared.frame.Frame.{Frame}
use Rattle.expr_parse.specs.Machine.{depth}

depth-append : (fs gs : List Frame) → depth (fs ++ gs) ≡ depth fs + depth gs
depth-append [] gs = omega arith
depth-append (f ∷ fs) gs = let e = depth-append fs gs in omega arith

depth-reverse : (fs : List Frame) → depth (reverse fs) ≡ depth fs
depth-reverse [] = refl
depth-reverse (f ∷ fs) =
    let e : depth (reverse (f ∷ fs)) ≡ depth (reverse fs) + depth (f ∷ []) = ap depth (reverse-append (f ∷ []) fs) ∙ depth-append (reverse fs) (f ∷ []) in
    let h = depth-reverse fs in
    omega arith

pub depth_of_reverse : (fs gs : List Frame) → reverse fs ≡ gs → depth fs ≡ depth gs
depth_of_reverse fs gs e = sym (depth-reverse fs) ∙ ap depth e
