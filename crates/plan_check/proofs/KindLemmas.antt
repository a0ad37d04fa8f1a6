-- The types of arguments, one after another.
use Rattle.std.proofs.Common.{◌≡◌, ℕ, ◌<◌, List, [], ◌∷◌, map, length, Option, Some, None, Result, Ok, Err, refl, sym, ◌∙◌, ap, arith, rules}
use Rattle.plain_data.specs.Results.{and_then}
use Rattle.cell_core.specs.declared.cell.CellType.{CellType}
use Rattle.cell_core.specs.declared.cell.CellType.TheVariants.{Integer, Boolean, Date, Moment, Words}
use Rattle.plan_types.specs.declared.tree.Tree.{Tree}
use Rattle.plan_types.specs.declared.tree.TreeNode.{the_lemmas}
use Rattle.plan_types.specs.declared.tree.TreeNode.TheVariants as node
use Rattle.expr_spec.specs.declared.function.Function.{Function}
use Rattle.expr_spec.specs.declared.function.Function.TheVariants as function
use Rattle.expr_spec.specs.declared.refused.TreeRefused.{TreeRefused}
use Rattle.expr_spec.specs.declared.refused.TreeCause.TheVariants as cause
use Rattle.expr_spec.specs.Functions.{function_named}
use Rattle.expr_spec.specs.TreeData.{call, Arguments}
use Rattle.expr_spec.specs.TreeViews.{tree_view, arguments_of}
use Rattle.expr_spec.specs.Typing.{or_fault, if_kind, bucket_kind, call_kind, unit_kind, named_kind}
use Rattle.plan_check.specs.declared.kinds.Kinds.{Kinds}
use Rattle.plan_check.specs.declared.kinds.Kinds.TheVariants as kinds
use Rattle.plan_check.specs.Kinds.{list_of, kinds_after, found_after}

-- ---- more than three types

after-more : (ks : List CellType) → kinds_after kinds.More ks ≡ kinds.More
after-more [] = refl
after-more (k ∷ ks) = after-more ks

if-four : (a b c d : CellType) (more : List CellType) → if_kind (a ∷ b ∷ c ∷ d ∷ more) ≡ None
if-four Integer b c d more = refl
if-four Boolean b c d more = refl
if-four Date b c d more = refl
if-four Moment b c d more = refl
if-four Words b c d more = refl

bucket-four : (a b c d : CellType) (more : List CellType) → bucket_kind (a ∷ b ∷ c ∷ d ∷ more) ≡ None
bucket-four Integer b c d more = refl
bucket-four Boolean b c d more = refl
bucket-four Date b c d more = refl
bucket-four Moment b c d more = refl
bucket-four Words b c d more = refl

call-four : (f : Function) (a b c d : CellType) (more : List CellType) → call_kind f (a ∷ b ∷ c ∷ d ∷ more) ≡ None
call-four function.If a b c d more = if-four a b c d more
call-four function.Bucket a b c d more = bucket-four a b c d more
call-four f a b c d more = refl

call-kinds : (f : Function) (ks : List CellType) → call_kind f (list_of (kinds_after kinds.Zero ks)) ≡ call_kind f ks
call-kinds f [] = refl
call-kinds f (a ∷ []) = refl
call-kinds f (a ∷ b ∷ []) = refl
call-kinds f (a ∷ b ∷ c ∷ []) = refl
call-kinds f (a ∷ b ∷ c ∷ d ∷ more) =
    ap (λ k. call_kind f (list_of k)) (after-more more)
    ∙ call-four f Integer Integer Integer Integer []
    ∙ sym (call-four f a b c d more)

-- fewer than two arguments have no second
pub unit_few : (trees : List Tree) (kind : CellType) → length trees < 2 → Some kind ≡ unit_kind function.Bucket (arguments_of (map tree_view trees)) kind
unit_few [] kind h = refl
unit_few (a ∷ []) kind h = refl
unit_few (a ∷ b ∷ more) kind h = absurd (omega arith)

-- ---- a call

pub view_call : (t : Tree) (name : List ℕ) (trees : List Tree) → t.node ≡ node.Call name trees → tree_view t ≡ call t.at name (arguments_of (map tree_view trees))
view_call t name trees e = search (rules, the_lemmas, e)

named-kinds : (at : ℕ) (name : List ℕ) (args : Arguments) (ks : List CellType) → named_kind at name args (list_of (kinds_after kinds.Zero ks)) ≡ named_kind at name args ks
named-kinds at name args ks = by_function (function_named name)
  where
    by_function : (f : Option Function)
        → and_then (or_fault cause.Unknown at f) (λ f. and_then (or_fault cause.BadType at (call_kind f (list_of (kinds_after kinds.Zero ks)))) (λ kind. or_fault cause.Unit at (unit_kind f args kind)))
        ≡ and_then (or_fault cause.Unknown at f) (λ f. and_then (or_fault cause.BadType at (call_kind f ks)) (λ kind. or_fault cause.Unit at (unit_kind f args kind)))
    by_function None = refl
    by_function (Some f) = ap (λ o. and_then (or_fault cause.BadType at o) (λ kind. or_fault cause.Unit at (unit_kind f args kind))) (call-kinds f ks)

-- of arguments whose types were found
pub call_typed : (at : ℕ) (name : List ℕ) (args : Arguments) (r : Result (List CellType) TreeRefused) (k : Kinds) (answer : Result CellType TreeRefused)
    → Ok k ≡ found_after kinds.Zero r → answer ≡ named_kind at name args (list_of k) → answer ≡ and_then r (named_kind at name args)
call_typed at name args (Ok ks) k answer e h =
    let same : k ≡ kinds_after kinds.Zero ks = cc in
    h ∙ ap (λ k. named_kind at name args (list_of k)) same ∙ named-kinds at name args ks
call_typed at name args (Err fault) k answer e h = cc

-- and of arguments with a fault
pub call_refused : (at : ℕ) (name : List ℕ) (args : Arguments) (r : Result (List CellType) TreeRefused) (fault : TreeRefused)
    → Err fault ≡ found_after kinds.Zero r → Err fault ≡ and_then r (named_kind at name args)
call_refused at name args (Ok ks) fault e = cc
call_refused at name args (Err other) fault e = cc
