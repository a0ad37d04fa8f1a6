-- Lists of numbers in which none stands twice, and what is kept under them where one changes.
use Rattle.std.proofs.Common.{◌≡◌, ℕ, suc, zero, ◌<◌, ◌≤◌, Bool, true, false, List, [], ◌∷◌, ◌++◌, map, filter, set, Some, refl, sym, ap, ◌∙◌, inl, inr, arith, subst}
use Rattle.std.specs.Prelude.{slice_get, remove, if◌then◌else◌}
use Rattle.std.proofs.lemmas.Bool.{cases_eq}
use Rattle.hub_spec.specs.Ports.{numbers_below}

-- the number doesn't stand in the list
abbrev pub Lacks : ℕ → List ℕ → Type 0
Lacks k [] = Unit {0}
Lacks k (n ∷ ns) = (n ≡ k → ⊥) × Lacks k ns

-- no number stands twice
abbrev pub Differ : List ℕ → Type 0
Differ [] = Unit {0}
Differ (n ∷ ns) = Lacks n ns × Differ ns

lacks-snoc : (k m : ℕ) (ns : List ℕ) → Lacks k ns → (m ≡ k → ⊥) → Lacks k (ns ++ m ∷ [])
lacks-snoc k m [] l apart = (apart, tt)
lacks-snoc k m (n ∷ ns) l apart = (l.0, lacks-snoc k m ns l.1 apart)

differ-snoc : (m : ℕ) (ns : List ℕ) → Differ ns → Lacks m ns → Differ (ns ++ m ∷ [])
differ-snoc m [] d l = (tt, tt)
differ-snoc m (n ∷ ns) d l = (lacks-snoc n m ns d.0 (λ e. l.0 (sym e)), differ-snoc m ns d.1 l.1)

pub numbers_lack : (n k : ℕ) → n ≤ k → Lacks k (numbers_below n)
numbers_lack zero k le = tt
numbers_lack (suc n) k le = lacks-snoc k n (numbers_below n) (numbers_lack n k (omega arith)) (λ e. absurd (omega arith))

pub numbers_differ : (n : ℕ) → Differ (numbers_below n)
numbers_differ zero = tt
numbers_differ (suc n) = differ-snoc n (numbers_below n) (numbers_differ n) (numbers_lack n n (omega arith))

-- what lacks the longer list
lacks-front : (k m : ℕ) (ns : List ℕ) → Lacks k (ns ++ m ∷ []) → Lacks k ns
lacks-front k m [] l = tt
lacks-front k m (n ∷ ns) l = (l.0, lacks-front k m ns l.1)

lacks-last : (k m : ℕ) (ns : List ℕ) → Lacks k (ns ++ m ∷ []) → m ≡ k → ⊥
lacks-last k m [] l = l.0
lacks-last k m (n ∷ ns) l = lacks-last k m ns l.1

pub numbers_have : (n k : ℕ) → k < n → Lacks k (numbers_below n) → ⊥
numbers_have zero k lt l = absurd (omega arith)
numbers_have (suc n) k lt l =
    elim (cases_eq n k) as (λ _. ⊥) [
      | inl same ↦ lacks-last k n (numbers_below n) l same
      | inr other ↦ numbers_have n k (omega (arith, other)) (lacks-front k n (numbers_below n) l)
    ]

-- ---- one number changed

abbrev Off : {X : Type 0} → ℕ → (ℕ → X) → (ℕ → X) → Type 0
Off port before after = (q : ℕ) → (q ≡ port → ⊥) → after q ≡ before q

-- where the list lacks it, all stays
same_off : {X : Type 0} (used now : ℕ → Bool) (f g : ℕ → X) (port : ℕ) (ns : List ℕ) → Lacks port ns → Off port used now → Off port f g
    → map g (filter now ns) ≡ map f (filter used ns)
same_off used now f g port [] l tests kept = refl
same_off used now f g port (n ∷ ns) l tests kept =
    let rest : map g (filter now ns) ≡ map f (filter used ns) = same_off used now f g port ns l.1 tests kept in
    rw (tests n l.0)
    (elim (used n) as (λ b. map g (if b then n ∷ filter now ns else filter now ns) ≡ map f (if b then n ∷ filter used ns else filter used ns)) [
      | true ↦ rw (kept n l.0) (ap (λ xs. f n ∷ xs) rest)
      | false ↦ rest
    ])

lacks_by : (b : Bool) (n : ℕ) (rest : List ℕ) (k place port : ℕ) → (n ≡ k → ⊥)
    → ((p : ℕ) → slice_get rest p ≡ Some port → port ≡ k → ⊥)
    → slice_get (if b then n ∷ rest else rest) place ≡ Some port → port ≡ k → ⊥
lacks_by true n rest k zero port apart ih e same = apart (let first : n ≡ port = cc in first ∙ same)
lacks_by true n rest k (suc place) port apart ih e same = ih place e same
lacks_by false n rest k place port apart ih e same = ih place e same

-- what stands in a part of a list is not what the list lacks
pub lacks_at : (used : ℕ → Bool) (k port : ℕ) (ns : List ℕ) (place : ℕ) → Lacks k ns → slice_get (filter used ns) place ≡ Some port → port ≡ k → ⊥
lacks_at used k port [] place l e same = absurd (cc)
lacks_at used k port (n ∷ ns) place l e same =
    lacks_by (used n) n (filter used ns) k place port l.0 (λ p at is. lacks_at used k port ns p l.1 at is) e same

-- the kept list with one item changed, or gone
abbrev pub with_one : {X : Type 0} → Bool → List X → ℕ → X → List X
with_one stays xs place x = if stays then set xs place x else remove xs place

with_one-suc : {X : Type 0} (stays : Bool) (y x : X) (xs : List X) (place : ℕ)
    → y ∷ with_one stays xs place x ≡ with_one stays (y ∷ xs) (suc place) x
with_one-suc true y x xs place = refl
with_one-suc false y x xs place = refl

with_one-zero : {X : Type 0} (stays : Bool) (y x : X) (xs : List X) → (if stays then x ∷ xs else xs) ≡ with_one stays (y ∷ xs) 0 x
with_one-zero true y x xs = refl
with_one-zero false y x xs = refl

map-cond : {X : Type 0} (g : ℕ → X) (b : Bool) (n : ℕ) (ns : List ℕ) → map g (if b then n ∷ ns else ns) ≡ (if b then g n ∷ map g ns else map g ns)
map-cond g true n ns = refl
map-cond g false n ns = refl

changed_by : {X : Type 0} (used now : ℕ → Bool) (f g : ℕ → X) (port n : ℕ) (ns : List ℕ) (b : Bool) (place : ℕ) → used n ≡ b → Differ (n ∷ ns)
    → slice_get (if b then n ∷ filter used ns else filter used ns) place ≡ Some port → Off port used now → Off port f g
    → ((p : ℕ) → slice_get (filter used ns) p ≡ Some port → map g (filter now ns) ≡ with_one (now port) (map f (filter used ns)) p (g port))
    → map g (filter now (n ∷ ns)) ≡ with_one (now port) (map f (if b then n ∷ filter used ns else filter used ns)) place (g port)
changed_by used now f g port n ns true zero is d at tests kept ih =
    let same : n ≡ port = cc in
    let l : Lacks port ns = subst (λ k. Lacks k ns) same d.0 in
    map-cond g (now n) n (filter now ns)
    ∙ ap (λ xs. if now n then g n ∷ xs else xs) (same_off used now f g port ns l tests kept)
    ∙ ap (λ k. if now k then g k ∷ map f (filter used ns) else map f (filter used ns)) same
    ∙ with_one-zero (now port) (f n) (g port) (map f (filter used ns))
changed_by used now f g port n ns true (suc p) is d at tests kept ih =
    let apart : n ≡ port → ⊥ = λ e. lacks_at used n port ns p d.0 at (sym e) in
    rw (tests n apart, is) (rw (kept n apart)
    (ap (λ xs. f n ∷ xs) (ih p at) ∙ with_one-suc (now port) (f n) (g port) (map f (filter used ns)) p))
changed_by used now f g port n ns false p is d at tests kept ih =
    let apart : n ≡ port → ⊥ = λ e. lacks_at used n port ns p d.0 at (sym e) in
    rw (tests n apart, is) (ih p at)

pub changed : {X : Type 0} (used now : ℕ → Bool) (f g : ℕ → X) (port : ℕ) (ns : List ℕ) (place : ℕ) → Differ ns
    → slice_get (filter used ns) place ≡ Some port → Off port used now → Off port f g
    → map g (filter now ns) ≡ with_one (now port) (map f (filter used ns)) place (g port)
changed used now f g port [] place d at tests kept = absurd (cc)
changed used now f g port (n ∷ ns) place d at tests kept =
    changed_by used now f g port n ns (used n) place refl d at tests kept (λ p found. changed used now f g port ns p d.1 found tests kept)
