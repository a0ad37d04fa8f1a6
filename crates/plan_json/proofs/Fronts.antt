-- What was found, before what the rest gives.
use Rattle.std.proofs.Common.{◌≡◌, ℕ, suc, ◌+◌, ◌<◌, ◌≤◌, List, [], ◌∷◌, ◌++◌, length, get_or, drop, map, Option, Some, None, option_map, refl, sym, ap, ◌∙◌, append_assoc, append-nil, drop-cons, add-one}
use Rattle.std.proofs.lemmas.List.{drop_all, map-append}
use Rattle.cell_core.specs.RawData.{RawData, RawMembers, raw_member}
use Rattle.cell_core.specs.RawViews.{raw_view, items_of}
use Rattle.cell_core.specs.declared.raw.Raw.{Raw}
use Rattle.plan_json.specs.Names.{named}
use Rattle.plan_json.specs.Reading.{each, in_front, text_of, texts_in}
use Rattle.plan_json.specs.declared.named.NamedText.{NamedText}

abbrev pub with_front : {X : Type 0} → List X → Option (List X) → Option (List X)
with_front found rest = option_map (λ xs. found ++ xs) rest

-- one more was found
pub with_front-push : {X : Type 0} (found : List X) (x : X) (rest : Option (List X)) → with_front (found ++ x ∷ []) rest ≡ with_front found (in_front (Some x) rest)
with_front-push found x None = refl
with_front-push found x (Some rest) = ap Some (append_assoc found (x ∷ []) rest)

-- the values that are left, with the first of them in front
left : {A : Type 0} (values : List A) (i : ℕ) (a : A) → i < length values → a ≡ get_or values i a → drop i values ≡ a ∷ drop (i + 1) values
left values i a h is = rw add-one (drop-cons values i a h ∙ ap (λ x. x ∷ drop (suc i) values) (sym is))

abbrev pub each_of : {X : Type 0} → (RawData → Option X) → List Raw → Option (List X)
each_of form values = each form (items_of (map raw_view values))

-- the next value is of the form
pub front-push : {X : Type 0} (form : RawData → Option X) (values : List Raw) (i : ℕ) (v : Raw) (found : List X) (x : X) (whole : Option (List X))
    → i < length values → v ≡ get_or values i v → form (raw_view v) ≡ Some x → with_front found (each_of form (drop i values)) ≡ whole
    → with_front (found ++ x ∷ []) (each_of form (drop (i + 1) values)) ≡ whole
front-push form values i v found x whole h is good so =
    with_front-push found x (each_of form (drop (i + 1) values))
    ∙ ap (λ first. with_front found (in_front first (each_of form (drop (i + 1) values)))) (sym good)
    ∙ ap (λ vs. with_front found (each_of form vs)) (sym (left values i v h is)) ∙ so

-- or it is not
pub front-none : {X : Type 0} (form : RawData → Option X) (values : List Raw) (i : ℕ) (v : Raw) (found : List X) (whole : Option (List X))
    → i < length values → v ≡ get_or values i v → form (raw_view v) ≡ None → with_front found (each_of form (drop i values)) ≡ whole → whole ≡ None
front-none form values i v found whole h is bad so =
    sym so ∙ ap (λ vs. with_front found (each_of form vs)) (left values i v h is)
    ∙ ap (λ first. with_front found (in_front first (each_of form (drop (i + 1) values)))) bad

-- nothing is left
pub front-end : {X : Type 0} (form : RawData → Option X) (values : List Raw) (i : ℕ) (found : List X) (whole : Option (List X))
    → length values ≤ i → with_front found (each_of form (drop i values)) ≡ whole → whole ≡ Some found
front-end form values i found whole h so =
    sym so ∙ ap (λ vs. with_front found (each_of form vs)) (drop_all i values h) ∙ ap Some (append-nil found)

-- ---- texts under names

-- the next member has a text
pub text-push : (found : List NamedText) (name : List ℕ) (d : RawData) (more : RawMembers) (text : List ℕ) (whole : Option (List NamedText))
    → text_of d ≡ Some text → with_front found (texts_in (raw_member name d more)) ≡ whole → with_front (found ++ named name text ∷ []) (texts_in more) ≡ whole
text-push found name d more text whole read so =
    with_front-push found (named name text) (texts_in more)
    ∙ ap (λ o. with_front found (in_front (option_map (named name) o) (texts_in more))) (sym read) ∙ so

-- and its name comes behind those before it
pub name-push : (found : List NamedText) (x : NamedText) (more whole : List (List ℕ)) → map (λ n. n.name) found ++ x.name ∷ more ≡ whole
    → map (λ n. n.name) (found ++ x ∷ []) ++ more ≡ whole
name-push found x more whole h =
    ap (λ names. names ++ more) (map-append (λ (n : NamedText). n.name) found (x ∷ [])) ∙ append_assoc (map (λ n. n.name) found) (x.name ∷ []) more ∙ h
