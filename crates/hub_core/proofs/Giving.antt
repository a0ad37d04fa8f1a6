-- What is given after a history that an engine holds.
use Rattle.std.proofs.Common.{◌≡◌, ℕ, eqb, false, List, [], ◌∷◌, ◌++◌, Option, Some, None, ◌⊎◌, inl, inr, refl, sym, ap, ◌∙◌, subst}
use Rattle.std.specs.Prelude.{is_none}
use Rattle.frame_types.specs.Asks.{Ask}
use Rattle.frame_types.specs.Refusals.{memory, no_table}
use Rattle.frame_types.specs.ReplyData.{EndsAt}
use Rattle.frame_types.specs.declared.reply.Body.{Body}
use Rattle.frame_types.specs.declared.reply.Body.TheVariants as body
use Rattle.frame_types.specs.declared.reply.Refusal.{Refusal}
use Rattle.hub_ports.specs.Ports.{PortsData}
use Rattle.table_core.specs.Tables.{TableData}
use Rattle.hub_spec.specs.Past.{PastStep}
use Rattle.hub_spec.specs.Answers.{first_of, refused_if, unless_refused, without_table}
use Rattle.hub_spec.specs.Giving.{Gives, IsOfViews, plain_in, with_step}
use Rattle.hub_spec.specs.Ports.{schema}
use Rattle.hub_spec.proofs.Giving.{TakesMemory, may_want, plain_given}
use Rattle.hub_views.specs.Keeping.{HoldsViews}
use Rattle.hub_views.specs.Tables.{HoldsTable}
use Rattle.hub_views.specs.declared.views.Views.{Views}
use Rattle.hub_views.proofs.KeptViews.{views_stay}
use Rattle.hub_core.specs.Holding.{HoldsParts, HoldsPorts}
use Rattle.hub_core.specs.Refusing.{IsFirst, first_refusal}

-- ---- lists of tests of which the first are known

first_of-append : (checks rest : List (Option Refusal)) (granted : Body) → first_of (checks ++ rest) granted ≡ unless_refused (first_refusal checks) (first_of rest granted)
first_of-append [] rest granted = refl
first_of-append (None ∷ checks) rest granted = first_of-append checks rest granted
first_of-append (Some why ∷ checks) rest granted = refl

pub passed : (checks rest : List (Option Refusal)) (granted : Body) → first_refusal checks ≡ None → first_of (checks ++ rest) granted ≡ first_of rest granted
passed checks rest granted none = first_of-append checks rest granted ∙ ap (λ o. unless_refused o (first_of rest granted)) none

stopped : (checks rest : List (Option Refusal)) (granted : Body) (why : Refusal) → first_refusal checks ≡ Some why → first_of (checks ++ rest) granted ≡ body.Refused why
stopped checks rest granted why is = first_of-append checks rest granted ∙ ap (λ o. unless_refused o (first_of rest granted)) is

pub first_none : (check : Option Refusal) (checks : List (Option Refusal)) → first_refusal (check ∷ checks) ≡ None → check ≡ None
first_none None checks none = refl
first_none (Some why) checks none = none

pub behind_table : (past : List PastStep) (rest : List (Option Refusal)) (granted : Body) → is_none (schema past) ≡ false
    → first_of (without_table past ∷ rest) granted ≡ first_of rest granted
behind_table past rest granted made = ap (λ b. first_of (refused_if b no_table ∷ rest) granted) made

-- ---- refusals

refused_stays : (t : TableData) (version : ℕ) (kept : PortsData) (v : Views) (past : List PastStep) (session n at : ℕ) (request : Ask) (why : Refusal)
    → HoldsParts t version kept v past → HoldsParts t version kept v (with_step session request n at (body.Refused why) past)
refused_stays t version kept v past session n at request why h =
    record { table = h.table; ports = h.ports; views = views_stay v t past session n at request (body.Refused why) refl h.views }

-- a refusal other than for want of memory is the plain answer
pub refused_gives : (t : TableData) (version : ℕ) (kept : PortsData) (v : Views) (past : List PastStep) (session : ℕ) (request : Ask) (why : Refusal)
    → HoldsParts t version kept v past → plain_in past session request ≡ body.Refused why → eqb why.code 22 ≡ false
    → Gives past session request (body.Refused why) (HoldsParts t version kept v)
refused_gives t version kept v past session request why h is other = record {
  given = plain_given past session request (body.Refused why) (rw other refl) is;
  holds = λ n at. refused_stays t version kept v past session n at request why h;
}

-- memory may be wanted by each request that takes some
pub wanted_gives : (t : TableData) (version : ℕ) (kept : PortsData) (v : Views) (past : List PastStep) (session : ℕ) (request : Ask)
    → HoldsParts t version kept v past → TakesMemory request → Gives past session request (body.Refused memory) (HoldsParts t version kept v)
wanted_gives t version kept v past session request h takes = record {
  given = record { right = refl; allowed = may_want past session request takes (ap is_none h.table.schema) };
  holds = λ n at. refused_stays t version kept v past session n at request memory h;
}

-- ports that are those of an engine, under another name
pub ports_are : (t : TableData) (version : ℕ) (kept now : PortsData) (v : Views) (past : List PastStep) (session : ℕ) (request : Ask) (answer : Body)
    → now ≡ kept → Gives past session request answer (HoldsParts t version kept v) → Gives past session request answer (HoldsParts t version now v)
ports_are t version kept now v past session request answer same gives =
    subst (λ k. Gives past session request answer (HoldsParts t version k v)) (sym same) gives

-- what tests refuse
pub first_gives : (t : TableData) (version : ℕ) (kept : PortsData) (v : Views) (past : List PastStep) (session : ℕ) (request : Ask) (checks rest : List (Option Refusal)) (granted : Body) (why : Refusal)
    → HoldsParts t version kept v past → plain_in past session request ≡ first_of (checks ++ rest) granted → IsFirst checks why
    → Gives past session request (body.Refused why) (HoldsParts t version kept v)
first_gives t version kept v past session request checks rest granted why h plain first =
    refused_gives t version kept v past session request why h (plain ∙ stopped checks rest granted why first.0) first.1

pub tested_gives : (t : TableData) (version : ℕ) (kept : PortsData) (v : Views) (past : List PastStep) (session : ℕ) (request : Ask) (checks rest : List (Option Refusal)) (granted : Body) (why : Refusal)
    → HoldsParts t version kept v past → TakesMemory request → plain_in past session request ≡ first_of (checks ++ rest) granted
    → IsFirst checks why ⊎ (why ≡ memory)
    → Gives past session request (body.Refused why) (HoldsParts t version kept v)
tested_gives t version kept v past session request checks rest granted why h takes plain tested =
    elim tested [
      | inl first ↦ first_gives t version kept v past session request checks rest granted why h plain first
      | inr want ↦
          subst (λ w. Gives past session request (body.Refused w) (HoldsParts t version kept v)) (sym want)
          (wanted_gives t version kept v past session request h takes)
    ]

-- ---- answers about views

table_stays : (t : TableData) (version : ℕ) (kept : PortsData) (past : List PastStep) (session n at of : ℕ) (request : Ask) (answer : Body) → IsOfViews of answer
    → HoldsTable t version past → HoldsPorts kept past
    → HoldsTable t version (with_step session request n at answer past) × HoldsPorts kept (with_step session request n at answer past)
table_stays t version kept past session n at of request (body.Opened edit shown view) is table ports = (table, ports)
table_stays t version kept past session n at of request (body.Edited edit view) is table ports = (table, ports)
table_stays t version kept past session n at of request (body.Delta delta view) is table ports = (table, ports)
table_stays t version kept past session n at of request (body.Resync bound edit shown view) is table ports = (table, ports)
table_stays t version kept past session n at of request (body.Rows edit start shown size view) is table ports = (table, ports)
table_stays t version kept past session n at of request (body.Closed view) is table ports = (table, ports)
table_stays t version kept past session n at of request (body.Left closed) is table ports = (table, ports)
table_stays t version kept past session n at of request (body.Refused why) is table ports = (table, ports)
table_stays t version kept past session n at of request _ is table ports = absurd is

-- the table and the ports stay where an answer is about views
pub views_give : (t : TableData) (version : ℕ) (kept : PortsData) (before after : Views) (past : List PastStep) (session of : ℕ) (request : Ask) (answer : Body)
    → HoldsParts t version kept before past → IsOfViews of answer → Gives past session request answer (HoldsViews after t)
    → Gives past session request answer (HoldsParts t version kept after)
views_give t version kept before after past session of request answer h about gives = record {
  given = gives.given;
  holds = λ n at.
      let stay = table_stays t version kept past session n at of request answer about h.table h.ports in
      record { table = stay.0; ports = stay.1; views = gives.holds n at };
}

-- a delta in such an answer ends at the version
pub views_end : (version : ℕ) (answer : Body) → IsOfViews version answer → EndsAt version answer
views_end version (body.Delta delta view) about = about
views_end version _ about = tt
