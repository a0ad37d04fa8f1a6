-- Histories without a table, and the engine that is made with one.
use Rattle.std.proofs.Common.{◌≡◌, ℕ, eqb, false, List, [], ◌∷◌, length, map, filter, fold, Option, Some, None, Ok, Err, refl, sym, ap, ◌∙◌, subst, arith}
use Rattle.std.specs.Prelude.{is_none, not, ℤ}
use Rattle.cell_core.specs.Schemas.{RefusesSchema, SchemaData, schema_of}
use Rattle.cell_core.specs.declared.schema.ColumnWords.{ColumnWords}
use Rattle.cell_core.specs.declared.schema.Numbers.{Numbers}
use Rattle.cell_core.specs.declared.schema.SchemaCause.{SchemaCause}
use Rattle.cell_core.specs.declared.schema.SchemaRefused.{SchemaRefused}
use Rattle.cell_core.specs.declared.schema.SchemaRefused.TheVariants as faulty
use Rattle.row_batch.specs.Batches.{empty_store}
use Rattle.hub_ports.specs.Ports.{no_ports}
use Rattle.table_core.specs.Tables.{TableData}
use Rattle.frame_types.specs.Asks.{Ask, request_view}
use Rattle.frame_types.specs.Asks as ask
use Rattle.frame_types.specs.Refusals.{bad_schema, memory, no_table}
use Rattle.frame_types.specs.declared.reply.Body.TheVariants as body
use Rattle.frame_types.specs.declared.reply.Refusal.{Refusal}
use Rattle.frame_types.specs.declared.request.Request.{Request}
use Rattle.frame_types.specs.declared.request.Request.TheVariants as request
use Rattle.frame_types.specs.declared.request.FrameCause.{FrameCause}
use Rattle.hub_spec.specs.Past.{PastStep}
use Rattle.hub_spec.specs.Giving.{Gives, IsGiven, plain_in, with_step}
use Rattle.hub_spec.specs.HeldViews.{HeldView}
use Rattle.hub_spec.specs.Ports.{made_schema, numbers_below}
use Rattle.hub_spec.specs.Ports as ports
use Rattle.hub_spec.specs.Rows.{put_applied, schema_or_none}
use Rattle.hub_spec.proofs.Giving.{may_want_table, plain_given}
use Rattle.hub_views.specs.Keeping.{HasNoViews, HoldsViews}
use Rattle.hub_views.specs.declared.views.Views.{Views}
use Rattle.hub_core.specs.Holding.{HoldsParts, HoldsSchema, is_used_by, port_by}
use Rattle.hub_core.proofs.RowOrders.{reordered}

pub nothing_held : HoldsSchema None []
nothing_held = (
  refl,
  record { applied = refl; made = refl; accepted = λ port. refl; taken = λ port. refl; closed = λ port. refl; views = refl; opened = λ session. refl },
)

-- without a table all but these are refused
pub bare_plain : (past : List PastStep) (session : ℕ) (asked : Request) → ports.schema past ≡ None
    → ((columns : List ColumnWords) (index : Option (List ℕ)) (limit : Option ℤ) → asked ≡ request.Table columns index limit → ⊥)
    → (asked ≡ request.Leave → ⊥) → ((why : FrameCause) → asked ≡ request.Unread why → ⊥)
    → plain_in past session (request_view asked) ≡ body.Refused no_table
bare_plain past session (request.Table columns index limit) none table leave unread = absurd (table columns index limit refl)
bare_plain past session request.Leave none table leave unread = absurd (leave refl)
bare_plain past session (request.Unread why) none table leave unread = absurd (unread why refl)
bare_plain past session _ none table leave unread = rw none refl

-- a schema with a fault is refused for its first one
pub bad_plain : (past : List PastStep) (session : ℕ) (columns : List ColumnWords) (index : Option (List ℕ)) (limit : Option ℤ) (refused : SchemaRefused) (why : SchemaCause) (at : Numbers)
    → ports.schema past ≡ None → RefusesSchema (schema_of columns index limit) refused → refused ≡ faulty.Bad why at
    → plain_in past session (ask.table columns index limit) ≡ body.Refused (bad_schema why at)
bad_plain past session columns index limit refused why at none refuses is =
    let first : schema_of columns index limit ≡ Err (faulty.Bad why at) = subst (RefusesSchema (schema_of columns index limit)) is refuses in
    rw (none, first) refl

-- a refusal leaves nothing held, and so does want of memory
pub bare_refused : (past : List PastStep) (session : ℕ) (asked : Ask) (why : Refusal) → HoldsSchema None past → eqb why.code 22 ≡ false
    → plain_in past session asked ≡ body.Refused why → Gives past session asked (body.Refused why) (HoldsSchema None)
bare_refused past session asked why h other is = record { given = plain_given past session asked (body.Refused why) (rw other refl) is; holds = λ n at. h }

pub bare_wanted : (past : List PastStep) (session : ℕ) (columns : List ColumnWords) (index : Option (List ℕ)) (limit : Option ℤ) → HoldsSchema None past
    → Gives past session (ask.table columns index limit) (body.Refused memory) (HoldsSchema None)
bare_wanted past session columns index limit h = record {
  given = record { right = refl; allowed = may_want_table past session columns index limit };
  holds = λ n at. h;
}

pub left_bare : (made : Option SchemaData) (past : List PastStep) (session n at closed : ℕ) (asked : Ask) → HoldsSchema made past
    → HoldsSchema made (with_step session asked n at (body.Left closed) past)
left_bare made past session n at closed asked h = (
  h.0,
  record {
    applied = h.1.applied;
    made = h.1.made;
    accepted = h.1.accepted;
    taken = h.1.taken;
    closed = h.1.closed;
    views = ap (filter (λ (v : HeldView). not (eqb v.session session))) h.1.views;
    opened = h.1.opened;
  },
)

pub table_is_made : (past : List PastStep) (session n at : ℕ) (columns : List ColumnWords) (index : Option (List ℕ)) (limit : Option ℤ) (schema : SchemaData)
    → HoldsSchema None past → schema_of columns index limit ≡ Ok schema
    → HoldsSchema (Some schema) (with_step session (ask.table columns index limit) n at body.Table past)
table_is_made past session n at columns index limit schema h is = (ap (λ r. made_schema r (ports.schema past)) is, h.1)

pub left_given : (past : List PastStep) (session : ℕ) → HoldsSchema None past → IsGiven past session ask.leave (body.Left 0)
left_given past session h = plain_given past session ask.leave (body.Left 0) refl (ap (λ (vs : List HeldView). body.Left (length (filter (λ v. eqb v.session session) vs))) h.1.views)

-- what a new engine holds
pub fresh_holds : (t : TableData) (v : Views) (past : List PastStep) → HoldsSchema (Some t.schema) past → t.store ≡ empty_store
    → (HasNoViews past → HoldsViews v t past) → HoldsParts t 0 no_ports v past
fresh_holds t v past h store views =
    let e = h.1 in
    record {
      table = record {
        schema = h.0;
        rows = reordered _ t.store (ap (fold (put_applied (schema_or_none past)) empty_store) e.applied ∙ sym store);
        number = sym (ap length e.applied);
      };
      ports = record {
        made = sym e.made;
        live = sym (ap (λ n. map (port_by (ports.batches_accepted past) (ports.taken_count past) (ports.is_closed past)) (filter (is_used_by (ports.batches_accepted past) (ports.taken_count past) (ports.is_closed past)) (numbers_below n))) e.made);
        within = λ port. omega (arith, e.taken port);
        unmade = λ port le. (e.accepted port, e.closed port);
      };
      views = views (record { made = ap is_none h.0; views = e.views; opened = e.opened });
    }
