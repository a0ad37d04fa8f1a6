-- What is given where a port is made or closed, and where a batch is queued.
use Rattle.std.proofs.Common.{◌≡◌, ℕ, ◌+◌, ◌<◌, leb, Bool, false, List, [], ◌∷◌, ◌++◌, length, Some, None, refl, sym, ap, ◌∙◌, subst}
use Rattle.std.specs.Prelude.{is_none}
use Rattle.std.proofs.lemmas.List.{length-map}
use Rattle.row_batch.specs.declared.batch.Batch.{Batch}
use Rattle.hub_ports.specs.Ports.{PortsData, closed_at, port_at, put_on, with_port}
use Rattle.table_core.specs.Tables.{TableData}
use Rattle.frame_types.specs.Asks.{Ask}
use Rattle.frame_types.specs.Asks as ask
use Rattle.frame_types.specs.Refusals.{too_many_ports}
use Rattle.frame_types.specs.declared.reply.Body.TheVariants as body
use Rattle.hub_spec.specs.Past.{PastStep}
use Rattle.hub_spec.specs.Answers.{closed_port, first_of, queued, refused_if, without_port}
use Rattle.hub_spec.specs.Giving.{Gives, plain_in, with_step}
use Rattle.hub_spec.specs.Limits.{max_ports}
use Rattle.hub_spec.specs.Ports as ports
use Rattle.hub_spec.specs.Reading.{batch_asked}
use Rattle.hub_spec.proofs.Giving.{plain_given}
use Rattle.hub_views.specs.declared.views.Views.{Views}
use Rattle.hub_views.proofs.KeptViews.{views_stay}
use Rattle.hub_core.specs.Holding.{HoldsParts, HoldsPorts, kept_port}
use Rattle.hub_core.specs.Refusing.{first_refusal}
use Rattle.hub_core.proofs.Giving.{behind_table, passed}
use Rattle.hub_core.proofs.Live.{port_is}
use Rattle.hub_core.proofs.PortChanges.{closed_ports, made_ports, queued_ports}

-- ---- a port is made

pub port_plain : (t : TableData) (version : ℕ) (kept : PortsData) (v : Views) (past : List PastStep) (session : ℕ) (full : Bool) → HoldsParts t version kept v past
    → leb max_ports (length kept.live) ≡ full → plain_in past session ask.port ≡ first_of (refused_if full too_many_ports ∷ []) (body.Port (ports.ports past))
port_plain t version kept v past session full h is =
    let count : length (ports.used_ports past) ≡ length kept.live = sym (ap length h.ports.live ∙ length-map (ports.used_ports past) (kept_port past)) in
    let many : leb max_ports (length (ports.used_ports past)) ≡ full = ap (leb max_ports) count ∙ is in
    rw (h.table.schema, many) refl

pub made_gives : (t : TableData) (version : ℕ) (kept : PortsData) (v : Views) (past : List PastStep) (session : ℕ) → HoldsParts t version kept v past
    → leb max_ports (length kept.live) ≡ false → Gives past session ask.port (body.Port kept.made) (HoldsParts t version (with_port kept) v)
made_gives t version kept v past session h free = record {
  given = plain_given past session ask.port (body.Port kept.made) refl (port_plain t version kept v past session false h free ∙ ap body.Port (sym h.ports.made));
  holds = λ n at. record {
    table = h.table;
    ports = made_ports kept past session ask.port n at kept.made h.ports;
    views = views_stay v t past session n at ask.port (body.Port kept.made) refl h.views;
  };
}

-- ---- a port is closed

pub close_plain : (t : TableData) (version : ℕ) (kept : PortsData) (v : Views) (past : List PastStep) (session port : ℕ) → HoldsParts t version kept v past
    → plain_in past session (ask.close_port port) ≡ first_of ((without_port past port ∷ closed_port past port ∷ []) ++ []) (body.PortClosed port)
close_plain t version kept v past session port h =
    behind_table past (without_port past port ∷ closed_port past port ∷ []) (body.PortClosed port) (ap is_none h.table.schema)

pub closed_gives : (t : TableData) (version : ℕ) (kept : PortsData) (v : Views) (past : List PastStep) (session port place : ℕ) → HoldsParts t version kept v past
    → place < length kept.live → (port_at kept.live place).number ≡ port → first_refusal (without_port past port ∷ closed_port past port ∷ []) ≡ None
    → Gives past session (ask.close_port port) (body.PortClosed port) (HoldsParts t version (record kept { live = closed_at kept.live place }) v)
closed_gives t version kept v past session port place h lt number is_open = record {
  given = plain_given past session (ask.close_port port) (body.PortClosed port) refl
      (close_plain t version kept v past session port h ∙ passed (without_port past port ∷ closed_port past port ∷ []) [] (body.PortClosed port) is_open);
  holds = λ n at. record {
    table = h.table;
    ports = subst (λ p. HoldsPorts (record kept { live = closed_at kept.live place }) (with_step session (ask.close_port port) n at (body.PortClosed p) past)) number
        (closed_ports kept past session (ask.close_port port) n at place h.ports lt);
    views = views_stay v t past session n at (ask.close_port port) (body.PortClosed port) refl h.views;
  };
}

-- ---- a batch is queued

pub queued_gives : (t : TableData) (version : ℕ) (kept : PortsData) (v : Views) (past : List PastStep) (session port place seq : ℕ) (request : Ask) (b : Batch)
    → HoldsParts t version kept v past → place < length kept.live → (port_at kept.live place).number ≡ port → (port_at kept.live place).queue.closed ≡ false
    → batch_asked (ports.schema past) request ≡ Some b → seq ≡ (port_at kept.live place).queue.accepted + 1 → plain_in past session request ≡ queued past port
    → Gives past session request (body.Queued port seq) (HoldsParts t version (record kept { live = put_on kept.live place b }) v)
queued_gives t version kept v past session port place seq request b h lt number is_open asked next plain =
    let count : (port_at kept.live place).queue.accepted ≡ length (ports.batches_accepted past port) =
    ap (λ p. p.queue.accepted) (port_is past kept place h.ports lt).0 ∙ ap (λ k. length (ports.batches_accepted past k)) number in
    record {
      given = plain_given past session request (body.Queued port seq) refl (plain ∙ ap (body.Queued port) (sym (next ∙ ap (λ k. k + 1) count)));
      holds = λ n at. record {
        table = h.table;
        ports = subst (λ p. HoldsPorts (record kept { live = put_on kept.live place b }) (with_step session request n at (body.Queued p seq) past)) number
            (queued_ports kept past session request n at place seq b h.ports lt is_open asked);
        views = views_stay v t past session n at request (body.Queued port seq) refl h.views;
      };
    }
