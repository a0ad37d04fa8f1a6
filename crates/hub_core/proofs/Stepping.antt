-- A hub's step, from what its machine does.
use Rattle.std.proofs.Common.{◌≡◌, ℕ, ◌+◌, ◌<◌, ◌≤◌, ◌^◌, ◌-◌, min, eqb, leb, Bool, true, false, List, [], ◌∷◌, length, set, get_or, if◌then◌else◌, refl, sym, ap, ◌∙◌, subst, inl, inr, arith, get_or-set_same, get_or-set_other}
use Rattle.std.proofs.lemmas.Bool.{cases_eq, eq-eqb, ne_eqb, le-leb, lt-leb}
use Rattle.std.proofs.lemmas.List.{length-set}
use Rattle.frame_types.specs.Asks.{Ask}
use Rattle.frame_types.specs.Limits.{sessions}
use Rattle.frame_types.specs.Refusals.{history_full}
use Rattle.frame_types.specs.ReplyData.{ReplyData}
use Rattle.frame_types.specs.declared.reply.Body.{Body}
use Rattle.frame_types.specs.declared.reply.Body.TheVariants as body
use Rattle.hub_spec.specs.Past.{PastStep, entries_of}
use Rattle.hub_spec.specs.Answers.{plain}
use Rattle.hub_spec.specs.Histories.{Entry, past_of, choice_of, answer_under, may_choose, is_allowed, IsLegal}
use Rattle.hub_spec.specs.Ports.{version_after}
use Rattle.hub_spec.specs.Ports.{version as history_version}
use Rattle.hub_spec.specs.Runs.{AnswersOneStep}
use Rattle.hub_spec.specs.Giving.{AnswersAfter, Gives, plain_in, with_step}
use Rattle.hub_spec.proofs.Counting.{times_le}
use Rattle.hub_spec.proofs.Folding.{deltas_fold}
use Rattle.hub_core.specs.Holding.{Holds}
use Rattle.hub_core.specs.Standing.{Stands, StandsFor, limit_of}
use Rattle.hub_core.specs.declared.hub.Hub.{Hub}

length-past : (limit : ℕ) (h : List Entry) → length (past_of limit h) ≡ length h
length-past limit [] = refl
length-past limit (e ∷ h) = omega (arith, length-past limit h)

legal_le : (limit : ℕ) (h : List Entry) → IsLegal limit h → length h ≤ limit
legal_le limit [] legal = omega arith
legal_le limit (e ∷ h) legal = omega (arith, legal.1)

same_reply : (n m v w : ℕ) (a b : Body) → n ≡ m → v ≡ w → a ≡ b
    → let x : ReplyData = record { n = n; version = v; body = a } in x ≡ record { n = m; version = w; body = b }
same_reply n m v w a b e f g = cc

-- the number of the step in its session
numbered : (hub : Hub) (h : List Entry) (session n : ℕ) → Stands hub h → session < sessions
    → n ≡ min (get_or hub.counts session 0 + 1) (2 ^ 64 - 1) → n ≡ entries_of (past_of hub.limit h) session + 1
numbered hub h session n s lt is =
    omega (arith, is, s.small, s.counts session lt, times_le (λ d. eqb d.session session) (past_of hub.limit h), length-past hub.limit h, legal_le hub.limit h s.legal)

-- a full history
pub full_steps : (hub : Hub) (h : List Entry) (session n version : ℕ) (request : Ask) → StandsFor hub h → session < sessions → hub.limit ≤ hub.entries
    → ((past : List PastStep) → Holds hub.machine past → version ≡ history_version past) → n ≡ min (get_or hub.counts session 0 + 1) (2 ^ 64 - 1)
    → AnswersOneStep (limit_of hub) h session request (record { n = n; version = version; body = body.Refused (history_full hub.limit) }) (StandsFor hub)
unfolding StandsFor limit_of
full_steps hub h session n version request s lt full now is =
    let past : List PastStep = past_of hub.limit h in
    let size : length past ≡ length h = length-past hub.limit h in
    let no_more : leb hub.limit (length past) ≡ true = le-leb hub.limit (length past) (omega (arith, size, s.entries)) in
    let stays : leb hub.limit (length h) ≡ true = le-leb hub.limit (length h) (omega (arith, s.entries)) in
    record {
      answer = record {
        right = rw no_more (same_reply _ _ _ _ _ _ (numbered hub h session n s lt is) (now past s.machine) refl);
        allowed = refl;
      };
      stands = rw stays s;
      folds = deltas_fold _ _;
    }

-- a session's count after one more of its steps
count_after : (counts : List ℕ) (past : List PastStep) (session other : ℕ) → length counts ≡ sessions → session < sessions
    → get_or counts other 0 ≡ entries_of past other
    → get_or (set counts session (entries_of past session + 1)) other 0 ≡ (if eqb session other then entries_of past other + 1 else entries_of past other)
count_after counts past session other size lt was =
    elim (cases_eq session other) as (λ _. get_or (set counts session (entries_of past session + 1)) other 0
    ≡ (if eqb session other then entries_of past other + 1 else entries_of past other)) [
      | inl same ↦
          let within : session < length counts = omega (arith, size) in
          let At : ℕ → Type 0 = λ x. get_or (set counts session (entries_of past session + 1)) x 0 ≡ (if eqb session x then entries_of past x + 1 else entries_of past x) in
          subst At same (rw (eq-eqb session session refl) (get_or-set_same counts session (entries_of past session + 1) 0 within))
      | inr apart ↦
          let apart_too : other ≡ session → ⊥ = λ e. apart (sym e) in
          rw (ne_eqb session other apart) (get_or-set_other counts session other (entries_of past session + 1) 0 apart_too ∙ was)
    ]

-- a step that is counted
pub counted_steps : (before after : Hub) (h : List Entry) (session n version : ℕ) (request : Ask) (body : Body)
    → StandsFor before h → session < sessions → before.entries < before.limit
    → after.limit ≡ before.limit → after.entries ≡ before.entries + 1 → after.counts ≡ set before.counts session n
    → n ≡ min (get_or before.counts session 0 + 1) (2 ^ 64 - 1)
    → AnswersAfter (Holds before.machine) session request body (Holds after.machine)
    → ((past : List PastStep) → Holds after.machine past → version ≡ history_version past)
    → AnswersOneStep (limit_of before) h session request (record { n = n; version = version; body = body }) (StandsFor after)
unfolding StandsFor limit_of
counted_steps before after h session n version request body s lt room limit entries counts is acts now =
    let past : List PastStep = past_of before.limit h in
    let size : length past ≡ length h = length-past before.limit h in
    let few : length past < 2 ^ 53 = omega (arith, size, s.entries, s.small) in
    let does : Gives past session request body (Holds after.machine) = acts past s.machine few in
    let more : leb before.limit (length past) ≡ false = lt-leb before.limit (length past) (omega (arith, size, s.entries)) in
    let goes_on : leb before.limit (length h) ≡ false = lt-leb before.limit (length h) (omega (arith, s.entries)) in
    let plain_is : plain before.limit past session request ≡ plain_in past session request = rw more refl in
    let right : body ≡ answer_under (choice_of body) (plain before.limit past session request) = does.given.right ∙ ap (answer_under (choice_of body)) (sym plain_is) in
    let allowed : is_allowed before.limit past session request (choice_of body) ≡ true = ap (may_choose past request (choice_of body)) plain_is ∙ does.given.allowed in
    let counted : n ≡ entries_of past session + 1 = numbered before h session n s lt is in
    let held : Holds after.machine (with_step session request (entries_of past session + 1) (version_after past body) body past) = does.holds _ _ in
    let e : Entry = record { session = session; request = request; choice = choice_of body } in
    let IsOf : Body → Type 0 = λ b. Holds after.machine (with_step session request (entries_of past session + 1) (version_after past b) b past) in
    let LegalUnder : ℕ → Type 0 = λ l. IsLegal l (e ∷ h) in
    let HoldsUnder : ℕ → Type 0 = λ l. Holds after.machine (past_of l (e ∷ h)) in
    let legal : IsLegal after.limit (e ∷ h) = subst LegalUnder (sym limit) (s.legal, omega (arith, s.entries), allowed) in
    let machine : Holds after.machine (past_of after.limit (e ∷ h)) = subst HoldsUnder (sym limit) (subst IsOf right held) in
    let one_more : (other : ℕ) → other < sessions → get_or (set before.counts session n) other 0 ≡ entries_of (past_of before.limit (e ∷ h)) other =
    λ other lt_other. ap (λ k. get_or (set before.counts session k) other 0) counted
    ∙ count_after before.counts past session other s.size lt (s.counts other lt_other) in
    let all_counts : (other : ℕ) → other < sessions → get_or after.counts other 0 ≡ entries_of (past_of after.limit (e ∷ h)) other =
    λ other lt_other. ap (λ xs. get_or xs other 0) counts ∙ one_more other lt_other ∙ ap (λ l. entries_of (past_of l (e ∷ h)) other) (sym limit) in
    let small : after.limit < 2 ^ 53 = omega (arith, limit, s.small) in
    let next : Stands after (e ∷ h) = record {
      small = small;
      legal = legal;
      entries = omega (arith, entries, s.entries);
      size = ap length counts ∙ length-set before.counts session n ∙ s.size;
      counts = all_counts;
      machine = machine;
    } in
    record {
      answer = record {
        right = same_reply _ _ _ _ _ _ counted (now _ held ∙ ap (version_after past) right) right;
        allowed = allowed;
      };
      stands = let F : Bool → Type 0 = λ b. Stands after (if b then h else e ∷ h) in subst F (sym goes_on) next;
      folds = deltas_fold _ _;
    }
