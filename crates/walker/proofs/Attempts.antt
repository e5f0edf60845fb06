-- What `attempt` and `walk_on` promise, from what the functions promise that they call.
-- Assumes nothing.
use Rattle.std.specs.Prelude.{Option, Some, None, is_some}
use Prim.Native.Nat.{ℕ, ◌+◌, ◌-◌, ◌*◌, ◌/◌, ◌%◌, ◌<◌, ◌≤◌}
use mathlib.Core.Path.{◌≡◌, sym, ap, ◌∙◌, subst}
use mathlib.Core.Bool.{Bool, true, false}
use mathlib.Core.List.{List, [], ◌∷◌, ◌++◌}
use native.Mathlib.Omega.{arith}
use Rattle.lists.proofs.Tabulate.{length_tabulate}
use Rattle.job.specs.Job.{Job}
use Rattle.timeline.specs.Step.{Step, step_of, strictly_rising}
use Rattle.timeline.proofs.Tests.{not_both}
use Rattle.tables.specs.Tables.{pushed}
use Rattle.tables.specs.declared.Frame.{Frame}
use Rattle.tables.specs.declared.Steps.{Steps}
use Rattle.leaf.specs.Order.{placed, in_order}
use Rattle.listing.specs.Listed.{Listed}
use Rattle.listing.specs.Begins.{Begins}
use Rattle.walker.specs.declared.walk.Walk.{Walk}
use Rattle.walker.specs.Walk.{HeldAt, Forward, DayOf, Kept, Rising, RightBehind, NoneBegins, NeedsAllow}
use Rattle.walker.specs.Walk.{StepsAllow, SearchAllows, Walked, none_left, Visits, Attempts, Walks}
use Rattle.tails.specs.Tails.{TailTable}
use Rattle.walker.proofs.Walking.{begins_when_own, Met, met_first, met_next, met_found, met_all, met_full}
use Rattle.walker.proofs.Walking.{none_yet, rising_next, kept_of_next, in_order_next, right_behind_next}
use Rattle.walker.proofs.Walking.{ends_with_next, held_next, none_walked, none_by_needs}

-- ---- one place
module _ (file sets numbers times : List ℕ) (frame : Frame) (steps : Steps) (kept : Kept frame steps)
    (facts place left : ℕ) where
  abbrev Beginning : Job → List Step
  Beginning J = in_order J steps ++ (step_of J (place % 64) (place / 64) ∷ [])

  pub attempt_lacks_needs : (tails : List ℕ) → TailTable sets numbers frame.actions frame.goal tails
      → (start : ℕ) → start ≡ place / 64 → (test : Bool) → test ≡ false
      → NeedsAllow sets numbers tails frame.actions frame.horizon facts (place % 64) start test
      → (r : Walk) → r ≡ none_left left → Attempts file sets numbers times frame steps facts place left r
  attempt_lacks_needs tails table start same test fails allow r e J day rising from right after holds =
      none_walked J frame.goal frame.horizon (Begins (Beginning J)) left r e
      (λ P listed begins.
      none_by_needs J file sets numbers times frame day steps (place % 64) (place / 64) P listed begins tails table facts
      (subst (λ (u : ℕ). NeedsAllow sets numbers tails frame.actions frame.horizon facts (place % 64) u false) same
      (subst (NeedsAllow sets numbers tails frame.actions frame.horizon facts (place % 64) start) fails allow))
      holds)

  -- the steps with that of the place, where the code makes them
  module _ (room : steps.count < 32) (known : place % 64 < frame.actions) (small : place / 64 < 65536)
      (start : ℕ) (same : start ≡ place / 64) (made : Steps) (is : made ≡ pushed steps (place % 64) start) where
    abbrev next : Steps
    next = pushed steps (place % 64) (place / 64)

    made_is : made ≡ next
    made_is = is ∙ ap (pushed steps (place % 64)) same

    ordered : (J : Job) → in_order J next ≡ Beginning J
    ordered J = in_order_next J frame steps kept room place known small

    none_begins_so : (J : Job) → NoneBegins J frame next → (P : List Step) → Listed J frame.goal P
        → Begins (Beginning J) P → ⊥
    none_begins_so J none P listed begins =
        none P listed (subst (λ (K : List Step). Begins K P) (sym (ordered J)) begins)

    pub attempt_is_barren : (tails : List ℕ) → TailTable sets numbers frame.actions frame.goal tails
        → (test : Bool) → test ≡ false → StepsAllow file sets numbers tails frame made test → (r : Walk)
        → r ≡ none_left left → Attempts file sets numbers times frame steps facts place left r
    attempt_is_barren tails table test fails allow r e J day rising from right after holds =
        none_walked J frame.goal frame.horizon (Begins (Beginning J)) left r e
        (none_begins_so J
        (subst (λ (s : Steps). StepsAllow file sets numbers tails frame s test) made_is allow fails J day.asked
        day.task.described table (kept_of_next frame steps kept room place known small)))

    module _ (J : Job) (day : DayOf J file sets numbers times frame) (rising : Rising J steps) (from : ℕ)
        (right : RightBehind J steps from) (after : from ≤ place) where
      risen : Rising J next
      risen =
          subst (λ (K : List Step). strictly_rising K ≡ true) (sym (ordered J))
          (rising_next J frame day.asked.passed.few_actions day.asked.actions steps kept rising from right place
          after)

    pub attempt_finds_none : (test : Bool) → test ≡ false
        → SearchAllows file sets numbers times frame made start (place % 64) test
        → (r : Walk) → r ≡ none_left left → Attempts file sets numbers times frame steps facts place left r
    attempt_finds_none test fails allow r e J day rising from right after holds =
        none_walked J frame.goal frame.horizon (Begins (Beginning J)) left r e
        (none_begins_so J
        (subst (λ (s : Steps). SearchAllows file sets numbers times frame s (place / 64) (place % 64) test) made_is
        (subst (λ (u : ℕ). SearchAllows file sets numbers times frame made u (place % 64) test) same allow)
        fails J day (risen J day rising from right after)
        (ends_with_next J frame steps kept room place known small)))

    pub attempt_walks_on : (r : Walk) → Walks file sets numbers times frame made facts (place + 1) left r
        → Attempts file sets numbers times frame steps facts place left r
    attempt_walks_on r walks J day rising from right after holds =
        let d = day.task.described.each (place % 64) known in
        subst (λ (K : List Step). Walked J frame.goal frame.horizon (Begins K) left r) (ordered J)
        (subst (λ (s : Steps). Walks file sets numbers times frame s facts (place + 1) left r) made_is walks J day (risen J day rising from right after)
        (right_behind_next J frame steps kept room place known small)
        (held_next J frame steps kept room place known small d.positive facts holds))

-- ---- all places
-- what the loop has met, and what then holds
abbrev pub MetFrom : List ℕ → List ℕ → List ℕ → List ℕ → Frame → Steps → ℕ → ℕ → ℕ → Walk → ℕ → ℕ → Type 0
MetFrom file sets numbers times frame steps facts from left w now place =
    (J : Job) → DayOf J file sets numbers times frame → Rising J steps → RightBehind J steps from
    → HeldAt J steps ((from - 1) / 64) facts
    → Met J frame.goal (in_order J steps) place left w.left × HeldAt J steps ((place - 1) / 64) now

module _ (file sets numbers times : List ℕ) (frame : Frame) (steps : Steps) (kept : Kept frame steps)
    (facts from left : ℕ) where
  -- the steps themselves
  module _ (own : Walk) (visits : Visits file frame steps left own) where
    pub walk_is_own : is_some own.answer ≡ true → Walks file sets numbers times frame steps facts from left own
    walk_is_own e J day rising right holds =
        let w = visits J day.asked kept rising in
        record {
          found = λ a f.
              let r = w.found a f in
              (r.0, begins_when_own J frame.goal frame.horizon (in_order J steps) left r.0 r.1, r.2);
          none = λ f. let z = rw f at e in cc;
        }

    module _ (none : own.answer ≡ None) where
      pub walk_is_full : 32 ≤ steps.count → Walks file sets numbers times frame steps facts from left own
      walk_is_full full J day rising right holds =
          let w = (visits J day.asked kept rising).none none in
          let n = length_tabulate steps.count (placed J steps) in
          record {
            found = λ a f. cc;
            none = λ f.
                met_full J file frame day.asked (in_order J steps) left (omega arith) w.0 w.1 own.left
                w.2;
          }

      pub meets_first : MetFrom file sets numbers times frame steps facts from left own facts from
      meets_first J day rising right holds =
          let w = (visits J day.asked kept rising).none none in (
            met_first J file frame day.asked (in_order J steps) left w.0 w.1 own.left w.2 from
                (none_yet J frame day.asked.passed.few_actions day.asked.actions steps kept rising from right
                frame.goal),
            holds,
          )

  -- one place further
  module _ (w : Walk) (now place : ℕ) (met : MetFrom file sets numbers times frame steps facts from left w now place)
      (after : from ≤ place) (then : ℕ) (forward : Forward sets numbers frame.actions steps place now then)
      (r : Walk) (attempts : Attempts file sets numbers times frame steps then place w.left r) where
    module _ (J : Job) (day : DayOf J file sets numbers times frame) (rising : Rising J steps)
        (right : RightBehind J steps from) (holds : HeldAt J steps ((from - 1) / 64) facts) where
      held_now : HeldAt J steps (place / 64) then
      held_now = forward J day.task.described.each (met J day rising right holds).1

      tried : Walked J frame.goal frame.horizon
          (Begins (in_order J steps ++ (step_of J (place % 64) (place / 64) ∷ []))) w.left r
      tried = attempts J day rising from right after held_now

    pub meets_next : r.answer ≡ None
        → MetFrom file sets numbers times frame steps facts from left r then (place + 1)
    meets_next e J day rising right holds =
        let t = (tried J day rising right holds).none e in
        let z : place + 1 - 1 ≡ place = omega arith in (
          met_next J file frame day.asked (in_order J steps) left place w.left (met J day rising right holds).0
              t.0 t.1 r.left t.2,
          rw z (held_now J day rising right holds),
        )

    pub walk_finds : is_some r.answer ≡ true → Walks file sets numbers times frame steps facts from left r
    walk_finds e J day rising right holds =
        record {
          found = λ a f.
              let t = (tried J day rising right holds).found a f in (
                t.0,
                met_found J file frame day.asked (in_order J steps) left place w.left
                    (met J day rising right holds).0 t.0 t.1,
                t.2,
              );
          none = λ f. let z = rw f at e in cc;
        }

  pub walk_ends : (w : Walk) (now place : ℕ) → w.answer ≡ None
      → MetFrom file sets numbers times frame steps facts from left w now place → frame.horizon * 64 ≤ place
      → Walks file sets numbers times frame steps facts from left w
  walk_ends w now place e met l J day rising right holds =
      record {
        found = λ a f. cc;
        none = λ f.
            met_all J file frame day.asked (in_order J steps) left place w.left (met J day rising right holds).0 l;
      }
