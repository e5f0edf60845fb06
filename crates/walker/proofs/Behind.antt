-- The tables of a whole day serve every search for plans that begin with some steps; where it finds none, no listed plan
-- begins with them.
-- Assumes nothing.
use Prim.Native.Nat.{ℕ, ◌+◌}
use mathlib.Core.Path.{◌≡◌, refl, sym, ap, ◌∙◌, subst}
use mathlib.Core.Bool.{Bool, true, cond}
use mathlib.Core.Logic.{inl, inr, ⊎_elim}
use mathlib.Core.List.{List, [], ◌∷◌, ◌++◌, append-nil}
use native.Mathlib.Omega.{arith}
use Rattle.facts.specs.FactSet.{Subset}
use Rattle.facts.proofs.Membership.{has_zero}
use Rattle.job.specs.Job.{Job}
use Rattle.timeline.specs.Step.{Step, step_of, steps_in, plan_bytes, strictly_rising}
use Rattle.timeline.specs.From.{From, IsNew, IsKept, is_kept}
use Rattle.timeline.specs.Timeline.{end, held}
use Rattle.timeline.specs.Places.{here, EachStep}
use Rattle.timeline.specs.Keeps.{PlanOf}
use Rattle.timeline.proofs.Tests.{not_both, false_unless}
use Rattle.timeline.proofs.Places.{append_cases, place_append, place_after, each_rest, each_cons, each_step}
use Rattle.timeline.proofs.NewSteps.{not_new_and_kept, is_kept_reads, is_kept_when}
use Rattle.timeline.proofs.Rising.{before_reads}
use Rattle.landmarks.specs.Bounds.{TimesBound, AddedByNew}
use Rattle.landmarks.specs.Openings.{OpensAt, open_at}
use Rattle.landmarks.specs.Tables.{mark_at}
use Rattle.cliques.specs.Cliques.{NeverHolds, Cliques, apart_at, least_at}
use Rattle.tables.specs.Tables.{chosen, chosen_to, kept_of}
use Rattle.tables.specs.declared.Frame.{Frame}
use Rattle.tables.specs.declared.Steps.{Steps}
use Rattle.leaf.specs.Order.{in_order}
use Rattle.search.specs.Search.{steps_before, CountsFor, TaskOf}
use Rattle.search.specs.Horizons.{NoneBy}
use Rattle.listing.proofs.Walk.{listed_rising}
use Rattle.listing.proofs.RisingParts.{rising_after}
use Rattle.walker.specs.Walk.{behind, DayOf, Rising, EndsWith, NoneBegins}

-- ---- of the whole day, so of every beginning
module _ (J : Job) (b : ℕ) (K : List Step) where
  -- the steps of a plan that begins with K are steps of a plan of the whole day
  whole_plan : (T goal : ℕ) (N : List Step) → PlanOf J T goal (N ++ K) → PlanOf J T goal ((N ++ K) ++ [])
  whole_plan T goal N = subst (PlanOf J T goal) (sym (append-nil (N ++ K)))

  whole_holds : (N : List Step) (set m : ℕ) → Subset set (held J.start (N ++ K) m)
      → Subset set (held J.start ((N ++ K) ++ []) m)
  whole_holds N set m = subst (λ (P : List Step). Subset set (held J.start P m)) (sym (append-nil (N ++ K)))

  times_behind : (origin : ℕ) (times : List ℕ) → TimesBound J 0 [] origin times → TimesBound J b K origin times
  times_behind origin times bound T goal l N new plan set m after holds =
      bound T goal (omega arith) (N ++ K) (λ x Q i. omega arith) (whole_plan T goal N plan) set m (omega arith)
      (whole_holds N set m holds)

  marks_behind : (given hand n : ℕ) (marks : ℕ → ℕ) → EachStep (λ x. Subset x.action.adds given) K
      → AddedByNew J 0 [] 0 hand n marks → AddedByNew J b K given hand n marks
  marks_behind given hand n marks adds added T goal N new plan set t after holds p mark free =
      let a = added T goal (N ++ K) (λ x Q i. omega arith) (whole_plan T goal N plan) set t (omega arith)
      (whole_holds N set t holds) p mark (has_zero p) in (
        ⊎_elim (λ r. (a.0.0, r.0, r.1, a.0.3, a.0.4))
            (λ r. not_both (adds a.0.0 r.0 r.1 p a.0.4) free)
            (append_cases N K a.0.2),
        a.1,
      )

  opens_behind : (pool minute : ℕ) → OpensAt J 0 [] pool minute → OpensAt J b K pool minute
  opens_behind pool minute opens T goal E new plan x Q i =
      opens T goal (E ++ K) (λ y R j. omega arith) (whole_plan T goal E plan) x (Q ++ K) (place_append K i)

  never_behind : (set : ℕ) → NeverHolds J 0 [] set → NeverHolds J b K set
  never_behind set never T goal l N new plan m after holds =
      never T goal (omega arith) (N ++ K) (λ x Q i. omega arith) (whole_plan T goal N plan) m (omega arith)
      (whole_holds N set m holds)

  cliques_behind : (n : ℕ) (apart least : ℕ → ℕ) → Cliques J 0 [] n apart least → Cliques J b K n apart least
  cliques_behind n apart least c =
      record {
        exclusive = λ q p i j l h k m a d.
            let o = c.exclusive q p i j l h k m a d in
            record {
              different = o.different;
              why = ⊎_elim (λ e. inl e) (⊎_elim (λ e. inr (inl e)) (λ e. inr (inr (never_behind _ e)))) o.why;
            };
        shortest = c.shortest;
      }

module _ (J : Job) (file sets numbers times : List ℕ) (frame : Frame) (day : DayOf J file sets numbers times frame)
    (steps : Steps) (given start number : ℕ) where
  nothing_kept : kept_of J frame ≡ []
  nothing_kept = ap (chosen_to J frame.kept) day.whole.none

  -- what holds of the frame's first minute and kept steps holds of minute 0 and no steps
  whole : (F : ℕ → List Step → Type 0) → F frame.first (kept_of J frame) → F 0 []
  whole F h =
      subst (λ (m : ℕ). F m []) day.whole.first
      (subst (F frame.first) nothing_kept h)

  pub task_behind : EachStep (λ x. Subset x.action.adds given) (chosen J steps)
      → TaskOf J file sets numbers times (behind frame steps given start number)
  task_behind adds =
      let task = day.task in
      let d = task.described in
      let m = task.marked in
      let K : List Step = chosen J steps in
      record {
        in_file = task.in_file;
        described = record {
          facts = d.facts;
          actions = d.actions;
          pools = d.pools;
          stores = d.stores;
          available = d.available;
          stocks = d.stocks;
          handovers = d.handovers;
          in_time = d.in_time;
          each = d.each;
        };
        timely = times_behind J start K frame.origin times
            (whole (λ b L. TimesBound J b L frame.origin times) task.timely);
        goal = task.goal;
        marked = record {
          hand = m.hand;
          landmarks =
              marks_behind J start K given m.hand 64 (mark_at sets) adds
              (subst (λ (g : ℕ). AddedByNew J 0 [] g m.hand 64 (mark_at sets)) day.whole.given
              (whole (λ b L. AddedByNew J b L frame.given m.hand 64 (mark_at sets)) m.landmarks));
          stores = m.stores;
          pools = m.pools;
          steps = m.steps;
          opens = λ pool few inside.
              let opening = open_at numbers pool + frame.origin in
              opens_behind J start K pool opening (whole (λ b L. OpensAt J b L pool opening) (m.opens pool few inside));
          cliques =
              cliques_behind J start K 64 (apart_at sets) (least_at numbers)
              (whole (λ b L. Cliques J b L 64 (apart_at sets) (least_at numbers)) m.cliques);
        };
      }

-- ---- a plan that begins with the steps counts
module _ (b : From) where
  none_before : (N : List Step) → EachStep (IsNew b) N → steps_before b N ≡ []
  none_before [] new = refl
  none_before (x ∷ N) new =
      let none = false_unless (is_kept b x) (λ k. not_new_and_kept b x (new x N here) (is_kept_reads b x k)) in
      ap (λ (t : Bool). cond t (x ∷ steps_before b N) (steps_before b N)) none
      ∙ none_before N (each_rest (IsNew b) x N new)

  before_new : (K N : List Step) → EachStep (IsKept b) K → EachStep (IsNew b) N → steps_before b (K ++ N) ≡ K
  before_new [] N kept new = none_before N new
  before_new (x ∷ K) N kept new =
      ap (λ (t : Bool). cond t (x ∷ steps_before b (K ++ N)) (steps_before b (K ++ N)))
      (is_kept_when b x (kept x K here))
      ∙ ap (λ (P : List Step). x ∷ P) (before_new K N (each_rest (IsKept b) x K kept) new)

module _ (J : Job) (start number : ℕ) (first : List Step) where
  abbrev here_place : From
  here_place = record { minute = start; number = number + 1 }

  abbrev last : Step
  last = step_of J number start

  kept_up_to : strictly_rising (first ++ (last ∷ [])) ≡ true → EachStep (IsKept here_place) (first ++ (last ∷ []))
  kept_up_to rising x Q i =
      ⊎_elim
      (λ r.
      ⊎_elim (λ l. inl l) (λ l. let n = l.1 in inr (l.0, omega arith))
      (before_reads x last (rising_after first (last ∷ []) rising last [] here x r.0 r.1)))
      (λ r.
      each_cons (IsKept here_place) last [] (inr (refl, omega arith)) (each_step (IsKept here_place) [] tt) x r.0
      r.1)
      (append_cases first (last ∷ []) i)

  new_behind : (N : List Step) → strictly_rising ((first ++ (last ∷ [])) ++ N) ≡ true → EachStep (IsNew here_place) N
  new_behind N rising y Q i =
      ⊎_elim (λ l. inl l) (λ l. let n = l.1 in inr (sym l.0, omega arith))
      (before_reads last y
      (rising_after (first ++ (last ∷ [])) N rising y Q i last (first ++ []) (place_after first here)))

pub none_begins_by_search : (J : Job) (file sets numbers times : List ℕ) (frame : Frame)
    → DayOf J file sets numbers times frame → (steps : Steps) (given start number : ℕ)
    → NoneBy J (behind frame steps given start number) → Rising J steps → EndsWith J steps number start
    → NoneBegins J frame steps
none_begins_by_search J file sets numbers times frame day steps given start number none rising ends P listed begins =
    let K : List Step = in_order J steps in
    let N : List Step = begins.0 in
    let first : List Step = ends.0 in
    let b : From = here_place J start number first in
    let risen : strictly_rising (K ++ N) ≡ true
    = subst (λ (Q : List Step). strictly_rising Q ≡ true) begins.1 (listed_rising J frame.goal listed) in
    let kept : EachStep (IsKept b) K = subst (EachStep (IsKept b)) (sym ends.1)
    (kept_up_to J start number first (subst (λ (Q : List Step). strictly_rising Q ≡ true) ends.1 rising)) in
    let new : EachStep (IsNew b) N = new_behind J start number first N
    (subst (λ (Q : List Step). strictly_rising (Q ++ N) ≡ true) ends.1 risen) in
    let counts : CountsFor J (behind frame steps given start number) (plan_bytes P)
    = ap (steps_before b) (listed.in_bytes ∙ begins.1) ∙ before_new b K N kept new in
    let late = none (plan_bytes P) listed.accepted counts in
    let same : end (steps_in J (plan_bytes P)) ≡ end P = ap end listed.in_bytes in
    let shortest = day.asked.shortest.plan in
    let least = listed.least shortest.0 shortest.1 in
    let e = shortest.2 in
    omega arith
