-- The adders of a clique share no minute, so they take at most the minutes there are; and the dead end by that.
-- Assumes nothing.
use Prim.Native.Nat.{ℕ, zero, suc, ◌+◌, ◌-◌, ◌<◌, ◌≤◌, min, max}
use mathlib.Core.Path.{◌≡◌, sym, ap}
use mathlib.Core.Bool.{true}
use mathlib.Core.Logic.{◌⊎◌, inl, inr, ⊎_elim}
use mathlib.Core.List.{List, [], ◌∷◌, ◌++◌, append_assoc}
use native.Mathlib.Omega.{arith}
use lib.ListN.{length, get_or}
use borrow.Author.Tests.{not-true, ltb-false, ne_eqb}
use Rattle.lists.proofs.Below.{below_none}
use Rattle.facts.specs.FactSet.{has, difference, Subset}
use Rattle.facts.proofs.SetLaws.{in_union_cases}
use Rattle.job.specs.Job.{Job}
use Rattle.timeline.specs.Step.{Step, total}
use Rattle.timeline.specs.From.{From, IsNew}
use Rattle.timeline.specs.Timeline.{held}
use Rattle.timeline.specs.Places.{Place, EachStep}
use Rattle.timeline.specs.Keeps.{PlanOf}
use Rattle.timeline.proofs.Tests.{not_both, or_neither, le_or_lt}
use Rattle.timeline.proofs.Places.{split_place, place_append, each_cons, length_place, total_zero}
use Rattle.timeline.proofs.NewSteps.{new_from_minute, new_both_from_minute}
use Rattle.times.specs.Earliest.{action_of}
use Rattle.times.proofs.PlanSteps.{Paired, own_action, own_stop, needs_at_lem}
use Rattle.times.proofs.PlanSteps.{paired_when_shared}
use Rattle.regression.specs.Tests.{must_hold}
use Rattle.regression.specs.DeadEnd.{Until, Dead}
use Rattle.regression.proofs.TailTests.{must_hold_holds}
use Rattle.landmarks.specs.Landmarks.{marks_of}
use Rattle.landmarks.specs.Bounds.{AddedByNew}
use Rattle.cliques.specs.Cliques.{NeverHolds, NeverOverlap, Cliques, Taken, none_taken, one_more}
use Rattle.landmarks.proofs.AddedOnTheWay.{AddedIn}
use Rattle.landmarks.proofs.DeadEnds.{added_in_rest}

-- ---- steps that share no minute
abbrev Apart : Step → Step → Type 0
Apart x y = (x.stop ≤ y.start) ⊎ (y.stop ≤ x.start)

-- x shares no minute with a step of E that adds p
abbrev Beside : List Step → ℕ → Step → Type 0
Beside E p x = (y : Step) (R : List Step) → Place y R E → has y.action.adds p ≡ true → Apart x y

-- the minutes of a step before t, and whether it runs in minute m, 1 or 0
abbrev before : ℕ → Step → ℕ
before t x = min x.stop t - x.start

abbrev runs : ℕ → Step → ℕ
runs m x = min x.stop (suc m) - max x.start m

-- at most one of the steps runs in a minute, also with one more that is apart from them
one_runs_more : (m : ℕ) (x : Step) (Z : List Step) → EachStep (λ y. Apart y x) Z → total (runs m) Z ≤ 1
    → total (runs m) (x ∷ Z) ≤ 1
one_runs_more m x Z apart one =
    ⊎_elim (λ idle. omega arith)
    (λ busy.
    let others = total_zero (runs m) Z
    (λ y Q i. ⊎_elim (λ e. omega arith) (λ e. omega arith) (apart y Q i)) in
    omega arith)
    (le_or_lt (runs m x) 0)

one_minute_on : (t : ℕ) (Z : List Step) → total (before (suc t)) Z ≤ total (before t) Z + total (runs t) Z
one_minute_on t [] = omega arith
one_minute_on t (x ∷ Z) =
    let rest = one_minute_on t Z in
    let here : before (suc t) x ≤ before t x + runs t x = omega arith in
    omega arith

minutes_within : (b n : ℕ) (Z : List Step) → EachStep (λ x. b ≤ x.start) Z → ((m : ℕ) → total (runs m) Z ≤ 1)
    → total (before (b + n)) Z ≤ n
minutes_within b zero Z late one =
    let none = total_zero (before (b + zero)) Z (λ x Q i. let l = late x Q i in omega arith) in omega arith
minutes_within b (suc n) Z late one =
    let rest = minutes_within b n Z late one in
    let more = one_minute_on (b + n) Z in
    let here = one (b + n) in
    let same : b + suc n ≡ suc (b + n) = omega arith in
    rw same (omega arith)

each_of_none : (F : Step → Type 0) → EachStep F []
each_of_none F x Q i = let one = length_place i in absurd (omega arith)

-- ---- adders of facts that are apart
-- a step that starts at minute b or later, and stops by minute t
abbrev Within : ℕ → ℕ → Step → Type 0
Within b t x = (b ≤ x.start) × (x.start < x.stop) × (x.stop ≤ t)

module _ (J : Job) (b t goal T : ℕ) (E L K : List Step) (plan : PlanOf J T goal (E ++ L))
    (until : EachStep (Within b t) E)
    (never_holds : (set : ℕ) → NeverHolds J b K set → (m : ℕ) → b ≤ m → Subset set (held J.start (E ++ L) m) → ⊥)
  where
    abbrev use_of : ℕ → ℕ → ℕ
    use_of i pool = get_or (action_of J i).pools pool 0

    not_paired : (x y : Step) (m : ℕ) → b ≤ m → NeverOverlap J b K x.number y.number → Paired J x y
        → Subset (action_of J x.number).needs (held J.start (E ++ L) m)
        → Subset (action_of J y.number).needs (held J.start (E ++ L) m) → ⊥
    not_paired x y m after never paired needs needs_too =
        ⊎_elim
        (λ clash.
        not_both clash
        (or_neither (ne_eqb x.number y.number paired.different)
        (or_neither paired.spares paired.spared)))
        (⊎_elim
        (λ exceeds.
        let inside = exceeds.1 in
        let more = exceeds.2 in
        let fits : use_of x.number exceeds.0 + use_of y.number exceeds.0 ≤ get_or J.pools exceeds.0 0 =
        ltb-false _ _ (below_none (length J.pools) _ (not-true _ paired.fits) exceeds.0 inside) in
        omega arith)
        (λ apart.
        never_holds _ apart m after
        (λ n h. ⊎_elim (needs n) (needs_too n) (in_union_cases (action_of J x.number).needs _ n h))))
        never.why

    never_shared : {x y : Step} {Q R : List Step} → Place x Q E → Place y R E
        → NeverOverlap J b K x.number y.number
        → Apart x y
    never_shared {x} {y} {Q} {R} i j never =
        ⊎_elim (λ e. inl e)
        (λ late.
        ⊎_elim (λ e. inr e)
        (λ early.
        ⊎_elim (λ same. absurd (never.different (sym (ap (λ (z : Step). z.number) same))))
        (λ other.
        let first = (until x Q i).1 in
        let second = (until y R j).1 in
        let m : ℕ = max x.start y.start in
        let here = place_append L i in
        absurd
        (not_paired x y m (let begins = (until x Q i).0 in omega arith) never
        (paired_when_shared J T goal (E ++ L) plan here (place_append L other.1) m (omega arith) (omega arith)
        (omega arith) (omega arith))
        (needs_at_lem J T goal (E ++ L) plan here m (omega arith) (omega arith))
        (needs_at_lem J T goal (E ++ L) plan (place_append L j) m (omega arith) (omega arith))))
        (split_place i j))
        (le_or_lt y.stop x.start))
        (le_or_lt x.stop y.start)

    -- steps of E that share no minute and take so many minutes; each adder of an allowed fact is apart from them
    record Found (allowed minutes : ℕ) : Type 0 where
      pub steps : List Step
      pub late : EachStep (λ x. b ≤ x.start) steps
      pub one : (m : ℕ) → total (runs m) steps ≤ 1
      pub long : minutes ≤ total (before t) steps
      pub apart : (p : ℕ) → has allowed p ≡ true → EachStep (Beside E p) steps

    module _ (n : ℕ) (from_facts least : ℕ → ℕ) (cliques : Cliques J b K n from_facts least) where
      adders_apart : {x y : Step} {Q R : List Step} (q p : ℕ) → Place x Q E → Place y R E → q < n
          → has (from_facts q) p ≡ true → has x.action.adds q ≡ true → has y.action.adds p ≡ true → Apart x y
      adders_apart {x} {y} {Q} {R} q p i j below member first second =
          let in_plan = place_append L i in
          let in_plan_too = place_append L j in
          never_shared i j
          (cliques.exclusive q p x.number y.number below member (plan.known x _ in_plan)
          (plan.known y _ in_plan_too)
          (rw (own_action J T goal (E ++ L) plan in_plan) at first)
          (rw (own_action J T goal (E ++ L) plan in_plan_too) at second))

      lasts_least : {x : Step} {Q : List Step} (q : ℕ) → Place x Q E → q < n → has x.action.adds q ≡ true
          → least q ≤ before t x
      lasts_least {x} {Q} q i below adds =
          let in_plan = place_append L i in
          let adds_own = rw (own_action J T goal (E ++ L) plan in_plan) at adds in
          let short = cliques.shortest q x.number below (plan.known x _ in_plan) adds_own in
          let lasts = own_stop J T goal (E ++ L) plan in_plan in
          let early = (until x Q i).2 in
          omega arith

      found_more : (allowed minutes q rest : ℕ) → Found allowed minutes → AddedIn E t q → q < n → has allowed q ≡ true
          → Subset rest allowed → Subset rest (from_facts q) → Found rest (least q + minutes)
      found_more allowed minutes q rest found added below member inside beside =
          let x : Step = added.by in
          let long = found.long in
          let lasts = lasts_least q added.place below added.adds in
          record {
            steps = x ∷ found.steps;
            late = each_cons (λ y. b ≤ y.start) x found.steps (until x _ added.place).0 found.late;
            one = λ m.
                one_runs_more m x found.steps
                (λ y Q i. found.apart q member y Q i x _ added.place added.adds) (found.one m);
            long = omega arith;
            apart = λ p h.
                each_cons (Beside E p) x found.steps
                (λ y R j adds. adders_apart q p added.place j below (beside p h) added.adds adds)
                (found.apart p (inside p h));
          }

      module _ (set : ℕ) (marked : (p : ℕ) → has set p ≡ true → AddedIn E t p) where
        found_when_taken : (allowed minutes : ℕ) → Taken n from_facts least set allowed minutes
            → Found allowed minutes × Subset allowed set
        found_when_taken _ _ none_taken = (
          record {
            steps = [];
            late = each_of_none (λ x. b ≤ x.start);
            one = λ m. omega arith;
            long = omega arith;
            apart = λ p h. each_of_none (Beside E p);
          },
          λ p h. h,
        )
        found_when_taken _ _ (one_more {allowed} {minutes} taken q rest below member inside beside) =
            let r = found_when_taken allowed minutes taken in (
              found_more allowed minutes q rest r.0 (marked q (r.1 q member)) below member inside beside,
              λ p h. r.1 p (inside p h),
            )

        pub clique_within : b ≤ t → (allowed minutes : ℕ) → Taken n from_facts least set allowed minutes
            → minutes ≤ t - b
        clique_within after allowed minutes taken =
            let found = (found_when_taken allowed minutes taken).0 in
            let within = minutes_within b (t - b) found.steps found.late found.one in
            let all : b + (t - b) ≡ t = omega arith in
            let long = found.long in
            let same : total (before (b + (t - b))) found.steps ≡ total (before t) found.steps =
            ap (λ (m : ℕ). total (before m) found.steps) all in
            omega arith

-- chosen steps beside the kept ones
pub never_beside_chosen : (J : Job) (b : From) (t goal T : ℕ) (C K : List Step) → b.minute ≤ T → EachStep (IsNew b) C
    → (E : List Step) → EachStep (Until b t) E → PlanOf J T goal (E ++ (C ++ K)) → (set : ℕ)
    → NeverHolds J b.minute K set → (m : ℕ) → b.minute ≤ m → Subset set (held J.start (E ++ (C ++ K)) m) → ⊥
never_beside_chosen J b t goal T C K in_time new E until plan set never m after holds =
    never T goal in_time (E ++ C) (new_both_from_minute b E C (λ x Q i. (until x Q i).0) new) (rw append_assoc plan) m
    after (rw append_assoc holds)

-- what must hold at minute t has landmarks whose adders take more minutes than there are
pub dead_when_clique_too_long : (J : Job) (b : From) (goal T t : ℕ) → b.minute ≤ t → t ≤ T → (C K : List Step)
    → EachStep (λ x. t < x.stop) C → EachStep (IsNew b) C → (given hand n : ℕ) (marks : ℕ → ℕ)
    → AddedByNew J b.minute K given hand n marks → (apart least : ℕ → ℕ) → Cliques J b.minute K n apart least
    → (rest minutes : ℕ)
    → Taken n apart least (difference (marks_of marks n (must_hold goal T (C ++ K) t)) given) rest minutes
    → t - b.minute < minutes → Dead J b goal T (Until b t) (C ++ K)
dead_when_clique_too_long J b goal T t after in_time C K later new given hand n marks added apart least cliques rest
    minutes taken exceeds E until normal =
    let brought = added_in_rest J b goal T t C K later new given hand n marks added E until normal.plan
    (must_hold goal T (C ++ K) t) after
    (must_hold_holds J goal T E (C ++ K) normal.plan.keeps t (λ x Q i. (until x Q i).2) t (omega arith) in_time) in
    let within = clique_within J b.minute t goal T E (C ++ K) K normal.plan
    (λ x Q i. let u = until x Q i in (new_from_minute b x u.0, u.1, u.2))
    (never_beside_chosen J b t goal T C K (omega arith) new E until normal.plan) n apart least cliques _
    (λ p h. (brought p h).0) after rest minutes taken in
    omega arith
